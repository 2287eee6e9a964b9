-- A step of another library leaves what a library was given.
use Rattle.trio_laws.proofs.Words.{◌&&◌, ◌∙◌, ◌≡◌, Bool, Bundle, Ends, GivenTo, GrantKind, HasGrant, HasNoRead, Hold, Image, In, Kept, LibNo, List, None, OpenGrant, Option, Row, Some, State, WasAllotted, and_left, and_parts, ap, arith, both_ways, cond, creds_of, eqb, eqb-true, false, false_from_ne_true, is_accepted, is_among, is_among-In, is_hold, is_in_bundle, is_parent_written, is_parted, is_written, lent_part, lib_at, lib_at-others, ne_eqb, next, not, out_after, parted_hold, refl, refused_image, row_at, row_by, settled, sheet_numbers, some_of, sym, true, ℕ}
use Rattle.trio_laws.proofs.Accepting.{stays_then, row_then}
use Rattle.trio_laws.proofs.Bundles.{Closed, unparted_at, unparted_from}
use Rattle.trio_laws.proofs.Ended.{grant_before, grant_after}

-- what a step leaves of the grants and outs of a library
pub record LeavesTo (s s' : State) (lib : ℕ) : Type 0 where
  pub grants : (g : OpenGrant) → In g s.open_grants → g.lib ≡ lib → (h : OpenGrant) × In h s'.open_grants × (lent_part g ≡ lent_part h)
  pub none_new : (h : OpenGrant) → In h s'.open_grants → h.lib ≡ lib → (g : OpenGrant) × In g s.open_grants × (lent_part h ≡ lent_part g)
  pub pages : (n : ℕ) → WasAllotted s.pages_out lib n → WasAllotted s'.pages_out lib n
  pub numbers : (n : ℕ) → WasAllotted s.numbers_out lib n → WasAllotted s'.numbers_out lib n
  pub parents : (g : OpenGrant) (q : Row) → In g s.open_grants → g.lib ≡ lib → row_at s'.home g.ino ≡ Some q → (r : Row) × (row_at s.home g.ino ≡ Some r) × (r.parent ≡ q.parent)

-- then a grant of the library stays
pub has_grant_stays : (s s' : State) (lib ino : ℕ) (kind : GrantKind) → LeavesTo s s' lib → HasGrant s lib ino kind → HasGrant s' lib ino kind
has_grant_stays s s' lib ino kind l g =
    let h = l.grants g.grant g.is_open g.lib in
    record {
      grant = h.0;
      is_open = h.1;
      lib = ap (λ (x : OpenGrant). x.lib) (sym h.2) ∙ g.lib;
      kind = ap (λ (x : OpenGrant). x.kind) (sym h.2) ∙ g.kind;
      ino = ap (λ (x : OpenGrant). x.ino) (sym h.2) ∙ g.ino;
    }

-- what was given stays given
pub given_stays : (s s' : State) (lib : ℕ) (b : Bundle) → GivenTo s lib b → LeavesTo s s' lib → GivenTo s' lib b
given_stays s s' lib b given l = record {
  writes = λ w i.
      let g = given.writes w i in
      let h = l.grants g.grant g.is_open g.lib in
      record {
        grant = h.0;
        is_open = h.1;
        lib = ap (λ (x : OpenGrant). x.lib) (sym h.2) ∙ g.lib;
        kind = ap (λ (x : OpenGrant). x.kind) (sym h.2) ∙ g.kind;
        ino = ap (λ (x : OpenGrant). x.ino) (sym h.2) ∙ g.ino;
        of = ap (λ (x : OpenGrant). x.of) (sym h.2) ∙ g.of;
        index = g.index ∙ ap (λ (x : OpenGrant). sheet_numbers x.index) h.2;
        blocks = g.blocks ∙ ap (λ (x : OpenGrant). sheet_numbers x.blocks) h.2;
      };
  holds = λ n i. has_grant_stays s s' lib n Hold l (given.holds n i);
  pages = λ n i. l.pages n (given.pages n i);
  numbers = λ n i. l.numbers n (given.numbers n i);
  full = given.full;
  writes_once = given.writes_once;
  holds_once = given.holds_once;
  pages_once = given.pages_once;
  numbers_once = given.numbers_once;
}

-- a library without a read grant still has none
pub no_read_stays : (s s' : State) (lib : ℕ) → HasNoRead s lib → LeavesTo s s' lib → HasNoRead s' lib
no_read_stays s s' lib none l h i mine kind =
    let g = l.none_new h i mine in
    none g.0 g.1 (ap (λ (x : OpenGrant). x.lib) (sym g.2) ∙ mine) (ap (λ (x : OpenGrant). x.kind) (sym g.2) ∙ kind)

-- a bundle that is closed stays closed
pub unparted_stays : (s s' : State) (lib : ℕ) (b : Bundle) → Kept s' → LeavesTo s s' lib → parted_hold s lib b ≡ None → parted_hold s' lib b ≡ None
unparted_stays s s' lib b k' l none =
    unparted_from s' lib b
    (λ h i.
    false_from_ne_true (is_parted s' lib b h)
    (λ t.
    let own = and_parts (eqb h.lib lib && is_hold h.kind) (cond (is_among h.ino b.holds) (not (is_parent_written b (row_at s'.home h.ino))) (is_parent_written b (row_at s'.home h.ino))) t in
    let mine : h.lib ≡ lib = eqb-true h.lib lib (and_parts (eqb h.lib lib) (is_hold h.kind) own.0).0 in
    let n = l.none_new h i mine in
    let g : OpenGrant = n.0 in
    let part : lent_part h ≡ lent_part g = n.2 in
    let q = some_of (row_at s'.home h.ino) (k'.live h i) in
    let at : h.ino ≡ g.ino = ap (λ (x : OpenGrant). x.ino) part in
    let r = l.parents g q.0 n.1 (ap (λ (x : OpenGrant). x.lib) (sym part) ∙ mine) (ap (row_at s'.home) (sym at) ∙ q.1) in
    let P : OpenGrant → Bool → Bool = λ x w. eqb x.lib lib && is_hold x.kind && cond (is_among x.ino b.holds) (not w) w in
    let written : is_parent_written b (row_at s.home g.ino) ≡ is_parent_written b (row_at s'.home h.ino) =
    ap (is_parent_written b) r.1 ∙ ap (is_written b) r.2 ∙ ap (is_parent_written b) (sym q.1) in
    let same : P g (is_parent_written b (row_at s.home g.ino)) ≡ P h (is_parent_written b (row_at s'.home h.ino)) =
    ap (λ (x : OpenGrant). P x (is_parent_written b (row_at s.home g.ino))) (sym part) ∙ ap (P h) written in
    both_ways (is_parted s lib b g) (unparted_at s lib b g none n.1) (same ∙ t)))

-- what the end of another library's bundle takes is that library's own
outs_stay : (outs : List (Option LibNo)) (these : List ℕ) (lib other n : ℕ) → ((m : ℕ) → In m these → WasAllotted outs other m) → (lib ≡ other → ⊥) → WasAllotted outs lib n → WasAllotted (out_after outs these) lib n
outs_stay outs these lib other n theirs apart mine = search (arith, lib_at-others, false_from_ne_true, is_among-In)

-- the end of another library's bundle, with rows whose parents stay
pub ends_leaves : (s s' : State) (k : Kept s) (lib other : ℕ) (b : Bundle) (given : GivenTo s other b) (image' : Image) (e : Ends s other b image' s') → (lib ≡ other → ⊥) → ((g : OpenGrant) (q : Row) → In g s.open_grants → is_in_bundle other b g ≡ false → row_at s'.home g.ino ≡ Some q → (r : Row) × (row_at s.home g.ino ≡ Some r) × (r.parent ≡ q.parent)) → LeavesTo s s' lib
ends_leaves s s' k lib other b given image' e apart parents =
    let out : (g : OpenGrant) → g.lib ≡ lib → is_in_bundle other b g ≡ false =
    λ g mine. and_left (eqb g.lib other) _ (ne_eqb g.lib other (λ t. apart (sym mine ∙ t))) in
    record {
      grants = λ g i mine. grant_after s s' k other b given image' e g i (out g mine);
      none_new = λ h i mine. (let r = grant_before s s' k other b given image' e h i in (r.0, r.1, r.3));
      pages = λ n mine. ap (λ l. lib_at l n) e.pages ∙ outs_stay s.pages_out (sheet_numbers b.pages) lib other n given.pages apart mine;
      numbers = λ n mine. ap (λ l. lib_at l n) e.numbers ∙ outs_stay s.numbers_out b.numbers lib other n given.numbers apart mine;
      parents = λ g q i mine row. parents g q i (out g mine) row;
    }

-- a refused bundle of another library
pub refused_leaves : (s s' : State) (k : Kept s) (lib other : ℕ) (b : Bundle) (given : GivenTo s other b) (e : Ends s other b (refused_image (settled s) b) s') → (lib ≡ other → ⊥) → LeavesTo s s' lib
refused_leaves s s' k lib other b given e apart =
    ends_leaves s s' k lib other b given (refused_image (settled s) b) e apart
    (λ g q i out row. (q, sym (ap (λ (x : Image). row_at x g.ino) e.settles) ∙ row, refl))

-- an accepted bundle of another library
pub accepted_leaves : (s s' : State) (k : Kept s) (lib other : ℕ) (b : Bundle) (given : GivenTo s other b) → Closed s other b → is_accepted (settled s) (creds_of s other) b ≡ true → (e : Ends s other b (next (settled s) b) s') → (lib ≡ other → ⊥) → LeavesTo s s' lib
accepted_leaves s s' k lib other b given closed accepted e apart =
    ends_leaves s s' k lib other b given (next (settled s) b) e apart
    (λ g q i out row.
    let r = some_of (row_at s.home g.ino) (k.live g i) in
    let st = stays_then s s' k other (creds_of s other) b given closed accepted e g i out r.0 r.1 in
    let now = row_then s s' k other (creds_of s other) b given closed accepted e g.ino r.0 st in
    let same : Some (row_by st.met st.file.body) ≡ Some q = sym now ∙ row in
    let same' : row_by st.met st.file.body ≡ q = cc same in
    (r.0, r.1, (ap (λ (x : Row). x.parent) st.row) ∙ ap (λ (x : Row). x.parent) same'))
