-- A change of mode keeps what holds of a state.
use Rattle.trio_laws.proofs.Words.{BadMode, Bool, Busy, CtlAnswer, Image, In, In-right, IsFit, Kept, LentIsListed, List, Met, ModeFault, None, NotOwner, OpenGrant, Option, Pages, Row, SetMode, Sheet, Some, State, Step, Verifies, Write, [], ap, arith, body_put, body_with_mode, child_from, child_placed, children, cond, creds_of, eqb-false, eqb-true, false, flat_map, flat_map-In, get_or-set_other, has_parent_grant, holder_of, image_with_mode, inl, inr, is_some, met_other, mode_body_other, mode_fault, mode_file, mode_fit, mode_verifies, moded_to, ne_eqb, not-false, option_map, or_cases, or_parts, page_of, page_same, pages_are, pages_of, plain, put_on, refl, root_or_listed, row_at, row_with_mode, settled, settled_body, sheet_numbers, slice_get, slice_set, some_of, subst, survey, sym, true, with_bodies-get, with_pages, with_pages_apart, ℕ, ◌∙◌, ◌∷◌, ◌≡◌, ◌≤◌, ◌⊎◌, ◌++◌, slice_index_or}
use Rattle.std.proofs.lemmas.List.{set_comm}
use Rattle.std.proofs.lemmas.Bool.{ltb-false}
use Rattle.trio_laws.proofs.Accepting.{absent_map}
use Rattle.trio_laws.proofs.Bundles.{in_numbers}
use Rattle.trio_laws.proofs.Cases.{after_no_mode}
use Rattle.trio_laws.proofs.Grants.{none_passes, logged_kept}
use Rattle.trio_surveys.proofs.SheetLaws.{page_at, get-set_other}
use Rattle.trio_laws.proofs.StateFacts.{live_met, lent_file, checkpoint_lent}
use Rattle.trio_layout.specs.Accept.{with_body_in}

pub with_pages_set : (ss : List Sheet) (pages : Pages) (k : ℕ) (x : Option (List ℕ)) → (In k (sheet_numbers ss) → ⊥) → with_pages ss (slice_set pages k x) ≡ slice_set (with_pages ss pages) k x
with_pages_set [] pages k x h = refl
with_pages_set (s ∷ ss) pages k x h =
    ap (with_pages ss) (set_comm pages k s.page x (Some s.bytes) (λ e. h (inl e)))
    ∙ with_pages_set ss (slice_set pages s.page (Some s.bytes)) k x (λ i. h (inr i))

-- a page with a body put in its place
pub body_put-get : (r : Row) (body : List ℕ) (pages : Pages) (p : ℕ) → (f : List ℕ → List ℕ) × (slice_get (body_put (Some r) body pages) p ≡ option_map (option_map f) (slice_get pages p))
body_put-get r body pages p =
    let m : Met = record { ino = 0; kind = r.kind; parent = r.parent; page = r.page; slot = r.slot; body = body } in
    let other : (x : Met) → In x (m ∷ []) → x.ino ≡ 1 → ⊥ = search arith in
    (put_on p (m ∷ []), with_bodies-get p (m ∷ []) pages other)

module _ (s : State) (k : Kept s) (n mode : ℕ) (r : Row) (row : row_at s.home n ≡ Some r) (small : mode ≤ 511) (other : n ≡ 1 → ⊥) (free : (g : OpenGrant) → In g s.open_grants → (g.ino ≡ n → ⊥) × (g.ino ≡ r.parent → ⊥)) where
  abbrev ck : List Sheet
  ck = flat_map (λ g. g.checkpoint) s.open_grants

  abbrev pub after : State
  after = record s { home = image_with_mode s.home n mode }

  -- the page of the body is lent by nobody
  unlent : (g : OpenGrant) → In g s.open_grants → g.kind ≡ Write → In r.page (sheet_numbers (g.index ++ g.blocks)) → ⊥
  unlent g i w lent =
      let m = live_met s k n r row in
      elim (root_or_listed (settled s).core plain k.fit k.verifies.sound m.met m.stands) [
        | inl e ↦ other (sym m.number ∙ ap (λ (x : Met). x.ino) e)
        | inr j ↦
            let d = flat_map-In (children (settled s).core plain) m.met (survey (settled s).core plain) j in
            let c = child_from (settled s).core plain d.0 m.met d.2 in
            let pl = child_placed (settled s).core plain d.0 m.met c in
            let page : r.page ≡ c.entry.page = ap (λ (x : Row). x.page) m.row ∙ ap (λ (x : Met). x.page) c.is in
            let parent : r.parent ≡ d.0.ino = ap (λ (x : Row). x.parent) m.row ∙ ap (λ (x : Met). x.parent) c.is in
            let block : In r.page (pages_of (settled s).core d.0) =
            subst (λ l. In r.page l) (sym (pages_are (settled s).core d.0 c.file c.read)) (In-right r.page c.file.chain.index c.file.chain.blocks (subst (λ x. In x c.file.chain.blocks) (sym page) pl.block)) in
            (free g i).1 (lent_file s k d.0 r.page g d.1 block i w lent ∙ sym parent)
      ]

  -- and no checkpoint covers it
  away : In r.page (sheet_numbers ck) → ⊥
  away i = (let g = checkpoint_lent s k r.page i in unlent g.0 g.1 g.2 g.3)

  page_home : slice_get s.home.core.pages r.page ≡ slice_get (settled s).core.pages r.page
  page_home = sym (with_pages_apart ck s.home.core.pages r.page away)

  body_same : settled_body s.home n ≡ settled_body (settled s) n
  body_same = search (arith, ne_eqb, page_same, page_home)

  pages_same : with_pages ck (image_with_mode s.home n mode).core.pages ≡ (image_with_mode (settled s) n mode).core.pages
  pages_same = search (arith, page_at, page_home, with_pages_set, away, body_same)

  pub settled_moded : settled after ≡ image_with_mode (settled s) n mode
  settled_moded = search (arith, pages_same)

  -- a page without the body is the same
  page_other : (p : ℕ) → (p ≡ r.page → ⊥) → page_of (image_with_mode (settled s) n mode).core p ≡ page_of (settled s).core p
  page_other p differ =
      let body : List ℕ = body_with_mode mode (settled_body (settled s) n) in
      let there : Option (List ℕ) = option_map (with_body_in r.slot body) (slice_index_or (settled s).core.pages r.page None) in
      page_same (settled s).core (image_with_mode (settled s) n mode).core.pages p
      (ap (λ o. slice_get (body_put o body (settled s).core.pages) p) row
      ∙ get-set_other (settled s).core.pages r.page p there (ne_eqb r.page p (λ e. differ (sym e))))

  row_other : (j : ℕ) → (j ≡ n → ⊥) → row_at after.home j ≡ row_at s.home j
  row_other j d = get_or-set_other s.home.rows n j (row_with_mode mode (row_at s.home n)) None d

  parent_same : (l : ℕ) (o : Option Row) → has_parent_grant s l o ≡ true → has_parent_grant after l o ≡ true
  parent_same l None e = e
  parent_same l (Some x) e = e

  verifies' : Verifies (image_with_mode (settled s) n mode)
  verifies' = mode_verifies (settled s) n mode r k.fit k.verifies row small other

  pub moded_kept : Kept after
  moded_kept = record {
    fit = (let P : Image → Type 0 = λ i. IsFit i.core in subst P (sym settled_moded) (mode_fit (settled s) n mode r k.fit k.verifies row small other));
    verifies = (let P : Image → Type 0 = λ i. Verifies i in subst P (sym settled_moded) verifies');
    live = λ g i. ap is_some (row_other g.ino (free g i).0) ∙ k.live g i;
    apart = k.apart;
    bodies = λ g i.
        let x = some_of (row_at s.home g.ino) (k.live g i) in
        k.bodies g i
        ∙ sym (mode_body_other (settled s) n mode r k.fit k.verifies row small other g.ino x.0 x.1 (free g i).0)
        ∙ ap (λ (y : Image). settled_body y g.ino) (sym settled_moded);
    held = λ g i w. ap (has_parent_grant after g.lib) (row_other g.ino (free g i).0) ∙ parent_same g.lib (row_at s.home g.ino) (k.held g i w);
    lent = λ g i w.
        let l = k.lent g i w in
        let f = mode_file (settled s) n mode r k.fit k.verifies row small other l.met l.file l.stands l.read in
        let there : LentIsListed (image_with_mode (settled s) n mode) g = search (arith, met_other) in
        let P : Image → Type 0 = λ i. LentIsListed i g in subst P (sym settled_moded) there;
    checkpoints = k.checkpoints;
    guarded = λ g i w d t x a.
        let lent : In x.page (sheet_numbers (g.index ++ g.blocks)) = in_numbers (g.index ++ g.blocks) x x.page (In-right x g.index g.blocks a) refl in
        let differ : x.page ≡ r.page → ⊥ = λ on. unlent g i w (subst (λ p. In p (sheet_numbers (g.index ++ g.blocks))) on lent) in
        ap (λ (y : Image). page_of y.core x.page) settled_moded ∙ page_other x.page differ ∙ k.guarded g i w d t x a;
    absent = λ p gone c.
        let a : slice_get (body_put (Some r) (body_with_mode mode (settled_body s.home n)) s.home.core.pages) p ≡ Some None =
        ap (λ o. slice_get (body_put o (body_with_mode mode (settled_body s.home n)) s.home.core.pages) p) (sym row) ∙ gone in
        let f = body_put-get r (body_with_mode mode (settled_body s.home n)) s.home.core.pages p in
        k.absent p (absent_map f.0 (slice_get s.home.core.pages p) (sym f.1 ∙ a)) c;
    pages_placed = k.pages_placed;
    out_free = k.out_free;
    numbers_placed = k.numbers_placed;
    numbers_free = search (arith, row_other);
  }

-- a change of mode that isn't refused
passed : (b c : Bool) (o : Option OpenGrant) → cond b (Some NotOwner) (cond c (Some BadMode) (option_map (λ (g : OpenGrant). Busy (holder_of g)) o)) ≡ None → (b ≡ false) × (c ≡ false) × (o ≡ None)
passed b c o e = search arith

-- what a change of mode that isn't refused has passed
pub record MayChange (s : State) (lib ino mode : ℕ) (r : Row) : Type 0 where
  pub other : ino ≡ 1 → ⊥
  pub small : mode ≤ 511
  pub free : (g : OpenGrant) → In g s.open_grants → (g.ino ≡ ino → ⊥) × (g.ino ≡ r.parent → ⊥)
  pub owner : ((creds_of s lib).uid ≡ 0) ⊎ ((creds_of s lib).uid ≡ r.uid)

pub may_change : (s : State) (lib ino mode : ℕ) (r : Row) → mode_fault s lib ino mode (Some r) ≡ None → MayChange s lib ino mode r
may_change s lib ino mode r e = search (arith, passed, or_parts, eqb-false, ltb-false, none_passes, or_cases, not-false, eqb-true)

outcome_kept : (s : State) (lib ino mode : ℕ) (o : Option Row) (a : Option ModeFault) → Kept s → row_at s.home ino ≡ o → mode_fault s lib ino mode o ≡ a → Kept (moded_to s ino mode a).after
outcome_kept s lib ino mode o (Some fault) k row e = after_no_mode Kept s fault k (logged_kept s k)
outcome_kept s lib ino mode None None k row e = absurd cc
outcome_kept s lib ino mode (Some r) None k row e =
    let may = may_change s lib ino mode r e in
    logged_kept (record s { home = image_with_mode s.home ino mode }) (moded_kept s k ino mode r row may.small may.other may.free)

-- a step of a change of mode
pub mode_kept : (s s' : State) (lib ino mode : ℕ) (answer : CtlAnswer) → Kept s → Step s (SetMode lib ino mode) answer s' → Kept s'
mode_kept s s' lib ino mode answer k step = search (arith, outcome_kept)
