-- Bodies that are put in place one after another.
use Rattle.trio_commit.proofs.Words.{if◌then◌else◌, ◌&&◌, ◌++◌, ◌+◌, ◌<◌, ◌==◌, ◌∙◌, ◌∷◌, ◌≡◌, ◌≢◌, ◌≤◌, ◌⊎◌, Bool, Checkpointed, EntryData, In, In-map, IsTrue, LentFile, List, ListedEntry, None, Option, Row, Some, Written, [], ap, arith, bodies_home, cases_eq, checkpoint_at, drop, drop-cons, entry_seen, false, find, get_or, get_or-In, inl, inr, is_among, is_some, kept_body, kept_children, leases_in, length, looks_for, map, map-In, map-append, ne_eqb, not, option_map, option_map_or, page_changes, placed_files, refl, row_in, set, sheet_numbers, subst, suc, sym, take, take-suc, true, with_bodies, with_children, written_in, zero, ℕ}
use Rattle.std.specs.Prelude.{slice_index_or}
use Rattle.std.specs.List.{cons_option, filter}
use Rattle.std.proofs.lemmas.List.{set-get_or, set-set, get_or-set_same, get_or-set_other, length-set}
use Rattle.std.proofs.lemmas.List.Elements.{filter-append, filter_map-append}
use Rattle.trio_lists.proofs.Filters.{filter-In, filter-same, In-filter}
use Rattle.trio_page.specs.Home.{raised}
use Rattle.trio_layout.specs.Accept.{with_body_at, with_body_in}
use Rattle.trio_layout.specs.JudgedFiles.{written_at}
use Rattle.trio_layout.specs.Survey.{Met}
use Rattle.trio_checkpoint.proofs.Bodies.{numbers_stay}
use Rattle.trio_commit.specs.Bodies.{IsPlaced, child_of, has_place, is_parent_lent, root_after, with_child}
use Rattle.trio_commit.specs.declared.taken_page.TakenPage.{TakenPage}
use Rattle.trio_commit.specs.inner.Putting.{ArePlaced}

abbrev pub Checkpoints : Type 0
Checkpoints = List (Option Checkpointed)

abbrev pub PageList : Type 0
PageList = List (Option (List ℕ))

-- ---- a page that is taken

pub raised_le : (n : ℕ) → raised n ≤ n + 1
raised_le n = omega arith

-- a page that is taken and put back as it was
pub set_back : (pages : PageList) (n : ℕ) → set (set pages n None) n (get_or pages n None) ≡ pages
set_back pages n = set-set pages n None (get_or pages n None) ∙ set-get_or pages n None

pub looks_other : (t : TakenPage) (n : ℕ) → (t.no.0 == n) ≡ false → looks_for n (Some t) ≡ 1
looks_other t n e = ap (λ (b : Bool). let one : ℕ = 1 in if b then 0 else one) e

pub body_put : (pages : PageList) (n slot : ℕ) (body : List ℕ) → set (set pages n None) n (option_map (with_body_in slot body) (get_or pages n None)) ≡ with_body_at n slot body pages
body_put pages n slot body = set-set pages n None (option_map (with_body_in slot body) (get_or pages n None))

-- ---- lists of files

pub with_bodies-append : (ms ks : List Met) (pages : PageList) → with_bodies (ms ++ ks) pages ≡ with_bodies ks (with_bodies ms pages)
with_bodies-append [] ks pages = refl
with_bodies-append (m ∷ ms) ks pages = with_bodies-append ms ks (if m.ino == 1 then pages else with_body_at m.page m.slot m.body pages)

pub with_children-append : (ms ks : List Met) (cs : Checkpoints) → with_children (ms ++ ks) cs ≡ with_children ks (with_children ms cs)
with_children-append [] ks cs = refl
with_children-append (m ∷ ms) ks cs = with_children-append ms ks (set cs m.parent (option_map (with_child m) (checkpoint_at cs m.parent)))

placed : List (Option Row) → List LentFile → List Met
placed rows files = placed_files rows (leases_in files)

pub placed-append : (rows : List (Option Row)) (files more : List LentFile) → placed_files rows (leases_in (files ++ more)) ≡ placed_files rows (leases_in files) ++ placed_files rows (leases_in more)
placed-append rows files more =
    ap (λ ws. map (λ (w : Written). written_at w (row_in rows w.ino)) (filter (has_place rows) ws)) (map-append (λ (f : LentFile). written_in f.stands) files more)
    ∙ ap (map (λ (w : Written). written_at w (row_in rows w.ino))) (filter-append (has_place rows) (map (λ (f : LentFile). written_in f.stands) files) (map (λ (f : LentFile). written_in f.stands) more))
    ∙ map-append (λ (w : Written). written_at w (row_in rows w.ino)) (filter (has_place rows) (map (λ (f : LentFile). written_in f.stands) files)) (filter (has_place rows) (map (λ (f : LentFile). written_in f.stands) more))

-- a file at the place that this row names
abbrev pub at_row : LentFile → Row → Met
at_row f r = record { ino = f.stands.ino; kind = f.stands.kind; parent = r.parent; page = r.page; slot = r.slot; body = f.stands.body }

has_place_here : (rows : List (Option Row)) (f : LentFile) (r : Row) → (f.stands.ino == 1) ≡ false → row_in rows f.stands.ino ≡ Some r → has_place rows (written_in f.stands) ≡ true
has_place_here rows f r other row =
    ap (λ b. not b && is_some (row_in rows f.stands.ino)) other ∙ ap is_some row

pub one_place : (rows : List (Option Row)) (f : LentFile) (r : Row) → (f.stands.ino == 1) ≡ false → row_in rows f.stands.ino ≡ Some r → placed_files rows (leases_in (f ∷ [])) ≡ at_row f r ∷ []
one_place rows f r other row =
    ap (λ b. map (λ (w : Written). written_at w (row_in rows w.ino)) (if b then written_in f.stands ∷ [] else [])) (has_place_here rows f r other row)
    ∙ ap (λ o. written_at (written_in f.stands) o ∷ []) row

pub one_placed : (rows : List (Option Row)) (cs : Checkpoints) (f : LentFile) (r : Row) → (f.stands.ino == 1) ≡ false → row_in rows f.stands.ino ≡ Some r → ArePlaced rows cs (f ∷ []) → IsPlaced cs (at_row f r)
one_placed rows cs f r other row placed = placed (at_row f r) (subst (λ ms. In (at_row f r) ms) (sym (one_place rows f r other row)) (inl refl))

abbrev pub CoverSame : Checkpoints → Checkpoints → Type 0
CoverSame cs now = (n : ℕ) → option_map (λ (c : Checkpointed). sheet_numbers c.blocks) (checkpoint_at now n) ≡ option_map (λ (c : Checkpointed). sheet_numbers c.blocks) (checkpoint_at cs n)

child_covers : (m : Met) (o : Option Checkpointed) → option_map (λ (c : Checkpointed). sheet_numbers c.blocks) (option_map (with_child m) o) ≡ option_map (λ (c : Checkpointed). sheet_numbers c.blocks) o
child_covers m None = refl
child_covers m (Some c) = ap Some (numbers_stay m.page m.slot m.body [] c.blocks)

set_covers : (cs : Checkpoints) (m : Met) → CoverSame cs (set cs m.parent (option_map (with_child m) (checkpoint_at cs m.parent)))
set_covers cs m n = by (cases_eq m.parent n) (checkpoint_at cs m.parent) refl
  where
    N : Option Checkpointed → Option (List ℕ)
    N o = option_map (λ (c : Checkpointed). sheet_numbers c.blocks) o

    within : (xs : Checkpoints) (k : ℕ) (c : Checkpointed) → checkpoint_at xs k ≡ Some c → k < length xs
    within [] k c e = absurd cc
    within (x ∷ xs) zero c e = omega arith
    within (x ∷ xs) (suc k) c e = (let l = within xs k c e in omega (arith, l))

    by : ((m.parent ≡ n) ⊎ (m.parent ≢ n)) → (o : Option Checkpointed) → checkpoint_at cs m.parent ≡ o
        → option_map (λ (c : Checkpointed). sheet_numbers c.blocks) (checkpoint_at (set cs m.parent (option_map (with_child m) (checkpoint_at cs m.parent))) n) ≡ option_map (λ (c : Checkpointed). sheet_numbers c.blocks) (checkpoint_at cs n)
    by (inr apart) o e = ap (option_map (λ (c : Checkpointed). sheet_numbers c.blocks)) (get_or-set_other cs m.parent n (option_map (with_child m) (checkpoint_at cs m.parent)) None (λ s. apart (sym s)))
    by (inl same) None e =
        ap (λ xs. option_map (λ (c : Checkpointed). sheet_numbers c.blocks) (checkpoint_at xs n))
        (ap (λ o. set cs m.parent (option_map (with_child m) o)) e ∙ ap (set cs m.parent) (sym e) ∙ set-get_or cs m.parent None)
    by (inl same) (Some c) e =
        ap (option_map (λ (c : Checkpointed). sheet_numbers c.blocks))
        (ap (checkpoint_at (set cs m.parent (option_map (with_child m) (checkpoint_at cs m.parent)))) (sym same) ∙ get_or-set_same cs m.parent (option_map (with_child m) (checkpoint_at cs m.parent)) None (within cs m.parent c e))
        ∙ child_covers m (checkpoint_at cs m.parent)
        ∙ ap (λ k. option_map (λ (c : Checkpointed). sheet_numbers c.blocks) (checkpoint_at cs k)) same

pub children_cover : (ms : List Met) (cs : Checkpoints) → CoverSame cs (with_children ms cs)
children_cover [] cs n = refl
children_cover (m ∷ ms) cs n =
    children_cover ms (set cs m.parent (option_map (with_child m) (checkpoint_at cs m.parent))) n ∙ set_covers cs m n

still_some : (o : Option Checkpointed) → is_some (option_map (λ (c : Checkpointed). sheet_numbers c.blocks) o) ≡ is_some o
still_some None = refl
still_some (Some c) = refl

lent_same : (cs now : Checkpoints) → CoverSame cs now → (n : ℕ) → is_some (checkpoint_at now n) ≡ is_some (checkpoint_at cs n)
lent_same cs now same n = sym (still_some (checkpoint_at now n)) ∙ ap is_some (same n) ∙ still_some (checkpoint_at cs n)

placed_still : (cs now : Checkpoints) (m : Met) → CoverSame cs now → IsPlaced cs m → IsPlaced now m
placed_still cs now m same p = record {
  slot = p.slot;
  covered = λ c e. by (checkpoint_at cs m.parent) refl c (sym (same m.parent) ∙ ap (option_map (λ (c : Checkpointed). sheet_numbers c.blocks)) e);
}
  where
    by : (o : Option Checkpointed) → checkpoint_at cs m.parent ≡ o → (c : Checkpointed) → option_map (λ (c : Checkpointed). sheet_numbers c.blocks) (checkpoint_at cs m.parent) ≡ Some (sheet_numbers c.blocks) → IsTrue (is_among m.page (sheet_numbers c.blocks))
    by None e c numbers = (let wrong : None ≡ Some (sheet_numbers c.blocks) = ap (option_map (λ (c : Checkpointed). sheet_numbers c.blocks)) (sym e) ∙ numbers in absurd (cc wrong))
    by (Some d) e c numbers =
        let s : Some (sheet_numbers d.blocks) ≡ Some (sheet_numbers c.blocks) = ap (option_map (λ (c : Checkpointed). sheet_numbers c.blocks)) (sym e) ∙ numbers in
        let t : sheet_numbers d.blocks ≡ sheet_numbers c.blocks = cc s in
        subst (λ ns. IsTrue (is_among m.page ns)) t (p.covered d e)

-- ---- lease after lease

-- How far the bodies of leases have come.
pub record AreHome (rows : List (Option Row)) (cs now : Checkpoints) (start pages : PageList) (passed : List LentFile) : Type 0 where
  pub home : pages ≡ with_bodies (bodies_home rows cs (leases_in passed)) start
  pub lent : now ≡ with_children (placed_files rows (leases_in passed)) cs

module _ (rows : List (Option Row)) (cs now : Checkpoints) (start pages : PageList) (files : List LentFile) (i : ℕ) (x : LentFile) (lt : i < length files) (is : x ≡ get_or files i x) (so_far : AreHome rows cs now start pages (take i files)) where
  same_cover : CoverSame cs now
  same_cover = subst (λ xs. CoverSame cs xs) (sym so_far.lent) (children_cover (placed_files rows (leases_in (take i files))) cs)

  more : take (i + 1) files ≡ take i files ++ x ∷ []
  more = (let e : i + 1 ≡ suc i = omega arith in ap (λ k. take k files) e ∙ take-suc files i x lt ∙ ap (λ y. take i files ++ y ∷ []) (sym is))

  all : files ≡ take i files ++ get_or files i x ∷ drop (suc i) files
  all = split files i x lt
    where
      split : (xs : List LentFile) (k : ℕ) (d : LentFile) → k < length xs → xs ≡ take k xs ++ get_or xs k d ∷ drop (suc k) xs
      split [] k d l = absurd (omega arith)
      split (y ∷ xs) zero d l = refl
      split (y ∷ xs) (suc k) d l = ap (λ zs. y ∷ zs) (split xs k d (omega arith))

  -- the body of the next lease has its place
  pub next_placed : ArePlaced rows cs files → ArePlaced rows now (x ∷ [])
  next_placed placed m a = placed_still cs now m same_cover (placed m inside)
    where
      inside : In m (placed_files rows (leases_in files))
      inside =
          let r = map-In (λ (w : Written). written_at w (row_in rows w.ino)) m (filter (has_place rows) (written_in x.stands ∷ [])) a in
          let k = filter-In (has_place rows) r.0 (written_in x.stands ∷ []) r.1 in
          let here : r.0 ≡ written_in x.stands = only r.0 (written_in x.stands) k.0 in
          let there : In x files = subst (λ ys. In x ys) (sym all) (mid (take i files)) in
          let w : In r.0 (map (λ (f : LentFile). written_in f.stands) files) = subst (λ v. In v (map (λ (f : LentFile). written_in f.stands) files)) (sym here) (In-map (λ (f : LentFile). written_in f.stands) x files there) in
          subst (λ n. In n (placed_files rows (leases_in files))) (sym r.2)
          (In-map (λ (w : Written). written_at w (row_in rows w.ino)) r.0 (filter (has_place rows) (map (λ (f : LentFile). written_in f.stands) files)) (In-filter (has_place rows) r.0 (map (λ (f : LentFile). written_in f.stands) files) w k.1))
        where
          only : (v w : Written) → In v (w ∷ []) → v ≡ w
          only v w (inl e) = e
          only v w (inr none) = absurd none

          mid : (front : List LentFile) → In x (front ++ get_or files i x ∷ drop (suc i) files)
          mid [] = inl is
          mid (y ∷ front) = inr (mid front)

  pub next_home : (then' : Checkpoints) (after : PageList) → after ≡ with_bodies (bodies_home rows now (leases_in (x ∷ []))) pages → then' ≡ with_children (placed_files rows (leases_in (x ∷ []))) now
      → AreHome rows cs then' start after (take (i + 1) files)
  next_home then' after put lent =
      let P : List LentFile → List Met = λ fs. placed_files rows (leases_in fs) in
      let H : List Met → List Met = λ ms. filter (λ (m : Met). not (is_parent_lent cs m)) ms in
      let joined : P (take (i + 1) files) ≡ P (take i files) ++ P (x ∷ []) = ap P more ∙ placed-append rows (take i files) (x ∷ []) in
      let same : bodies_home rows now (leases_in (x ∷ [])) ≡ H (P (x ∷ [])) =
      filter-same (λ (m : Met). not (is_parent_lent now m)) (λ (m : Met). not (is_parent_lent cs m)) (P (x ∷ [])) (λ m j. ap not (lent_same cs now same_cover m.parent)) in
      record {
        home =
            put
            ∙ ap (λ ms. with_bodies ms pages) same
            ∙ ap (with_bodies (H (P (x ∷ [])))) so_far.home
            ∙ sym (with_bodies-append (H (P (take i files))) (H (P (x ∷ []))) start)
            ∙ ap (λ ms. with_bodies ms start) (sym (filter-append (λ (m : Met). not (is_parent_lent cs m)) (P (take i files)) (P (x ∷ []))) ∙ ap H (sym joined));
        lent =
            lent
            ∙ ap (with_children (P (x ∷ []))) so_far.lent
            ∙ sym (with_children-append (P (take i files)) (P (x ∷ [])) cs)
            ∙ ap (λ ms. with_children ms cs) (sym joined);
      }

-- ---- entry after entry

pub entry_put : (pages after : PageList) (t : TakenPage) (e : ListedEntry) (body : List ℕ) (o : Option (List ℕ)) → o ≡ Some body → e.ino ≢ 1 → t.no.0 ≡ e.page → t.page ≡ get_or after e.page None → set pages t.no.0 t.page ≡ after
    → set pages t.no.0 (option_map (with_body_in e.slot body) t.page) ≡ with_bodies (cons_option (option_map (child_of e) o) []) after
entry_put pages after t e body o has other number page is =
    sym (set-set pages t.no.0 t.page (option_map (with_body_in e.slot body) t.page))
    ∙ ap (λ ps. set ps t.no.0 (option_map (with_body_in e.slot body) t.page)) is
    ∙ ap (λ n. set after n (option_map (with_body_in e.slot body) t.page)) number
    ∙ ap (λ x. set after e.page (option_map (with_body_in e.slot body) x)) page
    ∙ ap (λ b. if b then after else with_body_at e.page e.slot body after) (sym (ne_eqb e.ino 1 other))
    ∙ ap (λ x. with_bodies (cons_option (option_map (child_of e) x) []) after) (sym has)

pub kept_take : (cs : Checkpoints) (es : List EntryData) (i : ℕ) (d : EntryData) → i < length es
    → kept_children cs (map entry_seen (take (i + 1) es)) ≡ kept_children cs (map entry_seen (take i es)) ++ kept_children cs (entry_seen (get_or es i d) ∷ [])
kept_take cs es i d lt =
    let e : i + 1 ≡ suc i = omega arith in
    ap (λ xs. kept_children cs (map entry_seen xs)) (ap (λ k. take k es) e ∙ take-suc es i d lt)
    ∙ ap (kept_children cs) (map-append entry_seen (take i es) (get_or es i d ∷ []))
    ∙ filter_map-append (λ (x : ListedEntry). option_map (child_of x) (kept_body cs x)) (map entry_seen (take i es)) (entry_seen (get_or es i d) ∷ [])

pub kept_drop : (cs : Checkpoints) (es : List EntryData) (i : ℕ) (d : EntryData) → i < length es
    → kept_children cs (map entry_seen (drop i es)) ≡ kept_children cs (entry_seen (get_or es i d) ∷ []) ++ kept_children cs (map entry_seen (drop (i + 1) es))
kept_drop cs es i d lt =
    let e : suc i ≡ i + 1 = omega arith in
    ap (λ xs. kept_children cs (map entry_seen xs)) (drop-cons es i d lt ∙ ap (λ k. get_or es i d ∷ drop k es) e)
    ∙ filter_map-append (λ (x : ListedEntry). option_map (child_of x) (kept_body cs x)) (entry_seen (get_or es i d) ∷ []) (map entry_seen (drop (i + 1) es))

pub entry_In : (es : List EntryData) (i : ℕ) (d : EntryData) → i < length es → In (entry_seen (get_or es i d)) (map entry_seen es)
entry_In es i d lt = In-map entry_seen (get_or es i d) es (get_or-In es i d lt)

-- one entry more
pub next_kept : (cs : Checkpoints) (es : List EntryData) (i : ℕ) (d : EntryData) (start before after : PageList) → i < length es
    → before ≡ with_bodies (kept_children cs (map entry_seen (take i es))) start → after ≡ with_bodies (kept_children cs (entry_seen (get_or es i d) ∷ [])) before
    → after ≡ with_bodies (kept_children cs (map entry_seen (take (i + 1) es))) start
next_kept cs es i d start before after lt so_far put =
    put
    ∙ ap (with_bodies (kept_children cs (entry_seen (get_or es i d) ∷ []))) so_far
    ∙ sym (with_bodies-append (kept_children cs (map entry_seen (take i es))) (kept_children cs (entry_seen (get_or es i d) ∷ [])) start)
    ∙ ap (λ ms. with_bodies ms start) (sym (kept_take cs es i d lt))

pub next_looks : (cs : Checkpoints) (es : List EntryData) (i : ℕ) (d : EntryData) (at at' : Option ℕ) (count count' bound : ℕ) → i < length es
    → count + page_changes at (kept_children cs (map entry_seen (drop i es))) ≤ bound
    → ((later : List Met) → count' + page_changes at' later ≤ count + page_changes at (kept_children cs (entry_seen (get_or es i d) ∷ []) ++ later))
    → count' + page_changes at' (kept_children cs (map entry_seen (drop (i + 1) es))) ≤ bound
next_looks cs es i d at at' count count' bound lt so_far put =
    let h = put (kept_children cs (map entry_seen (drop (i + 1) es))) in
    let same = ap (page_changes at) (kept_drop cs es i d lt) in
    omega (arith, so_far, h, same)

-- ---- the whole

pub length-with_bodies : (ms : List Met) (pages : PageList) → length (with_bodies ms pages) ≡ length pages
length-with_bodies [] pages = refl
length-with_bodies (m ∷ ms) pages = length-with_bodies ms (if m.ino == 1 then pages else with_body_at m.page m.slot m.body pages) ∙ by (m.ino == 1)
  where
    by : (b : Bool) → length (if b then pages else with_body_at m.page m.slot m.body pages) ≡ length pages
    by true = refl
    by false = length-set pages m.page (option_map (with_body_in m.slot m.body) (slice_index_or pages m.page None))

-- the root's body, by the leases and by the bundle
pub root_found : (files : List LentFile) (root : List ℕ) → root_after (leases_in files) root ≡ option_map_or (λ (b : List ℕ). b) (option_map (λ (f : LentFile). f.stands.body) (find (λ (f : LentFile). f.stands.ino == 1) files)) root
root_found [] root = refl
root_found (f ∷ files) root = by (f.stands.ino == 1) (root_found files root)
  where
    by : (b : Bool) → root_after (leases_in files) root ≡ option_map_or (λ (b : List ℕ). b) (option_map (λ (f : LentFile). f.stands.body) (find (λ (f : LentFile). f.stands.ino == 1) files)) root
        → option_map_or (λ (w : Written). w.body) (if b then Some (written_in f.stands) else find (λ (w : Written). w.ino == 1) (map (λ (f : LentFile). written_in f.stands) files)) root
        ≡ option_map_or (λ (b : List ℕ). b) (option_map (λ (f : LentFile). f.stands.body) (if b then Some f else find (λ (f : LentFile). f.stands.ino == 1) files)) root
    by true later = refl
    by false later = later
