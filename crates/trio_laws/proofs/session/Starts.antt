-- The judged files of a case, by the written ones with which the walk begins.
use Rattle.trio_laws.proofs.Words.{◌++◌, ◌∙◌, ◌∷◌, ◌≡◌, ◌≤◌, Bool, Bundle, Case, Creds, Front, Held, In, In-is_among, In-left, In-map, List, Met, Option, Row, Sizes, Written, [], ap, are_new, arith, cases_Bool, cond, entries_in, false, false_from_ne_true, false≢true, filter-In, flat_map, fronts_new, in_sorted, inl, inr, inserted_by, is_among, is_among-In, leb, leb-true, map, map-In, nat_tests, new_entries, numbers, refl, sorted_by, sorted_in, sorted_new, starts_met, subst, sym, true, written_files, written_met, ℕ}
use Rattle.trio_layout.specs.JudgedFiles.{judged_files}
use Rattle.trio_laws.proofs.judgement.JudgedFacts.{written_ino}
use Rattle.trio_laws.proofs.session.Beside.{alike}
use Rattle.trio_laws.proofs.session.Ruled.{case_with}

-- elements that are changed alike
pub map-each : {X Y : Type 0} (f g : X → Y) (xs : List X) → ((x : X) → In x xs → f x ≡ g x) → map f xs ≡ map g xs
map-each f g [] h = refl
map-each f g (x ∷ xs) h = ap (λ y. y ∷ map f xs) (h x (inl refl)) ∙ ap (λ l. g x ∷ l) (map-each f g xs (λ y i. h y (inr i)))

-- ---- one case

pub start_from : (c : Case) (m : Met) → In m (written_files c) → (w : Written) × In w c.bundle.writes × (m ≡ written_met c w)
start_from c m i = search (arith, map-In, sorted_in)

pub start_to : (c : Case) (w : Written) → In w c.bundle.writes → In (written_met c w) (written_files c)
start_to c w i =
    In-map (written_met c) w (sorted_by (λ (w : Written). w.ino) c.bundle.writes) (in_sorted (λ (w : Written). w.ino) w c.bundle.writes i)

pub start_number : (c : Case) (n : ℕ) → In n (numbers (written_files c)) → In n (map (λ (w : Written). w.ino) c.bundle.writes)
start_number c n i = search (arith, map-In, start_from, written_ino, In-map)

pub number_start : (c : Case) (n : ℕ) → In n (map (λ (w : Written). w.ino) c.bundle.writes) → In n (numbers (written_files c))
number_start c n i = search (arith, map-In, written_ino, In-map, start_to)

pub start_judged : (c : Case) (m : Met) → In m (written_files c) → In m (judged_files c)
unfolding judged_files
start_judged c m i = starts_met (new_entries c) (written_files c) c.inodes m i

-- where each written file stands once, so does each file with which the walk begins
pub starts_once : (c : Case) → are_new [] (map (λ (w : Written). w.ino) c.bundle.writes) ≡ true → are_new [] (numbers (written_files c)) ≡ true
starts_once c once = ap (are_new []) (same (sorted_by (λ (w : Written). w.ino) c.bundle.writes)) ∙ sorted_new (λ (w : Written). w.ino) c.bundle.writes once
  where
    same : (ws : List Written) → numbers (map (written_met c) ws) ≡ map (λ (w : Written). w.ino) ws
    same [] = refl
    same (w ∷ ws) = ap (λ n. n ∷ numbers (map (written_met c) ws)) (written_ino c w) ∙ ap (λ l. w.ino ∷ l) (same ws)

-- and each judged file
pub judged_once : (c : Case) → are_new [] (map (λ (w : Written). w.ino) c.bundle.writes) ≡ true → are_new [] (numbers (judged_files c)) ≡ true
unfolding judged_files
judged_once c once = fronts_new (new_entries c) (written_files c) (starts_once c once) c.inodes

pub new_entry : (c : Case) (x e : Met) → In e (new_entries c x) → In e (entries_in c x) × In e.ino c.bundle.numbers
new_entry c x e i =
    let q = filter-In (λ (e : Met). is_among e.ino c.bundle.numbers) e (entries_in c x) i in (q.0, is_among-In e.ino c.bundle.numbers q.1)

pub among_alike : (n : ℕ) (xs ys : List ℕ) → (In n xs → In n ys) → (In n ys → In n xs) → is_among n xs ≡ is_among n ys
among_alike n xs ys to from = search (arith, cases_Bool, In-is_among, is_among-In, false_from_ne_true, false≢true)

-- ---- one case beside another

module _ (sizes : Sizes) (creds creds' : Creds) (rows rows' : List (Option Row)) (b b' : Bundle) (lent lent' : List Held) where
  abbrev c : Case
  c = case_with sizes creds rows b lent

  abbrev c' : Case
  c' = case_with sizes creds' rows' b' lent'

  -- the judged files of both are the written ones and the same others
  pub record Share : Type 0 where
    pub rest : List Met
    pub old : judged_files (case_with sizes creds rows b lent) ≡ written_files (case_with sizes creds rows b lent) ++ rest
    pub new : judged_files (case_with sizes creds' rows' b' lent') ≡ written_files (case_with sizes creds' rows' b' lent') ++ rest
    pub listed : (m : Met) → In m rest → In m.ino b.numbers

  pub shared :
      flat_map (new_entries (case_with sizes creds' rows' b' lent')) (written_files (case_with sizes creds' rows' b' lent')) ≡ flat_map (new_entries (case_with sizes creds rows b lent)) (written_files (case_with sizes creds rows b lent))
      → ((n : ℕ) → In n b.numbers → is_among n (numbers (written_files (case_with sizes creds' rows' b' lent'))) ≡ is_among n (numbers (written_files (case_with sizes creds rows b lent))))
      → ((m : Met) → In m (judged_files (case_with sizes creds rows b lent)) → In m.ino b.numbers → new_entries (case_with sizes creds' rows' b' lent') m ≡ new_entries (case_with sizes creds rows b lent) m)
      → Share
  unfolding judged_files
  shared first among same =
      let a = alike (λ x. In x b.numbers) (new_entries c) (new_entries c') (written_files c) (written_files c') sizes.inodes first among (λ x m i. (new_entry c x m i).1) same sizes.inodes (omega arith) in
      let P : Front → List Met = λ f. f.passed in
      record {
        rest = a.rest;
        old = ap P a.old;
        new = ap P a.new;
        listed = λ m i. a.listed m (In-left m a.rest a.level i);
      }

-- ---- a list in rising order with one more

module _ {X : Type 0} (key : X → ℕ) where
  abbrev Above : X → List X → Type 0
  Above w ys = (y : X) → In y ys → key w ≤ key y

  inserted-first : (x : X) (ys : List X) → Above x ys → inserted_by key x ys ≡ x ∷ ys
  inserted-first x [] h = refl
  inserted-first x (y ∷ ys) h = search (arith, nat_tests)

  inserted-above : (w x : X) (ys : List X) → key w ≤ key x → Above w ys → Above w (inserted_by key x ys)
  inserted-above w x [] l h = λ y i. elim i [ inl e ↦ subst (λ z. key w ≤ key z) (sym e) l | inr no' ↦ absurd no' ]
  inserted-above w x (z ∷ zs) l h = by (leb (key x) (key z)) (inserted-above w x zs l (λ y i. h y (inr i)))
    where
      by : (t : Bool) → Above w (inserted_by key x zs) → Above w (cond t (x ∷ (z ∷ zs)) (z ∷ inserted_by key x zs))
      by true k y (inl e) = subst (λ q. key w ≤ key q) (sym e) l
      by true k y (inr i) = h y i
      by false k y (inl e) = h y (inl e)
      by false k y (inr i) = k y i

  -- the list in rising order, cut where one more belongs
  pub record Cut (xs more : List X) (w : X) : Type 0 where
    pub before : List X
    pub after : List X
    pub old : xs ≡ before ++ after
    pub new : more ≡ before ++ w ∷ after
    pub above : (y : X) → In y after → key w ≤ key y

  inserted-cut : (x w : X) (before after : List X) → Above w after → Cut (inserted_by key x (before ++ after)) (inserted_by key x (before ++ w ∷ after)) w
  inserted-cut x w [] after above = by (leb (key x) (key w)) refl
    where
      by : (t : Bool) → leb (key x) (key w) ≡ t → Cut (inserted_by key x after) (cond t (x ∷ (w ∷ after)) (w ∷ inserted_by key x after)) w
      by true e =
          let l : key x ≤ key w = leb-true (key x) (key w) e in
          let all : Above x after = λ y i. (let k : key w ≤ key y = above y i in omega (arith, l, k)) in
          record { before = x ∷ []; after = after; old = inserted-first x after all; new = refl; above = above }
      by false e =
          let l : key w ≤ key x = grind (arith, nat_tests) in
          record { before = []; after = inserted_by key x after; old = refl; new = refl; above = inserted-above w x after l above }
  inserted-cut x w (y ∷ before) after above = by (leb (key x) (key y)) (inserted-cut x w before after above)
    where
      by : (t : Bool) → Cut (inserted_by key x (before ++ after)) (inserted_by key x (before ++ w ∷ after)) w
          → Cut (cond t (x ∷ (y ∷ (before ++ after))) (y ∷ inserted_by key x (before ++ after))) (cond t (x ∷ (y ∷ (before ++ w ∷ after))) (y ∷ inserted_by key x (before ++ w ∷ after))) w
      by true k = record { before = x ∷ (y ∷ before); after = after; old = refl; new = refl; above = above }
      by false k = record { before = y ∷ k.before; after = k.after; old = ap (λ l. y ∷ l) k.old; new = ap (λ l. y ∷ l) k.new; above = k.above }

  pub sorted-cut : (xs : List X) (w : X) → Cut (sorted_by key xs) (sorted_by key (xs ++ w ∷ [])) w
  sorted-cut [] w = record { before = []; after = []; old = refl; new = refl; above = λ y i. absurd i }
  sorted-cut (x ∷ xs) w =
      let k = sorted-cut xs w in
      let n = inserted-cut x w k.before k.after k.above in
      record {
        before = n.before;
        after = n.after;
        old = ap (inserted_by key x) k.old ∙ n.old;
        new = ap (inserted_by key x) k.new ∙ n.new;
        above = n.above;
      }
