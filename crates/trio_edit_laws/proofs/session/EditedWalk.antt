-- A walk over files whose bodies are changed, but not their numbers: it meets the same files, so changed.
use Rattle.trio_edit_laws.proofs.Words.{◌++◌, ◌∙◌, ◌∷◌, ◌≡◌, ◌≤◌, Bool, Front, In, In-right, List, Met, [], ap, arith, cond, false, filter, find, first_listed, flat_map, fronts, inl, inr, is_among, map, map-append, numbers, refl, suc, sym, true, zero, ℕ}
use Rattle.trio_laws.proofs.session.Beside.{passed_more}

-- ---- lists

-- tests that agree on each element find the same
pub find-same : {X : Type 0} (p q : X → Bool) (xs : List X) → ((x : X) → p x ≡ q x) → find p xs ≡ find q xs
find-same p q xs same = search arith

-- what is listed of changed elements, where it is what was listed, changed
pub flat_map-changed : {X Y : Type 0} (E : X → X) (K : Y → Y) (f f' : X → List Y) (xs : List X) → ((x : X) → In x xs → f' (E x) ≡ map K (f x)) → flat_map f' (map E xs) ≡ map K (flat_map f xs)
flat_map-changed E K f f' [] h = refl
flat_map-changed E K f f' (x ∷ xs) h =
    ap (λ l. l ++ flat_map f' (map E xs)) (h x (inl refl))
    ∙ ap (λ l. map K (f x) ++ l) (flat_map-changed E K f f' xs (λ y i. h y (inr i)))
    ∙ sym (map-append K (f x) (flat_map f xs))

-- what is kept of changed elements: those that were kept, changed in either way
pub filter-changed : {X : Type 0} (K E : X → X) (p : X → Bool) (xs : List X) → ((x : X) → p (K x) ≡ p x) → ((x : X) → p x ≡ true → K x ≡ E x) → filter p (map K xs) ≡ map E (filter p xs)
filter-changed K E p [] same alike = refl
filter-changed K E p (x ∷ xs) same alike =
    ap (λ b. cond b (K x ∷ filter p (map K xs)) (filter p (map K xs))) (same x)
    ∙ by (p x) refl (filter-changed K E p xs same alike)
  where
    by : (b : Bool) → p x ≡ b → filter p (map K xs) ≡ map E (filter p xs) → cond b (K x ∷ filter p (map K xs)) (filter p (map K xs)) ≡ map E (cond b (x ∷ filter p xs) (filter p xs))
    by true e rest = ap (λ y. y ∷ filter p (map K xs)) (alike x e) ∙ ap (λ l. E x ∷ l) rest
    by false e rest = rest

-- ---- a walk

module _ (E : Met → Met) (number : (m : Met) → (E m).ino ≡ m.ino) where
  pub numbers-changed : (ms : List Met) → numbers (map E ms) ≡ numbers ms
  numbers-changed [] = refl
  numbers-changed (m ∷ ms) = ap (λ n. n ∷ numbers (map E ms)) (number m) ∙ ap (λ l. m.ino ∷ l) (numbers-changed ms)

  first-changed : (seen : List ℕ) (ms : List Met) → first_listed seen (map E ms) ≡ map E (first_listed seen ms)
  first-changed seen [] = refl
  first-changed seen (m ∷ ms) =
      ap (λ n. cond (is_among n seen) (first_listed seen (map E ms)) (E m ∷ first_listed (seen ++ n ∷ []) (map E ms))) (number m)
      ∙ by (is_among m.ino seen) (first-changed seen ms) (first-changed (seen ++ m.ino ∷ []) ms)
    where
      by : (b : Bool) → first_listed seen (map E ms) ≡ map E (first_listed seen ms) → first_listed (seen ++ m.ino ∷ []) (map E ms) ≡ map E (first_listed (seen ++ m.ino ∷ []) ms)
          → cond b (first_listed seen (map E ms)) (E m ∷ first_listed (seen ++ m.ino ∷ []) (map E ms)) ≡ map E (cond b (first_listed seen ms) (m ∷ first_listed (seen ++ m.ino ∷ []) ms))
      by true seen' new = seen'
      by false seen' new = ap (λ l. E m ∷ l) new

  abbrev changed : Front → Front
  changed f = record { passed = map E f.passed; level = map E f.level }

  -- where what each file lists is changed so, what the walk meets is
  pub fronts-changed : (kids kids' : Met → List Met) (starts : List Met) (n : ℕ) → ((m : Met) → In m (fronts kids starts n).passed → kids' (E m) ≡ map E (kids m))
      → (k : ℕ) → k ≤ n → fronts kids' (map E starts) k ≡ changed (fronts kids starts k)
  fronts-changed kids kids' starts n same zero h = refl
  fronts-changed kids kids' starts n same (suc k) h =
      let f : Front = fronts kids starts k in
      let low : k ≤ n = omega arith in
      let before : fronts kids' (map E starts) k ≡ changed f = fronts-changed kids kids' starts n same k low in
      let all : map E f.passed ++ map E f.level ≡ map E (f.passed ++ f.level) = sym (map-append E f.passed f.level) in
      let more : flat_map kids' (map E f.level) ≡ map E (flat_map kids f.level) =
      flat_map-changed E E kids kids' f.level (λ m i. same m (passed_more kids starts m (suc k) n h (In-right m f.passed f.level i))) in
      search (arith, numbers-changed, first-changed)
