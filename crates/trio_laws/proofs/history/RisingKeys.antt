-- What a function gives of numbers one after another is any list of the same things, in rising order of their keys.
use Rattle.trio_laws.proofs.Words.{◌++◌, ◌+◌, ◌<◌, ◌∙◌, ◌∷◌, ◌≡◌, ◌≤◌, ◌⊎◌, Bool, In, In-map, List, None, Option, Some, [], and_from, ap, are_new, are_new-append, are_new-first, arith, cond, cons_option, count_up, filter_map, in_sorted, inl, inr, inserted_by, leb, leb-true, map, map-In, map-append, new_beside, refl, sorted_by, sorted_in, sorted_new, subst, suc, sym, true, zero, ℕ}

-- each key is below those after it
abbrev pub Rising : {X : Type 0} → (X → ℕ) → List X → Type 0
Rising key [] = Unit {0}
Rising {X = X} key (x ∷ xs) = ((y : X) → In y xs → key x < key y) × Rising key xs

-- none is above one after it
abbrev Ordered : {X : Type 0} → (X → ℕ) → List X → Type 0
Ordered key [] = Unit {0}
Ordered {X = X} key (x ∷ xs) = ((y : X) → In y xs → key x ≤ key y) × Ordered key xs

-- ---- two lists in rising order with the same members

tail_of : {X : Type 0} (key : X → ℕ) (x y : X) (xs ys : List X) → x ≡ y → ((z : X) → In z xs → key x < key z) → ((z : X) → In z (x ∷ xs) → In z (y ∷ ys)) → (z : X) → In z xs → In z ys
tail_of key x y xs ys e low sub z i = search arith

pub same_list : {X : Type 0} (key : X → ℕ) (xs ys : List X) → Rising key xs → Rising key ys → ((x : X) → In x xs → In x ys) → ((y : X) → In y ys → In y xs) → xs ≡ ys
same_list key [] [] r q a b = refl
same_list key [] (y ∷ ys) r q a b = absurd (b y (inl refl))
same_list key (x ∷ xs) [] r q a b = absurd (a x (inl refl))
same_list key (x ∷ xs) (y ∷ ys) r q a b =
    let heads : x ≡ y =
    elim (a x (inl refl)) [
      | inl e ↦ e
      | inr j ↦ search arith
    ] in
    ap (λ z. z ∷ xs) heads
    ∙ ap (λ l. y ∷ l) (same_list key xs ys r.1 q.1 (tail_of key x y xs ys heads r.0 a) (tail_of key y x ys xs (sym heads) q.0 b))

-- ---- a list that is put in rising order

insert_in : {X : Type 0} (b : Bool) (x w z : X) (zs ws : List X) → (In x ws → (x ≡ w) ⊎ In x zs) → In x (cond b (w ∷ (z ∷ zs)) (z ∷ ws)) → (x ≡ w) ⊎ In x (z ∷ zs)
insert_in b x w z zs ws h i = search arith

inserted_in : {X : Type 0} (key : X → ℕ) (x w : X) (ws : List X) → In x (inserted_by key w ws) → (x ≡ w) ⊎ In x ws
inserted_in key x w [] i = i
inserted_in key x w (z ∷ zs) i = insert_in (leb (key w) (key z)) x w z zs (inserted_by key w zs) (inserted_in key x w zs) i

above_all : {X : Type 0} (key : X → ℕ) (w z : X) (zs : List X) → key w ≤ key z → Ordered key (z ∷ zs) → (y : X) → In y (z ∷ zs) → key w ≤ key y
above_all key w z zs l o y (inl e) = (let k : key y ≡ key z = ap key e in omega (arith, l, k))
above_all key w z zs l o y (inr i) = (let k = o.0 y i in omega (arith, l, k))

insert_step : {X : Type 0} (key : X → ℕ) (b : Bool) (w z : X) (zs : List X) → leb (key w) (key z) ≡ b → Ordered key (z ∷ zs) → Ordered key (inserted_by key w zs) → Ordered key (cond b (w ∷ (z ∷ zs)) (z ∷ inserted_by key w zs))
insert_step key b w z zs t o h = search (arith, above_all, leb-true, inserted_in)

inserted_ordered : {X : Type 0} (key : X → ℕ) (w : X) (ws : List X) → Ordered key ws → Ordered key (inserted_by key w ws)
inserted_ordered key w [] o = (λ y i. absurd i, tt)
inserted_ordered key w (z ∷ zs) o = insert_step key (leb (key w) (key z)) w z zs refl o (inserted_ordered key w zs o.1)

sorted_ordered : {X : Type 0} (key : X → ℕ) (ws : List X) → Ordered key (sorted_by key ws)
sorted_ordered key [] = tt
sorted_ordered key (w ∷ ws) = inserted_ordered key w (sorted_by key ws) (sorted_ordered key ws)

ordered_rising : {X : Type 0} (key : X → ℕ) (xs : List X) → Ordered key xs → are_new [] (map key xs) ≡ true → Rising key xs
ordered_rising key [] o new = tt
ordered_rising key (x ∷ xs) o new =
    let p = are_new-first (key x) (map key xs) new in (
      λ y i.
          let l = o.0 y i in
          let differ : key x ≡ key y → ⊥ = λ e. p.0 (subst (λ n. In n (map key xs)) (sym e) (In-map key y xs i)) in
          omega (arith, l, differ),
      ordered_rising key xs o.1 p.1,
    )

pub sorted_rising : {X : Type 0} (key : X → ℕ) (xs : List X) → are_new [] (map key xs) ≡ true → Rising key (sorted_by key xs)
sorted_rising key xs new = ordered_rising key (sorted_by key xs) (sorted_ordered key xs) (sorted_new key xs new)

-- ---- what a function gives of numbers one after another

module _ {X : Type 0} (key : X → ℕ) (f : ℕ → Option X) (numbered : (n : ℕ) (x : X) → f n ≡ Some x → key x ≡ n) where
  counted_step : (from c : ℕ) (o : Option X) (rest : List X) (x : X) → f from ≡ o → (In x rest → (suc from ≤ key x) × (key x < suc from + c) × (f (key x) ≡ Some x)) → In x (cons_option o rest) → (from ≤ key x) × (key x < from + suc c) × (f (key x) ≡ Some x)
  counted_step from c o rest x e h i = search arith

  pub counted_in : (from c : ℕ) (x : X) → In x (filter_map f (count_up from c)) → (from ≤ key x) × (key x < from + c) × (f (key x) ≡ Some x)
  counted_in from zero x i = absurd i
  counted_in from (suc c) x i = counted_step from c (f from) (filter_map f (count_up (suc from) c)) x refl (counted_in (suc from) c x) i

  in_here : (o : Option X) (rest : List X) (x : X) → o ≡ Some x → In x (cons_option o rest)
  in_here None rest x e = absurd cc
  in_here (Some y) rest x e = (let s : y ≡ x = cc e in inl (sym s))

  in_later : (o : Option X) (rest : List X) (x : X) → In x rest → In x (cons_option o rest)
  in_later None rest x i = i
  in_later (Some y) rest x i = inr i

  pub in_counted : (from c n : ℕ) (x : X) → from ≤ n → n < from + c → f n ≡ Some x → In x (filter_map f (count_up from c))
  in_counted from zero n x low high e = absurd (omega (arith, low, high))
  in_counted from (suc c) n x low high e =
      elim (at_or_past from n low) [
        | inl same ↦ in_here (f from) (filter_map f (count_up (suc from) c)) x (ap f (sym same) ∙ e)
        | inr past ↦ in_later (f from) (filter_map f (count_up (suc from) c)) x (in_counted (suc from) c n x past (omega (arith, high)) e)
      ]
    where
      at_or_past : (from n : ℕ) → from ≤ n → (n ≡ from) ⊎ (suc from ≤ n)
      at_or_past from n l = grind arith

  rising_step : (from c : ℕ) (o : Option X) (rest : List X) → f from ≡ o → ((x : X) → In x rest → suc from ≤ key x) → Rising key rest → Rising key (cons_option o rest)
  rising_step from c o rest e low r = search arith

  pub counted_rising : (from c : ℕ) → Rising key (filter_map f (count_up from c))
  counted_rising from zero = tt
  counted_rising from (suc c) =
      rising_step from c (f from) (filter_map f (count_up (suc from) c)) refl (λ x i. (counted_in (suc from) c x i).0) (counted_rising (suc from) c)

  -- it is any list of distinct keys with the same members, in rising order
  pub counted_sorted : (from c : ℕ) (xs : List X) → are_new [] (map key xs) ≡ true → ((x : X) → In x xs → (from ≤ key x) × (key x < from + c) × (f (key x) ≡ Some x)) → ((n : ℕ) (x : X) → f n ≡ Some x → In x xs) → filter_map f (count_up from c) ≡ sorted_by key xs
  counted_sorted from c xs new each all = search (arith, same_list, filter_map, counted_rising, sorted_rising, in_sorted, counted_in, sorted_in, in_counted)

-- ---- what is made of some of the members of a list

module _ {A X : Type 0} (key : X → ℕ) (of : A → ℕ) (g : A → Option X) (numbered : (a : A) (x : X) → g a ≡ Some x → key x ≡ of a) where
  made_step : (a : A) (ws : List A) (o : Option X) (rest : List X) (x : X) → g a ≡ o → (In x rest → (b : A) × In b ws × (g b ≡ Some x)) → In x (cons_option o rest) → (b : A) × In b (a ∷ ws) × (g b ≡ Some x)
  made_step a ws o rest x e h i = search arith

  pub made_in : (ws : List A) (x : X) → In x (filter_map g ws) → (a : A) × In a ws × (g a ≡ Some x)
  made_in [] x i = absurd i
  made_in (a ∷ ws) x i = made_step a ws (g a) (filter_map g ws) x refl (made_in ws x) i

  in_step : (a b : A) (o : Option X) (rest : List X) (x : X) → g a ≡ o → g b ≡ Some x → (b ≡ a) ⊎ In x rest → In x (cons_option o rest)
  in_step a b o rest x e h i = search arith

  pub in_made : (ws : List A) (a : A) (x : X) → In a ws → g a ≡ Some x → In x (filter_map g ws)
  in_made [] a x i e = absurd i
  in_made (b ∷ bs) a x (inl s) e = in_step b a (g b) (filter_map g bs) x refl e (inl s)
  in_made (b ∷ bs) a x (inr i) e = in_step b a (g b) (filter_map g bs) x refl e (inr (in_made bs a x i e))

  pub made_number : (ws : List A) (n : ℕ) → In n (map key (filter_map g ws)) → In n (map of ws)
  made_number ws n i = search (arith, map-In, filter_map, made_in, In-map)

  new_step : (a : A) (ws : List A) (o : Option X) (rest : List X) → g a ≡ o → (In (of a) (map key rest) → ⊥) → are_new [] (map key rest) ≡ true → are_new [] (map key (cons_option o rest)) ≡ true
  new_step a ws o rest e out new = search (arith, new_beside)

  pub made_new : (ws : List A) → are_new [] (map of ws) ≡ true → are_new [] (map key (filter_map g ws)) ≡ true
  made_new [] new = refl
  made_new (a ∷ ws) new =
      let p = are_new-first (of a) (map of ws) new in
      new_step a ws (g a) (filter_map g ws) refl (λ i. p.0 (made_number ws (of a) i)) (made_new ws p.1)

-- two lists of distinct keys that have none in common
pub joined_new : {X : Type 0} (key : X → ℕ) (xs ys : List X) → are_new [] (map key xs) ≡ true → are_new [] (map key ys) ≡ true → ((n : ℕ) → In n (map key xs) → In n (map key ys) → ⊥) → are_new [] (map key (xs ++ ys)) ≡ true
joined_new key xs ys a b apart = search (arith, map-append, are_new-append, and_from, new_beside)
