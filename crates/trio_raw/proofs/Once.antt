-- What is named and what is left, where no number stands twice.
use Rattle.trio_raw.proofs.Words.{◌++◌, ◌∙◌, ◌∷◌, ◌≡◌, ◌⊎◌, In, In-cases, In-left, In-map, List, None, Option, Some, [], and_from, and_parts, ap, are_new, are_new-append, are_new-fewer, are_new-first, both_ways, cases_Bool, cons_option, eqb, eqb-true, find, find-In, inl, inr, is_among, is_among-not, map, map-In, map-append, named, not, not_from_false, refl, subst, sym, true, without, without_all, ℕ}
use Rattle.std.proofs.lemmas.Bool.{eq-eqb}
use Rattle.trio_lists.proofs.Gathered.{new_beside}
use Rattle.trio_raw.proofs.Places.{named-first}

-- numbers that stand once, and more that stand once and apart
pub once_more : (xs ys : List ℕ) → are_new [] xs ≡ true → are_new xs ys ≡ true → are_new [] (xs ++ ys) ≡ true
once_more xs ys h k = are_new-append [] xs ys ∙ and_from (are_new [] xs) (are_new xs ys) h k

module _ {X : Type 0} (number : X → ℕ) where
  -- what is named is one of the things, and of a number that is named
  pub named_in : (xs : List X) (names : List ℕ) (y : X) → In y (named number xs names) → In y xs × In (number y) names
  named_in xs [] y i = absurd i
  named_in xs (n ∷ names) y i = by_find (λ j. named_in xs names y j) (find (λ x. eqb (number x) n) xs) refl i
    where
      by_find : (In y (named number xs names) → In y xs × In (number y) names) → (o : Option X) → find (λ x. eqb (number x) n) xs ≡ o → In y (cons_option o (named number xs names)) → In y xs × ((number y ≡ n) ⊎ In (number y) names)
      by_find later None e j = let r = later j in (r.0, inr r.1)
      by_find later (Some x) e (inl s) =
          let r = find-In (λ x. eqb (number x) n) xs x e in
          (subst (λ z. In z xs) (sym s) r.0, inl (ap number s ∙ eqb-true (number x) n r.1))
      by_find later (Some x) e (inr j) = let r = later j in (r.0, inr r.1)

  -- what is named once stands once
  pub named_once : (xs : List X) (names seen : List ℕ) → are_new seen names ≡ true → are_new seen (map number (named number xs names)) ≡ true
  named_once xs [] seen h = refl
  named_once xs (n ∷ names) seen h =
      let parts = and_parts (not (is_among n seen)) (are_new (seen ++ n ∷ []) names) h in
      by_find parts.0 (named_once xs names (seen ++ n ∷ []) parts.1) (find (λ x. eqb (number x) n) xs) refl
    where
      others : List ℕ
      others = map number (named number xs names)

      by_find : not (is_among n seen) ≡ true → are_new (seen ++ n ∷ []) others ≡ true → (o : Option X) → find (λ x. eqb (number x) n) xs ≡ o → are_new seen (map number (cons_option o (named number xs names))) ≡ true
      by_find new rest None e = are_new-fewer seen (seen ++ n ∷ []) others (λ m i. In-left m seen (n ∷ []) i) rest
      by_find new rest (Some x) e =
          let same : number x ≡ n = eqb-true (number x) n (find-In (λ x. eqb (number x) n) xs x e).1 in
          subst (λ m. are_new seen (m ∷ others) ≡ true) (sym same) (and_from (not (is_among n seen)) (are_new (seen ++ n ∷ []) others) new rest)

  pub without_in : (xs : List X) (n : ℕ) (y : X) → In y (without number xs n) → In y xs
  without_in [] n y i = i
  without_in (x ∷ xs) n y i =
      elim (cases_Bool (eqb (number x) n)) [
        | inl t ↦ (let j : In y xs = rw t at i in inr j)
        | inr f ↦
            (let j : (y ≡ x) ⊎ In y (without number xs n) = rw f at i in
            elim j [ inl s ↦ inl s | inr k ↦ inr (without_in xs n y k) ])
      ]

  pub without_all_in : (xs : List X) (names : List ℕ) (y : X) → In y (without_all number xs names) → In y xs
  without_all_in xs [] y i = i
  without_all_in xs (n ∷ names) y i = without_in xs n y (without_all_in (without number xs n) names y i)

  pub without_new : (xs : List X) (n : ℕ) (seen : List ℕ) → are_new seen (map number xs) ≡ true → are_new seen (map number (without number xs n)) ≡ true
  without_new [] n seen h = h
  without_new (x ∷ xs) n seen h =
      let parts = and_parts (not (is_among (number x) seen)) (are_new (seen ++ number x ∷ []) (map number xs)) h in
      elim (cases_Bool (eqb (number x) n)) [
        | inl t ↦ rw t (are_new-fewer seen (seen ++ number x ∷ []) (map number xs) (λ m i. In-left m seen (number x ∷ []) i) parts.1)
        | inr f ↦
            rw f (and_from (not (is_among (number x) seen)) (are_new (seen ++ number x ∷ []) (map number (without number xs n))) parts.0
            (without_new xs n (seen ++ number x ∷ []) parts.1))
      ]

  -- numbers that stand once still do
  pub without_all_once : (xs : List X) (names : List ℕ) → are_new [] (map number xs) ≡ true → are_new [] (map number (without_all number xs names)) ≡ true
  without_all_once xs [] h = h
  without_all_once xs (n ∷ names) h = without_all_once (without number xs n) names (without_new xs n [] h)

  -- and of a number that is named nothing is left
  pub gone : (xs : List X) (n : ℕ) (y : X) → are_new [] (map number xs) ≡ true → In y (without number xs n) → number y ≡ n → ⊥
  gone [] n y h i e = i
  gone (x ∷ xs) n y h i e =
      let once = are_new-first (number x) (map number xs) h in
      elim (cases_Bool (eqb (number x) n)) [
        | inl t ↦
            (let j : In y xs = rw t at i in
            once.0 (subst (λ m. In m (map number xs)) (e ∙ sym (eqb-true (number x) n t)) (In-map number y xs j)))
        | inr f ↦
            (let j : (y ≡ x) ⊎ In y (without number xs n) = rw f at i in
            elim j [
              | inl s ↦ both_ways (eqb (number x) n) f (eq-eqb (number x) n (ap number (sym s) ∙ e))
              | inr k ↦ gone xs n y once.1 k e
            ])
      ]

  pub all_gone : (xs : List X) (names : List ℕ) (y : X) → are_new [] (map number xs) ≡ true → In y (without_all number xs names) → In (number y) names → ⊥
  all_gone xs [] y h i j = j
  all_gone xs (n ∷ names) y h i (inl e) = gone xs n y h (without_all_in (without number xs n) names y i) e
  all_gone xs (n ∷ names) y h i (inr j) = all_gone (without number xs n) names y (without_new xs n [] h) i j

  -- what is there is left or named
  in_without : (xs : List X) (n : ℕ) (y : X) → In y xs → In y (without number xs n) ⊎ (find (λ x. eqb (number x) n) xs ≡ Some y)
  in_without [] n y i = absurd i
  in_without (x ∷ xs) n y i =
      elim (cases_Bool (eqb (number x) n)) [
        | inl t ↦ elim i [
          | inl e ↦ inr (rw t (ap Some (sym e)))
          | inr j ↦ inl (rw t j)
        ]
        | inr f ↦ elim i [
          | inl e ↦ inl (rw f (inl e))
          | inr j ↦ elim (in_without xs n y j) [
            | inl a ↦ inl (rw f (inr a))
            | inr b ↦ inr (rw f b)
          ]
        ]
      ]

  In-cons_option : (o : Option X) (y : X) (ys : List X) → In y ys → In y (cons_option o ys)
  In-cons_option None y ys i = i
  In-cons_option (Some x) y ys i = inr i

  pub left_or_named : (xs : List X) (names : List ℕ) (y : X) → are_new [] names ≡ true → In y xs → In y (without_all number xs names) ⊎ In y (named number xs names)
  left_or_named xs [] y once i = inl i
  left_or_named xs (n ∷ names) y once i =
      let first = named-first number xs n names once in
      elim (in_without xs n y i) [
        | inl j ↦ elim (left_or_named (without number xs n) names y (are_new-first n names once).1 j) [
          | inl a ↦ inl a
          | inr b ↦ inr (subst (In y) (sym first) (In-cons_option (find (λ x. eqb (number x) n) xs) y (named number (without number xs n) names) b))
        ]
        | inr e ↦ inr (subst (In y) (sym first) (subst (λ o. In y (cons_option o (named number (without number xs n) names))) (sym e) (inl refl)))
      ]

  -- of what is left no number is that of something named
  pub left_unnamed : (xs : List X) (names : List ℕ) (y : X) → are_new [] (map number xs) ≡ true → In y (without_all number xs names) → not (is_among (number y) (map number (named number xs names))) ≡ true
  left_unnamed xs names y once i =
      not_from_false (is_among (number y) (map number (named number xs names)))
      (is_among-not (number y) (map number (named number xs names)) (λ j.
      let r = map-In number (number y) (named number xs names) j in
      let k = named_in xs names r.0 r.1 in
      all_gone xs names y once i (subst (λ m. In m names) (sym r.2) k.1)))

  -- all once, in another order
  pub back_once : (xs : List X) (names : List ℕ) → are_new [] names ≡ true → are_new [] (map number xs) ≡ true → are_new [] (map number (without_all number xs names ++ named number xs names)) ≡ true
  back_once xs names names_once once =
      let rest = map number (without_all number xs names) in
      let back = map number (named number xs names) in
      ap (are_new []) (map-append number (without_all number xs names) (named number xs names))
      ∙ once_more rest back (without_all_once xs names once)
      (new_beside rest back (named_once xs names [] names_once) (λ n i j.
      let r = map-In number n (without_all number xs names) j in
      let s = map-In number n (named number xs names) i in
      let k = named_in xs names s.0 s.1 in
      all_gone xs names r.0 once r.1 (subst (λ m. In m names) (sym s.2 ∙ r.2) k.1)))

  pub back_in : (xs : List X) (names : List ℕ) (y : X) → In y (without_all number xs names ++ named number xs names) → In y xs
  back_in xs names y i = elim (In-cases y (without_all number xs names) (named number xs names) i) [
    | inl a ↦ without_all_in xs names y a
    | inr b ↦ (named_in xs names y b).0
  ]
