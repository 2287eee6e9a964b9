-- The byte order of the names in slots: how a name is sought in it, and what it is after one slot changed.
use Rattle.trio_auxdir.proofs.Words.{◌+◌, ◌-◌, ◌<◌, ◌∙◌, ◌≡◌, ◌≢◌, ◌≤◌, IsAt, IsGap, IsLess, IsOrder, IsSome, List, None, Option, Some, ap, arith, cases_eq, cases_lt, false≢true, inl, inr, insert, length, name_of, nth, nth_name, refl, remove, subst, sym, ℕ}
use Rattle.std.specs.Ordering.{nat_cmp, ordering_reverse}
use Rattle.std.specs.declared.cmp.Ordering.TheVariants.{Equal, Greater}
use Rattle.std.specs.Cmp.Lexicographic.{slice_cmp}
use Rattle.std.specs.FinMap.{nat_cmp-IsAntisymmetric, slice_cmp-IsAntisymmetric}
use Rattle.std.proofs.lemmas.Cmp.{nat_list_cmp_total, tied_itself}
use Rattle.std.proofs.lemmas.List.Edits.{length-insert, get_or-insert_below, get_or-insert_at, get_or-insert_above, length-remove, get_or-remove_below, get_or-remove_above}

abbrev Slot : Type 0
Slot = Option (List ℕ)

-- ---- names

pub less_itself : (a : List ℕ) → IsLess a a → ⊥
less_itself a h = let e : slice_cmp nat_cmp a a ≡ Equal = tied_itself nat_list_cmp_total a in cc

less_trans : (a b c : List ℕ) → IsLess a b → IsLess b c → IsLess a c
less_trans a b c h k = nat_list_cmp_total.trans a b c h k

pub greater_less : (a b : List ℕ) → slice_cmp nat_cmp a b ≡ Greater → IsLess b a
greater_less a b e = nat_list_cmp_total.antisymm b a ∙ ap ordering_reverse e

same_less : (a b x y : List ℕ) → a ≡ x → b ≡ y → IsLess x y → IsLess a b
same_less a b x y e f less = rw (e, f) less

some_name : (slot : Slot) → IsSome slot → slot ≡ Some (name_of slot)
some_name None some = absurd (false≢true some)
some_name (Some name) some = refl

some_by : (slot : Slot) (name : List ℕ) → slot ≡ Some name → IsSome slot
some_by None name e = absurd cc
some_by (Some other) name e = refl

none_by : (slot : Slot) → slot ≡ None → IsSome slot → ⊥
none_by None e some = false≢true some
none_by (Some other) e some = absurd cc

same_some : (slot new : Slot) → new ≡ slot → IsSome slot → IsSome new
same_some slot new e some = some_by new (name_of slot) (e ∙ some_name slot some)

-- ---- one comparison more

-- a name that is below stands before where the other belongs, and all before it do
pub below_more : (slot : ℕ → Slot) (order : List ℕ) (name : List ℕ) (middle : ℕ) → IsOrder slot order → middle < length order
    → IsLess (nth_name slot order middle) name
    → (k : ℕ) → k < middle + 1 → IsLess (nth_name slot order k) name
below_more slot order name middle is lt less k before =
    elim (cases_lt k middle) [
      | inl earlier ↦ less_trans (nth_name slot order k) (nth_name slot order middle) name (is.rising k middle earlier lt) less
      | inr from ↦
          let e : k ≡ middle = omega (arith, before, from) in
          same_less (nth_name slot order k) name (nth_name slot order middle) name (ap (nth_name slot order) e) refl less
    ]

-- one that is above stands behind, and all behind it do
pub above_more : (slot : ℕ → Slot) (order : List ℕ) (name : List ℕ) (middle : ℕ) → IsOrder slot order → IsLess name (nth_name slot order middle)
    → (k : ℕ) → middle ≤ k → k < length order → IsLess name (nth_name slot order k)
above_more slot order name middle is less k from lt =
    elim (cases_lt middle k) [
      | inl later ↦ less_trans name (nth_name slot order middle) (nth_name slot order k) less (is.rising middle k later lt)
      | inr until ↦
          let e : k ≡ middle = omega (arith, until, from) in
          same_less name (nth_name slot order k) name (nth_name slot order middle) refl (ap (nth_name slot order) e) less
    ]

-- one that is the same is found
pub same_at : (slot : ℕ → Slot) (order : List ℕ) (name : List ℕ) (middle : ℕ) → IsOrder slot order → middle < length order
    → slice_cmp nat_cmp (nth_name slot order middle) name ≡ Equal → IsAt slot order name middle
same_at slot order name middle is lt e = record {
  within = lt;
  same = some_name (slot (nth order middle)) (is.named middle lt)
      ∙ ap (λ (x : List ℕ). Some x) (slice_cmp-IsAntisymmetric nat_cmp-IsAntisymmetric (nth_name slot order middle) name e);
}

-- ---- the same slots

pub order_same : (slot new : ℕ → Slot) (order : List ℕ) → IsOrder slot order → ((k : ℕ) → new k ≡ slot k) → IsOrder new order
order_same slot new order is same = record {
  named = λ k lt. same_some (slot (nth order k)) (new (nth order k)) (same (nth order k)) (is.named k lt);
  rising = λ j k lt within.
      same_less (nth_name new order j) (nth_name new order k) (nth_name slot order j) (nth_name slot order k)
      (ap name_of (same (nth order j))) (ap name_of (same (nth order k))) (is.rising j k lt within);
  all = λ number some. is.all number (same_some (new number) (slot number) (sym (same number)) some);
}

-- ---- a name that isn't there is put into an empty slot

module _ (slot new : ℕ → Slot) (order : List ℕ) (at n : ℕ) (name : List ℕ)
    (is : IsOrder slot order) (empty : slot n ≡ None) (put : new n ≡ Some name) (others : (k : ℕ) → k ≢ n
    → new k ≡ slot k) (gap : IsGap slot order name at) where
  put-kept : (k : ℕ) → k < length order → new (nth order k) ≡ slot (nth order k)
  put-kept k lt = others (nth order k) (λ e. none_by (slot (nth order k)) (ap slot e ∙ empty) (is.named k lt))

  put-below : (k : ℕ) → k < at → new (nth (insert order at n) k) ≡ slot (nth order k)
  put-below k lt = ap new (get_or-insert_below order at n 0 k lt gap.within) ∙ put-kept k (omega (arith, lt, gap.within))

  put-here : (k : ℕ) → k ≡ at → new (nth (insert order at n) k) ≡ Some name
  put-here k e = ap (λ (i : ℕ). new (nth (insert order at n) i)) e ∙ ap new (get_or-insert_at order at n 0 gap.within) ∙ put

  put-above : (j k : ℕ) → k ≡ j + 1 → at ≤ j → j < length order → new (nth (insert order at n) k) ≡ slot (nth order j)
  put-above j k e from lt =
      ap (λ (i : ℕ). new (nth (insert order at n) i)) e ∙ ap new (get_or-insert_above order at n 0 j from gap.within) ∙ put-kept j lt

  put-named : (k : ℕ) → k < length order + 1 → IsSome (new (nth (insert order at n) k))
  put-named k lt =
      elim (cases_lt k at) [
        | inl before ↦ same_some (slot (nth order k)) (new (nth (insert order at n) k)) (put-below k before) (is.named k (omega (arith, before, gap.within)))
        | inr from ↦
            elim (cases_eq k at) [
              | inl same ↦ some_by (new (nth (insert order at n) k)) name (put-here k same)
              | inr ne ↦
                  same_some (slot (nth order (k - 1))) (new (nth (insert order at n) k))
                  (put-above (k - 1) k (omega (arith, from, ne)) (omega (arith, from, ne)) (omega (arith, from, ne, lt)))
                  (is.named (k - 1) (omega (arith, from, ne, lt)))
            ]
      ]

  put-rising : (j k : ℕ) → j < k → k < length order + 1 → IsLess (nth_name new (insert order at n) j) (nth_name new (insert order at n) k)
  put-rising j k lt within =
      let less : (x y : List ℕ) → nth_name new (insert order at n) j ≡ x → nth_name new (insert order at n) k ≡ y → IsLess x y
      → IsLess (nth_name new (insert order at n) j) (nth_name new (insert order at n) k)
      = λ x y e f less. same_less (nth_name new (insert order at n) j) (nth_name new (insert order at n) k) x y e f less in
      elim (cases_lt k at) [
        | inl before ↦
            less (nth_name slot order j) (nth_name slot order k) (ap name_of (put-below j (omega (arith, before, lt)))) (ap name_of (put-below k before))
            (is.rising j k lt (omega (arith, before, gap.within)))
        | inr from ↦
            elim (cases_eq k at) [
              | inl same ↦
                  let before : j < at = omega (arith, lt, same) in
                  less (nth_name slot order j) name (ap name_of (put-below j before)) (ap name_of (put-here k same)) (gap.below j before)
              | inr ne ↦
                  let behind = ap name_of (put-above (k - 1) k (omega (arith, from, ne)) (omega (arith, from, ne)) (omega (arith, from, ne, within))) in
                  let last : k - 1 < length order = omega (arith, from, ne, within) in
                  elim (cases_lt j at) [
                    | inl before ↦ less (nth_name slot order j) (nth_name slot order (k - 1)) (ap name_of (put-below j before)) behind (is.rising j
                        (k - 1) (omega (arith, before, from, ne)) last)
                    | inr from' ↦
                        elim (cases_eq j at) [
                          | inl same ↦ less name (nth_name slot order (k - 1)) (ap name_of (put-here j same)) behind (gap.above (k - 1) (omega
                              (arith, from, ne)) last)
                          | inr ne' ↦
                              less (nth_name slot order (j - 1)) (nth_name slot order (k - 1))
                              (ap name_of (put-above (j - 1) j (omega (arith, from', ne')) (omega (arith, from', ne')) (omega
                              (arith, from', ne', lt, within)))) behind
                              (is.rising (j - 1) (k - 1) (omega (arith, from', ne', lt)) last)
                        ]
                  ]
            ]
      ]

  put-all : (number : ℕ) → IsSome (new number) → (k : ℕ) × (k < length order + 1) × (nth (insert order at n) k ≡ number)
  put-all number some =
      elim (cases_eq number n) [
        | inl same ↦ (at, omega (arith, gap.within), get_or-insert_at order at n 0 gap.within ∙ sym same)
        | inr ne ↦
            let there = is.all number (same_some (new number) (slot number) (sym (others number ne)) some) in
            elim (cases_lt there.0 at) [
              | inl before ↦ (there.0, omega (arith, there.1), get_or-insert_below order at n 0 there.0 before gap.within ∙ there.2)
              | inr from ↦ (there.0 + 1, omega (arith, there.1), get_or-insert_above order at n 0 there.0 from gap.within ∙ there.2)
            ]
      ]

  pub order_put : IsOrder new (insert order at n)
  order_put =
      let len = length-insert order at n gap.within in
      record {
        named = λ k lt. put-named k (omega (arith, lt, len));
        rising = λ j k lt within. put-rising j k lt (omega (arith, within, len));
        all = λ number some. let there = put-all number some in (there.0, omega (arith, there.1, len), there.2);
      }

-- ---- the slot of a name is emptied

module _ (slot new : ℕ → Slot) (order : List ℕ) (at n : ℕ) (is : IsOrder slot order) (within : at < length order) (number : nth order at ≡ n)
    (emptied : new n ≡ None) (others : (k : ℕ) → k ≢ n → new k ≡ slot k) where
  -- the number stands at one place alone
  once : (j k : ℕ) → j < k → k < length order → nth order j ≢ nth order k
  once j k lt below e =
      less_itself (nth_name slot order k)
      (subst (λ (x : List ℕ). IsLess x (nth_name slot order k)) (ap (λ (m : ℕ). name_of (slot m)) e) (is.rising j k lt below))

  gone-kept : (k : ℕ) → k < length order → k ≢ at → new (nth order k) ≡ slot (nth order k)
  gone-kept k lt ne =
      others (nth order k)
      (λ e.
      elim (cases_lt k at) [
        | inl before ↦ once k at before within (e ∙ sym number)
        | inr from ↦ once at k (omega (arith, from, ne)) lt (number ∙ sym e)
      ])

  gone-below : (k : ℕ) → k < at → new (nth (remove order at) k) ≡ slot (nth order k)
  gone-below k lt = ap new (get_or-remove_below order at 0 k lt within) ∙ gone-kept k (omega (arith, lt, within)) (λ e. omega (arith, e, lt))

  gone-above : (k : ℕ) → at ≤ k → k + 1 < length order → new (nth (remove order at) k) ≡ slot (nth order (k + 1))
  gone-above k from lt = ap new (get_or-remove_above order at 0 k from within) ∙ gone-kept (k + 1) lt (λ e. omega (arith, e, from))

  gone-named : (k : ℕ) → k + 1 < length order → IsSome (new (nth (remove order at) k))
  gone-named k lt =
      elim (cases_lt k at) [
        | inl before ↦ same_some (slot (nth order k)) (new (nth (remove order at) k)) (gone-below k before) (is.named k (omega (arith, lt)))
        | inr from ↦ same_some (slot (nth order (k + 1))) (new (nth (remove order at) k)) (gone-above k from lt) (is.named (k + 1) lt)
      ]

  gone-rising : (j k : ℕ) → j < k → k + 1 < length order → IsLess (nth_name new (remove order at) j) (nth_name new (remove order at) k)
  gone-rising j k lt below =
      let less : (x y : List ℕ) → nth_name new (remove order at) j ≡ x → nth_name new (remove order at) k ≡ y → IsLess x y
      → IsLess (nth_name new (remove order at) j) (nth_name new (remove order at) k)
      = λ x y e f less. same_less (nth_name new (remove order at) j) (nth_name new (remove order at) k) x y e f less in
      elim (cases_lt k at) [
        | inl before ↦
            less (nth_name slot order j) (nth_name slot order k) (ap name_of (gone-below j (omega (arith, before, lt)))) (ap name_of (gone-below k before))
            (is.rising j k lt (omega (arith, below)))
        | inr from ↦
            elim (cases_lt j at) [
              | inl before ↦
                  less (nth_name slot order j) (nth_name slot order (k + 1)) (ap name_of (gone-below j before)) (ap name_of (gone-above k from below))
                  (is.rising j (k + 1) (omega (arith, lt)) below)
              | inr from' ↦
                  less (nth_name slot order (j + 1)) (nth_name slot order (k + 1))
                  (ap name_of (gone-above j from' (omega (arith, lt, below)))) (ap name_of (gone-above k from below))
                  (is.rising (j + 1) (k + 1) (omega (arith, lt)) below)
            ]
      ]

  gone-all : (m : ℕ) → IsSome (new m) → (k : ℕ) × (k + 1 < length order) × (nth (remove order at) k ≡ m)
  gone-all m some =
      let ne : m ≢ n = λ e. none_by (new m) (ap new e ∙ emptied) some in
      let there = is.all m (same_some (new m) (slot m) (sym (others m ne)) some) in
      let apart : there.0 ≢ at = λ e. ne (sym there.2 ∙ ap (nth order) e ∙ number) in
      elim (cases_lt there.0 at) [
        | inl before ↦ (there.0, omega (arith, before, within), get_or-remove_below order at 0 there.0 before within ∙ there.2)
        | inr from ↦
            let e : there.0 - 1 + 1 ≡ there.0 = omega (arith, from, apart) in (
              there.0 - 1,
              omega (arith, from, apart, there.1),
              get_or-remove_above order at 0 (there.0 - 1) (omega (arith, from, apart)) within ∙ ap (nth order) e ∙ there.2,
            )
      ]

  pub order_emptied : IsOrder new (remove order at)
  order_emptied =
      let len = length-remove order at within in
      record {
        named = λ k lt. gone-named k (omega (arith, lt, len));
        rising = λ j k lt below. gone-rising j k lt (omega (arith, below, len));
        all = λ m some. let there = gone-all m some in (there.0, omega (arith, there.1, len), there.2);
      }
