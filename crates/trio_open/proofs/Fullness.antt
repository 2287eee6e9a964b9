-- The pages of a bundle are whole where those of its leases and its allotted ones are.
use Rattle.trio_open.proofs.Words.{◌++◌, ◌+◌, ◌<◌, ◌∙◌, ◌∷◌, ◌≡◌, AreWhole, Bundled, FreshParts, In, LentFile, LentPage, List, Option, Sheet, Some, Written, [], ap, arith, bundle_in, flat_map, fresh_sheet, get_or, inl, inr, length, lent_sheet, map, map-In, option_map, page_at, refl, slice_get, subst, suc, sym, take, written_in, zero, ℕ}
use Rattle.std.proofs.lemmas.List.{take_all}
use Rattle.std.proofs.lemmas.Option.{slice_get_read}
use Rattle.trio_lists.proofs.Members.{In-cases, flat_map-In}
use Rattle.trio_state.specs.Moves.{IsFull}
use Rattle.trio_open.proofs.Given.{whole_sheets}

-- each of a list, where each of its first i is and the next one is
module _ {X : Type 0} (P : X → Type 0) where
  each_more : (xs : List X) (i : ℕ) → ((x : X) → In x (take i xs) → P x) → ((x : X) → slice_get xs i ≡ Some x → P x) → (x : X) → In x (take (suc i) xs) → P x
  each_more [] i before here x there = absurd there
  each_more (y ∷ ys) zero before here x (inl same) = subst P (sym same) (here y refl)
  each_more (y ∷ ys) zero before here x (inr there) = absurd there
  each_more (y ∷ ys) (suc i) before here x (inl same) = before x (inl same)
  each_more (y ∷ ys) (suc i) before here x (inr there) = each_more ys i (λ z k. before z (inr k)) here x there

  pub each_next : (xs : List X) (i : ℕ) → ((x : X) → In x (take i xs) → P x) → ((x : X) → slice_get xs i ≡ Some x → P x) → (x : X) → In x (take (i + 1) xs) → P x
  each_next xs i before here = λ x there. (let up : i + 1 ≡ suc i = omega arith in each_more xs i before here x (subst (λ n. In x (take n xs)) up there))

  some_is : (x y : X) → Some x ≡ Some y → x ≡ y
  some_is x y e = cc

  pub each_item : (xs : List X) (i : ℕ) (x : X) → i < length xs → x ≡ get_or xs i x → ((y : X) → In y (take i xs) → P y) → P x → (y : X) → In y (take (i + 1) xs) → P y
  each_item xs i x lt is before here = each_next xs i before (λ y e. subst P (some_is x y (sym (slice_get_read xs (length xs) i x refl lt is) ∙ e)) here)

  pub each_all : (xs : List X) (n : ℕ) → n ≡ length xs → ((x : X) → In x (take n xs) → P x) → (x : X) → In x xs → P x
  each_all xs n end all = λ x there. all x (subst (λ ys. In x ys) (sym (take_all n xs (omega (arith, end)))) there)

-- a lent page at a place, by its bytes
pub whole_at : (ps : List LentPage) (i : ℕ) (o : Option (List ℕ)) → o ≡ page_at ps i → ((bytes : List ℕ) → o ≡ Some bytes → length bytes ≡ 4096) → (p : LentPage) → slice_get ps i ≡ Some p → length p.page ≡ 4096
whole_at ps i o is whole p here = whole p.page (is ∙ ap (option_map (λ (p : LentPage). p.page)) here)

pub full : (b : Bundled) → ((f : LentFile) → In f b.writes → AreWhole f.stands.index × AreWhole f.stands.blocks) → ((p : FreshParts) → In p b.pages → length p.page ≡ 4096) → IsFull (bundle_in b)
full b lent fresh = λ x i.
    elim (In-cases x (flat_map (λ (w : Written). w.index ++ w.blocks) (map (λ (f : LentFile). written_in f.stands) b.writes)) (map fresh_sheet b.pages) i) [
      | inl j ↦
          let w = flat_map-In (λ (w : Written). w.index ++ w.blocks) x (map (λ (f : LentFile). written_in f.stands) b.writes) j in
          let f = map-In (λ (f : LentFile). written_in f.stands) w.0 b.writes w.1 in
          let l = lent f.0 f.1 in
          let here : In x (map lent_sheet f.0.stands.index ++ map lent_sheet f.0.stands.blocks) = subst (λ (y : Written). In x (y.index ++ y.blocks)) f.2 w.2 in
          elim (In-cases x (map lent_sheet f.0.stands.index) (map lent_sheet f.0.stands.blocks) here) [
            | inl a ↦ whole_sheets f.0.stands.index l.0 x a
            | inr c ↦ whole_sheets f.0.stands.blocks l.1 x c
          ]
      | inr j ↦ (let p = map-In fresh_sheet x b.pages j in ap (λ (y : Sheet). length y.bytes) p.2 ∙ fresh p.0 p.1)
    ]
