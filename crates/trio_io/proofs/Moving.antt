-- Loops that read into a buffer or write from one.
use Rattle.std.proofs.Common.{◌≡◌, ℕ, ◌+◌, ◌-◌, ◌≤◌, List, ◌++◌, length, take, drop, slice_range, Option, sym, ap, subst, ◌∙◌, le_refl, drop_at, length-take-le, arith}
use Rattle.std.proofs.Math.Seq.{take-add}
use Rattle.std.proofs.lemmas.List.{take_rest, take-append-le}
use Rattle.std.proofs.lemmas.Slice.{take-put_mid_below}
use Rattle.std.specs.Io.KnownBytes.{Appends, Consumes, Keeps}
use Rattle.std.proofs.KnownBytes.{Appends-trans, Appends-kept, Consumes-trans, Consumes-kept}
use borrow.Rule.Slice.PartMut.{put_mid, post_of}

-- a writer has got the first n bytes, and the count has not fallen
pub record Written (start now : Option (List ℕ)) (all : List ℕ) (n faults faults' : ℕ) : Type 0 where
  pub within : n ≤ length all
  pub appended : Appends start now (take n all)
  pub later : faults ≤ faults'

-- after a write of so many more
pub Written-took : (start now next : Option (List ℕ)) (all part : List ℕ) (n count f f' : ℕ) → Written start now all n f f' → part ≡ take (length all - n) (drop n all) → n + count ≤ length all → Appends now next (take count part) → Written start next all (n + count) f f'
Written-took start now next all part n count f f' w is within took =
    let joined : take n all ++ take count part ≡ take (n + count) all = ap (λ (l : List ℕ). take n all ++ take count l) (is ∙ take_rest all n) ∙ sym (take-add n count all) in
    record {
      within = within;
      appended = subst (Appends start next) joined (Appends-trans start now next (take n all) (take count part) w.appended took);
      later = w.later;
    }

-- after a write that failed
pub Written-kept : (start now next : Option (List ℕ)) (all : List ℕ) (n f f' f'' : ℕ) → Written start now all n f f' → Keeps now next → f' ≤ f'' → Written start next all n f f''
Written-kept start now next all n f f' f'' w kept le = record {
  within = w.within;
  appended = Appends-kept start now next (take n all) w.appended kept;
  later = omega (arith, w.later);
}

-- a reader has given the first n bytes, and the count has not fallen
pub record Filled (start now : Option (List ℕ)) (buf : List ℕ) (n faults faults' : ℕ) : Type 0 where
  pub within : n ≤ length buf
  pub consumed : Consumes start now (take n buf)
  pub later : faults ≤ faults'

take_split : (a b : ℕ) (old new : List ℕ) → a ≤ b → take a new ≡ take a old → take a old ++ slice_range new a b ≡ take b new
take_split a b old new h front =
    let same : a + (b - a) ≡ b = omega arith in
    ap (λ (l : List ℕ). l ++ slice_range new a b) (sym front) ∙ sym (take-add a (b - a) new) ∙ ap (λ (n : ℕ). take n new) same

slice_range-put_mid : (a k n : ℕ) (xs ys : List ℕ) → a ≤ length xs → n ≤ length ys → slice_range (put_mid a k xs ys) a (a + n) ≡ take n ys
slice_range-put_mid a k n xs ys within fits =
    let same : (a + n) - a ≡ n = omega arith in
    let after : List ℕ = post_of a k xs in
    ap (take ((a + n) - a)) (drop_at (take a xs) (ys ++ after) a (length-take-le a xs within)) ∙ ap (λ (m : ℕ). take m (ys ++ after)) same ∙ take-append-le n ys after fits

-- after a read of so many more
pub Filled-took : (start now next : Option (List ℕ)) (buf part : List ℕ) (n count f f' : ℕ) → Filled start now buf n f f' → count ≤ length part → n + count ≤ length (put_mid n (length buf - n) buf part) → Consumes now next (take count part) → Filled start next (put_mid n (length buf - n) buf part) (n + count) f f'
Filled-took start now next buf part n count f f' w fits within took =
    let new : List ℕ = put_mid n (length buf - n) buf part in
    let fresh : slice_range new n (n + count) ≡ take count part = slice_range-put_mid n (length buf - n) count buf part w.within fits in
    let front : take n new ≡ take n buf = take-put_mid_below _ _ _ _ _ (le_refl _) w.within in
    let joined : take n buf ++ take count part ≡ take (n + count) new = ap (λ (l : List ℕ). take n buf ++ l) (sym fresh) ∙ take_split n (n + count) buf new (omega arith) front in
    record {
      within = within;
      consumed = subst (Consumes start next) joined (Consumes-trans start now next (take n buf) (take count part) w.consumed took);
      later = w.later;
    }

-- after a read that failed
pub Filled-kept : (start now next : Option (List ℕ)) (buf part : List ℕ) (n f f' f'' : ℕ) → Filled start now buf n f f' → n ≤ length (put_mid n (length buf - n) buf part) → Keeps now next → f' ≤ f'' → Filled start next (put_mid n (length buf - n) buf part) n f f''
Filled-kept start now next buf part n f f' f'' w within kept le =
    let new : List ℕ = put_mid n (length buf - n) buf part in
    let front : take n new ≡ take n buf = take-put_mid_below _ _ _ _ _ (le_refl _) w.within in
    record {
      within = within;
      consumed = subst (Consumes start next) (sym front) (Consumes-kept start now next (take n buf) w.consumed kept);
      later = omega (arith, w.later);
    }
