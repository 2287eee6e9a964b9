-- Pages that were moved to their places in a list are the ones that store an image.
use Rattle.trio_ctl.proofs.Words.{◌++◌, ◌+◌, ◌-◌, ◌<◌, ◌∙◌, ◌≡◌, ◌≤◌, List, None, Option, Some, ap, arith, cases_lt, fillings_from, get_or, inl, inr, le-ltb, length, length-append, lt-ltb, or_zero, page_or, pages_from, refl, sym, tabulated-get, tabulated-length, ℕ}
use Rattle.std.proofs.lemmas.List.{ext_get_or, get_or_append_left, get_or-append_right}
use Rattle.trio_ctl.specs.inner.Pages.{filling, AreMoved}

-- what stands in a place in the end is the page, or zeros
filled : (o : Option (List ℕ)) → page_or o (filling o) ≡ or_zero o
filled None = refl
filled (Some bytes) = refl

-- as many places as there are pages
pub places : (home front : List (Option (List ℕ))) (first n : ℕ) → length (front ++ fillings_from home first n) ≡ length front + n
places home front first n =
    length-append front (fillings_from home first n) ∙ ap (λ k. length front + k) (tabulated-length (λ k. filling (get_or home (first + k) None)) n)

module _ (home front new : List (Option (List ℕ))) (first n : ℕ) (moved : AreMoved home first (length front) (front ++ fillings_from home first n) new) (many : length new ≡ length (front ++ fillings_from home first n)) where
  late : (k : ℕ) → length front ≤ k → k < length front + n → get_or new k None ≡ get_or (front ++ pages_from home first n) k None
  late k le lt =
      let at : ℕ = k - length front in
      let below : at < n = omega arith in
      let is = moved k (omega (arith, places home front first n)) in
      let was : get_or (front ++ fillings_from home first n) k None ≡ filling (get_or home (first + at) None) =
      get_or-append_right front (fillings_from home first n) (length front) k None refl le ∙ tabulated-get (λ i. filling (get_or home (first + i) None)) n at None below in
      let will : get_or (front ++ pages_from home first n) k None ≡ or_zero (get_or home (first + at) None) =
      get_or-append_right front (pages_from home first n) (length front) k None refl le ∙ tabulated-get (λ i. or_zero (get_or home (first + i) None)) n at None below in
      let told = rw (le-ltb k (length front) le) at is in
      told ∙ ap (λ o. page_or (get_or home (first + at) None) o) was ∙ filled (get_or home (first + at) None) ∙ sym will

  early : (k : ℕ) → k < length front → get_or new k None ≡ get_or (front ++ pages_from home first n) k None
  early k lt =
      let is = moved k (omega (arith, places home front first n)) in
      let told = rw (lt-ltb k (length front) lt) at is in
      told ∙ get_or_append_left front (fillings_from home first n) None k lt ∙ sym (get_or_append_left front (pages_from home first n) None k lt)

  pub moved_is : new ≡ front ++ pages_from home first n
  moved_is =
      let will = length-append front (pages_from home first n) ∙ ap (λ k. length front + k) (tabulated-length (λ k. or_zero (get_or home (first + k) None)) n) in
      ext_get_or None new (front ++ pages_from home first n) (many ∙ places home front first n ∙ sym will)
      (λ k lt. elim (cases_lt k (length front)) [
        | inl before ↦ early k before
        | inr after ↦ late k after (omega (arith, lt, many, places home front first n))
      ])
