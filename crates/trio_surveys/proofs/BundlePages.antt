-- The pages of a bundle alone, and the same pages put in place in an image.
use Rattle.trio_surveys.proofs.Words.{◌<◌, ◌∙◌, ◌∷◌, ◌≡◌, ◌≤◌, Bundle, Core, Creds, Image, In, List, None, Option, Sheet, Some, [], and_parts, ap, arith, bundle_core, bundle_pages, bundle_sheets, case_of, inl, inr, is_core, leb, length, length-set, ltb, ltb-true, option_map, page_of, proposed, replicate, sheet_numbers, slice_get, slice_set, sym, true, with_pages, ℕ}
use Rattle.std.proofs.lemmas.List.{length-replicate}
use Rattle.trio_surveys.proofs.SheetLaws.{get-set_same}
use Rattle.trio_surveys.proofs.Sheets.{Pages, among_cases, with_pages_apart, page_from, place_there}

-- a page that is put in place is the same over any two lists that have a place for it
handed : (ss : List Sheet) (a b : Pages) (p : ℕ) → p < length a → p < length b → In p (sheet_numbers ss) → (bytes : List ℕ) × (slice_get (with_pages ss a) p ≡ Some (Some bytes)) × (slice_get (with_pages ss b) p ≡ Some (Some bytes))
handed [] a b p la lb i = absurd i
handed (x ∷ xs) a b p la lb i =
    let a' : Pages = slice_set a x.page (Some x.bytes) in
    let b' : Pages = slice_set b x.page (Some x.bytes) in
    elim (among_cases p (sheet_numbers xs)) [
      | inl later ↦
          let la' : p < length a' = omega (arith, la, length-set a x.page (Some x.bytes)) in
          let lb' : p < length b' = omega (arith, lb, length-set b x.page (Some x.bytes)) in
          handed xs a' b' p la' lb' later
      | inr none ↦
          elim i [
            | inr later ↦ absurd (none later)
            | inl here ↦ (x.bytes, set_at xs a x p la none here, set_at xs b x p lb none here)
          ]
    ]
  where
    set_at : (xs : List Sheet) (a : Pages) (x : Sheet) (p : ℕ) → p < length a → (In p (sheet_numbers xs) → ⊥) → p ≡ x.page → slice_get (with_pages xs (slice_set a x.page (Some x.bytes))) p ≡ Some (Some x.bytes)
    set_at xs a x p l none here =
        let o = place_there a p l in
        with_pages_apart xs (slice_set a x.page (Some x.bytes)) p none
        ∙ ap (λ k. slice_get (slice_set a k (Some x.bytes)) p) (sym here)
        ∙ get-set_same a p (Some x.bytes)
        ∙ ap (option_map (λ _. Some x.bytes)) o.1

module _ (image : Image) (creds : Creds) (b : Bundle) where
  abbrev pub cb : Core
  cb = bundle_core (case_of image creds b)

  module _ (long : image.core.range.end ≤ length image.core.pages) where
    -- a page of the bundle is there alone as it is in the image with the bundle's pages in place
    pub in_there : (p : ℕ) → is_core image.core.range p ≡ true → In p (bundle_pages b) → (bytes : List ℕ) × (page_of cb p ≡ Some bytes) × (page_of (proposed image b) p ≡ Some bytes)
    in_there p core i =
        let blanks : List (Option (List ℕ)) = replicate image.core.range.end None in
        let below : p < image.core.range.end = ltb-true p image.core.range.end (and_parts (leb image.core.range.first p) (ltb p image.core.range.end) core).1 in
        let nothing : Option (List ℕ) = None in
        let la : p < length blanks = omega (arith, below, length-replicate image.core.range.end nothing) in
        let lb : p < length image.core.pages = omega (arith, below, long) in
        let h = handed (bundle_sheets b) blanks image.core.pages p la lb i in
        (h.0, page_from cb p h.0 core h.1, page_from (proposed image b) p h.0 core h.2)

    pub there_same : (p : ℕ) → is_core image.core.range p ≡ true → In p (bundle_pages b) → page_of (proposed image b) p ≡ page_of cb p
    there_same p core i = let h = in_there p core i in h.2 ∙ sym h.1
