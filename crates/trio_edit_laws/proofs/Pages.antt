-- Pages in hand by their numbers: which bytes they have, and what a write of one or of a body leaves.
use Rattle.trio_edit_laws.proofs.Words.{◌++◌, ◌∙◌, ◌≡◌, DeskSeen, In, In-cases, InHand, LentFile, LibOut, List, Parcel, Sheet, Some, WasGiven, Written, [], ap, are_new, arith, bundle_of, bundle_pages, core_in_hand, flat_map, flat_map-In, fresh_sheet, inl, inr, is_core, length, lent_sheet, map, map-In, page_in, page_of, pages_in_hand, sheet_at, sheets_of, subst, sym, true, written_in, ℕ}
use Rattle.trio_surveys.proofs.SheetLaws.{page_of_at}
use Rattle.trio_surveys.proofs.Sheets.{with_pages_apart}
use Rattle.trio_laws.proofs.session.Reading.{sheet_there}

-- among the core's pages in hand it has these bytes
pub page_of-hand : (desk : DeskSeen) (h : InHand) (n : ℕ) → are_new [] (pages_in_hand h) ≡ true → In n (pages_in_hand h) → is_core desk.sizes.range n ≡ true → page_of (core_in_hand desk h) n ≡ Some (page_in h.parcel n)
page_of-hand desk h n once i core =
    let x = sheet_at h.parcel n i in
    ap (page_of (core_in_hand desk h)) (sym x.2)
    ∙ sheet_there desk.sizes.range desk.sizes.inodes (sheets_of h.parcel) x.0 once x.1 (ap (is_core desk.sizes.range) x.2 ∙ core)
    ∙ ap Some (sym x.3)

-- a page that isn't in hand is the same among whatever is in hand
pub page_of-elsewhere : (desk : DeskSeen) (h h' : InHand) (n : ℕ) → (In n (pages_in_hand h) → ⊥) → (In n (pages_in_hand h') → ⊥) → page_of (core_in_hand desk h') n ≡ page_of (core_in_hand desk h) n
page_of-elsewhere desk h h' n out out' = search (arith, page_of_at, with_pages_apart)

-- each page that was given is whole
pub length-page_in : (out : LibOut) (b : Parcel) (n : ℕ) → WasGiven out b → In n (bundle_pages (bundle_of b)) → length (page_in b n) ≡ 4096
length-page_in out b n g i =
    let x = sheet_at b n i in
    ap (λ (l : List ℕ). length l) x.3
    ∙ elim (In-cases x.0 (flat_map (λ (w : Written). w.index ++ w.blocks) (bundle_of b).writes) (bundle_of b).pages x.1) [
      | inr fresh ↦
          let p = map-In fresh_sheet x.0 b.pages fresh in
          ap (λ (y : Sheet). length y.bytes) p.2 ∙ (g.pages p.0 p.1).whole
      | inl lent ↦
          let w = flat_map-In (λ (w : Written). w.index ++ w.blocks) x.0 (bundle_of b).writes lent in
          let f = map-In (λ (f : LentFile). written_in f.stands) w.0 b.writes w.1 in
          let j : In x.0 (map lent_sheet f.0.stands.index ++ map lent_sheet f.0.stands.blocks) = subst (λ (v : Written). In x.0 (v.index ++ v.blocks)) f.2 w.2 in
          let is = g.writes f.0 f.1 in
          elim (In-cases x.0 (map lent_sheet f.0.stands.index) (map lent_sheet f.0.stands.blocks) j) [
            | inl a ↦ (let p = map-In lent_sheet x.0 f.0.stands.index a in ap (λ (y : Sheet). length y.bytes) p.2 ∙ is.index p.0 p.1)
            | inr a ↦ (let p = map-In lent_sheet x.0 f.0.stands.blocks a in ap (λ (y : Sheet). length y.bytes) p.2 ∙ is.blocks p.0 p.1)
          ]
    ]
