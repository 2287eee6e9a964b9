-- The pages in hand of a session that may go on: they are core pages, each there with its bytes.
use Rattle.trio_edit_laws.proofs.Words.{◌++◌, ◌∙◌, ◌≡◌, DeskSeen, FreshParts, In, In-cases, In-left, In-map, In-right, IsWellLent, LentFile, LentPage, List, MayEdit, Met, SessionSeen, Sheet, Shown, Sizes, Some, Written, ap, bundle_of, core_in_hand, flat_map, flat_map-In, fresh_sheet, in_hand, inl, inr, is_core, lent_core, lent_numbers, lent_sheet, map, map-In, map-append, map-map, numbers_of_file, page_in, page_numbers, page_of, pages_in_hand, refl, sheet_at, subst, sym, true, written_in, ℕ}
use Rattle.trio_page.specs.declared.page.PageNo.{PageNo}
use Rattle.trio_surveys.proofs.Sheets.{page_there}
use Rattle.trio_laws.proofs.session.LentFiles.{lent_page}
use Rattle.trio_edit_laws.proofs.Pages.{page_of-hand}

pub lent_is_core : (sizes : Sizes) (f : Shown) (n : ℕ) → IsWellLent sizes f → In n (numbers_of_file f) → is_core sizes.range n ≡ true
lent_is_core sizes f n well i =
    let met : Met = record { ino = f.ino; kind = f.kind; parent = 0; page = 0; slot = 0; body = f.body } in
    let q = map-In (λ (p : LentPage). p.no.0) n (f.index ++ f.blocks) (subst (λ l. In n l) (sym (map-append (λ (p : LentPage). p.no.0) f.index f.blocks)) i) in
    ap (is_core sizes.range) q.2 ∙ (page_there (lent_core sizes f) q.0.no.0 q.0.page (lent_page sizes f well met refl refl q.0 q.1)).0

numbers_same : (ps qs : List LentPage) → map (λ (p : LentPage). p.no) ps ≡ map (λ (p : LentPage). p.no) qs → lent_numbers ps ≡ lent_numbers qs
numbers_same ps qs e =
    sym (map-map (λ (n : PageNo). n.0) (λ (p : LentPage). p.no) ps) ∙ ap (map (λ (n : PageNo). n.0)) e ∙ map-map (λ (n : PageNo). n.0) (λ (p : LentPage). p.no) qs

pub hand_is_core : (desk : DeskSeen) (s : SessionSeen) (n : ℕ) → MayEdit desk s → In n (pages_in_hand (in_hand s)) → is_core desk.sizes.range n ≡ true
hand_is_core desk s n m i =
    let x = sheet_at s.parcel n i in
    elim (In-cases x.0 (flat_map (λ (w : Written). w.index ++ w.blocks) (bundle_of s.parcel).writes) (bundle_of s.parcel).pages x.1) [
      | inr fresh ↦
          let p = map-In fresh_sheet x.0 s.parcel.pages fresh in
          let number : p.0.no.0 ≡ n = sym (ap (λ (y : Sheet). y.page) p.2) ∙ x.2 in
          m.on.core n (subst (λ k. In k (page_numbers s.parcel.pages)) number (In-map (λ (y : FreshParts). y.no.0) p.0 s.parcel.pages p.1))
      | inl lent ↦
          let w = flat_map-In (λ (w : Written). w.index ++ w.blocks) x.0 (bundle_of s.parcel).writes lent in
          let f = map-In (λ (f : LentFile). written_in f.stands) w.0 s.parcel.writes w.1 in
          let j : In x.0 (map lent_sheet f.0.stands.index ++ map lent_sheet f.0.stands.blocks) = subst (λ (v : Written). In x.0 (v.index ++ v.blocks)) f.2 w.2 in
          let is = m.all.given.writes f.0 f.1 in
          let well = m.on.writes f.0.lent (In-map (λ (y : LentFile). y.lent) f.0 s.parcel.writes f.1) in
          lent_is_core desk.sizes f.0.lent n well
          (elim (In-cases x.0 (map lent_sheet f.0.stands.index) (map lent_sheet f.0.stands.blocks) j) [
            | inl a ↦
                let p = map-In lent_sheet x.0 f.0.stands.index a in
                let number : p.0.no.0 ≡ n = sym (ap (λ (y : Sheet). y.page) p.2) ∙ x.2 in
                In-left n (lent_numbers f.0.lent.index) (lent_numbers f.0.lent.blocks)
                (subst (λ l. In n l) (numbers_same f.0.stands.index f.0.lent.index is.same.index)
                (subst (λ k. In k (lent_numbers f.0.stands.index)) number (In-map (λ (y : LentPage). y.no.0) p.0 f.0.stands.index p.1)))
            | inr a ↦
                let p = map-In lent_sheet x.0 f.0.stands.blocks a in
                let number : p.0.no.0 ≡ n = sym (ap (λ (y : Sheet). y.page) p.2) ∙ x.2 in
                In-right n (lent_numbers f.0.lent.index) (lent_numbers f.0.lent.blocks)
                (subst (λ l. In n l) (numbers_same f.0.stands.blocks f.0.lent.blocks is.same.blocks)
                (subst (λ k. In k (lent_numbers f.0.stands.blocks)) number (In-map (λ (y : LentPage). y.no.0) p.0 f.0.stands.blocks p.1)))
          ])
    ]

-- among the core's pages in hand each has its bytes
pub hand_page : (desk : DeskSeen) (s : SessionSeen) (n : ℕ) → MayEdit desk s → In n (pages_in_hand (in_hand s)) → page_of (core_in_hand desk (in_hand s)) n ≡ Some (page_in s.parcel n)
hand_page desk s n m i = page_of-hand desk (in_hand s) n m.order.pages i (hand_is_core desk s n m i)
