-- How many things a bundle has.
use Rattle.trio_open.proofs.Words.{◌++◌, ◌+◌, ◌<◌, ◌∙◌, ◌∷◌, ◌≡◌, Bundled, LentFile, List, Sheet, Written, [], ap, arith, bundle_in, bundle_pages, drop, drop-cons, flat_map, fresh_sheet, get_or, length, lent_sheet, map, pages_shown, refl, suc, sym, written_in, ℕ}
use Rattle.std.proofs.lemmas.List.{length-append, length-map}
use Rattle.trio_rights.specs.Bundle.{bundle_sheets}

-- ---- how many pages the leases and the allotments show

shown_of : (fs : List LentFile) → length (flat_map (λ (w : Written). w.index ++ w.blocks) (map (λ f. written_in f.stands) fs)) ≡ pages_shown fs
shown_of [] = refl
shown_of (f ∷ fs) =
    let w = written_in f.stands in
    let rest = flat_map (λ (v : Written). v.index ++ v.blocks) (map (λ (x : LentFile). written_in x.stands) fs) in
    let split = length-append (w.index ++ w.blocks) rest in
    let own = length-append w.index w.blocks in
    let again = shown_of fs in
    omega (arith, split, own, again, length-map f.stands.index lent_sheet, length-map f.stands.blocks lent_sheet)

pub page_total : (b : Bundled) → length (bundle_pages (bundle_in b)) ≡ length b.pages + pages_shown b.writes
page_total b =
    let lent = flat_map (λ (w : Written). w.index ++ w.blocks) (map (λ (x : LentFile). written_in x.stands) b.writes) in
    let sheets = length-map (bundle_sheets (bundle_in b)) (λ (x : Sheet). x.page) in
    let split = length-append lent (map fresh_sheet b.pages) in
    omega (arith, sheets, split, shown_of b.writes, length-map b.pages fresh_sheet)

-- one lease after another
pub shown_next : (fs : List LentFile) (i : ℕ) (d f : LentFile) → i < length fs → f ≡ get_or fs i d → pages_shown (drop i fs) ≡ length f.stands.index + length f.stands.blocks + pages_shown (drop (i + 1) fs)
shown_next fs i d f lt is =
    ap pages_shown (drop-cons fs i d lt)
    ∙ ap (λ (x : LentFile). length x.stands.index + length x.stands.blocks + pages_shown (drop (suc i) fs)) (sym is)
    ∙ ap (λ k. length f.stands.index + length f.stands.blocks + pages_shown (drop k fs)) (let up : suc i ≡ i + 1 = omega arith in up)
