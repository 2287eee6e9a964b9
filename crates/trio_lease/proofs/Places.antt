-- The places of pages, and what stands there.
use Rattle.trio_lease.proofs.Words.{◌<◌, ◌∙◌, ◌≡◌, ◌≤◌, LentFile, LentPage, List, None, PageNo, Some, [], ap, drop, length, lent_at, place_in_files, slice_get, slice_set, sym, ℕ}
use Rattle.std.proofs.Common.{false}
use Rattle.std.proofs.lemmas.List.{at_drop_all, set-get_or}
use Rattle.std.proofs.lemmas.Option.{slice_get-get_or, slice_get_past, get_or_from_slice_get}
use Rattle.std.specs.Option.{option_map}
use Rattle.trio_lease.specs.Shown.{page_at}

-- no lease is left
pub place_end : (fs : List LentFile) (i : ℕ) (number : PageNo) → length fs ≤ i → place_in_files i (drop i fs) number ≡ None
place_end fs i number le = at_drop_all (λ l. place_in_files i l number) fs i le

-- an element put where it stands changes nothing
pub set_same : {X : Type 0} (xs : List X) (i : ℕ) (x : X) → slice_get xs i ≡ Some x → slice_set xs i x ≡ xs
set_same xs i x e = ap (slice_set xs i) (sym (get_or_from_slice_get xs i x x e)) ∙ set-get_or xs i x

-- the bytes of a page that is there, and of one that isn't
pub page_there : (pages : List LentPage) (i : ℕ) → i < length pages → page_at pages i ≡ Some (lent_at pages i).page
page_there pages i lt = ap (option_map (λ (p : LentPage). p.page)) (slice_get-get_or pages i (record { no = record { 0 = 0 }; page = []; touched = false }) lt)

pub page_past : (pages : List LentPage) (i : ℕ) → length pages ≤ i → page_at pages i ≡ None
page_past pages i le = ap (option_map (λ (p : LentPage). p.page)) (slice_get_past pages i le)

pub ruleset pages = (page_there, page_past, set_same)
