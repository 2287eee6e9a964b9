-- What a file lists, within its image and its bundle.
use Rattle.trio_judge.proofs.Words.{◌*◌, ◌∷◌, ◌≡◌, ◌≤◌, Case, Err, FileRead, List, Location, Met, Ok, Owns, Result, [], arith, bundle_core, bundle_pages, children_in, entries_in, file_in, file_listed, flat_map, is_among, is_among-In, length, length-append, length-map, list_all-In, met_in, no_more, pages_in, pages_within, plain, refl, within_from}
use Rattle.trio_layout.proofs.EntryNumbers.{AtMost, if_ok_at, within_most}

-- it has at most 16 entries a block
entries_most : (c : Case) (m : Met) (f : FileRead) → file_in c m ≡ Ok f → length f.entries ≤ 16 * length f.chain.blocks
entries_most c m f e =
    let r = within_from (bundle_core c) m f e in
    if_ok_at _ f.entries (AtMost (16 * length f.chain.blocks)) r.entries (within_most (bundle_core c) m.kind f.chain.blocks)

-- ---- all files passed

-- at most 16 entries a page
entries_step : (c : Case) (m : Met) (r : Result FileRead Location) → file_in c m ≡ r → length (children_in plain m.ino r) ≤ 16 * length (pages_in r)
entries_step c m (Ok f) e =
    let most = entries_most c m f e in
    omega (arith, most, length-map f.entries (met_in plain m.ino), length-append f.chain.index f.chain.blocks)
entries_step c m (Err p) e = omega arith

pub entries_few : (c : Case) (ms : List Met) → length (flat_map (entries_in c) ms) ≤ 16 * length (flat_map (pages_within c) ms)
entries_few c [] = omega arith
entries_few c (m ∷ ms) =
    let one = entries_step c m (file_in c m) refl in
    omega (arith, one, entries_few c ms, length-append (entries_in c m) (flat_map (entries_in c) ms), length-append (pages_within c m) (flat_map (pages_within c) ms))

-- the pages listed are no more than the bundle has
pub pages_few : (c : Case) (done es : List Met) → Owns c done es → length (flat_map (pages_within c) done) ≤ length (bundle_pages c.bundle)
pages_few c done es o =
    no_more (flat_map (pages_within c) done) (bundle_pages c.bundle) o.pages_once
    (λ p i. is_among-In p (bundle_pages c.bundle) (list_all-In (λ page. is_among page (bundle_pages c.bundle)) p (flat_map (pages_within c) done) o.pages i))

files_step : (m : Met) (r : Result FileRead Location) → length (file_listed m r) ≤ 1
files_step m (Ok f) = omega arith
files_step m (Err p) = omega arith

pub listed_files : (c : Case) (ms : List Met) → length (flat_map (λ m. file_listed m (file_in c m)) ms) ≤ length ms
listed_files c [] = omega arith
listed_files c (m ∷ ms) =
    omega (arith, files_step m (file_in c m), listed_files c ms, length-append (file_listed m (file_in c m)) (flat_map (λ m. file_listed m (file_in c m)) ms))
