-- A walk before it begins.
use Rattle.trio_judge.proofs.Words.{◌&&◌, ◌++◌, ◌+◌, ◌<◌, ◌||◌, ◌∙◌, ◌∷◌, ◌≡◌, ◌≤◌, AreFound, Bool, Case, CaseShown, HasListingRoom, In, In-cases, In-is_among, In-left, In-map, JudgedFile, KeepRights, LentFile, List, Lists, MatchOption, Met, None, Option, OwningFails, RightsFail, Some, Starts, Walk, Written, [], and_parts, ap, are_new, are_new-append, arith, bundle_pages, case_in, cond, eqb, false, false≢true, file_met, files_of, get_or, inl, inr, is_among, is_among-In, is_directory, length, length-append, length-map, list_all-In, listing_of, map, map-In, nat_tests, numbers, option_map, option_map_or, own_numbers, place_of, refl, replicate, row_in, sorted-map, sorted_by, subst, suc, sym, true, vec_len, writes_directory, writes_of, written_files, written_in, written_met, zero, ℕ}
use Rattle.std.proofs.Common.{leb, ltb, vec_capacity}
use Rattle.trio_rights.specs.Row.{Row}
use Rattle.trio_lists.proofs.Filters.{In-list_any, list_any-map}
use Rattle.trio_lists.proofs.Sorting.{in_sorted, sorted_in, sorted_new}
use Rattle.trio_lease.specs.declared.parts.InoParts.{InoParts}
use Rattle.trio_layout.specs.JudgedFiles.{written_at}
use Rattle.trio_case.specs.Cases.{lent_numbers, IsCase}
use Rattle.trio_case.specs.Memory.{writes_directory as lends_directory}
use Rattle.trio_judge.specs.inner.Walk.{is_found}
use Rattle.trio_case.proofs.Ordered.{are_unmarked}

pub written_number : (w : Written) (o : Option Row) → (written_at w o).ino ≡ w.ino
written_number w None = refl
written_number w (Some r) = refl

written_kind : (w : Written) (o : Option Row) → (written_at w o).kind ≡ w.kind
written_kind w None = refl
written_kind w (Some r) = refl

-- the written files, sorted after they were made
pub files_sorted : (c : Case) (fs : List JudgedFile) → map file_met fs ≡ map (written_met c) c.bundle.writes → map file_met (sorted_by (λ f. f.ino) fs) ≡ written_files c
files_sorted c fs e =
    sorted-map file_met (λ (f : JudgedFile). f.ino) (λ (m : Met). m.ino) (λ f. refl) fs
    ∙ ap (sorted_by (λ (m : Met). m.ino)) e
    ∙ sym (sorted-map (written_met c) (λ (w : Written). w.ino) (λ (m : Met). m.ino) (λ w. written_number w (row_in c.rows w.ino)) c.bundle.writes)

written_numbers : (c : Case) → numbers (written_files c) ≡ map (λ (w : Written). w.ino) (sorted_by (λ w. w.ino) c.bundle.writes)
written_numbers c = go (sorted_by (λ w. w.ino) c.bundle.writes)
  where
    go : (ws : List Written) → numbers (map (written_met c) ws) ≡ map (λ (w : Written). w.ino) ws
    go [] = refl
    go (w ∷ ws) = rw (written_number w (row_in c.rows w.ino), go ws) refl

-- ---- whether a directory is written

-- in the words of the case and of its bundle
pub directory_lent : (k : CaseShown) → writes_directory (case_in k) ≡ lends_directory k.bundle
directory_lent k = list_any-map (λ (f : LentFile). written_in f.stands) (λ (w : Written). is_directory w.kind) k.bundle.writes

-- a directory among the written files
written_directory : (c : Case) (m : Met) → In m (written_files c) → is_directory m.kind ≡ true → writes_directory c ≡ true
written_directory c m i e =
    let q = map-In (written_met c) m (sorted_by (λ w. w.ino) c.bundle.writes) i in
    let kind : is_directory q.0.kind ≡ true = sym (ap is_directory (ap (λ (x : Met). x.kind) q.2 ∙ written_kind q.0 (row_in c.rows q.0.ino))) ∙ e in
    In-list_any (λ (w : Written). is_directory w.kind) q.0 c.bundle.writes (sorted_in (λ w. w.ino) q.0 c.bundle.writes q.1) kind

-- ---- marks for the files found

-- set for the first numbers and not for the others
module _ (fs : List ℕ) (n : ℕ) where
  abbrev marks_of : List ℕ → List Bool
  marks_of ws = replicate (length ws) true ++ replicate (length fs) false

  unset : (count at : ℕ) → get_or (replicate count false) at false ≡ false
  unset zero at = refl
  unset (suc count) zero = refl
  unset (suc count) (suc at) = unset count at

  none_found : (o : Option ℕ) → option_map_or (λ at. get_or (marks_of []) at false) o false ≡ false
  none_found None = refl
  none_found (Some at) = unset (length fs) at

  one_more : (ws : List ℕ) (here : Bool) (o : Option ℕ) → option_map_or (λ at. get_or (marks_of ws) at false) o false ≡ is_among n ws → option_map_or (λ at. get_or (true ∷ marks_of ws) at false) (cond here (Some 0) (option_map suc o)) false ≡ (here || is_among n ws)
  one_more ws true o h = refl
  one_more ws false None h = h
  one_more ws false (Some at) h = h

  first_found : (ws : List ℕ) → is_found (ws ++ fs) (marks_of ws) n ≡ is_among n ws
  first_found [] = none_found (place_of n fs)
  first_found (w ∷ ws) = one_more ws (eqb w n) (place_of n (ws ++ fs)) (first_found ws)

length-same : {X : Type 0} (n : ℕ) (x : X) → length (replicate n x) ≡ n
length-same zero x = refl
length-same (suc n) x = ap suc (length-same n x)

pub are_found : (ws fs files : List ℕ) → ((n : ℕ) → is_among n ws ≡ is_among n files) → AreFound (ws ++ fs) (replicate (length ws) true ++ replicate (length fs) false) files
are_found ws fs files same = record {
  places = length-append (replicate (length ws) true) (replicate (length fs) false) ∙ rw (length-same (length ws) true, length-same (length fs) false) (sym (length-append ws fs));
  each = λ n. first_found fs n ws ∙ same n;
}

-- ---- what is known of a case

fresh_fits : (k : CaseShown) (n : ℕ) → IsCase k.bundle k.range k.inodes → In n (case_in k).bundle.numbers → n < k.inodes + 1
fresh_fits k n fits i =
    let p = map-In (λ (x : InoParts). x.no) n k.bundle.inodes i in
    let t = and_parts (ltb 0 p.0.no) (leb p.0.no k.inodes) (list_all-In (λ (x : InoParts). ltb 0 x.no && leb x.no k.inodes) p.0 k.bundle.inodes fits.numbers p.1) in
    let l : p.0.no ≤ k.inodes = grind (arith, nat_tests, t.1) in omega (arith, l, p.2)

written_fits : (k : CaseShown) (n : ℕ) → IsCase k.bundle k.range k.inodes → In n (map (λ (w : Written). w.ino) (case_in k).bundle.writes) → n < k.inodes + 1
written_fits k n fits i =
    let j : In n (lent_numbers k.bundle) = In-left n (map (λ (f : LentFile). f.stands.ino) k.bundle.writes) (map (λ h. h.ino) k.bundle.holds) (subst (λ l. In n l) (writes_of k) i) in
    let t : leb n k.inodes ≡ true = list_all-In (λ m. leb m k.inodes) n (lent_numbers k.bundle) fits.lent j in
    let l : n ≤ k.inodes = grind (arith, nat_tests) in omega (arith, l)

pub written_once : (k : CaseShown) → IsCase k.bundle k.range k.inodes → are_new [] (map (λ (w : Written). w.ino) (case_in k).bundle.writes) ≡ true
written_once k fits =
    ap (are_new []) (writes_of k)
    ∙ (and_parts (are_new [] (map (λ (f : LentFile). f.stands.ino) k.bundle.writes)) (are_new (map (λ (f : LentFile). f.stands.ino) k.bundle.writes) (map (λ h. h.ino) k.bundle.holds)) (sym (are_new-append [] (map (λ (f : LentFile). f.stands.ino) k.bundle.writes) (map (λ h. h.ino) k.bundle.holds)) ∙ fits.once)).0

same_members : (x : ℕ) (xs ys : List ℕ) → (In x xs → In x ys) → (In x ys → In x xs) → is_among x xs ≡ is_among x ys
same_members x xs ys there back = by (is_among x xs) (is_among x ys) refl refl
  where
    by : (b d : Bool) → is_among x xs ≡ b → is_among x ys ≡ d → b ≡ d
    by true true e f = refl
    by false false e f = refl
    by true false e f = absurd (false≢true (sym f ∙ In-is_among x ys (there (is_among-In x xs e))))
    by false true e f = absurd (false≢true (sym e ∙ In-is_among x xs (back (is_among-In x ys f))))

writes_count : (k : CaseShown) → length (map (λ (w : Written). w.ino) (case_in k).bundle.writes) ≡ length k.bundle.writes
writes_count k = length-map (case_in k).bundle.writes (λ (w : Written). w.ino) ∙ length-map k.bundle.writes (λ (f : LentFile). written_in f.stands)

-- the walk that has passed no file
pub starts : (k : CaseShown) (w : Walk) → IsCase k.bundle k.range k.inodes → files_of w ≡ written_files (case_in k) → length (own_numbers (case_in k)) ≤ vec_capacity w.files → w.found.items ≡ replicate (length k.bundle.writes) true ++ replicate (length k.bundle.inodes) false → w.pages.items ≡ replicate (length (bundle_pages (case_in k).bundle)) false → vec_len w.pages ≡ length (bundle_pages (case_in k).bundle) → w.owning ≡ None → w.rights ≡ None → w.listing.listing ≡ listing_of (case_in k) [] [] → HasListingRoom (case_in k) w.listing.room → Starts (case_in k) w
starts k w fits files places found pages many owning rights listing room =
    let c : Case = case_in k in
    let ns : numbers (files_of w) ≡ map (λ (x : Written). x.ino) (sorted_by (λ x. x.ino) c.bundle.writes) = ap numbers files ∙ written_numbers c in
    let fit : (x : ℕ) → In x (own_numbers c) → x < c.inodes + 1 =
    λ x i. elim (In-cases x (map (λ (y : Written). y.ino) c.bundle.writes) c.bundle.numbers i) [ inl a ↦ written_fits k x fits a | inr b ↦ fresh_fits k x fits b ] in
    let ws : List ℕ = map (λ (y : Written). y.ino) c.bundle.writes in
    let own : (x : ℕ) → In x (numbers (files_of w)) → In x ws =
    λ x i.
    let q = map-In (λ (y : Written). y.ino) x (sorted_by (λ y. y.ino) c.bundle.writes) (subst (λ l. In x l) ns i) in
    subst (λ m. In m ws) (sym q.2) (In-map (λ (y : Written). y.ino) q.0 c.bundle.writes (sorted_in (λ y. y.ino) q.0 c.bundle.writes q.1)) in
    let written : (x : ℕ) → In x ws → In x (numbers (files_of w)) =
    λ x i.
    let q = map-In (λ (y : Written). y.ino) x c.bundle.writes i in
    subst (λ l. In x l) (sym ns) (subst (λ m. In m (map (λ (y : Written). y.ino) (sorted_by (λ y. y.ino) c.bundle.writes))) (sym q.2) (In-map (λ (y : Written). y.ino) q.0 (sorted_by (λ y. y.ino) c.bundle.writes) (in_sorted (λ y. y.ino) q.0 c.bundle.writes q.1))) in
    let same : (x : ℕ) → is_among x ws ≡ is_among x (numbers (files_of w)) =
    λ x. same_members x ws (numbers (files_of w)) (written x) (own x) in
    let counts : replicate (length ws) true ++ replicate (length c.bundle.numbers) false ≡ w.found.items =
    rw (writes_count k, length-map k.bundle.inodes (λ (y : InoParts). y.no)) (sym found) in
    record {
      queued = record { inside = omega arith; queued = ap (λ l. record { passed = []; level = l }) (sym files) };
      passed = record {
        read = refl;
        grammar = refl;
        listed = subst (λ o. MatchOption o (Lists c [] [] w) (OwningFails c [] [])) (sym owning) (record {
          owns = record { pages = refl; pages_once = refl; entries = refl; entries_once = refl };
          rights = subst (λ o. MatchOption o (KeepRights c [] []) (RightsFail c [] [])) (sym rights) (record { files = refl; entries = refl });
          listing = listing;
          pages = rw pages (are_unmarked (bundle_pages c.bundle) (length (bundle_pages c.bundle)));
        });
      };
      ready = record {
        fit = fit;
        once = rw ns (sorted_new (λ y. y.ino) c.bundle.writes (written_once k fits));
        own = λ x i. In-left x ws c.bundle.numbers (own x i);
        written = written;
        found = subst (λ marks. AreFound (own_numbers c) marks (numbers (files_of w))) counts (are_found ws c.bundle.numbers (numbers (files_of w)) same);
        lists = λ m i e. written_directory c m (subst (λ l. In m l) files i) e;
        places = places;
        pages = many;
        room = room;
      };
      owning = owning;
      rights = rights;
    }

pub mets_of : (k : CaseShown) → map (λ (f : LentFile). written_met (case_in k) (written_in f.stands)) k.bundle.writes ≡ map (written_met (case_in k)) (case_in k).bundle.writes
mets_of k = go k.bundle.writes
  where
    go : (fs : List LentFile) → map (λ (f : LentFile). written_met (case_in k) (written_in f.stands)) fs ≡ map (written_met (case_in k)) (map (λ f. written_in f.stands) fs)
    go [] = refl
    go (f ∷ fs) = ap (λ ms. written_met (case_in k) (written_in f.stands) ∷ ms) (go fs)

pub met_numbers : (fs : List JudgedFile) → numbers (map file_met fs) ≡ map (λ (f : JudgedFile). f.ino) fs
met_numbers [] = refl
met_numbers (f ∷ fs) = ap (λ ns. f.ino ∷ ns) (met_numbers fs)

-- the files' numbers, as they were made
pub made_numbers : (c : Case) (ws : List Written) (fs : List JudgedFile) → map file_met fs ≡ map (written_met c) ws → map (λ (f : JudgedFile). f.ino) fs ≡ map (λ (w : Written). w.ino) ws
made_numbers c ws fs e = sym (met_numbers fs) ∙ ap numbers e ∙ go ws
  where
    go : (xs : List Written) → numbers (map (written_met c) xs) ≡ map (λ (w : Written). w.ino) xs
    go [] = refl
    go (x ∷ xs) = rw (written_number x (row_in c.rows x.ino), go xs) refl

-- how many numbers judged files may have
pub own_count : (k : CaseShown) → length (own_numbers (case_in k)) ≡ length k.bundle.writes + length k.bundle.inodes
own_count k =
    let writes = map (λ (w : Written). w.ino) (case_in k).bundle.writes in
    omega (arith, length-append writes (case_in k).bundle.numbers, length-map (case_in k).bundle.writes (λ (w : Written). w.ino), length-map k.bundle.writes (λ (f : LentFile). written_in f.stands), length-map k.bundle.inodes (λ (n : InoParts). n.no))

-- the place of a number among them, in the words of the case
pub own_place : (k : CaseShown) (n : ℕ) → place_of n (own_numbers (case_in k)) ≡ place_of n (map (λ (f : LentFile). f.stands.ino) k.bundle.writes ++ map (λ (i : InoParts). i.no) k.bundle.inodes)
own_place k n = ap (λ ws. place_of n (ws ++ (case_in k).bundle.numbers)) (writes_of k)
