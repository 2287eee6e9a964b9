-- Where no directory is written, nothing is listed.
use Rattle.trio_entries.proofs.Words.{◌++◌, ◌+◌, ◌∙◌, ◌∷◌, ◌≡◌, ◌≤◌, Bool, BundleSize, Case, CaseShown, Core, Err, In, In-left, In-list_any, Kind, LentFile, List, Listing, Location, Met, None, Ok, Option, Result, Row, Some, Written, [], ap, arith, bundle_core, bundle_in, bundle_pages, children_in, entries_in, entry_listed, false, filter-In, flat_map, fronts, fronts_keep, inl, inr, is_among, is_directory, length, list_any, list_any-map, listing, map, map-In, new_entries, plain, refl, row_in, size_of, sorted_by, sorted_in, subst, suc, sym, true, whole_case, writes_directory, written_at, written_files, written_in, written_met, ℕ}
use Rattle.std.proofs.Common.{◌*◌, if◌then◌else◌}
use Rattle.std.proofs.lemmas.Bool.{false_from_ne_true, true≢false}
use Rattle.trio_lists.specs.Lists.{result_then, there_or}
use Rattle.trio_layout.specs.declared.body.Body.{Body}
use Rattle.trio_layout.specs.Body.{body_of}
use Rattle.trio_layout.specs.Chain.{Chain}
use Rattle.trio_layout.specs.Core.{nowhere}
use Rattle.trio_layout.specs.JudgedFiles.{judged_files}
use Rattle.trio_layout.specs.Within.{chain_of_within, file_with_within, file_within}
use Rattle.trio_entries.specs.Drafts.{told_count}

-- ---- what is no directory has no entries

module _ (core : Core) (ino : ℕ) (kind : Kind) (no_directory : is_directory kind ≡ false) where
  with_chain : (b : Body) (r : Result Chain Location) → children_in plain ino (result_then (file_with_within core kind b) r) ≡ []
  with_chain b (Ok chain) = rw no_directory refl
  with_chain b (Err place) = refl

  with_body : (r : Result Body Location) → children_in plain ino (result_then (λ b. result_then (file_with_within core kind b) (chain_of_within core b)) r) ≡ []
  with_body (Ok b) = with_chain b (chain_of_within core b)
  with_body (Err place) = refl

no_entries : (c : Case) (m : Met) → is_directory m.kind ≡ false → entries_in c m ≡ []
unfolding file_within
no_entries c m none =
    let core : Core = bundle_core c in with_body core m.ino m.kind none (there_or nowhere (body_of m.kind core.range m.body))

-- ---- no judged file is a directory

none_at : {X : Type 0} (p : X → Bool) (xs : List X) → list_any p xs ≡ false → (x : X) → In x xs → p x ≡ false
none_at p xs e x i = false_from_ne_true (p x) (λ t. true≢false (sym (In-list_any p x xs i t) ∙ e))

written_kind : (w : Written) (o : Option Row) → (written_at w o).kind ≡ w.kind
written_kind w None = refl
written_kind w (Some r) = refl

module _ (c : Case) (unwritten : list_any (λ (w : Written). is_directory w.kind) c.bundle.writes ≡ false) where
  written_data : (m : Met) → In m (written_files c) → is_directory m.kind ≡ false
  written_data m i =
      let by_number = λ (w : Written). w.ino in
      let r = map-In (written_met c) m (sorted_by by_number c.bundle.writes) i in
      ap is_directory (ap (λ (x : Met). x.kind) r.2 ∙ written_kind r.0 (row_in c.rows r.0.ino))
      ∙ none_at (λ (w : Written). is_directory w.kind) c.bundle.writes unwritten r.0 (sorted_in by_number r.0 c.bundle.writes r.1)

  judged_data : (m : Met) → In m (judged_files c) → is_directory m.kind ≡ false
  unfolding judged_files
  judged_data m i =
      let f = fronts (new_entries c) (written_files c) (suc c.inodes) in
      let none = λ (x e : Met) (r : is_directory x.kind ≡ false) (j : In e (new_entries c x)). absurd (subst (λ (es : List Met). In e es) (no_entries c x r) (filter-In (λ (y : Met). is_among y.ino c.bundle.numbers) e (entries_in c x) j).0) in
      fronts_keep (new_entries c) (written_files c) (λ (x : Met). is_directory x.kind ≡ false) written_data none (suc c.inodes) m (In-left m f.passed f.level i)

  nothing_in : (ms : List Met) → ((m : Met) → In m ms → is_directory m.kind ≡ false) → flat_map (entries_in c) ms ≡ []
  nothing_in [] all = refl
  nothing_in (m ∷ ms) all =
      ap (λ es. es ++ flat_map (entries_in c) ms) (no_entries c m (all m (inl refl))) ∙ nothing_in ms (λ x i. all x (inr i))

  nothing_listed : (listing c).entries ≡ []
  nothing_listed = ap (map (entry_listed c)) (nothing_in (judged_files c) judged_data)

-- ---- what is told of files

-- a smaller bundle tells of no more files
pub told_within : (less more : BundleSize) → less.pages ≤ more.pages → less.values ≤ more.values → (less.lists ≡ true → more.lists ≡ true) → told_count less ≤ told_count more
told_within less more pages values lists = by less.lists more.lists lists
  where
    by : (l m : Bool) → (l ≡ true → m ≡ true) → (if l then 16 * less.pages else 0) + less.values ≤ (if m then 16 * more.pages else 0) + more.values
    by true true h = omega (arith, pages, values)
    by true false h = absurd (true≢false (sym (h refl)))
    by false m h = omega (arith, values)

-- there is a place for what each entry, each written file and each hold tells
pub told_few : (k : CaseShown) (rows : List (Option Row)) (l : Listing) → l ≡ listing (whole_case k rows) → length l.entries ≤ 16 * length (bundle_pages (bundle_in k.bundle)) → length l.entries + length k.bundle.writes + length k.bundle.holds ≤ told_count (size_of k.bundle)
told_few k rows l is few = by (writes_directory k.bundle) refl
  where
    by : (lists : Bool) → writes_directory k.bundle ≡ lists → length l.entries + length k.bundle.writes + length k.bundle.holds ≤ (if lists then 16 * (size_of k.bundle).pages else 0) + (size_of k.bundle).values
    by true e = omega (arith, few)
    by false e =
        let unwritten = list_any-map (λ (f : LentFile). written_in f.stands) (λ (w : Written). is_directory w.kind) k.bundle.writes ∙ e in
        let none = ap (λ (x : Listing). length x.entries) is ∙ ap length (nothing_listed (whole_case k rows) unwritten) in
        omega (arith, none)
