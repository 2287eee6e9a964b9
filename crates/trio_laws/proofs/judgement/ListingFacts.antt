-- What stands in the listing of a bundle.
use Rattle.trio_laws.proofs.Words.{◌∙◌, ◌≡◌, ◌⊎◌, Case, FileRead, In, In-find, In-flat, In-list_any, In-map, ListedEntry, ListedFile, Location, Met, None, Ok, Option, Result, Some, and_from, and_parts, ap, arith, bundle_core, entry_listed, eq-eqb, eqb, eqb-true, file_listed, file_within, find, find-In, flat_map-In, has_file, in_sorted, inl, inr, is_kept, is_listed, is_listed_kept, judged_entries, judged_files, list_any-In, listing, map-In, option_map_or, proposed_parent, refl, row_by, row_parent, sorted_in, subst, sym, true, ℕ}

module _ (c : Case) where
  pub listed_from : (le : ListedEntry) → In le (listing c).entries → (e : Met) × In e (judged_entries c) × (le ≡ entry_listed c e)
  listed_from le i = map-In (entry_listed c) le (judged_entries c) i

  pub listed_to : (e : Met) → In e (judged_entries c) → In (entry_listed c e) (listing c).entries
  listed_to e i = In-map (entry_listed c) e (judged_entries c) i

  pub is_listed_at : (n : ℕ) → is_listed (listing c) n ≡ true → (e : Met) × In e (judged_entries c) × (e.ino ≡ n)
  is_listed_at n t = search (arith, list_any-In, listed_from, eqb-true)

  pub is_listed_by : (e : Met) (n : ℕ) → In e (judged_entries c) → e.ino ≡ n → is_listed (listing c) n ≡ true
  is_listed_by e n i is = In-list_any (λ (e : ListedEntry). eqb e.ino n) (entry_listed c e) (listing c).entries (listed_to e i) (eq-eqb e.ino n is)

  pub kept_at : (n : ℕ) → is_listed_kept (listing c) n ≡ true → (e : Met) × In e (judged_entries c) × (e.ino ≡ n) × (is_kept c e ≡ true)
  kept_at n t = search (arith, list_any-In, and_parts, listed_from, eqb-true)

  pub kept_by : (e : Met) (n : ℕ) → In e (judged_entries c) → e.ino ≡ n → is_kept c e ≡ true → is_listed_kept (listing c) n ≡ true
  kept_by e n i is k = search (arith, In-list_any, listed_to, and_from, eq-eqb)

  pub has_file_by : (m : Met) (f : FileRead) (n : ℕ) → In m (judged_files c) → file_within (bundle_core c) m ≡ Ok f → m.ino ≡ n → has_file (listing c) n ≡ true
  has_file_by m f n i e is =
      let made : ListedFile = record { ino = m.ino; row = row_by m f.body; index = f.chain.index; blocks = f.chain.blocks } in
      In-list_any (λ (f : ListedFile). eqb f.ino n) made (listing c).files
      (In-flat (λ m. file_listed m (file_within (bundle_core c) m)) m made (judged_files c) i (subst (λ r. In made (file_listed m r)) (sym e) (inl refl)))
      (eq-eqb m.ino n is)

  file_made : (m x : Met) (r : Result FileRead Location) (f : ListedFile) → In f (file_listed m r) → f.ino ≡ m.ino
  file_made m x r f h = search arith

  pub has_file_at : (n : ℕ) → has_file (listing c) n ≡ true → (m : Met) × In m (judged_files c) × (m.ino ≡ n)
  has_file_at n t = search (arith, list_any-In, flat_map-In, file_made, eqb-true)

  pub held_from : (n : ℕ) → In n (listing c).held → In n c.bundle.holds
  held_from n i = sorted_in (λ (k : ℕ). k) n c.bundle.holds i

  pub held_to : (n : ℕ) → In n c.bundle.holds → In n (listing c).held
  held_to n i = in_sorted (λ (k : ℕ). k) n c.bundle.holds i

  -- the proposed parent is that of an entry, or of the row of a number that is listed nowhere
  pub parent_cases : (n : ℕ) → ((e : Met) × In e (judged_entries c) × (e.ino ≡ n) × (proposed_parent (listing c) c.rows n ≡ e.parent)) ⊎ (((e : Met) → In e (judged_entries c) → e.ino ≡ n → ⊥) × (proposed_parent (listing c) c.rows n ≡ row_parent c.rows n))
  parent_cases n = by_find (find (λ (e : ListedEntry). eqb e.ino n) (listing c).entries) refl
    where
      by_find : (o : Option ListedEntry) → find (λ (e : ListedEntry). eqb e.ino n) (listing c).entries ≡ o → ((e : Met) × In e (judged_entries c) × (e.ino ≡ n) × (proposed_parent (listing c) c.rows n ≡ e.parent)) ⊎ (((e : Met) → In e (judged_entries c) → e.ino ≡ n → ⊥) × (proposed_parent (listing c) c.rows n ≡ row_parent c.rows n))
      by_find None q =
          inr (
            λ e i is. (let r = In-find (λ (e : ListedEntry). eqb e.ino n) (listing c).entries (entry_listed c e) (listed_to e i) (eq-eqb e.ino n is) in let wrong : None ≡ Some r.0 = sym q ∙ r.1 in absurd cc),
            ap (λ o. option_map_or (λ (e : ListedEntry). e.dir) o (row_parent c.rows n)) q,
          )
      by_find (Some le) q =
          let g = find-In (λ (e : ListedEntry). eqb e.ino n) (listing c).entries le q in
          let e = listed_from le g.0 in
          inl (
            e.0,
            e.1,
            ap (λ (x : ListedEntry). x.ino) (sym e.2) ∙ eqb-true le.ino n g.1,
            ap (λ o. option_map_or (λ (e : ListedEntry). e.dir) o (row_parent c.rows n)) q ∙ ap (λ (x : ListedEntry). x.dir) e.2,
          )
