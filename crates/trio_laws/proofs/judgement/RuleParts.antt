-- What each rule says, clause by clause.
use Rattle.trio_laws.proofs.Words.{◌&&◌, ◌++◌, ◌<◌, ◌||◌, ◌∙◌, ◌≡◌, ◌≤◌, ◌⊎◌, Bool, Case, FileRead, In, In-flat, In-is_among, Kind, ListedEntry, Listing, Met, None, Ok, Option, Row, Some, [], and_parts, ap, are_new, arith, both_ways, bundle_core, bundle_pages, bytes_eq-Decides, cases_Bool, comes_to_root, cond, entry_is_own, entry_keeps_rights, false, false≢true, file_keeps_rights, file_within, flat_map, has_kind, is_among, is_among-In, is_kept, is_ok, is_ok-Ok, judged_entries, judged_files, judged_pages, keeps_children, leaves_none, length, lent_body, list_all, list_all-In, listing, meets_edges, meets_grammar, meets_owning, meets_rights, meets_rules, not, numbers, or_cases, pages_in, pages_within, row_in, same_kind_is, stays_listed, subst, sym, true, up_to_at, ℕ}
use Rattle.trio_rights.specs.Kind.{same_kind}

pub has_kind_is : (kind : Kind) (o : Option Row) (r : Row) → o ≡ Some r → has_kind kind o ≡ true → kind ≡ r.kind
has_kind_is kind None r e h = absurd cc
has_kind_is kind (Some q) r e h = (let same : q ≡ r = cc e in same_kind_is kind q.kind h ∙ ap (λ (x : Row). x.kind) same)

pub same_kind_from : (a b : Kind) → a ≡ b → same_kind a b ≡ true
same_kind_from a b e = search arith

pub has_kind_from : (kind : Kind) (o : Option Row) (r : Row) → o ≡ Some r → kind ≡ r.kind → has_kind kind o ≡ true
has_kind_from kind o r e k = ap (has_kind kind) e ∙ same_kind_from kind r.kind k

-- the cases of what is asked of an entry's kind and body
rights_kept : (t h k y : Bool) → cond t k (not h || (k && y)) ≡ true → t ≡ true → k ≡ true
rights_kept true h k y e q = e
rights_kept false h k y e q = absurd (false≢true q)

rights_held : (t h k y : Bool) → cond t k (not h || (k && y)) ≡ true → t ≡ false → h ≡ true → (k ≡ true) × (y ≡ true)
rights_held t h k y e q w = search (arith, false≢true, and_parts)

module _ (c : Case) (h : meets_rules c ≡ true) where
  abbrev l : Listing
  l = listing c

  three : ((meets_grammar c && meets_owning c && meets_edges (listing c) c.rows) ≡ true) × (meets_rights c ≡ true)
  three = and_parts (meets_grammar c && meets_owning c && meets_edges (listing c) c.rows) (meets_rights c) h

  two : ((meets_grammar c && meets_owning c) ≡ true) × (meets_edges (listing c) c.rows ≡ true)
  two = and_parts (meets_grammar c && meets_owning c) (meets_edges (listing c) c.rows) three.0

  one : (meets_grammar c ≡ true) × (meets_owning c ≡ true)
  one = and_parts (meets_grammar c) (meets_owning c) two.0

  abbrev all_pages : Bool
  all_pages = list_all (λ page. is_among page (bundle_pages c.bundle)) (judged_pages c)

  abbrev all_own : Bool
  all_own = list_all (entry_is_own c) (judged_entries c)

  owning : ((all_pages && are_new [] (judged_pages c) && all_own) ≡ true) × (are_new [] (numbers (judged_entries c)) ≡ true)
  owning = and_parts (all_pages && are_new [] (judged_pages c) && all_own) (are_new [] (numbers (judged_entries c))) one.1

  owning_two : ((all_pages && are_new [] (judged_pages c)) ≡ true) × (all_own ≡ true)
  owning_two = and_parts (all_pages && are_new [] (judged_pages c)) all_own owning.0

  owning_one : (all_pages ≡ true) × (are_new [] (judged_pages c) ≡ true)
  owning_one = and_parts all_pages (are_new [] (judged_pages c)) owning_two.0

  -- I1
  pub rule_file : (m : Met) → In m (judged_files c) → (f : FileRead) × (file_within (bundle_core c) m ≡ Ok f)
  rule_file m i = search (arith, is_ok-Ok, list_all-In, is_ok, and_parts, one)

  -- I2
  pub rule_page : (m : Met) (f : FileRead) (p : ℕ) → In m (judged_files c) → file_within (bundle_core c) m ≡ Ok f → In p (f.chain.index ++ f.chain.blocks) → In p (bundle_pages c.bundle)
  rule_page m f p i e k =
      let there : In p (judged_pages c) = In-flat (pages_within c) m p (judged_files c) i (subst (λ l. In p l) (sym (ap pages_in e)) k) in
      is_among-In p (bundle_pages c.bundle) (list_all-In (λ page. is_among page (bundle_pages c.bundle)) p (judged_pages c) owning_one.0 there)

  pub rule_pages_once : are_new [] (flat_map (pages_within c) (judged_files c)) ≡ true
  rule_pages_once = owning_one.1

  pub rule_once : are_new [] (numbers (judged_entries c)) ≡ true
  rule_once = owning.1

  pub rule_own : (e : Met) → In e (judged_entries c) → (is_kept c e ≡ true) ⊎ ((is_kept c e ≡ false) × (In e.ino c.bundle.holds ⊎ In e.ino c.bundle.numbers))
  rule_own e i = search (arith, list_all-In, owning_two, cases_Bool, or_cases, is_among-In, both_ways)

  -- I3
  edges_two : ((keeps_children (listing c) c.rows && list_all (leaves_none (listing c) c.rows) (listing c).held) ≡ true) × (list_all (comes_to_root (listing c) c.rows) (listing c).entries ≡ true)
  edges_two = and_parts (keeps_children (listing c) c.rows && list_all (leaves_none (listing c) c.rows) (listing c).held) (list_all (comes_to_root (listing c) c.rows) (listing c).entries) two.1

  edges_one : (keeps_children (listing c) c.rows ≡ true) × (list_all (leaves_none (listing c) c.rows) (listing c).held ≡ true)
  edges_one = and_parts (keeps_children (listing c) c.rows) (list_all (leaves_none (listing c) c.rows) (listing c).held) edges_two.0

  pub rule_stays : (n : ℕ) → 0 < n → n ≤ length c.rows → stays_listed (listing c) n (row_in c.rows n) ≡ true
  rule_stays n low high = up_to_at (λ n. stays_listed (listing c) n (row_in c.rows n)) (length c.rows) n edges_one.0 low high

  pub rule_leaves : (n : ℕ) → In n (listing c).held → leaves_none (listing c) c.rows n ≡ true
  rule_leaves n i = list_all-In (leaves_none (listing c) c.rows) n (listing c).held edges_one.1 i

  pub rule_comes : (e : ListedEntry) → In e (listing c).entries → comes_to_root (listing c) c.rows e ≡ true
  rule_comes e i = list_all-In (comes_to_root (listing c) c.rows) e (listing c).entries edges_two.1 i

  -- I4
  rights : (list_all (entry_keeps_rights c) (judged_entries c) ≡ true) × (list_all (λ m. file_keeps_rights c m (file_within (bundle_core c) m)) (judged_files c) ≡ true)
  rights = and_parts (list_all (entry_keeps_rights c) (judged_entries c)) (list_all (λ m. file_keeps_rights c m (file_within (bundle_core c) m)) (judged_files c)) three.1

  pub rule_kept_kind : (e : Met) → In e (judged_entries c) → is_kept c e ≡ true → has_kind e.kind (row_in c.rows e.ino) ≡ true
  rule_kept_kind e i k = search (arith, rights_kept, list_all-In, rights)

  pub rule_held : (e : Met) → In e (judged_entries c) → is_kept c e ≡ false → In e.ino c.bundle.holds → (has_kind e.kind (row_in c.rows e.ino) ≡ true) × (e.body ≡ lent_body c e.ino)
  rule_held e i k held = search (arith, rights_held, list_all-In, rights, In-is_among, bytes_eq-Decides)

  pub rule_rights : (m : Met) (f : FileRead) → In m (judged_files c) → file_within (bundle_core c) m ≡ Ok f → file_keeps_rights c m (Ok f) ≡ true
  rule_rights m f i e =
      ap (file_keeps_rights c m) (sym e) ∙ list_all-In (λ m. file_keeps_rights c m (file_within (bundle_core c) m)) m (judged_files c) rights.1 i
