-- How often home is looked at for kept children: at most once a page of the bundle.
use Rattle.trio_ctl.proofs.Words.{Bool, Case, Core, In, Kind, List, Listed, ListedEntry, Met, None, Ok, Option, Sheet, Some, [], ap, are_new, are_new-first, arith, at_page, body_in_slot, bundle_pages, bundle_sheets, child_of, children_in, cond, entries_of, entries_of_kind, entry_listed, eq-eqb, false, filter_map, flat_map, flat_map-In, gathered, gathers_directory, if◌then◌else◌, inl, inr, judged_files, kept_body, kind_cases, length, length-map, map, map-In, map-append, met_in, option_map, option_map_or, page_changes, page_entries, page_of, plain, reads, reads_from, refl, result_then-Ok, rules_are_accept, slot_bytes, slot_of, subst, suc, sym, there_or, true, ℕ, ◌++◌, ◌+◌, ◌==◌, ◌∙◌, ◌∷◌, ◌≡◌, ◌≢◌, ◌≤◌}
use Rattle.std.proofs.lemmas.List.{append_assoc, append-nil, length-append}
use Rattle.std.proofs.lemmas.List.Elements.{filter_map-append}
use Rattle.trio_lists.proofs.Members.{both-Ok}
use Rattle.trio_layout.specs.Entries.{entries_on, listed_at, slot_entries}
use Rattle.trio_layout.specs.JudgedFiles.{entries_in, judged_pages, pages_within}
use Rattle.trio_layout.specs.Survey.{pages_in}
use Rattle.trio_layout.specs.declared.slot.SlotRead.{SlotRead}
use Rattle.trio_layout.specs.declared.slot.SlotRead.TheVariants.{Bad, Empty, Entry}
use Rattle.trio_surveys.proofs.Places.{below_from}
use Rattle.trio_laws.proofs.judgement.RuleParts.{rule_pages_once}
use Rattle.trio_ctl.proofs.StoredFacts.{Checkpoints}
use Rattle.trio_ctl.proofs.Children.{filter_map-In}
use Rattle.trio_ctl.proofs.AcceptedBundle.{AcceptedBundle, case_here, core_then, judgeable, now}
use Rattle.trio_ctl.proofs.PagesPut.{kept, lent}

-- ---- distinct numbers among others

take_out : (n : ℕ) (ys : List ℕ) → In n ys → (zs : List ℕ) × (suc (length zs) ≡ length ys) × ((m : ℕ) → In m ys → m ≢ n → In m zs)
take_out n [] i = absurd i
take_out n (y ∷ ys) (inl here) = (ys, refl, others)
  where
    others : (m : ℕ) → In m (y ∷ ys) → m ≢ n → In m ys
    others m (inl same) apart = absurd (apart (same ∙ sym here))
    others m (inr later) apart = later
take_out n (y ∷ ys) (inr later) =
    let r = take_out n ys later in
    (y ∷ r.0, ap suc r.1, others r.0 r.2)
  where
    others : (zs : List ℕ) → ((m : ℕ) → In m ys → m ≢ n → In m zs) → (m : ℕ) → In m (y ∷ ys) → m ≢ n → In m (y ∷ zs)
    others zs h m (inl same) apart = inl same
    others zs h m (inr i) apart = inr (h m i apart)

no_more : (xs ys : List ℕ) → are_new [] xs ≡ true → ((n : ℕ) → In n xs → In n ys) → length xs ≤ length ys
no_more [] ys new h = omega arith
no_more (x ∷ xs) ys new h =
    let first = are_new-first x xs new in
    let r = take_out x ys (h x (inl refl)) in
    let rest = no_more xs r.0 first.1 (λ n i. r.2 n (h n (inr i)) (λ same. first.0 (subst (λ k. In k xs) same i))) in
    let long = r.1 in
    omega (arith, rest, long)

-- ---- how often the page changes

-- along these files, and whatever comes before and after them, the page changes at most so often
Changes : ℕ → List Met → Type 0
Changes n ms = (later : List Met) (k : ℕ) → ((at : Option ℕ) → page_changes at later ≤ k) → (at : Option ℕ) → page_changes at (ms ++ later) ≤ n + k

changes_more : (n m : ℕ) (ms : List Met) → n ≤ m → Changes n ms → Changes m ms
unfolding Changes
changes_more n m ms le few later k h at = (let f = few later k h at in omega (arith, f, le))

changes_none : Changes 0 []
unfolding Changes
changes_none later k h at = (let f = h at in omega (arith, f))

changes_both : (n m : ℕ) (xs ys : List Met) → Changes n xs → Changes m ys → Changes (n + m) (xs ++ ys)
unfolding Changes
changes_both n m xs ys first second later k h at =
    let f : page_changes at (xs ++ (ys ++ later)) ≤ n + (m + k) = first (ys ++ later) (m + k) (second later k h) at in
    let same = ap (page_changes at) (append_assoc xs ys later) in
    omega (arith, f, same)

stays_on : (p : ℕ) (xs later : List Met) → ((m : Met) → In m xs → m.page ≡ p) → page_changes (Some p) (xs ++ later) ≡ page_changes (Some p) later
stays_on p [] later h = refl
stays_on p (x ∷ xs) later h =
    ap (λ b. if b then page_changes (Some x.page) (xs ++ later) else suc (page_changes (Some x.page) (xs ++ later))) (eq-eqb p x.page (sym (h x (inl refl))))
    ∙ ap (λ k. page_changes (Some k) (xs ++ later)) (h x (inl refl))
    ∙ stays_on p xs later (λ m i. h m (inr i))

-- files on one page
changes_once : (p : ℕ) (ms : List Met) → ((m : Met) → In m ms → m.page ≡ p) → Changes 1 ms
unfolding Changes
changes_once p [] h later k few at = (let f = few at in omega (arith, f))
changes_once p (x ∷ xs) h later k few at =
    by (option_map_or (λ page. page == x.page) at false)
  where
    rest : page_changes (Some x.page) (xs ++ later) ≤ k
    rest =
        let same = stays_on x.page xs later (λ m i. h m (inr i) ∙ sym (h x (inl refl))) in
        let f = few (Some x.page) in
        omega (arith, same, f)

    by : (b : Bool) → (if b then page_changes (Some x.page) (xs ++ later) else suc (page_changes (Some x.page) (xs ++ later))) ≤ 1 + k
    by true = (let r = rest in omega (arith, r))
    by false = (let r = rest in omega (arith, r))

changes_flat : {X : Type 0} (f : X → List Met) (g : X → List ℕ) (xs : List X) → ((x : X) → In x xs → Changes (length (g x)) (f x)) → Changes (length (flat_map g xs)) (flat_map f xs)
changes_flat f g [] h = changes_none
changes_flat f g (x ∷ xs) h =
    subst (λ n. Changes n (f x ++ flat_map f xs)) (sym (length-append (g x) (flat_map g xs)))
    (changes_both (length (g x)) (length (flat_map g xs)) (f x) (flat_map f xs) (h x (inl refl)) (changes_flat f g xs (λ y i. h y (inr i))))

-- ---- entries by their pages

slot_page : (page slot : ℕ) (body : List ℕ) (r : SlotRead) (es : List Listed) (l : Listed) → listed_at page slot body r ≡ Ok es → In l es → l.page ≡ page
slot_page page slot body Empty es l s i = (let n : [] ≡ es = cc s in absurd (subst (λ x. In l x) (sym n) i))
slot_page page slot body Bad es l s i = absurd (cc s)
slot_page page slot body (Entry p) es l s i =
    let n : record { entry = p; page = page; slot = slot; body = body } ∷ [] ≡ es = cc s in
    elim (subst (λ x. In l x) (sym n) i) [
      | inl is ↦ ap (λ (x : Listed). x.page) is
      | inr none ↦ absurd none
    ]

-- the entries of a page stand on it
on_page : (core : Core) (p : ℕ) (es : List Listed) (l : Listed) → page_entries core p ≡ Ok es → In l es → l.page ≡ p
unfolding entries_on
on_page core p es l s i =
    let r = result_then-Ok (entries_on core.inodes p) (there_or (at_page p) (page_of core p)) es s in
    let q = below_from (slot_entries core.inodes p r.0) 16 es l r.2 i in
    slot_page p q.0 (body_in_slot q.0 r.0) (slot_of core.inodes (slot_bytes q.0 r.0)) q.1 l q.3 q.4

module _ (cs : Checkpoints) (c : Case) (core : Core) where
  abbrev child : ListedEntry → Option Met
  child x = option_map (child_of x) (kept_body cs x)

  -- the kept children among the entries of a directory
  abbrev kept_of : ℕ → List Listed → List Met
  kept_of d ls = filter_map (λ x. option_map (child_of x) (kept_body cs x)) (map (entry_listed c) (map (met_in plain d) ls))

  kept_both : (d : ℕ) (xs ys : List Listed) → kept_of d (xs ++ ys) ≡ kept_of d xs ++ kept_of d ys
  kept_both d xs ys =
      ap (λ l. filter_map child (map (entry_listed c) l)) (map-append (met_in plain d) xs ys)
      ∙ ap (filter_map child) (map-append (entry_listed c) (map (met_in plain d) xs) (map (met_in plain d) ys))
      ∙ filter_map-append child (map (entry_listed c) (map (met_in plain d) xs)) (map (entry_listed c) (map (met_in plain d) ys))

  child_page : (x : ListedEntry) (o : Option (List ℕ)) (m : Met) → option_map (child_of x) o ≡ Some m → m.page ≡ x.page
  child_page x None m s = absurd cc
  child_page x (Some body) m s = (let is : child_of x body ≡ m = cc s in ap (λ (z : Met). z.page) (sym is))

  kept_page : (d p : ℕ) (ls : List Listed) (m : Met) → ((l : Listed) → In l ls → l.page ≡ p) → In m (kept_of d ls) → m.page ≡ p
  kept_page d p ls m h i =
      let x = filter_map-In child m (map (entry_listed c) (map (met_in plain d) ls)) i in
      let y = map-In (entry_listed c) x.0 (map (met_in plain d) ls) x.1 in
      let l = map-In (met_in plain d) y.0 ls y.1 in
      child_page x.0 (kept_body cs x.0) m x.2
      ∙ ap (λ (z : ListedEntry). z.page) y.2
      ∙ ap (λ (z : Met). z.page) l.2
      ∙ h l.0 l.1

  changes_blocks : (d : ℕ) (blocks : List ℕ) (es : List Listed) → gathered (page_entries core) blocks ≡ Ok es → Changes (length blocks) (kept_of d es)
  changes_blocks d [] es s = (let n : [] ≡ es = cc s in subst (λ l. Changes 0 (kept_of d l)) n changes_none)
  changes_blocks d (p ∷ blocks) es s =
      let r = both-Ok (page_entries core p) (gathered (page_entries core) blocks) es s in
      let here = changes_once p (kept_of d r.0) (λ m i. kept_page d p r.0 m (λ l j. on_page core p r.0 l r.2 j) i) in
      let both' = changes_both 1 (length blocks) (kept_of d r.0) (kept_of d r.1) here (changes_blocks d blocks r.1 r.3) in
      changes_more (1 + length blocks) (suc (length blocks)) (kept_of d es) (omega arith)
      (subst (λ l. Changes (1 + length blocks) l) (sym (kept_both d r.0 r.1) ∙ ap (kept_of d) r.4) both')

  -- along the kept children of a directory the page changes at most once a block
  changes_kind : (d : ℕ) (kind : Kind) (blocks : List ℕ) (es : List Listed) → entries_of_kind core kind blocks ≡ Ok es → Changes (length blocks) (kept_of d es)
  changes_kind d kind blocks es s =
      elim (kind_cases kind) [
        | inl directory ↦ changes_blocks d blocks es (gathers_directory core blocks es (ap (λ k. entries_of_kind core k blocks) (sym directory) ∙ s)).0
        | inr other ↦
            let said : Ok [] ≡ Ok es = sym (ap (λ t. cond t (entries_of core blocks) (Ok [])) other) ∙ s in
            let n : [] ≡ es = cc said in
            subst (λ l. Changes (length blocks) (kept_of d l)) n (changes_more 0 (length blocks) [] (omega arith) changes_none)
      ]

  -- kept children, directory by directory
  kept_spread : (ms : List Met) → filter_map (λ x. option_map (child_of x) (kept_body cs x)) (map (entry_listed c) (flat_map (entries_in c) ms)) ≡ flat_map (λ m. filter_map (λ x. option_map (child_of x) (kept_body cs x)) (map (entry_listed c) (entries_in c m))) ms
  kept_spread [] = refl
  kept_spread (m ∷ ms) =
      ap (filter_map child) (map-append (entry_listed c) (entries_in c m) (flat_map (entries_in c) ms))
      ∙ filter_map-append child (map (entry_listed c) (entries_in c m)) (map (entry_listed c) (flat_map (entries_in c) ms))
      ∙ ap (λ l. filter_map child (map (entry_listed c) (entries_in c m)) ++ l) (kept_spread ms)

module _ (e : AcceptedBundle) where
  changes_judged : (m : Met) → In m (judged_files (case_here e)) → Changes (length (pages_within (case_here e) m)) (filter_map (λ x. option_map (child_of x) (kept_body (lent e) x)) (map (entry_listed (case_here e)) (entries_in (case_here e) m)))
  changes_judged m i =
      let r = reads (now e) e.handed.lib.0 e.handed.bundle (judgeable e) e.accepted m i in
      let blocks : List ℕ = r.file.chain.blocks in
      let pages : pages_within (case_here e) m ≡ r.file.chain.index ++ blocks = ap pages_in r.within in
      let long : length (pages_within (case_here e) m) ≡ length r.file.chain.index + length blocks = ap length pages ∙ length-append r.file.chain.index blocks in
      let entries : entries_in (case_here e) m ≡ map (met_in plain m.ino) r.file.entries = ap (children_in plain m.ino) r.within in
      let here = changes_kind (lent e) (case_here e) (core_then e) m.ino m.kind blocks r.file.entries (reads_from (core_then e) m r.file r.whole).entries in
      changes_more (length blocks) (length (pages_within (case_here e) m)) _ (omega (arith, long))
      (subst (λ l. Changes (length blocks) (filter_map (λ x. option_map (child_of x) (kept_body (lent e) x)) (map (entry_listed (case_here e)) l))) (sym entries) here)

  pages_few : length (judged_pages (case_here e)) ≤ length (bundle_pages e.handed.bundle)
  pages_few =
      no_more (judged_pages (case_here e)) (bundle_pages e.handed.bundle)
      (rule_pages_once (case_here e) ((rules_are_accept (now e) e.handed.lib.0 e.handed.bundle (judgeable e)).1 e.accepted))
      (λ p i.
      let q = flat_map-In (pages_within (case_here e)) p (judged_files (case_here e)) i in
      let r = reads (now e) e.handed.lib.0 e.handed.bundle (judgeable e) e.accepted q.0 q.1 in
      r.own p (subst (λ l. In p l) (ap pages_in r.within) q.2))

  -- along the kept children the page changes at most once a page of the bundle
  pub few_looks : page_changes None (kept e) ≤ length (bundle_sheets e.handed.bundle)
  unfolding Changes
  few_looks =
      let F : Met → List Met = λ m. filter_map (λ x. option_map (child_of x) (kept_body (lent e) x)) (map (entry_listed (case_here e)) (entries_in (case_here e) m)) in
      let all = changes_flat F (pages_within (case_here e)) (judged_files (case_here e)) changes_judged in
      let bound : page_changes None (flat_map F (judged_files (case_here e)) ++ []) ≤ length (judged_pages (case_here e)) + 0 = all [] 0 (λ at. omega arith) None in
      let same : page_changes None (kept e) ≡ page_changes None (flat_map F (judged_files (case_here e)) ++ []) =
      ap (page_changes None) (kept_spread (lent e) (case_here e) (core_then e) (judged_files (case_here e)) ∙ sym (append-nil (flat_map F (judged_files (case_here e))))) in
      let few = pages_few in
      let count : length (bundle_pages e.handed.bundle) ≡ length (bundle_sheets e.handed.bundle) = length-map (bundle_sheets e.handed.bundle) (λ (x : Sheet). x.page) in
      omega (arith, bound, same, few, count)
