-- A bundle breaks a rule exactly where it doesn't meet all four; the lowest is named.
use Rattle.trio_laws.proofs.Words.{◌&&◌, ◌++◌, ◌<◌, ◌∙◌, ◌∷◌, ◌≡◌, ◌≤◌, Bool, BreaksGrammar, BreaksOwning, BreaksRights, Case, EntryAt, Err, FileRead, In, In-flat, List, Listing, Location, Met, Ok, Option, Result, Row, [], all_up_to, and_from, and_parts, ap, are_new, arith, at_page, both_ways, bundle_core, bundle_pages, cases_Bool, cases_lt, comes_to_root, entry_in_grammar, entry_is_own, entry_keeps_rights, false, false_from_ne_true, false≢true, file_keeps_rights, file_within, flat_map, flat_map-In, get_or_past, inl, inr, is_among, is_ok, judged_entries, judged_files, judged_listings, judged_pages, keeps_children, leaves_none, length, list_all, list_all-In, listing, map, map-append, meets_edges, meets_grammar, meets_owning, meets_rights, meets_rules, ms, nowhere, numbers, pages_within, refl, row_in, stays_listed, suc, sym, true, up_to_at, zero, ℕ}
use Rattle.trio_lists.proofs.Gathered.{repeated, not_new, and_false, all_false}
use Rattle.trio_layout.specs.Broken.{Breaks, BreaksEdges}
use Rattle.trio_layout.specs.Rule.{rule_number}
use Rattle.trio_layout.specs.declared.refusal.Rule.TheVariants.{Grammar, Owning, Edges, Rights}
use Rattle.trio_layout.specs.Sound.{PageListing}
use Rattle.trio_laws.proofs.Refusing.{pages}
use Rattle.trio_laws.specs.RuleLaws.{BreaksWhereNotMet}

up_to_false : (p : ℕ → Bool) (n : ℕ) → all_up_to p n ≡ false → (k : ℕ) × (0 < k) × (p k ≡ false)
up_to_false p zero e = absurd (false≢true (sym e))
up_to_false p (suc n) e =
    elim (and_false (all_up_to p n) (p (suc n)) e) [
      | inl no' ↦ up_to_false p n no'
      | inr here ↦ let l : 0 < suc n = omega arith in (suc n, l, here.1)
    ]

module _ (c : Case) where
  abbrev page_of_listing : PageListing → ℕ
  page_of_listing l = l.page

  pages_listed : (ms : List Met) → map page_of_listing (flat_map (λ m. map (λ p. record { ino = m.ino; page = p }) (pages_within c m)) ms) ≡ flat_map (pages_within c) ms
  pages_listed [] = refl
  pages_listed (m ∷ ms) =
      map-append page_of_listing (map (λ p. record { ino = m.ino; page = p }) (pages_within c m)) (flat_map (λ m. map (λ p. record { ino = m.ino; page = p }) (pages_within c m)) ms)
      ∙ ap (λ l. l ++ map page_of_listing (flat_map (λ m. map (λ p. record { ino = m.ino; page = p }) (pages_within c m)) ms)) (same m (pages_within c m))
      ∙ ap (λ l. pages_within c m ++ l) (pages_listed ms)
    where
      same : (m : Met) (ps : List ℕ) → map page_of_listing (map (λ p. record { ino = m.ino; page = p }) ps) ≡ ps
      same m [] = refl
      same m (p ∷ ps) = ap (λ l. p ∷ l) (same m ps)

  fault_of : (r : Result FileRead Location) → is_ok r ≡ false → (place : Location) × (r ≡ Err place)
  fault_of (Ok f) e = absurd (false≢true (sym e))
  fault_of (Err p) e = (p, refl)

  entry_place : (e : Met) → In e (judged_entries c) → EntryAt c e.parent (record { page = e.page; slot = e.slot }) e
  entry_place e i = record { among = i; directory = refl; page = refl; slot = refl }

  abbrev Somewhere : (ℕ → Location → Type 0) → Type 0
  Somewhere B = (ino : ℕ) × (place : Location) × B ino place

  grammar_broken : meets_grammar c ≡ false → Somewhere (BreaksGrammar c)
  grammar_broken e =
      elim (and_false (list_all (λ m. is_ok (file_within (bundle_core c) m)) (judged_files c)) (list_all (entry_in_grammar c) (judged_entries c)) e) [
        | inl files ↦
            let m = all_false (λ m. is_ok (file_within (bundle_core c) m)) (judged_files c) files in
            let p = fault_of (file_within (bundle_core c) m.0) m.2 in
            (m.0.ino, p.0, inl (m.0, record { among = m.1; number = refl }, p.1))
        | inr rest ↦
            let x = all_false (entry_in_grammar c) (judged_entries c) rest.1 in
            (x.0.parent, record { page = x.0.page; slot = x.0.slot }, inr (x.0, entry_place x.0 x.1, x.2))
      ]

  abbrev A : Bool
  A = list_all (λ page. is_among page (bundle_pages c.bundle)) (judged_pages c)

  abbrev B : Bool
  B = are_new [] (judged_pages c)

  abbrev D : Bool
  D = list_all (entry_is_own c) (judged_entries c)

  owning_broken : meets_owning c ≡ false → Somewhere (BreaksOwning c)
  owning_broken e =
      elim (and_false (A && B && D) (are_new [] (numbers (judged_entries c))) e) [
        | inr again ↦
            let r = repeated (λ (m : Met). m.ino) [] (judged_entries c) again.1 in (
              r.1.parent,
              record { page = r.1.page; slot = r.1.slot },
              inr (inr (inr (record { earlier = r.0; again = r.1; later = r.2; order = r.3; directory = refl; page = refl; slot = refl; seen = r.4 }))),
            )
        | inl first ↦
            elim (and_false (A && B) D first) [
              | inr foreign ↦
                  let x = all_false (entry_is_own c) (judged_entries c) foreign.1 in
                  (x.0.parent, record { page = x.0.page; slot = x.0.slot }, inr (inr (inl (x.0, entry_place x.0 x.1, x.2))))
              | inl pages ↦
                  elim (and_false A B pages) [
                    | inl not_own ↦
                        let p = all_false (λ page. is_among page (bundle_pages c.bundle)) (judged_pages c) not_own in
                        let m = flat_map-In (pages_within c) p.0 (judged_files c) p.1 in
                        (m.0.ino, at_page p.0, inl (p.0, (m.0, record { among = m.1; number = refl }, m.2, p.2), refl))
                    | inr again ↦
                        let r = repeated page_of_listing [] (judged_listings c) (ap (are_new []) (pages_listed (judged_files c)) ∙ again.1) in
                        (r.1.ino, at_page r.1.page, inr (inl (r.1.page, record { earlier = r.0; later = r.2; order = r.3; seen = r.4 }, refl)))
                  ]
            ]
      ]

  edges_broken : (l : Listing) (rows : List (Option Row)) → meets_edges l rows ≡ false → (ino : ℕ) × BreaksEdges l rows ino
  edges_broken l rows e =
      let K : Bool = keeps_children l rows in
      let N : Bool = list_all (leaves_none l rows) l.held in
      elim (and_false (K && N) (list_all (comes_to_root l rows) l.entries) e) [
        | inr moved ↦ let x = all_false (comes_to_root l rows) l.entries moved.1 in (x.0.ino, inr (inr (x.0, x.1, refl, x.2)))
        | inl first ↦ search (arith, and_false, up_to_false, all_false)
      ]

  rights_broken : meets_rights c ≡ false → Somewhere (BreaksRights c)
  rights_broken e =
      elim (and_false (list_all (entry_keeps_rights c) (judged_entries c)) (list_all (λ m. file_keeps_rights c m (file_within (bundle_core c) m)) (judged_files c)) e) [
        | inl entries ↦
            let x = all_false (entry_keeps_rights c) (judged_entries c) entries in
            (x.0.parent, record { page = x.0.page; slot = x.0.slot }, inl (x.0, entry_place x.0 x.1, x.2))
        | inr files ↦
            let m = all_false (λ m. file_keeps_rights c m (file_within (bundle_core c) m)) (judged_files c) files.1 in
            (m.0.ino, nowhere, inr (m.0, record { among = m.1; number = refl }, m.2, refl))
      ]

  abbrev Broken_at : Type 0
  Broken_at = (rule : ℕ) × (ino : ℕ) × (place : Location) × Breaks c rule ino place

  names : meets_rules c ≡ false → Broken_at
  names e =
      let G : Bool = meets_grammar c in
      let O : Bool = meets_owning c in
      let E : Bool = meets_edges (listing c) c.rows in
      elim (cases_Bool G) [
        | inr g ↦ let r = grammar_broken g in (1, r.0, r.1, inl (refl, r.2))
        | inl g ↦
            elim (cases_Bool O) [
              | inr o ↦ let r = owning_broken o in (2, r.0, r.1, inr (inl (refl, g, r.2)))
              | inl o ↦
                  elim (cases_Bool E) [
                    | inr d ↦ let r = edges_broken (listing c) c.rows d in (3, r.0, nowhere, inr (inr (inl (refl, g, o, r.1, refl))))
                    | inl d ↦
                        elim (cases_Bool (meets_rights c)) [
                          | inr h ↦ let r = rights_broken h in (4, r.0, r.1, inr (inr (inr (refl, g, o, d, r.2))))
                          | inl h ↦ absurd (both_ways (meets_rules c) e (and_from (G && O && E) (meets_rights c) (and_from (G && O) E (and_from G O g o) d) h))
                        ]
                  ]
            ]
      ]

  -- ---- what is named is broken

  no_grammar : (ino : ℕ) (place : Location) → BreaksGrammar c ino place → meets_grammar c ≡ true → ⊥
  no_grammar ino place h t = search (arith, and_parts, is_ok, false≢true, list_all-In, both_ways)

  no_owning : (ino : ℕ) (place : Location) → BreaksOwning c ino place → meets_owning c ≡ true → ⊥
  no_owning ino place x t =
      let p = and_parts (A && B && D) (are_new [] (numbers (judged_entries c))) t in
      let q = and_parts (A && B) D p.0 in
      let r = and_parts A B q.0 in
      elim x [
        | inl f ↦
            both_ways (is_among f.0 (bundle_pages c.bundle)) f.1.3
            (list_all-In (λ page. is_among page (bundle_pages c.bundle)) f.0 (judged_pages c) r.0 (In-flat (pages_within c) f.1.0 f.0 (judged_files c) f.1.1.among f.1.2))
        | inr y ↦ search (arith, both_ways, pages_listed, not_new, list_all-In)
      ]

  row_high : (l : Listing) (rows : List (Option Row)) (n : ℕ) → stays_listed l n (row_in rows n) ≡ false → n ≤ length rows
  row_high l rows n e = search (arith, cases_lt, false≢true, get_or_past)

  no_edges : (l : Listing) (rows : List (Option Row)) (ino : ℕ) → BreaksEdges l rows ino → meets_edges l rows ≡ true → ⊥
  no_edges l rows ino x t =
      let K : Bool = keeps_children l rows in
      let N : Bool = list_all (leaves_none l rows) l.held in
      let p = and_parts (K && N) (list_all (comes_to_root l rows) l.entries) t in
      let q = and_parts K N p.0 in
      elim x [
        | inl lost ↦
            both_ways (stays_listed l ino (row_in rows ino)) lost.1 (up_to_at (λ n. stays_listed l n (row_in rows n)) (length rows) ino q.0 lost.0 (row_high l rows ino lost.1))
        | inr y ↦ search (arith, both_ways, list_all-In)
      ]

  no_rights : (ino : ℕ) (place : Location) → BreaksRights c ino place → meets_rights c ≡ true → ⊥
  no_rights ino place x t = search (arith, and_parts, both_ways, list_all-In)

  is_broken : Broken_at → meets_rules c ≡ false
  is_broken x =
      false_from_ne_true (meets_rules c)
      (λ t.
      let G : Bool = meets_grammar c in
      let O : Bool = meets_owning c in
      let E : Bool = meets_edges (listing c) c.rows in
      let p = and_parts (G && O && E) (meets_rights c) t in
      let q = and_parts (G && O) E p.0 in
      let r = and_parts G O q.0 in
      elim x.3 [
        | inl a ↦ no_grammar x.1 x.2 a.1 r.0
        | inr y ↦
            elim y [
              | inl a ↦ no_owning x.1 x.2 a.2 r.1
              | inr z ↦
                  elim z [
                    | inl a ↦ no_edges (listing c) c.rows x.1 a.3 q.1
                    | inr a ↦ no_rights x.1 x.2 a.4 p.1
                  ]
            ]
      ])

  -- the lowest rule that isn't met, by whether each of the first three is
  abbrev by_rules : Bool → Bool → Bool → ℕ
  by_rules false owning edges = rule_number Grammar
  by_rules true false edges = rule_number Owning
  by_rules true true false = rule_number Edges
  by_rules true true true = rule_number Rights

  abbrev pub lowest_rule : ℕ
  lowest_rule = by_rules (meets_grammar c) (meets_owning c) (meets_edges (listing c) c.rows)

  -- a rule that is broken at a place, where the lower ones are met, is the lowest
  pub breaks_lowest : (rule ino : ℕ) (place : Location) → Breaks c rule ino place → rule ≡ lowest_rule
  breaks_lowest rule ino place x =
      let O : Bool = meets_owning c in
      let E : Bool = meets_edges (listing c) c.rows in
      elim x [
        | inl a ↦
            a.0 ∙ sym (ap (λ g. by_rules g O E) (false_from_ne_true (meets_grammar c) (no_grammar ino place a.1)))
        | inr y ↦
            elim y [
              | inl a ↦
                  a.0
                  ∙ sym (ap (λ g. by_rules g O E) a.1
                  ∙ ap (λ o. by_rules true o E) (false_from_ne_true O (no_owning ino place a.2)))
              | inr z ↦
                  elim z [
                    | inl a ↦
                        a.0
                        ∙ sym (ap (λ g. by_rules g O E) a.1 ∙ ap (λ o. by_rules true o E) a.2
                        ∙ ap (by_rules true true) (false_from_ne_true E (no_edges (listing c) c.rows ino a.3)))
                    | inr a ↦ search arith
                  ]
            ]
      ]

pub breaks_where_not_met : BreaksWhereNotMet
breaks_where_not_met c = (names c, is_broken c)
