-- Where a bundle meets the four rules, each live file that isn't held is met in the proposed core.
use Rattle.trio_laws.proofs.Words.{◌&&◌, ◌<◌, ◌||◌, ◌∙◌, ◌∷◌, ◌≡◌, ◌≤◌, ◌⊎◌, Bool, Bundle, Case, Core, Directory, In, In-is_among, In-list_any, IsJudgeable, Kind, List, Listed, ListedEntry, Met, None, Ok, Option, Pick, Reaches, Row, Some, State, [], among_cases, and_from, ap, arith, both_ways, case_of, cases_Bool, cases_eq, child_from, child_met, child_parent, children, climbs, climbs_clear, creds_of, entries_in, entries_of_kind, entry_listed, eq-eqb, eqb, eqb-true, false, false≢true, get_or, has_file, has_kind, inl, inr, is_among, is_among-In, is_child, is_kept, is_listed_kept, is_moved, is_some, judged_entries, judged_files, length, list_any, listing, meets_rules, met_cases, no_root_listed, not, not-true, one_met, or_cases, plain, proposed, proposed_parent, proposed_pick, reached_met, read_met, reads_from, refl, root_of, row_at, row_in, row_there, settled, some_one, stays_listed, subst, suc, survey, survey_reached, sym, true, zero, ℕ}
use Rattle.trio_surveys.proofs.Climbing.{clear_climbs}
use Rattle.trio_surveys.proofs.Reached.{root_met}
use Rattle.trio_laws.proofs.judgement.CaseFacts.{parent_at, live, live_bounds, row_of_met, new_not_live, held_apart, written_row}
use Rattle.trio_laws.proofs.judgement.JudgedFacts.{entry_from, entry_to, judged_from, new_from, one_judged, entries_are, written_ino}
use Rattle.trio_laws.proofs.judgement.RuleParts.{rule_own, rule_stays, rule_leaves, rule_comes, has_kind_from}
use Rattle.trio_laws.proofs.judgement.ListingFacts.{held_from, is_listed_at, kept_at, has_file_by, held_to, listed_to, parent_cases}
use Rattle.trio_laws.proofs.judgement.Sides.{Inside, inside_has, outside_met, outside_has}
use Rattle.trio_laws.proofs.judgement.Giving.{reads, sides, rules_sound, met_stands, kept_row}

-- a file that lists something is a directory
pub lists_directory : (core : Core) (pick : Pick) (x m : Met) → In m (children core pick x) → x.kind ≡ Directory
lists_directory core pick x m i =
    let q = child_from core pick x m i in
    by_kind x.kind refl q.file.chain.blocks q.file.entries q.entry (reads_from core x q.file q.read).entries q.listed
  where
    by_kind : (k : Kind) → x.kind ≡ k → (blocks : List ℕ) (es : List Listed) (l : Listed) → entries_of_kind core x.kind blocks ≡ Ok es → In l es → x.kind ≡ Directory
    by_kind k e blocks es l r j = search arith

stays_cases : (f h k : Bool) → (not f || h || k) ≡ true → f ≡ true → h ≡ false → k ≡ true
stays_cases f h k e a d = search (arith, false≢true)

module _ (s : State) (lib : ℕ) (b : Bundle) (j : IsJudgeable s lib b) (h : meets_rules (case_of (settled s) (creds_of s lib) b) ≡ true) where
  abbrev c : Case
  c = case_of (settled s) (creds_of s lib) b

  abbrev core : Core
  core = proposed (settled s) b

  abbrev pick : Pick
  pick = proposed_pick (settled s) b

  abbrev C : Core
  C = (settled s).core

  abbrev up : ℕ → ℕ
  up n = proposed_parent (listing c) c.rows n

  abbrev Found : ℕ → Type 0
  Found n = (m : Met) × In m (survey core pick) × (m.ino ≡ n)

  abbrev Listed_at : ℕ → Type 0
  Listed_at n = (e : Met) × In e (judged_entries c) × (e.ino ≡ n)

  abbrev Free : ℕ → Type 0
  Free n = (r : Row) × (row_at (settled s) n ≡ Some r) × (In n b.holds → ⊥)

  -- a number that is listed, or live and not held
  abbrev Stays : ℕ → Type 0
  Stays n = Listed_at n ⊎ Free n

  one : 1 ≤ core.inodes
  one = j.kept.fit.numbers

  kid_found : (m x : Met) (n : ℕ) → In m (survey core pick) → In x (children core pick m) → x.ino ≡ n → Found n
  kid_found m x n i k e = (x, child_met core pick one (rules_sound s lib b j h) m x i k, e)

  root_found : Found 1
  root_found = (root_of core, root_met core pick one (rules_sound s lib b j h), refl)

  -- a file met that has a judged file's number is on its side
  judged_inside : (m x : Met) → In m (survey core pick) → In x (judged_files c) → m.ino ≡ x.ino → (k : Inside s lib b j (reads s lib b j h) m) × (k.file ≡ x)
  judged_inside m x i k e =
      elim (sides s lib b j h m (met_stands s lib b j h m i)) [
        | inl q ↦ (q, one_judged s lib b j q.file x q.judged_one k (sym q.ino ∙ e))
        | inr o ↦
            absurd (elim (judged_from s lib b j x k) [
              | inl w ↦ o.unwritten w.0 w.1 (sym (written_ino c w.0) ∙ ap (λ (y : Met). y.ino) (sym w.2) ∙ sym e)
              | inr y ↦
                  let new = (new_from s lib b j y.0 x y.2).1 in
                  new_not_live s lib b j x.ino o.row new (ap (row_at (settled s)) (sym e) ∙ o.is_row)
            ])
      ]

  -- a recorded child of a judged file that isn't held is listed where its row says
  child_stays : (n : ℕ) (r : Row) (x : Met) → row_at (settled s) n ≡ Some r → In x (judged_files c) → x.ino ≡ r.parent → (In n b.holds → ⊥) → (e : Met) × In e (judged_entries c) × (e.ino ≡ n) × (is_kept c e ≡ true)
  child_stays n r x e i is unheld =
      let low = (live_bounds s lib b j n r e).0 in
      let inside : n < length c.rows = row_there c.rows n (ap is_some e) in
      let t = rule_stays c h n low (omega (arith, inside)) in
      let t' : stays_listed (listing c) n (Some r) ≡ true = sym (ap (stays_listed (listing c) n) e) ∙ t in
      let f = reads s lib b j h x i in
      let file : has_file (listing c) r.parent ≡ true = has_file_by c x f.file r.parent i f.within is in
      let out : is_among n (listing c).held ≡ false = held_false n unheld in
      kept_at c n (stays_cases (has_file (listing c) r.parent) (is_among n (listing c).held) (is_listed_kept (listing c) n) t' file out)
    where
      held_false : (n : ℕ) → (In n b.holds → ⊥) → is_among n (listing c).held ≡ false
      held_false n u = (elim (cases_Bool (is_among n (listing c).held)) [
        | inr f ↦ f
        | inl t ↦ absurd (u (held_from c n (is_among-In n (listing c).held t)))
      ])

  row_in_list : (rows : List (Option Row)) (n : ℕ) (r : Row) → get_or rows n None ≡ Some r → In (Some r) rows
  row_in_list [] n r e = absurd cc
  row_in_list (x ∷ xs) zero r e = inl (sym e)
  row_in_list (x ∷ xs) (suc n) r e = inr (row_in_list xs n r e)

  -- a held file with a recorded child is listed
  held_listed : (p n : ℕ) (r : Row) → In p b.holds → row_at (settled s) n ≡ Some r → r.parent ≡ p → Listed_at p
  held_listed p n r i e is =
      let t = rule_leaves c h p (held_to c p i) in
      let some_child : list_any (is_child p) c.rows ≡ true = In-list_any (is_child p) (Some r) c.rows (row_in_list c.rows n r e) (eq-eqb r.parent p is) in
      search (arith, or_cases, is_listed_at, both_ways, not-true)

  judged_stays : (x : Met) → In x (judged_files c) → Stays x.ino
  judged_stays x i =
      elim (judged_from s lib b j x i) [
        | inl w ↦
            let is : w.0.ino ≡ x.ino = sym (written_ino c w.0) ∙ ap (λ (y : Met). y.ino) (sym w.2) in
            let r = written_row s lib b j w.0 w.1 in
            inr (r.0, ap (row_at (settled s)) (sym is) ∙ r.1, λ k. held_apart s lib b j x.ino k w.0 w.1 is)
        | inr y ↦ inl (x, entry_to s lib b j y.0 x y.1 (new_from s lib b j y.0 x y.2).0, refl)
      ]

  -- the directory of a file of the settled image
  pub record Above (n : ℕ) (r : Row) : Type 0 where
    pub met : Met
    pub stands : In met (survey (settled s).core plain)
    pub number : met.ino ≡ n
    pub directory : Met
    pub there : In directory (survey (settled s).core plain)
    pub lists : In met (children (settled s).core plain directory)
    pub parent : r.parent ≡ directory.ino
    pub row : Row
    pub is_row : row_at (settled s) directory.ino ≡ Some row
    pub kind : row.kind ≡ Directory

  above : (n : ℕ) (r : Row) → row_at (settled s) n ≡ Some r → (n ≡ 1 → ⊥) → Above n r
  above n r e not_one =
      let m = live s lib b j n r e in
      elim (met_cases C plain one j.kept.verifies.sound m.met m.stands) [
        | inl z ↦ absurd (not_one (sym m.number ∙ ap (λ (x : Met). x.ino) z))
        | inr q ↦
            let f = read_met C plain j.kept.fit j.kept.verifies.sound q.0 q.1 in
            record {
              met = m.met;
              stands = m.stands;
              number = m.number;
              directory = q.0;
              there = q.1;
              lists = q.2;
              parent = ap (λ (x : Row). x.parent) m.row ∙ child_parent C plain q.0 m.met q.2;
              row = _;
              is_row = row_of_met s lib b j q.0 f.0 q.1 f.1;
              kind = lists_directory C plain q.0 m.met q.2;
            }
      ]

  free_or_listed : (p n : ℕ) (r rp : Row) → row_at (settled s) n ≡ Some r → r.parent ≡ p → row_at (settled s) p ≡ Some rp → Stays p
  free_or_listed p n r rp e is row =
      elim (among_cases p b.holds) [
        | inl held ↦ inl (held_listed p n r held e is)
        | inr unheld ↦ inr (rp, row, unheld)
      ]

  -- Where the proposed parent of a number is met, the number is.
  step : (n : ℕ) → Stays n → (n ≡ 1 → ⊥) → ((p : ℕ) → up n ≡ p → Stays p → Found p) → Found n
  step n st not_one above_found =
      elim (parent_cases c n) [
        | inl q ↦
            let e : Met = q.0 in
            let x = entry_from s lib b j e q.1 in
            let dir : e.parent ≡ x.0.ino = child_parent core plain x.0 e (subst (λ l. In e l) (entries_are s lib b j x.0 (reads s lib b j h x.0 x.1)) x.2) in
            let m = above_found x.0.ino (q.3 ∙ dir) (judged_stays x.0 x.1) in
            let k = judged_inside m.0 x.0 m.1 x.1 m.2 in
            let y = inside_has s lib b j (reads s lib b j h) m.0 k.0 e (subst (λ f. In e (entries_in c f)) (sym k.1) x.2) in
            kid_found m.0 y.0 n m.1 y.1 (y.2 ∙ q.2)
        | inr none ↦
            elim st [
              | inl l ↦ absurd (none.0 l.0 l.1 l.2)
              | inr free ↦
                  let r : Row = free.0 in
                  let a = above n r free.1 not_one in
                  let st' = free_or_listed a.directory.ino n r a.row free.1 a.parent a.is_row in
                  let m = above_found a.directory.ino (none.1 ∙ parent_at s lib b j n r free.1 ∙ a.parent) st' in
                  elim (sides s lib b j h m.0 (met_stands s lib b j h m.0 m.1)) [
                    | inl k ↦
                        let e = child_stays n r k.file free.1 k.judged_one (sym k.ino ∙ m.2 ∙ sym a.parent) free.2 in
                        absurd (none.0 e.0 e.1 e.2)
                    | inr o ↦
                        let d = outside_met s lib b j (reads s lib b j h) m.0 o in
                        let same : a.directory ≡ d.met = one_met C plain j.kept.fit j.kept.verifies.sound a.directory d.met a.there d.stands (sym m.2 ∙ sym d.number) in
                        let y = outside_has s lib b j (reads s lib b j h) m.0 o a.met (subst (λ f. In a.met (children C plain f)) same a.lists) in
                        kid_found m.0 y.0 n m.1 y.1 (y.2 ∙ a.number)
                  ]
            ]
      ]

  -- a number from which the climb over proposed parents reaches the root is met
  climbs_met : (k n : ℕ) → climbs up k n ≡ true → Stays n → Found n
  climbs_met zero n e st = subst Found (sym (eqb-true n 1 e)) root_found
  climbs_met (suc k) n e st =
      elim (cases_eq n 1) [
        | inl is ↦ subst Found (sym is) root_found
        | inr not_one ↦
            step n st not_one
            (λ p is q. climbs_met k p
            (elim (or_cases (eqb n 1) (climbs up k (up n)) e) [
              | inl y ↦ absurd (not_one (eqb-true n 1 y))
              | inr y ↦ ap (climbs up k) (sym is) ∙ y
            ]) q)
      ]

  -- a held directory that is moved is met
  moved_met : (e : Met) (r : Row) → In e (judged_entries c) → is_kept c e ≡ false → In e.ino b.holds → row_at (settled s) e.ino ≡ Some r → r.kind ≡ Directory → (e.ino ≡ 1 → ⊥) → Found e.ino
  moved_met e r i free held row kind not_one =
      let le : ListedEntry = entry_listed c e in
      let t = rule_comes c h le (listed_to c e i) in
      let moved : is_moved (listing c) c.rows le ≡ true =
      and_from (is_among e.ino (listing c).held && not (is_kept c e)) (has_kind Directory (row_in c.rows e.ino))
      (and_from (is_among e.ino (listing c).held) (not (is_kept c e)) (In-is_among e.ino (listing c).held (held_to c e.ino held)) (ap not free))
      (has_kind_from Directory (row_in c.rows e.ino) r row (sym kind)) in
      let clear : climbs_clear up e.ino (length c.rows) (up e.ino) ≡ true = search (arith, or_cases, both_ways, not-true) in
      step e.ino (inl (e, i, refl)) not_one
      (λ p is q. climbs_met (length c.rows) p (ap (climbs up (length c.rows)) (sym is) ∙ clear_climbs up e.ino (length c.rows) (up e.ino) clear) q)

  -- each file of the settled image that stays, and is no held file but a directory, is met
  stays_met : (k : ℕ) (m : Met) → Reaches C plain k m → Stays m.ino → (In m.ino b.holds → m.kind ≡ Directory) → Found m.ino
  stays_met zero m d st kind = subst Found (sym (ap (λ (x : Met). x.ino) d)) root_found
  stays_met (suc k) m d st kind =
      let x : Met = d.0 in
      let there = reached_met C plain one j.kept.verifies.sound k x d.1 in
      let here = child_met C plain one j.kept.verifies.sound x m there d.2 in
      let not_one : m.ino ≡ 1 → ⊥ = no_root_listed C plain one j.kept.verifies.sound x m there d.2 in
      let f = read_met C plain j.kept.fit j.kept.verifies.sound m here in
      let row = row_of_met s lib b j m f.0 here f.1 in
      let above_by : up m.ino ≡ x.ino → Found m.ino =
      λ is. step m.ino st not_one (λ p e q. (let same : p ≡ x.ino = sym e ∙ is in subst Found (sym same) (stays_met k x d.1 (subst Stays same q) (λ _. lists_directory C plain x m d.2)))) in
      elim (parent_cases c m.ino) [
        | inr none ↦ above_by (none.1 ∙ parent_at s lib b j m.ino _ row ∙ child_parent C plain x m d.2)
        | inl q ↦
            let e : Met = q.0 in
            elim (rule_own c h e q.1) [
              | inl kept ↦
                  let r = kept_row s lib b j h e kept in
                  let same : r.0 ≡ _ = some_one (row_at (settled s) m.ino) r.0 _ (ap (row_at (settled s)) (sym q.2) ∙ r.1) row in
                  above_by (q.3 ∙ sym r.2 ∙ ap (λ (y : Row). y.parent) same ∙ child_parent C plain x m d.2)
              | inr free ↦
                  let row_e = ap (row_at (settled s)) q.2 ∙ row in
                  elim free.1 [
                    | inr new ↦ absurd (new_not_live s lib b j e.ino _ new row_e)
                    | inl held ↦
                        subst Found q.2
                        (moved_met e _ q.1 free.0 held row_e (kind (subst (λ n. In n b.holds) q.2 held)) (λ z. not_one (sym q.2 ∙ z)))
                  ]
            ]
      ]

  -- each live file that isn't held is met
  pub unheld_met : (n : ℕ) (r : Row) → row_at (settled s) n ≡ Some r → (In n b.holds → ⊥) → (m : Met) × In m (survey (proposed (settled s) b) (proposed_pick (settled s) b)) × (m.ino ≡ n)
  unheld_met n r e unheld =
      let m = live s lib b j n r e in
      let d = survey_reached C plain m.met m.stands in
      let q = stays_met d.0 m.met d.2 (inr (r, ap (row_at (settled s)) m.number ∙ e, λ k. unheld (subst (λ x. In x b.holds) m.number k))) (λ k. absurd (unheld (subst (λ x. In x b.holds) m.number k))) in
      (q.0, q.1, q.2 ∙ m.number)
