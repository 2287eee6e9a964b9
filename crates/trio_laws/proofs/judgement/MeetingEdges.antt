-- Where a bundle is accepted it meets I3, and so all four rules.
use Rattle.trio_laws.proofs.Words.{◌&&◌, ◌+◌, ◌<◌, ◌||◌, ◌∙◌, ◌∷◌, ◌≡◌, ◌≤◌, ◌⊎◌, Bool, Bundle, Case, Core, Directory, In, In-is_among, IsJudgeable, List, ListedEntry, Met, None, Option, Pick, Reaches, Row, Some, State, [], and_from, and_parts, ap, arith, both_ways, case_of, cases_Bool, child_met, child_parent, children, climbs, climbs_clear, climbs_more, climbs_past, comes_to_root, creds_of, eq-eqb, eqb, eqb-true, false, false≢true, get_or, has_file, has_kind, inl, inr, is_accepted, is_among, is_among-In, is_child, is_listed, is_listed_kept, is_moved, is_written, judged_files, keeps_children, leaves_none, length, list_all, list_all-each, list_any-In, listing, meets_edges, meets_rules, met_cases, met_numbered, met_row, not, one_met, or_left, or_right, place_from, plain, proposed, proposed_parent, proposed_pick, reached_met, refl, row_at, row_in, row_of, settled, stays_listed, subst, suc, survey, survey_reached, sym, tabulated-length, true, zero, ℕ}
use Rattle.trio_laws.proofs.Survivors.{unheld_row}
use Rattle.trio_laws.proofs.judgement.Allowing.{up_to_from}
use Rattle.trio_laws.proofs.judgement.CaseFacts.{parent_at, held_parent, held_row, held_apart, kept_settled, new_not_live, no_row_zero, root_row, root_unheld, unwritten_cases, written_find}
use Rattle.trio_laws.proofs.judgement.JudgedFacts.{entry_to, new_judged, written_ino, written_judged}
use Rattle.trio_laws.proofs.judgement.ListingFacts.{held_from, held_to, has_file_at, is_listed_by, kept_by, listed_from, parent_cases}
use Rattle.trio_laws.proofs.judgement.Sides.{Outside, inside_child, outside_child}
use Rattle.trio_laws.proofs.judgement.Taking.{fit, sound, classes, unheld_at, body_kept, judged_met, reads}
use Rattle.trio_laws.proofs.judgement.Meeting.{itself, entry_met, grammar_met, owning_met, once_met, rights_met}

module _ (s : State) (lib : ℕ) (b : Bundle) (j : IsJudgeable s lib b) (acc : is_accepted (settled s) (creds_of s lib) b ≡ true) where
  abbrev c : Case
  c = case_of (settled s) (creds_of s lib) b

  abbrev core : Core
  core = proposed (settled s) b

  abbrev pick : Pick
  pick = proposed_pick (settled s) b

  abbrev files : List Met
  files = survey (proposed (settled s) b) (proposed_pick (settled s) b)

  abbrev up : ℕ → ℕ
  up n = proposed_parent (listing c) c.rows n

  one : 1 ≤ core.inodes
  one = j.kept.fit.numbers

  abbrev Out_side : Met → Type 0
  Out_side m = Outside s lib b j (reads s lib b j acc) m

  pub same_file : (m x : Met) → In m (survey (proposed (settled s) b) (proposed_pick (settled s) b)) → In x (survey (proposed (settled s) b) (proposed_pick (settled s) b)) → m.ino ≡ x.ino → m ≡ x
  same_file m x i k e = one_met core pick (fit s lib b j acc) (sound s lib b j acc) m x i k e

  -- a live file that is met and isn't written reads as it did
  pub live_outside : (m : Met) (r : Row) → In m (survey (proposed (settled s) b) (proposed_pick (settled s) b)) → row_at (settled s) m.ino ≡ Some r → is_written b m.ino ≡ false → Outside s lib b j (reads s lib b j acc) m
  live_outside m r i e un =
      elim (unwritten_cases s lib b j m.ino) [
        | inl t ↦ absurd (both_ways (is_written b m.ino) un t)
        | inr free ↦
            elim (classes s lib b j acc m i) [
              | inl held ↦ record { row = held.1.0; is_row = held.1.1; kind = held.1.2; body = held.2; unwritten = free }
              | inr rest ↦ search (arith, new_not_live, unheld_at, body_kept, kept_settled)
            ]
      ]

  -- each file met is judged, or reads as it did
  side : (k : ℕ) (m : Met) → Reaches core pick k m → In m (judged_files c) ⊎ Out_side m
  side k m d = by_class k m d (reached_met core pick one (sound s lib b j acc) k m d)
    where
      live_case : (m : Met) (r : Row) → In m files → row_at (settled s) m.ino ≡ Some r → In m (judged_files c) ⊎ Out_side m
      live_case m r i e =
          elim (cases_Bool (is_written b m.ino)) [
            | inr un ↦ inr (live_outside m r i e un)
            | inl t ↦
                let w = written_find s lib b j m.ino t in
                let x = written_judged s lib b j w.0 w.1 in
                let same = same_file _ m (judged_met s lib b j acc _ x) i (written_ino c w.0 ∙ w.2) in
                inl (subst (λ y. In y (judged_files c)) same x)
          ]

      by_class : (k : ℕ) (m : Met) → Reaches core pick k m → In m files → In m (judged_files c) ⊎ Out_side m
      by_class zero m d i =
          let r = root_row s lib b j in
          live_case m r.0 i (ap (λ (x : Met). row_at (settled s) x.ino) d ∙ r.1)
      by_class (suc k) m d i =
          elim (classes s lib b j acc m i) [
            | inl held ↦ live_case m held.1.0 i held.1.1
            | inr rest ↦
                elim rest [
                  | inl live ↦ live_case m live.1 i live.2
                  | inr new ↦
                      let x : Met = d.0 in
                      let xi = reached_met core pick one (sound s lib b j acc) k x d.1 in
                      elim (by_class k x d.1 xi) [
                        | inr o ↦
                            let y = outside_child s lib b j (reads s lib b j acc) x o m d.2 in absurd (new_not_live s lib b j m.ino y.row new.0 y.is_row)
                        | inl q ↦
                            let y = inside_child s lib b j (reads s lib b j acc) x (itself s lib b j acc x q) m d.2 in
                            let e = new_judged s lib b j (reads s lib b j acc) (once_met s lib b j acc) x y.entry q y.among (subst (λ n. In n b.numbers) y.ino new.0) in
                            inl (subst (λ z. In z (judged_files c)) (same_file y.entry m (judged_met s lib b j acc y.entry e) i (sym y.ino)) e)
                      ]
                ]
          ]

  pub met_side : (m : Met) → In m (survey (proposed (settled s) b) (proposed_pick (settled s) b)) → In m (judged_files (case_of (settled s) (creds_of s lib) b)) ⊎ Outside s lib b j (reads s lib b j acc) m
  met_side m i = let d = survey_reached core pick m i in side d.0 m d.2

  -- a live file that isn't held is met below its row's parent
  record Below (n : ℕ) (r : Row) : Type 0 where
    pub met : Met
    pub stands : In met (survey (proposed (settled s) b) (proposed_pick (settled s) b))
    pub number : met.ino ≡ n
    pub parent : met.parent ≡ r.parent
    pub page : met.page ≡ r.page
    pub slot : met.slot ≡ r.slot

  below : (n : ℕ) (r : Row) → row_at (settled s) n ≡ Some r → (In n b.holds → ⊥) → Below n r
  below n r e unheld =
      let row = unheld_row s j.kept lib (creds_of s lib) b j.given acc n r e unheld in
      let q = met_row core pick (fit s lib b j acc) (sound s lib b j acc) n r row in
      record {
        met = q.met;
        stands = q.stands;
        number = q.number;
        parent = ap (λ (x : Row). x.parent) (sym q.row);
        page = ap (λ (x : Row). x.page) (sym q.row);
        slot = ap (λ (x : Row). x.slot) (sym q.row);
      }

  -- the file that lists one whose parent isn't 0
  pub lister : (m : Met) → In m (survey (proposed (settled s) b) (proposed_pick (settled s) b)) → (m.parent ≡ 0 → ⊥) → (x : Met) × In x (survey (proposed (settled s) b) (proposed_pick (settled s) b)) × In m (children (proposed (settled s) b) (proposed_pick (settled s) b) x) × (m.parent ≡ x.ino)
  lister m i not_zero =
      elim (met_cases core pick one (sound s lib b j acc) m i) [
        | inl z ↦ absurd (not_zero (ap (λ (x : Met). x.parent) z))
        | inr q ↦ (q.0, q.1, q.2, child_parent core pick q.0 m q.2)
      ]

  -- ---- no recorded child is lost

  stays_when : (f h k : Bool) → (f ≡ true → h ≡ false → k ≡ true) → (not f || h || k) ≡ true
  stays_when f h k p = search arith

  child_stays : (n : ℕ) (o : Option Row) → row_at (settled s) n ≡ o → stays_listed (listing c) n o ≡ true
  child_stays n None e = refl
  child_stays n (Some r) e =
      stays_when (has_file (listing c) r.parent) (is_among n (listing c).held) (is_listed_kept (listing c) n)
      (λ f out.
      let x = has_file_at c r.parent f in
      let xi = judged_met s lib b j acc x.0 x.1 in
      let unheld : In n b.holds → ⊥ = λ k. both_ways (is_among n (listing c).held) out (In-is_among n (listing c).held (held_to c n k)) in
      let m = below n r e unheld in
      let pos : 0 < x.0.ino = (met_numbered core pick (fit s lib b j acc) (sound s lib b j acc) x.0 xi).0 in
      let same_parent : m.met.parent ≡ x.0.ino = m.parent ∙ sym x.2 in
      let y = lister m.met m.stands (λ z. omega (arith, pos, z, same_parent)) in
      let same : y.0 ≡ x.0 = same_file y.0 x.0 y.1 xi (sym y.3 ∙ same_parent) in
      let q = inside_child s lib b j (reads s lib b j acc) x.0 (itself s lib b j acc x.0 x.1) m.met (subst (λ z. In m.met (children core pick z)) same y.2) in
      let e' : Met = q.entry in
      let is : e'.ino ≡ n = sym q.ino ∙ m.number in
      kept_by c e' n (entry_to s lib b j x.0 e' x.1 q.among) is
      (place_from e'.parent e'.page e'.slot (row_at (settled s) e'.ino) r (ap (row_at (settled s)) is ∙ e) (sym m.parent ∙ q.parent) (sym m.page ∙ q.page) (sym m.slot ∙ q.slot)))

  -- ---- no held file is dropped over its children

  number_of : (rows : List (Option Row)) (r : Row) → In (Some r) rows → (n : ℕ) × (get_or rows n None ≡ Some r)
  number_of [] r i = absurd i
  number_of (x ∷ xs) r (inl e) = (zero, sym e)
  number_of (x ∷ xs) r (inr i) = let q = number_of xs r i in (suc q.0, q.1)

  child_row : (h : ℕ) (o : Option Row) → is_child h o ≡ true → (r : Row) × (o ≡ Some r) × (r.parent ≡ h)
  child_row h None e = absurd (false≢true e)
  child_row h (Some r) e = (r, refl, eqb-true r.parent h e)

  listed_above : (h n : ℕ) (r : Row) → In h b.holds → row_at (settled s) n ≡ Some r → r.parent ≡ h → is_listed (listing c) h ≡ true
  listed_above h n r held e is =
      let hr = held_row s lib b j h held in
      let unheld : In n b.holds → ⊥ =
      λ k. (let w = written_find s lib b j h (ap (is_written b) (sym is) ∙ held_parent s lib b j n r k e) in held_apart s lib b j h held w.0 w.1 w.2) in
      let m = below n r e unheld in
      let y = lister m.met m.stands (λ z. no_row_zero s lib b j hr.0 (ap (row_at (settled s)) (sym z ∙ m.parent ∙ is) ∙ hr.1)) in
      let y_is : y.0.ino ≡ h = sym y.3 ∙ m.parent ∙ is in
      elim (met_cases core pick one (sound s lib b j acc) y.0 y.1) [
        | inl z ↦ absurd (root_unheld s lib b j (subst (λ k. In k b.holds) (sym y_is ∙ ap (λ (x : Met). x.ino) z) held))
        | inr q ↦
            elim (met_side q.0 q.1) [
              | inl k ↦
                  let t = inside_child s lib b j (reads s lib b j acc) q.0 (itself s lib b j acc q.0 k) y.0 q.2 in
                  is_listed_by c t.entry h (entry_to s lib b j q.0 t.entry k t.among) (sym t.ino ∙ y_is)
              | inr o ↦
                  let t = outside_child s lib b j (reads s lib b j acc) q.0 o y.0 q.2 in
                  let row : row_at (settled s) h ≡ Some t.row = ap (row_at (settled s)) (sym y_is) ∙ t.is_row in
                  let w = written_find s lib b j q.0.ino (ap (is_written b) (sym t.directory) ∙ held_parent s lib b j h t.row held row) in
                  absurd (o.unwritten w.0 w.1 w.2)
            ]
      ]

  none_left : (h : ℕ) → In h b.holds → leaves_none (listing c) c.rows h ≡ true
  none_left h held = search (arith, cases_Bool, or_right, list_any-In, child_row, number_of, or_left, listed_above)

  -- ---- each moved directory comes to the root

  down_climbs : (k : ℕ) (m : Met) → Reaches core pick k m → climbs up k m.ino ≡ true
  down_climbs zero m d = eq-eqb m.ino 1 (ap (λ (x : Met). x.ino) d)
  down_climbs (suc k) m d =
      let x : Met = d.0 in
      let xi = reached_met core pick one (sound s lib b j acc) k x d.1 in
      let mi = child_met core pick one (sound s lib b j acc) x m xi d.2 in
      let is : up m.ino ≡ x.ino = (elim (parent_cases c m.ino) [
        | inl q ↦
            let y = entry_met s lib b j acc q.0 q.1 in
            let same : y.met ≡ m = same_file y.met m y.stands mi (y.ino ∙ q.2) in
            q.3 ∙ sym y.parent ∙ ap (λ (z : Met). z.parent) same ∙ child_parent core pick x m d.2
        | inr none ↦
            elim (met_side x xi) [
              | inl q ↦
                  let t = inside_child s lib b j (reads s lib b j acc) x (itself s lib b j acc x q) m d.2 in
                  absurd (none.0 t.entry (entry_to s lib b j x t.entry q t.among) (sym t.ino))
              | inr o ↦
                  let t = outside_child s lib b j (reads s lib b j acc) x o m d.2 in
                  none.1 ∙ parent_at s lib b j m.ino t.row t.is_row ∙ t.directory
            ]
      ]) in
      or_right (eqb m.ino 1) (climbs up k (up m.ino)) (ap (climbs up k) is ∙ down_climbs k x d.1)

  many_rows : length c.rows ≡ core.inodes + 1
  many_rows = ap length j.kept.verifies.rows ∙ tabulated-length (row_of (settled s).core (survey (settled s).core plain)) (core.inodes + 1)

  comes : (le : ListedEntry) → In le (listing c).entries → comes_to_root (listing c) c.rows le ≡ true
  comes le i =
      let A : Bool = is_moved (listing c) c.rows le in
      let B : Bool = climbs_clear up le.ino (length c.rows) (up le.ino) in
      elim (cases_Bool A) [
        | inr no' ↦ or_left (not A) B (ap not no')
        | inl moved ↦
            let p = and_parts (is_among le.ino (listing c).held && not le.kept) (has_kind Directory (row_in c.rows le.ino)) moved in
            let p' = and_parts (is_among le.ino (listing c).held) (not le.kept) p.0 in
            let held : In le.ino b.holds = held_from c le.ino (is_among-In le.ino (listing c).held p'.0) in
            let e = listed_from c le i in
            let y = entry_met s lib b j acc e.0 e.1 in
            let d = survey_reached core pick y.met y.stands in
            let is : y.met.ino ≡ le.ino = y.ino ∙ ap (λ (x : ListedEntry). x.ino) (sym e.2) in
            let few : d.0 ≤ core.inodes = d.1 in
            let climb : climbs up d.0 le.ino ≡ true = ap (climbs up d.0) (sym is) ∙ down_climbs d.0 y.met d.2 in
            let many = many_rows in
            let all : climbs up (length c.rows) le.ino ≡ true = climbs_more up d.0 (length c.rows) le.ino (omega (arith, few, many)) climb in
            or_right (not A) B
            (climbs_past up le.ino (length c.rows) (λ z. root_unheld s lib b j (subst (λ k. In k b.holds) z held)) all)
      ]

  edges_met : meets_edges (listing c) c.rows ≡ true
  edges_met =
      let A : Bool = keeps_children (listing c) c.rows in
      let B : Bool = list_all (leaves_none (listing c) c.rows) (listing c).held in
      and_from (A && B) (list_all (comes_to_root (listing c) c.rows) (listing c).entries)
      (and_from A B (up_to_from (λ n. stays_listed (listing c) n (row_in c.rows n)) (length c.rows) (λ n low high. child_stays n (row_at (settled s) n) refl))
      (list_all-each (leaves_none (listing c) c.rows) (listing c).held (λ n i. none_left n (held_from c n i))))
      (list_all-each (comes_to_root (listing c) c.rows) (listing c).entries comes)

  pub all_met : meets_rules c ≡ true
  all_met = search (arith, and_from, grammar_met, owning_met, edges_met, rights_met)
