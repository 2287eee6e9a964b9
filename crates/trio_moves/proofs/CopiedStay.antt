-- A step of another library leaves the rows that are copied for a bundle, and the bodies of the files that it holds.
use Rattle.std.proofs.Common.{◌≡◌, ◌≢◌, ℕ, ◌+◌, true, false, cond, ◌&&◌, ◌||◌, eqb, List, length, map, Option, Some, None, sym, refl, ap, ◌∙◌, subst, inl, inr, ◌⊎◌}
use Rattle.std.proofs.lemmas.Bool.{and_parts, or_cases, or_left, or_right, eqb-true, false≢true, cases_Bool, cases_eq}
use Rattle.std.proofs.lemmas.List.{get_or-set_other}
use Rattle.trio_rights.specs.Bundle.{Bundle, is_written}
use Rattle.trio_rights.specs.Row.{Row, row_in}
use Rattle.trio_rights.specs.declared.rights.Creds.{Creds}
use Rattle.trio_lists.specs.Lists.{In, is_among, tabulated}
use Rattle.trio_lists.proofs.Filters.{list_any-In, Ok-one, some_one}
use Rattle.trio_lists.proofs.Members.{In-map, map-In, is_among-In}
use Rattle.trio_lists.proofs.Tabulated.{tabulated-length, tabulated-same}
use Rattle.trio_layout.specs.declared.range.CoreRange.{CoreRange}
use Rattle.trio_layout.specs.Case.{Case, Held}
use Rattle.trio_layout.specs.Copied.{is_copied, copied_row, copied_rows, with_copied}
use Rattle.trio_layout.specs.Core.{Core}
use Rattle.trio_layout.specs.Entries.{Listed}
use Rattle.trio_layout.specs.Image.{row_at, settled_body}
use Rattle.trio_layout.specs.Mode.{row_with_mode}
use Rattle.trio_layout.specs.Survey.{FileRead, Met, file_of, met_in, plain, row_by, row_of, survey}
use Rattle.trio_nodes.specs.Libraries.{creds_in}
use Rattle.trio_nodes.specs.declared.grant.GrantKind.TheVariants.{Read, Write, Hold}
use Rattle.trio_nodes.specs.declared.answers.GrantFault.{GrantFault}
use Rattle.trio_nodes.specs.declared.answers.ModeFault.{ModeFault}
use Rattle.trio_nodes.specs.GrantKinds.{is_read, is_write}
use Rattle.trio_surveys.proofs.Images.{one_met, read_met}
use Rattle.trio_surveys.proofs.Reached.{child_met, child_parent, met_cases}
use Rattle.trio_surveys.proofs.Tree.{Child, child_from, child_has}
use Rattle.trio_state.specs.Bundles.{lent_part}
use Rattle.trio_state.specs.Given.{GivenEvent, HasGrant}
use Rattle.trio_state.specs.Grants.{grant_fault, has_parent_grant}
use Rattle.trio_state.specs.Kept.{Kept}
use Rattle.trio_state.specs.State.{OpenGrant, State, creds_of, settled}
use Rattle.trio_state.specs.Step.{Event, Grant, Allot, Back, Release, Settle, SetMode, library_of, CtlAnswer, Granted, ModeSet, Step, granted_to, mode_fault, moded_to}
use Rattle.trio_state.specs.Tells.{case_in}
use Rattle.trio_laws.specs.Laws.{HasNone, IsElsewhere, IsModeSet, IsUntouched, RowGoes, entry_only}
use Rattle.trio_laws.specs.RuleLaws.{IsJudgeable}
use Rattle.trio_laws.proofs.Bundles.{hold_reads}
use Rattle.trio_laws.proofs.Cases.{after_no_mode}
use Rattle.trio_laws.proofs.Grants.{excluded_none}
use Rattle.trio_laws.proofs.Isolation.{every_step_is_isolated}
use Rattle.trio_laws.proofs.Modes.{may_change}
use Rattle.trio_laws.proofs.OtherSteps.{other_step_leaves}
use Rattle.trio_laws.proofs.RowSteps.{every_step_keeps_rows}
use Rattle.trio_laws.proofs.Runs.{step_kept}
use Rattle.trio_laws.proofs.StateFacts.{alone, live_met}
use Rattle.trio_laws.proofs.history.Grows.{step_creds}
use Rattle.trio_laws.proofs.judgement.CaseFacts.{held_row, no_written_zero, row_of_met, written_find, written_row}
use Rattle.trio_laws.proofs.session.Moments.{step_sizes}
use Rattle.trio_laws.proofs.session.Starts.{map-each}
use Rattle.trio_moves.specs.ActRuns.{StepLeavesCase}

-- an open grant of the library on the file, for writing or a hold
record Guards (s : State) (lib n : ℕ) : Type 0 where
  pub grant : OpenGrant
  pub is_open : In grant s.open_grants
  pub mine : grant.lib ≡ lib
  pub quiet : is_read grant.kind ≡ false
  pub at : grant.ino ≡ n

module _ (s : State) (k : Kept s) (lib other : ℕ) (apart : other ≢ lib) where
  -- then no other library has such a grant on it
  guarded_alone : (n : ℕ) → Guards s lib n → (g : OpenGrant) → In g s.open_grants → g.lib ≡ other → g.ino ≡ n → ⊥
  guarded_alone n g h i his at =
      let same : g.grant ≡ h = alone s.open_grants g.grant h k.apart g.is_open i g.quiet (g.at ∙ sym at) in
      apart (sym his ∙ ap (λ (x : OpenGrant). x.lib) (sym same) ∙ g.mine)

  guarded_none : (n : ℕ) → Guards s lib n → HasNone s other n
  guarded_none n g =
      (λ h. guarded_alone n g h.grant h.is_open h.lib h.ino, λ h. guarded_alone n g h.grant h.is_open h.lib h.ino)

  -- nor a hold on a file that it lists
  guarded_unheld : (n : ℕ) (r : Row) → row_at s.home n ≡ Some r → Guards s lib r.parent → HasGrant s other n Hold → ⊥
  guarded_unheld n r row g h =
      let stands : has_parent_grant s h.grant.lib (Some r) ≡ true =
      ap (has_parent_grant s h.grant.lib) (sym row ∙ ap (row_at s.home) (sym h.ino)) ∙ (k.held h.grant h.is_open h.kind) in
      let q = list_any-In (λ (x : OpenGrant). eqb x.lib h.grant.lib && eqb x.ino r.parent && is_write x.kind) s.open_grants stands in
      let p = and_parts (eqb q.0.lib h.grant.lib && eqb q.0.ino r.parent) (is_write q.0.kind) q.2 in
      let o = and_parts (eqb q.0.lib h.grant.lib) (eqb q.0.ino r.parent) p.0 in
      guarded_alone r.parent g q.0 q.1 (eqb-true q.0.lib h.grant.lib o.0 ∙ h.lib) (eqb-true q.0.ino r.parent o.1)

-- ---- no grant for writing and no change of mode

no_grant : (s : State) (other ino : ℕ) (f : Option GrantFault) (o : Option Row) (answer : CtlAnswer) (children : ℕ) → grant_fault s other ino Write ≡ f
    → answer ≡ (granted_to s other ino Write f o).answer → answer ≡ Granted children → (g : OpenGrant) → In g s.open_grants → g.ino ≡ ino → ⊥
no_grant s other ino (Some fault) o answer children e said is g i at = (let wrong = sym is ∙ said in absurd cc)
no_grant s other ino None o answer children e said is g i at = false≢true (sym (excluded_none s other ino Write e g i at))

no_mode : (s : State) (other ino mode : ℕ) (o : Option Row) (f : Option ModeFault) (answer : CtlAnswer) → mode_fault s other ino mode o ≡ f
    → answer ≡ (moded_to s ino mode f).answer → answer ≡ ModeSet → (g : OpenGrant) → In g s.open_grants → g.ino ≡ ino → ⊥
no_mode s other ino mode o (Some fault) answer e said is g i at = (let wrong = sym is ∙ said in absurd cc)
no_mode s other ino mode None None answer e said is g i at = absurd cc
no_mode s other ino mode (Some r) None answer e said is g i at = ((may_change s other ino mode r e).free g i).0 at

-- each step is elsewhere than a file on which a grant excludes it
elsewhere : (s : State) (event : Event) (answer : CtlAnswer) (s' : State) (n : ℕ) (g : OpenGrant) → In g s.open_grants → g.ino ≡ n → Step s event answer s' → IsElsewhere n event answer
elsewhere s (Grant other ino Read) answer s' n g i at step = λ w children said same. absurd (cc w)
elsewhere s (Grant other ino Hold) answer s' n g i at step = λ w children said same. absurd (cc w)
elsewhere s (Grant other ino Write) answer s' n g i at (inl does) = λ w children said same.
    no_grant s other ino (grant_fault s other ino Write) (row_at s.home ino) answer children refl does.0 said g i (at ∙ sym same)
elsewhere s (Grant other ino Write) answer s' n g i at (inr none) = λ w children said same. (let wrong = sym said ∙ none.1 in absurd cc)
elsewhere s (Allot other pages numbers) answer s' n g i at step = tt
elsewhere s (Back other ino) answer s' n g i at step = tt
elsewhere s (Release other b) answer s' n g i at step = tt
elsewhere s (Settle other b) answer s' n g i at step = tt
elsewhere s (SetMode other ino mode) answer s' n g i at (inl does) = λ said same.
    no_mode s other ino mode (row_at s.home ino) (mode_fault s other ino mode (row_at s.home ino)) answer refl does.0 said g i (at ∙ sym same)
elsewhere s (SetMode other ino mode) answer s' n g i at (inr none) = λ said same. (let wrong = sym said ∙ none.1 in absurd cc)

-- a change of mode leaves the row of a file where a grant is open on it or on its directory
mode_leaves_row : (s : State) (other ino mode : ℕ) (o : Option Row) (f : Option ModeFault) → row_at s.home ino ≡ o → mode_fault s other ino mode o ≡ f
    → (n : ℕ) (r : Row) → row_at s.home n ≡ Some r → (g : OpenGrant) → In g s.open_grants → (g.ino ≡ n) ⊎ (g.ino ≡ r.parent)
    → row_at (moded_to s ino mode f).after.home n ≡ Some r
mode_leaves_row s other ino mode o (Some fault) at e n r row g i where' = after_no_mode (λ x. row_at x.home n ≡ Some r) s fault row row
mode_leaves_row s other ino mode None None at e n r row g i where' = absurd cc
mode_leaves_row s other ino mode (Some q) None at e n r row g i where' =
    let may = may_change s other ino mode q e in
    elim (cases_eq n ino) [
      | inr differ ↦ get_or-set_other s.home.rows ino n (row_with_mode mode (row_at s.home ino)) None differ ∙ row
      | inl same ↦
          let is : q ≡ r = some_one (row_at s.home ino) q r at (ap (row_at s.home) (sym same) ∙ row) in
          absurd (elim where' [
            | inl own ↦ (may.free g i).0 (own ∙ same)
            | inr parent ↦ (may.free g i).1 (parent ∙ ap (λ (x : Row). x.parent) (sym is))
          ])
    ]

module _ (s : State) (lib : ℕ) (b : Bundle) (j : IsJudgeable s lib b) where
  written_guards : (n : ℕ) → is_written b n ≡ true → Guards s lib n
  written_guards n t =
      let w = written_find s lib b j n t in
      let g = j.given.writes w.0 w.1 in
      record { grant = g.grant; is_open = g.is_open; mine = g.lib; quiet = ap is_read g.kind; at = g.ino ∙ w.2 }

  held_guards : (n : ℕ) → is_among n b.holds ≡ true → Guards s lib n
  held_guards n t =
      let g = j.given.holds n (is_among-In n b.holds t) in
      record { grant = g.grant; is_open = g.is_open; mine = g.lib; quiet = hold_reads g.grant.kind g.kind; at = g.ino }

  -- a copied row is that of a file on which the library has such a grant, or on whose directory it has one
  copied_guards : (n : ℕ) (r : Row) → is_copied b n (Some r) ≡ true → Guards s lib n ⊎ Guards s lib r.parent
  copied_guards n r t =
      elim (or_cases (is_written b n || is_among n b.holds) (is_written b r.parent) t) [
        | inr parent ↦ inr (written_guards r.parent parent)
        | inl own ↦
            elim (or_cases (is_written b n) (is_among n b.holds) own) [
              | inl written ↦ inl (written_guards n written)
              | inr held ↦ inl (held_guards n held)
            ]
      ]

  by_goes : (event : Event) (n : ℕ) (r : Row) (after : Option Row) → library_of event ≢ lib → row_at s.home n ≡ Some r → is_copied b n (Some r) ≡ true
      → (IsModeSet s event n r after → ⊥) → RowGoes s event n r after → after ≡ Some r
  by_goes event n r after apart row t unmoded (inl same) = same
  by_goes event n r after apart row t unmoded (inr (inr moded)) = absurd (unmoded moded)
  by_goes event n r after apart row t unmoded (inr (inl goes)) =
      let other : ℕ = library_of event in
      let h : HasGrant s other n Hold = goes.0 in
      absurd (elim (copied_guards n r t) [
        | inl own ↦ guarded_alone s j.kept lib other apart n own h.grant h.is_open h.lib h.ino
        | inr parent ↦ guarded_unheld s j.kept lib other apart n r row parent h
      ])

  -- a copied row stays
  copied_stays : (event : Event) (answer : CtlAnswer) (s' : State) → GivenEvent s event → Step s event answer s' → library_of event ≢ lib
      → (n : ℕ) (r : Row) → row_at s.home n ≡ Some r → is_copied b n (Some r) ≡ true → row_at s'.home n ≡ Some r
  copied_stays (SetMode other ino mode) answer s' given (inr none) apart n r row t = ap (λ (x : State). row_at x.home n) none.2 ∙ row
  copied_stays (SetMode other ino mode) answer s' given (inl does) apart n r row t =
      let f : Option ModeFault = mode_fault s other ino mode (row_at s.home ino) in
      ap (λ (x : State). row_at x.home n) does.1
      ∙ elim (copied_guards n r t) [
        | inl own ↦ mode_leaves_row s other ino mode (row_at s.home ino) f refl refl n r row own.grant own.is_open (inl own.at)
        | inr parent ↦ mode_leaves_row s other ino mode (row_at s.home ino) f refl refl n r row parent.grant parent.is_open (inr parent.at)
      ]
  copied_stays (Grant other ino kind) answer s' given step apart n r row t =
      by_goes (Grant other ino kind) n r (row_at s'.home n) apart row t (λ wrong. wrong) (every_step_keeps_rows s (Grant other ino kind) answer s' n r j.kept given step row)
  copied_stays (Allot other pages numbers) answer s' given step apart n r row t =
      by_goes (Allot other pages numbers) n r (row_at s'.home n) apart row t (λ wrong. wrong) (every_step_keeps_rows s (Allot other pages numbers) answer s' n r j.kept given step row)
  copied_stays (Back other ino) answer s' given step apart n r row t =
      by_goes (Back other ino) n r (row_at s'.home n) apart row t (λ wrong. wrong) (every_step_keeps_rows s (Back other ino) answer s' n r j.kept given step row)
  copied_stays (Release other c) answer s' given step apart n r row t =
      by_goes (Release other c) n r (row_at s'.home n) apart row t (λ wrong. wrong) (every_step_keeps_rows s (Release other c) answer s' n r j.kept given step row)
  copied_stays (Settle other c) answer s' given step apart n r row t =
      by_goes (Settle other c) n r (row_at s'.home n) apart row t (λ wrong. wrong) (every_step_keeps_rows s (Settle other c) answer s' n r j.kept given step row)

  -- ---- no row is copied that wasn't

  -- a live file whose row was copied
  abbrev WasCopied : ℕ → Type 0
  WasCopied n = (r : Row) × (row_at s.home n ≡ Some r) × (is_copied b n (Some r) ≡ true)

  module _ (s' : State) (k' : Kept s') where
    -- what an untouched directory lists it listed before
    child_was : (p n : ℕ) (r : Row) → is_written b p ≡ true → IsUntouched (settled s) (settled s') p → row_at s'.home n ≡ Some r → r.parent ≡ p → WasCopied n
    child_was p n r written u row parent =
        let core : Core = (settled s).core in
        let core' : Core = (settled s').core in
        let q = live_met s' k' n r row in
        let up : q.met.parent ≡ p = ap (λ (x : Row). x.parent) (sym q.row) ∙ parent in
        elim (met_cases core' plain k'.fit.numbers k'.verifies.sound q.met q.stands) [
          | inl root ↦
              let zero' : p ≡ 0 = sym up ∙ ap (λ (x : Met). x.parent) root in
              absurd (no_written_zero s lib b j (ap (is_written b) (sym zero') ∙ written))
          | inr x ↦
              let of : x.0.ino ≡ p = sym (child_parent core' plain x.0 q.met x.2) ∙ up in
              let same : x.0 ≡ u.met = one_met core' plain k'.fit k'.verifies.sound x.0 u.met x.1 u.stands (of ∙ sym u.number) in
              let c : Child core' plain u.met q.met = subst (λ y. Child core' plain y q.met) same (child_from core' plain x.0 q.met x.2) in
              let file : c.file ≡ u.file_is = Ok-one (file_of core' u.met) c.file u.file_is c.read u.read_is in
              let listed : In (entry_only c.entry) (map entry_only u.file_was.entries) =
              subst (λ l. In (entry_only c.entry) l) u.entries (In-map entry_only c.entry u.file_is.entries (subst (λ (f : FileRead). In c.entry f.entries) file c.listed)) in
              let l = map-In entry_only (entry_only c.entry) u.file_was.entries listed in
              let m : Met = met_in plain u.met.ino l.0 in
              let met : In m (survey core plain) =
              child_met core plain j.kept.fit.numbers j.kept.verifies.sound u.met m u.stood (child_has core plain u.met u.file_was l.0 u.read_was l.1) in
              let f = read_met core plain j.kept.fit j.kept.verifies.sound m met in
              let number : m.ino ≡ n =
              ap (λ (e : Listed). e.entry.ino) (sym l.2) ∙ ap (λ (y : Met). y.ino) (sym c.is) ∙ q.number in (
                row_by m f.0.body,
                ap (row_at s.home) (sym number) ∙ row_of_met s lib b j m f.0 met f.1,
                or_right (is_written b n || is_among n b.holds) (is_written b u.met.ino) (ap (is_written b) u.number ∙ written),
              )
        ]

    copied_was : (event : Event) (answer : CtlAnswer) → GivenEvent s event → Step s event answer s' → library_of event ≢ lib
        → (n : ℕ) (r : Row) → row_at s'.home n ≡ Some r → is_copied b n (Some r) ≡ true → WasCopied n
    copied_was event answer given step apart n r row t =
        elim (or_cases (is_written b n || is_among n b.holds) (is_written b r.parent) t) [
          | inl own ↦
              let was : (x : Row) × (row_at s.home n ≡ Some x) = elim (or_cases (is_written b n) (is_among n b.holds) own) [
                | inl written ↦
                    let w = written_find s lib b j n written in
                    let x = written_row s lib b j w.0 w.1 in
                    (x.0, ap (row_at s.home) (sym w.2) ∙ x.1)
                | inr held ↦ held_row s lib b j n (is_among-In n b.holds held)
              ] in
              (was.0, was.1, or_left (is_written b n || is_among n b.holds) (is_written b was.0.parent) own)
          | inr parent ↦
              let p : ℕ = r.parent in
              let g = written_guards p parent in
              let w = written_find s lib b j p parent in
              let x = written_row s lib b j w.0 w.1 in
              let u : IsUntouched (settled s) (settled s') p =
              every_step_is_isolated s event answer s' p x.0 j.kept given step (ap (row_at s.home) (sym w.2) ∙ x.1) (guarded_none s j.kept lib (library_of event) apart p g)
              (elsewhere s event answer s' p g.grant g.is_open g.at step) in
              child_was p n r parent u row refl
        ]

    -- what is copied of a number's row is the same
    module _ (event : Event) (answer : CtlAnswer) (given : GivenEvent s event) (step : Step s event answer s') (apart : library_of event ≢ lib) where
      left_out : (n : ℕ) (x : Option Row) → is_copied b n x ≡ false → copied_row b n x ≡ None
      left_out n x f = ap (λ c. cond c x None) f

      none_new : (n : ℕ) (o x : Option Row) → row_at s.home n ≡ o → is_copied b n o ≡ false → row_at s'.home n ≡ x → copied_row b n x ≡ None
      none_new n o None e f now = refl
      none_new n o (Some r) e f now = elim (cases_Bool (is_copied b n (Some r))) [
        | inr out ↦ left_out n (Some r) out
        | inl t ↦
            let was = copied_was event answer given step apart n r now t in
            absurd (false≢true (sym f ∙ ap (is_copied b n) (sym e ∙ was.1) ∙ was.2))
      ]

      row_copied : (n : ℕ) (o : Option Row) → row_at s.home n ≡ o → copied_row b n (row_at s'.home n) ≡ copied_row b n o
      row_copied n None e = none_new n None (row_at s'.home n) e refl refl
      row_copied n (Some r) e = elim (cases_Bool (is_copied b n (Some r))) [
        | inl t ↦ ap (copied_row b n) (copied_stays event answer s' given step apart n r e t)
        | inr f ↦ none_new n (Some r) (row_at s'.home n) e f refl ∙ sym (left_out n (Some r) f)
      ]

      table_length : (x : State) → Kept x → length x.home.rows ≡ x.home.core.inodes + 1
      table_length x kx = ap length kx.verifies.rows ∙ tabulated-length (row_of (settled x).core (survey (settled x).core plain)) (x.home.core.inodes + 1)

      rows_same : copied_rows b s'.home.rows ≡ copied_rows b s.home.rows
      rows_same =
          let sizes = step_sizes s event answer s' step in
          let long : length s'.home.rows ≡ length s.home.rows =
          table_length s' k' ∙ ap (λ n. n + 1) sizes.inodes ∙ sym (table_length s j.kept) in
          ap (tabulated (λ n. copied_row b n (row_in s'.home.rows n))) long
          ∙ tabulated-same (λ n. copied_row b n (row_in s'.home.rows n)) (λ n. copied_row b n (row_in s.home.rows n)) (length s.home.rows)
          (λ n. row_copied n (row_at s.home n) refl)

      -- a held file's settled body is the one that its hold lent, before and after
      body_same : (n : ℕ) → In n b.holds → settled_body (settled s') n ≡ settled_body (settled s) n
      body_same n i =
          let g = j.given.holds n i in
          let l = other_step_leaves s s' lib event answer j.kept given step apart in
          let h = l.grants g.grant g.is_open g.lib in
          let same : lent_part g.grant ≡ lent_part h.0 = h.2 in
          let at : h.0.ino ≡ n = ap (λ (x : OpenGrant). x.ino) (sym same) ∙ g.ino in
          ap (settled_body (settled s')) (sym at)
          ∙ sym (k'.bodies h.0 h.1)
          ∙ ap (λ (x : OpenGrant). x.body) (sym same)
          ∙ j.kept.bodies g.grant g.is_open
          ∙ ap (settled_body (settled s)) g.ino

      case_same : with_copied (case_in s' lib b) ≡ with_copied (case_in s lib b)
      case_same =
          let sizes = step_sizes s event answer s' step in
          let lent_to : State → List Held = λ x. map (λ n. record { ino = n; body = settled_body (settled x) n }) b.holds in
          let lent : lent_to s' ≡ lent_to s =
          map-each (λ n. record { ino = n; body = settled_body (settled s') n }) (λ n. record { ino = n; body = settled_body (settled s) n }) b.holds
          (λ n i. ap (λ (body : List ℕ). record { ino = n; body = body }) (body_same n i)) in
          let creds : creds_of s' lib ≡ creds_of s lib =
          ap (λ (l : List Creds). creds_in l lib) (step_creds s event answer s' step) in
          let C : List Held → List (Option Row) → Creds → CoreRange → ℕ → Case =
          λ hs rows c range inodes. record { bundle = b; lent = hs; rows = rows; creds = c; range = range; inodes = inodes } in
          let rows : List (Option Row) = copied_rows b s.home.rows in
          ap (λ x. C x (copied_rows b s'.home.rows) (creds_of s' lib) s'.home.core.range s'.home.core.inodes) lent
          ∙ ap (λ x. C (lent_to s) x (creds_of s' lib) s'.home.core.range s'.home.core.inodes) rows_same
          ∙ ap (λ x. C (lent_to s) rows x s'.home.core.range s'.home.core.inodes) creds
          ∙ ap (λ x. C (lent_to s) rows (creds_of s lib) x s'.home.core.inodes) sizes.range
          ∙ ap (λ x. C (lent_to s) rows (creds_of s lib) s.home.core.range x) sizes.inodes

-- a step of another library leaves a bundle's case, with its copied rows
pub step_leaves_case : StepLeavesCase
step_leaves_case s lib b event answer s' j given step apart =
    case_same s lib b j s' (step_kept s s' event answer j.kept given step) event answer given step apart
