-- A bundle that is put in place or rolled back: the end of a release is the step that the definitions say.
use Rattle.trio_ctl.proofs.Words.{if◌then◌else◌, ◌&&◌, ◌+◌, ◌<◌, ◌==◌, ◌||◌, ◌∙◌, ◌∷◌, ◌≡◌, ◌≤◌, ◌⊎◌, Bool, Bundle, Case, Commits, Creds, CtlAnswer, Ends, Entries, GivenTo, GrantKind, HaveKinds, Hold, HoldsAreTold, In, In-map, IsAccepted, IsControlled, IsJudgeable, IsRefused, IsSomeAnd, IsStored, IsTrue, IsVerdict, Keyed, Kind, LibNo, List, Listing, Location, None, OpenGrant, Opened, Option, OutByNumber, Outline, Read, Release, Row, Sheet, Some, State, Step, Store, Verdict, Write, [], and_parts, ap, are_new, arith, begun_among, both_ways, bundle_pages, bundle_sheets, case_in, cases_lt, creds_of, false, false_from_ne_true, false≢true, filter, filter-In, filter-map, grants_in, grants_staying, inl, inr, is_accepted, is_among, is_hold, is_in_bundle, is_read, is_some, is_write, is_written, kept_children, keyed, keys, length, length-map, length-with_all, lib_at, lib_at-others, lib_at-set, listing, map, map-In, meets_rules, next, outs_after, page_changes, parted_hold, placed_files, reads_among, refl, refused_image, row_in, rules_are_accept, settled, sheet_numbers, state_of, subst, suc, sym, true, with_all, with_checkpoint, with_children, with_copied, within_some, ℕ}
use Rattle.std.specs.Prelude.{IsFalse, not}
use Rattle.trio_lists.proofs.Gathered.{filtered_new}
use Rattle.trio_layout.specs.Broken.{Breaks}
use Rattle.trio_layout.specs.Rules.{meets_grammar, meets_owning, meets_rights}
use Rattle.trio_judge.specs.Verdicts.{meets_three}
use Rattle.trio_judge.specs.declared.verdict.Verdict.TheVariants.{Broken, Sound}
use Rattle.trio_laws.proofs.judgement.CopiedBreaks.{grammar_told, owning_told, rights_told}
use Rattle.trio_laws.proofs.judgement.CopiedRows.{copied_rows_suffice}
use Rattle.trio_state.specs.Step.{Accepted, Refused}
use Rattle.trio_laws.specs.Laws.{HasRightsOf}
use Rattle.trio_laws.proofs.RowSteps.{every_step_keeps_rows}
use Rattle.trio_laws.proofs.judgement.Breaking.{breaks_where_not_met}
use Rattle.trio_ctl.proofs.AcceptedBundle.{AcceptedBundle, CanCommit, can_commit}
use Rattle.trio_ctl.proofs.Committing.{Committed, committed}
use Rattle.trio_ctl.proofs.StoredFacts.{HandedBundle}
use Rattle.trio_ctl.proofs.Looks.{few_looks}
use Rattle.trio_ctl.proofs.RollingBack.{CanRollBack, RolledBack, RollsBack, can_roll_back, rolled_back}
use Rattle.trio_open.proofs.ClosingFacts.{staying}
use Rattle.trio_ctl.proofs.Told.{accepted_told, told_kept, told_open}

-- the grants that stay, by the grants and by what is kept of them
staying_grants : (lib : LibNo) (b : Bundle) (files : List Opened) → grants_in (staying lib b files) ≡ grants_staying lib.0 b (grants_in files)
staying_grants lib b files = sym (filter-map (λ (o : Opened). o.grant) (λ g. not (is_in_bundle lib.0 b g)) files)

-- what the judge says of a case by the copied rows it says of the case
pub verdict_told : (s : State) (lib : ℕ) (b : Bundle) → IsJudgeable s lib b → (v : Verdict) → IsVerdict (with_copied (case_in s lib b)) v → IsVerdict (case_in s lib b) v
verdict_told s lib b j v h = by v h
  where
    same : (meets_grammar (with_copied (case_in s lib b)) ≡ meets_grammar (case_in s lib b)) × (meets_owning (with_copied (case_in s lib b)) ≡ meets_owning (case_in s lib b)) × (meets_rights (with_copied (case_in s lib b)) ≡ meets_rights (case_in s lib b)) × (listing (with_copied (case_in s lib b)) ≡ listing (case_in s lib b))
    same = copied_rows_suffice s lib b j

    three : meets_three (with_copied (case_in s lib b)) ≡ meets_three (case_in s lib b)
    three =
        ap (λ x. x && meets_owning (with_copied (case_in s lib b)) && meets_rights (with_copied (case_in s lib b))) same.0
        ∙ ap (λ x. meets_grammar (case_in s lib b) && x && meets_rights (with_copied (case_in s lib b))) same.1
        ∙ ap (λ x. meets_grammar (case_in s lib b) && meets_owning (case_in s lib b) && x) same.2

    by : (v : Verdict) → IsVerdict (with_copied (case_in s lib b)) v → IsVerdict (case_in s lib b) v
    by (Sound l) h = record { sound = h.sound ∙ three; lowest = h.lowest; listed = h.listed ∙ same.3 }
    by (Broken rule ino page slot l) h = record {
      sound = h.sound ∙ three;
      lowest = elim h.lowest [
        | inl a ↦ inl (a.0, grammar_told s lib b j ino (record { page = page; slot = slot }) a.1)
        | inr r ↦ elim r [
          | inl a ↦ inr (inl (a.0, sym same.0 ∙ a.1, owning_told s lib b j ino (record { page = page; slot = slot }) a.2))
          | inr a ↦ inr (inr (a.0, sym same.0 ∙ a.1, sym same.1 ∙ a.2, rights_told s lib b j ino (record { page = page; slot = slot }) a.3))
        ]
      ];
      listed = rw same.3 at h.listed;
    }

-- a number that wasn't out isn't once others are back
still_in : (ns : List ℕ) (n : ℕ) (outs : List (Option LibNo)) → lib_at outs n ≡ None → lib_at (with_all None ns outs) n ≡ None
still_in ns n outs none = by (is_among n ns) refl
  where
    by : (t : Bool) → is_among n ns ≡ t → lib_at (with_all None ns outs) n ≡ None
    by false e = lib_at-others None ns n outs e ∙ none
    by true e = back (cases_lt n (length outs))
      where
        back : (n < length outs) ⊎ (length outs ≤ n) → lib_at (with_all None ns outs) n ≡ None
        back (inl lt) = lib_at-set None ns n outs lt e
        back (inr le) = past (lib_at (with_all None ns outs) n) refl
          where
            past : (o : Option LibNo) → lib_at (with_all None ns outs) n ≡ o → lib_at (with_all None ns outs) n ≡ None
            past None is = is
            past (Some lib) is =
                let lt = within_some (with_all None ns outs) n (ap is_some is) in
                let long = length-with_all None ns outs in
                absurd (omega (arith, lt, long, le))

abbrev reads_with : List OpenGrant → OpenGrant → Bool → ℕ
reads_with gs g t = length (if t then g ∷ filter (λ (h : OpenGrant). is_read h.kind) gs else filter (λ (h : OpenGrant). is_read h.kind) gs)

-- what a row that is there has
pub some_and : (o : Option Row) (P : Row → Type 0) → IsSomeAnd o P → (r : Row) × (o ≡ Some r) × P r
some_and None P h = absurd h
some_and (Some r) P h = (r, refl, h)

kind_after : (r : Row) (o : Option Row) (of : Kind) → r.kind ≡ of → is_some o ≡ true → HasRightsOf r o → IsSomeAnd o (λ q. q.kind ≡ of)
kind_after r None of e live rights = absurd (false≢true live)
kind_after r (Some q) of e live rights = rights.0 ∙ e

-- the reads among grants are among those that stay
reads_stay : (lib : ℕ) (b : Bundle) (gs : List OpenGrant) → reads_among (grants_staying lib b gs) ≡ reads_among gs
reads_stay lib b [] = refl
reads_stay lib b (g ∷ gs) = by (is_in_bundle lib b g) refl (reads_stay lib b gs)
  where
    unread : (kind : GrantKind) (written held : Bool) → ((is_write kind && written) || (is_hold kind && held)) ≡ true → is_read kind ≡ false
    unread Read written held e = absurd (false≢true e)
    unread Write written held e = refl
    unread Hold written held e = refl

    here : (t : Bool) → reads_among (grants_staying lib b gs) ≡ reads_among gs → reads_with (grants_staying lib b gs) g t ≡ reads_with gs g t
    here true again = ap suc again
    here false again = again

    by : (t : Bool) → is_in_bundle lib b g ≡ t → reads_among (grants_staying lib b gs) ≡ reads_among gs → reads_among (if not t then g ∷ grants_staying lib b gs else grants_staying lib b gs) ≡ reads_among (g ∷ gs)
    by false e again = here (is_read g.kind) again
    by true e again =
        again
        ∙ ap (reads_with gs g) (sym (unread g.kind (is_written b g.ino) (is_among g.ino b.holds) (and_parts (g.lib == lib) ((is_write g.kind && is_written b g.ino) || (is_hold g.kind && is_among g.ino b.holds)) e).1))

module _ (s : Store) (first : ℕ) (table : List Keyed) (files : List Opened) (creds : List Creds) (entries : Entries) (begun : List (Option Outline)) (k : IsControlled s first table files creds entries begun)
    (lib : LibNo) (b : Bundle) (given : GivenTo (state_of s first (grants_in files) creds entries.made) lib.0 b) (closed : parted_hold (state_of s first (grants_in files) creds entries.made) lib.0 b ≡ None) where
  abbrev st : State
  st = state_of s first (grants_in files) creds entries.made

  pub judgeable : IsJudgeable st lib.0 b
  judgeable = record { kept = k.stored.kept; given = given; closed = closed }

  pub accepted_from : IsTrue (meets_rules (case_in st lib.0 b)) → IsTrue (is_accepted (settled st) (creds_of st lib.0) b)
  accepted_from meets = (rules_are_accept st lib.0 b judgeable).0 meets

  abbrev pub handed : HandedBundle
  handed = record { store = s; first_core = first; grants = grants_in files; creds = creds; entries = entries.made; lib = lib; bundle = b; stored = k.stored; given = given; closed = closed }

  -- ---- put in place

  module _ (l : Listing) (meets : IsTrue (meets_rules (case_in st lib.0 b))) (is : l ≡ listing (case_in st lib.0 b)) where
    abbrev accepted : AcceptedBundle
    accepted = record { handed = handed; accepted = accepted_from meets }

    pub can_commit_it : CanCommit s lib b l
    can_commit_it = subst (CanCommit s lib b) (sym is) (can_commit accepted)

    pub committed_it : (s' : Store) → Commits s s' b l → Committed s s' first (grants_in files) creds entries.made lib.0 b
    committed_it s' commits = committed accepted s' (subst (Commits s s' b) is commits)

    -- home is looked at for kept children at most once a page of the bundle
    pub few_changes : page_changes None (kept_children (with_children (placed_files s.rows b) s.checkpoints.items) l.entries) ≤ length (bundle_pages b)
    few_changes =
        let few : page_changes None (kept_children (with_children (placed_files s.rows b) s.checkpoints.items) (listing (case_in st lib.0 b)).entries) ≤ length (bundle_sheets b) = few_looks accepted in
        let count : length (bundle_pages b) ≡ length (bundle_sheets b) = length-map (bundle_sheets b) (λ (x : Sheet). x.page) in
        subst (λ (x : Listing). page_changes None (kept_children (with_children (placed_files s.rows b) s.checkpoints.items) x.entries) ≤ length (bundle_pages b)) (sym is) (omega (arith, few, count))

  -- ---- rolled back

  pub can_roll_back_it : CanRollBack s lib b
  can_roll_back_it = can_roll_back handed

  pub rolled_back_it : (s' : Store) → RollsBack s s' b → RolledBack s s' first (grants_in files) creds entries.made lib.0 b
  rolled_back_it s' rolls = rolled_back handed s' rolls

  refused_from : (rule ino : ℕ) (place : Location) → Breaks (case_in st lib.0 b) rule ino place → IsFalse (is_accepted (settled st) (creds_of st lib.0) b)
  refused_from rule ino place breaks =
      let c : Case = case_in st lib.0 b in
      let unmet : meets_rules c ≡ false = (breaks_where_not_met c).1 (rule, ino, place, breaks) in
      false_from_ne_true (is_accepted (settled st) (creds_of st lib.0) b)
      (λ t. both_ways (meets_rules c) unmet ((rules_are_accept st lib.0 b judgeable).1 t))

  module _ (s' : Store) (table' : List Keyed) (files' : List Opened) (entries' : Entries) (stay : files' ≡ staying lib b files) (next' : entries' ≡ record entries { made = entries.made + 1 }) where
    grants_are : grants_in files' ≡ grants_staying lib.0 b (grants_in files)
    grants_are = ap grants_in stay ∙ staying_grants lib b files

    abbrev after : State
    after = state_of s' first (grants_staying lib.0 b (grants_in files)) creds (entries.made + 1)

    after_is : after ≡ state_of s' first (grants_in files') creds entries'.made
    after_is = ap (λ gs. state_of s' first gs creds (entries.made + 1)) (sym grants_are) ∙ ap (λ (n : Entries). state_of s' first (grants_in files') creds n.made) (sym next')

    pub accepted_step : IsTrue (meets_rules (case_in st lib.0 b)) → Ends st lib.0 b (next (settled st) b) after → Step st (Release lib.0 b) Accepted (state_of s' first (grants_in files') creds entries'.made)
    accepted_step meets ends =
        subst (λ (t : State). Step st (Release lib.0 b) Accepted t) after_is
        (inl (IsAccepted closed (accepted_from meets) refl ends))

    pub refused_step : (rule ino page slot : ℕ) → Breaks (case_in st lib.0 b) rule ino (record { page = page; slot = slot }) → Ends st lib.0 b (refused_image (settled st) b) after
        → Step st (Release lib.0 b) (Refused (record { rule = rule; ino = ino; page = page; slot = slot })) (state_of s' first (grants_in files') creds entries'.made)
    refused_step rule ino page slot breaks ends =
        let answer : CtlAnswer = Refused (record { rule = rule; ino = ino; page = page; slot = slot }) in
        subst (λ (t : State). Step st (Release lib.0 b) answer t) after_is
        (inl (IsRefused closed (refused_from rule ino (record { page = page; slot = slot }) breaks) (record { rule = rule; ino = ino; page = page; slot = slot }) refl breaks ends))

    of_old : (o : Opened) → In o files' → In o files
    of_old o i = (filter-In (λ o. not (is_in_bundle lib.0 b o.grant)) o files (subst (In o) stay i)).0

    -- the files of the grants that stay are of their kinds, and holds among these grants told their directories
    abbrev pub StandFiles : Type 0
    StandFiles = HaveKinds s'.rows files' × HoldsAreTold s'.rows (grants_in files')

    kinds_accepted : IsTrue (meets_rules (case_in st lib.0 b)) → Committed s s' first (grants_in files) creds entries.made lib.0 b → HaveKinds s'.rows files'
    kinds_accepted meets done o i =
        let was = some_and (row_in s.rows o.grant.ino) (λ r. r.kind ≡ o.grant.of) (k.kinds o (of_old o i)) in
        let after : State = state_of s' first (grants_staying lib.0 b (grants_in files)) creds (entries.made + 1) in
        let step : Step st (Release lib.0 b) Accepted after = inl (IsAccepted closed (accepted_from meets) refl done.ends) in
        let open_then : In (with_checkpoint s'.checkpoints.items o.grant) after.open_grants =
        In-map (with_checkpoint s'.checkpoints.items) o.grant (grants_staying lib.0 b (grants_in files)) (subst (In o.grant) grants_are (In-map (λ (x : Opened). x.grant) o files' i)) in
        let live : is_some (row_in s'.rows o.grant.ino) ≡ true = done.stored.kept.live (with_checkpoint s'.checkpoints.items o.grant) open_then in
        elim (every_step_keeps_rows st (Release lib.0 b) Accepted after o.grant.ino was.0 k.stored.kept given step was.1) [
          | inl same ↦ subst (λ (x : Option Row). IsSomeAnd x (λ r. r.kind ≡ o.grant.of)) (sym same) was.2
          | inr other ↦ elim other [
            | inl held ↦ kind_after was.0 (row_in s'.rows o.grant.ino) o.grant.of was.2 live held.1
            | inr wrong ↦ absurd wrong
          ]
        ]

    pub stand_accepted : IsTrue (meets_rules (case_in st lib.0 b)) → Committed s s' first (grants_in files) creds entries.made lib.0 b → StandFiles
    stand_accepted meets done = (
      kinds_accepted meets done,
      subst (HoldsAreTold s'.rows) (sym grants_are)
          (told_kept s'.rows s'.checkpoints.items (grants_staying lib.0 b (grants_in files))
          (accepted_told st after k.stored.kept lib.0 b (told_open s.rows s.checkpoints.items (grants_in files) k.told) given (accepted_from meets) done.ends)),
    )

    pub stand_refused : s'.rows ≡ s.rows → StandFiles
    stand_refused same = (
      subst (λ rows. HaveKinds rows files') (sym same) (λ o i. k.kinds o (of_old o i)),
      subst (λ rows. HoldsAreTold rows (grants_in files')) (sym same)
          (λ g i hold.
          let o = map-In (λ (o : Opened). o.grant) g files' i in
          k.told g (subst (λ (x : OpenGrant). In x (grants_in files)) (sym o.2) (In-map (λ (o : Opened). o.grant) o.0 files (of_old o.0 o.1))) hold),
    )

    pub ended_controlled : table' ≡ map keyed files' → StandFiles → s'.allotments ≡ outs_after s.allotments (sheet_numbers b.pages) b.numbers
        → IsStored s' first (grants_staying lib.0 b (grants_in files)) creds (entries.made + 1) → IsControlled s' first table' files' creds entries' begun
    ended_controlled keeps stand back stored = record {
      stored = subst (λ (n : Entries). IsStored s' first (grants_in files') creds n.made) (sym next') (subst (λ gs. IsStored s' first gs creds (entries.made + 1)) (sym grants_are) stored);
      no_zero = ap (λ (o : OutByNumber). lib_at o.numbers 0) back ∙ still_in b.numbers 0 s.allotments.numbers k.no_zero;
      some_libraries = k.some_libraries;
      few_libraries = k.few_libraries;
      grants = keeps;
      keys_once = ap (λ fs. are_new [] (keys fs)) stay ∙ filtered_new (λ (o : Opened). o.key) (λ o. not (is_in_bundle lib.0 b o.grant)) files k.keys_once;
      earlier = λ o i. (let e = k.earlier o (of_old o i) in let more = ap (λ (n : Entries). n.made) next' in omega (arith, e, more));
      placed = k.placed;
      promised = ap (λ (n : Entries). n.promised) next' ∙ k.promised ∙ ap (λ n. n + begun_among begun) (sym (reads_stay lib.0 b (grants_in files)) ∙ sym (ap reads_among grants_are));
      kinds = stand.0;
      told = stand.1;
    }

-- ---- as a call sees it: the state that is seen, and the bundle of the case

-- what is true of what is seen is true of what is here, and the other way round
as_here : {here seen : State} {b asked : Bundle} → (P : State → Bundle → Type 0) → here ≡ seen → b ≡ asked → P seen asked → P here b
as_here {here} {seen} {b} {asked} P is same p = subst (λ t. P t b) (sym is) (subst (P seen) (sym same) p)

as_seen : {here seen : State} {b asked : Bundle} → (P : State → Bundle → Type 0) → here ≡ seen → b ≡ asked → P here b → P seen asked
as_seen {here} {seen} {b} {asked} P is same p = subst (P seen) same (subst (λ t. P t b) is p)

module _ {s : Store} {first : ℕ} {table : List Keyed} {files : List Opened} {creds : List Creds} {entries : Entries} {begun : List (Option Outline)} (k : IsControlled s first table files creds entries begun)
    (lib : LibNo) {seen : State} (is : state_of s first (grants_in files) creds entries.made ≡ seen) {b asked : Bundle} (same : b ≡ asked) (given : GivenTo seen lib.0 asked) (closed : parted_hold seen lib.0 asked ≡ None) where
  given_here : GivenTo (state_of s first (grants_in files) creds entries.made) lib.0 b
  given_here = as_here (λ t x. GivenTo t lib.0 x) is same given

  closed_here : parted_hold (state_of s first (grants_in files) creds entries.made) lib.0 b ≡ None
  closed_here = as_here (λ t x. parted_hold t lib.0 x ≡ None) is same closed

  -- the registry is controlled after the end, and the step to it gives this answer
  abbrev pub HasEnded : CtlAnswer → Store → List Keyed → List Opened → Entries → Type 0
  HasEnded answer s' table' files' entries' = IsControlled s' first table' files' creds entries' begun × Step seen (Release lib.0 asked) answer (state_of s' first (grants_in files') creds entries'.made)

  module _ {l : Listing} (out : IsTrue (meets_rules (case_in seen lib.0 asked)) × (l ≡ listing (case_in seen lib.0 asked))) where
    out_here : IsTrue (meets_rules (case_in (state_of s first (grants_in files) creds entries.made) lib.0 b)) × (l ≡ listing (case_in (state_of s first (grants_in files) creds entries.made) lib.0 b))
    out_here = as_here (λ t x. IsTrue (meets_rules (case_in t lib.0 x)) × (l ≡ listing (case_in t lib.0 x))) is same out

    pub can_commit_seen : CanCommit s lib b l
    can_commit_seen = can_commit_it s first table files creds entries begun k lib b given_here closed_here l out_here.0 out_here.1

    pub few_seen : page_changes None (kept_children (with_children (placed_files s.rows b) s.checkpoints.items) l.entries) ≤ length (bundle_pages b)
    few_seen = few_changes s first table files creds entries begun k lib b given_here closed_here l out_here.0 out_here.1

    pub ended_accepted : (s' : Store) → Commits s s' b l → {table' : List Keyed} {files' : List Opened} {entries' : Entries} → table' ≡ map keyed files' → files' ≡ staying lib asked files → entries' ≡ record entries { made = entries.made + 1 } → HasEnded Accepted s' table' files' entries'
    ended_accepted s' commits {table'} {files'} {entries'} keeps left next' =
        let g = given_here in
        let p = closed_here in
        let m = out_here.0 in
        let stay : files' ≡ staying lib b files = left ∙ ap (λ x. staying lib x files) (sym same) in
        let done = committed_it s first table files creds entries begun k lib b g p l m out_here.1 s' commits in
        let stand = stand_accepted s first table files creds entries begun k lib b g p s' table' files' entries' stay next' m done in (
          ended_controlled s first table files creds entries begun k lib b g p s' table' files' entries' stay next' keeps stand commits.allotments done.stored,
          as_seen (λ t x. Step t (Release lib.0 x) Accepted (state_of s' first (grants_in files') creds entries'.made)) is same
              (accepted_step s first table files creds entries begun k lib b g p s' table' files' entries' stay next' m done.ends),
        )

  pub can_roll_back_seen : CanRollBack s lib b
  can_roll_back_seen = can_roll_back_it s first table files creds entries begun k lib b given_here closed_here

  pub ended_refused : (rule ino page slot : ℕ) → Breaks (case_in seen lib.0 asked) rule ino (record { page = page; slot = slot }) → (s' : Store) → RollsBack s s' b → {table' : List Keyed} {files' : List Opened} {entries' : Entries} → table' ≡ map keyed files' → files' ≡ staying lib asked files → entries' ≡ record entries { made = entries.made + 1 } → HasEnded (Refused (record { rule = rule; ino = ino; page = page; slot = slot })) s' table' files' entries'
  ended_refused rule ino page slot breaks s' rolls {table'} {files'} {entries'} keeps left next' =
      let g = given_here in
      let p = closed_here in
      let stay : files' ≡ staying lib b files = left ∙ ap (λ x. staying lib x files) (sym same) in
      let done = rolled_back_it s first table files creds entries begun k lib b g p s' rolls in
      let stand = stand_refused s first table files creds entries begun k lib b g p s' table' files' entries' stay next' rolls.rows in (
        ended_controlled s first table files creds entries begun k lib b g p s' table' files' entries' stay next' keeps stand rolls.allotments done.stored,
        as_seen (λ t x. Step t (Release lib.0 x) (Refused (record { rule = rule; ino = ino; page = page; slot = slot })) (state_of s' first (grants_in files') creds entries'.made)) is same
            (refused_step s first table files creds entries begun k lib b g p s' table' files' entries' stay next' rule ino page slot (as_here (λ t x. Breaks (case_in t lib.0 x) rule ino (record { page = page; slot = slot })) is same breaks) done.ends),
      )
