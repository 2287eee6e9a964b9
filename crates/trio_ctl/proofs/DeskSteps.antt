-- What is seen of a desk after each call of the controller, and what a call leaves of other libraries.
use Rattle.trio_ctl.proofs.Words.{if◌then◌else◌, ◌&&◌, ◌+◌, ◌==◌, ◌∙◌, ◌≡◌, ◌≤◌, ◌⊎◌, AcceptedBundle, AllotFault, Allotted, AreAsTold, AreRising, Ask, BadMode, Bool, Busy, BusyMode, Call, CallStep, Comes, Creds, CtlAnswer, Denied, Err, Event, FreshParts, GiveBack, GivenEvent, GivenTo, GrantFault, GrantKind, Happens, HasOut, Hold, HoldParts, Holder, IfOk, In, In-filter, In-left, In-map, In-right, InoParts, IsAccepted, IsFreshLease, IsRefused, IsSomeAnd, Kept, Lease, LentWhole, LibNo, LibOut, List, ModeFault, ModeSet, NoFreeInodes, NoFreePages, NoGrantMemory, NoModeMemory, NoParent, NoReleaseMemory, None, NotClosedBundle, NotJudged, NotLive, NotModeSet, NotOwner, NotSettled, Ok, OpenGrant, Option, OutAlike, Outcome, Parcel, Parted, Read, RefusedBundle, ReleaseAnswer, ReleaseFault, Result, Row, SeenAfter, SetMode, Shown, Sizes, Some, State, Step, Why, Write, after_allot, after_mode_fault, after_mode_refusal, after_no_grant, after_no_mode, all_back, allot_answer, allot_fault_answer, allots, and_from, and_parts, ap, are_new, arith, bundle_of, creds_in, creds_of, denied_by, denied_or, desk_of, eq-eqb, eqb-true, excludes_kind, excluding, false, false≢true, files_out, filter, filter-In, free_numbers, fresh_number, fresh_page, given_back, given_by, grant_answer, grant_fault, grant_fault_answer, granted_to, grants_of, has_parent_grant, hold_of, holder_of, inl, ino_numbers, inr, is_back, is_free_number, is_hold, is_read, is_write, lacks_parent, lease_told, length, length-map, lent_by, library_of, list_any-In, logged, ltb-true, map, mode_excluding, mode_fault, mode_fault_answer, mode_told, moded_to, nat_lt, not, numbers_to, opened, opens, option_map, others_keep_out, out_of, page_numbers, pages_out, refl, release_answer, release_fault_answer, release_told, root_of, row_at, shown_of, sizes_of, slice_get, step_keeps_root, step_kept, subst, sym, take, true, verdict_of, with_lease, without_checkpoint, without_reads, ℕ}
use Rattle.std.proofs.Common.{length-take-le, ltb-false}
use Rattle.std.specs.Prelude.{[], ◌∷◌, ◌++◌, ◌||◌, is_some}
use Rattle.trio_nodes.specs.declared.answers.AllotFault.TheVariants.{NoMemory as NoAllotMemory}
use Rattle.trio_nodes.specs.declared.answers.ModeFault.TheVariants.{NotLive as NotLiveFile}
use Rattle.trio_tables.specs.Free.{is_free_page}
use Rattle.trio_desk.specs.Out.{HasWanted, IsFreshAllotment, kind_lent}
use Rattle.trio_desk.specs.Contents.{Rights}
use Rattle.trio_desk.specs.Call.{DeskSeen, Told, Grant, Allot, Release, Settle, Lent, NotLent, Given, NotGiven, Done, Judged, TellsHolder, allot_told, out_after}
use Rattle.trio_desk.specs.Refusals.{TellsLack}
use Rattle.trio_state.specs.Allotments.{free_pages}
use Rattle.trio_state.specs.Step.{mode_outcome}
use Rattle.trio_state.specs.Step as step
use Rattle.trio_laws.specs.OutLaws.{out_of as has_out}
use Rattle.trio_laws.proofs.history.Grows.{step_whole}
use Rattle.trio_ctl.specs.Answers.{children_told}
use Rattle.trio_ctl.specs.Ctl.{IsLibrary}
use Rattle.trio_ctl.specs.Desk.{answer_of, event_of, handed_back}
use Rattle.trio_ctl.specs.DeskLaws.{CallsKeep, CallsLeaveWhole, HoldsStand, LibrariesStay, OthersKeep, OthersSee}
use Rattle.trio_ctl.proofs.LeasesBack.{all_back_is, backs_kept, backs_leave, backs_told, left_out}
use Rattle.trio_ctl.proofs.Granting.{kept_either}
use Rattle.trio_ctl.proofs.DeskFresh.{fresh_lease, numbers_may, numbers_range, numbers_unlent, pages_core, pages_may, pages_new}
use Rattle.trio_ctl.proofs.DeskGiven.{behind}
use Rattle.trio_ctl.proofs.DeskLists.{filter-both}
use Rattle.trio_ctl.proofs.DeskRising.{AreRising-numbers_where}
use Rattle.trio_ctl.proofs.DeskOuts.{alike, allotted_out, back_out, ended_out, granted_out, hold_is}
use Rattle.trio_ctl.proofs.Told.{step_told}

-- ---- answers, as the controller and the desk tell them

pub release_same : {B : Type 0} (r : Result ReleaseAnswer B) (f : B → ReleaseFault) → release_answer r f ≡ answer_of (release_told r f)
release_same (Ok answer) f = refl
release_same (Err back) f = refl

not_granted : (fault : GrantFault) (n : ℕ) → grant_fault_answer fault ≡ step.Granted n → ⊥
not_granted NotLive n e = cc e
not_granted (Denied m) n e = cc e
not_granted NoParent n e = cc e
not_granted (Busy holder) n e = cc e
not_granted NoGrantMemory n e = cc e

kind_lent-given_by : (kind : GrantKind) (g : OpenGrant) → kind_lent (given_by kind g) ≡ kind
kind_lent-given_by Read g = refl
kind_lent-given_by Write g = refl
kind_lent-given_by Hold g = refl

-- ---- holders

-- the grant that a refusal names
record Named (s : State) (ino' : ℕ) (holder' : Holder) : Type 0 where
  grant : OpenGrant
  is_open : In grant s.open_grants
  on : grant.ino ≡ ino'
  holder : holder_of grant ≡ holder'

first_named : (s : State) (ino : ℕ) (holder : Holder) (p : OpenGrant → Bool) → ((g : OpenGrant) → p g ≡ true → g.ino ≡ ino) → option_map (λ (g : OpenGrant). Busy (holder_of g)) (slice_get (filter p s.open_grants) 0) ≡ Some (Busy holder) → Named s ino holder
first_named s ino holder p on e = by (filter p s.open_grants) (λ g i. filter-In p g s.open_grants i) e
  where
    by : (xs : List OpenGrant) → ((g : OpenGrant) → In g xs → In g s.open_grants × (p g ≡ true)) → option_map (λ (g : OpenGrant). Busy (holder_of g)) (slice_get xs 0) ≡ Some (Busy holder) → Named s ino holder
    by [] all e = absurd cc
    by (g ∷ xs) all e =
        let h = all g (inl refl) in
        let is : Some (Busy (holder_of g)) ≡ Some (Busy holder) = e in
        record { grant = g; is_open = h.0; on = on g h.1; holder = cc is }

busy_grant : (s : State) (lib ino : ℕ) (kind : GrantKind) (holder : Holder) → grant_fault s lib ino kind ≡ Some (Busy holder) → Named s ino holder
busy_grant s lib ino kind holder e = by (not (is_some (row_at s.home ino))) (denied_by s lib ino kind) (lacks_parent s lib ino kind) e
  where
    by : (dead : Bool) (d : Option ℕ) (lacks : Bool) → (if dead then Some NotLive else denied_or d (if lacks then Some NoParent else option_map (λ (g : OpenGrant). Busy (holder_of g)) (slice_get (excluding s lib ino kind) 0))) ≡ Some (Busy holder) → Named s ino holder
    by true d lacks e = absurd cc
    by false (Some n) lacks e = absurd cc
    by false None true e = absurd cc
    by false None false e =
        first_named s ino holder (λ (g : OpenGrant). g.ino == ino && excludes_kind kind g.kind (g.lib == lib)) (λ g t. eqb-true g.ino ino (and_parts (g.ino == ino) (excludes_kind kind g.kind (g.lib == lib)) t).0) e

-- the grant that a refused change of mode names, wherever it is
record NamedAround (s : State) (holder' : Holder) : Type 0 where
  grant : OpenGrant
  is_open : In grant s.open_grants
  holder : holder_of grant ≡ holder'

busy_mode : (s : State) (lib ino mode : ℕ) (holder : Holder) → step.NotModeSet (BusyMode holder) ≡ (mode_outcome s lib ino mode).answer → NamedAround s holder
busy_mode s lib ino mode holder e = by_row (row_at s.home ino) e
  where
    by_row : (o : Option Row) → step.NotModeSet (BusyMode holder) ≡ (moded_to s ino mode (mode_fault s lib ino mode o)).answer → NamedAround s holder
    by_row None e = let wrong : step.NotModeSet (BusyMode holder) ≡ step.NotModeSet NotLiveFile = e in absurd (cc wrong)
    by_row (Some r) e = by (ino == 1 || not ((creds_of s lib).uid == 0 || (creds_of s lib).uid == r.uid)) (nat_lt 511 mode) e
      where
        first : (xs : List OpenGrant) → ((g : OpenGrant) → In g xs → In g s.open_grants) → step.NotModeSet (BusyMode holder) ≡ (moded_to s ino mode (option_map (λ (g : OpenGrant). BusyMode (holder_of g)) (slice_get xs 0))).answer → NamedAround s holder
        first [] all e = let wrong : step.NotModeSet (BusyMode holder) ≡ step.ModeSet = e in absurd (cc wrong)
        first (g ∷ xs) all e =
            let is : step.NotModeSet (BusyMode holder) ≡ step.NotModeSet (BusyMode (holder_of g)) = e in
            record { grant = g; is_open = all g (inl refl); holder = sym (cc is) }

        by : (other big : Bool) → step.NotModeSet (BusyMode holder) ≡ (moded_to s ino mode (if other then Some NotOwner else (if big then Some BadMode else option_map (λ (g : OpenGrant). BusyMode (holder_of g)) (mode_excluding s ino r)))).answer → NamedAround s holder
        by true big e = let wrong : step.NotModeSet (BusyMode holder) ≡ step.NotModeSet NotOwner = e in absurd (cc wrong)
        by false true e = let wrong : step.NotModeSet (BusyMode holder) ≡ step.NotModeSet BadMode = e in absurd (cc wrong)
        by false false e = first (filter (λ (g : OpenGrant). g.ino == ino || g.ino == r.parent) s.open_grants) (λ g i. (filter-In (λ (g : OpenGrant). g.ino == ino || g.ino == r.parent) g s.open_grants i).0) e

-- ---- credentials

pub creds_same : (cs ds : List Creds) (lib : ℕ) → ds ≡ cs → creds_in ds lib ≡ creds_in cs lib
creds_same cs ds lib e = ap (λ (l : List Creds). creds_in l lib) e

module _ (s : State) where
  abbrev SameCreds : State → Type 0
  SameCreds t = t.creds ≡ s.creds

  granted_creds : (lib ino : ℕ) (kind : GrantKind) (fault : Option GrantFault) (row : Option Row) → SameCreds (granted_to s lib ino kind fault row).after
  granted_creds lib ino kind (Some f) row = after_no_grant SameCreds s f refl refl
  granted_creds lib ino kind None None = refl
  granted_creds lib ino kind None (Some r) = refl

  moded_creds : (ino mode : ℕ) (fault : Option ModeFault) → SameCreds (moded_to s ino mode fault).after
  moded_creds ino mode (Some f) = after_no_mode SameCreds s f refl refl
  moded_creds ino mode None = refl

  creds_stay : (event : Event) (answer : CtlAnswer) (s' : State) → Step s event answer s' → s'.creds ≡ s.creds
  creds_stay event answer s' (inr none) = ap (λ (t : State). t.creds) none.2
  creds_stay (step.Grant lib ino kind) answer s' (inl d) = ap (λ (t : State). t.creds) d.1 ∙ granted_creds lib ino kind (grant_fault s lib ino kind) (row_at s.home ino)
  creds_stay (step.Allot lib pages numbers) answer s' (inl d) = ap (λ (t : State). t.creds) d.1 ∙ after_allot SameCreds s lib pages numbers refl refl
  creds_stay (step.Back lib ino) answer s' (inl d) = ap (λ (t : State). t.creds) d.1
  creds_stay (step.Release lib b) answer s' (inl (Parted n some a same)) = ap (λ (t : State). t.creds) same
  creds_stay (step.Release lib b) answer s' (inl (IsAccepted none t a ends)) = ends.creds
  creds_stay (step.Release lib b) answer s' (inl (IsRefused none f why a tells ends)) = ends.creds
  creds_stay (step.Settle lib b) answer s' (inl d) = d.3.creds
  creds_stay (step.SetMode lib ino mode) answer s' (inl d) = ap (λ (t : State). t.creds) d.1 ∙ moded_creds ino mode (mode_fault s lib ino mode (row_at s.home ino))

-- ---- what is seen after each call

-- a refused change of mode changes nothing, or makes an entry
after_refusal : (P : State → Type 0) (s : State) (f : ModeFault) → P s → P (logged s) → P (after_mode_refusal s f)
after_refusal P s NotLiveFile p more = more
after_refusal P s NotOwner p more = more
after_refusal P s BadMode p more = more
after_refusal P s (BusyMode holder) p more = p
after_refusal P s NoModeMemory p more = p

module _ (s : State) (lib : LibNo) where
  abbrev pub After : Ask → Told → State → Type 0
  After ask told t = SeenAfter (desk_of s lib) ask told (desk_of t lib)

  module _ (ino : ℕ) (kind : GrantKind) (s' : State) where
    pub grant_seen : (r : Result Lease GrantFault) → Step s (step.Grant lib.0 ino kind) (grant_answer r) s'
        → IfOk r (λ lease. IsSomeAnd (row_at s.home ino) (λ r. lease ≡ lent_by (opened s lib.0 ino kind r))) → After (Grant ino kind) (lease_told r) s'
    grant_seen (Ok lease) (inr none) is = let wrong : step.Granted (children_told lease) ≡ step.NoMemory = none.1 in absurd (cc wrong)
    grant_seen (Ok lease) (inl d) is = by (grant_fault s lib.0 ino kind) (row_at s.home ino) d is
      where
        by : (fault : Option GrantFault) (row : Option Row) → Comes (granted_to s lib.0 ino kind fault row) (step.Granted (children_told lease)) s' → IsSomeAnd row (λ r. lease ≡ lent_by (opened s lib.0 ino kind r)) → After (Grant ino kind) (Lent lease) s'
        by (Some fault) row c is = let wrong : step.Granted (children_told lease) ≡ step.NotGranted fault = c.0 in absurd (cc wrong)
        by None None c is = absurd is
        by None (Some r) c is =
            let g : OpenGrant = opened s lib.0 ino kind r in
            subst (After (Grant ino kind) (Lent lease)) (sym c.1)
            (record { lib = refl; creds = refl; sizes = refl; root = refl; out = subst (λ (x : Lease). OutAlike (out_of (opens s g) lib) (with_lease (out_of s lib) x)) (sym is) (granted_out s lib g refl) })
    grant_seen (Err fault) (inr none) is = subst (After (Grant ino kind) (NotLent fault)) (sym none.2) (record { lib = refl; creds = refl; sizes = refl; root = refl; out = alike (out_of s lib) })
    grant_seen (Err fault) (inl d) is = by (grant_fault s lib.0 ino kind) (row_at s.home ino) d
      where
        same_out : After (Grant ino kind) (NotLent fault) s
        same_out = record { lib = refl; creds = refl; sizes = refl; root = refl; out = alike (out_of s lib) }

        by : (f : Option GrantFault) (row : Option Row) → Comes (granted_to s lib.0 ino kind f row) (grant_fault_answer fault) s' → After (Grant ino kind) (NotLent fault) s'
        by (Some f) row c = subst (After (Grant ino kind) (NotLent fault)) (sym c.1) (after_no_grant (After (Grant ino kind) (NotLent fault)) s f same_out same_out)
        by None None c = subst (After (Grant ino kind) (NotLent fault)) (sym c.1) same_out
        by None (Some r) c = absurd (not_granted fault _ c.0)

    pub grant_fresh : (r : Result Lease GrantFault) → Kept s → Step s (step.Grant lib.0 ino kind) (grant_answer r) s'
        → IfOk r (λ lease. IsSomeAnd (row_at s.home ino) (λ r. lease ≡ lent_by (opened s lib.0 ino kind r))) → IfOk r (IsFreshLease lib ino (sizes_of s) (out_of s lib))
    grant_fresh (Err fault) k st is = tt
    grant_fresh (Ok lease) k (inr none) is = let wrong : step.Granted (children_told lease) ≡ step.NoMemory = none.1 in absurd (cc wrong)
    grant_fresh (Ok lease) k (inl d) is = by (grant_fault s lib.0 ino kind) (row_at s.home ino) refl refl d is
      where
        by : (fault : Option GrantFault) (row : Option Row) → grant_fault s lib.0 ino kind ≡ fault → row_at s.home ino ≡ row → Comes (granted_to s lib.0 ino kind fault row) (step.Granted (children_told lease)) s' → IsSomeAnd row (λ r. lease ≡ lent_by (opened s lib.0 ino kind r)) → IsFreshLease lib ino (sizes_of s) (out_of s lib) lease
        by (Some fault) row f at c is = let wrong : step.Granted (children_told lease) ≡ step.NotGranted fault = c.0 in absurd (cc wrong)
        by None None f at c is = absurd is
        by None (Some r) f at c is = subst (IsFreshLease lib ino (sizes_of s) (out_of s lib)) (sym is) (fresh_lease s lib ino kind r k at f)

    -- a lease is of the kind that was asked
    pub grant_kind : (r : Result Lease GrantFault) → IfOk r (λ lease. IsSomeAnd (row_at s.home ino) (λ r. lease ≡ lent_by (opened s lib.0 ino kind r))) → IfOk r (λ lease. kind_lent lease ≡ kind)
    grant_kind (Err fault) is = tt
    grant_kind (Ok lease) is = by (row_at s.home ino) is
      where
        by : (row : Option Row) → IsSomeAnd row (λ r. lease ≡ lent_by (opened s lib.0 ino kind r)) → kind_lent lease ≡ kind
        by None is = absurd is
        by (Some r) is = ap kind_lent is ∙ kind_lent-given_by kind (opened s lib.0 ino kind r)

  -- what the library has a grant on is out to it
  open_out : (t : State) (g : OpenGrant) → In g t.open_grants → g.lib ≡ lib.0 → In g.ino (files_out (out_of t lib))
  open_out t g i mine = by g.kind refl
    where
      among : (is_kind : GrantKind → Bool) → is_kind g.kind ≡ true → In g (grants_of is_kind lib t.open_grants)
      among is_kind kind = In-filter (λ (x : OpenGrant). x.lib == lib.0 && is_kind x.kind) g t.open_grants i (and_from (g.lib == lib.0) (is_kind g.kind) (eq-eqb g.lib lib.0 mine) kind)

      out : LibOut
      out = out_of t lib

      by : (kind : GrantKind) → g.kind ≡ kind → In g.ino (files_out (out_of t lib))
      by Write e =
          In-left g.ino (map (λ (w : Shown). w.ino) (out_of t lib).writes ++ map (λ (r : Shown). r.ino) (out_of t lib).reads) (map (λ (h : HoldParts). h.ino) (out_of t lib).holds)
          (In-left g.ino (map (λ (w : Shown). w.ino) (out_of t lib).writes) (map (λ (r : Shown). r.ino) (out_of t lib).reads)
          (In-map (λ (w : Shown). w.ino) (shown_of g) (out_of t lib).writes (In-map shown_of g (grants_of is_write lib t.open_grants) (among is_write (ap is_write e)))))
      by Read e =
          In-left g.ino (map (λ (w : Shown). w.ino) (out_of t lib).writes ++ map (λ (r : Shown). r.ino) (out_of t lib).reads) (map (λ (h : HoldParts). h.ino) (out_of t lib).holds)
          (In-right g.ino (map (λ (w : Shown). w.ino) (out_of t lib).writes) (map (λ (r : Shown). r.ino) (out_of t lib).reads)
          (In-map (λ (w : Shown). w.ino) (shown_of g) (out_of t lib).reads (In-map shown_of g (grants_of is_read lib t.open_grants) (among is_read (ap is_read e)))))
      by Hold e =
          In-right g.ino (map (λ (w : Shown). w.ino) (out_of t lib).writes ++ map (λ (r : Shown). r.ino) (out_of t lib).reads) (map (λ (h : HoldParts). h.ino) (out_of t lib).holds)
          (In-map (λ (h : HoldParts). h.ino) (hold_of g) (out_of t lib).holds (In-map hold_of g (grants_of is_hold lib t.open_grants) (among is_hold (ap is_hold e))))

  -- Busy names a grant of the library on the file only where it has something out on it
  module _ (ino : ℕ) (kind : GrantKind) (s' : State) where
    abbrev TellsGrant : Told → Type 0
    TellsGrant told = TellsHolder lib (out_of s lib) (Grant ino kind) told

    pub grant_holder : (r : Result Lease GrantFault) → Step s (step.Grant lib.0 ino kind) (grant_answer r) s' → TellsGrant (lease_told r)
    grant_holder (Ok lease) st = tt
    grant_holder (Err NotLive) st = tt
    grant_holder (Err (Denied n)) st = tt
    grant_holder (Err NoParent) st = tt
    grant_holder (Err NoGrantMemory) st = tt
    grant_holder (Err (Busy holder)) (inr none) = λ own. (let wrong : step.NotGranted (Busy holder) ≡ step.NoMemory = none.1 in absurd (cc wrong))
    grant_holder (Err (Busy holder)) (inl d) = λ own. by own (grant_fault s lib.0 ino kind) refl (row_at s.home ino) d
      where
        by : holder.lib ≡ lib → (fault : Option GrantFault) → grant_fault s lib.0 ino kind ≡ fault → (row : Option Row) → Comes (granted_to s lib.0 ino kind fault row) (step.NotGranted (Busy holder)) s' → In ino (files_out (out_of s lib))
        by own None f None c = let wrong : step.NotGranted (Busy holder) ≡ step.Done = c.0 in absurd (cc wrong)
        by own None f (Some r) c = absurd (not_granted (Busy holder) _ c.0)
        by own (Some fault) f row c =
            let is : step.NotGranted (Busy holder) ≡ step.NotGranted fault = c.0 in
            let same : Busy holder ≡ fault = cc is in
            let b = busy_grant s lib.0 ino kind holder (f ∙ ap (λ (x : GrantFault). Some x) (sym same)) in
            subst (λ n. In n (files_out (out_of s lib))) b.on (open_out s b.grant b.is_open (ap (λ (l : LibNo). l.0) (ap (λ (x : Holder). x.lib) b.holder ∙ own)))

  -- allotments
  module _ (wanted many : ℕ) (s' : State) where
    abbrev ps : List ℕ
    ps = take wanted (free_pages s)

    abbrev ns : List ℕ
    ns = take many (free_numbers s)

    abbrev outcome_by : Bool → Bool → Outcome
    outcome_by a b =
        if a then record { answer = step.NoPages wanted (length (free_pages s)); after = logged s } else
        (if b then record { answer = step.NoInodes many (length (free_numbers s)); after = logged s } else
        record { answer = step.Given ps ns; after = allots s lib.0 ps ns })

    -- what was given, as the controller gives it
    record Gives (pages numbers : List ℕ) : Type 0 where
      pages_are : pages ≡ ps
      numbers_are : numbers ≡ ns
      many_pages : length ps ≡ wanted
      many_numbers : length ns ≡ many
      after : s' ≡ allots s lib.0 ps ns

    gives : (pages numbers : List ℕ) → Step s (step.Allot lib.0 wanted many) (step.Given pages numbers) s' → Gives pages numbers
    gives pages numbers (inr none) = let wrong : step.Given pages numbers ≡ step.NoMemory = none.1 in absurd (cc wrong)
    gives pages numbers (inl d) = by (nat_lt (length (free_pages s)) wanted) (nat_lt (length (free_numbers s)) many) refl refl d
      where
        by : (a b : Bool) → nat_lt (length (free_pages s)) wanted ≡ a → nat_lt (length (free_numbers s)) many ≡ b → Comes (outcome_by a b) (step.Given pages numbers) s' → Gives pages numbers
        by true b p n c = let wrong : step.Given pages numbers ≡ step.NoPages wanted (length (free_pages s)) = c.0 in absurd (cc wrong)
        by false true p n c = let wrong : step.Given pages numbers ≡ step.NoInodes many (length (free_numbers s)) = c.0 in absurd (cc wrong)
        by false false enough plenty c =
            let is : step.Given pages numbers ≡ step.Given ps ns = c.0 in
            let p : pages ≡ ps = cc is in
            let n : numbers ≡ ns = cc is in
            record {
              pages_are = p;
              numbers_are = n;
              many_pages = length-take-le wanted (free_pages s) (ltb-false (length (free_pages s)) wanted enough);
              many_numbers = length-take-le many (free_numbers s) (ltb-false (length (free_numbers s)) many plenty);
              after = c.1;
            }

    not_given : (fault : AllotFault) → ((pages numbers : List ℕ) → allot_fault_answer fault ≡ step.Given pages numbers → ⊥) → Step s (step.Allot lib.0 wanted many) (allot_fault_answer fault) s' → After (Allot wanted many) (NotGiven fault) s'
    not_given fault none st = by_end st
      where
        same_out : After (Allot wanted many) (NotGiven fault) s
        same_out = record { lib = refl; creds = refl; sizes = refl; root = refl; out = alike (out_of s lib) }

        more : After (Allot wanted many) (NotGiven fault) (logged s)
        more = record { lib = refl; creds = refl; sizes = refl; root = refl; out = alike (out_of s lib) }

        by : (a b : Bool) → Comes (outcome_by a b) (allot_fault_answer fault) s' → After (Allot wanted many) (NotGiven fault) s'
        by true b c = subst (After (Allot wanted many) (NotGiven fault)) (sym c.1) more
        by false true c = subst (After (Allot wanted many) (NotGiven fault)) (sym c.1) more
        by false false c = absurd (none ps ns c.0)

        by_end : Step s (step.Allot lib.0 wanted many) (allot_fault_answer fault) s' → After (Allot wanted many) (NotGiven fault) s'
        by_end (inr want) = subst (After (Allot wanted many) (NotGiven fault)) (sym want.2) same_out
        by_end (inl d) = by (nat_lt (length (free_pages s)) wanted) (nat_lt (length (free_numbers s)) many) d

    pub allot_seen : (r : Result Allotted AllotFault) → Kept s → Step s (step.Allot lib.0 wanted many) (allot_answer r) s' → After (Allot wanted many) (allot_told r) s'
    allot_seen (Ok given) k st =
        let g = gives (page_numbers given.pages.items) (ino_numbers given.inodes.items) st in
        let was : List ℕ → List ℕ → Type 0 = λ x y. After (Allot wanted many) (Given x y) (allots s lib.0 ps ns) in
        let base : was ps ns = record { lib = refl; creds = refl; sizes = refl; root = refl; out = allotted_out s lib ps ns (pages_may s lib wanted k).placed (numbers_may s lib many k).placed } in
        subst (After (Allot wanted many) (Given (page_numbers given.pages.items) (ino_numbers given.inodes.items))) (sym g.after)
        (subst (λ (x : List ℕ). was x (ino_numbers given.inodes.items)) (sym g.pages_are) (subst (was ps) (sym g.numbers_are) base))
    allot_seen (Err (NoFreePages w f)) k st = not_given (NoFreePages w f) (λ p n e. cc e) st
    allot_seen (Err (NoFreeInodes w f)) k st = not_given (NoFreeInodes w f) (λ p n e. cc e) st
    allot_seen (Err NoAllotMemory) k st = not_given NoAllotMemory (λ p n e. cc e) st

    pub allot_fresh : (r : Result Allotted AllotFault) → Kept s → Step s (step.Allot lib.0 wanted many) (allot_answer r) s'
        → IfOk r (λ given. given.pages.items ≡ map (fresh_page lib) (page_numbers given.pages.items)) → IfOk r (λ given. given.inodes.items ≡ map (fresh_number lib) (ino_numbers given.inodes.items))
        → IfOk r (IsFreshAllotment lib (sizes_of s) (out_of s lib))
    allot_fresh (Err fault) k st pages inodes = tt
    allot_fresh (Ok given) k st pages inodes =
        let g = gives (page_numbers given.pages.items) (ino_numbers given.inodes.items) st in
        record {
          pages_are = pages;
          inodes_are = inodes;
          core = λ n i. pages_core s lib k wanted n (subst (λ l. In n l) g.pages_are i);
          range = λ n i. numbers_range s lib k many n (subst (λ l. In n l) g.numbers_are i);
          pages = ap (are_new (pages_out (out_of s lib))) g.pages_are ∙ pages_new s lib k wanted;
          numbers = ap (are_new (numbers_to s.numbers_out lib.0)) g.numbers_are ∙ (numbers_may s lib many k).new;
          unlent = λ n i. numbers_unlent s lib k many n (subst (λ l. In n l) g.numbers_are i);
        }

    pub allot_wanted : (r : Result Allotted AllotFault) → Step s (step.Allot lib.0 wanted many) (allot_answer r) s' → IfOk r (HasWanted wanted many)
    allot_wanted (Err fault) st = tt
    allot_wanted (Ok given) st =
        let g = gives (page_numbers given.pages.items) (ino_numbers given.inodes.items) st in
        record {
          pages = sym (length-map given.pages.items (λ (p : FreshParts). p.no.0)) ∙ ap length g.pages_are ∙ g.many_pages;
          numbers = sym (length-map given.inodes.items (λ (n : InoParts). n.no)) ∙ ap length g.numbers_are ∙ g.many_numbers;
          pages_rise = subst AreRising (sym g.pages_are) (AreRising-numbers_where wanted (is_free_page s.home.owners s.pages_out) 0 (length s.home.owners));
          numbers_rise = subst AreRising (sym g.numbers_are) (AreRising-numbers_where many (is_free_number s.home.rows s.numbers_out) 1 (length s.home.rows));
        }

    -- a refusal says which is short, and by how much
    abbrev Lacks : AllotFault → Type 0
    Lacks fault = TellsLack (Allot wanted many) (NotGiven fault)

    lacks_pages : (w f : ℕ) → Step s (step.Allot lib.0 wanted many) (step.NoPages w f) s' → Lacks (NoFreePages w f)
    lacks_pages w f (inr none) = let wrong : step.NoPages w f ≡ step.NoMemory = none.1 in absurd (cc wrong)
    lacks_pages w f (inl d) = by (nat_lt (length (free_pages s)) wanted) (nat_lt (length (free_numbers s)) many) refl d
      where
        by : (a b : Bool) → nat_lt (length (free_pages s)) wanted ≡ a → Comes (outcome_by a b) (step.NoPages w f) s' → Lacks (NoFreePages w f)
        by true b short c =
            let is : step.NoPages w f ≡ step.NoPages wanted (length (free_pages s)) = c.0 in
            let asked : w ≡ wanted = cc is in
            let free : f ≡ length (free_pages s) = cc is in (asked, omega (arith, asked, free, ltb-true (length (free_pages s)) wanted short))
        by false true enough c = let wrong : step.NoPages w f ≡ step.NoInodes many (length (free_numbers s)) = c.0 in absurd (cc wrong)
        by false false enough c = let wrong : step.NoPages w f ≡ step.Given ps ns = c.0 in absurd (cc wrong)

    lacks_numbers : (w f : ℕ) → Step s (step.Allot lib.0 wanted many) (step.NoInodes w f) s' → Lacks (NoFreeInodes w f)
    lacks_numbers w f (inr none) = let wrong : step.NoInodes w f ≡ step.NoMemory = none.1 in absurd (cc wrong)
    lacks_numbers w f (inl d) = by (nat_lt (length (free_pages s)) wanted) (nat_lt (length (free_numbers s)) many) refl d
      where
        by : (a b : Bool) → nat_lt (length (free_numbers s)) many ≡ b → Comes (outcome_by a b) (step.NoInodes w f) s' → Lacks (NoFreeInodes w f)
        by true b p c = let wrong : step.NoInodes w f ≡ step.NoPages wanted (length (free_pages s)) = c.0 in absurd (cc wrong)
        by false true short c =
            let is : step.NoInodes w f ≡ step.NoInodes many (length (free_numbers s)) = c.0 in
            let asked : w ≡ many = cc is in
            let free : f ≡ length (free_numbers s) = cc is in (asked, omega (arith, asked, free, ltb-true (length (free_numbers s)) many short))
        by false false plenty c = let wrong : step.NoInodes w f ≡ step.Given ps ns = c.0 in absurd (cc wrong)

    pub allot_lack : (r : Result Allotted AllotFault) → Step s (step.Allot lib.0 wanted many) (allot_answer r) s' → TellsLack (Allot wanted many) (allot_told r)
    allot_lack (Ok given) st = tt
    allot_lack (Err (NoFreePages w f)) st = lacks_pages w f st
    allot_lack (Err (NoFreeInodes w f)) st = lacks_numbers w f st
    allot_lack (Err NoAllotMemory) st = tt

  -- a read lease that is given back
  pub back_seen : (lease : Shown) (s' : State) → Step s (step.Back lib.0 lease.ino) step.Done s' → After (GiveBack lease) Done s'
  back_seen lease s' (inr none) = absurd (false≢true none.0)
  back_seen lease s' (inl d) =
      subst (After (GiveBack lease) Done) (sym d.1) (record { lib = refl; creds = refl; sizes = refl; root = refl; out = back_out s lib lease.ino })

  -- a release
  module _ (p : Parcel) (s' : State) where
    abbrev Out : Told → Type 0
    Out told = OutAlike (out_of s' lib) (out_after (out_of s lib) (Release p) told)

    judged_out : (answer : ReleaseAnswer) (a : CtlAnswer) → ((n : ℕ) → a ≡ step.NotClosed n → ⊥) → (a ≡ step.NoMemory → ⊥) → Step s (step.Release lib.0 (bundle_of p)) a s' → Out (Judged answer)
    judged_out answer a closed there (inl (Parted n some e same)) = absurd (closed n e)
    judged_out answer a closed there (inl (IsAccepted none t e ends)) = ended_out s s' lib p _ ends
    judged_out answer a closed there (inl (IsRefused none f why e tells ends)) = ended_out s s' lib p _ ends
    judged_out answer a closed there (inr none) = absurd (there none.1)

    back_unjudged : (fault : ReleaseFault) (a : CtlAnswer) → (a ≡ step.Accepted → ⊥) → ((why : Why) → a ≡ step.Refused why → ⊥) → Step s (step.Release lib.0 (bundle_of p)) a s' → Out (NotJudged fault)
    back_unjudged fault a accepted refused st = subst (λ t. OutAlike (out_of t lib) (out_of s lib)) (sym (unchanged st)) (alike (out_of s lib))
      where
        unchanged : Step s (step.Release lib.0 (bundle_of p)) a s' → s' ≡ s
        unchanged (inl (Parted n some e same)) = same
        unchanged (inl (IsAccepted none t e ends)) = absurd (accepted e)
        unchanged (inl (IsRefused none f why e tells ends)) = absurd (refused why e)
        unchanged (inr none) = none.2

    pub release_out : {B : Type 0} (r : Result ReleaseAnswer B) (f : B → ReleaseFault) → Step s (step.Release lib.0 (bundle_of p)) (release_answer r f) s' → Out (release_told r f)
    release_out (Ok AcceptedBundle) f st = judged_out AcceptedBundle step.Accepted (λ n e. cc e) (λ e. cc e) st
    release_out (Ok (RefusedBundle rule ino page slot)) f st = judged_out (RefusedBundle rule ino page slot) (verdict_of (RefusedBundle rule ino page slot)) (λ n e. cc e) (λ e. cc e) st
    release_out (Err back) f st = by (f back) st
      where
        by : (fault : ReleaseFault) → Step s (step.Release lib.0 (bundle_of p)) (release_fault_answer fault) s' → Out (NotJudged fault)
        by (NotClosedBundle n) st = back_unjudged (NotClosedBundle n) (step.NotClosed n) (λ e. cc e) (λ why e. cc e) st
        by NoReleaseMemory st = back_unjudged NoReleaseMemory step.NoMemory (λ e. cc e) (λ why e. cc e) st

    pub release_seen : {B : Type 0} (r : Result ReleaseAnswer B) (f : B → ReleaseFault) → Kept s → LentWhole s → GivenTo s lib.0 (bundle_of p) → Step s (step.Release lib.0 (bundle_of p)) (release_answer r f) s' → After (Release p) (release_told r f) s'
    release_seen r f k w given st =
        let same = step_keeps_root s (step.Release lib.0 (bundle_of p)) (release_answer r f) s' k w given st in
        record { lib = refl; creds = creds_same s.creds s'.creds lib.0 (creds_stay s (step.Release lib.0 (bundle_of p)) (release_answer r f) s' st); sizes = same.0; root = same.1; out = release_out r f st }

  -- a change of mode
  module _ (ino mode : ℕ) (back : List Shown) (call : Option Call) (s' : State) where
    abbrev Moded : Told → State → Type 0
    Moded told t = After (SetMode ino mode back call) told t

    moded_seen : (t : State) → t ≡ record s { open_grants = filter (λ g. not (is_back lib.0 back g)) s.open_grants; entries = s.entries + length back } → Step t (step.SetMode lib.0 ino mode) step.ModeSet s' → Moded ModeSet s'
    moded_seen t is (inr none) = let wrong : step.ModeSet ≡ step.NoMemory = none.1 in absurd (cc wrong)
    moded_seen t is (inl d) = by (mode_fault t lib.0 ino mode (row_at t.home ino)) d
      where
        by : (fault : Option ModeFault) → Comes (moded_to t ino mode fault) step.ModeSet s' → Moded ModeSet s'
        by (Some f) c = let wrong : step.ModeSet ≡ step.NotModeSet f = c.0 in absurd (cc wrong)
        by None c =
            subst (Moded ModeSet) (sym c.1)
            (subst (λ (u : State). Moded ModeSet (moded_to u ino mode None).after) (sym is)
            (record { lib = refl; creds = refl; sizes = refl; root = refl; out = left_out s lib back }))

    refused_seen : (f : ModeFault) → s' ≡ after_mode_refusal s f → Moded (NotModeSet f) s'
    refused_seen f e = subst (Moded (NotModeSet f)) (sym e) (after_refusal (Moded (NotModeSet f)) s f same_out more)
      where
        same_out : Moded (NotModeSet f) s
        same_out = record { lib = refl; creds = refl; sizes = refl; root = refl; out = alike (out_of s lib) }

        more : Moded (NotModeSet f) (logged s)
        more = record { lib = refl; creds = refl; sizes = refl; root = refl; out = alike (out_of s lib) }

    pub mode_seen : {A B : Type 0} (r : Result A B) (f : B → ModeFault) → Happens s lib (SetMode ino mode back call) (mode_told r f) s' → Moded (mode_told r f) s'
    mode_seen (Ok done) f h = moded_seen (all_back s lib back) (all_back_is s lib back) h.is_step
    mode_seen (Err b) f h = refused_seen (f b) h.is_step.1

  -- Busy names a grant of the library only where it has something out beside the leases that it hands back
  pub mode_holder : {A B : Type 0} (ino mode : ℕ) (back : List Shown) (call : Option Call) (s' : State) (r : Result A B) (f : B → ModeFault) → Happens s lib (SetMode ino mode back call) (mode_told r f) s'
      → TellsHolder lib (out_of s lib) (SetMode ino mode back call) (mode_told r f)
  mode_holder ino mode back call s' (Ok done) f h = tt
  mode_holder ino mode back call s' (Err b) f h = by (f b) h.is_step.0.1
    where
      by : (fault : ModeFault) → Step (all_back s lib back) (step.SetMode lib.0 ino mode) (mode_fault_answer fault) h.is_step.0.0 → TellsHolder lib (out_of s lib) (SetMode ino mode back call) (NotModeSet fault)
      by NotLiveFile st = tt
      by NotOwner st = tt
      by BadMode st = tt
      by NoModeMemory st = tt
      by (BusyMode holder) (inr none) = λ own. (let wrong : step.NotModeSet (BusyMode holder) ≡ step.NoMemory = none.1 in absurd (cc wrong))
      by (BusyMode holder) (inl d) = λ own.
          let left : State = record s { open_grants = filter (λ g. not (is_back lib.0 back g)) s.open_grants; entries = s.entries + length back } in
          let b = busy_mode (all_back s lib back) lib.0 ino mode holder d.0 in
          let there : In b.grant left.open_grants = subst (λ (t : State). In b.grant t.open_grants) (all_back_is s lib back) b.is_open in
          let mine : b.grant.lib ≡ lib.0 = ap (λ (l : LibNo). l.0) (ap (λ (x : Holder). x.lib) b.holder ∙ own) in
          let out = left_out s lib back in
          let F : List Shown → List Shown → List HoldParts → Type 0 = λ ws rs hs. In b.grant.ino (map (λ w. w.ino) ws ++ map (λ r. r.ino) rs ++ map (λ h. h.ino) hs) in (
            b.grant.ino,
            subst (λ ws. F ws (without_reads (out_of s lib) back).reads (without_reads (out_of s lib) back).holds) out.writes
                (subst (λ rs. F (out_of left lib).writes rs (without_reads (out_of s lib) back).holds) out.reads
                (subst (λ hs. F (out_of left lib).writes (out_of left lib).reads hs) out.holds (open_out left b.grant there mine))),
          )

-- ---- the laws

-- the libraries stay as they are
pub library_stays : (s s' : State) (other : LibNo) (event : Event) (answer : CtlAnswer) → Step s event answer s' → IsLibrary other s → IsLibrary other s'
library_stays s s' other event answer st is = (is.0, subst (λ (cs : List Creds). other.0 ≤ length cs) (sym (creds_stay s event answer s' st)) is.1)

-- How a call came about: by its step, or with nothing but an entry changed.
data Came (s : State) (lib : LibNo) (ask : Ask) (told : Told) (s' : State) : Type 0 where
  Stepped : Step (all_back s lib (handed_back ask)) (event_of lib ask) (answer_of told) s' → Came s lib ask told s'
  Stayed : (s' ≡ s) ⊎ (s' ≡ logged s) → Came s lib ask told s'

came : (s : State) (lib : LibNo) (ask : Ask) (told : Told) (s' : State) → CallStep s lib ask told s' → Came s lib ask told s'
came s lib (Grant ino kind) told s' st = Stepped st
came s lib (Allot pages numbers) told s' st = Stepped st
came s lib (GiveBack lease) told s' st = Stepped st
came s lib (Release parcel) told s' st = Stepped st
came s lib (Settle parcel back calls) NotSettled s' st = Stayed (inl st)
came s lib (Settle parcel back calls) told s' st = Stepped st
came s lib (SetMode ino mode back call) (NotModeSet fault) s' st = Stayed (subst (λ t. (t ≡ s) ⊎ (t ≡ logged s)) (sym st.1) (after_refusal (λ t. (t ≡ s) ⊎ (t ≡ logged s)) s fault (inl refl) (inr refl)))
came s lib (SetMode ino mode back call) told s' st = Stepped st

-- what holds of a state and where it has one entry more holds where a call changed nothing else
stayed : (P : State → Type 0) (s s' : State) → (s' ≡ s) ⊎ (s' ≡ logged s) → P s → P (logged s) → P s'
stayed P s s' (inl e) p more = subst P (sym e) p
stayed P s s' (inr e) p more = subst P (sym e) more

backs_creds : (s : State) (lib : LibNo) (back : List Shown) → (all_back s lib back).creds ≡ s.creds
backs_creds s lib back = ap (λ (t : State). t.creds) (all_back_is s lib back)

-- the credentials of all libraries stay
pub happens_creds : (s : State) (lib : LibNo) (ask : Ask) (told : Told) (s' : State) → Happens s lib ask told s' → s'.creds ≡ s.creds
happens_creds s lib ask told s' h = by (came s lib ask told s' h.is_step)
  where
    by : Came s lib ask told s' → s'.creds ≡ s.creds
    by (Stepped st) = creds_stay (all_back s lib (handed_back ask)) (event_of lib ask) (answer_of told) s' st ∙ backs_creds s lib (handed_back ask)
    by (Stayed e) = stayed (λ t. t.creds ≡ s.creds) s s' e refl refl

pub libraries_stay : LibrariesStay
libraries_stay s lib other ask told s' h is = by (came s lib ask told s' h.is_step)
  where
    by : Came s lib ask told s' → IsLibrary other s'
    by (Stepped st) =
        library_stays (all_back s lib (handed_back ask)) s' other (event_of lib ask) (answer_of told) st
        (is.0, subst (λ (cs : List Creds). other.0 ≤ length cs) (sym (backs_creds s lib (handed_back ask))) is.1)
    by (Stayed e) = stayed (IsLibrary other) s s' e is is

pub calls_keep : CallsKeep
calls_keep s lib ask told s' k is_told h = by (came s lib ask told s' h.is_step)
  where
    by : Came s lib ask told s' → Kept s' × AreAsTold s'
    by (Stepped st) =
        let t = all_back s lib (handed_back ask) in
        let kt = backs_kept s lib (handed_back ask) k h.back in (
          step_kept t s' (event_of lib ask) (answer_of told) kt h.given st,
          step_told t (backs_told s lib (handed_back ask) k is_told h.back) (event_of lib ask) (answer_of told) s' kt h.given st,
        )
    by (Stayed e) = (kept_either s s' (Unit {0}) (Unit {0}) k (elim e [ inl same ↦ inr (tt, same) | inr more ↦ inl (tt, more) ]), stayed AreAsTold s s' e is_told is_told)

-- what a library has out, by its open grants without their checkpoints
abbrev lib_out : HasOut → LibOut
lib_out has = record {
  writes = map shown_of (filter (λ g. is_write g.kind) has.grants);
  reads = map shown_of (filter (λ g. is_read g.kind) has.grants);
  holds = map hold_of (filter (λ g. is_hold g.kind) has.grants);
  pages = has.pages;
  numbers = has.numbers;
}

out_is : (s : State) (lib : LibNo) → out_of s lib ≡ lib_out (has_out s lib.0)
out_is s lib =
    let mine : OpenGrant → Bool = λ g. g.lib == lib.0 in
    let has : HasOut = has_out s lib.0 in
    let make : List Shown → List Shown → List HoldParts → LibOut = λ writes reads holds. record { writes = writes; reads = reads; holds = holds; pages = has.pages; numbers = has.numbers } in
    ap (λ (x : List Shown). make x (out_of s lib).reads (out_of s lib).holds) (filter-both mine (λ (g : OpenGrant). is_write g.kind) without_checkpoint shown_of (λ g. refl) (λ g. refl) s.open_grants)
    ∙ ap (λ (x : List Shown). make (lib_out has).writes x (out_of s lib).holds) (filter-both mine (λ (g : OpenGrant). is_read g.kind) without_checkpoint shown_of (λ g. refl) (λ g. refl) s.open_grants)
    ∙ ap (λ (x : List HoldParts). make (lib_out has).writes (lib_out has).reads x) (filter-both mine (λ (g : OpenGrant). is_hold g.kind) without_checkpoint hold_of (λ g. refl) (λ g. refl) s.open_grants)

whose : (lib : LibNo) (ask : Ask) → library_of (event_of lib ask) ≡ lib.0
whose lib (Grant ino kind) = refl
whose lib (Allot pages numbers) = refl
whose lib (GiveBack lease) = refl
whose lib (Release parcel) = refl
whose lib (Settle parcel back calls) = refl
whose lib (SetMode ino mode back call) = refl

step_leaves : (s s' : State) (event : Event) (answer : CtlAnswer) (other : LibNo) → Kept s → GivenEvent s event → Step s event answer s' → (library_of event ≡ other.0 → ⊥) → out_of s' other ≡ out_of s other
step_leaves s s' event answer other k given st apart = out_is s' other ∙ ap lib_out (others_keep_out s event answer s' other.0 k given st apart) ∙ sym (out_is s other)

pub others_keep : OthersKeep
others_keep s lib other ask told s' k apart h = by (came s lib ask told s' h.is_step)
  where
    by : Came s lib ask told s' → out_of s' other ≡ out_of s other
    by (Stepped st) =
        let t = all_back s lib (handed_back ask) in
        let Q : State → Type 0 = λ u. Kept u × (out_of u other ≡ out_of s other) in
        let q : Q t = backs_leave Q s lib (handed_back ask)
        (λ u ino p g. (
          step_kept u (given_back u lib.0 ino) (step.Back lib.0 ino) step.Done p.0 g (inl (refl, refl)),
          step_leaves u (given_back u lib.0 ino) (step.Back lib.0 ino) step.Done other p.0 g (inl (refl, refl)) (λ e. apart (sym e)) ∙ p.1,
        )) (k, refl) h.back in
        step_leaves t s' (event_of lib ask) (answer_of told) other q.0 h.given st (λ e. apart (sym e ∙ whose lib ask)) ∙ q.1
    by (Stayed e) = stayed (λ u. out_of u other ≡ out_of s other) s s' e refl refl

pub backs_whole : (s : State) (lib : LibNo) (back : List Shown) → LentWhole s → LentWhole (all_back s lib back)
backs_whole s lib back w =
    subst LentWhole (sym (all_back_is s lib back)) (λ g x i j. w g x (filter-In (λ (g : OpenGrant). not (is_back lib.0 back g)) g s.open_grants i).0 j)

pub calls_leave_whole : CallsLeaveWhole
calls_leave_whole s lib ask told s' k w h = by (came s lib ask told s' h.is_step)
  where
    by : Came s lib ask told s' → LentWhole s'
    by (Stepped st) =
        let t = all_back s lib (handed_back ask) in
        step_whole t (backs_kept s lib (handed_back ask) k h.back) (event_of lib ask) (answer_of told) s' st (backs_whole s lib (handed_back ask) w)
    by (Stayed e) = stayed LentWhole s s' e w w

-- the sizes of the image, and the rights of its root
abbrev SameImage : State → State → Type 0
SameImage s t = (sizes_of t ≡ sizes_of s) × (root_of t ≡ root_of s)

happens_image : (s : State) (lib : LibNo) (ask : Ask) (told : Told) (s' : State) → Kept s → LentWhole s → Happens s lib ask told s' → SameImage s s'
happens_image s lib ask told s' k w h = by (came s lib ask told s' h.is_step)
  where
    by : Came s lib ask told s' → SameImage s s'
    by (Stepped st) =
        let t = all_back s lib (handed_back ask) in
        let same = step_keeps_root t (event_of lib ask) (answer_of told) s' (backs_kept s lib (handed_back ask) k h.back) (backs_whole s lib (handed_back ask) w) h.given st in
        let back : SameImage s t = subst (SameImage s) (sym (all_back_is s lib (handed_back ask))) (refl, refl) in
        (same.0 ∙ back.0, same.1 ∙ back.1)
    by (Stayed e) = stayed (SameImage s) s s' e (refl, refl) (refl, refl)

pub others_see : OthersSee
others_see s lib other ask told s' k w apart h =
    let same = happens_image s lib ask told s' k w h in
    let creds = creds_same s.creds s'.creds other.0 (happens_creds s lib ask told s' h) in
    let out = others_keep s lib other ask told s' k apart h in
    seen_same (desk_of s' other) (desk_of s other) refl creds out same.0 same.1
  where
    seen_same : (d e : DeskSeen) → d.lib ≡ e.lib → d.creds ≡ e.creds → d.out ≡ e.out → d.sizes ≡ e.sizes → d.root ≡ e.root → d ≡ e
    seen_same d e lib creds out sizes root =
        ap (λ (x : LibNo). record { lib = x; creds = d.creds; out = d.out; sizes = d.sizes; root = d.root }) lib
        ∙ ap (λ (x : Creds). record { lib = e.lib; creds = x; out = d.out; sizes = d.sizes; root = d.root }) creds
        ∙ ap (λ (x : LibOut). record { lib = e.lib; creds = e.creds; out = x; sizes = d.sizes; root = d.root }) out
        ∙ ap (λ (x : Sizes). record { lib = e.lib; creds = e.creds; out = e.out; sizes = x; root = d.root }) sizes
        ∙ ap (λ (x : Rights). record { lib = e.lib; creds = e.creds; out = e.out; sizes = e.sizes; root = x }) root

pub holds_stand : HoldsStand
holds_stand s lib h k told i =
    let w = behind hold_of is_hold s lib h i in
    let kind = hold_is w.grant.kind w.kind in
    by w.grant (ap (λ (x : HoldParts). x.parent) w.is) w.lib (row_at s.home w.grant.ino) (told w.grant w.is_open kind) (k.held w.grant w.is_open kind)
  where
    by : (g : OpenGrant) → h.parent ≡ g.parent → g.lib ≡ lib.0 → (o : Option Row) → IsSomeAnd o (λ r. g.parent ≡ r.parent) → has_parent_grant s g.lib o ≡ true → In h.parent (map (λ w. w.ino) (out_of s lib).writes)
    by g is mine None t has = absurd t
    by g is mine (Some r) t has =
        let x = list_any-In (λ (g' : OpenGrant). g'.lib == g.lib && g'.ino == r.parent && is_write g'.kind) s.open_grants has in
        let p = and_parts (x.0.lib == g.lib && x.0.ino == r.parent) (is_write x.0.kind) x.2 in
        let q = and_parts (x.0.lib == g.lib) (x.0.ino == r.parent) p.0 in
        let own = and_from (x.0.lib == lib.0) (is_write x.0.kind) (eq-eqb x.0.lib lib.0 (eqb-true x.0.lib g.lib q.0 ∙ mine)) p.1 in
        subst (λ n. In n (map (λ w. w.ino) (out_of s lib).writes)) (eqb-true x.0.ino r.parent q.1 ∙ sym t ∙ sym is)
        (In-map (λ (w : Shown). w.ino) (shown_of x.0) (out_of s lib).writes (In-map shown_of x.0 (grants_of is_write lib s.open_grants) (In-filter (λ (g : OpenGrant). g.lib == lib.0 && is_write g.kind) x.0 s.open_grants x.1 own)))

-- ---- calls with which nothing is given back

-- a call without a lease that is handed back
abbrev pub IsPlain : Ask → Type 0
IsPlain ask = handed_back ask ≡ []

-- the answer of a refused change of mode is one fault's
fault_of : (f g : ModeFault) → mode_fault_answer f ≡ step.NotModeSet g → f ≡ g
fault_of NotLiveFile g e = let is : step.NotModeSet NotLiveFile ≡ step.NotModeSet g = e in cc is
fault_of NotOwner g e = let is : step.NotModeSet NotOwner ≡ step.NotModeSet g = e in cc is
fault_of BadMode g e = let is : step.NotModeSet BadMode ≡ step.NotModeSet g = e in cc is
fault_of (BusyMode holder) g e = let is : step.NotModeSet (BusyMode holder) ≡ step.NotModeSet g = e in cc is
fault_of NoModeMemory g e = let wrong : step.NoMemory ≡ step.NotModeSet g = e in absurd (cc wrong)

no_mode_set : (f : ModeFault) → mode_fault_answer f ≡ step.ModeSet → ⊥
no_mode_set NotLiveFile e = cc e
no_mode_set NotOwner e = cc e
no_mode_set BadMode e = cc e
no_mode_set (BusyMode holder) e = cc e
no_mode_set NoModeMemory e = cc e

-- a fault of the definitions is none of memory
same_refusal : (s : State) (f : ModeFault) → mode_fault_answer f ≡ step.NotModeSet f → after_mode_refusal s f ≡ after_mode_fault s f
same_refusal s NotLiveFile e = refl
same_refusal s NotOwner e = refl
same_refusal s BadMode e = refl
same_refusal s (BusyMode holder) e = refl
same_refusal s NoModeMemory e = let wrong : step.NoMemory ≡ step.NotModeSet NoModeMemory = e in absurd (cc wrong)

wanted_same : (s : State) (f : ModeFault) → mode_fault_answer f ≡ step.NoMemory → after_mode_refusal s f ≡ s
wanted_same s NotLiveFile e = absurd (cc e)
wanted_same s NotOwner e = absurd (cc e)
wanted_same s BadMode e = absurd (cc e)
wanted_same s (BusyMode holder) e = refl
wanted_same s NoModeMemory e = refl

refusal_step : (s : State) (lib ino mode : ℕ) (f : ModeFault) (t s' : State) → Step s (step.SetMode lib ino mode) (mode_fault_answer f) t → s' ≡ after_mode_refusal s f → Step s (step.SetMode lib ino mode) (mode_fault_answer f) s'
refusal_step s lib ino mode f t s' (inr none) e = inr (refl, none.1, e ∙ wanted_same s f none.1)
refusal_step s lib ino mode f t s' (inl d) e = inl (d.0, by (mode_fault s lib ino mode (row_at s.home ino)) d.0)
  where
    by : (o : Option ModeFault) → mode_fault_answer f ≡ (moded_to s ino mode o).answer → s' ≡ (moded_to s ino mode o).after
    by None a = absurd (no_mode_set f a)
    by (Some g) a =
        let same : f ≡ g = fault_of f g a in
        e ∙ same_refusal s f (a ∙ ap (λ (x : ModeFault). step.NotModeSet x) (sym same)) ∙ ap (after_mode_fault s) same

plain_at : (s : State) (lib : LibNo) (event : Event) (answer : CtlAnswer) (back : List Shown) (s' : State) → back ≡ [] → Step (all_back s lib back) event answer s' → Step s event answer s'
plain_at s lib event answer back s' none st = subst (λ (l : List Shown). Step (all_back s lib l) event answer s') none st

-- is the step of its event
pub plain_step : (s : State) (lib : LibNo) (ask : Ask) (told : Told) (s' : State) → IsPlain ask → Happens s lib ask told s' → Step s (event_of lib ask) (answer_of told) s'
plain_step s lib (Grant ino kind) told s' p h = h.is_step
plain_step s lib (Allot pages numbers) told s' p h = h.is_step
plain_step s lib (GiveBack lease) told s' p h = h.is_step
plain_step s lib (Release parcel) told s' p h = h.is_step
plain_step s lib (Settle parcel back calls) NotSettled s' p h = inr (refl, refl, h.is_step)
plain_step s lib (Settle parcel back calls) told s' p h = plain_at s lib (step.Settle lib.0 (bundle_of parcel)) (answer_of told) back s' p h.is_step
plain_step s lib (SetMode ino mode back call) (NotModeSet fault) s' p h =
    refusal_step s lib.0 ino mode fault h.is_step.0.0 s' (plain_at s lib (step.SetMode lib.0 ino mode) (mode_fault_answer fault) back h.is_step.0.0 p h.is_step.0.1) h.is_step.1
plain_step s lib (SetMode ino mode back call) told s' p h = plain_at s lib (step.SetMode lib.0 ino mode) (answer_of told) back s' p h.is_step
