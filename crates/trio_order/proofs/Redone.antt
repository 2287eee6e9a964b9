-- A call happens again in a state of which the same is known, and makes the entry that it made.
use Rattle.trio_order.proofs.Words.{if◌then◌else◌, ◌++◌, ◌+◌, ◌∙◌, ◌∷◌, ◌≡◌, ◌≤◌, Ask, BadMode, Beside, Bundle, BusyMode, CtlAnswer, Entry, Event, GiveBack, GivenEvent, Happens, Known, LibNo, List, ModeFault, ModeSet, Move, NoFile, NoModeMemory, None, NotOwner, Option, ReplaysFrom, Settled, Shown, Some, State, Step, Told, [], all_back, answer_of, ap, arith, back_entries, backs_of, beside_of, does_told, entries_told, entry_of, event_of, handed_back, inl, inr, known, known_after, known_from, length, logged, mode_fault, mode_outcome, moded_to, moves_of, option_to_list, plain_state, refl, row_at, subst, sym, ℕ}
use Rattle.std.specs.Prelude.{Bool, true, false}
use Rattle.std.specs.Option.{IsSomeAnd}
use Rattle.trio_nodes.specs.declared.call.Call as call
use Rattle.trio_nodes.specs.declared.call.Done as done
use Rattle.trio_desk.specs.Call.{Grant, Allot, Release, Settle, SetMode, Lent, NotSettled, NotModeSet}
use Rattle.trio_desk.specs.Out.{Parcel}
use Rattle.trio_desk.specs.Ready.{bundle_of}
use Rattle.trio_state.specs.Grants.{opened_in}
use Rattle.trio_state.specs.Run.{Trace}
use Rattle.trio_state.specs.Step.{after_mode_fault}
use Rattle.trio_state.specs.Step as step
use Rattle.trio_laws.specs.Known.{is_no_memory}
use Rattle.trio_laws.specs.history.Entries as entries
use Rattle.trio_laws.specs.session.Others.{state_after}
use Rattle.trio_ctl.specs.Answers.{mode_fault_answer}
use Rattle.trio_ctl.specs.Desk.{CallStep, LeaseIs, after_mode_refusal, bundled_of}
use Rattle.trio_ctl.specs.Open.{lent_by}
use Rattle.trio_ctl.proofs.DeskSteps.{plain_step}
use Rattle.trio_ctl.proofs.LeasesBack.{all_back_is}
use Rattle.trio_ctl.proofs.HandedBundles.{handed_is}
use Rattle.trio_order.proofs.Standing.{Alike, both_back, given_event}
use Rattle.trio_order.proofs.Again.{Grew, IsBeside, entry_same, entry_tells, mode_again, moded_grew, rests}

-- the entry that a call makes, where none of the leases that it hands back is given back in it
abbrev pub entry_made : State → LibNo → Ask → Told → Option Entry
entry_made s lib ask told = entry_of (all_back s lib (handed_back ask)) (beside_of ask) (event_of lib ask) (answer_of told)

-- moves are a run to this state
pub record Runs (s : State) (moves : List Move) (s' : State) : Type 0 where
  pub trace : Trace s moves
  pub last : state_after s moves ≡ s'

-- a call in another state, from there to t'
pub record Redone (t : State) (lib : LibNo) (ask : Ask) (told : Told) (o : Option Entry) (t' : State) : Type 0 where
  pub happens : Happens t lib ask told t'
  pub entries : entries_told t lib ask told ≡ option_to_list o
  pub runs : Runs t (moves_of lib t ask told t') t'

-- ---- what a step is as a call

wants : (t t' : State) (event : Event) → Step t event step.NoMemory t' → t' ≡ t
wants t t' event (inl d) = absurd (does_told t event step.NoMemory t' d refl)
wants t t' event (inr none) = none.2

refused_as : (t t' : State) (ino mode : ℕ) (f : ModeFault) (o : Option ModeFault) → step.NotModeSet f ≡ (moded_to t ino mode o).answer → t' ≡ (moded_to t ino mode o).after → t' ≡ after_mode_fault t f
refused_as t t' ino mode f None a e = (let wrong : step.NotModeSet f ≡ step.ModeSet = a in absurd (cc wrong))
refused_as t t' ino mode f (Some g) a e =
    let is : step.NotModeSet f ≡ step.NotModeSet g = a in
    let same : f ≡ g = cc is in
    e ∙ ap (after_mode_fault t) (sym same)

refused_step : (t t' : State) (lib ino mode : ℕ) (f : ModeFault) → Step t (step.SetMode lib ino mode) (step.NotModeSet f) t' → t' ≡ after_mode_fault t f
refused_step t t' lib ino mode f (inl d) = refused_as t t' ino mode f (mode_fault t lib ino mode (row_at t.home ino)) d.0 d.1
refused_step t t' lib ino mode f (inr none) = (let wrong : step.NotModeSet f ≡ step.NoMemory = none.1 in absurd (cc wrong))

refusal_leaves : (t t' : State) (lib ino mode : ℕ) (f : ModeFault) → Step t (step.SetMode lib ino mode) (mode_fault_answer f) t' → t' ≡ after_mode_refusal t f
refusal_leaves t t' lib ino mode NoFile st = refused_step t t' lib ino mode NoFile st
refusal_leaves t t' lib ino mode NotOwner st = refused_step t t' lib ino mode NotOwner st
refusal_leaves t t' lib ino mode BadMode st = refused_step t t' lib ino mode BadMode st
refusal_leaves t t' lib ino mode (BusyMode holder) st = refused_step t t' lib ino mode (BusyMode holder) st
refusal_leaves t t' lib ino mode NoModeMemory st = wants t t' (step.SetMode lib ino mode) st

module _ (t t' : State) (lib : LibNo) where
  settle_step : (parcel : Parcel) (calls : List done.Done) (told : Told) → Step t (event_of lib (Settle parcel [] calls)) (answer_of told) t' → CallStep t lib (Settle parcel [] calls) told t'
  settle_step parcel calls NotSettled st = wants t t' (event_of lib (Settle parcel [] calls)) st
  settle_step parcel calls told st = st

  mode_step : (ino mode : ℕ) (k : Option call.Call) (told : Told) → Step t (step.SetMode lib.0 ino mode) (answer_of told) t' → CallStep t lib (SetMode ino mode [] k) told t'
  mode_step ino mode k (NotModeSet fault) st = ((t', st), refusal_leaves t t' lib.0 ino mode fault st)
  mode_step ino mode k told st = st

  one_move : (event : Event) (answer : CtlAnswer) → GivenEvent t event → Step t event answer t' → Runs t (record { before = t; event = event; answer = answer; after = t' } ∷ []) t'
  one_move event answer given st = record { trace = (refl, given, st, tt); last = refl }

  no_move : t' ≡ t → Runs t [] t'
  no_move same = record { trace = tt; last = sym same }

  -- a call that is the step of its event, as moves
  moves_run : (ask : Ask) (told : Told) → GivenEvent t (event_of lib ask) → Step t (event_of lib ask) (answer_of told) t' → Runs t (moves_of lib t ask told t') t'
  moves_run (Settle parcel back calls) NotSettled given st = no_move (wants t t' (event_of lib (Settle parcel back calls)) st)
  moves_run (SetMode ino mode back k) (NotModeSet (BusyMode holder)) given st = no_move (refused_step t t' lib.0 ino mode (BusyMode holder) st)
  moves_run ask told given st = one_move (event_of lib ask) (answer_of told) given st

-- ---- leases that are handed in with what can't be told of it

more_back : (s : State) (lib : LibNo) (f : Shown) (fs : List Shown) → s.entries + 1 ≤ (all_back s lib (f ∷ fs)).entries
more_back s lib f fs =
    let n : (all_back s lib (f ∷ fs)).entries ≡ s.entries + length (f ∷ fs) = ap (λ (x : State). x.entries) (all_back_is s lib (f ∷ fs)) in
    omega (arith, n)

module _ (s u s' : State) (more : s.entries + 1 ≤ u.entries) where
  -- what is known goes by the entry of an answer
  abbrev Left : Beside → Event → CtlAnswer → Type 0
  Left x event a = known s' ≡ known_from (known s) (option_to_list (entry_of u x event a))

  lost_same : s' ≡ u → known s' ≡ known s → ⊥
  lost_same is left =
      let e : s'.entries ≡ u.entries = ap (λ (x : State). x.entries) is in
      let n : s'.entries ≡ s.entries = ap (λ (k : Known). k.entries) left in
      omega (arith, more, e, n)

  lost_settle : (lib : ℕ) (b : Bundle) (x : Beside) (a : CtlAnswer) → Step u (step.Settle lib b) a s' → Left x (step.Settle lib b) a → ⊥
  lost_settle lib b x a (inr none) left = lost_same none.2 (subst (Left x (step.Settle lib b)) none.1 left)
  lost_settle lib b x a (inl d) left =
      let n : s'.entries ≡ s.entries + 1 = ap (λ (k : Known). k.entries) (subst (Left x (step.Settle lib b)) d.0 left) in
      let e = d.3.entries in
      omega (arith, more, e, n)

  module _ (lib ino mode : ℕ) (x : Beside) where
    at_most : (a : CtlAnswer) → (known_after (known s) (step.SetMode lib ino mode) a).entries ≤ s.entries + 1
    at_most a = by (is_no_memory a) (moded_grew (plain_state (known s)) ino mode (mode_fault (plain_state (known s)) lib ino mode (row_at s.home ino)))
      where
        by : (b : Bool) → Grew (plain_state (known s)) (mode_outcome (plain_state (known s)) lib ino mode).after
            → (if b then known s else known (mode_outcome (plain_state (known s)) lib ino mode).after).entries ≤ s.entries + 1
        by true g = omega arith
        by false (inl same) = (let e : (mode_outcome (plain_state (known s)) lib ino mode).after.entries ≡ s.entries = ap (λ (y : State). y.entries) same in omega (arith, e))
        by false (inr one) = (let e : (mode_outcome (plain_state (known s)) lib ino mode).after.entries ≡ s.entries + 1 = one in omega (arith, e))

    lost_more : (a : CtlAnswer) → s' ≡ logged u → known s' ≡ known_after (known s) (step.SetMode lib ino mode) a → ⊥
    lost_more a is left =
        let e : s'.entries ≡ u.entries + 1 = ap (λ (y : State). y.entries) is in
        let n : s'.entries ≡ (known_after (known s) (step.SetMode lib ino mode) a).entries = ap (λ (k : Known). k.entries) left in
        let m = at_most a in
        omega (arith, more, e, n, m)

    lost_fault : (f : Option ModeFault) → s' ≡ (moded_to u ino mode f).after → Left x (step.SetMode lib ino mode) (moded_to u ino mode f).answer → ⊥
    lost_fault None is left =
        let e : s'.entries ≡ u.entries + 1 = ap (λ (y : State). y.entries) is in
        let n : s'.entries ≡ (known_after (known s) (step.SetMode lib ino mode) step.ModeSet).entries = ap (λ (k : Known). k.entries) left in
        let m = at_most step.ModeSet in
        omega (arith, more, e, n, m)
    lost_fault (Some NoFile) is left = lost_more (step.NotModeSet NoFile) is left
    lost_fault (Some NotOwner) is left = lost_more (step.NotModeSet NotOwner) is left
    lost_fault (Some BadMode) is left = lost_more (step.NotModeSet BadMode) is left
    lost_fault (Some (BusyMode holder)) is left = lost_same is left
    lost_fault (Some NoModeMemory) is left =
        let e : s'.entries ≡ u.entries + 1 = ap (λ (y : State). y.entries) is in
        let n : s'.entries ≡ s.entries = ap (λ (k : Known). k.entries) left in
        omega (arith, more, e, n)

    lost_mode : (a : CtlAnswer) → Step u (step.SetMode lib ino mode) a s' → Left x (step.SetMode lib ino mode) a → ⊥
    lost_mode a (inr none) left = lost_same none.2 (subst (Left x (step.SetMode lib ino mode)) none.1 left)
    lost_mode a (inl d) left = lost_fault (mode_fault u lib ino mode (row_at u.home ino)) d.1 (subst (Left x (step.SetMode lib ino mode)) d.0 left)

-- ---- a call in another state

pub beside_is : (lib : LibNo) (ask : Ask) → IsBeside (beside_of ask) (event_of lib ask)
beside_is lib (Grant ino kind) = tt
beside_is lib (Allot pages numbers) = tt
beside_is lib (GiveBack lease) = tt
beside_is lib (Release parcel) = handed_is (bundled_of parcel)
beside_is lib (Settle parcel back calls) = handed_is (bundled_of parcel)
beside_is lib (SetMode ino mode back k) = tt

module _ (s t : State) (alike : Alike s t) (t' : State) where
  -- the same event, given and stepped
  record Stepped (event : Event) (answer : CtlAnswer) : Type 0 where
    given : GivenEvent t event
    is_step : Step t event answer t'

  by_entry : (x : Beside) (event : Event) (answer : CtlAnswer) (s' : State) (o : Option Entry) → IsBeside x event → entry_of s x event answer ≡ o → GivenEvent s event → Step s event answer s'
      → known s' ≡ known_from (known s) (option_to_list o) → ReplaysFrom t (option_to_list o) t' → Stepped event answer
  by_entry x event answer s' None fits e given st left r = record {
    given = given_event s t event alike.same given;
    is_step = subst (Step t event answer) (sym r) (rests s t alike event answer s' (ap (λ (k : Known). k.entries) left) st);
  }
  by_entry x event answer s' (Some y) fits e given st left r =
      let tells = entry_tells s x event answer y fits e in
      record {
        given = subst (GivenEvent t) tells.event_is r.2;
        is_step = subst (Step t event answer) (sym r.4) (subst (λ v. Step t v answer r.0) tells.event_is (subst (λ w. Step t (entries.event_of y) w r.0) tells.answer_is r.3));
      }

  lease_again : (lib : LibNo) (ask : Ask) (told : Told) → LeaseIs s lib ask told → LeaseIs t lib ask told
  lease_again lib (Grant ino kind) (Lent lease) h = subst (λ (k : Known). IsSomeAnd (row_at k.image ino) (λ r. lease ≡ lent_by (opened_in k.image k.entries lib.0 ino kind r))) alike.same h
  lease_again lib ask told h = tt

  module _ (lib : LibNo) (s' : State) where
    -- the entry is the same, where no lease is given back in the call
    entries_again : (ask : Ask) (told : Told) → Happens s lib ask told s' → backs_of ask told ≡ [] → entries_told t lib ask told ≡ option_to_list (entry_made s lib ask told)
    entries_again ask told h simple =
        let both = both_back s t lib (handed_back ask) alike h.back in
        ap (λ bs. back_entries lib bs ++ option_to_list (entry_made t lib ask told)) simple
        ∙ ap option_to_list (entry_same (all_back s lib (handed_back ask)) (all_back t lib (handed_back ask)) (beside_of ask) (event_of lib ask) (answer_of told) (ap (λ (k : Known). k.image) (sym both.alike.same)))

    abbrev IsLeft : Ask → Told → Type 0
    IsLeft ask told = known s' ≡ known_from (known s) (option_to_list (entry_made s lib ask told))

    abbrev GoesOn : Ask → Told → Type 0
    GoesOn ask told = ReplaysFrom t (option_to_list (entry_made s lib ask told)) t'

    abbrev Comes : Ask → Told → Type 0
    Comes ask told = Happens t lib ask told t' × Runs t (moves_of lib t ask told t') t'

    -- one that hands no lease back
    stepped : (ask : Ask) (told : Told) → Happens s lib ask told s' → Step s (event_of lib ask) (answer_of told) s' → GivenEvent s (event_of lib ask) → known s' ≡ known_from (known s) (option_to_list (entry_of s (beside_of ask) (event_of lib ask) (answer_of told))) → ReplaysFrom t (option_to_list (entry_of s (beside_of ask) (event_of lib ask) (answer_of told))) t' → Stepped (event_of lib ask) (answer_of told)
    stepped ask told h st given left r = by_entry (beside_of ask) (event_of lib ask) (answer_of told) s' (entry_of s (beside_of ask) (event_of lib ask) (answer_of told)) (beside_is lib ask) refl given st left r

    entered : (ino mode : ℕ) (f : ModeFault) (mid : State) → Step t (step.SetMode lib.0 ino mode) (step.NotModeSet f) mid → t' ≡ mid
        → (t' ≡ after_mode_fault t f) × Runs t (record { before = t; event = step.SetMode lib.0 ino mode; answer = step.NotModeSet f; after = t' } ∷ []) t'
    entered ino mode f mid st e =
        let here : Step t (step.SetMode lib.0 ino mode) (step.NotModeSet f) t' = subst (Step t (step.SetMode lib.0 ino mode) (step.NotModeSet f)) (sym e) st in
        (refused_step t t' lib.0 ino mode f here, one_move t t' lib (step.SetMode lib.0 ino mode) (step.NotModeSet f) tt here)

    -- a refused change of mode, with leases that stay out
    refused_at : (ino mode : ℕ) (back : List Shown) (k : Option call.Call) (f : ModeFault) → GoesOn (SetMode ino mode back k) (NotModeSet f)
        → (t' ≡ after_mode_refusal t f) × Runs t (moves_of lib t (SetMode ino mode back k) (NotModeSet f) t') t'
    refused_at ino mode back k NoFile r = entered ino mode NoFile r.0 r.3 r.4
    refused_at ino mode back k NotOwner r = entered ino mode NotOwner r.0 r.3 r.4
    refused_at ino mode back k BadMode r = entered ino mode BadMode r.0 r.3 r.4
    refused_at ino mode back k (BusyMode holder) r = (r, no_move t t' lib r)
    refused_at ino mode back k NoModeMemory r = (r, one_move t t' lib (step.SetMode lib.0 ino mode) step.NoMemory tt (inr (refl, refl, r)))

    mode_refused : (ino mode : ℕ) (back : List Shown) (k : Option call.Call) (f : ModeFault) → Happens s lib (SetMode ino mode back k) (NotModeSet f) s' → GoesOn (SetMode ino mode back k) (NotModeSet f) → Comes (SetMode ino mode back k) (NotModeSet f)
    mode_refused ino mode back k f h r =
        let both = both_back s t lib back alike h.back in
        let at = refused_at ino mode back k f r in (
          record { back = both.there; given = tt; is_step = (refused_there both.alike h.is_step.0.0 h.is_step.0.1, at.0); lease = tt },
          at.1,
        )
      where
        refused_there : Alike (all_back s lib back) (all_back t lib back) → (u : State) → Step (all_back s lib back) (step.SetMode lib.0 ino mode) (mode_fault_answer f) u → (v : State) × Step (all_back t lib back) (step.SetMode lib.0 ino mode) (mode_fault_answer f) v
        refused_there a u (inr none) = (all_back t lib back, inr (none.0, none.1, refl))
        refused_there a u (inl d) = (let g = mode_again (all_back s lib back) (all_back t lib back) a lib.0 ino mode (mode_fault_answer f) u d in (g.after, inl g.does))

    settle_comes : (parcel : Parcel) (back : List Shown) (calls : List done.Done) (told : Told) → Happens s lib (Settle parcel back calls) told s' → backs_of (Settle parcel back calls) told ≡ [] → IsLeft (Settle parcel back calls) told → GoesOn (Settle parcel back calls) told → Comes (Settle parcel back calls) told
    settle_comes parcel [] calls told h simple left r =
        let x = stepped (Settle parcel [] calls) told h (plain_step s lib (Settle parcel [] calls) told s' refl h) h.given left r in
        (record { back = tt; given = x.given; is_step = settle_step t t' lib parcel calls told x.is_step; lease = tt }, moves_run t t' lib (Settle parcel [] calls) told x.given x.is_step)
    settle_comes parcel (f ∷ fs) calls Settled h simple left r = absurd (cc simple)
    settle_comes parcel (f ∷ fs) calls NotSettled h simple left r =
        let both = both_back s t lib (f ∷ fs) alike h.back in (
          record {
            back = both.there;
            given = given_event (all_back s lib (f ∷ fs)) (all_back t lib (f ∷ fs)) (event_of lib (Settle parcel (f ∷ fs) calls)) both.alike.same h.given;
            is_step = r;
            lease = tt;
          },
          no_move t t' lib r,
        )
    settle_comes parcel (f ∷ fs) calls told h simple left r =
        absurd (lost_settle s (all_back s lib (f ∷ fs)) s' (more_back s lib f fs) lib.0 (bundle_of parcel) (beside_of (Settle parcel (f ∷ fs) calls)) (answer_of told) h.is_step left)

    mode_comes : (ino mode : ℕ) (back : List Shown) (k : Option call.Call) (told : Told) → Happens s lib (SetMode ino mode back k) told s' → backs_of (SetMode ino mode back k) told ≡ [] → IsLeft (SetMode ino mode back k) told → GoesOn (SetMode ino mode back k) told → Comes (SetMode ino mode back k) told
    mode_comes ino mode back k (NotModeSet fault) h simple left r = mode_refused ino mode back k fault h r
    mode_comes ino mode [] k told h simple left r =
        let x = stepped (SetMode ino mode [] k) told h (plain_step s lib (SetMode ino mode [] k) told s' refl h) tt left r in
        (record { back = tt; given = tt; is_step = mode_step t t' lib ino mode k told x.is_step; lease = tt }, moves_run t t' lib (SetMode ino mode [] k) told tt x.is_step)
    mode_comes ino mode (f ∷ fs) k ModeSet h simple left r = absurd (cc simple)
    mode_comes ino mode (f ∷ fs) k told h simple left r =
        absurd (lost_mode s (all_back s lib (f ∷ fs)) s' (more_back s lib f fs) lib.0 ino mode (beside_of (SetMode ino mode (f ∷ fs) k)) (answer_of told) h.is_step left)

    comes : (ask : Ask) (told : Told) → Happens s lib ask told s' → backs_of ask told ≡ [] → IsLeft ask told → GoesOn ask told → Comes ask told
    comes (Grant ino kind) told h simple left r =
        let x = stepped (Grant ino kind) told h h.is_step tt left r in
        (record { back = tt; given = x.given; is_step = x.is_step; lease = lease_again lib (Grant ino kind) told h.lease }, moves_run t t' lib (Grant ino kind) told x.given x.is_step)
    comes (Allot pages numbers) told h simple left r =
        let x = stepped (Allot pages numbers) told h h.is_step tt left r in
        (record { back = tt; given = x.given; is_step = x.is_step; lease = tt }, moves_run t t' lib (Allot pages numbers) told x.given x.is_step)
    comes (GiveBack lease) told h simple left r =
        let x = stepped (GiveBack lease) told h h.is_step h.given left r in
        (record { back = tt; given = x.given; is_step = x.is_step; lease = tt }, moves_run t t' lib (GiveBack lease) told x.given x.is_step)
    comes (Release parcel) told h simple left r =
        let x = stepped (Release parcel) told h h.is_step h.given left r in
        (record { back = tt; given = x.given; is_step = x.is_step; lease = tt }, moves_run t t' lib (Release parcel) told x.given x.is_step)
    comes (Settle parcel back calls) told h simple left r = settle_comes parcel back calls told h simple left r
    comes (SetMode ino mode back k) told h simple left r = mode_comes ino mode back k told h simple left r

-- A call of which this is known happens in any kept state of which as much is known, and comes to each state to which its entry leads.
pub redone : (s s' t t' : State) (lib : LibNo) (ask : Ask) (told : Told) (o : Option Entry) → Alike s t → Happens s lib ask told s' → backs_of ask told ≡ [] → entry_made s lib ask told ≡ o
    → known s' ≡ known_from (known s) (option_to_list o) → ReplaysFrom t (option_to_list o) t' → Redone t lib ask told o t'
redone s s' t t' lib ask told o alike h simple e left r =
    subst (λ p. known s' ≡ known_from (known s) (option_to_list p) → ReplaysFrom t (option_to_list p) t' → Redone t lib ask told p t') e
    (λ left r.
    let c = comes s t alike t' lib s' ask told h simple left r in
    record { happens = c.0; entries = entries_again s t alike t' lib s' ask told h simple; runs = c.1 }) left r
