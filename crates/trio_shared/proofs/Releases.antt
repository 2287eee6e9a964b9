-- A release of a seat: what its first turn took in is still so in its last, and all its turns come to one call.
use Rattle.trio_shared.proofs.Words.{◌++◌, ◌∙◌, ◌∷◌, ◌≡◌, AreMarked, Bundle, Bundled, Calls, CaseShown, DeskSeen, Ends, Entry, Err, Handed, HasBegun, In, IsNotAwaited, IsReturned, IfErr, IsStillSo, Known, Leaves, LibNo, LibOut, List, Looks, MarksStand, None, NotJudged, Ok, Origin, Parted, ReleaseAnswer, ReleaseFault, ReplaysFrom, Result, Seated, SeenAfter, SeesMore, Some, State, Step, Waits, WasGiven, [], answer_of, ap, append-nil, bundle_in, case_made, case_shown, creds_of, desk_left, desk_of, entries_made, entries_told, event_of, filter-append, given_to, handed_in, inl, inr, known, made_by, maker, mark_at, mark_of, out_left, out_of, outline_of, parcel_of, plain_state, refl, release_fault_answer, started, step_kept, subst, sym, verdict_of, were_held, with_bundle, ℕ}
use Rattle.std.proofs.lemmas.List.{append_assoc}
use Rattle.std.specs.Prelude.{◌==◌}
use Rattle.trio_layout.specs.Case.{case_of}
use Rattle.trio_layout.specs.Copied.{with_copied}
use Rattle.trio_nodes.specs.declared.answers.ReleaseFault.TheVariants.{NotClosed, NoMemory}
use Rattle.trio_desk.specs.Call.{Release, Judged}
use Rattle.trio_state.specs.Bundles.{parted_hold}
use Rattle.trio_state.specs.Step as step
use Rattle.trio_state.specs.Tells.{case_in}
use Rattle.trio_laws.specs.Laws.{library_of}
use Rattle.trio_laws.specs.RuleLaws.{IsJudgeable}
use Rattle.trio_laws.proofs.KnownSteps.{known_decides}
use Rattle.trio_laws.proofs.OtherSteps.{closed_through, given_through}
use Rattle.trio_moves.proofs.CopiedStay.{step_leaves_case}
use Rattle.trio_lease.specs.Shown.{KeepsUntouched, LentFile}
use Rattle.trio_ctl.specs.DeskLaws.{LentIsMarked}
use Rattle.trio_ctl.proofs.Awaiting.{made_is}
use Rattle.trio_ctl.proofs.DeskGiven.{were_lent}
use Rattle.trio_ctl.proofs.DeskSteps.{release_seen}
use Rattle.trio_state.specs.Step.{ReleaseEnd}
use Rattle.trio_laws.specs.history.Entries.{bundle_handed}
use Rattle.trio_ctl.proofs.HandedBundles.{handed_is}
use Rattle.trio_shared.specs.Moves.{MayEnd}
use Rattle.trio_shared.specs.Pooled.{WasBegun}
use Rattle.trio_shared.specs.Turns.{Turned}
use Rattle.trio_shared.proofs.Belongs.{marked_then}
use Rattle.trio_shared.proofs.Left.{desk_is_left, kept_through, known_left, known_through, of_another, others_leave, out_known, replays, replays_split, whose}

-- ---- entries of others leave the case of a bundle

-- a bundle that is given and closed has the same case after them
case_through : (s : State) (others : List Entry) (t : State) (lib : ℕ) (b : Bundle) → IsJudgeable s lib b → ReplaysFrom s others t → made_by lib others ≡ []
    → with_copied (case_in t lib b) ≡ with_copied (case_in s lib b)
case_through s [] t lib b j r none = ap (λ (x : State). with_copied (case_in x lib b)) r
case_through s (e ∷ es) t lib b j r none =
    let apart = of_another lib e es none in
    let other : library_of (event_of e) ≡ lib → ⊥ = λ same. apart.0 (sym (whose e) ∙ same) in
    let next : IsJudgeable r.0 lib b = record {
      kept = step_kept s r.0 (event_of e) (answer_of e) j.kept r.2 r.3;
      given = given_through s (step.Release lib b) (event_of e) (answer_of e) r.0 j.kept j.given r.2 r.3 other;
      closed = closed_through s lib b (event_of e) (answer_of e) r.0 j.kept r.2 r.3 other j.closed;
    } in
    case_through r.0 es t lib b next r.4 apart.1 ∙ step_leaves_case s lib b (event_of e) (answer_of e) r.0 j r.2 r.3 other

-- states of which the same is known have the same case
case_known : (s t : State) (lib : ℕ) (b : Bundle) → known s ≡ known t → case_in s lib b ≡ case_in t lib b
case_known s t lib b same =
    ap (λ (k : Known). case_of k.image (creds_of (plain_state k) lib) b) same

parted_known : (s t : State) (lib : ℕ) (b : Bundle) → known s ≡ known t → parted_hold s lib b ≡ parted_hold t lib b
parted_known s t lib b same =
    sym ((known_decides s).parted lib b) ∙ ap (λ (k : Known). parted_hold (plain_state k) lib b) same ∙ (known_decides t).parted lib b

module _ (first : Origin) (log others : List Entry) (s t : State) (lib : LibNo) (b : Bundled) (before : Leaves first log s) (after : Leaves first (log ++ others) t) where
  -- the case of a bundle that the library had out, and that was closed
  pub case_stands : made_by lib.0 others ≡ [] → WasGiven (out_of s lib) (parcel_of b) → parted_hold s lib.0 (bundle_in b) ≡ None
      → with_copied (case_in t lib.0 (bundle_in b)) ≡ with_copied (case_in s lib.0 (bundle_in b))
  case_stands none given closed =
      let parts = replays_split (started first) t log others (replays first (log ++ others) t after) in
      let mid = parts.0 in
      let same : known mid ≡ known s = known_through (started first) log mid after.begins parts.1 ∙ sym (known_left first log s before) in
      let out : out_of s lib ≡ out_of mid lib = sym (out_known s lib) ∙ ap (λ (k : Known). out_of (plain_state k) lib) (sym same) ∙ out_known mid lib in
      let j : IsJudgeable mid lib.0 (bundle_in b) = record {
        kept = kept_through (started first) log mid after.begins parts.1;
        given = given_to mid lib (parcel_of b) (subst (λ (o : LibOut). WasGiven o (parcel_of b)) out given);
        closed = parted_known mid s lib.0 (bundle_in b) same ∙ closed;
      } in
      case_through mid others t lib.0 (bundle_in b) j parts.2 none ∙ ap with_copied (case_known mid s lib.0 (bundle_in b) same)

-- ---- a seat that has seen more

same_seated : (x : Seated) (lib : LibNo) (first : Origin) (seen : List Entry) → x.lib ≡ lib → x.first ≡ first → x.seen ≡ seen → x ≡ record { lib = lib; first = first; seen = seen; begun = x.begun }
same_seated x lib first seen l f s =
    ap (λ (z : LibNo). record { lib = z; first = x.first; seen = x.seen; begun = x.begun }) l
    ∙ ap (λ (z : Origin). record { lib = lib; first = z; seen = x.seen; begun = x.begun }) f
    ∙ ap (λ (z : List Entry). record { lib = lib; first = first; seen = z; begun = x.begun }) s

-- a look lets a seat see more
pub more_seen : {P : State → Type 0} (old new : Seated) → Looks old P new → SeesMore old new
more_seen old new look = record {
  others = look.others;
  lib = look.lib;
  first = look.first;
  not_its_own = look.not_its_own;
  seen = look.seen ∙ append-nil (old.seen ++ look.others);
}

module _ (old mid : Seated) (more : SeesMore old mid) where
  abbrev grown : Seated
  grown = record { lib = old.lib; first = old.first; seen = old.seen ++ more.others; begun = mid.begun }

  is_grown : mid ≡ grown
  is_grown = same_seated mid old.lib old.first (old.seen ++ more.others) more.lib more.first more.seen

  none_own : (others : List Entry) → made_by old.lib.0 others ≡ [] → made_by old.lib.0 (more.others ++ others) ≡ []
  none_own others none =
      filter-append (λ (d : Entry). maker d == old.lib.0) more.others others ∙ (ap (λ es. es ++ made_by old.lib.0 others) more.not_its_own ∙ none)

  -- and still more
  pub still_more : (new : Seated) → SeesMore mid new → SeesMore old new
  still_more new next =
      let n : SeesMore grown new = subst (λ (x : Seated). SeesMore x new) is_grown next in
      record {
        others = more.others ++ n.others;
        lib = n.lib;
        first = n.first;
        not_its_own = none_own n.others n.not_its_own;
        seen = n.seen ∙ append_assoc old.seen more.others n.others;
      }

  -- its next turn is one of the seat as it was
  pub turned_on : (own : State → List Entry) (Did : State → State → Type 0) (new : Seated) → Turned mid own Did new → Turned old own Did new
  turned_on own Did new turn =
      let t : Turned grown own Did new = subst (λ (x : Seated). Turned x own Did new) is_grown turn in
      record {
        others = more.others ++ t.others;
        before = t.before;
        after = t.after;
        lib = t.lib;
        first = t.first;
        not_its_own = none_own t.others t.not_its_own;
        found = subst (λ es. Leaves old.first es t.before) (append_assoc old.seen more.others t.others) t.found;
        seen = t.seen ∙ ap (λ es. es ++ own t.before) (append_assoc old.seen more.others t.others);
        left = t.left;
        did = t.did;
      }

-- what a turn does that ends a release
abbrev HasEnded : Seated → CaseShown → ReleaseAnswer → Seated → LibNo → Type 0
HasEnded old k answer new lib =
    Turned old (λ s. entries_made s (with_bundle k.bundle) (step.Release lib.0 (bundle_in k.bundle)) (verdict_of answer))
    (λ s s'. IsStillSo s lib k × ReleaseEnd s lib.0 (bundle_in k.bundle) (verdict_of answer) s') new

pub ended_on : (old mid : Seated) → SeesMore old mid → (k : CaseShown) (answer : ReleaseAnswer) (new : Seated) → Ends mid k answer new → HasEnded old k answer new old.lib
ended_on old mid more k answer new ends =
    subst (HasEnded old k answer new) more.lib
    (turned_on old mid more (λ s. entries_made s (with_bundle k.bundle) (step.Release mid.lib.0 (bundle_in k.bundle)) (verdict_of answer))
    (λ s s'. IsStillSo s mid.lib k × ReleaseEnd s mid.lib.0 (bundle_in k.bundle) (verdict_of answer) s') new ends.2)

-- ---- a seat that waits for the end of its release

pub waits_none : (seat : Seated) → Waits seat seat
waits_none seat = record {
  more = record { others = []; lib = refl; first = refl; not_its_own = refl; seen = sym (append-nil seat.seen) };
  begun = refl;
  desk = refl;
}

pub waits_look : {P : State → Type 0} (old new : Seated) → Looks old P new → new.begun ≡ old.begun → desk_left new.first new.seen new.lib ≡ desk_left old.first old.seen old.lib → Waits old new
waits_look old new look begun desk = record { more = more_seen old new look; begun = begun; desk = desk }

pub waits_on : (old mid new : Seated) → Waits old mid → Waits mid new → Waits old new
waits_on old mid new a b = record { more = still_more old mid a.more new b.more; begun = b.begun ∙ a.begun; desk = b.desk ∙ a.desk }

-- what ends its release then ends that of the seat as it was
pub ends_waited : (old mid : Seated) → Waits old mid → (k : CaseShown) (answer : ReleaseAnswer) (new : Seated) → Ends mid k answer new → Ends old k answer new
ends_waited old mid waits k answer new ends =
    let mark : mark_at mid k.bundle ≡ mark_at old k.bundle = ap (λ (d : DeskSeen). Some (mark_of d.out (outline_of (bundle_in k.bundle)))) waits.desk in
    (ends.0 ∙ waits.more.lib, sym waits.begun ∙ (ends.1 ∙ mark), ended_on old mid waits.more k answer new ends)

-- the marks of what it hands in stand
pub marks_look : {P : State → Type 0} (old new : Seated) → Looks old P new → desk_left new.first new.seen new.lib ≡ desk_left old.first old.seen old.lib → (h : Handed) → MarksStand old h → MarksStand new h
marks_look old new look desk h marks =
    let out : out_of marks.state old.lib ≡ out_of look.after old.lib =
    ap (λ (d : DeskSeen). d.out)
    (desk_is_left old.first old.seen marks.state old.lib marks.left
    ∙ (sym desk ∙ (sym (desk_is_left new.first new.seen look.after new.lib look.left) ∙ ap (desk_of look.after) look.lib))) in
    record {
      state = look.after;
      left = look.left;
      marked = subst (λ (l : LibNo). AreMarked look.after l.0 h) (sym look.lib) (marked_then marks.state look.after old.lib out h marks.marked);
    }

pub may_end : (seat : Seated) (k : CaseShown) (h : Handed) → h ≡ handed_in k.bundle → MarksStand seat h → MayEnd seat k
may_end seat k h same marks = record { state = marks.state; left = marks.left; marked = subst (AreMarked marks.state seat.lib.0) same marks.marked }

-- so it is with a value that comes back
module _ {A J : Type 0} (old new : Seated) (k : CaseShown) where
  pub waits_back : (r : Result A J) → IfErr r (λ b. Looks old (IsNotAwaited old k) new) → IfErr r (λ b. new.begun ≡ old.begun) → IfErr r (λ b. desk_left new.first new.seen new.lib ≡ desk_left old.first old.seen old.lib)
      → IfErr r (λ b. Waits old new)
  waits_back (Ok a) look begun desk = tt
  waits_back (Err b) look begun desk = waits_look old new look begun desk

  pub marks_back : (r : Result A J) → IfErr r (λ b. Looks old (IsNotAwaited old k) new) → IfErr r (λ b. desk_left new.first new.seen new.lib ≡ desk_left old.first old.seen old.lib) → (h : Handed) → MarksStand old h
      → IfErr r (λ b. MarksStand new h)
  marks_back (Ok a) look desk h marks = tt
  marks_back (Err b) look desk h marks = marks_look old new look desk h marks

-- its own case is awaited in whatever state its next turn finds
pub awaited : (seat : Seated) (k : CaseShown) → HasBegun seat k → (new : Seated) → Looks seat (IsNotAwaited seat k) new → ⊥
awaited seat k b new not =
    let t = not.before in
    let stands = case_stands seat.first seat.seen not.others b.state t seat.lib k.bundle b.left not.found not.not_its_own b.given b.closed in
    let here : case_shown (case_made b.state seat.lib k.bundle) ≡ with_copied (case_in t seat.lib.0 (bundle_in k.bundle)) =
    made_is b.state seat.lib k.bundle b.left.all.kept (were_held b.state seat.lib (parcel_of k.bundle) b.given) ∙ sym stands in
    not.did.1 (ap (λ (c : CaseShown). c.lib) b.made) b.mark (ap case_shown b.made ∙ here)

-- ---- the turn that takes a bundle in

module _ (old mid : Seated) (b : Bundled) (k : CaseShown) (took : Looks old (λ s. (parted_hold s old.lib.0 (bundle_in b) ≡ None) × (k ≡ case_made s old.lib b)) mid) where
  made : k ≡ case_made took.before old.lib b
  made = took.did.1.1

  pub handed_same : handed_in k.bundle ≡ handed_in b
  handed_same = ap (λ (c : CaseShown). handed_in c.bundle) made

  pub parcel_same : parcel_of k.bundle ≡ parcel_of b
  parcel_same = ap (λ (c : CaseShown). parcel_of c.bundle) made

  pub was_begun : WasBegun old k
  was_begun = (
    mid,
    subst (λ (x : Bundled). Looks old (λ s. (parted_hold s old.lib.0 (bundle_in x) ≡ None) × (k ≡ case_made s old.lib x)) mid) (sym (ap (λ (c : CaseShown). c.bundle) made)) took,
  )

  -- the turn leaves the state that it finds
  left_took : Leaves mid.first mid.seen took.before
  left_took = subst (Leaves mid.first mid.seen) took.did.0 took.left

  module _ (given : WasGiven (out_left old.first old.seen old.lib) (parcel_of b)) where
    -- what the library has out then
    seen_took : desk_of took.before old.lib ≡ desk_left old.first old.seen old.lib
    seen_took =
        desk_is_left old.first (old.seen ++ took.others) took.before old.lib took.found
        ∙ others_leave old.first old.seen took.others took.before old.lib took.found took.not_its_own

    given_took : WasGiven (out_of took.before old.lib) (parcel_of b)
    given_took = subst (λ (d : DeskSeen). WasGiven d.out (parcel_of b)) (sym seen_took) given

    pub marks_begun : LentIsMarked → ((f : LentFile) → In f b.writes → KeepsUntouched f) → MarksStand mid (handed_in b)
    marks_begun law keeps = record {
      state = took.before;
      left = left_took;
      marked =
          subst (λ (l : LibNo). AreMarked took.before l.0 (handed_in b)) (sym took.lib)
          (law took.before old.lib.0 b took.found.all.kept (were_lent took.before old.lib (parcel_of b) given_took) keeps);
    }

    pub has_begun : mid.begun ≡ mark_at old b → desk_left mid.first mid.seen mid.lib ≡ desk_left old.first old.seen old.lib → HasBegun mid k
    has_begun begun desk =
        let mark : mark_at old b ≡ mark_at mid b = ap (λ (d : DeskSeen). Some (mark_of d.out (outline_of (bundle_in b)))) (sym desk) in
        subst (HasBegun mid) (sym made)
        (record {
          state = took.before;
          left = left_took;
          given = subst (λ (l : LibNo). WasGiven (out_of took.before l) (parcel_of b)) (sym took.lib) given_took;
          closed = subst (λ (l : LibNo). parted_hold took.before l.0 (bundle_in b) ≡ None) (sym took.lib) took.did.1.0;
          made = ap (λ (l : LibNo). case_made took.before l b) (sym took.lib);
          mark = begun ∙ mark;
        })

-- ---- the two turns

-- bundles that are handed in alike are alike
alike_in : (a b : Bundled) → handed_in a ≡ handed_in b → bundle_in a ≡ bundle_in b
alike_in a b same = sym (handed_is a) ∙ (ap bundle_handed same ∙ handed_is b)

-- A look of the seat, and in its next turns the end of a release whose bundle is handed in as this one.
module _ {P : State → Type 0} (old mid : Seated) (b : Bundled) (k : CaseShown) (look : Looks old P mid) (same : handed_in k.bundle ≡ handed_in b) (given : WasGiven (out_left old.first old.seen old.lib) (parcel_of b)) (answer : ReleaseAnswer) (new : Seated) (ends : Ends mid k answer new) where
  turn : HasEnded old k answer new old.lib
  turn = ended_on old mid (more_seen old mid look) k answer new ends

  seen_then : desk_of turn.before old.lib ≡ desk_left old.first old.seen old.lib
  seen_then =
      desk_is_left old.first (old.seen ++ turn.others) turn.before old.lib turn.found
      ∙ others_leave old.first old.seen turn.others turn.before old.lib turn.found turn.not_its_own

  given_then : WasGiven (out_of turn.before old.lib) (parcel_of b)
  given_then = subst (λ (d : DeskSeen). WasGiven d.out (parcel_of b)) (sym seen_then) given

  same_bundle : bundle_in k.bundle ≡ bundle_in b
  same_bundle = alike_in k.bundle b same

  step_then : Step turn.before (step.Release old.lib.0 (bundle_in b)) (verdict_of answer) turn.after
  step_then = subst (λ (x : Bundle). Step turn.before (step.Release old.lib.0 x) (verdict_of answer) turn.after) same_bundle (inl turn.did.1)

  own_then : entries_made turn.before (with_bundle k.bundle) (step.Release old.lib.0 (bundle_in k.bundle)) (verdict_of answer) ≡ entries_told turn.before old.lib (Release (parcel_of b)) (Judged answer)
  own_then =
      ap (λ (h : Handed). entries_made turn.before (record { handed = h; calls = []; call = None }) (step.Release old.lib.0 (bundle_in k.bundle)) (verdict_of answer)) same
      ∙ ap (λ (x : Bundle). entries_made turn.before (with_bundle b) (step.Release old.lib.0 x) (verdict_of answer)) same_bundle

  -- they are one call
  pub one_call : Calls old (Release (parcel_of b)) (Judged answer) new
  one_call = record {
    others = turn.others;
    before = turn.before;
    after = turn.after;
    lib = turn.lib;
    first = turn.first;
    not_its_own = turn.not_its_own;
    found = turn.found;
    seen = turn.seen ∙ ap (λ es. (old.seen ++ turn.others) ++ es) own_then;
    left = turn.left;
    did = record { back = tt; given = given_to turn.before old.lib (parcel_of b) given_then; is_step = step_then; lease = tt };
  }

  pub seen_one : SeenAfter (desk_left old.first old.seen old.lib) (Release (parcel_of b)) (Judged answer) (desk_left new.first new.seen new.lib)
  seen_one =
      let r : Result ReleaseAnswer ReleaseFault = Ok answer in
      let a = release_seen turn.before old.lib (parcel_of b) turn.after r (λ f. f) turn.found.all.kept turn.found.all.whole (given_to turn.before old.lib (parcel_of b) given_then) step_then in
      let after : desk_of turn.after old.lib ≡ desk_left new.first new.seen new.lib =
      ap (desk_of turn.after) (sym turn.lib) ∙ desk_is_left new.first new.seen turn.after new.lib turn.left in
      subst (λ (d : DeskSeen). SeenAfter d (Release (parcel_of b)) (Judged answer) (desk_left new.first new.seen new.lib)) seen_then
      (subst (λ (d : DeskSeen). SeenAfter (desk_of turn.before old.lib) (Release (parcel_of b)) (Judged answer) d) after a)

-- ---- a bundle that comes back

module _ (old mid : Seated) (b : Bundled) where
  step_back : (fault : ReleaseFault) (s s' : State) → IsReturned s old.lib b fault → s' ≡ s → Step s (step.Release old.lib.0 (bundle_in b)) (release_fault_answer fault) s'
  step_back (NotClosed n) s s' some same = inl (Parted n some refl same)
  step_back NoMemory s s' some same = inr (refl, refl, same)

  none_told : (fault : ReleaseFault) (s : State) → entries_told s old.lib (Release (parcel_of b)) (NotJudged fault) ≡ []
  none_told (NotClosed n) s = refl
  none_told NoMemory s = refl

  module _ (fault : ReleaseFault) (came : Looks old (λ s. IsReturned s old.lib b fault) mid) (given : WasGiven (out_left old.first old.seen old.lib) (parcel_of b)) where
    seen_came : desk_of came.before old.lib ≡ desk_left old.first old.seen old.lib
    seen_came =
        desk_is_left old.first (old.seen ++ came.others) came.before old.lib came.found
        ∙ others_leave old.first old.seen came.others came.before old.lib came.found came.not_its_own

    given_came : WasGiven (out_of came.before old.lib) (parcel_of b)
    given_came = subst (λ (d : DeskSeen). WasGiven d.out (parcel_of b)) (sym seen_came) given

    step_came : Step came.before (step.Release old.lib.0 (bundle_in b)) (release_fault_answer fault) came.after
    step_came = step_back fault came.before came.after came.did.1 came.did.0

    -- it is a call that makes no entry
    pub call_back : Calls old (Release (parcel_of b)) (NotJudged fault) mid
    call_back = record {
      others = came.others;
      before = came.before;
      after = came.after;
      lib = came.lib;
      first = came.first;
      not_its_own = came.not_its_own;
      found = came.found;
      seen = came.seen ∙ ap (λ es. (old.seen ++ came.others) ++ es) (sym (none_told fault came.before));
      left = came.left;
      did = record { back = tt; given = given_to came.before old.lib (parcel_of b) given_came; is_step = step_came; lease = tt };
    }
