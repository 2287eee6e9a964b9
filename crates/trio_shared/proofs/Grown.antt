-- A call between the taking of the controller and its giving back.
use Rattle.trio_shared.proofs.Words.{◌++◌, ◌==◌, ◌∙◌, ◌≡◌, ◌≤◌, All-nil, Ask, Back, BadMode, Busy, BusyMode, Calls, Controller, Creds, CtlAnswer, DeskSeen, Entry, Event, Found, GiveBack, GrantFault, Grows, IfSome, IsIdle, Kept, Leaves, LibNo, LibOut, List, Looks, ModeFault, NoParent, None, NotLent, NotLive, NotModeSet, NotOwner, Option, Origin, Outline, Same, Seated, SeenAfter, SetMode, Settle, Shown, Some, State, TellsHolding, Told, [], all_back, ap, append-nil, begun_by, desk_left, desk_of, entries_told, entry_of, filter-append, length, made_by, maker, mark_of, marked, option_map, origin_of, out_of, refl, subst, sym, underway_of, ℕ}
use Rattle.std.proofs.Common.{All}
use Rattle.std.specs.Option.{option_to_list}
use Rattle.std.proofs.lemmas.List.Elements.{All-append, All-cons, All-map}
use mathlib.Core.List.{IsPrefix, append_cancel_left}
use Rattle.trio_layout.specs.Image.{Image}
use Rattle.trio_desk.specs.Call.{Grant, Allot, Release}
use Rattle.trio_nodes.specs.declared.answers.GrantFault.TheVariants.{Denied}
use Rattle.trio_nodes.specs.declared.answers.ModeFault.TheVariants.{NotLive as NoFile}
use Rattle.trio_state.specs.Step.{library_of}
use Rattle.trio_state.specs.Step as step
use Rattle.trio_laws.specs.history.Entries.{Beside, grant_entry, mode_entry}
use Rattle.trio_ctl.specs.Backs.{back_entries}
use Rattle.trio_ctl.specs.Ctl.{IsLibrary}
use Rattle.trio_ctl.specs.Desk.{Happens, answer_of, backs_of, beside_of, event_of, handed_back}
use Rattle.trio_ctl.proofs.DeskSteps.{happens_creds, others_keep}
use Rattle.trio_shared.specs.inner.Found.{Makes}
use Rattle.trio_shared.proofs.Left.{desk_is_left, others_leave}
use Rattle.trio_shared.proofs.Standing.{tells_holding}

-- ---- whose entries a call makes

pub maker_of : (s : State) (x : Beside) (event : Event) (answer : CtlAnswer) → IfSome (entry_of s x event answer) (λ e. maker e ≡ library_of event)
maker_of s x (step.Grant lib ino kind) (step.Granted children) = refl
maker_of s x (step.Grant lib ino kind) (step.NotGranted fault) = by fault
  where
    by : (fault : GrantFault) → IfSome (grant_entry lib ino kind fault) (λ e. maker e ≡ lib)
    by NotLive = refl
    by (Denied n) = refl
    by NoParent = refl
    by fault = tt
maker_of s x (step.Allot lib pages numbers) (step.Given ps ns) = refl
maker_of s x (step.Allot lib pages numbers) (step.NoPages wanted free) = refl
maker_of s x (step.Allot lib pages numbers) (step.NoInodes wanted free) = refl
maker_of s x (step.Back lib ino) step.Done = refl
maker_of s x (step.Release lib b) step.Accepted = refl
maker_of s x (step.Release lib b) (step.Refused why) = refl
maker_of s x (step.Settle lib b) step.Settled = refl
maker_of s x (step.SetMode lib ino mode) step.ModeSet = refl
maker_of s x (step.SetMode lib ino mode) (step.NotModeSet fault) = by fault
  where
    by : (fault : ModeFault) → IfSome (mode_entry lib ino mode x.call fault) (λ e. maker e ≡ lib)
    by NoFile = refl
    by NotOwner = refl
    by BadMode = refl
    by fault = tt
maker_of s x event answer = tt

whose : (lib : LibNo) (ask : Ask) → library_of (event_of lib ask) ≡ lib.0
whose lib (Grant ino kind) = refl
whose lib (Allot pages numbers) = refl
whose lib (GiveBack lease) = refl
whose lib (Release parcel) = refl
whose lib (Settle parcel back calls) = refl
whose lib (SetMode ino mode back call) = refl

pub each_of : {X : Type 0} (P : X → Type 0) (o : Option X) → IfSome o P → All P (option_to_list o)
each_of P None p = All-nil P
each_of P (Some x) p = All-cons P x [] p (All-nil P)

all_backs : (lib : LibNo) (back : List Shown) → All (λ (e : Entry). maker e ≡ lib.0) (back_entries lib back)
all_backs lib back = All-map (λ (e : Entry). maker e ≡ lib.0) (λ (f : Shown). Back lib f.ino) back (λ k d lt. refl)

-- each is the library's own
its_own : (s : State) (lib : LibNo) (ask : Ask) (told : Told) → All (λ (e : Entry). maker e ≡ lib.0) (entries_told s lib ask told)
its_own s lib ask told =
    let t = all_back s lib (handed_back ask) in
    let last : Option Entry = entry_of t (beside_of ask) (event_of lib ask) (answer_of told) in
    let mine : All (λ (e : Entry). maker e ≡ library_of (event_of lib ask)) (option_to_list last) =
    each_of (λ (e : Entry). maker e ≡ library_of (event_of lib ask)) last (maker_of t (beside_of ask) (event_of lib ask) (answer_of told)) in
    All-append (λ (e : Entry). maker e ≡ lib.0) (back_entries lib (backs_of ask told)) (option_to_list last) (all_backs lib (backs_of ask told))
    (subst (λ l. All (λ (e : Entry). maker e ≡ l) (option_to_list last)) (whose lib ask) mine)

-- ---- what a call makes of the controller

pub same_origin : (x y : Controller) → y.first ≡ x.first → y.state.creds ≡ x.state.creds → origin_of y ≡ origin_of x
same_origin x y image creds =
    ap (λ (i : Image). record { image = i; creds = y.state.creds }) image ∙ ap (λ (cs : List Creds). record { image = x.first; creds = cs }) creds

-- what another library has begun stands
mark_stands : (x y : Controller) (l : ℕ) → y.begun ≡ x.begun → out_of y.state (record { 0 = l }) ≡ out_of x.state (record { 0 = l }) → marked y l ≡ marked x l
mark_stands x y l begun out =
    ap (λ (o : LibOut). option_map (mark_of o) (begun_by (underway_of y) l)) out
    ∙ ap (λ (b : List (Option Outline)). option_map (mark_of (out_of x.state (record { 0 = l }))) (begun_by (record { state = x.state; begun = b }) l)) (begun)

pub grew : (x : Controller) (lib : LibNo) (ask : Ask) (told : Told) (y : Controller) → Kept x.state → Makes x lib ask told y → Grows lib x y
grew x lib ask told y kept made = record {
  log = (entries_told x.state lib ask told, sym made.logs.log, its_own x.state lib ask told);
  origin = same_origin x y made.logs.first (happens_creds x.state lib ask told y.state made.happens);
  others = λ l other. mark_stands x y l made.logs.begun (others_keep x.state lib (record { 0 = l }) ask told y.state kept other made.happens);
}

-- nothing is changed
pub grew_none : (x : Controller) (lib : LibNo) (y : Controller) → Same x y → Grows lib x y
grew_none x lib y same = record {
  log = ([], append-nil x.log ∙ sym same.log, All-nil (λ (e : Entry). maker e ≡ lib.0));
  origin = same_origin x y same.first (ap (λ (s : State). s.creds) same.state);
  others = λ l other. mark_stands x y l same.begun (ap (λ (s : State). out_of s (record { 0 = l })) same.state);
}

-- a library that has begun nothing has begun nothing of the controller
pub idle_then : (c : Controller) (l : ℕ) → marked c l ≡ None → IsIdle c l
idle_then c l e = by (begun_by (underway_of c) l) e
  where
    by : (o : Option Outline) → option_map (mark_of (out_of c.state (record { 0 = l }))) o ≡ None → o ≡ None
    by None e = refl
    by (Some o) e = absurd (cc e)

pub marked_none : (c : Controller) (l : ℕ) → IsIdle c l → marked c l ≡ None
marked_none c l e = ap (λ (o : Option Outline). option_map (mark_of (out_of c.state (record { 0 = l }))) o) e

-- ---- what a turn finds, and what its seat has seen then

-- what comes behind a list with the same entries of a library is others'
none_behind : (l : ℕ) (xs ys : List Entry) (p : IsPrefix xs ys) → made_by l ys ≡ made_by l xs → made_by l p.0 ≡ []
none_behind l xs ys p same =
    append_cancel_left (made_by l xs) (made_by l p.0) []
    (sym (filter-append (λ (d : Entry). maker d == l) xs p.0) ∙ (ap (made_by l) p.1 ∙ (same ∙ sym (append-nil (made_by l xs)))))

-- a library sees the same once its seat has seen more of others
pub desk_stays : (old new : Seated) → new.lib ≡ old.lib → new.first ≡ old.first → IsPrefix old.seen new.seen → made_by new.lib.0 new.seen ≡ made_by old.lib.0 old.seen
    → (s : State) → Leaves new.first new.seen s → desk_left new.first new.seen new.lib ≡ desk_left old.first old.seen old.lib
desk_stays old new lib first p mine s left =
    let here : Leaves old.first (old.seen ++ p.0) s =
    subst (λ (o : Origin). Leaves o (old.seen ++ p.0) s) first (subst (λ es. Leaves new.first es s) (sym p.1) left) in
    let same : made_by old.lib.0 new.seen ≡ made_by old.lib.0 old.seen = subst (λ (l : LibNo). made_by l.0 new.seen ≡ made_by old.lib.0 old.seen) lib mine in
    ap (λ (l : LibNo). desk_left new.first new.seen l) lib
    ∙ ap (λ (o : Origin). desk_left o new.seen old.lib) first
    ∙ ap (λ es. desk_left old.first es old.lib) (sym p.1)
    ∙ others_leave old.first old.seen p.0 s old.lib here (none_behind old.lib.0 old.seen new.seen p same)

module _ (old : Seated) (c : Controller) where
  pub found : IsPrefix old.seen c.log → made_by old.lib.0 c.log ≡ made_by old.lib.0 old.seen → origin_of c ≡ old.first → Leaves (origin_of c) c.log c.state
      → (1 ≤ old.lib.0) × (old.lib.0 ≤ length old.first.creds) → marked c old.lib.0 ≡ old.begun → Found old c
  found p mine origin left is begun = record {
    others = p.0;
    not_its_own = none;
    log = sym p.1;
    origin = origin;
    left = left;
    desk = desk;
    library = (is.0, subst (λ (o : Origin). old.lib.0 ≤ length o.creds) (sym origin) is.1);
    begun = begun;
  }
    where
      none : made_by old.lib.0 p.0 ≡ []
      none = none_behind old.lib.0 old.seen c.log p mine

      here : Leaves old.first (old.seen ++ p.0) c.state
      here = subst (λ (o : Origin). Leaves o (old.seen ++ p.0) c.state) origin (subst (λ es. Leaves (origin_of c) es c.state) (sym p.1) left)

      desk : desk_of c.state old.lib ≡ desk_left old.first old.seen old.lib
      desk = desk_is_left old.first (old.seen ++ p.0) c.state old.lib here ∙ others_leave old.first old.seen p.0 c.state old.lib here none

-- no release of the library begins in a call
pub stays_idle : (old : Seated) (x : Controller) → Found old x → {l : ℕ} → l ≡ old.lib.0 → old.begun ≡ None → (y : Controller) → y.begun ≡ x.begun → marked y l ≡ None
stays_idle old x f {l} same none y begun =
    let was : IsIdle x l = subst (IsIdle x) (sym same) (idle_then x old.lib.0 (f.begun ∙ none)) in
    marked_none y l (ap (λ (b : List (Option Outline)). begun_by (record { state = y.state; begun = b }) l) begun ∙ was)

-- what Busy tells stands when the call is over, since it makes no entry
holding_after : (first : Origin) (log : List Entry) (s : State) (lib : LibNo) (ask : Ask) (told : Told) → TellsHolding first log lib ask told → TellsHolding first (log ++ entries_told s lib ask told) lib ask told
holding_after first log s lib (Grant ino kind) (NotLent (Busy holder)) t =
    subst (λ es. TellsHolding first es lib (Grant ino kind) (NotLent (Busy holder))) (sym (append-nil log)) t
holding_after first log s lib (SetMode ino mode back call) (NotModeSet (BusyMode holder)) t =
    subst (λ es. TellsHolding first es lib (SetMode ino mode back call) (NotModeSet (BusyMode holder))) (sym (append-nil log)) t
holding_after first log s lib ask told t = tt

-- the seat has seen all that the controller has
pub record Saw (old : Seated) (c : Controller) (new : Seated) : Type 0 where
  pub lib : new.lib ≡ old.lib
  pub first : new.first ≡ old.first
  pub seen : new.seen ≡ c.log
  pub left : Leaves (origin_of c) c.log c.state

module _ (old : Seated) (x : Controller) (f : Found old x) (lib : LibNo) (is : lib ≡ old.lib) where
  -- what is seen of the desk when the turn comes
  pub desk_before : desk_of x.state lib ≡ desk_left old.first old.seen old.lib
  desk_before = ap (desk_of x.state) is ∙ f.desk

  pub is_idle : old.begun ≡ None → IsIdle x lib.0
  is_idle none = subst (λ (l : LibNo). IsIdle x l.0) (sym is) (idle_then x old.lib.0 (f.begun ∙ none))

  pub is_library : IsLibrary lib x.state
  is_library = subst (λ (l : LibNo). IsLibrary l x.state) (sym is) f.library

  pub here : Leaves old.first (old.seen ++ f.others) x.state
  here = subst (λ (o : Origin). Leaves o (old.seen ++ f.others) x.state) f.origin (subst (λ es. Leaves (origin_of x) es x.state) f.log f.left)

  module _ (ask : Ask) (told : Told) (y : Controller) (made : Makes x lib ask told y) (new : Seated) (saw : Saw old y new) where
    there : Leaves new.first new.seen y.state
    there =
        subst (λ (o : Origin). Leaves o new.seen y.state) ((grew x lib ask told y f.left.all.kept made).origin ∙ f.origin ∙ sym saw.first)
        (subst (λ es. Leaves (origin_of y) es y.state) (sym saw.seen) saw.left)

    pub called : Calls old ask told new
    called = record {
      others = f.others;
      before = x.state;
      after = y.state;
      lib = saw.lib;
      first = saw.first;
      not_its_own = f.not_its_own;
      found = here;
      seen = saw.seen ∙ (made.logs.log ∙ (ap (λ es. es ++ entries_told x.state lib ask told) f.log ∙ ap (λ (l : LibNo). (old.seen ++ f.others) ++ entries_told x.state l ask told) is));
      left = there;
      did = subst (λ (l : LibNo). Happens x.state l ask told y.state) is made.happens;
    }

    -- the holder that Busy names
    pub busy : TellsHolding new.first new.seen old.lib ask told
    busy =
        let then : TellsHolding (origin_of x) x.log lib ask told = tells_holding (origin_of x) x.log x.state f.left lib ask told y.state made.happens.is_step in
        subst (λ (l : LibNo). TellsHolding new.first new.seen l ask told) is
        (subst (λ (o : Origin). TellsHolding o new.seen lib ask told) (f.origin ∙ sym saw.first)
        (subst (λ es. TellsHolding (origin_of x) es lib ask told) (sym (saw.seen ∙ made.logs.log)) (holding_after (origin_of x) x.log x.state lib ask told then)))

    -- what is seen of the desk when it has gone
    pub desk_after : desk_of y.state lib ≡ desk_left new.first new.seen new.lib
    desk_after = ap (desk_of y.state) (is ∙ sym saw.lib) ∙ desk_is_left new.first new.seen y.state new.lib there

    pub seen_after : SeenAfter (desk_of x.state lib) ask told (desk_of y.state lib) → SeenAfter (desk_left old.first old.seen old.lib) ask told (desk_left new.first new.seen new.lib)
    seen_after a =
        subst (λ (d : DeskSeen). SeenAfter d ask told (desk_left new.first new.seen new.lib)) desk_before
        (subst (λ (d : DeskSeen). SeenAfter (desk_of x.state lib) ask told d) desk_after a)

  -- a look, which leaves the controller as it is
  module _ (y : Controller) (same : Same x y) (new : Seated) (saw : Saw old y new) where
    left_so : Leaves new.first new.seen x.state
    left_so =
        subst (λ (o : Origin). Leaves o new.seen x.state) (f.origin ∙ sym saw.first)
        (subst (λ es. Leaves (origin_of x) es x.state) (sym (saw.seen ∙ same.log)) f.left)

    pub looked : (P : State → Type 0) → P x.state → Looks old P new
    looked P p = record {
      others = f.others;
      before = x.state;
      after = x.state;
      lib = saw.lib;
      first = saw.first;
      not_its_own = f.not_its_own;
      found = here;
      seen = saw.seen ∙ (same.log ∙ (f.log ∙ append-nil' (old.seen ++ f.others)));
      left = left_so;
      did = (refl, p);
    }
      where
        append-nil' : (es : List Entry) → es ≡ es ++ []
        append-nil' es = sym (append-nil es)

    pub desk_same : desk_left new.first new.seen new.lib ≡ desk_left old.first old.seen old.lib
    desk_same = sym (desk_is_left new.first new.seen x.state new.lib left_so) ∙ (ap (desk_of x.state) saw.lib ∙ f.desk)
