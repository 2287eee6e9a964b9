-- A script that ran on threads, from its seats at the start to the controller at the end.
use Rattle.trio_runner.proofs.Words.{◌+◌, ◌-◌, ◌<◌, ◌∙◌, ◌∷◌, ◌≡◌, ◌≤◌, Arrives, Controller, Creds, Entry, Err, Heard, Held, IfOk, IfSome, Image, IsLibrary, IsLibraryOf, IsSeatOf, IsSeenIn, Kept, Leaves, LibNo, LibRan, LibRun, LibSeat, List, None, Ok, Option, Origin, Place, RanAll, Result, ScriptLib, ScriptRan, Seated, Shared, Some, State, Things, [], ap, arith, arrives, begun, creds_in, first, get_or, get_or_from_slice_get, heard_by, length, length-map, library, library_of, made_by, map, nothing, option_map, origin_in, out_of, refl, seen, slice_get, slice_get_within, start, subst, suc, sym, untold, zero, ℕ}
use denote.Param.Members.{Shared as Callable}
use Rattle.std.specs.Fork.{GivesJobs}
use Rattle.std.proofs.lemmas.Option.{slice_get-map}
use mathlib.Core.List.{IsPrefix}
use Rattle.trio_state.specs.Moves.{begun_by}
use Rattle.trio_laws.specs.history.Recorded.{IsRecorded}
use Rattle.trio_ctl.specs.Ctl.{underway_of}
use Rattle.trio_ctl.specs.Ctl as ctl_words
use Rattle.trio_ctl.specs.Logged.{recorded}
use Rattle.trio_turn.specs.Seats.{EverySeat, OfEach, mine}
use Rattle.trio_shared.specs.Begun.{mark_of, marked}
use Rattle.trio_shared.specs.Left.{origin_of}
use Rattle.trio_shared.specs.Seats.{AllStart, Starts, library_count}
use Rattle.trio_runner.specs.declared.threads.LibStart.{LibStart}
use Rattle.trio_runner.specs.inner.Threads.{HasRun, HaveRun, seats_of}
use Rattle.trio_runner.proofs.EndFree.{within_some}
use Rattle.trio_runner.proofs.Held.{same_library}

-- ---- the start

-- a controller that has just started from this script
pub record HasStarted (ctl : Controller) (libs : List ScriptLib) : Type 0 where
  pub kept : Kept ctl.state
  pub started : ctl.state ≡ start ctl.state.home (creds_in libs)
  pub first : ctl.first ≡ ctl.state.home
  pub unlogged : ctl.log ≡ []
  pub history : IsRecorded (recorded ctl.first ctl.state ctl.log)

module _ (ctl : Controller) (libs : List ScriptLib) (h : HasStarted ctl libs) where
  pub started_creds : ctl.state.creds ≡ creds_in libs
  started_creds = ap (λ (s : State). s.creds) h.started

  pub started_count : length ctl.state.creds ≡ length libs
  started_count = ap length started_creds ∙ length-map libs (λ (l : ScriptLib). l.creds)

  started_origin : origin_of ctl ≡ origin_in ctl.state.home libs
  started_origin =
      ap (λ (i : Image). record { image = i; creds = ctl.state.creds }) h.first
      ∙ ap (λ (c : List Creds). record { image = ctl.state.home; creds = c }) started_creds

  started_left : Leaves (origin_of ctl) [] ctl.state
  started_left = record {
    begins = subst (λ (o : Origin). Kept (start o.image o.creds)) (sym started_origin) (subst Kept h.started h.kept);
    creds = refl;
    all = subst (λ (log : List Entry). IsRecorded (recorded ctl.first ctl.state log)) h.unlogged h.history;
  }

  -- each seat is one at which a library begins
  pub all_arrive : (shared : Shared) (seats : List (LibSeat Held)) → AllStart shared (origin_of ctl) seats → OfEach (Arrives shared libs) seats
  all_arrive shared seats all k s at =
      let i = all k s at in
      record {
        sits = record {
          is_seat = i.is;
          is_idle = i.idle;
          state = ctl.state;
          left = subst (λ (log : List Entry). Leaves (first s) log ctl.state) (sym i.seen)
              (subst (λ (o : Origin). Leaves o [] ctl.state) (sym i.first) started_left);
        };
        none = i.seen;
        creds = ap (λ (o : Origin). o.creds) i.first ∙ started_creds;
      }

-- ---- the threads

-- what stands in a mapped list
mapped : {X Y : Type 0} (f : X → Y) (xs : List X) (k : ℕ) (y : Y) → slice_get (map f xs) k ≡ Some y → (x : X) × (slice_get xs k ≡ Some x) × (f x ≡ y)
mapped f [] k y e = absurd (cc e)
mapped f (x ∷ xs) zero y e = (x, refl, cc e)
mapped f (x ∷ xs) (suc k) y e = mapped f xs k y e

-- what each call of a closure came to, its libraries came to
pub have_run : {F : Type 0} (g : Callable F (LibStart × Unit {0}) LibRun) (f : F) (shared : Shared) (libs : List ScriptLib) → ((start : LibStart) (run : LibRun) → g.post f (start, tt) run → HasRun shared libs start.seat run)
    → (starts : List LibStart) (runs : List LibRun) → length runs ≡ length starts → GivesJobs g f starts runs → HaveRun shared libs (seats_of starts) runs
have_run g f shared libs met starts runs count gives = record {
  count = count ∙ sym (length-map starts (λ (s : LibStart). s.seat));
  each = λ k seat run at there.
      let m = mapped (λ (s : LibStart). s.seat) starts k seat at in
      let j = (gives k run (slice_get_within starts k m.0 m.1)).1 in
      let job : j.job ≡ m.0 = sym (j.job_is m.0) ∙ get_or_from_slice_get starts k m.0 m.0 m.1 in
      subst (λ (s : LibSeat Held). HasRun shared libs s run) (ap (λ (s : LibStart). s.seat) job ∙ m.2)
      (subst (HasRun shared libs j.job.seat) (get_or_from_slice_get runs k run run there) (met j.job (get_or runs k run) j.call.met));
}

-- what follows of two facts of one answer
pub if_both : {T E : Type 0} (r : Result T E) (P Q S : T → Type 0) → ((x : T) → P x → Q x → S x) → IfOk r P → IfOk r Q → IfOk r S
if_both (Ok x) P Q S f p q = f x p q
if_both (Err e) P Q S f p q = p

-- ---- lists

pub put_in : {X Y : Type 0} (f : X → Y) (xs : List X) (k : ℕ) (x : X) → slice_get xs k ≡ Some x → slice_get (map f xs) k ≡ Some (f x)
put_in f xs k x e = slice_get-map f xs k ∙ ap (option_map f) e

-- nothing is marked where nothing has begun
unmarked : {X Y : Type 0} (f : X → Y) (o : Option X) → option_map f o ≡ None → o ≡ None
unmarked f None e = refl
unmarked f (Some x) e = absurd (cc e)

-- ---- the end

module _ (ctl : Controller) (libs : List ScriptLib) (h : HasStarted ctl libs) (shared : Shared) (starts : List (LibSeat Held)) (all : AllStart shared (origin_of ctl) starts)
    (count : length starts ≡ length libs) (runs : List LibRun) (have : HaveRun shared libs starts runs) (seats : List (LibSeat Held)) (seats_are : seats ≡ map (λ (run : LibRun). run.seat) runs) (tolds : List Heard) (told_all : map Some tolds ≡ map (λ (run : LibRun). run.told) runs) where
  -- what one of them came to
  record Ended (k : ℕ) (run : LibRun) : Type 0 where
    seat : LibSeat Held
    begins : Starts shared (origin_of ctl) (k + 1) seat
    told : Heard
    told_at : slice_get tolds k ≡ Some told
    lib : ScriptLib
    lib_at : slice_get libs k ≡ Some lib
    ran : RanAll shared lib seat run.seat told

  run_count : length runs ≡ length libs
  run_count = have.count ∙ count

  ended : (k : ℕ) (run : LibRun) → slice_get runs k ≡ Some run → Ended k run
  ended k run at =
      let low : k < length runs = slice_get_within runs k run at in
      let s = within_some starts k (omega (arith, low, have.count)) in
      let one : HasRun shared libs s.0 run = have.each k s.0 run s.1 at in
      let begins : Starts shared (origin_of ctl) (k + 1) s.0 = all k s.0 s.1 in
      let t = mapped Some tolds k run.told (ap (λ (l : List (Option Heard)). slice_get l k) told_all ∙ put_in (λ (r : LibRun). r.told) runs k run at) in
      let place : library s.0 - 1 ≡ k = omega (arith, begins.library) in
      record {
        seat = s.0;
        begins = begins;
        told = t.0;
        told_at = t.1;
        lib = one.lib;
        lib_at = subst (λ n. slice_get libs n ≡ Some one.lib) place one.is_library.1;
        ran = subst (λ (o : Option Heard). IfSome o (RanAll shared one.lib s.0 run.seat)) (sym t.2) one.ran;
      }

  seat_at : (k : ℕ) (run : LibRun) → slice_get runs k ≡ Some run → slice_get seats k ≡ Some run.seat
  seat_at k run at = ap (λ (l : List (LibSeat Held)). slice_get l k) seats_are ∙ put_in (λ (r : LibRun). r.seat) runs k run at

  pub end_seats : OfEach (IsSeatOf shared) seats
  end_seats k s at =
      let r = mapped (λ (run : LibRun). run.seat) runs k s (ap (λ (l : List (LibSeat Held)). slice_get l k) (sym seats_are) ∙ at) in
      subst (IsSeatOf shared) r.2 (ended k r.0 r.1).ran.sits.is_seat

  run_at : (l : ℕ) → 1 ≤ l → l ≤ length libs → (run : LibRun) × (slice_get runs (l - 1) ≡ Some run)
  run_at l low high = within_some runs (l - 1) (omega (arith, low, high, run_count))

  -- whose it is
  run_library : (l : ℕ) (run : LibRun) → 1 ≤ l → slice_get runs (l - 1) ≡ Some run → library run.seat ≡ l
  run_library l run low at =
      let e = ended (l - 1) run at in
      let n : library e.seat ≡ (l - 1) + 1 = e.begins.library in
      let m : library run.seat ≡ library e.seat = e.ran.library in
      omega (arith, n, m, low)

  pub end_every : library_count shared ≡ length libs → EverySeat (library_count shared) seats
  end_every many l low high =
      let r = run_at l low (omega (arith, high, many)) in
      (l - 1, r.0.seat, seat_at (l - 1) r.0 r.1, run_library l r.0 low r.1)

  module _ (some : 1 ≤ length libs) (last : Controller)
      (begins : OfEach (λ s. IsPrefix (seen s) last.log) seats) (own : OfEach (λ s. made_by (library s) last.log ≡ mine s) seats)
      (from : OfEach (λ s. origin_of last ≡ first s) seats) (marks : OfEach (λ s. marked last (library s) ≡ begun s) seats) (left : Leaves (origin_of last) last.log last.state) where
    same_origin : origin_of last ≡ origin_of ctl
    same_origin =
        let r = run_at 1 (omega arith) some in
        let e = ended 0 r.0 r.1 in
        from 0 r.0.seat (seat_at 0 r.0 r.1) ∙ e.ran.sits.is_seat.first ∙ sym e.begins.is.first ∙ e.begins.first

    pub end_first : last.first ≡ ctl.first
    end_first = ap (λ (o : Origin). o.image) same_origin

    end_origin : origin_of last ≡ origin_in ctl.state.home libs
    end_origin = same_origin ∙ started_origin ctl libs h

    pub end_idle : (lib : LibNo) → IsLibrary lib last.state → ctl_words.IsIdle last lib.0
    end_idle lib is =
        let many : length last.state.creds ≡ length libs = ap (λ (o : Origin). length o.creds) end_origin ∙ length-map libs (λ (l : ScriptLib). l.creds) in
        let r = run_at lib.0 is.0 (omega (arith, is.1, many)) in
        let at = seat_at (lib.0 - 1) r.0 r.1 in
        let none : marked last (library r.0.seat) ≡ None = marks (lib.0 - 1) r.0.seat at ∙ (ended (lib.0 - 1) r.0 r.1).ran.sits.is_idle in
        unmarked (mark_of (out_of last.state lib)) (begun_by (underway_of last) lib.0) (subst (λ n. marked last n ≡ None) (run_library lib.0 r.0 is.0 r.1) none)

    -- how far a library is at the end
    place : (k : ℕ) (o : Option LibRun) → slice_get runs k ≡ o → Place
    place k None e = record { going = arrives (origin_of ctl) (record { 0 = k + 1 }); share = Things nothing; told = untold }
    place k (Some run) e = (ended k run e).ran.last

    record Ends (lib : LibNo) (l : ScriptLib) (p : Place) : Type 0 where
      ran : LibRan (origin_in ctl.state.home libs) lib l p
      told : p.told ≡ heard_by tolds lib
      seen_in : IsSeenIn last.log lib p.going.seat.seen

    ends : (lib : LibNo) (l : ScriptLib) → IsLibraryOf libs lib l → (o : Option LibRun) (e : slice_get runs (lib.0 - 1) ≡ o) → Ends lib l (place (lib.0 - 1) o e)
    unfolding place
    ends lib l is None e =
        let low : lib.0 - 1 < length libs = slice_get_within libs (lib.0 - 1) l is.1 in
        let one = is.0 in
        let r = run_at lib.0 is.0 (omega (arith, low, one)) in
        let wrong : None ≡ Some r.0 = sym e ∙ r.1 in
        absurd (cc wrong)
    ends lib l is (Some run) e =
        let x = ended (lib.0 - 1) run e in
        let one = is.0 in
        let n : library x.seat ≡ (lib.0 - 1) + 1 = x.begins.library in
        let same : library_of x.seat ≡ lib = same_library (library_of x.seat) lib (omega (arith, n, one)) in
        let script : Some x.lib ≡ Some l = sym x.lib_at ∙ is.1 in
        let script_is : x.lib ≡ l = cc script in
        let at = seat_at (lib.0 - 1) run e in
        let seen_is : seen run.seat ≡ x.ran.last.going.seat.seen = ap (λ (s : Seated). s.seen) (sym x.ran.seat_is) in
        let own_here : made_by lib.0 last.log ≡ made_by lib.0 (seen run.seat) =
        subst (λ m. made_by m last.log ≡ made_by m (seen run.seat)) (run_library lib.0 run is.0 e) (own (lib.0 - 1) run.seat at) in
        record {
          ran = subst (λ (y : ScriptLib). LibRan (origin_in ctl.state.home libs) lib y x.ran.last) script_is
              (subst (λ (m : LibNo). LibRan (origin_in ctl.state.home libs) m x.lib x.ran.last) same
              (subst (λ (o : Origin). LibRan o (library_of x.seat) x.lib x.ran.last) (x.begins.first ∙ started_origin ctl libs h) x.ran.ran));
          told = x.ran.told_is ∙ sym (get_or_from_slice_get tolds (lib.0 - 1) x.told untold x.told_at);
          seen_in = subst (IsSeenIn last.log lib) seen_is (record { begins = begins (lib.0 - 1) run.seat at; own = own_here });
        }

    pub script_ran : ScriptRan ctl.state.home libs tolds last.state last.log
    script_ran = record {
      last = λ lib. place (lib.0 - 1) (slice_get runs (lib.0 - 1)) refl;
      ran = λ lib l is. (ends lib l is (slice_get runs (lib.0 - 1)) refl).ran;
      told = λ lib l is. (ends lib l is (slice_get runs (lib.0 - 1)) refl).told;
      told_count = sym (length-map tolds Some) ∙ ap length told_all ∙ length-map runs (λ (run : LibRun). run.told) ∙ run_count;
      seen = λ lib l is. (ends lib l is (slice_get runs (lib.0 - 1)) refl).seen_in;
      left = subst (λ (o : Origin). Leaves o last.log last.state) end_origin left;
    }
