-- Where each library ran on a thread of its own, nothing is lent or out at the end.
use Rattle.trio_runner.proofs.Words.{◌++◌, ◌+◌, ◌-◌, ◌∙◌, ◌∷◌, ◌≡◌, ◌≤◌, Ask, BeginsWith, Bool, Call, CallLine, Calls, CourseGoes, Creds, DeskIsLeft, DeskSeen, Ends, Entry, Goes, Going, HasAll, Heard, Honest, HonestComes, HonestLine, Image, InSession, IsLibraryOf, Leaves, LibNo, LineAnswer, Lines, List, MayCall, NothingOut, Origin, OthersLeave, OutAlike, Place, Raw, ReplaysFrom, Says, SaysHonest, ScriptLib, ScriptRan, SeenAfter, SessionSeen, Settle, SettleLine, Settled, Settles, Share, State, Things, Told, Turn, TurnGoes, [], ap, append-nil, arith, arrives, begins_to_call, both_ways, creds_in, creds_of, desk_left, desk_of, eqb, false, filter-append, le-leb, leb, leb-true, length, length-map, line_turns, made_by, maker, no_lib_out, nothing, origin_in, out_of, refl, sees_at, started, step_creds, subst, sym, true, untold, whose, ℕ}
use mathlib.Core.List.{append_cancel_left}
use Rattle.trio_laws.specs.history.Entries.{answer_of, event_of}
use Rattle.trio_laws.specs.history.Replays.{IsLibrary}
use Rattle.trio_order.proofs.Courses.{none_more}
use Rattle.trio_shared.specs.Left.{out_left}
use Rattle.trio_runner.specs.RunLaws.{RanEndsFree}
use Rattle.trio_runner.proofs.EndFree.{creds_at, no_numbers, nothing_out, within_some}
use Rattle.trio_runner.proofs.Held.{CallLeaves, Leave, end_held, happens_leaves, line_held, none_all, nothing_settled, settle_leaves, settled_may}
use Rattle.trio_runner.proofs.Keeping.{course_keeps}

-- what a library has is all that is out to it at such a desk
abbrev pub HoldsAt : DeskSeen → Share → Type 0
HoldsAt d (Things has) = HasAll d.out has
HoldsAt d (InSession x) = MayCall d x

-- ---- the start

-- nothing is out to a library before the first entry
none_left : (image : Image) (creds : List Creds) (lib : LibNo) → OutAlike (out_left (record { image = image; creds = creds }) [] lib) no_lib_out
none_left image creds lib = record {
  writes = refl;
  reads = refl;
  holds = refl;
  pages = λ n. (λ i. no_numbers image.core.range.end lib.0 n i, λ i. absurd i);
  numbers = λ n. (λ i. no_numbers (image.core.inodes + 1) lib.0 n i, λ i. absurd i);
}

pub begins_at : (image : Image) (libs : List ScriptLib) (lib : LibNo) (own : Creds) (lines : Lines) (share : Share) → own ≡ creds_of (started (origin_in image libs)) lib.0 → BeginsWith lib own lines share → HoldsAt (sees_at (arrives (origin_in image libs) lib)) share
begins_at image libs lib own (Raw lines) share same begins =
    (let d : DeskSeen = sees_at (arrives (origin_in image libs) lib) in
    subst (HoldsAt d) (sym begins) (none_all d.out (none_left image (creds_in libs) lib)))
begins_at image libs lib own (Honest lines) share same begins =
    (let d : DeskSeen = sees_at (arrives (origin_in image libs) lib) in
    subst (HoldsAt d) (sym begins.1) (begins_to_call d _ (record { lib = refl; creds = same; out = none_left image (creds_in libs) lib; empty = refl })))

-- ---- whose entries a log has

-- none of a number that is no library
none_through : (s : State) (log : List Entry) (t : State) (l : ℕ) → ReplaysFrom s log t → (IsLibrary s.creds l → ⊥) → made_by l log ≡ []
none_through s [] t l r out = refl
none_through s (e ∷ es) t l r out =
    none_more l e es (λ same. out (subst (IsLibrary s.creds) (whose e ∙ same) r.1))
    (none_through r.0 es t l r.4 (subst (λ (cs : List Creds). IsLibrary cs l → ⊥) (sym (step_creds s (event_of e) (answer_of e) r.0 r.3)) out))

-- what a state has out goes by the log that leaves it, and entries of others leave it
module _ (is_left : DeskIsLeft) (others_leave : OthersLeave) where
  -- what is seen of a library's desk, where a log goes on with entries of others
  seen_on : (first : Origin) (seen others : List Entry) (s : State) (lib : LibNo) → Leaves first (seen ++ others) s → made_by lib.0 others ≡ [] → desk_of s lib ≡ desk_left first seen lib
  seen_on first seen others s lib left none = is_left first (seen ++ others) s lib left ∙ others_leave first seen others s lib left none

  -- ---- a call

  module _ (g : Going) (ask : Ask) (told : Told) (g' : Going) (goes : Goes g ask told g') where
    found : desk_of goes.turn.before g.seat.lib ≡ sees_at g
    found = seen_on g.seat.first g.seat.seen goes.turn.others goes.turn.before g.seat.lib goes.turn.found goes.turn.not_its_own

    pub left : desk_of goes.turn.after g.seat.lib ≡ sees_at g'
    left = ap (desk_of goes.turn.after) (sym goes.turn.lib) ∙ is_left g'.seat.first g'.seat.seen goes.turn.after g'.seat.lib goes.turn.left

    pub goes_leaves : CallLeaves (sees_at g).out ask told (sees_at g').out
    goes_leaves =
        subst (λ (d : DeskSeen). CallLeaves d.out ask told (sees_at g').out) found
        (subst (λ (d : DeskSeen). CallLeaves (out_of goes.turn.before g.seat.lib) ask told d.out) left
        (happens_leaves goes.turn.before g.seat.lib ask told goes.turn.after goes.turn.found.all.kept goes.turn.did))

  calls_leave : (calls : List Call) (g g' : Going) → Calls Goes g calls g' → Leave (sees_at g).out calls (sees_at g').out
  calls_leave [] g g' goes = ap (λ x. (sees_at x).out) goes
  calls_leave (c ∷ calls) g g' goes = ((sees_at goes.0).out, goes_leaves g c.ask c.told goes.0 goes.1, calls_leave calls goes.0 g' goes.2)

  -- a settle of a session that may call
  seen_settled : (g g' : Going) (x x' : SessionSeen) → MayCall (sees_at g) x → Settles Goes g x g' x' → SeenAfter (sees_at g) (Settle x.parcel x.reads x.calls) Settled (sees_at g')
  seen_settled g g' x x' may t =
      let ask : Ask = Settle x.parcel x.reads x.calls in
      let turn = t.made.turn in
      let before : desk_of turn.before g.seat.lib ≡ sees_at g = found g ask Settled g' t.made in
      subst (λ (d : DeskSeen). SeenAfter d ask Settled (sees_at g')) before
      (subst (SeenAfter (desk_of turn.before g.seat.lib) ask Settled) (left g ask Settled g' t.made)
      (settle_leaves turn.before turn.after g.seat.lib x turn.found.all.kept turn.found.all.whole (subst (λ (d : DeskSeen). MayCall d x) (sym before) may) turn.did))

  -- ---- a turn

  honest_holds : (g g' : Going) (x x' : SessionSeen) (line : HonestLine) (told : LineAnswer) → MayCall (sees_at g) x → HonestComes Goes sees_at g x line told g' x' → MayCall (sees_at g') x'
  honest_holds g g' x x' (CallLine call) told may c = c.may
  honest_holds g g' x x' SettleLine told may c = settled_may (sees_at g) (sees_at g') x x' may (seen_settled g g' x x' may c.0) c.0.empty

  pub turn_holds : (turn : Turn) (g : Going) (share : Share) (told : Heard) (g' : Going) (share' : Share) (told' : Heard) → HoldsAt (sees_at g) share → TurnGoes turn g share told g' share' told' → HoldsAt (sees_at g') share'
  turn_holds (Says line) g (Things has) told g' (Things has') told' h c =
      line_held g.seat.lib (sees_at g).out (sees_at g').out has has' c.0 c.1 h (calls_leave c.0 g g' c.3) line.line c.2
  turn_holds (SaysHonest line) g (InSession x) told g' (InSession x') told' h c = honest_holds g g' x x' line.line c.0 h c.1
  turn_holds Ends g (Things has) told g' (Things has') told' h c =
      subst (HasAll (sees_at g').out) (sym c.4) (end_held has c.0 c.1 (sees_at g).out (sees_at g').out h c.2 (calls_leave c.0 g g' c.3))
  turn_holds Ends g (InSession x) told g' (InSession x') told' h c = settled_may (sees_at g) (sees_at g') x x' h (seen_settled g g' x x' h c.0) c.0.empty
  turn_holds turn g share told g' share' told' h c = absurd c

  -- after its end nothing is out to it
  end_none : (g : Going) (share : Share) (told : Heard) (g' : Going) (share' : Share) (told' : Heard) → HoldsAt (sees_at g) share → TurnGoes Ends g share told g' share' told' → HasAll (sees_at g').out nothing
  end_none g (Things has) told g' (Things has') told' h c = end_held has c.0 c.1 (sees_at g).out (sees_at g').out h c.2 (calls_leave c.0 g g' c.3)
  end_none g (InSession x) told g' (InSession x') told' h c = nothing_settled (sees_at g) (sees_at g') x x' h (seen_settled g g' x x' h c.0) c.0.empty
  end_none g (Things has) told g' (InSession x) told' h c = absurd c
  end_none g (InSession x) told g' (Things has) told' h c = absurd c

  course_none : (left : List Turn) (p p' : Place) → HoldsAt (sees_at p.going) p.share → CourseGoes p (left ++ Ends ∷ []) p' → HasAll (sees_at p'.going).out nothing
  course_none [] p p' h goes =
      (let last : Place = goes.0 in
      subst (λ (q : Place). HasAll (sees_at q.going).out nothing) (sym goes.2) (end_none p.going p.share p.told last.going last.share last.told h goes.1))
  course_none (turn ∷ left) p p' h goes =
      (let middle : Place = goes.0 in
      course_none left middle p' (turn_holds turn p.going p.share p.told middle.going middle.share middle.told h goes.1) goes.2)

  -- ---- the end

  -- the seat is the library's all along
  abbrev SeatOf : Origin → LibNo → Going → Type 0
  SeatOf first lib g = (g.seat.first ≡ first) × (g.seat.lib ≡ lib)

  seat_stays : (first : Origin) (lib : LibNo) (g : Going) (ask : Ask) (told : Told) (g' : Going) → SeatOf first lib g → Goes g ask told g' → SeatOf first lib g'
  seat_stays first lib g ask told g' is goes = (goes.turn.first ∙ is.0, goes.turn.lib ∙ is.1)

  module _ (image : Image) (libs : List ScriptLib) (tolds : List Heard) (s' : State) (log : List Entry) (ran : ScriptRan image libs tolds s' log) where
    abbrev first : Origin
    first = origin_in image libs

    abbrev begin : LibNo → Share → Place
    begin lib share = record { going = arrives first lib; share = share; told = untold }

    -- to a library of the script
    none_to : (lib : LibNo) (l : ScriptLib) → IsLibraryOf libs lib l → HasAll (out_of s' lib) nothing
    none_to lib l is =
        let last : Going = (ran.last lib).going in
        let own = ran.ran lib l is in
        let in_log = ran.seen lib l is in
        let same : SeatOf first lib last = course_keeps (SeatOf first lib) (seat_stays first lib) (begin lib own.share) (line_turns l.lines ++ Ends ∷ []) (ran.last lib) (refl, refl) own.goes in
        let starts : HoldsAt (sees_at (arrives first lib)) own.share = begins_at image libs lib l.creds l.lines own.share (creds_at libs lib.0 l is.0 is.1) own.begins in
        let done : HasAll (sees_at last).out nothing = course_none (line_turns l.lines) (begin lib own.share) (ran.last lib) starts own.goes in
        let seen : List Entry = last.seat.seen in
        let others : List Entry = in_log.begins.0 in
        let none : made_by lib.0 others ≡ [] =
        append_cancel_left (made_by lib.0 seen) (made_by lib.0 others) []
        (sym (filter-append (λ (e : Entry). eqb (maker e) lib.0) seen others) ∙ ap (made_by lib.0) in_log.begins.1 ∙ in_log.own ∙ sym (append-nil (made_by lib.0 seen))) in
        let there : desk_of s' lib ≡ desk_left first seen lib = seen_on first seen others s' lib (subst (λ es. Leaves first es s') (sym in_log.begins.1) ran.left) none in
        let here : sees_at last ≡ desk_left first seen lib = ap (λ o. desk_left o seen last.seat.lib) same.0 ∙ ap (desk_left first seen) same.1 in
        subst (λ (d : DeskSeen). HasAll d.out nothing) (here ∙ sym there) done

    -- and to nobody else
    none_else : (lib : LibNo) → (IsLibrary (creds_in libs) lib.0 → ⊥) → HasAll (out_of s' lib) nothing
    none_else lib out =
        let replays : ReplaysFrom (started first) log s' = subst (λ (cs : List Creds). ReplaysFrom (record (started first) { creds = cs }) log s') ran.left.creds ran.left.all.replays in
        subst (λ (d : DeskSeen). HasAll d.out nothing) (sym (seen_on first [] log s' lib ran.left (none_through (started first) log s' lib.0 replays out)))
        (none_all (out_left first [] lib) (none_left image (creds_in libs) lib))

    free : NothingOut s'
    free = nothing_out s' (λ lib. by lib (leb 1 lib.0) refl (leb lib.0 (length libs)) refl)
      where
        many : length (creds_in libs) ≡ length libs
        many = length-map libs _

        by : (lib : LibNo) (a : Bool) → leb 1 lib.0 ≡ a → (b : Bool) → leb lib.0 (length libs) ≡ b → HasAll (out_of s' lib) nothing
        by lib true low true high =
            let one : 1 ≤ lib.0 = leb-true 1 lib.0 low in
            let last : lib.0 ≤ length libs = leb-true lib.0 (length libs) high in
            let w = within_some libs (lib.0 - 1) (omega (arith, one, last)) in
            none_to lib w.0 (one, w.1)
        by lib false f b high = none_else lib (λ is. both_ways (leb 1 lib.0) f (le-leb 1 lib.0 is.0))
        by lib true low false f = none_else lib (λ is. both_ways (leb lib.0 (length libs)) f (le-leb lib.0 (length libs) (subst (λ n. lib.0 ≤ n) many is.1)))

pub ran_ends_free : DeskIsLeft → OthersLeave → RanEndsFree
ran_ends_free is_left others_leave image libs tolds s' log ran = free is_left others_leave image libs tolds s' log ran
