-- A library's turns at its seat.
use Rattle.trio_runner.proofs.Words.{◌++◌, ◌+◌, ◌<◌, ◌∙◌, ◌∷◌, ◌≡◌, Answer, Ask, Call, Calls, CourseGoes, DeskIsLeft, DeskSeen, Ended, Ends, Goes, GoesOn, Going, HasAll, HasClosed, Heard, Held, HoldsAll, HonestComes, HonestLine, InSession, IsSeatOf, Leaves, LibNo, LibSeat, LineAnswer, List, None, Option, OthersLeave, Place, Said, Says, SaysHonest, Seated, SessionSeen, Settles, Share, Shared, Some, State, Things, Told, Turn, TurnGoes, TurnMade, TurnTaken, Went, [], ap, arith, desk, desk_left, desk_of, first, get_or, length, library, library_of, place_at, refl, seated, seen, sees_at, subst, suc, sym, take, take-suc, with_end, with_told, ℕ}
use Rattle.trio_shared.specs.Seats.{IsIdle}
use Rattle.trio_shared.specs.Turns as turns
use Rattle.trio_runner.specs.inner.Threads.{Sits, TookAtSeat}
use Rattle.trio_runner.proofs.Held.{CallLeaves, Leave, end_held, happens_leaves, line_held}
use Rattle.trio_runner.proofs.Leaving.{found_desk, left_stands}
use Rattle.trio_runner.proofs.Noting.{calls_follow, line_follows, settles_follow}
use Rattle.trio_runner.proofs.Seats.{share_closed}

-- ---- turns, and more turns

course_append : (p : Place) (xs ys : List Turn) (q r : Place) → CourseGoes p xs q → CourseGoes q ys r → CourseGoes p (xs ++ ys) r
course_append p [] ys q r one two = subst (λ x. CourseGoes x ys r) one two
course_append p (x ∷ xs) ys q r one two = (one.0, one.1, course_append one.0 xs ys q r one.2 two)

module _ (shared : Shared) where
  pub went_none : (seat : LibSeat Held) (share : Share) (told : Heard) → Sits shared seat → Went shared [] seat share told seat share told
  went_none seat share told sits = record { goes = λ calls. (calls, refl); sits = sits; library = refl }

  went_more : (xs ys : List Turn) (a : LibSeat Held) (sa : Share) (ta : Heard) (b : LibSeat Held) (sb : Share) (tb : Heard) (c : LibSeat Held) (sc : Share) (tc : Heard)
      → Went shared xs a sa ta b sb tb → Went shared ys b sb tb c sc tc → Went shared (xs ++ ys) a sa ta c sc tc
  went_more xs ys a sa ta b sb tb c sc tc one two = record {
    goes = λ calls.
        let before = one.goes calls in
        let after = two.goes before.0 in
        (after.0, course_append (place_at a calls sa ta) xs ys (place_at b before.0 sb tb) (place_at c after.0 sc tc) before.1 after.1);
    sits = two.sits;
    library = two.library ∙ one.library;
  }

  -- the next one of some turns
  pub went_next : (turns : List Turn) (i : ℕ) (a : LibSeat Held) (sa : Share) (ta : Heard) (b : LibSeat Held) (sb : Share) (tb : Heard) (c : LibSeat Held) (sc : Share) (tc : Heard)
      → i < length turns → Went shared (take i turns) a sa ta b sb tb → Went shared (get_or turns i Ends ∷ []) b sb tb c sc tc → Went shared (take (i + 1) turns) a sa ta c sc tc
  went_next turns i a sa ta b sb tb c sc tc low one two =
      let n : i + 1 ≡ suc i = omega arith in
      subst (λ ts. Went shared ts a sa ta c sc tc) (sym (ap (λ m. take m turns) n ∙ take-suc turns i Ends low))
      (went_more (take i turns) (get_or turns i Ends ∷ []) a sa ta b sb tb c sc tc one two)

  -- one turn
  went_one : (turn : Turn) (a : LibSeat Held) (sa : Share) (ta : Heard) (b : LibSeat Held) (sb : Share) (tb : Heard)
      → ((calls : List Call) → (calls' : List Call) × TurnGoes turn (record { seat = seated a; calls = calls }) sa ta (record { seat = seated b; calls = calls' }) sb tb)
      → Sits shared b → library b ≡ library a → Went shared (turn ∷ []) a sa ta b sb tb
  went_one turn a sa ta b sb tb goes sits same = record {
    goes = λ calls. (let g = goes calls in (g.0, (place_at b g.0 sb tb, g.1, refl)));
    sits = sits;
    library = same;
  }

-- ---- a desk of a seat

-- each of its calls is one of the seat, and keeps the controller and the reference to the seat
module _ {D N : Type 0} (called : D → Ask → Told → D → Type 0) (shared : D → Shared) (seat : D → LibSeat Held) (name : D → N)
    (is : (d : D) (ask : Ask) (told : Told) (d' : D) → called d ask told d' → turns.Calls (seated (seat d)) ask told (seated (seat d')) × (shared d' ≡ shared d) × (name d' ≡ name d)) where
  abbrev seen_at : D → DeskSeen
  seen_at d = desk (seat d)

  -- what its seat has seen leaves a state
  pub record IsLeft (d : D) : Type 0 where
    pub state : State
    pub left : Leaves (first (seat d)) (seen (seat d)) state

  pub left_of : (d : D) (sh : Shared) (old : LibSeat Held) → seat d ≡ old → Sits sh old → IsLeft d
  left_of d sh old at sits = record { state = sits.state; left = subst (λ (x : LibSeat Held). Leaves (first x) (seen x) sits.state) (sym at) sits.left }

  call_left : (d : D) (ask : Ask) (told : Told) (d' : D) → called d ask told d' → IsLeft d'
  call_left d ask told d' c = (let t = (is d ask told d' c).0 in record { state = t.after; left = t.left })

  -- the library's calls go as those of the desk, which stands where they end
  record Stands (of : Shared) (named : N) (own : LibNo) (d : D) (g : Going) : Type 0 where
    at : seated (seat d) ≡ g.seat
    same_shared : shared d ≡ of
    same_name : name d ≡ named
    same_lib : library_of (seat d) ≡ own
    left : IsLeft d

  stands : (d : D) (calls : List Call) → IsLeft d → Stands (shared d) (name d) (library_of (seat d)) d (record { seat = seated (seat d); calls = calls })
  stands d calls l = record { at = refl; same_shared = refl; same_name = refl; same_lib = refl; left = l }

  module _ (of : Shared) (named : N) (own : LibNo) where
    abbrev Is : D → Going → Type 0
    Is d g = Stands of named own d g

    same_seen : (d : D) (g : Going) → Is d g → seen_at d ≡ sees_at g
    same_seen d g s = ap (λ (x : Seated). desk_left x.first x.seen x.lib) s.at

    step : (d : D) (g : Going) (ask : Ask) (told : Told) (d' : D) → Is d g → called d ask told d' → (g' : Going) × Goes g ask told g' × Is d' g'
    step d g ask told d' s c =
        let one = is d ask told d' c in (
          record { seat = seated (seat d'); calls = g.calls ++ record { ask = ask; told = told } ∷ [] },
          record { turn = subst (λ (x : Seated). turns.Calls x ask told (seated (seat d'))) s.at one.0; calls_are = refl },
          record { at = refl; same_shared = one.1 ∙ s.same_shared; same_name = one.2 ∙ s.same_name; same_lib = one.0.lib ∙ s.same_lib; left = call_left d ask told d' c },
        )

    calls_go : (calls : List Call) (d d' : D) (g : Going) → Is d g → Calls called d calls d' → (g' : Going) × Calls Goes g calls g' × Is d' g'
    calls_go calls d d' g s made = calls_follow called Goes seen_at sees_at Is same_seen step calls d d' g s made

    line_goes : (d d' : D) (g : Going) (s s' : SessionSeen) (line : HonestLine) (told : LineAnswer) → Is d g → HonestComes called seen_at d s line told d' s' → (g' : Going) × HonestComes Goes sees_at g s line told g' s' × Is d' g'
    line_goes d d' g s s' line told i c = line_follows called Goes seen_at sees_at Is same_seen step d d' g s s' line told i c

    settle_goes : (d d' : D) (g : Going) (s s' : SessionSeen) → Is d g → Settles called d s d' s' → (g' : Going) × Settles Goes g s g' s' × Is d' g'
    settle_goes d d' g s s' i c = settles_follow called Goes seen_at sees_at Is same_seen step d d' g s s' i c

  -- a turn at the desk is one of its library
  turn_goes : (d d' : D) (calls : List Call) (l0 : IsLeft d) (turn : Turn) (share : Share) (answer : Answer) (share' : Share) (told told' : Heard) → TurnMade called seen_at turn d share answer d' share' → told' ≡ with_told told answer
      → (g' : Going) × TurnGoes turn (record { seat = seated (seat d); calls = calls }) share told g' share' told' × Stands (shared d) (name d) (library_of (seat d)) d' g'
  turn_goes d d' calls l0 (Says line) (Things has) (Said answer) (Things has') told told' l heard =
      let g = calls_go (shared d) (name d) (library_of (seat d)) l.calls d d' _ (stands d calls l0) l.made in
      (g.0, (l.calls, answer, l.comes, g.1, heard), g.2)
  turn_goes d d' calls l0 (SaysHonest line) (InSession s) (Said answer) (InSession s') told told' c heard =
      let g = line_goes (shared d) (name d) (library_of (seat d)) d d' _ s s' line.line answer (stands d calls l0) c in
      (g.0, (answer, g.1, heard), g.2)
  turn_goes d d' calls l0 Ends (Things has) (Ended end) (Things has') told told' l heard =
      let g = calls_go (shared d) (name d) (library_of (seat d)) l.0.calls d d' _ (stands d calls l0) l.0.made in
      (g.0, (l.0.calls, end, l.0.comes, g.1, l.1, heard), g.2)
  turn_goes d d' calls l0 Ends (InSession s) (Ended end) (InSession s') told told' c heard =
      let g = settle_goes (shared d) (name d) (library_of (seat d)) d d' _ s s' (stands d calls l0) c.0 in
      (g.0, (g.1, heard ∙ ap (with_end told) c.1), g.2)
  turn_goes d d' calls l0 turn share answer share' told told' c heard = absurd c

  -- ---- by what is known of each state

  module _ (is_left : DeskIsLeft) where
    -- what is seen of the desk is so in the state that its seat's entries leave
    here : (d : D) (l : IsLeft d) → desk_of l.state (library_of (seat d)) ≡ seen_at d
    here d l = is_left (first (seat d)) (seen (seat d)) l.state (library_of (seat d)) l.left

    -- a library that has all that is out to it may come to its end
    pub has_closed : (d : D) (l : IsLeft d) (share : Share) → HoldsAll (seen_at d) share → HasClosed (seen_at d) share
    has_closed d l share all =
        let o = left_stands (first (seat d)) (seen (seat d)) l.state l.left in
        subst (λ (x : DeskSeen). HasClosed x share) (here d l)
        (share_closed l.state (library_of (seat d)) share o.kept o.as_told (subst (λ (x : DeskSeen). HoldsAll x share) (sym (here d l)) all))

    module _ (others_leave : OthersLeave) where
      -- what calls leave out to the library
      leaves : (calls : List Call) (d d' : D) → IsLeft d → Calls called d calls d' → Leave (seen_at d).out calls (seen_at d').out
      leaves [] d d' l made = ap (λ x. (seen_at x).out) made
      leaves (c ∷ calls) d d' l made =
          let lib : LibNo = library_of (seat d) in
          let t = (is d c.ask c.told made.0 made.1).0 in
          let found = found_desk is_left others_leave (first (seat d)) (seen (seat d)) t.others t.before lib t.found t.not_its_own in
          let l1 : IsLeft made.0 = record { state = t.after; left = t.left } in
          let then' : desk_of t.after lib ≡ seen_at made.0 = ap (desk_of t.after) (sym t.lib) ∙ here made.0 l1 in
          let kept = (left_stands (first (seat d)) (seen (seat d) ++ t.others) t.before t.found).kept in (
            (seen_at made.0).out,
            subst (λ (x : DeskSeen). CallLeaves (seen_at d).out c.ask c.told x.out) then'
                (subst (λ (x : DeskSeen). CallLeaves x.out c.ask c.told (desk_of t.after lib).out) found
                (happens_leaves t.before lib c.ask c.told t.after kept t.did)),
            leaves calls made.0 d' l1 made.2,
          )

      -- after a turn it has all that is out to it
      turn_holds : (d d' : D) (l : IsLeft d) (turn : Turn) (share : Share) (answer : Answer) (share' : Share) → TurnMade called seen_at turn d share answer d' share' → HoldsAll (seen_at d) share → GoesOn (seen_at d') share' → HoldsAll (seen_at d') share'
      turn_holds d d' l (Says line) (Things has) (Said answer) (Things has') m all goes =
          line_held (library_of (seat d)) (seen_at d).out (seen_at d').out has has' m.calls answer all (leaves m.calls d d' l m.made) line.line m.comes
      turn_holds d d' l Ends (Things has) (Ended end) (Things has') m all goes =
          subst (HasAll (seen_at d').out) (sym m.1) (end_held has m.0.calls end (seen_at d).out (seen_at d').out all m.0.comes (leaves m.0.calls d d' l m.0.made))
      turn_holds d d' l (SaysHonest line) (InSession s) (Said answer) (InSession s') m all goes = goes
      turn_holds d d' l Ends (InSession s) (Ended end) (InSession s') m all goes = goes
      turn_holds d d' l turn share answer share' m all goes = absurd m

      -- a turn at the desk of a seat, which may be let go then
      module _ (d d' : D) (sh : Shared) (old : LibSeat Held) (of : shared d ≡ sh) (at : seat d ≡ old) (sits : Sits sh old) (turn : Turn) (o : Option Turn) (there : o ≡ Some turn) (share share' : Share) (told told' : Heard) (took : TurnTaken called seen_at o d share told d' share' told') where
        taken : TurnTaken called seen_at (Some turn) d share told d' share' told'
        taken = subst (λ t. TurnTaken called seen_at t d share told d' share' told') there took

        left : IsLeft d
        left = left_of d sh old at sits

        goes_on : (calls : List Call) → (g' : Going) × TurnGoes turn (record { seat = seated (seat d); calls = calls }) share told g' share' told' × Stands (shared d) (name d) (library_of (seat d)) d' g'
        goes_on calls = turn_goes d d' calls left turn share taken.0 share' told told' taken.1 taken.2

        pub turn_name : name d' ≡ name d
        turn_name = (goes_on []).2.same_name

        pub turn_took : (new : LibSeat Held) → new ≡ seat d' → IsSeatOf (shared d') (seat d') → IsIdle (seat d') → HoldsAll (desk old) share → GoesOn (seen_at d') share' → TookAtSeat sh turn old share told new share' told'
        turn_took new to is_seat is_idle all goes =
            subst (λ (x : LibSeat Held). TookAtSeat sh turn old share told x share' told') (sym to)
            (subst (λ (x : LibSeat Held). TookAtSeat sh turn x share told (seat d') share' told') at
            (record {
              went = went_one sh turn (seat d) share told (seat d') share' told'
                  (λ calls.
                  let g = goes_on calls in
                  (g.0.calls, subst (λ (x : Seated). TurnGoes turn (record { seat = seated (seat d); calls = calls }) share told (record { seat = x; calls = g.0.calls }) share' told') (sym g.2.at) g.1))
                  (record {
                    is_seat = subst (λ (x : Shared). IsSeatOf x (seat d')) ((goes_on []).2.same_shared ∙ of) is_seat;
                    is_idle = is_idle;
                    state = (goes_on []).2.left.state;
                    left = (goes_on []).2.left.left;
                  })
                  (ap (λ (l : LibNo). l.0) (goes_on []).2.same_lib);
              may = (goes, turn_holds d d' left turn share taken.0 share' taken.1 (subst (λ (x : LibSeat Held). HoldsAll (desk x) share) (sym at) all) goes);
            }))

      -- after a turn, or where none is left, the reference to the seat is the same
      pub name_stays : (d d' : D) (sh : Shared) (old : LibSeat Held) → shared d ≡ sh → seat d ≡ old → Sits sh old → (o : Option Turn) (share share' : Share) (told told' : Heard) → TurnTaken called seen_at o d share told d' share' told' → name d' ≡ name d
      name_stays d d' sh old of at sits None share share' told told' took = ap name took.0
      name_stays d d' sh old of at sits (Some turn) share share' told told' took = turn_name d d' sh old of at sits turn (Some turn) refl share share' told told' took
