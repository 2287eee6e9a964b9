-- Turns of a round, one library after another.
use Rattle.trio_runner.proofs.Words.{◌++◌, ◌+◌, ◌-◌, ◌<◌, ◌∙◌, ◌∷◌, ◌≡◌, ◌≤◌, AreAsTold, AreNew, AreSeated, AtStart, BeginsWith, Controller, Creds, DeskSeen, Ends, GoesOn, Has, HasAll, HasClosed, Heard, HoldsAll, HonestLine, HonestLines, In, InSession, IsClosed, IsHeld, IsLibrary, Kept, LibNo, Lines, LinesWithin, List, Move, None, Noted, Option, Placed, Players, Plays, RawLines, ScriptLib, ScriptLine, Share, Shown, Some, State, Suits, TakesTurn, Things, Took, TookNext, TookTurn, Turn, TurnComes, [], ap, append-nil, append_assoc, arith, both_ways, cases_Bool, course, courses_from, creds_in, desk_of, eq-eqb, eqb, eqb-true, file_numbers, flat_map-append, get_or, in_rounds, inl, inr, length, length-map, length-set, line_turns, map, map-In, nothing, option_map, out_of, placed, refl, round_of, set, share_of, slice_get, start, subst, suc, sym, table, tabulated, take, take-suc, told_to, turn_list, turns_of, unnoted, untold, whole_parcel, zero, ℕ}
use Rattle.std.proofs.Common.{length-take-le}
use Rattle.std.proofs.lemmas.List.{get_or-map, get_or_default, set-get_or}
use Rattle.trio_lists.proofs.Tabulated.{tabulated-length}
use Rattle.trio_ctl.proofs.DeskSteps.{holds_stand}
use Rattle.trio_script.specs.Within.{AreWithin, SaysWithin}
use Rattle.trio_runner.specs.Seen.{ScriptPlayed}
use Rattle.trio_runner.specs.inner.Ready.{AllSuit, IsReady, Table, players}
use Rattle.trio_runner.proofs.EndFree.{script_library, start_stands}
use Rattle.trio_runner.proofs.Held.{held_after, library_before, other_after, others_seen, own_after, same_creds, same_library}
use Rattle.trio_runner.proofs.Calling.{nothing_on_list}
use Rattle.trio_runner.proofs.Orders.{course_turn}
use Rattle.trio_runner.proofs.Plays.{plays_more}

-- an element put where it stands changes nothing
set_is : {X : Type 0} (xs : List X) (at : ℕ) (x y : X) → x ≡ y → y ≡ get_or xs at y → set xs at x ≡ xs
set_is xs at x y e there = ap (set xs at) (e ∙ there) ∙ set-get_or xs at y

-- ---- between turns

-- all that a library has is closed, since it has all that is out to it
all_closed : (s : State) (lib : LibNo) (has : Has) → Kept s → AreAsTold s → HasAll (out_of s lib) has → IsClosed (out_of s lib) (whole_parcel has)
all_closed s lib has kept told all h i =
    let parent = holds_stand s lib h kept told i in
    let w = map-In (λ (x : Shown). x.ino) h.parent (out_of s lib).writes parent in
    ((λ x. subst (λ n. In n (file_numbers has.writes)) (sym w.2) (all.writes w.0 w.1)), (λ x. all.holds h i))

pub share_closed : (s : State) (lib : LibNo) (share : Share) → Kept s → AreAsTold s → HoldsAll (desk_of s lib) share → HasClosed (desk_of s lib) share
share_closed s lib (Things has) kept told all = all_closed s lib has kept told all
share_closed s lib (InSession x) kept told all = tt

pub ready_after : (p : Players) (t : Placed) (moves : List Move) (p' : Players) → IsReady p → IsLibrary t.lib p.state → (takes : TakesTurn p t moves p') → GoesOn (desk_of p'.state t.lib) takes.share' → IsReady p'
ready_after p t moves p' h is takes goes = record {
  held = held_after p t moves p' h.held is takes;
  goes = λ other there. elim (cases_Bool (eqb other.0 t.lib.0)) [
    | inl e ↦
        subst (λ l. GoesOn (desk_of p'.state l) (share_of p' l)) (sym (same_library other t.lib (eqb-true other.0 t.lib.0 e)))
        (subst (GoesOn (desk_of p'.state t.lib)) (sym (own_after p t moves p' h.held is takes)) goes)
    | inr f ↦
        (let apart : other.0 ≡ t.lib.0 → ⊥ = λ e. both_ways (eqb other.0 t.lib.0) f (eq-eqb other.0 t.lib.0 e) in
        let before = library_before other p.state p'.state (same_creds p t moves p' takes) there in
        subst (λ (d : DeskSeen). GoesOn d (share_of p' other)) (sym (others_seen p t moves p' other h.held apart takes))
        (subst (GoesOn (desk_of p.state other)) (sym (other_after p t moves p' other is.0 before.0 apart takes)) (h.goes other before)))
  ];
}

-- ---- turns, and more turns

pub plays_append : (p : Players) (xs : List Placed) (moves : List Move) (q : Players) (ys : List Placed) (more : List Move) (r : Players) → Plays p xs moves q → Plays q ys more r → Plays p (xs ++ ys) (moves ++ more) r
plays_append p [] moves q ys more r one two =
    subst (λ l. Plays p ys (l ++ more) r) (sym one.0) (subst (λ x. Plays x ys more r) one.1 two)
plays_append p (t ∷ xs) moves q ys more r one two = record {
  first = one.first;
  middle = one.middle;
  others = one.others ++ more;
  takes = one.takes;
  rest = plays_append one.middle xs one.others q ys more r one.rest two;
  moves_are = ap (λ l. l ++ more) one.moves_are ∙ append_assoc one.first one.others more;
}

pub took_none : (a : Table) → IsReady a.players → Took a [] a
took_none a h = record { moves = []; plays = (refl, refl); first = refl; begun = refl; ready = h }

pub took_more : (a : Table) (xs : List Placed) (b : Table) (ys : List Placed) (c : Table) → Took a xs b → Took b ys c → Took a (xs ++ ys) c
took_more a xs b ys c one two = record {
  moves = one.moves ++ two.moves;
  plays = plays_append a.players xs one.moves b.players ys two.moves c.players one.plays two.plays;
  first = two.first ∙ one.first;
  begun = two.begun ∙ one.begun;
  ready = two.ready;
}

took_one : (a : Table) (t : Placed) (moves : List Move) (b : Table) → IsReady a.players → IsLibrary t.lib a.players.state → (takes : TakesTurn a.players t moves b.players) → b.first ≡ a.first → b.begun ≡ a.begun → GoesOn (desk_of b.players.state t.lib) takes.share' → Took a (t ∷ []) b
took_one a t moves b h is takes first begun on = record {
  moves = moves;
  plays = plays_more a.players [] [] a.players t moves b.players (refl, refl) takes;
  first = first;
  begun = begun;
  ready = ready_after a.players t moves b.players h is takes on;
}

-- so many rounds, and one more
pub rounds_more : (k : ℕ) (courses : List (List Placed)) → in_rounds (k + 1) courses ≡ in_rounds k courses ++ round_of k courses
rounds_more k courses = (let e : k + 1 ≡ suc k = omega arith in ap (λ n. in_rounds n courses) e)

-- ---- the limits of calls

-- each library of those within the limits is
pub lib_within : (libs : List ScriptLib) (at : ℕ) (l : ScriptLib) → at < length libs → l ≡ get_or libs at l → AreWithin libs → LinesWithin l.lines
lib_within [] at l lt is h = absurd (omega (arith, lt))
lib_within (x ∷ libs) zero l lt is h = subst (λ (y : ScriptLib). LinesWithin y.lines) (sym is) h.0
lib_within (x ∷ libs) (suc at) l lt is h = lib_within libs at l (omega (arith, lt)) is h.1

-- and each line of an honest one is
pub line_within : (lines : List (ScriptLine HonestLine)) (at : ℕ) (line : ScriptLine HonestLine) → slice_get lines at ≡ Some line → LinesWithin (HonestLines lines) → SaysWithin line.line
line_within [] at line e h = absurd (cc e)
line_within (l ∷ lines) zero line e h =
    let same : l ≡ line = cc e in
    subst (λ (x : ScriptLine HonestLine). SaysWithin x.line) same h.0
line_within (l ∷ lines) (suc at) line e h = line_within lines at line e h.1

-- ---- what libraries have suits their lines

suit_count : (libs : List ScriptLib) (shares : List Share) → AllSuit libs shares → length shares ≡ length libs
suit_count [] [] h = refl
suit_count [] (s ∷ shares) h = absurd h
suit_count (l ∷ libs) [] h = absurd h
suit_count (l ∷ libs) (s ∷ shares) h = ap suc (suit_count libs shares h.1)

suit_at : (libs : List ScriptLib) (shares : List Share) (at : ℕ) (l : ScriptLib) (s : Share) → at < length libs → l ≡ get_or libs at l → s ≡ get_or shares at s → AllSuit libs shares → Suits l.lines s
suit_at [] shares at l s lt is there h = absurd (omega (arith, lt))
suit_at (x ∷ libs) [] at l s lt is there h = absurd h
suit_at (x ∷ libs) (y ∷ shares) zero l s lt is there h = subst (λ (z : ScriptLib). Suits z.lines s) (sym is) (subst (Suits x.lines) (sym there) h.0)
suit_at (x ∷ libs) (y ∷ shares) (suc at) l s lt is there h = suit_at libs shares at l s (omega (arith, lt)) is there h.1

suit_set : (libs : List ScriptLib) (shares : List Share) (at : ℕ) (l : ScriptLib) (s : Share) → at < length libs → l ≡ get_or libs at l → Suits l.lines s → AllSuit libs shares → AllSuit libs (set shares at s)
suit_set [] shares at l s lt is suits h = absurd (omega (arith, lt))
suit_set (x ∷ libs) [] at l s lt is suits h = absurd h
suit_set (x ∷ libs) (y ∷ shares) zero l s lt is suits h = (subst (λ (z : ScriptLib). Suits z.lines s) is suits, h.1)
suit_set (x ∷ libs) (y ∷ shares) (suc at) l s lt is suits h = (h.0, suit_set libs shares at l s (omega (arith, lt)) is suits h.1)

-- what a library begins with suits its lines
pub begins_suits : (lib : LibNo) (creds : Creds) (lines : Lines) (share : Share) → BeginsWith lib creds lines share → Suits lines share
begins_suits lib creds (RawLines lines) share b = subst (Suits (RawLines lines)) (sym b) tt
begins_suits lib creds (HonestLines lines) share b = subst (Suits (HonestLines lines)) (sym b.1) tt

-- ---- places

module _ (libs : List ScriptLib) (shares : List Share) (tolds : List Heard) (seated : AreSeated libs shares tolds) where
  pub all_count : length shares ≡ length libs
  all_count = suit_count libs shares seated.suit

  module _ (at : ℕ) (within : at < length libs) (l : ScriptLib) (is : l ≡ get_or libs at l) (s : Share) (there : s ≡ get_or shares at s) (t : Heard) (told : t ≡ get_or tolds at t) where
    in_all : at < length shares
    in_all = subst (λ n. at < n) (sym all_count) within

    in_tolds : at < length tolds
    in_tolds = subst (λ n. at < n) (sym seated.told_count) within

    -- what the library has suits its lines
    pub seat_suits : Suits l.lines s
    seat_suits = suit_at libs shares at l s within is there seated.suit

    -- its number
    abbrev own : LibNo
    own = record { 0 = at + 1 }

    seat_place : (at + 1) - 1 ≡ at
    seat_place = omega arith

    module _ (x : Controller) where
      seat_share : share_of (players x shares tolds) own ≡ s
      seat_share = ap (λ n. get_or shares n (Things nothing)) seat_place ∙ get_or_default shares at (Things nothing) s in_all ∙ sym there

      seat_told : told_to (players x shares tolds) own ≡ t
      seat_told = ap (λ n. get_or tolds n untold) seat_place ∙ get_or_default tolds at untold t in_tolds ∙ sym told

      module _ (ready : IsReady (players x shares tolds)) where
        pub seat_library : IsLibrary own x.state
        seat_library =
            let places : length shares ≡ length x.state.creds = ready.held.places in
            let lt : at < length shares = in_all in
            (omega arith, omega (arith, places, lt))

        pub seat_goes : GoesOn (desk_of x.state own) s
        seat_goes = subst (GoesOn (desk_of x.state own)) seat_share (ready.goes own seat_library)

        pub seat_closed : HasClosed (desk_of x.state own) s
        seat_closed =
            share_closed x.state own s ready.held.kept ready.held.as_told
            (subst (HoldsAll (desk_of x.state own)) seat_share (ready.held.all own seat_library))

        -- one library's turn
        module _ (x' : Controller) (s' : Share) (t' : Heard) where
          abbrev before : Table
          before = table x shares tolds

          abbrev pub after : Table
          after = table x' (set shares at s') (set tolds at t')

          seat_took : (turn : Turn) → TookTurn own turn x s t x' s' t' → Took before (placed (at + 1) turn ∷ []) after
          seat_took turn took =
              let then' : Noted = record { state = x'.state; calls = took.calls; moves = took.moves } in
              took_one before (placed (at + 1) turn) took.moves after ready seat_library
              (record {
                calls = took.calls;
                share' = s';
                told' = t';
                comes = subst (λ y. TurnComes own turn (unnoted x.state) y (told_to (players x shares tolds) own) then' s' t') (sym seat_share)
                    (subst (λ y. TurnComes own turn (unnoted x.state) s y then' s' t') (sym seat_told) took.comes);
                happen = took.happen;
                log_is = took.log_is;
                shares_are = ap (λ n. set shares n s') (sym seat_place);
                told_is = ap (λ n. set tolds n t') (sym seat_place);
              }) took.first took.begun took.goes

          -- it was passed over
          seat_same : x' ≡ x → s' ≡ s → t' ≡ t → after ≡ before
          seat_same a b c =
              let same : set shares at s' ≡ shares = set_is shares at s' s b there in
              let heard : set tolds at t' ≡ tolds = set_is tolds at t' t c told in
              ap (λ (y : Controller). table y (set shares at s') (set tolds at t')) a
              ∙ ap (λ (ss : List Share). table x ss (set tolds at t')) same
              ∙ ap (table x shares) heard

          pub seat_next : (turns : List Turn) (round : ℕ) → TookNext own (slice_get (turns ++ Ends ∷ []) round) x s t x' s' t' → Took before (turn_list (slice_get (course (at + 1) turns) round)) after
          seat_next turns round next = subst (λ o. Took before (turn_list o) after) (sym (course_turn (at + 1) turns round)) (by (slice_get (turns ++ Ends ∷ []) round) next)
            where
              by : (o : Option Turn) → TookNext own o x s t x' s' t' → Took before (turn_list (option_map (placed (at + 1)) o)) after
              by None n = subst (Took before []) (sym (seat_same n.0 n.1 n.2)) (took_none before ready)
              by (Some turn) n = seat_took turn n

          pub seated_after : Suits l.lines s' → AreSeated libs (set shares at s') (set tolds at t')
          seated_after suits = record {
            suit = suit_set libs shares at l s' within is suits seated.suit;
            told_count = length-set tolds at t' ∙ seated.told_count;
          }

-- what a library has, where the library stands
pub placed_at : {X : Type 0} (share : X → Share) (libs : List ScriptLib) (all : List X) (tolds : List Heard) → AreSeated libs (map share all) tolds → (at : ℕ) → at < length libs → (p : X) → p ≡ get_or all at p → share p ≡ get_or (map share all) at (share p)
placed_at share libs all tolds seated at lt p there =
    let count = all_count libs (map share all) tolds seated in
    let many = length-map all share in
    ap share there ∙ sym (get_or-map share all at p (share p) (omega (arith, lt, count, many)))

-- ---- a round

pub courses_length : (m : ℕ) (libs : List ScriptLib) → length (courses_from m libs) ≡ length libs
courses_length m [] = refl
courses_length m (l ∷ libs) = ap suc (courses_length (m + 1) libs)

course_at : (m at : ℕ) (libs : List ScriptLib) (l : ScriptLib) (d : List Placed) → at < length libs → l ≡ get_or libs at l → get_or (courses_from m libs) at d ≡ course (m + at) (line_turns l.lines)
course_at m at [] l d lt is = absurd (omega (arith, lt))
course_at m zero (x ∷ libs) l d lt is =
    let n : m ≡ m + 0 = omega arith in ap (λ k. course k (line_turns x.lines)) n ∙ ap (λ (y : ScriptLib). course (m + 0) (line_turns y.lines)) (sym is)
course_at m (suc at) (x ∷ libs) l d lt is =
    let n : (m + 1) + at ≡ m + suc at = omega arith in
    course_at (m + 1) at libs l d (omega (arith, lt)) is ∙ ap (λ k. course k (line_turns l.lines)) n

-- the turns of a round up to one library's, and that one
pub round_more : (k at : ℕ) (libs : List ScriptLib) (l : ScriptLib) → at < length libs → l ≡ get_or libs at l → round_of k (take (at + 1) (courses_from 1 libs)) ≡ round_of k (take at (courses_from 1 libs)) ++ turn_list (slice_get (course (at + 1) (line_turns l.lines)) k)
round_more k at libs l lt is =
    let courses : List (List Placed) = courses_from 1 libs in
    let n : at + 1 ≡ suc at = omega arith in
    let one : 1 + at ≡ at + 1 = omega arith in
    let own : List Placed = course (at + 1) (line_turns l.lines) in
    let turns : List Placed → List Placed = λ (c : List Placed). turn_list (slice_get c k) in
    ap (λ j. round_of k (take j courses)) n
    ∙ ap (round_of k) (take-suc courses at [] (subst (λ j. at < j) (sym (courses_length 1 libs)) lt))
    ∙ ap (λ c. round_of k (take at courses ++ c ∷ [])) (course_at 1 at libs l [] lt is ∙ ap (λ j. course j (line_turns l.lines)) one)
    ∙ flat_map-append turns (take at courses) (own ∷ [])
    ∙ ap (λ x. round_of k (take at courses) ++ x) (append-nil (turns own))

-- ---- a whole script

same_ends : {Y : Type 0} (y : Y) (n : ℕ) → y ∷ tabulated (λ k. y) n ≡ tabulated (λ k. y) n ++ y ∷ []
same_ends y zero = refl
same_ends y (suc n) = ap (λ l. l ++ y ∷ []) (same_ends y n)

same_each : {X Y : Type 0} (y : Y) (xs : List X) → tabulated (λ k. y) (length xs) ≡ map (λ x. y) xs
same_each y [] = refl
same_each y (x ∷ xs) = sym (same_ends y (length xs)) ∙ ap (λ l. y ∷ l) (same_each y xs)

-- ---- new libraries

new_more : (n : ℕ) (libs : List ScriptLib) (shares : List Share) (l : ScriptLib) (s : Share) → AreNew n libs shares → BeginsWith (record { 0 = n + length libs }) l.creds l.lines s → AreNew n (libs ++ l ∷ []) (shares ++ s ∷ [])
new_more n [] [] l s a is = (let e : n + 0 ≡ n = omega arith in subst (λ m. BeginsWith (record { 0 = m }) l.creds l.lines s) e is, tt)
new_more n [] (q ∷ shares) l s a is = absurd a
new_more n (k ∷ libs) [] l s a is = absurd a
new_more n (k ∷ libs) (q ∷ shares) l s a is = (
  a.0,
  new_more (n + 1) libs shares l s a.1
      (let e : n + suc (length libs) ≡ (n + 1) + length libs = omega arith in subst (λ m. BeginsWith (record { 0 = m }) l.creds l.lines s) e is),
)

-- the next one is made
pub new_next : (libs : List ScriptLib) (shares : List Share) (at : ℕ) (l : ScriptLib) (s : Share) → at < length libs → l ≡ get_or libs at l → AreNew 1 (take at libs) shares → BeginsWith (record { 0 = at + 1 }) l.creds l.lines s → AreNew 1 (take (at + 1) libs) (shares ++ s ∷ [])
new_next libs shares at l s lt is a new =
    let n : at + 1 ≡ suc at = omega arith in
    let long : length (take at libs) ≡ at = length-take-le at libs (omega (arith, lt)) in
    let number : at + 1 ≡ 1 + length (take at libs) = omega (arith, long) in
    subst (λ (x : List ScriptLib). AreNew 1 x (shares ++ s ∷ [])) (sym (ap (λ m. take m libs) n ∙ take-suc libs at l lt ∙ ap (λ y. take at libs ++ y ∷ []) (sym is)))
    (new_more 1 (take at libs) shares l s a (subst (λ m. BeginsWith (record { 0 = m }) l.creds l.lines s) number new))

new_suit : (n : ℕ) (libs : List ScriptLib) (shares : List Share) → AreNew n libs shares → AllSuit libs shares
new_suit n [] [] a = tt
new_suit n [] (s ∷ shares) a = absurd a
new_suit n (l ∷ libs) [] a = absurd a
new_suit n (l ∷ libs) (s ∷ shares) a = (begins_suits (record { 0 = n }) l.creds l.lines s a.0, new_suit (n + 1) libs shares a.1)

new_share : (n : ℕ) (libs : List ScriptLib) (shares : List Share) (k : ℕ) (l : ScriptLib) → AreNew n libs shares → slice_get libs k ≡ Some l → BeginsWith (record { 0 = n + k }) l.creds l.lines (get_or shares k (Things nothing))
new_share n [] shares k l a e = absurd (cc e)
new_share n (x ∷ libs) [] k l a e = absurd a
new_share n (x ∷ libs) (s ∷ shares) zero l a e =
    let same : x ≡ l = cc e in
    let m : n ≡ n + 0 = omega arith in
    subst (λ (y : ScriptLib). BeginsWith (record { 0 = n + 0 }) y.creds y.lines s) same
    (subst (λ i. BeginsWith (record { 0 = i }) x.creds x.lines s) m a.0)
new_share n (x ∷ libs) (s ∷ shares) (suc k) l a e =
    let m : (n + 1) + k ≡ n + suc k = omega arith in
    subst (λ i. BeginsWith (record { 0 = i }) l.creds l.lines (get_or shares k (Things nothing))) m (new_share (n + 1) libs shares k l a.1 e)

-- ---- a script begins

-- a library may go on from what it begins with
pub begun_goes : (d : DeskSeen) (lib : LibNo) (creds : Creds) (lines : Lines) (share : Share) → BeginsWith lib creds lines share → HoldsAll d share → GoesOn d share
begun_goes d lib creds (RawLines lines) share b h = subst (GoesOn d) (sym b) (nothing_on_list d.out)
begun_goes d lib creds (HonestLines lines) share b h = subst (GoesOn d) (sym b.1) (subst (HoldsAll d) b.1 h)

module _ (x : Controller) (libs : List ScriptLib) (shares : List Share) (tolds : List Heard) (new : AreNew 1 libs shares) (none : tolds ≡ tabulated (λ k. untold) (length libs)) where
  pub players_seated : AreSeated libs shares tolds
  players_seated = record {
    suit = new_suit 1 libs shares new;
    told_count = ap length none ∙ tabulated-length (λ k. untold) (length libs);
  }

  module _ (started : x.state ≡ start x.state.home (creds_in libs)) (unlogged : x.log ≡ []) where
    script_start : AtStart x.state.home libs (players x shares tolds)
    script_start = record {
      state = started;
      log = unlogged;
      places = suit_count libs shares (new_suit 1 libs shares new);
      begins = λ lib l is.
          let low : 1 ≤ lib.0 = is.0 in
          let number : 1 + (lib.0 - 1) ≡ lib.0 = omega (arith, low) in
          subst (λ n. BeginsWith (record { 0 = n }) l.creds l.lines (share_of (players x shares tolds) lib)) number (new_share 1 libs shares (lib.0 - 1) l new is.1);
      told = none ∙ same_each untold libs;
    }

    pub players_ready : Kept x.state → IsReady (players x shares tolds)
    players_ready kept =
        let held : IsHeld (players x shares tolds) = start_stands x.state.home libs (players x shares tolds) script_start (subst Kept started kept) in
        record {
          held = held;
          goes = λ lib is.
              let l = script_library x.state.home libs lib (subst (λ s. IsLibrary lib s) started is) in
              begun_goes (desk_of x.state lib) lib l.0.creds l.0.lines (share_of (players x shares tolds) lib) (script_start.begins lib l.0 l.1) (held.all lib is);
        }

    pub script_played : (x' : Controller) (shares' : List Share) (tolds' : List Heard) → Took (table x shares tolds) (turns_of libs) (table x' shares' tolds') → ScriptPlayed x.state.home libs tolds' x'.state x'.log
    script_played x' shares' tolds' took = record {
      played = record { first = players x shares tolds; begins = script_start; moves = took.moves; last = players x' shares' tolds'; plays = took.plays };
      told = refl;
      last = refl;
      log_is = refl;
    }
