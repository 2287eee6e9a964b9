-- What a library was told in rounds prints the entries that it made.
use Rattle.trio_runner.proofs.Words.{◌++◌, ◌+◌, ◌-◌, ◌<◌, ◌∙◌, ◌∷◌, ◌≡◌, ◌≤◌, AreMoves, AtStart, BeginsWith, Bool, Creds, Ends, Entry, Heard, In, InSession, LibNo, Lines, List, Move, Noted, Notes, Placed, Players, Plays, Prints, Says, SaysHonest, Share, State, TakesTurn, Things, Turn, TurnComes, [], ap, append-nil, arith, both_ways, cond, course, entries_by, entries_of, eq-eqb, eqb, false, get_or, inl, inr, length, length-map, length-set, line_turns, map, nothing, placed, refl, sees, share_of, slice_get_within, subst, suc, sym, told_to, true, turns_of, unnoted, untold, zero, ℕ}
use Rattle.trio_runner.specs.PlayLaws.{PlayedIsPrinted}
use Rattle.trio_runner.proofs.Batches.{HonestMade, SettleMade, honest_makes, settle_makes}
use Rattle.trio_runner.proofs.Entries.{Since, by-append, by_other, by_own, moves_by, moves_make, notes_make}
use Rattle.trio_runner.proofs.Printing.{Before, TurnMakes, begins_before, end_leads, end_makes, line_leads, line_makes}
use Rattle.trio_runner.proofs.Held.{noted_of, set_other, set_own}
use Rattle.trio_runner.proofs.Orders.{own_turns, turns_own, turns_within}

-- ---- turns

-- the entries that a turn makes of the controller's state
turn_makes : (lib : LibNo) (turn : Turn) (s : State) (share : Share) (told : Heard) (d' : Noted) (share' : Share) (told' : Heard) → TurnComes lib turn (unnoted s) share told d' share' told' → AreMoves lib s d'.calls d'.moves d'.state
    → TurnMakes turn share told (entries_of lib d'.calls d'.moves) share' told'
turn_makes lib (Says line) s (Things has) told d' (Things has') told' c am =
    line_makes lib line has told d'.calls c.0 (entries_of lib d'.calls d'.moves) has' told' c.1 c.2 (moves_make lib s d'.calls d'.moves d'.state am)
turn_makes lib (SaysHonest line) s (InSession x) told d' (InSession x') told' c am =
    (let made = honest_makes lib (Notes lib) (sees lib) (Since lib s) (notes_make lib s) (unnoted s) d' x x' (refl, refl) line.line c.0 c.1 in
    (c.0, subst (HonestMade x x' line.line c.0) (sym made.1.1) made.2, c.2))
turn_makes lib Ends s (Things has) told d' (Things has') told' c am =
    end_makes lib has told d'.calls c.0 (entries_of lib d'.calls d'.moves) has' told' c.1 c.3 (moves_make lib s d'.calls d'.moves d'.state am)
turn_makes lib Ends s (InSession x) told d' (InSession x') told' c am =
    (let made = settle_makes lib (Notes lib) (sees lib) (Since lib s) (notes_make lib s) (unnoted s) d' x x' (refl, refl) c.0 in
    (subst (SettleMade x.calls) (sym made.1.1) made.2, c.1))
turn_makes lib turn s share told d' share' told' c am = absurd c

module _ (p : Players) (t : Placed) (moves : List Move) (p' : Players) (takes : TakesTurn p t moves p') where
  as_many : length p'.told ≡ length p.told
  as_many = ap length takes.told_is ∙ length-set p.told (t.lib.0 - 1) takes.told'

  as_many_shares : length p'.shares ≡ length p.shares
  as_many_shares = ap length takes.shares_are ∙ length-set p.shares (t.lib.0 - 1) takes.share'

  own_told : 1 ≤ t.lib.0 → t.lib.0 ≤ length p.told → told_to p' t.lib ≡ takes.told'
  own_told low high = ap (λ (l : List Heard). get_or l (t.lib.0 - 1) untold) takes.told_is ∙ set_own p.told t.lib takes.told' untold low high

  own_share : 1 ≤ t.lib.0 → t.lib.0 ≤ length p.shares → share_of p' t.lib ≡ takes.share'
  own_share low high = ap (λ (l : List Share). get_or l (t.lib.0 - 1) (Things nothing)) takes.shares_are ∙ set_own p.shares t.lib takes.share' (Things nothing) low high

  own_log : entries_by t.lib p'.log ≡ entries_by t.lib p.log ++ entries_of t.lib takes.calls moves
  own_log =
      ap (entries_by t.lib) takes.log_is
      ∙ by-append t.lib p.log (entries_of t.lib takes.calls moves)
      ∙ ap (λ l. entries_by t.lib p.log ++ l) (by_own t.lib (entries_of t.lib takes.calls moves) (moves_by t.lib takes.calls moves))

  module _ (other : LibNo) (apart : other.0 ≡ t.lib.0 → ⊥) where
    other_told : 1 ≤ t.lib.0 → 1 ≤ other.0 → told_to p' other ≡ told_to p other
    other_told low other_low = ap (λ (l : List Heard). get_or l (other.0 - 1) untold) takes.told_is ∙ set_other p.told t.lib other takes.told' untold low other_low apart

    other_share : 1 ≤ t.lib.0 → 1 ≤ other.0 → share_of p' other ≡ share_of p other
    other_share low other_low = ap (λ (l : List Share). get_or l (other.0 - 1) (Things nothing)) takes.shares_are ∙ set_other p.shares t.lib other takes.share' (Things nothing) low other_low apart

    other_log : entries_by other p'.log ≡ entries_by other p.log
    other_log =
        ap (entries_by other) takes.log_is
        ∙ by-append other p.log (entries_of t.lib takes.calls moves)
        ∙ ap (λ l. entries_by other p.log ++ l) (by_other t.lib other (entries_of t.lib takes.calls moves) (moves_by t.lib takes.calls moves) (λ e. apart (sym e)))
        ∙ append-nil (entries_by other p.log)

-- ---- a course

abbrev AreNumbered : List Placed → Type 0
AreNumbered turns = (t : Placed) → In t turns → 1 ≤ t.lib.0

-- nothing was told to the library, nor does it have an entry more
record HeardNone (lib : LibNo) (p p' : Players) : Type 0 where
  told : told_to p' lib ≡ told_to p lib
  log : entries_by lib p'.log ≡ entries_by lib p.log

plays_others : (p : Players) (turns : List Placed) (moves : List Move) (p' : Players) (lib : LibNo) → 1 ≤ lib.0 → AreNumbered turns → own_turns lib.0 turns ≡ [] → Plays p turns moves p' → HeardNone lib p p'
plays_others p [] moves p' lib low numbered none plays = record { told = ap (λ q. told_to q lib) plays.1; log = ap (λ (q : Players). entries_by lib q.log) plays.1 }
plays_others p (t ∷ turns) moves p' lib low numbered none plays =
    by (eqb t.lib.0 lib.0) refl none (λ others. plays_others plays.middle turns plays.others p' lib low (λ u i. numbered u (inr i)) others plays.rest)
  where
    by : (b : Bool) → eqb t.lib.0 lib.0 ≡ b → cond b (t ∷ own_turns lib.0 turns) (own_turns lib.0 turns) ≡ [] → (own_turns lib.0 turns ≡ [] → HeardNone lib plays.middle p') → HeardNone lib p p'
    by true e none rest = absurd (cc none)
    by false f none rest =
        let apart : lib.0 ≡ t.lib.0 → ⊥ = λ e. both_ways (eqb t.lib.0 lib.0) f (eq-eqb t.lib.0 lib.0 (sym e)) in
        record {
          told = (rest none).told ∙ other_told p t plays.first plays.middle plays.takes lib apart (numbered t (inl refl)) low;
          log = (rest none).log ∙ other_log p t plays.first plays.middle plays.takes lib apart;
        }

-- a library of a script, by its lines
module _ (lib : LibNo) (lines : Lines) where
  abbrev Now : List Turn → Players → Type 0
  Now left p = Before lines left (share_of p lib) (told_to p lib) (entries_by lib p.log)

  abbrev Then : Players → Type 0
  Then p = Prints lines (told_to p lib) (entries_by lib p.log)

  -- its own turn
  module _ (p : Players) (t : Placed) (moves : List Move) (p' : Players) (takes : TakesTurn p t moves p') (is : t.lib ≡ lib) (low : 1 ≤ lib.0) (high : lib.0 ≤ length p.told) (places : lib.0 ≤ length p.shares) where
    own_comes : TurnMakes t.turn (share_of p lib) (told_to p lib) (entries_of lib takes.calls moves) takes.share' takes.told'
    own_comes =
        subst (λ l. TurnMakes t.turn (share_of p l) (told_to p l) (entries_of l takes.calls moves) takes.share' takes.told') is
        (turn_makes t.lib t.turn p.state (share_of p t.lib) (told_to p t.lib) (noted_of p' takes.calls moves) takes.share' takes.told' takes.comes takes.happen)

    low_own : 1 ≤ t.lib.0
    low_own = subst (λ (l : LibNo). 1 ≤ l.0) (sym is) low

    then_told : told_to p' lib ≡ takes.told'
    then_told = ap (told_to p') (sym is) ∙ own_told p t moves p' takes low_own (subst (λ (l : LibNo). l.0 ≤ length p.told) (sym is) high)

    then_share : share_of p' lib ≡ takes.share'
    then_share = ap (share_of p') (sym is) ∙ own_share p t moves p' takes low_own (subst (λ (l : LibNo). l.0 ≤ length p.shares) (sym is) places)

    then_log : entries_by lib p'.log ≡ entries_by lib p.log ++ entries_of lib takes.calls moves
    then_log = subst (λ l. entries_by l p'.log ≡ entries_by l p.log ++ entries_of l takes.calls moves) is (own_log p t moves p' takes)

    abbrev made : List Entry
    made = entries_of lib takes.calls moves

    line_taken : (turn : Turn) (left : List Turn) → t.turn ≡ turn → Now (turn ∷ left) p → Now left p'
    line_taken turn left e now =
        let c = subst (λ u. TurnMakes u (share_of p lib) (told_to p lib) made takes.share' takes.told') e own_comes in
        let next = line_leads lines turn left (share_of p lib) (told_to p lib) (entries_by lib p.log) made takes.share' takes.told' now c in
        subst (λ x. Before lines left x (told_to p' lib) (entries_by lib p'.log)) (sym then_share)
        (subst (λ x. Before lines left takes.share' x (entries_by lib p'.log)) (sym then_told)
        (subst (λ x. Before lines left takes.share' takes.told' x) (sym then_log) next))

    end_taken : t.turn ≡ Ends → Now [] p → Then p'
    end_taken e now =
        let c = subst (λ u. TurnMakes u (share_of p lib) (told_to p lib) made takes.share' takes.told') e own_comes in
        let next = end_leads lines (share_of p lib) (told_to p lib) (entries_by lib p.log) made takes.share' takes.told' now c in
        subst (λ x. Prints lines x (entries_by lib p'.log)) (sym then_told) (subst (Prints lines takes.told') (sym then_log) next)

  -- a library's turns, among those of others
  plays_prints : (p : Players) (turns : List Placed) (moves : List Move) (p' : Players) (left : List Turn) → 1 ≤ lib.0 → lib.0 ≤ length p.told → lib.0 ≤ length p.shares → AreNumbered turns → own_turns lib.0 turns ≡ course lib.0 left → Now left p → Plays p turns moves p' → Then p'
  plays_prints p [] moves p' [] low high places numbered own now plays = absurd (cc own)
  plays_prints p [] moves p' (l ∷ left) low high places numbered own now plays = absurd (cc own)
  plays_prints p (t ∷ turns) moves p' left low high places numbered own now plays =
      by (eqb t.lib.0 lib.0) refl left own now
      (λ ls e n. plays_prints plays.middle turns plays.others p' ls low (subst (λ n. lib.0 ≤ n) (sym (as_many p t plays.first plays.middle plays.takes)) high)
      (subst (λ n. lib.0 ≤ n) (sym (as_many_shares p t plays.first plays.middle plays.takes)) places) (λ u i. numbered u (inr i)) e n plays.rest)
    where
      Rest : Type 0
      Rest = (ls : List Turn) → own_turns lib.0 turns ≡ course lib.0 ls → Now ls plays.middle → Then p'

      mine : (ls : List Turn) → t ∷ own_turns lib.0 turns ≡ course lib.0 ls → Now ls p → Rest → Then p'
      mine [] e now rest =
          let first : t ≡ placed lib.0 Ends = cc e in
          let none : own_turns lib.0 turns ≡ [] = cc e in
          let done = end_taken p t plays.first plays.middle plays.takes (ap (λ (x : Placed). x.lib) first) low high places (ap (λ (x : Placed). x.turn) first) now in
          let others = plays_others plays.middle turns plays.others p' lib low (λ u i. numbered u (inr i)) none plays.rest in
          subst (λ x. Prints lines x (entries_by lib p'.log)) (sym others.told) (subst (λ x. Prints lines (told_to plays.middle lib) x) (sym others.log) done)
      mine (l ∷ ls) e now rest =
          let first : t ≡ placed lib.0 l = cc e in
          let more : own_turns lib.0 turns ≡ course lib.0 ls = cc e in
          rest ls more (line_taken p t plays.first plays.middle plays.takes (ap (λ (x : Placed). x.lib) first) low high places l ls (ap (λ (x : Placed). x.turn) first) now)

      by : (b : Bool) → eqb t.lib.0 lib.0 ≡ b → (ls : List Turn) → cond b (t ∷ own_turns lib.0 turns) (own_turns lib.0 turns) ≡ course lib.0 ls → Now ls p → Rest → Then p'
      by true is ls e now rest = mine ls e now rest
      by false f ls e now rest =
          let apart : lib.0 ≡ t.lib.0 → ⊥ = λ q. both_ways (eqb t.lib.0 lib.0) f (eq-eqb t.lib.0 lib.0 (sym q)) in
          let first : 1 ≤ t.lib.0 = numbered t (inl refl) in
          rest ls e
          (subst (λ x. Before lines ls x (told_to plays.middle lib) (entries_by lib plays.middle.log)) (sym (other_share p t plays.first plays.middle plays.takes lib apart first low))
          (subst (λ x. Before lines ls (share_of p lib) x (entries_by lib plays.middle.log)) (sym (other_told p t plays.first plays.middle plays.takes lib apart first low))
          (subst (λ x. Before lines ls (share_of p lib) (told_to p lib) x) (sym (other_log p t plays.first plays.middle plays.takes lib apart)) now)))

-- ---- a script

untold_each : {X : Type 0} (xs : List X) (n : ℕ) → get_or (map (λ x. untold) xs) n untold ≡ untold
untold_each [] n = refl
untold_each (x ∷ xs) zero = refl
untold_each (x ∷ xs) (suc n) = untold_each xs n

module _ (p p' : Players) (turns : List Placed) (moves : List Move) (lib : LibNo) (low : 1 ≤ lib.0) (high : lib.0 ≤ length p.told) (places : lib.0 ≤ length p.shares) (numbered : AreNumbered turns)
    (told : told_to p lib ≡ untold) (log : entries_by lib p.log ≡ []) (plays : Plays p turns moves p') where
  lines_print : (creds : Creds) (lines : Lines) → own_turns lib.0 turns ≡ course lib.0 (line_turns lines) → BeginsWith lib creds lines (share_of p lib) → Prints lines (told_to p' lib) (entries_by lib p'.log)
  lines_print creds lines own begins =
      plays_prints lib lines p turns moves p' (line_turns lines) low high places numbered own
      (subst (λ x. Before lines (line_turns lines) (share_of p lib) x (entries_by lib p.log)) (sym told)
      (subst (Before lines (line_turns lines) (share_of p lib) untold) (sym log) (begins_before lib creds lines (share_of p lib) begins))) plays

pub played_is_printed : PlayedIsPrinted
played_is_printed image libs played lib l is =
    let low : 1 ≤ lib.0 = is.0 in
    let begins : AtStart image libs played.first = played.begins in
    let within : lib.0 - 1 < length libs = slice_get_within libs (lib.0 - 1) l is.1 in
    let many : length played.first.told ≡ length libs = ap length begins.told ∙ length-map libs _ in
    let shares : length played.first.shares ≡ length libs = begins.places in
    let number : 1 + (lib.0 - 1) ≡ lib.0 = omega (arith, low) in
    let own : own_turns lib.0 (turns_of libs) ≡ course lib.0 (line_turns l.lines) =
    subst (λ n. own_turns n (turns_of libs) ≡ course n (line_turns l.lines)) number (turns_own libs (lib.0 - 1) l is.1) in
    let told : told_to played.first lib ≡ untold = ap (λ (hs : List Heard). get_or hs (lib.0 - 1) untold) begins.told ∙ untold_each libs (lib.0 - 1) in
    let high : lib.0 ≤ length played.first.told = omega (arith, low, within, many) in
    let places : lib.0 ≤ length played.first.shares = omega (arith, low, within, shares) in
    lines_print played.first played.last (turns_of libs) played.moves lib low high places (λ t i. (turns_within libs t i).0) told (ap (entries_by lib) begins.log) played.plays
    l.creds l.lines own (begins.begins lib l is)
