-- An honest library that runs alone is never answered busy: each open grant is its own in every state that its calls find.
use Rattle.trio_runner.proofs.Words.{◌++◌, ◌∙◌, ◌∷◌, ◌≡◌, ◌≤◌, Ask, BeginsWith, CourseGoes, Creds, Ends, Entry, Event, Goes, Going, Happens, Heard, Honest, Image, In, InSession, IsLibraryOf, Leaves, LibNo, Lines, List, Origin, Place, ReplaysFrom, Says, SaysHonest, ScriptLib, SessionSeen, Share, State, Things, Told, Turn, TurnGoes, [], ap, arith, arrives, creds_in, length, line_turns, origin_in, refl, sees_at, start, step_creds, subst, sym, untold}
use Rattle.trio_state.specs.Step.{library_of}
use Rattle.trio_laws.specs.history.Entries.{answer_of, event_of}
use Rattle.trio_report.specs.declared.report.EndAnswer.TheVariants.{Settled}
use Rattle.trio_runner.specs.RunLaws.{RanAlone}
use Rattle.trio_runner.proofs.Alone.{HappensAlone, NeverBusy, OwnAlone, Stays, event_own, line_stays, one, settle_stays}
use Rattle.trio_runner.proofs.Keeping.{turn_keeps}
use Rattle.trio_runner.proofs.RanOrder.{replays_left}

-- ---- open grants

-- the entries of a controller with one library are that library's
replays_own : (s : State) (log : List Entry) (t : State) → length s.creds ≡ 1 → OwnAlone one s → ReplaysFrom s log t → OwnAlone one t
replays_own s [] t count own r = subst (OwnAlone one) (sym r) own
replays_own s (e ∷ es) t count own r =
    let event : Event = event_of e in
    let low : 1 ≤ library_of event = r.1.0 in
    let high : library_of event ≤ length s.creds = r.1.1 in
    let is : library_of event ≡ 1 = omega (arith, low, high, count) in
    let after : OwnAlone (record { 0 = library_of event }) r.0 = event_own s event (answer_of e) r.0 (λ g i. own g i ∙ sym is) r.3 in
    replays_own r.0 es t (ap (λ (cs : List Creds). length cs) (step_creds s event (answer_of e) r.0 r.3) ∙ count) (λ g i. after g i ∙ is) r.4

module _ (image : Image) (l : ScriptLib) where
  abbrev first : Origin
  first = origin_in image (l ∷ [])

  left_own : (log : List Entry) (s : State) → Leaves first log s → OwnAlone one s
  left_own log s left = replays_own (start image (creds_in (l ∷ []))) log s refl (λ g i. absurd i) (replays_left first log s left)

  -- ---- at the library's seat

  abbrev AtSeat : Going → Type 0
  AtSeat g = (g.seat.first ≡ first) × (g.seat.lib ≡ one)

  seat_stays : (g : Going) (ask : Ask) (told : Told) (g' : Going) → AtSeat g → Goes g ask told g' → AtSeat g'
  seat_stays g ask told g' is goes = (goes.turn.first ∙ is.0, goes.turn.lib ∙ is.1)

  goes_alone : (g : Going) (ask : Ask) (told : Told) (g' : Going) → AtSeat g → Goes g ask told g' → HappensAlone one ask told
  goes_alone g ask told g' is goes =
      let t = goes.turn in
      let found : Leaves first (g.seat.seen ++ t.others) t.before = subst (λ (f : Origin). Leaves f (g.seat.seen ++ t.others) t.before) is.0 t.found in
      (t.before, t.after, left_own (g.seat.seen ++ t.others) t.before found, subst (λ (n : LibNo). Happens t.before n ask told t.after) is.1 t.did)

  turn_stays : (turn : Turn) (g : Going) (x : SessionSeen) (told : Heard) (g' : Going) (share' : Share) (told' : Heard) → AtSeat g → AtSeat g' → x.lib ≡ one → NeverBusy told → TurnGoes turn g (InSession x) told g' share' told' → Stays one share' told'
  turn_stays (Says line) g x told g' share' told' is is' mine free c = absurd c
  turn_stays (SaysHonest line) g x told g' (Things has) told' is is' mine free c = absurd c
  turn_stays (SaysHonest line) g x told g' (InSession x') told' is is' mine free c =
      line_stays Goes sees_at one AtSeat seat_stays goes_alone g g' x x' line.line c.0 told told' is'.1 mine is free c.1 c.2
  turn_stays Ends g x told g' (Things has) told' is is' mine free c = absurd c
  turn_stays Ends g x told g' (InSession x') told' is is' mine free c =
      settle_stays Goes sees_at one AtSeat seat_stays goes_alone g g' x x' (Settled (length x.calls)) told told' mine free c.0 c.1

  course_stays : (p : Place) (turns : List Turn) (p' : Place) → AtSeat p.going → Stays one p.share p.told → CourseGoes p turns p' → Stays one p'.share p'.told
  course_stays p [] p' is stays goes = subst (λ (q : Place). Stays one q.share q.told) (sym goes) stays
  course_stays p (turn ∷ turns) p' is stays goes =
      let middle : Place = goes.0 in
      let there : AtSeat middle.going = turn_keeps AtSeat seat_stays turn p.going p.share p.told middle.going middle.share middle.told is goes.1 in
      let turned : TurnGoes turn p.going (InSession stays.session) p.told middle.going middle.share middle.told =
      subst (λ (y : Share). TurnGoes turn p.going y p.told middle.going middle.share middle.told) stays.is goes.1 in
      course_stays middle turns p' there (turn_stays turn p.going stays.session p.told middle.going middle.share middle.told is there stays.mine stays.free turned) goes.2

-- ---- a script

pub ran_alone : RanAlone
ran_alone image l lines honest tolds s' log ran answer i =
    let libs : List ScriptLib = l ∷ [] in
    let is : IsLibraryOf libs one l = (omega arith, refl) in
    let own = ran.ran one l is in
    let begins : BeginsWith one l.creds (Honest lines) own.share = subst (λ (y : Lines). BeginsWith one l.creds y own.share) honest own.begins in
    let at_first : Stays one own.share untold = record { session = _; is = begins.1; mine = refl; free = λ a j. absurd j } in
    let begin : Place = record { going = arrives (origin_in image libs) one; share = own.share; told = untold } in
    let last = course_stays image l begin (line_turns l.lines ++ Ends ∷ []) (ran.last one) (refl, refl) at_first own.goes in
    last.free answer (subst (λ (h : Heard). In answer h.answers) (sym (ran.told one l is)) i)
