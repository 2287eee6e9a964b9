-- What each call of a library keeps, its turns keep.
use Rattle.trio_runner.proofs.Words.{◌∷◌, ◌≡◌, Ask, Call, CourseGoes, Ends, Goes, Going, Heard, HonestComes, HonestLine, InSession, LineAnswer, List, Place, Says, SaysHonest, SessionSeen, Settles, Share, Things, Told, Turn, TurnGoes, [], ap, refl, sees_at, subst, sym}
use Rattle.trio_desk.specs.Calls as desk
use Rattle.trio_runner.proofs.Noting.{calls_follow, line_follows, settles_follow}

-- what is true of a library, and stays so with each call
module _ (P : Going → Type 0) (keeps : (g : Going) (ask : Ask) (told : Told) (g' : Going) → P g → Goes g ask told g' → P g') where
  -- a desk that follows: it is the same, and what is true of it is kept
  abbrev Same : Going → Going → Type 0
  Same g h = (g ≡ h) × P g

  abbrev Any : Going → Ask → Told → Going → Type 0
  Any g ask told g' = Unit {0}

  seen_same : (g h : Going) → Same g h → sees_at g ≡ sees_at h
  seen_same g h is = ap sees_at is.0

  step : (g h : Going) (ask : Ask) (told : Told) (g' : Going)
      → Same g h → Goes g ask told g' → (h' : Going) × Any h ask told h' × Same g' h'
  step g h ask told g' is goes = (g', tt, (refl, keeps g ask told g' is.1 goes))

  -- calls, one after another
  pub calls_keep : (calls : List Call) (g g' : Going) → P g → desk.Calls Goes g calls g' → P g'
  calls_keep calls g g' p goes = (calls_follow Goes Any sees_at sees_at Same seen_same step calls g g' g (refl, p) goes).2.1

  -- a settle of a session
  pub settle_keeps : (g g' : Going) (s s' : SessionSeen) → P g → Settles Goes g s g' s' → P g'
  settle_keeps g g' s s' p goes = (settles_follow Goes Any sees_at sees_at Same seen_same step g g' g s s' (refl, p) goes).2.1

  -- a line of a session
  pub line_keeps : (g g' : Going) (s s' : SessionSeen) (line : HonestLine) (answer : LineAnswer) → P g
      → HonestComes Goes sees_at g s line answer g' s' → P g'
  line_keeps g g' s s' line answer p comes =
      let follows = line_follows Goes Any sees_at sees_at Same seen_same step g g' g s s' line answer (refl, p) comes in
      follows.2.1

  -- a turn
  pub turn_keeps : (turn : Turn) (g : Going) (share : Share) (told : Heard) (g' : Going) (share' : Share) (told' : Heard)
      → P g → TurnGoes turn g share told g' share' told' → P g'
  turn_keeps (Says line) g (Things has) told g' (Things has') told' p goes = calls_keep goes.0 g g' p goes.3
  turn_keeps (SaysHonest line) g (InSession s) told g' (InSession s') told' p goes = line_keeps g g' s s' line.line goes.0 p goes.1
  turn_keeps Ends g (Things has) told g' (Things has') told' p goes = calls_keep goes.0 g g' p goes.3
  turn_keeps Ends g (InSession s) told g' (InSession s') told' p goes = settle_keeps g g' s s' p goes.0
  turn_keeps turn g share told g' share' told' p goes = absurd goes

  -- and all turns
  pub course_keeps : (p : Place) (turns : List Turn) (p' : Place) → P p.going → CourseGoes p turns p' → P p'.going
  course_keeps p [] p' is goes = subst (λ (x : Place). P x.going) (sym goes) is
  course_keeps p (turn ∷ turns) p' is goes =
      let middle : Place = goes.0 in
      course_keeps middle turns p' (turn_keeps turn p.going p.share p.told middle.going middle.share middle.told is goes.1) goes.2
