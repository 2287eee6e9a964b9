-- What a library was told on a thread of its own prints the entries that it made.
use Rattle.trio_runner.proofs.Words.{◌++◌, ◌∙◌, ◌∷◌, ◌≡◌, CourseGoes, Ends, Entry, Goes, Going, Heard, InSession, LibNo, LineComes, Lines, List, Place, Prints, Says, SaysHonest, Share, Things, Turn, TurnGoes, [], ap, append-nil, append_assoc, arrives, entries_by, entries_told, heard_by, line_turns, made_by, origin_in, refl, sees_at, subst, sym, untold}
use Rattle.trio_runner.specs.RunLaws.{RanIsPrinted}
use Rattle.trio_runner.proofs.Batches.{honest_makes, settle_makes}
use Rattle.trio_runner.proofs.Entries.{Makes, by-append, by_made, by_own, calls_make, told_by}
use Rattle.trio_runner.proofs.Printing.{Before, TurnMakes, begins_before, end_leads, end_makes, line_leads, line_makes}

-- the seat has seen these entries of its library behind those before
abbrev pub Behind : LibNo → List Entry → Going → List Entry → Type 0
Behind lib before g es = (g.seat.lib ≡ lib) × (entries_by lib g.seat.seen ≡ before ++ es)

-- a turn of the seat makes its library's entries alone
pub goes_make : (lib : LibNo) (before : List Entry) → Makes lib Goes (Behind lib before)
goes_make lib before g es ask told g' at goes =
    let t = goes.turn in
    let own : List Entry = entries_told t.before lib ask told in
    let found : List Entry = g.seat.seen ++ t.others in
    let none : entries_by lib t.others ≡ [] = by_made lib t.others ∙ subst (λ (l : LibNo). made_by l.0 t.others ≡ []) at.0 t.not_its_own in
    let seen : entries_by lib g'.seat.seen ≡ before ++ (es ++ own) =
    ap (entries_by lib) (t.seen ∙ ap (λ (l : LibNo). found ++ entries_told t.before l ask told) at.0)
    ∙ by-append lib found own ∙ ap (λ l. entries_by lib found ++ l) (by_own lib own (told_by t.before lib ask told))
    ∙ ap (λ l. l ++ own) (by-append lib g.seat.seen t.others ∙ ap (λ l. entries_by lib g.seat.seen ++ l) none ∙ append-nil (entries_by lib g.seat.seen) ∙ at.1)
    ∙ append_assoc before es own in
    (t.before, (t.lib ∙ at.0, seen))

-- what a turn of the library makes, behind what it had made before
module _ (lib : LibNo) (g : Going) (at : g.seat.lib ≡ lib) where
  abbrev before : List Entry
  before = entries_by lib g.seat.seen

  none : Behind lib before g []
  none = (at, sym (append-nil before))

  turn_makes : (turn : Turn) (share : Share) (told : Heard) (g' : Going) (share' : Share) (told' : Heard) → TurnGoes turn g share told g' share' told' → (es : List Entry) × Behind lib before g' es × TurnMakes turn share told es share' told'
  turn_makes (Says line) (Things has) told g' (Things has') told' c =
      let made = calls_make lib Goes (Behind lib before) (goes_make lib before) c.0 g g' [] none c.3 in
      (made.0, made.2, line_makes lib line has told c.0 c.1 made.0 has' told' (subst (λ l. LineComes l has line.line c.0 c.1 has') at c.2) c.4 made.1)
  turn_makes (SaysHonest line) (InSession x) told g' (InSession x') told' c =
      let made = honest_makes lib Goes sees_at (Behind lib before) (goes_make lib before) g g' x x' none line.line c.0 c.1 in
      (made.0, made.1, (c.0, made.2, c.2))
  turn_makes Ends (Things has) told g' (Things has') told' c =
      let made = calls_make lib Goes (Behind lib before) (goes_make lib before) c.0 g g' [] none c.3 in
      (made.0, made.2, end_makes lib has told c.0 c.1 made.0 has' told' c.2 c.5 made.1)
  turn_makes Ends (InSession x) told g' (InSession x') told' c =
      let made = settle_makes lib Goes sees_at (Behind lib before) (goes_make lib before) g g' x x' none c.0 in
      (made.0, made.1, (made.2, c.1))
  turn_makes turn share told g' share' told' c = absurd c

-- a library of a script, by its lines
module _ (lib : LibNo) (lines : Lines) where
  -- before the rest of its turns
  record Now (left : List Turn) (p : Place) : Type 0 where
    at : p.going.seat.lib ≡ lib
    holds : Before lines left p.share p.told (entries_by lib p.going.seat.seen)

  abbrev Then : Place → Type 0
  Then p = Prints lines p.told (entries_by lib p.going.seat.seen)

  line_goes : (turn : Turn) (left : List Turn) (p p' : Place) → Now (turn ∷ left) p → TurnGoes turn p.going p.share p.told p'.going p'.share p'.told → Now left p'
  line_goes turn left p p' now goes =
      let made = turn_makes lib p.going now.at turn p.share p.told p'.going p'.share p'.told goes in
      record {
        at = made.1.0;
        holds = subst (Before lines left p'.share p'.told) (sym made.1.1)
            (line_leads lines turn left p.share p.told (entries_by lib p.going.seat.seen) made.0 p'.share p'.told now.holds made.2);
      }

  end_goes : (p p' : Place) → Now [] p → TurnGoes Ends p.going p.share p.told p'.going p'.share p'.told → Then p'
  end_goes p p' now goes =
      let made = turn_makes lib p.going now.at Ends p.share p.told p'.going p'.share p'.told goes in
      subst (Prints lines p'.told) (sym made.1.1) (end_leads lines p.share p.told (entries_by lib p.going.seat.seen) made.0 p'.share p'.told now.holds made.2)

  course_prints : (left : List Turn) (p p' : Place) → Now left p → CourseGoes p (left ++ Ends ∷ []) p' → Then p'
  course_prints [] p p' now goes = subst Then (sym goes.2) (end_goes p goes.0 now goes.1)
  course_prints (turn ∷ left) p p' now goes = course_prints left goes.0 p' (line_goes turn left p goes.0 now goes.1) goes.2

pub ran_is_printed : RanIsPrinted
ran_is_printed image libs tolds s' log ran lib l is =
    let last : Place = ran.last lib in
    let own = ran.ran lib l is in
    let seen : List Entry = last.going.seat.seen in
    let begin : Place = record { going = arrives (origin_in image libs) lib; share = own.share; told = untold } in
    let now : Now lib l.lines (line_turns l.lines) begin = record { at = refl; holds = begins_before lib l.creds l.lines own.share own.begins } in
    let done : Prints l.lines last.told (entries_by lib seen) = course_prints lib l.lines (line_turns l.lines) begin last now own.goes in
    let same : entries_by lib log ≡ entries_by lib seen = by_made lib log ∙ (ran.seen lib l is).own ∙ sym (by_made lib seen) in
    subst (λ es. Prints l.lines (heard_by tolds lib) es) (sym same) (subst (λ h. Prints l.lines h (entries_by lib seen)) (ran.told lib l is) done)
