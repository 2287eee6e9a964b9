-- What turns of one library leave, and what they leave the sessions of others.
use Rattle.trio_session_tests.proofs.Words.{◌∙◌, ◌∷◌, ◌≡◌, ◌≤◌, Ask, Controller, Creds, DeskSeen, Happens, Image, IsRecorded, LibNo, List, LogsCall, MayCall, MayPlay, SessionSeen, Stands, Told, [], ap, begun_like, desk_of, happens_creds, length, others_see, recorded, refl, subst, sym, underway_of}
use Rattle.std.specs.Prelude.{None}
use Rattle.trio_desk.specs.Calls.{Call, Calls}
use Rattle.trio_state.specs.Moves.{Underway, begun_by}
use Rattle.trio_ctl.specs.Ctl.{AreAsTold, IsLibrary}
use Rattle.trio_runner.proofs.Moves.{call_stands}
use Rattle.trio_session_tests.specs.Turns.{IsTurn}

-- ---- turns

pub no_turn : (lib : LibNo) (u : Underway) → IsTurn lib u u
no_turn lib u = record { libraries = refl; begun = refl; others = λ other apart. refl }

turn_after : (lib : LibNo) (u v u' : Underway) → IsTurn lib u v → IsTurn lib v u' → IsTurn lib u u'
turn_after lib u v u' a b = record {
  libraries = b.libraries ∙ a.libraries;
  begun = b.begun ∙ a.begun;
  others = λ other apart. b.others other apart ∙ a.others other apart;
}

pub recorded_stands : (first : Image) (c : Controller) → IsRecorded (recorded first c.state c.log) → AreAsTold c.state → Stands c.state
recorded_stands first c r told = record { kept = r.kept; as_told = told; whole = r.whole }

happens_turn : (u : Underway) (lib : LibNo) (ask : Ask) (told : Told) (u' : Underway) → Stands u.state → Happens u.state lib ask told u'.state → u'.begun ≡ u.begun → Stands u'.state × IsTurn lib u u'
happens_turn u lib ask told u' h is begun = (
  call_stands u.state lib ask told u'.state h is,
  record { libraries = happens_creds u.state lib ask told u'.state is; begun = begun; others = λ other apart. others_see u.state lib other ask told u'.state h.kept h.whole apart is },
)

pub library_left : (u u' : Underway) (lib other : LibNo) → IsTurn lib u u' → IsLibrary other u.state → IsLibrary other u'.state
library_left u u' lib other t is = (is.0, subst (λ (cs : List Creds). other.0 ≤ length cs) (sym t.libraries) is.1)

pub idle_left : (u u' : Underway) (lib other : LibNo) → IsTurn lib u u' → begun_by u other.0 ≡ None → begun_by u' other.0 ≡ None
idle_left u u' lib other t idle = begun_like u u' other.0 t.begun ∙ idle

-- a desk each of whose calls happens on the controller behind it, and keeps its reference and library
module _ {D N : Type 0} (called : D → Ask → Told → D → Type 0) (ctl : D → Controller) (name : D → N) (lib : D → LibNo) (is : (d : D) (ask : Ask) (told : Told) (d' : D) → called d ask told d' → Happens (ctl d).state (lib d) ask told (ctl d').state × (name d' ≡ name d) × (lib d' ≡ lib d) × LogsCall (ctl d) (lib d) ask told (ctl d')) where
  -- calls of it are a turn
  pub record Turned (d d' : D) : Type 0 where
    pub turn : IsTurn (lib d) (underway_of (ctl d)) (underway_of (ctl d'))
    pub same : name d' ≡ name d
    pub same_lib : lib d' ≡ lib d

  pub calls_turn : (cs : List Call) (d d' : D) → Stands (ctl d).state → Calls called d cs d' → Turned d d'
  calls_turn [] d d' h e = record {
    turn = subst (λ x. IsTurn (lib d) (underway_of (ctl d)) (underway_of (ctl x))) (sym e) (no_turn (lib d) (underway_of (ctl d)));
    same = ap name e;
    same_lib = ap lib e;
  }
  calls_turn (c ∷ cs) d d' h made =
      let middle = made.0 in
      let one = is d c.ask c.told middle made.1 in
      let k = happens_turn (underway_of (ctl d)) (lib d) c.ask c.told (underway_of (ctl middle)) h one.0 one.3.begun in
      let rest = calls_turn cs middle d' k.0 made.2 in
      record {
        turn = turn_after (lib d) (underway_of (ctl d)) (underway_of (ctl middle)) (underway_of (ctl d')) k.1 (subst (λ l. IsTurn l (underway_of (ctl middle)) (underway_of (ctl d'))) one.2 rest.turn);
        same = rest.same ∙ one.1;
        same_lib = rest.same_lib ∙ one.2;
      }

  -- so they are of one controller, of which the desks have a reference
  pub turn_taken : (own : LibNo) (x x' : Controller) (d d' : D) → lib d ≡ own → ctl d ≡ x → x' ≡ ctl d' → Turned d d' → IsTurn own (underway_of x) (underway_of x')
  turn_taken own x x' d d' of at to t =
      subst (λ y. IsTurn own (underway_of x) (underway_of y)) (sym to)
      (subst (λ y. IsTurn own (underway_of y) (underway_of (ctl d'))) at
      (subst (λ l. IsTurn l (underway_of (ctl d)) (underway_of (ctl d'))) of t.turn))

  pub goes_on : (own : LibNo) (x x' : Controller) (d d' : D) (session : SessionSeen) → lib d ≡ own → ctl d ≡ x → x' ≡ ctl d' → Turned d d' → IsLibrary own x.state → begun_by (underway_of x) own.0 ≡ None → MayCall (desk_of (ctl d').state (lib d')) session → MayPlay (underway_of x') own session
  goes_on own x x' d d' session of at to t is idle may = record {
    library = library_left (underway_of x) (underway_of x') own own (turn_taken own x x' d d' of at to t) is;
    idle = idle_left (underway_of x) (underway_of x') own own (turn_taken own x x' d d' of at to t) idle;
    may = subst (λ y. MayCall (desk_of y.state own) session) (sym to) (subst (λ l. MayCall (desk_of (ctl d').state l) session) (t.same_lib ∙ of) may);
  }

-- ---- the session of another

pub other_plays : (u u' : Underway) (lib other : LibNo) (session : SessionSeen) → IsTurn lib u u' → (other.0 ≡ lib.0 → ⊥) → MayPlay u other session → MayPlay u' other session
other_plays u u' lib other session t apart p = record {
  library = library_left u u' lib other t p.library;
  idle = idle_left u u' lib other t p.idle;
  may = subst (λ (d : DeskSeen). MayCall d session) (sym (t.others other apart)) p.may;
}
