-- Calls of a library as moves of the controller, and what they keep.
use Rattle.trio_runner.proofs.Words.{◌++◌, ◌∙◌, ◌∷◌, ◌≡◌, AreAsTold, AreMoves, Ask, Call, Calls, Controller, Entry, GivenEvent, Happens, Kept, LentWhole, LibNo, List, LogsCall, Move, State, Step, Told, Trace, [], answer_of, ap, append-nil, append_assoc, desk_of, entries_of, entries_told, event_of, happens_creds, inl, inr, others_see, plain_step, refl, subst, sym}
use Rattle.trio_ctl.proofs.DeskSteps.{calls_keep, calls_leave_whole}
use Rattle.trio_runner.proofs.Sessions.{ArePlain}
use Rattle.trio_runner.proofs.Plain.{plain_given}

-- the state is kept, holds are as they told, and lent blocks are whole pages
pub record Stands (s : State) : Type 0 where
  pub kept : Kept s
  pub as_told : AreAsTold s
  pub whole : LentWhole s

pub call_stands : (s : State) (lib : LibNo) (ask : Ask) (told : Told) (s' : State) → Stands s → Happens s lib ask told s' → Stands s'
call_stands s lib ask told s' h is =
    let k = calls_keep s lib ask told s' h.kept h.as_told is in
    record { kept = k.0; as_told = k.1; whole = calls_leave_whole s lib ask told s' h.kept h.whole is }

pub moves_stand : (lib : LibNo) (s : State) (calls : List Call) (moves : List Move) (s' : State) → Stands s → AreMoves lib s calls moves s' → Stands s'
moves_stand lib s [] [] s' h a = subst Stands (sym a) h
moves_stand lib s [] (m ∷ moves) s' h a = absurd a
moves_stand lib s (c ∷ calls) [] s' h a = absurd a
moves_stand lib s (c ∷ calls) (m ∷ moves) s' h a =
    moves_stand lib m.after calls moves s' (call_stands s lib c.ask c.told m.after h a.1) a.2

pub moves_creds : (lib : LibNo) (s : State) (calls : List Call) (moves : List Move) (s' : State) → AreMoves lib s calls moves s' → s'.creds ≡ s.creds
moves_creds lib s [] [] s' a = ap (λ (t : State). t.creds) a
moves_creds lib s [] (m ∷ moves) s' a = absurd a
moves_creds lib s (c ∷ calls) [] s' a = absurd a
moves_creds lib s (c ∷ calls) (m ∷ moves) s' a =
    moves_creds lib m.after calls moves s' a.2 ∙ happens_creds s lib c.ask c.told m.after a.1

-- what is seen of another's desk stays
pub moves_others : (lib other : LibNo) (s : State) (calls : List Call) (moves : List Move) (s' : State) → (other.0 ≡ lib.0 → ⊥) → Stands s → AreMoves lib s calls moves s' → desk_of s' other ≡ desk_of s other
moves_others lib other s [] [] s' apart h a = ap (λ t. desk_of t other) a
moves_others lib other s [] (m ∷ moves) s' apart h a = absurd a
moves_others lib other s (c ∷ calls) [] s' apart h a = absurd a
moves_others lib other s (c ∷ calls) (m ∷ moves) s' apart h a =
    moves_others lib other m.after calls moves s' apart (call_stands s lib c.ask c.told m.after h a.1) a.2
    ∙ others_see s lib other c.ask c.told m.after h.kept h.whole apart a.1

-- calls one after others
pub record Parted (lib : LibNo) (s : State) (first later : List Call) (moves : List Move) (s' : State) : Type 0 where
  pub middle : State
  pub first_moves : List Move
  pub later_moves : List Move
  pub before : AreMoves lib s first first_moves middle
  pub after : AreMoves lib middle later later_moves s'
  pub entries : entries_of lib (first ++ later) moves ≡ entries_of lib first first_moves ++ entries_of lib later later_moves

pub moves_parted : (lib : LibNo) (s : State) (first later : List Call) (moves : List Move) (s' : State) → AreMoves lib s (first ++ later) moves s' → Parted lib s first later moves s'
moves_parted lib s [] later moves s' a = record { middle = s; first_moves = []; later_moves = moves; before = refl; after = a; entries = refl }
moves_parted lib s (c ∷ first) later [] s' a = absurd a
moves_parted lib s (c ∷ first) later (m ∷ moves) s' a =
    let p = moves_parted lib m.after first later moves s' a.2 in
    let own : List Entry = entries_told m.before lib c.ask c.told in
    record {
      middle = p.middle;
      first_moves = m ∷ p.first_moves;
      later_moves = p.later_moves;
      before = (a.0, a.1, p.before);
      after = p.after;
      entries = ap (λ l. own ++ l) p.entries ∙ sym (append_assoc own (entries_of lib first p.first_moves) (entries_of lib later p.later_moves));
    }

-- calls, and others after them
pub moves_joined : (lib : LibNo) (s : State) (first later : List Call) (moves more : List Move) (middle s' : State) → AreMoves lib s first moves middle → AreMoves lib middle later more s' → AreMoves lib s (first ++ later) (moves ++ more) s'
moves_joined lib s [] later [] more middle s' a b = subst (λ x. AreMoves lib x later more s') a b
moves_joined lib s [] later (m ∷ moves) more middle s' a b = absurd a
moves_joined lib s (c ∷ first) later [] more middle s' a b = absurd a
moves_joined lib s (c ∷ first) later (m ∷ moves) more middle s' a b = (a.0, a.1, moves_joined lib m.after first later moves more middle s' a.2 b)

-- and the entries of both
pub entries_joined : (lib : LibNo) (s : State) (first later : List Call) (moves more : List Move) (middle : State) → AreMoves lib s first moves middle → entries_of lib (first ++ later) (moves ++ more) ≡ entries_of lib first moves ++ entries_of lib later more
entries_joined lib s [] later [] more middle a = refl
entries_joined lib s [] later (m ∷ moves) more middle a = absurd a
entries_joined lib s (c ∷ first) later [] more middle a = absurd a
entries_joined lib s (c ∷ first) later (m ∷ moves) more middle a =
    let own : List Entry = entries_told m.before lib c.ask c.told in
    ap (λ l. own ++ l) (entries_joined lib m.after first later moves more middle a.2)
    ∙ sym (append_assoc own (entries_of lib first moves) (entries_of lib later more))

-- one call alone
pub one_move : (lib : LibNo) (s : State) (c : Call) (moves : List Move) (s' : State) → AreMoves lib s (c ∷ []) moves s' → Happens s lib c.ask c.told s'
one_move lib s c [] s' a = absurd a
one_move lib s c (m ∷ []) s' a = subst (Happens s lib c.ask c.told) (sym a.2) a.1
one_move lib s c (m ∷ n ∷ moves) s' a = absurd a.2

-- no call
pub no_move : (lib : LibNo) (s : State) (moves : List Move) (s' : State) → AreMoves lib s [] moves s' → s' ≡ s
no_move lib s [] s' a = a
no_move lib s (m ∷ moves) s' a = absurd a

-- ---- runs

abbrev GivenIn : Move → Type 0
GivenIn m = GivenEvent m.before m.event

abbrev IsStep : Move → Type 0
IsStep m = Step m.before m.event m.answer m.after

abbrev pub last_of : State → List Move → State
last_of s [] = s
last_of s (m ∷ moves) = last_of m.after moves

-- moves that are a run to this state
pub record Runs (s : State) (moves : List Move) (s' : State) : Type 0 where
  pub trace : Trace s moves
  pub last : last_of s moves ≡ s'

pub runs_on : (s middle s' : State) (moves more : List Move) → Runs s moves middle → Runs middle more s' → Runs s (moves ++ more) s'
runs_on s middle s' [] more h k = subst (λ x. Runs x more s') (sym h.last) k
runs_on s middle s' (m ∷ moves) more h k =
    let rest : Runs m.after moves middle = record { trace = h.trace.3; last = h.last } in
    let all = runs_on m.after middle s' moves more rest k in
    record { trace = (h.trace.0, h.trace.1, h.trace.2, all.trace); last = all.last }

pub moves_run : (lib : LibNo) (s : State) (calls : List Call) (moves : List Move) (s' : State) → ArePlain calls → AreMoves lib s calls moves s' → Runs s moves s'
moves_run lib s [] [] s' p a = record { trace = tt; last = sym a }
moves_run lib s [] (m ∷ moves) s' p a = absurd a
moves_run lib s (c ∷ calls) [] s' p a = absurd a
moves_run lib s (c ∷ calls) (m ∷ moves) s' p a =
    let rest = moves_run lib m.after calls moves s' (λ x i. p x (inr i)) a.2 in
    record {
      trace = (
        ap (λ (x : Move). x.before) a.0,
        subst (λ (x : Move). GivenIn x) (sym a.0) (plain_given s lib c.ask c.told m.after (p c (inl refl)) a.1),
        subst (λ (x : Move). IsStep x) (sym a.0) (plain_step s lib c.ask c.told m.after (p c (inl refl)) a.1),
        rest.trace,
      );
      last = rest.last;
    }

-- ---- calls of a desk

-- a desk each of whose calls happens on the controller behind it and is logged there, and keeps its reference and library
module _ {D N : Type 0} (called : D → Ask → Told → D → Type 0) (ctl : D → Controller) (name : D → N) (lib : D → LibNo) (is : (d : D) (ask : Ask) (told : Told) (d' : D) → called d ask told d' → Happens (ctl d).state (lib d) ask told (ctl d').state × (name d' ≡ name d) × (lib d' ≡ lib d) × LogsCall (ctl d) (lib d) ask told (ctl d')) where
  -- calls as moves
  pub record MovesMade (d : D) (calls : List Call) (d' : D) : Type 0 where
    pub moves : List Move
    pub happen : AreMoves (lib d) (ctl d).state calls moves (ctl d').state
    pub log_is : (ctl d').log ≡ (ctl d).log ++ entries_of (lib d) calls moves
    pub first : (ctl d').first ≡ (ctl d).first
    pub begun : (ctl d').begun ≡ (ctl d).begun
    pub same : name d' ≡ name d
    pub same_lib : lib d' ≡ lib d

  pub moves_made : (calls : List Call) (d d' : D) → Calls called d calls d' → MovesMade d calls d'
  moves_made [] d d' e = record {
    moves = [];
    happen = ap (λ x. (ctl x).state) e;
    log_is = ap (λ x. (ctl x).log) e ∙ sym (append-nil (ctl d).log);
    first = ap (λ x. (ctl x).first) e;
    begun = ap (λ x. (ctl x).begun) e;
    same = ap name e;
    same_lib = ap lib e;
  }
  moves_made (c ∷ calls) d d' made =
      let middle = made.0 in
      let first = is d c.ask c.told middle made.1 in
      let rest = moves_made calls middle d' made.2 in
      let own : List Entry = entries_told (ctl d).state (lib d) c.ask c.told in
      record {
        moves = record { before = (ctl d).state; event = event_of (lib d) c.ask; answer = answer_of c.told; after = (ctl middle).state } ∷ rest.moves;
        happen = (refl, first.0, subst (λ l. AreMoves l (ctl middle).state calls rest.moves (ctl d').state) first.2 rest.happen);
        log_is = rest.log_is ∙ ap (λ l. l ++ entries_of (lib middle) calls rest.moves) first.3.log
            ∙ append_assoc (ctl d).log own (entries_of (lib middle) calls rest.moves)
            ∙ ap (λ l. (ctl d).log ++ (own ++ entries_of l calls rest.moves)) first.2;
        first = rest.first ∙ first.3.first;
        begun = rest.begun ∙ first.3.begun;
        same = rest.same ∙ first.1;
        same_lib = rest.same_lib ∙ first.2;
      }
