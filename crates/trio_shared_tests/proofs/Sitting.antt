-- A seat after calls of its desk.
use Rattle.trio_shared_tests.proofs.Words.{◌∙◌, ◌≡◌, Entry, Has, Held, IsSeatOf, LibNo, LibOut, LibSeat, List, None, OnList, Option, Origin, Plays, PlaysOn, Result, Shared, SitsOn, Some, State, ap, desk, desk_left, first, inl, inr, library, library_of, nothing, out, refl, seated, seen, subst, sym, ℕ}
use Rattle.std.specs.Prelude.{◌⊎◌, IsErr, MatchOption}
use Rattle.trio_lease.specs.Shown.{Shown}
use Rattle.trio_desk.specs.Call.{Ask, GiveBack, Told}
use Rattle.trio_desk.specs.Calls.{OneCall, Made, NotMade}
use Rattle.trio_raw.specs.Asked.{AfterBack, Back}
use Rattle.trio_raw.specs.Has.{read_on}
use Rattle.trio_turn.specs.Seats.{IsSameSeat}
use Rattle.trio_shared.specs.Left.{Leaves}
use Rattle.trio_shared.specs.Seats.{IsIdle}
use Rattle.trio_shared.specs.Turns.{Calls}
use Rattle.trio_shared_tests.specs.Sits.{IsLeft, Sits}
use Rattle.trio_shared_tests.proofs.TwoMoves.{nothing_on_list}

-- ---- a library plays on

pub plays_here : (sh : Shared) (seat : LibSeat Held) (has : Has) → Plays sh seat has → PlaysOn sh seat seat has
plays_here sh seat has p = record { plays = p; library = refl }

pub plays_then : (sh : Shared) (old now new : LibSeat Held) (has has' : Has) → PlaysOn sh old now has → PlaysOn sh now new has' → PlaysOn sh old new has'
plays_then sh old now new has has' a b = record { plays = b.plays; library = b.library ∙ a.library }

-- where its seat has gone on, and nothing else is out
pub plays_still : (sh : Shared) (old new : LibSeat Held) (has : Has) → Plays sh old has → SitsOn sh old new → out new ≡ out old → PlaysOn sh old new has
plays_still sh old new has p on same = record {
  plays = record { sits = on.sits; on_list = subst (λ (o : LibOut). OnList o has) (sym same) p.on_list };
  library = on.library;
}

-- it has nothing yet
pub plays_first : (sh : Shared) (seat : LibSeat Held) (has : Has) → Sits sh seat → has ≡ nothing → Plays sh seat has
plays_first sh seat has sits is = record { sits = sits; on_list = subst (OnList (out seat)) (sym is) (nothing_on_list (out seat)) }

pub sits_on : (sh : Shared) (old new : LibSeat Held) (has : Has) → PlaysOn sh old new has → SitsOn sh old new
sits_on sh old new has on = record { sits = on.plays.sits; library = on.library }

-- ---- its desk gives a read lease back

-- a desk each of whose calls is one of a seat, and keeps the controller and the reference to the seat
module _ {D N : Type 0} (called : D → Ask → Told → D → Type 0) (shared : D → Shared) (seat : D → LibSeat Held) (name : D → N)
    (is : (d : D) (ask : Ask) (told : Told) (d' : D) → called d ask told d' → Calls (seated (seat d)) ask told (seated (seat d')) × (shared d' ≡ shared d) × (name d' ≡ name d)) where
  pub record SameDesk (d d' : D) : Type 0 where
    pub same_shared : shared d' ≡ shared d
    pub same_name : name d' ≡ name d
    pub same_library : library (seat d') ≡ library (seat d)

  desk_stays : (d d' : D) → d' ≡ d → SameDesk d d'
  desk_stays d d' e = record { same_shared = ap shared e; same_name = ap name e; same_library = ap (λ x. library (seat x)) e }

  -- giving back keeps them
  pub back_same : {E : Type 0} (d d' : D) (has has' : Has) (ino : ℕ) (r : Result Unit E) → Back called d has ino d' r has' → SameDesk d d'
  back_same {E} d d' has has' ino r back = by (read_on has ino) back
    where
      by : (o : Option Shown) → MatchOption o ((d' ≡ d) × IsErr r × (has' ≡ has)) (λ lease. OneCall called d (GiveBack lease) d' (AfterBack has ino r has') ⊥) → SameDesk d d'
      by None b = desk_stays d d' b.0
      by (Some lease) (Made told made then) = let one = is d (GiveBack lease) told d' made in record { same_shared = one.1; same_name = one.2; same_library = ap (λ (l : LibNo). l.0) one.0.lib }
      by (Some lease) (NotMade e never) = absurd never

  -- so the library plays on as its desk left it
  pub plays_back : (sh : Shared) (old new : LibSeat Held) (has : Has) (d d' : D) → shared d ≡ sh → seat d ≡ old → new ≡ seat d' → SameDesk d d' → IsSeatOf (shared d') (seat d') → IsIdle (seat d') → OnList (out (seat d')) has
      → PlaysOn sh old new has
  plays_back sh old new has d d' at of to same is_seat is_idle on = record {
    plays = record {
      sits = record {
        is_seat = subst (IsSeatOf sh) (sym to) (subst (λ (x : Shared). IsSeatOf x (seat d')) (same.same_shared ∙ at) is_seat);
        is_idle = subst IsIdle (sym to) is_idle;
      };
      on_list = subst (λ (s : LibSeat Held). OnList (out s) has) (sym to) on;
    };
    library = ap library to ∙ same.same_library ∙ ap library of;
  }

-- ---- a library meets another

pub same_seen : (a a' : LibSeat Held) → IsSameSeat a a' → seen a' ≡ seen a → desk a' ≡ desk a
same_seen a a' same e =
    ap (λ (o : Origin). desk_left o (seen a') (library_of a')) same.2
    ∙ ap (λ (l : List Entry). desk_left (first a) l (library_of a')) e
    ∙ ap (λ (n : ℕ). desk_left (first a) (seen a) (record { 0 = n })) same.1

-- what is seen of its desk stays
pub met_alike : (sh : Shared) (a a' b : LibSeat Held) → IsSameSeat a a' → IsSeatOf sh a' → IsSeatOf sh b → (seen a' ≡ seen a) ⊎ (seen a' ≡ seen b) → IsLeft b
    → ((s : State) → Leaves (first a') (seen a') s → desk a' ≡ desk a) → desk a' ≡ desk a
met_alike sh a a' b same is is_b one left by =
    elim one [
      | inl e ↦ same_seen a a' same e
      | inr e ↦ by left.state
          (subst (λ (o : Origin). Leaves o (seen a') left.state) (is_b.first ∙ sym is.first)
          (subst (λ (l : List Entry). Leaves (first b) l left.state) (sym e) left.left))
    ]
