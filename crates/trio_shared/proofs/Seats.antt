-- A seat through one turn.
use Rattle.trio_shared.proofs.Words.{◌+◌, ◌<◌, ◌∙◌, ◌∷◌, ◌≡◌, ◌≤◌, Controller, IsIdle, Leaves, LibNo, List, None, Origin, Some, [], ap, arith, length, marked, origin_of, seated, slice_get, subst, suc, sym, ℕ}
use Rattle.std.proofs.Common.{zero}
use Rattle.trio_turn.specs.Seats as turn
use Rattle.trio_turn.specs.Seats.{AllNew, IsSameSeat}
use Rattle.trio_turn.specs.declared.seat.LibSeat.{LibSeat}
use Rattle.trio_ctl.specs.Ctl.{NoneBegun}
use Rattle.trio_shared.specs.declared.held.Held.{Held}
use Rattle.trio_shared.specs.declared.cell.Shared.{Shared}
use Rattle.trio_shared.specs.Seats.{IsSeatOf, Starts, origin}
use Rattle.trio_shared.proofs.Grown.{Saw, marked_none}

abbrev pub numbered : ℕ → LibNo
numbered n = record { 0 = n }

module _ (old mid new : LibSeat Held) (first : IsSameSeat old mid) (then : IsSameSeat mid new) where
  pub same_seat : IsSameSeat old new
  same_seat = (then.0 ∙ first.0, then.1 ∙ first.1, then.2 ∙ first.2)

  pub saw : (c : Controller) → turn.seen new ≡ c.log → Leaves (origin_of c) c.log c.state → Saw (seated old) c (seated new)
  saw c seen left = record {
    lib = ap numbered (then.1 ∙ first.1);
    first = then.2 ∙ first.2;
    seen = seen;
    left = left;
  }

  pub still_seat : (shared : Shared) → IsSeatOf shared old → turn.has new ≡ None → IsSeatOf shared new
  still_seat shared is free = record {
    cell = then.0 ∙ first.0 ∙ is.cell;
    first = then.2 ∙ first.2 ∙ is.first;
    library = subst (λ l. (1 ≤ l) × (l ≤ length (origin shared).creds)) (sym (then.1 ∙ first.1)) is.library;
    free = free;
  }

-- seats as they are at the start
pub starts : (shared : Shared) (x ctl : Controller) → x ≡ ctl → (seats : List (LibSeat Held)) (n : ℕ) → turn.first_value shared.turn ≡ x
    → AllNew (turn.cell shared.turn) (origin_of x) (marked x) seats → length seats ≡ n → n ≡ length ctl.state.creds → NoneBegun ctl
    → (k : ℕ) (seat : LibSeat Held) → slice_get seats k ≡ Some seat → Starts shared (origin_of ctl) (k + 1) seat
starts shared x ctl same seats n value new long libraries idle k seat at =
    let s = new k seat at in
    let its : origin_of x ≡ origin_of ctl = ap origin_of same in
    let began : origin shared ≡ origin_of ctl = ap origin_of (value ∙ same) in
    let lt : k < length seats = slice_get-below seats k seat at in
    record {
      is = record {
        cell = s.cell_is;
        first = s.first_is ∙ (its ∙ sym began);
        library =
            subst (λ l. (1 ≤ l) × (l ≤ length (origin shared).creds)) (sym s.library_is)
            (omega arith, subst (λ (o : Origin). k + 1 ≤ length o.creds) (sym began) (omega (arith, lt, long, libraries)));
        free = s.has_is;
      };
      library = s.library_is;
      first = s.first_is ∙ its;
      seen = s.seen_is;
      idle = s.begun_is ∙ marked_none x (k + 1) (subst (λ (c : Controller). IsIdle c (k + 1)) (sym same) (idle (k + 1)));
    }
  where
    slice_get-below : {X : Type 0} (xs : List X) (k : ℕ) (x : X) → slice_get xs k ≡ Some x → k < length xs
    slice_get-below [] k x e = absurd (cc e)
    slice_get-below (y ∷ ys) zero x e = omega arith
    slice_get-below (y ∷ ys) (suc k) x e = let more = slice_get-below ys k x e in omega (arith, more)
