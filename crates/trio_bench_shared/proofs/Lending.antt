-- What is out once a file was lent, and the seats of a controller that was started.
use Rattle.std.proofs.Common.{◌≡◌, List, [], ◌∷◌, ◌++◌, Some, length, slice_get, refl, subst, sym, inl}
use Rattle.trio_lists.specs.Lists.{In}
use Rattle.trio_lists.proofs.Members.{In-right}
use Rattle.trio_lease.specs.Shown.{Shown}
use Rattle.trio_lease.specs.declared.lease.Lease.TheVariants.{Read}
use Rattle.trio_desk.specs.Out.{LibOut, OutAlike, with_lease}
use Rattle.trio_turn.specs.declared.seat.LibSeat.{LibSeat}
use Rattle.trio_turn.specs.Origins.{Origin}
use Rattle.trio_shared.specs.declared.cell.Shared.{Shared}
use Rattle.trio_shared.specs.declared.held.Held.{Held}
use Rattle.trio_shared.specs.Seats.{AllStart, IsIdle, IsSeatOf}

-- a read lease that was just given is out
pub lease_is_out : (old new : LibOut) (lease : Shown) → OutAlike new (with_lease old (Read lease)) → In lease new.reads
lease_is_out old new lease alike = subst (In lease) (sym alike.reads) (In-right lease old.reads (lease ∷ []) (inl refl))

at_end : {X : Type 0} (xs : List X) (x : X) → slice_get (xs ++ x ∷ []) (length xs) ≡ Some x
at_end [] x = refl
at_end (y ∷ ys) x = at_end ys x

-- the last seat of a controller that was started
pub last_seat : (shared : Shared) (origin : Origin) (seats rest : List (LibSeat Held)) (seat : LibSeat Held) → AllStart shared origin seats
    → seats ≡ rest ++ seat ∷ [] → IsSeatOf shared seat × IsIdle seat
last_seat shared origin seats rest seat all is =
    let starts = all (length rest) seat (subst (λ l. slice_get l (length rest) ≡ Some seat) (sym is) (at_end rest seat)) in
    (starts.is, starts.idle)
