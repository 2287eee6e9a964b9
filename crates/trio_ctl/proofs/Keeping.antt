-- The memory that is kept for releases.
use Rattle.trio_ctl.proofs.Words.{◌+◌, ◌<◌, ◌≡◌, ◌≤◌, Answered, Bundle, ComesBack, Controller, HasNoRoom, HasRoom, Image, IsTaken, Logged, NoReleaseMemory, None, NotClosedBundle, ReleaseFault, Sizes, Spare, State, Underway, ap, arith, length, min-le_left, min-le_right, parted_hold, refl, release_fault_answer, sizes_in, sizes_of, subst, sym, vec_len, ℕ}
use Rattle.std.proofs.Common.{◌^◌}
use Rattle.trio_state.specs.Moves.{Beginning}
use Rattle.trio_ctl.specs.Kits.{AreSpare, HasSpare}
use Rattle.trio_ctl.specs.Room.{HasRoomFor, room_for, spare_entries}
use Rattle.trio_ctl.specs.declared.spares.Spares.{Spares}
use Rattle.trio_ctl.proofs.Spending.{spare_at}

-- what serves images of the sizes of a state serves those of the first image, whose sizes it has
pub spare_there : (s : State) (first : Image) (k : Spares) → sizes_of s ≡ sizes_in first → AreSpare (sizes_of s) k → AreSpare (sizes_in first) k
spare_there s first k same spare = subst (λ (z : Sizes). AreSpare z k) same spare

-- and the other way round
pub spare_here : (s : State) (first : Image) (k : Spares) → sizes_of s ≡ sizes_in first → AreSpare (sizes_in first) k → AreSpare (sizes_of s) k
spare_here s first k same spare = subst (λ (z : Sizes). AreSpare z k) (sym same) spare

-- a spare entry is a place in the log and something that is kept
pub one_spare : (s : Spare) → 1 ≤ spare_entries s → (1 ≤ s.places) × (1 ≤ s.kits)
one_spare s some = (let first = min-le_left s.places s.kits in let second = min-le_right s.places s.kits in (omega (arith, some, first), omega (arith, some, second)))

-- a place that is spare is there
pub has_place : {here seen : Controller} (b : Bundle) (log : Logged) (promised kits bytes : ℕ) → here ≡ seen → spare_at log promised kits bytes ≡ here.spare → HasRoomFor seen b → length log.entries + promised + 1 ≤ log.room
has_place {here} {seen} b log promised kits bytes is spare has =
    let r = subst (λ (x : Controller). HasRoomFor x b) (sym is) has in
    let one = one_spare here.spare r.entry in
    let places = ap (λ (s : Spare). s.places) spare in
    omega (arith, one, places)

-- With room for a bundle there is room for an entry more, and what is kept serves its release.
pub has_both : {here seen : Controller} (b : Bundle) (log : Logged) (promised : ℕ) (k : Spares) → here ≡ seen → spare_at log promised (vec_len k.kits) k.bytes ≡ here.spare → length log.entries ≡ here.state.entries → log.room < 2 ^ 63 → HasRoomFor seen b → HasRoom (record { made = here.state.entries; promised = promised }) 1 × HasSpare (room_for here.state.home.core b) k
has_both {here} {seen} b log promised k is spare made small has =
    let r = subst (λ (x : Controller). HasRoomFor x b) (sym is) has in
    let one = one_spare here.spare r.entry in
    let enough = r.bytes in
    let kits = ap (λ (s : Spare). s.kits) spare in
    let bytes = ap (λ (s : Spare). s.bytes) spare in
    let place = has_place b log promised (vec_len k.kits) k.bytes is spare has in
    (omega (arith, place, small, made), record { kit = omega (arith, one, kits); bytes = omega (arith, enough, bytes) })

-- of a closed bundle nothing but want of memory is answered in place of a beginning
pub closed_lacks : (u : Underway) (lib : ℕ) (b : Bundle) (f : ReleaseFault) (u' : Underway) → parted_hold u.state lib b ≡ None → Beginning u lib b (Answered (release_fault_answer f)) u' → f ≡ NoReleaseMemory
closed_lacks u lib b NoReleaseMemory u' closed begins = refl
closed_lacks u lib b (NotClosedBundle n) u' closed (IsTaken is said same) = absurd cc
closed_lacks u lib b (NotClosedBundle n) u' closed (ComesBack m parted said same) = absurd cc
closed_lacks u lib b (NotClosedBundle n) u' closed (HasNoRoom said same) = absurd cc
