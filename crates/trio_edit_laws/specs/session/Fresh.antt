-- What a desk gives is none of what is in hand.
use Rattle.std.specs.Prelude.{ℕ, IsTrue}
use Rattle.trio_lists.specs.Lists.{In, are_new}
use Rattle.trio_lease.specs.Shown.{LentFile}
use Rattle.trio_lease.specs.declared.fresh.Allotted.{Allotted}
use Rattle.trio_lease.specs.declared.parts.HoldParts.{HoldParts}
use Rattle.trio_lease.specs.declared.lease.Lease.TheVariants.{Write, Hold}
use Rattle.trio_desk.specs.Out.{IsFreshAllotment, IsFreshLease, WasGiven, file_numbers, hold_numbers, page_numbers}
use Rattle.trio_desk.specs.Call.{DeskSeen}
use Rattle.trio_desk.specs.Edits.{InHand}
use Rattle.trio_laws.specs.session.Takes.{IsUntouched, pages_in_hand}

-- What is in hand was given, so a write lease that the desk gives now is untouched, and its pages are none in hand.
abbrev pub FreshIsUntouched : Type 0
FreshIsUntouched =
    (desk : DeskSeen) (h : InHand) (ino : ℕ) (f : LentFile)
    → WasGiven desk.out h.parcel → IsFreshLease desk.lib ino desk.sizes desk.out (Write f) → IsUntouched desk h f

-- A hold that it gives is on a file that is neither held nor written.
abbrev pub FreshIsFree : Type 0
FreshIsFree =
    (desk : DeskSeen) (h : InHand) (ino : ℕ) (k : HoldParts)
    → WasGiven desk.out h.parcel → IsFreshLease desk.lib ino desk.sizes desk.out (Hold k)
    → (In k.ino (hold_numbers h.parcel.holds) → ⊥) × (In k.ino (file_numbers h.parcel.writes) → ⊥)

-- The pages that it allots are none in hand.
abbrev pub FreshIsNew : Type 0
FreshIsNew =
    (desk : DeskSeen) (h : InHand) (given : Allotted)
    → WasGiven desk.out h.parcel → IsFreshAllotment desk.lib desk.sizes desk.out given
    → IsTrue (are_new (pages_in_hand h) (page_numbers given.pages.items))
