-- The laws of several libraries on one controller, each at its desk.
use Rattle.std.specs.Prelude.{◌≡◌, ℕ, map}
use Rattle.trio_rights.specs.declared.rights.LibNo.{LibNo}
use Rattle.trio_lists.specs.Lists.{In}
use Rattle.trio_lease.specs.Bundles.{Bundled}
use Rattle.trio_lease.specs.Shown.{KeepsUntouched, LentFile}
use Rattle.trio_lease.specs.declared.parts.HoldParts.{HoldParts}
use Rattle.trio_desk.specs.Call.{Ask, Told}
use Rattle.trio_state.specs.State.{State}
use Rattle.trio_state.specs.Kept.{Kept}
use Rattle.trio_laws.specs.history.Recorded.{LentWhole}
use Rattle.trio_ctl.specs.Ctl.{AreAsTold, IsLibrary}
use Rattle.trio_entries.specs.Handed.{handed_in}
use Rattle.trio_ctl.specs.HandedIn.{AreMarked, WereLent}
use Rattle.trio_ctl.specs.Desk.{Happens, desk_of, out_of}

-- a call of one library leaves what another has out
abbrev pub OthersKeep : Type 0
OthersKeep =
    (s : State) (lib other : LibNo) (ask : Ask) (told : Told) (s' : State)
    → Kept s → (other.0 ≡ lib.0 → ⊥) → Happens s lib ask told s' → out_of s' other ≡ out_of s other

-- and all that is seen of another's desk
abbrev pub OthersSee : Type 0
OthersSee =
    (s : State) (lib other : LibNo) (ask : Ask) (told : Told) (s' : State)
    → Kept s → LentWhole s → (other.0 ≡ lib.0 → ⊥) → Happens s lib ask told s' → desk_of s' other ≡ desk_of s other

-- no library comes or goes in a call
abbrev pub LibrariesStay : Type 0
LibrariesStay =
    (s : State) (lib other : LibNo) (ask : Ask) (told : Told) (s' : State)
    → Happens s lib ask told s' → IsLibrary other s → IsLibrary other s'

-- a call leaves the state kept, and each hold as it told
abbrev pub CallsKeep : Type 0
CallsKeep =
    (s : State) (lib : LibNo) (ask : Ask) (told : Told) (s' : State)
    → Kept s → AreAsTold s → Happens s lib ask told s' → Kept s' × AreAsTold s'

-- each block that is lent stays a whole page in a call
abbrev pub CallsLeaveWhole : Type 0
CallsLeaveWhole =
    (s : State) (lib : LibNo) (ask : Ask) (told : Told) (s' : State)
    → Kept s → LentWhole s → Happens s lib ask told s' → LentWhole s'

-- what is handed in of leases that show as lent what their grants lent has its marks
abbrev pub LentIsMarked : Type 0
LentIsMarked =
    (s : State) (lib : ℕ) (b : Bundled)
    → Kept s → WereLent s lib b.writes → ((f : LentFile) → In f b.writes → KeepsUntouched f) → AreMarked s lib (handed_in b)

-- the directory that a hold of a library told is lent to it for writing
abbrev pub HoldsStand : Type 0
HoldsStand =
    (s : State) (lib : LibNo) (h : HoldParts)
    → Kept s → AreAsTold s → In h (out_of s lib).holds → In h.parent (map (λ w. w.ino) (out_of s lib).writes)
