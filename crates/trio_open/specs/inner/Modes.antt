-- A change of mode, in its parts. Cited by functions that the controller alone calls.
use Rattle.std.specs.Prelude.{ℕ, ◌==◌, nat_lt, Bool, not, ◌&&◌, ◌||◌, List, Option, None, Some, if◌then◌else◌, slice_index_or, slice_set}
use Rattle.std.specs.List.{list_any}
use Rattle.std.specs.Option.{option_map}
use Rattle.trio_rights.specs.Row.{Row}
use Rattle.trio_nodes.specs.declared.answers.ModeFault.{ModeFault}
use Rattle.trio_nodes.specs.declared.answers.ModeFault.TheVariants.{BadMode, Busy, NotOwner}
use Rattle.trio_nodes.specs.declared.grant.Holder.{Holder}
use Rattle.trio_nodes.specs.GrantKinds.{is_read}
use Rattle.trio_lease.specs.Shown.{Shown}
use Rattle.trio_layout.specs.Accept.{with_body_in}
use Rattle.trio_layout.specs.Entries.{body_in_slot}
use Rattle.trio_layout.specs.Mode.{body_with_mode}
use Rattle.trio_state.specs.State.{OpenGrant, State, creds_of}

-- why the mode of a live file isn't changed, whatever grants are open
abbrev pub mode_denial : State → ℕ → ℕ → ℕ → Row → Option ModeFault
mode_denial s lib ino mode r =
    if ino == 1 || not ((creds_of s lib).uid == 0 || (creds_of s lib).uid == r.uid) then Some NotOwner else (if nat_lt 511 mode then Some BadMode else None)

-- the grant is on one of two files
abbrev pub is_around : ℕ → ℕ → OpenGrant → Bool
is_around ino parent g = g.ino == ino || g.ino == parent

-- the grant is the library's for reading one of the files of these leases, so that it ends once they are given back
abbrev pub is_back : ℕ → List Shown → OpenGrant → Bool
is_back lib back g = g.lib == lib && is_read g.kind && list_any (λ f. g.ino == f.ino) back

-- the grant is on one of two files, and stays when these leases are given back
abbrev pub stays_around : ℕ → ℕ → ℕ → List Shown → OpenGrant → Bool
stays_around lib ino parent back g = is_around ino parent g && not (is_back lib back g)

-- the holder that a fault names
abbrev pub busy_holder : Option ModeFault → Option Holder
busy_holder (Some (Busy holder)) = Some holder
busy_holder fault = None

-- the row with another mode
abbrev pub with_row_mode : ℕ → Row → Row
with_row_mode mode r = record r { mode = record { 0 = mode } }

-- the page with another mode in the body in one of its slots
abbrev pub with_mode_in : ℕ → ℕ → List ℕ → List ℕ
with_mode_in slot mode bytes = with_body_in slot (body_with_mode mode (body_in_slot slot bytes)) bytes

-- the pages with another mode in the body at a place
abbrev pub with_mode_at : ℕ → ℕ → ℕ → List (Option (List ℕ)) → List (Option (List ℕ))
with_mode_at page slot mode pages = slice_set pages page (option_map (with_mode_in slot mode) (slice_index_or pages page None))
