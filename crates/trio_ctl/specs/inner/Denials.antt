-- Why a grant is denied. Cited by private functions alone.
use Rattle.std.specs.Prelude.{ℕ, Option, Some, None, if◌then◌else◌}
use Rattle.std.specs.Option.{option_map}
use Rattle.trio_rights.specs.declared.rights.Need.TheVariants.{Read as ToRead, Write as ToWrite}
use Rattle.trio_rights.specs.May.{denier}
use Rattle.trio_nodes.specs.declared.grant.GrantKind.{GrantKind}
use Rattle.trio_nodes.specs.declared.grant.GrantKind.TheVariants.{Read, Write, Hold}
use Rattle.trio_nodes.specs.declared.answers.GrantFault.{GrantFault}
use Rattle.trio_nodes.specs.declared.answers.GrantFault.TheVariants.{Denied, NoParent}
use Rattle.trio_layout.specs.Image.{row_at}
use Rattle.trio_state.specs.Grants.{has_parent_grant}
use Rattle.trio_state.specs.State.{State, creds_of}

-- why a live file isn't granted, whatever grants are open on it
abbrev pub denial : State → ℕ → ℕ → GrantKind → Option GrantFault
denial s lib ino Read = option_map Denied (denier s.home.rows (creds_of s lib) ino ToRead)
denial s lib ino Write = option_map Denied (denier s.home.rows (creds_of s lib) ino ToWrite)
denial s lib ino Hold = if has_parent_grant s lib (row_at s.home ino) then None else Some NoParent
