-- Read leases that are given back before a step.
use Rattle.std.specs.Prelude.{List, [], ◌∷◌, map}
use Rattle.trio_rights.specs.declared.rights.LibNo.{LibNo}
use Rattle.trio_lease.specs.Shown.{Shown}
use Rattle.trio_nodes.specs.declared.entry.Entry.{Entry}
use Rattle.trio_nodes.specs.declared.entry.Entry.TheVariants.{Back}
use Rattle.trio_nodes.specs.declared.grant.GrantKind.TheVariants.{Read}
use Rattle.trio_state.specs.Given.{HasGrant}
use Rattle.trio_state.specs.Grants.{given_back}
use Rattle.trio_state.specs.State.{State}

-- the state once these read leases of a library are given back, one after another
abbrev pub all_back : State → LibNo → List Shown → State
all_back s lib [] = s
all_back s lib (f ∷ fs) = all_back (given_back s lib.0 f.ino) lib fs

-- each of them is out to the library when its turn comes
abbrev pub AreBack : State → LibNo → List Shown → Type 0
AreBack s lib [] = Unit {0}
AreBack s lib (f ∷ fs) = HasGrant s lib.0 f.ino Read × AreBack (given_back s lib.0 f.ino) lib fs

-- the entries of this, in its order
abbrev pub back_entries : LibNo → List Shown → List Entry
back_entries lib back = map (λ f. Back lib f.ino) back
