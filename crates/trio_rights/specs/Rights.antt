-- The rights table: who may use a file.
use Rattle.std.specs.Prelude.{ℕ, ◌/◌, ◌%◌, ◌==◌, Bool, ◌||◌, if◌then◌else◌, bit_and}
use Rattle.trio_rights.specs.declared.rights.Creds.{Creds}
use Rattle.trio_rights.specs.declared.rights.Mode.{Mode}
use Rattle.trio_rights.specs.declared.kind.Kind.{Kind}
use Rattle.trio_rights.specs.declared.kind.Kind.TheVariants.{Regular, Directory, Link}
use Rattle.trio_rights.specs.declared.rights.Need.{Need}
use Rattle.trio_rights.specs.declared.rights.Need.TheVariants.{Read, Write}

-- the owner's three bits where the uids are equal, else the group's where the gids are, else the others'
abbrev pub class_bits_of : Creds → Mode → ℕ → ℕ → ℕ
class_bits_of creds mode uid gid =
    if creds.uid == uid then mode.0 / 64 % 8 else if creds.gid == gid then mode.0 / 8 % 8 else mode.0 % 8

-- the bits that are wanted: 4 is read, 2 is write, 1 is execute
abbrev pub wanted : Kind → Need → ℕ
wanted Regular Read = 4
wanted Regular Write = 6
wanted Directory Read = 5
wanted Directory Write = 7
wanted Link Read = 4
wanted Link Write = 6

-- uid 0 may do all; else the bits that apply have all that are wanted
abbrev pub permits : Creds → Kind → Mode → ℕ → ℕ → Need → Bool
permits creds kind mode uid gid need =
    creds.uid == 0 || bit_and (class_bits_of creds mode uid gid) (wanted kind need) == wanted kind need
