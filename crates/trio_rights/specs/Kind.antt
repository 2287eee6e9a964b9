-- Kinds of file as bytes and as letters.
use Rattle.std.specs.Prelude.{ℕ, ◌==◌, List, if◌then◌else◌, codes, Bool}
use Rattle.trio_rights.specs.declared.kind.Kind.{Kind}
use Rattle.trio_rights.specs.declared.kind.Kind.TheVariants.{Regular, Directory, Link}

-- the byte that stands for a kind
abbrev pub kind_byte : Kind → ℕ
kind_byte Regular = 1
kind_byte Directory = 2
kind_byte Link = 3

-- the kind that a byte stands for; what it says of other bytes means nothing
abbrev pub kind_from : ℕ → Kind
kind_from byte = if byte == 2 then Directory else (if byte == 3 then Link else Regular)

-- the letter that stands for a kind where a tree is printed
abbrev pub letter : Kind → List ℕ
letter Regular = codes "f"
letter Directory = codes "d"
letter Link = codes "l"

-- two kinds of file are the same
abbrev pub same_kind : Kind → Kind → Bool
same_kind a b = kind_byte a == kind_byte b
