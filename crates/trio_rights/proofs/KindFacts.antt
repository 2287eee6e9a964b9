-- Facts on kinds of file.
use Rattle.std.proofs.Common.{◌≡◌, true, false, ◌⊎◌, inl, inr, refl, ap, arith, eqb-true, eq-eqb}
use Rattle.trio_rights.specs.declared.kind.Kind.{Kind}
use Rattle.trio_rights.specs.declared.kind.Kind.TheVariants.{Regular, Directory, Link}
use Rattle.trio_rights.specs.Kind.{kind_byte, kind_from, same_kind}
use Rattle.trio_rights.specs.ByKind.{is_directory, is_link, takes_offsets, guard_fits}

-- a kind is a directory's or not
pub kind_cases : (k : Kind) → (k ≡ Directory) ⊎ (is_directory k ≡ false)
kind_cases Regular = inr refl
kind_cases Directory = inl refl
kind_cases Link = inr refl

pub is_directory-true : (k : Kind) → is_directory k ≡ true → k ≡ Directory
is_directory-true Regular e = absurd cc
is_directory-true Directory e = refl
is_directory-true Link e = absurd cc

pub is_directory-false : (k : Kind) → is_directory k ≡ false → k ≡ Directory → ⊥
is_directory-false Regular e d = absurd cc
is_directory-false Directory e d = absurd cc
is_directory-false Link e d = absurd cc

pub is_link-true : (k : Kind) → is_link k ≡ true → k ≡ Link
is_link-true Regular e = absurd cc
is_link-true Directory e = absurd cc
is_link-true Link e = refl

-- what is neither a directory nor a link is a regular file
pub is_directory-is_link-false : (k : Kind) → is_directory k ≡ false → is_link k ≡ false → k ≡ Regular
is_directory-is_link-false Regular d l = refl
is_directory-is_link-false Directory d l = absurd cc
is_directory-is_link-false Link d l = absurd cc

-- no two kinds have one byte
pub kind_byte-same : (a b : Kind) → kind_byte a ≡ kind_byte b → a ≡ b
kind_byte-same Regular Regular e = refl
kind_byte-same Regular Directory e = absurd (omega arith)
kind_byte-same Regular Link e = absurd (omega arith)
kind_byte-same Directory Regular e = absurd (omega arith)
kind_byte-same Directory Directory e = refl
kind_byte-same Directory Link e = absurd (omega arith)
kind_byte-same Link Regular e = absurd (omega arith)
kind_byte-same Link Directory e = absurd (omega arith)
kind_byte-same Link Link e = refl

pub kind_from-byte : (k : Kind) → kind_from (kind_byte k) ≡ k
kind_from-byte Regular = refl
kind_from-byte Directory = refl
kind_from-byte Link = refl

pub same_kind-true : (a b : Kind) → same_kind a b ≡ true → a ≡ b
same_kind-true a b e = kind_byte-same a b (eqb-true (kind_byte a) (kind_byte b) e)

pub same_kind-self : (a b : Kind) → a ≡ b → same_kind a b ≡ true
same_kind-self a b e = eq-eqb (kind_byte a) (kind_byte b) (ap kind_byte e)

pub takes_offsets-true : (k : Kind) → takes_offsets k ≡ true → k ≡ Regular
takes_offsets-true Regular e = refl
takes_offsets-true Directory e = absurd cc
takes_offsets-true Link e = absurd cc

-- only a regular file is guarded
pub guard_fits-true : (k : Kind) → guard_fits k true ≡ true → k ≡ Regular
guard_fits-true Regular e = refl
guard_fits-true Directory e = absurd cc
guard_fits-true Link e = absurd cc
