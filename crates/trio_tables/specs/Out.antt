-- What is out by allotment, by number: of each page or inode number the library that has it out.
use Rattle.std.specs.Prelude.{◌≡◌, ℕ, Bool, List, [], ◌∷◌, replicate, Option, None, is_some, slice_index_or, slice_set}
use Rattle.trio_rights.specs.declared.rights.LibNo.{LibNo}

-- none of so many numbers is out
abbrev pub none_out : ℕ → List (Option LibNo)
none_out count = replicate count None

-- the library that has this number out; None where it isn't out, as past the end
abbrev pub lib_at : List (Option LibNo) → ℕ → Option LibNo
lib_at outs n = slice_index_or outs n None

-- a library has the number out
abbrev pub is_out : List (Option LibNo) → ℕ → Bool
is_out outs n = is_some (lib_at outs n)

-- nothing is out
abbrev pub NoneOut : List (Option LibNo) → Type 0
NoneOut outs = (n : ℕ) → lib_at outs n ≡ None

-- the list with the same x at each of these places
abbrev pub with_all : {X : Type 0} → X → List ℕ → List X → List X
with_all x [] xs = xs
with_all x (n ∷ ns) xs = with_all x ns (slice_set xs n x)
