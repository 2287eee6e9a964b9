-- How the look-ups find the first grant while they walk the table in another order. No public clause cites this module.
use Rattle.std.specs.Prelude.{nat_le, Bool, List, [], ◌∷◌, Option, Some, None, if◌then◌else◌}
use Rattle.trio_grants.specs.declared.grant.Grant.{Grant}
use Rattle.trio_grants.specs.declared.question.Question.{Question}
use Rattle.trio_grants.specs.declared.question.Question.TheVariants.{Excludes, On, OnBut, Writes, Is}
use Rattle.trio_grants.specs.Grants.{Keyed, excludes, is_on, is_write, is_grant}

-- each question as the test that it stands for
abbrev pub meets : Question → Grant → Bool
meets (Excludes lib ino kind) g = excludes lib ino kind g
meets (On ino) g = is_on ino None g
meets (OnBut ino but) g = is_on ino (Some but) g
meets Writes g = is_write g
meets (Is lib ino kind) g = is_grant lib ino kind g

-- the grant of lower entry, and of two alike the first
abbrev pub lower : Option Grant → Option Grant → Option Grant
lower None b = b
lower (Some a) None = Some a
lower (Some a) (Some b) = if nat_le a.entry b.entry then Some a else Some b

-- the grant of lowest entry that passes the test, in a list of any order
abbrev pub lowest : (Grant → Bool) → List Keyed → Option Grant
lowest test [] = None
lowest test (x ∷ xs) = lower (if test x.1 then Some x.1 else None) (lowest test xs)
