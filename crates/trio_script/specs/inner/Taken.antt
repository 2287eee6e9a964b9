-- How one line is taken. Cited by private functions alone.
use Rattle.std.specs.Prelude.{◌≡◌, ℕ, ◌+◌, ◌≤◌, Bool, true, false, ◌||◌, List, [], ◌∷◌, ◌++◌, length, Option, None, Some, is_some, if◌then◌else◌}
use Rattle.std.specs.List.{list_any}
use Rattle.std.specs.Option.{option_map}
use Rattle.trio_script.specs.declared.Lines.{Lines}
use Rattle.trio_script.specs.declared.Lines.TheVariants.{Raw, Honest}
use Rattle.trio_script.specs.declared.ScriptLib.{ScriptLib}
use Rattle.trio_script.specs.declared.library.Begun.{Begun}
use Rattle.trio_script.specs.declared.library.BegunLines.{BegunLines}
use Rattle.trio_script.specs.declared.library.BegunLines.TheVariants.{Raw as RawBegun, Honest as HonestBegun}
use Rattle.trio_script.specs.declared.library.LibKind.{LibKind}
use Rattle.trio_script.specs.declared.library.LibKind.TheVariants.{Raw as RawKind, Honest as HonestKind}
use Rattle.trio_script.specs.Said.{library_said, line_said}
use Rattle.trio_script.specs.Honest.{honest_said}
use Rattle.trio_script.specs.Script.{first_bad, has_form, is_next, lib_with, own_lines, said_at, says_library, libs_from}

-- how many libraries began
abbrev pub count_of : Option Begun → ℕ
count_of None = 0
count_of (Some begun) = length begun.whole.items + 1

-- the lines that were read
abbrev pub lines_seen : BegunLines → Lines
lines_seen (RawBegun lines) = Raw lines.items
lines_seen (HonestBegun lines) = Honest lines.items

-- no lines of a library of this kind
abbrev pub no_lines : LibKind → Lines
no_lines RawKind = Raw []
no_lines HonestKind = Honest []

-- the kind of a library that has these lines
abbrev pub kind_in : BegunLines → LibKind
kind_in (RawBegun lines) = RawKind
kind_in (HonestBegun lines) = HonestKind

-- the kind of the library that began last
abbrev pub kind_of : Option Begun → Option LibKind
kind_of None = None
kind_of (Some begun) = Some (kind_in begun.lines)

-- the lines that were read, with what the line of this number says behind them
abbrev pub with_line : BegunLines → ℕ → List ℕ → Lines
with_line (RawBegun lines) number line = Raw (lines.items ++ said_at number (line_said line))
with_line (HonestBegun lines) number line = Honest (lines.items ++ said_at number (honest_said line))

-- the lines that were read, with those from `number` on behind them
abbrev pub lines_and : BegunLines → ℕ → List (List ℕ) → Lines
lines_and (RawBegun lines) number more = Raw (lines.items ++ own_lines line_said number more)
lines_and (HonestBegun lines) number more = Honest (lines.items ++ own_lines honest_said number more)

-- the libraries that began, as they are
abbrev pub libs_as : Option Begun → List ScriptLib
libs_as None = []
libs_as (Some begun) = begun.whole.items ++ record { creds = begun.creds; lines = lines_seen begun.lines } ∷ []

-- the libraries that began, the last of them with its lines from `number` on
abbrev pub libs_with : Option Begun → ℕ → List (List ℕ) → List ScriptLib
libs_with None number lines = []
libs_with (Some begun) number lines = begun.whole.items ++ record { creds = begun.creds; lines = lines_and begun.lines number lines } ∷ []

-- the libraries that began, and those that begin from line `number` on
abbrev pub libs_and : Option Begun → ℕ → List (List ℕ) → List ScriptLib
libs_and begun number lines = libs_with begun number lines ++ libs_from number lines

-- the line has a form of the library's kind, and what it says stands behind its lines; else they are as they were
pub record TakesForm (number : ℕ) (line : List ℕ) (old new : BegunLines) (answer : Bool) : Type 0 where
  pub form : answer ≡ has_form (Some (kind_in old)) line
  pub kind : kind_in new ≡ kind_in old
  pub lines : lines_seen new ≡ with_line old number line

-- so for the lines of the library that began last; all else is as it was
pub record TakesOwn (number : ℕ) (line : List ℕ) (old new : Begun) (answer : Bool) : Type 0 where
  pub whole : new.whole.items ≡ old.whole.items
  pub creds : new.creds ≡ old.creds
  pub own : TakesForm number line old.lines new.lines answer

-- the line begins the next library, which has no lines so far
pub record Next (line : List ℕ) (begun begun' : Option Begun) : Type 0 where
  pub next : is_next (count_of begun) (library_said line) ≡ true
  pub counted : count_of begun' ≡ count_of begun + 1
  pub kind : kind_of begun' ≡ option_map (λ l. l.kind) (library_said line)
  pub said : (number : ℕ) (lines : List (List ℕ)) → libs_with begun' number lines ≡ libs_as begun ++ lib_with (library_said line) number lines

-- the line doesn't begin the next library
pub record Other (line : List ℕ) (begun begun' : Option Begun) : Type 0 where
  pub next : is_next (count_of begun) (library_said line) ≡ false
  pub same : begun' ≡ begun

abbrev pub Begins : List ℕ → Option Begun → Option Begun → Bool → Type 0
Begins line begun begun' true = Next line begun begun'
Begins line begun begun' false = Other line begun begun'

-- the line says nothing or is good, and what it says is there
pub record Taken (number : ℕ) (line : List ℕ) (begun begun' : Option Begun) : Type 0 where
  pub counted : number ≤ 16384
  pub first : (more : List (List ℕ)) → first_bad number (count_of begun) (kind_of begun) (line ∷ more) ≡ first_bad (number + 1) (count_of begun') (kind_of begun') more
  pub named : (more : Bool) → (is_some begun || (says_library line || more)) ≡ (is_some begun' || more)
  pub said : (more : List (List ℕ)) → libs_and begun number (line ∷ more) ≡ libs_and begun' (number + 1) more
  pub few : count_of begun ≤ 16 → count_of begun' ≤ 16

-- the line is bad
pub record Stops (number : ℕ) (line : List ℕ) (begun begun' : Option Begun) : Type 0 where
  pub first : (more : List (List ℕ)) → first_bad number (count_of begun) (kind_of begun) (line ∷ more) ≡ Some number
  pub same : is_some begun' ≡ is_some begun

abbrev pub Takes : ℕ → List ℕ → Option Begun → Option Begun → Bool → Type 0
Takes number line begun begun' true = Taken number line begun begun'
Takes number line begun begun' false = Stops number line begun begun'

-- where a script is bad whose first bad line has this number: there, if a library began before or one of the
-- lines from there on says which one it begins, else at line 1
abbrev pub bad_at : ℕ → Bool → List (List ℕ) → ℕ
bad_at number begun lines = if begun || list_any says_library lines then number else 1
