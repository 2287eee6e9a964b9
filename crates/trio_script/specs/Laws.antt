-- A law of text words.
use Rattle.std.specs.Prelude.{◌≡◌, ◌<◌, ℕ, List, Some}
use Rattle.std.specs.List.{AllByRecursion}
use Rattle.trio_names.specs.Escaped.{escaped_of}
use Rattle.trio_script.specs.Words.{text_of}

-- bytes as they are printed are a text word that stands for them
abbrev pub ReadsEscaped : Type 0
ReadsEscaped = (bytes : List ℕ) → AllByRecursion (λ b. b < 256) bytes → text_of (escaped_of bytes) ≡ Some bytes
