-- The rules that images and bundles are judged by, as numbers.
use Rattle.std.specs.Prelude.{ℕ}
use Rattle.trio_layout.specs.declared.refusal.Rule.{Rule}
use Rattle.trio_layout.specs.declared.refusal.Rule.TheVariants.{Grammar, Owning, Edges, Rights, Tables}

-- the number of a rule in answers
abbrev pub rule_number : Rule → ℕ
rule_number Grammar = 1
rule_number Owning = 2
rule_number Edges = 3
rule_number Rights = 4
rule_number Tables = 5
