use Rattle.std.proofs.Common.{ℕ, Vec, Global, ap, ◌∙◌, append_assoc}
use Rattle.trio_commands.proofs.lines.made_line.Goals as goal

pub returns : goal.returns
returns c = ap (λ (v : Vec ℕ Global). v.items) c.into_bytes.ensures.value ∙ c.in_ok-line.ensures.ok ∙ simp append_assoc
