use Rattle.trio_commit.proofs.Words.{◌∙◌, ap, option_map_or, sym}
use Rattle.std.specs.Prelude.{ℕ, List, Option}
use Rattle.trio_commit.proofs.Placing.{root_found}
use Rattle.trio_commit.proofs.bodies.put_root.Goals as goal

pub returns-in-Some : goal.returns-in-Some
returns-in-Some c =
    ap (λ (o : Option (List ℕ)). option_map_or (λ (b : List ℕ). b) o c.args.root.now) c.in-Some.ensures
    ∙ sym (root_found c.args.writes.now c.args.root.now)

pub returns-in_default : goal.returns-in_default
returns-in_default c =
    ap (λ (o : Option (List ℕ)). option_map_or (λ (b : List ℕ). b) o c.args.root.now) c.in_default.ensures
    ∙ sym (root_found c.args.writes.now c.args.root.now)
