use Rattle.trio_layout.proofs.Words.{◌*◌, ◌∙◌, Index, ap, arith, get_or, number_at, numbers_in, sym, w64, ℕ}
use Rattle.std.proofs.lemmas.List.{get_or_past}
use Rattle.trio_layout.proofs.IndexPages.{numbers_in-at, length-numbers_in}
use Rattle.trio_layout.proofs.index.IndexPage.number.Goals as goal

pub returns-then-i-self : goal.returns-then-i-self
returns-then-i-self c =
    c.u64_at.ensures ∙ ap (λ (n : ℕ). number_at w64 (8 * n) c.self.inside.page.now) c.from.ensures ∙ sym (numbers_in-at c.self.inside.used c.args.i c.self.inside.page.now (omega arith)) ∙ ap (λ (x : Index). get_or x.numbers c.args.i 0) c.self.view_is

pub returns-else-i-self : goal.returns-else-i-self
returns-else-i-self c =
    sym (get_or_past (numbers_in c.self.inside.used c.self.inside.page.now) c.args.i 0 (omega (arith, length-numbers_in c.self.inside.used c.self.inside.page.now)))
    ∙ ap (λ (x : Index). get_or x.numbers c.args.i 0) c.self.view_is
