use Rattle.trio_survey.proofs.Words.{◌+◌, ◌-◌, ◌≡◌, Ok, Some, arith, block_kept, rules}
use Rattle.trio_survey.proofs.KeptBlocks.{kept_part}
use Rattle.trio_survey.proofs.blocks.KeptBlocks.entries_of.Goals as goal

pub returns-in-Some-Ok-clause-named : goal.returns-in-Some-Ok-clause-named
returns-in-Some-Ok-clause-named c = λ l i.
    let s = c.in-Some-Ok.span in
    let kept = c.args.self.now in
    let read : block_kept c.args.range kept.read.items c.args.page ≡ Some (Ok s) = search rules in
    let len : s.from + s.len - s.from ≡ s.len = omega arith in
    (kept_part c.args.range kept c.args.page (Ok s) c.requires read).named l (rw (len, c.deref.ensures.value) at i)
