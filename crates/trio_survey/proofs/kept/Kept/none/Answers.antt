use Rattle.trio_survey.proofs.kept.Kept.none.Goals as goal

pub returns-clause-keeps : goal.returns-clause-keeps
returns-clause-keeps c = λ pages. c.none.ensures.keeps c.args.range pages
