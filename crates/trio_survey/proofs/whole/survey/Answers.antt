use Rattle.trio_survey.proofs.whole.survey.Goals as goal

pub returns-clause-fails : goal.returns-clause-fails
returns-clause-fails c = rw c.none-picks.ensures at c.survey_picked.ensures.fails
