use Rattle.trio_laws.proofs.KnownSteps.{same_event_same_answer}
use Rattle.trio_laws.proofs.known.same_event_same_answer.Goals as goal

pub returns : goal.returns
returns c = record { law = same_event_same_answer }
