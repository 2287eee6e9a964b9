-- The four rules hold exactly where the bundle is accepted.
use Rattle.trio_laws.specs.RuleLaws.{RulesAreAccept}
use Rattle.trio_laws.proofs.judgement.Allowing.{rules_allow}
use Rattle.trio_laws.proofs.judgement.MeetingEdges.{all_met}

pub rules_are_accept : RulesAreAccept
rules_are_accept s lib b j = (rules_allow s lib b j, all_met s lib b j)
