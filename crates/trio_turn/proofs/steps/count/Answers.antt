use Rattle.trio_turn.proofs.Words.{rules}
use Rattle.trio_turn.proofs.Counts.{counts}
use Rattle.trio_turn.proofs.Ends.{grew_prefix, grew_others}
use Rattle.trio_turn.proofs.steps.count.Goals as goal

pub store-requires : goal.store-requires
store-requires g c = let v = c.requires.view in (
  search rules,
  search rules,
  rw (c.len-entries.ensures, c.requires.told) (counts g.T.Logged.first g.T.Logged.log g.T.Logged.begun _ _ _ v.0 c.args.token.now.me v.1 c.args.value.now v.2 _ v.3 v.4 v.5
      (grew_prefix v.2.number _ _ v.6) (grew_others v.2.number _ _ v.6) v.7),
)
