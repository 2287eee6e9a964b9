use Rattle.trio_survey.proofs.chain.read_chain.Goals as goal

pub read_chain_kept-requires : goal.read_chain_kept-requires
read_chain_kept-requires c = record { keeps = c.none-kept.ensures.keeps c.args.range c.args.home.now.pages }
