use Rattle.trio_io.proofs.Places.{rises_set}
use Rattle.trio_io.proofs.counts.set_count.Goals as goal

pub returns-clause-rises : goal.returns-clause-rises
returns-clause-rises c =
    rises_set _ _ _ c.place.result c.args.n c.requires.each c.place.ensures.place (c.place.ensures.within c.requires.among) c.requires.no_less
