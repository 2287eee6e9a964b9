use Rattle.trio_runner.proofs.raw.play_line.Goals as goal

pub returns-in-Poke-clause-stands : goal.returns-in-Poke-clause-stands
returns-in-Poke-clause-stands g c = c.play_poke.ensures.stands _ c.requires.stands
