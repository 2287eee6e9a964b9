use Rattle.trio_ctl_tests.proofs.raws.is_parted.Goals as goal

pub release-requires : goal.release-requires
release-requires g c = record { stands = c.poke.ensures.stands (g.D.Desk.seen c.args.desk.now).out c.requires }
