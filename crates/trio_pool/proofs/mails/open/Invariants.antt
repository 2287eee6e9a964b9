use Rattle.trio_pool.proofs.mails.open.Given as goal

abbrev pub ghosts-open_as : goal.ghosts-open_as
ghosts-open_as g a = record { number = a.library }
