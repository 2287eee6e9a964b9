use Rattle.trio_proposal.proofs.Words.{◌≡◌, mets_below, with_bodies}
use Rattle.trio_proposal.proofs.place.place_bodies.Given as goal

abbrev pub invariant-loop-ino : goal.invariant-loop-ino
invariant-loop-ino l = l.home.pages ≡ with_bodies (mets_below l.rows l.kept l.ino) l.initial.home.pages
