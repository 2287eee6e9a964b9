use Rattle.trio_judge.proofs.Words.{◌≡◌, [], take}
use Rattle.trio_judge.proofs.start.held_listing.Given as goal

abbrev pub invariant-loop-ino : goal.invariant-loop-ino
invariant-loop-ino l = record {
  listing : l.listing.listing ≡ record { held = take l.ino-index l.ino-items; files = []; entries = [] };
  room : l.listing.room ≡ l.fn.listing.room;
}
