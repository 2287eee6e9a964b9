use Rattle.trio_session.proofs.Words.{◌≡◌, dir_pages, every_number, slots_of, take}
use Rattle.trio_session.proofs.indexes.index_of.Given as goal

abbrev pub invariant-loop-k : goal.invariant-loop-k
invariant-loop-k l = record { inodes : l.dir.inodes ≡ every_number; slots : l.dir.slots ≡ slots_of every_number (take l.k (dir_pages l.lease)) }
