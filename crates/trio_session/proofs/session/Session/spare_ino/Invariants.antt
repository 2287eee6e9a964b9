use Rattle.trio_session.proofs.Words.{◌+◌, ◌≡◌, ◌≤◌, drop, filter, ino_numbers, is_among, lowest_from, not, used_numbers}
use Rattle.trio_session.specs.Seen.{spare_number}
use Rattle.trio_session.proofs.session.Session.spare_ino.Given as goal

-- the lowest spare one of those that are left and the one so far is the lowest of all
abbrev pub invariant-loop-allotted : goal.invariant-loop-allotted
invariant-loop-allotted l =
    (lowest_from l.best (filter (λ n. not (is_among n (used_numbers l.self))) (drop l.allotted-index (ino_numbers l.self.parcel.inodes))) ≡ spare_number l.self)
    × (l.made + l.cleared ≤ l.allotted-index)
