-- The laws of a room that was made for a case.
use Rattle.std.specs.Prelude.{ℕ, List, map}
use Rattle.trio_page.specs.declared.page.PageNo.{PageNo}
use Rattle.trio_lease.specs.Places.{with_bytes}
use Rattle.trio_lease.specs.Shown.{all_touched}
use Rattle.trio_case.specs.Cases.{CaseShown}
use Rattle.trio_judge.specs.Judging.{IsJudgeRoom}
use Rattle.trio_judge.specs.declared.verdict.Room.{Room}

-- a room that was made for a case is one for the case with other bytes in one of its pages
abbrev pub RoomStaysWithBytes : Type 0
RoomStaysWithBytes =
    (k : CaseShown) (no : PageNo) (bytes : List ℕ) (room : Room) → IsJudgeRoom k room
    → IsJudgeRoom (record k { bundle = with_bytes k.bundle no bytes }) room

-- and for the case with each block of its write leases marked as touched
abbrev pub RoomStaysTouched : Type 0
RoomStaysTouched =
    (k : CaseShown) (room : Room) → IsJudgeRoom k room
    → IsJudgeRoom (record k { bundle = record k.bundle { writes = map all_touched k.bundle.writes } }) room
