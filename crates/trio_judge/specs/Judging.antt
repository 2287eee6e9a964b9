-- The room that a judgement needs.
use Rattle.std.specs.Prelude.{◌≡◌, false, length, replicate}
use Rattle.trio_rights.specs.Bundle.{bundle_pages}
use Rattle.trio_lease.specs.Views.{bundle_in}
use Rattle.trio_case.specs.Cases.{CaseShown, case_in}
use Rattle.trio_case.specs.Rooms.{IsRoomFor}
use Rattle.trio_judge.specs.inner.Walk.{Starts}
use Rattle.trio_judge.specs.declared.verdict.Room.{Room}

-- A room that was made for this case. It goes by the bundle's files and numbers, and not by the bytes of its pages.
pub record IsJudgeRoom (k : CaseShown) (room : Room) : Type 0 where
  pub pages : IsRoomFor k room.pages
  pub walk : Starts (case_in k) room.walk
  pub heads : room.heads.items ≡ replicate (length (bundle_pages (bundle_in k.bundle))) false
