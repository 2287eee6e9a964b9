-- One try of a call, and the settle after Busy.
use Rattle.std.specs.Prelude.{◌≡◌}
use Rattle.trio_nodes.specs.declared.grant.Holder.{Holder}
use Rattle.trio_desk.specs.Call.{Ask, Told}
use Rattle.trio_session.specs.Seen.{SessionSeen}
use Rattle.trio_walk.specs.declared.outcome.Outcome.{Outcome}
use Rattle.trio_walk.specs.declared.outcome.Outcome.TheVariants.{Busy, NoMemory}
use Rattle.trio_walk.specs.Asks.{IsNotBusy, IsUnsettled, Settles}

-- It comes to an end; or it is Busy, and all is settled, or isn't for want of memory.
pub data TriesOnce {D : Type 0} (called : D → Ask → Told → D → Type 0) (Try : D → SessionSeen → Outcome → D → SessionSeen → Type 0)
    (d : D) (s : SessionSeen) (end : Outcome) (d' : D) (s' : SessionSeen) : Type 0 where
  Ends : IsNotBusy end → Try d s end d' s' → TriesOnce called Try d s end d' s'
  Gives :
      (holder : Holder) (d1 : D) (s1 : SessionSeen) → end ≡ Busy holder → Try d s (Busy holder) d1 s1 → Settles called d1 s1 d' s'
      → TriesOnce called Try d s end d' s'
  Leaves :
      (holder : Holder) (d1 : D) (s1 : SessionSeen) → end ≡ NoMemory → Try d s (Busy holder) d1 s1 → IsUnsettled called d1 s1 d' s'
      → TriesOnce called Try d s end d' s'

-- after Busy it may be tried again
abbrev pub IsAgain : Type 0 → Outcome → Type 0
IsAgain Begins (Busy holder) = Begins
IsAgain Begins end = Unit {0}
