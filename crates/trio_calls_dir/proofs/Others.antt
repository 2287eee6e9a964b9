-- A try of a session that had nothing is kept busy by another library.
use Rattle.trio_calls_dir.proofs.Words.{Ask, At, BusyGrant, DeskSeen, Err, Grant, HasNothing, In, IsBusyWalk, IsReply, IsStopped, List, Needed, NoWalkMemory, Nodes, NotLent, Ok, OthersHold, Result, SessionSeen, Stop, StopsBy, Told, WalkEnd, Walked, inl, refl, subst, sym, try_ends}
use Rattle.trio_calls_dir.specs.declared.replies.Replied as replied
use Rattle.trio_walk.proofs.OwnBusy.{nothing_own}

-- where a session had nothing its walk is kept busy by another library
pub stop_others : {D : Type 0} (called : D → Ask → Told → D → Type 0) (seen : D → DeskSeen) (d : D) (s : SessionSeen) (true_of : List Needed → Nodes → Type 0) (end : WalkEnd) (d1 : D) (s1 : SessionSeen)
    → Walked called seen d s true_of end d1 s1 → IsStopped end → (result : Result replied.Replied Stop) (s2 : SessionSeen) → StopsBy end result s2 → HasNothing s → OthersHold s.lib (try_ends result)
stop_others called seen d s true_of (IsBusyWalk holder) d1 s1 w st result s2 by none =
    subst (λ r. OthersHold s.lib (try_ends r)) (sym by)
    (λ mine. nothing_own s w.ends.0 w.ends.1 none
    (w.way.others w.ends.0 w.ends.1 holder (subst (λ l. In (record { ask = Grant w.ends.0 w.ends.1; told = NotLent (BusyGrant holder) }) l) (sym w.ends.2) (inl refl)) mine))
stop_others called seen d s true_of NoWalkMemory d1 s1 w st result s2 by none = subst (λ r. OthersHold s.lib (try_ends r)) (sym by) tt
stop_others called seen d s true_of (IsReply reply) d1 s1 w st (Ok r) s2 by none = tt
stop_others called seen d s true_of (IsReply reply) d1 s1 w st (Err stop) s2 by none = subst (λ x. OthersHold s.lib (try_ends (Err x))) (sym by) tt
stop_others called seen d s true_of (At n) d1 s1 w st result s2 by none = absurd st
