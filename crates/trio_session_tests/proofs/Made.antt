-- The calls that a call of an honest library makes at its desk, one after another.
use Rattle.trio_session_tests.proofs.Words.{◌++◌, ◌∷◌, Ask, DeskSeen, SessionSeen, Told, [], refl}
use Rattle.trio_rights.specs.declared.rights.Mode.{Mode}
use Rattle.trio_nodes.specs.declared.call.Call.{Call}
use Rattle.trio_nodes.specs.declared.call.Call.TheVariants.{Chmod}
use Rattle.trio_nodes.specs.Walk.{Path}
use Rattle.trio_desk.specs.Call.{Settle, Settled, NotSettled}
use Rattle.trio_walk.specs.Asks.{Called, IsUnsettled, Settles, Once, Unsettled, Again, GivesUp, LeftOut}
use Rattle.trio_walk.specs.declared.outcome.Outcome.{Outcome}
use Rattle.trio_calls_dir.specs.Asks.{DirTried}
use Rattle.trio_calls_dir.specs.Dir.{DirCalled}
use Rattle.trio_calls_dir.specs.Chmods.{Begun, ChmodCalled, ChmodTried, Unbegun}
use Rattle.trio_session_tests.specs.Turns.{SomeCalls}
use Rattle.trio_walk.proofs.Then.{calls_then}

module _ {D : Type 0} (called : D → Ask → Told → D → Type 0) where
  pub joined : (d d1 d' : D) → SomeCalls called d d1 → SomeCalls called d1 d' → SomeCalls called d d'
  joined d d1 d' a b = (a.0 ++ b.0, calls_then called d d1 d' a.0 b.0 a.1 b.1)

  settle_calls : (d d' : D) (s s' : SessionSeen) → Settles called d s d' s' → SomeCalls called d d'
  settle_calls d d' s s' t = (record { ask = Settle s.parcel s.reads s.calls; told = Settled } ∷ [], (d', t.made, refl))

  unsettled_calls : (d d' : D) (s s' : SessionSeen) → IsUnsettled called d s d' s' → SomeCalls called d d'
  unsettled_calls d d' s s' t = (record { ask = Settle s.parcel s.reads s.calls; told = NotSettled } ∷ [], (d', t.made, refl))

  -- those of its tries, and of the settles between them
  module _ (Try : D → SessionSeen → Outcome → D → SessionSeen → Type 0) (tried : (d d' : D) (s s' : SessionSeen) (end : Outcome) → Try d s end d' s' → SomeCalls called d d') where
    pub calls_made : (d d' : D) (s s' : SessionSeen) (end : Outcome) → Called called Try d s end d' s' → SomeCalls called d d'
    calls_made d d' s s' end (Once idle t) = tried d d' s s' end t
    calls_made d d' s s' end (Unsettled holder d1 s1 is t u) = joined d d1 d' (tried d d1 s s1 _ t) (unsettled_calls d1 d' s1 s' u)
    calls_made d d' s s' end (Again holder d1 d2 s1 s2 idle t u v) =
        joined d d2 d' (joined d d1 d2 (tried d d1 s s1 _ t) (settle_calls d1 d2 s1 s2 u)) (tried d2 d' s2 s' end v)
    calls_made d d' s s' end (GivesUp first last d1 d2 d3 s1 s2 s3 is other t u v w) =
        joined d d2 d' (joined d d1 d2 (tried d d1 s s1 _ t) (settle_calls d1 d2 s1 s2 u))
        (joined d2 d3 d' (tried d2 d3 s2 s3 _ v) (settle_calls d3 d' s3 s' w))
    calls_made d d' s s' end (LeftOut first last d1 d2 d3 s1 s2 s3 is t u v w) =
        joined d d2 d' (joined d d1 d2 (tried d d1 s s1 _ t) (settle_calls d1 d2 s1 s2 u))
        (joined d2 d3 d' (tried d2 d3 s2 s3 _ v) (unsettled_calls d3 d' s3 s' w))

  -- and those of a change of mode
  mode_calls : (seen : D → DeskSeen) (path : Path) (mode : Mode) (d d' : D) (s s' : SessionSeen) (end : Outcome) → ChmodCalled called seen d s path mode end d' s' → SomeCalls called d d'
  mode_calls seen path mode d d' s s' end (Unbegun none u) = unsettled_calls d d' s s' u
  mode_calls seen path mode d d' s s' end (Begun d1 s1 t u) =
      joined d d1 d' (settle_calls d d1 s s1 t)
      (calls_made (ChmodTried called seen path mode) (λ e e' x x' ends y. ((y.given ++ y.ungiven) ++ y.last, y.made)) d1 d' s1 s' end u)

  -- and those of any call on a directory or on a mode
  pub dir_calls : (seen : D → DeskSeen) (call : Call) (d d' : D) (s s' : SessionSeen) (end : Outcome) → DirCalled called seen d s call end d' s' → SomeCalls called d d'
  dir_calls seen (Chmod path mode) d d' s s' end c = mode_calls seen path mode d d' s s' end c
  dir_calls seen call d d' s s' end c = calls_made (DirTried called seen call) (λ e e' x x' ends t. (t.1.given ++ t.1.last, t.1.made)) d d' s s' end c
