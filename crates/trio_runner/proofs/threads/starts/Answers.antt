use Rattle.trio_runner.proofs.Words.{◌++◌, ◌∙◌, ◌∷◌, Held, LibSeat, List, [], ap, map-append}
use Rattle.trio_runner.specs.declared.threads.LibStart.{LibStart}
use Rattle.trio_runner.specs.inner.Threads.{seats_of}
use Rattle.trio_runner.proofs.threads.starts.Goals as goal

pub loop-seat-preserved : goal.loop-seat-preserved
loop-seat-preserved c =
    ap seats_of c.in_ok-push.ensures.items
    ∙ map-append (λ (s : LibStart). s.seat) c.loop-seat.starts.items (_ ∷ [])
    ∙ ap (λ (seats : List (LibSeat Held)). seats ++ c.in-Some.seat ∷ []) c.loop-seat.invariant
