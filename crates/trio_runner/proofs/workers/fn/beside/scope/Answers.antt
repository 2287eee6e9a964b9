use Rattle.trio_runner.proofs.Words.{crosses}
use denote.Param.Send.{sendable}
use Rattle.trio_runner.proofs.PoolSends.{hand_sends}
use Rattle.trio_runner.proofs.workers.fn.beside.scope.Goals as goal

pub spawn-requires-send-F : goal.spawn-requires-send-F
spawn-requires-send-F g c κs within = search (sendable, crosses, hand_sends, c.requires.0) depth 60 fits 100000
