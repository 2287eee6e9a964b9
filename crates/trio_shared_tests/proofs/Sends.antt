-- What threads share that play libraries.
use Rattle.trio_shared_tests.proofs.Words.{crosses}
use denote.Builtin.{u64}
use denote.Param.Send.{AllSync, IsSync, recorded_sync, sendable, struct_sync}
use denote.Struct.Declared.{Declared, fields, row, shape}
use denote.Struct.Struct.{Struct}
use Rattle.std.specs.contracts.sync.atomic.AtomicBool as flag

pub flag_syncs : IsSync flag.the_row
flag_syncs = search (sendable, crosses) depth 60 fits 100000

pub seed_syncs : IsSync u64
seed_syncs = search sendable

-- a closure, where each of its captures is
pub captures_sync : (T : Declared) → AllSync (fields T) → IsSync (row T)
captures_sync T all = recorded_sync (Struct (shape T)) T.D T.to T.to_one (struct_sync (shape T) all)
