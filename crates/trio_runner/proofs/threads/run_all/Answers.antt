use Rattle.trio_runner.proofs.Words.{◌∷◌, [], arith, crosses, length, refl}
use Rattle.std.proofs.lemmas.Option.{slice_get_read}
use mir.Syntax.{named}
use denote.Param.Send.{param_sync, sendable, shr_slice_sync, shr_sync}
use denote.Struct.Declared.{row}
use denote.Struct.Tuple.{type_at}
use Rattle.std.proofs.alloc.Global.TheSendSync as heap
use Rattle.std.below.core.proofs.marker.ClosureMark.TheSendSync as mark
use Rattle.trio_shared.proofs.Sends.{shared_syncs}
use Rattle.trio_runner.specs.declared.threads.LibStart.{LibStart}
use Rattle.trio_runner.proofs.Closing.{have_run, if_both, put_in}
use Rattle.trio_runner.proofs.PoolSends.{start_sends}
use Rattle.trio_runner.proofs.Sends.{captures_sync, run_sends, script_syncs}
use Rattle.trio_runner.proofs.threads.run_all.Goals as goal

pub map_vec-requires-send-J : goal.map_vec-requires-send-J
map_vec-requires-send-J g c κs within = search (sendable, crosses, start_sends) depth 60 fits 100000

pub map_vec-requires-send-X : goal.map_vec-requires-send-X
map_vec-requires-send-X g c κs within = search (sendable, crosses, run_sends) depth 60 fits 100000

-- the closure captures the runtime, the allocator, the controller, the script and the gate, in this order; behind them stands the mark of
-- the kinds, which its code names and no capture does
pub map_vec-requires-sync-F : goal.map_vec-requires-sync-F
map_vec-requires-sync-F g c κs within =
    let all = captures_sync (type_at [] (_ ∷ _ ∷ _ ∷ _ ∷ _ ∷ _ ∷ [])) (
      shr_sync (named 0) κs.1.1.1.1.1.1.1.0 _ (param_sync 1 _ c.type_bounds.sync-R),
      (
        shr_sync (named 0) κs.1.1.1.1.1.1.1.1.0 _ heap.the_sync,
        (
          shr_sync (named 0) κs.1.1.1.1.1.1.1.1.1.0 _ shared_syncs,
          (
            shr_slice_sync (named 0) κs.1.1.1.1.1.1.1.1.1.1.0 _ script_syncs,
            (shr_sync (named 0) κs.1.1.1.1.1.1.1.1.1.1.1.0 _ (param_sync 2 _ c.type_bounds.sync-G), (mark.the_sync (row (type_at [] (g.row.K ∷ []))), tt)),
          ),
        ),
      ),
    ) in
    record { shared = all.shared }

pub map_vec-requires-after_bounds : goal.map_vec-requires-after_bounds
map_vec-requires-after_bounds g c κs within =
    λ i x low is. (c.requires.few, c.requires.within, c.requires.arrive i x.seat (put_in (λ (s : LibStart). s.seat) c.args.starts.items i x (slice_get_read c.args.starts.items (length c.args.starts.items) i x refl low is)))

pub returns : goal.returns
returns g c = record {
  ran = if_both c.map_vec.result _ _ _
      (λ v len each. have_run _ _ c.args.shared.now c.args.libs.now (λ start run met. met) c.args.starts.items v.items (omega (arith, len, v.ok.0, c.args.starts.ok.0)) each)
      c.map_vec.ensures.len c.map_vec.ensures.each;
}
