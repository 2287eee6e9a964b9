use Rattle.trio_shared_tests.proofs.Words.{◌+◌, ◌∷◌, IsBack, [], crosses, length, refl, subst}
use Rattle.std.proofs.lemmas.Option.{slice_get_read}
use mir.Syntax.{named}
use denote.Param.Send.{param_sync, sendable, shr_sync}
use denote.Struct.Tuple.{type_at}
use Rattle.std.proofs.alloc.Global.TheSendSync as heap
use Rattle.trio_shared.proofs.Sends.{seat_sends, shared_syncs}
use Rattle.trio_shared_tests.proofs.Desks.{all_gone_on}
use Rattle.trio_shared_tests.proofs.Sends.{captures_sync, flag_syncs, seed_syncs}
use Rattle.trio_shared_tests.proofs.threads.threads_go_well.Goals as goal

pub for_each_mut-requires-send-T : goal.for_each_mut-requires-send-T
for_each_mut-requires-send-T g c κs within = search (sendable, crosses, seat_sends) depth 60 fits 100000

-- the closure captures the runtime, the allocator, the controller, the seed and the flag, in this order
pub for_each_mut-requires-sync-F : goal.for_each_mut-requires-sync-F
for_each_mut-requires-sync-F g c κs within =
    let all = captures_sync (type_at [] (_ ∷ _ ∷ _ ∷ _ ∷ _ ∷ [])) (
      shr_sync (named 0) κs.1.1.1.1.1.1.0 _ (param_sync 0 _ c.type_bounds.sync-R),
      (
        shr_sync (named 0) κs.1.1.1.1.1.1.1.0 _ heap.the_sync,
        (
          shr_sync (named 0) κs.1.1.1.1.1.1.1.1.0 _ shared_syncs,
          (shr_sync (named 0) κs.1.1.1.1.1.1.1.1.1.0 _ seed_syncs, (shr_sync (named 0) κs.1.1.1.1.1.1.1.1.1.1.0 _ flag_syncs, tt)),
        ),
      ),
    ) in
    record { shared = all.shared }

pub for_each_mut-requires-clause-accepts : goal.for_each_mut-requires-clause-accepts
for_each_mut-requires-clause-accepts g c κs within = λ i p low is. c.requires.each i p.now (slice_get_read c.args.seats.now (length c.args.seats.now) i p.now refl low is)

pub returns : goal.returns
returns g c = all_gone_on _ _ _ c.requires c.for_each_mut.auto.s (λ i d low. let ch = (c.for_each_mut.ensures i d low).1 in subst (IsBack _ (i + 1)) ch.left ch.call)
