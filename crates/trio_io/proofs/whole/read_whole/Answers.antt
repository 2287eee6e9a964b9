use Rattle.std.proofs.Common.{ap, rules, List, ℕ, Option}
use Rattle.trio_io.proofs.Loading.{OnlyReads-trans, front_turn, front_ended}
use Rattle.trio_io.proofs.whole.read_whole.Goals as goal

pub loop-preserved : goal.loop-preserved
loop-preserved g c = record {
  files = OnlyReads-trans _ _ _ _ c.loop.invariant.files (record { reads = c.in-Ok.ensures.reads; writes = c.in-Ok.ensures.writes; held = c.in-Ok.ensures.held; tells = c.in-Ok.ensures.tells; serves = c.in-Ok.ensures.serves });
  turns = search rules;
  no_longer = search rules;
  so_far = front_turn _ _ _ _ _ _ _ _ (ap (λ (h : List ℕ → Option (List ℕ)). h c.args.name.now) c.loop.invariant.files.held) (search rules) c.in-Ok.ensures.bound c.in_ok-extend_from_slice-in-Ok.ensures.items c.loop.invariant.so_far c.in-Ok.ensures.bytes;
}

pub returns-in-Ok-eq0-clause-bytes : goal.returns-in-Ok-eq0-clause-bytes
returns-in-Ok-eq0-clause-bytes g c =
    front_ended _ _ _ c.read_at.new.buf _ _ (ap (λ (h : List ℕ → Option (List ℕ)). h c.args.name.now) c.loop.invariant.files.held) (search rules) c.in-Ok-eq0.field-0-test (search rules) c.loop.invariant.so_far c.in-Ok-eq0.ensures.bytes
