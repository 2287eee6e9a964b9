use Rattle.trio_image.proofs.Words.{List, OnlyReads-trans, Option, ap, arith, refl, rules, ℕ}
use Rattle.trio_image.proofs.FileParts.{part_begin, part_full, part_turn, put_whole}
use Rattle.trio_image.proofs.reading.read_part.Goals as goal

pub loop-init : goal.loop-init
loop-init g c = part_begin c.args.name.now (g.F.Files.seen c.args.files.now) c.args.at c.args.room c.in_ok-page.page c.requires.some c.in_ok-page.ensures

pub read_at-requires-clause-within : goal.read_at-requires-clause-within
read_at-requires-clause-within g c = omega (arith, c.loop.invariant.less, c.requires.within)

pub returns-then-count-room-clause-part : goal.returns-then-count-room-clause-part
returns-then-count-room-clause-part g c =
    part_full _ _ _ c.args.room c.args.at c.if-count-room.true
    (part_turn _ _ c.loop.page _ c.read_at.new.buf c.loop.count c.in-Ok.more c.args.room c.args.at _ (ap (λ (h : List ℕ → Option (List ℕ)). h c.args.name.now) c.loop.invariant.files.held) refl (search rules) (omega (arith, c.loop.invariant.less)) (omega (arith, c.loop.invariant.less, c.loop.invariant.whole, c.requires.fits)) (search rules)
    c.bytes_mut.ensures.bytes c.loop.invariant.so_far c.in-Ok.ensures.bytes)

pub loop-preserved : goal.loop-preserved
loop-preserved g c = record {
  files = OnlyReads-trans _ _ _ _ c.loop.invariant.files (record { reads = c.in-Ok.ensures.reads; writes = c.in-Ok.ensures.writes; held = c.in-Ok.ensures.held; tells = c.in-Ok.ensures.tells; serves = c.in-Ok.ensures.serves });
  whole = put_whole c.loop.page _ c.read_at.new.buf c.loop.count c.args.room c.bytes_mut.ensures.bytes c.loop.invariant.whole (omega (arith, c.loop.invariant.less)) c.requires.fits (search rules);
  turns = search rules;
  less = search rules;
  so_far = part_turn _ _ c.loop.page _ c.read_at.new.buf c.loop.count c.in-Ok.more c.args.room c.args.at _ (ap (λ (h : List ℕ → Option (List ℕ)). h c.args.name.now) c.loop.invariant.files.held) refl (search rules) (omega (arith, c.loop.invariant.less)) (omega (arith, c.loop.invariant.less, c.loop.invariant.whole, c.requires.fits)) (search rules)
      c.bytes_mut.ensures.bytes c.loop.invariant.so_far c.in-Ok.ensures.bytes;
}
