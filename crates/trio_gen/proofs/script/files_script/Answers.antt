use Rattle.trio_gen.proofs.Words.{◌+◌, AreWithin, ap, arith, length, sym}
use Rattle.std.proofs.Common.{subst}
use Rattle.trio_gen.proofs.LineFacts.{library_few}
use Rattle.trio_gen.proofs.Scripts.{files_are_within, files_made, library_put, next_put}
use Rattle.trio_gen.proofs.script.files_script.Goals as goal

pub push_library-requires : goal.push_library-requires
push_library-requires c =
    let few = library_few c.args.number c.args.files (c.loop-k.k + 1) in
    let is = ap length c.in_ok-lines.ensures in
    omega (arith, few, is, c.loop-k.invariant.low, c.loop-k-test.true, c.requires)

pub loop-k-preserved : goal.loop-k-preserved
loop-k-preserved c =
    let few = library_few c.args.number c.args.files (c.loop-k.k + 1) in
    let is = ap length c.in_ok-lines.ensures in
    let turn = c.loop-k.invariant in
    let next = c.in_ok-next.ensures.next in
    record {
      libs = library_put c.args.number c.args.files c.loop-k.k c.loop-k.next c.in_ok-lines.lines.items c.loop-k.libs.items c.push_library.new.libs.items turn.libs turn.next c.in_ok-lines.ensures c.in_ok-next.ensures.library;
      next = next_put c.args.number c.args.files c.loop-k.k c.loop-k.next c.in_ok-next.next c.in_ok-lines.lines.items turn.next c.in_ok-lines.ensures next;
      low = omega (arith, few, is, turn.low, next, c.requires);
    }

pub returns-clause-script : goal.returns-clause-script
returns-clause-script c = files_made c.args.number c.args.files c.loop-k.k c.loop-k.libs.items (omega (arith, c.loop-k-test.false, c.loop-k.auto.k-end)) c.loop-k.invariant.libs

pub returns-clause-within : goal.returns-clause-within
returns-clause-within c =
    subst AreWithin (sym (files_made c.args.number c.args.files c.loop-k.k c.loop-k.libs.items (omega (arith, c.loop-k-test.false, c.loop-k.auto.k-end)) c.loop-k.invariant.libs))
    (files_are_within c.args.number c.args.files)
