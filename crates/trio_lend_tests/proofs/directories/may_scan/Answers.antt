use Rattle.std.proofs.Common.{◌≡◌, ◌++◌, ℕ, true, refl, subst, arith}
use Rattle.std.specs.Result.{is_ok}
use Rattle.trio_layout.specs.Entries.{entries_on, slot_entries}
use Rattle.trio_lists.specs.Lists.{gathered_below, tabulated}
use Rattle.trio_auxdir.specs.Slots.{slot_on, slots_on, NamesDiffer}
use Rattle.trio_auxdir.proofs.Scans.{differ_more, read_more}
use Rattle.trio_lend_tests.proofs.directories.may_scan.Goals as goal

pub loop-slot-preserved : goal.loop-slot-preserved
loop-slot-preserved c = record {
  read = read_more 16384 c.args.page.now c.loop-slot.slot c.loop-slot.invariant.read (c.if-not-is_new.ensures.read refl);
  differ = λ before.
      differ_more (slot_on 16384 c.args.page.now) c.args.dir.now.slots c.loop-slot.slot (c.loop-slot.invariant.differ before)
      (c.if-not-is_new.ensures.apart refl) (c.if-not-is_new.ensures.first refl);
}

pub returns-clause-read : goal.returns-clause-read
unfolding entries_on
returns-clause-read c = λ yes.
    let all : c.loop-slot.slot ≡ 16 = omega arith in
    subst (λ (k : ℕ). is_ok (gathered_below (slot_entries 16384 0 c.args.page.now) k) ≡ true) all c.loop-slot.invariant.read

pub returns-clause-differ : goal.returns-clause-differ
unfolding slots_on
returns-clause-differ c = λ yes before.
    let all : c.loop-slot.slot ≡ 16 = omega arith in
    subst (λ (k : ℕ). NamesDiffer (c.args.dir.now.slots ++ tabulated (slot_on 16384 c.args.page.now) k)) all (c.loop-slot.invariant.differ before)
