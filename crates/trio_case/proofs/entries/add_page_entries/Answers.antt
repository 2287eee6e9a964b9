use Rattle.trio_case.proofs.Words.{◌∙◌, Ok, ap, arith, both, slot_bytes, slot_entries, sym, vec_len}
use Rattle.trio_case.proofs.Gathers.{slot_is, entries_on_fault, entries_on_all, gathered_below_more, take_before}
use Rattle.trio_case.proofs.Keeping.{front_trans, named_more, seen_more}
use Rattle.trio_case.proofs.entries.add_page_entries.Goals as goal

pub returns-then-not-add_slot_entry-clause-entries : goal.returns-then-not-add_slot_entry-clause-entries
returns-then-not-add_slot_entry-clause-entries c =
    let bytes = c.args.page.now in
    let slot = c.loop-slot.slot in
    let here = slot_is c.args.inodes c.args.no slot bytes c.slot_bytes.result.now (c.slot_bytes.ensures ∙ ap (slot_bytes slot) c.bytes-bytes.ensures.bytes) in
    let added = rw c.if-not-add_slot_entry.true at c.add_slot_entry.ensures.entries in
    entries_on_fault c.args.inodes c.args.no bytes slot _ _ (omega arith) (sym here ∙ added) c.loop-slot.invariant.entries

pub returns-then-not-add_slot_entry-clause-named : goal.returns-then-not-add_slot_entry-clause-named
returns-then-not-add_slot_entry-clause-named c =
    let turn = c.loop-slot.invariant in
    let read = c.add_slot_entry.ensures in
    named_more (vec_len c.args.entries.now) (vec_len c.loop-slot.entries) c.loop-slot.entries.items c.add_slot_entry.new.entries.items c.loop-slot.names.names c.add_slot_entry.new.names.names turn.grown (omega arith) read.before read.names turn.named read.named

pub loop-slot-preserved : goal.loop-slot-preserved
loop-slot-preserved c =
    let bytes = c.args.page.now in
    let slot = c.loop-slot.slot in
    let turn = c.loop-slot.invariant in
    let n = vec_len c.args.entries.now in
    let m = vec_len c.loop-slot.entries in
    let now = c.loop-slot.entries.items in
    let next = c.add_slot_entry.new.entries.items in
    let names = c.loop-slot.names.names in
    let after = c.add_slot_entry.new.names.names in
    let read = c.add_slot_entry.ensures in
    let here = slot_is c.args.inodes c.args.no slot bytes c.slot_bytes.result.now (c.slot_bytes.ensures ∙ ap (slot_bytes slot) c.bytes-bytes.ensures.bytes) in
    let added = rw c.if-not-add_slot_entry.false at read.entries in
    record {
      entries = gathered_below_more (slot_entries c.args.inodes c.args.no bytes) slot _ turn.entries ∙ ap (both (Ok _)) (sym here ∙ added) ∙ ap Ok (sym (seen_more n m now next names after turn.grown (omega arith) read.before read.names turn.named));
      named = named_more n m now next names after turn.grown (omega arith) read.before read.names turn.named read.named;
      before = take_before _ _ now next c.args.entries.now.items (omega (arith, turn.grown)) read.before turn.before;
      grown = omega (arith, turn.grown, read.grown);
      few = omega (arith, turn.few, read.len);
      kept = omega (arith, turn.kept, read.room);
      names = front_trans c.args.names.now.names names after turn.names read.names;
      more = omega (arith, turn.more, read.more);
      room = read.space ∙ turn.room;
    }

pub returns-clause-entries : goal.returns-clause-entries
returns-clause-entries c = entries_on_all c.args.inodes c.args.no c.args.page.now c.loop-slot.slot _ (omega arith) (omega arith) c.loop-slot.invariant.entries
