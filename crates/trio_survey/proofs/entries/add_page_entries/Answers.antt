use Rattle.trio_survey.proofs.Words.{◌∙◌, Ok, ap, arith, both, listed_seen, map, slot_bytes, slot_entries, sym}
use Rattle.trio_survey.proofs.Gathers.{slot_is, entries_on_fault, entries_on_all, gathered_below_more}
use Rattle.trio_survey.proofs.entries.add_page_entries.Goals as goal

pub returns-then-not-branch : goal.returns-then-not-branch
returns-then-not-branch c =
    let bytes = c.args.page.now in
    let slot = c.loop-slot.slot in
    let here = slot_is c.args.inodes c.args.no slot bytes c.slot_bytes.result.now (c.slot_bytes.ensures ∙ ap (slot_bytes slot) c.bytes-bytes.ensures.bytes) in
    let added = rw c.if-not-branch.true at c.in_ok-add_slot_entry.ensures in
    let bad = ap (both (Ok (map listed_seen c.loop-slot.entries.items))) (sym here) ∙ added in
    entries_on_fault c.args.inodes c.args.no bytes slot _ _ _ (omega arith) bad c.loop-slot.invariant

pub loop-slot-preserved : goal.loop-slot-preserved
loop-slot-preserved c =
    let bytes = c.args.page.now in
    let slot = c.loop-slot.slot in
    let here = slot_is c.args.inodes c.args.no slot bytes c.slot_bytes.result.now (c.slot_bytes.ensures ∙ ap (slot_bytes slot) c.bytes-bytes.ensures.bytes) in
    let added = rw c.if-not-branch.false at c.in_ok-add_slot_entry.ensures in
    gathered_below_more (slot_entries c.args.inodes c.args.no bytes) slot _ _ c.loop-slot.invariant
    ∙ ap (both (Ok (map listed_seen c.loop-slot.entries.items))) (sym here) ∙ added

pub returns : goal.returns
returns c = entries_on_all c.args.inodes c.args.no c.args.page.now c.loop-slot.slot _ _ (omega arith) (omega arith) c.loop-slot.invariant
