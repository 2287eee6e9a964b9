use Rattle.trio_commit.proofs.Words.{◌+◌, None, arith, entry_seen, get_or, kept_children, map, page_changes, taken_number, with_taken}
use Rattle.trio_commit.proofs.Cells.{no_entry}
use Rattle.trio_commit.proofs.Placing.{entry_In, next_kept, next_looks}
use Rattle.trio_commit.proofs.bodies.put_kept.Goals as goal

pub put_entry-taken-requires-clause-slot : goal.put_entry-taken-requires-clause-slot
put_entry-taken-requires-clause-slot c =
    let es = c.args.entries.now in
    let i = c.loop-entry.entry-index in
    c.requires.slots (entry_seen (get_or es i no_entry)) (entry_In es i no_entry (omega arith))

pub put_entry-taken-requires-clause-no_root : goal.put_entry-taken-requires-clause-no_root
put_entry-taken-requires-clause-no_root c =
    let es = c.args.entries.now in
    let i = c.loop-entry.entry-index in
    c.requires.no_root (entry_seen (get_or es i no_entry)) (entry_In es i no_entry (omega arith))

pub loop-entry-preserved : goal.loop-entry-preserved
loop-entry-preserved c =
    let turn = c.loop-entry in
    let cs = c.args.checkpoints.now in
    let es = c.args.entries.now in
    let all = page_changes None (kept_children cs (map entry_seen es)) in
    let put = c.put_entry-taken in
    record {
      away = put.ensures.away;
      pages = next_kept cs es turn.entry-index no_entry c.args.home.now.pages (with_taken turn.taken turn.home.pages) (with_taken put.result put.new.home.pages) (omega arith) turn.invariant.pages put.ensures.pages;
      floor = omega (arith, turn.invariant.floor, put.ensures.floor);
      looked = next_looks cs es turn.entry-index no_entry (taken_number turn.taken) (taken_number put.result) turn.home.looked put.new.home.looked (c.args.home.now.looked + all) (omega arith) turn.invariant.looked put.ensures.looked;
      reads = next_looks cs es turn.entry-index no_entry (taken_number turn.taken) (taken_number put.result) turn.reads put.new.reads (c.args.reads.now + all) (omega arith) turn.invariant.reads put.ensures.reads;
    }
