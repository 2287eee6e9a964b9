use Rattle.trio_entries.proofs.Words.{◌∙◌, List, Some, ap, as_row, bundle_in, case_in, cond, drop, entry_seen, is_among, noted_guard, noted_size, size_in, slot_of, sym, whole_case, written_guard, written_size, ℕ}
use Rattle.std.specs.Prelude.{unwrap_or}
use Rattle.trio_layout.specs.Body.{guard_in}
use Rattle.trio_entries.proofs.EntryLemmas.{name_within, part_named, tells_none, tells_row, untold_by_slot}
use Rattle.trio_entries.proofs.told.told_entry.Goals as goal

pub slot_name-requires : goal.slot_name-requires
slot_name-requires c =
    name_within (case_in c.args.case.now) (entry_seen c.args.entry.now) c.in_ok-slot.slot.now c.in_ok-slot.ensures.some c.requires.readable

pub returns-then-is_untold : goal.returns-then-is_untold
returns-then-is_untold c =
    let e = entry_seen c.args.entry.now in
    let untold = untold_by_slot (whole_case c.args.case.now c.args.rows.now) c.args.notes.now e c.in_ok-slot.slot.now c.slot_name.result.now c.in_ok-slot.ensures.some c.slot_name.ensures in
    tells_none (whole_case c.args.case.now c.args.rows.now) c.args.listing.now.listing c.args.notes.now e (sym untold ∙ sym c.is_untold.ensures ∙ c.if-is_untold.true)

pub returns : goal.returns
returns c =
    let e = entry_seen c.args.entry.now in
    let b = bundle_in c.args.case.now.bundle in
    let untold = untold_by_slot (whole_case c.args.case.now c.args.rows.now) c.args.notes.now e c.in_ok-slot.slot.now c.slot_name.result.now c.in_ok-slot.ensures.some c.slot_name.ensures in
    let named = part_named (whole_case c.args.case.now c.args.rows.now) e c.in_ok-slot.slot.now c.in-Entry.part c.in_ok-slot.ensures.some (c.in-Entry.ensures.value ∙ ap (λ n. slot_of n c.in_ok-slot.slot.now) c.inodes.ensures) in
    let sized = c.entry_said-said.ensures.size ∙ ap (λ (s : List ℕ). unwrap_or (written_size b e.ino) (cond (is_among e.ino b.numbers) (size_in (drop 192 s)) (noted_size c.args.notes.now e.ino))) c.in_ok-slot.ensures.some in
    let guards = c.entry_said-said.ensures.guard ∙ ap (λ (s : List ℕ). unwrap_or (written_guard b e.ino) (cond (is_among e.ino b.numbers) (guard_in (drop 192 s)) (noted_guard c.args.notes.now e.ino))) c.in_ok-slot.ensures.some in
    ap Some c.told_row.ensures
    ∙ tells_row (whole_case c.args.case.now c.args.rows.now) c.args.listing.now.listing c.args.notes.now e c.in-Entry.part.name c.entry_said-said.result.size c.entry_said-said.result.guard (Some (as_row c.in_ok-row.row)) named (sym untold ∙ sym c.is_untold.ensures ∙ c.if-is_untold.false) sized guards c.in_ok-row.ensures
