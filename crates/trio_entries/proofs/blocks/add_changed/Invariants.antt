use Rattle.trio_entries.proofs.Words.{◌++◌, ◌+◌, ◌≡◌, ◌≤◌, List, Option, Row, blocks_in, changed_blocks, drop, handed_in, numbers_of, vec_capacity, vec_len, whole_case}
use Rattle.trio_entries.proofs.blocks.add_changed.Given as goal

abbrev pub invariant-loop-i : goal.invariant-loop-i
invariant-loop-i l =
    ((rows : List (Option Row)) → blocks_in l.case l.blocks.items ++ changed_blocks (whole_case l.case rows) l.notes (handed_in l.case.bundle) l.file l.i (drop l.i (numbers_of l.pages)) ≡ blocks_in l.case l.fn.blocks.items ++ changed_blocks (whole_case l.case rows) l.notes (handed_in l.case.bundle) l.file 0 (numbers_of l.pages))
    × ((vec_len l.blocks ≤ vec_len l.fn.blocks + l.i) × (vec_capacity l.blocks ≡ vec_capacity l.fn.blocks))
