use Rattle.trio_entries.proofs.Words.{◌≡◌, ◌≤◌, List, Option, RawFile, Row, blocks_in, blocks_of_kind, bundle_in, covers_blocks, flat_map, handed_in, length, lent_blocks, not, take, vec_capacity, vec_len, whole_case}
use Rattle.trio_entries.proofs.blocks.refused_blocks.Given as goal

abbrev pub invariant-loop-file : goal.invariant-loop-file
invariant-loop-file l =
    ((rows : List (Option Row)) → blocks_in l.case l.blocks.items ≡ flat_map (λ (f : RawFile). blocks_of_kind (whole_case l.case rows) l.notes (handed_in l.case.bundle) f (not (covers_blocks f.kind f.guard)) (lent_blocks (bundle_in l.case.bundle) f.ino)) (take l.file-index l.files))
    × ((vec_len l.blocks ≤ length (flat_map (λ (f : RawFile). lent_blocks (bundle_in l.case.bundle) f.ino) (take l.file-index l.files))) × (vec_capacity l.blocks ≡ vec_capacity l.fn.blocks))
