use Rattle.trio_case.proofs.Words.{◌+◌, ◌≡◌, ◌≤◌, HasPlaces, KeepsPages, bundle_core, case_in, chain_of_within, index_count, looks_left, result_map, unread_blocks, vec_capacity, vec_len, writes_directory}
use Rattle.trio_layout.specs.Body.{block_count}
use Rattle.trio_case.proofs.Chains.{after, rest_of}
use Rattle.trio_case.proofs.chain.read_chain.Given as goal

abbrev pub invariant-loop-left : goal.invariant-loop-left
invariant-loop-left l = record {
  chain : result_map (after l.room.index.items l.room.blocks.items) (rest_of (bundle_core (case_in l.case)) l.left l.at) ≡ chain_of_within (bundle_core (case_in l.case)) l.body;
  index_room : vec_len l.room.index + index_count l.left ≤ index_count (block_count l.body.size);
  blocks_room : vec_len l.room.blocks + l.left ≤ block_count l.body.size;
  index_kept : vec_capacity l.fn.room.index ≤ vec_capacity l.room.index;
  blocks_kept : vec_capacity l.fn.room.blocks ≤ vec_capacity l.room.blocks;
  keeps : KeepsPages l.case l.room.kept;
  places : HasPlaces (writes_directory l.case.bundle) l.room.kept;
  names : l.room.kept.names ≡ l.fn.room.kept.names;
  unread : unread_blocks l.room.kept ≡ unread_blocks l.fn.room.kept;
  named : l.room.named ≡ l.fn.room.named;
  looks : l.reads + looks_left l.room ≤ l.fn.reads + looks_left l.fn.room;
}

abbrev pub decreases-loop-left : goal.decreases-loop-left
decreases-loop-left l = l.left
