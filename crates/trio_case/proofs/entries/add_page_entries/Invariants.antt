use Rattle.trio_case.proofs.Words.{◌+◌, ◌≡◌, ◌≤◌, AreNamed, IsFront, Ok, drop, gathered_below, length, listed_seen, map, slot_entries, take, vec_capacity, vec_len}
use Rattle.trio_case.proofs.entries.add_page_entries.Given as goal

abbrev pub invariant-loop-slot : goal.invariant-loop-slot
invariant-loop-slot l = record {
  entries : gathered_below (slot_entries l.inodes l.no l.page) l.slot ≡ Ok (map (listed_seen l.names.names) (drop (vec_len l.fn.entries) l.entries.items));
  named : AreNamed l.names.names (drop (vec_len l.fn.entries) l.entries.items);
  before : take (vec_len l.fn.entries) l.entries.items ≡ l.fn.entries.items;
  grown : vec_len l.fn.entries ≤ vec_len l.entries;
  few : vec_len l.entries ≤ vec_len l.fn.entries + l.slot;
  kept : vec_capacity l.fn.entries ≤ vec_capacity l.entries;
  names : IsFront l.fn.names.names l.names.names;
  more : length l.names.names ≤ length l.fn.names.names + l.slot;
  room : l.names.room ≡ l.fn.names.room;
}
