use Rattle.trio_entries.proofs.Words.{◌++◌, ◌+◌, ◌≡◌, IsRoom, LentFile, drop, file_in, file_pages, flat_map, head_of, length, map, take, vec_capacity, ℕ}
use Rattle.trio_entries.proofs.handed.add_files.Given as goal

abbrev pub invariant-loop-lease : goal.invariant-loop-lease
invariant-loop-lease l = record {
  heads : l.heads.items ≡ map (λ (f : LentFile). head_of (file_in f.stands)) (take l.lease-index l.leases);
  capacity : vec_capacity l.heads ≡ vec_capacity l.fn.heads;
  pages : l.pages.pages.items ≡ l.fn.pages.pages.items ++ flat_map file_pages (take l.lease-index l.leases);
  room : IsRoom (length (flat_map file_pages (drop l.lease-index l.leases))) l.pages;
  rooms : (n : ℕ) → IsRoom (n + length (flat_map file_pages l.leases)) l.fn.pages → IsRoom (n + length (flat_map file_pages (drop l.lease-index l.leases))) l.pages;
}
