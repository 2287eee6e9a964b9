-- The memory of a case, by how much its bundle has. Cited by private functions alone.
use Rattle.std.specs.Prelude.{ℕ, ◌≡◌, ◌+◌, ◌*◌, ◌≤◌, true, [], map, vec_capacity}
use Rattle.trio_lists.specs.Lists.{are_new}
use Rattle.trio_lease.specs.Bundles.{Bundled}
use Rattle.trio_case.specs.inner.Numbered.{HasNumberPlaces, is_blank}
use Rattle.trio_case.specs.declared.size.BundleSize.{BundleSize}
use Rattle.trio_case.specs.declared.numbered.NumbersRoom.{NumbersRoom}
use Rattle.trio_case.specs.declared.numbers.NumbersMemory.{NumbersMemory}
use Rattle.trio_case.specs.declared.numbers.RowsMemory.{RowsMemory}
use Rattle.trio_case.specs.declared.numbers.RowsRoom.{RowsRoom}

-- each list of its numbers has none twice
pub record NumbersDiffer (b : Bundled) : Type 0 where
  pub writes : are_new [] (map (λ f. f.stands.ino) b.writes) ≡ true
  pub holds : are_new [] (map (λ h. h.ino) b.holds) ≡ true
  pub fresh : are_new [] (map (λ n. n.no) b.inodes) ≡ true

-- there is memory for so many numbers, and none is there yet
pub record IsNumbersRoom (values : ℕ) (room : NumbersRoom) : Type 0 where
  pub places : HasNumberPlaces values room
  pub blank : is_blank room

-- there is, for the write leases, the holds and the handed-in numbers of a bundle of this size
pub record HasNumbersMemory (size : BundleSize) (m : NumbersMemory) : Type 0 where
  pub writes : IsNumbersRoom size.values m.writes
  pub holds : IsNumbersRoom size.holds m.holds
  pub held_order : size.holds ≤ vec_capacity m.held_order
  pub fresh : IsNumbersRoom size.inodes m.fresh

-- there is memory for so many rows and their numbers
pub record HasRowPlaces (count : ℕ) (room : RowsRoom) : Type 0 where
  pub numbers : count ≤ vec_capacity room.numbers
  pub rows : count ≤ vec_capacity room.rows

-- no row was added yet
pub record HasNoRows (room : RowsRoom) : Type 0 where
  pub numbers : room.numbers.items ≡ []
  pub rows : room.rows.items ≡ []

-- There is memory for the rows that are copied for a bundle of this size: a list for its own files alone, and, where it writes a
-- directory, one for these and for 16 children to each of its pages.
pub record HasRowsFor (size : BundleSize) (m : RowsMemory) : Type 0 where
  pub few : size.values ≤ vec_capacity m.few
  pub no_few : m.few.items ≡ []
  pub listed : size.lists ≡ true → HasRowPlaces (size.values + 16 * size.pages) m.listed
  pub none_listed : HasNoRows m.listed
