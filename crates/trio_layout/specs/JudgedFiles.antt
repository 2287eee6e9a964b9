-- The files of a bundle that are judged, in the order found, with the entries and the pages that they list.
use Rattle.std.specs.Prelude.{ℕ, zero, suc, List, [], map, Option, None, Some}
use Rattle.std.specs.List.{filter, flat_map}
use Rattle.trio_rights.specs.Row.{Row, row_in}
use Rattle.trio_lists.specs.Lists.{is_among}
use Rattle.trio_lists.specs.Sorting.{sorted_by}
use Rattle.trio_layout.specs.Survey.{Met, Front, plain, children_in, descend, pages_in}
use Rattle.trio_rights.specs.Bundle.{Written}
use Rattle.trio_layout.specs.Case.{Case, file_in}

-- a written file with its lease's body, at the place that its row names
abbrev pub written_at : Written → Option Row → Met
written_at w None = record { ino = w.ino; kind = w.kind; parent = 0; page = 0; slot = 0; body = w.body }
written_at w (Some r) =
    record { ino = w.ino; kind = w.kind; parent = r.parent; page = r.page; slot = r.slot; body = w.body }

-- a written file of a case
abbrev pub written_met : Case → Written → Met
written_met c w = written_at w (row_in c.rows w.ino)

-- the written files in rising order of their numbers
abbrev pub written_files : Case → List Met
written_files c = map (written_met c) (sorted_by (λ w. w.ino) c.bundle.writes)

-- the entries of a file, each with the body in its slot, as far as the pages are the bundle's; a regular file has none
abbrev pub entries_in : Case → Met → List Met
entries_in c m = children_in plain m.ino (file_in c m)

-- those of them that name one of the bundle's numbers
abbrev pub new_entries : Case → Met → List Met
new_entries c m = filter (λ e. is_among e.ino c.bundle.numbers) (entries_in c m)

-- a walk from several files on, so many levels down, each number at its first listing
abbrev pub fronts : (Met → List Met) → List Met → ℕ → Front
fronts kids first zero = record { passed = []; level = first }
fronts kids first (suc k) = descend kids (fronts kids first k)

-- The judged files: the written ones in rising order of their numbers, and then, level by level, each entry of a judged
-- directory that names one of the bundle's numbers, at its first listing.
unfoldable pub judged_files : Case → List Met
judged_files c = (fronts (new_entries c) (written_files c) (suc c.inodes)).passed

-- the entries of the judged directories, in order
abbrev pub judged_entries : Case → List Met
judged_entries c = flat_map (entries_in c) (judged_files c)

-- the pages that a file lists, as far as its index pages are the bundle's
abbrev pub pages_within : Case → Met → List ℕ
pages_within c m = pages_in (file_in c m)

-- the pages that the judged files list, in order
abbrev pub judged_pages : Case → List ℕ
judged_pages c = flat_map (pages_within c) (judged_files c)
