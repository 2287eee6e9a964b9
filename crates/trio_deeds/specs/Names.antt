-- The names in the blocks of a directory, in the order of block and slot.
use Rattle.std.specs.Prelude.{ℕ, List, [], ◌∷◌, map, Option, Some, None}
use Rattle.std.specs.List.{filter_map, flat_map}
use Rattle.trio_rights.specs.declared.kind.Kind.{Kind}
use Rattle.trio_layout.specs.declared.slot.EntryPart.{EntryPart}
use Rattle.trio_session.specs.Deeds.{slots_of_page}

-- the name and the kind of an entry
abbrev pub named : EntryPart → List ℕ × Kind
named e = (e.name, e.kind)

-- those of an entry, where there is one
abbrev pub named_in : Option EntryPart → List (List ℕ × Kind)
named_in None = []
named_in (Some e) = named e ∷ []

-- those of the first slots of a page
abbrev pub names_on : List ℕ → List (List ℕ × Kind)
names_on page = map named (filter_map (λ e. e) (slots_of_page page))

-- those of pages
abbrev pub names_of_pages : List (List ℕ) → List (List ℕ × Kind)
names_of_pages pages = flat_map names_on pages
