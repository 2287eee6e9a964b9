-- Names of a directory's blocks, slot by slot and block by block.
use Rattle.std.proofs.Common.{◌≡◌, ℕ, ◌+◌, ◌-◌, ◌<◌, List, [], ◌∷◌, ◌++◌, length, get_or, take, Option, Some, None, sym, refl, ap, ◌∙◌, add-one}
use Rattle.std.specs.Prelude.{map}
use Rattle.std.specs.List.{filter_map, flat_map}
use Rattle.std.specs.Option.{option_and_then}
use Rattle.std.proofs.lemmas.Grind.{flat_map-append}
use Rattle.std.proofs.lemmas.List.{append-nil, map-append, take_more}
use Rattle.std.proofs.lemmas.List.Elements.{filter_map-append}
use Rattle.std.proofs.lemmas.Option.{slice_get-get_or}
use Rattle.trio_rights.specs.declared.kind.Kind.{Kind}
use Rattle.trio_lists.specs.Lists.{tabulated}
use Rattle.trio_layout.specs.Entries.{slot_bytes}
use Rattle.trio_layout.specs.Slot.{slot_of}
use Rattle.trio_layout.specs.declared.slot.EntryPart.{EntryPart}
use Rattle.trio_auxdir.specs.declared.place.Place.{Place}
use Rattle.trio_session.specs.Seen.{SessionSeen, entry_in, entry_shown, every_number, pages_shown}
use Rattle.trio_session.proofs.Shows.{block_shown-pages}
use Rattle.trio_deeds.specs.Names.{named, named_in, names_of_pages, names_on}
use Rattle.trio_session.specs.Deeds.{slots_of_page}

-- the entry in a slot of a page
abbrev pub entry_at : List ℕ → ℕ → Option EntryPart
entry_at page slot = entry_in (slot_of every_number (slot_bytes slot page))

-- the names in the first slots of a page
abbrev pub names_below : List ℕ → ℕ → List (List ℕ × Kind)
names_below page n = map named (filter_map (λ e. e) (tabulated (entry_at page) n))

-- what the session shows of a slot stands in the page
pub entry_shown-page : (s : SessionSeen) (dir : ℕ) (place : Place) → place.block < length (pages_shown s dir) → entry_shown s dir place ≡ entry_at (get_or (pages_shown s dir) place.block []) place.slot
entry_shown-page s dir place lt =
    ap (option_and_then (λ bytes. entry_in (slot_of every_number (slot_bytes place.slot bytes)))) (block_shown-pages s dir place.block ∙ slice_get-get_or (pages_shown s dir) place.block [] lt)

named_present : (o : Option EntryPart) → map named (filter_map (λ e. e) (o ∷ [])) ≡ named_in o
named_present None = refl
named_present (Some e) = refl

-- with one slot more
pub names_below-more : (page : List ℕ) (n : ℕ) → names_below page (n + 1) ≡ names_below page n ++ named_in (entry_at page n)
names_below-more page n =
    rw add-one
    (ap (map named) (filter_map-append (λ e. e) (tabulated (entry_at page) n) (entry_at page n ∷ []))
    ∙ map-append named (filter_map (λ e. e) (tabulated (entry_at page) n)) (filter_map (λ e. e) (entry_at page n ∷ []))
    ∙ ap (λ l. names_below page n ++ l) (named_present (entry_at page n)))

-- with one block more
pub names_of_pages-more : (pages : List (List ℕ)) (n : ℕ) → n < length pages → names_of_pages (take (n + 1) pages) ≡ names_of_pages (take n pages) ++ names_on (get_or pages n [])
names_of_pages-more pages n lt =
    ap names_of_pages (take_more pages n [] lt)
    ∙ flat_map-append names_on (take n pages) (get_or pages n [] ∷ [])
    ∙ ap (λ l. names_of_pages (take n pages) ++ l) (append-nil (names_on (get_or pages n [])))

-- those of all pages are those of all entries
pub names_of_pages-entries : (pages : List (List ℕ)) → names_of_pages pages ≡ map named (filter_map (λ e. e) (flat_map slots_of_page pages))
names_of_pages-entries [] = refl
names_of_pages-entries (page ∷ pages) =
    ap (λ l. names_on page ++ l) (names_of_pages-entries pages)
    ∙ sym (map-append named (filter_map (λ e. e) (slots_of_page page)) (filter_map (λ e. e) (flat_map slots_of_page pages)))
    ∙ ap (map named) (sym (filter_map-append (λ e. e) (slots_of_page page) (flat_map slots_of_page pages)))
