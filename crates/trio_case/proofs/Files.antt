-- A directory from its parts.
use Rattle.trio_case.proofs.Words.{◌≡◌, Chain, Core, List, Listed, Location, Met, Ok, Option, Some, [], body_of, chain_of_within, entries_where, gathered, is_directory, page_of, refl, repeated_name, result_map, true}
use Rattle.trio_layout.specs.declared.body.Body.{Body}
use Rattle.trio_layout.specs.Entries.{unless_repeated}
use Rattle.trio_layout.specs.Within.{file_within}

pub file_directory : (core : Core) (m : Met) (b : Body) (c : Chain) (es : List Listed) (o : Option Location) → body_of m.kind core.range m.body ≡ Some b → chain_of_within core b ≡ Ok c → is_directory m.kind ≡ true → gathered (λ page. entries_where core.inodes page (page_of core page)) c.blocks ≡ Ok es → repeated_name [] es ≡ o → file_within core m ≡ result_map (λ es. record { body = b; chain = c; entries = es }) (unless_repeated es o)
unfolding file_within
file_directory core m b c es o h k d g r = rw (h, k, d, g, r) refl
