-- A stable sort by name is the order of names.
use Rattle.std.proofs.Common.{◌≡◌, ℕ, List, [], ◌∷◌, ◌++◌, map, reverse, refl, sym, ap, ◌∙◌}
use Rattle.std.specs.Cmp.Lexicographic.{slice_cmp}
use Rattle.std.specs.List.Sorted.{IsSortedByKey, IsStableByKey}
use Rattle.std.specs.Ordering.{nat_cmp}
use Rattle.std.proofs.lemmas.List.{map-append, reverse-append}
use Rattle.trio_survey.specs.declared.file.EntryRead.{EntryRead}
use Rattle.trio_survey.specs.Seen.{listed_seen}
use Rattle.trio_layout.specs.Tree.{by_name, listed_name}
use Rattle.trio_lists.proofs.ByName.{map-sorted_by_name, sorted_by_name-stable}

pub map-reverse : {X Y : Type 0} (f : X → Y) (xs : List X) → map f (reverse xs) ≡ reverse (map f xs)
map-reverse f [] = refl
map-reverse f (x ∷ xs) =
    ap (map f) (reverse-append (x ∷ []) xs) ∙ map-append f (reverse xs) (x ∷ []) ∙ ap (λ l. l ++ f x ∷ []) (map-reverse f xs) ∙ sym (reverse-append (f x ∷ []) (map f xs))

-- the name of an entry
abbrev pub name_of : EntryRead → List ℕ
name_of l = l.entry.name

pub sorted_by_name : (xs ys : List EntryRead) → IsSortedByKey name_of (slice_cmp nat_cmp) ys → IsStableByKey name_of (slice_cmp nat_cmp) xs ys → map listed_seen ys ≡ by_name (map listed_seen xs)
sorted_by_name xs ys up stable =
    ap (map listed_seen) (sorted_by_name-stable name_of xs ys up stable) ∙ map-sorted_by_name listed_seen listed_name xs
