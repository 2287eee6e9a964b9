-- The tree of a core that has the same core pages as another.
use Rattle.trio_app.proofs.Words.{if◌then◌else◌, ◌&&◌, ◌++◌, ◌+◌, ◌<◌, ◌∙◌, ◌∷◌, ◌≡◌, ◌≤◌, Bool, Core, List, None, Option, Superblock, TreeLine, [], and_parts, ap, core_in, false, leb-true, min, nat_le, refl, suc, true, zero, ℕ}
use Rattle.std.proofs.Common.{◌-◌, eqb, Result, Ok, Err}
use Rattle.std.specs.Prelude.{nat_lt, slice_index_or}
use Rattle.std.specs.List.{flat_map}
use Rattle.std.specs.Option.{option_and_then}
use Rattle.std.proofs.lemmas.Bool.{ltb-true}
use Rattle.trio_rights.specs.declared.kind.Kind.{Kind}
use Rattle.trio_rights.specs.declared.kind.Kind.TheVariants.{Regular, Directory, Link}
use Rattle.trio_layout.specs.Body.{body_of, block_count}
use Rattle.trio_layout.specs.Index.{index_of}
use Rattle.trio_lists.specs.Lists.{both, gathered, result_map, result_then, there_or}
use Rattle.trio_layout.specs.Core.{Location, at_page, nowhere, page_of}
use Rattle.trio_layout.specs.Chain.{chain_from, chain_of, index_count, index_page, with_index}
use Rattle.trio_layout.specs.Entries.{Listed, entries_on, entries_of_kind, page_entries, with_names_apart}
use Rattle.trio_layout.specs.Survey.{Met, FileRead, file_of, file_with, met_in, plain, root_of}
use Rattle.trio_layout.specs.Tree.{by_name, lines_from, lines_with, told_line, tree_of}

-- the core with other pages
abbrev pub repaged : Core → List (Option (List ℕ)) → Core
repaged core pages = record { pages = pages; root = core.root; range = core.range; inodes = core.inodes }

-- its core pages are the same
abbrev pub HasSamePages : Core → List (Option (List ℕ)) → Type 0
HasSamePages core pages = (p : ℕ) → page_of core p ≡ page_of (repaged core pages) p

then_same : {X Y E : Type 0} (f g : X → Result Y E) (r : Result X E) → ((x : X) → f x ≡ g x) → result_then f r ≡ result_then g r
then_same f g (Ok x) h = h x
then_same f g (Err e) h = refl

gathered_same : {X Y E : Type 0} (f g : X → Result (List Y) E) (xs : List X) → ((x : X) → f x ≡ g x) → gathered f xs ≡ gathered g xs
gathered_same f g [] h = refl
gathered_same f g (x ∷ xs) h = ap (λ r. both r (gathered f xs)) (h x) ∙ ap (both (g x)) (gathered_same f g xs h)

flat_map_same : {X Y : Type 0} (f g : X → List Y) (xs : List X) → ((x : X) → f x ≡ g x) → flat_map f xs ≡ flat_map g xs
flat_map_same f g [] h = refl
flat_map_same f g (x ∷ xs) h = ap (λ ys. ys ++ flat_map f xs) (h x) ∙ ap (λ ys. g x ++ ys) (flat_map_same f g xs h)

chain_same : (a : Core) (pages : List (Option (List ℕ))) → HasSamePages a pages → (n blocks at : ℕ) → chain_from a n blocks at ≡ chain_from (repaged a pages) n blocks at
chain_same a pages h zero blocks at = refl
chain_same a pages h (suc n) blocks at =
    then_same (λ i. result_map (with_index at i) (chain_from a n (blocks - 511) i.next)) (λ i. result_map (with_index at i) (chain_from (repaged a pages) n (blocks - 511) i.next))
    (index_page a at (min blocks 511) (eqb n 0))
    (λ i. ap (result_map (with_index at i)) (chain_same a pages h n (blocks - 511) i.next))
    ∙ ap (λ (o : Option (List ℕ)). result_then (λ i. result_map (with_index at i) (chain_from (repaged a pages) n (blocks - 511) i.next)) (there_or (at_page at) (option_and_then (index_of (min blocks 511) (eqb n 0) a.range) o))) (h at)

entries_same : (a : Core) (pages : List (Option (List ℕ))) → HasSamePages a pages → (kind : Kind) (blocks : List ℕ) → entries_of_kind a kind blocks ≡ entries_of_kind (repaged a pages) kind blocks
entries_same a pages h Regular blocks = refl
entries_same a pages h Link blocks = refl
entries_same a pages h Directory blocks =
    ap (result_then with_names_apart) (gathered_same (page_entries a) (page_entries (repaged a pages)) blocks
    (λ page. ap (λ (o : Option (List ℕ)). result_then (entries_on a.inodes page) (there_or (at_page page) o)) (h page)))

file_same : (a : Core) (pages : List (Option (List ℕ))) → HasSamePages a pages → (m : Met) → file_of a m ≡ file_of (repaged a pages) m
unfolding file_of
file_same a pages h m =
    let b' : Core = repaged a pages in
    then_same (λ b. result_then (file_with a m.kind b) (chain_of a b)) (λ b. result_then (file_with b' m.kind b) (chain_of b' b))
    (there_or nowhere (body_of m.kind a.range m.body))
    (λ b. ap (result_then (file_with a m.kind b)) (chain_same a pages h (index_count (block_count b.size)) (block_count b.size) b.head)
    ∙ then_same (file_with a m.kind b) (file_with b' m.kind b) (chain_of b' b)
    (λ c. ap (result_map (λ es. record { body = b; chain = c; entries = es })) (entries_same a pages h m.kind c.blocks)))

with_same : (f g : Listed → List TreeLine) (depth : ℕ) (name : List ℕ) (kind : Kind) (r : Result FileRead Location) → ((l : Listed) → f l ≡ g l) → lines_with f depth name kind r ≡ lines_with g depth name kind r
with_same f g depth name kind (Err place) h = refl
with_same f g depth name kind (Ok r) h = ap (λ ys. told_line depth name kind r ∷ ys) (flat_map_same f g (by_name r.entries) h)

lines_same : (a : Core) (pages : List (Option (List ℕ))) → HasSamePages a pages → (levels depth : ℕ) (name : List ℕ) (m : Met) → lines_from a levels depth name m ≡ lines_from (repaged a pages) levels depth name m
lines_same a pages h zero depth name m = refl
lines_same a pages h (suc levels) depth name m =
    with_same (λ l. lines_from a levels (depth + 1) l.entry.name (met_in plain m.ino l)) (λ l. lines_from (repaged a pages) levels (depth + 1) l.entry.name (met_in plain m.ino l))
    depth name m.kind (file_of a m)
    (λ l. lines_same a pages h levels (depth + 1) l.entry.name (met_in plain m.ino l))
    ∙ ap (lines_with (λ l. lines_from (repaged a pages) levels (depth + 1) l.entry.name (met_in plain m.ino l)) depth name m.kind) (file_same a pages h m)

tree_repaged : (a : Core) (pages : List (Option (List ℕ))) → HasSamePages a pages → tree_of a ≡ tree_of (repaged a pages)
unfolding tree_of
tree_repaged a pages h = lines_same a pages h (suc a.inodes) 0 (47 ∷ []) (root_of a)

if_same : {X : Type 0} (b : Bool) (x y z : X) → (b ≡ true → x ≡ y) → (if b then x else z) ≡ (if b then y else z)
if_same true x y z h = h refl
if_same false x y z h = refl

-- pages that are the same from the first core page on have the same tree
pub tree_same : (s : Superblock) (pages other : List (Option (List ℕ))) → ((p : ℕ) → s.first_core ≤ p → p < s.pages → slice_index_or other p None ≡ slice_index_or pages p None) → tree_of (core_in s other) ≡ tree_of (core_in s pages)
tree_same s pages other h =
    tree_repaged (core_in s other) pages
    (λ p. if_same (nat_le s.first_core p && nat_lt p s.pages) (slice_index_or other p None) (slice_index_or pages p None) None
    (λ e. let both = and_parts (nat_le s.first_core p) (nat_lt p s.pages) e in h p (leb-true s.first_core p both.0) (ltb-true p s.pages both.1)))
