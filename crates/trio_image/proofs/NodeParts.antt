-- The parts of a node as they are read.
use Rattle.trio_image.proofs.Words.{if◌then◌else◌, ◌*◌, ◌++◌, ◌+◌, ◌-◌, ◌==◌, ◌∙◌, ◌∷◌, ◌≡◌, ◌≤◌, Body, Bool, Core, CoreRange, List, None, Ok, Option, Row, Some, Superblock, [], ap, arith, body_of_row, chain_of, content_of, core_in, core_with, drop, joined_pages, length, name_by_row, name_said, node_by_row, refl, slot_of, suc, sym, tabulated, tabulated-length, take, zero, ℕ}
use Rattle.std.proofs.Common.{Err}
use Rattle.trio_page.specs.Field.{number_at}
use Rattle.std.proofs.lemmas.List.{drop_all}
use Rattle.std.specs.Option.{option_map_or}
use Rattle.trio_rights.specs.declared.kind.Kind.{Kind}
use Rattle.trio_layout.specs.Body.{block_count, body_of, body_bytes, guard_in}
use Rattle.trio_layout.specs.Chain.{Chain, index_count}
use Rattle.trio_layout.specs.Core.{Location, page_of}
use Rattle.trio_layout.specs.Entries.{body_in_slot, slot_bytes}
use Rattle.trio_layout.specs.Image.{body_at_place}
use Rattle.trio_survey.proofs.Gathers.{body_is}
use Rattle.trio_survey.proofs.Roots.{chain_rootless}
use Rattle.trio_layout.proofs.SlotLemmas.{empty_value}
use Rattle.trio_nodes.specs.declared.node.Node.{Node}
use Rattle.trio_nodes.specs.Nodes.{Nodes, with_node}
use Rattle.trio_nodes.proofs.NodeFacts.{with_node-end}
use Rattle.trio_state.specs.ImageNodes.{bytes_at_place, chain_bytes}

-- a page has 16 slots
pub slot_bytes-past : (slot : ℕ) (bytes : List ℕ) → length bytes ≤ 256 * slot → slot_bytes slot bytes ≡ []
slot_bytes-past slot bytes le = let none : drop (256 * slot) bytes ≡ [] = drop_all (256 * slot) bytes le in let n : 256 * slot + 256 - 256 * slot ≡ 256 = omega arith in rw (n, none) refl

-- no bytes are no body
pub body_of-nothing : (kind : Kind) (range : CoreRange) → body_of kind range [] ≡ None
unfolding body_of body_bytes
body_of-nothing kind range = refl

-- the body at a place is the last of the slot's bytes
pub drop-place : (core : Core) (page slot : ℕ) → drop 192 (bytes_at_place core page slot) ≡ body_at_place core page slot
drop-place core page slot = by (page_of core page)
  where
    by : (o : Option (List ℕ)) → drop 192 (option_map_or (slot_bytes slot) o []) ≡ option_map_or (body_in_slot slot) o []
    by None = refl
    by (Some bytes) = body_is slot bytes

-- a chain goes by pages and range
pub chain_of-core_in : (s : Superblock) (pages : List (Option (List ℕ))) (b : Body) → chain_of (core_in s pages) b ≡ chain_of (core_with pages (core_in s pages).range s.inodes) b
chain_of-core_in s pages b = let blocks : ℕ = block_count b.size in chain_rootless (core_in s pages) (index_count blocks) blocks b.head

take-nothing : (n : ℕ) (xs : List ℕ) → xs ≡ [] → take n xs ≡ []
take-nothing zero xs e = refl
take-nothing (suc n) [] e = refl
take-nothing (suc n) (x ∷ xs) e = absurd cc

-- a chain that can't be read has no bytes
pub content-fault : (s : Superblock) (pages : List (Option (List ℕ))) (range : CoreRange) (b : Body) (place : Location) → range ≡ (core_in s pages).range
    → Err place ≡ chain_of (core_with pages range s.inodes) b → [] ≡ take b.size (chain_bytes (core_in s pages) (chain_of (core_in s pages) b))
content-fault s pages range b place r e =
    let there : Err place ≡ chain_of (core_with pages (core_in s pages).range s.inodes) b = rw (← r) e in
    let same : chain_of (core_in s pages) b ≡ Err place = chain_of-core_in s pages b ∙ sym there in
    sym (take-nothing b.size _ (ap (chain_bytes (core_in s pages)) same))

-- one that can be read has those of its blocks
pub content-read : (s : Superblock) (pages pages' : List (Option (List ℕ))) (range : CoreRange) (b : Body) (c : Chain) (bytes : List ℕ) → range ≡ (core_in s pages).range → pages' ≡ pages
    → Ok c ≡ chain_of (core_with pages range s.inodes) b → bytes ≡ joined_pages (core_with pages' range 0) c.blocks
    → take b.size bytes ≡ take b.size (chain_bytes (core_in s pages) (chain_of (core_in s pages) b))
content-read s pages pages' range b c bytes r p e is =
    let there : Ok c ≡ chain_of (core_with pages (core_in s pages).range s.inodes) b = rw (← r) e in
    let same : chain_of (core_in s pages) b ≡ Ok c = chain_of-core_in s pages b ∙ sym there in
    let joined : bytes ≡ joined_pages (core_in s pages) c.blocks =
    is ∙ ap (λ (ps : List (Option (List ℕ))). joined_pages (core_with ps range 0) c.blocks) p ∙ ap (λ (g : CoreRange). joined_pages (core_with pages g 0) c.blocks) r in
    ap (take b.size) (joined ∙ sym (ap (chain_bytes (core_in s pages)) same))

-- no bytes are an empty slot
pub name-nothing : (inodes : ℕ) → 45 ∷ [] ≡ name_said (slot_of inodes [])
unfolding number_at
name-nothing inodes = ap name_said (empty_value inodes [] refl)

-- one number more
pub tabulated-more : (f : ℕ → Option Node) (n : ℕ) (x : Option Node) (nodes : Nodes) → nodes ≡ tabulated f n → x ≡ f n → with_node nodes n x ≡ tabulated f (n + 1)
tabulated-more f n x nodes is e =
    let s : n + 1 ≡ suc n = omega arith in
    let len : length (tabulated f n) ≡ n = tabulated-length f n in
    ap (λ (l : Nodes). with_node l n x) is ∙ ap (λ (k : ℕ). with_node (tabulated f n) k x) (sym len) ∙ with_node-end (tabulated f n) x
    ∙ ap (λ (y : Option Node). tabulated f n ++ y ∷ []) e ∙ ap (tabulated f) (sym s)

-- the body of a live file
pub body-at_row : (core : Core) (n : ℕ) (r : Row) (slot body : List ℕ) → slot ≡ bytes_at_place core r.page r.slot
    → body ≡ (if n == 1 then core.root else drop 192 slot) → body ≡ body_of_row core n r
body-at_row core n r slot body is e =
    e ∙ ap (λ (b : List ℕ). if n == 1 then core.root else b) (ap (drop 192) is ∙ drop-place core r.page r.slot)

-- a node by its parts
pub node-parts : (core : Core) (n : ℕ) (r : Row) (name bytes : List ℕ) (guarded : Bool) → name ≡ name_by_row core r → guarded ≡ guard_in (body_of_row core n r) → bytes ≡ content_of core r.kind (body_of_row core n r)
    → record { parent = r.parent; name = name; kind = r.kind; mode = r.mode; uid = r.uid; gid = r.gid; guard = guarded; bytes = bytes } ≡ node_by_row core n r
node-parts core n r name bytes guarded a g b = rw (a, g, b) refl
