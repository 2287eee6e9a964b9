-- What a file says doesn't hang on the body of the root.
use Rattle.trio_survey.proofs.Words.{◌-◌, ◌∙◌, ◌≡◌, Core, Directory, Err, Kind, Link, List, Met, Ok, Regular, Result, ap, block_count, body_of, chain_from, chain_of, core_with, entries_of_kind, eqb, file_with, index_count, index_page, min, nowhere, refl, result_map, result_then, suc, there_or, with_index, zero, ℕ}
use Rattle.trio_layout.specs.Survey.{file_of}

-- the core without its root
abbrev pub rootless : Core → Core
rootless core = core_with core.pages core.range core.inodes

then_same : {X Y E : Type 0} (f g : X → Result Y E) (r : Result X E) → ((x : X) → f x ≡ g x) → result_then f r ≡ result_then g r
then_same f g (Ok x) h = h x
then_same f g (Err e) h = refl

pub chain_rootless : (core : Core) (n blocks at : ℕ) → chain_from core n blocks at ≡ chain_from (rootless core) n blocks at
chain_rootless core zero blocks at = refl
chain_rootless core (suc n) blocks at =
    then_same (λ i. result_map (with_index at i) (chain_from core n (blocks - 511) i.next)) (λ i. result_map (with_index at i) (chain_from (rootless core) n (blocks - 511) i.next))
    (index_page core at (min blocks 511) (eqb n 0))
    (λ i. ap (result_map (with_index at i)) (chain_rootless core n (blocks - 511) i.next))

entries_rootless : (core : Core) (kind : Kind) (blocks : List ℕ) → entries_of_kind core kind blocks ≡ entries_of_kind (rootless core) kind blocks
entries_rootless core Regular blocks = refl
entries_rootless core Directory blocks = refl
entries_rootless core Link blocks = refl

pub file_rootless : (core : Core) (m : Met) → file_of core m ≡ file_of (rootless core) m
unfolding file_of
file_rootless core m =
    then_same (λ b. result_then (file_with core m.kind b) (chain_of core b)) (λ b. result_then (file_with (rootless core) m.kind b) (chain_of (rootless core) b))
    (there_or nowhere (body_of m.kind core.range m.body))
    (λ b.
    let blocks : ℕ = block_count b.size in
    ap (result_then (file_with core m.kind b)) (chain_rootless core (index_count blocks) blocks b.head)
    ∙ then_same (file_with core m.kind b) (file_with (rootless core) m.kind b) (chain_of (rootless core) b)
    (λ c. ap (result_map (λ es. record { body = b; chain = c; entries = es })) (entries_rootless core m.kind c.blocks)))
