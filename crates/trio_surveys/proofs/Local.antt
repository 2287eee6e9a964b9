-- A survey goes by the pages that it reads, and by nothing else of a core.
use Rattle.trio_surveys.proofs.Words.{◌++◌, ◌-◌, ◌∙◌, ◌∷◌, ◌≡◌, AgreeOn, Body, Chain, Core, Directory, FileRead, Front, In, In-left, In-right, Kind, Link, List, Listed, Met, Ok, Option, Pick, Regular, Some, [], ap, are_in_grammar, arith, at_page, block_count, body_of, both, chain_from, chain_of, children, children_in, descend, entries_of_kind, entries_on, first_listed, flat_map-same, gathered, index_count, index_of, index_page, inl, inr, is_ok, levels, list_all-In, min, numbers, option_and_then, page_entries, page_of, pages_read, refl, result_map, result_map-Ok, result_then, result_then-Ok, root_of, subst, suc, there_or, there_or-Ok, true, with_index, with_other, zero, ℕ}
use Rattle.std.proofs.Common.{◌==◌}
use Rattle.trio_layout.specs.Survey.{file_of, survey}
use Rattle.trio_lists.proofs.Members.{is_ok-Ok}

-- a file that is read, by its parts
pub record Reads (core : Core) (m : Met) (f : FileRead) : Type 0 where
  pub body : body_of m.kind core.range m.body ≡ Some f.body
  pub chain : chain_of core f.body ≡ Ok f.chain
  pub entries : entries_of_kind core m.kind f.chain.blocks ≡ Ok f.entries

file_parts : (core : Core) (m : Met) (f : FileRead) (b : Body) (c : Chain) (es : List Listed) → body_of m.kind core.range m.body ≡ Some b → chain_of core b ≡ Ok c → entries_of_kind core m.kind c.blocks ≡ Ok es → record { body = b; chain = c; entries = es } ≡ f → Reads core m f
file_parts core m f b c es p q r e =
    let R : FileRead → Type 0 = λ g. Reads core m g in subst R e (record { body = p; chain = q; entries = r })

pub reads_from : (core : Core) (m : Met) (f : FileRead) → file_of core m ≡ Ok f → Reads core m f
unfolding file_of
reads_from core m f e = search (arith, result_then-Ok, result_map-Ok, file_parts, there_or-Ok)

pub reads_to : (core : Core) (m : Met) (f : FileRead) → Reads core m f → file_of core m ≡ Ok f
unfolding file_of
reads_to core m f r = search arith

pub chain_follows : (core other : Core) → other.range ≡ core.range → (n blocks at : ℕ) (c : Chain) → chain_from core n blocks at ≡ Ok c → ((p : ℕ) → In p c.index → page_of other p ≡ page_of core p) → chain_from other n blocks at ≡ Ok c
chain_follows core other er zero blocks at c e h = e
chain_follows core other er (suc n) blocks at c e h =
    let used : ℕ = min blocks 511 in
    let s1 = result_then-Ok (λ i. result_map (with_index at i) (chain_from core n (blocks - 511) i.next)) (index_page core at used (n == 0)) c e in
    let i = s1.0 in
    let s2 = result_map-Ok (with_index at i) (chain_from core n (blocks - 511) i.next) c s1.2 in
    let idx : at ∷ s2.0.index ≡ c.index = ap (λ (x : Chain). x.index) s2.2 in
    let here : page_of other at ≡ page_of core at = h at (subst (λ l. In at l) idx (inl refl)) in
    let rest = chain_follows core other er n (blocks - 511) i.next s2.0 s2.1 (λ p k. h p (subst (λ l. In p l) idx (inr k))) in
    let page : index_page other at used (n == 0) ≡ index_page core at used (n == 0) =
    ap (λ r. there_or (at_page at) (option_and_then (index_of used (n == 0) r) (page_of other at))) er
    ∙ ap (λ o. there_or (at_page at) (option_and_then (index_of used (n == 0) core.range) o)) here in
    ap (result_then (λ i. result_map (with_index at i) (chain_from other n (blocks - 511) i.next))) (page ∙ s1.1)
    ∙ ap (result_map (with_index at i)) rest
    ∙ ap Ok s2.2

pub chain_local : (core : Core) (pages : List (Option (List ℕ))) (n blocks at : ℕ) (c : Chain) → chain_from core n blocks at ≡ Ok c → ((p : ℕ) → In p c.index → page_of (with_other core pages) p ≡ page_of core p) → chain_from (with_other core pages) n blocks at ≡ Ok c
chain_local core pages n blocks at c e h = chain_follows core (with_other core pages) refl n blocks at c e h

gathered_local : (core : Core) (pages : List (Option (List ℕ))) (blocks : List ℕ) → ((p : ℕ) → In p blocks → page_of (with_other core pages) p ≡ page_of core p) → gathered (page_entries (with_other core pages)) blocks ≡ gathered (page_entries core) blocks
gathered_local core pages [] h = refl
gathered_local core pages (b ∷ bs) h =
    ap (λ o. both (result_then (entries_on core.inodes b) (there_or (at_page b) o)) (gathered (page_entries (with_other core pages)) bs)) (h b (inl refl))
    ∙ ap (both (page_entries core b)) (gathered_local core pages bs (λ p k. h p (inr k)))

entries_local : (core : Core) (pages : List (Option (List ℕ))) (kind : Kind) (f : FileRead) → ((p : ℕ) → In p (pages_read kind f) → page_of (with_other core pages) p ≡ page_of core p) → entries_of_kind (with_other core pages) kind f.chain.blocks ≡ entries_of_kind core kind f.chain.blocks
entries_local core pages kind f h = search (arith, gathered_local, In-right)

index_read : (kind : Kind) (f : FileRead) (p : ℕ) → In p f.chain.index → In p (pages_read kind f)
index_read Regular f p k = k
index_read Directory f p k = In-left p f.chain.index f.chain.blocks k
index_read Link f p k = k

pub file_local : (core : Core) (pages : List (Option (List ℕ))) (m : Met) (f : FileRead) → file_of core m ≡ Ok f → ((p : ℕ) → In p (pages_read m.kind f) → page_of (with_other core pages) p ≡ page_of core p) → file_of (with_other core pages) m ≡ Ok f
file_local core pages m f e h =
    let r = reads_from core m f e in
    reads_to (with_other core pages) m f (record {
      body = r.body;
      chain = chain_local core pages (index_count (block_count f.body.size)) (block_count f.body.size) f.body.head f.chain r.chain (λ p k. h p (index_read m.kind f p k));
      entries = entries_local core pages m.kind f h ∙ r.entries;
    })

-- levels go by what the files before them list
pub levels_local : (f g : Met → List Met) (root : Met) (k : ℕ) → ((m : Met) → In m (levels f root k).passed → g m ≡ f m) → levels g root k ≡ levels f root k
levels_local f g root zero h = refl
levels_local f g root (suc k) h =
    let w : Front = levels f root k in
    ap (descend g) (levels_local f g root k (λ m i. h m (In-left m w.passed w.level i)))
    ∙ ap (λ l. record { passed = w.passed ++ w.level; level = first_listed (numbers (w.passed ++ w.level)) l }) (flat_map-same g f w.level (λ m i. h m (In-right m w.passed w.level i)))

-- one survey follows another where each file that is met lists the same
pub survey_follows : (a : Core) (pages : List (Option (List ℕ))) (p q : Pick) → ((m : Met) → In m (survey a p) → children (with_other a pages) q m ≡ children a p m) → survey (with_other a pages) q ≡ survey a p
unfolding survey
survey_follows a pages p q h =
    ap (λ w. w.passed) (levels_local (children a p) (children (with_other a pages) q) (root_of a) (suc a.inodes) h)

-- what a file says that is met in a survey in the grammar
pub read_at : (core : Core) (files : List Met) (m : Met) → are_in_grammar core files ≡ true → In m files → (f : FileRead) × (file_of core m ≡ Ok f)
read_at core files m g i = is_ok-Ok (file_of core m) (list_all-In (λ m. is_ok (file_of core m)) m files g i)

pub file_agrees : (core : Core) (pages : List (Option (List ℕ))) (files : List Met) → are_in_grammar core files ≡ true → AgreeOn core (with_other core pages) files → (m : Met) → In m files → file_of (with_other core pages) m ≡ file_of core m
file_agrees core pages files g h m i = search (arith, read_at, file_local)

pub survey_local : (core : Core) (pages : List (Option (List ℕ))) (pick : Pick) → are_in_grammar core (survey core pick) ≡ true → AgreeOn core (with_other core pages) (survey core pick) → survey (with_other core pages) pick ≡ survey core pick
survey_local core pages pick g h =
    survey_follows core pages pick pick (λ m i. ap (children_in pick m.ino) (file_agrees core pages (survey core pick) g h m i))
