-- The state of an image that verifies is kept.
use Rattle.trio_ctl.proofs.Words.{◌*◌, ◌+◌, ◌-◌, ◌∙◌, ◌≡◌, ◌≤◌, Checkpointed, Creds, Entries, In, IsControlled, IsFit, IsTrue, IsVerified, Kept, Keyed, List, None, OpenGrant, Opened, Option, OutByNumber, Outline, Row, Some, State, Store, Superblock, Verifies, [], ap, are_new, arith, begun_among, checkpoint_at, core_in, grants_in, image_in, is_core, keyed, length, length-replicate, lib_at, map, nothing_out, page_count, reads_among, refl, replicate, slice_index_or, start, state_of, subst, suc, superblock_at_home, superblock_facts, superblock_fits, sym, tabulated-length, with_checkpoint, zero, ℕ}
use Rattle.trio_laws.proofs.Runs.{start_kept}
use Rattle.trio_tables.proofs.OutLemmas.{lib_at-none_out}
use Rattle.trio_ctl.proofs.Underways.{none_among}
use Rattle.trio_ctl.proofs.Wholes.{cond_there, whole_at, whole_none}

pub image_kept : (s : Superblock) (pages : List (Option (List ℕ))) (creds : List Creds) → IsVerified s pages → Kept (start (image_in s pages) creds)
image_kept s pages creds v =
    let facts = superblock_facts s v.whole.superblock.read.fits in
    let count = v.whole.count in
    let fit : IsFit (core_in s pages) = record {
      full = λ p bytes e. whole_at pages p bytes v.whole.whole (cond_there (is_core (core_in s pages).range p) (slice_index_or pages p None) bytes e);
      long = omega arith;
      numbers = omega (arith, facts.some_inodes);
    } in
    let verifies : Verifies (image_in s pages) = record { sound = v.verify.sound; rows = refl; owners = refl } in
    start_kept (image_in s pages) creds fit verifies (λ p gone core. whole_none pages p v.whole.whole gone)

-- where nothing stands, none is found
none_at : (k n : ℕ) (cs : List (Option Checkpointed)) → cs ≡ replicate k None → checkpoint_at cs n ≡ None
none_at k n cs e = ap (λ l. checkpoint_at l n) e ∙ nowhere k n
  where
    nowhere : (k n : ℕ) → checkpoint_at (replicate k None) n ≡ None
    nowhere zero n = refl
    nowhere (suc k) zero = refl
    nowhere (suc k) (suc n) = nowhere k n

-- what the controller is at its start
module _ (sb : Superblock) (pages : List (Option (List ℕ))) (s : Store) (first : ℕ) (files : List Opened) (creds : List Creds) (entries : Entries) (v : IsVerified sb pages)
    (home : s.home.pages ≡ pages) (root : s.root ≡ sb.root) (rows : s.rows ≡ (image_in sb pages).rows) (owners : s.owners ≡ (image_in sb pages).owners)
    (outs : s.allotments ≡ nothing_out sb.pages sb.inodes) (core : first ≡ sb.first_core) (empty : files ≡ []) (new : entries ≡ record { made = 0; promised = 0 }) where
  count : length s.home.pages ≡ sb.pages
  count = ap length home ∙ v.whole.count

  many : length s.rows ≡ sb.inodes + 1
  many = ap length rows ∙ tabulated-length _ (sb.inodes + 1)

  numbers : length s.rows - 1 ≡ sb.inodes
  numbers = omega (arith, many)

  pub state_started : state_of s first (grants_in files) creds entries.made ≡ start (image_in sb pages) creds
  state_started =
      let S : List (Option (List ℕ)) → List ℕ → ℕ → ℕ → ℕ → List (Option Row) → List ℕ → List Opened → OutByNumber → State =
      λ ps rt f e n rs os fs (po : OutByNumber). record {
        home = record { core = record { pages = ps; root = rt; range = record { first = f; end = e }; inodes = n }; rows = rs; owners = os };
        open_grants = map (with_checkpoint s.checkpoints.items) (grants_in fs);
        pages_out = po.pages;
        numbers_out = po.numbers;
        creds = creds;
        entries = 0;
      } in
      let image = image_in sb pages in
      ap (λ (n : Entries). state_of s first (grants_in files) creds n.made) new
      ∙ ap (λ x. S x s.root first (length s.home.pages) (length s.rows - 1) s.rows s.owners files s.allotments) home
      ∙ ap (λ x. S pages x first (length s.home.pages) (length s.rows - 1) s.rows s.owners files s.allotments) root
      ∙ ap (λ x. S pages sb.root x (length s.home.pages) (length s.rows - 1) s.rows s.owners files s.allotments) core
      ∙ ap (λ x. S pages sb.root sb.first_core x (length s.rows - 1) s.rows s.owners files s.allotments) count
      ∙ ap (λ x. S pages sb.root sb.first_core sb.pages x s.rows s.owners files s.allotments) numbers
      ∙ ap (λ x. S pages sb.root sb.first_core sb.pages sb.inodes x s.owners files s.allotments) rows
      ∙ ap (λ x. S pages sb.root sb.first_core sb.pages sb.inodes image.rows x files s.allotments) owners
      ∙ ap (λ x. S pages sb.root sb.first_core sb.pages sb.inodes image.rows image.owners x s.allotments) empty
      ∙ ap (λ (x : OutByNumber). S pages sb.root sb.first_core sb.pages sb.inodes image.rows image.owners [] x) outs

  same_superblock : superblock_at_home s first ≡ sb
  same_superblock =
      let facts = superblock_facts sb v.whole.superblock.read.fits in
      let S : ℕ → ℕ → ℕ → List ℕ → Superblock = λ e n f rt. record { pages = e; inodes = n; first_owner = 1 + page_count (32 * n); first_core = f; root = rt } in
      ap (λ x. S x (length s.rows - 1) first s.root) count
      ∙ ap (λ x. S sb.pages x first s.root) numbers
      ∙ ap (λ x. S sb.pages sb.inodes x s.root) core
      ∙ ap (λ x. S sb.pages sb.inodes sb.first_core x) root
      ∙ ap (λ (x : ℕ). record sb { first_owner = x }) (sym facts.first_owner)

  pub started : (table : List Keyed) (begun : List (Option Outline)) → s.checkpoints.items ≡ replicate (sb.inodes + 1) None → table ≡ [] → begun ≡ replicate (length creds) None → 1 ≤ length creds → length creds ≤ 16
      → IsControlled s first table files creds entries begun
  started table begun nothing none idle some few = record {
    stored = record {
      fits = subst (λ (x : Superblock). IsTrue (superblock_fits x)) (sym same_superblock) v.whole.superblock.read.fits;
      places = ap length nothing ∙ length-replicate (sb.inodes + 1) None ∙ sym many;
      of_grant = λ n c e. absurd (not_there n c e);
      covers = λ g i kind. absurd (nobody g i);
      kept = subst Kept (sym state_started) (image_kept sb pages creds v);
    };
    no_zero = ap (λ (o : OutByNumber). lib_at o.numbers 0) outs ∙ lib_at-none_out (sb.inodes + 1) 0;
    some_libraries = some;
    few_libraries = few;
    grants = none ∙ ap (map keyed) (sym empty);
    keys_once = ap (λ fs. are_new [] (map (λ (o : Opened). o.key) fs)) empty;
    earlier = λ o i. absurd (no_file o i);
    placed = ap length idle ∙ length-replicate (length creds) None;
    promised = ap (λ (n : Entries). n.promised) new ∙ ap (λ fs. reads_among (grants_in fs) + 0) (sym empty) ∙ ap (λ n. reads_among (grants_in files) + n) (sym (ap begun_among idle ∙ none_among (length creds)));
    kinds = λ o i. absurd (no_file o i);
    told = λ g i hold. absurd (nobody g i);
  }
    where
      not_there : (n : ℕ) (c : Checkpointed) → checkpoint_at s.checkpoints.items n ≡ Some c → ⊥
      not_there n c e = (let f = none_at (sb.inodes + 1) n s.checkpoints.items nothing in absurd cc)

      no_file : (o : Opened) → In o files → ⊥
      no_file o i = subst (λ fs. In o fs) empty i

      nobody : (g : OpenGrant) → In g (grants_in files) → ⊥
      nobody g i = subst (λ fs. In g (grants_in fs)) empty i
