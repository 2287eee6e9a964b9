-- A controller of which nothing is lent: its settled image is the one at home.
use Rattle.trio_ctl.proofs.Words.{if◌then◌else◌, ◌&&◌, ◌++◌, ◌∙◌, ◌∷◌, ◌≡◌, Bool, Checkpointed, Core, Creds, Entries, GrantKind, Hold, Image, In, IsControlled, IsFit, IsTrue, Kept, Keyed, List, None, OpenGrant, Opened, Option, OutByNumber, Outline, Read, Row, Some, State, Store, Superblock, Verifies, Write, [], and_parts, ap, arith, core_in, covered_at, false, false≢true, find, first_with, flat_map, grants_in, holder, holder_of, inl, inr, is_among, is_lent, is_sound, is_write, keyed, length, list_any-In, map, map-In, option_map, plain, read_met, reads_from, refl, settled, sheet_numbers, state_of, subst, superblock_at_home, superblock_fits, sym, true, with_checkpoint, with_core_pages, with_pages, ℕ}
use Rattle.trio_grants.specs.Grants.{is_write as writes_in_table}
use Rattle.trio_layout.specs.Survey.{root_of}
use Rattle.trio_surveys.proofs.Images.{root_is_met}
use Rattle.trio_surveys.proofs.Owned.{body_sized}
use Rattle.trio_nodes.specs.GrantKinds.{same_kind}
use Rattle.trio_commit.specs.Store.{image_at_home}
use Rattle.trio_ctl.specs.Ctl.{writer_of}

-- an image, by its superblock with the root's body, its pages and its tables
abbrev pub home_image : Superblock → List (Option (List ℕ)) → List (Option Row) → List ℕ → Image
home_image s pages rows owners = record { core = core_in s pages; rows = rows; owners = owners }

-- the state of such an image of which nothing is lent
abbrev pub state_at_home : Superblock → List (Option (List ℕ)) → List (Option Row) → List ℕ → OutByNumber → List Creds → ℕ → State
state_at_home s pages rows owners outs creds entries = record {
  home = home_image s pages rows owners;
  open_grants = [];
  pages_out = outs.pages;
  numbers_out = outs.numbers;
  creds = creds;
  entries = entries;
}

pub record IsAtHome (s : Superblock) (pages : List (Option (List ℕ))) (rows : List (Option Row)) (owners : List ℕ) (outs : OutByNumber) (creds : List Creds) (entries : ℕ) : Type 0 where
  pub fits : IsTrue (superblock_fits s)
  pub root : length s.root ≡ 64
  pub count : length pages ≡ s.pages
  pub kept : Kept (state_at_home s pages rows owners outs creds entries)

-- the root's body has 64 bytes
root_sized : (core : Core) → IsFit core → is_sound core plain ≡ true → length core.root ≡ 64
root_sized core fit sound =
    let f = read_met core plain fit sound (root_of core) (root_is_met core plain fit sound) in
    body_sized (root_of core).kind core.range core.root f.0.body (reads_from core (root_of core) f.0 f.1).body

-- ---- nobody writes

writer_first : (cs : List (Option Checkpointed)) (files : List Opened)
    → option_map holder (first_with writes_in_table (map keyed files)) ≡ option_map holder_of (find (λ (g : OpenGrant). is_write g.kind) (map (with_checkpoint cs) (grants_in files)))
writer_first cs [] = refl
writer_first cs (o ∷ os) = by o.grant.kind (writer_first cs os)
  where
    by : (kind : GrantKind) → option_map holder (first_with writes_in_table (map keyed os)) ≡ option_map holder_of (find (λ (g : OpenGrant). is_write g.kind) (map (with_checkpoint cs) (grants_in os)))
        → option_map holder (if same_kind kind Write then Some (keyed o).1 else first_with writes_in_table (map keyed os)) ≡ option_map holder_of (if is_write kind then Some (with_checkpoint cs o.grant) else find (λ (g : OpenGrant). is_write g.kind) (map (with_checkpoint cs) (grants_in os)))
    by Read again = again
    by Write again = refl
    by Hold again = again

no_writer : (files : List Opened) → option_map holder (first_with writes_in_table (map keyed files)) ≡ None → (g : OpenGrant) → In g (grants_in files) → is_write g.kind ≡ false
no_writer [] none g i = absurd i
no_writer (o ∷ os) none g i = by o.grant.kind refl (no_writer os) none i
  where
    by : (kind : GrantKind) → o.grant.kind ≡ kind → (option_map holder (first_with writes_in_table (map keyed os)) ≡ None → (g : OpenGrant) → In g (grants_in os) → is_write g.kind ≡ false)
        → option_map holder (if same_kind kind Write then Some (keyed o).1 else first_with writes_in_table (map keyed os)) ≡ None → In g (grants_in (o ∷ os)) → is_write g.kind ≡ false
    by Write e again none i = absurd cc
    by Read e again none (inl same) = ap (λ (h : OpenGrant). is_write h.kind) same ∙ ap is_write e
    by Read e again none (inr later) = again none g later
    by Hold e again none (inl same) = ap (λ (h : OpenGrant). is_write h.kind) same ∙ ap is_write e
    by Hold e again none (inr later) = again none g later

no_checkpoints : (cs : List (Option Checkpointed)) (grants : List OpenGrant) → ((g : OpenGrant) → In g grants → is_write g.kind ≡ false) → flat_map (λ (g : OpenGrant). g.checkpoint) (map (with_checkpoint cs) grants) ≡ []
no_checkpoints cs [] h = refl
no_checkpoints cs (g ∷ gs) h =
    ap (λ (t : Bool). (if t then covered_at cs g.ino else []) ++ flat_map (λ (x : OpenGrant). x.checkpoint) (map (with_checkpoint cs) gs)) (h g (inl refl))
    ∙ no_checkpoints cs gs (λ x i. h x (inr i))

module _ (s : Store) (first : ℕ) (table : List Keyed) (files : List Opened) (creds : List Creds) (entries : Entries) (begun : List (Option Outline)) (k : IsControlled s first table files creds entries begun) where
  abbrev st : State
  st = state_of s first (grants_in files) creds entries.made

  abbrev alone : State
  alone = state_at_home (superblock_at_home s first) s.home.pages s.rows s.owners s.allotments creds entries.made

  pub writer_is : option_map holder (first_with writes_in_table table) ≡ writer_of (state_of s first (grants_in files) creds entries.made)
  writer_is = ap (λ t. option_map holder (first_with writes_in_table t)) k.grants ∙ writer_first s.checkpoints.items files

  module _ (none : option_map holder (first_with writes_in_table table) ≡ None) where
    unwritten : (g : OpenGrant) → In g (grants_in files) → is_write g.kind ≡ false
    unwritten = no_writer files (ap (λ t. option_map holder (first_with writes_in_table t)) (sym k.grants) ∙ none)

    -- no checkpoint is kept, and so the settled image is the one at home
    pub same_settled : settled (state_at_home (superblock_at_home s first) s.home.pages s.rows s.owners s.allotments creds entries.made) ≡ settled (state_of s first (grants_in files) creds entries.made)
    same_settled = ap (λ xs. with_core_pages (image_at_home s first) (with_pages xs s.home.pages)) (sym (no_checkpoints s.checkpoints.items (grants_in files) unwritten))

    not_lent : (page : ℕ) → is_lent st.open_grants page ≡ true → ⊥
    not_lent page lent =
        let q = list_any-In (λ (g : OpenGrant). is_write g.kind && is_among page (sheet_numbers (g.index ++ g.blocks))) st.open_grants lent in
        let h = map-In (with_checkpoint s.checkpoints.items) q.0 (grants_in files) q.1 in
        false≢true (sym (unwritten h.0 h.1) ∙ ap (λ (g : OpenGrant). is_write g.kind) (sym h.2) ∙ (and_parts (is_write q.0.kind) (is_among page (sheet_numbers (q.0.index ++ q.0.blocks))) q.2).0)

    kept_alone : Kept (state_at_home (superblock_at_home s first) s.home.pages s.rows s.owners s.allotments creds entries.made)
    kept_alone = record {
      fit = subst (λ (x : Image). IsFit x.core) (sym same_settled) k.stored.kept.fit;
      verifies = subst (λ (x : Image). Verifies x) (sym same_settled) k.stored.kept.verifies;
      live = λ g i. absurd i;
      bodies = λ g i. absurd i;
      apart = λ i j d a b. absurd (omega arith);
      held = λ g i kind. absurd i;
      lent = λ g i kind. absurd i;
      checkpoints = λ g i. absurd i;
      guarded = λ g i kind other on. absurd i;
      absent = λ page gone core. elim (k.stored.kept.absent page gone core) [
        | inl lent ↦ absurd (not_lent page lent)
        | inr out ↦ inr out
      ];
      pages_placed = k.stored.kept.pages_placed;
      out_free = k.stored.kept.out_free;
      numbers_placed = k.stored.kept.numbers_placed;
      numbers_free = k.stored.kept.numbers_free;
    }

    pub at_home : IsAtHome (superblock_at_home s first) s.home.pages s.rows s.owners s.allotments creds entries.made
    at_home = record { fits = k.stored.fits; root = root_sized (settled st).core k.stored.kept.fit k.stored.kept.verifies.sound; count = refl; kept = kept_alone }
