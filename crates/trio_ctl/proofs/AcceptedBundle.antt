-- An accepted bundle whose library's state is kept in a store: all that `commit` requires holds.
use Rattle.trio_ctl.proofs.Words.{AreOutTo, Bool, Bundle, Case, Checkpointed, Core, Directory, FileRead, In, In-filter, In-flat, In-is_among, In-list_any, In-map, IsFit, IsJudgeable, IsTrue, Kind, LibNo, List, ListedEntry, ListedFile, Listing, Met, Ok, Ok-one, OpenGrant, Pick, Row, Sheet, Some, State, Store, Write, Written, [], all_below, all_listed, and_from, and_parts, ap, arith, both_ways, bundle_pages, case_in, cases_lt, checkpoint_at, children, cond, covers_blocks, creds_of, entry_met, eq-eqb, false, file_listed, file_of, filter, filter-In, flat_map, flat_map-In, guard_in, has_file, has_file_at, has_file_by, has_parent, inl, inr, is_accepted, is_among, is_among-In, is_core, is_some, is_sound, judged_files, judged_from, judged_met, le-leb, leb, length, lent_met, listed_from, listed_is_core, listed_no_root, listed_placed, listing, lt-ltb, ltb, map-In, map-append, met_numbered, ne_eqb, new_from, new_not_live, not, not-true, one_met, owner_at, owner_listed, owner_of, pages_are, pages_of, placed_files, plain, proposed, proposed_pick, read_met, reads, refl, row_at, row_in, row_of, row_of_met, settled, sheet_numbers, slice_index, some_one, state_of, subst, superblock_at_home, superblock_facts, survey, sym, tables, tabulated-length, true, with_checkpoint, written_at, written_ino, written_judged, written_met, written_row, written_same, ℕ, ◌++◌, ◌+◌, ◌-◌, ◌<◌, ◌==◌, ◌∙◌, ◌≡◌, ◌≤◌}
use Rattle.trio_layout.specs.Case.{bundle_core}
use Rattle.trio_layout.specs.Within.{file_within}
use Rattle.trio_surveys.proofs.Trees.{image_is_tree}
use Rattle.trio_laws.proofs.Standing.{HasParent}
use Rattle.trio_laws.proofs.judgement.CaseFacts.{held_row, live_bounds}
use Rattle.trio_laws.proofs.judgement.ListingFacts.{held_from}
use Rattle.trio_laws.proofs.judgement.Taking.{fit, sound}
use Rattle.trio_commit.specs.Bodies.{IsPlaced, has_place}
use Rattle.trio_commit.specs.Listed.{HasNumbersBelow, HasPagesBelow, OwnersAreHanded, StandsInSlots, written_pages}
use Rattle.trio_ctl.proofs.StoredFacts.{Checkpoints, HandedBundle, handed_within, open_grant, out_to, page_within}

-- such a bundle that is accepted
pub record AcceptedBundle : Type 0 where
  pub handed : HandedBundle
  pub accepted : IsTrue (is_accepted (settled (state_of handed.store handed.first_core handed.grants handed.creds handed.entries)) (creds_of (state_of handed.store handed.first_core handed.grants handed.creds handed.entries) handed.lib.0) handed.bundle)

-- what `commit` requires of a store
pub record CanCommit (s : Store) (lib : LibNo) (b : Bundle) (l : Listing) : Type 0 where
  pub allotted : AreOutTo s.allotments lib b
  pub within : IsTrue (all_below (length s.home.pages) (bundle_pages b))
  pub table : length s.owners ≡ length s.home.pages
  pub places : (m : Met) → In m (placed_files s.rows b) → IsPlaced s.checkpoints.items m
  pub handed : OwnersAreHanded l s.owners b
  pub numbers : HasNumbersBelow (length s.rows) l
  pub slots : StandsInSlots l.entries
  pub listed : HasPagesBelow (length s.owners) l

same_bool : (a b : Bool) → (a ≡ true → b ≡ true) → (b ≡ true → a ≡ true) → a ≡ b
same_bool true b f g = sym (f refl)
same_bool false true f g = g refl
same_bool false false f g = refl

module _ (e : AcceptedBundle) where
  abbrev pub now : State
  now = state_of e.handed.store e.handed.first_core e.handed.grants e.handed.creds e.handed.entries

  abbrev pub cs : Checkpoints
  cs = e.handed.store.checkpoints.items

  abbrev pub case_here : Case
  case_here = case_in now e.handed.lib.0 e.handed.bundle

  abbrev pub list_here : Listing
  list_here = listing (case_in now e.handed.lib.0 e.handed.bundle)

  abbrev pub core_then : Core
  core_then = proposed (settled now) e.handed.bundle

  abbrev pub pick_then : Pick
  pick_then = proposed_pick (settled now) e.handed.bundle

  abbrev pub files_then : List Met
  files_then = survey core_then pick_then

  abbrev pub core_now : Core
  core_now = (settled now).core

  pub judgeable : IsJudgeable now e.handed.lib.0 e.handed.bundle
  judgeable = record { kept = e.handed.stored.kept; given = e.handed.given; closed = e.handed.closed }

  pub fit_then : IsFit core_then
  fit_then = fit now e.handed.lib.0 e.handed.bundle judgeable e.accepted

  pub sound_then : is_sound core_then pick_then ≡ true
  sound_then = sound now e.handed.lib.0 e.handed.bundle judgeable e.accepted

  -- ---- sizes

  pub rows_long : length e.handed.store.rows ≡ (length e.handed.store.rows - 1) + 1
  rows_long = ap length e.handed.stored.kept.verifies.rows ∙ tabulated-length (row_of core_now (survey core_now plain)) (core_now.inodes + 1)

  pub owners_long : length e.handed.store.owners ≡ length e.handed.store.home.pages
  owners_long = ap length e.handed.stored.kept.verifies.owners ∙ tabulated-length _ (length e.handed.store.home.pages)

  -- there are fewer numbers than the controller's own
  pub few_rows : length e.handed.store.rows < 0xFFFFFFFF
  few_rows =
      let facts = superblock_facts (superblock_at_home e.handed.store e.handed.first_core) e.handed.stored.fits in
      let few : length e.handed.store.rows - 1 ≤ 16384 = facts.inodes in
      let long = rows_long in
      omega (arith, few, long)

  -- the number of a file that is met is one of the table
  pub met_below : (m : Met) → In m files_then → (0 < m.ino) × (m.ino < length e.handed.store.rows)
  met_below m i =
      let q = met_numbered core_then pick_then fit_then sound_then m i in
      let high : m.ino ≤ length e.handed.store.rows - 1 = q.1 in
      let long = rows_long in
      (q.0, omega (arith, high, long))

  -- ---- placed files

  -- a written file whose body has a place
  pub record PlacedFile (m : Met) : Type 0 where
    pub lease : Written
    pub among : In lease e.handed.bundle.writes
    pub row : Row
    pub is_row : row_in e.handed.store.rows lease.ino ≡ Some row
    pub other : lease.ino ≡ 1 → ⊥
    pub is : m ≡ written_at lease (Some row)

  pub placed_from : (m : Met) → In m (placed_files e.handed.store.rows e.handed.bundle) → PlacedFile m
  placed_from m i =
      let q = map-In (λ (w : Written). written_at w (row_in e.handed.store.rows w.ino)) m (filter (has_place e.handed.store.rows) e.handed.bundle.writes) i in
      let f = filter-In (has_place e.handed.store.rows) q.0 e.handed.bundle.writes q.1 in
      let parts = and_parts (not (q.0.ino == 1)) (is_some (row_in e.handed.store.rows q.0.ino)) f.1 in
      let r = written_row now e.handed.lib.0 e.handed.bundle judgeable q.0 f.0 in
      record {
        lease = q.0;
        among = f.0;
        row = r.0;
        is_row = r.1;
        other = λ one. both_ways (q.0.ino == 1) (not-true (q.0.ino == 1) parts.0) (eq-eqb q.0.ino 1 one);
        is = q.2 ∙ ap (written_at q.0) r.1;
      }

  pub placed_to : (w : Written) (r : Row) → In w e.handed.bundle.writes → row_in e.handed.store.rows w.ino ≡ Some r → (w.ino ≡ 1 → ⊥) → In (written_at w (Some r)) (placed_files e.handed.store.rows e.handed.bundle)
  placed_to w r i row other =
      let has : has_place e.handed.store.rows w ≡ true =
      and_from (not (w.ino == 1)) (is_some (row_in e.handed.store.rows w.ino)) (ap not (ne_eqb w.ino 1 other)) (ap is_some row) in
      subst (λ o. In (written_at w o) (placed_files e.handed.store.rows e.handed.bundle)) row
      (In-map (λ (w : Written). written_at w (row_in e.handed.store.rows w.ino)) w (filter (has_place e.handed.store.rows) e.handed.bundle.writes) (In-filter (has_place e.handed.store.rows) w e.handed.bundle.writes i has))

  -- it is met there, with its lease's body
  pub placed_met : (m : Met) → PlacedFile m → In m files_then
  placed_met m p =
      let there : m ≡ written_met case_here p.lease = p.is ∙ ap (written_at p.lease) (sym p.is_row) in
      subst (λ x. In x files_then) (sym there)
      (judged_met now e.handed.lib.0 e.handed.bundle judgeable e.accepted (written_met case_here p.lease) (written_judged now e.handed.lib.0 e.handed.bundle judgeable p.lease p.among))

  -- the directory that lists it in the settled image
  pub placed_parent : (m : Met) (p : PlacedFile m) → HasParent core_now p.row
  placed_parent m p = has_parent now e.handed.stored.kept p.lease.ino p.row p.is_row p.other

  -- a page of a directory on which a write grant is open stands in its checkpoint
  pub page_covered : (r : Row) (h : HasParent core_now r) (g : OpenGrant) → In g e.handed.grants → g.kind ≡ Write → g.ino ≡ r.parent → (c : Checkpointed) × (checkpoint_at cs g.ino ≡ Some c) × In r.page (sheet_numbers c.blocks)
  page_covered r h g i kind ino =
      let l = e.handed.stored.kept.lent (with_checkpoint cs g) (open_grant e.handed.store e.handed.first_core e.handed.grants e.handed.creds e.handed.entries e.handed.stored g i) kind in
      let same : l.met ≡ h.parent = one_met core_now plain e.handed.stored.kept.fit e.handed.stored.kept.verifies.sound l.met h.parent l.stands h.stands (l.number ∙ ino ∙ sym h.number) in
      let file : l.file ≡ h.file = Ok-one (file_of core_now h.parent) l.file h.file (ap (file_of core_now) (sym same) ∙ l.read) h.read in
      let of : g.of ≡ Directory = sym l.of ∙ ap (λ (x : Met). x.kind) same ∙ h.kind in
      let block : In r.page (sheet_numbers g.blocks) =
      subst (λ ns. In r.page ns) (sym l.blocks) (subst (λ (f : FileRead). In r.page f.chain.blocks) (sym file) h.block) in
      let c = e.handed.stored.covers g i kind in
      let all : sheet_numbers c.0.blocks ≡ sheet_numbers g.blocks = c.2.blocks ∙ ap (λ (t : Kind). cond (covers_blocks t (guard_in g.body)) (sheet_numbers g.blocks) []) of in
      (c.0, c.1, subst (λ ns. In r.page ns) (sym all) block)

  places : (m : Met) → In m (placed_files e.handed.store.rows e.handed.bundle) → IsPlaced e.handed.store.checkpoints.items m
  places m i =
      let p = placed_from m i in
      let h = placed_parent m p in
      record {
        slot = subst (λ n. n < 16) (ap (λ (x : Met). x.slot) (sym p.is)) h.slot;
        covered = λ c at.
            let up : m.parent ≡ p.row.parent = ap (λ (x : Met). x.parent) p.is in
            let g = e.handed.stored.of_grant m.parent c at in
            let l = page_covered p.row h g.0 g.1 g.2 (g.3 ∙ up) in
            let same : l.0 ≡ c = some_one (checkpoint_at cs m.parent) l.0 c (ap (checkpoint_at cs) (sym g.3) ∙ l.1) at in
            let on : p.row.page ≡ m.page = ap (λ (x : Met). x.page) (sym p.is) in
            In-is_among m.page (sheet_numbers c.blocks) (subst (λ (x : Checkpointed). In m.page (sheet_numbers x.blocks)) same (subst (λ n. In n (sheet_numbers l.0.blocks)) on l.2));
      }

  -- ---- the listing

  file_number : (f : ListedFile) → In f list_here.files → (0 < f.ino) × (f.ino < length e.handed.store.rows)
  file_number f i =
      let m = has_file_at case_here f.ino (In-list_any (λ (x : ListedFile). x.ino == f.ino) f list_here.files i (eq-eqb f.ino f.ino refl)) in
      let b = met_below m.0 (judged_met now e.handed.lib.0 e.handed.bundle judgeable e.accepted m.0 m.1) in
      let P : ℕ → Type 0 = λ n. (0 < n) × (n < length e.handed.store.rows) in
      subst P m.2 b

  entry_number : (x : ListedEntry) → In x list_here.entries → (1 < x.ino) × (x.ino < length e.handed.store.rows) × (x.slot < 16)
  entry_number x i =
      let q = listed_from case_here x i in
      let y = entry_met now e.handed.lib.0 e.handed.bundle judgeable e.accepted q.0 q.1 in
      let listed : In y.met (all_listed core_then pick_then) = In-flat (children core_then pick_then) y.file y.met files_then (judged_met now e.handed.lib.0 e.handed.bundle judgeable e.accepted y.file y.judged_one) y.child in
      let no_root = listed_no_root core_then pick_then fit_then sound_then y.met listed in
      let b = met_below y.met y.stands in
      let is : x.ino ≡ y.met.ino = ap (λ (z : ListedEntry). z.ino) q.2 ∙ sym y.ino in
      let low : 0 < y.met.ino = b.0 in
      let high : y.met.ino < length e.handed.store.rows = b.1 in
      let slot : x.slot ≡ y.met.slot = ap (λ (z : ListedEntry). z.slot) q.2 ∙ sym y.slot in
      (above x.ino (λ one. no_root (sym is ∙ one)) (subst (λ n. 0 < n) (sym is) low), subst (λ n. n < length e.handed.store.rows) (sym is) high, subst (λ n. n < 16) (sym slot) (listed_placed core_then pick_then fit_then sound_then y.met listed).0)
    where
      above : (n : ℕ) → (n ≡ 1 → ⊥) → 0 < n → 1 < n
      above n no' low = elim (cases_lt 1 n) [ inl lt ↦ lt | inr le ↦ absurd (no' (omega (arith, low, le))) ]

  pub numbers_below : HasNumbersBelow (length e.handed.store.rows) list_here
  numbers_below = record {
    held = λ n i.
        let r = held_row now e.handed.lib.0 e.handed.bundle judgeable n (held_from case_here n i) in
        let q = live_bounds now e.handed.lib.0 e.handed.bundle judgeable n r.0 r.1 in
        let high : n ≤ length e.handed.store.rows - 1 = q.1 in
        let long = rows_long in
        (q.0, omega (arith, high, long));
    files = file_number;
    entries = λ x i. let q = entry_number x i in (q.0, q.1);
  }

  -- a listed file is a judged one, which is read of the bundle's pages alone
  record JudgedFile (f : ListedFile) : Type 0 where
    met : Met
    judged : In met (judged_files case_here)
    file : FileRead
    read : file_of core_then met ≡ Ok file
    own : (p : ℕ) → In p (file.chain.index ++ file.chain.blocks) → In p (bundle_pages e.handed.bundle)
    index : f.index ≡ file.chain.index
    blocks : f.blocks ≡ file.chain.blocks

  judged_file : (f : ListedFile) → In f list_here.files → JudgedFile f
  judged_file f i =
      let q = flat_map-In (λ m. file_listed m (file_within (bundle_core case_here) m)) f (judged_files case_here) i in
      let r = reads now e.handed.lib.0 e.handed.bundle judgeable e.accepted q.0 q.1 in
      by q.0 r.file q.1 r.whole r.own (subst (λ x. In f (file_listed q.0 x)) r.within q.2)
    where
      by : (m : Met) (g : FileRead) → In m (judged_files case_here) → file_of core_then m ≡ Ok g → ((p : ℕ) → In p (g.chain.index ++ g.chain.blocks) → In p (bundle_pages e.handed.bundle)) → In f (file_listed m (Ok g)) → JudgedFile f
      by m g j read own (inl is) = record { met = m; judged = j; file = g; read = read; own = own; index = ap (λ (x : ListedFile). x.index) is; blocks = ap (λ (x : ListedFile). x.blocks) is }
      by m g j read own (inr none) = absurd none

  listed_there : (f : ListedFile) (p : ℕ) (j : JudgedFile f) → In p (f.index ++ f.blocks) → In p (j.file.chain.index ++ j.file.chain.blocks)
  listed_there f p j a =
      let same : f.index ++ f.blocks ≡ j.file.chain.index ++ j.file.chain.blocks = ap (λ l. l ++ f.blocks) j.index ∙ ap (λ l. j.file.chain.index ++ l) j.blocks in
      subst (λ l. In p l) same a

  -- a page that a listed file lists is the bundle's
  pub listed_own : (f : ListedFile) (p : ℕ) → In f list_here.files → In p (f.index ++ f.blocks) → In p (bundle_pages e.handed.bundle)
  listed_own f p i a = (let j = judged_file f i in j.own p (listed_there f p j a))

  -- and a core page
  pub listed_core : (f : ListedFile) (p : ℕ) → In f list_here.files → In p (f.index ++ f.blocks) → is_core core_now.range p ≡ true
  listed_core f p i a =
      let j = judged_file f i in
      listed_is_core core_then j.met j.file p j.read (subst (λ l. In p l) (sym (pages_are core_then j.met j.file j.read)) (listed_there f p j a))

  -- ---- owners

  pub low_owner : (page : ℕ) → page < e.handed.first_core → page < length e.handed.store.home.pages → slice_index e.handed.store.owners page ≡ 0xFFFFFFFF
  low_owner page low below =
      owner_at core_now plain e.handed.stored.kept.fit e.handed.stored.kept.verifies.sound (settled now) (tables now e.handed.stored.kept) page below
      ∙ ap (λ t. cond t 0xFFFFFFFF (owner_of core_now (survey core_now plain) page)) (lt-ltb page e.handed.first_core low)

  -- a page whose owner is a file of this number is listed by it
  owner_lists : (page n : ℕ) → page < length e.handed.store.home.pages → slice_index e.handed.store.owners page ≡ n → 0 < n → n < 0xFFFFFFFF → (m : Met) × In m (survey core_now plain) × (m.ino ≡ n) × In page (pages_of core_now m)
  owner_lists page n below is low high =
      elim (cases_lt page e.handed.first_core) [
        | inl lt ↦ (let big = low_owner page lt below in absurd (omega (arith, big, is, high)))
        | inr ge ↦
            let c : is_core core_now.range page ≡ true = and_from (leb e.handed.first_core page) (ltb page (length e.handed.store.home.pages)) (le-leb e.handed.first_core page ge) (lt-ltb page (length e.handed.store.home.pages) below) in
            let q = (image_is_tree (settled now) e.handed.stored.kept.fit e.handed.stored.kept.verifies).owned page c (λ z. omega (arith, z, is, low)) in
            (q.0, q.1, q.2 ∙ is, q.3)
      ]

  judged_handed : (page : ℕ) → page < length e.handed.store.owners → has_file list_here (slice_index e.handed.store.owners page) ≡ true → is_among page (written_pages e.handed.bundle) ≡ true
  judged_handed page below has =
      let n : ℕ = slice_index e.handed.store.owners page in
      let q = has_file_at case_here n has in
      let m : Met = q.0 in
      let b = met_below m (judged_met now e.handed.lib.0 e.handed.bundle judgeable e.accepted m q.1) in
      let low : 0 < n = subst (λ k. 0 < k) q.2 b.0 in
      let high : n < length e.handed.store.rows = subst (λ k. k < length e.handed.store.rows) q.2 b.1 in
      let few = few_rows in
      let long = owners_long in
      let o = owner_lists page n (subst (λ k. page < k) long below) refl low (omega (arith, high, few)) in
      let f = read_met core_now plain e.handed.stored.kept.fit e.handed.stored.kept.verifies.sound o.0 o.1 in
      elim (judged_from now e.handed.lib.0 e.handed.bundle judgeable m q.1) [
        | inl w ↦
            let y = e.handed.given.writes w.0 w.1 in
            let l = e.handed.stored.kept.lent y.grant y.is_open y.kind in
            let number : w.0.ino ≡ n = sym (written_ino case_here w.0) ∙ ap (λ (x : Met). x.ino) (sym w.2) ∙ q.2 in
            let same : o.0 ≡ l.met = one_met core_now plain e.handed.stored.kept.fit e.handed.stored.kept.verifies.sound o.0 l.met o.1 l.stands (o.2 ∙ sym number ∙ sym y.ino ∙ sym l.number) in
            let pages : pages_of core_now l.met ≡ sheet_numbers (w.0.index ++ w.0.blocks) =
            pages_are core_now l.met l.file l.read
            ∙ ap (λ x. x ++ l.file.chain.blocks) (sym l.index)
            ∙ ap (λ x. sheet_numbers y.grant.index ++ x) (sym l.blocks)
            ∙ sym (map-append (λ (x : Sheet). x.page) y.grant.index y.grant.blocks)
            ∙ sym (written_same now e.handed.stored.kept e.handed.lib.0 e.handed.bundle e.handed.given w.0 w.1) in
            let there : In page (sheet_numbers (w.0.index ++ w.0.blocks)) = subst (λ ns. In page ns) pages (subst (λ x. In page (pages_of core_now x)) same o.3) in
            let x = map-In (λ (x : Sheet). x.page) page (w.0.index ++ w.0.blocks) there in
            In-is_among page (written_pages e.handed.bundle)
            (subst (λ k. In k (written_pages e.handed.bundle)) (sym x.2)
            (In-map (λ (x : Sheet). x.page) x.0 (flat_map (λ (w : Written). w.index ++ w.blocks) e.handed.bundle.writes) (In-flat (λ (w : Written). w.index ++ w.blocks) w.0 x.0 e.handed.bundle.writes w.1 x.1)))
        | inr x ↦
            let new = new_from now e.handed.lib.0 e.handed.bundle judgeable x.0 m x.2 in
            let row = row_of_met now e.handed.lib.0 e.handed.bundle judgeable o.0 f.0 o.1 f.1 in
            absurd (new_not_live now e.handed.lib.0 e.handed.bundle judgeable m.ino _ new.1 (ap (row_at (settled now)) (q.2 ∙ sym o.2) ∙ row))
      ]

  handed_judged : (page : ℕ) → is_among page (written_pages e.handed.bundle) ≡ true → has_file list_here (slice_index e.handed.store.owners page) ≡ true
  handed_judged page among =
      let x = map-In (λ (x : Sheet). x.page) page (flat_map (λ (w : Written). w.index ++ w.blocks) e.handed.bundle.writes) (is_among-In page (written_pages e.handed.bundle) among) in
      let w = flat_map-In (λ (w : Written). w.index ++ w.blocks) x.0 e.handed.bundle.writes x.1 in
      let y = e.handed.given.writes w.0 w.1 in
      let l = e.handed.stored.kept.lent y.grant y.is_open y.kind in
      let there : In page (sheet_numbers (w.0.index ++ w.0.blocks)) = subst (λ k. In k (sheet_numbers (w.0.index ++ w.0.blocks))) (sym x.2) (In-map (λ (x : Sheet). x.page) x.0 (w.0.index ++ w.0.blocks) w.2) in
      let lent : In page (sheet_numbers (y.grant.index ++ y.grant.blocks)) = subst (λ ns. In page ns) (written_same now e.handed.stored.kept e.handed.lib.0 e.handed.bundle e.handed.given w.0 w.1) there in
      let own : slice_index e.handed.store.owners page ≡ w.0.ino =
      owner_listed core_now plain e.handed.stored.kept.fit e.handed.stored.kept.verifies.sound (settled now) (tables now e.handed.stored.kept) l.met page l.stands (lent_met now e.handed.stored.kept y.grant y.is_open y.kind page lent)
      ∙ l.number ∙ y.ino in
      let j = written_judged now e.handed.lib.0 e.handed.bundle judgeable w.0 w.1 in
      let r = reads now e.handed.lib.0 e.handed.bundle judgeable e.accepted (written_met case_here w.0) j in
      has_file_by case_here (written_met case_here w.0) r.file (slice_index e.handed.store.owners page) j r.within (written_ino case_here w.0 ∙ sym own)

  -- all that `commit` requires holds
  pub can_commit : CanCommit e.handed.store e.handed.lib e.handed.bundle list_here
  can_commit = record {
    allotted = out_to e.handed.store e.handed.first_core e.handed.grants e.handed.creds e.handed.entries e.handed.stored e.handed.lib e.handed.bundle e.handed.given;
    within = handed_within e.handed.store e.handed.first_core e.handed.grants e.handed.creds e.handed.entries e.handed.stored e.handed.lib e.handed.bundle e.handed.given;
    table = owners_long;
    places = places;
    handed = λ page below. same_bool (has_file list_here (slice_index e.handed.store.owners page)) (is_among page (written_pages e.handed.bundle)) (judged_handed page below) (handed_judged page);
    numbers = numbers_below;
    slots = λ x i. (entry_number x i).2;
    listed = λ f page i a.
        subst (λ n. page < n) (sym owners_long) (page_within e.handed.store e.handed.first_core e.handed.grants e.handed.creds e.handed.entries e.handed.stored e.handed.lib e.handed.bundle e.handed.given page (listed_own f page i a));
  }
