-- Where the settled body of a live file stands.
use Rattle.trio_laws.proofs.Words.{Core, Directory, FileRead, In, In-flat, In-right, Kept, Kind, List, Listed, Met, Ok, Ok-one, OpenGrant, Row, Sheet, Some, State, Write, all_listed, among_cases, ap, checkpoints_of, child_from, child_placed, children, false, file_of, flat_map-In, inl, inr, is_directory, kind_cases, map-In, one_met, page_of, page_there, pages_are, pages_of, plain, reads_from, root_or_listed, row_at, settled, sheet_numbers, slice_get, subst, survey, sym, with_pages_apart, ℕ, ◌++◌, ◌<◌, ◌∙◌, ◌≡◌, ◌⊎◌}
use Rattle.trio_laws.proofs.Bundles.{in_numbers}
use Rattle.trio_laws.proofs.Checkpoints.{checkpoint_from, checkpoint_settled}
use Rattle.trio_laws.proofs.Isolated.{plain_empty}
use Rattle.trio_laws.proofs.StateFacts.{lent_file, live_met}

directory_or : (kind : Kind) → (is_directory kind ≡ false → ⊥) → kind ≡ Directory
directory_or kind h = elim (kind_cases kind) [ inl d ↦ d | inr none ↦ absurd (h none) ]

-- the directory that lists a file, with the page on which it does so
pub record HasParent (core : Core) (r : Row) : Type 0 where
  pub parent : Met
  pub file : FileRead
  pub stands : In parent (survey core plain)
  pub read : file_of core parent ≡ Ok file
  pub number : parent.ino ≡ r.parent
  pub kind : parent.kind ≡ Directory
  pub block : In r.page file.chain.blocks
  pub bytes : List ℕ
  pub page : page_of core r.page ≡ Some bytes
  pub slot : r.slot < 16

module _ (s : State) (k : Kept s) (ino : ℕ) (r : Row) (row : row_at s.home ino ≡ Some r) (other : ino ≡ 1 → ⊥) where
  abbrev core : Core
  core = (settled s).core

  listed_by : (m : Met) → In m (all_listed core plain) → r.parent ≡ m.parent → r.page ≡ m.page → r.slot ≡ m.slot → HasParent core r
  listed_by m i parent page slot =
      let q = flat_map-In (children core plain) m (survey core plain) i in
      let c = child_from core plain q.0 m q.2 in
      let pl = child_placed core plain q.0 m c in
      let l : Listed = c.entry in
      let up : m.parent ≡ q.0.ino = ap (λ (x : Met). x.parent) c.is in
      let on : r.page ≡ l.page = page ∙ ap (λ (x : Met). x.page) c.is in
      let at : r.slot ≡ l.slot = slot ∙ ap (λ (x : Met). x.slot) c.is in
      record {
        parent = q.0;
        file = c.file;
        stands = q.1;
        read = c.read;
        number = sym (parent ∙ up);
        kind = directory_or q.0.kind (λ reg. plain_empty core q.0.kind c.file.chain.blocks c.file.entries l reg (reads_from core q.0 c.file c.read).entries c.listed);
        block = subst (λ n. In n c.file.chain.blocks) (sym on) pl.block;
        bytes = pl.bytes;
        page = ap (page_of core) on ∙ pl.page;
        slot = subst (λ n. n < 16) (sym at) pl.slot;
      }

  pub has_parent : HasParent (settled s).core r
  has_parent =
      let m = live_met s k ino r row in
      elim (root_or_listed core plain k.fit k.verifies.sound m.met m.stands) [
        | inl root ↦ absurd (other (sym m.number ∙ ap (λ (x : Met). x.ino) root))
        | inr i ↦ listed_by m.met i (ap (λ (x : Row). x.parent) m.row) (ap (λ (x : Row). x.page) m.row) (ap (λ (x : Row). x.slot) m.row)
      ]

  -- the write grant that is open on the directory lent the page
  pub lent_place : (g : OpenGrant) → In g s.open_grants → g.kind ≡ Write → g.ino ≡ r.parent → (g.of ≡ Directory) × In r.page (sheet_numbers g.blocks)
  lent_place g i w number =
      let h = has_parent in
      let l = k.lent g i w in
      let same : l.met ≡ h.parent = one_met core plain k.fit k.verifies.sound l.met h.parent l.stands h.stands (l.number ∙ number ∙ sym h.number) in
      let file : l.file ≡ h.file = Ok-one (file_of core h.parent) l.file h.file (ap (file_of core) (sym same) ∙ l.read) h.read in
      let block : In r.page l.file.chain.blocks = subst (λ (f : FileRead). In r.page f.chain.blocks) (sym file) h.block in
      (sym l.of ∙ ap (λ (m : Met). m.kind) same ∙ h.kind, subst (λ ns. In r.page ns) (sym l.blocks) block)

  -- a checkpoint that has the page is that of the write grant on the directory
  covered_by : HasParent core r → (x : Sheet) → In x (checkpoints_of s.open_grants) → r.page ≡ x.page → (g : OpenGrant) × In g s.open_grants × (g.kind ≡ Write) × (g.ino ≡ r.parent) × In r.page (sheet_numbers g.blocks) × (g.of ≡ Directory) × In r.page (sheet_numbers g.checkpoint) × ((x : Sheet) → In x g.checkpoint → x.page ≡ r.page → page_of core r.page ≡ Some x.bytes)
  covered_by h x i on =
      let c = checkpoint_from s k x i in
      let g : OpenGrant = c.0 in
      let lent : In r.page (sheet_numbers (g.index ++ g.blocks)) = subst (λ n. In n (sheet_numbers (g.index ++ g.blocks))) (sym on) c.4 in
      let listed : In r.page (pages_of core h.parent) =
      subst (λ ns. In r.page ns) (sym (pages_are core h.parent h.file h.read)) (In-right r.page h.file.chain.index h.file.chain.blocks h.block) in
      let ino' : g.ino ≡ h.parent.ino = lent_file s k h.parent r.page g h.stands listed c.1 c.3 lent in
      let place = lent_place g c.1 c.3 (ino' ∙ h.number) in (
        g,
        c.1,
        c.3,
        ino' ∙ h.number,
        place.1,
        place.0,
        in_numbers g.checkpoint x r.page c.2 on,
        λ y j at. ap (page_of core) (sym at) ∙ checkpoint_settled s k y (In-flat (λ (g : OpenGrant). g.checkpoint) g y s.open_grants c.1 j),
      )

  pub stands_at : (r.slot < 16) × ((bytes : List ℕ) × (page_of core r.page ≡ Some bytes)) × (((In r.page (sheet_numbers (checkpoints_of s.open_grants)) → ⊥) × (slice_get s.home.core.pages r.page ≡ Some (page_of core r.page))) ⊎ ((g : OpenGrant) × In g s.open_grants × (g.kind ≡ Write) × (g.ino ≡ r.parent) × In r.page (sheet_numbers g.blocks) × (g.of ≡ Directory) × In r.page (sheet_numbers g.checkpoint) × ((x : Sheet) → In x g.checkpoint → x.page ≡ r.page → page_of core r.page ≡ Some x.bytes)))
  stands_at =
      let h = has_parent in
      let t = page_there core r.page h.bytes h.page in (
        h.slot,
        (h.bytes, h.page),
        elim (among_cases r.page (sheet_numbers (checkpoints_of s.open_grants))) [
          | inl i ↦ (let q = map-In (λ (x : Sheet). x.page) r.page (checkpoints_of s.open_grants) i in inr (covered_by h q.0 q.1 q.2))
          | inr none ↦ inl (none, sym (with_pages_apart (checkpoints_of s.open_grants) s.home.core.pages r.page none) ∙ t.1 ∙ ap Some (sym h.page))
        ],
      )
