-- A change of mode changes one node.
use Rattle.trio_laws.proofs.Words.{Body, Bool, Core, FileRead, Image, In, In-map, IsFit, Kept, Met, MetAt, None, Ok, OpenGrant, Option, Row, Some, State, Verifies, [], ap, arith, body_moded, bytes_of, cases_eq, changed, cond, eq-eqb, eqb, false, file_of, get_or-set_other, get_or-set_same, guard_of, image_with_mode, inl, inr, is_directory, listed0, logged, met_numbered, met_other, mode_core_is, mode_file, mode_fit, mode_met, mode_verifies, moded_node, moded_nodes, ms, name_in, name_of, node_at, node_by, node_in, nodes_of, option_map_or, page_now, page_of, picked_entry, plain, plain_pages, read_now, refl, row_at, row_with_mode, settled, survey, sym, tabulated-length, true, writer_of, ℕ, ◌∙◌, ◌∷◌, ◌≡◌, ◌≤◌}
use Rattle.trio_laws.proofs.Isolated.{put_none, bare_page, plain_block}
use Rattle.trio_surveys.proofs.ModedCore.{pick}
use Rattle.trio_laws.proofs.Modes.{settled_moded, moded_kept}
use Rattle.trio_laws.proofs.Grants.{logged_kept}
use Rattle.trio_laws.proofs.history.Facts.{node_is}
use Rattle.trio_laws.proofs.history.Follows.{Follows, bytes_follow, guard_follows, name_at_entry}
use Rattle.trio_laws.proofs.history.Listing.{listing, met_at}
use Rattle.trio_laws.proofs.history.Still.{node_with}
use Rattle.trio_laws.proofs.history.WithNode.{nodes_with}

size_cond : (t : Bool) (mode : ℕ) (b : Body) → (cond t (body_moded mode b) b).size ≡ b.size
size_cond true mode b = refl
size_cond false mode b = refl

guard_cond : (t : Bool) (mode : ℕ) (b : Body) → (cond t (body_moded mode b) b).guard ≡ b.guard
guard_cond true mode b = refl
guard_cond false mode b = refl

pub name_root : (image : Image) (n : ℕ) (r : Row) → n ≡ 1 → name_of image n r ≡ 45 ∷ []
name_root image n r e = ap (λ b. cond b (45 ∷ []) (option_map_or (name_in r.slot) (page_of image.core r.page) [])) (eq-eqb n 1 e)

module _ (image : Image) (n mode : ℕ) (r : Row) (fit : IsFit image.core) (v : Verifies image) (row : row_at image n ≡ Some r) (small : mode ≤ 511) (other : n ≡ 1 → ⊥) where
  abbrev q : MetAt image.core plain n r
  q = mode_met image n mode r fit v row small other

  abbrev not_root : q.met.ino ≡ 1 → ⊥
  not_root = met_other image n mode r fit v row small other

  abbrev after : Image
  after = image_with_mode image n mode

  -- a page without slots is as it was
  bare : (m : Met) (f : FileRead) (p : ℕ) → In m (survey image.core plain) → file_of image.core m ≡ Ok f → In p (plain_pages m.kind f) → page_of after.core p ≡ page_of image.core p
  bare m f p i e a =
      ap (λ (c : Core). page_of c p) (sym (mode_core_is image n mode r fit v row small other))
      ∙ page_now image.core fit v.sound mode small q.met q.stands not_root p
      ∙ put_none p (ms image.core fit v.sound mode small q.met q.stands not_root) (page_of image.core p)
      (λ x j on.
      elim j [
        | inl is ↦ bare_page image.core plain v.sound m f p i e a q.met (listed0 image.core fit v.sound mode small q.met q.stands not_root) (sym (ap (λ (y : Met). y.page) is) ∙ on)
        | inr none ↦ none
      ])

  pub mode_follows : (j : ℕ) (x x' : Row) → row_at image j ≡ Some x → Follows image after j x x'
  mode_follows j x x' at =
      let m = met_at image fit v j x at in
      let f = mode_file image n mode r fit v row small other m.met m.file m.stands m.read in
      record {
        met = m.met;
        met' = changed q.met.ino mode m.met;
        file = m.file;
        file' = read_now image.core fit v.sound mode small q.met q.stands not_root m.met m.file;
        number = m.number;
        number' = m.number;
        stood = m.stands;
        stands = f.0;
        read = m.read;
        read' = f.1;
        size = size_cond (eqb m.met.ino q.met.ino) mode m.file.body;
        guard = guard_cond (eqb m.met.ino q.met.ino) mode m.file.body;
        chain = refl;
        pages = λ plain' p a. bare m.met m.file p m.stands m.read (plain_block m.met.kind m.file p (sym (ap (λ (y : Row). is_directory y.kind) m.row) ∙ plain') a);
      }

  pub mode_name : (j : ℕ) (x x' : Row) → row_at image j ≡ Some x → x'.page ≡ x.page → x'.slot ≡ x.slot → name_of after j x' ≡ name_of image j x
  mode_name j x x' at page slot =
      elim (cases_eq j 1) [
        | inl root ↦ name_root after j x' root ∙ sym (name_root image j x root)
        | inr listed ↦
            let l = listing image fit v j x at listed in
            let f = mode_file image n mode r fit v row small other l.parent l.file l.met l.read in
            let picks = pick image.core fit v.sound mode small q.met q.stands not_root in
            name_at_entry after (changed q.met.ino mode l.parent) (read_now image.core fit v.sound mode small q.met q.stands not_root l.parent l.file) (picked_entry picks l.parent.ino l.entry) j x' f.1 (In-map (picked_entry picks l.parent.ino) l.entry l.file.entries l.listed) listed (page ∙ l.page) (slot ∙ l.slot)
            ∙ sym (name_at_entry image l.parent l.file l.entry j x l.read l.listed listed l.page l.slot)
      ]

module _ (s : State) (k : Kept s) (n mode : ℕ) (r : Row) (row : row_at s.home n ≡ Some r) (small : mode ≤ 511) (other : n ≡ 1 → ⊥) (free : (g : OpenGrant) → In g s.open_grants → (g.ino ≡ n → ⊥) × (g.ino ≡ r.parent → ⊥)) where
  abbrev s' : State
  s' = logged (record s { home = image_with_mode s.home n mode })

  abbrev now : Image
  now = image_with_mode (settled s) n mode

  settled_now : settled s' ≡ now
  settled_now = settled_moded s k n mode r row small other free

  fits : IsFit now.core
  fits = mode_fit (settled s) n mode r k.fit k.verifies row small other

  verifies : Verifies now
  verifies = mode_verifies (settled s) n mode r k.fit k.verifies row small other

  pub inside : n ≤ s.home.core.inodes
  inside =
      let m = met_at (settled s) k.fit k.verifies n r row in
      let b = (met_numbered (settled s).core plain k.fit k.verifies.sound m.met m.stands).1 in
      let e = m.number in omega (arith, b, e)

  pub row_here : row_at s'.home n ≡ Some (record r { mode = record { 0 = mode } })
  row_here = search (arith, verifies, tabulated-length, inside, get_or-set_same)

  pub row_else : (j : ℕ) → (j ≡ n → ⊥) → row_at s'.home j ≡ row_at s.home j
  row_else j d = get_or-set_other s.home.rows n j (row_with_mode mode (row_at s.home n)) None d

  bytes_now : (j : ℕ) (x x' : Row) → row_at s.home j ≡ Some x → row_at now j ≡ Some x' → bytes_of now j x' (writer_of s j) x.kind ≡ bytes_of (settled s) j x (writer_of s j) x.kind
  bytes_now j x x' at at' =
      bytes_follow (settled s) now k.fit fits k.verifies verifies j x x' at at' (mode_follows (settled s) n mode r k.fit k.verifies row small other j x x' at) (writer_of s j)

  guard_now : (j : ℕ) (x x' : Row) → row_at s.home j ≡ Some x → row_at now j ≡ Some x' → guard_of now j ≡ guard_of (settled s) j
  guard_now j x x' at at' =
      guard_follows (settled s) now k.fit fits k.verifies verifies j x x' at at' (mode_follows (settled s) n mode r k.fit k.verifies row small other j x x' at)

  else_step : (j : ℕ) (o : Option Row) → (j ≡ n → ⊥) → row_at s.home j ≡ o → node_by now j (writer_of s j) o ≡ node_by (settled s) j (writer_of s j) o
  else_step j None d at = refl
  else_step j (Some x) d at =
      ap (λ l. Some (node_with x (guard_of now j) l (bytes_of now j x (writer_of s j) x.kind))) (mode_name (settled s) n mode r k.fit k.verifies row small other j x x at refl refl)
      ∙ ap (λ g. Some (node_with x g (name_of (settled s) j x) (bytes_of now j x (writer_of s j) x.kind))) (guard_now j x x at (row_else j d ∙ at))
      ∙ ap (λ l. Some (node_with x (guard_of (settled s) j) (name_of (settled s) j x) l)) (bytes_now j x x at (row_else j d ∙ at))

  node_else : (j : ℕ) → (j ≡ n → ⊥) → node_in s' j ≡ node_in s j
  node_else j d = search (arith, settled_now, row_else, else_step)

  node_here : node_in s' n ≡ moded_node mode (node_in s n)
  node_here =
      let x' : Row = record r { mode = record { 0 = mode } } in
      ap (λ (i : Image). node_by i n (writer_of s n) (row_at s'.home n)) settled_now
      ∙ ap (node_by now n (writer_of s n)) row_here
      ∙ ap (λ l. Some (node_with x' (guard_of now n) l (bytes_of now n x' (writer_of s n) r.kind))) (mode_name (settled s) n mode r k.fit k.verifies row small other n r x' row refl refl)
      ∙ ap (λ g. Some (node_with x' g (name_of (settled s) n r) (bytes_of now n x' (writer_of s n) r.kind))) (guard_now n r x' row row_here)
      ∙ ap (λ l. Some (node_with x' (guard_of (settled s) n) (name_of (settled s) n r) l)) (bytes_now n r x' row row_here)
      ∙ ap (λ o. moded_node mode (node_by (settled s) n (writer_of s n) o)) (sym row)

  pub mode_nodes : nodes_of s' ≡ moded_nodes n mode (nodes_of s)
  mode_nodes =
      let k' : Kept s' = logged_kept (record s { home = image_with_mode s.home n mode }) (moded_kept s k n mode r row small other free) in
      nodes_with s s' k k' refl n (moded_node mode (node_at (nodes_of s) n)) inside (node_here ∙ ap (moded_node mode) (sym (node_is s k n))) node_else
