-- What a lease shows is true of the nodes at its grant.
use Rattle.trio_laws.proofs.Words.{◌++◌, ◌∙◌, ◌∷◌, ◌≡◌, Body, Core, Directory, FileRead, HasContent, HasFile, HasPlaces, HasRights, Hold, Image, In, In-find, IsTree, Kept, Kind, LentPage, List, Listed, Met, MetAt, Mode, Node, Nodes, None, Ok, Ok-one, Option, Read, Rights, Row, Sheet, Shown, ShownEntry, Sizes, Some, State, Write, [], ap, arith, at_page, block_sheets, body_at, both, both-Ok, cases_eq, child_has, child_met, children, cond, cons_option, entries_lent, entries_of_kind, entries_on, entries_or_none, entries_shown, entry_of_listed, entry_of_node, eq-eqb, eqb, eqb-true, file_of, find, find-In, flat_map, gathered, gathers_directory, inl, inr, is_child, is_in, is_place_of, lent_sheet, map, met_in, met_numbered, name_of, ne_eqb, no_root_listed, node_at, node_by, node_of, node_says, nodes_of, one_met, one_node, option_map, page_entries, page_of, place_from, plain, read_met, reads_from, refl, result_then-Ok, rights_in, rights_of, row_at, row_at_is, row_by, row_met, row_says, settled, settled_body, settled_chain, sheets_of, subst, survey, sym, there_or, there_or-Ok, true, writer_of, ℕ, Bool, bytes_of_sheets, data_of, false, guard_in, is_directory, is_directory-true, size_of, take}
use Rattle.trio_laws.specs.session.Grants.{LeaseShows, HoldShows}
use Rattle.trio_laws.proofs.history.Facts.{live, node_is}
use Rattle.trio_laws.proofs.history.Follows.{body_is_at, name_at_entry}
use Rattle.trio_laws.proofs.history.Listing.{met_at, body_met, chain_met, listing, tables_of}
use Rattle.trio_laws.proofs.history.StandsTree.{states_are_trees}
use Rattle.trio_laws.proofs.session.Counts.{count_pair}
use Rattle.trio_laws.proofs.session.Rows.{rows_say}

-- ---- lent pages and the pages of a core

no_more : (x : LentPage) (xs : List LentPage) → map lent_sheet (x ∷ xs) ≡ [] → ⊥
no_more x xs e = let wrong : lent_sheet x ∷ map lent_sheet xs ≡ [] = e in cc

lent_entries : (core : Core) (pages : List ℕ) (blocks : List LentPage) (es : List Listed) → map lent_sheet blocks ≡ sheets_of core pages → gathered (page_entries core) pages ≡ Ok es
    → gathered (λ (p : LentPage). entries_on core.inodes p.no.0 p.page) blocks ≡ Ok es
lent_entries core [] [] es e g = g
lent_entries core [] (x ∷ xs) es e g = absurd (no_more x xs e)
lent_entries core (p ∷ ps) blocks es e g =
    let h = both-Ok (page_entries core p) (gathered (page_entries core) ps) es g in
    let t = result_then-Ok (entries_on core.inodes p) (there_or (at_page p) (page_of core p)) h.0 h.2 in
    let there : page_of core p ≡ Some t.0 = there_or-Ok (at_page p) (page_of core p) t.0 t.1 in
    let sheets : map lent_sheet blocks ≡ record { page = p; bytes = t.0 } ∷ sheets_of core ps =
    e ∙ ap (λ o. cons_option (option_map (λ bytes. record { page = p; bytes = bytes }) o) (sheets_of core ps)) there in
    by blocks t.0 h.0 h.1 h.2 t.2 sheets (λ ys k. lent_entries core ps ys h.1 k h.3) h.4
  where
    by : (blocks : List LentPage) (bytes : List ℕ) (xs ys : List Listed) → page_entries core p ≡ Ok xs → entries_on core.inodes p bytes ≡ Ok xs
        → map lent_sheet blocks ≡ record { page = p; bytes = bytes } ∷ sheets_of core ps
        → ((ys' : List LentPage) → map lent_sheet ys' ≡ sheets_of core ps → gathered (λ (q : LentPage). entries_on core.inodes q.no.0 q.page) ys' ≡ Ok ys)
        → xs ++ ys ≡ es → gathered (λ (q : LentPage). entries_on core.inodes q.no.0 q.page) blocks ≡ Ok es
    by [] bytes xs ys a o m k j = absurd (let wrong : [] ≡ record { page = p; bytes = bytes } ∷ sheets_of core ps = m in cc)
    by (z ∷ zs) bytes xs ys a o m k j =
        let m' : lent_sheet z ∷ map lent_sheet zs ≡ record { page = p; bytes = bytes } ∷ sheets_of core ps = m in
        let head : lent_sheet z ≡ record { page = p; bytes = bytes } = cc m' in
        let tail : map lent_sheet zs ≡ sheets_of core ps = cc m' in
        let first : entries_on core.inodes z.no.0 z.page ≡ Ok xs = ap (λ (x : Sheet). entries_on core.inodes x.page x.bytes) head ∙ o in
        ap (λ r. both r (gathered (λ (q : LentPage). entries_on core.inodes q.no.0 q.page) zs)) first ∙ ap (both (Ok xs)) (k zs tail) ∙ ap Ok j

lent_bytes : (blocks : List LentPage) → flat_map (λ (p : LentPage). p.page) blocks ≡ flat_map (λ (x : Sheet). x.bytes) (map lent_sheet blocks)
lent_bytes [] = refl
lent_bytes (x ∷ xs) = ap (λ l. x.page ++ l) (lent_bytes xs)

module _ (s : State) (k : Kept s) (ino : ℕ) (r : Row) (row : row_at s.home ino ≡ Some r) where
  abbrev image : Image
  image = settled s

  abbrev core : Core
  core = (settled s).core

  abbrev nodes : Nodes
  nodes = nodes_of s

  abbrev file : MetAt (settled s).core plain ino r
  file = met_at (settled s) k.fit k.verifies ino r row

  tree : IsTree (nodes_of s)
  tree = states_are_trees s k

  kind_is : r.kind ≡ file.met.kind
  kind_is = ap (λ (x : Row). x.kind) file.row

  node_here : node_at nodes ino ≡ Some (node_of image ino (writer_of s ino) r)
  node_here = node_is s k ino ∙ ap (node_by image ino (writer_of s ino)) row

  pub rights_are : (n : ℕ) (kind : Kind) (bytes : List ℕ) → n ≡ ino → kind ≡ r.kind → bytes ≡ settled_body (settled s) ino → HasRights (rights_in kind bytes) (node_at nodes n)
  rights_are n kind bytes number same body =
      let spelled : body_at bytes ≡ file.file.body =
      ap body_at (body ∙ body_met (settled s) k.fit k.verifies ino r row)
      ∙ body_is_at file.met.kind core.range file.met.body file.file.body (reads_from core file.met file.file file.read).body in
      let mode : r.mode ≡ (body_at bytes).mode = ap (λ (x : Row). x.mode) file.row ∙ ap (λ (x : Body). x.mode) (sym spelled) in
      let uid : r.uid ≡ (body_at bytes).uid = ap (λ (x : Row). x.uid) file.row ∙ ap (λ (x : Body). x.uid) (sym spelled) in
      let gid : r.gid ≡ (body_at bytes).gid = ap (λ (x : Row). x.gid) file.row ∙ ap (λ (x : Body). x.gid) (sym spelled) in
      let F : Kind → Mode → ℕ → ℕ → Option Rights = λ q m u g. Some (record { kind = q; mode = m; uid = u; gid = g }) in
      search (arith, node_here)

  not_zero : ino ≡ 0 → ⊥
  not_zero none =
      let low = (met_numbered core plain k.fit k.verifies.sound file.met file.stands).0 in
      let number = file.number in omega (arith, low, number, none)

  -- ---- a directory

  module _ (directory : r.kind ≡ Directory) where
    gathers : gathered (page_entries core) file.file.chain.blocks ≡ Ok file.file.entries
    gathers =
        (gathers_directory core file.file.chain.blocks file.file.entries
        (ap (λ q. entries_of_kind core q file.file.chain.blocks) (sym directory ∙ kind_is) ∙ (reads_from core file.met file.file file.read).entries)).0

    -- the file of an entry
    abbrev child : Listed → Met
    child l = met_in plain file.met.ino l

    kid : (l : Listed) → In l file.file.entries → In (child l) (children core plain file.met)
    kid l i = child_has core plain file.met file.file l file.read i

    child_stands : (l : Listed) → In l file.file.entries → In (child l) (survey core plain)
    child_stands l i = child_met core plain k.fit.numbers k.verifies.sound file.met (child l) file.stands (kid l i)

    child_row : (l : Listed) → In l file.file.entries → (f : FileRead) × (file_of core (child l) ≡ Ok f) × (row_at s.home l.entry.ino ≡ Some (row_by (child l) f.body))
    child_row l i =
        let f = read_met core plain k.fit k.verifies.sound (child l) (child_stands l i) in
        (f.0, f.1, row_at_is core plain k.fit k.verifies.sound image (tables_of image k.fit k.verifies) l.entry.ino ∙ row_met core plain k.fit k.verifies.sound (child l) f.0 (child_stands l i) f.1)

    place_is : (l : Listed) → In l file.file.entries → is_place_of ino l.page l.slot (row_at s.home l.entry.ino) ≡ true
    place_is l i =
        let q = child_row l i in place_from ino l.page l.slot (row_at s.home l.entry.ino) (row_by (child l) q.0.body) q.2 file.number refl refl

    -- what an entry shows is true of its node
    entry_is : (l : Listed) → In l file.file.entries → entry_of_node ino (node_at nodes l.entry.ino) ≡ Some (entry_of_listed l)
    entry_is l i =
        let q = child_row l i in
        let z : Row = row_by (child l) q.0.body in
        let x : Node = node_of image l.entry.ino (writer_of s l.entry.ino) z in
        let below : l.entry.ino ≡ 1 → ⊥ = λ one. no_root_listed core plain k.fit.numbers k.verifies.sound file.met (child l) file.stands (kid l i) one in
        let name : name_of image l.entry.ino z ≡ l.entry.name = name_at_entry image file.met file.file l l.entry.ino z file.read i below refl refl in
        let body : q.0.body ≡ body_at l.body = sym (body_is_at l.entry.kind core.range l.body q.0.body (reads_from core (child l) q.0 q.1).body) in
        let F : List ℕ → Body → Option ShownEntry = λ n b. Some (record { name = n; rights = record { kind = l.entry.kind; mode = b.mode; uid = b.uid; gid = b.gid } }) in
        search (arith, node_is, eq-eqb)

    -- a node in the directory is that of an entry
    none_other : (n : ℕ) → find (λ (l : Listed). eqb l.entry.ino n) file.file.entries ≡ None → entry_of_node ino (node_at nodes n) ≡ None
    none_other n h = by (node_at nodes n) refl
      where
        here : (x : Node) → node_at nodes n ≡ Some x → x.parent ≡ ino → ⊥
        here x e p =
            elim (cases_eq n 1) [
              | inl one ↦ search (arith, tree, one_node, not_zero)
              | inr d ↦
                  let l = live s k n x e in
                  let q = listing image k.fit k.verifies n l.row l.at d in
                  let number : q.parent.ino ≡ file.met.ino = sym q.above ∙ ap (λ (z : Node). z.parent) (sym l.before) ∙ p ∙ sym file.number in
                  let same : q.parent ≡ file.met = one_met core plain k.fit k.verifies.sound q.parent file.met q.met file.stands number in
                  let read : q.file ≡ file.file = Ok-one (file_of core q.parent) q.file file.file q.read (ap (file_of core) same ∙ file.read) in
                  let i : In q.entry file.file.entries = subst (λ (z : FileRead). In q.entry z.entries) read q.listed in
                  let g = In-find (λ (y : Listed). eqb y.entry.ino n) file.file.entries q.entry i (eq-eqb q.entry.entry.ino n q.number) in
                  let wrong : None ≡ Some g.0 = sym h ∙ g.1 in absurd (cc wrong)
            ]

        by : (o : Option Node) → node_at nodes n ≡ o → entry_of_node ino o ≡ None
        by None e = refl
        by (Some x) e = ap (λ t. cond t (Some (record { name = x.name; rights = rights_of x })) None) (ne_eqb x.parent ino (here x e))

    entry_for : (n : ℕ) → entry_of_node ino (node_at nodes n) ≡ option_map entry_of_listed (find (λ (l : Listed). eqb l.entry.ino n) file.file.entries)
    entry_for n = by (find (λ (l : Listed). eqb l.entry.ino n) file.file.entries) refl
      where
        by : (o : Option Listed) → find (λ (l : Listed). eqb l.entry.ino n) file.file.entries ≡ o → entry_of_node ino (node_at nodes n) ≡ option_map entry_of_listed o
        by None h = none_other n h
        by (Some l) h =
            let f = find-In (λ (y : Listed). eqb y.entry.ino n) file.file.entries l h in
            ap (λ m. entry_of_node ino (node_at nodes m)) (sym (eqb-true l.entry.ino n f.1)) ∙ entry_is l f.0

  -- ---- the lease

  module _ (sizes : Sizes) (same_sizes : sizes.inodes ≡ s.home.core.inodes) (f : Shown) (number : f.ino ≡ ino) (kind : f.kind ≡ r.kind)
      (body : f.body ≡ settled_body (settled s) ino) (blocks : map lent_sheet f.blocks ≡ block_sheets core (settled_chain (settled s) r.kind ino)) (alone : writer_of s ino ≡ None) where
    sheets : map lent_sheet f.blocks ≡ sheets_of core file.file.chain.blocks
    sheets = blocks ∙ ap (block_sheets core) (chain_met (settled s) k.fit k.verifies ino r row)

    entries_are : r.kind ≡ Directory → entries_shown sizes f ≡ file.file.entries
    entries_are directory =
        ap (λ q. entries_lent sizes.inodes q f.blocks) (kind ∙ directory)
        ∙ ap (λ n. entries_or_none (gathered (λ (p : LentPage). entries_on n p.no.0 p.page) f.blocks)) same_sizes
        ∙ ap entries_or_none (lent_entries core file.file.chain.blocks f.blocks file.file.entries sheets (gathers directory))

    content : (d : Bool) → is_directory f.kind ≡ d → HasContent sizes nodes f d
    content true d =
        let directory : r.kind ≡ Directory = sym kind ∙ is_directory-true f.kind d in
        λ n.
        ap (λ m. entry_of_node m (node_at nodes n)) number ∙ entry_for directory n
        ∙ ap (λ es. option_map entry_of_listed (find (λ (l : Listed). eqb l.entry.ino n) es)) (sym (entries_are directory))
    content false d =
        ap (λ n. option_map (λ (x : Node). x.bytes) (node_at nodes n)) number
        ∙ ap (option_map (λ (x : Node). x.bytes)) node_here
        ∙ ap (λ t. Some (cond t [] (data_of image ino r (writer_of s ino)))) (ap is_directory (sym kind) ∙ d)
        ∙ ap (λ w. Some (data_of image ino r w)) alone
        ∙ ap (λ l. Some (bytes_of_sheets (size_of image ino) l)) (sym blocks)
        ∙ ap (λ l. Some (take (size_of image ino) l)) (sym (lent_bytes f.blocks))
        ∙ ap (λ b. Some (take (body_at b).size (flat_map (λ (p : LentPage). p.page) f.blocks))) (sym body)

    guard_is : option_map (λ (x : Node). x.guard) (node_at nodes f.ino) ≡ Some (guard_in f.body)
    guard_is =
        ap (λ n. option_map (λ (x : Node). x.guard) (node_at nodes n)) number
        ∙ ap (option_map (λ (x : Node). x.guard)) node_here
        ∙ ap (λ b. Some (guard_in b)) (sym body)

    places : HasPlaces sizes (record { files = f ∷ []; holds = [] }) s.home.rows
    places g l h j = search (arith, place_is, entries_are)

    shown_true : HasFile sizes nodes f × HasPlaces sizes (record { files = f ∷ []; holds = [] }) s.home.rows
    shown_true = (record { rights = rights_are f.ino f.kind f.body number kind body; guard = guard_is; content = content (is_directory f.kind) refl }, places)

pub leases_show : LeaseShows
leases_show s lib ino Read r sizes f k row lends alone same l = shown_true s k ino r row sizes same f l.ino l.kind l.body l.blocks alone
leases_show s lib ino Write r sizes f k row lends alone same l = shown_true s k ino r row sizes same f l.ino l.kind l.body l.blocks alone
leases_show s lib ino Hold r sizes f k row lends alone same l = absurd lends

-- ---- holds

child_said : (ino : ℕ) (o : Option Row) (p : Option Node) → option_map row_says o ≡ option_map node_says p → is_in ino p ≡ is_child ino o
child_said ino o p e = search arith

pub holds_show : HoldShows
holds_show s lib ino r h k row l = record {
  rights = rights_are s k ino r row h.ino h.kind h.body l.ino l.kind l.body;
  children = search (arith, count_pair, child_said, rows_say);
}
