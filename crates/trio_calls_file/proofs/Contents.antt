-- What is had of a file is true of its node.
use Rattle.trio_calls_file.proofs.Words.{◌++◌, ◌+◌, ◌||◌, ◌∙◌, ◌∷◌, ◌≡◌, ArePossible, DeskSeen, Directory, HasRights, In, IsHad, Kind, List, MayCall, Node, Nodes, None, Ok, Option, Rights, Row, SessionSeen, Shown, Some, [], ap, arith, batch_nodes, body_had, body_had-open, body_in, bytes_had, bytes_in, chain_in, cond, entries_counted, eqb, eqb-true, false≢true, in_hand, is_some, length, node_at, open_kind, option_map, pages_shown, read_file, refl, rights_in, rights_of, sees_bytes, sees_directory, serves, shows_calls, size_in, subst, suc, sym, take, true, zero, ℕ, is_directory, false}
use Rattle.std.proofs.Common.{map, length-append}
use Rattle.std.specs.List.{filter, flat_map}
use Rattle.std.proofs.lemmas.List.{length-take-le}
use Rattle.std.proofs.lemmas.List.Elements.{filter-append}
use Rattle.std.proofs.lemmas.List.Folds.{flat_map-map}
use Rattle.std.proofs.lemmas.List.Sums.{sum_by-cons}
use Rattle.trio_lists.specs.Lists.{gathered, gathered_below, tabulated}
use Rattle.trio_lists.proofs.Filters.{find-In}
use Rattle.trio_lists.proofs.Members.{In-right, both-Ok}
use Rattle.trio_layout.specs.Entries.{Listed, body_in_slot, entries_on, listed_at, slot_bytes, slot_entries}
use Rattle.trio_layout.specs.Slot.{slot_of}
use Rattle.trio_layout.specs.declared.slot.SlotRead.{SlotRead}
use Rattle.trio_layout.specs.declared.slot.SlotRead.TheVariants.{Empty, Entry, Bad}
use Rattle.trio_auxdir.specs.Slots.{name_in, slot_on, slots_of, slots_on}
use Rattle.trio_session.proofs.Slots.{slot_wider}
use Rattle.trio_laws.proofs.session.LentFiles.{lent_gathers}
use Rattle.trio_lease.specs.declared.parts.LentPage.{LentPage}
use Rattle.trio_nodes.specs.Nodes.{count_in}
use Rattle.trio_desk.specs.Agrees.{HasContent, HasFile}
use Rattle.trio_desk.specs.Contents.{bytes_shown, entries_shown}
use Rattle.trio_desk.specs.Ready.{lent_files}
use Rattle.trio_laws.specs.session.Sees.{IsView}
use Rattle.trio_laws.proofs.session.Sees.{sees_lease, sees_lent}
use Rattle.trio_session.specs.Layout.{page_in}
use Rattle.trio_session.specs.Seen.{entry_count, every_number}
use Rattle.trio_nodes.specs.declared.grant.GrantKind.TheVariants.{Read}
use Rattle.trio_edit_laws.proofs.directories.Sees.{open_rights}
use Rattle.trio_deeds.proofs.Reading.{length-joined}
use Rattle.trio_edit_laws.proofs.Walkable.{view_calls}
use Rattle.trio_session.proofs.Shows.{body_had-read, pages_shown-open}
use Rattle.trio_edit_laws.proofs.Had.{pages_shown-lent}
use Rattle.trio_deeds.specs.Reads.{entries_within, is_entry}

-- as many bytes as the size says
pub had_length : (s : SessionSeen) (ino : ℕ) → IsHad s ino → length (bytes_had s ino) ≡ size_in (body_had s ino)
had_length s ino had =
    let all = length-joined (pages_shown s ino) had.whole in
    length-take-le (size_in (body_had s ino)) (flat_map (λ p. p) (pages_shown s ino)) (omega (arith, all, had.blocks))

-- ---- entries

slot_counts : (page slot : ℕ) (body : List ℕ) (here wide : SlotRead) (ls : List Listed) → ((here ≡ Bad → ⊥) → wide ≡ here) → listed_at page slot body here ≡ Ok ls → length ls ≡ cond (is_entry wide) 1 0
slot_counts page slot body Empty wide ls same e =
    let w : wide ≡ Empty = same (λ b. absurd cc) in
    let n : [] ≡ ls = cc e in
    sym (ap (λ (l : List Listed). length l) n) ∙ sym (ap (λ r. cond (is_entry r) 1 0) w)
slot_counts page slot body Bad wide ls same e = absurd cc
slot_counts page slot body (Entry x) wide ls same e =
    let w : wide ≡ Entry x = same (λ b. absurd cc) in
    let one : Listed = record { entry = x; page = page; slot = slot; body = body } in
    let n : one ∷ [] ≡ ls = cc e in
    sym (ap (λ (l : List Listed). length l) n) ∙ sym (ap (λ r. cond (is_entry r) 1 0) w)

below_counts : (inodes page_no : ℕ) (page : List ℕ) (k : ℕ) (ls : List Listed) → gathered_below (slot_entries inodes page_no page) k ≡ Ok ls → length ls ≡ entries_within k page
unfolding entries_within
below_counts inodes page_no page zero ls e = (let none : [] ≡ ls = cc e in sym (ap (λ (l : List Listed). length l) none))
below_counts inodes page_no page (suc k) ls e =
    let b = both-Ok (gathered_below (slot_entries inodes page_no page) k) (slot_entries inodes page_no page k) ls e in
    let before = below_counts inodes page_no page k b.0 b.2 in
    let bytes : List ℕ = slot_bytes k page in
    let here = slot_counts page_no k (body_in_slot k page) (slot_of inodes bytes) (slot_of every_number bytes) b.1 (slot_wider inodes bytes) b.3 in
    sym (ap (λ (l : List Listed). length l) b.4) ∙ length-append b.0 b.1 ∙ ap (λ n. n + length b.1) before ∙ ap (λ n. entries_within k page + n) here

page_counts : (inodes page_no : ℕ) (page : List ℕ) (ls : List Listed) → entries_on inodes page_no page ≡ Ok ls → length ls ≡ entries_within 16 page
unfolding entries_on
page_counts inodes page_no page ls e = below_counts inodes page_no page 16 ls e

blocks_count : (inodes : ℕ) (blocks : List LentPage) (ls : List Listed) → gathered (λ (p : LentPage). entries_on inodes p.no.0 p.page) blocks ≡ Ok ls → length ls ≡ entries_counted (map (λ (p : LentPage). p.page) blocks)
blocks_count inodes [] ls e = (let none : [] ≡ ls = cc e in sym (ap (λ (l : List Listed). length l) none))
blocks_count inodes (p ∷ ps) ls e =
    let b = both-Ok (entries_on inodes p.no.0 p.page) (gathered (λ (q : LentPage). entries_on inodes q.no.0 q.page) ps) ls e in
    let here = page_counts inodes p.no.0 p.page b.0 b.2 in
    let rest = blocks_count inodes ps b.1 b.3 in
    sym (ap (λ (l : List Listed). length l) b.4) ∙ length-append b.0 b.1 ∙ ap (λ n. n + length b.1) here ∙ ap (λ n. entries_within 16 p.page + n) rest
    ∙ sym (sum_by-cons (entries_within 16) p.page (map (λ (q : LentPage). q.page) ps))

-- ---- what is had

-- What is had of a file: its rights, and the bytes of what is no directory.
pub record HadHere (s : SessionSeen) (ino' : ℕ) (kind' : Kind) (x : Option Node) : Type 0 where
  pub rights : HasRights (rights_in kind' (body_had s ino')) x
  pub bytes : is_directory kind' ≡ false → option_map (λ n. n.bytes) x ≡ Some (bytes_had s ino')

-- ---- entries by slots

names-append : (xs ys : List (Option (List ℕ))) → length (filter is_some (xs ++ ys)) ≡ length (filter is_some xs) + length (filter is_some ys)
names-append xs ys = ap (λ (l : List (Option (List ℕ))). length l) (filter-append is_some xs ys) ∙ length-append (filter is_some xs) (filter is_some ys)

slot_named : (r : SlotRead) → length (filter is_some (name_in r ∷ [])) ≡ cond (is_entry r) 1 0
slot_named Empty = refl
slot_named (Entry e) = refl
slot_named Bad = refl

slots_below : (page : List ℕ) (k : ℕ) → length (filter is_some (tabulated (slot_on every_number page) k)) ≡ entries_within k page
unfolding entries_within
slots_below page zero = refl
slots_below page (suc k) =
    names-append (tabulated (slot_on every_number page) k) (slot_on every_number page k ∷ [])
    ∙ ap (λ n. n + length (filter is_some (slot_on every_number page k ∷ []))) (slots_below page k)
    ∙ ap (λ n. entries_within k page + n) (slot_named (slot_of every_number (slot_bytes k page)))

slots_page : (page : List ℕ) → length (filter is_some (slots_on every_number page)) ≡ entries_within 16 page
unfolding slots_on
slots_page page = slots_below page 16

entries_by_slots : (pages : List (List ℕ)) → entry_count (slots_of every_number pages) ≡ entries_counted pages
entries_by_slots [] = refl
entries_by_slots (p ∷ ps) =
    names-append (slots_on every_number p) (slots_of every_number ps)
    ∙ ap (λ n. n + entry_count (slots_of every_number ps)) (slots_page p)
    ∙ ap (λ n. entries_within 16 p + n) (entries_by_slots ps)
    ∙ sym (sum_by-cons (entries_within 16) p ps)

-- ---- in the nodes that are shown

module _ (desk : DeskSeen) (s : SessionSeen) (may : MayCall desk s) (ino : ℕ) (nodes : Nodes) (rows : List (Option Row)) (p : ArePossible desk s.parcel s.reads nodes rows) where
  view : IsView desk (in_hand s) (in_hand s) nodes (batch_nodes desk.creds s.calls nodes) rows
  view = view_calls desk s may nodes rows p

  -- of a file that is open
  open_here : (kind : Kind) → open_kind s ino ≡ Some kind → HadHere s ino kind (node_at (batch_nodes desk.creds s.calls nodes) ino)
  open_here kind o =
      let now : Nodes = batch_nodes desk.creds s.calls nodes in
      let body : body_had s ino ≡ body_in s ino = body_had-open s ino kind o in
      let pages : pages_shown s ino ≡ map (page_in s.parcel) (chain_in s ino).blocks = pages_shown-open s ino kind o in
      let bytes : bytes_had s ino ≡ bytes_in s ino =
      ap (λ b. take (size_in b) (flat_map (λ q. q) (pages_shown s ino))) body
      ∙ ap (λ l. take (size_in (body_in s ino)) (flat_map (λ q. q) l)) pages
      ∙ ap (take (size_in (body_in s ino))) (flat_map-map (λ (q : List ℕ). q) (page_in s.parcel) (chain_in s ino).blocks) in
      record {
        rights = subst (λ b. HasRights (rights_in kind b) (node_at now ino)) (sym body) (open_rights desk s ino kind (in_hand s) nodes now rows may.edits view o);
        bytes = λ e. (sees_bytes desk s ino kind nodes now rows may.edits o e (shows_calls desk s may nodes rows p)).1 ∙ ap Some (sym bytes);
      }

  -- of one that is read
  module _ (f : Shown) (none : open_kind s ino ≡ None) (there : read_file s ino ≡ Some f) where
    among : In f s.reads
    among = (find-In (λ (g : Shown). eqb g.ino ino) s.reads f there).0

    number : f.ino ≡ ino
    number = eqb-true f.ino ino (find-In (λ (g : Shown). eqb g.ino ino) s.reads f there).1

    read_here : HasFile desk.sizes (batch_nodes desk.creds s.calls nodes) f
    read_here =
        sees_lease desk (in_hand s) (in_hand s) nodes (batch_nodes desk.creds s.calls nodes) rows f view (In-right f (lent_files s.parcel.writes) s.reads among)
        (may.edits.alone f among)

    lent_here : HadHere s ino f.kind (node_at (batch_nodes desk.creds s.calls nodes) ino)
    lent_here =
        let now : Nodes = batch_nodes desk.creds s.calls nodes in
        let body : body_had s ino ≡ f.body = body_had-read s ino f none there in
        let pages : pages_shown s ino ≡ map (λ (q : LentPage). q.page) f.blocks = pages_shown-lent s ino f none there in
        let bytes : bytes_had s ino ≡ bytes_shown f =
        ap (λ b. take (size_in b) (flat_map (λ q. q) (pages_shown s ino))) body
        ∙ ap (λ l. take (size_in f.body) (flat_map (λ q. q) l)) pages
        ∙ ap (take (size_in f.body)) (flat_map-map (λ (q : List ℕ). q) (λ (q : LentPage). q.page) f.blocks) in
        record {
          rights = subst (λ b. HasRights (rights_in f.kind b) (node_at now ino)) (sym body) (subst (λ n. HasRights (rights_in f.kind f.body) (node_at now n)) number read_here.rights);
          bytes = λ e.
              let c : HasContent desk.sizes now f false = subst (λ b. HasContent desk.sizes now f b) e read_here.content in
              ap (λ n. option_map (λ (x : Node). x.bytes) (node_at now n)) (sym number) ∙ c ∙ ap Some (sym bytes);
        }

    -- how many entries a directory has that is read
    lent_count : f.kind ≡ Directory → count_in (batch_nodes desk.creds s.calls nodes) ino ≡ entries_counted (pages_shown s ino)
    lent_count dir =
        let now : Nodes = batch_nodes desk.creds s.calls nodes in
        let well = may.edits.on.reads f among in
        let lists = sees_lent desk (in_hand s) (in_hand s) nodes now rows f view (In-right f (lent_files s.parcel.writes) s.reads among) (may.edits.alone f among) well in
        ap (count_in now) (sym number) ∙ lists.count ∙ blocks_count desk.sizes.inodes f.blocks (entries_shown desk.sizes f) (lent_gathers desk.sizes f well (record { ino = f.ino; kind = f.kind; parent = 0; page = 0; slot = 0; body = f.body }) refl refl dir)
        ∙ sym (ap entries_counted (pages_shown-lent s ino f none there))

  -- and one that is open
  open_count : open_kind s ino ≡ Some Directory → count_in (batch_nodes desk.creds s.calls nodes) ino ≡ entries_counted (pages_shown s ino)
  open_count o = (sees_directory desk s ino nodes (batch_nodes desk.creds s.calls nodes) rows may.edits o (shows_calls desk s may nodes rows p)).count ∙ entries_by_slots (pages_shown s ino)

  -- a file that is taken for reading
  data IsReadBy : Type 0 where
    AsOpen : (kind : Kind) → open_kind s ino ≡ Some kind → IsReadBy
    AsLent : (f : Shown) → open_kind s ino ≡ None → read_file s ino ≡ Some f → IsReadBy

  read_by : serves s ino Read ≡ true → IsReadBy
  read_by served = by_kind (open_kind s ino) refl
    where
      by_read : (o : Option Shown) → open_kind s ino ≡ None → read_file s ino ≡ o → IsReadBy
      by_read (Some f) none e = AsLent f none e
      by_read None none e = absurd (false≢true (sym (ap (λ (q : Option Kind). is_some q || is_some (read_file s ino)) none ∙ ap is_some e) ∙ served))

      by_kind : (o : Option Kind) → open_kind s ino ≡ o → IsReadBy
      by_kind (Some k) e = AsOpen k e
      by_kind None e = by_read (read_file s ino) e refl

  -- the kind of the file that is had
  kind_here : (kind kind' : Kind) (x : Node) → node_at (batch_nodes desk.creds s.calls nodes) ino ≡ Some x → x.kind ≡ kind → HadHere s ino kind' (node_at (batch_nodes desk.creds s.calls nodes) ino) → kind' ≡ kind
  kind_here kind kind' x there is h =
      let same : Some (rights_of x) ≡ Some (rights_in kind' (body_had s ino)) = sym (ap (option_map rights_of) there) ∙ h.rights in
      let rights : rights_of x ≡ rights_in kind' (body_had s ino) = cc same in
      sym (ap (λ (r : Rights). r.kind) rights) ∙ is

  pub had_here : (kind : Kind) (x : Node) → node_at (batch_nodes desk.creds s.calls nodes) ino ≡ Some x → x.kind ≡ kind → serves s ino Read ≡ true → HadHere s ino kind (node_at (batch_nodes desk.creds s.calls nodes) ino)
  had_here kind x there is served =
      elim (read_by served) [
        | AsOpen k o ↦ subst (λ q. HadHere s ino q (node_at (batch_nodes desk.creds s.calls nodes) ino)) (kind_here kind k x there is (open_here k o)) (open_here k o)
        | AsLent f none e ↦ subst (λ q. HadHere s ino q (node_at (batch_nodes desk.creds s.calls nodes) ino)) (kind_here kind f.kind x there is (lent_here f none e)) (lent_here f none e)
      ]

  same_kind : (a b : Kind) → HadHere s ino a (node_at (batch_nodes desk.creds s.calls nodes) ino) → HadHere s ino b (node_at (batch_nodes desk.creds s.calls nodes) ino) → a ≡ b
  same_kind a b x y =
      let same : Some (rights_in a (body_had s ino)) ≡ Some (rights_in b (body_had s ino)) = sym x.rights ∙ y.rights in
      let rights : rights_in a (body_had s ino) ≡ rights_in b (body_had s ino) = cc same in
      ap (λ (r : Rights). r.kind) rights

  -- how many entries a directory has
  pub had_count : HadHere s ino Directory (node_at (batch_nodes desk.creds s.calls nodes) ino) → serves s ino Read ≡ true → count_in (batch_nodes desk.creds s.calls nodes) ino ≡ entries_counted (pages_shown s ino)
  had_count h served =
      elim (read_by served) [
        | AsOpen k o ↦ open_count (o ∙ ap Some (same_kind k Directory (open_here k o) h))
        | AsLent f none e ↦ lent_count f none e (same_kind f.kind Directory (lent_here f none e) h)
      ]
