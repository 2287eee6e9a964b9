-- What a session sees of a directory that it has open, by the entries that this reads.
use Rattle.trio_edit_laws.proofs.Words.{◌%◌, ◌/◌, ◌<◌, ◌∙◌, ◌≡◌, Bad, Chain, Core, DeskSeen, Directory, Entry, EntryPart, HasRights, In, In-right, InHand, IsView, Kind, LentFile, List, Listed, MadeFile, MayEdit, Met, Mode, Node, Nodes, None, Ok, Option, Place, Rights, Row, SessionSeen, Shown, SlotRead, Some, [], among_cases, ap, arith, bare_file, block_shown, body_in, body_in_slot, bytes_eq, case_in_hand, chain_in, cond, core_in_hand, dir_pages, entries_where, entries_within, entry_count, entry_in, entry_on, entry_shown, every_number, find, find_map, gathered, gathered_below, get_or, in_hand, inl, ino_numbers, inr, is_some, length, length-map, made_file, map, map-map, met_in, node_at, number_shown, open_kind, option_and_then, option_map, option_map_or, option_or, page_at, page_in, page_of, pages_shown, place_at, place_of, place_shown, plain, read_file, refl, result_then-Ok, rights_in, rights_of, sees_judged, sees_made, sees_written, slice_get, slice_get-In, slice_get-get_or, slice_get-map, slot_bytes, slot_entries, slot_of, slot_wider, slot_with, slots_of, slots_shown, subst, sym, true, with_names_apart, within_from, written_at, ℕ}
use Rattle.trio_layout.specs.Entries.{entries_on}
use Rattle.trio_auxdir.specs.Places.{place_of as place_at_name}
use Rattle.trio_nodes.specs.Nodes.{count_in, find_named, names_in}
use Rattle.trio_surveys.proofs.Places.{below_has, gathered_has}
use Rattle.trio_laws.specs.session.Sees.{Lists}
use Rattle.trio_laws.proofs.session.DirNames.{names_in_order}
use Rattle.trio_edit_laws.proofs.session.Named.{entries_are_in_slots, entry_names, made_is_judged, written_is_judged}
use Rattle.trio_laws.proofs.session.Spares.{shown_spares}
use Rattle.trio_edit_laws.specs.DirLaws.{SeesDirectory}
use Rattle.trio_edit_laws.proofs.Anew.{body-made, body-written}
use Rattle.trio_edit_laws.proofs.Hand.{hand_page}
use Rattle.trio_edit_laws.proofs.Keeps.{place_of_open}
use Rattle.trio_edit_laws.proofs.Opens.{OpenMade, OpenWritten, open_chained, opened}
use Rattle.trio_edit_laws.proofs.Whole.{OpenReads, judged_reads, open_reads}
use Rattle.trio_edit_laws.proofs.directories.Slotted.{entries-parts, has_this_name, length-present, no_spot, not_bad, parts_of, present, slots_of-parts, spot}
use Rattle.trio_session.specs.Deeds.{names_here}

-- ---- what is looked at

pub entry_from : (r : SlotRead) (e : EntryPart) → entry_in r ≡ Some e → r ≡ Entry e
entry_from r e h = search arith

module _ (s : SessionSeen) (dir : ℕ) (o : open_kind s dir ≡ Some Directory) where
  pub pages_open : pages_shown s dir ≡ map (page_in s.parcel) (chain_in s dir).blocks
  pages_open = ap (λ k. cond (is_some k) (map (page_in s.parcel) (chain_in s dir).blocks) (option_map_or dir_pages (read_file s dir) [])) o

  pub block_open : (k : ℕ) → block_shown s dir k ≡ option_map (page_in s.parcel) (slice_get (chain_in s dir).blocks k)
  block_open k =
      ap (λ q. cond (is_some q) (option_map (page_in s.parcel) (slice_get (chain_in s dir).blocks k)) (option_and_then (λ f. page_at f.blocks k) (read_file s dir))) o

  pub place_open : (name : List ℕ) → place_shown s dir name ≡ place_at_name name (slots_shown s dir)
  place_open name = ap (λ k. place_of (option_or k (option_map (λ (f : Shown). f.kind) (read_file s dir))) (slots_shown s dir) name) o

-- ---- a directory that is open, as it reads

-- the entry in a slot
abbrev pub listed_on : SessionSeen → ℕ → ℕ → EntryPart → Listed
listed_on s n slot e = record { entry = e; page = n; slot = slot; body = body_in_slot slot (page_in s.parcel n) }

module _ (desk : DeskSeen) (s : SessionSeen) (dir : ℕ) (h' : InHand) (nodes nodes' : Nodes) (rows : List (Option Row)) (m : MayEdit desk s)
    (v : IsView desk (in_hand s) h' nodes nodes' rows) (o : open_kind s dir ≡ Some Directory) where
  abbrev core : Core
  core = core_in_hand desk (in_hand s)

  abbrev blocks : List ℕ
  blocks = (chain_in s dir).blocks

  pub r : OpenReads desk s dir Directory
  r = open_reads desk s dir Directory h' nodes nodes' rows m v o

  pub there : (n : ℕ) → In n blocks → page_of (core_in_hand desk (in_hand s)) n ≡ Some (page_in s.parcel n)
  there n i = hand_page desk s n m (m.own n (open_chained s dir n (place_of_open desk s dir Directory m o) (In-right n (chain_in s dir).index (chain_in s dir).blocks i)))

  blocks_are : r.file.chain.blocks ≡ (chain_in s dir).blocks
  blocks_are = ap (λ (c : Chain). c.blocks) r.chain

  entries_read : entries_within (core_in_hand desk (in_hand s)) Directory (chain_in s dir).blocks ≡ Ok r.file.entries
  entries_read =
      ap (λ k. entries_within core k blocks) (sym r.is.kind)
      ∙ ap (entries_within core r.is.met.kind) (sym blocks_are)
      ∙ (within_from core r.is.met r.file r.reads).entries

  -- its entries, in order
  pub parts_read : present (parts_of (map (page_in s.parcel) (chain_in s dir).blocks)) ≡ map (λ (l : Listed). l.entry) r.file.entries
  parts_read = entries-parts core (page_in s.parcel) blocks r.file.entries there entries_read

  -- each slot is in the grammar
  pub slot_good : (n slot : ℕ) → In n (chain_in s dir).blocks → slot < 16 → slot_of desk.sizes.inodes (slot_bytes slot (page_in s.parcel n)) ≡ Bad → ⊥
  unfolding entries_on
  slot_good n slot i lt bad =
      let all = result_then-Ok with_names_apart (gathered (λ k. entries_where core.inodes k (page_of core k)) blocks) r.file.entries entries_read in
      let on = gathered_has (λ k. entries_where core.inodes k (page_of core k)) blocks all.0 n all.1 i in
      let here : gathered_below (slot_entries core.inodes n (page_in s.parcel n)) 16 ≡ Ok on.0 = ap (entries_where core.inodes n) (sym (there n i)) ∙ on.1 in
      let one = below_has (slot_entries core.inodes n (page_in s.parcel n)) 16 on.0 slot here lt in
      not_bad n slot (body_in_slot slot (page_in s.parcel n)) (slot_of core.inodes (slot_bytes slot (page_in s.parcel n))) one.0 one.1 bad

  -- and says the same whatever the image's numbers
  pub slot_wide : (n slot : ℕ) → In n (chain_in s dir).blocks → slot < 16
      → slot_of every_number (slot_bytes slot (page_in s.parcel n)) ≡ slot_of desk.sizes.inodes (slot_bytes slot (page_in s.parcel n))
  slot_wide n slot i lt = slot_wider desk.sizes.inodes (slot_bytes slot (page_in s.parcel n)) (slot_good n slot i lt)

  -- what a slot says is an entry
  pub listed : (n slot : ℕ) (e : EntryPart) → In n (chain_in s dir).blocks → slot < 16 → slot_of every_number (slot_bytes slot (page_in s.parcel n)) ≡ Entry e
      → In (listed_on s n slot e) r.file.entries
  listed n slot e i lt says =
      (entries_are_in_slots desk (in_hand s) r.is.met r.file (listed_on s n slot e) r.is.kind r.reads).1 (record {
        block = subst (λ l. In n l) (sym blocks_are) i;
        slot = lt;
        bytes = page_in s.parcel n;
        page = there n i;
        says = sym (slot_wide n slot i lt) ∙ says;
        body = refl;
      })

  pub lists : Lists nodes' dir r.file.entries
  lists = subst (λ n. Lists nodes' n r.file.entries) r.is.number (sees_judged desk (in_hand s) h' nodes nodes' rows r.is.met r.file v r.is.judged r.reads)

  -- ---- look-ups

  abbrev pages : List (List ℕ)
  pages = map (page_in s.parcel) (chain_in s dir).blocks

  slots_are : slots_shown s dir ≡ slots_of every_number (map (page_in s.parcel) (chain_in s dir).blocks)
  slots_are = ap (slots_of every_number) (pages_open s dir o)

  -- the block and the slot of a place
  pub entry_at_place : (k j : ℕ) (e : EntryPart) → k < length (map (page_in s.parcel) (chain_in s dir).blocks)
      → entry_on (get_or (map (page_in s.parcel) (chain_in s dir).blocks) k []) j ≡ Some e
      → entry_shown s dir (record { block = k; slot = j }) ≡ Some e
  entry_at_place k j e lt on = search (arith, block_open, slice_get-map, slice_get-get_or)

  find_entry : (name : List ℕ) → option_map (λ (l : Listed). l.entry.ino) (find (λ (l : Listed). bytes_eq l.entry.name name) r.file.entries)
      ≡ option_map (λ (e : EntryPart). e.ino) (find (has_this_name name) (present (parts_of (map (page_in s.parcel) (chain_in s dir).blocks))))
  find_entry name = search (arith, r, find_map, parts_read)

  look_up : (name : List ℕ) → find_named nodes' dir name ≡ option_map (number_shown s dir) (place_shown s dir name)
  look_up name = lists.named name ∙ find_entry name ∙ by (slot_with name (slots_of every_number pages)) refl
    where
      place : (q : Option ℕ) → slot_with name (slots_of every_number pages) ≡ q → place_shown s dir name ≡ option_map place_at q
      place q e = place_open s dir o name ∙ ap (place_at_name name) slots_are ∙ ap (option_map place_at) e

      by : (q : Option ℕ) → slot_with name (slots_of every_number pages) ≡ q
          → option_map (λ (e : EntryPart). e.ino) (find (has_this_name name) (present (parts_of pages))) ≡ option_map (number_shown s dir) (place_shown s dir name)
      by None e = ap (option_map (λ (e : EntryPart). e.ino)) (no_spot pages name e) ∙ sym (ap (option_map (number_shown s dir)) (place None e))
      by (Some i) e =
          let sp = spot pages name i e in
          ap (option_map (λ (e : EntryPart). e.ino)) sp.first
          ∙ ap (λ q. Some (option_map_or (λ (x : EntryPart). x.ino) q 0)) (sym (entry_at_place (i / 16) (i % 16) sp.entry sp.block sp.on))
          ∙ sym (ap (option_map (number_shown s dir)) (place (Some i) e))

  count_is : count_in nodes' dir ≡ entry_count (slots_shown s dir)
  count_is = search (arith, lists, length-map, r, parts_read, length-present, slots_of-parts, slots_are)

  names_are : names_in nodes' dir ≡ names_here s dir
  names_are = search (arith, names_in_order, r, lists, map-map, parts_read, pages_open)

  -- ---- rights

  -- a file that stays has the rights that it had
  rights_kept : (n : ℕ) (rights : Rights) (y : Node) → HasRights rights (node_at nodes n) → node_at nodes' n ≡ Some y → HasRights rights (node_at nodes' n)
  rights_kept n rights y was now = by (node_at nodes n) refl was
    where
      make : Kind → Mode → ℕ → ℕ → Rights
      make k mode u g = record { kind = k; mode = mode; uid = u; gid = g }

      by : (q : Option Node) → node_at nodes n ≡ q → option_map rights_of q ≡ Some rights → HasRights rights (node_at nodes' n)
      by None e w = absurd (let t : None ≡ Some rights = w in cc t)
      by (Some x) e w =
          let k =
          (shown_spares (case_in_hand desk rows (in_hand s)) nodes nodes' v.shows.possible.tree v.shows.tree (m.order.among nodes rows (v.more nodes rows v.shows.possible)) v.shows.shows).0 n x y e now in
          let same : rights_of y ≡ rights_of x =
          ap (λ a. make a y.mode y.uid y.gid) k.0 ∙ ap (λ a. make x.kind a y.uid y.gid) k.1 ∙ ap (λ a. make x.kind x.mode a y.gid) k.2 ∙ ap (make x.kind x.mode x.uid) k.3 in
          ap (option_map rights_of) now ∙ ap Some same ∙ w

  -- an entry's file has the rights that its slot shows
  pub entry_rights : (l : Listed) → In l r.file.entries → HasRights (rights_in l.entry.kind l.body) (node_at nodes' l.entry.ino)
  entry_rights l i =
      elim (among_cases l.entry.ino (ino_numbers s.parcel.inodes)) [
        | inl new ↦ sees_made desk (in_hand s) h' nodes nodes' rows r.is.met r.file l v r.is.judged r.reads i new
        | inr old ↦
            let x = lists.each l i in
            rights_kept l.entry.ino (rights_in l.entry.kind l.body) x.0 (m.entries nodes rows r.is.met r.file l (v.more nodes rows v.shows.possible) r.is.judged r.reads i old) x.1
      ]

  -- an allotted number that an entry names is that of a file that was made
  pub entry_made : (l : Listed) → In l r.file.entries → In l.entry.ino (ino_numbers s.parcel.inodes) → is_some (made_file s l.entry.ino) ≡ true
  entry_made l i new =
      let x : Met = met_in plain r.is.met.ino l in
      let named = entry_names desk (in_hand s) h' nodes nodes' rows r.is.met r.file l v r.is.judged r.reads i in
      m.made.only nodes rows (v.more nodes rows v.shows.possible) x
      ((made_is_judged desk (in_hand s) h' nodes nodes' rows x v new).1 (record { directory = r.is.met.ino; listed = l }, named, refl)) new

-- a file that is open has, as a node, the rights of its body
pub open_rights : (desk : DeskSeen) (s : SessionSeen) (ino : ℕ) (kind : Kind) (h' : InHand) (nodes nodes' : Nodes) (rows : List (Option Row)) → MayEdit desk s
    → IsView desk (in_hand s) h' nodes nodes' rows → open_kind s ino ≡ Some kind
    → HasRights (rights_in kind (body_in s ino)) (node_at nodes' ino)
open_rights desk s ino kind h' nodes nodes' rows m v o = elim (opened s ino kind o) [ inl w ↦ written w | inr w ↦ made w ]
  where
    written : OpenWritten s ino kind → HasRights (rights_in kind (body_in s ino)) (node_at nodes' ino)
    written w =
        let f : LentFile = w.file in
        let i : In f s.parcel.writes = slice_get-In s.parcel.writes w.place f w.there in
        let file = judged_reads desk (in_hand s) h' nodes nodes' rows (written_at (bare_file f.stands) None) v (written_is_judged desk (in_hand s) f i) in
        let same = (m.all.given.writes f i).same in
        let has = (sees_written desk (in_hand s) h' nodes nodes' rows f file.0 v i same.ino same.kind file.1).0 in
        subst (λ k. HasRights (rights_in k (body_in s ino)) (node_at nodes' ino)) w.kind_is
        (subst (λ (b : List ℕ). HasRights (rights_in f.stands.kind b) (node_at nodes' ino)) (sym (body-written s ino f.stands w.none w.shown))
        (subst (λ n. HasRights (rights_in f.stands.kind f.stands.body) (node_at nodes' n)) w.number has))

    made : OpenMade s ino kind → HasRights (rights_in kind (body_in s ino)) (node_at nodes' ino)
    made w =
        let x : MadeFile = w.file in
        let q = m.made.slots x w.among in
        let l : Listed = listed_on s x.page x.slot q.entry in
        let has =
        entry_rights desk s q.directory h' nodes nodes' rows m v q.opens l (listed desk s q.directory h' nodes nodes' rows m v q.opens x.page x.slot q.entry q.block q.slot q.says) in
        subst (λ k. HasRights (rights_in k (body_in s ino)) (node_at nodes' ino)) (q.kind ∙ w.kind_is)
        (subst (λ (b : List ℕ). HasRights (rights_in q.entry.kind b) (node_at nodes' ino)) (sym (body-made s ino x w.found))
        (subst (λ n. HasRights (rights_in q.entry.kind l.body) (node_at nodes' n)) (q.number ∙ w.number) has))

-- ---- the law

-- an entry that is shown is one that the directory reads
pub record IsShownHere (s : SessionSeen) (dir : ℕ) (place : Place) (e : EntryPart) : Type 0 where
  pub number : ℕ
  pub at : slice_get (chain_in s dir).blocks place.block ≡ Some number
  pub block : In number (chain_in s dir).blocks
  pub shown : block_shown s dir place.block ≡ Some (page_in s.parcel number)
  pub says : slot_of every_number (slot_bytes place.slot (page_in s.parcel number)) ≡ Entry e

pub shown_here : (s : SessionSeen) (dir : ℕ) (place : Place) (e : EntryPart) → open_kind s dir ≡ Some Directory → entry_shown s dir place ≡ Some e → IsShownHere s dir place e
shown_here s dir place e o h = search (arith, IsShownHere, block_open, slice_get-In, entry_from)

pub sees_directory : SeesDirectory
sees_directory desk s dir nodes nodes' rows m o may =
    let v : IsView desk (in_hand s) (in_hand s) nodes nodes' rows = record { order = m.order; more = λ ns rs p. p; shows = may } in
    record {
      rights = open_rights desk s dir Directory (in_hand s) nodes nodes' rows m v o;
      named = λ name. look_up desk s dir (in_hand s) nodes nodes' rows m v o name;
      count = count_is desk s dir (in_hand s) nodes nodes' rows m v o;
      names = names_are desk s dir (in_hand s) nodes nodes' rows m v o;
      entries = λ place e page lt block shown.
          let q = shown_here s dir place e o shown in
          let bytes : page_in s.parcel q.number ≡ page = (let t : Some (page_in s.parcel q.number) ≡ Some page = sym q.shown ∙ block in cc t) in
          subst (λ p. HasRights (rights_in e.kind (body_in_slot place.slot p)) (node_at nodes' e.ino)) bytes
          (entry_rights desk s dir (in_hand s) nodes nodes' rows m v o (listed_on s q.number place.slot e)
          (listed desk s dir (in_hand s) nodes nodes' rows m v o q.number place.slot e q.block lt q.says));
      made = λ place e lt shown new.
          let q = shown_here s dir place e o shown in
          entry_made desk s dir (in_hand s) nodes nodes' rows m v o (listed_on s q.number place.slot e)
          (listed desk s dir (in_hand s) nodes nodes' rows m v o q.number place.slot e q.block lt q.says) new;
    }
