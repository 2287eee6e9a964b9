-- What a session sees in a directory that a lease shows.
use Rattle.trio_walk.proofs.Words.{◌%◌, ◌/◌, ◌<◌, ◌∙◌, ◌≡◌, Bad, Directory, Empty, Entry, EntryPart, HasRights, In, IsTree, IsWellLent, LentPage, List, Listed, Lists, Node, Nodes, None, Ok, Option, Place, SessionSeen, Shown, Sizes, SlotRead, Some, ap, block_shown, body_in_slot, dir_pages, entries_shown, entry_in, entry_shown, every_number, find_named, find_named-Child, gathered, node_at, number_shown, option_and_then, option_map, option_map_or, place_at, place_shown, refl, rights_in, rights_of, slot_bytes, slot_of, slot_with, slots_of, sym, ℕ}
use Rattle.trio_layout.specs.Entries.{entries_on}
use Rattle.trio_layout.specs.Survey as survey
use Rattle.trio_onetree.proofs.Children.{Child, Child-find_named}
use Rattle.trio_laws.proofs.session.LentFiles.{lent_gathers}
use Rattle.trio_walk.proofs.Opened.{IsSeenBy}
use Rattle.trio_walk.proofs.Slots.{name_missed, name_there, slot_listed}

-- What a name is in a directory, by its slots, and the kind and the rights of each entry's file.
pub record SeesIn (s : SessionSeen) (d : ℕ) (now : Nodes) : Type 0 where
  pub named : (name : List ℕ) → find_named now d name ≡ option_map (number_shown s d) (place_shown s d name)
  pub entries :
      (place : Place) (e : EntryPart) (page : List ℕ) → place.slot < 16 → block_shown s d place.block ≡ Some page
      → entry_shown s d place ≡ Some e → HasRights (rights_in e.kind (body_in_slot place.slot page)) (node_at now e.ino)

-- an entry that a slot shows is in it
pub entry_says : (r : SlotRead) (e : EntryPart) → entry_in r ≡ Some e → r ≡ Entry e
entry_says Empty e h = (let wrong : None ≡ Some e = h in absurd (cc wrong))
entry_says Bad e h = (let wrong : None ≡ Some e = h in absurd (cc wrong))
entry_says (Entry x) e h = (let same : Some x ≡ Some e = h in ap (λ y. Entry y) (cc same))

-- by the block of its place
pub entry_of_block : (s : SessionSeen) (d : ℕ) (p : Place) (page : List ℕ) → block_shown s d p.block ≡ Some page → entry_shown s d p ≡ entry_in (slot_of every_number (slot_bytes p.slot page))
entry_of_block s d p page e = ap (option_and_then (λ bytes. entry_in (slot_of every_number (slot_bytes p.slot bytes)))) e

-- which is there
pub block_of_entry : (s : SessionSeen) (d : ℕ) (p : Place) (e : EntryPart) → entry_shown s d p ≡ Some e → (page : List ℕ) × (block_shown s d p.block ≡ Some page)
block_of_entry s d p e h = by (block_shown s d p.block) refl h
  where
    by : (o : Option (List ℕ)) → block_shown s d p.block ≡ o → option_and_then (λ bytes. entry_in (slot_of every_number (slot_bytes p.slot bytes))) (block_shown s d p.block) ≡ Some e → (page : List ℕ) × (block_shown s d p.block ≡ Some page)
    by None n q = (let wrong : None ≡ Some e = sym (ap (option_and_then (λ bytes. entry_in (slot_of every_number (slot_bytes p.slot bytes)))) n) ∙ q in absurd (cc wrong))
    by (Some page) n q = (page, n)

module _ (sizes : Sizes) (f : Shown) (dir : f.kind ≡ Directory) (well : IsWellLent sizes f) (s : SessionSeen) (d : ℕ) (seen : IsSeenBy s d (dir_pages f)) where
  abbrev es : List Listed
  es = entries_shown sizes f

  gathers : gathered (λ (q : LentPage). entries_on sizes.inodes q.no.0 q.page) f.blocks ≡ Ok (entries_shown sizes f)
  gathers =
      let m : survey.Met = record { ino = f.ino; kind = f.kind; parent = 0; page = 0; slot = 0; body = f.body } in
      lent_gathers sizes f well m refl refl dir

  -- an entry that is shown is among those of the lease
  pub shown_listed : (place : Place) (e : EntryPart) (page : List ℕ) → place.slot < 16 → block_shown s d place.block ≡ Some page → entry_shown s d place ≡ Some e
      → (l : Listed) × In l (entries_shown sizes f) × (l.entry ≡ e) × (l.body ≡ body_in_slot place.slot page)
  shown_listed place e page lt block entry =
      slot_listed f.blocks sizes.inodes (entries_shown sizes f) gathers place.block place.slot page e (sym (seen.block place.block) ∙ block) lt
      (entry_says (slot_of every_number (slot_bytes place.slot page)) e (sym (entry_of_block s d place page block) ∙ entry))

  module _ (now : Nodes) (tree : IsTree now) (lists : Lists now d (entries_shown sizes f))
      (rights : (l : Listed) (x : Node) → In l (entries_shown sizes f) → node_at now l.entry.ino ≡ Some x → rights_of x ≡ rights_in l.entry.kind l.body) where
    -- the file of an entry is the one that its name finds
    entry_found : (l : Listed) → In l (entries_shown sizes f) → (name : List ℕ) → l.entry.name ≡ name → find_named now d name ≡ Some l.entry.ino
    entry_found l i name same =
        let x = lists.each l i in
        let child : Child now d name l.entry.ino = record { node = x.0; at = x.1; parent = x.2; name = x.3 ∙ same } in
        Child-find_named now tree.names d name l.entry.ino child

    none_found : (name : List ℕ) → ((l : Listed) → In l (entries_shown sizes f) → l.entry.name ≡ name → ⊥) → (o : Option ℕ) → find_named now d name ≡ o → o ≡ None
    none_found name none None e = refl
    none_found name none (Some n) e =
        let c = find_named-Child now d name n e in
        let l = lists.only n c.node c.at c.parent in
        let x = lists.each l.0 l.1 in
        let one : Some x.0 ≡ Some c.node = sym x.1 ∙ ap (node_at now) l.2 ∙ c.at in
        let same : x.0 ≡ c.node = cc one in
        absurd (none l.0 l.1 (sym x.3 ∙ ap (λ (y : Node). y.name) same ∙ c.name))

    by_slot : (name : List ℕ) (o : Option ℕ) → slot_with name (slots_of every_number (dir_pages f)) ≡ o → find_named now d name ≡ option_map (number_shown s d) (option_map place_at o)
    by_slot name None e = none_found name (name_missed f.blocks sizes.inodes (entries_shown sizes f) gathers name e) (find_named now d name) refl
    by_slot name (Some i) e =
        let t = name_there f.blocks sizes.inodes (entries_shown sizes f) gathers name i e in
        let block : block_shown s d (i / 16) ≡ Some t.page = seen.block (i / 16) ∙ t.at in
        let entry : entry_shown s d (place_at i) ≡ Some t.entry = entry_of_block s d (place_at i) t.page block ∙ ap entry_in t.says in
        let l = slot_listed f.blocks sizes.inodes (entries_shown sizes f) gathers (i / 16) (i % 16) t.page t.entry t.at t.slot t.says in
        entry_found l.0 l.1 name (ap (λ (x : EntryPart). x.name) l.2 ∙ t.name)
        ∙ ap (λ (x : EntryPart). Some x.ino) l.2
        ∙ ap (λ q. Some (option_map_or (λ (x : EntryPart). x.ino) q 0)) (sym entry)

    pub lease_sees : SeesIn s d now
    lease_sees = record {
      named = λ name. by_slot name (slot_with name (slots_of every_number (dir_pages f))) refl ∙ ap (option_map (number_shown s d)) (sym (seen.place name));
      entries = λ place e page lt block entry.
          let l = shown_listed place e page lt block entry in
          let x = lists.each l.0 l.1 in
          ap (option_map rights_of) (ap (node_at now) (ap (λ (y : EntryPart). y.ino) (sym l.2)) ∙ x.1)
          ∙ ap Some (rights l.0 x.0 l.1 x.1)
          ∙ ap (λ (y : EntryPart). Some (rights_in y.kind l.0.body)) l.2
          ∙ ap (λ b. Some (rights_in e.kind b)) l.3;
    }
