-- A file that is had moves to an empty slot of another directory.
use Rattle.trio_calls_dir.proofs.Words.{◌%◌, ◌&&◌, ◌<◌, ◌∙◌, ◌∷◌, ◌≡◌, Body, Bool, Call, Chain, Changes, DeskSeen, Directory, DoesCall, EntryPart, HoldParts, In, In-is_among, InAllShown, IsDone, IsRename, IsReplied, IsTree, Kind, LeavesCleared, List, MadeFile, MayCall, MayMove, MayPut, Met, Nodes, None, Option, Path, Place, SessionSeen, Shown, Some, StaysTree, [], ap, batch_nodes, block_count, body_in, body_of, chain_in, clear, clear_leaves, cond, done_is_tree, empty_shown, entry_in, entry_shown, eqb-true, every_number, false, false≢true, fill, held_file, inl, ino_numbers, inr, is_allotted, is_among, is_among-In, is_name, is_some, leb, length, ltb, made_body, made_file, moved_shown, moves_entry, name_of, no_chain, noted, open_chain, open_kind, option_and_then, option_map, option_map_or, option_or, place_in, refl, size_fits-body_of, size_in, slot_bytes, slot_of, subst, sym, tree_stays_through, true, with_changed, written_file, ℕ}
use Rattle.std.proofs.Common.{ltb-true}
use Rattle.std.specs.Prelude.{slice_index_or}
use Rattle.std.proofs.lemmas.Bool.{and_parts}
use Rattle.trio_auxdir.specs.Places.{first_empty}
use Rattle.trio_layout.specs.declared.slot.SlotRead.{SlotRead}
use Rattle.trio_layout.specs.declared.slot.SlotRead.TheVariants.{Bad, Empty, Entry}
use Rattle.trio_edit_laws.specs.session.SlotEdits.{moved}
use Rattle.trio_session.specs.Seen.{block_shown, kept_chain}
use Rattle.trio_edit_laws.specs.DirLaws.{AsHeld, AsMade, IsMoved, LeavesMoved}
use Rattle.trio_edit_laws.proofs.Anew.{body-made}
use Rattle.trio_edit_laws.proofs.directories.Fronts.{fits_from}
use Rattle.trio_edit_laws.proofs.directories.Moves.{move_leaves, move_shows}
use Rattle.trio_deeds.specs.Slots.{BringsMade}
use Rattle.trio_calls_dir.proofs.EditDone.{as_done, may_done}
use Rattle.trio_calls_dir.proofs.Possible.{possible_clear, possible_filled}
use Rattle.trio_calls_dir.proofs.TreeAlike.{changed_alike, tree_alike}

-- ---- what it takes with it

pub moved_by : (s : SessionSeen) (n : ℕ) (kind : Kind) (body : List ℕ) → moved_shown s n ≡ Some (kind, body) → IsMoved s n kind body
moved_by s n kind body e = by (made_file s n) refl e
  where
    held : made_file s n ≡ None → (b : Bool) → is_allotted s n ≡ b → (o : Option HoldParts) → held_file s n ≡ o
        → cond b None (option_map {T = HoldParts} {U = Kind × List ℕ} (λ h. (h.kind, h.body)) o) ≡ Some (kind, body) → IsMoved s n kind body
    held none true out o k q = (let wrong : None ≡ Some (kind, body) = q in absurd (cc wrong))
    held none false out None k q = (let wrong : None ≡ Some (kind, body) = q in absurd (cc wrong))
    held none false out (Some h) k q =
        let same : (h.kind, h.body) ≡ (kind, body) = (let t : Some (h.kind, h.body) ≡ Some (kind, body) = q in cc t) in
        AsHeld h none (λ i. false≢true (sym out ∙ In-is_among n (ino_numbers s.parcel.inodes) i)) k (sym (ap (λ (x : Kind × List ℕ). x.0) same)) (sym (ap (λ (x : Kind × List ℕ). x.1) same))

    by : (o : Option MadeFile) → made_file s n ≡ o
        → option_or (option_map {T = MadeFile} {U = Kind × List ℕ} (λ m. (m.kind, made_body s m)) o) (cond (is_allotted s n) None (option_map {T = HoldParts} {U = Kind × List ℕ} (λ h. (h.kind, h.body)) (held_file s n))) ≡ Some (kind, body)
        → IsMoved s n kind body
    by (Some m) found q =
        let same : (m.kind, made_body s m) ≡ (kind, body) = (let t : Some (m.kind, made_body s m) ≡ Some (kind, body) = q in cc t) in
        AsMade m found (sym (ap (λ (x : Kind × List ℕ). x.0) same)) (sym (ap (λ (x : Kind × List ℕ). x.1) same))
    by None none q = held none (is_allotted s n) refl (held_file s n) refl q

-- ---- entries have numbers

entry_of : (r : SlotRead) (e : EntryPart) → entry_in r ≡ Some e → r ≡ Entry e
entry_of (Entry x) e q = (let same : x ≡ e = (let t : Some x ≡ Some e = q in cc t) in ap Entry same)
entry_of Empty e q = (let wrong : None ≡ Some e = q in absurd (cc wrong))
entry_of Bad e q = (let wrong : None ≡ Some e = q in absurd (cc wrong))

entry_above : (s : SessionSeen) (dir : ℕ) (place : Place) (e : EntryPart) → entry_shown s dir place ≡ Some e → 0 < e.ino
entry_above s dir place e says = by (block_shown s dir place.block) says
  where
    by : (o : Option (List ℕ)) → option_and_then (λ bytes. entry_in (slot_of every_number (slot_bytes place.slot bytes))) o ≡ Some e → 0 < e.ino
    by None q = (let wrong : None ≡ Some e = q in absurd (cc wrong))
    by (Some bytes) q =
        let fits = fits_from every_number (slot_bytes place.slot bytes) e (entry_of (slot_of every_number (slot_bytes place.slot bytes)) e q) in
        ltb-true 0 e.ino (and_parts (ltb 0 e.ino) (leb e.ino every_number) (and_parts (ltb 0 e.ino && leb e.ino every_number) (is_name e.name) fits).0).0

module _ (desk : DeskSeen) (s : SessionSeen) (call : Call) (from to : Path) (dir new_dir : ℕ) (file : Met) (m : MayMove desk s call from to dir new_dir file) where
  abbrev cleared_one : SessionSeen
  cleared_one = clear dir (name_of from) s

  other_entry : new_dir ≡ m.entry.1.ino → ⊥
  other_entry q = m.other (q ∙ sym m.entry.4)

  outside : In new_dir (dir ∷ []) → ⊥
  outside i = elim i [ inl q ↦ m.apart (sym q) | inr none ↦ absurd none ]

  left : LeavesCleared s (clear dir (name_of from) s) dir m.entry.0 m.entry.1.ino
  left = clear_leaves desk s dir m.entry.0 m.entry.1 (name_of from) m.may.edits m.opens m.entry.2 m.entry.3

  still_empty : empty_shown (clear dir (name_of from) s) new_dir ≡ empty_shown s new_dir
  still_empty = ap first_empty (left.files.slots new_dir other_entry outside)

  -- ---- what a file that was made brings

  brings_made : (kind : Kind) (body : List ℕ) → moved_shown s m.entry.1.ino ≡ Some (kind, body) → is_allotted (clear dir (name_of from) s) m.entry.1.ino ≡ true → BringsMade (clear dir (name_of from) s) m.entry.1.ino kind body
  brings_made kind body takes allotted =
      elim (moved_by s m.entry.1.ino kind body takes) [
        | AsMade x found kind_is body_is ↦ of_made x found kind_is body_is
        | AsHeld h none out held kind_is body_is ↦ absurd
            (out (is_among-In m.entry.1.ino (ino_numbers s.parcel.inodes) (sym (ap (λ l. is_among m.entry.1.ino (ino_numbers l)) left.files.inodes) ∙ allotted)))
      ]
    where
      of_made : (x : MadeFile) → made_file s m.entry.1.ino ≡ Some x → kind ≡ x.kind → body ≡ made_body s x → BringsMade (clear dir (name_of from) s) m.entry.1.ino kind body
      of_made x found kind_is body_is =
          let n : ℕ = m.entry.1.ino in
          let opens : open_kind s n ≡ Some x.kind = ap (λ o. option_or (option_map (λ (y : MadeFile). y.kind) o) (option_map (λ (f : Shown). f.kind) (written_file s n))) found in
          let c = open_chain desk s n x.kind m.may.edits opens in
          let has : body_in s n ≡ body = body-made s n x found ∙ sym body_is in
          let gone = left.gone x found in
          let chain : chain_in s n ≡ x.chain = ap (λ o. option_map_or (λ (y : MadeFile). y.chain) o (option_map_or (λ i. slice_index_or s.chains i no_chain) (place_in s n) no_chain)) found in
          let kept : kept_chain (clear dir (name_of from) s) n ≡ x.chain = ap (λ o. option_map_or (λ (y : MadeFile). y.chain) o no_chain) gone.1 in
          record {
            nothing = gone.0;
            same = ap (λ o. option_map_or (λ (y : MadeFile). y.kind) o kind) gone.1 ∙ sym kind_is;
            blocks = ap (λ l. block_count (size_in l)) (sym has) ∙ c.count ∙ ap (λ (k : Chain). length k.blocks) (chain ∙ sym kept);
            whole = λ directory.
                let is : x.kind ≡ Directory = sym kind_is ∙ directory in
                let read = subst (λ k. body_of k desk.sizes.range (body_in s n) ≡ Some c.body) is c.read in
                ap (λ l. size_in l % 4096) (sym has) ∙ ap (λ (b : Body). b.size % 4096) c.at ∙ eqb-true (c.body.size % 4096) 0 (size_fits-body_of Directory desk.sizes.range (body_in s n) c.body read);
          }

  pub may_put : is_some (empty_shown s new_dir) ≡ true → In new_dir s.room.names → length s.made < s.room.made → is_some (moved_shown s file.ino) ≡ true → MayPut s (name_of from) (name_of to) dir new_dir file.ino
  may_put empty names places takes = record {
    opens = m.opens;
    there = ap is_some m.entry.2;
    takes = takes;
    opens_new = record { directory = left.files.opens new_dir other_entry ∙ m.opens_new.directory; index = subst (λ l. In new_dir l) (sym (ap (λ (q : SessionSeen). q.indexed) left.files.same)) m.opens_new.index };
    free = left.files.places new_dir (name_of to) other_entry outside ∙ m.free.place;
    empty = ap is_some still_empty ∙ empty;
    number = subst (λ n. 0 < n) (sym m.entry.4) (entry_above s dir m.entry.0 m.entry.1 m.entry.3);
    made = subst (λ n. (kind : Kind) (body : List ℕ) → moved_shown s n ≡ Some (kind, body) → is_allotted (clear dir (name_of from) s) n ≡ true → BringsMade (clear dir (name_of from) s) n kind body) (sym m.entry.4) brings_made;
    apart = λ q. m.apart (sym q);
    names = names;
    place = places;
  }

  -- ---- the edit

  module _ (r : IsRename call from to) (place2 : Place) (empty : empty_shown s new_dir ≡ Some place2) (kind : Kind) (body : List ℕ) (takes : moved_shown s file.ino ≡ Some (kind, body)) where
    abbrev change : Nodes → Nodes
    change = with_changed m.entry.1.ino (moved new_dir (name_of to))

    abbrev then' : SessionSeen
    then' = fill new_dir (name_of to) m.entry.1.ino kind body (clear dir (name_of from) s)

    moves : IsMoved s m.entry.1.ino kind body
    moves = subst (λ n. IsMoved s n kind body) m.entry.4 (moved_by s file.ino kind body takes)

    does : InAllShown desk s (λ now. DoesCall desk (record { call = call; reply = IsReplied IsDone; made = 0 }) now (with_changed m.entry.1.ino (moved new_dir (name_of to)) now))
    does nodes rows p =
        moves_entry desk (as_done call) (batch_nodes desk.creds s.calls nodes) from to dir new_dir m.entry.1.ino (m.comes nodes rows p) (m.named nodes rows p ∙ ap Some m.entry.4) (m.free.named nodes rows p) refl refl

    stays : StaysTree desk s (fill new_dir (name_of to) m.entry.1.ino kind body (clear dir (name_of from) s)) (with_changed m.entry.1.ino (moved new_dir (name_of to)))
    stays nodes nodes' rows shows =
        let p =
        possible_clear desk s dir (name_of from) m.entry.0 m.entry.2 nodes rows
        (possible_filled desk (clear dir (name_of from) s) new_dir (name_of to) m.entry.1.ino kind body place2 (still_empty ∙ empty) nodes rows shows.possible) in
        let was = m.may.comes nodes rows p in
        let now : Nodes = batch_nodes desk.creds s.calls nodes in
        let tree : IsTree now = tree_stays_through nodes desk.creds s.calls p.tree was.0 in
        let after : IsTree (change now) = done_is_tree desk (as_done call) now (change now) tree (does nodes rows p) in
        tree_alike (change now) (change nodes') (changed_alike now nodes' (λ n. was.1.each n ∙ sym (shows.shows.each n)) m.entry.1.ino (moved new_dir (name_of to))) after

    pub move_changes : Changes desk s (fill new_dir (name_of to) m.entry.1.ino kind body (clear dir (name_of from) s)) (with_changed m.entry.1.ino (moved new_dir (name_of to)))
    move_changes =
        move_shows desk s dir new_dir m.entry.0 place2 m.entry.1 (name_of from) (name_of to) kind body m.may.edits m.opens m.opens_new m.apart other_entry m.entry.2 m.entry.3 empty m.free.place m.free.name moves stays

    move_left : LeavesMoved s (fill new_dir (name_of to) m.entry.1.ino kind body (clear dir (name_of from) s)) dir new_dir m.entry.0 place2 (record { ino = m.entry.1.ino; kind = kind; name = name_of to })
    move_left =
        move_leaves desk s dir new_dir m.entry.0 place2 m.entry.1 (name_of from) (name_of to) kind body m.may.edits m.opens m.opens_new m.apart other_entry m.entry.2 m.entry.3 empty m.free.place m.free.name moves

    pub move_calls : (fill new_dir (name_of to) m.entry.1.ino kind body (clear dir (name_of from) s)).calls ≡ s.calls
    move_calls = ap (λ (q : SessionSeen). q.calls) move_left.files.same

    -- with its note the session may go on
    pub move_noted : MayCall desk (noted call (IsReplied IsDone) 0 (fill new_dir (name_of to) m.entry.1.ino kind body (clear dir (name_of from) s)))
    move_noted =
        may_done desk s (fill new_dir (name_of to) m.entry.1.ino kind body (clear dir (name_of from) s)) call (with_changed m.entry.1.ino (moved new_dir (name_of to))) m.may move_changes move_calls
        move_left.files.pages move_left.numbers move_left.files.inodes does
