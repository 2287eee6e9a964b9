-- An entry of a file that is held goes to another directory.
use Rattle.trio_edit_laws.proofs.Words.{◌++◌, ◌∙◌, ◌∷◌, ◌≡◌, Chain, Changes, DeskSeen, EntryPart, HasRights, HoldParts, In, In-map, IsInSlot, IsView, Kind, LeavesMoved, List, MadeFile, MayEdit, Nodes, None, Option, Place, Row, SessionSeen, Some, StaysTree, [], ap, append-nil, arith, body_in_slot, clear, eqb, eqb-true, every_number, false, fill, filter, find-In, held_file, in_hand, inl, ino_numbers, inr, is_among-not, made_file, map, moved, naming_after, node_at, page_in, refl, rights_in, slot_of, some_one, subst, sym, with_changed, ℕ}
use Rattle.trio_edit_laws.proofs.Keeps.{made_at}
use Rattle.trio_edit_laws.proofs.directories.After.{OthersStay}
use Rattle.trio_edit_laws.proofs.directories.Changes.{changes_by}
use Rattle.trio_edit_laws.proofs.directories.Leaves.{has_slot, leaves_files, spare_same}
use Rattle.trio_edit_laws.proofs.directories.Mades.{absent-find, filter-absent, filter-absent_none, number_of}
use Rattle.trio_edit_laws.proofs.directories.Moved.{MoveNeeds, body_kept, body_to, from_has, moved_session, moved_within, moved_writes, new_to, p, slot_kept, to_has}
use Rattle.trio_edit_laws.proofs.directories.MovedNodes.{MovesFile, moved_turns, slot_to}
use Rattle.trio_edit_laws.proofs.directories.MovedBetween.{move_at}
use Rattle.trio_edit_laws.proofs.directories.Places.{IsNamedPlace}
use Rattle.trio_edit_laws.proofs.directories.Sees.{listed, listed_on, r}
use Rattle.trio_edit_laws.proofs.directories.Stays.{EditsDirs, WritesDirs, body_else, chain_else, open_else, unlent_still}
use Rattle.trio_edit_laws.proofs.session.SlotCases.{named_so}

module _ (desk : DeskSeen) (s : SessionSeen) (dir dir2 : ℕ) (place place2 : Place) (e : EntryPart) (old name : List ℕ) (kind : Kind) (body : List ℕ)
    (q : MoveNeeds desk s dir dir2 place place2 e old name body) (h : HoldParts) (unmade : made_file s e.ino ≡ None) (old_number : In e.ino (ino_numbers s.parcel.inodes) → ⊥)
    (found : held_file s e.ino ≡ Some h) (kind_is : kind ≡ h.kind) (body_is : body ≡ h.body) where
  abbrev m : MayEdit desk s
  m = q.entry.may

  abbrev from_place : IsNamedPlace s dir q.entry.opens place e old
  from_place = p desk s dir dir2 place place2 e old name kind body q

  abbrev num : ℕ
  num = from_place.there.number

  abbrev then' : SessionSeen
  then' = moved_session desk s dir dir2 place place2 e old name kind body q s.made s.cleared

  abbrev writes : WritesDirs s then'
  writes = moved_writes desk s dir dir2 place place2 e old name kind body q s.made s.cleared

  absent : In e.ino (map number_of s.made) → ⊥
  absent = absent-find e.ino s.made unmade

  -- no file that was made has the number
  differs : (y : MadeFile) → In y s.made → y.ino ≡ e.ino → ⊥
  differs y i same = absent (subst (λ k. In k (map number_of s.made)) same (In-map number_of y s.made i))

  move_is : fill dir2 name e.ino kind body (clear dir old s) ≡ then'
  move_is =
      move_at desk s dir dir2 place place2 e old name kind body q false (is_among-not e.ino (ino_numbers s.parcel.inodes) old_number)
      ∙ ap (λ l. moved_session desk s dir dir2 place place2 e old name kind body q l (s.cleared ++ filter (λ (y : MadeFile). eqb y.ino e.ino) s.made)) (filter-absent e.ino s.made absent)
      ∙ ap (moved_session desk s dir dir2 place place2 e old name kind body q s.made) (ap (λ l. s.cleared ++ l) (filter-absent_none e.ino s.made absent) ∙ append-nil s.cleared)

  slots_then : (y : MadeFile) → In y s.made → IsInSlot then' y
  slots_then y i =
      let a = m.made.slots y i in
      record {
        directory = a.directory;
        opens = open_else s then' writes a.directory refl ∙ a.opens;
        block = subst (λ (c : Chain). In y.page c.blocks) (sym (chain_else s then' writes a.directory refl)) a.block;
        slot = a.slot;
        entry = a.entry;
        says = ap (slot_of every_number) (slot_kept desk s dir dir2 place place2 e old name kind body q y i (differs y i)) ∙ a.says;
        number = a.number;
        kind = a.kind;
      }

  edits_dirs : EditsDirs desk s then'
  edits_dirs = record {
    writes = writes;
    opens = λ k kind' o. inl (record {
      opens = sym (open_else s then' writes k refl) ∙ o;
      chain = chain_else s then' writes k refl;
      body = body_else s then' writes k refl (λ y f. (let a = made_at s k y f in body_kept desk s dir dir2 place place2 e old name kind body q y a.0 (differs y a.0)));
    });
    own = λ k i. i;
    once = m.once;
    numbers = m.made.numbers;
    gone = m.made.gone;
    made_once = m.made.once;
    apart = λ y i. unlent_still s then' writes y.ino (m.made.apart y i);
    slots = slots_then;
  }

  others : OthersStay s then' e.ino
  others = record { made = λ y i d. (i, body_kept desk s dir dir2 place place2 e old name kind body q y i d); found = λ k d. refl }

  -- ---- what is shown

  hold_is : In h s.parcel.holds × (h.ino ≡ e.ino)
  hold_is = (let f = find-In (λ (k : HoldParts). eqb k.ino e.ino) s.parcel.holds h found in (f.0, eqb-true h.ino e.ino f.1))

  module _ (nodes nodes' : Nodes) (rows : List (Option Row)) (v : IsView desk (in_hand s) (in_hand then') nodes nodes' rows) where
    -- the file has the rights that its hold shows
    held_rights : HasRights (rights_in h.kind h.body) (node_at nodes e.ino)
    held_rights = subst (λ k. HasRights (rights_in h.kind h.body) (node_at nodes k)) hold_is.1 ((v.more nodes rows v.shows.possible).agrees.holds h hold_is.0).rights

    slot_rights : HasRights (rights_in e.kind (body_in_slot place.slot (page_in s.parcel num))) (node_at nodes e.ino)
    slot_rights =
        let x = r desk s dir (in_hand then') nodes nodes' rows m v q.entry.opens in
        m.entries nodes rows x.is.met x.file (listed_on s num place.slot e) (v.more nodes rows v.shows.possible) x.is.judged x.reads
        (listed desk s dir (in_hand then') nodes nodes' rows m v q.entry.opens num place.slot e from_place.there.block from_place.there.slot from_place.says) old_number

    same_kind : h.kind ≡ e.kind
    same_kind = search (arith, some_one, held_rights, slot_rights)

    moves_file : MovesFile desk s dir dir2 place place2 e old name kind body q s.made s.cleared nodes nodes' rows v
    moves_file = record {
      kind_is = kind_is ∙ same_kind;
      takes = inr (h, found, body_to desk s dir dir2 place place2 e old name kind body q ∙ body_is, m.given.holds h hold_is.0);
      listed = record {
        mine = λ y i same. absurd (differs y i same);
        made = λ y is. absurd (old_number is.0);
        rights =
            λ g is old'. named_so (naming_after (slot_to desk s dir dir2 place place2 e old name kind body q s.made s.cleared nodes nodes' rows v) (record { ino = e.ino; kind = kind; name = name }))
            (λ z. HasRights (rights_in z.listed.entry.kind z.listed.body) (node_at nodes z.listed.entry.ino))
            (subst (λ k. HasRights (rights_in k (body_in_slot 0 (new_to desk s dir dir2 place place2 e old name kind body q))) (node_at nodes e.ino)) (sym kind_is)
            (subst (λ l. HasRights (rights_in h.kind l) (node_at nodes e.ino)) (sym body_is ∙ sym (body_to desk s dir dir2 place place2 e old name kind body q)) held_rights)) g is;
      };
    }

  pub held_moves : StaysTree desk s (fill dir2 name e.ino kind body (clear dir old s)) (with_changed e.ino (moved dir2 name))
      → Changes desk s (fill dir2 name e.ino kind body (clear dir old s)) (with_changed e.ino (moved dir2 name))
  held_moves tree =
      let change : Nodes → Nodes = with_changed e.ino (moved dir2 name) in
      let tree' : StaysTree desk s then' (with_changed e.ino (moved dir2 name)) = subst (λ y. StaysTree desk s y change) move_is tree in
      subst (λ y. Changes desk s y change) (sym move_is)
      (changes_by desk s then' e.ino change m edits_dirs others
      (λ nodes nodes' rows v. moved_turns desk s dir dir2 place place2 e old name kind body q s.made s.cleared nodes nodes' rows v (moves_file nodes nodes' rows v) tree') tree')

  -- ---- what is left

  pub held_left : LeavesMoved s (fill dir2 name e.ino kind body (clear dir old s)) dir dir2 place place2 (record { ino = e.ino; kind = kind; name = name })
  held_left =
      subst (λ y. LeavesMoved s y dir dir2 place place2 (record { ino = e.ino; kind = kind; name = name })) (sym move_is) (record {
        files = leaves_files desk s then' (dir ∷ dir2 ∷ []) e.ino m (record {
          writes = writes;
          found = λ k d. refl;
          bodies = λ y i d. body_kept desk s dir dir2 place place2 e old name kind body q y i d;
          within = moved_within desk s dir dir2 place place2 e old name kind body q s.made s.cleared;
        });
        opens = (open_else s then' writes e.ino refl);
        chain = (chain_else s then' writes e.ino refl);
        body =
            (body_else s then' writes e.ino refl (λ y f. (let a = made_at s e.ino y f in body_kept desk s dir dir2 place place2 e old name kind body q y a.0 (differs y a.0))));
        from =
            has_slot s then' dir place None q.entry.opens (open_else s then' writes dir refl ∙ q.entry.opens) (chain_else s then' writes dir refl) (from_has desk s dir dir2 place place2 e old name kind body q);
        to =
            has_slot s then' dir2 place2 (Some (record { ino = e.ino; kind = kind; name = name })) q.opens2 (open_else s then' writes dir2 refl ∙ q.opens2) (chain_else s then' writes dir2 refl) (to_has desk s dir dir2 place place2 e old name kind body q);
        numbers = spare_same s then' writes.touches.inodes (λ k i. i) (λ k i. i);
      })
