-- What an entry that goes to another directory shows, whether its file was made or is held.
use Rattle.trio_edit_laws.proofs.Words.{◌∙◌, ◌∷◌, ◌≡◌, AreSlotWrites, DeskSeen, Empty, Entry, EntryPart, IsSlotWrite, IsTree, IsView, Kind, List, MadeFile, MayEdit, Nodes, Option, Place, Row, SessionSeen, Shows, SlotWrite, Some, StaysTree, [], ap, are_new, arith, entry_in, in_hand, moved, naming_after, page_in, parcel_case, slot_bytes, slot_of, subst, sym, true, with_changed, ℕ}
use Rattle.trio_edit_laws.specs.session.SlotEdits.{IsMove, TakesBody}
use Rattle.trio_edit_laws.proofs.session.FilesMoved.{after_move, move_shows as law}
use Rattle.trio_edit_laws.proofs.session.SlotCases.{either}
use Rattle.trio_edit_laws.proofs.directories.After.{IsListedThen}
use Rattle.trio_edit_laws.proofs.directories.Changes.{Turns}
use Rattle.trio_edit_laws.proofs.directories.Filled.{empty_from}
use Rattle.trio_edit_laws.proofs.directories.Fronts.{fits_from}
use Rattle.trio_edit_laws.proofs.directories.Mades.{one_more}
use Rattle.trio_edit_laws.proofs.directories.Moved.{MoveNeeds, empty_then, moved_session, moved_writes, p, p2, says_to, writes_from, writes_to, new_from, new_to}
use Rattle.trio_edit_laws.proofs.directories.Places.{IsEmptyPlace, IsNamedPlace, free_name}
use Rattle.trio_edit_laws.proofs.directories.Sees.{r, slot_good, slot_wide}
use Rattle.trio_edit_laws.proofs.directories.Stays.{WritesDirs, core_same, reads_same}
use Rattle.trio_edit_laws.proofs.directories.Writes.{WritesSlot, slot_write, write_of}

module _ (desk : DeskSeen) (s : SessionSeen) (dir dir2 : ℕ) (place place2 : Place) (e : EntryPart) (old name : List ℕ) (kind : Kind) (body : List ℕ)
    (q : MoveNeeds desk s dir dir2 place place2 e old name body) (made' cleared' : List MadeFile) where
  abbrev m : MayEdit desk s
  m = q.entry.may

  abbrev then' : SessionSeen
  then' = moved_session desk s dir dir2 place place2 e old name kind body q made' cleared'

  abbrev writes : WritesDirs s then'
  writes = moved_writes desk s dir dir2 place place2 e old name kind body q made' cleared'

  abbrev from_place : IsNamedPlace s dir q.entry.opens place e old
  from_place = p desk s dir dir2 place place2 e old name kind body q

  abbrev to_place : IsEmptyPlace s dir2 q.opens2 place2
  to_place = p2 desk s dir dir2 place place2 e old name kind body q

  abbrev num : ℕ
  num = from_place.there.number

  abbrev num2 : ℕ
  num2 = to_place.there.number

  abbrev now : EntryPart
  now = record { ino = e.ino; kind = kind; name = name }

  abbrev bytes_from : List ℕ
  bytes_from = new_from desk s dir dir2 place place2 e old name kind body q

  abbrev bytes_to : List ℕ
  bytes_to = new_to desk s dir dir2 place place2 e old name kind body q

  abbrev wrote_from : WritesSlot s then' dir num place.slot bytes_from
  wrote_from = writes_from desk s dir dir2 place place2 e old name kind body q made' cleared'

  abbrev wrote_to : WritesSlot s then' dir2 num2 place2.slot bytes_to
  wrote_to = writes_to desk s dir dir2 place place2 e old name kind body q made' cleared'

  module _ (nodes nodes' : Nodes) (rows : List (Option Row)) (v : IsView desk (in_hand s) (in_hand then') nodes nodes' rows) where
    -- the two slots
    abbrev pub slot_from : SlotWrite
    slot_from =
        write_of desk s then' dir num place.slot bytes_from m writes q.entry.opens wrote_from nodes nodes' rows v

    abbrev pub slot_to : SlotWrite
    slot_to =
        write_of desk s then' dir2 num2 place2.slot bytes_to m writes q.opens2 wrote_to nodes nodes' rows v

    number_from : slot_from.directory.ino ≡ dir
    number_from = (r desk s dir (in_hand then') nodes nodes' rows m v q.entry.opens).is.number

    number_to : slot_to.directory.ino ≡ dir2
    number_to = (r desk s dir2 (in_hand then') nodes nodes' rows m v q.opens2).is.number

    apart : are_new [] (slot_from.directory.ino ∷ slot_to.directory.ino ∷ []) ≡ true
    apart = search (arith, number_from, number_to, one_more)

    are : AreSlotWrites desk (in_hand s) (in_hand then') (slot_from ∷ slot_to ∷ [])
    are = record {
      each = λ y i. either slot_from slot_to (IsSlotWrite desk (in_hand s) (in_hand then'))
          (slot_write desk s then' dir num place.slot bytes_from m writes q.entry.opens wrote_from nodes nodes' rows v)
          (slot_write desk s then' dir2 num2 place2.slot bytes_to m writes q.opens2 wrote_to nodes nodes' rows v) y i;
      once = apart;
      bytes = λ k out. core_same desk s then' m writes k out;
      files = writes.touches.files;
      pages = writes.touches.pages;
      lent = writes.touches.lent;
      holds = writes.touches.holds;
      inodes = writes.touches.inodes;
      back = reads_same s then' writes;
    }

    says_before : slot_of desk.sizes.inodes (slot_bytes place.slot (page_in s.parcel num)) ≡ Entry e
    says_before =
        sym (slot_wide desk s dir (in_hand then') nodes nodes' rows m v q.entry.opens num place.slot from_place.there.block from_place.there.slot) ∙ from_place.says

    empty_before : slot_of desk.sizes.inodes (slot_bytes place2.slot (page_in s.parcel num2)) ≡ Empty
    empty_before =
        empty_from (slot_of desk.sizes.inodes (slot_bytes place2.slot (page_in s.parcel num2)))
        (ap entry_in (sym (slot_wide desk s dir2 (in_hand then') nodes nodes' rows m v q.opens2 num2 place2.slot to_place.there.block to_place.there.slot)) ∙ to_place.empty)
        (slot_good desk s dir2 (in_hand then') nodes nodes' rows m v q.opens2 num2 place2.slot to_place.there.block to_place.there.slot)

    -- what is true of the file that moves
    pub record MovesFile : Type 0 where
      pub kind_is : kind ≡ e.kind
      pub takes : TakesBody desk (in_hand s) slot_from slot_to e
      pub listed : IsListedThen desk s then' e.ino nodes (Some (naming_after slot_to now))

    is_move : MovesFile → IsMove desk (in_hand s) (in_hand then') slot_from slot_to e now
    is_move f = search (arith, are, says_before, empty_then, empty_before, says_to, fits_from, free_name)

    pub moved_turns : MovesFile → StaysTree desk s then' (with_changed e.ino (moved dir2 name))
        → Turns desk s then' e.ino nodes nodes' rows (with_changed e.ino (moved dir2 name))
    moved_turns f tree =
        let tree' : (ns : Nodes) → IsTree (with_changed e.ino (moved dir2 name) ns) → IsTree (with_changed e.ino (moved slot_to.directory.ino name) ns) =
        λ ns t. subst (λ d. IsTree (with_changed e.ino (moved d name) ns)) (sym number_to) t in
        record {
          rewrites = record {
            writes = slot_from ∷ slot_to ∷ [];
            now = Some (naming_after slot_to now);
            are = are;
            after = after_move desk (in_hand s) (in_hand then') slot_from slot_to e now nodes nodes' rows (is_move f) v (tree' nodes' (tree nodes nodes' rows v.shows));
            listed = f.listed;
          };
          shows =
              subst (λ d. Shows (parcel_case desk.sizes desk.creds rows then'.parcel) nodes (with_changed e.ino (moved d name) nodes')) number_to
              ((law desk (in_hand s) (in_hand then') slot_from slot_to e now m.order (is_move f) (λ ns ns' rs may. tree' ns' (tree ns ns' rs may))).shows nodes nodes' rows v.shows);
        }
