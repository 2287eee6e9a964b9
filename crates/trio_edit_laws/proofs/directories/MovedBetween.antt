-- An entry that moves: the session after its slot was cleared, and after the other was filled.
use Rattle.trio_edit_laws.proofs.Words.{◌++◌, ◌∙◌, ◌≡◌, Bool, Chain, DeskSeen, Directory, EntryPart, InoParts, Kind, List, MadeFile, Place, SessionSeen, Some, ap, chain_in, clear, cleared_slot, eqb, every_number, fill, filter, first_empty, ino_numbers, is_allotted, is_among, made_file, map, not, open_kind, page_in, slice_index_or, slots_of, slots_shown, sym, ℕ}
use Rattle.trio_session.proofs.SlotEdits.{map-page_in_else}
use Rattle.trio_edit_laws.proofs.directories.Cleared.{clear_is, writes as clear_writes}
use Rattle.trio_edit_laws.proofs.directories.Filled.{fill_at, filled_session}
use Rattle.trio_edit_laws.proofs.directories.Mades.{find-without_other}
use Rattle.trio_edit_laws.proofs.directories.Moved.{MoveNeeds, blocks_apart, edits, p, p2}
use Rattle.trio_edit_laws.proofs.directories.Places.{IsEmptyPlace, IsNamedPlace}
use Rattle.trio_edit_laws.proofs.directories.Sees.{pages_open}
use Rattle.trio_edit_laws.proofs.directories.Stays.{WritesDirs, chain_else, open_else}

module _ (desk : DeskSeen) (s : SessionSeen) (dir dir2 : ℕ) (place place2 : Place) (e : EntryPart) (old name : List ℕ) (kind : Kind) (body : List ℕ)
    (q : MoveNeeds desk s dir dir2 place place2 e old name body) where
  abbrev from_place : IsNamedPlace s dir q.entry.opens place e old
  from_place = p desk s dir dir2 place place2 e old name kind body q

  abbrev to_place : IsEmptyPlace s dir2 q.opens2 place2
  to_place = p2 desk s dir dir2 place place2 e old name kind body q

  abbrev num : ℕ
  num = from_place.there.number

  abbrev num2 : ℕ
  num2 = to_place.there.number

  -- the session between
  abbrev pub between : SessionSeen
  between = record s {
    parcel = cleared_slot from_place.there.number place.slot s.parcel;
    made = filter (λ (y : MadeFile). not (eqb y.ino e.ino)) s.made;
    cleared = s.cleared ++ filter (λ (y : MadeFile). eqb y.ino e.ino) s.made;
  }

  is_between : clear dir old s ≡ between
  is_between = clear_is desk s dir place e old q.entry

  abbrev writes : WritesDirs s between
  writes = clear_writes desk s dir place e old q.entry

  -- the other directory is as it was
  found_other : made_file between dir2 ≡ made_file s dir2
  found_other = find-without_other dir2 e.ino s.made q.other

  open_other : open_kind between dir2 ≡ Some Directory
  open_other = open_else s between writes dir2 found_other ∙ q.opens2

  chain_other : chain_in between dir2 ≡ chain_in s dir2
  chain_other = chain_else s between writes dir2 found_other

  slots_other : slots_shown between dir2 ≡ slots_shown s dir2
  slots_other =
      ap (slots_of every_number)
      (pages_open between dir2 open_other
      ∙ ap (λ (c : Chain). map (page_in between.parcel) c.blocks) chain_other
      ∙ map-page_in_else s.parcel between.parcel (chain_in s dir2).blocks num (λ k d. (edits desk s dir dir2 place place2 e old name kind body q).pages k d) (λ i. blocks_apart desk s dir dir2 place place2 e old name kind body q num from_place.there.block i)
      ∙ sym (pages_open s dir2 q.opens2))

  -- so a slot of it is filled
  pub move_at : (t : Bool) → is_allotted s e.ino ≡ t → fill dir2 name e.ino kind body (clear dir old s) ≡ filled_session between e.ino kind num2 place2.slot name body t
  move_at t allotted =
      ap (fill dir2 name e.ino kind body) is_between
      ∙ fill_at between dir2 place2 name e.ino kind body num2 t (ap first_empty slots_other ∙ q.empty2)
      (ap (λ (c : Chain). slice_index_or c.blocks place2.block 0) chain_other ∙ to_place.there.is)
      (ap (λ (ns : List InoParts). is_among e.ino (ino_numbers ns)) writes.touches.inodes ∙ allotted)
