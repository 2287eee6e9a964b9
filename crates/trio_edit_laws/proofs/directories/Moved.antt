-- An entry goes from the slot of its name to the first empty slot of another directory.
use Rattle.trio_edit_laws.proofs.Words.{◌&&◌, ◌*◌, ◌++◌, ◌∙◌, ◌∷◌, ◌≡◌, ◌≢◌, ◌≤◌, DeskSeen, Directory, EditsSlotIn, Empty, Entry, EntryPart, In, In-right, IsEntry, IsWhole, Kind, List, MadeFile, MayEdit, None, Parcel, Place, SessionSeen, Some, [], and_from, and_parts, ap, arith, body-else, body-filled, body_in_slot, body_in_slot-filled, chain_in, cleared_slot, edits_filled, empty_shown, empty_value, entry-filled, entry_bytes, entry_fits, entry_in, entry_on, entry_on-cleared, entry_value, every_number, filled, inl, inr, is_name, leb, length, length-entry_bytes, length-with_part, length-zeros, ltb, number-cleared, open_kind, page_in, page_in-with_page_same, place_shown, refl, slot_bytes, slot_bytes-else, slot_of, subst, sym, true, with_part, zeros, ℕ}
use Rattle.std.proofs.Common.{length-append}
use Rattle.trio_session.proofs.SlotEdits.{edits_cleared, whole-edited}
use Rattle.trio_edit_laws.proofs.Keeps.{place_of_open}
use Rattle.trio_edit_laws.proofs.Opens.{open_apart}
use Rattle.trio_edit_laws.proofs.Touches.{Touches, touches_page, touches_then}
use Rattle.trio_edit_laws.proofs.directories.Cleared.{HasEntry, is_mine, p as named_at}
use Rattle.trio_edit_laws.proofs.directories.Fronts.{at_slot_or, fits_from}
use Rattle.trio_edit_laws.proofs.directories.Leaves.{BlocksHave, block_at, blocks_after, blocks_before, blocks_edited}
use Rattle.trio_edit_laws.proofs.directories.Places.{IsEmptyPlace, IsNamedPlace, empty_place}
use Rattle.trio_edit_laws.proofs.directories.Stays.{IsDirBlock, WritesDirs}
use Rattle.trio_edit_laws.proofs.directories.Writes.{WritesSlot, block_whole, body-written_slot, length-slot_with_part, slot_bytes-written, slot_with_part, with_part-slot}

-- what a move is given: an entry, and an empty slot of another directory
pub record MoveNeeds (desk : DeskSeen) (s : SessionSeen) (dir' dir2' : ℕ) (place' place2' : Place) (e' : EntryPart) (old' new' body' : List ℕ) : Type 0 where
  pub entry : HasEntry desk s dir' place' e' old'
  pub opens2 : open_kind s dir2' ≡ Some Directory
  pub differ : dir' ≡ dir2' → ⊥
  pub other : dir2' ≡ e'.ino → ⊥
  pub empty2 : empty_shown s dir2' ≡ Some place2'
  pub free2 : place_shown s dir2' new' ≡ None
  pub name : is_name new' ≡ true
  pub sized : length body' ≡ 64

module _ (desk : DeskSeen) (s : SessionSeen) (dir dir2 : ℕ) (place place2 : Place) (e : EntryPart) (old name : List ℕ) (kind : Kind) (body : List ℕ)
    (q : MoveNeeds desk s dir dir2 place place2 e old name body) where
  abbrev m : MayEdit desk s
  m = q.entry.may

  abbrev pub p : IsNamedPlace s dir q.entry.opens place e old
  p = named_at desk s dir place e old q.entry

  abbrev pub p2 : IsEmptyPlace s dir2 q.opens2 place2
  p2 = empty_place s dir2 q.opens2 place2 q.empty2

  abbrev num : ℕ
  num = p.there.number

  abbrev num2 : ℕ
  num2 = p2.there.number

  abbrev e2 : EntryPart
  e2 = record { ino = e.ino; kind = kind; name = name }

  -- the blocks of different directories differ
  pub blocks_apart : (n : ℕ) → In n (chain_in s dir).blocks → In n (chain_in s dir2).blocks → ⊥
  blocks_apart n i j =
      open_apart s dir dir2 n m.once (place_of_open desk s dir Directory m q.entry.opens) (place_of_open desk s dir2 Directory m q.opens2) q.differ
      (In-right n (chain_in s dir).index (chain_in s dir).blocks i) (In-right n (chain_in s dir2).index (chain_in s dir2).blocks j)

  pub pages_apart : p.there.number ≡ p2.there.number → ⊥
  pages_apart same = blocks_apart num p.there.block (subst (λ n. In n (chain_in s dir2).blocks) (sym same) p2.there.block)

  -- ---- pages

  abbrev between : Parcel
  between = cleared_slot p.there.number place.slot s.parcel

  abbrev pub moved_parcel : Parcel
  moved_parcel = filled p2.there.number place2.slot (record { ino = e.ino; kind = kind; name = name }) body (cleared_slot p.there.number place.slot s.parcel)

  whole : IsWhole s.parcel p.there.number
  whole = block_whole desk s dir num m q.entry.opens p.there.block

  whole2 : IsWhole s.parcel p2.there.number
  whole2 = block_whole desk s dir2 num2 m q.opens2 p2.there.block

  fits_named : (inodes : ℕ) → entry_fits inodes e ≡ true → entry_fits inodes (record { ino = e.ino; kind = kind; name = name }) ≡ true
  fits_named inodes f = and_from (ltb 0 e.ino && leb e.ino inodes) (is_name name) (and_parts (ltb 0 e.ino && leb e.ino inodes) (is_name e.name) f).0 q.name

  fits : entry_fits every_number (record { ino = e.ino; kind = kind; name = name }) ≡ true
  fits = fits_named every_number (fits_from every_number (slot_bytes place.slot (page_in s.parcel num)) e p.says)

  pub edits : EditsSlotIn s.parcel between p.there.number place.slot
  edits = edits_cleared s.parcel num place.slot whole p.there.slot

  whole_between : IsWhole between p2.there.number
  whole_between = whole-edited s.parcel between num place.slot num2 edits whole2

  edits2 : EditsSlotIn between moved_parcel p2.there.number place2.slot
  edits2 = edits_filled between num2 place2.slot e2 body whole_between p2.there.slot fits q.sized

  abbrev part2 : List ℕ
  part2 = entry_bytes (record { ino = e.ino; kind = kind; name = name }) ++ body

  part2_sized : length (entry_bytes (record { ino = e.ino; kind = kind; name = name }) ++ body) ≡ 256
  part2_sized = omega (arith, length-append (entry_bytes e2) body, length-entry_bytes e2 fits, q.sized)

  short : length (zeros 4) ≤ 256
  short = omega (arith, length-zeros 4)

  short2 : length (entry_bytes (record { ino = e.ino; kind = kind; name = name }) ++ body) ≤ 256
  short2 = omega (arith, part2_sized)

  page2_between : page_in between p2.there.number ≡ page_in s.parcel p2.there.number
  page2_between = edits.pages num2 (λ same. pages_apart (sym same))

  page_moved : page_in moved_parcel p.there.number ≡ with_part (256 * place.slot) (zeros 4) (page_in s.parcel p.there.number)
  page_moved = edits2.pages num pages_apart ∙ page_in-with_page_same num (with_part (256 * place.slot) (zeros 4) (page_in s.parcel num)) s.parcel whole.hand

  page2_moved : page_in moved_parcel p2.there.number ≡ with_part (256 * place2.slot) part2 (page_in s.parcel p2.there.number)
  page2_moved = search (arith, page_in-with_page_same, whole_between, page2_between)

  pub moved_touches : Touches (λ k. In k (p.there.number ∷ p2.there.number ∷ [])) s.parcel moved_parcel
  moved_touches =
      touches_then (λ k. In k (num ∷ num2 ∷ [])) s.parcel between moved_parcel
      (touches_page (λ k. In k (num ∷ num2 ∷ [])) num (with_part (256 * place.slot) (zeros 4) (page_in s.parcel num)) s.parcel (inl refl)
      (length-with_part (256 * place.slot) (zeros 4) (page_in s.parcel num) (omega (arith, p.there.slot, length-zeros 4, whole.whole)) ∙ whole.whole))
      (touches_page (λ k. In k (num ∷ num2 ∷ [])) num2 (with_part (256 * place2.slot) part2 (page_in between num2)) between (inr (inl refl))
      (length-with_part (256 * place2.slot) part2 (page_in between num2) (omega (arith, p2.there.slot, part2_sized, whole_between.whole)) ∙ whole_between.whole))

  abbrev pub new_from : List ℕ
  new_from = slot_with_part place.slot (zeros 4) (page_in s.parcel p.there.number)

  abbrev pub new_to : List ℕ
  new_to = slot_with_part place2.slot (entry_bytes (record { ino = e.ino; kind = kind; name = name }) ++ body) (page_in s.parcel p2.there.number)

  -- ---- what the slots say

  new_from_is : slot_bytes place.slot (with_part (256 * place.slot) (zeros 4) (page_in s.parcel p.there.number)) ≡ new_from
  new_from_is = search (arith, with_part-slot, whole, short, slot_bytes-written, length-slot_with_part)

  pub empty_then : slot_of desk.sizes.inodes new_from ≡ Empty
  empty_then = search (arith, new_from_is, empty_value, number-cleared, whole)

  new_to_sized : length new_to ≡ 256
  new_to_sized = length-slot_with_part place2.slot part2 (page_in s.parcel num2) whole2.whole p2.there.slot short2

  new_to_is : slot_bytes place2.slot (with_part (256 * place2.slot) part2 (page_in s.parcel p2.there.number)) ≡ new_to
  new_to_is = search (arith, with_part-slot, whole2, whole, short2, slot_bytes-written, new_to_sized)

  entry_is : IsEntry every_number (slot_bytes place2.slot (with_part (256 * place2.slot) part2 (page_in s.parcel p2.there.number))) e2
  entry_is = entry-filled e2 body (page_in s.parcel num2) place2.slot whole2.whole p2.there.slot fits q.sized

  pub says_to : (inodes : ℕ) → entry_fits inodes e ≡ true → slot_of inodes new_to ≡ Entry (record { ino = e.ino; kind = kind; name = name })
  says_to inodes f = search (arith, new_to_is, entry_value, entry_is, fits, fits_named)

  pub says_now : slot_of every_number (slot_bytes place2.slot (page_in moved_parcel p2.there.number)) ≡ Entry (record { ino = e.ino; kind = kind; name = name })
  says_now = search (arith, page2_moved, entry_value, entry_is)

  pub body_to : body_in_slot 0 new_to ≡ body
  body_to =
      body-written_slot place2.slot new_to (page_in s.parcel num2) whole2.whole p2.there.slot new_to_sized
      ∙ ap (body_in_slot place2.slot) (sym (with_part-slot place2.slot part2 (page_in s.parcel num2) whole2.whole p2.there.slot short2))
      ∙ body_in_slot-filled e2 body (page_in s.parcel num2) place2.slot whole2.whole p2.there.slot fits q.sized

  pub body_now : body_in_slot place2.slot (page_in moved_parcel p2.there.number) ≡ body
  body_now = body-filled between num2 place2.slot e2 body whole_between p2.there.slot fits q.sized

  -- ---- files that were made

  -- no file that was made has the slot that was empty
  not_to : (y : MadeFile) → In y s.made → y.page ≡ p2.there.number → y.slot ≢ place2.slot
  not_to y i at slot =
      let a = m.made.slots y i in
      let some : entry_on (page_in s.parcel num2) place2.slot ≡ Some a.entry =
      ap (λ k. entry_on (page_in s.parcel k) place2.slot) (sym at) ∙ ap (λ k. entry_on (page_in s.parcel y.page) k) (sym slot) ∙ ap entry_in a.says in
      let wrong : None ≡ Some a.entry = sym p2.empty ∙ some in absurd (cc wrong)

  -- and another file not the one of the entry
  not_from : (y : MadeFile) → In y s.made → (y.ino ≡ e.ino → ⊥) → y.page ≡ p.there.number → y.slot ≢ place.slot
  not_from y i d = elim (at_slot_or y num place.slot) [ inl here ↦ absurd (d (is_mine desk s dir place e old q.entry y i here)) | inr apart ↦ apart ]

  pub slot_kept : (y : MadeFile) → In y s.made → (y.ino ≡ e.ino → ⊥) → slot_bytes y.slot (page_in moved_parcel y.page) ≡ slot_bytes y.slot (page_in s.parcel y.page)
  slot_kept y i d =
      slot_bytes-else between moved_parcel num2 place2.slot y.page y.slot edits2 (not_to y i)
      ∙ slot_bytes-else s.parcel between num place.slot y.page y.slot edits (not_from y i d)

  pub body_kept : (y : MadeFile) → In y s.made → (y.ino ≡ e.ino → ⊥) → body_in_slot y.slot (page_in moved_parcel y.page) ≡ body_in_slot y.slot (page_in s.parcel y.page)
  body_kept y i d =
      body-else between moved_parcel num2 place2.slot y.page y.slot edits2 (not_to y i) ∙ body-else s.parcel between num place.slot y.page y.slot edits (not_from y i d)

  -- ---- what the slots have then

  pub from_has : BlocksHave s.parcel moved_parcel (chain_in s dir).blocks place.block place.slot None
  from_has =
      blocks_after s.parcel between moved_parcel (chain_in s dir).blocks place.block place.slot None
      (blocks_edited s.parcel between (chain_in s dir).blocks place.block num place.slot None edits (block_at desk s dir place m q.entry.opens p.there) (entry_on-cleared s.parcel num place.slot whole p.there.slot))
      (λ n i. edits2.pages n (λ same. blocks_apart n i (subst (λ k. In k (chain_in s dir2).blocks) (sym same) p2.there.block)))

  pub to_has : BlocksHave s.parcel moved_parcel (chain_in s dir2).blocks place2.block place2.slot (Some (record { ino = e.ino; kind = kind; name = name }))
  to_has =
      blocks_before s.parcel between moved_parcel (chain_in s dir2).blocks place2.block place2.slot (Some e2)
      (λ n i. edits.pages n (λ same. blocks_apart num p.there.block (subst (λ k. In k (chain_in s dir2).blocks) same i)))
      (blocks_edited between moved_parcel (chain_in s dir2).blocks place2.block num2 place2.slot (Some e2) edits2 (block_at desk s dir2 place2 m q.opens2 p2.there) (ap entry_in says_now))

  -- ---- the session then

  module _ (made' cleared' : List MadeFile) where
    abbrev pub moved_session : SessionSeen
    moved_session = record s { parcel = moved_parcel; made = made'; cleared = cleared' }

    abbrev pub moved_writes : WritesDirs s moved_session
    moved_writes = record {
      same = refl;
      pages = p.there.number ∷ p2.there.number ∷ [];
      touches = moved_touches;
      blocks = λ k i. elim i [
        | inl same ↦ subst (IsDirBlock s) (sym same) (record { directory = dir; opens = q.entry.opens; block = p.there.block })
        | inr j ↦ elim j [
          | inl same ↦ subst (IsDirBlock s) (sym same) (record { directory = dir2; opens = q.opens2; block = p2.there.block })
          | inr none ↦ absurd none
        ]
      ];
    }

    pub writes_from : WritesSlot s moved_session dir p.there.number place.slot new_from
    writes_from = search (arith, length-slot_with_part, whole, short, page_moved, with_part-slot)

    pub writes_to : WritesSlot s moved_session dir2 p2.there.number place2.slot new_to
    writes_to = search (arith, new_to_sized, page2_moved, with_part-slot, whole2, whole, short2)

    -- each page that is written is a block of one of the two directories
    pub moved_within : (n : ℕ) → In n (p.there.number ∷ p2.there.number ∷ []) → (d : ℕ) × In d (dir ∷ dir2 ∷ []) × (open_kind s d ≡ Some Directory) × In n (chain_in s d).blocks
    moved_within n i = elim i [
      | inl same ↦ (dir, inl refl, q.entry.opens, subst (λ j. In j (chain_in s dir).blocks) (sym same) p.there.block)
      | inr j ↦ elim j [
        | inl same ↦ (dir2, inr (inl refl), q.opens2, subst (λ j. In j (chain_in s dir2).blocks) (sym same) p2.there.block)
        | inr none ↦ absurd none
      ]
    ]
