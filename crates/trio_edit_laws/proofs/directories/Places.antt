-- Places of a directory that is open: of its first empty slot, and of the slot with a name.
use Rattle.trio_edit_laws.proofs.Words.{◌%◌, ◌*◌, ◌+◌, ◌/◌, ◌<◌, ◌∙◌, ◌∷◌, ◌≡◌, DeskSeen, Directory, Entry, EntryPart, In, In-find, In-map, InHand, IsView, List, Listed, MayEdit, Nodes, None, Option, Place, Row, SessionSeen, Some, [], ap, arith, block_number, chain_in, empty_shown, entry_in, entry_on, entry_shown, every_number, first_slot, get_or, get_or_from_slice_get, in_hand, is_none, length, length-map, map, open_kind, option_map, page_in, place_at, place_shown, refl, slice_get, slice_get-In, slice_get-get_or, slice_get-map, slice_get_within, slot_bytes, slot_of, slot_with, slots_of, slots_shown, some_one, subst, suc, sym, ℕ}
use Rattle.std.proofs.lemmas.Slice.Eq.{bytes_eq-Decides}
use Rattle.trio_edit_laws.proofs.directories.Sees.{pages_open, parts_read, place_open, r, shown_here}
use Rattle.trio_edit_laws.proofs.directories.Slotted.{has_this_name, length-parts_of, name_of_part, no_spot, part_at, parts_of, present, slots_of-parts, spot}

-- a place is in a directory: its slot lies on the page of this number
pub record IsPlace (s : SessionSeen) (dir : ℕ) (place : Place) : Type 0 where
  pub number : ℕ
  pub at : slice_get (chain_in s dir).blocks place.block ≡ Some number
  pub block : In number (chain_in s dir).blocks
  pub slot : place.slot < 16
  pub is : block_number s dir place.block ≡ number

module _ (s : SessionSeen) (dir : ℕ) (o : open_kind s dir ≡ Some Directory) where
  abbrev blocks : List ℕ
  blocks = (chain_in s dir).blocks

  abbrev pages : List (List ℕ)
  pages = map (page_in s.parcel) (chain_in s dir).blocks

  place_there : (i : ℕ) → i / 16 < length (map (page_in s.parcel) (chain_in s dir).blocks) → IsPlace s dir (place_at i)
  place_there i lt = search (arith, length-map, slice_get-get_or, slice_get-In)

  page_there : (place : Place) → (p : IsPlace s dir place) → get_or (map (page_in s.parcel) (chain_in s dir).blocks) place.block [] ≡ page_in s.parcel p.number
  page_there place p =
      get_or_from_slice_get pages place.block (page_in s.parcel p.number) [] (slice_get-map (page_in s.parcel) blocks place.block ∙ ap (option_map (page_in s.parcel)) p.at)

  slots_are : slots_shown s dir ≡ slots_of every_number (map (page_in s.parcel) (chain_in s dir).blocks)
  slots_are = ap (slots_of every_number) (pages_open s dir o)

  -- ---- the first empty slot

  pub record IsEmptyPlace (place : Place) : Type 0 where
    pub there : IsPlace s dir place
    pub empty : entry_on (page_in s.parcel there.number) place.slot ≡ None

  later_none : (name : List ℕ) (slots : List (Option (List ℕ))) (i : ℕ) (q : Option ℕ) → ((j : ℕ) → first_slot is_none slots ≡ Some j → slice_get slots j ≡ Some None)
      → first_slot is_none slots ≡ q
      → option_map suc q ≡ Some i → slice_get (Some name ∷ slots) i ≡ Some None
  later_none name slots i q later f k = search arith

  first_none : (slots : List (Option (List ℕ))) (i : ℕ) → first_slot is_none slots ≡ Some i → slice_get slots i ≡ Some None
  first_none [] i e = absurd (let t : None ≡ Some i = e in cc t)
  first_none (None ∷ slots) i e = (let t : Some 0 ≡ Some i = e in let z : 0 ≡ i = cc t in subst (λ k. slice_get (None ∷ slots) k ≡ Some None) z refl)
  first_none (Some name ∷ slots) i e = later_none name slots i (first_slot is_none slots) (first_none slots) refl e

  no_part : (q : Option (Option EntryPart)) → option_map name_of_part q ≡ Some None → q ≡ Some None
  no_part q h = search arith

  empty_at : (i : ℕ) → first_slot is_none (slots_shown s dir) ≡ Some i → IsEmptyPlace (place_at i)
  empty_at i e =
      let parts : List (Option EntryPart) = parts_of pages in
      let none : slice_get (slots_shown s dir) i ≡ Some None = first_none (slots_shown s dir) i e in
      let part : slice_get parts i ≡ Some None =
      no_part (slice_get parts i) (sym (slice_get-map name_of_part parts i) ∙ ap (λ l. slice_get l i) (sym (slots_of-parts pages) ∙ sym slots_are) ∙ none) in
      let lt : i < length parts = slice_get_within parts i None part in
      let block : i / 16 < length pages = omega (arith, lt, length-parts_of pages) in
      let small : i % 16 < 16 = omega arith in
      let sum : 16 * (i / 16) + i % 16 ≡ i = omega arith in
      let there : IsPlace s dir (place_at i) = place_there i block in
      record {
        there = place_there i block;
        empty =
            ap (λ p. entry_on p (i % 16)) (sym (page_there (place_at i) (place_there i block)))
            ∙ sym (part_at pages (i / 16) (i % 16) block small) ∙ ap (λ n. get_or parts n None) sum ∙ get_or_from_slice_get parts i None None part;
      }

  pub empty_place : (place : Place) → empty_shown s dir ≡ Some place → IsEmptyPlace place
  empty_place place e = by (first_slot is_none (slots_shown s dir)) refl e
    where
      by : (q : Option ℕ) → first_slot is_none (slots_shown s dir) ≡ q → option_map place_at q ≡ Some place → IsEmptyPlace place
      by None f k = absurd (let t : None ≡ Some place = k in cc t)
      by (Some i) f k = (let t : Some (place_at i) ≡ Some place = k in let z : place_at i ≡ place = cc t in subst IsEmptyPlace z (empty_at i f))

  -- ---- the slot with a name

  pub record IsNamedPlace (place : Place) (e : EntryPart) (name' : List ℕ) : Type 0 where
    pub there : IsPlace s dir place
    pub says : slot_of every_number (slot_bytes place.slot (page_in s.parcel there.number)) ≡ Entry e
    pub name : e.name ≡ name'

  named_at : (i : ℕ) (e : EntryPart) (name : List ℕ) → slot_with name (slots_of every_number pages) ≡ Some i → entry_shown s dir (place_at i) ≡ Some e
      → IsNamedPlace (place_at i) e name
  named_at i e name found shown =
      let sp = spot pages name i found in
      let q = shown_here s dir (place_at i) e o shown in
      let p : IsPlace s dir (place_at i) = place_there i sp.block in
      let same : q.number ≡ p.number = some_one (slice_get blocks (i / 16)) q.number p.number q.at p.at in
      let on : entry_on (page_in s.parcel p.number) (i % 16) ≡ Some sp.entry = ap (λ x. entry_on x (i % 16)) (sym (page_there (place_at i) p)) ∙ sp.on in
      let says : slot_of every_number (slot_bytes (i % 16) (page_in s.parcel p.number)) ≡ Entry e =
      ap (λ n. slot_of every_number (slot_bytes (i % 16) (page_in s.parcel n))) (sym same) ∙ q.says in
      let one : Some sp.entry ≡ Some e = sym on ∙ ap entry_in says in
      let entry : sp.entry ≡ e = cc one in
      record { there = place_there i sp.block; says = says; name = ap (λ (x : EntryPart). x.name) (sym entry) ∙ sp.name }

  pub named_place : (place : Place) (e : EntryPart) (name : List ℕ) → place_shown s dir name ≡ Some place → entry_shown s dir place ≡ Some e → IsNamedPlace place e name
  named_place place e name found shown =
      by (slot_with name (slots_of every_number pages)) refl (ap (λ l. option_map place_at (slot_with name l)) (sym slots_are) ∙ sym (place_open s dir o name) ∙ found)
    where
      by : (q : Option ℕ) → slot_with name (slots_of every_number pages) ≡ q → option_map place_at q ≡ Some place → IsNamedPlace place e name
      by None f k = absurd (let t : None ≡ Some place = k in cc t)
      by (Some i) f k =
          let t : Some (place_at i) ≡ Some place = k in
          let z : place_at i ≡ place = cc t in
          subst (λ p. IsNamedPlace p e name) z (named_at i e name f (subst (λ p. entry_shown s dir p ≡ Some e) (sym z) shown))

  no_name : (name : List ℕ) → place_shown s dir name ≡ None → slot_with name (slots_of every_number (map (page_in s.parcel) (chain_in s dir).blocks)) ≡ None
  no_name name none = search (arith, slots_are, place_open)

-- no entry that the directory reads has a name that it hasn't
pub free_name : (desk : DeskSeen) (s : SessionSeen) (dir : ℕ) (h' : InHand) (nodes nodes' : Nodes) (rows : List (Option Row)) → (m : MayEdit desk s)
    → (v : IsView desk (in_hand s) h' nodes nodes' rows) → (o : open_kind s dir ≡ Some Directory)
    → (name : List ℕ) → place_shown s dir name ≡ None → (l : Listed) → In l (r desk s dir h' nodes nodes' rows m v o).file.entries → l.entry.name ≡ name → ⊥
free_name desk s dir h' nodes nodes' rows m v o name none l i same =
    let pages : List (List ℕ) = map (page_in s.parcel) (chain_in s dir).blocks in
    let j : In l.entry (present (parts_of pages)) =
    subst (λ es. In l.entry es) (sym (parts_read desk s dir h' nodes nodes' rows m v o)) (In-map (λ (x : Listed). x.entry) l (r desk s dir h' nodes nodes' rows m v o).file.entries i) in
    let q = In-find (has_this_name name) (present (parts_of pages)) l.entry j ((bytes_eq-Decides l.entry.name name).1 same) in
    let wrong : None ≡ Some q.0 = sym (no_spot pages name (no_name s dir o name none)) ∙ q.1 in absurd (cc wrong)
