-- A new file is put into the first empty slot of a directory.
use Rattle.trio_edit_laws.proofs.Words.{if◌then◌else◌, ◌&&◌, ◌*◌, ◌++◌, ◌<◌, ◌∙◌, ◌∷◌, ◌≡◌, ◌≤◌, ◌⊎◌, AreSlotWrites, AreWithinLimits, Bad, Body, Bool, Chain, Changes, CoreRange, DeskSeen, Directory, EditsSlotIn, Empty, Entry, EntryPart, HasSlot, In, In-cases, In-is_among, In-left, In-map, In-right, InHand, InoParts, IsEntry, IsInSlot, IsOpenDir, IsTree, IsUnlent, IsView, IsWhole, Kind, LeavesFiles, List, MadeFile, MayEdit, Met, Naming, Nodes, None, Option, Place, Row, SessionSeen, Shows, SlotRead, SlotWrite, Some, StaysTree, [], and_from, and_parts, ap, append-nil, append_assoc, are_new, arith, block_number, body-else, body-filled, body_in_slot, body_in_slot-filled, body_sized, body_stands, case_as_stands, cases_eq, chain_in, chained, cleared_file, cond, edits_filled, empty_shown, entry-filled, entry_bytes, entry_fits, entry_in, entry_on, entry_value, eq-eqb, eqb, eqb-true, every_number, false, false≢true, filled, filter, filter-In, filter-same, flat_map-append, grant_in, held_file, in_hand, inl, ino_numbers, inr, is_allotted, is_among, is_among-not, is_name, is_some, le-leb, leb, length, length-entry_bytes, length-with_part, lt-ltb, ltb, made_body, made_by, made_file, made_met, map, map-append, met_in, naming_after, naming_of, ne_eqb, no_chain, not, open_kind, option_map_or, page_in, page_in-with_page_same, parcel_case, place_shown, plain, read_file, refl, slot_bytes, slot_bytes-else, slot_of, spare_numbers, subst, sym, true, used_numbers, with_node, with_part, written_file, ℕ, TakesMore, ArePossible, listed_in_hand}
use Rattle.std.proofs.Common.{length-append}
use Rattle.trio_lists.proofs.Filters.{filter-filter}
use Rattle.trio_layout.specs.Body.{body_of}
use Rattle.trio_edit_laws.specs.session.SlotEdits.{IsFill, filled as nodes_filled}
use Rattle.trio_edit_laws.proofs.session.FilesMade.{after_fill, fill_shows as law}
use Rattle.trio_edit_laws.proofs.session.Named.{made_is_judged, named_is_read}
use Rattle.trio_session.specs.Seen.{fill, placed_made}
use Rattle.trio_session.proofs.SlotBytes.{entry_fits-every}
use Rattle.trio_edit_laws.specs.DirLaws.{FillLeaves, FillShows, IsEmptyBody, LeavesFilled, node_made}
use Rattle.trio_edit_laws.proofs.Anew.{body-made}
use Rattle.trio_edit_laws.proofs.Keeps.{made_at}
use Rattle.trio_edit_laws.proofs.Opens.{chain-made}
use Rattle.trio_edit_laws.proofs.HandStays.{takes_more}
use Rattle.trio_edit_laws.proofs.Whole.{view_then}
use Rattle.trio_edit_laws.proofs.Touches.{touches_page}
use Rattle.trio_edit_laws.proofs.directories.After.{IsListedThen, OthersStay}
use Rattle.trio_edit_laws.proofs.directories.Changes.{Turns, changes_by}
use Rattle.trio_edit_laws.proofs.directories.Leaves.{block_at, blocks_edited, has_slot, leaves_files}
use Rattle.trio_edit_laws.proofs.directories.Mades.{filter-absent, find-absent, find-added_other, find-added_same, number_of, one_more}
use Rattle.trio_edit_laws.proofs.directories.Places.{IsEmptyPlace, empty_place, free_name}
use Rattle.trio_edit_laws.proofs.directories.Sees.{r, slot_good, slot_wide}
use Rattle.trio_edit_laws.proofs.directories.Stays.{EditsDirs, IsAsBefore, IsDirBlock, IsNewFile, IsTurned, WritesDirs, body_else, chain_else, hand_stays, no_grant, open_else, unlent_still}
use Rattle.trio_edit_laws.proofs.directories.Writes.{WritesSlot, block_whole, body-written_slot, length-slot_with_part, slot_bytes-written, slot_with_part, with_part-slot, write_of, slot_writes}
use Rattle.trio_edit_laws.proofs.session.SlotCases.{named_so}

-- a slot without an entry is empty
pub empty_from : (x : SlotRead) → entry_in x ≡ None → (x ≡ Bad → ⊥) → x ≡ Empty
empty_from x e good = search arith

-- an allotted number that no file has which was made is named nowhere
pub unnamed : (desk : DeskSeen) (s : SessionSeen) (h' : InHand) (nodes nodes' : Nodes) (rows : List (Option Row)) (n : ℕ) → MayEdit desk s
    → IsView desk (in_hand s) h' nodes nodes' rows → In n (ino_numbers s.parcel.inodes) → made_file s n ≡ None
    → naming_of (case_as_stands desk (in_hand s)) n ≡ None
unnamed desk s h' nodes nodes' rows n m v new none = by (naming_of (case_as_stands desk (in_hand s)) n) refl
  where
    by : (q : Option Naming) → naming_of (case_as_stands desk (in_hand s)) n ≡ q → naming_of (case_as_stands desk (in_hand s)) n ≡ None
    by None e = e
    by (Some g) e =
        let q = named_is_read desk (in_hand s) n g e in
        let x : Met = met_in plain g.directory g.listed in
        let number : x.ino ≡ n = q.6 in
        let new' : In x.ino (ino_numbers s.parcel.inodes) = subst (λ k. In k (ino_numbers s.parcel.inodes)) (sym number) new in
        let judged = (made_is_judged desk (in_hand s) h' nodes nodes' rows x v new').1 (g, ap (naming_of (case_as_stands desk (in_hand s))) number ∙ e, refl) in
        let some = m.made.only nodes rows (v.more nodes rows v.shows.possible) x judged new' in
        absurd (false≢true (sym (ap (λ k. is_some (made_file s k)) number ∙ ap is_some none) ∙ some))

pub cond_some : (t : Bool) (x y : Body) → cond t (Some x) None ≡ Some y → (t ≡ true) × (x ≡ y)
cond_some true x y e = (refl, let both : Some x ≡ Some y = e in cc both)
cond_some false x y e = absurd (let both : None ≡ Some y = e in cc both)

-- an empty body names no index page
head_none : (kind : Kind) (range : CoreRange) (bytes : List ℕ) (b : Body) → body_of kind range bytes ≡ Some b → b.size ≡ 0 → b.head ≡ 0
unfolding body_of
head_none kind range bytes b e empty = search (arith, cond_some, and_parts, eqb-true)

-- a slot that is filled, with a file of an allotted number made
abbrev pub filled_session : SessionSeen → ℕ → Kind → ℕ → ℕ → List ℕ → List ℕ → Bool → SessionSeen
filled_session s n kind k slot name body t =
    record (if t then record s { made = s.made ++ placed_made s n kind k slot ∷ []; cleared = filter (λ (y : MadeFile). not (eqb y.ino n)) s.cleared } else s) {
      parcel = filled k slot (record { ino = n; kind = kind; name = name }) body s.parcel;
    }

-- a fill, by its place
pub fill_at : (s : SessionSeen) (dir : ℕ) (place : Place) (name : List ℕ) (n : ℕ) (kind : Kind) (body : List ℕ) (k : ℕ) (t : Bool) → empty_shown s dir ≡ Some place
    → block_number s dir place.block ≡ k → is_allotted s n ≡ t
    → fill dir name n kind body s ≡ filled_session s n kind k place.slot name body t
unfolding fill
fill_at s dir place name n kind body k t empty number allotted = search arith

-- what a fill is given
pub record FillNeeds (desk : DeskSeen) (s : SessionSeen) (dir' : ℕ) (place' : Place) (name' : List ℕ) (n' : ℕ) (kind' : Kind) (body' : List ℕ) (b : Body) : Type 0 where
  pub limits : AreWithinLimits desk.sizes
  pub may : MayEdit desk s
  pub opens : open_kind s dir' ≡ Some Directory
  pub empty : empty_shown s dir' ≡ Some place'
  pub free : place_shown s dir' name' ≡ None
  pub name : is_name name' ≡ true
  pub spare : In n' (spare_numbers s)
  pub unopened : open_kind s n' ≡ None
  pub unheld : held_file s n' ≡ None
  pub unread : read_file s n' ≡ None
  pub body : IsEmptyBody desk kind' body' b

module _ (desk : DeskSeen) (s : SessionSeen) (dir : ℕ) (place : Place) (name : List ℕ) (n : ℕ) (kind : Kind) (body : List ℕ) (b : Body)
    (q : FillNeeds desk s dir place name n kind body b) where
  abbrev m : MayEdit desk s
  m = q.may

  p : IsEmptyPlace s dir q.opens place
  p = empty_place s dir q.opens place q.empty

  abbrev num : ℕ
  num = p.there.number

  abbrev e : EntryPart
  e = record { ino = n; kind = kind; name = name }

  abbrev page : List ℕ
  page = page_in s.parcel p.there.number

  abbrev part : List ℕ
  part = entry_bytes (record { ino = n; kind = kind; name = name }) ++ body

  -- the new file, and the session with it
  abbrev x : MadeFile
  x = placed_made s n kind p.there.number place.slot

  abbrev then' : SessionSeen
  then' = record s {
    parcel = filled p.there.number place.slot (record { ino = n; kind = kind; name = name }) body s.parcel;
    made = s.made ++ placed_made s n kind p.there.number place.slot ∷ [];
    cleared = filter (λ (y : MadeFile). not (eqb y.ino n)) s.cleared;
  }

  -- ---- the number

  pub spare : In n (ino_numbers s.parcel.inodes) × (not (is_among n (used_numbers s)) ≡ true)
  spare = filter-In (λ k. not (is_among k (used_numbers s))) n (ino_numbers s.parcel.inodes) q.spare

  unused : In n (map number_of (s.made ++ s.cleared)) → ⊥
  unused i = false≢true (ap not (sym (In-is_among n (used_numbers s) i)) ∙ spare.1)

  pub unused_made : In n (map number_of s.made) → ⊥
  unused_made i = unused (subst (λ l. In n l) (sym (map-append number_of s.made s.cleared)) (In-left n (map number_of s.made) (map number_of s.cleared) i))

  unused_cleared : In n (map number_of s.cleared) → ⊥
  unused_cleared i = unused (subst (λ l. In n l) (sym (map-append number_of s.made s.cleared)) (In-right n (map number_of s.made) (map number_of s.cleared) i))

  none_made : made_file s n ≡ None
  none_made = find-absent n s.made unused_made

  pub none_cleared : cleared_file s n ≡ None
  none_cleared = find-absent n s.cleared unused_cleared

  fill_is : fill dir name n kind body s ≡ record s {
    parcel = filled p.there.number place.slot (record { ino = n; kind = kind; name = name }) body s.parcel;
    made = s.made ++ placed_made s n kind p.there.number place.slot ∷ [];
    cleared = filter (λ (y : MadeFile). not (eqb y.ino n)) s.cleared;
  }
  fill_is = fill_at s dir place name n kind body p.there.number true q.empty p.there.is (In-is_among n (ino_numbers s.parcel.inodes) spare.0)

  -- ---- the slot

  numbers : (0 < n) × (n ≤ desk.sizes.inodes)
  numbers = m.given.numbers n spare.0

  fits_here : entry_fits desk.sizes.inodes (record { ino = n; kind = kind; name = name }) ≡ true
  fits_here =
      and_from (ltb 0 n && leb n desk.sizes.inodes) (is_name name) (and_from (ltb 0 n) (leb n desk.sizes.inodes) (lt-ltb 0 n numbers.0) (le-leb n desk.sizes.inodes numbers.1)) q.name

  pub fits : entry_fits every_number (record { ino = n; kind = kind; name = name }) ≡ true
  fits =
      (let small = q.limits.inodes in let within = numbers.1 in entry_fits-every (record { ino = n; kind = kind; name = name }) (omega (arith, small, within)) q.name numbers.0)

  pub sized : length body ≡ 64
  sized = body_sized kind desk.sizes.range body b q.body.is

  part_sized : length (entry_bytes (record { ino = n; kind = kind; name = name }) ++ body) ≡ 256
  part_sized = omega (arith, length-append (entry_bytes e) body, length-entry_bytes e fits, sized)

  whole : IsWhole s.parcel p.there.number
  whole = block_whole desk s dir num m q.opens p.there.block

  edits : EditsSlotIn s.parcel then'.parcel p.there.number place.slot
  edits = edits_filled s.parcel num place.slot e body whole p.there.slot fits sized

  abbrev new : List ℕ
  new = slot_with_part place.slot part page

  short : length (entry_bytes (record { ino = n; kind = kind; name = name }) ++ body) ≤ 256
  short = omega (arith, part_sized)

  new_sized : length (slot_with_part place.slot (entry_bytes (record { ino = n; kind = kind; name = name }) ++ body) (page_in s.parcel p.there.number)) ≡ 256
  new_sized = length-slot_with_part place.slot part page whole.whole p.there.slot short

  bytes_then : page_in then'.parcel p.there.number ≡ with_part (256 * place.slot) part page
  bytes_then = page_in-with_page_same num (with_part (256 * place.slot) part page) s.parcel whole.hand

  slot_then : WritesSlot s then' dir p.there.number place.slot (slot_with_part place.slot (entry_bytes (record { ino = n; kind = kind; name = name }) ++ body) (page_in s.parcel p.there.number))
  slot_then = search (arith, p, sized, new_sized, bytes_then, with_part-slot, whole, short)

  new_is : slot_bytes place.slot (with_part (256 * place.slot) part page) ≡ new
  new_is =
      ap (slot_bytes place.slot) (with_part-slot place.slot part page whole.whole p.there.slot short) ∙ slot_bytes-written place.slot new page whole.whole p.there.slot new_sized

  entry_is : IsEntry every_number (slot_bytes place.slot (with_part (256 * place.slot) part page)) e
  entry_is = entry-filled e body page place.slot whole.whole p.there.slot fits sized

  says_here : slot_of desk.sizes.inodes new ≡ Entry e
  says_here = search (arith, new_is, entry_value, entry_is, fits, fits_here)

  says_now : slot_of every_number (slot_bytes place.slot (page_in then'.parcel p.there.number)) ≡ Entry e
  says_now = search (arith, bytes_then, entry_value, entry_is)

  body_new : body_in_slot 0 new ≡ body
  body_new =
      body-written_slot place.slot new page whole.whole p.there.slot new_sized
      ∙ ap (body_in_slot place.slot) (sym (with_part-slot place.slot part page whole.whole p.there.slot short))
      ∙ body_in_slot-filled e body page place.slot whole.whole p.there.slot fits sized

  body_now : body_in_slot place.slot (page_in then'.parcel p.there.number) ≡ body
  body_now = body-filled s.parcel num place.slot e body whole p.there.slot fits sized

  -- ---- the session then

  abbrev front : WritesDirs s then'
  front = record {
    same = refl;
    pages = p.there.number ∷ [];
    touches =
        touches_page (λ k. In k (p.there.number ∷ [])) num (with_part (256 * place.slot) part page) s.parcel (inl refl)
        (length-with_part (256 * place.slot) part page (omega (arith, p.there.slot, part_sized, whole.whole)) ∙ whole.whole);
    blocks = λ k i. elim i [
      | inl same ↦ subst (IsDirBlock s) (sym same) (record { directory = dir; opens = q.opens; block = p.there.block })
      | inr none ↦ absurd none
    ];
  }

  found_else : (k : ℕ) → (k ≡ n → ⊥) → made_file then' k ≡ made_file s k
  found_else k d = find-added_other k s.made x d

  found_new : made_file then' n ≡ Some (placed_made s n kind p.there.number place.slot)
  found_new = find-added_same s.made x none_made

  new_chain : (placed_made s n kind p.there.number place.slot).chain ≡ no_chain
  new_chain = ap (λ o. option_map_or (λ (y : MadeFile). y.chain) o no_chain) none_cleared

  -- no other file that was made has the slot
  other_slot : (y : MadeFile) → In y s.made → y.page ≡ p.there.number → y.slot ≡ place.slot → ⊥
  other_slot y i at slot =
      let a = m.made.slots y i in
      let some : entry_on page place.slot ≡ Some a.entry =
      ap (λ k. entry_on (page_in s.parcel k) place.slot) (sym at) ∙ ap (λ k. entry_on (page_in s.parcel y.page) k) (sym slot) ∙ ap entry_in a.says in
      let wrong : None ≡ Some a.entry = sym p.empty ∙ some in absurd (cc wrong)

  slot_same : (y : MadeFile) → In y s.made → slot_bytes y.slot (page_in then'.parcel y.page) ≡ slot_bytes y.slot (page_in s.parcel y.page)
  slot_same y i = slot_bytes-else s.parcel then'.parcel num place.slot y.page y.slot edits (λ at slot. other_slot y i at slot)

  body_same : (y : MadeFile) → In y s.made → made_body then' y ≡ made_body s y
  body_same y i = body-else s.parcel then'.parcel num place.slot y.page y.slot edits (λ at slot. other_slot y i at slot)

  others : OthersStay s then' n
  others = record {
    made = λ y i d. elim (In-cases y s.made (x ∷ []) i) [
      | inl old ↦ (old, body_same y old)
      | inr j ↦ elim j [ inl same ↦ absurd (d (ap number_of same)) | inr none ↦ absurd none ]
    ];
    found = found_else;
  }

  -- a directory that was open is another file
  differs : (d : ℕ) (k : Kind) → open_kind s d ≡ Some k → d ≡ n → ⊥
  differs d k o same = (let wrong : None ≡ Some k = sym q.unopened ∙ ap (open_kind s) (sym same) ∙ o in absurd (cc wrong))

  open_still : (d : ℕ) (k : Kind) → open_kind s d ≡ Some k → open_kind then' d ≡ Some k
  open_still d k o = open_else s then' front d (found_else d (differs d k o)) ∙ o

  chain_still : (d : ℕ) (k : Kind) → open_kind s d ≡ Some k → chain_in then' d ≡ chain_in s d
  chain_still d k o = chain_else s then' front d (found_else d (differs d k o))

  slots_then : (y : MadeFile) → In y then'.made → IsInSlot then' y
  slots_then y i = elim (In-cases y s.made (x ∷ []) i) [
    | inl old ↦
        let a = m.made.slots y old in
        record {
          directory = a.directory;
          opens = open_still a.directory Directory a.opens;
          block = subst (λ (c : Chain). In y.page c.blocks) (sym (chain_still a.directory Directory a.opens)) a.block;
          slot = a.slot;
          entry = a.entry;
          says = ap (slot_of every_number) (slot_same y old) ∙ a.says;
          number = a.number;
          kind = a.kind;
        }
    | inr j ↦ elim j [ inl same ↦ subst (IsInSlot then') (sym same) mine | inr none ↦ absurd none ]
  ]
    where
      mine : IsInSlot then' x
      mine = record {
        directory = dir;
        opens = open_still dir Directory q.opens;
        block = subst (λ (c : Chain). In num c.blocks) (sym (chain_still dir Directory q.opens)) p.there.block;
        slot = p.there.slot;
        entry = e;
        says = says_now;
        number = refl;
        kind = refl;
      }

  opens_then : (k : ℕ) (kind' : Kind) → open_kind then' k ≡ Some kind' → IsAsBefore s then' k kind' ⊎ (IsNewFile desk then' k kind' ⊎ IsTurned desk s then' k kind')
  opens_then k kind' o = elim (cases_eq k n) [
    | inr d ↦
        inl (record {
          opens = sym (open_else s then' front k (found_else k d)) ∙ o;
          chain = chain_else s then' front k (found_else k d);
          body = body_else s then' front k (found_else k d) (λ y found. body_same y (made_at s k y found).0);
        })
    | inl same ↦ inr (inl (subst (λ j. IsNewFile desk then' j kind') (sym same) (new_file (ap (open_kind then') (sym same) ∙ o))))
  ]
    where
      new_file : open_kind then' n ≡ Some kind' → IsNewFile desk then' n kind'
      new_file o' = search (arith, found_new, chain-made, new_chain, body-made, body_now, head_none)

  chained_same : chained then' ≡ chained s
  chained_same = search (arith, map-append, append_assoc, flat_map-append, new_chain, append-nil)

  once_then : are_new [] (map (λ (y : MadeFile). y.ino) (then'.made ++ then'.cleared)) ≡ true
  once_then =
      ap (are_new [])
      (map-append number_of then'.made then'.cleared
      ∙ ap (λ l. l ++ map number_of then'.cleared) (map-append number_of s.made (x ∷ []))
      ∙ ap (λ l. (map number_of s.made ++ n ∷ []) ++ map number_of l) (filter-absent n s.cleared unused_cleared))
      ∙ one_more (map number_of s.made) (map number_of s.cleared) n (ap (are_new []) (sym (map-append number_of s.made s.cleared)) ∙ m.made.once)
      (λ i. unused (subst (λ l. In n l) (sym (map-append number_of s.made s.cleared)) i))

  written_none : written_file s n ≡ None
  written_none = search (arith, none_made)

  pub unlent_new : IsUnlent s n
  unlent_new = record { written = written_none; held = q.unheld; read = q.unread }

  edits_dirs : EditsDirs desk s then'
  edits_dirs = record {
    writes = front;
    opens = opens_then;
    own = λ k i. subst (λ l. In k l) chained_same i;
    once = ap (are_new []) chained_same ∙ m.once;
    numbers = λ y i. elim (In-cases y s.made (x ∷ []) i) [
      | inl old ↦ m.made.numbers y old
      | inr j ↦ elim j [ inl same ↦ subst (λ (z : MadeFile). In z.ino (ino_numbers s.parcel.inodes)) (sym same) spare.0 | inr none ↦ absurd none ]
    ];
    gone = λ y i. m.made.gone y (filter-In (λ (z : MadeFile). not (eqb z.ino n)) y s.cleared i).0;
    made_once = once_then;
    apart = λ y i. elim (In-cases y s.made (x ∷ []) i) [
      | inl old ↦ unlent_still s then' front y.ino (m.made.apart y old)
      | inr j ↦ elim j [ inl same ↦ unlent_still s then' front y.ino (subst (IsUnlent s) (sym (ap number_of same)) unlent_new) | inr none ↦ absurd none ]
    ];
    slots = slots_then;
  }

  -- ---- what is shown

  module _ (nodes nodes' : Nodes) (rows : List (Option Row)) (v : IsView desk (in_hand s) (in_hand then') nodes nodes' rows) where
    abbrev w : SlotWrite
    w = write_of desk s then' dir num place.slot new m front q.opens slot_then nodes nodes' rows v

    are : AreSlotWrites desk (in_hand s) (in_hand then') (write_of desk s then' dir num place.slot new m front q.opens slot_then nodes nodes' rows v ∷ [])
    are = slot_writes desk s then' dir num place.slot new m front q.opens slot_then nodes nodes' rows v refl

    empty_before : slot_of desk.sizes.inodes (slot_bytes place.slot (page_in s.parcel p.there.number)) ≡ Empty
    empty_before =
        empty_from (slot_of desk.sizes.inodes (slot_bytes place.slot page))
        (ap entry_in (sym (slot_wide desk s dir (in_hand then') nodes nodes' rows m v q.opens num place.slot p.there.block p.there.slot)) ∙ p.empty)
        (slot_good desk s dir (in_hand then') nodes nodes' rows m v q.opens num place.slot p.there.block p.there.slot)

    is_fill : IsFill desk (in_hand s) (in_hand then') (write_of desk s then' dir num place.slot new m front q.opens slot_then nodes nodes' rows v) e b
    is_fill = record {
      writes = are;
      before = empty_before;
      after = says_here;
      name = λ l i same. free_name desk s dir (in_hand then') nodes nodes' rows m v q.opens name q.free l i same;
      made = spare.0;
      unnamed = unnamed desk s (in_hand then') nodes nodes' rows n m v spare.0 none_made;
      body_is = ap (body_of kind desk.sizes.range) body_new ∙ q.body.is;
      empty = q.body.size;
      uid = q.body.uid;
      gid = q.body.gid;
    }

    node_is : made_by (naming_after (write_of desk s then' dir num place.slot new m front q.opens slot_then nodes nodes' rows v) e) ≡ node_made dir name kind b
    node_is = search (arith, body_new, body_stands, r)

    module _ (tree : StaysTree desk s then' (λ ns. with_node ns n (Some (node_made dir name kind b)))) where
      tree_then : (ns : Nodes) → IsTree (with_node ns n (Some (node_made dir name kind b)))
          → IsTree (nodes_filled (write_of desk s then' dir num place.slot new m front q.opens slot_then nodes nodes' rows v) e ns)
      tree_then ns t = subst (λ y. IsTree (with_node ns n (Some y))) (sym node_is) t

      listed_then : IsListedThen desk s then' n nodes (Some (naming_after (write_of desk s then' dir num place.slot new m front q.opens slot_then nodes nodes' rows v) e))
      listed_then = record {
        mine = λ y i same. elim (In-cases y s.made (x ∷ []) i) [
          | inl old ↦ absurd (unused_made (subst (λ k. In k (map number_of s.made)) same (In-map number_of y s.made old)))
          | inr j ↦ elim j [
            | inl is ↦
                let as_met : List ℕ → Met = λ l. record { ino = n; kind = kind; parent = w.directory.ino; page = num; slot = place.slot; body = l } in
                (w.directory.ino, (spare.0, ap (made_met then' w.directory.ino) is ∙ ap as_met (body_now ∙ sym body_new)))
            | inr none ↦ absurd none
          ]
        ];
        made = λ y is. ap (λ (z : Met). is_some (made_file then' z.ino)) is.1 ∙ ap is_some found_new;
        rights = search (arith, named_so, spare);
      }

      turns : Turns desk s then' n nodes nodes' rows (λ ns. with_node ns n (Some (node_made dir name kind b)))
      turns = record {
        rewrites = record {
          writes = w ∷ [];
          now = Some (naming_after w e);
          are = are;
          after = after_fill desk (in_hand s) (in_hand then') w e b nodes nodes' rows is_fill v (tree_then nodes' (tree nodes nodes' rows v.shows));
          listed = listed_then;
        };
        shows =
            subst (λ y. Shows (parcel_case desk.sizes desk.creds rows then'.parcel) nodes (with_node nodes' n (Some y))) node_is
            ((law desk (in_hand s) (in_hand then') w e b m.order is_fill (λ ns ns' rs may. tree_then ns' (tree ns ns' rs may))).shows nodes nodes' rows v.shows);
      }

  pub fill_changes : StaysTree desk s (fill dir name n kind body s) (λ ns. with_node ns n (Some (node_made dir name kind b)))
      → Changes desk s (fill dir name n kind body s) (λ ns. with_node ns n (Some (node_made dir name kind b)))
  fill_changes tree =
      let change : Nodes → Nodes = λ ns. with_node ns n (Some (node_made dir name kind b)) in
      let tree' : StaysTree desk s then' (λ ns. with_node ns n (Some (node_made dir name kind b))) = subst (λ y. StaysTree desk s y change) fill_is tree in
      subst (λ y. Changes desk s y change) (sym fill_is)
      (changes_by desk s then' n change m edits_dirs others (λ nodes nodes' rows v. turns nodes nodes' rows v tree') tree')

  -- what is possible then was before, and no page is listed that wasn't
  pub fill_more : TakesMore desk (in_hand s) (in_hand (fill dir name n kind body s))
  fill_more = subst (λ y. TakesMore desk (in_hand s) (in_hand y)) (sym fill_is) (takes_more desk s then' m (hand_stays s then' front))

  listed_before : StaysTree desk s then' (λ ns. with_node ns n (Some (node_made dir name kind b))) → (nodes : Nodes) (rows : List (Option Row))
      → ArePossible desk then'.parcel then'.reads nodes rows → (k : ℕ) → In k (listed_in_hand desk (in_hand then')) → In k (listed_in_hand desk (in_hand s))
  listed_before tree nodes rows possible k i =
      let v = view_then desk s (in_hand then') nodes rows m (takes_more desk s then' m (hand_stays s then' front)) possible in
      (turns nodes v.0 rows v.1 tree).rewrites.after.pages k i

  pub fill_pages : StaysTree desk s (fill dir name n kind body s) (λ ns. with_node ns n (Some (node_made dir name kind b))) → (nodes : Nodes) (rows : List (Option Row))
      → ArePossible desk (fill dir name n kind body s).parcel (fill dir name n kind body s).reads nodes rows
      → (k : ℕ) → In k (listed_in_hand desk (in_hand (fill dir name n kind body s))) → In k (listed_in_hand desk (in_hand s))
  fill_pages =
      subst
      (λ y. StaysTree desk s y (λ ns. with_node ns n (Some (node_made dir name kind b))) → (nodes : Nodes) (rows : List (Option Row)) → ArePossible desk y.parcel y.reads nodes rows
      → (k : ℕ) → In k (listed_in_hand desk (in_hand y)) → In k (listed_in_hand desk (in_hand s)))
      (sym fill_is) listed_before

  pub chained_filled : chained (fill dir name n kind body s) ≡ chained s
  chained_filled = ap chained fill_is ∙ chained_same

  -- ---- what is left

  left : LeavesFiles s then' (dir ∷ []) n
  left = leaves_files desk s then' (dir ∷ []) n m (record {
    writes = front;
    found = found_else;
    bodies = λ y i d. body_same y i;
    within = search (arith, p);
  })

  slot_has : HasSlot s then' dir place (Some (record { ino = n; kind = kind; name = name }))
  slot_has =
      has_slot s then' dir place (Some e) q.opens (open_still dir Directory q.opens) (chain_still dir Directory q.opens)
      (blocks_edited s.parcel then'.parcel (chain_in s dir).blocks place.block num place.slot (Some e) edits (block_at desk s dir place m q.opens p.there) (ap entry_in says_now))

  used_then : (k : ℕ) → In k (used_numbers then') → In k (used_numbers s) ⊎ (k ≡ n)
  used_then k i =
      let j : In k ((map number_of s.made ++ n ∷ []) ++ map number_of s.cleared) =
      subst (λ l. In k l)
      (map-append number_of then'.made then'.cleared
      ∙ ap (λ l. l ++ map number_of then'.cleared) (map-append number_of s.made (x ∷ []))
      ∙ ap (λ l. (map number_of s.made ++ n ∷ []) ++ map number_of l) (filter-absent n s.cleared unused_cleared)) i in
      let back : In k (map number_of s.made ++ map number_of s.cleared) → In k (used_numbers s) = subst (λ l. In k l) (sym (map-append number_of s.made s.cleared)) in
      elim (In-cases k (map number_of s.made ++ n ∷ []) (map number_of s.cleared) j) [
        | inr c ↦ inl (back (In-right k (map number_of s.made) (map number_of s.cleared) c))
        | inl f ↦ elim (In-cases k (map number_of s.made) (n ∷ []) f) [
          | inl a ↦ inl (back (In-left k (map number_of s.made) (map number_of s.cleared) a))
          | inr b' ↦ elim b' [ inl same ↦ inr same | inr none ↦ absurd none ]
        ]
      ]

  used_now : (k : ℕ) → In k (used_numbers s) ⊎ (k ≡ n) → In k (used_numbers then')
  used_now k i =
      subst (λ l. In k l)
      (sym (map-append number_of then'.made then'.cleared
      ∙ ap (λ l. l ++ map number_of then'.cleared) (map-append number_of s.made (x ∷ []))
      ∙ ap (λ l. (map number_of s.made ++ n ∷ []) ++ map number_of l) (filter-absent n s.cleared unused_cleared)))
      (elim i [
        | inr same ↦ In-left k (map number_of s.made ++ n ∷ []) (map number_of s.cleared) (In-right k (map number_of s.made) (n ∷ []) (inl same))
        | inl j ↦ elim (In-cases k (map number_of s.made) (map number_of s.cleared) (subst (λ l. In k l) (map-append number_of s.made s.cleared) j)) [
          | inl a ↦ In-left k (map number_of s.made ++ n ∷ []) (map number_of s.cleared) (In-left k (map number_of s.made) (n ∷ []) a)
          | inr c ↦ In-right k (map number_of s.made ++ n ∷ []) (map number_of s.cleared) c
        ]
      ])

  -- of the numbers that are spare this one is no more
  spare_then : spare_numbers then' ≡ filter (λ k. not (eqb k n)) (spare_numbers s)
  spare_then =
      let inos : List ℕ = ino_numbers s.parcel.inodes in
      let then_spare : ℕ → Bool = λ k. not (is_among k (used_numbers then')) in
      let was_spare : ℕ → Bool = λ k. not (is_among k (used_numbers s)) in
      ap (λ (l : List InoParts). filter then_spare (ino_numbers l)) front.touches.inodes
      ∙ sym (filter-filter then_spare was_spare inos
      (λ k i t. ap not (is_among-not k (used_numbers s) (λ j. false≢true (ap not (sym (In-is_among k (used_numbers then') (used_now k (inl j)))) ∙ t)))))
      ∙ filter-same then_spare (λ k. not (eqb k n)) (filter was_spare inos) (λ k i. ap not (same k (filter-In was_spare k inos i).1))
    where
      same : (k : ℕ) → not (is_among k (used_numbers s)) ≡ true → is_among k (used_numbers then') ≡ eqb k n
      same k t = elim (cases_eq k n) [
        | inl is ↦ In-is_among k (used_numbers then') (used_now k (inr is)) ∙ sym (eq-eqb k n is)
        | inr d ↦
            is_among-not k (used_numbers then') (λ i. elim (used_then k i) [
              | inl j ↦ false≢true (ap not (sym (In-is_among k (used_numbers s) j)) ∙ t)
              | inr is ↦ d is
            ])
            ∙ sym (ne_eqb k n d)
      ]

  pub fill_left : LeavesFilled s (fill dir name n kind body s) dir place (record { ino = n; kind = kind; name = name })
  fill_left =
      subst (λ y. LeavesFilled s y dir place (record { ino = n; kind = kind; name = name })) (sym fill_is) (record { files = left; slot = slot_has; numbers = spare_then })

-- what a fill is given, by its law's premises
pub needs_of : (desk : DeskSeen) (s : SessionSeen) (dir : ℕ) (place : Place) (name : List ℕ) (n : ℕ) (kind : Kind) (body : List ℕ) (b : Body)
    → AreWithinLimits desk.sizes → MayEdit desk s → IsOpenDir s dir → empty_shown s dir ≡ Some place → place_shown s dir name ≡ None → is_name name ≡ true
    → In n (spare_numbers s) → grant_in s n ≡ None → IsEmptyBody desk kind body b → FillNeeds desk s dir place name n kind body b
needs_of desk s dir place name n kind body b limits m open_dir empty free is spare nothing body_is = search (arith, FillNeeds, spare, no_grant)

pub fill_shows : FillShows
fill_shows desk s dir place name n kind body b limits m open_dir empty free is spare nothing body_is tree =
    fill_changes desk s dir place name n kind body b
    (needs_of desk s dir place name n kind body b limits m open_dir empty free is spare nothing body_is) tree

pub fill_leaves : FillLeaves
fill_leaves desk s dir place name n kind body b limits m open_dir empty free is spare nothing body_is =
    fill_left desk s dir place name n kind body b
    (needs_of desk s dir place name n kind body b limits m open_dir empty free is spare nothing body_is)
