-- The slot of a name is cleared.
use Rattle.trio_edit_laws.proofs.Words.{◌*◌, ◌++◌, ◌<◌, ◌∙◌, ◌∷◌, ◌≡◌, ◌≢◌, ◌≤◌, ◌⊎◌, AreSlotWrites, Chain, Changes, DeskSeen, Directory, Empty, Entry, EntryPart, HasSlot, HoldParts, In, In-cases, In-left, In-map, In-right, IsInSlot, IsUnlent, IsView, Kind, LeavesFiles, List, MadeFile, MayEdit, Nodes, None, Option, Place, Row, SessionSeen, SlotWrite, Some, StaysTree, [], ap, append-nil, append_assoc, are_new, arith, block_number, body-else, cases_eq, chain_in, chained, cleared_file, cleared_slot, empty_value, entry_count, entry_in, entry_on-cleared, entry_shown, eqb, eqb-true, every_number, filter, filter-In, find, find-In, find-append, flat_map, flat_map-append, grant_in, held_file, hold_numbers, in_hand, inl, ino_numbers, inr, is_some, length, length-zeros, made_body, made_file, map, map-append, not, number-cleared, number_shown, open_kind, option_map_or, option_or, page_in, place_shown, refl, slot_bytes, slot_bytes-else, slot_of, slots_of, slots_shown, subst, sym, true, with_node, with_part, zeros, ℕ}
use Rattle.trio_edit_laws.specs.session.SlotEdits.{IsClear, IsHeldIn, IsMade}
use Rattle.trio_edit_laws.proofs.session.FilesRemoved.{after_clear, clear_shows as law}
use Rattle.trio_edit_laws.proofs.session.SlotCases.{none_not, only}
use Rattle.trio_session.specs.Seen.{children_shown, clear, without_made}
use Rattle.trio_edit_laws.specs.DirLaws.{ClearLeaves, ClearShows, LeavesCleared}
use Rattle.trio_edit_laws.proofs.Chained.{apart_from}
use Rattle.trio_edit_laws.proofs.Keeps.{made_at, made_once}
use Rattle.trio_edit_laws.proofs.Opens.{pages_of_chain}
use Rattle.trio_edit_laws.proofs.directories.After.{IsListedThen, OthersStay}
use Rattle.trio_edit_laws.proofs.directories.Changes.{Turns, changes_by}
use Rattle.trio_edit_laws.proofs.directories.Fronts.{IsAtSlot, at_slot_or, front_edits, front_is, front_new, front_slot, front_whole, front_writes}
use Rattle.trio_edit_laws.proofs.directories.Leaves.{block_at, blocks_edited, has_slot, leaves_files, spare_same}
use Rattle.trio_edit_laws.proofs.directories.Mades.{In-part, In-parted, In-without, IsSplit, absent-find, filter-absent, filter-absent_none, find-absent, find-only, find-without_other, find-without_same, is_not_of, is_of, number_of, shorter, split, swapped}
use Rattle.trio_edit_laws.proofs.directories.Places.{IsNamedPlace, named_place}
use Rattle.trio_edit_laws.proofs.directories.Sees.{pages_open, slot_wide}
use Rattle.trio_edit_laws.proofs.directories.Slotted.{no_entries}
use Rattle.trio_edit_laws.proofs.directories.Stays.{EditsDirs, IsAsBefore, IsNewFile, IsTurned, WritesDirs, body_else, chain_else, grant-none, open_else, unlent_still}
use Rattle.trio_edit_laws.proofs.directories.Writes.{WritesSlot, write_of, slot_writes}

-- ---- what is left of the files that were made

-- the pages of the chains of files
abbrev pub made_pages : List MadeFile → List ℕ
made_pages ys = flat_map pages_of_chain (map (λ (y : MadeFile). y.chain) ys)

pub chained_parts : (cs : List Chain) (before after : List MadeFile)
    → flat_map pages_of_chain (cs ++ map (λ (y : MadeFile). y.chain) (before ++ after)) ≡ (flat_map pages_of_chain cs ++ made_pages before) ++ made_pages after
chained_parts cs before after = search (arith, map-append, flat_map-append, append_assoc)

-- the chains without one file have no page more, and each once
pub record IsLeft (s : SessionSeen) (made' : List MadeFile) : Type 0 where
  pub own : (n : ℕ) → In n (flat_map pages_of_chain (s.chains ++ map (λ (y : MadeFile). y.chain) made')) → In n (chained s)
  pub once : are_new [] (flat_map pages_of_chain (s.chains ++ map (λ (y : MadeFile). y.chain) made')) ≡ true

pub left_split : (s : SessionSeen) (n : ℕ) (x : MadeFile) → are_new [] (chained s) ≡ true → (q : IsSplit n s.made x) → IsLeft s (filter (is_not_of n) s.made)
left_split s n x once q =
    let a : List ℕ = flat_map pages_of_chain s.chains ++ made_pages q.before in
    let b : List ℕ = pages_of_chain x.chain in
    let c : List ℕ = made_pages q.after in
    let was : chained s ≡ a ++ (b ++ c) =
    ap (λ l. flat_map pages_of_chain (s.chains ++ map (λ (y : MadeFile). y.chain) l)) q.are ∙ chained_parts s.chains q.before (x ∷ q.after) in
    let now : flat_map pages_of_chain (s.chains ++ map (λ (y : MadeFile). y.chain) (filter (is_not_of n) s.made)) ≡ a ++ c =
    ap (λ l. flat_map pages_of_chain (s.chains ++ map (λ (y : MadeFile). y.chain) l)) q.rest ∙ chained_parts s.chains q.before q.after in
    record {
      own = λ k i.
          subst (λ l. In k l) (sym was)
          (elim (In-cases k a c (subst (λ l. In k l) now i)) [ inl j ↦ In-left k a (b ++ c) j | inr j ↦ In-right k a (b ++ c) (In-right k b c j) ]);
      once = ap (are_new []) now ∙ shorter a b c (ap (are_new []) (sym was) ∙ once);
    }

pub left_all : (s : SessionSeen) (n : ℕ) → are_new [] (chained s) ≡ true → (In n (map number_of s.made) → ⊥) → IsLeft s (filter (is_not_of n) s.made)
left_all s n once out = subst (IsLeft s) (sym (filter-absent n s.made out)) (record { own = λ k i. i; once = once })

-- the numbers, each once still
pub numbers_split : (s : SessionSeen) (n : ℕ) (x : MadeFile) → are_new [] (map number_of (s.made ++ s.cleared)) ≡ true → (q : IsSplit n s.made x)
    → are_new [] (map number_of (filter (is_not_of n) s.made ++ (s.cleared ++ filter (is_of n) s.made))) ≡ true
numbers_split s n x once q = search (arith, map-append, append_assoc, only, swapped)

pub numbers_all : (s : SessionSeen) (n : ℕ) → are_new [] (map number_of (s.made ++ s.cleared)) ≡ true → (In n (map number_of s.made) → ⊥)
    → are_new [] (map number_of (filter (is_not_of n) s.made ++ (s.cleared ++ filter (is_of n) s.made))) ≡ true
numbers_all s n once out = search (arith, filter-absent, filter-absent_none, append-nil)

-- ---- the edit

-- an entry of a directory that is open, by its name
pub record HasEntry (desk : DeskSeen) (s : SessionSeen) (dir' : ℕ) (place' : Place) (e' : EntryPart) (name' : List ℕ) : Type 0 where
  pub may : MayEdit desk s
  pub opens : open_kind s dir' ≡ Some Directory
  pub found : place_shown s dir' name' ≡ Some place'
  pub shown : entry_shown s dir' place' ≡ Some e'

module _ (desk : DeskSeen) (s : SessionSeen) (dir : ℕ) (place : Place) (e : EntryPart) (name : List ℕ) (q : HasEntry desk s dir place e name) where
  abbrev m : MayEdit desk s
  m = q.may

  pub p : IsNamedPlace s dir q.opens place e name
  p = named_place s dir q.opens place e name q.found q.shown

  abbrev num : ℕ
  num = p.there.number

  abbrev slot : ℕ
  slot = place.slot

  abbrev page : List ℕ
  page = page_in s.parcel p.there.number

  abbrev made' : List MadeFile
  made' = filter (λ (y : MadeFile). not (eqb y.ino e.ino)) s.made

  abbrev cleared' : List MadeFile
  cleared' = s.cleared ++ filter (λ (y : MadeFile). eqb y.ino e.ino) s.made

  -- the session then
  abbrev then' : SessionSeen
  then' = record s {
    parcel = cleared_slot p.there.number place.slot s.parcel;
    made = filter (λ (y : MadeFile). not (eqb y.ino e.ino)) s.made;
    cleared = s.cleared ++ filter (λ (y : MadeFile). eqb y.ino e.ino) s.made;
  }

  pub clear_is : clear dir name s ≡ record s {
    parcel = cleared_slot p.there.number place.slot s.parcel;
    made = filter (λ (y : MadeFile). not (eqb y.ino e.ino)) s.made;
    cleared = s.cleared ++ filter (λ (y : MadeFile). eqb y.ino e.ino) s.made;
  }
  unfolding clear
  clear_is =
      ap (λ o. option_map_or (λ (pl : Place). record (without_made (number_shown s dir pl) s) { parcel = cleared_slot (block_number s dir pl.block) pl.slot s.parcel }) o s) q.found
      ∙ ap (λ o. record (without_made (option_map_or (λ (x : EntryPart). x.ino) o 0) s) { parcel = cleared_slot (block_number s dir place.block) place.slot s.parcel }) q.shown
      ∙ ap (λ k. record (without_made e.ino s) { parcel = cleared_slot k place.slot s.parcel }) p.there.is

  -- ---- the slot

  pub short : length (zeros 4) ≤ 256
  short = omega (arith, length-zeros 4)

  abbrev new : List ℕ
  new = front_new desk s dir num slot (zeros 4) made' cleared' m q.opens p.there.block p.there.slot short

  abbrev pub writes : WritesDirs s then'
  writes = front_writes desk s dir num slot (zeros 4) made' cleared' m q.opens p.there.block p.there.slot short

  slot_then : WritesSlot s then' dir p.there.number place.slot (front_new desk s dir num slot (zeros 4) made' cleared' m q.opens p.there.block p.there.slot short)
  slot_then = front_slot desk s dir num slot (zeros 4) made' cleared' m q.opens p.there.block p.there.slot short

  whole : length (page_in s.parcel p.there.number) ≡ 4096
  whole = (front_whole desk s dir num slot (zeros 4) made' cleared' m q.opens p.there.block p.there.slot short).whole

  pub empty_now : slot_of desk.sizes.inodes (front_new desk s dir num slot (zeros 4) made' cleared' m q.opens p.there.block p.there.slot short) ≡ Empty
  empty_now =
      ap (slot_of desk.sizes.inodes) (sym (front_is desk s dir num slot (zeros 4) made' cleared' m q.opens p.there.block p.there.slot short))
      ∙ sym (empty_value desk.sizes.inodes (slot_bytes slot (with_part (256 * slot) (zeros 4) page)) (number-cleared page slot whole p.there.slot))

  -- ---- files that were made

  -- a file that has the slot is that of the number
  pub is_mine : (y : MadeFile) → In y s.made → IsAtSlot y p.there.number place.slot → y.ino ≡ e.ino
  is_mine y i here =
      let a = m.made.slots y i in
      let was : Entry a.entry ≡ Entry e = search (arith, p) in
      let same : a.entry ≡ e = cc was in
      sym a.number ∙ ap (λ (z : EntryPart). z.ino) same

  apart_from_it : (y : MadeFile) → In y s.made → (y.ino ≡ e.ino → ⊥) → y.page ≡ p.there.number → y.slot ≢ place.slot
  apart_from_it y i d = elim (at_slot_or y num place.slot) [ inl here ↦ absurd (d (is_mine y i here)) | inr apart ↦ apart ]

  body_same : (y : MadeFile) → In y s.made → (y.ino ≡ e.ino → ⊥) → made_body then' y ≡ made_body s y
  body_same y i d =
      body-else s.parcel then'.parcel num slot y.page y.slot (front_edits desk s dir num slot (zeros 4) made' cleared' m q.opens p.there.block p.there.slot short) (apart_from_it y i d)

  slot_same : (y : MadeFile) → In y s.made → (y.ino ≡ e.ino → ⊥) → slot_bytes y.slot (page_in then'.parcel y.page) ≡ slot_bytes y.slot (page_in s.parcel y.page)
  slot_same y i d =
      slot_bytes-else s.parcel then'.parcel num slot y.page y.slot (front_edits desk s dir num slot (zeros 4) made' cleared' m q.opens p.there.block p.there.slot short) (apart_from_it y i d)

  pub found_else : (k : ℕ) → (k ≡ e.ino → ⊥) → made_file then' k ≡ made_file s k
  found_else k d = find-without_other k e.ino s.made d

  pub found_none : made_file then' e.ino ≡ None
  found_none = find-without_same e.ino s.made

  pub is_left : IsLeft s (filter (λ (y : MadeFile). not (eqb y.ino e.ino)) s.made)
  is_left = by (made_file s e.ino) refl
    where
      by : (z : Option MadeFile) → made_file s e.ino ≡ z → IsLeft s (filter (λ (y : MadeFile). not (eqb y.ino e.ino)) s.made)
      by None f = left_all s e.ino m.once (absent-find e.ino s.made f)
      by (Some x) f = left_split s e.ino x m.once (split e.ino s.made x f (made_once desk s m))

  pub numbers_then : are_new [] (map (λ (y : MadeFile). y.ino) (then'.made ++ then'.cleared)) ≡ true
  numbers_then = by (made_file s e.ino) refl
    where
      by : (z : Option MadeFile) → made_file s e.ino ≡ z → are_new [] (map (λ (y : MadeFile). y.ino) (then'.made ++ then'.cleared)) ≡ true
      by None f = numbers_all s e.ino m.made.once (absent-find e.ino s.made f)
      by (Some x) f = numbers_split s e.ino x m.made.once (split e.ino s.made x f (made_once desk s m))

  -- a file that was made and is cleared is no file: the session has nothing on it
  gone_unlent : (x : MadeFile) → made_file s e.ino ≡ Some x → IsUnlent then' e.ino
  gone_unlent x f = (let at = made_at s e.ino x f in unlent_still s then' writes e.ino (subst (IsUnlent s) at.1 (m.made.apart x at.0)))

  gone_open : (x : MadeFile) → made_file s e.ino ≡ Some x → open_kind then' e.ino ≡ None
  gone_open x f = search (arith, found_none, gone_unlent)

  gone : (x : MadeFile) → made_file s e.ino ≡ Some x → (grant_in then' e.ino ≡ None) × (cleared_file then' e.ino ≡ Some x)
  gone x f =
      let u = gone_unlent x f in
      let at = made_at s e.ino x f in
      let apart = (apart_from (map number_of s.made) (map number_of s.cleared) (ap (are_new []) (sym (map-append number_of s.made s.cleared)) ∙ m.made.once)).apart in
      let uncleared : cleared_file s e.ino ≡ None = find-absent e.ino s.cleared (λ i. apart e.ino (subst (λ k. In k (map number_of s.made)) at.1 (In-map number_of x s.made at.0)) i) in (
        grant-none then' e.ino (gone_open x f) u.held u.read,
        find-append (is_of e.ino) s.cleared (filter (is_of e.ino) s.made) ∙ ap (λ o. option_or o (find (is_of e.ino) (filter (is_of e.ino) s.made))) uncleared ∙ find-only e.ino s.made ∙ f,
      )

  -- ---- what is left

  left : LeavesFiles s then' (dir ∷ []) e.ino
  left = leaves_files desk s then' (dir ∷ []) e.ino m (record {
    writes = writes;
    found = found_else;
    bodies = λ y i d. body_same y i d;
    within = search (arith, p);
  })

  slot_has : dir ≢ e.ino → HasSlot s then' dir place None
  slot_has d =
      has_slot s then' dir place None q.opens (open_else s then' writes dir (found_else dir d) ∙ q.opens) (chain_else s then' writes dir (found_else dir d))
      (blocks_edited s.parcel then'.parcel (chain_in s dir).blocks place.block num slot None
      (front_edits desk s dir num slot (zeros 4) made' cleared' m q.opens p.there.block p.there.slot short) (block_at desk s dir place m q.opens p.there)
      (entry_on-cleared s.parcel num slot (front_whole desk s dir num slot (zeros 4) made' cleared' m q.opens p.there.block p.there.slot short) p.there.slot))

  -- the same numbers are used
  used_then : (k : ℕ) → In k (map number_of (made' ++ cleared')) → In k (map number_of (s.made ++ s.cleared))
  used_then k i =
      let gone : List MadeFile = filter (is_of e.ino) s.made in
      let back : In k (map number_of s.made) ⊎ In k (map number_of s.cleared) → In k (map number_of (s.made ++ s.cleared)) = search (arith, map-append, In-left, In-right) in
      elim (In-cases k (map number_of made') (map number_of cleared') (subst (λ l. In k l) (map-append number_of made' cleared') i)) [
        | inl a ↦ back (inl (In-part (is_not_of e.ino) k s.made a))
        | inr c ↦ elim (In-cases k (map number_of s.cleared) (map number_of gone) (subst (λ l. In k l) (map-append number_of s.cleared gone) c)) [
          | inl j ↦ back (inr j)
          | inr j ↦ back (inl (In-part (is_of e.ino) k s.made j))
        ]
      ]

  used_now : (k : ℕ) → In k (map number_of (s.made ++ s.cleared)) → In k (map number_of (made' ++ cleared'))
  used_now k i =
      let gone : List MadeFile = filter (is_of e.ino) s.made in
      let there : In k (map number_of made') ⊎ In k (map number_of cleared') → In k (map number_of (made' ++ cleared')) = search (arith, map-append, In-left, In-right) in
      let behind : In k (map number_of s.cleared) ⊎ In k (map number_of gone) → In k (map number_of cleared') = search (arith, map-append, gone, In-left, In-right) in
      elim (In-cases k (map number_of s.made) (map number_of s.cleared) (subst (λ l. In k l) (map-append number_of s.made s.cleared) i)) [
        | inr c ↦ there (inr (behind (inl c)))
        | inl a ↦ elim (In-parted e.ino k s.made a) [ inl j ↦ there (inl j) | inr j ↦ there (inr (behind (inr j))) ]
      ]

  pub clear_left : LeavesCleared s (clear dir name s) dir place e.ino
  clear_left =
      subst (λ y. LeavesCleared s y dir place e.ino) (sym clear_is) (record {
        files = left;
        slot = slot_has;
        gone = gone;
        numbers = spare_same s then' writes.touches.inodes used_then used_now;
      })

  -- ---- without entries

  module _ (childless : children_shown s e.ino ≡ Some 0) where
    -- a file that was made and is gone had no entries
    was_empty : (x : MadeFile) → made_file s e.ino ≡ Some x → open_kind s e.ino ≡ Some Directory → entry_count (slots_shown s e.ino) ≡ 0
    was_empty x found o = search (arith, made_at)

    -- the directory of a file's slot stays
    stays : (d k slot' : ℕ) (x : EntryPart) → open_kind s d ≡ Some Directory → In k (chain_in s d).blocks → slot' < 16
        → slot_of every_number (slot_bytes slot' (page_in s.parcel k)) ≡ Entry x → made_file then' d ≡ made_file s d
    stays d k slot' x o i lt says = elim (cases_eq d e.ino) [
      | inr differ ↦ found_else d differ
      | inl same ↦ subst (λ j. made_file then' j ≡ made_file s j) (sym same) (here (made_file s e.ino) refl same)
    ]
      where
        here : (z : Option MadeFile) → made_file s e.ino ≡ z → d ≡ e.ino → made_file then' e.ino ≡ made_file s e.ino
        here None f same = found_none ∙ sym f
        here (Some y) f same =
            let o' : open_kind s e.ino ≡ Some Directory = ap (open_kind s) (sym same) ∙ o in
            let pages : List (List ℕ) = map (page_in s.parcel) (chain_in s e.ino).blocks in
            absurd
            (no_entries pages (page_in s.parcel k) slot' x
            (ap (λ ps. length (filter is_some (slots_of every_number ps))) (sym (pages_open s e.ino o')) ∙ was_empty y f o')
            (In-map (page_in s.parcel) k (chain_in s e.ino).blocks (subst (λ j. In k (chain_in s j).blocks) same i)) lt (ap entry_in says))

    slots_then : (y : MadeFile) → In y then'.made → IsInSlot then' y
    slots_then y i =
        let j = In-without e.ino y s.made i in
        let a = m.made.slots y j.0 in
        let f = stays a.directory y.page y.slot a.entry a.opens a.block a.slot a.says in
        record {
          directory = a.directory;
          opens = open_else s then' writes a.directory f ∙ a.opens;
          block = subst (λ (c : Chain). In y.page c.blocks) (sym (chain_else s then' writes a.directory f)) a.block;
          slot = a.slot;
          entry = a.entry;
          says = ap (slot_of every_number) (slot_same y j.0 j.1) ∙ a.says;
          number = a.number;
          kind = a.kind;
        }

    before_is : (k : ℕ) (kind : Kind) → made_file then' k ≡ made_file s k → ((y : MadeFile) → made_file s k ≡ Some y → made_body then' y ≡ made_body s y)
        → open_kind then' k ≡ Some kind → IsAsBefore s then' k kind
    before_is k kind f body o = record {
      opens = sym (open_else s then' writes k f) ∙ o;
      chain = chain_else s then' writes k f;
      body = body_else s then' writes k f body;
    }

    opens_then : (k : ℕ) (kind : Kind) → open_kind then' k ≡ Some kind → IsAsBefore s then' k kind ⊎ (IsNewFile desk then' k kind ⊎ IsTurned desk s then' k kind)
    opens_then k kind o = elim (cases_eq k e.ino) [
      | inr d ↦ inl (before_is k kind (found_else k d) (λ y f. (let at = made_at s k y f in body_same y at.0 (λ same. d (sym at.1 ∙ same)))) o)
      | inl same ↦ inl (subst (λ j. IsAsBefore s then' j kind) (sym same) (here (made_file s e.ino) refl (ap (open_kind then') (sym same) ∙ o)))
    ]
      where
        here : (z : Option MadeFile) → made_file s e.ino ≡ z → open_kind then' e.ino ≡ Some kind → IsAsBefore s then' e.ino kind
        here None f o' = before_is e.ino kind (found_none ∙ sym f) (λ y g. absurd (let wrong : None ≡ Some y = sym f ∙ g in cc wrong)) o'
        here (Some x) f o' = absurd (let wrong : None ≡ Some kind = sym (gone_open x f) ∙ o' in cc wrong)

    edits_dirs : EditsDirs desk s then'
    edits_dirs = record {
      writes = writes;
      opens = opens_then;
      own = is_left.own;
      once = is_left.once;
      numbers = λ y i. m.made.numbers y (In-without e.ino y s.made i).0;
      gone = λ y i. elim (In-cases y s.cleared (filter (λ (z : MadeFile). eqb z.ino e.ino) s.made) i) [
        | inl old ↦ m.made.gone y old
        | inr new ↦ m.made.numbers y (filter-In (λ (z : MadeFile). eqb z.ino e.ino) y s.made new).0
      ];
      made_once = numbers_then;
      apart = λ y i. unlent_still s then' writes y.ino (m.made.apart y (In-without e.ino y s.made i).0);
      slots = slots_then;
    }

    others : OthersStay s then' e.ino
    others = record {
      made = λ y i d. (let j = In-without e.ino y s.made i in (j.0, body_same y j.0 d));
      found = found_else;
    }

    -- the file is held or was made
    own_file : IsHeldIn (in_hand s) e.ino ⊎ IsMade (in_hand s) e.ino
    own_file = by (made_file s e.ino) refl (held_file s e.ino) refl
      where
        by : (z : Option MadeFile) → made_file s e.ino ≡ z → (h : Option HoldParts) → held_file s e.ino ≡ h → IsHeldIn (in_hand s) e.ino ⊎ IsMade (in_hand s) e.ino
        by (Some x) f h g = inr (let at = made_at s e.ino x f in subst (λ k. In k (ino_numbers s.parcel.inodes)) at.1 (m.made.numbers x at.0))
        by None f (Some h) g =
            let t = find-In (λ (k : HoldParts). eqb k.ino e.ino) s.parcel.holds h g in
            inl (subst (λ k. In k (hold_numbers s.parcel.holds)) (eqb-true h.ino e.ino t.1) (In-map (λ (k : HoldParts). k.ino) h s.parcel.holds t.0))
        by None f None g =
            let none : children_shown s e.ino ≡ None = search arith in
            let wrong : None ≡ Some 0 = sym none ∙ childless in absurd (cc wrong)

    -- ---- what is shown

    module _ (nodes nodes' : Nodes) (rows : List (Option Row)) (v : IsView desk (in_hand s) (in_hand then') nodes nodes' rows) where
      abbrev w : SlotWrite
      w = write_of desk s then' dir num slot new m writes q.opens slot_then nodes nodes' rows v

      are : AreSlotWrites desk (in_hand s) (in_hand then') (write_of desk s then' dir num slot new m writes q.opens slot_then nodes nodes' rows v ∷ [])
      are = slot_writes desk s then' dir num slot new m writes q.opens slot_then nodes nodes' rows v refl

      is_clear : IsClear desk (in_hand s) (in_hand then') (write_of desk s then' dir num slot new m writes q.opens slot_then nodes nodes' rows v) e
      is_clear = record {
        writes = are;
        before = sym (slot_wide desk s dir (in_hand then') nodes nodes' rows m v q.opens num slot p.there.block p.there.slot) ∙ p.says;
        after = empty_now;
        own = own_file;
      }

      listed_then : IsListedThen desk s then' e.ino nodes None
      listed_then = record {
        mine = λ y i same. absurd ((In-without e.ino y s.made i).1 same);
        made = λ y is. absurd is.1;
        rights = λ g is old. absurd (none_not g is);
      }

      turns : StaysTree desk s then' (λ ns. with_node ns e.ino None) → Turns desk s then' e.ino nodes nodes' rows (λ ns. with_node ns e.ino None)
      turns tree = record {
        rewrites = search (arith, are, after_clear, is_clear, listed_then);
        shows = (law desk (in_hand s) (in_hand then') w e m.order is_clear tree).shows nodes nodes' rows v.shows;
      }

    pub clear_changes : StaysTree desk s (clear dir name s) (λ ns. with_node ns e.ino None) → Changes desk s (clear dir name s) (λ ns. with_node ns e.ino None)
    clear_changes tree =
        let change : Nodes → Nodes = λ ns. with_node ns e.ino None in
        let tree' : StaysTree desk s then' (λ ns. with_node ns e.ino None) = subst (λ y. StaysTree desk s y change) clear_is tree in
        subst (λ y. Changes desk s y change) (sym clear_is)
        (changes_by desk s then' e.ino change m edits_dirs others (λ nodes nodes' rows v. turns nodes nodes' rows v tree') tree')

pub clear_shows : ClearShows
clear_shows desk s dir place e name m open_dir found shown none tree =
    clear_changes desk s dir place e name (record { may = m; opens = open_dir.directory; found = found; shown = shown }) none tree

pub clear_leaves : ClearLeaves
clear_leaves desk s dir place e name m open_dir found shown =
    clear_left desk s dir place e name (record { may = m; opens = open_dir.directory; found = found; shown = shown })
