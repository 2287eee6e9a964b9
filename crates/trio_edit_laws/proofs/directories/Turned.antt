-- A file that was made, and is no directory, gets another kind in its slot.
use Rattle.trio_edit_laws.proofs.Words.{◌++◌, ◌*◌, ◌∙◌, ◌∷◌, ◌≡◌, ◌≤◌, ◌⊎◌, AreSlotWrites, Body, Chain, Changes, DeskSeen, Directory, Entry, EntryPart, HasRights, In, IsEntry, IsInSlot, IsView, Kind, List, Listed, MadeFile, MayEdit, Met, Nodes, None, Option, Row, SessionSeen, SlotWrite, Some, StaysTree, [], ap, are_new, arith, body-else, body_at, body_in, body_in_slot, body_of, body_stands, cases_eq, chain_in, chained, cond, entry_bytes, entry_fits, entry_value, eqb, eqb-true, every_number, find, find-In, find_map, flat_map, if_other, if_same, in_hand, inl, ino_numbers, inr, is_directory, is_some, length, length-entry_bytes, made_body, made_file, made_met, map, map-In, map-append, map-map, map_alike, naming_after, node_at, one_keyed, open_kind, option_map, page_in, refl, rights_in, slot_bytes, slot_bytes-else, slot_of, subst, sym, true, false, with_changed, with_part, ℕ, In-left, IsUnlent, if◌then◌else◌, Bool, Node, IsTree, with_node, Rights, rights_of}
use Rattle.trio_edit_laws.specs.session.SlotEdits.{IsAfter, IsRekind, rekinded}
use Rattle.trio_edit_laws.proofs.session.EditedWalk.{find-same}
use Rattle.trio_edit_laws.proofs.session.FilesTurned.{after_rekind, rekind_shows as law}
use Rattle.trio_session.specs.Layout.{retitled}
use Rattle.trio_session.proofs.SlotBytes.{entry-retitled}
use Rattle.trio_session.proofs.SlotEdits.{body-retitled}
use Rattle.trio_edit_laws.proofs.Keeps.{made_at}
use Rattle.trio_edit_laws.proofs.directories.After.{IsListedThen, OthersStay}
use Rattle.trio_edit_laws.proofs.directories.Changes.{Turns, changes_by}
use Rattle.trio_edit_laws.proofs.directories.Fronts.{at_slot_or, fits_from, front_body, front_edits, front_is, front_new, front_slot, front_then, front_whole, front_writes}
use Rattle.trio_edit_laws.proofs.directories.Sees.{listed, listed_on, lists, open_rights, r, slot_wide}
use Rattle.trio_edit_laws.proofs.directories.Stays.{EditsDirs, IsAsBefore, IsNewFile, IsTurned, WritesDirs, body_else, chain_else, hand_stays, open_else, unlent_still}
use Rattle.trio_edit_laws.proofs.directories.TreeTurned.{tree_turned}
use Rattle.trio_edit_laws.proofs.HandStays.{takes_more}
use Rattle.trio_edit_laws.proofs.directories.Writes.{WritesSlot, write_of, slot_writes}
use Rattle.trio_edit_laws.proofs.session.SlotCases.{named_so}

-- a file that was made is of another kind
abbrev pub turned_made : ℕ → Kind → MadeFile → MadeFile
turned_made n kind y = if eqb y.ino n then record y { kind = kind } else y

-- the session with the entry of a slot, and the file of its number, of another kind
abbrev pub turned_session : ℕ → ℕ → EntryPart → SessionSeen → SessionSeen
turned_session page slot e s = record s { parcel = retitled page slot e s.parcel; made = map (turned_made e.ino e.kind) s.made }

abbrev has_number : ℕ → MadeFile → Bool
has_number n y = eqb y.ino n

pub turned-ino : (n : ℕ) (kind : Kind) (y : MadeFile) → (turned_made n kind y).ino ≡ y.ino
turned-ino n kind y = elim (eqb y.ino n) as (λ v. (if v then record y { kind = kind } else y).ino ≡ y.ino) [ true ↦ refl | false ↦ refl ]

pub turned-chain : (n : ℕ) (kind : Kind) (y : MadeFile) → (turned_made n kind y).chain ≡ y.chain
turned-chain n kind y = elim (eqb y.ino n) as (λ v. (if v then record y { kind = kind } else y).chain ≡ y.chain) [ true ↦ refl | false ↦ refl ]

pub turned-body : (s : SessionSeen) (n : ℕ) (kind : Kind) (y : MadeFile) → made_body s (turned_made n kind y) ≡ made_body s y
turned-body s n kind y = elim (eqb y.ino n) as (λ v. made_body s (if v then record y { kind = kind } else y) ≡ made_body s y) [ true ↦ refl | false ↦ refl ]

pub turned-other : (n : ℕ) (kind : Kind) (y : MadeFile) → (y.ino ≡ n → ⊥) → turned_made n kind y ≡ y
turned-other n kind y d = if_other y.ino n (record y { kind = kind }) y d

pub turned-here : (n : ℕ) (kind : Kind) (y : MadeFile) → y.ino ≡ n → turned_made n kind y ≡ record y { kind = kind }
turned-here n kind y e = if_same y.ino n (record y { kind = kind }) y e

pub find-turned : (n : ℕ) (kind : Kind) (k : ℕ) (ys : List MadeFile) → find (has_number k) (map (turned_made n kind) ys) ≡ option_map (turned_made n kind) (find (has_number k) ys)
find-turned n kind k ys = search (arith, find_map, find-same, turned-ino)

-- what is asked of a file that gets another kind
pub record TurnNeeds (desk : DeskSeen) (s : SessionSeen) (n' : ℕ) (x' : MadeFile) (kind' : Kind) : Type 0 where
  pub may : MayEdit desk s
  pub found : made_file s n' ≡ Some x'
  pub plain : is_directory x'.kind ≡ false
  pub plain_now : is_directory kind' ≡ false
  pub fits : (b : Body) → body_of x'.kind desk.sizes.range (made_body s x') ≡ Some b → body_of kind' desk.sizes.range (made_body s x') ≡ Some b
  pub slot : IsInSlot s x'

module _ (desk : DeskSeen) (s : SessionSeen) (n : ℕ) (x : MadeFile) (kind : Kind) (q : TurnNeeds desk s n x kind) where
  abbrev m : MayEdit desk s
  m = q.may

  own : In x s.made × (eqb x.ino n ≡ true)
  own = find-In (has_number n) s.made x q.found

  number : x.ino ≡ n
  number = eqb-true x.ino n own.1

  abbrev a : IsInSlot s x
  a = q.slot

  abbrev dir : ℕ
  dir = a.directory

  abbrev num : ℕ
  num = x.page

  abbrev slot : ℕ
  slot = x.slot

  abbrev e : EntryPart
  e = a.entry

  abbrev now : EntryPart
  now = record a.entry { kind = kind }

  e_number : a.entry.ino ≡ n
  e_number = a.number ∙ number

  abbrev page : List ℕ
  page = page_in s.parcel x.page

  abbrev made' : List MadeFile
  made' = map (turned_made a.entry.ino kind) s.made

  -- the session then
  abbrev then' : SessionSeen
  then' = record s { parcel = retitled x.page x.slot (record a.entry { kind = kind }) s.parcel; made = map (turned_made a.entry.ino kind) s.made }

  -- ---- the slot

  fits : entry_fits every_number (record a.entry { kind = kind }) ≡ true
  fits = fits_from every_number (slot_bytes slot page) e a.says

  short : length (entry_bytes (record a.entry { kind = kind })) ≤ 256
  short = omega (arith, length-entry_bytes now fits)

  abbrev new : List ℕ
  new = front_new desk s dir num slot (entry_bytes now) made' s.cleared m a.opens a.block a.slot short

  abbrev writes : WritesDirs s then'
  writes = front_writes desk s dir num slot (entry_bytes now) made' s.cleared m a.opens a.block a.slot short

  slot_then : WritesSlot s then' a.directory x.page x.slot (front_new desk s dir num slot (entry_bytes now) made' s.cleared m a.opens a.block a.slot short)
  slot_then = front_slot desk s dir num slot (entry_bytes now) made' s.cleared m a.opens a.block a.slot short

  whole : length (page_in s.parcel x.page) ≡ 4096
  whole = (front_whole desk s dir num slot (entry_bytes now) made' s.cleared m a.opens a.block a.slot short).whole

  entry_is : IsEntry every_number (slot_bytes slot (with_part (256 * slot) (entry_bytes now) page)) now
  entry_is = entry-retitled now page slot whole a.slot fits

  says_of : (inodes : ℕ) → entry_fits inodes (record a.entry { kind = kind }) ≡ true → slot_of inodes new ≡ Entry now
  says_of inodes f =
      ap (slot_of inodes) (sym (front_is desk s dir num slot (entry_bytes now) made' s.cleared m a.opens a.block a.slot short))
      ∙ sym (entry_value inodes (slot_bytes slot (with_part (256 * slot) (entry_bytes now) page)) now (record { spelled = entry_is.spelled; narrow = entry_is.narrow; fits = f }))

  says_now : slot_of every_number (slot_bytes slot (page_in then'.parcel x.page)) ≡ Entry now
  says_now = ap (slot_of every_number) (front_then desk s dir num slot (entry_bytes now) made' s.cleared m a.opens a.block a.slot short) ∙ says_of every_number fits

  body_kept : body_in_slot slot (page_in then'.parcel x.page) ≡ body_in_slot slot (page_in s.parcel x.page)
  body_kept =
      body-retitled s.parcel num slot now (front_whole desk s dir num slot (entry_bytes now) made' s.cleared m a.opens a.block a.slot short) a.slot fits

  body_new : body_in_slot 0 new ≡ body_in_slot slot page
  body_new = front_body desk s dir num slot (entry_bytes now) made' s.cleared m a.opens a.block a.slot short ∙ body_kept

  -- ---- files that were made

  body_same : (y : MadeFile) → In y s.made → made_body then' y ≡ made_body s y
  body_same y i = elim (at_slot_or y num slot) [
    | inr apart ↦
        body-else s.parcel then'.parcel num slot y.page y.slot (front_edits desk s dir num slot (entry_bytes now) made' s.cleared m a.opens a.block a.slot short) apart
    | inl here ↦ search (arith, body_kept)
  ]

  found_is : (k : ℕ) → made_file then' k ≡ option_map (turned_made a.entry.ino kind) (made_file s k)
  found_is k = find-turned a.entry.ino kind k s.made

  found_here : made_file then' n ≡ Some (record x { kind = kind })
  found_here = found_is n ∙ ap (option_map (turned_made a.entry.ino kind)) q.found ∙ ap Some (turned-here a.entry.ino kind x (sym a.number))

  found_else : (k : ℕ) → (k ≡ n → ⊥) → made_file then' k ≡ made_file s k
  found_else k d = found_is k ∙ same (made_file s k) refl
    where
      same : (o : Option MadeFile) → made_file s k ≡ o → option_map (turned_made a.entry.ino kind) o ≡ o
      same None f = refl
      same (Some y) f =
          let at : y.ino ≡ k = eqb-true y.ino k (find-In (has_number k) s.made y f).1 in
          ap Some (turned-other a.entry.ino kind y (λ t. d (sym at ∙ t ∙ e_number)))

  -- the file of the number
  one : (y : MadeFile) → In y s.made → y.ino ≡ n → y ≡ x
  one y i same = one_keyed (λ (z : MadeFile). z.ino) (s.made ++ s.cleared) y x m.made.once (In-left y s.made s.cleared i) (In-left x s.made s.cleared own.0) (same ∙ sym number)

  slot_same : (y : MadeFile) → In y s.made → (y.ino ≡ n → ⊥) → slot_of every_number (slot_bytes y.slot (page_in then'.parcel y.page)) ≡ slot_of every_number (slot_bytes y.slot (page_in s.parcel y.page))
  slot_same y i d = elim (at_slot_or y num slot) [
    | inr apart ↦
        ap (slot_of every_number) (slot_bytes-else s.parcel then'.parcel num slot y.page y.slot (front_edits desk s dir num slot (entry_bytes now) made' s.cleared m a.opens a.block a.slot short) apart)
    | inl here ↦
        let b = m.made.slots y i in
        let was : Entry b.entry ≡ Entry e = sym b.says ∙ ap (λ k. slot_of every_number (slot_bytes k (page_in s.parcel y.page))) here.slot ∙ ap (λ k. slot_of every_number (slot_bytes slot (page_in s.parcel k))) here.page ∙ a.says in
        let same : b.entry ≡ e = cc was in
        absurd (d (sym b.number ∙ ap (λ (z : EntryPart). z.ino) same ∙ e_number))
  ]

  dir_differs : (d : ℕ) → open_kind s d ≡ Some Directory → d ≡ n → ⊥
  dir_differs d o same = search (arith, q)

  open_still : (d : ℕ) → open_kind s d ≡ Some Directory → open_kind then' d ≡ Some Directory
  open_still d o = open_else s then' writes d (found_else d (dir_differs d o)) ∙ o

  chain_still : (d : ℕ) → open_kind s d ≡ Some Directory → chain_in then' d ≡ chain_in s d
  chain_still d o = chain_else s then' writes d (found_else d (dir_differs d o))

  slots_then : (y : MadeFile) → In y then'.made → IsInSlot then' y
  slots_then y i = (let z = map-In (turned_made a.entry.ino kind) y s.made i in from z.0 z.1 z.2)
    where
      from : (z : MadeFile) → In z s.made → y ≡ turned_made a.entry.ino kind z → IsInSlot then' y
      from z j is = elim (cases_eq z.ino n) [
        | inr d ↦
            let b = m.made.slots z j in
            subst (IsInSlot then') (sym (is ∙ turned-other a.entry.ino kind z (λ t. d (t ∙ e_number))))
            (record {
              directory = b.directory;
              opens = open_still b.directory b.opens;
              block = subst (λ (c : Chain). In z.page c.blocks) (sym (chain_still b.directory b.opens)) b.block;
              slot = b.slot;
              entry = b.entry;
              says = slot_same z j d ∙ b.says;
              number = b.number;
              kind = b.kind;
            })
        | inl same ↦
            subst (IsInSlot then') (sym (is ∙ ap (turned_made a.entry.ino kind) (one z j same) ∙ turned-here a.entry.ino kind x (sym a.number)))
            (record {
              directory = a.directory;
              opens = open_still a.directory a.opens;
              block = subst (λ (c : Chain). In x.page c.blocks) (sym (chain_still a.directory a.opens)) a.block;
              slot = a.slot;
              entry = now;
              says = says_now;
              number = a.number;
              kind = refl;
            })
      ]

  body_here : made_body then' (record x { kind = kind }) ≡ made_body s x
  body_here = body_same x own.0

  opens_then : (k : ℕ) (kind' : Kind) → open_kind then' k ≡ Some kind' → IsAsBefore s then' k kind' ⊎ (IsNewFile desk then' k kind' ⊎ IsTurned desk s then' k kind')
  opens_then k kind' o = elim (cases_eq k n) [
    | inr d ↦
        inl (record {
          opens = sym (open_else s then' writes k (found_else k d)) ∙ o;
          chain = chain_else s then' writes k (found_else k d);
          body = body_else s then' writes k (found_else k d) (λ y found. body_same y (made_at s k y found).0);
        })
    | inl same ↦ inr (inr (subst (λ j. IsTurned desk s then' j kind') (sym same) (turned (ap (open_kind then') (sym same) ∙ o))))
  ]
    where
      open_then : open_kind then' n ≡ Some kind
      open_then = search (arith, found_here)

      body_was : body_in s n ≡ made_body s x
      body_was = search (arith, q.found)

      body_is : body_in then' n ≡ made_body s x
      body_is = search (arith, found_here, body_here)

      turned : open_kind then' n ≡ Some kind' → IsTurned desk s then' n kind'
      turned o' =
          let both : Some kind ≡ Some kind' = sym open_then ∙ o' in
          let same : kind ≡ kind' = cc both in
          record {
            was = x.kind;
            opens = search (arith, q.found);
            chain = search (arith, q.found, found_here);
            body = body_is ∙ sym body_was;
            fits = λ b is.
                ap (λ z. body_of z desk.sizes.range (body_in s n)) (sym same) ∙ ap (body_of kind desk.sizes.range) body_was
                ∙ q.fits b (ap (body_of x.kind desk.sizes.range) (sym body_was) ∙ is);
          }

  chains_same : map (λ (y : MadeFile). y.chain) (map (turned_made a.entry.ino kind) s.made) ≡ map (λ (y : MadeFile). y.chain) s.made
  chains_same = map-map (λ (y : MadeFile). y.chain) (turned_made a.entry.ino kind) s.made ∙ map_alike (λ y. (turned_made a.entry.ino kind y).chain) (λ (y : MadeFile). y.chain) s.made (turned-chain a.entry.ino kind)

  numbers_same : map (λ (y : MadeFile). y.ino) (map (turned_made a.entry.ino kind) s.made) ≡ map (λ (y : MadeFile). y.ino) s.made
  numbers_same = map-map (λ (y : MadeFile). y.ino) (turned_made a.entry.ino kind) s.made ∙ map_alike (λ y. (turned_made a.entry.ino kind y).ino) (λ (y : MadeFile). y.ino) s.made (turned-ino a.entry.ino kind)

  pub chained_turned : chained then' ≡ chained s
  chained_turned = ap (λ cs. flat_map (λ (c : Chain). c.index ++ c.blocks) (s.chains ++ cs)) chains_same

  used_turned : map (λ (y : MadeFile). y.ino) (then'.made ++ s.cleared) ≡ map (λ (y : MadeFile). y.ino) (s.made ++ s.cleared)
  used_turned =
      map-append (λ (y : MadeFile). y.ino) then'.made s.cleared ∙ ap (λ l. l ++ map (λ (y : MadeFile). y.ino) s.cleared) numbers_same
      ∙ sym (map-append (λ (y : MadeFile). y.ino) s.made s.cleared)

  edits_dirs : EditsDirs desk s then'
  edits_dirs = record {
    writes = writes;
    opens = opens_then;
    own = λ k i. subst (λ l. In k l) chained_turned i;
    once = ap (are_new []) chained_turned ∙ m.once;
    numbers = λ y i. (let z = map-In (turned_made a.entry.ino kind) y s.made i in
        subst (λ k. In k (ino_numbers s.parcel.inodes)) (sym (ap (λ (u : MadeFile). u.ino) z.2 ∙ turned-ino a.entry.ino kind z.0)) (m.made.numbers z.0 z.1));
    gone = m.made.gone;
    made_once = ap (are_new []) used_turned ∙ m.made.once;
    apart = λ y i. (let z = map-In (turned_made a.entry.ino kind) y s.made i in
        unlent_still s then' writes y.ino (subst (IsUnlent s) (sym (ap (λ (u : MadeFile). u.ino) z.2 ∙ turned-ino a.entry.ino kind z.0)) (m.made.apart z.0 z.1)));
    slots = slots_then;
  }

  others : OthersStay s then' n
  others = record {
    made = λ y i d. (let z = map-In (turned_made a.entry.ino kind) y s.made i in
        let differ : z.0.ino ≡ a.entry.ino → ⊥ = λ t. d (ap (λ (u : MadeFile). u.ino) z.2 ∙ turned-ino a.entry.ino kind z.0 ∙ t ∙ e_number) in
        let is : y ≡ z.0 = z.2 ∙ turned-other a.entry.ino kind z.0 differ in
        subst (λ (u : MadeFile). In u s.made × (made_body then' u ≡ made_body s u)) (sym is) (z.1, body_same z.0 z.1));
    found = found_else;
  }

  -- ---- what is shown

  module _ (nodes nodes' : Nodes) (rows : List (Option Row)) (v : IsView desk (in_hand s) (in_hand then') nodes nodes' rows) where
    abbrev w : SlotWrite
    w = write_of desk s then' dir num slot new m writes a.opens slot_then nodes nodes' rows v

    says_before : slot_of desk.sizes.inodes (slot_bytes x.slot (page_in s.parcel x.page)) ≡ Entry a.entry
    says_before = sym (slot_wide desk s dir (in_hand then') nodes nodes' rows m v a.opens num slot a.block a.slot) ∙ a.says

    are : AreSlotWrites desk (in_hand s) (in_hand then') (write_of desk s then' dir num slot new m writes a.opens slot_then nodes nodes' rows v ∷ [])
    are = slot_writes desk s then' dir num slot new m writes a.opens slot_then nodes nodes' rows v refl

    abbrev entries : List Listed
    entries = (r desk s dir (in_hand then') nodes nodes' rows m v a.opens).file.entries

    was_listed : In (listed_on s num slot e) entries
    was_listed = listed desk s dir (in_hand then') nodes nodes' rows m v a.opens num slot e a.block a.slot a.says

    alone : (l : Listed) → In l entries → (l.entry.ino ≡ e.ino → ⊥) → l.entry.name ≡ e.name → ⊥
    alone l i differ same =
        let lists_all = lists desk s dir (in_hand then') nodes nodes' rows m v a.opens in
        let y = lists_all.each l i in
        let z = lists_all.each (listed_on s num slot e) was_listed in
        differ (v.shows.tree.names l.entry.ino e.ino y.0 z.0 y.1 z.1 (y.2 ∙ sym z.2) (y.3 ∙ same ∙ sym z.3))

    body_then : (b : Body) → body_of x.kind desk.sizes.range (made_body s x) ≡ Some b → body_of kind desk.sizes.range (body_in_slot 0 new) ≡ Some (body_at (body_in_slot 0 new))
    body_then b is =
        ap (body_of kind desk.sizes.range) body_new ∙ q.fits b is ∙ ap Some (sym (body_stands x.kind desk.sizes.range (made_body s x) b is)) ∙ ap (λ l. Some (body_at l)) (sym body_new)

    has_body : (b : Body) × (body_of x.kind desk.sizes.range (made_body s x) ≡ Some b)
    has_body =
        let o : open_kind s n ≡ Some x.kind = search (arith, q.found) in
        let body_was : body_in s n ≡ made_body s x = search (arith, q.found) in
        let c = m.chains n x.kind o in
        (c.body, ap (body_of x.kind desk.sizes.range) (sym body_was) ∙ c.is)

    made_number : In a.entry.ino (ino_numbers s.parcel.inodes)
    made_number = subst (λ k. In k (ino_numbers s.parcel.inodes)) (sym a.number) (m.made.numbers x own.0)

    is_rekind : IsRekind desk (in_hand s) (in_hand then') (write_of desk s then' dir num slot new m writes a.opens slot_then nodes nodes' rows v) e now
    is_rekind = record {
      writes = are;
      before = says_before;
      after = says_of desk.sizes.inodes (fits_from desk.sizes.inodes (slot_bytes x.slot page) e says_before);
      number = refl;
      name = refl;
      plain = ap is_directory a.kind ∙ q.plain;
      plain_now = q.plain_now;
      made = made_number;
      body = body_new;
      body_is = body_then has_body.0 has_body.1;
      alone = alone;
    }

    listed_then : IsListedThen desk s then' n nodes (Some (naming_after (write_of desk s then' dir num slot new m writes a.opens slot_then nodes nodes' rows v) now))
    listed_then = record {
      mine = λ y i same.
          let z = map-In (turned_made a.entry.ino kind) y s.made i in
          let is : y ≡ record x { kind = kind } =
          z.2 ∙ ap (turned_made a.entry.ino kind) (one z.0 z.1 (sym (turned-ino a.entry.ino kind z.0) ∙ ap (λ (u : MadeFile). u.ino) (sym z.2) ∙ same)) ∙ turned-here a.entry.ino kind x (sym a.number) in
          let as_met : ℕ → List ℕ → Met = λ k l. record { ino = k; kind = kind; parent = w.directory.ino; page = num; slot = slot; body = l } in
          (w.directory.ino, (subst (λ k. In k (ino_numbers s.parcel.inodes)) number (m.made.numbers x own.0), ap (made_met then' w.directory.ino) is ∙ ap (as_met x.ino) (body_here ∙ sym body_new) ∙ ap (λ k. as_met k (body_in_slot 0 new)) (sym a.number)));
      made = λ y is. ap (λ (z : Met). is_some (made_file then' z.ino)) is.1 ∙ ap (λ k. is_some (made_file then' k)) e_number ∙ ap is_some found_here;
      rights = search (arith, named_so, made_number);
    }

    turns : StaysTree desk s then' (with_changed a.entry.ino (rekinded kind)) → Turns desk s then' n nodes nodes' rows (with_changed a.entry.ino (rekinded kind))
    turns tree = record {
      rewrites = record {
        writes = w ∷ [];
        now = Some (naming_after w now);
        are = are;
        after = subst (λ k. IsAfter desk (in_hand s) (in_hand then') (w ∷ []) k (Some (naming_after w now))) e_number (after_rekind desk (in_hand s) (in_hand then') w e now nodes nodes' rows is_rekind v (tree nodes nodes' rows v.shows));
        listed = listed_then;
      };
      shows = (law desk (in_hand s) (in_hand then') w e now m.order is_rekind tree).shows nodes nodes' rows v.shows;
    }

  abbrev change : Nodes → Nodes
  change = with_changed a.entry.ino (rekinded kind)

  -- the nodes are one tree still
  tree_then : StaysTree desk s then' (with_changed a.entry.ino (rekinded kind))
  tree_then nodes nodes' rows may =
      let v : IsView desk (in_hand s) (in_hand then') nodes nodes' rows = record { order = m.order; more = takes_more desk s then' m (hand_stays s then' writes); shows = may } in
      let o : open_kind s n ≡ Some x.kind = search (arith, q.found) in
      by (node_at nodes' n) refl (open_rights desk s n x.kind (in_hand then') nodes nodes' rows m v o)
    where
      by : (z : Option Node) → node_at nodes' n ≡ z → HasRights (rights_in x.kind (body_in s n)) z → IsTree (change nodes')
      by None there rights = (let wrong : None ≡ Some (rights_in x.kind (body_in s n)) = rights in absurd (cc wrong))
      by (Some y) there rights =
          let both : Some (rights_of y) ≡ Some (rights_in x.kind (body_in s n)) = rights in
          let same : rights_of y ≡ rights_in x.kind (body_in s n) = cc both in
          let here : node_at nodes' a.entry.ino ≡ Some y = ap (node_at nodes') e_number ∙ there in
          let plain : is_directory y.kind ≡ false = ap (λ (g : Rights). is_directory g.kind) same ∙ q.plain in
          subst (λ z. IsTree (with_node nodes' a.entry.ino z)) (sym (ap (option_map (rekinded kind)) here)) (tree_turned nodes' may.tree a.entry.ino y (rekinded kind y) here plain refl refl)

  -- the session with the entry turned, and the nodes with the file of that kind
  pub turn_changes : Changes desk s (turned_session x.page x.slot (record q.slot.entry { kind = kind }) s) (with_changed n (rekinded kind))
  turn_changes =
      subst (λ k. Changes desk s then' (with_changed k (rekinded kind))) e_number
      (changes_by desk s then' n change m edits_dirs others (λ nodes nodes' rows v. turns nodes nodes' rows v tree_then) tree_then)
