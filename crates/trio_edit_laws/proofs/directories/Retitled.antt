-- An entry of a directory gets another name.
use Rattle.trio_edit_laws.proofs.Words.{◌&&◌, ◌*◌, ◌∙◌, ◌∷◌, ◌≡◌, ◌≤◌, AreSlotWrites, Chain, Changes, DeskSeen, Directory, Entry, EntryPart, HasRights, HasSlot, In, IsEntry, IsInSlot, IsView, LeavesFiles, List, MadeFile, MayEdit, Met, Nodes, None, Option, Place, Row, SessionSeen, SlotWrite, Some, StaysTree, [], and_from, and_parts, ap, arith, body-else, body_in_slot, chain_in, entry_bytes, entry_fits, entry_in, entry_shown, entry_value, every_number, in_hand, inl, ino_numbers, inr, is_name, is_some, leb, length, length-entry_bytes, ltb, made_body, made_file, naming_after, node_at, open_kind, page_in, place_shown, refl, rights_in, slot_bytes, slot_bytes-else, slot_of, subst, sym, true, with_changed, with_part, ℕ}
use Rattle.trio_edit_laws.specs.session.SlotEdits.{IsRetitle, retitled as node_retitled}
use Rattle.trio_edit_laws.proofs.session.FilesRenamed.{after_retitle, retitle_shows as law}
use Rattle.trio_session.specs.Layout.{retitled}
use Rattle.trio_session.specs.Seen.{retitle}
use Rattle.trio_session.proofs.SlotBytes.{entry-retitled}
use Rattle.trio_session.proofs.SlotEdits.{body-retitled}
use Rattle.trio_edit_laws.specs.DirLaws.{LeavesRetitled, RetitleLeaves, RetitleShows}
use Rattle.trio_edit_laws.proofs.Keeps.{made_at}
use Rattle.trio_edit_laws.proofs.directories.After.{IsListedThen, OthersStay}
use Rattle.trio_edit_laws.proofs.directories.Changes.{Turns, changes_by}
use Rattle.trio_edit_laws.proofs.directories.Fronts.{at_slot_or, fits_from, front_body, front_edits, front_is, front_new, front_slot, front_then, front_whole, front_writes, made_slot}
use Rattle.trio_edit_laws.proofs.directories.Leaves.{block_at, blocks_edited, has_slot, leaves_files, spare_same}
use Rattle.trio_edit_laws.proofs.directories.Places.{IsNamedPlace, free_name, named_place}
use Rattle.trio_edit_laws.proofs.directories.Sees.{entry_made, listed, listed_on, r, slot_wide}
use Rattle.trio_edit_laws.proofs.directories.Stays.{EditsDirs, WritesDirs, body_else, chain_else, open_else, unlent_still}
use Rattle.trio_edit_laws.proofs.directories.Writes.{WritesSlot, write_of, slot_writes}
use Rattle.trio_edit_laws.proofs.session.SlotCases.{named_so}

-- what a retitle is given
pub record RetitleNeeds (desk : DeskSeen) (s : SessionSeen) (dir' : ℕ) (place' : Place) (e' : EntryPart) (old' new' : List ℕ) : Type 0 where
  pub may : MayEdit desk s
  pub opens : open_kind s dir' ≡ Some Directory
  pub found : place_shown s dir' old' ≡ Some place'
  pub shown : entry_shown s dir' place' ≡ Some e'
  pub free : place_shown s dir' new' ≡ None
  pub name : is_name new' ≡ true

module _ (desk : DeskSeen) (s : SessionSeen) (dir : ℕ) (place : Place) (e : EntryPart) (old name : List ℕ) (q : RetitleNeeds desk s dir place e old name) where
  abbrev m : MayEdit desk s
  m = q.may

  p : IsNamedPlace s dir q.opens place e old
  p = named_place s dir q.opens place e old q.found q.shown

  abbrev num : ℕ
  num = p.there.number

  abbrev slot : ℕ
  slot = place.slot

  abbrev now : EntryPart
  now = record e { name = name }

  abbrev page : List ℕ
  page = page_in s.parcel p.there.number

  -- the session then
  abbrev then' : SessionSeen
  then' = record s { parcel = retitled p.there.number place.slot (record e { name = name }) s.parcel }

  retitle_is : retitle dir old name s ≡ record s { parcel = retitled p.there.number place.slot (record e { name = name }) s.parcel }
  unfolding retitle
  retitle_is = search (arith, p)

  -- ---- the slot

  -- the entry fits with the other name
  fits_named : (inodes : ℕ) → entry_fits inodes e ≡ true → entry_fits inodes (record e { name = name }) ≡ true
  fits_named inodes f = and_from (ltb 0 e.ino && leb e.ino inodes) (is_name name) (and_parts (ltb 0 e.ino && leb e.ino inodes) (is_name e.name) f).0 q.name

  fits : entry_fits every_number (record e { name = name }) ≡ true
  fits = fits_named every_number (fits_from every_number (slot_bytes slot page) e p.says)

  short : length (entry_bytes (record e { name = name })) ≤ 256
  short = omega (arith, length-entry_bytes now fits)

  abbrev new : List ℕ
  new = front_new desk s dir num slot (entry_bytes now) s.made s.cleared m q.opens p.there.block p.there.slot short

  abbrev writes : WritesDirs s then'
  writes = front_writes desk s dir num slot (entry_bytes now) s.made s.cleared m q.opens p.there.block p.there.slot short

  slot_then : WritesSlot s then' dir p.there.number place.slot (front_new desk s dir num slot (entry_bytes now) s.made s.cleared m q.opens p.there.block p.there.slot short)
  slot_then = front_slot desk s dir num slot (entry_bytes now) s.made s.cleared m q.opens p.there.block p.there.slot short

  whole : length (page_in s.parcel p.there.number) ≡ 4096
  whole = (front_whole desk s dir num slot (entry_bytes now) s.made s.cleared m q.opens p.there.block p.there.slot short).whole

  entry_is : IsEntry every_number (slot_bytes slot (with_part (256 * slot) (entry_bytes now) page)) now
  entry_is = entry-retitled now page slot whole p.there.slot fits

  says_of : (inodes : ℕ) → entry_fits inodes (record e { name = name }) ≡ true → slot_of inodes new ≡ Entry now
  says_of inodes f = search (arith, front_is, p, short, entry_value, entry_is, fits)

  says_now : slot_of every_number (slot_bytes slot (page_in then'.parcel p.there.number)) ≡ Entry now
  says_now = ap (slot_of every_number) (front_then desk s dir num slot (entry_bytes now) s.made s.cleared m q.opens p.there.block p.there.slot short) ∙ says_of every_number fits

  body_kept : body_in_slot slot (page_in then'.parcel p.there.number) ≡ body_in_slot slot (page_in s.parcel p.there.number)
  body_kept =
      body-retitled s.parcel num slot now (front_whole desk s dir num slot (entry_bytes now) s.made s.cleared m q.opens p.there.block p.there.slot short) p.there.slot fits

  body_new : body_in_slot 0 new ≡ body_in_slot slot page
  body_new = front_body desk s dir num slot (entry_bytes now) s.made s.cleared m q.opens p.there.block p.there.slot short ∙ body_kept

  -- ---- files that were made

  body_same : (y : MadeFile) → In y s.made → made_body then' y ≡ made_body s y
  body_same y i = elim (at_slot_or y num place.slot) [
    | inr apart ↦
        body-else s.parcel then'.parcel num slot y.page y.slot (front_edits desk s dir num slot (entry_bytes now) s.made s.cleared m q.opens p.there.block p.there.slot short) apart
    | inl here ↦ search (arith, body_kept)
  ]

  slots_then : (y : MadeFile) → In y s.made → IsInSlot then' y
  slots_then y i =
      let a = m.made.slots y i in
      let opens : open_kind then' a.directory ≡ Some Directory = open_else s then' writes a.directory refl ∙ a.opens in
      let block : In y.page (chain_in then' a.directory).blocks = subst (λ (c : Chain). In y.page c.blocks) (sym (chain_else s then' writes a.directory refl)) a.block in
      elim (at_slot_or y num place.slot) [
        | inr apart ↦ record {
          directory = a.directory;
          opens = opens;
          block = block;
          slot = a.slot;
          entry = a.entry;
          says =
              ap (slot_of every_number) (slot_bytes-else s.parcel then'.parcel num slot y.page y.slot (front_edits desk s dir num slot (entry_bytes now) s.made s.cleared m q.opens p.there.block p.there.slot short) apart) ∙ a.says;
          number = a.number;
          kind = a.kind;
        }
        | inl here ↦
            let was : Entry a.entry ≡ Entry e = search (arith, p) in
            let same : a.entry ≡ e = cc was in
            record {
              directory = a.directory;
              opens = opens;
              block = block;
              slot = a.slot;
              entry = now;
              says = search (arith, says_now);
              number = ap (λ (z : EntryPart). z.ino) (sym same) ∙ a.number;
              kind = ap (λ (z : EntryPart). z.kind) (sym same) ∙ a.kind;
            }
      ]

  edits_dirs : EditsDirs desk s then'
  edits_dirs = record {
    writes = writes;
    opens = λ k kind o. inl (record {
      opens = sym (open_else s then' writes k refl) ∙ o;
      chain = chain_else s then' writes k refl;
      body = body_else s then' writes k refl (λ y found. body_same y (made_at s k y found).0);
    });
    own = λ k i. i;
    once = m.once;
    numbers = m.made.numbers;
    gone = m.made.gone;
    made_once = m.made.once;
    apart = λ y i. unlent_still s then' writes y.ino (m.made.apart y i);
    slots = slots_then;
  }

  others : OthersStay s then' e.ino
  others = record { made = λ y i d. (i, body_same y i); found = λ k d. refl }

  -- ---- what is shown

  module _ (nodes nodes' : Nodes) (rows : List (Option Row)) (v : IsView desk (in_hand s) (in_hand then') nodes nodes' rows) where
    abbrev w : SlotWrite
    w = write_of desk s then' dir num slot new m writes q.opens slot_then nodes nodes' rows v

    says_before : slot_of desk.sizes.inodes (slot_bytes place.slot (page_in s.parcel p.there.number)) ≡ Entry e
    says_before = sym (slot_wide desk s dir (in_hand then') nodes nodes' rows m v q.opens num slot p.there.block p.there.slot) ∙ p.says

    are : AreSlotWrites desk (in_hand s) (in_hand then') (write_of desk s then' dir num slot new m writes q.opens slot_then nodes nodes' rows v ∷ [])
    are = slot_writes desk s then' dir num slot new m writes q.opens slot_then nodes nodes' rows v refl

    is_retitle : IsRetitle desk (in_hand s) (in_hand then') (write_of desk s then' dir num slot new m writes q.opens slot_then nodes nodes' rows v) e now
    is_retitle = search (arith, are, says_before, says_of, fits_named, fits_from, body_new, free_name)

    was_listed : In (listed_on s num slot e) (r desk s dir (in_hand then') nodes nodes' rows m v q.opens).file.entries
    was_listed = listed desk s dir (in_hand then') nodes nodes' rows m v q.opens num slot e p.there.block p.there.slot p.says

    listed_then : IsListedThen desk s then' e.ino nodes (Some (naming_after (write_of desk s then' dir num slot new m writes q.opens slot_then nodes nodes' rows v) now))
    listed_then = record {
      mine = λ y i same.
          let at = made_slot desk s dir (in_hand then') nodes nodes' rows m v q.opens num slot e p.there.block p.there.slot p.says y i same in
          let as_met : List ℕ → Met = λ l. record { ino = e.ino; kind = e.kind; parent = w.directory.ino; page = num; slot = place.slot; body = l } in
          let moved_here : Met → Met = λ z. record z { parent = w.directory.ino } in
          let body_then : made_body then' y ≡ made_body s y = body_same y i in
          let with_body : List ℕ → Met = λ l. record { ino = y.ino; kind = y.kind; parent = w.directory.ino; page = y.page; slot = y.slot; body = l } in
          (w.directory.ino, (subst (λ k. In k (ino_numbers s.parcel.inodes)) same (m.made.numbers y i), ap with_body body_then ∙ ap moved_here at.1 ∙ ap as_met (sym body_new)));
      made = λ y is.
          ap (λ (z : Met). is_some (made_file s z.ino)) is.1 ∙ entry_made desk s dir (in_hand then') nodes nodes' rows m v q.opens (listed_on s num slot e) was_listed is.0;
      rights =
          λ g is old. named_so (naming_after w now) (λ z. (In z.listed.entry.ino (ino_numbers s.parcel.inodes) → ⊥) → HasRights (rights_in z.listed.entry.kind z.listed.body) (node_at nodes z.listed.entry.ino))
          (λ old'. subst (λ l. HasRights (rights_in e.kind l) (node_at nodes e.ino)) (sym body_new)
          (let x = r desk s dir (in_hand then') nodes nodes' rows m v q.opens in
          m.entries nodes rows x.is.met x.file (listed_on s num slot e) (v.more nodes rows v.shows.possible) x.is.judged x.reads was_listed old')) g is old;
    }

    turns : StaysTree desk s then' (with_changed e.ino (node_retitled name)) → Turns desk s then' e.ino nodes nodes' rows (with_changed e.ino (node_retitled name))
    turns tree = record {
      rewrites = record {
        writes = w ∷ [];
        now = Some (naming_after w now);
        are = are;
        after = after_retitle desk (in_hand s) (in_hand then') w e now nodes nodes' rows is_retitle v (tree nodes nodes' rows v.shows);
        listed = listed_then;
      };
      shows = (law desk (in_hand s) (in_hand then') w e now m.order is_retitle tree).shows nodes nodes' rows v.shows;
    }

  pub retitle_changes : StaysTree desk s (retitle dir old name s) (with_changed e.ino (node_retitled name))
      → Changes desk s (retitle dir old name s) (with_changed e.ino (node_retitled name))
  retitle_changes tree =
      let change : Nodes → Nodes = with_changed e.ino (node_retitled name) in
      let tree' : StaysTree desk s then' (with_changed e.ino (node_retitled name)) = subst (λ y. StaysTree desk s y change) retitle_is tree in
      subst (λ y. Changes desk s y change) (sym retitle_is)
      (changes_by desk s then' e.ino change m edits_dirs others (λ nodes nodes' rows v. turns nodes nodes' rows v tree') tree')

  -- ---- what is left

  left : LeavesFiles s then' (dir ∷ []) e.ino
  left = leaves_files desk s then' (dir ∷ []) e.ino m (record {
    writes = writes;
    found = λ k d. refl;
    bodies = λ y i d. body_same y i;
    within = search (arith, p);
  })

  slot_has : HasSlot s then' dir place (Some (record e { name = name }))
  slot_has =
      has_slot s then' dir place (Some now) q.opens (open_else s then' writes dir refl ∙ q.opens) (chain_else s then' writes dir refl)
      (blocks_edited s.parcel then'.parcel (chain_in s dir).blocks place.block num slot (Some now)
      (front_edits desk s dir num slot (entry_bytes now) s.made s.cleared m q.opens p.there.block p.there.slot short)
      (block_at desk s dir place m q.opens p.there) (ap entry_in says_now))

  pub retitle_left : LeavesRetitled s (retitle dir old name s) dir place (record e { name = name })
  retitle_left = search (arith, retitle_is, left, slot_has, spare_same)

pub retitle_shows : RetitleShows
retitle_shows desk s dir place e old new m open_dir found shown free is tree =
    retitle_changes desk s dir place e old new (record { may = m; opens = open_dir.directory; found = found; shown = shown; free = free; name = is }) tree

pub retitle_leaves : RetitleLeaves
retitle_leaves desk s dir place e old new m open_dir found shown free is =
    retitle_left desk s dir place e old new (record { may = m; opens = open_dir.directory; found = found; shown = shown; free = free; name = is })
