-- The front of one slot of an open directory is written: a slot is cleared, or its entry gets another name.
use Rattle.trio_edit_laws.proofs.Words.{◌&&◌, ◌*◌, ◌<◌, ◌∙◌, ◌∷◌, ◌≡◌, ◌≢◌, ◌≤◌, ◌⊎◌, Bad, Bool, DeskSeen, Directory, EditsSlotIn, Empty, Entry, EntryPart, In, InHand, IsView, IsWhole, List, Listed, MadeFile, MayEdit, Naming, Nodes, Option, Row, SessionSeen, Some, [], ap, arith, body_in_slot, bytes_eq, case_as_stands, cases_eq, chain_in, cond, entry_bytes, entry_fits, eqb, every_number, in_hand, inl, inr, length, length-with_part, made_met, met_in, naming_of, open_kind, page_in, page_in-with_page_same, plain, refl, slot_bytes, some_one, subst, sym, take, true, with_part, with_part_in, ℕ}
use Rattle.trio_layout.specs.Slot.{entry_at, slot_of}
use Rattle.trio_session.proofs.SlotBytes.{IsInSlot}
use Rattle.trio_session.proofs.SlotEdits.{edits_with_part}
use Rattle.trio_edit_laws.proofs.Touches.{touches_page}
use Rattle.trio_edit_laws.proofs.directories.Sees.{listed, listed_on, r}
use Rattle.trio_edit_laws.proofs.directories.Stays.{IsDirBlock, WritesDirs}
use Rattle.trio_edit_laws.proofs.directories.Writes.{WritesSlot, block_whole, body-written_slot, length-slot_with_part, slot_bytes-written, slot_with_part, with_part-slot}
use Rattle.trio_edit_laws.proofs.session.Named.{entry_names, made_is_judged}

-- ---- entries

fits_by : (x e : EntryPart) (a b f : Bool) → cond a Empty (cond (b && f) (Entry x) Bad) ≡ Entry e → (f ≡ true) × (x ≡ e)
fits_by x e a b f h = search arith

-- an entry that a slot says fits
pub fits_from : (inodes : ℕ) (bytes : List ℕ) (e : EntryPart) → slot_of inodes bytes ≡ Entry e → entry_fits inodes e ≡ true
unfolding slot_of
fits_from inodes bytes e h =
    let x : EntryPart = entry_at bytes in
    let q = fits_by x e (eqb x.ino 0) (bytes_eq (take 192 bytes) (entry_bytes x)) (entry_fits inodes x) h in
    subst (λ y. entry_fits inodes y ≡ true) q.1 q.0

-- ---- the slot of a file that was made

-- the file of the number that a slot of an open directory names has just this slot, as long as nodes are possible
pub made_slot : (desk : DeskSeen) (s : SessionSeen) (dir : ℕ) (h' : InHand) (nodes nodes' : Nodes) (rows : List (Option Row)) → (m : MayEdit desk s)
    → (v : IsView desk (in_hand s) h' nodes nodes' rows) → (o : open_kind s dir ≡ Some Directory)
    → (n slot : ℕ) (e : EntryPart) → In n (chain_in s dir).blocks → slot < 16 → slot_of every_number (slot_bytes slot (page_in s.parcel n)) ≡ Entry e → (y : MadeFile)
    → In y s.made → y.ino ≡ e.ino
    → (d : ℕ) × (made_met s d y ≡ met_in plain (r desk s dir h' nodes nodes' rows m v o).is.met.ino (listed_on s n slot e))
made_slot desk s dir h' nodes nodes' rows m v o n slot e block lt says y i number =
    let x = r desk s dir h' nodes nodes' rows m v o in
    let l : Listed = listed_on s n slot e in
    let named = entry_names desk (in_hand s) h' nodes nodes' rows x.is.met x.file l v x.is.judged x.reads (listed desk s dir h' nodes nodes' rows m v o n slot e block lt says) in
    let j = m.made.judged nodes rows (v.more nodes rows v.shows.possible) y i in
    let g = (made_is_judged desk (in_hand s) h' nodes nodes' rows (made_met s j.directory y) v (m.made.numbers y i)).0 j.judged in
    let one : g.0 ≡ record { directory = x.is.met.ino; listed = l } =
    some_one (naming_of (case_as_stands desk (in_hand s)) y.ino) g.0 (record { directory = x.is.met.ino; listed = l }) g.1 (ap (naming_of (case_as_stands desk (in_hand s))) number ∙ named) in
    (j.directory, g.2 ∙ ap (λ (z : Naming). met_in plain z.directory z.listed) one)

-- a file that was made has this slot
pub record IsAtSlot (y : MadeFile) (n' slot' : ℕ) : Type 0 where
  pub page : y.page ≡ n'
  pub slot : y.slot ≡ slot'

pub at_slot_or : (y : MadeFile) (n slot : ℕ) → IsAtSlot y n slot ⊎ (y.page ≡ n → y.slot ≢ slot)
at_slot_or y n slot = search (arith, cases_eq)

-- ---- the front of a slot

-- the session with the front of a slot written, and these files made and cleared
abbrev pub front_written : ℕ → ℕ → List ℕ → List MadeFile → List MadeFile → SessionSeen → SessionSeen
front_written n slot part made' cleared' s = record s { parcel = with_part_in n (256 * slot) part s.parcel; made = made'; cleared = cleared' }

module _ (desk : DeskSeen) (s : SessionSeen) (dir n slot : ℕ) (part : List ℕ) (made' cleared' : List MadeFile) (m : MayEdit desk s) (o : open_kind s dir ≡ Some Directory)
    (block : In n (chain_in s dir).blocks) (lt : slot < 16) (short : length part ≤ 256) where
  abbrev pub front_new : List ℕ
  front_new = slot_with_part slot part (page_in s.parcel n)

  pub front_whole : IsWhole s.parcel n
  front_whole = block_whole desk s dir n m o block

  abbrev page : List ℕ
  page = page_in s.parcel n

  front_in : IsInSlot slot (256 * slot) part page
  front_in = record { whole = front_whole.whole; below = lt; from = omega arith; to = omega (arith, short) }

  pub front_edits : EditsSlotIn s.parcel (with_part_in n (256 * slot) part s.parcel) n slot
  front_edits = edits_with_part s.parcel n slot (256 * slot) part front_whole front_in

  abbrev pub front_writes : WritesDirs s (front_written n slot part made' cleared' s)
  front_writes = record {
    same = refl;
    pages = n ∷ [];
    touches =
        touches_page (λ k. In k (n ∷ [])) n (with_part (256 * slot) part page) s.parcel (inl refl)
        (length-with_part (256 * slot) part page (omega (arith, lt, short, front_whole.whole)) ∙ front_whole.whole);
    blocks = λ k i. elim i [
      | inl same ↦ subst (IsDirBlock s) (sym same) (record { directory = dir; opens = o; block = block })
      | inr none ↦ absurd none
    ];
  }

  pub front_sized : length (slot_with_part slot part (page_in s.parcel n)) ≡ 256
  front_sized = length-slot_with_part slot part page front_whole.whole lt short

  bytes_then : page_in (with_part_in n (256 * slot) part s.parcel) n ≡ with_part (256 * slot) part (page_in s.parcel n)
  bytes_then = page_in-with_page_same n (with_part (256 * slot) part page) s.parcel front_whole.hand

  pub front_slot : WritesSlot s (front_written n slot part made' cleared' s) dir n slot (slot_with_part slot part (page_in s.parcel n))
  front_slot = search (arith, front_sized, bytes_then, with_part-slot, front_whole)

  -- the slot's bytes then
  pub front_is : slot_bytes slot (with_part (256 * slot) part (page_in s.parcel n)) ≡ slot_with_part slot part (page_in s.parcel n)
  front_is = ap (slot_bytes slot) (with_part-slot slot part page front_whole.whole lt short) ∙ slot_bytes-written slot front_new page front_whole.whole lt front_sized

  pub front_then : slot_bytes slot (page_in (with_part_in n (256 * slot) part s.parcel) n) ≡ slot_with_part slot part (page_in s.parcel n)
  front_then = ap (slot_bytes slot) bytes_then ∙ front_is

  -- and its body
  pub front_body : body_in_slot 0 (slot_with_part slot part (page_in s.parcel n)) ≡ body_in_slot slot (page_in (with_part_in n (256 * slot) part s.parcel) n)
  front_body = search (arith, body-written_slot, front_whole, front_sized, with_part-slot, bytes_then)
