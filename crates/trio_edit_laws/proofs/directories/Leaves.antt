-- What an edit of slots of directories leaves of all other files, and of the slots of the directories themselves.
use Rattle.trio_edit_laws.proofs.Words.{◌*◌, ◌+◌, ◌∙◌, ◌∷◌, ◌≡◌, ◌≢◌, Chain, DeskSeen, Directory, EditsSlotIn, EntryPart, HasSlot, In, In-right, InoParts, Kind, LeavesFiles, List, MadeFile, MayEdit, None, Option, Parcel, Place, SessionSeen, Shown, Some, [], ap, arith, block_shown, block_shown-open, block_shown-read, chain_in, dir_pages, entry_in, entry_on, entry_shown, eqb, every_number, filter, filter-same, find, inl, ino_numbers, inr, is_among, kind_shown, made_body, made_file, map, not, open_kind, option_and_then, option_map_or, page_in, page_numbers, pages_shown, pages_shown-open, pages_shown-read, place_of, refl, slice_get-In, slice_set, slot_bytes, slot_of, slots_of, slots_shown, spare_numbers, subst, sym, used_numbers, ℕ}
use Rattle.std.specs.Prelude.{drop}
use Rattle.trio_laws.proofs.session.Starts.{among_alike}
use Rattle.trio_session.proofs.SlotEdits.{IsBlockAt, entry_of, entry_of-block, entry_of-else, slots_of-edited}
use Rattle.trio_edit_laws.proofs.Chained.{apart_from}
use Rattle.trio_edit_laws.proofs.Keeps.{made_at, place_of_open}
use Rattle.trio_edit_laws.proofs.Opens.{open_apart, open_once}
use Rattle.trio_edit_laws.proofs.directories.Places.{IsPlace}
use Rattle.trio_edit_laws.proofs.directories.Sees.{block_open, pages_open}
use Rattle.trio_edit_laws.proofs.directories.Slotted.{name_in-entry_in, name_of_part}
use Rattle.trio_edit_laws.proofs.directories.Stays.{WritesDirs, body_else, chain_else, open_else, reads_same}

-- the blocks of open files that differ have no page in common
pub blocks_differ : (desk : DeskSeen) (s : SessionSeen) (a b : ℕ) (k l : Kind) (n : ℕ) → MayEdit desk s → open_kind s a ≡ Some k → open_kind s b ≡ Some l → (a ≡ b → ⊥)
    → In n (chain_in s a).blocks → In n (chain_in s b).blocks → ⊥
blocks_differ desk s a b k l n m oa ob d i j =
    open_apart s a b n m.once (place_of_open desk s a k m oa) (place_of_open desk s b l m ob) d
    (In-right n (chain_in s a).index (chain_in s a).blocks i) (In-right n (chain_in s b).index (chain_in s b).blocks j)

-- pages that have the same bytes
mapped_alike : (f g : ℕ → List ℕ) (ns : List ℕ) → ((n : ℕ) → In n ns → g n ≡ f n) → map g ns ≡ map f ns
mapped_alike f g [] same = refl
mapped_alike f g (n ∷ ns) same = ap (λ l. l ∷ map g ns) (same n (inl refl)) ∙ ap (λ ls. f n ∷ ls) (mapped_alike f g ns (λ k i. same k (inr i)))

-- the pages that are written are blocks of these directories, and the other files are as they were
pub record EditsOnly (s s' : SessionSeen) (dirs : List ℕ) (ino : ℕ) : Type 0 where
  pub writes : WritesDirs s s'
  pub found : (n : ℕ) → n ≢ ino → made_file s' n ≡ made_file s n
  pub bodies : (x : MadeFile) → In x s.made → x.ino ≢ ino → made_body s' x ≡ made_body s x
  pub within :
      (n : ℕ) → In n writes.pages
      → (dir : ℕ) × In dir dirs × (open_kind s dir ≡ Some Directory) × In n (chain_in s dir).blocks

module _ (desk : DeskSeen) (s s' : SessionSeen) (dirs : List ℕ) (ino : ℕ) (m : MayEdit desk s) (e : EditsOnly s s' dirs ino) where
  opens_left : (n : ℕ) → n ≢ ino → open_kind s' n ≡ open_kind s n
  opens_left n d = open_else s s' e.writes n (e.found n d)

  chains_left : (n : ℕ) → n ≢ ino → chain_in s' n ≡ chain_in s n
  chains_left n d = chain_else s s' e.writes n (e.found n d)

  -- the pages of another file that is open
  page_left : (n : ℕ) (kind : Kind) (p : ℕ) → open_kind s n ≡ Some kind → (In n dirs → ⊥) → In p (chain_in s n).blocks → page_in s'.parcel p ≡ page_in s.parcel p
  page_left n kind p o out i =
      e.writes.touches.other p (λ t.
      let q = e.within p t in
      blocks_differ desk s n q.0 kind Directory p m o q.2 (λ same. out (subst (λ k. In k dirs) (sym same) q.1)) i q.3)

  pages_left : (n : ℕ) → n ≢ ino → (In n dirs → ⊥) → pages_shown s' n ≡ pages_shown s n
  pages_left n d out = by (open_kind s n) refl
    where
      by : (q : Option Kind) → open_kind s n ≡ q → pages_shown s' n ≡ pages_shown s n
      by (Some k) o =
          pages_shown-open s' n k (opens_left n d ∙ o)
          ∙ ap (λ (c : Chain). map (page_in s'.parcel) c.blocks) (chains_left n d)
          ∙ mapped_alike (page_in s.parcel) (page_in s'.parcel) (chain_in s n).blocks (λ p i. page_left n k p o out i)
          ∙ sym (pages_shown-open s n k o)
      by None o =
          pages_shown-read s' n (opens_left n d ∙ o)
          ∙ ap (λ (l : List Shown). option_map_or dir_pages (find (λ (f : Shown). eqb f.ino n) l) []) (reads_same s s' e.writes)
          ∙ sym (pages_shown-read s n o)

  blocks_left : (n k : ℕ) → n ≢ ino → (In n dirs → ⊥) → block_shown s' n k ≡ block_shown s n k
  blocks_left n k d out = search (arith, page_left, slice_get-In, block_shown-open, opens_left, chains_left, block_shown-read, reads_same)

  kinds_left : (n : ℕ) → n ≢ ino → kind_shown s' n ≡ kind_shown s n
  kinds_left n d = search (arith, opens_left, reads_same)

  pub leaves_files : LeavesFiles s s' dirs ino
  leaves_files = record {
    same = e.writes.same;
    opens = opens_left;
    chains = chains_left;
    bodies = λ n d. body_else s s' e.writes n (e.found n d) (λ y f. (let a = made_at s n y f in e.bodies y a.0 (λ same. d (sym a.1 ∙ same))));
    blocks = blocks_left;
    slots = λ n d out. ap (slots_of every_number) (pages_left n d out);
    places = λ n name d out.
        ap (λ k. place_of k (slots_shown s' n) name) (kinds_left n d) ∙ ap (λ ps. place_of (kind_shown s n) (slots_of every_number ps) name) (pages_left n d out);
    entries = λ n place d out. ap (option_and_then (λ bytes. entry_in (slot_of every_number (slot_bytes place.slot bytes)))) (blocks_left n place.block d out);
    pages = ap (λ k. drop k (page_numbers s'.parcel.pages)) (ap (λ (x : SessionSeen). x.placed) e.writes.same) ∙ ap (drop s.placed) e.writes.touches.fresh;
    inodes = e.writes.touches.inodes;
    holds = e.writes.touches.holds;
  }

-- ---- the slots of a directory

-- of the blocks of a directory one slot has this
pub record BlocksHave (b b' : Parcel) (blocks : List ℕ) (k slot : ℕ) (now : Option EntryPart) : Type 0 where
  pub slots : slots_of every_number (map (page_in b') blocks) ≡ slice_set (slots_of every_number (map (page_in b) blocks)) (16 * k + slot) (name_of_part now)
  pub entry : entry_of b' blocks k slot ≡ now
  pub others : (j i : ℕ) → (j ≡ k → i ≢ slot) → entry_of b' blocks j i ≡ entry_of b blocks j i

pub blocks_edited : (b b' : Parcel) (blocks : List ℕ) (k n slot : ℕ) (now : Option EntryPart) → EditsSlotIn b b' n slot → IsBlockAt blocks k n
    → entry_on (page_in b' n) slot ≡ now → BlocksHave b b' blocks k slot now
blocks_edited b b' blocks k n slot now edits is on = record {
  slots =
      slots_of-edited b b' blocks k n slot edits is
      ∙ ap (slice_set (slots_of every_number (map (page_in b) blocks)) (16 * k + slot)) (name_in-entry_in (slot_of every_number (slot_bytes slot (page_in b' n))) ∙ ap name_of_part on);
  entry = entry_of-block b' blocks k n slot is ∙ on;
  others = λ j i d. entry_of-else b b' blocks k n slot j i edits is d;
}

entry_alike : (b b' : Parcel) (blocks : List ℕ) (j i : ℕ) → ((n : ℕ) → In n blocks → page_in b' n ≡ page_in b n) → entry_of b' blocks j i ≡ entry_of b blocks j i
entry_alike b b' blocks j i same = search (arith, slice_get-In)

-- and still, where pages are written that are none of the blocks
pub blocks_after : (b between b' : Parcel) (blocks : List ℕ) (k slot : ℕ) (now : Option EntryPart) → BlocksHave b between blocks k slot now
    → ((n : ℕ) → In n blocks → page_in b' n ≡ page_in between n) → BlocksHave b b' blocks k slot now
blocks_after b between b' blocks k slot now h same = record {
  slots = ap (slots_of every_number) (mapped_alike (page_in between) (page_in b') blocks same) ∙ h.slots;
  entry = entry_alike between b' blocks k slot same ∙ h.entry;
  others = λ j i d. entry_alike between b' blocks j i same ∙ h.others j i d;
}

pub blocks_before : (b between b' : Parcel) (blocks : List ℕ) (k slot : ℕ) (now : Option EntryPart) → ((n : ℕ) → In n blocks → page_in between n ≡ page_in b n)
    → BlocksHave between b' blocks k slot now → BlocksHave b b' blocks k slot now
blocks_before b between b' blocks k slot now same h = record {
  slots = h.slots ∙ ap (λ ps. slice_set (slots_of every_number ps) (16 * k + slot) (name_of_part now)) (mapped_alike (page_in b) (page_in between) blocks same);
  entry = h.entry;
  others = λ j i d. h.others j i d ∙ entry_alike b between blocks j i same;
}

-- the place of a directory's block
pub block_at : (desk : DeskSeen) (s : SessionSeen) (dir : ℕ) (place : Place) → MayEdit desk s → open_kind s dir ≡ Some Directory → (p : IsPlace s dir place)
    → IsBlockAt (chain_in s dir).blocks place.block p.number
block_at desk s dir place m o p = record {
  once = (apart_from (chain_in s dir).index (chain_in s dir).blocks (open_once s dir m.once (place_of_open desk s dir Directory m o))).right;
  there = p.at;
}

pub has_slot : (s s' : SessionSeen) (dir : ℕ) (place : Place) (now : Option EntryPart) → open_kind s dir ≡ Some Directory → open_kind s' dir ≡ Some Directory
    → chain_in s' dir ≡ chain_in s dir
    → BlocksHave s.parcel s'.parcel (chain_in s dir).blocks place.block place.slot now → HasSlot s s' dir place now
has_slot s s' dir place now o o' chain h =
    let shown : (pl : Place) → entry_shown s dir pl ≡ entry_of s.parcel (chain_in s dir).blocks pl.block pl.slot =
    λ pl. ap (option_and_then (λ bytes. entry_in (slot_of every_number (slot_bytes pl.slot bytes)))) (block_open s dir o pl.block) in
    let shown' : (pl : Place) → entry_shown s' dir pl ≡ entry_of s'.parcel (chain_in s dir).blocks pl.block pl.slot = search (arith, block_open) in
    record {
      slots = search (arith, pages_open);
      entry = shown' place ∙ h.entry;
      others = λ other d. shown' other ∙ h.others other.block other.slot d ∙ sym (shown other);
    }

-- ---- numbers

-- the same numbers are used
pub spare_same : (s s' : SessionSeen) → s'.parcel.inodes ≡ s.parcel.inodes → ((n : ℕ) → In n (used_numbers s') → In n (used_numbers s))
    → ((n : ℕ) → In n (used_numbers s) → In n (used_numbers s')) → spare_numbers s' ≡ spare_numbers s
spare_same s s' inodes to from =
    ap (λ (l : List InoParts). filter (λ n. not (is_among n (used_numbers s'))) (ino_numbers l)) inodes
    ∙ filter-same (λ n. not (is_among n (used_numbers s'))) (λ n. not (is_among n (used_numbers s))) (ino_numbers s.parcel.inodes) (λ n i. ap not (among_alike n (used_numbers s') (used_numbers s) (to n) (from n)))
