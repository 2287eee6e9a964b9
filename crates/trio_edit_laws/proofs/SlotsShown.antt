-- What an edit of one open file leaves of all others, and of what directories show.
use Rattle.trio_edit_laws.proofs.Words.{◌++◌, ◌<◌, ◌∙◌, ◌∷◌, ◌≡◌, ◌≢◌, Chain, DeskSeen, Directory, EntryPart, In, In-right, InoParts, Kind, List, MayEdit, None, Option, Place, Regular, SessionSeen, Shown, Some, [], ap, arith, block_shown-open, block_shown-read, chain_in, dir_pages, entry_in, entry_shown, eqb, every_number, filter, find, inl, ino_numbers, inr, is_among, map, name_in, open_kind, option_and_then, option_map, option_map_or, page_at, page_in, pages_shown-open, pages_shown-read, refl, slice_get, slice_get-In, slot_bytes, slot_of, slot_on, slots_of, slots_shown, spare_numbers, subst, sym, used_numbers, ℕ, Link}
use Rattle.std.specs.Prelude.{not}
use Rattle.trio_auxdir.specs.Slots.{slots_on}
use Rattle.trio_auxdir.proofs.PageSlots.{tabulated-same_below}
use Rattle.trio_edit_laws.specs.EditLaws.{LeavesOthers}
use Rattle.trio_edit_laws.proofs.Keeps.{IsEdit, body_else, chain_else, front_stays, made_at, made_numbers_now, open_now, other_untouched, page_stays}
use Rattle.trio_edit_laws.proofs.OpenChain.{plain_is_none}

-- pages whose slots say the same show the same slots
pub slots_on-same : (inodes : ℕ) (page page' : List ℕ) → ((t : ℕ) → t < 16 → slot_of inodes (slot_bytes t page') ≡ slot_of inodes (slot_bytes t page)) → slots_on inodes page' ≡ slots_on inodes page
unfolding slots_on
slots_on-same inodes page page' same = tabulated-same_below (slot_on inodes page) (slot_on inodes page') 16 (λ t lt. ap name_in (same t lt))

pub slots_of-same : (inodes : ℕ) (page page' : ℕ → List ℕ) (ns : List ℕ) → ((n : ℕ) → In n ns → slots_on inodes (page' n) ≡ slots_on inodes (page n)) → slots_of inodes (map page' ns) ≡ slots_of inodes (map page ns)
slots_of-same inodes page page' [] same = refl
slots_of-same inodes page page' (n ∷ ns) same =
    ap (λ l. l ++ slots_of inodes (map page' ns)) (same n (inl refl)) ∙ ap (λ l. slots_on inodes (page n) ++ l) (slots_of-same inodes page page' ns (λ k i. same k (inr i)))

module _ (desk : DeskSeen) (s s' : SessionSeen) (ino : ℕ) (kind : Kind) (m : MayEdit desk s) (o : open_kind s ino ≡ Some kind) (e : IsEdit desk s s' ino kind) where
  -- what the slots of another open file's pages say is as it was
  front_else : (d : ℕ) (k : Kind) (n : ℕ) → open_kind s d ≡ Some k → (d ≡ ino → ⊥) → In n (chain_in s d).blocks → (t : ℕ) → slot_of every_number (slot_bytes t (page_in s'.parcel n)) ≡ slot_of every_number (slot_bytes t (page_in s.parcel n))
  front_else d Directory n od differ i t = front_stays desk s s' ino kind m o e d n od i every_number t
  front_else d Regular n od differ i t =
      let j : In n ((chain_in s d).index ++ (chain_in s d).blocks) = In-right n (chain_in s d).index (chain_in s d).blocks i in
      ap (λ b. slot_of every_number (slot_bytes t b))
      (page_stays desk s s' ino kind m o e n (other_untouched desk s s' ino kind m o e d Regular n od differ j)
      (λ mf found same. plain_is_none desk s d Regular mf m od refl (made_at s ino mf found).0 (subst (λ k. In k ((chain_in s d).index ++ (chain_in s d).blocks)) same j)))
  front_else d Link n od differ i t =
      let j : In n ((chain_in s d).index ++ (chain_in s d).blocks) = In-right n (chain_in s d).index (chain_in s d).blocks i in
      ap (λ b. slot_of every_number (slot_bytes t b))
      (page_stays desk s s' ino kind m o e n (other_untouched desk s s' ino kind m o e d Link n od differ j)
      (λ mf found same. plain_is_none desk s d Link mf m od refl (made_at s ino mf found).0 (subst (λ k. In k ((chain_in s d).index ++ (chain_in s d).blocks)) same j)))

  -- a block of an open directory shows the slots that it showed
  pub block_slots : (d n : ℕ) → open_kind s d ≡ Some Directory → In n (chain_in s d).blocks → slots_on every_number (page_in s'.parcel n) ≡ slots_on every_number (page_in s.parcel n)
  block_slots d n od i = slots_on-same every_number (page_in s.parcel n) (page_in s'.parcel n) (λ t lt. front_stays desk s s' ino kind m o e d n od i every_number t)

  -- so every other file shows the slots that it showed
  pub slots_else : (d : ℕ) → d ≢ ino → slots_shown s' d ≡ slots_shown s d
  slots_else d differ = by (open_kind s d) refl
    where
      by : (q : Option Kind) → open_kind s d ≡ q → slots_shown s' d ≡ slots_shown s d
      by (Some k) od =
          ap (slots_of every_number) (pages_shown-open s' d k (open_now desk s s' ino kind m o e d ∙ od))
          ∙ ap (λ (c : Chain). slots_of every_number (map (page_in s'.parcel) c.blocks)) (chain_else desk s s' ino kind m o e d differ)
          ∙ slots_of-same every_number (page_in s.parcel) (page_in s'.parcel) (chain_in s d).blocks
          (λ n i. slots_on-same every_number (page_in s.parcel n) (page_in s'.parcel n) (λ t lt. front_else d k n od differ i t))
          ∙ sym (ap (slots_of every_number) (pages_shown-open s d k od))
      by None od =
          ap (slots_of every_number)
          (pages_shown-read s' d (open_now desk s s' ino kind m o e d ∙ od)
          ∙ ap (λ (l : List Shown). option_map_or dir_pages (find (λ (f : Shown). eqb f.ino d) l) []) e.anew.reads
          ∙ sym (pages_shown-read s d od))

  -- an entry of an open file whose chain has its block and whose slot says what it said
  pub entry_same : (d : ℕ) (k : Kind) (place : Place) → open_kind s d ≡ Some k → slice_get (chain_in s' d).blocks place.block ≡ slice_get (chain_in s d).blocks place.block
      → ((n : ℕ) → In n (chain_in s d).blocks → slot_of every_number (slot_bytes place.slot (page_in s'.parcel n)) ≡ slot_of every_number (slot_bytes place.slot (page_in s.parcel n)))
      → entry_shown s' d place ≡ entry_shown s d place
  entry_same d k place od there same =
      ap (option_and_then entry) (block_shown-open s' d k place.block (open_now desk s s' ino kind m o e d ∙ od) ∙ ap (option_map (page_in s'.parcel)) there)
      ∙ by (slice_get (chain_in s d).blocks place.block) refl
      ∙ sym (ap (option_and_then entry) (block_shown-open s d k place.block od))
    where
      entry : List ℕ → Option EntryPart
      entry bytes = entry_in (slot_of every_number (slot_bytes place.slot bytes))

      by : (q : Option ℕ) → slice_get (chain_in s d).blocks place.block ≡ q → option_and_then entry (option_map (page_in s'.parcel) q) ≡ option_and_then entry (option_map (page_in s.parcel) q)
      by None at = refl
      by (Some n) at = ap entry_in (same n (slice_get-In (chain_in s d).blocks place.block n at))

  pub entries_else : (d : ℕ) (place : Place) → d ≢ ino → entry_shown s' d place ≡ entry_shown s d place
  entries_else d place differ = by (open_kind s d) refl
    where
      by : (q : Option Kind) → open_kind s d ≡ q → entry_shown s' d place ≡ entry_shown s d place
      by (Some k) od =
          entry_same d k place od (ap (λ (c : Chain). slice_get c.blocks place.block) (chain_else desk s s' ino kind m o e d differ)) (λ n i. front_else d k n od differ i place.slot)
      by None od =
          ap (option_and_then (λ bytes. entry_in (slot_of every_number (slot_bytes place.slot bytes))))
          (block_shown-read s' d place.block (open_now desk s s' ino kind m o e d ∙ od)
          ∙ ap (λ (l : List Shown). option_and_then (λ (f : Shown). page_at f.blocks place.block) (find (λ (f : Shown). eqb f.ino d) l)) e.anew.reads
          ∙ sym (block_shown-read s d place.block od))

  -- the numbers that are spare are so still
  numbers_else : spare_numbers s' ≡ spare_numbers s
  numbers_else =
      ap (λ l. filter (λ n. not (is_among n l)) (ino_numbers s'.parcel.inodes)) (made_numbers_now desk s s' ino kind m o e)
      ∙ ap (λ (l : List InoParts). filter (λ n. not (is_among n (used_numbers s))) (ino_numbers l)) e.alters.inodes

  pub leaves_others : LeavesOthers s s' ino
  leaves_others = search (arith, open_now, chain_else, body_else, slots_else, entries_else, numbers_else)
