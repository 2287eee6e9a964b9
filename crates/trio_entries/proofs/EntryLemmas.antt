-- What the entry of a judged directory tells, by its slot.
use Rattle.trio_entries.proofs.Words.{◌&&◌, ◌∙◌, ◌≡◌, ◌≤◌, Bad, Bool, Case, Empty, Entry, EntryData, EntryPart, IsReadable, List, ListedEntry, Listing, None, Notes, Option, Regular, Row, [], and_parts, ap, arith, bytes_eq, cond, entry_at, entry_fits, entry_guard, entry_name, entry_size, false, get_or, is_untold, length, noted_name, option_map, option_map_or, refl, row_after, slot_bytes, sym, take, told_entry, told_row, true, ℕ}
use Rattle.std.proofs.Common.{◌==◌, not}
use Rattle.std.specs.Prelude.{slice_index}
use Rattle.std.proofs.lemmas.List.{get_or-take}
use Rattle.trio_names.proofs.NameFacts.{name_facts}
use Rattle.trio_layout.specs.Slot.{entry_bytes, slot_of}
use Rattle.trio_layout.proofs.Reading.{bytes_eq-true}
use Rattle.trio_layout.proofs.SlotLemmas.{entry_facts}
use Rattle.trio_state.specs.Listed.{entry_slot, is_handed}
use Rattle.trio_entries.proofs.FileLemmas.{entry_is}

-- what stands past the end of a list of entries
abbrev pub no_entry : EntryData
no_entry = record { ino = 0; kind = Regular; dir = 0; page = 0; slot = 0; kept = false }

-- its name is that of the entry
pub part_named : (c : Case) (e : ListedEntry) (slot : List ℕ) (part : EntryPart) → slot ≡ entry_slot c e → Entry part ≡ slot_of c.inodes slot → part.name ≡ entry_name c e
part_named c e slot part is says =
    ap (λ (p : EntryPart). p.name) (entry_is c.inodes (entry_slot c e) part (ap (slot_of c.inodes) (sym is) ∙ sym says))

-- the sixth byte of an entry is the length of its name
named_by_byte : (e : EntryPart) → get_or (entry_bytes e) 5 0 ≡ length e.name
unfolding entry_bytes
named_by_byte e = refl

-- the slot of an entry says a length that a name may have
name_short : (inodes : ℕ) (bytes : List ℕ) (e : EntryPart) → slot_of inodes bytes ≡ Entry e → slice_index bytes 5 ≤ 184
unfolding slot_of
name_short inodes bytes e h =
    let x = entry_at bytes in
    let both = and_parts (bytes_eq (take 192 bytes) (entry_bytes x)) (entry_fits inodes x) (by (x.ino == 0) (bytes_eq (take 192 bytes) (entry_bytes x) && entry_fits inodes x) h) in
    let short = (name_facts x.name (entry_facts inodes x.ino x.name both.1).name_is).short in
    let says : get_or bytes 5 0 ≡ length x.name = sym (get_or-take 192 bytes 5 0 (omega arith)) ∙ ap (λ (l : List ℕ). get_or l 5 0) (bytes_eq-true (take 192 bytes) (entry_bytes x) both.0) ∙ named_by_byte x in
    omega (arith, short, says)
  where
    by : (a b : Bool) → cond a Empty (cond b (Entry (entry_at bytes)) Bad) ≡ Entry e → b ≡ true
    by true b h = absurd cc
    by false true h = refl
    by false false h = absurd cc

-- so does the slot of an entry that can be read
pub name_within : (c : Case) (e : ListedEntry) (slot : List ℕ) → slot ≡ entry_slot c e → IsReadable c e → slice_index slot 5 ≤ 184
name_within c e slot is r =
    let there : slot ≡ slot_bytes e.slot r.bytes = is ∙ ap (λ (o : Option (List ℕ)). option_map_or (slot_bytes e.slot) o []) r.here in
    name_short c.inodes slot r.part (ap (slot_of c.inodes) there ∙ r.says)

-- whether an entry is untold is known by the name in its slot
pub untold_by_slot : (c : Case) (notes : Notes) (e : ListedEntry) (slot name : List ℕ) → slot ≡ entry_slot c e → name ≡ (entry_at slot).name → (e.kept && not (is_handed c.bundle e.ino) && bytes_eq (noted_name notes e.ino) name) ≡ is_untold c notes e
untold_by_slot c notes e slot name is named =
    ap (λ n. e.kept && not (is_handed c.bundle e.ino) && bytes_eq (noted_name notes e.ino) n) (named ∙ ap (λ s. (entry_at s).name) is)

pub tells_none : (c : Case) (l : Listing) (notes : Notes) (e : ListedEntry) → is_untold c notes e ≡ true → None ≡ told_entry c l notes e
tells_none c l notes e untold =
    sym (ap (λ t. cond t None (option_map (told_row c.bundle e.ino false (entry_name c e) (entry_size c notes e) (entry_guard c notes e)) (row_after l c.rows e.ino))) untold)

pub tells_row : (c : Case) (l : Listing) (notes : Notes) (e : ListedEntry) (name : List ℕ) (size : ℕ) (guarded : Bool) (o : Option Row) → name ≡ entry_name c e → is_untold c notes e ≡ false → size ≡ entry_size c notes e → guarded ≡ entry_guard c notes e → o ≡ row_after l c.rows e.ino → option_map (told_row c.bundle e.ino false name size guarded) o ≡ told_entry c l notes e
tells_row c l notes e name size guarded o named told sized guards is =
    ap (λ n. option_map (told_row c.bundle e.ino false n size guarded) o) named
    ∙ ap (λ n. option_map (told_row c.bundle e.ino false (entry_name c e) n guarded) o) sized
    ∙ ap (λ g. option_map (told_row c.bundle e.ino false (entry_name c e) (entry_size c notes e) g) o) guards
    ∙ ap (option_map (told_row c.bundle e.ino false (entry_name c e) (entry_size c notes e) (entry_guard c notes e))) is
    ∙ sym (ap (λ t. cond t None (option_map (told_row c.bundle e.ino false (entry_name c e) (entry_size c notes e) (entry_guard c notes e)) (row_after l c.rows e.ino))) told)
