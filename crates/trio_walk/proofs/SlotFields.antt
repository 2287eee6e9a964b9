-- What stands at the places of a slot's fields.
use Rattle.trio_walk.proofs.Words.{◌&&◌, ◌++◌, ◌∙◌, ◌∷◌, ◌≡◌, Bad, Bool, Empty, Entry, EntryPart, IsSome, List, None, Option, Some, ap, arith, cond, entry_in, eqb, false, get_or, length, number_at, refl, sym, take, true, w32, ℕ}
use Rattle.std.proofs.Common.{◌-◌}
use Rattle.std.specs.Int.{to_le_bytes}
use Rattle.std.specs.Str.{bytes_eq}
use Rattle.std.proofs.lemmas.List.{get_or-take, get_or-append_right}
use Rattle.trio_layout.proofs.Reading.{bytes_eq-true}
use Rattle.trio_page.specs.Field.{zeros as zero_bytes}
use Rattle.trio_page.proofs.Fields.{length-to_le_bytes}
use Rattle.trio_rights.specs.Kind.{kind_byte}
use Rattle.trio_layout.specs.Slot.{entry_at, entry_bytes, entry_fits, slot_of}

-- the fifth byte of an entry's spelling
spelled_kind : (bytes : List ℕ) (e : EntryPart) → take 192 bytes ≡ entry_bytes e → get_or bytes 4 0 ≡ kind_byte e.kind
unfolding entry_bytes
spelled_kind bytes e h =
    let rest : List ℕ = e.name ++ zero_bytes (184 - length e.name) in
    let tail : List ℕ = kind_byte e.kind ∷ length e.name ∷ 0 ∷ 0 ∷ rest in
    sym (get_or-take 192 bytes 4 0 (omega arith))
    ∙ ap (λ b. get_or b 4 0) h
    ∙ get_or-append_right (to_le_bytes w32 e.ino) tail 4 4 0 (length-to_le_bytes w32 e.ino) (omega arith)

said : (a b f : Bool) (x e : EntryPart) → entry_in (cond a Empty (cond (b && f) (Entry x) Bad)) ≡ Some e → (b ≡ true) × (x ≡ e)
said true b f x e h = absurd cc
said false false f x e h = absurd cc
said false true false x e h = absurd cc
said false true true x e h = (refl, cc h)

-- The entry that a slot has is what stands there, and its kind has its byte.
pub slot_fields : (inodes : ℕ) (bytes : List ℕ) (e : EntryPart) → entry_in (slot_of inodes bytes) ≡ Some e → (entry_at bytes ≡ e) × (get_or bytes 4 0 ≡ kind_byte e.kind)
unfolding slot_of
slot_fields inodes bytes e h =
    let x : EntryPart = entry_at bytes in
    let q = said (eqb x.ino 0) (bytes_eq (take 192 bytes) (entry_bytes x)) (entry_fits inodes x) x e h in
    let spelled = bytes_eq-true (take 192 bytes) (entry_bytes x) q.0 in
    (q.1, spelled_kind bytes x spelled ∙ ap (λ (y : EntryPart). kind_byte y.kind) q.1)

-- the entry that a slot has, with what stands there
pub record HasFields (inodes : ℕ) (bytes : List ℕ) (e : EntryPart) : Type 0 where
  pub says : entry_in (slot_of inodes bytes) ≡ Some e
  pub ino : number_at w32 0 bytes ≡ e.ino
  pub kind : get_or bytes 4 0 ≡ kind_byte e.kind

pub slot_entry : (inodes : ℕ) (bytes : List ℕ) → IsSome (entry_in (slot_of inodes bytes)) → (e : EntryPart) × HasFields inodes bytes e
slot_entry inodes bytes h = by (entry_in (slot_of inodes bytes)) refl h
  where
    by : (o : Option EntryPart) → entry_in (slot_of inodes bytes) ≡ o → IsSome o → (e : EntryPart) × HasFields inodes bytes e
    by None e h = absurd cc
    by (Some x) e h = let q = slot_fields inodes bytes x e in (x, record { says = e; ino = ap (λ (y : EntryPart). y.ino) q.0; kind = q.1 })
