-- A body with another head and size.
use Rattle.trio_edit_laws.proofs.Words.{◌&&◌, ◌<◌, ◌^◌, ◌∙◌, ◌≡◌, ◌≤◌, Body, CoreRange, IsBytes, Kind, List, None, Option, Some, and_from, and_parts, ap, arith, block_count, body_at, body_fits, bytes_eq, bytes_eq-true, cond, cond_some, core_count, get_or, get_or-In, get_or_past, head_fits, index_count, le-leb, length, ne_eqb, refl, size_fits, sym, to_le_bytes, true, true-bytes_eq, w64, wide64, ℕ, Bool, false, Regular, guard_fits, nat_le, guard_in}
use Rattle.std.proofs.Common.{◌==◌, eq-eqb}
use Rattle.std.specs.Int.{w16, w32, from_le_bytes}
use Rattle.std.proofs.lemmas.Nat.{from_le_bytes-to_le_bytes_4, from_le_bytes-to_le_bytes_8}
use Rattle.trio_page.specs.Field.{number_at, with_number, with_part, zeros}
use Rattle.trio_page.proofs.Cursor.{wide32}
use Rattle.trio_page.proofs.Fields.{get_or-with_part_above, length-with_part}
use Rattle.trio_layout.specs.Body.{body_bytes, body_of}
use Rattle.trio_session.specs.Layout.{body_guarded, body_sized}
use Rattle.trio_edit_laws.proofs.IndexFields.{AreCore, small-to_le_bytes}

abbrev pub sized : Body → ℕ → ℕ → Body
sized b head size = record b { head = head; size = size }

body_bytes-sized : (b : Body) (head size : ℕ) → body_sized head size (body_bytes b) ≡ body_bytes (sized b head size)
unfolding body_bytes with_number with_part zeros
body_bytes-sized b head size = refl

mode-sized : (b : Body) (head size : ℕ) → number_at w16 0 (body_bytes (sized b head size)) ≡ number_at w16 0 (body_bytes b)
unfolding number_at body_bytes
mode-sized b head size = refl

uid-sized : (b : Body) (head size : ℕ) → number_at w32 4 (body_bytes (sized b head size)) ≡ number_at w32 4 (body_bytes b)
unfolding number_at body_bytes
uid-sized b head size = refl

gid-sized : (b : Body) (head size : ℕ) → number_at w32 8 (body_bytes (sized b head size)) ≡ number_at w32 8 (body_bytes b)
unfolding number_at body_bytes
gid-sized b head size = refl

guard-sized : (b : Body) (head size : ℕ) → (get_or (body_bytes (sized b head size)) 24 0 == 1) ≡ (get_or (body_bytes b) 24 0 == 1)
unfolding body_bytes
guard-sized b head size = refl

head-sized : (b : Body) (head size : ℕ) → head < 2 ^ 32 → number_at w32 12 (body_bytes (sized b head size)) ≡ head
unfolding number_at body_bytes
head-sized b head size lt = from_le_bytes-to_le_bytes_4 head lt

size-sized : (b : Body) (head size : ℕ) → size < 2 ^ 64 → number_at w64 16 (body_bytes (sized b head size)) ≡ size
unfolding number_at body_bytes
size-sized b head size lt = from_le_bytes-to_le_bytes_8 size lt

small-to_le_bytes32 : (n : ℕ) → IsBytes (to_le_bytes w32 n)
small-to_le_bytes32 n h = search arith

head_at : (b : Body) → number_at w32 12 (body_bytes b) ≡ from_le_bytes w32 (to_le_bytes w32 b.head)
unfolding number_at body_bytes
head_at b = refl

size_at : (b : Body) → number_at w64 16 (body_bytes b) ≡ from_le_bytes w64 (to_le_bytes w64 b.size)
unfolding number_at body_bytes
size_at b = refl

-- the head and the size of a body that is read are within their fields
pub narrow-body_of : (kind : Kind) (range : CoreRange) (body : List ℕ) (b : Body) → body_of kind range body ≡ Some b → (b.head < 2 ^ 32) × (b.size < 2 ^ 64)
unfolding body_of
narrow-body_of kind range body b reads =
    let x : Body = body_at body in
    let c = cond_some (bytes_eq body (body_bytes x) && body_fits kind range x) x b reads in
    let spelled : body ≡ body_bytes x = bytes_eq-true body (body_bytes x) (and_parts (bytes_eq body (body_bytes x)) (body_fits kind range x) c.0).0 in
    let head : b.head ≡ from_le_bytes w32 (to_le_bytes w32 x.head) = ap (λ (y : Body). y.head) (sym c.1) ∙ ap (number_at w32 12) spelled ∙ head_at x in
    let size : b.size ≡ from_le_bytes w64 (to_le_bytes w64 x.size) = ap (λ (y : Body). y.size) (sym c.1) ∙ ap (number_at w64 16) spelled ∙ size_at x in
    let below = wide32.below (to_le_bytes w32 x.head) (small-to_le_bytes32 x.head) in
    let below' = wide64.below (to_le_bytes w64 x.size) (small-to_le_bytes x.size) in
    (omega (arith, head, below), omega (arith, size, below'))

-- the first of the index pages that so many blocks take is the head of a body
pub head_fits-index : (range : CoreRange) (count : ℕ) (index : List ℕ) → length index ≡ index_count count → AreCore range index → head_fits range count (get_or index 0 0) ≡ true
head_fits-index range count index many core = search (arith, eq-eqb, get_or_past, ne_eqb, get_or-In)

-- a body that is read, and a head and a size that fit
pub body_of-sized : (kind : Kind) (range : CoreRange) (body : List ℕ) (b : Body) (head size : ℕ) → body_of kind range body ≡ Some b → head < 2 ^ 32 → size < 2 ^ 64
    → block_count size ≤ core_count range → size_fits kind size ≡ true → head_fits range (block_count size) head ≡ true
    → body_of kind range (body_sized head size body) ≡ Some (sized b head size)
unfolding body_of
body_of-sized kind range body b head size reads small_head small_size few whole fits =
    let x : Body = body_at body in
    let c = cond_some (bytes_eq body (body_bytes x) && body_fits kind range x) x b reads in
    let p = and_parts (bytes_eq body (body_bytes x)) (body_fits kind range x) c.0 in
    let spelled : body ≡ body_bytes x = bytes_eq-true body (body_bytes x) p.0 in
    let y : Body = sized x head size in
    let bs : List ℕ = body_sized head size body in
    let spells : bs ≡ body_bytes y = ap (body_sized head size) spelled ∙ body_bytes-sized x head size in
    let mode : number_at w16 0 bs ≡ x.mode.0 = ap (number_at w16 0) spells ∙ mode-sized x head size ∙ ap (number_at w16 0) (sym spelled) in
    let uid : number_at w32 4 bs ≡ x.uid = ap (number_at w32 4) spells ∙ uid-sized x head size ∙ ap (number_at w32 4) (sym spelled) in
    let gid : number_at w32 8 bs ≡ x.gid = ap (number_at w32 8) spells ∙ gid-sized x head size ∙ ap (number_at w32 8) (sym spelled) in
    let at_head : number_at w32 12 bs ≡ head = ap (number_at w32 12) spells ∙ head-sized x head size small_head in
    let at_size : number_at w64 16 bs ≡ size = ap (number_at w64 16) spells ∙ size-sized x head size small_size in
    let guard : (get_or bs 24 0 == 1) ≡ x.guard = ap (λ (l : List ℕ). get_or l 24 0 == 1) spells ∙ guard-sized x head size ∙ ap (λ (l : List ℕ). get_or l 24 0 == 1) (sym spelled) in
    let at : body_at bs ≡ y = rw (mode, uid, gid, at_head, at_size, guard) refl in
    let o = and_parts (nat_le x.mode.0 511 && nat_le (block_count x.size) (core_count range) && size_fits kind x.size && head_fits range (block_count x.size) x.head) (guard_fits kind x.guard) p.1 in
    let q = and_parts (nat_le x.mode.0 511 && nat_le (block_count x.size) (core_count range) && size_fits kind x.size) (head_fits range (block_count x.size) x.head) o.0 in
    let r = and_parts (nat_le x.mode.0 511 && nat_le (block_count x.size) (core_count range)) (size_fits kind x.size) q.0 in
    let m = and_parts (nat_le x.mode.0 511) (nat_le (block_count x.size) (core_count range)) r.0 in
    let now : body_fits kind range y ≡ true = search (arith, and_from, nat_le, le-leb) in
    let test : Body → Option Body = λ z. cond (bytes_eq bs (body_bytes z) && body_fits kind range z) (Some z) None in
    search (arith, and_from, true-bytes_eq)

-- a body that is read, with another guard
abbrev pub guarded : Body → Bool → Body
guarded b on = record b { guard = on }

body_bytes-guarded : (b : Body) (on : Bool) → body_guarded on (body_bytes b) ≡ body_bytes (guarded b on)
unfolding body_bytes with_part zeros
body_bytes-guarded b on = refl

fields-guarded : (b : Body) (on : Bool)
    → (number_at w16 0 (body_bytes (guarded b on)) ≡ number_at w16 0 (body_bytes b)) × (number_at w32 4 (body_bytes (guarded b on)) ≡ number_at w32 4 (body_bytes b))
    × (number_at w32 8 (body_bytes (guarded b on)) ≡ number_at w32 8 (body_bytes b)) × (number_at w32 12 (body_bytes (guarded b on)) ≡ number_at w32 12 (body_bytes b))
    × (number_at w64 16 (body_bytes (guarded b on)) ≡ number_at w64 16 (body_bytes b))
unfolding number_at body_bytes
fields-guarded b on = (refl, refl, refl, refl, refl)

guard-guarded : (b : Body) (on : Bool) → (get_or (body_bytes (guarded b on)) 24 0 == 1) ≡ on
unfolding body_bytes
guard-guarded b true = refl
guard-guarded b false = refl

pub body_of-guarded : (range : CoreRange) (body : List ℕ) (b : Body) (on : Bool) → body_of Regular range body ≡ Some b → body_of Regular range (body_guarded on body) ≡ Some (guarded b on)
unfolding body_of
body_of-guarded range body b on reads =
    let x : Body = body_at body in
    let c = cond_some (bytes_eq body (body_bytes x) && body_fits Regular range x) x b reads in
    let p = and_parts (bytes_eq body (body_bytes x)) (body_fits Regular range x) c.0 in
    let spelled : body ≡ body_bytes x = bytes_eq-true body (body_bytes x) p.0 in
    let y : Body = guarded x on in
    let bs : List ℕ = body_guarded on body in
    let spells : bs ≡ body_bytes y = ap (body_guarded on) spelled ∙ body_bytes-guarded x on in
    let same = fields-guarded x on in
    let mode : number_at w16 0 bs ≡ x.mode.0 = ap (number_at w16 0) spells ∙ same.0 ∙ ap (number_at w16 0) (sym spelled) in
    let uid : number_at w32 4 bs ≡ x.uid = ap (number_at w32 4) spells ∙ same.1 ∙ ap (number_at w32 4) (sym spelled) in
    let gid : number_at w32 8 bs ≡ x.gid = ap (number_at w32 8) spells ∙ same.2 ∙ ap (number_at w32 8) (sym spelled) in
    let head : number_at w32 12 bs ≡ x.head = ap (number_at w32 12) spells ∙ same.3 ∙ ap (number_at w32 12) (sym spelled) in
    let size : number_at w64 16 bs ≡ x.size = ap (number_at w64 16) spells ∙ same.4 ∙ ap (number_at w64 16) (sym spelled) in
    let guard : (get_or bs 24 0 == 1) ≡ on = ap (λ (l : List ℕ). get_or l 24 0 == 1) spells ∙ guard-guarded x on in
    let at : body_at bs ≡ y = rw (mode, uid, gid, head, size, guard) refl in
    let o = and_parts (nat_le x.mode.0 511 && nat_le (block_count x.size) (core_count range) && size_fits Regular x.size && head_fits range (block_count x.size) x.head) (guard_fits Regular x.guard) p.1 in
    let now : body_fits Regular range y ≡ true =
    and_from (nat_le x.mode.0 511 && nat_le (block_count x.size) (core_count range) && size_fits Regular x.size && head_fits range (block_count x.size) x.head) (guard_fits Regular on) o.0 refl in
    let test : (bytes_eq bs (body_bytes y) && body_fits Regular range y) ≡ true = and_from (bytes_eq bs (body_bytes y)) (body_fits Regular range y) (true-bytes_eq bs (body_bytes y) spells) now in
    ap (λ z. cond (bytes_eq bs (body_bytes z) && body_fits Regular range z) (Some z) None) at ∙ ap (λ t. cond t (Some y) None) test ∙ ap (λ z. Some (guarded z on)) c.1

-- another head and size leave the guard
pub guard_in-sized : (head size : ℕ) (body : List ℕ) → length body ≡ 64 → guard_in (body_sized head size body) ≡ guard_in body
unfolding with_number
guard_in-sized head size body len =
    let one : length (with_part 12 (to_le_bytes w32 head) body) ≡ 64 = length-with_part 12 (to_le_bytes w32 head) body (omega (arith, len)) ∙ len in
    ap (λ k. k == 1)
    (get_or-with_part_above 16 (to_le_bytes w64 size) (with_part 12 (to_le_bytes w32 head) body) 24 0 (omega (arith, one)) (omega arith)
    ∙ get_or-with_part_above 12 (to_le_bytes w32 head) body 24 0 (omega (arith, len)) (omega arith))

length-body_bytes : (b : Body) → length (body_bytes b) ≡ 64
unfolding body_bytes zeros
length-body_bytes b = refl

-- a body that is read has 64 bytes
pub length-body_of : (kind : Kind) (range : CoreRange) (body : List ℕ) (b : Body) → body_of kind range body ≡ Some b → length body ≡ 64
unfolding body_of
length-body_of kind range body b reads =
    let x : Body = body_at body in
    let c = cond_some (bytes_eq body (body_bytes x) && body_fits kind range x) x b reads in
    ap (λ (l : List ℕ). length l) (bytes_eq-true body (body_bytes x) (and_parts (bytes_eq body (body_bytes x)) (body_fits kind range x) c.0).0) ∙ length-body_bytes x

-- it fits its kind
pub body_of-fits : (kind : Kind) (range : CoreRange) (body : List ℕ) (b : Body) → body_of kind range body ≡ Some b → body_fits kind range b ≡ true
unfolding body_of
body_of-fits kind range body b reads =
    let x : Body = body_at body in
    let c = cond_some (bytes_eq body (body_bytes x) && body_fits kind range x) x b reads in
    ap (body_fits kind range) (sym c.1) ∙ (and_parts (bytes_eq body (body_bytes x)) (body_fits kind range x) c.0).1

-- and a size that its kind may have
pub size_fits-body_of : (kind : Kind) (range : CoreRange) (body : List ℕ) (b : Body) → body_of kind range body ≡ Some b → size_fits kind b.size ≡ true
unfolding body_of
size_fits-body_of kind range body b reads = search (arith, cond_some, and_parts, nat_le)
