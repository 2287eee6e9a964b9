-- How many blocks a file has, and how long their bytes are.
use Rattle.trio_laws.proofs.Words.{◌*◌, ◌++◌, ◌+◌, ◌-◌, ◌∙◌, ◌∷◌, ◌≡◌, ◌≤◌, Body, Bool, Chain, Core, CoreRange, Image, In, Index, List, None, Ok, Option, Sheet, Some, [], ap, arith, at_page, cases_lt, chain_of, cond, cons_option, drop, drop-drop, eqb, false, inl, inr, length, length-drop, length-take, min, nil_from_length, option_and_then, option_map, page_of, refl, result_map, result_map-Ok, result_then-Ok, sheets_of, slice_get, suc, sym, take, take-append-le, take-take, take_all, there_or-Ok, true, unwrap_or, with_index, zero, ℕ}
use Rattle.std.proofs.Common.{length-append, flat_map}
use Rattle.trio_layout.specs.Index.{index_of, numbers_in}
use Rattle.trio_layout.specs.Chain.{index_page, chain_from}
use Rattle.trio_lists.proofs.Members.{option_and_then-Some}
use Rattle.trio_laws.proofs.history.Told.{Count, block_bytes, take_over}

numbers_long : (n : ℕ) (bytes : List ℕ) → length (numbers_in n bytes) ≡ n
numbers_long zero bytes = refl
numbers_long (suc n) bytes = ap suc (numbers_long n (drop 8 bytes))

said_index : (t : Bool) (i x : Index) → cond t (Some i) None ≡ Some x → i ≡ x
said_index true i x e = cc e
said_index false i x e = absurd cc

index_long : (used : ℕ) (last : Bool) (range : CoreRange) (bytes : List ℕ) (i : Index) → index_of used last range bytes ≡ Some i → length i.numbers ≡ used
unfolding index_of
index_long used last range bytes i e = search (arith, said_index, numbers_long)

-- a chain names just so many blocks
pub chain_long : (core : Core) (n blocks at : ℕ) (c : Chain) → chain_from core n blocks at ≡ Ok c → blocks ≤ 511 * n → length c.blocks ≡ blocks
chain_long core zero blocks at c e h = search (arith, result_then-Ok, min, result_map-Ok, there_or-Ok, option_and_then-Some, index_long, length-append)
chain_long core (suc more) blocks at c e h =
    let a = result_then-Ok (λ i. result_map (with_index at i) (chain_from core more (blocks - 511) i.next)) (index_page core at (min blocks 511) (eqb more 0)) c e in
    let b = result_map-Ok (with_index at a.0) (chain_from core more (blocks - 511) a.0.next) c a.2 in
    let p = there_or-Ok (at_page at) (option_and_then (index_of (min blocks 511) (eqb more 0) core.range) (page_of core at)) a.0 a.1 in
    let q = option_and_then-Some (index_of (min blocks 511) (eqb more 0) core.range) (page_of core at) a.0 p in
    let one = index_long (min blocks 511) (eqb more 0) core.range q.0 a.0 q.2 in
    let rest = chain_long core more (blocks - 511) a.0.next b.0 b.1 (omega (arith, h)) in
    let l = length-append a.0.numbers b.0.blocks in
    ap (λ (x : Chain). length x.blocks) (sym b.2) ∙ omega (arith, one, rest, l)

-- the blocks of a body are just those of its size
pub chain_count : (core : Core) (b : Body) (c : Chain) → chain_of core b ≡ Ok c → Count (length c.blocks) b.size
chain_count core b c e = search (arith, chain_long)

abbrev pub flat : List Sheet → List ℕ
flat xs = flat_map (λ x. x.bytes) xs

pub flat_long : (xs : List Sheet) → ((x : Sheet) → In x xs → length x.bytes ≡ 4096) → length (flat xs) ≡ 4096 * length xs
flat_long [] h = refl
flat_long (x ∷ xs) h =
    let a = h x (inl refl) in
    let r = flat_long xs (λ y i. h y (inr i)) in
    let l = length-append x.bytes (flat xs) in
    let m : length (x ∷ xs) ≡ suc (length xs) = refl in
    omega (arith, a, r, l, m)

-- the bytes of the sheets of pages
flat_step : (page : ℕ) (o : Option (List ℕ)) (rest : List Sheet) → flat (cons_option (option_map (λ bytes. record { page = page; bytes = bytes }) o) rest) ≡ unwrap_or o [] ++ flat rest
flat_step page None rest = refl
flat_step page (Some bytes) rest = refl

pub flat_sheets : (image : Image) (ps : List ℕ) → flat (sheets_of image.core ps) ≡ flat_map (block_bytes image) ps
flat_sheets image [] = refl
flat_sheets image (p ∷ ps) = flat_step p (page_of image.core p) (sheets_of image.core ps) ∙ ap (λ l. block_bytes image p ++ l) (flat_sheets image ps)

-- ---- one block of some bytes

drop_exact : (a d : List ℕ) (m : ℕ) → m ≡ length a → drop m (a ++ d) ≡ d
drop_exact [] d m e = ap (λ n. drop n d) e
drop_exact (x ∷ a) d m e = ap (λ n. drop n (x ∷ (a ++ d))) e ∙ drop_exact a d (length a) refl

-- what a cut of bytes has behind the first block
pub drop_cut : (size : ℕ) (a f : List ℕ) → length a ≡ 4096 → drop 4096 (take size (a ++ f)) ≡ take (size - 4096) f
drop_cut size a f full =
    elim (cases_lt size 4096) [
      | inl short ↦
          let l = length-take size (a ++ f) in
          let none : drop 4096 (take size (a ++ f)) ≡ [] = nil_from_length (drop 4096 (take size (a ++ f))) (let d = length-drop 4096 (take size (a ++ f)) in omega (arith, d, l, short)) in
          let z : size - 4096 ≡ 0 = omega (arith, short) in
          none ∙ sym (ap (λ n. take n f) z)
      | inr long ↦
          let e : size ≡ length a + (size - 4096) = omega (arith, full, long) in
          ap (drop 4096) (ap (λ n. take n (a ++ f)) e ∙ take_over a f (size - 4096)) ∙ drop_exact a (take (size - 4096) f) 4096 (sym full)
    ]

first_cut : (size : ℕ) (a f : List ℕ) → length a ≡ 4096 → take 4096 (take size (a ++ f)) ≡ take (length (take size (a ++ f))) a
first_cut size a f full =
    let n : length (a ++ f) ≡ length a + length f = length-append a f in
    let l = length-take size (a ++ f) in
    elim (cases_lt size 4096) [
      | inl short ↦
          let m : length (take size (a ++ f)) ≡ size = omega (arith, l, n, full, short) in
          take_all 4096 (take size (a ++ f)) (omega (arith, m, short))
          ∙ cut_left size a f (omega (arith, full, short))
          ∙ ap (λ z. take z a) (sym m)
      | inr long ↦
          let m : 4096 ≤ length (take size (a ++ f)) = omega (arith, l, n, full, long) in
          take-take 4096 size (a ++ f) long
          ∙ cut_left 4096 a f (omega (arith, full))
          ∙ take_all 4096 a (omega (arith, full))
          ∙ sym (take_all (length (take size (a ++ f))) a (omega (arith, full, m)))
    ]
  where
    cut_left : (m : ℕ) (a f : List ℕ) → m ≤ length a → take m (a ++ f) ≡ take m a
    cut_left m a f h = take-append-le m a f h

-- each block of a file, as far as its size goes
pub chunk : (xs : List Sheet) (i : ℕ) (x : Sheet) (size : ℕ) → ((x : Sheet) → In x xs → length x.bytes ≡ 4096) → slice_get xs i ≡ Some x → take 4096 (drop (4096 * i) (take size (flat xs))) ≡ take (length (drop (4096 * i) (take size (flat xs)))) x.bytes
chunk [] i x size full get = absurd cc
chunk (y ∷ ys) zero x size full get = search (arith, first_cut, drop-drop, drop_cut)
chunk (y ∷ ys) (suc i) x size full get =
    let z : List ℕ = take size (y.bytes ++ flat ys) in
    let e : 4096 * suc i ≡ 4096 + 4096 * i = omega arith in
    let d : drop (4096 * suc i) z ≡ drop (4096 * i) (take (size - 4096) (flat ys)) =
    ap (λ m. drop m z) e ∙ sym (drop-drop (4096 * i) 4096 z) ∙ ap (drop (4096 * i)) (drop_cut size y.bytes (flat ys) (full y (inl refl))) in
    ap (take 4096) d ∙ chunk ys i x (size - 4096) (λ w j. full w (inr j)) get ∙ ap (λ l. take (length l) x.bytes) (sym d)
