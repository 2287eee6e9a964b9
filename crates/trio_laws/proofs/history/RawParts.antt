-- The files and blocks of a release, one by one.
use Rattle.trio_laws.proofs.Words.{Bool, Bundle, Handed, Image, In, List, None, Option, RawFile, Row, Sheet, Some, ToldBlock, [], ap, arith, block_numbers, cond, eq-eqb, false, inl, inr, is_block_told, is_told, is_touched, le-ltb, ltb, min, ne_eqb, page_of, put_within, raw_file, refl, row_at, sheet_numbers, size_of, slice_get, suc, sym, told_blocks, told_blocks_of, told_by, true, unwrap_or, with_blocks, zero, ℕ, ◌*◌, ◌+◌, ◌∙◌, ◌∷◌, ◌≡◌}

-- the file of a number has that number
told_number : (before after : Image) (b : Bundle) (n : ℕ) (was is : Option Row) (f : RawFile) → told_by before after b n was is ≡ Some f → f.ino ≡ n
told_number before after b n was is f e = search arith

number_step : (before after : Image) (b : Bundle) (n : ℕ) (t : Bool) (f : RawFile) → cond t (told_by before after b n (row_at before n) (row_at after n)) None ≡ Some f → f.ino ≡ n
number_step before after b n true f e = told_number before after b n (row_at before n) (row_at after n) f e
number_step before after b n false f e = absurd cc

pub raw_number : (before after : Image) (b : Bundle) (n : ℕ) (f : RawFile) → raw_file before after b n ≡ Some f → f.ino ≡ n
raw_number before after b n f e = number_step before after b n (is_told before after b n) f e

-- blocks of one file leave every other
others_step : (m : ℕ) (t : Bool) (x : ToldBlock) (rest : List ToldBlock) (bytes : List ℕ) → (x.ino ≡ m → ⊥) → with_blocks m (cond t (x ∷ rest) rest) bytes ≡ with_blocks m rest bytes
others_step m true x rest bytes d = ap (λ b. with_blocks m rest (cond b (put_within (4096 * x.at) x.bytes bytes) bytes)) (ne_eqb x.ino m d)
others_step m false x rest bytes d = refl

told_others : (before after : Image) (h : Handed) (n m at : ℕ) (pages : List ℕ) (bytes : List ℕ) → (n ≡ m → ⊥) → with_blocks m (told_blocks before after h n at pages) bytes ≡ bytes
told_others before after h n m at [] bytes d = refl
told_others before after h n m at (p ∷ ps) bytes d =
    others_step m (is_block_told before after h n at p) (record { ino = n; at = at; bytes = unwrap_or (page_of after.core p) [] }) (told_blocks before after h n (at + 1) ps) bytes d
    ∙ told_others before after h n m (at + 1) ps bytes d

gone_others : (before after : Image) (h : Handed) (f : RawFile) (m : ℕ) (bytes : List ℕ) (t : Bool) → (f.ino ≡ m → ⊥) → with_blocks m (cond t [] (told_blocks before after h f.ino 0 (block_numbers after f.ino (row_at after f.ino)))) bytes ≡ bytes
gone_others before after h f m bytes true d = refl
gone_others before after h f m bytes false d = told_others before after h f.ino m 0 (block_numbers after f.ino (row_at after f.ino)) bytes d

pub own_blocks : (before after : Image) (h : Handed) (f : RawFile) (told : Bool) (m : ℕ) (bytes : List ℕ) → (f.ino ≡ m → ⊥) → with_blocks m (told_blocks_of before after h f told) bytes ≡ bytes
own_blocks before after h f false m bytes d = refl
own_blocks before after h f true m bytes d = gone_others before after h f m bytes f.gone d

-- where nothing is told, there are no blocks
none_step : (t : Bool) (x : ToldBlock) (rest : List ToldBlock) → t ≡ false → rest ≡ [] → cond t (x ∷ rest) rest ≡ []
none_step t x rest e h = ap (λ b. cond b (x ∷ rest) rest) e ∙ h

pub told_none : (before after : Image) (h : Handed) (n at : ℕ) (pages : List ℕ) → ((i page : ℕ) → slice_get pages i ≡ Some page → is_block_told before after h n (at + i) page ≡ false) → told_blocks before after h n at pages ≡ []
told_none before after h n at [] un = refl
told_none before after h n at (p ∷ ps) un =
    let e : at + 0 ≡ at = omega arith in
    none_step (is_block_told before after h n at p) (record { ino = n; at = at; bytes = unwrap_or (page_of after.core p) [] }) (told_blocks before after h n (at + 1) ps)
    (ap (λ m. is_block_told before after h n m p) (sym e) ∙ un 0 p refl)
    (told_none before after h n (at + 1) ps
    (λ i q g. let f : (at + 1) + i ≡ at + suc i = omega arith in ap (λ m. is_block_told before after h n m q) f ∙ un (suc i) q g))

-- a block of a file of the same pages and size is told only where it was touched
not_grown : (size k : ℕ) → ltb size (min size k) ≡ false
not_grown size k = le-ltb size (min size k) (omega arith)

pub same_told : (before after : Image) (h : Handed) (n at page : ℕ) → slice_get (block_numbers before n (row_at before n)) at ≡ Some page → size_of after n ≡ size_of before n → is_block_told before after h n at page ≡ is_touched h page
same_told before after h n at page get size = search (arith, min, eq-eqb, not_grown)

-- the sheet at the place of a number
pub sheet_at : (xs : List Sheet) (i page : ℕ) → slice_get (sheet_numbers xs) i ≡ Some page → (x : Sheet) × In x xs × (x.page ≡ page) × (slice_get xs i ≡ Some x)
sheet_at [] i page e = absurd cc
sheet_at (x ∷ xs) zero page e = (let s : x.page ≡ page = cc e in (x, inl refl, s, refl))
sheet_at (x ∷ xs) (suc i) page e = let r = sheet_at xs i page e in (r.0, inr r.1, r.2, r.3)

pub get_in : (xs : List ℕ) (i x : ℕ) → slice_get xs i ≡ Some x → In x xs
get_in [] i x e = absurd cc
get_in (y ∷ ys) zero x e = (let s : y ≡ x = cc e in inl (sym s))
get_in (y ∷ ys) (suc i) x e = inr (get_in ys i x e)
