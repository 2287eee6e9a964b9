-- The listed blocks of a file, put in place of its old bytes, give its new ones.
use Rattle.trio_laws.proofs.Words.{◌*◌, ◌++◌, ◌+◌, ◌-◌, ◌<◌, ◌∙◌, ◌∷◌, ◌≡◌, ◌≤◌, Bool, Handed, Image, In, List, Some, ToldBlock, [], ap, append_assoc, arith, cases_lt, cond, drop, drop-drop, eq-eqb, false, inl, inr, is_block_told, length, length-drop, nil_from_length, page_of, put_within, refl, slice_get, suc, sym, take, take-append-drop, take_all, told_blocks, unwrap_or, with_blocks, zero, ℕ}
use Rattle.std.proofs.Common.{length-append, append-nil, flat_map}
use Rattle.std.proofs.lemmas.List.{take_all}

-- ---- lists of which the first part is known

pub take_over : {X : Type 0} (a d : List X) (m : ℕ) → take (length a + m) (a ++ d) ≡ a ++ take m d
take_over [] d m = (let e : 0 + m ≡ m = omega arith in ap (λ n. take n d) e)
take_over (x ∷ a) d m =
    let e : length (x ∷ a) + m ≡ suc (length a + m) = omega arith in
    ap (λ n. take n (x ∷ (a ++ d))) e ∙ ap (λ l. x ∷ l) (take_over a d m)

drop_over : {X : Type 0} (a d : List X) (m : ℕ) → drop (length a + m) (a ++ d) ≡ drop m d
drop_over [] d m = (let e : 0 + m ≡ m = omega arith in ap (λ n. drop n d) e)
drop_over (x ∷ a) d m =
    let e : length (x ∷ a) + m ≡ suc (length a + m) = omega arith in
    ap (λ n. drop n (x ∷ (a ++ d))) e ∙ drop_over a d m

take_first : {X : Type 0} (a d : List X) (m : ℕ) → m ≡ length a → take m (a ++ d) ≡ a
take_first a d m e =
    let z : m ≡ length a + 0 = omega (arith, e) in
    ap (λ n. take n (a ++ d)) z ∙ take_over a d 0 ∙ append-nil a

-- ---- one block put in place

-- behind the bytes before it
put_step : (k : ℕ) (p r a : List ℕ) → length p ≡ 4096 * k → length a ≡ 4096 → put_within (4096 * k) a (p ++ r) ≡ p ++ take (length r) (a ++ drop 4096 r)
put_step k p r a at full =
    let n : length (p ++ r) ≡ length p + length r = length-append p r in
    let first : take (4096 * k) (p ++ r) ≡ p = take_first p r (4096 * k) (sym at) in
    let e : 4096 * k + length a ≡ length p + 4096 = omega (arith, at, full) in
    let last : drop (4096 * k + length a) (p ++ r) ≡ drop 4096 r = ap (λ m. drop m (p ++ r)) e ∙ drop_over p r 4096 in
    search (arith, append_assoc, take_over)

-- a block that is there already
here_step : (r a : List ℕ) → length a ≡ 4096 → take 4096 r ≡ take (length r) a → r ≡ take (length r) (a ++ drop 4096 r)
here_step r a full same =
    let d : List ℕ = drop 4096 r in
    let ld : length d ≡ length r - 4096 = length-drop 4096 r in
    elim (cases_lt (length r) 4096) [
      | inl short ↦
          let none : d ≡ [] = nil_from_length d (omega (arith, ld, short)) in
          sym (take_all 4096 r (omega (arith, short))) ∙ same ∙ ap (take (length r)) (sym (append-nil a) ∙ ap (λ l. a ++ l) (sym none))
      | inr long ↦
          let whole : take (length r) a ≡ a = take_all (length r) a (omega (arith, full, long)) in
          let n : length r ≡ length a + length d = omega (arith, ld, full, long) in
          let b : take (length r) (a ++ d) ≡ a ++ d = ap (λ m. take m (a ++ d)) n ∙ take_over a d (length d) ∙ ap (λ l. a ++ l) (take_all (length d) d (omega arith)) in
          sym (take-append-drop 4096 r) ∙ ap (λ l. l ++ d) (same ∙ whole) ∙ sym b
    ]

-- ---- all blocks of a file

abbrev pub block_bytes : Image → ℕ → List ℕ
block_bytes image page = unwrap_or (page_of image.core page) []

-- so many blocks are just those of so many bytes
abbrev pub Count : ℕ → ℕ → Type 0
Count blocks size = (size ≤ 4096 * blocks) × (4096 * blocks < size + 4096)

module _ (before after : Image) (h : Handed) (n : ℕ) where
  -- the blocks from one position on, with what is listed of them
  told_at : (k : ℕ) (t : Bool) (page : ℕ) (p r : List ℕ) (rest : List ToldBlock) → length p ≡ 4096 * k → length (block_bytes after page) ≡ 4096 → (t ≡ false → take 4096 r ≡ take (length r) (block_bytes after page)) → with_blocks n (cond t (record { ino = n; at = k; bytes = block_bytes after page } ∷ rest) rest) (p ++ r) ≡ with_blocks n rest (p ++ take (length r) (block_bytes after page ++ drop 4096 r))
  told_at k t page p r rest at full same = search (arith, eq-eqb, put_step, here_step)

  told_more : (page : ℕ) (p r : List ℕ) (flat : List ℕ) → length (block_bytes after page) ≡ 4096 → 4096 < length r → p ++ block_bytes after page ++ take (length (drop 4096 r)) flat ≡ p ++ take (length r) (block_bytes after page ++ flat)
  told_more page p r flat full long =
      let a : List ℕ = block_bytes after page in
      let ld : length (drop 4096 r) ≡ length r - 4096 = length-drop 4096 r in
      let e : length r ≡ length a + length (drop 4096 r) = omega (arith, ld, full, long) in
      append_assoc p a (take (length (drop 4096 r)) flat)
      ∙ ap (λ l. p ++ l) (sym (ap (λ m. take m (a ++ flat)) e ∙ take_over a flat (length (drop 4096 r))))

  -- where an unlisted block is as it was
  abbrev pub Unlisted : ℕ → List ℕ → List ℕ → Type 0
  Unlisted k pages r =
      (i page : ℕ) → slice_get pages i ≡ Some page → is_block_told before after h n (k + i) page ≡ false
      → take 4096 (drop (4096 * i) r) ≡ take (length (drop (4096 * i) r)) (block_bytes after page)

  first_same : (k : ℕ) (page : ℕ) (pages : List ℕ) (r : List ℕ) → Unlisted k (page ∷ pages) r → is_block_told before after h n k page ≡ false → take 4096 r ≡ take (length r) (block_bytes after page)
  first_same k page pages r un t =
      let e : k + 0 ≡ k = omega arith in
      un 0 page refl (ap (λ m. is_block_told before after h n m page) e ∙ t)

  rest_same : (k : ℕ) (page : ℕ) (pages : List ℕ) (r : List ℕ) → Unlisted k (page ∷ pages) r → Unlisted (k + 1) pages (drop 4096 r)
  rest_same k page pages r un i other get t =
      let e : k + suc i ≡ (k + 1) + i = omega arith in
      let f : 4096 * suc i ≡ 4096 + 4096 * i = omega arith in
      let d : drop (4096 * suc i) r ≡ drop (4096 * i) (drop 4096 r) = ap (λ m. drop m r) f ∙ sym (drop-drop (4096 * i) 4096 r) in
      let u = un (suc i) other get (ap (λ m. is_block_told before after h n m other) e ∙ t) in
      ap (take 4096) (sym d) ∙ u ∙ ap (λ l. take (length l) (block_bytes after other)) d

  one_put : (page : ℕ) (p r : List ℕ) → length r ≤ 4096 → p ++ take (length r) (block_bytes after page ++ drop 4096 r) ≡ p ++ take (length r) (block_bytes after page ++ [])
  one_put page p r short =
      let none : drop 4096 r ≡ [] = nil_from_length (drop 4096 r) (let l = length-drop 4096 r in omega (arith, l, short)) in
      ap (λ l. p ++ take (length r) (block_bytes after page ++ l)) none

  more_put : (page : ℕ) (p r : List ℕ) → length (block_bytes after page) ≡ 4096 → 4096 < length r → p ++ take (length r) (block_bytes after page ++ drop 4096 r) ≡ p ++ block_bytes after page ++ drop 4096 r
  more_put page p r full long = sym (told_more page p r (drop 4096 r) full long) ∙ ap (λ l. p ++ block_bytes after page ++ l) (take_all (length (drop 4096 r)) (drop 4096 r) (omega arith))

  take_none : (m : ℕ) (l : List ℕ) → l ≡ [] → take m l ≡ []
  take_none zero l e = refl
  take_none (suc m) l e = ap (take (suc m)) e

  pub told_put : (k : ℕ) (pages : List ℕ) (p r : List ℕ) → length p ≡ 4096 * k → Count (length pages) (length r) → ((page : ℕ) → In page pages → length (block_bytes after page) ≡ 4096) → Unlisted k pages r → with_blocks n (told_blocks before after h n k pages) (p ++ r) ≡ p ++ take (length r) (flat_map (block_bytes after) pages)
  told_put k [] p r at count full un = search (arith, nil_from_length, take_none, told_at, first_same, one_put, length-drop, length-append, more_put, rest_same, told_more)
  told_put k (page ∷ []) p r at count full un =
      told_at k (is_block_told before after h n k page) page p r [] at (full page (inl refl)) (first_same k page [] r un)
      ∙ one_put page p r (let c = count.0 in let one : length (page ∷ []) ≡ 1 = refl in omega (arith, c, one))
  told_put k (page ∷ (q ∷ qs)) p r at count full un =
      let a : List ℕ = block_bytes after page in
      let d : List ℕ = drop 4096 r in
      let rest : List ToldBlock = told_blocks before after h n (k + 1) (q ∷ qs) in
      let whole : length a ≡ 4096 = full page (inl refl) in
      let c0 = count.0 in
      let c1 = count.1 in
      let more : length (page ∷ (q ∷ qs)) ≡ suc (length (q ∷ qs)) = refl in
      let some : length (q ∷ qs) ≡ suc (length qs) = refl in
      let long : 4096 < length r = omega (arith, c1, more, some) in
      let ld : length d ≡ length r - 4096 = length-drop 4096 r in
      let at' : length (p ++ a) ≡ 4096 * (k + 1) = (let l = length-append p a in omega (arith, l, at, whole)) in
      let low : length d ≤ 4096 * length (q ∷ qs) = omega (arith, c0, more, ld) in
      let high : 4096 * length (q ∷ qs) < length d + 4096 = omega (arith, c1, more, ld, long) in
      told_at k (is_block_told before after h n k page) page p r rest at whole (first_same k page (q ∷ qs) r un)
      ∙ ap (with_blocks n rest) (more_put page p r whole long)
      ∙ told_put (k + 1) (q ∷ qs) (p ++ a) d at' (low, high) (λ x i. full x (inr i)) (rest_same k page (q ∷ qs) r un)
      ∙ told_more page p r (flat_map (block_bytes after) (q ∷ qs)) whole long
