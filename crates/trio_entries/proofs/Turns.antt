-- Blocks that are told, one after another.
use Rattle.trio_entries.proofs.Words.{◌++◌, ◌+◌, ◌<◌, ◌∙◌, ◌∷◌, ◌≡◌, ◌≤◌, Bool, Case, Handed, List, None, Notes, RawFile, Some, [], ap, append-nil, append_assoc, arith, block_told, changed_blocks, cond, drop, drop-cons, false, flat_map, flat_map-append, get_or, length, length-append, refl, slice_get, suc, sym, take, take-append-drop, take_more, true, zero, ℕ}
use Rattle.std.proofs.lemmas.Option.{get_or_from_slice_get, slice_get_within}
use Rattle.trio_nodes.specs.Told.{ToldBlock}
use Rattle.trio_state.specs.Listed.{is_block_changed}

-- one file more
pub told_more : {X Z : Type 0} (g : X → List Z) (xs : List X) (i : ℕ) (x : X) (now new : List Z) → i < length xs → x ≡ get_or xs i x → now ≡ flat_map g (take i xs) → new ≡ now ++ g x → new ≡ flat_map g (take (i + 1) xs)
told_more g xs i x now new within is before grown =
    let last : flat_map g (take (i + 1) xs) ≡ flat_map g (take i xs) ++ g x =
    ap (flat_map g) (take_more xs i x within ∙ ap (λ y. take i xs ++ y ∷ []) (sym is)) ∙ flat_map-append g (take i xs) (x ∷ []) ∙ ap (λ l. flat_map g (take i xs) ++ l) (append-nil (g x)) in
    grown ∙ ap (λ l. l ++ g x) before ∙ sym last

-- it is within what is told of all
pub files_more : {X Z : Type 0} (g : X → List Z) (xs : List X) (i : ℕ) (x : X) → i < length xs → x ≡ get_or xs i x → length (flat_map g (take i xs)) + length (g x) ≤ length (flat_map g xs)
files_more g xs i x within is =
    let now : flat_map g (take (i + 1) xs) ≡ flat_map g (take i xs) ++ g x = sym (told_more g xs i x (flat_map g (take i xs)) (flat_map g (take i xs) ++ g x) within is refl refl) in
    let all : flat_map g xs ≡ flat_map g (take (i + 1) xs) ++ flat_map g (drop (i + 1) xs) = ap (flat_map g) (sym (take-append-drop (i + 1) xs)) ∙ flat_map-append g (take (i + 1) xs) (drop (i + 1) xs) in
    omega (arith, ap length now, ap length all, length-append (flat_map g (take i xs)) (g x), length-append (flat_map g (take (i + 1) xs)) (flat_map g (drop (i + 1) xs)))

pub length_more : {X Z : Type 0} (g : X → List Z) (xs : List X) (i : ℕ) (x : X) → i < length xs → x ≡ get_or xs i x → length (flat_map g (take (i + 1) xs)) ≡ length (flat_map g (take i xs)) + length (g x)
length_more g xs i x within is =
    ap length (sym (told_more g xs i x (flat_map g (take i xs)) (flat_map g (take i xs) ++ g x) within is refl refl)) ∙ length-append (flat_map g (take i xs)) (g x)

pub one_within : {X Z : Type 0} (g : X → List Z) (xs : List X) (i : ℕ) (x : X) → i < length xs → x ≡ get_or xs i x → length (g x) ≤ length (flat_map g xs)
one_within g xs i x within is = let all = files_more g xs i x within is in omega (arith, all)

-- what stands at a position is the next
pub take_one : {X : Type 0} (xs : List X) (i : ℕ) (x : X) → slice_get xs i ≡ Some x → take (i + 1) xs ≡ take i xs ++ x ∷ []
take_one xs i x at =
    take_more xs i x (slice_get_within xs i x at) ∙ ap (λ y. take i xs ++ y ∷ []) (get_or_from_slice_get xs i x x at)

-- no page stands at or past the end
pub at_end : {X : Type 0} (xs : List X) (i : ℕ) → None ≡ slice_get xs i → i < length xs → ⊥
at_end [] i e h = omega (arith, h)
at_end (x ∷ xs) zero e h = absurd cc
at_end (x ∷ xs) (suc i) e h = at_end xs i e (omega (arith, h))

module _ (c : Case) (notes : Notes) (h : Handed) (f : RawFile) where
  -- the blocks from a position on
  abbrev from : ℕ → List ℕ → List ToldBlock
  from i pages = changed_blocks c notes h f i (drop i pages)

  -- one block more, where it is told
  abbrev told_at : ℕ → ℕ → List ToldBlock
  told_at i page = cond (is_block_changed c notes h f i page) (block_told c f.ino i page ∷ []) []

  next_page : (i page : ℕ) (pages : List ℕ) → Some page ≡ slice_get pages i → from i pages ≡ told_at i page ++ from (i + 1) pages
  next_page i page pages is =
      let within : i < length pages = slice_get_within pages i page (sym is) in
      let here : get_or pages i 0 ≡ page = get_or_from_slice_get pages i page 0 (sym is) in
      ap (changed_blocks c notes h f i) (drop-cons pages i 0 within ∙ ap (λ j. get_or pages i 0 ∷ drop j pages) one ∙ ap (λ p. p ∷ drop (i + 1) pages) here)
      ∙ by (is_block_changed c notes h f i page)
    where
      one : suc i ≡ i + 1
      one = omega arith

      by : (t : Bool) → cond t (block_told c f.ino i page ∷ from (i + 1) pages) (from (i + 1) pages) ≡ cond t (block_told c f.ino i page ∷ []) [] ++ from (i + 1) pages
      by true = refl
      by false = refl

  -- a page more
  pub turn : (i page : ℕ) (pages : List ℕ) (now new whole : List ToldBlock) → Some page ≡ slice_get pages i → new ≡ now ++ told_at i page → now ++ from i pages ≡ whole → new ++ from (i + 1) pages ≡ whole
  turn i page pages now new whole is grown before =
      ap (λ l. l ++ from (i + 1) pages) grown ∙ append_assoc now (told_at i page) (from (i + 1) pages)
      ∙ ap (λ l. now ++ l) (sym (next_page i page pages is)) ∙ before
