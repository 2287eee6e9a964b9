-- A file that is read a page at a time.
use Rattle.trio_image.proofs.Words.{◌*◌, ◌++◌, ◌+◌, ◌-◌, ◌/◌, ◌<◌, ◌∙◌, ◌∷◌, ◌≡◌, ◌≤◌, IsFileOf, IsPartOf, List, None, OnlyReads-trans, Option, Shelf, Some, [], ap, arith, bytes_in, drop, drop-append_seam, drop-drop, is_whole_page, length, length-append, length-drop, length-take, length-zeros, list_all, pages_in, refl, subst, sym, take, take-append_seam, true, zeros, ℕ}
use Rattle.std.proofs.Common.{min, IfSome}
use Rattle.std.proofs.Math.Seq.{take-add}
use Rattle.std.proofs.lemmas.List.{take-append-drop, take-append-le, take_all}
use Rattle.std.proofs.lemmas.Slice.{drop-put_mid, take-put_mid}
use borrow.Rule.Slice.PartMut.{post_of, put_mid}
use Rattle.trio_io.specs.Shelf.{IsTold, OnlyReads}
use Rattle.trio_io.proofs.Loading.{IsFront}
use Rattle.trio_image.proofs.Pages.{bytes_in-snoc, length-bytes_in, pages_in-append, whole-snoc}

-- ---- a page

-- what a turn begins with: the page has so many bytes of the file from an offset on
pub record PartSoFar (name : List ℕ) (start now : Shelf) (at room : ℕ) (page : List ℕ) (count turn : ℕ) : Type 0 where
  pub files : OnlyReads name start now
  pub whole : length page ≡ 4096
  pub turns : turn ≤ count
  pub less : count < room
  pub so_far : IfSome (start.held name) (λ bs. (count ≤ length bs - at) × (take count page ≡ take count (drop at bs)))

nothing_yet : (content : Option (List ℕ)) (page : List ℕ) (at : ℕ) → IfSome content (λ bs. (0 ≤ length bs - at) × (take 0 page ≡ take 0 (drop at bs)))
nothing_yet None page at = tt
nothing_yet (Some bs) page at = (omega arith, refl)

pub OnlyReads-refl : (name : List ℕ) (files : Shelf) → OnlyReads name files files
OnlyReads-refl name files = record {
  reads = record { later = λ q. omega arith; others = λ q ne. refl };
  writes = refl;
  held = refl;
  tells = refl;
  serves = refl;
}

-- ---- all pages

-- what a turn begins with: the pages are the file's first ones
pub record FileSoFar (name : List ℕ) (start now : Shelf) (pages : List (Option (List ℕ))) (turn : ℕ) : Type 0 where
  pub files : OnlyReads name start now
  pub count : length pages ≡ turn
  pub whole : list_all is_whole_page pages ≡ true
  pub so_far : IsFront (bytes_in pages) (start.held name)

-- ---- a page is filled

pub part_begin : (name : List ℕ) (start : Shelf) (at room : ℕ) (page : List ℕ) → 0 < room → page ≡ zeros 4096 → PartSoFar name start start at room page 0 0
part_begin name start at room page some blank = record {
  files = OnlyReads-refl name start;
  whole = ap length blank ∙ length-zeros 4096;
  turns = omega arith;
  less = some;
  so_far = nothing_yet (start.held name) page at;
}

pub part_more : (start now : Option (List ℕ)) (page page' buf : List ℕ) (count n room at place : ℕ) → now ≡ start → place ≡ at + count → length buf ≡ room - count → count ≤ room → n ≤ length buf
    → take (count + n) page' ≡ take count page ++ take n buf
    → IfSome start (λ bs. (count ≤ length bs - at) × (take count page ≡ take count (drop at bs)))
    → IfSome now (λ bs. (n ≡ min (length buf) (length bs - place)) × (take n buf ≡ take n (drop place bs)))
    → IfSome start (λ bs. (count + n ≤ length bs - at) × (take (count + n) page' ≡ take (count + n) (drop at bs)))
part_more None now page page' buf count n room at place same here len le fits put so_far gives = tt
part_more (Some bs) now page page' buf count n room at place same here len le fits put so_far gives =
    let gave = rw (same, here) at gives in
    let both : take (count + n) (drop at bs) ≡ take count (drop at bs) ++ take n (drop (at + count) bs) =
    take-add count n (drop at bs) ∙ ap (λ rest. take count (drop at bs) ++ take n rest) (drop-drop count at bs) in
    (omega (arith, so_far.0, gave.0), rw (put, both, so_far.1, gave.1) refl)

-- the page with its bytes behind the first ones
put_front : (page buf rest : List ℕ) (count n : ℕ) → count ≤ length page → n ≤ length buf → take (count + n) (take count page ++ (buf ++ rest)) ≡ take count page ++ take n buf
put_front page buf rest count n within le =
    let len : length (take count page) ≡ count = omega (arith, length-take count page) in
    let front : take count (take count page ++ (buf ++ rest)) ≡ take count page = ap (λ (k : ℕ). take k (take count page ++ (buf ++ rest))) (sym len) ∙ take-append_seam (take count page) (buf ++ rest) in
    let back : drop count (take count page ++ (buf ++ rest)) ≡ buf ++ rest = ap (λ (k : ℕ). drop k (take count page ++ (buf ++ rest))) (sym len) ∙ drop-append_seam (take count page) (buf ++ rest) in
    take-add count n (take count page ++ (buf ++ rest)) ∙ ap (λ f. f ++ take n (drop count (take count page ++ (buf ++ rest)))) front
    ∙ ap (λ b. take count page ++ take n b) back ∙ ap (λ b. take count page ++ b) (take-append-le n buf rest le)

-- the page stays whole
pub put_whole : (page lent buf : List ℕ) (count room : ℕ) → lent ≡ page → length page ≡ 4096 → count ≤ room → room ≤ 4096 → length buf ≡ room - count → length (put_mid count (room - count) lent buf) ≡ 4096
put_whole page lent buf count room is_lent whole le fits len =
    let size : length lent ≡ 4096 = ap length is_lent ∙ whole in
    let put : List ℕ = put_mid count (room - count) lent buf in
    let both : take room put ++ drop room put ≡ put = take-append-drop room put in
    let front : take room put ≡ take count lent ++ buf = take-put_mid count (room - count) lent buf room (omega (arith, len)) (omega (arith, size)) in
    let back : drop room put ≡ drop room lent = drop-put_mid count (room - count) lent buf room (omega arith) (omega (arith, size)) len in
    omega (arith, size, len, ap length both, ap length front, ap length back, length-append (take room put) (drop room put), length-append (take count lent) buf, length-take count lent, length-drop room lent)

-- n bytes more
pub part_turn : (start now : Option (List ℕ)) (page lent buf : List ℕ) (count n room at place : ℕ) → now ≡ start → place ≡ at + count → length buf ≡ room - count → count ≤ room → count ≤ length page → n ≤ length buf
    → lent ≡ page
    → IfSome start (λ bs. (count ≤ length bs - at) × (take count page ≡ take count (drop at bs)))
    → IfSome now (λ bs. (n ≡ min (length buf) (length bs - place)) × (take n buf ≡ take n (drop place bs)))
    → IfSome start (λ bs. (count + n ≤ length bs - at) × (take (count + n) (put_mid count (room - count) lent buf) ≡ take (count + n) (drop at bs)))
part_turn start now page lent buf count n room at place same here len le within fits is_lent so_far gives =
    let put : take (count + n) (put_mid count (room - count) lent buf) ≡ take count page ++ take n buf =
    ap (λ p. take (count + n) (put_mid count (room - count) p buf)) is_lent ∙ put_front page buf (post_of count (room - count) page) count n within fits in
    part_more start now page (put_mid count (room - count) lent buf) buf count n room at place same here len le fits put so_far gives

-- a full part
pub part_full : (content : Option (List ℕ)) (page : List ℕ) (count room at : ℕ) → count ≡ room → IfSome content (λ bs. (count ≤ length bs - at) × (take count page ≡ take count (drop at bs))) → IsPartOf content at room page count
part_full None page count room at is so_far = tt
part_full (Some bs) page count room at is so_far = (omega (arith, so_far.0), so_far.1)

-- ---- a file is read

pub file_more : (content : Option (List ℕ)) (pages : List (Option (List ℕ))) (page : List ℕ) (i at n : ℕ) → length pages ≡ i → list_all is_whole_page pages ≡ true → length page ≡ 4096 → n ≡ 4096 → at ≡ 4096 * i → IsFront (bytes_in pages) content → IsPartOf content at 4096 page n → IsFront (bytes_in (pages ++ Some page ∷ [])) content
file_more None pages page i at n count w len full here front part = tt
file_more (Some bs) pages page i at n count w len full here front part =
    let size : length (bytes_in pages) ≡ at = omega (arith, length-bytes_in pages w) in
    let all : take n page ≡ page = take_all n page (omega arith) in
    let snoc : bytes_in (pages ++ Some page ∷ []) ≡ bytes_in pages ++ page = bytes_in-snoc pages page in
    let long : length (bytes_in pages ++ page) ≡ at + n = omega (arith, size, length-append (bytes_in pages) page) in
    let first : bytes_in pages ≡ take at bs = front ∙ ap (λ (k : ℕ). take k bs) size in
    let then : page ≡ take n (drop at bs) = sym all ∙ part.1 in
    let joined : bytes_in pages ++ page ≡ take (at + n) bs = ap (λ b. b ++ page) first ∙ ap (λ p. take at bs ++ p) then ∙ sym (take-add at n bs) in
    snoc ∙ joined ∙ ap (λ (k : ℕ). take k bs) (sym (ap length snoc ∙ long))

pub file_turn : (name : List ℕ) (start now new : Shelf) (pages pages' : List (Option (List ℕ))) (page : List ℕ) (i at n : ℕ) → FileSoFar name start now pages i → OnlyReads name now new → length page ≡ 4096 → n ≤ 4096 → 4096 ≤ n → at ≡ 4096 * i → IsPartOf (now.held name) at 4096 page n → pages' ≡ pages ++ Some page ∷ [] → FileSoFar name start new pages' (i + 1)
file_turn name start now new pages pages' page i at n so reads len most full here part put =
    let held : now.held name ≡ start.held name = ap (λ (h : List ℕ → Option (List ℕ)). h name) so.files.held in
    let known = subst (λ (content : Option (List ℕ)). IsPartOf content at 4096 page n) held part in
    subst (λ (ps : List (Option (List ℕ))). FileSoFar name start new ps (i + 1)) (sym put) (record {
      files = OnlyReads-trans name start now new so.files reads;
      count = omega (arith, so.count, length-append pages (Some page ∷ []));
      whole = whole-snoc pages page so.whole len;
      so_far = file_more (start.held name) pages page i at n so.count so.whole len (omega arith) here so.so_far known;
    })

file_told : (content : Option (List ℕ)) (pages : List (Option (List ℕ))) (page : List ℕ) (at room n : ℕ) → length (bytes_in pages) ≡ at → n < room → IsFront (bytes_in pages) content → IsPartOf content at room page n → IsTold content (bytes_in pages ++ take n page)
file_told None pages page at room n size less front part = tt
file_told (Some bs) pages page at room n size less front part =
    let first : bytes_in pages ≡ take at bs = front ∙ ap (λ (k : ℕ). take k bs) size in
    let long : at ≤ length bs = omega (arith, size, ap length first, length-take at bs) in
    let joined : bytes_in pages ++ take n page ≡ take (at + n) bs = ap (λ b. b ++ take n page) first ∙ ap (λ p. take at bs ++ p) part.1 ∙ sym (take-add at n bs) in
    sym (joined ∙ take_all (at + n) bs (omega (arith, part.0)))

-- all pages and a part that ends before its room does
pub file_end : (content : Option (List ℕ)) (pages : List (Option (List ℕ))) (page : List ℕ) (i at room n count : ℕ) → length pages ≡ i → i ≤ 8192 → list_all is_whole_page pages ≡ true → length page ≡ 4096 → n < room → room ≤ 4096 → at ≡ 4096 * i → count ≡ at + n → at + n ≤ 33554432
    → IsFront (bytes_in pages) content → IsPartOf content at room page n → IsFileOf content pages count
file_end content pages page i at room n count is few w len less fits here sum within front part =
    let size : length (bytes_in pages) ≡ at = omega (arith, length-bytes_in pages w) in
    let rest : length (take n page) ≡ n = omega (arith, length-take n page) in
    let all : length (bytes_in pages ++ take n page) ≡ at + n = omega (arith, size, rest, length-append (bytes_in pages) (take n page)) in
    let cut : length (bytes_in pages ++ take n page) / 4096 ≡ length pages = omega (arith, all) in
    record {
      bytes = bytes_in pages ++ take n page;
      told = file_told content pages page at room n size less front part;
      within = omega (arith, all);
      are = record {
        count_is = omega (arith, all);
        whole_are = sym (ap (λ (k : ℕ). pages_in k (bytes_in pages ++ take n page)) cut ∙ pages_in-append pages (take n page) w);
      };
    }
