-- Pages that bytes are cut into, and bytes that pages are joined to.
use Rattle.trio_image.proofs.Words.{◌*◌, ◌++◌, ◌+◌, ◌∙◌, ◌∷◌, ◌≡◌, ◌≤◌, List, None, Option, Some, [], ap, arith, bytes_in, drop, drop-append_seam, drop-drop, get_or, is_whole_page, length, length-append, length-drop, length-take, list_all, list_all-append, pages_in, refl, suc, sym, take, take-append_seam, true, zero, ℕ}
use Rattle.std.proofs.Common.{eq-eqb, eqb-true, ◌==◌, append_assoc}
use Rattle.std.specs.Prelude.{set, unwrap_or, ◌<◌}
use Rattle.std.proofs.lemmas.List.{append-nil, drop-set-lt, take_more}
use Rattle.std.proofs.Math.Seq.{drop-nil}
use Rattle.std.proofs.lemmas.Bool.{and_parts}
use Rattle.std.proofs.lemmas.Grind.{flat_map-append}

pub length-pages_in : (n : ℕ) (bytes : List ℕ) → length (pages_in n bytes) ≡ n
length-pages_in zero bytes = refl
length-pages_in (suc n) bytes = ap suc (length-pages_in n (drop 4096 bytes))

pub front_of : (n : ℕ) (xs ys : List ℕ) → length xs ≡ n → take n (xs ++ ys) ≡ xs
front_of n xs ys len = ap (λ (k : ℕ). take k (xs ++ ys)) (sym len) ∙ take-append_seam xs ys

pub back_of : (n : ℕ) (xs ys : List ℕ) → length xs ≡ n → drop n (xs ++ ys) ≡ ys
back_of n xs ys len = ap (λ (k : ℕ). drop k (xs ++ ys)) (sym len) ∙ drop-append_seam xs ys

-- ---- whole pages

pub whole_pages_in : (n : ℕ) (bytes : List ℕ) → 4096 * n ≤ length bytes → list_all is_whole_page (pages_in n bytes) ≡ true
whole_pages_in zero bytes le = refl
whole_pages_in (suc n) bytes le =
    let first : length (take 4096 bytes) ≡ 4096 = omega (arith, length-take 4096 bytes) in
    let rest : 4096 * n ≤ length (drop 4096 bytes) = omega (arith, length-drop 4096 bytes) in
    rw (eq-eqb (length (take 4096 bytes)) 4096 first) (whole_pages_in n (drop 4096 bytes) rest)

-- a page of whole ones
whole_first : (page : List ℕ) (rest : List (Option (List ℕ))) → list_all is_whole_page (Some page ∷ rest) ≡ true → (length page ≡ 4096) × (list_all is_whole_page rest ≡ true)
whole_first page rest w = let p = and_parts (length page == 4096) (list_all is_whole_page rest) w in (eqb-true (length page) 4096 p.0, p.1)

pub length-bytes_in : (pages : List (Option (List ℕ))) → list_all is_whole_page pages ≡ true → length (bytes_in pages) ≡ 4096 * length pages
length-bytes_in [] w = refl
length-bytes_in (None ∷ pages) w = absurd cc
length-bytes_in (Some page ∷ pages) w =
    let p = whole_first page pages w in
    omega (arith, p.0, length-bytes_in pages p.1, length-append page (bytes_in pages))

-- the pages of their bytes are they, whatever follows
pub pages_in-append : (pages : List (Option (List ℕ))) (rest : List ℕ) → list_all is_whole_page pages ≡ true → pages_in (length pages) (bytes_in pages ++ rest) ≡ pages
pages_in-append [] rest w = refl
pages_in-append (None ∷ pages) rest w = absurd cc
pages_in-append (Some page ∷ pages) rest w =
    let p = whole_first page pages w in
    let seam : (page ++ bytes_in pages) ++ rest ≡ page ++ (bytes_in pages ++ rest) = append_assoc page (bytes_in pages) rest in
    let front : take 4096 (page ++ (bytes_in pages ++ rest)) ≡ page = front_of 4096 page (bytes_in pages ++ rest) p.0 in
    let back : drop 4096 (page ++ (bytes_in pages ++ rest)) ≡ bytes_in pages ++ rest = back_of 4096 page (bytes_in pages ++ rest) p.0 in
    rw (seam, front, back) (ap (λ ps. Some page ∷ ps) (pages_in-append pages rest p.1))

pub pages_again : (pages : List (Option (List ℕ))) → list_all is_whole_page pages ≡ true → pages_in (length pages) (bytes_in pages) ≡ pages
pages_again pages w = ap (pages_in (length pages)) (sym (append-nil (bytes_in pages))) ∙ pages_in-append pages [] w

-- the first page begins the bytes
pub first_bytes : (pages : List (Option (List ℕ))) (page : List ℕ) → list_all is_whole_page pages ≡ true → get_or pages 0 None ≡ Some page → take 4096 (bytes_in pages) ≡ page
first_bytes [] page w is = absurd cc
first_bytes (None ∷ pages) page w is = absurd cc
first_bytes (Some p ∷ pages) page w is =
    let same : p ≡ page = cc in front_of 4096 p (bytes_in pages) (whole_first p pages w).0 ∙ same

pub bytes_in-snoc : (pages : List (Option (List ℕ))) (page : List ℕ) → bytes_in (pages ++ Some page ∷ []) ≡ bytes_in pages ++ page
bytes_in-snoc pages page = flat_map-append _ pages (Some page ∷ []) ∙ ap (λ rest. bytes_in pages ++ rest) (append-nil page)

pub whole-snoc : (pages : List (Option (List ℕ))) (page : List ℕ) → list_all is_whole_page pages ≡ true → length page ≡ 4096 → list_all is_whole_page (pages ++ Some page ∷ []) ≡ true
whole-snoc pages page w len = list_all-append is_whole_page pages (Some page ∷ []) ∙ (rw (w, eq-eqb (length page) 4096 len) refl)

-- ---- pages that are taken one after another

pub taken_rest : (i : ℕ) (now pages : List (Option (List ℕ))) → drop i now ≡ drop i pages → drop (i + 1) (set now i None) ≡ drop (i + 1) pages
taken_rest i now pages same =
    drop-set-lt (i + 1) now i None (omega arith) ∙ sym (drop-drop 1 i now) ∙ ap (drop 1) same ∙ drop-drop 1 i pages

pub taken_page : (i : ℕ) (now pages : List (Option (List ℕ))) → drop i now ≡ drop i pages → get_or now i None ≡ get_or pages i None
taken_page zero now pages same = ap (λ ps. get_or ps 0 None) same
taken_page (suc i) [] [] same = refl
taken_page (suc i) [] (p ∷ pages) same = taken_page i [] pages (drop-nil i ∙ same)
taken_page (suc i) (n ∷ now) [] same = taken_page i now [] (same ∙ sym (drop-nil i))
taken_page (suc i) (n ∷ now) (p ∷ pages) same = taken_page i now pages same

pub taken_bytes : (i : ℕ) (now pages : List (Option (List ℕ))) (page : Option (List ℕ)) (bytes bytes' : List ℕ) → drop i now ≡ drop i pages → page ≡ get_or now i None → i < length pages → bytes ≡ bytes_in (take i pages) → bytes' ≡ bytes ++ unwrap_or page [] → bytes' ≡ bytes_in (take (i + 1) pages)
taken_bytes i now pages page bytes bytes' same is lt so_far put =
    let last : page ≡ get_or pages i None = is ∙ taken_page i now pages same in
    let more : take (i + 1) pages ≡ take i pages ++ get_or pages i None ∷ [] = take_more pages i None lt in
    let split : bytes_in (take (i + 1) pages) ≡ bytes_in (take i pages) ++ unwrap_or (get_or pages i None) [] =
    ap bytes_in more ∙ flat_map-append _ (take i pages) (get_or pages i None ∷ []) ∙ ap (λ rest. bytes_in (take i pages) ++ rest) (append-nil (unwrap_or (get_or pages i None) [])) in
    put ∙ ap (λ b. b ++ unwrap_or page []) so_far ∙ ap (λ (p : Option (List ℕ)). bytes_in (take i pages) ++ unwrap_or p []) last ∙ sym split
