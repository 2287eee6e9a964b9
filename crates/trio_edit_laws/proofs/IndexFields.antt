-- The fields of a file's index pages, by the numbers of these pages: what index pages say, and index pages that say it.
use Rattle.trio_edit_laws.proofs.Words.{◌%◌, ◌*◌, ◌++◌, ◌+◌, ◌-◌, ◌/◌, ◌<◌, ◌^◌, ◌∙◌, ◌∷◌, ◌≡◌, ◌≤◌, Bool, Core, CoreRange, In, In-take, Index, IsBytes, IsNamed, List, Option, Some, [], and_parts, ap, arith, bytes_eq-true, cases_lt, cond_some, drop, eqb, flat_map, get_or, get_or-In, get_or-append_right, get_or-take, get_or_append_left, get_or_past, index_count, inl, inr, is_core, length, length-append, length-drop, length-take, length-zeros, list_all, lt-ltb, min, ne_eqb, number_at, page_of, refl, some_one, subst, suc, sym, take, to_le_bytes, true, w64, wide64, with_part, zero, ℕ}
use Rattle.std.proofs.Common.{nat_lt, eq-eqb}
use Rattle.std.proofs.lemmas.List.{get_or-drop, get_or_default}
use Rattle.std.proofs.lemmas.List.Sums.{list_all-from_AllPass}
use Rattle.std.proofs.lemmas.Grind.{same_number_lists}
use Rattle.trio_page.specs.Field.{with_number}
use Rattle.trio_page.proofs.Fields.{get_or-with_part_above, get_or-with_part_below, get_or-with_part_in, length-to_le_bytes}
use Rattle.trio_page.proofs.Cursor.{number_at-lt}
use Rattle.trio_layout.specs.Index.{index_bytes, index_of, link_fits, numbers_in}
use Rattle.trio_layout.specs.inner.Fields.{AreNumbers}
use Rattle.trio_layout.proofs.IndexPages.{found, index_value, length-numbers_in, numbers_in-at, only}
use Rattle.trio_edit_laws.specs.session.Chains.{NamesShare}

-- ---- bytes

pub In-drop : {X : Type 0} (n : ℕ) (x : X) (xs : List X) → In x (drop n xs) → In x xs
In-drop zero x xs i = i
In-drop (suc n) x [] i = i
In-drop (suc n) x (y ∷ ys) i = inr (In-drop n x ys i)

pub small-to_le_bytes : (n : ℕ) → IsBytes (to_le_bytes w64 n)
small-to_le_bytes n zero = omega arith
small-to_le_bytes n (suc zero) = omega arith
small-to_le_bytes n (suc (suc zero)) = omega arith
small-to_le_bytes n (suc (suc (suc zero))) = omega arith
small-to_le_bytes n (suc (suc (suc (suc zero)))) = omega arith
small-to_le_bytes n (suc (suc (suc (suc (suc zero))))) = omega arith
small-to_le_bytes n (suc (suc (suc (suc (suc (suc zero)))))) = omega arith
small-to_le_bytes n (suc (suc (suc (suc (suc (suc (suc zero))))))) = omega arith
small-to_le_bytes n (suc (suc (suc (suc (suc (suc (suc (suc i)))))))) = omega arith

small-append : (xs ys : List ℕ) → IsBytes xs → IsBytes ys → IsBytes (xs ++ ys)
small-append xs ys a b i = search (arith, cases_lt, get_or_append_left, get_or-append_right)

pub small-with_part : (at : ℕ) (part bytes : List ℕ) → at + length part ≤ length bytes → IsBytes part → IsBytes bytes → IsBytes (with_part at part bytes)
small-with_part at part bytes fits a b i =
    elim (cases_lt i at) [
      | inl lt ↦ rw (get_or-with_part_below at part bytes i 0 fits lt) (b i)
      | inr le ↦ elim (cases_lt i (at + length part)) [
        | inl lt ↦
            let here : at + (i - at) ≡ i = omega arith in
            let e : get_or (with_part at part bytes) i 0 ≡ get_or part (i - at) 0 =
            ap (λ k. get_or (with_part at part bytes) k 0) (sym here) ∙ get_or-with_part_in at part bytes (i - at) 0 fits (omega arith) in
            rw e (a (i - at))
        | inr ge ↦ rw (get_or-with_part_above at part bytes i 0 fits ge) (b i)
      ]
    ]

pub small-with_number : (at n : ℕ) (bytes : List ℕ) → at + 8 ≤ length bytes → IsBytes bytes → IsBytes (with_number w64 at n bytes)
unfolding with_number
small-with_number at n bytes fits b = small-with_part at (to_le_bytes w64 n) bytes fits (small-to_le_bytes n) b

small-flat_map : (ns : List ℕ) → IsBytes (flat_map (to_le_bytes w64) ns)
small-flat_map [] = λ i. omega arith
small-flat_map (n ∷ ns) = small-append (to_le_bytes w64 n) (flat_map (to_le_bytes w64) ns) (small-to_le_bytes n) (small-flat_map ns)

length-flat_map : (ns : List ℕ) → length (flat_map (to_le_bytes w64) ns) ≡ 8 * length ns
length-flat_map [] = refl
length-flat_map (n ∷ ns) = omega (arith, length-append (to_le_bytes w64 n) (flat_map (to_le_bytes w64) ns), length-to_le_bytes w64 n, length-flat_map ns)

small-index_bytes : (i : Index) → IsBytes (index_bytes i)
unfolding index_bytes
small-index_bytes i = search (arith, small-append, small-flat_map, small-to_le_bytes)

length-index_bytes : (i : Index) → length i.numbers ≤ 511 → length (index_bytes i) ≡ 4096
unfolding index_bytes
length-index_bytes i room = search (arith, length-append, length-to_le_bytes, length-flat_map, length-zeros)

-- ---- one index page

-- the bytes of a page are 4096, and say these numbers, with zeros behind them, and this link
pub record PageSays (bytes numbers : List ℕ) (next : ℕ) : Type 0 where
  pub whole : length bytes ≡ 4096
  pub small : IsBytes bytes
  pub numbers_at : (k : ℕ) → k < 511 → number_at w64 (8 * k) bytes ≡ get_or numbers k 0
  pub link_at : number_at w64 4088 bytes ≡ next

narrow-numbers_in : (used : ℕ) (bytes : List ℕ) → IsBytes bytes → list_all (λ n. nat_lt n (2 ^ 64)) (numbers_in used bytes) ≡ true
narrow-numbers_in used bytes small =
    list_all-from_AllPass (λ n. nat_lt n (2 ^ 64)) (numbers_in used bytes) (λ k d lt.
    let below : k < used = omega (arith, length-numbers_in used bytes) in
    ap (λ n. nat_lt n (2 ^ 64)) (get_or_default (numbers_in used bytes) k d 0 lt ∙ numbers_in-at used k bytes below)
    ∙ lt-ltb (number_at w64 (8 * k) bytes) (2 ^ 64) (number_at-lt w64 (2 ^ 64) wide64 (8 * k) bytes small))

-- what an index page says that is read
pub says-index_of : (used : ℕ) (last : Bool) (range : CoreRange) (bytes : List ℕ) (i : Index) → used ≤ 511 → index_of used last range bytes ≡ Some i → PageSays bytes i.numbers i.next
unfolding index_of
says-index_of used last range bytes i room e = search (arith, cond_some, and_parts, bytes_eq-true, length-numbers_in, length-index_bytes, small-index_bytes, only, narrow-numbers_in, number_at-lt, wide64, PageSays, cases_lt, numbers_in-at, get_or_past)

-- a page that says what fits is read
pub index_of-says : (used : ℕ) (last : Bool) (range : CoreRange) (bytes ns : List ℕ) (next : ℕ) → used ≤ 511 → PageSays bytes ns next → length ns ≡ used
    → ((n : ℕ) → In n ns → is_core range n ≡ true) → link_fits last range next ≡ true
    → index_of used last range bytes ≡ Some (record { numbers = ns; next = next })
index_of-says used last range bytes ns next room s many core fits =
    let are : AreNumbers used range bytes = search (arith, get_or-In, get_or_past) in
    let is = found used last range bytes s.small s.whole room are (ap (link_fits last range) s.link_at ∙ fits) in
    let len = length-numbers_in used bytes in
    let same : numbers_in used bytes ≡ ns =
    same_number_lists (numbers_in used bytes) ns (len ∙ sym many) (λ k lt. numbers_in-at used k bytes (omega (arith, len)) ∙ s.numbers_at k (omega (arith, len))) in
    let of : List ℕ → ℕ → Option Index = λ l n. Some (record { numbers = l; next = n }) in
    sym (index_value used last range bytes room s.small is) ∙ ap (λ l. of l (number_at w64 4088 bytes)) same ∙ ap (of ns) s.link_at

-- ---- the index pages of a file

-- Each of these pages has 4096 bytes. Number j along them stands at its place, 511 to a page, and so does each link.
pub record IndexSays (page : ℕ → List ℕ) (index : List ℕ) (number link : ℕ → ℕ) : Type 0 where
  pub whole : (k : ℕ) → k < length index → length (page (get_or index k 0)) ≡ 4096
  pub small : (k : ℕ) → k < length index → IsBytes (page (get_or index k 0))
  pub numbers : (j : ℕ) → j < 511 * length index → number_at w64 (8 * (j % 511)) (page (get_or index (j / 511) 0)) ≡ number j
  pub links : (k : ℕ) → k < length index → number_at w64 4088 (page (get_or index k 0)) ≡ link k

-- the pages are there
abbrev pub AreAt : Core → (ℕ → List ℕ) → List ℕ → Type 0
AreAt core page ns = (n : ℕ) → In n ns → page_of core n ≡ Some (page n)

share_at : (blocks : List ℕ) (k r : ℕ) → r < 511 → get_or (take 511 (drop (511 * k) blocks)) r 0 ≡ get_or blocks (511 * k + r) 0
share_at blocks k r lt = get_or-take 511 (drop (511 * k) blocks) r 0 lt ∙ get_or-drop (511 * k) blocks r 0

-- index pages that name blocks say their numbers
pub says-named : (core : Core) (page : ℕ → List ℕ) (index blocks : List ℕ) → IsNamed core index blocks → AreAt core page index → IndexSays page index (λ j. get_or blocks j 0) (λ k. get_or index (suc k) 0)
says-named core page index blocks named at = record {
  whole = λ k lt. (one k lt).whole;
  small = λ k lt. (one k lt).small;
  numbers = λ j lt.
      let r : j % 511 < 511 = omega arith in
      let whole : 511 * (j / 511) + j % 511 ≡ j = omega arith in
      (one (j / 511) (omega arith)).numbers_at (j % 511) r ∙ share_at blocks (j / 511) (j % 511) r ∙ ap (λ n. get_or blocks n 0) whole;
  links = λ k lt. (one k lt).link_at;
}
  where
    one : (k : ℕ) → k < length index → PageSays (page (get_or index k 0)) (take 511 (drop (511 * k) blocks)) (get_or index (suc k) 0)
    one k lt =
        let s = named.each k lt in
        let same : s.bytes ≡ page (get_or index k 0) = some_one (page_of core (get_or index k 0)) s.bytes (page (get_or index k 0)) s.there (at (get_or index k 0) (get_or-In index k 0 lt)) in
        let used : min (length blocks - 511 * k) 511 ≤ 511 = omega arith in
        subst (λ l. PageSays l (take 511 (drop (511 * k) blocks)) (get_or index (suc k) 0)) same
        (says-index_of (min (length blocks - 511 * k) 511) (eqb (suc k) (length index)) core.range s.bytes (record { numbers = take 511 (drop (511 * k) blocks); next = get_or index (suc k) 0 }) used s.names)

-- all are core pages
abbrev pub AreCore : CoreRange → List ℕ → Type 0
AreCore range ns = (n : ℕ) → In n ns → is_core range n ≡ true

-- index pages that say the numbers of blocks name them
pub named-says : (core : Core) (page : ℕ → List ℕ) (index blocks : List ℕ) → length index ≡ index_count (length blocks) → AreAt core page index → AreCore core.range index → AreCore core.range blocks
    → IndexSays page index (λ j. get_or blocks j 0) (λ k. get_or index (suc k) 0) → IsNamed core index blocks
named-says core page index blocks many at core_index core_blocks s = record { many = many; each = one }
  where
    fits : (k : ℕ) → k < length index → link_fits (eqb (suc k) (length index)) core.range (get_or index (suc k) 0) ≡ true
    fits k lt = search (arith, cases_lt, ne_eqb, get_or-In, eq-eqb, get_or_past)

    one : (k : ℕ) → k < length index → NamesShare core index blocks k
    one k lt =
        let n : ℕ = get_or index k 0 in
        let share : List ℕ = take 511 (drop (511 * k) blocks) in
        let used : ℕ = min (length blocks - 511 * k) 511 in
        let len : length share ≡ used = omega (arith, length-take 511 (drop (511 * k) blocks), length-drop (511 * k) blocks) in
        let room : used ≤ 511 = omega arith in
        let says : PageSays (page n) share (get_or index (suc k) 0) =
        record {
          whole = s.whole k lt;
          small = s.small k lt;
          numbers_at = λ r below.
              let high : (511 * k + r) / 511 ≡ k = omega arith in
              let low : (511 * k + r) % 511 ≡ r = omega arith in
              ap (λ m. number_at w64 (8 * m) (page n)) (sym low)
              ∙ ap (λ m. number_at w64 (8 * ((511 * k + r) % 511)) (page (get_or index m 0))) (sym high)
              ∙ s.numbers (511 * k + r) (omega arith)
              ∙ sym (share_at blocks k r below);
          link_at = s.links k lt;
        } in
        record {
          bytes = page n;
          there = at n (get_or-In index k 0 lt);
          names = index_of-says used (eqb (suc k) (length index)) core.range (page n) share (get_or index (suc k) 0) room says len
              (λ m i. core_blocks m (In-drop (511 * k) m blocks (In-take 511 m (drop (511 * k) blocks) i))) (fits k lt);
        }

-- what other bytes of other pages leave
pub says-same : (page page' : ℕ → List ℕ) (index : List ℕ) (number link : ℕ → ℕ) → ((n : ℕ) → In n index → page' n ≡ page n) → IndexSays page index number link → IndexSays page' index number link
says-same page page' index number link same s = search (arith, get_or-In)
