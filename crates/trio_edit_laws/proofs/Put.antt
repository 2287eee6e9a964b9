-- Bytes that are put into the blocks of a file: what they leave, and the bytes of the blocks then.
use Rattle.trio_edit_laws.proofs.Words.{◌*◌, ◌++◌, ◌+◌, ◌-◌, ◌/◌, ◌<◌, ◌∙◌, ◌≡◌, ◌≤◌, In, LibOut, List, Parcel, WasGiven, [], ap, append_assoc, are_new, arith, bundle_of, bundle_pages, cases_eq, eq-eqb, flat_map, get_or, get_or-In, length, length-take-le, length-with_part, min, ne_eqb, page_in, page_in-with_page_else, page_in-with_page_same, put_at, put_bytes, refl, slice_range, subst, suc, sym, take, take-append-le, take_all, true, with_page, zero, ℕ}
use Rattle.std.proofs.Common.{max}
use Rattle.trio_page.specs.Field.{with_part, zeros}
use Rattle.trio_page.proofs.Fields.{length-slice, slice-split}
use Rattle.trio_session.specs.Layout.{blocks_under, put_block, put_blocks}
use Rattle.trio_edit_laws.proofs.Pages.{length-page_in}
use Rattle.trio_edit_laws.proofs.Parts.{length-pages, pages-part, with_part-behind, with_part-none}
use Rattle.trio_edit_laws.proofs.Touches.{Touches, touches_nothing, touches_page, touches_then}

-- the blocks have the bytes that they had, but for these, from an offset on
pub record HasPut (blocks : List ℕ) (at : ℕ) (new : List ℕ) (b b' : Parcel) : Type 0 where
  pub touches : Touches (λ n. In n blocks) b b'
  pub bytes : flat_map (page_in b') blocks ≡ with_part at new (flat_map (page_in b) blocks)

-- of bytes that begin at an offset so many fall before block k
abbrev before : ℕ → List ℕ → ℕ → ℕ
before at new k = min (length new) (4096 * k - at)

module _ (out : LibOut) (b : Parcel) (given : WasGiven out b) (blocks : List ℕ) (at : ℕ) (new : List ℕ) (once : are_new [] blocks ≡ true)
    (held : (n : ℕ) → In n blocks → In n (bundle_pages (bundle_of b))) (within : at + length new ≤ 4096 * length blocks) where
  abbrev bytes : List ℕ
  bytes = flat_map (page_in b) blocks

  whole : (b' : Parcel) (n : ℕ) → Touches (λ n. In n blocks) b b' → In n blocks → length (page_in b' n) ≡ 4096
  whole b' n t i = length-page_in out b' n (t.given out given) (subst (λ l. In n l) (sym t.pages) (held n i))

  length-bytes : length bytes ≡ 4096 * length blocks
  length-bytes = length-pages (page_in b) blocks (λ n i. whole b n (touches_nothing (λ n. In n blocks) b) i)

  step : (k : ℕ) (b' : Parcel) → at / 4096 ≤ k → 4096 * k < at + length new → HasPut blocks at (take (before at new k) new) b b' → HasPut blocks at (take (before at new (suc k)) new) b (put_block blocks k at new b')
  step k b' first some done =
      let n : ℕ = get_or blocks k 0 in
      let from : ℕ = max at (4096 * k) in
      let end : ℕ = min (at + length new) (4096 * k + 4096) in
      let part : List ℕ = slice_range new (from - at) (end - at) in
      let w : List ℕ = with_part (from - 4096 * k) part (page_in b' n) in
      let l : k < length blocks = omega (arith, some, within) in
      let i : In n blocks = get_or-In blocks k 0 l in
      let one : length (page_in b' n) ≡ 4096 = whole b' n done.touches i in
      let d : ℕ = before at new k in
      let e : ℕ = before at new (suc k) in
      let d_is : from - at ≡ d = omega (arith, first, some) in
      let e_is : end - at ≡ e = omega (arith, first, some) in
      let many : length part ≡ (end - at) - (from - at) = length-slice new (from - at) (end - at) (omega (arith, first, some)) in
      let fits : (from - 4096 * k) + length part ≤ 4096 = omega (arith, many, first, some) in
      let long : length w ≡ 4096 = length-with_part (from - 4096 * k) part (page_in b' n) (omega (arith, fits, one)) ∙ one in
      let p : List ℕ = take d new in
      let p_long : length p ≡ d = length-take-le d new (omega arith) in
      let place : 4096 * k + (from - 4096 * k) ≡ at + length p = omega (arith, p_long, d_is, first, some) in
      let room : at + length p ≤ length bytes = omega (arith, p_long, length-bytes, some, within) in
      let le : d ≤ e = omega arith in
      let none_d : d - 0 ≡ d = omega arith in
      let none_e : e - 0 ≡ e = omega arith in
      let joined : p ++ part ≡ take e new =
      ap (λ x. p ++ slice_range new x (end - at)) d_is
      ∙ ap (λ x. p ++ slice_range new d x) e_is
      ∙ ap (λ x. take x new ++ slice_range new d e) (sym none_d)
      ∙ sym (slice-split 0 d e new (omega arith) le)
      ∙ ap (λ x. take x new) none_e in
      record {
        touches = touches_then (λ n. In n blocks) b b' (with_page n w b') done.touches (touches_page (λ n. In n blocks) n w b' i long);
        bytes =
            pages-part (page_in b') (page_in (with_page n w b')) blocks k (from - 4096 * k) part once l (λ m j. whole b' m done.touches j) fits
            (page_in-with_page_same n w b' (subst (λ l. In n l) (sym done.touches.pages) (held n i))) (λ m d. page_in-with_page_else n m w b' d)
            ∙ ap (with_part (4096 * k + (from - 4096 * k)) part) done.bytes
            ∙ ap (λ x. with_part x part (with_part at p bytes)) place
            ∙ with_part-behind at p part bytes room
            ∙ ap (λ z. with_part at z bytes) joined;
      }

  loop : (more k : ℕ) (b' : Parcel) → at / 4096 ≤ k → 4096 * (k + more) < at + length new + 4096 → HasPut blocks at (take (before at new k) new) b b'
      → HasPut blocks at (take (before at new (k + more)) new) b (put_blocks blocks k more at new b')
  loop zero k b' first some done = (let e : k ≡ k + 0 = omega arith in subst (λ n. HasPut blocks at (take (before at new n) new) b b') e done)
  loop (suc more) k b' first some done =
      let e : suc k + more ≡ k + suc more = omega arith in
      let now : 4096 * k < at + length new = omega (arith, some) in
      let later : 4096 * (suc k + more) < at + length new + 4096 = omega (arith, some) in
      subst (λ n. HasPut blocks at (take (before at new n) new) b (put_blocks blocks k (suc more) at new b')) e
      (loop more (suc k) (put_block blocks k at new b') (omega (arith, first)) later (step k b' first now done))

  pub put_done : HasPut blocks at new b (put_bytes blocks at new b)
  put_done =
      let first : ℕ = at / 4096 in
      let more : ℕ = blocks_under at (length new) in
      let begin : HasPut blocks at (take (before at new first) new) b b = search (arith, touches_nothing, with_part-none) in
      let c = count in
      let all : take (before at new (first + more)) new ≡ new = take_all (before at new (first + more)) new (omega (arith, c.1)) in
      subst (λ z. HasPut blocks at z b (put_bytes blocks at new b)) all (loop more first b (omega arith) c.0 begin)
    where
      count : (4096 * (at / 4096 + blocks_under at (length new)) < at + length new + 4096) × (length new ≤ 4096 * (at / 4096 + blocks_under at (length new)) - at)
      count = search (arith, cases_eq, eq-eqb, ne_eqb)

-- within the size of a file that is what a write makes of its bytes
pub with_part-put_at : (at : ℕ) (new old : List ℕ) → at + length new ≤ length old → with_part at new old ≡ put_at at new old
unfolding with_part
with_part-put_at at new old l = search (arith, with_part-none, take-append-le, append_assoc)

-- where no byte is put, nothing changes
pub put_none : (blocks : List ℕ) (at : ℕ) (b : Parcel) → put_bytes blocks at (zeros 0) b ≡ b
unfolding zeros
put_none blocks at b = refl
