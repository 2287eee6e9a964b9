-- The index pages of a file that was cut.
use Rattle.trio_edit_laws.proofs.Words.{◌%◌, ◌*◌, ◌+◌, ◌-◌, ◌/◌, ◌<◌, ◌∙◌, ◌≡◌, ◌≤◌, IsBytes, List, Parcel, [], ap, are_new, arith, cases_lt, drop, get_or, get_or-take, get_or_past, index_count, length, length-take, number_at, page_in, subst, suc, sym, take, true, unlinked, unnamed, w64, ℕ}
use Rattle.trio_edit_laws.proofs.IndexFields.{In-drop, IndexSays}
use Rattle.trio_edit_laws.proofs.Links.{AreInHand, AreWhole, Kept, in_hand-through, kept-through, kept_then, says-unlinked, says-unnamed, unlinked-through, unnamed-through}

-- a parcel in which the index pages of a chain name its first c blocks alone
abbrev pub chain_unnamed : List ℕ → List ℕ → ℕ → Parcel → Parcel
chain_unnamed index blocks c b = unlinked (drop (index_count c - 1) index) (unnamed index c (length blocks - c) b)

take_at_past : (xs : List ℕ) (c j : ℕ) → c ≤ j → get_or (take c xs) j 0 ≡ 0
take_at_past xs c j le = get_or_past (take c xs) j 0 (omega (arith, length-take c xs))

pub says-cut : (b : Parcel) (index blocks : List ℕ) (c : ℕ) → IndexSays (page_in b) index (λ j. get_or blocks j 0) (λ k. get_or index (suc k) 0)
    → are_new [] index ≡ true → AreInHand b index → length index ≡ index_count (length blocks) → c ≤ length blocks
    → IndexSays (page_in (chain_unnamed index blocks c b)) (take (index_count c) index) (λ j. get_or (take c blocks) j 0) (λ k. get_or (take (index_count c) index) (suc k) 0)
says-cut b index blocks c s once are many le =
    let left : ℕ = index_count c in
    let from : ℕ = left - 1 in
    let within : left ≤ length index = omega arith in
    let fits : c + (length blocks - c) ≤ 511 * length index = omega arith in
    let b1 : Parcel = unnamed index c (length blocks - c) b in
    let s1 : IndexSays (page_in b1) index (λ j. get_or (take c blocks) j 0) (λ k. get_or index (suc k) 0) = search (arith, says-unnamed, take_at_past, cases_lt, get_or-take, get_or_past) in
    let are1 : AreInHand b1 index =
    unnamed-through index (λ b b'. (ns : List ℕ) → AreInHand b ns → AreInHand b' ns) (in_hand-through index) index c (length blocks - c) b fits (λ n h. h) index are in
    let link : ℕ → ℕ = λ k. get_or (take left index) (suc k) 0 in
    let s2 : IndexSays (page_in (unlinked (drop from index) b1)) index (λ j. get_or (take c blocks) j 0) link =
    says-unlinked (length index - from) index from b1 (λ j. get_or (take c blocks) j 0) (λ k. get_or index (suc k) 0) link s1 once are1 (omega arith)
    (λ k lt. get_or-take left index (suc k) 0 (omega arith))
    (λ k le' lt. take_at_past index left (suc k) (omega arith)) in
    let len : length (take left index) ≡ left = omega (arith, length-take left index) in
    let page : ℕ → List ℕ = page_in (unlinked (drop from index) b1) in
    let at : (k : ℕ) → k < length (take left index) → get_or (take left index) k 0 ≡ get_or index k 0 = λ k lt. get_or-take left index k 0 (omega (arith, len)) in
    record {
      whole = λ k lt. ap (λ n. length (page n)) (at k lt) ∙ s2.whole k (omega (arith, len));
      small = λ k lt. subst (λ n. IsBytes (page n)) (sym (at k lt)) (s2.small k (omega (arith, len)));
      numbers = λ j lt. ap (λ n. number_at w64 (8 * (j % 511)) (page n)) (at (j / 511) (omega arith)) ∙ s2.numbers j (omega (arith, len));
      links = λ k lt. ap (λ n. number_at w64 4088 (page n)) (at k lt) ∙ s2.links k (omega (arith, len));
    }

pub kept-cut : (b : Parcel) (index blocks : List ℕ) (c : ℕ) → AreInHand b index → AreWhole b index → length index ≡ index_count (length blocks) → c ≤ length blocks
    → Kept index b (chain_unnamed index blocks c b)
kept-cut b index blocks c are whole many le =
    let from : ℕ = index_count c - 1 in
    let fits : c + (length blocks - c) ≤ 511 * length index = omega arith in
    let R : Parcel → Parcel → Type 0 = λ b b'. AreInHand b index → AreWhole b index → Kept index b b' in
    let b1 : Parcel = unnamed index c (length blocks - c) b in
    kept_then index b b1 (chain_unnamed index blocks c b)
    (unnamed-through index R (kept-through index) index c (length blocks - c) b fits (λ n h. h) are whole)
    (unlinked-through index R (kept-through index) (drop from index) b1 (λ n h. In-drop from n index h))
