-- The index pages of a file that grew.
use Rattle.trio_edit_laws.proofs.Words.{◌%◌, ◌*◌, ◌++◌, ◌+◌, ◌-◌, ◌/◌, ◌<◌, ◌^◌, ◌∙◌, ◌≡◌, ◌≤◌, In, IsBytes, List, Parcel, [], ap, are_new, arith, cases_lt, drop, get_or, get_or-In, get_or-append_right, get_or_append_left, get_or_past, inl, inr, length, length-append, length-zeros, linked, number_at, numbered, page_in, refl, subst, suc, sym, true, w64, ℕ}
use Rattle.std.proofs.lemmas.List.{get_or-replicate}
use Rattle.trio_page.specs.Field.{zeros}
use Rattle.trio_page.proofs.Zeros.{number64_zeros}
use Rattle.trio_edit_laws.proofs.IndexFields.{In-drop, IndexSays}
use Rattle.trio_edit_laws.proofs.Links.{AreInHand, AreWhole, Kept, in_hand-through, kept-through, kept_then, linked-through, numbered-through, says-linked, says-numbered}

pub small-zeros : (n : ℕ) → IsBytes (zeros n)
unfolding zeros
small-zeros n i = search (arith, cases_lt, get_or-replicate, get_or_past, length-zeros)

-- an index page of a chain and of further index pages is one of either
at_either : (page : ℕ → List ℕ) (index more : List ℕ) (k : ℕ) → ((n : ℕ) → In n more → page n ≡ zeros 4096) → length index ≤ k → k < length (index ++ more) → page (get_or (index ++ more) k 0) ≡ zeros 4096
at_either page index more k clear le lt = search (arith, get_or-append_right, length-append, get_or-In)

-- further index pages that are all zero say no numbers and no links
pub says-more : (page : ℕ → List ℕ) (index more blocks : List ℕ) → IndexSays page index (λ j. get_or blocks j 0) (λ k. get_or index (suc k) 0) → ((n : ℕ) → In n more → page n ≡ zeros 4096)
    → length blocks ≤ 511 * length index → IndexSays page (index ++ more) (λ j. get_or blocks j 0) (λ k. get_or index (suc k) 0)
says-more page index more blocks s clear fits = record {
  whole = λ k lt. elim (cases_lt k (length index)) [
    | inl l ↦ ap (λ n. length (page n)) (get_or_append_left index more 0 k l) ∙ s.whole k l
    | inr g ↦ ap length (at_either page index more k clear g lt) ∙ length-zeros 4096
  ];
  small = λ k lt. elim (cases_lt k (length index)) [
    | inl l ↦ subst (λ n. IsBytes (page n)) (sym (get_or_append_left index more 0 k l)) (s.small k l)
    | inr g ↦ subst IsBytes (sym (at_either page index more k clear g lt)) (small-zeros 4096)
  ];
  numbers = λ j lt. elim (cases_lt (j / 511) (length index)) [
    | inl l ↦ ap (λ n. number_at w64 (8 * (j % 511)) (page n)) (get_or_append_left index more 0 (j / 511) l) ∙ s.numbers j (omega arith)
    | inr g ↦
        ap (number_at w64 (8 * (j % 511))) (at_either page index more (j / 511) clear g (omega arith))
        ∙ number64_zeros (8 * (j % 511)) 4096 (omega arith) ∙ sym (get_or_past blocks j 0 (omega arith))
  ];
  links = λ k lt. elim (cases_lt k (length index)) [
    | inl l ↦ ap (λ n. number_at w64 4088 (page n)) (get_or_append_left index more 0 k l) ∙ s.links k l
    | inr g ↦ ap (number_at w64 4088) (at_either page index more k clear g lt) ∙ number64_zeros 4088 4096 (omega arith) ∙ sym (get_or_past index (suc k) 0 (omega arith))
  ];
}

-- a parcel in which further index pages are linked behind those of a chain, and name further blocks
abbrev pub chain_named : List ℕ → List ℕ → List ℕ → List ℕ → Parcel → Parcel
chain_named index more blocks rest b = numbered (index ++ more) (length blocks) rest (linked (drop (length index - 1) (index ++ more)) b)

pub says-grown : (b : Parcel) (index more blocks rest : List ℕ) → IndexSays (page_in b) index (λ j. get_or blocks j 0) (λ k. get_or index (suc k) 0) → ((n : ℕ) → In n more → page_in b n ≡ zeros 4096)
    → are_new [] (index ++ more) ≡ true → AreInHand b (index ++ more) → length blocks ≤ 511 * length index → length blocks + length rest ≤ 511 * length (index ++ more)
    → ((n : ℕ) → In n (index ++ more) → n < 2 ^ 64) → ((n : ℕ) → In n rest → n < 2 ^ 64)
    → IndexSays (page_in (chain_named index more blocks rest b)) (index ++ more) (λ j. get_or (blocks ++ rest) j 0) (λ k. get_or (index ++ more) (suc k) 0)
says-grown b index more blocks rest s clear once are fits fits' small small_rest =
    let all : List ℕ = index ++ more in
    let i : ℕ = length index - 1 in
    let len = length-append index more in
    let b1 : Parcel = linked (drop i all) b in
    let s0 = says-more (page_in b) index more blocks s clear fits in
    let s1 : IndexSays (page_in b1) all (λ j. get_or blocks j 0) (λ k. get_or all (suc k) 0) =
    says-linked (length all - i) all i b (λ j. get_or blocks j 0) (λ k. get_or index (suc k) 0) s0 once are (omega (arith, len)) small
    (λ k lt. sym (get_or_append_left index more 0 (suc k) (omega arith)))
    (λ k e. get_or_past index (suc k) 0 (omega (arith, len))) in
    let are1 : AreInHand b1 all =
    linked-through all (λ b b'. (ns : List ℕ) → AreInHand b ns → AreInHand b' ns) (in_hand-through all) (drop i all) b (λ n h. In-drop i n all h) all are in
    says-numbered all (length blocks) rest b1 blocks (λ k. get_or all (suc k) 0) s1 once are1 refl fits' small_rest

pub kept-grown : (b : Parcel) (index more blocks rest : List ℕ) → AreInHand b (index ++ more) → AreWhole b (index ++ more) → length blocks + length rest ≤ 511 * length (index ++ more)
    → Kept (index ++ more) b (chain_named index more blocks rest b)
kept-grown b index more blocks rest are whole fits =
    let all : List ℕ = index ++ more in
    let i : ℕ = length index - 1 in
    let R : Parcel → Parcel → Type 0 = λ b b'. AreInHand b (index ++ more) → AreWhole b (index ++ more) → Kept (index ++ more) b b' in
    kept_then all b (linked (drop i all) b) (chain_named index more blocks rest b)
    (linked-through all R (kept-through all) (drop i all) b (λ n h. In-drop i n all h) are whole)
    (numbered-through all R (kept-through all) all (length blocks) rest (linked (drop i all) b) fits (λ n h. h))
