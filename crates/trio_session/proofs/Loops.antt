-- One step of each edit, and its end.
use Rattle.trio_session.proofs.Words.{◌+◌, ◌-◌, ◌<◌, ◌∙◌, ◌∷◌, ◌≡◌, ◌≤◌, Chain, FilePlace, IsFile, Laid, List, Parcel, [], ap, arith, chain_at, drop, drop-cons, get_or, length, length-drop, linked, numbered, put_block, put_blocks, refl, subst, suc, sym, unlinked, unnamed, with_block_number, with_number_in, with_page, ℕ}
use Rattle.trio_session.proofs.Stays.{chain_stays, file_stays}

-- after a page was written the file and its chain are as before
pub file_still : (b b' : Parcel) (file : FilePlace) (l : Laid) (n : ℕ) (w : List ℕ) → b' ≡ with_page n w b → IsFile b file l → IsFile b' file l
file_still b b' file l n w e is = subst (λ x. IsFile x file l) (sym e) (file_stays n w b file l is)

pub chain_still : (b b' : Parcel) (file : FilePlace) (l : Laid) (n : ℕ) (w : List ℕ) (c : Chain) → b' ≡ with_page n w b → chain_at b file l ≡ c → chain_at b' file l ≡ c
chain_still b b' file l n w c e is = ap (λ x. chain_at x file l) e ∙ chain_stays n w b file l ∙ is

pub put_step : (blocks : List ℕ) (k end at : ℕ) (bytes : List ℕ) (b b' : Parcel) → k < end → b' ≡ put_block blocks k at bytes b
    → put_blocks blocks (k + 1) (end - (k + 1)) at bytes b' ≡ put_blocks blocks k (end - k) at bytes b
put_step blocks k end at bytes b b' lt e =
    let more : end - k ≡ suc (end - (k + 1)) = omega arith in
    let next : k + 1 ≡ suc k = omega arith in
    ap (λ m. put_blocks blocks m (end - (k + 1)) at bytes b') next
    ∙ ap (λ x. put_blocks blocks (suc k) (end - (k + 1)) at bytes x) e
    ∙ sym (ap (λ m. put_blocks blocks k m at bytes b) more)

pub put_end : (blocks : List ℕ) (k end at : ℕ) (bytes : List ℕ) (b : Parcel) → end ≤ k → put_blocks blocks k (end - k) at bytes b ≡ b
put_end blocks k end at bytes b le = let none : end - k ≡ 0 = omega arith in ap (λ m. put_blocks blocks k m at bytes b) none

pub named_step : (index blocks : List ℕ) (k n : ℕ) (b b' : Parcel) → k < length blocks → n ≡ get_or blocks k 0 → b' ≡ with_block_number index k n b
    → numbered index (k + 1) (drop (k + 1) blocks) b' ≡ numbered index k (drop k blocks) b
named_step index blocks k n b b' lt en e =
    let next : k + 1 ≡ suc k = omega arith in
    ap (λ m. numbered index m (drop m blocks) b') next
    ∙ ap (numbered index (suc k) (drop (suc k) blocks)) (e ∙ ap (λ m. with_block_number index k m b) en)
    ∙ sym (ap (λ xs. numbered index k xs b) (drop-cons blocks k 0 lt))

pub unnamed_step : (index : List ℕ) (k end : ℕ) (b b' : Parcel) → k < end → b' ≡ with_block_number index k 0 b
    → unnamed index (k + 1) (end - (k + 1)) b' ≡ unnamed index k (end - k) b
unnamed_step index k end b b' lt e =
    let more : end - k ≡ suc (end - (k + 1)) = omega arith in
    let next : k + 1 ≡ suc k = omega arith in
    ap (λ m. unnamed index m (end - (k + 1)) b') next
    ∙ ap (unnamed index (suc k) (end - (k + 1))) e
    ∙ sym (ap (λ m. unnamed index k m b) more)

pub unlinked_step : (index : List ℕ) (i : ℕ) (b b' : Parcel) → i < length index → b' ≡ with_number_in (get_or index i 0) 4088 0 b
    → unlinked (drop (i + 1) index) b' ≡ unlinked (drop i index) b
unlinked_step index i b b' lt e =
    let next : i + 1 ≡ suc i = omega arith in
    ap (λ m. unlinked (drop m index) b') next
    ∙ ap (unlinked (drop (suc i) index)) e
    ∙ sym (ap (λ xs. unlinked xs b) (drop-cons index i 0 lt))

pub linked_step : (index : List ℕ) (i n : ℕ) (b b' : Parcel) → 1 ≤ i → i < length index → n ≡ get_or index i 0 → b' ≡ with_number_in (get_or index (i - 1) 0) 4088 n b
    → linked (drop (i + 1 - 1) index) b' ≡ linked (drop (i - 1) index) b
linked_step index i n b b' ge lt en e =
    let here : i + 1 - 1 ≡ i = omega arith in
    let within : i - 1 < length index = omega arith in
    let next : suc (i - 1) ≡ i = omega arith in
    let two : drop (i - 1) index ≡ get_or index (i - 1) 0 ∷ (get_or index i 0 ∷ drop (suc i) index) =
    drop-cons index (i - 1) 0 within ∙ ap (λ m. get_or index (i - 1) 0 ∷ drop m index) next ∙ ap (λ xs. get_or index (i - 1) 0 ∷ xs) (drop-cons index i 0 lt) in
    ap (λ m. linked (drop m index) b') here
    ∙ ap (λ xs. linked xs b') (drop-cons index i 0 lt)
    ∙ ap (linked (get_or index i 0 ∷ drop (suc i) index)) (e ∙ ap (λ m. with_number_in (get_or index (i - 1) 0) 4088 m b) en)
    ∙ sym (ap (λ xs. linked xs b) two)

-- of one index page or none no link is written
pub linked_end : (xs : List ℕ) (b : Parcel) → length xs ≤ 1 → linked xs b ≡ b
linked_end [] b le = refl
linked_end (n ∷ []) b le = refl
linked_end (n ∷ (m ∷ rest)) b le = absurd (omega arith)

pub linked_past : (index : List ℕ) (i : ℕ) (b : Parcel) → length index ≤ i → linked (drop (i - 1) index) b ≡ b
linked_past index i b le = linked_end (drop (i - 1) index) b (let len = length-drop (i - 1) index in omega (arith, len))
