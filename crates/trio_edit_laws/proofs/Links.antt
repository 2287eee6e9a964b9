-- The index pages of a file after their numbers and links were written, page after page.
use Rattle.trio_edit_laws.proofs.Words.{◌%◌, ◌*◌, ◌++◌, ◌+◌, ◌-◌, ◌/◌, ◌<◌, ◌^◌, ◌∙◌, ◌∷◌, ◌≡◌, ◌≤◌, ◌⊎◌, In, List, Parcel, [], ap, append-nil, append_assoc, are_new, arith, bundle_of, bundle_pages, cases_eq, cases_lt, drop, drop-cons, drop_all, get_or, get_or-In, get_or-append_right, get_or_append_left, get_or_past, inl, inr, length, length-append, length-with_number, linked, numbered, page_in, page_in-with_page_else, page_in-with_page_same, pages-with_page, refl, subst, suc, sym, true, unlinked, unnamed, w64, with_number, with_page, zero, ℕ}
use Rattle.trio_session.specs.Layout.{with_block_number, with_number_in}
use Rattle.trio_edit_laws.proofs.IndexFields.{IndexSays}
use Rattle.trio_edit_laws.proofs.IndexEdits.{Puts, says-link, says-number, with_at, with_at-here, with_at-other}
use Rattle.trio_edit_laws.proofs.Touches.{Touches, touches_nothing, touches_page, touches_then}

-- what holds through writes of these pages, one after another, each as long as it was
pub record IsThrough (own : List ℕ) (R : Parcel → Parcel → Type 0) : Type 0 where
  pub none : (b : Parcel) → R b b
  pub step : (n : ℕ) (bytes : List ℕ) (b b' : Parcel) → In n own → (length (page_in b n) ≡ 4096 → length bytes ≡ 4096) → R (with_page n bytes b) b' → R b b'

-- each of these is a page in hand
abbrev pub AreInHand : Parcel → List ℕ → Type 0
AreInHand b ns = (n : ℕ) → In n ns → In n (bundle_pages (bundle_of b))

in_hand-with_page : (n : ℕ) (bytes : List ℕ) (b : Parcel) (ns : List ℕ) → AreInHand b ns → AreInHand (with_page n bytes b) ns
in_hand-with_page n bytes b ns are m i = subst (λ l. In m l) (sym (pages-with_page n bytes b)) (are m i)

puts-with_page : (n : ℕ) (bytes : List ℕ) (b : Parcel) → In n (bundle_pages (bundle_of b)) → Puts (page_in b) (page_in (with_page n bytes b)) n bytes
puts-with_page n bytes b i = record { here = page_in-with_page_same n bytes b i; other = λ m d. page_in-with_page_else n m bytes b d }

number-whole : (at v : ℕ) (bytes : List ℕ) → at + 8 ≤ 4096 → length bytes ≡ 4096 → length (with_number w64 at v bytes) ≡ 4096
number-whole at v bytes fits whole = length-with_number w64 at v bytes (omega (arith, whole)) ∙ whole

-- ---- numbers

module _ (own : List ℕ) (R : Parcel → Parcel → Type 0) (through : IsThrough own R) where
  pub numbered-through : (index : List ℕ) (k : ℕ) (rest : List ℕ) (b : Parcel) → k + length rest ≤ 511 * length index → ((n : ℕ) → In n index → In n own) → R b (numbered index k rest b)
  numbered-through index k [] b le are = through.none b
  numbered-through index k (n ∷ rest) b le are =
      let below : k / 511 < length index = omega arith in
      through.step (get_or index (k / 511) 0) (with_number w64 (8 * (k % 511)) n (page_in b (get_or index (k / 511) 0))) b (numbered index k (n ∷ rest) b)
      (are (get_or index (k / 511) 0) (get_or-In index (k / 511) 0 below)) (number-whole (8 * (k % 511)) n (page_in b (get_or index (k / 511) 0)) (omega arith))
      (numbered-through index (suc k) rest (with_block_number index k n b) (omega arith) are)

  pub unnamed-through : (index : List ℕ) (k more : ℕ) (b : Parcel) → k + more ≤ 511 * length index → ((n : ℕ) → In n index → In n own) → R b (unnamed index k more b)
  unnamed-through index k zero b le are = through.none b
  unnamed-through index k (suc more) b le are =
      let below : k / 511 < length index = omega arith in
      through.step (get_or index (k / 511) 0) (with_number w64 (8 * (k % 511)) 0 (page_in b (get_or index (k / 511) 0))) b (unnamed index k (suc more) b)
      (are (get_or index (k / 511) 0) (get_or-In index (k / 511) 0 below)) (number-whole (8 * (k % 511)) 0 (page_in b (get_or index (k / 511) 0)) (omega arith))
      (unnamed-through index (suc k) more (with_block_number index k 0 b) (omega arith) are)

  pub linked-through : (xs : List ℕ) (b : Parcel) → ((n : ℕ) → In n xs → In n own) → R b (linked xs b)
  linked-through [] b are = through.none b
  linked-through (n ∷ []) b are = through.none b
  linked-through (n ∷ (m ∷ rest)) b are =
      through.step n (with_number w64 4088 m (page_in b n)) b (linked (n ∷ (m ∷ rest)) b) (are n (inl refl)) (number-whole 4088 m (page_in b n) (omega arith))
      (linked-through (m ∷ rest) (with_number_in n 4088 m b) (λ x i. are x (inr i)))

  pub unlinked-through : (xs : List ℕ) (b : Parcel) → ((n : ℕ) → In n xs → In n own) → R b (unlinked xs b)
  unlinked-through [] b are = through.none b
  unlinked-through (n ∷ rest) b are =
      through.step n (with_number w64 4088 0 (page_in b n)) b (unlinked (n ∷ rest) b) (are n (inl refl)) (number-whole 4088 0 (page_in b n) (omega arith))
      (unlinked-through rest (with_number_in n 4088 0 b) (λ x i. are x (inr i)))

-- ---- what the index pages say then

-- the numbers of further blocks are written behind those that are there
pub says-numbered : (index : List ℕ) (k : ℕ) (rest : List ℕ) (b : Parcel) (blocks : List ℕ) (link : ℕ → ℕ) → IndexSays (page_in b) index (λ j. get_or blocks j 0) link → are_new [] index ≡ true → AreInHand b index
    → length blocks ≡ k → k + length rest ≤ 511 * length index → ((n : ℕ) → In n rest → n < 2 ^ 64)
    → IndexSays (page_in (numbered index k rest b)) index (λ j. get_or (blocks ++ rest) j 0) link
says-numbered index k [] b blocks link s once are len le small = subst (λ l. IndexSays (page_in b) index (λ j. get_or l j 0) link) (sym (append-nil blocks)) s
says-numbered index k (n ∷ rest) b blocks link s once are len le small =
    let q : ℕ = get_or index (k / 511) 0 in
    let below : k / 511 < length index = omega arith in
    let w : List ℕ = with_number w64 (8 * (k % 511)) n (page_in b q) in
    let last : get_or (blocks ++ n ∷ []) k 0 ≡ n =
    get_or-append_right blocks (n ∷ []) (length blocks) k 0 refl (omega arith) ∙ (let z : k - length blocks ≡ 0 = omega arith in ap (λ i. get_or (n ∷ []) i 0) z) in
    let others : (j : ℕ) → (j ≡ k → ⊥) → get_or (blocks ++ n ∷ []) j 0 ≡ get_or blocks j 0 = search (arith, cases_lt, get_or_append_left, get_or_past, length-append) in
    let first = says-number (page_in b) (page_in (with_page q w b)) index (λ j. get_or blocks j 0) link (λ j. get_or (blocks ++ n ∷ []) j 0) k n s once (omega arith) (small n (inl refl))
    (puts-with_page q w b (are q (get_or-In index (k / 511) 0 below))) last others in
    let len' : length (blocks ++ n ∷ []) ≡ suc k = omega (arith, length-append blocks (n ∷ [])) in
    subst (λ l. IndexSays (page_in (numbered index k (n ∷ rest) b)) index (λ j. get_or l j 0) link) (append_assoc blocks (n ∷ []) rest)
    (says-numbered index (suc k) rest (with_page q w b) (blocks ++ n ∷ []) link first once (in_hand-with_page q w b index are) len' (omega arith) (λ x i. small x (inr i)))

-- numbers become zero
pub says-unnamed : (index : List ℕ) (k more : ℕ) (b : Parcel) (number number' link : ℕ → ℕ) → IndexSays (page_in b) index number link → are_new [] index ≡ true → AreInHand b index
    → k + more ≤ 511 * length index → ((j : ℕ) → k ≤ j → j < k + more → number' j ≡ 0) → ((j : ℕ) → (j < k) ⊎ (k + more ≤ j) → number' j ≡ number j)
    → IndexSays (page_in (unnamed index k more b)) index number' link
says-unnamed index k zero b number number' link s once are le zeroed same = search (arith, cases_lt, says-number, puts-with_page, get_or-In, with_at-here, with_at-other, in_hand-with_page, cases_eq)
says-unnamed index k (suc more) b number number' link s once are le zeroed same =
    let q : ℕ = get_or index (k / 511) 0 in
    let below : k / 511 < length index = omega arith in
    let w : List ℕ = with_number w64 (8 * (k % 511)) 0 (page_in b q) in
    let first = says-number (page_in b) (page_in (with_page q w b)) index number link (with_at k 0 number) k 0 s once (omega arith) (omega arith)
    (puts-with_page q w b (are q (get_or-In index (k / 511) 0 below))) (with_at-here k 0 number k refl) (with_at-other k 0 number) in
    says-unnamed index (suc k) more (with_page q w b) (with_at k 0 number) number' link first once (in_hand-with_page q w b index are) (omega arith)
    (λ j a c. zeroed j (omega arith) (omega arith))
    (λ j out. elim (cases_eq j k) [
      | inl e ↦ zeroed j (omega arith) (omega arith) ∙ sym (with_at-here k 0 number j e)
      | inr d ↦ search (arith, with_at-other)
    ])

-- ---- links

-- from an index page on, each is linked to the one behind it, and the last is left
pub says-linked : (more : ℕ) (index : List ℕ) (i : ℕ) (b : Parcel) (number link : ℕ → ℕ) → IndexSays (page_in b) index number link → are_new [] index ≡ true → AreInHand b index
    → i + more ≡ length index → ((n : ℕ) → In n index → n < 2 ^ 64) → ((k : ℕ) → k < i → link k ≡ get_or index (suc k) 0) → ((k : ℕ) → suc k ≡ length index → link k ≡ 0)
    → IndexSays (page_in (linked (drop i index) b)) index number (λ k. get_or index (suc k) 0)
says-linked zero index i b number link s once are many small before end = search (arith, drop_all, drop-cons, cases_lt, get_or_past, says-link, get_or-In, puts-with_page, with_at-here, with_at-other, in_hand-with_page, cases_eq)
says-linked (suc zero) index i b number link s once are many small before end =
    let one : drop i index ≡ get_or index i 0 ∷ [] =
    drop-cons index i 0 (omega arith) ∙ ap (λ l. get_or index i 0 ∷ l) (drop_all (suc i) index (omega arith)) in
    search (arith, cases_lt, get_or_past)
says-linked (suc (suc more)) index i b number link s once are many small before end =
    let n : ℕ = get_or index i 0 in
    let m : ℕ = get_or index (suc i) 0 in
    let within : suc i < length index = omega arith in
    let w : List ℕ = with_number w64 4088 m (page_in b n) in
    let two : drop i index ≡ n ∷ (m ∷ drop (suc (suc i)) index) =
    drop-cons index i 0 (omega arith) ∙ ap (λ l. n ∷ l) (drop-cons index (suc i) 0 within) in
    let first = says-link (page_in b) (page_in (with_page n w b)) index number link (with_at i m link) i m s once (omega arith) (small m (get_or-In index (suc i) 0 within))
    (puts-with_page n w b (are n (get_or-In index i 0 (omega arith)))) (with_at-here i m link i refl) (with_at-other i m link) in
    let rest = says-linked (suc more) index (suc i) (with_page n w b) number (with_at i m link) first once (in_hand-with_page n w b index are) (omega arith) small
    (λ k l. elim (cases_eq k i) [
      | inl e ↦ with_at-here i m link k e ∙ ap (λ j. get_or index (suc j) 0) (sym e)
      | inr d ↦ with_at-other i m link k d ∙ before k (omega arith)
    ])
    (λ k l. with_at-other i m link k (λ e. omega arith) ∙ end k l) in
    subst (λ l. IndexSays (page_in (linked l b)) index number (λ k. get_or index (suc k) 0)) (sym two)
    (subst (λ l. IndexSays (page_in (linked l (with_page n w b))) index number (λ k. get_or index (suc k) 0)) (drop-cons index (suc i) 0 within) rest)

-- from an index page on, none is linked
pub says-unlinked : (more : ℕ) (index : List ℕ) (i : ℕ) (b : Parcel) (number link link' : ℕ → ℕ) → IndexSays (page_in b) index number link → are_new [] index ≡ true → AreInHand b index
    → i + more ≡ length index → ((k : ℕ) → k < i → link' k ≡ link k) → ((k : ℕ) → i ≤ k → k < length index → link' k ≡ 0)
    → IndexSays (page_in (unlinked (drop i index) b)) index number link'
says-unlinked zero index i b number link link' s once are many before behind = search (arith, drop_all, says-link, puts-with_page, get_or-In, with_at-here, with_at-other, in_hand-with_page, cases_eq, drop-cons)
says-unlinked (suc more) index i b number link link' s once are many before behind =
    let n : ℕ = get_or index i 0 in
    let within : i < length index = omega arith in
    let w : List ℕ = with_number w64 4088 0 (page_in b n) in
    let first = says-link (page_in b) (page_in (with_page n w b)) index number link (with_at i 0 link) i 0 s once within (omega arith)
    (puts-with_page n w b (are n (get_or-In index i 0 within))) (with_at-here i 0 link i refl) (with_at-other i 0 link) in
    let rest = says-unlinked more index (suc i) (with_page n w b) number (with_at i 0 link) link' first once (in_hand-with_page n w b index are) (omega arith)
    (λ k l. elim (cases_eq k i) [
      | inl e ↦ behind k (omega arith) (omega arith) ∙ sym (with_at-here i 0 link k e)
      | inr d ↦ before k (omega arith) ∙ sym (with_at-other i 0 link k d)
    ])
    (λ k a l. behind k (omega arith) l) in
    subst (λ l. IndexSays (page_in (unlinked l b)) index number link') (sym (drop-cons index i 0 within)) rest

-- ---- what else stays

pub in_hand-through : (own : List ℕ) → IsThrough own (λ b b'. (ns : List ℕ) → AreInHand b ns → AreInHand b' ns)
in_hand-through own = search (arith, in_hand-with_page)

-- each of these pages has 4096 bytes
abbrev pub AreWhole : Parcel → List ℕ → Type 0
AreWhole b ns = (n : ℕ) → In n ns → length (page_in b n) ≡ 4096

-- what writes of these pages leave
pub record Kept (own : List ℕ) (b b' : Parcel) : Type 0 where
  pub touches : Touches (λ n. In n own) b b'
  pub in_hand : AreInHand b' own
  pub whole : AreWhole b' own

pub kept-through : (own : List ℕ) → IsThrough own (λ b b'. AreInHand b own → AreWhole b own → Kept own b b')
kept-through own = record {
  none = λ b are whole. record { touches = touches_nothing (λ n. In n own) b; in_hand = are; whole = whole };
  step = λ n bytes b b' i keep then are whole.
      let one = touches_page (λ m. In m own) n bytes b i (keep (whole n i)) in
      let still : AreWhole (with_page n bytes b) own = search (arith, cases_eq, page_in-with_page_same, page_in-with_page_else) in
      let rest = then (in_hand-with_page n bytes b own are) still in
      record { touches = touches_then (λ m. In m own) b (with_page n bytes b) b' one rest.touches; in_hand = rest.in_hand; whole = rest.whole };
}

pub kept_then : (own : List ℕ) (a b c : Parcel) → Kept own a b → (AreInHand b own → AreWhole b own → Kept own b c) → Kept own a c
kept_then own a b c x then =
    let y = then x.in_hand x.whole in
    record { touches = touches_then (λ n. In n own) a b c x.touches y.touches; in_hand = y.in_hand; whole = y.whole }
