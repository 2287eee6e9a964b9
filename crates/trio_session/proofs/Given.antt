-- What is given to a session: pages stay apart, and a new file's chain is as long as its size says.
use Rattle.trio_session.proofs.Words.{◌++◌, ◌+◌, ◌∙◌, ◌∷◌, ◌≡◌, ◌⊎◌, AreApart, Block, Fresh, FreshParts, HasLent, In, In-flat, In-left, In-map, In-right, Index, InoParts, IsTrue, LentFile, LentPage, LibOut, List, None, PagePlace, Parcel, Sheet, Shown, Some, [], ap, are_new, arith, file_numbers, flat_map, fresh_sheet, inl, inr, length, length-map, lent_numbers, lent_sheet, map, numbers_of_file, option_map, page_numbers, pages_out, refl, sheet_at, slice_get, slice_get-map, slice_get_within, subst, suc, sym, true, zero, ℕ}
use Rattle.trio_session.proofs.Lists.{slice_get-In, once_at}
use Rattle.trio_session.proofs.Places.{index_at, block_at, fresh_at, index_parts, block_parts, fresh_parts}

-- a list as it is
map-self : (ns : List ℕ) → map (λ n. n) ns ≡ ns
map-self [] = refl
map-self (n ∷ ns) = ap (λ ms. n ∷ ms) (map-self ns)

-- an element of a list with one more
pub push_at : {X : Type 0} (xs : List X) (x : X) (i : ℕ) (y : X) → slice_get (xs ++ x ∷ []) i ≡ Some y → (slice_get xs i ≡ Some y) ⊎ ((i ≡ length xs) × (x ≡ y))
push_at [] x zero y e = inr (refl, (let t : Some x ≡ Some y = e in cc t))
push_at [] x (suc i) y e = absurd (let t : None ≡ Some y = e in cc t)
push_at (z ∷ zs) x zero y e = inl e
push_at (z ∷ zs) x (suc i) y e = elim (push_at zs x i y e) [ inl h ↦ inl h | inr h ↦ inr (ap suc h.0, h.1) ]

-- of two lists, one behind the other
pub joined_at : {X : Type 0} (xs ys : List X) (i : ℕ) (y : X) → slice_get (xs ++ ys) i ≡ Some y → (slice_get xs i ≡ Some y) ⊎ ((j : ℕ) × (i ≡ length xs + j) × (slice_get ys j ≡ Some y))
joined_at [] ys i y e = inr (i, (let z : i ≡ length {A = ℕ} [] + i = omega arith in z), e)
joined_at (x ∷ xs) ys zero y e = inl e
joined_at (x ∷ xs) ys (suc i) y e = elim (joined_at xs ys i y e) [ inl h ↦ inl h | inr h ↦ inr (h.0, (let k = h.1 in omega arith), h.2) ]

pub left_at : {X : Type 0} (xs ys : List X) (i : ℕ) (x : X) → slice_get xs i ≡ Some x → slice_get (xs ++ ys) i ≡ Some x
left_at [] ys i x e = absurd (let t : None ≡ Some x = e in cc t)
left_at (z ∷ zs) ys zero x e = e
left_at (z ∷ zs) ys (suc i) x e = left_at zs ys i x e

pub right_at : {X : Type 0} (xs ys : List X) (i : ℕ) (y : X) → slice_get ys i ≡ Some y → slice_get (xs ++ ys) (length xs + i) ≡ Some y
right_at [] ys i y e = subst (λ k. slice_get ys k ≡ Some y) (let z : i ≡ length {A = ℕ} [] + i = omega arith in z) e
right_at (x ∷ xs) ys i y e = subst (λ k. slice_get (x ∷ (xs ++ ys)) k ≡ Some y) (let z : suc (length xs + i) ≡ length (x ∷ xs) + i = omega arith in z) (right_at xs ys i y e)

-- the number of a page of a file, by its place among them
index_number : (f : Shown) (i : ℕ) (p : LentPage) → slice_get f.index i ≡ Some p → slice_get (numbers_of_file f) i ≡ Some p.no.0
index_number f i p e = left_at (lent_numbers f.index) (lent_numbers f.blocks) i p.no.0 (slice_get-map (λ (q : LentPage). q.no.0) f.index i ∙ ap (option_map (λ (q : LentPage). q.no.0)) e)

block_number : (f : Shown) (i : ℕ) (p : LentPage) → slice_get f.blocks i ≡ Some p → slice_get (numbers_of_file f) (length f.index + i) ≡ Some p.no.0
block_number f i p e =
    subst (λ n. slice_get (numbers_of_file f) (n + i) ≡ Some p.no.0) (length-map f.index (λ (q : LentPage). q.no.0))
    (right_at (lent_numbers f.index) (lent_numbers f.blocks) i p.no.0 (slice_get-map (λ (q : LentPage). q.no.0) f.blocks i ∙ ap (option_map (λ (q : LentPage). q.no.0)) e))

-- pages of one file whose numbers are apart
same_index : (f : Shown) (i j : ℕ) (p q : LentPage) → are_new [] (numbers_of_file f) ≡ true → slice_get f.index i ≡ Some p → slice_get f.index j ≡ Some q → p.no.0 ≡ q.no.0 → i ≡ j
same_index f i j p q new ep eq e = once_at (λ n. n) (numbers_of_file f) i j p.no.0 q.no.0 (subst (λ ns. are_new [] ns ≡ true) (sym (map-self (numbers_of_file f))) new) (index_number f i p ep) (index_number f j q eq) e

same_block : (f : Shown) (i j : ℕ) (p q : LentPage) → are_new [] (numbers_of_file f) ≡ true → slice_get f.blocks i ≡ Some p → slice_get f.blocks j ≡ Some q → p.no.0 ≡ q.no.0 → i ≡ j
same_block f i j p q new ep eq e =
    let k = once_at (λ n. n) (numbers_of_file f) (length f.index + i) (length f.index + j) p.no.0 q.no.0 (subst (λ ns. are_new [] ns ≡ true) (sym (map-self (numbers_of_file f))) new) (block_number f i p ep) (block_number f j q eq) e in
    omega (arith, k)

other_kind : (f : Shown) (i j : ℕ) (p q : LentPage) → are_new [] (numbers_of_file f) ≡ true → slice_get f.index i ≡ Some p → slice_get f.blocks j ≡ Some q → p.no.0 ≡ q.no.0 → ⊥
other_kind f i j p q new ep eq e =
    let k = once_at (λ n. n) (numbers_of_file f) i (length f.index + j) p.no.0 q.no.0 (subst (λ ns. are_new [] ns ≡ true) (sym (map-self (numbers_of_file f))) new) (index_number f i p ep) (block_number f j q eq) e in
    let lt = slice_get_within f.index i p ep in
    omega (arith, k, lt)

-- where a page of a parcel with one more file stands: where it stood, or in that file
Split : Parcel → LentFile → PagePlace → Sheet → Type 0
Split b f place x = (sheet_at b place ≡ Some x)
    ⊎ (((i : ℕ) × (p : LentPage) × (place ≡ Index (length b.writes) i) × (slice_get f.stands.index i ≡ Some p) × (lent_sheet p ≡ x))
    ⊎ ((i : ℕ) × (p : LentPage) × (place ≡ Block (length b.writes) i) × (slice_get f.stands.blocks i ≡ Some p) × (lent_sheet p ≡ x)))

split : (b : Parcel) (f : LentFile) (place : PagePlace) (x : Sheet) → sheet_at (record b { writes = b.writes ++ f ∷ [] }) place ≡ Some x → Split b f place x
unfolding Split
split b f (Index file at) x e =
    let r = index_parts (record b { writes = b.writes ++ f ∷ [] }) file at x e in
    elim (push_at b.writes f file r.0 r.2) [
      | inl h ↦ inl (index_at b file at r.0 r.1 h r.3 ∙ ap Some r.4)
      | inr h ↦ inr (inl (at, r.1, ap (λ n. Index n at) h.0, subst (λ (g : LentFile). slice_get g.stands.index at ≡ Some r.1) (sym h.1) r.3, r.4))
    ]
split b f (Block file at) x e =
    let r = block_parts (record b { writes = b.writes ++ f ∷ [] }) file at x e in
    elim (push_at b.writes f file r.0 r.2) [
      | inl h ↦ inl (block_at b file at r.0 r.1 h r.3 ∙ ap Some r.4)
      | inr h ↦ inr (inr (at, r.1, ap (λ n. Block n at) h.0, subst (λ (g : LentFile). slice_get g.stands.blocks at ≡ Some r.1) (sym h.1) r.3, r.4))
    ]
split b f (Fresh at) x e = inl e

-- the numbers of a file's own pages
own_index : (f : Shown) (i : ℕ) (p : LentPage) → slice_get f.index i ≡ Some p → In p.no.0 (numbers_of_file f)
own_index f i p e = slice_get-In (numbers_of_file f) i p.no.0 (index_number f i p e)

own_block : (f : Shown) (i : ℕ) (p : LentPage) → slice_get f.blocks i ≡ Some p → In p.no.0 (numbers_of_file f)
own_block f i p e = slice_get-In (numbers_of_file f) (length f.index + i) p.no.0 (block_number f i p e)

-- no page of a parcel has one of these numbers
abbrev pub HasNoneOf : Parcel → List ℕ → Type 0
HasNoneOf b ns = (place : PagePlace) (x : Sheet) → sheet_at b place ≡ Some x → In x.page ns → ⊥

-- a file whose pages differ from each other and from those that are there
pub apart_file : (b : Parcel) (f : LentFile) → AreApart b → are_new [] (numbers_of_file f.stands) ≡ true → HasNoneOf b (numbers_of_file f.stands)
    → IsTrue (are_new [] (file_numbers (b.writes ++ f ∷ []))) → AreApart (record b { writes = b.writes ++ f ∷ [] })
unfolding Split
apart_file b f apart new none files = record {
  pages = λ p q x y ex ey same. elim (split b f p x ex) [
    | inl hp ↦ elim (split b f q y ey) [
      | inl hq ↦ apart.pages p q x y hp hq same
      | inr hq ↦ elim hq [
        | inl i ↦ absurd (none p x hp (subst (λ n. In n (numbers_of_file f.stands)) (ap (λ (s : Sheet). s.page) i.4 ∙ sym same) (own_index f.stands i.0 i.1 i.3)))
        | inr i ↦ absurd (none p x hp (subst (λ n. In n (numbers_of_file f.stands)) (ap (λ (s : Sheet). s.page) i.4 ∙ sym same) (own_block f.stands i.0 i.1 i.3)))
      ]
    ]
    | inr hp ↦ elim hp [
      | inl j ↦ elim (split b f q y ey) [
        | inl hq ↦ absurd (none q y hq (subst (λ n. In n (numbers_of_file f.stands)) (ap (λ (s : Sheet). s.page) j.4 ∙ same) (own_index f.stands j.0 j.1 j.3)))
        | inr hq ↦ elim hq [
          | inl i ↦ j.2 ∙ ap (Index (length b.writes)) (same_index f.stands j.0 i.0 j.1 i.1 new j.3 i.3 (ap (λ (s : Sheet). s.page) j.4 ∙ same ∙ sym (ap (λ (s : Sheet). s.page) i.4))) ∙ sym i.2
          | inr i ↦ absurd (other_kind f.stands j.0 i.0 j.1 i.1 new j.3 i.3 (ap (λ (s : Sheet). s.page) j.4 ∙ same ∙ sym (ap (λ (s : Sheet). s.page) i.4)))
        ]
      ]
      | inr j ↦ elim (split b f q y ey) [
        | inl hq ↦ absurd (none q y hq (subst (λ n. In n (numbers_of_file f.stands)) (ap (λ (s : Sheet). s.page) j.4 ∙ same) (own_block f.stands j.0 j.1 j.3)))
        | inr hq ↦ elim hq [
          | inl i ↦ absurd (other_kind f.stands i.0 j.0 i.1 j.1 new i.3 j.3 (ap (λ (s : Sheet). s.page) i.4 ∙ sym same ∙ sym (ap (λ (s : Sheet). s.page) j.4)))
          | inr i ↦ j.2 ∙ ap (Block (length b.writes)) (same_block f.stands j.0 i.0 j.1 i.1 new j.3 i.3 (ap (λ (s : Sheet). s.page) j.4 ∙ same ∙ sym (ap (λ (s : Sheet). s.page) i.4))) ∙ sym i.2
        ]
      ]
    ]
  ];
  files = files;
}

-- allotted pages whose numbers differ from each other and from those that are there
pub apart_pages : (b : Parcel) (more : List FreshParts) (ns : List InoParts) → AreApart b → are_new [] (page_numbers more) ≡ true → HasNoneOf b (page_numbers more)
    → AreApart (record b { pages = b.pages ++ more; inodes = ns })
apart_pages b more ns apart new none = record {
  pages = λ p q x y ex ey same. elim (part p x ex) [
    | inl hp ↦ elim (part q y ey) [
      | inl hq ↦ apart.pages p q x y hp hq same
      | inr i ↦ absurd (none p x hp (subst (λ n. In n (page_numbers more)) (ap (λ (s : Sheet). s.page) i.4 ∙ sym same) (In-map (λ (r : FreshParts). r.no.0) i.1 more (slice_get-In more i.0 i.1 i.3))))
    ]
    | inr j ↦ elim (part q y ey) [
      | inl hq ↦ absurd (none q y hq (subst (λ n. In n (page_numbers more)) (ap (λ (s : Sheet). s.page) j.4 ∙ same) (In-map (λ (r : FreshParts). r.no.0) j.1 more (slice_get-In more j.0 j.1 j.3))))
      | inr i ↦ j.2 ∙ ap (λ k. Fresh (length b.pages + k)) (once_at (λ (r : FreshParts). r.no.0) more j.0 i.0 j.1 i.1 new j.3 i.3 (ap (λ (s : Sheet). s.page) j.4 ∙ same ∙ sym (ap (λ (s : Sheet). s.page) i.4))) ∙ sym i.2
    ]
  ];
  files = apart.files;
}
  where
    part : (place : PagePlace) (x : Sheet) → sheet_at (record b { pages = b.pages ++ more; inodes = ns }) place ≡ Some x
        → (sheet_at b place ≡ Some x) ⊎ ((i : ℕ) × (p : FreshParts) × (place ≡ Fresh (length b.pages + i)) × (slice_get more i ≡ Some p) × (fresh_sheet p ≡ x))
    part (Index file at) x e = inl e
    part (Block file at) x e = inl e
    part (Fresh at) x e =
        let r = fresh_parts (record b { pages = b.pages ++ more; inodes = ns }) at x e in
        elim (joined_at b.pages more at r.0 r.1) [
          | inl h ↦ inl (fresh_at b at r.0 h ∙ ap Some r.2)
          | inr h ↦ inr (h.0, r.0, ap Fresh h.1, h.2, r.2)
        ]

-- a page of a file that is lent is out
lent_out : (b : Parcel) (out : LibOut) → out.writes ≡ map (λ f. f.lent) b.writes → ((i : ℕ) (f : LentFile) → slice_get b.writes i ≡ Some f → HasLent f)
    → (file : ℕ) (f : LentFile) (x : Sheet) → slice_get b.writes file ≡ Some f → In x.page (numbers_of_file f.stands) → In x.page (pages_out out)
lent_out b out writes same file f x ef i =
    let lent : In x.page (numbers_of_file f.lent) = subst (In x.page) (same file f ef).numbers i in
    let among : In f.lent out.writes = subst (In f.lent) (sym writes) (In-map (λ (g : LentFile). g.lent) f b.writes (slice_get-In b.writes file f ef)) in
    In-left x.page (flat_map numbers_of_file out.writes) out.pages (In-flat numbers_of_file f.lent x.page out.writes among lent)

-- what is out has each page of the parcel
pub page_out : (b : Parcel) (out : LibOut) → out.writes ≡ map (λ f. f.lent) b.writes → ((n : ℕ) → In n (page_numbers b.pages) → In n out.pages)
    → ((i : ℕ) (f : LentFile) → slice_get b.writes i ≡ Some f → HasLent f) → (place : PagePlace) (x : Sheet) → sheet_at b place ≡ Some x → In x.page (pages_out out)
page_out b out writes pages same (Index file at) x e =
    let r = index_parts b file at x e in
    lent_out b out writes same file r.0 x r.2 (subst (λ n. In n (numbers_of_file r.0.stands)) (ap (λ (s : Sheet). s.page) r.4) (own_index r.0.stands at r.1 r.3))
page_out b out writes pages same (Block file at) x e =
    let r = block_parts b file at x e in
    lent_out b out writes same file r.0 x r.2 (subst (λ n. In n (numbers_of_file r.0.stands)) (ap (λ (s : Sheet). s.page) r.4) (own_block r.0.stands at r.1 r.3))
page_out b out writes pages same (Fresh at) x e =
    let r = fresh_parts b at x e in
    In-right x.page (flat_map numbers_of_file out.writes) out.pages
    (pages x.page (subst (λ n. In n (page_numbers b.pages)) (ap (λ (s : Sheet). s.page) r.2) (In-map (λ (p : FreshParts). p.no.0) r.0 b.pages (slice_get-In b.pages at r.0 r.1))))
