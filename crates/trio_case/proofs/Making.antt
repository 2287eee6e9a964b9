-- The pages of a bundle, one after another.
use Rattle.trio_case.proofs.Words.{◌++◌, ◌+◌, ◌<◌, ◌∙◌, ◌∷◌, ◌≡◌, ◌≤◌, AreUnread, Bool, Bundled, CoreRange, CountsItself, FreshParts, In, In-cases, IsUnread, KeptPage, LentFile, LentPage, List, None, Option, Sheet, Some, [], and_parts, ap, append-nil, append_assoc, are_new, arith, bundle_in, bundle_pages, cond, count_by, drop, flat_map, flat_map-append, fresh_sheet, get_or, get_or_from_slice_get, inl, inr, is_core, is_some, length, length-append, length-map, lent_sheet, list_all, list_all-In, ltb-true, map, map-append, nat_le, nat_lt, not, numbers_of, option_map, refl, slice_get, slice_get_within, subst, suc, sum_by-cons, sym, take, take-append-drop, take_more, true, written_in, zero, ℕ}
use Rattle.std.proofs.lemmas.Simd.{map-map}
use Rattle.trio_layout.proofs.Walks.{pigeons}

pub numbers_of-append : (xs ys : List KeptPage) → numbers_of (xs ++ ys) ≡ numbers_of xs ++ numbers_of ys
numbers_of-append xs ys = map-append (λ (p : KeptPage). p.no) xs ys

-- one page more of a list
pub more_numbers : {X : Type 0} (f : X → ℕ) (xs : List X) (i : ℕ) (x : X) (old : List ℕ) (now new : List KeptPage) (p : KeptPage) → slice_get xs i ≡ Some x → p.no ≡ f x → new ≡ now ++ p ∷ [] → numbers_of now ≡ old ++ map f (take i xs) → numbers_of new ≡ old ++ map f (take (i + 1) xs)
more_numbers f xs i x old now new p at is more was =
    let front : map f (take (i + 1) xs) ≡ map f (take i xs) ++ f x ∷ [] =
    ap (map f) (take_more xs i x (slice_get_within xs i x at)) ∙ map-append f (take i xs) (get_or xs i x ∷ [])
    ∙ ap (λ y. map f (take i xs) ++ f y ∷ []) (get_or_from_slice_get xs i x x at) in
    ap numbers_of more ∙ numbers_of-append now (p ∷ []) ∙ ap (λ n. numbers_of now ++ n ∷ []) is ∙ ap (λ ns. ns ++ f x ∷ []) was
    ∙ append_assoc old (map f (take i xs)) (f x ∷ []) ∙ ap (λ ns. old ++ ns) (sym front)

pub one_unread : (b : Bundled) (now new : List KeptPage) (p : KeptPage) → new ≡ now ++ p ∷ [] → IsUnread b p → AreUnread b now → AreUnread b new
one_unread b now new p more u h = λ q i.
    elim (In-cases q now (p ∷ []) (rw more at i)) [
      | inl before ↦ h q before
      | inr last ↦ elim last [
        | inl same ↦ rw same u
        | inr none ↦ absurd none
      ]
    ]

pub slice_get-left : {X : Type 0} (xs ys : List X) (i : ℕ) (x : X) → slice_get xs i ≡ Some x → slice_get (xs ++ ys) i ≡ Some x
slice_get-left [] ys i x h = absurd cc
slice_get-left (y ∷ xs) ys zero x h = h
slice_get-left (y ∷ xs) ys (suc i) x h = slice_get-left xs ys i x h

pub slice_get-last : {X : Type 0} (xs : List X) (x : X) → slice_get (xs ++ x ∷ []) (length xs) ≡ Some x
slice_get-last [] x = refl
slice_get-last (y ∷ xs) x = slice_get-last xs x

-- one page more, which knows its place
pub one_counted : (now new : List KeptPage) (p : KeptPage) → new ≡ now ++ p ∷ [] → p.nth ≡ length now → CountsItself now → CountsItself new
one_counted now new p more at h = λ q i.
    let all : numbers_of now ++ p.no ∷ [] ≡ numbers_of new = sym (ap numbers_of more ∙ numbers_of-append now (p ∷ [])) in
    let place : length (numbers_of now) ≡ p.nth = length-map now (λ (x : KeptPage). x.no) ∙ sym at in
    let last : slice_get (numbers_of now ++ p.no ∷ []) p.nth ≡ Some p.no = subst (λ n. slice_get (numbers_of now ++ p.no ∷ []) n ≡ Some p.no) place (slice_get-last (numbers_of now) p.no) in
    subst (λ ns. slice_get ns q.nth ≡ Some q.no) all (elim (In-cases q now (p ∷ []) (rw more at i)) [
      | inl before ↦ slice_get-left (numbers_of now) (p.no ∷ []) q.nth q.no (h q before)
      | inr end ↦ elim end [
        | inl same ↦ rw same last
        | inr none ↦ absurd none
      ]
    ])

-- what stands at a place among the numbers of a list
pub there_of : {X Y : Type 0} (f : X → Y) (o : Option X) (y : Y) → Some y ≡ option_map f o → (x : X) × (o ≡ Some x) × (f x ≡ y)
there_of f None y h = absurd cc
there_of f (Some x) y h = (x, refl, cc)

pub flat_map_more : {X : Type 0} (g : X → List ℕ) (xs : List X) (i : ℕ) (x : X) → slice_get xs i ≡ Some x → flat_map g (take (i + 1) xs) ≡ flat_map g (take i xs) ++ g x
flat_map_more g xs i x at =
    ap (flat_map g) (take_more xs i x (slice_get_within xs i x at)) ∙ flat_map-append g (take i xs) (get_or xs i x ∷ [])
    ∙ ap (λ y. flat_map g (take i xs) ++ y) (append-nil (g (get_or xs i x)))
    ∙ ap (λ y. flat_map g (take i xs) ++ g y) (get_or_from_slice_get xs i x x at)

-- the numbers of a lease's pages
abbrev pub file_numbers : LentFile → List ℕ
file_numbers f = map (λ (p : LentPage). p.no.0) f.stands.index ++ map (λ (p : LentPage). p.no.0) f.stands.blocks

written_numbers : (fs : List LentFile) → map (λ (x : Sheet). x.page) (flat_map (λ w. w.index ++ w.blocks) (map (λ (f : LentFile). written_in f.stands) fs)) ≡ flat_map file_numbers fs
written_numbers [] = refl
written_numbers (f ∷ fs) =
    let page : Sheet → ℕ = λ x. x.page in
    map-append page (map lent_sheet f.stands.index ++ map lent_sheet f.stands.blocks) (flat_map (λ w. w.index ++ w.blocks) (map (λ (g : LentFile). written_in g.stands) fs))
    ∙ ap (λ x. x ++ map page (flat_map (λ w. w.index ++ w.blocks) (map (λ (g : LentFile). written_in g.stands) fs))) (map-append page (map lent_sheet f.stands.index) (map lent_sheet f.stands.blocks) ∙ rw (map-map, map-map) refl)
    ∙ ap (λ x. file_numbers f ++ x) (written_numbers fs)

-- the numbers of a bundle's pages
pub bundle_numbers : (b : Bundled) → bundle_pages (bundle_in b) ≡ flat_map file_numbers b.writes ++ map (λ (p : FreshParts). p.no.0) b.pages
bundle_numbers b =
    let page : Sheet → ℕ = λ x. x.page in
    map-append page (flat_map (λ w. w.index ++ w.blocks) (bundle_in b).writes) (map fresh_sheet b.pages)
    ∙ ap (λ x. x ++ map page (map fresh_sheet b.pages)) (written_numbers b.writes)
    ∙ ap (λ x. flat_map file_numbers b.writes ++ x) (rw map-map refl)

file_length : (f : LentFile) → length (file_numbers f) ≡ length f.stands.index + length f.stands.blocks
file_length f =
    let number : LentPage → ℕ = λ p. p.no.0 in
    omega (arith, length-append (map number f.stands.index) (map number f.stands.blocks), length-map f.stands.index number, length-map f.stands.blocks number)

-- how many pages a bundle has
pub bundle_length : (b : Bundled) → length (bundle_pages (bundle_in b)) ≡ length (flat_map file_numbers b.writes) + length b.pages
bundle_length b =
    let number : FreshParts → ℕ = λ p. p.no.0 in
    ap length (bundle_numbers b) ∙ length-append (flat_map file_numbers b.writes) (map number b.pages) ∙ ap (λ n. length (flat_map file_numbers b.writes) + n) (length-map b.pages number)

-- and how many its first leases have, with one more
pub files_more : (fs : List LentFile) (i : ℕ) (f : LentFile) → slice_get fs i ≡ Some f → length (flat_map file_numbers (take (i + 1) fs)) ≡ length (flat_map file_numbers (take i fs)) + (length f.stands.index + length f.stands.blocks)
files_more fs i f at =
    ap length (flat_map_more file_numbers fs i f at) ∙ length-append (flat_map file_numbers (take i fs)) (file_numbers f) ∙ ap (λ n. length (flat_map file_numbers (take i fs)) + n) (file_length f)

-- these are no more than all
pub files_few : (b : Bundled) (i : ℕ) → length (flat_map file_numbers (take i b.writes)) + length b.pages ≤ length (bundle_pages (bundle_in b))
files_few b i =
    let all = ap (λ (fs : List LentFile). length (flat_map file_numbers fs)) (sym (take-append-drop i b.writes)) in
    let both = ap length (flat_map-append file_numbers (take i b.writes) (drop i b.writes)) in
    let sum = length-append (flat_map file_numbers (take i b.writes)) (flat_map file_numbers (drop i b.writes)) in
    omega (arith, all, both, sum, bundle_length b)

-- all are counted where nothing was read
pub all_unread : (ps : List KeptPage) → ((p : KeptPage) → In p ps → p.entries ≡ None) → count_by (λ (p : KeptPage). not (is_some p.entries)) ps ≡ length ps
all_unread [] h = refl
all_unread (p ∷ ps) h =
    let weigh : Bool → ℕ = λ b. cond b 1 0 in
    let one : weigh (not (is_some p.entries)) ≡ weigh true = ap (λ o. weigh (not (is_some o))) (h p (inl refl)) in
    let rest = all_unread ps (λ q i. h q (inr i)) in
    let c = sum_by-cons (λ (q : KeptPage). cond (not (is_some q.entries)) 1 0) p ps in omega (arith, one, rest, c)

pub all_unread_index : (ps : List KeptPage) → ((p : KeptPage) → In p ps → p.index ≡ None) → count_by (λ (p : KeptPage). not (is_some p.index)) ps ≡ length ps
all_unread_index [] h = refl
all_unread_index (p ∷ ps) h =
    let weigh : Bool → ℕ = λ b. cond b 1 0 in
    let one : weigh (not (is_some p.index)) ≡ weigh true = ap (λ o. weigh (not (is_some o))) (h p (inl refl)) in
    let rest = all_unread_index ps (λ q i. h q (inr i)) in
    let c = sum_by-cons (λ (q : KeptPage). cond (not (is_some q.index)) 1 0) p ps in omega (arith, one, rest, c)

-- ---- how many pages there are

core_below : (range : CoreRange) (x : ℕ) → is_core range x ≡ true → x < range.end
core_below range x h = ltb-true x range.end (and_parts (nat_le range.first x) (nat_lt x range.end) h).1

-- different core pages are no more than there are pages
pub few_pages : (range : CoreRange) (ns : List ℕ) → list_all (is_core range) ns ≡ true → are_new [] ns ≡ true → length ns ≤ range.end
few_pages range ns core new = pigeons range.end ns new (λ x i. core_below range x (list_all-In (is_core range) x ns core i))
