-- The parts of the files after one file more.
use Rattle.trio_case.proofs.Words.{◌&&◌, ◌++◌, ◌+◌, ◌-◌, ◌∙◌, ◌∷◌, ◌≡◌, ◌≤◌, Bool, FileData, List, ListedFile, [], and_from, and_parts, ap, append-nil, arith, as_row, drop, drop-append-le, drop-append_seam, file_seen, flat_map, flat_map-append, is_within, length, length-append, length-drop, list_all, list_all-append, map, map_push, nat_tests, refl, take, take-append-le, take_all, true, ℕ}
use Rattle.std.specs.Prelude.{nat_le}
use Rattle.trio_case.specs.declared.listing.Span.{Span}
use Rattle.trio_case.specs.inner.Known.{part_of}

within-ends : (n : ℕ) (s : Span) → is_within n s ≡ true → (s.start ≤ s.end) × (s.end ≤ n)
within-ends n s h =
    let p = and_parts (nat_le s.start s.end) (nat_le s.end n) h in
    let a : s.start ≤ s.end = grind (arith, nat_tests, p.0) in
    let b : s.end ≤ n = grind (arith, nat_tests, p.1) in (a, b)

pub within-more : (n m : ℕ) (s : Span) → n ≤ m → is_within n s ≡ true → is_within m s ≡ true
within-more n m s l h =
    let w = within-ends n s h in
    let a = w.0 in
    let b = w.1 in
    let p : nat_le s.start s.end ≡ true = grind (arith, nat_tests) in
    let q : nat_le s.end m ≡ true = grind (arith, nat_tests) in and_from (nat_le s.start s.end) (nat_le s.end m) p q

-- a part that stands within a list is the same of a longer one
pub part-more : (xs ys : List ℕ) (s : Span) → is_within (length xs) s ≡ true → part_of (xs ++ ys) s ≡ part_of xs s
part-more xs ys s h =
    let w = within-ends (length xs) s h in
    let a = w.0 in
    let b = w.1 in
    let l : s.end - s.start ≤ length (drop s.start xs) = omega (arith, length-drop s.start xs) in
    ap (take (s.end - s.start)) (drop-append-le s.start xs ys (omega arith)) ∙ take-append-le (s.end - s.start) (drop s.start xs) ys l

-- the part that was appended
pub part-last : (xs ys : List ℕ) (s : Span) → s.start ≡ length xs → s.end ≡ length (xs ++ ys) → part_of (xs ++ ys) s ≡ ys
part-last xs ys s a b =
    let l : length ys ≤ s.end - s.start = omega (arith, a, b, length-append xs ys) in
    ap (λ n. take (s.end - s.start) (drop n (xs ++ ys))) a ∙ ap (take (s.end - s.start)) (drop-append_seam xs ys) ∙ take_all (s.end - s.start) ys l

-- the files before see the same numbers
pub files-more : (index blocks i b : List ℕ) (fs : List FileData) → list_all (λ f. is_within (length index) f.index) fs ≡ true → list_all (λ f. is_within (length blocks) f.blocks) fs ≡ true → map (file_seen (index ++ i) (blocks ++ b)) fs ≡ map (file_seen index blocks) fs
files-more index blocks i b [] h k = refl
files-more index blocks i b (f ∷ fs) h k =
    let p = and_parts (is_within (length index) f.index) (list_all (λ f. is_within (length index) f.index) fs) h in
    let q = and_parts (is_within (length blocks) f.blocks) (list_all (λ f. is_within (length blocks) f.blocks) fs) k in
    rw (part-more index i f.index p.0, part-more blocks b f.blocks q.0, files-more index blocks i b fs p.1 q.1) refl

pub all-within-more : (span : FileData → Span) (n m : ℕ) (fs : List FileData) → n ≤ m → list_all (λ f. is_within n (span f)) fs ≡ true → list_all (λ f. is_within m (span f)) fs ≡ true
all-within-more span n m [] l h = refl
all-within-more span n m (f ∷ fs) l h =
    let p = and_parts (is_within n (span f)) (list_all (λ f. is_within n (span f)) fs) h in
    and_from (is_within m (span f)) (list_all (λ f. is_within m (span f)) fs) (within-more n m (span f) l p.0) (all-within-more span n m fs l p.1)

pub all-push : {X : Type 0} (p : X → Bool) (xs : List X) (x : X) → list_all p xs ≡ true → p x ≡ true → list_all p (xs ++ x ∷ []) ≡ true
all-push p xs x h k =
    list_all-append p xs (x ∷ []) ∙ and_from (list_all p xs) (p x && true) h (and_from (p x) true k refl)

pub whole_within : (s : Span) (n m : ℕ) → s.start ≡ n → s.end ≡ m → n ≤ m → is_within m s ≡ true
whole_within s n m a b l =
    let p : nat_le s.start s.end ≡ true = grind (arith, nat_tests) in
    let q : nat_le s.end m ≡ true = grind (arith, nat_tests) in and_from (nat_le s.start s.end) (nat_le s.end m) p q

-- the files that are seen after one file more
pub files-push : (index blocks i b : List ℕ) (fs : List FileData) (f : FileData) → list_all (λ f. is_within (length index) f.index) fs ≡ true → list_all (λ f. is_within (length blocks) f.blocks) fs ≡ true → f.index.start ≡ length index → f.index.end ≡ length (index ++ i) → f.blocks.start ≡ length blocks → f.blocks.end ≡ length (blocks ++ b) → map (file_seen (index ++ i) (blocks ++ b)) (fs ++ f ∷ []) ≡ map (file_seen index blocks) fs ++ record { ino = f.ino; row = as_row f.row; index = i; blocks = b } ∷ []
files-push index blocks i b fs f h k s e s' e' =
    map_push (file_seen (index ++ i) (blocks ++ b)) fs f ∙ rw (files-more index blocks i b fs h k, part-last index i f.index s e, part-last blocks b f.blocks s' e') refl

pub flat-push : (g : ListedFile → List ℕ) (fs : List ListedFile) (f : ListedFile) → length (flat_map g (fs ++ f ∷ [])) ≡ length (flat_map g fs) + length (g f)
flat-push g fs f =
    ap length (flat_map-append g fs (f ∷ [])) ∙ length-append (flat_map g fs) (g f ++ []) ∙ ap (λ l. length (flat_map g fs) + length l) (append-nil (g f))
