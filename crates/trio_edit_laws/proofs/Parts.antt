-- Parts that are written into bytes, one behind another and among others, and pages one after another.
use Rattle.trio_edit_laws.proofs.Words.{◌*◌, ◌++◌, ◌+◌, ◌<◌, ◌∙◌, ◌∷◌, ◌≡◌, ◌≤◌, In, In-left, In-right, List, [], ap, append_assoc, are_new, are_new-first, arith, drop, drop-append-le, drop-cons, drop-drop, flat_map, flat_map-append, flat_map-same, get_or, inl, inr, length, length-append, length-take-le, length-with_part, refl, subst, suc, sym, take, take-append-add, take-append-drop, take-append-le, true, ℕ}
use Rattle.std.proofs.Math.Seq.{drop-append-add, take-append_seam}
use Rattle.trio_page.specs.Field.{with_part}
use Rattle.trio_edit_laws.proofs.Chained.{apart_from}

-- no bytes change nothing
pub with_part-none : (at : ℕ) (xs : List ℕ) → with_part at [] xs ≡ xs
unfolding with_part
with_part-none at xs = (let e : at + 0 ≡ at = omega arith in ap (λ n. take at xs ++ drop n xs) e ∙ take-append-drop at xs)

-- a part right behind another
pub with_part-behind : (at : ℕ) (p q xs : List ℕ) → at + length p ≤ length xs → with_part (at + length p) q (with_part at p xs) ≡ with_part at (p ++ q) xs
unfolding with_part
with_part-behind at p q xs l =
    let a : List ℕ = take at xs in
    let c : List ℕ = drop (at + length p) xs in
    let long : length a ≡ at = length-take-le at xs (omega (arith, l)) in
    let len : length (a ++ p) ≡ at + length p = omega (arith, length-append a p, long) in
    let joined : a ++ (p ++ c) ≡ (a ++ p) ++ c = sym (append_assoc a p c) in
    let more : (at + length p) + length q ≡ length (a ++ p) + length q = omega (arith, len) in
    let sum : (at + length p) + length q ≡ at + length (p ++ q) = omega (arith, length-append p q) in
    let front : take (at + length p) (a ++ (p ++ c)) ≡ a ++ p = ap (λ n. take n (a ++ (p ++ c))) (sym len) ∙ ap (take (length (a ++ p))) joined ∙ take-append_seam (a ++ p) c in
    let back : drop ((at + length p) + length q) (a ++ (p ++ c)) ≡ drop (at + length (p ++ q)) xs = search (arith, drop-append-add, drop-drop) in
    search (arith, append_assoc)

-- a part within the middle one of three
pub with_part-middle : (n at : ℕ) (p a b c : List ℕ) → length a ≡ n → at + length p ≤ length b → with_part (n + at) p (a ++ (b ++ c)) ≡ a ++ (with_part at p b ++ c)
unfolding with_part
with_part-middle n at p a b c len l = search (arith, take-append-add, take-append-le, drop-append-add, drop-append-le, append_assoc)

-- a part within the first bytes
pub take-with_part : (n at : ℕ) (p xs : List ℕ) → at + length p ≤ n → n ≤ length xs → take n (with_part at p xs) ≡ with_part at p (take n xs)
take-with_part n at p xs l within =
    let b : List ℕ = take n xs in
    let c : List ℕ = drop n xs in
    let len : length b ≡ n = length-take-le n xs within in
    let fits : at + length p ≤ length b = omega (arith, l, len) in
    let here : at ≡ 0 + at = omega arith in
    let long : n ≡ length (with_part at p b) = sym (length-with_part at p b fits ∙ len) in
    ap (λ z. take n (with_part at p z)) (sym (take-append-drop n xs))
    ∙ ap (λ k. take n (with_part k p (b ++ c))) here
    ∙ ap (take n) (with_part-middle 0 at p [] b c refl fits)
    ∙ ap (λ k. take k (with_part at p b ++ c)) long
    ∙ take-append_seam (with_part at p b) c

-- ---- pages one after another

pub length-pages : (g : ℕ → List ℕ) (ns : List ℕ) → ((n : ℕ) → In n ns → length (g n) ≡ 4096) → length (flat_map g ns) ≡ 4096 * length ns
length-pages g [] whole = refl
length-pages g (n ∷ ns) whole =
    let one : length (g n) ≡ 4096 = whole n (inl refl) in
    let rest : length (flat_map g ns) ≡ 4096 * length ns = length-pages g ns (λ k i. whole k (inr i)) in
    length-append (g n) (flat_map g ns) ∙ omega (arith, one, rest)

-- of different pages one gets a part
pub pages-part : (g g' : ℕ → List ℕ) (ns : List ℕ) (k at : ℕ) (p : List ℕ) → are_new [] ns ≡ true → k < length ns → ((n : ℕ) → In n ns → length (g n) ≡ 4096) → at + length p ≤ 4096
    → g' (get_or ns k 0) ≡ with_part at p (g (get_or ns k 0)) → ((n : ℕ) → (n ≡ get_or ns k 0 → ⊥) → g' n ≡ g n)
    → flat_map g' ns ≡ with_part (4096 * k + at) p (flat_map g ns)
pages-part g g' ns k at p once l whole within now same =
    let x : ℕ = get_or ns k 0 in
    let before : List ℕ = take k ns in
    let after : List ℕ = drop (suc k) ns in
    let parts : ns ≡ before ++ x ∷ after = sym (take-append-drop k ns) ∙ ap (λ z. before ++ z) (drop-cons ns k 0 l) in
    let split : (f : ℕ → List ℕ) → flat_map f ns ≡ flat_map f before ++ (f x ++ flat_map f after) = λ f. ap (flat_map f) parts ∙ flat_map-append f before (x ∷ after) in
    let apart = apart_from before (x ∷ after) (ap (are_new []) (sym parts) ∙ once) in
    let first = are_new-first x after apart.right in
    let front : flat_map g' before ≡ flat_map g before =
    flat_map-same g' g before (λ n i. same n (λ e. apart.apart n i (inl e))) in
    let back : flat_map g' after ≡ flat_map g after =
    flat_map-same g' g after (λ n i. same n (λ e. first.0 (subst (λ m. In m after) e i))) in
    let many : length (flat_map g before) ≡ 4096 * k =
    length-pages g before (λ n i. whole n (subst (λ z. In n z) (sym parts) (In-left n before (x ∷ after) i))) ∙ ap (λ n. 4096 * n) (length-take-le k ns (omega arith)) in
    let one : length (g x) ≡ 4096 = whole x (subst (λ z. In x z) (sym parts) (In-right x before (x ∷ after) (inl refl))) in
    search (arith, with_part-middle)
