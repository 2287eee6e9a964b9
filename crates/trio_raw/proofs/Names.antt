-- Names of things that a library has.
use Rattle.trio_raw.proofs.Words.{◌&&◌, ◌≡◌, Bool, FreshParts, Has, InoParts, List, [], and_parts, are_new, has_all_of, is_among, list_all, map, true, ℕ}
use Rattle.trio_raw.specs.Has.{are_there, may_hand_in}

-- nothing that is named is named twice
pub names_once : (has : Has) (inos pages numbers : List ℕ) → has_all_of has inos pages numbers ≡ true → (are_new [] inos ≡ true) × (are_new [] pages ≡ true) × (are_new [] numbers ≡ true)
names_once has inos pages numbers h =
    let a : Bool = list_all (may_hand_in has) inos && are_new [] inos in
    let b : Bool = are_there (λ (p : FreshParts). p.no.0) has.pages pages in
    let c : Bool = are_there (λ (n : InoParts). n.no) has.inodes numbers in
    let outer = and_parts (a && b) c h in
    let inner = and_parts a b outer.0 in
    ((and_parts (list_all (may_hand_in has) inos) (are_new [] inos) inner.0).1, once (λ (p : FreshParts). p.no.0) has.pages pages inner.1, once (λ (n : InoParts). n.no) has.inodes numbers outer.1)
  where
    once : {X : Type 0} (number : X → ℕ) (xs : List X) (names : List ℕ) → are_there number xs names ≡ true → are_new [] names ≡ true
    once number xs names t = (and_parts (list_all (λ n. is_among n (map number xs)) names) (are_new [] names) t).1
