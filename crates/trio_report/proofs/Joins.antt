-- Pieces appended one after another.
use Rattle.std.proofs.Common.{◌≡◌, List, [], ◌∷◌, ◌++◌, Result, Ok, Err, OnOk, ℕ, append_assoc}

pub five_joined : {T E : Type 0} (r : Result T E) (o o1 o2 o3 o4 o5 a b c d e l : List ℕ) → o1 ≡ o ++ a → o2 ≡ o1 ++ b → o3 ≡ o2 ++ c → o4 ≡ o3 ++ d → a ++ b ++ c ++ d ++ e ≡ l → OnOk r (o5 ≡ o4 ++ e) → OnOk r (o5 ≡ o ++ l)
five_joined (Err x) o o1 o2 o3 o4 o5 a b c d e l p q s t w h = tt
five_joined (Ok x) o o1 o2 o3 o4 o5 a b c d e l p q s t w h =
    let all : ((((o ++ a) ++ b) ++ c) ++ d) ++ e ≡ o ++ (a ++ b ++ c ++ d ++ e) = simp append_assoc in
    rw (t, s, q, p, all, w) at h

-- a word, and two numbers after a space (32) each
pub two_numbers_put : {T E : Type 0} (r : Result T E) (o o1 o2 word text a b : List ℕ) → o1 ≡ o ++ word → text ≡ 32 ∷ (a ++ (32 ∷ b)) → OnOk r (o2 ≡ o1 ++ text)
    → OnOk r (o2 ≡ o ++ (word ++ 32 ∷ [] ++ a ++ 32 ∷ [] ++ b))
two_numbers_put (Err x) o o1 o2 word text a b p q h = tt
two_numbers_put (Ok x) o o1 o2 word text a b p q h =
    let all : (o ++ word) ++ (32 ∷ (a ++ (32 ∷ b))) ≡ o ++ (word ++ 32 ∷ [] ++ a ++ 32 ∷ [] ++ b) = simp append_assoc in
    rw (q, p, all) at h
