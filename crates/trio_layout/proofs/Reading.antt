-- Reading as the inverse of a spelling: what a reader answers, against the value that the definitions compute.
use Rattle.trio_layout.proofs.Words.{◌&&◌, ◌≡◌, Bool, IfSome, List, None, Option, Some, bytes_eq, cond, false, false≢true, refl, true, ℕ}
use Rattle.std.proofs.lemmas.Slice.Eq.{bytes_eq-Decides}

pub bytes_eq-true : (xs ys : List ℕ) → bytes_eq xs ys ≡ true → xs ≡ ys
bytes_eq-true xs ys e = (bytes_eq-Decides xs ys).0 e

pub true-bytes_eq : (xs ys : List ℕ) → xs ≡ ys → bytes_eq xs ys ≡ true
true-bytes_eq xs ys e = (bytes_eq-Decides xs ys).1 e

-- A reader that finds only what is related, and finds all that is, answers the fields where both tests hold, and else nothing.
pub reading : {X : Type 0} (P : X → Type 0) (x : X) (spelled fits : Bool) (r : Option X)
    → (spelled ≡ true → fits ≡ true → P x)
    → ((y : X) → P y → (x ≡ y) × (spelled ≡ true) × (fits ≡ true))
    → IfSome r P → ((y : X) → P y → r ≡ Some y) → r ≡ cond (spelled && fits) (Some x) None
reading P x true true r is uniquely found only = only x (is refl refl)
reading P x true false None is uniquely found only = refl
reading P x true false (Some y) is uniquely found only = absurd (false≢true (uniquely y found).2)
reading P x false fits None is uniquely found only = refl
reading P x false fits (Some y) is uniquely found only = absurd (false≢true (uniquely y found).1)
