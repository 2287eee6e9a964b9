-- The files that a bundle writes, by their leases.
use Rattle.trio_judge_tests.proofs.Words.{◌||◌, ◌∷◌, ◌≡◌, Bool, LentFile, List, Some, [], cond, eqb, false, is_some, list_any, map, refl, true, ℕ}
use Rattle.std.specs.List.{find}
use Rattle.trio_lease.specs.Views.{written_in}

pub written_any : (fs : List LentFile) (n : ℕ) → list_any (λ f. eqb f.stands.ino n) fs ≡ is_some (find (λ w. eqb w.ino n) (map (λ f. written_in f.stands) fs))
written_any [] n = refl
written_any (f ∷ fs) n = by (eqb f.stands.ino n) (written_any fs n)
  where
    by : (t : Bool) → list_any (λ f. eqb f.stands.ino n) fs ≡ is_some (find (λ w. eqb w.ino n) (map (λ f. written_in f.stands) fs)) → (t || list_any (λ f. eqb f.stands.ino n) fs) ≡ is_some (cond t (Some (written_in f.stands)) (find (λ w. eqb w.ino n) (map (λ f. written_in f.stands) fs)))
    by true again = refl
    by false again = again
