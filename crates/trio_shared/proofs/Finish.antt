-- The end of a release at a seat, whether it is taken or comes back.
use Rattle.trio_shared.proofs.Words.{◌∙◌, ◌≡◌, ◌≤◌, CaseShown, Controller, Ends, EndsHere, Err, Found, Grows, IfErr, IfOk, IsAwaited, IsNotAwaited, LibNo, Looks, Mark, None, Ok, ReleaseAnswer, Result, Same, Seated, ap, case_shown, desk_left, length, marked, underway_of, ℕ}
use Rattle.trio_shared.proofs.Grown.{Saw, desk_same, grew_none, looked}
use Rattle.trio_shared.proofs.TwoMoves.{end_grows, ended, idle_end, not_awaited}

same_all : (x y : Controller) → y ≡ x → Same x y
same_all x y e = record { first = ap (λ (c : Controller). c.first) e; log = ap (λ (c : Controller). c.log) e; state = ap (λ (c : Controller). c.state) e; begun = ap (λ (c : Controller). c.begun) e }

module _ {J : Type 0} (x y : Controller) (lib : LibNo) (k : CaseShown) where
  pub grows_end : (r : Result ReleaseAnswer J) → 1 ≤ lib.0 → IfOk r (λ a. EndsHere x lib k a y) → IfErr r (λ b. y ≡ x) → Grows lib x y
  grows_end (Ok a) one e s = end_grows x y lib k a e one
  grows_end (Err b) one e s = grew_none x lib y (same_all x y s)

  pub idle_all : {n : Mark} (r : Result ReleaseAnswer J) → 1 ≤ lib.0 → lib.0 ≤ length x.state.creds → (l : ℕ) → l ≡ lib.0 → n ≡ marked y l → IfOk r (λ a. EndsHere x lib k a y) → IfOk r (λ a. n ≡ None)
  idle_all (Ok a) one few l same at e = at ∙ idle_end x y lib k a e one few l same
  idle_all (Err b) one few l same at e = tt

  module _ (old : Seated) (f : Found old x) (is : lib ≡ old.lib) (new : Seated) (saw : Saw old y new) where
    pub ended_all : (r : Result ReleaseAnswer J) → IfOk r (λ a. EndsHere x lib k a y) → IfOk r (λ a. Ends old k a new)
    ended_all (Ok a) e = ended x y lib k a e old f is new saw
    ended_all (Err b) e = tt

    pub looked_end : (r : Result ReleaseAnswer J) → IfErr r (λ b. y ≡ x) → IfErr r (λ b. k.lib ≡ lib → IsAwaited (underway_of x) lib.0 (case_shown k) → ⊥) → IfErr r (λ b. Looks old (IsNotAwaited old k) new)
    looked_end (Ok a) s refute = tt
    looked_end (Err b) s refute = looked old x f lib is y (same_all x y s) new saw (IsNotAwaited old k) (not_awaited old x f lib is k refute)

    pub desk_end : (r : Result ReleaseAnswer J) → IfErr r (λ b. y ≡ x) → IfErr r (λ b. desk_left new.first new.seen new.lib ≡ desk_left old.first old.seen old.lib)
    desk_end (Ok a) s = tt
    desk_end (Err b) s = desk_same old x f lib is y (same_all x y s) new saw

    pub begun_end : {n : Mark} (r : Result ReleaseAnswer J) → n ≡ marked y old.lib.0 → IfErr r (λ b. y ≡ x) → IfErr r (λ b. n ≡ old.begun)
    begun_end (Ok a) at s = tt
    begun_end (Err b) at s = at ∙ (ap (λ (c : Controller). marked c old.lib.0) s ∙ f.begun)
