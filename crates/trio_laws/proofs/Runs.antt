-- Every step keeps what holds of a state, and so does every run.
use Rattle.trio_laws.proofs.Words.{Allot, Back, Bundle, Creds, CtlAnswer, Event, GivenEvent, GivenTo, Grant, Image, In, IsAccepted, IsFit, IsRefused, IsWhole, Kept, List, Move, Parted, Release, ReleaseEnd, SetMode, Settle, State, Step, Trace, Verifies, arith, creds_of, false≢true, inl, inr, length-replicate, lib_at-none_out, start, subst, sym, ℕ}
use Rattle.trio_laws.proofs.Accepting.{accepted_kept}
use Rattle.trio_laws.proofs.Allots.{allot_kept}
use Rattle.trio_laws.proofs.Bundles.{closed_unparted, closed_all}
use Rattle.trio_laws.proofs.Backs.{back_kept}
use Rattle.trio_laws.proofs.Cases.{trace_keeps}
use Rattle.trio_laws.proofs.Grants.{grant_kept}
use Rattle.trio_laws.proofs.Modes.{mode_kept}
use Rattle.trio_laws.proofs.Refusing.{refused_kept}

-- a step of a release of any bundle that was given to its library
pub release_kept : (s s' : State) (lib : ℕ) (b : Bundle) (answer : CtlAnswer) → Kept s → GivenTo s lib b → Step s (Release lib b) answer s' → Kept s'
release_kept s s' lib b answer k given (inr none) = (let K : State → Type 0 = λ x. Kept x in subst K (sym none.2) k)
release_kept s s' lib b answer k given (inl does) = by_end does
  where
    by_end : ReleaseEnd s lib b answer s' → Kept s'
    by_end (Parted n none e same) = (let K : State → Type 0 = λ x. Kept x in subst K (sym same) k)
    by_end (IsAccepted none t e ends) = accepted_kept s s' k lib (creds_of s lib) b given (closed_unparted s lib b none) t ends
    by_end (IsRefused none f why e tells ends) = refused_kept s s' k lib b given (closed_unparted s lib b none) ends

-- a step of a settle
pub settle_kept : (s s' : State) (lib : ℕ) (b : Bundle) (answer : CtlAnswer) → Kept s → GivenTo s lib b → Step s (Settle lib b) answer s' → Kept s'
settle_kept s s' lib b answer k given step =
    let K : State → Type 0 = λ x. Kept x in
    elim step [
      | inl does ↦ accepted_kept s s' k lib (creds_of s lib) b given (closed_all s lib b does.1) does.2 does.3
      | inr none ↦ subst K (sym none.2) k
    ]

-- each step keeps what holds of a state
pub step_kept : (s s' : State) (event : Event) (answer : CtlAnswer) → Kept s → GivenEvent s event → Step s event answer s' → Kept s'
step_kept s s' (Grant lib ino kind) answer k given step = grant_kept s s' lib ino kind answer k step
step_kept s s' (Allot lib pages numbers) answer k given step = allot_kept s s' lib pages numbers answer k step
step_kept s s' (Back lib ino) answer k given step = back_kept s s' lib ino answer k step
step_kept s s' (Release lib b) answer k given step = release_kept s s' lib b answer k given step
step_kept s s' (Settle lib b) answer k given step = settle_kept s s' lib b answer k given.0 step
step_kept s s' (SetMode lib ino mode) answer k given step = mode_kept s s' lib ino mode answer k step

-- each move of a run begins and ends in a kept state
pub trace_kept : (s : State) (moves : List Move) → Kept s → Trace s moves → (m : Move) → In m moves → Kept m.before × Kept m.after
trace_kept s moves k run m i = trace_keeps Kept (λ s event answer s' was given step. step_kept s s' event answer was given step) s moves k run m i

-- the image that a run begins with
pub start_kept : (image : Image) (creds : List Creds) → IsFit image.core → Verifies image → IsWhole image → Kept (start image creds)
start_kept image creds fit verifies whole = search (arith, length-replicate, false≢true, lib_at-none_out)
