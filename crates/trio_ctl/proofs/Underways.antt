-- The releases that have begun and not ended, in the state of the controller.
use Rattle.trio_ctl.proofs.Words.{◌∙◌, ◌≡◌, Answered, Controller, Creds, CtlAnswer, Event, GivenEvent, Image, IsIdle, Kept, KeptUnderway, List, None, Option, Outline, State, Step, Underway, acts_keep, ap, begun_among, begun_by, length, length-replicate, outline_of, refl, replicate, slice_index_or, some_apart, start, suc, zero, ℕ}
use Rattle.trio_state.specs.Moves.{One}
use Rattle.trio_state.specs.Step.{library_of}
use Rattle.trio_laws.proofs.acts.Underways.{begun_like}
use Rattle.trio_ctl.specs.Ctl.{NoneBegun}

-- the state with what has begun
abbrev pub underway_in : State → List (Option Outline) → Underway
underway_in s begun = record { state = s; begun = begun }

-- in another state the library is idle too
pub idle_in : (s t : State) (begun : List (Option Outline)) (lib : ℕ) → begun_by (underway_in s begun) lib ≡ None → begun_by (underway_in t begun) lib ≡ None
idle_in s t begun lib idle = begun_like (underway_in s begun) (underway_in t begun) lib refl ∙ idle

-- after a call of an idle library
pub underway_after : (s s' : State) (begun begun' : List (Option Outline)) (event : Event) (answer : CtlAnswer) → KeptUnderway (underway_in s begun) → begun_by (underway_in s begun) (library_of event) ≡ None → GivenEvent s event → Step s event answer s' → begun' ≡ begun → KeptUnderway (underway_in s' begun')
underway_after s s' begun begun' event answer k idle given step same =
    acts_keep (underway_in s begun) (One event) (Answered answer) (underway_in s' begun') k (idle, given) (answer, refl, step, same)

-- ---- the start

pub none_idle : (s : State) (n lib : ℕ) → begun_by (underway_in s (replicate n None)) lib ≡ None
none_idle s n zero = refl
none_idle s n (suc k) = nowhere n k
  where
    nowhere : (n k : ℕ) → slice_index_or (replicate {A = Option Outline} n None) k None ≡ None
    nowhere zero k = refl
    nowhere (suc n) zero = refl
    nowhere (suc n) (suc k) = nowhere n k

pub all_idle : (s : State) (begun : List (Option Outline)) (n lib : ℕ) → begun ≡ replicate n None → begun_by (underway_in s begun) lib ≡ None
all_idle s begun n lib none = ap (λ l. begun_by (underway_in s l) lib) none ∙ none_idle s n lib

pub none_among : (n : ℕ) → begun_among (replicate n None) ≡ 0
none_among zero = refl
none_among (suc n) = none_among n

pub underway_begins : (image : Image) (creds : List Creds) (begun : List (Option Outline)) → Kept (start image creds) → begun ≡ replicate (length creds) None → KeptUnderway (underway_in (start image creds) begun)
underway_begins image creds begun k none =
    let u = underway_in (start image creds) begun in
    record {
      kept = k;
      placed = ap length none ∙ length-replicate (length creds) None;
      given = λ l b e full. absurd (some_apart (begun_by u l) (outline_of b) e (all_idle u.state begun (length creds) l none));
      closed = λ l b e. absurd (some_apart (begun_by u l) (outline_of b) e (all_idle u.state begun (length creds) l none));
    }

-- ---- what is seen of the controller

-- a library stays idle while nothing begins
pub idle_still : (c c' : Controller) (lib : ℕ) → c'.begun ≡ c.begun → IsIdle c lib → IsIdle c' lib
idle_still c c' lib same idle = begun_like (underway_in c.state c.begun) (underway_in c'.state c'.begun) lib same ∙ idle

-- and all of them do
pub none_still : (c c' : Controller) → c'.begun ≡ c.begun → NoneBegun c → NoneBegun c'
none_still c c' same none = λ lib. idle_still c c' lib same (none lib)
