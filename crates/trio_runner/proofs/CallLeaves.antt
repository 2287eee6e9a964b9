-- What a call that happens leaves out to its library.
use Rattle.trio_runner.proofs.Words.{◌≡◌, Allot, Ask, Bool, Done, GiveBack, Given, Grant, Happens, Judged, Kept, Lent, LibNo, LibOut, List, ModeSet, NoModeMemory, NoReleaseMemory, NotGiven, NotJudged, NotLent, NotModeSet, OutAlike, Release, SetMode, State, Step, Told, allots, cond, false, free_numbers, free_pages, inl, inr, length, logged, nat_lt, out_after, out_of, subst, sym, take, true, ℕ, ⊤}
use Rattle.std.specs.Prelude.{Ok, Err}
use Rattle.trio_desk.specs.Out.{with_allotted}
use Rattle.trio_state.specs.Step.{Outcome, Comes}
use Rattle.trio_state.specs.Step as step
use Rattle.trio_ctl.proofs.DeskFresh.{numbers_may, pages_may}
use Rattle.trio_ctl.proofs.DeskOuts.{allotted_out}
use Rattle.trio_ctl.proofs.DeskSteps.{allot_seen, back_seen, grant_seen, mode_seen, release_out}

-- an answer that such an ask can have
abbrev pub Fits : Ask → Told → Type 0
Fits (Grant ino kind) (Lent lease) = ⊤
Fits (Grant ino kind) (NotLent fault) = ⊤
Fits (Allot pages numbers) (Given ps ns) = ⊤
Fits (Allot pages numbers) (NotGiven fault) = ⊤
Fits (GiveBack lease) Done = ⊤
Fits (Release parcel) (Judged answer) = ⊤
Fits (Release parcel) (NotJudged fault) = ⊤
Fits (SetMode ino mode back call) ModeSet = ⊤
Fits (SetMode ino mode back call) (NotModeSet fault) = ⊤
Fits ask told = ⊥

module _ (s : State) (lib : LibNo) (s' : State) where
  abbrev After : Ask → Told → Type 0
  After ask told = OutAlike (out_of s' lib) (out_after (out_of s lib) ask told)

  -- pages and numbers that are given go out
  allotted_after : (wanted many : ℕ) (pages numbers : List ℕ) → Kept s → Step s (step.Allot lib.0 wanted many) (step.Given pages numbers) s' → After (Allot wanted many) (Given pages numbers)
  allotted_after wanted many pages numbers kept (inr none) = (let wrong : step.Given pages numbers ≡ step.NoMemory = none.1 in absurd (cc wrong))
  allotted_after wanted many pages numbers kept (inl does) = by (nat_lt (length (free_pages s)) wanted) (nat_lt (length (free_numbers s)) many) does
    where
      ps : List ℕ
      ps = take wanted (free_pages s)

      ns : List ℕ
      ns = take many (free_numbers s)

      outcome : Bool → Bool → Outcome
      outcome a b =
          cond a (record { answer = step.NoPages wanted (length (free_pages s)); after = logged s })
          (cond b (record { answer = step.NoInodes many (length (free_numbers s)); after = logged s })
          (record { answer = step.Given ps ns; after = allots s lib.0 ps ns }))

      by : (a b : Bool) → Comes (outcome a b) (step.Given pages numbers) s' → After (Allot wanted many) (Given pages numbers)
      by true b c = (let wrong : step.Given pages numbers ≡ step.NoPages wanted (length (free_pages s)) = c.0 in absurd (cc wrong))
      by false true c = (let wrong : step.Given pages numbers ≡ step.NoInodes many (length (free_numbers s)) = c.0 in absurd (cc wrong))
      by false false c =
          let is : step.Given pages numbers ≡ step.Given ps ns = c.0 in
          let p : pages ≡ ps = cc is in
          let n : numbers ≡ ns = cc is in
          let base : OutAlike (out_of (allots s lib.0 ps ns) lib) (with_allotted (out_of s lib) ps ns) =
          allotted_out s lib ps ns (pages_may s lib wanted kept).placed (numbers_may s lib many kept).placed in
          let out : LibOut = out_of s lib in
          subst (λ t. OutAlike (out_of t lib) (with_allotted out pages numbers)) (sym c.1)
          (subst (λ (x : List ℕ). OutAlike (out_of (allots s lib.0 ps ns) lib) (with_allotted out x numbers)) (sym p)
          (subst (λ (x : List ℕ). OutAlike (out_of (allots s lib.0 ps ns) lib) (with_allotted out ps x)) (sym n) base))

  pub call_leaves : (ask : Ask) (told : Told) → Fits ask told → Kept s → Happens s lib ask told s' → After ask told
  call_leaves (Grant ino kind) (Lent lease) f kept h = (grant_seen s lib ino kind s' (Ok lease) h.is_step h.lease).out
  call_leaves (Grant ino kind) (NotLent fault) f kept h = (grant_seen s lib ino kind s' (Err fault) h.is_step tt).out
  call_leaves (Allot pages numbers) (Given ps ns) f kept h = allotted_after pages numbers ps ns kept h.is_step
  call_leaves (Allot pages numbers) (NotGiven fault) f kept h = (allot_seen s lib pages numbers s' (Err fault) kept h.is_step).out
  call_leaves (GiveBack lease) Done f kept h = (back_seen s lib lease s' h.is_step).out
  call_leaves (Release parcel) (Judged answer) f kept h = release_out s lib parcel s' {B = Unit {0}} (Ok answer) (λ x. NoReleaseMemory) h.is_step
  call_leaves (Release parcel) (NotJudged fault) f kept h = release_out s lib parcel s' {B = Unit {0}} (Err tt) (λ x. fault) h.is_step
  call_leaves (SetMode ino mode back call) ModeSet f kept h = (mode_seen s lib ino mode back call s' {A = Unit {0}} {B = Unit {0}} (Ok tt) (λ x. NoModeMemory) h).out
  call_leaves (SetMode ino mode back call) (NotModeSet fault) f kept h = (mode_seen s lib ino mode back call s' {A = Unit {0}} {B = Unit {0}} (Err tt) (λ x. fault) h).out
  call_leaves ask told f kept h = absurd f
