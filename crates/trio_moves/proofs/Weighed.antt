-- What was weighed of a release that has begun stands at its end.
use Rattle.std.proofs.Common.{◌≡◌, ◌≢◌, ℕ, ◌≤◌, List, [], ◌∷◌, ◌++◌, Some, None, sym, refl, ap, ◌∙◌, subst, inl, inr}
use Rattle.trio_rights.specs.Bundle.{Bundle}
use Rattle.trio_lists.specs.Lists.{In}
use Rattle.trio_layout.specs.Case.{Case}
use Rattle.trio_layout.specs.Copied.{with_copied}
use Rattle.trio_state.specs.Given.{GivenEvent}
use Rattle.trio_state.specs.Moves.{Underway, Outline, outline_of, begun_by, with_begun, none_begun, Act, Begin, End, One, ActAnswer, HasBegun, IsFull, GivenAct, Beginning, IsTaken, ComesBack, HasNoRoom, Acts, ActMove, ActTrace, KeptUnderway, IsAwaited}
use Rattle.trio_state.specs.State.{State, IsLibrary}
use Rattle.trio_state.specs.Step.{Event, Release, library_of, CtlAnswer, Step}
use Rattle.trio_state.specs.Tells.{case_in}
use Rattle.trio_laws.proofs.acts.Awaited.{awaited_stands, judgeable}
use Rattle.trio_moves.specs.ActRuns.{WeighedStands}
use Rattle.trio_moves.proofs.ActRuns.{ActOf, act_here, first_kept}
use Rattle.trio_moves.proofs.CopiedStay.{step_leaves_case}
use Rattle.trio_laws.proofs.acts.Underways.{begun_here, begun_like, begun_other, begun_within, some_apart}

-- ---- while others go on

-- what has begun of the library has still, and each of its bundles has the same case
record Lasts (u u' : Underway) (lib : ℕ) (o : Outline) : Type 0 where
  pub begun : begun_by u' lib ≡ Some o
  pub case : (b : Bundle) → outline_of b ≡ o → IsFull b → with_copied (case_in u'.state lib b) ≡ with_copied (case_in u.state lib b)

module _ (lib : ℕ) (o : Outline) where
  none_lasts : (u u' : Underway) → begun_by u lib ≡ Some o → u' ≡ u → Lasts u u' lib o
  none_lasts u u' e same = subst (λ v. Lasts u v lib o) (sym same) (record { begun = e; case = λ b is full. refl })

  call_lasts : (u u' : Underway) (event : Event) (said : CtlAnswer) → KeptUnderway u → begun_by u lib ≡ Some o → GivenEvent u.state event
      → Step u.state event said u'.state → library_of event ≢ lib → begun_by u' lib ≡ begun_by u lib → Lasts u u' lib o
  call_lasts u u' event said k e given step apart same = record {
    begun = same ∙ e;
    case = λ b is full. step_leaves_case u.state lib b event said u'.state (judgeable u lib b k (e ∙ ap Some (sym is)) full) given step apart;
  }

  act_lasts : (u : Underway) (act : Act) (answer : ActAnswer) (u' : Underway) → KeptUnderway u → begun_by u lib ≡ Some o → GivenAct u act → Acts u act answer u'
      → ((b : Bundle) → act ≢ End lib b) → Lasts u u' lib o
  act_lasts u (Begin l c) answer u' k e given (ComesBack n parted is same) still = none_lasts u u' e same
  act_lasts u (Begin l c) answer u' k e given (HasNoRoom is same) still = none_lasts u u' e same
  act_lasts u (Begin l c) answer u' k e given (IsTaken closed is same) still =
      let apart : lib ≢ l = λ one. some_apart (begun_by u lib) o e (ap (begun_by u) one ∙ given.1) in
      subst (λ v. Lasts u v lib o) (sym same)
      (record { begun = begun_other u l lib (Some (outline_of c)) given.0.0 apart ∙ e; case = λ b is full. refl })
  act_lasts u (End l c) answer u' k e given act still =
      let apart : l ≢ lib = λ one. still c (ap (λ n. End n c) one) in
      let within = begun_within u l (outline_of c) given.0 in
      call_lasts u u' (Release l c) act.0 k e (k.given l c given.0 given.1) (inl act.2) apart
      (begun_like (with_begun u l None) u' lib act.3 ∙ begun_other u l lib None within.0 (λ one. apart (sym one)))
  act_lasts u (One event) answer u' k e given act still =
      let apart : library_of event ≢ lib = λ one. some_apart (begun_by u lib) o e (ap (begun_by u) (sym one) ∙ given.0) in
      call_lasts u u' event act.0 k e given.1 act.2 apart (begun_like u u' lib act.3)

  -- what acts between come to
  record Between (u : Underway) (rest : List ActMove) : Type 0 where
    pub then : Underway
    pub kept : KeptUnderway then
    pub lasts : Lasts u then lib o
    pub trace : ActTrace then rest

  between : (u : Underway) (moves rest : List ActMove) → KeptUnderway u → begun_by u lib ≡ Some o → ActTrace u (moves ++ rest)
      → ((m : ActMove) (b : Bundle) → In m moves → m.act ≢ End lib b) → Between u rest
  between u [] rest k e t still = record { then = u; kept = k; lasts = none_lasts u u e refl; trace = t }
  between u (m ∷ moves) rest k e t still =
      let a : ActOf m = act_here u m (moves ++ rest) k t in
      let here : Lasts m.before m.after lib o =
      act_lasts m.before m.act m.answer m.after a.before (ap (λ v. begun_by v lib) t.0 ∙ e) a.given a.acts (λ b. still m b (inl refl)) in
      let more = between m.after moves rest a.after here.begun t.3 (λ x b i. still x b (inr i)) in
      record {
        then = more.then;
        kept = more.kept;
        lasts = record {
          begun = more.lasts.begun;
          case = λ b is full. more.lasts.case b is full ∙ here.case b is full ∙ ap (λ (v : Underway). with_copied (case_in v.state lib b)) t.0;
        };
        trace = more.trace;
      }

-- acts that come before others
before : (u : Underway) (moves rest : List ActMove) → KeptUnderway u → ActTrace u (moves ++ rest) → (v : Underway) × KeptUnderway v × ActTrace v rest
before u [] rest k t = (u, k, t)
before u (m ∷ moves) rest k t = (let a = act_here u m (moves ++ rest) k t in before m.after moves rest a.after t.3)

-- a release that has begun is noted, and nothing else changes
begins : (u : Underway) (lib : ℕ) (b : Bundle) (answer : ActAnswer) (u' : Underway) → KeptUnderway u → IsLibrary u.state.creds lib → answer ≡ HasBegun
    → Beginning u lib b answer u' → (begun_by u' lib ≡ Some (outline_of b)) × (u'.state ≡ u.state)
begins u lib b answer u' k is began (IsTaken closed e same) =
    let m = is.1 in
    let p = k.placed in
    (ap (λ v. begun_by v lib) same ∙ begun_here u lib (Some (outline_of b)) is.0 (subst (λ n. lib ≤ n) (sym p) m), ap (λ (v : Underway). v.state) same)
begins u lib b answer u' k is began (ComesBack n parted e same) = (let wrong = sym began ∙ e in absurd cc)
begins u lib b answer u' k is began (HasNoRoom e same) = (let wrong = sym began ∙ e in absurd cc)

pub weighed_stands : WeighedStands
weighed_stands run lib begun ended r =
    let u0 : Underway = none_begun run.image run.creds in
    let rest : List ActMove = r.begins ∷ (r.between ++ (r.ends ∷ r.later)) in
    let moves : run.moves ≡ r.earlier ++ rest = r.moves in
    let t0 : ActTrace u0 (r.earlier ++ rest) = subst (ActTrace u0) moves run.trace in
    let at = before u0 r.earlier rest (first_kept run) t0 in
    let a : ActOf r.begins = act_here at.0 r.begins (r.between ++ r.ends ∷ r.later) at.1 at.2 in
    let given = subst (λ x. GivenAct r.begins.before x) r.begin a.given in
    let act = subst (λ x. Acts r.begins.before x r.begins.answer r.begins.after) r.begin a.acts in
    let noted = begins r.begins.before lib begun r.begins.answer r.begins.after a.before given.0 r.began act in
    let past = between lib (outline_of begun) r.begins.after r.between (r.ends ∷ r.later) a.after noted.0 at.2.3 r.still in
    let z : ActOf r.ends = act_here past.then r.ends r.later past.kept past.trace in
    let end = subst (λ x. GivenAct r.ends.before x) r.end z.given in
    let here : r.ends.before ≡ past.then = past.trace.0 in
    let outlines : Some (outline_of ended) ≡ Some (outline_of begun) = sym end.0 ∙ ap (λ v. begun_by v lib) here ∙ past.lasts.begun in
    let outline : outline_of ended ≡ outline_of begun = cc outlines in
    let s : State = r.ends.before.state in
    let c : Case = with_copied (case_in r.begins.before.state lib ended) in
    let same : with_copied (case_in s lib ended) ≡ c =
    ap (λ (v : Underway). with_copied (case_in v.state lib ended)) here
    ∙ past.lasts.case ended outline end.1
    ∙ ap (λ x. with_copied (case_in x lib ended)) noted.1 in
    let is : IsAwaited r.ends.before lib c = (end.0, sym same) in
    let w = awaited_stands r.ends.before lib c z.before is end.1 in
    (w.0, is, w.1)
