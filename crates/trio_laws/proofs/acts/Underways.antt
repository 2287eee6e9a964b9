-- Every act keeps what holds between the moves of releases.
use Rattle.trio_laws.proofs.Words.{◌-◌, ◌<◌, ◌∙◌, ◌∷◌, ◌≡◌, ◌≢◌, ◌≤◌, ActAnswer, Begin, Beginning, Bundle, ComesBack, CtlAnswer, End, Event, GivenEvent, GivenTo, HasNoRoom, IsLibrary, IsTaken, KeptUnderway, List, None, One, Option, Outline, Release, Some, Step, Underway, [], ap, arith, begun_by, cases_eq, get_or-set_other, inl, inr, length, length-set, outline_of, parted_hold, refl, slice_index_or, subst, suc, sym, with_begun, zero, ℕ}
use Rattle.std.proofs.lemmas.Grind.{get_or-set_at}
use Rattle.trio_state.specs.Step.{library_of}
use Rattle.trio_laws.proofs.OtherSteps.{given_through, closed_through}
use Rattle.trio_laws.proofs.Runs.{step_kept}
use Rattle.trio_laws.proofs.history.Grows.{step_creds}
use Rattle.trio_laws.specs.ActLaws.{ActsKeep}
use Rattle.trio_laws.proofs.acts.Outlines.{given_alike, closed_alike}

-- ---- what has begun, by library

pub some_apart : {X : Type 0} (o : Option X) (x : X) → o ≡ Some x → o ≡ None → ⊥
some_apart o x e f = (let wrong : None ≡ Some x = sym f ∙ e in absurd cc)

pub begun_like : (u v : Underway) (lib : ℕ) → v.begun ≡ u.begun → begun_by v lib ≡ begun_by u lib
begun_like u v zero e = refl
begun_like u v (suc n) e = ap (λ l. slice_index_or l n None) e

pub begun_at : (xs : List (Option Outline)) (n : ℕ) (o : Outline) → slice_index_or xs n None ≡ Some o → n < length xs
begun_at [] n o e = absurd cc
begun_at (x ∷ xs) zero o e = omega arith
begun_at (x ∷ xs) (suc n) o e = (let l = begun_at xs n o e in omega (arith, l))

pub begun_within : (u : Underway) (lib : ℕ) (o : Outline) → begun_by u lib ≡ Some o → (1 ≤ lib) × (lib ≤ length u.begun)
begun_within u zero o e = absurd cc
begun_within u (suc n) o e = (let l = begun_at u.begun n o e in (omega arith, omega (arith, l)))

pub begun_other : (u : Underway) (lib other : ℕ) (o : Option Outline) → 1 ≤ lib → other ≢ lib → begun_by (with_begun u lib o) other ≡ begun_by u other
begun_other u lib zero o l apart = refl
begun_other u lib (suc n) o l apart =
    get_or-set_other u.begun (lib - 1) n o None (λ e. apart (omega (arith, l, e)))

pub begun_here : (u : Underway) (lib : ℕ) (o : Option Outline) → 1 ≤ lib → lib ≤ length u.begun → begun_by (with_begun u lib o) lib ≡ o
begun_here u zero o l m = absurd (omega (arith, l))
begun_here u (suc n) o l m =
    get_or-set_at u.begun (suc n - 1) n o None (omega arith) (omega (arith, m))

-- ---- each act

-- a call of a library, where what has begun of others stays and of it nothing has begun then
step_keeps : (u u' : Underway) (event : Event) (answer : CtlAnswer) → KeptUnderway u → GivenEvent u.state event → Step u.state event answer u'.state
    → length u'.begun ≡ length u.begun
    → ((l : ℕ) (o : Outline) → begun_by u' l ≡ Some o → (begun_by u l ≡ Some o) × (library_of event ≢ l))
    → KeptUnderway u'
step_keeps u u' event answer k given step long others = record {
  kept = step_kept u.state u'.state event answer k.kept given step;
  placed = long ∙ k.placed ∙ ap length (sym (step_creds u.state event answer u'.state step));
  given = λ l c e full.
      let was = others l (outline_of c) e in
      given_through u.state (Release l c) event answer u'.state k.kept (k.given l c was.0 full) given step was.1;
  closed = search (arith, closed_through);
}

-- a release that begins
taken_keeps : (u : Underway) (lib : ℕ) (b : Bundle) → KeptUnderway u → IsLibrary u.state.creds lib → GivenTo u.state lib b → parted_hold u.state lib b ≡ None
    → KeptUnderway (with_begun u lib (Some (outline_of b)))
taken_keeps u lib b k is given closed =
    let v : Underway = with_begun u lib (Some (outline_of b)) in
    let p = k.placed in
    let m = is.1 in
    let here : begun_by v lib ≡ Some (outline_of b) = begun_here u lib (Some (outline_of b)) is.0 (omega (arith, p, m)) in
    let alike : (c : Bundle) → begun_by v lib ≡ Some (outline_of c) → outline_of b ≡ outline_of c =
    λ c e. let both : Some (outline_of b) ≡ Some (outline_of c) = sym here ∙ e in cc both in
    record {
      kept = k.kept;
      placed = length-set u.begun (lib - 1) (Some (outline_of b)) ∙ k.placed;
      given = λ l c e full. elim (cases_eq l lib) [
        | inl same ↦
            let e' : begun_by v lib ≡ Some (outline_of c) = ap (begun_by v) (sym same) ∙ e in
            subst (λ n. GivenTo u.state n c) (sym same) (given_alike b c (alike c e') u.state lib full given)
        | inr apart ↦ k.given l c (sym (begun_other u lib l (Some (outline_of b)) is.0 apart) ∙ e) full
      ];
      closed = search (arith, cases_eq, closed_alike, begun_other);
    }

beginning_keeps : (u : Underway) (lib : ℕ) (b : Bundle) (answer : ActAnswer) (u' : Underway) → KeptUnderway u → IsLibrary u.state.creds lib → GivenTo u.state lib b
    → Beginning u lib b answer u' → KeptUnderway u'
beginning_keeps u lib b answer u' k is given (IsTaken closed e same) = subst KeptUnderway (sym same) (taken_keeps u lib b k is given closed)
beginning_keeps u lib b answer u' k is given (ComesBack n parted e same) = subst KeptUnderway (sym same) k
beginning_keeps u lib b answer u' k is given (HasNoRoom e same) = subst KeptUnderway (sym same) k

pub acts_keep : ActsKeep
acts_keep u (Begin lib b) answer u' k given act = beginning_keeps u lib b answer u' k given.0 given.2 act
acts_keep u (End lib b) answer u' k given act =
    let in_range = begun_within u lib (outline_of b) given.0 in
    let ended : begun_by u' lib ≡ None = begun_like (with_begun u lib None) u' lib act.3 ∙ begun_here u lib None in_range.0 in_range.1 in
    step_keeps u u' (Release lib b) act.0 k (k.given lib b given.0 given.1) (inl act.2)
    (ap length act.3 ∙ length-set u.begun (lib - 1) None)
    (λ l o e.
    let apart : l ≢ lib = λ same. some_apart (begun_by u' lib) o (ap (begun_by u') (sym same) ∙ e) ended in
    (sym (begun_other u lib l None in_range.0 apart) ∙ sym (begun_like (with_begun u lib None) u' l act.3) ∙ e, λ same. apart (sym same)))
acts_keep u (One event) answer u' k given act =
    step_keeps u u' event act.0 k given.1 act.2 (ap length act.3)
    (λ l o e.
    let was : begun_by u l ≡ Some o = sym (begun_like u u' l act.3) ∙ e in
    (was, λ same. some_apart (begun_by u l) o was (ap (begun_by u) (sym same) ∙ given.0)))
