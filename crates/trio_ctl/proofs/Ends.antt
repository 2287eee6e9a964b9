-- The two moves of a release, in the words of the acts.
use Rattle.trio_ctl.proofs.Words.{Accepted, Acts, Answered, AreMine, Begin, Bundle, Bundled, CaseShown, ComesBack, CtlAnswer, End, HasBegun, HasHistory, HasNoRoom, Image, In-map, IsAwaited, IsFull, IsJudgeable, IsRecorded, IsTaken, KeptUnderway, LentFile, LentIsTrue, List, Logged, NoMemory, None, Notes, Option, Outline, Refused, Release, ReleaseAnswer, ReleaseFault, Row, Some, State, Step, Underway, ap, arith, begun_by, bundle_in, case_shown, has_kind, inl, inr, length, list_all, list_all-each, notes_of, outline_of, recorded, refl, release_fault_answer, row_in, same_kind-self, settled, sizes_of, subst, sym, true, verdict_of, with_begun, written_in, written_row, ℕ, ◌+◌, ◌∙◌, ◌≡◌, ◌≤◌}
use Rattle.trio_state.specs.Moves.{ActAnswer, GivenAct}
use Rattle.trio_state.specs.Step.{ReleaseEnd}
use Rattle.trio_state.specs.State.{IsLibrary}
use Rattle.trio_laws.specs.ActLaws.{AtOnce, InARow}
use Rattle.trio_laws.proofs.acts.TwoMoves.{release_is_two_moves}
use Rattle.trio_laws.proofs.acts.Underways.{begun_here, begun_within}

-- a verdict is no want of memory
with_memory : (v : ReleaseAnswer) → verdict_of v ≡ NoMemory → ⊥
with_memory Accepted e = absurd cc
with_memory (Refused rule ino page slot) e = absurd cc

pub step_ends : (s s' : State) (lib : ℕ) (b : Bundle) (v : ReleaseAnswer) → Step s (Release lib b) (verdict_of v) s' → ReleaseEnd s lib b (verdict_of v) s'
step_ends s s' lib b v (inl does) = does
step_ends s s' lib b v (inr none) = absurd (with_memory v none.1)

-- the end of a release, by its step
pub ends : (u u' : Underway) (lib : ℕ) (b : Bundle) (v : ReleaseAnswer) → Step u.state (Release lib b) (verdict_of v) u'.state → u'.begun ≡ (with_begun u lib None).begun → Acts u (End lib b) (Answered (verdict_of v)) u'
ends u u' lib b v step taken = (verdict_of v, refl, step_ends u.state u'.state lib b v step, taken)

-- ---- what holds after a beginning

pub after_begin : (first : Image) (s s' : State) (begun begun' : List (Option Outline)) (promised promised' : ℕ) (log log' : Logged) (notes : Notes) → HasHistory first s begun promised log notes → s' ≡ s → KeptUnderway (record { state = s'; begun = begun' }) → log'.entries ≡ log.entries → length log'.entries + promised' ≤ log'.room → HasHistory first s' begun' promised' log' notes
after_begin first s s' begun begun' promised promised' log log' notes h same underway entries room = record {
  all = subst (λ (t : State). IsRecorded (recorded first t log'.entries)) (sym same) (subst (λ es. IsRecorded (recorded first s es)) (sym entries) h.all);
  underway = underway;
  room = room;
  mine = subst AreMine (sym same) h.mine;
  lent = subst LentIsTrue (sym same) h.lent;
  noted = h.noted ∙ ap (λ (t : State). notes_of (settled t)) (sym same);
  sizes = ap sizes_of same ∙ h.sizes;
}

-- ---- what is awaited

pub judged_now : (u : Underway) (lib : ℕ) (k : CaseShown) → KeptUnderway u → IsAwaited u lib (case_shown k) → IsFull (bundle_in k.bundle) → IsJudgeable u.state lib (bundle_in k.bundle)
judged_now u lib k kept awaited full = record { kept = kept.kept; given = kept.given lib (bundle_in k.bundle) awaited.0 full; closed = kept.closed lib (bundle_in k.bundle) awaited.0 }

some_same : {X : Type 0} (x y : X) → Some x ≡ Some y → x ≡ y
some_same x y e = cc

pub began_so : (u : Underway) (lib : ℕ) (o p : Outline) → begun_by u lib ≡ Some o → begun_by u lib ≡ Some p → o ≡ p
began_so u lib o p e f = some_same o p (sym e ∙ f)

pub its_library : (u : Underway) (lib : ℕ) (o : Outline) → KeptUnderway u → begun_by u lib ≡ Some o → IsLibrary u.state.creds lib
its_library u lib o kept e = (let l = begun_within u lib o e in let p = kept.placed in let m = l.1 in (l.0, omega (arith, m, p)))

-- a written file is live, of its kind
pub written_live : (s : State) (lib : ℕ) (b : Bundled) (rows : List (Option Row)) → rows ≡ s.home.rows → IsJudgeable s lib (bundle_in b) → list_all (λ f. has_kind f.stands.kind (row_in rows f.stands.ino)) b.writes ≡ true
written_live s lib b rows same j =
    list_all-each (λ f. has_kind f.stands.kind (row_in rows f.stands.ino)) b.writes
    (λ f i.
    let q = written_row s lib (bundle_in b) j (written_in f.stands) (In-map (λ (x : LentFile). written_in x.stands) f b.writes i) in
    ap (λ rs. has_kind f.stands.kind (row_in rs f.stands.ino)) same ∙ ap (has_kind f.stands.kind) q.1 ∙ same_kind-self f.stands.kind q.0.kind q.2)

-- ---- the two moves in a row

-- what has begun once a release begins
pub begun_so : (u mid : Underway) (lib : ℕ) (b : Bundle) → IsLibrary u.state.creds lib → length u.begun ≡ length u.state.creds → Acts u (Begin lib b) HasBegun mid → begun_by mid lib ≡ Some (outline_of b)
begun_so u mid lib b its placed (IsTaken closed is same) =
    ap (λ (x : Underway). begun_by x lib) same ∙ begun_here u lib (Some (outline_of b)) its.0 (let m = its.1 in omega (arith, m, placed))
begun_so u mid lib b its placed (ComesBack n parted is same) = absurd cc
begun_so u mid lib b its placed (HasNoRoom is same) = absurd cc

abbrev said_in : CtlAnswer → ActAnswer → CtlAnswer
said_in other HasBegun = other
said_in other (Answered said) = said

-- a release in one call, from its two moves in a row
pub in_a_row : (u mid u' : Underway) (lib : ℕ) (b : Bundle) (v : ReleaseAnswer) → GivenAct u (Begin lib b) → length u.begun ≡ length u.state.creds → Acts u (Begin lib b) HasBegun mid → IsFull b → Acts mid (End lib b) (Answered (verdict_of v)) u' → Step u.state (Release lib b) (verdict_of v) u'.state × (u'.begun ≡ u.begun)
in_a_row u mid u' lib b v given placed begin full end =
    let one = (release_is_two_moves u lib b (Answered (verdict_of v)) u' given placed).1 (InARow mid begin (begun_so u mid lib b given.0 placed begin, full) end) in
    (subst (λ a. Step u.state (Release lib b) a u'.state) (sym (ap (said_in NoMemory) one.1)) one.2, one.3)

-- and from a beginning that comes back
pub at_once : (u u' : Underway) (lib : ℕ) (b : Bundle) (f : ReleaseFault) → GivenAct u (Begin lib b) → length u.begun ≡ length u.state.creds → Acts u (Begin lib b) (Answered (release_fault_answer f)) u' → Step u.state (Release lib b) (release_fault_answer f) u'.state × (u'.begun ≡ u.begun)
at_once u u' lib b f given placed begin =
    let one = (release_is_two_moves u lib b (Answered (release_fault_answer f)) u' given placed).1 (AtOnce (release_fault_answer f) refl begin) in
    (subst (λ a. Step u.state (Release lib b) a u'.state) (sym (ap (said_in NoMemory) one.1)) one.2, one.3)
