-- The two moves of a release between the taking of the controller and its giving back.
use Rattle.trio_shared.proofs.Words.{◌++◌, ◌∙◌, ◌∷◌, ◌≡◌, ◌≢◌, ◌≤◌, Acts, All-nil, Answered, Begin, Bundle, Bundled, CaseShown, Controller, CtlAnswer, DeskSeen, End, Ends, EndsHere, Entry, Err, Event, Found, Grows, IfOk, IsLibrary, IsNotAwaited, IsReturned, IsStillSo, Kept, Leaves, LibNo, LibOut, List, Mark, None, NotJudged, Ok, Option, Origin, Outline, Parted, Release, ReleaseAnswer, ReleaseFault, Result, Seated, Shown, Some, State, Step, TellsBeginning, TellsWhetherClosed, [], ap, append-nil, begin_answer, begun_by, bundle_in, case_made, entries_made, entry_of, inl, length, maker, map, mark_at, mark_of, marked, option_map, origin_of, others_keep_out, out_left, out_of, outline_of, parcel_of, refl, release_fault_answer, subst, sym, underway_of, verdict_of, with_bundle, ℕ}
use Rattle.std.proofs.Common.{MatchResult}
use Rattle.trio_rights.specs.declared.kind.Kind.{Kind}
use Rattle.trio_desk.specs.Call.{TellsClosed}
use Rattle.trio_nodes.specs.declared.answers.ReleaseFault.TheVariants.{NotClosed as NotClosedBundle, NoMemory as NoReleaseMemory}
use Rattle.trio_state.specs.Given.{GivenEvent}
use Rattle.trio_state.specs.Moves.{ActAnswer, ComesBack, FileOutline, HasBegun, HasNoRoom, IsTaken, KeptUnderway, Underway, with_begun}
use Rattle.trio_state.specs.Step.{IsAccepted, IsRefused, ReleaseEnd, library_of}
use Rattle.trio_state.specs.Step as step
use Rattle.trio_laws.proofs.acts.Underways.{begun_here, begun_like, begun_other}
use Rattle.trio_turn.specs.declared.logged.Begun.{Begun}
use Rattle.trio_turn.specs.declared.logged.BegunLease.{BegunLease}
use Rattle.trio_ctl.specs.Ctl.{AreAsTold}
use Rattle.trio_ctl.proofs.DeskClosed.{is_closed, is_lowest_parted}
use Rattle.trio_ctl.proofs.Ends.{begun_so}
use Rattle.trio_shared.specs.Begun.{lease_mark}
use Rattle.trio_shared.proofs.Left.{lib_out, out_is}
use Rattle.trio_shared.proofs.Grown.{Saw, each_of, here, maker_of, marked_none, same_origin}

-- ---- marks

-- what a library has begun goes by what it has out and by its outline
marks_by : (x y : Controller) (l : ℕ) → out_of y.state (record { 0 = l }) ≡ out_of x.state (record { 0 = l }) → begun_by (underway_of y) l ≡ begun_by (underway_of x) l → marked y l ≡ marked x l
marks_by x y l out begun =
    ap (λ (o : LibOut). option_map (mark_of o) (begun_by (underway_of y) l)) out
    ∙ ap (λ (o : Option Outline). option_map (mark_of (out_of x.state (record { 0 = l }))) o) begun

same_file : (f g : FileOutline) → f.ino ≡ g.ino → f.kind ≡ g.kind → f.index ≡ g.index → f.blocks ≡ g.blocks → f ≡ g
same_file f g ino kind index blocks =
    ap (λ (n : ℕ). record { ino = n; kind = f.kind; index = f.index; blocks = f.blocks }) ino
    ∙ ap (λ (k : Kind). record { ino = g.ino; kind = k; index = f.index; blocks = f.blocks }) kind
    ∙ ap (λ (l : List ℕ). record { ino = g.ino; kind = g.kind; index = l; blocks = f.blocks }) index
    ∙ ap (λ (l : List ℕ). record { ino = g.ino; kind = g.kind; index = g.index; blocks = l }) blocks

same_leases : (ws : List Shown) (fs gs : List FileOutline) → map (lease_mark ws) fs ≡ map (lease_mark ws) gs → fs ≡ gs
same_leases ws [] [] e = refl
same_leases ws [] (g ∷ gs) e = absurd (cc e)
same_leases ws (f ∷ fs) [] e = absurd (cc e)
same_leases ws (f ∷ fs) (g ∷ gs) e =
    let one : lease_mark ws f ≡ lease_mark ws g = cc e in
    let more : map (lease_mark ws) fs ≡ map (lease_mark ws) gs = cc e in
    ap (λ (x : FileOutline). x ∷ fs) (same_file f g (ap (λ (m : BegunLease). m.ino) one) (ap (λ (m : BegunLease). m.kind) one) (ap (λ (m : BegunLease). m.index) one) (ap (λ (m : BegunLease). m.blocks) one))
    ∙ ap (λ (l : List FileOutline). g ∷ l) (same_leases ws fs gs more)

-- a mark has its outline
same_outline : (out : LibOut) (o p : Outline) → mark_of out o ≡ mark_of out p → o ≡ p
same_outline out o p e =
    ap (λ (l : List FileOutline). record { writes = l; holds = o.holds; pages = o.pages; numbers = o.numbers }) (same_leases out.writes o.writes p.writes (ap (λ (m : Begun). m.leases) e))
    ∙ ap (λ (l : List ℕ). record { writes = p.writes; holds = l; pages = o.pages; numbers = o.numbers }) (ap (λ (m : Begun). m.holds) e)
    ∙ ap (λ (l : List ℕ). record { writes = p.writes; holds = p.holds; pages = l; numbers = o.numbers }) (ap (λ (m : Begun). m.pages) e)
    ∙ ap (λ (l : List ℕ). record { writes = p.writes; holds = p.holds; pages = p.pages; numbers = l }) (ap (λ (m : Begun). m.numbers) e)

-- ---- the beginning

begun_others : (u u' : Underway) (l' : ℕ) (b : Bundle) (answer : ActAnswer) → 1 ≤ l' → Acts u (Begin l' b) answer u' → (l : ℕ) → l ≢ l' → begun_by u' l ≡ begun_by u l
begun_others u u' l' b answer one (IsTaken parted e is) l other = ap (λ (v : Underway). begun_by v l) is ∙ begun_other u l' l (Some (outline_of b)) one other
begun_others u u' l' b answer one (ComesBack n parted e is) l other = ap (λ (v : Underway). begun_by v l) is
begun_others u u' l' b answer one (HasNoRoom e is) l other = ap (λ (v : Underway). begun_by v l) is

pub begin_grows : (x y : Controller) (lib : LibNo) (b : Bundle) (answer : ActAnswer) → 1 ≤ lib.0 → Acts (underway_of x) (Begin lib.0 b) answer (underway_of y) → y ≡ record x { begun = y.begun; spare = y.spare } → Grows lib x y
begin_grows x y lib b answer one acts rest = record {
  log = ([], append-nil x.log ∙ sym (ap (λ (c : Controller). c.log) rest), All-nil (λ (e : Entry). maker e ≡ lib.0));
  origin = ap origin_of rest;
  others = λ l other. marks_by x y l (ap (λ (c : Controller). out_of c.state (record { 0 = l })) rest) (begun_others (underway_of x) (underway_of y) lib.0 b answer one acts l other);
}

module _ (x y : Controller) (lib : LibNo) (b : Bundled) where
  pub tells_beginning : {B : Type 0} (r : Result CaseShown B) (fault : B → ReleaseFault) → Acts (underway_of x) (Begin lib.0 (bundle_in b)) (begin_answer r fault) (underway_of y) → IfOk r (λ p. p ≡ case_made x.state lib b)
      → TellsBeginning x.state lib b r fault
  tells_beginning (Ok p) fault (IsTaken parted e is) made = (parted, made)
  tells_beginning (Ok p) fault (ComesBack n parted e is) made = let wrong : HasBegun ≡ Answered (step.NotClosed n) = e in absurd (cc wrong)
  tells_beginning (Ok p) fault (HasNoRoom e is) made = let wrong : HasBegun ≡ Answered step.NoMemory = e in absurd (cc wrong)
  tells_beginning (Err back) fault acts made = by (fault back) acts
    where
      by : (g : ReleaseFault) → Acts (underway_of x) (Begin lib.0 (bundle_in b)) (Answered (release_fault_answer g)) (underway_of y) → IsReturned x.state lib b g
      by (NotClosedBundle n) (IsTaken parted e is) = let wrong : Answered (step.NotClosed n) ≡ HasBegun = e in absurd (cc wrong)
      by (NotClosedBundle n) (ComesBack m parted e is) =
          let same : Answered (step.NotClosed n) ≡ Answered (step.NotClosed m) = e in
          let nm : n ≡ m = cc same in
          parted ∙ ap (λ (k : ℕ). Some k) (sym nm)
      by (NotClosedBundle n) (HasNoRoom e is) = let wrong : Answered (step.NotClosed n) ≡ Answered step.NoMemory = e in absurd (cc wrong)
      by NoReleaseMemory acts = tt

  -- a bundle that is taken in is closed, and of one that comes back it is told where it isn't
  pub whether_closed : {B : Type 0} (r : Result CaseShown B) (fault : B → ReleaseFault) → AreAsTold x.state → TellsBeginning x.state lib b r fault → TellsWhetherClosed (out_of x.state lib) (parcel_of b) r fault
  whether_closed (Ok p) fault told t = is_closed x.state told lib (parcel_of b) t.0
  whether_closed (Err back) fault told t = by (fault back) t
    where
      by : (g : ReleaseFault) → IsReturned x.state lib b g → TellsClosed (out_of x.state lib) (parcel_of b) (NotJudged g)
      by (NotClosedBundle n) t = is_lowest_parted x.state told lib (parcel_of b) n t
      by NoReleaseMemory t = tt

  unbegun : (a : CtlAnswer) (l : ℕ) → Acts (underway_of x) (Begin lib.0 (bundle_in b)) (Answered a) (underway_of y) → begun_by (underway_of y) l ≡ begun_by (underway_of x) l
  unbegun a l (IsTaken parted e is) = let wrong : Answered a ≡ HasBegun = e in absurd (cc wrong)
  unbegun a l (ComesBack n parted e is) = ap (λ (v : Underway). begun_by v l) is
  unbegun a l (HasNoRoom e is) = ap (λ (v : Underway). begun_by v l) is

  pub begun_now : (old : Seated) (f : Found old x) → lib ≡ old.lib → {B : Type 0} (r : Result CaseShown B) (fault : B → ReleaseFault) → KeptUnderway (underway_of x) → old.begun ≡ None
      → Acts (underway_of x) (Begin lib.0 (bundle_in b)) (begin_answer r fault) (underway_of y) → y.state ≡ x.state → (l : ℕ) → l ≡ old.lib.0
      → MatchResult r (λ p. marked y l ≡ mark_at old b) (λ back. marked y l ≡ None)
  begun_now old f is (Ok p) fault kept none acts state l same =
      let library : IsLibrary x.state.creds lib.0 = subst (λ (z : LibNo). IsLibrary x.state.creds z.0) (sym is) f.library in
      let taken : begun_by (underway_of y) lib.0 ≡ Some (outline_of (bundle_in b)) = begun_so (underway_of x) (underway_of y) lib.0 (bundle_in b) library kept.placed acts in
      let mine : begun_by (underway_of y) old.lib.0 ≡ Some (outline_of (bundle_in b)) = subst (λ (z : LibNo). begun_by (underway_of y) z.0 ≡ Some (outline_of (bundle_in b))) is taken in
      let out : out_of y.state old.lib ≡ out_left old.first old.seen old.lib = ap (λ (s : State). out_of s old.lib) state ∙ ap (λ (d : DeskSeen). d.out) f.desk in
      subst (λ m. marked y m ≡ mark_at old b) (sym same)
      (ap (λ (o : Option Outline). option_map (mark_of (out_of y.state old.lib)) o) mine ∙ ap (λ (o : LibOut). Some (mark_of o (outline_of (bundle_in b)))) out)
  begun_now old f is (Err back) fault kept none acts state l same =
      marks_by x y l (ap (λ (s : State). out_of s (record { 0 = l })) state) (unbegun (release_fault_answer (fault back)) l acts)
      ∙ subst (λ m. marked x m ≡ None) (sym same) (f.begun ∙ none)

-- ---- the end

end_parts : (u u' : Underway) (lib : ℕ) (b : Bundle) (a : CtlAnswer) → Acts u (End lib b) (Answered a) u' → ReleaseEnd u.state lib b a u'.state × (u'.begun ≡ (with_begun u lib None).begun)
end_parts u u' lib b a acts =
    let same : a ≡ acts.0 = cc (acts.1) in
    (subst (λ z. ReleaseEnd u.state lib b z u'.state) (sym same) acts.2, acts.3)

end_creds : (s s' : State) (lib : ℕ) (b : Bundle) (a : CtlAnswer) → ReleaseEnd s lib b a s' → s'.creds ≡ s.creds
end_creds s s' lib b a (Parted n some e same) = ap (λ (t : State). t.creds) same
end_creds s s' lib b a (IsAccepted none t e ends) = ends.creds
end_creds s s' lib b a (IsRefused none f why e tells ends) = ends.creds

step_leaves : (s s' : State) (event : Event) (answer : CtlAnswer) (other : LibNo) → Kept s → GivenEvent s event → Step s event answer s' → library_of event ≢ other.0 → out_of s' other ≡ out_of s other
step_leaves s s' event answer other k given st apart = out_is s' other ∙ ap lib_out (others_keep_out s event answer s' other.0 k given st apart) ∙ sym (out_is s other)

module _ (x y : Controller) (lib : LibNo) (k : CaseShown) (answer : ReleaseAnswer) (e : EndsHere x lib k answer y) where
  abbrev b : Bundle
  b = bundle_in k.bundle

  parts : ReleaseEnd x.state lib.0 b (verdict_of answer) y.state × (y.begun ≡ (with_begun (underway_of x) lib.0 None).begun)
  parts = end_parts (underway_of x) (underway_of y) lib.0 b (verdict_of answer) e.acts

  pub end_grows : 1 ≤ lib.0 → Grows lib x y
  end_grows one = record {
    log = (
      entries_made x.state (with_bundle k.bundle) (Release lib.0 b) (verdict_of answer),
      sym e.log,
      each_of (λ (n : Entry). maker n ≡ lib.0) (entry_of x.state (with_bundle k.bundle) (Release lib.0 b) (verdict_of answer)) (maker_of x.state (with_bundle k.bundle) (Release lib.0 b) (verdict_of answer)),
    );
    origin = same_origin x y e.first (end_creds x.state y.state lib.0 b (verdict_of answer) parts.0);
    others = λ l other.
        marks_by x y l
        (step_leaves x.state y.state (Release lib.0 b) (verdict_of answer) (record { 0 = l }) e.kept.kept (e.kept.given lib.0 b e.awaited.0 e.full) (inl parts.0) (λ same. other (sym same)))
        (begun_like (with_begun (underway_of x) lib.0 None) (underway_of y) l parts.1 ∙ begun_other (underway_of x) lib.0 l None one other);
  }

  pub idle_end : 1 ≤ lib.0 → lib.0 ≤ length x.state.creds → (l : ℕ) → l ≡ lib.0 → marked y l ≡ None
  idle_end one few l same =
      let none : begun_by (underway_of y) lib.0 ≡ None =
      begun_like (with_begun (underway_of x) lib.0 None) (underway_of y) lib.0 parts.1
      ∙ begun_here (underway_of x) lib.0 None one (subst (λ n. lib.0 ≤ n) (sym e.kept.placed) few) in
      marked_none y l (subst (λ n. begun_by (underway_of y) n ≡ None) (sym same) none)

  pub ended : (old : Seated) (f : Found old x) → lib ≡ old.lib → (new : Seated) → Saw old y new → Ends old k answer new
  ended old f is new saw =
      let one : 1 ≤ lib.0 = subst (λ (z : LibNo). 1 ≤ z.0) (sym is) f.library.0 in
      let mine : begun_by (underway_of x) old.lib.0 ≡ Some (outline_of b) = subst (λ (z : LibNo). begun_by (underway_of x) z.0 ≡ Some (outline_of b)) is e.awaited.0 in
      let out : out_of x.state old.lib ≡ out_left old.first old.seen old.lib = ap (λ (d : DeskSeen). d.out) f.desk in (
        e.mine ∙ is,
        sym f.begun ∙ (ap (λ (o : Option Outline). option_map (mark_of (out_of x.state old.lib)) o) mine ∙ ap (λ (o : LibOut). Some (mark_of o (outline_of b))) out),
        record {
          others = f.others;
          before = x.state;
          after = y.state;
          lib = saw.lib;
          first = saw.first;
          not_its_own = f.not_its_own;
          found = here old x f lib is;
          seen = saw.seen ∙ (e.log ∙ (ap (λ es. es ++ entries_made x.state (with_bundle k.bundle) (Release lib.0 b) (verdict_of answer)) f.log ∙ ap (λ (z : LibNo). (old.seen ++ f.others) ++ entries_made x.state (with_bundle k.bundle) (Release z.0 b) (verdict_of answer)) is));
          left =
              subst (λ (o : Origin). Leaves o new.seen y.state) ((end_grows one).origin ∙ f.origin ∙ sym saw.first)
              (subst (λ es. Leaves (origin_of y) es y.state) (sym saw.seen) saw.left);
          did = (
            subst (λ (z : LibNo). IsStillSo x.state z k) is e.awaited.1,
            subst (λ (z : LibNo). ReleaseEnd x.state z.0 b (verdict_of answer) y.state) is parts.0,
          );
        },
      )

-- a release that comes back isn't awaited
pub not_awaited : (old : Seated) (x : Controller) (f : Found old x) (lib : LibNo) → lib ≡ old.lib → (k : CaseShown)
    → (k.lib ≡ lib → (begun_by (underway_of x) lib.0 ≡ Some (outline_of (bundle_in k.bundle))) × IsStillSo x.state lib k → ⊥) → IsNotAwaited old k x.state
not_awaited old x f lib is k refute mine mark so =
    refute (mine ∙ sym is) (
      subst (λ (z : LibNo). begun_by (underway_of x) z.0 ≡ Some (outline_of (bundle_in k.bundle))) (sym is)
          (by (begun_by (underway_of x) old.lib.0) (ap (λ (o : LibOut). option_map (mark_of o) (begun_by (underway_of x) old.lib.0)) (sym out) ∙ (f.begun ∙ mark))),
      subst (λ (z : LibNo). IsStillSo x.state z k) (sym is) so,
    )
  where
    out : out_of x.state old.lib ≡ out_left old.first old.seen old.lib
    out = ap (λ (d : DeskSeen). d.out) f.desk

    by : (o : Option Outline) → option_map (mark_of (out_left old.first old.seen old.lib)) o ≡ mark_at old k.bundle → o ≡ Some (outline_of (bundle_in k.bundle))
    by None e = absurd (cc e)
    by (Some o) e =
        let same : mark_of (out_left old.first old.seen old.lib) o ≡ mark_of (out_left old.first old.seen old.lib) (outline_of (bundle_in k.bundle)) = cc e in
        ap (λ (p : Outline). Some p) (same_outline (out_left old.first old.seen old.lib) o (outline_of (bundle_in k.bundle)) same)

-- the seat's mark is the controller's
pub begun_seat : {A B : Type 0} {m n : Mark} (p q : Mark) (r : Result A B) → n ≡ m → MatchResult r (λ a. m ≡ p) (λ b. m ≡ q) → MatchResult r (λ a. n ≡ p) (λ b. n ≡ q)
begun_seat p q (Ok a) e h = e ∙ h
begun_seat p q (Err b) e h = e ∙ h
