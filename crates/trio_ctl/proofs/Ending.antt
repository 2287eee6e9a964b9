-- The end of a release that is awaited, with its entry in the log.
use Rattle.trio_ctl.proofs.Words.{◌++◌, ◌+◌, ◌∙◌, ◌∷◌, ◌≡◌, Acts, Answered, AreMarked, Bundle, Case, CaseShown, Controller, End, Entry, HasHistory, Image, IsAwaited, IsFull, IsJudgeable, IsOutcome, LibNo, List, Logged, None, Notes, Option, Registered, Release, ReleaseAnswer, Row, State, Step, TellsOutcome, Told, Underway, Verdict, [], acts_keep, ap, bundle_in, case_in, case_shown, entries_made, handed_in, noted_by, outline_of, subst, sym, underway_at, underway_of, verdict_of, verdict_on, whole_case, with_begun, with_bundle, with_copied, ℕ}
use Rattle.trio_nodes.specs.declared.entry.Entry.TheVariants as entry
use Rattle.trio_ctl.specs.Pending.{IsWeighed}
use Rattle.trio_ctl.specs.declared.outcome.Outcome.{Outcome}
use Rattle.trio_ctl.proofs.Ends.{ends, its_library, judged_now}
use Rattle.trio_ctl.proofs.Recording.{promised_room}
use Rattle.trio_ctl.proofs.RecordedReleases.{after_release, release_entries, whole_is}

-- the case of a release that may end: it is awaited, its pages are full, and it can be judged
pub record MayEnd (u : Underway) (lib : LibNo) (k : CaseShown) : Type 0 where
  pub awaited : IsAwaited u lib.0 (case_shown k)
  pub full : IsFull (bundle_in k.bundle)
  pub judgeable : IsJudgeable u.state lib.0 (bundle_in k.bundle)

-- in a state that is the same, by a number that is the same
pub judged_there : {u : Underway} {lib l : LibNo} {k : CaseShown} {t : State} → MayEnd u lib k → t ≡ u.state → lib ≡ l → IsJudgeable t l.0 (bundle_in k.bundle) × (case_shown k ≡ with_copied (case_in t l.0 (bundle_in k.bundle)))
judged_there {u} {lib} {l} {k} {t} may same its =
    subst (λ (x : LibNo). IsJudgeable t x.0 (bundle_in k.bundle) × (case_shown k ≡ with_copied (case_in t x.0 (bundle_in k.bundle)))) its
    (subst (λ (x : State). IsJudgeable x lib.0 (bundle_in k.bundle) × (case_shown k ≡ with_copied (case_in x lib.0 (bundle_in k.bundle)))) (sym same) (may.judgeable, may.awaited.1))

pub outcome_there : (b : Bundle) (o : Outcome) {s t : State} {lib l : LibNo} → IsOutcome (case_in t l.0 b) o → t ≡ s → lib ≡ l → IsOutcome (case_in s lib.0 b) o
outcome_there b o {s} {t} {lib} {l} out same its =
    subst (λ (x : LibNo). IsOutcome (case_in s x.0 b) o) (sym its) (subst (λ (x : State). IsOutcome (case_in x l.0 b) o) same out)

-- what was weighed of a case is true of the same case
pub weighed_too : {k judged : CaseShown} {v verdict : Verdict} → k ≡ judged → v ≡ verdict → IsWeighed (record { case = judged; verdict = verdict }) → IsWeighed (record { case = k; verdict = v })
weighed_too {k} {judged} {v} {verdict} same told weighed =
    subst (λ x. IsWeighed (record { case = x; verdict = v })) (sym same) (subst (λ x. IsWeighed (record { case = judged; verdict = x })) (sym told) weighed)

-- what the end of a judged release leaves in a controller that was seen so
pub record HasEnded (first : Image) (seen : Controller) (judged : CaseShown) (v : ReleaseAnswer) (r : Registered) (log : Logged) (notes : Notes) : Type 0 where
  pub history : HasHistory first r.state r.begun r.promised log notes
  pub acts : Acts (underway_of seen) (End judged.lib.0 (bundle_in judged.bundle)) (Answered (verdict_of v)) (underway_at r)
  pub logged : log.entries ≡ seen.log ++ entries_made seen.state (with_bundle judged.bundle) (Release judged.lib.0 (bundle_in judged.bundle)) (verdict_of v)

module _ {here seen : Controller} (is : here ≡ seen) {k judged : CaseShown} (same : k ≡ judged) {lib : LibNo} (its : lib ≡ k.lib)
    {promised : ℕ} {log : Logged} {notes : Notes} (h : HasHistory here.first here.state here.begun promised log notes)
    (asked : IsAwaited (underway_of seen) judged.lib.0 (case_shown judged)) (full : IsFull (bundle_in judged.bundle)) where
  -- what is true of what is seen is true of what is here, and the other way round
  as_here : (P : Controller → LibNo → CaseShown → Type 0) → P seen judged.lib judged → P here lib k
  as_here P p =
      subst (λ l. P here l k) (sym its) (subst (λ (x : CaseShown). P here x.lib x) (sym same) (subst (λ c. P c judged.lib judged) (sym is) p))

  as_seen : (P : Controller → LibNo → CaseShown → Type 0) → P here lib k → P seen judged.lib judged
  as_seen P p = subst (λ c. P c judged.lib judged) is (subst (λ (x : CaseShown). P here x.lib x) same (subst (λ l. P here l k) its p))

  pub may_end : MayEnd (underway_of here) lib k
  may_end =
      let awaited = as_here (λ c l x. IsAwaited (underway_of c) l.0 (case_shown x)) asked in
      let whole = as_here (λ c l x. IsFull (bundle_in x.bundle)) full in
      record { awaited = awaited; full = whole; judgeable = judged_now (underway_of here) lib.0 k h.underway awaited whole }

  pub has_ended : (o : Outcome) (told : Told) (v : ReleaseAnswer) (r : Registered) → log.entries ≡ here.log
      → AreMarked seen.state judged.lib.0 (handed_in judged.bundle)
      → {t : State} → t ≡ here.state → IsOutcome (case_in t k.lib.0 (bundle_in k.bundle)) o
      → {rows : List (Option Row)} → rows ≡ t.home.rows → TellsOutcome (whole_case k rows) notes (handed_in k.bundle) o told
      → v ≡ verdict_on o → Step t (Release lib.0 (bundle_in k.bundle)) (verdict_of v) r.state
      → r.begun ≡ (with_begun (underway_of here) lib.0 None).begun → r.promised + 1 ≡ promised
      → {log' : Logged} {notes' : Notes} → log' ≡ record log { entries = log.entries ++ entry.Raw lib v told.files told.bundle ∷ [] } → notes' ≡ noted_by v told.files notes
      → HasEnded here.first seen judged v r log' notes'
  has_ended o told v r logged marked {t} unchanged outcome {rows} rows_are tells verdict concluded taken withdrawn {log'} {notes'} pushed noted =
      let s = here.state in
      let b = bundle_in k.bundle in
      let may = may_end in
      let out = outcome_there b o outcome unchanged its in
      let whole = whole_is k s lib.0 b rows may.awaited.1 (rows_are ∙ ap (λ (x : State). x.home.rows) unchanged) in
      let told_so = subst (λ (x : Case). TellsOutcome x notes (handed_in k.bundle) o told) whole tells in
      let step = subst (λ (x : State). Step x (Release lib.0 b) (verdict_of v) r.state) unchanged concluded in
      let act = ends (underway_of here) (underway_at r) lib.0 b v step taken in
      let entered : log'.entries ≡ log.entries ++ entry.Raw lib (verdict_on o) told.files told.bundle ∷ [] = ap (λ (l : Logged). l.entries) pushed ∙ ap (λ x. log.entries ++ entry.Raw lib x told.files told.bundle ∷ []) verdict in
      let entries = release_entries s lib k.bundle o told notes may.judgeable out h.noted told_so in
      record {
        history =
            after_release here.first s r.state here.begun r.begun promised r.promised log log' notes notes' lib k.bundle o told h
            (acts_keep (underway_of here) (End lib.0 b) (Answered (verdict_of v)) (underway_at r) h.underway (may.awaited.0, may.full) act)
            may.judgeable (its_library (underway_of here) lib.0 (outline_of b) h.underway may.awaited.0) (as_here (λ c l x. AreMarked c.state l.0 (handed_in x.bundle)) marked) out told_so
            (subst (λ x. Step s (Release lib.0 b) (verdict_of x) r.state) verdict step) (noted ∙ ap (λ x. noted_by x told.files notes) verdict) entered
            (rw pushed (promised_room log.entries (entry.Raw lib v told.files told.bundle) promised r.promised log.room h.room withdrawn));
        acts = as_seen (λ c l x. Acts (underway_of c) (End l.0 (bundle_in x.bundle)) (Answered (verdict_of v)) (underway_at r)) act;
        logged =
            as_seen (λ c l x. log'.entries ≡ c.log ++ entries_made c.state (with_bundle x.bundle) (Release l.0 (bundle_in x.bundle)) (verdict_of v))
            (entered ∙ sym (ap (λ (es : List Entry). log.entries ++ es) entries) ∙ ap (λ x. log.entries ++ entries_made s (with_bundle k.bundle) (Release lib.0 b) (verdict_of x)) (sym verdict)
            ∙ ap (λ (es : List Entry). es ++ entries_made s (with_bundle k.bundle) (Release lib.0 b) (verdict_of v)) logged);
      }
