-- Steps that end no bundle, and refused releases, leave what is noted of live files.
use Rattle.trio_laws.proofs.Words.{◌∙◌, ◌≡◌, ◌≤◌, Allot, Back, Bundle, CtlAnswer, Does, Event, FileRead, Grant, GrantFault, GrantKind, Hold, Image, In, Kept, Met, ModeFault, None, Ok, OpenGrant, Option, Read, Release, Row, SetMode, Settle, Some, State, Write, allot_outcome, allots, ap, arith, bundle_handed, cases_eq, false≢true, file_of, free_numbers, free_pages, grant_fault, granted_to, image_with_mode, inl, inr, logged, mode_fault, mode_fit, mode_verifies, moded_to, notes_of, opened, opens, plain, refl, row_at, row_by, settled, subst, survey, sym, take, ℕ}
use Rattle.trio_laws.proofs.Allots.{pages as pages_allotted, agree as allot_agrees, fit' as allot_fits}
use Rattle.trio_laws.proofs.Backs.{settled_back}
use Rattle.trio_laws.proofs.Bundles.{closed_unparted}
use Rattle.trio_laws.proofs.Cases.{after_no_grant, after_no_mode, after_allot}
use Rattle.trio_laws.proofs.Grants.{settled_same, excluded_none}
use Rattle.trio_laws.proofs.Modes.{settled_moded, may_change}
use Rattle.trio_laws.proofs.Possible.{refused_ends}
use Rattle.trio_laws.proofs.Refusing.{pages as pages_refused, agree as refused_agrees, fit' as refused_fits}
use Rattle.trio_laws.proofs.StateFacts.{live_met}
use Rattle.trio_laws.proofs.WriteGrant.{pages as pages_lent, agree as lent_agrees, fit' as lent_fits}
use Rattle.trio_laws.specs.history.ToldLaws.{EndsNone, RefusedNotes, StepsKeepNotes}
use Rattle.trio_laws.proofs.history.Follows.{size_follows, guard_follows}
use Rattle.trio_laws.proofs.history.ModeNodes.{mode_follows, mode_name, row_here, row_else}
use Rattle.trio_laws.proofs.history.NotesFacts.{noted, noted_row, notes_by_one, notes_still}

-- the state has the notes that this one has
abbrev Same : State → State → Type 0
Same s t = notes_of (settled t) ≡ notes_of (settled s)

-- ---- grants

write_notes : (s : State) (k : Kept s) (lib : ℕ) (m : Met) (f : FileRead) (i : In m (survey (settled s).core plain)) (e : file_of (settled s).core m ≡ Ok f) (free : (g : OpenGrant) → In g s.open_grants → g.ino ≡ m.ino → ⊥) → Same s (opens s (opened s lib m.ino Write (row_by m f.body)))
write_notes s k lib m f i e free =
    notes_still (settled s) (pages_lent s k lib m f i e free) k.fit (lent_fits s k lib m f i e free) k.verifies (lent_agrees s k lib m f i e free)

granted : (s : State) (k : Kept s) (lib ino : ℕ) (kind : GrantKind) (r : Row) → grant_fault s lib ino kind ≡ None → row_at s.home ino ≡ Some r → Same s (opens s (opened s lib ino kind r))
granted s k lib ino Read r e row = ap notes_of (settled_same s k (opened s lib ino Read r) refl refl (λ w. cc w))
granted s k lib ino Hold r e row = ap notes_of (settled_same s k (opened s lib ino Hold r) refl refl (λ w. cc w))
granted s k lib ino Write r e row =
    let m = live_met s k ino r row in
    let free : (g : OpenGrant) → In g s.open_grants → g.ino ≡ m.met.ino → ⊥ =
    λ g i same. false≢true (sym (excluded_none s lib ino Write e g i (same ∙ m.number))) in
    let N : ℕ → Row → Type 0 = λ n q. Same s (opens s (opened s lib n Write q)) in
    subst (λ q. N ino q) (sym m.row) (subst (λ n. N n (row_by m.met m.file.body)) m.number (write_notes s k lib m.met m.file m.stands m.read free))

grant_notes : (s : State) (k : Kept s) (lib ino : ℕ) (kind : GrantKind) (a : Option GrantFault) (o : Option Row) → grant_fault s lib ino kind ≡ a → row_at s.home ino ≡ o → Same s (granted_to s lib ino kind a o).after
grant_notes s k lib ino kind a o e row = search (arith, after_no_grant, granted)

-- ---- allotments

allot_notes : (s : State) (k : Kept s) (lib count many : ℕ) → Same s (allot_outcome s lib count many).after
allot_notes s k lib count many =
    let out : Same s (allots s lib (take count (free_pages s)) (take many (free_numbers s))) =
    notes_still (settled s) (pages_allotted s lib count many k) k.fit (allot_fits s lib count many k) k.verifies (allot_agrees s lib count many k) in
    after_allot (λ t. Same s t) s lib count many refl out

-- ---- changes of mode

module _ (s : State) (k : Kept s) (n mode : ℕ) (r : Row) (row : row_at s.home n ≡ Some r) (small : mode ≤ 511) (other : n ≡ 1 → ⊥) (free : (g : OpenGrant) → In g s.open_grants → (g.ino ≡ n → ⊥) × (g.ino ≡ r.parent → ⊥)) where
  abbrev now : Image
  now = image_with_mode (settled s) n mode

  one : (j : ℕ) (x x' : Row) → row_at s.home j ≡ Some x → row_at now j ≡ Some x' → x'.page ≡ x.page → x'.slot ≡ x.slot → noted now j ≡ noted (settled s) j
  one j x x' at at' page slot =
      let fits = mode_fit (settled s) n mode r k.fit k.verifies row small other in
      let verifies = mode_verifies (settled s) n mode r k.fit k.verifies row small other in
      let follows = mode_follows (settled s) n mode r k.fit k.verifies row small other j x x' at in
      noted_row (settled s) now j x x' at at'
      (mode_name (settled s) n mode r k.fit k.verifies row small other j x x' at page slot)
      (size_follows (settled s) now k.fit fits k.verifies verifies j x x' at at' follows)
      (guard_follows (settled s) now k.fit fits k.verifies verifies j x x' at at' follows)

  other_row : (j : ℕ) (o : Option Row) → (j ≡ n → ⊥) → row_at s.home j ≡ o → noted now j ≡ noted (settled s) j
  other_row j None d at = search (arith, row_else, one)
  other_row j (Some x) d at = one j x x at (row_else s k n mode r row small other free j d ∙ at) refl refl

  each : (j : ℕ) → noted now j ≡ noted (settled s) j
  each j =
      elim (cases_eq j n) [
        | inl same ↦
            let M : ℕ → Type 0 = λ i. noted now i ≡ noted (settled s) i in
            subst M (sym same) (one n r (record r { mode = record { 0 = mode } }) row (row_here s k n mode r row small other free) refl refl)
        | inr differ ↦ other_row j (row_at s.home j) differ refl
      ]

  moded_notes : Same s (logged (record s { home = image_with_mode s.home n mode }))
  moded_notes = ap notes_of (settled_moded s k n mode r row small other free) ∙ notes_by_one (settled s) now refl each

mode_notes : (s : State) (k : Kept s) (lib ino mode : ℕ) (o : Option Row) (a : Option ModeFault) → row_at s.home ino ≡ o → mode_fault s lib ino mode o ≡ a → Same s (moded_to s ino mode a).after
mode_notes s k lib ino mode o (Some fault) row e = after_no_mode (λ t. Same s t) s fault refl refl
mode_notes s k lib ino mode None None row e = absurd cc
mode_notes s k lib ino mode (Some r) None row e =
    let may = may_change s lib ino mode r e in
    moded_notes s k ino mode r row may.small may.other may.free

-- ---- every step

does_notes : (s : State) (event : Event) (answer : CtlAnswer) (s' : State) → Kept s → EndsNone event → Does s event answer s' → Same s s'
does_notes s (Grant lib ino kind) answer s' k none c =
    ap (λ t. notes_of (settled t)) c.1 ∙ grant_notes s k lib ino kind (grant_fault s lib ino kind) (row_at s.home ino) refl refl
does_notes s (Allot lib pages numbers) answer s' k none c = ap (λ t. notes_of (settled t)) c.1 ∙ allot_notes s k lib pages numbers
does_notes s (Back lib ino) answer s' k none c = ap (λ t. notes_of (settled t)) c.1 ∙ ap notes_of (settled_back s k lib ino)
does_notes s (Release lib b) answer s' k none c = absurd none
does_notes s (Settle lib b) answer s' k none c = absurd none
does_notes s (SetMode lib ino mode) answer s' k none c =
    ap (λ t. notes_of (settled t)) c.1 ∙ mode_notes s k lib ino mode (row_at s.home ino) (mode_fault s lib ino mode (row_at s.home ino)) refl refl

pub steps_keep_notes : StepsKeepNotes
steps_keep_notes s event answer s' k given none step = search (arith, does_notes)

-- ---- a refused release

pub refused_notes : RefusedNotes
refused_notes s lib h j =
    let b : Bundle = bundle_handed h in
    let k : Kept s = j.kept in
    let closed = closed_unparted s lib b j.closed in
    let r = refused_ends s k lib b j.given in
    notes_still (settled s) (pages_refused s r.0 k lib b j.given closed r.1) k.fit (refused_fits s r.0 k lib b j.given closed r.1) k.verifies (refused_agrees s r.0 k lib b j.given closed r.1)
