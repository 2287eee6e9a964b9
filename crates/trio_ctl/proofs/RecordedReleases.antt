-- The entry of a release is what its bundle, its listing and the notes tell.
use Rattle.trio_ctl.proofs.Words.{Accepted, AreMarked, Bundle, Bundled, Case, CaseShown, Entry, GivenTo, Handed, HandedFile, HandedPage, HasHistory, Image, In, In-map, IsAccepted, IsJudgeable, IsLibrary, IsOutcome, IsRefused, IsTrue, KeepsUntouched, Kept, KeptUnderway, LentFile, LentPage, LibNo, List, Logged, NoMemory, None, Notes, OpenGrant, Option, Outline, Parted, Refused, Release, ReleaseAnswer, Row, Shown, Some, State, Step, TellsOutcome, Told, WasLentAs, WereLent, Why, [], ap, arith, block_in, bundle_in, case_in, case_shown, creds_of, entries_made, false≢true, file_in, handed_in, inl, inr, is_accepted, is_some, length, listing, map-In, meets_rules, next, noted_by, notes_of, option_map, plain, refl, refused_image, row_in, row_of, rules_are_accept, settled, slice_index_or, step_keeps_lent, step_keeps_root, subst, survey, sym, tabulated-length, true, untouched, verdict_of, verdict_on, whole_case, with_bundle, with_copied, write_alone, written_in, ℕ, ◌++◌, ◌+◌, ◌∙◌, ◌∷◌, ◌≡◌, ◌≤◌, ◌⊎◌}
use Rattle.trio_entries.specs.Telling.{AreNoted}
use Rattle.trio_case.specs.Listed.{Listed}
use Rattle.trio_nodes.specs.declared.entry.Entry.TheVariants as entry
use Rattle.trio_nodes.specs.declared.entry.RawFile.{RawFile}
use Rattle.trio_state.specs.Listed.{accepted_blocks, accepted_files, notes_after, refused_blocks, refused_files}
use Rattle.trio_state.specs.Step.{NotClosed, Accepted as StepAccepted, Refused as StepRefused}
use Rattle.trio_laws.specs.history.Entries.{bundle_handed, raw_entry, raw_files, refused_for, sheet_handed}
use Rattle.trio_laws.specs.history.Recorded.{HandedFits, IsMarked}
use Rattle.trio_laws.proofs.history.NotesFacts.{noted_at}
use Rattle.trio_laws.specs.history.ToldLaws.{note_of}
use Rattle.trio_ctl.proofs.Underways.{underway_in}
use Rattle.trio_ctl.proofs.Granting.{row_below}
use Rattle.trio_laws.proofs.history.NotesAccepted.{release_notes}
use Rattle.trio_laws.proofs.history.NotesSteps.{refused_notes}
use Rattle.trio_laws.proofs.history.AcceptedBlocks.{accepted_is_listed}
use Rattle.trio_laws.proofs.history.RefusedTold.{refused_is_listed}
use Rattle.trio_ctl.specs.DeskLaws.{LentIsMarked}
use Rattle.trio_ctl.specs.declared.outcome.Outcome.{Outcome}
use Rattle.trio_ctl.specs.declared.outcome.Outcome.TheVariants.{Accepted as OutAccepted, Refused as OutRefused}
use Rattle.trio_ctl.proofs.HandedBundles.{handed_is}
use Rattle.trio_ctl.proofs.Recording.{grown, still_mine}

-- ---- marks

-- a lent block that isn't marked has the bytes that its grant lent
marked_in : (s : State) (lib : ℕ) (f : LentFile) → Kept s → WasLentAs s lib f → KeepsUntouched f → IsMarked s lib (file_in f.stands)
marked_in s lib f k was keeps g p is_open mine same there =
    let q = map-In block_in p f.stands.blocks there in
    let one : was.grant ≡ g = write_alone s.open_grants was.grant g k.apart was.is_open is_open was.kind (was.ino ∙ sym same) in
    by q.0 q.2 one (keeps q.0 q.1)
  where
    by : (x : LentPage) → p ≡ block_in x → was.grant ≡ g → (x.touched ≡ true) ⊎ In x f.lent.blocks → (p.touched ≡ true) ⊎ In (sheet_handed p) g.blocks
    by x e one (inl touched) = inl (ap (λ (y : HandedPage). y.touched) e ∙ touched)
    by x e one (inr lent) =
        let from = map-In untouched x was.grant.blocks (subst (λ (l : Shown). In x l.blocks) was.lent lent) in
        let same_sheet : sheet_handed p ≡ from.0 = ap sheet_handed e ∙ ap (λ y. sheet_handed (block_in y)) from.2 in
        inr (subst (λ y. In y g.blocks) (sym same_sheet) (subst (λ (h : OpenGrant). In from.0 h.blocks) one from.1))

pub lent_fit : (s : State) (lib : ℕ) (b : Bundled) → Kept s → WereLent s lib b.writes → ((f : LentFile) → In f b.writes → KeepsUntouched f) → HandedFits s lib (with_bundle b)
lent_fit s lib b k lent keeps w there =
    let f = map-In (λ f. file_in f.stands) w b.writes there in
    subst (IsMarked s lib) (sym f.2) (marked_in s lib f.0 k (lent f.0 f.1) (keeps f.0 f.1))

-- so leases that show what was lent are marked, whatever else is handed in alike
pub lent_is_marked : LentIsMarked
lent_is_marked s lib b k lent keeps w g p there is_open mine write same at = lent_fit s lib b k lent keeps w there g p is_open mine same at

-- what was given has its marks by the one grant that lent it
pub marks_fit : (s : State) (lib : ℕ) (b : Bundled) → Kept s → GivenTo s lib (bundle_in b) → AreMarked s lib (handed_in b) → HandedFits s lib (with_bundle b)
marks_fit s lib b k given marked w there g p is_open mine same at =
    let f = map-In (λ f. file_in f.stands) w b.writes there in
    let was = given.writes (written_in f.0.stands) (In-map (λ f. written_in f.stands) f.0 b.writes f.1) in
    let ino : w.ino ≡ f.0.stands.ino = ap (λ (x : HandedFile). x.ino) f.2 in
    let one : was.grant ≡ g = write_alone s.open_grants was.grant g k.apart was.is_open is_open was.kind (was.ino ∙ sym ino ∙ sym same) in
    marked w g p there is_open mine (sym (ap (λ (x : OpenGrant). x.kind) one) ∙ was.kind) same at

-- ---- entries

-- the files that an entry tells
abbrev files_in : Entry → List RawFile
files_in (entry.Raw lib verdict files bundle) = files
files_in e = []

-- the entry of an accepted release, and of a refused one, as they are told
abbrev told_accepted : Case → Notes → ℕ → Handed → Entry
told_accepted c notes lib h =
    let files = accepted_files c (listing c) notes in
    entry.Raw (record { 0 = lib }) Accepted files (record { handed = h; blocks = accepted_blocks c (listing c) notes h files })

abbrev told_refused : Case → Notes → ℕ → ReleaseAnswer → Handed → Entry
told_refused c notes lib verdict h =
    let files = refused_files c notes in
    entry.Raw (record { 0 = lib }) verdict files (record { handed = h; blocks = refused_blocks c notes h files })

-- what the laws say of a bundle
abbrev AcceptedAs : State → ℕ → Bundled → Bundle → Type 0
AcceptedAs s lib b x =
    IsJudgeable s lib x → IsTrue (is_accepted (settled s) (creds_of s lib) x)
    → raw_entry (settled s) lib (handed_in b) Accepted (next (settled s) x) ≡ told_accepted (case_in s lib x) (notes_of (settled s)) lib (handed_in b)

abbrev RefusedAs : State → ℕ → Bundled → Why → Bundle → Type 0
RefusedAs s lib b why x =
    IsJudgeable s lib x
    → raw_entry (settled s) lib (handed_in b) (refused_for why) (refused_image (settled s) x) ≡ told_refused (case_in s lib x) (notes_of (settled s)) lib (refused_for why) (handed_in b)

abbrev NotedAs : State → ℕ → Bundle → Type 0
NotedAs s lib x =
    IsJudgeable s lib x → IsTrue (is_accepted (settled s) (creds_of s lib) x)
    → notes_of (next (settled s) x) ≡ notes_after (raw_files (settled s) (next (settled s) x) x) (notes_of (settled s))

abbrev SameNotes : State → ℕ → Bundle → Type 0
SameNotes s lib x = IsJudgeable s lib x → notes_of (refused_image (settled s) x) ≡ notes_of (settled s)

accepted_entry : (s : State) (lib : ℕ) (b : Bundled) → IsJudgeable s lib (bundle_in b) → IsTrue (is_accepted (settled s) (creds_of s lib) (bundle_in b)) → raw_entry (settled s) lib (handed_in b) Accepted (next (settled s) (bundle_in b)) ≡ told_accepted (case_in s lib (bundle_in b)) (notes_of (settled s)) lib (handed_in b)
accepted_entry s lib b = subst (AcceptedAs s lib b) (handed_is b) (accepted_is_listed s lib (handed_in b))

refused_entry : (s : State) (lib : ℕ) (b : Bundled) (why : Why) → IsJudgeable s lib (bundle_in b) → raw_entry (settled s) lib (handed_in b) (refused_for why) (refused_image (settled s) (bundle_in b)) ≡ told_refused (case_in s lib (bundle_in b)) (notes_of (settled s)) lib (refused_for why) (handed_in b)
refused_entry s lib b why = subst (RefusedAs s lib b why) (handed_is b) (refused_is_listed s lib (handed_in b) why)

-- a bundle that meets the rules is accepted
accepts : (s : State) (lib : ℕ) (b : Bundle) → IsJudgeable s lib b → IsTrue (meets_rules (case_in s lib b)) → IsTrue (is_accepted (settled s) (creds_of s lib) b)
accepts s lib b j m = (rules_are_accept s lib b j).0 m

pub release_entries : (s : State) (lib : LibNo) (b : Bundled) (outcome : Outcome) (told : Told) (notes : Notes) → IsJudgeable s lib.0 (bundle_in b) → IsOutcome (case_in s lib.0 (bundle_in b)) outcome → notes ≡ notes_of (settled s) → TellsOutcome (case_in s lib.0 (bundle_in b)) notes (handed_in b) outcome told → entries_made s (with_bundle b) (Release lib.0 (bundle_in b)) (verdict_of (verdict_on outcome)) ≡ entry.Raw lib (verdict_on outcome) told.files told.bundle ∷ []
release_entries s lib b (OutAccepted l) told notes j o noted t =
    let c = case_in s lib.0 (bundle_in b) in
    let h = handed_in b in
    ap (λ e. e ∷ []) (accepted_entry s lib.0 b j (accepts s lib.0 (bundle_in b) j o.0))
    ∙ ap (λ x. told_accepted c x lib.0 h ∷ []) (sym noted)
    ∙ ap (λ x. entry.Raw lib Accepted (accepted_files c x notes) (record { handed = h; blocks = accepted_blocks c x notes h (accepted_files c x notes) }) ∷ []) (sym o.1)
    ∙ ap (λ fs. entry.Raw lib Accepted fs (record { handed = h; blocks = accepted_blocks c l.listing notes h fs }) ∷ []) (sym t.0)
    ∙ ap (λ bs. entry.Raw lib Accepted told.files bs ∷ []) (sym t.1)
release_entries s lib b (OutRefused rule ino page slot) told notes j o noted t =
    let c = case_in s lib.0 (bundle_in b) in
    let h = handed_in b in
    let v = Refused rule ino page slot in
    ap (λ e. e ∷ []) (refused_entry s lib.0 b (record { rule = rule; ino = ino; page = page; slot = slot }) j)
    ∙ ap (λ x. told_refused c x lib.0 v h ∷ []) (sym noted)
    ∙ ap (λ fs. entry.Raw lib v fs (record { handed = h; blocks = refused_blocks c notes h fs }) ∷ []) (sym t.0)
    ∙ ap (λ bs. entry.Raw lib v told.files bs ∷ []) (sym t.1)

-- ---- notes

settles_accepted : (s : State) (lib : ℕ) (b : Bundle) (s' : State) → Step s (Release lib b) StepAccepted s' → settled s' ≡ next (settled s) b
settles_accepted s lib b s' (inl (Parted n p a e)) = absurd (let none : StepAccepted ≡ NotClosed n = a in cc none)
settles_accepted s lib b s' (inl (IsAccepted p t a ends)) = ends.settles
settles_accepted s lib b s' (inl (IsRefused p f why a tells ends)) = absurd (let none : StepAccepted ≡ StepRefused why = a in cc none)
settles_accepted s lib b s' (inr none) = absurd (let no : StepAccepted ≡ NoMemory = none.1 in cc no)

settles_refused : (s : State) (lib : ℕ) (b : Bundle) (why : Why) (s' : State) → Step s (Release lib b) (StepRefused why) s' → settled s' ≡ refused_image (settled s) b
settles_refused s lib b why s' (inl (Parted n p a e)) = absurd (let none : StepRefused why ≡ NotClosed n = a in cc none)
settles_refused s lib b why s' (inl (IsAccepted p t a ends)) = absurd (let none : StepRefused why ≡ StepAccepted = a in cc none)
settles_refused s lib b why s' (inl (IsRefused p f w a tells ends)) = ends.settles
settles_refused s lib b why s' (inr none) = absurd (let no : StepRefused why ≡ NoMemory = none.1 in cc no)

accepted_noted : (s : State) (lib : ℕ) (b : Bundled) → IsJudgeable s lib (bundle_in b) → IsTrue (is_accepted (settled s) (creds_of s lib) (bundle_in b)) → notes_of (next (settled s) (bundle_in b)) ≡ notes_after (raw_files (settled s) (next (settled s) (bundle_in b)) (bundle_in b)) (notes_of (settled s))
accepted_noted s lib b = subst (NotedAs s lib) (handed_is b) (release_notes s lib (handed_in b))

pub noted_accepted : (s s' : State) (lib : ℕ) (b : Bundled) (l : Listed) (told : Told) (notes : Notes) → IsJudgeable s lib (bundle_in b) → IsOutcome (case_in s lib (bundle_in b)) (OutAccepted l) → notes ≡ notes_of (settled s) → TellsOutcome (case_in s lib (bundle_in b)) notes (handed_in b) (OutAccepted l) told → Step s (Release lib (bundle_in b)) StepAccepted s' → notes_after told.files notes ≡ notes_of (settled s')
noted_accepted s s' lib b l told notes j o noted t step =
    let c = case_in s lib (bundle_in b) in
    let yes = accepts s lib (bundle_in b) j o.0 in
    let listed : raw_files (settled s) (next (settled s) (bundle_in b)) (bundle_handed (handed_in b)) ≡ accepted_files c (listing c) (notes_of (settled s)) = ap files_in (accepted_entry s lib b j yes) in
    let here : raw_files (settled s) (next (settled s) (bundle_in b)) (bundle_in b) ≡ told.files =
    ap (raw_files (settled s) (next (settled s) (bundle_in b))) (sym (handed_is b)) ∙ listed
    ∙ ap (accepted_files c (listing c)) (sym noted) ∙ ap (λ x. accepted_files c x notes) (sym o.1) ∙ sym t.0
    in
    ap (λ fs. notes_after fs notes) (sym here) ∙ ap (notes_after (raw_files (settled s) (next (settled s) (bundle_in b)) (bundle_in b))) noted
    ∙ sym (accepted_noted s lib b j yes) ∙ ap notes_of (sym (settles_accepted s lib (bundle_in b) s' step))

pub noted_refused : (s s' : State) (lib : ℕ) (b : Bundled) (why : Why) (notes : Notes) → IsJudgeable s lib (bundle_in b) → notes ≡ notes_of (settled s) → Step s (Release lib (bundle_in b)) (StepRefused why) s' → notes ≡ notes_of (settled s')
noted_refused s s' lib b why notes j noted step =
    noted ∙ sym (subst (SameNotes s lib) (handed_is b) (refused_notes s lib (handed_in b)) j) ∙ ap notes_of (sym (settles_refused s lib (bundle_in b) why s' step))

pub noted_then : (s s' : State) (lib : LibNo) (b : Bundled) (outcome : Outcome) (told : Told) (notes : Notes) → IsJudgeable s lib.0 (bundle_in b) → IsOutcome (case_in s lib.0 (bundle_in b)) outcome → notes ≡ notes_of (settled s) → TellsOutcome (case_in s lib.0 (bundle_in b)) notes (handed_in b) outcome told → Step s (Release lib.0 (bundle_in b)) (verdict_of (verdict_on outcome)) s' → noted_by (verdict_on outcome) told.files notes ≡ notes_of (settled s')
noted_then s s' lib b (OutAccepted l) told notes j o noted t step = noted_accepted s s' lib.0 b l told notes j o noted t step
noted_then s s' lib b (OutRefused rule ino page slot) told notes j o noted t step =
    noted_refused s s' lib.0 b (record { rule = rule; ino = ino; page = page; slot = slot }) notes j noted step

-- ---- what holds after the end of a release

pub after_release : (first : Image) (s s' : State) (begun begun' : List (Option Outline)) (promised promised' : ℕ) (log log' : Logged) (notes notes' : Notes) (lib : LibNo) (b : Bundled) (outcome : Outcome) (told : Told) → HasHistory first s begun promised log notes → KeptUnderway (underway_in s' begun') → IsJudgeable s lib.0 (bundle_in b) → IsLibrary s.creds lib.0 → AreMarked s lib.0 (handed_in b) → IsOutcome (case_in s lib.0 (bundle_in b)) outcome → TellsOutcome (case_in s lib.0 (bundle_in b)) notes (handed_in b) outcome told → Step s (Release lib.0 (bundle_in b)) (verdict_of (verdict_on outcome)) s' → notes' ≡ noted_by (verdict_on outcome) told.files notes → log'.entries ≡ log.entries ++ entry.Raw lib (verdict_on outcome) told.files told.bundle ∷ [] → length log'.entries + promised' ≤ log'.room → HasHistory first s' begun' promised' log' notes'
after_release first s s' begun begun' promised promised' log log' notes notes' lib b outcome told h underway j its marked o t step noted' e room = record {
  all =
      grown first s s' log.entries log'.entries (with_bundle b) (Release lib.0 (bundle_in b)) (verdict_of (verdict_on outcome)) h.all its j.given step (handed_is b, marks_fit s lib.0 b j.kept j.given marked)
      (e ∙ sym (ap (λ (l : List Entry). log.entries ++ l) (release_entries s lib b outcome told notes j o h.noted t)));
  underway = underway;
  room = room;
  mine = still_mine s (Release lib.0 (bundle_in b)) _ s' j.kept j.given step its h.mine;
  lent = step_keeps_lent s (Release lib.0 (bundle_in b)) _ s' j.kept h.all.whole j.given step h.lent;
  noted = noted' ∙ noted_then s s' lib b outcome told notes j o h.noted t step;
  sizes = (step_keeps_root s (Release lib.0 (bundle_in b)) _ s' j.kept h.all.whole j.given step).0 ∙ h.sizes;
}

-- ---- what is asked of a judged bundle

pub whole_is : (k : CaseShown) (s : State) (lib : ℕ) (b : Bundle) (rows : List (Option Row)) → case_shown k ≡ with_copied (case_in s lib b) → rows ≡ s.home.rows → whole_case k rows ≡ case_in s lib b
whole_is k s lib b rows e same = ap (λ r. whole_case k r) same ∙ ap (λ (x : Case). record x { rows = s.home.rows }) e

pub are_noted : (s : State) (rows : List (Option Row)) (notes : Notes) → Kept s → rows ≡ s.home.rows → notes ≡ notes_of (settled s) → AreNoted rows notes
are_noted s rows notes k same noted = λ n there. by n (row_in s.home.rows n) refl (subst (λ r. is_some (row_in r n) ≡ true) same there)
  where
    by : (n : ℕ) (o : Option Row) → row_in s.home.rows n ≡ o → is_some (row_in s.home.rows n) ≡ true → is_some (slice_index_or notes n None) ≡ true
    by n None e there = absurd (false≢true (sym (ap is_some e) ∙ there))
    by n (Some r) e there =
        let image = settled s in
        let long : length s.home.rows ≡ image.core.inodes + 1 = ap length k.verifies.rows ∙ tabulated-length (row_of image.core (survey image.core plain)) (image.core.inodes + 1) in
        let below = row_below s.home.rows n r e in
        ap (λ (l : Notes). is_some (slice_index_or l n None)) noted ∙ ap is_some (noted_at image n (omega (arith, below, long)) ∙ ap (option_map (note_of image n)) e)
