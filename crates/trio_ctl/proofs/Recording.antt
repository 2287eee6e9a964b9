-- Each call of the controller leaves all recorded, its entry too.
use Rattle.trio_ctl.proofs.Words.{◌++◌, ◌+◌, ◌<◌, ◌==◌, ◌∙◌, ◌∷◌, ◌≡◌, ◌≤◌, ◌⊎◌, Allot, AllotFault, Allotted, AreBack, AreMine, Back, Bool, Creds, CtlAnswer, Done, Entry, Err, Event, GivenEvent, Grant, GrantFault, GrantKind, HasGrant, HasHistory, HasOut, Image, In, In-filter, In-map, IsLibrary, IsRecorded, IsVerified, Kept, Lease, LibNo, List, Logged, None, Notes, Ok, OnErr, OpenGrant, Option, Outline, Result, Shown, Some, State, Step, Superblock, [], all_back, allot_answer, alone, ap, append-nil, append_assoc, arith, back_entries, begun_by, entries_made, eq-eqb, eqb-false, eqb-true, false, filter, given_back, grant_answer, image_in, inl, inr, length, length-append, library_of, others_keep_out, recorded, refl, replicate, start, step_creds, step_keeps_lent, step_keeps_root, subst, superblock_facts, sym, true, without_checkpoint, ℕ}
use Rattle.trio_state.specs.ImageNodes.{notes_by_rows}
use Rattle.trio_state.specs.Run.{IsWhole}
use Rattle.trio_nodes.specs.declared.answers.AllotFault.TheVariants as unallotted
use Rattle.trio_nodes.specs.declared.answers.GrantFault.TheVariants as ungranted
use Rattle.trio_nodes.specs.declared.entry.AllotAnswer.{AllotAnswer}
use Rattle.trio_nodes.specs.declared.entry.Entry.TheVariants as entry
use Rattle.trio_nodes.specs.declared.entry.GrantAnswer.{GrantAnswer}
use Rattle.trio_laws.specs.OutLaws.{grants_to}
use Rattle.trio_laws.specs.history.Entries.{Beside}
use Rattle.trio_laws.specs.history.Recorded.{BesideFits}
use Rattle.trio_laws.specs.history.ToldLaws.{EndsNone}
use Rattle.trio_laws.proofs.history.Begins.{history_begins, history_is_legal}
use Rattle.trio_laws.proofs.history.Grows.{history_grows}
use Rattle.trio_laws.proofs.history.NotesStart.{start_notes}
use Rattle.trio_laws.proofs.history.NotesSteps.{steps_keep_notes}
use Rattle.trio_ctl.proofs.Underways.{idle_in, underway_after, underway_begins, underway_in}
use Rattle.trio_ctl.proofs.Starting.{image_kept}
use Rattle.trio_ctl.proofs.Wholes.{whole_none}
use Rattle.trio_ctl.specs.inner.Telling.{allot_told, grant_told}

-- ---- grants of libraries alone

pub still_mine : (s : State) (event : Event) (answer : CtlAnswer) (s' : State) → Kept s → GivenEvent s event → Step s event answer s' → IsLibrary s.creds (library_of event) → AreMine s → AreMine s'
still_mine s event answer s' k given step its mine = λ lib. by lib (library_of event == lib) refl (mine lib)
  where
    creds : s'.creds ≡ s.creds
    creds = step_creds s event answer s' step

    by : (lib : ℕ) (t : Bool) → (library_of event == lib) ≡ t → IsLibrary s.creds lib ⊎ (grants_to s.open_grants lib ≡ []) → IsLibrary s'.creds lib ⊎ (grants_to s'.open_grants lib ≡ [])
    by lib true e m = inl (subst (λ c. IsLibrary c lib) (sym creds) (subst (λ n. IsLibrary s.creds n) (eqb-true (library_of event) lib e) its))
    by lib false e (inl l) = inl (subst (λ c. IsLibrary c lib) (sym creds) l)
    by lib false e (inr none) =
        inr (ap (λ (o : HasOut). o.grants) (others_keep_out s event answer s' lib k given step (eqb-false (library_of event) lib e)) ∙ none)

-- ---- a call that ends no bundle

pub grown : (first : Image) (s s' : State) (log log' : List Entry) (x : Beside) (event : Event) (answer : CtlAnswer) → IsRecorded (recorded first s log) → IsLibrary s.creds (library_of event) → GivenEvent s event → Step s event answer s' → BesideFits s x event answer s' → log' ≡ log ++ entries_made s x event answer → IsRecorded (recorded first s' log')
grown first s s' log log' x event answer r its given step fits e =
    subst (λ l. IsRecorded (recorded first s' l)) (sym e) (history_grows (recorded first s log) x event answer s' r its given step fits)

-- ---- the number of the next entry

-- the log has as many entries as the state counts
pub next_entry : (first : Image) (s : State) (begun : List (Option Outline)) (promised : ℕ) (log : Logged) (notes : Notes) (es : List Entry) (n : ℕ) → HasHistory first s begun promised log notes → n ≡ length es → es ≡ log.entries → n ≡ s.entries
next_entry first s begun promised log notes es n h len same =
    len ∙ ap (λ (l : List Entry). length l) same ∙ (history_is_legal (recorded first s log.entries) h.all).1

-- ---- entries of answers

-- a log with the entry of this answer, if it makes one
abbrev with_told : {A : Type 0} → (A → Entry) → Option A → List Entry
with_told f None = []
with_told f (Some a) = f a ∷ []

pub grant_entries : (s : State) (lib : LibNo) (ino : ℕ) (kind : GrantKind) (said : Result Lease GrantFault) (told : Option GrantAnswer) → told ≡ grant_told said → entries_made s alone (Grant lib.0 ino kind) (grant_answer said) ≡ with_told (entry.Grant lib ino kind) told
grant_entries s lib ino kind (Ok lease) told e = ap (with_told (entry.Grant lib ino kind)) (sym e)
grant_entries s lib ino kind (Err ungranted.NotLive) told e = ap (with_told (entry.Grant lib ino kind)) (sym e)
grant_entries s lib ino kind (Err (ungranted.Denied by)) told e = ap (with_told (entry.Grant lib ino kind)) (sym e)
grant_entries s lib ino kind (Err ungranted.NoParent) told e = ap (with_told (entry.Grant lib ino kind)) (sym e)
grant_entries s lib ino kind (Err (ungranted.Busy holder)) told e = ap (with_told (entry.Grant lib ino kind)) (sym e)
grant_entries s lib ino kind (Err ungranted.NoMemory) told e = ap (with_told (entry.Grant lib ino kind)) (sym e)

pub allot_entries : (s : State) (lib : LibNo) (pages inodes : ℕ) (said : Result Allotted AllotFault) (told : Option AllotAnswer) → told ≡ allot_told said → entries_made s alone (Allot lib.0 pages inodes) (allot_answer said) ≡ with_told (entry.Allot lib pages inodes) told
allot_entries s lib pages inodes (Ok given) told e = ap (with_told (entry.Allot lib pages inodes)) (sym e)
allot_entries s lib pages inodes (Err (unallotted.NoPages wanted free)) told e = ap (with_told (entry.Allot lib pages inodes)) (sym e)
allot_entries s lib pages inodes (Err (unallotted.NoInodes wanted free)) told e = ap (with_told (entry.Allot lib pages inodes)) (sym e)
allot_entries s lib pages inodes (Err unallotted.NoMemory) told e = ap (with_told (entry.Allot lib pages inodes)) (sym e)

-- what is said of a refused grant is so of one of which nothing is told
pub if_untold : {P : Type 0} (said : Result Lease GrantFault) → None ≡ grant_told said → OnErr said P → P
if_untold (Ok lease) none so = absurd cc
if_untold (Err fault) none so = so

-- ---- what holds after a call that ends no bundle

pub after_told : (first : Image) (s s' : State) (begun begun' : List (Option Outline)) (promised promised' : ℕ) (log log' : Logged) (notes : Notes) (x : Beside) (event : Event) (answer : CtlAnswer) → HasHistory first s begun promised log notes → Kept s → begun_by (underway_in s begun) (library_of event) ≡ None → begun' ≡ begun → IsLibrary s.creds (library_of event) → GivenEvent s event → EndsNone event → Step s event answer s' → BesideFits s x event answer s' → log'.entries ≡ log.entries ++ entries_made s x event answer → length log'.entries + promised' ≤ log'.room → HasHistory first s' begun' promised' log' notes
after_told first s s' begun begun' promised promised' log log' notes x event answer h k idle same its given none step fits e room = record {
  all = grown first s s' log.entries log'.entries x event answer h.all its given step fits e;
  underway = underway_after s s' begun begun' event answer h.underway idle given step same;
  room = room;
  mine = still_mine s event answer s' k given step its h.mine;
  lent = step_keeps_lent s event answer s' k h.all.whole given step h.lent;
  noted = h.noted ∙ sym (steps_keep_notes s event answer s' k given none step);
  sizes = (step_keeps_root s event answer s' k h.all.whole given step).0 ∙ h.sizes;
}

-- where nothing is told beside it
pub after_call : (first : Image) (s s' : State) (begun begun' : List (Option Outline)) (promised promised' : ℕ) (log log' : Logged) (notes : Notes) (event : Event) (answer : CtlAnswer) → HasHistory first s begun promised log notes → Kept s → begun_by (underway_in s begun) (library_of event) ≡ None → begun' ≡ begun → IsLibrary s.creds (library_of event) → GivenEvent s event → EndsNone event → Step s event answer s' → BesideFits s alone event answer s' → log'.entries ≡ log.entries ++ entries_made s alone event answer → length log'.entries + promised' ≤ log'.room → HasHistory first s' begun' promised' log' notes
after_call first s s' begun begun' promised promised' log log' notes event answer h k idle same its given none step fits e room = after_told first s s' begun begun' promised promised' log log' notes alone event answer h k idle same its given none step fits e room

-- after read leases are given back, one after another
pub backs_history : (first : Image) (s : State) (lib : LibNo) (back : List Shown) (begun : List (Option Outline)) (promised promised' : ℕ) (log log' : Logged) (notes : Notes) → HasHistory first s begun promised log notes → begun_by (underway_in s begun) lib.0 ≡ None → IsLibrary s.creds lib.0 → AreBack s lib back → log'.entries ≡ log.entries ++ back_entries lib back → promised' + length back ≡ promised → length log'.entries + promised' ≤ log'.room → HasHistory first (all_back s lib back) begun promised' log' notes
backs_history first s lib [] begun promised promised' log log' notes h idle its b given less room = record {
  all = subst (λ es. IsRecorded (recorded first s es)) (sym (given ∙ append-nil log.entries)) h.all;
  underway = h.underway;
  room = room;
  mine = h.mine;
  lent = h.lent;
  noted = h.noted;
  sizes = h.sizes;
}
backs_history first s lib (f ∷ fs) begun promised promised' log log' notes h idle its b given less room =
    let mid : Logged = record { entries = log.entries ++ entry.Back lib f.ino ∷ []; room = length (log.entries ++ entry.Back lib f.ino ∷ []) + (promised' + length fs) } in
    backs_history first (given_back s lib.0 f.ino) lib fs begun (promised' + length fs) promised' mid log' notes
    (after_call first s (given_back s lib.0 f.ino) begun begun promised (promised' + length fs) log mid notes (Back lib.0 f.ino) Done h h.all.kept idle refl its b.0 tt (inl (refl, refl)) tt refl (omega arith))
    (idle_in s (given_back s lib.0 f.ino) begun lib.0 idle) its b.1 (given ∙ sym (append_assoc log.entries (entry.Back lib f.ino ∷ []) (back_entries lib fs))) refl room

-- one entry more, for which there were two places, and at most one promised more
pub one_more_room : (es : List Entry) (e : Entry) (p p' room : ℕ) → length es + p + 2 ≤ room → p' ≤ p + 1 → length (es ++ e ∷ []) + p' ≤ room
one_more_room es e p p' room places few = (let n = length-append es (e ∷ []) in omega (arith, n, places, few))

pub no_more_room : (es : List Entry) (p p' room : ℕ) → length es + p + 2 ≤ room → p' ≤ p + 1 → length es + p' ≤ room
no_more_room es p p' room places few = omega (arith, places, few)

-- one entry, for which there was a place
pub one_room : (es : List Entry) (e : Entry) (p p' room : ℕ) → length es + p + 1 ≤ room → p' ≡ p → length (es ++ e ∷ []) + p' ≤ room
one_room es e p p' room places same = (let n = length-append es (e ∷ []) in omega (arith, n, places, same))

pub same_room : (es : List Entry) (p p' room : ℕ) → length es + p + 1 ≤ room → p' ≡ p → length es + p' ≤ room
same_room es p p' room places same = omega (arith, places, same)

-- the entry of an end that was promised
pub promised_room : (es : List Entry) (e : Entry) (p p' room : ℕ) → length es + p ≤ room → p' + 1 ≡ p → length (es ++ e ∷ []) + p' ≤ room
promised_room es e p p' room places one = (let n = length-append es (e ∷ []) in omega (arith, n, places, one))

-- a library that has an open grant is one of the controller's
pub grants_library : (s : State) (lib ino : ℕ) (kind : GrantKind) → AreMine s → HasGrant s lib ino kind → IsLibrary s.creds lib
grants_library s lib ino kind mine g = by (mine lib)
  where
    by : IsLibrary s.creds lib ⊎ (grants_to s.open_grants lib ≡ []) → IsLibrary s.creds lib
    by (inl is) = is
    by (inr none) =
        let there = In-map without_checkpoint g.grant (filter (λ x. x.lib == lib) s.open_grants) (In-filter (λ (x : OpenGrant). x.lib == lib) g.grant s.open_grants g.is_open (eq-eqb g.grant.lib lib g.lib)) in
        absurd (subst (λ (l : List OpenGrant). In (without_checkpoint g.grant) l) none there)

-- ---- the start

pub begins : (sb : Superblock) (pages : List (Option (List ℕ))) (creds : List Creds) (begun : List (Option Outline)) (log : Logged) (notes : Notes) → IsVerified sb pages → begun ≡ replicate (length creds) None → log.entries ≡ [] → notes ≡ notes_by_rows (image_in sb pages).core (image_in sb pages).rows → HasHistory (image_in sb pages) (start (image_in sb pages) creds) begun 0 log notes
begins sb pages creds begun log notes v none empty noted =
    let image = image_in sb pages in
    let k = image_kept sb pages creds v in
    let whole : IsWhole image = λ p gone core. whole_none pages p v.whole.whole gone in
    let facts = superblock_facts sb v.whole.superblock.read.fits in
    let positive : 0 < image.core.range.first = omega (arith, facts.first_owner, facts.first_core) in
    record {
      all = subst (λ l. IsRecorded (recorded image (start image creds) l)) (sym empty) (history_begins image creds k.fit k.verifies whole);
      underway = underway_begins image creds begun k none;
      room = (let n : length log.entries ≡ 0 = ap (λ (l : List Entry). length l) empty in omega (arith, n));
      mine = λ lib. inr refl;
      lent = record { files = λ g f i. absurd i; holds = λ g h i. absurd i };
      noted = noted ∙ sym (start_notes image creds k.fit k.verifies whole positive);
      sizes = refl;
    }
