-- Files by the grammar of version 1.
use Rattle.trio_survey.proofs.Words.{◌&&◌, ◌++◌, ◌+◌, ◌-◌, ◌<◌, ◌∙◌, ◌∷◌, ◌≡◌, ◌≤◌, Bool, Core, Err, Fails, FaultAt, FileRead, List, Listed, Location, Met, NoMemory, None, Ok, Option, Pick, Some, Stands, SurveyFault, [], and_from, ap, arith, children, cond, drop, drop_more, false, false≢true, file_of, get_or, inl, inr, is_ok, length, list_all-append, nowhere, place_of, queue, refl, result_then, root_of, suc, sym, take, take-append-drop, take-append-le, true, ℕ}
use Rattle.trio_rights.specs.ByKind.{is_link}
use Rattle.trio_layout.specs.Survey.{levels, survey}
use Rattle.trio_layout.specs.declared.refusal.Rule.TheVariants.{Grammar, Owning}
use Rattle.trio_layout.specs.Rule.{rule_number}
use Rattle.trio_layout.proofs.QueueLaws.{levels_are, met_by, queue_keeps, waiting_is_met}
use Rattle.trio_survey.specs.OldVersion.{are_in_old_grammar, first_link, new_place, old_file_of, unless_new, LeavesOldGrammar}
use Rattle.trio_survey.specs.inner.Old.{place_unknown, AreOld, IsFaultBy, IsRefusedBy}
use Rattle.trio_survey.proofs.Standing.{all_passed, few_files, refused, second_refused}

-- ---- links among entries

pub first_link-none : (xs ys : List Listed) → first_link xs ≡ None → first_link (xs ++ ys) ≡ first_link ys
first_link-none [] ys e = refl
first_link-none (x ∷ xs) ys e = by (is_link x.entry.kind) (first_link (xs ++ ys)) (first_link-none xs ys) e
  where
    by : (b : Bool) (o : Option Location) → (first_link xs ≡ None → o ≡ first_link ys) → cond b (Some (place_of x)) (first_link xs) ≡ None → cond b (Some (place_of x)) o ≡ first_link ys
    by true o h e' = absurd cc
    by false o h e' = h e'

pub first_link-some : (xs ys : List Listed) (p : Location) → first_link xs ≡ Some p → first_link (xs ++ ys) ≡ Some p
first_link-some [] ys p e = absurd cc
first_link-some (x ∷ xs) ys p e = by (is_link x.entry.kind) (first_link (xs ++ ys)) (first_link-some xs ys p) e
  where
    by : (b : Bool) (o : Option Location) → (first_link xs ≡ Some p → o ≡ Some p) → cond b (Some (place_of x)) (first_link xs) ≡ Some p → cond b (Some (place_of x)) o ≡ Some p
    by true o h e' = e'
    by false o h e' = h e'

-- ---- one file

pub old_file-read : (core : Core) (m : Met) (f : FileRead) → file_of core m ≡ Ok f → old_file_of core m ≡ unless_new f (new_place f)
old_file-read core m f read = ap (result_then (λ (g : FileRead). unless_new g (new_place g))) read

pub old_file-none : (core : Core) (m : Met) (f : FileRead) → file_of core m ≡ Ok f → new_place f ≡ None → old_file_of core m ≡ Ok f
old_file-none core m f read none = old_file-read core m f read ∙ ap (unless_new f) none

pub old_file-some : (core : Core) (m : Met) (f : FileRead) (place : Location) → file_of core m ≡ Ok f → new_place f ≡ Some place → old_file_of core m ≡ Err place
old_file-some core m f place read some = old_file-read core m f read ∙ ap (unless_new f) some

pub old_file-fault : (core : Core) (m : Met) (place : Location) → file_of core m ≡ Err place → old_file_of core m ≡ Err place
old_file-fault core m place bad = ap (result_then (λ (g : FileRead). unless_new g (new_place g))) bad

-- what is in the grammar has nothing new
pub old_ok-none : (f : FileRead) (o : Option Location) → is_ok (unless_new f o) ≡ true → o ≡ None
old_ok-none f None ok = refl
old_ok-none f (Some place) ok = absurd (false≢true ok)

pub new_place-none : (guarded : Bool) (o : Option Location) → cond guarded (Some nowhere) o ≡ None → (guarded ≡ false) × (o ≡ None)
new_place-none true o e = absurd cc
new_place-none false o e = (refl, e)

-- one file more
pub old_more : (old : Bool) (core : Core) (done : List Met) (m : Met) → AreOld old core done → (old ≡ true → is_ok (old_file_of core m) ≡ true) → AreOld old core (done ++ m ∷ [])
old_more old core done m before ok = λ asked.
    list_all-append (λ x. is_ok (old_file_of core x)) done (m ∷ [])
    ∙ and_from (are_in_old_grammar core done) (is_ok (old_file_of core m) && true) (before asked) (and_from (is_ok (old_file_of core m)) true (ok asked) refl)

-- where nothing unknown was found
pub known_ok : (old : Bool) (core : Core) (m : Met) (f : FileRead) → file_of core m ≡ Ok f → place_unknown old f ≡ None → old ≡ true → is_ok (old_file_of core m) ≡ true
known_ok true core m f read none asked = ap is_ok (old_file-none core m f read none)
known_ok false core m f read none asked = absurd (false≢true asked)

-- ---- a file that version 1 can't read

agree_front : (xs ys l rest : List Met) (i : ℕ) → i ≤ length xs → i ≤ length ys → xs ++ l ≡ ys ++ rest → take i xs ≡ take i ys
agree_front xs ys l rest i a b e = sym (take-append-le i xs l a) ∙ ap (take i) e ∙ take-append-le i ys rest b

-- the walk passes the files of the survey in order
pub in_order : (core : Core) (pick : Pick) (i : ℕ) (files : List Met) (marks used : List Bool) (twice : Option FaultAt) (m : Met) → Stands core pick i files marks used twice → i < length files → get_or files i m ≡ m → survey core pick ≡ take i files ++ m ∷ drop (i + 1) (survey core pick)
unfolding survey
in_order core pick i files marks used twice m s h at =
    let kids = children core pick in
    let root = root_of core in
    let few : length files ≤ suc core.inodes = omega (arith, few_files core pick i files marks used twice s) in
    let met = waiting_is_met kids root (suc core.inodes) i files s.queued h few in
    let all : List Met = (levels kids root (suc core.inodes)).passed in
    let n : ℕ = length all in
    let gap : (d : ℕ) × (n ≡ i + d) = below_gap i n met.0 in
    let kept = queue_keeps kids root i gap.0 in
    let there : met_by (queue kids root n) ≡ all ++ (levels kids root (suc core.inodes)).level = ap met_by (sym (levels_are kids root (suc core.inodes))) in
    let here : met_by (queue kids root i) ≡ files = ap met_by s.queued ∙ take-append-drop i files in
    let same : all ++ (levels kids root (suc core.inodes)).level ≡ files ++ kept.0 =
    sym there ∙ ap (λ k. met_by (queue kids root k)) gap.1 ∙ kept.1 ∙ ap (λ l. l ++ kept.0) here in
    let front : take i all ≡ take i files = agree_front all files (levels kids root (suc core.inodes)).level kept.0 i (omega (arith, met.0)) (omega arith) same in
    let back : drop i all ≡ m ∷ drop (i + 1) all = drop_more all i m met.0 ∙ ap (λ x. x ∷ drop (i + 1) all) (met.1 m ∙ at) in
    sym (take-append-drop i all) ∙ ap (λ l. l ++ drop i all) front ∙ ap (λ l. take i files ++ l) back
  where
    below_gap : (i n : ℕ) → i < n → (d : ℕ) × (n ≡ i + d)
    below_gap i n lt = (n - i, omega arith)

pub leaves_old : (core : Core) (pick : Pick) (i : ℕ) (files : List Met) (marks used : List Bool) (twice : Option FaultAt) (m : Met) (place : Location) → Stands core pick i files marks used twice → i < length files → get_or files i m ≡ m → are_in_old_grammar core (take i files) ≡ true → old_file_of core m ≡ Err place → LeavesOldGrammar core pick m.ino place
leaves_old core pick i files marks used twice m place s h at good bad = record {
  earlier = take i files;
  met = m;
  later = drop (i + 1) (survey core pick);
  order = in_order core pick i files marks used twice m s h at;
  before = good;
  number = refl;
  fault = bad;
}

-- a file that the version that is asked can't read
pub fails_by : (old : Bool) (core : Core) (pick : Pick) (i : ℕ) (files : List Met) (marks used : List Bool) (twice : Option FaultAt) (m : Met) (place : Location) → Stands core pick i files marks used twice → i < length files → get_or files i m ≡ m → AreOld old core (take i files) → IsFaultBy false core pick (Fails (rule_number Grammar) m.ino place.page place.slot) → old_file_of core m ≡ Err place → IsFaultBy old core pick (Fails (rule_number Grammar) m.ino place.page place.slot)
fails_by true core pick i files marks used twice m place s h at good plain_fault bad = (refl, leaves_old core pick i files marks used twice m place s h at (good refl) bad)
fails_by false core pick i files marks used twice m place s h at good plain_fault bad = plain_fault

-- a file with something unknown
pub unknown_fails : (old : Bool) (core : Core) (pick : Pick) (i : ℕ) (files : List Met) (marks used : List Bool) (twice : Option FaultAt) (m : Met) (f : FileRead) (place : Location) → Stands core pick i files marks used twice → i < length files → get_or files i m ≡ m → AreOld old core (take i files) → file_of core m ≡ Ok f → place_unknown old f ≡ Some place → IsFaultBy old core pick (Fails (rule_number Grammar) m.ino place.page place.slot)
unknown_fails true core pick i files marks used twice m f place s h at good read some = (refl, leaves_old core pick i files marks used twice m place s h at (good refl) (old_file-some core m f place read some))
unknown_fails false core pick i files marks used twice m f place s h at good read some = absurd cc

-- where version 1 is asked, a file that it alone can't read is a fault
pub leaves_by : (old : Bool) (core : Core) (pick : Pick) (ino : ℕ) (place : Location) → old ≡ true → LeavesOldGrammar core pick ino place → IsFaultBy old core pick (Fails (rule_number Grammar) ino place.page place.slot)
leaves_by true core pick ino place asked l = (refl, l)
leaves_by false core pick ino place asked l = absurd (false≢true asked)

-- want of memory says nothing
pub no_memory_by : (old : Bool) (core : Core) (pick : Pick) → IsFaultBy old core pick NoMemory
no_memory_by true core pick = tt
no_memory_by false core pick = tt

-- ---- what a survey by the version that is asked answers

pub refused_by : (old : Bool) (core : Core) (pick : Pick) (e : SurveyFault) → IsFaultBy old core pick e → IsRefusedBy old core pick e
refused_by true core pick (Fails rule ino page slot) f = inl f
refused_by true core pick NoMemory f = tt
refused_by false core pick e f = refused core pick e f

pub old_survey : (old : Bool) (core : Core) (pick : Pick) (i : ℕ) (files : List Met) (marks used : List Bool) (twice : Option FaultAt) → Stands core pick i files marks used twice → length files ≤ i → AreOld old core (take i files) → AreOld old core (survey core pick)
old_survey old core pick i files marks used twice s h good = let all = all_passed core pick i files marks used twice s h in rw all at good

pub second_refused_by : (old : Bool) (core : Core) (pick : Pick) (i : ℕ) (files : List Met) (marks used : List Bool) (r : FaultAt) → Stands core pick i files marks used (Some r) → length files ≤ i → AreOld old core (take i files) → IsRefusedBy old core pick (Fails (rule_number Owning) r.ino r.place.page r.place.slot)
second_refused_by true core pick i files marks used r s h good = inr (refl, old_survey true core pick i files marks used (Some r) s h good refl, second_refused core pick i files marks used r s h)
second_refused_by false core pick i files marks used r s h good = second_refused core pick i files marks used r s h
