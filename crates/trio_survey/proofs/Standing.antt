-- One file more of the walk, and its end.
use Rattle.trio_survey.proofs.Words.{◌&&◌, ◌++◌, ◌+◌, ◌<◌, ◌||◌, ◌∙◌, ◌∷◌, ◌≡◌, ◌≤◌, AreMarked, Bool, Core, Err, Fails, FailsAt, FaultAt, FileRead, FirstEntry, FirstRepeat, In, IsFirstRepeat, IsRefused, IsSound, List, Location, MarksJust, Met, NoMemory, None, Ok, Option, Pick, Row, Some, Stands, SurveyFault, Tabled, [], all_below, all_some, among-first_listed, and_from, and_parts, ap, append-nil, are_in_grammar, are_listed_once, are_new, arith, children, children_in, count_by-le-length, drop, drop-append-le, drop_more, file_of, file_repeat, first_listed, flat_map-append, get_or, inl, inr, is_among, is_among-append, is_ok, length, length-append, list_all-append, listed_numbers, listed_pages, ltb, map, map-append, met_in, numbers, option_or, owners_table, pages_in, pages_of, queue, refl, root_of, rows_table, suc, sym, take, take-append-drop, take-append-le, take_all, take_more, true, zero, ℕ}
use Rattle.std.proofs.lemmas.List.{drop_all}
use Rattle.trio_layout.specs.Queue.{pass_on, pass}
use Rattle.trio_layout.specs.Survey.{survey}
use Rattle.trio_layout.proofs.QueueLaws.{files_are_levels, waiting_is_met}
use Rattle.trio_survey.specs.inner.Walk.{IsFault}
use Rattle.trio_survey.proofs.Repeats.{fails_unsound, first_repeat, numbers_of, numbers_met}
use Rattle.trio_survey.proofs.Tables.{all_first, owners_are, rows_are}
use Rattle.trio_layout.specs.declared.refusal.Rule.TheVariants.{Grammar, Owning}
use Rattle.trio_layout.specs.Rule.{rule_number}

pub few_files : (core : Core) (pick : Pick) (i : ℕ) (files : List Met) (marks used : List Bool) (twice : Option FaultAt) → Stands core pick i files marks used twice → length files ≤ core.inodes + 1
few_files core pick i files marks used twice s =
    omega (arith, s.marked.counted, s.many_marks, count_by-le-length (λ (b : Bool). b) marks)

-- a walk that passes a file further is nearer to its end
pub walk_ends : (core : Core) (pick : Pick) (i : ℕ) (files : List Met) (marks used : List Bool) (twice : Option FaultAt) → Stands core pick i files marks used twice → i ≤ core.inodes + 1
walk_ends core pick i files marks used twice s = omega (arith, few_files core pick i files marks used twice s, s.inside)

in_at : {X : Type 0} (xs : List X) (i : ℕ) (x : X) → i < length xs → get_or xs i x ≡ x → In x xs
in_at [] i x h e = omega arith
in_at (y ∷ ys) zero x h e = inl (sym e)
in_at (y ∷ ys) (suc i) x h e = inr (in_at ys i x (omega arith) e)

-- a file that can't be read
pub file_fails : (core : Core) (pick : Pick) (i : ℕ) (files : List Met) (marks used : List Bool) (twice : Option FaultAt) (m : Met) (place : Location) → Stands core pick i files marks used twice → i < length files → get_or files i m ≡ m → file_of core m ≡ Err place → FailsAt core pick (rule_number Grammar) m.ino place
unfolding survey
file_fails core pick i files marks used twice m place s h at bad =
    let few : length files ≤ suc core.inodes = omega (arith, few_files core pick i files marks used twice s) in
    let met = waiting_is_met (children core pick) (root_of core) (suc core.inodes) i files s.queued h few in
    inl (refl, record { met = m; among = in_at (survey core pick) i m met.0 (met.1 m ∙ at); number = refl; fault = bad })

-- when no file is left
survey_is : (core : Core) (pick : Pick) (i : ℕ) (files : List Met) (marks used : List Bool) (twice : Option FaultAt) → Stands core pick i files marks used twice → length files ≤ i → survey core pick ≡ files
unfolding survey
survey_is core pick i files marks used twice s h =
    let few : i ≤ suc core.inodes = omega (arith, walk_ends core pick i files marks used twice s) in
    let done = s.queued ∙ ap (λ p. record { passed = p; level = drop i files }) (take_all i files h) ∙ ap (λ l. record { passed = files; level = l }) (drop_all i files h) in
    files_are_levels (children core pick) (root_of core) (suc core.inodes) i files done few

-- what the calls for one file leave
pub record Visited (core : Core) (pick : Pick) (m : Met) (f : FileRead) (files files' : List Met) (marks' used used' : List Bool) : Type 0 where
  pub pages : (before : List ℕ) → MarksJust used before → MarksJust used' (before ++ (f.chain.index ++ f.chain.blocks))
  pub added : files' ≡ files ++ first_listed (numbers files) (map (met_in pick m.ino) f.entries)
  pub marked : AreMarked files' marks'
  pub fit : all_below (core.inodes + 1) (numbers_of f.entries) ≡ true
  pub some : all_some (numbers_of f.entries) ≡ true

pub stands_more : (core : Core) (pick : Pick) (i : ℕ) (files files' : List Met) (marks marks' used used' : List Bool) (twice twice' : Option FaultAt) (m : Met) (f : FileRead) → i < length files → get_or files i m ≡ m → file_of core m ≡ Ok f → length marks' ≡ length marks → length used' ≡ length used → Visited core pick m f files files' marks' used used' → IsFirstRepeat core pick (take i files ++ m ∷ []) twice' → Stands core pick i files marks used twice → Stands core pick (i + 1) files' marks' used' twice'
stands_more core pick i files files' marks marks' used used' twice twice' m f h at read lm lu v again s =
    let done : List Met = take i files in
    let left : List Met = drop (i + 1) files in
    let kids : List Met = map (met_in pick m.ino) f.entries in
    let new : List Met = first_listed (numbers files) kids in
    let kids_are : children core pick m ≡ kids = ap (children_in pick m.ino) read in
    let more : take (i + 1) files ≡ done ++ m ∷ [] = take_more files i m h ∙ ap (λ x. done ++ x ∷ []) at in
    let rest : drop i files ≡ m ∷ left = drop_more files i m h ∙ ap (λ x. x ∷ left) at in
    let whole : done ++ m ∷ left ≡ files = ap (λ l. done ++ l) (sym rest) ∙ take-append-drop i files in
    let room : i + 1 ≤ length files = omega arith in
    let taken : take (i + 1) files' ≡ done ++ m ∷ [] =
    ap (take (i + 1)) v.added ∙ take-append-le (i + 1) files new room ∙ more in
    let dropped : drop (i + 1) files' ≡ left ++ new = ap (drop (i + 1)) v.added ∙ drop-append-le (i + 1) files new room in
    let L : List ℕ = listed_numbers core pick done in
    let P : List ℕ = listed_pages core done in
    let k : List ℕ = numbers kids in
    let k_is : k ≡ numbers_of f.entries = numbers_met pick m.ino f.entries in
    let L_more : listed_numbers core pick (done ++ m ∷ []) ≡ L ++ k =
    flat_map-append (λ x. numbers (children core pick x)) done (m ∷ []) ∙ ap (λ l. L ++ l) (append-nil (numbers (children core pick m)) ∙ ap numbers kids_are) in
    let pages_are : pages_of core m ≡ f.chain.index ++ f.chain.blocks = ap pages_in read in
    let P_more : listed_pages core (done ++ m ∷ []) ≡ P ++ (f.chain.index ++ f.chain.blocks) =
    flat_map-append (pages_of core) done (m ∷ []) ∙ ap (λ l. P ++ l) (append-nil (pages_of core m) ∙ pages_are) in
    let one : i + 1 ≡ suc i = omega arith in
    let below : ℕ → Bool = λ x. ltb x (core.inodes + 1) in
    let positive : ℕ → Bool = λ x. ltb 0 x in
    let grown : numbers files' ≡ numbers files ++ numbers new = ap numbers v.added ∙ map-append (λ x. x.ino) files new in
    record {
      inside = omega (arith, ap length v.added, length-append files new);
      queued =
          ap (queue (children core pick) (root_of core)) one
          ∙ ap (pass (children core pick)) s.queued
          ∙ ap (pass_on (children core pick) done) rest
          ∙ ap (λ l. record { passed = done ++ m ∷ []; level = left ++ first_listed (numbers l) (children core pick m) }) whole
          ∙ ap (λ ks. record { passed = done ++ m ∷ []; level = left ++ first_listed (numbers files) ks }) kids_are
          ∙ ap (λ p. record { passed = p; level = left ++ new }) (sym taken)
          ∙ ap (λ l. record { passed = take (i + 1) files'; level = l }) (sym dropped);
      good = ap (are_in_grammar core) taken ∙ list_all-append (λ x. is_ok (file_of core x)) done (m ∷ []) ∙ and_from (are_in_grammar core done) (is_ok (file_of core m) && true) s.good (and_from (is_ok (file_of core m)) true (ap is_ok read) refl);
      marked = v.marked;
      same = λ n.
          ap (is_among n) grown
          ∙ among-first_listed n (numbers files) kids
          ∙ is_among-append n (numbers files) k
          ∙ ap (λ b. b || is_among n k) (s.same n)
          ∙ sym (is_among-append n (1 ∷ L) k)
          ∙ ap (λ l. is_among n (1 ∷ l)) (sym L_more)
          ∙ ap (λ t. is_among n (1 ∷ listed_numbers core pick t)) (sym taken);
      pages = rw (taken, P_more) (v.pages P s.pages);
      once = rw taken again;
      fit = ap (all_below (core.inodes + 1)) grown
          ∙ list_all-append below (numbers files) (numbers new)
          ∙ and_from (all_below (core.inodes + 1) (numbers files)) (all_below (core.inodes + 1) (numbers new)) s.fit (all_first below (numbers files) kids (ap (all_below (core.inodes + 1)) k_is ∙ v.fit));
      some = ap all_some grown
          ∙ list_all-append positive (numbers files) (numbers new)
          ∙ and_from (all_some (numbers files)) (all_some (numbers new)) s.some (all_first positive (numbers files) kids (ap all_some k_is ∙ v.some));
      many_marks = lm ∙ s.many_marks;
      many_used = lu ∙ s.many_used;
    }

-- what a file lists again for the first time
pub repeat_more : (core : Core) (pick : Pick) (i : ℕ) (files : List Met) (marks used : List Bool) (twice : Option FaultAt) (m : Met) (f : FileRead) (a b : Option ℕ) (c : Option Location) → file_of core m ≡ Ok f → ((before : List ℕ) → MarksJust used before → FirstRepeat before f.chain.index a) → ((before : List ℕ) → MarksJust used before → FirstRepeat (before ++ f.chain.index) f.chain.blocks b) → FirstEntry (numbers files) f.entries c → Stands core pick i files marks used twice → IsFirstRepeat core pick (take i files ++ m ∷ []) (option_or twice (file_repeat m.ino a b c))
repeat_more core pick i files marks used twice m f a b c read index block entry s =
    let P : List ℕ = listed_pages core (take i files) in
    first_repeat core pick (take i files) m f (numbers files) twice a b c read s.same (index P s.pages) (block P s.pages) entry s.once

-- when no file is left, the files passed are all files of the survey
pub all_passed : (core : Core) (pick : Pick) (i : ℕ) (files : List Met) (marks used : List Bool) (twice : Option FaultAt) → Stands core pick i files marks used twice → length files ≤ i → take i files ≡ survey core pick
all_passed core pick i files marks used twice s h = take_all i files h ∙ sym (survey_is core pick i files marks used twice s h)

pub refused : (core : Core) (pick : Pick) (e : SurveyFault) → IsFault core pick e → IsRefused core pick e
refused core pick (Fails rule ino page slot) f = (fails_unsound core pick rule ino (record { page = page; slot = slot }) f, f)
refused core pick NoMemory f = tt

pub second_refused : (core : Core) (pick : Pick) (i : ℕ) (files : List Met) (marks used : List Bool) (r : FaultAt) → Stands core pick i files marks used (Some r) → length files ≤ i → IsRefused core pick (Fails (rule_number Owning) r.ino r.place.page r.place.slot)
second_refused core pick i files marks used r s h =
    let all = all_passed core pick i files marks used (Some r) s h in
    refused core pick (Fails (rule_number Owning) r.ino r.place.page r.place.slot) (inr (refl, ap (are_in_grammar core) (sym all) ∙ s.good, rw all at s.once))

-- the survey is sound, and the tables are those of its files
pub record IsWhole (core : Core) (pick : Pick) (owners : List ℕ) (rows : List (Option Row)) : Type 0 where
  pub sound : IsSound core pick
  pub rows_are : rows ≡ rows_table core (survey core pick)
  pub owners_are : owners ≡ owners_table core (survey core pick)

pub is_whole : (core : Core) (pick : Pick) (i : ℕ) (files : List Met) (marks used : List Bool) (owners : List ℕ) (rows : List (Option Row)) → Stands core pick i files marks used None → Tabled core (take i files) owners rows → length files ≤ i → IsWhole core pick owners rows
is_whole core pick i files marks used owners rows s t h =
    let all = all_passed core pick i files marks used None s h in
    let good : are_in_grammar core (survey core pick) ≡ true = ap (are_in_grammar core) (sym all) ∙ s.good in
    let once : are_listed_once core pick (survey core pick) ≡ true = ap (are_listed_once core pick) (sym all) ∙ s.once in
    let apart : are_new [] (listed_pages core (survey core pick)) ≡ true =
    (and_parts (are_new (1 ∷ []) (listed_numbers core pick (survey core pick))) _ once).1 in
    let tables : Tabled core (survey core pick) owners rows = rw all at t in
    record {
      sound = and_from (are_in_grammar core (survey core pick)) (are_listed_once core pick (survey core pick)) good once;
      rows_are = rows_are core (survey core pick) owners rows tables;
      owners_are = owners_are core (survey core pick) owners rows apart tables;
    }
