-- A file whose chain is that of one that was passed.
use Rattle.trio_survey.proofs.Words.{◌++◌, ◌+◌, ◌-◌, ◌<◌, ◌||◌, ◌∙◌, ◌∷◌, ◌≡◌, Bool, Chain, Core, Err, FaultAt, FileRead, In, IsListedBefore, List, Listed, MarksJust, Met, None, Ok, Option, Pick, Row, Some, Stands, Tabled, [], ap, append-nil, are_new, arith, block_count, body_of, chain_from, chain_of, children, children_in, cond, entries_of, entries_of_kind, eqb, false, false≢true, file_with, first_listed, flat_map, flat_map-append, get_or, heads_of, index_count, index_page, inl, inr, is_among, is_among-append, is_ok, is_some, length, listed_numbers, listed_pages, map, met_in, min, nowhere, numbers, pages_in, pages_of, refl, replicate, result_map, result_then, root_of, row_by, set, suc, sym, take, take_more, there_or, true, with_index, zero, ℕ}
use Rattle.trio_rights.specs.ByKind.{is_directory}
use Rattle.std.proofs.Common.{◌⊎◌}
use Rattle.std.proofs.lemmas.Bool.{eq-eqb, or_left, or_right}
use Rattle.trio_lists.proofs.Members.{In-left, In-right, result_map-Ok, result_then-Ok}
use Rattle.trio_layout.specs.declared.body.Body.{Body}
use Rattle.trio_layout.specs.Survey.{file_of}
use Rattle.trio_survey.specs.declared.again.Heads.{Heads}
use Rattle.trio_survey.specs.inner.Again.{heads_after, KnowsAllHeads, KnowsHeads, WasPassed}
use Rattle.trio_lists.proofs.Members.{list_all-In}
use Rattle.trio_survey.specs.OldVersion.{first_link, new_place, old_file_of}
use Rattle.trio_survey.specs.inner.Old.{AreOld}
use Rattle.trio_survey.proofs.OldFiles.{new_place-none, old_file-none, old_file-read, old_file-some, old_ok-none}
use Rattle.trio_survey.proofs.Fits.{file_within}
use Rattle.trio_survey.proofs.Repeats.{numbers_met, numbers_of, repeat_not_new, repeats_keep}
use Rattle.trio_survey.proofs.Standing.{stands_more}
use Rattle.trio_survey.proofs.Tables.{next_is_new, tabled_by}

-- ---- where the chains of passed files begin

passed_more : (core : Core) (done : List Met) (m : Met) (directory : Bool) (head blocks : ℕ) → WasPassed core done directory head blocks → WasPassed core (done ++ m ∷ []) directory head blocks
passed_more core done m directory head blocks p = record {
  met = p.met;
  file = p.file;
  among = In-left p.met done (m ∷ []) p.among;
  kind_is = p.kind_is;
  read = p.read;
  head_is = p.head_is;
  blocks_are = p.blocks_are;
}

set_cases : (xs : List ℕ) (i v p : ℕ) → ((p ≡ i) × (get_or (set xs i v) p 0 ≡ v)) ⊎ (get_or (set xs i v) p 0 ≡ get_or xs p 0)
set_cases [] i v p = inr refl
set_cases (x ∷ xs) zero v zero = inl (refl, refl)
set_cases (x ∷ xs) zero v (suc p) = inr refl
set_cases (x ∷ xs) (suc i) v zero = inr refl
set_cases (x ∷ xs) (suc i) v (suc p) = elim (set_cases xs i v p) [ inl same ↦ inl (ap suc same.0, same.1) | inr other ↦ inr other ]

knows_still : (core : Core) (done : List Met) (directory : Bool) (heads : List ℕ) (m : Met) → KnowsHeads core done directory heads → KnowsHeads core (done ++ m ∷ []) directory heads
knows_still core done directory heads m h = λ head some. passed_more core done m directory head (get_or heads head 0) (h head some)

knows_one : (core : Core) (done : List Met) (directory : Bool) (heads : List ℕ) (m : Met) (f : FileRead) → is_directory m.kind ≡ directory → file_of core m ≡ Ok f → KnowsHeads core done directory heads → KnowsHeads core (done ++ m ∷ []) directory (set heads f.body.head (block_count f.body.size))
knows_one core done directory heads m f is read h = λ head some.
    let blocks : ℕ = block_count f.body.size in
    elim (set_cases heads f.body.head blocks head) [
      | inl same ↦ rw same.1 (record { met = m; file = f; among = In-right m done (m ∷ []) (inl refl); kind_is = is; read = read; head_is = sym same.0; blocks_are = refl })
      | inr other ↦ rw other (passed_more core done m directory head (get_or heads head 0) (h head (rw other at some)))
    ]

knows_by : (core : Core) (done : List Met) (directory : Bool) (heads : List ℕ) (m : Met) (f : FileRead) (its : Bool) → is_directory m.kind ≡ its → file_of core m ≡ Ok f → KnowsHeads core done directory heads → KnowsHeads core (done ++ m ∷ []) directory (heads_after directory heads its f.body)
knows_by core done false heads m f false is read h = knows_one core done false heads m f is read h
knows_by core done false heads m f true is read h = knows_still core done false heads m h
knows_by core done true heads m f false is read h = knows_still core done true heads m h
knows_by core done true heads m f true is read h = knows_one core done true heads m f is read h

pub knows_more : (core : Core) (done : List Met) (old new : Heads) (m : Met) (f : FileRead) → file_of core m ≡ Ok f → new.other.items ≡ heads_after false old.other.items (is_directory m.kind) f.body → new.directory.items ≡ heads_after true old.directory.items (is_directory m.kind) f.body → KnowsAllHeads core done old → KnowsAllHeads core (done ++ m ∷ []) new
knows_more core done old new m f read other directory h false = rw other (knows_by core done false old.other.items m f (is_directory m.kind) refl read (h false))
knows_more core done old new m f read other directory h true = rw directory (knows_by core done true old.directory.items m f (is_directory m.kind) refl read (h true))

knows_nothing : (core : Core) (directory : Bool) (count : ℕ) → KnowsHeads core [] directory (replicate count 0)
knows_nothing core directory count = λ head some. absurd (zero_less (get_or (replicate {A = ℕ} count 0) head 0) (none count head) some)
  where
    none : (n k : ℕ) → get_or (replicate {A = ℕ} n 0) k 0 ≡ 0
    none zero k = refl
    none (suc n) zero = refl
    none (suc n) (suc k) = none n k

    zero_less : (k : ℕ) → k ≡ 0 → 0 < k → ⊥
    zero_less k e h = omega arith

pub knows_none : (core : Core) (count : ℕ) (heads : Heads) → heads.other.items ≡ replicate count 0 → heads.directory.items ≡ replicate count 0 → KnowsAllHeads core [] heads
knows_none core count heads other directory false = rw other (knows_nothing core false count)
knows_none core count heads other directory true = rw directory (knows_nothing core true count)

-- a value that is there
pub some_there : {X : Type 0} (o : Option X) → is_some o ≡ true → (x : X) × (o ≡ Some x)
some_there None h = absurd (false≢true h)
some_there (Some x) h = (x, refl)

-- ---- what a file says

-- the chain and the entries of a file that was read
file_parts : (core : Core) (m : Met) (f : FileRead) → file_of core m ≡ Ok f → (chain_of core f.body ≡ Ok f.chain) × (entries_of_kind core m.kind f.chain.blocks ≡ Ok f.entries)
unfolding file_of
file_parts core m f read =
    let body = result_then-Ok (λ b. result_then (file_with core m.kind b) (chain_of core b)) (there_or nowhere (body_of m.kind core.range m.body)) f read in
    let chain = result_then-Ok (file_with core m.kind body.0) (chain_of core body.0) f body.2 in
    let entries = result_map-Ok (λ es. record { body = body.0; chain = chain.0; entries = es }) (entries_of_kind core m.kind chain.0.blocks) f chain.2 in
    let b : body.0 ≡ f.body = ap (λ (x : FileRead). x.body) entries.2 in
    let c : chain.0 ≡ f.chain = ap (λ (x : FileRead). x.chain) entries.2 in
    let es : entries.0 ≡ f.entries = ap (λ (x : FileRead). x.entries) entries.2 in
    (ap (chain_of core) (sym b) ∙ chain.1 ∙ ap Ok c, ap (λ x. entries_of_kind core m.kind x.blocks) (sym c) ∙ entries.1 ∙ ap Ok es)

-- a chain goes by its head and its count of blocks
same_chain : (core : Core) (a b : Body) → a.head ≡ b.head → block_count a.size ≡ block_count b.size → chain_of core b ≡ chain_of core a
same_chain core a b head blocks =
    ap (λ n. chain_from core (index_count n) n b.head) (sym blocks) ∙ ap (chain_from core (index_count (block_count a.size)) (block_count a.size)) (sym head)

-- a file of this body, chain and entries
file_is : (core : Core) (m : Met) (b : Body) (c : Chain) (es : List Listed) → body_of m.kind core.range m.body ≡ Some b → chain_of core b ≡ Ok c → entries_of_kind core m.kind c.blocks ≡ Ok es → file_of core m ≡ Ok (record { body = b; chain = c; entries = es })
unfolding file_of
file_is core m b c es body chain entries =
    ap (λ o. result_then (λ x. result_then (file_with core m.kind x) (chain_of core x)) (there_or nowhere o)) body
    ∙ ap (result_then (file_with core m.kind b)) chain
    ∙ ap (result_map (λ (ls : List Listed). record { body = b; chain = c; entries = ls })) entries

-- a chain of blocks begins with its head
chain_head : (core : Core) (n blocks at : ℕ) (c : Chain) → 0 < n → chain_from core n blocks at ≡ Ok c → (rest : List ℕ) × (c.index ≡ at ∷ rest)
chain_head core zero blocks at c some e = absurd (none some)
  where
    none : 0 < 0 → ⊥
    none h = omega arith
chain_head core (suc n) blocks at c some e =
    let i = result_then-Ok (λ i. result_map (with_index at i) (chain_from core n (blocks - 511) i.next)) (index_page core at (min blocks 511) (eqb n 0)) c e in
    let rest = result_map-Ok (with_index at i.0) (chain_from core n (blocks - 511) i.0.next) c i.2 in
    (rest.0.index, ap (λ (x : Chain). x.index) (sym rest.2))

-- ---- what it lists was met

among-flat : {X : Type 0} (g : X → List ℕ) (x : X) (n : ℕ) (xs : List X) → In x xs → is_among n (g x) ≡ true → is_among n (flat_map g xs) ≡ true
among-flat g x n [] i h = absurd i
among-flat g x n (y ∷ xs) (inl same) h =
    is_among-append n (g y) (flat_map g xs) ∙ or_left (is_among n (g y)) (is_among n (flat_map g xs)) (ap (λ z. is_among n (g z)) (sym same) ∙ h)
among-flat g x n (y ∷ xs) (inr i) h =
    is_among-append n (g y) (flat_map g xs) ∙ or_right (is_among n (g y)) (is_among n (flat_map g xs)) (among-flat g x n xs i h)

none_new : (seen : List ℕ) (ms : List Met) → ((n : ℕ) → is_among n (numbers ms) ≡ true → is_among n seen ≡ true) → first_listed seen ms ≡ []
none_new seen [] h = refl
none_new seen (m ∷ ms) h =
    rw (h m.ino (or_left (eqb m.ino m.ino) (is_among m.ino (numbers ms)) (eq-eqb m.ino m.ino refl)))
    (none_new seen ms (λ n e. h n (or_right (eqb m.ino n) (is_among n (numbers ms)) e)))

or_known : (a b : Bool) → (b ≡ true → a ≡ true) → a ≡ (a || b)
or_known true b h = refl
or_known false true h = h refl
or_known false false h = refl

module _ (core : Core) (pick : Pick) (i : ℕ) (files : List Met) (marks used : List Bool) (r : FaultAt) (heads : List ℕ) (m : Met) (b : Body) (inside : i < length files) (at : get_or files i m ≡ m) (s : Stands core pick i files marks used (Some r)) (knows : KnowsHeads core (take i files) (is_directory m.kind) heads) (listed : IsListedBefore core.range heads m b) where
  abbrev done : List Met
  done = take i files

  passed : WasPassed core done (is_directory m.kind) b.head (get_or heads b.head 0)
  passed = knows b.head (rw listed.passed listed.some)

  abbrev old : FileRead
  old = passed.file

  abbrev f : FileRead
  f = record { body = b; chain = old.chain; entries = old.entries }

  parts : (chain_of core old.body ≡ Ok old.chain) × (entries_of_kind core passed.met.kind old.chain.blocks ≡ Ok old.entries)
  parts = file_parts core passed.met old passed.read

  blocks_are : block_count old.body.size ≡ block_count b.size
  blocks_are = passed.blocks_are ∙ listed.passed

  chain_is : chain_of core b ≡ Ok old.chain
  chain_is = same_chain core old.body b passed.head_is blocks_are ∙ parts.0

  read : file_of core m ≡ Ok f
  read = file_is core m b old.chain old.entries listed.body chain_is (ap (λ d. cond d (entries_of core old.chain.blocks) (Ok [])) (sym passed.kind_is) ∙ parts.1)

  -- its pages were listed
  pages_known : (n : ℕ) → is_among n (f.chain.index ++ f.chain.blocks) ≡ true → is_among n (listed_pages core done) ≡ true
  pages_known n h = among-flat (pages_of core) passed.met n done passed.among (ap (λ x. is_among n (pages_in x)) passed.read ∙ h)

  pages_marked : (before : List ℕ) → MarksJust used before → MarksJust used (before ++ (f.chain.index ++ f.chain.blocks))
  pages_marked before just = λ n less.
      just n less
      ∙ or_known (is_among n before) (is_among n (f.chain.index ++ f.chain.blocks)) (λ h. sym (just n less) ∙ s.pages n less ∙ pages_known n h)
      ∙ sym (is_among-append n before (f.chain.index ++ f.chain.blocks))

  -- the numbers in its entries were met
  numbers_known : (n : ℕ) → is_among n (numbers (map (met_in pick m.ino) f.entries)) ≡ true → is_among n (numbers files) ≡ true
  numbers_known n h =
      let kids : numbers (children core pick passed.met) ≡ numbers_of f.entries = ap (λ x. numbers (children_in pick passed.met.ino x)) passed.read ∙ numbers_met pick passed.met.ino f.entries in
      let there : is_among n (listed_numbers core pick done) ≡ true =
      among-flat (λ x. numbers (children core pick x)) passed.met n done passed.among (ap (is_among n) (kids ∙ sym (numbers_met pick m.ino f.entries)) ∙ h) in
      s.same n ∙ or_right (eqb 1 n) (is_among n (listed_numbers core pick done)) there

  none_added : files ≡ files ++ first_listed (numbers files) (map (met_in pick m.ino) f.entries)
  none_added = sym (ap (λ l. files ++ l) (none_new (numbers files) (map (met_in pick m.ino) f.entries) numbers_known) ∙ append-nil files)

  pub stands_again : Stands core pick (i + 1) files marks used (Some r)
  stands_again =
      let within = file_within core m f read in
      stands_more core pick i files files marks marks used used (Some r) (Some r) m f inside at read refl refl
      (record { pages = pages_marked; added = none_added; marked = s.marked; fit = within.numbers_below; some = within.numbers_some })
      (repeats_keep core pick done (m ∷ []) r.ino r.place s.once) s

  -- a page comes twice
  not_new : are_new [] (listed_pages core (done ++ m ∷ [])) ≡ false
  not_new =
      let some : 0 < index_count (block_count b.size) = index_some (block_count b.size) listed.some in
      let first = chain_head core (index_count (block_count b.size)) (block_count b.size) b.head old.chain some chain_is in
      let P : List ℕ = listed_pages core done in
      let rest : List ℕ = first.0 ++ f.chain.blocks in
      let pages_are : pages_of core m ≡ b.head ∷ rest = ap pages_in read ∙ ap (λ l. l ++ f.chain.blocks) first.1 in
      let more : listed_pages core (done ++ m ∷ []) ≡ P ++ b.head ∷ rest =
      flat_map-append (pages_of core) done (m ∷ []) ∙ ap (λ l. P ++ l) (append-nil (pages_of core m) ∙ pages_are) in
      let here : is_among b.head (f.chain.index ++ f.chain.blocks) ≡ true =
      ap (λ l. is_among b.head (l ++ f.chain.blocks)) first.1 ∙ or_left (eqb b.head b.head) (is_among b.head rest) (eq-eqb b.head b.head refl) in
      ap (are_new []) more ∙ repeat_not_new [] P b.head rest (pages_known b.head here)
    where
      index_some : (n : ℕ) → 0 < n → 0 < index_count n
      index_some n h = omega arith

  pub tabled_again : (owners : List ℕ) (rows : List (Option Row)) → Tabled core done owners rows → Tabled core (take (i + 1) files) owners (set rows m.ino (Some (row_by m b)))
  tabled_again owners rows t =
      let more : take (i + 1) files ≡ done ++ m ∷ [] = take_more files i m inside ∙ ap (λ x. done ++ x ∷ []) at in
      rw more (tabled_by core done m f owners owners rows read (next_is_new (children core pick) (root_of core) i files m s.queued inside at) (λ new. absurd (false≢true (sym not_new ∙ new))) refl t)

  -- what it lists has nothing that version 1 doesn't know, where the file passed has nothing
  pub known_again : (old : Bool) → AreOld old core done → (old ≡ true → b.guard ≡ false) → old ≡ true → is_ok (old_file_of core m) ≡ true
  known_again asked good unguarded it =
      let was : is_ok (old_file_of core passed.met) ≡ true = list_all-In (λ x. is_ok (old_file_of core x)) passed.met done (good it) passed.among in
      let none : new_place old ≡ None = old_ok-none old (new_place old) (ap is_ok (sym (old_file-read core passed.met old passed.read)) ∙ was) in
      let links = (new_place-none old.body.guard (first_link old.entries) none).1 in
      let still : new_place f ≡ None = ap (λ g. cond g (Some nowhere) (first_link old.entries)) (unguarded it) ∙ links in
      ap is_ok (old_file-none core m f read still)

  -- a guard alone is new
  pub guarded_again : b.guard ≡ true → old_file_of core m ≡ Err nowhere
  guarded_again guarded = old_file-some core m f nowhere read (ap (λ g. cond g (Some nowhere) (first_link old.entries)) guarded)

pub knows_again : (core : Core) (i : ℕ) (files : List Met) (heads : Heads) (m : Met) → i < length files → get_or files i m ≡ m → KnowsAllHeads core (take i files) heads → KnowsAllHeads core (take (i + 1) files) heads
knows_again core i files heads m inside at knows = λ kind.
    let more : take (i + 1) files ≡ take i files ++ m ∷ [] = take_more files i m inside ∙ ap (λ x. take i files ++ x ∷ []) at in
    rw more (knows_still core (take i files) kind (heads_of heads kind) m (knows kind))
