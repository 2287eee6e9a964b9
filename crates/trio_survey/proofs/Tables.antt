-- The tables after one file more, and as whole lists.
use Rattle.trio_survey.proofs.Words.{◌++◌, ◌+◌, ◌<◌, ◌∙◌, ◌∷◌, ◌≡◌, ◌≤◌, Bool, Core, FileRead, List, Met, None, Ok, Option, Pick, Row, Some, Tabled, [], all_below, all_some, and_from, and_parts, ap, append-nil, are_new, are_new-append, arith, below_at, cases_eq, children, cond, drop, drop_more, eqb, false, false≢true, file_of, first_listed, flat_map-append, get_or, get_or-map, get_or-set_other, get_or-set_same, get_or_default, inl, inr, is_among, is_among-append, length, length-map, length-set, list_all, listed_pages, ltb, map-append, nat_tests, not, numbers, option_and_then, or_cases, owners_table, pages_in, pages_of, queue, refl, root_of, row_by, rows_table, set, suc, sym, take, take-append-le, take_more, true, zero, ℕ}
use Rattle.std.specs.List.{find}
use Rattle.std.proofs.lemmas.List.{same_lists}
use Rattle.std.proofs.lemmas.Bool.{or_parts}
use Rattle.trio_lists.specs.Lists.{tabulated}
use Rattle.trio_layout.specs.Survey.{row_of, row_read, owner_of}
use Rattle.trio_layout.proofs.QueueLaws.{met_by, queue_distinct}
use Rattle.trio_survey.specs.inner.Walk.{Entered, owner_in}
use Rattle.trio_survey.proofs.CorePages.{file_in_core, listed_not_below}
use Rattle.trio_lists.proofs.Tabulated.{tabulated-length, tabulated-get}

not_is : (b : Bool) → not b ≡ true → b ≡ false
not_is true e = absurd (false≢true e)
not_is false e = refl

-- a number that is new stands nowhere before
new_not_before : (p : ℕ) (seen xs : List ℕ) → are_new seen xs ≡ true → is_among p xs ≡ true → is_among p seen ≡ false
new_not_before p seen [] h e = absurd (false≢true e)
new_not_before p seen (x ∷ xs) h e =
    let parts = and_parts (not (is_among x seen)) (are_new (seen ++ x ∷ []) xs) h in
    elim (or_cases (eqb x p) (is_among p xs) e) [
      | inl here ↦ let s : x ≡ p = grind (arith, nat_tests) in ap (λ k. is_among k seen) (sym s) ∙ not_is (is_among x seen) parts.0
      | inr later ↦
          let r = new_not_before p (seen ++ x ∷ []) xs parts.1 later in
          (or_parts (is_among p seen) (is_among p (x ∷ [])) (sym (is_among-append p seen (x ∷ [])) ∙ r)).0
    ]

owner_other : (core : Core) (done : List Met) (m : Met) (p : ℕ) → is_among p (pages_of core m) ≡ false → owner_of core (done ++ m ∷ []) p ≡ owner_of core done p
owner_other core [] m p e = rw e refl
owner_other core (x ∷ xs) m p e =
    ap (λ r. cond (is_among p (pages_of core x)) x.ino r) (owner_other core xs m p e)

owner_here : (core : Core) (done : List Met) (m : Met) (p : ℕ) → is_among p (listed_pages core done) ≡ false → is_among p (pages_of core m) ≡ true → owner_of core (done ++ m ∷ []) p ≡ m.ino
owner_here core [] m p n e = rw e refl
owner_here core (x ∷ xs) m p n e =
    let parts = or_parts (is_among p (pages_of core x)) (is_among p (listed_pages core xs)) (sym (is_among-append p (pages_of core x) (listed_pages core xs)) ∙ n) in
    rw parts.0 (owner_here core xs m p parts.1 e)

abbrev row_found : Core → Option Met → Option Row
row_found core o = option_and_then (λ m. row_read m (file_of core m)) o

row_step : (core : Core) (b : Bool) (x : Met) (xs ys : List Met) (n : ℕ) → row_of core ys n ≡ row_of core xs n → row_found core (cond b (Some x) (find (λ m. eqb m.ino n) ys)) ≡ row_found core (cond b (Some x) (find (λ m. eqb m.ino n) xs))
row_step core true x xs ys n e = refl
row_step core false x xs ys n e = e

row_other : (core : Core) (done : List Met) (m : Met) (n : ℕ) → eqb m.ino n ≡ false → row_of core (done ++ m ∷ []) n ≡ row_of core done n
row_other core [] m n e = rw e refl
row_other core (x ∷ xs) m n e = row_step core (eqb x.ino n) x xs (xs ++ m ∷ []) n (row_other core xs m n e)

row_here : (core : Core) (done : List Met) (m : Met) (n : ℕ) → is_among n (numbers done) ≡ false → eqb m.ino n ≡ true → row_of core (done ++ m ∷ []) n ≡ row_read m (file_of core m)
row_here core [] m n a e = rw e refl
row_here core (x ∷ xs) m n a e =
    let parts = or_parts (eqb x.ino n) (is_among n (numbers xs)) a in rw parts.0 (row_here core xs m n parts.1 e)

owned_cond : (b : Bool) (a x y : ℕ) → (b ≡ true → x ≡ a) → (b ≡ false → x ≡ y) → x ≡ cond b a y
owned_cond true a x y p q = p refl
owned_cond false a x y p q = q refl

-- the tables after one file more, whose pages are new or are not asked
pub tabled_by : (core : Core) (done : List Met) (m : Met) (f : FileRead) (owners owners' : List ℕ) (rows : List (Option Row)) → file_of core m ≡ Ok f → is_among m.ino (numbers done) ≡ false → (are_new [] (listed_pages core (done ++ m ∷ [])) ≡ true → (p : ℕ) → p < length owners' → get_or owners' p 0 ≡ cond (is_among p (f.chain.index ++ f.chain.blocks)) m.ino (get_or owners p 0)) → length owners' ≡ length owners → Tabled core done owners rows → Tabled core (done ++ m ∷ []) owners' (set rows m.ino (Some (row_by m f.body)))
tabled_by core done m f owners owners' rows read first owned len t =
    let P : List ℕ = listed_pages core done in
    let X : List ℕ = f.chain.index ++ f.chain.blocks in
    let row : Option Row = Some (row_by m f.body) in
    let pages_are : pages_of core m ≡ X = ap pages_in read in
    let P_more : listed_pages core (done ++ m ∷ []) ≡ P ++ X =
    flat_map-append (pages_of core) done (m ∷ []) ∙ ap (λ l. P ++ l) (append-nil (pages_of core m) ∙ pages_are) in
    record {
      each_page = λ new p l.
          let parts = and_parts (are_new [] P) (are_new P X) (sym (are_new-append [] P X) ∙ ap (are_new []) (sym P_more) ∙ new) in
          let l' : p < length owners = omega (arith, len) in
          let was = t.each_page parts.0 p l' in
          owned new p l
          ∙ sym (owned_cond (is_among p X) m.ino (owner_in core (done ++ m ∷ []) p) (get_or owners p 0)
          (λ among. ap (λ b. cond b 0xFFFFFFFF (owner_of core (done ++ m ∷ []) p)) (listed_not_below core.range p X (file_in_core core m f read) among)
          ∙ owner_here core done m p (new_not_before p P X parts.1 among) (ap (is_among p) pages_are ∙ among))
          (λ apart. ap (λ o. cond (ltb p core.range.first) 0xFFFFFFFF o) (owner_other core done m p (ap (is_among p) pages_are ∙ apart)) ∙ sym was));
      each_file = λ n l.
          let l' : n < length rows = omega (arith, length-set rows m.ino row) in
          elim (cases_eq n m.ino) [
            | inl same ↦
                let eq : eqb m.ino n ≡ true = grind (arith, nat_tests) in
                let inside : m.ino < length rows = omega arith in
                ap (λ k. get_or (set rows m.ino row) k None) same
                ∙ get_or-set_same rows m.ino row None inside
                ∙ sym (row_here core done m n (ap (λ k. is_among k (numbers done)) same ∙ first) eq ∙ ap (row_read m) read)
            | inr differ ↦
                let neq : eqb m.ino n ≡ false = grind (arith, nat_tests) in
                get_or-set_other rows m.ino n row None differ ∙ t.each_file n l' ∙ sym (row_other core done m n neq)
          ];
      many_owners = len ∙ t.many_owners;
      many_rows = length-set rows m.ino row ∙ t.many_rows;
    }

tabled_more : (core : Core) (done : List Met) (m : Met) (f : FileRead) (owners owners' : List ℕ) (rows rows' : List (Option Row)) → file_of core m ≡ Ok f → is_among m.ino (numbers done) ≡ false → Entered m f.body f.chain owners owners' rows rows' → Tabled core done owners rows → Tabled core (done ++ m ∷ []) owners' rows'
tabled_more core done m f owners owners' rows rows' read first e t =
    rw e.rowed (tabled_by core done m f owners owners' rows read first (λ new. e.owned) e.many_owners t)

-- the next file's number is not among those passed
pub next_is_new : (kids : Met → List Met) (root : Met) (i : ℕ) (files : List Met) (m : Met) → queue kids root i ≡ record { passed = take i files; level = drop i files } → i < length files → get_or files i m ≡ m → is_among m.ino (numbers (take i files)) ≡ false
next_is_new kids root i files m q h at =
    let rest : drop i files ≡ m ∷ drop (i + 1) files = drop_more files i m h ∙ ap (λ x. x ∷ drop (i + 1) files) at in
    let all = sym (ap (λ f. are_new [] (numbers (met_by f))) q) ∙ queue_distinct kids root i in
    let split : are_new [] (numbers (take i files) ++ m.ino ∷ numbers (drop (i + 1) files)) ≡ true =
    ap (are_new []) (sym (map-append (λ x. x.ino) (take i files) (drop i files) ∙ ap (λ l. numbers (take i files) ++ numbers l) rest)) ∙ all in
    let parts = and_parts (are_new [] (numbers (take i files))) _ (sym (are_new-append [] (numbers (take i files)) (m.ino ∷ numbers (drop (i + 1) files))) ∙ split) in
    not_is (is_among m.ino (numbers (take i files))) (and_parts (not (is_among m.ino (numbers (take i files)))) _ parts.1).0

-- a test of each number holds of the first listed too
all_step : (q : ℕ → Bool) (b : Bool) (seen : List ℕ) (m : Met) (ms : List Met) → q m.ino ≡ true → list_all q (numbers (first_listed seen ms)) ≡ true → list_all q (numbers (first_listed (seen ++ m.ino ∷ []) ms)) ≡ true → list_all q (numbers (cond b (first_listed seen ms) (m ∷ first_listed (seen ++ m.ino ∷ []) ms))) ≡ true
all_step q true seen m ms l a r = a
all_step q false seen m ms l a r = and_from (q m.ino) _ l r

pub all_first : (q : ℕ → Bool) (seen : List ℕ) (ms : List Met) → list_all q (numbers ms) ≡ true → list_all q (numbers (first_listed seen ms)) ≡ true
all_first q seen [] h = refl
all_first q seen (m ∷ ms) h =
    let parts = and_parts (q m.ino) (list_all q (numbers ms)) h in
    all_step q (is_among m.ino seen) seen m ms parts.0 (all_first q seen ms parts.1) (all_first q (seen ++ m.ino ∷ []) ms parts.1)

pub met_below : (n : ℕ) (files : List Met) (i : ℕ) (m : Met) → i < length files → get_or files i m ≡ m → all_below n (numbers files) ≡ true → m.ino < n
met_below n files i m h at a =
    let l = below_at n (numbers files) i (omega (arith, length-map files (λ (x : Met). x.ino))) a in
    let e = get_or-map (λ (x : Met). x.ino) files i m 0 h ∙ ap (λ (x : Met). x.ino) at in
    omega (arith, l, e)

some_at : (ns : List ℕ) (i : ℕ) → i < length ns → all_some ns ≡ true → 0 < get_or ns i 0
some_at [] i h a = omega arith
some_at (n ∷ ns) zero h a =
    let t : ltb 0 n ≡ true = (and_parts (ltb 0 n) (all_some ns) a).0 in
    grind (arith, nat_tests)
some_at (n ∷ ns) (suc i) h a = some_at ns i (omega arith) (and_parts (ltb 0 n) (all_some ns) a).1

pub met_some : (files : List Met) (i : ℕ) (m : Met) → i < length files → get_or files i m ≡ m → all_some (numbers files) ≡ true → 0 < m.ino
met_some files i m h at a =
    let l = some_at (numbers files) i (omega (arith, length-map files (λ (x : Met). x.ino))) a in
    let e = get_or-map (λ (x : Met). x.ino) files i m 0 h ∙ ap (λ (x : Met). x.ino) at in
    omega (arith, l, e)

-- the files passed, with one more
pub taken_after : (i : ℕ) (files files' new : List Met) (m : Met) → i < length files → get_or files i m ≡ m → files' ≡ files ++ new → take (i + 1) files' ≡ take i files ++ m ∷ []
taken_after i files files' new m h at added =
    let room : i + 1 ≤ length files = omega arith in
    ap (take (i + 1)) added ∙ take-append-le (i + 1) files new room ∙ take_more files i m h ∙ ap (λ x. take i files ++ x ∷ []) at

pub tabled_after : (core : Core) (pick : Pick) (i : ℕ) (files files' new : List Met) (m : Met) (f : FileRead) (owners owners' : List ℕ) (rows rows' : List (Option Row)) → i < length files → get_or files i m ≡ m → file_of core m ≡ Ok f → queue (children core pick) (root_of core) i ≡ record { passed = take i files; level = drop i files } → files' ≡ files ++ new → Entered m f.body f.chain owners owners' rows rows' → Tabled core (take i files) owners rows → Tabled core (take (i + 1) files') owners' rows'
tabled_after core pick i files files' new m f owners owners' rows rows' h at read q added e t =
    rw (taken_after i files files' new m h at added) (tabled_more core (take i files) m f owners owners' rows rows' read (next_is_new (children core pick) (root_of core) i files m q h at) e t)

-- ---- whole tables

last_of : {X : Type 0} (xs : List X) (x d : X) → get_or (xs ++ x ∷ []) (length xs) d ≡ x
last_of [] x d = refl
last_of (y ∷ ys) x d = last_of ys x d

is_tabulated : {X : Type 0} (f : ℕ → X) (xs : List X) (n : ℕ) (d : X) → length xs ≡ n → ((k : ℕ) → k < length xs → get_or xs k d ≡ f k) → xs ≡ tabulated f n
is_tabulated f xs n d len each =
    same_lists xs (tabulated f n) (len ∙ sym (tabulated-length f n))
    (λ k e h. get_or_default xs k e d h ∙ each k h ∙ sym (tabulated-get f n k e (omega (arith, len))))

pub length-rows_table : (core : Core) (files : List Met) → length (rows_table core files) ≡ core.inodes + 1
length-rows_table core files = tabulated-length (row_of core files) (core.inodes + 1)

pub length-owners_table : (core : Core) (files : List Met) → length (owners_table core files) ≡ core.range.end
length-owners_table core files = tabulated-length (owner_in core files) core.range.end

pub rows_are : (core : Core) (files : List Met) (owners : List ℕ) (rows : List (Option Row)) → Tabled core files owners rows → rows ≡ rows_table core files
rows_are core files owners rows t = is_tabulated (row_of core files) rows (core.inodes + 1) None t.many_rows t.each_file

pub owners_are : (core : Core) (files : List Met) (owners : List ℕ) (rows : List (Option Row)) → are_new [] (listed_pages core files) ≡ true → Tabled core files owners rows → owners ≡ owners_table core files
owners_are core files owners rows new t = is_tabulated (owner_in core files) owners core.range.end 0 t.many_owners (t.each_page new)
