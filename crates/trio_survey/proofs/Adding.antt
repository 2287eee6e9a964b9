-- One entry more of a directory: a file that is met for the first time, or again.
use Rattle.trio_survey.proofs.Words.{◌&&◌, ◌++◌, ◌+◌, ◌<◌, ◌∙◌, ◌∷◌, ◌≡◌, AreMarked, Bool, DirEntry, Grows, List, Listed, Location, Met, None, Option, Pick, Some, [], all_below, among-first_listed, and_parts, ap, append-nil, append_assoc, are_marked, arith, below_at, cond, drop, entry_seen, false, first_listed, flat_map, flat_map-append, get_or, get_or-map, is_among, length, length-map, list_all, list_all-append, ltb, map, map-append, map_push, met_in, numbers, option_or, place_of, refl, set, subst, suc, sym, take, take-append-drop, true, ℕ}
use Rattle.std.proofs.Common.{drop-cons}
use Rattle.std.proofs.lemmas.List.{length_push}
use Rattle.std.proofs.lemmas.List.Sums.{sum_by-set}
use Rattle.trio_layout.proofs.QueueLaws.{first_listed-append}
use Rattle.trio_lists.proofs.Marked.{MarksJust-set}
use Rattle.trio_survey.proofs.Naming.{blocks_left}
use Rattle.trio_survey.proofs.Repeats.{numbers_of, numbers_met, entry_marked, entry_unmarked}

listed_push : (old now ms : List Met) (m : Met) (b : Bool) → now ≡ old ++ first_listed (numbers old) ms → is_among m.ino (numbers now) ≡ b → now ++ cond b [] (m ∷ []) ≡ old ++ first_listed (numbers old) (ms ++ m ∷ [])
listed_push old now ms m b e among =
    let more = first_listed-append (numbers old) ms (m ∷ []) in
    let s : numbers old ++ numbers (first_listed (numbers old) ms) ≡ numbers now =
    sym (map-append (λ x. x.ino) old (first_listed (numbers old) ms)) ∙ ap numbers (sym e) in
    let last : first_listed (numbers old ++ numbers (first_listed (numbers old) ms)) (m ∷ []) ≡ cond b [] (m ∷ []) =
    rw (s, among) refl in
    ap (λ l. l ++ cond b [] (m ∷ [])) e ∙ append_assoc old (first_listed (numbers old) ms) (cond b [] (m ∷ [])) ∙ ap (λ l. old ++ (first_listed (numbers old) ms ++ l)) (sym last) ∙ ap (λ l. old ++ l) (sym more)

listed_again : (old now ms : List Met) (m : Met) → now ≡ old ++ first_listed (numbers old) ms → is_among m.ino (numbers now) ≡ true → now ≡ old ++ first_listed (numbers old) (ms ++ m ∷ [])
listed_again old now ms m e among = sym (append-nil now) ∙ listed_push old now ms m true e among

listed_first : (old now ms : List Met) (m : Met) → now ≡ old ++ first_listed (numbers old) ms → is_among m.ino (numbers now) ≡ false → now ++ m ∷ [] ≡ old ++ first_listed (numbers old) (ms ++ m ∷ [])
listed_first old now ms m e among = listed_push old now ms m false e among

-- a number is met exactly where it was met before or is listed by these entries
among_now : (pick : Pick) (d : ℕ) (old now : List Met) (es : List Listed) (n : ℕ) → now ≡ old ++ first_listed (numbers old) (map (met_in pick d) es) → is_among n (numbers old ++ numbers_of es) ≡ is_among n (numbers now)
among_now pick d old now es n e =
    let ms : List Met = map (met_in pick d) es in
    sym (ap (λ l. is_among n (numbers l)) e
    ∙ ap (is_among n) (map-append (λ (x : Met). x.ino) old (first_listed (numbers old) ms))
    ∙ among-first_listed n (numbers old) ms
    ∙ ap (λ l. is_among n (numbers old ++ l)) (numbers_met pick d es))

pub AreMarked-add : (files : List Met) (marks : List Bool) (m : Met) → m.ino < length marks → get_or marks m.ino false ≡ false → AreMarked files marks → AreMarked (files ++ m ∷ []) (set marks m.ino true)
AreMarked-add files marks m h e a =
    record {
      marked = rw (map_push (λ x. x.ino) files m) (MarksJust-set marks (numbers files) m.ino h a.marked);
      counted =
          let s = sum_by-set (λ b. cond b 1 0) marks m.ino true false h in
          let f : Bool → ℕ = λ b. cond b 1 0 in
          let z : f (get_or marks m.ino false) ≡ f false = ap f e in
          omega (arith, s, z, a.counted, length_push files m);
    }

-- an entry whose number was met
pub grows_again : (pick : Pick) (d : ℕ) (old now : List Met) (marks : List Bool) (first : Option Location) (es : List Listed) (e : Listed) (p : Location) → place_of e ≡ p → e.entry.ino < length marks → get_or marks e.entry.ino false ≡ true → Grows pick d old now marks first es → Grows pick d old now marks (option_or first (Some p)) (es ++ e ∷ [])
grows_again pick d old now marks first es e p place l t g =
    let ms : List Met = map (met_in pick d) es in
    let m : Met = met_in pick d e in
    let step : map (met_in pick d) (es ++ e ∷ []) ≡ ms ++ m ∷ [] = map_push (met_in pick d) es e in
    let among : is_among m.ino (numbers now) ≡ true = sym (g.marked.marked m.ino l) ∙ t in
    record {
      added = rw step (listed_again old now ms m g.added among);
      marked = g.marked;
      repeat = entry_marked (numbers old) es e p first place (among_now pick d old now es m.ino g.added ∙ among) g.repeat;
    }

-- and one whose number is new
pub grows_first : (pick : Pick) (d : ℕ) (old now : List Met) (marks : List Bool) (first : Option Location) (es : List Listed) (e : Listed) → e.entry.ino < length marks → get_or marks e.entry.ino false ≡ false → Grows pick d old now marks first es → Grows pick d old (now ++ met_in pick d e ∷ []) (set marks e.entry.ino true) first (es ++ e ∷ [])
grows_first pick d old now marks first es e l t g =
    let ms : List Met = map (met_in pick d) es in
    let m : Met = met_in pick d e in
    let step : map (met_in pick d) (es ++ e ∷ []) ≡ ms ++ m ∷ [] = map_push (met_in pick d) es e in
    let among : is_among m.ino (numbers now) ≡ false = sym (g.marked.marked m.ino l) ∙ t in
    record {
      added = rw step (listed_first old now ms m g.added among);
      marked = AreMarked-add now marks m l t g.marked;
      repeat = entry_unmarked (numbers old) es e first (among_now pick d old now es m.ino g.added ∙ among) g.repeat;
    }

pub entry_below : (n : ℕ) (entries : List DirEntry) (i : ℕ) (x : DirEntry) → i < length entries → get_or entries i x ≡ x → all_below n (map (λ (y : DirEntry). y.ino) entries) ≡ true → x.ino < n
entry_below n entries i x h at a =
    let l = below_at n (map (λ (y : DirEntry). y.ino) entries) i (omega (arith, length-map entries (λ (y : DirEntry). y.ino))) a in
    let e = get_or-map (λ (y : DirEntry). y.ino) entries i x 0 h ∙ ap (λ (y : DirEntry). y.ino) at in
    omega (arith, l, e)

below_rest : (n : ℕ) (l : DirEntry) (ls : List DirEntry) → all_below n (map (λ (x : DirEntry). x.ino) (l ∷ ls)) ≡ true → all_below n (map (λ (x : DirEntry). x.ino) ls) ≡ true
below_rest n l ls h = (and_parts (ltb l.ino n) (all_below n (map (λ (x : DirEntry). x.ino) ls)) h).1

-- an entry that is marked, and those behind it
pub rest_marked : (marks : List Bool) (es : List DirEntry) (i : ℕ) (l : DirEntry) → i < length es → l ≡ get_or es i l → get_or marks l.ino false ≡ true → are_marked marks (drop i es) ≡ are_marked marks (drop (i + 1) es)
rest_marked marks es i l h at m =
    let s : i + 1 ≡ suc i = omega arith in
    let rest : List DirEntry = drop (suc i) es in
    let step : drop i es ≡ l ∷ rest = drop-cons es i l h ∙ ap (λ x. x ∷ rest) (sym at) in
    rw s (ap (are_marked marks) step ∙ ap (λ b. b && are_marked marks rest) m)

or_twice : (first : Option Location) (p q : Location) → option_or (option_or first (Some p)) (Some q) ≡ option_or first (Some p)
or_twice None p q = refl
or_twice (Some r) p q = refl

-- entries whose numbers were all met, behind one that lists a number again
grows_rest : (pick : Pick) (d : ℕ) (old now : List Met) (marks : List Bool) (first : Option Location) (p : Location) (names : List (List ℕ)) (es : List Listed) (ls : List DirEntry) → all_below (length marks) (map (λ (l : DirEntry). l.ino) ls) ≡ true → are_marked marks ls ≡ true → Grows pick d old now marks (option_or first (Some p)) es → Grows pick d old now marks (option_or first (Some p)) (es ++ map (entry_seen names) ls)
grows_rest pick d old now marks first p names es [] fit met g = subst (λ xs. Grows pick d old now marks (option_or first (Some p)) xs) (sym (append-nil es)) g
grows_rest pick d old now marks first p names es (l ∷ ls) fit met g =
    let q : Location = record { page = l.page; slot = l.slot } in
    let e : Listed = entry_seen names l in
    let here : l.ino < length marks = entry_below (length marks) (l ∷ ls) 0 l (omega arith) refl fit in
    let marked = and_parts (get_or marks l.ino false) (are_marked marks ls) met in
    let more = grows_again pick d old now marks (option_or first (Some p)) es e q refl here marked.0 g in
    subst (λ xs. Grows pick d old now marks (option_or first (Some p)) xs) (append_assoc es (e ∷ []) (map (entry_seen names) ls))
    (grows_rest pick d old now marks first p names (es ++ e ∷ []) ls (below_rest (length marks) l ls fit) marked.1 (subst (λ o. Grows pick d old now marks o (es ++ e ∷ [])) (or_twice first p q) more))

-- entries whose numbers were all met
pub grows_known : (pick : Pick) (d : ℕ) (old now : List Met) (marks : List Bool) (first : Option Location) (names : List (List ℕ)) (es : List Listed) (ls : List DirEntry) (l : DirEntry) → 0 < length ls → l ≡ get_or ls 0 l → all_below (length marks) (map (λ (x : DirEntry). x.ino) ls) ≡ true → are_marked marks ls ≡ true → Grows pick d old now marks first es → Grows pick d old now marks (option_or first (Some (record { page = l.page; slot = l.slot }))) (es ++ map (entry_seen names) ls)
grows_known pick d old now marks first names es [] l some at fit met g = absurd (none some)
  where
    none : 0 < 0 → ⊥
    none h = omega arith
grows_known pick d old now marks first names es (x ∷ xs) l some at fit met g =
    let p : DirEntry → Location = λ y. record { page = y.page; slot = y.slot } in
    let e : Listed = entry_seen names x in
    let here : x.ino < length marks = entry_below (length marks) (x ∷ xs) 0 x (omega arith) refl fit in
    let marked = and_parts (get_or marks x.ino false) (are_marked marks xs) met in
    let one = grows_again pick d old now marks first es e (p x) refl here marked.0 g in
    let all = grows_rest pick d old now marks first (p x) names (es ++ e ∷ []) xs (below_rest (length marks) x xs fit) marked.1 one in
    subst (λ y. Grows pick d old now marks (option_or first (Some (p y))) (es ++ map (entry_seen names) (x ∷ xs))) (sym at)
    (subst (λ ls. Grows pick d old now marks (option_or first (Some (p x))) ls) (append_assoc es (e ∷ []) (map (entry_seen names) xs)) all)

-- before the first entry
pub grows_none : (pick : Pick) (d : ℕ) (old : List Met) (marks : List Bool) → AreMarked old marks → Grows pick d old old marks None []
grows_none pick d old marks m = record { added = sym (append-nil old); marked = m; repeat = refl }

-- the numbers of a list are those of each part of it
pub part_below : (n : ℕ) (g : ℕ → List Listed) (blocks : List ℕ) (i : ℕ) → i < length blocks → all_below n (numbers_of (flat_map g blocks)) ≡ true → all_below n (numbers_of (g (get_or blocks i 0))) ≡ true
part_below n g blocks i h a =
    let test : ℕ → Bool = λ x. ltb x n in
    let front : List Listed = flat_map g (take i blocks) in
    let here : List Listed = g (get_or blocks i 0) in
    let rest : List Listed = flat_map g (drop (i + 1) blocks) in
    let whole : flat_map g blocks ≡ front ++ (here ++ rest) =
    ap (flat_map g) (sym (take-append-drop i blocks)) ∙ flat_map-append g (take i blocks) (drop i blocks) ∙ ap (λ l. front ++ l) (blocks_left g blocks i h) in
    let parts = and_parts (list_all test (numbers_of front)) (list_all test (numbers_of (here ++ rest)))
    (sym (list_all-append test (numbers_of front) (numbers_of (here ++ rest))) ∙ ap (list_all test) (sym (ap numbers_of whole ∙ map-append (λ (l : Listed). l.entry.ino) front (here ++ rest))) ∙ a) in
    (and_parts (list_all test (numbers_of here)) (list_all test (numbers_of rest))
    (sym (list_all-append test (numbers_of here) (numbers_of rest)) ∙ ap (list_all test) (sym (map-append (λ (l : Listed). l.entry.ino) here rest)) ∙ parts.1)).0
