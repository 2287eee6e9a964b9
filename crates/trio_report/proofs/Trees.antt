-- The lines of files that wait, and how many visits they take.
use Rattle.std.proofs.Common.{◌≡◌, ℕ, suc, zero, ◌+◌, ◌-◌, ◌<◌, ◌≤◌, ltb, Bool, true, false, List, [], ◌∷◌, ◌++◌, All, map, reverse, length, take, Option, Some, Result, Ok, Err, refl, sym, ap, ◌∙◌, append_assoc, arith}
use Rattle.std.specs.List.{flat_map, sum_by}
use Rattle.std.proofs.lemmas.Bool.{ltb-true, ltb-false}
use Rattle.std.proofs.lemmas.List.{append-nil, reverse-append, reverse-reverse, take_all}
use Rattle.std.proofs.lemmas.List.Concat.{flat_map-append}
use Rattle.std.proofs.lemmas.List.Elements.{All-append, All-cons, All-map, All-nil, All-pop}
use Rattle.std.proofs.lemmas.List.Sorted.{IsPermutation-reverse, All-permutation, sum_by-IsPermutation}
use Rattle.std.proofs.lemmas.List.Sums.{sum_by-append, sum_by-cons, sum_by_push}
use Rattle.trio_layout.specs.Core.{Core, Location}
use Rattle.trio_layout.specs.Entries.{Listed}
use Rattle.trio_layout.specs.Survey.{Met, FileRead, file_of, met_in, plain, root_of}
use Rattle.trio_survey.specs.declared.file.EntryRead.{EntryRead}
use Rattle.trio_layout.specs.declared.superblock.Superblock.{Superblock}
use Rattle.trio_survey.specs.Seen.{core_with, listed_seen}
use Rattle.trio_survey.proofs.Roots.{file_rootless}
use Rattle.trio_survey.specs.Stored.{core_in}
use Rattle.trio_layout.specs.Tree.{TreeLine, by_name, told_line, lines_from, lines_with, tree_of}
use Rattle.trio_report.proofs.ByName.{map-reverse}
use Rattle.trio_report.specs.inner.Nodes.{Node, child_of, children_of, below, Visited}

abbrev node_lines : Core → Node → List TreeLine
node_lines core n = lines_from core (core.inodes + 1 - n.depth) n.depth n.name n.met

-- the lines of files that wait, from the last to the first
abbrev pub waiting_lines : Core → List Node → List TreeLine
waiting_lines core ns = flat_map (node_lines core) (reverse ns)

-- no file is deeper than the number of inode numbers
abbrev pub AreReached : Core → List Node → Type 0
AreReached core ns = All (λ n. n.depth ≤ core.inodes) ns

-- ---- their lines

abbrev nothing : Listed → List TreeLine
nothing l = []

flat_map-nothing : (ls : List Listed) → flat_map nothing ls ≡ []
flat_map-nothing [] = refl
flat_map-nothing (l ∷ ls) = flat_map-nothing ls

flat_map-map : {X Y Z : Type 0} (f : Y → List Z) (g : X → Y) (xs : List X) → flat_map f (map g xs) ≡ flat_map (λ x. f (g x)) xs
flat_map-map f g [] = refl
flat_map-map f g (x ∷ xs) = ap (λ l. f (g x) ++ l) (flat_map-map f g xs)

waiting-append : (core : Core) (old new : List Node) → waiting_lines core (old ++ new) ≡ waiting_lines core new ++ waiting_lines core old
waiting-append core old new =
    ap (flat_map (node_lines core)) (reverse-append old new) ∙ flat_map-append (node_lines core) (reverse new) (reverse old)

lines_of_node : (core : Core) (n : Node) → n.depth ≤ core.inodes → node_lines core n ≡ lines_with (λ l. node_lines core (child_of n l)) n.depth n.name n.met.kind (file_of core n.met)
lines_of_node core n reached =
    let here : core.inodes + 1 - n.depth ≡ suc (core.inodes - n.depth) = omega arith in
    let there : core.inodes + 1 - (n.depth + 1) ≡ core.inodes - n.depth = omega arith in
    rw (here, there) refl

lines_below : (core : Core) (n : Node) (f : FileRead) → n.depth ≤ core.inodes → flat_map (λ l. node_lines core (child_of n l)) (by_name f.entries) ≡ waiting_lines core (below core.inodes n f)
lines_below core n f reached = by (ltb n.depth core.inodes) refl
  where
    ls : List Listed
    ls = by_name f.entries

    by : (t : Bool) → ltb n.depth core.inodes ≡ t → flat_map (λ l. node_lines core (child_of n l)) (by_name f.entries) ≡ waiting_lines core (below core.inodes n f)
    by true is = rw (is, reverse-reverse (map (child_of n) (by_name f.entries))) (sym (flat_map-map (node_lines core) (child_of n) (by_name f.entries)))
    by false is =
        let last : core.inodes + 1 - (n.depth + 1) ≡ 0 = omega (arith, ltb-false n.depth core.inodes is) in
        rw (is, last) (flat_map-nothing (by_name f.entries))

told_more : (a b c : List TreeLine) (t : TreeLine) → (a ++ t ∷ []) ++ (b ++ c) ≡ a ++ (((t ∷ b) ++ []) ++ c)
told_more a b c t = rw (append-nil b, append_assoc a (t ∷ []) (b ++ c)) refl

step_lines : (core : Core) (n : Node) (r : Result FileRead Location) (old new : List Node) (told told' : List TreeLine) → n.depth ≤ core.inodes
    → node_lines core n ≡ lines_with (λ l. node_lines core (child_of n l)) n.depth n.name n.met.kind r
    → Visited core.inodes n r old new told told' → told' ++ waiting_lines core new ≡ told ++ waiting_lines core (old ++ n ∷ [])
step_lines core n (Err place) old new told told' reached e v = rw (v.0, v.1, waiting-append core old (n ∷ []), e) refl
step_lines core n (Ok f) old new told told' reached e v =
    rw (v.0, v.1, waiting-append core old (n ∷ []), waiting-append core old (below core.inodes n f), e, ← lines_below core n f reached)
    (told_more told (flat_map (λ l. node_lines core (child_of n l)) (by_name f.entries)) (waiting_lines core old) (told_line n.depth n.name n.met.kind f))

-- ---- how many visits they take

abbrev visits_with : (Listed → ℕ) → Result FileRead Location → ℕ
visits_with f (Err place) = 0
visits_with f (Ok r) = sum_by f (by_name r.entries)

-- a file and all that is below it, so many levels down
abbrev visits_from : Core → ℕ → Met → ℕ
visits_from core zero m = 0
visits_from core (suc levels) m = suc (visits_with (λ l. visits_from core levels (met_in plain m.ino l)) (file_of core m))

abbrev node_visits : Core → Node → ℕ
node_visits core n = visits_from core (core.inodes + 1 - n.depth) n.met

abbrev pub waiting_visits : Core → List Node → ℕ
waiting_visits core ns = sum_by (node_visits core) ns

sum_by-map : {X Y : Type 0} (f : Y → ℕ) (g : X → Y) (xs : List X) → sum_by f (map g xs) ≡ sum_by (λ x. f (g x)) xs
sum_by-map f g [] = refl
sum_by-map f g (x ∷ xs) = sum_by-cons f (g x) (map g xs) ∙ ap (λ k. f (g x) + k) (sum_by-map f g xs) ∙ sym (sum_by-cons (λ y. f (g y)) x xs)

visits_of_node : (core : Core) (n : Node) → n.depth ≤ core.inodes → node_visits core n ≡ suc (visits_with (λ l. node_visits core (child_of n l)) (file_of core n.met))
visits_of_node core n reached =
    let here : core.inodes + 1 - n.depth ≡ suc (core.inodes - n.depth) = omega arith in
    let there : core.inodes + 1 - (n.depth + 1) ≡ core.inodes - n.depth = omega arith in
    rw (here, there) refl

visits_below : (core : Core) (n : Node) (f : FileRead) → waiting_visits core (below core.inodes n f) ≤ sum_by (λ l. node_visits core (child_of n l)) (by_name f.entries)
visits_below core n f = by (ltb n.depth core.inodes) refl
  where
    by : (t : Bool) → ltb n.depth core.inodes ≡ t → waiting_visits core (below core.inodes n f) ≤ sum_by (λ l. node_visits core (child_of n l)) (by_name f.entries)
    by true is =
        let cs : List Node = map (child_of n) (by_name f.entries) in
        let turned : sum_by (node_visits core) (reverse cs) ≡ sum_by (node_visits core) cs = sum_by-IsPermutation (node_visits core) cs (reverse cs) (IsPermutation-reverse cs) in
        rw (is, turned, sum_by-map (node_visits core) (child_of n) (by_name f.entries)) (omega arith)
    by false is = rw is (omega arith)

step_visits : (core : Core) (n : Node) (r : Result FileRead Location) (old new : List Node) (told told' : List TreeLine)
    → node_visits core n ≡ suc (visits_with (λ l. node_visits core (child_of n l)) r)
    → Visited core.inodes n r old new told told' → waiting_visits core new < waiting_visits core (old ++ n ∷ [])
step_visits core n (Err place) old new told told' e v = rw v.0 (omega (arith, e, sum_by_push (node_visits core) old n))
step_visits core n (Ok f) old new told told' e v =
    rw v.0 (omega (arith, e, visits_below core n f, sum_by_push (node_visits core) old n, sum_by-append (node_visits core) old (below core.inodes n f)))

-- ---- how deep they are

reached_below : (core : Core) (n : Node) (f : FileRead) → AreReached core (below core.inodes n f)
reached_below core n f = by (ltb n.depth core.inodes) refl
  where
    by : (t : Bool) → ltb n.depth core.inodes ≡ t → AreReached core (below core.inodes n f)
    by true is =
        let cs : List Node = map (child_of n) (by_name f.entries) in
        let each : AreReached core cs = All-map (λ m. m.depth ≤ core.inodes) (child_of n) (by_name f.entries) (λ k d within. omega (arith, ltb-true n.depth core.inodes is)) in
        rw is (All-permutation (λ m. m.depth ≤ core.inodes) cs (reverse cs) (IsPermutation-reverse cs) each)
    by false is = rw is (λ k d within. absurd (omega (arith, within)))

step_reached : (core : Core) (n : Node) (r : Result FileRead Location) (old new : List Node) (told told' : List TreeLine)
    → AreReached core old → Visited core.inodes n r old new told told' → AreReached core new
step_reached core n (Err place) old new told told' all v = rw v.0 all
step_reached core n (Ok f) old new told told' all v =
    rw v.0 (All-append (λ m. m.depth ≤ core.inodes) old (below core.inodes n f) all (reached_below core n f))

-- ---- one visit, and all of them

pub record Stepped (core : Core) (before new : List Node) (told told' : List TreeLine) : Type 0 where
  pub lines : told' ++ waiting_lines core new ≡ told ++ waiting_lines core before
  pub fewer : waiting_visits core new < waiting_visits core before
  pub reached : AreReached core new

pub stepped : (core : Core) (n : Node) (before old new : List Node) (told told' : List TreeLine) → before ≡ old ++ n ∷ [] → AreReached core before
    → Visited core.inodes n (file_of core n.met) old new told told' → Stepped core before new told told'
stepped core n before old new told told' e all v =
    let parts = All-pop (λ m. m.depth ≤ core.inodes) before old (Some n) e all in
    record {
      lines = rw e (step_lines core n (file_of core n.met) old new told told' parts.1 (lines_of_node core n parts.1) v);
      fewer = rw e (step_visits core n (file_of core n.met) old new told told' (visits_of_node core n parts.1) v);
      reached = step_reached core n (file_of core n.met) old new told told' parts.0 v;
    }

-- the files that a directory lists, once all of them wait
pub children_wait : (n : Node) (old new : List Node) (es sorted : List EntryRead) (i : ℕ) → length sorted ≤ i → new ≡ old ++ map (child_of n) (map listed_seen (take i sorted))
    → map listed_seen sorted ≡ reverse (by_name (map listed_seen es)) → new ≡ old ++ children_of n (map listed_seen es)
children_wait n old new es sorted i all e s =
    rw (take_all i sorted all, s, map-reverse (child_of n) (by_name (map listed_seen es))) at e

-- what holds before the first visit
pub record Begun (core : Core) (ns : List Node) (told : List TreeLine) : Type 0 where
  pub lines : told ++ waiting_lines core ns ≡ tree_of core
  pub reached : AreReached core ns

-- the root alone waits
pub begun : (core : Core) (n : Node) (ns : List Node) (told : List TreeLine) → ns ≡ n ∷ [] → told ≡ [] → n.depth ≡ 0 → n.name ≡ 47 ∷ [] → n.met ≡ root_of core → Begun core ns told
unfolding tree_of
begun core n ns told one none d e m =
    let levels : core.inodes + 1 - 0 ≡ suc core.inodes = omega arith in
    let first : n.depth ≤ core.inodes = omega arith in
    record {
      lines = rw (one, none, d, e, m, levels) (append-nil _);
      reached = rw one (All-cons (λ k. k.depth ≤ core.inodes) n [] first (All-nil (λ k. k.depth ≤ core.inodes)));
    }

-- one visit at home, where the body of the root isn't asked for
pub visited_at_home : (s : Superblock) (start pages : List (Option (List ℕ))) (n : Node) (before old new : List Node) (told told' : List TreeLine) → pages ≡ start
    → before ≡ old ++ n ∷ [] → AreReached (core_in s start) before
    → Visited s.inodes n (file_of (core_with pages (record { first = s.first_core; end = s.pages }) s.inodes) n.met) old new told told' → Stepped (core_in s start) before new told told'
visited_at_home s start pages n before old new told told' same e all v =
    stepped (core_in s start) n before old new told told' e all (rw (file_rootless (core_in s start) n.met, ← same) v)
