-- All rows one at a time, and the rule.
use Rattle.trio_edges.proofs.Words.{◌<◌, ◌∙◌, ◌≡◌, In, In-map, ListedFile, Some, [], and_parts, ap, arith, as_row, climbs_clear, comes_to_root, eqb, false, get_or, inr, is_among, is_clear, is_listed, length, list_all, map, nat_tests, not, option_map, refl, row_in, stays_listed, sym, true, ℕ}
use Rattle.std.proofs.Common.{◌≤◌, ◌+◌, ◌-◌, ltb, zero, suc, cond, Bool, ◌&&◌, ◌||◌, List, ◌∷◌, Option, None, is_some, inl}
use Rattle.std.specs.List.{find, list_any}
use Rattle.std.proofs.lemmas.List.{get_or_past}
use Rattle.std.proofs.lemmas.Bool.{cases_Bool, cases_eq, and_left, and_right, and_from, or_left, or_right, false≢true}
use Rattle.trio_rights.specs.ByKind.{is_directory}
use Rattle.trio_lists.proofs.Members.{In-is_among, list_all-each, list_all-In}
use Rattle.trio_lists.proofs.Filters.{In-list_any, list_any-In, list_any-map}
use Rattle.trio_layout.specs.Allowed.{all_up_to}
use Rattle.trio_rights.specs.Row.{Row, is_child}
use Rattle.trio_layout.specs.Listing.{Listing, ListedEntry}
use Rattle.trio_layout.specs.Edges.{has_file, keeps_children, leaves_none, meets_edges}
use Rattle.trio_layout.specs.Broken.{BreaksEdges}
use Rattle.trio_edges.specs.inner.Steps.{drops_parent, IsLost}
use Rattle.trio_case.specs.declared.listing.ListedFile.{ListedFile as FileData}
use Rattle.trio_edges.specs.Leaves.{DataFilesAreLeaves}

all_up : (p : ℕ → Bool) (n : ℕ) → ((k : ℕ) → p k ≡ true) → all_up_to p n ≡ true
all_up p zero h = refl
all_up p (suc n) h = and_from (all_up_to p n) (p (suc n)) (all_up p n h) (h (suc n))

none_child : (n : ℕ) (rows : List (Option Row)) → ((i : ℕ) → is_child n (get_or rows i None) ≡ false) → list_any (is_child n) rows ≡ false
none_child n [] h = refl
none_child n (r ∷ rs) h =
    let first : is_child n r ≡ false = h 0 in
    rw first (none_child n rs (λ i. h (suc i)))

child_at : (n : ℕ) (rows : List (Option Row)) (i : ℕ) → is_child n (get_or rows i None) ≡ true → list_any (is_child n) rows ≡ true
child_at n [] i h = absurd (false≢true h)
child_at n (r ∷ rs) zero h = or_left (is_child n r) (list_any (is_child n) rs) h
child_at n (r ∷ rs) (suc i) h = or_right (is_child n r) (list_any (is_child n) rs) (child_at n rs i h)

-- each number is neither lost nor dropped by its parent
abbrev pub AllClear : Listing → List (Option Row) → Type 0
AllClear l rows = (n : ℕ) → is_clear l rows n ≡ true

pub clear_keeps : (l : Listing) (rows : List (Option Row)) → AllClear l rows → keeps_children l rows ≡ true
clear_keeps l rows h =
    all_up (λ n. stays_listed l n (row_in rows n)) (length rows) (λ n. (and_parts (stays_listed l n (row_in rows n)) (not (drops_parent l (row_in rows n))) (h n)).0)

dropped : (l : Listing) (n : ℕ) (o : Option Row) → is_among n l.held ≡ true → is_listed l n ≡ false → is_child n o ≡ true → drops_parent l o ≡ true
dropped l n None a b c = absurd (false≢true c)
dropped l n (Some r) a b c =
    let same : r.parent ≡ n = grind (arith, nat_tests) in
    and_from (is_among r.parent l.held) (not (is_listed l r.parent)) (ap (λ m. is_among m l.held) same ∙ a) (ap (λ m. not (is_listed l m)) same ∙ ap not b)

not_both : (b : Bool) → not b ≡ true → b ≡ true → ⊥
not_both true h k = false≢true h
not_both false h k = false≢true k

leaves_at : (l : Listing) (rows : List (Option Row)) (n : ℕ) → AllClear l rows → is_among n l.held ≡ true → leaves_none l rows n ≡ true
leaves_at l rows n h a =
    elim (cases_Bool (is_listed l n)) [
      | inl listed ↦ or_left (is_listed l n) (not (list_any (is_child n) rows)) listed
      | inr unlisted ↦
          let none : list_any (is_child n) rows ≡ false = none_child n rows (λ i.
          elim (cases_Bool (is_child n (get_or rows i None))) [
            | inl child ↦ absurd (not_both (drops_parent l (row_in rows i)) (and_parts (stays_listed l i (row_in rows i)) (not (drops_parent l (row_in rows i))) (h i)).1 (dropped l n (row_in rows i) a unlisted child))
            | inr other ↦ other
          ]) in
          or_right (is_listed l n) (not (list_any (is_child n) rows)) (ap not none)
    ]

pub clear_leaves : (l : Listing) (rows : List (Option Row)) → AllClear l rows → list_all (leaves_none l rows) l.held ≡ true
clear_leaves l rows h = list_all-each (leaves_none l rows) l.held (λ n i. leaves_at l rows n h (In-is_among n l.held i))

-- a number past the rows is clear
no_row : (l : Listing) (n : ℕ) (o : Option Row) → o ≡ None → (stays_listed l n o && not (drops_parent l o)) ≡ true
no_row l n None e = refl
no_row l n (Some r) e = absurd cc

pub clear_none : (l : Listing) (rows : List (Option Row)) (n : ℕ) → row_in rows n ≡ None → is_clear l rows n ≡ true
clear_none l rows n e = no_row l n (row_in rows n) e

-- whether a number is listed, by the directory that lists it first
pub listed_dir : (l : Listing) (n : ℕ) → is_listed l n ≡ is_some (option_map (λ (e : ListedEntry). e.dir) (find (λ (e : ListedEntry). eqb e.ino n) l.entries))
listed_dir l n = go l.entries
  where
    go : (es : List ListedEntry) → list_any (λ (e : ListedEntry). eqb e.ino n) es ≡ is_some (option_map (λ (e : ListedEntry). e.dir) (find (λ (e : ListedEntry). eqb e.ino n) es))
    go [] = refl
    go (e ∷ es) = step (eqb e.ino n) e es (go es)
      where
        step : (b : Bool) (e : ListedEntry) (es : List ListedEntry) → list_any (λ (x : ListedEntry). eqb x.ino n) es ≡ is_some (option_map (λ (x : ListedEntry). x.dir) (find (λ (x : ListedEntry). eqb x.ino n) es)) → (b || list_any (λ (x : ListedEntry). eqb x.ino n) es) ≡ is_some (option_map (λ (x : ListedEntry). x.dir) (cond b (Some e) (find (λ (x : ListedEntry). eqb x.ino n) es)))
        step true e es h = refl
        step false e es h = h

-- a held file that is listed nowhere leaves this child
pub leaves_child : (l : Listing) (rows : List (Option Row)) (i : ℕ) (r : Row) → row_in rows i ≡ Some r → is_listed l r.parent ≡ false → leaves_none l rows r.parent ≡ false
leaves_child l rows i r e unlisted =
    let same : eqb r.parent r.parent ≡ true = grind (arith, nat_tests) in
    let child : is_child r.parent (row_in rows i) ≡ true = ap (is_child r.parent) e ∙ same in
    let any : list_any (is_child r.parent) rows ≡ true = child_at r.parent rows i child in
    rw (unlisted, any) refl

-- the row is clear
pub clear_row : (l : Listing) (rows : List (Option Row)) (i : ℕ) (r : Row) → row_in rows i ≡ Some r → stays_listed l i (Some r) ≡ true → drops_parent l (Some r) ≡ false → is_clear l rows i ≡ true
clear_row l rows i r e a b = rw (e, a, b) refl

-- one step of a climb that goes on
pub one_step : (parent : ℕ → ℕ) (directory left at next : ℕ) → 0 < left → eqb at 1 ≡ false → eqb at directory ≡ false → next ≡ parent at → climbs_clear parent directory (left - 1) next ≡ climbs_clear parent directory left at
one_step parent directory zero at next h a b e = absurd (omega arith)
one_step parent directory (suc k) at next h a b e =
    let less : suc k - 1 ≡ k = omega arith in
    rw (less, a, b, e) refl

-- the clauses of the whole rule
pub meets_all : (a b d : Bool) → a ≡ true → b ≡ true → d ≡ true → (a && b && d) ≡ true
meets_all a b d e f g = rw (e, f, g) refl

pub not_not : (b : Bool) → not (not b) ≡ b
not_not true = refl
not_not false = refl

pub none_listed : (some none listed among : Bool) → some ≡ not none → listed ≡ some → true ≡ among → none ≡ (among && not listed)
none_listed some none listed among a b d =
    sym (ap (λ x. x && not listed) (sym d) ∙ ap not (b ∙ a) ∙ not_not none)

pub stays_so : (lost stays : Bool) → lost ≡ not stays → lost ≡ false → stays ≡ true
stays_so lost stays a b = sym (not_not stays) ∙ ap not (sym a ∙ b)

pub clear_more : (l : Listing) (rows : List (Option Row)) (ino : ℕ) → ((n : ℕ) → n < ino → is_clear l rows n ≡ true) → is_clear l rows ino ≡ true → (n : ℕ) → n < ino + 1 → is_clear l rows n ≡ true
clear_more l rows ino below here n h =
    elim (cases_eq n ino) [
      | inl same ↦ ap (is_clear l rows) same ∙ here
      | inr differ ↦ below n (omega (arith, differ))
    ]

all_up_fails : (p : ℕ → Bool) (n k : ℕ) → 0 < k → k ≤ n → p k ≡ false → all_up_to p n ≡ false
all_up_fails p zero k h l e = absurd (omega arith)
all_up_fails p (suc n) k h l e =
    elim (cases_eq k (suc n)) [
      | inl same ↦ and_right (all_up_to p n) (p (suc n)) (ap p (sym same) ∙ e)
      | inr differ ↦ and_left (all_up_to p n) (p (suc n)) (all_up_fails p n k h (omega (arith, differ)) e)
    ]

all_fails : {X : Type 0} (p : X → Bool) (x : X) (xs : List X) → In x xs → p x ≡ false → list_all p xs ≡ false
all_fails p x [] h e = absurd h
all_fails p x (y ∷ ys) (inl h) e = and_left (p y) (list_all p ys) (ap p (sym h) ∙ e)
all_fails p x (y ∷ ys) (inr h) e = and_right (p y) (list_all p ys) (all_fails p x ys h e)

stays_past : (l : Listing) (rows : List (Option Row)) (n : ℕ) → stays_listed l n (row_in rows n) ≡ false → n < length rows
stays_past l rows n e =
    elim (cases_Bool (ltb n (length rows))) [
      | inl less ↦ grind (arith, nat_tests)
      | inr more ↦
          let past : length rows ≤ n = grind (arith, nat_tests) in
          absurd (false≢true (sym e ∙ ap (stays_listed l n) (get_or_past rows n None past)))
    ]

-- where the rule is broken at a number it doesn't hold
pub breaks_not : (l : Listing) (rows : List (Option Row)) (ino : ℕ) → BreaksEdges l rows ino → meets_edges l rows ≡ false
breaks_not l rows ino (inl h) =
    let within = stays_past l rows ino h.1 in
    and_left (keeps_children l rows && list_all (leaves_none l rows) l.held) (list_all (comes_to_root l rows) l.entries)
    (and_left (keeps_children l rows) (list_all (leaves_none l rows) l.held) (all_up_fails (λ n. stays_listed l n (row_in rows n)) (length rows) ino h.0 (omega (arith, within)) h.1))
breaks_not l rows ino (inr (inl h)) =
    and_left (keeps_children l rows && list_all (leaves_none l rows) l.held) (list_all (comes_to_root l rows) l.entries)
    (and_right (keeps_children l rows) (list_all (leaves_none l rows) l.held) (all_fails (leaves_none l rows) ino l.held h.0 h.1))
breaks_not l rows ino (inr (inr h)) =
    and_right (keeps_children l rows && list_all (leaves_none l rows) l.held) (list_all (comes_to_root l rows) l.entries)
    (all_fails (comes_to_root l rows) h.0 l.entries h.1 h.3)

pub lost_breaks : (l : Listing) (rows : List (Option Row)) (ino : ℕ) → IsLost l rows ino → meets_edges l rows ≡ false
lost_breaks l rows ino (inl h) = breaks_not l rows ino (inl h)
lost_breaks l rows ino (inr h) = breaks_not l rows ino (inr (inl h))

-- ---- no file is held, and no judged file is a directory

-- none of these files is a directory
abbrev AreData : List ListedFile → Type 0
AreData fs = list_any (λ (f : ListedFile). is_directory f.row.kind) fs ≡ false

-- then no row names a judged file for its parent
no_parent : (l : Listing) (rows : List (Option Row)) (n : ℕ) (r : Row) → DataFilesAreLeaves l rows → AreData l.files → row_in rows n ≡ Some r → has_file l r.parent ≡ true → ⊥
no_parent l rows n r leaves none here has =
    let found = list_any-In (λ (f : ListedFile). eqb f.ino r.parent) l.files has in
    let f : ListedFile = found.0 in
    let plain : is_directory f.row.kind ≡ false = elim (cases_Bool (is_directory f.row.kind)) [
      | inl lists ↦ absurd (false≢true (sym none ∙ In-list_any (λ (x : ListedFile). is_directory x.row.kind) f l.files found.1 lists))
      | inr not_one ↦ not_one
    ] in
    let same : f.ino ≡ r.parent = let e = found.2 in grind (arith, nat_tests, e) in
    let child : is_child f.ino (row_in rows n) ≡ true = let e : eqb r.parent f.ino ≡ true = grind (arith, nat_tests) in ap (is_child f.ino) here ∙ e in
    false≢true (sym (leaves f found.1 plain n) ∙ child)

plain_row : (l : Listing) (rows : List (Option Row)) (n : ℕ) (o : Option Row) → row_in rows n ≡ o → l.held ≡ [] → DataFilesAreLeaves l rows → AreData l.files → (stays_listed l n o && not (drops_parent l o)) ≡ true
plain_row l rows n None here none leaves data_files = refl
plain_row l rows n (Some r) here none leaves data_files =
    let has : has_file l r.parent ≡ false = elim (cases_Bool (has_file l r.parent)) [
      | inl has ↦ absurd (no_parent l rows n r leaves data_files here has)
      | inr other ↦ other
    ] in
    rw (has, none) refl

pub plain_clear : (l : Listing) (rows : List (Option Row)) → l.held ≡ [] → DataFilesAreLeaves l rows → AreData l.files → (n : ℕ) → is_clear l rows n ≡ true
plain_clear l rows none leaves data_files = λ n. plain_row l rows n (row_in rows n) refl none leaves data_files

-- whether a directory is among the files, in the words of the listing
pub directory-seen : (fs : List FileData) (ls : List ListedFile) → map (λ (f : FileData). as_row f.row) fs ≡ map (λ (f : ListedFile). f.row) ls → list_any (λ (f : ListedFile). is_directory f.row.kind) ls ≡ list_any (λ (f : FileData). is_directory f.row.kind) fs
directory-seen fs ls e =
    sym (list_any-map (λ (f : ListedFile). f.row) (λ (r : Row). is_directory r.kind) ls)
    ∙ ap (list_any (λ (r : Row). is_directory r.kind)) (sym e)
    ∙ list_any-map (λ (f : FileData). as_row f.row) (λ (r : Row). is_directory r.kind) fs
