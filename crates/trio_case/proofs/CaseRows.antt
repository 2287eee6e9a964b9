-- What a bundle has under a number, and the rows that are copied for it.
use Rattle.trio_case.proofs.Words.{◌&&◌, ◌++◌, ◌+◌, ◌<◌, ◌||◌, ◌∙◌, ◌∷◌, ◌≡◌, ◌≤◌, Bool, Bundled, CaseShown, CoreRange, HoldParts, InoParts, IsCase, LentFile, List, None, Numbers, Option, Row, RowData, Some, Tells, Written, [], and_from, and_parts, ap, are_new, arith, as_row, body_lent, bundle_in, case_in, cases_eq, cases_lt, cond, copied_row, eqb, false, false≢true, find, get_or, inl, inr, is_among, is_directory, is_some, is_written, length, list_all, list_all-append, list_any, map, nat_le, nat_lt, nat_tests, option_and_then, option_copied, option_map, option_map_or, place_of, refl, row_in, slice_get, subst, suc, sym, tabulated-get, tabulated-length, true, written_in, zero, ℕ}
use Rattle.std.proofs.Common.{Bor, IsTrue, IsSome, IfSome}
use Rattle.std.specs.Prelude.{is_none}
use Rattle.std.proofs.lemmas.Bool.{le-leb}
use Rattle.std.proofs.lemmas.List.{ext_get_or}
use Rattle.std.proofs.lemmas.List.Folds.{list_any-append}
use Rattle.trio_rights.specs.declared.kind.Kind.{Kind}
use Rattle.trio_rights.proofs.KindFacts.{same_kind-true}
use Rattle.trio_lists.specs.Lists.{tabulated}
use Rattle.trio_lists.proofs.Marked.{are_new-append}
use Rattle.trio_lists.proofs.New.{are_new-fewer}
use Rattle.trio_layout.specs.Allowed.{has_kind}
use Rattle.trio_layout.specs.Case.{Held}
use Rattle.trio_case.specs.Cases.{held_in, is_free_number, lent_numbers, HasDirectoryParents, IsJudgeable}
use Rattle.trio_case.specs.inner.Memory.{NumbersDiffer}

-- ---- numbers

-- the numbers of the written files, in the words of the rules
pub writes_of : (k : CaseShown) → map (λ (w : Written). w.ino) (case_in k).bundle.writes ≡ map (λ (f : LentFile). f.stands.ino) k.bundle.writes
writes_of k = go k.bundle.writes
  where
    go : (fs : List LentFile) → map (λ (w : Written). w.ino) (map (λ f. written_in f.stands) fs) ≡ map (λ (f : LentFile). f.stands.ino) fs
    go [] = refl
    go (f ∷ fs) = ap (λ ns. f.stands.ino ∷ ns) (go fs)

found_or : {X : Type 0} (here : Bool) (x : X) (o : Option X) (t : Bool) → is_some o ≡ t → is_some (cond here (Some x) o) ≡ (here || t)
found_or true x o t h = refl
found_or false x o t h = h

body_or : (here : Bool) (h : HoldParts) (o : Option HoldParts) (t : Bool) → is_some (option_map (λ (x : HoldParts). x.body) o) ≡ t → is_some (option_map (λ (x : HoldParts). x.body) (cond here (Some h) o)) ≡ (here || t)
body_or true h o t e = refl
body_or false h o t e = e

lent_or : (here : Bool) (h : HoldParts) (o : Option HoldParts) (p : Option Held) → option_map_or (λ x. x) (option_map (λ (x : HoldParts). x.body) o) [] ≡ option_map_or (λ (x : Held). x.body) p [] → option_map_or (λ x. x) (option_map (λ (x : HoldParts). x.body) (cond here (Some h) o)) [] ≡ option_map_or (λ (x : Held). x.body) (cond here (Some (held_in h)) p) []
lent_or true h o p e = refl
lent_or false h o p e = e

pub written_is : (fs : List LentFile) (n : ℕ) → is_some (find (λ w. eqb w.ino n) (map (λ (f : LentFile). written_in f.stands) fs)) ≡ is_among n (map (λ (f : LentFile). f.stands.ino) fs)
written_is [] n = refl
written_is (f ∷ fs) n = found_or (eqb f.stands.ino n) _ _ _ (written_is fs n)

pub held_is : (hs : List HoldParts) (n : ℕ) → is_some (body_lent hs n) ≡ is_among n (map (λ (h : HoldParts). h.ino) hs)
held_is [] n = refl
held_is (h ∷ hs) n = body_or (eqb h.ino n) h _ _ (held_is hs n)

-- the body of a hold, looked up at its place
pub body_at : (hs : List HoldParts) (n : ℕ) → body_lent hs n ≡ option_map (λ (h : HoldParts). h.body) (option_and_then (slice_get hs) (place_of n (map (λ (h : HoldParts). h.ino) hs)))
body_at [] n = refl
body_at (h ∷ hs) n = by (eqb h.ino n) (body_at hs n)
  where
    later : (o : Option ℕ) → option_and_then (slice_get (h ∷ hs)) (option_map suc o) ≡ option_and_then (slice_get hs) o
    later None = refl
    later (Some i) = refl

    by : (b : Bool) → body_lent hs n ≡ option_map (λ (x : HoldParts). x.body) (option_and_then (slice_get hs) (place_of n (map (λ (x : HoldParts). x.ino) hs))) → option_map (λ (x : HoldParts). x.body) (cond b (Some h) (find (λ (x : HoldParts). eqb x.ino n) hs)) ≡ option_map (λ (x : HoldParts). x.body) (option_and_then (slice_get (h ∷ hs)) (cond b (Some 0) (option_map suc (place_of n (map (λ (x : HoldParts). x.ino) hs)))))
    by true e = refl
    by false e = e ∙ ap (option_map (λ (x : HoldParts). x.body)) (sym (later (place_of n (map (λ (x : HoldParts). x.ino) hs))))

-- what the numbers tell is what the bundle has
own_is : (t : Numbers) (b : Bundled) (n p : ℕ) → Tells t b → (is_among n t.writes || is_among n t.holds || is_among p t.writes) ≡ (is_written (bundle_in b) n || is_among n (bundle_in b).holds || is_written (bundle_in b) p)
own_is t b n p h =
    let here : is_among n t.writes ≡ is_written (bundle_in b) n = ap (is_among n) h.writes ∙ sym (written_is b.writes n) in
    let held : is_among n t.holds ≡ is_among n (bundle_in b).holds = ap (is_among n) h.holds in
    let above : is_among p t.writes ≡ is_written (bundle_in b) p = ap (is_among p) h.writes ∙ sym (written_is b.writes p) in
    rw (here, held, above) refl

pub copied_if : (t : Numbers) (b : Bundled) (n : ℕ) (r : RowData) (own : Bool) → Tells t b → own ≡ (is_among n t.writes || is_among n t.holds || is_among r.parent t.writes) → cond own (Some (as_row r)) None ≡ copied_row (bundle_in b) n (Some (as_row r))
copied_if t b n r own h e = ap (λ x. cond x (Some (as_row r)) None) (e ∙ own_is t b n r.parent h)

-- ---- rows of the bundle's own files

same_cond : {X : Type 0} (b : Bool) (o : Option X) → o ≡ None → cond b o None ≡ None
same_cond true o h = h
same_cond false o h = refl

or_parts : (a b : Bool) → (a || b) ≡ false → (a ≡ false) × (b ≡ false)
or_parts true b h = absurd cc
or_parts false b h = (refl, h)

or_from : (a b : Bool) → a ≡ false → b ≡ false → (a || b) ≡ false
or_from true b h k = absurd cc
or_from false b h k = k

-- the row, if the number has one, is a directory's
abbrev IsNoLeaf : List (Option Row) → ℕ → Type 0
IsNoLeaf rows p = (q : Row) → row_in rows p ≡ Some q → is_directory q.kind ≡ true

no_leaf : (kind : Kind) (rows : List (Option Row)) (n : ℕ) (o : Option Row) → row_in rows n ≡ o → has_kind kind o ≡ true → is_directory kind ≡ false → IsNoLeaf rows n → ⊥
no_leaf kind rows n None e a d h = false≢true a
no_leaf kind rows n (Some q) e a d h = false≢true (sym d ∙ ap is_directory (same_kind-true kind q.kind a) ∙ h q e)

other : (kind : Kind) (rows : List (Option Row)) (n p : ℕ) → has_kind kind (row_in rows n) ≡ true → is_directory kind ≡ false → IsNoLeaf rows p → eqb n p ≡ false
other kind rows n p a d h =
    elim (cases_eq n p) [
      | inl same ↦ absurd (no_leaf kind rows n (row_in rows n) refl a d (subst (IsNoLeaf rows) (sym same) h))
      | inr differ ↦ grind (arith, nat_tests)
    ]

-- what is no directory is no row's directory
no_child : (fs : List LentFile) (rows : List (Option Row)) (p : ℕ) → list_all (λ f. has_kind f.stands.kind (row_in rows f.stands.ino)) fs ≡ true → list_any (λ f. is_directory f.stands.kind) fs ≡ false → IsNoLeaf rows p → is_among p (map (λ (f : LentFile). f.stands.ino) fs) ≡ false
no_child [] rows p all none h = refl
no_child (f ∷ fs) rows p all none h =
    let a = and_parts (has_kind f.stands.kind (row_in rows f.stands.ino)) (list_all (λ g. has_kind g.stands.kind (row_in rows g.stands.ino)) fs) all in
    let d = or_parts (is_directory f.stands.kind) (list_any (λ g. is_directory g.stands.kind) fs) none in
    or_from (eqb f.stands.ino p) (is_among p (map (λ (g : LentFile). g.stands.ino) fs)) (other f.stands.kind rows f.stands.ino p a.0 d.0 h) (no_child fs rows p a.1 d.1 h)

last_false : (x y z : Bool) → z ≡ false → (x || y) ≡ (x || y || z)
last_false true y z h = refl
last_false false true z h = refl
last_false false false z h = sym h

own_row : (b : Bundled) (rows : List (Option Row)) (n : ℕ) (o : Option Row) → row_in rows n ≡ o → list_all (λ f. has_kind f.stands.kind (row_in rows f.stands.ino)) b.writes ≡ true → list_any (λ f. is_directory f.stands.kind) b.writes ≡ false → HasDirectoryParents rows → cond (is_among n (lent_numbers b)) o None ≡ copied_row (bundle_in b) n o
own_row b rows n None e all none parents = same_cond (is_among n (lent_numbers b)) None refl
own_row b rows n (Some r) e all none parents =
    let child : is_written (bundle_in b) r.parent ≡ false = written_is b.writes r.parent ∙ no_child b.writes rows r.parent all none (λ q. parents n r q e) in
    let own : is_among n (lent_numbers b) ≡ (is_written (bundle_in b) n || is_among n (bundle_in b).holds) =
    list_any-append (λ x. eqb x n) (map (λ (f : LentFile). f.stands.ino) b.writes) (map (λ (h : HoldParts). h.ino) b.holds) ∙ ap (λ x. x || is_among n (bundle_in b).holds) (sym (written_is b.writes n)) in
    ap (λ x. cond x (Some r) None) (own ∙ last_false (is_written (bundle_in b) n) (is_among n (bundle_in b).holds) (is_written (bundle_in b) r.parent) child)

-- what f gives of a number, looked up at its place
looked_up : {X : Type 0} (f : ℕ → Option X) (ns : List ℕ) (n : ℕ) → option_and_then (λ at. get_or (map f ns) at None) (place_of n ns) ≡ cond (is_among n ns) (f n) None
looked_up f [] n = refl
looked_up f (x ∷ xs) n = by (eqb x n) refl (looked_up f xs n)
  where
    later : (o : Option ℕ) → option_and_then (λ at. get_or (map f (x ∷ xs)) at None) (option_map suc o) ≡ option_and_then (λ at. get_or (map f xs) at None) o
    later None = refl
    later (Some i) = refl

    by : (b : Bool) → eqb x n ≡ b → option_and_then (λ at. get_or (map f xs) at None) (place_of n xs) ≡ cond (is_among n xs) (f n) None → option_and_then (λ at. get_or (map f (x ∷ xs)) at None) (cond b (Some 0) (option_map suc (place_of n xs))) ≡ cond (b || is_among n xs) (f n) None
    by true e h = let same : x ≡ n = grind (arith, nat_tests) in ap f same
    by false e h = later (place_of n xs) ∙ h

-- where no directory is written, the bundle's own rows are all that are copied
pub own_copied : (b : Bundled) (rows seen : List (Option Row)) (t : Numbers) → list_all (λ f. has_kind f.stands.kind (row_in rows f.stands.ino)) b.writes ≡ true → list_any (λ f. is_directory f.stands.kind) b.writes ≡ false → HasDirectoryParents rows → Tells t b → seen ≡ map (row_in rows) (lent_numbers b) → (n : ℕ) → option_and_then (λ at. get_or seen at None) (place_of n (t.writes ++ t.holds)) ≡ copied_row (bundle_in b) n (row_in rows n)
own_copied b rows seen t all none parents tells is n =
    let lent : t.writes ++ t.holds ≡ lent_numbers b = rw (tells.writes, tells.holds) refl in
    ap (λ xs. option_and_then (λ at. get_or xs at None) (place_of n (t.writes ++ t.holds))) is
    ∙ ap (λ ns. option_and_then (λ at. get_or (map (row_in rows) (lent_numbers b)) at None) (place_of n ns)) lent
    ∙ looked_up (row_in rows) (lent_numbers b) n
    ∙ own_row b rows n (row_in rows n) refl all none parents

-- ---- tables by number

pub tables-agree : {X : Type 0} (f g : ℕ → X) (m n k : ℕ) → tabulated f m ≡ tabulated g n → k < n → f k ≡ g k
tables-agree f g m n k e within =
    let size : m ≡ n = sym (tabulated-length f m) ∙ ap length e ∙ tabulated-length g n in
    sym (tabulated-get f m k (g k) (rw size within)) ∙ ap (λ l. get_or l k (g k)) e ∙ tabulated-get g n k (g k) within

pub tables-same : {X : Type 0} (f g : ℕ → X) (m n : ℕ) → m ≡ n → ((k : ℕ) → k < m → f k ≡ g k) → tabulated f m ≡ tabulated g n
tables-same f g zero n size h = ap (tabulated g) size
tables-same f g (suc m) n size h =
    ext_get_or (f 0) (tabulated f (suc m)) (tabulated g n) (tabulated-length f (suc m) ∙ size ∙ sym (tabulated-length g n))
    (λ k l.
    let within : k < suc m = rw (← tabulated-length f (suc m)) l in
    tabulated-get f (suc m) k (f 0) within ∙ h k within ∙ sym (tabulated-get g n k (f 0) (subst (λ x. k < x) size within)))

-- ---- a look-up

pub held_from : (o : Option (Bor (List ℕ))) (b : Option (List ℕ)) (t : Bool) → option_copied o ≡ b → is_some b ≡ t → (IsSome o → IsTrue t) × (IsTrue t → IsSome o)
held_from None b t e f = let no_body : is_some b ≡ false = ap is_some (sym e) in let none : t ≡ false = sym f ∙ no_body in rw none ((λ x. x), (λ x. x))
held_from (Some v) b t e f = let body : is_some b ≡ true = ap is_some (sym e) in let some : t ≡ true = sym f ∙ body in rw some ((λ x. refl), (λ x. refl))

pub body_from : (o : Option (Bor (List ℕ))) (b : Option (List ℕ)) → option_copied o ≡ b → IfSome o (λ v. v.now ≡ option_map_or (λ x. x) b [])
body_from None b e = tt
body_from (Some v) b e = rw (← e) refl

pub lent_is : (hs : List HoldParts) (n : ℕ) → option_map_or (λ x. x) (body_lent hs n) [] ≡ option_map_or (λ (h : Held). h.body) (find (λ (h : Held). eqb h.ino n) (map held_in hs)) []
lent_is [] n = refl
lent_is (h ∷ hs) n = lent_or (eqb h.ino n) h _ _ (lent_is hs n)

-- ---- what is true of a case

get_or_past : (rows : List (Option Row)) (n : ℕ) → length rows ≤ n → get_or rows n None ≡ None
get_or_past [] n h = refl
get_or_past (r ∷ rs) zero h = absurd (omega arith)
get_or_past (r ∷ rs) (suc n) h = get_or_past rs n (omega arith)

live_within : (kind : Kind) (rows : List (Option Row)) (n inodes : ℕ) → length rows ≡ inodes + 1 → has_kind kind (row_in rows n) ≡ true → n ≤ inodes
live_within kind rows n inodes len h = elim (cases_lt n (length rows)) [
  | inl within ↦ omega (arith, within, len)
  | inr past ↦ (let gone : row_in rows n ≡ None = get_or_past rows n past in let both : has_kind kind None ≡ true = ap (has_kind kind) (sym gone) ∙ h in absurd cc)
]

live_all : {X : Type 0} (kind : X → Kind) (ino : X → ℕ) (rows : List (Option Row)) (inodes : ℕ) (xs : List X) → length rows ≡ inodes + 1 → list_all (λ x. has_kind (kind x) (row_in rows (ino x))) xs ≡ true → list_all (λ n. nat_le n inodes) (map ino xs) ≡ true
live_all kind ino rows inodes [] len h = refl
live_all kind ino rows inodes (x ∷ xs) len h =
    let p = and_parts (has_kind (kind x) (row_in rows (ino x))) (list_all (λ y. has_kind (kind y) (row_in rows (ino y))) xs) h in
    and_from (nat_le (ino x) inodes) (list_all (λ n. nat_le n inodes) (map ino xs)) (le-leb (ino x) inodes (live_within (kind x) rows (ino x) inodes len p.0)) (live_all kind ino rows inodes xs len p.1)

free_all : (rows : List (Option Row)) (inodes : ℕ) (ns : List InoParts) → list_all (λ n. is_free_number rows inodes n.no) ns ≡ true → list_all (λ n. nat_lt 0 n.no && nat_le n.no inodes) ns ≡ true
free_all rows inodes [] h = refl
free_all rows inodes (n ∷ ns) h =
    let p = and_parts (is_free_number rows inodes n.no) (list_all (λ m. is_free_number rows inodes m.no) ns) h in
    let q = and_parts (nat_lt 0 n.no && nat_le n.no inodes) (is_none (row_in rows n.no)) p.0 in
    and_from (nat_lt 0 n.no && nat_le n.no inodes) (list_all (λ m. nat_lt 0 m.no && nat_le m.no inodes) ns) q.0 (free_all rows inodes ns p.1)

pub judgeable_case : (b : Bundled) (rows : List (Option Row)) (range : CoreRange) (inodes : ℕ) → IsJudgeable b rows range inodes → IsCase b range inodes
judgeable_case b rows range inodes h = record {
  core = h.core;
  pages = h.pages;
  first = h.first;
  once = h.once;
  lent =
      list_all-append (λ n. nat_le n inodes) (map (λ (f : LentFile). f.stands.ino) b.writes) (map (λ (x : HoldParts). x.ino) b.holds)
      ∙ and_from (list_all (λ n. nat_le n inodes) (map (λ (f : LentFile). f.stands.ino) b.writes)) (list_all (λ n. nat_le n inodes) (map (λ (x : HoldParts). x.ino) b.holds))
      (live_all (λ (f : LentFile). f.stands.kind) (λ (f : LentFile). f.stands.ino) rows inodes b.writes h.table h.written) (live_all (λ (x : HoldParts). x.kind) (λ (x : HoldParts). x.ino) rows inodes b.holds h.table h.held);
  numbers = free_all rows inodes b.inodes h.numbers;
  apart = h.apart;
}

-- the numbers of a bundle that is judged differ
pub numbers_differ : (b : Bundled) (rows : List (Option Row)) (range : CoreRange) (inodes : ℕ) → IsJudgeable b rows range inodes → NumbersDiffer b
numbers_differ b rows range inodes h =
    let writes = map (λ (f : LentFile). f.stands.ino) b.writes in
    let holds = map (λ (x : HoldParts). x.ino) b.holds in
    let both = and_parts (are_new [] writes) (are_new writes holds) (sym (are_new-append [] writes holds) ∙ h.once) in
    record { writes = both.0; holds = are_new-fewer [] writes holds (λ n i. absurd i) both.1; fresh = h.apart }
