-- One step of a walk: what it comes to, and what it asks.
use Rattle.trio_walk.proofs.Words.{◌&&◌, ◌++◌, ◌+◌, ◌<◌, ◌||◌, ◌∙◌, ◌∷◌, ◌≡◌, ◌⊎◌, Bool, Creds, Denied, Err, Exists, GrantKind, Hold, HoldLease, HoldParts, In, IntoItself, IsDir, Lease, LentFile, List, MadeFile, Needed, NoInodes, NoSpace, Nodes, None, NotDir, NotEmpty, NotFound, Ok, Option, Path, Read, ReadLease, Result, SessionSeen, Shown, Some, TooLarge, TookLeases, Write, WriteLease, [], ap, append-nil, asked, asked_beside, cond, drop, enter, entered_needs, eqb, false, find, find-append, find_named, found_needs, get_or, held_file, inl, inr, is_some, kind_for, length, list_any, made_file, map, need_at, need_of, needs_from, not, open_kind, option_map, option_or, or-false, read_file, refl, served_by, serves, serves_need, suc, sym, take, take-suc, true, walk_from, with_lease, with_leases, written_file, ℕ, IsLink, NotLink}
use Rattle.std.proofs.Common.{add-one}
use Rattle.std.proofs.Math.Bool.{and-true, or_assoc}
use Rattle.std.proofs.Math.Seq.{drop-cons}
use Rattle.trio_lists.proofs.Marked.{and-false}
use Rattle.trio_nodes.specs.declared.call.Reply.{Reply}
use Rattle.trio_nodes.specs.declared.call.Reply.TheVariants.{Ok as Replied}

abbrev Reached : Type 0
Reached = Result ℕ Reply

-- ---- what serves

some_or : {X : Type 0} (a b : Option X) → is_some (option_or a b) ≡ (is_some a || is_some b)
some_or None b = refl
some_or (Some x) b = refl

some_map : {X Y : Type 0} (f : X → Y) (o : Option X) → is_some (option_map f o) ≡ is_some o
some_map f None = refl
some_map f (Some x) = refl

or_swap : (a b c : Bool) → ((a || b) || c) ≡ ((a || c) || b)
or_swap true b c = refl
or_swap false true true = refl
or_swap false true false = refl
or_swap false false true = refl
or_swap false false false = refl

-- one more at the end of a list is found, or what was
some_push : {X : Type 0} (p : X → Bool) (xs : List X) (x : X) → is_some (find p (xs ++ x ∷ [])) ≡ (is_some (find p xs) || p x)
some_push p xs x = ap is_some (find-append p xs (x ∷ [])) ∙ some_or (find p xs) (find p (x ∷ [])) ∙ ap (λ b. is_some (find p xs) || b) (by (p x))
  where
    by : (b : Bool) → is_some (cond b (Some x) None) ≡ b
    by true = refl
    by false = refl

-- a file is open that was made, or that is written
open_is : (s : SessionSeen) (n : ℕ) → is_some (open_kind s n) ≡ (is_some (made_file s n) || is_some (find (λ (f : LentFile). eqb f.stands.ino n) s.parcel.writes))
open_is s n =
    some_or (option_map (λ (m : MadeFile). m.kind) (made_file s n)) (option_map (λ (f : Shown). f.kind) (written_file s n))
    ∙ ap (λ b. b || is_some (option_map (λ (f : Shown). f.kind) (written_file s n))) (some_map (λ (m : MadeFile). m.kind) (made_file s n))
    ∙ ap (λ b. is_some (made_file s n) || b)
    (some_map (λ (f : Shown). f.kind) (written_file s n) ∙ some_map (λ (f : LentFile). f.stands) (find (λ (f : LentFile). eqb f.stands.ino n) s.parcel.writes))

-- each file that was lent for writing stands by the number by which it was lent
abbrev pub AreNumbered : List Lease → Type 0
AreNumbered more = (f : LentFile) → In (WriteLease f) more → f.stands.ino ≡ f.lent.ino

module _ (s : SessionSeen) (n : ℕ) where
  unserving : (a e : Bool) → a ≡ (a || (e && false))
  unserving a e = sym (ap (λ b. a || b) (and-false e) ∙ or-false a)

  open_more : (f : LentFile) → f.stands.ino ≡ f.lent.ino → is_some (open_kind (with_lease s (WriteLease f)) n) ≡ (is_some (open_kind s n) || eqb f.lent.ino n)
  open_more f e =
      let p : LentFile → Bool = λ (g : LentFile). eqb g.stands.ino n in
      let made : Bool = is_some (made_file s n) in
      open_is (with_lease s (WriteLease f)) n
      ∙ ap (λ b. made || b) (some_push p s.parcel.writes f ∙ ap (λ k. is_some (find p s.parcel.writes) || eqb k n) e)
      ∙ sym (or_assoc made (is_some (find p s.parcel.writes)) (eqb f.lent.ino n))
      ∙ ap (λ b. b || eqb f.lent.ino n) (sym (open_is s n))

  serves_one : (kind : GrantKind) (lease : Lease) → AreNumbered (lease ∷ []) → serves (with_lease s lease) n kind ≡ (serves s n kind || serves_need (record { ino = n; kind = kind }) (need_of lease))
  serves_one Write (WriteLease f) ok = open_more f (ok f (inl refl)) ∙ ap (λ b. is_some (open_kind s n) || b) (sym (and-true (eqb f.lent.ino n)))
  serves_one Read (WriteLease f) ok =
      ap (λ b. b || is_some (read_file s n)) (open_more f (ok f (inl refl)))
      ∙ or_swap (is_some (open_kind s n)) (eqb f.lent.ino n) (is_some (read_file s n))
      ∙ ap (λ b. (is_some (open_kind s n) || is_some (read_file s n)) || b) (sym (and-true (eqb f.lent.ino n)))
  serves_one Hold (WriteLease f) ok = unserving (serves s n Hold) (eqb f.lent.ino n)
  serves_one Write (ReadLease f) ok = unserving (serves s n Write) (eqb f.ino n)
  serves_one Read (ReadLease f) ok =
      let p : Shown → Bool = λ (g : Shown). eqb g.ino n in
      ap (λ b. is_some (open_kind s n) || b) (some_push p s.reads f)
      ∙ sym (or_assoc (is_some (open_kind s n)) (is_some (read_file s n)) (eqb f.ino n))
      ∙ ap (λ b. (is_some (open_kind s n) || is_some (read_file s n)) || b) (sym (and-true (eqb f.ino n)))
  serves_one Hold (ReadLease f) ok = unserving (serves s n Hold) (eqb f.ino n)
  serves_one Write (HoldLease h) ok = unserving (serves s n Write) (eqb h.ino n)
  serves_one Read (HoldLease h) ok = unserving (serves s n Read) (eqb h.ino n)
  serves_one Hold (HoldLease h) ok =
      let p : HoldParts → Bool = λ (g : HoldParts). eqb g.ino n in
      ap (λ b. is_some (made_file s n) || b) (some_push p s.parcel.holds h)
      ∙ sym (or_assoc (is_some (made_file s n)) (is_some (held_file s n)) (eqb h.ino n))
      ∙ ap (λ b. (is_some (made_file s n) || is_some (held_file s n)) || b) (sym (and-true (eqb h.ino n)))

serves_many : (more : List Lease) (s : SessionSeen) (n : ℕ) (kind : GrantKind) → AreNumbered more → serves (with_leases s more) n kind ≡ (serves s n kind || list_any (serves_need (record { ino = n; kind = kind })) (map need_of more))
serves_many [] s n kind ok = sym (or-false (serves s n kind))
serves_many (lease ∷ more) s n kind ok =
    let need : Needed = record { ino = n; kind = kind } in
    serves_many more (with_lease s lease) n kind (λ f i. ok f (inr i))
    ∙ ap (λ b. b || list_any (serves_need need) (map need_of more)) (serves_one s n kind lease (λ f i. elim i [ inl e ↦ ok f (inl e) | inr none ↦ absurd none ]))
    ∙ or_assoc (serves s n kind) (serves_need need (need_of lease)) (list_any (serves_need need) (map need_of more))

serves_same : (x : SessionSeen) (s' : SessionSeen) (n : ℕ) (kind : GrantKind) → s' ≡ record x { indexed = s'.indexed; finds = s'.finds; room = s'.room } → serves s' n kind ≡ serves x n kind
serves_same x s' n Write e = ap (λ (y : SessionSeen). serves y n Write) e
serves_same x s' n Read e = ap (λ (y : SessionSeen). serves y n Read) e
serves_same x s' n Hold e = ap (λ (y : SessionSeen). serves y n Hold) e

-- what a session serves that took more leases
pub served_more : (s s' : SessionSeen) (more : List Lease) → TookLeases s more s' → AreNumbered more → (n : ℕ) (kind : GrantKind)
    → serves s' n kind ≡ (serves s n kind || list_any (serves_need (record { ino = n; kind = kind })) (map need_of more))
served_more s s' more took ok n kind = serves_same (with_leases s more) s' n kind took.same ∙ serves_many more s n kind ok

-- so it is where each file that was lent for writing stands as it was lent
pub served_by-took : (s s' : SessionSeen) (more : List Lease) → TookLeases s more s' → ((f : LentFile) → In (WriteLease f) more → f.stands ≡ f.lent)
    → (n : Needed) → served_by s' n ≡ (served_by s n || list_any (serves_need n) (map need_of more))
served_by-took s s' more took as_lent n = served_more s s' more took (λ f i. ap (λ (x : Shown). x.ino) (as_lent f i)) n.ino n.kind

-- ---- the grants of one directory

module _ (shown : Bool) (ino : ℕ) (kind : GrantKind) where
  abbrev n : Needed
  n = record { ino = ino; kind = kind }

  -- a refusal needs the same, whatever would come
  pub err_needs : (r : Reply) (f : ℕ → List Needed) → entered_needs shown ino kind (Err r) f ≡ entered_needs shown ino kind (Err r) (λ d. [])
  err_needs Denied f = refl
  err_needs (Replied a) f = refl
  err_needs NotFound f = refl
  err_needs Exists f = refl
  err_needs NotDir f = refl
  err_needs IsDir f = refl
  err_needs NotEmpty f = refl
  err_needs IntoItself f = refl
  err_needs (NoSpace w k) f = refl
  err_needs (NoInodes w k) f = refl
  err_needs TooLarge f = refl
  err_needs IsLink f = refl
  err_needs NotLink f = refl

  one_if : (b : Bool) → (cond b [] (n ∷ []) ≡ []) ⊎ (cond b [] (n ∷ []) ≡ n ∷ [])
  one_if true = inl refl
  one_if false = inr refl

  one_or_none : (r : Reached) → (entered_needs shown ino kind r (λ d. []) ≡ []) ⊎ (entered_needs shown ino kind r (λ d. []) ≡ n ∷ [])
  one_or_none (Ok d) = inr refl
  one_or_none (Err Denied) = one_if (true && (shown || not (eqb ino 1)))
  one_or_none (Err (Replied a)) = inl refl
  one_or_none (Err NotFound) = inl refl
  one_or_none (Err Exists) = inl refl
  one_or_none (Err NotDir) = inl refl
  one_or_none (Err IsDir) = inl refl
  one_or_none (Err NotEmpty) = inl refl
  one_or_none (Err IntoItself) = inl refl
  one_or_none (Err (NoSpace w k)) = inl refl
  one_or_none (Err (NoInodes w k)) = inl refl
  one_or_none (Err TooLarge) = inl refl
  one_or_none (Err IsLink) = inl refl
  one_or_none (Err NotLink) = inl refl

  module _ (s0 s : SessionSeen) (got : List Needed) (serve : serves s ino kind ≡ (serves s0 ino kind || list_any (serves_need n) got)) where
    -- asked beside what was got, or of the session that has it
    asked_one : asked_beside (served_by s0) got (n ∷ []) ≡ asked (served_by s) (n ∷ [])
    asked_one = ap (λ b. cond b [] (n ∷ [])) (sym serve ∙ sym (or-false (serves s ino kind)))

    asked_same : (ns : List Needed) → (ns ≡ []) ⊎ (ns ≡ n ∷ []) → asked_beside (served_by s0) got ns ≡ asked (served_by s) ns
    asked_same ns (inl e) = ap (asked_beside (served_by s0) got) e ∙ sym (ap (asked (served_by s)) e)
    asked_same ns (inr e) = ap (asked_beside (served_by s0) got) e ∙ asked_one ∙ sym (ap (asked (served_by s)) e)

    pub asked_here : (r : Reached) → asked_beside (served_by s0) got (entered_needs shown ino kind r (λ d. [])) ≡ asked (served_by s) (entered_needs shown ino kind r (λ d. []))
    asked_here r = asked_same (entered_needs shown ino kind r (λ d. [])) (one_or_none r)

    -- the first of what is asked
    first_of : (b : Bool) (ns : List Needed) → (rest : List Needed) × (cond b (asked_beside (served_by s0) got ns) (n ∷ asked_beside (served_by s0) (got ++ n ∷ []) ns) ≡ cond b [] (n ∷ []) ++ rest)
    first_of true ns = (asked_beside (served_by s0) got ns, refl)
    first_of false ns = (asked_beside (served_by s0) (got ++ n ∷ []) ns, refl)

    pub first_asked : (r : Reached) (f : ℕ → List Needed) → (rest : List Needed) × (asked_beside (served_by s0) got (entered_needs shown ino kind r f) ≡ asked_beside (served_by s0) got (entered_needs shown ino kind r (λ d. [])) ++ rest)
    first_asked (Ok d) f = first_of (serves s0 ino kind || list_any (serves_need n) got) (f d)
    first_asked (Err r) f = ([], ap (asked_beside (served_by s0) got) (err_needs r f) ∙ sym (append-nil (asked_beside (served_by s0) got (entered_needs shown ino kind (Err r) (λ d. [])))))

    -- what is asked after it
    after_by : (b : Bool) (ns those : List Needed) → cond b [] (n ∷ []) ≡ those → cond b (asked_beside (served_by s0) got ns) (n ∷ asked_beside (served_by s0) (got ++ n ∷ []) ns) ≡ those ++ asked_beside (served_by s0) (got ++ those) ns
    after_by true ns those e =
        let F : List Needed → List Needed = λ q. q ++ asked_beside (served_by s0) (got ++ q) ns in
        let none : asked_beside (served_by s0) got ns ≡ F [] = ap (λ g. asked_beside (served_by s0) g ns) (sym (append-nil got)) in
        none ∙ ap F e
    after_by false ns those e = (let F : List Needed → List Needed = λ q. q ++ asked_beside (served_by s0) (got ++ q) ns in ap F e)

    pub asked_after : (ns those : List Needed) → asked (served_by s) (n ∷ []) ≡ those → asked_beside (served_by s0) got (n ∷ ns) ≡ those ++ asked_beside (served_by s0) (got ++ those) ns
    asked_after ns those e = after_by (serves s0 ino kind || list_any (serves_need n) got) ns those (asked_one ∙ e)

-- ---- the walk

module _ (now : Nodes) (creds : Creds) (shown : Bool) (writes : List Path) (path : Path) (i at : ℕ) (d : List ℕ) (lt : i < length path) where
  abbrev name : List ℕ
  name = get_or path i d

  abbrev rest : Path
  rest = drop (suc i) path

  -- what is left is this name and the rest
  names : drop i path ≡ get_or path i d ∷ drop (suc i) path
  names = drop-cons path i d lt

  abbrev pub later : ℕ → List Needed
  later dir = found_needs (find_named now dir (get_or path i d)) (λ child. needs_from now creds shown writes (take i path ++ get_or path i d ∷ []) child (drop (suc i) path))

  pub needs_are : needs_from now creds shown writes (take i path) at (drop i path) ≡ entered_needs shown at (kind_for (need_at writes (take i path))) (enter now creds (need_at writes (take i path)) at) (λ dir. found_needs (find_named now dir (get_or path i d)) (λ child. needs_from now creds shown writes (take i path ++ get_or path i d ∷ []) child (drop (suc i) path)))
  needs_are = ap (needs_from now creds shown writes (take i path) at) names

  pub stopped : (reply : Reply) → enter now creds (need_at writes (take i path)) at ≡ Err reply → walk_from now creds writes (take i path) at (drop i path) ≡ Err reply
  stopped reply p = rw (names, p) refl

  pub lost : (dir : ℕ) → enter now creds (need_at writes (take i path)) at ≡ Ok dir → find_named now dir (get_or path i d) ≡ None → walk_from now creds writes (take i path) at (drop i path) ≡ Err NotFound
  lost dir p q = rw (names, p, q) refl

  pub onward : (dir child : ℕ) → enter now creds (need_at writes (take i path)) at ≡ Ok dir → find_named now dir (get_or path i d) ≡ Some child → walk_from now creds writes (take (i + 1) path) child (drop (i + 1) path) ≡ walk_from now creds writes (take i path) at (drop i path)
  onward dir child p q = rw (add-one, take-suc path i d lt) (sym (rw (names, p, q) refl))

  pub needs_lost : (dir : ℕ) → enter now creds (need_at writes (take i path)) at ≡ Ok dir → find_named now dir (get_or path i d) ≡ None → needs_from now creds shown writes (take i path) at (drop i path) ≡ record { ino = at; kind = kind_for (need_at writes (take i path)) } ∷ []
  needs_lost dir p q = needs_are ∙ rw (p, q) refl

  pub needs_onward : (dir child : ℕ) → enter now creds (need_at writes (take i path)) at ≡ Ok dir → find_named now dir (get_or path i d) ≡ Some child → needs_from now creds shown writes (take i path) at (drop i path) ≡ record { ino = at; kind = kind_for (need_at writes (take i path)) } ∷ needs_from now creds shown writes (take (i + 1) path) child (drop (i + 1) path)
  needs_onward dir child p q = rw (add-one, take-suc path i d lt) (needs_are ∙ rw (p, q) refl)
