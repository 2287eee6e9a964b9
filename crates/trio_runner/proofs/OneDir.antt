-- Two tries of alike sessions of one call on a directory come to the same.
use Rattle.trio_runner.proofs.Words.{◌&&◌, ◌++◌, ◌∙◌, ◌∷◌, ◌≡◌, ◌≢◌, Allot, Applied, Ask, AskedBy, Bool, Busy, Call, ComesBy, Creds, DirTried, Directory, Err, Given, Grant, GrantKind, In, In-right, IsAlike, IsDone, Kind, Known, LibNo, Link, List, Mode, NoMemory, Nodes, NotGiven, Noted, Notes, Ok, Option, Outcome, Path, Regular, Replied, Reply, Result, SessionSeen, Some, State, Target, Told, TryEnds, [], ap, applied, as_lent, asked, batch_nodes, cond, creds_of, dir_needs, dir_of, done, eqb, false, find_named, grant_ask, inl, inr, is_done, is_root, is_some, lacks_room, make, map, map-append, name_of, new_body, new_node, new_number, nodes_of, noted, out_of, refl, refused, sees, served_by, shows_root, subst, sym, took, took_alike, took_more, true, wants_of, with_node, with_slot, ℕ}
use Rattle.std.specs.Prelude.{◌+◌, ◌⊎◌}
use Rattle.trio_nodes.specs.Walk.{walk_into}
use Rattle.trio_nodes.specs.Apply.{link_mode, reached}
use Rattle.trio_nodes.specs.declared.call.Call as call
use Rattle.trio_nodes.specs.declared.call.Call.TheVariants as calls
use Rattle.trio_nodes.specs.declared.call.Done.{Done}
use Rattle.trio_nodes.specs.declared.call.Reply.TheVariants as reply
use Rattle.trio_session.specs.Seen.{clear, fill}
use Rattle.trio_calls_dir.specs.Asks.{ComesTo, Leaves, TriedIn, asks_of, edited, made_by, numbers_for, pages_for}
use Rattle.trio_calls_dir.proofs.Then.{edited_alike, made_alike, wants_alike}
use Rattle.trio_runner.proofs.Left.{dir_edited, took_calls}
use Rattle.trio_runner.proofs.OneCall.{Facts, MayEnd, OneTry, alike_both, facts, may_some}
use Rattle.trio_runner.proofs.OneReply.{reply_shown, same_end}
use Rattle.trio_runner.proofs.OneTry.{Gets, asks, behind_going, calls_get, final_of, first_same, part_of, rest_same}
use Rattle.trio_runner.proofs.SameNodes.{HasOut, StandsTrue, has_alike, may_has, nodes_known}
use Rattle.trio_session.specs.Asked.{allot_asks}
use Rattle.trio_session.specs.Deeds.{link_made, slot_growth}

-- ---- replies

-- what is replied doesn't go by the number of a file that is made
make_reply : (nodes : Nodes) (creds : Creds) (kind : Kind) (path : Path) (mode : Mode) (bytes : List ℕ) (made : ℕ) → (make nodes creds kind path mode bytes made).reply ≡ (make nodes creds kind path mode bytes 0).reply
make_reply nodes creds kind path mode bytes made = by (is_root path) (walk_into nodes creds (dir_of path ∷ []) (dir_of path))
  where
    entered : ℕ → ℕ → Applied
    entered n dir = cond {A = Applied} (is_some (find_named nodes dir (name_of path))) (refused nodes reply.Exists) (done (with_node nodes n (Some (new_node creds kind dir path mode bytes))) IsDone)

    there : (dir : ℕ) (b : Bool) → (cond {A = Applied} b (refused nodes reply.Exists) (done (with_node nodes made (Some (new_node creds kind dir path mode bytes))) IsDone)).reply
        ≡ (cond {A = Applied} b (refused nodes reply.Exists) (done (with_node nodes 0 (Some (new_node creds kind dir path mode bytes))) IsDone)).reply
    there dir true = refl
    there dir false = refl

    by : (b : Bool) (w : Result ℕ Reply) → (cond {A = Applied} b (refused nodes reply.Exists) (reached nodes w (entered made))).reply ≡ (cond {A = Applied} b (refused nodes reply.Exists) (reached nodes w (entered 0))).reply
    by true w = refl
    by false (Ok dir) = there dir (is_some (find_named nodes dir (name_of path)))
    by false (Err r) = refl

pub applied_reply : (nodes : Nodes) (creds : Creds) (k : call.Call) (made : ℕ) → (applied nodes creds k made).reply ≡ (applied nodes creds k 0).reply
applied_reply nodes creds (calls.Mkdir path mode) made = make_reply nodes creds Directory path mode [] made
applied_reply nodes creds (calls.Create path mode) made = make_reply nodes creds Regular path mode [] made
applied_reply nodes creds (calls.Write path at bytes) made = refl
applied_reply nodes creds (calls.Read path at len) made = refl
applied_reply nodes creds (calls.Truncate path size) made = refl
applied_reply nodes creds (calls.Unlink path) made = refl
applied_reply nodes creds (calls.Rmdir path) made = refl
applied_reply nodes creds (calls.Rename from to) made = refl
applied_reply nodes creds (calls.List path from) made = refl
applied_reply nodes creds (calls.Stat path) made = refl
applied_reply nodes creds (calls.Chmod path mode) made = refl
applied_reply nodes creds (calls.Symlink path text) made = make_reply nodes creds Link path link_mode text made
applied_reply nodes creds (calls.Readlink path) made = refl
applied_reply nodes creds (calls.Guard path on) made = refl

-- ---- where a call comes to

ok_same : (r : Result ℕ Reply) (a b : ℕ) → r ≡ Ok a → r ≡ Ok b → a ≡ b
ok_same r a b e f = (let both : Ok a ≡ Ok b = sym e ∙ f in cc both)

some_same : (o : Option ℕ) (a b : ℕ) → o ≡ Some a → o ≡ Some b → a ≡ b
some_same o a b e f = (let both : Some a ≡ Some b = sym e ∙ f in cc both)

-- a rename comes to one target
rename_target : (t u : Target) (nodes : Nodes) (creds : Creds) (from to : Path) → ComesTo t nodes creds (calls.Rename from to) → ComesTo u nodes creds (calls.Rename from to) → t ≡ u
rename_target t u nodes creds from to a b =
    let dirs : t.dir ≡ u.dir = ok_same _ t.dir u.dir a.0 b.0 in
    let new_dirs : t.new_dir ≡ u.new_dir = ok_same _ t.new_dir u.new_dir a.1 b.1 in
    let inos : t.ino ≡ u.ino = some_same _ t.ino u.ino a.2 (ap (λ n. find_named nodes n (name_of from)) dirs ∙ b.2) in
    ap (λ n. record { dir = n; new_dir = t.new_dir; ino = t.ino }) dirs
    ∙ ap (λ n. record { dir = u.dir; new_dir = n; ino = t.ino }) new_dirs
    ∙ ap (λ n. record { dir = u.dir; new_dir = u.new_dir; ino = n }) inos

-- what it edits goes by where it comes to
edited_same : (k : call.Call) (t u : Target) (nodes : Nodes) (creds own : Creds) (s : SessionSeen) → ComesTo t nodes creds k → ComesTo u nodes creds k → edited own k t s ≡ edited own k u s
edited_same (calls.Mkdir path mode) t u nodes creds own s a b =
    ap (λ n. fill n (name_of path) (new_number s) Directory (new_body own mode) (with_slot n s)) (ok_same _ t.dir u.dir a b)
edited_same (calls.Create path mode) t u nodes creds own s a b =
    ap (λ n. fill n (name_of path) (new_number s) Regular (new_body own mode) (with_slot n s)) (ok_same _ t.dir u.dir a b)
edited_same (calls.Symlink path text) t u nodes creds own s a b =
    ap (λ n. link_made n (name_of path) (new_number s) (new_body own link_mode) text (with_slot n s)) (ok_same _ t.dir u.dir a b)
edited_same (calls.Unlink path) t u nodes creds own s a b = ap (λ n. clear n (name_of path) s) (ok_same _ t.dir u.dir a b)
edited_same (calls.Rmdir path) t u nodes creds own s a b = ap (λ n. clear n (name_of path) s) (ok_same _ t.dir u.dir a b)
edited_same (calls.Rename from to) t u nodes creds own s a b = ap (λ x. edited own (calls.Rename from to) x s) (rename_target t u nodes creds from to a b)
edited_same (calls.List path from) t u nodes creds own s a b = refl
edited_same (calls.Write path at bytes) t u nodes creds own s a b = refl
edited_same (calls.Read path at len) t u nodes creds own s a b = refl
edited_same (calls.Truncate path size) t u nodes creds own s a b = refl
edited_same (calls.Stat path) t u nodes creds own s a b = refl
edited_same (calls.Chmod path mode) t u nodes creds own s a b = refl
edited_same (calls.Readlink path) t u nodes creds own s a b = refl
edited_same (calls.Guard path on) t u nodes creds own s a b = refl

-- and so do the pages that it wants
pages_same : (k : call.Call) (t u : Target) (nodes : Nodes) (creds : Creds) (s : SessionSeen) → ComesTo t nodes creds k → ComesTo u nodes creds k → pages_for k t s ≡ pages_for k u s
pages_same (calls.Mkdir path mode) t u nodes creds s a b = ap (slot_growth s) (ok_same _ t.dir u.dir a b)
pages_same (calls.Create path mode) t u nodes creds s a b = ap (slot_growth s) (ok_same _ t.dir u.dir a b)
pages_same (calls.Symlink path text) t u nodes creds s a b = ap (λ n. slot_growth s n + 2) (ok_same _ t.dir u.dir a b)
pages_same (calls.Rename from to) t u nodes creds s a b = ap (λ x. pages_for (calls.Rename from to) x s) (rename_target t u nodes creds from to a b)
pages_same (calls.Unlink path) t u nodes creds s a b = refl
pages_same (calls.Rmdir path) t u nodes creds s a b = refl
pages_same (calls.List path from) t u nodes creds s a b = refl
pages_same (calls.Write path at bytes) t u nodes creds s a b = refl
pages_same (calls.Read path at len) t u nodes creds s a b = refl
pages_same (calls.Truncate path size) t u nodes creds s a b = refl
pages_same (calls.Stat path) t u nodes creds s a b = refl
pages_same (calls.Chmod path mode) t u nodes creds s a b = refl
pages_same (calls.Readlink path) t u nodes creds s a b = refl
pages_same (calls.Guard path on) t u nodes creds s a b = refl

-- ---- what is wanted

wants_same : (k : call.Call) (t u : Target) (nodes : Nodes) (creds : Creds) (s : SessionSeen) (a b : Reply) → ComesBy (Replied a) t nodes creds k → ComesBy (Replied b) u nodes creds k → wants_of nodes creds k t s ≡ wants_of nodes creds k u s
wants_same k t u nodes creds s a b comes comes' = by (is_done (applied nodes creds k 0).reply) refl
  where
    by : (c : Bool) → is_done (applied nodes creds k 0).reply ≡ c → cond c (allot_asks (pages_for k t s) (numbers_for k)) [] ≡ cond c (allot_asks (pages_for k u s) (numbers_for k)) []
    by true is = ap (λ n. allot_asks n (numbers_for k)) (pages_same k t u nodes creds s (comes is) (comes' is))
    by false is = refl

-- at most one allotment
abbrev OneAllot : List Ask → Type 0
OneAllot wants = (wants ≡ []) ⊎ ((pages : ℕ) × (numbers : ℕ) × (wants ≡ Allot pages numbers ∷ []))

one_allot : (nodes : Nodes) (creds : Creds) (k : call.Call) (t : Target) (s : SessionSeen) → OneAllot (wants_of nodes creds k t s)
one_allot nodes creds k t s = by (is_done (applied nodes creds k 0).reply) (eqb (pages_for k t s) 0 && eqb (numbers_for k) 0)
  where
    by : (b c : Bool) → OneAllot (cond b (cond {A = List Ask} c [] (Allot (pages_for k t s) (numbers_for k) ∷ [])) [])
    by false c = inl refl
    by true true = inl refl
    by true false = inr (pages_for k t s, numbers_for k, refl)

abbrev tolds : List Call → List Told
tolds cs = map (λ (c : Call). c.told) cs

-- no grant is asked there
no_grant : (q : List Call) (ino : ℕ) (kind : GrantKind) (told : Told) (r wants : List Ask) → OneAllot wants → asks (q ++ record { ask = Grant ino kind; told = told } ∷ []) ++ r ≡ wants → ⊥
no_grant [] ino kind told r wants (inl none) e = (let wrong : Grant ino kind ∷ r ≡ [] = e ∙ none in cc wrong)
no_grant [] ino kind told r wants (inr one) e =
    let wrong : Grant ino kind ≡ Allot one.0 one.1 = first_same (Grant ino kind) (Allot one.0 one.1) r [] (e ∙ one.2) in cc wrong
no_grant (c ∷ q) ino kind told r wants (inl none) e = (let wrong : c.ask ∷ (asks (q ++ record { ask = Grant ino kind; told = told } ∷ []) ++ r) ≡ [] = e ∙ none in cc wrong)
no_grant (c ∷ q) ino kind told r wants (inr one) e = after q (rest_same c.ask (Allot one.0 one.1) (asks (q ++ record { ask = Grant ino kind; told = told } ∷ []) ++ r) [] (e ∙ one.2))
  where
    after : (q : List Call) → asks (q ++ record { ask = Grant ino kind; told = told } ∷ []) ++ r ≡ [] → ⊥
    after [] f = (let wrong : Grant ino kind ∷ r ≡ [] = f in cc wrong)
    after (x ∷ xs) f = (let wrong : x.ask ∷ (asks (xs ++ record { ask = Grant ino kind; told = told } ∷ []) ++ r) ≡ [] = f in cc wrong)

-- what is allotted goes off again
allotted_off : (s z : SessionSeen) (pages numbers : ℕ) (told : Told) → Gets (Allot pages numbers) told → as_lent s (took z (told ∷ [])) ≡ as_lent s z
allotted_off s z pages numbers (Given ps ns) g = refl
allotted_off s z pages numbers (NotGiven fault) g = refl
allotted_off s z pages numbers told g = absurd g

all_off : (s z : SessionSeen) (q l : List Call) (r wants : List Ask) → OneAllot wants → ((c : Call) → In c q → Gets c.ask c.told) → asks (q ++ l) ++ r ≡ wants → as_lent s (took z (tolds q)) ≡ as_lent s z
all_off s z [] l r wants one gets e = refl
all_off s z (c ∷ q) l r wants (inl none) gets e = (let wrong : c.ask ∷ (asks (q ++ l) ++ r) ≡ [] = e ∙ none in absurd (cc wrong))
all_off s z (c ∷ []) l r wants (inr one) gets e =
    allotted_off s z one.0 one.1 c.told (subst (λ a. Gets a c.told) (first_same c.ask (Allot one.0 one.1) (asks l ++ r) [] (e ∙ one.2)) (gets c (inl refl)))
all_off s z (c ∷ (x ∷ q)) l r wants (inr one) gets e =
    let wrong : x.ask ∷ (asks (q ++ l) ++ r) ≡ [] = rest_same c.ask (Allot one.0 one.1) (x.ask ∷ (asks (q ++ l) ++ r)) [] (e ∙ one.2) in absurd (cc wrong)

-- what was lent first is all that is lent
lent_first : (s z : SessionSeen) (p q l : List Call) (g : List Call) (r wants : List Ask) → g ≡ p ++ q → OneAllot wants → ((c : Call) → In c g → Gets c.ask c.told) → asks (q ++ l) ++ r ≡ wants → as_lent s (took z (tolds g)) ≡ as_lent s (took z (tolds p))
lent_first s z p q l g r wants is one gets e =
    ap (λ (cs : List Call). as_lent s (took z (tolds cs))) is
    ∙ ap (λ ts. as_lent s (took z ts)) (map-append (λ (c : Call). c.told) p q)
    ∙ ap (as_lent s) (took_more z (tolds p) (tolds q))
    ∙ all_off s (took z (tolds p)) q l r wants one (λ c i. gets c (subst (λ (cs : List Call). In c cs) (sym is) (In-right c p q i))) e

-- two tries that were given the same want the same
pub wants_agree : (k : call.Call) (nodes : Nodes) (creds : Creds) (x y : SessionSeen) (t u : Target) (end end' : Outcome) (g g' l l' : List Call) (r r' : List Ask) → IsAlike x y → end ≢ NoMemory → end' ≢ NoMemory → TryEnds end l → TryEnds end' l'
    → ComesBy end t nodes creds k → ComesBy end' u nodes creds k → ((c : Call) → In c g → Gets c.ask c.told) → ((c : Call) → In c g' → Gets c.ask c.told)
    → (p q q' : List Call) → g ≡ p ++ q → g' ≡ p ++ q' → asks (q ++ l) ++ r ≡ wants_of nodes creds k t (as_lent x (took x (tolds g))) → asks (q' ++ l') ++ r' ≡ wants_of nodes creds k u (as_lent x (took y (tolds g')))
    → wants_of nodes creds k t (as_lent x (took x (tolds g))) ≡ wants_of nodes creds k u (as_lent x (took y (tolds g')))
wants_agree k nodes creds x y t u NoMemory end' g g' l l' r r' like some some' ends ends' comes comes' gets gets' p q q' is is' e e' = absurd (some refl)
wants_agree k nodes creds x y t u end NoMemory g g' l l' r r' like some some' ends ends' comes comes' gets gets' p q q' is is' e e' = absurd (some' refl)
wants_agree k nodes creds x y t u (Busy h) end' g g' l l' r r' like some some' ends ends' comes comes' gets gets' p q q' is is' e e' =
    absurd (no_grant q ends.0 ends.1 _ r _ (one_allot nodes creds k t (as_lent x (took x (tolds g)))) (subst (λ (cs : List Call). asks (q ++ cs) ++ r ≡ wants_of nodes creds k t (as_lent x (took x (tolds g)))) ends.2 e))
wants_agree k nodes creds x y t u end (Busy h) g g' l l' r r' like some some' ends ends' comes comes' gets gets' p q q' is is' e e' =
    absurd (no_grant q' ends'.0 ends'.1 _ r' _ (one_allot nodes creds k u (as_lent x (took y (tolds g')))) (subst (λ (cs : List Call). asks (q' ++ cs) ++ r' ≡ wants_of nodes creds k u (as_lent x (took y (tolds g')))) ends'.2 e'))
wants_agree k nodes creds x y t u (Replied a) (Replied b) g g' l l' r r' like some some' ends ends' comes comes' gets gets' p q q' is is' e e' =
    let lent : as_lent x (took x (tolds g)) ≡ as_lent x (took x (tolds p)) = lent_first x x p q l g r _ is (one_allot nodes creds k t (as_lent x (took x (tolds g)))) gets e in
    let lent' : as_lent x (took y (tolds g')) ≡ as_lent x (took y (tolds p)) = lent_first x y p q' l' g' r' _ is' (one_allot nodes creds k u (as_lent x (took y (tolds g')))) gets' e' in
    let near : IsAlike (took x (tolds p)) (took y (tolds p)) = took_alike x y (tolds p) like in
    ap (wants_of nodes creds k t) lent
    ∙ wants_same k t u nodes creds (as_lent x (took x (tolds p))) a b comes comes'
    ∙ sym (ap (wants_of nodes creds k u) lent' ∙ wants_alike nodes creds k u (as_lent x (took x (tolds p))) (as_lent x (took y (tolds p))) (ap (as_lent x) near))

-- ---- what a try leaves

-- the number of the file that a call made which is so replied
abbrev pub number_of : call.Call → SessionSeen → Reply → ℕ
number_of k s (reply.Ok answer) = made_by k s
number_of k s a = 0

-- a session that was replied has its call behind those before
pub left_replied : (creds : Creds) (k : call.Call) (t : Target) (a : Reply) (all x' : SessionSeen) → Leaves creds k t (Replied a) all x' → x'.calls ≡ all.calls ++ record { call = k; reply = a; made = number_of k all a } ∷ []
left_replied creds k t (reply.Ok answer) all x' l =
    ap (λ (q : SessionSeen). q.calls) l ∙ ap (λ (cs : List Done). cs ++ record { call = k; reply = reply.Ok answer; made = made_by k all } ∷ []) (dir_edited creds k t all)
left_replied creds k t a all x' l = ap (λ (q : SessionSeen). q.calls) l

left_has : (s : State) (lib : LibNo) (creds : Creds) (k : call.Call) (t : Target) (end : Outcome) (d' : Noted) (all x' : SessionSeen) → MayEnd lib end d' x' → Leaves creds k t end all x' → HasOut (out_of d'.state lib) all → HasOut (out_of d'.state lib) x'
left_has s lib creds k t (Replied a) d' all x' may l h = may_has d'.state lib x' may
left_has s lib creds k t (Busy holder) d' all x' may l h = has_alike (out_of d'.state lib) all x' l h
left_has s lib creds k t NoMemory d' all x' may l h = absurd may

-- a call that is replied the same leaves the same, by where it comes to
pub left_same : (k : call.Call) (t u : Target) (nodes : Nodes) (creds own : Creds) (end : Outcome) (all all' x' y' : SessionSeen) → IsAlike all all' → ((a : Reply) → end ≡ Replied a → lacks_room a ≡ false → a ≡ (applied nodes creds k 0).reply)
    → ComesBy end t nodes creds k → ComesBy end u nodes creds k → Leaves own k t end all x' → Leaves own k u end all' y' → IsAlike x' y'
left_same k t u nodes creds own (Replied (reply.Ok answer)) all all' x' y' like replies comes comes' l m =
    let is : is_done (applied nodes creds k 0).reply ≡ true = sym (ap is_done (replies (reply.Ok answer) refl refl)) in
    let n : ℕ = made_by k all in
    let l' : IsAlike (noted k (reply.Ok answer) n (edited own k u all)) x' = subst (λ (z : SessionSeen). IsAlike (noted k (reply.Ok answer) n z) x') (edited_same k t u nodes creds own all (comes is) (comes' is)) l in
    let m' : IsAlike (noted k (reply.Ok answer) n (edited own k u all')) y' = subst (λ i. IsAlike (noted k (reply.Ok answer) i (edited own k u all')) y') (made_alike k all all' like) m in
    alike_both (noted k (reply.Ok answer) n (edited own k u all)) (noted k (reply.Ok answer) n (edited own k u all')) x' y' (ap (noted k (reply.Ok answer) n) (edited_alike own k u all all' like)) l' m'
left_same k t u nodes creds own (Busy holder) all all' x' y' like replies comes comes' l m = alike_both all all' x' y' like l m
left_same k t u nodes creds own NoMemory all all' x' y' like replies comes comes' l m = alike_both all all' x' y' like l m
left_same k t u nodes creds own (Replied answer) all all' x' y' like replies comes comes' l m =
    alike_both (noted k answer 0 all) (noted k answer 0 all') x' y' (ap (noted k answer 0) like) l m

-- ---- two tries

module _ (lib : LibNo) (k : call.Call) where
  -- what one try shows, in the nodes before it
  record Shows (d d' : Noted) (x x' : SessionSeen) (end : Outcome) (t : DirTried (Notes lib) (sees lib) k d x end d' x') : Type 0 where
    comes : ComesBy end t.0 (batch_nodes (creds_of d.state lib.0) x.calls (nodes_of d.state)) (creds_of d.state lib.0) k
    asks_are : AskedBy end (map (λ (c : Call). c.ask) (t.1.given ++ t.1.last)) (asks_of (batch_nodes (creds_of d.state lib.0) x.calls (nodes_of d.state)) (creds_of d.state lib.0) x k t.0 (took x (map (λ (c : Call). c.told) t.1.given)))
    replies : (a : Reply) → end ≡ Replied a → lacks_room a ≡ false → a ≡ (applied (batch_nodes (creds_of d.state lib.0) x.calls (nodes_of d.state)) (creds_of d.state lib.0) k 0).reply
    true : StandsTrue d'.state

  shows : (d d' : Noted) (x x' : SessionSeen) (end : Outcome) (t : DirTried (Notes lib) (sees lib) k d x end d' x') → StandsTrue d.state → HasOut (out_of d.state lib) x → MayEnd lib end d' x' → Shows d d' x x' end t
  shows d d' x x' end t h has may =
      let L : SessionSeen → SessionSeen → Type 0 = Leaves x.creds k t.0 end in
      let I : SessionSeen → List Ask → Nodes → Type 0 = λ all asks now. TriedIn (sees lib d').creds x k end t.0 all asks now in
      let f = facts lib d d' x x' end L I t.1 h has (may_some lib end d' x' may) (left_has d.state lib x.creds k t.0 end d' all x' may t.1.leaves) in
      let these : List Ask = map (λ (c : Call). c.ask) (t.1.given ++ t.1.last) in
      let here : TriedIn (creds_of d.state lib.0) x k end t.0 all these (batch_nodes (creds_of d.state lib.0) x.calls (nodes_of d.state)) =
      subst (λ (cs : Creds). TriedIn cs x k end t.0 all these (batch_nodes cs x.calls (nodes_of d.state))) f.creds f.shown in
      record { comes = here.comes; asks_are = here.asks; replies = λ a e q. replied f a e q; true = f.carried.true }
    where
      all : SessionSeen
      all = took x (map (λ (c : Call). c.told) t.1.given)

      replied : Facts lib d d' x x' end (Leaves x.creds k t.0 end) (λ all asks now. TriedIn (sees lib d').creds x k end t.0 all asks now) t.1 → (a : Reply) → end ≡ Replied a → lacks_room a ≡ false
          → a ≡ (applied (batch_nodes (creds_of d.state lib.0) x.calls (nodes_of d.state)) (creds_of d.state lib.0) k 0).reply
      replied f a e q =
          let n : ℕ = number_of k all a in
          let last : Done = record { call = k; reply = a; made = n } in
          reply_shown lib d d' x x' k a n (subst (λ o. MayEnd lib o d' x') e may) f.possible f.creds
          (left_replied x.creds k t.0 a all x' (subst (λ o. Leaves x.creds k t.0 o all x') e t.1.leaves) ∙ ap (λ (cs : List Done). cs ++ last ∷ []) (took_calls x (map (λ (c : Call). c.told) t.1.given))) q
          ∙ applied_reply (batch_nodes (creds_of d.state lib.0) x.calls (nodes_of d.state)) (creds_of d.state lib.0) k n

  pub one_dir : OneTry lib (DirTried (Notes lib) (sees lib) k)
  one_dir d e d' e' x y x' y' end end' hd he same like has has' may may' t u =
      let a = shows d d' x x' end t hd has may in
      let b = shows e e' y y' end' u he has' may' in
      let now : Nodes = batch_nodes (creds_of d.state lib.0) x.calls (nodes_of d.state) in
      let cs : creds_of e.state lib.0 ≡ creds_of d.state lib.0 = ap (λ (q : Known). creds_of (record d.state { creds = q.creds }) lib.0) (sym same) in
      let ns : nodes_of e.state ≡ nodes_of d.state = nodes_known e.state d.state (sym same) in
      let all : SessionSeen = took x (map (λ (c : Call). c.told) t.1.given) in
      let all' : SessionSeen = took y (map (λ (c : Call). c.told) u.1.given) in
      let w : wanted u.0 all' (creds_of e.state lib.0) (nodes_of e.state) y ≡ wanted u.0 all' (creds_of d.state lib.0) (nodes_of d.state) x =
      ap (λ (c : Creds). wanted u.0 all' c (nodes_of e.state) y) cs ∙ ap (λ (n : Nodes). wanted u.0 all' (creds_of d.state lib.0) n y) ns ∙ ap (wanted u.0 all' (creds_of d.state lib.0) (nodes_of d.state)) like in
      let asks' : AskedBy end' (map (λ (c : Call). c.ask) (u.1.given ++ u.1.last)) (asks_of (batch_nodes (creds_of d.state lib.0) x.calls (nodes_of d.state)) (creds_of d.state lib.0) x k u.0 (took y (map (λ (c : Call). c.told) u.1.given))) =
      subst (AskedBy end' (map (λ (c : Call). c.ask) (u.1.given ++ u.1.last))) w b.asks_are in
      let Now : Creds → Nodes → SessionSeen → Type 0 = λ c n z. ComesBy end' u.0 (batch_nodes c z.calls n) c k in
      let come1 : Now (creds_of d.state lib.0) (nodes_of e.state) y = subst (λ (c : Creds). Now c (nodes_of e.state) y) cs b.comes in
      let come2 : Now (creds_of d.state lib.0) (nodes_of d.state) y = subst (λ (n : Nodes). Now (creds_of d.state lib.0) n y) ns come1 in
      let come3 : Now (creds_of d.state lib.0) (nodes_of d.state) x = subst (Now (creds_of d.state lib.0) (nodes_of d.state)) like come2 in
      let some = may_some lib end d' x' may in
      let some' = may_some lib end' e' y' may' in
      let p = part_of end (map (λ (c : Call). c.ask) (t.1.given ++ t.1.last)) _ a.asks_are in
      let q = part_of end' (map (λ (c : Call). c.ask) (u.1.given ++ u.1.last)) _ asks' in
      let going = behind_going lib (map grant_ask (asked (served_by x) (dir_needs now (creds_of d.state lib.0) (shows_root x) k))) t.1.given u.1.given t.1.last u.1.last d e d' e' end end' p.rest q.rest
      (wants_of now (creds_of d.state lib.0) k t.0 (as_lent x all)) (wants_of now (creds_of d.state lib.0) k u.0 (as_lent x all')) hd.stands he.stands same t.1.each u.1.each (final_of end t.1.last some t.1.ends) (final_of end' u.1.last some' u.1.ends) p.whole q.whole (sym p.are) (sym q.are)
      (λ f g g' is is' v v'. wants_agree k now (creds_of d.state lib.0) x y t.0 u.0 end end' t.1.given u.1.given t.1.last u.1.last p.rest q.rest like some some' t.1.ends u.1.ends a.comes come3
      (calls_get lib t.1.given t.1.last d d' t.1.each t.1.made) (calls_get lib u.1.given u.1.last e e' u.1.each u.1.made) f g g' is is' v v') t.1.made u.1.made in
      let applies : Creds → Nodes → SessionSeen → Reply = λ c n z. (applied (batch_nodes c z.calls n) c k 0).reply in
      let r : applies (creds_of e.state lib.0) (nodes_of e.state) y ≡ applies (creds_of d.state lib.0) (nodes_of d.state) x =
      ap (λ (c : Creds). applies c (nodes_of e.state) y) cs ∙ ap (λ (n : Nodes). applies (creds_of d.state lib.0) n y) ns ∙ ap (applies (creds_of d.state lib.0) (nodes_of d.state)) like in
      let ends : end ≡ end' = same_end end end' going.ends (λ f g i j v v'. a.replies f i v ∙ sym r ∙ sym (b.replies g j v')) in
      let come : ComesBy end u.0 (batch_nodes (creds_of d.state lib.0) x.calls (nodes_of d.state)) (creds_of d.state lib.0) k =
      subst (λ o. ComesBy o u.0 (batch_nodes (creds_of d.state lib.0) x.calls (nodes_of d.state)) (creds_of d.state lib.0) k) (sym ends) come3 in
      let left1 : Leaves y.creds k u.0 end (took y (map (λ (c : Call). c.told) t.1.given)) y' =
      subst (λ o. Leaves y.creds k u.0 o (took y (map (λ (c : Call). c.told) t.1.given)) y') (sym ends) (subst (λ g. Leaves y.creds k u.0 end' (took y (map (λ (c : Call). c.told) g)) y') (sym going.given_same) u.1.leaves) in
      let left2 : Leaves x.creds k u.0 end (took y (map (λ (c : Call). c.told) t.1.given)) y' =
      subst (λ (c : Creds). Leaves c k u.0 end (took y (map (λ (z : Call). z.told) t.1.given)) y') (ap (λ (z : SessionSeen). z.creds) like) left1 in
      record {
        end_same = ends;
        alike = left_same k t.0 u.0 now (creds_of d.state lib.0) x.creds end (took x (map (λ (c : Call). c.told) t.1.given)) (took y (map (λ (c : Call). c.told) t.1.given)) x' y'
            (took_alike x y (map (λ (c : Call). c.told) t.1.given) like) a.replies a.comes come t.1.leaves left2;
        known_same = going.known_same;
        true = a.true;
        true' = b.true;
      }
    where
      wanted : Target → SessionSeen → Creds → Nodes → SessionSeen → List Ask
      wanted v all c n z = asks_of (batch_nodes c z.calls n) c z k v all
