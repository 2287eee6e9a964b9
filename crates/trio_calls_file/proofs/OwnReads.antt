-- A walk takes directories alone, for reading, so none of its leases keeps a regular file busy.
use Rattle.trio_calls_file.proofs.Words.{◌++◌, ◌||◌, ◌∙◌, ◌∷◌, ◌≡◌, ◌≢◌, ArePossible, Ask, At, Bool, Busy, Call, CallBusyAt, Creds, Denied, DeskSeen, Err, Exists, GrantKind, HasNothing, HoldLease, In, In-cases, IntoItself, IsDir, IsMetIn, IsReplied, Lease, List, Met, Need, Needed, NoInodes, NoMemory, NoSpace, Node, Nodes, None, NotDir, NotEmpty, NotFound, Ok, Option, OthersHold, Outcome, Path, ReadLease, Regular, Replied, Reply, Result, Row, SessionSeen, Shown, Some, Told, TooLarge, Walked, Walks, WriteLease, [], ap, append-nil, asked, batch_nodes, cond, eqb, false, false≢true, grant_for, inl, inr, is_directory, map, need_of, node_at, not, path_of, refl, served_by, shows_root, subst, sym, true, walk_needs, ℕ, IsLink, NotLink}
use Rattle.trio_rights.specs.declared.rights.Need.TheVariants.{Read as NeedsRead, Write as NeedsWrite}
use Rattle.trio_lists.proofs.Members.{In-map}
use Rattle.trio_lease.specs.declared.parts.HoldParts.{HoldParts}
use Rattle.trio_nodes.specs.declared.grant.GrantKind.TheVariants.{Read, Hold}
use Rattle.trio_nodes.specs.Nodes.{find_named}
use Rattle.trio_nodes.specs.Walk.{enter, enter_node, lacks, need_at}
use Rattle.trio_walk.specs.Needs.{entered_needs, found_needs, kind_for, needs_from}
use Rattle.trio_walk.specs.Walks.{IsOwnGrant, file_of}
use Rattle.trio_walk.proofs.OwnBusy.{Excludes, busy_took, nothing_own}
use Rattle.trio_walk.proofs.Agreeing.{asked_beside-In, in_order, walk_need}
use Rattle.trio_walk.proofs.Possible.{lib_same}
use Rattle.trio_calls_file.proofs.AtFile.{not_held}

-- a directory stands there
abbrev IsDirAt : Option Node → Type 0
IsDirAt o = (x : Node) × (o ≡ Some x) × (is_directory x.kind ≡ true)

entered_dir : (creds : Creds) (need : Need) (n : ℕ) (o : Option Node) (k : ℕ) → enter_node creds need n o ≡ Ok k → IsDirAt o
entered_dir creds need n None k e = absurd (cc e)
entered_dir creds need n (Some x) k e = by (is_directory x.kind) refl e
  where
    by : (b : Bool) → is_directory x.kind ≡ b → cond {A = Result ℕ Reply} (not b) (Err NotDir) (cond {A = Result ℕ Reply} (lacks creds need x) (Err Denied) (Ok n)) ≡ Ok k → IsDirAt (Some x)
    by true is h = (x, refl, is)
    by false is h = absurd (cc h)

denied_dir : (creds : Creds) (need : Need) (n : ℕ) (o : Option Node) → enter_node creds need n o ≡ Err Denied → IsDirAt o
denied_dir creds need n None e = absurd (let wrong : Err NotFound ≡ Err Denied = e in cc wrong)
denied_dir creds need n (Some x) e = by (is_directory x.kind) refl e
  where
    by : (b : Bool) → is_directory x.kind ≡ b → cond {A = Result ℕ Reply} (not b) (Err NotDir) (cond {A = Result ℕ Reply} (lacks creds need x) (Err Denied) (Ok n)) ≡ Err Denied → IsDirAt (Some x)
    by true is h = (x, refl, is)
    by false is h = absurd (let wrong : Err NotDir ≡ Err Denied = h in cc wrong)

one_need : (n : Needed) (ino : ℕ) (kind : GrantKind) (nodes : Nodes) → IsDirAt (node_at nodes ino) → In n (record { ino = ino; kind = kind } ∷ []) → IsDirAt (node_at nodes n.ino)
one_need n ino kind nodes dir (inl e) = subst (λ k. IsDirAt (node_at nodes k)) (sym (ap (λ (x : Needed). x.ino) e)) dir
one_need n ino kind nodes dir (inr no') = absurd no'

-- each grant of a walk is on a directory
needs_dirs : (nodes : Nodes) (creds : Creds) (shown : Bool) (writes : List Path) (passed : Path) (at : ℕ) (path : Path) (n : Needed) → In n (needs_from nodes creds shown writes passed at path) → IsDirAt (node_at nodes n.ino)
needs_dirs nodes creds shown writes passed at [] n i = absurd i
needs_dirs nodes creds shown writes passed at (name ∷ names) n i =
    by (λ child. needs_dirs nodes creds shown writes (passed ++ name ∷ []) child names n) (enter nodes creds (need_at writes passed) at) refl i
  where
    kind : GrantKind
    kind = kind_for (need_at writes passed)

    found : ((child : ℕ) → In n (needs_from nodes creds shown writes (passed ++ name ∷ []) child names) → IsDirAt (node_at nodes n.ino)) → (o : Option ℕ)
        → In n (found_needs o (λ child. needs_from nodes creds shown writes (passed ++ name ∷ []) child names)) → IsDirAt (node_at nodes n.ino)
    found later None j = absurd j
    found later (Some child) j = later child j

    if_known : (k : Bool) → IsDirAt (node_at nodes at) → In n (cond k [] (record { ino = at; kind = kind_for (need_at writes passed) } ∷ [])) → IsDirAt (node_at nodes n.ino)
    if_known true dir j = absurd j
    if_known false dir j = one_need n at (kind_for (need_at writes passed)) nodes dir j

    by : ((child : ℕ) → In n (needs_from nodes creds shown writes (passed ++ name ∷ []) child names) → IsDirAt (node_at nodes n.ino)) → (r : Result ℕ Reply) → enter nodes creds (need_at writes passed) at ≡ r
        → In n (entered_needs shown at (kind_for (need_at writes passed)) r (λ dir. found_needs (find_named nodes dir name) (λ child. needs_from nodes creds shown writes (passed ++ name ∷ []) child names))) → IsDirAt (node_at nodes n.ino)
    by later (Ok dir) e j =
        elim (In-cases n (record { ino = at; kind = kind_for (need_at writes passed) } ∷ []) (found_needs (find_named nodes dir name) (λ child. needs_from nodes creds shown writes (passed ++ name ∷ []) child names)) j) [
          | inl here ↦ one_need n at (kind_for (need_at writes passed)) nodes (entered_dir creds (need_at writes passed) at (node_at nodes at) dir e) here
          | inr rest ↦ found later (find_named nodes dir name) rest
        ]
    by later (Err Denied) e j = if_known (shown || not (eqb at 1)) (denied_dir creds (need_at writes passed) at (node_at nodes at) e) j
    by later (Err (IsReplied a)) e j = absurd j
    by later (Err NotFound) e j = absurd j
    by later (Err Exists) e j = absurd j
    by later (Err NotDir) e j = absurd j
    by later (Err IsDir) e j = absurd j
    by later (Err NotEmpty) e j = absurd j
    by later (Err IntoItself) e j = absurd j
    by later (Err (NoSpace a b)) e j = absurd j
    by later (Err (NoInodes a b)) e j = absurd j
    by later (Err TooLarge) e j = absurd j
    by later (Err IsLink) e j = absurd j
    by later (Err NotLink) e j = absurd j

-- none is a hold
never_held : (need : Need) → kind_for need ≡ Hold → ⊥
never_held NeedsRead e = cc e
never_held NeedsWrite e = cc e

-- ---- the second try

module _ {D : Type 0} (called : D → Ask → Told → D → Type 0) (seen : D → DeskSeen) (d : D) (s : SessionSeen) (call : Call) (m : Met) (d1 : D) (s1 : SessionSeen)
    (w : Walked called seen d s (Walks (seen d1) s [] (path_of call) (At m.ino)) (At m.ino) d1 s1) (met : IsMetIn (shows_root s) (seen d1) s1 m) (none : HasNothing s) where
  module _ (nodes : Nodes) (rows : List (Option Row)) (p : ArePossible (seen d1) s1.parcel s1.reads nodes rows) where
    abbrev now : Nodes
    now = batch_nodes (seen d1).creds s1.calls nodes

    abbrev needs : List Needed
    needs = walk_needs now (seen d1).creds (shows_root s) [] (path_of call)

    these : map need_of w.more ≡ asked (served_by s) needs
    these = sym (append-nil (map need_of w.more)) ∙ ap (λ l. map need_of w.more ++ l) (sym w.ends.1) ∙ sym (w.shown nodes rows p).asks

    -- each lease of the walk was needed
    lease_needed : (lease : Lease) → In lease w.more → In (need_of lease) needs
    lease_needed lease i = asked_beside-In (served_by s) needs [] (need_of lease) (subst (λ l. In (need_of lease) l) these (In-map need_of lease w.more i))

    -- so it is on a directory, and none is a hold
    read_dir : (f : Shown) → In (ReadLease f) w.more → IsDirAt (node_at now f.ino)
    read_dir f i = needs_dirs now (seen d1).creds (shows_root s) [] [] 1 (path_of call) (need_of (ReadLease f)) (lease_needed (ReadLease f) i)

    no_hold : (h : HoldParts) → In (HoldLease h) w.more → ⊥
    no_hold h i =
        let n = walk_need now (seen d1).creds (shows_root s) [] (path_of call) (need_of (HoldLease h)) (lease_needed (HoldLease h) i) in
        never_held (need_at [] (in_order n.names)) (sym n.kind)

    -- the file isn't one of the directories that are read
    unread : m.kind ≡ Regular → (f : Shown) → In (ReadLease f) w.more → f.ino ≡ m.ino → ⊥
    unread regular f i same =
        let dir = read_dir f i in
        let t = met.met nodes rows p in
        let one : Some dir.0 ≡ Some t.after = sym dir.1 ∙ ap (node_at now) same ∙ t.there_now in
        let node : dir.0 ≡ t.after = cc one in
        false≢true (sym (ap is_directory (ap (λ (x : Node). x.kind) node ∙ t.kind ∙ regular)) ∙ dir.2)

  not_own : IsOwnGrant (seen d1) s1 m.ino (grant_for call) → (grant_for call ≢ Read → m.kind ≡ Regular) → ⊥
  not_own own regular =
      elim (busy_took s s1 w.more w.way.took w.way.as_lent m.ino (grant_for call) own.busy) [
        | inl old ↦ nothing_own s m.ino (grant_for call) none old
        | inr l ↦ by l.0 l.1 l.2 l.3
      ]
    where
      by : (l : Lease) → In l w.more → file_of l ≡ m.ino → Excludes l (grant_for call) → ⊥
      by (WriteLease f) i same ex = not_held call ex
      by (ReadLease f) i same ex = unread own.nodes own.rows own.possible (regular ex) f i same
      by (HoldLease h) i same ex = no_hold own.nodes own.rows own.possible h i

  -- the file of a try that had nothing is kept busy by another library
  pub others_there : (end : Outcome) → CallBusyAt (seen d1) s1 m call end → OthersHold s.lib end
  others_there (Replied reply) busy = tt
  others_there NoMemory busy = tt
  others_there (Busy holder) busy = λ mine. (let own = busy (mine ∙ sym (lib_same (seen d) (seen d1) s s1 w.more w.way.took)) in not_own own.0 own.1)
