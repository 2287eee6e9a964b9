-- The calls of a legal log are a history of the tree on one thread.
use Rattle.trio_runner.proofs.Words.{◌&&◌, ◌++◌, ◌∙◌, ◌∷◌, ◌≡◌, AllByRecursion, Applied, Apply, Back, BadMode, Batch, Bool, Chmod, Create, Creds, Directory, Entry, Err, IsDone, IsReplied, Kind, LegalCalls, Link, List, ListNames, MatchBool, Mkdir, Nodes, None, NotOwner, Ok, Option, Path, Regular, Rename, Reply, Rmdir, Some, Stat, Truncate, Unlink, [], ap, batch_nodes, both_ways, call_nodes, cond, dir_of, done, eq-eqb, eqb, eqb-true, false, false≢true, find_named, flat_map, inl, inr, is_done, is_root, length, make, map, name_of, new_node, refl, refused, subst, sym, true, with_node, zero, ℕ}
use Rattle.std.proofs.Common.{is_some}
use Rattle.trio_rights.specs.declared.rights.Mode.{Mode as FileMode}
use Rattle.trio_nodes.specs.declared.answers.ModeFault.TheVariants.{NotLive, Busy, NoMemory}
use Rattle.trio_nodes.specs.declared.node.Node.{Node}
use Rattle.trio_nodes.specs.declared.call.Call.{Call}
use Rattle.trio_nodes.specs.declared.call.Call.TheVariants.{Guard, Read, Readlink, Symlink, Write}
use Rattle.trio_nodes.specs.declared.call.Done.{Done}
use Rattle.trio_nodes.specs.declared.call.Reply.TheVariants.{Denied, Exists}
use Rattle.trio_nodes.specs.declared.entry.Entry.TheVariants.{Grant, Allot, Raw, Mode}
use Rattle.trio_nodes.specs.Nodes.{node_at}
use Rattle.trio_nodes.specs.Apply.{in_directory, link_mode, makes_file}
use Rattle.trio_nodes.specs.After.{moded_node, moded_nodes, nodes_after}
use Rattle.trio_nodes.specs.Libraries.{IsLibrary, creds_in}
use Rattle.trio_nodes.proofs.LibraryFacts.{batch_after}
use Rattle.trio_nodes.specs.Legal.{library_in, IsLegal, LegalFrom, MadeFits, Past, beginning, past_after}
use Rattle.trio_nodes.proofs.NodeFacts.{with_node-same, with_node-else}
use Rattle.trio_onetree.proofs.CallCases.{on_if, on_directory}
use Rattle.trio_onetree.proofs.Children.{Child-is_some}
use Rattle.trio_runner.specs.History.{DoneBy, IsHistory, IsOfCalls, LegalIsHistory, done_by}

-- one history after another
one_more : (first middle last : Nodes) (xs ys : List DoneBy) → IsHistory first xs middle → IsHistory middle ys last → IsHistory first (xs ++ ys) last
one_more first middle last [] ys h k = subst (λ ns. IsHistory ns ys last) h k
one_more first middle last (x ∷ xs) ys h k = (h.0, h.1, h.2, one_more h.0 middle last xs ys h.3 k)

-- ---- a batch

abbrev of_one : Creds → Done → DoneBy
of_one creds d = record { creds = creds; done = d }

batch_history : (creds : Creds) (nodes : Nodes) (calls : List Done) → LegalCalls creds nodes calls → IsHistory nodes (map (of_one creds) calls) (batch_nodes creds calls nodes)
batch_history creds nodes [] legal = refl
batch_history creds nodes (d ∷ ds) legal = (call_nodes creds nodes d, legal.0, legal.1, batch_history creds (call_nodes creds nodes d) ds legal.2)

-- ---- a change of mode

-- a node has the place that it had before another mode
record HadPlace (old : Option Node) (y : Node) : Type 0 where
  node : Node
  at : old ≡ Some node
  parent : node.parent ≡ y.parent
  name : node.name ≡ y.name

moded_place : (mode : ℕ) (o : Option Node) (y : Node) → moded_node mode o ≡ Some y → HadPlace o y
moded_place mode None y e = absurd cc
moded_place mode (Some x) y e =
    let same : record x { mode = record { 0 = mode } } ≡ y = cc e in
    record { node = x; at = refl; parent = ap (λ (z : Node). z.parent) same; name = ap (λ (z : Node). z.name) same }

had_place : (nodes : Nodes) (ino mode n : ℕ) (y : Node) → node_at (moded_nodes ino mode nodes) n ≡ Some y → HadPlace (node_at nodes n) y
had_place nodes ino mode n y e = by (eqb n ino) refl
  where
    by : (b : Bool) → eqb n ino ≡ b → HadPlace (node_at nodes n) y
    by true is =
        let same : n ≡ ino = eqb-true n ino is in
        subst (λ k. HadPlace (node_at nodes k) y) (sym same)
        (moded_place mode (node_at nodes ino) y (sym (with_node-same nodes ino (moded_node mode (node_at nodes ino))) ∙ ap (node_at (moded_nodes ino mode nodes)) (sym same) ∙ e))
    by false isn't = record { node = y; at = sym (with_node-else nodes ino n (moded_node mode (node_at nodes ino)) (λ same. false≢true (sym isn't ∙ eq-eqb n ino same))) ∙ e; parent = refl; name = refl }

-- a change of mode makes no file
makes_none : (nodes : Nodes) (creds : Creds) (kind : Kind) (path : Path) (file_mode : FileMode) (bytes : List ℕ) (ino mode : ℕ)
    → IsReplied IsDone ≡ (make nodes creds kind path file_mode bytes 0).reply → moded_nodes ino mode nodes ≡ (make nodes creds kind path file_mode bytes 0).nodes → ⊥
makes_none nodes creds kind path file_mode bytes ino mode =
    let Q : Applied → Type 0 = λ a. IsReplied IsDone ≡ a.reply → moded_nodes ino mode nodes ≡ a.nodes → ⊥ in
    let stops : (reply : Reply) → is_done reply ≡ false → Q (refused nodes reply) = λ reply undone e same. both_ways (is_done reply) undone (sym (ap is_done e)) in
    let new : ℕ → Applied = λ dir. cond (is_some (find_named nodes dir (name_of path))) (refused nodes Exists) (done (with_node nodes 0 (Some (new_node creds kind dir path file_mode bytes))) IsDone) in
    on_if nodes creds Q stops (is_root path) (refused nodes Exists) (in_directory nodes creds (dir_of path ∷ []) path new) (λ is. stops Exists refl)
    (λ isn't. on_directory nodes creds Q stops (dir_of path ∷ []) path new
    (λ dir d. on_if nodes creds Q stops (is_some (find_named nodes dir (name_of path))) (refused nodes Exists) (done (with_node nodes 0 (Some (new_node creds kind dir path file_mode bytes))) IsDone) (λ is. stops Exists refl)
    (λ free e same.
    let y = new_node creds kind dir path file_mode bytes in
    let h = had_place nodes ino mode 0 y (ap (λ ns. node_at ns 0) same ∙ with_node-same nodes 0 (Some y)) in
    both_ways (is_some (find_named nodes dir (name_of path))) free (Child-is_some nodes dir (name_of path) 0 (record { node = h.node; at = h.at; parent = h.parent; name = h.name })))))

mode_fits : (nodes : Nodes) (creds : Creds) (ino mode : ℕ) (call : Call) → Apply nodes creds call 0 (IsReplied IsDone) (moded_nodes ino mode nodes) → MadeFits nodes (record { call = call; reply = IsReplied IsDone; made = 0 })
mode_fits nodes creds ino mode (Mkdir path m) a = elim a [ inl is ↦ absurd (makes_none nodes creds Directory path m [] ino mode is.0 is.1) | inr room ↦ absurd room.0 ]
mode_fits nodes creds ino mode (Create path m) a = elim a [ inl is ↦ absurd (makes_none nodes creds Regular path m [] ino mode is.0 is.1) | inr room ↦ absurd room.0 ]
mode_fits nodes creds ino mode (Write path at bytes) a = refl
mode_fits nodes creds ino mode (Read path at len) a = refl
mode_fits nodes creds ino mode (Truncate path size) a = refl
mode_fits nodes creds ino mode (Unlink path) a = refl
mode_fits nodes creds ino mode (Rmdir path) a = refl
mode_fits nodes creds ino mode (Rename from to) a = refl
mode_fits nodes creds ino mode (ListNames path from) a = refl
mode_fits nodes creds ino mode (Stat path) a = refl
mode_fits nodes creds ino mode (Chmod path m) a = refl
mode_fits nodes creds ino mode (Symlink path text) a = elim a [ inl is ↦ absurd (makes_none nodes creds Link path link_mode text ino mode is.0 is.1) | inr room ↦ absurd room.0 ]
mode_fits nodes creds ino mode (Readlink path) a = refl
mode_fits nodes creds ino mode (Guard path on) a = refl

-- a refusal makes none
undone_fits : (b : Bool) (Makes : Type 0) → MatchBool (b && false) Makes (zero ≡ 0)
undone_fits true Makes = refl
undone_fits false Makes = refl

denied_fits : (nodes : Nodes) (call : Call) → MadeFits nodes (record { call = call; reply = Denied; made = 0 })
denied_fits nodes call = undone_fits (makes_file call) _

-- ---- a log

entry_history : (libs : List Creds) (p : Past) (e : Entry) → IsLibrary libs (library_in e) → IsLegal libs p e → IsOfCalls e → IsHistory p.nodes (done_by libs e) (nodes_after libs p.nodes e)
entry_history libs p (Grant lib ino kind answer) of legal is = refl
entry_history libs p (Allot lib pages numbers answer) of legal is = refl
entry_history libs p (Back lib ino) of legal is = refl
entry_history libs p (Raw lib verdict files bundle) of legal is = absurd is
entry_history libs p (Batch lib calls handed) of legal is =
    subst (λ ns. IsHistory p.nodes (map (of_one (creds_in libs lib.0)) calls) ns) (sym (batch_after libs lib.0 calls p.nodes of)) (batch_history (creds_in libs lib.0) p.nodes calls legal.done)
entry_history libs p (Mode lib ino mode answer None) of legal is = absurd is
entry_history libs p (Mode lib ino mode (Ok said) (Some call)) of legal is = (moded_nodes ino mode p.nodes, legal.1, mode_fits p.nodes (creds_in libs lib.0) ino mode call legal.1, refl)
entry_history libs p (Mode lib ino mode (Err NotOwner) (Some call)) of legal is = (p.nodes, legal.1, denied_fits p.nodes call, refl)
entry_history libs p (Mode lib ino mode (Err NotLive) (Some call)) of legal is = refl
entry_history libs p (Mode lib ino mode (Err BadMode) (Some call)) of legal is = refl
entry_history libs p (Mode lib ino mode (Err (Busy holder)) (Some call)) of legal is = refl
entry_history libs p (Mode lib ino mode (Err NoMemory) (Some call)) of legal is = refl

log_history : (libs : List Creds) (p last : Past) (es : List Entry) → AllByRecursion (λ e. IsLibrary libs (library_in e)) es → LegalFrom libs p es last → AllByRecursion IsOfCalls es → IsHistory p.nodes (flat_map (done_by libs) es) last.nodes
log_history libs p last [] of legal is = ap (λ (q : Past). q.nodes) legal
log_history libs p last (e ∷ es) of legal is =
    one_more p.nodes (nodes_after libs p.nodes e) last.nodes (done_by libs e) (flat_map (done_by libs) es) (entry_history libs p e of.0 legal.0 is.0) (log_history libs (past_after libs p e) last es of.1 legal.1 is.1)

pub legal_is_history : LegalIsHistory
legal_is_history first libs log last legal is = log_history libs (beginning first) (record { nodes = last; grants = legal.grants; entries = length log }) log legal.libraries legal.each is
