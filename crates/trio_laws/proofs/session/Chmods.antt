-- A chmod whose walk comes to a file is done for the owner or uid 0, and denied to all others; so it is replied as a change of mode is
-- answered.
use Rattle.trio_laws.proofs.Words.{◌&&◌, ◌||◌, ◌∙◌, ◌≡◌, ◌≢◌, Applied, Apply, ArePossible, BadMode, Beside, Bool, Busy, Call, CallFits, Creds, CtlAnswer, Denied, DeskSeen, Err, IsTree, Kept, LegalChmod, List, Mode, ModeFault, Need, NoMemory, Node, Nodes, None, NotDir, NotFound, NotLive, NotModeSet, NotOwner, Ok, Option, OutOfMemory, Path, Reply, Result, Row, SetMode, Shown, Some, State, Step, [], and_then, ap, applied, arith, creds_of, dir_of, done, false, false≢true, find_named, find_named-Child, inl, inr, is_directory, is_owner, lacks, listed_in, moded_nodes, ne_eqb, node_at, nodes_of, not, of_node, ok_or, option_map, past_of, reached, refl, refused, subst, sym, true, walk, walk_into, with_node, ℕ}
use Rattle.std.proofs.Common.{◌==◌}
use Rattle.std.specs.Prelude.{if◌then◌else◌}
use Rattle.trio_nodes.specs.declared.call.Answer.TheVariants.{Done}
use Rattle.trio_nodes.specs.declared.call.Reply.TheVariants.{Ok as Replied}
use Rattle.trio_nodes.specs.Walk.{enter, enter_node, name_of, need_at}
use Rattle.trio_desk.specs.Ready.{Moded, TellsChmod, chmod_walk, moded_in}
use Rattle.trio_state.specs.Step.{ModeSet}
use Rattle.trio_laws.specs.history.Entries.{mode_said}
use Rattle.trio_laws.proofs.history.Extends.{Extends}
use Rattle.trio_laws.proofs.history.ModeStep.{mode_extends}
use Rattle.trio_laws.proofs.history.StandsTree.{states_are_trees}

-- ---- the directory to which a walk comes is there

abbrev Enters : Nodes → ℕ → Type 0
Enters nodes dir = (y : Node) × (node_at nodes dir ≡ Some y)

enters_node : (creds : Creds) (need : Need) (nodes : Nodes) (n dir : ℕ) (o : Option Node) → node_at nodes n ≡ o → enter_node creds need n o ≡ Ok dir → Enters nodes dir
enters_node creds need nodes n dir None at e = absurd cc
enters_node creds need nodes n dir (Some x) at e = by (not (is_directory x.kind)) (lacks creds need x) e
  where
    by : (a b : Bool) → (if a then Err NotDir else (if b then Err Denied else Ok n)) ≡ Ok dir → Enters nodes dir
    by true b e = absurd cc
    by false true e = absurd cc
    by false false e = let same : n ≡ dir = cc e in subst (Enters nodes) same (x, at)

enters : (creds : Creds) (need : Need) (nodes : Nodes) (w : Result ℕ Reply) (dir : ℕ) → and_then w (enter nodes creds need) ≡ Ok dir → Enters nodes dir
enters creds need nodes (Err r) dir e = absurd cc
enters creds need nodes (Ok n) dir e = enters_node creds need nodes n dir (node_at nodes n) refl e

-- ---- a chmod

abbrev as_moded : Mode → ℕ → Moded
as_moded m n = record { ino = n; mode = m.0 }

module _ (nodes : Nodes) (creds : Creds) (ino mode : ℕ) where
  -- what the call comes to where the node is there
  abbrev outcome : Bool → Node → Applied
  outcome mine x = if not mine then refused nodes Denied else done (with_node nodes ino (Some (record x { mode = record { 0 = mode } }))) Done

  abbrev owns : Node → Bool
  owns x = creds.uid == x.uid || creds.uid == 0

  abbrev on_node : Mode → ℕ → Node → Applied
  on_node m n x = if not (creds.uid == x.uid || creds.uid == 0) then refused nodes Denied else done (with_node nodes n (Some (record x { mode = m }))) Done

  listed : (path : Path) (m : Mode) (dir : ℕ) (o : Option ℕ) (x : Node) → node_at nodes ino ≡ Some x → option_map (as_moded m) o ≡ Some (record { ino = ino; mode = mode })
      → reached nodes (ok_or o NotFound) (λ n. of_node nodes (node_at nodes n) (on_node m n)) ≡ outcome (owns x) x
  listed path m dir o x at e = search arith

  walked : (path : Path) (m : Mode) (root : Bool) (w : Result ℕ Reply) (x : Node) → node_at nodes ino ≡ Some x
      → (if root then None else moded_in nodes (name_of path) m w) ≡ Some (record { ino = ino; mode = mode })
      → (if root then refused nodes Denied else reached nodes w (λ dir. listed_in nodes dir path (on_node m))) ≡ outcome (owns x) x
  walked path m root w x at e = search (arith, listed)

  chmod_is : (call : Call) (x : Node) → node_at nodes ino ≡ Some x → chmod_walk nodes creds call ≡ Some (record { ino = ino; mode = mode }) → applied nodes creds call 0 ≡ outcome (owns x) x
  chmod_is call x at e = search (arith, walked)

  -- ---- a walk comes to a file, and not to the root

  -- the file is there, and another than the root
  record IsFile : Type 0 where
    node : Node
    at : node_at nodes ino ≡ Some node
    apart : ino ≢ 1

  file_in : (name : List ℕ) (m : Mode) (w : Result ℕ Reply) → IsTree nodes → ((dir : ℕ) → w ≡ Ok dir → Enters nodes dir)
      → moded_in nodes name m w ≡ Some (record { ino = ino; mode = mode }) → IsFile
  file_in name m (Err r) tree there e = absurd cc
  file_in name m (Ok dir) tree there e = by (find_named nodes dir name) refl e
    where
      by : (o : Option ℕ) → find_named nodes dir name ≡ o → option_map (as_moded m) o ≡ Some (record { ino = ino; mode = mode }) → IsFile
      by None f e = absurd cc
      by (Some n) f e =
          let got : Moded = as_moded m n in
          let is : Some got ≡ Some (record { ino = ino; mode = mode }) = e in
          let both : got ≡ record { ino = ino; mode = mode } = cc is in
          let number : n ≡ ino = ap (λ (w : Moded). w.ino) both in
          let c = find_named-Child nodes dir name n f in
          let r = tree.root in
          let at : node_at nodes ino ≡ Some c.node = ap (node_at nodes) (sym number) ∙ c.at in
          record {
            node = c.node;
            at = at;
            apart = λ one.
                let same : Some c.node ≡ Some r.0 = sym at ∙ ap (node_at nodes) one ∙ r.1 in
                let node : c.node ≡ r.0 = cc same in
                let zero : dir ≡ 0 = sym c.parent ∙ ap (λ (x : Node). x.parent) node ∙ r.3 in
                let d = there dir refl in
                let wrong : None ≡ Some d.0 = sym tree.none ∙ ap (node_at nodes) (sym zero) ∙ d.1 in
                cc wrong;
          }

  file_by : (path : Path) (m : Mode) (root : Bool) → IsTree nodes → (if root then None else moded_in nodes (name_of path) m (walk_into nodes creds [] (dir_of path))) ≡ Some (record { ino = ino; mode = mode }) → IsFile
  file_by path m true tree e = absurd cc
  file_by path m false tree e =
      file_in (name_of path) m (walk_into nodes creds [] (dir_of path)) tree (λ dir w. enters creds (need_at [] (dir_of path)) nodes (walk nodes creds [] (dir_of path)) dir w) e

  file_of : (call : Call) → IsTree nodes → chmod_walk nodes creds call ≡ Some (record { ino = ino; mode = mode }) → IsFile
  file_of call tree e = search (arith, file_by)

  -- ---- as the answer says

  owner_owns : (a b c : Bool) → (not a && (b || c)) ≡ true → (c || b) ≡ true
  owner_owns a b c e = search (arith, false≢true)

  other_owns : (a b c : Bool) → a ≡ false → (not a && (b || c)) ≡ false → (c || b) ≡ false
  other_owns a b c n e = search (arith, false≢true)

  chmod_done : (call : Call) → chmod_walk nodes creds call ≡ Some (record { ino = ino; mode = mode }) → is_owner creds ino (node_at nodes ino) ≡ true → Apply nodes creds call 0 (Replied Done) (moded_nodes ino mode nodes)
  chmod_done call w owner = search (arith, false≢true, owner_owns, chmod_is)

  chmod_denied : (call : Call) → IsTree nodes → chmod_walk nodes creds call ≡ Some (record { ino = ino; mode = mode }) → is_owner creds ino (node_at nodes ino) ≡ false → Apply nodes creds call 0 Denied nodes
  chmod_denied call tree w other = search (arith, file_of, ne_eqb, other_owns, chmod_is)

-- ---- a call that is told beside a change of mode

-- nothing is told beside it
abbrev silent : Beside
silent = record { handed = record { writes = []; holds = []; pages = []; numbers = [] }; calls = []; call = None }

module _ (s : State) (k : Kept s) (lib ino mode : ℕ) where
  owner_done : (answer : CtlAnswer) (s' : State) → Step s (SetMode lib ino mode) answer s' → answer ≡ ModeSet → is_owner (creds_of s lib) ino (node_at (nodes_of s) ino) ≡ true
  owner_done answer s' (inr none) e = let wrong : ModeSet ≡ NoMemory = sym e ∙ none.1 in absurd (cc wrong)
  owner_done answer s' (inl d) e = (subst (λ a. Extends s silent (SetMode lib ino mode) a s') e (mode_extends s k lib ino mode silent answer s' d (λ said e. tt))).legal.0.0

  owner_denied : (answer : CtlAnswer) (s' : State) → Step s (SetMode lib ino mode) answer s' → answer ≡ NotModeSet NotOwner → is_owner (creds_of s lib) ino (node_at (nodes_of s) ino) ≡ false
  owner_denied answer s' (inr none) e = let wrong : NotModeSet NotOwner ≡ NoMemory = sym e ∙ none.1 in absurd (cc wrong)
  owner_denied answer s' (inl d) e = (subst (λ a. Extends s silent (SetMode lib ino mode) a s') e (mode_extends s k lib ino mode silent answer s' d (λ said e. tt))).legal.0

  -- a call that is the change, by the walk that the leases show, is replied as the answer says
  pub call_fits : (desk : DeskSeen) (back : List Shown) (call : Option Call) (answer : CtlAnswer) (s' : State) → Step s (SetMode lib ino mode) answer s' → desk.creds ≡ creds_of s lib
      → (rows : List (Option Row)) → ArePossible desk (record { writes = []; holds = []; pages = []; inodes = [] }) back (nodes_of s) rows → TellsChmod desk back ino mode call → CallFits s lib ino mode call answer
  call_fits desk back None answer s' step same rows possible tells = λ said e. tt
  call_fits desk back (Some call) answer s' step same rows possible tells = λ said e. by said e
    where
      tree : IsTree (nodes_of s)
      tree = states_are_trees s k

      w : chmod_walk (nodes_of s) (creds_of s lib) call ≡ Some (record { ino = ino; mode = mode })
      w = subst (λ c. chmod_walk (nodes_of s) c call ≡ Some (record { ino = ino; mode = mode })) same (tells (nodes_of s) rows possible)

      by : (said : Result (Unit {0}) ModeFault) → answer ≡ mode_said said → LegalChmod (past_of s) (creds_of s lib) ino mode said (Some call)
      by (Ok done) e = chmod_done (nodes_of s) (creds_of s lib) ino mode call w (owner_done answer s' step e)
      by (Err NotOwner) e = chmod_denied (nodes_of s) (creds_of s lib) ino mode call tree w (owner_denied answer s' step e)
      by (Err NotLive) e = tt
      by (Err BadMode) e = tt
      by (Err (Busy holder)) e = tt
      by (Err OutOfMemory) e = tt
