-- A new file is put into an open directory: the nodes stay one tree.
use Rattle.trio_calls_dir.proofs.Words.{◌∙◌, ◌≡◌, Bool, Child-find_named, DeskSeen, Directory, HasRights, In, IsDirectory, IsTree, IsView, List, MayEdit, MayShow, Node, Nodes, None, Option, Rights, Row, SessionSeen, Some, [], ap, bytes_now, case_in_hand, cond, false, find_named, in_hand, ino_numbers, is_among, made_file, map, naming_of, node_at, option_map, refl, rights_of, subst, sym, true, with_judged, with_node, ℕ, guard_now}
use Rattle.trio_onetree.proofs.Children.{found_live, path_found-is}
use Rattle.trio_onetree.proofs.TreePut.{tree_put}
use Rattle.trio_desk.specs.Ready.{bundle_of}
use Rattle.trio_desk.specs.Shows.{node_left}
use Rattle.trio_laws.proofs.session.Stands.{named_alike}
use Rattle.trio_laws.proofs.session.TakenHold.{held_by}
use Rattle.trio_edit_laws.proofs.directories.Filled.{unnamed}

-- ---- a number that none has

-- an allotted number that no file has which was made is that of no node that is shown
pub no_node_shown : (desk : DeskSeen) (s : SessionSeen) (n : ℕ) → MayEdit desk s → (nodes nodes' : Nodes) (rows : List (Option Row)) → MayShow desk (in_hand s) (in_hand s) nodes nodes' rows
    → In n (ino_numbers s.parcel.inodes) → made_file s n ≡ None → node_at nodes' n ≡ None
no_node_shown desk s n may nodes nodes' rows shows new none =
    let v : IsView desk (in_hand s) (in_hand s) nodes nodes' rows = record { order = may.order; more = λ k r q. q; shows = shows } in
    let c = case_in_hand desk rows (in_hand s) in
    let free : naming_of (case_in_hand desk rows (in_hand s)) n ≡ None =
    sym (named_alike desk.sizes desk.creds rows [] (bundle_of s.parcel) (map held_by s.parcel.holds) n) ∙ unnamed desk s (in_hand s) nodes nodes' rows n may v new none in
    shows.shows.each n
    ∙ ap (λ q. option_map (with_judged (bytes_now c n) (guard_now c n)) (node_left c n q (node_at nodes n))) free
    ∙ ap (λ o. option_map (with_judged (bytes_now c n) (guard_now c n)) (cond (is_among n c.bundle.holds) None o)) (shows.possible.none n new)
    ∙ by (is_among n c.bundle.holds)
  where
    by : (t : Bool) → option_map (with_judged (bytes_now (case_in_hand desk rows (in_hand s)) n) (guard_now (case_in_hand desk rows (in_hand s)) n)) (cond t None None) ≡ None
    by true = refl
    by false = refl

-- ---- the tree

directory_node : (o : Option Node) (r : Rights) → option_map rights_of o ≡ Some r → r.kind ≡ Directory → (x : Node) × (o ≡ Some x) × (x.kind ≡ Directory)
directory_node None r e k = absurd (cc e)
directory_node (Some x) r e k = (let same : rights_of x ≡ r = cc e in (x, refl, ap (λ (q : Rights). q.kind) same ∙ k))

-- with a new file by a free name in a directory the nodes are one tree still
pub tree_made : (nodes : Nodes) → IsTree nodes → (dir n : ℕ) (name : List ℕ) (y : Node) (r : Rights) → y.parent ≡ dir → y.name ≡ name → HasRights r (node_at nodes dir) → r.kind ≡ Directory
    → find_named nodes dir name ≡ None → node_at nodes n ≡ None → (n ≡ 0 → ⊥) → IsTree (with_node nodes n (Some y))
tree_made nodes tree dir n name y r parent name_is rights kind free none low =
    let d = directory_node (node_at nodes dir) r rights kind in
    let way = tree.found dir d.0 d.1 in
    tree_put nodes tree n y (record {
      low = low;
      root = λ one. (let wrong : None ≡ Some tree.root.0 = sym none ∙ ap (node_at nodes) one ∙ tree.root.1 in absurd (cc wrong));
      dir = subst IsDirectory (sym (ap (node_at nodes) parent ∙ d.1)) d.2;
      path = way.0;
      leads = sym (path_found-is nodes tree way.0) ∙ way.1 ∙ ap Some (sym parent);
      around = λ front rest whole e. (let x = found_live nodes tree front n e in let wrong : None ≡ Some x.0 = sym none ∙ x.1 in absurd (cc wrong));
      kind = λ x at. (let wrong : None ≡ Some x = sym none ∙ at in absurd (cc wrong));
      alone = λ m z differ there p q.
          let found = Child-find_named nodes tree.names dir name m (record { node = z; at = there; parent = p ∙ parent; name = q ∙ name_is }) in
          (let wrong : None ≡ Some m = sym free ∙ found in absurd (cc wrong));
    })
