-- How the calls on directories are decided by what a session sees.
use Rattle.trio_laws.proofs.Words.{◌&&◌, ◌||◌, ◌∙◌, ◌∷◌, ◌≡◌, Applied, Bool, Call, Creds, Denied, DeskSeen, Directory, DoesCall, Done, Err, In-list_any, IsDir, IsDone, IsTree, LacksRoom, List, MadeFits, MatchBool, Node, Nodes, None, NotDir, NotFound, Ok, Option, Path, Regular, Reply, Result, Rights, Some, Stat, ToRead, ToWrite, Truncate, [], and_right, and_then, ap, applied, arith, bytes_eq-Decides, call_nodes, cond, dir_of, done, drop, eqb, false, false≢true, find_named, find_named-Child, inl, inr, is_directory, is_done, lacks, lacks_room, listed_in, ltb, makes_file, node_at, not, of_node, ok_or, reached, refl, refused, rights_of, subst, sym, take, true, walk, walk_into, with_node, ℕ}
use Rattle.trio_rights.specs.declared.kind.Kind.TheVariants.{Link}
use Rattle.std.proofs.Common.{is_some}
use Rattle.trio_nodes.specs.declared.call.Answer.TheVariants.{Names}
use Rattle.trio_nodes.specs.declared.call.Call.TheVariants.{Mkdir, Create, Write, Read, Unlink, Rmdir, Rename, List as ListNames, Chmod, Symlink, Readlink, Guard}
use Rattle.trio_nodes.specs.declared.call.Reply.TheVariants.{Exists, NotEmpty}
use Rattle.trio_nodes.specs.Nodes.{count_in, names_in}
use Rattle.trio_nodes.specs.Walk.{name_of, same_path}
use Rattle.trio_nodes.specs.Apply.{in_directory, link_mode, new_node}
use Rattle.trio_onetree.proofs.CallCases.{walk_into-Undone}
use Rattle.trio_onetree.proofs.TreeStays.{tree_stays}
use Rattle.trio_laws.specs.session.DirCalls.{ComesAcross, ComesInto, DoneIsTree, EntersWalked, ListRefusedByCheck, ListRefusedByWalk, ListsNames, MakesEntry, MovesEntry, NameRefusedByWalk, NeedsWrite, list_refusal}
use Rattle.trio_laws.specs.session.DirCalls.{NoRoomToMake, NoRoomToMove, RefusedAtEntry, RefusedByName, RefusedByPath, RemovesEntry, RenameRefusedByName, RenameRefusedByWalk, RetitlesEntry, ShownIsTree}
use Rattle.trio_laws.specs.session.DirCalls.{early_refusal, entry_refusal, list_refusal, made_in, name_path, name_refusal, placed_as, removes_file, rename_refusal, with_name, with_place, write_paths}
use Rattle.trio_laws.proofs.session.FileCalls.{does_as, enters_by, first_passes, first_refuses, lacks_as, makes_nothing, three_pass, three_refuse, two_pass, two_refuse}
use Rattle.trio_laws.proofs.session.LentNodes.{mapped}

-- ---- walks into a directory

pub enters_walked : EntersWalked
enters_walked nodes creds writes path h e = search (arith, enters_by)

same_path-self : (path : Path) → same_path path path ≡ true
same_path-self [] = refl
same_path-self (name ∷ path) = ap (λ t. cond t (same_path path path) false) ((bytes_eq-Decides name name).1 refl) ∙ same_path-self path

pub needs_write : NeedsWrite
needs_write writes path i = ap (λ t. cond t ToWrite ToRead) (In-list_any (same_path path) path writes i (same_path-self path))

-- a reply that a check gives is no answer
none-undone : (reply : Reply) → None ≡ Some reply → is_done reply ≡ false
none-undone reply e = absurd (let wrong : None ≡ Some reply = e in cc wrong)

some-undone : (given reply : Reply) → is_done given ≡ false → Some given ≡ Some reply → is_done reply ≡ false
some-undone given reply undone e = (let same : given ≡ reply = (let k : Some given ≡ Some reply = e in cc k) in ap is_done (sym same) ∙ undone)

check-undone : (given reply : Reply) (rest : Option Reply) (t : Bool) → is_done given ≡ false → (rest ≡ Some reply → is_done reply ≡ false)
    → cond t (Some given) rest ≡ Some reply → is_done reply ≡ false
check-undone given reply rest t undone more e = search (arith, some-undone)

module _ (desk : DeskSeen) (d : Done) (nodes : Nodes) (none : d.made ≡ 0) where
  -- the call is refused
  refused-does : (makes_file d.call && is_done d.reply) ≡ false → applied nodes desk.creds d.call d.made ≡ refused nodes d.reply → DoesCall desk d nodes nodes
  refused-does makes e = does_as desk d nodes (makes_nothing nodes d makes none) (refused nodes d.reply) e refl (inr refl)

  undone-does : is_done d.reply ≡ false → applied nodes desk.creds d.call d.made ≡ refused nodes d.reply → DoesCall desk d nodes nodes
  undone-does undone e = refused-does (and_right (makes_file d.call) (is_done d.reply) undone) e

-- ---- refusals by a path

early-undone : (call : Call) (reply : Reply) → early_refusal call ≡ Some reply → is_done reply ≡ false
early-undone call reply e = search (arith, check-undone, none-undone)

-- what a call on one name makes of the file that has it
abbrev at_entry : Nodes → Creds → Call → ℕ → Node → Applied
at_entry nodes creds (Unlink path) n x = cond (is_directory x.kind) (refused nodes IsDir) (done (with_node nodes n None) IsDone)
at_entry nodes creds (Rmdir path) n x =
    cond (not (is_directory x.kind)) (refused nodes NotDir) (cond (ltb 0 (count_in nodes n)) (refused nodes NotEmpty) (done (with_node nodes n None) IsDone))
at_entry nodes creds (Chmod path mode) n x =
    cond (not (eqb creds.uid x.uid || eqb creds.uid 0)) (refused nodes Denied) (done (with_node nodes n (Some (record x { mode = mode }))) IsDone)
at_entry nodes creds _ n x = refused nodes NotFound

-- and of the directory that it has entered
abbrev in_entered : Nodes → Creds → Call → ℕ → ℕ → Applied
in_entered nodes creds (Mkdir path mode) made dir =
    cond (is_some (find_named nodes dir (name_of path))) (refused nodes Exists) (done (with_node nodes made (Some (new_node creds Directory dir path mode []))) IsDone)
in_entered nodes creds (Create path mode) made dir =
    cond (is_some (find_named nodes dir (name_of path))) (refused nodes Exists) (done (with_node nodes made (Some (new_node creds Regular dir path mode []))) IsDone)
in_entered nodes creds (Symlink path text) made dir =
    cond (is_some (find_named nodes dir (name_of path))) (refused nodes Exists) (done (with_node nodes made (Some (new_node creds Link dir path link_mode text))) IsDone)
in_entered nodes creds (Unlink path) made dir = listed_in nodes dir path (at_entry nodes creds (Unlink path))
in_entered nodes creds (Rmdir path) made dir = listed_in nodes dir path (at_entry nodes creds (Rmdir path))
in_entered nodes creds (Chmod path mode) made dir = listed_in nodes dir path (at_entry nodes creds (Chmod path mode))
in_entered nodes creds _ made dir = refused nodes NotFound

-- what a rename makes of the directories that it has entered
abbrev across : Nodes → Path → Path → ℕ → ℕ → Applied
across nodes from to dir new_dir =
    listed_in nodes dir from (λ n x.
    cond (is_some (find_named nodes new_dir (name_of to))) (refused nodes Exists) (done (with_node nodes n (Some (record x { parent = new_dir; name = name_of to }))) IsDone))

early-refused : (nodes : Nodes) (creds : Creds) (call : Call) (made : ℕ) (reply : Reply) → early_refusal call ≡ Some reply → applied nodes creds call made ≡ refused nodes reply
early-refused nodes creds call made reply e = search (arith, first_refuses, three_refuse)

pub refused_by_path : RefusedByPath
refused_by_path desk d nodes e none =
    undone-does desk d nodes none (early-undone d.call d.reply e) (early-refused nodes desk.creds d.call d.made d.reply e)

-- ---- calls on one name

-- the walk is into the directory of the call's path
walks_by_path : (nodes : Nodes) (creds : Creds) (writes : List Path) (p path : Path) (g : ℕ → Applied) → Some p ≡ Some path
    → in_directory nodes creds writes p g ≡ reached nodes (walk_into nodes creds writes (dir_of path)) g
walks_by_path nodes creds writes p path g e = search arith

-- such a call goes where its walk goes
goes_in : (nodes : Nodes) (creds : Creds) (call : Call) (made : ℕ) (path : Path) → name_path call ≡ Some path → early_refusal call ≡ None
    → applied nodes creds call made ≡ reached nodes (walk_into nodes creds (write_paths call) (dir_of path)) (in_entered nodes creds call made)
goes_in nodes creds call made path e early = search (arith, first_passes, walks_by_path)

pub name_refused_by_walk : NameRefusedByWalk
name_refused_by_walk desk d nodes path on early w none =
    undone-does desk d nodes none (walk_into-Undone nodes desk.creds (write_paths d.call) (dir_of path) d.reply w)
    (goes_in nodes desk.creds d.call d.made path on early ∙ ap (λ q. reached nodes q (in_entered nodes desk.creds d.call d.made)) w)

-- where its walk comes to a directory
comes_in : (nodes : Nodes) (creds : Creds) (call : Call) (made : ℕ) (path : Path) (dir : ℕ) → ComesInto nodes creds call path dir
    → applied nodes creds call made ≡ in_entered nodes creds call made dir
comes_in nodes creds call made path dir c = goes_in nodes creds call made path c.on c.early ∙ ap (λ q. reached nodes q (in_entered nodes creds call made)) c.into

-- ---- what the name is found to be

-- the name that is looked up is that of the call's path
looks_up : (nodes : Nodes) (dir : ℕ) (p path : Path) (found : Option ℕ) → Some p ≡ Some path
    → find_named nodes dir (name_of path) ≡ found → find_named nodes dir (name_of p) ≡ found
looks_up nodes dir p path found e f = (let same : p ≡ path = (let t : Some p ≡ Some path = e in cc t) in ap (λ q. find_named nodes dir (name_of q)) same ∙ f)

module _ (nodes : Nodes) (call : Call) (reply : Reply) where
  -- what is made is there
  name_taken : (good : Applied) (o found : Option ℕ) → makes_file call ≡ true → o ≡ found → name_refusal call found ≡ Some reply
      → cond (is_some o) (refused nodes Exists) good ≡ refused nodes reply
  name_taken good o found makes f e = search arith

  -- what is to be there isn't
  name_missing : (g : ℕ → Applied) (o found : Option ℕ) → makes_file call ≡ false → o ≡ found → name_refusal call found ≡ Some reply
      → reached nodes (ok_or o NotFound) g ≡ refused nodes reply
  name_missing g o found makes f e = search arith

-- the file that has the name
listed-at : (nodes : Nodes) (dir : ℕ) (path : Path) (n : ℕ) (x : Node) (g : ℕ → Node → Applied) → find_named nodes dir (name_of path) ≡ Some n → node_at nodes n ≡ Some x
    → listed_in nodes dir path g ≡ g n x
listed-at nodes dir path n x g f at = search arith

name-undone : (call : Call) (found : Option ℕ) (reply : Reply) → name_refusal call found ≡ Some reply → is_done reply ≡ false
name-undone call found reply e = search (arith, check-undone, none-undone, some-undone)

module _ (nodes : Nodes) (creds : Creds) (made : ℕ) (path : Path) (dir : ℕ) where
  name-refused : (call : Call) (found : Option ℕ) (reply : Reply) → name_path call ≡ Some path → find_named nodes dir (name_of path) ≡ found
      → name_refusal call found ≡ Some reply → in_entered nodes creds call made dir ≡ refused nodes reply
  name-refused (Mkdir p m) found reply on f e = search (arith, name_taken, looks_up, name_missing)
  name-refused (Create p m) found reply on f e = search (arith, name_taken, looks_up, name_missing)
  name-refused (Symlink p text) found reply on f e = search (arith, name_taken, looks_up, name_missing)
  name-refused (Unlink p) found reply on f e = search (arith, name_taken, looks_up, name_missing)
  name-refused (Rmdir p) found reply on f e = search (arith, name_taken, looks_up, name_missing)
  name-refused (Chmod p m) found reply on f e = search (arith, name_taken, looks_up, name_missing)
  name-refused (Write p at bytes) found reply on f e = absurd (let wrong : None ≡ Some path = on in cc wrong)
  name-refused (Read p at len) found reply on f e = absurd (let wrong : None ≡ Some path = on in cc wrong)
  name-refused (Truncate p size) found reply on f e = absurd (let wrong : None ≡ Some path = on in cc wrong)
  name-refused (Rename p q) found reply on f e = absurd (let wrong : None ≡ Some path = on in cc wrong)
  name-refused (ListNames p k) found reply on f e = absurd (let wrong : None ≡ Some path = on in cc wrong)
  name-refused (Stat p) found reply on f e = absurd (let wrong : None ≡ Some path = on in cc wrong)
  name-refused (Readlink p) found reply on f e = absurd (let wrong : None ≡ Some path = on in cc wrong)
  name-refused (Guard p b) found reply on f e = absurd (let wrong : None ≡ Some path = on in cc wrong)

  -- the name is free
  name-free : (call : Call) → name_path call ≡ Some path → makes_file call ≡ true → find_named nodes dir (name_of path) ≡ None
      → in_entered nodes creds call made dir ≡ done (with_node nodes made (made_in creds dir call)) IsDone
  name-free (Mkdir p m) on makes f =
      ap (λ q. cond (is_some q) (refused nodes Exists) (done (with_node nodes made (Some (new_node creds Directory dir p m []))) IsDone)) (looks_up nodes dir p path None on f)
  name-free (Create p m) on makes f =
      ap (λ q. cond (is_some q) (refused nodes Exists) (done (with_node nodes made (Some (new_node creds Regular dir p m []))) IsDone)) (looks_up nodes dir p path None on f)
  name-free (Symlink p text) on makes f =
      ap (λ q. cond (is_some q) (refused nodes Exists) (done (with_node nodes made (Some (new_node creds Link dir p link_mode text))) IsDone)) (looks_up nodes dir p path None on f)
  name-free (Write p at bytes) on makes f = absurd (false≢true makes)
  name-free (Read p at len) on makes f = absurd (false≢true makes)
  name-free (Truncate p size) on makes f = absurd (false≢true makes)
  name-free (Unlink p) on makes f = absurd (false≢true makes)
  name-free (Rmdir p) on makes f = absurd (false≢true makes)
  name-free (Rename p q) on makes f = absurd (false≢true makes)
  name-free (ListNames p k) on makes f = absurd (false≢true makes)
  name-free (Stat p) on makes f = absurd (false≢true makes)
  name-free (Readlink p) on makes f = absurd (false≢true makes)
  name-free (Guard p b) on makes f = absurd (false≢true makes)
  name-free (Chmod p m) on makes f = absurd (false≢true makes)

  -- the name is there, and so is its file
  module _ (n : ℕ) (x : Node) (f : find_named nodes dir (name_of path) ≡ Some n) (at : node_at nodes n ≡ Some x) where
    entry-refused : (call : Call) (reply : Reply) → name_path call ≡ Some path → entry_refusal creds (rights_of x) (count_in nodes n) call ≡ Some reply
        → in_entered nodes creds call made dir ≡ refused nodes reply
    entry-refused (Unlink p) reply on e = search (arith, listed-at, looks_up, first_refuses, two_refuse)
    entry-refused (Rmdir p) reply on e = search (arith, listed-at, looks_up, first_refuses, two_refuse)
    entry-refused (Chmod p m) reply on e = search (arith, listed-at, looks_up, first_refuses, two_refuse)
    entry-refused (Mkdir p m) reply on e = absurd (let wrong : None ≡ Some reply = e in cc wrong)
    entry-refused (Create p m) reply on e = absurd (let wrong : None ≡ Some reply = e in cc wrong)
    entry-refused (Write p k bytes) reply on e = absurd (let wrong : None ≡ Some reply = e in cc wrong)
    entry-refused (Read p k len) reply on e = absurd (let wrong : None ≡ Some reply = e in cc wrong)
    entry-refused (Truncate p size) reply on e = absurd (let wrong : None ≡ Some reply = e in cc wrong)
    entry-refused (Rename p q) reply on e = absurd (let wrong : None ≡ Some reply = e in cc wrong)
    entry-refused (ListNames p k) reply on e = absurd (let wrong : None ≡ Some reply = e in cc wrong)
    entry-refused (Stat p) reply on e = absurd (let wrong : None ≡ Some reply = e in cc wrong)
    entry-refused (Symlink p text) reply on e = absurd (let wrong : None ≡ Some reply = e in cc wrong)
    entry-refused (Readlink p) reply on e = absurd (let wrong : None ≡ Some reply = e in cc wrong)
    entry-refused (Guard p b) reply on e = absurd (let wrong : None ≡ Some reply = e in cc wrong)

    entry-goes : (call : Call) → name_path call ≡ Some path → removes_file call ≡ true → entry_refusal creds (rights_of x) (count_in nodes n) call ≡ None
        → in_entered nodes creds call made dir ≡ done (with_node nodes n None) IsDone
    entry-goes (Unlink p) on removes e = search (arith, listed-at, looks_up, first_passes, two_pass, false≢true)
    entry-goes (Rmdir p) on removes e = search (arith, listed-at, looks_up, first_passes, two_pass, false≢true)
    entry-goes (Mkdir p m) on removes e = absurd (false≢true removes)
    entry-goes (Create p m) on removes e = absurd (false≢true removes)
    entry-goes (Write p k bytes) on removes e = absurd (false≢true removes)
    entry-goes (Read p k len) on removes e = absurd (false≢true removes)
    entry-goes (Truncate p size) on removes e = absurd (false≢true removes)
    entry-goes (Rename p q) on removes e = absurd (false≢true removes)
    entry-goes (ListNames p k) on removes e = absurd (false≢true removes)
    entry-goes (Stat p) on removes e = absurd (false≢true removes)
    entry-goes (Symlink p text) on removes e = absurd (false≢true removes)
    entry-goes (Readlink p) on removes e = absurd (false≢true removes)
    entry-goes (Guard p b) on removes e = absurd (false≢true removes)
    entry-goes (Chmod p m) on removes e = absurd (false≢true removes)

entry-undone : (creds : Creds) (r : Rights) (count : ℕ) (call : Call) (reply : Reply) → entry_refusal creds r count call ≡ Some reply → is_done reply ≡ false
entry-undone creds r count call reply e = search (arith, check-undone, none-undone)

removes-none : (call : Call) → removes_file call ≡ true → makes_file call ≡ false
removes-none call removes = search (arith, false≢true)

pub refused_by_name : RefusedByName
refused_by_name desk d nodes path dir found c f e none =
    undone-does desk d nodes none (name-undone d.call found d.reply e)
    (comes_in nodes desk.creds d.call d.made path dir c ∙ name-refused nodes desk.creds d.made path dir d.call found d.reply c.on f e)

-- the checks at a file, by what is seen of it
sees : (nodes : Nodes) (creds : Creds) (call : Call) (n : ℕ) (x : Node) (r : Rights) (count : ℕ) (o : Option Reply) → rights_of x ≡ r → count_in nodes n ≡ count
    → entry_refusal creds r count call ≡ o → entry_refusal creds (rights_of x) (count_in nodes n) call ≡ o
sees nodes creds call n x r count o same many e = ap (λ q. entry_refusal creds q (count_in nodes n) call) same ∙ ap (λ k. entry_refusal creds r k call) many ∙ e

pub refused_at_entry : RefusedAtEntry
refused_at_entry desk d nodes path dir n r count c f has many e none =
    let x = mapped rights_of (node_at nodes n) r has in
    undone-does desk d nodes none (entry-undone desk.creds r count d.call d.reply e)
    (comes_in nodes desk.creds d.call d.made path dir c
    ∙ entry-refused nodes desk.creds d.made path dir n x.0 f x.1 d.call d.reply c.on
    (sees nodes desk.creds d.call n x.0 r count (Some d.reply) x.2 many e))

pub makes_entry : MakesEntry
makes_entry desk d nodes path dir c makes f free low reply =
    let both : (makes_file d.call && is_done d.reply) ≡ true = ap (λ t. t && is_done d.reply) makes ∙ ap is_done reply in
    let P : Bool → Type 0 = λ t. MatchBool t ((node_at nodes d.made ≡ None) × (d.made ≡ 0 → ⊥)) (d.made ≡ 0) in
    let fits : MadeFits nodes d = subst P (sym both) (free, low) in
    does_as desk d nodes fits (done (with_node nodes d.made (made_in desk.creds dir d.call)) IsDone)
    (comes_in nodes desk.creds d.call d.made path dir c ∙ name-free nodes desk.creds d.made path dir d.call c.on makes f)
    reply (inl (ap lacks_room reply))

pub removes_entry : RemovesEntry
removes_entry desk d nodes path dir n r count c removes f has many e reply none =
    let x = mapped rights_of (node_at nodes n) r has in
    does_as desk d nodes (makes_nothing nodes d (ap (λ t. t && is_done d.reply) (removes-none d.call removes)) none) (done (with_node nodes n None) IsDone)
    (comes_in nodes desk.creds d.call d.made path dir c
    ∙ entry-goes nodes desk.creds d.made path dir n x.0 f x.1 d.call c.on removes (sees nodes desk.creds d.call n x.0 r count None x.2 many e))
    reply (inl (ap lacks_room reply))

-- want of room is no answer
lacks-undone : (call : Call) (reply : Reply) → LacksRoom call reply → is_done reply ≡ false
lacks-undone call reply l = search arith

pub no_room_to_make : NoRoomToMake
no_room_to_make desk d nodes path dir c makes f lacks' none =
    lacks_as desk d nodes (makes_nothing nodes d (and_right (makes_file d.call) (is_done d.reply) (lacks-undone d.call d.reply lacks')) none) lacks'
    (ap (λ (a : Applied). is_done a.reply) (comes_in nodes desk.creds d.call d.made path dir c ∙ name-free nodes desk.creds d.made path dir d.call c.on makes f))

-- ---- renames

-- a rename goes where its two walks go
goes_across : (nodes : Nodes) (creds : Creds) (call : Call) (made : ℕ) (from to : Path) → call ≡ Rename from to → early_refusal call ≡ None
    → applied nodes creds call made
    ≡ reached nodes (walk_into nodes creds (write_paths call) (dir_of from)) (λ dir. reached nodes (walk_into nodes creds (write_paths call) (dir_of to)) (across nodes from to dir))
goes_across nodes creds call made from to on = search (arith, three_pass)

two-reached : (nodes : Nodes) (r s : Result ℕ Reply) (g : ℕ → ℕ → Applied) (reply : Reply) → and_then r (λ dir. s) ≡ Err reply
    → reached nodes r (λ dir. reached nodes s (g dir)) ≡ refused nodes reply
two-reached nodes r s g reply e = search arith

renames-none : (call : Call) (reply : Reply) (from to : Path) → call ≡ Rename from to → (makes_file call && is_done reply) ≡ false
renames-none call reply from to on = ap (λ c. makes_file c && is_done reply) on

pub rename_refused_by_walk : RenameRefusedByWalk
rename_refused_by_walk desk d nodes from to on early w none =
    refused-does desk d nodes none (renames-none d.call d.reply from to on)
    (goes_across nodes desk.creds d.call d.made from to on early
    ∙ two-reached nodes (walk_into nodes desk.creds (write_paths d.call) (dir_of from)) (walk_into nodes desk.creds (write_paths d.call) (dir_of to))
    (across nodes from to) d.reply w)

-- where they come to two directories
comes_across : (nodes : Nodes) (creds : Creds) (call : Call) (made : ℕ) (from to : Path) (dir new_dir : ℕ) → ComesAcross nodes creds call from to dir new_dir
    → applied nodes creds call made ≡ across nodes from to dir new_dir
comes_across nodes creds call made from to dir new_dir c = search (arith, goes_across)

module _ (nodes : Nodes) (from to : Path) (dir new_dir : ℕ) where
  -- what a rename makes of the file that has the old name
  abbrev renamed : ℕ → Node → Applied
  renamed n x = cond (is_some (find_named nodes new_dir (name_of to))) (refused nodes Exists) (done (with_node nodes n (Some (placed_as new_dir (name_of to) x))) IsDone)

  across-refused : (found there : Option ℕ) (reply : Reply) → find_named nodes dir (name_of from) ≡ found → find_named nodes new_dir (name_of to) ≡ there
      → rename_refusal found there ≡ Some reply → across nodes from to dir new_dir ≡ refused nodes reply
  across-refused None there reply f t e =
      ap (λ q. reached nodes (ok_or q NotFound) (λ k. of_node nodes (node_at nodes k) (renamed k))) f ∙ ap (refused nodes) (let k : Some NotFound ≡ Some reply = e in cc k)
  across-refused (Some n) (Some m) reply f t e =
      let x = find_named-Child nodes dir (name_of from) n f in
      search (arith, listed-at)
  across-refused (Some n) None reply f t e = absurd (let wrong : None ≡ Some reply = e in cc wrong)

  across-done : (n : ℕ) → find_named nodes dir (name_of from) ≡ Some n → find_named nodes new_dir (name_of to) ≡ None
      → across nodes from to dir new_dir ≡ done (with_place n new_dir (name_of to) nodes) IsDone
  across-done n f t =
      let x = find_named-Child nodes dir (name_of from) n f in
      search (arith, listed-at)

  -- in the directory in which it was it has but another name
  place-name : (n : ℕ) → find_named nodes dir (name_of from) ≡ Some n → with_place n dir (name_of to) nodes ≡ with_name n (name_of to) nodes
  place-name n f =
      let x = find_named-Child nodes dir (name_of from) n f in
      search arith

pub rename_refused_by_name : RenameRefusedByName
rename_refused_by_name desk d nodes from to dir new_dir found there c f t e none =
    refused-does desk d nodes none (renames-none d.call d.reply from to c.on)
    (comes_across nodes desk.creds d.call d.made from to dir new_dir c ∙ across-refused nodes from to dir new_dir found there d.reply f t e)

pub moves_entry : MovesEntry
moves_entry desk d nodes from to dir new_dir n c f t reply none =
    does_as desk d nodes (makes_nothing nodes d (renames-none d.call d.reply from to c.on) none) (done (with_place n new_dir (name_of to) nodes) IsDone)
    (comes_across nodes desk.creds d.call d.made from to dir new_dir c ∙ across-done nodes from to dir new_dir n f t)
    reply (inl (ap lacks_room reply))

pub retitles_entry : RetitlesEntry
retitles_entry desk d nodes from to dir n c f t reply none =
    subst (DoesCall desk d nodes) (place-name nodes from to dir dir n f) (moves_entry desk d nodes from to dir dir n c f t reply none)

pub no_room_to_move : NoRoomToMove
no_room_to_move desk d nodes from to dir new_dir n c f t lacks' none =
    lacks_as desk d nodes (makes_nothing nodes d (renames-none d.call d.reply from to c.on) none) lacks'
    (ap (λ (a : Applied). is_done a.reply) (comes_across nodes desk.creds d.call d.made from to dir new_dir c ∙ across-done nodes from to dir new_dir n f t))

-- ---- lists of names

-- what a list makes of the file to which its walk came
abbrev list_at : Nodes → Creds → ℕ → ℕ → Node → Applied
list_at nodes creds from n x =
    cond (not (is_directory x.kind)) (refused nodes NotDir) (cond (lacks creds ToRead x) (refused nodes Denied) (done nodes (Names (count_in nodes n) (take 64 (drop from (names_in nodes n))))))

lists-none : (call : Call) (reply : Reply) (path : Path) (from : ℕ) → call ≡ ListNames path from → (makes_file call && is_done reply) ≡ false
lists-none call reply path from on = ap (λ c. makes_file c && is_done reply) on

list_goes : (nodes : Nodes) (creds : Creds) (call : Call) (made : ℕ) (path : Path) (from : ℕ) (r : Result ℕ Reply) → call ≡ ListNames path from
    → walk nodes creds [] path ≡ r
    → applied nodes creds call made ≡ reached nodes r (λ n. of_node nodes (node_at nodes n) (list_at nodes creds from n))
list_goes nodes creds call made path from r on w = search arith

pub list_refused_by_walk : ListRefusedByWalk
list_refused_by_walk desk d nodes path from on w none =
    refused-does desk d nodes none (lists-none d.call d.reply path from on) (list_goes nodes desk.creds d.call d.made path from (Err d.reply) on w)

pub list_refused_by_check : ListRefusedByCheck
list_refused_by_check desk d nodes path from n r on w has e none =
    let x = mapped rights_of (node_at nodes n) r has in
    let here : list_at nodes desk.creds from n x.0 ≡ refused nodes d.reply =
    two_refuse nodes (done nodes (Names (count_in nodes n) (take 64 (drop from (names_in nodes n))))) NotDir Denied d.reply (not (is_directory x.0.kind)) (lacks desk.creds ToRead x.0) (ap (list_refusal desk.creds) x.2 ∙ e) in
    refused-does desk d nodes none (lists-none d.call d.reply path from on)
    (list_goes nodes desk.creds d.call d.made path from (Ok n) on w ∙ ap (λ o. of_node nodes o (list_at nodes desk.creds from n)) x.1 ∙ here)

pub lists_names : ListsNames
lists_names desk d nodes path from n r count names on w has e many named reply none =
    let x = mapped rights_of (node_at nodes n) r has in
    search (arith, does_as, makes_nothing, lists-none, list_goes, two_pass)

-- ---- trees

pub done_is_tree : DoneIsTree
done_is_tree desk d nodes after tree c = subst IsTree c.2 (tree_stays nodes desk.creds d (call_nodes desk.creds nodes d) tree c.0 c.1)

pub shown_is_tree : ShownIsTree
shown_is_tree desk h h' d change does nodes nodes' rows may = done_is_tree desk d nodes' (change nodes') may.tree (does nodes nodes' rows may)
