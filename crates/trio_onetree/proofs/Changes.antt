-- Which nodes a call changes.
use Rattle.trio_onetree.proofs.Words.{◌+◌, ◌||◌, ◌∙◌, ◌∷◌, ◌≡◌, Answer, Applied, AreNames, Bool, Bytes, Call, Chmod, Count, Create, Creds, Denied, Directory, Exists, IntoItself, IsDir, IsDone, IsStat, Kind, List, ListNames, Mkdir, Mode, Node, Nodes, None, NotDir, NotEmpty, NotFound, Option, Path, Read, Regular, Rename, Replied, Reply, Rmdir, Some, Stat, ToRead, ToWrite, TooLarge, Truncate, Unlink, Write, [], ap, applied, both_ways, changed_node, changed_number, chmod, cond, count_in, dir_of, done, drop, eqb, false, find_named, found_from, in_directory, inl, inr, is_above, is_directory, is_done, is_root, is_some, lacks, largest_size, length, list, listed_in, ltb, make, name_of, names_in, new_node, node_at, not, only_looks, path_found, put_at, read, refl, refused, rename, resized, rmdir, size_of, stat, subst, sym, take, true, truncate, unlink, with_node, write, ℕ, IsLink, NotLink, Link, Symlink, Readlink, Guard, guard, is_link, link_mode, readlink}
use Rattle.trio_nodes.specs.declared.call.Reply.TheVariants.{NoSpace, NoInodes}
use Rattle.trio_nodes.specs.Apply.{LacksRoom}
use Rattle.trio_onetree.specs.CallLaws.{made_node, rewritten, guarded_node, moved, ChangesJust, CallChangesOne}
use Rattle.trio_nodes.specs.After.{moded_node}
use Rattle.trio_onetree.proofs.Children.{found-more, found-one}
use Rattle.trio_onetree.proofs.CallCases.{Entered, dir_and_name, walk_found, on_if, on_file_at, on_directory, on_listed}

module _ (nodes : Nodes) (creds : Creds) (call : Call) (made : ℕ) where
  abbrev C : Applied → Type 0
  C a = ChangesJust nodes creds call made a.reply a.nodes

  stops : (reply : Reply) → is_done reply ≡ false → C (refused nodes reply)
  stops reply undone = record { refused = λ f. refl; looks = λ l. refl; done = λ d. absurd (both_ways (is_done reply) undone d) }

  same : (b : Bool) (reply : Reply) (c : Applied) → is_done reply ≡ false → (b ≡ false → C c) → C (cond b (refused nodes reply) c)
  same b reply c undone else' = on_if nodes creds C stops b (refused nodes reply) c (λ is. stops reply undone) else'

  looked : only_looks call ≡ true → (answer : Answer) → C (done nodes answer)
  looked is answer = record { refused = λ f. refl; looks = λ l. refl; done = λ d not_look. absurd (both_ways (only_looks call) not_look is) }

  changed : only_looks call ≡ false → (n : ℕ) (new : Option Node) (answer : Answer) → changed_number nodes call made ≡ Some n → new ≡ changed_node nodes creds call (node_at nodes n) → C (done (with_node nodes n new) answer)
  changed not_look n new answer number is = record {
    refused = λ f. absurd (both_ways true f refl);
    looks = λ l. absurd (both_ways (only_looks call) not_look l);
    done = λ d l. (n, number, ap (with_node nodes n) is);
  }

module _ (nodes : Nodes) (creds : Creds) where
  -- the file of a name in a directory that was entered
  file_found : (writes : List Path) (path : Path) (dir n : ℕ) → is_root path ≡ false → Entered nodes creds writes (dir_of path) dir → find_named nodes dir (name_of path) ≡ Some n → path_found nodes path ≡ Some n
  file_found writes path dir n named d f =
      root_there (is_some (node_at nodes 1)) d.found
      ∙ ap (found_from nodes 1) (sym (dir_and_name path named)) ∙ found-more nodes 1 dir n (dir_of path) (name_of path ∷ []) d.leads (found-one nodes dir n (name_of path) f)
    where
      root_there : (b : Bool) → cond b (found_from nodes 1 (dir_of path)) None ≡ Some dir → cond b (found_from nodes 1 path) None ≡ found_from nodes 1 path
      root_there true e = refl
      root_there false e = absurd cc

  makes : (call : Call) (kind : Kind) (path : Path) (mode : Mode) (bytes : List ℕ) (made : ℕ) → only_looks call ≡ false → changed_number nodes call made ≡ Some made → ((old : Option Node) → changed_node nodes creds call old ≡ made_node creds kind path mode bytes (path_found nodes (dir_of path))) → C nodes creds call made (make nodes creds kind path mode bytes made)
  makes call kind path mode bytes made not_look number is =
      let Q : Applied → Type 0 = C nodes creds call made in
      let end : ℕ → Applied = λ dir. done (with_node nodes made (Some (new_node creds kind dir path mode bytes))) IsDone in
      let new : ℕ → Applied = λ dir. cond (is_some (find_named nodes dir (name_of path))) (refused nodes Exists) (end dir) in
      same nodes creds call made (is_root path) Exists (in_directory nodes creds (dir_of path ∷ []) path new) refl (λ named.
      on_directory nodes creds Q (stops nodes creds call made) (dir_of path ∷ []) path new (λ dir d.
      same nodes creds call made (is_some (find_named nodes dir (name_of path))) Exists (end dir) refl (λ free.
      changed nodes creds call made not_look made (Some (new_node creds kind dir path mode bytes)) IsDone number
      (sym (is (node_at nodes made) ∙ ap (made_node creds kind path mode bytes) d.found)))))

  -- what is done to a file that has places: it is neither a directory nor a link
  abbrev to_regular : Node → Applied → Applied
  to_regular x a = cond (is_directory x.kind) (refused nodes IsDir) (cond (is_link x.kind) (refused nodes IsLink) a)

  on_regular : (call : Call) (made : ℕ) (x : Node) (a : Applied) → C nodes creds call made a → C nodes creds call made (to_regular x a)
  on_regular call made x a goes =
      same nodes creds call made (is_directory x.kind) IsDir (cond (is_link x.kind) (refused nodes IsLink) a) refl (λ file.
      same nodes creds call made (is_link x.kind) IsLink a refl (λ regular. goes))

  writes_bytes : (path : Path) (at : ℕ) (bytes : List ℕ) (made : ℕ) → C nodes creds (Write path at bytes) made (write nodes creds path at bytes)
  writes_bytes path at bytes made =
      let call : Call = Write path at bytes in
      let Q : Applied → Type 0 = C nodes creds call made in
      let new : ℕ → Node → Applied = λ n x. done (with_node nodes n (Some (record x { bytes = put_at at bytes x.bytes }))) (Count (length bytes)) in
      let may : ℕ → Node → Applied = λ n x. cond (lacks creds ToWrite x) (refused nodes Denied) (cond (ltb largest_size (at + length bytes)) (refused nodes TooLarge) (new n x)) in
      on_file_at nodes creds Q (stops nodes creds call made) path (λ n x. to_regular x (may n x)) (λ n x w there.
      on_regular call made x (may n x) (
      same nodes creds call made (lacks creds ToWrite x) Denied (cond (ltb largest_size (at + length bytes)) (refused nodes TooLarge) (new n x)) refl (λ may.
      same nodes creds call made (ltb largest_size (at + length bytes)) TooLarge (new n x) refl (λ fits.
      changed nodes creds call made refl n (Some (record x { bytes = put_at at bytes x.bytes })) (Count (length bytes)) (walk_found nodes creds [] path n x w there) (sym (ap (rewritten (put_at at bytes)) there))))))

  truncates : (path : Path) (size made : ℕ) → C nodes creds (Truncate path size) made (truncate nodes creds path size)
  truncates path size made =
      let call : Call = Truncate path size in
      let Q : Applied → Type 0 = C nodes creds call made in
      let new : ℕ → Node → Applied = λ n x. done (with_node nodes n (Some (record x { bytes = resized size x.bytes }))) IsDone in
      let may : ℕ → Node → Applied = λ n x. cond (lacks creds ToWrite x) (refused nodes Denied) (cond (ltb largest_size size) (refused nodes TooLarge) (new n x)) in
      on_file_at nodes creds Q (stops nodes creds call made) path (λ n x. to_regular x (may n x)) (λ n x w there.
      on_regular call made x (may n x) (
      same nodes creds call made (lacks creds ToWrite x) Denied (cond (ltb largest_size size) (refused nodes TooLarge) (new n x)) refl (λ may.
      same nodes creds call made (ltb largest_size size) TooLarge (new n x) refl (λ fits.
      changed nodes creds call made refl n (Some (record x { bytes = resized size x.bytes })) IsDone (walk_found nodes creds [] path n x w there) (sym (ap (rewritten (resized size)) there))))))

  guards : (path : Path) (on : Bool) (made : ℕ) → C nodes creds (Guard path on) made (guard nodes creds path on)
  guards path on made =
      let call : Call = Guard path on in
      let Q : Applied → Type 0 = C nodes creds call made in
      let new : ℕ → Node → Applied = λ n x. done (with_node nodes n (Some (record x { guard = on }))) IsDone in
      let may : ℕ → Node → Applied = λ n x. cond (lacks creds ToWrite x) (refused nodes Denied) (new n x) in
      on_file_at nodes creds Q (stops nodes creds call made) path (λ n x. to_regular x (may n x)) (λ n x w there.
      on_regular call made x (may n x) (
      same nodes creds call made (lacks creds ToWrite x) Denied (new n x) refl (λ may.
      changed nodes creds call made refl n (Some (record x { guard = on })) IsDone (walk_found nodes creds [] path n x w there) (sym (ap (guarded_node on) there)))))

  unlinks : (path : Path) (made : ℕ) → C nodes creds (Unlink path) made (unlink nodes creds path)
  unlinks path made =
      let call : Call = Unlink path in
      let Q : Applied → Type 0 = C nodes creds call made in
      let new : ℕ → Node → Applied = λ n x. cond (is_directory x.kind) (refused nodes IsDir) (done (with_node nodes n None) IsDone) in
      same nodes creds call made (is_root path) IsDir (in_directory nodes creds (dir_of path ∷ []) path (λ dir. listed_in nodes dir path new)) refl (λ named.
      on_directory nodes creds Q (stops nodes creds call made) (dir_of path ∷ []) path (λ dir. listed_in nodes dir path new) (λ dir d.
      on_listed nodes creds Q (stops nodes creds call made) dir path new (λ n x f there.
      same nodes creds call made (is_directory x.kind) IsDir (done (with_node nodes n None) IsDone) refl (λ file.
      changed nodes creds call made refl n None IsDone (file_found (dir_of path ∷ []) path dir n named d f) refl))))

  removes : (path : Path) (made : ℕ) → C nodes creds (Rmdir path) made (rmdir nodes creds path)
  removes path made =
      let call : Call = Rmdir path in
      let Q : Applied → Type 0 = C nodes creds call made in
      let new : ℕ → Node → Applied = λ n x. cond (not (is_directory x.kind)) (refused nodes NotDir) (cond (ltb 0 (count_in nodes n)) (refused nodes NotEmpty) (done (with_node nodes n None) IsDone)) in
      same nodes creds call made (is_root path) Denied (in_directory nodes creds (dir_of path ∷ []) path (λ dir. listed_in nodes dir path new)) refl (λ named.
      on_directory nodes creds Q (stops nodes creds call made) (dir_of path ∷ []) path (λ dir. listed_in nodes dir path new) (λ dir d.
      on_listed nodes creds Q (stops nodes creds call made) dir path new (λ n x f there.
      same nodes creds call made (not (is_directory x.kind)) NotDir (cond (ltb 0 (count_in nodes n)) (refused nodes NotEmpty) (done (with_node nodes n None) IsDone)) refl (λ is.
      same nodes creds call made (ltb 0 (count_in nodes n)) NotEmpty (done (with_node nodes n None) IsDone) refl (λ none.
      changed nodes creds call made refl n None IsDone (file_found (dir_of path ∷ []) path dir n named d f) refl)))))

  sets_mode : (path : Path) (mode : Mode) (made : ℕ) → C nodes creds (Chmod path mode) made (chmod nodes creds path mode)
  sets_mode path mode made =
      let call : Call = Chmod path mode in
      let Q : Applied → Type 0 = C nodes creds call made in
      let new : ℕ → Node → Applied = λ n x. cond (not (eqb creds.uid x.uid || eqb creds.uid 0)) (refused nodes Denied) (done (with_node nodes n (Some (record x { mode = mode }))) IsDone) in
      same nodes creds call made (is_root path) Denied (in_directory nodes creds [] path (λ dir. listed_in nodes dir path new)) refl (λ named.
      on_directory nodes creds Q (stops nodes creds call made) [] path (λ dir. listed_in nodes dir path new) (λ dir d.
      on_listed nodes creds Q (stops nodes creds call made) dir path new (λ n x f there.
      same nodes creds call made (not (eqb creds.uid x.uid || eqb creds.uid 0)) Denied (done (with_node nodes n (Some (record x { mode = mode }))) IsDone) refl (λ may.
      changed nodes creds call made refl n (Some (record x { mode = mode })) IsDone (file_found [] path dir n named d f) (sym (ap (moded_node mode.0) there))))))

  moves : (from to : Path) (made : ℕ) → C nodes creds (Rename from to) made (rename nodes creds from to)
  moves from to made =
      let call : Call = Rename from to in
      let Q : Applied → Type 0 = C nodes creds call made in
      let writes : List Path = dir_of from ∷ dir_of to ∷ [] in
      let end : ℕ → ℕ → Node → Applied = λ new_dir n x. done (with_node nodes n (Some (record x { parent = new_dir; name = name_of to }))) IsDone in
      let new : ℕ → ℕ → Node → Applied = λ new_dir n x. cond (is_some (find_named nodes new_dir (name_of to))) (refused nodes Exists) (end new_dir n x) in
      let into : ℕ → ℕ → Applied = λ dir new_dir. listed_in nodes dir from (new new_dir) in
      let out : ℕ → Applied = λ dir. in_directory nodes creds writes to (into dir) in
      same nodes creds call made (is_root from) Denied (cond (is_root to) (refused nodes Exists) (cond (is_above from to) (refused nodes IntoItself) (in_directory nodes creds writes from out))) refl (λ named.
      same nodes creds call made (is_root to) Exists (cond (is_above from to) (refused nodes IntoItself) (in_directory nodes creds writes from out)) refl (λ to_named.
      same nodes creds call made (is_above from to) IntoItself (in_directory nodes creds writes from out) refl (λ apart.
      on_directory nodes creds Q (stops nodes creds call made) writes from out (λ dir d.
      on_directory nodes creds Q (stops nodes creds call made) writes to (into dir) (λ new_dir e.
      on_listed nodes creds Q (stops nodes creds call made) dir from (new new_dir) (λ n x f there.
      same nodes creds call made (is_some (find_named nodes new_dir (name_of to))) Exists (end new_dir n x) refl (λ free.
      changed nodes creds call made refl n (Some (record x { parent = new_dir; name = name_of to })) IsDone (file_found writes from dir n named d f)
      (sym (ap (λ o. moved (name_of to) o (node_at nodes n)) e.found ∙ ap (moved (name_of to) (Some new_dir)) there)))))))))

  reads : (path : Path) (at len made : ℕ) → C nodes creds (Read path at len) made (read nodes creds path at len)
  reads path at len made =
      let call : Call = Read path at len in
      let new : ℕ → Node → Applied = λ n x. done nodes (Bytes (take len (drop at x.bytes))) in
      let may : ℕ → Node → Applied = λ n x. cond (lacks creds ToRead x) (refused nodes Denied) (new n x) in
      on_file_at nodes creds (C nodes creds call made) (stops nodes creds call made) path (λ n x. to_regular x (may n x)) (λ n x w there.
      on_regular call made x (may n x) (
      same nodes creds call made (lacks creds ToRead x) Denied (new n x) refl (λ may. looked nodes creds call made refl (Bytes (take len (drop at x.bytes))))))

  reads_text : (path : Path) (made : ℕ) → C nodes creds (Readlink path) made (readlink nodes creds path)
  reads_text path made =
      let call : Call = Readlink path in
      let new : ℕ → Node → Applied = λ n x. done nodes (Bytes x.bytes) in
      on_file_at nodes creds (C nodes creds call made) (stops nodes creds call made) path (λ n x. cond (not (is_link x.kind)) (refused nodes NotLink) (cond (lacks creds ToRead x) (refused nodes Denied) (new n x)))
      (λ n x w there.
      same nodes creds call made (not (is_link x.kind)) NotLink (cond (lacks creds ToRead x) (refused nodes Denied) (new n x)) refl (λ is.
      same nodes creds call made (lacks creds ToRead x) Denied (new n x) refl (λ may. looked nodes creds call made refl (Bytes x.bytes))))

  lists : (path : Path) (from made : ℕ) → C nodes creds (ListNames path from) made (list nodes creds path from)
  lists path from made =
      let call : Call = ListNames path from in
      let new : ℕ → Node → Applied = λ n x. done nodes (AreNames (count_in nodes n) (take 64 (drop from (names_in nodes n)))) in
      on_file_at nodes creds (C nodes creds call made) (stops nodes creds call made) path (λ n x. cond (not (is_directory x.kind)) (refused nodes NotDir) (cond (lacks creds ToRead x) (refused nodes Denied) (new n x)))
      (λ n x w there.
      same nodes creds call made (not (is_directory x.kind)) NotDir (cond (lacks creds ToRead x) (refused nodes Denied) (new n x)) refl (λ is.
      same nodes creds call made (lacks creds ToRead x) Denied (new n x) refl (λ may. looked nodes creds call made refl (AreNames (count_in nodes n) (take 64 (drop from (names_in nodes n)))))))

  tells : (path : Path) (made : ℕ) → C nodes creds (Stat path) made (stat nodes creds path)
  tells path made =
      let call : Call = Stat path in
      let new : ℕ → Node → Applied = λ n x. done nodes (IsStat x.kind x.mode x.uid x.gid (size_of nodes n x)) in
      on_file_at nodes creds (C nodes creds call made) (stops nodes creds call made) path (λ n x. cond (lacks creds ToRead x) (refused nodes Denied) (new n x))
      (λ n x w there. same nodes creds call made (lacks creds ToRead x) Denied (new n x) refl (λ may. looked nodes creds call made refl (IsStat x.kind x.mode x.uid x.gid (size_of nodes n x))))

  call_changes : (call : Call) (made : ℕ) → C nodes creds call made (applied nodes creds call made)
  call_changes (Mkdir path mode) made = makes (Mkdir path mode) Directory path mode [] made refl refl (λ old. refl)
  call_changes (Create path mode) made = makes (Create path mode) Regular path mode [] made refl refl (λ old. refl)
  call_changes (Write path at bytes) made = writes_bytes path at bytes made
  call_changes (Read path at len) made = reads path at len made
  call_changes (Truncate path size) made = truncates path size made
  call_changes (Unlink path) made = unlinks path made
  call_changes (Rmdir path) made = removes path made
  call_changes (Rename from to) made = moves from to made
  call_changes (ListNames path from) made = lists path from made
  call_changes (Stat path) made = tells path made
  call_changes (Chmod path mode) made = sets_mode path mode made
  call_changes (Symlink path text) made = makes (Symlink path text) Link path link_mode text made refl refl (λ old. refl)
  call_changes (Readlink path) made = reads_text path made
  call_changes (Guard path on) made = guards path on made

-- want of room isn't done
room_undone : (call : Call) (reply : Reply) → LacksRoom call reply → is_done reply ≡ false
room_undone call (Replied answer) lacks = absurd lacks
room_undone call NotFound lacks = refl
room_undone call Exists lacks = refl
room_undone call NotDir lacks = refl
room_undone call IsDir lacks = refl
room_undone call NotEmpty lacks = refl
room_undone call Denied lacks = refl
room_undone call IntoItself lacks = refl
room_undone call (NoSpace wanted free) lacks = refl
room_undone call (NoInodes wanted free) lacks = refl
room_undone call TooLarge lacks = refl
room_undone call IsLink lacks = refl
room_undone call NotLink lacks = refl

pub call_changes_one : CallChangesOne
call_changes_one nodes creds call made reply nodes' (inl a) =
    let P : Reply → Nodes → Type 0 = λ r ns. ChangesJust nodes creds call made r ns in
    subst (λ r. P r nodes') (sym a.0) (subst (P (applied nodes creds call made).reply) (sym a.1) (call_changes nodes creds call made))
call_changes_one nodes creds call made reply nodes' (inr a) =
    record { refused = λ f. a.2; looks = λ l. a.2; done = λ d. absurd (both_ways (is_done reply) (room_undone call reply a.0) d) }
