-- How a walk and the calls on a file are decided by what a session sees.
use Rattle.trio_laws.proofs.Words.{◌&&◌, ◌+◌, ◌∙◌, ◌≡◌, ◌⊎◌, Applied, Bool, Call, Creds, Denied, DeskSeen, DoesCall, Done, Err, IsDir, IsDone, LacksRoom, MadeFits, MatchBool, Node, Nodes, None, NotFound, Ok, Path, Reply, Rights, Some, Stat, ToRead, ToWrite, Truncate, [], ap, applied, arith, cond, done, drop, false, false≢true, inr, is_directory, is_done, lacks, lacks_room, length, makes_file, nat_lt, node_at, not, refl, refused, resized, rights_of, some_one, subst, sym, take, true, walk, with_node, ℕ}
use Rattle.trio_rights.specs.ByKind.{is_link}
use Rattle.trio_nodes.specs.declared.call.Answer.TheVariants.{Count, Bytes, Stat as IsStat}
use Rattle.trio_nodes.specs.declared.call.Call.TheVariants.{Write, Read, Readlink, Guard}
use Rattle.trio_nodes.specs.declared.call.Reply.TheVariants.{TooLarge, IsLink, NotLink}
use Rattle.trio_nodes.specs.Apply.{at_file, largest_size, put_at, size_of, wants_pages}
use Rattle.trio_laws.specs.session.FileCalls.{DoneByBytes, EntersBy, RefusedByCheck, RefusedByWalk, RefusedForRoom, StatsDirectory, WalksBy, answer_of, changed_by, file_path, refusal}
use Rattle.trio_laws.proofs.session.LentNodes.{mapped}

-- ---- walks

pub enters_by : EntersBy
enters_by nodes creds need n r e = search (arith, mapped)

pub walks_by : WalksBy
walks_by nodes creds writes passed at name names r found e f = search (arith, enters_by)

-- ---- calls

-- what a call on a file makes of the file to which its walk came
abbrev step : Nodes → Creds → Call → ℕ → Node → Applied
step nodes creds (Write path at bytes) n x =
    cond (is_directory x.kind) (refused nodes IsDir)
    (cond (is_link x.kind) (refused nodes IsLink)
    (cond (lacks creds ToWrite x) (refused nodes Denied)
    (cond (nat_lt largest_size (at + length bytes)) (refused nodes TooLarge)
    (done (with_node nodes n (Some (record x { bytes = put_at at bytes x.bytes }))) (Count (length bytes))))))
step nodes creds (Read path at len) n x =
    cond (is_directory x.kind) (refused nodes IsDir)
    (cond (is_link x.kind) (refused nodes IsLink) (cond (lacks creds ToRead x) (refused nodes Denied) (done nodes (Bytes (take len (drop at x.bytes))))))
step nodes creds (Truncate path size) n x =
    cond (is_directory x.kind) (refused nodes IsDir)
    (cond (is_link x.kind) (refused nodes IsLink)
    (cond (lacks creds ToWrite x) (refused nodes Denied)
    (cond (nat_lt largest_size size) (refused nodes TooLarge) (done (with_node nodes n (Some (record x { bytes = resized size x.bytes }))) IsDone))))
step nodes creds (Stat path) n x = cond (lacks creds ToRead x) (refused nodes Denied) (done nodes (IsStat x.kind x.mode x.uid x.gid (size_of nodes n x)))
step nodes creds (Readlink path) n x = cond (not (is_link x.kind)) (refused nodes NotLink) (cond (lacks creds ToRead x) (refused nodes Denied) (done nodes (Bytes x.bytes)))
step nodes creds (Guard path on) n x =
    cond (is_directory x.kind) (refused nodes IsDir)
    (cond (is_link x.kind) (refused nodes IsLink)
    (cond (lacks creds ToWrite x) (refused nodes Denied) (done (with_node nodes n (Some (record x { guard = on }))) IsDone)))
step nodes creds _ n x = refused nodes NotFound

-- a call on a file goes where its walk goes
goes : (nodes : Nodes) (creds : Creds) (call : Call) (made : ℕ) (path : Path) → file_path call ≡ Some path → applied nodes creds call made ≡ at_file nodes creds path (step nodes creds call)
goes nodes creds call made path e = search arith

makes_none : (call : Call) (path : Path) → file_path call ≡ Some path → makes_file call ≡ false
makes_none call path e = search arith

-- a call that makes no file, by what it is or by its reply, has no number
pub makes_nothing : (nodes : Nodes) (d : Done) → (makes_file d.call && is_done d.reply) ≡ false → d.made ≡ 0 → MadeFits nodes d
makes_nothing nodes d e none =
    let P : Bool → Type 0 = λ t. MatchBool t ((node_at nodes d.made ≡ None) × (d.made ≡ 0 → ⊥)) (d.made ≡ 0) in subst P (sym e) none

module _ (desk : DeskSeen) (d : Done) (nodes : Nodes) (made : MadeFits nodes d) where
  -- the call makes this of the nodes, with this reply
  pub does_as : (a : Applied) → applied nodes desk.creds d.call d.made ≡ a → d.reply ≡ a.reply → (lacks_room d.reply ≡ false) ⊎ (a.nodes ≡ nodes) → DoesCall desk d nodes a.nodes
  does_as a e r room = search arith

  -- it would be done, but there is no room for it
  pub lacks_as : LacksRoom d.call d.reply → is_done (applied nodes desk.creds d.call d.made).reply ≡ true → DoesCall desk d nodes nodes
  lacks_as lacks' could = search arith

module _ (desk : DeskSeen) (d : Done) (nodes : Nodes) (path : Path) (is : file_path d.call ≡ Some path) (none : d.made ≡ 0) where
  made_fits : MadeFits nodes d
  made_fits = makes_nothing nodes d (ap (λ t. t && is_done d.reply) (makes_none d.call path is)) none

  does_by : (a : Applied) → applied nodes desk.creds d.call d.made ≡ a → d.reply ≡ a.reply → (lacks_room d.reply ≡ false) ⊎ (a.nodes ≡ nodes) → DoesCall desk d nodes a.nodes
  does_by = does_as desk d nodes made_fits

  by_walk : walk nodes desk.creds [] path ≡ Err d.reply → DoesCall desk d nodes nodes
  by_walk w = search (arith, does_by, goes)

  module _ (n : ℕ) (w : walk nodes desk.creds [] path ≡ Ok n) (x : Node) (at : node_at nodes n ≡ Some x) where
    comes : applied nodes desk.creds d.call d.made ≡ step nodes desk.creds d.call n x
    comes = search (arith, goes)

-- ---- checks, one after another

module _ (nodes : Nodes) (good : Applied) where
  pub first_refuses : (a reply : Reply) (s : Bool) → cond s (Some a) None ≡ Some reply → cond s (refused nodes a) good ≡ refused nodes reply
  first_refuses a reply true e = ap (refused nodes) (let k : Some a ≡ Some reply = e in cc k)
  first_refuses a reply false e = absurd (let wrong : None ≡ Some reply = e in cc wrong)

  pub first_passes : (a : Reply) (s : Bool) → cond s (Some a) None ≡ None → cond s (refused nodes a) good ≡ good
  first_passes a true e = absurd (let wrong : Some a ≡ None = e in cc wrong)
  first_passes a false e = refl

  pub two_refuse : (a b reply : Reply) (s t : Bool) → cond s (Some a) (cond t (Some b) None) ≡ Some reply → cond s (refused nodes a) (cond t (refused nodes b) good) ≡ refused nodes reply
  two_refuse a b reply true t e = ap (refused nodes) (let k : Some a ≡ Some reply = e in cc k)
  two_refuse a b reply false t e = first_refuses b reply t e

  pub two_pass : (a b : Reply) (s t : Bool) → cond s (Some a) (cond t (Some b) None) ≡ None → cond s (refused nodes a) (cond t (refused nodes b) good) ≡ good
  two_pass a b true t e = absurd (let wrong : Some a ≡ None = e in cc wrong)
  two_pass a b false t e = first_passes b t e

  pub three_refuse : (a b c reply : Reply) (s t v : Bool) → cond s (Some a) (cond t (Some b) (cond v (Some c) None)) ≡ Some reply → cond s (refused nodes a) (cond t (refused nodes b) (cond v (refused nodes c) good)) ≡ refused nodes reply
  three_refuse a b c reply true t v e = ap (refused nodes) (let k : Some a ≡ Some reply = e in cc k)
  three_refuse a b c reply false t v e = two_refuse b c reply t v e

  pub three_pass : (a b c : Reply) (s t v : Bool) → cond s (Some a) (cond t (Some b) (cond v (Some c) None)) ≡ None → cond s (refused nodes a) (cond t (refused nodes b) (cond v (refused nodes c) good)) ≡ good
  three_pass a b c true t v e = absurd (let wrong : Some a ≡ None = e in cc wrong)
  three_pass a b c false t v e = two_pass b c t v e

  pub four_refuse : (a b c f reply : Reply) (s t v w : Bool) → cond s (Some a) (cond t (Some b) (cond v (Some c) (cond w (Some f) None))) ≡ Some reply
      → cond s (refused nodes a) (cond t (refused nodes b) (cond v (refused nodes c) (cond w (refused nodes f) good))) ≡ refused nodes reply
  four_refuse a b c f reply true t v w e = ap (refused nodes) (let k : Some a ≡ Some reply = e in cc k)
  four_refuse a b c f reply false t v w e = three_refuse b c f reply t v w e

  pub four_pass : (a b c f : Reply) (s t v w : Bool) → cond s (Some a) (cond t (Some b) (cond v (Some c) (cond w (Some f) None))) ≡ None
      → cond s (refused nodes a) (cond t (refused nodes b) (cond v (refused nodes c) (cond w (refused nodes f) good))) ≡ good
  four_pass a b c f true t v w e = absurd (let wrong : Some a ≡ None = e in cc wrong)
  four_pass a b c f false t v w e = three_pass b c f t v w e

-- what refuses at the file, refuses the step
step_refused : (nodes : Nodes) (creds : Creds) (call : Call) (n : ℕ) (x : Node) (reply : Reply) → refusal creds (rights_of x) call ≡ Some reply → step nodes creds call n x ≡ refused nodes reply
step_refused nodes creds call n x reply e = search (arith, four_refuse, three_refuse, two_refuse, first_refuses)

-- where nothing refuses, it is done
step_done : (nodes : Nodes) (creds : Creds) (call : Call) (n : ℕ) (x : Node) (path : Path) → file_path call ≡ Some path → node_at nodes n ≡ Some x → is_directory x.kind ≡ false → refusal creds (rights_of x) call ≡ None
    → step nodes creds call n x ≡ done (changed_by call n x.bytes nodes) (answer_of (rights_of x) x.bytes (length x.bytes) call)
step_done nodes creds call n x path is there kind e = search (arith, four_pass, three_pass, two_pass, first_passes)

-- and one that wants pages would be done, were there room
step_is_done : (nodes : Nodes) (creds : Creds) (call : Call) (n : ℕ) (x : Node) (path : Path) → file_path call ≡ Some path → wants_pages call ≡ true → refusal creds (rights_of x) call ≡ None → is_done (step nodes creds call n x).reply ≡ true
step_is_done nodes creds call n x path is wants e = search (arith, four_pass, false≢true)

-- ---- the laws

pub refused_by_walk : RefusedByWalk
refused_by_walk desk d nodes path is w none = by_walk desk d nodes path is none w

pub refused_by_check : RefusedByCheck
refused_by_check desk d nodes path n r is w has e none =
    let x = mapped rights_of (node_at nodes n) r has in
    does_by desk d nodes path is none (refused nodes d.reply)
    (comes desk d nodes path is none n w x.0 x.1 ∙ step_refused nodes desk.creds d.call n x.0 d.reply (ap (λ q. refusal desk.creds q d.call) x.2 ∙ e))
    refl (inr refl)

pub done_by_bytes : DoneByBytes
done_by_bytes desk d nodes path n r old is w has kind bytes e reply none =
    let x = mapped rights_of (node_at nodes n) r has in
    let y = mapped (λ (z : Node). z.bytes) (node_at nodes n) old bytes in
    let one : y.0 ≡ x.0 = some_one (node_at nodes n) y.0 x.0 y.1 x.1 in
    let content : x.0.bytes ≡ old = sym (ap (λ (z : Node). z.bytes) one) ∙ y.2 in
    let file : is_directory x.0.kind ≡ false = ap (λ (z : Rights). is_directory z.kind) x.2 ∙ kind in
    search (arith, does_by, comes, step_done)

pub stats_directory : StatsDirectory
stats_directory desk d nodes path n r count is w has dir many e reply none = search (arith, mapped, does_by, comes, first_passes)

pub refused_for_room : RefusedForRoom
refused_for_room desk d nodes path n r wanted free is wants w has e reply less none =
    let x = mapped rights_of (node_at nodes n) r has in
    let a : applied nodes desk.creds d.call d.made ≡ step nodes desk.creds d.call n x.0 = comes desk d nodes path is none n w x.0 x.1 in
    let could : is_done (applied nodes desk.creds d.call d.made).reply ≡ true =
    ap (λ (z : Applied). is_done z.reply) a ∙ step_is_done nodes desk.creds d.call n x.0 path is wants (ap (λ q. refusal desk.creds q d.call) x.2 ∙ e) in
    lacks_as desk d nodes (made_fits desk d nodes path is none) (subst (λ q. LacksRoom d.call q) (sym reply) (wants, less)) could
