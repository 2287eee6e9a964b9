-- How a walk and the calls on a file are decided by what a session sees.
use Rattle.std.specs.Prelude.{◌≡◌, ℕ, ◌+◌, ◌<◌, nat_lt, Bool, false, not, List, ◌∷◌, ◌++◌, [], length, take, drop, Option, None, Some, Result, Ok, Err, if◌then◌else◌, IsTrue}
use Rattle.std.specs.Option.{ok_or, option_map}
use Rattle.trio_rights.specs.Rights.{permits}
use Rattle.trio_rights.specs.ByKind.{is_directory, is_link}
use Rattle.trio_rights.specs.declared.rights.Creds.{Creds}
use Rattle.trio_rights.specs.declared.rights.Need.{Need}
use Rattle.trio_rights.specs.declared.rights.Need.TheVariants.{Read as ToRead, Write as ToWrite}
use Rattle.trio_nodes.specs.declared.call.Answer.{Answer}
use Rattle.trio_nodes.specs.declared.call.Answer.TheVariants.{Done as IsDone, Count, Bytes, Stat as IsStat}
use Rattle.trio_nodes.specs.declared.call.Call.{Call}
use Rattle.trio_nodes.specs.declared.call.Call.TheVariants.{Write, Read, Truncate, Stat, Readlink, Guard}
use Rattle.trio_nodes.specs.declared.call.Done.{Done}
use Rattle.trio_nodes.specs.declared.call.Reply.{Reply}
use Rattle.trio_nodes.specs.declared.call.Reply.TheVariants.{Ok as Replied, NotFound, NotDir, IsDir, Denied, NoSpace, TooLarge, IsLink, NotLink}
use Rattle.trio_nodes.specs.Nodes.{Nodes, node_at, count_in, find_named}
use Rattle.trio_nodes.specs.Walk.{Path, and_then, enter, need_at, walk, walk_from}
use Rattle.trio_nodes.specs.Apply.{largest_size, put_at, resized, wants_pages}
use Rattle.trio_desk.specs.Contents.{Rights}
use Rattle.trio_desk.specs.Agrees.{HasRights}
use Rattle.trio_desk.specs.Call.{DeskSeen}
use Rattle.trio_desk.specs.Edits.{DoesCall}
use Rattle.trio_laws.specs.session.FileEdits.{with_content, with_guarded}

-- ---- walks

-- these rights give what is needed
abbrev pub gives : Creds → Need → Rights → Bool
gives creds need r = permits creds r.kind r.mode r.uid r.gid need

-- a directory is entered by its kind and its rights
abbrev pub enters : Creds → Need → ℕ → Rights → Result ℕ Reply
enters creds need n r =
    if not (is_directory r.kind) then Err NotDir else (if not (gives creds need r) then Err Denied else Ok n)

-- So it is in nodes of which these are the rights of that number.
abbrev pub EntersBy : Type 0
EntersBy =
    (nodes : Nodes) (creds : Creds) (need : Need) (n : ℕ) (r : Rights)
    → HasRights r (node_at nodes n) → enter nodes creds need n ≡ enters creds need n r

-- One step of a walk: the directory is entered by its rights, and the walk goes on at what the name is found to be.
abbrev pub WalksBy : Type 0
WalksBy =
    (nodes : Nodes) (creds : Creds) (writes : List Path) (passed : Path) (at : ℕ) (name : List ℕ) (names : Path) (r : Rights) (found : Option ℕ)
    → HasRights r (node_at nodes at) → find_named nodes at name ≡ found
    → walk_from nodes creds writes passed at (name ∷ names)
    ≡ and_then (enters creds (need_at writes passed) at r)
    (λ dir. and_then (ok_or found NotFound) (λ child. walk_from nodes creds writes (passed ++ name ∷ []) child names))

-- ---- calls on a file

-- the path of a call on a file that is there: Write, Read, Truncate, Stat, Readlink and Guard
abbrev pub file_path : Call → Option Path
file_path (Write path at bytes) = Some path
file_path (Read path at len) = Some path
file_path (Truncate path size) = Some path
file_path (Stat path) = Some path
file_path (Readlink path) = Some path
file_path (Guard path on) = Some path
file_path _ = None

-- why such a call is refused at a file of this kind and these rights, if it is
abbrev pub refusal : Creds → Rights → Call → Option Reply
refusal creds r (Write path at bytes) =
    if is_directory r.kind then Some IsDir
    else (if is_link r.kind then Some IsLink
    else (if not (gives creds ToWrite r) then Some Denied
    else (if nat_lt largest_size (at + length bytes) then Some TooLarge else None)))
refusal creds r (Read path at len) =
    if is_directory r.kind then Some IsDir
    else (if is_link r.kind then Some IsLink
    else (if not (gives creds ToRead r) then Some Denied else None))
refusal creds r (Truncate path size) =
    if is_directory r.kind then Some IsDir
    else (if is_link r.kind then Some IsLink
    else (if not (gives creds ToWrite r) then Some Denied
    else (if nat_lt largest_size size then Some TooLarge else None)))
refusal creds r (Stat path) = if not (gives creds ToRead r) then Some Denied else None
refusal creds r (Readlink path) =
    if not (is_link r.kind) then Some NotLink else (if not (gives creds ToRead r) then Some Denied else None)
refusal creds r (Guard path on) =
    if is_directory r.kind then Some IsDir
    else (if is_link r.kind then Some IsLink
    else (if not (gives creds ToWrite r) then Some Denied else None))
refusal creds r _ = None

-- what it is replied else, of a file with these rights, bytes and size
abbrev pub answer_of : Rights → List ℕ → ℕ → Call → Answer
answer_of r old size (Write path at bytes) = Count (length bytes)
answer_of r old size (Read path at len) = Bytes (take len (drop at old))
answer_of r old size (Stat path) = IsStat r.kind r.mode r.uid r.gid size
answer_of r old size (Readlink path) = Bytes old
answer_of r old size _ = IsDone

-- and what becomes of the nodes
abbrev pub changed_by : Call → ℕ → List ℕ → Nodes → Nodes
changed_by (Write path at bytes) n old nodes = with_content n (put_at at bytes old) nodes
changed_by (Truncate path size) n old nodes = with_content n (resized size old) nodes
changed_by (Guard path on) n old nodes = with_guarded n on nodes
changed_by _ n old nodes = nodes

-- The walk is refused: so is the call, and nothing changes.
abbrev pub RefusedByWalk : Type 0
RefusedByWalk =
    (desk : DeskSeen) (d : Done) (nodes : Nodes) (path : Path)
    → file_path d.call ≡ Some path → walk nodes desk.creds [] path ≡ Err d.reply → d.made ≡ 0 → DoesCall desk d nodes nodes

-- The walk comes to a file whose kind or rights refuse the call, or the file would end past the largest size.
abbrev pub RefusedByCheck : Type 0
RefusedByCheck =
    (desk : DeskSeen) (d : Done) (nodes : Nodes) (path : Path) (n : ℕ) (r : Rights)
    → file_path d.call ≡ Some path → walk nodes desk.creds [] path ≡ Ok n → HasRights r (node_at nodes n)
    → refusal desk.creds r d.call ≡ Some d.reply → d.made ≡ 0 → DoesCall desk d nodes nodes

-- Nothing refuses the call: it is done, by the bytes of the file.
abbrev pub DoneByBytes : Type 0
DoneByBytes =
    (desk : DeskSeen) (d : Done) (nodes : Nodes) (path : Path) (n : ℕ) (r : Rights) (old : List ℕ)
    → file_path d.call ≡ Some path → walk nodes desk.creds [] path ≡ Ok n → HasRights r (node_at nodes n)
    → is_directory r.kind ≡ false → option_map (λ x. x.bytes) (node_at nodes n) ≡ Some old
    → refusal desk.creds r d.call ≡ None → d.reply ≡ Replied (answer_of r old (length old) d.call) → d.made ≡ 0
    → DoesCall desk d nodes (changed_by d.call n old nodes)

-- The size of a directory is the number of its entries.
abbrev pub StatsDirectory : Type 0
StatsDirectory =
    (desk : DeskSeen) (d : Done) (nodes : Nodes) (path : Path) (n : ℕ) (r : Rights) (count : ℕ)
    → d.call ≡ Stat path → walk nodes desk.creds [] path ≡ Ok n → HasRights r (node_at nodes n)
    → IsTrue (is_directory r.kind) → count_in nodes n ≡ count
    → refusal desk.creds r d.call ≡ None → d.reply ≡ Replied (answer_of r [] count d.call) → d.made ≡ 0
    → DoesCall desk d nodes nodes

-- Nothing refuses the call, but there is no room for the pages that it wants: nothing changes.
abbrev pub RefusedForRoom : Type 0
RefusedForRoom =
    (desk : DeskSeen) (d : Done) (nodes : Nodes) (path : Path) (n : ℕ) (r : Rights) (wanted free : ℕ)
    → file_path d.call ≡ Some path → IsTrue (wants_pages d.call) → walk nodes desk.creds [] path ≡ Ok n → HasRights r (node_at nodes n)
    → refusal desk.creds r d.call ≡ None → d.reply ≡ NoSpace wanted free → free < wanted → d.made ≡ 0
    → DoesCall desk d nodes nodes
