-- A new file is put into the first empty slot of its directory.
use Rattle.trio_calls_dir.proofs.Words.{◌+◌, ◌<◌, ◌≤◌, ◌∙◌, ◌∷◌, ◌≡◌, ArePossible, AreWithinLimits, Body, Call, Changes, ComesInto, Create, Creds, DeskSeen, Directory, DoesCall, Done, In, InAllShown, InoParts, IsDone, IsOpenDir, IsReplied, Kind, List, MayCall, MayShow, Mkdir, Mode, New, NewDirectory, NewFile, NewLink, Node, Nodes, None, Option, Path, Place, Regular, Row, SessionSeen, Some, StaysTree, Symlink, [], ap, arith, batch_nodes, block_count, body_in, body_made, body_of, cond, drop, empty_shown, eqb, fill, filter, find_named, grant_in, growth, in_hand, inl, ino_numbers, is_among, is_name, length, link_made, link_mode, made_file, making, name_of, new_body, new_bytes, new_kind, new_mode, new_pages, node_at, not, note_done, noted, number_shown, option_map, place_shown, put_new, refl, rights_in, sees_directory, shown_by, spare_numbers, spare_pages, subst, sym, true, used_numbers, with_node, ℕ}
use Rattle.std.proofs.lemmas.Bool.{eq-eqb}
use Rattle.std.proofs.Math.ListN.{drop_of_length-le}
use Rattle.trio_lists.proofs.Filters.{filter-In}
use Rattle.trio_laws.proofs.session.DirCalls.{makes_entry}
use Rattle.trio_edit_laws.specs.Calls.{MayGoOn}
use Rattle.trio_edit_laws.specs.DirLaws.{IsEmptyBody, link_node, node_made}
use Rattle.trio_edit_laws.specs.EditLaws.{AreSpare}
use Rattle.trio_edit_laws.proofs.directories.Filled.{fill_leaves, fill_shows}
use Rattle.trio_edit_laws.proofs.directories.Linked.{link_leaves, link_shows}
use Rattle.trio_edit_laws.proofs.WithSlot.{no_length}
use Rattle.trio_calls_dir.specs.Asks.{IsEntryCall}
use Rattle.trio_calls_dir.proofs.MakesTree.{no_node_shown, tree_made}
use Rattle.trio_calls_dir.proofs.Possible.{possible_filled}
use Rattle.trio_edit_laws.proofs.Allotting.{spare_unmade}

-- the body of the new file reads, while it has no pages
abbrev pub ReadsNew : DeskSeen → Call → Type 0
ReadsNew desk call = body_of (new_kind call) desk.sizes.range (new_body desk.creds (new_mode call)) ≡ Some (body_made desk.creds (new_mode call))

-- What is known when there is room for a new file: its directory has an empty slot and no such name, one number is spare, and so are its
-- pages.
pub record MayFill (desk : DeskSeen) (s : SessionSeen) (call' : Call) (what' : New) (path' : Path) (dir' n' : ℕ) : Type 0 where
  pub may : MayGoOn desk s
  pub limits : AreWithinLimits desk.sizes
  pub call : call' ≡ making what' path'
  pub fits : IsEntryCall (making what' path')
  pub name : is_name (name_of path') ≡ true
  pub opens : IsOpenDir s dir'
  pub place : Place
  pub empty : empty_shown s dir' ≡ Some place
  pub new : place_shown s dir' (name_of path') ≡ None
  pub comes : InAllShown desk s (λ now. ComesInto now desk.creds call' path' dir')
  pub spare : AreSpare desk s
  pub pages : length (spare_pages s) ≡ new_pages (length (new_bytes (making what' path')))
  pub one : spare_numbers s ≡ n' ∷ []
  pub unlent : grant_in s n' ≡ None
  pub read : ReadsNew desk (making what' path')

-- a number that is spare was allotted, and is none of a file yet
pub spare_allotted : (s : SessionSeen) (n : ℕ) → In n (spare_numbers s) → In n (ino_numbers s.parcel.inodes)
spare_allotted s n i = (filter-In (λ k. not (is_among k (used_numbers s))) n (ino_numbers s.parcel.inodes) i).0

pub spare_above : (desk : DeskSeen) (s : SessionSeen) (n : ℕ) → MayGoOn desk s → In n (spare_numbers s) → 0 < n
spare_above desk s n may i = (may.edits.given.numbers n (spare_allotted s n i)).0

-- the node that is made
abbrev pub node_new : Creds → ℕ → New → Path → Node
node_new creds dir (NewDirectory mode) path = node_made dir (name_of path) Directory (body_made creds mode)
node_new creds dir (NewFile mode) path = node_made dir (name_of path) Regular (body_made creds mode)
node_new creds dir (NewLink text) path = link_node dir (name_of path) (body_made creds link_mode) text

-- what the call does to the nodes
does_make : (desk : DeskSeen) (what : New) (path : Path) (now : Nodes) (dir n : ℕ) → ComesInto now desk.creds (making what path) path dir → find_named now dir (name_of path) ≡ None
    → node_at now n ≡ None → (n ≡ 0 → ⊥)
    → DoesCall desk (record { call = making what path; reply = IsReplied IsDone; made = n }) now (with_node now n (Some (node_new desk.creds dir what path)))
does_make desk (NewDirectory mode) path now dir n comes free none low =
    makes_entry desk (record { call = Mkdir path mode; reply = IsReplied IsDone; made = n }) now path dir comes refl free none low refl
does_make desk (NewFile mode) path now dir n comes free none low =
    makes_entry desk (record { call = Create path mode; reply = IsReplied IsDone; made = n }) now path dir comes refl free none low refl
does_make desk (NewLink text) path now dir n comes free none low =
    makes_entry desk (record { call = Symlink path text; reply = IsReplied IsDone; made = n }) now path dir comes refl free none low refl

-- a text that fits a block has an index page and a block
pub text_pages : (count : ℕ) → 1 ≤ count → count ≤ 4096 → growth 0 (block_count count) ≡ 2
text_pages count some few = omega arith

-- By an edit there is a new file of this number, with this node; each allotted page is in place then, and no call was noted.
pub record IsPut (desk : DeskSeen) (s t : SessionSeen) (n' : ℕ) (x : Node) : Type 0 where
  pub changes : Changes desk s t (λ nodes. with_node nodes n' (Some x))
  pub calls : t.calls ≡ s.calls
  pub inodes : t.parcel.inodes ≡ s.parcel.inodes
  pub spent : spare_pages t ≡ []
  pub numbers : spare_numbers t ≡ filter (λ k. not (eqb k n')) (spare_numbers s)

module _ (desk : DeskSeen) (s : SessionSeen) (call : Call) (what : New) (path : Path) (dir n : ℕ) (m : MayFill desk s call what path dir n) where
  abbrev shown_at : Nodes → Nodes
  shown_at nodes = batch_nodes desk.creds s.calls nodes

  among : In n (spare_numbers s)
  among = subst (λ l. In n l) (sym m.one) (inl refl)

  allotted : In n (ino_numbers s.parcel.inodes)
  allotted = spare_allotted s n among

  unmade : made_file s n ≡ None
  unmade = spare_unmade s n among

  low : n ≡ 0 → ⊥
  low zero = (let some = spare_above desk s n m.may among in omega (arith, some, zero))

  -- the name is free, and no node has the number
  free_at : (nodes nodes' : Nodes) (rows : List (Option Row)) → MayShow desk (in_hand s) (in_hand s) nodes nodes' rows → find_named nodes' dir (name_of path) ≡ None
  free_at nodes nodes' rows shows =
      (sees_directory desk s dir nodes nodes' rows m.may.edits m.opens.directory shows).named (name_of path) ∙ ap (option_map (number_shown s dir)) m.new

  none_at : (nodes nodes' : Nodes) (rows : List (Option Row)) → MayShow desk (in_hand s) (in_hand s) nodes nodes' rows → node_at nodes' n ≡ None
  none_at nodes nodes' rows shows = no_node_shown desk s n m.may.edits nodes nodes' rows shows allotted unmade

  stays : (x : Node) → x.parent ≡ dir → x.name ≡ name_of path → StaysTree desk s s (λ nodes. with_node nodes n (Some x))
  stays x parent name nodes nodes' rows shows =
      tree_made nodes' shows.tree dir n (name_of path) x (rights_in Directory (body_in s dir)) parent name
      (sees_directory desk s dir nodes nodes' rows m.may.edits m.opens.directory shows).rights refl (free_at nodes nodes' rows shows) (none_at nodes nodes' rows shows) low

  -- an empty file
  empty_put : (kind : Kind) (mode : Mode) → body_of kind desk.sizes.range (new_body desk.creds mode) ≡ Some (body_made desk.creds mode) → spare_pages s ≡ []
      → IsPut desk s (fill dir (name_of path) n kind (new_body desk.creds mode) s) n (node_made dir (name_of path) kind (body_made desk.creds mode))
  empty_put kind mode read spent =
      let body : List ℕ = new_body desk.creds mode in
      let b : Body = body_made desk.creds mode in
      let empty : IsEmptyBody desk kind (new_body desk.creds mode) (body_made desk.creds mode) = record { is = read; size = refl; guard = refl; uid = refl; gid = refl } in
      let left = fill_leaves desk s dir m.place (name_of path) n kind body b m.limits m.may.edits m.opens m.empty m.new m.name among m.unlent empty in
      record {
        changes =
            fill_shows desk s dir m.place (name_of path) n kind body b m.limits m.may.edits m.opens m.empty m.new m.name among m.unlent empty
            (λ nodes nodes' rows shows.
            stays (node_made dir (name_of path) kind (body_made desk.creds mode)) refl refl nodes nodes' rows
            (record { possible = possible_filled desk s dir (name_of path) n kind (new_body desk.creds mode) m.place m.empty nodes rows shows.possible; tree = shows.tree; shows = shows.shows }));
        calls = ap (λ (q : SessionSeen). q.calls) left.files.same;
        inodes = left.files.inodes;
        spent = left.files.pages ∙ spent;
        numbers = left.numbers;
      }

  -- a link
  link_put : (text : List ℕ) → body_of Regular desk.sizes.range (new_body desk.creds link_mode) ≡ Some (body_made desk.creds link_mode) → 1 ≤ length text → length text ≤ 4096 → length (spare_pages s) ≡ new_pages (length text)
      → IsPut desk s (link_made dir (name_of path) n (new_body desk.creds link_mode) text s) n (link_node dir (name_of path) (body_made desk.creds link_mode) text)
  link_put text read some few pages =
      let body : List ℕ = new_body desk.creds link_mode in
      let b : Body = body_made desk.creds link_mode in
      let empty : IsEmptyBody desk Regular (new_body desk.creds link_mode) (body_made desk.creds link_mode) = record { is = read; size = refl; guard = refl; uid = refl; gid = refl } in
      let two : length (spare_pages s) ≡ 2 = pages ∙ text_pages (length text) some few in
      let most : 2 ≤ length (spare_pages s) = omega (arith, two) in
      let above : 0 < length text = omega (arith, some) in
      let left = link_leaves desk s dir m.place (name_of path) n body b text m.limits m.may.edits m.opens m.empty m.new m.name among m.unlent empty above few most in
      record {
        changes =
            link_shows desk s dir m.place (name_of path) n body b text m.limits m.may.edits m.spare m.opens m.empty m.new m.name among m.unlent empty above few most
            (stays (link_node dir (name_of path) (body_made desk.creds link_mode) text) refl refl);
        calls = left.calls;
        inodes = left.inodes;
        spent = left.pages ∙ (let le : length (spare_pages s) ≤ 2 = omega (arith, two) in drop_of_length-le (spare_pages s) le);
        numbers = left.numbers;
      }

  put : (w : New) → IsEntryCall (making w path) → length (spare_pages s) ≡ new_pages (length (new_bytes (making w path))) → ReadsNew desk (making w path)
      → IsPut desk s (put_new desk.creds (making w path) dir n s) n (node_new desk.creds dir w path)
  put (NewDirectory mode) fits pages read = empty_put Directory mode read (no_length (spare_pages s) pages)
  put (NewFile mode) fits pages read = empty_put Regular mode read (no_length (spare_pages s) pages)
  put (NewLink text) fits pages read = link_put text read fits.0 fits.1 pages

  abbrev then' : SessionSeen
  then' = put_new desk.creds (making what path) dir n s

  abbrev done : Done
  done = record { call = call; reply = IsReplied IsDone; made = n }

  pub is_put : IsPut desk s (put_new desk.creds (making what path) dir n s) n (node_new desk.creds dir what path)
  is_put = put what m.fits m.pages m.read

  does : InAllShown desk s (λ now. DoesCall desk (record { call = call; reply = IsReplied IsDone; made = n }) now (with_node now n (Some (node_new desk.creds dir what path))))
  does nodes rows p =
      let shows = shown_by desk (in_hand s) (in_hand s) s.calls nodes rows (λ k r q. q) m.may.comes p in
      subst
      (λ (c : Call). DoesCall desk (record { call = c; reply = IsReplied IsDone; made = n }) (shown_at nodes) (with_node (shown_at nodes) n (Some (node_new desk.creds dir what path))))
      (sym m.call)
      (does_make desk what path (shown_at nodes) dir n (subst (λ (c : Call). ComesInto (shown_at nodes) desk.creds c path dir) m.call (m.comes nodes rows p))
      (free_at nodes (shown_at nodes) rows shows) (none_at nodes (shown_at nodes) rows shows) low)

  none_left : filter (λ k. not (eqb k n)) (n ∷ []) ≡ []
  none_left = ap (λ t. cond {A = List ℕ} (not t) (n ∷ []) []) (eq-eqb n n refl)

  -- with its note the session may go on
  pub may_noted : MayCall desk (noted call (IsReplied IsDone) n (put_new desk.creds (making what path) dir n s))
  may_noted =
      note_done desk s then' done (λ now. with_node now n (Some (node_new desk.creds dir what path))) is_put.calls (λ some. allotted) m.may.comes m.may.made is_put.changes.becomes.more is_put.changes.becomes.shows is_put.changes.may
      (ap (λ (l : List InoParts). ino_numbers l) is_put.inodes) is_put.spent (is_put.numbers ∙ ap (filter (λ k. not (eqb k n))) m.one ∙ none_left) does
