-- A written file that is no directory is edited: of the nodes that are shown it alone has other bytes and another guard.
use Rattle.std.specs.Prelude.{◌≡◌, Bool, false, ℕ, List, [], ◌++◌, map, Ok, IsTrue}
use Rattle.trio_rights.specs.ByKind.{is_directory}
use Rattle.trio_rights.specs.Bundle.{Written}
use Rattle.trio_lists.specs.Lists.{In, are_new}
use Rattle.trio_layout.specs.declared.body.Body.{Body}
use Rattle.trio_layout.specs.Body.{body_at}
use Rattle.trio_layout.specs.Core.{page_of}
use Rattle.trio_layout.specs.Survey.{FileRead, Met, pages_in}
use Rattle.trio_layout.specs.JudgedFiles.{judged_files, pages_within}
use Rattle.std.specs.Option.{option_map}
use Rattle.trio_lease.specs.Shown.{LentFile}
use Rattle.trio_nodes.specs.declared.node.Node.{Node}
use Rattle.trio_nodes.specs.Nodes.{Nodes, node_at, with_node}
use Rattle.trio_desk.specs.Call.{DeskSeen}
use Rattle.trio_desk.specs.Ready.{lent_files}
use Rattle.trio_desk.specs.Edits.{InHand}
use Rattle.trio_laws.specs.session.Takes.{IsInOrder, Becomes, case_as_stands, pages_in_hand}
use Rattle.trio_laws.specs.session.FileEdits.{bare_file, bytes_listed, core_in_hand, read_in_hand, with_body}

-- the numbers, kinds and bodies of the written files
abbrev pub files_in_hand : InHand → List Written
files_in_hand h = map (λ f. bare_file f.stands) h.parcel.writes

-- the index pages and the blocks of a file that was read
abbrev pub pages_listed : FileRead → List ℕ
pages_listed f = f.chain.index ++ f.chain.blocks

-- a node with these bytes and this guard
abbrev pub node_holding : List ℕ → Bool → Node → Node
node_holding bytes guarded x = record x { guard = guarded; bytes = bytes }

-- the nodes with these bytes and this guard of one file
abbrev pub with_data : ℕ → List ℕ → Bool → Nodes → Nodes
with_data ino bytes guarded nodes = with_node nodes ino (option_map (node_holding bytes guarded) (node_at nodes ino))

-- the mode, the uid and the gid are the same
pub record SameRights (a b : Body) : Type 0 where
  pub mode : a.mode.0 ≡ b.mode.0
  pub uid : a.uid ≡ b.uid
  pub gid : a.gid ≡ b.gid

-- One written file that is no directory, of the number and kind that were lent, gets another body, and pages that it lists before or after get other bytes. It reads then with the rights
-- that it had, and with pages that are in hand, each once, and that no other judged file lists. All else in hand is as it was.
pub record IsFileEdit (desk : DeskSeen) (h h' : InHand) (f : LentFile) (body : List ℕ) (file : FileRead) : Type 0 where
  pub written : In f h.parcel.writes
  pub kind : is_directory f.stands.kind ≡ false
  pub number_lent : f.stands.ino ≡ f.lent.ino
  pub kind_lent : f.stands.kind ≡ f.lent.kind
  pub files : files_in_hand h' ≡ map (with_body f.stands.ino body) (files_in_hand h)
  pub pages : pages_in_hand h' ≡ pages_in_hand h
  pub lent : lent_files h'.parcel.writes ≡ lent_files h.parcel.writes
  pub holds : h'.parcel.holds ≡ h.parcel.holds
  pub inodes : h'.parcel.inodes ≡ h.parcel.inodes
  pub back : h'.back ≡ h.back
  pub reads : read_in_hand desk h' (record (bare_file f.stands) { body = body }) ≡ Ok file
  pub rights : SameRights file.body (body_at f.stands.body)
  pub own : (page : ℕ) → In page (pages_listed file) → In page (pages_in_hand h)
  pub once : IsTrue (are_new [] (pages_listed file))
  pub apart :
      (x : Met) (page : ℕ) → In x (judged_files (case_as_stands desk h)) → (x.ino ≡ f.stands.ino → ⊥)
      → In page (pages_within (case_as_stands desk h) x) → In page (pages_listed file) → ⊥
  pub bytes :
      (page : ℕ) → (In page (pages_in (read_in_hand desk h (bare_file f.stands))) → ⊥) → (In page (pages_listed file) → ⊥)
      → page_of (core_in_hand desk h') page ≡ page_of (core_in_hand desk h) page

-- Then the nodes that are shown have the bytes that the file now reads, and its guard.
abbrev pub FileEditShows : Type 0
FileEditShows =
    (desk : DeskSeen) (h h' : InHand) (f : LentFile) (body : List ℕ) (file : FileRead)
    → IsInOrder desk h → IsFileEdit desk h h' f body file
    → Becomes desk h h' (with_data f.stands.ino (bytes_listed (core_in_hand desk h') file) file.body.guard)
