-- What follows where a bundle shows one tree in the place of another.
use Rattle.std.specs.Prelude.{◌≡◌, ℕ, ◌+◌, length, Some, IsTrue}
use Rattle.trio_lists.specs.Lists.{is_among}
use Rattle.trio_layout.specs.Survey.{numbers}
use Rattle.trio_layout.specs.Case.{Case}
use Rattle.trio_layout.specs.JudgedFiles.{judged_files}
use Rattle.trio_layout.specs.Listing.{listing}
use Rattle.trio_layout.specs.Edges.{meets_edges}
use Rattle.trio_nodes.specs.declared.node.Node.{Node}
use Rattle.trio_nodes.specs.Nodes.{Nodes, node_at, entry_in}
use Rattle.trio_nodes.specs.Tree.{IsTree}
use Rattle.trio_nodes.specs.Legal.{HasRightsOf, HasPlaceOf, KeepsRights, SameContent}
use Rattle.trio_desk.specs.Shows.{Shows, naming_of}
use Rattle.trio_desk.specs.Among.{IsAmong, IsForeign}
use Rattle.trio_desk.specs.Edits.{listed_now}

-- It meets rule I3, where there is a row for each number.
abbrev pub EdgesFollow : Type 0
EdgesFollow =
    (c : Case) (nodes nodes' : Nodes) → IsTree nodes → IsTree nodes' → IsAmong c nodes → Shows c nodes nodes'
    → length c.rows ≡ c.inodes + 1 → IsTrue (meets_edges (listing c) c.rows)

-- Every file that stays keeps its kind and rights, and one that is none of the bundle's keeps all but its name, its content too.
abbrev pub ShownSpares : Type 0
ShownSpares =
    (c : Case) (nodes nodes' : Nodes) → IsTree nodes → IsTree nodes' → IsAmong c nodes → Shows c nodes nodes'
    → KeepsRights nodes nodes'
    × ((n : ℕ) (x : Node) → node_at nodes n ≡ Some x → IsForeign c n
    → HasRightsOf x (node_at nodes' n) × HasPlaceOf x (node_at nodes' n) × SameContent nodes nodes' n)

-- Each of its directories has just the entries that its pages say as they stand: by these a session walks and replies.
abbrev pub NowIsListed : Type 0
NowIsListed =
    (c : Case) (nodes nodes' : Nodes) → IsTree nodes → IsTree nodes' → IsAmong c nodes → Shows c nodes nodes'
    → (directory n : ℕ) → IsTrue (is_among directory (numbers (judged_files c)))
    → entry_in directory (node_at nodes' n) ≡ listed_now directory (naming_of c n)
