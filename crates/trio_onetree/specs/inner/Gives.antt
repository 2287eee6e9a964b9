-- What a call gives, as the code answers it, and the files that a walk reaches.
use Rattle.std.specs.Prelude.{◌≡◌, ℕ, List, [], Option, Some, None, Result, Ok, Err}
use Rattle.std.specs.Option.{ok_or}
use Rattle.trio_rights.specs.declared.rights.Creds.{Creds}
use Rattle.trio_nodes.specs.declared.node.Node.{Node}
use Rattle.trio_nodes.specs.declared.call.Answer.{Answer}
use Rattle.trio_nodes.specs.declared.call.Reply.{Reply}
use Rattle.trio_nodes.specs.declared.call.Reply.TheVariants.{Ok as Replied, NotFound}
use Rattle.trio_nodes.specs.Nodes.{Nodes, node_at, find_named}
use Rattle.trio_nodes.specs.Walk.{Path, walk, walk_into}
use Rattle.trio_nodes.specs.Apply.{Applied, refused}
use Rattle.trio_onetree.specs.declared.fault.Fault.{Fault}
use Rattle.trio_onetree.specs.declared.fault.Fault.TheVariants.{Refused, NoMemory}

-- from the first nodes to the second, the code's answer is what is applied; after want of memory the nodes are as they were
abbrev pub Gives : Applied → Nodes → Nodes → Result Answer Fault → Type 0
Gives a old new (Ok answer) = (a.reply ≡ Replied answer) × (new ≡ a.nodes)
Gives a old new (Err (Refused reply)) = (a.reply ≡ reply) × (new ≡ a.nodes)
Gives a old new (Err NoMemory) = new ≡ old

-- a file that was reached: its number and its node
abbrev pub Reached : Type 0
Reached = Result (ℕ × Node) Reply

-- a number with its node, where there is one
abbrev pub with_its_node : ℕ → Option Node → Reached
with_its_node n (Some x) = Ok (n, x)
with_its_node n None = Err NotFound

-- the same for a number that was reached
abbrev pub node_reached : Nodes → Result ℕ Reply → Reached
node_reached nodes (Ok n) = with_its_node n (node_at nodes n)
node_reached nodes (Err reply) = Err reply

-- the file at a path
abbrev pub file_of : Nodes → Creds → Path → Reached
file_of nodes creds path = node_reached nodes (walk nodes creds [] path)

-- the file that a directory lists by a name
abbrev pub file_in : Nodes → ℕ → List ℕ → Reached
file_in nodes dir name = node_reached nodes (ok_or (find_named nodes dir name) NotFound)

-- the file of this name in a directory that was reached
abbrev pub named_in : Nodes → List ℕ → Result ℕ Reply → Reached
named_in nodes name (Ok dir) = file_in nodes dir name
named_in nodes name (Err reply) = Err reply

-- the file of this name in the directory at a path, which is entered
abbrev pub entry_of : Nodes → Creds → List Path → Path → List ℕ → Reached
entry_of nodes creds writes dir name = named_in nodes name (walk_into nodes creds writes dir)

-- what is made of a file that was reached
abbrev pub on_file : Nodes → Reached → (ℕ → Node → Applied) → Applied
on_file nodes (Ok f) body = body f.0 f.1
on_file nodes (Err reply) body = refused nodes reply
