-- The calls of a log as a history of the tree on one thread.
use Rattle.std.specs.Prelude.{◌≡◌, ⊤, List, [], ◌∷◌, map, None}
use Rattle.std.specs.List.{flat_map, AllByRecursion}
use Rattle.trio_rights.specs.declared.rights.Creds.{Creds}
use Rattle.trio_nodes.specs.declared.call.Done.{Done}
use Rattle.trio_nodes.specs.declared.entry.Entry.{Entry}
use Rattle.trio_nodes.specs.declared.entry.Entry.TheVariants.{Raw, Mode}
use Rattle.trio_nodes.specs.Nodes.{Nodes}
use Rattle.trio_nodes.specs.Libraries.{creds_in}
use Rattle.trio_nodes.specs.Apply.{Apply}
use Rattle.trio_nodes.specs.Legal.{Legal, MadeFits, library_in}
use Rattle.trio_runner.specs.Logged.{done_in}

-- a call that was done, with its reply, and the credentials with which it was made
pub record DoneBy : Type 0 where
  pub creds : Creds
  pub done : Done

-- The tree does these calls one after another, from the first nodes to the last: each call has its reply, and leaves the nodes that the
-- next one finds. What is made gets a new number.
abbrev pub IsHistory : Nodes → List DoneBy → Nodes → Type 0
IsHistory nodes [] last = last ≡ nodes
IsHistory nodes (c ∷ calls) last =
    (middle : Nodes) × Apply nodes c.creds c.done.call c.done.made c.done.reply middle × MadeFits nodes c.done × IsHistory middle calls last

-- the calls of an entry, with the credentials of its library
abbrev pub done_by : List Creds → Entry → List DoneBy
done_by libs e = map (λ (d : Done). record { creds = creds_in libs (library_in e); done = d }) (done_in e)

-- it is no release of a raw library, and no change of mode without a call
abbrev pub IsOfCalls : Entry → Type 0
IsOfCalls (Raw lib verdict files bundle) = ⊥
IsOfCalls (Mode lib ino mode answer None) = ⊥
IsOfCalls _ = ⊤

-- Where a log has no release of a raw library and no change of mode without a call, its calls, of all libraries in the order of the log,
-- are a history of the tree on one thread.
abbrev pub CallsAreHistory : Nodes → List Creds → List Entry → Nodes → Type 0
CallsAreHistory first libs log last = AllByRecursion IsOfCalls log → IsHistory first (flat_map (done_by libs) log) last

-- so it is of each log that is legal
abbrev pub LegalIsHistory : Type 0
LegalIsHistory = (first : Nodes) (libs : List Creds) (log : List Entry) (last : Nodes) → Legal first libs log last → CallsAreHistory first libs log last
