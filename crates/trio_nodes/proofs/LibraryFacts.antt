-- Facts on the credentials of libraries.
use Rattle.std.proofs.Common.{◌≡◌, ℕ, zero, suc, ◌≤◌, List, [], ◌∷◌, length, Option, Some, None, refl, ap, arith}
use Rattle.std.specs.Prelude.{slice_get}
use Rattle.std.specs.Option.{option_map_or, unwrap_or}
use Rattle.trio_rights.specs.declared.rights.Creds.{Creds}
use Rattle.trio_nodes.specs.declared.call.Done.{Done}
use Rattle.trio_nodes.specs.Nodes.{Nodes}
use Rattle.trio_nodes.specs.After.{batch_nodes}
use Rattle.trio_nodes.specs.Libraries.{IsLibrary, listed_creds, nobody, creds_in}

place_listed : (libs : List Creds) (n : ℕ) → suc n ≤ length libs → slice_get libs n ≡ Some (unwrap_or (slice_get libs n) nobody)
place_listed [] n le = absurd (omega arith)
place_listed (x ∷ libs) zero le = refl
place_listed (x ∷ libs) (suc n) le = place_listed libs n (omega arith)

-- a library has its credentials in the list
pub library_listed : (libs : List Creds) (lib : ℕ) → IsLibrary libs lib → listed_creds libs lib ≡ Some (creds_in libs lib)
library_listed libs zero is = absurd (let low : 1 ≤ 0 = is.0 in omega (arith, low))
library_listed libs (suc n) is = place_listed libs n is.1

abbrev After : List Done → Nodes → Option Creds → Nodes
After calls nodes o = option_map_or (λ creds. batch_nodes creds calls nodes) o nodes

-- the nodes after a batch of a library
pub batch_after : (libs : List Creds) (lib : ℕ) (calls : List Done) (nodes : Nodes) → IsLibrary libs lib → option_map_or (λ creds. batch_nodes creds calls nodes) (listed_creds libs lib) nodes ≡ batch_nodes (creds_in libs lib) calls nodes
batch_after libs lib calls nodes is = ap (After calls nodes) (library_listed libs lib is)

after_either : (P : Nodes → Type 0) (calls : List Done) (nodes : Nodes) (o : Option Creds) → P nodes → P (batch_nodes (unwrap_or o nobody) calls nodes) → P (After calls nodes o)
after_either P calls nodes None same does = same
after_either P calls nodes (Some creds) same does = does

-- what holds of nodes and after calls with the credentials of a number holds after a batch of it, be it a library's or not
pub batch_either : (P : Nodes → Type 0) (libs : List Creds) (lib : ℕ) (calls : List Done) (nodes : Nodes) → P nodes → P (batch_nodes (creds_in libs lib) calls nodes) → P (option_map_or (λ creds. batch_nodes creds calls nodes) (listed_creds libs lib) nodes)
batch_either P libs lib calls nodes same does = after_either P calls nodes (listed_creds libs lib) same does
