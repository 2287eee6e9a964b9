-- The nodes of a state deny what its rows deny.
use Rattle.trio_laws.proofs.Words.{◌++◌, ◌∙◌, ◌∷◌, ◌≡◌, Creds, GrantKind, Kept, List, Need, None, Option, Row, Some, State, [], ap, arith, cond, creds_of, denied_by, eqb, get_or, length, node_by, nodes_of, refl, row_at, row_in, settled, suc, tabulated-length, writer_of, zero, ℕ}
use Rattle.std.proofs.Common.{map, option_map}
use Rattle.trio_rights.specs.May.{row_permits, ancestors, denier}
use Rattle.trio_nodes.specs.Legal.{rights_row, rights_rows, grant_denier}
use Rattle.trio_laws.proofs.history.Facts.{find_same, node_is}

-- a row without its place
abbrev bare : Row → Row
bare r = record r { page = 0; slot = 0 }

permits_same : (creds : Creds) (need : Need) (o : Option Row) → row_permits creds need (option_map bare o) ≡ row_permits creds need o
permits_same creds need None = refl
permits_same creds need (Some r) = refl

-- rows that differ in places alone
module _ (rows' rows : List (Option Row)) (alike : (n : ℕ) → row_in rows' n ≡ option_map bare (row_in rows n)) where
  above : (steps : ℕ) (o : Option Row) → ancestors rows' steps (option_map bare o) ≡ ancestors rows steps o
  above zero o = refl
  above (suc steps) None = refl
  above (suc steps) (Some r) =
      ap (λ l. cond (eqb r.parent 0) [] (l ++ r.parent ∷ [])) (ap (ancestors rows' steps) (alike r.parent) ∙ above steps (row_in rows r.parent))

  pub denier_alike : length rows' ≡ length rows → (creds : Creds) (ino : ℕ) (need : Need) → denier rows' creds ino need ≡ denier rows creds ino need
  denier_alike same creds ino need = search (arith, above, find_same, permits_same)

map_get : {X Y : Type 0} (f : X → Y) (xs : List X) (n : ℕ) (d : X) → get_or (map f xs) n (f d) ≡ f (get_or xs n d)
map_get f [] n d = refl
map_get f (x ∷ xs) zero d = refl
map_get f (x ∷ xs) (suc n) d = map_get f xs n d

map_length : {X Y : Type 0} (f : X → Y) (xs : List X) → length (map f xs) ≡ length xs
map_length f [] = refl
map_length f (x ∷ xs) = ap suc (map_length f xs)

module _ (s : State) (k : Kept s) where
  row_bare : (n : ℕ) (o : Option Row) → option_map rights_row (node_by (settled s) n (writer_of s n) o) ≡ option_map bare o
  row_bare n None = refl
  row_bare n (Some r) = refl

  rows_alike : (n : ℕ) → row_in (rights_rows (nodes_of s)) n ≡ option_map bare (row_in s.home.rows n)
  rows_alike n =
      map_get (option_map rights_row) (nodes_of s) n None ∙ ap (option_map rights_row) (node_is s k n) ∙ row_bare n (row_at s.home n)

  rows_long : length (rights_rows (nodes_of s)) ≡ length s.home.rows
  rows_long = search (arith, map_length, tabulated-length)

  pub denier_is : (lib ino : ℕ) (kind : GrantKind) → grant_denier (nodes_of s) (creds_of s lib) ino kind ≡ denied_by s lib ino kind
  denier_is lib ino kind = search (arith, denier_alike, rows_alike, rows_long)
