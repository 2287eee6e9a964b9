-- The rows of a kept state say the same as its nodes.
use Rattle.trio_laws.proofs.Words.{◌+◌, ◌∙◌, ◌≡◌, Kept, None, OpenGrant, Option, Row, SaySame, Some, State, ap, length, node_by, node_says, nodes_of, option_map, plain, refl, row_at, row_of, row_says, settled, survey, sym, tabulated-length, writer_of, ℕ}
use Rattle.trio_laws.proofs.history.Facts.{node_is}

module _ (s : State) (k : Kept s) where
  -- there is a row for each number, from 0 up to the last
  pub rows_many : length s.home.rows ≡ s.home.core.inodes + 1
  rows_many = ap length k.verifies.rows ∙ tabulated-length (row_of (settled s).core (survey (settled s).core plain)) (s.home.core.inodes + 1)

  says_same : (n : ℕ) (w : Option OpenGrant) (o : Option Row) → option_map row_says o ≡ option_map node_says (node_by (settled s) n w o)
  says_same n w None = refl
  says_same n w (Some r) = refl

  pub rows_say : SaySame s.home.rows (nodes_of s)
  rows_say n = says_same n (writer_of s n) (row_at s.home n) ∙ sym (ap (option_map node_says) (node_is s k n))
