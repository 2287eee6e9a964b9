-- What is lent of a file. Cited by private functions alone.
use Rattle.std.specs.Prelude.{ℕ, ◌==◌, ◌<◌, List, [], Option, None, IsSome, slice_index_or}
use Rattle.std.specs.List.{find}
use Rattle.std.specs.Option.{option_map, option_map_or}
use Rattle.trio_rights.specs.Row.{Row}
use Rattle.trio_layout.specs.Entries.{body_in_slot}
use Rattle.trio_rights.specs.Sheets.{Sheet}
use Rattle.trio_commit.specs.declared.store.Store.{Store}
use Rattle.trio_commit.specs.Store.{checkpoint_at}

-- the bytes of the page of this number, if it is one of these
abbrev pub page_on : ℕ → List Sheet → Option (List ℕ)
page_on page sheets = option_map (λ x. x.bytes) (find (λ x. x.page == page) sheets)

-- the directory page at the place of a row: the one that the checkpoint of the directory has where there is one, else the one
-- at home
abbrev pub page_standing : Store → Row → Option (List ℕ)
page_standing s r =
    option_map_or (λ c. page_on r.page c.blocks) (checkpoint_at s.checkpoints.items r.parent) (slice_index_or s.home.pages r.page None)

-- the body at the place of a row
abbrev pub body_standing : Store → Row → List ℕ
body_standing s r = option_map_or (body_in_slot r.slot) (page_standing s r) []

-- the place of a row is in a slot of a page that is there
pub record StandsSomewhere (s : Store) (r : Row) : Type 0 where
  pub slot : r.slot < 16
  pub there : IsSome (page_standing s r)
