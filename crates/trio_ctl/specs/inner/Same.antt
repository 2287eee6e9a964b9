-- A page by its parts. Cited by private functions alone.
use Rattle.std.specs.Prelude.{ℕ, Bool, List, Option, Some, None}
use Rattle.trio_page.specs.declared.page.PageNo.{PageNo}
use Rattle.trio_nodes.specs.declared.entry.HandedPage.{HandedPage}

-- the page of this number, with these bytes and this mark; none where any of them is missing
abbrev pub page_seen : Option PageNo → Option (List ℕ) → Option Bool → Option HandedPage
page_seen (Some number) (Some bytes) (Some touched) = Some (record { no = number.0; bytes = bytes; touched = touched })
page_seen (Some number) (Some bytes) None = None
page_seen (Some number) None touched = None
page_seen None bytes touched = None
