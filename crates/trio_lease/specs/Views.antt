-- What libraries have in their hands, in the words of the steps.
use Rattle.std.specs.Prelude.{map}
use Rattle.trio_lease.specs.declared.parts.LentPage.{LentPage}
use Rattle.trio_lease.specs.declared.parts.FreshParts.{FreshParts}
use Rattle.trio_lease.specs.Shown.{Shown}
use Rattle.trio_lease.specs.Bundles.{Bundled}
use Rattle.trio_rights.specs.Sheets.{Sheet}
use Rattle.trio_rights.specs.Bundle.{Written, Bundle}

-- a lent page, whether touched or not
abbrev pub lent_sheet : LentPage → Sheet
lent_sheet p = record { page = p.no.0; bytes = p.page }

-- an allotted page
abbrev pub fresh_sheet : FreshParts → Sheet
fresh_sheet p = record { page = p.no.0; bytes = p.page }

-- a file as its lease shows it
abbrev pub written_in : Shown → Written
written_in f = record {
  ino = f.ino;
  kind = f.kind;
  body = f.body;
  index = map lent_sheet f.index;
  blocks = map lent_sheet f.blocks;
}

-- a bundle of leases, holds, allotted pages and numbers, each as it stands
abbrev pub bundle_in : Bundled → Bundle
bundle_in b = record {
  writes = map (λ f. written_in f.stands) b.writes;
  holds = map (λ h. h.ino) b.holds;
  pages = map fresh_sheet b.pages;
  numbers = map (λ n. n.no) b.inodes;
}
