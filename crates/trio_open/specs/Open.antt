-- The grants that are open, as the controller keeps them, and what each gives.
use Rattle.std.specs.Prelude.{ℕ, List, [], map, Ok, false}
use Rattle.trio_rights.specs.declared.kind.Kind.{Kind}
use Rattle.trio_nodes.specs.declared.grant.GrantKind.{GrantKind}
use Rattle.trio_nodes.specs.declared.grant.GrantKind.TheVariants.{Read, Write, Hold}
use Rattle.trio_grants.specs.Grants.{Keyed}
use Rattle.trio_layout.specs.Chain.{Chain}
use Rattle.trio_layout.specs.Core.{Core}
use Rattle.trio_lease.specs.declared.lease.Lease.{Lease}
use Rattle.trio_lease.specs.declared.lease.Lease.TheVariants.{Write as WriteLent, Read as ReadLent, Hold as HoldLent}
use Rattle.trio_lease.specs.declared.parts.HoldParts.{HoldParts}
use Rattle.trio_lease.specs.declared.parts.LentPage.{LentPage}
use Rattle.trio_lease.specs.Shown.{Shown, LentFile}
use Rattle.trio_lease.specs.Views.{lent_sheet}
use Rattle.trio_rights.specs.Sheets.{Sheet}
use Rattle.trio_state.specs.State.{OpenGrant}
use Rattle.trio_state.specs.Grants.{grant_of}
use Rattle.trio_open.specs.declared.open.Lent.{Lent}
use Rattle.trio_open.specs.declared.open.Lent.TheVariants.{Read as LentToRead, Write as LentToWrite, Hold as LentToHold}

-- An open grant with what it lent, beside the key that ends it in the table of grants. Its checkpoint is in the store.
pub record Opened : Type 0 where
  pub key : ℕ
  pub grant : OpenGrant

-- the open grant of a library on a file that lent this, without its checkpoint
abbrev pub grant_kept : ℕ → ℕ → Lent → OpenGrant
grant_kept lib ino (LentToRead parts) = record {
  lib = lib;
  ino = ino;
  kind = Read;
  of = parts.value.kind;
  entry = parts.value.entry;
  body = parts.value.body;
  index = map lent_sheet parts.value.index.items;
  blocks = map lent_sheet parts.value.blocks.items;
  parent = 0;
  children = 0;
  checkpoint = [];
}
grant_kept lib ino (LentToWrite parts) = record {
  lib = lib;
  ino = ino;
  kind = Write;
  of = parts.value.kind;
  entry = parts.value.entry;
  body = parts.value.body;
  index = map lent_sheet parts.value.index.items;
  blocks = map lent_sheet parts.value.blocks.items;
  parent = 0;
  children = 0;
  checkpoint = [];
}
grant_kept lib ino (LentToHold parts) = record {
  lib = lib;
  ino = ino;
  kind = Hold;
  of = parts.kind;
  entry = parts.entry;
  body = parts.body;
  index = [];
  blocks = [];
  parent = parts.parent;
  children = parts.children;
  checkpoint = [];
}

-- the same as the table of grants has it
abbrev pub keyed : Opened → Keyed
keyed o = (o.key, record { lib = record { 0 = o.grant.lib }; ino = o.grant.ino; kind = o.grant.kind; entry = o.grant.entry })

-- the grants alone
abbrev pub grants_in : List Opened → List OpenGrant
grants_in files = map (λ o. o.grant) files

-- a grant of a kind on a file of this kind, body and chain, by the pages of this core
abbrev pub grant_on : Core → ℕ → ℕ → GrantKind → Kind → ℕ → List ℕ → Chain → OpenGrant
grant_on core lib ino kind of entry body chain = grant_of core lib ino kind of entry body (Ok chain)

-- a page as it is lent: nobody has asked for it for writing
abbrev pub untouched : Sheet → LentPage
untouched x = record { no = record { 0 = x.page }; page = x.bytes; touched = false }

-- the file that a grant lends, as its lease shows it
abbrev pub shown_of : OpenGrant → Shown
shown_of g = record {
  lib = record { 0 = g.lib };
  ino = g.ino;
  kind = g.of;
  entry = g.entry;
  body = g.body;
  index = map untouched g.index;
  blocks = map untouched g.blocks;
}

-- the lease of a write grant, as it is given: it stands as it was lent
abbrev pub lease_of : OpenGrant → LentFile
lease_of g = record { stands = shown_of g; lent = shown_of g }

-- the hold of a grant, with the directory and the number of children that it told
abbrev pub hold_of : OpenGrant → HoldParts
hold_of g = record {
  lib = record { 0 = g.lib };
  ino = g.ino;
  kind = g.of;
  entry = g.entry;
  parent = g.parent;
  body = g.body;
  children = g.children;
}

-- what a grant of this kind gives; a read lease and a hold never change, and so they are as lent all the time
abbrev pub given_by : GrantKind → OpenGrant → Lease
given_by Read g = ReadLent (shown_of g)
given_by Write g = WriteLent (lease_of g)
given_by Hold g = HoldLent (hold_of g)

-- the lease of a grant, as it is given
abbrev pub lent_by : OpenGrant → Lease
lent_by g = given_by g.kind g
