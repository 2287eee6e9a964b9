-- Which grants are given, and what a grant lends.
use Rattle.std.specs.Prelude.{ℕ, ◌==◌, Bool, false, not, ◌&&◌, List, [], ◌∷◌, ◌++◌, Option, Some, None, Result, is_some, if◌then◌else◌, slice_get}
use Rattle.std.specs.List.{filter, list_any}
use Rattle.std.specs.Option.{option_map}
use Rattle.trio_rights.specs.declared.kind.Kind.{Kind}
use Rattle.trio_rights.specs.declared.rights.Need.TheVariants.{Read as ToRead, Write as ToWrite}
use Rattle.trio_rights.specs.Row.{Row}
use Rattle.trio_rights.specs.May.{denier}
use Rattle.trio_nodes.specs.declared.grant.GrantKind.{GrantKind}
use Rattle.trio_nodes.specs.declared.grant.GrantKind.TheVariants.{Read, Write, Hold}
use Rattle.trio_nodes.specs.declared.grant.Holder.{Holder}
use Rattle.trio_nodes.specs.declared.answers.GrantFault.{GrantFault}
use Rattle.trio_nodes.specs.declared.answers.GrantFault.TheVariants.{NotLive, Denied, NoParent, Busy}
use Rattle.trio_rights.specs.Sheets.{Sheet, without_pages, sheet_numbers}
use Rattle.trio_layout.specs.Body.{guard_in}
use Rattle.trio_layout.specs.Chain.{Chain}
use Rattle.trio_layout.specs.Core.{Core, Location}
use Rattle.trio_layout.specs.Pages.{settled_chain, index_sheets, block_sheets}
use Rattle.trio_layout.specs.Image.{Image, row_at, settled_body, with_core_pages}
use Rattle.trio_state.specs.State.{OpenGrant, State, settled, creds_of, covered, logged}
use Rattle.trio_nodes.specs.GrantKinds.{is_write, is_read, excludes_kind}
use Rattle.trio_tables.specs.Tables.{child_count}

-- the open grants that exclude what is asked, in the order of their entries
abbrev pub excluding : State → ℕ → ℕ → GrantKind → List OpenGrant
excluding s lib ino kind = filter (λ g. g.ino == ino && excludes_kind kind g.kind (g.lib == lib)) s.open_grants

-- an open grant, as others are told of it
abbrev pub holder_of : OpenGrant → Holder
holder_of g = record { lib = record { 0 = g.lib }; kind = g.kind; entry = g.entry }

-- the library has a write grant on the file's parent
abbrev pub has_parent_grant : State → ℕ → Option Row → Bool
has_parent_grant s lib None = false
has_parent_grant s lib (Some r) = list_any (λ g. g.lib == lib && g.ino == r.parent && is_write g.kind) s.open_grants

-- who denies, for a read or write grant; a hold asks no rights of its own
abbrev pub denied_by : State → ℕ → ℕ → GrantKind → Option ℕ
denied_by s lib ino Read = denier s.home.rows (creds_of s lib) ino ToRead
denied_by s lib ino Write = denier s.home.rows (creds_of s lib) ino ToWrite
denied_by s lib ino Hold = None

-- a hold without the library's write grant on the parent
abbrev pub lacks_parent : State → ℕ → ℕ → GrantKind → Bool
lacks_parent s lib ino Read = false
lacks_parent s lib ino Write = false
lacks_parent s lib ino Hold = not (has_parent_grant s lib (row_at s.home ino))

-- a denial, or else another fault
abbrev pub denied_or : Option ℕ → Option GrantFault → Option GrantFault
denied_or None other = other
denied_or (Some n) other = Some (Denied n)

-- the causes for which a grant is refused, in their order
abbrev pub grant_fault : State → ℕ → ℕ → GrantKind → Option GrantFault
grant_fault s lib ino kind =
    if not (is_some (row_at s.home ino)) then Some NotLive else
    denied_or (denied_by s lib ino kind)
    (if lacks_parent s lib ino kind then Some NoParent
    else option_map (λ g. Busy (holder_of g)) (slice_get (excluding s lib ino kind) 0))

-- Reading and writing lend the index pages and the blocks beside the body; a hold lends the body alone.
abbrev pub lent_sheets : GrantKind → List Sheet → List Sheet
lent_sheets Read sheets = sheets
lent_sheets Write sheets = sheets
lent_sheets Hold sheets = []

-- how many live files have this parent
abbrev pub children_of : Image → ℕ → ℕ
children_of image ino = child_count ino image.rows

-- a hold tells the number of the file's children, any other grant 0
abbrev pub told_children : Image → ℕ → GrantKind → ℕ
told_children image ino Read = 0
told_children image ino Write = 0
told_children image ino Hold = children_of image ino

-- a hold tells the directory that lists the file, any other grant 0
abbrev pub told_parent : Row → GrantKind → ℕ
told_parent r Read = 0
told_parent r Write = 0
told_parent r Hold = r.parent

-- a grant on a file of this kind and body, with what it lends of the chain, by the pages of this core; what a hold tells beside
-- its body is added where it is opened
abbrev pub grant_of : Core → ℕ → ℕ → GrantKind → Kind → ℕ → List ℕ → Result Chain Location → OpenGrant
grant_of core lib ino kind of entry body chain =
    let index = lent_sheets kind (index_sheets core chain) in
    let blocks = lent_sheets kind (block_sheets core chain) in
    record {
      lib = lib;
      ino = ino;
      kind = kind;
      of = of;
      entry = entry;
      body = body;
      index = index;
      blocks = blocks;
      parent = 0;
      children = 0;
      checkpoint = covered kind of (guard_in body) index blocks;
    }

-- the grant that is opened on a live file of this row, by the settled image, with what a hold tells
abbrev pub opened_in : Image → ℕ → ℕ → ℕ → GrantKind → Row → OpenGrant
opened_in image entry lib ino kind r =
    let lent = grant_of image.core lib ino kind r.kind entry (settled_body image ino) (settled_chain image r.kind ino) in
    record lent { parent = told_parent r kind; children = told_children image ino kind }

-- the grant that is opened on it in this state
abbrev pub opened : State → ℕ → ℕ → GrantKind → Row → OpenGrant
opened s lib ino kind r = opened_in (settled s) s.entries lib ino kind r

-- the pages that leave home for a grant
abbrev pub lent_pages : OpenGrant → List ℕ
lent_pages g = if is_write g.kind then sheet_numbers (g.index ++ g.blocks) else []

-- a grant is opened: what it lends for writing leaves home
abbrev pub opens : State → OpenGrant → State
opens s g = logged (record s {
  home = with_core_pages s.home (without_pages (lent_pages g) s.home.core.pages);
  open_grants = s.open_grants ++ g ∷ [];
})

-- a read grant ends
abbrev pub given_back : State → ℕ → ℕ → State
given_back s lib ino =
    logged (record s { open_grants = filter (λ g. not (g.lib == lib && g.ino == ino && is_read g.kind)) s.open_grants })
