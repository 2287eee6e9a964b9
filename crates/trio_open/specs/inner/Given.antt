-- What a bundle that belongs to a library is asked, test by test. Cited by functions that the controller alone calls.
use Rattle.std.specs.Prelude.{ℕ, ◌==◌, Bool, true, false, ◌&&◌, List, [], ◌∷◌, map, Option, None, Some, length}
use Rattle.std.specs.List.{list_any}
use Rattle.std.specs.Str.{bytes_eq}
use Rattle.trio_rights.specs.Kind.{same_kind}
use Rattle.trio_rights.specs.declared.rights.LibNo.{LibNo}
use Rattle.trio_nodes.specs.GrantKinds.{is_hold, is_write}
use Rattle.trio_nodes.specs.declared.grant.Holder.{Holder}
use Rattle.trio_lease.specs.Bundles.{Bundled}
use Rattle.trio_lease.specs.Shown.{Shown}
use Rattle.trio_lease.specs.declared.parts.FreshParts.{FreshParts}
use Rattle.trio_lease.specs.declared.parts.HoldParts.{HoldParts}
use Rattle.trio_lease.specs.declared.parts.InoParts.{InoParts}
use Rattle.trio_lease.specs.declared.parts.LentPage.{LentPage}
use Rattle.trio_checkpoint.specs.Covered.{Checkpointed}
use Rattle.trio_lists.specs.Lists.{are_new}
use Rattle.trio_tables.specs.Out.{lib_at}
use Rattle.trio_state.specs.State.{OpenGrant}
use Rattle.trio_open.specs.Open.{Opened}

-- a page that is whole, with this number
abbrev pub is_numbered : Option ℕ → Option (List ℕ) → ℕ → Bool
is_numbered (Some n) (Some bytes) number = n == number && length bytes == 4096
is_numbered (Some n) None number = false
is_numbered None page number = false

-- whole pages with these numbers
abbrev pub are_numbered : List LentPage → List ℕ → Bool
are_numbered [] [] = true
are_numbered [] (n ∷ ns) = false
are_numbered (p ∷ ps) [] = false
are_numbered (p ∷ ps) (n ∷ ns) = is_numbered (Some p.no.0) (Some p.page) n && are_numbered ps ns

-- the file has the pages of a checkpoint that is there
abbrev pub has_pages_of : Shown → Option Checkpointed → Bool
has_pages_of f None = false
has_pages_of f (Some c) = are_numbered f.index c.chain.index && are_numbered f.blocks c.chain.blocks

-- the grant is a write grant of the library, opened by this entry
abbrev pub writes_since : LibNo → ℕ → Option Holder → Bool
writes_since lib entry None = false
writes_since lib entry (Some h) = h.lib.0 == lib.0 && is_write h.kind && h.entry == entry

-- the hold is the one that this grant gave the library
abbrev pub is_hold_by : LibNo → HoldParts → OpenGrant → Bool
is_hold_by lib h g =
    is_hold g.kind && g.lib == lib.0 && h.lib.0 == lib.0 && g.ino == h.ino && same_kind g.of h.kind && g.entry == h.entry
    && g.parent == h.parent && bytes_eq g.body h.body && g.children == h.children

-- one of these did
abbrev pub is_held_by : List Opened → LibNo → HoldParts → Bool
is_held_by files lib h = list_any (λ o. is_hold_by lib h o.grant) files

-- the number is out to the library
abbrev pub is_out_to : LibNo → Option LibNo → Bool
is_out_to lib None = false
is_out_to lib (Some other) = other.0 == lib.0

-- a page that is whole, and an inode number, is out to the library and names it
abbrev pub is_page_by : List (Option LibNo) → LibNo → FreshParts → Bool
is_page_by outs lib p = p.lib.0 == lib.0 && is_out_to lib (lib_at outs p.no.0) && length p.page == 4096

abbrev pub is_number_by : List (Option LibNo) → LibNo → InoParts → Bool
is_number_by outs lib n = n.lib.0 == lib.0 && is_out_to lib (lib_at outs n.no)

-- and stands in it once
abbrev pub stand_once : Bundled → Bool
stand_once b =
    are_new [] (map (λ f. f.stands.ino) b.writes) && are_new [] (map (λ h. h.ino) b.holds)
    && are_new [] (map (λ p. p.no.0) b.pages) && are_new [] (map (λ n. n.no) b.inodes)

-- the grant is the library's hold on the file, and lent this body
abbrev pub is_held_so : LibNo → HoldParts → OpenGrant → Bool
is_held_so lib h g = g.lib == lib.0 && is_hold g.kind && g.ino == h.ino && bytes_eq g.body h.body

-- a hold is on a file that the library holds, and has the body that was lent
abbrev pub is_body_of : List Opened → LibNo → HoldParts → Bool
is_body_of files lib h = list_any (λ o. is_held_so lib h o.grant) files
