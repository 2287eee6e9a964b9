-- How the grants and allotments of a bundle end, and which bundles are closed.
use Rattle.std.specs.Prelude.{◌≡◌, ℕ, ◌+◌, ◌==◌, nat_le, Bool, false, not, ◌&&◌, ◌||◌, List, [], ◌∷◌, ◌++◌, map, Option, Some, None, slice_get, if◌then◌else◌}
use Rattle.std.specs.List.{filter, flat_map, list_all}
use Rattle.trio_rights.specs.declared.kind.Kind.{Kind}
use Rattle.trio_rights.specs.ByKind.{covers_blocks}
use Rattle.trio_rights.specs.Row.{Row}
use Rattle.trio_lists.specs.Lists.{In, is_among}
use Rattle.trio_rights.specs.Sheets.{Sheet, sheet_numbers, with_pages}
use Rattle.trio_layout.specs.Body.{guard_in}
use Rattle.trio_layout.specs.Image.{Image, row_at, settled_body, with_core_pages}
use Rattle.trio_state.specs.State.{OpenGrant, State, settled}
use Rattle.trio_nodes.specs.GrantKinds.{is_write, is_read, is_hold}
use Rattle.trio_rights.specs.Bundle.{Bundle, bundle_pages, is_written}
use Rattle.trio_state.specs.Allotments.{out_after, has_none_out}

-- ---- closed bundles

-- the parent that a row names, where there is one, is written in the bundle
abbrev pub is_parent_written : Bundle → Option Row → Bool
is_parent_written b None = false
is_parent_written b (Some r) = is_written b r.parent

-- the library's hold and the write lease on the parent are not both in the bundle or both out of it
abbrev pub is_parted : State → ℕ → Bundle → OpenGrant → Bool
is_parted s lib b g =
    g.lib == lib && is_hold g.kind
    && (if is_among g.ino b.holds then not (is_parent_written b (row_at s.home g.ino)) else is_parent_written b (row_at s.home g.ino))

-- the lower of a number and of one that may be there
abbrev pub lower : ℕ → Option ℕ → Option ℕ
lower n None = Some n
lower n (Some m) = Some (if nat_le n m then n else m)

-- the lowest of some numbers
abbrev pub lowest : List ℕ → Option ℕ
lowest [] = None
lowest (n ∷ ns) = lower n (lowest ns)

-- the lowest held number at which the bundle is not closed
abbrev pub parted_hold : State → ℕ → Bundle → Option ℕ
parted_hold s lib b = lowest (map (λ g. g.ino) (filter (is_parted s lib b) s.open_grants))

-- ---- the end of a bundle

-- the grant is that of a lease or a hold of the bundle
abbrev pub is_in_bundle : ℕ → Bundle → OpenGrant → Bool
is_in_bundle lib b g =
    g.lib == lib && ((is_write g.kind && is_written b g.ino) || (is_hold g.kind && is_among g.ino b.holds))

-- the grants that stay open when the bundle has ended
abbrev pub grants_after : State → ℕ → Bundle → List OpenGrant
grants_after s lib b = filter (λ g. not (is_in_bundle lib b g)) s.open_grants

-- the blocks of a file of this kind that is guarded or isn't, unless its checkpoint covers them
abbrev pub uncovered_of : Kind → Bool → List Sheet → List Sheet
uncovered_of kind guarded blocks = if covers_blocks kind guarded then [] else blocks

-- the same of a live number, by its row and by the guard of its settled body, whatever its writer's body says
abbrev pub uncovered_by : Image → ℕ → Option Row → List Sheet → List Sheet
uncovered_by image n None blocks = []
uncovered_by image n (Some r) blocks = uncovered_of r.kind (guard_in (settled_body image n)) blocks

-- the blocks of the written files that no checkpoint covers, by what is settled
abbrev pub uncovered : Image → Bundle → List Sheet
uncovered image b = flat_map (λ w. uncovered_by image w.ino (row_at image w.ino) w.blocks) b.writes

-- What is settled after a refusal: as before, but lent blocks that aren't covered and allotted pages stand at their
-- numbers as they were handed in.
abbrev pub refused_image : Image → Bundle → Image
refused_image image b = with_core_pages image (with_pages (uncovered image b ++ b.pages) image.core.pages)

-- A page of which only the number counts.
abbrev pub blank : Sheet → Sheet
blank x = record { page = x.page; bytes = [] }

-- A grant but for the bytes of its checkpoint, which go with the settled image.
abbrev pub lent_part : OpenGrant → OpenGrant
lent_part g = record g { checkpoint = map blank g.checkpoint }

-- The bundle has come to its end, and this image is settled now: its grants have ended, and its pages and numbers are free
-- or a file's. A page that is absent at home and isn't one of the bundle's stays absent.
pub record Ends (s : State) (lib : ℕ) (b : Bundle) (image : Image) (s' : State) : Type 0 where
  pub settles : settled s' ≡ image
  pub grants : map lent_part s'.open_grants ≡ map lent_part (grants_after s lib b)
  pub pages : s'.pages_out ≡ out_after s.pages_out (sheet_numbers b.pages)
  pub numbers : s'.numbers_out ≡ out_after s.numbers_out b.numbers
  pub creds : s'.creds ≡ s.creds
  pub entries : s'.entries ≡ s.entries + 1
  pub away : (page : ℕ) → slice_get s.home.core.pages page ≡ Some None → (In page (bundle_pages b) → ⊥) → slice_get s'.home.core.pages page ≡ Some None

-- the bundle has every write lease, hold, allotted page and number of the library
abbrev pub has_all : State → ℕ → Bundle → Bool
has_all s lib b =
    list_all (λ g. not (g.lib == lib) || is_read g.kind || is_in_bundle lib b g) s.open_grants
    && has_none_out lib (out_after s.pages_out (sheet_numbers b.pages))
    && has_none_out lib (out_after s.numbers_out b.numbers)
