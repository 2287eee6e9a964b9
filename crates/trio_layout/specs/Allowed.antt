-- What a bundle may change, by the survey of the proposed core.
use Rattle.std.specs.Prelude.{ℕ, zero, suc, ◌==◌, Bool, true, false, not, ◌&&◌, ◌||◌, List, Option, Some, None, is_some, if◌then◌else◌}
use Rattle.std.specs.List.{list_all}
use Rattle.std.specs.Str.{bytes_eq}
use Rattle.trio_rights.specs.declared.kind.Kind.{Kind}
use Rattle.trio_rights.specs.declared.rights.Creds.{Creds}
use Rattle.trio_rights.specs.Row.{Row}
use Rattle.trio_lists.specs.Lists.{is_among}
use Rattle.trio_layout.specs.Core.{Core}
use Rattle.trio_layout.specs.Survey.{Met, row_of, pages_of}
use Rattle.trio_layout.specs.Image.{Image, row_at, settled_body}
use Rattle.trio_rights.specs.Bundle.{Bundle, bundle_pages, is_written}
use Rattle.trio_rights.specs.Kind.{same_kind}

-- two rows say the same, or both are none
abbrev pub same_row : Option Row → Option Row → Bool
same_row None None = true
same_row None (Some r) = false
same_row (Some r) None = false
same_row (Some r) (Some q) =
    same_kind r.kind q.kind && r.mode.0 == q.mode.0 && r.uid == q.uid && r.gid == q.gid && r.parent == q.parent
    && r.page == q.page && r.slot == q.slot

-- each of the numbers from 1 up to n
abbrev pub all_up_to : (ℕ → Bool) → ℕ → Bool
all_up_to p zero = true
all_up_to p (suc n) = all_up_to p n && p (suc n)

-- each live file that isn't held in the bundle is met with its whole row as before
abbrev pub keeps_rows : Image → Bundle → Core → List Met → Bool
keeps_rows image b core files =
    all_up_to (λ n. not (is_some (row_at image n)) || is_among n b.holds || same_row (row_at image n) (row_of core files n)) core.inodes

-- the file's chain lists pages of the bundle alone
abbrev pub lists_own : Bundle → Core → Met → Bool
lists_own b core m = list_all (λ page. is_among page (bundle_pages b)) (pages_of core m)

-- the row has the uid and gid of these credentials
abbrev pub has_owner : Creds → Option Row → Bool
has_owner creds None = false
has_owner creds (Some r) = r.uid == creds.uid && r.gid == creds.gid

-- the row is of this kind
abbrev pub has_kind : Kind → Option Row → Bool
has_kind kind None = false
has_kind kind (Some r) = same_kind kind r.kind

-- What is asked of a file that is met. A held one has its kind and its whole settled body. Another live one that is written
-- lists pages of the bundle alone. Any other has one of the bundle's numbers, the library's uid and gid, and the bundle's pages.
abbrev pub may_stand : Image → Creds → Bundle → Core → List Met → Met → Bool
may_stand image creds b core files m =
    if is_among m.ino b.holds then has_kind m.kind (row_at image m.ino) && bytes_eq m.body (settled_body image m.ino) else
    (if is_some (row_at image m.ino)
    then (if is_written b m.ino then lists_own b core m else true)
    else is_among m.ino b.numbers && has_owner creds (row_of core files m.ino) && lists_own b core m)

-- the change is allowed: rows are kept, and each file met may stand
abbrev pub is_allowed : Image → Creds → Bundle → Core → List Met → Bool
is_allowed image creds b core files =
    keeps_rows image b core files && list_all (may_stand image creds b core files) files
