-- The four rules on a bundle: I1, I2 and I4 here, I3 in `Edges`.
use Rattle.std.specs.Prelude.{ℕ, ◌==◌, Bool, false, not, ◌&&◌, ◌||◌, List, [], Option, None, Some, is_ok, is_some, if◌then◌else◌, Result, Ok, Err}
use Rattle.std.specs.List.{list_all, find}
use Rattle.std.specs.Option.{option_map_or}
use Rattle.std.specs.Str.{bytes_eq}
use Rattle.trio_rights.specs.Row.{Row, row_in}
use Rattle.trio_lists.specs.Lists.{is_among, are_new}
use Rattle.trio_layout.specs.declared.body.Body.{Body}
use Rattle.trio_layout.specs.Body.{body_of}
use Rattle.trio_layout.specs.Core.{Location}
use Rattle.trio_layout.specs.Survey.{Met, FileRead, numbers}
use Rattle.trio_rights.specs.Bundle.{bundle_pages, is_written}
use Rattle.trio_layout.specs.Allowed.{has_kind}
use Rattle.trio_layout.specs.Case.{Case, file_in}
use Rattle.trio_layout.specs.JudgedFiles.{judged_files, judged_entries, judged_pages}
use Rattle.trio_layout.specs.Listing.{is_kept, listing}
use Rattle.trio_layout.specs.Edges.{meets_edges}

-- ---- I1

-- the body in the slot of an entry that isn't a kept child is in the grammar for the entry's kind
abbrev pub entry_in_grammar : Case → Met → Bool
entry_in_grammar c e = is_kept c e || is_some (body_of e.kind c.range e.body)

-- I1: each judged file is in the grammar and its names differ, as far as its pages are the bundle's, and so is the
-- body of each entry that isn't a kept child
abbrev pub meets_grammar : Case → Bool
meets_grammar c =
    list_all (λ m. is_ok (file_in c m)) (judged_files c) && list_all (entry_in_grammar c) (judged_entries c)

-- ---- I2

-- an entry is a kept child, or names a held file or one of the bundle's numbers
abbrev pub entry_is_own : Case → Met → Bool
entry_is_own c e = is_kept c e || is_among e.ino c.bundle.holds || is_among e.ino c.bundle.numbers

-- I2: each listed page is the bundle's and listed once, each entry is its own, and no number is listed twice
abbrev pub meets_owning : Case → Bool
meets_owning c =
    list_all (λ page. is_among page (bundle_pages c.bundle)) (judged_pages c) && are_new [] (judged_pages c)
    && list_all (entry_is_own c) (judged_entries c) && are_new [] (numbers (judged_entries c))

-- ---- I4

-- the body that the hold of a file lent
abbrev pub lent_body : Case → ℕ → List ℕ
lent_body c n = option_map_or (λ h. h.body) (find (λ h. h.ino == n) c.lent) []

-- a kept child's and a held file's entry has the row's kind; a held file that isn't a kept child has its lent body in
-- the slot
abbrev pub entry_keeps_rights : Case → Met → Bool
entry_keeps_rights c e =
    if is_kept c e then has_kind e.kind (row_in c.rows e.ino)
    else (not (is_among e.ino c.bundle.holds)
    || (has_kind e.kind (row_in c.rows e.ino) && bytes_eq e.body (lent_body c e.ino)))

-- the body has the row's mode, uid and gid
abbrev pub has_rights : Option Row → Body → Bool
has_rights None b = false
has_rights (Some r) b = r.mode.0 == b.mode.0 && r.uid == b.uid && r.gid == b.gid

-- a written file's body has the row's rights, a new file's the library's uid and gid
abbrev pub file_keeps_rights : Case → Met → Result FileRead Location → Bool
file_keeps_rights c m (Err place) = false
file_keeps_rights c m (Ok f) =
    if is_written c.bundle m.ino then has_rights (row_in c.rows m.ino) f.body
    else (f.body.uid == c.creds.uid && f.body.gid == c.creds.gid)

-- I4: kinds, rights and lent bodies are kept, and new files are the library's
abbrev pub meets_rights : Case → Bool
meets_rights c =
    list_all (entry_keeps_rights c) (judged_entries c)
    && list_all (λ m. file_keeps_rights c m (file_in c m)) (judged_files c)

-- ---- all four

-- the bundle meets the four rules
abbrev pub meets_rules : Case → Bool
meets_rules c = meets_grammar c && meets_owning c && meets_edges (listing c) c.rows && meets_rights c
