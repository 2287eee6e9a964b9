-- Laws on the content of files: what is at a file's number, wherever the file stands.
use Rattle.std.specs.Prelude.{◌≡◌, ℕ, map, Some, Ok, IsTrue}
use Rattle.trio_rights.specs.declared.rights.Creds.{Creds}
use Rattle.trio_rights.specs.Row.{Row}
use Rattle.trio_lists.specs.Lists.{In, is_among}
use Rattle.trio_layout.specs.Core.{page_of}
use Rattle.trio_layout.specs.Survey.{Met, plain, FileRead, file_of, survey}
use Rattle.trio_layout.specs.Image.{Image, row_at, settled_body}
use Rattle.trio_state.specs.State.{State, settled}
use Rattle.trio_rights.specs.Bundle.{Bundle}
use Rattle.trio_layout.specs.Accept.{is_accepted, next}
use Rattle.trio_state.specs.Kept.{Kept}
use Rattle.trio_state.specs.Given.{GivenTo}
use Rattle.trio_laws.specs.Laws.{entry_only, plain_pages}

-- The file of a number has the same content in both images, at whichever place: its kind, body and chain, the same
-- bytes in each page without slots and, in a directory, the same entries but for the bodies of its children.
pub record HasSameContent (before after : Image) (n : ℕ) : Type 0 where
  pub met_was : Met
  pub met_is : Met
  pub file_was : FileRead
  pub file_is : FileRead
  pub number_was : met_was.ino ≡ n
  pub number_is : met_is.ino ≡ n
  pub stood : In met_was (survey before.core plain)
  pub stands : In met_is (survey after.core plain)
  pub read_was : file_of before.core met_was ≡ Ok file_was
  pub read_is : file_of after.core met_is ≡ Ok file_is
  pub kind : met_is.kind ≡ met_was.kind
  pub body : file_is.body ≡ file_was.body
  pub chain : file_is.chain ≡ file_was.chain
  pub pages :
      (page : ℕ) → In page (plain_pages met_was.kind file_was)
      → page_of after.core page ≡ page_of before.core page
  pub entries : map entry_only file_is.entries ≡ map entry_only file_was.entries
  pub settled_bodies : settled_body after n ≡ settled_body before n

-- a live file that an accepted bundle holds, and that is live after it, has the same content then
abbrev pub HeldFilesKeepContent : Type 0
HeldFilesKeepContent =
    (s : State) (lib : ℕ) (creds : Creds) (b : Bundle) (n : ℕ) (r q : Row)
    → Kept s → GivenTo s lib b → IsTrue (is_accepted (settled s) creds b)
    → row_at s.home n ≡ Some r → IsTrue (is_among n b.holds) → row_at (next (settled s) b) n ≡ Some q
    → HasSameContent (settled s) (next (settled s) b) n
