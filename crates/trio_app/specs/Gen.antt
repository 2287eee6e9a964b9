-- What the words `gen NUMBER FILES` do.
use Rattle.std.specs.Prelude.{◌≡◌, ℕ, List, [], ◌∷◌, ◌++◌, Option}
use Rattle.trio_layout.specs.declared.superblock.Superblock.{Superblock}
use Rattle.trio_layout.specs.Image.{Image}
use Rattle.trio_layout.specs.Tree.{tree_of}
use Rattle.trio_state.specs.State.{settled}
use Rattle.trio_survey.specs.Stored.{StoresImage, image_in}
use Rattle.trio_image.specs.Counts.{counts_of}
use Rattle.trio_image.specs.Made.{IsMade}
use Rattle.trio_io.specs.Shelf.{Shelf}
use Rattle.trio_ctl.specs.Ctl.{superblock_for}
use Rattle.trio_script.specs.declared.ScriptLib.{ScriptLib}
use Rattle.trio_report.specs.declared.answer.LineAnswer.{LineAnswer}
use Rattle.trio_report.specs.Report.{counts_text}
use Rattle.trio_runner.specs.Play.{Heard, Played, creds_in}
use Rattle.trio_gen.specs.Summary.{call_answers, summary_line}
use Rattle.trio_gen.specs.Workload.{directories_script, files_script}
use Rattle.trio_app.specs.Headline.{Headline, StoredLog}
use Rattle.trio_commands.specs.Report.{told_counts}
use Rattle.trio_commands.specs.declared.status.Status.{Status}
use Rattle.trio_commands.specs.declared.status.Status.TheVariants.{Done, NoMemory}

-- the answers to the calls of libraries, in their order
abbrev pub calls_told : List ScriptLib → List Heard → List LineAnswer
calls_told (lib ∷ libs) (heard ∷ heards) = call_answers lib.lines heard.answers ++ calls_told libs heards
calls_told _ _ = []

-- the two lines: what the libraries' calls were answered and the bytes of the files, and the counts of the image at the end
abbrev pub gen_text : ℕ → ℕ → List ScriptLib → List Heard → Image → List ℕ
gen_text number files libs heards image =
    summary_line number files (calls_told libs heards) (tree_of image.core) ++ counts_text (told_counts (counts_of image))

-- The workload was played: the first script on a new image of 8192 pages and 2048 inode numbers, and the second on the image that was
-- settled at the end of the first. Of both plays the claim holds, and what holds of their logs.
pub record GenDone (number files : ℕ) (text : List ℕ) : Type 0 where
  pub superblock : Superblock
  pub pages : List (Option (List ℕ))
  pub made : IsMade 8192 2048 superblock pages
  pub first : Played (image_in superblock pages) directories_script
  pub first_headline : Headline (image_in superblock pages) (creds_in directories_script) first.moves
  pub first_log : StoredLog (image_in superblock pages) directories_script first.moves first.last.told first.last.log first.last.state
  -- what was settled between the plays, and its pages
  pub between : Superblock
  pub between_is : between ≡ superblock_for (settled first.last.state).core
  pub middle : List (Option (List ℕ))
  pub stores : StoresImage between (settled first.last.state) middle
  pub second : Played (image_in between middle) (files_script number files)
  pub second_headline : Headline (image_in between middle) (creds_in (files_script number files)) second.moves
  pub second_log : StoredLog (image_in between middle) (files_script number files) second.moves second.last.told second.last.log second.last.state
  pub put : text ≡ gen_text number files (files_script number files) second.last.told (settled second.last.state)

-- what it came to, by status, and the text that is then due
abbrev pub GenComesTo : ℕ → ℕ → List ℕ → Status → Type 0
GenComesTo number files text Done = GenDone number files text
GenComesTo number files text NoMemory = text ≡ []
GenComesTo number files text _ = ⊥

-- what `gen` came to; no file is read or written
pub record Gen (number files : ℕ) (old new : Shelf) (text : List ℕ) (status : Status) : Type 0 where
  pub comes_to : GenComesTo number files text status
  pub same : new ≡ old
