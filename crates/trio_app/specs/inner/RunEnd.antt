-- What a run leaves. Cited by private functions alone.
use Rattle.std.specs.Prelude.{◌≡◌, ℕ, List, Option}
use Rattle.trio_nodes.specs.declared.entry.Entry.{Entry}
use Rattle.trio_layout.specs.declared.superblock.Superblock.{Superblock}
use Rattle.trio_layout.specs.Image.{Image}
use Rattle.trio_state.specs.State.{State, settled}
use Rattle.trio_survey.specs.Stored.{StoresImage}
use Rattle.trio_ctl.specs.Ctl.{superblock_for}
use Rattle.trio_image.specs.Image.{TablesAre}
use Rattle.trio_script.specs.declared.ScriptLib.{ScriptLib}
use Rattle.trio_runner.specs.Play.{Heard, Played, creds_in}
use Rattle.trio_runner.specs.PlayLaws.{ComeToOne}
use Rattle.trio_app.specs.Alone.{NeverBusyAlone}
use Rattle.trio_app.specs.Headline.{Headline, StoredLog}
use Rattle.trio_app.specs.Report.{report_text}
use Rattle.trio_app.specs.Run.{RanOn}

-- these are the superblock and the pages of the image that is settled in the last state
pub record IsLastImage (last : State) (t : Superblock) (pages : List (Option (List ℕ))) : Type 0 where
  pub superblock : t ≡ superblock_for (settled last).core
  pub tables : TablesAre t pages (settled last).rows (settled last).owners
  pub stores : StoresImage t (settled last) pages

-- ---- in turns

-- this script was played on this image, and a log was stored: the libraries were told this, and these are the superblock and the pages
-- of the image that is settled at the end
pub record IsPlayEnd (image : Image) (libs : List ScriptLib) (tolds : List Heard) (t : Superblock) (pages : List (Option (List ℕ))) : Type 0 where
  pub played : Played image libs
  pub headline : Headline image (creds_in libs) played.moves
  pub log : StoredLog image libs played.moves played.last.told played.last.log played.last.state
  pub one : (other : Played image libs) → ComeToOne played other
  pub alone : NeverBusyAlone libs played.last.told
  pub told : tolds ≡ played.last.told
  pub last : IsLastImage played.last.state t pages

-- this script was played on this image, with this report and a log, and these pages are of the image that is settled at the end
pub record IsRunEnd (image : Image) (libs : List ScriptLib) (report : List ℕ) (pages : List (Option (List ℕ))) : Type 0 where
  pub played : Played image libs
  pub headline : Headline image (creds_in libs) played.moves
  pub log : StoredLog image libs played.moves played.last.told played.last.log played.last.state
  pub one : (other : Played image libs) → ComeToOne played other
  pub alone : NeverBusyAlone libs played.last.told
  pub put : report ≡ report_text libs played.last.told (settled played.last.state)
  pub stores : StoresImage (superblock_for (settled played.last.state).core) (settled played.last.state) pages

-- ---- in threads

-- this script was run on this image with a thread for each library, and a log was stored: the libraries were told this, and these are
-- the superblock and the pages of the image that is settled at the end
pub record IsThreadsEnd (image : Image) (libs : List ScriptLib) (tolds : List Heard) (t : Superblock) (pages : List (Option (List ℕ))) : Type 0 where
  pub state : State
  pub log : List Entry
  pub ran : RanOn image libs tolds state log
  pub last : IsLastImage state t pages

-- this script was run so, with this report and a log, and these pages are of the image that is settled at the end
pub record IsThreadsRunEnd (image : Image) (libs : List ScriptLib) (report : List ℕ) (pages : List (Option (List ℕ))) : Type 0 where
  pub tolds : List Heard
  pub state : State
  pub log : List Entry
  pub ran : RanOn image libs tolds state log
  pub put : report ≡ report_text libs tolds (settled state)
  pub stores : StoresImage (superblock_for (settled state).core) (settled state) pages
