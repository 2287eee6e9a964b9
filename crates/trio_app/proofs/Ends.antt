-- How the run of a script ends, and what the whole work comes to.
use Rattle.trio_app.proofs.Words.{◌++◌, ◌+◌, ◌<◌, ◌∙◌, ◌∷◌, ◌≡◌, ◌≤◌, BadScript, Bool, Core, Creds, Done, Entry, Heard, Image, ImagePages, InputsRead, IsPlayEnd, IsRecorded, IsRunEnd, IsThreadsRunEnd, Kept, List, None, NoneOut, NotVerified, Option, OrderIsLogged, OrderIsOne, Played, RanEndsFree, RanIsOrder, RanIsPrinted, ReadFault, Rose, RunDone, ScriptComesTo, ScriptLib, ScriptRan, Shelf, State, Status, Superblock, TooLong, TreeLine, TurnsDone, WriteFault, [], ap, append-nil, append_assoc, arith, core_in, counts_of, counts_text, creds_in, get_or, image_in, length, libs_text, min, recorded, refl, settled, start, subst, suc, sym, take, told_counts, tree_of, tree_text, zero, ℕ}
use Rattle.trio_io.specs.Shelf.{OnlyReplaces, told}
use Rattle.trio_layout.proofs.Superblocks.{superblock_facts}
use Rattle.trio_survey.specs.Stored.{HasSuperblock, StoresImage, bytes_in}
use Rattle.trio_image.specs.declared.counts.Counts.{Counts}
use Rattle.trio_image.specs.Counts.{counts_in_tables}
use Rattle.trio_image.specs.Image.{IsVerified, TablesAre}
use Rattle.trio_image.specs.Load.{Loads}
use Rattle.trio_ctl.specs.Ctl.{superblock_for, writer_of}
use Rattle.trio_runner.specs.Seen.{ScriptPlayed}
use Rattle.trio_commands.specs.declared.status.Status.TheVariants.{NoMemory as StatusNoMemory}
use Rattle.trio_commands.specs.Images.{OutKeeps}
use Rattle.trio_commands.specs.Inputs.{InputsStop, ReadsBoth, ReadsLibraries, image_read, libs_read}
use Rattle.trio_commands.specs.Lines.{write_fault_line}
use Rattle.trio_app.specs.Report.{lib_text, report_text}
use Rattle.trio_app.specs.inner.RunEnd.{IsLastImage, IsThreadsEnd}
use Rattle.trio_commands.specs.Saved.{IsSaved, SaveComesTo}
use Rattle.trio_app.specs.OnScript.{FaultsMayRise, OnScript, OutFails, WritesSettled}
use Rattle.trio_app.specs.Run.{Run}
use Rattle.trio_app.specs.Turns.{Turns}
use Rattle.trio_app.proofs.Headlines.{comes_to_one, headline, never_busy, no_grant_open, no_page_out, ran_on, stored_log}
use Rattle.trio_app.proofs.Trees.{tree_same}

-- ---- the image at the end

-- the counts of the stored image are those of the image that is stored
counts_same : (image : Image) (t : Superblock) (last : List (Option (List ℕ))) → TablesAre t last image.rows image.owners → counts_of (image_in t last) ≡ counts_of image
counts_same image t last tables =
    ap (λ rows. counts_in_tables rows (image_in t last).owners) (sym tables.rows_are) ∙ ap (counts_in_tables image.rows) (sym tables.owners_are)

-- what is made of what the libraries were told and of the tree and the counts of the stored image is made of those of the image that is
-- settled at the end
pub told_of_settled : (T : List Heard → List TreeLine → Counts → List ℕ) (tolds seen : List Heard) (ctl : State) (t : Superblock) (last : List (Option (List ℕ)))
    → seen ≡ tolds → IsLastImage ctl t last
    → T seen (tree_of (core_in t last)) (counts_of (image_in t last)) ≡ T tolds (tree_of (settled ctl).core) (counts_of (settled ctl))
told_of_settled T tolds seen ctl t last same of =
    let core : Core = (settled ctl).core in
    let stored : StoresImage (superblock_for core) (settled ctl) last = subst (λ (x : Superblock). StoresImage x (settled ctl) last) of.superblock of.stores in
    let tree : tree_of (core_in t last) ≡ tree_of core = ap (λ (x : Superblock). tree_of (core_in x last)) of.superblock ∙ tree_same (superblock_for core) core.pages last stored.core in
    let counts : Counts = counts_of (image_in t last) in
    ap (λ hs. T hs (tree_of (core_in t last)) counts) same
    ∙ ap (λ ls. T tolds ls counts) tree ∙ ap (T tolds (tree_of core)) (counts_same (settled ctl) t last of.tables)

-- the text of a report, by the image that is settled at the end
reported : (libs : List ScriptLib) (tolds seen : List Heard) (ctl : State) (t : Superblock) (last : List (Option (List ℕ))) (report : List ℕ)
    → seen ≡ tolds → IsLastImage ctl t last
    → report ≡ libs_text 1 libs seen ++ tree_text (tree_of (core_in t last)) ++ counts_text (told_counts (counts_of (image_in t last)))
    → report ≡ report_text libs tolds (settled ctl)
reported libs tolds seen ctl t last report same of text =
    text ∙ told_of_settled (λ hs ls k. libs_text 1 libs hs ++ tree_text ls ++ counts_text (told_counts k)) tolds seen ctl t last same of

-- the pages of the image that is settled at the end, by its own superblock
stored_last : (ctl : State) (t : Superblock) (last : List (Option (List ℕ))) → IsLastImage ctl t last → StoresImage (superblock_for (settled ctl).core) (settled ctl) last
stored_last ctl t last of = subst (λ (x : Superblock). StoresImage x (settled ctl) last) of.superblock of.stores

-- page 0 of an image that verifies has the superblock, and so is no core page
first_low : (s : Superblock) (pages : List (Option (List ℕ))) → IsVerified s pages → 0 < s.first_core
first_low s pages v = (let facts = superblock_facts s v.whole.superblock.read.fits in omega (arith, facts.first_owner, facts.first_core))

-- where no grant is open nobody writes
no_writer : (s : State) → s.open_grants ≡ [] → writer_of s ≡ None
no_writer s none = ap (λ gs. writer_of (record s { open_grants = gs })) none

-- ---- in turns

-- once a script was played nobody writes
pub nobody_writes : (s : Superblock) (pages : List (Option (List ℕ))) (creds : List Creds) (first final : State) (libs : List ScriptLib) (tolds : List Heard) (log : List Entry)
    → Kept first → creds ≡ creds_in libs → first ≡ start (image_in s pages) creds → ScriptPlayed first.home libs tolds final log → writer_of final ≡ None
nobody_writes s pages creds first final libs tolds log k creds_are started script =
    let begun : first ≡ start (image_in s pages) (creds_in libs) = started ∙ ap (start (image_in s pages)) creds_are in
    let script' : ScriptPlayed (image_in s pages) libs tolds final log = subst (λ (f : State). ScriptPlayed f.home libs tolds final log) begun script in
    let free = no_grant_open (image_in s pages) libs script'.played (subst Kept begun k) in
    no_writer final (subst (λ (f : State). f.open_grants ≡ []) script'.last free)

-- what the play of a script comes to
pub play_end : (s t : Superblock) (pages last : List (Option (List ℕ))) (creds : List Creds) (first final : State) (begins : Image) (log : List Entry) (libs : List ScriptLib) (tolds : List Heard)
    → IsVerified s pages → Kept first → creds ≡ creds_in libs → first ≡ start (image_in s pages) creds → ScriptPlayed first.home libs tolds final log
    → begins ≡ image_in s pages → IsRecorded (recorded begins final log)
    → IsVerified t last → TablesAre t last (settled final).rows (settled final).owners → t ≡ superblock_for (settled final).core → (NoneOut final.pages_out → StoresImage t (settled final) last)
    → IsPlayEnd (image_in s pages) libs tolds t last
play_end s t pages last creds first final begins log libs tolds verified k creds_are started script begins_are r last_verified tables is stores =
    let begun : first ≡ start (image_in s pages) (creds_in libs) = started ∙ ap (start (image_in s pages)) creds_are in
    let script' : ScriptPlayed (image_in s pages) libs tolds final log = subst (λ (f : State). ScriptPlayed f.home libs tolds final log) begun script in
    let played : Played (image_in s pages) libs = script'.played in
    let k' : Kept (start (image_in s pages) (creds_in libs)) = subst Kept begun k in
    let here : NoneOut final.pages_out = subst (λ (f : State). NoneOut f.pages_out) script'.last (no_page_out (image_in s pages) libs played k') in
    let stored : IsLastImage final t last = record { superblock = is; tables = tables; stores = stores here } in
    let r' : IsRecorded (recorded (image_in s pages) played.last.state played.last.log) =
    subst (λ (f : State). IsRecorded (recorded (image_in s pages) f played.last.log)) (sym script'.last)
    (subst (λ (l : List Entry). IsRecorded (recorded (image_in s pages) final l)) (sym script'.log_is)
    (subst (λ (i : Image). IsRecorded (recorded i final log)) begins_are r)) in
    let last_first : 0 < (settled final).core.range.first = subst (λ (x : Superblock). 0 < x.first_core) is (first_low t last last_verified) in
    let last_first' : 0 < (settled played.last.state).core.range.first = subst (λ (f : State). 0 < (settled f).core.range.first) (sym script'.last) last_first in
    record {
      played = played;
      headline = headline (image_in s pages) libs played k';
      log = stored_log (image_in s pages) libs played (first_low s pages verified) last_first' k' r';
      one = comes_to_one (image_in s pages) libs played k';
      alone = never_busy (image_in s pages) libs played;
      told = sym script'.told;
      last = subst (λ (f : State). IsLastImage f t last) (sym script'.last) stored;
    }

-- what a run in turns comes to
pub run_end : (image : Image) (t : Superblock) (last : List (Option (List ℕ))) (libs : List ScriptLib) (tolds : List Heard) (report : List ℕ) → IsPlayEnd image libs tolds t last
    → report ≡ libs_text 1 libs tolds ++ tree_text (tree_of (core_in t last)) ++ counts_text (told_counts (counts_of (image_in t last)))
    → IsRunEnd image libs report last
run_end image t last libs tolds report end text = record {
  played = end.played;
  headline = end.headline;
  log = end.log;
  one = end.one;
  alone = end.alone;
  put = reported libs end.played.last.told tolds end.played.last.state t last report end.told end.last text;
  stores = stored_last end.played.last.state t last end.last;
}

-- ---- in threads

-- once all libraries have run their script nobody writes
pub nobody_writes_then : RanEndsFree → (s : Superblock) (pages : List (Option (List ℕ))) (creds : List Creds) (first final : State) (libs : List ScriptLib) (tolds : List Heard) (log : List Entry)
    → first ≡ start (image_in s pages) creds → ScriptRan first.home libs tolds final log → writer_of final ≡ None
nobody_writes_then law s pages creds first final libs tolds log started script =
    let script' : ScriptRan (image_in s pages) libs tolds final log = subst (λ (f : State). ScriptRan f.home libs tolds final log) started script in
    no_writer final (law (image_in s pages) libs tolds final log script').grants

-- what a script comes to that is run with a thread for each library
pub threads_end : RanIsOrder → OrderIsLogged → OrderIsOne → RanEndsFree → RanIsPrinted
    → (s t : Superblock) (pages last : List (Option (List ℕ))) (creds : List Creds) (first final : State) (libs : List ScriptLib) (tolds : List Heard) (log : List Entry)
    → IsVerified s pages → first ≡ start (image_in s pages) creds → ScriptRan first.home libs tolds final log
    → IsVerified t last → TablesAre t last (settled final).rows (settled final).owners → t ≡ superblock_for (settled final).core → (NoneOut final.pages_out → StoresImage t (settled final) last)
    → IsThreadsEnd (image_in s pages) libs tolds t last
threads_end order logged same free printed s t pages last creds first final libs tolds log verified started script last_verified tables is stores =
    let script' : ScriptRan (image_in s pages) libs tolds final log = subst (λ (f : State). ScriptRan f.home libs tolds final log) started script in
    let here : NoneOut final.pages_out = (free (image_in s pages) libs tolds final log script').pages in
    let last_first : 0 < (settled final).core.range.first = subst (λ (x : Superblock). 0 < x.first_core) is (first_low t last last_verified) in
    record {
      state = final;
      log = log;
      ran = ran_on order logged same free printed (image_in s pages) libs tolds final log (first_low s pages verified) last_first script';
      last = record { superblock = is; tables = tables; stores = stores here };
    }

-- what a run in threads comes to
pub threads_run_end : (image : Image) (t : Superblock) (last : List (Option (List ℕ))) (libs : List ScriptLib) (tolds : List Heard) (report : List ℕ) → IsThreadsEnd image libs tolds t last
    → report ≡ libs_text 1 libs tolds ++ tree_text (tree_of (core_in t last)) ++ counts_text (told_counts (counts_of (image_in t last)))
    → IsThreadsRunEnd image libs report last
threads_run_end image t last libs tolds report end text = record {
  tolds = tolds;
  state = end.state;
  log = end.log;
  ran = end.ran;
  put = reported libs tolds tolds end.state t last report refl end.last text;
  stores = stored_last end.state t last end.last;
}

-- ---- a report

-- a text that was put together
pub joined : (t0 t1 t2 t3 a b c : List ℕ) → t0 ≡ [] → t1 ≡ t0 ++ a → t2 ≡ t1 ++ b → t3 ≡ t2 ++ c → t3 ≡ a ++ b ++ c
joined t0 t1 t2 t3 a b c e0 e1 e2 e3 = rw (e3, e2, e1, e0) refl

-- the image that was taken apart for its tree is put together again
pub image_again : (image again : ImagePages) → IsVerified image.superblock image.pages → again.pages ≡ image.pages → ((s : Superblock) → HasSuperblock s image.pages → again.superblock ≡ s) → again ≡ image
image_again image again verified pages superblock =
    let of : Superblock → List (Option (List ℕ)) → ImagePages = λ s ps. record { superblock = s; pages = ps } in
    ap (λ s. of s again.pages) (superblock image.superblock verified.whole.superblock) ∙ ap (of image.superblock) pages

-- ---- the whole work

faults_read : (image script out : List ℕ) (old new : Shelf) → ReadsBoth image script old new → FaultsMayRise image script out old new
faults_read image script out old new files = record {
  reads_later = files.later;
  reads_others = files.others;
  writes = rw files.writes (record { later = λ q. omega arith; others = λ q ne. refl });
  serves = files.serves;
  tells = files.tells;
}

faults_replaced : (image script out : List ℕ) (old mid new : Shelf) → ReadsBoth image script old mid → OnlyReplaces out mid new → FaultsMayRise image script out old new
faults_replaced image script out old mid new files put = record {
  reads_later = rw put.reads files.later;
  reads_others = rw put.reads files.others;
  writes = rw (← files.writes) put.writes;
  serves = put.serves ∙ files.serves;
  tells = put.tells ∙ files.tells;
}

stop_comes : (IsRun : Type 0) (image script out : List ℕ) (old new : Shelf) (text : List ℕ) (status : Status) → InputsStop image script old new text status → ScriptComesTo IsRun image script out old new text status
stop_comes IsRun image script out old new text NotVerified why = why
stop_comes IsRun image script out old new text ReadFault why = why
stop_comes IsRun image script out old new text StatusNoMemory why = why
stop_comes IsRun image script out old new text TooLong why = why
stop_comes IsRun image script out old new text BadScript why = why
stop_comes IsRun image script out old new text _ why = absurd why

stop_keeps : (image script out : List ℕ) (old new : Shelf) (text : List ℕ) (status : Status) → InputsStop image script old new text status → new.held ≡ old.held → OutKeeps out old new status
stop_keeps image script out old new text NotVerified why same = same
stop_keeps image script out old new text ReadFault why same = same
stop_keeps image script out old new text StatusNoMemory why same = same
stop_keeps image script out old new text TooLong why same = same
stop_keeps image script out old new text BadScript why same = same
stop_keeps image script out old new text _ why same = absurd why

-- there is nothing to run
pub inputs_stop_it : (IsRun : Type 0) (image script out : List ℕ) (old new : Shelf) (text : List ℕ) (status : Status) → InputsStop image script old new text status → ReadsBoth image script old new
    → OnScript IsRun image script out old new text status
inputs_stop_it IsRun image script out old new text status why files = record {
  comes_to = stop_comes IsRun image script out old new text status why;
  keeps = stop_keeps image script out old new text status why files.held;
  faults = faults_read image script out old new files;
}

-- memory is wanting before anything is written
pub no_memory_for_it : (IsRun : Type 0) (image script out : List ℕ) (old new : Shelf) (text : List ℕ) (status : Status) → ReadsBoth image script old new → status ≡ StatusNoMemory → text ≡ []
    → OnScript IsRun image script out old new text status
no_memory_for_it IsRun image script out old new text status files is none =
    rw (is, none) (record { comes_to = refl; keeps = files.held; faults = faults_read image script out old new files })

-- a script was run on an image, and the image that is settled at the end is written
module _ (image script out : List ℕ) (old mid new : Shelf) (s : Superblock) (pages last : List (Option (List ℕ))) (libs : List ScriptLib) (report : List ℕ)
    (loaded : Loads (old.held image) s pages) (libraries : ReadsLibraries script old libs) (files : ReadsBoth image script old mid) (put : OnlyReplaces out mid new) where
  abbrev inputs : InputsRead image script old
  inputs = record {
    image_bytes = loaded.bytes;
    script_bytes = libraries.read.script_bytes;
    image_is = loaded.told;
    script_is = libraries.read.script_is;
    image_within = loaded.within;
    script_within = libraries.read.within;
    image_verifies = loaded.verify;
    script_good = libraries.read.good;
    superblock = s;
    lengths = loaded.lengths;
  }

  -- what holds of the image and the libraries holds of the image and the script that were read
  of_inputs : (P : Image → List ScriptLib → Type 0) → P (image_in s pages) libs → P (image_read inputs) (libs_read inputs)
  of_inputs P h =
      subst (λ (ps : List (Option (List ℕ))). P (image_in s ps) (libs_read inputs)) loaded.pages_are
      (subst (λ (ls : List ScriptLib). P (image_in s pages) ls) libraries.libs_are h)

  writes : (state : State) → StoresImage (superblock_for (settled state).core) (settled state) last → IsSaved out last mid new → WritesSettled out state old new
  writes state stores saved = record {
    pages = last;
    stores = stores;
    written = saved.written ∙ ap (λ (t : Bool). told t (bytes_in last)) files.tells;
    written_verifies = saved.verifies;
  }

  fault : (text : List ℕ) → Rose (mid.write_faults out) (new.write_faults out) → new.held out ≡ None → text ≡ write_fault_line out → OutFails image script out old new text
  fault text rose none line = record {
    image_verifies = record { image_bytes = loaded.bytes; image_is = loaded.told; within = loaded.within; verifies = loaded.verify };
    script_read = libraries.read;
    rose = rw (← files.writes) rose;
    untold = none;
    put = line;
  }

  script_saved : (IsRun : Type 0) (text : List ℕ) (status : Status) → (IsSaved out last mid new → text ≡ report → IsRun) → SaveComesTo out last report mid new text status → OnScript IsRun image script out old new text status
  script_saved IsRun text Done run saved = record { comes_to = run saved.0 saved.1; keeps = rw (← files.held) put.others; faults = faults_replaced image script out old mid new files put }
  script_saved IsRun text WriteFault run saved = record { comes_to = fault text saved.0 saved.1 saved.2; keeps = rw (← files.held) put.others; faults = faults_replaced image script out old mid new files put }
  script_saved IsRun text StatusNoMemory run saved = record { comes_to = saved.1; keeps = saved.0 ∙ files.held; faults = faults_replaced image script out old mid new files put }
  script_saved IsRun text _ run saved = absurd saved

  pub turns_saved : (text : List ℕ) (status : Status) → IsRunEnd (image_in s pages) libs report last → SaveComesTo out last report mid new text status → Turns image script out old new text status
  turns_saved text status end saved =
      let end' : IsRunEnd (image_read inputs) (libs_read inputs) report last = of_inputs (λ i ls. IsRunEnd i ls report last) end in
      script_saved (TurnsDone image script out old new text) text status
      (λ kept is. record {
        inputs = inputs;
        played = end'.played;
        headline = end'.headline;
        log = end'.log;
        one = end'.one;
        alone = end'.alone;
        put = is ∙ end'.put;
        writes = writes end'.played.last.state end'.stores kept;
      })
      saved

  pub run_saved : (text : List ℕ) (status : Status) → IsThreadsRunEnd (image_in s pages) libs report last → SaveComesTo out last report mid new text status → Run image script out old new text status
  run_saved text status end saved =
      let end' : IsThreadsRunEnd (image_read inputs) (libs_read inputs) report last = of_inputs (λ i ls. IsThreadsRunEnd i ls report last) end in
      script_saved (RunDone image script out old new text) text status
      (λ kept is. record {
        inputs = inputs;
        tolds = end'.tolds;
        last = end'.state;
        log = end'.log;
        ran = end'.ran;
        put = is ∙ end'.put;
        writes = writes end'.state end'.stores kept;
      })
      saved

-- ---- the libraries

libs_more : (n : ℕ) (libs : List ScriptLib) (heards : List Heard) (i : ℕ) (lib : ScriptLib) (heard : Heard) → i < length libs → i < length heards → get_or libs i lib ≡ lib → get_or heards i heard ≡ heard
    → libs_text n (take (suc i) libs) (take (suc i) heards) ≡ libs_text n (take i libs) (take i heards) ++ lib_text (n + i) lib heard
libs_more n [] heards i lib heard a b is same = absurd (omega arith)
libs_more n (l ∷ ls) [] i lib heard a b is same = absurd (omega arith)
libs_more n (l ∷ ls) (h ∷ hs) zero lib heard a b is same =
    let here : n ≡ n + 0 = omega arith in
    ap (λ (x : ScriptLib). lib_text n x h ++ libs_text (n + 1) (take 0 ls) (take 0 hs)) is
    ∙ ap (λ (x : Heard). lib_text n lib x ++ libs_text (n + 1) (take 0 ls) (take 0 hs)) same
    ∙ append-nil (lib_text n lib heard)
    ∙ ap (λ k. lib_text k lib heard) here
libs_more n (l ∷ ls) (h ∷ hs) (suc i) lib heard a b is same =
    let next : n + 1 + i ≡ n + suc i = omega arith in
    ap (λ bytes. lib_text n l h ++ bytes) (libs_more (n + 1) ls hs i lib heard (omega arith) (omega arith) is same)
    ∙ sym (append_assoc (lib_text n l h) (libs_text (n + 1) (take i ls) (take i hs)) (lib_text (n + 1 + i) lib heard))
    ∙ ap (λ k. (lib_text n l h ++ libs_text (n + 1) (take i ls) (take i hs)) ++ lib_text k lib heard) next

pub libs_all : (n : ℕ) (libs : List ScriptLib) (heards : List Heard) (i : ℕ) → min (length libs) (length heards) ≤ i → libs_text n (take i libs) (take i heards) ≡ libs_text n libs heards
libs_all n [] heards zero h = refl
libs_all n [] heards (suc i) h = refl
libs_all n (l ∷ ls) [] zero h = refl
libs_all n (l ∷ ls) [] (suc i) h = refl
libs_all n (l ∷ ls) (t ∷ ts) zero h = absurd (omega arith)
libs_all n (l ∷ ls) (t ∷ ts) (suc i) h = ap (λ bytes. lib_text n l t ++ bytes) (libs_all (n + 1) ls ts i (omega arith))

pub libs_put : (libs : List ScriptLib) (heards : List Heard) (i : ℕ) (lib : ScriptLib) (heard : Heard) (old before after : List ℕ) → i < length libs → i < length heards → lib ≡ get_or libs i lib → heard ≡ get_or heards i heard
    → before ≡ old ++ libs_text 1 (take i libs) (take i heards) → after ≡ before ++ lib_text (i + 1) lib heard
    → after ≡ old ++ libs_text 1 (take (i + 1) libs) (take (i + 1) heards)
libs_put libs heards i lib heard old before after a b is same first more =
    let L : List ℕ = lib_text (1 + i) lib heard in
    let up : i + 1 ≡ suc i = omega arith in
    let one : i + 1 ≡ 1 + i = omega arith in
    more ∙ ap (λ k. before ++ lib_text k lib heard) one
    ∙ ap (λ bytes. bytes ++ L) first
    ∙ append_assoc old (libs_text 1 (take i libs) (take i heards)) L
    ∙ ap (λ bytes. old ++ bytes) (sym (libs_more 1 libs heards i lib heard a b (sym is) (sym same)))
    ∙ ap (λ n. old ++ libs_text 1 (take n libs) (take n heards)) (sym up)

-- ---- the start

-- a controller that has just started has the image at home
pub started_on : (s : State) (image : Image) (creds : List Creds) (libs : List ScriptLib) → s ≡ start image creds → creds ≡ creds_in libs → s ≡ start s.home (creds_in libs)
started_on s image creds libs started same =
    let whole : s ≡ start image (creds_in libs) = started ∙ ap (start image) same in
    whole ∙ ap (λ i. start i (creds_in libs)) (sym (ap (λ (x : State). x.home) whole))
