-- The claim, and what holds of the stored log, of a script on an image that verifies.
use Rattle.trio_app.proofs.Words.{◌<◌, ◌∙◌, ◌∷◌, ◌≡◌, Creds, CtlAnswer, Entry, Event, GivenEvent, Heard, Image, IsRecorded, Kept, List, NoneOut, OrderIsLogged, OrderIsOne, Played, RanEndsFree, RanIsOrder, RanIsPrinted, Release, ScriptLib, ScriptRan, State, Step, [], ap, creds_in, inl, inr, recorded, settled, start, subst, sym}
use Rattle.std.proofs.Common.{◌≢◌}
use Rattle.std.specs.Prelude.{is_some}
use Rattle.std.proofs.lemmas.Bool.{false≢true}
use Rattle.trio_rights.specs.declared.rights.LibNo.{LibNo}
use Rattle.trio_lists.specs.Lists.{In}
use Rattle.trio_nodes.specs.declared.grant.GrantKind.TheVariants.{Write}
use Rattle.trio_nodes.specs.Legal.{Legal}
use Rattle.trio_nodes.specs.Nodes.{Nodes}
use Rattle.trio_layout.specs.Image.{IsFit}
use Rattle.trio_state.specs.Run.{IsWhole, Move, Trace}
use Rattle.trio_layout.specs.Verifies.{Verifies}
use Rattle.trio_state.specs.State.{OpenGrant}
use Rattle.trio_state.specs.ImageNodes.{nodes_of}
use Rattle.trio_laws.specs.Laws.{AnyRun}
use Rattle.trio_laws.specs.history.Replays.{Replays}
use Rattle.trio_laws.specs.history.Stands.{nodes_of as state_nodes}
use Rattle.trio_laws.proofs.history.Begins.{history_is_legal}
use Rattle.trio_laws.proofs.history.SettledNodes.{settled_nodes}
use Rattle.trio_laws.proofs.StateLaws.{every_state_is_kept, every_move_is_a_step, every_release_is_judged}
use Rattle.trio_surveys.proofs.Trees.{image_is_tree}
use Rattle.trio_laws.proofs.Verdicts.{refusal_keeps}
use Rattle.trio_laws.proofs.Isolation.{every_step_is_isolated}
use Rattle.trio_laws.proofs.RowSteps.{every_step_keeps_rows}
use Rattle.trio_runner.specs.Rounds.{turns_of}
use Rattle.trio_order.specs.Order.{moves_in}
use Rattle.trio_runner.specs.Logged.{AreEntries, Prints, entries_by}
use Rattle.trio_runner.specs.Play.{IsLibraryOf, heard_by}
use Rattle.trio_runner.specs.PlayLaws.{ComeToOne}
use Rattle.trio_app.specs.Alone.{NeverBusyAlone}
use Rattle.trio_runner.proofs.Alone.{played_alone}
use Rattle.trio_runner.proofs.OnePlay.{played_is_one}
use Rattle.trio_runner.proofs.RanAlone.{ran_alone}
use Rattle.trio_runner.proofs.EndFree.{ends_free, plays_creds}
use Rattle.trio_runner.proofs.History.{legal_is_history}
use Rattle.trio_runner.proofs.Logs.{played_is_logged}
use Rattle.trio_runner.proofs.Plays.{played_is_trace}
use Rattle.trio_runner.proofs.Printed.{played_is_printed}
use Rattle.trio_app.proofs.HeldContent.{held_content}
use Rattle.trio_app.specs.Headline.{Headline, StoredLog}
use Rattle.trio_app.specs.Run.{RanOn}
use Rattle.trio_tables.proofs.OutLemmas.{lib_at-none_out}

-- the claim of any run of the controller from an image that verifies
headline_of : (image : Image) (creds : List Creds) (moves : List Move) → Trace (start image creds) moves → IsFit image.core → Verifies image → IsWhole image → Headline image creds moves
headline_of image creds moves trace fit verifies whole =
    let run : AnyRun = record {
      image = image;
      creds = creds;
      moves = moves;
      fit = fit;
      verifies = verifies;
      whole = whole;
      trace = trace;
    } in
    let all = every_state_is_kept run in
    record {
      run = run.trace;
      begins = (all.0, image_is_tree image fit verifies);
      verifies = λ m i. (all.1 m i).1;
      tree = λ m i. let k = (all.1 m i).1 in image_is_tree (settled m.after) k.fit k.verifies;
      judged = every_release_is_judged run;
      back = λ m lib b why i is told.
          let move = every_move_is_a_step run m i in
          let G : Event → Type 0 = λ event. GivenEvent m.before event in
          let S : Event → Type 0 = λ event. Step m.before event m.answer m.after in
          let R : CtlAnswer → Type 0 = λ answer. Step m.before (Release lib b) answer m.after in
          refusal_keeps m.before lib b why m.after move.kept (subst G is move.given) (subst R told (subst S is move.step));
      isolated = λ m n r i live none elsewhere.
          let move = every_move_is_a_step run m i in
          every_step_is_isolated m.before m.event m.answer m.after n r move.kept move.given move.step live none elsewhere;
      held = λ m b n r q i accepts live held after.
          let move = every_move_is_a_step run m i in
          held_content m.before m.event m.answer m.after b n r q move.kept move.given move.step accepts live held after;
      rows = λ m n r i live.
          let move = every_move_is_a_step run m i in
          every_step_keeps_rows m.before m.event m.answer m.after n r move.kept move.given move.step live;
    }

-- the image of a controller that has just started is whole
started_whole : (image : Image) (creds : List Creds) → Kept (start image creds) → IsWhole image
started_whole image creds k = λ page gone core. elim (k.absent page gone core) [ inl lent ↦ absurd (false≢true lent) | inr out ↦ absurd (false≢true (sym (ap is_some (lib_at-none_out image.core.range.end page)) ∙ out)) ]

-- the log of a controller at whose end no grant is open; page 0, which has the superblock, is no core page
log_stored : (image : Image) (libs : List ScriptLib) (moves : List Move) (tolds : List Heard) (log : List Entry) (last : State)
    → 0 < image.core.range.first → 0 < (settled last).core.range.first → Kept (start image (creds_in libs)) → IsRecorded (recorded image last log) → last.creds ≡ creds_in libs → last.open_grants ≡ []
    → AreEntries moves log → ((lib : LibNo) (l : ScriptLib) → IsLibraryOf libs lib l → Prints l.lines (heard_by tolds lib) (entries_by lib log))
    → StoredLog image libs moves tolds log last
log_stored image libs moves tolds log last first last_first k r creds none entries printed =
    let nobody : (g : OpenGrant) → In g last.open_grants → g.kind ≢ Write = λ g i. absurd (subst (In g) none i) in
    let begins : nodes_of image ≡ state_nodes (start image (creds_in libs)) = settled_nodes (start image (creds_in libs)) k (λ g i. absurd i) first in
    let ends : nodes_of (settled last) ≡ state_nodes last = settled_nodes last r.kept nobody last_first in
    let stored : Legal (state_nodes (start image last.creds)) last.creds log (state_nodes last) = (history_is_legal (recorded image last log) r).0 in
    let legal : Legal (nodes_of image) (creds_in libs) log (nodes_of (settled last)) =
    subst (λ (ns : Nodes). Legal ns (creds_in libs) log (nodes_of (settled last))) (sym begins)
    (subst (λ (ns : Nodes). Legal (state_nodes (start image (creds_in libs))) (creds_in libs) log ns) (sym ends)
    (subst (λ (cs : List Creds). Legal (state_nodes (start image cs)) cs log (state_nodes last)) creds stored)) in
    record {
      entries = entries;
      replays = subst (λ (cs : List Creds). Replays image cs log last) creds r.replays;
      legal = legal;
      one_thread = legal_is_history (nodes_of image) (creds_in libs) log (nodes_of (settled last)) legal;
      printed = printed;
    }

-- ---- a script that is played in rounds

pub headline : (image : Image) (libs : List ScriptLib) (played : Played image libs) → Kept (start image (creds_in libs)) → Headline image (creds_in libs) played.moves
headline image libs played k = headline_of image (creds_in libs) played.moves (played_is_trace image libs played) k.fit k.verifies (started_whole image (creds_in libs) k)

-- at its end no grant is open
pub no_grant_open : (image : Image) (libs : List ScriptLib) (played : Played image libs) → Kept (start image (creds_in libs)) → played.last.state.open_grants ≡ []
no_grant_open image libs played k = (ends_free image libs played k.fit k.verifies (started_whole image (creds_in libs) k)).grants

-- at its end no page is out
pub no_page_out : (image : Image) (libs : List ScriptLib) (played : Played image libs) → Kept (start image (creds_in libs)) → NoneOut played.last.state.pages_out
no_page_out image libs played k = (ends_free image libs played k.fit k.verifies (started_whole image (creds_in libs) k)).pages

-- the log of a controller that played a script
pub stored_log : (image : Image) (libs : List ScriptLib) (played : Played image libs) → 0 < image.core.range.first → 0 < (settled played.last.state).core.range.first → Kept (start image (creds_in libs)) → IsRecorded (recorded image played.last.state played.last.log)
    → StoredLog image libs played.moves played.last.told played.last.log played.last.state
stored_log image libs played first last_first k r =
    let last : State = played.last.state in
    let creds : last.creds ≡ creds_in libs = plays_creds played.first (turns_of libs) played.moves played.last played.plays ∙ ap (λ (s : State). s.creds) played.begins.state in
    log_stored image libs played.moves played.last.told played.last.log last first last_first k r creds (no_grant_open image libs played k) (played_is_logged image libs played) (played_is_printed image libs played)

-- however it is played, it comes to the same
pub comes_to_one : (image : Image) (libs : List ScriptLib) (played : Played image libs) → Kept (start image (creds_in libs)) → (other : Played image libs) → ComeToOne played other
comes_to_one image libs played k other = played_is_one image libs played other k.fit k.verifies (started_whole image (creds_in libs) k)

-- an honest library that is alone is never busy
pub never_busy : (image : Image) (libs : List ScriptLib) (played : Played image libs) → NeverBusyAlone libs played.last.told
never_busy image [] played = tt
never_busy image (l ∷ []) played = λ lines honest answer i. played_alone image l lines honest played answer i
never_busy image (l ∷ m ∷ libs) played = tt

-- ---- a script that is run with a thread for each library

-- an honest library that is alone is never busy there either
ran_never_busy : (image : Image) (libs : List ScriptLib) (tolds : List Heard) (last : State) (log : List Entry) → ScriptRan image libs tolds last log → NeverBusyAlone libs tolds
ran_never_busy image [] tolds last log ran = tt
ran_never_busy image (l ∷ []) tolds last log ran = λ lines honest answer i. ran_alone image l lines honest tolds last log ran answer i
ran_never_busy image (l ∷ m ∷ libs) tolds last log ran = tt

-- its calls are one order, of whose moves the claim holds, and what holds of the log
pub ran_on : RanIsOrder → OrderIsLogged → OrderIsOne → RanEndsFree → RanIsPrinted
    → (image : Image) (libs : List ScriptLib) (tolds : List Heard) (last : State) (log : List Entry) → 0 < image.core.range.first → 0 < (settled last).core.range.first
    → ScriptRan image libs tolds last log → RanOn image libs tolds last log
ran_on order logged same free printed image libs tolds last log first last_first ran =
    let k : Kept (start image (creds_in libs)) = ran.left.begins in
    let whole : IsWhole image = started_whole image (creds_in libs) k in
    let one = order image libs tolds last log k.fit k.verifies whole ran in
    let none : last.open_grants ≡ [] = (free image libs tolds last log ran).grants in
    record {
      ran = ran;
      one = one;
      headline = headline_of image (creds_in libs) (moves_in one.order) one.trace k.fit k.verifies whole;
      stored = log_stored image libs (moves_in one.order) tolds log last first last_first k ran.left.all ran.left.creds none (logged image libs tolds last log ran one) (printed image libs tolds last log ran);
      alone = ran_never_busy image libs tolds last log ran;
      one_output = λ tolds' last' log' ran' other alike. same image libs tolds tolds' last last' log log' ran ran' one other alike;
    }
