use Rattle.trio_runner.proofs.Words.{◌-◌, ◌∙◌, Heard, WentThrough, ap, get_or, subst}
use Rattle.trio_runner.proofs.Beginning.{ran_all, seat_creds, seat_few, seat_script}
use Rattle.trio_runner.proofs.threads.run_lib.Goals as goal

pub run_script-requires-clause-few : goal.run_script-requires-clause-few
run_script-requires-clause-few g c = seat_few c.args.shared.now c.args.libs.now c.args.start.seat c.requires.arrives c.requires.few

pub run_script-requires-clause-creds : goal.run_script-requires-clause-creds
run_script-requires-clause-creds g c =
    let l = c.index-libs-library.result in
    seat_creds c.args.shared.now c.args.libs.now c.args.start.seat c.requires.arrives l (c.index-libs-library.is ∙ ap (λ n. get_or c.args.libs.now (n - 1) l) c.library.ensures)

pub returns-in-Ok : goal.returns-in-Ok
returns-in-Ok g c =
    let l = c.index-libs-library.result in
    let is = c.index-libs-library.is ∙ ap (λ n. get_or c.args.libs.now (n - 1) l) c.library.ensures in
    record {
      lib = l;
      is_library = seat_script c.args.shared.now c.args.libs.now c.args.start.seat c.requires.arrives l is;
      ran = ran_all c.args.shared.now c.args.libs.now c.args.start.seat c.requires.arrives l c.run_script.new.seat c.run_script.new.told
          (subst (λ (t : Heard). WentThrough c.args.shared.now l.creds l.lines c.args.start.seat t c.run_script.new.seat c.run_script.new.told) c.untold-told.ensures c.in-Ok.ensures);
    }

pub returns-in-Err : goal.returns-in-Err
returns-in-Err g c =
    let l = c.index-libs-library.result in
    record {
      lib = l;
      is_library = seat_script c.args.shared.now c.args.libs.now c.args.start.seat c.requires.arrives l (c.index-libs-library.is ∙ ap (λ n. get_or c.args.libs.now (n - 1) l) c.library.ensures);
      ran = tt;
    }
