use Rattle.trio_app.proofs.Words.{◌≡◌, Command, Contains, Main, command_of, subst, sym, texts_of, without_threads}
use Rattle.trio_app.proofs.Decided.{main_decided}
use Rattle.trio_app.proofs.Limits.{run_workers}
use Rattle.trio_app.proofs.Names.{EachName, each_name}
use Rattle.trio_app.proofs.Requests.{no_run}
use Rattle.trio_app.proofs.threads.trio_main.Goals as goal

pub run-outcome-requires-clause-image : goal.run-outcome-requires-clause-image
run-outcome-requires-clause-image g c κs within =
    let served = (g.F.Files.seen c.args.files.now).served in
    (subst (λ (command : Command). EachName (Contains served) command) (sym c.in-Run.ensures) (each_name (Contains served) (texts_of c.args.words.now) c.requires)).0

pub run-outcome-requires-clause-script : goal.run-outcome-requires-clause-script
run-outcome-requires-clause-script g c κs within =
    let served = (g.F.Files.seen c.args.files.now).served in
    (subst (λ (command : Command). EachName (Contains served) command) (sym c.in-Run.ensures) (each_name (Contains served) (texts_of c.args.words.now) c.requires)).1

pub run-outcome-requires-clause-out : goal.run-outcome-requires-clause-out
run-outcome-requires-clause-out g c κs within =
    let served = (g.F.Files.seen c.args.files.now).served in
    (subst (λ (command : Command). EachName (Contains served) command) (sym c.in-Run.ensures) (each_name (Contains served) (texts_of c.args.words.now) c.requires)).2

pub run-outcome-requires-clause-workers : goal.run-outcome-requires-clause-workers
run-outcome-requires-clause-workers g c κs within = run_workers c.in-Run.image.now c.in-Run.script.now c.in-Run.output.now c.in-Run.workers (texts_of c.args.words.now) c.in-Run.ensures

pub returns-in-Run-clause-main : goal.returns-in-Run-clause-main
returns-in-Run-clause-main g c = record {
  status = c.run-outcome.result.status;
  text = c.run-outcome.result.text.items;
  comes_to = rw (← c.in-Run.ensures) c.run-outcome.ensures;
  puts = rw (← c.deref.ensures.value) c.end.ensures.puts;
  unasked = rw (← c.deref.ensures.value) c.end.ensures.unasked;
}

pub returns-in-Run-clause-decided : goal.returns-in-Run-clause-decided
returns-in-Run-clause-decided g c = main_decided _ _ _ _ _ _ (returns-in-Run-clause-main g c)

pub returns-in_default-clause-main : goal.returns-in_default-clause-main
returns-in_default-clause-main g c =
    let plain : without_threads (command_of (texts_of c.args.words.now)) ≡ command_of (texts_of c.args.words.now) = subst (λ (command : Command). without_threads command ≡ command) c.read_words.ensures (no_run c.read_words.result c.in_default.not-Run) in
    subst (λ (command : Command). Main command (g.F.Files.seen c.args.files.now) (g.F.Files.seen c.plain_main.new.files) (g.S.Sink.seen c.args.out.now) (g.S.Sink.seen c.plain_main.new.out) c.plain_main.result) plain c.plain_main.ensures.main

pub returns-in_default-clause-decided : goal.returns-in_default-clause-decided
returns-in_default-clause-decided g c = main_decided _ _ _ _ _ _ (returns-in_default-clause-main g c)
