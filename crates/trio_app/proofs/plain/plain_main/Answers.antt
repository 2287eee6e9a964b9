use Rattle.trio_app.proofs.Words.{Command, Contains, Done, Usage, refl, subst, sym, texts_of}
use Rattle.trio_commands.specs.Lines.{usage_line, version_line}
use Rattle.trio_app.proofs.Decided.{main_decided}
use Rattle.trio_app.proofs.Limits.{gen_files}
use Rattle.trio_app.proofs.Names.{EachName, each_name}
use Rattle.trio_app.proofs.plain.plain_main.Goals as goal

pub new_image-outcome-requires : goal.new_image-outcome-requires
new_image-outcome-requires g c =
    let served = (g.F.Files.seen c.args.files.now).served in
    subst (λ (command : Command). EachName (Contains served) command) (sym c.in-New.ensures) (each_name (Contains served) (texts_of c.args.words.now) c.requires)

pub check-outcome-requires : goal.check-outcome-requires
check-outcome-requires g c =
    let served = (g.F.Files.seen c.args.files.now).served in
    subst (λ (command : Command). EachName (Contains served) command) (sym c.in-Check.ensures) (each_name (Contains served) (texts_of c.args.words.now) c.requires)

pub tree-outcome-requires : goal.tree-outcome-requires
tree-outcome-requires g c =
    let served = (g.F.Files.seen c.args.files.now).served in
    subst (λ (command : Command). EachName (Contains served) command) (sym c.in-Tree.ensures) (each_name (Contains served) (texts_of c.args.words.now) c.requires)

pub turns-outcome-requires-clause-image : goal.turns-outcome-requires-clause-image
turns-outcome-requires-clause-image g c =
    let served = (g.F.Files.seen c.args.files.now).served in
    (subst (λ (command : Command). EachName (Contains served) command) (sym c.in-Turns.ensures) (each_name (Contains served) (texts_of c.args.words.now) c.requires)).0

pub turns-outcome-requires-clause-script : goal.turns-outcome-requires-clause-script
turns-outcome-requires-clause-script g c =
    let served = (g.F.Files.seen c.args.files.now).served in
    (subst (λ (command : Command). EachName (Contains served) command) (sym c.in-Turns.ensures) (each_name (Contains served) (texts_of c.args.words.now) c.requires)).1

pub turns-outcome-requires-clause-out : goal.turns-outcome-requires-clause-out
turns-outcome-requires-clause-out g c =
    let served = (g.F.Files.seen c.args.files.now).served in
    (subst (λ (command : Command). EachName (Contains served) command) (sym c.in-Turns.ensures) (each_name (Contains served) (texts_of c.args.words.now) c.requires)).2

pub returns-in-New-clause-main : goal.returns-in-New-clause-main
returns-in-New-clause-main g c = record {
  status = c.new_image-outcome.result.status;
  text = c.new_image-outcome.result.text.items;
  comes_to = rw (← c.in-New.ensures) c.new_image-outcome.ensures;
  puts = rw (← c.deref.ensures.value) c.end.ensures.puts;
  unasked = rw (← c.deref.ensures.value) c.end.ensures.unasked;
}

pub returns-in-New-clause-decided : goal.returns-in-New-clause-decided
returns-in-New-clause-decided g c = main_decided _ _ _ _ _ _ (returns-in-New-clause-main g c)

pub returns-in-Check-clause-main : goal.returns-in-Check-clause-main
returns-in-Check-clause-main g c = record {
  status = c.check-outcome.result.status;
  text = c.check-outcome.result.text.items;
  comes_to = rw (← c.in-Check.ensures) c.check-outcome.ensures;
  puts = rw (← c.deref-in-Check.ensures.value) c.end-in-Check.ensures.puts;
  unasked = rw (← c.deref-in-Check.ensures.value) c.end-in-Check.ensures.unasked;
}

pub returns-in-Check-clause-decided : goal.returns-in-Check-clause-decided
returns-in-Check-clause-decided g c = main_decided _ _ _ _ _ _ (returns-in-Check-clause-main g c)

pub returns-in-Tree-clause-main : goal.returns-in-Tree-clause-main
returns-in-Tree-clause-main g c = record {
  status = c.tree-outcome.result.status;
  text = c.tree-outcome.result.text.items;
  comes_to = rw (← c.in-Tree.ensures) c.tree-outcome.ensures;
  puts = rw (← c.deref-in-Tree.ensures.value) c.end-in-Tree.ensures.puts;
  unasked = rw (← c.deref-in-Tree.ensures.value) c.end-in-Tree.ensures.unasked;
}

pub returns-in-Tree-clause-decided : goal.returns-in-Tree-clause-decided
returns-in-Tree-clause-decided g c = main_decided _ _ _ _ _ _ (returns-in-Tree-clause-main g c)

pub returns-in-Turns-clause-main : goal.returns-in-Turns-clause-main
returns-in-Turns-clause-main g c = record {
  status = c.turns-outcome.result.status;
  text = c.turns-outcome.result.text.items;
  comes_to = rw (← c.in-Turns.ensures) c.turns-outcome.ensures;
  puts = rw (← c.deref-in-Turns.ensures.value) c.end-in-Turns.ensures.puts;
  unasked = rw (← c.deref-in-Turns.ensures.value) c.end-in-Turns.ensures.unasked;
}

pub returns-in-Turns-clause-decided : goal.returns-in-Turns-clause-decided
returns-in-Turns-clause-decided g c = main_decided _ _ _ _ _ _ (returns-in-Turns-clause-main g c)

pub generate-outcome-requires : goal.generate-outcome-requires
generate-outcome-requires g c = gen_files c.in-Gen.number c.in-Gen.files (texts_of c.args.words.now) c.in-Gen.ensures

pub returns-in-Gen-clause-main : goal.returns-in-Gen-clause-main
returns-in-Gen-clause-main g c = record {
  status = c.generate-outcome.result.status;
  text = c.generate-outcome.result.text.items;
  comes_to = rw (← c.in-Gen.ensures) (record { comes_to = c.generate-outcome.ensures; same = refl });
  puts = rw (← c.deref-in-Gen.ensures.value) c.end-in-Gen.ensures.puts;
  unasked = rw (← c.deref-in-Gen.ensures.value) c.end-in-Gen.ensures.unasked;
}

pub returns-in-Gen-clause-decided : goal.returns-in-Gen-clause-decided
returns-in-Gen-clause-decided g c = main_decided _ _ _ _ _ _ (returns-in-Gen-clause-main g c)

pub migrate-outcome-requires-clause-image : goal.migrate-outcome-requires-clause-image
migrate-outcome-requires-clause-image g c =
    let served = (g.F.Files.seen c.args.files.now).served in
    (subst (λ (command : Command). EachName (Contains served) command) (sym c.in-Migrate.ensures) (each_name (Contains served) (texts_of c.args.words.now) c.requires)).0

pub migrate-outcome-requires-clause-out : goal.migrate-outcome-requires-clause-out
migrate-outcome-requires-clause-out g c =
    let served = (g.F.Files.seen c.args.files.now).served in
    (subst (λ (command : Command). EachName (Contains served) command) (sym c.in-Migrate.ensures) (each_name (Contains served) (texts_of c.args.words.now) c.requires)).1

pub returns-in-Migrate-clause-main : goal.returns-in-Migrate-clause-main
returns-in-Migrate-clause-main g c = record {
  status = c.migrate-outcome.result.status;
  text = c.migrate-outcome.result.text.items;
  comes_to = rw (← c.in-Migrate.ensures) c.migrate-outcome.ensures;
  puts = rw (← c.deref-in-Migrate.ensures.value) c.end-in-Migrate.ensures.puts;
  unasked = rw (← c.deref-in-Migrate.ensures.value) c.end-in-Migrate.ensures.unasked;
}

pub returns-in-Migrate-clause-decided : goal.returns-in-Migrate-clause-decided
returns-in-Migrate-clause-decided g c = main_decided _ _ _ _ _ _ (returns-in-Migrate-clause-main g c)

pub returns-in-Help-clause-main : goal.returns-in-Help-clause-main
returns-in-Help-clause-main g c = record {
  status = Done;
  text = usage_line;
  comes_to = rw (← c.in-Help.ensures) (record { status_is = refl; put = refl; same = refl });
  puts = c.end-in-Help.ensures.puts;
  unasked = c.end-in-Help.ensures.unasked;
}

pub returns-in-Help-clause-decided : goal.returns-in-Help-clause-decided
returns-in-Help-clause-decided g c = main_decided _ _ _ _ _ _ (returns-in-Help-clause-main g c)

pub returns-in-Version-clause-main : goal.returns-in-Version-clause-main
returns-in-Version-clause-main g c = record {
  status = Done;
  text = version_line;
  comes_to = rw (← c.in-Version.ensures) (record { status_is = refl; put = refl; same = refl });
  puts = c.end-in-Version.ensures.puts;
  unasked = c.end-in-Version.ensures.unasked;
}

pub returns-in-Version-clause-decided : goal.returns-in-Version-clause-decided
returns-in-Version-clause-decided g c = main_decided _ _ _ _ _ _ (returns-in-Version-clause-main g c)

pub returns-in-Unknown-clause-main : goal.returns-in-Unknown-clause-main
returns-in-Unknown-clause-main g c = record {
  status = Usage;
  text = usage_line;
  comes_to = rw (← c.in-Unknown.ensures) (record { status_is = refl; put = refl; same = refl });
  puts = c.end-in-Unknown.ensures.puts;
  unasked = c.end-in-Unknown.ensures.unasked;
}

pub returns-in-Unknown-clause-decided : goal.returns-in-Unknown-clause-decided
returns-in-Unknown-clause-decided g c = main_decided _ _ _ _ _ _ (returns-in-Unknown-clause-main g c)

pub returns-in-Run-clause-main : goal.returns-in-Run-clause-main
returns-in-Run-clause-main g c = record {
  status = Usage;
  text = usage_line;
  comes_to = rw (← c.in-Run.ensures) (record { status_is = refl; put = refl; same = refl });
  puts = c.end-in-Run.ensures.puts;
  unasked = c.end-in-Run.ensures.unasked;
}

pub returns-in-Run-clause-decided : goal.returns-in-Run-clause-decided
returns-in-Run-clause-decided g c = main_decided _ _ _ _ _ _ (returns-in-Run-clause-main g c)
