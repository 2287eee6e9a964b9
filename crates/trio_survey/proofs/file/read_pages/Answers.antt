use Rattle.trio_survey.proofs.Words.{◌≡◌, Ok, core_with, file_kept, met_seen, rules, sym}
use Rattle.trio_layout.specs.Survey.{file_of}
use Rattle.trio_survey.specs.declared.file.FilePages.{FilePages}
use Rattle.trio_survey.proofs.Fits.{file_within}
use Rattle.trio_survey.proofs.file.read_pages.Goals as goal

pub returns-in-Ok-2-clause-within : goal.returns-in-Ok-2-clause-within
unfolding file_of
returns-in-Ok-2-clause-within c =
    let core = core_with c.args.home.now.pages c.args.range c.args.inodes in
    let f : FilePages = record { body = c.in-Some.body; chain = c.in-Ok.chain } in
    let g = file_kept c.args.range c.read_directory.new.kept.blocks c.args.met.now.kind f in
    let e : Ok g ≡ file_of core (met_seen c.args.met.now) = search rules in
    file_within core (met_seen c.args.met.now) g (sym e)
