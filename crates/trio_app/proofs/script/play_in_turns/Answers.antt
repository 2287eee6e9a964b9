use Rattle.trio_app.proofs.Words.{◌∙◌}
use Rattle.trio_app.proofs.Ends.{nobody_writes, play_end, started_on}
use Rattle.trio_app.proofs.script.play_in_turns.Goals as goal

pub play-requires-clause-started : goal.play-requires-clause-started
play-requires-clause-started c =
    started_on c.in-Ok.ctl.state _ c.in_ok-creds_of.field-0.items c.args.libs.now c.in-Ok.ensures.started c.in_ok-creds_of.ensures

pub last_image-requires : goal.last_image-requires
last_image-requires c =
    let started = c.in-Ok.ensures in
    nobody_writes c.args.image.superblock c.args.image.pages c.in_ok-creds_of.field-0.items c.in-Ok.ctl.state c.play.new.ctl.state c.args.libs.now c.in_ok-tolds.tolds.items c.play.new.ctl.log
    started.kept c.in_ok-creds_of.ensures started.started c.in_ok-tolds.ensures.script

pub returns : goal.returns
returns c =
    let started = c.in-Ok.ensures in
    let image = c.in_ok-image.ensures in
    let script = c.in_ok-tolds.ensures in
    play_end c.args.image.superblock c.in_ok-image.image.superblock c.args.image.pages c.in_ok-image.image.pages c.in_ok-creds_of.field-0.items c.in-Ok.ctl.state c.play.new.ctl.state
    c.play.new.ctl.first c.play.new.ctl.log c.args.libs.now c.in_ok-tolds.tolds.items
    c.superblock-superblock.ensures.verified started.kept c.in_ok-creds_of.ensures started.started script.script (script.first ∙ started.first) c.is_recorded.ensures
    image.verified image.tables image.superblock image.stores
