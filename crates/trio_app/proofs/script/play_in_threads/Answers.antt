use Rattle.trio_app.proofs.Words.{◌∙◌, State, ap, sym}
use Rattle.trio_app.proofs.Ends.{nobody_writes_then, started_on, threads_end}
use Rattle.trio_app.proofs.script.play_in_threads.Goals as goal

pub run-requires-clause-started : goal.run-requires-clause-started
run-requires-clause-started g c κs within =
    started_on c.in-Ok.ctl.state _ c.in_ok-creds_of.field-0.items c.args.libs.now c.in-Ok.ensures.started c.in_ok-creds_of.ensures

pub run-requires-clause-first : goal.run-requires-clause-first
run-requires-clause-first g c κs within = c.in-Ok.ensures.first ∙ sym (ap (λ (s : State). s.home) c.in-Ok.ensures.started)

pub last_image-requires : goal.last_image-requires
last_image-requires g c =
    nobody_writes_then c.ran_ends_free.ensures.law c.args.image.superblock c.args.image.pages c.in_ok-creds_of.field-0.items c.in-Ok.ctl.state c.in_ok-ctl.ctl.state c.args.libs.now c.in_ok-ctl.tolds.items c.in_ok-ctl.ctl.log
    c.in-Ok.ensures.started c.in_ok-ctl.ensures.script

pub returns : goal.returns
returns g c =
    let image = c.in_ok-image.ensures in
    threads_end c.ran_is_order.ensures.law c.order_is_logged.ensures.law c.order_is_one.ensures.law c.ran_ends_free.ensures.law c.ran_is_printed.ensures.law
    c.args.image.superblock c.in_ok-image.image.superblock c.args.image.pages c.in_ok-image.image.pages c.in_ok-creds_of.field-0.items c.in-Ok.ctl.state c.in_ok-ctl.ctl.state c.args.libs.now c.in_ok-ctl.tolds.items c.in_ok-ctl.ctl.log
    c.superblock-superblock.ensures.verified c.in-Ok.ensures.started c.in_ok-ctl.ensures.script
    image.verified image.tables image.superblock image.stores
