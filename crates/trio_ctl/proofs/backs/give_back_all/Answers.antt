use Rattle.trio_ctl.proofs.Words.{◌∙◌, ap, reverse, subst}
use Rattle.std.proofs.lemmas.List.{reverse-reverse}
use Rattle.trio_ctl.proofs.LeasesBack.{Left, last_back, left_begins, left_given, left_next}
use Rattle.trio_ctl.proofs.backs.give_back_all.Goals as goal

pub loop-lease-init : goal.loop-lease-init
loop-lease-init c =
    let back = c.args.back.items in
    left_begins c.args.lib c.args.registry.now c.args.log.now (reverse c.reverse.new.self.items) back (ap reverse c.reverse.ensures.items ∙ reverse-reverse back) c.requires.given c.requires.whose c.requires.room c.requires.kept c.requires.entry

pub give_back-requires : goal.give_back-requires
give_back-requires c =
    let f = c.in-Some.lease in
    let turn = c.loop-lease in
    let rest = reverse c.pop.new.self.items in
    let l = subst (λ xs. Left c.args.lib turn.registry turn.log xs c.args.registry.now c.args.log.now c.args.back.items) (last_back turn.back.items c.pop.new.self.items f c.in-Some.ensures.items) turn.invariant in
    record { entry = c.len.ensures ∙ l.count; given = left_given c.args.lib turn.registry turn.registry c.args.registry.now turn.log turn.log c.args.log.now f rest c.args.back.items l }

pub loop-lease-preserved : goal.loop-lease-preserved
loop-lease-preserved c =
    let f = c.in-Some.lease in
    let turn = c.loop-lease in
    let rest = reverse c.pop.new.self.items in
    let l = subst (λ xs. Left c.args.lib turn.registry turn.log xs c.args.registry.now c.args.log.now c.args.back.items) (last_back turn.back.items c.pop.new.self.items f c.in-Some.ensures.items) turn.invariant in
    left_next c.args.lib turn.registry c.give_back.new.self c.args.registry.now turn.log c.push.new.self c.args.log.now f rest c.args.back.items l c.give_back.ensures.step c.give_back.ensures.begun c.give_back.ensures.promised (rw (← c.ino-ino.ensures) c.push.ensures) c.give_back.ensures.kept c.give_back.ensures.looked
