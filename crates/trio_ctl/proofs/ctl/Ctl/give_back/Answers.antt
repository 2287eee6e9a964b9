use Rattle.trio_ctl.proofs.Words.{Back, Done, HasGrant, Read, State, refl, subst, sym, Controller, ap, arith, vec_len}
use Rattle.trio_ctl.proofs.Recording.{after_call, grants_library, next_entry, promised_room}
use Rattle.trio_ctl.proofs.Views.{seen_idle, seen_state}
use Rattle.trio_ctl.proofs.Seen.{seen_kept}
use Rattle.trio_ctl.proofs.Spending.{spends_entry}
use Rattle.trio_ctl.proofs.ctl.Ctl.give_back.Goals as goal

pub give_back-requires-clause-entry : goal.give_back-requires-clause-entry
give_back-requires-clause-entry c = next_entry _ _ _ _ _ _ _ _ c.self.invariant.0 c.len.ensures refl

pub invariant_of-self : goal.invariant_of-self
invariant_of-self c =
    let i = c.self.inside in
    let lib = c.args.lease.lib in
    let given = subst (λ (v : State). HasGrant v lib.0 c.args.lease.ino Read) (sym (seen_state c.self.view_is)) c.requires.given in (
      after_call _ i.registry.state c.give_back.new.self.state i.registry.begun c.give_back.new.self.begun i.registry.promised c.give_back.new.self.promised i.log c.push.new.self i.notes (Back lib.0 c.args.lease.ino) Done c.self.invariant.0 c.give_back.ensures.was_kept (seen_idle c.args.lease.lib.0 c.self.view_is c.requires.idle) c.give_back.ensures.begun
          (grants_library i.registry.state lib.0 c.args.lease.ino Read c.self.invariant.0.mine given) given tt c.give_back.ensures.step tt (rw (c.push.ensures, c.lib-lib.ensures, c.ino-ino.ensures) refl)
          (rw c.push.ensures (promised_room i.log.entries _ i.registry.promised c.give_back.new.self.promised i.log.room c.self.invariant.0.room c.give_back.ensures.promised)),
      c.self.invariant.1,
    )

pub returns-clause-was_kept : goal.returns-clause-was_kept
returns-clause-was_kept c = seen_kept c.self.view_is c.self.invariant.0.all.kept

pub returns-clause-spends : goal.returns-clause-spends
returns-clause-spends c =
    let few = c.give_back.ensures.promised in
    spends_entry c.self.inside.log c.self.inside.registry.promised (vec_len c.self.inside.spares.kits) c.self.inside.spares.bytes (ap (λ (x : Controller). x.spare) c.self.view_is) 0 c.self.inside.log c.push.new.self c.give_back.new.self.promised _ refl (omega arith) c.push.ensures (omega (arith, few))
