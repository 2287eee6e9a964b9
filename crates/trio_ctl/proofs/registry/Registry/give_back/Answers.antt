use Rattle.trio_ctl.proofs.Words.{◌+◌, ◌∙◌, Entries, HasGrant, HasKey, Kept, Opened, Read, Registered, Shown, State, ap, arith, drop, is_read_of, position, subst, sym, take, without}
use Rattle.trio_ctl.proofs.Views.{state_is}
use Rattle.trio_ctl.proofs.GivingBack.{back_controlled, back_step, found_split, has_promise, is_found, key_there}
use Rattle.trio_ctl.proofs.registry.Registry.give_back.Goals as goal

pub unreachable-requires : goal.unreachable-requires
unreachable-requires c =
    let i = c.self.inside in
    let lib = c.args.lease.lib.0 in
    let ino = c.args.lease.ino in
    let same = c.parts-parts.ensures in
    let given = subst (λ (v : State). HasGrant v lib ino Read) (sym (state_is c.self.view_is)) c.requires.given in
    let found = sym (ap (λ (x : Shown). position (λ (o : Opened). is_read_of x.lib.0 x.ino o.grant) i.files.items) same) ∙ sym (ap (position (λ (o : Opened). is_read_of c.parts-parts.result.lib.0 c.parts-parts.result.ino o.grant)) c.deref.ensures.value) ∙ sym c.place_of_read.ensures ∙ c.in_default.is in
    absurd (is_found i.store i.first_core i.grants i.files.items i.libs.items i.history i.begun.items c.self.invariant lib ino given found)

pub end-requires : goal.end-requires
end-requires c =
    let i = c.self.inside in
    let lib = c.args.lease.lib.0 in
    let ino = c.args.lease.ino in
    let same = c.parts-parts.ensures in
    let given = subst (λ (v : State). HasGrant v lib ino Read) (sym (state_is c.self.view_is)) c.requires.given in
    let found = sym (ap (λ (x : Shown). position (λ (o : Opened). is_read_of x.lib.0 x.ino o.grant) i.files.items) same) ∙ sym (ap (position (λ (o : Opened). is_read_of c.parts-parts.result.lib.0 c.parts-parts.result.ino o.grant)) c.deref.ensures.value) ∙ sym c.place_of_read.ensures ∙ c.in-Some.is in
    let at = c.in-Some.at in
    let split = found_split lib ino i.files.items at c.remove-file.result found c.remove-file.ensures.value in
    subst (λ n. HasKey n i.grants) (sym c.key.ensures) (key_there i.store i.first_core i.grants i.files.items i.libs.items i.history i.begun.items c.self.invariant lib ino (take at i.files.items) (drop (at + 1) i.files.items) c.remove-file.result split.0 split.1)

pub enter_promised-requires-clause-promised : goal.enter_promised-requires-clause-promised
enter_promised-requires-clause-promised c =
    let i = c.self.inside in
    let lib = c.args.lease.lib.0 in
    let ino = c.args.lease.ino in
    let same = c.parts-parts.ensures in
    let given = subst (λ (v : State). HasGrant v lib ino Read) (sym (state_is c.self.view_is)) c.requires.given in
    let found = sym (ap (λ (x : Shown). position (λ (o : Opened). is_read_of x.lib.0 x.ino o.grant) i.files.items) same) ∙ sym (ap (position (λ (o : Opened). is_read_of c.parts-parts.result.lib.0 c.parts-parts.result.ino o.grant)) c.deref.ensures.value) ∙ sym c.place_of_read.ensures ∙ c.in-Some.is in
    let at = c.in-Some.at in
    let split = found_split lib ino i.files.items at c.remove-file.result found c.remove-file.ensures.value in
    let left = c.remove-file.ensures.by_index.2 in
    let ended = c.end.ensures.ended ∙ ap (λ n. without n i.grants) c.key.ensures in
    has_promise i.store i.first_core i.grants i.files.items i.libs.items i.history i.begun.items c.self.invariant lib ino (take at i.files.items) (drop (at + 1) i.files.items) c.remove-file.result split.0 split.1

pub invariant_of-self : goal.invariant_of-self
invariant_of-self c =
    let i = c.self.inside in
    let lib = c.args.lease.lib.0 in
    let ino = c.args.lease.ino in
    let same = c.parts-parts.ensures in
    let given = subst (λ (v : State). HasGrant v lib ino Read) (sym (state_is c.self.view_is)) c.requires.given in
    let found = sym (ap (λ (x : Shown). position (λ (o : Opened). is_read_of x.lib.0 x.ino o.grant) i.files.items) same) ∙ sym (ap (position (λ (o : Opened). is_read_of c.parts-parts.result.lib.0 c.parts-parts.result.ino o.grant)) c.deref.ensures.value) ∙ sym c.place_of_read.ensures ∙ c.in-Some.is in
    let at = c.in-Some.at in
    let split = found_split lib ino i.files.items at c.remove-file.result found c.remove-file.ensures.value in
    let left = c.remove-file.ensures.by_index.2 in
    let ended = c.end.ensures.ended ∙ ap (λ n. without n i.grants) c.key.ensures in
    back_controlled i.store i.first_core i.grants i.files.items i.libs.items i.history i.begun.items c.self.invariant lib ino (take at i.files.items) (drop (at + 1) i.files.items) c.remove-file.result split.0 split.1 c.end.new.self c.remove-file.new.self.items c.enter_promised.new.self ended left c.enter_promised.ensures given

pub returns : goal.returns
returns c =
    let i = c.self.inside in
    let lib = c.args.lease.lib.0 in
    let ino = c.args.lease.ino in
    let same = c.parts-parts.ensures in
    let given = subst (λ (v : State). HasGrant v lib ino Read) (sym (state_is c.self.view_is)) c.requires.given in
    let found = sym (ap (λ (x : Shown). position (λ (o : Opened). is_read_of x.lib.0 x.ino o.grant) i.files.items) same) ∙ sym (ap (position (λ (o : Opened). is_read_of c.parts-parts.result.lib.0 c.parts-parts.result.ino o.grant)) c.deref.ensures.value) ∙ sym c.place_of_read.ensures ∙ c.in-Some.is in
    let at = c.in-Some.at in
    let split = found_split lib ino i.files.items at c.remove-file.result found c.remove-file.ensures.value in
    let left = c.remove-file.ensures.by_index.2 in
    let ended = c.end.ensures.ended ∙ ap (λ n. without n i.grants) c.key.ensures in
    let some = has_promise i.store i.first_core i.grants i.files.items i.libs.items i.history i.begun.items c.self.invariant lib ino (take at i.files.items) (drop (at + 1) i.files.items) c.remove-file.result split.0 split.1 in
    let new = ap (λ (e : Entries). e.promised) c.enter_promised.ensures in
    let old = ap (λ (r : Registered). r.promised) c.self.view_is in
    record {
      step =
          rw (← (state_is c.self.view_is))
          (back_step i.store i.first_core i.grants i.files.items i.libs.items i.history i.begun.items c.self.invariant lib ino (take at i.files.items) (drop (at + 1) i.files.items) c.remove-file.result split.0 split.1 c.end.new.self c.remove-file.new.self.items c.enter_promised.new.self ended left c.enter_promised.ensures);
      was_kept = subst Kept (state_is c.self.view_is) c.self.invariant.stored.kept;
      kept = (back_controlled i.store i.first_core i.grants i.files.items i.libs.items i.history i.begun.items c.self.invariant lib ino (take at i.files.items) (drop (at + 1) i.files.items) c.remove-file.result split.0 split.1 c.end.new.self c.remove-file.new.self.items c.enter_promised.new.self ended left c.enter_promised.ensures given).stored.kept;
      begun = ap (λ (r : Registered). r.begun) c.self.view_is;
      promised = omega (arith, some, new, old);
      looked = ap (λ (r : Registered). r.looked) c.self.view_is;
    }
