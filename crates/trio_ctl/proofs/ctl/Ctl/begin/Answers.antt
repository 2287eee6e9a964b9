use Rattle.trio_ctl.proofs.Words.{◌≡◌, Acts, Answered, Begin, Controller, Entry, GivenTo, HasBegun, KeptUnderway, List, State, Underway, acts_keep, ap, arith, bundle_in, false, image_in, length, refl, release_fault_answer, subst, sym, true, underway_at, underway_of, vec_len}
use Rattle.trio_state.specs.State.{IsLibrary}
use Rattle.trio_ctl.specs.Answers.{begin_answer}
use Rattle.trio_ctl.proofs.Ends.{after_begin}
use Rattle.trio_ctl.proofs.Keeping.{has_both, has_place, spare_here, spare_there}
use Rattle.trio_ctl.proofs.Spending.{spends_places, spends_so}
use Rattle.trio_ctl.proofs.Recording.{next_entry}
use Rattle.trio_ctl.proofs.Views.{seen_idle, seen_state}
use Rattle.trio_ctl.proofs.Seen.{more_places, seen_underway}
use Rattle.trio_ctl.proofs.ctl.Ctl.begin.Goals as goal

pub begin-requires-clause-entry : goal.begin-requires-clause-entry
begin-requires-clause-entry c =
    next_entry _ _ _ _ _ _ _ _ c.self.invariant.0 c.len-entry.ensures c.make_places.ensures.kept

pub invariant_of-self-2 : goal.invariant_of-self-2
invariant_of-self-2 c =
    let i = c.self.inside in
    let b = bundle_in c.args.bundle in
    let u : Underway = underway_at i.registry in
    let seen : u ≡ underway_of c.args.self.now = ap underway_of c.self.view_is in
    let library = subst (λ (v : State). IsLibrary v.creds c.args.lib.0) (sym (seen_state c.self.view_is)) c.requires.library in
    let given = subst (λ (v : State). GivenTo v c.args.lib.0 b) (sym (seen_state c.self.view_is)) c.requires.given in
    let idle = seen_idle c.args.lib.0 c.self.view_is c.requires.idle in
    let answer = begin_answer c.begin.result (λ back. back.1) in
    let kept : KeptUnderway (underway_at c.begin.new.self) = acts_keep u (Begin c.args.lib.0 b) answer (underway_at c.begin.new.self) c.self.invariant.0.underway (library, idle, given) c.begin.ensures.begins in
    let places = rw (c.promised.ensures) at c.in-Ok.ensures.room in
    let now = c.in-Ok-begin.ensures.promised in
    (after_begin (image_in i.first.value.superblock i.first.value.pages) i.registry.state c.begin.new.self.state i.registry.begun c.begin.new.self.begun i.registry.promised c.begin.new.self.promised i.log c.make_places.new.log i.notes c.self.invariant.0 c.begin.ensures.state kept c.make_places.ensures.kept (omega (arith, places, now)), spare_there c.self.inside.registry.state (image_in c.self.inside.first.value.superblock c.self.inside.first.value.pages) c.begin.new.spares c.self.invariant.0.sizes c.in-Ok-begin.ensures.takes.spare)

pub invariant_of-self-in-Err : goal.invariant_of-self-in-Err
invariant_of-self-in-Err c =
    let i = c.self.inside in
    let b = bundle_in c.args.bundle in
    let u : Underway = underway_at i.registry in
    let seen : u ≡ underway_of c.args.self.now = ap underway_of c.self.view_is in
    let library = subst (λ (v : State). IsLibrary v.creds c.args.lib.0) (sym (seen_state c.self.view_is)) c.requires.library in
    let given = subst (λ (v : State). GivenTo v c.args.lib.0 b) (sym (seen_state c.self.view_is)) c.requires.given in
    let idle = seen_idle c.args.lib.0 c.self.view_is c.requires.idle in
    let answer = begin_answer c.begin.result (λ back. back.1) in
    let kept : KeptUnderway (underway_at c.begin.new.self) = acts_keep u (Begin c.args.lib.0 b) answer (underway_at c.begin.new.self) c.self.invariant.0.underway (library, idle, given) c.begin.ensures.begins in
    let places = rw (c.promised.ensures) at c.in-Ok.ensures.room in
    let now = c.in-Err.ensures.unpromised in
    (after_begin (image_in i.first.value.superblock i.first.value.pages) i.registry.state c.begin.new.self.state i.registry.begun c.begin.new.self.begun i.registry.promised c.begin.new.self.promised i.log c.make_places.new.log i.notes c.self.invariant.0 c.begin.ensures.state kept c.make_places.ensures.kept (omega (arith, places, now)), spare_there c.self.inside.registry.state (image_in c.self.inside.first.value.superblock c.self.inside.first.value.pages) c.begin.new.spares c.self.invariant.0.sizes c.in-Err.ensures.takes.spare)

pub returns-clause-acts : goal.returns-clause-acts
returns-clause-acts c =
    let i = c.self.inside in
    let b = bundle_in c.args.bundle in
    let u : Underway = underway_at i.registry in
    let seen : u ≡ underway_of c.args.self.now = ap underway_of c.self.view_is in
    subst (λ (v : Underway). Acts v (Begin c.args.lib.0 b) HasBegun (underway_at c.begin.new.self)) seen c.in-Ok-begin.ensures.begins

pub returns-in-Err-clause-acts : goal.returns-in-Err-clause-acts
returns-in-Err-clause-acts c =
    let i = c.self.inside in
    let b = bundle_in c.args.bundle in
    let u : Underway = underway_at i.registry in
    let seen : u ≡ underway_of c.args.self.now = ap underway_of c.self.view_is in
    subst (λ (v : Underway). Acts v (Begin c.args.lib.0 b) (Answered (release_fault_answer c.in-Err.back.1)) (underway_at c.begin.new.self)) seen c.in-Err.ensures.begins

pub returns-clause-kept : goal.returns-clause-kept
returns-clause-kept c =
    let i = c.self.inside in
    let b = bundle_in c.args.bundle in
    let u : Underway = underway_at i.registry in
    let seen : u ≡ underway_of c.args.self.now = ap underway_of c.self.view_is in
    let library = subst (λ (v : State). IsLibrary v.creds c.args.lib.0) (sym (seen_state c.self.view_is)) c.requires.library in
    let given = subst (λ (v : State). GivenTo v c.args.lib.0 b) (sym (seen_state c.self.view_is)) c.requires.given in
    let idle = seen_idle c.args.lib.0 c.self.view_is c.requires.idle in
    let answer = begin_answer c.begin.result (λ back. back.1) in
    let kept : KeptUnderway (underway_at c.begin.new.self) = acts_keep u (Begin c.args.lib.0 b) answer (underway_at c.begin.new.self) c.self.invariant.0.underway (library, idle, given) c.begin.ensures.begins in
    kept

pub begin-requires-clause-spare : goal.begin-requires-clause-spare
begin-requires-clause-spare c = spare_here c.self.inside.registry.state (image_in c.self.inside.first.value.superblock c.self.inside.first.value.pages) c.self.inside.spares c.self.invariant.0.sizes c.self.invariant.1

pub returns-in_default-clause-sure : goal.returns-in_default-clause-sure
returns-in_default-clause-sure c = λ room lacks.
    let place = has_place (bundle_in c.args.bundle) c.self.inside.log c.self.inside.registry.promised (vec_len c.self.inside.spares.kits) c.self.inside.spares.bytes c.self.view_is refl room in
    let promised = c.promised.ensures in
    let lost : false ≡ true = c.in_default.ensures.succeeds (omega (arith, place, promised)) in
    absurd cc

pub returns-in_default-clause-spends : goal.returns-in_default-clause-spends
returns-in_default-clause-spends c = spends_places c.self.inside.log c.self.inside.registry.promised (vec_len c.self.inside.spares.kits) c.self.inside.spares.bytes (ap (λ (x : Controller). x.spare) c.self.view_is) 1 c.make_places.new.log c.self.inside.registry.promised c.make_places.ensures.kept c.make_places.ensures.grows (omega arith)

pub returns-in_default-clause-unspent : goal.returns-in_default-clause-unspent
returns-in_default-clause-unspent c = spends_places c.self.inside.log c.self.inside.registry.promised (vec_len c.self.inside.spares.kits) c.self.inside.spares.bytes (ap (λ (x : Controller). x.spare) c.self.view_is) 0 c.make_places.new.log c.self.inside.registry.promised c.make_places.ensures.kept c.make_places.ensures.grows (omega arith)

pub returns-in-Err-clause-unspent : goal.returns-in-Err-clause-unspent
returns-in-Err-clause-unspent c =
    let long = ap (λ (es : List Entry). length es) c.make_places.ensures.kept in
    let same = c.in-Err.ensures.unpromised in
    let kits = c.in-Err.ensures.unspent in
    spends_so c.self.inside.log c.self.inside.registry.promised (vec_len c.self.inside.spares.kits) c.self.inside.spares.bytes (ap (λ (x : Controller). x.spare) c.self.view_is) 0 c.make_places.new.log c.begin.new.self.promised (vec_len c.begin.new.spares.kits) c.begin.new.spares.bytes (omega (arith, long, same)) c.make_places.ensures.grows (omega (arith, kits)) c.begin.ensures.takes.bytes

pub returns-in-Err-clause-sure : goal.returns-in-Err-clause-sure
returns-in-Err-clause-sure c = λ room.
    let both = has_both (bundle_in c.args.bundle) c.self.inside.log c.self.inside.registry.promised c.self.inside.spares c.self.view_is refl (next_entry _ _ _ _ _ _ _ _ c.self.invariant.0 refl refl) c.is_small.ensures room in
    c.in-Err.ensures.sure both.0 both.1

pub returns-in-Err-clause-spends : goal.returns-in-Err-clause-spends
returns-in-Err-clause-spends c =
    let long = ap (λ (es : List Entry). length es) c.make_places.ensures.kept in
    let same = c.in-Err.ensures.unpromised in
    spends_so c.self.inside.log c.self.inside.registry.promised (vec_len c.self.inside.spares.kits) c.self.inside.spares.bytes (ap (λ (x : Controller). x.spare) c.self.view_is) 1 c.make_places.new.log c.begin.new.self.promised (vec_len c.begin.new.spares.kits) c.begin.new.spares.bytes (omega (arith, long, same)) c.make_places.ensures.grows c.begin.ensures.takes.kits c.begin.ensures.takes.bytes

pub returns-clause-spends : goal.returns-clause-spends
returns-clause-spends c =
    let long = ap (λ (es : List Entry). length es) c.make_places.ensures.kept in
    let more = c.in-Ok-begin.ensures.promised in
    spends_so c.self.inside.log c.self.inside.registry.promised (vec_len c.self.inside.spares.kits) c.self.inside.spares.bytes (ap (λ (x : Controller). x.spare) c.self.view_is) 1 c.make_places.new.log c.begin.new.self.promised (vec_len c.begin.new.spares.kits) c.begin.new.spares.bytes (omega (arith, long, more)) c.make_places.ensures.grows c.begin.ensures.takes.kits c.begin.ensures.takes.bytes

pub returns-clause-was_kept : goal.returns-clause-was_kept
returns-clause-was_kept c = seen_underway c.self.view_is c.self.invariant.0.underway

pub returns-in-Err-clause-was_kept : goal.returns-in-Err-clause-was_kept
returns-in-Err-clause-was_kept c = seen_underway c.self.view_is c.self.invariant.0.underway

pub returns-in_default-clause-was_kept : goal.returns-in_default-clause-was_kept
returns-in_default-clause-was_kept c = seen_underway c.self.view_is c.self.invariant.0.underway

pub invariant_of-self : goal.invariant_of-self
invariant_of-self c =
    let i = c.self.inside in
    (more_places (image_in i.first.value.superblock i.first.value.pages) i.registry.state i.registry.begun i.registry.promised i.log c.make_places.new.log i.notes c.self.invariant.0 c.make_places.ensures.kept c.make_places.ensures.grows, c.self.invariant.1)

pub returns-in-Err-clause-kept : goal.returns-in-Err-clause-kept
returns-in-Err-clause-kept c =
    let i = c.self.inside in
    let b = bundle_in c.args.bundle in
    let u : Underway = underway_at i.registry in
    let seen : u ≡ underway_of c.args.self.now = ap underway_of c.self.view_is in
    let library = subst (λ (v : State). IsLibrary v.creds c.args.lib.0) (sym (seen_state c.self.view_is)) c.requires.library in
    let given = subst (λ (v : State). GivenTo v c.args.lib.0 b) (sym (seen_state c.self.view_is)) c.requires.given in
    let idle = seen_idle c.args.lib.0 c.self.view_is c.requires.idle in
    let answer = begin_answer c.begin.result (λ back. back.1) in
    let kept : KeptUnderway (underway_at c.begin.new.self) = acts_keep u (Begin c.args.lib.0 b) answer (underway_at c.begin.new.self) c.self.invariant.0.underway (library, idle, given) c.begin.ensures.begins in
    kept
