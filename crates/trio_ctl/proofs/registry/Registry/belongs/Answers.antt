use Rattle.trio_ctl.proofs.Words.{◌∙◌, List, Opened, ap, are_given_by, false≢true, sym}
use Rattle.trio_ctl.proofs.Belonging.{belongs_back, belongs_from, given_belongs, held_belongs}
use Rattle.trio_ctl.proofs.Views.{state_is}
use Rattle.trio_ctl.proofs.registry.Registry.belongs.Goals as goal

pub returns-then-are_given-clause-exactly : goal.returns-then-are_given-clause-exactly
returns-then-are_given-clause-exactly c =
    let i = c.self.inside in
    let b = c.args.bundle.now in
    let given = ap (λ (fs : List Opened). are_given_by i.grants fs i.store c.args.lib b) (sym c.deref.ensures.value) ∙ sym c.are_given.ensures ∙ c.if-are_given.true in
    rw (← (state_is c.self.view_is))
    ((λ once. belongs_from i.store i.first_core i.grants i.files.items i.libs.items i.history i.begun.items c.self.invariant c.args.lib b given (sym c.stand_once.ensures ∙ once)), (λ t. c.stand_once.ensures ∙ (belongs_back i.store i.first_core i.grants i.files.items i.libs.items i.history i.begun.items c.self.invariant c.args.lib b t).1))

pub returns-then-are_given-clause-given : goal.returns-then-are_given-clause-given
returns-then-are_given-clause-given c =
    let i = c.self.inside in
    let b = c.args.bundle.now in
    let given = ap (λ (fs : List Opened). are_given_by i.grants fs i.store c.args.lib b) (sym c.deref.ensures.value) ∙ sym c.are_given.ensures ∙ c.if-are_given.true in
    rw (← (state_is c.self.view_is))
    (λ once.
    let t = belongs_from i.store i.first_core i.grants i.files.items i.libs.items i.history i.begun.items c.self.invariant c.args.lib b given (sym c.stand_once.ensures ∙ once) in
    (given_belongs _ c.args.lib.0 b t, held_belongs _ c.args.lib.0 b t))

pub returns-else-are_given-clause-exactly : goal.returns-else-are_given-clause-exactly
returns-else-are_given-clause-exactly c =
    let i = c.self.inside in
    let b = c.args.bundle.now in
    rw (← (state_is c.self.view_is)) (
      (λ e. absurd (false≢true (sym c.if-are_given.false ∙ e))),
      (λ t. c.are_given.ensures ∙ ap (λ (fs : List Opened). are_given_by i.grants fs i.store c.args.lib b) c.deref.ensures.value ∙ (belongs_back i.store i.first_core i.grants i.files.items i.libs.items i.history i.begun.items c.self.invariant c.args.lib b t).0),
    )
