use Rattle.trio_walk.proofs.Words.{◌∙◌, In-is_among, LooksUp, MayWalk, SessionSeen, ap, cond, raised, subst, sym}
use Rattle.trio_walk.proofs.Looking.{finds_entry, looked_up, may_but}
use Rattle.trio_walk.proofs.met.look_up.Goals as goal

pub returns-clause-kept : goal.returns-clause-kept
returns-clause-kept c =
    c.entry_met.ensures.found
    ∙ ap (λ b. record c.args.session.now { finds = cond b (raised c.args.session.now.finds) c.args.session.now.finds }) (In-is_among c.args.dir c.args.session.now.indexed c.requires.1.indexed)

pub returns-clause-may : goal.returns-clause-may
returns-clause-may c = λ desk may.
    subst (λ (x : SessionSeen). MayWalk desk x) (sym c.entry_met.ensures.found) (may_but desk c.args.session.now c.args.session.now.indexed _ c.args.session.now.room may)

pub returns-clause-looked : goal.returns-clause-looked
returns-clause-looked c = λ desk may list.
    subst (λ (x : SessionSeen). LooksUp desk x c.args.dir c.args.name.now c.entry_met.result) (sym c.entry_met.ensures.found)
    (looked_up desk c.args.session.now may c.args.dir c.requires.1.directory list c.args.name.now _ c.entry_met.result (sym c.entry_met.ensures.met))

pub returns-clause-finds : goal.returns-clause-finds
returns-clause-finds c = finds_entry c.args.session.now c.args.dir c.args.name.now c.requires.1.directory c.entry_met.result (sym c.entry_met.ensures.met)
