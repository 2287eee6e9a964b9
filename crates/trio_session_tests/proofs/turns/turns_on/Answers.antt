use Rattle.trio_session_tests.proofs.Words.{Controller, MayBegin, MayPlay, first_lib, rules, second_lib, subst, sym, underway_of}
use Rattle.trio_session_tests.proofs.Begins.{may_begin}
use Rattle.trio_session_tests.proofs.turns.turns_on.Goals as goal

pub seated-first-requires : goal.seated-first-requires
seated-first-requires c = may_begin c.args.ctl.now first_lib c.requires.two c.requires.none (search rules) (search rules)

pub seated-second-requires : goal.seated-second-requires
seated-second-requires c =
    subst (λ (x : Controller). MayBegin x second_lib) (sym c.seated-first.ensures.kept)
    (may_begin c.args.ctl.now second_lib c.requires.two c.requires.none (search rules) (search rules))

pub turns-busy-requires-clause-first : goal.turns-busy-requires-clause-first
turns-busy-requires-clause-first c =
    subst (λ (x : Controller). MayPlay (underway_of x) first_lib c.seated-first.result) (sym c.seated-second.ensures.kept) c.seated-first.ensures.may
