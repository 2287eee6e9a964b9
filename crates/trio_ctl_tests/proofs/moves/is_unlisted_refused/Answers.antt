use Rattle.trio_ctl_tests.proofs.moves.is_unlisted_refused.Goals as goal

pub ended-requires : goal.ended-requires
ended-requires c =
    let judged = c.in-Some.judged in
    c.lent_is_marked.ensures.law c.judged_unlisted.new.ctl.state judged.case.lib.0 judged.case.bundle c.is_recorded.ensures.kept c.in-Some.ensures c.keeps_untouched.ensures
