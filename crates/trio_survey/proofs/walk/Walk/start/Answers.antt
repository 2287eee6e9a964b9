use Rattle.trio_survey.proofs.Words.{◌+◌, ◌∷◌, ◌≡◌, [], false, framed, map, met_seen, replicate, root_of, rules}
use Rattle.trio_survey.proofs.Beginning.{stands_first}
use Rattle.trio_survey.proofs.ListedAgain.{knows_none}
use Rattle.trio_survey.proofs.walk.Walk.start.Goals as goal

pub returns-clause-stands : goal.returns-clause-stands
returns-clause-stands c = λ pages pick.
    let core = framed pages c.args.frame.now in
    let files : map met_seen c.in_ok-vec.field-0.items ≡ root_of core ∷ [] = search rules in
    let marks : c.in_ok-met.met.items ≡ replicate (c.args.frame.now.inodes + 1) false = search rules in
    let used : c.in_ok-vec-2.field-0.items ≡ replicate c.args.frame.now.range.end false = search rules in
    rw (files, marks, used) (stands_first core pick c.requires.some)

pub returns-clause-keeps : goal.returns-clause-keeps
returns-clause-keeps c = λ pages. c.in_ok-none-2.ensures.keeps pages

pub returns-clause-says : goal.returns-clause-says
returns-clause-says c = λ pages. c.in_ok-none-2.ensures.says pages c.args.frame.now.inodes

pub returns-clause-heads : goal.returns-clause-heads
returns-clause-heads c = λ pages.
    let heads = c.in_ok-none.ensures in
    knows_none (framed pages c.args.frame.now) c.args.frame.now.range.end c.in_ok-none.field-0 heads.other heads.directory
