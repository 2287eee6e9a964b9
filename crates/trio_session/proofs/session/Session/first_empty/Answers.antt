use Rattle.trio_session.proofs.Words.{◌∙◌, ap, first_empty}
use Rattle.trio_session.proofs.Indexed.{dir_index, index_missing, open_shown}
use Rattle.trio_session.proofs.session.Session.first_empty.Goals as goal

pub returns-in_err-index_on : goal.returns-in_err-index_on
returns-in_err-index_on c =
    let s = c.self.inside in
    absurd (index_missing c.args.self.now s c.args.dir c.index_on.result c.deref.result.now c.self.view_is c.requires.index c.deref.ensures.value c.index_on.ensures c.in_err-index_on.was)

pub returns : goal.returns
returns c =
    let s = c.self.inside in
    c.first_empty.ensures.first ∙ ap first_empty (dir_index c.args.self.now s c.args.dir c.index_on.result c.deref.result.now c.in_ok-index_on.field-0 c.self.view_is c.self.invariant
    (open_shown c.args.self.now c.args.dir c.requires.directory) c.deref.ensures.value c.index_on.ensures c.in_ok-index_on.was)
