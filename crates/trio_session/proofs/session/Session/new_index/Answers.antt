use Rattle.trio_session.proofs.Words.{◌∙◌, ◌≡◌, AreRead, Chain, FindsFile, IsFileOn, Some, ap, chain_at, map, option_map, page_in, subst, sym}
use Rattle.trio_session.proofs.Slotted.{readable_open}
use Rattle.trio_session.proofs.session.Session.new_index.Goals as goal

pub index_of_places-requires-clause-read : goal.index_of_places-requires-clause-read
index_of_places-requires-clause-read c =
    let v = c.args.self.now in
    let s = c.self.inside in
    let on : IsFileOn v c.args.ino c.in-Some.file c.in-Some.laid.now = subst (λ o. FindsFile v c.args.ino (option_map (λ o. (o.0, o.1.now)) o)) c.in-Some.is c.file_on.ensures in
    readable_open v s c.args.ino c.in-Some.file c.in-Some.laid.now c.self.view_is c.self.invariant on c.requires.directory c.requires.new
