use Rattle.trio_checkpoint.proofs.Words.{◌∙◌, ◌≡◌, length, renewed, sym, with_body}
use Rattle.std.proofs.lemmas.List.{length-map, with_items_is}
use Rattle.trio_checkpoint.proofs.Bodies.{numbers_stay}
use Rattle.trio_checkpoint.proofs.checkpoint.Checkpoint.put_body.Goals as goal

pub returns-clause-numbers : goal.returns-clause-numbers
returns-clause-numbers c =
    let index = c.self.inside.index in
    let blocks = c.self.inside.blocks in
    let page = c.args.page.0 in
    let slot = c.args.slot in
    let body = c.args.body.now in
    let fits : length (with_body page slot body blocks.items) ≡ blocks.len = length-map blocks.items (renewed page slot body) ∙ sym blocks.ok.0 in
    rw (← c.self.view_is, c.renew_all.ensures, c.deref_mut.ensures.value, with_items_is blocks (with_body page slot body blocks.items) fits)
    (numbers_stay page slot body index.items blocks.items)
