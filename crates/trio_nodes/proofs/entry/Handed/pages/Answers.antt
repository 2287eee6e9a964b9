use Rattle.std.proofs.Common.{◌∙◌, sym}
use Rattle.trio_nodes.proofs.HandedPages.{all-from}
use Rattle.trio_nodes.proofs.entry.Handed.pages.Goals as goal

pub returns : goal.returns
returns c =
    let h = c.self.inside in
    rw (← c.self.view_is) (c.deref.ensures.value ∙ sym (all-from h.heads.items h.holds.items h.pages.items h.numbers.items))
