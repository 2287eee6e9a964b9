use Rattle.std.proofs.Common.{◌∙◌, ap, sym, subst}
use Rattle.trio_nodes.specs.Handed.{files_from, HasPages}
use Rattle.trio_nodes.proofs.HandedPages.{all-from}
use Rattle.trio_nodes.proofs.entry.Handed.heads.Goals as goal

pub returns-clause-files : goal.returns-clause-files
returns-clause-files c =
    let h = c.self.inside in
    let all = all-from h.heads.items h.holds.items h.pages.items h.numbers.items in
    rw (← c.self.view_is) (ap (files_from c.deref.result.now) all ∙ ap (λ hs. files_from hs h.pages.items) c.deref.ensures.value)

pub returns-clause-pages : goal.returns-clause-pages
returns-clause-pages c =
    let h = c.self.inside in
    rw (← c.self.view_is) (subst (λ ps. HasPages c.deref.result.now ps) (sym (all-from h.heads.items h.holds.items h.pages.items h.numbers.items)) (subst (λ hs. HasPages hs h.pages.items) (sym c.deref.ensures.value) c.self.invariant))
