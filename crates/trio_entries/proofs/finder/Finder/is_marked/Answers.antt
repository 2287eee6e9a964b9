use Rattle.trio_entries.proofs.Words.{◌∙◌, IsBinarySearchResult, List, nat_cmp, subst, ℕ}
use Rattle.trio_entries.proofs.Finding.{found_among}
use Rattle.trio_entries.proofs.finder.Finder.is_marked.Goals as goal

pub returns : goal.returns
returns c = λ handed by.
    let marked = c.args.self.now.marked.items in
    let at = subst (λ (xs : List ℕ). IsBinarySearchResult (λ y. nat_cmp y c.args.page) xs c.binary_search.result) c.deref.ensures.value c.binary_search.ensures.position in
    c.is_ok.ensures.value ∙ found_among marked c.args.page c.binary_search.result by.rising at ∙ by.marked c.args.page
