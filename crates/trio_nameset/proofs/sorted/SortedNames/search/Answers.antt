use Rattle.std.proofs.Common.{◌≡◌, ◌∙◌, ℕ, ◌+◌, Bool, true, false, List, [], Some, not, sym, ap, subst, arith}
use Rattle.std.specs.Ordering.{nat_cmp}
use Rattle.std.specs.Cmp.Lexicographic.{slice_cmp}
use Rattle.std.proofs.lemmas.List.{get_or_read}
use Rattle.std.proofs.lemmas.Option.{slice_get-get_or}
use Rattle.trio_nameset.specs.inner.Sorted.{nth, IsAbove}
use Rattle.trio_nameset.proofs.Less.{equal_same, less_not_same, greater_not_less, greater_not_same}
use Rattle.trio_nameset.proofs.Search.{contains_at, contains_none, IsSearched, searched_later, searched_more, searched_all}
use Rattle.trio_nameset.proofs.sorted.SortedNames.search.Goals as goal
use Rattle.trio_nameset.proofs.sorted.SortedNames.search.Goals.{in-Greater, in-Less+then-is_above, in-Less+else-is_above}

pub returns-in-Equal-clause-place : goal.returns-in-Equal-clause-place
returns-in-Equal-clause-place c =
    let names = c.args.self.now.names.items in
    let here : c.other-item.result ≡ nth names c.loop-i.i =
    get_or_read _ _ _ c.loop-i-test.true c.other-item.is [] ∙ ap (λ ns. nth ns c.loop-i.i) c.deref-other-items.ensures.value in
    let same = sym here ∙ equal_same c.other-item.result c.args.name.now (sym c.cmp.ensures ∙ c.in-Equal.is) in
    slice_get-get_or names c.loop-i.i [] (omega arith) ∙ ap Some same

pub returns-in-Equal-clause-new : goal.returns-in-Equal-clause-new
returns-in-Equal-clause-new c =
    let names = c.args.self.now.names.items in
    let here : c.other-item.result ≡ nth names c.loop-i.i =
    get_or_read _ _ _ c.loop-i-test.true c.other-item.is [] ∙ ap (λ ns. nth ns c.loop-i.i) c.deref-other-items.ensures.value in
    let same = sym here ∙ equal_same c.other-item.result c.args.name.now (sym c.cmp.ensures ∙ c.in-Equal.is) in
    sym (ap not (contains_at c.args.name.now names c.loop-i.i (omega arith) same))

pub loop-i-preserved : goal.loop-i-preserved
loop-i-preserved c =
    let names = c.args.self.now.names.items in
    let name = c.args.name.now in
    let i = c.loop-i.i in
    let other : List ℕ = c.other-item.result in
    let here : other ≡ nth names i =
    get_or_read _ _ _ c.loop-i-test.true c.other-item.is [] ∙ ap (λ ns. nth ns i) c.deref-other-items.ensures.value in
    let order : slice_cmp nat_cmp (nth names i) name ≡ c.cmp.result = sym (subst (λ n. c.cmp.result ≡ slice_cmp nat_cmp n name) here c.cmp.ensures) in
    elim c.match-cmp.branch [
      | in-Greater w ↦
          let greater = order ∙ w.in-Greater.is in
          let more = searched_more names name c.loop-i.at i (greater_not_same (nth names i) name greater) (λ _. greater_not_less (nth names i) name greater) c.loop-i.invariant in
          subst (λ p. IsSearched names name p (i + 1)) (sym w.at-is) more
      | in-Less+then-is_above w ↦
          let over = subst (λ n. IsAbove names c.loop-i.at n) here (w.is_above.ensures.0 w.if-is_above.true) in
          let later = searched_later names name c.loop-i.at i (omega arith) (order ∙ w.in-Less.is) over c.loop-i.invariant in
          subst (λ p. IsSearched names name p (i + 1)) (sym w.at-is) later
      | in-Less+else-is_above w ↦
          let worse = λ (a : IsAbove names c.loop-i.at (nth names i)). not_above (w.is_above.ensures.1 (subst (λ n. IsAbove names c.loop-i.at n) (sym here) a)) w.if-is_above.false in
          let more = searched_more names name c.loop-i.at i (less_not_same (nth names i) name (order ∙ w.in-Less.is)) (λ a _. worse a) c.loop-i.invariant in
          subst (λ p. IsSearched names name p (i + 1)) (sym w.at-is) more
    ]
  where
    not_above : {b : Bool} → b ≡ true → b ≡ false → ⊥
    not_above e f = cc

pub returns-clause-place : goal.returns-clause-place
returns-clause-place c =
    let s = c.args.self.now in
    let all = subst (IsSearched s.names.items c.args.name.now c.loop-i.at) (omega arith) c.loop-i.invariant in
    record {
      within = all.within;
      above = all.above;
      below = searched_all s.names.items s.first s.next.items c.args.name.now c.loop-i.at c.requires.linked all;
    }

pub returns-clause-new : goal.returns-clause-new
returns-clause-new c =
    let names = c.args.self.now.names.items in
    sym (ap not (contains_none c.args.name.now names (λ k lt e. c.loop-i.invariant.differ k (omega arith) e)))
