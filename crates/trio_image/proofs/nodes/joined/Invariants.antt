use Rattle.trio_image.proofs.Words.{◌++◌, ◌≡◌, core_with, drop, joined_pages}
use Rattle.trio_image.proofs.nodes.joined.Given as goal

abbrev pub invariant-loop-no : goal.invariant-loop-no
invariant-loop-no l = record {
  same : l.home.pages ≡ l.initial.home.pages;
  rest : l.bytes.items ++ joined_pages (core_with l.initial.home.pages l.range 0) (drop l.no-index l.pages) ≡ joined_pages (core_with l.initial.home.pages l.range 0) l.pages;
}
