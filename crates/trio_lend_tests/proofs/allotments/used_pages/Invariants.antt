use Rattle.std.proofs.Common.{◌≡◌, IsSome, vec_len}
use Rattle.std.specs.Prelude.{All}
use Rattle.trio_lend_tests.proofs.allotments.used_pages.Given as goal

abbrev pub invariant-loop-i : goal.invariant-loop-i
invariant-loop-i l = record {
  count : vec_len l.pages ≡ l._i;
  there : All (λ page. IsSome page) l.pages.items;
}
