use Rattle.trio_judge_tests.proofs.Words.{◌++◌, ◌≡◌, flat_map, map, take}
use Rattle.trio_judge_tests.proofs.checked.page_numbers.Given as goal

abbrev pub invariant-loop-file : goal.invariant-loop-file
invariant-loop-file l = l.pages.items ≡ flat_map (λ f. map (λ p. p.no.0) f.stands.index ++ map (λ p. p.no.0) f.stands.blocks) (take l.file-index l.file-items)

abbrev pub invariant-loop-page : goal.invariant-loop-page
invariant-loop-page l = l.pages.items ≡ flat_map (λ f. map (λ p. p.no.0) f.stands.index ++ map (λ p. p.no.0) f.stands.blocks) l.bundle.writes ++ map (λ p. p.no.0) (take l.page-index l.page-items)
