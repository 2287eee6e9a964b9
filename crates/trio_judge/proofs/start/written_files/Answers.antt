use Rattle.trio_judge.proofs.Words.{◌∙◌, ◌≡◌, Bundled, JudgedFile, LentFile, [], ap, are_new, arith, case_in, file_met, map, rules, take_all, true, written_in, written_met}
use Rattle.std.proofs.lemmas.List.Sorted.{IsNonDecreasingBy-from_sort, answers_always}
use Rattle.trio_judge.proofs.Starting.{files_sorted, made_numbers, mets_of, written_once}
use Rattle.trio_case.proofs.Unstable.{sorted_distinct}
use Rattle.trio_judge.proofs.start.written_files.Goals as goal

pub returns-clause-files : goal.returns-clause-files
returns-clause-files c =
    let k = case_in c.args.case.now in
    let made = c.loop-lease.files.items in
    let up = IsNonDecreasingBy-from_sort (λ (f : JudgedFile). f.ino) _ (c.sort_unstable_by_key.ensures.sorted (λ (f : JudgedFile). f.ino) (answers_always _ _ _ (λ f a r g h. search rules))) in
    let all = c.loop-lease.invariant.files ∙ ap (map (λ (f : LentFile). written_met k (written_in f.stands))) (take_all c.loop-lease.lease-index c.writes-lease-items.result.now (omega arith) ∙ c.writes-lease-items.ensures ∙ ap (λ (b : Bundled). b.writes) c.bundle-bundle.ensures.bundle) ∙ mets_of c.args.case.now in
    let differ : are_new [] (map (λ (f : JudgedFile). f.ino) made) ≡ true = ap (are_new []) (made_numbers k k.bundle.writes made all) ∙ written_once c.args.case.now c.bundle-bundle.ensures.fits in
    ap (map file_met) (sorted_distinct (λ (f : JudgedFile). f.ino) made c.sort_unstable_by_key.new.self.items c.sort_unstable_by_key.ensures.permutation up differ) ∙ files_sorted k made all
