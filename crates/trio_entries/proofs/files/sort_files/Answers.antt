use Rattle.trio_entries.proofs.Words.{◌∙◌, IsNonDecreasingBy-from_sort, List, RawFile, [], ap, are_new, map, rules, sorted_new}
use Rattle.std.proofs.lemmas.List.Sorted.{answers_always}
use Rattle.trio_entries.proofs.OneOrder.{one_order}
use Rattle.trio_entries.proofs.files.sort_files.Goals as goal

pub returns-clause-sorted : goal.returns-clause-sorted
returns-clause-sorted c =
    let up = IsNonDecreasingBy-from_sort (λ (f : RawFile). f.ino) _ (c.sort_unstable_by_key.ensures.sorted (λ (f : RawFile). f.ino) (answers_always _ _ _ (λ f a r g h. search rules))) in
    one_order (λ (f : RawFile). f.ino) c.args.files.now.items c.sort_unstable_by_key.new.self.items c.requires c.sort_unstable_by_key.ensures.permutation up

pub returns-clause-once : goal.returns-clause-once
returns-clause-once c =
    ap (λ (fs : List RawFile). are_new [] (map (λ (f : RawFile). f.ino) fs)) (returns-clause-sorted c) ∙ sorted_new (λ (f : RawFile). f.ino) c.args.files.now.items c.requires
