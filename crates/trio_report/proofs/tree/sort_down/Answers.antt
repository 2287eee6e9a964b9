use Rattle.std.proofs.Common.{rules, ap, ◌∙◌, map, reverse}
use Rattle.std.proofs.lemmas.List.Sorted.{answers_always}
use Rattle.trio_survey.specs.Seen.{listed_seen}
use Rattle.trio_report.proofs.ByName.{map-reverse, name_of, sorted_by_name}
use Rattle.trio_report.proofs.tree.sort_down.Goals as goal

pub returns : goal.returns
returns c =
    let sorted = c.in_ok-sort_by_key.ensures.sorted name_of (answers_always _ _ _ (λ f a r g h. search rules)) in
    let stable = c.sort_by_key.ensures.stable name_of (answers_always _ _ _ (λ f a r g h. search rules)) in
    ap (map listed_seen) c.reverse.ensures.after ∙ map-reverse listed_seen c.sort_by_key.new.self ∙ ap reverse (sorted_by_name _ _ sorted stable)
