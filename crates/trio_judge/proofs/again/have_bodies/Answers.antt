use Rattle.trio_judge.proofs.Words.{◌<◌, ◌∙◌, ◌≡◌, Bool, Listed, ap, entries_kept, get_or, has_body, length, list_all, listed_seen, map, rules, sym, true}
use Rattle.std.proofs.lemmas.List.Folds.{list_all-map}
use Rattle.trio_judge.proofs.FoundAgain.{bodies_more}
use Rattle.trio_judge.proofs.again.have_bodies.Goals as goal

pub loop-block-preserved : goal.loop-block-preserved
loop-block-preserved c =
    let bs = c.args.room.now.blocks.items in
    let f = entries_kept c.args.room.now.kept in
    let i = c.loop-block.block-index in
    let p : Listed → Bool = has_body c.args.case.now.range in
    let within : i < length bs = rw c.blocks-block-items.ensures at c.loop-block-test.true in
    let seen = listed_seen c.args.room.now.kept.names.names in
    let here : map seen c.entries_of.result.now ≡ f (get_or bs i 0) = rw c.blocks-block-items.ensures at c.entries_of.ensures in
    let all : c.are_bodies.result ≡ true = search rules in
    let each : list_all (λ l. p (seen l)) c.entries_of.result.now ≡ true = sym (rw c.range-range.ensures at c.are_bodies.ensures) ∙ all in
    bodies_more p f bs i within c.loop-block.invariant (ap (list_all p) (sym here) ∙ list_all-map p seen c.entries_of.result.now ∙ each)
