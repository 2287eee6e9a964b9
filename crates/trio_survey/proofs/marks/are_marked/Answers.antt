use Rattle.trio_survey.proofs.Words.{◌<◌, ◌∙◌, ◌≡◌, arith, false, get_or, get_or_read, length, sym, true, vec_len}
use Rattle.trio_survey.proofs.Adding.{entry_below, rest_marked}
use Rattle.trio_survey.proofs.marks.are_marked.Goals as goal

pub index-requires : goal.index-requires
index-requires c =
    let es = c.args.entries.now in
    omega (arith, entry_below (vec_len c.args.marks.now) es c.loop-listed.listed-index c.listed-item.result (omega arith) (sym c.listed-item.is) c.requires)

pub loop-listed-preserved : goal.loop-listed-preserved
loop-listed-preserved c =
    let es = c.args.entries.now in
    let i = c.loop-listed.listed-index in
    let marks = c.args.marks.now.items in
    let x = c.listed-item.result in
    let below : x.ino < length marks = omega (arith, entry_below (vec_len c.args.marks.now) es i x (omega arith) (sym c.listed-item.is) c.requires) in
    let was : get_or marks x.ino false ≡ true = sym (get_or_read marks x.ino c.index.result.now below c.index.ensures false) ∙ c.if-not-index.false in
    record { all = sym (rest_marked marks es i x (omega arith) c.listed-item.is was) ∙ c.loop-listed.invariant.all }
