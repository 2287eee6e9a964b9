use Rattle.trio_entries.proofs.Words.{◌++◌, ◌∙◌, Bundled, HoldParts, ap, arith, filter_map, take_all, told_same, whole_case}
use Rattle.trio_entries.proofs.Adding.{added, filter_map-map}
use Rattle.trio_entries.proofs.files.add_same_held.Goals as goal

pub loop-hold-preserved : goal.loop-hold-preserved
loop-hold-preserved c = (
  added (λ (h : HoldParts). told_same (whole_case c.args.case.now c.args.rows.now) c.args.notes.now h.ino) c.holds-hold-items.result.now c.loop-hold.hold-index c.hold-item.result c.args.files.now.items c.loop-hold.files.items c.add.new.files.items c.told_noted-file.result c.loop-hold-test.true c.hold-item.is c.loop-hold.invariant.0 (c.told_noted-file.ensures ∙ ap (told_same (whole_case c.args.case.now c.args.rows.now) c.args.notes.now) c.ino.ensures) c.add.ensures.file,
  (
    omega (arith, c.loop-hold.invariant.1.0, c.add.ensures.len),
    c.add.ensures.capacity ∙ c.loop-hold.invariant.1.1,
  ),
)

pub returns : goal.returns
returns c =
    let F = λ (h : HoldParts). told_same (whole_case c.args.case.now c.args.rows.now) c.args.notes.now h.ino in
    let all = take_all c.loop-hold.hold-index c.holds-hold-items.result.now (omega arith) ∙ c.holds-hold-items.ensures ∙ ap (λ (b : Bundled). b.holds) c.bundle.ensures.bundle in
    c.loop-hold.invariant.0 ∙ ap (λ l. c.args.files.now.items ++ filter_map F l) all
    ∙ ap (λ l. c.args.files.now.items ++ l) (filter_map-map (told_same (whole_case c.args.case.now c.args.rows.now) c.args.notes.now) (λ (h : HoldParts). h.ino) c.args.case.now.bundle.holds)
