use Rattle.trio_entries.proofs.Words.{◌++◌, ◌∙◌, Bundled, LentFile, Written, ap, arith, filter_map, map, take_all, told_same, whole_case, written_in}
use Rattle.trio_entries.proofs.Adding.{added, filter_map-map}
use Rattle.trio_entries.proofs.files.add_same_written.Goals as goal

pub loop-lease-preserved : goal.loop-lease-preserved
loop-lease-preserved c = (
  added (λ (f : LentFile). told_same (whole_case c.args.case.now c.args.rows.now) c.args.notes.now f.stands.ino) c.writes-lease-items.result.now c.loop-lease.lease-index c.lease-item.result c.args.files.now.items c.loop-lease.files.items c.add.new.files.items c.told_noted-file.result c.loop-lease-test.true c.lease-item.is c.loop-lease.invariant.0 (c.told_noted-file.ensures ∙ ap (told_same (whole_case c.args.case.now c.args.rows.now) c.args.notes.now) c.ino.ensures) c.add.ensures.file,
  (
    omega (arith, c.loop-lease.invariant.1.0, c.add.ensures.len),
    c.add.ensures.capacity ∙ c.loop-lease.invariant.1.1,
  ),
)

pub returns-clause-files : goal.returns-clause-files
returns-clause-files c =
    let F = λ (f : LentFile). told_same (whole_case c.args.case.now c.args.rows.now) c.args.notes.now f.stands.ino in
    let all = take_all c.loop-lease.lease-index c.writes-lease-items.result.now (omega arith) ∙ c.writes-lease-items.ensures ∙ ap (λ (b : Bundled). b.writes) c.bundle.ensures.bundle in
    c.loop-lease.invariant.0 ∙ ap (λ l. c.args.files.now.items ++ filter_map F l) all
    ∙ ap (λ l. c.args.files.now.items ++ l) (filter_map-map (λ (w : Written). told_same (whole_case c.args.case.now c.args.rows.now) c.args.notes.now w.ino) (λ (f : LentFile). written_in f.stands) c.args.case.now.bundle.writes ∙ filter_map-map (told_same (whole_case c.args.case.now c.args.rows.now) c.args.notes.now) (λ (w : Written). w.ino) (map (λ (f : LentFile). written_in f.stands) c.args.case.now.bundle.writes))
