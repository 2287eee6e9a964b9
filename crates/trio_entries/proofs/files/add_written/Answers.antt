use Rattle.trio_entries.proofs.Words.{◌++◌, ◌∙◌, ◌≡◌, Bundled, In, LentFile, List, ap, arith, filter_map, subst, sym, take_all, told_written, whole_case, written_in}
use Rattle.trio_entries.proofs.Adding.{added, filter_map-map, get-In}
use Rattle.trio_entries.proofs.files.add_written.Goals as goal

pub told_written-file-requires-clause-noted : goal.told_written-file-requires-clause-noted
told_written-file-requires-clause-noted c =
    let all : c.writes-lease-items.result.now ≡ c.args.case.now.bundle.writes = c.writes-lease-items.ensures ∙ ap (λ (b : Bundled). b.writes) c.bundle.ensures.bundle in
    let item = subst (λ x. In x c.writes-lease-items.result.now) (sym c.lease-item.is) (get-In c.writes-lease-items.result.now c.loop-lease.lease-index c.lease-item.result c.loop-lease-test.true) in
    c.requires.written c.lease-item.result (subst (λ (xs : List LentFile). In c.lease-item.result xs) all item)

pub loop-lease-preserved : goal.loop-lease-preserved
loop-lease-preserved c = (
  added (λ (f : LentFile). told_written (whole_case c.args.case.now c.args.rows.now) c.args.listing.now.listing c.args.notes.now (written_in f.stands)) c.writes-lease-items.result.now c.loop-lease.lease-index c.lease-item.result c.args.files.now.items c.loop-lease.files.items c.add.new.files.items c.told_written-file.result c.loop-lease-test.true c.lease-item.is c.loop-lease.invariant.0 c.told_written-file.ensures c.add.ensures.file,
  (
    omega (arith, c.loop-lease.invariant.1.0, c.add.ensures.len),
    c.add.ensures.capacity ∙ c.loop-lease.invariant.1.1,
  ),
)

pub returns-clause-files : goal.returns-clause-files
returns-clause-files c =
    let F = λ (f : LentFile). told_written (whole_case c.args.case.now c.args.rows.now) c.args.listing.now.listing c.args.notes.now (written_in f.stands) in
    let all = take_all c.loop-lease.lease-index c.writes-lease-items.result.now (omega arith) ∙ c.writes-lease-items.ensures ∙ ap (λ (b : Bundled). b.writes) c.bundle.ensures.bundle in
    c.loop-lease.invariant.0 ∙ ap (λ l. c.args.files.now.items ++ filter_map F l) all
    ∙ ap (λ l. c.args.files.now.items ++ l) (filter_map-map (told_written (whole_case c.args.case.now c.args.rows.now) c.args.listing.now.listing c.args.notes.now) (λ (f : LentFile). written_in f.stands) c.args.case.now.bundle.writes)
