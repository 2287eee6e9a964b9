use Rattle.trio_case.proofs.Words.{◌<◌, ◌∙◌, ◌≤◌, ap, arith, bundle_in, copied_row, length, sym}
use Rattle.trio_case.proofs.CaseRows.{copied_if}
use Rattle.trio_case.proofs.Copying.{all_listed, listed_more, listed_skip, place_next}
use Rattle.trio_case.proofs.numbers.listed_rows.Goals as goal
use Rattle.trio_case.proofs.numbers.listed_rows.Goals.{in-Some+then-is_own, in-Some+else-is_own, in_default}

pub push-requires : goal.push-requires
push-requires c =
    let within : c.loop-ino.ino < length c.args.table.now = omega (arith, c.inodes-ino-end.ensures.inodes, c.loop-ino-test.true, c.loop-ino.auto.ino-end) in
    let next = place_next c.args.own.now c.args.table.now c.loop-ino.ino c.loop-ino.numbers.items c.loop-ino.rows.items c.loop-ino.invariant.listed c.in-Some.row within (sym c.in-Some.ensures) (sym c.if-is_own.ensures) in
    omega (arith, next, c.loop-ino.numbers.ok.0, c.loop-ino.invariant.numbers)

pub push-requires-then-is_own : goal.push-requires-then-is_own
push-requires-then-is_own c =
    let within : c.loop-ino.ino < length c.args.table.now = omega (arith, c.inodes-ino-end.ensures.inodes, c.loop-ino-test.true, c.loop-ino.auto.ino-end) in
    let next = place_next c.args.own.now c.args.table.now c.loop-ino.ino c.loop-ino.numbers.items c.loop-ino.rows.items c.loop-ino.invariant.listed c.in-Some.row within (sym c.in-Some.ensures) (sym c.if-is_own.ensures) in
    omega (arith, next, c.loop-ino.invariant.listed.long, c.loop-ino.rows.ok.0, c.loop-ino.invariant.rows)

pub loop-ino-preserved : goal.loop-ino-preserved
loop-ino-preserved c =
    let t = c.args.own.now in
    let rows = c.args.table.now in
    let k = c.loop-ino.ino in
    let turn = c.loop-ino.invariant in
    let within : k < length rows = omega (arith, c.inodes-ino-end.ensures.inodes, c.loop-ino-test.true, c.loop-ino.auto.ino-end) in
    elim c.match-row.branch [
      | in-Some+then-is_own w ↦
          rw (w.numbers-is, w.rows-is) (record {
            listed = rw (w.push.ensures.items, w.push-then-is_own.ensures.items) (listed_more t rows k c.loop-ino.numbers.items c.loop-ino.rows.items turn.listed w.in-Some.row within (sym w.in-Some.ensures) (sym w.if-is_own.ensures));
            numbers = omega (arith, turn.numbers, w.push.ensures.capacity);
            rows = omega (arith, turn.rows, w.push-then-is_own.ensures.capacity);
          })
      | in-Some+else-is_own w ↦
          rw (w.numbers-is, w.rows-is) (record {
            listed = listed_skip t rows k c.loop-ino.numbers.items c.loop-ino.rows.items turn.listed within
                (λ b tells. ap (copied_row (bundle_in b) k) (sym w.in-Some.ensures) ∙ sym (copied_if t b k w.in-Some.row _ tells w.if-is_own.ensures));
            numbers = turn.numbers;
            rows = turn.rows;
          })
      | in_default w ↦
          rw (w.numbers-is, w.rows-is) (record {
            listed = listed_skip t rows k c.loop-ino.numbers.items c.loop-ino.rows.items turn.listed within
                (λ b tells. ap (copied_row (bundle_in b) k) (sym w.in_default.ensures));
            numbers = turn.numbers;
            rows = turn.rows;
          })
    ]

pub returns : goal.returns
returns c =
    let all : length c.args.table.now ≤ c.loop-ino.ino = omega (arith, c.inodes-ino-end.ensures.inodes, c.loop-ino-test.false, c.loop-ino.auto.ino-end) in
    all_listed c.args.own.now c.args.table.now c.loop-ino.ino c.loop-ino.numbers.items c.loop-ino.rows.items c.loop-ino.invariant.listed all
