use Rattle.trio_case.proofs.Words.{◌≤◌, most_copied, vec_capacity}
use Rattle.trio_case.proofs.Copying.{AreListed}
use Rattle.trio_case.proofs.numbers.listed_rows.Given as goal

abbrev pub invariant-loop-ino : goal.invariant-loop-ino
invariant-loop-ino l = record {
  listed : AreListed l.own l.table l.ino l.numbers.items l.rows.items;
  numbers : most_copied l.own l.table ≤ vec_capacity l.numbers;
  rows : most_copied l.own l.table ≤ vec_capacity l.rows;
}
