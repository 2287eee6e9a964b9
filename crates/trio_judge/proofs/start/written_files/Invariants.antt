use Rattle.trio_judge.proofs.Words.{◌≡◌, ◌≤◌, case_in, file_met, length, map, own_numbers, take, vec_capacity, vec_len, written_in, written_met}
use Rattle.trio_judge.proofs.start.written_files.Given as goal

abbrev pub invariant-loop-lease : goal.invariant-loop-lease
invariant-loop-lease l = record {
  files : map file_met l.files.items ≡ map (λ f. written_met (case_in l.case) (written_in f.stands)) (take l.lease-index l.lease-items);
  len : vec_len l.files ≡ l.lease-index;
  places : length (own_numbers (case_in l.case)) ≤ vec_capacity l.files;
}
