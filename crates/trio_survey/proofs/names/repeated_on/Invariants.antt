use Rattle.trio_survey.proofs.Words.{◌++◌, ◌≡◌, AreNamed, List, Listed, MarksNames, drop, entry_seen, length, map, repeated_name, take, ℕ}
use Rattle.trio_survey.proofs.names.repeated_on.Given as goal

abbrev pub invariant-loop-listed : goal.invariant-loop-listed
invariant-loop-listed l = record {
  room : length l.named ≡ length l.fn.named;
  marks : (names : List (List ℕ)) (seen : List Listed) → AreNamed names l.entries → MarksNames names l.fn.named seen
      → MarksNames names l.named (seen ++ map (entry_seen names) (take l.listed-index l.entries));
  rest : (names : List (List ℕ)) (seen : List Listed) → AreNamed names l.entries → MarksNames names l.fn.named seen
      → repeated_name (seen ++ map (entry_seen names) (take l.listed-index l.entries)) (map (entry_seen names) (drop l.listed-index l.entries)) ≡ repeated_name seen (map (entry_seen names) l.entries);
}
