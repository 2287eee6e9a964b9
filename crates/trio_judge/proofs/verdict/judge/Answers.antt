use Rattle.trio_judge.proofs.Words.{◌≤◌, AreFoundHeads, arith, case_in, file_met, files_of, inl, length, length-map, numbers, refl, subst, sym}
use Rattle.trio_judge.proofs.Ending.{all_passed, first_unmet, grammar_false, has_ended}
use Rattle.trio_judge.proofs.FoundAgain.{no_heads}
use Rattle.trio_judge.proofs.Visiting.{short}
use Rattle.trio_judge.proofs.verdict.judge.Goals as goal

pub returns-in-Err-clause-sound : goal.returns-in-Err-clause-sound
returns-in-Err-clause-sound c =
    rw c.broken.ensures (first_unmet _ _ _ (grammar_false (case_in c.args.case.now) c.in-Err.fault.ino c.in-Err.fault.place c.in-Err.ensures.fault))

pub returns-in-Err-clause-lowest : goal.returns-in-Err-clause-lowest
returns-in-Err-clause-lowest c = rw c.broken.ensures (inl (refl, c.in-Err.ensures.fault))

pub loop-at-smaller : goal.loop-at-smaller
loop-at-smaller c =
    let few = short (case_in c.args.case.now) c.loop-at.walk c.loop-at.invariant.ready in
    omega (arith, few, length-map c.loop-at.walk.files.items file_met)

pub conclude-requires-clause-ended : goal.conclude-requires-clause-ended
conclude-requires-clause-ended c =
    let w = c.loop-at.walk in
    let all : length (files_of w) ≤ c.loop-at.at = omega (arith, length-map w.files.items file_met) in
    has_ended (case_in c.args.case.now) c.loop-at.at w c.loop-at.invariant.queued c.loop-at.invariant.ready all

pub conclude-requires-clause-passed : goal.conclude-requires-clause-passed
conclude-requires-clause-passed c =
    let w = c.loop-at.walk in
    let all : length (files_of w) ≤ c.loop-at.at = omega (arith, length-map w.files.items file_met) in
    all_passed (case_in c.args.case.now) c.loop-at.at w c.loop-at.invariant.passed all

pub loop-at-init : goal.loop-at-init
loop-at-init c =
    let k = case_in c.args.case.now in
    let w = c.args.room.walk in
    record {
      keeps = c.new_room_keeps.ensures.keeps;
      queued = c.requires.walk.queued;
      passed = c.requires.walk.passed;
      ready = c.requires.walk.ready;
      heads = subst (AreFoundHeads k (numbers (files_of w))) (sym c.requires.heads) (no_heads k (numbers (files_of w)));
      looks = omega (arith, c.new_room_keeps.ensures.looks);
    }
