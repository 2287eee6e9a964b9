use Rattle.trio_judge.proofs.Words.{◌≡◌, None, case_in, inl, inr, refl}
use Rattle.trio_judge.proofs.Ending.{few_listed, grammar_met, listing_is, owning_fails, owning_false, owning_met, rights_fail, rights_false, rights_met, second_unmet, third_unmet, three_met}
use Rattle.trio_judge.proofs.Noting.{none_is}
use Rattle.trio_judge.proofs.verdict.conclude.Goals as goal

pub returns-in-Some-clause-sound : goal.returns-in-Some-clause-sound
returns-in-Some-clause-sound c =
    let k = case_in c.args.case.now in
    let w = c.args.walk in
    rw c.broken.ensures (second_unmet _ _ _ (grammar_met k w c.requires.ended c.requires.passed) (owning_false k c.in-Some.fault.ino c.in-Some.fault.place (owning_fails k w c.requires.ended c.requires.passed c.in-Some.fault c.in-Some.is)))

pub returns-in-Some-clause-lowest : goal.returns-in-Some-clause-lowest
returns-in-Some-clause-lowest c =
    let k = case_in c.args.case.now in
    let w = c.args.walk in
    rw c.broken.ensures (inr (inl (refl, grammar_met k w c.requires.ended c.requires.passed, owning_fails k w c.requires.ended c.requires.passed c.in-Some.fault c.in-Some.is)))

pub returns-in-Some-rights-clause-sound : goal.returns-in-Some-rights-clause-sound
returns-in-Some-rights-clause-sound c =
    let k = case_in c.args.case.now in
    let w = c.args.walk in
    let none : w.owning ≡ None = none_is w.owning c.in_default.not-Some in
    let fault = c.in-Some-rights.fault in
    rw c.broken-in-Some-rights.ensures (third_unmet _ _ _ (grammar_met k w c.requires.ended c.requires.passed) (owning_met k w c.requires.ended c.requires.passed none) (rights_false k fault.ino fault.place (rights_fail k w c.requires.ended c.requires.passed fault none c.in-Some-rights.is)))

pub returns-in-Some-rights-clause-lowest : goal.returns-in-Some-rights-clause-lowest
returns-in-Some-rights-clause-lowest c =
    let k = case_in c.args.case.now in
    let w = c.args.walk in
    let none : w.owning ≡ None = none_is w.owning c.in_default.not-Some in
    let fault = c.in-Some-rights.fault in
    rw c.broken-in-Some-rights.ensures (inr (inr (refl, grammar_met k w c.requires.ended c.requires.passed, owning_met k w c.requires.ended c.requires.passed none, rights_fail k w c.requires.ended c.requires.passed fault none c.in-Some-rights.is)))

pub returns-in-Some-rights-clause-listing : goal.returns-in-Some-rights-clause-listing
returns-in-Some-rights-clause-listing c =
    let k = case_in c.args.case.now in
    let w = c.args.walk in
    let none : w.owning ≡ None = none_is w.owning c.in_default.not-Some in
    rw c.broken-in-Some-rights.ensures (refl, listing_is k w c.requires.ended c.requires.passed none)

pub returns-in-Some-rights-clause-few : goal.returns-in-Some-rights-clause-few
returns-in-Some-rights-clause-few c =
    let none : c.args.walk.owning ≡ None = none_is c.args.walk.owning c.in_default.not-Some in
    rw c.broken-in-Some-rights.ensures (few_listed (case_in c.args.case.now) c.args.walk c.requires.ended c.requires.passed none)

pub returns-clause-sound : goal.returns-clause-sound
returns-clause-sound c =
    let k = case_in c.args.case.now in
    let w = c.args.walk in
    let none : w.owning ≡ None = none_is w.owning c.in_default.not-Some in
    three_met _ _ _ (grammar_met k w c.requires.ended c.requires.passed) (owning_met k w c.requires.ended c.requires.passed none) (rights_met k w c.requires.ended c.requires.passed none c.in-None.is)

pub returns-clause-listing : goal.returns-clause-listing
returns-clause-listing c =
    let k = case_in c.args.case.now in
    let w = c.args.walk in
    let none : w.owning ≡ None = none_is w.owning c.in_default.not-Some in
    listing_is k w c.requires.ended c.requires.passed none

pub returns-clause-few : goal.returns-clause-few
returns-clause-few c =
    let none : c.args.walk.owning ≡ None = none_is c.args.walk.owning c.in_default.not-Some in
    few_listed (case_in c.args.case.now) c.args.walk c.requires.ended c.requires.passed none
