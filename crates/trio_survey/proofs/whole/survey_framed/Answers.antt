use Rattle.trio_survey.proofs.Words.{◌≤◌, arith, err_from_is_err_and, framed, length, length-map, map, met_seen, pick_of, refl}
use Rattle.trio_survey.proofs.OldFiles.{old_survey, refused_by, second_refused_by}
use Rattle.trio_survey.proofs.Standing.{is_whole}
use Rattle.trio_survey.proofs.whole.survey_framed.Goals as goal

pub loop-at-init : goal.loop-at-init
loop-at-init c =
    record {
      same = refl;
      stands = c.in_ok-walk.ensures.stands c.args.home.now.pages (pick_of c.args.picks.now);
      tables = c.in_ok-walk.ensures.tables c.args.home.now.pages;
      heads = c.in_ok-walk.ensures.heads c.args.home.now.pages;
      old = λ asked. refl;
      keeps = c.in_ok-walk.ensures.keeps c.args.home.now.pages;
      parts = c.in_ok-walk.ensures.parts;
      says = c.in_ok-walk.ensures.says c.args.home.now.pages;
      looks = omega (arith, c.in_ok-walk.ensures.count);
      looked = omega (arith, c.in_ok-walk.ensures.count);
    }

pub returns-in_err-visit-clause-fails : goal.returns-in_err-visit-clause-fails
returns-in_err-visit-clause-fails c =
    let core = framed c.args.home.now.pages c.args.frame.now in
    let p = err_from_is_err_and c.from_residual-in_err-visit.result c.from_residual-in_err-visit.ensures.1 in
    rw (p.1, p.2) (refused_by c.args.frame.now.old core (pick_of c.args.picks.now) c.in_err-visit.field-0.0 (rw c.loop-at.invariant.same at c.in_err-visit.ensures.fault))

pub returns-in-Some-clause-fails : goal.returns-in-Some-clause-fails
returns-in-Some-clause-fails c =
    let core = framed c.args.home.now.pages c.args.frame.now in
    let pick = pick_of c.args.picks.now in
    let walk = c.loop-at.walk in
    let files = map met_seen walk.files.items in
    let all : length files ≤ c.loop-at.at = omega (arith, length-map walk.files.items met_seen) in
    let stands = rw c.in-Some.is at c.loop-at.invariant.stands in
    rw c.fails.ensures (second_refused_by c.args.frame.now.old core pick c.loop-at.at files walk.met.items walk.used.items c.in-Some.at stands all c.loop-at.invariant.old)

pub returns-in-None-clause-sound : goal.returns-in-None-clause-sound
returns-in-None-clause-sound c =
    let walk = c.loop-at.walk in
    let files = map met_seen walk.files.items in
    let all : length files ≤ c.loop-at.at = omega (arith, length-map walk.files.items met_seen) in
    let stands = rw c.in-None.is at c.loop-at.invariant.stands in
    (is_whole (framed c.args.home.now.pages c.args.frame.now) (pick_of c.args.picks.now) c.loop-at.at files walk.met.items walk.used.items walk.owners walk.rows stands c.loop-at.invariant.tables all).sound

pub returns-in-None-clause-rows : goal.returns-in-None-clause-rows
returns-in-None-clause-rows c =
    let walk = c.loop-at.walk in
    let files = map met_seen walk.files.items in
    let all : length files ≤ c.loop-at.at = omega (arith, length-map walk.files.items met_seen) in
    let stands = rw c.in-None.is at c.loop-at.invariant.stands in
    (is_whole (framed c.args.home.now.pages c.args.frame.now) (pick_of c.args.picks.now) c.loop-at.at files walk.met.items walk.used.items walk.owners walk.rows stands c.loop-at.invariant.tables all).rows_are

pub returns-in-None-clause-owners : goal.returns-in-None-clause-owners
returns-in-None-clause-owners c =
    let walk = c.loop-at.walk in
    let files = map met_seen walk.files.items in
    let all : length files ≤ c.loop-at.at = omega (arith, length-map walk.files.items met_seen) in
    let stands = rw c.in-None.is at c.loop-at.invariant.stands in
    (is_whole (framed c.args.home.now.pages c.args.frame.now) (pick_of c.args.picks.now) c.loop-at.at files walk.met.items walk.used.items walk.owners walk.rows stands c.loop-at.invariant.tables all).owners_are

pub returns-in-None-clause-old : goal.returns-in-None-clause-old
returns-in-None-clause-old c =
    let core = framed c.args.home.now.pages c.args.frame.now in
    let walk = c.loop-at.walk in
    let files = map met_seen walk.files.items in
    let all : length files ≤ c.loop-at.at = omega (arith, length-map walk.files.items met_seen) in
    old_survey c.args.frame.now.old core (pick_of c.args.picks.now) c.loop-at.at files walk.met.items walk.used.items walk.repeated c.loop-at.invariant.stands all c.loop-at.invariant.old
