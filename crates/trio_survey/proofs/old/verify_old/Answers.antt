use Rattle.trio_survey.proofs.Words.{◌∙◌, List, Option, ap, core_in, err_from_is_err_and, length, pick_of, plain, refl, subst, survey, true}
use Rattle.trio_survey.specs.declared.picks.Picked.{Picked}
use Rattle.trio_survey.specs.inner.Old.{IsRefusedBy}
use Rattle.trio_survey.proofs.Tables.{length-rows_table, length-owners_table}
use Rattle.trio_survey.proofs.OldVerdicts.{old_denied_by_survey, old_denied_by_tables}
use Rattle.trio_survey.proofs.Verdicts.{verified}
use Rattle.trio_survey.proofs.old.verify_old.Goals as goal

pub returns-in_err-found-clause-fails : goal.returns-in_err-found-clause-fails
returns-in_err-found-clause-fails c =
    let p = err_from_is_err_and c.from_residual.result c.from_residual.ensures.1 in
    let core = core_in c.args.superblock.now c.args.home.now.pages in
    let refused : IsRefusedBy true core plain c.in_err-found.field-0.0 = subst (λ (picks : List (Option Picked)). IsRefusedBy true core (pick_of picks) c.in_err-found.field-0.0) c.none-picks.ensures c.in_err-found.ensures.fails in
    rw (p.1, p.2) (old_denied_by_survey c.args.superblock.now c.args.home.now.pages c.in_err-found.field-0.0 refused)

pub compare-requires-clause-rows : goal.compare-requires-clause-rows
compare-requires-clause-rows c =
    let core = core_in c.args.superblock.now c.args.home.now.pages in
    let rows = rw c.none-picks.ensures at c.in_ok-found.ensures.rows in
    ap length rows ∙ length-rows_table core (survey core plain)

pub compare-requires-clause-owners : goal.compare-requires-clause-owners
compare-requires-clause-owners c =
    let core = core_in c.args.superblock.now c.args.home.now.pages in
    let owners = rw c.none-picks.ensures at c.in_ok-found.ensures.owners in
    ap length owners ∙ length-owners_table core (survey core plain)

pub returns-in_err-compare-clause-fails : goal.returns-in_err-compare-clause-fails
returns-in_err-compare-clause-fails c =
    let pages = c.args.home.now.pages in
    let found = c.in_ok-found.found in
    let p = err_from_is_err_and c.from_residual-in_err-compare.result c.from_residual-in_err-compare.ensures.1 in
    let fault = rw c.survey_framed.ensures.pages at c.in_err-compare.ensures.fault in
    let old = rw c.none-picks.ensures at c.in_ok-found.ensures.old in
    rw (p.1, p.2) (old_denied_by_tables c.args.superblock.now pages found.rows found.owners c.in_err-compare.field-0.0
    (record { sound = rw c.none-picks.ensures at c.in_ok-found.ensures.sound; rows_are = rw c.none-picks.ensures at c.in_ok-found.ensures.rows; owners_are = rw c.none-picks.ensures at c.in_ok-found.ensures.owners })
    (old refl) fault)

pub returns-clause-verified : goal.returns-clause-verified
returns-clause-verified c =
    let pages = c.args.home.now.pages in
    let found = c.in_ok-found.found in
    let stored = rw c.survey_framed.ensures.pages at c.in_ok-compare.ensures.stored in
    let old = rw c.none-picks.ensures at c.in_ok-found.ensures.old in
    record {
      verify = verified c.args.superblock.now pages found.rows found.owners
          (record { sound = rw c.none-picks.ensures at c.in_ok-found.ensures.sound; rows_are = rw c.none-picks.ensures at c.in_ok-found.ensures.rows; owners_are = rw c.none-picks.ensures at c.in_ok-found.ensures.owners }) stored;
      old = old refl;
    }

pub returns-clause-rows : goal.returns-clause-rows
returns-clause-rows c = rw c.none-picks.ensures at c.in_ok-found.ensures.rows

pub returns-clause-owners : goal.returns-clause-owners
returns-clause-owners c = rw c.none-picks.ensures at c.in_ok-found.ensures.owners
