use Rattle.trio_survey.proofs.Words.{◌∙◌, ◌≡◌, IsDenied, PagesVerify, Superblock, ap, arith, core_in, err_from_is_err_and, image_in, length, plain, subst, survey}
use Rattle.std.proofs.Common.{IfErr}
use Rattle.trio_survey.proofs.Tables.{length-rows_table, length-owners_table}
use Rattle.trio_survey.proofs.Verdicts.{denied_by_survey, denied_by_tables, verified}
use Rattle.trio_survey.proofs.verdict.verify_found.Goals as goal

pub returns-in_err-found-clause-fails : goal.returns-in_err-found-clause-fails
returns-in_err-found-clause-fails c = λ s h.
    let pages = c.args.home.now.pages in
    let own = c.superblock-superblock.result in
    let r = c.from_residual.result in
    let p = err_from_is_err_and r c.from_residual.ensures.1 in
    let e = c.in_err-found.field-0.0 in
    let refused = rw c.superblock-superblock.ensures.pages at c.in_err-found.ensures.fails in
    let denied : IfErr r (IsDenied own pages) = rw (p.1, p.2) (denied_by_survey own pages e refused) in
    subst (λ (x : Superblock). IfErr r (IsDenied x pages)) (c.superblock-superblock.ensures.only s h) denied

pub compare-requires-clause-rows : goal.compare-requires-clause-rows
compare-requires-clause-rows c =
    ap length c.in_ok-found.ensures.rows ∙ length-rows_table (core_in c.superblock-superblock.result c.superblock-superblock.new.home.pages) (survey (core_in c.superblock-superblock.result c.superblock-superblock.new.home.pages) plain)

pub compare-requires-clause-owners : goal.compare-requires-clause-owners
compare-requires-clause-owners c =
    ap length c.in_ok-found.ensures.owners ∙ length-owners_table (core_in c.superblock-superblock.result c.superblock-superblock.new.home.pages) (survey (core_in c.superblock-superblock.result c.superblock-superblock.new.home.pages) plain)

pub returns-in_err-compare-clause-fails : goal.returns-in_err-compare-clause-fails
returns-in_err-compare-clause-fails c = λ s h.
    let pages = c.args.home.now.pages in
    let own = c.superblock-superblock.result in
    let found = c.in_ok-found.found in
    let same = c.superblock-superblock.ensures.pages in
    let r = c.from_residual-in_err-compare.result in
    let p = err_from_is_err_and r c.from_residual-in_err-compare.ensures.1 in
    let e = c.in_err-compare.field-0.0 in
    let fault = rw (c.survey.ensures.pages, same) at c.in_err-compare.ensures.fault in
    let denied : IfErr r (IsDenied own pages) = rw (p.1, p.2) (denied_by_tables own pages found.rows found.owners e (record { sound = rw same at c.in_ok-found.ensures.sound; rows_are = rw same at c.in_ok-found.ensures.rows; owners_are = rw same at c.in_ok-found.ensures.owners }) fault) in
    subst (λ (x : Superblock). IfErr r (IsDenied x pages)) (c.superblock-superblock.ensures.only s h) denied

pub returns-clause-verified : goal.returns-clause-verified
returns-clause-verified c = λ s h.
    let pages = c.args.home.now.pages in
    let own = c.superblock-superblock.result in
    let found = c.in_ok-found.found in
    let same = c.superblock-superblock.ensures.pages in
    let stored = rw (c.survey.ensures.pages, same) at c.in_ok-compare.ensures.stored in
    let good : PagesVerify own pages = verified own pages found.rows found.owners (record { sound = rw same at c.in_ok-found.ensures.sound; rows_are = rw same at c.in_ok-found.ensures.rows; owners_are = rw same at c.in_ok-found.ensures.owners }) stored in
    subst (λ (x : Superblock). PagesVerify x pages) (c.superblock-superblock.ensures.only s h) good

pub returns-clause-rows : goal.returns-clause-rows
returns-clause-rows c = λ s h.
    let pages = c.args.home.now.pages in
    let own = c.superblock-superblock.result in
    let rows = c.in_ok-found.found.rows in
    let here : rows ≡ (image_in own pages).rows = rw c.superblock-superblock.ensures.pages at c.in_ok-found.ensures.rows in
    subst (λ (x : Superblock). rows ≡ (image_in x pages).rows) (c.superblock-superblock.ensures.only s h) here

pub returns-clause-owners : goal.returns-clause-owners
returns-clause-owners c = λ s h.
    let pages = c.args.home.now.pages in
    let own = c.superblock-superblock.result in
    let owners = c.in_ok-found.found.owners in
    let here : owners ≡ (image_in own pages).owners = rw c.superblock-superblock.ensures.pages at c.in_ok-found.ensures.owners in
    subst (λ (x : Superblock). owners ≡ (image_in x pages).owners) (c.superblock-superblock.ensures.only s h) here

pub returns-in_err-found-clause-reads : goal.returns-in_err-found-clause-reads
returns-in_err-found-clause-reads c = λ s h.
    let own = c.superblock-superblock in
    let pages : own.result.pages ≡ s.pages = ap (λ x. x.pages) (own.ensures.only s h) in
    omega (arith, pages, own.ensures.sizes.core, own.ensures.reads, c.survey.ensures.reads)

pub returns-in_err-found-clause-looked : goal.returns-in_err-found-clause-looked
returns-in_err-found-clause-looked c = λ s h.
    let own = c.superblock-superblock in
    let pages : own.result.pages ≡ s.pages = ap (λ x. x.pages) (own.ensures.only s h) in
    omega (arith, pages, own.ensures.sizes.core, own.ensures.looked, c.survey.ensures.looked)

pub returns-in_err-compare-clause-reads : goal.returns-in_err-compare-clause-reads
returns-in_err-compare-clause-reads c = λ s h.
    let own = c.superblock-superblock in
    let pages : own.result.pages ≡ s.pages = ap (λ x. x.pages) (own.ensures.only s h) in
    omega (arith, pages, own.ensures.sizes.core, own.ensures.reads, c.survey.ensures.reads, c.compare.ensures.reads)

pub returns-in_err-compare-clause-looked : goal.returns-in_err-compare-clause-looked
returns-in_err-compare-clause-looked c = λ s h.
    let own = c.superblock-superblock in
    let pages : own.result.pages ≡ s.pages = ap (λ x. x.pages) (own.ensures.only s h) in
    omega (arith, pages, own.ensures.sizes.core, own.ensures.looked, c.survey.ensures.looked, c.compare.ensures.looked)

pub returns-clause-reads : goal.returns-clause-reads
returns-clause-reads c = λ s h.
    let own = c.superblock-superblock in
    let pages : own.result.pages ≡ s.pages = ap (λ x. x.pages) (own.ensures.only s h) in
    omega (arith, pages, own.ensures.sizes.core, own.ensures.reads, c.survey.ensures.reads, c.compare.ensures.reads)

pub returns-clause-looked : goal.returns-clause-looked
returns-clause-looked c = λ s h.
    let own = c.superblock-superblock in
    let pages : own.result.pages ≡ s.pages = ap (λ x. x.pages) (own.ensures.only s h) in
    omega (arith, pages, own.ensures.sizes.core, own.ensures.looked, c.survey.ensures.looked, c.compare.ensures.looked)
