use Rattle.std.proofs.Common.{◌≤◌, ap, length, rules, subst, sym}
use Rattle.std.proofs.lemmas.Result.{IfErr-weaker, err_from_is_err_and}
use Rattle.trio_survey.specs.OldVersion.{old_version}
use Rattle.trio_image.specs.Image.{IsWholeImageOf}
use Rattle.trio_image.proofs.Loads.{file_count, file_whole}
use Rattle.trio_migrate.specs.OldLoad.{OldLoadFails}
use Rattle.trio_migrate.specs.inner.OldFault.{IsOldPagesFault}
use Rattle.trio_migrate.proofs.OldRefused.{first_page_refused, loaded_if, pages_refused}
use Rattle.trio_migrate.proofs.loading.load_old.Goals as goal

pub returns-in_err-superblock-clause-fault : goal.returns-in_err-superblock-clause-fault
returns-in_err-superblock-clause-fault g c =
    let p = err_from_is_err_and c.from_residual-in_err-superblock.result c.from_residual-in_err-superblock.ensures.1 in
    rw (p.1, p.2) (first_page_refused c.args.name.now (g.F.Files.seen c.args.files.now) (g.F.Files.seen c.read_file.new.files) c.in_ok-read.read.whole.items c.in_ok-read.read.count c.in_err-superblock.field-0.0 c.in_ok-read.ensures.file c.in_err-superblock.ensures.fault)

pub of-requires : goal.of-requires
of-requires g c =
    let few : length c.in_ok-read.read.whole.items ≤ 8192 = file_count _ c.in_ok-read.read.whole.items c.in_ok-read.read.count c.in_ok-read.ensures.file in
    search rules

pub from_pages-requires : goal.from_pages-requires
from_pages-requires g c =
    let file = c.in_ok-read.ensures.file in
    let s = c.in_ok-superblock.superblock in
    subst (IsWholeImageOf old_version s) (sym (ap (λ h. h.pages) c.of.ensures)) (file_whole old_version _ c.in_ok-read.read.whole.items c.in_ok-read.read.count s file (c.in_ok-superblock.ensures.superblock file.bytes file.are))

pub returns-clause-image : goal.returns-clause-image
returns-clause-image g c =
    let file = c.in_ok-read.ensures.file in
    let s = c.in_ok-superblock.superblock in
    loaded_if _ c.in_ok-read.read.whole.items c.of.result.pages c.in_ok-read.read.count s file (c.in_ok-superblock.ensures.superblock file.bytes file.are) (ap (λ h. h.pages) c.of.ensures) c.from_pages.result c.from_pages.ensures.image c.from_pages.ensures.verify

pub returns-clause-fault : goal.returns-clause-fault
returns-clause-fault g c =
    let file = c.in_ok-read.ensures.file in
    let s = c.in_ok-superblock.superblock in
    let old = g.F.Files.seen c.args.files.now in
    let new = g.F.Files.seen c.read_file.new.files in
    IfErr-weaker c.from_pages.result (IsOldPagesFault s c.of.result.pages) (OldLoadFails c.args.name.now old new)
    (pages_refused c.args.name.now old new c.in_ok-read.read.whole.items c.of.result.pages c.in_ok-read.read.count s file (c.in_ok-superblock.ensures.superblock file.bytes file.are) (ap (λ h. h.pages) c.of.ensures)) c.from_pages.ensures.fault
