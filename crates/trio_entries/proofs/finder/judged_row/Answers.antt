use Rattle.trio_entries.proofs.Words.{◌∙◌, ListedFile, None, ap, as_row, option_and_then, option_map, slice_get, sym}
use Rattle.trio_case.specs.declared.listing.ListedFile.{ListedFile as FileData}
use Rattle.trio_entries.proofs.FileLemmas.{row_found}
use Rattle.trio_entries.proofs.Finding.{placed}
use Rattle.trio_entries.proofs.finder.judged_row.Goals as goal

pub returns-in_err-at : goal.returns-in_err-at
returns-in_err-at c =
    rw c.from_residual.ensures (ap (option_map (λ (f : ListedFile). f.row)) (sym (placed (λ (f : ListedFile). f.ino) c.args.ino c.args.listing.now.listing.files None (c.in_err-at.ensures c.args.listing.now.listing c.requires))))

pub returns : goal.returns
returns c =
    c.row_at.ensures
    ∙ ap (λ o. option_map (λ (f : FileData). as_row f.row) (option_and_then (slice_get c.files.result.now) o)) (c.in_ok-at.ensures c.args.listing.now.listing c.requires)
    ∙ row_found (λ (f : FileData). as_row f.row) c.files.result.now c.args.listing.now.listing.files c.args.ino c.files.ensures.rows
