use Rattle.trio_commit.proofs.Words.{◌==◌, ◌∙◌, HasNumbersBelow, List, ListedFile, Listing, Option, Row, Some, ap, find, length, option_map_or, row_in, row_moved, subst, sym}
use Rattle.trio_commit.proofs.Cells.{entries_within, files_within, judged_same, rows_put}
use Rattle.trio_commit.proofs.rows.put_rows.Goals as goal

pub end_gone-requires : goal.end_gone-requires
end_gone-requires c = c.requires.held

pub move_listed-requires : goal.move_listed-requires
move_listed-requires c =
    let l : Listing = c.args.listing.now.listing in
    entries_within c.entries.result.now l (length c.end_gone.new.rows) c.entries.ensures
    (subst (λ k. HasNumbersBelow k l) (sym c.end_gone.ensures.size) c.requires)

pub put_judged-requires : goal.put_judged-requires
put_judged-requires c =
    let l : Listing = c.args.listing.now.listing in
    files_within c.files.result.now l (length c.move_listed.new.rows) c.files.ensures.numbers
    (subst (λ k. HasNumbersBelow k l) (sym (c.move_listed.ensures.size ∙ c.end_gone.ensures.size)) c.requires)

pub returns-clause-rows : goal.returns-clause-rows
returns-clause-rows c =
    let l : Listing = c.args.listing.now.listing in
    let rows : List (Option Row) = c.args.rows.now in
    λ n.
    c.put_judged.ensures.rows n
    ∙ judged_same c.files.result.now l.files n (row_in c.move_listed.new.rows n) c.files.ensures.numbers c.files.ensures.rows
    ∙ ap (λ r. option_map_or (λ (f : ListedFile). Some f.row) (find (λ (f : ListedFile). f.ino == n) l.files) r)
    (c.move_listed.ensures.rows n
    ∙ ap (λ es. row_moved es n (row_in c.end_gone.new.rows n)) c.entries.ensures
    ∙ ap (row_moved l.entries n) (c.end_gone.ensures.rows n))
    ∙ rows_put l n rows
