use Rattle.trio_edges.proofs.Words.{◌∙◌, ◌≡◌, ListedFile, [], ap, arith, false, length, list_any, nat_tests, rules, sym}
use Rattle.std.proofs.lemmas.List.{nil_from_length}
use Rattle.trio_rights.specs.ByKind.{is_directory}
use Rattle.trio_edges.proofs.EdgeLemmas.{directory-seen, plain_clear}
use Rattle.trio_edges.proofs.lost.Goals as goal

pub returns-then-not-have_directory-clause-none : goal.returns-then-not-have_directory-clause-none
returns-then-not-have_directory-clause-none c =
    let l = c.args.listing.now.listing in
    let empty : length c.held.result.now ≡ 0 = grind (arith, nat_tests, c.is_empty.ensures, c.if-is_empty.true) in
    let none : l.held ≡ [] = nil_from_length l.held (ap length (sym c.held.ensures) ∙ empty) in
    let none_is : c.have_directory.result ≡ false = search rules in
    let plain : list_any (λ (f : ListedFile). is_directory f.row.kind) l.files ≡ false =
    directory-seen c.files.result.now l.files c.files.ensures.rows ∙ sym c.have_directory.ensures ∙ none_is in
    plain_clear l c.args.rows.now none c.requires plain
