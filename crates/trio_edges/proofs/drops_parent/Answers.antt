use Rattle.trio_edges.proofs.Words.{◌∙◌, ap, is_among, is_listed, sym}
use Rattle.std.specs.Option.{is_some}
use Rattle.trio_edges.proofs.EdgeLemmas.{listed_dir, none_listed}
use Rattle.trio_edges.proofs.drops_parent.Goals as goal

pub returns-then-is_held : goal.returns-then-is_held
returns-then-is_held c =
    let l = c.args.listing.now.listing in
    let parent = c.args.row.now.parent in
    none_listed (is_some c.dir.result) c.is_none.result (is_listed l parent) (is_among parent l.held) c.is_none.ensures (listed_dir l parent ∙ ap is_some (sym c.dir.ensures)) c.if-is_held.ensures
