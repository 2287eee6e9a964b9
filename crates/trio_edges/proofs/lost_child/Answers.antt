use Rattle.trio_edges.proofs.Words.{◌∙◌, ◌≡◌, Some, and_parts, ap, as_row, false, inr, is_among, is_clear, is_listed, not, option_map, row_in, stays_listed, sym, true}
use Rattle.trio_lists.proofs.Members.{is_among-In}
use Rattle.trio_edges.proofs.EdgeLemmas.{clear_more, clear_row, clear_none, stays_so, leaves_child, not_not}
use Rattle.trio_edges.proofs.lost_child.Goals as goal
use Rattle.trio_edges.proofs.lost_child.Goals.{in-Some+else-is_lost+else-drops_parent, in_default}

pub loop-ino-preserved : goal.loop-ino-preserved
loop-ino-preserved c =
    let l = c.args.listing.now.listing in
    let rows = c.args.rows.now in
    let ino = c.loop-ino.ino in
    let here : is_clear l rows ino ≡ true = elim c.match-row.branch [
      | in-Some+else-is_lost+else-drops_parent w ↦
          let row = as_row w.in-Some.row in
          let is : row_in rows ino ≡ Some row = sym c.row.ensures ∙ ap (option_map as_row) w.in-Some.is in
          clear_row l rows ino row is (stays_so w.is_lost.result (stays_listed l ino (Some row)) w.is_lost.ensures w.if-is_lost.false) (sym w.drops_parent.ensures ∙ w.if-drops_parent.false)
      | in_default w ↦ clear_none l rows ino (sym c.row.ensures ∙ ap (option_map as_row) w.in_default.is)
    ] in
    clear_more l rows ino c.loop-ino.invariant here

pub returns-then-drops_parent-clause-some : goal.returns-then-drops_parent-clause-some
returns-then-drops_parent-clause-some c =
    let l = c.args.listing.now.listing in
    let rows = c.args.rows.now in
    let row = as_row c.in-Some.row in
    let is : row_in rows c.loop-ino.ino ≡ Some row = sym c.row.ensures ∙ ap (option_map as_row) c.in-Some.is in
    let drops = and_parts (is_among row.parent l.held) (not (is_listed l row.parent)) (sym c.drops_parent.ensures ∙ c.if-drops_parent.true) in
    let unlisted : is_listed l row.parent ≡ false = sym (not_not (is_listed l row.parent)) ∙ ap not drops.1 in
    inr (is_among-In row.parent l.held drops.0, leaves_child l rows c.loop-ino.ino row is unlisted)
