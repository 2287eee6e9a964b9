use Rattle.trio_ctl.proofs.Words.{◌∙◌, ◌≡◌, Option, Row, Some, State, ap, as_row, option_map, row_at, row_in, settled, subst, sym}
use Rattle.trio_nodes.specs.declared.note.Note.{Note}
use Rattle.trio_layout.specs.Body.{block_count}
use Rattle.std.specs.Prelude.{◌≤◌, List}
use Rattle.trio_ctl.specs.Extents.{extent_by, extent_in, extent_of}
use Rattle.trio_ctl.proofs.Extents.{few_blocks, noted_there, same_note}
use Rattle.trio_ctl.proofs.Views.{seen_state}
use Rattle.trio_ctl.proofs.ctl.Ctl.extent.Goals as goal

pub returns-in_err-note : goal.returns-in_err-note
returns-in_err-note c =
    let h = c.self.invariant.0 in
    let s : State = c.self.inside.registry.state in
    let ino = c.args.ino in
    let row : row_at s.home ino ≡ Some (as_row c.in_ok-row.row) = ap (λ (rs : List (Option Row)). row_in rs ino) (sym c.rows.ensures) ∙ sym c.in_ok-row.ensures in
    let there = c.in_err-note.ensures ∙ noted_there s h.all.kept ino (as_row c.in_ok-row.row) row c.self.inside.notes h.noted in
    absurd (cc there)

pub extent_of-requires : goal.extent_of-requires
extent_of-requires c =
    let h = c.self.invariant.0 in
    let s : State = c.self.inside.registry.state in
    let ino = c.args.ino in
    let row : row_at s.home ino ≡ Some (as_row c.in_ok-row.row) = ap (λ (rs : List (Option Row)). row_in rs ino) (sym c.rows.ensures) ∙ sym c.in_ok-row.ensures in
    let same = same_note s h.all.kept ino (as_row c.in_ok-row.row) row c.self.inside.notes h.noted c.in_ok-note.note c.in_ok-note.ensures in
    subst (λ (n : Note). block_count n.size ≤ 8192) (sym same) (few_blocks s h.all.kept ino (as_row c.in_ok-row.row) row c.is_within_limits.ensures)

pub returns : goal.returns
returns c =
    let h = c.self.invariant.0 in
    let s : State = c.self.inside.registry.state in
    let ino = c.args.ino in
    let r : Row = as_row c.in_ok-row.row in
    let row : row_at s.home ino ≡ Some r = ap (λ (rs : List (Option Row)). row_in rs ino) (sym c.rows.ensures) ∙ sym c.in_ok-row.ensures in
    let same = same_note s h.all.kept ino r row c.self.inside.notes h.noted c.in_ok-note.note c.in_ok-note.ensures in
    ap Some (c.extent_of.ensures ∙ ap (λ (n : Note). extent_of r.kind n.guard n.size) same)
    ∙ sym (ap (option_map (extent_by (settled s) ino)) row)
    ∙ ap (λ (t : State). extent_in (settled t) ino) (seen_state c.self.view_is)
