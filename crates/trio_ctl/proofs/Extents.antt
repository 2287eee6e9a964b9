-- How a file lies, by its row and by what is noted of it.
use Rattle.trio_ctl.proofs.Words.{Core, Kept, Kind, None, Notes, Row, Some, State, and_parts, ap, arith, get_or, leb-true, live_met, met_numbered, option_map, plain, row_at, settled, settled_body, sizes_of, subst, ℕ, ◌&&◌, ◌+◌, ◌<◌, ◌∙◌, ◌≡◌, ◌≤◌}
use Rattle.std.specs.Prelude.{List, nat_le}
use Rattle.std.specs.Str.{bytes_eq}
use Rattle.std.proofs.lemmas.Option.{cond_some}
use Rattle.trio_rights.specs.ByKind.{guard_fits}
use Rattle.trio_layout.specs.declared.body.Body.{Body}
use Rattle.trio_layout.specs.declared.range.CoreRange.{CoreRange}
use Rattle.trio_layout.specs.Body.{block_count, body_at, body_bytes, body_fits, body_of, head_fits, size_fits}
use Rattle.trio_layout.specs.Range.{core_count}
use Rattle.trio_nodes.specs.declared.note.Note.{Note}
use Rattle.trio_desk.specs.Contents.{AreWithinLimits}
use Rattle.trio_laws.specs.history.ToldLaws.{note_of, notes_of}
use Rattle.trio_laws.proofs.history.NotesFacts.{noted_at}
use Rattle.trio_ctl.proofs.WellLent.{good_body}

-- a body that is in the grammar has no more blocks than there are core pages
block_count-core : (kind : Kind) (range : CoreRange) (bytes : List ℕ) (b : Body) → body_of kind range bytes ≡ Some b → block_count b.size ≤ core_count range
unfolding body_of
block_count-core kind range bytes b e =
    let x : Body = body_at bytes in
    let spelled = bytes_eq bytes (body_bytes x) in
    let k = cond_some (spelled && body_fits kind range x) x b e in
    let mode = nat_le x.mode.0 511 in
    let blocks = nat_le (block_count x.size) (core_count range) in
    let size = size_fits kind x.size in
    let head = head_fits range (block_count x.size) x.head in
    let all = and_parts (mode && blocks && size && head) (guard_fits kind x.guard) (and_parts spelled (body_fits kind range x) k.0).1 in
    let three = and_parts (mode && blocks && size) head all.0 in
    let two = and_parts (mode && blocks) size three.0 in
    subst (λ (y : Body). block_count y.size ≤ core_count range) k.1 (leb-true (block_count x.size) (core_count range) (and_parts mode blocks two.0).1)

module _ (s : State) (k : Kept s) (ino : ℕ) (r : Row) (row : row_at s.home ino ≡ Some r) where
  -- what is noted of the file
  pub noted_there : (notes : Notes) → notes ≡ notes_of (settled s) → get_or notes ino None ≡ Some (note_of (settled s) ino r)
  noted_there notes noted =
      let m = live_met s k ino r row in
      let core : Core = (settled s).core in
      let high = (met_numbered core plain k.fit k.verifies.sound m.met m.stands).1 in
      let number = m.number in
      let below : ino < core.inodes + 1 = omega (arith, high, number) in
      ap (λ ns. get_or ns ino None) noted ∙ noted_at (settled s) ino below ∙ ap (option_map (note_of (settled s) ino)) row

  pub same_note : (notes : Notes) → notes ≡ notes_of (settled s) → (note : Note) → Some note ≡ get_or notes ino None → note ≡ note_of (settled s) ino r
  same_note notes noted note is = (let there : Some note ≡ Some (note_of (settled s) ino r) = is ∙ noted_there notes noted in cc there)

  -- the file has no more blocks than an image has pages
  pub few_blocks : AreWithinLimits (sizes_of s) → block_count (note_of (settled s) ino r).size ≤ 8192
  few_blocks limits =
      let body = settled_body (settled s) ino in
      let blocks = block_count-core r.kind s.home.core.range body (body_at body) (good_body s k ino r row) in
      let pages = limits.pages in
      omega (arith, blocks, pages)
