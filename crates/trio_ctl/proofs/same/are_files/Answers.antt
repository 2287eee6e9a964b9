use Rattle.trio_ctl.proofs.Words.{◌∙◌, LentFile, ap, false≢true, file_in, head_of, map, sym}
use Rattle.trio_ctl.proofs.SamePages.{same_files}
use Rattle.trio_ctl.proofs.same.are_files.Goals as goal

pub returns-then-are_heads : goal.returns-then-are_heads
returns-then-are_heads c =
    let same = same_files c.args.handed.now c.args.bundle.now c.heads.result.now c.heads.ensures.files c.heads.ensures.pages in
    let heads = c.are_heads.ensures.0 c.if-are_heads.true ∙ ap (map (λ (f : LentFile). head_of (file_in f.stands))) c.writes.ensures in (
      λ on. same.0 (heads, sym c.pages.ensures ∙ c.are_pages.ensures.0 on),
      λ both. c.are_pages.ensures.1 (c.pages.ensures ∙ (same.1 both).1),
    )

pub returns-else-are_heads : goal.returns-else-are_heads
returns-else-are_heads c =
    let same = same_files c.args.handed.now c.args.bundle.now c.heads.result.now c.heads.ensures.files c.heads.ensures.pages in (
      λ on. absurd (false≢true (sym c.if-are_heads.false ∙ on)),
      λ both. c.are_heads.ensures.1 ((same.1 both).0 ∙ sym (ap (map (λ (f : LentFile). head_of (file_in f.stands))) c.writes.ensures)),
    )
