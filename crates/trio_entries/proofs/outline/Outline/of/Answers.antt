use Rattle.trio_entries.proofs.Words.{◌∙◌, HoldParts, InoParts, LentFile, ap, head_in, map}
use Rattle.trio_entries.proofs.Outlined.{outline_has, outline_is}
use Rattle.trio_entries.proofs.outline.Outline.of.Goals as goal

pub invariant_of-result : goal.invariant_of-result
invariant_of-result c =
    outline_has c.args.bundle.now c.add_heads.new.heads.items c.add_pages.new.pages.items
    (c.add_heads.ensures ∙ ap (map (λ (f : LentFile). head_in f.stands)) c.writes.ensures, c.add_pages.ensures)

pub returns : goal.returns
returns c =
    outline_is c.args.bundle.now c.add_heads.new.heads.items c.add_pages.new.pages.items c.add_holds.new.numbers.items c.add_numbers.new.numbers.items
    (c.add_heads.ensures ∙ ap (map (λ (f : LentFile). head_in f.stands)) c.writes.ensures, c.add_pages.ensures)
    (c.add_holds.ensures ∙ ap (map (λ (h : HoldParts). h.ino)) c.holds.ensures)
    (c.add_numbers.ensures ∙ ap (map (λ (n : InoParts). n.no)) c.inodes.ensures)
