use Rattle.trio_image.proofs.Words.{◌+◌, ◌∙◌, ap, drop, rules}
use Rattle.trio_image.proofs.Pages.{taken_bytes, taken_rest}
use Rattle.trio_image.proofs.saving.home_bytes.Goals as goal
use Rattle.trio_image.proofs.saving.home_bytes.Goals.{in-Some+in_ok-extend_from_slice, in_default}

pub loop-i-preserved : goal.loop-i-preserved
loop-i-preserved c =
    let so = c.loop-i.invariant in
    record {
      rest = ap (λ h. drop (c.loop-i.i + 1) h.pages) c.take.ensures.home ∙ taken_rest c.loop-i.i c.loop-i.home.pages c.args.home.pages so.rest;
      count = search rules;
      joined = elim c.match-take.branch [
        | in-Some+in_ok-extend_from_slice w ↦ taken_bytes c.loop-i.i c.loop-i.home.pages c.args.home.pages _ c.loop-i.bytes.items c.match-take.bytes.items so.rest w.in-Some.ensures.page (search rules) so.joined (search rules)
        | in_default w ↦ taken_bytes c.loop-i.i c.loop-i.home.pages c.args.home.pages _ c.loop-i.bytes.items c.match-take.bytes.items so.rest w.in_default.ensures.page (search rules) so.joined (search rules)
      ];
    }
