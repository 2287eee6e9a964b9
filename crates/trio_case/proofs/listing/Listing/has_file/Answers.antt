use Rattle.trio_case.proofs.Words.{◌∙◌, sym}
use Rattle.trio_case.proofs.Knowing.{file-found}
use Rattle.trio_case.proofs.listing.Listing.has_file.Goals as goal

pub returns : goal.returns
returns c =
    let l = c.self.inside.lists in
    rw (← c.self.view_is) (c.has.ensures ∙ c.self.invariant.judged.each c.args.ino ∙ sym (file-found _ _ c.args.ino l.files.items))
