use Rattle.trio_entries.proofs.Words.{◌∙◌, BundleSize, HasToldPlaces, Outline, ap, outline_size, subst}
use Rattle.trio_entries.proofs.Sizes.{size_outlined}
use Rattle.trio_entries.proofs.draft.Draft.into_memory.Goals as goal

pub returns : goal.returns
returns c =
    let d = c.self.inside in
    let size = ap (λ (o : Outline). outline_size o) (c.self.view_is ∙ c.requires) ∙ size_outlined c.args.case.now.bundle in
    subst (λ (s : BundleSize). HasToldPlaces s d.told) size c.self.invariant
