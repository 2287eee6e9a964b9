use Rattle.trio_entries.proofs.Words.{◌∙◌, BundleSize, HasToldPlaces, Outline, ap, outline_size, subst, sym}
use Rattle.trio_entries.proofs.Sizes.{size_outlined}
use Rattle.trio_entries.proofs.draft.Draft.begun.Goals as goal

pub invariant_of-result : goal.invariant_of-result
invariant_of-result c =
    let size = ap (λ (o : Outline). outline_size o) c.of.ensures ∙ size_outlined c.args.bundle.now in
    subst (λ (s : BundleSize). HasToldPlaces s c.args.memory.told) (sym size) c.requires.told
