use Rattle.trio_case.proofs.Words.{refl}
use Rattle.trio_case.proofs.OtherBytes.{alike, is_case, tells}
use Rattle.trio_case.proofs.case.Case.page_mut.Goals as goal

pub invariant_of-self-lent : goal.invariant_of-self-lent
invariant_of-self-lent c =
    let k = c.self.inside in
    let b = k.bundle in
    λ o. ((λ w. (tells k.numbers b _ (alike b c.args.no w) c.self.invariant.0, is_case b _ k.range k.inodes (alike b c.args.no w) c.self.invariant.1)), c.self.invariant)

pub returns : goal.returns
returns c =
    rw (← c.self.view_is) (
      refl,
      record {
        value = c.page_mut.ensures.value;
        some = c.page_mut.ensures.some;
        lends = tt;
      },
    )
