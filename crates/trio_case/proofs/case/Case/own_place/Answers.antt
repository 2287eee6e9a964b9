use Rattle.trio_case.proofs.Words.{◌++◌, ◌∙◌, ◌≡◌, InoParts, LentFile, ap, map, place_of, refl}
use Rattle.trio_case.proofs.case.Case.own_place.Goals as goal

pub returns : goal.returns
returns c =
    let k = c.self.inside in
    let own : k.numbers.writes ++ k.numbers.fresh ≡ map (λ (f : LentFile). f.stands.ino) k.bundle.writes ++ map (λ (n : InoParts). n.no) k.bundle.inodes = rw (c.self.invariant.0.writes, c.self.invariant.0.fresh) refl in
    rw (← c.self.view_is) (c.own_place.ensures ∙ ap (place_of c.args.ino) own)
