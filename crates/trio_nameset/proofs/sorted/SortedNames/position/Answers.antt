use Rattle.std.proofs.Common.{not, sym, ap}
use Rattle.trio_nameset.proofs.Links.{not_there}
use Rattle.trio_nameset.proofs.Search.{contains_none, contains_read}
use Rattle.trio_nameset.proofs.sorted.SortedNames.position.Goals as goal

pub returns-in-Some-clause-new : goal.returns-in-Some-clause-new
returns-in-Some-clause-new c = sym (ap not (contains_read c.args.name.now c.args.self.now.names.items c.in-Some.index c.in-Some.ensures))

pub returns-in-None-clause-new : goal.returns-in-None-clause-new
returns-in-None-clause-new c =
    let s = c.args.self.now in
    let name = c.args.name.now in
    let place = c.fits.ensures c.if-fits.true in
    let differ = not_there s.names.items s.first s.next.items name c.args.hint c.requires.linked place.within place.above place.below in
    sym (ap not (contains_none name s.names.items differ))
