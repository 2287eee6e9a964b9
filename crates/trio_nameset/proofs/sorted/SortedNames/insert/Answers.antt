use Rattle.std.proofs.Common.{◌∙◌, Some, set, ap, subst, sym, arith}
use Rattle.trio_nameset.specs.inner.Sorted.{IsWithin, IsAbove, IsBelow, IsLinked, link_at}
use Rattle.trio_nameset.proofs.Links.{linked_front, linked_after}
use Rattle.trio_nameset.proofs.sorted.SortedNames.insert.Goals as goal

pub returns-in-Front-clause-sorted : goal.returns-in-Front-clause-sorted
returns-in-Front-clause-sorted c =
    let s = c.args.self.now in
    let name = c.args.name.now in
    let below = subst (λ p. IsBelow s.names.items (link_at s.first s.next.items p) name) c.in-Front.is c.requires.place.below in
    let is = c.link.ensures ∙ ap (link_at s.first s.next.items) c.in-Front.is in
    let linked = linked_front s.names.items s.first s.next.items name c.len-new.result c.link.result c.requires.sorted.linked below (omega arith) (omega arith) is in
    record {
      linked = subst (λ ns. IsLinked ns (Some c.len-new.result) (set s.next.items c.len-new.result c.link.result)) (sym c.push_reserved.ensures.items) linked;
      few = omega arith;
      room = omega arith;
      counted = omega arith;
    }

pub returns-in-After-clause-sorted : goal.returns-in-After-clause-sorted
returns-in-After-clause-sorted c =
    let s = c.args.self.now in
    let name = c.args.name.now in
    let within = subst (IsWithin s.names.items) c.in-After.is c.requires.place.within in
    let above = subst (λ p. IsAbove s.names.items p name) c.in-After.is c.requires.place.above in
    let below = subst (λ p. IsBelow s.names.items (link_at s.first s.next.items p) name) c.in-After.is c.requires.place.below in
    let is = c.link.ensures ∙ ap (link_at s.first s.next.items) c.in-After.is in
    let linked = linked_after s.names.items s.first s.next.items name c.len-new.result c.in-After.before c.link.result c.requires.sorted.linked within above below (omega arith) (omega arith) is in
    record {
      linked = subst (λ ns. IsLinked ns s.first (set (set s.next.items c.len-new.result c.link.result) c.in-After.before (Some c.len-new.result))) (sym c.push_reserved.ensures.items) linked;
      few = omega arith;
      room = omega arith;
      counted = omega arith;
    }
