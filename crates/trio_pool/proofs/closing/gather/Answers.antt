use Rattle.trio_pool.proofs.Words.{[], ap, append_assoc, length, rules, slice_get, ◌++◌, ◌∙◌, ◌∷◌, ◌≡◌}
use Rattle.trio_pool.proofs.Ends.{get_last, get_front, has_one, knows_one, has_more, knows_more}
use Rattle.trio_pool.proofs.closing.gather.Goals as goal

pub loop-other-init : goal.loop-other-init
loop-other-init g c =
    let new = c.pop.new.self.items in let p = c.in-Some.field-0 in
    let all : c.args.passes.items ≡ new ++ p ∷ [] = search rules in
    let is = c.requires.passes (length new) p (ap (λ l. slice_get l (length new)) all ∙ get_last new p) in
    ((is.0, p.slot), (p ∷ [], all, has_one p, knows_one c.args.pool.now.passes p is.2))

pub join-requires : goal.join-requires
join-requires g c =
    let new = c.pop-in-loop-other.new.self.items in let p = c.in-Some-pop.field-0 in let i = c.loop-other.invariant in
    let all : c.loop-other.passes.items ≡ new ++ p ∷ [] = search rules in
    let there = ap (λ l. slice_get l (length new)) i.1.1 ∙ get_front c.loop-other.passes.items i.1.0 (length new) p (ap (λ l. slice_get l (length new)) all ∙ get_last new p) in
    record { queue = (i.0, ((c.requires.passes (length new) p there).0, p.slot)) }

pub loop-other-preserved : goal.loop-other-preserved
loop-other-preserved g c =
    let new = c.pop-in-loop-other.new.self.items in let p = c.in-Some-pop.field-0 in let i = c.loop-other.invariant in let j = c.join.ensures in
    let all : c.loop-other.passes.items ≡ new ++ p ∷ [] = search rules in
    let there = ap (λ l. slice_get l (length new)) i.1.1 ∙ get_front c.loop-other.passes.items i.1.0 (length new) p (ap (λ l. slice_get l (length new)) all ∙ get_last new p) in
    let v = c.loop-other.token.me.0.client in let w = c.join.new.token.me.0.client in (
      (j.queue.0 ∙ i.0.0, j.queue.2 ∙ i.0.1),
      (
        p ∷ i.1.0,
        i.1.1 ∙ (ap (λ l. l ++ i.1.0) all ∙ append_assoc new (p ∷ []) i.1.0),
        has_more v w i.1.0 p j.both i.1.2,
        knows_more c.args.pool.now.passes v w i.1.0 p j.both i.1.3 (c.requires.passes (length new) p there).2,
      ),
    )
