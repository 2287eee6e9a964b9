use Rattle.trio_ctl.proofs.Words.{◌∙◌, All, All-push, Kit, Option, Serves, arith, subst, sym}
use Rattle.std.proofs.lemmas.List.Elements.{All-pop}
use Rattle.std.specs.Global.{Vec}
use Rattle.std.specs.Prelude.{IfSome}
use Rattle.trio_ctl.proofs.spares.Spares.keep.Goals.{then-bytes-self+in_default, else-bytes-self}
use Rattle.trio_ctl.proofs.spares.Spares.keep.Goals as goal

pub loop-kit-preserved : goal.loop-kit-preserved
loop-kit-preserved c =
    let inv = c.loop-kit.invariant in
    let sum = inv.1 in
    let less = c.in-Some.ensures.cases in
    let more = c.push_reserved.ensures.len in (
      inv.0,
      omega (arith, sum, less, more),
      c.push_reserved.ensures.capacity ∙ inv.2,
      λ z own others.
          let both = inv.3 z own others in
          let left = All-pop (Serves z c.args.more.bytes) c.loop-kit.self.kits.items c.pop.new.self.items c.pop.result c.pop.ensures.items both.0 in
          let kit = subst (λ (r : Option Kit). IfSome r (Serves z c.args.more.bytes)) c.in-Some.is left.1 in
          (left.0, subst (All (Serves z c.args.more.bytes)) (sym c.push_reserved.ensures.items) (All-push (Serves z c.args.more.bytes) c.loop-kit.kits.items c.in-Some.kit both.1 kit)),
    )

pub returns-clause-spare : goal.returns-clause-spare
returns-clause-spare c = λ z own others.
    elim c.if-bytes-self.branch [
      | then-bytes-self+in_default w ↦
          let kept = w.loop-kit.invariant.3 z (subst (λ n. All (Serves z n) c.args.self.now.kits.items) (sym w.loop-kit.invariant.0) own) others in
          subst (λ (v : Vec Kit). All (Serves z c.args.more.bytes) v.items) (sym w.kits-is) kept.1
      | else-bytes-self w ↦ subst (λ (v : Vec Kit). All (Serves z c.args.more.bytes) v.items) (sym w.kits-is) others
    ]
