use Rattle.trio_onetree.proofs.Words.{◌∙◌, Kind, List, ap, drop, sym, take, ℕ}
use Rattle.trio_onetree.proofs.Listing.{list_does}
use Rattle.trio_onetree.proofs.look.list.Goals as goal

pub returns : goal.returns
returns c =
    list_does c.args.nodes.now c.args.creds c.args.path.now c.args.from c.in_ok-ino.ino c.in_ok-ino.node.now c.count.result c.in_ok-names.names.items c.from_vec.result
    c.in_ok-ino.ensures (sym c.is_directory.ensures ∙ c.if-not-is_directory.false) (sym c.lacks.ensures ∙ c.if-lacks.false) c.count.ensures c.in_ok-names.ensures
    (c.from_vec.ensures ∙ c.in_ok-told.ensures.items ∙ c.part.ensures ∙ ap (λ (l : List (List ℕ × Kind)). take 64 (drop c.args.from l)) c.deref.ensures.value)
