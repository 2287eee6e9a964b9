use Rattle.std.proofs.Common.{◌≡◌, ◌⊎◌, inl, inr}
use Rattle.trio_session.specs.Asked.{SomeWanted}
use Rattle.trio_deeds.proofs.Wanting.{some_asks}
use Rattle.trio_deeds.proofs.rooms.allot.Goals as goal
use Rattle.trio_deeds.proofs.rooms.allot.Goals.{else-pages-eq0-via-then-pages-eq0+else-numbers-eq0, else-pages-eq0-via-else-pages-eq0}

pub returns-clause-allots : goal.returns-clause-allots
returns-clause-allots g c =
    let some : (c.args.pages ≡ 0 → ⊥) ⊎ (c.args.numbers ≡ 0 → ⊥) =
    elim c.else-pages-eq0.branch [ else-pages-eq0-via-then-pages-eq0+else-numbers-eq0 w ↦ inr w.if-numbers-eq0.false | else-pages-eq0-via-else-pages-eq0 w ↦ inl w.if-pages-eq0.false ] in
    SomeWanted (some_asks c.args.pages c.args.numbers some) c.want.ensures.call
