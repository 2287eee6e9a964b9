use Rattle.trio_session.proofs.Words.{◌∙◌, ◌≡◌, AreApart, InSlot, List, ap, body_in_slot, is_some, length, shown_at, subst, sym, ℕ}
use Rattle.std.specs.Prelude.{IsTrue}
use Rattle.trio_session.proofs.Places.{body_at-InSlot}
use Rattle.trio_session.proofs.stock.Stock.body.Goals as goal

pub returns-in-InSlot-clause-body : goal.returns-in-InSlot-clause-body
returns-in-InSlot-clause-body c =
    let b = c.args.self.now in
    let page = c.in-InSlot.page in
    let slot = c.in-InSlot.slot in
    let there : IsTrue (is_some (shown_at b (InSlot page slot))) = rw c.in-InSlot.is at c.requires.there in
    rw c.in-InSlot.is (c.body_on.ensures.body ∙ ap (body_in_slot slot) c.page.ensures ∙ sym (body_at-InSlot b page slot (subst AreApart c.self.view_is c.self.invariant) there))

pub returns-in-InSlot-clause-len : goal.returns-in-InSlot-clause-len
returns-in-InSlot-clause-len c =
    let b = c.args.self.now in
    let page = c.in-InSlot.page in
    let slot = c.in-InSlot.slot in
    let there : IsTrue (is_some (shown_at b (InSlot page slot))) = rw c.in-InSlot.is at c.requires.there in
    rw c.in-InSlot.is (ap (λ (w : List ℕ). length w) (body_at-InSlot b page slot (subst AreApart c.self.view_is c.self.invariant) there ∙ ap (body_in_slot slot) (sym c.page.ensures)) ∙ c.body_on.ensures.len)

pub returns-in-InSlot-clause-whole : goal.returns-in-InSlot-clause-whole
returns-in-InSlot-clause-whole c =
    rw c.in-InSlot.is (subst (λ (p : List ℕ). length p ≡ 4096) c.page.ensures c.body_on.ensures.whole)

pub returns-in-Leased-clause-whole : goal.returns-in-Leased-clause-whole
returns-in-Leased-clause-whole c = rw c.in-Leased.is tt
