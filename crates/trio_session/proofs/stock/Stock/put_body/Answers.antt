use Rattle.trio_session.proofs.Words.{◌*◌, ◌+◌, ◌∙◌, ◌≡◌, AreApart, InSlot, Leased, List, ap, body_at, is_some, length, number_at, page_in, shown_at, subst, sym, with_part, ℕ}
use Rattle.std.specs.Prelude.{IsTrue}
use Rattle.trio_session.proofs.Stays.{body_stays}
use Rattle.trio_session.proofs.SlotEdits.{body_at-written}
use Rattle.trio_session.proofs.stock.Stock.put_body.Goals as goal

pub returns-in-InSlot-clause-has : goal.returns-in-InSlot-clause-has
returns-in-InSlot-clause-has c =
    let b = c.args.self.now in
    let page = c.in-InSlot.page in
    let slot = c.in-InSlot.slot in
    let there : IsTrue (is_some (shown_at b (InSlot page slot))) = rw c.in-InSlot.is at c.requires.there in
    let whole : length (page_in b (number_at b page)) ≡ 4096 = ap (λ (p : List ℕ). length p) (sym c.page.ensures) ∙ c.bytes-whole.ensures.len in
    rw c.in-InSlot.is (ap (λ x. body_at x (InSlot page slot)) c.put_part.ensures
    ∙ body_at-written b page slot c.args.body.now (subst AreApart c.self.view_is c.self.invariant) there whole (rw c.in-InSlot.is at c.requires.slot) c.told-body)

pub returns-in-InSlot-clause-others : goal.returns-in-InSlot-clause-others
returns-in-InSlot-clause-others c = λ i ne.
    let b = c.args.self.now in
    let n = number_at b c.in-InSlot.page in
    ap (λ x. body_at x (Leased i)) c.put_part.ensures ∙ body_stays n (with_part (256 * c.in-InSlot.slot + 192) c.args.body.now (page_in b n)) b i
