use Rattle.trio_walk.proofs.Words.{◌∙◌, ◌≡◌, IsSome, SessionSeen, Some, ap, block_shown, entry_in, every_number, slot_bytes, slot_of, subst, sym, ℕ}
use Rattle.trio_walk.proofs.Looking.{there_entry}
use Rattle.trio_walk.proofs.met.entry_met.Goals as goal

pub slot_met-requires-clause-entry : goal.slot_met-requires-clause-entry
slot_met-requires-clause-entry c =
    let place = c.in_ok-place.place in
    let page = c.in_ok-page.page.now in
    let block : block_shown c.args.session.now c.args.dir place.block ≡ Some page =
    sym (c.in_ok-page.ensures ∙ ap (λ (s : SessionSeen). block_shown s c.args.dir place.block) c.in_ok-place.ensures.counted) in
    subst (λ (k : ℕ). IsSome (entry_in (slot_of every_number (slot_bytes k page)))) (sym c.from.ensures)
    (there_entry c.args.session.now c.args.dir c.args.name.now place page (sym c.in_ok-place.ensures.place) block)
