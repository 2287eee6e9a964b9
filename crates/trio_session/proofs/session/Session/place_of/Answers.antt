use Rattle.trio_session.proofs.Words.{◌∙◌, ◌≡◌, IfSome, List, Option, Some, ap, place_at_name, place_of, slice_get, slot_number, slots_shown, subst, sym, ℕ}
use Rattle.trio_session.proofs.Indexed.{dir_index, index_missing, open_shown}
use Rattle.trio_session.proofs.session.Session.place_of.Goals as goal

pub returns-in_err-index_on : goal.returns-in_err-index_on
returns-in_err-index_on c =
    let s = c.self.inside in
    absurd (index_missing c.args.self.now s c.args.dir c.index_on.result c.deref.result.now c.self.view_is c.requires.index c.deref.ensures.value c.index_on.ensures c.in_err-index_on.was)

pub returns : goal.returns
returns c =
    let s = c.self.inside in
    let shown = open_shown c.args.self.now c.args.dir c.requires.directory in
    let slots = dir_index c.args.self.now s c.args.dir c.index_on.result c.deref.result.now c.in_ok-index_on.field-0 c.self.view_is c.self.invariant
    shown c.deref.ensures.value c.index_on.ensures c.in_ok-index_on.was in
    record {
      place = c.find.ensures.place ∙ ap (place_at_name c.args.name.now) slots ∙ sym (ap (λ k. place_of k (slots_shown c.args.self.now c.args.dir) c.args.name.now) shown);
      slot = c.find.ensures.slot;
      there = subst (λ (xs : List (Option (List ℕ))). IfSome c.find.result (λ place. slice_get xs (slot_number place) ≡ Some (Some c.args.name.now))) slots c.find.ensures.there;
    }
