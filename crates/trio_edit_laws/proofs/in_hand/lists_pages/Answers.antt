use Rattle.trio_edit_laws.proofs.session.ListedPages.{listed_are_in_hand, listed_after_write, listed_after_hold, listed_after_allotment}
use Rattle.trio_edit_laws.proofs.session.WrittenEdits.{listed_after_edit}
use Rattle.trio_edit_laws.proofs.in_hand.lists_pages.Goals as goal

pub returns : goal.returns
returns c = record { hand = listed_are_in_hand; write = listed_after_write; hold = listed_after_hold; allotment = listed_after_allotment; edit = listed_after_edit }
