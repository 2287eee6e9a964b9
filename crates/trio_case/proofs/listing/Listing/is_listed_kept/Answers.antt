use Rattle.trio_case.proofs.Words.{◌∙◌, ap, entry_seen, option_copied, option_map, sym}
use Rattle.trio_case.proofs.Knowing.{first_kept, kept-seen, unkept}
use Rattle.trio_case.proofs.listing.Listing.is_listed_kept.Goals as goal

pub returns-then-first : goal.returns-then-first
returns-then-first c =
    let found = sym c.first_entry.ensures ∙ ap (λ o. option_map entry_seen (option_copied o)) c.in-Some.is in
    c.if-first.true ∙ sym (first_kept c.args.ino c.args.self.now.listing.entries (entry_seen c.in-Some.first.now) found c.if-first.true)

pub returns-else-first : goal.returns-else-first
returns-else-first c =
    rw (← c.self.view_is, c.is_kept.ensures, c.deref.ensures.value) (sym (kept-seen c.args.ino c.self.inside.lists.entries.items))

pub returns-in-None : goal.returns-in-None
returns-in-None c =
    sym (unkept c.args.ino c.args.self.now.listing.entries (sym c.first_entry.ensures ∙ ap (λ o. option_map entry_seen (option_copied o)) c.in-None.is))
