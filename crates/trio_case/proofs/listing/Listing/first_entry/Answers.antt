use Rattle.trio_case.proofs.Words.{◌<◌, ◌∙◌, ◌≡◌, ap, entry_seen, get_or, last_of, length, option_map, rules, sym}
use Rattle.trio_case.proofs.Knowing.{find-seen}
use Rattle.trio_case.proofs.listing.Listing.first_entry.Goals as goal

pub returns-in-Some : goal.returns-in-Some
returns-in-Some c =
    let first = c.self.inside.first.items in
    let es = c.self.inside.lists.entries.items in
    let within : c.args.ino < length first = search rules in
    let count : get_or first c.args.ino 0 ≡ c.in-Some.count.now = search rules in
    rw (← c.self.view_is, c.last_of.ensures, c.deref-in-Some.ensures.value) (ap (option_map entry_seen) (ap (λ n. last_of n es) (sym count) ∙ (c.self.invariant.knows c.args.ino within).named) ∙ sym (find-seen c.args.ino es))

pub returns-in-None : goal.returns-in-None
returns-in-None c =
    rw (← c.self.view_is, c.find_entry.ensures, c.deref-in-None.ensures.value) (sym (find-seen c.args.ino c.self.inside.lists.entries.items))
