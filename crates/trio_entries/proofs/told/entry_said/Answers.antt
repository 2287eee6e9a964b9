use Rattle.trio_entries.proofs.Words.{◌∙◌, LentFile, List, ap, option_map, size_in, sym, ℕ}
use Rattle.trio_layout.specs.Body.{guard_in}
use Rattle.trio_entries.proofs.FileLemmas.{written_guard_is, written_size_is}
use Rattle.trio_entries.proofs.told.entry_said.Goals as goal

pub returns-in-Some-clause-size : goal.returns-in-Some-clause-size
returns-in-Some-clause-size c =
    let says = written_size_is c.args.case.now.bundle c.args.ino ∙ ap (option_map (λ (f : LentFile). size_in f.stands.body)) (sym c.in-Some.ensures) in
    rw says (c.said_in.ensures.size ∙ ap (λ (s : List ℕ). size_in s) c.body.ensures.body)

pub returns-then-is_fresh-clause-size : goal.returns-then-is_fresh-clause-size
returns-then-is_fresh-clause-size c =
    let says = written_size_is c.args.case.now.bundle c.args.ino ∙ ap (option_map (λ (f : LentFile). size_in f.stands.body)) (sym c.in_default.ensures) in
    rw (says, sym c.if-is_fresh.ensures) (c.said_in-then-is_fresh.ensures.size ∙ ap (λ (s : List ℕ). size_in s) c.slot_body.ensures.body)

pub returns-else-is_fresh-clause-size : goal.returns-else-is_fresh-clause-size
returns-else-is_fresh-clause-size c =
    let says = written_size_is c.args.case.now.bundle c.args.ino ∙ ap (option_map (λ (f : LentFile). size_in f.stands.body)) (sym c.in_default.ensures) in
    rw (says, sym c.if-is_fresh.ensures) c.size.ensures

pub returns-in-Some-clause-guard : goal.returns-in-Some-clause-guard
returns-in-Some-clause-guard c =
    let says = written_guard_is c.args.case.now.bundle c.args.ino ∙ ap (option_map (λ (f : LentFile). guard_in f.stands.body)) (sym c.in-Some.ensures) in
    rw says (c.said_in.ensures.guard ∙ ap (λ (s : List ℕ). guard_in s) c.body.ensures.body)

pub returns-then-is_fresh-clause-guard : goal.returns-then-is_fresh-clause-guard
returns-then-is_fresh-clause-guard c =
    let says = written_guard_is c.args.case.now.bundle c.args.ino ∙ ap (option_map (λ (f : LentFile). guard_in f.stands.body)) (sym c.in_default.ensures) in
    rw (says, sym c.if-is_fresh.ensures) (c.said_in-then-is_fresh.ensures.guard ∙ ap (λ (s : List ℕ). guard_in s) c.slot_body.ensures.body)

pub returns-else-is_fresh-clause-guard : goal.returns-else-is_fresh-clause-guard
returns-else-is_fresh-clause-guard c =
    let says = written_guard_is c.args.case.now.bundle c.args.ino ∙ ap (option_map (λ (f : LentFile). guard_in f.stands.body)) (sym c.in_default.ensures) in
    rw (says, sym c.if-is_fresh.ensures) c.guard.ensures
