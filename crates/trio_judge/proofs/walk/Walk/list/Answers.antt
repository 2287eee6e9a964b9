use Rattle.trio_judge.proofs.Words.{◌∙◌, ◌∷◌, [], ap, case_in, file_met, is_some, refl, sym}
use Rattle.trio_case.specs.Listed.{Listed}
use Rattle.trio_judge.proofs.Faults.{entry_again, entry_foreign}
use Rattle.trio_judge.proofs.Noting.{entries_still, is_named, is_none_of, lists_entry, so_far}
use Rattle.trio_judge.proofs.walk.Walk.list.Goals as goal
use Rattle.trio_judge.proofs.walk.Walk.list.Goals.{then-is_some-2-via-then-is_some-2, then-is_some-2-via-else-is_some-2+then-not-is_own}

pub returns-then-is_some-clause-lists : goal.returns-then-is_some-clause-lists
returns-then-is_some-clause-lists c = λ done es l.
    entries_still (case_in c.args.case.now) done es (file_met c.args.entry.now ∷ []) c.args.self.now (sym c.is_some.ensures ∙ c.if-is_some.true) l

pub returns-then-is_some-2-clause-lists : goal.returns-then-is_some-2-clause-lists
returns-then-is_some-2-clause-lists c = λ done es found.
    let k = case_in c.args.case.now in
    let w = c.args.self.now in
    let e = file_met c.args.entry.now in
    let l = so_far k done es w (is_none_of _ (sym c.is_some.ensures ∙ c.if-is_some.false)) found in
    elim c.then-is_some-2.branch [
      | then-is_some-2-via-then-is_some-2 t ↦
          rw c.fault.ensures (entry_again k done es e (sym (is_named k done es w e.ino l) ∙ ap is_some (sym c.dir.ensures) ∙ sym c.is_some-2.ensures ∙ t.if-is_some-2.true))
      | then-is_some-2-via-else-is_some-2+then-not-is_own t ↦
          rw c.fault.ensures (entry_foreign k done es e (sym t.is_own.ensures ∙ t.if-not-is_own.true))
    ]

pub returns-clause-lists : goal.returns-clause-lists
returns-clause-lists c = λ done es found.
    let k = case_in c.args.case.now in
    let w = c.args.self.now in
    let e = file_met c.args.entry.now in
    let none = is_none_of _ (sym c.is_some.ensures ∙ c.if-is_some.false) in
    let l = so_far k done es w none found in
    let unnamed = sym (is_named k done es w e.ino l) ∙ ap is_some (sym c.dir.ensures) ∙ sym c.is_some-2.ensures ∙ c.if-is_some-2.false in
    let listed = rw c.requires.kept at (ap (λ (x : Listed). x.listing) c.add_entry.ensures) in
    rw none (lists_entry k done es e w _ c.entry_keeps_rights.result l (sym c.is_own.ensures ∙ c.if-not-is_own.false) unnamed c.entry_keeps_rights.ensures (rw c.fault-2.ensures at c.first_denied-self.ensures) listed refl)
