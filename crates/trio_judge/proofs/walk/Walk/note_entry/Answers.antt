use Rattle.trio_judge.proofs.Words.{◌∙◌, case_in, file_met, sym}
use Rattle.trio_judge.proofs.Noting.{bad_entry, noted_entry, ready_same}
use Rattle.trio_judge.proofs.walk.Walk.note_entry.Goals as goal

pub returns-then-not-is_in_grammar-clause-bad : goal.returns-then-not-is_in_grammar-clause-bad
returns-then-not-is_in_grammar-clause-bad c =
    rw c.fault.ensures (bad_entry (case_in c.args.case.now) (file_met c.args.entry.now) (sym c.is_in_grammar.ensures ∙ c.if-not-is_in_grammar.true))

pub find-requires : goal.find-requires
find-requires c = record { ready = ready_same (case_in c.args.case.now) c.args.self.now c.list.new.self c.list.ensures.same c.requires.ready; lists = c.requires.lists }

pub returns-clause-noted : goal.returns-clause-noted
returns-clause-noted c =
    noted_entry (case_in c.args.case.now) (file_met c.args.entry.now) c.args.self.now c.list.new.self c.find.new.self (sym c.is_in_grammar.ensures ∙ c.if-not-is_in_grammar.false) c.list.ensures.lists c.list.ensures.same c.list.ensures.places c.find.ensures.grows c.find.ensures.ready c.find.ensures.same
