use Rattle.trio_script.proofs.Words.{◌∙◌, arith, sym}
use Rattle.trio_script.proofs.Libraries.{library_takes, form_takes}
use Rattle.trio_script.proofs.take_line.Goals as goal

pub returns-then-names_library : goal.returns-then-names_library
returns-then-names_library c =
    library_takes c.args.number c.args.line.now (omega arith) (sym c.is_silent.ensures ∙ c.if-is_silent.false) c.args.begun.now c.begin_library.new.begun
    (sym c.names_library.ensures ∙ c.if-names_library.true) c.begin_library.result c.begin_library.ensures

pub returns : goal.returns
returns c =
    rw c.in-Some.is
    (form_takes c.args.number c.args.line.now (omega arith) (sym c.is_silent.ensures ∙ c.if-is_silent.false) c.in-Some.begun c.take_line.new.self
    (sym c.names_library.ensures ∙ c.if-names_library.false) c.take_line.result c.take_line.ensures)
