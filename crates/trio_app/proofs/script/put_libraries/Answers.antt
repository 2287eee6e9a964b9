use Rattle.trio_app.proofs.Words.{◌++◌, ◌∙◌, ap, arith}
use Rattle.trio_app.proofs.Ends.{libs_all, libs_put}
use Rattle.trio_app.proofs.script.put_libraries.Goals as goal

pub loop-at-preserved : goal.loop-at-preserved
loop-at-preserved c =
    let put = c.in_ok-put_library.ensures in
    libs_put c.args.libs.now c.args.tolds.now c.loop-at.at c.index-libs-at.result c.index-tolds-at.result c.args.text.now.items c.loop-at.text.items c.put_library.new.text.items
    (omega arith) (omega arith) c.index-libs-at.is c.index-tolds-at.is c.loop-at.invariant put

pub returns : goal.returns
returns c =
    c.loop-at.invariant
    ∙ ap (λ bytes. c.args.text.now.items ++ bytes) (libs_all 1 c.args.libs.now c.args.tolds.now c.loop-at.at (omega arith))
