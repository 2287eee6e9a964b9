use Rattle.trio_open.proofs.Words.{◌+◌, ◌∙◌, HasKey, Keyed, List, ap, arith, bundle_in, drop, subst, sym, take, without}
use Rattle.trio_open.proofs.ClosingFacts.{Going, next_ended, next_kept, next_key}
use Rattle.trio_open.proofs.closing.end_grants.Goals.{then-ends, else-ends}
use Rattle.trio_open.proofs.closing.end_grants.Goals as goal

pub end-requires : goal.end-requires
end-requires c =
    let turn = c.loop-file in
    subst (λ n. HasKey n turn.grants) (sym c.key.ensures)
    (next_key c.args.lib (bundle_in c.args.case.now.bundle) c.args.files.now turn.file-index c.file-item.result turn.grants (omega arith) c.file-item.is turn.invariant)

pub loop-file-preserved : goal.loop-file-preserved
loop-file-preserved c =
    let turn = c.loop-file in
    let lib = c.args.lib in
    let b = bundle_in c.args.case.now.bundle in
    let files = c.args.files.now in
    elim c.if-ends.branch [
      | then-ends w ↦
          subst (λ (g : List Keyed). Going lib b (take (turn.file-index + 1) files) (drop (turn.file-index + 1) files) g) (sym w.grants-is)
          (next_ended lib b files turn.file-index c.file-item.result turn.grants (omega arith) c.file-item.is turn.invariant _ (sym c.ends.ensures ∙ w.if-ends.true) (w.end.ensures.ended ∙ ap (λ n. without n turn.grants) w.key.ensures))
      | else-ends w ↦
          subst (λ (g : List Keyed). Going lib b (take (turn.file-index + 1) files) (drop (turn.file-index + 1) files) g) (sym w.grants-is)
          (next_kept lib b files turn.file-index c.file-item.result turn.grants (omega arith) c.file-item.is turn.invariant (sym c.ends.ensures ∙ w.if-ends.false))
    ]
