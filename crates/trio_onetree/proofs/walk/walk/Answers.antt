use Rattle.trio_onetree.proofs.Words.{◌∙◌, ◌≡◌, Err, List, Need, NotFound, Ok, ap, arith, enter, err_from_is_err_and, find_named, get_or, need_at, ok_or, paths_of, sym, take, ℕ}
use Rattle.trio_onetree.proofs.WalkFacts.{walk_on, walk_lost}
use Rattle.trio_onetree.proofs.walk.walk.Goals as goal

pub returns-in_err-at : goal.returns-in_err-at
returns-in_err-at c =
    let nodes = c.args.nodes.now in
    let ws = paths_of c.args.writes.now in
    let entered : enter nodes c.args.creds (need_at ws (take c.loop-i.i c.args.path.now)) c.loop-i.at ≡ Ok c.in_ok-dir.dir =
    ap (λ (need : Need). enter nodes c.args.creds need c.loop-i.at) (sym c.need_at.ensures) ∙ sym c.enter.ensures ∙ c.in_ok-dir.was in
    let lost : ok_or (find_named nodes c.in_ok-dir.dir (get_or c.args.path.now c.loop-i.i c.index-path-i.result)) NotFound ≡ Err c.in_err-at.field-0.0 =
    ap (λ (name : List ℕ). ok_or (find_named nodes c.in_ok-dir.dir name) NotFound) (sym c.index-path-i.is) ∙ sym c.look_up.ensures ∙ c.in_err-at.was in
    let p = err_from_is_err_and c.from_residual-in_err-at.result c.from_residual-in_err-at.ensures.1 in
    rw (p.1, p.2) (sym (walk_lost nodes c.args.creds ws c.args.path.now c.loop-i.i c.loop-i.at c.in_ok-dir.dir c.index-path-i.result _ (omega arith) entered lost) ∙ c.loop-i.invariant)

pub loop-i-preserved : goal.loop-i-preserved
loop-i-preserved c =
    let nodes = c.args.nodes.now in
    let ws = paths_of c.args.writes.now in
    let entered : enter nodes c.args.creds (need_at ws (take c.loop-i.i c.args.path.now)) c.loop-i.at ≡ Ok c.in_ok-dir.dir =
    ap (λ (need : Need). enter nodes c.args.creds need c.loop-i.at) (sym c.need_at.ensures) ∙ sym c.enter.ensures ∙ c.in_ok-dir.was in
    let found : ok_or (find_named nodes c.in_ok-dir.dir (get_or c.args.path.now c.loop-i.i c.index-path-i.result)) NotFound ≡ Ok c.in_ok-at.at =
    ap (λ (name : List ℕ). ok_or (find_named nodes c.in_ok-dir.dir name) NotFound) (sym c.index-path-i.is) ∙ sym c.look_up.ensures ∙ c.in_ok-at.was in
    walk_on nodes c.args.creds ws c.args.path.now c.loop-i.i c.loop-i.at c.in_ok-dir.dir c.in_ok-at.at c.index-path-i.result (omega arith) entered found ∙ c.loop-i.invariant
