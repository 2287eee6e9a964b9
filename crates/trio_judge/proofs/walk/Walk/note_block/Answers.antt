use Rattle.trio_judge.proofs.Words.{◌+◌, ◌∷◌, ◌≤◌, DirEntry, In, [], arith, case_in, get_or, inl, inr, length, listed_met, map, subst, sym, take}
use Rattle.std.proofs.lemmas.List.{length-take}
use Rattle.trio_judge.proofs.Noting.{bad_among, blank, block_at, block_has, block_len, block_more, noted_append, places_fewer}
use Rattle.trio_judge.proofs.walk.Walk.note_block.Goals as goal

pub note_entry-requires-clause-places : goal.note_entry-requires-clause-places
note_entry-requires-clause-places c =
    let es = c.args.entries.now in
    let i = c.loop-listed.listed-index in
    let xs = map (listed_met c.args.directory) (take i es) in
    let some : length xs + 1 ≤ length es = omega (arith, block_len c.args.directory (take i es), length-take i es) in
    c.loop-listed.invariant.places 1 (places_fewer (length xs + 1) (length es) c.args.self.now some c.requires.places)

pub returns-in-Err-clause-bad : goal.returns-in-Err-clause-bad
returns-in-Err-clause-bad c =
    let es = c.args.entries.now in
    let i = c.loop-listed.listed-index in
    let x : DirEntry = get_or es i blank in
    bad_among (case_in c.args.case.now) (listed_met c.args.directory x ∷ []) _ c.in-Err.fault
    (λ e k. elim k [ inl same ↦ subst (λ y. In y (map (listed_met c.args.directory) es)) (sym same) (block_has c.args.directory i es x (omega arith) (block_at i es (omega arith))) | inr none ↦ absurd none ])
    (rw c.listed.ensures at c.in-Err.ensures.bad)

pub loop-listed-preserved : goal.loop-listed-preserved
loop-listed-preserved c =
    let es = c.args.entries.now in
    let i = c.loop-listed.listed-index in
    let x : DirEntry = get_or es i blank in
    let noted = rw c.listed.ensures at c.in_default.ensures.noted in
    rw (block_more c.args.directory i es x (omega arith) (block_at i es (omega arith)))
    (noted_append (case_in c.args.case.now) _ _ c.args.self.now c.loop-listed.self c.note_entry.new.self c.loop-listed.invariant noted)
