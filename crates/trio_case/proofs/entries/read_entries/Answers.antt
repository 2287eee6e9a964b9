use Rattle.trio_case.proofs.Words.{◌++◌, ◌+◌, ◌∙◌, ◌∷◌, ◌≡◌, In-cases, List, Listed, Location, Result, [], arith, bundle_core, case_in, entries_kept, entries_where, get_or, inl, inr, page_of, refl, sym, take, take_all, take_more, ℕ}
use Rattle.trio_case.proofs.Gathers.{gathered_all, gathered_fault_at}
use Rattle.trio_case.proofs.entries.read_entries.Goals as goal

pub returns-in-Err-clause-entries : goal.returns-in-Err-clause-entries
returns-in-Err-clause-entries c =
    let f : ℕ → Result (List Listed) Location = λ page. entries_where c.args.case.now.inodes page (page_of (bundle_core (case_in c.args.case.now)) page) in
    let blocks = c.args.blocks.now in
    let i = c.loop-block.block-index in
    let before = gathered_all f (entries_kept c.loop-block.kept) (take i blocks) c.loop-block.invariant.done in
    sym (gathered_fault_at f blocks i 0 _ (omega arith) (rw (before, c.in-Err.ensures.here) refl))

pub loop-block-preserved : goal.loop-block-preserved
loop-block-preserved c =
    let blocks = c.args.blocks.now in
    let i = c.loop-block.block-index in
    let turn = c.loop-block.invariant in
    let read = c.in_default.ensures in
    let front : take (i + 1) blocks ≡ take i blocks ++ get_or blocks i 0 ∷ [] = take_more blocks i 0 (omega arith) in
    record {
      done = λ page h. elim (In-cases page (take i blocks) (get_or blocks i 0 ∷ []) (rw front at h)) [
        | inl before ↦ read.others page (turn.done page before)
        | inr last ↦ elim last [
          | inl same ↦ rw same read.here
          | inr none ↦ absurd none
        ]
      ];
      keeps = read.keeps;
      places = read.places;
      most = omega (arith, turn.most, read.most);
      same = read.same ∙ turn.same;
      looks = omega (arith, turn.looks, read.looks);
    }

pub returns-clause-entries : goal.returns-clause-entries
returns-clause-entries c =
    let f : ℕ → Result (List Listed) Location = λ page. entries_where c.args.case.now.inodes page (page_of (bundle_core (case_in c.args.case.now)) page) in
    let blocks = c.args.blocks.now in
    let i = c.loop-block.block-index in
    let all : take i blocks ≡ blocks = take_all i blocks (omega arith) in
    sym (rw all at (gathered_all f (entries_kept c.loop-block.kept) (take i blocks) c.loop-block.invariant.done))
