use Rattle.trio_survey.proofs.Words.{◌++◌, ◌+◌, ◌∙◌, ◌∷◌, ◌≡◌, Err, In-cases, List, Listed, Location, Ok, Result, [], arith, core_with, entries_kept, flat_map, gathered, get_or, inl, inr, page_entries, refl, sym, take, take_all, take_more, ℕ}
use Rattle.trio_survey.proofs.Gathers.{gathered_all, gathered_fault_at}
use Rattle.trio_survey.proofs.KeptBlocks.{good_lists}
use Rattle.trio_survey.proofs.entries.read_entries.Goals as goal

pub returns-in-Err-clause-entries : goal.returns-in-Err-clause-entries
returns-in-Err-clause-entries c =
    let pages = c.args.home.now.pages in
    let f : ℕ → Result (List Listed) Location = page_entries (core_with pages c.args.range c.args.inodes) in
    let blocks = c.args.blocks.now in
    let i = c.loop-no.no-index in
    let turn = c.loop-no.invariant in
    let kept = c.loop-no.kept.blocks in
    let before : gathered f (take i blocks) ≡ Ok (flat_map (entries_kept c.args.range kept) (take i blocks)) =
    gathered_all f (entries_kept c.args.range kept) (take i blocks) (λ page h. good_lists pages c.args.range c.args.inodes kept page turn.says (turn.good page h)) in
    let bad : f (get_or blocks i 0) ≡ Err c.in-Err.place = rw (turn.same, c.in-Err.is) at c.in_ok-place.ensures.here in
    sym (gathered_fault_at f blocks i 0 c.in-Err.place (omega arith) (rw (before, bad) refl))

pub loop-no-preserved : goal.loop-no-preserved
loop-no-preserved c =
    let blocks = c.args.blocks.now in
    let i = c.loop-no.no-index in
    let turn = c.loop-no.invariant in
    let read = c.in_ok-place.ensures in
    let front : take (i + 1) blocks ≡ take i blocks ++ get_or blocks i 0 ∷ [] = take_more blocks i 0 (omega arith) in
    record {
      same = read.pages ∙ turn.same;
      keeps = rw turn.same at read.keeps;
      parts = read.parts;
      says = rw turn.same at read.says;
      good = λ page h. elim (In-cases page (take i blocks) (get_or blocks i 0 ∷ []) (rw front at h)) [
        | inl before ↦ read.others page (turn.good page before)
        | inr last ↦ elim last [
          | inl same ↦ rw same (rw c.in_default.is at read.here)
          | inr none ↦ absurd none
        ]
      ];
      looks = omega (arith, turn.looks, read.looks);
      looked = omega (arith, turn.looked, read.looked);
    }

pub returns-clause-entries : goal.returns-clause-entries
returns-clause-entries c =
    let pages = c.args.home.now.pages in
    let f : ℕ → Result (List Listed) Location = page_entries (core_with pages c.args.range c.args.inodes) in
    let blocks = c.args.blocks.now in
    let i = c.loop-no.no-index in
    let turn = c.loop-no.invariant in
    let kept = c.loop-no.kept.blocks in
    let all : take i blocks ≡ blocks = take_all i blocks (omega arith) in
    sym (rw all at (gathered_all f (entries_kept c.args.range kept) (take i blocks) (λ page h. good_lists pages c.args.range c.args.inodes kept page turn.says (turn.good page h))))
