use Rattle.std.proofs.Common.{◌≡◌, ℕ, suc, zero, ◌+◌, ◌<◌, length, List, [], ◌∷◌, Some, None, drop, slice_get, get_or, ap, sym, ◌∙◌, arith}
use Rattle.std.proofs.lemmas.Option.{slice_get-get_or}
use Rattle.trio_nodes.specs.After.{with_blocks}
use Rattle.trio_nodes.specs.Told.{ToldBlock, block_told}
use Rattle.trio_log.proofs.file.put_blocks.Goals as goal
use Rattle.trio_log.proofs.file.put_blocks.Goals.{in-Some, in_default}

-- the rest of a list from a place on, at which this stands
drop_get : {X : Type 0} (xs : List X) (i : ℕ) (x : X) → slice_get xs i ≡ Some x → drop i xs ≡ x ∷ drop (suc i) xs
drop_get [] i x e = absurd (cc e)
drop_get (y ∷ ys) zero x e = ap (λ z. z ∷ ys) (cc e)
drop_get (y ∷ ys) (suc i) x e = drop_get ys i x e

pub loop-i-preserved : goal.loop-i-preserved
loop-i-preserved c =
    let bs : List ToldBlock = c.args.bundle.now.blocks in
    let i : ℕ = c.loop-i.i in
    let one : suc i ≡ i + 1 = omega arith in
    elim c.match-block.branch [
      | in-Some w ↦
          let first = drop_get bs i (block_told w.in-Some.block) (sym (w.in-Some.ensures)) in
          ap (λ n. with_blocks c.args.ino (drop n bs) c.match-block.bytes) (sym one)
          ∙ ap (with_blocks c.args.ino (drop (suc i) bs)) (w.bytes-is ∙ w.put_own.ensures)
          ∙ ap (λ l. with_blocks c.args.ino l c.loop-i.bytes) (sym first) ∙ c.loop-i.invariant
      | in_default w ↦
          let nothing : ToldBlock = record { ino = 0; at = 0; bytes = [] } in
          let within : i < length bs = omega (arith, c.loop-i-test.true, c.blocks_len-i-end.ensures) in
          absurd (let no : None ≡ Some (get_or bs i nothing) = w.in_default.ensures ∙ slice_get-get_or bs i nothing within in cc no)
    ]
