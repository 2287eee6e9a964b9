use Rattle.trio_open.proofs.Words.{◌&&◌, ◌+◌, ◌∙◌, ◌≡◌, Bool, Option, PageNo, ap, are_numbered, arith, drop, false, get_or, is_numbered, no_at, option_copied, option_map, rules, sym, true}
use Rattle.trio_open.proofs.Given.{numbered_apart, numbered_at}
use Rattle.trio_open.proofs.belongs.has_blocks.Goals as goal

pub returns-then-blocks_len-numbers : goal.returns-then-blocks_len-numbers
returns-then-blocks_len-numbers c = sym (numbered_apart c.args.lease.now.stands.blocks c.args.numbers.now (λ e. omega (arith, e)))

pub returns-then-not-is_numbered : goal.returns-then-not-is_numbered
returns-then-not-is_numbered c =
    let ps = c.args.lease.now.stands.blocks in
    let ns = c.args.numbers.now in
    let i = c.loop-i.i in
    let step = numbered_at ps ns i c.loop-i.invariant.same (omega arith) in
    let test = c.is_numbered.ensures
    ∙ ap (λ (o : Option PageNo). is_numbered (option_map (λ n. n.0) o) (option_copied c.block.result) (get_or ns i 0)) c.block_no.ensures
    ∙ ap (λ o. is_numbered (option_map (λ n. n.0) (no_at ps i)) o (get_or ns i 0)) c.block.ensures in
    let off : c.is_numbered.result ≡ false = search rules in
    sym (sym c.loop-i.invariant.left ∙ step ∙ ap (λ (t : Bool). t && are_numbered (drop (i + 1) ps) (drop (i + 1) ns)) (sym test ∙ off))

pub loop-i-preserved : goal.loop-i-preserved
loop-i-preserved c =
    let ps = c.args.lease.now.stands.blocks in
    let ns = c.args.numbers.now in
    let i = c.loop-i.i in
    let step = numbered_at ps ns i c.loop-i.invariant.same (omega arith) in
    let test = c.is_numbered.ensures
    ∙ ap (λ (o : Option PageNo). is_numbered (option_map (λ n. n.0) o) (option_copied c.block.result) (get_or ns i 0)) c.block_no.ensures
    ∙ ap (λ o. is_numbered (option_map (λ n. n.0) (no_at ps i)) o (get_or ns i 0)) c.block.ensures in
    let on : c.is_numbered.result ≡ true = search rules in
    record {
      same = c.loop-i.invariant.same;
      left = sym (ap (λ (t : Bool). t && are_numbered (drop (i + 1) ps) (drop (i + 1) ns)) (sym test ∙ on)) ∙ sym step ∙ c.loop-i.invariant.left;
    }
