use Rattle.trio_image.proofs.Words.{◌*◌, IsPartOf, List, Option, ap, arith, refl, rules, subst, ℕ}
use Rattle.trio_image.proofs.FileParts.{file_end, file_turn}
use Rattle.trio_image.proofs.reading.read_file.Goals as goal

pub returns-then-part-lt-PAGE_SIZE-clause-file : goal.returns-then-part-lt-PAGE_SIZE-clause-file
returns-then-part-lt-PAGE_SIZE-clause-file g c =
    let so = c.loop-i.invariant in
    let part = c.in_ok-part.part in
    let known = subst (λ (content : Option (List ℕ)). IsPartOf content (4096 * c.loop-i.i) 4096 part.page part.count) (ap (λ (h : List ℕ → Option (List ℕ)). h c.args.name.now) so.files.held) c.in_ok-part.ensures.part in
    file_end _ c.loop-i.whole.items part.page c.loop-i.i (4096 * c.loop-i.i) 4096 part.count _ so.count (omega arith) so.whole c.in_ok-part.ensures.whole (omega arith) (omega arith) refl refl (omega arith) so.so_far known

pub loop-i-preserved : goal.loop-i-preserved
loop-i-preserved g c =
    let part = c.in_ok-part.part in
    file_turn _ _ _ _ c.loop-i.whole.items c.push.new.self.items part.page c.loop-i.i _ part.count c.loop-i.invariant c.in_ok-part.ensures.files c.in_ok-part.ensures.whole c.in_ok-part.ensures.room (omega arith) refl c.in_ok-part.ensures.part (search rules)

pub returns-clause-file : goal.returns-clause-file
returns-clause-file g c =
    let so = c.loop-i.invariant in
    let past = c.in_ok-past.past in
    let known = subst (λ (content : Option (List ℕ)). IsPartOf content 33554432 1 past.page past.count) (ap (λ (h : List ℕ → Option (List ℕ)). h c.args.name.now) so.files.held) c.in_ok-past.ensures.part in
    file_end _ c.loop-i.whole.items past.page 8192 33554432 1 past.count _ (search rules) (omega arith) so.whole c.in_ok-past.ensures.whole (omega arith) (omega arith) (omega arith) (omega arith) (omega arith) so.so_far known
