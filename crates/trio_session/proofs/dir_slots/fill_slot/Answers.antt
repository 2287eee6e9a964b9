use Rattle.trio_session.proofs.Words.{◌*◌, ◌++◌, ◌∙◌, ◌≡◌, ap, arith, length, number_at, page_in, refl, with_page, with_part}
use Rattle.std.specs.Prelude.{replicate}
use Rattle.trio_session.proofs.SlotBytes.{with_part-with_part}
use Rattle.trio_session.proofs.dir_slots.fill_slot.Goals as goal

pub returns-clause-filled : goal.returns-clause-filled
returns-clause-filled c =
    let n = number_at c.args.stock.now c.args.place in
    let fronts : length c.spelled.result ≡ 192 = omega arith in
    let bodies : length c.args.body.now ≡ 64 = omega arith in
    let written : c.put_bytes_in-2.new.bytes ≡ c.spelled.result ++ c.args.body.now =
    c.put_bytes_in-2.ensures ∙ ap (with_part 192 c.args.body.now) c.put_bytes_in.ensures ∙ with_part-with_part c.spelled.result c.args.body.now (replicate 256 0) refl fronts bodies in
    c.put_part.ensures
    ∙ ap (λ bytes. with_page n (with_part (256 * c.args.slot) bytes (page_in c.args.stock.now n)) c.args.stock.now) (written ∙ ap (λ front. front ++ c.args.body.now) c.spelled.ensures.bytes)
