use Rattle.trio_session.proofs.Words.{AreApart, Block, Parcel, bundled, is_some, number_at, page_in, parcel_of, sheet_at, subst, sym, with_part}
use Rattle.std.specs.Prelude.{IsTrue}
use Rattle.trio_session.proofs.Places.{put_block, apart_stays}
use Rattle.trio_session.proofs.stock.Stock.put_block.Goals as goal

pub invariant_of-self : goal.invariant_of-self
invariant_of-self c =
    let b = parcel_of (bundled c.self.inside.parts) in
    let there : IsTrue (is_some (sheet_at b (Block c.args.file c.args.at))) = subst (λ (s : Parcel). IsTrue (is_some (sheet_at s (Block c.args.file c.args.at)))) (sym c.self.view_is) c.requires.there in
    let done = put_block b c.args.file c.args.at c.index_mut.result.now c.put_in_block.new.lease c.args.offset c.args.bytes.now c.self.invariant there c.index_mut.ensures.value c.put_in_block.ensures in
    subst AreApart (sym done) (apart_stays (number_at b (Block c.args.file c.args.at)) (with_part c.args.offset c.args.bytes.now (page_in b (number_at b (Block c.args.file c.args.at)))) b c.self.invariant)

pub returns : goal.returns
returns c =
    let b = parcel_of (bundled c.self.inside.parts) in
    let there : IsTrue (is_some (sheet_at b (Block c.args.file c.args.at))) = subst (λ (s : Parcel). IsTrue (is_some (sheet_at s (Block c.args.file c.args.at)))) (sym c.self.view_is) c.requires.there in
    let done = put_block b c.args.file c.args.at c.index_mut.result.now c.put_in_block.new.lease c.args.offset c.args.bytes.now c.self.invariant there c.index_mut.ensures.value c.put_in_block.ensures in
    rw (← c.self.view_is) done
