use Rattle.trio_session.proofs.Words.{◌∙◌, Block, Fresh, Index, Parcel, bundled, is_some, parcel_of, sheet_at, subst, sym}
use Rattle.std.specs.Prelude.{IsTrue}
use Rattle.trio_session.proofs.Places.{index_read, block_read, fresh_read}
use Rattle.trio_session.proofs.stock.Stock.page.Goals as goal

pub returns-in-Index : goal.returns-in-Index
returns-in-Index c =
    let b = parcel_of (bundled c.self.inside.parts) in
    let there : IsTrue (is_some (sheet_at b (Index c.in-Index.file c.in-Index.at))) = subst (λ (s : Parcel). IsTrue (is_some (sheet_at s (Index c.in-Index.file c.in-Index.at)))) (sym c.self.view_is) (rw c.in-Index.is at c.requires) in
    rw (← c.self.view_is) (rw c.in-Index.is (index_read b c.in-Index.file c.in-Index.at c.index.result.now c.index-in-Index.result c.unwrap.result c.self.invariant there c.index.ensures c.index-in-Index.ensures c.unwrap.ensures))

pub returns-in-Block : goal.returns-in-Block
returns-in-Block c =
    let b = parcel_of (bundled c.self.inside.parts) in
    let there : IsTrue (is_some (sheet_at b (Block c.in-Block.file c.in-Block.at))) = subst (λ (s : Parcel). IsTrue (is_some (sheet_at s (Block c.in-Block.file c.in-Block.at)))) (sym c.self.view_is) (rw c.in-Block.is at c.requires) in
    rw (← c.self.view_is) (rw c.in-Block.is (block_read b c.in-Block.file c.in-Block.at c.index-in-Block.result.now c.block.result c.unwrap-in-Block.result c.self.invariant there c.index-in-Block.ensures c.block.ensures c.unwrap-in-Block.ensures))

pub returns-in-Fresh : goal.returns-in-Fresh
returns-in-Fresh c =
    let b = parcel_of (bundled c.self.inside.parts) in
    let there : IsTrue (is_some (sheet_at b (Fresh c.in-Fresh.at))) = subst (λ (s : Parcel). IsTrue (is_some (sheet_at s (Fresh c.in-Fresh.at)))) (sym c.self.view_is) (rw c.in-Fresh.is at c.requires) in
    c.page.ensures ∙ rw (← c.self.view_is) (rw c.in-Fresh.is (fresh_read b c.in-Fresh.at c.index-in-Fresh.result.now c.self.invariant there c.index-in-Fresh.ensures))
