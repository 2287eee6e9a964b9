use Rattle.trio_session.proofs.Words.{◌<◌, ◌∙◌, ◌≡◌, Bool, LentFile, Made, MadeAnew, WrittenAnew, ap, eqb, false, inl, inr, is_some, length, position, refl, slice_get-get_or, sym}
use Rattle.std.specs.Prelude.{None, Some, true}
use Rattle.trio_session.proofs.Found.{find-position, position-same, slice_get-found}
use Rattle.trio_session.proofs.session.reserve_one.Goals as goal

pub unwrap-at-requires : goal.unwrap-at-requires
unwrap-at-requires c =
    let p : Made → Bool = λ x. eqb x.ino c.args.ino in
    let none = position-same p c.args.made.now.items c.deref.result.now c.made_of.result None c.deref.ensures.value c.made_of.ensures c.in-None.is in
    rw c.file_of.ensures (elim c.requires.there [
      | inl made ↦ absurd (let t : false ≡ true = sym (ap is_some none) ∙ made in cc t)
      | inr written ↦ written
    ])

pub returns-in-Some-clause-relaid : goal.returns-in-Some-clause-relaid
returns-in-Some-clause-relaid c =
    let p : Made → Bool = λ x. eqb x.ino c.args.ino in
    let at = position-same p c.args.made.now.items c.deref.result.now c.made_of.result (Some c.in-Some.at) c.deref.ensures.value c.made_of.ensures c.in-Some.is in
    let m = c.index_mut.result.now in
    MadeAnew c.in-Some.at m c.reserve.new.self at (slice_get-found p c.args.made.now.items c.in-Some.at m at c.index_mut.ensures.value)
    (record {
      index_kept = c.reserve.ensures.index_kept;
      blocks_kept = c.reserve.ensures.blocks_kept;
      index = c.reserve.ensures.index;
      blocks_more = c.reserve.ensures.blocks;
      more = c.reserve.ensures.more;
      room = c.reserve.ensures.room;
    }) refl refl

pub returns-in-None-clause-relaid : goal.returns-in-None-clause-relaid
returns-in-None-clause-relaid c =
    let p : Made → Bool = λ x. eqb x.ino c.args.ino in
    let q : LentFile → Bool = λ f. eqb f.stands.ino c.args.ino in
    let none = position-same p c.args.made.now.items c.deref.result.now c.made_of.result None c.deref.ensures.value c.made_of.ensures c.in-None.is in
    let at : position q c.args.stock.now.writes ≡ Some c.unwrap-at.result = sym c.file_of.ensures ∙ c.unwrap-at.ensures in
    let lt : c.unwrap-at.result < length c.args.laid.now.items = rw c.requires.beside (find-position q c.args.stock.now.writes c.unwrap-at.result at).1 in
    let l = c.index_mut-in-None.result.now in
    let there = slice_get-get_or c.args.laid.now.items c.unwrap-at.result l lt ∙ ap Some (sym c.index_mut-in-None.ensures.value) in
    let done = c.reserve-in-None.ensures in
    WrittenAnew c.unwrap-at.result l c.reserve-in-None.new.self none at there
    (record { index_kept = done.index_kept; blocks_kept = done.blocks_kept; index = done.index; blocks_more = done.blocks; more = done.more; room = done.room }) refl refl
