use Rattle.trio_session.proofs.Words.{◌≡◌, AnIndex, Bool, IndexedDir, NoIndex, ap, eqb, refl}
use Rattle.std.specs.Prelude.{None, Some}
use Rattle.trio_auxdir.specs.Directory.{Directory as Index}
use Rattle.trio_session.proofs.Found.{position-same, slice_get-found}
use Rattle.trio_session.proofs.indexes.reserve_index.Goals as goal

pub returns-in-Some : goal.returns-in-Some
returns-in-Some c =
    let p : IndexedDir → Bool = λ x. eqb x.ino c.args.ino in
    let at = position-same p c.args.dirs.now.items c.deref.result.now c.index_place.result (Some c.in-Some.at) c.deref.ensures.value c.index_place.ensures c.in-Some.is in
    let d = c.index_mut.result.now in
    let d' : IndexedDir = record d { dir = c.reserve.new.self } in
    AnIndex c.in-Some.at d d' at (slice_get-found p c.args.dirs.now.items c.in-Some.at d at c.index_mut.ensures.value)
    (record {
      ino = refl;
      inodes = ap (λ (x : Index). x.inodes) c.reserve.ensures.kept;
      slots = ap (λ (x : Index). x.slots) c.reserve.ensures.kept;
      more = c.reserve.ensures.grows;
      room = c.reserve.ensures.room;
    }) refl

pub returns-in-None : goal.returns-in-None
returns-in-None c =
    let p : IndexedDir → Bool = λ x. eqb x.ino c.args.ino in
    NoIndex (position-same p c.args.dirs.now.items c.deref.result.now c.index_place.result None c.deref.ensures.value c.index_place.ensures c.in-None.is) refl
