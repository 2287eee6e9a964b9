use Rattle.trio_session.proofs.Words.{◌<◌, ◌∙◌, ◌≡◌, AmongMade, AmongWritten, Bool, GrowDone, Leased, LentFile, Made, MadeAnew, WrittenAnew, ap, eqb, false, inl, inr, is_some, length, position, refl, slice_get-get_or, subst, sym, true}
use Rattle.std.specs.Prelude.{None, Some}
use Rattle.trio_session.proofs.Found.{find-position, position-same, slice_get-found}
use Rattle.trio_session.proofs.contents.grow_one.Goals as goal

pub grow_file-requires : goal.grow_file-requires
grow_file-requires c =
    let p : Made → Bool = λ x. eqb x.ino c.args.ino in
    let at = position-same p c.args.made.now.items c.deref.result.now c.made_of.result (Some c.in-Some.at) c.deref.ensures.value c.made_of.ensures c.in-Some.is in
    let m = c.index_mut-one.result.now in
    c.requires.may c.file-file.result m.laid (AmongMade c.in-Some.at m at (slice_get-found p c.args.made.now.items c.in-Some.at m at c.index_mut-one.ensures.value) c.file-file.ensures refl)

pub unwrap-at-requires : goal.unwrap-at-requires
unwrap-at-requires c =
    let p : Made → Bool = λ x. eqb x.ino c.args.ino in
    let none = position-same p c.args.made.now.items c.deref.result.now c.made_of.result None c.deref.ensures.value c.made_of.ensures c.in-None.is in
    rw c.file_of.ensures (elim c.requires.there [
      | inl made ↦ absurd (let t : false ≡ true = sym (ap is_some none) ∙ made in cc t)
      | inr written ↦ written
    ])

pub grow_file-requires-in-None : goal.grow_file-requires-in-None
grow_file-requires-in-None c =
    let p : Made → Bool = λ x. eqb x.ino c.args.ino in
    let q : LentFile → Bool = λ f. eqb f.stands.ino c.args.ino in
    let none = position-same p c.args.made.now.items c.deref.result.now c.made_of.result None c.deref.ensures.value c.made_of.ensures c.in-None.is in
    let at : position q c.args.stock.now.writes ≡ Some c.unwrap-at.result = sym c.file_of.ensures ∙ c.unwrap-at.ensures in
    let lt : c.unwrap-at.result < length c.args.laid.now.items = rw c.requires.beside (find-position q c.args.stock.now.writes c.unwrap-at.result at).1 in
    let l = c.index_mut.result.now in
    let there = slice_get-get_or c.args.laid.now.items c.unwrap-at.result l lt ∙ ap Some (sym c.index_mut.ensures.value) in
    c.requires.may (Leased c.unwrap-at.result) l (AmongWritten c.unwrap-at.result none at there refl)

pub returns-in-Some-clause-relaid : goal.returns-in-Some-clause-relaid
returns-in-Some-clause-relaid c =
    let p : Made → Bool = λ x. eqb x.ino c.args.ino in
    let at = position-same p c.args.made.now.items c.deref.result.now c.made_of.result (Some c.in-Some.at) c.deref.ensures.value c.made_of.ensures c.in-Some.is in
    let m = c.index_mut-one.result.now in
    let there = slice_get-found p c.args.made.now.items c.in-Some.at m at c.index_mut-one.ensures.value in
    MadeAnew c.in-Some.at m c.grow_file.new.laid at there (subst (λ f. GrowDone c.args.stock.now c.grow_file.new.stock c.args.size c.args.from c.grow_file.result f m.laid c.grow_file.new.laid) c.file-file.ensures c.grow_file.ensures) refl refl

pub returns-in-None-clause-relaid : goal.returns-in-None-clause-relaid
returns-in-None-clause-relaid c =
    let p : Made → Bool = λ x. eqb x.ino c.args.ino in
    let q : LentFile → Bool = λ f. eqb f.stands.ino c.args.ino in
    let none = position-same p c.args.made.now.items c.deref.result.now c.made_of.result None c.deref.ensures.value c.made_of.ensures c.in-None.is in
    let at : position q c.args.stock.now.writes ≡ Some c.unwrap-at.result = sym c.file_of.ensures ∙ c.unwrap-at.ensures in
    let lt : c.unwrap-at.result < length c.args.laid.now.items = rw c.requires.beside (find-position q c.args.stock.now.writes c.unwrap-at.result at).1 in
    let l = c.index_mut.result.now in
    let there = slice_get-get_or c.args.laid.now.items c.unwrap-at.result l lt ∙ ap Some (sym c.index_mut.ensures.value) in
    WrittenAnew c.unwrap-at.result l c.grow_file-in-None.new.laid none at there c.grow_file-in-None.ensures refl refl
