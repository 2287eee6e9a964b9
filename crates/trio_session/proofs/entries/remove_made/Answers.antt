use Rattle.trio_session.proofs.Words.{◌≡◌, Bool, Made, Removed, eqb, refl}
use Rattle.std.specs.Prelude.{None, Some}
use Rattle.trio_session.specs.inner.Found.{NotMade}
use Rattle.trio_session.proofs.Found.{position-same, slice_get-found}
use Rattle.trio_session.proofs.entries.remove_made.Goals as goal

pub returns-in-Some-clause-removed : goal.returns-in-Some-clause-removed
returns-in-Some-clause-removed c =
    let ms = c.args.made.now.items in
    let p : Made → Bool = λ m. eqb m.ino c.args.ino in
    let at = position-same p ms c.deref.result.now c.made_of.result (Some c.in-Some.at) c.deref.ensures.value c.made_of.ensures c.in-Some.is in
    Removed c.in-Some.at c.remove-one.result at (slice_get-found p ms c.in-Some.at c.remove-one.result at c.remove-one.ensures.value) c.remove-one.ensures.items c.push_reserved.ensures.items

pub returns-in-None-clause-removed : goal.returns-in-None-clause-removed
returns-in-None-clause-removed c =
    let p : Made → Bool = λ m. eqb m.ino c.args.ino in
    NotMade (position-same p c.args.made.now.items c.deref.result.now c.made_of.result None c.deref.ensures.value c.made_of.ensures c.in-None.is) refl refl
