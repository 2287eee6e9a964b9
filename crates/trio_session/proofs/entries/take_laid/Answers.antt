use Rattle.trio_session.proofs.Words.{◌∙◌, ◌≡◌, Bool, Kept, List, Made, ap, eqb, refl, slice_get, sym, subst, IsBlank}
use Rattle.std.specs.Prelude.{None, Some}
use Rattle.std.specs.List.{remove}
use Rattle.trio_session.specs.inner.Found.{Fresh}
use Rattle.trio_session.proofs.Found.{position-same, slice_get-found}
use Rattle.trio_session.proofs.entries.take_laid.Goals as goal

pub returns-in-Some-clause-taken : goal.returns-in-Some-clause-taken
returns-in-Some-clause-taken c =
    let cs = c.args.cleared.now.items in
    let p : Made → Bool = λ x. eqb x.ino c.args.ino in
    let at = position-same p cs c.deref.result.now c.made_of.result (Some c.in-Some.at) c.deref.ensures.value c.made_of.ensures c.in-Some.is in
    Kept c.in-Some.at c.remove-laid.result at (slice_get-found p cs c.in-Some.at c.remove-laid.result at c.remove-laid.ensures.value) refl c.remove-laid.ensures.items

pub returns-in-None-clause-taken : goal.returns-in-None-clause-taken
returns-in-None-clause-taken c =
    let p : Made → Bool = λ x. eqb x.ino c.args.ino in
    let none = position-same p c.args.cleared.now.items c.deref.result.now c.made_of.result None c.deref.ensures.value c.made_of.ensures c.in-None.is in
    let blank : IsBlank c.replace.result = subst IsBlank (sym c.replace.ensures.value) c.requires in
    Fresh none blank.index_kept blank.blocks_kept blank.index blank.blocks refl
