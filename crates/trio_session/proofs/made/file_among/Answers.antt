use Rattle.trio_session.proofs.Words.{◌<◌, ◌∙◌, ◌≡◌, AmongMade, AmongWritten, Bool, LentFile, Made, ap, eqb, length, position, refl, slice_get-get_or, sym}
use Rattle.std.specs.Prelude.{None, Some}
use Rattle.trio_session.proofs.Found.{find-position, slice_get-found}
use Rattle.trio_session.proofs.made.file_among.Goals as goal

pub returns-in-Some : goal.returns-in-Some
returns-in-Some c =
    let p : Made → Bool = λ x. eqb x.ino c.args.ino in
    let at : position p c.args.made.now ≡ Some c.in-Some.at = sym c.made_of.ensures ∙ c.in-Some.is in
    let m = c.index-made-at.result in
    AmongMade c.in-Some.at m at (slice_get-found p c.args.made.now c.in-Some.at m at c.index-made-at.is) c.file.ensures refl

pub returns-in_ok-at-in-None : goal.returns-in_ok-at-in-None
returns-in_ok-at-in-None c =
    let q : LentFile → Bool = λ f. eqb f.stands.ino c.args.ino in
    let at : position q c.args.stock.now.writes ≡ Some c.in_ok-at-in-None.at = sym c.file_of.ensures ∙ c.in_ok-at-in-None.was in
    let lt : c.in_ok-at-in-None.at < length c.args.laid.now = rw c.requires (find-position q c.args.stock.now.writes c.in_ok-at-in-None.at at).1 in
    AmongWritten c.in_ok-at-in-None.at (sym c.made_of.ensures ∙ c.in-None.is) at (slice_get-get_or c.args.laid.now c.in_ok-at-in-None.at c.index-laid-at.result lt ∙ ap Some (sym c.index-laid-at.is)) refl
