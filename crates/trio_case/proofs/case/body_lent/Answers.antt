use Rattle.trio_case.proofs.Words.{◌∙◌, ◌≡◌, HoldParts, None, Some, ap, map, option_and_then, option_copied, option_map, place_of, refl, rules, slice_get, slice_get_past, slice_get_read, sym}
use Rattle.trio_case.proofs.CaseRows.{body_at}
use Rattle.trio_case.proofs.case.body_lent.Goals as goal

pub returns-in_err-at : goal.returns-in_err-at
returns-in_err-at c =
    let hs = c.args.holds.now in
    let gone : place_of c.args.ino (map (λ (h : HoldParts). h.ino) hs) ≡ None = sym (ap (place_of c.args.ino) c.requires) ∙ sym c.find.ensures ∙ c.in_err-at.was in
    ap option_copied c.from_residual.ensures ∙ sym (body_at hs c.args.ino ∙ ap (λ o. option_map (λ (h : HoldParts). h.body) (option_and_then (slice_get hs) o)) gone)

pub returns-in_err-hold : goal.returns-in_err-hold
returns-in_err-hold c =
    let hs = c.args.holds.now in
    let place : place_of c.args.ino (map (λ (h : HoldParts). h.ino) hs) ≡ Some c.in_ok-at.at = sym (ap (place_of c.args.ino) c.requires) ∙ sym c.find.ensures ∙ c.in_ok-at.was in
    let gone : slice_get hs c.in_ok-at.at ≡ None = slice_get_past hs c.in_ok-at.at (search rules) in
    ap option_copied c.from_residual-in_err-hold.ensures
    ∙ sym (body_at hs c.args.ino ∙ ap (λ o. option_map (λ (h : HoldParts). h.body) (option_and_then (slice_get hs) o)) place ∙ ap (option_map (λ (h : HoldParts). h.body)) gone)

pub returns : goal.returns
returns c =
    let hs = c.args.holds.now in
    let place : place_of c.args.ino (map (λ (h : HoldParts). h.ino) hs) ≡ Some c.in_ok-at.at = sym (ap (place_of c.args.ino) c.requires) ∙ sym c.find.ensures ∙ c.in_ok-at.was in
    let there : slice_get hs c.in_ok-at.at ≡ Some c.in_ok-hold.hold.now = slice_get_read hs _ c.in_ok-at.at c.in_ok-hold.hold.now refl (search rules) (search rules) in
    ap (λ b. Some b) c.body.ensures.body
    ∙ sym (body_at hs c.args.ino ∙ ap (λ o. option_map (λ (h : HoldParts). h.body) (option_and_then (slice_get hs) o)) place ∙ ap (option_map (λ (h : HoldParts). h.body)) there)
