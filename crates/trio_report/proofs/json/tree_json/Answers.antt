use Rattle.std.proofs.Common.{◌≡◌, ℕ, List, ◌∷◌, [], ◌++◌, ◌∙◌, ap, sym, subst, false}
use Rattle.serde_json.specs.Data.{Data}
use Rattle.serde_json.specs.Written.{compact_text, has_float}
use Rattle.trio_report.proofs.Texts.{no_float}
use Rattle.trio_report.proofs.json.tree_json.Goals as goal

pub returns : goal.returns
returns c =
    let value = c.in_ok-lines_value.ensures in
    let text = c.in_ok-text.ensures.text (subst (λ (d : Data). has_float d ≡ false) (sym value) (no_float c.args.lines.now)) in
    c.in_ok-push.ensures.items ∙ ap (λ (bytes : List ℕ). bytes ++ 10 ∷ []) (text ∙ ap compact_text value)
