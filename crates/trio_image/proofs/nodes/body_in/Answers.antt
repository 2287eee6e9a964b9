use Rattle.trio_image.proofs.Words.{◌-◌, ◌∙◌, ap, drop, sym, take}
use Rattle.std.proofs.lemmas.List.{take_rest}
use Rattle.trio_image.proofs.nodes.body_in.Goals as goal

pub returns : goal.returns
returns c =
    let bytes = c.args.bytes.now in
    c.copy_from_slice.ensures.after ∙ ap (λ n. take (n - 192) (drop 192 bytes)) (sym c.told-bytes) ∙ take_rest bytes 192
