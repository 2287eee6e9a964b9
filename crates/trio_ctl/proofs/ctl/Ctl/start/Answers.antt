use Rattle.trio_ctl.proofs.Words.{◌∙◌, All, HasHistory, ImagePages, Kit, List, Serves, State, ap, image_in, length, sizes_in, start, subst, sym}
use Rattle.std.proofs.lemmas.List.Elements.{All-nil}
use Rattle.trio_ctl.proofs.Underways.{all_idle}
use Rattle.trio_ctl.proofs.Recording.{begins}
use Rattle.trio_ctl.proofs.ctl.Ctl.start.Goals as goal

pub invariant_of-result : goal.invariant_of-result
invariant_of-result c =
    let image = c.args.image in
    let first = image_in image.superblock image.pages in
    let none = c.in-Ok-start.registry.begun in
    let begun = begins image.superblock image.pages c.args.libs.items none c.new.result c.of.result c.superblock-superblock.ensures.verified c.in-Ok-start.ensures.begun c.new.ensures (c.of.ensures ∙ c.in-Ok.ensures.notes) in (
      subst (λ (x : ImagePages). HasHistory (image_in x.superblock x.pages) c.in-Ok-start.registry.state none c.in-Ok-start.registry.promised c.new.result c.of.result) (sym c.of-first.ensures)
          (subst (λ (v : State). HasHistory first v none c.in-Ok-start.registry.promised c.new.result c.of.result) (sym (c.in-Ok-start.ensures.started ∙ ap (λ (x : ImagePages). start (image_in x.superblock x.pages) c.args.libs.items) c.notes.ensures.image))
          (subst (λ n. HasHistory first (start first c.args.libs.items) none n c.new.result c.of.result) (sym c.in-Ok-start.ensures.promised) begun)),
      subst (λ (ks : List Kit). All (Serves (sizes_in (image_in c.of-first.result.value.superblock c.of-first.result.value.pages)) c.none.result.bytes) ks) (sym c.none.ensures.kits) (All-nil _),
    )

pub returns-in-Ok-start-clause-idle : goal.returns-in-Ok-start-clause-idle
returns-in-Ok-start-clause-idle c = λ lib. all_idle c.in-Ok-start.registry.state c.in-Ok-start.registry.begun (length c.args.libs.items) lib c.in-Ok-start.ensures.begun
