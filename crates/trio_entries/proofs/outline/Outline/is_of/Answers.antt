use Rattle.trio_entries.proofs.Words.{◌∙◌, Outline, ap, false≢true, sym}
use Rattle.trio_entries.proofs.Outlined.{AreLeases, outline_is, outline_leases}
use Rattle.trio_entries.proofs.outline.Outline.is_of.Goals as goal

pub returns-then-are_leases : goal.returns-then-are_leases
returns-then-are_leases c =
    let o = c.self.inside in
    let b = c.args.bundle.now in
    let leases = c.are_leases.ensures.0 c.if-are_leases.true in
    let here : AreLeases b o.files.items o.pages.items = (sym c.deref.ensures.value ∙ leases.0, sym c.deref-2.ensures.value ∙ leases.1) in
    rw (← c.self.view_is) (
      λ on.
          let taken = c.are_taken.ensures.0 on in
          outline_is b o.files.items o.pages.items o.holds.items o.numbers.items here (sym c.deref-then-are_leases.ensures.value ∙ taken.0) (sym c.deref-then-are_leases-2.ensures.value ∙ taken.1),
      λ same. c.are_taken.ensures.1 (c.deref-then-are_leases.ensures.value ∙ ap (λ (x : Outline). x.holds) same, c.deref-then-are_leases-2.ensures.value ∙ ap (λ (x : Outline). x.numbers) same),
    )

pub returns-else-are_leases : goal.returns-else-are_leases
returns-else-are_leases c =
    let o = c.self.inside in
    let b = c.args.bundle.now in
    rw (← c.self.view_is) (
      λ on. absurd (false≢true (sym c.if-are_leases.false ∙ on)),
      λ same.
          let leases = outline_leases b o.files.items o.pages.items o.holds.items o.numbers.items c.self.invariant same in
          c.are_leases.ensures.1 (c.deref.ensures.value ∙ leases.0, c.deref-2.ensures.value ∙ leases.1),
    )
