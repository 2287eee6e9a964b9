use Rattle.trio_raw.proofs.Words.{◌∙◌, Fresh, ap}
use Rattle.trio_raw.specs.Has.{bytes_at}
use Rattle.trio_raw.specs.inner.Stock.{Stock}
use Rattle.trio_raw.proofs.things.Things.shown.Goals as goal

pub returns-in-Fresh : goal.returns-in-Fresh
returns-in-Fresh c =
    rw c.in-Fresh.is
    (rw (← c.deref-in-Fresh.ensures.value) c.shown_fresh.ensures
    ∙ ap (λ (s : Stock). bytes_at s.has (Fresh c.in-Fresh.page)) c.self.view_is)
