use Rattle.trio_io.proofs.real.RealFiles.serves.Goals as goal

pub returns : goal.returns
returns g c = rw (← c.deref.ensures.value) c.is_among.ensures
