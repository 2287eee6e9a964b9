use Rattle.trio_lease.proofs.Words.{KeepsUntouched, LentFile, subst}
use Rattle.trio_lease.proofs.write.WriteLease.keeps_untouched.Goals as goal

pub returns : goal.returns
returns c = let P : LentFile → Type 0 = λ f. KeepsUntouched f in subst P c.self.view_is c.self.invariant
