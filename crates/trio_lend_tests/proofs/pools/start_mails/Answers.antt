use Rattle.std.proofs.Common.{rules, ◌≡◌, List, [], ◌∷◌, ◌++◌, length, length-append, slice_get, ap, ◌∙◌, arith}
use Rattle.trio_pool.specs.declared.mail.MailPass.{MailPass}
use Rattle.trio_pool.specs.declared.mail.Mails.{Mails}
use Rattle.trio_pool.specs.Mails.{IsForMails, AllFor}
use Rattle.trio_lend_tests.proofs.pools.start_mails.Goals as goal

-- the two passes that were popped
both : {J : Type 0} (m : Mails J) (ps one none : List (MailPass J)) (a b : MailPass J) → AllFor m ps → length ps ≡ 2 → ps ≡ one ++ b ∷ [] → one ≡ none ++ a ∷ [] → IsForMails m a × IsForMails m b
both m ps one [] a b all two p r = let is : ps ≡ a ∷ b ∷ [] = p ∙ ap (λ l. l ++ b ∷ []) r in (all 0 a (ap (λ l. slice_get l 0) is), all 1 b (ap (λ l. slice_get l 1) is))
both m ps one (c ∷ none) a b all two p r = absurd (omega (arith, ap length p ∙ length-append one (b ∷ []), ap length r ∙ length-append (c ∷ none) (a ∷ [])))

pub returns : goal.returns
returns c =
    let s = c.in-Ok.ensures in
    let n = both c.in-Ok.mails c.in-Ok.passes.items c.pop.new.self.items c.pop-2.new.self.items c.in-Some-pop.first c.in-Some.second s.passes.1 s.passes.0 (search rules) (search rules) in
    (n.0, n.1, s.mails)
