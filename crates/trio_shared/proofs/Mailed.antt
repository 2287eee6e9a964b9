-- The mails' pass that a desk keeps.
use Rattle.trio_shared.proofs.Words.{◌<◌, ◌∙◌, ◌≡◌, List, Some, arith, inl, inr, length, slice_get, subst, sym, ℕ}
use Rattle.std.proofs.Math.Logic.{∥∥₁_elim}
use Rattle.std.proofs.Props.{props}
use Rattle.std.proofs.lemmas.Option.{slice_get_cases, slice_get_within}
use Rattle.trio_pool.specs.declared.mail.MailPass.{MailPass}
use Rattle.trio_pool.specs.declared.mail.MailQueue.{MailQueue}
use Rattle.trio_pool.specs.declared.mail.Mails.{Mails}
use Rattle.trio_pool.specs.Mails.{IsForMails, IsTokenOf, library_count}

there_is : {A : Type 0} (xs : List A) (k : ℕ) → k < length xs → (x : A) × (slice_get xs k ≡ Some x)
there_is xs k within =
    elim ((slice_get_cases xs k).1) [
      | inl has ↦ (has.0, has.2)
      | inr past ↦ absurd (omega (arith, within, past.0))
    ]

module _ {J : Type 0} where
  -- it comes from the start of the mails
  pub is_for : (m : Mails J) (p : MailPass J) → ∥ IsForMails m p ∥₁ → IsForMails m p
  is_for m p kept =
      let long : length p.tokens.items ≡ library_count m = ∥∥₁_elim kept (hlevel props) (λ f. f.0) in (
        long,
        λ k token there.
            let q = there_is m.queues.items k (subst (λ n. k < n) long (slice_get_within p.tokens.items k token there)) in (
              q.0,
              q.1,
              ∥∥₁_elim kept (hlevel props) (λ f. let has = f.1 k token there in let same : has.0 ≡ q.0 = cc (sym has.1 ∙ q.1) in subst (λ (x : MailQueue J). IsTokenOf x token) same has.2),
              ∥∥₁_elim kept (hlevel props) (λ f. (f.1 k token there).3),
            ),
      )
