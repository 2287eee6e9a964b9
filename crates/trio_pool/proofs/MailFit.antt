-- The passes of the mails' queues.
use Rattle.trio_pool.proofs.Words.{AllFor, AreFor, IsForMails, List, Some, [], ap, inl, inr, length, refl, set, slice_get, subst, suc, sym, zero, ℕ, ⊎_elim, ◌++◌, ◌+◌, ◌∙◌, ◌∷◌, ◌≡◌, ◌⊎◌}
use Rattle.trio_pool.specs.declared.mail.MailToken.{MailToken}
use Rattle.trio_pool.specs.declared.mail.MailQueue.{MailQueue}
use Rattle.trio_pool.specs.declared.mail.MailPass.{MailPass}
use Rattle.trio_pool.specs.declared.mail.Mails.{Mails}
use Rattle.trio_pool.specs.Mails.{IsTokenOf}
use Rattle.trio_pool.specs.inner.Mail.{IsSameToken}
use Rattle.trio_pool.proofs.Ends.{get_last, get_front, push_cases}

set_cases : {A : Type 0} (xs : List A) (i : ℕ) (y z : A) (k : ℕ) → slice_get (set xs i y) k ≡ Some z → ((k ≡ i) × (y ≡ z)) ⊎ (slice_get xs k ≡ Some z)
set_cases [] i y z k e = inr e
set_cases (x ∷ xs) zero y z zero e = inl (refl, cc e)
set_cases (x ∷ xs) zero y z (suc k) e = inr e
set_cases (x ∷ xs) (suc i) y z zero e = inr e
set_cases (x ∷ xs) (suc i) y z (suc k) e = ⊎_elim (λ t. inl (ap suc t.0, t.1)) inr (set_cases xs i y z k e)

pub set_length : {A : Type 0} (xs : List A) (i : ℕ) (y : A) → length (set xs i y) ≡ length xs
set_length [] i y = refl
set_length (x ∷ xs) zero y = refl
set_length (x ∷ xs) (suc i) y = ap suc (set_length xs i y)

module _ {J : Type 0} where
  -- the pass of one queue as it is after a step
  pub fits_set : (queues : List (MailQueue J)) (tokens : List (MailToken J)) (i : ℕ) (t u : MailToken J) → slice_get tokens i ≡ Some t → IsSameToken t u
      → AreFor queues tokens → AreFor queues (set tokens i u)
  fits_set queues tokens i t u was same all k z e = ⊎_elim
      (λ (n : (k ≡ i) × (u ≡ z)). let a = all i t was in
      (a.0, ap (slice_get queues) n.0 ∙ a.1, ap (λ (y : MailToken J). y.token.table_id) (sym n.1) ∙ (same.0 ∙ a.2), ap (λ (y : MailToken J). y.library) (sym n.1) ∙ (same.1 ∙ (a.3 ∙ ap (λ j. j + 1) (sym n.0)))))
      (λ old. all k z old) (set_cases tokens i u z k e)

  -- a queue and its pass more
  pub fits_more : (queues queues' : List (MailQueue J)) (tokens tokens' : List (MailToken J)) (n : ℕ) (q : MailQueue J) (t : MailToken J) → queues' ≡ queues ++ q ∷ [] → tokens' ≡ tokens ++ t ∷ []
      → length queues ≡ n → length tokens ≡ n → IsTokenOf q t → t.library ≡ n + 1 → AreFor queues tokens → AreFor queues' tokens'
  fits_more queues queues' tokens tokens' n q t is is' long long' id lib all k z e = ⊎_elim
      (λ old. let a = all k z old in (a.0, ap (λ l. slice_get l k) is ∙ get_front queues (q ∷ []) k a.0 a.1, a.2, a.3))
      (λ (new : (k ≡ length tokens) × (t ≡ z)). (
        q,
        ap (λ l. slice_get l k) is ∙ (ap (slice_get (queues ++ q ∷ [])) (new.0 ∙ (long' ∙ sym long)) ∙ get_last queues q),
        ap (λ (y : MailToken J). y.token.table_id) (sym new.1) ∙ id,
        ap (λ (y : MailToken J). y.library) (sym new.1) ∙ (lib ∙ ap (λ j. j + 1) (sym (new.0 ∙ long'))),
      ))
      (push_cases tokens t z k (ap (λ l. slice_get l k) (sym is') ∙ e))

  -- a pass more
  pub fits_copy : (queues : List (MailQueue J)) (tokens tokens' : List (MailToken J)) (n : ℕ) (q : MailQueue J) (t : MailToken J) → tokens' ≡ tokens ++ t ∷ []
      → length tokens ≡ n → slice_get queues n ≡ Some q → IsTokenOf q t → t.library ≡ n + 1 → AreFor queues tokens → AreFor queues tokens'
  fits_copy queues tokens tokens' n q t is long there id lib all k z e = ⊎_elim (λ old. all k z old)
      (λ (new : (k ≡ length tokens) × (t ≡ z)). (
        q,
        ap (slice_get queues) (new.0 ∙ long) ∙ there,
        ap (λ (y : MailToken J). y.token.table_id) (sym new.1) ∙ id,
        ap (λ (y : MailToken J). y.library) (sym new.1) ∙ (lib ∙ ap (λ j. j + 1) (sym (new.0 ∙ long))),
      ))
      (push_cases tokens t z k (ap (λ l. slice_get l k) (sym is) ∙ e))

  pub pass_more : (m : Mails J) (ps more : List (MailPass J)) (p : MailPass J) → more ≡ ps ++ p ∷ [] → AllFor m ps → IsForMails m p → AllFor m more
  pass_more m ps more p is all new k u e = ⊎_elim (λ was. all k u was) (λ (t : (k ≡ length ps) × (p ≡ u)). subst (IsForMails m) t.1 new) (push_cases ps p u k (ap (λ l. slice_get l k) (sym is) ∙ e))
