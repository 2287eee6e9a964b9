-- What the steps owe, of a view with one account.
use Rattle.trio_pool.proofs.Words.{Account, Emptied, HasAll, IsNamed, Job, Kept, List, Pops, Pushes, Put, Took, View, [], ap, arith, case_count, length, own_number, own_sent, refl, subst, ℕ, ◌<◌, ◌∙◌, ◌∷◌, ◌≡◌}
use Rattle.trio_pool.proofs.Keeps.{puts, takes}
use Rattle.trio_pool.proofs.Whole.{empties}

module _ {C : Type 0} where
  pub one_account : (hs : List (Account C)) → length hs ≡ 1 → (h : Account C) × (hs ≡ h ∷ [])
  one_account [] e = absurd (omega arith)
  one_account (h ∷ []) e = (h, refl)
  one_account (h ∷ g ∷ hs) e = absurd (omega arith)

  pub some_account : (hs : List (Account C)) → 0 < length hs → (h : Account C) × (gs : List (Account C)) × (hs ≡ h ∷ gs)
  some_account [] e = absurd (omega arith)
  some_account (h ∷ hs) e = (h, hs, refl)

  pub may_put : (n id : ℕ) (v : View C) (x : Job C) → length v.accounts ≡ 1 → x.by ≡ own_number v.accounts → IsNamed (case_count (own_sent v.accounts)) x.work → Pushes Kept n id v x (Put v x)
  may_put n id v x one by named = let o = one_account v.accounts one in
      puts n id v x o.0 o.1 (by ∙ ap own_number o.1) (subst (λ hs. IsNamed (case_count (own_sent hs)) x.work) o.1 named)

  pub may_take : (id : ℕ) (v : View C) → length v.accounts ≡ 1 → Pops Kept id v (Took v)
  may_take id v one = let o = one_account v.accounts one in takes id v o.0 [] o.1

  pub may_empty : (id : ℕ) (v : View C) → 0 < length v.accounts → HasAll v → Pops Kept id v (Emptied v)
  may_empty id v some all = let o = some_account v.accounts some in empties id v o.0 o.1 o.2 all
