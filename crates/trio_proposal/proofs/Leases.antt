-- The first lease on each file.
use Rattle.trio_proposal.proofs.Words.{◌++◌, ◌<◌, ◌∙◌, ◌∷◌, ◌≡◌, AreLentBodies, LentFile, List, None, Option, Some, [], ap, cases_eq, eq-eqb, eqb, false, false≢true, find, get_or, inl, inr, is_some, length, lent_body, ne_eqb, option_map, refl, set, subst, sym, true, ℕ}
use Rattle.std.specs.Option.{option_or}
use Rattle.std.proofs.lemmas.List.{length-set, get_or-set_same, get_or-set_other}
use Rattle.std.proofs.lemmas.List.Folds.{find-append}

abbrev first : List LentFile → ℕ → Option LentFile
first leases n = find (λ (f : LentFile). eqb f.stands.ino n) leases

-- a lease on another file
lent_other : (leases : List LentFile) (x : LentFile) (n : ℕ) → eqb x.stands.ino n ≡ false → lent_body (leases ++ x ∷ []) n ≡ lent_body leases n
lent_other leases x n e =
    ap (option_map (λ (f : LentFile). f.stands.body)) (find-append (λ (f : LentFile). eqb f.stands.ino n) leases (x ∷ []) ∙ by (first leases n))
  where
    by : (o : Option LentFile) → option_or o (first (x ∷ []) n) ≡ o
    by None = rw e refl
    by (Some f) = refl

-- a file that has a lease already
lent_twice : (leases : List LentFile) (x : LentFile) (n : ℕ) → is_some (lent_body leases n) ≡ true → lent_body (leases ++ x ∷ []) n ≡ lent_body leases n
lent_twice leases x n some =
    ap (option_map (λ (f : LentFile). f.stands.body)) (find-append (λ (f : LentFile). eqb f.stands.ino n) leases (x ∷ []) ∙ by (first leases n) some)
  where
    by : (o : Option LentFile) → is_some (option_map (λ (f : LentFile). f.stands.body) o) ≡ true → option_or o (first (x ∷ []) n) ≡ o
    by None s = absurd (false≢true s)
    by (Some f) s = refl

-- the first lease on a file
lent_first : (leases : List LentFile) (x : LentFile) (n : ℕ) → lent_body leases n ≡ None → eqb x.stands.ino n ≡ true → lent_body (leases ++ x ∷ []) n ≡ Some x.stands.body
lent_first leases x n none e =
    ap (option_map (λ (f : LentFile). f.stands.body)) (find-append (λ (f : LentFile). eqb f.stands.ino n) leases (x ∷ [])) ∙ by (first leases n) none
  where
    by : (o : Option LentFile) → option_map (λ (f : LentFile). f.stands.body) o ≡ None → option_map (λ (f : LentFile). f.stands.body) (option_or o (first (x ∷ []) n)) ≡ Some x.stands.body
    by None s = rw e refl
    by (Some f) s = absurd cc

pub lent_new : (leases : List LentFile) (bodies : List (Option (List ℕ))) (x : LentFile) → AreLentBodies leases bodies → x.stands.ino < length bodies → get_or bodies x.stands.ino None ≡ None → AreLentBodies (leases ++ x ∷ []) (set bodies x.stands.ino (Some x.stands.body))
lent_new leases bodies x h below none n l =
    let at : ℕ = x.stands.ino in
    let l' : n < length bodies = subst (λ m. n < m) (length-set bodies at (Some x.stands.body)) l in
    elim (cases_eq n at) [
      | inl same ↦
          ap (λ k. get_or (set bodies at (Some x.stands.body)) k None) same
          ∙ get_or-set_same bodies at (Some x.stands.body) None below
          ∙ sym (lent_first leases x n (sym (h n l') ∙ ap (λ k. get_or bodies k None) same ∙ none) (eq-eqb at n (sym same)))
      | inr differ ↦
          get_or-set_other bodies at n (Some x.stands.body) None differ
          ∙ h n l'
          ∙ sym (lent_other leases x n (ne_eqb at n (λ e. differ (sym e))))
    ]

pub lent_again : (leases : List LentFile) (bodies : List (Option (List ℕ))) (x : LentFile) → AreLentBodies leases bodies → (x.stands.ino < length bodies → is_some (get_or bodies x.stands.ino None) ≡ true) → AreLentBodies (leases ++ x ∷ []) bodies
lent_again leases bodies x h some n l =
    let at : ℕ = x.stands.ino in
    elim (cases_eq n at) [
      | inl same ↦
          let below : at < length bodies = subst (λ k. k < length bodies) same l in
          h n l ∙ sym (lent_twice leases x n (ap is_some (sym (h n l) ∙ ap (λ k. get_or bodies k None) same) ∙ some below))
      | inr differ ↦ h n l ∙ sym (lent_other leases x n (ne_eqb at n (λ e. differ (sym e))))
    ]

pub some_none : {X : Type 0} (o : Option X) → is_some o ≡ false → o ≡ None
some_none None e = refl
some_none (Some x) e = absurd (false≢true (sym e))
