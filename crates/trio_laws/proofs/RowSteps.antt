-- What every step leaves of the row of a live number.
use Rattle.trio_laws.proofs.Words.{◌<◌, ◌∙◌, ◌≡◌, Allot, Back, Bundle, CtlAnswer, Ends, GivenTo, Grant, GrantFault, GrantKind, Image, In, In-is_among, Kept, List, ModeFault, None, Option, Release, ReleaseEnd, Row, SetMode, Settle, Some, State, allot_outcome, ap, arith, both_ways, cases_Bool, cases_eq, cases_lt, creds_of, get_or, get_or-set_other, get_or-set_same, get_or_past, grant_fault, granted_to, inl, inr, is_accepted, is_among, is_among-In, length, mode_fault, moded_to, next, proposed, proposed_pick, refl, row_at, row_at_is, row_of, settled, subst, survey, sym, true, ℕ}
use Rattle.trio_laws.specs.Laws.{HasRightsOf, RowGoes, EveryStepKeepsRows}
use Rattle.trio_laws.proofs.Cases.{after_allot, after_no_grant, after_no_mode}
use Rattle.trio_laws.proofs.Survivors.{fit_now, sound_now, unheld_row, held_rights}
use Rattle.trio_laws.proofs.Modes.{may_change}

row_within : (rows : List (Option Row)) (n : ℕ) (r : Row) → get_or rows n None ≡ Some r → n < length rows
row_within rows n r e = search (arith, cases_lt, get_or_past)

module _ (s : State) (n : ℕ) (r : Row) (row : row_at s.home n ≡ Some r) where
  abbrev Same : State → Type 0
  Same x = row_at x.home n ≡ Some r

  grant_row : (lib ino : ℕ) (kind : GrantKind) (f : Option GrantFault) (o : Option Row) → row_at (granted_to s lib ino kind f o).after.home n ≡ Some r
  grant_row lib ino kind f o = search (arith, after_no_grant)

  allot_row : (lib count many : ℕ) → row_at (allot_outcome s lib count many).after.home n ≡ Some r
  allot_row lib count many = after_allot Same s lib count many row row

  mode_row : (lib ino mode : ℕ) (o : Option Row) (f : Option ModeFault) → row_at s.home ino ≡ o → mode_fault s lib ino mode o ≡ f → RowGoes s (SetMode lib ino mode) n r (row_at (moded_to s ino mode f).after.home n)
  mode_row lib ino mode o f at e = search (arith, after_no_mode, cases_eq, get_or-set_other, may_change, get_or-set_same, row_within)

  module _ (k : Kept s) (lib : ℕ) where
    accepted_row : (s' : State) (b : Bundle) (given : GivenTo s lib b) → is_accepted (settled s) (creds_of s lib) b ≡ true → Ends s lib b (next (settled s) b) s' → RowGoes s (Release lib b) n r (row_at s'.home n)
    accepted_row s' b given accepted e =
        let files : Option Row = row_of (proposed (settled s) b) (survey (proposed (settled s) b) (proposed_pick (settled s) b)) n in
        let home : row_at s'.home n ≡ files =
        ap (λ (i : Image). row_at i n) e.settles
        ∙ row_at_is (proposed (settled s) b) (proposed_pick (settled s) b) (fit_now s k lib (creds_of s lib) b given accepted) (sound_now s k lib (creds_of s lib) b given accepted) (next (settled s) b) (record { rows = refl; owners = refl }) n in
        elim (cases_Bool (is_among n b.holds)) [
          | inr free ↦ inl (home ∙ unheld_row s k lib (creds_of s lib) b given accepted n r row (λ j. both_ways (is_among n b.holds) free (In-is_among n b.holds j)))
          | inl held ↦
              let j = is_among-In n b.holds held in
              let rights : (o : Option Row) → files ≡ o → HasRightsOf r o = by_row b given accepted j in
              inr (inl (given.holds n j, subst (λ o. HasRightsOf r o) (sym home) (rights files refl)))
        ]
      where
        by_row : (b : Bundle) (given : GivenTo s lib b) (accepted : is_accepted (settled s) (creds_of s lib) b ≡ true) → In n b.holds → (o : Option Row) → row_of (proposed (settled s) b) (survey (proposed (settled s) b) (proposed_pick (settled s) b)) n ≡ o → HasRightsOf r o
        by_row b given accepted j None e = tt
        by_row b given accepted j (Some q) e = held_rights s k lib (creds_of s lib) b given accepted n r q j row e

    release_row : (s' : State) (b : Bundle) (answer : CtlAnswer) → GivenTo s lib b → ReleaseEnd s lib b answer s' → RowGoes s (Release lib b) n r (row_at s'.home n)
    release_row s' b answer given h = search (arith, accepted_row)

-- each step leaves a live number its row, but for what a hold or a change of mode lets happen to it
pub every_step_keeps_rows : EveryStepKeepsRows
every_step_keeps_rows s event answer s' n r k given (inr none) row = inl (ap (λ (x : State). row_at x.home n) none.2 ∙ row)
every_step_keeps_rows s (Grant lib ino kind) answer s' n r k given (inl does) row =
    inl (ap (λ (x : State). row_at x.home n) does.1 ∙ grant_row s n r row lib ino kind (grant_fault s lib ino kind) (row_at s.home ino))
every_step_keeps_rows s (Allot lib count many) answer s' n r k given (inl does) row =
    inl (ap (λ (x : State). row_at x.home n) does.1 ∙ allot_row s n r row lib count many)
every_step_keeps_rows s (Back lib ino) answer s' n r k given (inl does) row = inl (ap (λ (x : State). row_at x.home n) does.1 ∙ row)
every_step_keeps_rows s (Release lib b) answer s' n r k given (inl does) row = release_row s n r row k lib s' b answer given does
every_step_keeps_rows s (Settle lib b) answer s' n r k given (inl does) row = search (arith, grant_row, allot_row, release_row, accepted_row, mode_row)
every_step_keeps_rows s (SetMode lib ino mode) answer s' n r k given (inl does) row =
    let G : State → Type 0 = λ x. RowGoes s (SetMode lib ino mode) n r (row_at x.home n) in
    subst G (sym does.1) (mode_row s n r row lib ino mode (row_at s.home ino) (mode_fault s lib ino mode (row_at s.home ino)) refl refl)
