-- Each open hold told the directory that the row of its file still names: so it is after every step.
use Rattle.trio_ctl.proofs.Words.{◌&&◌, ◌++◌, ◌<◌, ◌==◌, ◌∙◌, ◌∷◌, ◌≡◌, ◌⊎◌, Allot, AreAsTold, Back, Bundle, Checkpointed, CtlAnswer, Ends, Event, GivenEvent, GivenTo, Grant, GrantFault, GrantKind, Hold, HoldsAreTold, Image, In, In-cases, In-map, IsAccepted, IsRefused, IsSomeAnd, Kept, List, ModeFault, None, OpenGrant, Option, Parted, Read, Release, Row, Settle, Some, State, Step, Write, [], after_allot, after_no_grant, after_no_mode, ap, cases_eq, cases_lt, creds_of, false, false≢true, filter-In, get_or, get_or-set_other, get_or-set_same, grant_fault, granted_to, grants_after, image_with_mode, inl, inr, is_accepted, is_in_bundle, is_read, is_some, length, lent_part, map, map-In, mode_fault, moded_to, next, not, not-true, opened, proposed, proposed_pick, refl, refused_image, row_at, row_in, row_with_mode, settled, slice_set, subst, sym, true, with_checkpoint, without_checkpoint, ℕ}
use Rattle.std.proofs.lemmas.List.{get_or_past}
use Rattle.trio_surveys.proofs.Images.{row_at_is}
use Rattle.trio_state.specs.Grants.{told_parent}
use Rattle.trio_state.specs.Step.{SetMode}
use Rattle.trio_laws.proofs.Bundles.{outside_unheld}
use Rattle.trio_laws.proofs.Survivors.{fit_now, sound_now, unheld_row}

-- a grant told the directory that the row of its file names
abbrev IsTold : List (Option Row) → OpenGrant → Type 0
IsTold rows g = IsSomeAnd (row_in rows g.ino) (λ r. g.parent ≡ r.parent)

-- a row that is there
row_there : (o : Option Row) → is_some o ≡ true → (r : Row) × (o ≡ Some r)
row_there None e = absurd (false≢true e)
row_there (Some r) e = (r, refl)

row_within : (rows : List (Option Row)) (n : ℕ) (r : Row) → get_or rows n None ≡ Some r → n < length rows
row_within rows n r e =
    elim (cases_lt n (length rows)) [
      | inl l ↦ l
      | inr past ↦ (let wrong : None ≡ Some r = sym (get_or_past rows n None past) ∙ e in absurd (cc wrong))
    ]

-- holds that stood before, but for their checkpoints, and whose rows stand
pub told_still : (rows rows' : List (Option Row)) (gs gs' : List OpenGrant) → HoldsAreTold rows gs
    → ((g : OpenGrant) → In g gs' → g.kind ≡ Hold → (h : OpenGrant) × In h gs × (without_checkpoint g ≡ without_checkpoint h) × (row_in rows h.ino ≡ row_in rows' h.ino))
    → HoldsAreTold rows' gs'
told_still rows rows' gs gs' told from g i hold =
    let f = from g i hold in
    let at : IsTold rows f.0 = told f.0 f.1 (sym (ap (λ (x : OpenGrant). x.kind) f.2) ∙ hold) in
    let there : IsTold rows' f.0 = subst (λ (o : Option Row). IsSomeAnd o (λ r. f.0.parent ≡ r.parent)) f.3 at in
    subst (IsTold rows') (sym f.2) there

-- checkpoints don't count
pub told_open : (rows : List (Option Row)) (cs : List (Option Checkpointed)) (gs : List OpenGrant) → HoldsAreTold rows gs → HoldsAreTold rows (map (with_checkpoint cs) gs)
told_open rows cs gs told =
    told_still rows rows gs (map (with_checkpoint cs) gs) told
    (λ g i hold. let m = map-In (with_checkpoint cs) g gs i in (m.0, m.1, ap without_checkpoint m.2, refl))

pub told_kept : (rows : List (Option Row)) (cs : List (Option Checkpointed)) (gs : List OpenGrant) → HoldsAreTold rows (map (with_checkpoint cs) gs) → HoldsAreTold rows gs
told_kept rows cs gs told g i hold = told (with_checkpoint cs g) (In-map (with_checkpoint cs) g gs i) hold

-- one grant more
pub told_more : (rows : List (Option Row)) (gs : List OpenGrant) (g : OpenGrant) → HoldsAreTold rows gs → (g.kind ≡ Hold → IsTold rows g) → HoldsAreTold rows (gs ++ g ∷ [])
told_more rows gs g told new h i hold =
    elim (In-cases h gs (g ∷ []) i) [
      | inl old ↦ told h old hold
      | inr one ↦ elim one [
        | inl same ↦ subst (IsTold rows) (sym same) (new (ap (λ (x : OpenGrant). x.kind) (sym same) ∙ hold))
        | inr none ↦ absurd none
      ]
    ]

-- what a grant of a file tells, if it is a hold
pub parent_told : (r : Row) (kind : GrantKind) → kind ≡ Hold → told_parent r kind ≡ r.parent
parent_told r Hold e = refl
parent_told r Read e = absurd cc
parent_told r Write e = absurd cc

-- another mode leaves what a row names
pub told_moded : (image : Image) (ino mode : ℕ) (gs : List OpenGrant) → HoldsAreTold image.rows gs → HoldsAreTold (image_with_mode image ino mode).rows gs
told_moded image ino mode gs told g i hold = by (cases_eq g.ino ino)
  where
    rows : List (Option Row)
    rows = slice_set image.rows ino (row_with_mode mode (row_at image ino))

    moded : (o : Option Row) → IsSomeAnd o (λ r. g.parent ≡ r.parent) → IsSomeAnd (row_with_mode mode o) (λ r. g.parent ≡ r.parent)
    moded None t = t
    moded (Some r) t = t

    by : (g.ino ≡ ino) ⊎ (g.ino ≡ ino → ⊥) → IsTold rows g
    by (inr other) = subst (λ (o : Option Row). IsSomeAnd o (λ r. g.parent ≡ r.parent)) (sym (get_or-set_other image.rows ino g.ino (row_with_mode mode (row_at image ino)) None other)) (told g i hold)
    by (inl same) = within (row_at image ino) refl
      where
        was : IsSomeAnd (row_at image ino) (λ r. g.parent ≡ r.parent)
        was = subst (λ n. IsSomeAnd (row_at image n) (λ r. g.parent ≡ r.parent)) same (told g i hold)

        within : (o : Option Row) → row_at image ino ≡ o → IsTold rows g
        within None e = absurd (subst (λ (o : Option Row). IsSomeAnd o (λ r. g.parent ≡ r.parent)) e was)
        within (Some q) e =
            let now : row_in rows g.ino ≡ row_with_mode mode (row_at image ino) = ap (row_in rows) same ∙ get_or-set_same image.rows ino (row_with_mode mode (row_at image ino)) None (row_within image.rows ino q e) in
            subst (λ (o : Option Row). IsSomeAnd o (λ r. g.parent ≡ r.parent)) (sym now) (moded (row_at image ino) was)

-- ---- the end of a bundle

module _ (s s' : State) (k : Kept s) (lib : ℕ) (b : Bundle) (told : AreAsTold s) where
  -- where the rows of the grants that stay do
  ended_told : (image : Image) → Ends s lib b image s'
      → ((g : OpenGrant) → In g s.open_grants → is_in_bundle lib b g ≡ false → (r : Row) → row_at s.home g.ino ≡ Some r → row_at s'.home g.ino ≡ Some r)
      → AreAsTold s'
  ended_told image e rows =
      told_still s.home.rows s'.home.rows s.open_grants s'.open_grants told
      (λ g i hold.
      let m = map-In lent_part (lent_part g) (grants_after s lib b) (subst (In (lent_part g)) e.grants (In-map lent_part g s'.open_grants i)) in
      let stays = filter-In (λ (h : OpenGrant). not (is_in_bundle lib b h)) m.0 s.open_grants m.1 in
      let row = row_there (row_at s.home m.0.ino) (k.live m.0 stays.0) in
      (m.0, stays.0, ap without_checkpoint m.2, row.1 ∙ sym (rows m.0 stays.0 (not-true (is_in_bundle lib b m.0) stays.1) row.0 row.1)))

  pub refused_told : Ends s lib b (refused_image (settled s) b) s' → AreAsTold s'
  refused_told e = ended_told (refused_image (settled s) b) e (λ g i out r row. ap (λ (x : Image). row_at x g.ino) e.settles ∙ row)

  pub accepted_told : GivenTo s lib b → is_accepted (settled s) (creds_of s lib) b ≡ true → Ends s lib b (next (settled s) b) s' → AreAsTold s'
  accepted_told given accepted e =
      ended_told (next (settled s) b) e
      (λ g i out r row.
      ap (λ (x : Image). row_at x g.ino) e.settles
      ∙ row_at_is (proposed (settled s) b) (proposed_pick (settled s) b) (fit_now s k lib (creds_of s lib) b given accepted) (sound_now s k lib (creds_of s lib) b given accepted) (next (settled s) b) (record { rows = refl; owners = refl }) g.ino
      ∙ unheld_row s k lib (creds_of s lib) b given accepted g.ino r row (outside_unheld s k lib b given g i out))

-- ---- every step

module _ (s : State) (told : AreAsTold s) where
  granted_told : (lib ino : ℕ) (kind : GrantKind) (fault : Option GrantFault) (row : Option Row) → row_at s.home ino ≡ row → AreAsTold (granted_to s lib ino kind fault row).after
  granted_told lib ino kind (Some f) row at = after_no_grant AreAsTold s f told told
  granted_told lib ino kind None None at = told
  granted_told lib ino kind None (Some r) at =
      let g : OpenGrant = opened s lib ino kind r in
      told_more s.home.rows s.open_grants g told
      (λ hold. subst (λ (o : Option Row). IsSomeAnd o (λ q. g.parent ≡ q.parent)) (sym at) (parent_told r kind hold))

  moded_told : (ino mode : ℕ) (fault : Option ModeFault) → AreAsTold (moded_to s ino mode fault).after
  moded_told ino mode (Some f) = after_no_mode AreAsTold s f told told
  moded_told ino mode None = told_moded s.home ino mode s.open_grants told

  pub step_told : (event : Event) (answer : CtlAnswer) (s' : State) → Kept s → GivenEvent s event → Step s event answer s' → AreAsTold s'
  step_told event answer s' k given (inr none) = subst AreAsTold (sym none.2) told
  step_told (Grant lib ino kind) answer s' k given (inl does) =
      subst AreAsTold (sym does.1) (granted_told lib ino kind (grant_fault s lib ino kind) (row_at s.home ino) refl)
  step_told (Allot lib count many) answer s' k given (inl does) = subst AreAsTold (sym does.1) (after_allot AreAsTold s lib count many told told)
  step_told (Back lib ino) answer s' k given (inl does) =
      subst AreAsTold (sym does.1)
      (λ g i hold. told g (filter-In (λ (g : OpenGrant). not (g.lib == lib && g.ino == ino && is_read g.kind)) g s.open_grants i).0 hold)
  step_told (Release lib b) answer s' k given (inl (Parted n some e same)) = subst AreAsTold (sym same) told
  step_told (Release lib b) answer s' k given (inl (IsAccepted closed t e ends)) = accepted_told s s' k lib b told given t ends
  step_told (Release lib b) answer s' k given (inl (IsRefused closed f why e tells ends)) = refused_told s s' k lib b told ends
  step_told (Settle lib b) answer s' k given (inl does) = accepted_told s s' k lib b told given.0 does.2 does.3
  step_told (SetMode lib ino mode) answer s' k given (inl does) =
      subst AreAsTold (sym does.1) (moded_told ino mode (mode_fault s lib ino mode (row_at s.home ino)))
