-- The lowest hold that is parted, by the open grants and in the state of the controller.
use Rattle.trio_ctl.proofs.Words.{if◌then◌else◌, ◌∷◌, ◌≡◌, Bool, Bundle, Creds, List, OpenGrant, Opened, State, Store, [], ap, false, filter, grants_in, is_parted, lowest, lowest_parted, map, parted_hold, refl, state_of, true, with_checkpoint, ℕ}
use Rattle.trio_open.specs.inner.Parting.{is_parted_by}

module _ (s : Store) (first : ℕ) (files : List Opened) (creds : List Creds) (entries lib : ℕ) (b : Bundle) where
  abbrev st : State
  st = state_of s first (grants_in files) creds entries

  abbrev parted_files : List Opened → List Opened
  parted_files os = filter (λ (o : Opened). is_parted_by s.rows lib b o.grant) os

  abbrev parted_grants : List Opened → List OpenGrant
  parted_grants os = filter (is_parted st lib b) (map (with_checkpoint s.checkpoints.items) (grants_in os))

  same_numbers : (os : List Opened) → map (λ (o : Opened). o.grant.ino) (parted_files os) ≡ map (λ (g : OpenGrant). g.ino) (parted_grants os)
  same_numbers [] = refl
  same_numbers (o ∷ os) = by (is_parted_by s.rows lib b o.grant) (same_numbers os)
    where
      by : (t : Bool) → map (λ (o : Opened). o.grant.ino) (parted_files os) ≡ map (λ (g : OpenGrant). g.ino) (parted_grants os)
          → map (λ (o : Opened). o.grant.ino) (if t then o ∷ parted_files os else parted_files os) ≡ map (λ (g : OpenGrant). g.ino) (if t then with_checkpoint s.checkpoints.items o.grant ∷ parted_grants os else parted_grants os)
      by true again = ap (λ ns. o.grant.ino ∷ ns) again
      by false again = again

  pub parted_is : lowest_parted s.rows lib b files ≡ parted_hold (state_of s first (grants_in files) creds entries) lib b
  parted_is = ap lowest (same_numbers files)
