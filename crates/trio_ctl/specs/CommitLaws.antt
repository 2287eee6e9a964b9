-- The law that an accepted bundle which is put in place gives the next image.
use Rattle.std.specs.Prelude.{ℕ, ◌+◌, List, IsTrue}
use Rattle.trio_rights.specs.Bundle.{Bundle}
use Rattle.trio_rights.specs.declared.rights.Creds.{Creds}
use Rattle.trio_rights.specs.declared.rights.LibNo.{LibNo}
use Rattle.trio_layout.specs.Accept.{is_accepted, next}
use Rattle.trio_layout.specs.Listing.{listing}
use Rattle.trio_state.specs.Bundles.{Ends}
use Rattle.trio_state.specs.State.{OpenGrant, State, creds_of, settled}
use Rattle.trio_state.specs.Tells.{case_in}
use Rattle.trio_laws.specs.RuleLaws.{IsJudgeable}
use Rattle.trio_commit.specs.Commits.{Commits}
use Rattle.trio_commit.specs.Store.{state_of}
use Rattle.trio_commit.specs.declared.store.Store.{Store}
use Rattle.trio_ctl.specs.Stored.{IsStored, grants_staying}

-- a bundle that the library was given and that is closed is accepted in this state
abbrev pub IsAcceptedIn : State → ℕ → Bundle → Type 0
IsAcceptedIn st lib b = IsJudgeable st lib b × IsTrue (is_accepted (settled st) (creds_of st lib) b)

-- The store is kept with these open grants and credentials, the bundle is accepted in its state, and the listing is the judge's. Then
-- what `commit` says of the store after it comes to this: the next image is settled, the bundle's grants and allotments have ended,
-- and the store is kept with the other grants.
abbrev pub CommitIsNext : Type 0
CommitIsNext =
    (s s' : Store) (first_core : ℕ) (grants : List OpenGrant) (creds : List Creds) (entries : ℕ) (lib : LibNo) (b : Bundle)
    → IsStored s first_core grants creds entries
    → IsAcceptedIn (state_of s first_core grants creds entries) lib.0 b
    → Commits s s' b (listing (case_in (state_of s first_core grants creds entries) lib.0 b))
    → Ends (state_of s first_core grants creds entries) lib.0 b (next (settled (state_of s first_core grants creds entries)) b)
    (state_of s' first_core (grants_staying lib.0 b grants) creds (entries + 1))
    × IsStored s' first_core (grants_staying lib.0 b grants) creds (entries + 1)
