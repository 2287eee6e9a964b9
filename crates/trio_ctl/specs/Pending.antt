-- What is seen of a release between its beginning and its end.
use Rattle.std.specs.Prelude.{◌≡◌, map}
use Rattle.trio_rights.specs.declared.rights.LibNo.{LibNo}
use Rattle.trio_lease.specs.Bundles.{Bundled}
use Rattle.trio_lease.specs.Shown.{all_touched}
use Rattle.trio_lease.specs.Views.{bundle_in}
use Rattle.trio_layout.specs.Case.{Case}
use Rattle.trio_layout.specs.Copied.{copied_rows}
use Rattle.trio_case.specs.Cases.{CaseShown, case_in}
use Rattle.trio_judge.specs.Verdicts.{HasFewEntries, HasListing, IsLowest, is_sound, meets_three}
use Rattle.trio_judge.specs.declared.verdict.Verdict.{Verdict}
use Rattle.trio_state.specs.Moves.{IsFull}
use Rattle.trio_state.specs.State.{State, creds_of}

-- a case, and what the judge says of it
pub record JudgedCase : Type 0 where
  pub case : CaseShown
  pub verdict : Verdict

-- The case of a library's bundle: the rows that are copied of this state, the library's credentials, the core range and the count of
-- inode numbers.
abbrev pub case_made : State → LibNo → Bundled → CaseShown
case_made s lib b = record {
  lib = lib;
  bundle = b;
  rows = copied_rows (bundle_in b) s.home.rows;
  creds = creds_of s lib.0;
  range = s.home.core.range;
  inodes = s.home.core.inodes;
}

-- the case with each lent block of its bundle marked as touched
abbrev pub all_marked : CaseShown → CaseShown
all_marked k = record k { bundle = record k.bundle { writes = map all_touched k.bundle.writes } }

-- what the judge says of a case: whether it meets I1, I2 and I4, the lowest of them that fails, and the listing
pub record IsVerdict (c : Case) (v : Verdict) : Type 0 where
  pub sound : is_sound v ≡ meets_three c
  pub lowest : IsLowest c v
  pub listed : HasListing c v

-- The verdict is the judge's of just this case, and what it lists is no more than the bundle's pages can name; each of these pages
-- has 4096 bytes.
pub record IsWeighed (j : JudgedCase) : Type 0 where
  pub verdict : IsVerdict (case_in j.case) j.verdict
  pub few : HasFewEntries (case_in j.case) j.verdict
  pub full : IsFull (bundle_in j.case.bundle)
