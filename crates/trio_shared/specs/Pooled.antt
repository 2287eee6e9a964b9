-- What a release that a pool judges does with its library's pass.
use Rattle.std.specs.Prelude.{◌≡◌, ◌⊎◌, ◌++◌, ◌∷◌, [], None}
use Rattle.trio_lease.specs.Views.{bundle_in}
use Rattle.trio_desk.specs.Call.{Ask, Told, Release, Judged}
use Rattle.trio_desk.specs.Out.{parcel_of}
use Rattle.trio_case.specs.Cases.{CaseShown}
use Rattle.trio_state.specs.Bundles.{parted_hold}
use Rattle.trio_ctl.specs.Pending.{case_made}
use Rattle.trio_pool.specs.Jobs.{case_count, case_job}
use Rattle.trio_pool.specs.Passes.{IsSamePass, count_up, fulls, number, sent, took}
use Rattle.trio_pool.specs.declared.pass.PoolPass.{PoolPass}
use Rattle.trio_shared.specs.Turns.{Looks, Seated}

-- a turn of the seat took this case's bundle in, which is closed, and made the case of it
abbrev pub WasBegun : Seated → CaseShown → Type 0
WasBegun old k = (new : Seated) × Looks old (λ s. (parted_hold s old.lib.0 (bundle_in k.bundle) ≡ None) × (k ≡ case_made s old.lib k.bundle)) new

-- the pass submitted this case; or it came back as full, and the count of such cases rose or stands at its last value
abbrev pub Submits : PoolPass CaseShown → CaseShown → PoolPass CaseShown → Type 0
Submits old k new = (sent new ≡ sent old ++ case_job (number old) (case_count (sent old)) k ∷ []) ⊎ (fulls new ≡ count_up (fulls old))

-- A release that is judged submits the case that its beginning made, and takes nothing by the pass. Any other call leaves the pass.
abbrev pub UsesPass : Seated → Ask → Told → PoolPass CaseShown → PoolPass CaseShown → Type 0
UsesPass seat (Release parcel) (Judged answer) old new =
    IsSamePass old new × (took new ≡ took old) × (k : CaseShown) × (parcel_of k.bundle ≡ parcel) × WasBegun seat k × Submits old k new
UsesPass seat ask told old new = new ≡ old
