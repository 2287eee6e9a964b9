-- What comes of a library's doings, by what its desk told it: what the library is answered, and what it has then.
use Rattle.std.specs.Prelude.{◌≡◌, ◌⊎◌, ℕ, List, [], ◌∷◌, ◌++◌, IsTrue, IsFalse, IsErr, Option, Some, None, Result, Ok, Err, MatchOption}
use Rattle.trio_rights.specs.declared.rights.LibNo.{LibNo}
use Rattle.trio_nodes.specs.declared.answers.GrantFault.{GrantFault}
use Rattle.trio_nodes.specs.declared.answers.GrantFault.TheVariants.{NoMemory as NoGrantMemory}
use Rattle.trio_nodes.specs.declared.answers.AllotFault.{AllotFault}
use Rattle.trio_nodes.specs.declared.answers.AllotFault.TheVariants.{NoPages, NoInodes, NoMemory as NoAllotMemory}
use Rattle.trio_nodes.specs.declared.answers.ReleaseAnswer.{ReleaseAnswer}
use Rattle.trio_nodes.specs.declared.answers.ReleaseFault.{ReleaseFault}
use Rattle.trio_nodes.specs.declared.answers.ReleaseFault.TheVariants.{NotClosed as NotClosedParcel, NoMemory as NoReleaseMemory}
use Rattle.trio_nodes.specs.declared.answers.ModeFault.{ModeFault}
use Rattle.trio_nodes.specs.declared.entry.AllotAnswer.{AllotAnswer}
use Rattle.trio_nodes.specs.declared.entry.AllotAnswer.TheVariants.{Given as GivenAnswer, Refused as RefusedAnswer}
use Rattle.trio_lease.specs.Shown.{Shown}
use Rattle.trio_lease.specs.declared.lease.Lease.{Lease}
use Rattle.trio_lease.specs.declared.lease.Lease.TheVariants.{Write, Read, Hold}
use Rattle.trio_desk.specs.Call.{Ask, GiveBack, Release, Told, Lent, NotLent, Given, NotGiven, Done, Judged, NotJudged, ModeSet, NotModeSet}
use Rattle.trio_desk.specs.Calls.{Call, OneCall}
use Rattle.trio_raw.specs.Has.{Has, keeps_lease, keeps_allotted, has_all_of, parcel_named, rest_of, with_parcel, whole_parcel, read_on, without_read}
use Rattle.trio_raw.specs.declared.raw.RawFault.{RawFault}
use Rattle.trio_raw.specs.declared.raw.RawFault.TheVariants.{Absent, NotClosed, NoMemory}

-- how many children a lease tells: a hold those of its file, and no other lease any
abbrev pub children_in : Lease → ℕ
children_in (Write f) = 0
children_in (Read r) = 0
children_in (Hold h) = h.children

-- after a grant: the lease is kept
abbrev pub AfterGrant : Has → Result ℕ GrantFault → Has → Told → Type 0
AfterGrant has result has' (Lent lease) = (result ≡ Ok (children_in lease)) × (has' ≡ keeps_lease has lease)
AfterGrant has result has' (NotLent fault) = (result ≡ Err fault) × (has' ≡ has)
AfterGrant has result has' told = ⊥

-- no grant was asked, for want of memory
abbrev pub NoGrant : Has → Result ℕ GrantFault → Has → Type 0
NoGrant has result has' = (result ≡ Err NoGrantMemory) × (has' ≡ has)

-- how an allotment is answered that wasn't given; want of memory is an error, which says nothing else
abbrev pub IsRefusal : {E : Type 0} → AllotFault → Result AllotAnswer E → Type 0
IsRefusal (NoPages wanted free) result = result ≡ Ok (RefusedAnswer (NoPages wanted free))
IsRefusal (NoInodes wanted free) result = result ≡ Ok (RefusedAnswer (NoInodes wanted free))
IsRefusal NoAllotMemory result = IsErr result

-- after an allotment: all of it is kept
abbrev pub AfterAllot : {E : Type 0} → LibNo → Has → Result AllotAnswer E → Has → Told → Type 0
AfterAllot lib has result has' (Given pages numbers) = (result ≡ Ok (GivenAnswer pages numbers)) × (has' ≡ keeps_allotted lib has pages numbers)
AfterAllot lib has result has' (NotGiven fault) = IsRefusal fault result × (has' ≡ has)
AfterAllot lib has result has' told = ⊥

-- no allotment was asked, for want of memory
abbrev pub NoAllot : {E : Type 0} → Has → Result AllotAnswer E → Has → Type 0
NoAllot has result has' = IsErr result × (has' ≡ has)

-- after a read lease was given back: it is gone
abbrev pub AfterBack : {E : Type 0} → Has → ℕ → Result Unit E → Has → Told → Type 0
AfterBack has ino result has' Done = (result ≡ Ok tt) × (has' ≡ without_read has ino)
AfterBack has ino result has' told = ⊥

-- Giving back: the library has no read lease on the file, and then nothing is asked; or its read lease goes back.
abbrev pub Back : {D E : Type 0} → (D → Ask → Told → D → Type 0) → D → Has → ℕ → D → Result Unit E → Has → Type 0
Back called d has ino d' result has' =
    MatchOption (read_on has ino) ((d' ≡ d) × IsErr result × (has' ≡ has)) (λ lease. OneCall called d (GiveBack lease) d' (AfterBack has ino result has') ⊥)

-- after a change of mode: nothing that the library has changes
abbrev pub AfterMode : Has → Result Unit ModeFault → Has → Told → Type 0
AfterMode has result has' ModeSet = (result ≡ Ok tt) × (has' ≡ has)
AfterMode has result has' (NotModeSet fault) = (result ≡ Err fault) × (has' ≡ has)
AfterMode has result has' told = ⊥

-- how a release is answered that came to no verdict
abbrev pub raw_fault : ReleaseFault → RawFault
raw_fault (NotClosedParcel ino) = NotClosed ino
raw_fault NoReleaseMemory = NoMemory

-- after a release: what was named is gone; or all of it came back, and stands behind the rest
abbrev pub AfterRelease : Has → List ℕ → List ℕ → List ℕ → Result ReleaseAnswer RawFault → Has → Told → Type 0
AfterRelease has inos pages numbers result has' (Judged answer) = (result ≡ Ok answer) × (has' ≡ rest_of has inos pages numbers)
AfterRelease has inos pages numbers result has' (NotJudged fault) =
    (result ≡ Err (raw_fault fault)) × (has' ≡ with_parcel (rest_of has inos pages numbers) (parcel_named has inos pages numbers))
AfterRelease has inos pages numbers result has' told = ⊥

-- nothing was released: something that was named isn't there, or there was no memory for the bundle
abbrev pub NoRelease : Has → List ℕ → List ℕ → List ℕ → Result ReleaseAnswer RawFault → Has → Type 0
NoRelease has inos pages numbers result has' =
    (((result ≡ Err Absent) × IsFalse (has_all_of has inos pages numbers)) ⊎ ((result ≡ Err NoMemory) × IsTrue (has_all_of has inos pages numbers)))
    × (has' ≡ has)

-- ---- the end

-- the calls that give these read leases back, the last one first
abbrev pub back_calls : List Shown → List Call
back_calls [] = []
back_calls (r ∷ rs) = back_calls rs ++ record { ask = GiveBack r; told = Done } ∷ []

-- the call that releases all that a library has but its read leases
abbrev pub release_call : Has → Told → Call
release_call has told = record { ask = Release (whole_parcel has); told = told }

-- All calls of an end: all read leases are given back, and then all the rest is released, where there is a rest.
abbrev pub end_calls : {B : Type 0} → Has → Result (Option ReleaseAnswer) B → List Call
end_calls has (Ok None) = back_calls has.reads
end_calls has (Ok (Some answer)) = back_calls has.reads ++ release_call has (Judged answer) ∷ []
end_calls has (Err back) = back_calls has.reads ++ release_call has (NotJudged NoReleaseMemory) ∷ []
