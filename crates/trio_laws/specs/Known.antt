-- What is determined of a state, and that each step goes by it.
use Rattle.std.specs.Prelude.{◌≡◌, ◌≢◌, ◌⊎◌, ℕ, ◌+◌, Bool, true, false, List, map, Option, None, Some, if◌then◌else◌}
use Rattle.trio_rights.specs.declared.rights.Creds.{Creds}
use Rattle.trio_rights.specs.declared.rights.LibNo.{LibNo}
use Rattle.trio_rights.specs.Row.{Row}
use Rattle.trio_nodes.specs.declared.grant.GrantKind.{GrantKind}
use Rattle.trio_rights.specs.Sheets.{sheet_numbers}
use Rattle.trio_layout.specs.Image.{Image}
use Rattle.trio_state.specs.State.{OpenGrant, State, settled, creds_of}
use Rattle.trio_rights.specs.Bundle.{Bundle}
use Rattle.trio_layout.specs.Accept.{is_accepted, next}
use Rattle.trio_state.specs.Grants.{grant_fault, opened, given_back}
use Rattle.trio_state.specs.Allotments.{free_pages, free_numbers, out_after}
use Rattle.trio_state.specs.Bundles.{parted_hold, refused_image, grants_after}
use Rattle.trio_state.specs.Step.{Event, Grant, Allot, Back, Release, Settle, SetMode, CtlAnswer, Refused, NoMemory, Step, grant_outcome, allot_outcome, mode_outcome}
use Rattle.trio_state.specs.Kept.{Kept}
use Rattle.trio_laws.specs.OutLaws.{without_checkpoint}

-- What is determined of a state: the settled image, the open grants without their checkpoints, and what is out, with
-- the credentials and the count of entries. How the settled image lies at home and in the checkpoints is not.
pub record Known : Type 0 where
  pub image : Image
  pub grants : List OpenGrant
  pub pages_out : List (Option LibNo)
  pub numbers_out : List (Option LibNo)
  pub creds : List Creds
  pub entries : ℕ

-- what is determined of this state
abbrev pub known : State → Known
known s = record {
  image = settled s;
  grants = map without_checkpoint s.open_grants;
  pages_out = s.pages_out;
  numbers_out = s.numbers_out;
  creds = s.creds;
  entries = s.entries;
}

-- a state of which just this is known: the image is at home, under no checkpoint
abbrev pub plain_state : Known → State
plain_state k = record {
  home = k.image;
  open_grants = k.grants;
  pages_out = k.pages_out;
  numbers_out = k.numbers_out;
  creds = k.creds;
  entries = k.entries;
}

-- a bundle has come to its end, and this image is settled then
abbrev pub ended : Known → ℕ → Bundle → Image → Known
ended k lib b image = record {
  image = image;
  grants = grants_after (plain_state k) lib b;
  pages_out = out_after k.pages_out (sheet_numbers b.pages);
  numbers_out = out_after k.numbers_out b.numbers;
  creds = k.creds;
  entries = k.entries + 1;
}

-- the image that is settled after a verdict
abbrev pub judged_image : Known → ℕ → Bundle → Image
judged_image k lib b =
    if is_accepted k.image (creds_of (plain_state k) lib) b then next k.image b else refused_image k.image b

-- a release, where this held number is the lowest at which the bundle is not closed
abbrev pub released : Known → ℕ → Bundle → Option ℕ → Known
released k lib b (Some n) = k
released k lib b None = ended k lib b (judged_image k lib b)

-- what a call comes to, where memory is there
abbrev pub known_done : Known → Event → Known
known_done k (Grant lib ino kind) = known (grant_outcome (plain_state k) lib ino kind).after
known_done k (Allot lib pages numbers) = known (allot_outcome (plain_state k) lib pages numbers).after
known_done k (Back lib ino) = known (given_back (plain_state k) lib ino)
known_done k (Release lib b) = released k lib b (parted_hold (plain_state k) lib b)
known_done k (Settle lib b) = ended k lib b (next k.image b)
known_done k (SetMode lib ino mode) = known (mode_outcome (plain_state k) lib ino mode).after

-- the answer that memory was wanting, which changes nothing
abbrev pub is_no_memory : CtlAnswer → Bool
is_no_memory NoMemory = true
is_no_memory _ = false

-- what is known after an event with its answer
abbrev pub known_after : Known → Event → CtlAnswer → Known
known_after k event answer = if is_no_memory answer then k else known_done k event

-- what is known before a step, the event and its answer determine what is known after it
abbrev pub StepsAreKnown : Type 0
StepsAreKnown =
    (s : State) (event : Event) (answer : CtlAnswer) (s' : State)
    → Kept s → Step s event answer s' → known s' ≡ known_after (known s) event answer

-- what is asked of a state in a step goes by what is known of it
pub record GoesByKnown (s : State) : Type 0 where
  pub image : settled (plain_state (known s)) ≡ settled s
  pub grant_faults : (lib ino : ℕ) (kind : GrantKind)
      → grant_fault (plain_state (known s)) lib ino kind ≡ grant_fault s lib ino kind
  pub openings : (lib ino : ℕ) (kind : GrantKind) (r : Row)
      → opened (plain_state (known s)) lib ino kind r ≡ opened s lib ino kind r
  pub free_pages : free_pages (plain_state (known s)) ≡ free_pages s
  pub free_numbers : free_numbers (plain_state (known s)) ≡ free_numbers s
  pub parted : (lib : ℕ) (b : Bundle) → parted_hold (plain_state (known s)) lib b ≡ parted_hold s lib b
  pub creds : (lib : ℕ) → creds_of (plain_state (known s)) lib ≡ creds_of s lib

abbrev pub KnownDecides : Type 0
KnownDecides = (s : State) → GoesByKnown s

-- the rule that a refusal names
abbrev pub refused_rule : CtlAnswer → Option ℕ
refused_rule (Refused why) = Some why.rule
refused_rule _ = None

-- one answer, but for the file and the place that a refusal names
abbrev pub SameAnswer : CtlAnswer → CtlAnswer → Type 0
SameAnswer a b = (a ≡ b) ⊎ ((rule : ℕ) × (refused_rule a ≡ Some rule) × (refused_rule b ≡ Some rule))

-- From two states of which the same is known, an event has the same answer, where memory is there, and the same is
-- known then.
abbrev pub SameEventSameAnswer : Type 0
SameEventSameAnswer =
    (s t : State) (event : Event) (a b : CtlAnswer) (s' t' : State)
    → Kept s → Kept t → known s ≡ known t → Step s event a s' → Step t event b t'
    → a ≢ NoMemory → b ≢ NoMemory → SameAnswer a b × (known s' ≡ known t')
