-- The laws of what a release tells: its entry by the bundle and its listing alone, and the notes of live files.
use Rattle.std.specs.Prelude.{◌≡◌, ◌<◌, ℕ, ◌+◌, List, IsTrue}
use Rattle.std.specs.Option.{option_map}
use Rattle.trio_rights.specs.Row.{Row}
use Rattle.trio_rights.specs.declared.rights.Creds.{Creds}
use Rattle.trio_lists.specs.Lists.{tabulated}
use Rattle.trio_layout.specs.Image.{Image, IsFit, row_at}
use Rattle.trio_layout.specs.Verifies.{Verifies}
use Rattle.trio_layout.specs.Accept.{is_accepted, next}
use Rattle.trio_layout.specs.Listing.{listing}
use Rattle.trio_nodes.specs.declared.answers.ReleaseAnswer.TheVariants.{Accepted}
use Rattle.trio_nodes.specs.declared.entry.Entry.TheVariants.{Raw}
use Rattle.trio_nodes.specs.Handed.{Handed}
use Rattle.trio_nodes.specs.declared.note.Note.{Note}
use Rattle.trio_state.specs.Bundles.{refused_image}
use Rattle.trio_state.specs.Given.{GivenEvent}
use Rattle.trio_state.specs.ImageNodes.{notes_by_rows}
use Rattle.trio_state.specs.Kept.{Kept}
use Rattle.trio_state.specs.Listed.{Notes, accepted_blocks, accepted_files, notes_after, refused_blocks, refused_files}
use Rattle.trio_state.specs.Run.{start, IsWhole}
use Rattle.trio_state.specs.State.{State, settled, creds_of}
use Rattle.trio_state.specs.Step.{Event, Release, Settle, CtlAnswer, Step}
use Rattle.trio_state.specs.Tells.{Why, case_in}
use Rattle.trio_laws.specs.RuleLaws.{IsJudgeable}
use Rattle.trio_laws.specs.history.Entries.{bundle_handed, raw_entry, raw_files, refused_for}
use Rattle.trio_laws.specs.history.Stands.{guard_of, name_of, size_of}

-- what is noted of a live file of an image
abbrev pub note_of : Image → ℕ → Row → Note
note_of image n r = record { name = name_of image n r; size = size_of image n; guard = guard_of image n }

-- of each number from 0 on
abbrev pub notes_of : Image → Notes
notes_of image = tabulated (λ n. option_map (note_of image n) (row_at image n)) (image.core.inodes + 1)

-- The entry of a release that is accepted is what the bundle, its listing and the notes tell.
abbrev pub AcceptedIsListed : Type 0
AcceptedIsListed =
    (s : State) (lib : ℕ) (h : Handed) → IsJudgeable s lib (bundle_handed h)
    → IsTrue (is_accepted (settled s) (creds_of s lib) (bundle_handed h))
    → let c = case_in s lib (bundle_handed h) in
    let files = accepted_files c (listing c) (notes_of (settled s)) in
    raw_entry (settled s) lib h Accepted (next (settled s) (bundle_handed h))
    ≡ Raw (record { 0 = lib }) Accepted files (record { handed = h; blocks = accepted_blocks c (listing c) (notes_of (settled s)) h files })

-- So is that of one that is refused, without a listing, whatever the cause.
abbrev pub RefusedIsListed : Type 0
RefusedIsListed =
    (s : State) (lib : ℕ) (h : Handed) (why : Why) → IsJudgeable s lib (bundle_handed h)
    → let c = case_in s lib (bundle_handed h) in
    let files = refused_files c (notes_of (settled s)) in
    raw_entry (settled s) lib h (refused_for why) (refused_image (settled s) (bundle_handed h))
    ≡ Raw (record { 0 = lib }) (refused_for why) files (record { handed = h; blocks = refused_blocks c (notes_of (settled s)) h files })

-- After a release that is accepted the notes are those that its files tell; after one that is refused they are as before.
abbrev pub ReleaseNotes : Type 0
ReleaseNotes =
    (s : State) (lib : ℕ) (h : Handed) → IsJudgeable s lib (bundle_handed h)
    → IsTrue (is_accepted (settled s) (creds_of s lib) (bundle_handed h))
    → let after = next (settled s) (bundle_handed h) in
    notes_of after ≡ notes_after (raw_files (settled s) after (bundle_handed h)) (notes_of (settled s))

abbrev pub RefusedNotes : Type 0
RefusedNotes =
    (s : State) (lib : ℕ) (h : Handed) → IsJudgeable s lib (bundle_handed h)
    → notes_of (refused_image (settled s) (bundle_handed h)) ≡ notes_of (settled s)

-- no bundle comes to its end
abbrev pub EndsNone : Event → Type 0
EndsNone (Release lib b) = ⊥
EndsNone (Settle lib b) = ⊥
EndsNone event = Unit {0}

-- Every other step leaves them.
abbrev pub StepsKeepNotes : Type 0
StepsKeepNotes =
    (s : State) (event : Event) (answer : CtlAnswer) (s' : State)
    → Kept s → GivenEvent s event → EndsNone event → Step s event answer s' → notes_of (settled s') ≡ notes_of (settled s)

-- At the start they are as the rows of the image tell them. Page 0, which has the superblock, is no core page.
abbrev pub StartNotes : Type 0
StartNotes =
    (image : Image) (creds : List Creds) → IsFit image.core → Verifies image → IsWhole image → 0 < image.core.range.first
    → notes_of (settled (start image creds)) ≡ notes_by_rows image.core image.rows
