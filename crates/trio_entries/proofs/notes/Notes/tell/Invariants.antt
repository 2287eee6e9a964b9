use Rattle.trio_entries.proofs.Words.{◌≡◌, drop}
use Rattle.trio_state.specs.Listed.{notes_after}
use Rattle.trio_entries.proofs.notes.Notes.tell.Given as goal

abbrev pub invariant-loop-file : goal.invariant-loop-file
invariant-loop-file l = notes_after (drop l.file-index l.files) l.self ≡ notes_after l.files l.initial.self
