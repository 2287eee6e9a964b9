use Rattle.trio_edit_laws.proofs.session.Named.{entries_are_in_slots, entry_names, made_is_judged, named_is_read, written_is_judged}
use Rattle.trio_edit_laws.proofs.slot_edits.entries_name.Goals as goal

pub returns : goal.returns
returns c = record { names = entry_names; read = named_is_read; made = made_is_judged; written = written_is_judged; slots = entries_are_in_slots }
