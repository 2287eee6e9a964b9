use Rattle.trio_entries.proofs.Words.{◌++◌, ◌∙◌, EntryData, In, In-map, List, ListedEntry, ap, arith, entry_seen, filter_map, get_or, get_or_default, subst, take_all, told_entry, whole_case}
use Rattle.trio_entries.proofs.EntryLemmas.{no_entry}
use Rattle.trio_entries.proofs.Adding.{added, filter_map-map, get-In}
use Rattle.trio_entries.proofs.files.add_entries.Goals as goal

pub told_entry-file-requires-clause-readable : goal.told_entry-file-requires-clause-readable
told_entry-file-requires-clause-readable c =
    let entries = c.entries-entry-items.result.now in
    let entry = get_or entries c.loop-entry.entry-index no_entry in
    let item = In-map entry_seen entry entries (get-In entries c.loop-entry.entry-index no_entry c.loop-entry-test.true) in
    (c.requires.entries (entry_seen entry) (subst (λ (es : List ListedEntry). In (entry_seen entry) es) c.entries-entry-items.ensures item)).0

pub told_entry-file-requires-clause-first : goal.told_entry-file-requires-clause-first
told_entry-file-requires-clause-first c =
    let entries = c.entries-entry-items.result.now in
    let entry = get_or entries c.loop-entry.entry-index no_entry in
    let item = In-map entry_seen entry entries (get-In entries c.loop-entry.entry-index no_entry c.loop-entry-test.true) in
    (c.requires.entries (entry_seen entry) (subst (λ (es : List ListedEntry). In (entry_seen entry) es) c.entries-entry-items.ensures item)).1

pub loop-entry-preserved : goal.loop-entry-preserved
loop-entry-preserved c = (
  added (λ (e : EntryData). told_entry (whole_case c.args.case.now c.args.rows.now) c.args.listing.now.listing c.args.notes.now (entry_seen e)) c.entries-entry-items.result.now c.loop-entry.entry-index (get_or c.entries-entry-items.result.now c.loop-entry.entry-index no_entry) c.args.files.now.items c.loop-entry.files.items c.add.new.files.items c.told_entry-file.result c.loop-entry-test.true (get_or_default c.entries-entry-items.result.now c.loop-entry.entry-index no_entry _ c.loop-entry-test.true) c.loop-entry.invariant.0 c.told_entry-file.ensures c.add.ensures.file,
  (
    omega (arith, c.loop-entry.invariant.1.0, c.add.ensures.len),
    c.add.ensures.capacity ∙ c.loop-entry.invariant.1.1,
  ),
)

pub returns-clause-files : goal.returns-clause-files
returns-clause-files c =
    let F = λ (e : EntryData). told_entry (whole_case c.args.case.now c.args.rows.now) c.args.listing.now.listing c.args.notes.now (entry_seen e) in
    c.loop-entry.invariant.0 ∙ ap (λ l. c.args.files.now.items ++ filter_map F l) (take_all c.loop-entry.entry-index c.entries-entry-items.result.now (omega arith))
    ∙ ap (λ l. c.args.files.now.items ++ l) (filter_map-map (told_entry (whole_case c.args.case.now c.args.rows.now) c.args.listing.now.listing c.args.notes.now) entry_seen c.entries-entry-items.result.now ∙ ap (filter_map (told_entry (whole_case c.args.case.now c.args.rows.now) c.args.listing.now.listing c.args.notes.now)) c.entries-entry-items.ensures)
