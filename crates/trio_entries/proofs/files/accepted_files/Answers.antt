use Rattle.trio_entries.proofs.Words.{◌++◌, ◌∙◌, ◌≡◌, List, RawFile, [], ap, are_new, bundle_in, filter_map, map, told_entry, told_gone, told_written, whole_case}
use Rattle.trio_entries.proofs.ToldOnce.{accepted_once}
use Rattle.trio_entries.proofs.files.accepted_files.Goals as goal

pub sort_files-requires : goal.sort_files-requires
sort_files-requires c =
    let k = c.args.case.now in
    let l = c.args.listing.now.listing in
    let entries = filter_map (told_entry (whole_case k c.args.rows.now) l c.args.notes.now) l.entries in
    let written = filter_map (told_written (whole_case k c.args.rows.now) l c.args.notes.now) (bundle_in k.bundle).writes in
    let gone = filter_map (told_gone (whole_case k c.args.rows.now) l c.args.notes.now) l.held in
    let all : c.add_gone.new.files.items ≡ (entries ++ written) ++ gone =
    c.add_gone.ensures ∙ ap (λ fs. fs ++ gone) (c.add_written.ensures.files ∙ ap (λ fs. fs ++ written) (c.add_entries.ensures.files ∙ ap (λ fs. fs ++ entries) c.requires.empty)) in
    ap (λ (fs : List RawFile). are_new [] (map (λ (f : RawFile). f.ino) fs)) all ∙ accepted_once k c.args.rows.now l c.args.notes.now c.requires.once
