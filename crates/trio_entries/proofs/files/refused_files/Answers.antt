use Rattle.trio_entries.proofs.Words.{◌∙◌, List, RawFile, Written, [], ap, are_new, bundle_in, map, sorted_by, told_same, whole_case}
use Rattle.trio_entries.proofs.Adding.{both_told}
use Rattle.trio_entries.proofs.ToldOnce.{refused_once}
use Rattle.trio_entries.proofs.files.refused_files.Goals as goal

pub sort_files-requires : goal.sort_files-requires
sort_files-requires c =
    let b = bundle_in c.args.case.now.bundle in
    let all = both_told (told_same (whole_case c.args.case.now c.args.rows.now) c.args.notes.now) (map (λ (w : Written). w.ino) b.writes) b.holds c.args.files.now.items c.add_same_written.new.files.items c.add_same_held.new.files.items c.requires.empty c.add_same_written.ensures.files c.add_same_held.ensures in
    ap (λ (fs : List RawFile). are_new [] (map (λ (f : RawFile). f.ino) fs)) all ∙ refused_once c.args.case.now c.args.rows.now c.args.notes.now c.requires.once

pub returns-clause-files : goal.returns-clause-files
returns-clause-files c =
    let b = bundle_in c.args.case.now.bundle in
    let all = both_told (told_same (whole_case c.args.case.now c.args.rows.now) c.args.notes.now) (map (λ (w : Written). w.ino) b.writes) b.holds c.args.files.now.items c.add_same_written.new.files.items c.add_same_held.new.files.items c.requires.empty c.add_same_written.ensures.files c.add_same_held.ensures in
    c.sort_files.ensures.sorted ∙ ap (sorted_by (λ (f : RawFile). f.ino)) all
