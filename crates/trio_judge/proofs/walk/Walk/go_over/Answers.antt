use Rattle.trio_judge.proofs.Words.{◌<◌, ◌∙◌, ◌≡◌, Bool, Err, List, Met, Ok, [], ap, arith, case_in, children_in, cond, entries_in, entries_kept, file_in, file_in_room, file_met, files_of, flat_map, get_or, length, length-map, map, met_in, plain, refl, sym, take, ℕ}
use Rattle.trio_case.specs.declared.room.PageRoom.{PageRoom}
use Rattle.trio_judge.proofs.Noting.{ready_same}
use Rattle.trio_judge.proofs.Visiting.{directory_found, directory_passed, directory_queued, entries_place, entry_breaks, file_breaks, if_err_then, is_judged, on_ok_then, on_way, regular_passed, regular_queued}
use Rattle.trio_judge.proofs.FoundAgain.{read_of}
use Rattle.trio_judge.proofs.Starting.{directory_lent}
use Rattle.trio_judge.proofs.walk.Walk.go_over.Goals as goal

-- the entries of a file that was read last, where it is a directory and where it is none
abbrev entries_if : ℕ → PageRoom → Bool → List Met
entries_if ino room lists = map (met_in plain ino) (cond lists (flat_map (entries_kept room.kept) room.blocks.items) [])

pub returns-in-Err-clause-fault : goal.returns-in-Err-clause-fault
returns-in-Err-clause-fault c =
    let k = case_in c.args.case.now in
    let w = c.args.self.now in
    let m = file_met c.args.file.now in
    let inside : c.args.at < length (files_of w) = omega (arith, length-map w.files.items file_met) in
    let here : get_or (files_of w) c.args.at m ≡ m = c.requires.here in
    let bad : file_in k m ≡ Err c.in-Err.place = sym (rw c.in-Err.is at (c.read_file.ensures.file m refl refl)) in
    file_breaks k m c.in-Err.place (is_judged k c.args.at w m c.requires.queued c.requires.ready inside here) bad

pub read_file-requires-clause-lists : goal.read_file-requires-clause-lists
read_file-requires-clause-lists c = λ directory.
    let k = c.args.case.now in
    let w = c.args.self.now in
    let inside : c.args.at < length (files_of w) = omega (arith, length-map w.files.items file_met) in
    sym (directory_lent k) ∙ directory_found (case_in k) c.args.at w (file_met c.args.file.now) c.requires.ready inside c.requires.here directory

pub note_file-requires-clause-read : goal.note_file-requires-clause-read
note_file-requires-clause-read c =
    sym (rw c.in-Ok.is at (c.read_file.ensures.file (file_met c.args.file.now) refl refl))

pub note_file-requires-clause-on_way : goal.note_file-requires-clause-on_way
note_file-requires-clause-on_way c =
    let w = c.args.self.now in
    let inside : c.args.at < length (files_of w) = omega (arith, length-map w.files.items file_met) in
    on_way (case_in c.args.case.now) c.args.at w (file_met c.args.file.now) c.requires.passed c.requires.ready inside

pub note_entries-requires-clause-ready : goal.note_entries-requires-clause-ready
note_entries-requires-clause-ready c = ready_same (case_in c.args.case.now) c.args.self.now c.note_file.new.self c.note_file.ensures.same c.requires.ready

pub note_entries-requires-clause-lists : goal.note_entries-requires-clause-lists
note_entries-requires-clause-lists c =
    let w = c.args.self.now in
    let inside : c.args.at < length (files_of w) = omega (arith, length-map w.files.items file_met) in
    directory_found (case_in c.args.case.now) c.args.at w (file_met c.args.file.now) c.requires.ready inside c.requires.here (sym c.if-is_directory.ensures)

pub note_entries-requires-clause-places : goal.note_entries-requires-clause-places
note_entries-requires-clause-places c =
    let k = case_in c.args.case.now in
    let w = c.args.self.now in
    let m = file_met c.args.file.now in
    let at = c.args.at in
    let room = c.read_file.new.room in
    let inside : at < length (files_of w) = omega (arith, length-map w.files.items file_met) in
    let here : get_or (files_of w) at m ≡ m = c.requires.here in
    let read : file_in k m ≡ Ok (file_in_room room m.kind c.in-Ok.body) = sym (rw c.in-Ok.is at (c.read_file.ensures.file m refl refl)) in
    let stands = c.note_file.ensures.stands (take at (files_of w)) (flat_map (entries_in k) (take at (files_of w))) c.requires.passed in
    let entries : entries_in k m ≡ map (met_in plain m.ino) (flat_map (entries_kept room.kept) room.blocks.items) =
    ap (children_in plain m.ino) read ∙ ap (entries_if m.ino room) (sym c.if-is_directory.ensures) in
    let count : length (entries_in k m) ≡ length (flat_map (entries_kept room.kept) room.blocks.items) = ap length entries ∙ length-map (flat_map (entries_kept room.kept) room.blocks.items) (met_in plain m.ino) in
    let lists = directory_found k at w m c.requires.ready inside here (sym c.if-is_directory.ensures) in
    rw count at (entries_place k (take at (files_of w)) (flat_map (entries_in k) (take at (files_of w))) m w c.note_file.new.self c.requires.ready lists c.note_file.ensures.same refl stands)

pub returns-then-is_directory-clause-queued : goal.returns-then-is_directory-clause-queued
returns-then-is_directory-clause-queued c =
    let k = case_in c.args.case.now in
    let w = c.args.self.now in
    let m = file_met c.args.file.now in
    let at = c.args.at in
    let room = c.read_file.new.room in
    let inside : at < length (files_of w) = omega (arith, length-map w.files.items file_met) in
    let here : get_or (files_of w) at m ≡ m = c.requires.here in
    let read : file_in k m ≡ Ok (file_in_room room m.kind c.in-Ok.body) = sym (rw c.in-Ok.is at (c.read_file.ensures.file m refl refl)) in
    let stands = c.note_file.ensures.stands (take at (files_of w)) (flat_map (entries_in k) (take at (files_of w))) c.requires.passed in
    let entries : entries_in k m ≡ map (met_in plain m.ino) (flat_map (entries_kept room.kept) room.blocks.items) =
    ap (children_in plain m.ino) read ∙ ap (entries_if m.ino room) (sym c.if-is_directory.ensures) in
    on_ok_then c.note_entries.result (λ noted. directory_queued k at w c.note_file.new.self m c.requires.queued c.requires.ready inside here c.note_file.ensures.same stands c.note_entries.new.self (rw entries noted)) c.note_entries.ensures.noted

pub returns-then-is_directory-clause-passed : goal.returns-then-is_directory-clause-passed
returns-then-is_directory-clause-passed c =
    let k = case_in c.args.case.now in
    let w = c.args.self.now in
    let m = file_met c.args.file.now in
    let at = c.args.at in
    let room = c.read_file.new.room in
    let inside : at < length (files_of w) = omega (arith, length-map w.files.items file_met) in
    let here : get_or (files_of w) at m ≡ m = c.requires.here in
    let read : file_in k m ≡ Ok (file_in_room room m.kind c.in-Ok.body) = sym (rw c.in-Ok.is at (c.read_file.ensures.file m refl refl)) in
    let stands = c.note_file.ensures.stands (take at (files_of w)) (flat_map (entries_in k) (take at (files_of w))) c.requires.passed in
    let entries : entries_in k m ≡ map (met_in plain m.ino) (flat_map (entries_kept room.kept) room.blocks.items) =
    ap (children_in plain m.ino) read ∙ ap (entries_if m.ino room) (sym c.if-is_directory.ensures) in
    on_ok_then c.note_entries.result (λ noted. directory_passed k at w c.note_file.new.self m c.requires.queued c.requires.ready inside here c.note_file.ensures.same stands c.note_entries.new.self (rw entries noted)) c.note_entries.ensures.noted

pub returns-then-is_directory-clause-ready : goal.returns-then-is_directory-clause-ready
returns-then-is_directory-clause-ready c = on_ok_then c.note_entries.result (λ noted. noted.ready) c.note_entries.ensures.noted

pub returns-then-is_directory-clause-fault : goal.returns-then-is_directory-clause-fault
returns-then-is_directory-clause-fault c =
    let k = case_in c.args.case.now in
    let w = c.args.self.now in
    let m = file_met c.args.file.now in
    let at = c.args.at in
    let room = c.read_file.new.room in
    let inside : at < length (files_of w) = omega (arith, length-map w.files.items file_met) in
    let here : get_or (files_of w) at m ≡ m = c.requires.here in
    let read : file_in k m ≡ Ok (file_in_room room m.kind c.in-Ok.body) = sym (rw c.in-Ok.is at (c.read_file.ensures.file m refl refl)) in
    let entries : entries_in k m ≡ map (met_in plain m.ino) (flat_map (entries_kept room.kept) room.blocks.items) =
    ap (children_in plain m.ino) read ∙ ap (entries_if m.ino room) (sym c.if-is_directory.ensures) in
    if_err_then c.note_entries.result (λ p bad. entry_breaks k m p (is_judged k at w m c.requires.queued c.requires.ready inside here) (rw entries bad)) c.note_entries.ensures.bad

pub returns-else-is_directory-clause-queued : goal.returns-else-is_directory-clause-queued
returns-else-is_directory-clause-queued c =
    let k = case_in c.args.case.now in
    let w = c.args.self.now in
    let m = file_met c.args.file.now in
    let at = c.args.at in
    let room = c.read_file.new.room in
    let inside : at < length (files_of w) = omega (arith, length-map w.files.items file_met) in
    let here : get_or (files_of w) at m ≡ m = c.requires.here in
    let read : file_in k m ≡ Ok (file_in_room room m.kind c.in-Ok.body) = sym (rw c.in-Ok.is at (c.read_file.ensures.file m refl refl)) in
    let stands = c.note_file.ensures.stands (take at (files_of w)) (flat_map (entries_in k) (take at (files_of w))) c.requires.passed in
    let entries : entries_in k m ≡ [] = ap (children_in plain m.ino) read ∙ ap (entries_if m.ino room) (sym c.if-is_directory.ensures) in
    regular_queued k at w c.note_file.new.self m c.requires.queued c.requires.ready inside here c.note_file.ensures.same stands entries

pub returns-else-is_directory-clause-passed : goal.returns-else-is_directory-clause-passed
returns-else-is_directory-clause-passed c =
    let k = case_in c.args.case.now in
    let w = c.args.self.now in
    let m = file_met c.args.file.now in
    let at = c.args.at in
    let room = c.read_file.new.room in
    let inside : at < length (files_of w) = omega (arith, length-map w.files.items file_met) in
    let here : get_or (files_of w) at m ≡ m = c.requires.here in
    let read : file_in k m ≡ Ok (file_in_room room m.kind c.in-Ok.body) = sym (rw c.in-Ok.is at (c.read_file.ensures.file m refl refl)) in
    let stands = c.note_file.ensures.stands (take at (files_of w)) (flat_map (entries_in k) (take at (files_of w))) c.requires.passed in
    let entries : entries_in k m ≡ [] = ap (children_in plain m.ino) read ∙ ap (entries_if m.ino room) (sym c.if-is_directory.ensures) in
    regular_passed k at w c.note_file.new.self m c.requires.queued c.requires.ready inside here c.note_file.ensures.same stands entries

pub returns-else-is_directory-clause-ready : goal.returns-else-is_directory-clause-ready
returns-else-is_directory-clause-ready c = ready_same (case_in c.args.case.now) c.args.self.now c.note_file.new.self c.note_file.ensures.same c.requires.ready

pub returns-else-is_directory-clause-read : goal.returns-else-is_directory-clause-read
returns-else-is_directory-clause-read c =
    let k = case_in c.args.case.now in
    let m = file_met c.args.file.now in
    let room = c.read_file.new.room in
    let read : file_in k m ≡ Ok (file_in_room room m.kind c.in-Ok.body) = sym (rw c.in-Ok.is at (c.read_file.ensures.file m refl refl)) in
    read_of k m room c.in-Ok.body read

pub returns-then-is_directory-clause-read : goal.returns-then-is_directory-clause-read
returns-then-is_directory-clause-read c =
    let k = case_in c.args.case.now in
    let m = file_met c.args.file.now in
    let room = c.read_file.new.room in
    let read : file_in k m ≡ Ok (file_in_room room m.kind c.in-Ok.body) = sym (rw c.in-Ok.is at (c.read_file.ensures.file m refl refl)) in
    on_ok_then c.note_entries.result (λ noted. read_of k m room c.in-Ok.body read) c.note_entries.ensures.noted
