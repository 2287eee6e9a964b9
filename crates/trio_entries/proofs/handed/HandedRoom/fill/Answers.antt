use Rattle.trio_entries.proofs.Words.{◌++◌, ◌+◌, ◌∙◌, FreshParts, HoldParts, InoParts, LentFile, List, ap, arith, bundle_in, bundle_pages, file_in, file_pages, flat_map, fresh_in, head_of, length, length-map, map}
use Rattle.trio_entries.proofs.FlatPlaces.{bundle_count, copy_has, copy_is, room_less}
use Rattle.trio_entries.proofs.handed.HandedRoom.fill.Goals as goal

pub add_files-requires-clause-room : goal.add_files-requires-clause-room
add_files-requires-clause-room c =
    let b = c.args.bundle.now in
    let written = length (flat_map file_pages c.writes.result.now) in
    let same = ap (λ (fs : List LentFile). length (flat_map file_pages fs)) c.writes.ensures in
    room_less (length (bundle_pages (bundle_in b))) written c.args.self.pages (omega (arith, same, bundle_count b)) c.requires.pages.room

pub add_all-requires : goal.add_all-requires
add_all-requires c =
    let b = c.args.bundle.now in
    let written = length (flat_map file_pages c.writes.result.now) in
    let same = ap (λ (fs : List LentFile). length (flat_map file_pages fs)) c.writes.ensures in
    let fresh = length (map fresh_in c.pages.result.now) in
    c.add_files.ensures.room fresh
    (room_less (length (bundle_pages (bundle_in b))) (fresh + written) c.args.self.pages (omega (arith, same, bundle_count b, length-map c.pages.result.now fresh_in, ap length c.pages.ensures)) c.requires.pages.room)

pub of-requires : goal.of-requires
of-requires c =
    let b = c.args.bundle.now in
    let heads = c.add_files.ensures.heads ∙ ap (map (λ (f : LentFile). head_of (file_in f.stands))) c.writes.ensures in
    let pages = c.add_all.ensures.pages ∙ ap (λ ps. ps ++ map fresh_in c.pages.result.now) (c.add_files.ensures.pages ∙ ap (λ ps. ps ++ flat_map file_pages c.writes.result.now) c.requires.pages.empty) ∙ ap (λ (fs : List LentFile). flat_map file_pages fs ++ map fresh_in c.pages.result.now) c.writes.ensures ∙ ap (λ (xs : List FreshParts). flat_map file_pages b.writes ++ map fresh_in xs) c.pages.ensures in
    copy_has b c.add_files.new.heads.items c.add_all.new.self.pages.items heads pages

pub returns : goal.returns
returns c =
    let b = c.args.bundle.now in
    let heads = c.add_files.ensures.heads ∙ ap (map (λ (f : LentFile). head_of (file_in f.stands))) c.writes.ensures in
    let pages = c.add_all.ensures.pages ∙ ap (λ ps. ps ++ map fresh_in c.pages.result.now) (c.add_files.ensures.pages ∙ ap (λ ps. ps ++ flat_map file_pages c.writes.result.now) c.requires.pages.empty) ∙ ap (λ (fs : List LentFile). flat_map file_pages fs ++ map fresh_in c.pages.result.now) c.writes.ensures ∙ ap (λ (xs : List FreshParts). flat_map file_pages b.writes ++ map fresh_in xs) c.pages.ensures in
    let holds = c.add_holds.ensures ∙ ap (map (λ (h : HoldParts). h.ino)) c.holds.ensures in
    let numbers = c.add_numbers.ensures ∙ ap (map (λ (n : InoParts). n.no)) c.inodes.ensures in
    c.of.ensures ∙ copy_is b c.add_files.new.heads.items c.add_all.new.self.pages.items heads pages c.add_holds.new.numbers.items c.add_numbers.new.numbers.items holds numbers
