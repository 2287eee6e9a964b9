use Rattle.trio_survey.proofs.Words.{◌++◌, ◌+◌, ◌<◌, ◌∙◌, ◌≡◌, Err, Ok, ap, append_assoc, arith, entries_kept, file_kept, file_of, flat_map, framed, get_or, get_or-map, length, length-map, listing_blocks, map, met_seen, pick_of, sym, take}
use Rattle.trio_survey.proofs.Fits.{file_within}
use Rattle.trio_survey.proofs.ListedAgain.{knows_more}
use Rattle.trio_survey.proofs.OldFiles.{fails_by, known_ok, old_file-fault, old_more, unknown_fails}
use Rattle.trio_survey.proofs.Roots.{file_rootless}
use Rattle.trio_survey.proofs.Standing.{file_fails, repeat_more, stands_more}
use Rattle.trio_survey.proofs.Tables.{met_below, met_some, tabled_after, taken_after}
use Rattle.trio_survey.proofs.walk.Walk.pass.Goals as goal

pub returns-in-Err-clause-fault : goal.returns-in-Err-clause-fault
returns-in-Err-clause-fault c =
    let core = framed c.args.home.now.pages c.args.frame.now in
    let walk = c.args.self.now in
    let files = map met_seen walk.files.items in
    let m = met_seen c.index.result.now in
    let inside : c.args.at < length files = omega (arith, length-map walk.files.items met_seen) in
    let at : get_or files c.args.at m ≡ m = get_or-map met_seen walk.files.items c.args.at c.index.result.now m (omega arith) ∙ ap met_seen (sym c.index.ensures) in
    let bad : file_of core m ≡ Err c.in-Err.place = file_rootless core m ∙ sym (rw c.in-Err.is at c.in_ok-file.ensures.file) in
    let pick = pick_of c.args.picks.now in
    let now = file_fails core pick c.args.at files walk.met.items walk.used.items walk.repeated m c.in-Err.place c.requires.stands inside at bad in
    rw c.leaves_grammar.ensures (fails_by c.args.frame.now.old core pick c.args.at files walk.met.items walk.used.items walk.repeated m c.in-Err.place c.requires.stands inside at c.requires.old now (old_file-fault core m c.in-Err.place bad))

pub returns-in-Some-clause-fault : goal.returns-in-Some-clause-fault
returns-in-Some-clause-fault c =
    let core = framed c.args.home.now.pages c.args.frame.now in
    let walk = c.args.self.now in
    let files = map met_seen walk.files.items in
    let m = met_seen c.index.result.now in
    let inside : c.args.at < length files = omega (arith, length-map walk.files.items met_seen) in
    let at : get_or files c.args.at m ≡ m = get_or-map met_seen walk.files.items c.args.at c.index.result.now m (omega arith) ∙ ap met_seen (sym c.index.ensures) in
    let f = file_kept c.args.frame.now.range c.read_pages.new.kept.blocks c.index.result.now.kind c.in-Ok.file in
    let read : file_of core m ≡ Ok f = file_rootless core m ∙ sym (rw c.in-Ok.is at c.in_ok-file.ensures.file) in
    rw c.leaves_grammar-in-Some.ensures (unknown_fails c.args.frame.now.old core (pick_of c.args.picks.now) c.args.at files walk.met.items walk.used.items walk.repeated m f c.in-Some.place c.requires.stands inside at c.requires.old read (sym c.unknown-unknown.ensures ∙ c.in-Some.is))

pub returns-clause-old : goal.returns-clause-old
returns-clause-old c =
    let core = framed c.args.home.now.pages c.args.frame.now in
    let walk = c.args.self.now in
    let files = map met_seen walk.files.items in
    let m = met_seen c.index.result.now in
    let inside : c.args.at < length files = omega (arith, length-map walk.files.items met_seen) in
    let at : get_or files c.args.at m ≡ m = get_or-map met_seen walk.files.items c.args.at c.index.result.now m (omega arith) ∙ ap met_seen (sym c.index.ensures) in
    let f = file_kept c.args.frame.now.range c.read_pages.new.kept.blocks c.index.result.now.kind c.in-Ok.file in
    let read : file_of core m ≡ Ok f = file_rootless core m ∙ sym (rw c.in-Ok.is at c.in_ok-file.ensures.file) in
    rw (taken_after c.args.at files (map met_seen c.add_children.new.files.items) _ m inside at c.in_ok-entry.ensures.grows.added)
    (old_more c.args.frame.now.old core (take c.args.at files) m c.requires.old (known_ok c.args.frame.now.old core m f read (sym c.unknown-unknown.ensures ∙ c.in_default.is)))

pub enter-requires-clause-some : goal.enter-requires-clause-some
enter-requires-clause-some c =
    let items = c.args.self.now.files.items in
    let files = map met_seen items in
    let m = met_seen c.index.result.now in
    let inside : c.args.at < length files = omega (arith, length-map items met_seen) in
    let at : get_or files c.args.at m ≡ m = get_or-map met_seen items c.args.at c.index.result.now m (omega arith) ∙ ap met_seen (sym c.index.ensures) in
    met_some files c.args.at m inside at c.requires.stands.some

pub enter-requires-clause-ino : goal.enter-requires-clause-ino
enter-requires-clause-ino c =
    let items = c.args.self.now.files.items in
    let files = map met_seen items in
    let m = met_seen c.index.result.now in
    let inside : c.args.at < length files = omega (arith, length-map items met_seen) in
    let at : get_or files c.args.at m ≡ m = get_or-map met_seen items c.args.at c.index.result.now m (omega arith) ∙ ap met_seen (sym c.index.ensures) in
    omega (arith, met_below (c.args.frame.now.inodes + 1) files c.args.at m inside at c.requires.stands.fit, c.requires.tables.many_rows)

pub returns-clause-stands : goal.returns-clause-stands
returns-clause-stands c =
    let core = framed c.args.home.now.pages c.args.frame.now in
    let walk = c.args.self.now in
    let files = map met_seen walk.files.items in
    let m = met_seen c.index.result.now in
    let inside : c.args.at < length files = omega (arith, length-map walk.files.items met_seen) in
    let at : get_or files c.args.at m ≡ m = get_or-map met_seen walk.files.items c.args.at c.index.result.now m (omega arith) ∙ ap met_seen (sym c.index.ensures) in
    let f = file_kept c.args.frame.now.range c.read_pages.new.kept.blocks c.index.result.now.kind c.in-Ok.file in
    let read : file_of core m ≡ Ok f = file_rootless core m ∙ sym (rw c.in-Ok.is at c.in_ok-file.ensures.file) in
    let within = file_within core m f read in
    let first = c.mark_new-index.ensures in
    let second = c.mark_new-block.ensures in
    let third = c.in_ok-entry.ensures in
    let index_is = c.deref.ensures.value in
    let blocks_is = c.deref-2.ensures.value in
    let listed : flat_map (entries_kept c.args.frame.now.range c.read_pages.new.kept.blocks) c.listing_blocks.result.now ≡ f.entries = ap (flat_map (entries_kept c.args.frame.now.range c.read_pages.new.kept.blocks)) (c.listing_blocks.ensures ∙ ap (listing_blocks c.index.result.now.kind) c.deref-3.ensures.value) in
    rw (c.or-self.ensures, c.repeated_in.ensures) (stands_more core (pick_of c.args.picks.now) c.args.at files (map met_seen c.add_children.new.files.items) walk.met.items c.add_children.new.marks.items walk.used.items c.mark_new-block.new.marks.items walk.repeated _ m f inside at read (omega (arith, third.len)) (omega (arith, first.len, second.len))
    (record {
      pages = λ before x. rw (index_is, blocks_is, append_assoc) at (second.marked (before ++ c.deref.result.now) (first.marked before x));
      added = rw listed at third.grows.added;
      marked = third.grows.marked;
      fit = within.numbers_below;
      some = within.numbers_some;
    })
    (repeat_more core (pick_of c.args.picks.now) c.args.at files walk.met.items walk.used.items walk.repeated m f c.mark_new-index.result c.mark_new-block.result c.in_ok-entry.entry read
    (λ before x. rw index_is at (first.first before x))
    (λ before x. rw (index_is, blocks_is) at (second.first (before ++ c.deref.result.now) (first.marked before x)))
    (rw listed at third.grows.repeat) c.requires.stands)
    c.requires.stands)

pub returns-clause-heads : goal.returns-clause-heads
returns-clause-heads c =
    let core = framed c.args.home.now.pages c.args.frame.now in
    let walk = c.args.self.now in
    let files = map met_seen walk.files.items in
    let m = met_seen c.index.result.now in
    let inside : c.args.at < length files = omega (arith, length-map walk.files.items met_seen) in
    let at : get_or files c.args.at m ≡ m = get_or-map met_seen walk.files.items c.args.at c.index.result.now m (omega arith) ∙ ap met_seen (sym c.index.ensures) in
    let f = file_kept c.args.frame.now.range c.read_pages.new.kept.blocks c.index.result.now.kind c.in-Ok.file in
    let read : file_of core m ≡ Ok f = file_rootless core m ∙ sym (rw c.in-Ok.is at c.in_ok-file.ensures.file) in
    rw (taken_after c.args.at files (map met_seen c.add_children.new.files.items) _ m inside at c.in_ok-entry.ensures.grows.added)
    (knows_more core (take c.args.at files) walk.heads c.note.new.self m f read c.note.ensures.other c.note.ensures.directory c.requires.heads)

pub returns-clause-tables : goal.returns-clause-tables
returns-clause-tables c =
    let core = framed c.args.home.now.pages c.args.frame.now in
    let walk = c.args.self.now in
    let files = map met_seen walk.files.items in
    let m = met_seen c.index.result.now in
    let inside : c.args.at < length files = omega (arith, length-map walk.files.items met_seen) in
    let at : get_or files c.args.at m ≡ m = get_or-map met_seen walk.files.items c.args.at c.index.result.now m (omega arith) ∙ ap met_seen (sym c.index.ensures) in
    let f = file_kept c.args.frame.now.range c.read_pages.new.kept.blocks c.index.result.now.kind c.in-Ok.file in
    let read : file_of core m ≡ Ok f = file_rootless core m ∙ sym (rw c.in-Ok.is at c.in_ok-file.ensures.file) in
    let listed : flat_map (entries_kept c.args.frame.now.range c.read_pages.new.kept.blocks) c.listing_blocks.result.now ≡ f.entries = ap (flat_map (entries_kept c.args.frame.now.range c.read_pages.new.kept.blocks)) (c.listing_blocks.ensures ∙ ap (listing_blocks c.index.result.now.kind) c.deref-3.ensures.value) in
    tabled_after core (pick_of c.args.picks.now) c.args.at files (map met_seen c.add_children.new.files.items) _ m f walk.owners c.enter.new.owners walk.rows c.enter.new.rows inside at read c.requires.stands.queued (rw listed at c.in_ok-entry.ensures.grows.added) c.enter.ensures c.requires.tables
