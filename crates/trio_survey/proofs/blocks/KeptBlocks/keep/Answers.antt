use Rattle.trio_survey.proofs.Words.{◌∙◌, ◌≡◌, Err, Ok, ap, core_with, entries_on, listed_seen, map, refl, sym}
use Rattle.trio_survey.proofs.Gathers.{both-nil_left, page_entries_is}
use Rattle.trio_survey.proofs.KeptBlocks.{goes_nowhere, good_here, others_more, parts_after, parts_more, says_more}
use Rattle.trio_survey.proofs.blocks.KeptBlocks.keep.Goals as goal

pub set-requires-clause-parts : goal.set-requires-clause-parts
set-requires-clause-parts c = parts_after c.args.range c.args.self.now c.add.new.self c.requires.parts c.in_ok-span-in-Ok.ensures.on

pub returns-in-Ok-clause-parts : goal.returns-in-Ok-clause-parts
returns-in-Ok-clause-parts c =
    let added = c.in_ok-span-in-Ok.ensures in
    rw c.set.ensures (parts_more c.args.range c.args.self.now c.add.new.self c.args.no (Ok c.in_ok-span-in-Ok.span) c.requires.core c.requires.parts added.on c.requires.unread added.part)

pub returns-in-Ok-clause-says : goal.returns-in-Ok-clause-says
returns-in-Ok-clause-says c = λ pages there says.
    let added = c.in_ok-span-in-Ok.ensures in
    let core = core_with pages c.args.range c.args.inodes in
    let list = c.add_page_entries.new.entries.items in
    let bytes = c.args.page.now in
    let read : entries_on c.args.inodes c.args.no bytes ≡ Ok (map listed_seen list) = sym (both-nil_left (entries_on c.args.inodes c.args.no bytes)) ∙ rw (c.in-Ok.is, c.new-entries.ensures.items) at c.in_ok-add_page_entries.ensures in
    rw c.set.ensures (says_more c.args.range c.args.self.now c.add.new.self c.args.no (Ok c.in_ok-span-in-Ok.span) c.requires.core c.requires.parts added.on c.requires.unread added.part pages c.args.inodes
    (page_entries_is core c.args.no bytes there ∙ read ∙ ap Ok (sym (added.said ∙ ap (map listed_seen) c.deref.ensures.value))) says)

pub returns-in-Ok-clause-here : goal.returns-in-Ok-clause-here
returns-in-Ok-clause-here c = λ pages there.
    let added = c.in_ok-span-in-Ok.ensures in
    rw c.set.ensures (good_here c.args.range c.args.self.now c.add.new.self c.args.no (Ok c.in_ok-span-in-Ok.span) c.requires.core c.requires.parts added.on c.requires.unread added.part c.in_ok-span-in-Ok.span refl)

pub returns-in-Ok-clause-others : goal.returns-in-Ok-clause-others
returns-in-Ok-clause-others c =
    let added = c.in_ok-span-in-Ok.ensures in
    rw c.set.ensures (others_more c.args.range c.args.self.now c.add.new.self c.args.no (Ok c.in_ok-span-in-Ok.span) c.requires.core c.requires.parts added.on c.requires.unread added.part)

pub returns-clause-parts : goal.returns-clause-parts
returns-clause-parts c =
    let old = c.args.self.now in
    let on = goes_nowhere c.args.range old c.requires.parts in
    rw c.set-in-Err.ensures (parts_more c.args.range old old c.args.no (Err c.in-Err.place) c.requires.core c.requires.parts on c.requires.unread tt)

pub returns-clause-says : goal.returns-clause-says
returns-clause-says c = λ pages there says.
    let old = c.args.self.now in
    let on = goes_nowhere c.args.range old c.requires.parts in
    let core = core_with pages c.args.range c.args.inodes in
    let bytes = c.args.page.now in
    let read : entries_on c.args.inodes c.args.no bytes ≡ Err c.in-Err.place = sym (both-nil_left (entries_on c.args.inodes c.args.no bytes)) ∙ rw (c.in-Err.is, c.new-entries.ensures.items) at c.in_ok-add_page_entries.ensures in
    rw c.set-in-Err.ensures (says_more c.args.range old old c.args.no (Err c.in-Err.place) c.requires.core c.requires.parts on c.requires.unread tt pages c.args.inodes (page_entries_is core c.args.no bytes there ∙ read) says)

pub returns-clause-here : goal.returns-clause-here
returns-clause-here c = λ pages there.
    let core = core_with pages c.args.range c.args.inodes in
    let bytes = c.args.page.now in
    page_entries_is core c.args.no bytes there ∙ sym (both-nil_left (entries_on c.args.inodes c.args.no bytes)) ∙ rw (c.in-Err.is, c.new-entries.ensures.items) at c.in_ok-add_page_entries.ensures

pub returns-clause-others : goal.returns-clause-others
returns-clause-others c =
    let old = c.args.self.now in
    let on = goes_nowhere c.args.range old c.requires.parts in
    rw c.set-in-Err.ensures (others_more c.args.range old old c.args.no (Err c.in-Err.place) c.requires.core c.requires.parts on c.requires.unread tt)
