use Rattle.trio_ctl.proofs.Words.{◌++◌, ◌-◌, ◌∙◌, ap, length, pages_from}
use Rattle.trio_ctl.proofs.Moving.{moved_is, places}
use Rattle.trio_ctl.proofs.stored.moved_pages.Goals as goal

pub move_core_pages-requires-clause-places : goal.move_core_pages-requires-clause-places
move_core_pages-requires-clause-places c =
    let s = c.args.superblock.now in
    let n = s.pages - s.first_core in
    rw (c.len-front.ensures, c.in_ok-pages.pages.ok.0) (ap length c.in_ok-add_fillings.ensures.pages ∙ places c.args.home.now.pages c.in_ok-pages.pages.items s.first_core n)

pub returns-clause-pages : goal.returns-clause-pages
returns-clause-pages c =
    let s = c.args.superblock.now in
    let n = s.pages - s.first_core in
    let home = c.args.home.now.pages in
    let front = c.in_ok-pages.pages.items in
    let old = c.in_ok-add_fillings.ensures.pages in
    let moved = c.move_core_pages.ensures.pages in
    let there = rw (c.in_ok-add_fillings.ensures.home, c.len-front.ensures, c.in_ok-pages.pages.ok.0, old) at moved in
    moved_is home front c.move_core_pages.new.pages.items s.first_core n there (c.move_core_pages.ensures.count ∙ ap length old)
    ∙ ap (λ f. f ++ pages_from home s.first_core n) c.in_ok-pages.ensures.pages
