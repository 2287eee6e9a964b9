use Rattle.trio_commit.proofs.Words.{◌<◌, ◌∙◌, All, IsTrue, List, Option, Pages, Sheet, all_below, ap, below_parts, flat_map, fresh_sheet, length, map, put_both, refl, sheet_numbers, subst, sym, uncovered_sheets, with_pages, within_still, ℕ}
use Rattle.trio_lease.specs.Bundles.{bundled}
use Rattle.trio_commit.proofs.Bringing.{All-below, places_of, returned_are, less_within, sheets_are}
use Rattle.trio_commit.proofs.Outs.{fresh_is, fresh_numbers}
use Rattle.trio_commit.proofs.bundles.bring_uncovered.Goals as goal

pub bring_uncovered_blocks-requires : goal.bring_uncovered_blocks-requires
bring_uncovered_blocks-requires c =
    let parts = c.args.parts in
    let n = length c.args.home.now.pages in
    let below = subst (λ (ss : List Sheet). IsTrue (all_below n (sheet_numbers ss))) (sheets_are parts (bundled parts) refl) c.requires.within in
    (below_parts n (flat_map uncovered_sheets parts.writes.items) (map fresh_sheet parts.pages.items) (less_within n parts.writes.items (map fresh_sheet parts.pages.items) below)).0

pub put_back-requires-clause-within : goal.put_back-requires-clause-within
put_back-requires-clause-within c =
    let parts = c.args.parts in
    let n = length c.args.home.now.pages in
    let below = subst (λ (ss : List Sheet). IsTrue (all_below n (sheet_numbers ss))) (sheets_are parts (bundled parts) refl) c.requires.within in
    subst (All (λ n. n < length c.bring_uncovered_blocks.new.home.pages)) (fresh_numbers parts.pages.items)
    (All-below (length c.bring_uncovered_blocks.new.home.pages) (sheet_numbers (map fresh_sheet parts.pages.items)) (within_still c.args.home.now c.bring_uncovered_blocks.new.home (flat_map uncovered_sheets parts.writes.items) (map fresh_sheet parts.pages.items) (less_within n parts.writes.items (map fresh_sheet parts.pages.items) below) c.bring_uncovered_blocks.ensures))

pub put_back-requires-clause-pages : goal.put_back-requires-clause-pages
put_back-requires-clause-pages c = (places_of c.args.parts (bundled c.args.parts) c.args.allotments.now refl c.requires.allotted).0

pub put_back-requires-clause-numbers : goal.put_back-requires-clause-numbers
put_back-requires-clause-numbers c = (places_of c.args.parts (bundled c.args.parts) c.args.allotments.now refl c.requires.allotted).1

pub returns-clause-home : goal.returns-clause-home
returns-clause-home c =
    let parts = c.args.parts in
    let home : Pages = c.args.home.now in
    put_both home c.bring_uncovered_blocks.new.home c.put_back.new.home (flat_map uncovered_sheets parts.writes.items) (map fresh_sheet parts.pages.items)
    c.bring_uncovered_blocks.ensures
    (c.put_back.ensures.home ∙ ap (λ (ps : List (Option (List ℕ))). record c.bring_uncovered_blocks.new.home { pages = ps }) (sym (fresh_is parts.pages.items c.bring_uncovered_blocks.new.home.pages)))

pub returns-clause-ended : goal.returns-clause-ended
returns-clause-ended c = c.put_back.ensures.ended ∙ returned_are c.args.parts (bundled c.args.parts) c.args.allotments.now refl
