use Rattle.trio_judge.proofs.Words.{◌++◌, ◌∙◌, FirstForeign, None, Some, ap, bundle_pages, case_in, file_in_room, file_met, flat_map, length, own_numbers, pages_in, pages_within, refl, subst, sym}
use Rattle.trio_case.specs.Listed.{Listed}
use Rattle.trio_judge.proofs.Faults.{page_fails}
use Rattle.trio_judge.proofs.FileNoted.{file_place, first_of_both, lists_file, page_places, read_more, stands_still}
use Rattle.trio_judge.proofs.Noting.{is_none_of, none_is, so_far}
use Rattle.trio_judge.proofs.walk.Walk.note_file.Goals as goal

pub returns-then-is_some-clause-stands : goal.returns-then-is_some-clause-stands
returns-then-is_some-clause-stands c = λ done es s.
    stands_still (case_in c.args.case.now) done es (file_met c.args.file.now) (file_in_room c.args.room.now c.args.file.now.kind c.args.body.now) c.args.self.now c.requires.read (sym c.is_some.ensures ∙ c.if-is_some.true) s

pub mark_own-index-requires-clause-places : goal.mark_own-index-requires-clause-places
mark_own-index-requires-clause-places c = c.requires.ready.pages

pub mark_own-block-requires-clause-places : goal.mark_own-block-requires-clause-places
mark_own-block-requires-clause-places c = c.mark_own-index.ensures.len ∙ c.requires.ready.pages

pub returns-in-Some-clause-stands : goal.returns-in-Some-clause-stands
returns-in-Some-clause-stands c = λ done es s.
    let k = case_in c.args.case.now in
    let m = file_met c.args.file.now in
    let w = c.args.self.now in
    let f = file_in_room c.args.room.now c.args.file.now.kind c.args.body.now in
    let l = so_far k done es w (is_none_of _ (sym c.is_some.ensures ∙ c.if-is_some.false)) s.listed in
    let before = flat_map (pages_within k) done in
    let first : FirstForeign (bundle_pages k.bundle) before (f.chain.index ++ f.chain.blocks) c.mark_own-block.new.marks.items (Some c.in-Some.page) =
    subst (FirstForeign (bundle_pages k.bundle) before (f.chain.index ++ f.chain.blocks) c.mark_own-block.new.marks.items) (sym c.or.ensures ∙ c.in-Some.is)
    (first_of_both (bundle_pages k.bundle) before f.chain.index f.chain.blocks c.mark_own-index.new.marks.items c.mark_own-block.new.marks.items c.mark_own-index.result c.mark_own-block.result (rw c.index.ensures at (c.mark_own-index.ensures.first before l.pages)) (λ seen j. rw c.blocks-2.ensures at (c.mark_own-block.ensures.first seen j))) in
    record {
      read = read_more k done m f c.requires.read s.read;
      grammar = s.grammar;
      listed = page_fails k done es m c.in-Some.page (rw (ap pages_in c.requires.read) first);
    }

pub add_file-requires-clause-files : goal.add_file-requires-clause-files
add_file-requires-clause-files c =
    let k = case_in c.args.case.now in
    let m = file_met c.args.file.now in
    let w = c.args.self.now in
    let f = file_in_room c.args.room.now c.args.file.now.kind c.args.body.now in
    let done = c.requires.on_way.done in
    let es = c.requires.on_way.es in
    let l = so_far k done es w (is_none_of _ (sym c.is_some.ensures ∙ c.if-is_some.false)) c.requires.on_way.stands.listed in
    let before = flat_map (pages_within k) done in
    let first : FirstForeign (bundle_pages k.bundle) before (f.chain.index ++ f.chain.blocks) c.mark_own-block.new.marks.items None =
    subst (FirstForeign (bundle_pages k.bundle) before (f.chain.index ++ f.chain.blocks) c.mark_own-block.new.marks.items) (sym c.or.ensures ∙ none_is _ c.in_default.not-Some)
    (first_of_both (bundle_pages k.bundle) before f.chain.index f.chain.blocks c.mark_own-index.new.marks.items c.mark_own-block.new.marks.items c.mark_own-index.result c.mark_own-block.result (rw c.index.ensures at (c.mark_own-index.ensures.first before l.pages)) (λ seen j. rw c.blocks-2.ensures at (c.mark_own-block.ensures.first seen j))) in
    file_place k done es m f w c.requires.read l c.mark_own-block.new.marks.items first (length (own_numbers k)) c.requires.on_way.few c.requires.ready.room.files

pub add_file-requires-clause-index : goal.add_file-requires-clause-index
add_file-requires-clause-index c =
    let k = case_in c.args.case.now in
    let m = file_met c.args.file.now in
    let w = c.args.self.now in
    let f = file_in_room c.args.room.now c.args.file.now.kind c.args.body.now in
    let done = c.requires.on_way.done in
    let es = c.requires.on_way.es in
    let l = so_far k done es w (is_none_of _ (sym c.is_some.ensures ∙ c.if-is_some.false)) c.requires.on_way.stands.listed in
    let before = flat_map (pages_within k) done in
    let first : FirstForeign (bundle_pages k.bundle) before (f.chain.index ++ f.chain.blocks) c.mark_own-block.new.marks.items None =
    subst (FirstForeign (bundle_pages k.bundle) before (f.chain.index ++ f.chain.blocks) c.mark_own-block.new.marks.items) (sym c.or.ensures ∙ none_is _ c.in_default.not-Some)
    (first_of_both (bundle_pages k.bundle) before f.chain.index f.chain.blocks c.mark_own-index.new.marks.items c.mark_own-block.new.marks.items c.mark_own-index.result c.mark_own-block.result (rw c.index.ensures at (c.mark_own-index.ensures.first before l.pages)) (λ seen j. rw c.blocks-2.ensures at (c.mark_own-block.ensures.first seen j))) in
    rw c.index-2.ensures (page_places k done es m f w c.requires.read l c.mark_own-block.new.marks.items first c.requires.ready.room).0

pub add_file-requires-clause-blocks : goal.add_file-requires-clause-blocks
add_file-requires-clause-blocks c =
    let k = case_in c.args.case.now in
    let m = file_met c.args.file.now in
    let w = c.args.self.now in
    let f = file_in_room c.args.room.now c.args.file.now.kind c.args.body.now in
    let done = c.requires.on_way.done in
    let es = c.requires.on_way.es in
    let l = so_far k done es w (is_none_of _ (sym c.is_some.ensures ∙ c.if-is_some.false)) c.requires.on_way.stands.listed in
    let before = flat_map (pages_within k) done in
    let first : FirstForeign (bundle_pages k.bundle) before (f.chain.index ++ f.chain.blocks) c.mark_own-block.new.marks.items None =
    subst (FirstForeign (bundle_pages k.bundle) before (f.chain.index ++ f.chain.blocks) c.mark_own-block.new.marks.items) (sym c.or.ensures ∙ none_is _ c.in_default.not-Some)
    (first_of_both (bundle_pages k.bundle) before f.chain.index f.chain.blocks c.mark_own-index.new.marks.items c.mark_own-block.new.marks.items c.mark_own-index.result c.mark_own-block.result (rw c.index.ensures at (c.mark_own-index.ensures.first before l.pages)) (λ seen j. rw c.blocks-2.ensures at (c.mark_own-block.ensures.first seen j))) in
    rw c.blocks-3.ensures (page_places k done es m f w c.requires.read l c.mark_own-block.new.marks.items first c.requires.ready.room).1

pub returns-clause-stands : goal.returns-clause-stands
returns-clause-stands c = λ done es s.
    let k = case_in c.args.case.now in
    let m = file_met c.args.file.now in
    let w = c.args.self.now in
    let f = file_in_room c.args.room.now c.args.file.now.kind c.args.body.now in
    let none = is_none_of _ (sym c.is_some.ensures ∙ c.if-is_some.false) in
    let l = so_far k done es w none s.listed in
    let before = flat_map (pages_within k) done in
    let first : FirstForeign (bundle_pages k.bundle) before (f.chain.index ++ f.chain.blocks) c.mark_own-block.new.marks.items None =
    subst (FirstForeign (bundle_pages k.bundle) before (f.chain.index ++ f.chain.blocks) c.mark_own-block.new.marks.items) (sym c.or.ensures ∙ none_is _ c.in_default.not-Some)
    (first_of_both (bundle_pages k.bundle) before f.chain.index f.chain.blocks c.mark_own-index.new.marks.items c.mark_own-block.new.marks.items c.mark_own-index.result c.mark_own-block.result (rw c.index.ensures at (c.mark_own-index.ensures.first before l.pages)) (λ seen j. rw c.blocks-2.ensures at (c.mark_own-block.ensures.first seen j))) in
    let listed = rw (c.index-2.ensures, c.blocks-3.ensures, c.row.ensures) at (ap (λ (x : Listed). x.listing) c.add_file.ensures) in
    record {
      read = read_more k done m f c.requires.read s.read;
      grammar = s.grammar;
      listed = rw none (lists_file k done es m f w c.requires.read l c.mark_own-block.new.marks.items first _ c.file_keeps_rights.result c.file_keeps_rights.ensures c.first_denied-self.ensures listed refl);
    }
