use Rattle.trio_entries.proofs.Words.{◌++◌, ◌∙◌, Bool, List, RawFile, ap, arith, blocks_in, blocks_of_kind, bundle_in, covers_blocks, flat_map, handed_in, length, lent_blocks, not, numbers_of, take_all, whole_case, ℕ}
use Rattle.trio_entries.proofs.Turns.{files_more, length_more, one_within, told_more}
use Rattle.trio_entries.proofs.blocks.refused_blocks.Goals as goal

pub add_told-requires-clause-places : goal.add_told-requires-clause-places
add_told-requires-clause-places c =
    let more = files_more (λ (f : RawFile). lent_blocks (bundle_in c.args.case.now.bundle) f.ino) c.args.files.now c.loop-file.file-index c.file-item.result c.loop-file-test.true c.file-item.is in
    omega (arith, more, c.loop-file.invariant.1.0, c.loop-file.invariant.1.1, c.requires.places, ap length c.lent_blocks-pages.ensures)

pub add_told-requires-clause-few : goal.add_told-requires-clause-few
add_told-requires-clause-few c =
    let one = one_within (λ (f : RawFile). lent_blocks (bundle_in c.args.case.now.bundle) f.ino) c.args.files.now c.loop-file.file-index c.file-item.result c.loop-file-test.true c.file-item.is in
    omega (arith, one, c.requires.few, ap length c.lent_blocks-pages.ensures)

pub loop-file-preserved : goal.loop-file-preserved
loop-file-preserved c =
    let k = c.args.case.now in
    let file = c.file-item.result in
    let h = handed_in k.bundle in
    let now = blocks_in k c.loop-file.blocks.items in
    let more = length_more (λ (f : RawFile). lent_blocks (bundle_in c.args.case.now.bundle) f.ino) c.args.files.now c.loop-file.file-index file c.loop-file-test.true c.file-item.is in (
      λ rows.
          let g = λ (f : RawFile). blocks_of_kind (whole_case k rows) c.args.notes.now h f (not (covers_blocks f.kind f.guard)) ((λ (f : RawFile). lent_blocks (bundle_in c.args.case.now.bundle) f.ino) f) in
          told_more g c.args.files.now c.loop-file.file-index file now (blocks_in k c.add_told.new.blocks.items) c.loop-file-test.true c.file-item.is (c.loop-file.invariant.0 rows)
          (c.add_told.ensures.told rows
          ∙ ap (λ (t : Bool). now ++ blocks_of_kind (whole_case k rows) c.args.notes.now h file (not t) (numbers_of c.lent_blocks-pages.result)) c.covers_blocks-told.ensures
          ∙ ap (λ (ns : List ℕ). now ++ blocks_of_kind (whole_case k rows) c.args.notes.now h file (not (covers_blocks file.kind file.guard)) ns) c.lent_blocks-pages.ensures),
      (omega (arith, more, c.add_told.ensures.len, c.loop-file.invariant.1.0, ap length c.lent_blocks-pages.ensures), c.add_told.ensures.capacity ∙ c.loop-file.invariant.1.1),
    )

pub returns : goal.returns
returns c = λ rows.
    let k = c.args.case.now in
    let g = λ (f : RawFile). blocks_of_kind (whole_case k rows) c.args.notes.now (handed_in k.bundle) f (not (covers_blocks f.kind f.guard)) ((λ (f : RawFile). lent_blocks (bundle_in c.args.case.now.bundle) f.ino) f) in
    c.loop-file.invariant.0 rows ∙ ap (flat_map g) (take_all c.loop-file.file-index c.args.files.now (omega arith))
