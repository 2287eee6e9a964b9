use Rattle.trio_entries.proofs.Words.{◌∙◌, Bundled, Handed, HasHandedPlaces, List, RawFile, ToldBundle, ap, arith, block_in, bundle_in, flat_map, handed_in, length, lent_blocks, map, size_of, subst, sym, whole_case}
use Rattle.trio_state.specs.Listed.{refused_blocks}
use Rattle.trio_entries.proofs.Few.{refused_few}
use Rattle.trio_entries.proofs.telling.refused.Goals as goal

pub refused_blocks-requires-clause-places : goal.refused_blocks-requires-clause-places
refused_blocks-requires-clause-places c =
    let b = bundle_in c.args.case.now.bundle in
    let files = ap (λ (fs : List RawFile). length (flat_map (λ (f : RawFile). lent_blocks b f.ino) fs)) c.deref.ensures.value in
    omega (arith, files, refused_few b c.refused_files.new.files.items c.refused_files.ensures.once, c.into_memory-handed.ensures.blocks)

pub refused_blocks-requires-clause-few : goal.refused_blocks-requires-clause-few
refused_blocks-requires-clause-few c =
    let b = bundle_in c.args.case.now.bundle in
    let files = ap (λ (fs : List RawFile). length (flat_map (λ (f : RawFile). lent_blocks b f.ino) fs)) c.deref.ensures.value in
    omega (arith, files, refused_few b c.refused_files.new.files.items c.refused_files.ensures.once, c.bounds.ensures.pages)

pub returns-clause-blocks : goal.returns-clause-blocks
returns-clause-blocks c =
    let k = c.args.case.now in
    let b = λ (fs : List RawFile). refused_blocks (whole_case k c.args.rows.now) c.args.notes.now (handed_in k.bundle) fs in
    ap (λ (x : ToldBundle). x.blocks) c.of.ensures ∙ ap (λ (h : Handed). map (block_in h) c.refused_blocks.new.blocks.items) (c.fill-handed.ensures ∙ ap handed_in c.bundle.ensures.bundle)
    ∙ c.refused_blocks.ensures c.args.rows.now ∙ ap b (c.deref.ensures.value ∙ sym c.shrink_to_fit.ensures.items ∙ sym c.from_vec.ensures)

pub fill-handed-requires : goal.fill-handed-requires
fill-handed-requires c =
    subst (λ (x : Bundled). HasHandedPlaces (size_of x) c.into_memory-handed.result.handed) (sym c.bundle.ensures.bundle) c.into_memory-handed.ensures.handed
