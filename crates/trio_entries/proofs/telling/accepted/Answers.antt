use Rattle.trio_entries.proofs.Words.{◌++◌, ◌∙◌, Bundled, Handed, HasHandedPlaces, In, InoParts, List, ListedFile, Listing, RawFile, ToldBundle, ap, arith, block_in, blocks_listed_of, flat_map, handed_in, length, map, size_of, subst, sym, whole_case, writes_of, ℕ}
use Rattle.trio_state.specs.Listed.{accepted_blocks}
use Rattle.trio_entries.specs.inner.Finding.{IsMarkedBy}
use Rattle.trio_entries.proofs.Few.{accepted_few, listed_own}
use Rattle.trio_entries.proofs.Judged.{told_apart, told_by, written_noted}
use Rattle.trio_entries.proofs.Unlisted.{told_few}
use Rattle.trio_entries.proofs.telling.accepted.Goals as goal

pub judge-requires-clause-own : goal.judge-requires-clause-own
judge-requires-clause-own c = λ n i.
    let k = c.args.case.now in
    let j = subst (λ (x : Listing). In n (map (λ (f : ListedFile). f.ino) x.files)) c.requires.listed i in
    subst (λ (ns : List ℕ). In n (ns ++ map (λ (x : InoParts). x.no) k.bundle.inodes)) (writes_of k) (listed_own (whole_case k c.args.rows.now) n j)

pub accepted_files-requires-clause-places : goal.accepted_files-requires-clause-places
accepted_files-requires-clause-places c =
    let few = told_few c.args.case.now c.args.rows.now c.args.listing.now.listing c.requires.listed c.requires.few in
    omega (arith, few, c.into_memory-handed.ensures.files)

pub accepted_files-requires-clause-entries : goal.accepted_files-requires-clause-entries
accepted_files-requires-clause-entries c =
    told_by c.args.case.now c.args.rows.now c.args.listing.now.listing c.requires.listed c.requires.rules

pub accepted_files-requires-clause-once : goal.accepted_files-requires-clause-once
accepted_files-requires-clause-once c =
    told_apart c.args.case.now c.args.rows.now c.args.listing.now.listing c.requires.listed c.requires.rules c.bounds.ensures.once

pub accepted_files-requires-clause-written : goal.accepted_files-requires-clause-written
accepted_files-requires-clause-written c =
    written_noted c.args.case.now c.args.rows.now c.args.notes.now c.requires.live c.requires.noted

pub accepted_blocks-requires-clause-places : goal.accepted_blocks-requires-clause-places
accepted_blocks-requires-clause-places c =
    let l = c.args.listing.now.listing in
    let files = ap (λ (fs : List RawFile). length (flat_map (λ (f : RawFile). blocks_listed_of l f.ino) fs)) c.deref.ensures.value in
    let few = accepted_few (whole_case c.args.case.now c.args.rows.now) l c.accepted_files.new.files.items c.requires.listed c.requires.rules c.accepted_files.ensures.once in
    omega (arith, files, few, c.into_memory-handed.ensures.blocks)

pub accepted_blocks-requires-clause-few : goal.accepted_blocks-requires-clause-few
accepted_blocks-requires-clause-few c =
    let l = c.args.listing.now.listing in
    let files = ap (λ (fs : List RawFile). length (flat_map (λ (f : RawFile). blocks_listed_of l f.ino) fs)) c.deref.ensures.value in
    let few = accepted_few (whole_case c.args.case.now c.args.rows.now) l c.accepted_files.new.files.items c.requires.listed c.requires.rules c.accepted_files.ensures.once in
    omega (arith, files, few, c.bounds.ensures.pages)

pub accepted_blocks-requires-clause-marked : goal.accepted_blocks-requires-clause-marked
accepted_blocks-requires-clause-marked c =
    subst (λ (h : Handed). IsMarkedBy h c.judge.new.self) (c.fill-handed.ensures ∙ ap handed_in c.bundle.ensures.bundle) (c.judge.ensures.marked c.fill-handed.result c.look.ensures.marked)

pub returns-clause-blocks : goal.returns-clause-blocks
returns-clause-blocks c =
    let k = c.args.case.now in
    let b = λ (fs : List RawFile). accepted_blocks (whole_case k c.args.rows.now) c.args.listing.now.listing c.args.notes.now (handed_in k.bundle) fs in
    ap (λ (x : ToldBundle). x.blocks) c.of.ensures ∙ ap (λ (h : Handed). map (block_in h) c.accepted_blocks.new.blocks.items) (c.fill-handed.ensures ∙ ap handed_in c.bundle.ensures.bundle)
    ∙ c.accepted_blocks.ensures c.args.rows.now ∙ ap b (c.deref.ensures.value ∙ sym c.shrink_to_fit.ensures.items ∙ sym c.from_vec.ensures)

pub fill-handed-requires : goal.fill-handed-requires
fill-handed-requires c =
    subst (λ (x : Bundled). HasHandedPlaces (size_of x) c.into_memory-handed.result.handed) (sym c.bundle.ensures.bundle) c.into_memory-handed.ensures.handed
