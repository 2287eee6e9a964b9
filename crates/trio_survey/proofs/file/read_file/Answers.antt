use Rattle.trio_survey.proofs.Words.{◌∙◌, ◌≡◌, IsWithin, ap, entries_kept, file_kept, flat_map, listed_seen, listing_blocks, map, map-map, subst, sym}
use Rattle.trio_survey.proofs.file.read_file.Goals as goal

pub read_pages-requires-clause-keeps : goal.read_pages-requires-clause-keeps
read_pages-requires-clause-keeps c = c.in_ok-kept.ensures.keeps c.args.home.now.pages

pub returns-clause-within : goal.returns-clause-within
returns-clause-within c =
    let range = c.args.range in
    let kind = c.args.met.now.kind in
    let file = c.in-Ok.file in
    let kept = c.read_pages.new.kept.blocks in
    let listed : map listed_seen c.in_ok-entries.entries.items ≡ (file_kept range kept kind file).entries =
    c.in_ok-entries.ensures ∙ ap (flat_map (entries_kept range kept)) (c.listing_blocks.ensures ∙ ap (listing_blocks kind) c.deref.ensures.value) in
    let within = rw c.in-Ok.is at c.in_ok-file.ensures.within in
    rw map-map at (subst (λ ls. IsWithin range c.args.inodes file.chain.index.items file.chain.blocks.items (map (λ l. l.entry.ino) ls)) (sym listed) within)
