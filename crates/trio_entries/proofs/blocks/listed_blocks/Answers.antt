use Rattle.trio_entries.proofs.Words.{◌∙◌, ListedFile, None, Some, [], ap, option_map, option_map_or, sym}
use Rattle.trio_entries.proofs.Finding.{map_or_is, place_within, placed}
use Rattle.trio_entries.proofs.blocks.listed_blocks.Goals as goal

pub blocks-requires : goal.blocks-requires
blocks-requires c = place_within (λ (f : ListedFile). f.ino) c.args.ino c.args.listing.now.listing.files c.in-Some.at (c.in-Some.ensures c.args.listing.now.listing c.requires)

pub returns-in-Some : goal.returns-in-Some
returns-in-Some c =
    let there = placed (λ (f : ListedFile). f.ino) c.args.ino c.args.listing.now.listing.files (Some c.in-Some.at) (c.in-Some.ensures c.args.listing.now.listing c.requires) in
    sym (map_or_is (λ (f : ListedFile). f.blocks) _ [] c.blocks-in-Some.result.now (ap (option_map (λ (f : ListedFile). f.blocks)) there ∙ c.blocks-in-Some.ensures))

pub returns-in-None : goal.returns-in-None
returns-in-None c =
    let none = placed (λ (f : ListedFile). f.ino) c.args.ino c.args.listing.now.listing.files None (c.in-None.ensures c.args.listing.now.listing c.requires) in
    sym (ap (λ o. option_map_or (λ (f : ListedFile). f.blocks) o []) none)
