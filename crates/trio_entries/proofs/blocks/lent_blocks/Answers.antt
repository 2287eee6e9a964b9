use Rattle.trio_entries.proofs.Words.{◌∙◌, LentFile, [], ap, option_map_or, sym}
use Rattle.trio_entries.proofs.LentLemmas.{block_numbers, lent_blocks_are}
use Rattle.trio_entries.proofs.blocks.lent_blocks.Goals as goal

pub returns-in-Some : goal.returns-in-Some
returns-in-Some c =
    sym (lent_blocks_are c.args.case.now.bundle c.args.ino ∙ ap (λ o. option_map_or (λ (f : LentFile). block_numbers f.stands.blocks) o []) (sym c.in-Some.ensures))

pub returns-in-None : goal.returns-in-None
returns-in-None c =
    sym (lent_blocks_are c.args.case.now.bundle c.args.ino ∙ ap (λ o. option_map_or (λ (f : LentFile). block_numbers f.stands.blocks) o []) (sym c.in-None.ensures))
