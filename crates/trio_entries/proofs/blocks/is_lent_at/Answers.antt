use Rattle.trio_entries.proofs.Words.{◌∙◌, LentFile, [], ap, eqb, false, option_map, option_map_or, slice_get, sym}
use Rattle.trio_entries.proofs.LentLemmas.{block_number_at, block_numbers, lent_blocks_are}
use Rattle.trio_entries.proofs.blocks.is_lent_at.Goals as goal

pub returns-in_default : goal.returns-in_default
returns-in_default c =
    let none = lent_blocks_are c.args.case.now.bundle c.args.ino ∙ ap (λ o. option_map_or (λ (f : LentFile). block_numbers f.stands.blocks) o []) (sym c.in_default.ensures) in
    sym (ap (λ l. option_map_or (λ q. eqb q c.args.page) (slice_get l c.args.at) false) none)

pub returns-in-Some-block_no : goal.returns-in-Some-block_no
returns-in-Some-block_no c =
    let lent = lent_blocks_are c.args.case.now.bundle c.args.ino ∙ ap (λ o. option_map_or (λ (f : LentFile). block_numbers f.stands.blocks) o []) (sym c.in-Some.ensures) in
    sym (ap (λ l. option_map_or (λ q. eqb q c.args.page) (slice_get l c.args.at) false) lent
    ∙ ap (λ o. option_map_or (λ q. eqb q c.args.page) o false) (block_number_at c.in-Some.lease.now.stands.blocks c.args.at ∙ ap (option_map (λ no. no.0)) (sym c.in-Some-block_no.ensures)))

pub returns-in-None : goal.returns-in-None
returns-in-None c =
    let lent = lent_blocks_are c.args.case.now.bundle c.args.ino ∙ ap (λ o. option_map_or (λ (f : LentFile). block_numbers f.stands.blocks) o []) (sym c.in-Some.ensures) in
    sym (ap (λ l. option_map_or (λ q. eqb q c.args.page) (slice_get l c.args.at) false) lent
    ∙ ap (λ o. option_map_or (λ q. eqb q c.args.page) o false) (block_number_at c.in-Some.lease.now.stands.blocks c.args.at ∙ ap (option_map (λ no. no.0)) (sym c.in-None.ensures)))
