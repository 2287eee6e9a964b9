use Rattle.trio_commit.proofs.Words.{◌-◌, ◌∙◌, HasPagesBelow, ListedFile, Listing, ap, arith, get_or, length, length-with_all, subst, sym}
use Rattle.trio_lists.proofs.Members.{In-left, In-right}
use Rattle.trio_commit.proofs.Cells.{file_at, listed_turn, no_file, told_below}
use Rattle.trio_commit.proofs.owners.give_listed.Goals as goal

pub give-requires : goal.give-requires
give-requires c =
    let l : Listing = c.args.listing.now.listing in
    let turn = c.loop-left in
    told_below l (turn.left - 1) (λ (f : ListedFile). f.index) c.index.result.now (length turn.owners)
    (subst (λ k. HasPagesBelow k l) (sym turn.invariant.size) c.requires) (λ f p i. In-left p f.index f.blocks i) c.index.ensures

pub give-requires-in-loop-left : goal.give-requires-in-loop-left
give-requires-in-loop-left c =
    let l : Listing = c.args.listing.now.listing in
    let turn = c.loop-left in
    let ino = (get_or c.files-files.result.now (turn.left - 1) no_file).ino in
    let size = ap length c.give.ensures ∙ length-with_all ino c.index.result.now turn.owners ∙ turn.invariant.size in
    told_below l (turn.left - 1) (λ (f : ListedFile). f.blocks) c.blocks-in-loop-left.result.now (length c.give.new.owners)
    (subst (λ k. HasPagesBelow k l) (sym size) c.requires) (λ f p i. In-right p f.index f.blocks i) c.blocks-in-loop-left.ensures

pub loop-left-preserved : goal.loop-left-preserved
loop-left-preserved c =
    let l : Listing = c.args.listing.now.listing in
    let turn = c.loop-left in
    let told = c.files-files.result.now in
    let ino = (get_or told (turn.left - 1) no_file).ino in
    let some = c.loop-left-test.true in
    let within = turn.invariant.within in
    let file = file_at l told (turn.left - 1) c.index.result.now c.blocks-in-loop-left.result.now (length turn.owners)
    (subst (λ k. HasPagesBelow k l) (sym turn.invariant.size) c.requires) c.files-files.ensures.numbers c.index.ensures c.blocks-in-loop-left.ensures in
    record {
      given = listed_turn l told c.args.owners.now turn.owners c.give.new.owners c.give-in-loop-left.new.owners turn.left c.index.result.now c.blocks-in-loop-left.result.now some file c.give.ensures c.give-in-loop-left.ensures turn.invariant.given;
      size = ap length c.give-in-loop-left.ensures ∙ length-with_all ino c.blocks-in-loop-left.result.now c.give.new.owners ∙ ap length c.give.ensures ∙ length-with_all ino c.index.result.now turn.owners ∙ turn.invariant.size;
      within = omega (arith, within);
    }
