use Rattle.trio_entries.proofs.Words.{◌∙◌, length, own_numbers}
use Rattle.trio_case.specs.declared.listing.ListedFile.{ListedFile}
use Rattle.trio_entries.proofs.Finding.{or_turn, place_more_by, unnoted_length}
use Rattle.trio_entries.proofs.finder.place_judged.Goals as goal

pub place_one-requires : goal.place_one-requires
place_one-requires c =
    c.loop-at.invariant.0 ∙ unnoted_length c.args.judged.now.items (length (own_numbers c.args.case.now)) c.requires

pub loop-at-preserved : goal.loop-at-preserved
loop-at-preserved c = (
  c.place_one.ensures.len ∙ c.loop-at.invariant.0,
  λ n i.
      or_turn _ _ _ _ _ (c.place_one.ensures.placed n i) (c.loop-at.invariant.1 n i)
      (place_more_by (λ (f : ListedFile). f.ino) n c.loop-at.at c.args.files.now _ c.loop-at-test.true),
)
