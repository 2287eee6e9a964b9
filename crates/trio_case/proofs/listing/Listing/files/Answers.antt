use Rattle.trio_case.proofs.Knowing.{numbers-seen, rows-seen}
use Rattle.trio_case.proofs.listing.Listing.files.Goals as goal

pub returns-clause-numbers : goal.returns-clause-numbers
returns-clause-numbers c = rw (← c.self.view_is, c.deref.ensures.value) (numbers-seen c.self.inside.lists.index.items c.self.inside.lists.blocks.items c.self.inside.lists.files.items)

pub returns-clause-rows : goal.returns-clause-rows
returns-clause-rows c = rw (← c.self.view_is, c.deref.ensures.value) (rows-seen c.self.inside.lists.index.items c.self.inside.lists.blocks.items c.self.inside.lists.files.items)
