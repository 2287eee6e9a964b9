use Rattle.std.proofs.Common.{◌∙◌, ap}
use Rattle.trio_lists.specs.Sorting.{sorted_by_name}
use Rattle.trio_nodes.specs.Nodes.{entry_name}
use Rattle.trio_session.specs.Seen.{pages_shown}
use Rattle.trio_deeds.proofs.Listing.{names_of_pages-entries}
use Rattle.trio_deeds.proofs.names.sorted_names.Goals as goal

pub returns-clause-sorted : goal.returns-clause-sorted
returns-clause-sorted c =
    c.in_ok-sort_by_name.ensures.sorted ∙ ap (sorted_by_name entry_name) (c.in_ok-names.ensures.names ∙ names_of_pages-entries (pages_shown c.args.session.now c.args.dir))
