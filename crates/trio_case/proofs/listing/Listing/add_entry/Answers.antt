use Rattle.trio_case.proofs.Words.{◌+◌, ◌∙◌, ap, arith, get_or, length, noted, slice_set}
use Rattle.trio_case.proofs.Knowing.{knows_entry}
use Rattle.trio_case.proofs.listing.Listing.add_entry.Goals as goal

pub invariant_of-self : goal.invariant_of-self
invariant_of-self c =
    let was = c.self.invariant in
    let l = c.self.inside.lists in
    record {
      index_parts = was.index_parts;
      blocks_parts = was.blocks_parts;
      index_all = was.index_all;
      blocks_all = was.blocks_all;
      knows = rw (c.push.ensures.items, c.note_first.ensures ∙ ap (λ count. slice_set c.self.inside.first.items c.args.entry.ino (noted (get_or c.self.inside.first.items c.args.entry.ino 0) count)) {y = length l.entries.items + 1} (omega (arith, c.push.ensures.len))) (knows_entry c.self.inside.first.items l.entries.items c.args.entry was.knows);
      held = was.held;
      judged = was.judged;
      held_room = was.held_room;
      judged_room = was.judged_room;
      small = was.small;
      places = record {
        held = was.places.held;
        files = was.places.files;
        index = was.places.index;
        blocks = was.places.blocks;
        entries = omega (arith, was.places.entries, c.push.ensures.capacity);
      };
    }
