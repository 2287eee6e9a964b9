use Rattle.trio_case.proofs.Words.{arith}
use Rattle.trio_case.proofs.Knowing.{just_more}
use Rattle.trio_case.proofs.listing.Listing.add_held.Goals as goal

pub add-requires : goal.add-requires
add-requires c =
    let was = c.self.invariant in
    omega (arith, was.held.few, was.held_room, rw (← c.self.view_is) at c.requires)

pub invariant_of-self : goal.invariant_of-self
invariant_of-self c =
    let was = c.self.invariant in
    let l = c.self.inside.lists in
    record {
      index_parts = was.index_parts;
      blocks_parts = was.blocks_parts;
      index_all = was.index_all;
      blocks_all = was.blocks_all;
      knows = was.knows;
      held = rw c.push.ensures.items (just_more l.held.items c.args.ino c.self.inside.held _ was.held c.add.ensures.numbers c.add.ensures.len);
      judged = was.judged;
      held_room = omega (arith, was.held_room, c.add.ensures.room);
      judged_room = was.judged_room;
      small = was.small;
      places = record {
        held = omega (arith, was.places.held, c.push.ensures.capacity);
        files = was.places.files;
        index = was.places.index;
        blocks = was.places.blocks;
        entries = was.places.entries;
      };
    }
