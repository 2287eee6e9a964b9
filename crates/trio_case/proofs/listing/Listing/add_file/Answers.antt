use Rattle.trio_case.proofs.Words.{◌++◌, ◌+◌, ◌∙◌, ◌∷◌, ◌≡◌, FileData, ListedFile, [], ap, arith, as_row, file_seen, is_within, length, length-append, length-map, map, map_push, refl}
use Rattle.trio_case.proofs.Knowing.{just_more}
use Rattle.trio_case.proofs.Parts.{all-push, all-within-more, files-push, flat-push, whole_within}
use Rattle.trio_case.proofs.listing.Listing.add_file.Goals as goal

pub invariant_of-self : goal.invariant_of-self
invariant_of-self c =
    let was = c.self.invariant in
    let l = c.self.inside.lists in
    let i = c.args.index.now in
    let b = c.args.blocks.now in
    let file : FileData = record { ino = c.args.ino; row = c.args.row; index = c.append.result; blocks = c.append-2.result } in
    let listed : ListedFile = record { ino = c.args.ino; row = as_row c.args.row; index = i; blocks = b } in
    let one = c.append.ensures in
    let two = c.append-2.ensures in
    let start_i : c.append.result.start ≡ length l.index.items = omega (arith, one.start) in
    let start_b : c.append-2.result.start ≡ length l.blocks.items = omega (arith, two.start) in
    let within_i : c.append.result.end ≡ length c.append.new.list.items = omega (arith, one.end) in
    let within_b : c.append-2.result.end ≡ length c.append-2.new.list.items = omega (arith, two.end) in
    let end_i : c.append.result.end ≡ length (l.index.items ++ c.args.index.now) = within_i ∙ ap length one.items in
    let end_b : c.append-2.result.end ≡ length (l.blocks.items ++ c.args.blocks.now) = within_b ∙ ap length two.items in
    let i_len : length c.append.new.list.items ≡ length l.index.items + length i = omega (arith, ap length one.items, length-append l.index.items i) in
    let b_len : length c.append-2.new.list.items ≡ length l.blocks.items + length b = omega (arith, ap length two.items, length-append l.blocks.items b) in
    let seen : map (file_seen c.append.new.list.items c.append-2.new.list.items) c.push.new.list.items ≡ map (file_seen l.index.items l.blocks.items) l.files.items ++ listed ∷ [] =
    rw (one.items, two.items, c.push.ensures.items) (files-push l.index.items l.blocks.items i b l.files.items file was.index_parts was.blocks_parts start_i end_i start_b end_b) in
    record {
      index_parts = rw c.push.ensures.items (all-push (λ f. is_within (length c.append.new.list.items) f.index) l.files.items file (all-within-more (λ f. f.index) (length l.index.items) (length c.append.new.list.items) l.files.items (omega (arith, i_len)) was.index_parts) (whole_within c.append.result (length l.index.items) (length c.append.new.list.items) start_i within_i (omega (arith, i_len))));
      blocks_parts = rw c.push.ensures.items (all-push (λ f. is_within (length c.append-2.new.list.items) f.blocks) l.files.items file (all-within-more (λ f. f.blocks) (length l.blocks.items) (length c.append-2.new.list.items) l.files.items (omega (arith, b_len)) was.blocks_parts) (whole_within c.append-2.result (length l.blocks.items) (length c.append-2.new.list.items) start_b within_b (omega (arith, b_len))));
      index_all = rw seen (omega (arith, i_len, was.index_all, flat-push (λ f. f.index) (map (file_seen l.index.items l.blocks.items) l.files.items) listed));
      blocks_all = rw seen (omega (arith, b_len, was.blocks_all, flat-push (λ f. f.blocks) (map (file_seen l.index.items l.blocks.items) l.files.items) listed));
      knows = was.knows;
      held = was.held;
      judged = rw (c.push.ensures.items, map_push (λ (f : FileData). f.ino)) (just_more (map (λ (f : FileData). f.ino) l.files.items) c.args.ino c.self.inside.judged _ was.judged c.add.ensures.numbers c.add.ensures.len);
      held_room = was.held_room;
      judged_room = omega (arith, was.judged_room, c.add.ensures.room);
      small = was.small;
      places = record {
        held = was.places.held;
        files = omega (arith, was.places.files, c.push.ensures.capacity);
        index = omega (arith, was.places.index, one.capacity);
        blocks = omega (arith, was.places.blocks, two.capacity);
        entries = was.places.entries;
      };
    }

pub returns : goal.returns
returns c =
    let was = c.self.invariant in
    let l = c.self.inside.lists in
    let file : FileData = record { ino = c.args.ino; row = c.args.row; index = c.append.result; blocks = c.append-2.result } in
    let one = c.append.ensures in
    let two = c.append-2.ensures in
    let start_i : c.append.result.start ≡ length l.index.items = omega (arith, one.start) in
    let start_b : c.append-2.result.start ≡ length l.blocks.items = omega (arith, two.start) in
    let within_i : c.append.result.end ≡ length c.append.new.list.items = omega (arith, one.end) in
    let within_b : c.append-2.result.end ≡ length c.append-2.new.list.items = omega (arith, two.end) in
    let end_i : c.append.result.end ≡ length (l.index.items ++ c.args.index.now) = within_i ∙ ap length one.items in
    let end_b : c.append-2.result.end ≡ length (l.blocks.items ++ c.args.blocks.now) = within_b ∙ ap length two.items in
    rw (← c.self.view_is, one.items, two.items, c.push.ensures.items, files-push l.index.items l.blocks.items c.args.index.now c.args.blocks.now l.files.items file was.index_parts was.blocks_parts start_i end_i start_b end_b) refl

pub add-requires : goal.add-requires
add-requires c =
    let was = c.self.invariant in
    let l = c.self.inside.lists in
    omega (arith, was.judged.few, was.judged_room, length-map l.files.items (λ (f : FileData). f.ino), length-map l.files.items (file_seen l.index.items l.blocks.items), rw (← c.self.view_is) at c.requires.files)
