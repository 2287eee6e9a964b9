use Rattle.trio_judge.proofs.Words.{◌<◌, ◌^◌, ◌∙◌, ◌≡◌, FileRead, Ok, Some, [], ap, arith, block_count, body_of, case_in, cond, entries_kept, file_in, file_in_room, file_met, flat_map, has_body, is_directory, list_all, rules, true}
use Rattle.std.proofs.Common.{IsTrue}
use Rattle.trio_judge.proofs.FoundAgain.{found_head, found_of, heads_more}
use Rattle.trio_judge.proofs.again.mark_head.Goals as goal

pub returns-then-have_bodies : goal.returns-then-have_bodies
returns-then-have_bodies c =
    let k = case_in c.args.case.now in
    let m = file_met c.args.file.now in
    let room = c.args.room.now in
    let body = c.in-Some.body in
    let f : FileRead = file_in_room room c.args.file.now.kind body in
    let is : body_of c.args.file.now.kind c.args.case.now.range c.args.file.now.body ≡ Some body = search rules in
    let read : file_in k m ≡ Ok f = c.requires.read body is in
    let dir : is_directory c.args.file.now.kind ≡ true = search rules in
    let some : 0 < block_count body.size = search rules in
    let small : c.args.case.now.range.end < 2 ^ 32 = search rules in
    let yes : IsTrue c.have_bodies.result = search rules in
    let bodies : list_all (has_body c.args.case.now.range) f.entries ≡ true = ap (λ x. list_all (has_body c.args.case.now.range) (cond x (flat_map (entries_kept room.kept) room.blocks.items) [])) dir ∙ c.have_bodies.ensures yes in
    record {
      heads = λ found all es.
          heads_more k found c.args.heads.now.items c.mark-new.new.marks.items body.head (omega (arith, c.mark-new.ensures.len)) c.mark-new.ensures.marked all (found_head k found m f c.requires.keeps.first small dir read some bodies (found_of k found m f read es));
    }
