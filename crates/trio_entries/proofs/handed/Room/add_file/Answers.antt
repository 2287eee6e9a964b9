use Rattle.trio_entries.proofs.Words.{◌+◌, ◌≡◌, IsRoom, arith, file_pages, index_in, length, length-append, map, subst}
use Rattle.trio_entries.specs.Handed.{block_in}
use Rattle.trio_entries.proofs.handed.Room.add_file.Goals as goal

pub add_all-requires-2 : goal.add_all-requires-2
add_all-requires-2 c =
    let f = c.args.lease.now in
    let blocks = length (map block_in f.stands.blocks) in
    let all : length (file_pages f) ≡ blocks + length (map index_in f.stands.index) = omega (arith, length-append (map index_in f.stands.index) (map block_in f.stands.blocks)) in
    c.add_all.ensures.room blocks (subst (λ m. IsRoom m c.args.self.now) all c.requires)

pub returns-clause-room : goal.returns-clause-room
returns-clause-room c = λ n r.
    let f = c.args.lease.now in
    let blocks = length (map block_in f.stands.blocks) in
    let all : n + length (file_pages f) ≡ (n + blocks) + length (map index_in f.stands.index) = omega (arith, length-append (map index_in f.stands.index) (map block_in f.stands.blocks)) in
    c.add_all-2.ensures.room n (c.add_all.ensures.room (n + blocks) (subst (λ m. IsRoom m c.args.self.now) all r))
