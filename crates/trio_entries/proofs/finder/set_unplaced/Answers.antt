use Rattle.trio_entries.proofs.Words.{◌++◌, ◌+◌, ◌∙◌, ◌≡◌, Bundled, CaseShown, InoParts, LentFile, None, Option, ap, arith, length, length-append, length-map, length-replicate, map, own_numbers, replicate, ℕ}
use Rattle.std.proofs.lemmas.List.{replicate-append-replicate}
use Rattle.trio_entries.proofs.finder.set_unplaced.Goals as goal

own_count : (k : CaseShown) → length (own_numbers k) ≡ length k.bundle.writes + length k.bundle.inodes
own_count k =
    let b = k.bundle in
    omega (arith, length-append (map (λ (f : LentFile). f.stands.ino) b.writes) (map (λ (n : InoParts). n.no) b.inodes), length-map b.writes (λ (f : LentFile). f.stands.ino), length-map b.inodes (λ (n : InoParts). n.no))

pub add_unplaced-requires : goal.add_unplaced-requires
add_unplaced-requires c =
    let writes = ap length c.writes.ensures ∙ ap (λ (b : Bundled). length b.writes) c.bundle-bundle.ensures.bundle in
    omega (arith, own_count c.args.case.now, writes, c.requires.places, ap length c.requires.empty)

pub add_unplaced-requires-2 : goal.add_unplaced-requires-2
add_unplaced-requires-2 c =
    let writes = ap length c.writes.ensures ∙ ap (λ (b : Bundled). length b.writes) c.bundle-bundle.ensures.bundle in
    let inodes = ap length c.inodes.ensures ∙ ap (λ (b : Bundled). length b.inodes) c.bundle-bundle.ensures.bundle in
    let first = ap length c.add_unplaced.ensures.items ∙ length-append c.args.judged.now.items (replicate {A = Option ℕ} (length c.writes.result.now) None) in
    omega (arith, own_count c.args.case.now, writes, inodes, first, length-replicate {A = Option ℕ} (length c.writes.result.now) None, c.requires.places, ap length c.requires.empty, c.add_unplaced.ensures.capacity)

pub returns : goal.returns
returns c =
    let writes = ap length c.writes.ensures ∙ ap (λ (b : Bundled). length b.writes) c.bundle-bundle.ensures.bundle in
    let inodes = ap length c.inodes.ensures ∙ ap (λ (b : Bundled). length b.inodes) c.bundle-bundle.ensures.bundle in
    let n : (length c.writes.result.now) + (length c.inodes.result.now) ≡ length (own_numbers c.args.case.now) = omega (arith, own_count c.args.case.now, writes, inodes) in
    c.add_unplaced-2.ensures.items ∙ ap (λ l. l ++ replicate {A = Option ℕ} (length c.inodes.result.now) None) (c.add_unplaced.ensures.items ∙ ap (λ l. l ++ replicate {A = Option ℕ} (length c.writes.result.now) None) c.requires.empty)
    ∙ replicate-append-replicate {A = Option ℕ} (length c.writes.result.now) (length c.inodes.result.now) None ∙ ap (λ m. replicate {A = Option ℕ} m None) n
