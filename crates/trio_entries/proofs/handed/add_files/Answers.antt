use Rattle.trio_entries.proofs.Words.{◌++◌, ◌+◌, ◌∙◌, ◌∷◌, ◌≡◌, HandedHead, IsRoom, LentFile, List, [], ap, append_assoc, arith, drop, drop_all, file_in, file_pages, flat_map, head_of, length, length-append, map, refl, subst, sym, take}
use Rattle.trio_entries.proofs.FlatPlaces.{drop_file, mapped_more}
use Rattle.trio_entries.proofs.Turns.{told_more}
use Rattle.trio_entries.proofs.handed.add_files.Goals as goal

pub loop-lease-preserved : goal.loop-lease-preserved
loop-lease-preserved c =
    let fs = c.args.leases.now in
    let i = c.loop-lease.lease-index in
    let f = c.lease-item.result in
    let within = c.loop-lease-test.true in
    let here = c.lease-item.is in
    let head : LentFile → HandedHead = λ x. head_of (file_in x.stands) in
    let before = flat_map file_pages (take i fs) in
    let old = c.args.pages.now.pages.items in
    let rest = length (flat_map file_pages (drop (i + 1) fs)) in
    let split : length (flat_map file_pages (drop i fs)) ≡ rest + length (file_pages f) = omega (arith, ap (λ (xs : List LentFile). length (flat_map file_pages xs)) (drop_file fs i f within here), length-append (file_pages f) (flat_map file_pages (drop (i + 1) fs))) in
    record {
      heads = c.push_reserved.ensures.items ∙ ap (λ hs. hs ++ c.head.result ∷ []) c.loop-lease.invariant.heads ∙ ap (λ h. map head (take i fs) ++ h ∷ []) c.head.ensures ∙ sym (mapped_more head fs i f within here);
      capacity = c.push_reserved.ensures.capacity ∙ c.loop-lease.invariant.capacity;
      pages = c.add_file.ensures.pages ∙ ap (λ ps. ps ++ file_pages f) c.loop-lease.invariant.pages ∙ append_assoc old before (file_pages f) ∙ ap (λ ps. old ++ ps) (told_more file_pages fs i f before (before ++ file_pages f) within here refl refl);
      room = c.add_file.ensures.room rest (subst (λ m. IsRoom m c.loop-lease.pages) split c.loop-lease.invariant.room);
      rooms = λ n r.
          let more : n + length (flat_map file_pages (drop i fs)) ≡ (n + rest) + length (file_pages f) = omega (arith, split) in
          c.add_file.ensures.room (n + rest) (subst (λ m. IsRoom m c.loop-lease.pages) more (c.loop-lease.invariant.rooms n r));
    }

pub returns-clause-room : goal.returns-clause-room
returns-clause-room c = λ n r.
    let none = ap (λ (xs : List LentFile). length (flat_map file_pages xs)) (drop_all c.loop-lease.lease-index c.args.leases.now (omega (arith, c.loop-lease-test.false))) in
    let done : n + length (flat_map file_pages (drop c.loop-lease.lease-index c.args.leases.now)) ≡ n = omega (arith, none) in
    subst (λ m. IsRoom m c.loop-lease.pages) done (c.loop-lease.invariant.rooms n r)
