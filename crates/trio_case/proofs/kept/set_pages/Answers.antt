use Rattle.trio_case.proofs.Words.{◌++◌, ◌+◌, ◌∙◌, ◌≡◌, AreCountedIn, FreshParts, KeptPage, LentFile, LentPage, List, Some, ap, append_assoc, arith, flat_map, length, length-append, length-map, map, numbers_of, refl, slice_get, slice_get_read, subst, sym, take, take_all, ℕ}
use Rattle.trio_case.proofs.Making.{bundle_numbers, file_numbers, files_few, files_more, flat_map_more}
use Rattle.trio_case.proofs.kept.set_pages.Goals as goal

pub add_index-requires : goal.add_index-requires
add_index-requires c =
    let b = c.args.bundle.now in
    let writes = c.writes-writes.result.now in
    let i = c.loop-file.file in
    let f : LentFile = c.index-writes-file.result in
    let there : slice_get writes i ≡ Some f = slice_get_read writes _ i f refl (omega arith) c.index-writes-file.is in
    let lease : slice_get b.writes i ≡ Some f = rw c.writes-writes.ensures at there in
    let turn = c.loop-file.invariant in
    let so_far : length c.loop-file.pages.items ≡ length (flat_map file_numbers (take i b.writes)) =
    sym (length-map c.loop-file.pages.items (λ (p : KeptPage). p.no)) ∙ ap length turn.numbers ∙ ap (λ fs. length (flat_map file_numbers (take i fs))) c.writes-writes.ensures in
    omega (arith, so_far, files_more b.writes i f lease, files_few b (i + 1), turn.capacity, c.requires)

pub add_blocks-requires : goal.add_blocks-requires
add_blocks-requires c =
    let b = c.args.bundle.now in
    let writes = c.writes-writes.result.now in
    let i = c.loop-file.file in
    let f : LentFile = c.index-writes-file.result in
    let there : slice_get writes i ≡ Some f = slice_get_read writes _ i f refl (omega arith) c.index-writes-file.is in
    let lease : slice_get b.writes i ≡ Some f = rw c.writes-writes.ensures at there in
    let turn = c.loop-file.invariant in
    let number : LentPage → ℕ = λ p. p.no.0 in
    let so_far : length c.loop-file.pages.items ≡ length (flat_map file_numbers (take i b.writes)) =
    sym (length-map c.loop-file.pages.items (λ (p : KeptPage). p.no)) ∙ ap length turn.numbers ∙ ap (λ fs. length (flat_map file_numbers (take i fs))) c.writes-writes.ensures in
    let more = ap length c.add_index.ensures.numbers ∙ length-append (numbers_of c.loop-file.pages.items) (map number f.stands.index) in
    omega (arith, so_far, more, length-map f.stands.index number, length-map c.loop-file.pages.items (λ (p : KeptPage). p.no), length-map c.add_index.new.pages.items (λ (p : KeptPage). p.no), files_more b.writes i f lease, files_few b (i + 1), turn.capacity, c.add_index.ensures.capacity, c.requires)

pub add_fresh-requires : goal.add_fresh-requires
add_fresh-requires c =
    let b = c.args.bundle.now in
    let turn = c.loop-file.invariant in
    let so_far : length c.loop-file.pages.items ≡ length (flat_map file_numbers (take c.loop-file.file b.writes)) =
    sym (length-map c.loop-file.pages.items (λ (p : KeptPage). p.no)) ∙ ap length turn.numbers ∙ ap (λ fs. length (flat_map file_numbers (take c.loop-file.file fs))) c.writes-writes.ensures in
    omega (arith, so_far, files_few b c.loop-file.file, ap length c.pages.ensures, turn.capacity, c.requires)

pub loop-file-preserved : goal.loop-file-preserved
loop-file-preserved c =
    let writes = c.writes-writes.result.now in
    let i = c.loop-file.file in
    let f : LentFile = c.index-writes-file.result in
    let there : slice_get writes i ≡ Some f = slice_get_read writes _ i f refl (omega arith) c.index-writes-file.is in
    let lease : slice_get c.args.bundle.now.writes i ≡ Some f = rw c.writes-writes.ensures at there in
    let turn = c.loop-file.invariant in
    let index = map (λ (p : LentPage). p.no.0) f.stands.index in
    let blocks = map (λ (p : LentPage). p.no.0) f.stands.blocks in
    record {
      numbers = c.add_blocks.ensures.numbers ∙ ap (λ x. x ++ blocks) c.add_index.ensures.numbers ∙ append_assoc (numbers_of c.loop-file.pages.items) index blocks
          ∙ ap (λ x. x ++ file_numbers f) turn.numbers ∙ sym (flat_map_more file_numbers writes i f there);
      unread = c.add_blocks.ensures.unread c.args.bundle.now lease (c.add_index.ensures.unread c.args.bundle.now lease turn.unread);
      counted = c.add_blocks.ensures.counted (c.add_index.ensures.counted turn.counted);
      capacity = omega (arith, turn.capacity, c.add_index.ensures.capacity, c.add_blocks.ensures.capacity);
    }

pub returns-clause-numbers : goal.returns-clause-numbers
returns-clause-numbers c =
    let writes = c.writes-writes.result.now in
    let all : take c.loop-file.file writes ≡ writes = take_all c.loop-file.file writes (omega arith) in
    let fresh : List FreshParts → List ℕ = map (λ p. p.no.0) in
    c.add_fresh.ensures.numbers ∙ ap (λ x. x ++ fresh c.pages.result.now) c.loop-file.invariant.numbers ∙ ap (λ x. flat_map file_numbers x ++ fresh c.pages.result.now) (all ∙ c.writes-writes.ensures)
    ∙ ap (λ x. flat_map file_numbers c.args.bundle.now.writes ++ fresh x) c.pages.ensures ∙ sym (bundle_numbers c.args.bundle.now)

pub returns-clause-unread : goal.returns-clause-unread
returns-clause-unread c = c.add_fresh.ensures.unread c.args.bundle.now (sym c.pages.ensures) c.loop-file.invariant.unread

pub returns-clause-counted : goal.returns-clause-counted
returns-clause-counted c =
    subst (λ ns. AreCountedIn ns c.add_fresh.new.pages.items) (returns-clause-numbers c) (c.add_fresh.ensures.counted c.loop-file.invariant.counted)
