use Rattle.trio_case.proofs.Words.{◌∙◌, ◌≡◌, Chain, List, Listed, Some, ap, body_of, bundle_core, case_in, entries_kept, flat_map, is_directory, rules, sym, true}
use Rattle.trio_case.proofs.Files.{file_directory}
use Rattle.trio_case.proofs.file.read_file.Goals as goal

pub returns-in-Some-repeated_name-clause-file : goal.returns-in-Some-repeated_name-clause-file
returns-in-Some-repeated_name-clause-file c = λ m k e.
    let core = bundle_core (case_in c.args.case.now) in
    let room = c.read_chain.new.room in
    let chain : Chain = record { index = room.index.items; blocks = room.blocks.items } in
    let es : List Listed = flat_map (entries_kept c.read_entries.new.kept) room.blocks.items in
    let read : body_of m.kind core.range m.body ≡ Some c.in-Some.body = rw (k, e) (search rules) in
    let dir : is_directory c.args.kind ≡ true = search rules in
    let entries = sym (rw c.deref.ensures.value at c.in_default-read_entries.ensures.entries) in
    let repeated = sym (rw c.deref-then-is_directory.ensures.value at c.in-Some-repeated_name.ensures.repeated) in
    let whole = file_directory core m c.in-Some.body chain es _ read c.in_default-read_chain.ensures.chain (ap is_directory k ∙ dir) entries repeated in
    sym whole

pub returns-in_default-repeated_name-clause-file : goal.returns-in_default-repeated_name-clause-file
returns-in_default-repeated_name-clause-file c = λ m k e.
    let core = bundle_core (case_in c.args.case.now) in
    let room = c.read_chain.new.room in
    let chain : Chain = record { index = room.index.items; blocks = room.blocks.items } in
    let es : List Listed = flat_map (entries_kept c.read_entries.new.kept) room.blocks.items in
    let read : body_of m.kind core.range m.body ≡ Some c.in-Some.body = rw (k, e) (search rules) in
    let dir : is_directory c.args.kind ≡ true = search rules in
    let entries = sym (rw c.deref.ensures.value at c.in_default-read_entries.ensures.entries) in
    let repeated = sym (rw c.deref-then-is_directory.ensures.value at c.in_default-repeated_name.ensures.repeated) in
    let whole = file_directory core m c.in-Some.body chain es _ read c.in_default-read_chain.ensures.chain (ap is_directory k ∙ dir) entries repeated in
    rw dir (sym whole)
