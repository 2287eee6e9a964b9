use Rattle.trio_case.proofs.Words.{◌∙◌, ◌≡◌, KeptPage, KeptPages, Some, [], ap, append-nil, arith, bytes_at, is_some, not, part, refl, slice_get_within, sym, with_item}
use Rattle.trio_case.proofs.Keeping.{Grows, count-set_less, count-set_same, index_unread, kept_at, keeps_set}
use Rattle.trio_case.proofs.chain.keep_index.Goals as goal

pub read_page-requires-clause-room : goal.read_page-requires-clause-room
read_page-requires-clause-room c =
    let some = index_unread c.args.kept.now c.args.at c.args.page c.requires.page.page c.requires.unread in
    omega (arith, some, c.requires.places.numbers, c.requires.many)

pub returns-in_err-index-clause-last : goal.returns-in_err-index-clause-last
returns-in_err-index-clause-last c =
    let some = index_unread c.args.kept.now c.args.at c.args.page c.requires.page.page c.requires.unread in
    omega (arith, some, c.read_page.ensures.reads)

pub index_mut-requires : goal.index_mut-requires
index_mut-requires c =
    let within = slice_get_within c.args.kept.now.pages.items c.args.at c.args.page c.requires.page.page in omega (arith, within)

pub returns-clause-keeps : goal.returns-clause-keeps
returns-clause-keeps c =
    let old = c.args.kept.now in
    let page = c.args.page in
    let was = kept_at c.args.case.now old page.no c.args.at page c.requires.keeps c.requires.page in
    let read = c.in_ok-index.ensures.read in
    let there : Some read.bytes ≡ Some was.bytes = sym read.here ∙ ap (λ b. bytes_at b page.place) c.bundle.ensures.bundle ∙ was.stands in
    let same : read.bytes ≡ was.bytes = cc in
    let q : KeptPage = record page { index = Some c.in_ok-index.index } in
    let after : KeptPages = record { order = old.order; pages = with_item old.pages c.args.at q; entries = old.entries; numbers = c.read_page.new.numbers; names = old.names } in
    let grows : Grows old after = record {
      more_entries = [];
      more_numbers = part c.in_ok-index.index.numbers c.read_page.new.numbers.items;
      more_names = [];
      entries = sym (append-nil old.entries.items);
      numbers = c.in_ok-index.ensures.more;
      names = sym (append-nil old.names.names);
    } in
    let says = rw (same, c.range.ensures) at read.says in
    keeps_set c.args.case.now old after c.args.at page q c.requires.keeps c.requires.page refl refl grows refl
    (record { bytes = was.bytes; stands = was.stands; here = was.here; entries = was.entries; index = says })

pub returns-clause-places : goal.returns-clause-places
returns-clause-places c =
    let old = c.args.kept.now in
    let page = c.args.page in
    let after : KeptPage = record page { index = Some c.in_ok-index.index } in
    let less = count-set_less (λ (x : KeptPage). not (is_some x.index)) old.pages.items c.args.at page after c.requires.page.page (ap (λ o. not (is_some o)) c.requires.unread) refl in
    let same = count-set_same (λ (x : KeptPage). not (is_some x.entries)) old.pages.items c.args.at page after c.requires.page.page refl in
    record {
      entries = omega (arith, same, c.requires.places.entries);
      numbers = omega (arith, less, c.requires.places.numbers, c.in_ok-index.ensures.len, c.in_ok-index.ensures.room, c.requires.many);
      names = omega (arith, same, c.requires.places.names);
    }

pub returns-clause-same : goal.returns-clause-same
returns-clause-same c =
    (refl, count-set_same (λ (x : KeptPage). not (is_some x.entries)) c.args.kept.now.pages.items c.args.at c.args.page (record (c.args.page) { index = Some c.in_ok-index.index }) c.requires.page.page refl)

pub returns-clause-looks : goal.returns-clause-looks
returns-clause-looks c =
    let less = count-set_less (λ (x : KeptPage). not (is_some x.index)) c.args.kept.now.pages.items c.args.at c.args.page (record (c.args.page) { index = Some c.in_ok-index.index }) c.requires.page.page (ap (λ o. not (is_some o)) c.requires.unread) refl in
    omega (arith, less, c.in_ok-index.ensures.reads)

pub returns-clause-last : goal.returns-clause-last
returns-clause-last c =
    let some = index_unread c.args.kept.now c.args.at c.args.page c.requires.page.page c.requires.unread in
    omega (arith, some, c.in_ok-index.ensures.reads)
