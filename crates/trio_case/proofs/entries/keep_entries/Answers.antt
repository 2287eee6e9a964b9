use Rattle.trio_case.proofs.Words.{◌∙◌, KeptPage, KeptPages, Some, [], ap, append-nil, arith, bytes_at, drop, is_some, length, not, refl, slice_get_within, sym, vec_len, with_item}
use Rattle.trio_case.proofs.Keeping.{Grows, behind, block_here, block_keeps, block_others, block_unread, count-set_less, count-set_same}
use Rattle.trio_case.proofs.entries.keep_entries.Goals as goal

pub read_page-read-requires-clause-room : goal.read_page-read-requires-clause-room
read_page-read-requires-clause-room c =
    let some = block_unread c.args.kept.now c.args.at c.args.page c.requires.page.page c.requires.unread in
    omega (arith, some, c.requires.places.entries refl)

pub read_page-read-requires-clause-space : goal.read_page-read-requires-clause-space
read_page-read-requires-clause-space c =
    let some = block_unread c.args.kept.now c.args.at c.args.page c.requires.page.page c.requires.unread in
    omega (arith, some, c.requires.places.names refl)

pub index_mut-requires : goal.index_mut-requires
index_mut-requires c =
    let within = slice_get_within c.args.kept.now.pages.items c.args.at c.args.page c.requires.page.page in omega (arith, within)

pub returns-clause-here : goal.returns-clause-here
returns-clause-here c =
    let page = c.args.page in
    let old = c.args.kept.now in
    let read = c.read_page-read.ensures in
    let q : KeptPage = record page { entries = Some c.read_page-read.result } in
    let new : KeptPages = record { order = old.order; pages = with_item old.pages c.args.at q; entries = c.read_page-read.new.entries; numbers = old.numbers; names = c.read_page-read.new.names } in
    let grows : Grows old new = record {
      more_entries = drop (vec_len old.entries) new.entries.items;
      more_numbers = [];
      more_names = drop (length old.names.names) new.names.names;
      entries = behind (vec_len old.entries) old.entries.items new.entries.items (omega arith) read.before;
      numbers = sym (append-nil old.numbers.items);
      names = behind (length old.names.names) old.names.names new.names.names refl read.names;
    } in
    block_here c.args.case.now old new page.no c.args.at page q c.read_page-read.result c.requires.keeps c.requires.page refl refl refl c.requires.unread grows
    (λ bytes h. rw c.inodes.ensures at (read.read bytes (ap (λ b. bytes_at b page.place) c.bundle.ensures.bundle ∙ h)))

pub returns-clause-others : goal.returns-clause-others
returns-clause-others c =
    let page = c.args.page in
    let old = c.args.kept.now in
    let read = c.read_page-read.ensures in
    let q : KeptPage = record page { entries = Some c.read_page-read.result } in
    let new : KeptPages = record { order = old.order; pages = with_item old.pages c.args.at q; entries = c.read_page-read.new.entries; numbers = old.numbers; names = c.read_page-read.new.names } in
    let grows : Grows old new = record {
      more_entries = drop (vec_len old.entries) new.entries.items;
      more_numbers = [];
      more_names = drop (length old.names.names) new.names.names;
      entries = behind (vec_len old.entries) old.entries.items new.entries.items (omega arith) read.before;
      numbers = sym (append-nil old.numbers.items);
      names = behind (length old.names.names) old.names.names new.names.names refl read.names;
    } in
    block_others c.args.case.now old new page.no c.args.at page q c.read_page-read.result c.requires.keeps c.requires.page refl refl refl c.requires.unread grows
    (λ bytes h. rw c.inodes.ensures at (read.read bytes (ap (λ b. bytes_at b page.place) c.bundle.ensures.bundle ∙ h)))

pub returns-clause-keeps : goal.returns-clause-keeps
returns-clause-keeps c =
    let page = c.args.page in
    let old = c.args.kept.now in
    let read = c.read_page-read.ensures in
    let q : KeptPage = record page { entries = Some c.read_page-read.result } in
    let new : KeptPages = record { order = old.order; pages = with_item old.pages c.args.at q; entries = c.read_page-read.new.entries; numbers = old.numbers; names = c.read_page-read.new.names } in
    let grows : Grows old new = record {
      more_entries = drop (vec_len old.entries) new.entries.items;
      more_numbers = [];
      more_names = drop (length old.names.names) new.names.names;
      entries = behind (vec_len old.entries) old.entries.items new.entries.items (omega arith) read.before;
      numbers = sym (append-nil old.numbers.items);
      names = behind (length old.names.names) old.names.names new.names.names refl read.names;
    } in
    block_keeps c.args.case.now old new page.no c.args.at page q c.read_page-read.result c.requires.keeps c.requires.page refl refl refl c.requires.unread grows
    (λ bytes h. rw c.inodes.ensures at (read.read bytes (ap (λ b. bytes_at b page.place) c.bundle.ensures.bundle ∙ h)))

pub returns-clause-places : goal.returns-clause-places
returns-clause-places c =
    let page = c.args.page in
    let pages = c.args.kept.now.pages.items in
    let read = c.read_page-read.ensures in
    let q : KeptPage = record page { entries = Some c.read_page-read.result } in
    let less = count-set_less (λ (x : KeptPage). not (is_some x.entries)) pages c.args.at page q c.requires.page.page (ap (λ o. not (is_some o)) c.requires.unread) refl in
    let same = count-set_same (λ (x : KeptPage). not (is_some x.index)) pages c.args.at page q c.requires.page.page refl in
    record {
      entries = λ on. omega (arith, less, c.requires.places.entries refl, read.len, read.room);
      numbers = omega (arith, same, c.requires.places.numbers);
      names = λ on. omega (arith, less, c.requires.places.names refl, read.more, read.space);
    }

pub returns-clause-most : goal.returns-clause-most
returns-clause-most c =
    let page = c.args.page in
    let q : KeptPage = record page { entries = Some c.read_page-read.result } in
    let less = count-set_less (λ (x : KeptPage). not (is_some x.entries)) c.args.kept.now.pages.items c.args.at page q c.requires.page.page (ap (λ o. not (is_some o)) c.requires.unread) refl in
    omega (arith, less, c.read_page-read.ensures.more)

pub returns-clause-same : goal.returns-clause-same
returns-clause-same c =
    count-set_same (λ (x : KeptPage). not (is_some x.index)) c.args.kept.now.pages.items c.args.at c.args.page (record (c.args.page) { entries = Some c.read_page-read.result }) c.requires.page.page refl

pub returns-clause-looks : goal.returns-clause-looks
returns-clause-looks c =
    let page = c.args.page in
    let q : KeptPage = record page { entries = Some c.read_page-read.result } in
    let less = count-set_less (λ (x : KeptPage). not (is_some x.entries)) c.args.kept.now.pages.items c.args.at page q c.requires.page.page (ap (λ o. not (is_some o)) c.requires.unread) refl in
    omega (arith, less, c.read_page-read.ensures.reads)
