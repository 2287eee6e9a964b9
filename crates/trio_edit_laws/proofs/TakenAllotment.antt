-- Pages and numbers that a session takes leave it able to go on, and the pages are spare.
use Rattle.trio_edit_laws.proofs.Words.{◌++◌, ◌<◌, ◌∙◌, ◌≡◌, ◌≤◌, Allotted, ArePossible, AreSpare, Bool, Bundle, ComesToShown, DeskSeen, In, In-cases, In-left, In-map, In-right, InoParts, IsFreshAllotment, IsInOrder, IsOn, IsView, JudgesSame, LibNo, LibOut, List, MadeFile, MayEdit, Nodes, Option, Row, SessionSeen, Sheet, ShowsTrees, Sizes, Takes, TookMore, [], ap, are_new, are_new-before, arith, batch_nodes, bundle_of, bundle_sheets, drop-append-le, false_from_ne_true, filter, filter-all, filter-append, fresh_sheet, in_hand, inl, ino_numbers, inr, is_among, is_among-In, length-append, length-map, listed_in_hand, map-In, map-append, one_keyed, page_in, page_numbers, pages_in_hand, refl, sheet_at, spare_numbers, spare_pages, subst, sym, true, used_numbers, with_allotted, zero_page, zeros, ℕ}
use Rattle.std.specs.Prelude.{not}
use Rattle.trio_edit_laws.proofs.session.Fresh.{fresh_is_new}
use Rattle.trio_edit_laws.proofs.session.JudgedAllotments.{judged_after_allotment}
use Rattle.trio_edit_laws.proofs.session.ListedPages.{listed_after_allotment, listed_are_in_hand}
use Rattle.trio_laws.proofs.session.TakenMore as more
use Rattle.trio_edit_laws.specs.TakingLaws.{KeepsAllotment}
use Rattle.trio_edit_laws.proofs.Shown.{comes_now, desk_after, order_now, shown_by}
use Rattle.trio_edit_laws.proofs.HandsIn.{hands_in, sound_allotted}
use Rattle.trio_edit_laws.proofs.Keeps.{place_of_open, slot_held}
use Rattle.trio_edit_laws.proofs.MorePages.{HasPagesOf, page_in-more, pages_of_more, reads_by_more}
use Rattle.trio_edit_laws.proofs.Opens.{open_chained}
use Rattle.trio_edit_laws.proofs.Taken.{HasMadeOf, body-taken, chains_now, entries_now, entries_taken, held_now, made_now, made_taken, shows_now}
use Rattle.trio_edit_laws.proofs.Whole.{shows_after}

-- the session with what is given
abbrev given_to : SessionSeen → Allotted → SessionSeen
given_to s given =
    record s { parcel = record s.parcel { pages = s.parcel.pages ++ given.pages.items; inodes = s.parcel.inodes ++ given.inodes.items } }

-- what was allotted is all zero, and the library's
given_view : (s : SessionSeen) (given : Allotted) (lib : LibNo) (sizes : Sizes) (out : LibOut) → IsFreshAllotment lib sizes out given → s.lib ≡ lib
    → given_to s given ≡ with_allotted s (page_numbers given.pages.items) (ino_numbers given.inodes.items)
given_view s given lib sizes out fresh same = search arith

-- what a session is after an allotment
abbrev Took : DeskSeen → SessionSeen → List ℕ → List ℕ → SessionSeen → Type 0
Took desk s pages numbers taken =
    TookMore desk s taken × (spare_pages s ≡ [] → (spare_pages taken ≡ pages) × AreSpare desk taken) × (spare_numbers s ≡ [] → spare_numbers taken ≡ numbers)

module _ (desk : DeskSeen) (out' : LibOut) (s : SessionSeen) (given : Allotted) (may : MayEdit desk s)
    (comes : ComesToShown desk s.parcel s.reads s.calls) (fresh : IsFreshAllotment desk.lib desk.sizes desk.out given)
    (on : IsOn (record desk { out = out' }) (given_to s given)) where
  abbrev now : DeskSeen
  now = record desk { out = out' }

  abbrev taken : SessionSeen
  taken = given_to s given

  abbrev pages : List ℕ
  pages = page_numbers given.pages.items

  order : IsInOrder now (in_hand s)
  order = order_now desk out' (in_hand s) may.order

  new : are_new (pages_in_hand (in_hand s)) pages ≡ true
  new = fresh_is_new desk (in_hand s) given may.all.given fresh

  takes : Takes now (in_hand s) (in_hand taken)
  takes = more.takes_allotment now (in_hand s) given order new

  has_pages : HasPagesOf (in_hand s) (in_hand taken)
  has_pages x i =
      subst (λ (b : Bundle). In x (bundle_sheets b)) (sym (more.bundle_is now (in_hand s) given order new))
      (more.sub now (in_hand s) given order new x i)

  shows : ShowsTrees now s
  shows = shows_now desk out' s may.shows

  numbers_are : ino_numbers taken.parcel.inodes ≡ ino_numbers s.parcel.inodes ++ ino_numbers given.inodes.items
  numbers_are = map-append (λ (n : InoParts). n.no) s.parcel.inodes given.inodes.items

  has : HasMadeOf s taken
  has = record {
    made = refl;
    cleared = refl;
    numbers = λ n i. subst (λ l. In n l) (sym numbers_are) (In-left n (ino_numbers s.parcel.inodes) (ino_numbers given.inodes.items) i);
    unlent = λ mf i u. record { written = u.written; held = u.held; read = u.read };
    page = λ mf i. page_in-more (in_hand s) (in_hand taken) mf.page has_pages takes.order.pages (slot_held desk s mf may i);
    opens = λ n kind o. o;
    chain = λ n kind o. refl;
  }

  judges : (nodes nodes' : Nodes) (rows : List (Option Row)) → IsView now (in_hand s) (in_hand taken) nodes nodes' rows → JudgesSame now (in_hand s) (in_hand taken) nodes
  judges nodes nodes' rows v = judged_after_allotment now (in_hand s) given nodes nodes' rows new v

  may_still : MayEdit now taken
  may_still = record {
    on = on;
    all = hands_in now taken on (sound_allotted desk.lib desk.sizes desk.out s.parcel s.reads may.all given fresh);
    given = record {
      holds = may.given.holds;
      numbers = λ n i. elim (In-cases n (ino_numbers s.parcel.inodes) (ino_numbers given.inodes.items) (subst (λ l. In n l) numbers_are i)) [
        | inl old ↦ may.given.numbers n old
        | inr more ↦ (let r = fresh.range n more in let low : 2 ≤ n = r.0 in let some : 0 < n = omega (arith, low) in (some, r.1))
      ];
    };
    order = takes.order;
    shows = shows_after now s taken (λ nodes. nodes) shows takes;
    alone = may.alone;
    beside = may.beside;
    chains = λ n kind o.
        reads_by_more now s taken n kind has_pages order.pages takes.order.pages (λ page i. may.own page (open_chained s n page (place_of_open desk s n kind may o) i))
        (body-taken s taken n has (λ none. refl)) refl (chains_now desk out' s may.chains n kind o);
    own = λ page i. pages_of_more (in_hand s) (in_hand taken) has_pages page (may.own page i);
    once = may.once;
    placed = (let p = may.placed in let l = length-append s.parcel.pages given.pages.items in omega arith);
    made = made_taken now s taken order shows takes has judges (made_now desk out' s may.made);
    entries = entries_taken now s taken order shows takes has judges (entries_now desk out' s may.entries);
    held = λ h nodes rows i possible. held_now desk out' s may.held h nodes rows i (takes.more nodes rows possible);
  }

  -- ---- spare pages

  apart : (n : ℕ) → In n pages → In n (pages_in_hand (in_hand s)) → ⊥
  apart n i j = are_new-before n (pages_in_hand (in_hand s)) pages new i j

  spare_is : spare_pages s ≡ [] → spare_pages taken ≡ pages
  spare_is none = search (arith, map-append, drop-append-le, length-map)

  zero_sheet : (n : ℕ) → In n pages → In (fresh_sheet (zero_page desk.lib n)) (bundle_sheets (bundle_of taken.parcel))
  zero_sheet n i = search (arith, In-map, In-right)

  is_zero : (n : ℕ) → In n pages → page_in taken.parcel n ≡ zeros 4096
  is_zero n i =
      let sheets : List Sheet = bundle_sheets (bundle_of taken.parcel) in
      let z : Sheet = fresh_sheet (zero_page desk.lib n) in
      let x = sheet_at taken.parcel n (In-map (λ (y : Sheet). y.page) z sheets (zero_sheet n i)) in
      x.3 ∙ ap (λ (y : Sheet). y.bytes) (one_keyed (λ (y : Sheet). y.page) sheets x.0 z takes.order.pages x.1 (zero_sheet n i) x.2)

  unlisted : (n : ℕ) → In n pages → (nodes : Nodes) (rows : List (Option Row)) → ArePossible now taken.parcel taken.reads nodes rows → In n (listed_in_hand now (in_hand taken)) → ⊥
  unlisted n i nodes rows possible j =
      let after : Nodes = batch_nodes now.creds s.calls nodes in
      let v : IsView now (in_hand s) (in_hand taken) nodes after rows =
      record { order = order; more = takes.more; shows = shown_by now (in_hand s) (in_hand taken) s.calls nodes rows takes.more (comes_now desk out' (in_hand s) s.calls comes) possible } in
      apart n i
      ((listed_are_in_hand now (in_hand s) (in_hand taken) nodes after rows v).1 n
      (subst (λ l. In n l) (listed_after_allotment now (in_hand s) given nodes after rows new v) j))

  are_spare : spare_pages s ≡ [] → AreSpare now taken
  are_spare none n i =
      let j : In n pages = subst (λ l. In n l) (spare_is none) i in
      record { zero = is_zero n j; unchained = λ k. apart n j (may.own n k); unlisted = unlisted n j }

  -- ---- spare numbers

  abbrev numbers : List ℕ
  numbers = ino_numbers given.inodes.items

  unused : (n : ℕ) → In n numbers → In n (used_numbers s) → ⊥
  unused n i j =
      let x = map-In (λ (mf : MadeFile). mf.ino) n (s.made ++ s.cleared) j in
      let there : In x.0.ino (ino_numbers s.parcel.inodes) = elim (In-cases x.0 s.made s.cleared x.1) [ inl a ↦ may.made.numbers x.0 a | inr b ↦ may.made.gone x.0 b ] in
      let y = map-In (λ (p : InoParts). p.no) x.0.ino s.parcel.inodes there in
      are_new-before n desk.out.numbers numbers fresh.numbers i (subst (λ k. In k desk.out.numbers) (sym (x.2 ∙ y.2)) (may.all.given.numbers y.0 y.1))

  numbers_spare : spare_numbers s ≡ [] → spare_numbers taken ≡ numbers
  numbers_spare none =
      let test : ℕ → Bool = λ n. not (is_among n (used_numbers s)) in
      ap (filter test) numbers_are
      ∙ filter-append test (ino_numbers s.parcel.inodes) numbers
      ∙ ap (λ l. l ++ filter test numbers) none
      ∙ filter-all test numbers (λ n i. ap not (false_from_ne_true (is_among n (used_numbers s)) (λ t. unused n i (is_among-In n (used_numbers s) t))))

  took_allotment : Took now s pages numbers taken
  took_allotment = (record { takes = takes; may = may_still }, (λ none. (spare_is none, are_spare none)), numbers_spare)

pub keeps_allotment : KeepsAllotment
keeps_allotment desk desk' s wanted_pages wanted_numbers given may comes fresh seen on =
    let pages : List ℕ = page_numbers given.pages.items in
    let e = desk_after desk desk' _ _ seen in
    let same = given_view s given desk.lib desk.sizes desk.out fresh may.on.lib in
    let here : IsOn (record desk { out = desk'.out }) (given_to s given) =
    subst (λ t. IsOn (record desk { out = desk'.out }) t) (sym same) (subst (λ d. IsOn d (with_allotted s pages (ino_numbers given.inodes.items))) e on) in
    subst (λ d. Took d s pages (ino_numbers given.inodes.items) (with_allotted s pages (ino_numbers given.inodes.items))) (sym e)
    (subst (λ t. Took (record desk { out = desk'.out }) s pages (ino_numbers given.inodes.items) t) same (took_allotment desk desk'.out s given may comes fresh here))
