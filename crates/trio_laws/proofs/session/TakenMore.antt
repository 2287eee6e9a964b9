-- Pages, numbers and read leases are taken: the same nodes are shown. And a session begins in order.
use Rattle.trio_laws.proofs.Words.{◌++◌, ◌||◌, ◌∙◌, ◌≡◌, Allotted, ArePossible, Bundle, Case, DeskSeen, Held, In, In-cases, In-flat, In-is_among, In-left, In-right, InHand, IsAmong, IsInOrder, List, MayShow, Met, Node, Nodes, None, Option, Row, Sheet, Shows, Some, Takes, Written, [], and_from, ap, append_assoc, are_new, are_new-append, arith, bundle_core, bundle_of, bundle_pages, bundle_sheets, bytes_now, entries_in, entry_is_own, file_within, filter, filter-same, flat_map, flat_map-same, fresh_sheet, inl, ino_numbers, inr, is_among, is_among-In, is_kept, is_some, judged_entries, judged_files, judged_pages, map, map-append, map-map, naming_of, new_entries, node_at, node_left, node_says, numbers, option_map, or_cases, or_left, or_right, page_numbers, pages_in, pages_within, place_parts, refl, row_in, row_says, some_of, subst, sym, true, with_allotment, ℕ, guard_now, with_judged}
use Rattle.trio_laws.specs.session.Takes.{BecomesThrough, NothingIsInOrder, TakesAllotment, TakesReads}
use Rattle.trio_laws.proofs.session.Again.{hand_files_once, entries_again, entry_own, page_again, pages_more, possible_with_less, read_again}
use Rattle.trio_laws.proofs.session.Calls.{fewer}
use Rattle.trio_laws.proofs.session.Ruled.{IsFurther, bytes_same, case_with, naming_same, shows_by, guard_same}
use Rattle.trio_laws.proofs.session.Starts.{Share, among_alike, judged_once, shared, start_judged}
use Rattle.trio_laws.proofs.session.TakenHold.{held_by}

-- ---- reads

pub takes_reads : TakesReads
takes_reads desk h more o = record {
  more = fewer desk h more;
  shows = λ nodes nodes' rows may. may.shows;
  tree = λ nodes nodes' rows may. may.tree;
  order = record { among = λ nodes rows p. o.among nodes rows (fewer desk h more nodes rows p); pages = o.pages; files = o.files };
}

pub nothing_is_in_order : NothingIsInOrder
nothing_is_in_order desk back = search arith

-- ---- allotments

no_row : (o : Option Row) (x : Option Node) → option_map row_says o ≡ option_map node_says x → x ≡ None → o ≡ None
no_row None x e t = refl
no_row (Some r) x e t = absurd (let wrong : Some (row_says r) ≡ None = e ∙ ap (option_map node_says) t in cc wrong)

module _ (desk : DeskSeen) (h : InHand) (given : Allotted) (o : IsInOrder desk h) (new : are_new (bundle_pages (bundle_of h.parcel)) (page_numbers given.pages.items) ≡ true) where
  abbrev hand : Bundle
  hand = bundle_of h.parcel

  abbrev numbers' : List ℕ
  numbers' = ino_numbers given.inodes.items

  abbrev more : Bundle
  more = record hand { pages = hand.pages ++ map fresh_sheet given.pages.items; numbers = hand.numbers ++ ino_numbers given.inodes.items }

  abbrev lent : List Held
  lent = map held_by h.parcel.holds

  pub bundle_is : bundle_of (with_allotment h given).parcel ≡ more
  bundle_is = search (arith, map-append)

  less : (nodes : Nodes) (rows : List (Option Row)) → ArePossible desk (with_allotment h given).parcel h.back nodes rows → ArePossible desk h.parcel h.back nodes rows
  less = search (arith, possible_with_less, map-append, In-left)

  sheets_are : bundle_sheets more ≡ bundle_sheets hand ++ map fresh_sheet given.pages.items
  sheets_are = sym (append_assoc (flat_map (λ (w : Written). w.index ++ w.blocks) hand.writes) hand.pages (map fresh_sheet given.pages.items))

  pub sub : (x : Sheet) → In x (bundle_sheets hand) → In x (bundle_sheets more)
  sub x i = subst (λ l. In x l) (sym sheets_are) (In-left x (bundle_sheets hand) (map fresh_sheet given.pages.items) i)

  once : are_new [] (bundle_pages hand) ≡ true
  once = o.pages

  pages_once : are_new [] (bundle_pages more) ≡ true
  pages_once = search (arith, sheets_are, map-append, map-map, are_new-append, and_from, once)

  dead : (nodes : Nodes) (rows : List (Option Row)) → ArePossible desk (with_allotment h given).parcel h.back nodes rows → (n : ℕ) → In n numbers' → row_in rows n ≡ None
  dead nodes rows possible n i = search (arith, no_row, map-append, In-right)

  module _ (nodes nodes' : Nodes) (rows : List (Option Row)) (may : MayShow desk h (with_allotment h given) nodes nodes' rows) where
    abbrev c : Case
    c = case_with desk.sizes desk.creds rows hand lent

    abbrev c2 : Case
    c2 = case_with desk.sizes desk.creds rows more lent

    abbrev s : Shows c nodes nodes'
    s = may.shows

    a : IsAmong c nodes
    a = o.among nodes rows (less nodes rows may.possible)

    -- no entry names a number that is allotted now
    pub unlisted : (e : Met) → In e (judged_entries c) → In e.ino numbers' → In e.ino hand.numbers
    unlisted e i n =
        let gone : row_in rows e.ino ≡ None = dead nodes rows may.possible e.ino n in
        elim (or_cases (is_kept c e || is_among e.ino hand.holds) (is_among e.ino hand.numbers) (entry_own desk.sizes desk.creds rows hand more lent lent nodes nodes' s e i)) [
          | inr own ↦ is_among-In e.ino hand.numbers own
          | inl first ↦
              elim (or_cases (is_kept c e) (is_among e.ino hand.holds) first) [
                | inl kept ↦
                    let t = place_parts e.parent e.page e.slot (row_in rows e.ino) kept in
                    let wrong : None ≡ Some t.0 = sym gone ∙ t.1 in absurd (cc wrong)
                | inr held ↦
                    let r = some_of (row_in rows e.ino) (a.held e.ino (is_among-In e.ino hand.holds held)) in
                    let wrong : None ≡ Some r.0 = sym gone ∙ r.1 in absurd (cc wrong)
              ]
        ]

    new_same : (e : Met) → In e (judged_entries c) → is_among e.ino more.numbers ≡ is_among e.ino hand.numbers
    new_same e i =
        among_alike e.ino more.numbers hand.numbers
        (λ j. elim (In-cases e.ino hand.numbers numbers' j) [ inl before ↦ before | inr n ↦ unlisted e i n ])
        (λ j. In-left e.ino hand.numbers numbers' j)

    kids_again : (m : Met) → In m (judged_files c) → new_entries c2 m ≡ new_entries c m
    kids_again m i =
        ap (filter (λ (e : Met). is_among e.ino more.numbers)) (entries_again desk.sizes desk.creds rows hand more lent lent nodes nodes' s once pages_once sub m i)
        ∙ filter-same (λ (e : Met). is_among e.ino more.numbers) (λ (e : Met). is_among e.ino hand.numbers) (entries_in c m) (λ e j. new_same e (In-flat (entries_in c) m e (judged_files c) i j))

    share : Share desk.sizes desk.creds desk.creds rows rows hand more lent lent
    share = search (arith, shared, flat_map-same, kids_again, start_judged)

    pub judged_same : judged_files c2 ≡ judged_files c
    judged_same = share.new ∙ sym share.old

    -- and each reads the same
    pub old_reads : (m : Met) → In m (judged_files c) → file_within (bundle_core c2) m ≡ file_within (bundle_core c) m
    old_reads m i = read_again desk.sizes desk.creds rows hand more lent lent nodes nodes' s once pages_once sub m i

    -- the same pages are listed
    pub listed_then : judged_pages c2 ≡ judged_pages c
    listed_then =
        ap (flat_map (pages_within c2)) judged_same
        ∙ flat_map-same (pages_within c2) (pages_within c) (judged_files c) (λ m i. ap pages_in (read_again desk.sizes desk.creds rows hand more lent lent nodes nodes' s once pages_once sub m i))

    abbrev New : Met → Type 0
    New m = ⊥

    abbrev Old : Met → Type 0
    Old m = In m (judged_files c)

    own_more : (e : Met) → entry_is_own c e ≡ true → entry_is_own c2 e ≡ true
    own_more e t = search (arith, or_cases, or_left, or_right, In-is_among, In-left, is_among-In)

    further : IsFurther desk.sizes desk.creds rows hand more lent lent New Old
    further = record {
      once = ap (λ l. are_new [] (numbers l)) judged_same ∙ judged_once c (hand_files_once desk h o);
      from = λ m i. inr (subst (λ l. In m l) judged_same i);
      new_to = λ m e. absurd e;
      old_to = λ m i. subst (λ l. In m l) (sym judged_same) i;
      old_in = λ m i. i;
      left = λ m i. inl i;
      page = λ m q i j. page_again desk.sizes desk.creds rows hand more lent lent nodes nodes' s once pages_once sub m q i j;
      more = pages_more desk.sizes desk.creds rows hand more lent lent nodes nodes' s once pages_once sub;
      written = λ m i. refl;
      own = λ e i q. own_more e q;
      keeps = λ e i q r. r;
      one = λ m x e y. absurd e;
      new = λ m e. absurd e;
    }

    named_same : (n : ℕ) → naming_of c2 n ≡ naming_of c n
    named_same n = naming_same desk.sizes desk.creds rows hand more lent lent New Old further nodes nodes' s n (λ m w l i e. w)

    shown : Shows c2 nodes nodes'
    shown =
        shows_by desk.sizes desk.creds rows hand more lent lent New Old further nodes nodes' s nodes'
        (λ n.
        s.each n
        ∙ ap (λ q. option_map (with_judged (bytes_now c n) (guard_now c n)) (node_left c2 n q (node_at nodes n))) (sym (named_same n))
        ∙ ap (λ q. option_map (with_judged q (guard_now c n)) (node_left c2 n (naming_of c2 n) (node_at nodes n))) (sym (bytes_same desk.sizes desk.creds rows hand more lent lent New Old further nodes nodes' s n (λ m e q. e)))
        ∙ ap (λ g. option_map (with_judged (bytes_now c2 n) g) (node_left c2 n (naming_of c2 n) (node_at nodes n))) (sym (guard_same desk.sizes desk.creds rows hand more lent lent New Old further nodes nodes' s n (λ m e q. e))))
        (λ n x e i. ap is_some (named_same n) ∙ s.whole n x e (subst (λ l. is_among x.parent (numbers l) ≡ true) judged_same i))

  takes_here : Takes desk h (with_allotment h given)
  takes_here = record {
    more = less;
    shows = λ nodes nodes' rows may. subst (λ (x : Bundle). Shows (case_with desk.sizes desk.creds rows x lent) nodes nodes') (sym bundle_is) (shown nodes nodes' rows may);
    tree = λ nodes nodes' rows may. may.tree;
    order = record {
      among = λ nodes rows possible.
          let a : IsAmong (case_with desk.sizes desk.creds rows hand lent) nodes = o.among nodes rows (less nodes rows possible) in
          let then : IsAmong (case_with desk.sizes desk.creds rows more lent) nodes =
          record {
            same = a.same;
            written = a.written;
            held = a.held;
            apart = a.apart;
            closed = a.closed;
            new = λ n i. elim (In-cases n hand.numbers numbers' i) [ inl before ↦ a.new n before | inr now ↦ dead nodes rows possible n now ];
          } in
          subst (λ (x : Bundle). IsAmong (case_with desk.sizes desk.creds rows x lent) nodes) (sym bundle_is) then;
      pages = ap (λ (x : Bundle). are_new [] (bundle_pages x)) bundle_is ∙ pages_once;
      files = o.files;
    };
  }

pub takes_allotment : TakesAllotment
takes_allotment desk h given o new = takes_here desk h given o new

-- ---- one after another

pub becomes_through : BecomesThrough
becomes_through desk h between h' first second a b =
    let before : (nodes nodes' : Nodes) (rows : List (Option Row)) → MayShow desk h h' nodes nodes' rows → MayShow desk h between nodes nodes' rows =
    λ nodes nodes' rows may. record { possible = b.more nodes rows may.possible; tree = may.tree; shows = may.shows } in
    let after : (nodes nodes' : Nodes) (rows : List (Option Row)) → MayShow desk h h' nodes nodes' rows → MayShow desk between h' nodes (first nodes') rows =
    λ nodes nodes' rows may. record { possible = may.possible; tree = a.tree nodes nodes' rows (before nodes nodes' rows may); shows = a.shows nodes nodes' rows (before nodes nodes' rows may) } in
    record {
      more = λ nodes rows p. a.more nodes rows (b.more nodes rows p);
      shows = λ nodes nodes' rows may. b.shows nodes (first nodes') rows (after nodes nodes' rows may);
      tree = λ nodes nodes' rows may. b.tree nodes (first nodes') rows (after nodes nodes' rows may);
      order = b.order;
    }
