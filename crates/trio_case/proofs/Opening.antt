-- A room that was just made keeps nothing but what is true of its case.
use Rattle.trio_case.proofs.Words.{◌*◌, ◌++◌, ◌<◌, ◌||◌, ◌∙◌, ◌∷◌, ◌≡◌, ◌≤◌, Block, Bool, Bundled, CaseShown, Fresh, FreshParts, In, In-is_among, In-map, IsCase, IsKept, IsRoomFor, IsUnread, KeepsPages, KeptPage, KeptPages, LentFile, LentPage, List, MatchOption, None, Option, PagePlace, PageRoom, Sheet, Some, [], and_parts, ap, are_new, are_new-first, arith, bundle_core, bundle_in, bundle_pages, bundle_sheets, bytes_at, case_in, cond, false, flat_map, fresh_sheet, get_or, get_or-set_other, get_or-set_same, inl, inr, is_among, is_among-not, is_core, is_some, kept_page, length, length-map, length-replicate, length-set, lent_sheet, list_all-In, looks_left, ltb-true, map, nat_le, nat_lt, no_at, not, number_at, option_and_then, option_map, page_of, refl, replicate, set, sheet_numbers, slice_get, suc, sym, true, with_pages, written_in, zero, ℕ, ⊤}
use Rattle.std.proofs.lemmas.List.Sums.{count_by-le-length}
use Rattle.trio_lists.proofs.Members.{In-flat, In-left, In-right, option_and_then-Some}
use Rattle.trio_lease.specs.Shown.{page_at}
use Rattle.trio_case.specs.Rooms.{Keeps}
use Rattle.trio_case.specs.declared.places.PagePlace.TheVariants.{Index}
use Rattle.trio_case.specs.inner.Unread.{IsUnreadOf}
use Rattle.trio_case.proofs.Ordered.{not_ordered, order_length, order_rises, placed}

-- ---- pages put in place

abbrev Pages : Type 0
Pages = List (Option (List ℕ))

or_last : (a b : Bool) → (a || b) ≡ false → b ≡ false
or_last true b h = absurd cc
or_last false b h = h

if_none : {X : Type 0} (b : Bool) (o : Option X) → o ≡ None → cond b o None ≡ None
if_none true o h = h
if_none false o h = refl

none_at : (n i : ℕ) → get_or (replicate {A = Option (List ℕ)} n None) i None ≡ None
none_at zero i = refl
none_at (suc n) zero = refl
none_at (suc n) (suc i) = none_at n i

not_among : (n m : ℕ) (xs : List ℕ) → is_among n (m ∷ xs) ≡ false → (n ≡ m → ⊥) × (is_among n xs ≡ false)
not_among n m xs h =
    (λ same. (let there = In-is_among n (m ∷ xs) (inl same) in let both : true ≡ false = sym there ∙ h in cc), or_last _ (is_among n xs) h)

with_pages-other : (ss : List Sheet) (pages : Pages) (n : ℕ) → is_among n (sheet_numbers ss) ≡ false → get_or (with_pages ss pages) n None ≡ get_or pages n None
with_pages-other [] pages n h = refl
with_pages-other (x ∷ xs) pages n h =
    let p = not_among n x.page (sheet_numbers xs) h in
    with_pages-other xs (set pages x.page (Some x.bytes)) n p.1 ∙ get_or-set_other pages x.page n (Some x.bytes) None p.0

with_pages-here : (ss : List Sheet) (pages : Pages) (x : Sheet) → are_new [] (sheet_numbers ss) ≡ true → In x ss → x.page < length pages → get_or (with_pages ss pages) x.page None ≡ Some x.bytes
with_pages-here [] pages x new i small = absurd i
with_pages-here (y ∷ ys) pages x new (inl same) small =
    let first = (are_new-first y.page (sheet_numbers ys) new).0 in
    let apart : is_among x.page (sheet_numbers ys) ≡ false = is_among-not x.page (sheet_numbers ys) (λ i. first (rw (ap (λ (s : Sheet). s.page) same) at i)) in
    with_pages-other ys (set pages y.page (Some y.bytes)) x.page apart
    ∙ ap (λ (s : Sheet). get_or (set pages s.page (Some s.bytes)) x.page None) (sym same) ∙ get_or-set_same pages x.page (Some x.bytes) None small
with_pages-here (y ∷ ys) pages x new (inr i) small =
    with_pages-here ys (set pages y.page (Some y.bytes)) x (are_new-first y.page (sheet_numbers ys) new).1 i (rw length-set small)

-- ---- places

pub In-slice_get : {X : Type 0} (xs : List X) (i : ℕ) (x : X) → slice_get xs i ≡ Some x → In x xs
In-slice_get [] i x h = absurd cc
In-slice_get (y ∷ ys) zero x h = inl cc
In-slice_get (y ∷ ys) (suc i) x h = inr (In-slice_get ys i x h)

-- a page of the bundle at a place, with the number that stands there
pub record SheetAt (b : Bundled) (pl : PagePlace) (n : ℕ) : Type 0 where
  pub sheet : Sheet
  pub among : In sheet (bundle_sheets (bundle_in b))
  pub number : sheet.page ≡ n
  pub bytes : bytes_at b pl ≡ Some sheet.bytes

sheets : LentFile → List Sheet
sheets f = map lent_sheet f.stands.index ++ map lent_sheet f.stands.blocks

in_file : (b : Bundled) (f : LentFile) (x : Sheet) → In f b.writes → In x (map lent_sheet f.stands.index ++ map lent_sheet f.stands.blocks) → In x (bundle_sheets (bundle_in b))
in_file b f x i j =
    In-left x (flat_map (λ w. w.index ++ w.blocks) (bundle_in b).writes) (map fresh_sheet b.pages)
    (In-flat (λ w. w.index ++ w.blocks) (written_in f.stands) x (bundle_in b).writes (In-map (λ (g : LentFile). written_in g.stands) f b.writes i) j)

map-Some : {X Y : Type 0} (f : X → Y) (o : Option X) (y : Y) → option_map f o ≡ Some y → (x : X) × (o ≡ Some x) × (f x ≡ y)
map-Some f None y h = absurd cc
map-Some f (Some x) y h = (x, refl, cc)

lent_at : (pages : List LentPage) (at n : ℕ) → option_map (λ no. no.0) (no_at pages at) ≡ Some n → (p : LentPage) × (slice_get pages at ≡ Some p) × (p.no.0 ≡ n)
lent_at pages at n h =
    let a = map-Some (λ no. no.0) (no_at pages at) n h in
    let c = map-Some (λ (p : LentPage). p.no) (slice_get pages at) a.0 a.1 in
    (c.0, c.1, ap (λ no. no.0) c.2 ∙ a.2)

pub place_sheet : (b : Bundled) (pl : PagePlace) (n : ℕ) → number_at b pl ≡ Some n → SheetAt b pl n
place_sheet b (Index file at) n h =
    let f = option_and_then-Some (λ (f : LentFile). option_map (λ no. no.0) (no_at f.stands.index at)) (slice_get b.writes file) n h in
    let p = lent_at f.0.stands.index at n f.2 in
    record {
      sheet = lent_sheet p.0;
      among = in_file b f.0 (lent_sheet p.0) (In-slice_get b.writes file f.0 f.1) (In-left (lent_sheet p.0) (map lent_sheet f.0.stands.index) (map lent_sheet f.0.stands.blocks) (In-map lent_sheet p.0 f.0.stands.index (In-slice_get f.0.stands.index at p.0 p.1)));
      number = p.2;
      bytes = ap (option_and_then (λ (g : LentFile). page_at g.stands.index at)) f.1 ∙ ap (option_map (λ (q : LentPage). q.page)) p.1;
    }
place_sheet b (Block file at) n h =
    let f = option_and_then-Some (λ (f : LentFile). option_map (λ no. no.0) (no_at f.stands.blocks at)) (slice_get b.writes file) n h in
    let p = lent_at f.0.stands.blocks at n f.2 in
    record {
      sheet = lent_sheet p.0;
      among = in_file b f.0 (lent_sheet p.0) (In-slice_get b.writes file f.0 f.1) (In-right (lent_sheet p.0) (map lent_sheet f.0.stands.index) (map lent_sheet f.0.stands.blocks) (In-map lent_sheet p.0 f.0.stands.blocks (In-slice_get f.0.stands.blocks at p.0 p.1)));
      number = p.2;
      bytes = ap (option_and_then (λ (g : LentFile). page_at g.stands.blocks at)) f.1 ∙ ap (option_map (λ (q : LentPage). q.page)) p.1;
    }
place_sheet b (Fresh at) n h =
    let p = map-Some (λ (p : FreshParts). p.no.0) (slice_get b.pages at) n h in
    record {
      sheet = fresh_sheet p.0;
      among = In-right (fresh_sheet p.0) (flat_map (λ w. w.index ++ w.blocks) (bundle_in b).writes) (map fresh_sheet b.pages) (In-map fresh_sheet p.0 b.pages (In-slice_get b.pages at p.0 p.1));
      number = p.2;
      bytes = ap (option_map (λ (q : FreshParts). q.page)) p.1;
    }

-- ---- the room

-- it has each page of the bundle once
pub page_count : (k : CaseShown) (room : PageRoom) → IsRoomFor k room → length room.kept.pages.items ≡ length (bundle_pages (bundle_in k.bundle))
page_count k room made =
    sym (length-map room.kept.pages.items (λ (p : KeptPage). p.no)) ∙ ap length (made.numbers ∙ made.order) ∙ order_length (bundle_pages (bundle_in k.bundle))

module _ (k : CaseShown) (is : IsCase k.bundle k.range k.inodes) where
  here : (x : Sheet) → In x (bundle_sheets (bundle_in k.bundle)) → page_of (bundle_core (case_in k)) x.page ≡ Some x.bytes
  here x i =
      let core = list_all-In (is_core k.range) x.page (bundle_pages (bundle_in k.bundle)) is.core (In-map (λ (s : Sheet). s.page) x (bundle_sheets (bundle_in k.bundle)) i) in
      let small : x.page < k.range.end = ltb-true x.page k.range.end (and_parts (nat_le k.range.first x.page) (nat_lt x.page k.range.end) core).1 in
      let base : List (Option (List ℕ)) = replicate k.range.end None in
      let put = with_pages-here (bundle_sheets (bundle_in k.bundle)) base x is.pages i (rw length-replicate small) in
      rw core put

  absent : (page : ℕ) → is_among page (bundle_pages (bundle_in k.bundle)) ≡ false → page_of (bundle_core (case_in k)) page ≡ None
  absent page h = if_none (is_core k.range page) _ (with_pages-other (bundle_sheets (bundle_in k.bundle)) (replicate k.range.end None) page h ∙ none_at k.range.end page)

  kept_unread : (kept : KeptPages) (p : KeptPage) → IsUnread k.bundle p → IsKept k kept p
  kept_unread kept p u =
      let s = place_sheet k.bundle p.place p.no u.place in
      record {
        bytes = s.sheet.bytes;
        stands = s.bytes;
        here = ap (page_of (bundle_core (case_in k))) (sym s.number) ∙ here s.sheet s.among;
        entries = rw u.entries tt;
        index = rw u.index tt;
      }

  -- what is kept of pages of which nothing was read yet
  module _ (kept : KeptPages) (made : IsUnreadOf k.bundle kept) where
    abbrev own : List ℕ
    own = bundle_pages (bundle_in k.bundle)

    numbered_at : (page : ℕ) (o : Option KeptPage) → MatchOption o (is_among page kept.order.items ≡ false) (λ p. p.no ≡ page) → MatchOption o (page_of (bundle_core (case_in k)) page ≡ None) (λ p. p.no ≡ page)
    numbered_at page None h = absent page (not_ordered page own (rw made.order at h))
    numbered_at page (Some p) h = h

    each_at : (at : ℕ) (o : Option KeptPage) → slice_get kept.pages.items at ≡ o → MatchOption o ⊤ (IsKept k kept)
    each_at at None e = tt
    each_at at (Some p) e = kept_unread kept p (made.each p (In-slice_get kept.pages.items at p e))

    pub keeps_unread : KeepsPages k kept
    keeps_unread = record {
      order = made.order;
      rising = rw made.order (order_rises own is.pages);
      numbered = λ page. numbered_at page (kept_page kept page) (rw made.numbers at (placed kept.pages.items page));
      each = λ at. each_at at (slice_get kept.pages.items at) refl;
    }

  module _ (room : PageRoom) (made : IsRoomFor k room) where
    pub room_keeps : Keeps k room
    room_keeps = record {
      pages = keeps_unread room.kept (record { order = made.order; numbers = made.numbers; each = made.each });
      space = made.space;
      first = ltb-true 0 k.range.first is.first;
    }

    pub few_looks : looks_left room ≤ 2 * length (bundle_pages (bundle_in k.bundle))
    few_looks =
        let a = count_by-le-length (λ (p : KeptPage). not (is_some p.entries)) room.kept.pages.items in
        let c = count_by-le-length (λ (p : KeptPage). not (is_some p.index)) room.kept.pages.items in
        let n = page_count k room made in omega (arith, a, c, n)
