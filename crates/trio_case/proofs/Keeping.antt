-- What is kept of one page more.
use Rattle.trio_case.proofs.Words.{◌++◌, ◌+◌, ◌∙◌, ◌∷◌, ◌≡◌, ◌≤◌, AreNamed, Bool, CaseShown, CoreRange, DirEntry, Err, In, In-cases, IsDone, IsFront, IsKept, KeepsPages, KeptPage, KeptPages, List, Listed, Location, MatchOption, None, Ok, Option, Result, Some, StandsAt, [], ap, append_assoc, arith, bundle_core, bytes_at, case_in, cases_eq, cond, count_by, drop, drop-append-le, drop-append_seam, false, get_or, get_or_append_left, get_or_from_slice_get, inl, inr, is_some, length, length-append, length-drop, listed_seen, map, map-append, not, option_and_then, option_map_or, page_of, part, place_of, refl, set, slice_get, slice_get_within, suc, sum_by-cons, sym, take, take-append-drop, take-append-le, take_all, true, unread_blocks, unread_index, zero, ℕ, ⊤}
use Rattle.std.proofs.lemmas.List.Sums.{sum_by-set}
use Rattle.trio_layout.specs.Entries.{entries_on}
use Rattle.trio_case.specs.declared.kept.KeptIndex.{KeptIndex}
use Rattle.trio_case.specs.declared.kept.Span.{Span}
use Rattle.trio_case.specs.Rooms.{entries_said, SaysBlock, SaysEntries, SaysIndex}
use Rattle.trio_case.specs.inner.Steps.{BlockAnswer}

-- ---- lists

pub slice_get-set_same : {X : Type 0} (xs : List X) (i : ℕ) (x y : X) → slice_get xs i ≡ Some x → slice_get (set xs i y) i ≡ Some y
slice_get-set_same [] i x y h = absurd cc
slice_get-set_same (z ∷ xs) zero x y h = refl
slice_get-set_same (z ∷ xs) (suc i) x y h = slice_get-set_same xs i x y h

pub slice_get-set_other : {X : Type 0} (xs : List X) (i j : ℕ) (y : X) → (j ≡ i → ⊥) → slice_get (set xs i y) j ≡ slice_get xs j
slice_get-set_other [] i j y h = refl
slice_get-set_other (z ∷ xs) zero zero y h = absurd (h refl)
slice_get-set_other (z ∷ xs) zero (suc j) y h = refl
slice_get-set_other (z ∷ xs) (suc i) zero y h = refl
slice_get-set_other (z ∷ xs) (suc i) (suc j) y h = slice_get-set_other xs i j y (λ e. h (ap suc e))

-- one for each that is counted
weigh : {X : Type 0} → (X → Bool) → X → ℕ
weigh f x = cond (f x) 1 0

count-set : {X : Type 0} (f : X → Bool) (xs : List X) (i : ℕ) (x y : X) → slice_get xs i ≡ Some x → count_by f (set xs i y) + weigh f x ≡ count_by f xs + weigh f y
unfolding weigh
count-set f xs i x y h =
    rw (get_or_from_slice_get xs i x x h) at (sum_by-set (λ z. cond (f z) 1 0) xs i y x (slice_get_within xs i x h))

-- one that is counted becomes one that isn't
pub count-set_less : {X : Type 0} (f : X → Bool) (xs : List X) (i : ℕ) (x y : X) → slice_get xs i ≡ Some x → f x ≡ true → f y ≡ false → count_by f (set xs i y) + 1 ≡ count_by f xs
unfolding weigh
count-set_less f xs i x y h p q =
    let e = rw (p, q) at (count-set f xs i x y h) in omega (arith, e)

-- and one that is counted alike changes nothing
pub count-set_same : {X : Type 0} (f : X → Bool) (xs : List X) (i : ℕ) (x y : X) → slice_get xs i ≡ Some x → f y ≡ f x → count_by f (set xs i y) ≡ count_by f xs
unfolding weigh
count-set_same f xs i x y h p =
    let e = rw p at (count-set f xs i x y h) in omega (arith, e)

-- one is counted
pub count-some : {X : Type 0} (f : X → Bool) (xs : List X) (i : ℕ) (x : X) → slice_get xs i ≡ Some x → f x ≡ true → 1 ≤ count_by f xs
count-some f [] i x h p = absurd cc
count-some f (z ∷ xs) zero x h p =
    let e : z ≡ x = cc in
    let c : count_by f (z ∷ xs) ≡ 1 + count_by f xs = sum_by-cons (λ y. cond (f y) 1 0) z xs ∙ ap (λ b. cond b 1 0 + count_by f xs) (ap f e ∙ p) in
    omega (arith, c)
count-some f (z ∷ xs) (suc i) x h p =
    let c : count_by f (z ∷ xs) ≡ cond (f z) 1 0 + count_by f xs = sum_by-cons (λ y. cond (f y) 1 0) z xs in
    let r = count-some f xs i x h p in omega (arith, r, c)

-- a part stays as the list grows
pub part-grown : {X : Type 0} (s : Span) (xs ys : List X) → s.from + s.len ≤ length xs → part s (xs ++ ys) ≡ part s xs
part-grown s xs ys h =
    let a : s.from ≤ length xs = omega arith in
    let b : s.len ≤ length (drop s.from xs) = rw length-drop (omega arith) in
    ap (take s.len) (drop-append-le s.from xs ys a) ∙ take-append-le s.len (drop s.from xs) ys b

-- ---- pages

index_grown : (range : CoreRange) (ns more : List ℕ) (bytes : List ℕ) (i : KeptIndex) → SaysIndex range ns bytes i → SaysIndex range (ns ++ more) bytes i
index_grown range ns more bytes i h = record {
  within = rw length-append (omega (arith, h.within));
  count = h.count;
  few = h.few;
  spells = rw (part-grown i.numbers ns more h.within) h.spells;
  says = rw (part-grown i.numbers ns more h.within) h.says;
}

-- a name that is there stays as more names come
pub names_grown : (names more : List (List ℕ)) (es : List DirEntry) → AreNamed names es → map (listed_seen (names ++ more)) es ≡ map (listed_seen names) es
names_grown names more [] h = refl
names_grown names more (e ∷ es) h =
    let seen : List ℕ → Listed = λ n. record { entry = record { ino = e.ino; kind = e.kind; name = n }; page = e.page; slot = e.slot; body = e.body } in
    let name : get_or (names ++ more) e.name [] ≡ get_or names e.name [] = get_or_append_left names more [] e.name (h e (inl refl)) in
    let rest = names_grown names more es (λ l i. h l (inr i)) in
    ap (λ n. seen n ∷ map (listed_seen (names ++ more)) es) name ∙ ap (λ ls. listed_seen names e ∷ ls) rest

entries_grown : (inodes page : ℕ) (names new : List (List ℕ)) (es more : List DirEntry) (bytes : List ℕ) (s : Span) → SaysEntries inodes page names es bytes s → SaysEntries inodes page (names ++ new) (es ++ more) bytes s
entries_grown inodes page names new es more bytes s h = record {
  within = rw length-append (omega (arith, h.within));
  named = λ l i. (let there : In l (part s es) = rw (part-grown s es more h.within) at i in omega (arith, h.named l there, length-append names new));
  says = h.says ∙ ap Ok (sym (names_grown names new (part s es) h.named) ∙ ap (map (listed_seen (names ++ new))) (sym (part-grown s es more h.within)));
}

block_grown : (inodes page : ℕ) (names new : List (List ℕ)) (es more : List DirEntry) (bytes : List ℕ) (r : Result Span Location) → SaysBlock inodes page names es bytes r → SaysBlock inodes page (names ++ new) (es ++ more) bytes r
block_grown inodes page names new es more bytes (Ok s) h = entries_grown inodes page names new es more bytes s h
block_grown inodes page names new es more bytes (Err p) h = h

-- the lists went on
pub record Grows (old new : KeptPages) : Type 0 where
  pub more_entries : List DirEntry
  pub more_numbers : List ℕ
  pub more_names : List (List ℕ)
  pub entries : new.entries.items ≡ old.entries.items ++ more_entries
  pub numbers : new.numbers.items ≡ old.numbers.items ++ more_numbers
  pub names : new.names.names ≡ old.names.names ++ more_names

entries_still : (inodes page : ℕ) (names new : List (List ℕ)) (es more : List DirEntry) (bytes : List ℕ) (o : Option (Result Span Location)) → MatchOption o ⊤ (SaysBlock inodes page names es bytes) → MatchOption o ⊤ (SaysBlock inodes page (names ++ new) (es ++ more) bytes)
entries_still inodes page names new es more bytes None h = h
entries_still inodes page names new es more bytes (Some r) h = block_grown inodes page names new es more bytes r h

index_still : (range : CoreRange) (ns more : List ℕ) (bytes : List ℕ) (o : Option KeptIndex) → MatchOption o ⊤ (SaysIndex range ns bytes) → MatchOption o ⊤ (SaysIndex range (ns ++ more) bytes)
index_still range ns more bytes None h = h
index_still range ns more bytes (Some i) h = index_grown range ns more bytes i h

pub kept_grown : (k : CaseShown) (old new : KeptPages) (p : KeptPage) → Grows old new → IsKept k old p → IsKept k new p
kept_grown k old new p g h = record {
  bytes = h.bytes;
  stands = h.stands;
  here = h.here;
  entries = rw (g.entries, g.names) (entries_still k.inodes p.no old.names.names g.more_names old.entries.items g.more_entries h.bytes p.entries h.entries);
  index = rw g.numbers (index_still k.range old.numbers.items g.more_numbers h.bytes p.index h.index);
}

-- what is kept of a page
pub kept_at : (k : CaseShown) (kept : KeptPages) (page at : ℕ) (p : KeptPage) → KeepsPages k kept → StandsAt kept page at p → IsKept k kept p
kept_at k kept page at p h s = rw s.page at (h.each at)

-- a page stands under its own number
pub number_is : (k : CaseShown) (kept : KeptPages) (page at : ℕ) (p : KeptPage) → KeepsPages k kept → StandsAt kept page at p → p.no ≡ page
number_is k kept page at p h s = rw (s.listed, s.page) at (h.numbered page)

says_under : (inodes n page : ℕ) (names : List (List ℕ)) (es : List DirEntry) (bytes : List ℕ) (o : Option (Result Span Location)) (r : Result Span Location) → o ≡ Some r → n ≡ page → MatchOption o ⊤ (SaysBlock inodes n names es bytes) → SaysBlock inodes page names es bytes r
says_under inodes n page names es bytes o r e f h = rw (e, f) at h

done_from : (k : CaseShown) (kept : KeptPages) (page at : ℕ) (p : KeptPage) (s : Span) (bytes : List ℕ) → page_of (bundle_core (case_in k)) page ≡ Some bytes → place_of page kept.order.items ≡ Some at → slice_get kept.pages.items at ≡ Some p → p.entries ≡ Some (Ok s) → SaysEntries k.inodes page kept.names.names kept.entries.items bytes s → IsDone k kept page
done_from k kept page at p s bytes here listed stands read says = rw (here, listed, stands, read) says.says

bad_from : (k : CaseShown) (kept : KeptPages) (page : ℕ) (place : Location) (bytes : List ℕ) → page_of (bundle_core (case_in k)) page ≡ Some bytes → entries_on k.inodes page bytes ≡ Err place → BlockAnswer {X = Span} k kept page (Err place)
bad_from k kept page place bytes here says = rw here says

-- a block that was read
pub answer_kept : (k : CaseShown) (kept : KeptPages) (page at : ℕ) (p : KeptPage) (r : Result Span Location) → KeepsPages k kept → StandsAt kept page at p → p.entries ≡ Some r → BlockAnswer k kept page r
answer_kept k kept page at p r h stands read =
    let own = kept_at k kept page at p h stands in
    let number = number_is k kept page at p h stands in
    let bytes : page_of (bundle_core (case_in k)) page ≡ Some own.bytes = ap (page_of (bundle_core (case_in k))) (sym number) ∙ own.here in
    let says = says_under k.inodes p.no page kept.names.names kept.entries.items own.bytes p.entries r read number own.entries in
    answer r bytes says read
  where
    answer : {bytes : List ℕ} (r : Result Span Location) → page_of (bundle_core (case_in k)) page ≡ Some bytes → SaysBlock k.inodes page kept.names.names kept.entries.items bytes r → p.entries ≡ Some r → BlockAnswer k kept page r
    answer {bytes} (Ok s) here says read = done_from k kept page at p s bytes here stands.listed stands.page read says
    answer {bytes} (Err place) here says read = bad_from k kept page place bytes here says

module _ (k : CaseShown) (old new : KeptPages) (at : ℕ) (p q : KeptPage) (keeps : KeepsPages k old) (stands : StandsAt old p.no at p) (order : new.order ≡ old.order) (pages : new.pages.items ≡ set old.pages.items at q) (grows : Grows old new) (number : q.no ≡ p.no) (kept : IsKept k new q) where
  pages_still : List KeptPage
  pages_still = old.pages.items

  here : slice_get new.pages.items at ≡ Some q
  here = rw pages (slice_get-set_same old.pages.items at p q stands.page)

  there : (j : ℕ) → (j ≡ at → ⊥) → slice_get new.pages.items j ≡ slice_get old.pages.items j
  there j h = rw pages (slice_get-set_other old.pages.items at j q h)

  each_still : (o : Option KeptPage) → MatchOption o ⊤ (IsKept k old) → MatchOption o ⊤ (IsKept k new)
  each_still None h = h
  each_still (Some x) h = kept_grown k old new x grows h

  each_at : (j : ℕ) → MatchOption (slice_get new.pages.items j) ⊤ (IsKept k new)
  each_at j =
      elim (cases_eq j at) [
        | inl same ↦ rw (same, here) kept
        | inr differ ↦ rw (there j differ) (each_still (slice_get old.pages.items j) (keeps.each j))
      ]

  numbered_at : (A : Type 0) (page : ℕ) (o : Option ℕ) → MatchOption (option_and_then (slice_get old.pages.items) o) A (λ x. x.no ≡ page) → MatchOption (option_and_then (slice_get new.pages.items) o) A (λ x. x.no ≡ page)
  numbered_at A page None h = h
  numbered_at A page (Some j) h =
      elim (cases_eq j at) [
        | inl same ↦ rw (same, here) (number ∙ (rw (same, stands.page) at h))
        | inr differ ↦ rw (there j differ) h
      ]

  pub keeps_set : KeepsPages k new
  keeps_set = record {
    order = rw order keeps.order;
    rising = rw order keeps.rising;
    numbered = λ page. rw order (numbered_at _ page (place_of page old.order.items) (keeps.numbered page));
    each = each_at;
  }

  said_same : (bytes : List ℕ) (page : ℕ) (r : Result Span Location) → SaysBlock k.inodes page old.names.names old.entries.items bytes r → entries_said new.names.names new.entries.items r ≡ entries_said old.names.names old.entries.items r
  said_same bytes page (Ok s) h =
      rw (grows.entries, grows.names)
      (ap (map (listed_seen (old.names.names ++ grows.more_names))) (part-grown s old.entries.items grows.more_entries h.within) ∙ names_grown old.names.names grows.more_names (part s old.entries.items) h.named)
  said_same bytes page (Err place) h = refl

  span_same : (o : Option (Result Span Location)) (bytes : List ℕ) (page : ℕ) → MatchOption o ⊤ (SaysBlock k.inodes page old.names.names old.entries.items bytes) → option_map_or (entries_said new.names.names new.entries.items) o [] ≡ option_map_or (entries_said old.names.names old.entries.items) o []
  span_same None bytes page h = refl
  span_same (Some r) bytes page h = said_same bytes page r h

  page_same : (o : Option KeptPage) → MatchOption o ⊤ (IsKept k old) → option_map_or (entries_said new.names.names new.entries.items) (option_and_then (λ x. x.entries) o) [] ≡ option_map_or (entries_said old.names.names old.entries.items) (option_and_then (λ x. x.entries) o) []
  page_same None h = refl
  page_same (Some x) h = span_same x.entries h.bytes x.no h.entries

  -- the page that was just read, which lists nothing where it is bad
  done_here : (r : Result Span Location) → q.entries ≡ Some r → p.entries ≡ None → (page : ℕ) → place_of page old.order.items ≡ Some at → IsDone k old page → IsDone k new page
  done_here (Ok s) read none page e h = answer_kept k new page at q (Ok s) keeps_set (record { listed = rw order e; page = here }) read
  done_here (Err place) read none page e h = rw (order, e, here, read) (rw (e, stands.page, none) at h)

  done_at : (r : Result Span Location) → q.entries ≡ Some r → p.entries ≡ None → (page : ℕ) (o : Option ℕ) → place_of page old.order.items ≡ o → IsDone k old page → IsDone k new page
  done_at r read none page None e h = rw (order, e) (rw e at h)
  done_at r read none page (Some j) e h =
      elim (cases_eq j at) [
        | inl same ↦ done_here r read none page (e ∙ ap Some same) h
        | inr differ ↦ rw (order, e, there j differ, page_same (slice_get old.pages.items j) (keeps.each j)) (rw e at h)
      ]

  pub done_still : (r : Result Span Location) → q.entries ≡ Some r → p.entries ≡ None → (page : ℕ) → IsDone k old page → IsDone k new page
  done_still r read none page h = done_at r read none page (place_of page old.order.items) refl h

-- the entries of a block that was read have names
pub kept_named : (k : CaseShown) (kept : KeptPages) (page at : ℕ) (p : KeptPage) (s : Span) → KeepsPages k kept → StandsAt kept page at p → p.entries ≡ Some (Ok s) → AreNamed kept.names.names (part s kept.entries.items)
kept_named k kept page at p s h stands read =
    let own = kept_at k kept page at p h stands in
    (says_under k.inodes p.no page kept.names.names kept.entries.items own.bytes p.entries (Ok s) read (number_is k kept page at p h stands) own.entries).named

-- a page that wasn't read is counted
pub index_unread : (kept : KeptPages) (at : ℕ) (p : KeptPage) → slice_get kept.pages.items at ≡ Some p → p.index ≡ None → 1 ≤ unread_index kept
index_unread kept at p h u = count-some (λ (x : KeptPage). not (is_some x.index)) kept.pages.items at p h (ap (λ o. not (is_some o)) u)

pub block_unread : (kept : KeptPages) (at : ℕ) (p : KeptPage) → slice_get kept.pages.items at ≡ Some p → p.entries ≡ None → 1 ≤ unread_blocks kept
block_unread kept at p h u = count-some (λ (x : KeptPage). not (is_some x.entries)) kept.pages.items at p h (ap (λ o. not (is_some o)) u)

pub none_there : {X : Type 0} (o : Option X) → false ≡ is_some o → o ≡ None
none_there None h = refl
none_there (Some x) h = absurd cc

-- a list went on
pub behind : {X : Type 0} (n : ℕ) (old new : List X) → n ≡ length old → take n new ≡ old → new ≡ old ++ drop n new
behind n old new e h = sym (take-append-drop n new) ∙ ap (λ x. x ++ drop n new) h

-- entries went on, and names
module _ (n m : ℕ) (now next : List DirEntry) (names after : List (List ℕ)) (few : n ≤ m) (whole : m ≡ length now) (front : take m next ≡ now) (names_front : IsFront names after) where
  drop_more : drop n next ≡ drop n now ++ drop m next
  drop_more = ap (drop n) (behind m now next whole front) ∙ drop-append-le n now (drop m next) (omega (arith, few, whole))

  names_more : after ≡ names ++ drop (length names) after
  names_more = behind (length names) names after refl names_front

  pub seen_more : AreNamed names (drop n now) → map (listed_seen after) (drop n next) ≡ map (listed_seen names) (drop n now) ++ map (listed_seen after) (drop m next)
  seen_more h =
      let still = names_grown names (drop (length names) after) (drop n now) h in
      ap (map (listed_seen after)) drop_more ∙ map-append (listed_seen after) (drop n now) (drop m next)
      ∙ ap (λ ls. ls ++ map (listed_seen after) (drop m next)) (ap (λ ns. map (listed_seen ns) (drop n now)) names_more ∙ still)

  pub named_more : AreNamed names (drop n now) → AreNamed after (drop m next) → AreNamed after (drop n next)
  named_more old new = λ l i. elim (In-cases l (drop n now) (drop m next) (rw drop_more at i)) [
    | inl before ↦ omega (arith, old l before, ap length names_more, length-append names (drop (length names) after))
    | inr last ↦ new l last
  ]

-- one entry more is what comes behind
pub last_is : (n : ℕ) (es : List DirEntry) (e : DirEntry) → n ≡ length es → drop n (es ++ e ∷ []) ≡ e ∷ []
last_is n es e h = ap (λ m. drop m (es ++ e ∷ [])) h ∙ drop-append_seam es (e ∷ [])

-- a front of a front
pub front_trans : {X : Type 0} (first now next : List X) → IsFront first now → IsFront now next → IsFront first next
front_trans first now next h g =
    let a = behind (length first) first now refl h in
    let c = behind (length now) now next refl g in
    let whole : next ≡ first ++ (drop (length first) now ++ drop (length now) next) = c ∙ ap (λ x. x ++ drop (length now) next) a ∙ append_assoc first (drop (length first) now) (drop (length now) next) in
    ap (take (length first)) whole ∙ take-append-le (length first) first (drop (length first) now ++ drop (length now) next) (omega arith) ∙ take_all (length first) first (omega arith)

-- a block that was just read: what is kept, what was done, and what is left
module _ (k : CaseShown) (old new : KeptPages) (page at : ℕ) (p q : KeptPage) (r : Result Span Location) (keeps : KeepsPages k old) (stands : StandsAt old page at p) (order : new.order ≡ old.order) (pages : new.pages.items ≡ set old.pages.items at q) (same : q ≡ record p { entries = Some r }) (unread : p.entries ≡ None) (grows : Grows old new) (says : (bytes : List ℕ) → bytes_at k.bundle p.place ≡ Some bytes → SaysBlock k.inodes p.no new.names.names new.entries.items bytes r) where
  was : IsKept k old p
  was = kept_at k old page at p keeps stands

  own : StandsAt old p.no at p
  own = record { listed = rw (number_is k old page at p keeps stands) stands.listed; page = stands.page }

  grown : IsKept k new p
  grown = kept_grown k old new p grows was

  kept : IsKept k new q
  kept = rw same (record {
    bytes = grown.bytes;
    stands = grown.stands;
    here = grown.here;
    entries = says grown.bytes grown.stands;
    index = grown.index;
  })

  pub block_keeps : KeepsPages k new
  block_keeps = keeps_set k old new at p q keeps own order pages grows (ap (λ x. x.no) same) kept

  pub block_others : (other : ℕ) → IsDone k old other → IsDone k new other
  block_others = done_still k old new at p q keeps own order pages grows (ap (λ x. x.no) same) kept r (ap (λ x. x.entries) same) unread

  pub block_here : BlockAnswer k new page r
  block_here =
      answer_kept k new page at q r block_keeps
      (record { listed = rw order stands.listed; page = rw pages (slice_get-set_same old.pages.items at p q stands.page) }) (ap (λ x. x.entries) same)
