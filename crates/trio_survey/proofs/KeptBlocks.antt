-- What is kept of directory blocks, as one more is read.
use Rattle.trio_survey.proofs.Words.{◌++◌, ◌-◌, ◌<◌, ◌∙◌, ◌∷◌, ◌≡◌, ◌≤◌, Bool, CoreRange, DirEntry, Err, GoesOn, HasParts, IsGood, IsPart, List, Location, None, Ok, Option, Result, SaysBlocks, Some, Span, [], and_parts, ap, arith, block_kept, cases_eq, cond, core_with, drop, entries_kept, false, get_or, get_or-set_other, get_or-set_same, inl, inr, is_core, leb, length, length-set, ltb, nat_tests, page_entries, refl, set, subst, sym, take, true, ℕ}
use Rattle.std.specs.Prelude.{⊤, MatchOption, MatchResult}
use Rattle.std.specs.Vec.{with_item}
use Rattle.trio_layout.specs.Range.{core_count}
use Rattle.trio_survey.specs.declared.blocks.KeptBlocks.{KeptBlocks}
use Rattle.trio_survey.specs.inner.Blocks.{SaysBlock, StaysRead}
use Rattle.trio_survey.proofs.KeptLists.{behind, part_seen, part_stays}

abbrev Read : Type 0
Read = Result Span Location

abbrev Pages : Type 0
Pages = List (Option (List ℕ))

cond_value : {X : Type 0} (b : Bool) (o : Option X) (x : X) → cond b o None ≡ Some x → o ≡ Some x
cond_value true o x e = e
cond_value false o x e = absurd cc

cond_same : {X : Type 0} (b : Bool) (o p : Option X) → (b ≡ true → o ≡ p) → cond b o None ≡ cond b p None
cond_same true o p h = h refl
cond_same false o p h = refl

-- what is kept of a block is a part of the entries
abbrev pub HasPart : List (List ℕ) → List DirEntry → Read → Type 0
HasPart names entries r = MatchResult r (IsPart names entries) (λ _. ⊤)

pub kept_part : (range : CoreRange) (kept : KeptBlocks) (page : ℕ) (r : Read) → HasParts range kept → block_kept range kept.read.items page ≡ Some r → HasPart kept.names.names.items kept.entries.items r
kept_part range kept page r h e =
    rw (cond_value (is_core range page) (get_or kept.read.items (page - range.first) None) r e) at (h.each (page - range.first))

-- a core page has a place of its own
core_bounds : (range : CoreRange) (page : ℕ) → is_core range page ≡ true → (range.first ≤ page) × (page < range.end)
core_bounds range page h =
    let low : leb range.first page ≡ true = (and_parts (leb range.first page) (ltb page range.end) h).0 in
    let high : ltb page range.end ≡ true = (and_parts (leb range.first page) (ltb page range.end) h).1 in
    (grind (arith, nat_tests), grind (arith, nat_tests))

pub core_place : (range : CoreRange) (page : ℕ) → is_core range page ≡ true → page - range.first < core_count range
core_place range page h = let b = core_bounds range page h in omega (arith, b.0, b.1)

kept_other : (range : CoreRange) (read : List (Option Read)) (own page : ℕ) (r : Option Read) → is_core range own ≡ true → (page ≡ own → ⊥) → block_kept range (set read (own - range.first) r) page ≡ block_kept range read page
kept_other range read own page r core differ =
    cond_same (is_core range page) _ _ (λ is.
    let b = core_bounds range own core in
    let d = core_bounds range page is in
    get_or-set_other read (own - range.first) (page - range.first) r None (λ e. differ (omega (arith, e, b.0, d.0))))

kept_same : (range : CoreRange) (read : List (Option Read)) (own : ℕ) (r : Option Read) → is_core range own ≡ true → length read ≡ core_count range → block_kept range (set read (own - range.first) r) own ≡ r
kept_same range read own r core count =
    let place = core_place range own core in
    ap (λ b. cond b (get_or (set read (own - range.first) r) (own - range.first) None) None) core
    ∙ get_or-set_same read (own - range.first) r None (omega (arith, place, count))

-- ---- names and entries more

result_stays : (names new : List (List ℕ)) (es more : List DirEntry) (r : Read) → HasPart names es r → HasPart (names ++ new) (es ++ more) r
result_stays names new es more (Ok s) h = part_stays names new es more s h
result_stays names new es more (Err p) h = h

option_stays : (names new : List (List ℕ)) (es more : List DirEntry) (o : Option Read) → MatchOption o ⊤ (HasPart names es) → MatchOption o ⊤ (HasPart (names ++ new) (es ++ more))
option_stays names new es more None h = h
option_stays names new es more (Some r) h = result_stays names new es more r h

says_stays : (pages : Pages) (range : CoreRange) (inodes page : ℕ) (names new : List (List ℕ)) (es more : List DirEntry) (r : Read) → HasPart names es r → SaysBlock pages range inodes page names es r → SaysBlock pages range inodes page (names ++ new) (es ++ more) r
says_stays pages range inodes page names new es more (Ok s) p h = h ∙ ap Ok (sym (part_seen names new es more s p))
says_stays pages range inodes page names new es more (Err p) q h = h

-- what was kept stays a part of what is
parts_stay : (names : List (List ℕ)) (entries : List DirEntry) (o : Option Read) (new : List (List ℕ)) (es : List DirEntry) → new ≡ names ++ drop (length names) new → es ≡ entries ++ drop (length entries) es → MatchOption o ⊤ (HasPart names entries) → MatchOption o ⊤ (HasPart new es)
parts_stay names entries o new es p q h = subst (λ ns. MatchOption o ⊤ (HasPart ns es)) (sym p) (subst (λ xs. MatchOption o ⊤ (HasPart (names ++ drop (length names) new) xs)) (sym q) (option_stays names (drop (length names) new) entries (drop (length entries) es) o h))

pub parts_after : (range : CoreRange) (old mid : KeptBlocks) → HasParts range old → GoesOn old mid → HasParts range mid
parts_after range old mid parts on = record {
  count = ap length on.read ∙ parts.count;
  numbered = on.numbered;
  each = λ place. rw on.read
      (parts_stay old.names.names.items old.entries.items (get_or old.read.items place None) mid.names.names.items mid.entries.items
      (behind (length old.names.names.items) old.names.names.items mid.names.names.items refl on.names)
      (behind (length old.entries.items) old.entries.items mid.entries.items refl on.entries)
      (parts.each place));
}

-- ---- one block more

module _ (range : CoreRange) (old mid : KeptBlocks) (own : ℕ) (r : Read) (core : is_core range own ≡ true) (parts : HasParts range old) (on : GoesOn old mid) (unread : block_kept range old.read.items own ≡ None) (is : HasPart mid.names.names.items mid.entries.items r) where
  abbrev pub now : KeptBlocks
  now = record mid { read = with_item mid.read (own - range.first) (Some r) }

  abbrev more : List DirEntry
  more = drop (length old.entries.items) mid.entries.items

  abbrev new : List (List ℕ)
  new = drop (length old.names.names.items) mid.names.names.items

  entries_are : mid.entries.items ≡ old.entries.items ++ more
  entries_are = behind (length old.entries.items) old.entries.items mid.entries.items refl on.entries

  names_are : mid.names.names.items ≡ old.names.names.items ++ new
  names_are = behind (length old.names.names.items) old.names.names.items mid.names.names.items refl on.names

  count : length mid.read.items ≡ core_count range
  count = ap length on.read ∙ parts.count

  part_at : (place : ℕ) → MatchOption (get_or (set mid.read.items (own - range.first) (Some r)) place None) ⊤ (HasPart mid.names.names.items mid.entries.items)
  part_at place =
      elim (cases_eq place (own - range.first)) [
        | inl same ↦
            let at = get_or-set_same mid.read.items (own - range.first) (Some r) None (omega (arith, core_place range own core, count)) in
            rw (same, at) is
        | inr other ↦
            let at = get_or-set_other mid.read.items (own - range.first) place (Some r) None other in
            rw at ((parts_after range old mid parts on).each place)
      ]

  pub parts_more : HasParts range now
  parts_more = record {
    count = length-set mid.read.items (own - range.first) (Some r) ∙ count;
    numbered = on.numbered;
    each = part_at;
  }

  here : block_kept range now.read.items own ≡ Some r
  here = kept_same range mid.read.items own (Some r) core count

  there : (page : ℕ) → (page ≡ own → ⊥) → block_kept range now.read.items page ≡ block_kept range old.read.items page
  there page differ = kept_other range mid.read.items own page (Some r) core differ ∙ ap (λ read. block_kept range read page) on.read

  says_at : (pages : Pages) (inodes page : ℕ) (o : Option Read) → block_kept range old.read.items page ≡ o → MatchOption o ⊤ (SaysBlock pages range inodes page old.names.names.items old.entries.items) → MatchOption o ⊤ (SaysBlock pages range inodes page mid.names.names.items mid.entries.items)
  says_at pages inodes page None e h = h
  says_at pages inodes page (Some x) e h =
      rw (entries_are, names_are) (says_stays pages range inodes page old.names.names.items new old.entries.items more x (kept_part range old page x parts e) h)

  pub says_more : (pages : Pages) (inodes : ℕ) → SaysBlock pages range inodes own mid.names.names.items mid.entries.items r → SaysBlocks pages range inodes old → SaysBlocks pages range inodes now
  says_more pages inodes says h = λ page.
      elim (cases_eq page own) [
        | inl same ↦ rw (same, here) says
        | inr differ ↦ rw (there page differ) (says_at pages inodes page (block_kept range old.read.items page) refl (h page))
      ]

  pub others_more : StaysRead range old now
  others_more = λ page good.
      elim (cases_eq page own) [
        | inl same ↦ absurd (none_good (ap (block_kept range old.read.items) (sym same) ∙ good.1) unread)
        | inr differ ↦ (good.0, there page differ ∙ good.1)
      ]
    where
      none_good : {o : Option Read} {x : Read} → o ≡ Some x → o ≡ None → ⊥
      none_good e n = let both = sym e ∙ n in absurd cc

  pub good_here : (s : Span) → r ≡ Ok s → IsGood range now own
  good_here s e = (s, here ∙ ap Some e)

-- nothing was appended
pub goes_nowhere : (range : CoreRange) (kept : KeptBlocks) → HasParts range kept → GoesOn kept kept
goes_nowhere range kept parts = record {
  read = refl;
  numbered = parts.numbered;
  names = take_whole kept.names.names.items;
  entries = take_whole kept.entries.items;
}
  where
    take_whole : {X : Type 0} (xs : List X) → take (length xs) xs ≡ xs
    take_whole [] = refl
    take_whole (x ∷ xs) = ap (λ l. x ∷ l) (take_whole xs)

-- ---- what blocks list

good_entries : (pages : Pages) (range : CoreRange) (inodes : ℕ) (kept : KeptBlocks) (page : ℕ) (o : Option Read) (s : Span) → block_kept range kept.read.items page ≡ o → o ≡ Some (Ok s) → MatchOption o ⊤ (SaysBlock pages range inodes page kept.names.names.items kept.entries.items) → page_entries (core_with pages range inodes) page ≡ Ok (entries_kept range kept page)
good_entries pages range inodes kept page o s e f h =
    let is : block_kept range kept.read.items page ≡ Some (Ok s) = e ∙ f in
    rw is (rw f at h)

-- a block that was read lists what is kept of it
pub good_lists : (pages : Pages) (range : CoreRange) (inodes : ℕ) (kept : KeptBlocks) (page : ℕ) → SaysBlocks pages range inodes kept → IsGood range kept page → page_entries (core_with pages range inodes) page ≡ Ok (entries_kept range kept page)
good_lists pages range inodes kept page h good =
    good_entries pages range inodes kept page (block_kept range kept.read.items page) good.0 refl good.1 (h page)

-- a block that was read and is bad
pub bad_says : (pages : Pages) (range : CoreRange) (inodes : ℕ) (kept : KeptBlocks) (page : ℕ) (p : Location) → SaysBlocks pages range inodes kept → block_kept range kept.read.items page ≡ Some (Err p) → page_entries (core_with pages range inodes) page ≡ Err p
bad_says pages range inodes kept page p h e = rw e at (h page)
