-- What a walk that has passed all files has found.
use Rattle.trio_judge.proofs.Words.{◌&&◌, ◌*◌, ◌∙◌, ◌∷◌, ◌≡◌, ◌≤◌, Bool, BreaksGrammar, Case, FaultAt, In, In-flat, IsPassed, IsQueued, IsReady, KeepRights, List, Listing, Lists, Location, MatchOption, Met, None, OwningFails, PageListing, RightsFail, Some, Stands, Walk, [], and_from, ap, append-nil, are_new, arith, bundle_pages, drop, entries_in, entry_in_grammar, entry_is_own, entry_keeps_rights, entry_listed, false, file_in, file_keeps_rights, file_met, files_of, flat_map, inl, inr, is_among, is_ok, judged_entries, judged_listings, length, length-map, list_all, new_entries, numbers, pages_within, refl, subst, suc, sym, take, take_all, true, written_files, ℕ}
use Rattle.std.proofs.lemmas.List.{drop_all}
use Rattle.std.proofs.lemmas.Bool.{and_left, and_right}
use Rattle.trio_lists.proofs.Gathered.{not_new}
use Rattle.trio_layout.specs.JudgedFiles.{judged_files, judged_pages}
use Rattle.trio_layout.specs.Listing.{listing}
use Rattle.trio_layout.specs.Rules.{meets_grammar, meets_owning, meets_rights}
use Rattle.trio_layout.specs.Broken.{BreaksOwning, BreaksRights}
use Rattle.trio_layout.proofs.Walks.{passed_are_fronts}
use Rattle.trio_judge.specs.inner.Walk.{HasEnded}
use Rattle.trio_judge.proofs.Faults.{pages-listed}
use Rattle.trio_judge.proofs.Listings.{entries_few, pages_few}
use Rattle.trio_judge.proofs.Noting.{so_far}
use Rattle.trio_judge.proofs.Visiting.{short}

pub has_ended : (c : Case) (at : ℕ) (w : Walk) → IsQueued c at w → IsReady c w → length (files_of w) ≤ at → HasEnded c w
unfolding judged_files
has_ended c at w q r h =
    let fs : List Met = files_of w in
    record {
      files =
          passed_are_fronts (new_entries c) (written_files c) (suc c.inodes) at fs
          (q.queued ∙ ap (λ p. record { passed = p; level = drop at fs }) (take_all at fs h) ∙ ap (λ l. record { passed = fs; level = l }) (drop_all at fs h))
          (omega (arith, q.inside, short c w r));
    }

pub all_passed : (c : Case) (at : ℕ) (w : Walk) → IsPassed c at w → length (files_of w) ≤ at → IsPassed c (length w.files.items) w
all_passed c at w p h =
    let fs : List Met = files_of w in
    let n : ℕ = length w.files.items in
    subst (λ ms. Stands c ms (flat_map (entries_in c) ms) w) (take_all at fs h ∙ sym (take_all n fs (omega (arith, length-map w.files.items file_met)))) p

-- ---- where a place is named, the rule isn't met

fails_all : {X : Type 0} (p : X → Bool) (x : X) (xs : List X) → In x xs → p x ≡ false → list_all p xs ≡ false
fails_all p x [] i e = absurd i
fails_all p x (y ∷ ys) (inl s) e = and_left (p y) (list_all p ys) (ap p (sym s) ∙ e)
fails_all p x (y ∷ ys) (inr i) e = and_right (p y) (list_all p ys) (fails_all p x ys i e)

pub grammar_false : (c : Case) (ino : ℕ) (place : Location) → BreaksGrammar c ino place → meets_grammar c ≡ false
grammar_false c ino place (inl (m, at, bad)) =
    and_left (list_all (λ m. is_ok (file_in c m)) (judged_files c)) (list_all (entry_in_grammar c) (judged_entries c)) (fails_all (λ m. is_ok (file_in c m)) m (judged_files c) at.among (ap is_ok bad))
grammar_false c ino place (inr (e, at, bad)) =
    and_right (list_all (λ m. is_ok (file_in c m)) (judged_files c)) (list_all (entry_in_grammar c) (judged_entries c)) (fails_all (entry_in_grammar c) e (judged_entries c) at.among bad)

abbrev own_pages : Case → Bool
own_pages c = list_all (λ page. is_among page (bundle_pages c.bundle)) (judged_pages c)

abbrev new_pages : Case → Bool
new_pages c = are_new [] (judged_pages c)

abbrev own_entries : Case → Bool
own_entries c = list_all (entry_is_own c) (judged_entries c)

abbrev new_numbers : Case → Bool
new_numbers c = are_new [] (numbers (judged_entries c))

pub owning_false : (c : Case) (ino : ℕ) (place : Location) → BreaksOwning c ino place → meets_owning c ≡ false
owning_false c ino place (inl (page, (m, at, i, foreign), is)) =
    let f : own_pages c ≡ false = fails_all (λ p. is_among p (bundle_pages c.bundle)) page (judged_pages c) (In-flat (pages_within c) m page (judged_files c) at.among i) foreign in
    rw f refl
owning_false c ino place (inr (inl (page, again, is))) =
    let key : PageListing → ℕ = λ l. l.page in
    let f : new_pages c ≡ false =
    ap (are_new []) (sym (pages-listed c (judged_files c))) ∙ not_new key (judged_listings c) again.earlier again.later (record { ino = ino; page = page }) again.order again.seen in
    and_left (own_pages c && new_pages c && own_entries c) (new_numbers c) (and_left (own_pages c && new_pages c) (own_entries c) (and_right (own_pages c) (new_pages c) f))
owning_false c ino place (inr (inr (inl (e, at, foreign)))) =
    let f : own_entries c ≡ false = fails_all (entry_is_own c) e (judged_entries c) at.among foreign in
    and_left (own_pages c && new_pages c && own_entries c) (new_numbers c) (and_right (own_pages c && new_pages c) (own_entries c) f)
owning_false c ino place (inr (inr (inr again))) =
    let f : new_numbers c ≡ false = not_new (λ (m : Met). m.ino) (judged_entries c) again.earlier again.later again.again again.order again.seen in
    and_right (own_pages c && new_pages c && own_entries c) (new_numbers c) f

pub rights_false : (c : Case) (ino : ℕ) (place : Location) → BreaksRights c ino place → meets_rights c ≡ false
rights_false c ino place (inl (e, at, bad)) =
    and_left (list_all (entry_keeps_rights c) (judged_entries c)) (list_all (λ m. file_keeps_rights c m (file_in c m)) (judged_files c)) (fails_all (entry_keeps_rights c) e (judged_entries c) at.among bad)
rights_false c ino place (inr (m, at, bad, is)) =
    and_right (list_all (entry_keeps_rights c) (judged_entries c)) (list_all (λ m. file_keeps_rights c m (file_in c m)) (judged_files c)) (fails_all (λ m. file_keeps_rights c m (file_in c m)) m (judged_files c) at.among bad)

-- ---- the whole case

module _ (c : Case) (w : Walk) (e : HasEnded c w) (p : IsPassed c (length w.files.items) w) where
  whole : Stands c (judged_files c) (judged_entries c) w
  whole =
      let fs : List Met = files_of w in
      let all : take (length w.files.items) fs ≡ judged_files c = take_all (length w.files.items) fs (omega (arith, length-map w.files.items file_met)) ∙ sym e.files in
      subst (λ ms. Stands c ms (flat_map (entries_in c) ms) w) all p

  pub grammar_met : meets_grammar c ≡ true
  grammar_met = and_from _ _ whole.read whole.grammar

  pub owning_fails : (o : FaultAt) → w.owning ≡ Some o → BreaksOwning c o.ino o.place
  owning_fails o is =
      let f : OwningFails c (judged_files c) (judged_entries c) o = subst (λ x. MatchOption x (Lists c (judged_files c) (judged_entries c) w) (OwningFails c (judged_files c) (judged_entries c))) is whole.listed in
      f [] [] (sym (append-nil (judged_files c))) (sym (append-nil (judged_entries c)))

  lists : w.owning ≡ None → Lists c (judged_files c) (judged_entries c) w
  lists none = so_far c (judged_files c) (judged_entries c) w none whole.listed

  pub owning_met : w.owning ≡ None → meets_owning c ≡ true
  owning_met none =
      let o = (lists none).owns in
      and_from (own_pages c && new_pages c && own_entries c) (new_numbers c) (and_from (own_pages c && new_pages c) (own_entries c) (and_from (own_pages c) (new_pages c) o.pages o.pages_once) o.entries) o.entries_once

  pub listing_is : w.owning ≡ None → w.listing.listing ≡ listing c
  listing_is none = (lists none).listing

  -- entries stand in slots of pages of the bundle, and each page is listed once
  pub few_listed : w.owning ≡ None → length w.listing.listing.entries ≤ 16 * length (bundle_pages c.bundle)
  few_listed none =
      let l = lists none in
      let pages = pages_few c (judged_files c) (judged_entries c) l.owns in
      let entries = entries_few c (judged_files c) in
      let listed = ap (λ (x : Listing). length x.entries) l.listing ∙ length-map (judged_entries c) (entry_listed c) in
      omega (arith, pages, entries, listed)

  pub rights_fail : (o : FaultAt) → w.owning ≡ None → w.rights ≡ Some o → BreaksRights c o.ino o.place
  rights_fail o none is =
      let f : RightsFail c (judged_files c) (judged_entries c) o = subst (λ x. MatchOption x (KeepRights c (judged_files c) (judged_entries c)) (RightsFail c (judged_files c) (judged_entries c))) is (lists none).rights in
      f [] [] (sym (append-nil (judged_files c))) (sym (append-nil (judged_entries c)))

  pub rights_met : w.owning ≡ None → w.rights ≡ None → meets_rights c ≡ true
  rights_met none is =
      let k : KeepRights c (judged_files c) (judged_entries c) = subst (λ x. MatchOption x (KeepRights c (judged_files c) (judged_entries c)) (RightsFail c (judged_files c) (judged_entries c))) is (lists none).rights in
      and_from _ _ k.entries k.files

pub three_met : (a b d : Bool) → a ≡ true → b ≡ true → d ≡ true → true ≡ (a && b && d)
three_met a b d e f g = rw (e, f, g) refl

pub first_unmet : (a b d : Bool) → a ≡ false → false ≡ (a && b && d)
first_unmet a b d e = rw e refl

pub second_unmet : (a b d : Bool) → a ≡ true → b ≡ false → false ≡ (a && b && d)
second_unmet a b d e f = rw (e, f) refl

pub third_unmet : (a b d : Bool) → a ≡ true → b ≡ true → d ≡ false → false ≡ (a && b && d)
third_unmet a b d e f g = rw (e, f, g) refl
