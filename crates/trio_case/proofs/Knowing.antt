-- The table and the sets after one number more, and the words of a listing over the lists that keep it.
use Rattle.trio_case.proofs.Words.{◌&&◌, ◌++◌, ◌+◌, ◌<◌, ◌||◌, ◌∙◌, ◌∷◌, ◌≡◌, ◌≤◌, Bool, FileData, List, ListedFile, None, Option, Some, [], ap, arith, as_row, cases_eq, cond, entry_seen, eqb, false, file_seen, find, get_or, get_or-set_other, get_or-set_same, get_or_append_left, inl, inr, is_among, last_of, length, length-append, length-set, list_any, map, nat_tests, noted, option_map, refl, replicate, slice_get-get_or, slice_set, subst, suc, sym, true, zero, ℕ}
use Rattle.std.proofs.Common.{slice_get}
use Rattle.std.specs.Option.{option_or}
use Rattle.std.proofs.lemmas.List.Folds.{find-append}
use Rattle.trio_lists.proofs.Marked.{is_among-push}
use Rattle.trio_layout.specs.Listing.{ListedEntry as EntryData}
use Rattle.trio_case.specs.declared.listing.ListedEntry.{ListedEntry}
use Rattle.trio_case.specs.inner.Known.{IsFirst, KnowsFirst}
use Rattle.trio_case.specs.inner.NumberSets.{HasJust, NumbersShown}

-- ---- one entry more

abbrev first_named : ℕ → List ListedEntry → Option ListedEntry
first_named n es = find (λ (x : ListedEntry). eqb x.ino n) es

or_some : (o : Option ListedEntry) (e : ListedEntry) → o ≡ None → option_or o (Some e) ≡ Some e
or_some None e h = refl
or_some (Some x) e h = absurd cc

or_none : (o : Option ListedEntry) → option_or o None ≡ o
or_none None = refl
or_none (Some x) = refl

or_before : (o p : Option ListedEntry) (x : ListedEntry) → o ≡ Some x → option_or o p ≡ Some x
or_before None p x h = absurd cc
or_before (Some y) p x h = h

slice_more : (xs : List ListedEntry) (x : ListedEntry) (i : ℕ) → i < length xs → slice_get (xs ++ x ∷ []) i ≡ slice_get xs i
slice_more xs x i h =
    slice_get-get_or (xs ++ x ∷ []) i x (omega (arith, h, length-append xs (x ∷ []))) ∙ ap (λ y. Some y) (get_or_append_left xs (x ∷ []) x i h) ∙ sym (slice_get-get_or xs i x h)

slice_last : (xs : List ListedEntry) (x : ListedEntry) → slice_get (xs ++ x ∷ []) (length xs) ≡ Some x
slice_last [] x = refl
slice_last (y ∷ ys) x = slice_last ys x

-- the first that names a number stays so
last_more : (count : ℕ) (es : List ListedEntry) (e : ListedEntry) → count ≤ length es → last_of count (es ++ e ∷ []) ≡ last_of count es
last_more zero es e h = refl
last_more (suc at) es e h = slice_more es e at (omega (arith, h))

found_stays : (es : List ListedEntry) (e : ListedEntry) (n count : ℕ) → eqb e.ino n ≡ false → IsFirst es n count → IsFirst (es ++ e ∷ []) n count
found_stays es e n count other f = record {
  within = omega (arith, f.within, length-append es (e ∷ []));
  named = last_more count es e f.within ∙ f.named ∙ sym (find-append (λ (x : ListedEntry). eqb x.ino n) es (e ∷ []) ∙ rw other (or_none (first_named n es)));
}

noted_old : (at count : ℕ) → noted (suc at) count ≡ suc at
noted_old at count = let some : eqb (suc at) 0 ≡ false = grind (arith, nat_tests) in rw some refl

-- the table after the entry that comes last was noted
noted_here : (es : List ListedEntry) (e : ListedEntry) (n count : ℕ) → eqb e.ino n ≡ true → IsFirst es n count → IsFirst (es ++ e ∷ []) n (noted count (length es + 1))
noted_here es e n zero same f = record {
  within = omega (arith, length-append es (e ∷ []));
  named = last ∙ sym (find-append (λ (x : ListedEntry). eqb x.ino n) es (e ∷ []) ∙ rw same (or_some (first_named n es) e (sym f.named)));
}
  where
    last : last_of (length es + 1) (es ++ e ∷ []) ≡ Some e
    last = let more : length es + 1 ≡ suc (length es) = omega arith in rw more (slice_last es e)
noted_here es e n (suc at) same f = subst (λ count. IsFirst (es ++ e ∷ []) n count) (sym (noted_old at (length es + 1))) (record {
  within = omega (arith, f.within, length-append es (e ∷ []));
  named = last_more (suc at) es e f.within ∙ there ∙ sym (find-append (λ (x : ListedEntry). eqb x.ino n) es (e ∷ []) ∙ or_before (first_named n es) _ (get_or es at e) (sym f.named ∙ there));
})
  where
    there : slice_get es at ≡ Some (get_or es at e)
    there = slice_get-get_or es at e (omega (arith, f.within))

pub knows_entry : (first : List ℕ) (es : List ListedEntry) (e : ListedEntry) → KnowsFirst first es → KnowsFirst (slice_set first e.ino (noted (get_or first e.ino 0) (length es + 1))) (es ++ e ∷ [])
knows_entry first es e knows = λ n less.
    let value : ℕ = noted (get_or first e.ino 0) (length es + 1) in
    let h : n < length first = omega (arith, less, length-set first e.ino value) in
    elim (cases_eq n e.ino) [
      | inl same ↦
          let here : eqb e.ino n ≡ true = grind (arith, nat_tests) in
          let w : e.ino < length first = omega (arith, h, same) in
          let is : get_or (slice_set first e.ino value) n 0 ≡ noted (get_or first n 0) (length es + 1) =
          ap (λ j. get_or (slice_set first e.ino value) j 0) same ∙ get_or-set_same first e.ino value 0 w ∙ ap (λ j. noted (get_or first j 0) (length es + 1)) (sym same) in
          rw is (noted_here es e n (get_or first n 0) here (knows n h))
      | inr differ ↦
          let other : eqb e.ino n ≡ false = grind (arith, nat_tests) in
          rw (get_or-set_other first e.ino n value 0 differ) (found_stays es e n (get_or first n 0) other (knows n h))
    ]

-- nothing is known of no entries
pub knows_none : (count : ℕ) → KnowsFirst (replicate count 0) []
knows_none count = λ n h. rw (zeros count n 0) (record { within = omega arith; named = refl })
  where
    zeros : (count n x : ℕ) → get_or (replicate count x) n x ≡ x
    zeros zero n x = refl
    zeros (suc count) zero x = refl
    zeros (suc count) (suc n) x = zeros count n x

-- ---- one number more in a set

pub just_more : (those : List ℕ) (n : ℕ) (s s' : NumbersShown) → HasJust those s → ((m : ℕ) → is_among m s'.numbers ≡ (eqb n m || is_among m s.numbers)) → length s'.numbers ≤ length s.numbers + 1 → HasJust (those ++ n ∷ []) s'
just_more those n s s' h more few = record {
  each = λ m. more m ∙ ap (λ b. eqb n m || b) (h.each m) ∙ either (eqb n m) (is_among m those) ∙ sym (is_among-push m n those);
  few = omega (arith, few, h.few, length-append those (n ∷ []));
}
  where
    either : (a b : Bool) → (a || b) ≡ (b || a)
    either true true = refl
    either true false = refl
    either false true = refl
    either false false = refl

-- ---- the lists that keep it

pub kept-seen : (n : ℕ) (es : List ListedEntry) → list_any (λ (e : EntryData). eqb e.ino n && e.kept) (map entry_seen es) ≡ list_any (λ (e : ListedEntry). eqb e.ino n && e.kept) es
kept-seen n [] = refl
kept-seen n (e ∷ es) = ap (λ b. (eqb e.ino n && e.kept) || b) (kept-seen n es)

seen_step : (b : Bool) (e : ListedEntry) (x : Option EntryData) (y : Option ListedEntry) → x ≡ option_map entry_seen y → cond b (Some (entry_seen e)) x ≡ option_map entry_seen (cond b (Some e) y)
seen_step true e x y h = refl
seen_step false e x y h = h

pub find-seen : (n : ℕ) (es : List ListedEntry) → find (λ (e : EntryData). eqb e.ino n) (map entry_seen es) ≡ option_map entry_seen (find (λ (e : ListedEntry). eqb e.ino n) es)
find-seen n [] = refl
find-seen n (e ∷ es) = seen_step (eqb e.ino n) e _ _ (find-seen n es)

pub numbers-seen : (index blocks : List ℕ) (fs : List FileData) → map (λ (f : FileData). f.ino) fs ≡ map (λ (f : ListedFile). f.ino) (map (file_seen index blocks) fs)
numbers-seen index blocks [] = refl
numbers-seen index blocks (f ∷ fs) = ap (λ ns. f.ino ∷ ns) (numbers-seen index blocks fs)

pub rows-seen : (index blocks : List ℕ) (fs : List FileData) → map (λ (f : FileData). as_row f.row) fs ≡ map (λ (f : ListedFile). f.row) (map (file_seen index blocks) fs)
rows-seen index blocks [] = refl
rows-seen index blocks (f ∷ fs) = ap (λ rs. as_row f.row ∷ rs) (rows-seen index blocks fs)

pub file-found : (index blocks : List ℕ) (n : ℕ) (fs : List FileData) → list_any (λ (f : ListedFile). eqb f.ino n) (map (file_seen index blocks) fs) ≡ is_among n (map (λ (f : FileData). f.ino) fs)
file-found index blocks n [] = refl
file-found index blocks n (f ∷ fs) = ap (λ b. eqb f.ino n || b) (file-found index blocks n fs)

-- where no entry names a number, no kept child has it; where the first that does is one, one has
pub unkept : (n : ℕ) (es : List EntryData) → find (λ (e : EntryData). eqb e.ino n) es ≡ None → list_any (λ (e : EntryData). eqb e.ino n && e.kept) es ≡ false
unkept n [] h = refl
unkept n (e ∷ es) h = by (eqb e.ino n) h (unkept n es)
  where
    by : (b : Bool) → cond b (Some e) (find (λ (x : EntryData). eqb x.ino n) es) ≡ None → (find (λ (x : EntryData). eqb x.ino n) es ≡ None → list_any (λ (x : EntryData). eqb x.ino n && x.kept) es ≡ false) → ((b && e.kept) || list_any (λ (x : EntryData). eqb x.ino n && x.kept) es) ≡ false
    by true h rest = absurd cc
    by false h rest = rest h

pub first_kept : (n : ℕ) (es : List EntryData) (e : EntryData) → find (λ (x : EntryData). eqb x.ino n) es ≡ Some e → e.kept ≡ true → list_any (λ (x : EntryData). eqb x.ino n && x.kept) es ≡ true
first_kept n [] e h k = absurd cc
first_kept n (x ∷ es) e h k = by (eqb x.ino n) h (λ i. first_kept n es e i k)
  where
    or_true : (a : Bool) (b : Bool) → b ≡ true → (a || b) ≡ true
    or_true true b h = refl
    or_true false b h = h

    by : (b : Bool) → cond b (Some x) (find (λ (y : EntryData). eqb y.ino n) es) ≡ Some e → (find (λ (y : EntryData). eqb y.ino n) es ≡ Some e → list_any (λ (y : EntryData). eqb y.ino n && y.kept) es ≡ true) → ((b && x.kept) || list_any (λ (y : EntryData). eqb y.ino n && y.kept) es) ≡ true
    by true h rest = let same : x ≡ e = cc in rw (same, k) refl
    by false h rest = or_true (false && x.kept) _ (rest h)
