-- One page more of a file.
use Rattle.trio_judge.proofs.Words.{◌&&◌, ◌++◌, ◌+◌, ◌<◌, ◌||◌, ◌∙◌, ◌∷◌, ◌≡◌, ◌⊎◌, AreMarked, AreOwn, Bool, IsForeign, List, [], all-push, ap, append-nil, append_assoc, drop, drop_more, eqb, false, get_or, inl, inr, is_among, is_among-push, is_marked, length, not, refl, sym, take, take-append-drop, take_more, true, ℕ}
use Rattle.trio_lists.proofs.Marked.{are_new-more}

pub own_none : (own before : List ℕ) (marks : List Bool) → AreMarked own marks before → AreOwn own before [] marks
own_none own before marks m = record { own_all = refl; new = refl; marked = rw (append-nil before) m }

-- a page that was just marked
pub own_more : (own before pages : List ℕ) (marks marks' : List Bool) (i : ℕ) → i < length pages → is_among (get_or pages i 0) own ≡ true → is_marked own marks (get_or pages i 0) ≡ false → ((other : ℕ) → is_marked own marks' other ≡ (is_marked own marks other || (is_among (get_or pages i 0) own && eqb (get_or pages i 0) other))) → AreOwn own before (take i pages) marks → AreOwn own before (take (i + 1) pages) marks'
own_more own before pages marks marks' i h there new more o =
    let page : ℕ = get_or pages i 0 in
    let unseen : is_among page (before ++ take i pages) ≡ false = sym (o.marked page there) ∙ new in
    let front : before ++ take (i + 1) pages ≡ (before ++ take i pages) ++ page ∷ [] = ap (λ l. before ++ l) (take_more pages i 0 h) ∙ sym (append_assoc before (take i pages) (page ∷ [])) in
    record {
      own_all = rw (take_more pages i 0 h) (all-push (λ p. is_among p own) (take i pages) page o.own_all there);
      new = are_new-more before pages i h ∙ rw (o.new, unseen) refl;
      marked = λ other k. more other ∙ rw (there, o.marked other k) refl ∙ sym (ap (is_among other) front ∙ is_among-push other page (before ++ take i pages));
    }

-- a page that gets no mark is foreign
pub unmarked : (own before pages : List ℕ) (marks : List Bool) (i : ℕ) → AreOwn own before (take i pages) marks → (is_among (get_or pages i 0) own && not (is_marked own marks (get_or pages i 0))) ≡ false → (is_among (get_or pages i 0) own ≡ false) ⊎ (is_among (get_or pages i 0) (before ++ take i pages) ≡ true)
unmarked own before pages marks i o h = by (is_among (get_or pages i 0) own) refl
  where
    seen : (b : Bool) → not b ≡ false → b ≡ true
    seen true e = refl
    seen false e = sym e

    by : (b : Bool) → is_among (get_or pages i 0) own ≡ b → (b ≡ false) ⊎ (is_among (get_or pages i 0) (before ++ take i pages) ≡ true)
    by true e = inr (sym (o.marked (get_or pages i 0) e) ∙ seen (is_marked own marks (get_or pages i 0)) (rw e at h))
    by false e = inl refl

pub foreign_here : (own before pages : List ℕ) (i : ℕ) → i < length pages → (is_among (get_or pages i 0) own ≡ false) ⊎ (is_among (get_or pages i 0) (before ++ take i pages) ≡ true) → IsForeign own before pages (get_or pages i 0)
foreign_here own before pages i h f = record {
  earlier = take i pages;
  later = drop (i + 1) pages;
  order = sym (take-append-drop i pages) ∙ ap (λ l. take i pages ++ l) (drop_more pages i 0 h);
  fault = f;
}
