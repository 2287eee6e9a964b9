-- Bodies in covered pages.
use Rattle.trio_checkpoint.proofs.Words.{◌++◌, ◌∙◌, ◌∷◌, ◌≡◌, Bool, IsTrue, List, None, Option, Sheet, Some, [], ap, cases_lt, eqb, false, false≢true, inl, inr, is_some, length, refl, set, sheet_numbers, sym, true, with_body, with_pages, ℕ}
use Rattle.std.specs.List.{find}
use Rattle.std.proofs.lemmas.Bool.{eqb-true, eqb-false}
use Rattle.std.proofs.lemmas.List.{set-set, set_comm, set_past, get_or-set_same}
use Rattle.trio_lists.specs.Lists.{is_among}
use Rattle.trio_layout.specs.Accept.{with_body_in, with_body_at}

-- a page is found just where it is one of these
pub is_found : (page : ℕ) (xs : List Sheet) → is_some (find (λ x. eqb x.page page) xs) ≡ is_among page (sheet_numbers xs)
is_found page [] = refl
is_found page (x ∷ xs) = by (is_found page xs) (eqb x.page page) refl
  where
    by : is_some (find (λ x. eqb x.page page) xs) ≡ is_among page (sheet_numbers xs) → (t : Bool) → eqb x.page page ≡ t → is_some (find (λ x. eqb x.page page) (x ∷ xs)) ≡ is_among page (sheet_numbers (x ∷ xs))
    by again true e = rw e refl
    by again false e = rw e again

-- what stood in the place of a page that is put there later is lost
last_wins : (n : ℕ) (xs : List Sheet) (pages : List (Option (List ℕ))) (a b : Option (List ℕ)) → IsTrue (is_among n (sheet_numbers xs)) → with_pages xs (set pages n a) ≡ with_pages xs (set pages n b)
last_wins n [] pages a b h = absurd (false≢true h)
last_wins n (x ∷ xs) pages a b h = by (λ k. last_wins n xs (set pages x.page (Some x.bytes)) a b k) (eqb x.page n) refl h
  where
    by : (IsTrue (is_among n (sheet_numbers xs)) → with_pages xs (set (set pages x.page (Some x.bytes)) n a) ≡ with_pages xs (set (set pages x.page (Some x.bytes)) n b))
        → (t : Bool) → eqb x.page n ≡ t → IsTrue (is_among n (sheet_numbers (x ∷ xs)))
        → with_pages (x ∷ xs) (set pages n a) ≡ with_pages (x ∷ xs) (set pages n b)
    by again true e h =
        let same : x.page ≡ n = eqb-true x.page n e in
        rw (same, set-set pages n a (Some x.bytes), set-set pages n b (Some x.bytes)) refl
    by again false e h =
        let differ = λ (q : n ≡ x.page). eqb-false x.page n e (sym q) in
        ap (with_pages xs) (set_comm pages n x.page a (Some x.bytes) differ)
        ∙ again (rw e at h)
        ∙ ap (with_pages xs) (sym (set_comm pages n x.page b (Some x.bytes) differ))

-- a page that none of these is put over
put_before : (n : ℕ) (xs : List Sheet) (pages : List (Option (List ℕ))) (a : Option (List ℕ)) → is_among n (sheet_numbers xs) ≡ false → with_pages xs (set pages n a) ≡ set (with_pages xs pages) n a
put_before n [] pages a h = refl
put_before n (x ∷ xs) pages a h = by (λ k. put_before n xs (set pages x.page (Some x.bytes)) a k) (eqb x.page n) refl h
  where
    by : (is_among n (sheet_numbers xs) ≡ false → with_pages xs (set (set pages x.page (Some x.bytes)) n a) ≡ set (with_pages (x ∷ xs) pages) n a)
        → (t : Bool) → eqb x.page n ≡ t → is_among n (sheet_numbers (x ∷ xs)) ≡ false
        → with_pages (x ∷ xs) (set pages n a) ≡ set (with_pages (x ∷ xs) pages) n a
    by again true e h = absurd (false≢true (sym (rw e at h)))
    by again false e h =
        let differ = λ (q : n ≡ x.page). eqb-false x.page n e (sym q) in
        ap (with_pages xs) (set_comm pages n x.page a (Some x.bytes) differ) ∙ again (rw e at h)

-- pages of other numbers stay
renewed_none : (page slot : ℕ) (body : List ℕ) (xs : List Sheet) → is_among page (sheet_numbers xs) ≡ false → with_body page slot body xs ≡ xs
renewed_none page slot body [] h = refl
renewed_none page slot body (x ∷ xs) h = by (renewed_none page slot body xs) (eqb x.page page) refl h
  where
    by : (is_among page (sheet_numbers xs) ≡ false → with_body page slot body xs ≡ xs)
        → (t : Bool) → eqb x.page page ≡ t → is_among page (sheet_numbers (x ∷ xs)) ≡ false → with_body page slot body (x ∷ xs) ≡ x ∷ xs
    by again true e h = absurd (false≢true (sym (rw e at h)))
    by again false e h = rw e (ap (λ ys. x ∷ ys) (again (rw e at h)))

-- no number changes
pub numbers_stay : (page slot : ℕ) (body : List ℕ) (index xs : List Sheet) → sheet_numbers (index ++ with_body page slot body xs) ≡ sheet_numbers (index ++ xs)
numbers_stay page slot body (y ∷ ys) xs = ap (λ ns. y.page ∷ ns) (numbers_stay page slot body ys xs)
numbers_stay page slot body [] [] = refl
numbers_stay page slot body [] (x ∷ xs) = by (numbers_stay page slot body [] xs) (eqb x.page page) refl
  where
    by : sheet_numbers (with_body page slot body xs) ≡ sheet_numbers xs → (t : Bool) → eqb x.page page ≡ t → sheet_numbers (with_body page slot body (x ∷ xs)) ≡ sheet_numbers (x ∷ xs)
    by again true e = rw e (ap (λ ns. x.page ∷ ns) again)
    by again false e = rw e (ap (λ ns. x.page ∷ ns) again)

-- a body renewed in a page that is put in place is renewed in its place
put_renewed : (pages : List (Option (List ℕ))) (page slot : ℕ) (body bytes : List ℕ) → set pages page (Some (with_body_in slot body bytes)) ≡ with_body_at page slot body (set pages page (Some bytes))
put_renewed pages page slot body bytes =
    elim (cases_lt page (length pages)) [
      | inl lt ↦ rw (get_or-set_same pages page (Some bytes) None lt, set-set pages page (Some bytes) (Some (with_body_in slot body bytes))) refl
      | inr ge ↦
          rw (set-set, set_past pages page _ ge, set_past pages page _ ge) refl
    ]

pub with_pages-with_body : (page slot : ℕ) (body : List ℕ) (xs : List Sheet) (pages : List (Option (List ℕ))) → IsTrue (is_among page (sheet_numbers xs)) → with_pages (with_body page slot body xs) pages ≡ with_body_at page slot body (with_pages xs pages)
with_pages-with_body page slot body [] pages h = absurd (false≢true h)
with_pages-with_body page slot body (x ∷ xs) pages h =
    by (with_pages-with_body page slot body xs) (is_among page (sheet_numbers xs)) refl (eqb x.page page) refl h
  where
    by : ((pages : List (Option (List ℕ))) → IsTrue (is_among page (sheet_numbers xs)) → with_pages (with_body page slot body xs) pages ≡ with_body_at page slot body (with_pages xs pages))
        → (later : Bool) → is_among page (sheet_numbers xs) ≡ later → (t : Bool) → eqb x.page page ≡ t → IsTrue (is_among page (sheet_numbers (x ∷ xs)))
        → with_pages (with_body page slot body (x ∷ xs)) pages ≡ with_body_at page slot body (with_pages (x ∷ xs) pages)
    by again true l false e h = rw e (again (set pages x.page (Some x.bytes)) l)
    by again true l true e h =
        rw (e, eqb-true x.page page e)
        (again (set pages page (Some (with_body_in slot body x.bytes))) l
        ∙ ap (with_body_at page slot body) (last_wins page xs pages (Some (with_body_in slot body x.bytes)) (Some x.bytes) l))
    by again false l false e h = absurd (false≢true (rw (e, l) at h))
    by again false l true e h =
        rw (e, renewed_none page slot body xs l, eqb-true x.page page e, put_before page xs pages (Some (with_body_in slot body x.bytes)) l, put_before page xs pages (Some x.bytes) l)
        (put_renewed (with_pages xs pages) page slot body x.bytes)
