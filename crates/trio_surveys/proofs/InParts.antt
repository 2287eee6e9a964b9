-- Bodies that are put into parts of the pages, and into all of them.
use Rattle.trio_surveys.proofs.Words.{◌++◌, ◌∙◌, ◌∷◌, ◌≡◌, In, In-left, In-right, List, Met, Option, Sheet, Some, [], ap, arith, cond, eqb, inl, inr, length, length-set, option_map, refl, sheet_numbers, slice_get, slice_set, subst, suc, sym, with_bodies, with_body_in, with_pages, zero, ℕ}
use Rattle.trio_surveys.specs.SurveyLaws.{BodiesInParts, StandApart}
use Rattle.trio_surveys.proofs.Accepted.{length-bodies}
use Rattle.trio_surveys.proofs.PageSlots.{pages_same}
use Rattle.trio_surveys.proofs.Putting.{put_on, put_on-none, with_bodies-get}
use Rattle.trio_surveys.proofs.SheetLaws.{get-set_same, length-with_pages}
use Rattle.trio_surveys.proofs.Sheets.{Pages, among_cases, with_pages_apart, with_pages_cong}

abbrev put_at : ℕ → List Met → Option (Option (List ℕ)) → Option (Option (List ℕ))
put_at p ms o = option_map (option_map (put_on p ms)) o

-- files none of which has its place on this page
abbrev NoneOn : ℕ → List Met → Type 0
NoneOn p ms = (m : Met) → In m ms → m.page ≡ p → ⊥

put_none : (p : ℕ) (ms : List Met) (o : Option (Option (List ℕ))) → NoneOn p ms → put_at p ms o ≡ o
put_none p ms o none = search (arith, put_on-none)

put_on-append : (p : ℕ) (ms ks : List Met) (bytes : List ℕ) → put_on p (ms ++ ks) bytes ≡ put_on p ks (put_on p ms bytes)
put_on-append p [] ks bytes = refl
put_on-append p (m ∷ ms) ks bytes = put_on-append p ms ks (cond (eqb m.page p) (with_body_in m.slot m.body bytes) bytes)

put_both : (p : ℕ) (ms ks : List Met) (o : Option (Option (List ℕ))) → put_at p (ms ++ ks) o ≡ put_at p ks (put_at p ms o)
put_both p ms ks o = search (arith, put_on-append)

same_places : (a b : Pages) (n : ℕ) (x : Option (List ℕ)) → length a ≡ length b → option_map (λ _. x) (slice_get a n) ≡ option_map (λ _. x) (slice_get b n)
same_places [] [] n x e = refl
same_places [] (q ∷ b) n x e = absurd cc
same_places (p ∷ a) [] n x e = absurd cc
same_places (p ∷ a) (q ∷ b) zero x e = refl
same_places (p ∷ a) (q ∷ b) (suc n) x e = (let s : length a ≡ length b = cc e in same_places a b n x s)

-- a page that is put in place is there whatever stood there
over : (ss : List Sheet) (a b : Pages) (n : ℕ) → length a ≡ length b → In n (sheet_numbers ss) → slice_get (with_pages ss a) n ≡ slice_get (with_pages ss b) n
over [] a b n size i = absurd i
over (s ∷ ss) a b n size i =
    let x : Option (List ℕ) = Some s.bytes in
    let size' : length (slice_set a s.page x) ≡ length (slice_set b s.page x) = length-set a s.page x ∙ size ∙ sym (length-set b s.page x) in
    elim (among_cases n (sheet_numbers ss)) [
      | inl later ↦ over ss (slice_set a s.page x) (slice_set b s.page x) n size' later
      | inr none ↦
          elim i [
            | inr later ↦ absurd (none later)
            | inl here ↦
                with_pages_apart ss (slice_set a s.page x) n none
                ∙ ap (λ k. slice_get (slice_set a s.page x) k) here
                ∙ get-set_same a s.page x
                ∙ same_places a b s.page x size
                ∙ sym (get-set_same b s.page x)
                ∙ ap (λ k. slice_get (slice_set b s.page x) k) (sym here)
                ∙ sym (with_pages_apart ss (slice_set b s.page x) n none)
          ]
    ]

module _ (home : Pages) (staying coming all : List Sheet) (elsewhere aside brought : List Met) (h : StandApart home staying coming all elsewhere aside brought) where
  abbrev first : Pages
  first = with_bodies elsewhere home

  abbrev second : Pages
  second = with_pages coming first

  abbrev third : Pages
  third = with_bodies brought second

  abbrev before : Pages
  before = with_pages all home

  no_first : (m : Met) → In m elsewhere → m.ino ≡ 1 → ⊥
  no_first m i = h.no_root m (In-left m (elsewhere ++ aside) brought (In-left m elsewhere aside i))

  no_aside : (m : Met) → In m aside → m.ino ≡ 1 → ⊥
  no_aside m i = h.no_root m (In-left m (elsewhere ++ aside) brought (In-right m elsewhere aside i))

  no_brought : (m : Met) → In m brought → m.ino ≡ 1 → ⊥
  no_brought m i = h.no_root m (In-right m (elsewhere ++ aside) brought i)

  -- the bodies of all parts on one page
  parts : (p : ℕ) (o : Option (Option (List ℕ))) → put_at p (elsewhere ++ aside ++ brought) o ≡ put_at p brought (put_at p aside (put_at p elsewhere o))
  parts p o = put_both p (elsewhere ++ aside) brought o ∙ ap (put_at p brought) (put_both p elsewhere aside o)

  -- the page once home has all but what stays aside
  third_at : (p : ℕ) → slice_get third p ≡ put_at p brought (slice_get second p)
  third_at p = with_bodies-get p brought second no_brought

  left_at : (p : ℕ) → slice_get (with_bodies aside (with_pages staying third)) p ≡ put_at p aside (slice_get (with_pages staying third) p)
  left_at p = with_bodies-get p aside (with_pages staying third) no_aside

  right_at : (p : ℕ) → slice_get (with_bodies (elsewhere ++ aside ++ brought) (with_pages coming before)) p ≡ put_at p brought (put_at p aside (put_at p elsewhere (slice_get (with_pages coming before) p)))
  right_at p = with_bodies-get p (elsewhere ++ aside ++ brought) (with_pages coming before) h.no_root ∙ parts p (slice_get (with_pages coming before) p)

  -- of a page that stays aside
  on_staying : (p : ℕ) → In p (sheet_numbers staying) → slice_get (with_bodies aside (with_pages staying third)) p ≡ slice_get (with_bodies (elsewhere ++ aside ++ brought) (with_pages coming before)) p
  on_staying p i =
      let out : In p (sheet_numbers coming) → ⊥ = h.apart p i in
      let none : NoneOn p elsewhere = λ m j on. (h.elsewhere_stand m j).0 (subst (λ n. In n (sheet_numbers staying)) (sym on) i) in
      let none' : NoneOn p brought = λ m j on. out (subst (λ n. In n (sheet_numbers coming)) on (h.brought_stand m j)) in
      let here : slice_get third p ≡ slice_get home p =
      third_at p ∙ put_none p brought (slice_get second p) none' ∙ with_pages_apart coming first p out ∙ with_bodies-get p elsewhere home no_first ∙ put_none p elsewhere (slice_get home p) none in
      left_at p
      ∙ ap (put_at p aside)
      (with_pages_cong staying third home p here
      ∙ sym (h.settled p out)
      ∙ sym (with_pages_apart coming before p out)
      ∙ sym (put_none p elsewhere (slice_get (with_pages coming before) p) none))
      ∙ sym (put_none p brought (put_at p aside (put_at p elsewhere (slice_get (with_pages coming before) p))) none')
      ∙ sym (right_at p)

  -- of a page that comes home
  on_coming : (p : ℕ) → In p (sheet_numbers coming) → slice_get (with_bodies aside (with_pages staying third)) p ≡ slice_get (with_bodies (elsewhere ++ aside ++ brought) (with_pages coming before)) p
  on_coming p i =
      let out : In p (sheet_numbers staying) → ⊥ = λ j. h.apart p j i in
      let none : NoneOn p elsewhere = λ m j on. (h.elsewhere_stand m j).1 (subst (λ n. In n (sheet_numbers coming)) (sym on) i) in
      let none' : NoneOn p aside = λ m j on. out (subst (λ n. In n (sheet_numbers staying)) on (h.aside_stand m j)) in
      let size : length first ≡ length before = length-bodies elsewhere home ∙ sym (length-with_pages all home) in
      left_at p
      ∙ put_none p aside (slice_get (with_pages staying third) p) none'
      ∙ with_pages_apart staying third p out
      ∙ third_at p
      ∙ ap (put_at p brought)
      (over coming first before p size i
      ∙ sym (put_none p elsewhere (slice_get (with_pages coming before) p) none)
      ∙ sym (put_none p aside (put_at p elsewhere (slice_get (with_pages coming before) p)) none'))
      ∙ sym (right_at p)

  -- of every other page
  on_other : (p : ℕ) → (In p (sheet_numbers staying) → ⊥) → (In p (sheet_numbers coming) → ⊥) → slice_get (with_bodies aside (with_pages staying third)) p ≡ slice_get (with_bodies (elsewhere ++ aside ++ brought) (with_pages coming before)) p
  on_other p out out' =
      let none : NoneOn p aside = λ m j on. out (subst (λ n. In n (sheet_numbers staying)) on (h.aside_stand m j)) in
      let none' : NoneOn p brought = λ m j on. out' (subst (λ n. In n (sheet_numbers coming)) on (h.brought_stand m j)) in
      let same : slice_get (with_pages coming before) p ≡ slice_get home p =
      with_pages_apart coming before p out' ∙ h.settled p out' ∙ with_pages_apart staying home p out in
      left_at p
      ∙ put_none p aside (slice_get (with_pages staying third) p) none
      ∙ with_pages_apart staying third p out
      ∙ third_at p
      ∙ put_none p brought (slice_get second p) none'
      ∙ with_pages_apart coming first p out'
      ∙ with_bodies-get p elsewhere home no_first
      ∙ ap (put_at p elsewhere) (sym same)
      ∙ sym (put_none p aside (put_at p elsewhere (slice_get (with_pages coming before) p)) none)
      ∙ sym (put_none p brought (put_at p aside (put_at p elsewhere (slice_get (with_pages coming before) p))) none')
      ∙ sym (right_at p)

  one_page : (p : ℕ) → slice_get (with_bodies aside (with_pages staying third)) p ≡ slice_get (with_bodies (elsewhere ++ aside ++ brought) (with_pages coming before)) p
  one_page p = search (arith, among_cases, on_staying, on_coming, on_other)

pub bodies_in_parts : BodiesInParts
bodies_in_parts home staying coming all elsewhere aside brought h = search (arith, pages_same, one_page)
