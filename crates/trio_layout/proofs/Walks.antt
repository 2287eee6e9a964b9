-- Walks from several files on, level by level: each file is met once, and no file is missed.
use Rattle.trio_layout.proofs.Words.{◌++◌, ◌+◌, ◌-◌, ◌<◌, ◌||◌, ◌∙◌, ◌∷◌, ◌≡◌, ◌≤◌, ◌⊎◌, Bool, Front, In, In-cases, In-left, In-right, List, Met, [], and_from, and_parts, ap, append-nil, append_assoc, are_new, are_new-append, arith, cases_eq, cases_lt, cond, descend, eqb, false, first_listed, flat_map, inl, inr, is_among, length, length-append, levels, map-append, ne_eqb, nil_from_length, not, numbers, pass, pass_on, refl, subst, suc, sym, true, zero, ℕ}
use Rattle.std.proofs.lemmas.Bool.{eq-eqb, not-true, or_right}
use Rattle.std.proofs.lemmas.List.{length-map}
use Rattle.std.proofs.lemmas.List.Concat.{flat_map-append}
use Rattle.trio_lists.proofs.Members.{flat_map-In, map-In}
use Rattle.trio_lists.proofs.Marked.{is_among-push}
use Rattle.trio_layout.proofs.QueueLaws.{descend_is, met_by, new-first_listed, pass_many}
use Rattle.trio_layout.specs.JudgedFiles.{fronts}

-- how many numbers below n are not among these
abbrev left_of : ℕ → List ℕ → ℕ
left_of zero seen = 0
left_of (suc n) seen = cond (is_among n seen) 0 1 + left_of n seen

among_other : (n x : ℕ) (seen : List ℕ) → (x ≡ n → ⊥) → is_among n (seen ++ x ∷ []) ≡ is_among n seen
among_other n x seen d = is_among-push n x seen ∙ rw (ne_eqb x n d) (or_false (is_among n seen))
  where
    or_false : (b : Bool) → (b || false) ≡ b
    or_false true = refl
    or_false false = refl

left_above : (n x : ℕ) (seen : List ℕ) → n ≤ x → left_of n (seen ++ x ∷ []) ≡ left_of n seen
left_above zero x seen h = refl
left_above (suc n) x seen h =
    let d : x ≡ n → ⊥ = λ e. omega (arith, e) in
    let l : n ≤ x = omega arith in
    ap (λ b. cond b 0 1 + left_of n (seen ++ x ∷ [])) (among_other n x seen d) ∙ ap (λ k. cond (is_among n seen) 0 1 + k) (left_above n x seen l)

left_less : (n x : ℕ) (seen : List ℕ) → x < n → is_among x seen ≡ false → left_of n seen ≡ suc (left_of n (seen ++ x ∷ []))
left_less zero x seen h e = absurd (omega arith)
left_less (suc n) x seen h e =
    elim (cases_eq x n) [
      | inl same ↦
          let there : is_among n (seen ++ x ∷ []) ≡ true = is_among-push n x seen ∙ or_right (is_among n seen) (eqb x n) (eq-eqb x n same) in
          let before : is_among n seen ≡ false = ap (λ k. is_among k seen) (sym same) ∙ e in
          let above : left_of n (seen ++ x ∷ []) ≡ left_of n seen = left_above n x seen (omega (arith, same)) in
          let one : left_of (suc n) seen ≡ 1 + left_of n seen = ap (λ b. cond b 0 1 + left_of n seen) before in
          let two : left_of (suc n) (seen ++ x ∷ []) ≡ 0 + left_of n (seen ++ x ∷ []) = ap (λ b. cond b 0 1 + left_of n (seen ++ x ∷ [])) there in
          omega (arith, one, two, above)
      | inr differ ↦
          let l : x < n = omega arith in
          let ih = left_less n x seen l e in
          let same : left_of (suc n) (seen ++ x ∷ []) ≡ cond (is_among n seen) 0 1 + left_of n (seen ++ x ∷ []) = ap (λ b. cond b 0 1 + left_of n (seen ++ x ∷ [])) (among_other n x seen differ) in
          let here : left_of (suc n) seen ≡ cond (is_among n seen) 0 1 + left_of n seen = refl in
          omega (arith, same, here, ih)
    ]

left_none : (n : ℕ) → left_of n [] ≤ n
left_none zero = omega arith
left_none (suc n) =
    let ih = left_none n in
    let here : left_of (suc n) [] ≡ 1 + left_of n [] = refl in omega (arith, ih, here)

not_many : (n : ℕ) (seen xs : List ℕ) → are_new seen xs ≡ true → ((x : ℕ) → In x xs → x < n) → length xs ≤ left_of n seen
not_many n seen [] a b = omega arith
not_many n seen (x ∷ xs) a b =
    let parts = and_parts (not (is_among x seen)) (are_new (seen ++ x ∷ []) xs) a in
    let ih = not_many n (seen ++ x ∷ []) xs parts.1 (λ y k. b y (inr k)) in
    let less = left_less n x seen (b x (inl refl)) (not-true (is_among x seen) parts.0) in
    omega (arith, ih, less)

-- distinct numbers below n are at most n
pub pigeons : (n : ℕ) (xs : List ℕ) → are_new [] xs ≡ true → ((x : ℕ) → In x xs → x < n) → length xs ≤ n
pigeons n xs a b =
    let m = not_many n [] xs a b in
    let z = left_none n in omega (arith, m, z)

first_cases : (b : Bool) (seen : List ℕ) (x m : Met) (ms : List Met) → (In m (first_listed seen ms) → In m ms) → (In m (first_listed (seen ++ x.ino ∷ []) ms) → In m ms) → In m (cond b (first_listed seen ms) (x ∷ first_listed (seen ++ x.ino ∷ []) ms)) → In m (x ∷ ms)
first_cases true seen x m ms p q h = inr (p h)
first_cases false seen x m ms p q (inl e) = inl e
first_cases false seen x m ms p q (inr h) = inr (q h)

pub first_are_listed : (seen : List ℕ) (ms : List Met) (m : Met) → In m (first_listed seen ms) → In m ms
first_are_listed seen [] m h = absurd h
first_are_listed seen (x ∷ xs) m h =
    first_cases (is_among x.ino seen) seen x m xs (first_are_listed seen xs m) (first_are_listed (seen ++ x.ino ∷ []) xs m) h

pub first_all : (seen : List ℕ) (ms : List Met) → are_new seen (numbers ms) ≡ true → first_listed seen ms ≡ ms
first_all seen [] h = refl
first_all seen (m ∷ ms) h =
    let parts = and_parts (not (is_among m.ino seen)) (are_new (seen ++ m.ino ∷ []) (numbers ms)) h in
    ap (λ b. cond b (first_listed seen ms) (m ∷ first_listed (seen ++ m.ino ∷ []) ms)) (not-true (is_among m.ino seen) parts.0)
    ∙ ap (λ l. m ∷ l) (first_all (seen ++ m.ino ∷ []) ms parts.1)

pub numbers-flat : (kids : Met → List Met) (ms : List Met) → numbers (flat_map kids ms) ≡ flat_map (λ m. numbers (kids m)) ms
numbers-flat kids [] = refl
numbers-flat kids (m ∷ ms) =
    map-append (λ x. x.ino) (kids m) (flat_map kids ms) ∙ ap (λ l. numbers (kids m) ++ l) (numbers-flat kids ms)

-- a walk from one file is the survey's
pub fronts_are : (kids : Met → List Met) (root : Met) (k : ℕ) → fronts kids (root ∷ []) k ≡ levels kids root k
fronts_are kids root zero = refl
fronts_are kids root (suc k) = ap (descend kids) (fronts_are kids root k)

module _ (kids : Met → List Met) (starts : List Met) where
  -- what the first files have and each file hands to its children, all files met have
  pub fronts_keep : (P : Met → Type 0) → ((m : Met) → In m starts → P m) → ((m c : Met) → P m → In c (kids m) → P c) → (k : ℕ) (m : Met) → In m (met_by (fronts kids starts k)) → P m
  fronts_keep P here down zero m i = here m i
  fronts_keep P here down (suc k) m i =
      let w : Front = fronts kids starts k in
      elim (In-cases m (w.passed ++ w.level) (first_listed (numbers (w.passed ++ w.level)) (flat_map kids w.level)) i) [
        | inl before ↦ fronts_keep P here down k m before
        | inr first ↦
            let r = flat_map-In kids m w.level (first_are_listed (numbers (w.passed ++ w.level)) (flat_map kids w.level) m first) in
            down r.0 m (fronts_keep P here down k r.0 (In-right r.0 w.passed w.level r.1)) r.2
      ]

  -- no number is met twice
  pub fronts_new : are_new [] (numbers starts) ≡ true → (k : ℕ) → are_new [] (numbers (met_by (fronts kids starts k))) ≡ true
  fronts_new once zero = once
  fronts_new once (suc k) =
      let w : Front = fronts kids starts k in
      let all : List Met = w.passed ++ w.level in
      let first : List Met = first_listed (numbers all) (flat_map kids w.level) in
      ap (are_new []) (map-append (λ (m : Met). m.ino) all first)
      ∙ are_new-append [] (numbers all) (numbers first)
      ∙ and_from (are_new [] (numbers all)) (are_new (numbers all) (numbers first)) (fronts_new once k) (new-first_listed (numbers all) (flat_map kids w.level))

  -- the first files are met
  pub starts_met : (k : ℕ) (m : Met) → In m starts → In m (met_by (fronts kids starts k))
  starts_met zero m i = i
  starts_met (suc k) m i = In-left m _ _ (starts_met k m i)

  descend_more : (f : Front) (k : ℕ) (l : List Met) → f.level ≡ l → (f.level ≡ []) ⊎ (k ≤ length f.passed) → ((descend kids f).level ≡ []) ⊎ (suc k ≤ length (descend kids f).passed)
  descend_more f k [] e h = inl (ap (λ l. first_listed (numbers (f.passed ++ l)) (flat_map kids l)) e)
  descend_more f k (m ∷ ms) e (inl q) = absurd cc
  descend_more f k (m ∷ ms) e (inr h) = inr (omega (arith, length-append f.passed f.level, ap length e))

  pub fronts_enough : (k : ℕ) → ((fronts kids starts k).level ≡ []) ⊎ (k ≤ length (fronts kids starts k).passed)
  fronts_enough zero = inr (omega arith)
  fronts_enough (suc k) = descend_more (fronts kids starts k) k (fronts kids starts k).level refl (fronts_enough k)

  -- there are enough levels
  pub fronts_closed : (n : ℕ) → are_new [] (numbers starts) ≡ true → ((m : Met) → In m (met_by (fronts kids starts n)) → m.ino < n) → (fronts kids starts n).level ≡ []
  fronts_closed n once b =
      let w : Front = fronts kids starts n in
      let below : (x : ℕ) → In x (numbers (w.passed ++ w.level)) → x < n =
      λ x k. let r = map-In (λ (m : Met). m.ino) x (w.passed ++ w.level) k in let l : r.0.ino < n = b r.0 r.1 in subst (λ y. y < n) (sym r.2) l in
      let few : length (numbers (w.passed ++ w.level)) ≤ n = pigeons n (numbers (w.passed ++ w.level)) (fronts_new once n) below in
      elim (fronts_enough n) [
        | inl empty ↦ empty
        | inr enough ↦
            let z : length w.level ≡ 0 = omega (arith, few, enough, length-map (w.passed ++ w.level) (λ (m : Met). m.ino), length-append w.passed w.level) in
            nil_from_length w.level z
      ]

  -- where nothing is listed twice, what is met is what it begins with and all that is listed
  pub fronts_tree : (k : ℕ) → are_new (numbers starts) (flat_map (λ m. numbers (kids m)) (fronts kids starts k).passed) ≡ true → met_by (fronts kids starts k) ≡ starts ++ flat_map kids (fronts kids starts k).passed
  fronts_tree zero h = sym (append-nil starts)
  fronts_tree (suc k) h =
      let w : Front = fronts kids starts k in
      let nk : Met → List ℕ = λ m. numbers (kids m) in
      let split = sym (ap (are_new (numbers starts)) (flat_map-append nk w.passed w.level) ∙ are_new-append (numbers starts) (flat_map nk w.passed) (flat_map nk w.level)) ∙ h in
      let parts = and_parts (are_new (numbers starts) (flat_map nk w.passed)) (are_new (numbers starts ++ flat_map nk w.passed) (flat_map nk w.level)) split in
      let ih : w.passed ++ w.level ≡ starts ++ flat_map kids w.passed = fronts_tree k parts.0 in
      let seen : numbers (w.passed ++ w.level) ≡ numbers starts ++ flat_map nk w.passed =
      ap numbers ih ∙ map-append (λ (m : Met). m.ino) starts (flat_map kids w.passed) ∙ ap (λ l. numbers starts ++ l) (numbers-flat kids w.passed) in
      let new : are_new (numbers (w.passed ++ w.level)) (numbers (flat_map kids w.level)) ≡ true =
      ap (λ s. are_new s (numbers (flat_map kids w.level))) seen ∙ ap (are_new (numbers starts ++ flat_map nk w.passed)) (numbers-flat kids w.level) ∙ parts.1 in
      ap (λ l. (w.passed ++ w.level) ++ l) (first_all (numbers (w.passed ++ w.level)) (flat_map kids w.level) new)
      ∙ ap (λ l. l ++ flat_map kids w.level) ih
      ∙ append_at starts (flat_map kids w.passed) (flat_map kids w.level)
      ∙ ap (λ l. starts ++ l) (sym (flat_map-append kids w.passed w.level))
    where
      append_at : (xs ys zs : List Met) → (xs ++ ys) ++ zs ≡ xs ++ (ys ++ zs)
      append_at [] ys zs = refl
      append_at (x ∷ xs) ys zs = ap (λ l. x ∷ l) (append_at xs ys zs)

-- each file met is one of the first, or a file passed lists it
pub fronts_listed : (kids : Met → List Met) (starts : List Met) (k : ℕ) (m : Met) → In m (met_by (fronts kids starts k)) → In m starts ⊎ In m (flat_map kids (fronts kids starts k).passed)
fronts_listed kids starts zero m i = inl i
fronts_listed kids starts (suc k) m i =
    let w : Front = fronts kids starts k in
    let goes : flat_map kids (w.passed ++ w.level) ≡ flat_map kids w.passed ++ flat_map kids w.level = flat_map-append kids w.passed w.level in
    elim (In-cases m (w.passed ++ w.level) (first_listed (numbers (w.passed ++ w.level)) (flat_map kids w.level)) i) [
      | inl before ↦
          elim (fronts_listed kids starts k m before) [
            | inl e ↦ inl e
            | inr h ↦ inr (subst (λ l. In m l) (sym goes) (In-left m (flat_map kids w.passed) (flat_map kids w.level) h))
          ]
      | inr first ↦
          inr (subst (λ l. In m l) (sym goes) (In-right m (flat_map kids w.passed) (flat_map kids w.level) (first_are_listed _ _ m first)))
    ]

-- ---- the same walk, one file after another

pub pass_many-more : (kids : Met → List Met) (n m : ℕ) (f : Front) → pass_many kids m (pass_many kids n f) ≡ pass_many kids (n + m) f
pass_many-more kids zero m f = let e : m ≡ 0 + m = omega arith in ap (λ j. pass_many kids j f) e
pass_many-more kids (suc n) m f =
    let e : suc (n + m) ≡ suc n + m = omega arith in pass_many-more kids n m (pass kids f) ∙ ap (λ j. pass_many kids j f) e

pass_many-ended : (kids : Met → List Met) (n : ℕ) (f : Front) → f.level ≡ [] → pass_many kids n f ≡ f
pass_many-ended kids zero f e = refl
pass_many-ended kids (suc n) f e =
    let same : pass kids f ≡ f = ap (pass_on kids f.passed) e ∙ ap (λ l. record { passed = f.passed; level = l }) (sym e) in
    ap (pass_many kids n) same ∙ pass_many-ended kids n f e

-- where a walk has ended, no more files are passed
pass_many-after : (kids : Met → List Met) (n m : ℕ) (f : Front) → n ≤ m → (pass_many kids n f).level ≡ [] → pass_many kids m f ≡ pass_many kids n f
pass_many-after kids n m f h e =
    let s : m ≡ n + (m - n) = omega (arith, h) in
    ap (λ j. pass_many kids j f) s ∙ sym (pass_many-more kids n (m - n) f) ∙ pass_many-ended kids (m - n) (pass_many kids n f) e

-- the state after k levels is the state after as many files
pub fronts_pass : (kids : Met → List Met) (starts : List Met) (k : ℕ) → fronts kids starts k ≡ pass_many kids (length (fronts kids starts k).passed) (record { passed = []; level = starts })
fronts_pass kids starts zero = refl
fronts_pass kids starts (suc k) =
    let f : Front = fronts kids starts k in
    let start : Front = record { passed = []; level = starts } in
    descend_is kids f
    ∙ ap (pass_many kids (length f.level)) (fronts_pass kids starts k)
    ∙ pass_many-more kids (length f.passed) (length f.level) start
    ∙ ap (λ n. pass_many kids n start) (sym (length-append f.passed f.level))

-- where the walk ends after no more files than there are levels, its files are those of the levels
pub passed_are_fronts : (kids : Met → List Met) (starts : List Met) (depth i : ℕ) (files : List Met) → pass_many kids i (record { passed = []; level = starts }) ≡ record { passed = files; level = [] } → i ≤ depth → (fronts kids starts depth).passed ≡ files
passed_are_fronts kids starts depth i files q h =
    let start : Front = record { passed = []; level = starts } in
    let m : ℕ = length (fronts kids starts depth).passed in
    let now : fronts kids starts depth ≡ pass_many kids m start = fronts_pass kids starts depth in
    let ended : (pass_many kids i start).level ≡ [] = ap (λ (f : Front). f.level) q in
    let same : pass_many kids m start ≡ pass_many kids i start =
    elim (fronts_enough kids starts depth) [
      | inl empty ↦
          let at_m : (pass_many kids m start).level ≡ [] = ap (λ (f : Front). f.level) (sym now) ∙ empty in
          elim (cases_lt m i) [
            | inl lt ↦ sym (pass_many-after kids m i start (omega (arith, lt)) at_m)
            | inr le ↦ pass_many-after kids i m start le ended
          ]
      | inr enough ↦ pass_many-after kids i m start (omega (arith, enough, h)) ended
    ] in
    ap (λ (f : Front). f.passed) (now ∙ same ∙ q)

-- the files that are passed stay in front
pass_many-keeps : (kids : Met → List Met) (n : ℕ) (f : Front) → (rest : List Met) × ((pass_many kids n f).passed ≡ f.passed ++ rest)
pass_many-keeps kids zero f = ([], sym (append-nil f.passed))
pass_many-keeps kids (suc n) f =
    let one = pass_on-keeps kids f.passed f.level in
    let more = pass_many-keeps kids n (pass kids f) in
    (one.0 ++ more.0, more.1 ∙ ap (λ l. l ++ more.0) one.1 ∙ append_assoc f.passed one.0 more.0)
  where
    pass_on-keeps : (kids : Met → List Met) (done l : List Met) → (rest : List Met) × ((pass_on kids done l).passed ≡ done ++ rest)
    pass_on-keeps kids done [] = ([], sym (append-nil done))
    pass_on-keeps kids done (m ∷ ms) = (m ∷ [], refl)

-- a file that waits is one of those of the levels, where there are enough of them
pub waiting_in_fronts : (kids : Met → List Met) (starts : List Met) (depth i : ℕ) (done : List Met) (m : Met) (left : List Met) → pass_many kids i (record { passed = []; level = starts }) ≡ record { passed = done; level = m ∷ left } → i < depth → In m (fronts kids starts depth).passed
waiting_in_fronts kids starts depth i done m left q h =
    let start : Front = record { passed = []; level = starts } in
    let n : ℕ = length (fronts kids starts depth).passed in
    let now : fronts kids starts depth ≡ pass_many kids n start = fronts_pass kids starts depth in
    let later : i < n =
    elim (fronts_enough kids starts depth) [
      | inl empty ↦
          let at_n : (pass_many kids n start).level ≡ [] = ap (λ (f : Front). f.level) (sym now) ∙ empty in
          elim (cases_lt i n) [
            | inl lt ↦ lt
            | inr le ↦
                let none : m ∷ left ≡ [] = ap (λ (f : Front). f.level) (sym q) ∙ ap (λ (f : Front). f.level) (pass_many-after kids n i start le at_n) ∙ at_n in
                absurd cc
          ]
      | inr enough ↦ omega (arith, enough, h)
    ] in
    let next : pass_many kids (i + 1) start ≡ record { passed = done ++ m ∷ []; level = left ++ first_listed (numbers (done ++ m ∷ left)) (kids m) } =
    sym (pass_many-more kids i 1 start) ∙ ap (pass_many kids 1) q in
    let there : n ≡ (i + 1) + (n - (i + 1)) = omega (arith, later) in
    let rest = pass_many-keeps kids (n - (i + 1)) (pass_many kids (i + 1) start) in
    let all : (fronts kids starts depth).passed ≡ (done ++ m ∷ []) ++ rest.0 =
    ap (λ (f : Front). f.passed) (now ∙ ap (λ k. pass_many kids k start) there ∙ sym (pass_many-more kids (i + 1) (n - (i + 1)) start)) ∙ rest.1 ∙ ap (λ (f : Front). f.passed ++ rest.0) next in
    subst (λ l. In m l) (sym all) (In-left m (done ++ m ∷ []) rest.0 (In-right m done (m ∷ []) (inl refl)))
