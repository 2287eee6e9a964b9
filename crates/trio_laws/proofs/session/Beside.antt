-- Two walks that begin with other files, but with the same children.
use Rattle.trio_laws.proofs.Words.{◌++◌, ◌||◌, ◌∙◌, ◌∷◌, ◌≡◌, ◌≤◌, Front, In, In-cases, In-left, In-right, List, Met, [], ap, append-nil, append_assoc, arith, cases_eq, descend, eqb, first_listed, flat_map, flat_map-In, flat_map-same, fronts, inl, inr, is_among, is_among-push, map-append, numbers, refl, subst, suc, sym, zero, ℕ}
use Rattle.trio_lists.proofs.Marked.{is_among-append}
use Rattle.trio_layout.proofs.Walks.{first_are_listed}

-- what is first listed goes by which of these numbers were seen
first_same : (L : ℕ → Type 0) (seen seen' : List ℕ) (ms : List Met) → ((n : ℕ) → L n → is_among n seen' ≡ is_among n seen) → ((m : Met) → In m ms → L m.ino) → first_listed seen' ms ≡ first_listed seen ms
first_same L seen seen' [] same all = refl
first_same L seen seen' (m ∷ ms) same all =
    let here : is_among m.ino seen' ≡ is_among m.ino seen = same m.ino (all m (inl refl)) in
    let on : first_listed seen' ms ≡ first_listed seen ms = first_same L seen seen' ms same (λ x i. all x (inr i)) in
    let push : first_listed (seen' ++ m.ino ∷ []) ms ≡ first_listed (seen ++ m.ino ∷ []) ms =
    first_same L (seen ++ m.ino ∷ []) (seen' ++ m.ino ∷ []) ms
    (λ n l. is_among-push n m.ino seen' ∙ ap (λ b. b || eqb m.ino n) (same n l) ∙ sym (is_among-push n m.ino seen))
    (λ x i. all x (inr i)) in
    search arith

-- files that are passed stay passed
pub passed_more : (kids : Met → List Met) (starts : List Met) (m : Met) (k n : ℕ) → k ≤ n → In m (fronts kids starts k).passed → In m (fronts kids starts n).passed
passed_more kids starts m k zero h i =
    let z : k ≡ 0 = omega arith in subst (λ j. In m (fronts kids starts j).passed) z i
passed_more kids starts m k (suc n) h i =
    elim (cases_eq k (suc n)) [
      | inl same ↦ subst (λ j. In m (fronts kids starts j).passed) same i
      | inr differ ↦
          let l : k ≤ n = omega arith in
          In-left m (fronts kids starts n).passed (fronts kids starts n).level (passed_more kids starts m k n l i)
    ]

module _ (L : ℕ → Type 0) (kids kids' : Met → List Met) (starts starts' : List Met) (n : ℕ) where
  -- after so many levels both walks have met the same beside the first files
  pub record Alike (k : ℕ) : Type 0 where
    pub rest : List Met
    pub level : List Met
    pub old : fronts kids starts (suc k) ≡ record { passed = starts ++ rest; level = level }
    pub new : fronts kids' starts' (suc k) ≡ record { passed = starts' ++ rest; level = level }
    pub listed : (m : Met) → In m (rest ++ level) → L m.ino

  module _ (first : flat_map kids' starts' ≡ flat_map kids starts) (among : (x : ℕ) → L x → is_among x (numbers starts') ≡ is_among x (numbers starts))
      (listed : (x m : Met) → In m (kids x) → L m.ino) (same : (m : Met) → In m (fronts kids starts (suc n)).passed → L m.ino → kids' m ≡ kids m) where
    all_listed : (ms : List Met) (m : Met) → In m (flat_map kids ms) → L m.ino
    all_listed ms m i = let q = flat_map-In kids m ms i in listed q.0 m q.2

    alike_zero : Alike 0
    alike_zero =
        let level : List Met = first_listed (numbers starts) (flat_map kids starts) in
        let front : List Met → List Met → Front = λ p l. record { passed = p; level = l } in
        record {
          rest = [];
          level = level;
          old = ap (λ p. front p level) (sym (append-nil starts));
          new =
              ap (λ l. front starts' (first_listed (numbers starts') l)) first
              ∙ ap (front starts') (first_same L (numbers starts) (numbers starts') (flat_map kids starts) among (all_listed starts))
              ∙ ap (λ p. front p level) (sym (append-nil starts'));
          listed = λ m i. all_listed starts m (first_are_listed (numbers starts) (flat_map kids starts) m i);
        }

    among_more : (x : ℕ) (rest level : List Met) → L x → is_among x (numbers ((starts' ++ rest) ++ level)) ≡ is_among x (numbers ((starts ++ rest) ++ level))
    among_more x rest level l = search (arith, append_assoc, map-append, is_among-append)

    alike_more : (k : ℕ) → suc k ≤ n → Alike k → Alike (suc k)
    alike_more k h a =
        let rest : List Met = a.rest in
        let level : List Met = a.level in
        let next : List Met = first_listed (numbers ((starts ++ rest) ++ level)) (flat_map kids level) in
        let front : List Met → List Met → Front = λ p l. record { passed = p; level = l } in
        let there : (m : Met) → In m level → In m (fronts kids starts (suc n)).passed =
        λ m i.
        let j : In m (fronts kids starts (suc (suc k))).passed =
        subst (λ (f : Front). In m (f.passed ++ f.level)) (sym a.old) (In-right m (starts ++ rest) level i) in
        passed_more kids starts m (suc (suc k)) (suc n) (omega arith) j in
        let same' : flat_map kids' level ≡ flat_map kids level =
        flat_map-same kids' kids level (λ m i. same m (there m i) (a.listed m (In-right m rest level i))) in
        record {
          rest = rest ++ level;
          level = next;
          old = ap (descend kids) a.old ∙ ap (λ p. front p next) (append_assoc starts rest level);
          new =
              ap (descend kids') a.new
              ∙ ap (λ l. front ((starts' ++ rest) ++ level) (first_listed (numbers ((starts' ++ rest) ++ level)) l)) same'
              ∙ ap (front ((starts' ++ rest) ++ level))
              (first_same L (numbers ((starts ++ rest) ++ level)) (numbers ((starts' ++ rest) ++ level)) (flat_map kids level) (λ x l. among_more x rest level l) (all_listed level))
              ∙ ap (λ p. front p next) (append_assoc starts' rest level);
          listed = λ m i.
              elim (In-cases m (rest ++ level) next i) [
                | inl before ↦ a.listed m before
                | inr later ↦ all_listed level m (first_are_listed (numbers ((starts ++ rest) ++ level)) (flat_map kids level) m later)
              ];
        }

    pub alike : (k : ℕ) → k ≤ n → Alike k
    alike zero h = alike_zero
    alike (suc k) h = alike_more k h (alike k (omega arith))
