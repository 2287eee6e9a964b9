-- Ways from the root down to the files that a survey meets.
use Rattle.trio_surveys.proofs.Words.{◌++◌, ◌<◌, ◌∙◌, ◌∷◌, ◌≡◌, ◌≤◌, ◌⊎◌, Core, Front, In, In-cases, In-flat, In-map, List, Met, Pick, Reaches, [], and_parts, ap, are_new, are_new-append, are_new-before, arith, body_at_place, body_in_slot, children, flat_map, flat_map-In, fronts_are, fronts_new, inl, inr, is_sound, levels, listed_numbers, map-append, met_in, numbers, option_map_or, refl, root_of, subst, suc, sym, true, zero, ℕ}
use Rattle.trio_layout.specs.Survey.{survey}
use Rattle.trio_surveys.proofs.Owned.{sound_parts}
use Rattle.trio_surveys.proofs.Tree.{child_from, child_placed, survey_tree}
use Rattle.trio_layout.proofs.Walks.{first_are_listed}

-- a child has its directory for a parent, and the body that is picked at its place
pub child_parent : (core : Core) (pick : Pick) (m c : Met) → In c (children core pick m) → c.parent ≡ m.ino
child_parent core pick m c i = ap (λ (x : Met). x.parent) (child_from core pick m c i).is

pub child_body : (core : Core) (pick : Pick) (m c : Met) → In c (children core pick m) → c.body ≡ pick c.parent c.page c.slot c.ino (body_at_place core c.page c.slot)
child_body core pick m c i =
    let k = child_from core pick m c i in
    let p = child_placed core pick m c k in
    let P : Met → Type 0 = λ x. x.body ≡ pick x.parent x.page x.slot x.ino (body_at_place core x.page x.slot) in
    let there : k.entry.body ≡ body_at_place core k.entry.page k.entry.slot =
    p.body ∙ sym (ap (λ o. option_map_or (body_in_slot k.entry.slot) o []) p.page) in
    let is : P (met_in pick m.ino k.entry) = ap (pick m.ino k.entry.page k.entry.slot k.entry.entry.ino) there in
    subst P (sym k.is) is

pub level_down : (core : Core) (pick : Pick) (k : ℕ) (m : Met) → In m (levels (children core pick) (root_of core) k).level → Reaches core pick k m
level_down core pick zero m (inl e) = e
level_down core pick zero m (inr i) = absurd i
level_down core pick (suc k) m i =
    let w : Front = levels (children core pick) (root_of core) k in
    let r = flat_map-In (children core pick) m w.level (first_are_listed (numbers (w.passed ++ w.level)) (flat_map (children core pick) w.level) m i) in
    (r.0, level_down core pick k r.0 r.1, r.2)

pub level_of : (core : Core) (pick : Pick) (n : ℕ) (m : Met) → In m (levels (children core pick) (root_of core) n).passed → (k : ℕ) × (k < n) × In m (levels (children core pick) (root_of core) k).level
level_of core pick zero m i = absurd i
level_of core pick (suc n) m i =
    let w : Front = levels (children core pick) (root_of core) n in
    elim (In-cases m w.passed w.level i) [
      | inl before ↦
          let r = level_of core pick n m before in
          let l : r.0 < n = r.1 in
          let l' : r.0 < suc n = omega (arith, l) in (r.0, l', r.2)
      | inr here ↦ let l : n < suc n = omega arith in (n, l, here)
    ]

-- each file met is reached from the root, within as many steps as there are inode numbers
pub survey_reached : (core : Core) (pick : Pick) (m : Met) → In m (survey core pick) → (k : ℕ) × (k ≤ core.inodes) × Reaches core pick k m × In m (levels (children core pick) (root_of core) k).level
unfolding survey
survey_reached core pick m i =
    let r = level_of core pick (suc core.inodes) m i in
    let l : r.0 < suc core.inodes = r.1 in
    let l' : r.0 ≤ core.inodes = omega (arith, l) in (r.0, l', level_down core pick r.0 m r.2, r.2)

-- the numbers of the files passed are distinct
pub passed_new : (core : Core) (pick : Pick) (k : ℕ) → are_new [] (numbers (levels (children core pick) (root_of core) k).passed) ≡ true
passed_new core pick k =
    let kids : Met → List Met = children core pick in
    let w : Front = levels kids (root_of core) k in
    let all : are_new [] (numbers (w.passed ++ w.level)) ≡ true =
    ap (λ (f : Front). are_new [] (numbers (f.passed ++ f.level))) (sym (fronts_are kids (root_of core) k)) ∙ fronts_new kids (root_of core ∷ []) refl k in
    (and_parts (are_new [] (numbers w.passed)) (are_new (numbers w.passed) (numbers w.level))
    (sym (ap (are_new []) (map-append (λ (m : Met). m.ino) w.passed w.level) ∙ are_new-append [] (numbers w.passed) (numbers w.level)) ∙ all)).0

module _ (core : Core) (pick : Pick) (one : 1 ≤ core.inodes) (sound : is_sound core pick ≡ true) where
  pub root_met : In (root_of core) (survey core pick)
  root_met = subst (λ l. In (root_of core) l) (sym (survey_tree core pick one sound)) (inl refl)

  pub child_met : (m c : Met) → In m (survey core pick) → In c (children core pick m) → In c (survey core pick)
  child_met m c i j = subst (λ l. In c l) (sym (survey_tree core pick one sound)) (inr (In-flat (children core pick) m c (survey core pick) i j))

  pub met_cases : (m : Met) → In m (survey core pick) → (m ≡ root_of core) ⊎ ((x : Met) × In x (survey core pick) × In m (children core pick x))
  met_cases m i = search (arith, survey_tree, flat_map-In)

  pub no_root_listed : (m c : Met) → In m (survey core pick) → In c (children core pick m) → c.ino ≡ 1 → ⊥
  no_root_listed m c i j e =
      are_new-before c.ino (1 ∷ []) (listed_numbers core pick (survey core pick)) (sound_parts core pick sound).numbered
      (In-flat (λ m. numbers (children core pick m)) m c.ino (survey core pick) i (In-map (λ (x : Met). x.ino) c (children core pick m) j)) (inl e)

  pub reached_met : (k : ℕ) (m : Met) → Reaches core pick k m → In m (survey core pick)
  reached_met zero m e = subst (λ x. In x (survey core pick)) (sym e) root_met
  reached_met (suc k) m d = child_met d.0 m (reached_met k d.0 d.1) d.2
