-- What all files have that a survey meets: soundness by a property of files that their children share.
use Rattle.trio_surveys.proofs.Words.{◌++◌, ◌∙◌, ◌∷◌, ◌≡◌, Core, Front, In, In-left, List, Met, Pick, [], and_parts, ap, are_new, are_new-append, children, file_of, flat_map, flat_map-In, fronts_are, fronts_new, inl, inr, is_ok, is_sound, levels, list_all-each, map-In, map-append, new_beside, numbers, pages_of, refl, root_of, subst, suc, sym, true, ℕ}
use Rattle.trio_lists.proofs.Gathered.{gathered_new}
use Rattle.trio_layout.proofs.QueueLaws.{met_by}
use Rattle.trio_layout.specs.Survey.{survey}
use Rattle.trio_surveys.proofs.Owned.{sound_from}
use Rattle.trio_layout.proofs.Walks.{fronts_keep}

-- all files that a survey meets have what the root has and each file hands to its children
pub survey_keeps : (core : Core) (pick : Pick) (P : Met → Type 0) → P (root_of core) → ((m c : Met) → P m → In c (children core pick m) → P c) → (m : Met) → In m (survey core pick) → P m
unfolding survey
survey_keeps core pick P root down m i =
    let kids : Met → List Met = children core pick in
    let w : Front = levels kids (root_of core) (suc core.inodes) in
    fronts_keep kids (root_of core ∷ []) P (λ x j. elim j [ inl e ↦ subst P (sym e) root | inr no' ↦ absurd no' ]) down (suc core.inodes) m
    (subst (λ f. In m (met_by f)) (sym (fronts_are kids (root_of core) (suc core.inodes))) (In-left m w.passed w.level i))

-- no number is met twice
pub survey_new : (core : Core) (pick : Pick) → are_new [] (numbers (survey core pick)) ≡ true
unfolding survey
survey_new core pick =
    let kids : Met → List Met = children core pick in
    let w : Front = levels kids (root_of core) (suc core.inodes) in
    let all : are_new [] (numbers (w.passed ++ w.level)) ≡ true =
    ap (λ f. are_new [] (numbers (met_by f))) (sym (fronts_are kids (root_of core) (suc core.inodes))) ∙ fronts_new kids (root_of core ∷ []) refl (suc core.inodes) in
    (and_parts (are_new [] (numbers w.passed)) (are_new (numbers w.passed) (numbers w.level))
    (sym (ap (are_new []) (map-append (λ (m : Met). m.ino) w.passed w.level) ∙ are_new-append [] (numbers w.passed) (numbers w.level)) ∙ all)).0

-- a property of files that makes a survey sound: the root has it, a file's children have it, each file that has it is in the
-- grammar, and two that have it share neither a page nor a number that they list
pub record Shares (core : Core) (pick : Pick) (P : Met → Type 0) : Type 0 where
  pub root : P (root_of core)
  pub down : (m c : Met) → P m → In c (children core pick m) → P c
  pub reads : (m : Met) → P m → is_ok (file_of core m) ≡ true
  pub pages : (m : Met) → P m → are_new [] (pages_of core m) ≡ true
  pub paged : (m x : Met) (p : ℕ) → P m → P x → In p (pages_of core m) → In p (pages_of core x) → m.ino ≡ x.ino
  pub names : (m : Met) → P m → are_new [] (numbers (children core pick m)) ≡ true
  pub named : (m x : Met) (n : ℕ) → P m → P x → In n (numbers (children core pick m)) → In n (numbers (children core pick x)) → m.ino ≡ x.ino
  pub no_root : (m c : Met) → P m → In c (children core pick m) → c.ino ≡ 1 → ⊥

pub sound_by : (core : Core) (pick : Pick) (P : Met → Type 0) → Shares core pick P → is_sound core pick ≡ true
sound_by core pick P t =
    let files : List Met = survey core pick in
    let has : (m : Met) → In m files → P m = survey_keeps core pick P t.root t.down in
    let new = survey_new core pick in
    let kids : Met → List ℕ = λ m. numbers (children core pick m) in
    sound_from core pick (record {
      grammar = list_all-each (λ m. is_ok (file_of core m)) files (λ m i. t.reads m (has m i));
      numbered =
          new_beside (1 ∷ []) (flat_map kids files)
          (gathered_new (λ (m : Met). m.ino) kids files new (λ m i. t.names m (has m i)) (λ m x n i j a b. t.named m x n (has m i) (has x j) a b))
          (λ n i one. elim one [
            | inl e ↦
                let r = flat_map-In kids n files i in
                let q = map-In (λ (m : Met). m.ino) n (children core pick r.0) r.2 in
                t.no_root r.0 q.0 (has r.0 r.1) q.1 (sym q.2 ∙ e)
            | inr no' ↦ no'
          ]);
      paged = gathered_new (λ (m : Met). m.ino) (pages_of core) files new (λ m i. t.pages m (has m i)) (λ m x p i j a b. t.paged m x p (has m i) (has x j) a b);
    })
