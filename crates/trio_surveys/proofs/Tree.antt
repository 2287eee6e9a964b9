-- A sound survey is the root with all that its files list.
use Rattle.trio_surveys.proofs.Words.{◌++◌, ◌<◌, ◌∙◌, ◌∷◌, ◌≡◌, ◌≤◌, Core, FileRead, Front, In, In-map, List, Listed, Location, Met, Ok, Pick, Result, [], and_parts, ap, are_in_grammar, are_new, arith, children, children_in, file_of, flat_map, flat_map-In, fronts_are, inl, inr, is_sound, levels, listed_numbers, listed_pages, map-In, met_in, numbers, refl, root_of, slot_bytes, subst, suc, sym, true, ℕ}
use Rattle.trio_layout.specs.JudgedFiles.{fronts}
use Rattle.trio_layout.specs.Sound.{are_listed_once}
use Rattle.trio_layout.specs.Survey.{survey}
use Rattle.trio_surveys.proofs.Local.{reads_from}
use Rattle.trio_surveys.proofs.Places.{Placed, entry_numbered, placed_from}
use Rattle.trio_layout.proofs.Walks.{fronts_closed, fronts_listed, fronts_tree}

-- the body of a child is what its pick says
pub picked_met : (pick : Pick) (d : ℕ) (m : Met) (l : Listed) → m ≡ met_in pick d l → m.body ≡ pick m.parent m.page m.slot m.ino l.body
picked_met pick d m l e = search arith

-- a child of a file that is read, by its entry
pub record Child (core : Core) (pick : Pick) (m c : Met) : Type 0 where
  pub file : FileRead
  pub read : file_of core m ≡ Ok file
  pub entry : Listed
  pub listed : In entry file.entries
  pub is : c ≡ met_in pick m.ino entry

child_in : (core : Core) (pick : Pick) (m c : Met) (o : Result FileRead Location) → file_of core m ≡ o → In c (children_in pick m.ino o) → Child core pick m c
child_in core pick m c o e h = search (arith, map-In)

pub child_from : (core : Core) (pick : Pick) (m c : Met) → In c (children core pick m) → Child core pick m c
child_from core pick m c h = child_in core pick m c (file_of core m) refl h

pub child_has : (core : Core) (pick : Pick) (m : Met) (f : FileRead) (l : Listed) → file_of core m ≡ Ok f → In l f.entries → In (met_in pick m.ino l) (children core pick m)
child_has core pick m f l e h = search (arith, In-map)

pub child_placed : (core : Core) (pick : Pick) (m c : Met) → (k : Child core pick m c) → Placed core k.file.chain.blocks k.entry
child_placed core pick m c k =
    placed_from core m.kind k.file.chain.blocks k.file.entries k.entry (reads_from core m k.file k.read).entries k.listed

pub child_numbered : (core : Core) (pick : Pick) (m c : Met) → In c (children core pick m) → (0 < c.ino) × (c.ino ≤ core.inodes)
child_numbered core pick m c h =
    let k = child_from core pick m c h in
    let p = child_placed core pick m c k in
    let N : Met → Type 0 = λ x. (0 < x.ino) × (x.ino ≤ core.inodes) in
    let there : (0 < k.entry.entry.ino) × (k.entry.entry.ino ≤ core.inodes) = entry_numbered core.inodes (slot_bytes k.entry.slot p.bytes) k.entry.entry p.says in
    subst N (sym k.is) there

pub survey_closed : (core : Core) (pick : Pick) → 1 ≤ core.inodes → (levels (children core pick) (root_of core) (suc core.inodes)).level ≡ []
survey_closed core pick one =
    let kids : Met → List Met = children core pick in
    let first : List Met = root_of core ∷ [] in
    ap (λ (f : Front). f.level) (sym (fronts_are kids (root_of core) (suc core.inodes)))
    ∙ fronts_closed kids first (suc core.inodes) refl
    (λ m i. elim (fronts_listed kids first (suc core.inodes) m i) [
      | inl e ↦ elim e [ inl is ↦ (let n : m.ino ≡ 1 = ap (λ (x : Met). x.ino) is in omega (arith, n, one)) | inr none ↦ absurd none ]
      | inr h ↦
          let r = flat_map-In kids m _ h in
          let n = child_numbered core pick r.0 m r.2 in
          let l : m.ino ≤ core.inodes = n.1 in omega (arith, l)
    ])

-- a sound survey is the root with all that its files list
pub survey_tree : (core : Core) (pick : Pick) → 1 ≤ core.inodes → is_sound core pick ≡ true → survey core pick ≡ root_of core ∷ flat_map (children core pick) (survey core pick)
unfolding survey
survey_tree core pick one sound =
    let kids : Met → List Met = children core pick in
    let w : Front = levels kids (root_of core) (suc core.inodes) in
    let once = (and_parts (are_in_grammar core w.passed) (are_listed_once core pick w.passed) sound).1 in
    let new = (and_parts (are_new (1 ∷ []) (listed_numbers core pick w.passed)) (are_new [] (listed_pages core w.passed)) once).0 in
    let same : fronts kids (root_of core ∷ []) (suc core.inodes) ≡ w = fronts_are kids (root_of core) (suc core.inodes) in
    let new' = subst (λ (f : Front). are_new (1 ∷ []) (flat_map (λ m. numbers (kids m)) f.passed) ≡ true) (sym same) new in
    let all : w.passed ++ w.level ≡ root_of core ∷ flat_map kids w.passed =
    subst (λ (f : Front). f.passed ++ f.level ≡ root_of core ∷ flat_map kids f.passed) same (fronts_tree kids (root_of core ∷ []) (suc core.inodes) new') in
    sym (append_nil w.passed) ∙ ap (λ l. w.passed ++ l) (sym (survey_closed core pick one)) ∙ all
  where
    append_nil : (xs : List Met) → xs ++ [] ≡ xs
    append_nil [] = refl
    append_nil (x ∷ xs) = ap (λ l. x ∷ l) (append_nil xs)
