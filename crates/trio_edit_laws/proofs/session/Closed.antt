-- The judged files are closed: an entry of one that names one of the bundle's numbers is one.
use Rattle.trio_edit_laws.proofs.Words.{◌++◌, ◌+◌, ◌<◌, ◌∙◌, ◌∷◌, ◌≡◌, ◌≤◌, ◌⊎◌, AreInodes, Case, Core, FileRead, Front, In, In-filter, In-flat, In-is_among, In-map, In-right, List, Listed, Met, Ok, Written, [], and_parts, ap, append-nil, append_assoc, are_new, are_new-append, are_new-before, are_new-fewer, arith, bundle_core, descend, each_new, entries_in, entries_within, file_within, filtered_in, filtered_new, first_listed, flat_map, flat_map-In, fronts, fronts_listed, fronts_new, fronts_tree, gathered_new, if_ok_at, inl, inr, is_among, is_inode, judged_entries, judged_once, length, length-append, length-map, list_all-In, ltb, ltb-true, map, map-In, map-append, met_by, met_in, new_beside, new_entries, new_entry, nil_from_length, numbers, numbers-flat, one_of, pigeons, plain, refl, start_number, subst, suc, sym, true, within_fit, within_from, written_files, zero, ℕ}
use Rattle.trio_layout.specs.JudgedFiles.{judged_files}
use Rattle.trio_laws.proofs.session.Starts.{starts_once}

-- ---- walks

module _ (kids : Met → List Met) (starts : List Met) where
  -- after so many levels no file is left, or as many were met beside the first
  pub record Deep (k : ℕ) : Type 0 where
    pub rest : List Met
    pub level : List Met
    pub is : fronts kids starts (suc k) ≡ record { passed = starts ++ rest; level = level }
    pub enough : (level ≡ []) ⊎ (k ≤ length rest)

  deeper : (seen : List ℕ) (rest level : List Met) (k : ℕ) → (level ≡ []) ⊎ (k ≤ length rest) → (first_listed seen (flat_map kids level) ≡ []) ⊎ (suc k ≤ length (rest ++ level))
  deeper seen rest [] k e = inl refl
  deeper seen rest (m ∷ ms) k (inl q) = absurd cc
  deeper seen rest (m ∷ ms) k (inr h) = inr (omega (arith, length-append rest (m ∷ ms)))

  deep : (k : ℕ) → Deep k
  deep zero =
      let front : List Met → Front = λ p. record { passed = p; level = first_listed (numbers starts) (flat_map kids starts) } in
      record { rest = []; level = first_listed (numbers starts) (flat_map kids starts); is = ap front (sym (append-nil starts)); enough = inr (omega arith) }
  deep (suc k) =
      let d = deep k in
      let seen : List ℕ = numbers ((starts ++ d.rest) ++ d.level) in
      let front : List Met → Front = λ p. record { passed = p; level = first_listed seen (flat_map kids d.level) } in
      record {
        rest = d.rest ++ d.level;
        level = first_listed seen (flat_map kids d.level);
        is = ap (descend kids) d.is ∙ ap front (append_assoc starts d.rest d.level);
        enough = deeper seen d.rest d.level k d.enough;
      }

  -- where what is listed has numbers from 1 to n, no file is left after n levels
  level_none : (n : ℕ) → are_new [] (numbers starts) ≡ true → ((x m : Met) → In m (kids x) → m.ino < suc n) → ((x m : Met) → In m (kids x) → m.ino ≡ 0 → ⊥) → (fronts kids starts (suc n)).level ≡ []
  level_none n once low some =
      let d = deep n in
      let all : met_by (fronts kids starts (suc n)) ≡ starts ++ (d.rest ++ d.level) = ap (λ (f : Front). f.passed ++ f.level) d.is ∙ append_assoc starts d.rest d.level in
      let later : List ℕ = numbers (d.rest ++ d.level) in
      let new : are_new (numbers starts) later ≡ true =
      (and_parts (are_new [] (numbers starts)) (are_new (numbers starts) later)
      (sym (are_new-append [] (numbers starts) later) ∙ ap (are_new []) (sym (ap numbers all ∙ map-append (λ (m : Met). m.ino) starts (d.rest ++ d.level))) ∙ fronts_new kids starts once (suc n))).1 in
      let kid : (m : Met) → In m (d.rest ++ d.level) → (x : Met) × In m (kids x) =
      λ m i.
      elim (fronts_listed kids starts (suc n) m (subst (λ l. In m l) (sym all) (In-right m starts (d.rest ++ d.level) i))) [
        | inl start ↦ absurd (are_new-before m.ino (numbers starts) later new (In-map (λ (x : Met). x.ino) m (d.rest ++ d.level) i) (In-map (λ (x : Met). x.ino) m starts start))
        | inr listed ↦ let q = flat_map-In kids m (fronts kids starts (suc n)).passed listed in (q.0, q.2)
      ] in
      let below : (q : ℕ) → In q (0 ∷ later) → q < suc n =
      λ q i. elim i [
        | inl e ↦ (let z : q ≡ 0 = e in omega (arith, z))
        | inr j ↦
            let m = map-In (λ (x : Met). x.ino) q (d.rest ++ d.level) j in
            let k = kid m.0 m.1 in
            let l : m.0.ino < suc n = low k.0 m.0 k.1 in
            omega (arith, l, m.2)
      ] in
      let apart : (q : ℕ) → In q later → In q (0 ∷ []) → ⊥ =
      λ q j i. elim i [
        | inl e ↦
            let m = map-In (λ (x : Met). x.ino) q (d.rest ++ d.level) j in
            let k = kid m.0 m.1 in
            some k.0 m.0 k.1 (sym m.2 ∙ e)
        | inr no' ↦ no'
      ] in
      let once' : are_new [] later ≡ true = are_new-fewer [] (numbers starts) later (λ q i. absurd i) new in
      let few : length (0 ∷ later) ≤ suc n = pigeons (suc n) (0 ∷ later) (new_beside (0 ∷ []) later once' apart) below in
      let long : length later ≡ length (d.rest ++ d.level) = length-map (d.rest ++ d.level) (λ (x : Met). x.ino) in
      let both : length (d.rest ++ d.level) ≡ length d.rest + length d.level = length-append d.rest d.level in
      let empty : d.level ≡ [] = search (arith, nil_from_length) in
      ap (λ (f : Front). f.level) d.is ∙ empty

-- ---- judged files

-- the numbers that a directory names are numbers of the table
entry_inode : (core : Core) (m : Met) (f : FileRead) (l : Listed) → file_within core m ≡ Ok f → In l f.entries → is_inode core.inodes l.entry.ino ≡ true
entry_inode core m f l e i =
    let w = within_from core m f e in
    let all : AreInodes core.inodes f.entries = if_ok_at (entries_within core m.kind f.chain.blocks) f.entries (AreInodes core.inodes) w.entries (within_fit core m.kind f.chain.blocks) in
    list_all-In (λ (x : Listed). is_inode core.inodes x.entry.ino) l f.entries all i

-- an entry is one that its directory reads
pub entry_read : (c : Case) (x e : Met) → In e (entries_in c x) → (f : FileRead) × (file_within (bundle_core c) x ≡ Ok f) × (l : Listed) × In l f.entries × (e ≡ met_in plain x.ino l)
entry_read c x e i = search (arith, map-In)

pub entry_above : (c : Case) (x e : Met) → In e (entries_in c x) → e.ino ≡ 0 → ⊥
entry_above c x e i z =
    let q = entry_read c x e i in
    let two = and_parts (ltb 0 q.2.entry.ino) (ltb q.2.entry.ino (c.inodes + 1)) (entry_inode (bundle_core c) x q.0 q.2 q.1 q.3) in
    let l : 0 < q.2.entry.ino = ltb-true 0 q.2.entry.ino two.0 in
    let same : e.ino ≡ q.2.entry.ino = ap (λ (y : Met). y.ino) q.4 in
    omega (arith, l, same, z)

entry_below : (c : Case) (x e : Met) → In e (entries_in c x) → e.ino < suc c.inodes
entry_below c x e i =
    let q = entry_read c x e i in
    let two = and_parts (ltb 0 q.2.entry.ino) (ltb q.2.entry.ino (c.inodes + 1)) (entry_inode (bundle_core c) x q.0 q.2 q.1 q.3) in
    let l : q.2.entry.ino < c.inodes + 1 = ltb-true q.2.entry.ino (c.inodes + 1) two.1 in
    let same : e.ino ≡ q.2.entry.ino = ap (λ (y : Met). y.ino) q.4 in
    omega (arith, l, same)

module _ (c : Case) (once : are_new [] (map (λ (w : Written). w.ino) c.bundle.writes) ≡ true) (dead : (n : ℕ) → In n (map (λ (w : Written). w.ino) c.bundle.writes) → In n c.bundle.numbers → ⊥)
    (entries : are_new [] (numbers (judged_entries c)) ≡ true) where
  each_once : are_new [] (flat_map (λ m. numbers (entries_in c m)) (judged_files c)) ≡ true
  each_once = ap (are_new []) (sym (numbers-flat (entries_in c) (judged_files c))) ∙ entries

  new_gathered : are_new (numbers (written_files c)) (flat_map (λ m. numbers (new_entries c m)) (judged_files c)) ≡ true
  new_gathered =
      new_beside (numbers (written_files c)) (flat_map (λ m. numbers (new_entries c m)) (judged_files c))
      (gathered_new (λ (m : Met). m.ino) (λ m. numbers (new_entries c m)) (judged_files c) (judged_once c once)
      (λ m i. filtered_new (λ (m : Met). m.ino) (λ (e : Met). is_among e.ino c.bundle.numbers) (entries_in c m) (each_new (λ m. numbers (entries_in c m)) (judged_files c) m each_once i))
      (λ m x p i k a d. ap (λ (y : Met). y.ino)
      (one_of (λ m. numbers (entries_in c m)) (judged_files c) m x p each_once i k
      (filtered_in (λ (m : Met). m.ino) (λ (e : Met). is_among e.ino c.bundle.numbers) p (entries_in c m) a)
      (filtered_in (λ (m : Met). m.ino) (λ (e : Met). is_among e.ino c.bundle.numbers) p (entries_in c x) d))))
      (λ n i k.
      let q = flat_map-In (λ m. numbers (new_entries c m)) n (judged_files c) i in
      let e = map-In (λ (m : Met). m.ino) n (new_entries c q.0) q.2 in
      dead n (start_number c n k) (subst (λ y. In y c.bundle.numbers) (sym e.2) (new_entry c q.0 e.0 e.1).1))

  tree_judged : judged_files c ≡ written_files c ++ flat_map (new_entries c) (judged_files c)
  unfolding judged_files
  tree_judged =
      let n : ℕ = suc c.inodes in
      let kids : Met → List Met = new_entries c in
      let w : Front = fronts kids (written_files c) n in
      let empty : w.level ≡ [] =
      level_none kids (written_files c) c.inodes (starts_once c once) (λ x m i. entry_below c x m (new_entry c x m i).0) (λ x m i. entry_above c x m (new_entry c x m i).0) in
      sym (append-nil w.passed) ∙ ap (λ l. w.passed ++ l) (sym empty) ∙ fronts_tree kids (written_files c) n new_gathered

  pub judged_closed : (x e : Met) → In x (judged_files c) → In e (entries_in c x) → In e.ino c.bundle.numbers → In e (judged_files c)
  judged_closed x e i k n =
      subst (λ l. In e l) (sym tree_judged)
      (In-right e (written_files c) (flat_map (new_entries c) (judged_files c))
      (In-flat (new_entries c) x e (judged_files c) i (In-filter (λ (y : Met). is_among y.ino c.bundle.numbers) e (entries_in c x) k (In-is_among e.ino c.bundle.numbers n))))
