-- The judged files: written ones, and new ones that a judged directory lists, each number once.
use Rattle.trio_laws.proofs.Words.{◌++◌, ◌<◌, ◌∙◌, ◌∷◌, ◌≡◌, ◌≤◌, ◌⊎◌, Bundle, Case, Core, FileRead, Front, In, In-filter, In-flat, In-is_among, In-left, In-map, In-right, IsJudgeable, List, Met, None, Ok, Option, Row, Some, State, Written, [], ap, append-nil, are_new, arith, bundle_core, bundle_pages, case_of, child_numbered, children, children_in, creds_of, each_new, entries_in, file_of, file_within, filter-In, filtered_in, filtered_new, flat_map, flat_map-In, fronts, fronts_keep, fronts_listed, fronts_new, fronts_tree, gathered_new, in_sorted, inl, inr, is_among, is_among-In, judged_entries, map, map-In, met_by, new_beside, new_entries, numbers, numbers-flat, one_of, plain, proposed, refl, row_at, row_in, same_met, settled, sorted_by, sorted_in, sorted_new, starts_met, subst, suc, sym, true, written_at, written_files, written_met, ℕ}
use Rattle.trio_layout.specs.JudgedFiles.{judged_files}
use Rattle.trio_layout.proofs.Walks.{fronts_closed}
use Rattle.trio_laws.proofs.judgement.CaseFacts.{live_bounds, written_row, new_not_live}

pub written_ino_at : (w : Written) (o : Option Row) → (written_at w o).ino ≡ w.ino
written_ino_at w None = refl
written_ino_at w (Some r) = refl

pub written_ino : (c : Case) (w : Written) → (written_met c w).ino ≡ w.ino
written_ino c w = written_ino_at w (row_in c.rows w.ino)

pub written_kind_at : (w : Written) (o : Option Row) → (written_at w o).kind ≡ w.kind
written_kind_at w None = refl
written_kind_at w (Some r) = refl

pub written_kind : (c : Case) (w : Written) → (written_met c w).kind ≡ w.kind
written_kind c w = written_kind_at w (row_in c.rows w.ino)

pub written_body_at : (w : Written) (o : Option Row) → (written_at w o).body ≡ w.body
written_body_at w None = refl
written_body_at w (Some r) = refl

pub written_body : (c : Case) (w : Written) → (written_met c w).body ≡ w.body
written_body c w = written_body_at w (row_in c.rows w.ino)

-- a judged file that is read whole, of the bundle's pages alone
pub record ReadOwn (c : Case) (core : Core) (m : Met) : Type 0 where
  pub file : FileRead
  pub within : file_within (bundle_core c) m ≡ Ok file
  pub whole : file_of core m ≡ Ok file
  pub own : (p : ℕ) → In p (file.chain.index ++ file.chain.blocks) → In p (bundle_pages c.bundle)

module _ (s : State) (lib : ℕ) (b : Bundle) (j : IsJudgeable s lib b) where
  abbrev c : Case
  c = case_of (settled s) (creds_of s lib) b

  abbrev core : Core
  core = proposed (settled s) b

  starts_from : (m : Met) → In m (written_files c) → (w : Written) × In w b.writes × (m ≡ written_met c w)
  starts_from m i =
      let q = map-In (written_met c) m (sorted_by (λ (w : Written). w.ino) b.writes) i in (q.0, sorted_in (λ (w : Written). w.ino) q.0 b.writes q.1, q.2)

  starts_new : are_new [] (numbers (written_files c)) ≡ true
  starts_new = ap (are_new []) (same (sorted_by (λ (w : Written). w.ino) b.writes)) ∙ sorted_new (λ (w : Written). w.ino) b.writes j.given.writes_once
    where
      same : (ws : List Written) → numbers (map (written_met c) ws) ≡ map (λ (w : Written). w.ino) ws
      same [] = refl
      same (w ∷ ws) = ap (λ n. n ∷ numbers (map (written_met c) ws)) (written_ino c w) ∙ ap (λ l. w.ino ∷ l) (same ws)

  pub judged_new : are_new [] (numbers (judged_files c)) ≡ true
  unfolding judged_files
  judged_new = fronts_new (new_entries c) (written_files c) starts_new (settled s).core.inodes

  pub written_judged : (w : Written) → In w b.writes → In (written_met c w) (judged_files c)
  unfolding judged_files
  written_judged w i = search (arith, starts_met, In-map, in_sorted)

  pub judged_from : (m : Met) → In m (judged_files c) → ((w : Written) × In w b.writes × (m ≡ written_met c w)) ⊎ ((x : Met) × In x (judged_files c) × In m (new_entries c x))
  unfolding judged_files
  judged_from m i =
      let w : Front = fronts (new_entries c) (written_files c) (settled s).core.inodes in
      elim (fronts_listed (new_entries c) (written_files c) (settled s).core.inodes m i) [
        | inl a ↦ inl (starts_from m a)
        | inr k ↦ let q = flat_map-In (new_entries c) m w.passed k in inr (q.0, In-left q.0 w.passed w.level q.1, q.2)
      ]

  pub judged_keep : (P : Met → Type 0) → ((w : Written) → In w b.writes → P (written_met c w)) → ((x e : Met) → P x → In e (new_entries c x) → P e) → (m : Met) → In m (judged_files c) → P m
  unfolding judged_files
  judged_keep P here down m i =
      fronts_keep (new_entries c) (written_files c) P
      (λ x k. let q = starts_from x k in subst P (sym q.2) (here q.0 q.1)) down (settled s).core.inodes m i

  pub one_judged : (m x : Met) → In m (judged_files c) → In x (judged_files c) → m.ino ≡ x.ino → m ≡ x
  one_judged m x i k e = same_met (judged_files c) m x judged_new i k e

  pub entry_from : (e : Met) → In e (judged_entries c) → (x : Met) × In x (judged_files c) × In e (entries_in c x)
  entry_from e i = flat_map-In (entries_in c) e (judged_files c) i

  pub entry_to : (x e : Met) → In x (judged_files c) → In e (entries_in c x) → In e (judged_entries c)
  entry_to x e i k = In-flat (entries_in c) x e (judged_files c) i k

  pub new_from : (x e : Met) → In e (new_entries c x) → In e (entries_in c x) × In e.ino b.numbers
  new_from x e i =
      let q = filter-In (λ (e : Met). is_among e.ino b.numbers) e (entries_in c x) i in (q.0, is_among-In e.ino b.numbers q.1)

  pub new_to : (x e : Met) → In e (entries_in c x) → In e.ino b.numbers → In e (new_entries c x)
  new_to x e i k = In-filter (λ (e : Met). is_among e.ino b.numbers) e (entries_in c x) i (In-is_among e.ino b.numbers k)

  -- the entries of a judged file that is read are its children, with the bodies in their slots
  pub entries_are : (m : Met) → ReadOwn c core m → entries_in c m ≡ children core plain m
  entries_are m r = ap (children_in plain m.ino) (r.within ∙ sym r.whole)

  module _ (reads : (m : Met) → In m (judged_files c) → ReadOwn c core m) (once : are_new [] (numbers (judged_entries c)) ≡ true) where
    each_once : are_new [] (flat_map (λ m. numbers (entries_in c m)) (judged_files c)) ≡ true
    each_once = ap (are_new []) (sym (numbers-flat (entries_in c) (judged_files c))) ∙ once

    new_gathered : are_new (numbers (written_files c)) (flat_map (λ m. numbers (new_entries c m)) (judged_files c)) ≡ true
    new_gathered =
        new_beside (numbers (written_files c)) (flat_map (λ m. numbers (new_entries c m)) (judged_files c))
        (gathered_new (λ (m : Met). m.ino) (λ m. numbers (new_entries c m)) (judged_files c) judged_new
        (λ m i. filtered_new (λ (m : Met). m.ino) (λ (e : Met). is_among e.ino b.numbers) (entries_in c m) (each_new (λ m. numbers (entries_in c m)) (judged_files c) m each_once i))
        (λ m x p i k a d. ap (λ (y : Met). y.ino)
        (one_of (λ m. numbers (entries_in c m)) (judged_files c) m x p each_once i k
        (filtered_in (λ (m : Met). m.ino) (λ (e : Met). is_among e.ino b.numbers) p (entries_in c m) a)
        (filtered_in (λ (m : Met). m.ino) (λ (e : Met). is_among e.ino b.numbers) p (entries_in c x) d))))
        (λ n i k.
        let q = flat_map-In (λ m. numbers (new_entries c m)) n (judged_files c) i in
        let e = map-In (λ (m : Met). m.ino) n (new_entries c q.0) q.2 in
        let new : In n b.numbers = subst (λ y. In y b.numbers) (sym e.2) (new_from q.0 e.0 e.1).1 in
        let v = map-In (λ (m : Met). m.ino) n (written_files c) k in
        let w = starts_from v.0 v.1 in
        let r = written_row s lib b j w.0 w.1 in
        let is : w.0.ino ≡ n = sym (written_ino c w.0) ∙ ap (λ (m : Met). m.ino) (sym w.2) ∙ sym v.2 in
        new_not_live s lib b j n r.0 new (ap (row_at (settled s)) (sym is) ∙ r.1))

    -- the judged files are the written ones and all new entries of judged directories
    pub judged_tree : judged_files c ≡ written_files c ++ flat_map (new_entries c) (judged_files c)
    unfolding judged_files
    judged_tree =
        let n : ℕ = suc (settled s).core.inodes in
        let kids : Met → List Met = new_entries c in
        let w : Front = fronts kids (written_files c) n in
        let low : (m : Met) → In m (met_by w) → m.ino < n =
        λ m i. elim (fronts_listed kids (written_files c) n m i) [
          | inl a ↦
              let v = starts_from m a in
              let r = written_row s lib b j v.0 v.1 in
              let q = live_bounds s lib b j v.0.ino r.0 r.1 in
              let l : v.0.ino ≤ (settled s).core.inodes = q.1 in
              let is : m.ino ≡ v.0.ino = ap (λ (x : Met). x.ino) v.2 ∙ written_ino c v.0 in
              omega (arith, l, is)
          | inr k ↦
              let q = flat_map-In kids m w.passed k in
              let e : In m (children core plain q.0) = subst (λ l. In m l) (entries_are q.0 (reads q.0 q.1)) (new_from q.0 m q.2).0 in
              let l : m.ino ≤ core.inodes = (child_numbered core plain q.0 m e).1 in
              omega (arith, l)
        ] in
        let empty : w.level ≡ [] = fronts_closed kids (written_files c) n starts_new low in
        sym (append-nil w.passed) ∙ ap (λ l. w.passed ++ l) (sym empty) ∙ fronts_tree kids (written_files c) n new_gathered

    -- an entry of a judged directory with one of the bundle's numbers is judged
    pub new_judged : (x e : Met) → In x (judged_files c) → In e (entries_in c x) → In e.ino b.numbers → In e (judged_files c)
    new_judged x e i k n =
        subst (λ l. In e l) (sym judged_tree)
        (In-right e (written_files c) (flat_map (new_entries c) (judged_files c)) (In-flat (new_entries c) x e (judged_files c) i (new_to x e k n)))
