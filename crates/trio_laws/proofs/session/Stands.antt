-- What is in hand reads the same whatever the rows say.
use Rattle.trio_laws.proofs.Words.{◌++◌, ◌∙◌, ◌∷◌, ◌≡◌, Bundle, Case, Core, Creds, FileRead, Held, In, In-cases, In-flat, In-map, In-right, Kind, List, Location, Met, Naming, Option, Result, Row, Sizes, Written, [], ap, arith, bundle_core, children_in, eqb, filter, find, flat_map, flat_map-In, flat_map-append, inl, inr, is_among, judged_files, judged_pages, map, naming_of, namings_in, numbers, pages_in, plain, refl, row_in, sorted_by, subst, sym, written_at, written_files, written_met, ℕ}
use Rattle.trio_layout.specs.Within.{file_within}
use Rattle.trio_laws.proofs.judgement.JudgedFacts.{written_ino_at, written_kind_at}
use Rattle.trio_laws.proofs.session.Ruled.{case_with}
use Rattle.trio_laws.proofs.session.Starts.{Share, shared, start_from, start_judged, start_number, start_to}

-- a written file reads the same wherever its row places it
pub written_alike : (core : Core) (w : Written) (one two : Option Row) → file_within core (written_at w one) ≡ file_within core (written_at w two)
unfolding file_within
written_alike core w one two = search arith

number_alike : (w : Written) (one two : Option Row) → (written_at w one).ino ≡ (written_at w two).ino
number_alike w one two = written_ino_at w one ∙ sym (written_ino_at w two)

kind_alike : (w : Written) (one two : Option Row) → (written_at w one).kind ≡ (written_at w two).kind
kind_alike w one two = written_kind_at w one ∙ sym (written_kind_at w two)

-- what is said of a file by its number, its kind and what it reads
abbrev pub ByReading : Type 0 → Type 0
ByReading X = ℕ → Kind → Result FileRead Location → List X

-- a file's number, its kind and what it reads
pub record Read : Type 0 where
  pub ino : ℕ
  pub kind : Kind
  pub reads : Result FileRead Location

abbrev pub read_of : Core → Met → Read
read_of core m = record { ino = m.ino; kind = m.kind; reads = file_within core m }

module _ (sizes : Sizes) (creds : Creds) (rows rows' : List (Option Row)) (b : Bundle) (lent : List Held) where
  abbrev c : Case
  c = case_with sizes creds rows b lent

  abbrev c' : Case
  c' = case_with sizes creds rows' b lent

  abbrev core : Core
  core = bundle_core (case_with sizes creds rows b lent)

  module _ {X : Type 0} (g : ByReading X) where
    start_alike : (w : Written) → g (written_met c' w).ino (written_met c' w).kind (file_within core (written_met c' w)) ≡ g (written_met c w).ino (written_met c w).kind (file_within core (written_met c w))
    start_alike w = search (arith, number_alike, kind_alike, written_alike)

    starts_alike : (ws : List Written) → flat_map (λ m. g m.ino m.kind (file_within core m)) (map (written_met c') ws) ≡ flat_map (λ m. g m.ino m.kind (file_within core m)) (map (written_met c) ws)
    starts_alike [] = refl
    starts_alike (w ∷ ws) =
        ap (λ l. l ++ flat_map (λ m. g m.ino m.kind (file_within core m)) (map (written_met c') ws)) (start_alike w)
        ∙ ap (λ l. g (written_met c w).ino (written_met c w).kind (file_within core (written_met c w)) ++ l) (starts_alike ws)

  numbers_alike : (ws : List Written) → numbers (map (written_met c') ws) ≡ numbers (map (written_met c) ws)
  numbers_alike [] = refl
  numbers_alike (w ∷ ws) =
      ap (λ n. n ∷ numbers (map (written_met c') ws)) (number_alike w (row_in rows' w.ino) (row_in rows w.ino))
      ∙ ap (λ l. (written_met c w).ino ∷ l) (numbers_alike ws)

  pub share : Share sizes creds creds rows rows' b b lent lent
  share =
      let ws : List Written = sorted_by (λ (w : Written). w.ino) b.writes in
      shared sizes creds creds rows rows' b b lent lent
      (starts_alike (λ n k r. filter (λ (e : Met). is_among e.ino b.numbers) (children_in plain n r)) ws)
      (λ n i. ap (is_among n) (numbers_alike ws))
      (λ m i l. refl)

  -- so what is said of all judged files by their reading is the same
  pub judged_alike : {X : Type 0} (g : ByReading X) → flat_map (λ m. g m.ino m.kind (file_within (bundle_core (case_with sizes creds rows b lent)) m)) (judged_files (case_with sizes creds rows' b lent)) ≡ flat_map (λ m. g m.ino m.kind (file_within (bundle_core (case_with sizes creds rows b lent)) m)) (judged_files (case_with sizes creds rows b lent))
  judged_alike {X} g =
      let G : Met → List X = λ m. g m.ino m.kind (file_within core m) in
      ap (flat_map G) share.new
      ∙ flat_map-append G (written_files c') share.rest
      ∙ ap (λ l. l ++ flat_map G share.rest) (starts_alike g (sorted_by (λ (w : Written). w.ino) b.writes))
      ∙ sym (flat_map-append G (written_files c) share.rest)
      ∙ ap (flat_map G) (sym share.old)

  pub named_alike : (n : ℕ) → naming_of (case_with sizes creds rows' b lent) n ≡ naming_of (case_with sizes creds rows b lent) n
  named_alike n = ap (find (λ (e : Naming). eqb e.listed.entry.ino n)) (judged_alike (λ k kind r. namings_in k r))

  -- a file that is judged is one whatever the rows say
  pub judged_there : (m : Met) → In m (judged_files (case_with sizes creds rows' b lent)) → (x : Met) × In x (judged_files (case_with sizes creds rows b lent)) × (read_of (bundle_core (case_with sizes creds rows b lent)) x ≡ read_of (bundle_core (case_with sizes creds rows b lent)) m)
  judged_there m i =
      let G : ByReading Read = λ n k r. record { ino = n; kind = k; reads = r } ∷ [] in
      let j = subst (λ l. In (read_of core m) l) (judged_alike G) (In-flat (λ x. G x.ino x.kind (file_within core x)) m (read_of core m) (judged_files c') i (inl refl)) in
      let q = flat_map-In (λ x. G x.ino x.kind (file_within core x)) (read_of core m) (judged_files c) j in
      (q.0, q.1, elim q.2 [ inl e ↦ sym e | inr no' ↦ absurd no' ])

  -- so are the pages that they list
  pub pages_alike : judged_pages (case_with sizes creds rows' b lent) ≡ judged_pages (case_with sizes creds rows b lent)
  pages_alike = judged_alike (λ n kind r. pages_in r)

-- ---- one judged file, in two cases that differ in their rows

-- the same file, wherever the rows place it
pub record IsAlike (y z : Met) : Type 0 where
  pub ino : z.ino ≡ y.ino
  pub kind : z.kind ≡ y.kind
  pub reads : (core : Core) → file_within core z ≡ file_within core y

pub judged_also : (sizes : Sizes) (creds : Creds) (one two : List (Option Row)) (b : Bundle) (lent : List Held) (y : Met) → In y (judged_files (case_with sizes creds one b lent)) → (z : Met) × In z (judged_files (case_with sizes creds two b lent)) × IsAlike y z
judged_also sizes creds one two b lent y i =
    let c : Case = case_with sizes creds one b lent in
    let c' : Case = case_with sizes creds two b lent in
    let both = share sizes creds one two b lent in
    elim (In-cases y (written_files c) both.rest (subst (λ l. In y l) both.old i)) [
      | inr later ↦ (y, subst (λ l. In y l) (sym both.new) (In-right y (written_files c') both.rest later), record { ino = refl; kind = refl; reads = λ core. refl })
      | inl start ↦
          let q = start_from c y start in
          let w : Written = q.0 in
          let o : Option Row = row_in one w.ino in
          let p : Option Row = row_in two w.ino in (
            written_met c' w,
            start_judged c' (written_met c' w) (start_to c' w q.1),
            record {
              ino = number_alike w p o ∙ sym (ap (λ (x : Met). x.ino) q.2);
              kind = kind_alike w p o ∙ sym (ap (λ (x : Met). x.kind) q.2);
              reads = λ core. written_alike core w p o ∙ sym (ap (file_within core) q.2);
            },
          )
    ]

-- a judged file that isn't written is one whatever the rows say
pub judged_made : (sizes : Sizes) (creds : Creds) (one two : List (Option Row)) (b : Bundle) (lent : List Held) (x : Met) → In x (judged_files (case_with sizes creds one b lent)) → (In x.ino (map (λ (w : Written). w.ino) b.writes) → ⊥) → In x (judged_files (case_with sizes creds two b lent))
judged_made sizes creds one two b lent x i unwritten =
    let c : Case = case_with sizes creds one b lent in
    let c' : Case = case_with sizes creds two b lent in
    let both = share sizes creds one two b lent in
    elim (In-cases x (written_files c) both.rest (subst (λ l. In x l) both.old i)) [
      | inl start ↦ absurd (unwritten (start_number c x.ino (In-map (λ (m : Met). m.ino) x (written_files c) start)))
      | inr later ↦ subst (λ l. In x l) (sym both.new) (In-right x (written_files c') both.rest later)
    ]
