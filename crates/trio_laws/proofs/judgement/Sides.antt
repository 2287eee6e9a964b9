-- The files of the proposed core, on either side of the bundle: those that read as a judged file does, and those that read as in
-- the settled image.
use Rattle.trio_laws.proofs.Words.{◌∙◌, ◌≡◌, ◌⊎◌, Bundle, Case, Core, FileRead, In, IsJudgeable, Listed, Met, MetAt, Ok, Pick, Row, Some, State, Written, ap, arith, bundle_pages, case_of, child_from, child_has, child_met, children, cond, creds_of, entries_in, file_of, file_same, inl, inr, is_place_of, judged_files, kept_body, met_in, numbers, option_map_or, pages_in, pages_of, pages_within, place_from, plain, proposed, proposed_pick, read_met, refl, row_at, row_by, settled, settled_body, some_one, subst, survey, sym, true, written_met, ℕ}
use Rattle.trio_laws.proofs.Bundles.{Unwritten, unwritten_apart}
use Rattle.trio_laws.proofs.judgement.CaseFacts.{live, row_of_met, written_row, written_find, unwritten_cases, kept_settled, outside}
use Rattle.trio_laws.proofs.judgement.JudgedFacts.{ReadOwn, written_ino, written_kind, written_body, written_judged, entries_are}
use Rattle.trio_surveys.proofs.OwnFiles.{numbers_met}

module _ (s : State) (lib : ℕ) (b : Bundle) (j : IsJudgeable s lib b) (reads : (m : Met) → In m (judged_files (case_of (settled s) (creds_of s lib) b)) → ReadOwn (case_of (settled s) (creds_of s lib) b) (proposed (settled s) b) m) where
  abbrev c : Case
  c = case_of (settled s) (creds_of s lib) b

  abbrev core : Core
  core = proposed (settled s) b

  abbrev pick : Pick
  pick = proposed_pick (settled s) b

  abbrev C : Core
  C = (settled s).core

  -- it has the number, kind and body of a judged file
  pub record Inside (m : Met) : Type 0 where
    pub file : Met
    pub judged_one : In file (judged_files (case_of (settled s) (creds_of s lib) b))
    pub ino : m.ino ≡ file.ino
    pub kind : m.kind ≡ file.kind
    pub body : m.body ≡ file.body

  -- it has the kind and the settled body of a live file that isn't written
  pub record Outside (m : Met) : Type 0 where
    pub row : Row
    pub is_row : row_at (settled s) m.ino ≡ Some row
    pub kind : m.kind ≡ row.kind
    pub body : m.body ≡ settled_body (settled s) m.ino
    pub unwritten : Unwritten b m.ino

  -- a live file with the body that is kept is on one of the sides
  pub live_sides : (m : Met) (r : Row) → row_at (settled s) m.ino ≡ Some r → m.kind ≡ r.kind → m.body ≡ kept_body (settled s) b m.ino → Inside m ⊎ Outside m
  live_sides m r row kind body =
      elim (unwritten_cases s lib b j m.ino) [
        | inr un ↦ inr (record { row = r; is_row = row; kind = kind; body = body ∙ kept_settled s lib b j m.ino un; unwritten = un })
        | inl t ↦
            let w = written_find s lib b j m.ino t in
            let q = written_row s lib b j w.0 w.1 in
            let same : q.0 ≡ r = some_one (row_at (settled s) m.ino) q.0 r (ap (row_at (settled s)) (sym w.2) ∙ q.1) row in
            inl (record {
              file = written_met c w.0;
              judged_one = written_judged s lib b j w.0 w.1;
              ino = sym w.2 ∙ sym (written_ino c w.0);
              kind = kind ∙ ap (λ (x : Row). x.kind) (sym same) ∙ sym q.2 ∙ sym (written_kind c w.0);
              body = body ∙ ap (λ o. option_map_or (λ (w : Written). w.body) o (settled_body (settled s) m.ino)) w.3 ∙ sym (written_body c w.0);
            })
      ]

  -- ---- inside

  pub inside_read : (m : Met) (k : Inside m) → file_of (proposed (settled s) b) m ≡ Ok (reads k.file k.judged_one).file
  inside_read m k = file_same core m k.file k.kind k.body ∙ (reads k.file k.judged_one).whole

  pub inside_pages : (m : Met) (k : Inside m) → pages_of (proposed (settled s) b) m ≡ pages_within (case_of (settled s) (creds_of s lib) b) k.file
  inside_pages m k = ap pages_in (inside_read m k) ∙ sym (ap pages_in (reads k.file k.judged_one).within)

  pub inside_own : (m : Met) (k : Inside m) (p : ℕ) → In p (pages_of (proposed (settled s) b) m) → In p (bundle_pages b)
  inside_own m k p i = (reads k.file k.judged_one).own p (subst (λ l. In p l) (ap pages_in (inside_read m k)) i)

  pub inside_numbers : (m : Met) (k : Inside m) → numbers (children (proposed (settled s) b) (proposed_pick (settled s) b) m) ≡ numbers (entries_in (case_of (settled s) (creds_of s lib) b) k.file)
  inside_numbers m k =
      let r = reads k.file k.judged_one in
      search (arith, inside_read, numbers_met)

  -- a child inside, with the entry that it comes from
  pub record InsideChild (m : Met) (k : Inside m) (x : Met) : Type 0 where
    pub entry : Met
    pub among : In entry (entries_in (case_of (settled s) (creds_of s lib) b) k.file)
    pub directory : entry.parent ≡ k.file.ino
    pub ino : x.ino ≡ entry.ino
    pub kind : x.kind ≡ entry.kind
    pub parent : x.parent ≡ entry.parent
    pub page : x.page ≡ entry.page
    pub slot : x.slot ≡ entry.slot
    pub body : x.body ≡ proposed_pick (settled s) b entry.parent entry.page entry.slot entry.ino entry.body

  pub inside_child : (m : Met) (k : Inside m) (x : Met) → In x (children (proposed (settled s) b) (proposed_pick (settled s) b) m) → InsideChild m k x
  inside_child m k x i =
      let q = child_from core pick m x i in
      let l : Listed = q.entry in
      let r = reads k.file k.judged_one in
      let there : file_of core k.file ≡ Ok q.file = sym (file_same core m k.file k.kind k.body) ∙ q.read in
      let among : In (met_in plain k.file.ino l) (children core plain k.file) = child_has core plain k.file q.file l there q.listed in
      record {
        entry = met_in plain k.file.ino l;
        among = subst (λ es. In (met_in plain k.file.ino l) es) (sym (entries_are s lib b j k.file r)) among;
        directory = refl;
        ino = ap (λ (y : Met). y.ino) q.is;
        kind = ap (λ (y : Met). y.kind) q.is;
        parent = ap (λ (y : Met). y.parent) q.is ∙ k.ino;
        page = ap (λ (y : Met). y.page) q.is;
        slot = ap (λ (y : Met). y.slot) q.is;
        body = ap (λ (y : Met). y.body) q.is ∙ ap (λ d. pick d l.page l.slot l.entry.ino l.body) k.ino;
      }

  -- each entry of the judged file is a child
  pub inside_has : (m : Met) (k : Inside m) (e : Met) → In e (entries_in (case_of (settled s) (creds_of s lib) b) k.file) → (x : Met) × In x (children (proposed (settled s) b) (proposed_pick (settled s) b) m) × (x.ino ≡ e.ino) × (x.page ≡ e.page) × (x.slot ≡ e.slot) × (x.kind ≡ e.kind) × (x.parent ≡ e.parent) × (x.body ≡ proposed_pick (settled s) b e.parent e.page e.slot e.ino e.body)
  inside_has m k e i =
      let r = reads k.file k.judged_one in
      let q = child_from core plain k.file e (subst (λ es. In e es) (entries_are s lib b j k.file r) i) in
      let l : Listed = q.entry in
      let there : file_of core m ≡ Ok q.file = file_same core m k.file k.kind k.body ∙ q.read in (
        met_in pick m.ino l,
        child_has core pick m q.file l there q.listed,
        sym (ap (λ (y : Met). y.ino) q.is),
        sym (ap (λ (y : Met). y.page) q.is),
        sym (ap (λ (y : Met). y.slot) q.is),
        sym (ap (λ (y : Met). y.kind) q.is),
        k.ino ∙ sym (ap (λ (y : Met). y.parent) q.is),
        ap (λ d. pick d l.page l.slot l.entry.ino l.body) k.ino ∙ sym (ap (λ (y : Met). pick y.parent y.page y.slot y.ino y.body) q.is),
      )

  -- ---- outside

  pub outside_met : (m : Met) (o : Outside m) → MetAt (settled s).core plain m.ino o.row
  outside_met m o = live s lib b j m.ino o.row o.is_row

  pub outside_read : (m : Met) (o : Outside m) → file_of (proposed (settled s) b) m ≡ Ok (outside_met m o).file
  outside_read m o = outside s lib b j m o.row (outside_met m o) o.kind o.body o.unwritten

  pub outside_pages : (m : Met) (o : Outside m) → pages_of (proposed (settled s) b) m ≡ pages_of (settled s).core (outside_met m o).met
  outside_pages m o = ap pages_in (outside_read m o) ∙ sym (ap pages_in (outside_met m o).read)

  pub outside_apart : (m : Met) (o : Outside m) (p : ℕ) → In p (pages_of (proposed (settled s) b) m) → In p (bundle_pages b) → ⊥
  outside_apart m o p i k =
      let q = outside_met m o in
      unwritten_apart s j.kept lib b j.given q.met p q.stands (subst (λ n. Unwritten b n) (sym q.number) o.unwritten) (subst (λ l. In p l) (outside_pages m o) i) k

  pub outside_numbers : (m : Met) (o : Outside m) → numbers (children (proposed (settled s) b) (proposed_pick (settled s) b) m) ≡ numbers (children (settled s).core plain (outside_met m o).met)
  outside_numbers m o = search (arith, outside_met, outside_read, numbers_met)

  -- a child outside is a live file, where its row says, with the body that is kept
  pub record OutsideChild (m x : Met) : Type 0 where
    pub row : Row
    pub is_row : row_at (settled s) x.ino ≡ Some row
    pub kind : x.kind ≡ row.kind
    pub directory : row.parent ≡ m.ino
    pub parent : x.parent ≡ row.parent
    pub page : x.page ≡ row.page
    pub slot : x.slot ≡ row.slot
    pub body : x.body ≡ kept_body (settled s) b x.ino

  outside_entry : (m : Met) (o : Outside m) (l : Listed) → In l (outside_met m o).file.entries → OutsideChild m (met_in pick m.ino l)
  outside_entry m o l i =
      let q = outside_met m o in
      let x0 : Met = met_in plain q.met.ino l in
      let kid : In x0 (children C plain q.met) = child_has C plain q.met q.file l q.read i in
      let met : In x0 (survey C plain) = child_met C plain j.kept.fit.numbers j.kept.verifies.sound q.met x0 q.stands kid in
      let f = read_met C plain j.kept.fit j.kept.verifies.sound x0 met in
      let r : Row = row_by x0 f.0.body in
      let row : row_at (settled s) l.entry.ino ≡ Some r = row_of_met s lib b j x0 f.0 met f.1 in
      let at : is_place_of m.ino l.page l.slot (row_at (settled s) l.entry.ino) ≡ true = place_from m.ino l.page l.slot (row_at (settled s) l.entry.ino) r row q.number refl refl in
      record {
        row = r;
        is_row = row;
        kind = refl;
        directory = q.number;
        parent = sym q.number;
        page = refl;
        slot = refl;
        body = ap (λ t. cond t (kept_body (settled s) b l.entry.ino) l.body) at;
      }

  pub outside_child : (m : Met) (o : Outside m) (x : Met) → In x (children (proposed (settled s) b) (proposed_pick (settled s) b) m) → OutsideChild m x
  outside_child m o x i =
      let q = child_from core pick m x i in
      let same : q.file ≡ (outside_met m o).file = (let t : Ok q.file ≡ Ok (outside_met m o).file = sym q.read ∙ outside_read m o in cc t) in
      let P : Met → Type 0 = λ y. OutsideChild m y in
      subst P (sym q.is) (outside_entry m o q.entry (subst (λ (f : FileRead). In q.entry f.entries) same q.listed))

  -- each recorded child of a file outside is a child there
  pub outside_has : (m : Met) (o : Outside m) (x0 : Met) → In x0 (children (settled s).core plain (outside_met m o).met) → (x : Met) × In x (children (proposed (settled s) b) (proposed_pick (settled s) b) m) × (x.ino ≡ x0.ino)
  outside_has m o x0 i =
      let q = outside_met m o in
      let k = child_from C plain q.met x0 i in
      let same : k.file ≡ q.file = (let t : Ok k.file ≡ Ok q.file = sym k.read ∙ q.read in cc t) in
      let l : Listed = k.entry in
      (met_in pick m.ino l, child_has core pick m q.file l (outside_read m o) (subst (λ (f : FileRead). In l f.entries) same k.listed), sym (ap (λ (y : Met). y.ino) k.is))
