-- After an accepted bundle: the names and places of what its directories list, and of what none lists.
use Rattle.trio_laws.proofs.Words.{◌∙◌, ◌≡◌, Bundle, Case, Core, FileRead, Image, In, In-find, In-flat, In-map, IsFit, IsJudgeable, Listed, Met, Naming, None, Ok, Ok-one, Pick, Row, Some, State, Written, ap, bundle_core, case_of, child_from, child_has, child_met, creds_of, eq-eqb, eqb, file_of, file_put, file_within, inl, inr, is_accepted, is_sound, judged_files, map, map-In, met_cases, met_in, name_of, naming_of, namings, namings_in, next, no_root_listed, picked_entry, proposed, proposed_pick, read_met, refl, row_at, row_at_is, row_by, row_met, settled, subst, survey, sym, true, ℕ}
use Rattle.trio_laws.proofs.Survivors.{unheld_row}
use Rattle.trio_laws.proofs.Bundles.{Unwritten}
use Rattle.trio_laws.proofs.history.Follows.{name_at_entry}
use Rattle.trio_laws.proofs.history.ModeNodes.{name_root}
use Rattle.trio_laws.proofs.judgement.CaseFacts.{root_row, root_unheld}
use Rattle.trio_laws.proofs.judgement.MeetingEdges.{met_side}
use Rattle.trio_laws.proofs.judgement.Sides.{outside_met, outside_read, outside_child}
use Rattle.trio_laws.proofs.judgement.Taking.{fit, sound, judged_met, reads}
use Rattle.trio_laws.proofs.session.Accepting.{closed_hold}
use Rattle.trio_laws.proofs.session.Namings.{naming_is}

module _ (s : State) (lib : ℕ) (b : Bundle) (j : IsJudgeable s lib b) (acc : is_accepted (settled s) (creds_of s lib) b ≡ true) where
  abbrev c : Case
  c = case_of (settled s) (creds_of s lib) b

  abbrev core : Core
  core = proposed (settled s) b

  abbrev pick : Pick
  pick = proposed_pick (settled s) b

  abbrev after : Image
  after = next (settled s) b

  abbrev Fit : IsFit (proposed (settled s) b)
  Fit = fit s lib b j acc

  abbrev Sound : is_sound core pick ≡ true
  Sound = sound s lib b j acc

  -- the row of a file that is met
  pub row_then : (m : Met) → In m (survey core pick) → (f : FileRead) × (file_of core m ≡ Ok f) × (row_at (next (settled s) b) m.ino ≡ Some (row_by m f.body))
  row_then m i =
      let f = read_met core pick Fit Sound m i in
      (f.0, f.1, row_at_is core pick Fit Sound after (record { rows = refl; owners = refl }) m.ino ∙ row_met core pick Fit Sound m f.0 i f.1)

  -- the name of an entry of a file that is met, once the bodies are in place
  name_then : (p : Met) (f : FileRead) (l : Listed) (n : ℕ) (r : Row) → In p (survey core pick) → file_of core p ≡ Ok f → In l f.entries
      → (n ≡ 1 → ⊥) → r.page ≡ l.page → r.slot ≡ l.slot → name_of (next (settled s) b) n r ≡ l.entry.name
  name_then p f l n r i e k other page slot =
      name_at_entry after p (record { body = f.body; chain = f.chain; entries = map (picked_entry pick p.ino) f.entries }) (picked_entry pick p.ino l) n r
      (file_put core pick Fit Sound p f i e) (In-map (picked_entry pick p.ino) l f.entries k) other page slot

  -- ---- a number that a directory of the bundle lists

  -- the file that it is then
  pub record NamedThen (n : ℕ) (e : Naming) : Type 0 where
    pub met : Met
    pub stands : In met (survey (proposed (settled s) b) (proposed_pick (settled s) b))
    pub number : met.ino ≡ n
    pub file : FileRead
    pub read : file_of (proposed (settled s) b) met ≡ Ok file
    pub row : row_at (next (settled s) b) n ≡ Some (row_by met file.body)
    pub parent : met.parent ≡ e.directory
    pub kind : met.kind ≡ e.listed.entry.kind
    pub body : met.body ≡ proposed_pick (settled s) b e.directory e.listed.page e.listed.slot n e.listed.body
    pub name : name_of (next (settled s) b) n (row_by met file.body) ≡ e.listed.entry.name
    pub below : n ≡ 1 → ⊥

  pub named_then : (n : ℕ) (e : Naming) → naming_of c n ≡ Some e → NamedThen n e
  named_then n e h =
      let i = naming_is c n e h in
      let x : Met = i.judged_by in
      let r = reads s lib b j acc x i.among in
      let same : i.file ≡ r.file = Ok-one (file_within (bundle_core c) x) i.file r.file i.read r.within in
      let listed : In e.listed r.file.entries = subst (λ (f : FileRead). In e.listed f.entries) same i.entry in
      let met : In x (survey core pick) = judged_met s lib b j acc x i.among in
      let m : Met = met_in pick x.ino e.listed in
      let kid = child_has core pick x r.file e.listed r.whole listed in
      let stands : In m (survey core pick) = child_met core pick Fit.numbers Sound x m met kid in
      let below : n ≡ 1 → ⊥ = λ one. no_root_listed core pick Fit.numbers Sound x m met kid (i.number ∙ one) in
      let t = row_then m stands in
      record {
        met = m;
        stands = stands;
        number = i.number;
        file = t.0;
        read = t.1;
        row = ap (row_at after) (sym i.number) ∙ t.2;
        parent = sym i.directory;
        kind = refl;
        body = ap (λ q. pick x.ino e.listed.page e.listed.slot q e.listed.body) i.number ∙ ap (λ q. pick q e.listed.page e.listed.slot n e.listed.body) (sym i.directory);
        name = name_then x r.file e.listed n (row_by m t.0.body) met r.whole listed below refl refl;
        below = below;
      }

  -- an entry of a judged directory is named
  named_by : (x : Met) (l : Listed) → (i : In x (judged_files c)) → In l (reads s lib b j acc x i).file.entries → (e : Naming) × (naming_of c l.entry.ino ≡ Some e)
  named_by x l i k =
      let r = reads s lib b j acc x i in
      let g : Naming = record { directory = x.ino; listed = l } in
      let here : In g (namings_in x.ino (file_within (bundle_core c) x)) =
      subst (λ o. In g (namings_in x.ino o)) (sym r.within) (In-map (λ (y : Listed). record { directory = x.ino; listed = y }) l r.file.entries k) in
      let among : In g (namings c) = In-flat (λ (m : Met). namings_in m.ino (file_within (bundle_core c) m)) x g (judged_files c) i here in
      In-find (λ (e : Naming). eqb e.listed.entry.ino l.entry.ino) (namings c) g among (eq-eqb l.entry.ino l.entry.ino refl)

  -- ---- a file that none lists

  -- a file that is met and that no directory of the bundle lists was there, and is not held
  pub record UnnamedThen (m : Met) : Type 0 where
    pub row : Row
    pub is_row : row_at (settled s) m.ino ≡ Some row
    pub unheld : In m.ino b.holds → ⊥
    pub name : (r : Row) → row_at (next (settled s) b) m.ino ≡ Some r → r ≡ row → name_of (next (settled s) b) m.ino r ≡ name_of (settled s) m.ino row

  pub unnamed_then : (m : Met) → In m (survey core pick) → naming_of c m.ino ≡ None → UnnamedThen m
  unnamed_then m i h =
      elim (met_cases core pick Fit.numbers Sound m i) [
        | inl root ↦
            let one : m.ino ≡ 1 = ap (λ (x : Met). x.ino) root in
            let r = root_row s lib b j in
            record {
              row = r.0;
              is_row = ap (row_at (settled s)) one ∙ r.1;
              unheld = λ k. root_unheld s lib b j (subst (λ n. In n b.holds) one k);
              name = λ q e same. name_root after m.ino q one ∙ sym (name_root (settled s) m.ino r.0 one);
            }
        | inr p ↦
            elim (met_side s lib b j acc p.0 p.1) [
              | inl k ↦
                  let ch = child_from core pick p.0 m p.2 in
                  let own = reads s lib b j acc p.0 k in
                  let same : ch.file ≡ own.file = Ok-one (file_of core p.0) ch.file own.file ch.read own.whole in
                  let g = named_by p.0 ch.entry k (subst (λ (f : FileRead). In ch.entry f.entries) same ch.listed) in
                  let number : ch.entry.entry.ino ≡ m.ino = sym (ap (λ (x : Met). x.ino) ch.is) in
                  let wrong : None ≡ Some g.0 = sym h ∙ ap (naming_of c) (sym number) ∙ g.1 in absurd (cc wrong)
              | inr o ↦
                  let ch = child_from core pick p.0 m p.2 in
                  let q = outside_met s lib b j (reads s lib b j acc) p.0 o in
                  let x = outside_child s lib b j (reads s lib b j acc) p.0 o m p.2 in
                  let same : ch.file ≡ q.file = Ok-one (file_of core p.0) ch.file q.file ch.read (outside_read s lib b j (reads s lib b j acc) p.0 o) in
                  let page : x.row.page ≡ ch.entry.page = sym x.page ∙ ap (λ (z : Met). z.page) ch.is in
                  let slot : x.row.slot ≡ ch.entry.slot = sym x.slot ∙ ap (λ (z : Met). z.slot) ch.is in
                  let below : m.ino ≡ 1 → ⊥ = no_root_listed core pick Fit.numbers Sound p.0 m p.1 p.2 in
                  record {
                    row = x.row;
                    is_row = x.is_row;
                    unheld = λ k. written_apart p.0 o.unwritten (subst (λ n. In n (map (λ (w : Written). w.ino) b.writes)) x.directory (closed_hold s lib b j m.ino x.row k x.is_row));
                    name = λ r e is.
                        name_then p.0 ch.file ch.entry m.ino r p.1 ch.read ch.listed below (ap (λ (z : Row). z.page) is ∙ page) (ap (λ (z : Row). z.slot) is ∙ slot)
                        ∙ sym (name_at_entry (settled s) q.met q.file ch.entry m.ino x.row q.read (subst (λ (f : FileRead). In ch.entry f.entries) same ch.listed) below page slot);
                  }
            ]
      ]
    where
      written_apart : (p : Met) → Unwritten b p.ino → In p.ino (map (λ (w : Written). w.ino) b.writes) → ⊥
      written_apart p un i = (let w = map-In (λ (w : Written). w.ino) p.ino b.writes i in un w.0 w.1 (sym w.2))

  -- a live file that is neither listed nor held keeps its row
  pub left_row : (n : ℕ) (r : Row) → row_at (settled s) n ≡ Some r → (In n b.holds → ⊥) → row_at (next (settled s) b) n ≡ Some r
  left_row n r row unheld =
      row_at_is core pick Fit Sound after (record { rows = refl; owners = refl }) n ∙ unheld_row s j.kept lib (creds_of s lib) b j.given acc n r row unheld
