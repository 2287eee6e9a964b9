-- What is known of a bundle that was given to its library, and of the files that it doesn't write.
use Rattle.trio_laws.proofs.Words.{◌&&◌, ◌<◌, ◌∙◌, ◌≡◌, ◌≤◌, ◌⊎◌, Bool, Bundle, Core, Directory, FileRead, In, In-is_among, IsFit, IsJudgeable, List, Met, MetAt, None, Ok, OpenGrant, Option, Row, Some, State, Written, and_from, ap, arith, both_ways, bundle_sheets, cases_Bool, cond, eq-eqb, eqb, eqb-true, file_of, file_same, find, find-In, fit_proposed, inl, inr, is_among, is_hold, is_parent_written, is_parted, is_some, is_written, kept_body, met_numbered, not, option_map_or, pages_are, plain, proposed, read_met, refl, root_is_met, root_of, row_at, row_at_is, row_by, row_met, row_parent, settled, settled_body, settled_body_met, some_of, subst, survey, sym, true, with_other, with_pages, ℕ}
use Rattle.trio_surveys.proofs.Local.{file_local}
use Rattle.trio_laws.proofs.Bundles.{Unwritten, finds_unwritten, held_unwritten, page_kept, unparted_at, unwritten_apart, unwritten_finds}
use Rattle.trio_laws.proofs.StateFacts.{live_met, tables}
use Rattle.trio_surveys.proofs.Within.{read_pages, root_unread}

module _ (s : State) (lib : ℕ) (b : Bundle) (j : IsJudgeable s lib b) where
  abbrev pub core : Core
  core = proposed (settled s) b

  pub fit : IsFit (proposed (settled s) b)
  fit = fit_proposed (settled s) b j.kept.fit j.given.full

  -- the file of a live number
  pub live : (n : ℕ) (r : Row) → row_at (settled s) n ≡ Some r → MetAt (settled s).core plain n r
  live n r e = live_met s j.kept n r e

  -- the parent that the row of a live number names
  pub parent_at : (n : ℕ) (r : Row) → row_at (settled s) n ≡ Some r → row_parent (settled s).rows n ≡ r.parent
  parent_at n r e = ap (λ o. option_map_or (λ (r : Row). r.parent) o 0) e

  pub row_of_met : (m : Met) (f : FileRead) → In m (survey (settled s).core plain) → file_of (settled s).core m ≡ Ok f → row_at (settled s) m.ino ≡ Some (row_by m f.body)
  row_of_met m f i e =
      row_at_is (settled s).core plain j.kept.fit j.kept.verifies.sound (settled s) (tables s j.kept) m.ino ∙ row_met (settled s).core plain j.kept.fit j.kept.verifies.sound m f i e

  pub live_bounds : (n : ℕ) (r : Row) → row_at (settled s) n ≡ Some r → (0 < n) × (n ≤ (settled s).core.inodes)
  live_bounds n r e =
      let m = live n r e in
      let q = met_numbered (settled s).core plain j.kept.fit j.kept.verifies.sound m.met m.stands in
      let N : ℕ → Type 0 = λ k. (0 < k) × (k ≤ (settled s).core.inodes) in
      subst N m.number (q.0, q.1)

  -- a written file is live and of its row's kind
  pub written_row : (w : Written) → In w b.writes → (r : Row) × (row_at (settled s) w.ino ≡ Some r) × (w.kind ≡ r.kind)
  written_row w i =
      let g = j.given.writes w i in
      let l = j.kept.lent g.grant g.is_open g.kind in
      let e = row_of_met l.met l.file l.stands l.read in
      (row_by l.met l.file.body, ap (row_at (settled s)) (sym g.ino ∙ sym l.number) ∙ e, sym g.of ∙ sym l.of)

  pub new_dead : (n : ℕ) → In n b.numbers → row_at (settled s) n ≡ None
  new_dead n i = j.kept.numbers_free n (ap is_some (j.given.numbers n i))

  pub new_not_live : (n : ℕ) (r : Row) → In n b.numbers → row_at (settled s) n ≡ Some r → ⊥
  new_not_live n r i e = (let wrong : None ≡ Some r = sym (new_dead n i) ∙ e in absurd cc)

  pub held_apart : (n : ℕ) → In n b.holds → Unwritten b n
  held_apart n i = held_unwritten s j.kept lib b j.given n i

  pub written_find : (n : ℕ) → is_written b n ≡ true → (w : Written) × In w b.writes × (w.ino ≡ n) × (find (λ (w : Written). eqb w.ino n) b.writes ≡ Some w)
  written_find n e =
      let w = some_of (find (λ (w : Written). eqb w.ino n) b.writes) e in
      let q = find-In (λ (w : Written). eqb w.ino n) b.writes w.0 w.1 in
      (w.0, q.0, eqb-true w.0.ino n q.1, w.1)

  pub is_written_from : (w : Written) → In w b.writes → is_written b w.ino ≡ true
  is_written_from w i =
      elim (cases_Bool (is_written b w.ino)) [
        | inl t ↦ t
        | inr f ↦ absurd (finds_unwritten b w.ino f w i refl)
      ]

  -- the parent of a held file is written
  pub held_parent : (n : ℕ) (r : Row) → In n b.holds → row_at (settled s) n ≡ Some r → is_written b r.parent ≡ true
  held_parent n r i e =
      let h = j.given.holds n i in
      let g : OpenGrant = h.grant in
      let row : row_at s.home g.ino ≡ Some r = ap (row_at s.home) h.ino ∙ e in
      let among : is_among g.ino b.holds ≡ true = ap (λ k. is_among k b.holds) h.ino ∙ In-is_among n b.holds i in
      let own : (eqb g.lib lib && is_hold g.kind) ≡ true = and_from (eqb g.lib lib) (is_hold g.kind) (eq-eqb g.lib lib h.lib) (ap is_hold h.kind) in
      let w : Bool = is_parent_written b (row_at s.home g.ino) in
      elim (cases_Bool w) [
        | inl t ↦ ap (is_parent_written b) (sym row) ∙ t
        | inr f ↦
            let parted : is_parted s lib b g ≡ true =
            and_from (eqb g.lib lib && is_hold g.kind) (cond (is_among g.ino b.holds) (not w) w) own (ap (λ t. cond t (not w) w) among ∙ ap not f) in
            absurd (both_ways (is_parted s lib b g) (unparted_at s lib b g j.closed h.is_open) parted)
      ]

  pub held_row : (n : ℕ) → In n b.holds → (r : Row) × (row_at (settled s) n ≡ Some r)
  held_row n i =
      let h = j.given.holds n i in
      let r = some_of (row_at s.home h.grant.ino) (j.kept.live h.grant h.is_open) in
      (r.0, ap (row_at s.home) (sym h.ino) ∙ r.1)

  pub no_row_zero : (r : Row) → row_at (settled s) 0 ≡ Some r → ⊥
  no_row_zero r e = (let q = live_bounds 0 r e in let l : 0 < 0 = q.0 in omega (arith, l))

  pub no_written_zero : is_written b 0 ≡ true → ⊥
  no_written_zero e = search (arith, written_find, written_row, no_row_zero)

  -- the root's row
  pub root_row : (r : Row) × (row_at (settled s) 1 ≡ Some r) × (r.kind ≡ Directory) × (r.parent ≡ 0) × (r.page ≡ 0) × (r.slot ≡ 0)
  root_row =
      let m : Met = root_of (settled s).core in
      let i = root_is_met (settled s).core plain j.kept.fit j.kept.verifies.sound in
      let f = read_met (settled s).core plain j.kept.fit j.kept.verifies.sound m i in
      (row_by m f.0.body, row_of_met m f.0 i f.1, refl, refl, refl, refl)

  pub root_unheld : In 1 b.holds → ⊥
  root_unheld i = search (arith, root_row, no_written_zero, held_parent)

  -- the body that is kept of a file that isn't written is the settled one
  pub kept_settled : (n : ℕ) → Unwritten b n → kept_body (settled s) b n ≡ settled_body (settled s) n
  kept_settled n un = ap (λ o. option_map_or (λ (w : Written). w.body) o (settled_body (settled s) n)) (unwritten_finds b n un)

  pub unwritten_cases : (n : ℕ) → (is_written b n ≡ true) ⊎ Unwritten b n
  unwritten_cases n =
      elim (cases_Bool (is_written b n)) [
        | inl t ↦ inl t
        | inr f ↦ inr (finds_unwritten b n f)
      ]

  -- a file with the kind and the settled body of a live file that isn't written is read as that file is in the settled image
  pub outside : (m : Met) (r : Row) (q : MetAt (settled s).core plain m.ino r) → m.kind ≡ r.kind → m.body ≡ settled_body (settled s) m.ino → Unwritten b m.ino → file_of (proposed (settled s) b) m ≡ Ok q.file
  outside m r q kind body un =
      let m0 : Met = q.met in
      let un0 : Unwritten b m0.ino = subst (λ n. Unwritten b n) (sym q.number) un in
      let k0 : m.kind ≡ m0.kind = kind ∙ ap (λ (x : Row). x.kind) q.row in
      let b0 : m.body ≡ m0.body =
      body ∙ ap (settled_body (settled s)) (sym q.number) ∙ settled_body_met (settled s) m0 j.kept.fit j.kept.verifies.sound (tables s j.kept) q.stands in
      let pages : List (Option (List ℕ)) = with_pages (bundle_sheets b) (settled s).core.pages in
      let there : file_of (with_other (settled s).core pages) m0 ≡ Ok q.file =
      file_local (settled s).core pages m0 q.file q.read
      (λ p i. page_kept s j.kept lib b j.given p
      (λ k. unwritten_apart s j.kept lib b j.given m0 p q.stands un0
      (subst (λ l. In p l) (sym (pages_are (settled s).core m0 q.file q.read)) (read_pages m0 q.file p i)) k)) in
      file_same (proposed (settled s) b) m m0 k0 b0
      ∙ root_unread pages (kept_body (settled s) b 1) (settled s).core.root (settled s).core.range (settled s).core.inodes m0
      ∙ there
