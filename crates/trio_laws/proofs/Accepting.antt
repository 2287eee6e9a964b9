-- The end of an accepted bundle keeps what holds of a state.
use Rattle.trio_laws.proofs.Words.{Bundle, Chain, Core, Creds, Ends, FileRead, GivenTo, HasLentBlocks, Hold, HoldStands, Image, In, In-flat, In-left, In-map, In-right, IsFit, Kept, LentIsListed, List, Met, None, Ok-one, OpenGrant, Option, Pick, Row, Sheet, Some, State, Verifies, Write, Written, accepted_verifies, all_listed, ap, arith, bodies_are, bundle_pages, bundle_sheets, cases_Bool, false, file_of, file_put, fit_put, flat_map, guard_in, has_parent_grant, inl, inr, is_accepted, is_core, is_directory, is_in_bundle, is_out, is_some, is_sound, listed_no_root, map, map-In, next, one_met, option_map, page_of, picked_entry, plain, proposed, proposed_pick, put_on, refl, row_at, row_at_is, row_by, row_met, row_of, settled, settled_body, settled_body_met, sheet_numbers, slice_get, slice_index, some_of, subst, survey, survey_put, sym, true, with_bodies-get, with_pages_absent, ℕ, ◌++◌, ◌+◌, ◌∙◌, ◌≡◌, ◌⊎◌}
use Rattle.trio_surveys.specs.Reading.{with_picked_bodies}
use Rattle.trio_laws.proofs.Bundles.{Closed, outside_unheld, outside_unwritten, kept_chain, written_same, in_numbers}
use Rattle.trio_laws.proofs.Ended.{bundle_write, grant_before, apart_then, checkpoints_then, parent_then, outs_then, numbers_then, pages_placed_then, numbers_placed_then, absent_then}
use Rattle.trio_surveys.proofs.Images.{unlisted_free, free_is_low}
use Rattle.trio_laws.proofs.StateFacts.{lent_by, tables}
use Rattle.trio_laws.proofs.Survivors.{Stays, fit_now, sound_now, stays, out_unlisted, number_free}
use Rattle.trio_laws.proofs.Isolated.{plain_block, untouched}

-- a page that is absent with some bytes changed was absent
pub absent_map : (f : List ℕ → List ℕ) (o : Option (Option (List ℕ))) → option_map (option_map f) o ≡ Some None → o ≡ Some None
absent_map f o e = search arith

-- the pages of a written file are pages of the bundle
pub handed_in : (b : Bundle) (w : Written) (p : ℕ) → In w b.writes → In p (sheet_numbers (w.index ++ w.blocks)) → In p (bundle_pages b)
handed_in b w p i a =
    let r = map-In (λ (x : Sheet). x.page) p (w.index ++ w.blocks) a in
    let j : In r.0 (bundle_sheets b) = In-left r.0 (flat_map (λ (w : Written). w.index ++ w.blocks) b.writes) b.pages (In-flat (λ (w : Written). w.index ++ w.blocks) w r.0 b.writes i r.1) in
    subst (λ n. In n (bundle_pages b)) (sym r.2) (In-map (λ (x : Sheet). x.page) r.0 (bundle_sheets b) j)

pub allotted_in : (b : Bundle) (p : ℕ) → In p (sheet_numbers b.pages) → In p (bundle_pages b)
allotted_in b p a = search (arith, map-In, In-right, In-map)

-- a page that a write grant of the bundle lent is one of the bundle's
pub handed_back : (s : State) (k : Kept s) (lib : ℕ) (b : Bundle) (given : GivenTo s lib b) (g : OpenGrant) (p : ℕ) → In g s.open_grants → g.kind ≡ Write → is_in_bundle lib b g ≡ true → In p (sheet_numbers (g.index ++ g.blocks)) → In p (bundle_pages b)
handed_back s k lib b given g p i kind own a =
    let x = bundle_write s k lib b given g i kind own in
    let same : sheet_numbers (g.index ++ g.blocks) ≡ sheet_numbers (x.0.index ++ x.0.blocks) =
    ap (λ (z : OpenGrant). sheet_numbers (z.index ++ z.blocks)) (sym x.2) ∙ sym (written_same s k lib b given x.0 x.1) in
    handed_in b x.0 p x.1 (subst (λ l. In p l) same a)

module _ (s s' : State) (k : Kept s) (lib : ℕ) (creds : Creds) (b : Bundle) (given : GivenTo s lib b) (closed : Closed s lib b) (accepted : is_accepted (settled s) creds b ≡ true) (e : Ends s lib b (next (settled s) b) s') where
  abbrev core : Core
  core = proposed (settled s) b

  abbrev pick : Pick
  pick = proposed_pick (settled s) b

  abbrev after : Image
  after = next (settled s) b

  fit : IsFit core
  fit = fit_now s k lib creds b given accepted

  sound : is_sound core pick ≡ true
  sound = sound_now s k lib creds b given accepted

  verifies' : Verifies after
  verifies' = accepted_verifies (settled s) creds b fit accepted

  fit' : IsFit (with_picked_bodies core pick)
  fit' = fit_put core pick fit sound

  rows_after : (n : ℕ) → row_at after n ≡ row_of core (survey core pick) n
  rows_after n = row_at_is core pick fit sound after (record { rows = refl; owners = refl }) n

  pub rows_home : (n : ℕ) → row_at s'.home n ≡ row_of core (survey core pick) n
  rows_home n = ap (λ (i : Image). row_at i n) e.settles ∙ rows_after n

  body_after : (m : Met) → In m (survey core pick) → settled_body after m.ino ≡ m.body
  body_after m i =
      settled_body_met after m fit' verifies'.sound (record { rows = verifies'.rows; owners = verifies'.owners })
      (subst (λ l. In m l) (sym (survey_put core pick fit sound)) i)

  -- the file of a grant that stays
  pub stays_then : (h : OpenGrant) (i : In h s.open_grants) → is_in_bundle lib b h ≡ false → (r : Row) → row_at s.home h.ino ≡ Some r → Stays (settled s) core pick h.ino r
  stays_then h i out r row =
      stays s k lib creds b given accepted h.ino r row (outside_unheld s k lib b given h i out) (outside_unwritten s k lib b given h i out)

  pub row_then : (n : ℕ) (r : Row) (st : Stays (settled s) core pick n r) → row_at s'.home n ≡ Some (row_by st.met st.file.body)
  row_then n r st =
      ap (row_at s'.home) (sym st.number) ∙ rows_home st.met.ino ∙ row_met core pick fit sound st.met st.file st.stands st.read

  live_then : (g : OpenGrant) → In g s'.open_grants → is_some (row_at s'.home g.ino) ≡ true
  live_then g i =
      let h = grant_before s s' k lib b given after e g i in
      let r = some_of (row_at s.home h.0.ino) (k.live h.0 h.1) in
      let st = stays_then h.0 h.1 h.2 r.0 r.1 in
      ap (λ (x : OpenGrant). is_some (row_at s'.home x.ino)) h.3 ∙ ap is_some (row_then h.0.ino r.0 st)

  -- the body that a grant lent which stays is settled still
  body_then : (g : OpenGrant) → In g s'.open_grants → g.body ≡ settled_body (settled s') g.ino
  body_then g i =
      let x = grant_before s s' k lib b given after e g i in
      let h : OpenGrant = x.0 in
      let r = some_of (row_at s.home h.ino) (k.live h x.1) in
      let st = stays_then h x.1 x.2 r.0 r.1 in
      ap (λ (y : OpenGrant). y.body) x.3
      ∙ k.bodies h x.1
      ∙ sym st.body
      ∙ sym (body_after st.met st.stands)
      ∙ ap (settled_body after) st.number
      ∙ ap (λ (y : OpenGrant). settled_body after y.ino) (sym x.3)
      ∙ ap (λ (i : Image). settled_body i g.ino) (sym e.settles)

  held_then : (g : OpenGrant) → In g s'.open_grants → g.kind ≡ Hold → HoldStands s' g
  held_then g i kind =
      let x = grant_before s s' k lib b given after e g i in
      let h : OpenGrant = x.0 in
      let hk : h.kind ≡ Hold = ap (λ (y : OpenGrant). y.kind) (sym x.3) ∙ kind in
      let r = some_of (row_at s.home h.ino) (k.live h x.1) in
      let st = stays_then h x.1 x.2 r.0 r.1 in
      let was = k.held h x.1 hk in
      let has : has_parent_grant s h.lib (Some r.0) ≡ true = ap (has_parent_grant s h.lib) (sym r.1) ∙ was in
      let q : Row = row_by st.met st.file.body in
      let p = parent_then s s' k lib b given after e closed h g r.0 q x.1 hk x.2 r.1 (outside_unheld s k lib b given h x.1 x.2) x.3 (ap (λ (x : Row). x.parent) st.row) has in
      let row : row_at s'.home g.ino ≡ Some q = ap (λ (y : OpenGrant). row_at s'.home y.ino) x.3 ∙ row_then h.ino r.0 st in
      ap (has_parent_grant s' g.lib) row ∙ p

  lent_listed : (g : OpenGrant) → In g s'.open_grants → g.kind ≡ Write → LentIsListed after g
  lent_listed g i kind =
      let x = grant_before s s' k lib b given after e g i in
      let h : OpenGrant = x.0 in
      let hk : h.kind ≡ Write = ap (λ (y : OpenGrant). y.kind) (sym x.3) ∙ kind in
      let l = k.lent h x.1 hk in
      let r : Row = row_by l.met l.file.body in
      let row0 : row_at s.home l.met.ino ≡ Some r = row_at_is (settled s).core plain k.fit k.verifies.sound (settled s) (tables s k) l.met.ino ∙ row_met (settled s).core plain k.fit k.verifies.sound l.met l.file l.stands l.read in
      let row : row_at s.home h.ino ≡ Some r = ap (row_at s.home) (sym l.number) ∙ row0 in
      let st = stays_then h x.1 x.2 r row in
      let un = outside_unwritten s k lib b given h x.1 x.2 in
      let body : st.met.body ≡ l.met.body = st.body ∙ ap (settled_body (settled s)) (sym l.number) ∙ settled_body_met (settled s) l.met k.fit k.verifies.sound (tables s k) l.stands in
      let chain : st.file.chain ≡ l.file.chain = kept_chain s k lib b given st.met l.met st.file l.file l.stands l.read st.read (λ w j same. un w j (same ∙ l.number)) (ap (λ (x : Row). x.kind) (sym st.row)) body in
      record {
        met = st.met;
        file = record { body = st.file.body; chain = st.file.chain; entries = map (picked_entry pick st.met.ino) st.file.entries };
        stands = subst (λ ms. In st.met ms) (sym (survey_put core pick fit sound)) st.stands;
        read = file_put core pick fit sound st.met st.file st.stands st.read;
        number = st.number ∙ ap (λ (y : OpenGrant). y.ino) (sym x.3);
        of = ap (λ (x : Row). x.kind) (sym st.row) ∙ l.of ∙ ap (λ (y : OpenGrant). y.of) (sym x.3);
        index = ap (λ (y : OpenGrant). sheet_numbers y.index) x.3 ∙ l.index ∙ ap (λ (c : Chain). c.index) (sym chain);
        blocks = ap (λ (y : OpenGrant). sheet_numbers y.blocks) x.3 ∙ l.blocks ∙ ap (λ (c : Chain). c.blocks) (sym chain);
      }

  -- the blocks of a guarded file that stays out are settled as they were lent
  guarded_then : (g : OpenGrant) → In g s'.open_grants → g.kind ≡ Write → is_directory g.of ≡ false → guard_in g.body ≡ true → HasLentBlocks (settled s') g
  guarded_then g i w d t x a =
      let y = grant_before s s' k lib b given after e g i in
      let h : OpenGrant = y.0 in
      let hk : h.kind ≡ Write = ap (λ (z : OpenGrant). z.kind) (sym y.3) ∙ w in
      let l = k.lent h y.1 hk in
      let r = some_of (row_at s.home h.ino) (k.live h y.1) in
      let out : In h.ino b.holds → ⊥ = outside_unheld s k lib b given h y.1 y.2 in
      let u = untouched s lib creds b h.ino r.0 k given accepted r.1 out (outside_unwritten s k lib b given h y.1 y.2) in
      let met : u.met ≡ l.met = one_met (settled s).core plain k.fit k.verifies.sound u.met l.met u.stood l.stands (u.number ∙ sym l.number) in
      let file : u.file_was ≡ l.file = Ok-one (file_of (settled s).core l.met) u.file_was l.file (ap (file_of (settled s).core) (sym met) ∙ u.read_was) l.read in
      let a' : In x h.blocks = subst (λ bs. In x bs) (ap (λ (z : OpenGrant). z.blocks) y.3) a in
      let block : In x.page u.file_was.chain.blocks =
      subst (λ (f : FileRead). In x.page f.chain.blocks) (sym file) (subst (λ ns. In x.page ns) l.blocks (in_numbers h.blocks x x.page a' refl)) in
      let of : is_directory h.of ≡ false = ap (λ (z : OpenGrant). is_directory z.of) (sym y.3) ∙ d in
      let bare : is_directory u.met.kind ≡ false = ap (λ (m : Met). is_directory m.kind) met ∙ ap is_directory l.of ∙ of in
      ap (λ (im : Image). page_of im.core x.page) e.settles
      ∙ u.pages x.page (plain_block u.met.kind u.file_was x.page bare block)
      ∙ k.guarded h y.1 hk of (ap (λ (z : OpenGrant). guard_in z.body) (sym y.3) ∙ t) x a'

  -- a page that is absent from what is settled then was lent or is out
  absent_after : (p : ℕ) → is_core (settled s).core.range p ≡ true → slice_get after.core.pages p ≡ Some None → ((g : OpenGrant) × In g s.open_grants × (is_in_bundle lib b g ≡ false) × (g.kind ≡ Write) × In p (sheet_numbers (g.index ++ g.blocks))) ⊎ ((is_out s.pages_out p ≡ true) × (In p (sheet_numbers b.pages) → ⊥))
  absent_after p c gone =
      let a : slice_get core.pages p ≡ Some None =
      absent_map (put_on p (all_listed core pick)) (slice_get core.pages p)
      (sym (with_bodies-get p (all_listed core pick) core.pages (listed_no_root core pick fit sound)) ∙ ap (λ ps. slice_get ps p) (sym (bodies_are core pick fit sound)) ∙ gone) in
      let w = with_pages_absent (bundle_sheets b) (settled s).core.pages p a in
      let v = with_pages_absent (flat_map (λ g. g.checkpoint) s.open_grants) s.home.core.pages p w.1 in
      elim (k.absent p v.1 c) [
        | inl lent ↦
            let q = lent_by s.open_grants p lent in
            elim (cases_Bool (is_in_bundle lib b q.0)) [
              | inr out ↦ inl (q.0, q.1, out, q.2, q.3)
              | inl in' ↦ absurd (w.0 (handed_back s k lib b given q.0 p q.1 q.2 in' q.3))
            ]
        | inr out ↦ inr (out, λ j. w.0 (allotted_in b p j))
      ]

  free_then : (p : ℕ) → is_out s'.pages_out p ≡ true → slice_index s'.home.owners p ≡ 0
  free_then p out =
      let was = outs_then s s' k lib b given after e p out in
      let z = k.out_free p was.0 in
      ap (λ (i : Image). slice_index i.owners p) e.settles
      ∙ unlisted_free core pick fit sound after (record { rows = refl; owners = refl }) p
      (free_is_low (settled s).core plain k.fit k.verifies.sound (settled s) (tables s k) p z)
      (out_unlisted s k lib creds b given accepted p z was.1)

  numbers_free_then : (n : ℕ) → is_out s'.numbers_out n ≡ true → row_at s'.home n ≡ None
  numbers_free_then n out =
      let was = numbers_then s s' k lib b given after e n out in
      rows_home n ∙ number_free s k lib creds b given accepted n (k.numbers_free n was.0) was.1

  pub accepted_kept : Kept s'
  accepted_kept = record {
    fit = (let P : Image → Type 0 = λ i. IsFit i.core in subst P (sym e.settles) fit');
    verifies = (let P : Image → Type 0 = λ i. Verifies i in subst P (sym e.settles) verifies');
    live = live_then;
    apart = apart_then s s' k lib b given after e;
    bodies = body_then;
    held = held_then;
    lent = λ g i w. (let P : Image → Type 0 = λ x. LentIsListed x g in subst P (sym e.settles) (lent_listed g i w));
    checkpoints = checkpoints_then s s' k lib b given after e;
    guarded = guarded_then;
    absent = λ p gone c.
        let c' : is_core (settled s).core.range p ≡ true = ap (λ (i : Image). is_core i.core.range p) (sym e.settles) ∙ c in
        absent_then s s' k lib b given after e p gone (absent_after p c');
    pages_placed = pages_placed_then s s' k lib b given after e ∙ ap (λ (i : Image). i.core.range.end) (sym e.settles);
    out_free = free_then;
    numbers_placed = numbers_placed_then s s' k lib b given after e ∙ ap (λ (i : Image). i.core.inodes + 1) (sym e.settles);
    numbers_free = numbers_free_then;
  }
