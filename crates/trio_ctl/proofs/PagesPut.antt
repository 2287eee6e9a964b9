-- The pages of an accepted bundle put in place: home and the checkpoints that stay make up the next image's.
use Rattle.trio_ctl.proofs.Words.{if◌then◌else◌, ◌++◌, ◌<◌, ◌==◌, ◌∙◌, ◌≡◌, ◌⊎◌, Bool, Checkpointed, Core, FileRead, In, In-cases, In-filter, In-find, In-flat, In-left, In-right, List, Listed, ListedEntry, Met, None, Ok, OpenGrant, Option, Pick, Row, Sheet, Some, Write, Written, [], all_listed, among_cases, ap, arith, body_by_row, body_in_slot, bundle_pages, cases_Bool, checkpoint_at, checkpoint_settled, child_from, child_of, children, covered_at, covered_pages, entry_listed, entry_met, eq-eqb, eqb-true, false, filter, filter-In, find, find-In, flat_map-In, has_parent, inl, inr, is_among, is_among-In, judged_files, judged_met, kept_body, kept_children, length, listed_from, listed_no_root, listed_placed, live_met, map, map-In, met_numbered, ne_eqb, next, not, option_and_then, option_map, option_map_or, owner_listed, page_of, pages_are, pages_of, placed_files, plain, put_on, reads, refl, root_or_listed, row_at, row_in, settled, settled_body, sheet_numbers, slot_bytes, slot_of, subst, survey, sym, tables, true, with_bodies, with_checkpoint, with_children, written_at, written_find, written_ino, written_judged, written_met, ℕ}
use Rattle.trio_lists.proofs.Gathered.{one_keyed}
use Rattle.trio_lists.proofs.Members.{option_and_then-Some}
use Rattle.trio_layout.specs.declared.slot.EntryPart.{EntryPart}
use Rattle.trio_layout.specs.declared.slot.SlotRead.TheVariants.{Entry}
use Rattle.trio_layout.specs.Image.{body_at_place}
use Rattle.trio_layout.specs.Listing.{is_kept}
use Rattle.trio_layout.specs.Proposed.{is_place_of, kept_body as body_then}
use Rattle.trio_surveys.proofs.AnyOrder.{bodies_in_any_order}
use Rattle.trio_surveys.proofs.OwnFiles.{place_from, place_parts}
use Rattle.trio_surveys.proofs.Putting.{ArePlaced, put_on-body}
use Rattle.trio_surveys.proofs.RowsLaw.{met_same}
use Rattle.trio_surveys.proofs.Tree.{child_placed, picked_met}
use Rattle.trio_checkpoint.specs.Covered.{body_on}
use Rattle.trio_laws.proofs.Bundles.{page_kept, page_owned}
use Rattle.trio_laws.proofs.judgement.CaseFacts.{kept_settled, unwritten_cases}
use Rattle.trio_laws.proofs.judgement.JudgedFacts.{entry_to}
use Rattle.trio_laws.proofs.judgement.ListingFacts.{listed_to}
use Rattle.trio_laws.proofs.judgement.Meeting.{itself}
use Rattle.trio_laws.proofs.judgement.MeetingEdges.{same_file}
use Rattle.trio_laws.proofs.judgement.Sides.{inside_child}
use Rattle.trio_laws.proofs.judgement.Taking.{body_kept}
use Rattle.trio_ctl.proofs.StoredFacts.{Checkpoints, covered_here, open_grant}
use Rattle.trio_ctl.proofs.Children.{children_at, filter_map-In, In-filter_map, listed_by, own_numbers, with_own, with_own_blocks}
use Rattle.trio_ctl.proofs.AcceptedBundle.{AcceptedBundle, PlacedFile, case_here, core_now, core_then, cs, files_then, fit_then, judgeable, list_here, now, page_covered, pick_then, placed_from, placed_met, placed_to, sound_then}

-- one place lists one number
one_place : (core : Core) (pick : Pick) (x y : Met) → In x (all_listed core pick) → In y (all_listed core pick) → x.page ≡ y.page → x.slot ≡ y.slot → x.ino ≡ y.ino
one_place core pick x y i j page slot =
    let p = flat_map-In (children core pick) x (survey core pick) i in
    let q = flat_map-In (children core pick) y (survey core pick) j in
    let k = child_from core pick p.0 x p.2 in
    let h = child_from core pick q.0 y q.2 in
    let a = child_placed core pick p.0 x k in
    let b = child_placed core pick q.0 y h in
    let on : k.entry.page ≡ h.entry.page = sym (ap (λ (w : Met). w.page) k.is) ∙ page ∙ ap (λ (w : Met). w.page) h.is in
    let at : k.entry.slot ≡ h.entry.slot = sym (ap (λ (w : Met). w.slot) k.is) ∙ slot ∙ ap (λ (w : Met). w.slot) h.is in
    let pages : Some a.bytes ≡ Some b.bytes = sym a.page ∙ ap (page_of core) on ∙ b.page in
    let bytes : a.bytes ≡ b.bytes = cc pages in
    let slots : slot_bytes k.entry.slot a.bytes ≡ slot_bytes h.entry.slot b.bytes = ap (slot_bytes k.entry.slot) bytes ∙ ap (λ n. slot_bytes n b.bytes) at in
    let entries : Entry k.entry.entry ≡ Entry h.entry.entry = sym a.says ∙ ap (slot_of core.inodes) slots ∙ b.says in
    let same : k.entry.entry ≡ h.entry.entry = cc entries in
    ap (λ (w : Met). w.ino) k.is ∙ ap (λ (w : EntryPart). w.ino) same ∙ sym (ap (λ (w : Met). w.ino) h.is)

module _ (e : AcceptedBundle) where
  -- the bodies that have places, and the checkpoints with those of children
  abbrev pub placed : List Met
  placed = placed_files e.handed.store.rows e.handed.bundle

  abbrev pub lent : Checkpoints
  lent = with_children placed (cs e)

  abbrev pub kept : List Met
  kept = kept_children lent (list_here e).entries

  -- the place isn't on a page of the bundle
  abbrev pub is_outside : Met → Bool
  is_outside m = not (is_among m.page (bundle_pages e.handed.bundle))

  -- the bodies that are put: those outside of the bundle, and those of kept children
  abbrev pub put : List Met
  put = filter is_outside placed ++ kept

  -- ---- places

  abbrev C : Core
  C = core_now e

  -- a live number is listed at its row's place
  record At (n : ℕ) (r : Row) : Type 0 where
    met : Met
    listed : In met (all_listed C plain)
    number : met.ino ≡ n
    page : met.page ≡ r.page
    slot : met.slot ≡ r.slot

  live_at : (n : ℕ) (r : Row) → row_in e.handed.store.rows n ≡ Some r → (n ≡ 1 → ⊥) → At n r
  live_at n r row other =
      let m = live_met (now e) e.handed.stored.kept n r row in
      elim (root_or_listed C plain e.handed.stored.kept.fit e.handed.stored.kept.verifies.sound m.met m.stands) [
        | inl root ↦ absurd (other (sym m.number ∙ ap (λ (x : Met). x.ino) root))
        | inr i ↦
            record { met = m.met; listed = i; number = m.number; page = ap (λ (x : Row). x.page) (sym m.row); slot = ap (λ (x : Row). x.slot) (sym m.row) }
      ]

  same_number : (n k : ℕ) (r q : Row) → row_in e.handed.store.rows n ≡ Some r → (n ≡ 1 → ⊥) → row_in e.handed.store.rows k ≡ Some q → (k ≡ 1 → ⊥) → r.page ≡ q.page → r.slot ≡ q.slot → n ≡ k
  same_number n k r q row other row' other' page slot =
      let a = live_at n r row other in
      let b = live_at k q row' other' in
      sym a.number ∙ one_place C plain a.met b.met a.listed b.listed (a.page ∙ page ∙ sym b.page) (a.slot ∙ slot ∙ sym b.slot) ∙ b.number

  placed_listed : (m : Met) → In m placed → In m (all_listed (core_then e) (pick_then e))
  placed_listed m i =
      let p = placed_from e m i in
      elim (root_or_listed (core_then e) (pick_then e) (fit_then e) (sound_then e) m (placed_met e m p)) [
        | inl root ↦ absurd (p.other (ap (λ (x : Met). x.ino) (sym p.is) ∙ ap (λ (x : Met). x.ino) root))
        | inr l ↦ l
      ]

  own_placed : (d : ℕ) → ArePlaced (listed_by d placed)
  own_placed d m i = listed_placed (core_then e) (pick_then e) (fit_then e) (sound_then e) m (placed_listed m (filter-In (λ m. m.parent == d) m placed i).0)

  -- ---- what checkpoints have

  -- a page that a checkpoint covers is settled as it has it
  pub sheet_settled : (d : ℕ) (c : Checkpointed) (y : Sheet) → checkpoint_at (cs e) d ≡ Some c → In y (covered_pages c) → page_of (core_now e) y.page ≡ Some y.bytes
  sheet_settled d c y at i =
      let g = e.handed.stored.of_grant d c at in
      let h : OpenGrant = with_checkpoint (cs e) g.0 in
      let open' = open_grant e.handed.store e.handed.first_core e.handed.grants e.handed.creds e.handed.entries e.handed.stored g.0 g.1 in
      let covers : h.checkpoint ≡ covered_pages c =
      covered_here e.handed.store e.handed.first_core e.handed.grants e.handed.creds e.handed.entries e.handed.stored h open' g.2
      ∙ ap (covered_at (cs e)) g.3
      ∙ ap (λ o. option_map_or covered_pages o []) at in
      checkpoint_settled (now e) e.handed.stored.kept y (In-flat (λ (x : OpenGrant). x.checkpoint) h y (now e).open_grants open' (subst (λ (l : List Sheet). In y l) (sym covers) i))

  -- the body that a directory's checkpoint has for a file at its row's place is the one that is kept
  own_body : (d n : ℕ) (r : Row) (c : Checkpointed) (y : Sheet) → checkpoint_at (cs e) d ≡ Some c → In y c.blocks → row_in e.handed.store.rows n ≡ Some r → (n ≡ 1 → ⊥) → r.parent ≡ d → r.page ≡ y.page
      → body_in_slot r.slot (put_on y.page (listed_by d placed) y.bytes) ≡ body_then (settled (now e)) e.handed.bundle n
  own_body d n r c y at i row other up on =
      let there = sheet_settled d c y at (In-right y c.index c.blocks i) in
      let full : length y.bytes ≡ 4096 = e.handed.stored.kept.fit.full y.page y.bytes there in
      let one : (m : Met) → In m (listed_by d placed) → m.page ≡ y.page → m.slot ≡ r.slot → (p : PlacedFile e m) × (p.lease.ino ≡ n) =
      λ m j mp ms.
      let p = placed_from e m (filter-In (λ m. m.parent == d) m placed j).0 in
      (p, same_number p.lease.ino n p.row r p.is_row p.other row other (ap (λ (x : Met). x.page) (sym p.is) ∙ mp ∙ sym on) (ap (λ (x : Met). x.slot) (sym p.is) ∙ ms)) in
      elim (unwritten_cases (now e) e.handed.lib.0 e.handed.bundle (judgeable e) n) [
        | inl t ↦
            let w = written_find (now e) e.handed.lib.0 e.handed.bundle (judgeable e) n t in
            let here : In (written_at w.0 (Some r)) placed = placed_to e w.0 r w.1 (ap (row_in e.handed.store.rows) w.2 ∙ row) (λ z. other (sym w.2 ∙ z)) in
            put_on-body y.page r.slot (listed_by d placed) y.bytes w.0.body (own_placed d) full
            (λ m j mp ms.
            let p = one m j mp ms in
            let same : p.0.lease ≡ w.0 = one_keyed (λ (w : Written). w.ino) e.handed.bundle.writes p.0.lease w.0 e.handed.given.writes_once p.0.among w.1 (p.1 ∙ sym w.2) in
            ap (λ (x : Met). x.body) p.0.is ∙ ap (λ (w : Written). w.body) same)
            (inr (written_at w.0 (Some r), In-filter (λ m. m.parent == d) (written_at w.0 (Some r)) placed here (eq-eqb r.parent d up), on, refl))
            ∙ sym (ap (λ o. option_map_or (λ (w : Written). w.body) o (settled_body (settled (now e)) n)) w.3)
        | inr un ↦
            let place : settled_body (settled (now e)) n ≡ body_in_slot r.slot y.bytes =
            ap (λ (b : Bool). if b then e.handed.store.root else body_by_row C (row_in e.handed.store.rows n)) (ne_eqb n 1 other)
            ∙ ap (body_by_row C) row
            ∙ ap (λ k. body_at_place C k r.slot) on
            ∙ ap (λ o. option_map_or (body_in_slot r.slot) o []) there in
            put_on-body y.page r.slot (listed_by d placed) y.bytes (body_in_slot r.slot y.bytes) (own_placed d) full
            (λ m j mp ms. let p = one m j mp ms in absurd (un p.0.lease p.0.among p.1))
            (inl refl)
            ∙ sym place
            ∙ sym (kept_settled (now e) e.handed.lib.0 e.handed.bundle (judgeable e) n un)
      ]

  -- ---- kept children

  -- a kept child that has a body, by its directory's checkpoint
  record HasBody (x : ListedEntry) (body : List ℕ) : Type 0 where
    kept' : x.kept ≡ true
    checkpoint : Checkpointed
    at : checkpoint_at (cs e) x.dir ≡ Some checkpoint
    sheet : Sheet
    block : In sheet checkpoint.blocks
    page : sheet.page ≡ x.page
    body' : body ≡ body_in_slot x.slot (put_on sheet.page (listed_by x.dir placed) sheet.bytes)

  some_map : {X Y : Type 0} (f : X → Y) (o : Option X) (y : Y) → option_map f o ≡ Some y → (x : X) × (o ≡ Some x) × (f x ≡ y)
  some_map f None y s = absurd cc
  some_map f (Some x) y s = (x, refl, cc s)

  has_body : (x : ListedEntry) (body : List ℕ) → kept_body lent x ≡ Some body → HasBody x body
  has_body x body s = by x.kept refl
    where
      by : (t : Bool) → x.kept ≡ t → HasBody x body
      by false t = (let wrong : None ≡ Some body = sym (ap (λ (b : Bool). if b then option_and_then (λ c. body_on x.page x.slot c.blocks) (checkpoint_at lent x.dir) else None) t) ∙ s in absurd cc)
      by true t =
          let found : option_and_then (λ (c : Checkpointed). body_on x.page x.slot c.blocks) (checkpoint_at lent x.dir) ≡ Some body =
          sym (ap (λ (b : Bool). if b then option_and_then (λ c. body_on x.page x.slot c.blocks) (checkpoint_at lent x.dir) else None) t) ∙ s in
          let c = option_and_then-Some (λ (c : Checkpointed). body_on x.page x.slot c.blocks) (checkpoint_at lent x.dir) body found in
          let d = some_map (with_own_blocks x.dir placed) (checkpoint_at (cs e) x.dir) c.0 (sym (children_at placed (cs e) x.dir) ∙ c.1) in
          let z = some_map (λ (y : Sheet). body_in_slot x.slot y.bytes) (find (λ (y : Sheet). y.page == x.page) c.0.blocks) body c.2 in
          let q = find-In (λ (y : Sheet). y.page == x.page) c.0.blocks z.0 z.1 in
          let y = map-In (with_own x.dir placed) z.0 d.0.blocks (subst (λ (k : Checkpointed). In z.0 k.blocks) (sym d.2) q.0) in
          record {
            kept' = t;
            checkpoint = d.0;
            at = d.1;
            sheet = y.0;
            block = y.1;
            page = ap (λ (k : Sheet). k.page) (sym y.2) ∙ eqb-true z.0.page x.page q.1;
            body' = sym z.2 ∙ ap (λ (k : Sheet). body_in_slot x.slot k.bytes) y.2;
          }

  -- it is met with that body
  child_met : (x : ListedEntry) (body : List ℕ) → In x (list_here e).entries → kept_body lent x ≡ Some body → In (child_of x body) (files_then e) × (x.ino ≡ 1 → ⊥) × In x.page (bundle_pages e.handed.bundle)
  child_met x body i s =
      let h = has_body x body s in
      let q = listed_from (case_here e) x i in
      let y = entry_met (now e) e.handed.lib.0 e.handed.bundle (judgeable e) e.accepted q.0 q.1 in
      let is_child : is_kept (case_here e) q.0 ≡ true = ap (λ (z : ListedEntry). z.kept) (sym q.2) ∙ h.kept' in
      let r = place_parts q.0.parent q.0.page q.0.slot (row_in e.handed.store.rows q.0.ino) is_child in
      let ino : x.ino ≡ q.0.ino = ap (λ (z : ListedEntry). z.ino) q.2 in
      let dir : x.dir ≡ q.0.parent = ap (λ (z : ListedEntry). z.dir) q.2 in
      let page : x.page ≡ q.0.page = ap (λ (z : ListedEntry). z.page) q.2 in
      let slot : x.slot ≡ q.0.slot = ap (λ (z : ListedEntry). z.slot) q.2 in
      let listed : In y.met (all_listed (core_then e) (pick_then e)) =
      In-flat (children (core_then e) (pick_then e)) y.file y.met (files_then e) (judged_met (now e) e.handed.lib.0 e.handed.bundle (judgeable e) e.accepted y.file y.judged_one) y.child in
      let other : q.0.ino ≡ 1 → ⊥ = λ one. listed_no_root (core_then e) (pick_then e) (fit_then e) (sound_then e) y.met listed (y.ino ∙ one) in
      let own : body_in_slot r.0.slot (put_on h.sheet.page (listed_by x.dir placed) h.sheet.bytes) ≡ body_then (settled (now e)) e.handed.bundle q.0.ino =
      own_body x.dir q.0.ino r.0 h.checkpoint h.sheet h.at h.block r.1 other (r.2 ∙ sym dir) (r.3 ∙ sym page ∙ sym h.page) in
      let now_body : y.met.body ≡ body_then (settled (now e)) e.handed.bundle y.met.ino =
      body_kept (now e) e.handed.lib.0 e.handed.bundle (judgeable e) e.accepted y.met r.0 y.stands (ap (row_at (settled (now e))) y.ino ∙ r.1) (r.2 ∙ sym y.parent) (r.3 ∙ sym y.page) (r.4 ∙ sym y.slot) in
      let body_is : body ≡ y.met.body =
      h.body'
      ∙ ap (λ n. body_in_slot n (put_on h.sheet.page (listed_by x.dir placed) h.sheet.bytes)) (slot ∙ sym r.4)
      ∙ own
      ∙ ap (body_then (settled (now e)) e.handed.bundle) (sym y.ino)
      ∙ sym now_body in
      let kind : x.kind ≡ q.0.kind = ap (λ (z : ListedEntry). z.kind) q.2 in
      let same : child_of x body ≡ y.met = met_same (child_of x body) y.met (ino ∙ sym y.ino) (kind ∙ sym y.kind) (dir ∙ sym y.parent) (page ∙ sym y.page) (slot ∙ sym y.slot) body_is in
      let f = reads (now e) e.handed.lib.0 e.handed.bundle (judgeable e) e.accepted y.file y.judged_one in
      let k = child_from (core_then e) (pick_then e) y.file y.met y.child in
      let pl = child_placed (core_then e) (pick_then e) y.file y.met k in
      let file : k.file ≡ f.file = (let t : Ok k.file ≡ Ok f.file = sym k.read ∙ f.whole in cc t) in
      let own_page : In k.entry.page (bundle_pages e.handed.bundle) =
      f.own k.entry.page (In-right k.entry.page f.file.chain.index f.file.chain.blocks (subst (λ (z : FileRead). In k.entry.page z.chain.blocks) file pl.block)) in
      let on : k.entry.page ≡ x.page = ap (λ (w : Met). w.page) (sym k.is) ∙ y.page ∙ sym page in
      (subst (λ z. In z (files_then e)) (sym same) y.stands, λ one. other (sym ino ∙ one), subst (λ n. In n (bundle_pages e.handed.bundle)) on own_page)

  -- each kept child is met, on a page of the bundle
  pub kept_met : (m : Met) → In m kept → In m (files_then e) × (m.ino ≡ 1 → ⊥) × In m.page (bundle_pages e.handed.bundle)
  kept_met m i =
      let q = filter_map-In (λ x. option_map (child_of x) (kept_body lent x)) m (list_here e).entries i in
      let b = some_map (child_of q.0) (kept_body lent q.0) m q.2 in
      let r = child_met q.0 b.0 q.1 b.1 in
      (subst (λ z. In z (files_then e)) b.2 r.0, λ one. r.1 (ap (λ (z : Met). z.ino) b.2 ∙ one), subst (λ (z : Met). In z.page (bundle_pages e.handed.bundle)) b.2 r.2)

  -- ---- each file met is put, or stands there

  -- a file at its row's place on a page of the bundle is a kept child
  inside_kept : (m : Met) (r : Row) → In m (files_then e) → (m.ino ≡ 1 → ⊥) → row_in e.handed.store.rows m.ino ≡ Some r → r.parent ≡ m.parent → r.page ≡ m.page → r.slot ≡ m.slot → In m.page (bundle_pages e.handed.bundle) → In m kept
  inside_kept m r i other row parent page slot inside =
      let h = has_parent (now e) e.handed.stored.kept m.ino r row other in
      let lists : In m.page (pages_of C h.parent) =
      subst (λ ns. In m.page ns) (sym (pages_are C h.parent h.file h.read)) (In-right m.page h.file.chain.index h.file.chain.blocks (subst (λ n. In n h.file.chain.blocks) page h.block)) in
      let owner = owner_listed C plain e.handed.stored.kept.fit e.handed.stored.kept.verifies.sound (settled (now e)) (tables (now e) e.handed.stored.kept) h.parent m.page h.stands lists in
      let low : 0 < h.parent.ino = (met_numbered C plain e.handed.stored.kept.fit e.handed.stored.kept.verifies.sound h.parent h.stands).0 in
      elim (page_owned (now e) e.handed.stored.kept e.handed.lib.0 e.handed.bundle e.handed.given m.page inside) [
        | inl z ↦ absurd (omega (arith, owner, z, low))
        | inr w ↦ by_writer m r i other row parent page slot w.0 w.1 (sym h.number ∙ sym owner ∙ w.2) (page_covered e r h)
      ]
    where
      by_writer : (m : Met) (r : Row) → In m (files_then e) → (m.ino ≡ 1 → ⊥) → row_in e.handed.store.rows m.ino ≡ Some r → r.parent ≡ m.parent → r.page ≡ m.page → r.slot ≡ m.slot → (w : Written) → In w e.handed.bundle.writes → r.parent ≡ w.ino
          → ((g : OpenGrant) → In g e.handed.grants → g.kind ≡ Write → g.ino ≡ r.parent → (c : Checkpointed) × (checkpoint_at (cs e) g.ino ≡ Some c) × In r.page (sheet_numbers c.blocks)) → In m kept
      by_writer m r i other row parent page slot w j up covered =
          elim (root_or_listed (core_then e) (pick_then e) (fit_then e) (sound_then e) m i) [
            | inl root ↦ absurd (other (ap (λ (x : Met). x.ino) root))
            | inr l ↦
                let q = flat_map-In (children (core_then e) (pick_then e)) m (files_then e) l in
                let k = child_from (core_then e) (pick_then e) q.0 m q.2 in
                let x : Met = written_met (case_here e) w in
                let xi = written_judged (now e) e.handed.lib.0 e.handed.bundle (judgeable e) w j in
                let number : x.ino ≡ q.0.ino = written_ino (case_here e) w ∙ sym up ∙ parent ∙ ap (λ (z : Met). z.parent) k.is in
                let same : x ≡ q.0 = same_file (now e) e.handed.lib.0 e.handed.bundle (judgeable e) e.accepted x q.0 (judged_met (now e) e.handed.lib.0 e.handed.bundle (judgeable e) e.accepted x xi) q.1 number in
                let qi : In q.0 (judged_files (case_here e)) = subst (λ z. In z (judged_files (case_here e))) same xi in
                let y = inside_child (now e) e.handed.lib.0 e.handed.bundle (judgeable e) (reads (now e) e.handed.lib.0 e.handed.bundle (judgeable e) e.accepted) q.0 (itself (now e) e.handed.lib.0 e.handed.bundle (judgeable e) e.accepted q.0 qi) m q.2 in
                let ev : Met = y.entry in
                let le : ListedEntry = entry_listed (case_here e) ev in
                let li : In le (list_here e).entries = listed_to (case_here e) ev (entry_to (now e) e.handed.lib.0 e.handed.bundle (judgeable e) q.0 ev qi y.among) in
                let at_row : is_kept (case_here e) ev ≡ true =
                place_from ev.parent ev.page ev.slot (row_in e.handed.store.rows ev.ino) r (ap (row_in e.handed.store.rows) (sym y.ino) ∙ row) (parent ∙ y.parent) (page ∙ y.page) (slot ∙ y.slot) in
                let v = e.handed.given.writes w j in
                let g = map-In (with_checkpoint (cs e)) v.grant e.handed.grants v.is_open in
                let gk : g.0.kind ≡ Write = ap (λ (z : OpenGrant). z.kind) (sym g.2) ∙ v.kind in
                let gi : g.0.ino ≡ r.parent = ap (λ (z : OpenGrant). z.ino) (sym g.2) ∙ v.ino ∙ sym up in
                let c = covered g.0 g.1 gk gi in
                let at : checkpoint_at lent ev.parent ≡ Some (with_own_blocks ev.parent placed c.0) =
                children_at placed (cs e) ev.parent ∙ ap (option_map (with_own_blocks ev.parent placed)) (ap (checkpoint_at (cs e)) (sym y.parent ∙ sym parent ∙ sym gi) ∙ c.1) in
                let there : In ev.page (sheet_numbers (map (with_own ev.parent placed) c.0.blocks)) =
                subst (λ ns. In ev.page ns) (sym (own_numbers ev.parent placed c.0.blocks)) (subst (λ n. In n (sheet_numbers c.0.blocks)) (page ∙ y.page) c.2) in
                let s = map-In (λ (z : Sheet). z.page) ev.page (map (with_own ev.parent placed) c.0.blocks) there in
                let f = In-find (λ (z : Sheet). z.page == ev.page) (map (with_own ev.parent placed) c.0.blocks) s.0 s.1 (eq-eqb s.0.page ev.page (sym s.2)) in
                let body : List ℕ = body_in_slot ev.slot f.0.bytes in
                let found : kept_body lent le ≡ Some body =
                ap (λ (b : Bool). if b then option_and_then (λ (c : Checkpointed). body_on ev.page ev.slot c.blocks) (checkpoint_at lent ev.parent) else None) at_row
                ∙ ap (option_and_then (λ (c : Checkpointed). body_on ev.page ev.slot c.blocks)) at
                ∙ ap (option_map (λ (z : Sheet). body_in_slot ev.slot z.bytes)) f.1 in
                let among : In (child_of le body) kept =
                In-filter_map (λ x. option_map (child_of x) (kept_body lent x)) le (child_of le body) (list_here e).entries li (ap (option_map (child_of le)) found) in
                let met = kept_met (child_of le body) among in
                let is : child_of le body ≡ m = same_file (now e) e.handed.lib.0 e.handed.bundle (judgeable e) e.accepted (child_of le body) m met.0 i (sym y.ino) in
                subst (λ z. In z kept) is among
          ]

  -- a file at its row's place outside of the bundle is a placed one, or stands there
  outside_put : (m : Met) (r : Row) → In m (files_then e) → (m.ino ≡ 1 → ⊥) → row_in e.handed.store.rows m.ino ≡ Some r → r.page ≡ m.page → r.slot ≡ m.slot → m.body ≡ body_then (settled (now e)) e.handed.bundle m.ino → (In m.page (bundle_pages e.handed.bundle) → ⊥)
      → In m (filter is_outside placed) ⊎ (m.body ≡ body_at_place (core_then e) m.page m.slot)
  outside_put m r i other row page slot body outside =
      elim (unwritten_cases (now e) e.handed.lib.0 e.handed.bundle (judgeable e) m.ino) [
        | inl t ↦
            let w = written_find (now e) e.handed.lib.0 e.handed.bundle (judgeable e) m.ino t in
            let x : Met = written_at w.0 (Some r) in
            let here : In x placed = placed_to e w.0 r w.1 (ap (row_in e.handed.store.rows) w.2 ∙ row) (λ z. other (sym w.2 ∙ z)) in
            let same : x ≡ m = same_file (now e) e.handed.lib.0 e.handed.bundle (judgeable e) e.accepted x m (placed_met e x (placed_from e x here)) i w.2 in
            inl (In-filter is_outside m placed (subst (λ z. In z placed) same here) (outside_true m.page outside))
        | inr un ↦
            inr (body
            ∙ kept_settled (now e) e.handed.lib.0 e.handed.bundle (judgeable e) m.ino un
            ∙ ap (λ (b : Bool). if b then e.handed.store.root else body_by_row C (row_in e.handed.store.rows m.ino)) (ne_eqb m.ino 1 other)
            ∙ ap (body_by_row C) row
            ∙ ap (λ n. body_at_place C n r.slot) page
            ∙ ap (body_at_place C m.page) slot
            ∙ ap (λ o. option_map_or (body_in_slot m.slot) o []) (sym (page_kept (now e) e.handed.stored.kept e.handed.lib.0 e.handed.bundle e.handed.given m.page outside)))
      ]
    where
      outside_true : (p : ℕ) → (In p (bundle_pages e.handed.bundle) → ⊥) → not (is_among p (bundle_pages e.handed.bundle)) ≡ true
      outside_true p none =
          elim (cases_Bool (is_among p (bundle_pages e.handed.bundle))) [
            | inl t ↦ absurd (none (is_among-In p (bundle_pages e.handed.bundle) t))
            | inr f ↦ ap not f
          ]

  rest : (m : Met) → In m (files_then e) → (m.ino ≡ 1 → ⊥) → In m put ⊎ (m.body ≡ body_at_place (core_then e) m.page m.slot)
  rest m i other =
      elim (root_or_listed (core_then e) (pick_then e) (fit_then e) (sound_then e) m i) [
        | inl root ↦ absurd (other (ap (λ (x : Met). x.ino) root))
        | inr l ↦
            let q = flat_map-In (children (core_then e) (pick_then e)) m (files_then e) l in
            let k = child_from (core_then e) (pick_then e) q.0 m q.2 in
            let pl = child_placed (core_then e) (pick_then e) q.0 m k in
            let x : Listed = k.entry in
            elim (cases_Bool (is_place_of m.parent m.page m.slot (row_in e.handed.store.rows m.ino))) [
              | inr free ↦
                  inr (picked_met (pick_then e) q.0.ino m x k.is
                  ∙ ap (λ (t : Bool). if t then body_then (settled (now e)) e.handed.bundle m.ino else x.body) free
                  ∙ pl.body
                  ∙ ap (λ o. option_map_or (body_in_slot x.slot) o []) (sym pl.page)
                  ∙ ap (λ (z : Met). body_at_place (core_then e) z.page z.slot) (sym k.is))
              | inl at_row ↦
                  let r = place_parts m.parent m.page m.slot (row_in e.handed.store.rows m.ino) at_row in
                  elim (among_cases m.page (bundle_pages e.handed.bundle)) [
                    | inl inside ↦ inl (In-right m (filter is_outside placed) kept (inside_kept m r.0 i other r.1 r.2 r.3 r.4 inside))
                    | inr outside ↦
                        elim (outside_put m r.0 i other r.1 r.3 r.4 (body_kept (now e) e.handed.lib.0 e.handed.bundle (judgeable e) e.accepted m r.0 i r.1 r.2 r.3 r.4) outside) [
                          | inl a ↦ inl (In-left m (filter is_outside placed) kept a)
                          | inr a ↦ inr a
                        ]
                  ]
            ]
      ]

  pub put_met : (m : Met) → In m put → In m (files_then e) × (m.ino ≡ 1 → ⊥)
  put_met m i =
      elim (In-cases m (filter is_outside placed) kept i) [
        | inl a ↦
            let p = placed_from e m (filter-In is_outside m placed a).0 in
            (placed_met e m p, λ one. p.other (ap (λ (x : Met). x.ino) (sym p.is) ∙ one))
        | inr a ↦ let r = kept_met m a in (r.0, r.1)
      ]

  -- these bodies, put over the proposed pages, make the next image's pages
  pub all_put : with_bodies put (core_then e).pages ≡ (next (settled (now e)) e.handed.bundle).core.pages
  all_put = bodies_in_any_order (core_then e) (pick_then e) put (fit_then e) (sound_then e) put_met rest
