-- What a bundle that was given to its library can touch.
use Rattle.trio_laws.proofs.Words.{◌&&◌, ◌++◌, ◌<◌, ◌||◌, ◌∙◌, ◌∷◌, ◌≡◌, ◌⊎◌, Bool, Bundle, Core, FileRead, GivenTo, GrantKind, Hold, In, In-cases, In-filter, In-find, In-is_among, In-left, In-map, IsFit, Kept, List, Met, None, Ok, Ok-one, OpenGrant, Option, Pick, Row, Sheet, Some, State, Write, Written, [], and_from, and_parts, ap, arith, block_count, body_of, both_ways, bundle_pages, bundle_sheets, cases_Bool, chain_follows, chain_of, child_from, children, cond, eq-eqb, eqb, eqb-true, false, false_from_ne_true, false≢true, file_of, filter-none, find, find-In, flat_map, flat_map-In, has_all, has_parent_grant, index_count, inl, inr, is_among, is_among-In, is_hold, is_in_bundle, is_parent_written, is_parted, is_place_of, is_read, is_some, is_sound, is_write, is_written, kept_body, list_all-In, list_any-In, map, map-In, map-append, met_numbered, not, not-true, option_map_or, or_cases, or_left, or_right, owner_listed, page_of, page_same, pages_are, pages_of, parted_hold, plain, proposed, proposed_pick, reads_from, refl, root_or_listed, row_at, settled, settled_body, sheet_numbers, slice_index, subst, survey, sym, true, with_pages, with_pages_apart, ℕ}
use Rattle.trio_state.specs.Bundles.{lowest}
use Rattle.trio_laws.proofs.StateFacts.{write_alone, alone, tables, lent_met}
use Rattle.trio_surveys.proofs.Tree.{picked_met}

pub in_numbers : (xs : List Sheet) (x : Sheet) (p : ℕ) → In x xs → p ≡ x.page → In p (sheet_numbers xs)
in_numbers xs x p i e = subst (λ n. In n (sheet_numbers xs)) (sym e) (In-map (λ (y : Sheet). y.page) x xs i)

-- no write lease of the bundle is on this file
abbrev pub Unwritten : Bundle → ℕ → Type 0
Unwritten b n = (w : Written) → In w b.writes → w.ino ≡ n → ⊥

pub unwritten_finds : (b : Bundle) (n : ℕ) → Unwritten b n → find (λ (w : Written). eqb w.ino n) b.writes ≡ None
unwritten_finds b n h = by_find (find (λ (w : Written). eqb w.ino n) b.writes) refl
  where
    by_find : (o : Option Written) → find (λ (w : Written). eqb w.ino n) b.writes ≡ o → o ≡ None
    by_find None e = refl
    by_find (Some w) e =
        let r = find-In (λ (w : Written). eqb w.ino n) b.writes w e in absurd (h w r.0 (eqb-true w.ino n r.1))

pub finds_unwritten : (b : Bundle) (n : ℕ) → is_some (find (λ (w : Written). eqb w.ino n) b.writes) ≡ false → Unwritten b n
finds_unwritten b n e w i same =
    let r = In-find (λ (w : Written). eqb w.ino n) b.writes w i (eq-eqb w.ino n same) in
    false≢true (sym e ∙ ap is_some r.1)

-- a hold of the library on a file whose directory is written is in the bundle
abbrev pub Closed : State → ℕ → Bundle → Type 0
Closed s lib b = (g : OpenGrant) (r : Row) → In g s.open_grants → g.kind ≡ Hold → g.lib ≡ lib → row_at s.home g.ino ≡ Some r → In r.parent (map (λ (w : Written). w.ino) b.writes) → In g.ino b.holds

pub written_from : (b : Bundle) (n : ℕ) → In n (map (λ (w : Written). w.ino) b.writes) → is_written b n ≡ true
written_from b n i =
    let r = map-In (λ (w : Written). w.ino) n b.writes i in
    let f = In-find (λ (w : Written). eqb w.ino n) b.writes r.0 r.1 (eq-eqb r.0.ino n (sym r.2)) in ap is_some f.1

none_lowest : (ns : List ℕ) → lowest ns ≡ None → ns ≡ []
none_lowest [] e = refl
none_lowest (n ∷ ns) e = search arith

-- where no hold is parted, each open grant is none that is
pub unparted_at : (s : State) (lib : ℕ) (b : Bundle) (g : OpenGrant) → parted_hold s lib b ≡ None → In g s.open_grants → is_parted s lib b g ≡ false
unparted_at s lib b g none i = search (arith, false_from_ne_true, In-map, In-filter, none_lowest)

pub unparted_from : (s : State) (lib : ℕ) (b : Bundle) → ((g : OpenGrant) → In g s.open_grants → is_parted s lib b g ≡ false) → parted_hold s lib b ≡ None
unparted_from s lib b h = ap (λ l. lowest (map (λ (x : OpenGrant). x.ino) l)) (filter-none (is_parted s lib b) s.open_grants h)

-- where no hold is parted from its parent's lease the bundle is closed
pub closed_unparted : (s : State) (lib : ℕ) (b : Bundle) → parted_hold s lib b ≡ None → Closed s lib b
closed_unparted s lib b none g r i kind mine row written =
    elim (cases_Bool (is_among g.ino b.holds)) [
      | inl held ↦ is_among-In g.ino b.holds held
      | inr free ↦
          let w : is_parent_written b (row_at s.home g.ino) ≡ true = ap (is_parent_written b) row ∙ written_from b r.parent written in
          let c : cond (is_among g.ino b.holds) (not (is_parent_written b (row_at s.home g.ino))) (is_parent_written b (row_at s.home g.ino)) ≡ true =
          ap (λ t. cond t (not (is_parent_written b (row_at s.home g.ino))) (is_parent_written b (row_at s.home g.ino))) free ∙ w in
          let own : (eqb g.lib lib && is_hold g.kind) ≡ true = and_from (eqb g.lib lib) (is_hold g.kind) (eq-eqb g.lib lib mine) (ap is_hold kind) in
          let parted : is_parted s lib b g ≡ true = and_from (eqb g.lib lib && is_hold g.kind) (cond (is_among g.ino b.holds) (not (is_parent_written b (row_at s.home g.ino))) (is_parent_written b (row_at s.home g.ino))) own c in
          absurd (both_ways (is_parted s lib b g) (unparted_at s lib b g none i) parted)
    ]

hold_in_bundle : (kind : GrantKind) (a w h : Bool) → kind ≡ Hold → (a && ((is_write kind && w) || (is_hold kind && h))) ≡ true → h ≡ true
hold_in_bundle kind a w h e t = search (arith, and_parts)

pub hold_reads : (kind : GrantKind) → kind ≡ Hold → is_read kind ≡ false
hold_reads kind e = ap is_read e

-- each grant of the library, but one for reading, is in a bundle of all that it has
pub own_in_all : (s : State) (lib : ℕ) (b : Bundle) (g : OpenGrant) → has_all s lib b ≡ true → In g s.open_grants → g.lib ≡ lib → is_read g.kind ≡ false → is_in_bundle lib b g ≡ true
own_in_all s lib b g all i mine quiet = search (arith, and_parts, list_all-In, or_cases, both_ways, not-true, eq-eqb, false≢true)

-- a bundle of all that the library has is closed
pub closed_all : (s : State) (lib : ℕ) (b : Bundle) → has_all s lib b ≡ true → Closed s lib b
closed_all s lib b all g r i kind mine row written =
    is_among-In g.ino b.holds (hold_in_bundle g.kind (eqb g.lib lib) (is_written b g.ino) (is_among g.ino b.holds) kind (own_in_all s lib b g all i mine (hold_reads g.kind kind)))

-- none of its holds is parted from the lease on the directory
pub unparted_all : (s : State) (k : Kept s) (lib : ℕ) (b : Bundle) → has_all s lib b ≡ true → parted_hold s lib b ≡ None
unparted_all s k lib b all =
    unparted_from s lib b
    (λ g i. false_from_ne_true (is_parted s lib b g)
    (λ t.
    let p = and_parts (eqb g.lib lib && is_hold g.kind) (cond (is_among g.ino b.holds) (not (is_parent_written b (row_at s.home g.ino))) (is_parent_written b (row_at s.home g.ino))) t in
    let q = and_parts (eqb g.lib lib) (is_hold g.kind) p.0 in
    let mine : g.lib ≡ lib = eqb-true g.lib lib q.0 in
    let kind : g.kind ≡ Hold = hold_is g.kind q.1 in
    let held : is_among g.ino b.holds ≡ true = hold_in_bundle g.kind (eqb g.lib lib) (is_written b g.ino) (is_among g.ino b.holds) kind (own_in_all s lib b g all i mine (hold_reads g.kind kind)) in
    let no : not (is_parent_written b (row_at s.home g.ino)) ≡ true = ap (λ c. cond c (not (is_parent_written b (row_at s.home g.ino))) (is_parent_written b (row_at s.home g.ino))) (sym held) ∙ p.1 in
    both_ways (is_parent_written b (row_at s.home g.ino)) (not-true (is_parent_written b (row_at s.home g.ino)) no)
    (parent_in_all (row_at s.home g.ino) (subst (λ l. has_parent_grant s l (row_at s.home g.ino) ≡ true) mine (k.held g i kind)))))
  where
    hold_is : (t : GrantKind) → is_hold t ≡ true → t ≡ Hold
    hold_is t e = search (arith, false≢true)

    write_quiet : (t : GrantKind) → is_write t ≡ true → is_read t ≡ false
    write_quiet t e = search (arith, false≢true)

    write_in_bundle : (t : GrantKind) (a w h : Bool) → is_write t ≡ true → (a && ((is_write t && w) || (is_hold t && h))) ≡ true → w ≡ true
    write_in_bundle t a w h e q = search (arith, false≢true)

    parent_in_all : (o : Option Row) → has_parent_grant s lib o ≡ true → is_parent_written b o ≡ true
    parent_in_all None e = absurd (false≢true e)
    parent_in_all (Some r) e =
        let w = list_any-In (λ (x : OpenGrant). eqb x.lib lib && eqb x.ino r.parent && is_write x.kind) s.open_grants e in
        let p = and_parts (eqb w.0.lib lib && eqb w.0.ino r.parent) (is_write w.0.kind) w.2 in
        let q = and_parts (eqb w.0.lib lib) (eqb w.0.ino r.parent) p.0 in
        ap (is_written b) (sym (eqb-true w.0.ino r.parent q.1))
        ∙ write_in_bundle w.0.kind (eqb w.0.lib lib) (is_written b w.0.ino) (is_among w.0.ino b.holds) p.1 (own_in_all s lib b w.0 all w.1 (eqb-true w.0.lib lib q.0) (write_quiet w.0.kind p.1))

module _ (s : State) (k : Kept s) (lib : ℕ) (b : Bundle) (given : GivenTo s lib b) where
  -- a held file is not written
  pub held_unwritten : (n : ℕ) → In n b.holds → Unwritten b n
  held_unwritten n i w j e =
      let h = given.holds n i in
      let g = given.writes w j in
      let same : g.grant ≡ h.grant = write_alone s.open_grants g.grant h.grant k.apart g.is_open h.is_open g.kind (g.ino ∙ e ∙ sym h.ino) in
      let wrong : Write ≡ Hold = sym g.kind ∙ ap (λ (x : OpenGrant). x.kind) same ∙ h.kind in
      absurd (cc wrong)

  -- the pages of a written file are those that its grant lent
  pub written_same : (w : Written) (i : In w b.writes) → sheet_numbers (w.index ++ w.blocks) ≡ sheet_numbers ((given.writes w i).grant.index ++ (given.writes w i).grant.blocks)
  written_same w i = search (arith, map-append)

  pub written_lent : (w : Written) (i : In w b.writes) (p : ℕ) → In p (sheet_numbers (w.index ++ w.blocks)) → In p (sheet_numbers ((given.writes w i).grant.index ++ (given.writes w i).grant.blocks))
  written_lent w i p a = subst (λ l. In p l) (written_same w i) a

  pub bundle_page : (p : ℕ) → In p (bundle_pages b) → In p (sheet_numbers b.pages) ⊎ ((w : Written) × In w b.writes × In p (sheet_numbers (w.index ++ w.blocks)))
  bundle_page p i =
      let r = map-In (λ (x : Sheet). x.page) p (bundle_sheets b) i in
      elim (In-cases r.0 (flat_map (λ (w : Written). w.index ++ w.blocks) b.writes) b.pages r.1) [
        | inl a ↦ let q = flat_map-In (λ (w : Written). w.index ++ w.blocks) r.0 b.writes a in inr (q.0, q.1, in_numbers (q.0.index ++ q.0.blocks) r.0 p q.2 r.2)
        | inr a ↦ inl (in_numbers b.pages r.0 p a r.2)
      ]

  -- a page of the bundle is free, or its owner is a written file
  pub page_owned : (p : ℕ) → In p (bundle_pages b) → (slice_index s.home.owners p ≡ 0) ⊎ ((w : Written) × In w b.writes × (slice_index s.home.owners p ≡ w.ino))
  page_owned p i =
      elim (bundle_page p i) [
        | inl a ↦ inl (k.out_free p (ap is_some (given.pages p a)))
        | inr w ↦
            let g = given.writes w.0 w.1 in
            let l = k.lent g.grant g.is_open g.kind in
            let a = lent_met s k g.grant g.is_open g.kind p (written_lent w.0 w.1 p w.2) in
            inr (w.0, w.1, owner_listed (settled s).core plain k.fit k.verifies.sound (settled s) (tables s k) l.met p l.stands a ∙ l.number ∙ g.ino)
      ]

  -- the pages of an unwritten live file are none of the bundle's
  pub unwritten_apart : (m : Met) (p : ℕ) → In m (survey (settled s).core plain) → Unwritten b m.ino → In p (pages_of (settled s).core m) → In p (bundle_pages b) → ⊥
  unwritten_apart m p i un a j =
      let own = owner_listed (settled s).core plain k.fit k.verifies.sound (settled s) (tables s k) m p i a in
      let pos : 0 < m.ino = (met_numbered (settled s).core plain k.fit k.verifies.sound m i).0 in
      elim (page_owned p j) [
        | inl z ↦ omega (arith, own, pos, z)
        | inr w ↦ un w.0 w.1 (sym w.2 ∙ own)
      ]

  pub page_kept : (p : ℕ) → (In p (bundle_pages b) → ⊥) → page_of (proposed (settled s) b) p ≡ page_of (settled s).core p
  page_kept p none =
      page_same (settled s).core (with_pages (bundle_sheets b) (settled s).core.pages) p (with_pages_apart (bundle_sheets b) (settled s).core.pages p none)

  -- a file of the proposed core with the kind and the body of an unwritten live file lists that file's pages
  pub kept_chain : (m m0 : Met) (f f0 : FileRead) → In m0 (survey (settled s).core plain) → file_of (settled s).core m0 ≡ Ok f0 → file_of (proposed (settled s) b) m ≡ Ok f → Unwritten b m0.ino → m.kind ≡ m0.kind → m.body ≡ m0.body → f.chain ≡ f0.chain
  kept_chain m m0 f f0 i e0 e un kind body =
      let core : Core = (settled s).core in
      let r = reads_from (proposed (settled s) b) m f e in
      let r0 = reads_from core m0 f0 e0 in
      let bodies : Some f.body ≡ Some f0.body = sym r.body ∙ ap (λ x. body_of x core.range m.body) kind ∙ ap (body_of m0.kind core.range) body ∙ r0.body in
      let same : f.body ≡ f0.body = cc bodies in
      let now : chain_of (proposed (settled s) b) f0.body ≡ Ok f0.chain =
      chain_follows core (proposed (settled s) b) refl (index_count (block_count f0.body.size)) (block_count f0.body.size) f0.body.head f0.chain r0.chain
      (λ p j. page_kept p (λ c. unwritten_apart m0 p i un (subst (λ l. In p l) (sym (pages_are core m0 f0 e0)) (In-left p f0.chain.index f0.chain.blocks j)) c)) in
      Ok-one (chain_of (proposed (settled s) b) f.body) f.chain f0.chain r.chain (ap (chain_of (proposed (settled s) b)) same ∙ now)

  -- a live file that is met where its row names has the body that is kept
  pub body_kept : IsFit (proposed (settled s) b) → is_sound (proposed (settled s) b) (proposed_pick (settled s) b) ≡ true → (m : Met) (r : Row) → In m (survey (proposed (settled s) b) (proposed_pick (settled s) b)) → row_at (settled s) m.ino ≡ Some r → r.parent ≡ m.parent → r.page ≡ m.page → r.slot ≡ m.slot → m.body ≡ kept_body (settled s) b m.ino
  body_kept fit sound m r i row parent page slot =
      let core : Core = proposed (settled s) b in
      let pick : Pick = proposed_pick (settled s) b in
      elim (root_or_listed core pick fit sound m i) [
        | inl e ↦ ap (λ (x : Met). x.body) e ∙ ap (λ (x : Met). kept_body (settled s) b x.ino) (sym e)
        | inr j ↦
            let q = flat_map-In (children core pick) m (survey core pick) j in
            let c = child_from core pick q.0 m q.2 in
            let l = c.entry in
            let placed : is_place_of m.parent m.page m.slot (row_at (settled s) m.ino) ≡ true =
            ap (is_place_of m.parent m.page m.slot) row ∙ and_from (eqb r.parent m.parent && eqb r.page m.page) (eqb r.slot m.slot) (and_from (eqb r.parent m.parent) (eqb r.page m.page) (eq-eqb r.parent m.parent parent) (eq-eqb r.page m.page page)) (eq-eqb r.slot m.slot slot) in
            let is_pick : m.body ≡ pick m.parent m.page m.slot m.ino l.body = picked_met pick q.0.ino m l c.is in
            is_pick ∙ ap (λ t. cond t (kept_body (settled s) b m.ino) l.body) placed
      ]

  -- so one that isn't written has its settled body
  pub body_picked : IsFit (proposed (settled s) b) → is_sound (proposed (settled s) b) (proposed_pick (settled s) b) ≡ true → (m : Met) (r : Row) → In m (survey (proposed (settled s) b) (proposed_pick (settled s) b)) → row_at (settled s) m.ino ≡ Some r → r.parent ≡ m.parent → r.page ≡ m.page → r.slot ≡ m.slot → Unwritten b m.ino → m.body ≡ settled_body (settled s) m.ino
  body_picked fit sound m r i row parent page slot un =
      body_kept fit sound m r i row parent page slot
      ∙ ap (λ o. option_map_or (λ (w : Written). w.body) o (settled_body (settled s) m.ino)) (unwritten_finds b m.ino un)

  -- a grant that the bundle does not end is no hold of it
  pub outside_unheld : (g : OpenGrant) → In g s.open_grants → is_in_bundle lib b g ≡ false → In g.ino b.holds → ⊥
  outside_unheld g i out j =
      let x = given.holds g.ino j in
      let same : x.grant ≡ g = alone s.open_grants x.grant g k.apart x.is_open i (hold_reads x.grant.kind x.kind) x.ino in
      let a : eqb g.lib lib ≡ true = eq-eqb g.lib lib (ap (λ (y : OpenGrant). y.lib) (sym same) ∙ x.lib) in
      let h : is_hold g.kind ≡ true = ap is_hold (ap (λ (y : OpenGrant). y.kind) (sym same) ∙ x.kind) in
      search (arith, both_ways, and_from, or_right, In-is_among)

  -- nor is it on a written file of it
  pub outside_unwritten : (g : OpenGrant) → In g s.open_grants → is_in_bundle lib b g ≡ false → Unwritten b g.ino
  outside_unwritten g i out w j e =
      let x = given.writes w j in
      let same : x.grant ≡ g = write_alone s.open_grants x.grant g k.apart x.is_open i x.kind (x.ino ∙ e) in
      let a : eqb g.lib lib ≡ true = eq-eqb g.lib lib (ap (λ (y : OpenGrant). y.lib) (sym same) ∙ x.lib) in
      let kind : is_write g.kind ≡ true = ap is_write (ap (λ (y : OpenGrant). y.kind) (sym same) ∙ x.kind) in
      let f = In-find (λ (w : Written). eqb w.ino g.ino) b.writes w j (eq-eqb w.ino g.ino e) in
      let some' : is_some (find (λ (w : Written). eqb w.ino g.ino) b.writes) ≡ true = ap is_some f.1 in
      search (arith, both_ways, and_from, or_left)
