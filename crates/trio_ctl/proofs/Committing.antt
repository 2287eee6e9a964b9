-- An accepted bundle that is put in place in the store: its end is that of an accepted one.
use Rattle.trio_ctl.proofs.Words.{Bool, Bundle, Checkpointed, Commits, Core, CoversLent, Creds, Ends, Image, In, In-cases, In-filter, In-flat, In-is_among, In-left, In-list_any, In-map, In-right, IsStored, IsTrue, List, ListedFile, Met, None, OpenGrant, Option, OutByNumber, Row, Sheet, Some, State, Store, Unwritten, Write, Written, [], among_cases, and_from, and_parts, ap, arith, both_ways, bundle_pages, bundle_sheets, cases_Bool, cases_lt, checkpoint_at, checkpoint_at-others, checkpoints_of, closed_unparted, cond, covered_at, covered_pages, covers_blocks, creds_of, eq-eqb, eqb-true, false, false_from_ne_true, filter, filter-In, find, find-In, flat_map-In, get_or, grants_after, grants_staying, guard_in, has_file, has_file_at, has_file_by, if◌then◌else◌, in_numbers, inl, inr, is_among, is_among-In, is_in_bundle, is_some, is_write, is_written, judged_from, le-leb, leb, leb-true, length, length-with_all, length-with_pages, lent_file, lent_met, lent_part, list_any-In, lt-ltb, ltb, map, map-In, map-append, new_from, new_not_live, next, not, not-true, not_among, option_map, option_map_or, owner_at, owner_of, page_there, pages_are, pages_of, place_there, plain, put_on, reads, refl, row_at, row_in, row_of, settled, sheet_numbers, slice_get, slice_index, some_of, sound_parts, state_of, subst, suc, superblock_fits, survey, sym, tabulated-length, true, with_all, with_all-read, with_bodies, with_checkpoint, with_pages, with_pages_known, within_some, write_is, written_find, written_ino, written_judged, zero, ℕ, ◌&&◌, ◌++◌, ◌+◌, ◌-◌, ◌<◌, ◌==◌, ◌∙◌, ◌∷◌, ◌≡◌, ◌⊎◌}
use Rattle.std.proofs.lemmas.Bool.{or_cases}
use Rattle.trio_layout.specs.Edges.{is_listed}
use Rattle.trio_layout.specs.Tables.{gives_up, owner_after}
use Rattle.trio_surveys.proofs.Accepted.{length-bodies}
use Rattle.trio_surveys.proofs.Owned.{index_apart}
use Rattle.trio_surveys.proofs.PageSlots.{pages_same}
use Rattle.trio_surveys.proofs.Putting.{put_on-none, with_bodies-get}
use Rattle.trio_surveys.proofs.Sheets.{place_within, with_pages_apart}
use Rattle.trio_state.specs.Bundles.{blank}
use Rattle.trio_laws.proofs.Accepting.{accepted_kept, handed_back}
use Rattle.trio_laws.proofs.Bundles.{unwritten_apart}
use Rattle.trio_laws.proofs.Checkpoints.{checkpoint_from}
use Rattle.trio_laws.proofs.judgement.TablesAfter.{listing_gives_tables}
use Rattle.trio_commit.specs.Bodies.{bodies_home, is_parent_lent}
use Rattle.trio_commit.specs.Listed.{file_numbers}
use Rattle.trio_ctl.specs.CommitLaws.{CommitIsNext}
use Rattle.trio_ctl.proofs.StoredFacts.{Checkpoints, HandedBundle, open_grant, sized, stays_unwritten, staying_same, unwritten_stays}
use Rattle.trio_ctl.proofs.Children.{children_at, length-children, listed_by, own_numbers, put_on-append, put_on-filter, put_over_any, with_own, with_own_blocks}
use Rattle.trio_ctl.proofs.AcceptedBundle.{AcceptedBundle, case_here, core_now, core_then, cs, few_rows, files_then, fit_then, judgeable, list_here, listed_core, low_owner, now, numbers_below, owners_long, page_covered, pick_then, placed_from, placed_parent, rows_long, sound_then}
use Rattle.trio_ctl.proofs.PagesPut.{all_put, is_outside, kept, kept_met, lent, placed, put, put_met, sheet_settled}

-- the bundle has come to the end of an accepted one, and the store is kept
pub record Committed (s s' : Store) (first_core : ℕ) (grants : List OpenGrant) (creds : List Creds) (entries lib : ℕ) (b : Bundle) : Type 0 where
  pub ends : Ends (state_of s first_core grants creds entries) lib b (next (settled (state_of s first_core grants creds entries)) b) (state_of s' first_core (grants_staying lib b grants) creds (entries + 1))
  pub stored : IsStored s' first_core (grants_staying lib b grants) creds (entries + 1)

-- ---- lists and pages

option_same : (f g : List ℕ → List ℕ) → ((bytes : List ℕ) → f bytes ≡ g bytes) → (o : Option (Option (List ℕ))) → option_map (option_map f) o ≡ option_map (option_map g) o
option_same f g h None = refl
option_same f g h (Some None) = refl
option_same f g h (Some (Some bytes)) = ap (λ x. Some (Some x)) (h bytes)

option_stays : (f : List ℕ → List ℕ) → ((bytes : List ℕ) → f bytes ≡ bytes) → (o : Option (Option (List ℕ))) → option_map (option_map f) o ≡ o
option_stays f h None = refl
option_stays f h (Some None) = refl
option_stays f h (Some (Some bytes)) = ap (λ x. Some (Some x)) (h bytes)

one_bytes : (o : Option (Option (List ℕ))) (x y : List ℕ) → o ≡ Some (Some x) → o ≡ Some (Some y) → x ≡ y
one_bytes o x y e f = (let s : Some (Some x) ≡ Some (Some y) = sym e ∙ f in cc s)

-- lists that are equal at each place
same_by_get : {X : Type 0} (d : X) (xs ys : List X) → length xs ≡ length ys → ((n : ℕ) → n < length xs → get_or xs n d ≡ get_or ys n d) → xs ≡ ys
same_by_get d [] [] e h = refl
same_by_get d [] (y ∷ ys) e h = absurd (omega (arith, e))
same_by_get d (x ∷ xs) [] e h = absurd (omega (arith, e))
same_by_get d (x ∷ xs) (y ∷ ys) e h =
    ap (λ z. z ∷ xs) (h zero (omega arith)) ∙ ap (λ l. y ∷ l) (same_by_get d xs ys (omega (arith, e)) (λ n lt. h (suc n) (omega (arith, lt))))

blank_by_number : (xs : List Sheet) → map blank xs ≡ map (λ (n : ℕ). record { page = n; bytes = [] }) (sheet_numbers xs)
blank_by_number [] = refl
blank_by_number (x ∷ xs) = ap (λ l. record { page = x.page; bytes = [] } ∷ l) (blank_by_number xs)

part_one : (old new : Checkpoints) (g : OpenGrant) (t : Bool) → is_write g.kind ≡ t → (t ≡ true → sheet_numbers (covered_at new g.ino) ≡ sheet_numbers (covered_at old g.ino)) → lent_part (with_checkpoint new g) ≡ lent_part (with_checkpoint old g)
part_one old new g true e h =
    ap (λ (b : Bool). record g { checkpoint = map blank (if b then covered_at new g.ino else []) }) e
    ∙ ap (λ (l : List Sheet). record g { checkpoint = l })
    (blank_by_number (covered_at new g.ino) ∙ ap (map (λ (n : ℕ). record { page = n; bytes = [] })) (h refl) ∙ sym (blank_by_number (covered_at old g.ino)))
    ∙ sym (ap (λ (b : Bool). record g { checkpoint = map blank (if b then covered_at old g.ino else []) }) e)
part_one old new g false e h =
    ap (λ (b : Bool). record g { checkpoint = map blank (if b then covered_at new g.ino else []) }) e
    ∙ sym (ap (λ (b : Bool). record g { checkpoint = map blank (if b then covered_at old g.ino else []) }) e)

-- grants whose checkpoints cover the same pages
parts_same : (old new : Checkpoints) (grants : List OpenGrant) → ((g : OpenGrant) → In g grants → is_write g.kind ≡ true → sheet_numbers (covered_at new g.ino) ≡ sheet_numbers (covered_at old g.ino)) → map lent_part (map (with_checkpoint new) grants) ≡ map lent_part (map (with_checkpoint old) grants)
parts_same old new [] h = refl
parts_same old new (g ∷ grants) h =
    ap (λ x. x ∷ map lent_part (map (with_checkpoint new) grants)) (part_one old new g (is_write g.kind) refl (h g (inl refl)))
    ∙ ap (λ l. lent_part (with_checkpoint old g) ∷ l) (parts_same old new grants (λ x i. h x (inr i)))

module _ (e : AcceptedBundle) (s' : Store) (is : Commits e.handed.store s' e.handed.bundle (list_here e)) where
  abbrev stay : List OpenGrant
  stay = grants_staying e.handed.lib.0 e.handed.bundle e.handed.grants

  abbrev after : State
  after = state_of s' e.handed.first_core (grants_staying e.handed.lib.0 e.handed.bundle e.handed.grants) e.handed.creds (e.handed.entries + 1)

  abbrev image : Image
  image = next (settled (now e)) e.handed.bundle

  abbrev C : Core
  C = core_now e

  abbrev b : Bundle
  b = e.handed.bundle

  -- ---- checkpoints

  stays_from : (g : OpenGrant) → In g stay → In g e.handed.grants
  stays_from g i = (filter-In (λ g. not (is_in_bundle e.handed.lib.0 b g)) g e.handed.grants i).0

  unwritten : (g : OpenGrant) → In g stay → Unwritten b g.ino
  unwritten g i = stays_unwritten e.handed.store e.handed.first_core e.handed.grants e.handed.creds e.handed.entries e.handed.stored e.handed.lib b e.handed.given g i

  -- a judged file is written, or isn't live
  judged_written : (n : ℕ) (r : Row) → row_in e.handed.store.rows n ≡ Some r → has_file (list_here e) n ≡ true → (w : Written) × In w e.handed.bundle.writes × (w.ino ≡ n)
  judged_written n r row has =
      let m = has_file_at (case_here e) n has in
      elim (judged_from (now e) e.handed.lib.0 b (judgeable e) m.0 m.1) [
        | inl w ↦ (w.0, w.1, sym (written_ino (case_here e) w.0) ∙ ap (λ (x : Met). x.ino) (sym w.2) ∙ m.2)
        | inr x ↦ (let new = new_from (now e) e.handed.lib.0 b (judgeable e) x.0 m.0 x.2 in absurd (new_not_live (now e) e.handed.lib.0 b (judgeable e) m.0.ino r new.1 (ap (row_at (settled (now e))) m.2 ∙ row)))
      ]

  file_has : (n : ℕ) → In n (file_numbers (list_here e)) → has_file (list_here e) n ≡ true
  file_has n i =
      let f = map-In (λ (f : ListedFile). f.ino) n (list_here e).files i in
      In-list_any (λ (f : ListedFile). f.ino == n) f.0 (list_here e).files f.1 (eq-eqb f.0.ino n (sym f.2))

  live_row : (g : OpenGrant) → In g e.handed.grants → (r : Row) × (row_in e.handed.store.rows g.ino ≡ Some r)
  live_row g i =
      some_of (row_in e.handed.store.rows g.ino) (e.handed.stored.kept.live (with_checkpoint (cs e) g) (open_grant e.handed.store e.handed.first_core e.handed.grants e.handed.creds e.handed.entries e.handed.stored g i))

  no_file : (g : OpenGrant) → In g stay → is_among g.ino (file_numbers (list_here e)) ≡ false
  no_file g i =
      not_among g.ino (file_numbers (list_here e))
      (λ j.
      let r = live_row g (stays_from g i) in
      let w = judged_written g.ino r.0 r.1 (file_has g.ino j) in
      unwritten g i w.0 w.1 w.2)

  -- the checkpoint of a write grant that stays has the bodies of its directory's children
  record Stays (g : OpenGrant) : Type 0 where
    was : Checkpointed
    there : checkpoint_at (cs e) g.ino ≡ Some was
    covers : CoversLent g was
    then' : checkpoint_at s'.checkpoints.items g.ino ≡ Some (with_own_blocks g.ino (placed e) was)

  stays : (g : OpenGrant) → In g stay → g.kind ≡ Write → Stays g
  stays g i kind =
      let c = e.handed.stored.covers g (stays_from g i) kind in
      record {
        was = c.0;
        there = c.1;
        covers = c.2;
        then' =
            ap (λ xs. checkpoint_at xs g.ino) is.checkpoints
            ∙ checkpoint_at-others (file_numbers (list_here e)) g.ino (lent e) (no_file g i)
            ∙ children_at (placed e) (cs e) g.ino
            ∙ ap (option_map (with_own_blocks g.ino (placed e))) c.1;
      }

  same_numbers : (g : OpenGrant) (c : Checkpointed) → sheet_numbers (covered_pages (with_own_blocks g.ino (placed e) c)) ≡ sheet_numbers (covered_pages c)
  same_numbers g c =
      map-append (λ (x : Sheet). x.page) c.index (map (with_own g.ino (placed e)) c.blocks)
      ∙ ap (λ l. sheet_numbers c.index ++ l) (own_numbers g.ino (placed e) c.blocks)
      ∙ sym (map-append (λ (x : Sheet). x.page) c.index c.blocks)

  covered_same : (g : OpenGrant) → In g stay → g.kind ≡ Write → sheet_numbers (covered_at s'.checkpoints.items g.ino) ≡ sheet_numbers (covered_at (cs e) g.ino)
  covered_same g i kind =
      let t = stays g i kind in
      ap (λ o. sheet_numbers (option_map_or covered_pages o [])) t.then'
      ∙ same_numbers g t.was
      ∙ ap (λ o. sheet_numbers (option_map_or covered_pages o [])) (sym t.there)

  write_kind : (g : OpenGrant) → is_write g.kind ≡ true → g.kind ≡ Write
  write_kind g t = write_is g.kind t

  grants_like : map lent_part after.open_grants ≡ map lent_part (grants_after (now e) e.handed.lib.0 b)
  grants_like =
      parts_same (cs e) s'.checkpoints.items stay (λ g i w. covered_same g i (write_kind g w))
      ∙ ap (map lent_part) (staying_same e.handed.store e.handed.first_core e.handed.grants e.handed.creds e.handed.entries e.handed.stored e.handed.lib b e.handed.given)

  -- ---- pages

  abbrev X : List (Option (List ℕ))
  X = with_bodies (bodies_home e.handed.store.rows (cs e) b) e.handed.store.home.pages

  placed_no_root : (m : Met) → In m (placed e) → m.ino ≡ 1 → ⊥
  placed_no_root m i one = (let p = placed_from e m i in p.other (ap (λ (x : Met). x.ino) (sym p.is) ∙ one))

  home_get : (p : ℕ) → slice_get s'.home.pages p ≡ option_map (option_map (put_on p (kept e))) (slice_get (with_pages (bundle_sheets b) X) p)
  home_get p = ap (λ ps. slice_get ps p) is.home ∙ with_bodies-get p (kept e) (with_pages (bundle_sheets b) X) (λ m i. (kept_met e m i).1)

  X_get : (p : ℕ) → slice_get X p ≡ option_map (option_map (put_on p (bodies_home e.handed.store.rows (cs e) b))) (slice_get e.handed.store.home.pages p)
  X_get p =
      with_bodies-get p (bodies_home e.handed.store.rows (cs e) b) e.handed.store.home.pages
      (λ m i. placed_no_root m (filter-In (λ m. not (is_parent_lent (cs e) m)) m (placed e) i).0)

  -- no kept child stands outside of the bundle
  kept_outside : (p : ℕ) → (In p (bundle_pages b) → ⊥) → (bytes : List ℕ) → put_on p (kept e) bytes ≡ bytes
  kept_outside p none bytes = put_on-none p (kept e) bytes (λ m i on. none (subst (λ n. In n (bundle_pages b)) on (kept_met e m i).2))

  home_outside : (p : ℕ) → (In p (bundle_pages b) → ⊥) → slice_get s'.home.pages p ≡ option_map (option_map (put_on p (bodies_home e.handed.store.rows (cs e) b))) (slice_get e.handed.store.home.pages p)
  home_outside p none =
      home_get p
      ∙ option_stays (put_on p (kept e)) (kept_outside p none) (slice_get (with_pages (bundle_sheets b) X) p)
      ∙ with_pages_apart (bundle_sheets b) X p none
      ∙ X_get p

  next_get : (p : ℕ) → slice_get image.core.pages p ≡ option_map (option_map (put_on p (put e))) (slice_get (core_then e).pages p)
  next_get p = ap (λ ps. slice_get ps p) (sym (all_put e)) ∙ with_bodies-get p (put e) (core_then e).pages (λ m i. (put_met e m i).1)

  put_outside : (p : ℕ) → (In p (bundle_pages b) → ⊥) → (bytes : List ℕ) → put_on p (put e) bytes ≡ put_on p (placed e) bytes
  put_outside p none bytes =
      put_on-append p (filter (is_outside e) (placed e)) (kept e) bytes
      ∙ kept_outside p none (put_on p (filter (is_outside e) (placed e)) bytes)
      ∙ put_on-filter p (is_outside e) (placed e) bytes
      (λ m i on. ap not (false_from_ne_true (is_among m.page (bundle_pages b)) (λ t. none (subst (λ n. In n (bundle_pages b)) on (is_among-In m.page (bundle_pages b) t)))))

  next_outside : (p : ℕ) → (In p (bundle_pages b) → ⊥) → slice_get image.core.pages p ≡ option_map (option_map (put_on p (placed e))) (slice_get C.pages p)
  next_outside p none =
      next_get p
      ∙ option_same (put_on p (put e)) (put_on p (placed e)) (put_outside p none) (slice_get (core_then e).pages p)
      ∙ ap (option_map (option_map (put_on p (placed e)))) (with_pages_apart (bundle_sheets b) C.pages p none)

  put_inside : (p : ℕ) → In p (bundle_pages b) → (bytes : List ℕ) → put_on p (put e) bytes ≡ put_on p (kept e) bytes
  put_inside p i bytes =
      put_on-append p (filter (is_outside e) (placed e)) (kept e) bytes
      ∙ ap (put_on p (kept e))
      (put_on-none p (filter (is_outside e) (placed e)) bytes
      (λ m j on.
      both_ways (is_among m.page (bundle_pages b))
      (not-true (is_among m.page (bundle_pages b)) (filter-In (is_outside e) m (placed e) j).1)
      (In-is_among m.page (bundle_pages b) (subst (λ n. In n (bundle_pages b)) (sym on) i))))

  X_long : length X ≡ length C.pages
  X_long = length-bodies (bodies_home e.handed.store.rows (cs e) b) e.handed.store.home.pages ∙ sym (length-with_pages (checkpoints_of (now e).open_grants) e.handed.store.home.pages)

  -- a page of the bundle
  inside_then : (p : ℕ) → In p (bundle_pages b) → slice_get s'.home.pages p ≡ slice_get image.core.pages p
  inside_then p i =
      home_get p
      ∙ ap (option_map (option_map (put_on p (kept e)))) (put_over_any (bundle_sheets b) X C.pages p X_long i)
      ∙ sym (option_same (put_on p (put e)) (put_on p (kept e)) (put_inside p i) (slice_get (core_then e).pages p))
      ∙ sym (next_get p)

  -- a page that a grant lent which stays is none of the bundle's
  lent_outside : (g : OpenGrant) (p : ℕ) → In g stay → g.kind ≡ Write → In p (sheet_numbers (g.index ++ g.blocks)) → In p (bundle_pages b) → ⊥
  lent_outside g p i kind a =
      let h : OpenGrant = with_checkpoint (cs e) g in
      let open' = open_grant e.handed.store e.handed.first_core e.handed.grants e.handed.creds e.handed.entries e.handed.stored g (stays_from g i) in
      let l = e.handed.stored.kept.lent h open' kind in
      unwritten_apart (now e) e.handed.stored.kept e.handed.lib.0 b e.handed.given l.met p l.stands (subst (λ n. Unwritten b n) (sym l.number) (unwritten g i)) (lent_met (now e) e.handed.stored.kept h open' kind p a)

  index_lent : (g : OpenGrant) (c : Checkpointed) (p : ℕ) → CoversLent g c → In p (sheet_numbers c.index) → In p (sheet_numbers g.index)
  index_lent g c p v a = subst (λ ns. In p ns) v.index a

  block_lent : (g : OpenGrant) (c : Checkpointed) (p : ℕ) → CoversLent g c → In p (sheet_numbers c.blocks) → In p (sheet_numbers g.blocks)
  block_lent g c p v a = by (covers_blocks g.of (guard_in g.body)) (subst (λ ns. In p ns) v.blocks a)
    where
      by : (t : Bool) → In p (if t then sheet_numbers g.blocks else []) → In p (sheet_numbers g.blocks)
      by true i = i
      by false i = absurd i

  in_lent : (g : OpenGrant) (p : ℕ) → In p (sheet_numbers g.index) ⊎ In p (sheet_numbers g.blocks) → In p (sheet_numbers (g.index ++ g.blocks))
  in_lent g p (inl a) = subst (λ ns. In p ns) (sym (map-append (λ (x : Sheet). x.page) g.index g.blocks)) (In-left p (sheet_numbers g.index) (sheet_numbers g.blocks) a)
  in_lent g p (inr a) = subst (λ ns. In p ns) (sym (map-append (λ (x : Sheet). x.page) g.index g.blocks)) (In-right p (sheet_numbers g.index) (sheet_numbers g.blocks) a)

  -- a covered page is in the next image with the bodies of all placed files
  covered_next : (g : OpenGrant) (c : Checkpointed) (y : Sheet) → In g stay → g.kind ≡ Write → checkpoint_at (cs e) g.ino ≡ Some c → In y (covered_pages c) → In y.page (sheet_numbers (g.index ++ g.blocks)) → slice_get image.core.pages y.page ≡ Some (Some (put_on y.page (placed e) y.bytes))
  covered_next g c y i kind at a page =
      next_outside y.page (lent_outside g y.page i kind page)
      ∙ ap (option_map (option_map (put_on y.page (placed e)))) (page_there C y.page y.bytes (sheet_settled e g.ino c y at a)).1

  -- an index page has no bodies
  index_bare : (g : OpenGrant) (p : ℕ) (bytes : List ℕ) → In g stay → g.kind ≡ Write → In p (sheet_numbers g.index) → put_on p (placed e) bytes ≡ bytes
  index_bare g p bytes i kind a =
      put_on-none p (placed e) bytes
      (λ m j on.
      let q = placed_from e m j in
      let h = placed_parent e m q in
      let l = e.handed.stored.kept.lent (with_checkpoint (cs e) g) (open_grant e.handed.store e.handed.first_core e.handed.grants e.handed.creds e.handed.entries e.handed.stored g (stays_from g i)) kind in
      let page : q.row.page ≡ p = ap (λ (x : Met). x.page) (sym q.is) ∙ on in
      index_apart C (survey C plain) l.met h.parent l.file h.file p (sound_parts C plain e.handed.stored.kept.verifies.sound).paged l.stands h.stands l.read h.read
      (subst (λ ns. In p ns) l.index a)
      (subst (λ n. In n h.file.chain.blocks) page h.block))

  -- the bodies on a page that a grant lent are those of its directory's children
  block_own : (g : OpenGrant) (p : ℕ) (bytes : List ℕ) → In g stay → g.kind ≡ Write → In p (sheet_numbers g.blocks) → put_on p (listed_by g.ino (placed e)) bytes ≡ put_on p (placed e) bytes
  block_own g p bytes i kind a =
      put_on-filter p (λ m. m.parent == g.ino) (placed e) bytes
      (λ m j on.
      let q = placed_from e m j in
      let h = placed_parent e m q in
      let page : q.row.page ≡ p = ap (λ (x : Met). x.page) (sym q.is) ∙ on in
      let lists : In p (pages_of C h.parent) =
      subst (λ ns. In p ns) (sym (pages_are C h.parent h.file h.read)) (In-right p h.file.chain.index h.file.chain.blocks (subst (λ n. In n h.file.chain.blocks) page h.block)) in
      let owner = lent_file (now e) e.handed.stored.kept h.parent p (with_checkpoint (cs e) g) h.stands lists (open_grant e.handed.store e.handed.first_core e.handed.grants e.handed.creds e.handed.entries e.handed.stored g (stays_from g i)) kind (in_lent g p (inr a)) in
      eq-eqb m.parent g.ino (ap (λ (x : Met). x.parent) q.is ∙ sym h.number ∙ sym owner))

  -- a page that a checkpoint covers then is the next image's
  covered_then : (g : OpenGrant) (x : Sheet) → In g stay → g.kind ≡ Write → In x (covered_at s'.checkpoints.items g.ino) → slice_get image.core.pages x.page ≡ Some (Some x.bytes)
  covered_then g x i kind a =
      let t = stays g i kind in
      let c : Checkpointed = t.was in
      let here : In x (c.index ++ map (with_own g.ino (placed e)) c.blocks) = subst (λ o. In x (option_map_or covered_pages o [])) t.then' a in
      elim (In-cases x c.index (map (with_own g.ino (placed e)) c.blocks) here) [
        | inl j ↦
            let index = index_lent g c x.page t.covers (in_numbers c.index x x.page j refl) in
            covered_next g c x i kind t.there (In-left x c.index c.blocks j) (in_lent g x.page (inl index))
            ∙ ap (λ l. Some (Some l)) (index_bare g x.page x.bytes i kind index)
        | inr j ↦
            let y = map-In (with_own g.ino (placed e)) x c.blocks j in
            let block = block_lent g c y.0.page t.covers (in_numbers c.blocks y.0 y.0.page y.1 refl) in
            ap (slice_get image.core.pages) (ap (λ (z : Sheet). z.page) y.2)
            ∙ covered_next g c y.0 i kind t.there (In-right y.0 c.index c.blocks y.1) (in_lent g y.0.page (inr block))
            ∙ ap (λ l. Some (Some l)) (sym (block_own g y.0.page y.0.bytes i kind block))
            ∙ ap (λ (z : Sheet). Some (Some z.bytes)) (sym y.2)
      ]

  -- a sheet of the checkpoints then, with its grant
  sheet_from : (x : Sheet) → In x (checkpoints_of after.open_grants) → (g : OpenGrant) × In g stay × (g.kind ≡ Write) × In x (covered_at s'.checkpoints.items g.ino)
  sheet_from x i =
      let q = flat_map-In (λ (g : OpenGrant). g.checkpoint) x after.open_grants i in
      let g = map-In (with_checkpoint s'.checkpoints.items) q.0 stay q.1 in
      by g.0 g.1 (is_write g.0.kind) refl (subst (λ (h : OpenGrant). In x h.checkpoint) g.2 q.2)
    where
      by : (g : OpenGrant) → In g stay → (t : Bool) → is_write g.kind ≡ t → In x (if is_write g.kind then covered_at s'.checkpoints.items g.ino else []) → (h : OpenGrant) × In h stay × (h.kind ≡ Write) × In x (covered_at s'.checkpoints.items h.ino)
      by g j true w a = (g, j, write_kind g w, subst (λ (t : Bool). In x (if t then covered_at s'.checkpoints.items g.ino else [])) w a)
      by g j false w a = (let none : ⊥ = subst (λ (t : Bool). In x (if t then covered_at s'.checkpoints.items g.ino else [])) w a in absurd none)

  sheet_then : (x : Sheet) → In x (checkpoints_of after.open_grants) → slice_get image.core.pages x.page ≡ Some (Some x.bytes)
  sheet_then x i = (let g = sheet_from x i in covered_then g.0 x g.1 g.2 g.3)

  -- a page that no checkpoint covers then, outside of the bundle, was covered by none
  bare_before : (p : ℕ) → (In p (bundle_pages b) → ⊥) → (In p (sheet_numbers (checkpoints_of after.open_grants)) → ⊥) → In p (sheet_numbers (checkpoints_of (now e).open_grants)) → ⊥
  bare_before p none bare i =
      let x = map-In (λ (x : Sheet). x.page) p (checkpoints_of (now e).open_grants) i in
      let c = checkpoint_from (now e) e.handed.stored.kept x.0 x.1 in
      let g = map-In (with_checkpoint (cs e)) c.0 e.handed.grants c.1 in
      elim (cases_Bool (is_in_bundle e.handed.lib.0 b c.0)) [
        | inl own ↦ none (handed_back (now e) e.handed.stored.kept e.handed.lib.0 b e.handed.given c.0 p c.1 c.3 own (subst (λ n. In n (sheet_numbers (c.0.index ++ c.0.blocks))) (sym x.2) c.4))
        | inr out ↦ by g.0 x.0 (In-filter (λ g. not (is_in_bundle e.handed.lib.0 b g)) g.0 e.handed.grants g.1 (ap not (ap (is_in_bundle e.handed.lib.0 b) (sym g.2) ∙ out))) (ap (λ (h : OpenGrant). h.kind) (sym g.2) ∙ c.3) (subst (λ (h : OpenGrant). In x.0 h.checkpoint) g.2 c.2) x.2
      ]
    where
      by : (g : OpenGrant) (x : Sheet) → In g stay → g.kind ≡ Write → In x (with_checkpoint (cs e) g).checkpoint → p ≡ x.page → ⊥
      by g x j kind a on =
          let was : In x (covered_at (cs e) g.ino) = subst (λ (l : List Sheet). In x l) (ap (λ t. if is_write t then covered_at (cs e) g.ino else []) kind) a in
          let number : In p (sheet_numbers (covered_at s'.checkpoints.items g.ino)) =
          subst (λ ns. In p ns) (sym (covered_same g j kind)) (in_numbers (covered_at (cs e) g.ino) x p was on) in
          let y = map-In (λ (z : Sheet). z.page) p (covered_at s'.checkpoints.items g.ino) number in
          let h : OpenGrant = with_checkpoint s'.checkpoints.items g in
          let there : In y.0 h.checkpoint = subst (λ (l : List Sheet). In y.0 l) (sym (ap (λ t. if is_write t then covered_at s'.checkpoints.items g.ino else []) kind)) y.1 in
          bare (in_numbers (checkpoints_of after.open_grants) y.0 p (In-flat (λ (g : OpenGrant). g.checkpoint) h y.0 after.open_grants (In-map (with_checkpoint s'.checkpoints.items) g stay j) there) y.2)

  -- where no checkpoint covers a page, the bodies on it all went home
  home_all : (p : ℕ) → (In p (sheet_numbers (checkpoints_of (now e).open_grants)) → ⊥) → (bytes : List ℕ) → put_on p (bodies_home e.handed.store.rows (cs e) b) bytes ≡ put_on p (placed e) bytes
  home_all p bare bytes =
      put_on-filter p (λ m. not (is_parent_lent (cs e) m)) (placed e) bytes
      (λ m i on. ap not (false_from_ne_true (is_parent_lent (cs e) m)
      (λ t.
      let q = placed_from e m i in
      let h = placed_parent e m q in
      let c = some_of (checkpoint_at (cs e) m.parent) t in
      let g = e.handed.stored.of_grant m.parent c.0 c.1 in
      let up : g.0.ino ≡ q.row.parent = g.3 ∙ ap (λ (x : Met). x.parent) q.is in
      let v = page_covered e q.row h g.0 g.1 g.2 up in
      let page : q.row.page ≡ p = ap (λ (x : Met). x.page) (sym q.is) ∙ on in
      let y = map-In (λ (z : Sheet). z.page) p v.0.blocks (subst (λ n. In n (sheet_numbers v.0.blocks)) page v.2) in
      let k : OpenGrant = with_checkpoint (cs e) g.0 in
      let covers : k.checkpoint ≡ covered_pages v.0 = ap (λ t. if is_write t then covered_at (cs e) g.0.ino else []) g.2 ∙ ap (λ o. option_map_or covered_pages o []) v.1 in
      let there : In y.0 k.checkpoint = subst (λ (l : List Sheet). In y.0 l) (sym covers) (In-right y.0 v.0.index v.0.blocks y.1) in
      bare (in_numbers (checkpoints_of (now e).open_grants) y.0 p (In-flat (λ (g : OpenGrant). g.checkpoint) k y.0 (now e).open_grants (open_grant e.handed.store e.handed.first_core e.handed.grants e.handed.creds e.handed.entries e.handed.stored g.0 g.1) there) y.2))))

  outside_then : (p : ℕ) → (In p (bundle_pages b) → ⊥) → (In p (sheet_numbers (checkpoints_of after.open_grants)) → ⊥) → slice_get s'.home.pages p ≡ slice_get image.core.pages p
  outside_then p none bare =
      let before = bare_before p none bare in
      home_outside p none
      ∙ option_same (put_on p (bodies_home e.handed.store.rows (cs e) b)) (put_on p (placed e)) (home_all p before) (slice_get e.handed.store.home.pages p)
      ∙ ap (option_map (option_map (put_on p (placed e)))) (sym (with_pages_apart (checkpoints_of (now e).open_grants) e.handed.store.home.pages p before))
      ∙ sym (next_outside p none)

  pages_long : length s'.home.pages ≡ length e.handed.store.home.pages
  pages_long =
      ap length is.home
      ∙ length-bodies (kept e) (with_pages (bundle_sheets b) X)
      ∙ length-with_pages (bundle_sheets b) X
      ∙ length-bodies (bodies_home e.handed.store.rows (cs e) b) e.handed.store.home.pages

  next_long : length image.core.pages ≡ length e.handed.store.home.pages
  next_long =
      length-bodies (files_then e) (core_then e).pages
      ∙ length-with_pages (bundle_sheets b) C.pages
      ∙ length-with_pages (checkpoints_of (now e).open_grants) e.handed.store.home.pages

  page_then : (p : ℕ) → slice_get (with_pages (checkpoints_of after.open_grants) s'.home.pages) p ≡ slice_get image.core.pages p
  page_then p =
      elim (among_cases p (sheet_numbers (checkpoints_of after.open_grants))) [
        | inr bare ↦
            with_pages_apart (checkpoints_of after.open_grants) s'.home.pages p bare
            ∙ elim (among_cases p (bundle_pages b)) [
              | inl inside ↦ inside_then p inside
              | inr none ↦ outside_then p none bare
            ]
        | inl i ↦
            let x = map-In (λ (x : Sheet). x.page) p (checkpoints_of after.open_grants) i in
            let here : slice_get image.core.pages p ≡ Some (Some x.0.bytes) = ap (slice_get image.core.pages) x.2 ∙ sheet_then x.0 x.1 in
            let low : p < length image.core.pages = place_within image.core.pages p (Some x.0.bytes) here in
            let o = place_there s'.home.pages p (subst (λ n. p < n) (next_long ∙ sym pages_long) low) in
            with_pages_known (checkpoints_of after.open_grants) s'.home.pages p x.0.bytes o.0 i
            (λ y j on. one_bytes (slice_get image.core.pages p) y.bytes x.0.bytes (ap (slice_get image.core.pages) (sym on) ∙ sheet_then y j) here) o.1
            ∙ sym here
      ]

  pages_then : with_pages (checkpoints_of after.open_grants) s'.home.pages ≡ image.core.pages
  pages_then = pages_same (with_pages (checkpoints_of after.open_grants) s'.home.pages) image.core.pages page_then

  -- ---- tables

  rows_are : s'.rows ≡ image.rows
  rows_are =
      same_by_get None s'.rows image.rows
      (is.sizes.0 ∙ rows_long e ∙ sym (tabulated-length (row_of (core_then e) (files_then e)) ((core_then e).inodes + 1)))
      (λ n lt. is.rows n ∙ sym ((listing_gives_tables (now e) e.handed.lib.0 b (judgeable e) e.accepted).0 n))

  -- the controller's own number is no file's
  own_stays : gives_up (list_here e) 0xFFFFFFFF ≡ false
  own_stays =
      false_from_ne_true (gives_up (list_here e) 0xFFFFFFFF)
      (λ t.
      let few = few_rows e in
      elim (or_cases (has_file (list_here e) 0xFFFFFFFF) (is_among 0xFFFFFFFF (list_here e).held && not (is_listed (list_here e) 0xFFFFFFFF)) t) [
        | inl file ↦
            let f = list_any-In (λ (f : ListedFile). f.ino == 0xFFFFFFFF) (list_here e).files file in
            let low = ((numbers_below e).files f.0 f.1).1 in
            let same : f.0.ino ≡ 0xFFFFFFFF = eqb-true f.0.ino 0xFFFFFFFF f.2 in
            omega (arith, few, low, same)
        | inr gone ↦
            let held = is_among-In 0xFFFFFFFF (list_here e).held (and_parts (is_among 0xFFFFFFFF (list_here e).held) (not (is_listed (list_here e) 0xFFFFFFFF)) gone).0 in
            let low = ((numbers_below e).held 0xFFFFFFFF held).1 in
            omega (arith, few, low)
      ])

  -- a page below the core stays the controller's
  low_stays : (p : ℕ) → p < e.handed.first_core → p < length e.handed.store.home.pages → owner_after (list_here e) e.handed.store.owners p ≡ 0xFFFFFFFF
  low_stays p low below =
      by (find (λ (f : ListedFile). is_among p (f.index ++ f.blocks)) (list_here e).files) refl
    where
      by : (o : Option ListedFile) → find (λ (f : ListedFile). is_among p (f.index ++ f.blocks)) (list_here e).files ≡ o
          → option_map_or (λ (f : ListedFile). f.ino) o (if gives_up (list_here e) (slice_index e.handed.store.owners p) then 0 else slice_index e.handed.store.owners p) ≡ 0xFFFFFFFF
      by None s =
          ap (λ (n : ℕ). if gives_up (list_here e) n then 0 else n) (low_owner e p low below)
          ∙ ap (λ (t : Bool). if t then 0 else 0xFFFFFFFF) own_stays
      by (Some f) s =
          let q = find-In (λ (f : ListedFile). is_among p (f.index ++ f.blocks)) (list_here e).files f s in
          let c = listed_core e f p q.0 (is_among-In p (f.index ++ f.blocks) q.1) in
          let high = leb-true e.handed.first_core p (and_parts (leb e.handed.first_core p) (ltb p (length e.handed.store.home.pages)) c).0 in
          absurd (omega (arith, low, high))

  owners_are : s'.owners ≡ image.owners
  owners_are =
      same_by_get 0 s'.owners image.owners
      (is.sizes.1 ∙ owners_long e ∙ sym (tabulated-length _ (length e.handed.store.home.pages)))
      (λ p lt.
      let long = is.sizes.1 ∙ owners_long e in
      let below : p < length e.handed.store.home.pages = subst (λ n. p < n) long lt in
      is.owners p
      ∙ elim (cases_lt p e.handed.first_core) [
        | inl low ↦
            low_stays p low below
            ∙ sym (owner_at (core_then e) (pick_then e) (fit_then e) (sound_then e) image (record { rows = refl; owners = refl }) p below ∙ ap (λ t. cond t 0xFFFFFFFF (owner_of (core_then e) (files_then e) p)) (lt-ltb p e.handed.first_core low))
        | inr high ↦
            sym ((listing_gives_tables (now e) e.handed.lib.0 b (judgeable e) e.accepted).1 p
            (and_from (leb e.handed.first_core p) (ltb p (length e.handed.store.home.pages)) (le-leb e.handed.first_core p high) (lt-ltb p (length e.handed.store.home.pages) below)))
      ])

  -- ---- the end

  settles : settled after ≡ image
  settles =
      let J : List (Option (List ℕ)) → List ℕ → ℕ → ℕ → List (Option Row) → List ℕ → Image =
      λ pages root end inodes rows owners. record { core = record { pages = pages; root = root; range = record { first = e.handed.first_core; end = end }; inodes = inodes }; rows = rows; owners = owners } in
      ap (λ ps. J ps s'.root (length s'.home.pages) (length s'.rows - 1) s'.rows s'.owners) pages_then
      ∙ ap (λ x. J image.core.pages x (length s'.home.pages) (length s'.rows - 1) s'.rows s'.owners) is.root
      ∙ ap (λ x. J image.core.pages image.core.root x (length s'.rows - 1) s'.rows s'.owners) pages_long
      ∙ ap (λ (x : ℕ). J image.core.pages image.core.root (length e.handed.store.home.pages) (x - 1) s'.rows s'.owners) is.sizes.0
      ∙ ap (λ x. J image.core.pages image.core.root (length e.handed.store.home.pages) (length e.handed.store.rows - 1) x s'.owners) rows_are
      ∙ ap (J image.core.pages image.core.root (length e.handed.store.home.pages) (length e.handed.store.rows - 1) image.rows) owners_are

  ends : Ends (now e) e.handed.lib.0 b image after
  ends = record {
    settles = settles;
    grants = grants_like;
    pages = ap (λ (o : OutByNumber). o.pages) is.allotments;
    numbers = ap (λ (o : OutByNumber). o.numbers) is.allotments;
    creds = refl;
    entries = refl;
    away = λ p gone other. home_outside p other ∙ ap (option_map (option_map (put_on p (bodies_home e.handed.store.rows (cs e) b)))) gone;
  }

  -- a checkpoint that is left is that of a file that isn't judged, with the bodies of children
  left : (n : ℕ) (c : Checkpointed) → checkpoint_at s'.checkpoints.items n ≡ Some c → (was : Checkpointed) × (checkpoint_at (cs e) n ≡ Some was) × (is_among n (file_numbers (list_here e)) ≡ false)
  left n c s = by (is_among n (file_numbers (list_here e))) refl
    where
      here : checkpoint_at (with_all None (file_numbers (list_here e)) (lent e)) n ≡ Some c
      here = ap (λ xs. checkpoint_at xs n) (sym is.checkpoints) ∙ s

      below : n < length (lent e)
      below = subst (λ m. n < m) (length-with_all None (file_numbers (list_here e)) (lent e)) (within_some (with_all None (file_numbers (list_here e)) (lent e)) n (ap is_some here))

      was_some : (o : Option Checkpointed) → option_map (with_own_blocks n (placed e)) o ≡ Some c → (was : Checkpointed) × (o ≡ Some was)
      was_some None t = absurd cc
      was_some (Some d) t = (d, refl)

      by : (t : Bool) → is_among n (file_numbers (list_here e)) ≡ t → (was : Checkpointed) × (checkpoint_at (cs e) n ≡ Some was) × (is_among n (file_numbers (list_here e)) ≡ false)
      by true t =
          let none : None ≡ Some c = sym (with_all-read None None (file_numbers (list_here e)) n (lent e) below ∙ ap (λ (x : Bool). if x then None else checkpoint_at (lent e) n) t) ∙ here in
          absurd (cc none)
      by false t =
          let w = was_some (checkpoint_at (cs e) n) (sym (children_at (placed e) (cs e) n) ∙ sym (checkpoint_at-others (file_numbers (list_here e)) n (lent e) t) ∙ here) in
          (w.0, w.1, t)

  -- a written file is judged
  unjudged_unwritten : (n : ℕ) → is_among n (file_numbers (list_here e)) ≡ false → is_written b n ≡ false
  unjudged_unwritten n f =
      false_from_ne_true (is_written b n)
      (λ t.
      let w = written_find (now e) e.handed.lib.0 b (judgeable e) n t in
      let i = written_judged (now e) e.handed.lib.0 b (judgeable e) w.0 w.1 in
      let r = reads (now e) e.handed.lib.0 b (judgeable e) e.accepted _ i in
      let has = has_file_by (case_here e) _ r.file n i r.within (written_ino (case_here e) w.0 ∙ w.2) in
      let q = list_any-In (λ (f : ListedFile). f.ino == n) (list_here e).files has in
      let among : In n (file_numbers (list_here e)) = subst (λ k. In k (file_numbers (list_here e))) (eqb-true q.0.ino n q.2) (In-map (λ (f : ListedFile). f.ino) q.0 (list_here e).files q.1) in
      both_ways (is_among n (file_numbers (list_here e))) f (In-is_among n (file_numbers (list_here e)) among))

  pub committed : Committed e.handed.store s' e.handed.first_core e.handed.grants e.handed.creds e.handed.entries e.handed.lib.0 e.handed.bundle
  committed = record {
    ends = ends;
    stored = record {
      fits =
          subst (λ n. IsTrue (superblock_fits (sized e.handed.first_core n (length s'.rows)))) (sym pages_long)
          (subst (λ n. IsTrue (superblock_fits (sized e.handed.first_core (length e.handed.store.home.pages) n))) (sym is.sizes.0) e.handed.stored.fits);
      places = ap length is.checkpoints ∙ length-with_all None (file_numbers (list_here e)) (lent e) ∙ length-children (placed e) (cs e) ∙ e.handed.stored.places ∙ sym is.sizes.0;
      of_grant = λ n c s.
          let l = left n c s in
          let g = e.handed.stored.of_grant n l.0 l.1 in
          (g.0, unwritten_stays e.handed.store e.handed.first_core e.handed.grants e.handed.creds e.handed.entries e.handed.stored e.handed.lib b e.handed.given g.0 g.1 g.2 (ap (is_written b) g.3 ∙ unjudged_unwritten n l.2), g.2, g.3);
      covers = λ g i w.
          let t = stays g i w in
          (with_own_blocks g.ino (placed e) t.was, t.then', record { body = t.covers.body; chain = t.covers.chain; index = t.covers.index; blocks = own_numbers g.ino (placed e) t.was.blocks ∙ t.covers.blocks });
      kept = accepted_kept (now e) after e.handed.stored.kept e.handed.lib.0 (creds_of (now e) e.handed.lib.0) b e.handed.given (closed_unparted (now e) e.handed.lib.0 b e.handed.closed) e.accepted ends;
    };
  }

-- where such a store is kept, what `commit` says of it is the next image
pub commit_is_next : CommitIsNext
commit_is_next s s' first_core grants creds entries lib b stored here commits =
    let handed : HandedBundle = record { store = s; first_core = first_core; grants = grants; creds = creds; entries = entries; stored = stored; lib = lib; bundle = b; given = here.0.given; closed = here.0.closed } in
    let done = committed (record { handed = handed; accepted = here.1 }) s' commits in
    (done.ends, done.stored)
