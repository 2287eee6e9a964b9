-- The pages that store the image of a state with nothing lent: they verify, and they store just that image, with all zeros in
-- place of the pages that are out by allotment.
use Rattle.trio_ctl.proofs.Words.{if◌then◌else◌, ◌+◌, ◌-◌, ◌<◌, ◌∙◌, ◌≡◌, ◌≤◌, Bool, Core, Creds, Image, ImagePages, In, IsVerified, List, Met, None, Option, OutByNumber, Row, Some, State, Superblock, Verifies, and_parts, ap, arith, core_in, eq-eqb, false, false≢true, free_unlisted, get_or, image_in, inl, inr, is_core, is_out, is_whole_page, le-leb, leb-true, length, lt-ltb, ltb-true, map, nat_le, nat_lt, or_zero, page_of, pages_are, pages_from, pages_of, plain, refl, row_of, settled, slice_get, slice_get-get_or, slice_index, slice_index_or, stored_pages, subst, superblock_facts, superblock_for, survey, sym, tables_of, tabulated-get, tabulated-length, true, ℕ}
use Rattle.std.specs.Prelude.{is_some, IsTrue}
use Rattle.std.proofs.lemmas.List.{get_or-map}
use Rattle.trio_tables.specs.Out.{NoneOut}
use Rattle.trio_page.specs.Field.{zeros}
use Rattle.trio_page.proofs.Cursor.{length-zeros}
use Rattle.trio_tables.specs.Stored.{shadow_bytes, owner_bytes}
use Rattle.trio_layout.specs.Superblock.{superblock_bytes}
use Rattle.trio_survey.specs.Stored.{HasSuperblock, PagesVerify, StoresImage, StoresTables}
use Rattle.trio_surveys.specs.Reading.{with_other, AgreeOn}
use Rattle.trio_surveys.proofs.Accepted.{agreeing_verifies}
use Rattle.trio_laws.proofs.Refusing.{read_listed}
use Rattle.trio_image.specs.Image.{IsWholeImage, TablesAre}
use Rattle.trio_ctl.specs.Ctl.{with_zeros, TellsSettled}
use Rattle.trio_ctl.proofs.AtHome.{IsAtHome, home_image, state_at_home}
use Rattle.trio_image.specs.Front.{FillsPages, owner_count, shadow_count}
use Rattle.trio_image.proofs.Storing.{laid_core, laid_count, laid_first, laid_superblock, laid_tables, laid_whole, tabulated-all, IsLaid}
use Rattle.trio_ctl.proofs.Wholes.{cond_same}

no_lent : (t : Bool) → IsTrue t → t ≡ false → ⊥
no_lent true e f = absurd cc
no_lent false e f = absurd cc

module _ (s : Superblock) (pages : List (Option (List ℕ))) (rows : List (Option Row)) (owners : List ℕ) (outs : OutByNumber) (creds : List Creds) (entries : ℕ) (k : IsAtHome s pages rows owners outs creds entries) (shadow_full : FillsPages (shadow_bytes rows) (shadow_count rows)) (owner_full : FillsPages (owner_bytes owners) (owner_count owners)) where
  abbrev now : State
  now = state_at_home s pages rows owners outs creds entries

  abbrev image : Image
  image = home_image s pages rows owners

  abbrev core : Core
  core = core_in s pages

  abbrev stored : List (Option (List ℕ))
  stored = stored_pages s pages rows owners

  verifies : Verifies image
  verifies = k.kept.verifies

  many_rows : length rows ≡ s.inodes + 1
  many_rows = ap length verifies.rows ∙ tabulated-length (row_of core (survey core plain)) (s.inodes + 1)

  many_owners : length owners ≡ s.pages
  many_owners = ap length verifies.owners ∙ tabulated-length _ s.pages

  abbrev core_pages : List (Option (List ℕ))
  core_pages = pages_from pages s.first_core (s.pages - s.first_core)

  laid : IsLaid s rows owners core_pages
  laid = record {
    fits = k.fits;
    root = k.root;
    many_rows = many_rows;
    many_owners = many_owners;
    many_pages = tabulated-length (λ n. or_zero (slice_index_or pages (s.first_core + n) None)) (s.pages - s.first_core);
  }

  pub stored_count : length stored ≡ s.pages
  stored_count = laid_count s rows owners core_pages laid

  stored_first : get_or stored 0 None ≡ Some (superblock_bytes s)
  stored_first = laid_first s rows owners core_pages laid

  pub stored_core : (p : ℕ) → s.first_core ≤ p → p < s.pages → get_or stored p None ≡ or_zero (get_or pages p None)
  stored_core p le lt =
      let n : ℕ = p - s.first_core in
      let below : n < s.pages - s.first_core = omega arith in
      let back : s.first_core + n ≡ p = omega arith in
      ap (λ (i : ℕ). get_or stored i None) (sym back)
      ∙ laid_core s rows owners core_pages laid n
      ∙ tabulated-get (λ n. or_zero (slice_index_or pages (s.first_core + n) None)) (s.pages - s.first_core) n None below
      ∙ ap (λ (i : ℕ). or_zero (get_or pages i None)) back

  is_core_at : (p : ℕ) → s.first_core ≤ p → p < s.pages → is_core core.range p ≡ true
  is_core_at p le lt = rw (le-leb s.first_core p le, lt-ltb p s.pages lt) refl

  -- a core page that is absent is out by allotment
  absent_out : (p : ℕ) → s.first_core ≤ p → p < s.pages → get_or pages p None ≡ None → is_out outs.pages p ≡ true
  absent_out p le lt e =
      let gone : slice_get pages p ≡ Some None = slice_get-get_or pages p None (omega (arith, k.count)) ∙ ap Some e in
      elim (k.kept.absent p gone (is_core_at p le lt)) [
        | inl lent ↦ absurd (no_lent false lent refl)
        | inr out ↦ out
      ]

  -- so no file lists it
  absent_unlisted : (p : ℕ) → s.first_core ≤ p → p < s.pages → get_or pages p None ≡ None → (m : Met) → In m (survey core plain) → In p (pages_of core m) → ⊥
  absent_unlisted p le lt e m i a =
      let zero' : slice_index owners p ≡ 0 = k.kept.out_free p (absent_out p le lt e) in
      free_unlisted core plain k.kept.fit verifies.sound image (tables_of now k.kept) p zero' m i a

  -- each core page that is stored is whole
  core_whole : (p : ℕ) → s.first_core ≤ p → p < s.pages → is_whole_page (or_zero (get_or pages p None)) ≡ true
  core_whole p le lt = by_page (get_or pages p None) refl
    where
      by_page : (o : Option (List ℕ)) → get_or pages p None ≡ o → is_whole_page (or_zero o) ≡ true
      by_page None e = eq-eqb (length (zeros 4096)) 4096 (length-zeros 4096)
      by_page (Some bytes) e =
          let there : page_of core p ≡ Some bytes = ap (λ b. if b then get_or pages p None else None) (is_core_at p le lt) ∙ e in
          eq-eqb (length bytes) 4096 (k.kept.fit.full p bytes there)

  stored_whole : IsWholeImage s stored
  stored_whole =
      laid_whole s rows owners core_pages laid shadow_full owner_full
      (tabulated-all is_whole_page (λ n. or_zero (slice_index_or pages (s.first_core + n) None)) (s.pages - s.first_core) (λ n lt. core_whole (s.first_core + n) (omega arith) (omega arith)))

  stored_superblock : HasSuperblock s stored
  stored_superblock = laid_superblock s rows owners core_pages laid

  tables : StoresTables s stored rows owners
  tables = laid_tables s rows owners core_pages laid

  stored_agrees : AgreeOn core (with_other core stored) (survey core plain)
  stored_agrees m f p i e j =
      cond_same (is_core core.range p) (get_or stored p None) (get_or pages p None)
      (λ t.
      let b = and_parts (nat_le s.first_core p) (nat_lt p s.pages) t in
      let le = leb-true s.first_core p b.0 in
      let lt = ltb-true p s.pages b.1 in
      let listed : In p (pages_of core m) = subst (λ l. In p l) (sym (pages_are core m f e)) (read_listed m.kind f p j) in
      stored_core p le lt ∙ by_page p le lt m i listed (get_or pages p None) refl)
    where
      by_page : (p : ℕ) → s.first_core ≤ p → p < s.pages → (m : Met) → In m (survey core plain) → In p (pages_of core m) → (o : Option (List ℕ)) → get_or pages p None ≡ o → or_zero o ≡ o
      by_page p le lt m i a None none = absurd (absent_unlisted p le lt none m i a)
      by_page p le lt m i a (Some bytes) there = refl

  stored_verifies : Verifies (home_image s stored rows owners)
  stored_verifies = agreeing_verifies image stored verifies stored_agrees

  pages_verify : PagesVerify s stored
  pages_verify = record {
    sound = stored_verifies.sound;
    tables = subst (λ rs. StoresTables s stored rs (image_in s stored).owners) stored_verifies.rows (subst (λ os. StoresTables s stored rows os) stored_verifies.owners tables);
  }

  -- the pages are an image that verifies
  pub stored_verified : IsVerified s stored
  stored_verified = record { whole = stored_whole; verify = pages_verify }

  -- with these tables
  pub stored_tables : TablesAre s stored rows owners
  stored_tables = record { rows_are = stored_verifies.rows; owners_are = stored_verifies.owners }

  zeros_at : (p : ℕ) → p < s.pages → get_or (map or_zero pages) p None ≡ or_zero (get_or pages p None)
  zeros_at p lt = get_or-map or_zero pages p None None (omega (arith, k.count))

  -- and they store the image of the state, with zeros in place of what is out
  stores_zeros : StoresImage s (with_zeros (settled now)) stored
  stores_zeros = record { count = stored_count; superblock = stored_first; tables = tables; core = λ p le lt. stored_core p le lt ∙ sym (zeros_at p lt) }

  -- where nothing is out, they store just that image
  stores : NoneOut outs.pages → StoresImage s (settled now) stored
  stores none = record { count = stored_count; superblock = stored_first; tables = tables; core = λ p le lt. stored_core p le lt ∙ by_page p le lt (get_or pages p None) refl }
    where
      by_page : (p : ℕ) → s.first_core ≤ p → p < s.pages → (o : Option (List ℕ)) → get_or pages p None ≡ o → or_zero o ≡ o
      by_page p le lt None e = absurd (false≢true (sym (ap is_some (none p)) ∙ absent_out p le lt e))
      by_page p le lt (Some bytes) there = refl

  superblock_is : s ≡ superblock_for (settled now).core
  superblock_is = ap (λ (n : ℕ). record s { first_owner = n }) (superblock_facts s k.fits).first_owner

  -- so they tell what is settled
  told : TellsSettled now (record { superblock = s; pages = stored })
  told = record { superblock = superblock_is; zeros = stores_zeros; stores = stores; tables = stored_tables; verified = stored_verified }

  -- and so does the image that is made of them
  pub tells : (made : ImagePages) → made.pages ≡ stored → ((t : Superblock) → HasSuperblock t stored → made.superblock ≡ t) → TellsSettled now made
  tells made pages superblock = tells_by made s stored (superblock s stored_superblock) pages told
    where
      tells_by : (made : ImagePages) (t : Superblock) (ps : List (Option (List ℕ))) → made.superblock ≡ t → made.pages ≡ ps → TellsSettled now (record { superblock = t; pages = ps }) → TellsSettled now made
      tells_by made t ps same is h = subst (λ (x : ImagePages). TellsSettled now x) (rw (← same, ← is) refl) h

-- what tells the settled image of a state tells that of another that settles the same and has the same pages out
pub tells_alike : (s v : State) (made : ImagePages) → settled s ≡ settled v → s.pages_out ≡ v.pages_out → TellsSettled s made → TellsSettled v made
tells_alike s v made same outs t = record {
  superblock = subst (λ (i : Image). made.superblock ≡ superblock_for i.core) same t.superblock;
  zeros = subst (λ (i : Image). StoresImage made.superblock (with_zeros i) made.pages) same t.zeros;
  stores = λ none. subst (λ (i : Image). StoresImage made.superblock i made.pages) same (t.stores (subst NoneOut (sym outs) none));
  tables = subst (λ (i : Image). TablesAre made.superblock made.pages i.rows i.owners) same t.tables;
  verified = t.verified;
}
