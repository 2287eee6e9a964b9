-- One file more.
use Rattle.trio_judge.proofs.Words.{◌++◌, ◌+◌, ◌<◌, ◌∙◌, ◌∷◌, ◌≡◌, ◌≤◌, AreMarked, AreOwn, Bool, Case, FileRead, FirstForeign, HasListingRoom, List, Listing, Lists, Met, None, Ok, Option, Owns, Some, Stands, Walk, [], all-push, ap, append-nil, arith, bundle_pages, cond, file_in, file_keeps_rights, file_listed, flat_map, flat_map-append, is_ok, is_some, length, length-append, list_all, listing_of, nowhere, option_or, pages_in, pages_within, sym, true, ℕ}
use Rattle.trio_case.specs.Listed.{blocks_listed, index_listed}
use Rattle.trio_judge.specs.inner.Walk.{body_keeps_rights}
use Rattle.trio_judge.proofs.Noting.{files_still, foreign_block, foreign_index, listed-file, own_both, owns_file, rights_file}
use Rattle.trio_case.proofs.Listings.{listed_pages}
use Rattle.trio_judge.proofs.Listings.{listed_files, pages_few}

-- the first foreign page, of the index pages and then the blocks
pub first_of_both : (own before index blocks : List ℕ) (marks marks' : List Bool) (a b : Option ℕ) → FirstForeign own before index marks a → ((seen : List ℕ) → AreMarked own marks seen → FirstForeign own seen blocks marks' b) → FirstForeign own before (index ++ blocks) marks' (option_or a b)
first_of_both own before index blocks marks marks' (Some page) b h k = foreign_index own before index blocks page h
first_of_both own before index blocks marks marks' None (Some page) h k = foreign_block own before index blocks page (k (before ++ index) h.marked)
first_of_both own before index blocks marks marks' None None h k = own_both own before index blocks marks marks' h (k (before ++ index) h.marked)

-- what is read of a file more
pub read_more : (c : Case) (done : List Met) (m : Met) (f : FileRead) → file_in c m ≡ Ok f → list_all (λ m. is_ok (file_in c m)) done ≡ true → list_all (λ m. is_ok (file_in c m)) (done ++ m ∷ []) ≡ true
read_more c done m f e h = all-push (λ m. is_ok (file_in c m)) done m h (ap is_ok e)

pub stands_still : (c : Case) (done es : List Met) (m : Met) (f : FileRead) (w : Walk) → file_in c m ≡ Ok f → is_some w.owning ≡ true → Stands c done es w → Stands c (done ++ m ∷ []) es w
stands_still c done es m f w e h s = record { read = read_more c done m f e s.read; grammar = s.grammar; listed = files_still c done es (m ∷ []) w h s.listed }

module _ (c : Case) (done es : List Met) (m : Met) (f : FileRead) (w : Walk) (e : file_in c m ≡ Ok f) (l : Lists c done es w) (marks : List Bool) (own : AreOwn (bundle_pages c.bundle) (flat_map (pages_within c) done) (f.chain.index ++ f.chain.blocks) marks) where
  owns_more : Owns c (done ++ m ∷ []) es
  owns_more =
      let pages : pages_within c m ≡ f.chain.index ++ f.chain.blocks = ap pages_in e in
      owns_file c done es m l.owns (rw pages own.own_all) (rw pages own.new)

  -- it is listed
  pub lists_file : (w' : Walk) (keeps : Bool) → keeps ≡ body_keeps_rights c m.ino f.body → w'.rights ≡ option_or w.rights (cond keeps None (Some (record { ino = m.ino; place = nowhere }))) → w'.listing.listing ≡ record { held = w.listing.listing.held; files = w.listing.listing.files ++ file_listed m (Ok f); entries = w.listing.listing.entries } → w'.pages.items ≡ marks → Lists c (done ++ m ∷ []) es w'
  lists_file w' keeps k r li pa =
      let pages : flat_map (pages_within c) (done ++ m ∷ []) ≡ flat_map (pages_within c) done ++ (f.chain.index ++ f.chain.blocks) =
      flat_map-append (pages_within c) done (m ∷ []) ∙ ap (λ l. flat_map (pages_within c) done ++ l) (append-nil (pages_within c m) ∙ ap pages_in e) in
      record {
        owns = owns_more;
        rights = rw r (rights_file c done es m w.rights keeps (k ∙ sym (ap (file_keeps_rights c m) e)) l.rights);
        listing = li ∙ ap (λ (x : Listing). record { held = x.held; files = x.files ++ file_listed m (Ok f); entries = x.entries }) l.listing ∙ ap (λ fs. record { held = (listing_of c done es).held; files = fs; entries = (listing_of c done es).entries }) (sym (listed-file c done es m f e));
        pages = rw (pa, pages) own.marked;
      }

  -- and there is a place for it
  pub file_place : (n : ℕ) → length done < n → n ≤ w.listing.room.files → length w.listing.listing.files < w.listing.room.files
  file_place n h k = omega (arith, h, k, ap (λ (x : Listing). length x.files) l.listing, listed_files c done)

  pub page_places : HasListingRoom c w.listing.room → (length (index_listed w.listing.listing) + length f.chain.index ≤ w.listing.room.index) × (length (blocks_listed w.listing.listing) + length f.chain.blocks ≤ w.listing.room.blocks)
  page_places r =
      let few = pages_few c (done ++ m ∷ []) es owns_more in
      let pages : length (flat_map (pages_within c) (done ++ m ∷ [])) ≡ length (flat_map (pages_within c) done) + (length f.chain.index + length f.chain.blocks) =
      ap length (flat_map-append (pages_within c) done (m ∷ []) ∙ ap (λ l. flat_map (pages_within c) done ++ l) (append-nil (pages_within c m) ∙ ap pages_in e))
      ∙ length-append (flat_map (pages_within c) done) (f.chain.index ++ f.chain.blocks) ∙ ap (λ n. length (flat_map (pages_within c) done) + n) (length-append f.chain.index f.chain.blocks) in
      let before = listed_pages c done in
      let index = ap (λ (x : Listing). length (index_listed x)) l.listing in
      let blocks = ap (λ (x : Listing). length (blocks_listed x)) l.listing in
      (omega (arith, few, pages, before, index, blocks, r.index), omega (arith, few, pages, before, index, blocks, r.blocks))
