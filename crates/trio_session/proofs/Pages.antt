-- Pages in hand by their numbers: which bytes they have, and what a write of one or of a body leaves.
use Rattle.trio_session.proofs.Words.{if◌then◌else◌, ◌++◌, ◌∙◌, ◌∷◌, ◌≡◌, ◌≢◌, Bool, FreshParts, In, In-find, LentFile, LentPage, List, Parcel, Sheet, Some, [], ap, block_with, body_with, bundle_of, bundle_pages, bundle_sheets, cases_eq, cond, eq-eqb, eqb, eqb-true, false, file_with, find, find-In, flat_map, fresh_sheet, fresh_with, index_with, inl, inr, lent_sheet, map, map-In, map-append, map-map, option_map_or, refl, sheet_numbers, subst, sym, true, written_in, ℕ}
use Rattle.std.proofs.lemmas.Bool.{ne_eqb}
use Rattle.trio_rights.specs.Bundle.{Written}
use Rattle.trio_session.specs.Layout.{page_in, with_body, with_page}
use Rattle.trio_session.proofs.Lists.{if_other, if_same, map_alike}

-- all pages of a parcel
abbrev pub sheets_of : Parcel → List Sheet
sheets_of b = bundle_sheets (bundle_of b)

-- the bytes of the first page of this number
abbrev bytes_at : ℕ → List Sheet → List ℕ
bytes_at n ss = option_map_or (λ x. x.bytes) (find (λ x. eqb x.page n) ss) []

-- ---- the bytes of a page

-- a page of this number is there, with its bytes
pub sheet_at : (b : Parcel) (n : ℕ) → In n (bundle_pages (bundle_of b)) → (x : Sheet) × In x (sheets_of b) × (x.page ≡ n) × (page_in b n ≡ x.bytes)
unfolding page_in
sheet_at b n i =
    let q = map-In (λ (x : Sheet). x.page) n (sheets_of b) i in
    let r = In-find (λ (x : Sheet). eqb x.page n) (sheets_of b) q.0 q.1 (eq-eqb q.0.page n (sym q.2)) in
    let f = find-In (λ (x : Sheet). eqb x.page n) (sheets_of b) r.0 r.1 in
    (r.0, f.0, eqb-true r.0.page n f.1, ap (λ o. option_map_or (λ (x : Sheet). x.bytes) o []) r.1)

-- ---- a page is written

-- a page with these bytes, where it has this number
abbrev sheet_with : ℕ → List ℕ → Sheet → Sheet
sheet_with n w x = if eqb x.page n then record x { bytes = w } else x

sheet_with-page : (n : ℕ) (w : List ℕ) (x : Sheet) → (sheet_with n w x).page ≡ x.page
sheet_with-page n w x = elim (eqb x.page n) as (λ v. (if v then record x { bytes = w } else x).page ≡ x.page) [ true ↦ refl | false ↦ refl ]

index_sheet : (n : ℕ) (w : List ℕ) (p : LentPage) → lent_sheet (index_with n w p) ≡ sheet_with n w (lent_sheet p)
index_sheet n w p =
    elim (eqb p.no.0 n) as (λ v. lent_sheet (if v then record p { page = w } else p) ≡ (if v then record (lent_sheet p) { bytes = w } else lent_sheet p)) [ true ↦ refl | false ↦ refl ]

block_sheet : (n : ℕ) (w : List ℕ) (p : LentPage) → lent_sheet (block_with n w p) ≡ sheet_with n w (lent_sheet p)
block_sheet n w p =
    elim (eqb p.no.0 n) as (λ v. lent_sheet (if v then record p { page = w; touched = true } else p) ≡ (if v then record (lent_sheet p) { bytes = w } else lent_sheet p)) [ true ↦ refl | false ↦ refl ]

fresh_sheet_with : (n : ℕ) (w : List ℕ) (p : FreshParts) → fresh_sheet (fresh_with n w p) ≡ sheet_with n w (fresh_sheet p)
fresh_sheet_with n w p =
    elim (eqb p.no.0 n) as (λ v. fresh_sheet (if v then record p { page = w } else p) ≡ (if v then record (fresh_sheet p) { bytes = w } else fresh_sheet p)) [ true ↦ refl | false ↦ refl ]

-- the same change before and after
mapped : {X Y : Type 0} (f : X → X) (g : Y → Y) (t : X → Y) → ((x : X) → t (f x) ≡ g (t x)) → (xs : List X) → map t (map f xs) ≡ map g (map t xs)
mapped f g t same xs = map-map t f xs ∙ map_alike (λ x. t (f x)) (λ x. g (t x)) xs same ∙ sym (map-map g t xs)

file_sheets : (n : ℕ) (w : List ℕ) (f : LentFile) → map lent_sheet (map (index_with n w) f.stands.index) ++ map lent_sheet (map (block_with n w) f.stands.blocks) ≡ map (sheet_with n w) (map lent_sheet f.stands.index ++ map lent_sheet f.stands.blocks)
file_sheets n w f =
    ap (λ l. l ++ map lent_sheet (map (block_with n w) f.stands.blocks)) (mapped (index_with n w) (sheet_with n w) lent_sheet (index_sheet n w) f.stands.index)
    ∙ ap (λ l. map (sheet_with n w) (map lent_sheet f.stands.index) ++ l) (mapped (block_with n w) (sheet_with n w) lent_sheet (block_sheet n w) f.stands.blocks)
    ∙ sym (map-append (sheet_with n w) (map lent_sheet f.stands.index) (map lent_sheet f.stands.blocks))

abbrev files_sheets : List LentFile → List Sheet
files_sheets fs = flat_map (λ (w : Written). w.index ++ w.blocks) (map (λ (f : LentFile). written_in f.stands) fs)

files_sheets-with : (n : ℕ) (w : List ℕ) (fs : List LentFile) → files_sheets (map (file_with n w) fs) ≡ map (sheet_with n w) (files_sheets fs)
files_sheets-with n w [] = refl
files_sheets-with n w (f ∷ fs) =
    ap (λ l. l ++ files_sheets (map (file_with n w) fs)) (file_sheets n w f)
    ∙ ap (λ l. map (sheet_with n w) (map lent_sheet f.stands.index ++ map lent_sheet f.stands.blocks) ++ l) (files_sheets-with n w fs)
    ∙ sym (map-append (sheet_with n w) (map lent_sheet f.stands.index ++ map lent_sheet f.stands.blocks) (files_sheets fs))

pub sheets_of-with_page : (n : ℕ) (w : List ℕ) (b : Parcel) → sheets_of (with_page n w b) ≡ map (sheet_with n w) (sheets_of b)
unfolding with_page
sheets_of-with_page n w b =
    ap (λ l. l ++ map fresh_sheet (map (fresh_with n w) b.pages)) (files_sheets-with n w b.writes)
    ∙ ap (λ l. map (sheet_with n w) (files_sheets b.writes) ++ l) (mapped (fresh_with n w) (sheet_with n w) fresh_sheet (fresh_sheet_with n w) b.pages)
    ∙ sym (map-append (sheet_with n w) (files_sheets b.writes) (map fresh_sheet b.pages))

-- the numbers of the pages stay
pub pages-with_page : (n : ℕ) (w : List ℕ) (b : Parcel) → bundle_pages (bundle_of (with_page n w b)) ≡ bundle_pages (bundle_of b)
pages-with_page n w b =
    ap sheet_numbers (sheets_of-with_page n w b)
    ∙ map-map (λ (x : Sheet). x.page) (sheet_with n w) (sheets_of b)
    ∙ map_alike (λ x. (sheet_with n w x).page) (λ x. x.page) (sheets_of b) (sheet_with-page n w)

-- the page has the bytes that were written
pub page_in-with_page_same : (n : ℕ) (w : List ℕ) (b : Parcel) → In n (bundle_pages (bundle_of b)) → page_in (with_page n w b) n ≡ w
page_in-with_page_same n w b i =
    let x = sheet_at (with_page n w b) n (subst (λ l. In n l) (sym (pages-with_page n w b)) i) in
    let y = map-In (sheet_with n w) x.0 (sheets_of b) (subst (λ l. In x.0 l) (sheets_of-with_page n w b) x.1) in
    let at : y.0.page ≡ n = sym (sheet_with-page n w y.0) ∙ ap (λ (z : Sheet). z.page) (sym y.2) ∙ x.2 in
    x.3 ∙ ap (λ (z : Sheet). z.bytes) (y.2 ∙ if_same y.0.page n (record y.0 { bytes = w }) y.0 at)

-- and every other those that it had
bytes_at-else : (n m : ℕ) (w : List ℕ) → m ≢ n → (ss : List Sheet) → bytes_at m (map (sheet_with n w) ss) ≡ bytes_at m ss
bytes_at-else n m w d [] = refl
bytes_at-else n m w d (x ∷ xs) =
    elim (cases_eq x.page n) [
      | inr other ↦
          ap (λ (y : Sheet). bytes_at m (y ∷ map (sheet_with n w) xs)) (if_other x.page n (record x { bytes = w }) x other)
          ∙ more (eqb x.page m) x (bytes_at-else n m w d xs)
      | inl same ↦
          let out : eqb x.page m ≡ false = ne_eqb x.page m (λ e. d (sym e ∙ same)) in
          ap (λ (y : Sheet). bytes_at m (y ∷ map (sheet_with n w) xs)) (if_same x.page n (record x { bytes = w }) x same)
          ∙ ap (λ t. option_map_or (λ (y : Sheet). y.bytes) (cond t (Some (record x { bytes = w })) (find (λ (y : Sheet). eqb y.page m) (map (sheet_with n w) xs))) []) out
          ∙ bytes_at-else n m w d xs
          ∙ sym (ap (λ t. option_map_or (λ (y : Sheet). y.bytes) (cond t (Some x) (find (λ (y : Sheet). eqb y.page m) xs)) []) out)
    ]
  where
    more : (t : Bool) (y : Sheet) → bytes_at m (map (sheet_with n w) xs) ≡ bytes_at m xs
        → option_map_or (λ (z : Sheet). z.bytes) (cond t (Some y) (find (λ (z : Sheet). eqb z.page m) (map (sheet_with n w) xs))) []
        ≡ option_map_or (λ (z : Sheet). z.bytes) (cond t (Some y) (find (λ (z : Sheet). eqb z.page m) xs)) []
    more true y again = refl
    more false y again = again

pub page_in-with_page_else : (n m : ℕ) (w : List ℕ) (b : Parcel) → m ≢ n → page_in (with_page n w b) m ≡ page_in b m
unfolding page_in
page_in-with_page_else n m w b d = ap (bytes_at m) (sheets_of-with_page n w b) ∙ bytes_at-else n m w d (sheets_of b)

-- ---- a body is written

bodied : (ino : ℕ) (body : List ℕ) (f : LentFile) → (written_in (body_with ino body f).stands).index ++ (written_in (body_with ino body f).stands).blocks ≡ (written_in f.stands).index ++ (written_in f.stands).blocks
bodied ino body f =
    let pages : LentFile → List Sheet = λ g. map lent_sheet g.stands.index ++ map lent_sheet g.stands.blocks in
    elim (eqb f.stands.ino ino) as (λ v. pages (if v then record f { stands = record f.stands { body = body } } else f) ≡ pages f) [ true ↦ refl | false ↦ refl ]

files_sheets-body : (ino : ℕ) (body : List ℕ) (fs : List LentFile) → files_sheets (map (body_with ino body) fs) ≡ files_sheets fs
files_sheets-body ino body [] = refl
files_sheets-body ino body (f ∷ fs) =
    ap (λ l. l ++ files_sheets (map (body_with ino body) fs)) (bodied ino body f)
    ∙ ap (λ l. (map lent_sheet f.stands.index ++ map lent_sheet f.stands.blocks) ++ l) (files_sheets-body ino body fs)

-- the pages stay
pub sheets_of-with_body : (ino : ℕ) (body : List ℕ) (b : Parcel) → sheets_of (with_body ino body b) ≡ sheets_of b
unfolding with_body
sheets_of-with_body ino body b = ap (λ l. l ++ map fresh_sheet b.pages) (files_sheets-body ino body b.writes)

pub page_in-with_body : (ino n : ℕ) (body : List ℕ) (b : Parcel) → page_in (with_body ino body b) n ≡ page_in b n
unfolding page_in
page_in-with_body ino n body b = ap (bytes_at n) (sheets_of-with_body ino body b)
