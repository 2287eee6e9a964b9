-- Pages in hand, by their places and by their numbers.
use Rattle.trio_session.proofs.Words.{if◌then◌else◌, ◌++◌, ◌<◌, ◌∙◌, ◌≡◌, ◌≢◌, AreApart, Block, Fresh, FreshParts, In, In-cases, In-find, In-flat, In-left, In-map, In-right, InSlot, Index, IsTrue, Leased, LentFile, LentPage, List, None, Option, PagePlace, Parcel, Sheet, Shown, Some, [], ap, are_new, block_with, body_at, body_in_slot, body_with, bundle_of, bundle_sheets, eq-eqb, eqb, eqb-true, false, file_with, find-In, flat_map, fresh_sheet, fresh_with, get_or, get_or-set_same, get_or_from_slice_get, index_with, inl, ino_at, inr, is_some, length, length-set, lent_bytes, lent_sheet, map, map-In, map-map, number_at, option_and_then, option_copied, option_map, option_map_or, refl, sheet_at, shown_at, slice_get, slice_get-get_or, slice_get-map, slice_set, slot_file, subst, sym, true, with_part, written_in, ℕ}
use denote.Bor.{Bor}
use Rattle.trio_page.specs.declared.page.Page.{Page}
use Rattle.trio_lists.proofs.Members.{flat_map-In}
use Rattle.trio_rights.specs.Bundle.{Written}
use Rattle.trio_lease.specs.Shown.{lent_at, with_touched, with_page as lent_with}
use Rattle.trio_session.specs.Layout.{page_in, with_page, with_body}
use Rattle.trio_session.proofs.Lists.{map_same, set_map, once_at, map_alike, slice_get-In, In-slice_get, if_same, if_other, set_beside}

-- ---- what stands at a place

pub index_at : (b : Parcel) (file at : ℕ) (f : LentFile) (p : LentPage) → slice_get b.writes file ≡ Some f → slice_get f.stands.index at ≡ Some p
    → sheet_at b (Index file at) ≡ Some (lent_sheet p)
index_at b file at f p ef ep = ap (λ o. option_map lent_sheet (option_and_then (λ (f : LentFile). slice_get f.stands.index at) o)) ef ∙ ap (option_map lent_sheet) ep

pub block_at : (b : Parcel) (file at : ℕ) (f : LentFile) (p : LentPage) → slice_get b.writes file ≡ Some f → slice_get f.stands.blocks at ≡ Some p
    → sheet_at b (Block file at) ≡ Some (lent_sheet p)
block_at b file at f p ef ep = ap (λ o. option_map lent_sheet (option_and_then (λ (f : LentFile). slice_get f.stands.blocks at) o)) ef ∙ ap (option_map lent_sheet) ep

pub fresh_at : (b : Parcel) (at : ℕ) (p : FreshParts) → slice_get b.pages at ≡ Some p → sheet_at b (Fresh at) ≡ Some (fresh_sheet p)
fresh_at b at p e = ap (option_map fresh_sheet) e

-- what was mapped
map_some : {X Y : Type 0} (f : X → Y) (o : Option X) (y : Y) → option_map f o ≡ Some y → (x : X) × (o ≡ Some x) × (f x ≡ y)
map_some f None y e = absurd (let t : None ≡ Some y = e in cc t)
map_some f (Some x) y e = (x, refl, (let t : Some (f x) ≡ Some y = e in cc t))

-- the file at a place, and the page of it
pub index_parts : (b : Parcel) (file at : ℕ) (x : Sheet) → sheet_at b (Index file at) ≡ Some x
    → (f : LentFile) × (p : LentPage) × (slice_get b.writes file ≡ Some f) × (slice_get f.stands.index at ≡ Some p) × (lent_sheet p ≡ x)
index_parts b file at x e =
    let by : (o : Option LentFile) → slice_get b.writes file ≡ o → option_map lent_sheet (option_and_then (λ (f : LentFile). slice_get f.stands.index at) o) ≡ Some x
    → (f : LentFile) × (p : LentPage) × (slice_get b.writes file ≡ Some f) × (slice_get f.stands.index at ≡ Some p) × (lent_sheet p ≡ x) =
    λ o. elim o as (λ v. slice_get b.writes file ≡ v → option_map lent_sheet (option_and_then (λ (f : LentFile). slice_get f.stands.index at) v) ≡ Some x
    → (f : LentFile) × (p : LentPage) × (slice_get b.writes file ≡ Some f) × (slice_get f.stands.index at ≡ Some p) × (lent_sheet p ≡ x)) [
      | None ↦ λ g h. absurd (let t : None ≡ Some x = h in cc t)
      | Some f ↦ λ g h. let r = map_some lent_sheet (slice_get f.stands.index at) x h in (f, r.0, g, r.1, r.2)
    ] in
    by (slice_get b.writes file) refl e

pub block_parts : (b : Parcel) (file at : ℕ) (x : Sheet) → sheet_at b (Block file at) ≡ Some x
    → (f : LentFile) × (p : LentPage) × (slice_get b.writes file ≡ Some f) × (slice_get f.stands.blocks at ≡ Some p) × (lent_sheet p ≡ x)
block_parts b file at x e =
    let by : (o : Option LentFile) → slice_get b.writes file ≡ o → option_map lent_sheet (option_and_then (λ (f : LentFile). slice_get f.stands.blocks at) o) ≡ Some x
    → (f : LentFile) × (p : LentPage) × (slice_get b.writes file ≡ Some f) × (slice_get f.stands.blocks at ≡ Some p) × (lent_sheet p ≡ x) =
    λ o. elim o as (λ v. slice_get b.writes file ≡ v → option_map lent_sheet (option_and_then (λ (f : LentFile). slice_get f.stands.blocks at) v) ≡ Some x
    → (f : LentFile) × (p : LentPage) × (slice_get b.writes file ≡ Some f) × (slice_get f.stands.blocks at ≡ Some p) × (lent_sheet p ≡ x)) [
      | None ↦ λ g h. absurd (let t : None ≡ Some x = h in cc t)
      | Some f ↦ λ g h. let r = map_some lent_sheet (slice_get f.stands.blocks at) x h in (f, r.0, g, r.1, r.2)
    ] in
    by (slice_get b.writes file) refl e

pub fresh_parts : (b : Parcel) (at : ℕ) (x : Sheet) → sheet_at b (Fresh at) ≡ Some x
    → (p : FreshParts) × (slice_get b.pages at ≡ Some p) × (fresh_sheet p ≡ x)
fresh_parts b at x e = map_some fresh_sheet (slice_get b.pages at) x e

-- ---- the page of a number

-- the pages of a file
abbrev file_sheets : Written → List Sheet
file_sheets w = w.index ++ w.blocks

in_file : (b : Parcel) (f : LentFile) (x : Sheet) → In f b.writes → In x (map lent_sheet f.stands.index ++ map lent_sheet f.stands.blocks) → In x (bundle_sheets (bundle_of b))
in_file b f x inf inx =
    In-left x (flat_map file_sheets (map (λ f. written_in f.stands) b.writes)) (map fresh_sheet b.pages)
    (In-flat file_sheets (written_in f.stands) x (map (λ f. written_in f.stands) b.writes) (In-map (λ (f : LentFile). written_in f.stands) f b.writes inf) inx)

-- each page at a place is among the pages
pub at-In : (b : Parcel) (place : PagePlace) (x : Sheet) → sheet_at b place ≡ Some x → In x (bundle_sheets (bundle_of b))
at-In b (Index file at) x e =
    let r = index_parts b file at x e in
    in_file b r.0 x (slice_get-In b.writes file r.0 r.2)
    (In-left x (map lent_sheet r.0.stands.index) (map lent_sheet r.0.stands.blocks) (subst (λ s. In s (map lent_sheet r.0.stands.index)) r.4 (In-map lent_sheet r.1 r.0.stands.index (slice_get-In r.0.stands.index at r.1 r.3))))
at-In b (Block file at) x e =
    let r = block_parts b file at x e in
    in_file b r.0 x (slice_get-In b.writes file r.0 r.2)
    (In-right x (map lent_sheet r.0.stands.index) (map lent_sheet r.0.stands.blocks) (subst (λ s. In s (map lent_sheet r.0.stands.blocks)) r.4 (In-map lent_sheet r.1 r.0.stands.blocks (slice_get-In r.0.stands.blocks at r.1 r.3))))
at-In b (Fresh at) x e =
    let r = fresh_parts b at x e in
    In-right x (flat_map file_sheets (map (λ f. written_in f.stands) b.writes)) (map fresh_sheet b.pages)
    (subst (λ s. In s (map fresh_sheet b.pages)) r.2 (In-map fresh_sheet r.0 b.pages (slice_get-In b.pages at r.0 r.1)))

-- and each of the pages is at a place
pub In-at : (b : Parcel) (x : Sheet) → In x (bundle_sheets (bundle_of b)) → (place : PagePlace) × (sheet_at b place ≡ Some x)
In-at b x h =
    elim (In-cases x (flat_map file_sheets (map (λ f. written_in f.stands) b.writes)) (map fresh_sheet b.pages) h) [
      | inl k ↦
          let w = flat_map-In file_sheets x (map (λ f. written_in f.stands) b.writes) k in
          let f = map-In (λ (f : LentFile). written_in f.stands) w.0 b.writes w.1 in
          let i = In-slice_get f.0 b.writes f.1 in
          let there : In x (map lent_sheet f.0.stands.index ++ map lent_sheet f.0.stands.blocks) = subst (λ v. In x (file_sheets v)) f.2 w.2 in
          elim (In-cases x (map lent_sheet f.0.stands.index) (map lent_sheet f.0.stands.blocks) there) [
            | inl m ↦ let p = map-In lent_sheet x f.0.stands.index m in let at = In-slice_get p.0 f.0.stands.index p.1 in
                (Index i.0 at.0, index_at b i.0 at.0 f.0 p.0 i.1 at.1 ∙ ap Some (sym p.2))
            | inr m ↦ let p = map-In lent_sheet x f.0.stands.blocks m in let at = In-slice_get p.0 f.0.stands.blocks p.1 in
                (Block i.0 at.0, block_at b i.0 at.0 f.0 p.0 i.1 at.1 ∙ ap Some (sym p.2))
          ]
      | inr k ↦ let p = map-In fresh_sheet x b.pages k in let at = In-slice_get p.0 b.pages p.1 in
          (Fresh at.0, fresh_at b at.0 p.0 at.1 ∙ ap Some (sym p.2))
    ]

-- the page at a place is the page of its number
pub page_at : (b : Parcel) (place : PagePlace) (x : Sheet) → AreApart b → sheet_at b place ≡ Some x → page_in b x.page ≡ x.bytes
unfolding page_in
page_at b place x apart e =
    let sheets = bundle_sheets (bundle_of b) in
    let r = In-find (λ (s : Sheet). eqb s.page x.page) sheets x (at-In b place x e) (eq-eqb x.page x.page refl) in
    let found = find-In (λ (s : Sheet). eqb s.page x.page) sheets r.0 r.1 in
    let q = In-at b r.0 found.0 in
    let same : q.0 ≡ place = apart.pages q.0 place r.0 x q.1 e (eqb-true r.0.page x.page found.1) in
    let both : Some r.0 ≡ Some x = sym q.1 ∙ ap (sheet_at b) same ∙ e in
    let one : r.0 ≡ x = cc both in
    ap (λ o. option_map_or (λ (s : Sheet). s.bytes) o []) r.1 ∙ ap (λ (s : Sheet). s.bytes) one

-- ---- a page at a place is written

-- a page that isn't of this number stays
index_other : (n : ℕ) (w : List ℕ) (p : LentPage) → p.no.0 ≢ n → index_with n w p ≡ p
index_other n w p ne = if_other p.no.0 n (record p { page = w }) p ne

block_other : (n : ℕ) (w : List ℕ) (p : LentPage) → p.no.0 ≢ n → block_with n w p ≡ p
block_other n w p ne = if_other p.no.0 n (record p { page = w; touched = true }) p ne

fresh_other : (n : ℕ) (w : List ℕ) (p : FreshParts) → p.no.0 ≢ n → fresh_with n w p ≡ p
fresh_other n w p ne = if_other p.no.0 n (record p { page = w }) p ne

-- and so does a file without it
file_other : (n : ℕ) (w : List ℕ) (f : LentFile) → ((j : ℕ) (p : LentPage) → slice_get f.stands.index j ≡ Some p → p.no.0 ≢ n)
    → ((j : ℕ) (p : LentPage) → slice_get f.stands.blocks j ≡ Some p → p.no.0 ≢ n) → file_with n w f ≡ f
file_other n w f hi hb =
    let ei = map_same (index_with n w) f.stands.index (λ j p e. index_other n w p (hi j p e)) in
    let eb = map_same (block_with n w) f.stands.blocks (λ j p e. block_other n w p (hb j p e)) in
    ap (λ ps. record f { stands = record f.stands { index = ps; blocks = map (block_with n w) f.stands.blocks } }) ei
    ∙ ap (λ ps. record f { stands = record f.stands { blocks = ps } }) eb

pub fresh_put : (b : Parcel) (at : ℕ) (p : FreshParts) (w : List ℕ) → AreApart b → slice_get b.pages at ≡ Some p
    → record b { pages = slice_set b.pages at (record p { page = w }) } ≡ with_page p.no.0 w b
unfolding with_page
fresh_put b at p w apart e =
    let n = p.no.0 in
    let files : map (file_with n w) b.writes ≡ b.writes = map_same (file_with n w) b.writes (λ i f ef. file_other n w f
    (λ j q eq s. absurd (let t : Index i j ≡ Fresh at = apart.pages (Index i j) (Fresh at) (lent_sheet q) (fresh_sheet p) (index_at b i j f q ef eq) (fresh_at b at p e) s in cc t))
    (λ j q eq s. absurd (let t : Block i j ≡ Fresh at = apart.pages (Block i j) (Fresh at) (lent_sheet q) (fresh_sheet p) (block_at b i j f q ef eq) (fresh_at b at p e) s in cc t))) in
    let mine : fresh_with n w p ≡ record p { page = w } = if_same n n (record p { page = w }) p refl in
    let pages : slice_set b.pages at (fresh_with n w p) ≡ map (fresh_with n w) b.pages = set_map (fresh_with n w) b.pages at p e (λ j q eq ne. fresh_other n w q
    (λ s. ne (let t : Fresh j ≡ Fresh at = apart.pages (Fresh j) (Fresh at) (fresh_sheet q) (fresh_sheet p) (fresh_at b j q eq) (fresh_at b at p e) s in cc t))) in
    ap (λ ps. record b { pages = ps }) (ap (slice_set b.pages at) (sym mine) ∙ pages)
    ∙ ap (λ fs. record b { writes = fs; pages = map (fresh_with n w) b.pages }) (sym files)

pub index_put : (b : Parcel) (file at : ℕ) (f : LentFile) (p : LentPage) (w : List ℕ) → AreApart b → slice_get b.writes file ≡ Some f → slice_get f.stands.index at ≡ Some p
    → record b { writes = slice_set b.writes file (record f { stands = record f.stands { index = slice_set f.stands.index at (record p { page = w }) } }) } ≡ with_page p.no.0 w b
unfolding with_page
index_put b file at f p w apart ef ep =
    let n = p.no.0 in
    let here = index_at b file at f p ef ep in
    let pages : map (fresh_with n w) b.pages ≡ b.pages = map_same (fresh_with n w) b.pages (λ j q eq. fresh_other n w q
    (λ s. absurd (let t : Fresh j ≡ Index file at = apart.pages (Fresh j) (Index file at) (fresh_sheet q) (lent_sheet p) (fresh_at b j q eq) here s in cc t))) in
    let mine : index_with n w p ≡ record p { page = w } = if_same n n (record p { page = w }) p refl in
    let index : slice_set f.stands.index at (index_with n w p) ≡ map (index_with n w) f.stands.index = set_map (index_with n w) f.stands.index at p ep (λ j q eq ne. index_other n w q
    (λ s. ne (let t : Index file j ≡ Index file at = apart.pages (Index file j) (Index file at) (lent_sheet q) (lent_sheet p) (index_at b file j f q ef eq) here s in cc t))) in
    let blocks : map (block_with n w) f.stands.blocks ≡ f.stands.blocks = map_same (block_with n w) f.stands.blocks (λ j q eq. block_other n w q
    (λ s. absurd (let t : Block file j ≡ Index file at = apart.pages (Block file j) (Index file at) (lent_sheet q) (lent_sheet p) (block_at b file j f q ef eq) here s in cc t))) in
    let changed : record f { stands = record f.stands { index = slice_set f.stands.index at (record p { page = w }) } } ≡ file_with n w f =
    ap (λ ps. record f { stands = record f.stands { index = ps } }) (ap (slice_set f.stands.index at) (sym mine) ∙ index)
    ∙ ap (λ ps. record f { stands = record f.stands { index = map (index_with n w) f.stands.index; blocks = ps } }) (sym blocks) in
    let files : slice_set b.writes file (file_with n w f) ≡ map (file_with n w) b.writes = set_map (file_with n w) b.writes file f ef (λ i g eg ne. file_other n w g
    (λ j q eq s. ne (let t : Index i j ≡ Index file at = apart.pages (Index i j) (Index file at) (lent_sheet q) (lent_sheet p) (index_at b i j g q eg eq) here s in cc t))
    (λ j q eq s. absurd (let t : Block i j ≡ Index file at = apart.pages (Block i j) (Index file at) (lent_sheet q) (lent_sheet p) (block_at b i j g q eg eq) here s in cc t))) in
    ap (λ fs. record b { writes = fs }) (ap (slice_set b.writes file) changed ∙ files)
    ∙ ap (λ ps. record b { writes = map (file_with n w) b.writes; pages = ps }) (sym pages)

pub block_put : (b : Parcel) (file at : ℕ) (f : LentFile) (p : LentPage) (w : List ℕ) → AreApart b → slice_get b.writes file ≡ Some f → slice_get f.stands.blocks at ≡ Some p
    → record b { writes = slice_set b.writes file (record f { stands = record f.stands { blocks = slice_set f.stands.blocks at (record p { page = w; touched = true }) } }) } ≡ with_page p.no.0 w b
unfolding with_page
block_put b file at f p w apart ef ep =
    let n = p.no.0 in
    let here = block_at b file at f p ef ep in
    let pages : map (fresh_with n w) b.pages ≡ b.pages = map_same (fresh_with n w) b.pages (λ j q eq. fresh_other n w q
    (λ s. absurd (let t : Fresh j ≡ Block file at = apart.pages (Fresh j) (Block file at) (fresh_sheet q) (lent_sheet p) (fresh_at b j q eq) here s in cc t))) in
    let mine : block_with n w p ≡ record p { page = w; touched = true } = if_same n n (record p { page = w; touched = true }) p refl in
    let blocks : slice_set f.stands.blocks at (block_with n w p) ≡ map (block_with n w) f.stands.blocks = set_map (block_with n w) f.stands.blocks at p ep (λ j q eq ne. block_other n w q
    (λ s. ne (let t : Block file j ≡ Block file at = apart.pages (Block file j) (Block file at) (lent_sheet q) (lent_sheet p) (block_at b file j f q ef eq) here s in cc t))) in
    let index : map (index_with n w) f.stands.index ≡ f.stands.index = map_same (index_with n w) f.stands.index (λ j q eq. index_other n w q
    (λ s. absurd (let t : Index file j ≡ Block file at = apart.pages (Index file j) (Block file at) (lent_sheet q) (lent_sheet p) (index_at b file j f q ef eq) here s in cc t))) in
    let changed : record f { stands = record f.stands { blocks = slice_set f.stands.blocks at (record p { page = w; touched = true }) } } ≡ file_with n w f =
    ap (λ ps. record f { stands = record f.stands { blocks = ps } }) (ap (slice_set f.stands.blocks at) (sym mine) ∙ blocks)
    ∙ ap (λ ps. record f { stands = record f.stands { index = ps; blocks = map (block_with n w) f.stands.blocks } }) (sym index) in
    let files : slice_set b.writes file (file_with n w f) ≡ map (file_with n w) b.writes = set_map (file_with n w) b.writes file f ef (λ i g eg ne. file_other n w g
    (λ j q eq s. absurd (let t : Index i j ≡ Block file at = apart.pages (Index i j) (Block file at) (lent_sheet q) (lent_sheet p) (index_at b i j g q eg eq) here s in cc t))
    (λ j q eq s. ne (let t : Block i j ≡ Block file at = apart.pages (Block i j) (Block file at) (lent_sheet q) (lent_sheet p) (block_at b i j g q eg eq) here s in cc t))) in
    ap (λ fs. record b { writes = fs }) (ap (slice_set b.writes file) changed ∙ files)
    ∙ ap (λ ps. record b { writes = map (file_with n w) b.writes; pages = ps }) (sym pages)

-- ---- what a write of a page keeps

pub index_with-no : (n : ℕ) (w : List ℕ) (p : LentPage) → (index_with n w p).no ≡ p.no
index_with-no n w p = elim (eqb p.no.0 n) as (λ v. (if v then record p { page = w } else p).no ≡ p.no) [ true ↦ refl | false ↦ refl ]

pub block_with-no : (n : ℕ) (w : List ℕ) (p : LentPage) → (block_with n w p).no ≡ p.no
block_with-no n w p = elim (eqb p.no.0 n) as (λ v. (if v then record p { page = w; touched = true } else p).no ≡ p.no) [ true ↦ refl | false ↦ refl ]

pub fresh_with-no : (n : ℕ) (w : List ℕ) (p : FreshParts) → (fresh_with n w p).no ≡ p.no
fresh_with-no n w p = elim (eqb p.no.0 n) as (λ v. (if v then record p { page = w } else p).no ≡ p.no) [ true ↦ refl | false ↦ refl ]

-- an element of a list that was mapped
pub map_at : {X Y : Type 0} (f : X → Y) (xs : List X) (i : ℕ) (y : Y) → slice_get (map f xs) i ≡ Some y → (x : X) × (slice_get xs i ≡ Some x) × (f x ≡ y)
map_at f xs i y e = map_some f (slice_get xs i) y (sym (slice_get-map f xs i) ∙ e)

-- each place has a page of the same number as before
with_page-at : (n : ℕ) (w : List ℕ) (b : Parcel) (place : PagePlace) (y : Sheet) → sheet_at (with_page n w b) place ≡ Some y
    → (x : Sheet) × (sheet_at b place ≡ Some x) × (x.page ≡ y.page)
unfolding with_page
with_page-at n w b (Index file at) y e =
    let r = index_parts (with_page n w b) file at y e in
    let f = map_at (file_with n w) b.writes file r.0 r.2 in
    let there : slice_get (map (index_with n w) f.0.stands.index) at ≡ Some r.1 = subst (λ (g : LentFile). slice_get g.stands.index at ≡ Some r.1) (sym f.2) r.3 in
    let p = map_at (index_with n w) f.0.stands.index at r.1 there in (
      lent_sheet p.0,
      index_at b file at f.0 p.0 f.1 p.1,
      ap (λ m. m.0) (sym (index_with-no n w p.0)) ∙ ap (λ (q : LentPage). q.no.0) p.2 ∙ ap (λ (s : Sheet). s.page) r.4,
    )
with_page-at n w b (Block file at) y e =
    let r = block_parts (with_page n w b) file at y e in
    let f = map_at (file_with n w) b.writes file r.0 r.2 in
    let there : slice_get (map (block_with n w) f.0.stands.blocks) at ≡ Some r.1 = subst (λ (g : LentFile). slice_get g.stands.blocks at ≡ Some r.1) (sym f.2) r.3 in
    let p = map_at (block_with n w) f.0.stands.blocks at r.1 there in (
      lent_sheet p.0,
      block_at b file at f.0 p.0 f.1 p.1,
      ap (λ m. m.0) (sym (block_with-no n w p.0)) ∙ ap (λ (q : LentPage). q.no.0) p.2 ∙ ap (λ (s : Sheet). s.page) r.4,
    )
with_page-at n w b (Fresh at) y e =
    let r = fresh_parts (with_page n w b) at y e in
    let p = map_at (fresh_with n w) b.pages at r.0 r.1 in
    (fresh_sheet p.0, fresh_at b at p.0 p.1, ap (λ m. m.0) (sym (fresh_with-no n w p.0)) ∙ ap (λ (q : FreshParts). q.no.0) p.2 ∙ ap (λ (s : Sheet). s.page) r.2)

-- pages that were apart stay so
pub apart_stays : (n : ℕ) (w : List ℕ) (b : Parcel) → AreApart b → AreApart (with_page n w b)
unfolding with_page
apart_stays n w b apart = record {
  pages = λ p q x y ex ey same.
      let x' = with_page-at n w b p x ex in let y' = with_page-at n w b q y ey in
      apart.pages p q x'.0 y'.0 x'.1 y'.1 (x'.2 ∙ same ∙ sym y'.2);
  files = subst (λ ns. IsTrue (are_new [] ns)) (sym (map-map (λ (f : LentFile). f.stands.ino) (file_with n w) b.writes)) apart.files;
}

-- ---- a part of a page is written, by its place

-- what an index into a list gave
got : {X Y : Type 0} (f : X → Y) (xs : List X) (i : ℕ) (x : X) → IsTrue (is_some (option_map f (slice_get xs i))) → x ≡ get_or xs i x → slice_get xs i ≡ Some x
got {X} f xs i x s e =
    let by : (o : Option X) → slice_get xs i ≡ o → IsTrue (is_some (option_map f o)) → slice_get xs i ≡ Some x = λ o. elim o as (λ v. slice_get xs i ≡ v → IsTrue (is_some (option_map f v)) → slice_get xs i ≡ Some x) [
      | None ↦ λ g h. absurd (let t : false ≡ true = h in cc t)
      | Some y ↦ λ g h. g ∙ ap Some (sym (e ∙ get_or_from_slice_get xs i y x g))
    ] in
    by (slice_get xs i) refl s

pub put_fresh : (b : Parcel) (at : ℕ) (r q : FreshParts) (offset : ℕ) (bytes : List ℕ) → AreApart b → IsTrue (is_some (sheet_at b (Fresh at)))
    → r ≡ get_or b.pages at r → q ≡ record r { page = with_part offset bytes r.page }
    → record b { pages = slice_set b.pages at q } ≡ with_page (number_at b (Fresh at)) (with_part offset bytes (page_in b (number_at b (Fresh at)))) b
put_fresh b at r q offset bytes apart there e eq =
    let here : slice_get b.pages at ≡ Some r = got fresh_sheet b.pages at r there e in
    let sheet = fresh_at b at r here in
    let number : number_at b (Fresh at) ≡ r.no.0 = ap (λ o. option_map_or (λ (s : Sheet). s.page) o 0) sheet in
    let page : page_in b r.no.0 ≡ r.page = page_at b (Fresh at) (fresh_sheet r) apart sheet in
    ap (λ x. record b { pages = slice_set b.pages at x }) eq
    ∙ fresh_put b at r (with_part offset bytes r.page) apart here
    ∙ ap (λ x. with_page r.no.0 (with_part offset bytes x) b) (sym page)
    ∙ ap (λ m. with_page m (with_part offset bytes (page_in b m)) b) (sym number)

-- the file at a place, of which a page is there
there_mapped : (g : LentFile → Option LentPage) (o : Option LentFile) → IsTrue (is_some (option_map lent_sheet (option_and_then g o)))
    → (f : LentFile) × (o ≡ Some f) × IsTrue (is_some (option_map lent_sheet (g f)))
there_mapped g None h = absurd (let t : false ≡ true = h in cc t)
there_mapped g (Some f) h = (f, refl, h)

-- a page that is there
lent_there : (pages : List LentPage) (at : ℕ) → IsTrue (is_some (option_map lent_sheet (slice_get pages at))) → slice_get pages at ≡ Some (lent_at pages at)
lent_there pages at h =
    let d : LentPage = record { no = record { 0 = 0 }; page = []; touched = false } in
    let by : (o : Option LentPage) → slice_get pages at ≡ o → IsTrue (is_some (option_map lent_sheet o)) → slice_get pages at ≡ Some (lent_at pages at) =
    λ o. elim o as (λ v. slice_get pages at ≡ v → IsTrue (is_some (option_map lent_sheet v)) → slice_get pages at ≡ Some (lent_at pages at)) [
      | None ↦ λ g k. absurd (let t : false ≡ true = k in cc t)
      | Some p ↦ λ g k. g ∙ ap Some (sym (get_or_from_slice_get pages at p d g))
    ] in
    by (slice_get pages at) refl h

pub put_index : (b : Parcel) (file at : ℕ) (r q : LentFile) (offset : ℕ) (bytes : List ℕ) → AreApart b → IsTrue (is_some (sheet_at b (Index file at)))
    → r ≡ get_or b.writes file r
    → q ≡ record r { stands = record r.stands { index = lent_with r.stands.index at (with_part offset bytes (lent_at r.stands.index at).page) } }
    → record b { writes = slice_set b.writes file q } ≡ with_page (number_at b (Index file at)) (with_part offset bytes (page_in b (number_at b (Index file at)))) b
put_index b file at r q offset bytes apart there e eq =
    let g : LentFile → Option LentPage = λ f. slice_get f.stands.index at in
    let f = there_mapped g (slice_get b.writes file) there in
    let same : f.0 ≡ r = sym (e ∙ get_or_from_slice_get b.writes file f.0 r f.1) in
    let ef : slice_get b.writes file ≡ Some r = f.1 ∙ ap Some same in
    let p = lent_at r.stands.index at in
    let some : IsTrue (is_some (option_map lent_sheet (slice_get r.stands.index at))) = subst (λ (x : LentFile). IsTrue (is_some (option_map lent_sheet (g x)))) same f.2 in
    let ep : slice_get r.stands.index at ≡ Some p = lent_there r.stands.index at some in
    let sheet = index_at b file at r p ef ep in
    let number : number_at b (Index file at) ≡ p.no.0 = ap (λ o. option_map_or (λ (s : Sheet). s.page) o 0) sheet in
    let page : page_in b p.no.0 ≡ p.page = page_at b (Index file at) (lent_sheet p) apart sheet in
    ap (λ x. record b { writes = slice_set b.writes file x }) eq
    ∙ index_put b file at r p (with_part offset bytes p.page) apart ef ep
    ∙ ap (λ x. with_page p.no.0 (with_part offset bytes x) b) (sym page)
    ∙ ap (λ m. with_page m (with_part offset bytes (page_in b m)) b) (sym number)

pub put_block : (b : Parcel) (file at : ℕ) (r q : LentFile) (offset : ℕ) (bytes : List ℕ) → AreApart b → IsTrue (is_some (sheet_at b (Block file at)))
    → r ≡ get_or b.writes file r
    → q ≡ record r { stands = record r.stands { blocks = with_touched r.stands.blocks at (with_part offset bytes (lent_at r.stands.blocks at).page) } }
    → record b { writes = slice_set b.writes file q } ≡ with_page (number_at b (Block file at)) (with_part offset bytes (page_in b (number_at b (Block file at)))) b
put_block b file at r q offset bytes apart there e eq =
    let g : LentFile → Option LentPage = λ f. slice_get f.stands.blocks at in
    let f = there_mapped g (slice_get b.writes file) there in
    let same : f.0 ≡ r = sym (e ∙ get_or_from_slice_get b.writes file f.0 r f.1) in
    let ef : slice_get b.writes file ≡ Some r = f.1 ∙ ap Some same in
    let p = lent_at r.stands.blocks at in
    let some : IsTrue (is_some (option_map lent_sheet (slice_get r.stands.blocks at))) = subst (λ (x : LentFile). IsTrue (is_some (option_map lent_sheet (g x)))) same f.2 in
    let ep : slice_get r.stands.blocks at ≡ Some p = lent_there r.stands.blocks at some in
    let sheet = block_at b file at r p ef ep in
    let number : number_at b (Block file at) ≡ p.no.0 = ap (λ o. option_map_or (λ (s : Sheet). s.page) o 0) sheet in
    let page : page_in b p.no.0 ≡ p.page = page_at b (Block file at) (lent_sheet p) apart sheet in
    ap (λ x. record b { writes = slice_set b.writes file x }) eq
    ∙ block_put b file at r p (with_part offset bytes p.page) apart ef ep
    ∙ ap (λ x. with_page p.no.0 (with_part offset bytes x) b) (sym page)
    ∙ ap (λ m. with_page m (with_part offset bytes (page_in b m)) b) (sym number)

-- ---- a page is read, by its place

pub index_read : (b : Parcel) (file at : ℕ) (r : LentFile) (o : Option (Bor Page)) (p : Bor Page) → AreApart b → IsTrue (is_some (sheet_at b (Index file at)))
    → r ≡ get_or b.writes file r → option_copied o ≡ lent_bytes r.stands.index at → o ≡ Some p → p.now ≡ page_in b (number_at b (Index file at))
index_read b file at r o p apart there e copied is =
    let g : LentFile → Option LentPage = λ f. slice_get f.stands.index at in
    let f = there_mapped g (slice_get b.writes file) there in
    let same : f.0 ≡ r = sym (e ∙ get_or_from_slice_get b.writes file f.0 r f.1) in
    let ef : slice_get b.writes file ≡ Some r = f.1 ∙ ap Some same in
    let q = lent_at r.stands.index at in
    let some : IsTrue (is_some (option_map lent_sheet (slice_get r.stands.index at))) = subst (λ (x : LentFile). IsTrue (is_some (option_map lent_sheet (g x)))) same f.2 in
    let ep : slice_get r.stands.index at ≡ Some q = lent_there r.stands.index at some in
    let sheet = index_at b file at r q ef ep in
    let number : number_at b (Index file at) ≡ q.no.0 = ap (λ o. option_map_or (λ (s : Sheet). s.page) o 0) sheet in
    let page : page_in b q.no.0 ≡ q.page = page_at b (Index file at) (lent_sheet q) apart sheet in
    let read : Some p.now ≡ Some q.page = sym (ap option_copied is) ∙ copied ∙ ap (option_map (λ (x : LentPage). x.page)) ep in
    let one : p.now ≡ q.page = cc read in
    one ∙ sym page ∙ ap (page_in b) (sym number)

pub block_read : (b : Parcel) (file at : ℕ) (r : LentFile) (o : Option (Bor Page)) (p : Bor Page) → AreApart b → IsTrue (is_some (sheet_at b (Block file at)))
    → r ≡ get_or b.writes file r → option_copied o ≡ lent_bytes r.stands.blocks at → o ≡ Some p → p.now ≡ page_in b (number_at b (Block file at))
block_read b file at r o p apart there e copied is =
    let g : LentFile → Option LentPage = λ f. slice_get f.stands.blocks at in
    let f = there_mapped g (slice_get b.writes file) there in
    let same : f.0 ≡ r = sym (e ∙ get_or_from_slice_get b.writes file f.0 r f.1) in
    let ef : slice_get b.writes file ≡ Some r = f.1 ∙ ap Some same in
    let q = lent_at r.stands.blocks at in
    let some : IsTrue (is_some (option_map lent_sheet (slice_get r.stands.blocks at))) = subst (λ (x : LentFile). IsTrue (is_some (option_map lent_sheet (g x)))) same f.2 in
    let ep : slice_get r.stands.blocks at ≡ Some q = lent_there r.stands.blocks at some in
    let sheet = block_at b file at r q ef ep in
    let number : number_at b (Block file at) ≡ q.no.0 = ap (λ o. option_map_or (λ (s : Sheet). s.page) o 0) sheet in
    let page : page_in b q.no.0 ≡ q.page = page_at b (Block file at) (lent_sheet q) apart sheet in
    let read : Some p.now ≡ Some q.page = sym (ap option_copied is) ∙ copied ∙ ap (option_map (λ (x : LentPage). x.page)) ep in
    let one : p.now ≡ q.page = cc read in
    one ∙ sym page ∙ ap (page_in b) (sym number)

pub fresh_read : (b : Parcel) (at : ℕ) (r : FreshParts) → AreApart b → IsTrue (is_some (sheet_at b (Fresh at))) → r ≡ get_or b.pages at r
    → r.page ≡ page_in b (number_at b (Fresh at))
fresh_read b at r apart there e =
    let here : slice_get b.pages at ≡ Some r = got fresh_sheet b.pages at r there e in
    let sheet = fresh_at b at r here in
    let number : number_at b (Fresh at) ≡ r.no.0 = ap (λ o. option_map_or (λ (s : Sheet). s.page) o 0) sheet in
    sym (page_at b (Fresh at) (fresh_sheet r) apart sheet) ∙ ap (page_in b) (sym number)

-- ---- the body of a file is written

body_with-index : (ino : ℕ) (w : List ℕ) (f : LentFile) → (body_with ino w f).stands.index ≡ f.stands.index
body_with-index ino w f = elim (eqb f.stands.ino ino) as (λ v. (if v then record f { stands = record f.stands { body = w } } else f).stands.index ≡ f.stands.index) [ true ↦ refl | false ↦ refl ]

body_with-blocks : (ino : ℕ) (w : List ℕ) (f : LentFile) → (body_with ino w f).stands.blocks ≡ f.stands.blocks
body_with-blocks ino w f = elim (eqb f.stands.ino ino) as (λ v. (if v then record f { stands = record f.stands { body = w } } else f).stands.blocks ≡ f.stands.blocks) [ true ↦ refl | false ↦ refl ]

body_with-ino : (ino : ℕ) (w : List ℕ) (f : LentFile) → (body_with ino w f).stands.ino ≡ f.stands.ino
body_with-ino ino w f = elim (eqb f.stands.ino ino) as (λ v. (if v then record f { stands = record f.stands { body = w } } else f).stands.ino ≡ f.stands.ino) [ true ↦ refl | false ↦ refl ]

-- what is taken of a file that was mapped
then_map : {Y : Type 0} (h : LentFile → LentFile) (g : LentFile → Option Y) (o : Option LentFile) → ((f : LentFile) → g (h f) ≡ g f)
    → option_and_then g (option_map h o) ≡ option_and_then g o
then_map h g None same = refl
then_map h g (Some f) same = same f

pub with_body-at : (ino : ℕ) (w : List ℕ) (b : Parcel) (place : PagePlace) → sheet_at (with_body ino w b) place ≡ sheet_at b place
unfolding with_body
with_body-at ino w b (Index file at) =
    let g : LentFile → Option LentPage = λ f. slice_get f.stands.index at in
    ap (λ o. option_map lent_sheet (option_and_then g o)) (slice_get-map (body_with ino w) b.writes file)
    ∙ ap (option_map lent_sheet) (then_map (body_with ino w) g (slice_get b.writes file) (λ f. ap (λ ps. slice_get ps at) (body_with-index ino w f)))
with_body-at ino w b (Block file at) =
    let g : LentFile → Option LentPage = λ f. slice_get f.stands.blocks at in
    ap (λ o. option_map lent_sheet (option_and_then g o)) (slice_get-map (body_with ino w) b.writes file)
    ∙ ap (option_map lent_sheet) (then_map (body_with ino w) g (slice_get b.writes file) (λ f. ap (λ ps. slice_get ps at) (body_with-blocks ino w f)))
with_body-at ino w b (Fresh at) = refl

pub apart_body : (ino : ℕ) (w : List ℕ) (b : Parcel) → AreApart b → AreApart (with_body ino w b)
unfolding with_body
apart_body ino w b apart = record {
  pages = λ p q x y ex ey same. apart.pages p q x y (sym (with_body-at ino w b p) ∙ ex) (sym (with_body-at ino w b q) ∙ ey) same;
  files = subst (λ ns. IsTrue (are_new [] ns))
      (sym (map-map (λ (f : LentFile). f.stands.ino) (body_with ino w) b.writes ∙ map_alike (λ f. (body_with ino w f).stands.ino) (λ f. f.stands.ino) b.writes (body_with-ino ino w))) apart.files;
}

pub body_put : (b : Parcel) (at : ℕ) (w : List ℕ) (r q : LentFile) → AreApart b → at < length b.writes → r ≡ get_or b.writes at r
    → q ≡ record r { stands = record r.stands { body = w } }
    → record b { writes = slice_set b.writes at q } ≡ with_body (ino_at b at) w b
unfolding with_body
body_put b at w r q apart lt e eq =
    let ef : slice_get b.writes at ≡ Some r = slice_get-get_or b.writes at r lt ∙ ap Some (sym e) in
    let ino = r.stands.ino in
    let number : ino_at b at ≡ ino = ap (λ o. option_map_or (λ (f : LentFile). f.stands.ino) o 0) ef in
    let mine : body_with ino w r ≡ record r { stands = record r.stands { body = w } } = if_same ino ino (record r { stands = record r.stands { body = w } }) r refl in
    let files : slice_set b.writes at (body_with ino w r) ≡ map (body_with ino w) b.writes = set_map (body_with ino w) b.writes at r ef (λ j g eg ne.
    if_other g.stands.ino ino (record g { stands = record g.stands { body = w } }) g (λ s. ne (once_at (λ (f : LentFile). f.stands.ino) b.writes j at g r apart.files eg ef s))) in
    ap (λ x. record b { writes = slice_set b.writes at x }) (eq ∙ sym mine)
    ∙ ap (λ fs. record b { writes = fs }) files
    ∙ ap (λ n. with_body n w b) (sym number)

-- the body of the file at a place, and those of the others after it was written
pub body_set : (b : Parcel) (at : ℕ) (q : LentFile) → at < length b.writes → body_at (record b { writes = slice_set b.writes at q }) (Leased at) ≡ q.stands.body
body_set b at q lt =
    let within : at < length (slice_set b.writes at q) = rw length-set lt in
    ap (λ o. option_map_or (λ (f : Shown). f.body) (option_map (λ (f : LentFile). f.stands) o) [])
    (slice_get-get_or (slice_set b.writes at q) at q within ∙ ap Some (get_or-set_same b.writes at q q lt))

pub body_others : (b : Parcel) (at i : ℕ) (q : LentFile) → i ≢ at → body_at (record b { writes = slice_set b.writes at q }) (Leased i) ≡ body_at b (Leased i)
body_others b at i q ne = ap (λ o. option_map_or (λ (f : Shown). f.body) (option_map (λ (f : LentFile). f.stands) o) []) (set_beside b.writes at i q ne)

-- ---- files by their places

-- a written file
pub lent_parts : (b : Parcel) (at : ℕ) (s : Shown) → shown_at b (Leased at) ≡ Some s → (f : LentFile) × (slice_get b.writes at ≡ Some f) × (f.stands ≡ s)
lent_parts b at s e = map_some (λ (f : LentFile). f.stands) (slice_get b.writes at) s e

pub shown_at-Leased : (b : Parcel) (at : ℕ) (f : LentFile) → slice_get b.writes at ≡ Some f → shown_at b (Leased at) ≡ Some f.stands
shown_at-Leased b at f e = ap (option_map (λ (g : LentFile). g.stands)) e

-- a file in a slot
pub slot_parts : (b : Parcel) (page : PagePlace) (slot : ℕ) (s : Shown) → shown_at b (InSlot page slot) ≡ Some s
    → (x : Sheet) × (sheet_at b page ≡ Some x) × (slot_file (body_in_slot slot x.bytes) ≡ s)
slot_parts b page slot s e = map_some (λ (x : Sheet). slot_file (body_in_slot slot x.bytes)) (sheet_at b page) s e

pub shown_at-InSlot : (b : Parcel) (page : PagePlace) (slot : ℕ) (x : Sheet) → sheet_at b page ≡ Some x → shown_at b (InSlot page slot) ≡ Some (slot_file (body_in_slot slot x.bytes))
shown_at-InSlot b page slot x e = ap (option_map (λ (y : Sheet). slot_file (body_in_slot slot y.bytes))) e

-- each place has a page of the same number after a write
pub number_stays : (n : ℕ) (w : List ℕ) (b : Parcel) (place : PagePlace)
    → option_map (λ x. x.page) (sheet_at (with_page n w b) place) ≡ option_map (λ x. x.page) (sheet_at b place)
unfolding with_page
number_stays n w b (Index file at) =
    ap (λ o. option_map (λ (x : Sheet). x.page) (option_map lent_sheet (option_and_then (λ (f : LentFile). slice_get f.stands.index at) o))) (slice_get-map (file_with n w) b.writes file)
    ∙ by (slice_get b.writes file)
  where
    page : (o : Option LentPage) → option_map (λ (x : Sheet). x.page) (option_map lent_sheet (option_map (index_with n w) o)) ≡ option_map (λ (x : Sheet). x.page) (option_map lent_sheet o)
    page None = refl
    page (Some p) = ap (λ m. Some m.0) (index_with-no n w p)

    by : (o : Option LentFile) → option_map (λ (x : Sheet). x.page) (option_map lent_sheet (option_and_then (λ (f : LentFile). slice_get f.stands.index at) (option_map (file_with n w) o)))
        ≡ option_map (λ (x : Sheet). x.page) (option_map lent_sheet (option_and_then (λ (f : LentFile). slice_get f.stands.index at) o))
    by None = refl
    by (Some f) = ap (λ o. option_map (λ (x : Sheet). x.page) (option_map lent_sheet o)) (slice_get-map (index_with n w) f.stands.index at) ∙ page (slice_get f.stands.index at)
number_stays n w b (Block file at) =
    ap (λ o. option_map (λ (x : Sheet). x.page) (option_map lent_sheet (option_and_then (λ (f : LentFile). slice_get f.stands.blocks at) o))) (slice_get-map (file_with n w) b.writes file)
    ∙ by (slice_get b.writes file)
  where
    page : (o : Option LentPage) → option_map (λ (x : Sheet). x.page) (option_map lent_sheet (option_map (block_with n w) o)) ≡ option_map (λ (x : Sheet). x.page) (option_map lent_sheet o)
    page None = refl
    page (Some p) = ap (λ m. Some m.0) (block_with-no n w p)

    by : (o : Option LentFile) → option_map (λ (x : Sheet). x.page) (option_map lent_sheet (option_and_then (λ (f : LentFile). slice_get f.stands.blocks at) (option_map (file_with n w) o)))
        ≡ option_map (λ (x : Sheet). x.page) (option_map lent_sheet (option_and_then (λ (f : LentFile). slice_get f.stands.blocks at) o))
    by None = refl
    by (Some f) = ap (λ o. option_map (λ (x : Sheet). x.page) (option_map lent_sheet o)) (slice_get-map (block_with n w) f.stands.blocks at) ∙ page (slice_get f.stands.blocks at)
number_stays n w b (Fresh at) =
    ap (λ o. option_map (λ (x : Sheet). x.page) (option_map fresh_sheet o)) (slice_get-map (fresh_with n w) b.pages at) ∙ by (slice_get b.pages at)
  where
    by : (o : Option FreshParts) → option_map (λ (x : Sheet). x.page) (option_map fresh_sheet (option_map (fresh_with n w) o)) ≡ option_map (λ (x : Sheet). x.page) (option_map fresh_sheet o)
    by None = refl
    by (Some p) = ap (λ m. Some m.0) (fresh_with-no n w p)

-- what is said of a page by its number alone
pub number_at-map : (b b' : Parcel) (place : PagePlace) → option_map (λ x. x.page) (sheet_at b' place) ≡ option_map (λ x. x.page) (sheet_at b place) → number_at b' place ≡ number_at b place
number_at-map b b' place e = sym (by (sheet_at b' place)) ∙ ap (λ o. option_map_or (λ n. n) o 0) e ∙ by (sheet_at b place)
  where
    by : (o : Option Sheet) → option_map_or (λ n. n) (option_map (λ (x : Sheet). x.page) o) 0 ≡ option_map_or (λ (x : Sheet). x.page) o 0
    by None = refl
    by (Some x) = refl

-- a page that is there is there after a write, with the same number
pub still_there : (b b' : Parcel) (place : PagePlace) (x : Sheet) → option_map (λ x. x.page) (sheet_at b' place) ≡ option_map (λ x. x.page) (sheet_at b place) → sheet_at b place ≡ Some x
    → (y : Sheet) × (sheet_at b' place ≡ Some y) × (y.page ≡ x.page)
still_there b b' place x e there = map_some (λ (y : Sheet). y.page) (sheet_at b' place) x.page (e ∙ ap (option_map (λ (y : Sheet). y.page)) there)

-- the body in a slot of the page at a place
pub body_at-InSlot : (b : Parcel) (page : PagePlace) (slot : ℕ) → AreApart b → IsTrue (is_some (shown_at b (InSlot page slot)))
    → body_at b (InSlot page slot) ≡ body_in_slot slot (page_in b (number_at b page))
body_at-InSlot b page slot apart there = by (sheet_at b page) refl there
  where
    by : (o : Option Sheet) → sheet_at b page ≡ o → IsTrue (is_some (option_map (λ (x : Sheet). slot_file (body_in_slot slot x.bytes)) o))
        → body_at b (InSlot page slot) ≡ body_in_slot slot (page_in b (number_at b page))
    by None e k = absurd (let t : false ≡ true = k in cc t)
    by (Some x) e k =
        ap (λ o. option_map_or (λ (f : Shown). f.body) (option_map (λ (x : Sheet). slot_file (body_in_slot slot x.bytes)) o) []) e
        ∙ ap (body_in_slot slot) (sym (page_at b page x apart e))
        ∙ ap (λ n. body_in_slot slot (page_in b n)) (sym (ap (λ o. option_map_or (λ (s : Sheet). s.page) o 0) e))
