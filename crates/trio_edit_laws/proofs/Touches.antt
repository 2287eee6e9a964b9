-- Writes of pages of a parcel, and of a body: what they leave.
use Rattle.trio_edit_laws.proofs.Words.{if◌then◌else◌, ◌∙◌, ◌∷◌, ◌≡◌, AreWhole, Bool, In, LentFile, LentPage, LibOut, List, Parcel, WasGiven, Written, [], ap, are_new, arith, bare_file, bundle_of, bundle_pages, eqb, eqb-true, false, inl, inr, length, lent_files, map, map-In, map-map, map_alike, page_in, page_in-with_body, page_in-with_page_else, page_numbers, pages-with_page, refl, sheet_numbers, subst, sym, true, written_with, ℕ}
use Rattle.trio_desk.specs.Out.{IsAllotted, IsLent}
use Rattle.trio_session.specs.Layout.{block_with, body_with, file_with, fresh_with, index_with, with_body, with_page}
use Rattle.trio_session.proofs.Places.{index_with-no, block_with-no}
use Rattle.trio_session.proofs.Stays.{fresh_numbers}
use Rattle.trio_session.proofs.Pages.{sheets_of-with_body}

-- the numbers, kinds and bodies of the written files
abbrev pub bare_files : Parcel → List Written
bare_files b = map (λ f. bare_file f.stands) b.writes

-- What an edit leaves of all that is in hand: the files, as they then stand, are these; and bytes of none but these pages differ.
pub record Alters (P : ℕ → Type 0) (files' : List Written) (b b' : Parcel) : Type 0 where
  pub files : bare_files b' ≡ files'
  pub lent : lent_files b'.writes ≡ lent_files b.writes
  pub pages : bundle_pages (bundle_of b') ≡ bundle_pages (bundle_of b)
  pub fresh : page_numbers b'.pages ≡ page_numbers b.pages
  pub holds : b'.holds ≡ b.holds
  pub inodes : b'.inodes ≡ b.inodes
  pub given : (out : LibOut) → WasGiven out b → WasGiven out b'
  pub other : (n : ℕ) → (P n → ⊥) → page_in b' n ≡ page_in b n

-- the files stand as they did
abbrev pub Touches : (ℕ → Type 0) → Parcel → Parcel → Type 0
Touches P b b' = Alters P (bare_files b) b b'

pub touches_nothing : (P : ℕ → Type 0) (b : Parcel) → Touches P b b
touches_nothing P b = record { files = refl; lent = refl; pages = refl; fresh = refl; holds = refl; inodes = refl; given = λ out g. g; other = λ n no. refl }

-- one edit after another
pub alters_then : (P : ℕ → Type 0) (files' : List Written) (a b c : Parcel) → Touches P a b → Alters P files' b c → Alters P files' a c
alters_then P files' a b c x y = record {
  files = y.files;
  lent = y.lent ∙ x.lent;
  pages = y.pages ∙ x.pages;
  fresh = y.fresh ∙ x.fresh;
  holds = y.holds ∙ x.holds;
  inodes = y.inodes ∙ x.inodes;
  given = λ out g. y.given out (x.given out g);
  other = λ n no. y.other n no ∙ x.other n no;
}

pub touches_then : (P : ℕ → Type 0) (a b c : Parcel) → Touches P a b → Touches P b c → Touches P a c
touches_then P a b c x y = alters_then P (bare_files a) a b c x (subst (λ l. Alters P l b c) x.files y)

-- the same for more pages
pub alters_more : (P Q : ℕ → Type 0) (files' : List Written) (b b' : Parcel) → ((n : ℕ) → P n → Q n) → Alters P files' b b' → Alters Q files' b b'
alters_more P Q files' b b' more x = search arith

-- ---- a page is written

whole_index : (n : ℕ) (w : List ℕ) (ps : List LentPage) → length w ≡ 4096 → AreWhole ps → AreWhole (map (index_with n w) ps)
whole_index n w ps len whole p i = search (arith, map-In)

whole_blocks : (n : ℕ) (w : List ℕ) (ps : List LentPage) → length w ≡ 4096 → AreWhole ps → AreWhole (map (block_with n w) ps)
whole_blocks n w ps len whole p i = search (arith, map-In)

lent_still : (n : ℕ) (w : List ℕ) (out : LibOut) (f : LentFile) → length w ≡ 4096 → IsLent out f → IsLent out (file_with n w f)
lent_still n w out f len is = search (arith, map-map, map_alike, index_with-no, block_with-no, whole_index, whole_blocks)

given_still : (n : ℕ) (w : List ℕ) (b : Parcel) (out : LibOut) → length w ≡ 4096 → WasGiven out b → WasGiven out (with_page n w b)
unfolding with_page
given_still n w b out len g = record {
  writes = λ f i.
      let q = map-In (file_with n w) f b.writes i in subst (λ x. IsLent out x) (sym q.2) (lent_still n w out q.0 len (g.writes q.0 q.1));
  holds = g.holds;
  pages = λ p i.
      let q = map-In (fresh_with n w) p b.pages i in
      let is = g.pages q.0 q.1 in
      subst (λ x. IsAllotted out x) (sym q.2)
      (elim (eqb q.0.no.0 n) as (λ v. IsAllotted out (if v then record q.0 { page = w } else q.0)) [ true ↦ record { given = is.given; whole = len } | false ↦ is ]);
  numbers = g.numbers;
  writes_once = ap (are_new []) (map-map (λ (f : LentFile). f.stands.ino) (file_with n w) b.writes) ∙ g.writes_once;
  holds_once = g.holds_once;
  pages_once = ap (are_new []) (fresh_numbers n w b.pages) ∙ g.pages_once;
  numbers_once = g.numbers_once;
}

pub touches_page : (P : ℕ → Type 0) (n : ℕ) (w : List ℕ) (b : Parcel) → P n → length w ≡ 4096 → Touches P b (with_page n w b)
unfolding with_page
touches_page P n w b own len = record {
  files = map-map (λ (f : LentFile). bare_file f.stands) (file_with n w) b.writes;
  lent = map-map (λ (f : LentFile). f.lent) (file_with n w) b.writes;
  pages = pages-with_page n w b;
  fresh = fresh_numbers n w b.pages;
  holds = refl;
  inodes = refl;
  given = λ out g. given_still n w b out len g;
  other = λ m no. page_in-with_page_else n m w b (λ e. no (subst P (sym e) own));
}

-- ---- a body is written

body_lent : (ino : ℕ) (body : List ℕ) (out : LibOut) (f : LentFile) → IsLent out f → IsLent out (body_with ino body f)
body_lent ino body out f is = search arith

body-bare : (ino : ℕ) (body : List ℕ) (f : LentFile) → bare_file (body_with ino body f).stands ≡ written_with ino body (bare_file f.stands)
body-bare ino body f =
    elim (eqb f.stands.ino ino) as (λ v. bare_file (if v then record f { stands = record f.stands { body = body } } else f).stands ≡ (if v then record (bare_file f.stands) { body = body } else bare_file f.stands)) [ true ↦ refl | false ↦ refl ]

body-lent : (ino : ℕ) (body : List ℕ) (f : LentFile) → (body_with ino body f).lent ≡ f.lent
body-lent ino body f = elim (eqb f.stands.ino ino) as (λ v. (if v then record f { stands = record f.stands { body = body } } else f).lent ≡ f.lent) [ true ↦ refl | false ↦ refl ]

body-ino : (ino : ℕ) (body : List ℕ) (f : LentFile) → (body_with ino body f).stands.ino ≡ f.stands.ino
body-ino ino body f = elim (eqb f.stands.ino ino) as (λ v. (if v then record f { stands = record f.stands { body = body } } else f).stands.ino ≡ f.stands.ino) [ true ↦ refl | false ↦ refl ]

given_bodied : (ino : ℕ) (body : List ℕ) (b : Parcel) (out : LibOut) → WasGiven out b → WasGiven out (with_body ino body b)
unfolding with_body
given_bodied ino body b out g = record {
  writes = λ f i. let q = map-In (body_with ino body) f b.writes i in subst (λ x. IsLent out x) (sym q.2) (body_lent ino body out q.0 (g.writes q.0 q.1));
  holds = g.holds;
  pages = g.pages;
  numbers = g.numbers;
  writes_once = search (arith, map-map, map_alike, body-ino);
  holds_once = g.holds_once;
  pages_once = g.pages_once;
  numbers_once = g.numbers_once;
}

-- the file of this number has this body
pub alters_body : (P : ℕ → Type 0) (ino : ℕ) (body : List ℕ) (b : Parcel) → Alters P (map (written_with ino body) (bare_files b)) b (with_body ino body b)
unfolding with_body
alters_body P ino body b = record {
  files = search (arith, map-map, map_alike, body-bare);
  lent = map-map (λ (f : LentFile). f.lent) (body_with ino body) b.writes ∙ map_alike (λ f. (body_with ino body f).lent) (λ f. f.lent) b.writes (body-lent ino body);
  pages = ap sheet_numbers (sheets_of-with_body ino body b);
  fresh = refl;
  holds = refl;
  inodes = refl;
  given = λ out g. given_bodied ino body b out g;
  other = λ n no. page_in-with_body ino n body b;
}

-- pages are written, and then a body
pub alters_bodied : (P : ℕ → Type 0) (ino : ℕ) (body : List ℕ) (a b : Parcel) → Touches P a b → Alters P (map (written_with ino body) (bare_files a)) a (with_body ino body b)
alters_bodied P ino body a b t =
    alters_then P (map (written_with ino body) (bare_files a)) a b (with_body ino body b) t
    (subst (λ l. Alters P (map (written_with ino body) l) b (with_body ino body b)) t.files (alters_body P ino body b))

-- where the file of this number has this body already
pub alters_none : (P : ℕ → Type 0) (ino : ℕ) (body : List ℕ) (a b : Parcel) → ((f : LentFile) → In f a.writes → f.stands.ino ≡ ino → f.stands.body ≡ body) → Touches P a b
    → Alters P (map (written_with ino body) (bare_files a)) a b
alters_none P ino body a b has t = subst (λ l. Alters P l a b) (sym (same a.writes has)) t
  where
    one : (f : LentFile) → (f.stands.ino ≡ ino → f.stands.body ≡ body) → (v : Bool) → eqb f.stands.ino ino ≡ v → (if v then record (bare_file f.stands) { body = body } else bare_file f.stands) ≡ bare_file f.stands
    one f h true e = ap (λ l. record (bare_file f.stands) { body = l }) (sym (h (eqb-true f.stands.ino ino e)))
    one f h false e = refl

    same : (fs : List LentFile) → ((f : LentFile) → In f fs → f.stands.ino ≡ ino → f.stands.body ≡ body) → map (written_with ino body) (map (λ (f : LentFile). bare_file f.stands) fs) ≡ map (λ (f : LentFile). bare_file f.stands) fs
    same [] h = refl
    same (f ∷ fs) h =
        ap (λ w. w ∷ map (written_with ino body) (map (λ (f : LentFile). bare_file f.stands) fs)) (one f (h f (inl refl)) (eqb f.stands.ino ino) refl)
        ∙ ap (λ l. bare_file f.stands ∷ l) (same fs (λ g i. h g (inr i)))
