-- A file of the bundle's pages alone reads the same in the bundle and in the image with its pages in place.
use Rattle.trio_surveys.proofs.Words.{◌++◌, ◌∙◌, ◌∷◌, ◌≡◌, ◌≤◌, Bundle, Core, Creds, FileRead, Image, In, In-find, In-map, List, Listed, Met, None, Ok, Option, Pick, Row, Some, [], and_from, and_parts, ap, arith, bundle_core, bundle_pages, bundle_sheets, case_of, eq-eqb, eqb, eqb-true, false≢true, file_of, file_within, find-In, length, map, map-In, met_in, numbers, option_map_or, proposed, refl, replicate, settled_body, subst, sym, true, with_pages, ℕ}
use Rattle.trio_layout.specs.Case.{Held}
use Rattle.trio_layout.specs.Proposed.{is_place_of, kept_body}
use Rattle.trio_layout.specs.Rules.{lent_body}
use Rattle.trio_surveys.proofs.BundlePages.{in_there, there_same}
use Rattle.trio_surveys.proofs.Cores.{listed_is_core}
use Rattle.trio_surveys.proofs.Local.{file_local}
use Rattle.trio_surveys.proofs.Owned.{pages_are}
use Rattle.trio_surveys.proofs.Within.{file_part, file_whole, read_pages, root_unread}
use Rattle.trio_layout.proofs.WithinCore.{listed_within_core}

-- a row that names a place
pub place_parts : (d p s : ℕ) (o : Option Row) → is_place_of d p s o ≡ true → (r : Row) × (o ≡ Some r) × (r.parent ≡ d) × (r.page ≡ p) × (r.slot ≡ s)
place_parts d p s o e = search (arith, false≢true, and_parts, eqb-true)

pub place_from : (d p s : ℕ) (o : Option Row) (r : Row) → o ≡ Some r → r.parent ≡ d → r.page ≡ p → r.slot ≡ s → is_place_of d p s o ≡ true
place_from d p s o r e a b c = search (arith, and_from, eq-eqb)

-- numbers of entries don't go by the bodies that are picked
pub numbers_met : (p q : Pick) (d e : ℕ) (ls : List Listed) → numbers (map (met_in p d) ls) ≡ numbers (map (met_in q e) ls)
numbers_met p q d e [] = refl
numbers_met p q d e (l ∷ ls) = ap (λ ns. l.entry.ino ∷ ns) (numbers_met p q d e ls)

-- the body that a hold lent is the settled one
pub lent_settled : (image : Image) (creds : Creds) (b : Bundle) (n : ℕ) → In n b.holds → lent_body (case_of image creds b) n ≡ settled_body image n
lent_settled image creds b n i =
    let lend : ℕ → Held = λ n. record { ino = n; body = settled_body image n } in
    let lent : List Held = map lend b.holds in
    let f = In-find (λ (h : Held). eqb h.ino n) lent (lend n) (In-map lend n b.holds i) (eq-eqb n n refl) in
    let g = find-In (λ (h : Held). eqb h.ino n) lent f.0 f.1 in
    let q = map-In lend f.0 b.holds g.0 in
    let is : q.0 ≡ n = ap (λ (h : Held). h.ino) (sym q.2) ∙ eqb-true f.0.ino n g.1 in
    ap (λ o. option_map_or (λ (h : Held). h.body) o []) f.1 ∙ ap (λ (h : Held). h.body) q.2 ∙ ap (settled_body image) is

module _ (image : Image) (creds : Creds) (b : Bundle) (long : image.core.range.end ≤ length image.core.pages) where
  abbrev cb : Core
  cb = bundle_core (case_of image creds b)

  abbrev core : Core
  core = proposed image b

  pub own_whole : (m : Met) (f : FileRead) → file_within (bundle_core (case_of image creds b)) m ≡ Ok f → ((p : ℕ) → In p (f.chain.index ++ f.chain.blocks) → In p (bundle_pages b)) → file_of (proposed image b) m ≡ Ok f
  own_whole m f e own =
      let is_core_page = λ (p : ℕ) (i : In p (f.chain.index ++ f.chain.blocks)). listed_within_core cb m f p e i in
      let alone : file_of cb m ≡ Ok f = file_whole cb m f e (λ p i. let t = in_there image creds b long p (is_core_page p i) (own p i) in (t.0, t.1)) in
      let pages : List (Option (List ℕ)) = with_pages (bundle_sheets b) image.core.pages in
      root_unread pages (kept_body image b 1) [] image.core.range image.core.inodes m
      ∙ file_local cb pages m f alone (λ p i. let k = read_pages m f p i in there_same image creds b long p (is_core_page p k) (own p k))

  pub own_within : (m : Met) (f : FileRead) → file_of (proposed image b) m ≡ Ok f → ((p : ℕ) → In p (f.chain.index ++ f.chain.blocks) → In p (bundle_pages b)) → file_within (bundle_core (case_of image creds b)) m ≡ Ok f
  own_within m f e own =
      let is_core_page = λ (p : ℕ) (i : In p (f.chain.index ++ f.chain.blocks)). listed_is_core core m f p e (subst (λ l. In p l) (sym (pages_are core m f e)) i) in
      let pages : List (Option (List ℕ)) = with_pages (bundle_sheets b) (replicate image.core.range.end None) in
      let alone : file_of cb m ≡ Ok f =
      root_unread pages [] (kept_body image b 1) image.core.range image.core.inodes m
      ∙ file_local core pages m f e (λ p i. let k = read_pages m f p i in sym (there_same image creds b long p (is_core_page p k) (own p k))) in
      file_part cb m f alone (λ p i. let t = in_there image creds b long p (is_core_page p i) (own p i) in (t.0, t.1))
