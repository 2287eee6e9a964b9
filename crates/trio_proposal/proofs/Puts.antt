-- Pages that are put in place and marked, one list after another.
use Rattle.trio_proposal.proofs.Words.{◌++◌, ◌+◌, ◌<◌, ◌∙◌, ◌∷◌, ◌≡◌, ◌≤◌, ArePut, AreWithin, Bool, Bundled, In, In-left, In-right, LentFile, LentPage, List, MarksJust, None, Option, Sheet, Some, Written, [], ap, bundle_in, bundle_sheets, flat_map, fresh_sheet, get_or, inl, inr, lease_sheets, length, lent_sheet, map, option_map, refl, sheet_numbers, subst, suc, sym, take, with_pages, written_in, zero, ℕ}
use Rattle.std.proofs.Common.{append_assoc}
use Rattle.std.specs.Prelude.{slice_get}
use Rattle.std.proofs.lemmas.List.{append-nil, map-append, take_more}
use Rattle.std.proofs.lemmas.List.Folds.{flat_map-map}
use Rattle.std.proofs.lemmas.Grind.{flat_map-append}
use Rattle.std.proofs.lemmas.Option.{slice_get_within, slice_get_cases, get_or_from_slice_get, slice_get-get_or, slice_get-map}
use Rattle.trio_page.specs.declared.page.PageNo.{PageNo}
use Rattle.trio_lease.specs.declared.parts.FreshParts.{FreshParts}
use Rattle.trio_lease.specs.Shown.{page_at, no_at}
use Rattle.trio_surveys.proofs.Sheets.{with_pages-append}
use Rattle.trio_surveys.proofs.SheetLaws.{length-with_pages}
use Rattle.trio_lists.proofs.Members.{In-flat}

abbrev Pages : Type 0
Pages = List (Option (List ℕ))

pub put_none : (pages : Pages) (marks : List Bool) → ArePut [] pages pages marks marks
put_none pages marks = record {
  pages = refl;
  marked = λ seen m. subst (MarksJust marks) (sym (append-nil seen)) m;
  many = refl;
}

pub put_both : (xs ys : List Sheet) (a b c : Pages) (k l m : List Bool) → ArePut xs a b k l → ArePut ys b c l m → ArePut (xs ++ ys) a c k m
put_both xs ys a b c k l m p q = record {
  pages = q.pages ∙ ap (with_pages ys) p.pages ∙ sym (with_pages-append xs ys a);
  marked = λ seen s.
      subst (MarksJust m)
      (append_assoc seen (sheet_numbers xs) (sheet_numbers ys) ∙ ap (λ ns. seen ++ ns) (sym (map-append (λ (x : Sheet). x.page) xs ys)))
      (q.marked (seen ++ sheet_numbers xs) (p.marked seen s));
  many = q.many ∙ p.many;
}

-- the places stay as many
pub put_long : (xs : List Sheet) (a b : Pages) (k l : List Bool) → ArePut xs a b k l → length b ≡ length a
put_long xs a b k l p = ap length p.pages ∙ length-with_pages xs a

-- the list up to an element and that element
pub take_there : {X : Type 0} (xs : List X) (i : ℕ) (x : X) → slice_get xs i ≡ Some x → take (i + 1) xs ≡ take i xs ++ x ∷ []
take_there xs i x e =
    take_more xs i x (slice_get_within xs i x e) ∙ ap (λ y. take i xs ++ y ∷ []) (get_or_from_slice_get xs i x x e)

pub there_in : {X : Type 0} (xs : List X) (i : ℕ) (x : X) → slice_get xs i ≡ Some x → In x xs
there_in [] i x e = absurd cc
there_in (y ∷ ys) zero x e = inl (cc e)
there_in (y ∷ ys) (suc i) x e = inr (there_in ys i x e)

-- the sheet of a lent page that is looked at by its number and its bytes
pub lent_there : (pages : List LentPage) (i : ℕ) (number : PageNo) (bytes : List ℕ) → Some number ≡ no_at pages i → Some bytes ≡ page_at pages i → slice_get (map lent_sheet pages) i ≡ Some (record { page = number.0; bytes = bytes })
lent_there pages i number bytes n b = slice_get-map lent_sheet pages i ∙ by (slice_get pages i) n b
  where
    by : (o : Option LentPage) → Some number ≡ option_map (λ (p : LentPage). p.no) o → Some bytes ≡ option_map (λ (p : LentPage). p.page) o → option_map lent_sheet o ≡ Some (record { page = number.0; bytes = bytes })
    by None n b = absurd cc
    by (Some p) n b =
        let same : number ≡ p.no = cc n in
        let same' : bytes ≡ p.page = cc b in
        rw (same, same') refl

-- there is none past the last
pub lent_past : (pages : List LentPage) (i : ℕ) → None ≡ no_at pages i → length (map lent_sheet pages) ≤ i
lent_past pages i n =
    elim (slice_get_cases (map lent_sheet pages) i).1 [
      | inl there ↦ absurd (by (slice_get pages i) n there.0 (sym (slice_get-map lent_sheet pages i) ∙ there.2))
      | inr past ↦ past.0
    ]
  where
    by : (o : Option LentPage) → None ≡ option_map (λ (p : LentPage). p.no) o → (x : Sheet) → option_map lent_sheet o ≡ Some x → ⊥
    by None n x e = absurd cc
    by (Some p) n x e = absurd cc

-- one sheet more
pub put_more : (xs : List Sheet) (i : ℕ) (x : Sheet) (a b c : Pages) (k l m : List Bool) → slice_get xs i ≡ Some x → ArePut (take i xs) a b k l → ArePut (x ∷ []) b c l m → ArePut (take (i + 1) xs) a c k m
put_more xs i x a b c k l m e p q =
    rw (take_there xs i x e) (put_both (take i xs) (x ∷ []) a b c k l m p q)

pub fresh_there : (pages : List FreshParts) (i : ℕ) (x : FreshParts) (number : PageNo) (bytes : List ℕ) → i < length pages → x ≡ get_or pages i x → number ≡ x.no → bytes ≡ x.page → slice_get (map fresh_sheet pages) i ≡ Some (record { page = number.0; bytes = bytes })
fresh_there pages i x number bytes l is n b =
    slice_get-map fresh_sheet pages i
    ∙ ap (option_map fresh_sheet) (slice_get-get_or pages i x l ∙ ap Some (sym is))
    ∙ rw (n, b) refl

-- a lease more
pub leases_more : (leases : List LentFile) (i : ℕ) (x : LentFile) → i < length leases → x ≡ get_or leases i x → flat_map lease_sheets (take (i + 1) leases) ≡ flat_map lease_sheets (take i leases) ++ (map lent_sheet x.stands.index ++ map lent_sheet x.stands.blocks)
leases_more leases i x l is =
    ap (flat_map lease_sheets) (take_more leases i x l ∙ ap (λ y. take i leases ++ y ∷ []) (sym is))
    ∙ flat_map-append lease_sheets (take i leases) (x ∷ [])
    ∙ ap (λ ys. flat_map lease_sheets (take i leases) ++ ys) (append-nil (lease_sheets x))

pub item_in : {X : Type 0} (xs : List X) (i : ℕ) (x : X) → i < length xs → x ≡ get_or xs i x → In x xs
item_in xs i x l is = there_in xs i x (slice_get-get_or xs i x l ∙ ap Some (sym is))

pub index_within : (n : ℕ) (leases : List LentFile) (i : ℕ) (x : LentFile) → i < length leases → x ≡ get_or leases i x → AreWithin n (flat_map lease_sheets leases) → AreWithin n (map lent_sheet x.stands.index)
index_within n leases i x l is h y k =
    h y (In-flat lease_sheets x y leases (item_in leases i x l is) (In-left y (map lent_sheet x.stands.index) (map lent_sheet x.stands.blocks) k))

pub blocks_within : (n : ℕ) (leases : List LentFile) (i : ℕ) (x : LentFile) → i < length leases → x ≡ get_or leases i x → AreWithin n (flat_map lease_sheets leases) → AreWithin n (map lent_sheet x.stands.blocks)
blocks_within n leases i x l is h y k =
    h y (In-flat lease_sheets x y leases (item_in leases i x l is) (In-right y (map lent_sheet x.stands.index) (map lent_sheet x.stands.blocks) k))

-- the pages of a bundle, lease by lease, then the allotted ones
pub sheets_are : (b : Bundled) → bundle_sheets (bundle_in b) ≡ flat_map lease_sheets b.writes ++ map fresh_sheet b.pages
sheets_are b = ap (λ xs. xs ++ map fresh_sheet b.pages) (flat_map-map (λ (w : Written). w.index ++ w.blocks) (λ (f : LentFile). written_in f.stands) b.writes)
