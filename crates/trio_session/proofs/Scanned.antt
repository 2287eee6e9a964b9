-- An index that is told of a directory's pages, one after another.
use Rattle.trio_session.proofs.Words.{◌++◌, ◌+◌, ◌∙◌, ◌∷◌, ◌≡◌, AreRead, IsIndexOf, LentPage, List, NamesDiffer, None, Option, Shown, Some, [], absent, absent_from, ap, append-nil, append_assoc, arith, dir_pages, drop, every_number, flat_map-append, is_directory_page, page_at, refl, slice_get, slice_get-map, slot_with, slots_of, slots_on, subst, suc, sym, take, take-append-drop, zero, ℕ}
use Rattle.std.specs.Prelude.{IsTrue}
use Rattle.trio_auxdir.specs.Directory.{Directory as Index}
use Rattle.trio_session.proofs.Lists.{slice_get-In}

-- the first of some slots
slot_with-front : (name : List ℕ) (xs ys : List (Option (List ℕ))) → slot_with name (xs ++ ys) ≡ None → slot_with name xs ≡ None
slot_with-front name [] ys e = refl
slot_with-front name (x ∷ xs) ys e =
    let a = absent name x (xs ++ ys) e in absent_from name x xs a.here (slot_with-front name xs ys a.later)

differ-front : (xs ys : List (Option (List ℕ))) → NamesDiffer (xs ++ ys) → NamesDiffer xs
differ-front [] ys differ = tt
differ-front (None ∷ xs) ys differ = differ-front xs ys differ
differ-front (Some name ∷ xs) ys differ = (slot_with-front name xs ys differ.0, differ-front xs ys differ.1)

-- the slots of one page more
slots_more : (pages : List (List ℕ)) (k : ℕ) (page : List ℕ) → slice_get pages k ≡ Some page
    → slots_of every_number (take k pages) ++ slots_on every_number page ≡ slots_of every_number (take (suc k) pages)
slots_more [] k page e = absurd (let t : None ≡ Some page = e in cc t)
slots_more (p ∷ pages) zero page e = (let same : p ≡ page = (let t : Some p ≡ Some page = e in cc t) in rw (same, append-nil) refl)
slots_more (p ∷ pages) (suc k) page e = rw append_assoc (ap (λ xs. slots_on every_number p ++ xs) (slots_more pages k page e))

all_taken : (pages : List (List ℕ)) (k : ℕ) → slice_get pages k ≡ None → take k pages ≡ pages
all_taken [] zero e = refl
all_taken [] (suc k) e = refl
all_taken (p ∷ pages) zero e = absurd (let t : Some p ≡ None = e in cc t)
all_taken (p ∷ pages) (suc k) e = ap (λ ps. p ∷ ps) (all_taken pages k e)

-- a block of a directory that is lent for reading, among its pages
pub page_there : (f : Shown) (k : ℕ) (o : Option (List ℕ)) → page_at f.blocks k ≡ o → slice_get (dir_pages f) k ≡ o
page_there f k o e = slice_get-map (λ (p : LentPage). p.page) f.blocks k ∙ e

-- a page that an index is told of next
pub page_read : (pages : List (List ℕ)) (d : Index) (k : ℕ) (page : List ℕ) → AreRead pages → d.inodes ≡ every_number → slice_get pages k ≡ Some page
    → IsTrue (is_directory_page d.inodes page)
page_read pages d k page are e at = rw e (are.each page (slice_get-In pages k page at))

pub page_apart : (pages : List (List ℕ)) (d : Index) (k : ℕ) (page : List ℕ) → AreRead pages → d.inodes ≡ every_number
    → d.slots ≡ slots_of every_number (take k pages) → slice_get pages k ≡ Some page → NamesDiffer (d.slots ++ slots_on d.inodes page)
page_apart pages d k page are e es at =
    let whole : slots_of every_number (take (suc k) pages) ++ slots_of every_number (drop (suc k) pages) ≡ slots_of every_number pages =
    sym (flat_map-append (slots_on every_number) (take (suc k) pages) (drop (suc k) pages)) ∙ ap (slots_of every_number) (take-append-drop (suc k) pages) in
    rw (e, es, slots_more pages k page at)
    (differ-front (slots_of every_number (take (suc k) pages)) (slots_of every_number (drop (suc k) pages)) (subst NamesDiffer (sym whole) are.differ))

-- and what it has then
pub page_told : (pages : List (List ℕ)) (d : Index) (k : ℕ) (page : List ℕ) → d.inodes ≡ every_number → d.slots ≡ slots_of every_number (take k pages)
    → slice_get pages k ≡ Some page → d.slots ++ slots_on d.inodes page ≡ slots_of every_number (take (k + 1) pages)
page_told pages d k page e es at =
    let next : suc k ≡ k + 1 = omega arith in
    rw (e, es) (slots_more pages k page at ∙ ap (λ n. slots_of every_number (take n pages)) next)

pub pages_end : (f : Shown) (d : Index) (k : ℕ) → d.inodes ≡ every_number → d.slots ≡ slots_of every_number (take k (dir_pages f)) → page_at f.blocks k ≡ None → IsIndexOf f d
pages_end f d k e es at = record { inodes = e; slots = es ∙ ap (slots_of every_number) (all_taken (dir_pages f) k (page_there f k None at)) }
