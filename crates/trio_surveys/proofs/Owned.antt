-- In a sound survey a page is listed by one file, and once.
use Rattle.trio_surveys.proofs.Words.{◌++◌, ◌∙◌, ◌∷◌, ◌≡◌, Body, Bool, Core, CoreRange, FileRead, In, In-flat, In-left, In-right, Kind, List, Met, Ok, Pick, Some, [], and_from, and_parts, ap, are_in_grammar, are_new, are_new-append, are_new-before, are_new-fewer, arith, both_ways, bytes_eq-Decides, cond, cond_some, false, file_of, inl, inr, is_among, is_among-In, is_sound, length, listed_numbers, listed_pages, owner_of, pages_in, pages_of, refl, subst, survey, sym, true, ℕ}
use Rattle.trio_page.specs.Field.{zeros}
use Rattle.trio_layout.specs.Body.{body_of, body_bytes}
use Rattle.trio_lists.proofs.Members.{In-is_among}

-- the pages of the first file apart from those of the rest
pub first_apart : (core : Core) (x : Met) (xs : List Met) → are_new [] (listed_pages core (x ∷ xs)) ≡ true → (are_new [] (pages_of core x) ≡ true) × (are_new (pages_of core x) (listed_pages core xs) ≡ true)
first_apart core x xs h =
    and_parts (are_new [] (pages_of core x)) (are_new (pages_of core x) (listed_pages core xs)) (sym (are_new-append [] (pages_of core x) (listed_pages core xs)) ∙ h)

pub rest_new : (core : Core) (x : Met) (xs : List Met) → are_new [] (listed_pages core (x ∷ xs)) ≡ true → are_new [] (listed_pages core xs) ≡ true
rest_new core x xs h =
    are_new-fewer [] (pages_of core x) (listed_pages core xs) (λ n i. absurd i) (first_apart core x xs h).1

-- a page that two files list is listed by one file
pub page_owner : (core : Core) (files : List Met) (m m' : Met) (p : ℕ) → are_new [] (listed_pages core files) ≡ true → In m files → In m' files → In p (pages_of core m) → In p (pages_of core m') → m ≡ m'
page_owner core [] m m' p new i j a b = absurd i
page_owner core (x ∷ xs) m m' p new (inl e) (inl e') a b = e ∙ sym e'
page_owner core (x ∷ xs) m m' p new (inl e) (inr j) a b =
    absurd (are_new-before p (pages_of core x) (listed_pages core xs) (first_apart core x xs new).1 (In-flat (pages_of core) m' p xs j b) (subst (λ w. In p (pages_of core w)) e a))
page_owner core (x ∷ xs) m m' p new (inr i) (inl e') a b =
    absurd (are_new-before p (pages_of core x) (listed_pages core xs) (first_apart core x xs new).1 (In-flat (pages_of core) m p xs i a) (subst (λ w. In p (pages_of core w)) e' b))
page_owner core (x ∷ xs) m m' p new (inr i) (inr j) a b = page_owner core xs m m' p (rest_new core x xs new) i j a b

pub pages_new : (core : Core) (files : List Met) (m : Met) → are_new [] (listed_pages core files) ≡ true → In m files → are_new [] (pages_of core m) ≡ true
pages_new core [] m new i = absurd i
pages_new core (x ∷ xs) m new (inl e) = ap (λ w. are_new [] (pages_of core w)) e ∙ (first_apart core x xs new).0
pages_new core (x ∷ xs) m new (inr i) = pages_new core xs m (rest_new core x xs new) i

-- the pages of a file that is read
pub pages_are : (core : Core) (m : Met) (f : FileRead) → file_of core m ≡ Ok f → pages_of core m ≡ f.chain.index ++ f.chain.blocks
pages_are core m f e = ap pages_in e

-- no index page is a block
pub index_apart : (core : Core) (files : List Met) (m m' : Met) (f f' : FileRead) (p : ℕ) → are_new [] (listed_pages core files) ≡ true → In m files → In m' files → file_of core m ≡ Ok f → file_of core m' ≡ Ok f' → In p f.chain.index → In p f'.chain.blocks → ⊥
index_apart core files m m' f f' p new i j e e' a b =
    let pa : In p (pages_of core m) = subst (λ l. In p l) (sym (pages_are core m f e)) (In-left p f.chain.index f.chain.blocks a) in
    let pb : In p (pages_of core m') = subst (λ l. In p l) (sym (pages_are core m' f' e')) (In-right p f'.chain.index f'.chain.blocks b) in
    let same : m ≡ m' = page_owner core files m m' p new i j pa pb in
    let ff : f ≡ f' = (let s : Ok f ≡ Ok f' = sym e ∙ ap (file_of core) same ∙ e' in cc s) in
    let own : are_new [] (f.chain.index ++ f.chain.blocks) ≡ true = ap (are_new []) (sym (pages_are core m f e)) ∙ pages_new core files m new i in
    let parts = and_parts (are_new [] f.chain.index) (are_new f.chain.index f.chain.blocks) (sym (are_new-append [] f.chain.index f.chain.blocks) ∙ own) in
    let bf : In p f.chain.blocks = subst (λ (w : FileRead). In p w.chain.blocks) (sym ff) b in
    are_new-before p f.chain.index f.chain.blocks parts.1 bf a

owner_step : (core : Core) (x m : Met) (xs : List Met) (p : ℕ) (b : Bool) → is_among p (pages_of core x) ≡ b → (b ≡ true → x.ino ≡ m.ino) → (b ≡ false → owner_of core xs p ≡ m.ino) → cond b x.ino (owner_of core xs p) ≡ m.ino
owner_step core x m xs p true e h k = h refl
owner_step core x m xs p false e h k = k refl

-- the owner of a page is the file that lists it
pub owner_is : (core : Core) (files : List Met) (m : Met) (p : ℕ) → are_new [] (listed_pages core files) ≡ true → In m files → In p (pages_of core m) → owner_of core files p ≡ m.ino
owner_is core [] m p new i a = absurd i
owner_is core (x ∷ xs) m p new i a =
    owner_step core x m xs p (is_among p (pages_of core x)) refl
    (λ t. ap (λ (w : Met). w.ino) (page_owner core (x ∷ xs) x m p new (inl refl) i (is_among-In p (pages_of core x) t) a))
    (λ f. elim i [
      | inl e ↦ absurd (both_ways (is_among p (pages_of core x)) f (In-is_among p (pages_of core x) (subst (λ w. In p (pages_of core w)) e a)))
      | inr j ↦ owner_is core xs m p (rest_new core x xs new) j a
    ])

-- the parts of soundness
pub record Parts (core : Core) (pick : Pick) : Type 0 where
  pub grammar : are_in_grammar core (survey core pick) ≡ true
  pub numbered : are_new (1 ∷ []) (listed_numbers core pick (survey core pick)) ≡ true
  pub paged : are_new [] (listed_pages core (survey core pick)) ≡ true

pub sound_parts : (core : Core) (pick : Pick) → is_sound core pick ≡ true → Parts core pick
sound_parts core pick h = search (arith, and_parts)

pub sound_from : (core : Core) (pick : Pick) → Parts core pick → is_sound core pick ≡ true
sound_from core pick p = search (arith, and_from)

-- a body that is spelled has 64 bytes
length-body_bytes : (b : Body) → length (body_bytes b) ≡ 64
unfolding body_bytes zeros
length-body_bytes b = refl

-- a body in the grammar has 64 bytes
pub body_sized : (kind : Kind) (range : CoreRange) (bytes : List ℕ) (b : Body) → body_of kind range bytes ≡ Some b → length bytes ≡ 64
unfolding body_of
body_sized kind range bytes b e = search (arith, cond_some, and_parts, bytes_eq-Decides, length-body_bytes)
