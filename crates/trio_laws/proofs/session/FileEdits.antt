-- Written files by their numbers, kinds and bodies, and what one that is no directory reads.
use Rattle.trio_laws.proofs.Words.{◌&&◌, ◌||◌, ◌∙◌, ◌∷◌, ◌≡◌, Body, Bool, Core, CoreRange, FileRead, Kind, List, Met, None, Ok, Option, Row, Some, Written, [], ap, arith, body_at, bytes_eq, cond, cond_some, eq-eqb, eqb, false, file_within, find, inserted_by, is_among, is_some, leb, map, ne_eqb, refl, sorted_by, sym, true, with_body, within_from, written_at, ℕ, Listed, Location, Result, entries_where, gathered, is_directory, page_of, result_then, with_names_apart}
use Rattle.trio_layout.specs.Body.{body_bytes, body_fits, body_of}

-- ---- lists

inserted-map : {X Y : Type 0} (key : X → ℕ) (key' : Y → ℕ) (f : X → Y) → ((x : X) → key' (f x) ≡ key x) → (x : X) (ys : List X) → inserted_by key' (f x) (map f ys) ≡ map f (inserted_by key x ys)
inserted-map key key' f same x [] = refl
inserted-map key key' f same x (y ∷ ys) =
    ap (λ k. cond (leb k (key' (f y))) (f x ∷ (f y ∷ map f ys)) (f y ∷ inserted_by key' (f x) (map f ys))) (same x)
    ∙ ap (λ k. cond (leb (key x) k) (f x ∷ (f y ∷ map f ys)) (f y ∷ inserted_by key' (f x) (map f ys))) (same y)
    ∙ by (leb (key x) (key y)) (inserted-map key key' f same x ys)
  where
    by : (t : Bool) → inserted_by key' (f x) (map f ys) ≡ map f (inserted_by key x ys) → cond t (f x ∷ (f y ∷ map f ys)) (f y ∷ inserted_by key' (f x) (map f ys)) ≡ map f (cond t (x ∷ (y ∷ ys)) (y ∷ inserted_by key x ys))
    by true e = refl
    by false e = ap (λ l. f y ∷ l) e

-- a list in rising order, each element changed but not its key
pub sorted-map : {X Y : Type 0} (key : X → ℕ) (key' : Y → ℕ) (f : X → Y) → ((x : X) → key' (f x) ≡ key x) → (xs : List X) → sorted_by key' (map f xs) ≡ map f (sorted_by key xs)
sorted-map key key' f same [] = refl
sorted-map key key' f same (x ∷ xs) = ap (inserted_by key' (f x)) (sorted-map key key' f same xs) ∙ inserted-map key key' f same x (sorted_by key xs)

-- a file is written where its number is among those of the written files
pub written_among : (ws : List Written) (n : ℕ) → is_some (find (λ (w : Written). eqb w.ino n) ws) ≡ is_among n (map (λ (w : Written). w.ino) ws)
written_among [] n = refl
written_among (w ∷ ws) n = by (eqb w.ino n) (written_among ws n)
  where
    by : (t : Bool) → is_some (find (λ (w : Written). eqb w.ino n) ws) ≡ is_among n (map (λ (w : Written). w.ino) ws) → is_some (cond t (Some w) (find (λ (w : Written). eqb w.ino n) ws)) ≡ (t || is_among n (map (λ (w : Written). w.ino) ws))
    by true e = refl
    by false e = e

-- ---- files

-- what is no directory has no entries
pub plain_entries : (core : Core) (m : Met) (f : FileRead) → is_directory m.kind ≡ false → file_within core m ≡ Ok f → f.entries ≡ []
plain_entries core m f kind e =
    let r = within_from core m f e in
    let read : Result (List Listed) Location = result_then with_names_apart (gathered (λ page. entries_where core.inodes page (page_of core page)) f.chain.blocks) in
    let none : Ok [] ≡ Ok f.entries = sym (ap (λ d. cond d read (Ok [])) kind) ∙ r.entries in
    let same : [] ≡ f.entries = cc none in sym same

-- the body that bytes are is the one that stands in them
pub body_stands : (kind : Kind) (range : CoreRange) (bytes : List ℕ) (b : Body) → body_of kind range bytes ≡ Some b → body_at bytes ≡ b
unfolding body_of
body_stands kind range bytes b e = (cond_some (bytes_eq bytes (body_bytes (body_at bytes)) && body_fits kind range (body_at bytes)) (body_at bytes) b e).1

-- a file without its pages
abbrev pub bare : Written → Written
bare w = record { ino = w.ino; kind = w.kind; body = w.body; index = []; blocks = [] }

pub bare_at : (w : Written) (o : Option Row) → written_at (bare w) o ≡ written_at w o
bare_at w None = refl
bare_at w (Some r) = refl

pub body-number : (ino : ℕ) (body : List ℕ) (w : Written) → (with_body ino body w).ino ≡ w.ino
body-number ino body w = search arith

pub body-other : (ino : ℕ) (body : List ℕ) (w : Written) → (w.ino ≡ ino → ⊥) → with_body ino body w ≡ w
body-other ino body w d = ap (λ t. cond t (record w { body = body }) w) (ne_eqb w.ino ino d)

pub body-here : (ino : ℕ) (body : List ℕ) (w : Written) → w.ino ≡ ino → with_body ino body w ≡ record w { body = body }
body-here ino body w e = ap (λ t. cond t (record w { body = body }) w) (eq-eqb w.ino ino e)
