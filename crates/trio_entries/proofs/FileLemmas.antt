-- What a release tells of a file, by what was found of it.
use Rattle.trio_entries.proofs.Words.{◌&&◌, ◌∙◌, ◌∷◌, ◌≡◌, Bad, Bool, Bundled, Empty, Entry, EntryPart, LentFile, List, ListedEntry, ListedFile, Listing, None, Option, Row, Some, Written, [], ap, bundle_in, bytes_eq, cond, entry_at, entry_fits, eqb, false, find, is_among, is_listed, is_some, map, option_and_then, option_map, option_map_or, place_of, refl, row_after, row_in, size_in, slice_get, suc, sym, take, true, written_guard, written_in, written_size, zero, ℕ}
use Rattle.trio_layout.specs.Body.{guard_in}
use Rattle.trio_layout.specs.Slot.{entry_bytes, slot_of}
use Rattle.trio_layout.specs.Tables.{placed_row}
use Rattle.trio_entries.proofs.Finding.{find-any, find-map, place_found}

-- ---- options

pub slice_get-map : {X Y : Type 0} (f : X → Y) (xs : List X) (i : ℕ) → slice_get (map f xs) i ≡ option_map f (slice_get xs i)
slice_get-map f [] i = refl
slice_get-map f (x ∷ xs) zero = refl
slice_get-map f (x ∷ xs) (suc i) = slice_get-map f xs i

some_mapped : {X Y : Type 0} (f : X → Y) (o : Option X) → is_some (option_map f o) ≡ is_some o
some_mapped f None = refl
some_mapped f (Some x) = refl

-- ---- the listing

-- an entry names a number exactly where one is found
pub listed_by_dir : (l : Listing) (n : ℕ) → is_some (option_map (λ (e : ListedEntry). e.dir) (find (λ (e : ListedEntry). eqb e.ino n) l.entries)) ≡ is_listed l n
listed_by_dir l n = some_mapped (λ (e : ListedEntry). e.dir) (find (λ (e : ListedEntry). eqb e.ino n) l.entries) ∙ find-any (λ (e : ListedEntry). eqb e.ino n) l.entries

none_found : {X : Type 0} (o : Option X) → is_some o ≡ false → o ≡ None
none_found None h = refl
none_found (Some x) h = absurd cc

pub unlisted_none : (l : Listing) (n : ℕ) → is_listed l n ≡ false → find (λ (e : ListedEntry). eqb e.ino n) l.entries ≡ None
unlisted_none l n h = none_found _ (find-any (λ (e : ListedEntry). eqb e.ino n) l.entries ∙ h)

-- the row of a judged file, by its place among them
pub row_found : {X : Type 0} (row : X → Row) (files : List X) (ls : List ListedFile) (n : ℕ) → map row files ≡ map (λ (f : ListedFile). f.row) ls → option_map row (option_and_then (slice_get files) (place_of n (map (λ (f : ListedFile). f.ino) ls))) ≡ option_map (λ (f : ListedFile). f.row) (find (λ (f : ListedFile). eqb f.ino n) ls)
row_found row files ls n e =
    at (place_of n (map (λ (f : ListedFile). f.ino) ls)) ∙ ap (option_map (λ (f : ListedFile). f.row)) (place_found (λ (f : ListedFile). f.ino) n ls)
  where
    at : (o : Option ℕ) → option_map row (option_and_then (slice_get files) o) ≡ option_map (λ (f : ListedFile). f.row) (option_and_then (slice_get ls) o)
    at None = refl
    at (Some i) = sym (slice_get-map row files i) ∙ ap (λ rs. slice_get rs i) e ∙ slice_get-map (λ (f : ListedFile). f.row) ls i

unjudged_row_is : (o : Option ListedFile) (rest : Option Row) → option_map (λ (f : ListedFile). f.row) o ≡ None → option_map_or (λ (f : ListedFile). Some f.row) o rest ≡ rest
unjudged_row_is None rest h = refl
unjudged_row_is (Some f) rest h = absurd cc

-- of one that no entry names
pub after_unlisted : (l : Listing) (rows : List (Option Row)) (n : ℕ) → option_map (λ (f : ListedFile). f.row) (find (λ (f : ListedFile). eqb f.ino n) l.files) ≡ None → is_listed l n ≡ false → row_after l rows n ≡ cond (is_among n l.held) None (row_in rows n)
after_unlisted l rows n h unlisted =
    unjudged_row_is (find (λ (f : ListedFile). eqb f.ino n) l.files) _ h
    ∙ ap (λ o. option_map_or (λ (x : ListedEntry). option_map (placed_row x) (row_in rows n)) o (cond (is_among n l.held) None (row_in rows n))) (unlisted_none l n unlisted)

-- ---- slots and sizes

-- an entry that was read is what stands at the places of the fields
pub entry_is : (inodes : ℕ) (bytes : List ℕ) (e : EntryPart) → slot_of inodes bytes ≡ Entry e → e ≡ entry_at bytes
unfolding slot_of
entry_is inodes bytes e h = by (eqb (entry_at bytes).ino 0) (bytes_eq (take 192 bytes) (entry_bytes (entry_at bytes)) && entry_fits inodes (entry_at bytes)) h
  where
    by : (a b : Bool) → cond a Empty (cond b (Entry (entry_at bytes)) Bad) ≡ Entry e → e ≡ entry_at bytes
    by true b h = absurd cc
    by false true h = cc
    by false false h = absurd cc

-- what the lease of a file says
written_says : {X : Type 0} (says : List ℕ → X) (b : Bundled) (n : ℕ) → option_map (λ (w : Written). says w.body) (find (λ (w : Written). eqb w.ino n) (bundle_in b).writes) ≡ option_map (λ (f : LentFile). says f.stands.body) (find (λ (f : LentFile). eqb f.stands.ino n) b.writes)
written_says says b n =
    ap (option_map (λ (w : Written). says w.body)) (find-map (λ (f : LentFile). written_in f.stands) (λ (w : Written). eqb w.ino n) b.writes)
    ∙ twice (find (λ (f : LentFile). eqb f.stands.ino n) b.writes)
  where
    twice : (o : Option LentFile) → option_map (λ (w : Written). says w.body) (option_map (λ (f : LentFile). written_in f.stands) o) ≡ option_map (λ (f : LentFile). says f.stands.body) o
    twice None = refl
    twice (Some f) = refl

-- its size
pub written_size_is : (b : Bundled) (n : ℕ) → written_size (bundle_in b) n ≡ option_map (λ (f : LentFile). size_in f.stands.body) (find (λ (f : LentFile). eqb f.stands.ino n) b.writes)
written_size_is b n = written_says size_in b n

-- and its guard
pub written_guard_is : (b : Bundled) (n : ℕ) → written_guard (bundle_in b) n ≡ option_map (λ (f : LentFile). guard_in f.stands.body) (find (λ (f : LentFile). eqb f.stands.ino n) b.writes)
written_guard_is b n = written_says guard_in b n
