-- The entries on directory pages: inode numbers of the image, and at most 16 a page.
use Rattle.trio_layout.proofs.Words.{◌&&◌, ◌*◌, ◌+◌, ◌∙◌, ◌∷◌, ◌≡◌, ◌≤◌, Bad, Bool, Core, Directory, Empty, Entry, EntryPart, Kind, Link, List, Listed, Location, None, Ok, Option, Regular, Result, SlotRead, Some, [], and_from, and_parts, ap, arith, bytes_eq, cond, entries_within, entry_at, entry_fits, eqb, false, is_name, length, length-append, list_all, list_all-append, nat_tests, page_of, refl, result_map, result_then, suc, sym, take, true, zero, ℕ}
use Rattle.std.proofs.Common.{ltb, leb, Err, IfOk}
use Rattle.trio_layout.specs.Slot.{slot_of, entry_bytes}
use Rattle.trio_lists.specs.Lists.{both, gathered, gathered_below}
use Rattle.trio_layout.specs.Entries.{body_in_slot, slot_bytes, listed_at, slot_entries, entries_on, unless_repeated, repeated_name, with_names_apart}
use Rattle.trio_layout.specs.Within.{entries_where}

-- what holds of each answer of the steps
pub if_ok_then : {X Y E : Type 0} (r : Result X E) (g : X → Result Y E) (P : Y → Type 0) → ((x : X) → r ≡ Ok x → IfOk (g x) P) → IfOk (result_then g r) P
if_ok_then (Err e) g P h = tt
if_ok_then (Ok x) g P h = h x refl

pub if_ok_map : {X Y E : Type 0} (r : Result X E) (f : X → Y) (P : Y → Type 0) → IfOk r (λ x. P (f x)) → IfOk (result_map f r) P
if_ok_map (Err e) f P h = tt
if_ok_map (Ok x) f P h = h

pub if_ok_at : {X E : Type 0} (r : Result X E) (x : X) (P : X → Type 0) → r ≡ Ok x → IfOk r P → P x
if_ok_at r x P e h = rw e at h

pub if_ok_weaker : {X E : Type 0} (r : Result X E) (P Q : X → Type 0) → ((x : X) → P x → Q x) → IfOk r P → IfOk r Q
if_ok_weaker (Err e) P Q w h = tt
if_ok_weaker (Ok x) P Q w h = w x h

-- an inode number of the image
abbrev pub is_inode : ℕ → ℕ → Bool
is_inode inodes n = ltb 0 n && ltb n (inodes + 1)

-- these entries have inode numbers of the image
abbrev pub AreInodes : ℕ → List Listed → Type 0
AreInodes inodes ls = list_all (λ l. is_inode inodes l.entry.ino) ls ≡ true

slot_case : (zero' good : Bool) (e e' : EntryPart) → cond zero' Empty (cond good (Entry e) Bad) ≡ Entry e' → (good ≡ true) × (e ≡ e')
slot_case true good e e' h = absurd cc
slot_case false true e e' h = (refl, cc)
slot_case false false e e' h = absurd cc

slot_entry_fits : (inodes : ℕ) (bytes : List ℕ) (e : EntryPart) → slot_of inodes bytes ≡ Entry e → is_inode inodes e.ino ≡ true
unfolding slot_of
slot_entry_fits inodes bytes e h =
    let d : EntryPart = entry_at bytes in
    let spelled : Bool = bytes_eq (take 192 bytes) (entry_bytes d) in
    let c = slot_case (eqb d.ino 0) (spelled && entry_fits inodes d) d e h in
    let fits = (and_parts spelled (entry_fits inodes d) c.0).1 in
    let two = (and_parts (ltb 0 d.ino && leb d.ino inodes) (is_name d.name) fits).0 in
    let some : ltb 0 d.ino ≡ true = (and_parts (ltb 0 d.ino) (leb d.ino inodes) two).0 in
    let le : leb d.ino inodes ≡ true = (and_parts (ltb 0 d.ino) (leb d.ino inodes) two).1 in
    let lt : ltb d.ino (inodes + 1) ≡ true = grind (arith, nat_tests) in
    ap (λ (x : EntryPart). is_inode inodes x.ino) (sym c.1) ∙ and_from (ltb 0 d.ino) (ltb d.ino (inodes + 1)) some lt

listed_fits : (inodes page slot : ℕ) (body : List ℕ) (r : SlotRead) → ((e : EntryPart) → r ≡ Entry e → is_inode inodes e.ino ≡ true) → IfOk (listed_at page slot body r) (AreInodes inodes)
listed_fits inodes page slot body Empty h = refl
listed_fits inodes page slot body Bad h = tt
listed_fits inodes page slot body (Entry e) h = and_from (is_inode inodes e.ino) true (h e refl) refl

slot_fits : (inodes page : ℕ) (bytes : List ℕ) (slot : ℕ) → IfOk (slot_entries inodes page bytes slot) (AreInodes inodes)
slot_fits inodes page bytes slot =
    let part : List ℕ = slot_bytes slot bytes in
    listed_fits inodes page slot (body_in_slot slot bytes) (slot_of inodes part) (slot_entry_fits inodes part)

pub both_all : {X E : Type 0} (p : X → Bool) (q r : Result (List X) E) → IfOk q (λ xs. list_all p xs ≡ true) → IfOk r (λ xs. list_all p xs ≡ true) → IfOk (both q r) (λ xs. list_all p xs ≡ true)
both_all p (Err e) r h k = tt
both_all p (Ok xs) (Err e) h k = tt
both_all p (Ok xs) (Ok ys) h k = list_all-append p xs ys ∙ and_from (list_all p xs) (list_all p ys) h k

gathered_below_all : {X E : Type 0} (p : X → Bool) (f : ℕ → Result (List X) E) → ((k : ℕ) → IfOk (f k) (λ xs. list_all p xs ≡ true)) → (n : ℕ) → IfOk (gathered_below f n) (λ xs. list_all p xs ≡ true)
gathered_below_all p f h zero = refl
gathered_below_all p f h (suc n) = both_all p (gathered_below f n) (f n) (gathered_below_all p f h n) (h n)

pub gathered_all : {X Y E : Type 0} (p : Y → Bool) (f : X → Result (List Y) E) → ((x : X) → IfOk (f x) (λ ys. list_all p ys ≡ true)) → (xs : List X) → IfOk (gathered f xs) (λ ys. list_all p ys ≡ true)
gathered_all p f h [] = refl
gathered_all p f h (x ∷ xs) = both_all p (f x) (gathered f xs) (h x) (gathered_all p f h xs)

pub entries_on_fit : (inodes page : ℕ) (bytes : List ℕ) → IfOk (entries_on inodes page bytes) (AreInodes inodes)
unfolding entries_on
entries_on_fit inodes page bytes =
    gathered_below_all (λ l. is_inode inodes l.entry.ino) (slot_entries inodes page bytes) (slot_fits inodes page bytes) 16

pub unless_repeated_fit : (inodes : ℕ) (ls : List Listed) (o : Option Location) → AreInodes inodes ls → IfOk (unless_repeated ls o) (AreInodes inodes)
unless_repeated_fit inodes ls None h = h
unless_repeated_fit inodes ls (Some p) h = tt

-- ---- how many there are

-- there are at most so many
abbrev pub AtMost : {X : Type 0} → ℕ → List X → Type 0
AtMost n xs = length xs ≤ n

both_most : {X E : Type 0} (m n : ℕ) (q r : Result (List X) E) → IfOk q (AtMost m) → IfOk r (AtMost n) → IfOk (both q r) (AtMost (m + n))
both_most m n (Err e) r h k = tt
both_most m n (Ok xs) (Err e) h k = tt
both_most m n (Ok xs) (Ok ys) h k = omega (arith, h, k, length-append xs ys)

slot_most : (page slot : ℕ) (body : List ℕ) (r : SlotRead) → IfOk (listed_at page slot body r) (AtMost 1)
slot_most page slot body Empty = omega arith
slot_most page slot body Bad = tt
slot_most page slot body (Entry e) = omega arith

below_most : (inodes page : ℕ) (bytes : List ℕ) (n : ℕ) → IfOk (gathered_below (slot_entries inodes page bytes) n) (AtMost n)
below_most inodes page bytes zero = omega arith
below_most inodes page bytes (suc n) =
    if_ok_weaker (both (gathered_below (slot_entries inodes page bytes) n) (slot_entries inodes page bytes n)) (AtMost (n + 1)) (AtMost (suc n)) (λ xs h. omega (arith, h))
    (both_most n 1 (gathered_below (slot_entries inodes page bytes) n) (slot_entries inodes page bytes n) (below_most inodes page bytes n) (slot_most page n (body_in_slot n bytes) (slot_of inodes (slot_bytes n bytes))))

pub entries_on_most : (inodes page : ℕ) (bytes : List ℕ) → IfOk (entries_on inodes page bytes) (AtMost 16)
unfolding entries_on
entries_on_most inodes page bytes = below_most inodes page bytes 16

pub gathered_most : {X Y E : Type 0} (n : ℕ) (f : X → Result (List Y) E) → ((x : X) → IfOk (f x) (AtMost n)) → (xs : List X) → IfOk (gathered f xs) (AtMost (n * length xs))
gathered_most n f h [] = omega arith
gathered_most n f h (x ∷ xs) =
    if_ok_weaker (both (f x) (gathered f xs)) (AtMost (n + n * length xs)) (AtMost (n * suc (length xs))) (λ ys k. let e : n * suc (length xs) ≡ n + n * length xs = grind arith in omega (arith, k, e))
    (both_most n (n * length xs) (f x) (gathered f xs) (h x) (gathered_most n f h xs))

-- ---- the entries of a file, as far as its pages are there

where_fit : (inodes page : ℕ) (o : Option (List ℕ)) → IfOk (entries_where inodes page o) (AreInodes inodes)
where_fit inodes page None = refl
where_fit inodes page (Some bytes) = entries_on_fit inodes page bytes

where_most : (inodes page : ℕ) (o : Option (List ℕ)) → IfOk (entries_where inodes page o) (AtMost 16)
where_most inodes page None = omega arith
where_most inodes page (Some bytes) = entries_on_most inodes page bytes

apart_most : (n : ℕ) (ls : List Listed) (o : Option Location) → AtMost n ls → IfOk (unless_repeated ls o) (AtMost n)
apart_most n ls None h = h
apart_most n ls (Some p) h = tt

pub within_fit : (core : Core) (kind : Kind) (blocks : List ℕ) → IfOk (entries_within core kind blocks) (AreInodes core.inodes)
within_fit core Regular blocks = refl
within_fit core Link blocks = refl
within_fit core Directory blocks =
    let f : ℕ → Result (List Listed) Location = λ page. entries_where core.inodes page (page_of core page) in
    if_ok_then (gathered f blocks) with_names_apart (AreInodes core.inodes)
    (λ ls e. unless_repeated_fit core.inodes ls (repeated_name [] ls)
    (if_ok_at (gathered f blocks) ls (AreInodes core.inodes) e (gathered_all (λ l. is_inode core.inodes l.entry.ino) f (λ page. where_fit core.inodes page (page_of core page)) blocks)))

pub within_most : (core : Core) (kind : Kind) (blocks : List ℕ) → IfOk (entries_within core kind blocks) (AtMost (16 * length blocks))
within_most core Regular blocks = omega arith
within_most core Link blocks = omega arith
within_most core Directory blocks =
    let f : ℕ → Result (List Listed) Location = λ page. entries_where core.inodes page (page_of core page) in
    if_ok_then (gathered f blocks) with_names_apart (AtMost (16 * length blocks))
    (λ ls e. apart_most (16 * length blocks) ls (repeated_name [] ls)
    (if_ok_at (gathered f blocks) ls (AtMost (16 * length blocks)) e (gathered_most 16 f (λ page. where_most core.inodes page (page_of core page)) blocks)))
