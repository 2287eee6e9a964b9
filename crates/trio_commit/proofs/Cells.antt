-- Rows and owners that are put in place one after another.
use Rattle.trio_commit.proofs.Words.{if◌then◌else◌, ◌&&◌, ◌++◌, ◌+◌, ◌-◌, ◌<◌, ◌==◌, ◌∙◌, ◌∷◌, ◌≡◌, ◌≢◌, ◌≤◌, ◌⊎◌, Bool, EntryData, HasNumbersBelow, HasPagesBelow, In, In-map, IsTrue, LentPage, List, ListedEntry, ListedFile, Listing, None, Option, Regular, Row, Some, [], all_below, ap, arith, as_row, below_at, cases_eq, cases_lt, drop, drop-cons, entry_seen, false, false≢true, find, get_or, get_or-In, get_or-map, get_or_past, inl, inr, is_among, is_listed, is_some, length, length-map, length-set, length-with_all, lent_sheets, map, map-In, ne_eqb, not, option_map, option_map_or, owner_listed, owner_staying, refl, row_in, row_judged, row_moved, set, sheet_numbers, slice_index, subst, suc, sym, take, take-suc, true, with_all, with_all-push, with_all-read, zero, ℕ}
use Rattle.std.proofs.Common.{◌||◌, get_or-set_same, get_or-set_other}
use Rattle.std.specs.Prelude.{nat_lt, slice_get}
use Rattle.std.specs.List.{list_any}
use Rattle.std.proofs.lemmas.Bool.{cases_Bool, eq-eqb, lt-ltb, ltb-true}
use Rattle.trio_lists.proofs.Marked.{is_among-push}
use Rattle.trio_lists.proofs.Members.{is_among-In, list_all-In, list_all-each}
use Rattle.trio_lists.proofs.New.{is_among-not}
use Rattle.trio_layout.specs.Edges.{has_file}
use Rattle.trio_layout.specs.Tables.{gives_up, owner_after, placed_row, row_after}
use Rattle.trio_case.specs.declared.listing.ListedFile.{ListedFile as FileData}
use Rattle.trio_commit.specs.inner.Tables.{is_gone}

-- ---- many places that are set

-- the next place has its place in the list
pub next_below : {X : Type 0} (x : X) (xs now : List X) (ns : List ℕ) (i n : ℕ) → i < length ns → n ≡ get_or ns i 0 → now ≡ with_all x (take i ns) xs → IsTrue (all_below (length xs) ns) → n < length now
next_below x xs now ns i n lt is so_far below =
    let b = below_at (length xs) ns i lt below in
    let size : length now ≡ length xs = ap length so_far ∙ length-with_all x (take i ns) xs in
    omega (arith, b, is, size)

-- one place more was set
pub set_next : {X : Type 0} (x : X) (xs now : List X) (ns : List ℕ) (i n : ℕ) → i < length ns → n ≡ get_or ns i 0 → now ≡ with_all x (take i ns) xs → set now n x ≡ with_all x (take (i + 1) ns) xs
set_next x xs now ns i n lt is so_far =
    let e : i + 1 ≡ suc i = omega arith in
    ap (λ ys. set ys n x) so_far
    ∙ sym (with_all-push x (take i ns) n xs)
    ∙ ap (λ m. with_all x (take i ns ++ m ∷ []) xs) is
    ∙ ap (λ ms. with_all x ms xs) (sym (take-suc ns i 0 lt))
    ∙ ap (λ k. with_all x (take k ns) xs) (sym e)

-- ---- rows

-- the row of a number once that of one number is set
row_in-set : (rows : List (Option Row)) (m n : ℕ) (r : Option Row) → m < length rows → (m ≡ n → row_in (set rows m r) n ≡ r) × (m ≢ n → row_in (set rows m r) n ≡ row_in rows n)
row_in-set rows m n r lt =
    (λ same. ap (row_in (set rows m r)) (sym same) ∙ get_or-set_same rows m r None lt, λ apart. get_or-set_other rows m n r None (λ e. apart (sym e)))

placed_twice : (e : ListedEntry) (o : Option ListedEntry) (r : Option Row) → option_map (placed_row e) (option_map_or (λ d. option_map (placed_row d) r) o r) ≡ option_map (placed_row e) r
placed_twice e None r = refl
placed_twice e (Some d) None = refl
placed_twice e (Some d) (Some r) = refl

-- the entry before the others is the first
pub moved_next : (rows now : List (Option Row)) (es : List ListedEntry) (e : ListedEntry) → e.ino < length now → ((n : ℕ) → row_in now n ≡ row_moved es n (row_in rows n))
    → (n : ℕ) → row_in (set now e.ino (option_map (placed_row e) (row_in now e.ino))) n ≡ row_moved (e ∷ es) n (row_in rows n)
moved_next rows now es e lt so_far n = by (cases_eq e.ino n)
  where
    X : Option Row
    X = option_map (placed_row e) (row_in now e.ino)

    by : ((e.ino ≡ n) ⊎ (e.ino ≢ n)) → row_in (set now e.ino (option_map (placed_row e) (row_in now e.ino))) n ≡ row_moved (e ∷ es) n (row_in rows n)
    by (inl same) =
        (row_in-set now e.ino n (option_map (placed_row e) (row_in now e.ino)) lt).0 same
        ∙ ap (λ k. option_map (placed_row e) (row_in now k)) same
        ∙ ap (option_map (placed_row e)) (so_far n)
        ∙ placed_twice e (find (λ (d : ListedEntry). d.ino == n) es) (row_in rows n)
        ∙ ap (λ b. option_map_or (λ (d : ListedEntry). option_map (placed_row d) (row_in rows n)) (if b then Some e else find (λ (d : ListedEntry). d.ino == n) es) (row_in rows n)) (sym (eq-eqb e.ino n same))
    by (inr apart) =
        (row_in-set now e.ino n (option_map (placed_row e) (row_in now e.ino)) lt).1 apart
        ∙ so_far n
        ∙ ap (λ b. option_map_or (λ (d : ListedEntry). option_map (placed_row d) (row_in rows n)) (if b then Some e else find (λ (d : ListedEntry). d.ino == n) es) (row_in rows n)) (sym (ne_eqb e.ino n apart))

pub judged_next : (rows now : List (Option Row)) (fs : List FileData) (f : FileData) → f.ino < length now → ((n : ℕ) → row_in now n ≡ row_judged fs n (row_in rows n))
    → (n : ℕ) → row_in (set now f.ino (Some (as_row f.row))) n ≡ row_judged (f ∷ fs) n (row_in rows n)
judged_next rows now fs f lt so_far n = by (cases_eq f.ino n)
  where
    by : ((f.ino ≡ n) ⊎ (f.ino ≢ n)) → row_in (set now f.ino (Some (as_row f.row))) n ≡ row_judged (f ∷ fs) n (row_in rows n)
    by (inl same) =
        (row_in-set now f.ino n (Some (as_row f.row)) lt).0 same
        ∙ ap (λ b. option_map_or (λ (d : FileData). Some (as_row d.row)) (if b then Some f else find (λ (d : FileData). d.ino == n) fs) (row_in rows n)) (sym (eq-eqb f.ino n same))
    by (inr apart) =
        (row_in-set now f.ino n (Some (as_row f.row)) lt).1 apart
        ∙ so_far n
        ∙ ap (λ b. option_map_or (λ (d : FileData). Some (as_row d.row)) (if b then Some f else find (λ (d : FileData). d.ino == n) fs) (row_in rows n)) (sym (ne_eqb f.ino n apart))

-- the files as the listing has them say the same
pub judged_same : (told : List FileData) (fs : List ListedFile) (n : ℕ) (r : Option Row) → map (λ (d : FileData). d.ino) told ≡ map (λ (f : ListedFile). f.ino) fs → map (λ (d : FileData). as_row d.row) told ≡ map (λ (f : ListedFile). f.row) fs
    → row_judged told n r ≡ option_map_or (λ (f : ListedFile). Some f.row) (find (λ (f : ListedFile). f.ino == n) fs) r
judged_same [] [] n r numbers rows = refl
judged_same [] (f ∷ fs) n r numbers rows = absurd (cc numbers)
judged_same (d ∷ told) [] n r numbers rows = absurd (cc numbers)
judged_same (d ∷ told) (f ∷ fs) n r numbers rows =
    let ino : d.ino ≡ f.ino = cc numbers in
    let row : as_row d.row ≡ f.row = cc rows in
    let more : map (λ (d : FileData). d.ino) told ≡ map (λ (f : ListedFile). f.ino) fs = cc numbers in
    let more' : map (λ (d : FileData). as_row d.row) told ≡ map (λ (f : ListedFile). f.row) fs = cc rows in
    ap (λ k. option_map_or (λ (x : FileData). Some (as_row x.row)) (if k == n then Some d else find (λ (x : FileData). x.ino == n) told) r) ino
    ∙ by (f.ino == n) row (judged_same told fs n r more more')
  where
    by : (b : Bool) → as_row d.row ≡ f.row → row_judged told n r ≡ option_map_or (λ (f : ListedFile). Some f.row) (find (λ (f : ListedFile). f.ino == n) fs) r
        → option_map_or (λ (x : FileData). Some (as_row x.row)) (if b then Some d else find (λ (x : FileData). x.ino == n) told) r
        ≡ option_map_or (λ (x : ListedFile). Some x.row) (if b then Some f else find (λ (x : ListedFile). x.ino == n) fs) r
    by true row later = ap Some row
    by false row later = later

pub is_listed-find : (n : ℕ) (es : List ListedEntry) → list_any (λ (e : ListedEntry). e.ino == n) es ≡ is_some (find (λ (e : ListedEntry). e.ino == n) es)
is_listed-find n [] = refl
is_listed-find n (e ∷ es) = by (e.ino == n) (is_listed-find n es)
  where
    by : (b : Bool) → list_any (λ (e : ListedEntry). e.ino == n) es ≡ is_some (find (λ (e : ListedEntry). e.ino == n) es) → (b || list_any (λ (e : ListedEntry). e.ino == n) es) ≡ is_some (if b then Some e else find (λ (e : ListedEntry). e.ino == n) es)
    by true later = refl
    by false later = later

-- the three steps one after another give the row that the listing says
pub rows_put : (l : Listing) (n : ℕ) (rows : List (Option Row)) → option_map_or (λ (f : ListedFile). Some f.row) (find (λ (f : ListedFile). f.ino == n) l.files) (row_moved l.entries n (if is_gone l n then None else row_in rows n)) ≡ row_after l rows n
rows_put l n rows =
    ap (λ r. option_map_or (λ (f : ListedFile). Some f.row) (find (λ (f : ListedFile). f.ino == n) l.files) r)
    (ap (λ b. row_moved l.entries n (if is_among n l.held && not b then None else row_in rows n)) (is_listed-find n l.entries)
    ∙ by (find (λ (e : ListedEntry). e.ino == n) l.entries) (is_among n l.held))
  where
    by : (o : Option ListedEntry) (held : Bool) → option_map_or (λ (e : ListedEntry). option_map (placed_row e) (if held && not (is_some o) then None else row_in rows n)) o (if held && not (is_some o) then None else row_in rows n)
        ≡ option_map_or (λ (e : ListedEntry). option_map (placed_row e) (row_in rows n)) o (if held then None else row_in rows n)
    by None true = refl
    by None false = refl
    by (Some e) true = refl
    by (Some e) false = refl

-- ---- turns of the loops

-- what a list of entries or of files is read as past its end
abbrev pub no_entry : EntryData
no_entry = record { ino = 0; kind = Regular; dir = 0; page = 0; slot = 0; kept = false }

abbrev pub no_file : FileData
no_file = record {
  ino = 0;
  row = record { kind = Regular; mode = record { 0 = 0 }; uid = 0; gid = 0; parent = 0; page = 0; slot = 0 };
  index = record { start = 0; end = 0 };
  blocks = record { start = 0; end = 0 };
}

pub entry_number : (es : List EntryData) (i : ℕ) (d : EntryData) → i < length es → In (get_or es i d).ino (map (λ (e : EntryData). e.ino) es)
entry_number es i d lt = In-map (λ (e : EntryData). e.ino) (get_or es i d) es (get_or-In es i d lt)

pub file_number : (fs : List FileData) (i : ℕ) (d : FileData) → i < length fs → In (get_or fs i d).ino (map (λ (f : FileData). f.ino) fs)
file_number fs i d lt = In-map (λ (f : FileData). f.ino) (get_or fs i d) fs (get_or-In fs i d lt)

pub size_kept : (l : Listing) (now after : List (Option Row)) (n : ℕ) → after ≡ (if is_listed l n then now else set now n None) → length after ≡ length now
size_kept l now after n is = ap length is ∙ by (is_listed l n)
  where
    by : (b : Bool) → length (if b then now else set now n None) ≡ length now
    by true = refl
    by false = length-set now n None

-- the elements from one place before on
drop_before : {X : Type 0} (xs : List X) (left : ℕ) (d : X) → 0 < left → left ≤ length xs → drop (left - 1) xs ≡ get_or xs (left - 1) d ∷ drop left xs
drop_before xs left d some within =
    let e : suc (left - 1) ≡ left = omega arith in
    drop-cons xs (left - 1) d (omega arith) ∙ ap (λ k. get_or xs (left - 1) d ∷ drop k xs) e

pub moved_turn : (rows now after : List (Option Row)) (es : List EntryData) (left : ℕ) (d : EntryData) → 0 < left → left ≤ length es → (get_or es (left - 1) d).ino < length now
    → after ≡ set now (get_or es (left - 1) d).ino (option_map (placed_row (entry_seen (get_or es (left - 1) d))) (row_in now (get_or es (left - 1) d).ino))
    → ((n : ℕ) → row_in now n ≡ row_moved (map entry_seen (drop left es)) n (row_in rows n))
    → (n : ℕ) → row_in after n ≡ row_moved (map entry_seen (drop (left - 1) es)) n (row_in rows n)
moved_turn rows now after es left d some within below is so_far n =
    ap (λ rs. row_in rs n) is
    ∙ moved_next rows now (map entry_seen (drop left es)) (entry_seen (get_or es (left - 1) d)) below so_far n
    ∙ ap (λ xs. row_moved (map entry_seen xs) n (row_in rows n)) (sym (drop_before es left d some within))

pub judged_turn : (rows now after : List (Option Row)) (fs : List FileData) (left : ℕ) (d : FileData) → 0 < left → left ≤ length fs → (get_or fs (left - 1) d).ino < length now
    → after ≡ set now (get_or fs (left - 1) d).ino (Some (as_row (get_or fs (left - 1) d).row))
    → ((n : ℕ) → row_in now n ≡ row_judged (drop left fs) n (row_in rows n))
    → (n : ℕ) → row_in after n ≡ row_judged (drop (left - 1) fs) n (row_in rows n)
judged_turn rows now after fs left d some within below is so_far n =
    ap (λ rs. row_in rs n) is
    ∙ judged_next rows now (drop left fs) (get_or fs (left - 1) d) below so_far n
    ∙ ap (λ xs. row_judged xs n (row_in rows n)) (sym (drop_before fs left d some within))

-- one held number more was looked at
pub gone_turn : (l : Listing) (rows now after : List (Option Row)) (held : List ℕ) (i : ℕ) → i < length held → get_or held i 0 < length now
    → after ≡ (if is_listed l (get_or held i 0) then now else set now (get_or held i 0) None)
    → ((n : ℕ) → row_in now n ≡ (if is_among n (take i held) && not (is_listed l n) then None else row_in rows n))
    → (n : ℕ) → row_in after n ≡ (if is_among n (take (i + 1) held) && not (is_listed l n) then None else row_in rows n)
gone_turn l rows now after held i lt below is so_far n =
    ap (λ rs. row_in rs n) is
    ∙ by (cases_eq h n)
    ∙ ap (λ b. if b && not (is_listed l n) then None else row_in rows n) (sym (is_among-push n h (take i held)) ∙ ap (is_among n) (sym more))
  where
    h : ℕ
    h = get_or held i 0

    more : take (i + 1) held ≡ take i held ++ get_or held i 0 ∷ []
    more = (let e : i + 1 ≡ suc i = omega arith in ap (λ k. take k held) e ∙ take-suc held i 0 lt)

    here : (b listed : Bool) → row_in now n ≡ (if b && not listed then None else row_in rows n) → (h ≡ n) → is_listed l h ≡ listed
        → row_in (if listed then now else set now h None) n ≡ (if (b || true) && not listed then None else row_in rows n)
    here true true e same x = e
    here false true e same x = e
    here true false e same x = (row_in-set now h n None below).0 same
    here false false e same x = (row_in-set now h n None below).0 same

    apart_same : (b : Bool) → (b || false) ≡ b
    apart_same true = refl
    apart_same false = refl

    stays : (b : Bool) → (h ≢ n) → row_in (if b then now else set now h None) n ≡ row_in now n
    stays true apart = refl
    stays false apart = (row_in-set now h n None below).1 apart

    by : ((h ≡ n) ⊎ (h ≢ n)) → row_in (if is_listed l h then now else set now h None) n ≡ (if (is_among n (take i held) || h == n) && not (is_listed l n) then None else row_in rows n)
    by (inl same) =
        here (is_among n (take i held)) (is_listed l h) (so_far n ∙ ap (λ k. if is_among n (take i held) && not (is_listed l k) then None else row_in rows n) (sym same)) same refl
        ∙ ap (λ k. if (is_among n (take i held) || true) && not (is_listed l k) then None else row_in rows n) same
        ∙ ap (λ b. if (is_among n (take i held) || b) && not (is_listed l n) then None else row_in rows n) (sym (eq-eqb h n same))
    by (inr apart) =
        stays (is_listed l h) apart
        ∙ so_far n
        ∙ ap (λ b. if b && not (is_listed l n) then None else row_in rows n) (sym (apart_same (is_among n (take i held))) ∙ ap (λ b. is_among n (take i held) || b) (sym (ne_eqb h n apart)))

take_past : (ns : List ℕ) (i : ℕ) → length ns ≤ i → take i ns ≡ ns
take_past [] zero le = refl
take_past [] (suc i) le = refl
take_past (n ∷ ns) zero le = absurd (omega arith)
take_past (n ∷ ns) (suc i) le = ap (λ ms. n ∷ ms) (take_past ns i (omega arith))

-- once all held numbers were looked at
pub all_gone : (l : Listing) (rows now : List (Option Row)) (items : List ℕ) (i : ℕ) → length items ≤ i → items ≡ l.held
    → ((n : ℕ) → row_in now n ≡ (if is_among n (take i items) && not (is_listed l n) then None else row_in rows n))
    → (n : ℕ) → row_in now n ≡ (if is_gone l n then None else row_in rows n)
all_gone l rows now items i le is so_far n =
    so_far n ∙ ap (λ ns. if is_among n ns && not (is_listed l n) then None else row_in rows n) (take_past items i le ∙ is)

pub entries_within : (es : List EntryData) (l : Listing) (numbers : ℕ) → map entry_seen es ≡ l.entries → HasNumbersBelow numbers l → (n : ℕ) → In n (map (λ (e : EntryData). e.ino) es) → (0 < n) × (n < numbers)
entries_within es l numbers is h n i =
    let r = map-In (λ (e : EntryData). e.ino) n es i in
    let b = h.entries (entry_seen r.0) (subst (In (entry_seen r.0)) is (In-map entry_seen r.0 es r.1)) in
    let some = b.0 in
    let below = b.1 in
    let same : n ≡ r.0.ino = r.2 in
    (omega (arith, some, same), omega (arith, below, same))

pub files_within : (fs : List FileData) (l : Listing) (numbers : ℕ) → map (λ (f : FileData). f.ino) fs ≡ map (λ (f : ListedFile). f.ino) l.files → HasNumbersBelow numbers l → (n : ℕ) → In n (map (λ (f : FileData). f.ino) fs) → (0 < n) × (n < numbers)
files_within fs l numbers is h n i =
    let r = map-In (λ (f : ListedFile). f.ino) n l.files (subst (In n) is i) in
    let b = h.files r.0 r.1 in
    let some = b.0 in
    let below = b.1 in
    let same : n ≡ r.0.ino = r.2 in
    (omega (arith, some, same), omega (arith, below, same))

-- one page more was looked at
pub freed_turn : (l : Listing) (owners now after : List ℕ) (i : ℕ) → i < length now → after ≡ (if is_gone l (slice_index now i) then set now i 0 else now)
    → ((page : ℕ) → page < i → slice_index now page ≡ owner_staying l (slice_index owners page))
    → ((page : ℕ) → i ≤ page → slice_index now page ≡ slice_index owners page)
    → ((page : ℕ) → page < i + 1 → slice_index after page ≡ owner_staying l (slice_index owners page)) × ((page : ℕ) → i + 1 ≤ page → slice_index after page ≡ slice_index owners page)
freed_turn l owners now after i lt is done rest =
    (λ page below. ap (λ os. slice_index os page) is ∙ by_done page below (cases_eq page i), λ page past. ap (λ os. slice_index os page) is ∙ other (is_gone l (slice_index now i)) page (omega arith) ∙ rest page (omega arith))
  where
    other : (b : Bool) (page : ℕ) → (page ≢ i) → slice_index (if b then set now i 0 else now) page ≡ slice_index now page
    other true page apart = get_or-set_other now i page 0 0 apart
    other false page apart = refl

    here : (b : Bool) → slice_index (if b then set now i 0 else now) i ≡ (if b then 0 else slice_index now i)
    here true = get_or-set_same now i 0 0 lt
    here false = refl

    by_done : (page : ℕ) → page < i + 1 → ((page ≡ i) ⊎ (page ≢ i)) → slice_index (if is_gone l (slice_index now i) then set now i 0 else now) page ≡ owner_staying l (slice_index owners page)
    by_done page below (inl same) =
        ap (λ k. slice_index (if is_gone l (slice_index now i) then set now i 0 else now) k) same
        ∙ here (is_gone l (slice_index now i))
        ∙ ap (owner_staying l) (rest i (omega arith))
        ∙ ap (λ k. owner_staying l (slice_index owners k)) (sym same)
    by_done page below (inr apart) = other (is_gone l (slice_index now i)) page apart ∙ done page (omega arith)

pub freed_size : (l : Listing) (now after : List ℕ) (i : ℕ) → after ≡ (if is_gone l (slice_index now i) then set now i 0 else now) → length after ≡ length now
freed_size l now after i is = ap length is ∙ by (is_gone l (slice_index now i))
  where
    by : (b : Bool) → length (if b then set now i 0 else now) ≡ length now
    by true = length-set now i 0
    by false = refl

-- past the table nobody owns a page
pub freed_all : (l : Listing) (owners now : List ℕ) (count : ℕ) → count ≡ length owners → length now ≡ length owners → ((page : ℕ) → page < count → slice_index now page ≡ owner_staying l (slice_index owners page)) → (page : ℕ) → slice_index now page ≡ owner_staying l (slice_index owners page)
freed_all l owners now count all size done page = by (cases_lt page count)
  where
    stays : (b : Bool) (n : ℕ) → n ≡ (if b then n else n)
    stays true n = refl
    stays false n = refl

    by : ((page < count) ⊎ (count ≤ page)) → slice_index now page ≡ owner_staying l (slice_index owners page)
    by (inl lt) = done page lt
    by (inr le) =
        get_or_past now page 0 (omega (arith, size, all, le))
        ∙ stays (is_gone l 0) 0
        ∙ ap (owner_staying l) (sym (get_or_past owners page 0 (omega (arith, all, le))))

-- ---- owners

pub with_all-append : {X : Type 0} (x : X) (ns ms : List ℕ) (xs : List X) → with_all x (ns ++ ms) xs ≡ with_all x ms (with_all x ns xs)
with_all-append x [] ms xs = refl
with_all-append x (n ∷ ns) ms xs = with_all-append x ns ms (set xs n x)

pub below_from : (n : ℕ) (ns : List ℕ) → ((p : ℕ) → In p ns → p < n) → IsTrue (all_below n ns)
below_from n ns h = list_all-each (λ p. nat_lt p n) ns (λ p i. lt-ltb p n (h p i))

-- the owner of a page once some pages were given to a file
pub given : (x : ℕ) (ns : List ℕ) (owners : List ℕ) (page : ℕ) → IsTrue (all_below (length owners) ns) → slice_index (with_all x ns owners) page ≡ (if is_among page ns then x else slice_index owners page)
given x ns owners page below = by (cases_lt page (length owners))
  where
    outside : length owners ≤ page → In page ns → ⊥
    outside le i =
        let b = list_all-In (λ (n : ℕ). nat_lt n (length owners)) page ns below i in
        let lt = ltb-true page (length owners) b in
        absurd (omega (arith, lt, le))

    by : ((page < length owners) ⊎ (length owners ≤ page)) → slice_index (with_all x ns owners) page ≡ (if is_among page ns then x else slice_index owners page)
    by (inl lt) = with_all-read x 0 ns page owners lt
    by (inr le) =
        get_or_past (with_all x ns owners) page 0 (subst (λ k. k ≤ page) (sym (length-with_all x ns owners)) le)
        ∙ sym (get_or_past owners page 0 le)
        ∙ ap (λ b. if b then x else slice_index owners page) (sym (is_among-not page ns (outside le)))

-- the file before the others is the first
pub listed_next : (owners now mid after : List ℕ) (fs : List ListedFile) (f : ListedFile) (ino : ℕ) → ino ≡ f.ino → IsTrue (all_below (length now) (f.index ++ f.blocks))
    → mid ≡ with_all ino f.index now → after ≡ with_all ino f.blocks mid
    → ((page : ℕ) → slice_index now page ≡ owner_listed fs page (slice_index owners page))
    → (page : ℕ) → slice_index after page ≡ owner_listed (f ∷ fs) page (slice_index owners page)
listed_next owners now mid after fs f ino same below first second so_far page =
    ap (λ os. slice_index os page) (second ∙ ap (with_all ino f.blocks) first ∙ sym (with_all-append ino f.index f.blocks now))
    ∙ given ino (f.index ++ f.blocks) now page below
    ∙ ap (λ n. if is_among page (f.index ++ f.blocks) then n else slice_index now page) same
    ∙ ap (λ n. if is_among page (f.index ++ f.blocks) then f.ino else n) (so_far page)
    ∙ by (is_among page (f.index ++ f.blocks))
  where
    by : (b : Bool) → (if b then f.ino else owner_listed fs page (slice_index owners page))
        ≡ option_map_or (λ (d : ListedFile). d.ino) (if b then Some f else find (λ (d : ListedFile). is_among page (d.index ++ d.blocks)) fs) (slice_index owners page)
    by true = refl
    by false = refl

-- ---- the listed files from the last to the first

drop_get : {X : Type 0} (xs : List X) (i : ℕ) (x : X) → slice_get xs i ≡ Some x → drop i xs ≡ x ∷ drop (suc i) xs
drop_get [] i x e = absurd (cc e)
drop_get (y ∷ xs) zero x e = (let s : y ≡ x = cc e in ap (λ z. z ∷ xs) s)
drop_get (y ∷ xs) (suc i) x e = drop_get xs i x e

get_In : {X : Type 0} (xs : List X) (i : ℕ) (x : X) → slice_get xs i ≡ Some x → In x xs
get_In [] i x e = absurd (cc e)
get_In (y ∷ xs) zero x e = (let s : x ≡ y = cc e in inl s)
get_In (y ∷ xs) (suc i) x e = inr (get_In xs i x e)

told_number : (told : List FileData) (fs : List ListedFile) (i : ℕ) (f : ListedFile) → map (λ (d : FileData). d.ino) told ≡ map (λ (f : ListedFile). f.ino) fs → slice_get fs i ≡ Some f → (get_or told i no_file).ino ≡ f.ino
told_number [] [] i f numbers e = absurd (cc e)
told_number [] (g ∷ fs) i f numbers e = absurd (cc numbers)
told_number (d ∷ told) [] i f numbers e = absurd (cc e)
told_number (d ∷ told) (g ∷ fs) zero f numbers e =
    let ino : d.ino ≡ g.ino = cc numbers in
    let s : g ≡ f = cc e in
    ino ∙ ap (λ (x : ListedFile). x.ino) s
told_number (d ∷ told) (g ∷ fs) (suc i) f numbers e = (let more : map (λ (d : FileData). d.ino) told ≡ map (λ (f : ListedFile). f.ino) fs = cc numbers in told_number told fs i f more e)

-- the file at a place, by what is told of its pages
pub record HasFileAt (l : Listing) (told : List FileData) (i : ℕ) (index blocks : List ℕ) (size : ℕ) : Type 0 where
  file : ListedFile
  at : slice_get l.files i ≡ Some file
  index_is : index ≡ file.index
  blocks_is : blocks ≡ file.blocks
  number : (get_or told i no_file).ino ≡ file.ino
  below : IsTrue (all_below size (file.index ++ file.blocks))

pub file_at : (l : Listing) (told : List FileData) (i : ℕ) (index blocks : List ℕ) (size : ℕ) → HasPagesBelow size l → map (λ (d : FileData). d.ino) told ≡ map (λ (f : ListedFile). f.ino) l.files
    → option_map (λ (f : ListedFile). f.index) (slice_get l.files i) ≡ Some index → option_map (λ (f : ListedFile). f.blocks) (slice_get l.files i) ≡ Some blocks → HasFileAt l told i index blocks size
file_at l told i index blocks size listed numbers first second = by (slice_get l.files i) refl
  where
    by : (o : Option ListedFile) → slice_get l.files i ≡ o → HasFileAt l told i index blocks size
    by None e = (let wrong : None ≡ Some index = sym (ap (option_map (λ (f : ListedFile). f.index)) e) ∙ first in absurd (cc wrong))
    by (Some f) e =
        let a : Some f.index ≡ Some index = sym (ap (option_map (λ (f : ListedFile). f.index)) e) ∙ first in
        let b : Some f.blocks ≡ Some blocks = sym (ap (option_map (λ (f : ListedFile). f.blocks)) e) ∙ second in
        record {
          file = f;
          at = e;
          index_is = cc a;
          blocks_is = cc b;
          number = told_number told l.files i f numbers e;
          below = below_from size (f.index ++ f.blocks) (λ page j. listed f page (get_In l.files i f e) j);
        }

-- the pages that are told of a file are below
pub told_below : (l : Listing) (i : ℕ) (part : ListedFile → List ℕ) (pages : List ℕ) (size : ℕ) → HasPagesBelow size l → ((f : ListedFile) (p : ℕ) → In p (part f) → In p (f.index ++ f.blocks))
    → option_map part (slice_get l.files i) ≡ Some pages → IsTrue (all_below size pages)
told_below l i part pages size listed within told = by (slice_get l.files i) refl
  where
    by : (o : Option ListedFile) → slice_get l.files i ≡ o → IsTrue (all_below size pages)
    by None e = (let wrong : None ≡ Some pages = sym (ap (option_map part) e) ∙ told in absurd (cc wrong))
    by (Some f) e =
        let a : Some (part f) ≡ Some pages = sym (ap (option_map part) e) ∙ told in
        let b : pages ≡ part f = cc a in
        below_from size pages (λ page j. listed f page (get_In l.files i f e) (within f page (subst (In page) b j)))

pub listed_turn : (l : Listing) (told : List FileData) (owners now mid after : List ℕ) (left : ℕ) (index blocks : List ℕ) → 0 < left → HasFileAt l told (left - 1) index blocks (length now)
    → mid ≡ with_all (get_or told (left - 1) no_file).ino index now → after ≡ with_all (get_or told (left - 1) no_file).ino blocks mid
    → ((page : ℕ) → slice_index now page ≡ owner_listed (drop left l.files) page (slice_index owners page))
    → (page : ℕ) → slice_index after page ≡ owner_listed (drop (left - 1) l.files) page (slice_index owners page)
listed_turn l told owners now mid after left index blocks some h first second so_far page =
    let f : ListedFile = h.file in
    let ino : ℕ = (get_or told (left - 1) no_file).ino in
    let e : suc (left - 1) ≡ left = omega arith in
    listed_next owners now mid after (drop left l.files) f ino h.number h.below (first ∙ ap (λ ps. with_all ino ps now) h.index_is) (second ∙ ap (λ ps. with_all ino ps mid) h.blocks_is) so_far page
    ∙ ap (λ fs. owner_listed fs page (slice_index owners page)) (ap (λ k. f ∷ drop k l.files) (sym e) ∙ sym (drop_get l.files (left - 1) f h.at))

-- where no held file is gone, each owner stays
pub none_gone : (l : Listing) → list_any (is_gone l) l.held ≡ false → (n : ℕ) → is_gone l n ≡ false
none_gone l none n = by (cases_Bool (is_among n l.held))
  where
    all : (ns : List ℕ) → list_any (is_gone l) ns ≡ false → In n ns → is_gone l n ≡ false
    all [] e i = absurd i
    all (m ∷ ns) e (inl same) = ap (is_gone l) same ∙ first (is_gone l m) (list_any (is_gone l) ns) e
      where
        first : (a b : Bool) → (a || b) ≡ false → a ≡ false
        first true b e = e
        first false b e = refl
    all (m ∷ ns) e (inr i) = all ns (second (is_gone l m) (list_any (is_gone l) ns) e) i
      where
        second : (a b : Bool) → (a || b) ≡ false → b ≡ false
        second true b e = absurd (false≢true (sym e))
        second false b e = e

    by : ((is_among n l.held ≡ true) ⊎ (is_among n l.held ≡ false)) → is_gone l n ≡ false
    by (inl held) = all l.held none (is_among-In n l.held held)
    by (inr apart) = ap (λ b. b && not (is_listed l n)) apart

pub all_stay : (l : Listing) → list_any (is_gone l) l.held ≡ false → (owner : ℕ) → owner_staying l owner ≡ owner
all_stay l none owner = ap (λ b. if b then 0 else owner) (none_gone l none owner)

-- the steps one after another give the owner that the listing says
pub owners_put : (l : Listing) (owners now : List ℕ) (pages : List ℕ) (page : ℕ) → IsTrue (all_below (length owners) pages)
    → ((p : ℕ) → p < length owners → has_file l (slice_index owners p) ≡ is_among p pages) → now ≡ with_all 0 pages owners
    → owner_listed l.files page (owner_staying l (slice_index now page)) ≡ owner_after l owners page
owners_put l owners now pages page below handed is = ap (owner_listed l.files page) (freed (cases_lt page (length owners)))
  where
    F : ℕ → ℕ
    F n = if gives_up l n then 0 else n

    stays : (b : Bool) (n : ℕ) → (if b then n else n) ≡ n
    stays true n = refl
    stays false n = refl

    both : (b g : Bool) (n : ℕ) → (if is_gone l (if b then 0 else n) then 0 else (if b then 0 else n)) ≡ (if b || is_gone l n then 0 else n)
    both true g n = stays (is_gone l 0) 0
    both false g n = refl

    freed : ((page < length owners) ⊎ (length owners ≤ page)) → owner_staying l (slice_index now page) ≡ (if gives_up l (slice_index owners page) then 0 else slice_index owners page)
    freed (inl lt) =
        ap (owner_staying l) (ap (λ os. slice_index os page) is ∙ given 0 pages owners page below ∙ ap (λ b. if b then 0 else slice_index owners page) (sym (handed page lt)))
        ∙ both (has_file l (slice_index owners page)) true (slice_index owners page)
    freed (inr le) =
        let past : slice_index owners page ≡ 0 = get_or_past owners page 0 le in
        let size : length now ≡ length owners = ap length is ∙ length-with_all 0 pages owners in
        let past' : slice_index now page ≡ 0 = get_or_past now page 0 (subst (λ k. k ≤ page) (sym size) le) in
        ap (owner_staying l) past' ∙ stays (is_gone l 0) 0 ∙ sym (stays (gives_up l 0) 0) ∙ ap (λ n. if gives_up l n then 0 else n) (sym past)

-- ---- the numbers of lent pages

pub lent_number : (pages : List LentPage) (i : ℕ) (x : LentPage) → i < length pages → x ≡ get_or pages i x
    → (i < length (sheet_numbers (lent_sheets pages))) × (x.no.0 ≡ get_or (sheet_numbers (lent_sheets pages)) i 0)
lent_number [] i x lt is = absurd (omega arith)
lent_number (p ∷ ps) zero x lt is = (omega arith, ap (λ (y : LentPage). y.no.0) is)
lent_number (p ∷ ps) (suc i) x lt is = (let r = lent_number ps i x (omega arith) is in let a = r.0 in (omega (arith, a), r.1))

pub set_mapped : {X Y : Type 0} (x : X) (xs now : List X) (f : Y → ℕ) (ys : List Y) (i : ℕ) (d : Y) → i < length ys → now ≡ with_all x (take i (map f ys)) xs → set now (f (get_or ys i d)) x ≡ with_all x (take (i + 1) (map f ys)) xs
set_mapped x xs now f ys i d lt so_far =
    set_next x xs now (map f ys) i (f (get_or ys i d)) (subst (λ k. i < k) (sym (length-map ys f)) lt) (sym (get_or-map f ys i d 0 lt)) so_far
