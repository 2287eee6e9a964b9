-- The index of a directory is that of its slots, as the session shows them.
use Rattle.trio_session.proofs.Words.{if◌then◌else◌, ◌++◌, ◌∙◌, ◌≡◌, ◌⊎◌, AreDirs, AreLaid, AreMade, Bor, Chain, Directory, Files, In, In-cases, In-is_among, In-left, In-map, In-right, IndexedDir, Inside, IsFileOn, IsIndexHere, IsIndexed, IsNowhere, IsOne, Kind, Laid, Leased, LentFile, List, Made, None, OneFile, Option, Parcel, Regular, SessionSeen, Shown, Some, WasMade, Written, [], and_parts, ap, are_new, are_new-before, chain_at, chain_in, dir_pages, eqb, eqb-true, every_number, false≢true, file_numbers, file_of, find, find-In, inl, inr, is_among, is_among-In, is_some, kind_shown, lease_on, map, map-In, map-append, of_made, open_kind, option_copied, option_map, option_map_or, option_or, page_in, pages_of, place_of, place_shown, position, read_file, refl, slice_get, slots_of, slots_shown, subst, sym, true, ℕ, Link}
use Rattle.trio_lists.proofs.Marked.{are_new-append}
use Rattle.trio_session.specs.contracts.session.Session.{the_invariant, the_view}
use Rattle.trio_session.proofs.Dirs.{dir_missed}
use Rattle.trio_session.proofs.Insides.{files_in, view_shows}
use Rattle.trio_session.proofs.Found.{find-none, is_some-position, position-at}
use Rattle.trio_session.proofs.Lists.{In-slice_get, once_at, slice_get-In}
use Rattle.trio_session.proofs.Seeing.{Shows, made_on, none_open, written_on}

-- ---- places by numbers

-- where keys differ, the place of an element is found
pub position-once : {X : Type 0} (key : X → ℕ) (xs : List X) (n i : ℕ) (x : X) → are_new [] (map key xs) ≡ true → slice_get xs i ≡ Some x → key x ≡ n
    → position (λ x. eqb (key x) n) xs ≡ Some i
position-once {X} key xs n i x new e same = by (position (λ (x : X). eqb (key x) n) xs) refl
  where
    by : (o : Option ℕ) → position (λ (x : X). eqb (key x) n) xs ≡ o → position (λ (x : X). eqb (key x) n) xs ≡ Some i
    by None k =
        let there : is_among n (map key xs) ≡ true = In-is_among n (map key xs) (subst (λ m. In m (map key xs)) same (In-map key x xs (slice_get-In xs i x e))) in
        absurd (false≢true (ap is_some (sym k) ∙ is_some-position key xs n ∙ there))
    by (Some j) k =
        let y = position-at (λ (x : X). eqb (key x) n) xs j k in
        k ∙ ap Some (once_at key xs j i y.0 x new y.1.0 e (eqb-true (key y.0) n y.1.2 ∙ sym same))

-- and of a number that isn't there none
pub position-none : {X : Type 0} (key : X → ℕ) (xs : List X) (n : ℕ) → (In n (map key xs) → ⊥) → position (λ x. eqb (key x) n) xs ≡ None
position-none {X} key xs n out = by (position (λ (x : X). eqb (key x) n) xs) refl
  where
    by : (o : Option ℕ) → position (λ (x : X). eqb (key x) n) xs ≡ o → position (λ (x : X). eqb (key x) n) xs ≡ None
    by None k = k
    by (Some j) k = absurd (out (is_among-In n (map key xs) (sym (is_some-position key xs n) ∙ ap is_some k)))

-- of two lists without a number twice the first has none twice, and none is in both
pub are_new-front : (xs ys : List ℕ) → are_new [] (xs ++ ys) ≡ true → are_new [] xs ≡ true
are_new-front xs ys new = (and_parts (are_new [] xs) (are_new xs ys) (sym (are_new-append [] xs ys) ∙ new)).0

pub are_new-both : (xs ys : List ℕ) (n : ℕ) → are_new [] (xs ++ ys) ≡ true → In n xs → In n ys → ⊥
are_new-both xs ys n new i j = are_new-before n xs ys (and_parts (are_new [] xs) (are_new xs ys) (sym (are_new-append [] xs ys) ∙ new)).1 j i

-- ---- a file of the session by its number

-- one that is written
pub written_one : (s : SessionSeen) (placed : ℕ) (reads : List Shown) (fs : Files) (at : ℕ) (f : LentFile) (l : Laid) → Shows s fs → AreLaid fs.parcel fs.laid → AreMade placed reads fs
    → slice_get fs.parcel.writes at ≡ Some f → slice_get fs.laid at ≡ Some l → IsFileOn s f.stands.ino (Leased at) l
written_one s placed reads fs at f l shows laid made ef el =
    let ino = f.stands.ino in
    let there : In ino (file_numbers fs.parcel.writes) = In-map (λ (g : LentFile). g.stands.ino) f fs.parcel.writes (slice_get-In fs.parcel.writes at f ef) in
    written_on s fs ino at l shows laid
    (position-none (λ (m : Made). m.ino) fs.made ino (λ i.
    let m = map-In (λ (m : Made). m.ino) ino fs.made i in
    made.numbered.new m.0 (In-left m.0 fs.made fs.cleared m.1) (In-left m.0.ino (file_numbers fs.parcel.writes) (map (λ (g : Shown). g.ino) reads) (subst (λ n. In n (file_numbers fs.parcel.writes)) m.2 there))))
    (position-once (λ (g : LentFile). g.stands.ino) fs.parcel.writes ino at f made.apart.files ef refl)
    el

-- one that was made
pub made_one : (s : SessionSeen) (placed : ℕ) (reads : List Shown) (fs : Files) (m : Made) → Shows s fs → AreMade placed reads fs → In m fs.made → IsFileOn s m.ino (file_of m) m.laid
made_one s placed reads fs m shows made i =
    let at = In-slice_get m fs.made i in
    let once : are_new [] (map (λ (k : Made). k.ino) fs.made) ≡ true =
    are_new-front (map (λ (k : Made). k.ino) fs.made) (map (λ (k : Made). k.ino) fs.cleared) (ap (are_new []) (sym (map-append (λ (k : Made). k.ino) fs.made fs.cleared)) ∙ made.numbered.once) in
    made_on s fs m.ino at.0 m shows made.apart (made.made m i) (position-once (λ (k : Made). k.ino) fs.made m.ino at.0 m once at.1 refl) at.1

-- a file of the session is shown, but for one that is cleared
pub one_on : (s : SessionSeen) (placed : ℕ) (reads : List Shown) (fs : Files) (x : OneFile) → Shows s fs → AreLaid fs.parcel fs.laid → AreMade placed reads fs → IsOne fs x
    → IsFileOn s x.ino x.file x.laid ⊎ ((k : Made) × (In k fs.cleared) × (x ≡ of_made k))
one_on s placed reads fs x shows laid made one = elim one [
  | Written at f l ef el e ↦ inl (subst (λ (y : OneFile). IsFileOn s y.ino y.file y.laid) (sym e) (written_one s placed reads fs at f l shows laid made ef el))
  | WasMade m i e ↦ elim (In-cases m fs.made fs.cleared i) [
    | inl here ↦ inl (subst (λ (y : OneFile). IsFileOn s y.ino y.file y.laid) (sym e) (made_one s placed reads fs m shows made here))
    | inr there ↦ inr (m, there, e)
  ]
]

-- ---- indexes

-- the number of what is lent for reading
leased_In : (reads : List Shown) (n : ℕ) (f : Shown) → lease_on reads n ≡ Some f → In n (map (λ g. g.ino) reads)
leased_In reads n f e =
    let at = find-In (λ (g : Shown). eqb g.ino n) reads f e in
    subst (λ m. In m (map (λ (g : Shown). g.ino) reads)) (eqb-true f.ino n at.1) (In-map (λ (g : Shown). g.ino) f reads at.0)

-- a cleared file's number is shown as no file
cleared_hidden : (s : SessionSeen) (placed : ℕ) (reads : List Shown) (fs : Files) (k : Made) → Shows s fs → s.reads ≡ reads → AreLaid fs.parcel fs.laid → AreMade placed reads fs → In k fs.cleared
    → kind_shown s k.ino ≡ None
cleared_hidden s placed reads fs k shows lent laid made ik =
    let in_all = In-right k fs.made fs.cleared ik in
    let not_made : In k.ino (map (λ (m : Made). m.ino) fs.made) → ⊥ = λ i.
    are_new-both (map (λ (m : Made). m.ino) fs.made) (map (λ (m : Made). m.ino) fs.cleared) k.ino
    (ap (are_new []) (sym (map-append (λ (m : Made). m.ino) fs.made fs.cleared)) ∙ made.numbered.once) i (In-map (λ (m : Made). m.ino) k fs.cleared ik) in
    let not_written : In k.ino (file_numbers fs.parcel.writes) → ⊥ = λ i. made.numbered.new k in_all (In-left k.ino (file_numbers fs.parcel.writes) (map (λ (f : Shown). f.ino) reads) i) in
    let not_read : In k.ino (map (λ (f : Shown). f.ino) reads) → ⊥ = λ i. made.numbered.new k in_all (In-right k.ino (file_numbers fs.parcel.writes) (map (λ (f : Shown). f.ino) reads) i) in
    let closed : open_kind s k.ino ≡ None = none_open s fs k.ino shows (record {
      made = position-none (λ (m : Made). m.ino) fs.made k.ino not_made;
      written = position-none (λ (f : LentFile). f.stands.ino) fs.parcel.writes k.ino not_written;
    }) in
    let unread : read_file s k.ino ≡ None = ap (find (λ (f : Shown). eqb f.ino k.ino)) lent ∙ find-none (λ (f : Shown). eqb f.ino k.ino) reads (position-none (λ (f : Shown). f.ino) reads k.ino not_read) in
    ap (λ o. option_or o (option_map (λ (f : Shown). f.kind) (read_file s k.ino))) closed ∙ ap (option_map (λ (f : Shown). f.kind)) unread

-- the slots of a file that the session writes or made
slots_open : (s : SessionSeen) (fs : Files) (x : OneFile) → Shows s fs → IsFileOn s x.ino x.file x.laid → slots_of every_number (pages_of fs.parcel x) ≡ slots_shown s x.ino
slots_open s fs x shows on =
    ap (λ (b : Parcel). slots_of every_number (map (page_in b) (chain_at b x.file x.laid).blocks)) (sym shows.parcel)
    ∙ ap (λ (c : Chain). slots_of every_number (map (page_in s.parcel) c.blocks)) on.chain
    ∙ sym (ap (λ v. slots_of every_number (if v then map (page_in s.parcel) (chain_in s x.ino).blocks else option_map_or dir_pages (read_file s x.ino) [])) on.is_open)

-- a file that is lent for reading is none that the session writes or made
read_closed : (s : SessionSeen) (placed : ℕ) (reads : List Shown) (fs : Files) (n : ℕ) (f : Shown) → Shows s fs → AreMade placed reads fs → lease_on reads n ≡ Some f → open_kind s n ≡ None
read_closed s placed reads fs n f shows made e =
    let i = leased_In reads n f e in
    let at = find-In (λ (g : Shown). eqb g.ino n) reads f e in
    none_open s fs n shows (record {
      made = position-none (λ (m : Made). m.ino) fs.made n (λ j.
          let m = map-In (λ (m : Made). m.ino) n fs.made j in
          made.numbered.new m.0 (In-left m.0 fs.made fs.cleared m.1) (In-right m.0.ino (file_numbers fs.parcel.writes) (map (λ (g : Shown). g.ino) reads) (subst (λ k. In k (map (λ (g : Shown). g.ino) reads)) m.2 i)));
      written = position-none (λ (g : LentFile). g.stands.ino) fs.parcel.writes n (λ j. made.numbered.read f at.0 (subst (λ k. In k (file_numbers fs.parcel.writes)) (sym (eqb-true f.ino n at.1)) j));
    })

-- the index of a directory that is shown has its slots
pub index_shown : (s : SessionSeen) (placed : ℕ) (reads : List Shown) (fs : Files) (dirs : List IndexedDir) (n : ℕ) (d : IndexedDir) → Shows s fs → s.reads ≡ reads → AreLaid fs.parcel fs.laid
    → AreMade placed reads fs → AreDirs reads fs dirs → kind_shown s n ≡ Some Directory → find (λ x. eqb x.ino n) dirs ≡ Some d → d.dir.slots ≡ slots_shown s n
index_shown s placed reads fs dirs n d shows lent laid made are shown e =
    let at = find-In (λ (x : IndexedDir). eqb x.ino n) dirs d e in
    let same : d.ino ≡ n = eqb-true d.ino n at.1 in
    elim (are.indexed d at.0) [
      | inl here ↦ elim (one_on s placed reads fs here.dir shows laid made here.one) [
        | inl on ↦ here.slots ∙ slots_open s fs here.dir shows on ∙ ap (slots_shown s) (here.number ∙ same)
        | inr gone ↦
            let number : gone.0.ino ≡ n = sym (ap (λ (x : OneFile). x.ino) gone.2) ∙ here.number ∙ same in
            absurd (let t : None ≡ Some Directory = sym (cleared_hidden s placed reads fs gone.0 shows lent laid made gone.1) ∙ ap (kind_shown s) number ∙ shown in cc t)
      ]
      | inr read ↦
          let there : lease_on reads n ≡ Some read.lease = ap (lease_on reads) (sym same) ∙ read.there in
          let closed = read_closed s placed reads fs n read.lease shows made there in
          let file : read_file s n ≡ Some read.lease = ap (find (λ (f : Shown). eqb f.ino n)) lent ∙ there in
          read.index.slots
          ∙ sym (ap (λ o. slots_of every_number (if is_some o then map (page_in s.parcel) (chain_in s n).blocks else option_map_or dir_pages (read_file s n) [])) closed
          ∙ ap (λ o. slots_of every_number (option_map_or dir_pages o [])) file)
    ]

-- ---- what a look into the indexes gives

-- an open directory is shown
pub open_shown : (s : SessionSeen) (n : ℕ) → open_kind s n ≡ Some Directory → kind_shown s n ≡ Some Directory
open_shown s n e = ap (λ o. option_or o (option_map (λ (f : Shown). f.kind) (read_file s n))) e

-- the index that was found, of a directory that is shown
pub dir_index : (v : SessionSeen) (s : Inside) (n : ℕ) (o : Option (Bor IndexedDir)) (dirs : List IndexedDir) (d : Bor IndexedDir) → the_view s ≡ v → the_invariant s
    → kind_shown v n ≡ Some Directory → dirs ≡ s.dirs.items → option_copied o ≡ find (λ x. eqb x.ino n) dirs → o ≡ Some d → d.now.dir.slots ≡ slots_shown v n
dir_index v s n o dirs d view is shown same asked found =
    let at : find (λ (x : IndexedDir). eqb x.ino n) s.dirs.items ≡ Some d.now = ap (find (λ (x : IndexedDir). eqb x.ino n)) (sym same) ∙ sym asked ∙ ap option_copied found in
    index_shown v s.placed s.reads.items (files_in s) s.dirs.items n d.now (subst (λ x. Shows x (files_in s)) view (view_shows s)) (sym (ap (λ (x : SessionSeen). x.reads) view))
    is.0 is.3 is.4 shown at

-- where none was found the directory isn't among those that have one
pub index_missing : (v : SessionSeen) (s : Inside) (n : ℕ) (o : Option (Bor IndexedDir)) (dirs : List IndexedDir) → the_view s ≡ v → In n v.indexed
    → dirs ≡ s.dirs.items → option_copied o ≡ find (λ x. eqb x.ino n) dirs → o ≡ None → ⊥
index_missing v s n o dirs view i same asked none =
    dir_missed s.dirs.items n (ap (find (λ (x : IndexedDir). eqb x.ino n)) (sym same) ∙ sym asked ∙ ap option_copied none)
    (subst (λ (x : SessionSeen). In n x.indexed) (sym view) i)

-- where a name stands by an index whose slots are those that are shown
pub place_of-index : (v : SessionSeen) (n : ℕ) (slots : List (Option (List ℕ))) (name : List ℕ) → (kind_shown v n ≡ Some Directory → slots ≡ slots_shown v n)
    → place_of (kind_shown v n) slots name ≡ place_shown v n name
place_of-index v n slots name same = by (kind_shown v n) refl
  where
    by : (o : Option Kind) → kind_shown v n ≡ o → place_of (kind_shown v n) slots name ≡ place_of (kind_shown v n) (slots_shown v n) name
    by None e = ap (λ k. place_of k slots name) e ∙ sym (ap (λ k. place_of k (slots_shown v n) name) e)
    by (Some Regular) e = ap (λ k. place_of k slots name) e ∙ sym (ap (λ k. place_of k (slots_shown v n) name) e)
    by (Some Link) e = ap (λ k. place_of k slots name) e ∙ sym (ap (λ k. place_of k (slots_shown v n) name) e)
    by (Some Directory) e = ap (λ xs. place_of (kind_shown v n) xs name) (same e)

pub place_of-missing : (v : SessionSeen) (n : ℕ) (name : List ℕ) → (kind_shown v n ≡ Some Directory → ⊥) → None ≡ place_shown v n name
place_of-missing v n name not = by (kind_shown v n) refl
  where
    by : (o : Option Kind) → kind_shown v n ≡ o → None ≡ place_of (kind_shown v n) (slots_shown v n) name
    by None e = sym (ap (λ k. place_of k (slots_shown v n) name) e)
    by (Some Regular) e = sym (ap (λ k. place_of k (slots_shown v n) name) e)
    by (Some Link) e = sym (ap (λ k. place_of k (slots_shown v n) name) e)
    by (Some Directory) e = absurd (not e)
