-- What a session shows of a file, by the lists in which it is found.
use Rattle.trio_session.proofs.Words.{if◌then◌else◌, ◌++◌, ◌||◌, ◌∙◌, ◌∷◌, ◌≡◌, AmongMade, AmongWritten, AreApart, AreLaid, Bool, Bor, FilePlace, Files, Finds, FindsFile, FoundAt, HasChain, HoldParts, HomeInSlot, HomeLeased, In, In-cases, In-is_among, In-left, In-right, IsFile, IsFileOn, IsMade, IsNowhere, Laid, Leased, LentFile, List, Made, MadeFile, None, Option, Parcel, SessionSeen, Shown, Some, ToHold, [], ap, body_at, body_in_slot, cases_Bool, chain_at, chains_laid, cond, entry_count, eqb, eqb-true, false, false≢true, file_of, find, held_file, home_at, inl, inr, is_among, is_among-In, is_among-not, is_directory, is_some, made_body, made_file, made_seen, map, map-append, no_chain, number_at, open_kind, option_copied, option_map, option_map_or, option_or, page_in, place_in, position, refl, serves, slice_get, slice_index_or, slots_shown, subst, sym, true, used_numbers, written_file, ℕ}
use Rattle.trio_session.specs.Seen.{children_shown, made_children}
use Rattle.trio_session.proofs.Chains.{there_some}
use Rattle.trio_session.proofs.Found.{find-none, find-position, is_some-position, position-at}
use Rattle.trio_session.proofs.Lists.{slice_get-In}
use Rattle.trio_session.proofs.Places.{body_at-InSlot, shown_at-Leased}
use Rattle.trio_session.proofs.Sessions.{chain_of_file}

-- what a session shows of its files
pub record Shows (s : SessionSeen) (fs : Files) : Type 0 where
  pub parcel : s.parcel ≡ fs.parcel
  pub chains : s.chains ≡ chains_laid fs.parcel.writes fs.parcel.pages fs.laid
  pub made : s.made ≡ map (made_seen fs.parcel) fs.made
  pub cleared : s.cleared ≡ map (made_seen fs.parcel) fs.cleared

-- the first in a list that was mapped
pub find-map : {X Y : Type 0} (p : Y → Bool) (f : X → Y) (xs : List X) → find p (map f xs) ≡ option_map f (find (λ x. p (f x)) xs)
find-map {X} {Y} p f [] = refl
find-map {X} {Y} p f (x ∷ xs) = by (p (f x)) (find-map p f xs)
  where
    by : (b : Bool) → find p (map f xs) ≡ option_map f (find (λ y. p (f y)) xs) → cond b (Some (f x)) (find p (map f xs)) ≡ option_map f (cond b (Some x) (find (λ y. p (f y)) xs))
    by true e = refl
    by false e = e

-- the file of a number among those that were made
pub find-made : (b : Parcel) (ms : List Made) (ino : ℕ) → find (λ m. eqb m.ino ino) (map (made_seen b) ms) ≡ option_map (made_seen b) (find (λ m. eqb m.ino ino) ms)
find-made b ms ino = find-map (λ (m : MadeFile). eqb m.ino ino) (made_seen b) ms

pub made_there : (b : Parcel) (ms : List Made) (ino at : ℕ) (m : Made) → position (λ x. eqb x.ino ino) ms ≡ Some at → slice_get ms at ≡ Some m
    → find (λ m. eqb m.ino ino) (map (made_seen b) ms) ≡ Some (made_seen b m)
made_there b ms ino at m e there =
    find-made b ms ino ∙ ap (option_map (made_seen b)) ((find-position (λ (x : Made). eqb x.ino ino) ms at e).0 ∙ there)

pub made_missing : (b : Parcel) (ms : List Made) (ino : ℕ) → position (λ x. eqb x.ino ino) ms ≡ None → find (λ m. eqb m.ino ino) (map (made_seen b) ms) ≡ None
made_missing b ms ino e = find-made b ms ino ∙ ap (option_map (made_seen b)) (find-none (λ (x : Made). eqb x.ino ino) ms e)

-- a file that was made, as the session shows it
pub made_shown : (s : SessionSeen) (fs : Files) (ino : ℕ) (o : Option MadeFile) → Shows s fs → find (λ m. eqb m.ino ino) (map (made_seen fs.parcel) fs.made) ≡ o → made_file s ino ≡ o
made_shown s fs ino o shows e = ap (find (λ (m : MadeFile). eqb m.ino ino)) shows.made ∙ e

pub made_on : (s : SessionSeen) (fs : Files) (ino at : ℕ) (m : Made) → Shows s fs → AreApart fs.parcel → IsMade fs m
    → position (λ x. eqb x.ino ino) fs.made ≡ Some at → slice_get fs.made at ≡ Some m → IsFileOn s ino (file_of m) m.laid
made_on s fs ino at m shows apart is e there =
    let b = fs.parcel in
    let file = made_shown s fs ino (Some (made_seen b m)) shows (made_there b fs.made ino at m e there) in
    let body : body_at b (file_of m) ≡ body_in_slot m.slot (page_in b (number_at b m.page)) = body_at-InSlot b m.page m.slot apart (there_some b (file_of m) m.laid is.file) in
    record {
      is_open = ap (λ o. is_some (option_or (option_map (λ (x : MadeFile). x.kind) o) (option_map (λ (f : Shown). f.kind) (written_file s ino)))) file;
      is_file = subst (λ x. IsFile x (file_of m) m.laid) (sym shows.parcel) is.file;
      chain = ap (λ x. chain_at x (file_of m) m.laid) shows.parcel
          ∙ sym (ap (λ o. option_map_or (λ (x : MadeFile). x.chain) o (option_map_or (λ i. slice_index_or s.chains i no_chain) (place_in s ino) no_chain)) file);
      body = ap (λ x. body_at x (file_of m)) shows.parcel ∙ body
          ∙ ap (λ (x : Parcel). body_in_slot m.slot (page_in x (number_at b m.page))) (sym shows.parcel)
          ∙ sym (ap (λ o. option_map_or (made_body s) o (option_map_or (λ (f : Shown). f.body) (written_file s ino) [])) file);
      home = ap (λ x. home_at x (file_of m)) shows.parcel ∙ sym (ap (λ o. option_map_or (λ (x : MadeFile). HomeInSlot x.page x.slot) o (HomeLeased ino)) file);
      has = subst (λ x. HasChain x (file_of m) m.laid) (sym shows.parcel) is.chain;
    }

pub written_on : (s : SessionSeen) (fs : Files) (ino at : ℕ) (l : Laid) → Shows s fs → AreLaid fs.parcel fs.laid
    → position (λ x. eqb x.ino ino) fs.made ≡ None → position (λ f. eqb f.stands.ino ino) fs.parcel.writes ≡ Some at → slice_get fs.laid at ≡ Some l → IsFileOn s ino (Leased at) l
written_on s fs ino at l shows are none e there =
    let b = fs.parcel in
    let missing = made_shown s fs ino None shows (made_missing b fs.made ino none) in
    let f = position-at (λ (f : LentFile). eqb f.stands.ino ino) b.writes at e in
    let found : find (λ (f : LentFile). eqb f.stands.ino ino) b.writes ≡ Some f.0 = (find-position (λ (f : LentFile). eqb f.stands.ino ino) b.writes at e).0 ∙ f.1.0 in
    let written : written_file s ino ≡ Some f.0.stands =
    ap (λ (x : Parcel). option_map (λ (f : LentFile). f.stands) (find (λ (f : LentFile). eqb f.stands.ino ino) x.writes)) shows.parcel ∙ ap (option_map (λ (f : LentFile). f.stands)) found in
    let place : place_in s ino ≡ Some at = ap (λ (x : Parcel). position (λ (f : LentFile). eqb f.stands.ino ino) x.writes) shows.parcel ∙ e in
    let shown = shown_at-Leased b at f.0 f.1.0 in
    let is = are.each at l there in
    record {
      is_open = ap (λ o. is_some (option_or (option_map (λ (x : MadeFile). x.kind) o) (option_map (λ (f : Shown). f.kind) (written_file s ino)))) missing
          ∙ ap (λ o. is_some (option_map (λ (f : Shown). f.kind) o)) written;
      is_file = subst (λ x. IsFile x (Leased at) l) (sym shows.parcel) is;
      chain = ap (λ x. chain_at x (Leased at) l) shows.parcel ∙ sym (chain_of_file b fs.laid at l is there)
          ∙ sym (ap (λ o. option_map_or (λ (x : MadeFile). x.chain) o (option_map_or (λ i. slice_index_or s.chains i no_chain) (place_in s ino) no_chain)) missing
          ∙ ap (λ o. option_map_or (λ i. slice_index_or s.chains i no_chain) o no_chain) place ∙ ap (λ cs. slice_index_or cs at no_chain) shows.chains);
      body = ap (λ x. body_at x (Leased at)) shows.parcel ∙ ap (λ o. option_map_or (λ (f : Shown). f.body) o []) shown
          ∙ sym (ap (λ o. option_map_or (made_body s) o (option_map_or (λ (f : Shown). f.body) (written_file s ino) [])) missing
          ∙ ap (λ o. option_map_or (λ (f : Shown). f.body) o []) written);
      home = ap (λ x. home_at x (Leased at)) shows.parcel ∙ ap HomeLeased (ap (λ o. option_map_or (λ (f : LentFile). f.stands.ino) o 0) f.1.0 ∙ eqb-true f.0.stands.ino ino f.1.2)
          ∙ sym (ap (λ o. option_map_or (λ (x : MadeFile). HomeInSlot x.page x.slot) o (HomeLeased ino)) missing);
      has = subst (λ x. HasChain x (Leased at) l) (sym shows.parcel) (are.chains at l there);
    }

-- a file that is found is the one that the session shows
pub file_on : (s : SessionSeen) (fs : Files) (ino : ℕ) (file : FilePlace) (l : Laid) → Shows s fs → AreLaid fs.parcel fs.laid → AreApart fs.parcel
    → ((m : Made) → In m fs.made → IsMade fs m) → FoundAt fs.parcel fs.laid fs.made ino file l → IsFileOn s ino file l
file_on s fs ino file l shows are apart made found = elim found [
  | AmongMade at m e there ef el ↦
      subst (λ k. IsFileOn s ino file k) (sym el) (subst (λ f. IsFileOn s ino f m.laid) (sym ef) (made_on s fs ino at m shows apart (made m (slice_get-In fs.made at m there)) e there))
  | AmongWritten at none e there ef ↦ subst (λ f. IsFileOn s ino f l) (sym ef) (written_on s fs ino at l shows are none e there)
]

-- and where none is found it shows none
pub none_open : (s : SessionSeen) (fs : Files) (ino : ℕ) → Shows s fs → IsNowhere fs.parcel fs.made ino → open_kind s ino ≡ None
none_open s fs ino shows none =
    let b = fs.parcel in
    let missing = made_shown s fs ino None shows (made_missing b fs.made ino none.made) in
    let written : written_file s ino ≡ None =
    ap (λ (x : Parcel). option_map (λ (f : LentFile). f.stands) (find (λ (f : LentFile). eqb f.stands.ino ino) x.writes)) shows.parcel
    ∙ ap (option_map (λ (f : LentFile). f.stands)) (find-none (λ (f : LentFile). eqb f.stands.ino ino) b.writes none.written) in
    ap (λ o. option_or (option_map (λ (x : MadeFile). x.kind) o) (option_map (λ (f : Shown). f.kind) (written_file s ino))) missing ∙ ap (option_map (λ (f : Shown). f.kind)) written

pub finds_file : (s : SessionSeen) (fs : Files) (ino : ℕ) (o : Option (FilePlace × Laid)) → Shows s fs → AreLaid fs.parcel fs.laid → AreApart fs.parcel
    → ((m : Made) → In m fs.made → IsMade fs m) → Finds fs.parcel fs.laid fs.made ino o → FindsFile s ino o
finds_file s fs ino None shows are apart made finds = none_open s fs ino shows finds
finds_file s fs ino (Some o) shows are apart made finds = file_on s fs ino o.0 o.1 shows are apart made finds

-- ---- kinds and numbers

pub open_made : (s : SessionSeen) (fs : Files) (ino at : ℕ) (m : Made) → Shows s fs → position (λ x. eqb x.ino ino) fs.made ≡ Some at → slice_get fs.made at ≡ Some m
    → open_kind s ino ≡ Some m.kind
open_made s fs ino at m shows e there =
    ap (λ o. option_or (option_map (λ (x : MadeFile). x.kind) o) (option_map (λ (f : Shown). f.kind) (written_file s ino)))
    (made_shown s fs ino (Some (made_seen fs.parcel m)) shows (made_there fs.parcel fs.made ino at m e there))

pub open_rest : (s : SessionSeen) (fs : Files) (ino : ℕ) (o : Option LentFile) → Shows s fs → position (λ x. eqb x.ino ino) fs.made ≡ None
    → find (λ f. eqb f.stands.ino ino) fs.parcel.writes ≡ o → open_kind s ino ≡ option_map (λ f. f.stands.kind) o
open_rest s fs ino o shows none e =
    ap (λ o. option_or (option_map (λ (x : MadeFile). x.kind) o) (option_map (λ (f : Shown). f.kind) (written_file s ino)))
    (made_shown s fs ino None shows (made_missing fs.parcel fs.made ino none))
    ∙ ap (λ (b : Parcel). option_map (λ (f : Shown). f.kind) (option_map (λ (f : LentFile). f.stands) (find (λ (f : LentFile). eqb f.stands.ino ino) b.writes))) shows.parcel
    ∙ ap (λ p. option_map (λ (f : Shown). f.kind) (option_map (λ (f : LentFile). f.stands) p)) e ∙ by o
  where
    by : (o : Option LentFile) → option_map (λ (f : Shown). f.kind) (option_map (λ (f : LentFile). f.stands) o) ≡ option_map (λ (f : LentFile). f.stands.kind) o
    by None = refl
    by (Some f) = refl

-- the numbers of files that were made
pub seen_numbers : (b : Parcel) (ms : List Made) → map (λ m. m.ino) (map (made_seen b) ms) ≡ map (λ m. m.ino) ms
seen_numbers b [] = refl
seen_numbers b (m ∷ ms) = ap (λ ns. m.ino ∷ ns) (seen_numbers b ms)

pub used_shown : (s : SessionSeen) (fs : Files) → Shows s fs → used_numbers s ≡ map (λ m. m.ino) fs.made ++ map (λ m. m.ino) fs.cleared
used_shown s fs shows =
    ap (λ ms. map (λ (m : MadeFile). m.ino) (ms ++ s.cleared)) shows.made
    ∙ ap (λ cs. map (λ (m : MadeFile). m.ino) (map (made_seen fs.parcel) fs.made ++ cs)) shows.cleared
    ∙ map-append (λ (m : MadeFile). m.ino) (map (made_seen fs.parcel) fs.made) (map (made_seen fs.parcel) fs.cleared)
    ∙ ap (λ ns. ns ++ map (λ (m : MadeFile). m.ino) (map (made_seen fs.parcel) fs.cleared)) (seen_numbers fs.parcel fs.made)
    ∙ ap (λ ns. map (λ (m : Made). m.ino) fs.made ++ ns) (seen_numbers fs.parcel fs.cleared)

pub used-made : (s : SessionSeen) (fs : Files) (n : ℕ) → Shows s fs → is_some (position (λ m. eqb m.ino n) fs.made) ≡ true → is_among n (used_numbers s) ≡ true
used-made s fs n shows e =
    ap (is_among n) (used_shown s fs shows)
    ∙ In-is_among n (map (λ (m : Made). m.ino) fs.made ++ map (λ (m : Made). m.ino) fs.cleared) (In-left n (map (λ (m : Made). m.ino) fs.made) (map (λ (m : Made). m.ino) fs.cleared)
    (is_among-In n (map (λ (m : Made). m.ino) fs.made) (sym (is_some-position (λ (m : Made). m.ino) fs.made n) ∙ e)))

pub used-cleared : (s : SessionSeen) (fs : Files) (n : ℕ) → Shows s fs → is_some (position (λ m. eqb m.ino n) fs.cleared) ≡ true → is_among n (used_numbers s) ≡ true
used-cleared s fs n shows e =
    ap (is_among n) (used_shown s fs shows)
    ∙ In-is_among n (map (λ (m : Made). m.ino) fs.made ++ map (λ (m : Made). m.ino) fs.cleared) (In-right n (map (λ (m : Made). m.ino) fs.made) (map (λ (m : Made). m.ino) fs.cleared)
    (is_among-In n (map (λ (m : Made). m.ino) fs.cleared) (sym (is_some-position (λ (m : Made). m.ino) fs.cleared n) ∙ e)))

pub used-rest : (s : SessionSeen) (fs : Files) (n : ℕ) → Shows s fs → is_some (position (λ m. eqb m.ino n) fs.made) ≡ false
    → is_among n (used_numbers s) ≡ is_some (position (λ m. eqb m.ino n) fs.cleared)
used-rest s fs n shows e =
    ap (is_among n) (used_shown s fs shows) ∙ skip (map (λ (m : Made). m.ino) fs.made) (map (λ (m : Made). m.ino) fs.cleared) (sym (is_some-position (λ (m : Made). m.ino) fs.made n) ∙ e)
    ∙ sym (is_some-position (λ (m : Made). m.ino) fs.cleared n)
  where
    skip : (xs ys : List ℕ) → is_among n xs ≡ false → is_among n (xs ++ ys) ≡ is_among n ys
    skip xs ys out = elim (cases_Bool (is_among n ys)) [
      | inl t ↦ In-is_among n (xs ++ ys) (In-right n xs ys (is_among-In n ys t)) ∙ sym t
      | inr f ↦ is_among-not n (xs ++ ys) (λ i. elim (In-cases n xs ys i) [
        | inl j ↦ false≢true (sym out ∙ In-is_among n xs j)
        | inr j ↦ false≢true (sym f ∙ In-is_among n ys j)
      ]) ∙ sym f
    ]

-- ---- children

pub children_made : (s : SessionSeen) (fs : Files) (ino at : ℕ) (m : Made) → Shows s fs → position (λ x. eqb x.ino ino) fs.made ≡ Some at → slice_get fs.made at ≡ Some m
    → children_shown s ino ≡ Some (if is_directory m.kind then entry_count (slots_shown s m.ino) else 0)
children_made s fs ino at m shows e there =
    ap (λ o. option_or (option_map (made_children s) o) (option_map (λ (h : HoldParts). h.children) (held_file s ino)))
    (made_shown s fs ino (Some (made_seen fs.parcel m)) shows (made_there fs.parcel fs.made ino at m e there))

pub children_held : (s : SessionSeen) (fs : Files) (ino : ℕ) → Shows s fs → position (λ x. eqb x.ino ino) fs.made ≡ None
    → children_shown s ino ≡ option_map (λ h. h.children) (find (λ h. eqb h.ino ino) fs.parcel.holds)
children_held s fs ino shows none =
    ap (λ o. option_or (option_map (made_children s) o) (option_map (λ (h : HoldParts). h.children) (held_file s ino))) (made_shown s fs ino None shows (made_missing fs.parcel fs.made ino none))
    ∙ ap (λ (b : Parcel). option_map (λ (h : HoldParts). h.children) (find (λ (h : HoldParts). eqb h.ino ino) b.holds)) shows.parcel

-- ---- needs

-- what was copied is there exactly where it was
pub is_some-copied : {X : Type 0} (o : Option (Bor X)) → is_some o ≡ is_some (option_copied o)
is_some-copied None = refl
is_some-copied (Some x) = refl

pub serves_made : (s : SessionSeen) (fs : Files) (ino : ℕ) → Shows s fs → is_some (position (λ m. eqb m.ino ino) fs.made) ≡ true → serves s ino ToHold ≡ true
serves_made s fs ino shows e = by (position (λ (m : Made). eqb m.ino ino) fs.made) refl e
  where
    by : (o : Option ℕ) → position (λ (m : Made). eqb m.ino ino) fs.made ≡ o → is_some o ≡ true → serves s ino ToHold ≡ true
    by None k e = absurd (let t : false ≡ true = e in cc t)
    by (Some at) k e =
        let m = position-at (λ (m : Made). eqb m.ino ino) fs.made at k in
        ap (λ o. is_some o || is_some (held_file s ino)) (made_shown s fs ino (Some (made_seen fs.parcel m.0)) shows (made_there fs.parcel fs.made ino at m.0 k m.1.0))

pub serves_held : (s : SessionSeen) (fs : Files) (ino : ℕ) → Shows s fs → is_some (position (λ m. eqb m.ino ino) fs.made) ≡ false
    → serves s ino ToHold ≡ is_some (find (λ h. eqb h.ino ino) fs.parcel.holds)
serves_held s fs ino shows e = by (position (λ (m : Made). eqb m.ino ino) fs.made) refl e
  where
    by : (o : Option ℕ) → position (λ (m : Made). eqb m.ino ino) fs.made ≡ o → is_some o ≡ false → serves s ino ToHold ≡ is_some (find (λ h. eqb h.ino ino) fs.parcel.holds)
    by (Some at) k e = absurd (let t : true ≡ false = e in cc t)
    by None k e =
        ap (λ o. is_some o || is_some (held_file s ino)) (made_shown s fs ino None shows (made_missing fs.parcel fs.made ino k))
        ∙ ap (λ (b : Parcel). is_some (find (λ (h : HoldParts). eqb h.ino ino) b.holds)) shows.parcel
