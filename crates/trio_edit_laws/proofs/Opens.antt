-- Files that are open: where each stands among those that a session writes or made, and what stays of the others where one has another chain.
use Rattle.trio_edit_laws.proofs.Words.{if◌then◌else◌, ◌++◌, ◌+◌, ◌-◌, ◌<◌, ◌∙◌, ◌≡◌, ◌⊎◌, Bool, Chain, In, In-flat, Kind, LentFile, List, MadeFile, None, Option, SessionSeen, Shown, Some, [], ap, are_new, arith, cases_eq, chain_in, chained, eqb, eqb-true, false, file_numbers, find, find-In, find-position, find_map, if_other, if_same, inl, inr, is_some, left_at, length, length-map, made_chained, made_file, map, map-map, map_alike, no_chain, once_at, one_keyed, open_kind, option_map, option_map_or, place_in, position, position-some, refl, right_at, slice_get, slice_get-In, slice_get-get_or, slice_get-map, slice_get_within, slice_index_or, slice_set, some_of, some_one, subst, sym, true, with_chain, written_file, ℕ}
use Rattle.std.proofs.lemmas.List.{length-set, map-set, set-append_left, set-append_right}
use Rattle.trio_lease.proofs.Places.{set_same}
use Rattle.trio_session.proofs.Lists.{In-slice_get, set_map}
use Rattle.trio_edit_laws.proofs.Chained.{place_new, places_apart}
use Rattle.trio_edit_laws.proofs.session.EditedWalk.{find-same}
use Rattle.trio_edit_laws.proofs.session.JudgedReads.{map-fixed}

-- the pages of a chain
abbrev pub pages_of_chain : Chain → List ℕ
pages_of_chain c = c.index ++ c.blocks

-- the chains of the files that are open, and their numbers beside them
abbrev pub open_chains : SessionSeen → List Chain
open_chains s = s.chains ++ map (λ m. m.chain) s.made

abbrev pub open_numbers : SessionSeen → List ℕ
open_numbers s = file_numbers s.parcel.writes ++ map (λ m. m.ino) s.made

abbrev pub has_number : ℕ → LentFile → Bool
has_number ino f = eqb f.stands.ino ino

abbrev made_number : ℕ → MadeFile → Bool
made_number ino m = eqb m.ino ino

-- ---- a file that is open

-- it stands at a place among the written files
pub record OpenWritten (s : SessionSeen) (ino : ℕ) (kind : Kind) : Type 0 where
  pub none : made_file s ino ≡ None
  pub place : ℕ
  pub file : LentFile
  pub at : place_in s ino ≡ Some place
  pub there : slice_get s.parcel.writes place ≡ Some file
  pub number : file.stands.ino ≡ ino
  pub kind_is : file.stands.kind ≡ kind
  pub found : find (has_number ino) s.parcel.writes ≡ Some file
  pub shown : written_file s ino ≡ Some file.stands

-- or it was made
pub record OpenMade (s : SessionSeen) (ino : ℕ) (kind : Kind) : Type 0 where
  pub file : MadeFile
  pub found : made_file s ino ≡ Some file
  pub among : In file s.made
  pub number : file.ino ≡ ino
  pub kind_is : file.kind ≡ kind

written_found : (s : SessionSeen) (ino : ℕ) (kind : Kind) → made_file s ino ≡ None → option_map (λ (f : Shown). f.kind) (written_file s ino) ≡ Some kind → OpenWritten s ino kind
written_found s ino kind none e = by (find (has_number ino) s.parcel.writes) refl e
  where
    at : (f : LentFile) → find (has_number ino) s.parcel.writes ≡ Some f → f.stands.kind ≡ kind → OpenWritten s ino kind
    at f found is =
        let p = some_of (position (has_number ino) s.parcel.writes) (position-some (has_number ino) (λ (x : LentFile). x) s.parcel.writes f (ap (option_map (λ (x : LentFile). x)) found)) in
        record {
          none = none;
          place = p.0;
          file = f;
          at = p.1;
          there = sym (find-position (has_number ino) s.parcel.writes p.0 p.1).0 ∙ found;
          number = eqb-true f.stands.ino ino (find-In (has_number ino) s.parcel.writes f found).1;
          kind_is = is;
          found = found;
          shown = ap (option_map (λ (x : LentFile). x.stands)) found;
        }

    by : (o : Option LentFile) → find (has_number ino) s.parcel.writes ≡ o → option_map (λ (f : Shown). f.kind) (option_map (λ (f : LentFile). f.stands) o) ≡ Some kind → OpenWritten s ino kind
    by None found e = absurd (let t : None ≡ Some kind = e in cc t)
    by (Some f) found e = at f found (let t : Some f.stands.kind ≡ Some kind = e in cc t)

made_found : (s : SessionSeen) (ino : ℕ) (kind : Kind) (m : MadeFile) → made_file s ino ≡ Some m → m.kind ≡ kind → OpenMade s ino kind
made_found s ino kind m found is =
    let f = find-In (made_number ino) s.made m found in
    record { file = m; found = found; among = f.0; number = eqb-true m.ino ino f.1; kind_is = is }

pub opened : (s : SessionSeen) (ino : ℕ) (kind : Kind) → open_kind s ino ≡ Some kind → OpenWritten s ino kind ⊎ OpenMade s ino kind
opened s ino kind e = search (arith, OpenWritten, OpenMade, written_found, made_found)

-- ---- another chain of a file that was made

abbrev rechained : ℕ → Chain → SessionSeen → Bool → SessionSeen
rechained ino chain s t =
    if t then record s { made = map (made_chained ino chain) s.made }
    else record s { chains = option_map_or (λ i. slice_set s.chains i chain) (place_in s ino) s.chains }

pub with_chain-made : (s : SessionSeen) (ino : ℕ) (chain : Chain) (m : MadeFile) → made_file s ino ≡ Some m → with_chain ino chain s ≡ record s { made = map (made_chained ino chain) s.made }
with_chain-made s ino chain m found = ap (λ o. rechained ino chain s (is_some o)) found

pub with_chain-written : (s : SessionSeen) (ino : ℕ) (chain : Chain) (place : ℕ) → made_file s ino ≡ None → place_in s ino ≡ Some place → with_chain ino chain s ≡ record s { chains = slice_set s.chains place chain }
with_chain-written s ino chain place none at = search arith

chained-ino : (ino : ℕ) (chain : Chain) (m : MadeFile) → (made_chained ino chain m).ino ≡ m.ino
chained-ino ino chain m = elim (eqb m.ino ino) as (λ v. (if v then record m { chain = chain } else m).ino ≡ m.ino) [ true ↦ refl | false ↦ refl ]

find-chained : (ino : ℕ) (chain : Chain) (n : ℕ) (ms : List MadeFile) → find (made_number n) (map (made_chained ino chain) ms) ≡ option_map (made_chained ino chain) (find (made_number n) ms)
find-chained ino chain n ms = search (arith, find_map, find-same, chained-ino)

-- every other file that was made is as it was
pub made_file-other : (s : SessionSeen) (ino n : ℕ) (chain : Chain) → (n ≡ ino → ⊥) → made_file (with_chain ino chain s) n ≡ made_file s n
made_file-other s ino n chain d = by (made_file s ino) refl
  where
    same : (o : Option MadeFile) → find (made_number n) s.made ≡ o → option_map (made_chained ino chain) o ≡ o
    same None e = refl
    same (Some m) e =
        let number : m.ino ≡ n = eqb-true m.ino n (find-In (made_number n) s.made m e).1 in
        ap Some (if_other m.ino ino (record m { chain = chain }) m (λ k. d (sym number ∙ k)))

    by : (o : Option MadeFile) → made_file s ino ≡ o → made_file (with_chain ino chain s) n ≡ made_file s n
    by None none = ap (λ v. made_file (rechained ino chain s (is_some v)) n) none
    by (Some m) found =
        ap (λ x. made_file x n) (with_chain-made s ino chain m found) ∙ find-chained ino chain n s.made ∙ same (find (made_number n) s.made) refl

-- and it has the chain
pub made_file-here : (s : SessionSeen) (ino : ℕ) (chain : Chain) (m : MadeFile) → made_file s ino ≡ Some m → made_file (with_chain ino chain s) ino ≡ Some (record m { chain = chain })
made_file-here s ino chain m found =
    let number : m.ino ≡ ino = eqb-true m.ino ino (find-In (made_number ino) s.made m found).1 in
    ap (λ x. made_file x ino) (with_chain-made s ino chain m found) ∙ find-chained ino chain ino s.made ∙ ap (option_map (made_chained ino chain)) found
    ∙ ap Some (if_same m.ino ino (record m { chain = chain }) m number)

-- a written file's chain is none of theirs
pub made-written : (s : SessionSeen) (ino : ℕ) (chain : Chain) → made_file s ino ≡ None → (with_chain ino chain s).made ≡ s.made
made-written s ino chain none = ap (λ v. (rechained ino chain s (is_some v)).made) none

pub chains-written : (s : SessionSeen) (ino : ℕ) (chain : Chain) → made_file s ino ≡ None → (with_chain ino chain s).chains ≡ option_map_or (λ i. slice_set s.chains i chain) (place_in s ino) s.chains
chains-written s ino chain none = ap (λ v. (rechained ino chain s (is_some v)).chains) none

pub chains-made : (s : SessionSeen) (ino : ℕ) (chain : Chain) (m : MadeFile) → made_file s ino ≡ Some m → (with_chain ino chain s).chains ≡ s.chains
chains-made s ino chain m found = ap (λ v. (rechained ino chain s (is_some v)).chains) found

-- all else of the session stays
with_chain-keeps : {X : Type 0} (f : SessionSeen → X) (s : SessionSeen) (ino : ℕ) (chain : Chain) → ((ms : List MadeFile) → f (record s { made = ms }) ≡ f s) → ((cs : List Chain) → f (record s { chains = cs }) ≡ f s)
    → f (with_chain ino chain s) ≡ f s
with_chain-keeps {X} f s ino chain made chains = search arith

-- the session as an edit of one file leaves it, but for its chain
pub record StaysBeside (s s' : SessionSeen) : Type 0 where
  pub lib : s'.lib ≡ s.lib
  pub creds : s'.creds ≡ s.creds
  pub reads : s'.reads ≡ s.reads
  pub cleared : s'.cleared ≡ s.cleared
  pub indexed : s'.indexed ≡ s.indexed
  pub placed : s'.placed ≡ s.placed

pub with_chain-beside : (s : SessionSeen) (ino : ℕ) (chain : Chain) → StaysBeside s (with_chain ino chain s)
with_chain-beside s ino chain = search (arith, with_chain-keeps)

-- as many chains stand beside the written files
pub length-with_chain : (s : SessionSeen) (ino : ℕ) (chain : Chain) → length (with_chain ino chain s).chains ≡ length s.chains
length-with_chain s ino chain = search (arith, length-set, chains-made, chains-written)

-- the numbers of those that were made stay
pub made_numbers-with_chain : (s : SessionSeen) (ino : ℕ) (chain : Chain) → map (λ (m : MadeFile). m.ino) (with_chain ino chain s).made ≡ map (λ (m : MadeFile). m.ino) s.made
made_numbers-with_chain s ino chain = search (arith, made-written, with_chain-made, map-map, map_alike, chained-ino)

-- ---- the place of an open file among the chains

-- its number and its chain stand there, and another chain takes the place
pub record OpenPlace (s : SessionSeen) (ino' : ℕ) : Type 0 where
  pub place : ℕ
  pub number : slice_get (open_numbers s) place ≡ Some ino'
  pub chain : slice_get (open_chains s) place ≡ Some (chain_in s ino')
  pub now : (other : Chain) → open_chains (with_chain ino' other s) ≡ slice_set (open_chains s) place other

pub chain-written : (s : SessionSeen) (ino place : ℕ) → made_file s ino ≡ None → place_in s ino ≡ Some place → chain_in s ino ≡ slice_index_or s.chains place no_chain
chain-written s ino place none at = search arith

pub chain-made : (s : SessionSeen) (ino : ℕ) (m : MadeFile) → made_file s ino ≡ Some m → chain_in s ino ≡ m.chain
chain-made s ino m found = ap (λ o. option_map_or (λ (m : MadeFile). m.chain) o (option_map_or (λ i. slice_index_or s.chains i no_chain) (place_in s ino) no_chain)) found

written_place : (s : SessionSeen) (ino : ℕ) (kind : Kind) → length s.chains ≡ length s.parcel.writes → OpenWritten s ino kind → OpenPlace s ino
written_place s ino kind beside w =
    let lt : w.place < length s.chains = (let l = slice_get_within s.parcel.writes w.place w.file w.there in omega (arith, l, beside)) in
    record {
      place = w.place;
      number =
          left_at (file_numbers s.parcel.writes) (map (λ (m : MadeFile). m.ino) s.made) w.place ino
          (slice_get-map (λ (f : LentFile). f.stands.ino) s.parcel.writes w.place ∙ ap (option_map (λ (f : LentFile). f.stands.ino)) w.there ∙ ap Some w.number);
      chain = search (arith, left_at, slice_get-get_or, chain-written);
      now = λ other. ap open_chains (with_chain-written s ino other w.place w.none w.at) ∙ sym (set-append_left s.chains (map (λ (m : MadeFile). m.chain) s.made) w.place other lt);
    }

made_place_in : (s : SessionSeen) (ino : ℕ) (kind : Kind) → length s.chains ≡ length s.parcel.writes → are_new [] (map (λ (m : MadeFile). m.ino) s.made) ≡ true → OpenMade s ino kind → OpenPlace s ino
made_place_in s ino kind beside once w =
    let i = In-slice_get w.file s.made w.among in
    let ms : List Chain = map (λ (m : MadeFile). m.chain) s.made in
    let front : length s.chains ≡ length (file_numbers s.parcel.writes) = beside ∙ sym (length-map s.parcel.writes (λ (f : LentFile). f.stands.ino)) in
    let place : ℕ = length s.chains + i.0 in
    let back : place ≡ length s.chains + i.0 = refl in
    let left : (length s.chains + i.0) + 0 ≡ length s.chains + i.0 = omega arith in
    record {
      place = length s.chains + i.0;
      number =
          subst (λ n. slice_get (open_numbers s) (n + i.0) ≡ Some ino) (sym front)
          (right_at (file_numbers s.parcel.writes) (map (λ (m : MadeFile). m.ino) s.made) i.0 ino
          (slice_get-map (λ (m : MadeFile). m.ino) s.made i.0 ∙ ap (option_map (λ (m : MadeFile). m.ino)) i.1 ∙ ap Some w.number));
      chain =
          right_at s.chains ms i.0 (chain_in s ino)
          (slice_get-map (λ (m : MadeFile). m.chain) s.made i.0 ∙ ap (option_map (λ (m : MadeFile). m.chain)) i.1 ∙ ap Some (sym (chain-made s ino w.file w.found)));
      now = λ other. ap open_chains (with_chain-made s ino other w.file w.found) ∙ ap (λ l. s.chains ++ l) (mapped other i.0 i.1) ∙ seam other i.0;
    }
  where
    number_at : (other : Chain) (i j : ℕ) (y : MadeFile) → slice_get s.made i ≡ Some w.file → slice_get s.made j ≡ Some y → (j ≡ i → ⊥) → made_chained ino other y ≡ y
    number_at other i j y at e d =
        if_other y.ino ino (record y { chain = other }) y (λ k. d (once_at (λ (m : MadeFile). m.ino) s.made j i y w.file once e at (k ∙ sym w.number)))

    mapped : (other : Chain) (i : ℕ) → slice_get s.made i ≡ Some w.file → map (λ (m : MadeFile). m.chain) (map (made_chained ino other) s.made) ≡ slice_set (map (λ (m : MadeFile). m.chain) s.made) i other
    mapped other i at =
        ap (map (λ (m : MadeFile). m.chain)) (sym (set_map (made_chained ino other) s.made i w.file at (λ j y e d. number_at other i j y at e d)))
        ∙ map-set (λ (m : MadeFile). m.chain) s.made i (made_chained ino other w.file)
        ∙ ap (λ (m : MadeFile). slice_set (map (λ (m : MadeFile). m.chain) s.made) i m.chain) (if_same w.file.ino ino (record w.file { chain = other }) w.file w.number)

    seam : (other : Chain) (i : ℕ) → s.chains ++ slice_set (map (λ (m : MadeFile). m.chain) s.made) i other ≡ slice_set (s.chains ++ map (λ (m : MadeFile). m.chain) s.made) (length s.chains + i) other
    seam other i =
        let n : (length s.chains + i) - length s.chains ≡ i = omega arith in
        ap (λ k. s.chains ++ slice_set (map (λ (m : MadeFile). m.chain) s.made) k other) (sym n)
        ∙ sym (set-append_right s.chains (map (λ (m : MadeFile). m.chain) s.made) (length s.chains) (length s.chains + i) other refl (omega arith))

pub open_place : (s : SessionSeen) (ino : ℕ) (kind : Kind) → length s.chains ≡ length s.parcel.writes → are_new [] (map (λ (m : MadeFile). m.ino) s.made) ≡ true → open_kind s ino ≡ Some kind → OpenPlace s ino
open_place s ino kind beside once e = elim (opened s ino kind e) [ inl w ↦ written_place s ino kind beside w | inr m ↦ made_place_in s ino kind beside once m ]

-- the pages of its chain are among those of all, and differ
pub open_chained : (s : SessionSeen) (ino n : ℕ) → OpenPlace s ino → In n (pages_of_chain (chain_in s ino)) → In n (chained s)
open_chained s ino n p i = In-flat pages_of_chain (chain_in s ino) n (open_chains s) (slice_get-In (open_chains s) p.place (chain_in s ino) p.chain) i

pub open_once : (s : SessionSeen) (ino : ℕ) → are_new [] (chained s) ≡ true → OpenPlace s ino → are_new [] (pages_of_chain (chain_in s ino)) ≡ true
open_once s ino once p = place_new pages_of_chain (open_chains s) p.place (chain_in s ino) once p.chain

-- different files stand at different places
pub places_differ : (s : SessionSeen) (a b : ℕ) → (p : OpenPlace s a) → (q : OpenPlace s b) → (a ≡ b → ⊥) → p.place ≡ q.place → ⊥
places_differ s a b p q d e = d (some_one (slice_get (open_numbers s) q.place) a b (ap (slice_get (open_numbers s)) (sym e) ∙ p.number) q.number)

-- so their chains have no page in common
pub open_apart : (s : SessionSeen) (a b n : ℕ) → are_new [] (chained s) ≡ true → OpenPlace s a → OpenPlace s b → (a ≡ b → ⊥) → In n (pages_of_chain (chain_in s a)) → In n (pages_of_chain (chain_in s b)) → ⊥
open_apart s a b n once p q d i j =
    places_apart pages_of_chain (open_chains s) p.place q.place (chain_in s a) (chain_in s b) n once p.chain q.chain (places_differ s a b p q d) i j

-- a file that gets the chain that it has changes none
pub with_chain-same : (s : SessionSeen) (ino : ℕ) (kind : Kind) → length s.chains ≡ length s.parcel.writes → are_new [] (map (λ (m : MadeFile). m.ino) s.made) ≡ true → open_kind s ino ≡ Some kind
    → ((with_chain ino (chain_in s ino) s).chains ≡ s.chains) × ((with_chain ino (chain_in s ino) s).made ≡ s.made)
with_chain-same s ino kind beside once e =
    elim (opened s ino kind e) [
      | inl w ↦ search (arith, slice_get_within, with_chain-written, set_same, slice_get-get_or, chain-written, made-written)
      | inr w ↦ (
        chains-made s ino (chain_in s ino) w.file w.found,
        ap (λ (x : SessionSeen). x.made) (with_chain-made s ino (chain_in s ino) w.file w.found) ∙ map-fixed (made_chained ino (chain_in s ino)) s.made (λ y i. fixed w y i),
      )
    ]
  where
    fixed : OpenMade s ino kind → (y : MadeFile) → In y s.made → made_chained ino (chain_in s ino) y ≡ y
    fixed w y i = search (arith, cases_eq, if_other, one_keyed, if_same, chain-made)
