-- The file that an edit of a session finds, and what the session shows after it.
use Rattle.trio_session.proofs.Words.{◌-◌, ◌<◌, ◌∙◌, ◌∷◌, ◌≡◌, ◌≤◌, AmongMade, AmongWritten, Bor, Chain, FilePlace, Files, Finds, FoundAt, FreshParts, HasChain, In-left, Inside, IsFile, IsFileOn, IsOne, IsThere, Kind, Laid, LentFile, List, Made, MadeFile, MayGrow, MayGrowAt, None, OneFile, Option, Parcel, SessionSeen, Some, Vec, WasMade, Written, [], ap, arith, block_count, body_at, body_in, chain_at, chain_in, chains_laid, drop, eqb, eqb-true, false, file_of, find, get_or_from_slice_get, growth, home_at, home_in, inl, inr, is_some, length, length-map, made_place, made_room, made_seen, map, min, number_at, of_made, of_written, open_kind, option_map, option_map_or, page_numbers, place_in, position, refl, room_in, room_laid, size_in, slice_get-map, slice_index_or, spare_pages, subst, sym, true, vec_capacity, ℕ, is_directory, Regular}
use Rattle.trio_session.proofs.Grows.{within_spare}
use Rattle.trio_session.specs.contracts.session.Session.{the_invariant, the_view}
use Rattle.trio_session.proofs.Insides.{files_in, view_shows}
use Rattle.trio_session.proofs.Found.{find-position, position-at, position-map, position-passes}
use Rattle.trio_session.proofs.Lists.{slice_get-In}
use Rattle.trio_session.proofs.Places.{number_at-map}
use Rattle.trio_session.proofs.Seeing.{Shows, file_on, none_open, open_made, open_rest}
use Rattle.trio_session.proofs.Sessions.{chains_left}
use Rattle.trio_session.proofs.Stays.{LeavesFiles, chain_left}

-- ---- what is open and no directory

pub plain_kind : (o : Option Kind) (k : Kind) → option_map is_directory o ≡ Some false → o ≡ Some k → is_directory k ≡ false
plain_kind o k plain is = (let t : Some (is_directory k) ≡ Some false = sym (ap (option_map is_directory) is) ∙ plain in cc t)

pub plain_some : (o : Option Kind) → option_map is_directory o ≡ Some false → is_some o ≡ true
plain_some None plain = absurd (let t : None ≡ Some false = plain in cc t)
plain_some (Some k) plain = refl

-- a regular file is such
pub file_plain : (o : Option Kind) → o ≡ Some Regular → option_map is_directory o ≡ Some false
file_plain o is = ap (option_map is_directory) is

-- ---- what is found

-- a file of the session, at its place
pub record IsFound (s : SessionSeen) (fs : Files) (number : ℕ) (file : FilePlace) (l : Laid) : Type 0 where
  pub one : OneFile
  pub is : IsOne fs one
  pub ino : one.ino ≡ number
  pub place : one.file ≡ file
  pub laid : one.laid ≡ l
  pub kind : open_kind s number ≡ Some one.kind

pub found_one : (s : SessionSeen) (fs : Files) (ino : ℕ) (file : FilePlace) (l : Laid) → Shows s fs → FoundAt fs.parcel fs.laid fs.made ino file l → IsFound s fs ino file l
found_one s fs ino file l shows found = elim found [
  | AmongMade at m e there ef el ↦ record {
    one = of_made m;
    is = WasMade m (In-left m fs.made fs.cleared (slice_get-In fs.made at m there)) refl;
    ino = eqb-true m.ino ino (position-passes (λ (x : Made). eqb x.ino ino) fs.made at m e there);
    place = sym ef;
    laid = sym el;
    kind = open_made s fs ino at m shows e there;
  }
  | AmongWritten at none e el ef ↦
      let f = position-at (λ (f : LentFile). eqb f.stands.ino ino) fs.parcel.writes at e in
      record {
        one = of_written at f.0 l;
        is = Written at f.0 l f.1.0 el refl;
        ino = eqb-true f.0.stands.ino ino f.1.2;
        place = sym ef;
        laid = refl;
        kind = open_rest s fs ino (Some f.0) shows none ((find-position (λ (f : LentFile). eqb f.stands.ino ino) fs.parcel.writes at e).0 ∙ f.1.0);
      }
]

-- what a look among the files gave
pub found_at : (b : Parcel) (ls : List Laid) (ms : List Made) (ino : ℕ) (o : Option (FilePlace × Bor Laid)) (r : FilePlace × Bor Laid)
    → Finds b ls ms ino (option_map (λ o. (o.0, o.1.now)) o) → o ≡ Some r → FoundAt b ls ms ino r.0 r.1.now
found_at b ls ms ino o r finds e = subst (λ q. Finds b ls ms ino (option_map (λ o. (o.0, o.1.now)) q)) e finds

pub finds_some : (s : SessionSeen) (fs : Files) (ino : ℕ) (o : Option (FilePlace × Bor Laid)) → Shows s fs → Finds fs.parcel fs.laid fs.made ino (option_map (λ o. (o.0, o.1.now)) o)
    → is_some (open_kind s ino) ≡ true → is_some o ≡ true
finds_some s fs ino None shows finds e = absurd (let t : false ≡ true = sym (ap is_some (none_open s fs ino shows finds)) ∙ e in cc t)
finds_some s fs ino (Some r) shows finds e = refl

-- a file that is shown is there
pub is_there : (s : SessionSeen) (fs : Files) (ino : ℕ) → Shows s fs → is_some (open_kind s ino) ≡ true → IsThere fs.parcel fs.made ino
is_there s fs ino shows e = by (position (λ (m : Made). eqb m.ino ino) fs.made) (position (λ (f : LentFile). eqb f.stands.ino ino) fs.parcel.writes) refl refl
  where
    by : (o p : Option ℕ) → position (λ (m : Made). eqb m.ino ino) fs.made ≡ o → position (λ (f : LentFile). eqb f.stands.ino ino) fs.parcel.writes ≡ p → IsThere fs.parcel fs.made ino
    by (Some i) p k j = inl (ap is_some k)
    by None (Some i) k j = inr (ap is_some j)
    by None None k j = absurd (let t : false ≡ true = sym (ap is_some (none_open s fs ino shows (record { made = k; written = j }))) ∙ e in cc t)

-- ---- what is shown after a step

seen : Made → ℕ → Chain → MadeFile
seen m page chain = record { ino = m.ino; kind = m.kind; page = page; slot = m.slot; chain = chain }

pub made_seen-left : (b b' : Parcel) (m : Made) → LeavesFiles b b' → made_seen b' m ≡ made_seen b m
unfolding seen
made_seen-left b b' m leaves =
    ap (λ n. seen m n (chain_at b' (file_of m) m.laid)) (number_at-map b b' m.page (leaves.numbers m.page))
    ∙ ap (seen m (number_at b m.page)) (chain_left b b' (file_of m) m.laid leaves)

pub made_left : (b b' : Parcel) (ms : List Made) → LeavesFiles b b' → map (made_seen b') ms ≡ map (made_seen b) ms
made_left b b' [] leaves = refl
made_left b b' (m ∷ ms) leaves = ap (λ x. x ∷ map (made_seen b') ms) (made_seen-left b b' m leaves) ∙ ap (λ xs. made_seen b m ∷ xs) (made_left b b' ms leaves)

-- as many allotted pages
pub pages_left : (b b' : Parcel) → LeavesFiles b b' → length b'.pages ≡ length b.pages
pages_left b b' leaves =
    sym (length-map b'.pages (λ (p : FreshParts). p.no.0)) ∙ ap (λ (ns : List ℕ). length ns) leaves.pages ∙ length-map b.pages (λ (p : FreshParts). p.no.0)

-- the same but for bytes of the pages
pub view_left : (s : Inside) (b' : Parcel) → LeavesFiles s.stock b' → the_view (record s { stock = b' }) ≡ record (the_view s) { parcel = b' }
view_left s b' leaves =
    let v : List Chain → List MadeFile → List MadeFile → SessionSeen = λ cs ms ks. record (the_view s) { parcel = b'; chains = cs; made = ms; cleared = ks } in
    ap (λ cs. v cs (map (made_seen b') s.made.items) (map (made_seen b') s.cleared.items)) (chains_left s.stock b' s.stock.writes b'.writes s.laid.items leaves leaves.files)
    ∙ ap (λ ms. v (chains_laid s.stock.writes s.stock.pages s.laid.items) ms (map (made_seen b') s.cleared.items)) (made_left s.stock b' s.made.items leaves)
    ∙ ap (v (chains_laid s.stock.writes s.stock.pages s.laid.items) (map (made_seen s.stock) s.made.items)) (made_left s.stock b' s.cleared.items leaves)

-- ---- what a method finds

-- a file of a session, inside and as it is shown
pub record HasFile (v : SessionSeen) (s : Inside) (ino : ℕ) (file : FilePlace) (l : Laid) : Type 0 where
  pub is : IsFile s.stock file l
  pub has : HasChain s.stock file l
  pub chain : chain_at s.stock file l ≡ chain_in v ino
  pub body : body_at s.stock file ≡ body_in v ino
  pub home : home_at s.stock file ≡ home_in v ino
  pub found : IsFound v (files_in s) ino file l

pub shows_view : (v : SessionSeen) (s : Inside) → the_view s ≡ v → Shows v (files_in s)
shows_view v s view = subst (λ x. Shows x (files_in s)) view (view_shows s)

pub has_file : (v : SessionSeen) (s : Inside) (ino : ℕ) (file : FilePlace) (l : Laid) → the_view s ≡ v → the_invariant s → FoundAt s.stock s.laid.items s.made.items ino file l → HasFile v s ino file l
has_file v s ino file l view is found =
    let fs = files_in s in
    let shows = shows_view v s view in
    let on : IsFileOn v ino file l = file_on v fs ino file l shows is.0 is.3.apart is.3.made found in
    let same : v.parcel ≡ s.stock = shows.parcel in
    record {
      is = subst (λ b. IsFile b file l) same on.is_file;
      has = subst (λ b. HasChain b file l) same on.has;
      chain = ap (λ b. chain_at b file l) (sym same) ∙ on.chain;
      body = ap (λ b. body_at b file) (sym same) ∙ on.body;
      home = ap (λ b. home_at b file) (sym same) ∙ on.home;
      found = found_one v fs ino file l shows found;
    }

-- by a look among the files
pub finds_in : (s : Inside) (ino : ℕ) (o : Option (FilePlace × Laid)) (ls : List Laid) (ms : List Made) → ls ≡ s.laid.items → ms ≡ s.made.items → Finds s.stock ls ms ino o
    → Finds s.stock s.laid.items s.made.items ino o
finds_in s ino o ls ms el em finds = subst (λ (xs : List Made). Finds s.stock s.laid.items xs ino o) em (subst (λ (xs : List Laid). Finds s.stock xs ms ino o) el finds)

-- where there was a place for a file to be made, there is one still
pub leaves_place : (v : SessionSeen) (s : Inside) (b' : Parcel) (ms' : Vec Made) → the_view s ≡ v → length (map (made_seen b') ms'.items) ≡ length s.made.items
    → vec_capacity ms' ≡ vec_capacity s.made → length v.made < v.room.made → length (map (made_seen b') ms'.items) < made_room ms' s.cleared
leaves_place v s b' ms' view many places lt =
    let was : length (map (made_seen s.stock) s.made.items) < made_room s.made s.cleared = subst (λ (x : SessionSeen). length x.made < x.room.made) (sym view) lt in
    let old = length-map s.made.items (made_seen s.stock) in
    let here : made_room ms' s.cleared ≡ made_room s.made s.cleared = ap (λ n. min n (vec_capacity s.cleared - length s.cleared.items)) places in
    omega (arith, was, old, many, here)

-- ---- a growth

-- a file that may grow is open
pub open_some : (v : SessionSeen) (ino size : ℕ) → MayGrow v ino size → is_some (open_kind v ino) ≡ true
open_some v ino size may = elim may [ inl plain ↦ plain_some (open_kind v ino) plain | inr dir ↦ ap is_some dir.dir.directory ]

-- the room of a file
pub room_found : (v : SessionSeen) (s : Inside) (ino : ℕ) (file : FilePlace) (l : Laid) → the_view s ≡ v → FoundAt s.stock s.laid.items s.made.items ino file l → room_in v ino ≡ room_laid l
room_found v s ino file l view found =
    let u = the_view s in
    sym (ap (λ (x : SessionSeen). room_in x ino) view) ∙ elim found [
      | AmongMade at m e there ef el ↦
          let place : made_place u ino ≡ Some at = position-map (λ (x : MadeFile). eqb x.ino ino) (made_seen s.stock) s.made.items ∙ e in
          ap (λ o. option_map_or (λ i. slice_index_or u.room.made_blocks i 0) o (option_map_or (λ i. slice_index_or u.room.blocks i 0) (place_in u ino) 0)) place
          ∙ get_or_from_slice_get u.room.made_blocks at (room_laid m.laid) 0 (slice_get-map (λ (x : Made). room_laid x.laid) s.made.items at ∙ ap (option_map (λ (x : Made). room_laid x.laid)) there)
          ∙ ap room_laid (sym el)
      | AmongWritten at none e el ef ↦
          let missing : made_place u ino ≡ None = position-map (λ (x : MadeFile). eqb x.ino ino) (made_seen s.stock) s.made.items ∙ none in
          ap (λ o. option_map_or (λ i. slice_index_or u.room.made_blocks i 0) o (option_map_or (λ i. slice_index_or u.room.blocks i 0) (place_in u ino) 0)) missing
          ∙ ap (λ o. option_map_or (λ i. slice_index_or u.room.blocks i 0) o 0) e
          ∙ get_or_from_slice_get u.room.blocks at (room_laid l) 0 (slice_get-map room_laid s.laid.items at ∙ ap (option_map room_laid) el)
    ]

pub may_grow : (v : SessionSeen) (s : Inside) (ino size : ℕ) (file : FilePlace) (l : Laid) → the_view s ≡ v → the_invariant s → FoundAt s.stock s.laid.items s.made.items ino file l
    → size_in (body_in v ino) ≤ size → growth (length (chain_in v ino).blocks) (block_count size) ≤ length (spare_pages v) → block_count size ≤ room_in v ino
    → MayGrowAt s.stock size s.placed file l
may_grow v s ino size file l view is found more pages room =
    let here = has_file v s ino file l view is found in
    let enough : growth (length (chain_at s.stock file l).blocks) (block_count size) ≤ length (drop s.placed (page_numbers s.stock.pages)) =
    subst (λ (x : SessionSeen). growth (length (chain_at s.stock file l).blocks) (block_count size) ≤ length (spare_pages x)) (sym view)
    (subst (λ (ch : Chain). growth (length ch.blocks) (block_count size) ≤ length (spare_pages v)) (sym here.chain) pages) in
    record {
      laid = here.is;
      has = here.has;
      more = subst (λ w. size_in w ≤ size) (sym here.body) more;
      pages = within_spare s.stock s.placed (growth (length (chain_at s.stock file l).blocks) (block_count size)) is.1 enough;
      room = subst (λ n. block_count size ≤ n) (room_found v s ino file l view found) room;
    }
