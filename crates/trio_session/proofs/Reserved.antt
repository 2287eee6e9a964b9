-- Room is made for a file of a session: its files and indexes are kept.
use Rattle.trio_session.proofs.Words.{◌++◌, ◌+◌, ◌<◌, ◌∙◌, ◌∷◌, ◌≡◌, ◌≢◌, ◌≤◌, ◌⊎◌, AmongMade, AmongWritten, AnIndex, AreDirs, AreLaid, AreMade, AreRead, Bool, Chain, Err, FilePlace, Files, FoundAt, HasChain, In, In-cases, In-filter, In-is_among, In-map, IndexedDir, IsBlock, IsFile, IsIndexHere, IsIndexed, IsMade, IsOne, IsRelaid, Laid, Leased, List, Made, MadeAnew, MadeFile, NoIndex, None, Ok, OnOk, OneFile, Option, Parcel, Roomier, Shown, Some, WrittenAnew, [], ap, are_new, arith, cases_eq, chain_at, chains_laid, dir_numbers, eqb, eqb-true, every_number, false≢true, file_numbers, file_of, filter, filter-In, fresh_places, get_or_from_slice_get, has_names, has_slots, index_count, inl, ino_numbers, inr, is_some, le-leb, lease_on, leb, leb-true, length, lt-ltb, ltb, ltb-true, made_seen, map, map-In, number_at, of_made, page_in, pages_of, position, refl, room_laid, slice_get, slice_get_within, slice_index_or, slice_set, slots_of, subst, suc, sym, true, zero, ℕ}
use Rattle.std.proofs.Common.{Result}
use Rattle.trio_auxdir.specs.Directory.{HasRoom}
use Rattle.trio_session.specs.inner.Found.{IsRoomier, RoomierDir}
use Rattle.trio_session.proofs.Found.{is_some-position, position-at, position-map}
use Rattle.trio_session.proofs.Kept.{IsFile-one, files_of, get_set, map_set}
use Rattle.trio_session.proofs.Lists.{In-slice_get, set_beside, slice_get-In}
use Rattle.trio_session.proofs.Owners.{same_one}
use Rattle.trio_session.proofs.Relaid.{Anew, Other, Relays, laid_so, relays}
use Rattle.trio_session.proofs.SameOnes.{HasSame, IsAs, as_same, block_same, dirs_same, spread_same}
use Rattle.trio_session.proofs.Sessions.{Alike, chain_at_alike, chains_set_alike, file_alike, has_alike, laid_anew}
use Rattle.trio_session.proofs.Stays.{leaves_same}

-- ---- a file with more room

-- the same places
pub roomier_alike : {E : Type 0} (blocks : ℕ) (result : Result Unit E) (file : FilePlace) (l l' : Laid) → Roomier blocks result file l l' → Alike l l'
roomier_alike blocks result file l l' is = record { index_kept = is.index_kept; blocks_kept = is.blocks_kept; index = is.index; blocks = is.blocks_more }

fresh_alike : (l l' : Laid) → Alike l l' → fresh_places l' ≡ fresh_places l
fresh_alike l l' e = rw (e.index, e.blocks) refl

-- the written files are laid as they were
pub laid_reserved : {E : Type 0} (blocks ino : ℕ) (result : Result Unit E) (b : Parcel) (ls ls' : List Laid) (ms ms' : List Made) → AreLaid b ls
    → IsRelaid (Roomier blocks result) b ls ms ino ls' ms' → AreLaid b ls'
laid_reserved blocks ino result b ls ls' ms ms' laid relaid = elim relaid [
  | MadeAnew at m l' e there is same made ↦ subst (AreLaid b) (sym same) laid
  | WrittenAnew at l l' none e there is same made ↦
      let alike = roomier_alike blocks result (Leased at) l l' is in
      let file = laid.each at l there in
      subst (AreLaid b) (sym same)
      (laid_anew b b ls at l' (leaves_same b) (λ j apart. refl) laid (file_alike b (Leased at) l l' alike file) (has_alike b (Leased at) l l' alike file (laid.chains at l there)))
]

-- their chains are shown as before
pub chains_reserved : {E : Type 0} (blocks ino : ℕ) (result : Result Unit E) (b : Parcel) (ls ls' : List Laid) (ms ms' : List Made) → AreLaid b ls
    → IsRelaid (Roomier blocks result) b ls ms ino ls' ms' → chains_laid b.writes b.pages ls' ≡ chains_laid b.writes b.pages ls
chains_reserved blocks ino result b ls ls' ms ms' laid relaid = elim relaid [
  | MadeAnew at m l' e there is same made ↦ ap (chains_laid b.writes b.pages) same
  | WrittenAnew at l l' none e there is same made ↦
      ap (chains_laid b.writes b.pages) same
      ∙ chains_set_alike b ls at l l' laid (slice_get_within ls at l there) (sym (get_or_from_slice_get ls at l l there)) (roomier_alike blocks result (Leased at) l l' is)
]

-- and so are the files that were made
pub made_reserved : {E : Type 0} (placed : ℕ) (reads : List Shown) (blocks ino : ℕ) (result : Result Unit E) (b : Parcel) (ls ls' : List Laid) (ms ms' cs : List Made) → AreMade placed reads (files_of b ls ms cs)
    → IsRelaid (Roomier blocks result) b ls ms ino ls' ms' → map (made_seen b) ms' ≡ map (made_seen b) ms
made_reserved placed reads blocks ino result b ls ls' ms ms' cs made relaid = elim relaid [
  | WrittenAnew at l l' none e there is same made ↦ ap (map (made_seen b)) made
  | MadeAnew at m l' e there is same anew ↦
      let file = (made.made m (slice_get-In ms at m there)).file in
      let v : Chain → MadeFile = λ c. record { ino = m.ino; kind = m.kind; page = number_at b m.page; slot = m.slot; chain = c } in
      ap (map (made_seen b)) anew
      ∙ map_set (made_seen b) ms at (record m { laid = l' }) m there (ap v (chain_at_alike b (file_of m) m.laid l' (roomier_alike blocks result (file_of m) m.laid l' is) file))
]

-- the file is found, with its room
pub found_reserved : {E : Type 0} (blocks ino : ℕ) (result : Result Unit E) (b : Parcel) (ls ls' : List Laid) (ms ms' : List Made) → IsRelaid (Roomier blocks result) b ls ms ino ls' ms'
    → (file : FilePlace) × (l : Laid) × (l' : Laid) × FoundAt b ls' ms' ino file l' × Roomier blocks result file l l'
found_reserved blocks ino result b ls ls' ms ms' relaid = elim relaid [
  | MadeAnew at m l' e there is same anew ↦
      let key : Made → ℕ = λ k. k.ino in
      let m' : Made = record m { laid = l' } in
      let numbers : map key ms' ≡ map key ms = ap (map key) anew ∙ map_set key ms at m' m there refl in
      let place : position (λ k. eqb k.ino ino) ms' ≡ Some at =
      sym (position-map (λ n. eqb n ino) key ms') ∙ ap (position (λ n. eqb n ino)) numbers ∙ position-map (λ n. eqb n ino) key ms ∙ e in
      (file_of m, m.laid, l', AmongMade at m' place (ap (λ ks. slice_get ks at) anew ∙ get_set ms at m' m there) refl refl, is)
  | WrittenAnew at l l' none e there is same made ↦
      (Leased at, l, l', AmongWritten at (ap (position (λ (k : Made). eqb k.ino ino)) made ∙ none) e (ap (λ xs. slice_get xs at) same ∙ get_set ls at l' l there) refl, is)
]

le_same : (n : ℕ) → n ≤ n
le_same n = omega arith

-- one element is more
set_more : {X : Type 0} (f : X → ℕ) (xs : List X) (at : ℕ) (x x' : X) → slice_get xs at ≡ Some x → f x ≤ f x' → (i : ℕ) → slice_index_or (map f xs) i 0 ≤ slice_index_or (map f (slice_set xs at x')) i 0
set_more f [] at x x' e le i = absurd (let t : None ≡ Some x = e in cc t)
set_more f (y ∷ ys) zero x x' e le zero = subst (λ z. f z ≤ f x') (sym (let u : Some y ≡ Some x = e in let t : y ≡ x = cc u in t)) le
set_more f (y ∷ ys) zero x x' e le (suc i) = le_same (slice_index_or (map f ys) i 0)
set_more f (y ∷ ys) (suc at) x x' e le zero = le_same (f y)
set_more f (y ∷ ys) (suc at) x x' e le (suc i) = set_more f ys at x x' e le i

-- no file has less room
pub rooms_reserved : {E : Type 0} (blocks ino : ℕ) (result : Result Unit E) (b : Parcel) (ls ls' : List Laid) (ms ms' : List Made) → IsRelaid (Roomier blocks result) b ls ms ino ls' ms' → (i : ℕ)
    → (slice_index_or (map room_laid ls) i 0 ≤ slice_index_or (map room_laid ls') i 0)
    × (slice_index_or (map (λ m. room_laid m.laid) ms) i 0 ≤ slice_index_or (map (λ m. room_laid m.laid) ms') i 0)
rooms_reserved blocks ino result b ls ls' ms ms' relaid i =
    let room : Made → ℕ = λ m. room_laid m.laid in
    elim relaid [
      | MadeAnew at m l' e there is same anew ↦ (
        subst (λ xs. slice_index_or (map room_laid ls) i 0 ≤ slice_index_or (map room_laid xs) i 0) (sym same) (le_same (slice_index_or (map room_laid ls) i 0)),
        subst (λ ks. slice_index_or (map room ms) i 0 ≤ slice_index_or (map room ks) i 0) (sym anew) (set_more room ms at m (record m { laid = l' }) there is.more i),
      )
      | WrittenAnew at l l' none e there is same made ↦ (
        subst (λ xs. slice_index_or (map room_laid ls) i 0 ≤ slice_index_or (map room_laid xs) i 0) (sym same) (set_more room_laid ls at l l' there is.more i),
        subst (λ ks. slice_index_or (map room ms) i 0 ≤ slice_index_or (map room ks) i 0) (sym made) (le_same (slice_index_or (map room ms) i 0)),
      )
    ]

-- ---- the files of a session, one of which has more room

module _ (placed : ℕ) (reads : List Shown) (b : Parcel) (ls ls' : List Laid) (ms ms' cs : List Made) (x : OneFile) (l' : Laid) (made : AreMade placed reads (files_of b ls ms cs)) (is : IsFile b x.file x.laid)
    (r : Relays b b ls ls' ms ms' cs x l') (alike : Alike x.laid l') where
  -- each file was there, and is there
  have_same : HasSame b (files_of b ls ms cs) (files_of b ls' ms' cs)
  have_same =
      let anew : IsAs b x (laid_so x l') = record { ino = refl; kind = refl; places = fresh_alike x.laid l' alike; chain = chain_at_alike b x.file x.laid l' alike is } in
      record {
        was = λ y one. elim (r.back y one) [
          | inl same ↦ inl (x, r.old, subst (IsAs b x) (sym same) anew)
          | inr before ↦ inl (y, before.0, as_same b y)
        ];
        now = λ y one. elim (cases_eq y.ino x.ino) [
          | inl same ↦ (laid_so x l', r.new, subst (λ w. IsAs b w (laid_so x l')) (sym (same_one reads (files_of b ls ms cs) y x made.apart made.numbered one r.old same)) anew)
          | inr apart ↦ (y, r.left y one apart, as_same b y)
        ];
      }

  home_now : (m : Made) → IsMade (files_of b ls ms cs) m → IsBlock (files_of b ls' ms' cs) (number_at b m.page)
  home_now m old = block_same b ls ls' ms ms' cs cs (number_at b m.page) have_same old.home

  made_now : (m : Made) → In m ms' → IsMade (files_of b ls' ms' cs) m
  made_now m i = elim (r.made m i) [
    | Other j apart ↦
        let old = made.made m j in
        record { file = old.file; chain = old.chain; home = home_now m old; entry = old.entry; whole = old.whole }
    | Anew k j e same ↦
        let old = made.made k j in
        let places : Alike k.laid l' = subst (λ (y : OneFile). Alike y.laid l') e alike in
        let it : IsMade (files_of b ls' ms' cs) (record k { laid = l' }) = record {
          file = file_alike b (file_of k) k.laid l' places old.file;
          chain = has_alike b (file_of k) k.laid l' places old.file old.chain;
          home = home_now k old;
          entry = old.entry;
          whole = old.whole;
        } in
        subst (IsMade (files_of b ls' ms' cs)) (sym same) it
  ]

  numbered : (m : Made) → In m (ms' ++ cs) → (k : Made) × In k (ms ++ cs) × (m.ino ≡ k.ino)
  numbered m i = map-In (λ (z : Made). z.ino) m.ino (ms ++ cs) (subst (In m.ino) r.numbers (In-map (λ (z : Made). z.ino) m (ms' ++ cs) i))

  made_roomier : AreMade placed reads (files_of b ls' ms' cs)
  made_roomier = record {
    apart = made.apart;
    spread = spread_same placed b ls ls' ms ms' cs cs have_same made.spread;
    numbered = record {
      allotted = λ m i. (let k = numbered m i in subst (λ n. In n (ino_numbers b.inodes)) (sym k.2) (made.numbered.allotted k.0 k.1));
      once = ap (are_new []) r.numbers ∙ made.numbered.once;
      new = λ m i j. (let k = numbered m i in made.numbered.new k.0 k.1 (subst (λ n. In n (file_numbers b.writes ++ map (λ (f : Shown). f.ino) reads)) k.2 j));
      read = made.numbered.read;
    };
    made = made_now;
    cleared = λ m i. (let old = made.cleared m i in record { file = old.file; chain = old.chain });
    zero = made.zero;
    whole = made.whole;
  }

-- the files, and the indexes
pub kept_reserved : {E : Type 0} (placed : ℕ) (reads : List Shown) (blocks ino : ℕ) (result : Result Unit E) (b : Parcel) (ls ls' : List Laid) (ms ms' cs : List Made) (dirs : List IndexedDir)
    → AreLaid b ls → AreMade placed reads (files_of b ls ms cs) → AreDirs reads (files_of b ls ms cs) dirs → IsRelaid (Roomier blocks result) b ls ms ino ls' ms'
    → AreLaid b ls' × AreMade placed reads (files_of b ls' ms' cs) × AreDirs reads (files_of b ls' ms' cs) dirs
kept_reserved placed reads blocks ino result b ls ls' ms ms' cs dirs laid made are relaid =
    let all = relays placed reads b b ls ms cs (leaves_same b) made (Roomier blocks result) ino ls' ms' relaid in
    let x = all.0 in
    let l' = all.1 in
    let is = IsFile-one placed reads (files_of b ls ms cs) x laid made all.2.old in
    let alike = roomier_alike blocks result x.file x.laid l' all.3 in (
      laid_reserved blocks ino result b ls ls' ms ms' laid relaid,
      made_roomier placed reads b ls ls' ms ms' cs x l' made is all.2 alike,
      dirs_same reads b ls ls' ms ms' cs cs dirs (have_same placed reads b ls ls' ms ms' cs x l' made is all.2 alike) are,
    )

-- ---- an index with more room

-- an index is another one, which passes where the old one did
has_set : (p : IndexedDir → Bool) (dirs : List IndexedDir) (at n : ℕ) (d d' : IndexedDir) → slice_get dirs at ≡ Some d → d'.ino ≡ d.ino → (p d ≡ true → p d' ≡ true)
    → In n (dir_numbers (filter p dirs)) → In n (dir_numbers (filter p (slice_set dirs at d')))
has_set p dirs at n d d' there number passes i =
    let key : IndexedDir → ℕ = λ z. z.ino in
    let dirs' = slice_set dirs at d' in
    let z = map-In key n (filter p dirs) i in
    let k = filter-In p z.0 dirs z.1 in
    let j = In-slice_get z.0 dirs k.0 in
    elim (cases_eq j.0 at) [
      | inl same ↦
          let both : Some z.0 ≡ Some d = sym j.1 ∙ ap (slice_get dirs) same ∙ there in
          let it : z.0 ≡ d = cc both in
          let here : In d' dirs' = slice_get-In dirs' at d' (get_set dirs at d' d there) in
          subst (λ m. In m (dir_numbers (filter p dirs'))) (number ∙ sym (ap key it) ∙ sym z.2) (In-map key d' (filter p dirs') (In-filter p d' dirs' here (passes (ap p (sym it) ∙ k.1))))
      | inr apart ↦
          let here : In z.0 dirs' = slice_get-In dirs' j.0 z.0 (set_beside dirs at j.0 d' apart ∙ j.1) in
          subst (λ m. In m (dir_numbers (filter p dirs'))) (sym z.2) (In-map key z.0 (filter p dirs') (In-filter p z.0 dirs' here k.1))
    ]

more_slots : {E : Type 0} (result : Result Unit E) (d d' : IndexedDir) → RoomierDir result d d' → has_slots d ≡ true → has_slots d' ≡ true
more_slots result d d' is e =
    let lens : length d'.dir.slots ≡ length d.dir.slots = ap (λ (xs : List (Option (List ℕ))). length xs) is.slots in
    let before = leb-true (length d.dir.slots + 16) d.dir.room.slots e in
    let more = is.more.slots in
    le-leb (length d'.dir.slots + 16) d'.dir.room.slots (omega (arith, lens, before, more))

more_names : {E : Type 0} (result : Result Unit E) (d d' : IndexedDir) → RoomierDir result d d' → has_names d ≡ true → has_names d' ≡ true
more_names result d d' is e =
    let before = ltb-true 0 d.dir.room.names e in
    let more = is.more.names in
    lt-ltb 0 d'.dir.room.names (omega (arith, before, more))

-- the same directories have their index
pub numbers_roomier : {E : Type 0} (result : Result Unit E) (dirs dirs' : List IndexedDir) (ino : ℕ) → IsRoomier result dirs ino dirs' → dir_numbers dirs' ≡ dir_numbers dirs
numbers_roomier result dirs dirs' ino roomier = elim roomier [
  | NoIndex none same ↦ ap dir_numbers same
  | AnIndex at d d' e there is same ↦ ap dir_numbers same ∙ map_set (λ (z : IndexedDir). z.ino) dirs at d' d there is.ino
]

-- those whose index had a place for a block more, or for a name more, still do
pub slots_roomier : {E : Type 0} (result : Result Unit E) (dirs dirs' : List IndexedDir) (ino n : ℕ) → IsRoomier result dirs ino dirs' → In n (dir_numbers (filter has_slots dirs))
    → In n (dir_numbers (filter has_slots dirs'))
slots_roomier result dirs dirs' ino n roomier i = elim roomier [
  | NoIndex none same ↦ subst (λ ds. In n (dir_numbers (filter has_slots ds))) (sym same) i
  | AnIndex at d d' e there is same ↦
      subst (λ ds. In n (dir_numbers (filter has_slots ds))) (sym same) (has_set has_slots dirs at n d d' there is.ino (more_slots result d d' is) i)
]

pub names_roomier : {E : Type 0} (result : Result Unit E) (dirs dirs' : List IndexedDir) (ino n : ℕ) → IsRoomier result dirs ino dirs' → In n (dir_numbers (filter has_names dirs))
    → In n (dir_numbers (filter has_names dirs'))
names_roomier result dirs dirs' ino n roomier i = elim roomier [
  | NoIndex none same ↦ subst (λ ds. In n (dir_numbers (filter has_names ds))) (sym same) i
  | AnIndex at d d' e there is same ↦
      subst (λ ds. In n (dir_numbers (filter has_names ds))) (sym same) (has_set has_names dirs at n d d' there is.ino (more_names result d d' is) i)
]

-- and the directory of this number, if it has an index, now does
enough : {E : Type 0} (u : Unit) (test : IndexedDir → Bool) (dirs dirs' : List IndexedDir) (ino : ℕ) → IsRoomier {E = E} (Ok u) dirs ino dirs' → ((d : IndexedDir) → HasRoom d.dir → test d ≡ true)
    → In ino (dir_numbers dirs) → In ino (dir_numbers (filter test dirs'))
enough u test dirs dirs' ino roomier has i = elim roomier [
  | NoIndex none same ↦ absurd (false≢true (sym (ap is_some none) ∙ is_some-position (λ (d : IndexedDir). d.ino) dirs ino ∙ In-is_among ino (dir_numbers dirs) i))
  | AnIndex at d d' e there is same ↦
      let k = position-at (λ (z : IndexedDir). eqb z.ino ino) dirs at e in
      let both : Some k.0 ≡ Some d = sym k.1.0 ∙ there in
      let it : k.0 ≡ d = cc both in
      let number : d'.ino ≡ ino = is.ino ∙ ap (λ (z : IndexedDir). z.ino) (sym it) ∙ eqb-true k.0.ino ino k.1.2 in
      let here : In d' dirs' = subst (In d') (sym same) (slice_get-In (slice_set dirs at d') at d' (get_set dirs at d' d there)) in
      subst (λ n. In n (dir_numbers (filter test dirs'))) number (In-map (λ (z : IndexedDir). z.ino) d' (filter test dirs') (In-filter test d' dirs' here (has d' is.room)))
]

pub slots_enough : {E : Type 0} (result : Result Unit E) (dirs dirs' : List IndexedDir) (ino : ℕ) → IsRoomier result dirs ino dirs'
    → OnOk result (In ino (dir_numbers dirs) → In ino (dir_numbers (filter has_slots dirs')))
slots_enough (Err e) dirs dirs' ino roomier = tt
slots_enough (Ok u) dirs dirs' ino roomier = enough u has_slots dirs dirs' ino roomier (λ d room. le-leb (length d.dir.slots + 16) d.dir.room.slots room.slots)

pub names_enough : {E : Type 0} (result : Result Unit E) (dirs dirs' : List IndexedDir) (ino : ℕ) → IsRoomier result dirs ino dirs'
    → OnOk result (In ino (dir_numbers dirs) → In ino (dir_numbers (filter has_names dirs')))
names_enough (Err e) dirs dirs' ino roomier = tt
names_enough (Ok u) dirs dirs' ino roomier = enough u has_names dirs dirs' ino roomier (λ d room. lt-ltb 0 d.dir.room.names room.names)

-- each index is that of its directory still
pub dirs_reserved : {E : Type 0} (reads : List Shown) (fs : Files) (result : Result Unit E) (dirs dirs' : List IndexedDir) (ino : ℕ) → IsRoomier result dirs ino dirs' → AreDirs reads fs dirs
    → AreDirs reads fs dirs'
dirs_reserved reads fs result dirs dirs' ino roomier are =
    let numbers = numbers_roomier result dirs dirs' ino roomier in
    elim roomier [
      | NoIndex none same ↦ subst (AreDirs reads fs) (sym same) are
      | AnIndex at d d' e there is same ↦
          record {
            once = ap (are_new []) numbers ∙ are.once;
            indexed = λ z i.
                let j = In-slice_get z (slice_set dirs at d') (subst (In z) same i) in
                elim (cases_eq j.0 at) [
                  | inr apart ↦ are.indexed z (slice_get-In dirs j.0 z (sym (set_beside dirs at j.0 d' apart) ∙ j.1))
                  | inl here ↦
                      let both : Some z ≡ Some d' = sym j.1 ∙ ap (slice_get (slice_set dirs at d')) here ∙ get_set dirs at d' d there in
                      let it : z ≡ d' = cc both in
                      subst (λ w. IsIndexHere fs w ⊎ IsIndexed reads w) (sym it) (elim (are.indexed d (slice_get-In dirs at d there)) [
                        | inl mine ↦ inl (record {
                          dir = mine.dir;
                          one = mine.one;
                          number = mine.number ∙ sym is.ino;
                          directory = mine.directory;
                          inodes = is.inodes ∙ mine.inodes;
                          slots = is.slots ∙ mine.slots;
                        })
                        | inr read ↦ inr (record {
                          lease = read.lease;
                          there = ap (lease_on reads) is.ino ∙ read.there;
                          directory = read.directory;
                          index = record { inodes = is.inodes ∙ read.index.inodes; slots = is.slots ∙ read.index.slots };
                        })
                      ])
                ];
            readable = λ x one dir. elim (are.readable x one dir) [
              | inl i ↦ inl (subst (In x.ino) (sym numbers) i)
              | inr read ↦ inr read
            ];
          }
    ]
