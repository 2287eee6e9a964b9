-- What a session shows after one of its files was laid anew.
use Rattle.trio_session.proofs.Words.{if◌then◌else◌, ◌++◌, ◌<◌, ◌∙◌, ◌∷◌, ◌≡◌, ◌≢◌, ◌⊎◌, AmongMade, AmongWritten, AreApart, AreLaid, AreMade, AreNumbered, Bool, Chain, FilePlace, Files, FoundAt, HasChain, In, InSlot, IsFile, IsOne, IsRelaid, IsThere, Kind, Laid, Leased, LentFile, List, Made, MadeAnew, MadeFile, None, OneFile, Option, Parcel, SessionSeen, Shown, Some, WrittenAnew, [], ap, are_new, arith, body_at, chain_at, chains_laid, eqb, eqb-true, false, file_of, find, inl, inr, is_some, length, length-set, made_chained, made_file, made_seen, map, map-append, number_at, open_kind, option_map, option_map_or, place_in, position, refl, slice_get, slice_get-map, slice_index_or, slice_set, subst, suc, sym, true, with_chain, zero, ℕ}
use Rattle.trio_session.proofs.Found.{find-position, position-at, position-map, position-passes, slice_get-within}
use Rattle.trio_session.proofs.Indexed.{are_new-front, position-once}
use Rattle.trio_session.proofs.Lists.{if_other, if_same, once_at, set_map, slice_get-In}
use Rattle.trio_session.proofs.Opens.{found_one, made_left}
use Rattle.trio_session.proofs.Owners.{same_one}
use Rattle.trio_session.proofs.Places.{map_at, number_at-map}
use Rattle.trio_session.proofs.Seeing.{Shows, made_missing, made_shown, made_there}
use Rattle.trio_session.proofs.Sessions.{chains_anew, chains_left, laid_anew, laid_left}
use Rattle.trio_session.proofs.Kept.{get_set, map_set}
use Rattle.trio_session.proofs.Stays.{LeavesFiles, SameFiles-numbers}

-- ---- a file that is there

-- it is found
pub there_found : (fs : Files) (ino : ℕ) → AreLaid fs.parcel fs.laid → IsThere fs.parcel fs.made ino → (file : FilePlace) × (l : Laid) × FoundAt fs.parcel fs.laid fs.made ino file l
there_found fs ino laid there = by (position (λ (m : Made). eqb m.ino ino) fs.made) (position (λ (f : LentFile). eqb f.stands.ino ino) fs.parcel.writes) refl refl
  where
    by : (o p : Option ℕ) → position (λ (m : Made). eqb m.ino ino) fs.made ≡ o → position (λ (f : LentFile). eqb f.stands.ino ino) fs.parcel.writes ≡ p
        → (file : FilePlace) × (l : Laid) × FoundAt fs.parcel fs.laid fs.made ino file l
    by (Some at) p e k =
        let m = position-at (λ (x : Made). eqb x.ino ino) fs.made at e in
        (file_of m.0, m.0.laid, AmongMade at m.0 e m.1.0 refl refl)
    by None (Some at) e k =
        let lt : at < length fs.laid = rw laid.beside (find-position (λ (f : LentFile). eqb f.stands.ino ino) fs.parcel.writes at k).1 in
        let l = slice_get-within fs.laid at lt in
        (Leased at, l.0, AmongWritten at e k l.1 refl)
    by None None e k = absurd (elim there [
      | inl i ↦ (let t : false ≡ true = sym (ap is_some e) ∙ i in cc t)
      | inr i ↦ (let t : false ≡ true = sym (ap is_some k) ∙ i in cc t)
    ])

-- each file of the number is of the kind that is shown
pub kind_shows : (s : SessionSeen) (placed : ℕ) (reads : List Shown) (fs : Files) (ino : ℕ) → Shows s fs → AreLaid fs.parcel fs.laid → AreMade placed reads fs
    → IsThere fs.parcel fs.made ino → (x : OneFile) → IsOne fs x → x.ino ≡ ino → open_kind s ino ≡ Some x.kind
kind_shows s placed reads fs ino shows laid made there x one same =
    let at = there_found fs ino laid there in
    let found = found_one s fs ino at.0 at.1 shows at.2 in
    let it : x ≡ found.one = same_one reads fs x found.one made.apart made.numbered one found.is (same ∙ sym found.ino) in
    found.kind ∙ ap (λ (y : OneFile). Some y.kind) (sym it)

pub kind_one : (s : SessionSeen) (placed : ℕ) (reads : List Shown) (fs : Files) (ino : ℕ) (k : Kind) → Shows s fs → AreLaid fs.parcel fs.laid → AreMade placed reads fs
    → IsThere fs.parcel fs.made ino → open_kind s ino ≡ Some k → (x : OneFile) → IsOne fs x → x.ino ≡ ino → x.kind ≡ k
kind_one s placed reads fs ino k shows laid made there is x one same =
    (let t : Some x.kind ≡ Some k = sym (kind_shows s placed reads fs ino shows laid made there x one same) ∙ is in cc t)

-- ---- one file is laid anew

-- a list mapped in which one was put
pub map-set : {X Y : Type 0} (f : X → Y) (xs : List X) (i : ℕ) (x : X) → map f (slice_set xs i x) ≡ slice_set (map f xs) i (f x)
map-set f [] i x = refl
map-set f (y ∷ ys) zero x = refl
map-set f (y ∷ ys) (suc i) x = ap (λ zs. f y ∷ zs) (map-set f ys i x)

chained : Made → ℕ → Chain → MadeFile
chained m page chain = record { ino = m.ino; kind = m.kind; page = page; slot = m.slot; chain = chain }

-- what the edit makes of the file
pub record IsAnew (b b' : Parcel) (chain : Chain) (file : FilePlace) (l l' : Laid) : Type 0 where
  pub is : IsFile b' file l'
  pub has : HasChain b' file l'
  pub now : chain_at b' file l' ≡ chain
  pub others : (i : ℕ) → Leased i ≢ file → body_at b' (Leased i) ≡ body_at b (Leased i)

made_anew : (b b' : Parcel) (ms : List Made) (ino at : ℕ) (m : Made) (l' : Laid) (chain : Chain) → LeavesFiles b b' → are_new [] (map (λ k. k.ino) ms) ≡ true → slice_get ms at ≡ Some m
    → m.ino ≡ ino → chain_at b' (file_of m) l' ≡ chain → map (made_seen b') (slice_set ms at (record m { laid = l' })) ≡ map (made_chained ino chain) (map (made_seen b) ms)
unfolding chained
made_anew b b' ms ino at m l' chain leaves once there number now =
    let m' : Made = record m { laid = l' } in
    let x = made_seen b m in
    let f = made_chained ino chain in
    let here : slice_get (map (made_seen b) ms) at ≡ Some x = slice_get-map (made_seen b) ms at ∙ ap (option_map (made_seen b)) there in
    let page : made_seen b' m' ≡ chained m (number_at b m.page) chain =
    ap (λ n. chained m n (chain_at b' (file_of m) l')) (number_at-map b b' m.page (leaves.numbers m.page)) ∙ ap (chained m (number_at b m.page)) now in
    let mine : f x ≡ chained m (number_at b m.page) chain = if_same m.ino ino (record x { chain = chain }) x number in
    map-set (made_seen b') ms at m'
    ∙ ap (λ ys. slice_set ys at (made_seen b' m')) (made_left b b' ms leaves)
    ∙ ap (slice_set (map (made_seen b) ms) at) (page ∙ sym mine)
    ∙ set_map f (map (made_seen b) ms) at x here (λ j y e apart.
    let k = map_at (made_seen b) ms j y e in
    if_other y.ino ino (record y { chain = chain }) y (λ same. apart (once_at (λ (z : Made). z.ino) ms j at k.0 m once k.1 there (ap (λ (z : MadeFile). z.ino) k.2 ∙ same ∙ sym number))))

-- the session then shows another chain of it
pub shown_anew : (s : SessionSeen) (reads : List Shown) (fs : Files) (b' : Parcel) (ls' : List Laid) (ms' : List Made) (ino : ℕ) (chain : Chain) → Shows s fs → AreLaid fs.parcel fs.laid
    → AreNumbered reads fs → LeavesFiles fs.parcel b' → IsRelaid (IsAnew fs.parcel b' chain) fs.parcel fs.laid fs.made ino ls' ms'
    → record s { chains = chains_laid b'.writes b'.pages ls'; made = map (made_seen b') ms' } ≡ with_chain ino chain s
shown_anew s reads fs b' ls' ms' ino chain shows laid numbered leaves relaid =
    let b = fs.parcel in
    let old = chains_laid b.writes b.pages fs.laid in
    let v : List Chain → List MadeFile → SessionSeen = λ cs ms. record s { chains = cs; made = ms } in
    let w : Bool → SessionSeen = λ is. if is then record s { made = map (made_chained ino chain) s.made } else record s { chains = option_map_or (λ i. slice_set s.chains i chain) (place_in s ino) s.chains } in
    elim relaid [
      | MadeAnew at m l' e there done same made ↦
          let file = made_shown s fs ino (Some (made_seen b m)) shows (made_there b fs.made ino at m e there) in
          let once = are_new-front (map (λ (k : Made). k.ino) fs.made) (map (λ (k : Made). k.ino) fs.cleared) (ap (are_new []) (sym (map-append (λ (k : Made). k.ino) fs.made fs.cleared)) ∙ numbered.once) in
          let number = eqb-true m.ino ino (position-passes (λ (x : Made). eqb x.ino ino) fs.made at m e there) in
          ap (λ cs. v cs (map (made_seen b') ms')) (ap (chains_laid b'.writes b'.pages) same ∙ chains_left b b' b.writes b'.writes fs.laid leaves leaves.files ∙ sym shows.chains)
          ∙ ap (λ ms. v s.chains ms) (ap (map (made_seen b')) made ∙ made_anew b b' fs.made ino at m l' chain leaves once there number done.now ∙ ap (map (made_chained ino chain)) (sym shows.made))
          ∙ sym (ap (λ o. w (is_some o)) file)
      | WrittenAnew at l l' none e there done same made ↦
          let missing = made_shown s fs ino None shows (made_missing b fs.made ino none) in
          let place : place_in s ino ≡ Some at = ap (λ (x : Parcel). position (λ (f : LentFile). eqb f.stands.ino ino) x.writes) shows.parcel ∙ e in
          let lt : at < length fs.laid = rw laid.beside (find-position (λ (f : LentFile). eqb f.stands.ino ino) b.writes at e).1 in
          ap (λ ms. v (chains_laid b'.writes b'.pages ls') ms) (ap (map (made_seen b')) made ∙ made_left b b' fs.made leaves ∙ sym shows.made)
          ∙ ap (λ cs. v cs s.made) (ap (chains_laid b'.writes b'.pages) same ∙ chains_anew b b' fs.laid at l' leaves done.is lt ∙ ap (slice_set old at) done.now ∙ ap (λ cs. slice_set cs at chain) (sym shows.chains))
          ∙ sym (ap (λ o. w (is_some o)) missing ∙ ap (λ o. record s { chains = option_map_or (λ i. slice_set s.chains i chain) o s.chains }) place)
    ]

-- and its written files are laid
pub laid_relaid : (b b' : Parcel) (ls ls' : List Laid) (ms ms' : List Made) (ino : ℕ) (chain : Chain) → LeavesFiles b b' → AreLaid b ls → IsRelaid (IsAnew b b' chain) b ls ms ino ls' ms' → AreLaid b' ls'
laid_relaid b b' ls ls' ms ms' ino chain leaves laid relaid = elim relaid [
  | MadeAnew at m l' e there done same made ↦ subst (AreLaid b') (sym same) (laid_left b b' ls leaves (λ i. done.others i (λ k. (let t : Leased i ≡ InSlot m.page m.slot = k in cc t))) laid)
  | WrittenAnew at l l' none e there done same made ↦
      subst (AreLaid b') (sym same) (laid_anew b b' ls at l' leaves (λ j apart. done.others j (λ k. apart (let t : Leased j ≡ Leased at = k in cc t))) laid done.is done.has)
]

-- the file is found then
pub found_relaid : (done : FilePlace → Laid → Laid → Type 0) (b b' : Parcel) (ls ls' : List Laid) (ms ms' : List Made) (ino : ℕ) → LeavesFiles b b' → IsRelaid done b ls ms ino ls' ms'
    → (file : FilePlace) × (l : Laid) × (l' : Laid) × FoundAt b' ls' ms' ino file l' × done file l l'
found_relaid done b b' ls ls' ms ms' ino leaves relaid = elim relaid [
  | MadeAnew at m l' e there is same anew ↦
      let key : Made → ℕ = λ k. k.ino in
      let m' : Made = record m { laid = l' } in
      let numbers : map key ms' ≡ map key ms = ap (map key) anew ∙ map_set key ms at m' m there refl in
      let place : position (λ k. eqb k.ino ino) ms' ≡ Some at =
      sym (position-map (λ n. eqb n ino) key ms') ∙ ap (position (λ n. eqb n ino)) numbers ∙ position-map (λ n. eqb n ino) key ms ∙ e in
      (file_of m, m.laid, l', AmongMade at m' place (ap (λ ks. slice_get ks at) anew ∙ get_set ms at m' m there) refl refl, is)
  | WrittenAnew at l l' none e there is same made ↦
      let key : LentFile → ℕ = λ f. f.stands.ino in
      let place : position (λ f. eqb f.stands.ino ino) b'.writes ≡ Some at =
      sym (position-map (λ n. eqb n ino) key b'.writes) ∙ ap (position (λ n. eqb n ino)) (SameFiles-numbers b.writes b'.writes leaves.files) ∙ position-map (λ n. eqb n ino) key b.writes ∙ e in
      (Leased at, l, l', AmongWritten at (ap (position (λ (k : Made). eqb k.ino ino)) made ∙ none) place (ap (λ xs. slice_get xs at) same ∙ get_set ls at l' l there) refl, is)
]

-- as many files were made
pub made_many : (done : FilePlace → Laid → Laid → Type 0) (b : Parcel) (ls ls' : List Laid) (ms ms' : List Made) (ino : ℕ) → IsRelaid done b ls ms ino ls' ms' → length ms' ≡ length ms
made_many done b ls ls' ms ms' ino relaid = elim relaid [
  | MadeAnew at m l' e there is same made ↦ ap (λ (xs : List Made). length xs) made ∙ length-set ms at (record m { laid = l' })
  | WrittenAnew at l l' none e there is same made ↦ ap (λ (xs : List Made). length xs) made
]

-- the same file, by what is known of an edit
pub relaid_as : (P Q : FilePlace → Laid → Laid → Type 0) (b : Parcel) (ls ls' : List Laid) (ms ms' : List Made) (ino : ℕ)
    → ((file : FilePlace) (l l' : Laid) → FoundAt b ls ms ino file l → P file l l' → Q file l l') → IsRelaid P b ls ms ino ls' ms' → IsRelaid Q b ls ms ino ls' ms'
relaid_as P Q b ls ls' ms ms' ino each relaid = elim relaid [
  | MadeAnew at m l' e there done same made ↦ MadeAnew at m l' e there (each (file_of m) m.laid l' (AmongMade at m e there refl refl) done) same made
  | WrittenAnew at l l' none e there done same made ↦ WrittenAnew at l l' none e there (each (Leased at) l l' (AmongWritten at none e there refl) done) same made
]

-- and what it makes of all that is in hand
pub relaid_edit : (P : FilePlace → Laid → Laid → Type 0) (b : Parcel) (ls ls' : List Laid) (ms ms' : List Made) (ino : ℕ) → IsRelaid P b ls ms ino ls' ms'
    → (file : FilePlace) × (l : Laid) × (l' : Laid) × FoundAt b ls ms ino file l × P file l l'
relaid_edit P b ls ls' ms ms' ino relaid = elim relaid [
  | MadeAnew at m l' e there done same made ↦ (file_of m, m.laid, l', AmongMade at m e there refl refl, done)
  | WrittenAnew at l l' none e there done same made ↦ (Leased at, l, l', AmongWritten at none e there refl, done)
]
