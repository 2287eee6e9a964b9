-- Which indexes have room.
use Rattle.trio_session.proofs.Words.{◌+◌, ◌<◌, ◌∙◌, ◌∷◌, ◌≡◌, ◌≢◌, ◌≤◌, Bool, In, In-filter, In-is_among, In-map, IndexedDir, Kind, List, None, Some, TellsGrowth, ToldGrowth, Untold, [], ap, are_new, arith, cases_eq, dir_numbers, eqb, eqb-true, filter, filter-In, has_names, has_slots, inl, inr, is_some, leb-true, length, lt-ltb, ltb, ltb-true, map, map-In, position, refl, slice_get, slice_set, subst, suc, sym, true, zero, ℕ}
use Rattle.trio_auxdir.specs.Directory.{Directory as Index}
use Rattle.trio_session.specs.inner.Found.{ToldBlock}
use Rattle.trio_session.proofs.Kept.{get_set, map_set}
use Rattle.trio_session.proofs.Found.{is_some-position, position-passes}
use Rattle.trio_session.proofs.Lists.{In-slice_get, once_at, set_beside, slice_get-In}

-- an index with room is an index
pub with_room : (test : IndexedDir → Bool) (ds : List IndexedDir) (n : ℕ) → In n (dir_numbers (filter test ds)) → (d : IndexedDir) × (In d ds) × (test d ≡ true) × (d.ino ≡ n)
with_room test ds n i =
    let d = map-In (λ (x : IndexedDir). x.ino) n (filter test ds) i in
    let f = filter-In test d.0 ds d.1 in
    (d.0, f.0, f.1, sym d.2)

pub room_In : (test : IndexedDir → Bool) (ds : List IndexedDir) (d : IndexedDir) → In d ds → test d ≡ true → In d.ino (dir_numbers (filter test ds))
room_In test ds d i t = In-map (λ (x : IndexedDir). x.ino) d (filter test ds) (In-filter test d ds i t)

-- the index at its place has it
pub room_at : (test : IndexedDir → Bool) (ds : List IndexedDir) (n at : ℕ) (d : IndexedDir) → are_new [] (dir_numbers ds) ≡ true → In n (dir_numbers (filter test ds))
    → slice_get ds at ≡ Some d → d.ino ≡ n → test d ≡ true
room_at test ds n at d once i there same =
    let e = with_room test ds n i in
    let j = In-slice_get e.0 ds e.1 in
    let place : j.0 ≡ at = once_at (λ (x : IndexedDir). x.ino) ds j.0 at e.0 d once j.1 there (e.3 ∙ sym same) in
    let it : e.0 ≡ d = (let t : Some e.0 ≡ Some d = sym (ap (slice_get ds) (sym place) ∙ j.1) ∙ there in cc t) in
    ap test (sym it) ∙ e.2

-- an index of this number is there
pub index_there : (ds : List IndexedDir) (n : ℕ) → In n (dir_numbers ds) → is_some (position (λ d. eqb d.ino n) ds) ≡ true
index_there ds n i = is_some-position (λ (d : IndexedDir). d.ino) ds n ∙ In-is_among n (dir_numbers ds) i

-- other indexes keep their room where one is exchanged
pub room_beside : (test : IndexedDir → Bool) (ds : List IndexedDir) (n m at : ℕ) (d d' : IndexedDir) → slice_get ds at ≡ Some d → d.ino ≡ m → n ≢ m → In n (dir_numbers (filter test ds))
    → In n (dir_numbers (filter test (slice_set ds at d')))
room_beside test ds n m at d d' there same apart i =
    let e = with_room test ds n i in
    let j = In-slice_get e.0 ds e.1 in
    let other : j.0 ≢ at = λ k.
    let it : e.0 ≡ d = (let t : Some e.0 ≡ Some d = sym j.1 ∙ ap (slice_get ds) k ∙ there in cc t) in
    apart (sym e.3 ∙ ap (λ (x : IndexedDir). x.ino) it ∙ same) in
    subst (λ k. In k (dir_numbers (filter test (slice_set ds at d')))) e.3
    (room_In test (slice_set ds at d') e.0 (slice_get-In (slice_set ds at d') j.0 e.0 (set_beside ds at j.0 d' other ∙ j.1)) e.2)

pub slots_room : (d : IndexedDir) → has_slots d ≡ true → length d.dir.slots + 16 ≤ d.dir.room.slots
slots_room d e = leb-true (length d.dir.slots + 16) d.dir.room.slots e

pub names_room : (d : IndexedDir) → has_names d ≡ true → 0 < d.dir.room.names
names_room d e = ltb-true 0 d.dir.room.names e

-- ---- one block more

told_names : (d d' : IndexedDir) → ToldBlock d d' → has_names d' ≡ has_names d
told_names d d' told = ap (λ (x : Index). ltb 0 x.room.names) told.grown

pub slots_told : (kind : Kind) (more : ℕ) (ds ds' : List IndexedDir) (ino n : ℕ) → TellsGrowth kind more ds ino ds' → n ≢ ino → In n (dir_numbers (filter has_slots ds)) → In n (dir_numbers (filter has_slots ds'))
slots_told kind more ds ds' ino n tells apart i = elim tells [
  | Untold none same ↦ subst (λ xs. In n (dir_numbers (filter has_slots xs))) (sym same) i
  | ToldGrowth dir some at d d' e there told same ↦
      subst (λ xs. In n (dir_numbers (filter has_slots xs))) (sym same) (room_beside has_slots ds n ino at d d' there (eqb-true d.ino ino (position-passes (λ (x : IndexedDir). eqb x.ino ino) ds at d e there)) apart i)
]

pub names_told : (kind : Kind) (more : ℕ) (ds ds' : List IndexedDir) (ino n : ℕ) → are_new [] (dir_numbers ds) ≡ true → TellsGrowth kind more ds ino ds' → In n (dir_numbers (filter has_names ds)) → In n (dir_numbers (filter has_names ds'))
names_told kind more ds ds' ino n once tells i = elim tells [
  | Untold none same ↦ subst (λ xs. In n (dir_numbers (filter has_names xs))) (sym same) i
  | ToldGrowth dir some at d d' e there told same ↦
      let number : d.ino ≡ ino = eqb-true d.ino ino (position-passes (λ (x : IndexedDir). eqb x.ino ino) ds at d e there) in
      subst (λ xs. In n (dir_numbers (filter has_names xs))) (sym same) (elim (cases_eq n ino) [
        | inl here ↦
            let has : has_names d ≡ true = room_at has_names ds n at d once i there (number ∙ sym here) in
            subst (λ k. In k (dir_numbers (filter has_names (slice_set ds at d')))) (told.ino ∙ number ∙ sym here)
            (room_In has_names (slice_set ds at d') d' (slice_get-In (slice_set ds at d') at d' (get_set ds at d' d there)) (told_names d d' told ∙ has))
        | inr apart ↦ room_beside has_names ds n ino at d d' there number apart i
      ])
]

pub numbers_told : (kind : Kind) (more : ℕ) (ds ds' : List IndexedDir) (ino : ℕ) → TellsGrowth kind more ds ino ds' → dir_numbers ds' ≡ dir_numbers ds
numbers_told kind more ds ds' ino tells = elim tells [
  | Untold none same ↦ ap dir_numbers same
  | ToldGrowth dir some at d d' e there told same ↦ ap dir_numbers same ∙ map_set (λ (x : IndexedDir). x.ino) ds at d' d there told.ino
]

-- no less names have a place
pub names_more : (d d' : IndexedDir) → d.dir.room.names ≤ d'.dir.room.names → has_names d ≡ true → has_names d' ≡ true
names_more d d' le has = (let lt = names_room d has in lt-ltb 0 d'.dir.room.names (omega (arith, lt, le)))
