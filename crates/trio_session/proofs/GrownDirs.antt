-- A growth of a directory keeps a session's files and indexes, of which its own has empty slots behind the others.
use Rattle.trio_session.proofs.Words.{◌%◌, ◌*◌, ◌++◌, ◌+◌, ◌-◌, ◌∙◌, ◌∷◌, ◌≡◌, ◌≢◌, ◌≤◌, AreDirs, AreLaid, AreMade, AreRead, Chain, Directory, Files, Fresh, GrowDone, In, In-cases, In-left, In-map, In-right, IndexedDir, IsIndexHere, IsOne, IsRelaid, Laid, List, Made, None, OneFile, Option, Parcel, Sheet, Shown, Some, [], ap, are_new, arith, block_count, body_at, cases_eq, chain_at, chain_grown, count_up, dir_numbers, drop, every_number, flat_map-append, fresh_places, growth, home_at, index_count, inl, inr, length, length-append, map, map-append, new_index, page_in, page_numbers, pages_of, refl, replicate, size_in, slice_get, slice_set, slots_of, slots_on, subst, suc, sym, take, take-append-drop, taken_from, true, zero, zeros, zeros_empty, ℕ}
use Rattle.std.proofs.lemmas.List.{replicate-append-replicate}
use Rattle.trio_session.proofs.Kept.{IsFile-one, body_in_lease, files_of, get_set, index_slots, map_set}
use Rattle.trio_session.proofs.Lists.{In-slice_get, In-take, once_at, set_beside, slice_get-In}
use Rattle.trio_session.proofs.Owners.{are_new-parts, index_apart, spare_apart, spare_at, written_number}
use Rattle.trio_session.proofs.Places.{fresh_parts, page_at}
use Rattle.trio_session.proofs.Relaid.{AreMade-relaid, EditsOne, FromLease, FromMade, Relays, drop_more, is_home, laid_so, relays}
use Rattle.trio_session.proofs.Resized.{In-drop, are_new-taken, fresh_differ, grown_leaves_files, places_cases, places_once}
use Rattle.trio_session.proofs.Stays.{chain_left}
use Rattle.trio_session.proofs.Untouched.{AreRead-file, EditsFile, edits_grown_whole, slots_of-file}

-- ---- empty slots

-- pages of zeros have empty slots alone
slots_of-blank : (b : Parcel) (ns : List ℕ) → ((n : ℕ) → In n ns → page_in b n ≡ zeros 4096) → slots_of every_number (map (page_in b) ns) ≡ replicate (16 * length ns) None
slots_of-blank b [] blank = refl
slots_of-blank b (n ∷ ns) blank =
    let e : 16 + 16 * length ns ≡ 16 * suc (length ns) = omega arith in
    ap (λ ss. ss ++ slots_of every_number (map (page_in b) ns)) (ap (slots_on every_number) (blank n (inl refl)) ∙ zeros_empty every_number)
    ∙ ap (λ ss. replicate 16 None ++ ss) (slots_of-blank b ns (λ m i. blank m (inr i)))
    ∙ replicate-append-replicate 16 (16 * length ns) None
    ∙ ap (λ k. replicate {A = Option (List ℕ)} k None) e

-- a page that isn't put in place is zero
spare_blank : (placed : ℕ) (reads : List Shown) (fs : Files) (n : ℕ) → AreMade placed reads fs → In n (drop placed (page_numbers fs.parcel.pages)) → page_in fs.parcel n ≡ zeros 4096
spare_blank placed reads fs n made i =
    let s = spare_at placed reads fs made.apart made.numbered made.spread n i in
    let p = fresh_parts fs.parcel s.0 s.2.sheet s.2.there in
    ap (page_in fs.parcel) (sym s.2.number) ∙ page_at fs.parcel (Fresh s.0) s.2.sheet made.apart s.2.there
    ∙ ap (λ (x : Sheet). x.bytes) (sym p.2) ∙ made.zero s.0 p.0 s.1 p.1

-- a directory has whole blocks
whole_one : (placed : ℕ) (reads : List Shown) (b b' : Parcel) (ls ls' : List Laid) (ms ms' cs : List Made) (x : OneFile) (l' : Laid) → AreMade placed reads (files_of b ls ms cs)
    → Relays b b' ls ls' ms ms' cs x l' → x.kind ≡ Directory → size_in (body_at b x.file) % 4096 ≡ 0
whole_one placed reads b b' ls ls' ms ms' cs x l' made relays dir = elim relays.source [
  | FromMade m i e ↦ subst (λ (y : OneFile). size_in (body_at b y.file) % 4096 ≡ 0) (sym e) ((made.made m i).whole (ap (λ (y : OneFile). y.kind) (sym e) ∙ dir))
  | FromLease at e ↦
      let w = written_number (files_of b ls ms cs) x at relays.old e in
      ap (λ f. size_in (body_at b f) % 4096) e ∙ ap (λ z. size_in z % 4096) (body_in_lease b at w.0 w.1)
      ∙ made.whole w.0 (slice_get-In b.writes at w.0 w.1) (sym w.3 ∙ dir)
]

-- ---- the growth

-- the file of this number is a directory, whose index is told of as many empty slots as blocks were added
pub record IsDirGrown (b : Parcel) (size : ℕ) (d d' : IndexedDir) (x : OneFile) : Type 0 where
  pub directory : x.kind ≡ Directory
  pub ino : d'.ino ≡ d.ino
  pub inodes : d'.dir.inodes ≡ d.dir.inodes
  pub slots : d'.dir.slots ≡ d.dir.slots ++ replicate (16 * (block_count size - length (chain_at b x.file x.laid).blocks)) None

pub kept_grow_dir : (placed next : ℕ) (reads : List Shown) (b b' : Parcel) (ls ls' : List Laid) (ms ms' cs : List Made) (dirs : List IndexedDir) (size ino at : ℕ) (d d' : IndexedDir)
    → AreLaid b ls → AreMade placed reads (files_of b ls ms cs) → AreDirs reads (files_of b ls ms cs) dirs → IsRelaid (GrowDone b b' size placed next) b ls ms ino ls' ms'
    → size % 4096 ≡ 0 → are_new [] (dir_numbers dirs) ≡ true → slice_get dirs at ≡ Some d → d.ino ≡ ino
    → ((x : OneFile) → IsOne (files_of b ls ms cs) x → x.ino ≡ ino → IsDirGrown b size d d' x)
    → AreMade next reads (files_of b' ls' ms' cs) × AreDirs reads (files_of b' ls' ms' cs) (slice_set dirs at d')
kept_grow_dir placed next reads b b' ls ls' ms ms' cs dirs size ino at d d' laid made are relaid whole_size once_dirs there number about =
    let fs = files_of b ls ms cs in
    let fs' = files_of b' ls' ms' cs in
    let leaves = grown_leaves_files b b' size placed next ls ls' ms ms' ino relaid in
    let r = relays placed reads b b' ls ms cs leaves made (GrowDone b b' size placed next) ino ls' ms' relaid in
    let x = r.0 in
    let l' = r.1 in
    let done = r.3 in
    let told = about x r.2.old r.4 in
    let chain = chain_at b x.file x.laid in
    let file = IsFile-one placed reads fs x laid made r.2.old in
    let c = block_count size in
    let taken = taken_from b size placed x.file x.laid in
    let wanted = growth (length chain.blocks) c in
    let ni = new_index (length chain.blocks) c in
    let nb = c - length chain.blocks in
    let chain' = chain_grown chain c taken in
    let rest = drop ni taken in
    let more = take ni taken in
    let blocks_len : length chain.blocks + length rest ≡ c = sym (length-append chain.blocks rest) ∙ sym (ap (λ (ch : Chain). length ch.blocks) done.chain) ∙ done.has.blocks ∙ ap block_count done.sized in
    let index_len : length chain'.index ≡ index_count c = sym (ap (λ (ch : Chain). length ch.index) done.chain) ∙ done.has.index ∙ ap (λ n. index_count (block_count n)) done.sized in
    let enough : length chain.blocks + length rest ≤ 511 * length chain'.index = omega (arith, blocks_len, index_len) in
    let own = chain'.index in
    let edit : EditsFile own (home_at b x.file) b b' =
    subst (EditsFile own (home_at b x.file) b) (sym done.edit)
    (edits_grown_whole (home_at b x.file) chain (body_at b x.file) size taken b done.full (whole_one placed reads b b' ls ls' ms ms' cs x l' made r.2 told.directory) enough) in
    let im = x.laid.index_more.items in
    let bm = x.laid.blocks_more.items in
    let places : fresh_places l' ≡ (im ++ count_up placed ni) ++ (bm ++ count_up (placed + ni) nb) =
    ap (λ xs. xs ++ l'.blocks_more.items) done.index ∙ ap (λ ys. (im ++ count_up placed ni) ++ ys) done.blocks in
    let once = made.spread.once x r.2.old in
    let early = λ (k : ℕ) (h : In k (im ++ bm)). made.spread.below x k r.2.old h in
    let cases = λ (k : ℕ) (h : In k (fresh_places l')). places_cases placed ni nb im bm once early k (subst (In k) places h) in
    let ends : next ≡ placed + ni + nb = (let e : next ≡ placed + wanted = done.ends in omega (arith, e)) in
    let spare_taken = λ (n : ℕ) (q : In n taken). In-take wanted n (drop placed (page_numbers b.pages)) q in
    let all : EditsOne placed next reads b b' ls ls' ms ms' cs x l' own = record {
      are_laid = laid;
      made = made;
      leaves = leaves;
      relays = r.2;
      is_file = file;
      edit = edit;
      whole_home = done.whole;
      new_file = done.laid;
      has = done.has;
      others = done.others;
      more = omega (arith, ends);
      once = ap (are_new []) places ∙ places_once placed ni nb im bm once early;
      places = λ k h. elim (cases k h) [ inl q ↦ inl q | inr q ↦ inr q.0 ];
      below = λ k h. elim (cases k h) [
        | inl q ↦ (let lt = early k q in omega (arith, lt, ends))
        | inr q ↦ (let lt = q.1 in omega (arith, lt, ends))
      ];
      out = λ y n one dir h k.
          let its = IsFile-one placed reads fs y laid made one in
          elim (In-cases n chain.index more k) [
            | inl u ↦ index_apart placed reads fs made.apart made.numbered made.spread x y n r.2.old file one its u h
            | inr u ↦ spare_apart placed reads fs made.apart made.numbered made.spread y n one its (spare_taken n (In-take ni n taken u))
                (In-right n (chain_at b y.file y.laid).index (chain_at b y.file y.laid).blocks h)
          ];
      spare = λ n h k. elim (In-cases n chain.index more k) [
        | inl u ↦ spare_apart placed reads fs made.apart made.numbered made.spread x n r.2.old file
            (drop_more placed next n (page_numbers b.pages) (omega (arith, ends)) h) (In-left n chain.index chain.blocks u)
        | inr u ↦ fresh_differ b placed next n wanted made.apart done.ends (In-take ni n taken u) h
      ];
      grows = λ dir n h. subst (λ (ch : Chain). In n ch.blocks) (sym done.chain) (In-left n chain.blocks rest h);
      whole = λ dir. ap (λ n. n % 4096) done.sized ∙ whole_size;
    } in
    let home = is_home placed next reads b b' ls ls' ms ms' cs x l' own all in
    let taken_once : are_new [] taken ≡ true = are_new-taken b placed wanted made.apart in
    let blocks_out : (n : ℕ) → In n (chain.blocks ++ rest) → In n own → ⊥ = λ n h k. elim (In-cases n chain.blocks rest h) [
      | inl u ↦ all.out x n r.2.old told.directory u k
      | inr u ↦ elim (In-cases n chain.index more k) [
        | inl v ↦ spare_apart placed reads fs made.apart made.numbered made.spread x n r.2.old file (spare_taken n (In-drop ni n taken u)) (In-left n chain.index chain.blocks v)
        | inr v ↦ (are_new-parts more rest (ap (are_new []) (take-append-drop ni taken) ∙ taken_once)).1 n v u
      ]
    ] in
    let old = index_slots placed reads fs dirs x d made are r.2.old (slice_get-In dirs at d there) (number ∙ sym r.4) in
    let count : length rest ≡ nb = omega (arith, blocks_len) in
    let slots : d'.dir.slots ≡ slots_of every_number (pages_of b' (laid_so x l')) =
    told.slots ∙ ap (λ ss. ss ++ replicate (16 * nb) None) old.1
    ∙ ap (λ k. slots_of every_number (pages_of b x) ++ replicate (16 * k) None) (sym count)
    ∙ ap (λ ss. slots_of every_number (pages_of b x) ++ ss) (sym (slots_of-blank b rest (λ n i. spare_blank placed reads fs n made (spare_taken n (In-drop ni n taken i)))))
    ∙ sym (flat_map-append (slots_on every_number) (map (page_in b) chain.blocks) (map (page_in b) rest))
    ∙ sym (ap (slots_of every_number) (map-append (page_in b) chain.blocks rest))
    ∙ sym (slots_of-file own (home_at b x.file) b b' (chain.blocks ++ rest) edit home blocks_out)
    ∙ sym (ap (λ (ch : Chain). slots_of every_number (map (page_in b') ch.blocks)) done.chain) in
    let dirs' = slice_set dirs at d' in
    let mine : IsIndexHere fs' d' = record {
      dir = laid_so x l';
      one = r.2.new;
      number = r.4 ∙ sym number ∙ sym told.ino;
      directory = told.directory;
      inodes = told.inodes ∙ old.0;
      slots = slots;
    } in
    let left = λ (y : OneFile). ap (λ (ch : Chain). map (page_in b') ch.blocks) (chain_left b b' y.file y.laid leaves) in
    let numbers : dir_numbers dirs' ≡ dir_numbers dirs = map_set (λ (z : IndexedDir). z.ino) dirs at d' d there told.ino in (
      AreMade-relaid placed next reads b b' ls ls' ms ms' cs x l' own all,
      record {
        once = ap (are_new []) numbers ∙ are.once;
        indexed = λ z i.
            let j = In-slice_get z dirs' i in
            elim (cases_eq j.0 at) [
              | inl same ↦
                  let both : Some z ≡ Some d' = sym j.1 ∙ ap (slice_get dirs') same ∙ get_set dirs at d' d there in
                  let it : z ≡ d' = cc both in
                  inl (subst (IsIndexHere fs') (sym it) mine)
              | inr apart ↦
                  let before : slice_get dirs j.0 ≡ Some z = sym (set_beside dirs at j.0 d' apart) ∙ j.1 in
                  elim (are.indexed z (slice_get-In dirs j.0 z before)) [
                    | inr read ↦ inr read
                    | inl here ↦
                        let y = here.dir in
                        let other : y.ino ≢ x.ino = λ same. apart (once_at (λ (w : IndexedDir). w.ino) dirs j.0 at z d once_dirs before there (sym here.number ∙ same ∙ r.4 ∙ sym number)) in
                        inl (record {
                          dir = y;
                          one = r.2.left y here.one other;
                          number = here.number;
                          directory = here.directory;
                          inodes = here.inodes;
                          slots = here.slots ∙ sym (ap (slots_of every_number) (left y)
                              ∙ slots_of-file own (home_at b x.file) b b' (chain_at b y.file y.laid).blocks edit home (λ n k. all.out y n here.one here.directory k));
                        })
                  ]
            ];
        readable = λ y one dir. elim (r.2.back y one) [
          | inl same ↦ inl (subst (λ n. In n (dir_numbers dirs')) (told.ino ∙ number ∙ sym r.4 ∙ sym (ap (λ (w : OneFile). w.ino) same))
              (In-map (λ (w : IndexedDir). w.ino) d' dirs' (slice_get-In dirs' at d' (get_set dirs at d' d there))))
          | inr was ↦ elim (are.readable y was.0 dir) [
            | inl h ↦ inl (subst (In y.ino) (sym numbers) h)
            | inr read ↦ inr (subst AreRead (sym (left y))
                (AreRead-file own (home_at b x.file) b b' (chain_at b y.file y.laid).blocks edit home (λ n k. all.out y n was.0 dir k) read))
          ]
        ];
      },
    )
