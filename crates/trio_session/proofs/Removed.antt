-- A file that was made and whose slot is cleared keeps a session's files and indexes.
use Rattle.trio_session.proofs.Words.{◌++◌, ◌∙◌, ◌∷◌, ◌≡◌, AreDirs, AreMade, In, In-cases, In-left, In-right, IndexedDir, IsCleared, IsOne, Laid, List, Made, None, OneFile, Parcel, Shown, Some, WasMade, Written, [], ap, are_new, are_new-first, drop, index_count, inl, inr, map, map-append, refl, slice_get, subst, suc, sym, take, true, zero, ℕ}
use Rattle.trio_session.proofs.Kept.{files_of}
use Rattle.trio_session.proofs.Lists.{slice_get-In}
use Rattle.trio_session.proofs.Owners.{are_new-parts}
use Rattle.trio_session.proofs.Resized.{are_new-front, are_new-join}

-- a list about one of its elements
pub split_at : {X : Type 0} (xs : List X) (j : ℕ) (x : X) → slice_get xs j ≡ Some x → take j xs ++ x ∷ drop (suc j) xs ≡ xs
split_at [] j x e = absurd (let t : None ≡ Some x = e in cc t)
split_at (y ∷ ys) zero x e = (let t : y ≡ x = (let u : Some y ≡ Some x = e in cc u) in ap (λ z. z ∷ ys) (sym t))
split_at (y ∷ ys) (suc j) x e = ap (λ zs. y ∷ zs) (split_at ys j x e)

-- numbers of which one is moved behind all stand once still
moved_once : (a c d : List ℕ) (n : ℕ) → are_new [] ((a ++ n ∷ c) ++ d) ≡ true → are_new [] ((a ++ c) ++ (d ++ n ∷ [])) ≡ true
moved_once a c d n new =
    let all = are_new-parts (a ++ n ∷ c) d new in
    let front = are_new-front (a ++ n ∷ c) d new in
    let parts = are_new-parts a (n ∷ c) front in
    let first = are_new-first n c parts.0 in
    let left = are_new-join a c (are_new-front a (n ∷ c) front) first.1 (λ m i j. parts.1 m i (inr j)) in
    let right = are_new-join d (n ∷ []) all.0 refl (λ m i j. elim j [
      | inr none ↦ none
      | inl same ↦ all.1 m (In-right m a (n ∷ c) (inl same)) i
    ]) in
    are_new-join (a ++ c) (d ++ n ∷ []) left right (λ m i j. elim (In-cases m d (n ∷ []) j) [
      | inl h ↦ elim (In-cases m a c i) [
        | inl k ↦ all.1 m (In-left m a (n ∷ c) k) h
        | inr k ↦ all.1 m (In-right m a (n ∷ c) (inr k)) h
      ]
      | inr h ↦ elim h [
        | inr none ↦ none
        | inl same ↦ elim (In-cases m a c i) [
          | inl k ↦ parts.1 m k (inl same)
          | inr k ↦ first.0 (subst (λ q. In q c) same k)
        ]
      ]
    ])

module _ (placed : ℕ) (reads : List Shown) (b : Parcel) (ls : List Laid) (ms cs : List Made) (j : ℕ) (m : Made) (there : slice_get ms j ≡ Some m) where
  abbrev rest : List Made
  rest = take j ms ++ drop (suc j) ms

  abbrev gone : List Made
  gone = cs ++ m ∷ []

  rest-In : (k : Made) → In k rest → In k ms
  rest-In k i = subst (In k) (split_at ms j m there) (elim (In-cases k (take j ms) (drop (suc j) ms) i) [
    | inl h ↦ In-left k (take j ms) (m ∷ drop (suc j) ms) h
    | inr h ↦ In-right k (take j ms) (m ∷ drop (suc j) ms) (inr h)
  ])

  all-In : (k : Made) → In k (rest ++ gone) → In k (ms ++ cs)
  all-In k i = elim (In-cases k rest gone i) [
    | inl h ↦ In-left k ms cs (rest-In k h)
    | inr h ↦ elim (In-cases k cs (m ∷ []) h) [
      | inl q ↦ In-right k ms cs q
      | inr q ↦ elim q [ inr none ↦ absurd none | inl same ↦ In-left k ms cs (subst (λ z. In z ms) (sym same) (slice_get-In ms j m there)) ]
    ]
  ]

  In-all : (k : Made) → In k (ms ++ cs) → In k (rest ++ gone)
  In-all k i = elim (In-cases k ms cs i) [
    | inr h ↦ In-right k rest gone (In-left k cs (m ∷ []) h)
    | inl h ↦ elim (In-cases k (take j ms) (m ∷ drop (suc j) ms) (subst (In k) (sym (split_at ms j m there)) h)) [
      | inl q ↦ In-left k rest gone (In-left k (take j ms) (drop (suc j) ms) q)
      | inr q ↦ elim q [
        | inl same ↦ In-right k rest gone (In-right k cs (m ∷ []) (inl same))
        | inr u ↦ In-left k rest gone (In-right k (take j ms) (drop (suc j) ms) u)
      ]
    ]
  ]

  removed_back : (x : OneFile) → IsOne (files_of b ls rest gone) x → IsOne (files_of b ls ms cs) x
  removed_back x (Written at f l ef el is) = Written at f l ef el is
  removed_back x (WasMade k i is) = WasMade k (all-In k i) is

  pub removed_left : (x : OneFile) → IsOne (files_of b ls ms cs) x → IsOne (files_of b ls rest gone) x
  removed_left x (Written at f l ef el is) = Written at f l ef el is
  removed_left x (WasMade k i is) = WasMade k (In-all k i) is

  removed_once : are_new [] (map (λ k. k.ino) (ms ++ cs)) ≡ true → are_new [] (map (λ k. k.ino) (rest ++ gone)) ≡ true
  removed_once new =
      let key : Made → ℕ = λ k. k.ino in
      let a = map key (take j ms) in
      let c = map key (drop (suc j) ms) in
      let d = map key cs in
      let before : map key (ms ++ cs) ≡ (a ++ m.ino ∷ c) ++ d =
      map-append key ms cs ∙ ap (λ xs. map key xs ++ d) (sym (split_at ms j m there)) ∙ ap (λ xs. xs ++ d) (map-append key (take j ms) (m ∷ drop (suc j) ms)) in
      let after : map key (rest ++ gone) ≡ (a ++ c) ++ (d ++ m.ino ∷ []) =
      map-append key rest gone ∙ ap (λ xs. xs ++ map key gone) (map-append key (take j ms) (drop (suc j) ms)) ∙ ap (λ xs. (a ++ c) ++ xs) (map-append key cs (m ∷ [])) in
      ap (are_new []) after ∙ moved_once a c d m.ino (ap (are_new []) (sym before) ∙ new)

  -- the files, and the indexes
  pub kept_removed : (dirs : List IndexedDir) → AreMade placed reads (files_of b ls ms cs) → AreDirs reads (files_of b ls ms cs) dirs
      → AreMade placed reads (files_of b ls rest gone) × AreDirs reads (files_of b ls rest gone) dirs
  kept_removed dirs made are = (
    record {
      apart = made.apart;
      spread = record {
        once = λ x one. made.spread.once x (removed_back x one);
        apart = λ x y at one other h k. made.spread.apart x y at (removed_back x one) (removed_back y other) h k;
        below = λ x at one h. made.spread.below x at (removed_back x one) h;
      };
      numbered = record {
        allotted = λ k i. made.numbered.allotted k (all-In k i);
        once = removed_once made.numbered.once;
        new = λ k i h. made.numbered.new k (all-In k i) h;
        read = made.numbered.read;
      };
      made = λ k i.
          let is = made.made k (rest-In k i) in
          record {
            file = is.file;
            chain = is.chain;
            home = record { dir = is.home.dir; one = removed_left is.home.dir is.home.one; directory = is.home.directory; block = is.home.block };
            entry = is.entry;
            whole = is.whole;
          };
      cleared = λ k i. elim (In-cases k cs (m ∷ []) i) [
        | inl h ↦ (let is = made.cleared k h in record { file = is.file; chain = is.chain })
        | inr h ↦ elim h [
          | inr none ↦ absurd none
          | inl same ↦
              let is = made.made m (slice_get-In ms j m there) in
              subst (IsCleared (files_of b ls rest gone)) (sym same) (record { file = is.file; chain = is.chain.index ∙ ap index_count (sym is.chain.blocks) })
        ]
      ];
      zero = made.zero;
      whole = made.whole;
    },
    record {
      once = are.once;
      indexed = λ d i. elim (are.indexed d i) [
        | inr read ↦ inr read
        | inl here ↦ inl (record { dir = here.dir; one = removed_left here.dir here.one; number = here.number; directory = here.directory; inodes = here.inodes; slots = here.slots })
      ];
      readable = λ x one dir. are.readable x (removed_back x one) dir;
    },
  )
