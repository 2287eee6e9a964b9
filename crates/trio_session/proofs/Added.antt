-- An allotted number that is in no slot is put into one: a session's files and indexes are kept.
use Rattle.trio_session.proofs.Words.{if◌then◌else◌, ◌%◌, ◌++◌, ◌+◌, ◌<◌, ◌^◌, ◌∙◌, ◌∷◌, ◌≡◌, ◌≢◌, ◌≤◌, ◌⊎◌, AreDirs, AreLaid, AreMade, AreNumbered, Chain, Directory, EntryPart, Files, FreshParts, GrantKind, HasChain, HoldParts, In, In-cases, In-find, In-left, In-map, In-right, InSlot, IndexedDir, IsBlock, IsFile, IsLaid, IsMade, IsMadeAt, IsOne, IsTrue, Kept, Kind, Laid, Leased, LentFile, List, Made, MadeFile, None, OneFile, Option, PagePlace, Parcel, SessionSeen, Sheet, Shown, Some, WasMade, Written, [], ap, are_new, are_new-first, arith, block_count, body_at, body_in_slot, chain_at, chain_in, chain_laid, drop, entry_at, eq-eqb, eqb, eqb-true, false, false≢true, file_numbers, file_of, filter, filter-map, find, fresh_number, fresh_places, held_file, index_count, inl, ino_numbers, inr, is_among, is_among-In, is_some, length, made_seen, map, map-In, map-append, no_chain, not, number_at, of_made, open_kind, option_map, option_map_or, page_in, position, read_file, refl, sheet_at, size_in, slice_get, slice_get_within, slot_file, subst, suc, sym, take, true, ℕ, AmongMade, FoundAt}
use Rattle.std.specs.Prelude.{◌==◌}
use Rattle.trio_nodes.specs.declared.grant.GrantKind.TheVariants.{Hold, Read, Write}
use Rattle.trio_session.specs.Seen.{cleared_file, kept_chain}
use Rattle.trio_session.specs.inner.Found.{Fresh, TakesLaid}
use Rattle.trio_session.proofs.Chained.{there_found}
use Rattle.trio_session.proofs.Chains.{chain_there, none_lent}
use Rattle.trio_session.proofs.Found.{position-at, position-passes, slice_get-within}
use Rattle.trio_session.proofs.Indexed.{made_one, position-once, written_one}
use Rattle.trio_session.proofs.Kept.{files_of}
use Rattle.trio_session.proofs.Lists.{In-slice_get, slice_get-In}
use Rattle.trio_session.proofs.Opens.{found_one, is_there}
use Rattle.trio_session.proofs.Owners.{are_new-parts}
use Rattle.trio_session.proofs.Places.{body_at-InSlot, shown_at-InSlot, slot_parts}
use Rattle.trio_session.proofs.Numbers.{length-removed, none-In, others_all, others_one}
use Rattle.trio_session.proofs.Removed.{split_at}
use Rattle.trio_session.proofs.Resized.{are_new-front, are_new-join}
use Rattle.trio_session.proofs.SameOnes.{HasSame, IsAs, IsBare, as_same, block_same, dirs_same, spread_same}
use Rattle.trio_session.proofs.SlotEdits.{get-behind}
use Rattle.trio_session.proofs.Seeing.{Shows, file_on, made_missing, made_there}

-- where there is no grant there is no file, and none is lent for reading
grant_none : (o : Option Kind) (h : Option HoldParts) (r : Option Shown) → (if is_some o then Some Write else (if is_some h then Some Hold else (if is_some r then Some Read else None))) ≡ None
    → (o ≡ None) × (r ≡ None)
grant_none (Some k) h r e = absurd (let t : Some Write ≡ None = e in cc t)
grant_none None (Some h) r e = absurd (let t : Some Hold ≡ None = e in cc t)
grant_none None None (Some r) e = absurd (let t : Some Read ≡ None = e in cc t)
grant_none None None None e = (refl, refl)

-- the chain of a file in a slot is that of its allotted pages
slot_chain : (b : Parcel) (page : PagePlace) (slot : ℕ) (l : Laid) → IsFile b (InSlot page slot) l → chain_at b (InSlot page slot) l ≡ chain_laid (slot_file []) b.pages l
slot_chain b page slot l is =
    let s = slot_parts b page slot is.shown is.there in
    chain_there b (InSlot page slot) l is.shown is.there ∙ ap (λ f. chain_laid f b.pages l) (sym s.2)

-- the same pages in another slot
other_slot : (b : Parcel) (page : PagePlace) (slot : ℕ) (l : Laid) (body : List ℕ) → IsFile b (InSlot page slot) l → IsLaid (slot_file body) b.pages l
other_slot b page slot l body is =
    let none = none_lent b page slot l is in
    let index = none.0 in
    let blocks = none.1 in
    record {
      index = omega (arith, index);
      blocks = omega (arith, blocks);
      narrow_index = is.laid.narrow_index;
      narrow_blocks = is.laid.narrow_blocks;
      index_there = is.laid.index_there;
      blocks_there = is.laid.blocks_there;
    }

no_pages : (pages : List FreshParts) (l : Laid) (body : List ℕ) → l.index_kept ≡ 0 → l.blocks_kept ≡ 0 → l.index_more.items ≡ [] → l.blocks_more.items ≡ [] → IsLaid (slot_file body) pages l
no_pages pages l body ik bk im bm =
    let many : length l.index_more.items ≡ 0 = ap (λ (xs : List ℕ). length xs) im in
    let more : length l.blocks_more.items ≡ 0 = ap (λ (xs : List ℕ). length xs) bm in
    record {
      index = omega (arith, ik);
      blocks = omega (arith, bk);
      narrow_index = omega (arith, ik, many);
      narrow_blocks = omega (arith, bk, more);
      index_there = λ at i. absurd (subst (In at) im i);
      blocks_there = λ at i. absurd (subst (In at) bm i);
    }

-- ---- cleared files without the one that is put into a slot

module _ (cs cs' : List Made) (ino : ℕ) (l : Laid) (takes : TakesLaid cs ino l cs') where
  abbrev numbers : List Made → List ℕ
  numbers ms = map (λ m. m.ino) ms

  less_In : (k : Made) → In k cs' → In k cs
  less_In k i = elim takes [
    | Fresh none ik bk im bm same ↦ subst (In k) same i
    | Kept at c e there laid same ↦ subst (In k) (split_at cs at c there) (elim (In-cases k (take at cs) (drop (suc at) cs) (subst (In k) same i)) [
      | inl h ↦ In-left k (take at cs) (c ∷ drop (suc at) cs) h
      | inr h ↦ In-right k (take at cs) (c ∷ drop (suc at) cs) (inr h)
    ])
  ]

  -- a cleared file is that one or stays
  In_less : (k : Made) → In k cs → In k cs' ⊎ ((at : ℕ) × (slice_get cs at ≡ Some k) × (position (λ m. m.ino == ino) cs ≡ Some at) × (l ≡ k.laid))
  In_less k i = elim takes [
    | Fresh none ik bk im bm same ↦ inl (subst (In k) (sym same) i)
    | Kept at c e there laid same ↦ elim (In-cases k (take at cs) (c ∷ drop (suc at) cs) (subst (In k) (sym (split_at cs at c there)) i)) [
      | inl h ↦ inl (subst (In k) (sym same) (In-left k (take at cs) (drop (suc at) cs) h))
      | inr h ↦ elim h [
        | inr q ↦ inl (subst (In k) (sym same) (In-right k (take at cs) (drop (suc at) cs) q))
        | inl it ↦ inr (at, there ∙ ap Some (sym it), e, laid ∙ ap (λ (z : Made). z.laid) (sym it))
      ]
    ]
  ]

  -- the numbers of those that stay stand once, and that one's isn't among them
  less_once : are_new [] (numbers cs) ≡ true → (are_new [] (numbers cs') ≡ true) × (In ino (numbers cs') → ⊥)
  less_once new = elim takes [
    | Fresh none ik bk im bm same ↦ (
      ap (λ ms. are_new [] (numbers ms)) same ∙ new,
      λ i. none-In (λ (m : Made). m.ino) cs ino none (subst (λ ms. In ino (numbers ms)) same i),
    )
    | Kept at c e there laid same ↦
        let key : Made → ℕ = λ m. m.ino in
        let a = numbers (take at cs) in
        let d = numbers (drop (suc at) cs) in
        let number = eqb-true c.ino ino (position-passes (λ (m : Made). eqb m.ino ino) cs at c e there) in
        let before : numbers cs ≡ a ++ c.ino ∷ d = ap numbers (sym (split_at cs at c there)) ∙ map-append key (take at cs) (c ∷ drop (suc at) cs) in
        let after : numbers cs' ≡ a ++ d = ap numbers same ∙ map-append key (take at cs) (drop (suc at) cs) in
        let all : are_new [] (a ++ c.ino ∷ d) ≡ true = ap (are_new []) (sym before) ∙ new in
        let parts = are_new-parts a (c.ino ∷ d) all in
        let first = are_new-first c.ino d parts.0 in (
          ap (are_new []) after ∙ are_new-join a d (are_new-front a (c.ino ∷ d) all) first.1 (λ n i j. parts.1 n i (inr j)),
          λ i. elim (In-cases c.ino a d (subst (In c.ino) after (subst (λ n. In n (numbers cs')) (sym number) i))) [
            | inl h ↦ parts.1 c.ino h (inl refl)
            | inr h ↦ first.0 h
          ],
        )
  ]

  -- and are shown so
  pub less_shown : (b : Parcel) → are_new [] (numbers cs) ≡ true → map (made_seen b) cs' ≡ filter (λ m. not (eqb m.ino ino)) (map (made_seen b) cs)
  less_shown b new =
      let key : Made → ℕ = λ m. m.ino in
      let others : filter (λ m. not (eqb m.ino ino)) (map (made_seen b) cs) ≡ map (made_seen b) (filter (λ m. not (eqb m.ino ino)) cs) = filter-map (made_seen b) (λ (m : MadeFile). not (eqb m.ino ino)) cs in
      elim takes [
        | Fresh none ik bk im bm same ↦ ap (map (made_seen b)) same ∙ sym (others ∙ ap (map (made_seen b)) (others_all key cs ino (none-In key cs ino none)))
        | Kept at c e there laid same ↦
            let number = eqb-true c.ino ino (position-passes (λ (m : Made). eqb m.ino ino) cs at c e there) in
            ap (map (made_seen b)) (same ∙ others_one key cs ino at c new there number) ∙ sym others
      ]

  pub less_many : length cs' ≤ length cs
  less_many = elim takes [
    | Fresh none ik bk im bm same ↦ (let e : length cs' ≡ length cs = ap (λ (ms : List Made). length ms) same in omega (arith, e))
    | Kept at c e there laid same ↦
        let e : length cs' ≡ length (take at cs ++ drop (suc at) cs) = ap (λ (ms : List Made). length ms) same in
        let one = length-removed cs at c there in
        omega (arith, e, one)
  ]

-- a cleared file that isn't shown isn't there
pub uncleared : (s : SessionSeen) (b : Parcel) (ls : List Laid) (ms cs : List Made) (ino : ℕ) → Shows s (files_of b ls ms cs) → cleared_file s ino ≡ None → position (λ m. eqb m.ino ino) cs ≡ None
uncleared s b ls ms cs ino shows none = by (position (λ (m : Made). eqb m.ino ino) cs) refl
  where
    by : (o : Option ℕ) → position (λ (m : Made). eqb m.ino ino) cs ≡ o → position (λ (m : Made). eqb m.ino ino) cs ≡ None
    by None e = e
    by (Some j) e =
        let c = position-at (λ (m : Made). eqb m.ino ino) cs j e in
        absurd (let t : None ≡ Some (made_seen b c.0) = sym none ∙ ap (find (λ (k : MadeFile). eqb k.ino ino)) shows.cleared ∙ made_there b cs ino j c.0 e c.1.0 in cc t)

-- the last of the files that were made is found by its number
pub found_last : (b : Parcel) (ls : List Laid) (ms cs : List Made) (m : Made) (ms' : List Made) → ms' ≡ ms ++ m ∷ [] → are_new [] (map (λ k. k.ino) ((ms ++ m ∷ []) ++ cs)) ≡ true
    → FoundAt b ls ms' m.ino (file_of m) m.laid
found_last b ls ms cs m ms' are once =
    let key : Made → ℕ = λ k. k.ino in
    let front = are_new-front (map key (ms ++ m ∷ [])) (map key cs) (ap (are_new []) (sym (map-append key (ms ++ m ∷ []) cs)) ∙ once) in
    let there : slice_get (ms ++ m ∷ []) (length ms) ≡ Some m = ap (slice_get (ms ++ m ∷ [])) (let t : length ms ≡ length ms + 0 = omega arith in t) ∙ get-behind ms (m ∷ []) 0 in
    subst (λ xs. FoundAt b ls xs m.ino (file_of m) m.laid) (sym are)
    (AmongMade (length ms) m (position-once key (ms ++ m ∷ []) m.ino (length ms) m front there refl) there refl refl)

-- ---- the files with one more

module _ (s : SessionSeen) (placed : ℕ) (reads : List Shown) (b : Parcel) (ls : List Laid) (ms cs cs' : List Made) (m : Made) (shows : Shows s (files_of b ls ms cs)) (lent : s.reads ≡ reads) (laid : AreLaid b ls)
    (made : AreMade placed reads (files_of b ls ms cs)) (at : IsMadeAt s m.ino m.kind m.page m.slot) (takes : TakesLaid cs m.ino m.laid cs') where
  -- no file has the number, and none is lent by it for reading
  closed : (open_kind s m.ino ≡ None) × (read_file s m.ino ≡ None)
  closed = grant_none (open_kind s m.ino) (held_file s m.ino) (read_file s m.ino) at.may.nothing

  not_open : (n : ℕ) → n ≡ m.ino → IsTrue (is_some (open_kind s n)) → ⊥
  not_open n same e = false≢true (sym (ap is_some (ap (open_kind s) same ∙ closed.0)) ∙ e)

  not_made : In m.ino (map (λ k. k.ino) ms) → ⊥
  not_made i =
      let k = map-In (λ (z : Made). z.ino) m.ino ms i in
      not_open k.0.ino (sym k.2) (made_one s placed reads (files_of b ls ms cs) k.0 shows made k.1).is_open

  not_lent : In m.ino (file_numbers b.writes ++ map (λ f. f.ino) reads) → ⊥
  not_lent i = elim (In-cases m.ino (file_numbers b.writes) (map (λ (f : Shown). f.ino) reads) i) [
    | inl h ↦
        let f = map-In (λ (z : LentFile). z.stands.ino) m.ino b.writes h in
        let j = In-slice_get f.0 b.writes f.1 in
        let within : j.0 < length ls = (let e = laid.beside in let lt = slice_get_within b.writes j.0 f.0 j.1 in omega (arith, e, lt)) in
        let l = slice_get-within ls j.0 within in
        not_open f.0.stands.ino (sym f.2) (written_one s placed reads (files_of b ls ms cs) j.0 f.0 l.0 shows laid made j.1 l.1).is_open
    | inr h ↦
        let f = map-In (λ (z : Shown). z.ino) m.ino reads h in
        let found = In-find (λ (z : Shown). eqb z.ino m.ino) reads f.0 f.1 (eq-eqb f.0.ino m.ino (sym f.2)) in
        absurd (let t : None ≡ Some found.0 = sym closed.1 ∙ ap (find (λ (z : Shown). eqb z.ino m.ino)) lent ∙ found.1 in cc t)
  ]

  -- the numbers, with one more
  numbered_more : AreNumbered reads (files_of b ls (ms ++ m ∷ []) cs')
  numbered_more =
      let key : Made → ℕ = λ k. k.ino in
      let all : are_new [] (map key ms ++ map key cs) ≡ true = ap (are_new []) (sym (map-append key ms cs)) ∙ made.numbered.once in
      let parts = are_new-parts (map key ms) (map key cs) all in
      let less = less_once cs cs' m.ino m.laid takes parts.0 in
      let front = are_new-join (map key ms) (m.ino ∷ []) (are_new-front (map key ms) (map key cs) all) refl (λ n i j. elim j [
        | inr none ↦ none
        | inl same ↦ not_made (subst (λ q. In q (map key ms)) same i)
      ]) in
      let each : (k : Made) → In k ((ms ++ m ∷ []) ++ cs') → In k (ms ++ cs) ⊎ (k ≡ m) = λ k i.
      elim (In-cases k (ms ++ m ∷ []) cs' i) [
        | inr h ↦ inl (In-right k ms cs (less_In cs cs' m.ino m.laid takes k h))
        | inl h ↦ elim (In-cases k ms (m ∷ []) h) [
          | inl q ↦ inl (In-left k ms cs q)
          | inr q ↦ elim q [ inr none ↦ absurd none | inl same ↦ inr same ]
        ]
      ] in
      let split : map key ((ms ++ m ∷ []) ++ cs') ≡ (map key ms ++ m.ino ∷ []) ++ map key cs' =
      map-append key (ms ++ m ∷ []) cs' ∙ ap (λ xs. xs ++ map key cs') (map-append key ms (m ∷ [])) in
      record {
        allotted = λ k i. elim (each k i) [
          | inl old ↦ made.numbered.allotted k old
          | inr same ↦
              subst (λ (z : Made). In z.ino (ino_numbers b.inodes)) (sym same)
              (is_among-In m.ino (ino_numbers b.inodes) (subst (λ (c : Parcel). IsTrue (is_among m.ino (ino_numbers c.inodes))) shows.parcel at.allotted))
        ];
        once = ap (are_new []) split ∙ are_new-join (map key ms ++ m.ino ∷ []) (map key cs') front less.0 (λ n i j. elim (In-cases n (map key ms) (m.ino ∷ []) i) [
          | inl h ↦ (let k = map-In key n cs' j in parts.1 n h (subst (λ q. In q (map key cs)) (sym k.2) (In-map key k.0 cs (less_In cs cs' m.ino m.laid takes k.0 k.1))))
          | inr h ↦ elim h [ inr none ↦ none | inl same ↦ less.1 (subst (λ q. In q (map key cs')) same j) ]
        ]);
        new = λ k i j. elim (each k i) [
          | inl old ↦ made.numbered.new k old j
          | inr same ↦ not_lent (subst (λ (z : Made). In z.ino (file_numbers b.writes ++ map (λ (f : Shown). f.ino) reads)) same j)
        ];
        read = made.numbered.read;
      }

  -- the page of its slot
  the_sheet : (x : Sheet) × (sheet_at b m.page ≡ Some x)
  the_sheet = by (sheet_at b m.page) refl (subst (λ c. IsTrue (is_some (sheet_at c m.page))) shows.parcel at.there)
    where
      by : (o : Option Sheet) → sheet_at b m.page ≡ o → IsTrue (is_some o) → (x : Sheet) × (sheet_at b m.page ≡ Some x)
      by None e t = absurd (false≢true t)
      by (Some x) e t = (x, e)

  -- the cleared file that it was
  was_cleared : (j : ℕ) (c : Made) → slice_get cs j ≡ Some c → IsFile b (file_of c) c.laid
  was_cleared j c there = (made.cleared c (slice_get-In cs j c there)).file

  file_more : IsFile b (file_of m) m.laid
  file_more =
      let x = the_sheet in
      let body = body_in_slot m.slot x.0.bytes in
      record {
        shown = slot_file body;
        there = shown_at-InSlot b m.page m.slot x.0 x.1;
        slot = at.below;
        laid = elim takes [
          | Fresh none ik bk im bm same ↦ no_pages b.pages m.laid body ik bk im bm
          | Kept j c e there l same ↦ subst (IsLaid (slot_file body) b.pages) (sym l) (other_slot b c.page c.slot c.laid body (was_cleared j c there))
        ];
      }

  -- as the session shows that one
  cleared_seen : (j : ℕ) (c : Made) → position (λ k. k.ino == m.ino) cs ≡ Some j → slice_get cs j ≡ Some c → cleared_file s m.ino ≡ Some (made_seen b c)
  cleared_seen j c e there = ap (find (λ (k : MadeFile). eqb k.ino m.ino)) shows.cleared ∙ made_there b cs m.ino j c e there

  as_cleared : (j : ℕ) (c : Made) → position (λ k. k.ino == m.ino) cs ≡ Some j → slice_get cs j ≡ Some c → m.laid ≡ c.laid → IsAs b (of_made c) (of_made m)
  as_cleared j c e there l =
      record {
        ino = sym (eqb-true c.ino m.ino (position-passes (λ (k : Made). eqb k.ino m.ino) cs j c e there));
        kind = sym at.may.same ∙ ap (λ o. option_map_or (λ (k : MadeFile). k.kind) o m.kind) (cleared_seen j c e there);
        places = ap fresh_places l;
        chain = slot_chain b m.page m.slot m.laid file_more ∙ ap (chain_laid (slot_file []) b.pages) l ∙ sym (slot_chain b c.page c.slot c.laid (was_cleared j c there));
      }

  bare_new : m.laid.index_kept ≡ 0 → m.laid.blocks_kept ≡ 0 → m.laid.index_more.items ≡ [] → m.laid.blocks_more.items ≡ [] → chain_at b (file_of m) m.laid ≡ no_chain
  bare_new ik bk im bm =
      let v : List ℕ → List ℕ → Chain = λ xs ys. record { index = take m.laid.index_kept [] ++ map (fresh_number b.pages) xs; blocks = take m.laid.blocks_kept [] ++ map (fresh_number b.pages) ys } in
      slot_chain b m.page m.slot m.laid file_more ∙ ap (λ xs. v xs m.laid.blocks_more.items) im ∙ ap (v []) bm ∙ rw (ik, bk) refl

  have_same : HasSame b (files_of b ls ms cs) (files_of b ls (ms ++ m ∷ []) cs')
  have_same = record {
    was = λ y one. elim one [
      | Written i f l ef el is ↦ inl (y, Written i f l ef el is, as_same b y)
      | WasMade k i is ↦ elim (In-cases k (ms ++ m ∷ []) cs' i) [
        | inr h ↦ inl (y, WasMade k (In-right k ms cs (less_In cs cs' m.ino m.laid takes k h)) is, as_same b y)
        | inl h ↦ elim (In-cases k ms (m ∷ []) h) [
          | inl q ↦ inl (y, WasMade k (In-left k ms cs q) is, as_same b y)
          | inr q ↦ elim q [
            | inr none ↦ absurd none
            | inl same ↦ elim takes [
              | Fresh none ik bk im bm same' ↦
                  let bare : IsBare b (of_made m) = record { places = ap (λ xs. xs ++ m.laid.blocks_more.items) im ∙ bm; blocks = ap (λ (c : Chain). c.blocks) (bare_new ik bk im bm) } in
                  inr (subst (IsBare b) (sym (is ∙ ap of_made same)) bare)
              | Kept j c e there l same' ↦ inl (of_made c, WasMade c (In-right c ms cs (slice_get-In cs j c there)) refl, subst (IsAs b (of_made c)) (sym (is ∙ ap of_made same)) (as_cleared j c e there l))
            ]
          ]
        ]
      ]
    ];
    now = λ x one. elim one [
      | Written i f l ef el is ↦ (x, Written i f l ef el is, as_same b x)
      | WasMade k i is ↦ elim (In-cases k ms cs i) [
        | inl h ↦ (x, WasMade k (In-left k (ms ++ m ∷ []) cs' (In-left k ms (m ∷ []) h)) is, as_same b x)
        | inr h ↦ elim (In_less cs cs' m.ino m.laid takes k h) [
          | inl q ↦ (x, WasMade k (In-right k (ms ++ m ∷ []) cs' q) is, as_same b x)
          | inr q ↦ (of_made m, WasMade m (In-left m (ms ++ m ∷ []) cs' (In-right m ms (m ∷ []) (inl refl))) refl, subst (λ z. IsAs b z (of_made m)) (sym is) (as_cleared q.0 k q.2 q.1 q.3))
        ]
      ]
    ];
  }

  -- its chain is the one that the session shows, and as long as its body says
  pub chain_kept : chain_at b (file_of m) m.laid ≡ kept_chain s m.ino
  chain_kept = elim takes [
    | Fresh none ik bk im bm same ↦
        let missing : cleared_file s m.ino ≡ None = ap (find (λ (k : MadeFile). eqb k.ino m.ino)) shows.cleared ∙ made_missing b cs m.ino none in
        bare_new ik bk im bm ∙ sym (ap (λ o. option_map_or (λ (k : MadeFile). k.chain) o no_chain) missing)
    | Kept j c e there l same ↦ (as_cleared j c e there l).chain ∙ sym (ap (λ o. option_map_or (λ (k : MadeFile). k.chain) o no_chain) (cleared_seen j c e there))
  ]

  kept_long : length (chain_at b (file_of m) m.laid).index ≡ index_count (length (chain_at b (file_of m) m.laid).blocks)
  kept_long = elim takes [
    | Fresh none ik bk im bm same ↦ (let bare = bare_new ik bk im bm in ap (λ (c : Chain). length c.index) bare ∙ sym (ap (λ (c : Chain). index_count (length c.blocks)) bare))
    | Kept j c e there l same ↦
        let same_chain = (as_cleared j c e there l).chain in
        ap (λ (c : Chain). length c.index) same_chain ∙ (made.cleared c (slice_get-In cs j c there)).chain ∙ sym (ap (λ (c : Chain). index_count (length c.blocks)) same_chain)
  ]

  body_more : body_at b (file_of m) ≡ body_in_slot m.slot (page_in s.parcel (number_at s.parcel m.page))
  body_more = body_at-InSlot b m.page m.slot made.apart (ap is_some file_more.there) ∙ ap (λ c. body_in_slot m.slot (page_in c (number_at c m.page))) (sym shows.parcel)

  chain_more : HasChain b (file_of m) m.laid
  chain_more =
      let count : length (chain_at b (file_of m) m.laid).blocks ≡ block_count (size_in (body_at b (file_of m))) = ap (λ (c : Chain). length c.blocks) chain_kept ∙ sym at.may.blocks ∙ ap (λ w. block_count (size_in w)) (sym body_more) in
      record { blocks = count; index = kept_long ∙ ap index_count count }

  -- the block of its slot
  home_more : IsBlock (files_of b ls ms cs) (number_at b m.page)
  home_more =
      let fs = files_of b ls ms cs in
      let dir = there_found fs at.dir laid (is_there s fs at.dir shows (ap is_some at.is_open)) in
      let found = found_one s fs at.dir dir.0 dir.1 shows dir.2 in
      let on = file_on s fs at.dir dir.0 dir.1 shows laid made.apart made.made dir.2 in
      let kinds : Some found.one.kind ≡ Some Directory = sym found.kind ∙ at.is_open in
      let chain : chain_in s at.dir ≡ chain_at b found.one.file found.one.laid =
      sym on.chain ∙ ap (λ c. chain_at c dir.0 dir.1) shows.parcel ∙ ap (λ f. chain_at b f dir.1) (sym found.place) ∙ ap (chain_at b found.one.file) (sym found.laid) in
      record {
        dir = found.one;
        one = found.is;
        directory = cc kinds;
        block = subst (λ (c : Chain). In (number_at b m.page) c.blocks) chain (subst (λ c. In (number_at c m.page) (chain_in s at.dir).blocks) shows.parcel at.home);
      }

  made_more : (k : Made) → In k (ms ++ m ∷ []) → IsMade (files_of b ls (ms ++ m ∷ []) cs') k
  made_more k i =
      let after = files_of b ls (ms ++ m ∷ []) cs' in
      let block : (n : ℕ) → IsBlock (files_of b ls ms cs) n → IsBlock after n = λ n. block_same b ls ls ms (ms ++ m ∷ []) cs cs' n have_same in
      elim (In-cases k ms (m ∷ []) i) [
        | inl h ↦
            let old = made.made k h in
            record { file = old.file; chain = old.chain; home = block (number_at b k.page) old.home; entry = old.entry; whole = old.whole }
        | inr h ↦ elim h [
          | inr none ↦ absurd none
          | inl same ↦
              let it : IsMade after m = record {
                file = file_more;
                chain = chain_more;
                home = block (number_at b m.page) home_more;
                entry = ap (λ c. option_map (λ (e : EntryPart). e.ino) (entry_at c (number_at c m.page) m.slot)) (sym shows.parcel) ∙ at.entry;
                whole = λ dir. ap (λ w. size_in w % 4096) body_more ∙ at.may.whole dir;
              } in
              subst (IsMade after) (sym same) it
        ]
      ]

  -- the files, and the indexes
  pub kept_added : (dirs : List IndexedDir) → AreDirs reads (files_of b ls ms cs) dirs
      → AreMade placed reads (files_of b ls (ms ++ m ∷ []) cs') × AreDirs reads (files_of b ls (ms ++ m ∷ []) cs') dirs
  kept_added dirs are = (
    record {
      apart = made.apart;
      spread = spread_same placed b ls ls ms (ms ++ m ∷ []) cs cs' have_same made.spread;
      numbered = numbered_more;
      made = made_more;
      cleared = λ k i. (let old = made.cleared k (less_In cs cs' m.ino m.laid takes k i) in record { file = old.file; chain = old.chain });
      zero = made.zero;
      whole = made.whole;
    },
    dirs_same reads b ls ls ms (ms ++ m ∷ []) cs cs' dirs have_same are,
  )
