-- A lease that was granted keeps a session's files and indexes.
use Rattle.trio_rights.specs.ByKind.{guard_fits}
use Rattle.trio_session.proofs.Words.{if◌then◌else◌, ◌%◌, ◌&&◌, ◌++◌, ◌<◌, ◌∙◌, ◌∷◌, ◌≡◌, ◌⊎◌, AreApart, AreDirs, AreLaid, AreMade, AreRead, Block, Bool, Chain, CoreRange, DeskSeen, Directory, HasLent, Hold, In, In-cases, In-left, In-map, In-right, IndexedDir, IsFreshLease, IsIndexed, IsNewLaid, IsOn, IsOne, IsTrue, Kind, Laid, LaidLeased, Lease, Leased, LentFile, LentPage, LibNo, LibOut, List, Made, None, OneFile, Parcel, Read, SessionSeen, Shown, Sizes, Some, WasMade, Write, Written, [], and_parts, ap, are_new, arith, block_count, bytes_eq, chain_at, dir_numbers, dir_pages, eqb, eqb-true, false, file_numbers, fresh_places, hold_numbers, inl, ino_numbers, inr, length, length-append, lent_chain, lent_numbers, lent_sheet, made_seen, map, map-append, of_written, option_map, page_in, pages_of, reads_leased, refl, size_in, slice_get, slice_get-map, slice_get_within, subst, suc, sym, true, with_leased, ℕ}
use Rattle.std.specs.Prelude.{nat_le}
use Rattle.trio_layout.specs.Body.{body_at, body_bytes, body_fits, body_of, head_fits, size_fits}
use Rattle.trio_layout.specs.declared.body.Body.{Body}
use Rattle.trio_layout.specs.Range.{core_count}
use Rattle.trio_session.proofs.Chains.{chain_there}
use Rattle.trio_session.proofs.Dirs.{indexed_leased}
use Rattle.trio_session.proofs.Given.{left_at, push_at}
use Rattle.trio_session.proofs.Kept.{files_of}
use Rattle.trio_session.proofs.More.{More, cleared_more, cleared_seen-more, index_here, made_more, made_seen-more, pages_more}
use Rattle.trio_nodes.specs.declared.node.Node.{Node}
use Rattle.trio_desk.specs.Refusals.{HasKind, file_kind}
use Rattle.trio_session.proofs.Needs.{file_out, holds_more, last_at, new_chain, push_more}
use Rattle.trio_session.proofs.Places.{block_at, page_at, shown_at-Leased}
use Rattle.trio_session.proofs.Slots.{well_read}

-- the number on which it is granted has no other file of the session, nor is it an allotted one
pub record IsUnused (reads : List Shown) (b : Parcel) (ino : ℕ) : Type 0 where
  pub allotted : In ino (ino_numbers b.inodes) → ⊥
  pub written : In ino (file_numbers b.writes) → ⊥
  pub read : In ino (map (λ f. f.ino) reads) → ⊥

-- an index of a directory that is lent for reading stays one
indexed_still : (reads : List Shown) (lease : Lease) (d : IndexedDir) → IsIndexed reads d → IsIndexed (reads_leased reads lease) d
indexed_still reads lease d is = indexed_leased reads lease (d ∷ []) (λ z i. elim i [ inr none ↦ absurd none | inl same ↦ subst (IsIndexed reads) (sym same) is ]) d (inl refl)

-- ---- one more read lease

read_leased : (placed : ℕ) (reads : List Shown) (b : Parcel) (ls : List Laid) (ms cs : List Made) (dirs : List IndexedDir) (f : Shown) → IsUnused reads b f.ino
    → AreMade placed reads (files_of b ls ms cs) → AreDirs reads (files_of b ls ms cs) dirs
    → AreMade placed (reads ++ f ∷ []) (files_of b ls ms cs) × AreDirs (reads ++ f ∷ []) (files_of b ls ms cs) dirs
read_leased placed reads b ls ms cs dirs f unused made are =
    let key : Shown → ℕ = λ g. g.ino in (
      record {
        apart = made.apart;
        spread = made.spread;
        numbered = record {
          allotted = made.numbered.allotted;
          once = made.numbered.once;
          new = λ m i j. elim (In-cases m.ino (file_numbers b.writes) (map key (reads ++ f ∷ [])) j) [
            | inl h ↦ made.numbered.new m i (In-left m.ino (file_numbers b.writes) (map key reads) h)
            | inr h ↦ elim (In-cases m.ino (map key reads) (f.ino ∷ []) (subst (In m.ino) (map-append key reads (f ∷ [])) h)) [
              | inl k ↦ made.numbered.new m i (In-right m.ino (file_numbers b.writes) (map key reads) k)
              | inr k ↦ elim k [ inr none ↦ none | inl same ↦ unused.allotted (subst (λ n. In n (ino_numbers b.inodes)) same (made.numbered.allotted m i)) ]
            ]
          ];
          read = λ g i j. elim (In-cases g reads (f ∷ []) i) [
            | inl h ↦ made.numbered.read g h j
            | inr h ↦ elim h [ inr none ↦ none | inl same ↦ unused.written (subst (λ (z : Shown). In z.ino (file_numbers b.writes)) same j) ]
          ];
        };
        made = made.made;
        cleared = made.cleared;
        zero = made.zero;
        whole = made.whole;
      },
      record {
        once = are.once;
        indexed = λ d i. elim (are.indexed d i) [
          | inl here ↦ inl here
          | inr is ↦ inr (indexed_still reads (Read f) d is)
        ];
        readable = are.readable;
      },
    )

-- ---- one more hold

module _ (placed : ℕ) (reads : List Shown) (b : Parcel) (ls : List Laid) (ms cs : List Made) (dirs : List IndexedDir) (b' : Parcel) (more : More b b') (writes : b'.writes ≡ b.writes) (inodes : b'.inodes ≡ b.inodes)
    (pages : b'.pages ≡ b.pages) (laid : AreLaid b ls) (made : AreMade placed reads (files_of b ls ms cs)) (are : AreDirs reads (files_of b ls ms cs) dirs) (apart' : AreApart b') where
  hold_back : (x : OneFile) → IsOne (files_of b' ls ms cs) x → IsOne (files_of b ls ms cs) x
  hold_back x (Written at f l ef el is) = Written at f l (ap (λ fs. slice_get fs at) (sym writes) ∙ ef) el is
  hold_back x (WasMade m i is) = WasMade m i is

  hold_left : (x : OneFile) → IsOne (files_of b ls ms cs) x → IsOne (files_of b' ls ms cs) x
  hold_left x (Written at f l ef el is) = Written at f l (ap (λ fs. slice_get fs at) writes ∙ ef) el is
  hold_left x (WasMade m i is) = WasMade m i is

  hold_leased : AreMade placed reads (files_of b' ls ms cs) × AreDirs reads (files_of b' ls ms cs) dirs
  hold_leased = (
    record {
      apart = apart';
      spread = record {
        once = λ x one. made.spread.once x (hold_back x one);
        apart = λ x y at one other i j. made.spread.apart x y at (hold_back x one) (hold_back y other) i j;
        below = λ x at one i. made.spread.below x at (hold_back x one) i;
      };
      numbered = record {
        allotted = λ m i. subst (λ ns. In m.ino (ino_numbers ns)) (sym inodes) (made.numbered.allotted m i);
        once = made.numbered.once;
        new = λ m i j. made.numbered.new m i (subst (λ fs. In m.ino (file_numbers fs ++ map (λ (f : Shown). f.ino) reads)) writes j);
        read = λ f i j. made.numbered.read f i (subst (λ fs. In f.ino (file_numbers fs)) writes j);
      };
      made = made_more placed reads b b' more ls ls ms cs laid made apart' hold_left;
      cleared = cleared_more placed reads b b' more ls ls ms cs laid made apart' hold_left;
      zero = λ at p le e. made.zero at p le (ap (λ ps. slice_get ps at) (sym pages) ∙ e);
      whole = λ f i dir. made.whole f (subst (In f) writes i) dir;
    },
    record {
      once = are.once;
      indexed = λ d i. elim (are.indexed d i) [
        | inl here ↦ inl (index_here placed reads b b' more ls ls ms cs laid made apart' hold_left d here)
        | inr is ↦ inr is
      ];
      readable = λ x one dir. elim (are.readable x (hold_back x one) dir) [
        | inl i ↦ inl i
        | inr read ↦ inr (subst AreRead (sym (pages_more placed reads b b' more ls ls ms cs laid made apart' hold_left x (hold_back x one))) read)
      ];
    },
  )

-- ---- one more written file

-- a directory that is lent has whole blocks
whole_body : (kind : Kind) (range : CoreRange) (bytes : List ℕ) → body_of kind range bytes ≡ Some (body_at bytes) → kind ≡ Directory → size_in bytes % 4096 ≡ 0
unfolding body_of
whole_body kind range bytes e dir =
    let b = body_at bytes in
    let both = some_if (bytes_eq bytes (body_bytes b) && body_fits kind range b) b b e in
    let fits = (and_parts (bytes_eq bytes (body_bytes b)) (body_fits kind range b) both).1 in
    let three = and_parts (nat_le b.mode.0 511 && nat_le (block_count b.size) (core_count range) && size_fits kind b.size && head_fits range (block_count b.size) b.head) (guard_fits kind b.guard) fits in
    let two = and_parts (nat_le b.mode.0 511 && nat_le (block_count b.size) (core_count range) && size_fits kind b.size) (head_fits range (block_count b.size) b.head) three.0 in
    let one = and_parts (nat_le b.mode.0 511 && nat_le (block_count b.size) (core_count range)) (size_fits kind b.size) two.0 in
    let size : size_fits Directory b.size ≡ true = subst (λ k. size_fits k b.size ≡ true) dir one.1 in
    eqb-true (b.size % 4096) 0 size
  where
    some_if : (t : Bool) (x y : Body) → (if t then Some x else None) ≡ Some y → t ≡ true
    some_if true x y e = refl
    some_if false x y e = absurd (let u : None ≡ Some y = e in cc u)

map_pages : (g : ℕ → List ℕ) (ps : List LentPage) → ((k : ℕ) (p : LentPage) → slice_get ps k ≡ Some p → g p.no.0 ≡ p.page) → map g (lent_numbers ps) ≡ map (λ p. p.page) ps
map_pages g [] each = refl
map_pages g (p ∷ ps) each = ap (λ x. x ∷ map g (lent_numbers ps)) (each 0 p refl) ∙ ap (λ xs. p.page ∷ xs) (map_pages g ps (λ k q e. each (suc k) q e))

module _ (placed : ℕ) (reads : List Shown) (b : Parcel) (ls : List Laid) (ms cs : List Made) (dirs : List IndexedDir) (f : LentFile) (l : Laid) (ino : ℕ) (lib : LibNo) (sizes : Sizes) (out : LibOut)
    (fresh : IsFreshLease lib ino sizes out (Write f)) (new : IsNewLaid f l) (unused : IsUnused reads b ino) (laid : AreLaid b ls) (made : AreMade placed reads (files_of b ls ms cs))
    (are : AreDirs reads (files_of b ls ms cs) dirs) (apart' : AreApart (record b { writes = b.writes ++ f ∷ [] })) where
  abbrev b' : Parcel
  b' = record b { writes = b.writes ++ f ∷ [] }

  abbrev ls' : List Laid
  ls' = ls ++ l ∷ []

  abbrev newest : OneFile
  newest = of_written (length b.writes) f l

  number : f.stands.ino ≡ ino
  number = ap (λ (g : Shown). g.ino) fresh.is.as_lent ∙ fresh.is.ino

  write_left : (x : OneFile) → IsOne (files_of b ls ms cs) x → IsOne (files_of b' ls' ms cs) x
  write_left x (Written at g k eg ek is) = Written at g k (left_at b.writes (f ∷ []) at g eg) (left_at ls (l ∷ []) at k ek) is
  write_left x (WasMade m i is) = WasMade m i is

  write_back : (x : OneFile) → IsOne (files_of b' ls' ms cs) x → IsOne (files_of b ls ms cs) x ⊎ (x ≡ newest)
  write_back x (WasMade m i is) = inl (WasMade m i is)
  write_back x (Written at g k eg ek is) = elim (push_at b.writes f at g eg) [
    | inl h ↦ elim (push_at ls l at k ek) [
      | inl q ↦ inl (Written at g k h q is)
      | inr q ↦ absurd (let lt = slice_get_within b.writes at g h in let e = laid.beside in let a = q.0 in omega (arith, lt, e, a))
    ]
    | inr h ↦ elim (push_at ls l at k ek) [
      | inl q ↦ absurd (let lt = slice_get_within ls at k q in let e = laid.beside in let a = h.0 in omega (arith, lt, e, a))
      | inr q ↦ inr (is ∙ ap (λ n. of_written n g k) h.0 ∙ ap (λ z. of_written (length b.writes) z k) (sym h.1) ∙ ap (of_written (length b.writes) f) (sym q.1))
    ]
  ]

  bare : fresh_places l ≡ []
  bare = ap (λ xs. xs ++ l.blocks_more.items) new.index_more ∙ new.blocks_more

  there : slice_get b'.writes (length b.writes) ≡ Some f
  there = last_at b.writes f

  -- its blocks are those that were lent
  newest_pages : pages_of b' newest ≡ dir_pages f.lent
  newest_pages =
      ap (λ (c : Chain). map (page_in b') c.blocks) (chain_there b' (Leased (length b.writes)) l f.stands (shown_at-Leased b' (length b.writes) f there) ∙ new_chain f b.pages l fresh.is.as_lent new)
      ∙ ap (λ (s : Shown). map (page_in b') (lent_numbers s.blocks)) (sym fresh.is.as_lent)
      ∙ map_pages (page_in b') f.stands.blocks (λ k p e. page_at b' (Block (length b.writes) k) (lent_sheet p) apart' (block_at b' (length b.writes) k f p there e))
      ∙ ap dir_pages fresh.is.as_lent

  write_leased : AreMade placed reads (files_of b' ls' ms cs) × AreDirs reads (files_of b' ls' ms cs) dirs
  write_leased =
      let more = push_more b f in
      let key : LentFile → ℕ = λ g. g.stands.ino in
      let numbers : file_numbers b'.writes ≡ file_numbers b.writes ++ f.stands.ino ∷ [] = map-append key b.writes (f ∷ []) in (
        record {
          apart = apart';
          spread = record {
            once = λ x one. elim (write_back x one) [
              | inl old ↦ made.spread.once x old
              | inr same ↦ ap (λ (y : OneFile). are_new [] (fresh_places y.laid)) same ∙ ap (are_new []) bare
            ];
            apart = λ x y at one other i j. elim (write_back x one) [
              | inr same ↦ absurd (subst (In at) (ap (λ (z : OneFile). fresh_places z.laid) same ∙ bare) i)
              | inl old ↦ elim (write_back y other) [
                | inr same ↦ absurd (subst (In at) (ap (λ (z : OneFile). fresh_places z.laid) same ∙ bare) j)
                | inl was ↦ made.spread.apart x y at old was i j
              ]
            ];
            below = λ x at one i. elim (write_back x one) [
              | inr same ↦ absurd (subst (In at) (ap (λ (z : OneFile). fresh_places z.laid) same ∙ bare) i)
              | inl old ↦ made.spread.below x at old i
            ];
          };
          numbered = record {
            allotted = made.numbered.allotted;
            once = made.numbered.once;
            new = λ m i j. elim (In-cases m.ino (file_numbers b'.writes) (map (λ (g : Shown). g.ino) reads) j) [
              | inr h ↦ made.numbered.new m i (In-right m.ino (file_numbers b.writes) (map (λ (g : Shown). g.ino) reads) h)
              | inl h ↦ elim (In-cases m.ino (file_numbers b.writes) (f.stands.ino ∷ []) (subst (In m.ino) numbers h)) [
                | inl k ↦ made.numbered.new m i (In-left m.ino (file_numbers b.writes) (map (λ (g : Shown). g.ino) reads) k)
                | inr k ↦ elim k [ inr none ↦ none | inl same ↦ unused.allotted (subst (λ n. In n (ino_numbers b.inodes)) (same ∙ number) (made.numbered.allotted m i)) ]
              ]
            ];
            read = λ g i j. elim (In-cases g.ino (file_numbers b.writes) (f.stands.ino ∷ []) (subst (In g.ino) numbers j)) [
              | inl k ↦ made.numbered.read g i k
              | inr k ↦ elim k [ inr none ↦ none | inl same ↦ unused.read (subst (λ n. In n (map (λ (h : Shown). h.ino) reads)) (same ∙ number) (In-map (λ (h : Shown). h.ino) g reads i)) ]
            ];
          };
          made = made_more placed reads b b' more ls ls' ms cs laid made apart' write_left;
          cleared = cleared_more placed reads b b' more ls ls' ms cs laid made apart' write_left;
          zero = made.zero;
          whole = λ g i dir. elim (In-cases g b.writes (f ∷ []) i) [
            | inl h ↦ made.whole g h dir
            | inr h ↦ elim h [
              | inr none ↦ absurd none
              | inl same ↦
                  let stands : g.stands ≡ f.lent = ap (λ (z : LentFile). z.stands) same ∙ fresh.is.as_lent in
                  ap (λ (s : Shown). size_in s.body % 4096) stands ∙ whole_body f.lent.kind sizes.range f.lent.body fresh.is.well.body (ap (λ (s : Shown). s.kind) (sym stands) ∙ dir)
            ]
          ];
        },
        record {
          once = are.once;
          indexed = λ d i. elim (are.indexed d i) [
            | inl here ↦ inl (index_here placed reads b b' more ls ls' ms cs laid made apart' write_left d here)
            | inr is ↦ inr is
          ];
          readable = λ x one dir. elim (write_back x one) [
            | inl old ↦ elim (are.readable x old dir) [
              | inl i ↦ inl i
              | inr read ↦ inr (subst AreRead (sym (pages_more placed reads b b' more ls ls' ms cs laid made apart' write_left x old)) read)
            ]
            | inr same ↦
                let kind : f.lent.kind ≡ Directory = ap (λ (s : Shown). s.kind) (sym fresh.is.as_lent) ∙ ap (λ (y : OneFile). y.kind) (sym same) ∙ dir in
                inr (subst (λ (y : OneFile). AreRead (pages_of b' y)) (sym same) (subst AreRead (sym newest_pages) (well_read sizes f.lent fresh.is.well kind)))
          ];
        },
      )

-- ---- a lease

-- the files, and the indexes
pub kept_leased : (placed : ℕ) (reads : List Shown) (b : Parcel) (ls ls' : List Laid) (ms cs : List Made) (dirs : List IndexedDir) (lease : Lease) (ino : ℕ) (lib : LibNo) (sizes : Sizes) (out : LibOut)
    → IsFreshLease lib ino sizes out lease → LaidLeased ls lease ls' → IsUnused reads b ino → AreLaid b ls → AreMade placed reads (files_of b ls ms cs) → AreDirs reads (files_of b ls ms cs) dirs
    → AreApart (with_leased b lease)
    → AreMade placed (reads_leased reads lease) (files_of (with_leased b lease) ls' ms cs) × AreDirs (reads_leased reads lease) (files_of (with_leased b lease) ls' ms cs) dirs
kept_leased placed reads b ls ls' ms cs dirs (Write f) ino lib sizes out fresh new unused laid made are apart =
    subst (λ xs. AreMade placed reads (files_of (with_leased b (Write f)) xs ms cs) × AreDirs reads (files_of (with_leased b (Write f)) xs ms cs) dirs) (sym new.2)
    (write_leased placed reads b ls ms cs dirs f new.0 ino lib sizes out fresh new.1 unused laid made are apart)
kept_leased placed reads b ls ls' ms cs dirs (Read f) ino lib sizes out fresh new unused laid made are apart =
    subst (λ xs. AreMade placed (reads ++ f ∷ []) (files_of b xs ms cs) × AreDirs (reads ++ f ∷ []) (files_of b xs ms cs) dirs) (sym new)
    (read_leased placed reads b ls ms cs dirs f (subst (IsUnused reads b) (sym fresh.is.1) unused) made are)
kept_leased placed reads b ls ls' ms cs dirs (Hold h) ino lib sizes out fresh new unused laid made are apart =
    subst (λ xs. AreMade placed reads (files_of (with_leased b (Hold h)) xs ms cs) × AreDirs reads (files_of (with_leased b (Hold h)) xs ms cs) dirs) (sym new)
    (hold_leased placed reads b ls ms cs dirs (with_leased b (Hold h)) (holds_more b (b.holds ++ h ∷ [])) refl refl refl laid made are apart)

-- made files are shown as before
pub seen_leased : (placed : ℕ) (reads : List Shown) (b : Parcel) (ls ls' : List Laid) (ms cs : List Made) (dirs : List IndexedDir) (lease : Lease) (ino : ℕ) (lib : LibNo) (sizes : Sizes) (out : LibOut)
    → IsFreshLease lib ino sizes out lease → LaidLeased ls lease ls' → IsUnused reads b ino → AreLaid b ls → AreMade placed reads (files_of b ls ms cs) → AreDirs reads (files_of b ls ms cs) dirs
    → AreApart (with_leased b lease)
    → (map (made_seen (with_leased b lease)) ms ≡ map (made_seen b) ms) × (map (made_seen (with_leased b lease)) cs ≡ map (made_seen b) cs)
seen_leased placed reads b ls ls' ms cs dirs (Write f) ino lib sizes out fresh new unused laid made are apart =
    let left = write_left placed reads b ls ms cs dirs f new.0 ino lib sizes out fresh new.1 unused laid made are apart in
    let b' = with_leased b (Write f) in
    let l' = ls ++ new.0 ∷ [] in (
      made_seen-more placed reads b b' (push_more b f) ls l' ms cs laid made apart left,
      cleared_seen-more placed reads b b' (push_more b f) ls l' ms cs laid made apart left,
    )
seen_leased placed reads b ls ls' ms cs dirs (Read f) ino lib sizes out fresh new unused laid made are apart = (refl, refl)
seen_leased placed reads b ls ls' ms cs dirs (Hold h) ino lib sizes out fresh new unused laid made are apart =
    let b' = with_leased b (Hold h) in
    let more = holds_more b (b.holds ++ h ∷ []) in
    let left = hold_left placed reads b ls ms cs dirs b' more refl refl refl laid made are apart in (
      made_seen-more placed reads b b' more ls ls ms cs laid made apart left,
      cleared_seen-more placed reads b b' more ls ls ms cs laid made apart left,
    )

-- a number on which a lease is granted isn't in use
pub unused_granted : (d : DeskSeen) (s : SessionSeen) (ino : ℕ) (lease : Lease) → IsOn d s → IsFreshLease d.lib ino d.sizes d.out lease → HasKind d ino (file_kind lease)
    → ((i : ℕ) (f : LentFile) → slice_get s.parcel.writes i ≡ Some f → HasLent f) → IsUnused s.reads s.parcel ino
unused_granted d s ino lease on fresh cause same = record {
  allotted = λ i.
      let none = cause.moment.none ino ((on.out.numbers ino).1 i) in
      absurd (let t : None ≡ Some (file_kind lease) = sym (ap (option_map (λ (x : Node). x.kind)) none) ∙ cause.kind in cc t);
  written = λ i. fresh.new (file_out s.parcel d.out ino on.out.writes same i);
  read = λ i.
      let ws = map (λ (w : Shown). w.ino) d.out.writes in
      let rs = map (λ (r : Shown). r.ino) d.out.reads in
      fresh.new (In-left ino (ws ++ rs) (hold_numbers d.out.holds) (In-right ino ws rs (subst (λ (xs : List Shown). In ino (map (λ (r : Shown). r.ino) xs)) (sym on.out.reads) i)));
}
