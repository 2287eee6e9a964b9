-- What was allotted keeps a session's files and indexes.
use Rattle.trio_session.proofs.Words.{◌%◌, ◌++◌, ◌∙◌, ◌∷◌, ◌≡◌, ◌⊎◌, Allotted, AreApart, AreDirs, AreLaid, AreMade, AreRead, Chain, EntryPart, FilePlace, FreshParts, In, In-cases, In-left, IndexedDir, InoParts, Inside, IsAt, IsBlock, IsFile, IsFreshAllotment, IsMade, IsOne, Laid, LibNo, LibOut, List, Made, MadeFile, OneFile, PagePlace, Parcel, SessionSeen, Sheet, Shown, Sizes, Some, WasMade, Written, [], ap, chain_at, entry_at, every_number, file_of, index_count, inl, ino_numbers, inr, is_some, length, made_seen, map, map-append, number_at, option_map, option_map_or, page_in, page_numbers, pages_of, refl, size_in, slice_get, slice_get-map, slots_of, subst, sym, with_given, zero_page, zeros, ℕ}
use Rattle.trio_session.proofs.Given.{joined_at}
use Rattle.trio_session.proofs.Kept.{IsFile-one, files_of}
use Rattle.trio_session.proofs.Lists.{In-slice_get}
use Rattle.trio_session.proofs.Owners.{BlockSpot, KeptBlock, MoreBlock, block_spot}
use Rattle.trio_session.proofs.Places.{map_at, slot_parts}
use Rattle.trio_session.proofs.SlotEdits.{entry_on}
use Rattle.trio_session.specs.contracts.session.Session.{the_invariant, the_view}
use Rattle.trio_session.proofs.More.{cleared_more, cleared_seen-more, index_here, made_more, made_seen-more, pages_more}
use Rattle.trio_session.proofs.Wants.{given_chains, given_more}

module _ (placed : ℕ) (reads : List Shown) (b : Parcel) (ls : List Laid) (ms cs : List Made) (given : Allotted) (laid : AreLaid b ls) (made : AreMade placed reads (files_of b ls ms cs))
    (apart' : AreApart (with_given b given)) where
  abbrev b' : Parcel
  b' = with_given b given

  back : (x : OneFile) → IsOne (files_of b' ls ms cs) x → IsOne (files_of b ls ms cs) x
  back x (Written at f l ef el is) = Written at f l ef el is
  back x (WasMade m i is) = WasMade m i is

  left : (x : OneFile) → IsOne (files_of b ls ms cs) x → IsOne (files_of b' ls ms cs) x
  left x (Written at f l ef el is) = Written at f l ef el is
  left x (WasMade m i is) = WasMade m i is

  -- the files, and the indexes
  pub kept_given : (dirs : List IndexedDir) (lib : LibNo) (sizes : Sizes) (out : LibOut) → IsFreshAllotment lib sizes out given → AreDirs reads (files_of b ls ms cs) dirs
      → AreMade placed reads (files_of b' ls ms cs) × AreDirs reads (files_of b' ls ms cs) dirs
  kept_given dirs lib sizes out fresh are = (
    record {
      apart = apart';
      spread = record {
        once = λ x one. made.spread.once x (back x one);
        apart = λ x y at one other i j. made.spread.apart x y at (back x one) (back y other) i j;
        below = λ x at one i. made.spread.below x at (back x one) i;
      };
      numbered = record {
        allotted = λ m i. subst (In m.ino) (sym (map-append (λ (p : InoParts). p.no) b.inodes given.inodes.items)) (In-left m.ino (ino_numbers b.inodes) (ino_numbers given.inodes.items) (made.numbered.allotted m i));
        once = made.numbered.once;
        new = made.numbered.new;
        read = made.numbered.read;
      };
      made = made_more placed reads b b' (given_more b given) ls ls ms cs laid made apart' left;
      cleared = cleared_more placed reads b b' (given_more b given) ls ls ms cs laid made apart' left;
      zero = λ at p le e. elim (joined_at b.pages given.pages.items at p e) [
        | inl h ↦ made.zero at p le h
        | inr h ↦
            let ns = page_numbers given.pages.items in
            let there : slice_get (map (zero_page lib) ns) h.0 ≡ Some p = ap (λ ps. slice_get ps h.0) (sym fresh.pages_are) ∙ h.2 in
            let n = map_at (zero_page lib) ns h.0 p there in
            ap (λ (q : FreshParts). q.page) (sym n.2)
      ];
      whole = made.whole;
    },
    record {
      once = are.once;
      indexed = λ d i. elim (are.indexed d i) [
        | inr read ↦ inr read
        | inl here ↦ inl (index_here placed reads b b' (given_more b given) ls ls ms cs laid made apart' left d here)
      ];
      readable = λ x one dir. elim (are.readable x (back x one) dir) [
        | inl i ↦ inl i
        | inr read ↦ inr (subst AreRead (sym (pages_more placed reads b b' (given_more b given) ls ls ms cs laid made apart' left x (back x one))) read)
      ];
    },
  )

  pub made_given : map (made_seen b') ms ≡ map (made_seen b) ms
  made_given = made_seen-more placed reads b b' (given_more b given) ls ls ms cs laid made apart' left

  pub cleared_given : map (made_seen b') cs ≡ map (made_seen b) cs
  cleared_given = cleared_seen-more placed reads b b' (given_more b given) ls ls ms cs laid made apart' left

-- and the session shows the same with what was allotted
pub view_given : (s : Inside) (given : Allotted) → the_invariant s → AreApart (with_given s.stock given) → the_view (record s { stock = with_given s.stock given }) ≡ record (the_view s) { parcel = with_given s.stock given }
view_given s given is apart =
    let b = s.stock in
    let p = with_given b given in
    let u = the_view s in
    let ls = s.laid.items in
    let ms = s.made.items in
    let cs = s.cleared.items in
    let w : List Chain → List MadeFile → List MadeFile → SessionSeen = λ xs ys zs. record u { parcel = p; chains = xs; made = ys; cleared = zs } in
    ap (λ xs. w xs (map (made_seen p) ms) (map (made_seen p) cs)) (given_chains b ls given is.0)
    ∙ ap (λ ys. w u.chains ys (map (made_seen p) cs)) (made_given s.placed s.reads.items b ls ms cs given is.0 is.3 apart)
    ∙ ap (w u.chains u.made) (cleared_given s.placed s.reads.items b ls ms cs given is.0 is.3 apart)
