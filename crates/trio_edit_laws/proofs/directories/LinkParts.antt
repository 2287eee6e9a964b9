-- A link that is made, step by step: the session after each step, under either kind.
use Rattle.trio_edit_laws.proofs.Words.{◌*◌, ◌++◌, ◌+◌, ◌-◌, ◌<◌, ◌∙◌, ◌∷◌, ◌≡◌, ◌≤◌, Chain, EntryPart, In, IsWhole, Kind, List, MadeFile, None, Option, Parcel, Place, Regular, SessionSeen, Some, [], ap, append-nil, arith, block_count, body_in, body_in_slot, bundle_of, bundle_pages, chain_in, cleared_file, cond, drop, empty_shown, entry_bytes, entry_fits, eqb, every_number, filled, filter, growth, home_in, if_same, is_allotted, length, length-append, length-entry_bytes, linked, made_body, made_file, map, map-append, new_index, no_chain, not, numbered, option_map_or, page_in, page_in-with_page_else, page_in-with_page_same, pages-with_page, put_bytes, refl, size_in, spare_pages, subst, sym, take, true, with_body_at, with_chain, with_number, with_page, with_part, w64, zeros, ℕ, ne_eqb, In-map, EditsSlotIn, Shown, written_file, length-with_number, spare_numbers, used_numbers, is_among, InoParts, ino_numbers}
use Rattle.std.specs.Int.{w32}
use Rattle.std.specs.Prelude.{slice_index}
use Rattle.trio_rights.specs.declared.kind.Kind.TheVariants.{Link}
use Rattle.trio_session.specs.Layout.{Home, InSlot, Leased, blocks_under, body_sized, chain_grown, gap, grown_file, put_blocks, retitled, with_number_in, with_part_in, written_on}
use Rattle.trio_session.specs.Seen.{block_number, fill, grown, made_chained, placed_made, put}
use Rattle.trio_session.proofs.SlotEdits.{body-body, body-filled, edits_filled, edits_body, entry_on, entry_on-body, entry_on-filled}
use Rattle.trio_session.proofs.Stays.{LeavesFiles, leaves_then, page_leaves}
use Rattle.trio_edit_laws.proofs.Opens.{chain-made, with_chain-made}
use Rattle.trio_edit_laws.proofs.Put.{put_none}
use Rattle.trio_edit_laws.proofs.directories.Filled.{fill_at}
use Rattle.trio_edit_laws.proofs.directories.Mades.{find-absent, find-added_same, number_of}
use Rattle.trio_edit_laws.proofs.directories.Swaps.{body_beside, filled_over, number_beside, page_beside, page_else}
use Rattle.trio_edit_laws.proofs.directories.Turned.{turned-here, turned-other, turned_made, turned_session}
use Rattle.trio_edit_laws.proofs.session.JudgedReads.{map-fixed}
use Rattle.trio_session.proofs.Lists.{if_other}

-- where the link goes, and what it takes
pub record LinkGiven (s : SessionSeen) (dir' : ℕ) (place' : Place) (name' : List ℕ) (n' : ℕ) (body' : List ℕ) (size' num' i' k' : ℕ) (rest' : List ℕ) : Type 0 where
  pub empty : empty_shown s dir' ≡ Some place'
  pub block : block_number s dir' place'.block ≡ num'
  pub slot : place'.slot < 16
  pub whole : IsWhole s.parcel num'
  pub unmade : In n' (map number_of s.made) → ⊥
  pub uncleared : cleared_file s n' ≡ None
  pub allotted : is_allotted s n' ≡ true
  pub fits : entry_fits every_number (record { ino = n'; kind = Regular; name = name' }) ≡ true
  pub sized : length body' ≡ 64
  pub none : size_in body' ≡ 0
  pub pages : spare_pages s ≡ i' ∷ (k' ∷ rest')
  pub one : block_count size' ≡ 1
  pub some : 0 < size'

module _ (s : SessionSeen) (dir : ℕ) (place : Place) (name : List ℕ) (n : ℕ) (body text : List ℕ) (num i k : ℕ) (rest : List ℕ)
    (q : LinkGiven s dir place name n body (length text) num i k rest) where
  abbrev size : ℕ
  size = length text

  abbrev pub entry : Kind → EntryPart
  entry kind = record { ino = n; kind = kind; name = name }

  abbrev gone : List MadeFile
  gone = filter (λ (y : MadeFile). not (eqb y.ino n)) s.cleared

  abbrev pub chain : Chain
  chain = record { index = i ∷ []; blocks = k ∷ [] }

  abbrev pub made : Kind → MadeFile
  made kind = record (placed_made s n kind num place.slot) { chain = record { index = i ∷ []; blocks = k ∷ [] } }

  -- ---- the pages in hand after each step

  abbrev b1 : Kind → Parcel
  b1 kind = filled num place.slot (record { ino = n; kind = kind; name = name }) body s.parcel

  abbrev b2 : Kind → Parcel
  b2 kind = with_number_in i 0 k (b1 kind)

  abbrev pub body_then : List ℕ
  body_then = body_sized i (length text) body

  abbrev b3 : Kind → Parcel
  b3 kind = with_part_in num (256 * place.slot + 192) (body_sized i (length text) body) (b2 kind)

  abbrev b4 : Kind → Parcel
  b4 kind = with_page k (written_on 0 0 text (page_in (b3 kind) k)) (b3 kind)

  abbrev pub filled_is : Kind → SessionSeen
  filled_is kind = record s { parcel = b1 kind; made = s.made ++ placed_made s n kind num place.slot ∷ []; cleared = gone }

  abbrev pub grown_is : Kind → SessionSeen
  grown_is kind = record s { parcel = b3 kind; made = s.made ++ made kind ∷ []; cleared = gone; placed = s.placed + 2 }

  abbrev pub put_is : Kind → SessionSeen
  put_is kind = record s { parcel = b4 kind; made = s.made ++ made kind ∷ []; cleared = gone; placed = s.placed + 2 }

  -- ---- the fill

  pub fill_then : (kind : Kind) → fill dir name n kind body s ≡ filled_is kind
  fill_then kind = fill_at s dir place name n kind body num true q.empty q.block q.allotted

  none_made : made_file s n ≡ None
  none_made = find-absent n s.made q.unmade

  pub found_filled : (kind : Kind) → made_file (filled_is kind) n ≡ Some (placed_made s n kind num place.slot)
  found_filled kind = find-added_same s.made (placed_made s n kind num place.slot) none_made

  pub found_put : (kind : Kind) → made_file (put_is kind) n ≡ Some (made kind)
  found_put kind = find-added_same s.made (made kind) none_made

  found_grown : (kind : Kind) → made_file (grown_is kind) n ≡ Some (made kind)
  found_grown kind = find-added_same s.made (made kind) none_made

  pub chain_filled : (kind : Kind) → chain_in (filled_is kind) n ≡ no_chain
  chain_filled kind =
      chain-made (filled_is kind) n (placed_made s n kind num place.slot) (found_filled kind) ∙ ap (λ o. option_map_or (λ (y : MadeFile). y.chain) o no_chain) q.uncleared

  pub body_filled : (kind : Kind) → body_in (filled_is kind) n ≡ body
  body_filled kind =
      ap (λ o. option_map_or (made_body (filled_is kind)) o (option_map_or (λ (f : Shown). f.body) (written_file (filled_is kind) n) [])) (found_filled kind)
      ∙ body-filled s.parcel num place.slot (entry kind) body q.whole q.slot q.fits q.sized

  home_filled : (kind : Kind) → home_in (filled_is kind) n ≡ InSlot num place.slot
  home_filled kind = ap (λ o. option_map_or (λ (y : MadeFile). InSlot y.page y.slot) o (Leased n)) (found_filled kind)

  pub spare_filled : (kind : Kind) → spare_pages (filled_is kind) ≡ spare_pages s
  spare_filled kind = ap (λ ns. drop s.placed ns) (page_leaves num (with_part (256 * place.slot) (entry_bytes (entry kind) ++ body) (page_in s.parcel num)) s.parcel).pages

  -- ---- the growth

  file_of : ℕ → ℕ → List ℕ → Parcel → Parcel
  file_of old c zs b =
      let chain' : Chain = chain_grown no_chain c (i ∷ (k ∷ [])) in
      with_body_at (InSlot num place.slot) (body_sized (slice_index chain'.index 0) (length text) body)
      (numbered chain'.index 0 (drop (new_index 0 c) (i ∷ (k ∷ []))) (linked (drop (0 - 1) chain'.index) (put_bytes [] old zs b)))

  gap_none : gap 0 (length text) ≡ 0
  gap_none = omega arith

  file_then : (b : Parcel) → grown_file (InSlot num place.slot) no_chain body (length text) (i ∷ (k ∷ [])) b ≡ with_part_in num (256 * place.slot + 192) (body_sized i (length text) body) (with_number_in i 0 k b)
  unfolding file_of
  file_then b =
      ap (λ old. file_of old (block_count size) (zeros (gap old size)) b) q.none
      ∙ ap (λ c. file_of 0 c (zeros (gap 0 size)) b) q.one
      ∙ ap (λ g. file_of 0 1 (zeros g) b) gap_none
      ∙ ap (λ z. with_part_in num (256 * place.slot + 192) (body_sized i (length text) body) (with_number_in i 0 k z)) (put_none [] 0 b)

  grow_of : SessionSeen → Home → Chain → List ℕ → List ℕ → ℕ → SessionSeen
  grow_of x home c l spare count =
      record (with_chain n (chain_grown c count (take (growth (length c.blocks) count) spare)) x) {
        parcel = grown_file home c l (length text) (take (growth (length c.blocks) count) spare) x.parcel;
        placed = x.placed + growth (length c.blocks) count;
      }

  made_then : (kind : Kind) → map (made_chained n (record { index = i ∷ []; blocks = k ∷ [] })) (s.made ++ placed_made s n kind num place.slot ∷ []) ≡ s.made ++ made kind ∷ []
  made_then kind =
      let f : MadeFile → MadeFile = made_chained n (record { index = i ∷ []; blocks = k ∷ [] }) in
      let x : MadeFile = placed_made s n kind num place.slot in
      map-append f s.made (x ∷ [])
      ∙ ap (λ l. l ++ f x ∷ []) (map-fixed f s.made (λ y j. if_other y.ino n (record y { chain = chain }) y (λ e. q.unmade (subst (λ z. In z (map number_of s.made)) e (In-map number_of y s.made j)))))
      ∙ ap (λ y. s.made ++ y ∷ []) (if_same n n (record x { chain = chain }) x refl)

  pub grow_then : (kind : Kind) → grown n (length text) (filled_is kind) ≡ grown_is kind
  unfolding grown grow_of
  grow_then kind =
      let x : SessionSeen = filled_is kind in
      let c : ℕ = block_count size in
      ap (λ h. grow_of x h (chain_in x n) (body_in x n) (spare_pages x) c) (home_filled kind)
      ∙ ap (λ l. grow_of x (InSlot num place.slot) l (body_in x n) (spare_pages x) c) (chain_filled kind)
      ∙ ap (λ l. grow_of x (InSlot num place.slot) no_chain l (spare_pages x) c) (body_filled kind)
      ∙ ap (λ l. grow_of x (InSlot num place.slot) no_chain body l c) (spare_filled kind ∙ q.pages)
      ∙ ap (λ l. grow_of x (InSlot num place.slot) no_chain body (i ∷ (k ∷ rest)) l) q.one
      ∙ ap (λ (y : SessionSeen). record y { parcel = grown_file (InSlot num place.slot) no_chain body (length text) (i ∷ (k ∷ [])) x.parcel; placed = s.placed + 2 }) (with_chain-made x n chain (placed_made s n kind num place.slot) (found_filled kind))
      ∙ ap (λ (ms : List MadeFile). record x { made = ms; parcel = grown_file (InSlot num place.slot) no_chain body (length text) (i ∷ (k ∷ [])) x.parcel; placed = s.placed + 2 }) (made_then kind)
      ∙ ap (λ (b : Parcel). record (grown_is kind) { parcel = b }) (file_then x.parcel)

  -- ---- the text

  under : blocks_under 0 (length text) ≡ 1
  under = search (arith, ne_eqb, q)

  pub put_then : (kind : Kind) → put n 0 text (grown_is kind) ≡ put_is kind
  unfolding put
  put_then kind =
      let x : SessionSeen = grown_is kind in
      ap (λ (c : Chain). record x { parcel = put_bytes c.blocks 0 text x.parcel }) (chain-made x n (made kind) (found_grown kind))
      ∙ ap (λ m. record x { parcel = put_blocks (k ∷ []) 0 m 0 text x.parcel }) under

  -- ---- all of it

  pub made_of : (kind : Kind) → put n 0 text (grown n (length text) (fill dir name n kind body s)) ≡ put_is kind
  made_of kind = ap (λ x. put n 0 text (grown n (length text) x)) (fill_then kind) ∙ ap (put n 0 text) (grow_then kind) ∙ put_then kind

  -- ---- what stays in hand

  pub parcel_leaves : (kind : Kind) → LeavesFiles s.parcel (put_is kind).parcel
  parcel_leaves kind =
      leaves_then s.parcel (b3 kind) (put_is kind).parcel (leaves_then s.parcel (b2 kind) (b3 kind) (leaves_then s.parcel (b1 kind) (b2 kind)
      (page_leaves num (with_part (256 * place.slot) (entry_bytes (entry kind) ++ body) (page_in s.parcel num)) s.parcel)
      (page_leaves i (with_number w64 0 k (page_in (b1 kind) i)) (b1 kind)))
      (page_leaves num (with_part (256 * place.slot + 192) (body_sized i (length text) body) (page_in (b2 kind) num)) (b2 kind)))
      (page_leaves k (written_on 0 0 text (page_in (b3 kind) k)) (b3 kind))

  used_as : map (λ (y : MadeFile). y.ino) ((put_is Link).made ++ gone) ≡ map (λ (y : MadeFile). y.ino) ((filled_is Regular).made ++ gone)
  used_as =
      let f : MadeFile → ℕ = number_of in
      map-append f (put_is Link).made gone ∙ ap (λ l. l ++ map f gone) (map-append f s.made (made Link ∷ []) ∙ sym (map-append f s.made (placed_made s n Regular num place.slot ∷ [])))
      ∙ sym (map-append f (filled_is Regular).made gone)

  pub spare_as : spare_numbers (put_is Link) ≡ spare_numbers (filled_is Regular)
  spare_as =
      ap (λ (l : List InoParts). filter (λ j. not (is_among j (used_numbers (put_is Link)))) (ino_numbers l)) (parcel_leaves Link).inodes
      ∙ ap (λ u. filter (λ j. not (is_among j u)) (ino_numbers s.parcel.inodes)) used_as
      ∙ ap (λ (l : List InoParts). filter (λ j. not (is_among j (used_numbers (filled_is Regular)))) (ino_numbers l))
      (sym (page_leaves num (with_part (256 * place.slot) (entry_bytes (entry Regular) ++ body) (page_in s.parcel num)) s.parcel).inodes)

  module _ (apart_i : num ≡ i → ⊥) (apart_k : num ≡ k → ⊥) where
    -- ---- the other kind

    entry_sized : (kind : Kind) → length (entry_bytes (entry kind)) ≡ 192
    entry_sized kind = length-entry_bytes (entry kind) q.fits

    turn_filled : retitled num place.slot (entry Link) (b1 Regular) ≡ b1 Link
    turn_filled =
        filled_over num place.slot (entry Link) (entry Regular) body s.parcel q.whole.hand (entry_sized Link ∙ sym (entry_sized Regular)) (omega (arith, q.whole.whole, q.slot))

    turn_named : retitled num place.slot (entry Link) (b2 Regular) ≡ b2 Link
    turn_named = number_beside num place.slot (entry Link) i 0 k (b1 Regular) apart_i ∙ ap (with_number_in i 0 k) turn_filled

    edits : (kind : Kind) → EditsSlotIn s.parcel (b1 kind) num place.slot
    edits kind = edits_filled s.parcel num place.slot (entry kind) body q.whole q.slot q.fits q.sized

    named_page : (kind : Kind) → page_in (b2 kind) num ≡ page_in (b1 kind) num
    named_page kind = page_in-with_page_else i num (with_number w64 0 k (page_in (b1 kind) i)) (b1 kind) apart_i

    named_whole : (kind : Kind) → IsWhole (b2 kind) num
    named_whole kind = record {
      hand = subst (In num) (sym (pages-with_page i (with_number w64 0 k (page_in (b1 kind) i)) (b1 kind) ∙ (edits kind).hand)) q.whole.hand;
      whole = ap (λ (p : List ℕ). length p) (named_page kind) ∙ (edits kind).whole;
    }

    turn_grown : retitled num place.slot (entry Link) (b3 Regular) ≡ b3 Link
    turn_grown =
        let w = (named_whole Regular).whole in
        body_beside num place.slot (entry Link) body_then (b2 Regular) (named_whole Regular).hand (entry_sized Link) (omega (arith, w, q.slot))
        ∙ ap (with_part_in num (256 * place.slot + 192) body_then) turn_named

    turn_put : retitled num place.slot (entry Link) (b4 Regular) ≡ b4 Link
    turn_put =
        page_beside num place.slot (entry Link) k (written_on 0 0 text (page_in (b3 Regular) k)) (b3 Regular) apart_k
        ∙ ap (λ p. with_page k (written_on 0 0 text p) (retitled num place.slot (entry Link) (b3 Regular))) (sym (page_else num place.slot (entry Link) k (b3 Regular) apart_k))
        ∙ ap (λ b. with_page k (written_on 0 0 text (page_in b k)) b) turn_grown

    pub turn_then : turned_session num place.slot (entry Link) (put_is Regular) ≡ put_is Link
    turn_then =
        let f : MadeFile → MadeFile = turned_made n Link in
        ap (λ b. record (put_is Regular) { parcel = b; made = map f (put_is Regular).made }) turn_put
        ∙ ap (λ (ms : List MadeFile). record (put_is Link) { made = ms })
        (map-append f s.made (made Regular ∷ [])
        ∙ ap (λ l. l ++ f (made Regular) ∷ []) (map-fixed f s.made (λ y j. turned-other n Link y (λ e. q.unmade (subst (λ z. In z (map number_of s.made)) e (In-map number_of y s.made j)))))
        ∙ ap (λ y. s.made ++ y ∷ []) (turned-here n Link (made Regular) refl))

    -- ---- the slot

    sized_then : length body_then ≡ 64
    sized_then =
        let first : length (with_number w32 12 i body) ≡ 64 = length-with_number w32 12 i body (omega (arith, q.sized)) ∙ q.sized in
        length-with_number w64 16 (length text) (with_number w32 12 i body) (omega (arith, first)) ∙ first

    put_page : page_in (b4 Regular) num ≡ page_in (b3 Regular) num
    put_page = page_in-with_page_else k num (written_on 0 0 text (page_in (b3 Regular) k)) (b3 Regular) apart_k

    pub put_entry : entry_on (page_in (put_is Regular).parcel num) place.slot ≡ Some (record { ino = n; kind = Regular; name = name })
    put_entry =
        ap (λ p. entry_on p place.slot) put_page
        ∙ entry_on-body (b2 Regular) num place.slot body_then (named_whole Regular) q.slot sized_then
        ∙ ap (λ p. entry_on p place.slot) (named_page Regular)
        ∙ entry_on-filled s.parcel num place.slot (entry Regular) body q.whole q.slot q.fits q.sized

    pub put_body : body_in_slot place.slot (page_in (put_is Regular).parcel num) ≡ body_sized i (length text) body
    put_body = ap (body_in_slot place.slot) put_page ∙ body-body (b2 Regular) num place.slot body_then (named_whole Regular) q.slot sized_then
