-- A directory, written or made, that grows by a block of empty slots.
use Rattle.trio_edit_laws.proofs.Words.{◌%◌, ◌++◌, ◌+◌, ◌<◌, ◌^◌, ◌∙◌, ◌∷◌, ◌≡◌, ◌≤◌, ◌⊎◌, AreSpare, AreWithinLimits, Body, Chain, DeskSeen, Directory, GetsSlots, In, In-cases, In-flat, In-left, In-right, IsOpenDir, List, MayEdit, None, Place, SessionSeen, Some, [], ap, are_new, arith, block_count, body_in, case_as_stands, chain_in, chained, drop, drop-drop, entry_shown, eq-eqb, eqb-true, every_number, flat_map-append, get_or_append_left, growth, in_hand, inl, inr, judged_files, length, length-append, map, map-append, new_index, open_kind, page_in, page_numbers, pages_shown-open, pages_within, refl, replicate, size_fits, size_in, slice_get, slice_get-get_or, slots_of, slots_shown, spare_pages, subst, sym, take, take-append-drop, true, zeros, ℕ}
use Rattle.std.proofs.Common.{append-nil}
use Rattle.trio_auxdir.specs.Slots.{slots_on}
use Rattle.trio_auxdir.proofs.PageSlots.{zeros_empty}
use Rattle.trio_edit_laws.proofs.session.JudgedEdits.{listed_after_judged_edit}
use Rattle.trio_session.specs.Seen.{grown}
use Rattle.trio_edit_laws.specs.EditLaws.{GrowDirShows, IsSpare}
use Rattle.trio_edit_laws.proofs.Chained.{apart_from}
use Rattle.trio_edit_laws.proofs.Edited.{becomes_now, edit_is, may_now, r}
use Rattle.trio_edit_laws.proofs.Growing.{blank_after, blocks_more_many, edit_grown, in_blocks, in_index, new-drop}
use Rattle.trio_edit_laws.proofs.IndexFields.{In-drop}
use Rattle.trio_edit_laws.proofs.Hand.{hand_is_core}
use Rattle.trio_edit_laws.proofs.HandStays.{takes_more}
use Rattle.trio_edit_laws.proofs.Keeps.{IsEdit, chain_now, chained_from, front_stays, hand_now, made_at, open_now, page_stays, slot_chained}
use Rattle.trio_edit_laws.proofs.OpenChain.{OpenChain, open_chain}
use Rattle.trio_edit_laws.proofs.Opens.{pages_of_chain}
use Rattle.trio_edit_laws.proofs.Resized.{few_core}
use Rattle.trio_edit_laws.proofs.Sized.{size_fits-body_of}
use Rattle.trio_edit_laws.proofs.SlotsShown.{block_slots, entry_same, leaves_others, slots_of-same}
use Rattle.trio_edit_laws.proofs.Whole.{view_then}

-- of one element more there is just one
one_more : (xs : List ℕ) → length xs ≡ 1 → (x : ℕ) × (xs ≡ x ∷ [])
one_more [] e = absurd (omega (arith, e))
one_more (x ∷ []) e = (x, refl)
one_more (x ∷ (y ∷ ys)) e = absurd (omega (arith, e))

module _ (desk : DeskSeen) (s : SessionSeen) (dir : ℕ) (limits : AreWithinLimits desk.sizes) (m : MayEdit desk s) (spare : AreSpare desk s) (is : IsOpenDir s dir)
    (room : growth (length (chain_in s dir).blocks) (block_count (size_in (body_in s dir) + 4096)) ≤ length (spare_pages s)) where
  abbrev size : ℕ
  size = size_in (body_in s dir) + 4096

  abbrev o : open_kind s dir ≡ Some Directory
  o = is.directory

  abbrev index : List ℕ
  index = (chain_in s dir).index

  abbrev blocks : List ℕ
  blocks = (chain_in s dir).blocks

  abbrev wanted : ℕ
  wanted = growth (length (chain_in s dir).blocks) (block_count (size_in (body_in s dir) + 4096))

  abbrev taken : List ℕ
  taken = take (growth (length (chain_in s dir).blocks) (block_count (size_in (body_in s dir) + 4096))) (spare_pages s)

  abbrev more : List ℕ
  more = drop (new_index (length (chain_in s dir).blocks) (block_count (size_in (body_in s dir) + 4096))) taken

  abbrev s' : SessionSeen
  s' = grown dir (size_in (body_in s dir) + 4096) s

  c : OpenChain desk s dir Directory
  c = open_chain desk s dir Directory m o

  same_size : size_in (body_in s dir) ≡ c.body.size
  same_size = ap (λ (b : Body). b.size) c.at

  even : size_in (body_in s dir) % 4096 ≡ 0
  even = ap (λ n. n % 4096) same_size ∙ eqb-true (c.body.size % 4096) 0 (size_fits-body_of Directory desk.sizes.range (body_in s dir) c.body c.read)

  narrow : size_in (body_in s dir) + 4096 < 2 ^ 64
  narrow =
      let few = few_core desk.sizes.range blocks (apart_from index blocks c.once).right (λ n i. hand_is_core desk s n m (c.held n (In-right n index blocks i))) in
      let count = c.count in
      let end = limits.pages in
      omega (arith, few, count, end)

  whole : size_fits Directory (size_in (body_in s dir) + 4096) ≡ true
  whole = eq-eqb ((size_in (body_in s dir) + 4096) % 4096) 0 (let e = even in omega (arith, e))

  grew : size_in (body_in s dir) ≤ size_in (body_in s dir) + 4096
  grew = omega arith

  abbrev e : IsEdit desk s s' dir Directory
  e = edit_grown desk s dir Directory size limits m spare o grew narrow whole room

  -- ---- the slots

  one_block : (x : ℕ) × (more ≡ x ∷ [])
  one_block = one_more more (let k = blocks_more_many desk s dir Directory size limits m spare o grew narrow whole room in let n = c.count in let q = even in omega (arith, k, n, q))

  blank : (n : ℕ) → In n more → page_in s'.parcel n ≡ zeros 4096
  blank n i = blank_after desk s dir Directory size limits m spare o grew narrow whole room n i

  slots : slots_shown s' dir ≡ slots_shown s dir ++ replicate 16 None
  slots =
      let x : ℕ = one_block.0 in
      let here : In x more = subst (λ l. In x l) (sym one_block.1) (inl refl) in
      ap (slots_of every_number) (pages_shown-open s' dir Directory (open_now desk s s' dir Directory m o e dir ∙ o))
      ∙ ap (λ (k : Chain). slots_of every_number (map (page_in s'.parcel) k.blocks)) (chain_now desk s s' dir Directory m o e)
      ∙ ap (slots_of every_number) (map-append (page_in s'.parcel) blocks more)
      ∙ flat_map-append (slots_on every_number) (map (page_in s'.parcel) blocks) (map (page_in s'.parcel) more)
      ∙ ap (λ l. l ++ slots_of every_number (map (page_in s'.parcel) more)) (slots_of-same every_number (page_in s.parcel) (page_in s'.parcel) blocks (λ n i. block_slots desk s s' dir Directory m o e dir n o i))
      ∙ ap (λ l. slots_of every_number (map (page_in s.parcel) blocks) ++ slots_of every_number (map (page_in s'.parcel) l)) one_block.1
      ∙ ap (λ b. slots_of every_number (map (page_in s.parcel) blocks) ++ (slots_on every_number b ++ [])) (blank x here)
      ∙ ap (λ l. slots_of every_number (map (page_in s.parcel) blocks) ++ l) (append-nil (slots_on every_number (zeros 4096)) ∙ zeros_empty every_number)
      ∙ ap (λ l. slots_of every_number l ++ replicate 16 None) (sym (pages_shown-open s dir Directory o))

  -- the entries of the blocks that it had
  entries_still : (place : Place) → place.block < length (chain_in s dir).blocks → entry_shown s' dir place ≡ entry_shown s dir place
  entries_still place lt =
      entry_same desk s s' dir Directory m o e dir Directory place o
      (ap (λ (k : Chain). slice_get k.blocks place.block) (chain_now desk s s' dir Directory m o e)
      ∙ slice_get-get_or (blocks ++ more) place.block 0 (let l = length-append blocks more in omega (arith, l, lt))
      ∙ ap Some (get_or_append_left blocks more 0 place.block lt)
      ∙ sym (slice_get-get_or blocks place.block 0 lt))
      (λ n i. front_stays desk s s' dir Directory m o e dir n o i every_number place.slot)

  -- ---- the pages that are spare still

  apart_spare : (n : ℕ) → In n taken → In n (drop wanted (spare_pages s)) → ⊥
  apart_spare n i j =
      (apart_from taken (drop wanted (spare_pages s)) (ap (are_new []) (take-append-drop wanted (spare_pages s)) ∙ new-drop s.placed (page_numbers s.parcel.pages) m.all.given.pages_once)).apart n i j

  spare_now : spare_pages s' ≡ drop wanted (spare_pages s)
  unfolding grown
  spare_now =
      let sum : s.placed + wanted ≡ wanted + s.placed = omega arith in
      ap (drop (s.placed + wanted)) e.alters.fresh
      ∙ ap (λ k. drop k (page_numbers s.parcel.pages)) sum
      ∙ sym (drop-drop wanted s.placed (page_numbers s.parcel.pages) ∙ ap (λ k. drop k (page_numbers s.parcel.pages)) sum)

  -- a page of the new chain is one of the old, or taken
  chain_from : (n : ℕ) → In n (pages_of_chain e.chain) → In n (pages_of_chain (chain_in s dir)) ⊎ In n taken
  chain_from n i =
      elim (In-cases n e.chain.index e.chain.blocks i) [
        | inl a ↦ elim (In-cases n index (take (new_index (length blocks) (block_count size)) taken) a) [
          | inl x ↦ inl (In-left n index blocks x)
          | inr y ↦ inr (in_index desk s dir Directory size limits m spare o grew narrow whole room n y)
        ]
        | inr b ↦ elim (In-cases n blocks more b) [
          | inl x ↦ inl (In-right n index blocks x)
          | inr y ↦ inr (in_blocks desk s dir Directory size limits m spare o grew narrow whole room n y)
        ]
      ]

  module _ (n : ℕ) (i : In n (drop wanted (spare_pages s))) where
    was : IsSpare desk s n
    was = spare n (In-drop wanted n (spare_pages s) i)

    off_chain : In n (pages_of_chain e.chain) → ⊥
    off_chain j = elim (chain_from n j) [ inl a ↦ was.unchained (c.chained n a) | inr b ↦ apart_spare n b i ]

    spare_still : IsSpare desk s' n
    spare_still = record {
      zero =
          page_stays desk s s' dir Directory m o e n
          (λ t. elim (e.own n t) [ inl a ↦ was.unchained (c.chained n a) | inr b ↦ off_chain b ])
          (λ mf found same. was.unchained (subst (λ k. In k (chained s)) (sym same) (slot_chained desk s mf m (made_at s dir mf found).0)))
          ∙ was.zero;
      unchained = λ j. elim (chained_from desk s s' dir Directory m o e n j) [ inl a ↦ off_chain a | inr b ↦ was.unchained b ];
      unlisted = λ nodes rows possible j.
          let more' = takes_more desk s s' m (hand_now desk s s' dir Directory m o e) in
          let v = view_then desk s (in_hand s') nodes rows m more' possible in
          let q = r desk s s' dir Directory m o e nodes v.0 rows v.1 in
          elim (listed_after_judged_edit desk (in_hand s) (in_hand s') q.is.met e.body q.file (record { body = e.read; chain = e.chain; entries = q.file.entries }) nodes v.0 rows n
          (edit_is desk s s' dir Directory m o e nodes v.0 rows v.1) v.1 j) [
            | inl a ↦ off_chain a
            | inr x ↦ was.unlisted nodes rows (more' nodes rows possible) (In-flat (pages_within (case_as_stands desk (in_hand s))) x.0 n (judged_files (case_as_stands desk (in_hand s))) x.1 x.3)
          ];
    }

  pub gets_slots : GetsSlots desk s s' dir
  gets_slots = record {
    becomes = becomes_now desk s s' dir Directory m o e;
    may = may_now desk s s' dir Directory m o e;
    spare = λ n i. spare_still n (subst (λ l. In n l) spare_now i);
    opens = record { directory = open_now desk s s' dir Directory m o e dir ∙ o; index = subst (λ l. In dir l) (sym e.anew.indexed) is.index };
    slots = slots;
    entries = entries_still;
    others = leaves_others desk s s' dir Directory m o e;
  }

pub grow_dir_shows : GrowDirShows
grow_dir_shows desk s dir limits m spare is room = gets_slots desk s dir limits m spare is room
