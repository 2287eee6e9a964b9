-- A file that is cut.
use Rattle.trio_edit_laws.proofs.Words.{◌<◌, ◌^◌, ◌∙◌, ◌≡◌, ◌≤◌, ◌⊎◌, Body, DeskSeen, Directory, GetsBytes, In, In-cases, In-left, In-right, In-take, IsOpenFile, List, MadeFile, MayEdit, Parcel, Regular, SessionSeen, Some, [], ap, are_new-take, arith, block_count, body_in, bytes_in, cases_lt, chain_in, flat_map, flat_map-same, get_or-take, get_or_past, index_count, inl, inr, length, length-take, made_file, page_in, refl, resized, size_in, subst, sym, take, ℕ, get_or}
use Rattle.trio_session.specs.Seen.{cut}
use Rattle.trio_edit_laws.proofs.Chained.{AreApart, apart_from, apart_to}
use Rattle.trio_edit_laws.proofs.Cut.{chain_unnamed, kept-cut, says-cut}
use Rattle.trio_edit_laws.proofs.Gets.{edit_gets}
use Rattle.trio_edit_laws.proofs.Keeps.{GrowsBlank, made_at}
use Rattle.trio_edit_laws.proofs.Links.{Kept}
use Rattle.trio_edit_laws.proofs.OpenChain.{OpenChain, open_chain, plain_is_none}
use Rattle.trio_edit_laws.proofs.Opens.{pages_of_chain, with_chain-beside}
use Rattle.trio_edit_laws.proofs.Relaid.{IsBodied, IsRelaid, edit_relaid, page_now}
use Rattle.trio_edit_laws.proofs.Resized.{length-resized, resized-cut}
use Rattle.trio_edit_laws.proofs.Sized.{guard_in-sized, length-body_of, narrow-body_of}

module _ (desk : DeskSeen) (s : SessionSeen) (ino size : ℕ) (m : MayEdit desk s) (o : IsOpenFile s ino) (le : size ≤ size_in (body_in s ino)) where
  abbrev index : List ℕ
  index = (chain_in s ino).index

  abbrev blocks : List ℕ
  blocks = (chain_in s ino).blocks

  abbrev index_left : List ℕ
  index_left = take (index_count (block_count size)) (chain_in s ino).index

  abbrev blocks_left : List ℕ
  blocks_left = take (block_count size) (chain_in s ino).blocks

  abbrev written : Parcel
  written = chain_unnamed (chain_in s ino).index (chain_in s ino).blocks (block_count size) s.parcel

  c : OpenChain desk s ino Regular
  c = open_chain desk s ino Regular m o

  fewer : block_count size ≤ length (chain_in s ino).blocks
  fewer = (let k = c.count in omega (arith, k, le))

  index_many : length (take (index_count (block_count size)) (chain_in s ino).index) ≡ index_count (block_count size)
  index_many = (let k = fewer in let many = c.named.many in omega (arith, k, many, length-take (index_count (block_count size)) (chain_in s ino).index))

  in_index : (n : ℕ) → In n (take (index_count (block_count size)) (chain_in s ino).index) → In n (pages_of_chain (chain_in s ino))
  in_index n i = In-left n index blocks (In-take (index_count (block_count size)) n index i)

  in_blocks : (n : ℕ) → In n (take (block_count size) (chain_in s ino).blocks) → In n (pages_of_chain (chain_in s ino))
  in_blocks n i = In-right n index blocks (In-take (block_count size) n blocks i)

  apart : AreApart (chain_in s ino).index (chain_in s ino).blocks
  apart = apart_from index blocks c.once

  kept : Kept (chain_in s ino).index s.parcel (chain_unnamed (chain_in s ino).index (chain_in s ino).blocks (block_count size) s.parcel)
  kept = kept-cut s.parcel index blocks (block_count size) (λ n i. c.held n (In-left n index blocks i)) (λ n i. c.whole n (In-left n index blocks i)) c.named.many fewer

  block_stays : (n : ℕ) → In n (take (block_count size) (chain_in s ino).blocks) → page_in written n ≡ page_in s.parcel n
  block_stays n i = kept.touches.other n (λ j. apart.apart n j (In-take (block_count size) n blocks i))

  -- no slot of a file that was made is on an index page
  apart_slot : (mf : MadeFile) → made_file s ino ≡ Some mf → In mf.page index ⊎ In mf.page index_left → ⊥
  apart_slot mf found i =
      plain_is_none desk s ino Regular mf m o refl (made_at s ino mf found).0
      (elim i [ inl a ↦ In-left mf.page index blocks a | inr b ↦ in_index mf.page b ])

  relaid : IsRelaid desk s ino Regular size index_left blocks_left index written
  relaid =
      let narrow = narrow-body_of Regular desk.sizes.range (body_in s ino) c.body c.read in
      let head : c.body.head < 2 ^ 32 = narrow.0 in
      let was : size_in (body_in s ino) ≡ c.body.size = ap (λ (b : Body). b.size) c.at in
      record {
        touches = kept.touches;
        own = λ n i. inl (In-left n index blocks i);
        apart = apart_slot;
        says = says-cut s.parcel index blocks (block_count size) c.says apart.left (λ n i. c.held n (In-left n index blocks i)) c.named.many fewer;
        index_many = index_many;
        blocks_many = (let k = fewer in omega (arith, k, length-take (block_count size) blocks));
        once = apart_to index_left blocks_left (record {
          left = are_new-take (index_count (block_count size)) [] index apart.left;
          right = are_new-take (block_count size) [] blocks apart.right;
          apart = λ n i j. apart.apart n (In-take (index_count (block_count size)) n index i) (In-take (block_count size) n blocks j);
        });
        from = λ n i. inl (elim (In-cases n index_left blocks_left i) [ inl a ↦ in_index n a | inr b ↦ in_blocks n b ]);
        small_head = search (arith, cases_lt, c, get_or-take, get_or_past, index_many);
        small_size = (let n = narrow.1 in omega (arith, n, was, le));
        whole_size = refl;
      }

  bodied : IsBodied s (cut ino size s) ino size index_left blocks_left written
  unfolding cut
  bodied = search (arith, with_chain-beside)

  none_grows : Regular ≡ Directory → GrowsBlank s (cut ino size s) ino (record { index = index_left; blocks = blocks_left }) index
  none_grows e = absurd (let wrong : Regular ≡ Directory = e in cc wrong)

  -- the bytes of the blocks that are left
  bytes_left : take size (flat_map (page_in (cut ino size s).parcel) blocks_left) ≡ resized size (bytes_in s ino)
  bytes_left =
      ap (take size)
      (flat_map-same (page_in (cut ino size s).parcel) (page_in s.parcel) blocks_left
      (λ n i. page_now desk s (cut ino size s) ino Regular size index_left blocks_left index written m o relaid bodied n
      (λ mf found same. plain_is_none desk s ino Regular mf m o refl (made_at s ino mf found).0 (subst (λ k. In k (pages_of_chain (chain_in s ino))) same (in_blocks n i)))
      ∙ block_stays n i))
      ∙ resized-cut (page_in s.parcel) blocks (size_in (body_in s ino)) size (λ n i. c.whole n (In-right n index blocks i)) (sym c.count) le

  pub cut_gets : GetsBytes desk s (cut ino size s) ino (resized size (bytes_in s ino))
  cut_gets =
      edit_gets desk s (cut ino size s) ino (resized size (bytes_in s ino)) m o
      (edit_relaid desk s (cut ino size s) ino Regular size index_left blocks_left index written m o relaid bodied none_grows)
      bytes_left (sym (length-resized size (bytes_in s ino))) (guard_in-sized (get_or index_left 0 0) size (body_in s ino) (length-body_of Regular desk.sizes.range (body_in s ino) c.body c.read))
