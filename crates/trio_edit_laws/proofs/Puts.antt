-- Bytes that are put within the size of a file, written or made, stand in the node.
use Rattle.trio_edit_laws.proofs.Words.{◌*◌, ◌++◌, ◌+◌, ◌-◌, ◌<◌, ◌∙◌, ◌≡◌, ◌≤◌, ◌⊎◌, Body, Chain, DeskSeen, Directory, GetsBytes, In, In-left, In-right, IsNamed, IsOpenFile, LentFile, List, MadeFile, MayEdit, None, Option, Parcel, Regular, SessionSeen, Some, [], ap, are_new, arith, block_count, body_in, bytes_in, chain_in, core_in_hand, drop, drop-drop, flat_map, get_or, get_or-In, in_hand, inl, inr, length, length-drop, length-with_part, made_file, one_keyed, page_in, page_of, pages_in_hand, put_at, put_bytes, refl, size_in, slice_get-In, slice_range, subst, sym, take, take-append-drop, with_body_in, ℕ}
use Rattle.std.proofs.Common.{length-take-le}
use Rattle.trio_page.specs.Field.{with_part}
use Rattle.trio_session.specs.Seen.{put}
use Rattle.trio_edit_laws.specs.EditLaws.{PutShows}
use Rattle.trio_edit_laws.proofs.Anew.{body-made, body-written}
use Rattle.trio_edit_laws.proofs.Chained.{AreApart, apart_from}
use Rattle.trio_edit_laws.proofs.Gets.{edit_gets}
use Rattle.trio_edit_laws.proofs.Hand.{hand_is_core, hand_page}
use Rattle.trio_edit_laws.proofs.Keeps.{IsEdit, IsSlotPage, bodied_files, made_at, made_once, slot_whole}
use Rattle.trio_edit_laws.proofs.OpenChain.{OpenChain, open_chain, plain_is_none}
use Rattle.trio_edit_laws.proofs.Opens.{OpenWritten, opened, with_chain-same}
use Rattle.trio_edit_laws.proofs.Pages.{page_of-hand}
use Rattle.trio_edit_laws.proofs.Parts.{take-with_part}
use Rattle.trio_edit_laws.proofs.Put.{HasPut, put_done, with_part-put_at}
use Rattle.trio_edit_laws.proofs.Reading.{length-blocks}
use Rattle.trio_edit_laws.proofs.Sized.{length-body_of}
use Rattle.trio_edit_laws.proofs.Touches.{Alters, alters_more, alters_none, bare_files}

-- a part that stands there already
with_part-there : (at end : ℕ) (xs : List ℕ) → at ≤ end → end ≤ length xs → with_part at (slice_range xs at end) xs ≡ xs
unfolding with_part
with_part-there at end xs a b =
    let rest : List ℕ = drop at xs in
    let long : length (take (end - at) rest) ≡ end - at = length-take-le (end - at) rest (omega (arith, length-drop at xs, a, b)) in
    let past : drop (at + length (take (end - at) rest)) xs ≡ drop (end - at) rest =
    ap (λ n. drop (at + n) xs) long ∙ (let sum : at + (end - at) ≡ (end - at) + at = omega arith in ap (λ n. drop n xs) sum) ∙ sym (drop-drop (end - at) at xs ∙ (let sum : at + (end - at) ≡ (end - at) + at = omega arith in ap (λ n. drop n xs) sum)) in
    ap (λ l. take at xs ++ (take (end - at) rest ++ l)) past ∙ ap (λ l. take at xs ++ l) (take-append-drop (end - at) rest) ∙ take-append-drop at xs

module _ (desk : DeskSeen) (s : SessionSeen) (ino at : ℕ) (new : List ℕ) (m : MayEdit desk s) (o : IsOpenFile s ino) (l : at + length new ≤ size_in (body_in s ino)) where
  abbrev chain : Chain
  chain = chain_in s ino

  abbrev then' : Parcel
  then' = put_bytes (chain_in s ino).blocks at new s.parcel

  abbrev s' : SessionSeen
  s' = record s { parcel = put_bytes (chain_in s ino).blocks at new s.parcel }

  abbrev size : ℕ
  size = size_in (body_in s ino)

  abbrev old : List ℕ
  old = flat_map (page_in s.parcel) (chain_in s ino).blocks

  c : OpenChain desk s ino Regular
  c = open_chain desk s ino Regular m o

  parts : AreApart (chain_in s ino).index (chain_in s ino).blocks
  parts = apart_from chain.index chain.blocks c.once

  block_held : (n : ℕ) → In n (chain_in s ino).blocks → In n (pages_in_hand (in_hand s))
  block_held n i = c.held n (In-right n chain.index chain.blocks i)

  within : at + length new ≤ 4096 * length (chain_in s ino).blocks
  within = (let k = c.count in omega (arith, k, l))

  done : HasPut (chain_in s ino).blocks at new s.parcel then'
  done = put_done desk.out s.parcel m.all.given chain.blocks at new parts.right block_held within

  length-old : length old ≡ 4096 * length (chain_in s ino).blocks
  length-old = length-blocks desk s ino Regular m o

  -- index pages are none of the blocks
  index_same : (n : ℕ) → In n (chain_in s ino).index → page_of (core_in_hand desk (in_hand s')) n ≡ page_of (core_in_hand desk (in_hand s)) n
  index_same n i =
      let held : In n (pages_in_hand (in_hand s)) = c.held n (In-left n chain.index chain.blocks i) in
      page_of-hand desk (in_hand s') n (ap (are_new []) done.touches.pages ∙ m.order.pages) (subst (λ z. In n z) (sym done.touches.pages) held) (hand_is_core desk s n m held)
      ∙ ap Some (done.touches.other n (λ b. parts.apart n i b))
      ∙ sym (hand_page desk s n m held)

  named : IsNamed (core_in_hand desk (in_hand s')) (chain_in s ino).index (chain_in s ino).blocks
  named = record {
    many = c.named.many;
    each = λ k h.
        let share = c.named.each k h in
        record { bytes = share.bytes; there = index_same (get_or chain.index k 0) (get_or-In chain.index k 0 h) ∙ share.there; names = share.names };
  }

  -- the body stands there already
  own_body : OpenWritten s ino Regular → (f : LentFile) → In f s.parcel.writes → f.stands.ino ≡ ino → f.stands.body ≡ body_in s ino
  own_body w f i e =
      ap (λ (x : LentFile). x.stands.body)
      (one_keyed (λ (x : LentFile). x.stands.ino) s.parcel.writes f w.file m.order.files i (slice_get-In s.parcel.writes w.place w.file w.there) (e ∙ sym w.number))
      ∙ sym (body-written s ino w.file.stands w.none w.shown)

  alters_at : (q : Option MadeFile) → made_file s ino ≡ q
      → Alters (λ n. In n (chain_in s ino).blocks ⊎ IsSlotPage q n) (bodied_files q ino (body_in s ino) (bare_files s.parcel)) s.parcel then'
  alters_at (Some mf) found =
      alters_more (λ n. In n (chain_in s ino).blocks) (λ n. In n (chain_in s ino).blocks ⊎ IsSlotPage (Some mf) n) (bare_files s.parcel) s.parcel then' (λ n i. inl i) done.touches
  alters_at None none =
      let P : ℕ → Type 0 = λ n. In n (chain_in s ino).blocks ⊎ IsSlotPage None n in
      alters_none P ino (body_in s ino) s.parcel then'
      (elim (opened s ino Regular o) [
        | inl w ↦ own_body w
        | inr w ↦ absurd (let wrong : None ≡ Some w.file = sym none ∙ w.found in cc wrong)
      ])
      (alters_more (λ n. In n (chain_in s ino).blocks) P (bare_files s.parcel) s.parcel then' (λ n i. inl i) done.touches)

  slot_there : (mf : MadeFile) → made_file s ino ≡ Some mf → page_in then' mf.page ≡ with_body_in mf.slot (body_in s ino) (page_in s.parcel mf.page)
  slot_there mf found =
      let i = (made_at s ino mf found).0 in
      let page : List ℕ = page_in s.parcel mf.page in
      let low : mf.slot < 16 = (m.made.slots mf i).slot in
      let whole : length (page_in s.parcel mf.page) ≡ 4096 = slot_whole desk s mf m i in
      done.touches.other mf.page (λ b. plain_is_none desk s ino Regular mf m o refl i (In-right mf.page chain.index chain.blocks b))
      ∙ sym (with_part-there (256 * mf.slot + 192) (256 * mf.slot + 256) page (omega arith) (omega (arith, low, whole)))
      ∙ ap (λ b. with_body_in mf.slot b page) (sym (body-made s ino mf found))

  bytes_now : take size (flat_map (page_in then') (chain_in s ino).blocks) ≡ put_at at new (bytes_in s ino)
  bytes_now = search (arith, c, length-old, length-take-le, done, take-with_part, with_part-put_at)

  length-now : size ≡ length (put_at at new (bytes_in s ino))
  length-now =
      let long : size ≤ length old = (let k = c.count in omega (arith, k, length-old)) in
      let first : length (take size old) ≡ size = length-take-le size old long in
      let room : at + length new ≤ length (take size old) = omega (arith, first, l) in
      sym (length-with_part at new (take size old) room ∙ first)
      ∙ ap (λ (z : List ℕ). length z) (with_part-put_at at new (take size old) room)

  abbrev edit : IsEdit desk s s' ino Regular
  edit =
      let same = with_chain-same s ino Regular m.beside (made_once desk s m) o in
      record {
        body = body_in s ino;
        read = c.body;
        chain = chain;
        touched = chain.blocks;
        anew = record { lib = refl; creds = refl; reads = refl; chains = sym same.0; made = sym same.1; cleared = refl; indexed = refl };
        placed = m.placed;
        alters = alters_at (made_file s ino) refl;
        slot = λ mf found. (length-body_of Regular desk.sizes.range (body_in s ino) c.body c.read, slot_there mf found);
        is = c.read;
        rights = record { mode = ap (λ (b : Body). b.mode.0) (sym c.at); uid = ap (λ (b : Body). b.uid) (sym c.at); gid = ap (λ (b : Body). b.gid) (sym c.at) };
        count = ap (λ (b : Body). block_count b.size) (sym c.at) ∙ c.count;
        head = c.head;
        named = named;
        once = c.once;
        from = λ n i. inl i;
        own = λ n i. inl (In-right n chain.index chain.blocks i);
        grows = λ e. absurd (let wrong : Regular ≡ Directory = e in cc wrong);
      }

  put_gets : GetsBytes desk s s' ino (put_at at new (bytes_in s ino))
  put_gets =
      let is : c.body.size ≡ size = ap (λ (b : Body). b.size) (sym c.at) in
      edit_gets desk s s' ino (put_at at new (bytes_in s ino)) m o edit (ap (λ n. take n (flat_map (page_in then') (chain_in s ino).blocks)) is ∙ bytes_now) (is ∙ length-now) refl

pub put_shows : PutShows
unfolding put
put_shows desk s ino at new m o l = put_gets desk s ino at new m o l
