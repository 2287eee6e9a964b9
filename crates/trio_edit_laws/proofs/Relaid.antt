-- A file whose chain was written anew, and then its body.
use Rattle.trio_edit_laws.proofs.Words.{◌++◌, ◌<◌, ◌^◌, ◌∙◌, ◌≡◌, ◌≤◌, ◌⊎◌, Body, DeskSeen, Directory, In, In-left, In-right, IsNamed, Kind, List, MadeFile, MayEdit, Parcel, SessionSeen, Some, [], ap, are_new, arith, block_count, body_in, body_of, chain_in, core_in_hand, get_or, home_in, in_hand, index_count, inl, inr, length, made_file, open_kind, page_in, pages_in_hand, refl, size_fits, subst, suc, sym, true, with_body_at, ℕ}
use Rattle.trio_session.specs.Layout.{body_sized}
use Rattle.trio_edit_laws.proofs.Anew.{IsAnew}
use Rattle.trio_edit_laws.proofs.Bodied.{alters_home, page_bodied, slot_bodied}
use Rattle.trio_edit_laws.proofs.Chained.{apart_from}
use Rattle.trio_edit_laws.proofs.Hand.{hand_is_core}
use Rattle.trio_edit_laws.proofs.IndexFields.{AreCore, IndexSays, named-says}
use Rattle.trio_edit_laws.proofs.Keeps.{GrowsBlank, IsEdit, IsFree, IsSlotPage, bodied_files}
use Rattle.trio_edit_laws.proofs.OpenChain.{OpenChain, open_chain}
use Rattle.trio_edit_laws.proofs.Opens.{pages_of_chain}
use Rattle.trio_edit_laws.proofs.Pages.{page_of-hand}
use Rattle.trio_edit_laws.proofs.Resized.{few_core}
use Rattle.trio_edit_laws.proofs.Sized.{body_of-sized, head_fits-index, length-body_of, sized}
use Rattle.trio_edit_laws.proofs.Touches.{Alters, Touches, bare_files}

-- An open file has a chain of these index pages and blocks, of pages that it had or that are free: the index pages say the numbers of the
-- blocks, as many as the size wants. The slot of a file that was made is on none of the pages that were written, nor on an index page.
pub record IsRelaid (desk : DeskSeen) (s : SessionSeen) (ino' : ℕ) (kind' : Kind) (size' : ℕ) (index blocks touched : List ℕ) (written : Parcel) : Type 0 where
  pub touches : Touches (λ n. In n touched) s.parcel written
  pub own : (n : ℕ) → In n touched → In n (pages_of_chain (chain_in s ino')) ⊎ In n (index ++ blocks)
  pub apart : (mf : MadeFile) → made_file s ino' ≡ Some mf → In mf.page touched ⊎ In mf.page index → ⊥
  pub says : IndexSays (page_in written) index (λ j. get_or blocks j 0) (λ k. get_or index (suc k) 0)
  pub index_many : length index ≡ index_count (block_count size')
  pub blocks_many : block_count size' ≡ length blocks
  pub once : are_new [] (index ++ blocks) ≡ true
  pub from : (n : ℕ) → In n (index ++ blocks) → In n (pages_of_chain (chain_in s ino')) ⊎ IsFree desk s n
  pub small_head : get_or index 0 0 < 2 ^ 32
  pub small_size : size' < 2 ^ 64
  pub whole_size : size_fits kind' size' ≡ true

-- what is in hand with the body too, and all else of the session as an edit leaves it
pub record IsBodied (s s' : SessionSeen) (ino' size' : ℕ) (index blocks : List ℕ) (written : Parcel) : Type 0 where
  pub parcel : s'.parcel ≡ with_body_at (home_in s ino') (body_sized (get_or index 0 0) size' (body_in s ino')) written
  pub anew : IsAnew s s' ino' (record { index = index; blocks = blocks })
  pub placed : s'.placed ≤ length s.parcel.pages

module _ (desk : DeskSeen) (s s' : SessionSeen) (ino : ℕ) (kind : Kind) (size : ℕ) (index blocks touched : List ℕ) (written : Parcel) (m : MayEdit desk s) (o : open_kind s ino ≡ Some kind)
    (r : IsRelaid desk s ino kind size index blocks touched written) (b : IsBodied s s' ino size index blocks written) where
  abbrev pub body_then : List ℕ
  body_then = body_sized (get_or index 0 0) size (body_in s ino)

  pub old : OpenChain desk s ino kind
  old = open_chain desk s ino kind m o

  held : (n : ℕ) → In n (index ++ blocks) → In n (pages_in_hand (in_hand s))
  held n i = elim (r.from n i) [ inl a ↦ old.held n a | inr free ↦ free.held ]

  core_index : AreCore desk.sizes.range index
  core_index n i = hand_is_core desk s n m (held n (In-left n index blocks i))

  core_blocks : AreCore desk.sizes.range blocks
  core_blocks n i = hand_is_core desk s n m (held n (In-right n index blocks i))

  pub read_body : body_of kind desk.sizes.range (body_sized (get_or index 0 0) size (body_in s ino)) ≡ Some (sized old.body (get_or index 0 0) size)
  read_body =
      let few = few_core desk.sizes.range blocks (apart_from index blocks r.once).right core_blocks in
      body_of-sized kind desk.sizes.range (body_in s ino) old.body (get_or index 0 0) size old.read r.small_head r.small_size (let k = r.blocks_many in omega (arith, few, k)) r.whole_size
      (head_fits-index desk.sizes.range (block_count size) index r.index_many core_index)

  pub sixty : length (body_sized (get_or index 0 0) size (body_in s ino)) ≡ 64
  sixty = length-body_of kind desk.sizes.range body_then (sized old.body (get_or index 0 0) size) read_body

  pub untouched : (mf : MadeFile) → made_file s ino ≡ Some mf → In mf.page touched → ⊥
  untouched mf found i = r.apart mf found (inl i)

  -- a page that isn't the slot's is as it was written
  pub page_now : (n : ℕ) → ((mf : MadeFile) → made_file s ino ≡ Some mf → n ≡ mf.page → ⊥) → page_in s'.parcel n ≡ page_in written n
  page_now n none = ap (λ x. page_in x n) b.parcel ∙ page_bodied desk s ino body_then touched written m r.touches sixty untouched n none

  pub alters_now : Alters (λ n. In n touched ⊎ IsSlotPage (made_file s ino) n) (bodied_files (made_file s ino) ino body_then (bare_files s.parcel)) s.parcel s'.parcel
  alters_now =
      subst (λ x. Alters (λ n. In n touched ⊎ IsSlotPage (made_file s ino) n) (bodied_files (made_file s ino) ino body_then (bare_files s.parcel)) s.parcel x) (sym b.parcel)
      (alters_home desk s ino body_then touched written m r.touches sixty untouched)

  pub named : IsNamed (core_in_hand desk (in_hand s')) index blocks
  named =
      named-says (core_in_hand desk (in_hand s')) (page_in written) index blocks (r.index_many ∙ ap index_count r.blocks_many)
      (λ n i.
      let h = held n (In-left n index blocks i) in
      page_of-hand desk (in_hand s') n (ap (are_new []) alters_now.pages ∙ m.order.pages) (subst (λ l. In n l) (sym alters_now.pages) h) (hand_is_core desk s n m h)
      ∙ ap Some (page_now n (λ mf found same. r.apart mf found (inr (subst (λ p. In p index) same i)))))
      core_index core_blocks r.says

  abbrev pub edit_relaid : (kind ≡ Directory → GrowsBlank s s' ino (record { index = index; blocks = blocks }) touched) → IsEdit desk s s' ino kind
  edit_relaid grows = record {
    body = body_then;
    read = sized old.body (get_or index 0 0) size;
    chain = record { index = index; blocks = blocks };
    touched = touched;
    anew = b.anew;
    placed = b.placed;
    alters = alters_now;
    slot = λ mf found. (sixty, ap (λ x. page_in x mf.page) b.parcel ∙ slot_bodied desk s ino body_then touched written m r.touches sixty untouched mf found);
    is = read_body;
    rights = record { mode = ap (λ (x : Body). x.mode.0) (sym old.at); uid = ap (λ (x : Body). x.uid) (sym old.at); gid = ap (λ (x : Body). x.gid) (sym old.at) };
    count = r.blocks_many;
    head = refl;
    named = named;
    once = r.once;
    from = r.from;
    own = r.own;
    grows = grows;
  }
