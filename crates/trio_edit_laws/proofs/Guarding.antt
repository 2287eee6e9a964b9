-- A file that is guarded from now on, or no longer, is so in the nodes, and reads as before.
use Rattle.trio_edit_laws.proofs.Words.{◌∙◌, ◌≡◌, ◌⊎◌, Becomes, Body, Bool, Chain, DeskSeen, Directory, In, In-left, In-right, IsNamed, IsOpenFile, List, MadeFile, MayEdit, Node, Nodes, None, Option, Parcel, Regular, SessionSeen, Some, [], ap, are_new, block_count, body_in, body_of, body_stands, bytes_in, chain_in, core_in_hand, flat_map, flat_map-same, get_or, get_or-In, home_in, in_hand, inl, length, made_file, node_at, option_map, page_in, page_of, refl, size_in, subst, sym, take, with_body_at, with_node, ℕ}
use Rattle.trio_laws.specs.session.FileEdits.{node_guarded, with_guarded}
use Rattle.trio_edit_laws.specs.EditLaws.{GetsGuard, GuardShows}
use Rattle.trio_edit_laws.specs.session.FileEdits.{node_holding, with_data}
use Rattle.trio_session.specs.Layout.{body_guarded}
use Rattle.trio_session.specs.Seen.{set_guard}
use Rattle.trio_edit_laws.proofs.Bodied.{alters_home, page_bodied, slot_bodied}
use Rattle.trio_edit_laws.proofs.Edited.{becomes_now, may_now}
use Rattle.trio_edit_laws.proofs.Gets.{becomes_as, view_same}
use Rattle.trio_edit_laws.proofs.Hand.{hand_is_core, hand_page}
use Rattle.trio_edit_laws.proofs.Keeps.{IsEdit, IsSlotPage, bodied_files, body_now, chain_now, index_is_none, made_at, made_once, open_now}
use Rattle.trio_edit_laws.proofs.OpenChain.{OpenChain, open_chain, plain_is_none}
use Rattle.trio_edit_laws.proofs.Opens.{with_chain-same}
use Rattle.trio_edit_laws.proofs.Pages.{page_of-hand}
use Rattle.trio_edit_laws.proofs.Reading.{node_bytes}
use Rattle.trio_edit_laws.proofs.Sized.{body_of-guarded, guarded, length-body_of}
use Rattle.trio_edit_laws.proofs.SlotsShown.{leaves_others}
use Rattle.trio_edit_laws.proofs.Touches.{Alters, Touches, bare_files, touches_nothing}

-- the guard alone changes where the bytes are the node's
data-guarded : (ino : ℕ) (bytes : List ℕ) (on : Bool) (nodes : Nodes) → option_map (λ (x : Node). x.bytes) (node_at nodes ino) ≡ Some bytes → with_data ino bytes on nodes ≡ with_guarded ino on nodes
data-guarded ino bytes on nodes e = ap (with_node nodes ino) (by (node_at nodes ino) e)
  where
    by : (o : Option Node) → option_map (λ (x : Node). x.bytes) o ≡ Some bytes → option_map (node_holding bytes on) o ≡ option_map (node_guarded on) o
    by None e = refl
    by (Some x) e = (let t : Some x.bytes ≡ Some bytes = e in let same : x.bytes ≡ bytes = cc t in ap (λ l. Some (record x { guard = on; bytes = l })) (sym same))

module _ (desk : DeskSeen) (s : SessionSeen) (ino : ℕ) (on : Bool) (m : MayEdit desk s) (o : IsOpenFile s ino) where
  abbrev chain : Chain
  chain = chain_in s ino

  abbrev body : List ℕ
  body = body_guarded on (body_in s ino)

  abbrev then' : Parcel
  then' = with_body_at (home_in s ino) (body_guarded on (body_in s ino)) s.parcel

  abbrev s' : SessionSeen
  s' = record s { parcel = with_body_at (home_in s ino) (body_guarded on (body_in s ino)) s.parcel }

  c : OpenChain desk s ino Regular
  c = open_chain desk s ino Regular m o

  read_body : body_of Regular desk.sizes.range body ≡ Some (guarded c.body on)
  read_body = body_of-guarded desk.sizes.range (body_in s ino) c.body on c.read

  sixty : length body ≡ 64
  sixty = length-body_of Regular desk.sizes.range body (guarded c.body on) read_body

  nothing : Touches (λ n. In n []) s.parcel s.parcel
  nothing = touches_nothing (λ n. In n []) s.parcel

  page_now : (n : ℕ) → ((mf : MadeFile) → made_file s ino ≡ Some mf → n ≡ mf.page → ⊥) → page_in then' n ≡ page_in s.parcel n
  page_now n none = page_bodied desk s ino body [] s.parcel m nothing sixty (λ mf found i. i) n none

  alters : Alters (λ n. In n [] ⊎ IsSlotPage (made_file s ino) n) (bodied_files (made_file s ino) ino body (bare_files s.parcel)) s.parcel then'
  alters = alters_home desk s ino body [] s.parcel m nothing sixty (λ mf found i. i)

  block_same : (n : ℕ) → In n (chain_in s ino).blocks → page_in then' n ≡ page_in s.parcel n
  block_same n i =
      page_now n (λ mf found same.
      plain_is_none desk s ino Regular mf m o refl (made_at s ino mf found).0 (In-right mf.page chain.index chain.blocks (subst (λ k. In k chain.blocks) same i)))

  index_same : (n : ℕ) → In n (chain_in s ino).index → page_of (core_in_hand desk (in_hand s')) n ≡ page_of (core_in_hand desk (in_hand s)) n
  index_same n i =
      let held = c.held n (In-left n chain.index chain.blocks i) in
      page_of-hand desk (in_hand s') n (ap (are_new []) alters.pages ∙ m.order.pages) (subst (λ z. In n z) (sym alters.pages) held) (hand_is_core desk s n m held)
      ∙ ap Some (page_now n (λ mf found same. index_is_none desk s ino Regular mf m o (made_at s ino mf found).0 (subst (λ k. In k chain.index) same i)))
      ∙ sym (hand_page desk s n m held)

  named : IsNamed (core_in_hand desk (in_hand s')) (chain_in s ino).index (chain_in s ino).blocks
  named = record {
    many = c.named.many;
    each = λ k h.
        let share = c.named.each k h in
        record { bytes = share.bytes; there = index_same (get_or chain.index k 0) (get_or-In chain.index k 0 h) ∙ share.there; names = share.names };
  }

  abbrev edit : IsEdit desk s s' ino Regular
  edit =
      let same = with_chain-same s ino Regular m.beside (made_once desk s m) o in
      record {
        body = body;
        read = guarded c.body on;
        chain = chain;
        touched = [];
        anew = record { lib = refl; creds = refl; reads = refl; chains = sym same.0; made = sym same.1; cleared = refl; indexed = refl };
        placed = m.placed;
        alters = alters;
        slot = λ mf found. (sixty, slot_bodied desk s ino body [] s.parcel m nothing sixty (λ mf found i. i) mf found);
        is = read_body;
        rights = record { mode = ap (λ (b : Body). b.mode.0) (sym c.at); uid = ap (λ (b : Body). b.uid) (sym c.at); gid = ap (λ (b : Body). b.gid) (sym c.at) };
        count = ap (λ (b : Body). block_count b.size) (sym c.at) ∙ c.count;
        head = c.head;
        named = named;
        once = c.once;
        from = λ n i. inl i;
        own = λ n i. absurd i;
        grows = λ e. absurd (let wrong : Regular ≡ Directory = e in cc wrong);
      }

  -- the size and the blocks are as they were
  bytes_same : take c.body.size (flat_map (page_in then') (chain_in s ino).blocks) ≡ bytes_in s ino
  bytes_same =
      ap (λ (b : Body). take b.size (flat_map (page_in then') (chain_in s ino).blocks)) (sym c.at)
      ∙ ap (take (size_in (body_in s ino))) (flat_map-same (page_in then') (page_in s.parcel) (chain_in s ino).blocks block_same)

  both : Becomes desk (in_hand s) (in_hand s') (with_data ino (bytes_in s ino) on)
  both = subst (λ l. Becomes desk (in_hand s) (in_hand s') (with_data ino l on)) bytes_same (becomes_now desk s s' ino Regular m o edit)

  guard_gets : GetsGuard desk s s' ino on
  guard_gets = record {
    becomes =
        becomes_as desk (in_hand s) (in_hand s') (with_data ino (bytes_in s ino) on) (with_guarded ino on) both
        (λ nodes nodes' rows may. data-guarded ino (bytes_in s ino) on nodes' (node_bytes desk s ino Regular nodes nodes' rows m o refl (view_same desk s s' (with_data ino (bytes_in s ino) on) nodes nodes' rows m both may)));
    may = may_now desk s s' ino Regular m o edit;
    writable = open_now desk s s' ino Regular m o edit ino ∙ o;
    bytes =
        ap (λ b. take (size_in b) (flat_map (page_in s'.parcel) (chain_in s' ino).blocks)) (body_now desk s s' ino Regular m o edit)
        ∙ ap (λ (k : Chain). take (size_in body) (flat_map (page_in s'.parcel) k.blocks)) (chain_now desk s s' ino Regular m o edit)
        ∙ ap (λ n. take n (flat_map (page_in then') chain.blocks)) (ap (λ (b : Body). b.size) (body_stands Regular desk.sizes.range body (guarded c.body on) read_body))
        ∙ bytes_same;
    others = leaves_others desk s s' ino Regular m o edit;
  }

pub guard_shows : GuardShows
unfolding set_guard
guard_shows desk s ino on m o = guard_gets desk s ino on m o
