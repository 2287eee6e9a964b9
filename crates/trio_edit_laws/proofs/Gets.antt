-- A regular file that is edited has these bytes, or this guard, and the session reads them.
use Rattle.trio_edit_laws.proofs.Words.{◌∙◌, ◌≡◌, Becomes, Body, Bool, Chain, DeskSeen, GetsBytes, InHand, IsOpenFile, IsTree, IsView, List, MayEdit, MayShow, Node, Nodes, None, Option, Regular, Row, SessionSeen, Shows, Some, ap, body_in, body_stands, case_in_hand, chain_in, flat_map, guard_in, in_hand, length, node_at, option_map, page_in, refl, size_in, subst, sym, take, with_content, with_node, ℕ}
use Rattle.trio_laws.specs.session.FileEdits.{node_with}
use Rattle.trio_edit_laws.specs.session.FileEdits.{node_holding, with_data}
use Rattle.trio_edit_laws.proofs.Edited.{becomes_now, may_now}
use Rattle.trio_edit_laws.proofs.Reading.{node_guard}
use Rattle.trio_edit_laws.proofs.SlotsShown.{leaves_others}
use Rattle.trio_edit_laws.proofs.Keeps.{IsEdit, body_now, chain_now, open_now}

-- what becomes of nodes may be said in another way
pub becomes_as : (desk : DeskSeen) (h h' : InHand) (f g : Nodes → Nodes) → Becomes desk h h' f
    → ((nodes nodes' : Nodes) (rows : List (Option Row)) → MayShow desk h h' nodes nodes' rows → f nodes' ≡ g nodes') → Becomes desk h h' g
becomes_as desk h h' f g b same = record {
  more = b.more;
  shows = λ nodes nodes' rows may. subst (λ n. Shows (case_in_hand desk rows h') nodes n) (same nodes nodes' rows may) (b.shows nodes nodes' rows may);
  tree = λ nodes nodes' rows may. subst IsTree (same nodes nodes' rows may) (b.tree nodes nodes' rows may);
  order = b.order;
}

-- what an edit shows is viewed as what is in hand shows
pub view_same : (desk : DeskSeen) (s s' : SessionSeen) (f : Nodes → Nodes) (nodes nodes' : Nodes) (rows : List (Option Row)) → MayEdit desk s → Becomes desk (in_hand s) (in_hand s') f
    → MayShow desk (in_hand s) (in_hand s') nodes nodes' rows → IsView desk (in_hand s) (in_hand s) nodes nodes' rows
view_same desk s s' f nodes nodes' rows m b may =
    record { order = m.order; more = λ n r p. p; shows = record { possible = b.more nodes rows may.possible; tree = may.tree; shows = may.shows } }

-- the bytes alone change where the guard is the node's
data-content : (ino : ℕ) (new : List ℕ) (g : Bool) (nodes : Nodes) → option_map (λ (x : Node). x.guard) (node_at nodes ino) ≡ Some g → with_data ino new g nodes ≡ with_content ino new nodes
data-content ino new g nodes e = ap (with_node nodes ino) (by (node_at nodes ino) e)
  where
    by : (o : Option Node) → option_map (λ (x : Node). x.guard) o ≡ Some g → option_map (node_holding new g) o ≡ option_map (node_with new) o
    by None e = refl
    by (Some x) e = (let t : Some x.guard ≡ Some g = e in let same : x.guard ≡ g = cc t in ap (λ b. Some (record x { guard = b; bytes = new })) (sym same))

pub edit_gets : (desk : DeskSeen) (s s' : SessionSeen) (ino : ℕ) (new : List ℕ) → MayEdit desk s → IsOpenFile s ino → (e : IsEdit desk s s' ino Regular)
    → take e.read.size (flat_map (page_in s'.parcel) e.chain.blocks) ≡ new → e.read.size ≡ length new → guard_in e.body ≡ guard_in (body_in s ino) → GetsBytes desk s s' ino new
edit_gets desk s s' ino new m o e bytes many same =
    let guard : e.read.guard ≡ guard_in (body_in s ino) = sym (ap (λ (b : Body). b.guard) (body_stands Regular desk.sizes.range e.body e.read e.is)) ∙ same in
    let size : size_in e.body ≡ e.read.size = ap (λ (b : Body). b.size) (body_stands Regular desk.sizes.range e.body e.read e.is) in
    let both : Becomes desk (in_hand s) (in_hand s') (with_data ino new e.read.guard) =
    subst (λ l. Becomes desk (in_hand s) (in_hand s') (with_data ino l e.read.guard)) bytes (becomes_now desk s s' ino Regular m o e) in
    record {
      becomes =
          becomes_as desk (in_hand s) (in_hand s') (with_data ino new e.read.guard) (with_content ino new) both
          (λ nodes nodes' rows may.
          data-content ino new e.read.guard nodes'
          (node_guard desk s ino Regular nodes nodes' rows m o refl (view_same desk s s' (with_data ino new e.read.guard) nodes nodes' rows m both may) ∙ ap Some (sym guard)));
      may = may_now desk s s' ino Regular m o e;
      writable = open_now desk s s' ino Regular m o e ino ∙ o;
      bytes =
          ap (λ b. take (size_in b) (flat_map (page_in s'.parcel) (chain_in s' ino).blocks)) (body_now desk s s' ino Regular m o e)
          ∙ ap (λ (c : Chain). take (size_in e.body) (flat_map (page_in s'.parcel) c.blocks)) (chain_now desk s s' ino Regular m o e)
          ∙ ap (λ n. take n (flat_map (page_in s'.parcel) e.chain.blocks)) size
          ∙ bytes;
      others = leaves_others desk s s' ino Regular m o e;
      size = ap size_in (body_now desk s s' ino Regular m o e) ∙ size ∙ many;
    }
