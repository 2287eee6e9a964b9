-- What is known of the chain of a file that is open.
use Rattle.trio_edit_laws.proofs.Words.{◌∙◌, ◌≡◌, Body, Chain, DeskSeen, Directory, In, In-left, In-right, IsNamed, Kind, MadeFile, MayEdit, Regular, SessionSeen, Some, [], ap, are_new, block_count, body_at, body_in, body_of, body_stands, chain_in, chained, core_in_hand, get_or, in_hand, length, open_kind, page_in, pages_in_hand, size_in, some_one, suc, true, ℕ, is_directory, is_directory-false, false}
use Rattle.trio_edit_laws.proofs.Hand.{hand_page}
use Rattle.trio_edit_laws.proofs.IndexFields.{AreAt, IndexSays, says-named}
use Rattle.trio_edit_laws.proofs.Keeps.{place_of_open}
use Rattle.trio_edit_laws.proofs.Opens.{open_apart, open_chained, open_once, pages_of_chain}
use Rattle.trio_edit_laws.proofs.Pages.{length-page_in}

-- Its body is read, its index pages name its blocks, and its pages are in hand, whole, each once.
pub record OpenChain (desk : DeskSeen) (s : SessionSeen) (ino' : ℕ) (kind' : Kind) : Type 0 where
  pub body : Body
  pub read : body_of kind' desk.sizes.range (body_in s ino') ≡ Some body
  pub at : body_at (body_in s ino') ≡ body
  pub named : IsNamed (core_in_hand desk (in_hand s)) (chain_in s ino').index (chain_in s ino').blocks
  pub count : block_count (size_in (body_in s ino')) ≡ length (chain_in s ino').blocks
  pub head : body.head ≡ get_or (chain_in s ino').index 0 0
  pub says : IndexSays (page_in s.parcel) (chain_in s ino').index (λ j. get_or (chain_in s ino').blocks j 0) (λ k. get_or (chain_in s ino').index (suc k) 0)
  pub once : are_new [] (pages_of_chain (chain_in s ino')) ≡ true
  pub chained : (n : ℕ) → In n (pages_of_chain (chain_in s ino')) → In n (chained s)
  pub held : (n : ℕ) → In n (pages_of_chain (chain_in s ino')) → In n (pages_in_hand (in_hand s))
  pub whole : (n : ℕ) → In n (pages_of_chain (chain_in s ino')) → length (page_in s.parcel n) ≡ 4096

pub open_chain : (desk : DeskSeen) (s : SessionSeen) (ino : ℕ) (kind : Kind) → MayEdit desk s → open_kind s ino ≡ Some kind → OpenChain desk s ino kind
open_chain desk s ino kind m o =
    let r = m.chains ino kind o in
    let p = place_of_open desk s ino kind m o in
    let old : Chain = chain_in s ino in
    let stands : body_at (body_in s ino) ≡ r.body = body_stands kind desk.sizes.range (body_in s ino) r.body r.is in
    let held : (n : ℕ) → In n (pages_of_chain (chain_in s ino)) → In n (pages_in_hand (in_hand s)) = λ n i. m.own n (open_chained s ino n p i) in
    let at : AreAt (core_in_hand desk (in_hand s)) (page_in s.parcel) old.index = λ n i. hand_page desk s n m (held n (In-left n old.index old.blocks i)) in
    record {
      body = r.body;
      read = r.is;
      at = stands;
      named = r.named;
      count = ap (λ (b : Body). block_count b.size) stands ∙ r.count;
      head = r.head;
      says = says-named (core_in_hand desk (in_hand s)) (page_in s.parcel) old.index old.blocks r.named at;
      once = open_once s ino m.once p;
      chained = λ n i. open_chained s ino n p i;
      held = held;
      whole = λ n i. length-page_in desk.out s.parcel n m.all.given (held n i);
    }

-- no page of what is no directory is the page of a slot of a file that was made
pub plain_is_none : (desk : DeskSeen) (s : SessionSeen) (ino : ℕ) (kind : Kind) (mf : MadeFile) → MayEdit desk s → open_kind s ino ≡ Some kind → is_directory kind ≡ false → In mf s.made → In mf.page (pages_of_chain (chain_in s ino)) → ⊥
plain_is_none desk s ino kind mf m o plain i j =
    let q = m.made.slots mf i in
    let d = place_of_open desk s q.directory Directory m q.opens in
    open_apart s ino q.directory mf.page m.once (place_of_open desk s ino kind m o) d
    (λ same. is_directory-false kind plain (some_one (open_kind s ino) kind Directory o (ap (open_kind s) same ∙ q.opens)))
    j (In-right mf.page (chain_in s q.directory).index (chain_in s q.directory).blocks q.block)
