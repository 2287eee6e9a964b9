-- A slot of an open directory that is written, as the laws of slots have it.
use Rattle.trio_edit_laws.proofs.Words.{◌*◌, ◌++◌, ◌+◌, ◌-◌, ◌<◌, ◌∙◌, ◌∷◌, ◌≡◌, ◌≤◌, AreSlotWrites, Chain, DeskSeen, Directory, In, In-right, IsSlotWrite, IsView, IsWhole, List, MayEdit, Nodes, Option, Row, SessionSeen, SlotWrite, Some, [], ap, append_assoc, arith, body_in_slot, chain_in, drop, drop-append-le, drop-drop, in_hand, length, length-drop, length-take-le, length-with_part, open_kind, page_in, pages_in_hand, refl, slice_range, slot_bytes, subst, sym, take, ℕ}
use Rattle.std.proofs.Common.{length-append}
use Rattle.std.proofs.lemmas.List.{take-append-drop}
use Rattle.trio_page.specs.Field.{with_part}
use Rattle.trio_page.proofs.Fields.{slice-with_part_same}
use Rattle.trio_session.proofs.SlotBytes.{slice-slot_bytes}
use Rattle.trio_edit_laws.proofs.HandStays.{page_then}
use Rattle.trio_edit_laws.proofs.Keeps.{place_of_open}
use Rattle.trio_edit_laws.proofs.Opens.{open_chained}
use Rattle.trio_edit_laws.proofs.Pages.{length-page_in}
use Rattle.trio_edit_laws.proofs.directories.Sees.{r, there}
use Rattle.trio_edit_laws.proofs.directories.Stays.{WritesDirs, hand_stays, core_same, reads_same}
use Rattle.trio_edit_laws.proofs.session.SlotCases.{only}

-- ---- bytes

-- a slot of a page with the first of its bytes written
abbrev pub slot_with_part : ℕ → List ℕ → List ℕ → List ℕ
slot_with_part slot part page = with_part 0 part (slot_bytes slot page)

-- the bytes of a slot
slot_bytes-take : (slot : ℕ) (page : List ℕ) → slot_bytes slot page ≡ take 256 (drop (256 * slot) page)
slot_bytes-take slot page = (let size : 256 * slot + 256 - 256 * slot ≡ 256 = omega arith in ap (λ n. take n (drop (256 * slot) page)) size)

length-slot_bytes : (slot : ℕ) (page : List ℕ) → length page ≡ 4096 → slot < 16 → length (slot_bytes slot page) ≡ 256
length-slot_bytes slot page whole lt =
    ap (λ (l : List ℕ). length l) (slot_bytes-take slot page) ∙ length-take-le 256 (drop (256 * slot) page) (omega (arith, length-drop (256 * slot) page, whole, lt))

pub length-slot_with_part : (slot : ℕ) (part page : List ℕ) → length page ≡ 4096 → slot < 16 → length part ≤ 256 → length (slot_with_part slot part page) ≡ 256
length-slot_with_part slot part page whole lt short =
    length-with_part 0 part (slot_bytes slot page) (omega (arith, length-slot_bytes slot page whole lt, short)) ∙ length-slot_bytes slot page whole lt

-- the page with a part at the front of a slot is that with the whole slot so written
pub with_part-slot : (slot : ℕ) (part page : List ℕ) → length page ≡ 4096 → slot < 16 → length part ≤ 256
    → with_part (256 * slot) part page ≡ with_part (256 * slot) (slot_with_part slot part page) page
unfolding with_part
with_part-slot slot part page whole lt short =
    let a : ℕ = 256 * slot in
    let behind : List ℕ = drop a page in
    let b : List ℕ = slot_bytes slot page in
    let long : length b ≡ 256 = length-slot_bytes slot page whole lt in
    let size : length (part ++ drop (length part) b) ≡ 256 = omega (arith, length-append part (drop (length part) b), length-drop (length part) b, long, short) in
    let zero' : 0 + length part ≡ length part = omega arith in
    let parts : b ++ drop 256 behind ≡ behind = ap (λ l. l ++ drop 256 behind) (slot_bytes-take slot page) ∙ take-append-drop 256 behind in
    let back : drop (a + length part) page ≡ drop (length part) b ++ drop 256 behind =
    sym (drop-drop (length part) a page) ∙ ap (drop (length part)) (sym parts) ∙ drop-append-le (length part) b (drop 256 behind) (omega (arith, long, short)) in
    let past : drop 256 behind ≡ drop (a + length (part ++ drop (length part) b)) page = drop-drop 256 a page ∙ ap (λ n. drop (a + n) page) (sym size) in
    search (arith, append_assoc)

pub slot_bytes-written : (slot : ℕ) (new page : List ℕ) → length page ≡ 4096 → slot < 16 → length new ≡ 256 → slot_bytes slot (with_part (256 * slot) new page) ≡ new
slot_bytes-written slot new page whole lt sized = slice-with_part_same (256 * slot) new page (256 * slot + 256) (omega (arith, whole, lt, sized)) (omega (arith, sized))

pub body-written_slot : (slot : ℕ) (new page : List ℕ) → length page ≡ 4096 → slot < 16 → length new ≡ 256
    → body_in_slot 0 new ≡ body_in_slot slot (with_part (256 * slot) new page)
body-written_slot slot new page whole lt sized =
    ap (λ l. slice_range l 192 256) (sym (slot_bytes-written slot new page whole lt sized)) ∙ slice-slot_bytes slot (with_part (256 * slot) new page)

-- ---- a block of an open directory

pub block_whole : (desk : DeskSeen) (s : SessionSeen) (dir n : ℕ) → MayEdit desk s → open_kind s dir ≡ Some Directory → In n (chain_in s dir).blocks → IsWhole s.parcel n
block_whole desk s dir n m o i =
    let hand : In n (pages_in_hand (in_hand s)) =
    m.own n (open_chained s dir n (place_of_open desk s dir Directory m o) (In-right n (chain_in s dir).index (chain_in s dir).blocks i)) in
    record { hand = hand; whole = length-page_in desk.out s.parcel n m.all.given hand }

-- a slot of it that is written
pub record WritesSlot (s s' : SessionSeen) (dir n' slot' : ℕ) (new' : List ℕ) : Type 0 where
  pub block : In n' (chain_in s dir).blocks
  pub below : slot' < 16
  pub sized : length new' ≡ 256
  pub after : page_in s'.parcel n' ≡ with_part (256 * slot') new' (page_in s.parcel n')

module _ (desk : DeskSeen) (s s' : SessionSeen) (dir n slot : ℕ) (new : List ℕ) (m : MayEdit desk s) (w : WritesDirs s s') (o : open_kind s dir ≡ Some Directory)
    (e : WritesSlot s s' dir n slot new)
    (nodes nodes' : Nodes) (rows : List (Option Row)) (v : IsView desk (in_hand s) (in_hand s') nodes nodes' rows) where
  abbrev pub write_of : SlotWrite
  write_of = record {
    directory = (r desk s dir (in_hand s') nodes nodes' rows m v o).is.met;
    file = (r desk s dir (in_hand s') nodes nodes' rows m v o).file;
    page = n;
    slot = slot;
    old = page_in s.parcel n;
    new = new;
  }

  pub slot_write : IsSlotWrite desk (in_hand s) (in_hand s') write_of
  slot_write =
      let x = r desk s dir (in_hand s') nodes nodes' rows m v o in
      let whole = block_whole desk s dir n m o e.block in
      record {
        judged = x.is.judged;
        kind = x.is.kind;
        reads = x.reads;
        block = subst (λ (c : Chain). In n c.blocks) (sym x.chain) e.block;
        slot = e.below;
        before = there desk s dir (in_hand s') nodes nodes' rows m v o n e.block;
        whole = whole.whole;
        fills = e.sized;
        after = page_then desk s s' m (hand_stays s s' w) n whole.hand ∙ ap Some e.after;
      }

  -- and nothing else is written
  pub slot_writes : w.pages ≡ n ∷ [] → AreSlotWrites desk (in_hand s) (in_hand s') (write_of ∷ [])
  slot_writes alone = record {
    each = λ y i. only write_of (IsSlotWrite desk (in_hand s) (in_hand s')) slot_write y i;
    once = refl;
    bytes = λ k out. core_same desk s s' m w k (λ i. out (subst (In k) alone i));
    files = w.touches.files;
    pages = w.touches.pages;
    lent = w.touches.lent;
    holds = w.touches.holds;
    inodes = w.touches.inodes;
    back = reads_same s s' w;
  }
