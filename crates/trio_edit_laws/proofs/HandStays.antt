-- All that is in hand stays, but for bytes: what is possible, that it is in order, and that it is all that is out.
use Rattle.trio_edit_laws.proofs.Words.{◌∙◌, ◌≡◌, ◌≤◌, DeskSeen, FreshParts, HandsInAll, HoldParts, In, InoParts, IsAmong, IsInOrder, IsLeftAlone, IsOn, LibOut, List, MayEdit, SessionSeen, Shown, Some, TakesMore, WasGiven, Written, [], among_cases, ap, are_new, arith, bundle_of, case_in_hand, core_in_hand, file_numbers, hold_numbers, in_hand, inl, ino_numbers, inr, length, length-map, lent_files, map, map-map, page_in, page_numbers, page_of, pages_in_hand, possible_with_less, subst, sym, ℕ}
use Rattle.std.specs.Prelude.{◌↔◌}
use Rattle.trio_edit_laws.specs.Written.{IsWellGiven}
use Rattle.trio_edit_laws.proofs.Hand.{hand_is_core, hand_page}
use Rattle.trio_edit_laws.proofs.Pages.{page_of-elsewhere, page_of-hand}

-- the same leases, holds, pages and numbers are in hand, and as many chains are kept
pub record HandStays (s s' : SessionSeen) : Type 0 where
  pub lib : s'.lib ≡ s.lib
  pub creds : s'.creds ≡ s.creds
  pub reads : s'.reads ≡ s.reads
  pub chains : length s'.chains ≡ length s.chains
  pub numbers : file_numbers s'.parcel.writes ≡ file_numbers s.parcel.writes
  pub lent : lent_files s'.parcel.writes ≡ lent_files s.parcel.writes
  pub pages : pages_in_hand (in_hand s') ≡ pages_in_hand (in_hand s)
  pub fresh : page_numbers s'.parcel.pages ≡ page_numbers s.parcel.pages
  pub holds : s'.parcel.holds ≡ s.parcel.holds
  pub inodes : s'.parcel.inodes ≡ s.parcel.inodes
  pub given : (out : LibOut) → WasGiven out s.parcel → WasGiven out s'.parcel

module _ (desk : DeskSeen) (s s' : SessionSeen) (m : MayEdit desk s) (h : HandStays s s') where
  -- a page in hand has the bytes that it has then
  pub page_then : (n : ℕ) → In n (pages_in_hand (in_hand s)) → page_of (core_in_hand desk (in_hand s')) n ≡ Some (page_in s'.parcel n)
  page_then n i = page_of-hand desk (in_hand s') n (ap (are_new []) h.pages ∙ m.order.pages) (subst (λ l. In n l) (sym h.pages) i) (hand_is_core desk s n m i)

  -- and one with the same bytes is the same
  pub page_same : (n : ℕ) → page_in s'.parcel n ≡ page_in s.parcel n → page_of (core_in_hand desk (in_hand s')) n ≡ page_of (core_in_hand desk (in_hand s)) n
  page_same n same =
      elim (among_cases n (pages_in_hand (in_hand s))) [
        | inl i ↦ page_then n i ∙ ap Some same ∙ sym (hand_page desk s n m i)
        | inr none ↦ page_of-elsewhere desk (in_hand s) (in_hand s') n none (λ i. none (subst (λ l. In n l) h.pages i))
      ]

  pub takes_more : TakesMore desk (in_hand s) (in_hand s')
  takes_more = search (arith, possible_with_less)

  bundle_numbers : map (λ (x : Written). x.ino) (bundle_of s'.parcel).writes ≡ map (λ (x : Written). x.ino) (bundle_of s.parcel).writes
  bundle_numbers = search (arith, map-map)

  pub in_order : IsInOrder desk (in_hand s')
  in_order = record {
    among = λ nodes rows possible.
        let a : IsAmong (case_in_hand desk rows (in_hand s)) nodes = m.order.among nodes rows (takes_more nodes rows possible) in
        record {
          same = a.same;
          written = λ n i. a.written n (subst (λ l. In n l) bundle_numbers i);
          held = λ n i. a.held n (subst (λ (l : List HoldParts). In n (map (λ (k : HoldParts). k.ino) l)) h.holds i);
          apart = λ n i j. a.apart n (subst (λ (l : List HoldParts). In n (map (λ (k : HoldParts). k.ino) l)) h.holds i) (subst (λ l. In n l) bundle_numbers j);
          closed = λ n r i k. subst (λ l. In r.parent l) (sym bundle_numbers) (a.closed n r (subst (λ (l : List HoldParts). In n (map (λ (k : HoldParts). k.ino) l)) h.holds i) k);
          new = λ n i. a.new n (subst (λ (l : List InoParts). In n (ino_numbers l)) h.inodes i);
        };
    pages = ap (are_new []) h.pages ∙ m.order.pages;
    files = ap (are_new []) h.numbers ∙ m.order.files;
  }

  pub is_on : IsOn desk s'
  is_on = record {
    lib = h.lib ∙ m.on.lib;
    creds = h.creds ∙ m.on.creds;
    out = search arith;
    writes = λ x i. m.on.writes x (subst (λ l. In x l) h.lent i);
    reads = λ x i. m.on.reads x (subst (λ l. In x l) h.reads i);
    core = λ n i. m.on.core n (subst (λ l. In n l) h.fresh i);
  }

  pub hands_in_all : HandsInAll desk.out s'.parcel s'.reads
  hands_in_all = record {
    given = h.given desk.out m.all.given;
    writes = λ x i. subst (λ l. In x l) (sym h.lent) (m.all.writes x i);
    reads = λ x. subst (λ l. In x desk.out.reads ↔ In x l) (sym h.reads) (m.all.reads x);
    reads_once = ap (λ (l : List Shown). are_new [] (map (λ (x : Shown). x.ino) l)) h.reads ∙ m.all.reads_once;
    holds = λ k i. subst (λ l. In k l) (sym h.holds) (m.all.holds k i);
    pages = λ n i. subst (λ l. In n l) (sym h.fresh) (m.all.pages n i);
    numbers = λ n i. subst (λ (l : List InoParts). In n (ino_numbers l)) (sym h.inodes) (m.all.numbers n i);
  }

  pub well_given : IsWellGiven desk s'.parcel
  well_given = record {
    holds = λ k i. m.given.holds k (subst (λ l. In k l) h.holds i);
    numbers = λ n i. m.given.numbers n (subst (λ (l : List InoParts). In n (ino_numbers l)) h.inodes i);
  }

  pub left_alone : (f : Shown) → In f s'.reads → IsLeftAlone (in_hand s') f.ino
  left_alone f i =
      let a = m.alone f (subst (λ l. In f l) h.reads i) in
      ((λ j. a.0 (subst (λ l. In f.ino l) h.numbers j)), (λ j. a.1 (subst (λ l. In f.ino (hold_numbers l)) h.holds j)))

  pub chains_beside : length s'.chains ≡ length s'.parcel.writes
  chains_beside = search (arith, length-map)

  pub within_pages : (n : ℕ) → n ≤ length s.parcel.pages → n ≤ length s'.parcel.pages
  within_pages n le = subst (λ k. n ≤ k)
      (sym (length-map s.parcel.pages (λ (x : FreshParts). x.no.0)) ∙ ap (λ (l : List ℕ). length l) (sym h.fresh) ∙ length-map s'.parcel.pages (λ (x : FreshParts). x.no.0)) le
