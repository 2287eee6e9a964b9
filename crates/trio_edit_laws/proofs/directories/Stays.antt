-- An edit of slots in the pages of directories: what stays of all that is in hand, and of the files that are open.
use Rattle.trio_edit_laws.proofs.Words.{if◌then◌else◌, ◌++◌, ◌∙◌, ◌≡◌, ◌≤◌, ◌⊎◌, ArePossible, Becomes, Body, Chain, ChainsRead, DeskSeen, Directory, EntriesHaveRights, Hold, HoldParts, In, In-left, In-right, InoParts, IsInSlot, IsJudgedMade, IsNamed, IsUnlent, Kind, LentFile, List, MadeFile, MayEdit, Met, Nodes, None, Option, Read, ReadsBy, Row, SessionSeen, Shown, Some, Write, Written, [], ap, are_new, arith, body_in, body_of, case_as_stands, cases_eq, chain_in, chained, core_in_hand, find, get_or, get_or-In, grant_in, held_file, in_hand, inl, ino_numbers, inr, is_some, judged_files, length, made_body, made_file, map, no_chain, open_kind, option_map, option_map_or, page_of, place_in, read_file, refl, slice_index_or, subst, sym, true, written_file, ℕ}
use Rattle.trio_edit_laws.proofs.Anew.{FilesAnew, bare_anew, bare_of, kind_anew, number_is, numbers_anew, place_anew}
use Rattle.trio_edit_laws.proofs.Chained.{apart_from}
use Rattle.trio_edit_laws.proofs.HandStays.{HandStays, chains_beside, hands_in_all, is_on, left_alone, page_same, takes_more, well_given, within_pages}
use Rattle.trio_edit_laws.proofs.Keeps.{place_of_open}
use Rattle.trio_edit_laws.proofs.Opens.{open_apart, open_once}
use Rattle.trio_edit_laws.proofs.Touches.{Touches, bare_files}
use Rattle.trio_edit_laws.proofs.Whole.{shows_after}
use Rattle.trio_edit_laws.proofs.session.JudgedReads.{map-fixed}

-- ---- grants

grant_by : (a : Option Kind) (b : Option HoldParts) (c : Option Shown) → (if is_some a then Some Write else (if is_some b then Some Hold else (if is_some c then Some Read else None))) ≡ None
    → (a ≡ None) × (b ≡ None) × (c ≡ None)
grant_by a b c e = search arith

-- of a file on which a session has nothing it has no lease
pub no_grant : (s : SessionSeen) (n : ℕ) → grant_in s n ≡ None → (open_kind s n ≡ None) × (held_file s n ≡ None) × (read_file s n ≡ None)
no_grant s n e = grant_by (open_kind s n) (held_file s n) (read_file s n) e

pub grant-none : (s : SessionSeen) (n : ℕ) → open_kind s n ≡ None → held_file s n ≡ None → read_file s n ≡ None → grant_in s n ≡ None
grant-none s n a b c = search arith

-- a page is a block of a directory that is open
pub record IsDirBlock (s : SessionSeen) (n : ℕ) : Type 0 where
  pub directory : ℕ
  pub opens : open_kind s directory ≡ Some Directory
  pub block : In n (chain_in s directory).blocks

-- Pages of open directories were written, and which files count as made or cleared may have changed; nothing else of the session.
pub record WritesDirs (s s' : SessionSeen) : Type 0 where
  pub same : s' ≡ record s { parcel = s'.parcel; made = s'.made; cleared = s'.cleared }
  pub pages : List ℕ
  pub touches : Touches (λ n. In n pages) s.parcel s'.parcel
  pub blocks : (n : ℕ) → In n pages → IsDirBlock s n

-- ---- files

module _ (s s' : SessionSeen) (w : WritesDirs s s') where
  pub reads_same : s'.reads ≡ s.reads
  reads_same = ap (λ (x : SessionSeen). x.reads) w.same

  chains_same : s'.chains ≡ s.chains
  chains_same = ap (λ (x : SessionSeen). x.chains) w.same

  anew : (n : ℕ) → FilesAnew s.parcel s'.parcel n
  anew n = record {
    change = λ v. v;
    files = w.touches.files ∙ sym (map-fixed (λ (v : Written). v) (bare_files s.parcel) (λ v i. refl));
    number = λ v. refl;
    kind = λ v. refl;
    other = λ v d. refl;
  }

  map-option : {X Y Z : Type 0} (f : X → Y) (g : Y → Z) (o : Option X) → option_map g (option_map f o) ≡ option_map (λ x. g (f x)) o
  map-option f g None = refl
  map-option f g (Some x) = refl

  map-same : {X : Type 0} (o : Option X) → option_map (λ x. x) o ≡ o
  map-same None = refl
  map-same (Some x) = refl

  written_kind : (n : ℕ) → option_map (λ (f : Shown). f.kind) (written_file s' n) ≡ option_map (λ (f : Shown). f.kind) (written_file s n)
  written_kind n =
      map-option (λ (f : LentFile). f.stands) (λ (f : Shown). f.kind) (find (number_is n) s'.parcel.writes)
      ∙ kind_anew s.parcel s'.parcel n (anew n) n
      ∙ sym (map-option (λ (f : LentFile). f.stands) (λ (f : Shown). f.kind) (find (number_is n) s.parcel.writes))

  written_body : (x : SessionSeen) (n : ℕ)
      → option_map_or (λ (f : Shown). f.body) (written_file x n) [] ≡ option_map_or (λ (v : Written). v.body) (option_map bare_of (find (number_is n) x.parcel.writes)) []
  written_body x n = search arith

  body_written : (n : ℕ) → option_map_or (λ (f : Shown). f.body) (written_file s' n) [] ≡ option_map_or (λ (f : Shown). f.body) (written_file s n) []
  unfolding anew
  body_written n =
      written_body s' n
      ∙ ap (λ o. option_map_or (λ (v : Written). v.body) o []) (bare_anew s.parcel s'.parcel n (anew n) n ∙ map-same (option_map bare_of (find (number_is n) s.parcel.writes)))
      ∙ sym (written_body s n)

  -- no number is that of a written file that wasn't
  pub unwritten_still : (n : ℕ) → written_file s n ≡ None → written_file s' n ≡ None
  unwritten_still n none = by (written_file s' n) refl
    where
      by : (o : Option Shown) → written_file s' n ≡ o → written_file s' n ≡ None
      by None e = e
      by (Some f) e =
          let t : Some f.kind ≡ None = sym (ap (option_map (λ (x : Shown). x.kind)) e) ∙ written_kind n ∙ ap (option_map (λ (x : Shown). x.kind)) none in
          absurd (cc t)

  pub unlent_still : (n : ℕ) → IsUnlent s n → IsUnlent s' n
  unlent_still n u = search (arith, unwritten_still, reads_same)

  -- the file of a number is as it was, if it is or isn't one that was made just as it was
  pub open_else : (n : ℕ) → made_file s' n ≡ made_file s n → open_kind s' n ≡ open_kind s n
  open_else n e = search (arith, written_kind)

  pub chain_else : (n : ℕ) → made_file s' n ≡ made_file s n → chain_in s' n ≡ chain_in s n
  chain_else n e =
      ap (λ o. option_map_or (λ (m : MadeFile). m.chain) o (option_map_or (λ i. slice_index_or s'.chains i no_chain) (place_in s' n) no_chain)) e
      ∙ ap (λ o. option_map_or (λ (m : MadeFile). m.chain) (made_file s n) (option_map_or (λ i. slice_index_or s'.chains i no_chain) o no_chain)) (place_anew s.parcel s'.parcel n (anew n) n)
      ∙ ap (λ cs. option_map_or (λ (m : MadeFile). m.chain) (made_file s n) (option_map_or (λ i. slice_index_or cs i no_chain) (place_in s n) no_chain)) chains_same

  pub body_else : (n : ℕ) → made_file s' n ≡ made_file s n → ((m : MadeFile) → made_file s n ≡ Some m → made_body s' m ≡ made_body s m) → body_in s' n ≡ body_in s n
  body_else n e same = search (arith, body_written)

-- ---- all in hand

pub hand_stays : (s s' : SessionSeen) → WritesDirs s s' → HandStays s s'
hand_stays s s' w = record {
  lib = ap (λ (x : SessionSeen). x.lib) w.same;
  creds = ap (λ (x : SessionSeen). x.creds) w.same;
  reads = reads_same s s' w;
  chains = ap (λ (x : SessionSeen). length x.chains) w.same;
  numbers = numbers_anew s.parcel s'.parcel 0 (anew s s' w 0);
  lent = w.touches.lent;
  pages = w.touches.pages;
  fresh = w.touches.fresh;
  holds = w.touches.holds;
  inodes = w.touches.inodes;
  given = w.touches.given;
}

module _ (desk : DeskSeen) (s s' : SessionSeen) (m : MayEdit desk s) (w : WritesDirs s s') where
  pub core_same : (n : ℕ) → (In n w.pages → ⊥) → page_of (core_in_hand desk (in_hand s')) n ≡ page_of (core_in_hand desk (in_hand s)) n
  core_same n out = page_same desk s s' m (hand_stays s s' w) n (w.touches.other n out)

  -- ---- index pages

  -- no index page was written
  pub index_else : (k : ℕ) (kind : Kind) (n : ℕ) → open_kind s k ≡ Some kind → In n (chain_in s k).index → In n w.pages → ⊥
  index_else k kind n o i t =
      let b = w.blocks n t in
      let p = place_of_open desk s k kind m o in
      let d = place_of_open desk s b.directory Directory m b.opens in
      elim (cases_eq k b.directory) [
        | inl same ↦
            (apart_from (chain_in s k).index (chain_in s k).blocks (open_once s k m.once p)).apart n i (subst (λ j. In n (chain_in s j).blocks) (sym same) b.block)
        | inr differ ↦
            open_apart s k b.directory n m.once p d differ (In-left n (chain_in s k).index (chain_in s k).blocks i) (In-right n (chain_in s b.directory).index (chain_in s b.directory).blocks b.block)
      ]

-- ---- the files that are open

-- the file is open as it was
pub record IsAsBefore (s s' : SessionSeen) (n' : ℕ) (kind' : Kind) : Type 0 where
  pub opens : open_kind s n' ≡ Some kind'
  pub chain : chain_in s' n' ≡ chain_in s n'
  pub body : body_in s' n' ≡ body_in s n'

-- or is a new one without pages
pub record IsNewFile (desk : DeskSeen) (s' : SessionSeen) (n' : ℕ) (kind' : Kind) : Type 0 where
  pub chain : chain_in s' n' ≡ no_chain
  pub body : Body
  pub is : body_of kind' desk.sizes.range (body_in s' n') ≡ Some body
  pub size : body.size ≡ 0
  pub head : body.head ≡ 0

-- or is open under another kind, for which its body is in the grammar as well
pub record IsTurned (desk : DeskSeen) (s s' : SessionSeen) (n' : ℕ) (kind' : Kind) : Type 0 where
  pub was : Kind
  pub opens : open_kind s n' ≡ Some was
  pub chain : chain_in s' n' ≡ chain_in s n'
  pub body : body_in s' n' ≡ body_in s n'
  pub fits : (b : Body) → body_of was desk.sizes.range (body_in s n') ≡ Some b → body_of kind' desk.sizes.range (body_in s n') ≡ Some b

-- What a session keeps of its files holds after the edit: each that is open is as it was, or new, or of another kind; the chains have no page more; and the
-- files that it made stand in slots of open directories.
pub record EditsDirs (desk : DeskSeen) (s s' : SessionSeen) : Type 0 where
  pub writes : WritesDirs s s'
  pub opens : (n : ℕ) (kind : Kind) → open_kind s' n ≡ Some kind → IsAsBefore s s' n kind ⊎ (IsNewFile desk s' n kind ⊎ IsTurned desk s s' n kind)
  pub own : (n : ℕ) → In n (chained s') → In n (chained s)
  pub once : are_new [] (chained s') ≡ true
  pub numbers : (x : MadeFile) → In x s'.made → In x.ino (ino_numbers s.parcel.inodes)
  pub gone : (x : MadeFile) → In x s'.cleared → In x.ino (ino_numbers s.parcel.inodes)
  pub made_once : are_new [] (map (λ (x : MadeFile). x.ino) (s'.made ++ s'.cleared)) ≡ true
  pub apart : (x : MadeFile) → In x s'.made → IsUnlent s' x.ino
  pub slots : (x : MadeFile) → In x s'.made → IsInSlot s' x

-- and what is so as long as nodes are possible
pub record KeepsJudged (desk : DeskSeen) (s' : SessionSeen) : Type 0 where
  pub judged :
      (nodes : Nodes) (rows : List (Option Row)) → ArePossible desk s'.parcel s'.reads nodes rows
      → (x : MadeFile) → In x s'.made → IsJudgedMade desk s' x
  pub only :
      (nodes : Nodes) (rows : List (Option Row)) → ArePossible desk s'.parcel s'.reads nodes rows
      → (x : Met) → In x (judged_files (case_as_stands desk (in_hand s'))) → In x.ino (ino_numbers s'.parcel.inodes)
      → is_some (made_file s' x.ino) ≡ true
  pub entries : EntriesHaveRights desk s'

module _ (desk : DeskSeen) (s s' : SessionSeen) (m : MayEdit desk s) (e : EditsDirs desk s s') where
  abbrev hand : HandStays s s'
  hand = hand_stays s s' e.writes

  kept_reads : (n : ℕ) (was' kind : Kind) → open_kind s n ≡ Some was' → chain_in s' n ≡ chain_in s n → body_in s' n ≡ body_in s n
      → ((x : Body) → body_of was' desk.sizes.range (body_in s n) ≡ Some x → body_of kind desk.sizes.range (body_in s n) ≡ Some x) → ReadsBy desk s' n kind
  kept_reads n was' kind opens chain body fits =
      let r = m.chains n was' opens in
      let was : Chain = chain_in s n in
      record {
        body = r.body;
        is = ap (body_of kind desk.sizes.range) body ∙ fits r.body r.is;
        count = r.count ∙ ap (λ (c : Chain). length c.blocks) (sym chain);
        head = r.head ∙ ap (λ (c : Chain). get_or c.index 0 0) (sym chain);
        named = subst (λ (c : Chain). IsNamed (core_in_hand desk (in_hand s')) c.index c.blocks) (sym chain) (record {
          many = r.named.many;
          each = λ i lt.
              let share = r.named.each i lt in
              record {
                bytes = share.bytes;
                there =
                    core_same desk s s' m e.writes (get_or was.index i 0) (index_else desk s s' m e.writes n was' (get_or was.index i 0) opens (get_or-In was.index i 0 lt))
                    ∙ share.there;
                names = share.names;
              };
        });
      }

  new_reads : (n : ℕ) (kind : Kind) → IsNewFile desk s' n kind → ReadsBy desk s' n kind
  new_reads n kind b = search arith

  chains_then : ChainsRead desk s'
  chains_then n kind o = elim (e.opens n kind o) [
    | inl b ↦ kept_reads n kind kind b.opens b.chain b.body (λ x is. is)
    | inr c ↦ elim c [ inl b ↦ new_reads n kind b | inr b ↦ kept_reads n b.was kind b.opens b.chain b.body b.fits ]
  ]

  -- all that a session keeps holds
  pub may_then : (change : Nodes → Nodes) → Becomes desk (in_hand s) (in_hand s') change → KeepsJudged desk s' → MayEdit desk s'
  may_then change b k = record {
    on = is_on desk s s' m hand;
    all = hands_in_all desk s s' m hand;
    given = well_given desk s s' m hand;
    order = b.order;
    shows = shows_after desk s s' change m.shows b;
    alone = left_alone desk s s' m hand;
    beside = chains_beside desk s s' m hand;
    chains = chains_then;
    own = λ n i. subst (λ l. In n l) (sym e.writes.touches.pages) (m.own n (e.own n i));
    once = e.once;
    placed = subst (λ n. n ≤ length s'.parcel.pages) (sym (ap (λ (x : SessionSeen). x.placed) e.writes.same)) (within_pages desk s s' m hand s.placed m.placed);
    made = record {
      numbers = λ x i. subst (λ (l : List InoParts). In x.ino (ino_numbers l)) (sym e.writes.touches.inodes) (e.numbers x i);
      gone = λ x i. subst (λ (l : List InoParts). In x.ino (ino_numbers l)) (sym e.writes.touches.inodes) (e.gone x i);
      once = e.made_once;
      apart = e.apart;
      slots = e.slots;
      judged = k.judged;
      only = k.only;
    };
    entries = k.entries;
    held = λ h nodes rows i possible. m.held h nodes rows (subst (λ l. In h l) e.writes.touches.holds i) (takes_more desk s s' m hand nodes rows possible);
  }
