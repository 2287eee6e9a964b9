-- An edit of one open file, written or made: what it shows, and that the session may go on.
use Rattle.trio_edit_laws.proofs.Words.{if◌then◌else◌, ◌++◌, ◌<◌, ◌∙◌, ◌≡◌, ◌≤◌, ◌⊎◌, ArePossible, Body, Chain, ChainsRead, DeskSeen, Directory, Entry, EntryPart, In, In-find, In-left, In-right, IsInSlot, IsNamed, Kind, LentFile, List, MadeFile, MayEdit, Nodes, None, Option, ReadsBy, Row, SameRights, SessionSeen, Shown, Some, Written, [], ap, are_new, arith, block_count, body_at, body_in, body_in_slot, body_of, cases_eq, chain_in, chained, core_in_hand, eq-eqb, eqb, eqb-true, every_number, false, file_numbers, find, find-In, flat_map, get_or, get_or-In, if_other, if_same, in_hand, inl, inr, length, listed_in_hand, made_body, made_chained, made_file, map, map-In, map-append, one_keyed, open_kind, option_map, option_map_or, page_in, page_of, pages_in_hand, refl, slice_set, slot_bytes, slot_of, some_one, subst, sym, true, with_body_in, written_file, written_with, zeros, ℕ}
use Rattle.trio_surveys.proofs.Slots.{slot_by_front, with_body-body, with_body-front, with_body-other}
use Rattle.trio_edit_laws.proofs.Anew.{FilesAnew, IsAnew, bare_anew, bare_of, body-made, body_other, chain_here, chain_other, made_here, made_none, number_is, numbers_anew, open_anew, written_body}
use Rattle.trio_edit_laws.proofs.Chained.{apart_from, set_from, set_new}
use Rattle.trio_edit_laws.proofs.HandStays.{HandStays, page_same}
use Rattle.trio_edit_laws.proofs.Opens.{OpenPlace, OpenWritten, length-with_chain, made-written, made_numbers-with_chain, open_apart, open_chained, open_chains, open_once, open_place, opened, pages_of_chain, with_chain-made}
use Rattle.trio_edit_laws.proofs.Pages.{length-page_in}
use Rattle.trio_edit_laws.proofs.Touches.{Alters, bare_files}
use Rattle.trio_edit_laws.proofs.session.JudgedReads.{map-fixed}

-- a page is in hand, and none that a file lists
pub record IsFree (desk : DeskSeen) (s : SessionSeen) (n : ℕ) : Type 0 where
  pub held : In n (pages_in_hand (in_hand s))
  pub unchained : In n (chained s) → ⊥
  pub unlisted : (nodes : Nodes) (rows : List (Option Row)) → ArePossible desk s.parcel s.reads nodes rows → In n (listed_in_hand desk (in_hand s)) → ⊥

-- the page of the slot of a file that was made
abbrev pub IsSlotPage : Option MadeFile → ℕ → Type 0
IsSlotPage None n = ⊥
IsSlotPage (Some mf) n = n ≡ mf.page

-- the written files after another body: a file that was made is none of them
abbrev pub bodied_files : Option MadeFile → ℕ → List ℕ → List Written → List Written
bodied_files None ino body ws = map (written_with ino body) ws
bodied_files (Some mf) ino body ws = ws

-- a directory has further blocks, all zero, and none of those that it had was written
pub record GrowsBlank (s s' : SessionSeen) (ino' : ℕ) (chain : Chain) (touched : List ℕ) : Type 0 where
  pub more : List ℕ
  pub are : chain.blocks ≡ (chain_in s ino').blocks ++ more
  pub blank : (n : ℕ) → In n more → page_in s'.parcel n ≡ zeros 4096
  pub out : (n : ℕ) → In n touched → In n (chain_in s ino').blocks → ⊥

-- The open file gets another body and another chain, of pages that it had or that are free, by which it then reads; these alone are
-- written, and the slot of a file that was made.
pub record IsEdit (desk : DeskSeen) (s s' : SessionSeen) (ino' : ℕ) (kind' : Kind) : Type 0 where
  pub body : List ℕ
  pub read : Body
  pub chain : Chain
  pub touched : List ℕ
  pub anew : IsAnew s s' ino' chain
  pub placed : s'.placed ≤ length s.parcel.pages
  pub alters : Alters (λ n. In n touched ⊎ IsSlotPage (made_file s ino') n) (bodied_files (made_file s ino') ino' body (bare_files s.parcel)) s.parcel s'.parcel
  pub slot : (mf : MadeFile) → made_file s ino' ≡ Some mf → (length body ≡ 64) × (page_in s'.parcel mf.page ≡ with_body_in mf.slot body (page_in s.parcel mf.page))
  pub is : body_of kind' desk.sizes.range body ≡ Some read
  pub rights : SameRights read (body_at (body_in s ino'))
  pub count : block_count read.size ≡ length chain.blocks
  pub head : read.head ≡ get_or chain.index 0 0
  pub named : IsNamed (core_in_hand desk (in_hand s')) chain.index chain.blocks
  pub once : are_new [] (pages_of_chain chain) ≡ true
  pub from : (n : ℕ) → In n (pages_of_chain chain) → In n (pages_of_chain (chain_in s ino')) ⊎ IsFree desk s n
  pub own : (n : ℕ) → In n touched → In n (pages_of_chain (chain_in s ino')) ⊎ In n (pages_of_chain chain)
  pub grows : kind' ≡ Directory → GrowsBlank s s' ino' chain touched

-- ---- what is known of files that were made

pub made_once : (desk : DeskSeen) (s : SessionSeen) → MayEdit desk s → are_new [] (map (λ (mf : MadeFile). mf.ino) s.made) ≡ true
made_once desk s m =
    (apart_from (map (λ (mf : MadeFile). mf.ino) s.made) (map (λ (mf : MadeFile). mf.ino) s.cleared) (ap (are_new []) (sym (map-append (λ (mf : MadeFile). mf.ino) s.made s.cleared)) ∙ m.made.once)).left

pub place_of_open : (desk : DeskSeen) (s : SessionSeen) (n : ℕ) (kind : Kind) → MayEdit desk s → open_kind s n ≡ Some kind → OpenPlace s n
place_of_open desk s n kind m o = open_place s n kind m.beside (made_once desk s m) o

pub made_at : (s : SessionSeen) (n : ℕ) (mf : MadeFile) → made_file s n ≡ Some mf → In mf s.made × (mf.ino ≡ n)
made_at s n mf found = let f = find-In (λ (x : MadeFile). eqb x.ino n) s.made mf found in (f.0, eqb-true mf.ino n f.1)

-- a file that was made is found by its number
pub found_there : (desk : DeskSeen) (s : SessionSeen) (mf : MadeFile) (n : ℕ) → MayEdit desk s → In mf s.made → mf.ino ≡ n → made_file s n ≡ Some mf
found_there desk s mf n m i number =
    let f = In-find (λ (x : MadeFile). eqb x.ino n) s.made mf i (eq-eqb mf.ino n number) in
    let g = made_at s n f.0 f.1 in
    f.1 ∙ ap Some (one_keyed (λ (x : MadeFile). x.ino) s.made f.0 mf (made_once desk s m) g.0 i (g.1 ∙ sym number))

-- two of them stand in different slots
pub slots_apart : (desk : DeskSeen) (s : SessionSeen) (a b : MadeFile) → MayEdit desk s → In a s.made → In b s.made → a.page ≡ b.page → a.slot ≡ b.slot → a.ino ≡ b.ino
slots_apart desk s a b m i j page slot =
    let p = m.made.slots a i in
    let q = m.made.slots b j in
    let same : Entry p.entry ≡ Entry q.entry =
    sym p.says ∙ ap (λ n. slot_of every_number (slot_bytes a.slot (page_in s.parcel n))) page ∙ ap (λ k. slot_of every_number (slot_bytes k (page_in s.parcel b.page))) slot ∙ q.says in
    let entry : p.entry ≡ q.entry = cc same in
    sym p.number ∙ ap (λ (e : EntryPart). e.ino) entry ∙ q.number

-- the page of a slot is one of the chains, and in hand
pub slot_chained : (desk : DeskSeen) (s : SessionSeen) (mf : MadeFile) → MayEdit desk s → In mf s.made → In mf.page (chained s)
slot_chained desk s mf m i =
    let q = m.made.slots mf i in
    open_chained s q.directory mf.page (place_of_open desk s q.directory Directory m q.opens) (In-right mf.page (chain_in s q.directory).index (chain_in s q.directory).blocks q.block)

pub slot_held : (desk : DeskSeen) (s : SessionSeen) (mf : MadeFile) → MayEdit desk s → In mf s.made → In mf.page (pages_in_hand (in_hand s))
slot_held desk s mf m i = m.own mf.page (slot_chained desk s mf m i)

pub slot_whole : (desk : DeskSeen) (s : SessionSeen) (mf : MadeFile) → MayEdit desk s → In mf s.made → length (page_in s.parcel mf.page) ≡ 4096
slot_whole desk s mf m i = length-page_in desk.out s.parcel mf.page m.all.given (slot_held desk s mf m i)

-- and none of the index pages of a file that is open
pub index_is_none : (desk : DeskSeen) (s : SessionSeen) (g : ℕ) (kind : Kind) (mf : MadeFile) → MayEdit desk s → open_kind s g ≡ Some kind → In mf s.made → In mf.page (chain_in s g).index → ⊥
index_is_none desk s g kind mf m o i j =
    let q = m.made.slots mf i in
    let p = place_of_open desk s g kind m o in
    let d = place_of_open desk s q.directory Directory m q.opens in
    elim (cases_eq g q.directory) [
      | inl same ↦
          (apart_from (chain_in s g).index (chain_in s g).blocks (open_once s g m.once p)).apart mf.page j (subst (λ k. In mf.page (chain_in s k).blocks) (sym same) q.block)
      | inr differ ↦
          open_apart s g q.directory mf.page m.once p d differ (In-left mf.page (chain_in s g).index (chain_in s g).blocks j) (In-right mf.page (chain_in s q.directory).index (chain_in s q.directory).blocks q.block)
    ]

-- ---- the edit

module _ (desk : DeskSeen) (s s' : SessionSeen) (ino : ℕ) (kind : Kind) (m : MayEdit desk s) (o : open_kind s ino ≡ Some kind) (e : IsEdit desk s s' ino kind) where
  pub place : OpenPlace s ino
  place = place_of_open desk s ino kind m o

  pub new_held : (n : ℕ) → In n (pages_of_chain e.chain) → In n (pages_in_hand (in_hand s))
  new_held n i = elim (e.from n i) [ inl a ↦ m.own n (open_chained s ino n place a) | inr free ↦ free.held ]

  pub touched_from : (n : ℕ) → In n e.touched → In n (pages_of_chain (chain_in s ino)) ⊎ IsFree desk s n
  touched_from n i = elim (e.own n i) [ inl a ↦ inl a | inr b ↦ e.from n b ]

  -- no page of another file that is open is written
  pub other_untouched : (g : ℕ) (k : Kind) (n : ℕ) → open_kind s g ≡ Some k → (g ≡ ino → ⊥) → In n (pages_of_chain (chain_in s g)) → In n e.touched → ⊥
  other_untouched g k n og d i t =
      let p = place_of_open desk s g k m og in
      elim (touched_from n t) [
        | inl a ↦ open_apart s g ino n m.once p place d i a
        | inr free ↦ free.unchained (open_chained s g n p i)
      ]

  -- nor a block of a directory
  pub block_untouched : (d n : ℕ) → open_kind s d ≡ Some Directory → In n (chain_in s d).blocks → In n e.touched → ⊥
  block_untouched d n od i t =
      elim (cases_eq d ino) [
        | inr differ ↦ other_untouched d Directory n od differ (In-right n (chain_in s d).index (chain_in s d).blocks i) t
        | inl same ↦
            let is : kind ≡ Directory = some_one (open_kind s ino) kind Directory o (ap (open_kind s) (sym same) ∙ od) in
            (e.grows is).out n t (subst (λ k. In n (chain_in s k).blocks) same i)
      ]

  -- ---- pages

  slot_page : (q : Option MadeFile) (n : ℕ) → made_file s ino ≡ q → IsSlotPage q n → (mf : MadeFile) × (made_file s ino ≡ Some mf) × (n ≡ mf.page)
  slot_page None n f i = absurd i
  slot_page (Some mf) n f i = (mf, f, i)

  -- the page is no slot's of the file that is edited
  abbrev pub IsNoSlot : ℕ → Type 0
  IsNoSlot n = (mf : MadeFile) → made_file s ino ≡ Some mf → n ≡ mf.page → ⊥

  pub page_stays : (n : ℕ) → (In n e.touched → ⊥) → IsNoSlot n → page_in s'.parcel n ≡ page_in s.parcel n
  page_stays n out none = search (arith, slot_page)

  -- a block of a directory is as it was, or has the body in a slot
  block_page : (d n : ℕ) → open_kind s d ≡ Some Directory → In n (chain_in s d).blocks
      → (page_in s'.parcel n ≡ page_in s.parcel n) ⊎ ((mf : MadeFile) × (made_file s ino ≡ Some mf) × (n ≡ mf.page))
  block_page d n od i = by (made_file s ino) refl
    where
      by : (q : Option MadeFile) → made_file s ino ≡ q → (page_in s'.parcel n ≡ page_in s.parcel n) ⊎ ((mf : MadeFile) × (made_file s ino ≡ Some mf) × (n ≡ mf.page))
      by None none = inl (page_stays n (block_untouched d n od i) (λ mf f k. (let wrong : None ≡ Some mf = sym none ∙ f in cc wrong)))
      by (Some mf) found = elim (cases_eq n mf.page) [
        | inl same ↦ inr (mf, found, same)
        | inr differ ↦ inl (page_stays n (block_untouched d n od i) (λ x f k. differ (k ∙ ap (λ (y : MadeFile). y.page) (some_one (made_file s ino) x mf f found))))
      ]

  -- so what its slots say is as it was
  pub front_stays : (d n : ℕ) → open_kind s d ≡ Some Directory → In n (chain_in s d).blocks → (inodes t : ℕ) → slot_of inodes (slot_bytes t (page_in s'.parcel n)) ≡ slot_of inodes (slot_bytes t (page_in s.parcel n))
  front_stays d n od i inodes t =
      elim (block_page d n od i) [
        | inl same ↦ ap (λ b. slot_of inodes (slot_bytes t b)) same
        | inr q ↦
            let mf : MadeFile = q.0 in
            let f = made_at s ino mf q.1 in
            let b = e.slot mf q.1 in
            let page : List ℕ = page_in s.parcel mf.page in
            ap (λ k. slot_of inodes (slot_bytes t (page_in s'.parcel k))) q.2
            ∙ ap (λ l. slot_of inodes (slot_bytes t l)) b.1
            ∙ slot_by_front inodes (slot_bytes t (with_body_in mf.slot e.body page)) (slot_bytes t page) (with_body-front page e.body mf.slot (slot_whole desk s mf m f.0) (m.made.slots mf f.0).slot b.0 t)
            ∙ ap (λ k. slot_of inodes (slot_bytes t (page_in s.parcel k))) (sym q.2)
      ]

  -- and so is the body of any other file that was made
  pub made_body_stays : (x : MadeFile) → In x s.made → (x.ino ≡ ino → ⊥) → made_body s' x ≡ made_body s x
  made_body_stays x i d =
      let at = m.made.slots x i in
      elim (block_page at.directory x.page at.opens at.block) [
        | inl same ↦ ap (body_in_slot x.slot) same
        | inr q ↦
            let mf : MadeFile = q.0 in
            let f = made_at s ino mf q.1 in
            let b = e.slot mf q.1 in
            let page : List ℕ = page_in s.parcel mf.page in
            ap (λ k. body_in_slot x.slot (page_in s'.parcel k)) q.2
            ∙ ap (body_in_slot x.slot) b.1
            ∙ with_body-other page e.body mf.slot (slot_whole desk s mf m f.0) (m.made.slots mf f.0).slot b.0 x.slot (λ same. d (slots_apart desk s x mf m i f.0 q.2 same ∙ f.1))
            ∙ ap (λ k. body_in_slot x.slot (page_in s.parcel k)) (sym q.2)
      ]

  -- ---- the files

  abbrev lease_anew : made_file s ino ≡ None → FilesAnew s.parcel s'.parcel ino
  lease_anew none = record {
    change = written_with ino e.body;
    files = e.alters.files ∙ ap (λ q. bodied_files q ino e.body (bare_files s.parcel)) none;
    number = λ w. elim (eqb w.ino ino) as (λ v. (if v then record w { body = e.body } else w).ino ≡ w.ino) [ true ↦ refl | false ↦ refl ];
    kind = λ w. elim (eqb w.ino ino) as (λ v. (if v then record w { body = e.body } else w).kind ≡ w.kind) [ true ↦ refl | false ↦ refl ];
    other = λ w d. if_other w.ino ino (record w { body = e.body }) w d;
  }

  slot_anew : (mf : MadeFile) → made_file s ino ≡ Some mf → FilesAnew s.parcel s'.parcel ino
  slot_anew mf found = record {
    change = λ w. w;
    files = e.alters.files ∙ ap (λ q. bodied_files q ino e.body (bare_files s.parcel)) found ∙ sym (map-fixed (λ (w : Written). w) (bare_files s.parcel) (λ w i. refl));
    number = λ w. refl;
    kind = λ w. refl;
    other = λ w d. refl;
  }

  pub files_anew : FilesAnew s.parcel s'.parcel ino
  files_anew = search (arith, slot_anew)

  pub numbers_now : file_numbers s'.parcel.writes ≡ file_numbers s.parcel.writes
  numbers_now = numbers_anew s.parcel s'.parcel ino files_anew

  -- all in hand stays
  pub hand_now : HandStays s s'
  hand_now = search (arith, length-with_chain, numbers_now)

  pub core_stays : (n : ℕ) → (In n e.touched → ⊥) → IsNoSlot n → page_of (core_in_hand desk (in_hand s')) n ≡ page_of (core_in_hand desk (in_hand s)) n
  core_stays n out none = page_same desk s s' m hand_now n (page_stays n out none)

  pub open_now : (n : ℕ) → open_kind s' n ≡ open_kind s n
  open_now n = open_anew s s' ino e.chain e.anew files_anew n

  pub chain_now : chain_in s' ino ≡ e.chain
  chain_now = chain_here s s' ino e.chain e.anew files_anew kind m.beside o

  pub chain_else : (n : ℕ) → (n ≡ ino → ⊥) → chain_in s' n ≡ chain_in s n
  chain_else n d = chain_other s s' ino e.chain e.anew files_anew n d

  pub body_else : (n : ℕ) → (n ≡ ino → ⊥) → body_in s' n ≡ body_in s n
  body_else n d =
      body_other s s' ino e.chain e.anew files_anew n d (λ x found. (let f = made_at s n x found in made_body_stays x f.0 (λ k. d (sym f.1 ∙ k))))

  pub made_body_now : (mf : MadeFile) → made_file s ino ≡ Some mf → body_in_slot mf.slot (page_in s'.parcel mf.page) ≡ e.body
  made_body_now mf found =
      let f = made_at s ino mf found in
      let b = e.slot mf found in
      ap (body_in_slot mf.slot) b.1 ∙ with_body-body (page_in s.parcel mf.page) e.body mf.slot (slot_whole desk s mf m f.0) (m.made.slots mf f.0).slot b.0

  pub body_now : body_in s' ino ≡ e.body
  body_now = elim (opened s ino kind o) [
    | inl w ↦ written w
    | inr w ↦ body-made s' ino (record w.file { chain = e.chain }) (made_here s s' ino e.chain e.anew (slot_anew w.file w.found) w.file w.found) ∙ made_body_now w.file w.found
  ]
    where
      written : OpenWritten s ino kind → body_in s' ino ≡ e.body
      written w =
          let a : FilesAnew s.parcel s'.parcel ino = lease_anew w.none in
          let f : LentFile = w.file in
          let at : option_map bare_of (find (number_is ino) s'.parcel.writes) ≡ Some (record (bare_of f) { body = e.body }) =
          bare_anew s.parcel s'.parcel ino (lease_anew w.none) ino
          ∙ ap (λ q. option_map (written_with ino e.body) (option_map bare_of q)) w.found
          ∙ ap Some (if_same f.stands.ino ino (record (bare_of f) { body = e.body }) (bare_of f) w.number) in
          ap (λ q. option_map_or (made_body s') q (option_map_or (λ (x : Shown). x.body) (written_file s' ino) [])) (made_none s s' ino e.chain e.anew a w.none)
          ∙ written_body s s' ino e.chain e.anew a s' ino
          ∙ ap (λ q. option_map_or (λ (v : Written). v.body) q []) at

  -- ---- chains

  mine_reads : ReadsBy desk s' ino kind
  mine_reads = search (arith, body_now, chain_now)

  other_reads : (n : ℕ) (k : Kind) → open_kind s n ≡ Some k → (n ≡ ino → ⊥) → ReadsBy desk s' n k
  other_reads n k on d =
      let r = m.chains n k on in
      let was : Chain = chain_in s n in
      record {
        body = r.body;
        is = ap (body_of k desk.sizes.range) (body_else n d) ∙ r.is;
        count = r.count ∙ ap (λ (c : Chain). length c.blocks) (sym (chain_else n d));
        head = r.head ∙ ap (λ (c : Chain). get_or c.index 0 0) (sym (chain_else n d));
        named = subst (λ (c : Chain). IsNamed (core_in_hand desk (in_hand s')) c.index c.blocks) (sym (chain_else n d)) (record {
          many = r.named.many;
          each = λ i lt.
              let share = r.named.each i lt in
              let at : In (get_or was.index i 0) was.index = get_or-In was.index i 0 lt in
              record {
                bytes = share.bytes;
                there =
                    core_stays (get_or was.index i 0) (other_untouched n k (get_or was.index i 0) on d (In-left (get_or was.index i 0) was.index was.blocks at))
                    (λ mf found same. index_is_none desk s n k mf m on (made_at s ino mf found).0 (subst (λ p. In p was.index) same at))
                    ∙ share.there;
                names = share.names;
              };
        });
      }

  pub chains_now : ChainsRead desk s'
  chains_now n k on' = search (arith, open_now, cases_eq, other_reads, some_one, mine_reads)

  chained_now : open_chains s' ≡ slice_set (open_chains s) place.place e.chain
  chained_now = search (arith, place)

  -- a page of the chains is one of the file's new chain, or of those before
  pub chained_from : (n : ℕ) → In n (chained s') → In n (pages_of_chain e.chain) ⊎ In n (chained s)
  chained_from n i = set_from pages_of_chain (open_chains s) place.place e.chain n (subst (λ cs. In n (flat_map pages_of_chain cs)) chained_now i)

  pub own_now : (n : ℕ) → In n (chained s') → In n (pages_in_hand (in_hand s'))
  own_now n i = subst (λ l. In n l) (sym e.alters.pages) (elim (chained_from n i) [ inl a ↦ new_held n a | inr b ↦ m.own n b ])

  pub once_now : are_new [] (chained s') ≡ true
  once_now =
      ap (λ cs. are_new [] (flat_map pages_of_chain cs)) chained_now
      ∙ set_new pages_of_chain (open_chains s) place.place (chain_in s ino) e.chain m.once place.chain e.once (λ n i. elim (e.from n i) [ inl a ↦ inl a | inr free ↦ inr free.unchained ])

  -- ---- files that were made

  -- each was made before, in the same slot
  pub record WasMade (x : MadeFile) : Type 0 where
    pub was : MadeFile
    pub among : In was s.made
    pub ino_is : x.ino ≡ was.ino
    pub kind_is : x.kind ≡ was.kind
    pub page_is : x.page ≡ was.page
    pub slot_is : x.slot ≡ was.slot

  same_made : (x : MadeFile) → In x s.made → WasMade x
  same_made x i = record { was = x; among = i; ino_is = refl; kind_is = refl; page_is = refl; slot_is = refl }

  made_from_chained : (y : MadeFile) → In y s.made → WasMade (made_chained ino e.chain y)
  made_from_chained y i =
      elim (eqb y.ino ino) as (λ v. WasMade (if v then record y { chain = e.chain } else y)) [
        | true ↦ record { was = y; among = i; ino_is = refl; kind_is = refl; page_is = refl; slot_is = refl }
        | false ↦ same_made y i
      ]

  pub was_made : (x : MadeFile) → In x s'.made → WasMade x
  was_made x i = by (made_file s ino) refl
    where
      by : (q : Option MadeFile) → made_file s ino ≡ q → WasMade x
      by None none = same_made x (subst (λ l. In x l) (e.anew.made ∙ made-written s ino e.chain none) i)
      by (Some mf) found =
          let j : In x (map (made_chained ino e.chain) s.made) = subst (λ l. In x l) (e.anew.made ∙ ap (λ (y : SessionSeen). y.made) (with_chain-made s ino e.chain mf found)) i in
          let y = map-In (made_chained ino e.chain) x s.made j in
          subst WasMade (sym y.2) (made_from_chained y.0 y.1)

  -- a block of a directory is one of its blocks still
  block_now : (d n : ℕ) → open_kind s d ≡ Some Directory → In n (chain_in s d).blocks → In n (chain_in s' d).blocks
  block_now d n od i = search (arith, cases_eq, chain_else, some_one, chain_now, In-left)

  pub slots_now : (x : MadeFile) → In x s'.made → IsInSlot s' x
  slots_now x i =
      let w = was_made x i in
      let at = m.made.slots w.was w.among in
      record {
        directory = at.directory;
        opens = open_now at.directory ∙ at.opens;
        block = subst (λ n. In n (chain_in s' at.directory).blocks) (sym w.page_is) (block_now at.directory w.was.page at.opens at.block);
        slot = subst (λ n. n < 16) (sym w.slot_is) at.slot;
        entry = at.entry;
        says = search (arith, front_stays);
        number = at.number ∙ sym w.ino_is;
        kind = at.kind ∙ sym w.kind_is;
      }

  pub made_numbers_now : map (λ (x : MadeFile). x.ino) (s'.made ++ s'.cleared) ≡ map (λ (x : MadeFile). x.ino) (s.made ++ s.cleared)
  made_numbers_now = search (arith, map-append, made_numbers-with_chain)

  pub made_once_now : are_new [] (map (λ (x : MadeFile). x.ino) (s'.made ++ s'.cleared)) ≡ true
  made_once_now = ap (are_new []) made_numbers_now ∙ m.made.once
