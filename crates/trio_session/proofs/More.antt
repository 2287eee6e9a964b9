-- More is in hand: what was there is there still, and a session's files with it.
use Rattle.trio_session.proofs.Words.{◌%◌, ◌++◌, ◌<◌, ◌∙◌, ◌∷◌, ◌≡◌, AreApart, AreLaid, AreMade, Chain, EntryPart, FilePlace, HasChain, In, InSlot, IndexedDir, IsAt, IsBlock, IsCleared, IsFile, IsIndexHere, IsLaid, IsMade, IsOne, Laid, Leased, LentFile, List, Made, MadeFile, OneFile, Option, PagePlace, Parcel, Sheet, Shown, Some, [], ap, block_count, body_at, chain_at, chain_laid, entry_at, every_number, file_of, fresh_number, index_count, inl, inr, length, lent_numbers, made_seen, map, number_at, option_map, option_map_or, page_in, pages_of, refl, sheet_at, shown_at, size_in, slice_get, slots_of, subst, sym, take, ℕ}
use Rattle.trio_session.proofs.Chains.{chain_there}
use Rattle.trio_session.proofs.Kept.{IsFile-one, files_of}
use Rattle.trio_session.proofs.Lists.{In-slice_get}
use Rattle.trio_session.proofs.Owners.{BlockSpot, KeptBlock, MoreBlock, block_spot}
use Rattle.trio_session.proofs.Places.{lent_parts, page_at, shown_at-InSlot, shown_at-Leased, slot_parts}
use Rattle.trio_session.proofs.SlotEdits.{entry_on}

-- each page and each written file is where it was
pub record More (b b' : Parcel) : Type 0 where
  pub sheets : (place : PagePlace) (x : Sheet) → sheet_at b place ≡ Some x → sheet_at b' place ≡ Some x
  pub leases : (at : ℕ) (f : LentFile) → slice_get b.writes at ≡ Some f → slice_get b'.writes at ≡ Some f
  pub numbers : (at : ℕ) → at < length b.pages → fresh_number b'.pages at ≡ fresh_number b.pages at
  pub within : (at : ℕ) → at < length b.pages → at < length b'.pages

-- places of allotted pages have their numbers
numbers_more : (b b' : Parcel) (more : More b b') (ats : List ℕ) → ((at : ℕ) → In at ats → at < length b.pages) → map (fresh_number b'.pages) ats ≡ map (fresh_number b.pages) ats
numbers_more b b' more [] all = refl
numbers_more b b' more (at ∷ ats) all =
    ap (λ n. n ∷ map (fresh_number b'.pages) ats) (more.numbers at (all at (inl refl))) ∙ ap (λ ns. fresh_number b.pages at ∷ ns) (numbers_more b b' more ats (λ x i. all x (inr i)))

pub chain_more : (b b' : Parcel) (more : More b b') (f : Shown) (l : Laid) → IsLaid f b.pages l → chain_laid f b'.pages l ≡ chain_laid f b.pages l
chain_more b b' more f l is =
    ap (λ ns. record (chain_laid f b'.pages l) { index = take l.index_kept (lent_numbers f.index) ++ ns }) (numbers_more b b' more l.index_more.items is.index_there)
    ∙ ap (λ ns. record (chain_laid f b.pages l) { blocks = take l.blocks_kept (lent_numbers f.blocks) ++ ns }) (numbers_more b b' more l.blocks_more.items is.blocks_there)

shown_more : (b : Parcel) (b' : Parcel) (more : More b b') (file : FilePlace) (f : Shown) → shown_at b file ≡ Some f → shown_at b' file ≡ Some f
shown_more b b' more (Leased at) f e =
    let g = lent_parts b at f e in
    shown_at-Leased b' at g.0 (more.leases at g.0 g.1) ∙ ap Some g.2
shown_more b b' more (InSlot page slot) f e =
    let x = slot_parts b page slot f e in
    shown_at-InSlot b' page slot x.0 (more.sheets page x.0 x.1) ∙ ap Some x.2

pub file_more : (b : Parcel) (b' : Parcel) (more : More b b') (file : FilePlace) (l : Laid) → IsFile b file l → IsFile b' file l
file_more b b' more file l is = record {
  shown = is.shown;
  there = shown_more b b' more file is.shown is.there;
  slot = is.slot;
  laid = record {
    index = is.laid.index;
    blocks = is.laid.blocks;
    narrow_index = is.laid.narrow_index;
    narrow_blocks = is.laid.narrow_blocks;
    index_there = λ at h. more.within at (is.laid.index_there at h);
    blocks_there = λ at h. more.within at (is.laid.blocks_there at h);
  };
}

pub chain_at_more : (b : Parcel) (b' : Parcel) (more : More b b') (file : FilePlace) (l : Laid) → IsFile b file l → chain_at b' file l ≡ chain_at b file l
chain_at_more b b' more file l is =
    chain_there b' file l is.shown (shown_more b b' more file is.shown is.there) ∙ chain_more b b' more is.shown l is.laid ∙ sym (chain_there b file l is.shown is.there)

pub body_more : (b : Parcel) (b' : Parcel) (more : More b b') (file : FilePlace) (l : Laid) → IsFile b file l → body_at b' file ≡ body_at b file
body_more b b' more file l is =
    ap (λ o. option_map_or (λ (f : Shown). f.body) o []) (shown_more b b' more file is.shown is.there) ∙ sym (ap (λ o. option_map_or (λ (f : Shown). f.body) o []) is.there)

pub has_more : (b : Parcel) (b' : Parcel) (more : More b b') (file : FilePlace) (l : Laid) → IsFile b file l → HasChain b file l → HasChain b' file l
has_more b b' more file l is has =
    let chain = chain_at_more b b' more file l is in
    let body = body_more b b' more file l is in
    record {
      blocks = ap (λ (c : Chain). length c.blocks) chain ∙ has.blocks ∙ ap (λ w. block_count (size_in w)) (sym body);
      index = ap (λ (c : Chain). length c.index) chain ∙ has.index ∙ ap (λ w. index_count (block_count (size_in w))) (sym body);
    }

-- its number
pub number_more : (b : Parcel) (b' : Parcel) (more : More b b') (place : PagePlace) (x : Sheet) → sheet_at b place ≡ Some x → number_at b' place ≡ number_at b place
number_more b b' more place x e =
    let number : Option Sheet → ℕ = λ o. option_map_or (λ (y : Sheet). y.page) o 0 in
    ap number (more.sheets place x e) ∙ sym (ap number e)

-- and its bytes
pub page_more : (b : Parcel) (b' : Parcel) (more : More b b') (place : PagePlace) (n : ℕ) → AreApart b → AreApart b' → IsAt b place n → page_in b' n ≡ page_in b n
page_more b b' more place n apart apart' at =
    subst (λ m. page_in b' m ≡ page_in b m) at.number
    (page_at b' place at.sheet apart' (more.sheets place at.sheet at.there) ∙ sym (page_at b place at.sheet apart at.there))

-- functions that agree on a list
map-agree : (f g : ℕ → List ℕ) (ns : List ℕ) → ((n : ℕ) → In n ns → f n ≡ g n) → map f ns ≡ map g ns
map-agree f g [] same = refl
map-agree f g (n ∷ ns) same = ap (λ x. x ∷ map f ns) (same n (inl refl)) ∙ ap (λ xs. g n ∷ xs) (map-agree f g ns (λ m i. same m (inr i)))

-- a block of a file is in hand
block_in_hand : (b : Parcel) (file : FilePlace) (l : Laid) (n : ℕ) → IsFile b file l → In n (chain_at b file l).blocks → (place : PagePlace) × IsAt b place n
block_in_hand b file l n is i =
    let k = In-slice_get n (chain_at b file l).blocks i in
    elim (block_spot b file l k.0 n is k.1) [
      | KeptBlock same at ↦ (_, at)
      | MoreBlock at le e there ↦ (_, there)
    ]

module _ (placed : ℕ) (reads : List Shown) (b b' : Parcel) (more : More b b') (ls ls' : List Laid) (ms cs : List Made) (laid : AreLaid b ls) (made : AreMade placed reads (files_of b ls ms cs))
    (apart' : AreApart b') (left : (x : OneFile) → IsOne (files_of b ls ms cs) x → IsOne (files_of b' ls' ms cs) x) where
  is_file : (x : OneFile) → IsOne (files_of b ls ms cs) x → IsFile b x.file x.laid
  is_file x one = IsFile-one placed reads (files_of b ls ms cs) x laid made one

  -- each directory has its pages
  pub pages_more : (x : OneFile) → IsOne (files_of b ls ms cs) x → pages_of b' x ≡ pages_of b x
  pages_more x one =
      let is = is_file x one in
      let blocks = (chain_at b x.file x.laid).blocks in
      ap (λ (c : Chain). map (page_in b') c.blocks) (chain_at_more b b' more x.file x.laid is)
      ∙ map-agree (page_in b') (page_in b) blocks (λ n i. (let at = block_in_hand b x.file x.laid n is i in page_more b b' more at.0 n made.apart apart' at.1))

  -- each made file its slot
  slot_at : (m : Made) → IsFile b (file_of m) m.laid → IsAt b m.page (number_at b m.page)
  slot_at m is =
      let s = slot_parts b m.page m.slot is.shown is.there in
      record { sheet = s.0; there = s.1; number = sym (ap (λ o. option_map_or (λ (z : Sheet). z.page) o 0) s.1) }

  number_same : (m : Made) → IsFile b (file_of m) m.laid → number_at b' m.page ≡ number_at b m.page
  number_same m is = (let at = slot_at m is in number_more b b' more m.page at.sheet at.there)

  block_more : (n : ℕ) → IsBlock (files_of b ls ms cs) n → IsBlock (files_of b' ls' ms cs) n
  block_more n block = record {
    dir = block.dir;
    one = left block.dir block.one;
    directory = block.directory;
    block = subst (λ (c : Chain). In n c.blocks) (sym (chain_at_more b b' more block.dir.file block.dir.laid (is_file block.dir block.one))) block.block;
  }

  pub made_more : (m : Made) → In m ms → IsMade (files_of b' ls' ms cs) m
  made_more m i =
      let is = made.made m i in
      let number = number_same m is.file in
      record {
        file = file_more b b' more (file_of m) m.laid is.file;
        chain = has_more b b' more (file_of m) m.laid is.file is.chain;
        home = subst (IsBlock (files_of b' ls' ms cs)) (sym number) (block_more (number_at b m.page) is.home);
        entry = ap (λ n. option_map (λ (e : EntryPart). e.ino) (entry_at b' n m.slot)) number
            ∙ ap (λ page. option_map (λ (e : EntryPart). e.ino) (entry_on page m.slot)) (page_more b b' more m.page (number_at b m.page) made.apart apart' (slot_at m is.file)) ∙ is.entry;
        whole = λ dir. ap (λ w. size_in w % 4096) (body_more b b' more (file_of m) m.laid is.file) ∙ is.whole dir;
      }

  pub cleared_more : (m : Made) → In m cs → IsCleared (files_of b' ls' ms cs) m
  cleared_more m i =
      let is = made.cleared m i in
      record {
        file = file_more b b' more (file_of m) m.laid is.file;
        chain = subst (λ (c : Chain). length c.index ≡ index_count (length c.blocks)) (sym (chain_at_more b b' more (file_of m) m.laid is.file)) is.chain;
      }

  -- an index of a directory that was there
  pub index_here : (d : IndexedDir) → IsIndexHere (files_of b ls ms cs) d → IsIndexHere (files_of b' ls' ms cs) d
  index_here d here = record {
    dir = here.dir;
    one = left here.dir here.one;
    number = here.number;
    directory = here.directory;
    inodes = here.inodes;
    slots = here.slots ∙ sym (ap (slots_of every_number) (pages_more here.dir here.one));
  }

  -- made files are shown as before
  seen_one : (m : Made) → IsFile b (file_of m) m.laid → made_seen b' m ≡ made_seen b m
  seen_one m is =
      let v : ℕ → Chain → MadeFile = λ n c. record { ino = m.ino; kind = m.kind; page = n; slot = m.slot; chain = c } in
      ap (λ n. v n (chain_at b' (file_of m) m.laid)) (number_same m is) ∙ ap (v (number_at b m.page)) (chain_at_more b b' more (file_of m) m.laid is)

  seen_all : (ks : List Made) → ((m : Made) → In m ks → IsFile b (file_of m) m.laid) → map (made_seen b') ks ≡ map (made_seen b) ks
  seen_all [] each = refl
  seen_all (k ∷ ks) each = ap (λ x. x ∷ map (made_seen b') ks) (seen_one k (each k (inl refl))) ∙ ap (λ xs. made_seen b k ∷ xs) (seen_all ks (λ m i. each m (inr i)))

  pub made_seen-more : map (made_seen b') ms ≡ map (made_seen b) ms
  made_seen-more = seen_all ms (λ m i. (made.made m i).file)

  pub cleared_seen-more : map (made_seen b') cs ≡ map (made_seen b) cs
  cleared_seen-more = seen_all cs (λ m i. (made.cleared m i).file)
