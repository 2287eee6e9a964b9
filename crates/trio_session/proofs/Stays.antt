-- What a write of a page or of a body leaves: files, their chains, and the bodies of written files.
use Rattle.trio_session.proofs.Words.{if◌then◌else◌, ◌*◌, ◌+◌, ◌∙◌, ◌∷◌, ◌≡◌, Chain, FilePlace, FreshParts, Home, HomeInSlot, HomeLeased, InSlot, IsAt, IsFile, IsTrue, Laid, Leased, LentFile, LentPage, List, None, Option, PagePlace, Parcel, Sheet, Shown, Some, [], ap, block_with, body_at, body_in_slot, body_with, chain_at, chain_laid, eqb, false, file_numbers, file_with, fresh_with, home_at, index_with, ino_at, is_some, length, length-map, lent_numbers, map, map-map, number_at, option_map, option_map_or, page_in, page_numbers, refl, sheet_at, shown_at, slice_get, slice_get-map, slice_index_or, slot_file, subst, suc, sym, true, with_body_at, with_part, zero, ℕ}
use Rattle.std.specs.Prelude.{⊤, take, ◌++◌}
use Rattle.trio_session.specs.Layout.{with_page, with_body}
use Rattle.trio_session.proofs.Lists.{map_alike}
use Rattle.trio_session.proofs.Places.{index_with-no, block_with-no, fresh_with-no, lent_parts, shown_at-Leased, number_at-map, number_stays, slot_parts, shown_at-InSlot, still_there, with_body-at}

pub at_some : (b : Parcel) (place : PagePlace) (n : ℕ) → IsAt b place n → IsTrue (is_some (sheet_at b place))
at_some b place n at = ap is_some at.there

pub at_number : (b : Parcel) (place : PagePlace) (n : ℕ) → IsAt b place n → number_at b place ≡ n
at_number b place n at = ap (λ o. option_map_or (λ (x : Sheet). x.page) o 0) at.there ∙ at.number

-- numbers of pages that were written
pub index_numbers : (n : ℕ) (w : List ℕ) (ps : List LentPage) → lent_numbers (map (index_with n w) ps) ≡ lent_numbers ps
index_numbers n w ps = map-map (λ (p : LentPage). p.no.0) (index_with n w) ps ∙ map_alike (λ p. (index_with n w p).no.0) (λ p. p.no.0) ps (λ p. ap (λ m. m.0) (index_with-no n w p))

pub block_numbers : (n : ℕ) (w : List ℕ) (ps : List LentPage) → lent_numbers (map (block_with n w) ps) ≡ lent_numbers ps
block_numbers n w ps = map-map (λ (p : LentPage). p.no.0) (block_with n w) ps ∙ map_alike (λ p. (block_with n w p).no.0) (λ p. p.no.0) ps (λ p. ap (λ m. m.0) (block_with-no n w p))

pub fresh_numbers : (n : ℕ) (w : List ℕ) (ps : List FreshParts) → page_numbers (map (fresh_with n w) ps) ≡ page_numbers ps
fresh_numbers n w ps = map-map (λ (p : FreshParts). p.no.0) (fresh_with n w) ps ∙ map_alike (λ p. (fresh_with n w p).no.0) (λ p. p.no.0) ps (λ p. ap (λ m. m.0) (fresh_with-no n w p))

-- a chain by the numbers that it is made of
chain_from : List ℕ → List ℕ → List ℕ → Laid → Chain
chain_from index blocks pages l = record {
  index = take l.index_kept index ++ map (λ at. slice_index_or pages at 0) l.index_more.items;
  blocks = take l.blocks_kept blocks ++ map (λ at. slice_index_or pages at 0) l.blocks_more.items;
}

pub chain_written : (n : ℕ) (w : List ℕ) (f : LentFile) (ps : List FreshParts) (l : Laid) → chain_laid (file_with n w f).stands (map (fresh_with n w) ps) l ≡ chain_laid f.stands ps l
unfolding chain_from
chain_written n w f ps l =
    ap (λ ns. chain_from ns (lent_numbers (map (block_with n w) f.stands.blocks)) (page_numbers (map (fresh_with n w) ps)) l) (index_numbers n w f.stands.index)
    ∙ ap (λ ns. chain_from (lent_numbers f.stands.index) ns (page_numbers (map (fresh_with n w) ps)) l) (block_numbers n w f.stands.blocks)
    ∙ ap (λ ns. chain_from (lent_numbers f.stands.index) (lent_numbers f.stands.blocks) ns l) (fresh_numbers n w ps)

-- the same pages lent with a file as it stands
pub record AsLong (f g : Shown) : Type 0 where
  pub index : lent_numbers g.index ≡ lent_numbers f.index
  pub blocks : lent_numbers g.blocks ≡ lent_numbers f.blocks

-- a written file is the same but for bytes
pub record SameFile (f g : LentFile) : Type 0 where
  pub lent : g.lent ≡ f.lent
  pub ino : g.stands.ino ≡ f.stands.ino
  pub kind : g.stands.kind ≡ f.stands.kind
  pub pages : AsLong f.stands g.stands

abbrev pub SameFiles : List LentFile → List LentFile → Type 0
SameFiles [] [] = ⊤
SameFiles (f ∷ fs) (g ∷ gs) = SameFile f g × SameFiles fs gs
SameFiles fs gs = ⊥

-- A step leaves what is in hand but for bytes: each page that is there is there, with its number.
pub record LeavesFiles (b b' : Parcel) : Type 0 where
  pub pages : page_numbers b'.pages ≡ page_numbers b.pages
  pub inodes : b'.inodes ≡ b.inodes
  pub files : SameFiles b.writes b'.writes
  pub numbers : (place : PagePlace) → option_map (λ x. x.page) (sheet_at b' place) ≡ option_map (λ x. x.page) (sheet_at b place)

pub SameFiles-at : (fs gs : List LentFile) (at : ℕ) (f : LentFile) → SameFiles fs gs → slice_get fs at ≡ Some f → (g : LentFile) × (slice_get gs at ≡ Some g) × SameFile f g
SameFiles-at [] gs at f same e = absurd (let t : None ≡ Some f = e in cc t)
SameFiles-at (h ∷ fs) [] at f same e = absurd same
SameFiles-at (h ∷ fs) (k ∷ gs) zero f same e = (k, refl, (let t : h ≡ f = (let u : Some h ≡ Some f = e in cc u) in subst (λ x. SameFile x k) t same.0))
SameFiles-at (h ∷ fs) (k ∷ gs) (suc at) f same e = SameFiles-at fs gs at f same.1 e

pub SameFiles-back : (fs gs : List LentFile) (at : ℕ) (g : LentFile) → SameFiles fs gs → slice_get gs at ≡ Some g → (f : LentFile) × (slice_get fs at ≡ Some f) × SameFile f g
SameFiles-back fs [] at g same e = absurd (let t : None ≡ Some g = e in cc t)
SameFiles-back [] (k ∷ gs) at g same e = absurd same
SameFiles-back (h ∷ fs) (k ∷ gs) zero g same e = (h, refl, (let t : k ≡ g = (let u : Some k ≡ Some g = e in cc u) in subst (SameFile h) t same.0))
SameFiles-back (h ∷ fs) (k ∷ gs) (suc at) g same e = SameFiles-back fs gs at g same.1 e

pub SameFiles-length : (fs gs : List LentFile) → SameFiles fs gs → length gs ≡ length fs
SameFiles-length [] [] same = refl
SameFiles-length [] (k ∷ gs) same = absurd same
SameFiles-length (h ∷ fs) [] same = absurd same
SameFiles-length (h ∷ fs) (k ∷ gs) same = ap suc (SameFiles-length fs gs same.1)

pub SameFiles-numbers : (fs gs : List LentFile) → SameFiles fs gs → file_numbers gs ≡ file_numbers fs
SameFiles-numbers [] [] same = refl
SameFiles-numbers [] (k ∷ gs) same = absurd same
SameFiles-numbers (h ∷ fs) [] same = absurd same
SameFiles-numbers (h ∷ fs) (k ∷ gs) same = ap (λ n. n ∷ file_numbers gs) same.0.ino ∙ ap (λ ns. h.stands.ino ∷ ns) (SameFiles-numbers fs gs same.1)

SameFiles-map : (h : LentFile → LentFile) (fs : List LentFile) → ((f : LentFile) → SameFile f (h f)) → SameFiles fs (map h fs)
SameFiles-map h [] same = tt
SameFiles-map h (f ∷ fs) same = (same f, SameFiles-map h fs same)

SameFiles-then : (fs gs hs : List LentFile) → SameFiles fs gs → SameFiles gs hs → SameFiles fs hs
SameFiles-then [] [] [] p q = tt
SameFiles-then [] [] (h ∷ hs) p q = absurd q
SameFiles-then [] (g ∷ gs) hs p q = absurd p
SameFiles-then (f ∷ fs) [] hs p q = absurd p
SameFiles-then (f ∷ fs) (g ∷ gs) [] p q = absurd q
SameFiles-then (f ∷ fs) (g ∷ gs) (h ∷ hs) p q = (
  record {
    lent = q.0.lent ∙ p.0.lent;
    ino = q.0.ino ∙ p.0.ino;
    kind = q.0.kind ∙ p.0.kind;
    pages = record { index = q.0.pages.index ∙ p.0.pages.index; blocks = q.0.pages.blocks ∙ p.0.pages.blocks };
  },
  SameFiles-then fs gs hs p.1 q.1,
)

SameFiles-refl : (fs : List LentFile) → SameFiles fs fs
SameFiles-refl [] = tt
SameFiles-refl (f ∷ fs) = (record { lent = refl; ino = refl; kind = refl; pages = record { index = refl; blocks = refl } }, SameFiles-refl fs)

pub leaves_then : (a b c : Parcel) → LeavesFiles a b → LeavesFiles b c → LeavesFiles a c
leaves_then a b c p q = record {
  pages = q.pages ∙ p.pages;
  inodes = q.inodes ∙ p.inodes;
  files = SameFiles-then a.writes b.writes c.writes p.files q.files;
  numbers = λ place. q.numbers place ∙ p.numbers place;
}

pub leaves_same : (b : Parcel) → LeavesFiles b b
leaves_same b = record { pages = refl; inodes = refl; files = SameFiles-refl b.writes; numbers = λ place. refl }

-- the file at a place, after such a step
shown_left : (b b' : Parcel) (file : FilePlace) (f : Shown) → LeavesFiles b b' → shown_at b file ≡ Some f → (g : Shown) × (shown_at b' file ≡ Some g) × AsLong f g
shown_left b b' (Leased at) f leaves e =
    let lent = lent_parts b at f e in
    let g = SameFiles-at b.writes b'.writes at lent.0 leaves.files lent.1 in
    (g.0.stands, shown_at-Leased b' at g.0 g.1, subst (λ x. AsLong x g.0.stands) lent.2 g.2.pages)
shown_left b b' (InSlot page slot) f leaves e =
    let s = slot_parts b page slot f e in
    let t = still_there b b' page s.0 (leaves.numbers page) s.1 in (
      slot_file (body_in_slot slot t.0.bytes),
      shown_at-InSlot b' page slot t.0 t.1,
      record { index = ap (λ (g : Shown). lent_numbers g.index) s.2; blocks = ap (λ (g : Shown). lent_numbers g.blocks) s.2 },
    )

shown_none : (b b' : Parcel) (file : FilePlace) → LeavesFiles b b' → shown_at b file ≡ None → shown_at b' file ≡ None
shown_none b b' (Leased at) leaves e = by (slice_get b'.writes at) refl
  where
    by : (o : Option LentFile) → slice_get b'.writes at ≡ o → shown_at b' (Leased at) ≡ None
    by None k = ap (option_map (λ (f : LentFile). f.stands)) k
    by (Some g) k =
        let f = SameFiles-back b.writes b'.writes at g leaves.files k in
        absurd (let t : Some f.0.stands ≡ None = sym (shown_at-Leased b at f.0 f.1) ∙ e in cc t)
shown_none b b' (InSlot page slot) leaves e = by (sheet_at b' page) refl
  where
    missing : (o : Option Sheet) → option_map (λ (x : Sheet). slot_file (body_in_slot slot x.bytes)) o ≡ None → o ≡ None
    missing None k = refl
    missing (Some x) k = absurd (let t : Some (slot_file (body_in_slot slot x.bytes)) ≡ None = k in cc t)

    by : (o : Option Sheet) → sheet_at b' page ≡ o → shown_at b' (InSlot page slot) ≡ None
    by None k = ap (option_map (λ (x : Sheet). slot_file (body_in_slot slot x.bytes))) k
    by (Some y) k =
        absurd (let t : Some y.page ≡ None = sym (ap (option_map (λ (x : Sheet). x.page)) k) ∙ leaves.numbers page ∙ ap (option_map (λ (x : Sheet). x.page)) (missing (sheet_at b page) e) in cc t)

-- a chain by the numbers that it is made of
pub chain_laid-left : (f g : Shown) (b b' : Parcel) (l : Laid) → LeavesFiles b b' → AsLong f g → chain_laid g b'.pages l ≡ chain_laid f b.pages l
unfolding chain_from
chain_laid-left f g b b' l leaves long =
    ap (λ ns. chain_from ns (lent_numbers g.blocks) (page_numbers b'.pages) l) long.index
    ∙ ap (λ ns. chain_from (lent_numbers f.index) ns (page_numbers b'.pages) l) long.blocks
    ∙ ap (λ ns. chain_from (lent_numbers f.index) (lent_numbers f.blocks) ns l) leaves.pages

pub chain_left : (b b' : Parcel) (file : FilePlace) (l : Laid) → LeavesFiles b b' → chain_at b' file l ≡ chain_at b file l
chain_left b b' file l leaves = by (shown_at b file) refl
  where
    none : Chain
    none = record { index = []; blocks = [] }

    by : (o : Option Shown) → shown_at b file ≡ o → chain_at b' file l ≡ chain_at b file l
    by None e =
        ap (λ o. option_map_or (λ (g : Shown). chain_laid g b'.pages l) o (record { index = []; blocks = [] })) (shown_none b b' file leaves e)
        ∙ sym (ap (λ o. option_map_or (λ (g : Shown). chain_laid g b.pages l) o (record { index = []; blocks = [] })) e)
    by (Some f) e =
        let g = shown_left b b' file f leaves e in
        ap (λ o. option_map_or (λ (h : Shown). chain_laid h b'.pages l) o (record { index = []; blocks = [] })) g.1
        ∙ chain_laid-left f g.0 b b' l leaves g.2
        ∙ sym (ap (λ o. option_map_or (λ (h : Shown). chain_laid h b.pages l) o (record { index = []; blocks = [] })) e)

as_many : (ps qs : List LentPage) → lent_numbers ps ≡ lent_numbers qs → length ps ≡ length qs
as_many ps qs e = sym (length-map ps (λ (p : LentPage). p.no.0)) ∙ ap (λ (ns : List ℕ). length ns) e ∙ length-map qs (λ (p : LentPage). p.no.0)

pub file_left : (b b' : Parcel) (file : FilePlace) (l : Laid) → LeavesFiles b b' → IsFile b file l → IsFile b' file l
file_left b b' file l leaves is =
    let g = shown_left b b' file is.shown leaves is.there in
    let index : length g.0.index ≡ length is.shown.index = as_many g.0.index is.shown.index g.2.index in
    let blocks : length g.0.blocks ≡ length is.shown.blocks = as_many g.0.blocks is.shown.blocks g.2.blocks in
    let pages : length b'.pages ≡ length b.pages =
    sym (length-map b'.pages (λ (p : FreshParts). p.no.0)) ∙ ap (λ (ns : List ℕ). length ns) leaves.pages ∙ length-map b.pages (λ (p : FreshParts). p.no.0) in
    record {
      shown = g.0;
      there = g.1;
      slot = is.slot;
      laid = record {
        index = rw index is.laid.index;
        blocks = rw blocks is.laid.blocks;
        narrow_index = is.laid.narrow_index;
        narrow_blocks = is.laid.narrow_blocks;
        index_there = λ at i. rw pages (is.laid.index_there at i);
        blocks_there = λ at i. rw pages (is.laid.blocks_there at i);
      };
    }

-- ---- after a write of a page

pub page_leaves : (n : ℕ) (w : List ℕ) (b : Parcel) → LeavesFiles b (with_page n w b)
unfolding with_page
page_leaves n w b = record {
  pages = fresh_numbers n w b.pages;
  inodes = refl;
  files = SameFiles-map (file_with n w) b.writes (λ f. record {
    lent = refl;
    ino = refl;
    kind = refl;
    pages = record { index = index_numbers n w f.stands.index; blocks = block_numbers n w f.stands.blocks };
  });
  numbers = number_stays n w b;
}

pub chain_stays : (n : ℕ) (w : List ℕ) (b : Parcel) (file : FilePlace) (l : Laid) → chain_at (with_page n w b) file l ≡ chain_at b file l
chain_stays n w b file l = chain_left b (with_page n w b) file l (page_leaves n w b)

pub file_stays : (n : ℕ) (w : List ℕ) (b : Parcel) (file : FilePlace) (l : Laid) → IsFile b file l → IsFile (with_page n w b) file l
file_stays n w b file l is = file_left b (with_page n w b) file l (page_leaves n w b) is

-- of a written file the body stays
pub body_stays : (n : ℕ) (w : List ℕ) (b : Parcel) (at : ℕ) → body_at (with_page n w b) (Leased at) ≡ body_at b (Leased at)
unfolding with_page
body_stays n w b at =
    ap (λ o. option_map_or (λ (f : Shown). f.body) (option_map (λ (f : LentFile). f.stands) o) []) (slice_get-map (file_with n w) b.writes at) ∙ by (slice_get b.writes at)
  where
    by : (o : Option LentFile) → option_map_or (λ (f : Shown). f.body) (option_map (λ (f : LentFile). f.stands) (option_map (file_with n w) o)) []
        ≡ option_map_or (λ (f : Shown). f.body) (option_map (λ (f : LentFile). f.stands) o) []
    by None = refl
    by (Some f) = refl

pub pages_stay : (n : ℕ) (w : List ℕ) (b : Parcel) → page_numbers (with_page n w b).pages ≡ page_numbers b.pages
unfolding with_page
pages_stay n w b = fresh_numbers n w b.pages

-- ---- after a write of a body

-- what is the same of a file with another body
body_with-same : {X : Type 0} (ino : ℕ) (w : List ℕ) (f : LentFile) (g : LentFile → X) → g (record f { stands = record f.stands { body = w } }) ≡ g f → g (body_with ino w f) ≡ g f
body_with-same ino w f g e = elim (eqb f.stands.ino ino) as (λ v. g (if v then record f { stands = record f.stands { body = w } } else f) ≡ g f) [ true ↦ e | false ↦ refl ]

lent_body_leaves : (ino : ℕ) (w : List ℕ) (b : Parcel) → LeavesFiles b (with_body ino w b)
unfolding with_body
lent_body_leaves ino w b = record {
  pages = refl;
  inodes = refl;
  files = SameFiles-map (body_with ino w) b.writes (λ f. record {
    lent = body_with-same ino w f (λ g. g.lent) refl;
    ino = body_with-same ino w f (λ g. g.stands.ino) refl;
    kind = body_with-same ino w f (λ g. g.stands.kind) refl;
    pages = record { index = body_with-same ino w f (λ g. lent_numbers g.stands.index) refl; blocks = body_with-same ino w f (λ g. lent_numbers g.stands.blocks) refl };
  });
  numbers = λ place. ap (option_map (λ (x : Sheet). x.page)) (with_body-at ino w b place);
}

pub body_leaves : (home : Home) (w : List ℕ) (b : Parcel) → LeavesFiles b (with_body_at home w b)
body_leaves (HomeLeased ino) w b = lent_body_leaves ino w b
body_leaves (HomeInSlot page slot) w b = page_leaves page (with_part (256 * slot + 192) w (page_in b page)) b

pub home_left : (b b' : Parcel) (file : FilePlace) → LeavesFiles b b' → home_at b' file ≡ home_at b file
home_left b b' (InSlot page slot) leaves = ap (λ m. HomeInSlot m slot) (number_at-map b b' page (leaves.numbers page))
home_left b b' (Leased at) leaves = ap HomeLeased (by (slice_get b'.writes at) (slice_get b.writes at) refl refl)
  where
    by : (o p : Option LentFile) → slice_get b'.writes at ≡ o → slice_get b.writes at ≡ p → ino_at b' at ≡ ino_at b at
    by None None e k = ap (λ o. option_map_or (λ (f : LentFile). f.stands.ino) o 0) (e ∙ sym k)
    by None (Some f) e k = let g = SameFiles-at b.writes b'.writes at f leaves.files k in absurd (let t : None ≡ Some g.0 = sym e ∙ g.1 in cc t)
    by (Some g) p e k =
        let f = SameFiles-back b.writes b'.writes at g leaves.files e in
        ap (λ o. option_map_or (λ (f : LentFile). f.stands.ino) o 0) e ∙ f.2.ino ∙ sym (ap (λ o. option_map_or (λ (f : LentFile). f.stands.ino) o 0) f.1)
