-- What edits keep of a session's files and of its indexes.
use Rattle.trio_session.proofs.Words.{◌%◌, ◌*◌, ◌++◌, ◌+◌, ◌-◌, ◌<◌, ◌∙◌, ◌∷◌, ◌≡◌, ◌≢◌, ◌≤◌, AreApart, AreDirs, AreLaid, AreMade, AreRead, Bad, Chain, Directory, Empty, Entry, EntryPart, FilePlace, Files, Fresh, FreshParts, In, In-cases, In-map, In-right, IndexedDir, IsFile, IsIndexHere, IsOne, Kind, Laid, Leased, LentFile, List, Made, None, OneFile, Option, Parcel, Regular, Shown, SlotRead, Some, WasMade, Written, [], ap, are_new, arith, block_count, body_at, body_in_slot, cases_eq, chain_at, cleared_slot, dir_numbers, drop, entry_at, entry_bytes, entry_fits, entry_in, eqb, eqb-true, every_number, file_numbers, file_of, find-In, fresh_sheet, index_count, inl, ino_numbers, inr, length, map, name_in, number_at, of_written, option_map, option_map_or, page_in, page_numbers, pages_of, put_bytes, refl, size_in, slice_get, slice_get-map, slice_set, slot_bytes, slot_of, slot_on, slots_of, subst, suc, sym, true, with_part, zero, zeros, ℕ, is_directory, is_directory-false, false}
use Rattle.trio_session.specs.Layout.{filled as filled_slot, retitled as retitled_slot}
use Rattle.trio_session.proofs.Chains.{there_some}
use Rattle.trio_session.proofs.Edited.{Keeps, page_keeps}
use Rattle.trio_session.proofs.Grows.{bytes_keep}
use Rattle.trio_session.proofs.Lists.{In-slice_get, once_at, set_beside, slice_get-In}
use Rattle.trio_session.proofs.Owners.{blocks_apart, blocks_once, same_one, spare_apart}
use Rattle.trio_session.proofs.Places.{body_at-InSlot, fresh_at, map_at, number_at-map, page_at, still_there}
use Rattle.trio_session.proofs.SlotEdits.{EditsSlotIn, IsBlockAt, IsWhole, body-else, body-retitled, edits_cleared, edits_filled, edits_retitled, entry_on, entry_on-cleared, entry_on-else, entry_on-filled, entry_on-retitled, map-page_in_else, slots_of-edited}
use Rattle.trio_session.proofs.Untouched.{Spares, spared_pages, spares_put_bytes}
use Rattle.trio_session.proofs.Stays.{LeavesFiles, SameFile, SameFiles-at, SameFiles-back, SameFiles-numbers, chain_left, file_left}

-- ---- the same files

-- a file by its parts
one_from : FilePlace → ℕ → Kind → Laid → OneFile
one_from file ino kind l = record { file = file; ino = ino; kind = kind; laid = l }

pub same_written : (at : ℕ) (f g : LentFile) (l : Laid) → SameFile f g → of_written at g l ≡ of_written at f l
unfolding one_from
same_written at f g l same = ap (λ n. one_from (Leased at) n g.stands.kind l) same.ino ∙ ap (λ k. one_from (Leased at) f.stands.ino k l) same.kind

abbrev pub files_of : Parcel → List Laid → List Made → List Made → Files
files_of b ls ms cs = record { parcel = b; laid = ls; made = ms; cleared = cs }

pub IsOne-back : (b b' : Parcel) (ls : List Laid) (ms cs : List Made) (x : OneFile) → LeavesFiles b b' → IsOne (files_of b' ls ms cs) x → IsOne (files_of b ls ms cs) x
IsOne-back b b' ls ms cs x leaves (Written at g l there laid is) =
    let f = SameFiles-back b.writes b'.writes at g leaves.files there in
    Written at f.0 l f.1 laid (is ∙ same_written at f.0 g l f.2)
IsOne-back b b' ls ms cs x leaves (WasMade m i is) = WasMade m i is

pub IsOne-left : (b b' : Parcel) (ls : List Laid) (ms cs : List Made) (x : OneFile) → LeavesFiles b b' → IsOne (files_of b ls ms cs) x → IsOne (files_of b' ls ms cs) x
IsOne-left b b' ls ms cs x leaves (Written at f l there laid is) =
    let g = SameFiles-at b.writes b'.writes at f leaves.files there in
    Written at g.0 l g.1 laid (is ∙ sym (same_written at f g.0 l g.2))
IsOne-left b b' ls ms cs x leaves (WasMade m i is) = WasMade m i is

-- pages that were apart stay so
pub AreApart-left : (b b' : Parcel) → LeavesFiles b b' → AreApart b → AreApart b'
AreApart-left b b' leaves apart = record {
  pages = λ p q x y ex ey same.
      let x' = still_there b' b p x (sym (leaves.numbers p)) ex in
      let y' = still_there b' b q y (sym (leaves.numbers q)) ey in
      apart.pages p q x'.0 y'.0 x'.1 y'.1 (x'.2 ∙ same ∙ sym y'.2);
  files = ap (are_new []) (SameFiles-numbers b.writes b'.writes leaves.files) ∙ apart.files;
}

-- where each file's pages are
pub IsFile-one : (placed : ℕ) (reads : List Shown) (fs : Files) (x : OneFile) → AreLaid fs.parcel fs.laid → AreMade placed reads fs → IsOne fs x → IsFile fs.parcel x.file x.laid
IsFile-one placed reads fs x laid made (Written at f l there el is) = subst (λ (y : OneFile). IsFile fs.parcel y.file y.laid) (sym is) (laid.each at l el)
IsFile-one placed reads fs x laid made (WasMade m i is) = subst (λ (y : OneFile). IsFile fs.parcel y.file y.laid) (sym is) (elim (In-cases m fs.made fs.cleared i) [
  | inl h ↦ (made.made m h).file
  | inr h ↦ (made.cleared m h).file
])

-- ---- bytes of pages change

pub In-drop_at : (k at n : ℕ) (xs : List ℕ) → k ≤ at → slice_get xs at ≡ Some n → In n (drop k xs)
In-drop_at zero at n xs le e = slice_get-In xs at n e
In-drop_at (suc k) at n [] le e = absurd (let t : None ≡ Some n = e in cc t)
In-drop_at (suc k) zero n (x ∷ xs) le e = absurd (omega (arith, le))
In-drop_at (suc k) (suc at) n (x ∷ xs) le e = In-drop_at k at n xs (omega (arith, le)) e

pub body_in_lease : (b : Parcel) (at : ℕ) (f : LentFile) → slice_get b.writes at ≡ Some f → body_at b (Leased at) ≡ f.stands.body
body_in_lease b at f e = ap (λ o. option_map_or (λ (g : Shown). g.body) (option_map (λ (g : LentFile). g.stands) o) []) e

module _ (placed : ℕ) (reads : List Shown) (b b' : Parcel) (ls : List Laid) (ms cs : List Made) (keeps : Keeps b b') (made : AreMade placed reads (files_of b ls ms cs)) where
  -- a made file's body, by its slot's
  body_same : (m : Made) → IsFile b (file_of m) m.laid → body_in_slot m.slot (page_in b' (number_at b m.page)) ≡ body_in_slot m.slot (page_in b (number_at b m.page))
      → body_at b' (file_of m) ≡ body_at b (file_of m)
  body_same m is same =
      let apart' = AreApart-left b b' keeps.leaves made.apart in
      let is' = file_left b b' (file_of m) m.laid keeps.leaves is in
      body_at-InSlot b' m.page m.slot apart' (there_some b' (file_of m) m.laid is')
      ∙ ap (λ n. body_in_slot m.slot (page_in b' n)) (number_at-map b b' m.page (keeps.leaves.numbers m.page))
      ∙ same
      ∙ sym (body_at-InSlot b m.page m.slot made.apart (there_some b (file_of m) m.laid is))

  -- the files stay, where each made one's slot names it still, and has its body, and the pages that aren't put in place stay
  pub AreMade-left : ((m : Made) → In m ms → (option_map (λ e. e.ino) (entry_at b' (number_at b m.page) m.slot) ≡ Some m.ino)
      × (body_in_slot m.slot (page_in b' (number_at b m.page)) ≡ body_in_slot m.slot (page_in b (number_at b m.page))))
      → ((n : ℕ) → In n (drop placed (page_numbers b.pages)) → page_in b' n ≡ page_in b n)
      → AreMade placed reads (files_of b' ls ms cs)
  AreMade-left slots spare =
      let leaves = keeps.leaves in
      let apart' = AreApart-left b b' leaves made.apart in
      let numbers : file_numbers b'.writes ≡ file_numbers b.writes = SameFiles-numbers b.writes b'.writes leaves.files in
      let back = λ (x : OneFile) (one : IsOne (files_of b' ls ms cs) x). IsOne-back b b' ls ms cs x leaves one in
      record {
        apart = apart';
        spread = record {
          once = λ x one. made.spread.once x (back x one);
          apart = λ x y at one other i j. made.spread.apart x y at (back x one) (back y other) i j;
          below = λ x at one i. made.spread.below x at (back x one) i;
        };
        numbered = record {
          allotted = λ m i. subst (λ ns. In m.ino (ino_numbers ns)) (sym leaves.inodes) (made.numbered.allotted m i);
          once = made.numbered.once;
          new = λ m i k. made.numbered.new m i (subst (λ ns. In m.ino (ns ++ map (λ f. f.ino) reads)) numbers k);
          read = λ f i k. made.numbered.read f i (subst (In f.ino) numbers k);
        };
        made = λ m i.
            let is = made.made m i in
            let page : number_at b' m.page ≡ number_at b m.page = number_at-map b b' m.page (leaves.numbers m.page) in
            let chain : chain_at b' (file_of m) m.laid ≡ chain_at b (file_of m) m.laid = chain_left b b' (file_of m) m.laid leaves in
            let body = body_same m is.file (slots m i).1 in
            record {
              file = file_left b b' (file_of m) m.laid leaves is.file;
              chain = record {
                blocks = ap (λ (c : Chain). length c.blocks) chain ∙ is.chain.blocks ∙ sym (ap (λ w. block_count (size_in w)) body);
                index = ap (λ (c : Chain). length c.index) chain ∙ is.chain.index ∙ sym (ap (λ w. index_count (block_count (size_in w))) body);
              };
              home = record {
                dir = is.home.dir;
                one = IsOne-left b b' ls ms cs is.home.dir leaves is.home.one;
                directory = is.home.directory;
                block = subst (λ n. In n (chain_at b' is.home.dir.file is.home.dir.laid).blocks) (sym page)
                    (subst (λ (c : Chain). In (number_at b m.page) c.blocks) (sym (chain_left b b' is.home.dir.file is.home.dir.laid leaves)) is.home.block);
              };
              entry = ap (λ n. option_map (λ (e : EntryPart). e.ino) (entry_at b' n m.slot)) page ∙ (slots m i).0;
              whole = λ dir. ap (λ w. size_in w % 4096) body ∙ is.whole dir;
            };
        cleared = λ m i.
            let is = made.cleared m i in
            record {
              file = file_left b b' (file_of m) m.laid leaves is.file;
              chain = subst (λ (c : Chain). length c.index ≡ index_count (length c.blocks)) (sym (chain_left b b' (file_of m) m.laid leaves)) is.chain;
            };
        zero = λ at p le e.
            let n = p.no.0 in
            let there : slice_get (page_numbers b'.pages) at ≡ Some n = slice_get-map (λ (q : FreshParts). q.no.0) b'.pages at ∙ ap (option_map (λ (q : FreshParts). q.no.0)) e in
            let before : slice_get (page_numbers b.pages) at ≡ Some n = ap (λ ns. slice_get ns at) (sym leaves.pages) ∙ there in
            let q = map_at (λ (q : FreshParts). q.no.0) b.pages at n before in
            sym (page_at b' (Fresh at) (fresh_sheet p) apart' (fresh_at b' at p e))
            ∙ spare n (In-drop_at placed at n (page_numbers b.pages) le before)
            ∙ ap (page_in b) (sym q.2)
            ∙ page_at b (Fresh at) (fresh_sheet q.0) made.apart (fresh_at b at q.0 q.1)
            ∙ made.zero at q.0 le q.1;
        whole = λ g i dir.
            let at = In-slice_get g b'.writes i in
            let f = SameFiles-back b.writes b'.writes at.0 g leaves.files at.1 in
            let body : g.stands.body ≡ f.0.stands.body = sym (body_in_lease b' at.0 g at.1) ∙ keeps.body at.0 ∙ body_in_lease b at.0 f.0 f.1 in
            ap (λ w. size_in w % 4096) body ∙ made.whole f.0 (slice_get-In b.writes at.0 f.0 f.1) (sym f.2.kind ∙ dir);
      }

  -- the pages of a file, by the blocks that it had
  pages_left : (x : OneFile) → pages_of b' x ≡ map (page_in b') (chain_at b x.file x.laid).blocks
  pages_left x = ap (λ (c : Chain). map (page_in b') c.blocks) (chain_left b b' x.file x.laid keeps.leaves)

  -- each index stays, where the slots of each directory do
  pub AreDirs-left : (dirs : List IndexedDir) → AreDirs reads (files_of b ls ms cs) dirs
      → ((x : OneFile) → IsOne (files_of b ls ms cs) x → x.kind ≡ Directory
      → (slots_of every_number (map (page_in b') (chain_at b x.file x.laid).blocks) ≡ slots_of every_number (pages_of b x))
      × (AreRead (pages_of b x) → AreRead (map (page_in b') (chain_at b x.file x.laid).blocks)))
      → AreDirs reads (files_of b' ls ms cs) dirs
  AreDirs-left dirs are same = record {
    once = are.once;
    indexed = λ d i. elim (are.indexed d i) [
      | inr read ↦ inr read
      | inl here ↦ inl (record {
        dir = here.dir;
        one = IsOne-left b b' ls ms cs here.dir keeps.leaves here.one;
        number = here.number;
        directory = here.directory;
        inodes = here.inodes;
        slots = here.slots ∙ sym (ap (slots_of every_number) (pages_left here.dir) ∙ (same here.dir here.one here.directory).0);
      })
    ];
    readable = λ x one dir.
        let old = IsOne-back b b' ls ms cs x keeps.leaves one in
        elim (are.readable x old dir) [
          | inl h ↦ inl h
          | inr read ↦ inr (subst AreRead (sym (pages_left x)) ((same x old dir).1 read))
        ];
  }

-- ---- whose blocks are whose

-- an index of a directory of the session has the directory's slots
pub index_slots : (placed : ℕ) (reads : List Shown) (fs : Files) (dirs : List IndexedDir) (x : OneFile) (d : IndexedDir) → AreMade placed reads fs → AreDirs reads fs dirs → IsOne fs x → In d dirs → d.ino ≡ x.ino
    → (d.dir.inodes ≡ every_number) × (d.dir.slots ≡ slots_of every_number (pages_of fs.parcel x))
index_slots placed reads fs dirs x d made are one i same = elim (are.indexed d i) [
  | inl here ↦
      let it : here.dir ≡ x = same_one reads fs here.dir x made.apart made.numbered here.one one (here.number ∙ same) in
      (here.inodes, here.slots ∙ ap (λ (y : OneFile). slots_of every_number (pages_of fs.parcel y)) it)
  | inr read ↦
      let f = find-In (λ (g : Shown). eqb g.ino d.ino) reads read.lease read.there in
      let number : read.lease.ino ≡ x.ino = eqb-true read.lease.ino d.ino f.1 ∙ same in
      absurd (elim one [
        | Written at g l there laid is ↦ made.numbered.read read.lease f.0
            (subst (λ n. In n (file_numbers fs.parcel.writes)) (sym (number ∙ ap (λ (y : OneFile). y.ino) is)) (In-map (λ (h : LentFile). h.stands.ino) g fs.parcel.writes (slice_get-In fs.parcel.writes at g there)))
        | WasMade m k is ↦ made.numbered.new m k
            (In-right m.ino (file_numbers fs.parcel.writes) (map (λ (h : Shown). h.ino) reads)
            (subst (λ n. In n (map (λ (h : Shown). h.ino) reads)) (number ∙ ap (λ (y : OneFile). y.ino) is) (In-map (λ (h : Shown). h.ino) read.lease reads f.0)))
      ])
]

-- ---- what is no directory is written

pub kept_put : (placed : ℕ) (reads : List Shown) (b b' : Parcel) (ls : List Laid) (ms cs : List Made) (dirs : List IndexedDir) (x : OneFile) (at : ℕ) (new : List ℕ)
    → AreLaid b ls → AreMade placed reads (files_of b ls ms cs) → AreDirs reads (files_of b ls ms cs) dirs → IsOne (files_of b ls ms cs) x → is_directory x.kind ≡ false
    → at + length new ≤ 4096 * length (chain_at b x.file x.laid).blocks → b' ≡ put_bytes (chain_at b x.file x.laid).blocks at new b
    → AreMade placed reads (files_of b' ls ms cs) × AreDirs reads (files_of b' ls ms cs) dirs
kept_put placed reads b b' ls ms cs dirs x at new laid made are one regular within e =
    let fs = files_of b ls ms cs in
    let own = (chain_at b x.file x.laid).blocks in
    let keeps = bytes_keep b b' own at new e in
    let spares : Spares own b b' = subst (Spares own b) (sym e) (spares_put_bytes own own at new b within (λ n i. i)) in
    let there = λ (y : OneFile) (other : IsOne fs y). IsFile-one placed reads fs y laid made other in
    let out = λ (y : OneFile) (n : ℕ) (other : IsOne fs y) (dir : y.kind ≡ Directory) (i : In n (chain_at b y.file y.laid).blocks) (j : In n own).
    let number : y.ino ≡ x.ino = blocks_apart placed reads fs made.apart made.numbered made.spread y x n other (there y other) one (there x one) i j in
    let it : y ≡ x = same_one reads fs y x made.apart made.numbered other one number in
    is_directory-false x.kind regular (ap (λ (z : OneFile). z.kind) (sym it) ∙ dir) in (
      AreMade-left placed reads b b' ls ms cs keeps made
          (λ m i.
          let is = made.made m i in
          let page : page_in b' (number_at b m.page) ≡ page_in b (number_at b m.page) = spares.pages (number_at b m.page) (out is.home.dir (number_at b m.page) is.home.one is.home.directory is.home.block) in
          (ap (λ p. option_map (λ (en : EntryPart). en.ino) (entry_on p m.slot)) page ∙ is.entry, ap (body_in_slot m.slot) page))
          (λ n i. spares.pages n (λ j. spare_apart placed reads fs made.apart made.numbered made.spread x n one (there x one) i (In-right n (chain_at b x.file x.laid).index own j))),
      AreDirs-left placed reads b b' ls ms cs keeps made dirs are
          (λ y other dir.
          let same = spared_pages own b b' (chain_at b y.file y.laid).blocks spares (λ n i j. out y n other dir i j) in
          (ap (slots_of every_number) same, subst AreRead (sym same))),
    )

-- ---- a slot of a directory is edited

pub get_set : {X : Type 0} (xs : List X) (i : ℕ) (x y : X) → slice_get xs i ≡ Some y → slice_get (slice_set xs i x) i ≡ Some x
get_set [] i x y e = absurd (let t : None ≡ Some y = e in cc t)
get_set (z ∷ zs) zero x y e = refl
get_set (z ∷ zs) (suc i) x y e = get_set zs i x y e

pub map_set : {X Y : Type 0} (f : X → Y) (xs : List X) (i : ℕ) (x y : X) → slice_get xs i ≡ Some y → f x ≡ f y → map f (slice_set xs i x) ≡ map f xs
map_set f [] i x y e same = refl
map_set f (z ∷ zs) zero x y e same = (let t : z ≡ y = (let u : Some z ≡ Some y = e in cc u) in ap (λ n. n ∷ map f zs) (same ∙ ap f (sym t)))
map_set f (z ∷ zs) (suc i) x y e same = ap (λ ns. f z ∷ ns) (map_set f zs i x y e same)

-- the index of one directory is another, after its slots changed, and all other directories have their pages
pub AreDirs-set : (placed : ℕ) (reads : List Shown) (b b' : Parcel) (ls : List Laid) (ms cs : List Made) (dirs : List IndexedDir) (x : OneFile) (at : ℕ) (d d' : IndexedDir)
    → Keeps b b' → AreMade placed reads (files_of b ls ms cs) → AreDirs reads (files_of b ls ms cs) dirs → IsOne (files_of b ls ms cs) x → x.kind ≡ Directory
    → are_new [] (dir_numbers dirs) ≡ true → slice_get dirs at ≡ Some d → d.ino ≡ x.ino → d'.ino ≡ d.ino
    → d'.dir.inodes ≡ d.dir.inodes → d'.dir.slots ≡ slots_of every_number (map (page_in b') (chain_at b x.file x.laid).blocks)
    → ((y : OneFile) → IsOne (files_of b ls ms cs) y → y.kind ≡ Directory → y.ino ≢ x.ino → map (page_in b') (chain_at b y.file y.laid).blocks ≡ pages_of b y)
    → AreDirs reads (files_of b' ls ms cs) (slice_set dirs at d')
AreDirs-set placed reads b b' ls ms cs dirs x at d d' keeps made are one directory once there number number' inodes slots others =
    let fs = files_of b ls ms cs in
    let dirs' = slice_set dirs at d' in
    let left = pages_left placed reads b b' ls ms cs keeps made in
    let old = index_slots placed reads fs dirs x d made are one (slice_get-In dirs at d there) number in
    let mine : IsIndexHere (files_of b' ls ms cs) d' = record {
      dir = x;
      one = IsOne-left b b' ls ms cs x keeps.leaves one;
      number = sym number ∙ sym number';
      directory = directory;
      inodes = inodes ∙ old.0;
      slots = slots ∙ sym (ap (slots_of every_number) (left x));
    } in
    let numbers : dir_numbers dirs' ≡ dir_numbers dirs = map_set (λ (z : IndexedDir). z.ino) dirs at d' d there number' in
    record {
      once = ap (are_new []) numbers ∙ once;
      indexed = λ z i.
          let j = In-slice_get z dirs' i in
          elim (cases_eq j.0 at) [
            | inl same ↦
                let both : Some z ≡ Some d' = sym j.1 ∙ ap (slice_get dirs') same ∙ get_set dirs at d' d there in
                let it : z ≡ d' = cc both in
                inl (subst (IsIndexHere (files_of b' ls ms cs)) (sym it) mine)
            | inr apart ↦
                let before : slice_get dirs j.0 ≡ Some z = sym (set_beside dirs at j.0 d' apart) ∙ j.1 in
                elim (are.indexed z (slice_get-In dirs j.0 z before)) [
                  | inr read ↦ inr read
                  | inl here ↦
                      let other : here.dir.ino ≢ x.ino = λ same. apart (once_at (λ (w : IndexedDir). w.ino) dirs j.0 at z d once before there (sym here.number ∙ same ∙ sym number)) in
                      inl (record {
                        dir = here.dir;
                        one = IsOne-left b b' ls ms cs here.dir keeps.leaves here.one;
                        number = here.number;
                        directory = here.directory;
                        inodes = here.inodes;
                        slots = here.slots ∙ sym (ap (slots_of every_number) (left here.dir ∙ others here.dir here.one here.directory other));
                      })
                ]
          ];
      readable = λ y one' dir.
          let was = IsOne-back b b' ls ms cs y keeps.leaves one' in
          elim (cases_eq y.ino x.ino) [
            | inl same ↦ inl (subst (λ n. In n (dir_numbers dirs')) (number' ∙ number ∙ sym same) (In-map (λ (w : IndexedDir). w.ino) d' dirs' (slice_get-In dirs' at d' (get_set dirs at d' d there))))
            | inr apart ↦ elim (are.readable y was dir) [
              | inl h ↦ inl (subst (In y.ino) (sym numbers) h)
              | inr read ↦ inr (subst AreRead (sym (left y ∙ others y was dir apart)) read)
            ]
          ];
    }

-- One slot of block k of a directory is edited, and its index told of it. Where a made file has that slot, it still names the file and has
-- its body.
pub kept_edited : (placed : ℕ) (reads : List Shown) (b b' : Parcel) (ls : List Laid) (ms cs : List Made) (dirs : List IndexedDir) (x : OneFile) (k n slot at : ℕ) (d d' : IndexedDir)
    → AreLaid b ls → AreMade placed reads (files_of b ls ms cs) → AreDirs reads (files_of b ls ms cs) dirs → IsOne (files_of b ls ms cs) x → x.kind ≡ Directory
    → slice_get (chain_at b x.file x.laid).blocks k ≡ Some n → Keeps b b' → EditsSlotIn b b' n slot
    → ((m : Made) → In m ms → number_at b m.page ≡ n → m.slot ≡ slot
    → (option_map (λ e. e.ino) (entry_at b' n slot) ≡ Some m.ino) × (body_in_slot slot (page_in b' n) ≡ body_in_slot slot (page_in b n)))
    → are_new [] (dir_numbers dirs) ≡ true → slice_get dirs at ≡ Some d → d.ino ≡ x.ino → d'.ino ≡ d.ino
    → d'.dir.inodes ≡ d.dir.inodes → d'.dir.slots ≡ slice_set d.dir.slots (16 * k + slot) (slot_on every_number (page_in b' n) slot)
    → AreMade placed reads (files_of b' ls ms cs) × AreDirs reads (files_of b' ls ms cs) (slice_set dirs at d')
kept_edited placed reads b b' ls ms cs dirs x k n slot at d d' laid made are one directory block keeps edits still once there number number' inodes slots =
    let fs = files_of b ls ms cs in
    let file = IsFile-one placed reads fs x laid made one in
    let blocks = (chain_at b x.file x.laid).blocks in
    let inn : In n blocks = slice_get-In blocks k n block in
    let isblock : IsBlockAt blocks k n = record { once = blocks_once placed reads fs made.apart made.numbered made.spread x one file; there = block } in
    let old = index_slots placed reads fs dirs x d made are one (slice_get-In dirs at d there) number in
    let whole = slots ∙ ap (λ ss. slice_set ss (16 * k + slot) (slot_on every_number (page_in b' n) slot)) old.1 ∙ sym (slots_of-edited b b' blocks k n slot edits isblock) in (
      AreMade-left placed reads b b' ls ms cs keeps made
          (λ m i.
          let is = made.made m i in
          let page = number_at b m.page in
          elim (cases_eq page n) [
            | inr apart ↦ (ap (λ p. option_map (λ (en : EntryPart). en.ino) (entry_on p m.slot)) (edits.pages page apart) ∙ is.entry, ap (body_in_slot m.slot) (edits.pages page apart))
            | inl here ↦ elim (cases_eq m.slot slot) [
              | inr other ↦ (
                ap (option_map (λ (en : EntryPart). en.ino)) (entry_on-else b b' n slot page m.slot edits (λ same. other)) ∙ is.entry,
                body-else b b' n slot page m.slot edits (λ same. other),
              )
              | inl it ↦
                  let s = still m i here it in (
                    ap (λ q. option_map (λ (en : EntryPart). en.ino) (entry_at b' q m.slot)) here ∙ ap (λ q. option_map (λ (en : EntryPart). en.ino) (entry_at b' n q)) it ∙ s.0,
                    ap (λ q. body_in_slot m.slot (page_in b' q)) here ∙ ap (λ q. body_in_slot q (page_in b' n)) it ∙ s.1
                        ∙ ap (λ q. body_in_slot q (page_in b n)) (sym it) ∙ ap (λ q. body_in_slot m.slot (page_in b q)) (sym here),
                  )
            ]
          ])
          (λ q i. edits.pages q (λ same. spare_apart placed reads fs made.apart made.numbered made.spread x q one file i (In-right q (chain_at b x.file x.laid).index blocks (subst (λ z. In z blocks) (sym same) inn)))),
      AreDirs-set placed reads b b' ls ms cs dirs x at d d' keeps made are one directory once there number number' inodes whole
          (λ y other dir apart. map-page_in_else b b' (chain_at b y.file y.laid).blocks n edits.pages
          (λ i. apart (blocks_apart placed reads fs made.apart made.numbered made.spread y x n other (IsFile-one placed reads fs y laid made other) one file i inn))),
    )

-- slot `slot` of block k, page n, of directory x, whose index is at a place among the indexes
pub record IsSlotOf (placed : ℕ) (reads : List Shown) (fs : Files) (dirs : List IndexedDir) (x : OneFile) (k n slot at : ℕ) (d : IndexedDir) : Type 0 where
  pub laid : AreLaid fs.parcel fs.laid
  pub made : AreMade placed reads fs
  pub are : AreDirs reads fs dirs
  pub one : IsOne fs x
  pub directory : x.kind ≡ Directory
  pub block : slice_get (chain_at fs.parcel x.file x.laid).blocks k ≡ Some n
  pub whole : IsWhole fs.parcel n
  pub below : slot < 16
  pub once : are_new [] (dir_numbers dirs) ≡ true
  pub there : slice_get dirs at ≡ Some d
  pub number : d.ino ≡ x.ino

-- the index with another slot, and perhaps other room
pub record IsTold (d d' : IndexedDir) (number : ℕ) (slot : Option (List ℕ)) : Type 0 where
  pub ino : d'.ino ≡ d.ino
  pub inodes : d'.dir.inodes ≡ d.dir.inodes
  pub slots : d'.dir.slots ≡ slice_set d.dir.slots number slot

-- the name in a slot is that of its entry
pub slot_on-entry_on : (page : List ℕ) (slot : ℕ) → slot_on every_number page slot ≡ option_map (λ e. e.name) (entry_on page slot)
slot_on-entry_on page slot = by (slot_of every_number (slot_bytes slot page))
  where
    by : (r : SlotRead) → name_in r ≡ option_map (λ e. e.name) (entry_in r)
    by Empty = refl
    by Bad = refl
    by (Entry e) = refl

-- what a made file's slot says
made_entry : (placed : ℕ) (reads : List Shown) (fs : Files) (m : Made) (n slot : ℕ) → AreMade placed reads fs → In m fs.made → number_at fs.parcel m.page ≡ n → m.slot ≡ slot
    → option_map (λ e. e.ino) (entry_at fs.parcel n slot) ≡ Some m.ino
made_entry placed reads fs m n slot made i here it =
    sym (ap (λ q. option_map (λ (en : EntryPart). en.ino) (entry_at fs.parcel q m.slot)) here ∙ ap (λ q. option_map (λ (en : EntryPart). en.ino) (entry_at fs.parcel n q)) it) ∙ (made.made m i).entry

-- an empty slot is filled
pub kept_filled : (placed : ℕ) (reads : List Shown) (b b' : Parcel) (ls : List Laid) (ms cs : List Made) (dirs : List IndexedDir) (x : OneFile) (k n slot at : ℕ) (d d' : IndexedDir) (e : EntryPart) (body : List ℕ)
    → IsSlotOf placed reads (files_of b ls ms cs) dirs x k n slot at d → entry_on (page_in b n) slot ≡ None → entry_fits every_number e ≡ true → length body ≡ 64
    → b' ≡ filled_slot n slot e body b → IsTold d d' (16 * k + slot) (Some e.name)
    → AreMade placed reads (files_of b' ls ms cs) × AreDirs reads (files_of b' ls ms cs) (slice_set dirs at d')
kept_filled placed reads b b' ls ms cs dirs x k n slot at d d' e body is empty fits sized edit told =
    let w = with_part (256 * slot) (entry_bytes e ++ body) (page_in b n) in
    let entry : entry_on (page_in b' n) slot ≡ Some e = ap (λ c. entry_on (page_in c n) slot) edit ∙ entry_on-filled b n slot e body is.whole is.below fits sized in
    let name : Some e.name ≡ slot_on every_number (page_in b' n) slot = sym (slot_on-entry_on (page_in b' n) slot ∙ ap (option_map (λ (en : EntryPart). en.name)) entry) in
    kept_edited placed reads b b' ls ms cs dirs x k n slot at d d' is.laid is.made is.are is.one is.directory is.block
    (subst (Keeps b) (sym edit) (page_keeps n w b)) (subst (λ c. EditsSlotIn b c n slot) (sym edit) (edits_filled b n slot e body is.whole is.below fits sized))
    (λ m i here it. absurd (let no : None ≡ Some m.ino = sym (ap (option_map (λ (en : EntryPart). en.ino)) empty) ∙ made_entry placed reads (files_of b ls ms cs) m n slot is.made i here it in cc no))
    is.once is.there is.number told.ino told.inodes (told.slots ∙ ap (slice_set d.dir.slots (16 * k + slot)) name)

-- the slot of an entry is cleared, which no made file has
pub kept_cleared : (placed : ℕ) (reads : List Shown) (b b' : Parcel) (ls : List Laid) (ms cs : List Made) (dirs : List IndexedDir) (x : OneFile) (k n slot at : ℕ) (d d' : IndexedDir) (e : EntryPart)
    → IsSlotOf placed reads (files_of b ls ms cs) dirs x k n slot at d → entry_on (page_in b n) slot ≡ Some e → ((m : Made) → In m ms → m.ino ≢ e.ino)
    → b' ≡ cleared_slot n slot b → IsTold d d' (16 * k + slot) None
    → AreMade placed reads (files_of b' ls ms cs) × AreDirs reads (files_of b' ls ms cs) (slice_set dirs at d')
kept_cleared placed reads b b' ls ms cs dirs x k n slot at d d' e is entry none edit told =
    let w = with_part (256 * slot) (zeros 4) (page_in b n) in
    let gone : entry_on (page_in b' n) slot ≡ None = ap (λ c. entry_on (page_in c n) slot) edit ∙ entry_on-cleared b n slot is.whole is.below in
    let name : None ≡ slot_on every_number (page_in b' n) slot = sym (slot_on-entry_on (page_in b' n) slot ∙ ap (option_map (λ (en : EntryPart). en.name)) gone) in
    kept_edited placed reads b b' ls ms cs dirs x k n slot at d d' is.laid is.made is.are is.one is.directory is.block
    (subst (Keeps b) (sym edit) (page_keeps n w b)) (subst (λ c. EditsSlotIn b c n slot) (sym edit) (edits_cleared b n slot is.whole is.below))
    (λ m i here it. absurd (none m i (let same : Some e.ino ≡ Some m.ino = sym (ap (option_map (λ (en : EntryPart). en.ino)) entry) ∙ made_entry placed reads (files_of b ls ms cs) m n slot is.made i here it in
    let number : e.ino ≡ m.ino = cc same in sym number)))
    is.once is.there is.number told.ino told.inodes (told.slots ∙ ap (slice_set d.dir.slots (16 * k + slot)) name)

-- the entry in a slot gets another name
pub kept_retitled : (placed : ℕ) (reads : List Shown) (b b' : Parcel) (ls : List Laid) (ms cs : List Made) (dirs : List IndexedDir) (x : OneFile) (k n slot at : ℕ) (d d' : IndexedDir) (e e' : EntryPart)
    → IsSlotOf placed reads (files_of b ls ms cs) dirs x k n slot at d → entry_on (page_in b n) slot ≡ Some e → e'.ino ≡ e.ino → entry_fits every_number e' ≡ true
    → b' ≡ retitled_slot n slot e' b → IsTold d d' (16 * k + slot) (Some e'.name)
    → AreMade placed reads (files_of b' ls ms cs) × AreDirs reads (files_of b' ls ms cs) (slice_set dirs at d')
kept_retitled placed reads b b' ls ms cs dirs x k n slot at d d' e e' is entry same fits edit told =
    let w = with_part (256 * slot) (entry_bytes e') (page_in b n) in
    let now : entry_on (page_in b' n) slot ≡ Some e' = ap (λ c. entry_on (page_in c n) slot) edit ∙ entry_on-retitled b n slot e' is.whole is.below fits in
    let name : Some e'.name ≡ slot_on every_number (page_in b' n) slot = sym (slot_on-entry_on (page_in b' n) slot ∙ ap (option_map (λ (en : EntryPart). en.name)) now) in
    kept_edited placed reads b b' ls ms cs dirs x k n slot at d d' is.laid is.made is.are is.one is.directory is.block
    (subst (Keeps b) (sym edit) (page_keeps n w b)) (subst (λ c. EditsSlotIn b c n slot) (sym edit) (edits_retitled b n slot e' is.whole is.below fits))
    (λ m i here it. (
      ap (option_map (λ (en : EntryPart). en.ino)) now ∙ ap Some same ∙ sym (ap (option_map (λ (en : EntryPart). en.ino)) entry) ∙ made_entry placed reads (files_of b ls ms cs) m n slot is.made i here it,
      ap (λ c. body_in_slot slot (page_in c n)) edit ∙ body-retitled b n slot e' is.whole is.below fits,
    ))
    is.once is.there is.number told.ino told.inodes (told.slots ∙ ap (slice_set d.dir.slots (16 * k + slot)) name)
