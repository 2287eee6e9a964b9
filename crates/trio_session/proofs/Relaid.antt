-- One file of a session is laid anew, by a growth or a cut: what becomes of its files.
use Rattle.trio_session.proofs.Words.{◌%◌, ◌++◌, ◌+◌, ◌<◌, ◌∙◌, ◌∷◌, ◌≡◌, ◌≢◌, ◌≤◌, ◌⊎◌, AreDirs, AreLaid, AreMade, AreNumbered, AreRead, AreSpread, Chain, Directory, EntryPart, FilePlace, Files, Fresh, FreshParts, HasChain, HomeInSlot, HomeLeased, In, In-cases, In-left, In-map, In-right, InSlot, IndexedDir, IsAt, IsBlock, IsFile, IsMade, IsOne, IsRelaid, IsWholeAt, Laid, Leased, LentFile, List, Made, MadeAnew, OneFile, Parcel, Regular, Sheet, Shown, Some, WasMade, Written, WrittenAnew, [], ap, are_new, arith, block_count, body_at, body_in_slot, cases_eq, chain_at, drop, entry_at, eqb, eqb-true, every_number, file_numbers, file_of, fresh_places, fresh_sheet, home_at, index_count, inl, ino_at, ino_numbers, inr, length, map, map-In, map-append, number_at, of_made, of_written, option_map, option_map_or, page_in, page_numbers, refl, size_in, slice_get, slice_get-map, slice_get_within, slice_set, slots_of, subst, suc, sym, take, take-append-drop, true, zero, ℕ, is_directory, is_directory-false, false}
use Rattle.trio_session.proofs.Chains.{there_some}
use Rattle.trio_session.proofs.Places.{body_at-InSlot, fresh_at, map_at, number_at-map, page_at, slot_parts}
use Rattle.trio_session.proofs.Untouched.{EditsFile, IsBeside, IsHome, AreRead-file, body-file, entry_on-file, page_in-file, slots_of-file}
use Rattle.trio_session.proofs.Found.{position-at}
use Rattle.trio_session.proofs.Kept.{AreApart-left, In-drop_at, IsFile-one, IsOne-back, body_in_lease, files_of, get_set, map_set, same_written}
use Rattle.trio_session.proofs.Lists.{In-slice_get, once_at, set_beside, slice_get-In}
use Rattle.trio_session.proofs.Owners.{same_one, spare_apart, written_number}
use Rattle.trio_session.proofs.SlotEdits.{IsWhole, get-behind, get-front, whole_at}
use Rattle.trio_session.proofs.Stays.{LeavesFiles, SameFiles-at, SameFiles-back, SameFiles-numbers, chain_left, file_left}

-- the file, laid so
abbrev pub laid_so : OneFile → Laid → OneFile
laid_so x l = record x { laid = l }

-- it is written, or was made and isn't cleared
pub data IsFrom (ms : List Made) (x : OneFile) : Type 0 where
  FromLease : (at : ℕ) → x.file ≡ Leased at → IsFrom ms x
  FromMade : (m : Made) → In m ms → x ≡ of_made m → IsFrom ms x

-- a made file is the one that is laid anew, or another
pub data IsMadeThen (ms : List Made) (x : OneFile) (l' : Laid) (m' : Made) : Type 0 where
  Anew : (m : Made) → In m ms → x ≡ of_made m → m' ≡ record m { laid = l' } → IsMadeThen ms x l' m'
  Other : In m' ms → m'.ino ≢ x.ino → IsMadeThen ms x l' m'

-- File x is laid anew, and every other file is as it was.
pub record Relays (b b' : Parcel) (ls ls' : List Laid) (ms ms' cs : List Made) (x : OneFile) (l' : Laid) : Type 0 where
  pub old : IsOne (files_of b ls ms cs) x
  pub new : IsOne (files_of b' ls' ms' cs) (laid_so x l')
  pub source : IsFrom ms x
  pub back : (y : OneFile) → IsOne (files_of b' ls' ms' cs) y → (y ≡ laid_so x l') ⊎ (IsOne (files_of b ls ms cs) y × (y.ino ≢ x.ino))
  pub left : (y : OneFile) → IsOne (files_of b ls ms cs) y → y.ino ≢ x.ino → IsOne (files_of b' ls' ms' cs) y
  pub made : (m' : Made) → In m' ms' → IsMadeThen ms x l' m'
  pub numbers : map (λ m. m.ino) (ms' ++ cs) ≡ map (λ m. m.ino) (ms ++ cs)

module _ (placed : ℕ) (reads : List Shown) (b b' : Parcel) (ls : List Laid) (ms cs : List Made) (leaves : LeavesFiles b b') (made : AreMade placed reads (files_of b ls ms cs)) where
  -- a file that was made is none that is written
  not_leased : (x y : OneFile) (at : ℕ) (m : Made) → IsOne (files_of b ls ms cs) x → IsOne (files_of b ls ms cs) y → x.file ≡ Leased at → y.file ≡ file_of m → x.ino ≡ y.ino → ⊥
  not_leased x y at m one other ex ey same =
      let it : x ≡ y = same_one reads (files_of b ls ms cs) x y made.apart made.numbered one other same in
      absurd (let e : Leased at ≡ InSlot m.page m.slot = sym ex ∙ ap (λ (z : OneFile). z.file) it ∙ ey in cc e)

  -- two that were made
  one_made : (i j : ℕ) (m k : Made) → slice_get (ms ++ cs) i ≡ Some m → slice_get (ms ++ cs) j ≡ Some k → m.ino ≡ k.ino → i ≡ j
  one_made i j m k ei ej same = once_at (λ (z : Made). z.ino) (ms ++ cs) i j m k made.numbered.once ei ej same

  -- a file that was made is laid anew
  relays_made : (at : ℕ) (m : Made) (l' : Laid) → slice_get ms at ≡ Some m → Relays b b' ls ls ms (slice_set ms at (record m { laid = l' })) cs (of_made m) l'
  relays_made at m l' there =
      let fs = files_of b ls ms cs in
      let m' : Made = record m { laid = l' } in
      let ms' = slice_set ms at m' in
      let x = of_made m in
      let here : In m ms = slice_get-In ms at m there in
      let one : IsOne fs x = WasMade m (In-left m ms cs here) refl in
      let split : (k : Made) → In k ms' → (k ≡ m') ⊎ ((j : ℕ) × (slice_get ms j ≡ Some k) × (j ≢ at)) = λ k h.
      let j = In-slice_get k ms' h in
      elim (cases_eq j.0 at) [
        | inl same ↦ inl (let both : Some k ≡ Some m' = sym j.1 ∙ ap (slice_get ms') same ∙ get_set ms at m' m there in cc both)
        | inr apart ↦ inr (j.0, sym (set_beside ms at j.0 m' apart) ∙ j.1, apart)
      ] in
      let differs : (k : Made) (j : ℕ) → slice_get ms j ≡ Some k → j ≢ at → k.ino ≢ m.ino = λ k j e apart same. apart (one_made j at k m (get-front ms cs j k e) (get-front ms cs at m there) same) in
      let cleared_differs : (k : Made) → In k cs → k.ino ≢ m.ino = λ k h same.
      let j = In-slice_get k cs h in
      let e : length ms + j.0 ≡ at = one_made (length ms + j.0) at k m (get-behind ms cs j.0 ∙ j.1) (get-front ms cs at m there) same in
      let lt : at < length ms = slice_get_within ms at m there in
      absurd (omega (arith, e, lt)) in
      record {
        old = one;
        new = WasMade m' (In-left m' ms' cs (slice_get-In ms' at m' (get_set ms at m' m there))) refl;
        source = FromMade m here refl;
        back = λ y other. elim other [
          | Written i g k e1 e2 is ↦
              let was = IsOne-back b b' ls ms cs y leaves (Written i g k e1 e2 is) in
              inr (was, not_leased y x i m was one (ap (λ (z : OneFile). z.file) is) refl)
          | WasMade k i is ↦ elim (In-cases k ms' cs i) [
            | inl h ↦ elim (split k h) [
              | inl same ↦ inl (is ∙ ap of_made same)
              | inr s ↦ inr (WasMade k (In-left k ms cs (slice_get-In ms s.0 k s.1)) is, λ same. differs k s.0 s.1 s.2 (sym (ap (λ (z : OneFile). z.ino) is) ∙ same))
            ]
            | inr h ↦ inr (WasMade k (In-right k ms cs h) is, λ same. cleared_differs k h (sym (ap (λ (z : OneFile). z.ino) is) ∙ same))
          ]
        ];
        left = λ y other apart. elim other [
          | Written i f k e1 e2 is ↦ (let g = SameFiles-at b.writes b'.writes i f leaves.files e1 in Written i g.0 k g.1 e2 (is ∙ sym (same_written i f g.0 k g.2)))
          | WasMade k i is ↦ elim (In-cases k ms cs i) [
            | inl h ↦
                let j = In-slice_get k ms h in
                let beside : j.0 ≢ at = λ same. apart (ap (λ (z : OneFile). z.ino) is ∙ (let both : Some k ≡ Some m = sym j.1 ∙ ap (slice_get ms) same ∙ there in let it : k ≡ m = cc both in ap (λ (z : Made). z.ino) it)) in
                WasMade k (In-left k ms' cs (slice_get-In ms' j.0 k (set_beside ms at j.0 m' beside ∙ j.1))) is
            | inr h ↦ WasMade k (In-right k ms' cs h) is
          ]
        ];
        made = λ k h. elim (split k h) [
          | inl same ↦ Anew m here refl same
          | inr s ↦ Other (slice_get-In ms s.0 k s.1) (differs k s.0 s.1 s.2)
        ];
        numbers = map-append (λ (z : Made). z.ino) ms' cs ∙ ap (λ ns. ns ++ map (λ (z : Made). z.ino) cs) (map_set (λ (z : Made). z.ino) ms at m' m there refl)
            ∙ sym (map-append (λ (z : Made). z.ino) ms cs);
      }

  -- a written file is laid anew
  relays_written : (at : ℕ) (f : LentFile) (l l' : Laid) → slice_get b.writes at ≡ Some f → slice_get ls at ≡ Some l → Relays b b' ls (slice_set ls at l') ms ms cs (of_written at f l) l'
  relays_written at f l l' ef el =
      let fs = files_of b ls ms cs in
      let ls' = slice_set ls at l' in
      let x = of_written at f l in
      let one : IsOne fs x = Written at f l ef el refl in
      let g = SameFiles-at b.writes b'.writes at f leaves.files ef in
      record {
        old = one;
        new = Written at g.0 l' g.1 (get_set ls at l' l el) (sym (same_written at f g.0 l' g.2));
        source = FromLease at refl;
        back = λ y other. elim other [
          | Written i h k e1 e2 is ↦
              let f2 = SameFiles-back b.writes b'.writes i h leaves.files e1 in
              elim (cases_eq i at) [
                | inl same ↦
                    let laids : Some k ≡ Some l' = sym e2 ∙ ap (slice_get ls') same ∙ get_set ls at l' l el in
                    let lay : k ≡ l' = cc laids in
                    let files : Some f2.0 ≡ Some f = sym f2.1 ∙ ap (slice_get b.writes) same ∙ ef in
                    let file : f2.0 ≡ f = cc files in
                    inl (is ∙ same_written i f2.0 h k f2.2 ∙ ap (λ n. of_written n f2.0 k) same ∙ ap (λ z. of_written at z k) file ∙ ap (of_written at f) lay)
                | inr apart ↦
                    let was : IsOne fs y = Written i f2.0 k f2.1 (sym (set_beside ls at i l' apart) ∙ e2) (is ∙ same_written i f2.0 h k f2.2) in
                    inr (was, λ same. apart (once_at (λ (z : LentFile). z.stands.ino) b.writes i at f2.0 f made.apart.files f2.1 ef (sym (ap (λ (z : OneFile). z.ino) (is ∙ same_written i f2.0 h k f2.2)) ∙ same)))
              ]
          | WasMade k i is ↦
              let was : IsOne fs y = WasMade k i is in
              inr (was, λ same. not_leased x y at k one was refl (ap (λ (z : OneFile). z.file) is) (sym same))
        ];
        left = λ y other apart. elim other [
          | Written i h k e1 e2 is ↦
              let beside : i ≢ at = λ same. apart (ap (λ (z : OneFile). z.ino) is ∙ (let both : Some h ≡ Some f = sym e1 ∙ ap (slice_get b.writes) same ∙ ef in let it : h ≡ f = cc both in ap (λ (z : LentFile). z.stands.ino) it)) in
              let h' = SameFiles-at b.writes b'.writes i h leaves.files e1 in
              Written i h'.0 k h'.1 (set_beside ls at i l' beside ∙ e2) (is ∙ sym (same_written i h h'.0 k h'.2))
          | WasMade k i is ↦ WasMade k i is
        ];
        made = λ k h. Other h (λ same. not_leased x (of_made k) at k one (WasMade k (In-left k ms cs h) refl) refl refl (sym same));
        numbers = refl;
      }

  -- what was laid anew
  pub relays : (done : FilePlace → Laid → Laid → Type 0) (ino : ℕ) (ls' : List Laid) (ms' : List Made) → IsRelaid done b ls ms ino ls' ms'
      → (x : OneFile) × (l' : Laid) × Relays b b' ls ls' ms ms' cs x l' × done x.file x.laid l' × (x.ino ≡ ino)
  relays done ino ls' ms' (MadeAnew at m l' first there is els ems) =
      let k = position-at (λ (z : Made). eqb z.ino ino) ms at first in
      let both : Some k.0 ≡ Some m = sym k.1.0 ∙ there in
      let same : k.0 ≡ m = cc both in (
        of_made m,
        l',
        subst (λ q. Relays b b' ls q ms ms' cs (of_made m) l') (sym els) (subst (λ q. Relays b b' ls ls ms q cs (of_made m) l') (sym ems) (relays_made at m l' there)),
        is,
        ap (λ (z : Made). z.ino) (sym same) ∙ eqb-true k.0.ino ino k.1.2,
      )
  relays done ino ls' ms' (WrittenAnew at l l' none first there is els ems) =
      let f = position-at (λ (z : LentFile). eqb z.stands.ino ino) b.writes at first in (
        of_written at f.0 l,
        l',
        subst (λ q. Relays b b' ls q ms ms' cs (of_written at f.0 l) l') (sym els) (subst (λ q. Relays b b' ls (slice_set ls at l') ms q cs (of_written at f.0 l) l') (sym ems) (relays_written at f.0 l l' f.1.0 there)),
        is,
        eqb-true f.0.stands.ino ino f.1.2,
      )

-- ---- the files after an edit of one

-- An edit of file x: its own pages are written and its body; it is laid anew, by pages that it had and spare ones.
pub record EditsOne (placed placed' : ℕ) (reads : List Shown) (b b' : Parcel) (ls ls' : List Laid) (ms ms' cs : List Made) (x : OneFile) (l' : Laid) (own : List ℕ) : Type 0 where
  pub are_laid : AreLaid b ls
  pub made : AreMade placed reads (files_of b ls ms cs)
  pub leaves : LeavesFiles b b'
  pub relays : Relays b b' ls ls' ms ms' cs x l'
  pub is_file : IsFile b x.file x.laid
  pub edit : EditsFile own (home_at b x.file) b b'
  pub whole_home : IsWholeAt b x.file
  pub new_file : IsFile b' x.file l'
  pub has : HasChain b' x.file l'
  pub others : (i : ℕ) → Leased i ≢ x.file → body_at b' (Leased i) ≡ body_at b (Leased i)
  pub more : placed ≤ placed'
  pub once : are_new [] (fresh_places l') ≡ true
  pub places : (at : ℕ) → In at (fresh_places l') → In at (fresh_places x.laid) ⊎ (placed ≤ at)
  pub below : (at : ℕ) → In at (fresh_places l') → at < placed'
  pub out : (y : OneFile) (n : ℕ) → IsOne (files_of b ls ms cs) y → y.kind ≡ Directory → In n (chain_at b y.file y.laid).blocks → In n own → ⊥
  pub spare : (n : ℕ) → In n (drop placed' (page_numbers b.pages)) → In n own → ⊥
  pub grows : x.kind ≡ Directory → (n : ℕ) → In n (chain_at b x.file x.laid).blocks → In n (chain_at b' x.file l').blocks
  pub whole : x.kind ≡ Directory → size_in (body_at b' x.file) % 4096 ≡ 0

-- fewer are behind a later place
pub drop_more : (k j : ℕ) (n : ℕ) (xs : List ℕ) → k ≤ j → In n (drop j xs) → In n (drop k xs)
drop_more zero j n xs le i = subst (In n) (take-append-drop j xs) (In-right n (take j xs) (drop j xs) i)
drop_more (suc k) zero n xs le i = absurd (omega (arith, le))
drop_more (suc k) (suc j) n [] le i = i
drop_more (suc k) (suc j) n (x ∷ xs) le i = drop_more k j n xs (omega (arith, le)) i

module _ (placed placed' : ℕ) (reads : List Shown) (b b' : Parcel) (ls ls' : List Laid) (ms ms' cs : List Made) (x : OneFile) (l' : Laid) (own : List ℕ) (all : EditsOne placed placed' reads b b' ls ls' ms ms' cs x l' own) where
  -- where its body stands
  pub is_home : IsHome b own (home_at b x.file)
  is_home = elim all.relays.source [
    | FromLease at e ↦ subst (λ f. IsHome b own (home_at b f)) (sym e) tt
    | FromMade m i e ↦
        let is = all.made.made m i in
        let n = number_at b m.page in
        let s = slot_parts b m.page m.slot is.file.shown is.file.there in
        let at : IsAt b m.page n = record { sheet = s.0; there = s.1; number = sym (ap (λ o. option_map_or (λ (z : Sheet). z.page) o 0) s.1) } in
        let whole : IsWhole b n = whole_at b m.page n at (subst (λ (y : OneFile). IsWholeAt b y.file) e all.whole_home) in
        let out : In n own → ⊥ = λ j. all.out is.home.dir n is.home.one is.home.directory is.home.block j in
        subst (λ (y : OneFile). IsHome b own (home_at b y.file)) (sym e) (whole, is.file.slot, out)
  ]

  -- a slot of another made file isn't its own
  is_beside : (m : Made) → In m ms → m.ino ≢ x.ino → IsBeside (home_at b x.file) (number_at b m.page) m.slot
  is_beside m i other = elim all.relays.source [
    | FromLease at e ↦ subst (λ f. IsBeside (home_at b f) (number_at b m.page) m.slot) (sym e) tt
    | FromMade k j e ↦
        let mine = (all.made.made m i).entry in
        let its = (all.made.made k j).entry in
        subst (λ (y : OneFile). IsBeside (home_at b y.file) (number_at b m.page) m.slot) (sym e)
        (λ page slot. absurd (other
        (let both : Some m.ino ≡ Some k.ino = sym mine ∙ ap (λ n. option_map (λ (en : EntryPart). en.ino) (entry_at b n m.slot)) page
        ∙ ap (λ s. option_map (λ (en : EntryPart). en.ino) (entry_at b (number_at b k.page) s)) slot ∙ its in
        let same : m.ino ≡ k.ino = cc both in
        same ∙ ap (λ (y : OneFile). y.ino) (sym e))))
  ]

  -- a spare page isn't where its body stands
  not_home : (n : ℕ) → In n (drop placed' (page_numbers b.pages)) → (page slot : ℕ) → home_at b x.file ≡ HomeInSlot page slot → n ≢ page
  not_home n i page slot e = elim all.relays.source [
    | FromLease at f ↦ absurd (let same : HomeLeased (ino_at b at) ≡ HomeInSlot page slot = ap (home_at b) (sym f) ∙ e in cc same)
    | FromMade m j f ↦ λ same.
        let homes : HomeInSlot (number_at b m.page) m.slot ≡ HomeInSlot page slot = ap (λ (y : OneFile). home_at b y.file) (sym f) ∙ e in
        let at : number_at b m.page ≡ page = cc homes in
        let is = all.made.made m j in
        let dir = is.home.dir in
        let file = IsFile-one placed reads (files_of b ls ms cs) dir all.are_laid all.made is.home.one in
        spare_apart placed reads (files_of b ls ms cs) all.made.apart all.made.numbered all.made.spread dir n is.home.one file
        (drop_more placed placed' n (page_numbers b.pages) all.more i)
        (In-right n (chain_at b dir.file dir.laid).index (chain_at b dir.file dir.laid).blocks (subst (λ q. In q (chain_at b dir.file dir.laid).blocks) (at ∙ sym same) is.home.block))
  ]

  abbrev fs : Files
  fs = files_of b ls ms cs

  abbrev fs' : Files
  fs' = files_of b' ls' ms' cs

  -- a made file's block of a directory is a block of one then
  block_then : (n : ℕ) → IsBlock fs n → IsBlock fs' n
  block_then n is = elim (cases_eq is.dir.ino x.ino) [
    | inl same ↦
        let it : is.dir ≡ x = same_one reads fs is.dir x all.made.apart all.made.numbered is.one all.relays.old same in
        let directory : x.kind ≡ Directory = ap (λ (y : OneFile). y.kind) (sym it) ∙ is.directory in
        record {
          dir = laid_so x l';
          one = all.relays.new;
          directory = directory;
          block = all.grows directory n (subst (λ (y : OneFile). In n (chain_at b y.file y.laid).blocks) it is.block);
        }
    | inr apart ↦ record {
      dir = is.dir;
      one = all.relays.left is.dir is.one apart;
      directory = is.directory;
      block = subst (λ (c : Chain). In n c.blocks) (sym (chain_left b b' is.dir.file is.dir.laid all.leaves)) is.block;
    }
  ]

  -- what is there of each made file's slot
  entry_then : (m : Made) → In m ms → option_map (λ e. e.ino) (entry_at b' (number_at b' m.page) m.slot) ≡ Some m.ino
  entry_then m i =
      let is = all.made.made m i in
      ap (λ n. option_map (λ (en : EntryPart). en.ino) (entry_at b' n m.slot)) (number_at-map b b' m.page (all.leaves.numbers m.page))
      ∙ ap (option_map (λ (en : EntryPart). en.ino))
      (entry_on-file own (home_at b x.file) b b' (number_at b m.page) m.slot all.edit is_home (λ j. all.out is.home.dir (number_at b m.page) is.home.one is.home.directory is.home.block j))
      ∙ is.entry

  home_then : (m : Made) → In m ms → IsBlock fs' (number_at b' m.page)
  home_then m i = subst (IsBlock fs') (sym (number_at-map b b' m.page (all.leaves.numbers m.page))) (block_then (number_at b m.page) (all.made.made m i).home)

  -- another made file has its body
  body_then : (m : Made) → In m ms → m.ino ≢ x.ino → body_at b' (file_of m) ≡ body_at b (file_of m)
  body_then m i other =
      let is = all.made.made m i in
      let apart' = AreApart-left b b' all.leaves all.made.apart in
      let is' = file_left b b' (file_of m) m.laid all.leaves is.file in
      body_at-InSlot b' m.page m.slot apart' (there_some b' (file_of m) m.laid is')
      ∙ ap (λ n. body_in_slot m.slot (page_in b' n)) (number_at-map b b' m.page (all.leaves.numbers m.page))
      ∙ body-file own (home_at b x.file) b b' (number_at b m.page) m.slot all.edit is_home (λ j. all.out is.home.dir (number_at b m.page) is.home.one is.home.directory is.home.block j) (is_beside m i other)
      ∙ sym (body_at-InSlot b m.page m.slot all.made.apart (there_some b (file_of m) m.laid is.file))

  -- a made file is in its slot still
  made_then : (m' : Made) → In m' ms' → IsMade fs' m'
  made_then m' h = elim (all.relays.made m' h) [
    | Anew m i e same ↦
        let at : x.file ≡ file_of m = ap (λ (y : OneFile). y.file) e in
        let is : IsMade fs' (record m { laid = l' }) = record {
          file = subst (λ f. IsFile b' f l') at all.new_file;
          chain = subst (λ f. HasChain b' f l') at all.has;
          home = home_then m i;
          entry = entry_then m i;
          whole = λ dir. subst (λ f. size_in (body_at b' f) % 4096 ≡ 0) at (all.whole (ap (λ (y : OneFile). y.kind) e ∙ dir));
        } in
        subst (IsMade fs') (sym same) is
    | Other i other ↦
        let is = all.made.made m' i in
        let chain : chain_at b' (file_of m') m'.laid ≡ chain_at b (file_of m') m'.laid = chain_left b b' (file_of m') m'.laid all.leaves in
        let body = body_then m' i other in
        record {
          file = file_left b b' (file_of m') m'.laid all.leaves is.file;
          chain = record {
            blocks = ap (λ (c : Chain). length c.blocks) chain ∙ is.chain.blocks ∙ sym (ap (λ w. block_count (size_in w)) body);
            index = ap (λ (c : Chain). length c.index) chain ∙ is.chain.index ∙ sym (ap (λ w. index_count (block_count (size_in w))) body);
          };
          home = home_then m' i;
          entry = entry_then m' i;
          whole = λ dir. ap (λ w. size_in w % 4096) body ∙ is.whole dir;
        }
  ]

  -- no allotted page is at two places of files
  spread_then : AreSpread placed' fs'
  spread_then = record {
    once = λ y one. elim (all.relays.back y one) [
      | inl same ↦ ap (λ (z : OneFile). are_new [] (fresh_places z.laid)) same ∙ all.once
      | inr was ↦ all.made.spread.once y was.0
    ];
    apart = λ y z at one other i j. elim (all.relays.back y one) [
      | inl same ↦ elim (all.relays.back z other) [
        | inl same' ↦ ap (λ (w : OneFile). w.ino) same ∙ sym (ap (λ (w : OneFile). w.ino) same')
        | inr was' ↦ ap (λ (w : OneFile). w.ino) same ∙ shared at z was'.0 (subst (λ (w : OneFile). In at (fresh_places w.laid)) same i) j
      ]
      | inr was ↦ elim (all.relays.back z other) [
        | inl same' ↦ sym (ap (λ (w : OneFile). w.ino) same' ∙ shared at y was.0 (subst (λ (w : OneFile). In at (fresh_places w.laid)) same' j) i)
        | inr was' ↦ all.made.spread.apart y z at was.0 was'.0 i j
      ]
    ];
    below = λ y at one i. elim (all.relays.back y one) [
      | inl same ↦ all.below at (subst (λ (w : OneFile). In at (fresh_places w.laid)) same i)
      | inr was ↦ (let before : at < placed = all.made.spread.below y at was.0 i in omega (arith, before, all.more))
    ];
  }
    where
      shared : (at : ℕ) (z : OneFile) → IsOne fs z → In at (fresh_places l') → In at (fresh_places z.laid) → x.ino ≡ z.ino
      shared at z one mine its = elim (all.places at mine) [
        | inl had ↦ all.made.spread.apart x z at all.relays.old one had its
        | inr spare ↦ absurd (let before : at < placed = all.made.spread.below z at one its in omega (arith, before, spare))
      ]

  numbered_then : AreNumbered reads fs'
  numbered_then =
      let files : file_numbers b'.writes ≡ file_numbers b.writes = SameFiles-numbers b.writes b'.writes all.leaves.files in
      let before : (m : Made) → In m (ms' ++ cs) → (k : Made) × In k (ms ++ cs) × (m.ino ≡ k.ino) = λ m i.
      map-In (λ (z : Made). z.ino) m.ino (ms ++ cs) (subst (In m.ino) all.relays.numbers (In-map (λ (z : Made). z.ino) m (ms' ++ cs) i)) in
      record {
        allotted = λ m i.
            let k = before m i in
            subst (λ ns. In m.ino (ino_numbers ns)) (sym all.leaves.inodes) (subst (λ n. In n (ino_numbers b.inodes)) (sym k.2) (all.made.numbered.allotted k.0 k.1));
        once = ap (are_new []) all.relays.numbers ∙ all.made.numbered.once;
        new = λ m i j.
            let k = before m i in
            all.made.numbered.new k.0 k.1 (subst (λ n. In n (file_numbers b.writes ++ map (λ f. f.ino) reads)) k.2 (subst (λ ns. In m.ino (ns ++ map (λ f. f.ino) reads)) files j));
        read = λ f i j. all.made.numbered.read f i (subst (In f.ino) files j);
      }

  -- the files of a session, after the edit
  pub AreMade-relaid : AreMade placed' reads fs'
  AreMade-relaid =
      let apart' = AreApart-left b b' all.leaves all.made.apart in
      record {
        apart = apart';
        spread = spread_then;
        numbered = numbered_then;
        made = made_then;
        cleared = λ m i.
            let is = all.made.cleared m i in
            record {
              file = file_left b b' (file_of m) m.laid all.leaves is.file;
              chain = subst (λ (c : Chain). length c.index ≡ index_count (length c.blocks)) (sym (chain_left b b' (file_of m) m.laid all.leaves)) is.chain;
            };
        zero = λ at p le e.
            let n = p.no.0 in
            let there : slice_get (page_numbers b'.pages) at ≡ Some n = slice_get-map (λ (q : FreshParts). q.no.0) b'.pages at ∙ ap (option_map (λ (q : FreshParts). q.no.0)) e in
            let before : slice_get (page_numbers b.pages) at ≡ Some n = ap (λ ns. slice_get ns at) (sym all.leaves.pages) ∙ there in
            let q = map_at (λ (q : FreshParts). q.no.0) b.pages at n before in
            let spare : In n (drop placed' (page_numbers b.pages)) = In-drop_at placed' at n (page_numbers b.pages) le before in
            let early : placed ≤ at = omega (arith, le, all.more) in
            sym (page_at b' (Fresh at) (fresh_sheet p) apart' (fresh_at b' at p e))
            ∙ page_in-file own (home_at b x.file) b b' n all.edit (all.spare n spare) (not_home n spare)
            ∙ ap (page_in b) (sym q.2)
            ∙ page_at b (Fresh at) (fresh_sheet q.0) all.made.apart (fresh_at b at q.0 q.1)
            ∙ all.made.zero at q.0 early q.1;
        whole = λ g i dir.
            let at = In-slice_get g b'.writes i in
            let f = SameFiles-back b.writes b'.writes at.0 g all.leaves.files at.1 in
            let kind : f.0.stands.kind ≡ Directory = sym f.2.kind ∙ dir in
            whole_then at.0 g f.0 at.1 f.1 kind;
      }
    where
      whole_at_lease : (at : ℕ) (g f : LentFile) → slice_get b'.writes at ≡ Some g → slice_get b.writes at ≡ Some f → f.stands.kind ≡ Directory → (Leased at ≢ x.file) → size_in g.stands.body % 4096 ≡ 0
      whole_at_lease at g f eg ef kind other =
          ap (λ w. size_in w % 4096) (sym (body_in_lease b' at g eg) ∙ all.others at other ∙ body_in_lease b at f ef) ∙ all.made.whole f (slice_get-In b.writes at f ef) kind

      whole_then : (at : ℕ) (g f : LentFile) → slice_get b'.writes at ≡ Some g → slice_get b.writes at ≡ Some f → f.stands.kind ≡ Directory → size_in g.stands.body % 4096 ≡ 0
      whole_then at g f eg ef kind = elim all.relays.source [
        | FromMade m i e ↦ whole_at_lease at g f eg ef kind (λ same. absurd (let no : Leased at ≡ InSlot m.page m.slot = same ∙ ap (λ (y : OneFile). y.file) e in cc no))
        | FromLease k e ↦ elim (cases_eq at k) [
          | inr apart ↦ whole_at_lease at g f eg ef kind (λ same. apart (let both : Leased at ≡ Leased k = same ∙ e in cc both))
          | inl same ↦
              let w = written_number fs x k all.relays.old e in
              let files : Some w.0 ≡ Some f = sym w.1 ∙ ap (slice_get b.writes) (sym same) ∙ ef in
              let file : w.0 ≡ f = cc files in
              let directory : x.kind ≡ Directory = w.3 ∙ ap (λ (h : LentFile). h.stands.kind) file ∙ kind in
              ap (λ w. size_in w % 4096) (sym (body_in_lease b' at g eg) ∙ ap (λ i. body_at b' (Leased i)) same ∙ ap (body_at b') (sym e)) ∙ all.whole directory
        ]
      ]

  -- the indexes, where what is no directory is edited
  pub AreDirs-relaid : (dirs : List IndexedDir) → AreDirs reads fs dirs → is_directory x.kind ≡ false → AreDirs reads fs' dirs
  AreDirs-relaid dirs are regular =
      let other = λ (y : OneFile) (one : IsOne fs y) (dir : y.kind ≡ Directory) (same : y.ino ≡ x.ino).
      is_directory-false x.kind regular (ap (λ (z : OneFile). z.kind) (sym (same_one reads fs y x all.made.apart all.made.numbered one all.relays.old same)) ∙ dir) in
      let left = λ (y : OneFile). ap (λ (c : Chain). map (page_in b') c.blocks) (chain_left b b' y.file y.laid all.leaves) in
      record {
        once = are.once;
        indexed = λ d i. elim (are.indexed d i) [
          | inr read ↦ inr read
          | inl here ↦
              let y = here.dir in
              let blocks = (chain_at b y.file y.laid).blocks in
              inl (record {
                dir = y;
                one = all.relays.left y here.one (other y here.one here.directory);
                number = here.number;
                directory = here.directory;
                inodes = here.inodes;
                slots = here.slots ∙ sym (ap (slots_of every_number) (left y)
                    ∙ slots_of-file own (home_at b x.file) b b' blocks all.edit is_home (λ n j. all.out y n here.one here.directory j));
              })
        ];
        readable = λ y one dir. elim (all.relays.back y one) [
          | inl same ↦ absurd (is_directory-false x.kind regular (ap (λ (z : OneFile). z.kind) (sym same) ∙ dir))
          | inr was ↦ elim (are.readable y was.0 dir) [
            | inl h ↦ inl h
            | inr read ↦ inr (subst AreRead (sym (left y))
                (AreRead-file own (home_at b x.file) b b' (chain_at b y.file y.laid).blocks all.edit is_home (λ n j. all.out y n was.0 dir j) read))
          ]
        ];
      }
