-- The core with one body of another mode: its files, and that it is sound.
use Rattle.trio_surveys.proofs.Words.{◌++◌, ◌<◌, ◌∙◌, ◌∷◌, ◌≡◌, ◌≤◌, Body, Bool, Core, Directory, Entry, EntryPart, FileRead, Front, In, In-flat, IsFit, Kind, Link, List, Listed, Met, None, Option, Pick, Regular, Some, [], ap, are_in_grammar, are_new, arith, at_page, block_count, body_in_slot, body_of, body_with_mode, cases_eq, chain_of, children, children_in, cond, entries_of_kind, eq-eqb, eqb, false, file_of, flat_map, flat_map-In, gathered, index_count, inl, inr, is_sound, length, length-with_part, levels, list_all-each, listed_at, listed_numbers, listed_pages, map, map-In, met_in, ne_eqb, numbers, option_map, page_entries, page_of, pages_in, pages_of, plain, refl, result_map, result_then, root_of, slot_bytes, slot_entries, slot_of, subst, suc, sym, there_or, true, unless_repeated, with_bodies, with_names_apart, with_other, ℕ}
use Rattle.std.specs.Prelude.{Ok, is_ok}
use Rattle.trio_page.specs.Field.{with_number}
use Rattle.trio_layout.specs.Entries.{entries_on}
use Rattle.trio_layout.specs.Survey.{survey}
use Rattle.trio_surveys.specs.Reading.{picked_entry}
use Rattle.trio_surveys.proofs.Accepted.{length-bodies, map_is}
use Rattle.trio_surveys.proofs.Images.{read_met, one_met, root_or_listed}
use Rattle.trio_surveys.proofs.Local.{reads_from, reads_to, chain_follows}
use Rattle.trio_surveys.proofs.Moded.{body_moded, mode_body, changed, numbers_changed, levels_changed}
use Rattle.trio_surveys.proofs.Owned.{index_apart, sound_parts, sound_from}
use Rattle.trio_surveys.proofs.Picked.{all_listed, listed_picked, below_map, gathered_map, names_picked, listed_are_met, listed_placed}
use Rattle.trio_surveys.proofs.Places.{at_place, gathers_directory, slot_has}
use Rattle.trio_surveys.proofs.Putting.{put_on, page_of-bodies, put_on-none, put_on-front, put_on-body, put_on-length, ArePlaced}
use Rattle.trio_surveys.proofs.Slots.{slot_by_front}
use Rattle.trio_surveys.proofs.Tree.{child_from, child_has, child_placed}

-- a body with another mode has as many bytes
pub mode_sized : (mode : ℕ) (body : List ℕ) → length body ≡ 64 → length (body_with_mode mode body) ≡ 64
unfolding with_number
mode_sized mode body sized = search (arith, length-with_part)

-- the entry that names a file that is met below the root
pub record PlaceOf (core : Core) (m : Met) : Type 0 where
  pub bytes : List ℕ
  pub entry : EntryPart
  pub page : page_of core m.page ≡ Some bytes
  pub says : slot_of core.inodes (slot_bytes m.slot bytes) ≡ Entry entry
  pub number : entry.ino ≡ m.ino
  pub lister : Met
  pub file : FileRead
  pub stands : In lister (survey core plain)
  pub read : file_of core lister ≡ Ok file
  pub block : In m.page file.chain.blocks

module _ (core : Core) (fit : IsFit core) (sound : is_sound core plain ≡ true) (mode : ℕ) (small : mode ≤ 511) (m0 : Met) (i0 : In m0 (survey core plain)) (other : m0.ino ≡ 1 → ⊥) where
  abbrev pub h : Met → Met
  h m = changed m0.ino mode m

  abbrev pub ms : List Met
  ms = changed m0.ino mode m0 ∷ []

  abbrev pub now : Core
  now = with_other core (with_bodies ms core.pages)

  abbrev pub pick : Pick
  pick d p s ino bytes = cond (eqb ino m0.ino) (body_with_mode mode bytes) bytes

  pub in_ms : (c : Met) → In c ms → c ≡ changed m0.ino mode m0
  in_ms c (inl e) = e
  in_ms c (inr i) = absurd i

  no_root : (c : Met) → In c ms → c.ino ≡ 1 → ⊥
  no_root c i e = other (sym (ap (λ (x : Met). x.ino) (in_ms c i)) ∙ e)

  pub page_now : (p : ℕ) → page_of now p ≡ option_map (put_on p ms) (page_of core p)
  page_now p = page_of-bodies core p ms no_root

  pub listed0 : In m0 (all_listed core plain)
  listed0 = search (arith, root_or_listed)

  place0 : PlaceOf core m0
  place0 =
      let r = flat_map-In (children core plain) m0 (survey core plain) listed0 in
      let k = child_from core plain r.0 m0 r.2 in
      let pl = child_placed core plain r.0 m0 k in
      let page : m0.page ≡ k.entry.page = ap (λ (x : Met). x.page) k.is in
      let slot : m0.slot ≡ k.entry.slot = ap (λ (x : Met). x.slot) k.is in
      let ino : m0.ino ≡ k.entry.entry.ino = ap (λ (x : Met). x.ino) k.is in
      record {
        bytes = pl.bytes;
        entry = k.entry.entry;
        page = ap (page_of core) page ∙ pl.page;
        says = ap (λ s. slot_of core.inodes (slot_bytes s pl.bytes)) slot ∙ pl.says;
        number = sym ino;
        lister = r.0;
        file = k.file;
        stands = r.1;
        read = k.read;
        block = subst (λ p. In p k.file.chain.blocks) (sym page) pl.block;
      }

  body0 : (changed m0.ino mode m0).body ≡ body_with_mode mode m0.body
  body0 = ap (λ b. cond b (body_with_mode mode m0.body) m0.body) (eq-eqb m0.ino m0.ino refl)

  placed : ArePlaced ms
  placed c i = search (arith, in_ms, listed_placed, listed0, mode_sized, body0)

  slot_now : (m : Met) (f : FileRead) (p s : ℕ) (bytes : List ℕ) → In m (survey core plain) → file_of core m ≡ Ok f → gathered (page_entries core) f.chain.blocks ≡ Ok f.entries → In p f.chain.blocks → page_of core p ≡ Some bytes → s < 16 → slot_entries core.inodes p (put_on p ms bytes) s ≡ result_map (map (picked_entry pick m.ino)) (slot_entries core.inodes p bytes s)
  slot_now m f p s bytes i read gathers block there low =
      let full = fit.full p bytes there in
      let new : List ℕ = put_on p ms bytes in
      let body : List ℕ = body_in_slot s bytes in
      let says : slot_of core.inodes (slot_bytes s new) ≡ slot_of core.inodes (slot_bytes s bytes) =
      slot_by_front core.inodes (slot_bytes s new) (slot_bytes s bytes) (put_on-front p s ms bytes placed full) in
      ap (listed_at p s (body_in_slot s new)) says
      ∙ listed_picked pick m.ino p s (body_in_slot s new) body (slot_of core.inodes (slot_bytes s bytes))
      (λ e is_e.
      elim (cases_eq e.ino m0.ino) [
        | inl same ↦
            let l : Listed = at_place e p s body in
            let has = slot_has core f.chain.blocks f.entries p s bytes e gathers block there low is_e in
            let c : Met = met_in plain m.ino l in
            let listed : In c (all_listed core plain) = In-flat (children core plain) m c (survey core plain) i (child_has core plain m f l read has) in
            let is0 : c ≡ m0 = one_met core plain fit sound c m0 (listed_are_met core plain fit sound c listed) i0 same in
            let b : m0.body ≡ body = sym (ap (λ (x : Met). x.body) is0) in
            let new : (changed m0.ino mode m0).body ≡ body_with_mode mode body = body0 ∙ ap (body_with_mode mode) b in
            let pg : m0.page ≡ p = sym (ap (λ (x : Met). x.page) is0) in
            let sl : m0.slot ≡ s = sym (ap (λ (x : Met). x.slot) is0) in
            put_on-body p s ms bytes (body_with_mode mode body) placed full (λ x j on at. ap (λ (y : Met). y.body) (in_ms x j) ∙ new) (inr (changed m0.ino mode m0, inl refl, pg, sl))
            ∙ sym (ap (λ t. cond t (body_with_mode mode body) body) (eq-eqb e.ino m0.ino same))
        | inr differ ↦
            put_on-body p s ms bytes body placed full
            (λ x j on at.
            let r : x ≡ changed m0.ino mode m0 = in_ms x j in
            let q = place0 in
            let pg : m0.page ≡ p = sym (ap (λ (y : Met). y.page) r) ∙ on in
            let sl : m0.slot ≡ s = sym (ap (λ (y : Met). y.slot) r) ∙ at in
            let bs : Some q.bytes ≡ Some bytes = sym q.page ∙ ap (page_of core) pg ∙ there in
            let be : q.bytes ≡ bytes = cc bs in
            let same_part : slot_bytes m0.slot q.bytes ≡ slot_bytes s bytes = ap (slot_bytes m0.slot) be ∙ ap (λ n. slot_bytes n bytes) sl in
            let en : Entry q.entry ≡ Entry e = sym q.says ∙ ap (slot_of core.inodes) same_part ∙ is_e in
            let ee : q.entry ≡ e = cc en in
            absurd (differ (ap (λ (y : EntryPart). y.ino) (sym ee) ∙ q.number)))
            (inl refl)
            ∙ sym (ap (λ t. cond t (body_with_mode mode body) body) (ne_eqb e.ino m0.ino differ))
      ])

  page_entries_now : (m : Met) (f : FileRead) (p : ℕ) → In m (survey core plain) → file_of core m ≡ Ok f → gathered (page_entries core) f.chain.blocks ≡ Ok f.entries → In p f.chain.blocks → page_entries now p ≡ result_map (map (picked_entry pick m.ino)) (page_entries core p)
  unfolding entries_on
  page_entries_now m f p i read gathers block =
      ap (λ o. result_then (entries_on core.inodes p) (there_or (at_page p) o)) (page_now p) ∙ by_page (page_of core p) refl
    where
      by_page : (o : Option (List ℕ)) → page_of core p ≡ o → result_then (entries_on core.inodes p) (there_or (at_page p) (option_map (put_on p ms) o)) ≡ result_map (map (picked_entry pick m.ino)) (result_then (entries_on core.inodes p) (there_or (at_page p) o))
      by_page None e = refl
      by_page (Some bytes) e =
          below_map (slot_entries core.inodes p bytes) (slot_entries core.inodes p (put_on p ms bytes)) (picked_entry pick m.ino) 16
          (λ s low. slot_now m f p s bytes i read gathers block e low)

  entries_now : (m : Met) (f : FileRead) → In m (survey core plain) → file_of core m ≡ Ok f → (kind : Kind) → entries_of_kind core kind f.chain.blocks ≡ Ok f.entries → entries_of_kind now kind f.chain.blocks ≡ Ok (map (picked_entry pick m.ino) f.entries)
  entries_now m f i read Regular e =
      let n : [] ≡ f.entries = cc e in ap (λ es. Ok (map (picked_entry pick m.ino) es)) n
  entries_now m f i read Link e =
      let n : [] ≡ f.entries = cc e in ap (λ es. Ok (map (picked_entry pick m.ino) es)) n
  entries_now m f i read Directory e =
      let g = gathers_directory core f.chain.blocks f.entries e in
      let k : Listed → Listed = picked_entry pick m.ino in
      let all : gathered (page_entries now) f.chain.blocks ≡ Ok (map k f.entries) =
      gathered_map (page_entries core) (page_entries now) k f.chain.blocks (λ p b. page_entries_now m f p i read g.0 b) ∙ ap (result_map (map k)) g.0 in
      ap (result_then with_names_apart) all
      ∙ ap (unless_repeated (map k f.entries)) (names_picked pick m.ino f.entries ∙ g.1)

  index_now : (m : Met) (f : FileRead) (p : ℕ) → In m (survey core plain) → file_of core m ≡ Ok f → In p f.chain.index → page_of now p ≡ page_of core p
  index_now m f p i read index =
      page_now p ∙ stays (page_of core p)
      (λ x j on.
      let q = place0 in
      let block : In p q.file.chain.blocks = subst (λ n. In n q.file.chain.blocks) (sym (ap (λ (y : Met). y.page) (in_ms x j)) ∙ on) q.block in
      index_apart core (survey core plain) m q.lister f q.file p (sound_parts core plain sound).paged i q.stands read q.read index block)
    where
      stays : (o : Option (List ℕ)) → ((x : Met) → In x ms → x.page ≡ p → ⊥) → option_map (put_on p ms) o ≡ o
      stays None n = refl
      stays (Some b) n = ap Some (put_on-none p ms b n)

  -- the body of a file, with the mode changed where it is the file
  abbrev pub body_now : Met → Body → Body
  body_now m b = cond (eqb m.ino m0.ino) (body_moded mode b) b

  abbrev pub read_now : Met → FileRead → FileRead
  read_now m f = record { body = body_now m f.body; chain = f.chain; entries = map (picked_entry pick m.ino) f.entries }

  body_step : (t : Bool) (m : Met) (b : Body) → body_of m.kind core.range m.body ≡ Some b → body_of m.kind core.range (cond t (body_with_mode mode m.body) m.body) ≡ Some (cond t (body_moded mode b) b)
  body_step true m b e = mode_body m.kind core.range m.body b mode small e
  body_step false m b e = e

  chain_step : (t : Bool) (b : Body) (X : Body → Type 0) → X (body_moded mode b) → X b → X (cond t (body_moded mode b) b)
  chain_step true b X x y = x
  chain_step false b X x y = y

  pub file_now : (m : Met) (f : FileRead) → In m (survey core plain) → file_of core m ≡ Ok f → file_of now (h m) ≡ Ok (read_now m f)
  file_now m f i read =
      let r = reads_from core m f read in
      let c = chain_follows core now refl (index_count (block_count f.body.size)) (block_count f.body.size) f.body.head f.chain r.chain (λ p k. index_now m f p i read k) in
      reads_to now (h m) (read_now m f) (record {
        body = body_step (eqb m.ino m0.ino) m f.body r.body;
        chain = chain_step (eqb m.ino m0.ino) f.body (λ (b : Body). chain_of now b ≡ Ok f.chain) c c;
        entries = entries_now m f i read m.kind r.entries;
      })

  met_moded : (d : ℕ) (ls : List Listed) → map (met_in plain d) (map (picked_entry pick d) ls) ≡ map h (map (met_in plain d) ls)
  met_moded d [] = refl
  met_moded d (l ∷ ls) = ap (λ xs. h (met_in plain d l) ∷ xs) (met_moded d ls)

  pub children_now : (m : Met) → In m (survey core plain) → children now plain (h m) ≡ map h (children core plain m)
  children_now m i =
      let f = read_met core plain fit sound m i in
      ap (children_in plain m.ino) (file_now m f.0 i f.1) ∙ met_moded m.ino f.0.entries ∙ ap (λ o. map h (children_in plain m.ino o)) (sym f.1)

  pub pages_moded : (m : Met) → In m (survey core plain) → pages_of now (h m) ≡ pages_of core m
  pages_moded m i =
      let f = read_met core plain fit sound m i in ap pages_in (file_now m f.0 i f.1) ∙ ap pages_in (sym f.1)

  root_still : h (root_of core) ≡ root_of core
  root_still = ap (λ t. record (root_of core) { body = cond t (body_with_mode mode core.root) core.root }) (ne_eqb 1 m0.ino (λ e. other (sym e)))

  pub survey_now : survey now plain ≡ map h (survey core plain)
  unfolding survey
  survey_now =
      ap (λ root. (levels (children now plain) root (suc core.inodes)).passed) (sym root_still)
      ∙ ap (λ (w : Front). w.passed) (levels_changed m0.ino mode (children core plain) (children now plain) (root_of core) (suc core.inodes) children_now)

  flat_over : {Y : Type 0} (f g : Met → List Y) (xs : List Met) → ((m : Met) → In m xs → g (h m) ≡ f m) → flat_map g (map h xs) ≡ flat_map f xs
  flat_over f g [] e = refl
  flat_over f g (x ∷ xs) e = ap (λ l. l ++ flat_map g (map h xs)) (e x (inl refl)) ∙ ap (λ l. f x ++ l) (flat_over f g xs (λ y j. e y (inr j)))

  pub moded_sound : is_sound now plain ≡ true
  moded_sound =
      let p = sound_parts core plain sound in
      let files : List Met = survey core plain in
      let listed : listed_numbers now plain (map h files) ≡ listed_numbers core plain files =
      flat_over (λ m. numbers (children core plain m)) (λ m. numbers (children now plain m)) files (λ m i. ap numbers (children_now m i) ∙ numbers_changed m0.ino mode (children core plain m)) in
      let paged : listed_pages now (map h files) ≡ listed_pages core files = flat_over (pages_of core) (pages_of now) files pages_moded in
      let grammar : are_in_grammar now (map h files) ≡ true =
      list_all-each (λ m. is_ok (file_of now m)) (map h files)
      (λ x j. let r = map-In h x files j in let f = read_met core plain fit sound r.0 r.1 in ap (λ y. is_ok (file_of now y)) r.2 ∙ ap is_ok (file_now r.0 f.0 r.1 f.1)) in
      sound_from now plain (record {
        grammar = ap (are_in_grammar now) survey_now ∙ grammar;
        numbered = ap (λ fs. are_new (1 ∷ []) (listed_numbers now plain fs)) survey_now ∙ ap (are_new (1 ∷ [])) listed ∙ p.numbered;
        paged = ap (λ fs. are_new [] (listed_pages now fs)) survey_now ∙ ap (are_new []) paged ∙ p.paged;
      })

  pub moded_fit : IsFit now
  moded_fit = record {
    full = λ p bytes e.
        let r = map_is (put_on p ms) (page_of core p) bytes (sym (page_now p) ∙ e) in
        ap length (sym r.2) ∙ put_on-length p ms r.0 placed (fit.full p r.0 r.1);
    long = (let l = length-bodies ms core.pages in let f = fit.long in omega (arith, l, f));
    numbers = fit.numbers;
  }
