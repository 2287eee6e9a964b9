-- The plain survey of a core with the picked bodies at their places is the survey with the pick.
use Rattle.trio_surveys.proofs.Words.{◌++◌, ◌<◌, ◌∙◌, ◌∷◌, ◌≡◌, Core, Directory, Entry, EntryPart, FileRead, In, In-flat, In-map, In-right, IsFit, Kind, Link, List, Listed, Met, None, Ok, Option, Pick, Regular, Result, SlotRead, Some, [], ap, are_in_grammar, are_new, are_new-before, arith, at_page, block_count, body_in_slot, both, bytes_eq, children, children_in, cond, entries_of_kind, file_of, flat_map, flat_map-In, flat_map-same, gathered, gathered_below, index_count, inl, inr, is_sound, list_all-each, listed_at, listed_numbers, listed_pages, map, met_in, numbers, numbers-flat, option_map, page_entries, page_of, pages_in, pages_of, plain, refl, repeated_name, result_map, result_then, slot_bytes, slot_entries, slot_of, subst, suc, survey, sym, there_or, true, unless_repeated, with_bodies, with_names_apart, with_other, zero, ℕ}
use Rattle.std.proofs.Common.{◌||◌}
use Rattle.std.specs.Prelude.{is_ok}
use Rattle.trio_layout.specs.Entries.{entries_on, place_of, has_name}
pub use Rattle.trio_surveys.specs.Reading.{picked_entry as picked, with_picked_bodies as put}
use Rattle.trio_surveys.proofs.Local.{reads_from, reads_to, read_at, chain_local, survey_follows}
use Rattle.trio_surveys.proofs.Places.{at_place, gathers_directory, slot_has}
use Rattle.trio_surveys.proofs.Tree.{survey_tree, child_from, child_has, child_placed}
use Rattle.trio_surveys.proofs.Slots.{slot_by_front}
use Rattle.trio_surveys.proofs.Putting.{put_on, page_of-bodies, put_on-none, put_on-front, put_on-body, ArePlaced}
use Rattle.trio_surveys.proofs.Owned.{page_owner, pages_are, index_apart, sound_parts, sound_from, body_sized}

-- all that the files list
abbrev pub all_listed : Core → Pick → List Met
all_listed core pick = flat_map (children core pick) (survey core pick)

pub listed_picked : (pick : Pick) (d p s : ℕ) (body' body : List ℕ) (r : SlotRead) → ((e : EntryPart) → r ≡ Entry e → body' ≡ pick d p s e.ino body) → listed_at p s body' r ≡ result_map (map (picked pick d)) (listed_at p s body r)
listed_picked pick d p s body' body r h = search arith

map_append : {X Y : Type 0} (k : X → Y) (xs ys : List X) → map k xs ++ map k ys ≡ map k (xs ++ ys)
map_append k [] ys = refl
map_append k (x ∷ xs) ys = ap (λ l. k x ∷ l) (map_append k xs ys)

both_map : {X E : Type 0} (k : X → X) (q r : Result (List X) E) → both (result_map (map k) q) (result_map (map k) r) ≡ result_map (map k) (both q r)
both_map k q r = search (arith, map_append)

pub below_map : {X E : Type 0} (f g : ℕ → Result (List X) E) (k : X → X) (n : ℕ) → ((s : ℕ) → s < n → g s ≡ result_map (map k) (f s)) → gathered_below g n ≡ result_map (map k) (gathered_below f n)
below_map f g k zero h = refl
below_map f g k (suc n) h =
    let l : n < suc n = omega arith in
    let up : (s : ℕ) → s < n → s < suc n = λ s b. omega arith in
    ap (both (gathered_below g n)) (h n l)
    ∙ ap (λ o. both o (result_map (map k) (f n))) (below_map f g k n (λ s b. h s (up s b)))
    ∙ both_map k (gathered_below f n) (f n)

pub gathered_map : {X Y E : Type 0} (f g : Y → Result (List X) E) (k : X → X) (xs : List Y) → ((x : Y) → In x xs → g x ≡ result_map (map k) (f x)) → gathered g xs ≡ result_map (map k) (gathered f xs)
gathered_map f g k [] h = refl
gathered_map f g k (x ∷ xs) h =
    ap (λ o. both o (gathered g xs)) (h x (inl refl))
    ∙ ap (both (result_map (map k) (f x))) (gathered_map f g k xs (λ y i. h y (inr i)))
    ∙ both_map k (f x) (gathered f xs)

has_name_picked : (pick : Pick) (d : ℕ) (name : List ℕ) (ls : List Listed) → has_name name (map (picked pick d) ls) ≡ has_name name ls
has_name_picked pick d name [] = refl
has_name_picked pick d name (l ∷ ls) = ap (λ b. bytes_eq l.entry.name name || b) (has_name_picked pick d name ls)

repeated_picked : (pick : Pick) (d : ℕ) (seen ls : List Listed) → repeated_name (map (picked pick d) seen) (map (picked pick d) ls) ≡ repeated_name seen ls
repeated_picked pick d seen [] = refl
repeated_picked pick d seen (l ∷ ls) =
    let k : Listed → Listed = picked pick d in
    ap (λ b. cond b (Some (place_of l)) (repeated_name (map k seen ++ k l ∷ []) (map k ls))) (has_name_picked pick d l.entry.name seen)
    ∙ ap (cond (has_name l.entry.name seen) (Some (place_of l)))
    (ap (λ s. repeated_name s (map k ls)) (map_append k seen (l ∷ [])) ∙ repeated_picked pick d (seen ++ l ∷ []) ls)

pub names_picked : (pick : Pick) (d : ℕ) (ls : List Listed) → repeated_name [] (map (picked pick d) ls) ≡ repeated_name [] ls
names_picked pick d ls = repeated_picked pick d [] ls

met_picked : (pick : Pick) (d : ℕ) (ls : List Listed) → map (met_in plain d) (map (picked pick d) ls) ≡ map (met_in pick d) ls
met_picked pick d [] = refl
met_picked pick d (l ∷ ls) = ap (λ ms. met_in pick d l ∷ ms) (met_picked pick d ls)

module _ (core : Core) (pick : Pick) (fit : IsFit core) (sound : is_sound core pick ≡ true) where
  pub listed_are_met : (x : Met) → In x (all_listed core pick) → In x (survey core pick)
  listed_are_met x i = subst (λ l. In x l) (sym (survey_tree core pick fit.numbers sound)) (inr i)

  pub listed_no_root : (x : Met) → In x (all_listed core pick) → x.ino ≡ 1 → ⊥
  listed_no_root x i e =
      let p = sound_parts core pick sound in
      let among : In x.ino (listed_numbers core pick (survey core pick)) =
      subst (λ l. In x.ino l) (numbers-flat (children core pick) (survey core pick)) (In-map (λ (m : Met). m.ino) x (all_listed core pick) i) in
      are_new-before x.ino (1 ∷ []) (listed_numbers core pick (survey core pick)) p.numbered among (inl e)

  -- the bodies of all files are those of all that is listed
  pub bodies_are : with_bodies (survey core pick) core.pages ≡ with_bodies (all_listed core pick) core.pages
  bodies_are = ap (λ ms. with_bodies ms core.pages) (survey_tree core pick fit.numbers sound)

  pub page_put_is : (p : ℕ) → page_of (put core pick) p ≡ option_map (put_on p (all_listed core pick)) (page_of core p)
  page_put_is p =
      ap (λ pages. page_of (with_other core pages) p) bodies_are ∙ page_of-bodies core p (all_listed core pick) listed_no_root

  pub listed_placed : ArePlaced (all_listed core pick)
  listed_placed x i =
      let p = sound_parts core pick sound in
      let r = flat_map-In (children core pick) x (survey core pick) i in
      let k = child_from core pick r.0 x r.2 in
      let pl = child_placed core pick r.0 x k in
      let f = read_at core (survey core pick) x p.grammar (listed_are_met x i) in
      let rd = reads_from core x f.0 f.1 in
      let slots : x.slot ≡ k.entry.slot = ap (λ (w : Met). w.slot) k.is in
      let low : x.slot < 16 = subst (λ n. n < 16) (sym slots) pl.slot in
      (low, body_sized x.kind core.range x.body f.0.body rd.body)

  -- what stands at a place of a directory that is met, by the page's bytes alone
  pub same_place : (m x : Met) (f : FileRead) (p s : ℕ) (bytes : List ℕ) (e : EntryPart) → In m (survey core pick) → file_of core m ≡ Ok f → In p f.chain.blocks → page_of core p ≡ Some bytes → slot_of core.inodes (slot_bytes s bytes) ≡ Entry e → In x (all_listed core pick) → x.page ≡ p → x.slot ≡ s → x.body ≡ pick m.ino p s e.ino (body_in_slot s bytes)
  same_place m x f p s bytes e i read block there says listed on at =
      let parts = sound_parts core pick sound in
      let r = flat_map-In (children core pick) x (survey core pick) listed in
      let m' : Met = r.0 in
      let k = child_from core pick m' x r.2 in
      let pl = child_placed core pick m' x k in
      let l : Listed = k.entry in
      let lp : l.page ≡ p = sym (ap (λ (w : Met). w.page) k.is) ∙ on in
      let ls : l.slot ≡ s = sym (ap (λ (w : Met). w.slot) k.is) ∙ at in
      let mine : In p (pages_of core m) = subst (λ w. In p w) (sym (pages_are core m f read)) (In-right p f.chain.index f.chain.blocks block) in
      let block' : In p k.file.chain.blocks = subst (λ n. In n k.file.chain.blocks) lp pl.block in
      let theirs : In p (pages_of core m') = subst (λ w. In p w) (sym (pages_are core m' k.file k.read)) (In-right p k.file.chain.index k.file.chain.blocks block') in
      let same : m' ≡ m = page_owner core (survey core pick) m' m p parts.paged r.1 i theirs mine in
      let ino : m'.ino ≡ m.ino = ap (λ (w : Met). w.ino) same in
      let opt : Some pl.bytes ≡ Some bytes = sym pl.page ∙ ap (page_of core) lp ∙ there in
      let be : pl.bytes ≡ bytes = cc opt in
      let part : slot_bytes l.slot pl.bytes ≡ slot_bytes s bytes = ap (slot_bytes l.slot) be ∙ ap (λ n. slot_bytes n bytes) ls in
      let ent : Entry l.entry ≡ Entry e = sym pl.says ∙ ap (slot_of core.inodes) part ∙ says in
      let ee : l.entry ≡ e = cc ent in
      let num : l.entry.ino ≡ e.ino = ap (λ (w : EntryPart). w.ino) ee in
      let lb : l.body ≡ body_in_slot s bytes = pl.body ∙ ap (body_in_slot l.slot) be ∙ ap (λ n. body_in_slot n bytes) ls in
      ap (λ (w : Met). w.body) k.is
      ∙ ap (λ n. pick n l.page l.slot l.entry.ino l.body) ino
      ∙ ap (λ n. pick m.ino n l.slot l.entry.ino l.body) lp
      ∙ ap (λ n. pick m.ino p n l.entry.ino l.body) ls
      ∙ ap (λ n. pick m.ino p s n l.body) num
      ∙ ap (pick m.ino p s e.ino) lb

  slot_put : (m : Met) (f : FileRead) (p s : ℕ) (bytes : List ℕ) → In m (survey core pick) → file_of core m ≡ Ok f → gathered (page_entries core) f.chain.blocks ≡ Ok f.entries → In p f.chain.blocks → page_of core p ≡ Some bytes → s < 16 → slot_entries core.inodes p (put_on p (all_listed core pick) bytes) s ≡ result_map (map (picked pick m.ino)) (slot_entries core.inodes p bytes s)
  slot_put m f p s bytes i read gathers block there low =
      let T : List Met = all_listed core pick in
      let full = fit.full p bytes there in
      let now : List ℕ = put_on p T bytes in
      let body : List ℕ = body_in_slot s bytes in
      let says : slot_of core.inodes (slot_bytes s now) ≡ slot_of core.inodes (slot_bytes s bytes) =
      slot_by_front core.inodes (slot_bytes s now) (slot_bytes s bytes) (put_on-front p s T bytes listed_placed full) in
      ap (listed_at p s (body_in_slot s now)) says
      ∙ listed_picked pick m.ino p s (body_in_slot s now) body (slot_of core.inodes (slot_bytes s bytes))
      (λ e is_e.
      let l : Listed = at_place e p s body in
      let has = slot_has core f.chain.blocks f.entries p s bytes e gathers block there low is_e in
      let c : Met = met_in pick m.ino l in
      let met : In c T = In-flat (children core pick) m c (survey core pick) i (child_has core pick m f l read has) in
      put_on-body p s T bytes (pick m.ino p s e.ino body) listed_placed full
      (λ x j on at. same_place m x f p s bytes e i read block there is_e j on at)
      (inr (c, met, refl, refl)))

  page_entries_put : (m : Met) (f : FileRead) (p : ℕ) → In m (survey core pick) → file_of core m ≡ Ok f → gathered (page_entries core) f.chain.blocks ≡ Ok f.entries → In p f.chain.blocks → page_entries (put core pick) p ≡ result_map (map (picked pick m.ino)) (page_entries core p)
  unfolding entries_on
  page_entries_put m f p i read gathers block =
      ap (λ o. result_then (entries_on core.inodes p) (there_or (at_page p) o)) (page_put_is p) ∙ by_page (page_of core p) refl
    where
      by_page : (o : Option (List ℕ)) → page_of core p ≡ o → result_then (entries_on core.inodes p) (there_or (at_page p) (option_map (put_on p (all_listed core pick)) o)) ≡ result_map (map (picked pick m.ino)) (result_then (entries_on core.inodes p) (there_or (at_page p) o))
      by_page None e = refl
      by_page (Some bytes) e =
          below_map (slot_entries core.inodes p bytes) (slot_entries core.inodes p (put_on p (all_listed core pick) bytes)) (picked pick m.ino) 16
          (λ s low. slot_put m f p s bytes i read gathers block e low)

  entries_put : (m : Met) (f : FileRead) → In m (survey core pick) → file_of core m ≡ Ok f → (kind : Kind) → entries_of_kind core kind f.chain.blocks ≡ Ok f.entries → entries_of_kind (put core pick) kind f.chain.blocks ≡ Ok (map (picked pick m.ino) f.entries)
  entries_put m f i read Regular e =
      let n : [] ≡ f.entries = cc e in ap (λ es. Ok (map (picked pick m.ino) es)) n
  entries_put m f i read Link e =
      let n : [] ≡ f.entries = cc e in ap (λ es. Ok (map (picked pick m.ino) es)) n
  entries_put m f i read Directory e =
      let g = gathers_directory core f.chain.blocks f.entries e in
      let k : Listed → Listed = picked pick m.ino in
      let now : gathered (page_entries (put core pick)) f.chain.blocks ≡ Ok (map k f.entries) =
      gathered_map (page_entries core) (page_entries (put core pick)) k f.chain.blocks (λ p b. page_entries_put m f p i read g.0 b) ∙ ap (result_map (map k)) g.0 in
      ap (result_then with_names_apart) now
      ∙ ap (unless_repeated (map k f.entries)) (names_picked pick m.ino f.entries ∙ g.1)

  -- an index page has no place
  index_put : (m : Met) (f : FileRead) (p : ℕ) → In m (survey core pick) → file_of core m ≡ Ok f → In p f.chain.index → page_of (put core pick) p ≡ page_of core p
  index_put m f p i read index =
      let parts = sound_parts core pick sound in
      page_put_is p ∙ stays (page_of core p)
      (λ x j on.
      let r = flat_map-In (children core pick) x (survey core pick) j in
      let k = child_from core pick r.0 x r.2 in
      let pl = child_placed core pick r.0 x k in
      let lp : k.entry.page ≡ p = sym (ap (λ (w : Met). w.page) k.is) ∙ on in
      let block : In p k.file.chain.blocks = subst (λ n. In n k.file.chain.blocks) lp pl.block in
      index_apart core (survey core pick) m r.0 f k.file p parts.paged i r.1 read k.read index block)
    where
      stays : (o : Option (List ℕ)) → ((x : Met) → In x (all_listed core pick) → x.page ≡ p → ⊥) → option_map (put_on p (all_listed core pick)) o ≡ o
      stays None h = refl
      stays (Some b) h = ap Some (put_on-none p (all_listed core pick) b h)

  -- a file that is met reads the same, with the picked bodies in its slots
  pub file_put : (m : Met) (f : FileRead) → In m (survey core pick) → file_of core m ≡ Ok f → file_of (put core pick) m ≡ Ok (record { body = f.body; chain = f.chain; entries = map (picked pick m.ino) f.entries })
  file_put m f i read =
      let r = reads_from core m f read in
      reads_to (put core pick) m (record { body = f.body; chain = f.chain; entries = map (picked pick m.ino) f.entries }) (record {
        body = r.body;
        chain = chain_local core (with_bodies (survey core pick) core.pages) (index_count (block_count f.body.size)) (block_count f.body.size) f.body.head f.chain r.chain (λ p k. index_put m f p i read k);
        entries = entries_put m f i read m.kind r.entries;
      })

  pub children_put : (m : Met) → In m (survey core pick) → children (put core pick) plain m ≡ children core pick m
  children_put m i =
      let p = sound_parts core pick sound in
      let f = read_at core (survey core pick) m p.grammar i in
      ap (children_in plain m.ino) (file_put m f.0 i f.1) ∙ met_picked pick m.ino f.0.entries ∙ ap (children_in pick m.ino) (sym f.1)

  pub pages_put : (m : Met) → In m (survey core pick) → pages_of (put core pick) m ≡ pages_of core m
  pages_put m i =
      let p = sound_parts core pick sound in
      let f = read_at core (survey core pick) m p.grammar i in
      ap pages_in (file_put m f.0 i f.1) ∙ ap pages_in (sym f.1)

  -- the plain survey with the bodies in place is the survey with the pick
  pub survey_put : survey (put core pick) plain ≡ survey core pick
  survey_put = survey_follows core (with_bodies (survey core pick) core.pages) pick plain children_put

  grammar_put : are_in_grammar (put core pick) (survey core pick) ≡ true
  grammar_put =
      let p = sound_parts core pick sound in
      list_all-each (λ m. is_ok (file_of (put core pick) m)) (survey core pick)
      (λ m i. let f = read_at core (survey core pick) m p.grammar i in ap is_ok (file_put m f.0 i f.1))

  -- and it is sound
  pub sound_put : is_sound (put core pick) plain ≡ true
  sound_put =
      let p = sound_parts core pick sound in
      let files : List Met = survey core pick in
      let listed : listed_numbers (put core pick) plain files ≡ listed_numbers core pick files =
      flat_map-same (λ m. numbers (children (put core pick) plain m)) (λ m. numbers (children core pick m)) files (λ m i. ap numbers (children_put m i)) in
      let paged : listed_pages (put core pick) files ≡ listed_pages core files = flat_map-same (pages_of (put core pick)) (pages_of core) files pages_put in
      sound_from (put core pick) plain (record {
        grammar = ap (are_in_grammar (put core pick)) survey_put ∙ grammar_put;
        numbered = ap (λ fs. are_new (1 ∷ []) (listed_numbers (put core pick) plain fs)) survey_put ∙ ap (are_new (1 ∷ [])) listed ∙ p.numbered;
        paged = ap (λ fs. are_new [] (listed_pages (put core pick) fs)) survey_put ∙ ap (are_new []) paged ∙ p.paged;
      })
