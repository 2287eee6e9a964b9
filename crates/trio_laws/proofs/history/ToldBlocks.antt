-- The blocks that a release tells of a file, by the images before and after and by the bundle.
use Rattle.trio_laws.proofs.Words.{◌&&◌, ◌++◌, ◌+◌, ◌<◌, ◌||◌, ◌∙◌, ◌∷◌, ◌≡◌, ◌≤◌, Bool, Bundle, Case, Core, FileRead, GivenTo, Handed, HandedFile, HandedPage, Image, In, In-cases, In-flat, In-left, In-map, In-right, IsJudgeable, Kept, List, Met, None, Notes, Ok, Option, RawFile, Row, Sheet, Some, State, ToldBlock, Written, [], and_parts, ap, are_new, are_new-append, are_new-fewer, arith, block_numbers, bundle_core, bundle_handed, bundle_pages, bundle_sheets, case_in, chain_blocks, changed_blocks, cond, eqb, eqb-true, false, false_from_ne_true, file_of, flat_map-In, free_unlisted, index_apart, inl, inr, is_block_changed, is_block_told, is_core, is_some, is_touched, leb, length, length-replicate, lent_blocks, list_any, list_any-In, listed_is_core, ltb, map, map-In, min, noted_size, one_keyed, one_met, page_from, page_of, page_owner, pages_are, pages_new, pages_of, place_there, plain, refl, replicate, row_at, settled, sheet_handed, sheet_numbers, size_of, slice_get, slice_index, sound_parts, subst, suc, survey, sym, told_blocks, true, unwrap_or, with_pages, with_pages_known, written_handed, ℕ}
use Rattle.std.proofs.Common.{ltb-true, flat_map}
use Rattle.trio_state.specs.Listed.{block_told}
use Rattle.trio_laws.proofs.Bundles.{Unwritten, in_numbers, unwritten_apart}
use Rattle.trio_laws.proofs.Checkpoints.{one_sheet}
use Rattle.trio_laws.proofs.StateFacts.{tables}
use Rattle.trio_laws.proofs.history.Listing.{chain_met, met_at}

-- ---- block by block

step : (t u : Bool) (x y : ToldBlock) (xs ys : List ToldBlock) → t ≡ u → x ≡ y → xs ≡ ys → cond t (x ∷ xs) xs ≡ cond u (y ∷ ys) ys
step t u x y xs ys e f g = ap (λ q. cond q (x ∷ xs) xs) e ∙ ap (λ z. cond u (z ∷ xs) xs) f ∙ ap (λ l. cond u (y ∷ l) l) g

-- the same are told where each is told alike, and with the same bytes
pub same_blocks : (before after : Image) (c : Case) (notes : Notes) (h : Handed) (f : RawFile) (at : ℕ) (pages : List ℕ)
    → ((i page : ℕ) → slice_get pages i ≡ Some page → (is_block_told before after h f.ino (at + i) page ≡ is_block_changed c notes h f (at + i) page) × (page_of after.core page ≡ page_of (bundle_core c) page))
    → told_blocks before after h f.ino at pages ≡ changed_blocks c notes h f at pages
same_blocks before after c notes h f at [] alike = refl
same_blocks before after c notes h f at (p ∷ ps) alike =
    let here : at + 0 ≡ at = omega arith in
    let a = alike 0 p refl in
    step (is_block_told before after h f.ino at p) (is_block_changed c notes h f at p)
    (record { ino = f.ino; at = at; bytes = unwrap_or (page_of after.core p) [] }) (block_told c f.ino at p)
    (told_blocks before after h f.ino (at + 1) ps) (changed_blocks c notes h f (at + 1) ps)
    (ap (λ m. is_block_told before after h f.ino m p) (sym here) ∙ a.0 ∙ ap (λ m. is_block_changed c notes h f m p) here)
    (ap (λ o. record { ino = f.ino; at = at; bytes = unwrap_or o [] }) a.1)
    (same_blocks before after c notes h f (at + 1) ps
    (λ i page get.
    let there : (at + 1) + i ≡ at + suc i = omega arith in
    let r = alike (suc i) page get in
    (ap (λ m. is_block_told before after h f.ino m page) there ∙ r.0 ∙ ap (λ m. is_block_changed c notes h f m page) (sym there), r.1)))

-- a block is told alike where the blocks and sizes are those that the bundle and the notes say
pub told_alike : (before after : Image) (c : Case) (notes : Notes) (h : Handed) (f : RawFile) (at page : ℕ)
    → block_numbers before f.ino (row_at before f.ino) ≡ lent_blocks c.bundle f.ino
    → size_of before f.ino ≡ noted_size notes f.ino → size_of after f.ino ≡ f.size
    → is_block_told before after h f.ino at page ≡ is_block_changed c notes h f at page
told_alike before after c notes h f at page blocks was is = search (arith, min)

-- where no page stood there, a block is told
always : (t u : Bool) → (t || true || u) ≡ true
always true u = refl
always false u = refl

pub told_new : (before after : Image) (c : Case) (notes : Notes) (h : Handed) (f : RawFile) (at page : ℕ)
    → block_numbers before f.ino (row_at before f.ino) ≡ [] → lent_blocks c.bundle f.ino ≡ []
    → is_block_told before after h f.ino at page ≡ is_block_changed c notes h f at page
told_new before after c notes h f at page was lent = search (arith, min, always)

-- no block of a file that isn't written was handed in
pub clean_block : (s : State) (k : Kept s) (lib : ℕ) (h : Handed) → GivenTo s lib (bundle_handed h) → (n : ℕ) (r : Row) (row : row_at (settled s) n ≡ Some r) → Unwritten (bundle_handed h) n → (p : ℕ) → In p (met_at (settled s) k.fit k.verifies n r row).file.chain.blocks → is_touched h p ≡ false
clean_block s k lib h given n r row un p i =
    let m = met_at (settled s) k.fit k.verifies n r row in
    false_from_ne_true (is_touched h p)
    (λ t.
    let w = list_any-In (λ (f : HandedFile). list_any (λ (c : HandedPage). eqb c.no p && c.touched) f.blocks) h.writes t in
    let c = list_any-In (λ (c : HandedPage). eqb c.no p && c.touched) w.0.blocks w.2 in
    let at : c.0.no ≡ p = eqb-true c.0.no p (and_parts (eqb c.0.no p) c.0.touched c.2).0 in
    let handed : In (sheet_handed c.0) (bundle_sheets (bundle_handed h)) =
    In-left (sheet_handed c.0) (flat_map (λ (w : Written). w.index ++ w.blocks) (bundle_handed h).writes) (bundle_handed h).pages
    (In-flat (λ (w : Written). w.index ++ w.blocks) (written_handed w.0) (sheet_handed c.0) (bundle_handed h).writes (In-map written_handed w.0 h.writes w.1)
    (In-right (sheet_handed c.0) (map sheet_handed w.0.index) (map sheet_handed w.0.blocks) (In-map sheet_handed c.0 w.0.blocks c.1))) in
    let page : In p (bundle_pages (bundle_handed h)) = in_numbers (bundle_sheets (bundle_handed h)) (sheet_handed c.0) p handed (sym at) in
    unwritten_apart s k lib (bundle_handed h) given m.met p m.stands (λ v j same. un v j (same ∙ m.number)) (subst (λ l. In p l) (sym (pages_are (settled s).core m.met m.file m.read)) (In-right p m.file.chain.index m.file.chain.blocks i)) page)

module _ (s : State) (lib : ℕ) (h : Handed) (j : IsJudgeable s lib (bundle_handed h)) where
  abbrev b : Bundle
  b = bundle_handed h

  abbrev I : Image
  I = settled s

  abbrev C : Core
  C = (settled s).core

  abbrev cb : Core
  cb = bundle_core (case_in s lib (bundle_handed h))

  -- the blocks that a file had
  pub numbers_were : (n : ℕ) (r : Row) (row : row_at (settled s) n ≡ Some r) → block_numbers (settled s) n (row_at (settled s) n) ≡ (met_at (settled s) j.kept.fit j.kept.verifies n r row).file.chain.blocks
  numbers_were n r row = ap (block_numbers I n) row ∙ ap chain_blocks (chain_met I j.kept.fit j.kept.verifies n r row)

  -- those of a written file are those that it was lent with
  pub blocks_lent : (w : Written) → In w (bundle_handed h).writes → (r : Row) (row : row_at (settled s) w.ino ≡ Some r) → sheet_numbers w.blocks ≡ (met_at (settled s) j.kept.fit j.kept.verifies w.ino r row).file.chain.blocks
  blocks_lent w i r row =
      let g = j.given.writes w i in
      let l = j.kept.lent g.grant g.is_open g.kind in
      let m = met_at I j.kept.fit j.kept.verifies w.ino r row in
      let same : l.met ≡ m.met = one_met C plain j.kept.fit j.kept.verifies.sound l.met m.met l.stands m.stands (l.number ∙ g.ino ∙ sym m.number) in
      let read : Ok l.file ≡ Ok m.file = sym l.read ∙ ap (file_of C) same ∙ m.read in
      let file : l.file ≡ m.file = cc read in
      g.blocks ∙ l.blocks ∙ ap (λ (f : FileRead). f.chain.blocks) file

  -- ---- the page of a lent block is handed in once

  blocks_new : (m : Met) (f : FileRead) → In m (survey C plain) → file_of C m ≡ Ok f → are_new [] f.chain.blocks ≡ true
  blocks_new m f i read =
      let all : are_new [] (f.chain.index ++ f.chain.blocks) ≡ true = ap (are_new []) (sym (pages_are C m f read)) ∙ pages_new C (survey C plain) m (sound_parts C plain j.kept.verifies.sound).paged i in
      are_new-fewer [] f.chain.index f.chain.blocks (λ n k. absurd k) (and_parts (are_new [] f.chain.index) (are_new f.chain.index f.chain.blocks) (sym (are_new-append [] f.chain.index f.chain.blocks) ∙ all)).1

  one_handed : (w : Written) → In w b.writes → (x : Sheet) → In x w.blocks → (y : Sheet) → In y (bundle_sheets b) → y.page ≡ x.page → y.bytes ≡ x.bytes
  one_handed w i x a y k at =
      let g = j.given.writes w i in
      let l = j.kept.lent g.grant g.is_open g.kind in
      let paged = (sound_parts C plain j.kept.verifies.sound).paged in
      let chain : sheet_numbers w.blocks ≡ l.file.chain.blocks = g.blocks ∙ l.blocks in
      let mine : In x.page l.file.chain.blocks = subst (λ ps. In x.page ps) chain (in_numbers w.blocks x x.page a refl) in
      let listed : In x.page (pages_of C l.met) = subst (λ ps. In x.page ps) (sym (pages_are C l.met l.file l.read)) (In-right x.page l.file.chain.index l.file.chain.blocks mine) in
      elim (In-cases y (flat_map (λ (w : Written). w.index ++ w.blocks) b.writes) b.pages k) [
        | inr fresh ↦
            let o = j.given.pages y.page (in_numbers b.pages y y.page fresh refl) in
            let z : slice_index s.home.owners x.page ≡ 0 = ap (slice_index s.home.owners) (sym at) ∙ j.kept.out_free y.page (ap is_some o) in
            absurd (free_unlisted C plain j.kept.fit j.kept.verifies.sound (settled s) (tables s j.kept) x.page z l.met l.stands listed)
        | inl own ↦
            let v = flat_map-In (λ (w : Written). w.index ++ w.blocks) y b.writes own in
            let g' = j.given.writes v.0 v.1 in
            let l' = j.kept.lent g'.grant g'.is_open g'.kind in
            elim (In-cases y v.0.index v.0.blocks v.2) [
              | inl index ↦
                  let number : In x.page l'.file.chain.index = subst (λ q. In q l'.file.chain.index) at (subst (λ ps. In y.page ps) (g'.index ∙ l'.index) (in_numbers v.0.index y y.page index refl)) in
                  absurd (index_apart C (survey C plain) l'.met l.met l'.file l.file x.page paged l'.stands l.stands l'.read l.read number mine)
              | inr block ↦
                  let number : In x.page l'.file.chain.blocks = subst (λ q. In q l'.file.chain.blocks) at (subst (λ ps. In y.page ps) (g'.blocks ∙ l'.blocks) (in_numbers v.0.blocks y y.page block refl)) in
                  let theirs : In x.page (pages_of C l'.met) = subst (λ ps. In x.page ps) (sym (pages_are C l'.met l'.file l'.read)) (In-right x.page l'.file.chain.index l'.file.chain.blocks number) in
                  let same : l'.met ≡ l.met = page_owner C (survey C plain) l'.met l.met x.page paged l'.stands l.stands theirs listed in
                  let ino : v.0.ino ≡ w.ino = sym (l'.number ∙ g'.ino) ∙ ap (λ (m : Met). m.ino) same ∙ l.number ∙ g.ino in
                  let one : v.0 ≡ w = one_keyed (λ (z : Written). z.ino) b.writes v.0 w j.given.writes_once v.1 i ino in
                  let there : In y w.blocks = subst (λ (z : Written). In y z.blocks) one block in
                  let new : are_new [] (sheet_numbers w.blocks) ≡ true = ap (are_new []) chain ∙ blocks_new l.met l.file l.stands l.read in
                  ap (λ (z : Sheet). z.bytes) (one_sheet [] w.blocks y x new there a at)
            ]
      ]

  -- so it has the same bytes wherever it is put in place among pages of the bundle
  pub block_alike : (w : Written) → In w (bundle_handed h).writes → (core : Core) (ss : List Sheet) (pages : List (Option (List ℕ))) → core.range ≡ (settled s).core.range → core.pages ≡ with_pages ss pages → (settled s).core.range.end ≤ length pages → ((y : Sheet) → In y ss → In y (bundle_sheets (bundle_handed h))) → (p : ℕ) → In p (sheet_numbers w.blocks) → In p (sheet_numbers ss) → page_of core p ≡ page_of (bundle_core (case_in s lib (bundle_handed h))) p
  block_alike w i core ss pages range placed long sub p mine there =
      let x = map-In (λ (z : Sheet). z.page) p w.blocks mine in
      let at : x.0.page ≡ p = sym x.2 in
      let g = j.given.writes w i in
      let l = j.kept.lent g.grant g.is_open g.kind in
      let block : In p l.file.chain.blocks = subst (λ ps. In p ps) (g.blocks ∙ l.blocks) mine in
      let listed : In p (pages_of C l.met) = subst (λ ps. In p ps) (sym (pages_are C l.met l.file l.read)) (In-right p l.file.chain.index l.file.chain.blocks block) in
      let c : is_core C.range p ≡ true = listed_is_core C l.met l.file p l.read listed in
      let low : p < C.range.end = ltb-true p C.range.end (and_parts (leb C.range.first p) (ltb p C.range.end) c).1 in
      let nothing : Option (List ℕ) = None in
      let blanks : List (Option (List ℕ)) = replicate C.range.end None in
      let here = place_there pages p (omega (arith, low, long)) in
      let alone = place_there blanks p (omega (arith, low, length-replicate C.range.end nothing)) in
      let handed : In p (bundle_pages b) = in_numbers (bundle_sheets b) x.0 p (In-left x.0 (flat_map (λ (w : Written). w.index ++ w.blocks) b.writes) b.pages (In-flat (λ (w : Written). w.index ++ w.blocks) w x.0 b.writes i (In-right x.0 w.index w.blocks x.1))) (sym at) in
      let now : slice_get core.pages p ≡ Some (Some x.0.bytes) = ap (λ l. slice_get l p) placed ∙ with_pages_known ss pages p x.0.bytes here.0 there (λ y k on. one_handed w i x.0 x.1 y (sub y k) (on ∙ sym at)) here.1 in
      let then : slice_get cb.pages p ≡ Some (Some x.0.bytes) = with_pages_known (bundle_sheets b) blanks p x.0.bytes alone.0 handed (λ y k on. one_handed w i x.0 x.1 y k (on ∙ sym at)) alone.1 in
      page_from core p x.0.bytes (ap (λ q. is_core q p) range ∙ c) now ∙ sym (page_from cb p x.0.bytes c then)
