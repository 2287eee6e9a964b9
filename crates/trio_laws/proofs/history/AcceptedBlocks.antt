-- The blocks that an accepted release tells, by the images before and after, are those that the bundle, its listing and the notes tell.
use Rattle.trio_laws.proofs.Words.{Bool, Bundle, Case, Core, FileRead, Handed, Image, In, In-find, In-right, IsJudgeable, List, ListedFile, Listing, Met, None, Notes, Ok, Option, Pick, Raw, RawFile, Row, Some, State, Written, [], accepted_files, ap, arith, block_numbers, blocks_of_kind, bundle_core, bundle_handed, case_of, chain_blocks, changed_blocks, cond, creds_of, eq-eqb, eqb, eqb-true, false, file_of, find-In, flat_map-same, inl, inr, is_accepted, is_block_changed, is_block_told, is_directory, is_told, is_written, judged_files, lent_blocks, listed_is_core, listing, map, next, not, notes_of, option_map_or, page_of, pages_are, pages_of, picked_entry, proposed, proposed_pick, raw_blocks, raw_entry, raw_file, raw_files, refl, row_at, row_by, settled, settled_chain, sheet_numbers, size_of, slice_get, subst, sym, there_same, told_blocks, told_blocks_of, told_by, told_file, true, ℕ, ◌++◌, ◌+◌, ◌∙◌, ◌≡◌, ◌⊎◌}
use Rattle.std.proofs.Common.{find}
use Rattle.trio_nodes.specs.declared.answers.ReleaseAnswer.TheVariants.{Accepted}
use Rattle.trio_state.specs.Listed.{accepted_blocks, blocks_listed_of}
use Rattle.trio_laws.specs.history.ToldLaws.{AcceptedIsListed}
use Rattle.trio_laws.proofs.Bundles.{Unwritten, unwritten_finds}
use Rattle.trio_laws.proofs.judgement.CaseFacts.{is_written_from, live_bounds, new_dead, new_not_live, written_find, written_row}
use Rattle.trio_laws.proofs.judgement.JudgedFacts.{judged_from, new_from, written_ino}
use Rattle.trio_laws.proofs.judgement.MeetingEdges.{met_side, same_file}
use Rattle.trio_laws.proofs.judgement.TablesAfter.{file_from, file_to}
use Rattle.trio_laws.proofs.judgement.Taking.{judged_met, reads}
use Rattle.trio_laws.proofs.Isolated.{plain_block}
use Rattle.trio_laws.proofs.history.AcceptedFiles.{kept_follows, plain_page}
use Rattle.trio_laws.proofs.history.AcceptedNames.{at_now, fit_after, row_now, verifies_after}
use Rattle.trio_laws.proofs.history.AcceptedTold.{files_same}
use Rattle.trio_laws.proofs.history.Follows.{chain_read, size_follows}
use Rattle.trio_laws.proofs.history.RawParts.{get_in, raw_number, same_told, told_none}
use Rattle.trio_laws.proofs.history.RefusedTold.{when_passed}
use Rattle.trio_laws.proofs.history.RisingKeys.{counted_in}
use Rattle.trio_laws.proofs.history.ToldBlocks.{blocks_lent, clean_block, numbers_were, same_blocks, told_alike, told_new}
use Rattle.trio_laws.proofs.history.ToldNoted.{noted_size_is}

module _ (s : State) (lib : ℕ) (h : Handed) (j : IsJudgeable s lib (bundle_handed h)) (acc : is_accepted (settled s) (creds_of s lib) (bundle_handed h) ≡ true) where
  abbrev b : Bundle
  b = bundle_handed h

  abbrev I : Image
  I = settled s

  abbrev J : Image
  J = next (settled s) (bundle_handed h)

  abbrev P : Core
  P = proposed (settled s) (bundle_handed h)

  abbrev pick : Pick
  pick = proposed_pick (settled s) (bundle_handed h)

  abbrev cs : Case
  cs = case_of (settled s) (creds_of s lib) (bundle_handed h)

  abbrev l : Listing
  l = listing (case_of (settled s) (creds_of s lib) (bundle_handed h))

  abbrev notes : Notes
  notes = notes_of (settled s)

  -- ---- what a file is that is told

  told_parts : (f : RawFile) (o o' : Option Row) → told_by I J b f.ino o o' ≡ Some f → ((r : Row) × (o' ≡ Some r) × (told_file J b f.ino false r ≡ f)) ⊎ ((o' ≡ None) × (f.gone ≡ true))
  told_parts f o o' e = search arith

  -- ---- the blocks of a file as it is met

  numbers_now : (n : ℕ) (r : Row) (row : row_at J n ≡ Some r) → block_numbers J n (row_at J n) ≡ (at_now s lib b j acc n r row).file.chain.blocks
  numbers_now n r row =
      let w = at_now s lib b j acc n r row in
      let chain : settled_chain J r.kind n ≡ Ok w.file.chain =
      ap (settled_chain J r.kind) (sym w.number)
      ∙ chain_read J (fit_after s lib b j acc) (verifies_after s lib b j acc) w.met (record w.file { entries = map (picked_entry pick w.met.ino) w.file.entries }) w.stands' w.read' r (ap (row_at J) w.number ∙ row) in
      ap (block_numbers J n) row ∙ ap chain_blocks chain

  -- ---- a judged file

  -- it is the file that is met, with the blocks that are listed
  judged_now : (n : ℕ) (r : Row) (row : row_at J n ≡ Some r) (m : Met) → In m (judged_files cs) → m.ino ≡ n → (at_now s lib b j acc n r row).met ≡ m
  judged_now n r row m i is = (let w = at_now s lib b j acc n r row in same_file s lib b j acc w.met m w.stands (judged_met s lib b j acc m i) (w.number ∙ sym is))

  file_now : (n : ℕ) (r : Row) (row : row_at J n ≡ Some r) (m : Met) (i : In m (judged_files cs)) → m.ino ≡ n → (at_now s lib b j acc n r row).file ≡ (reads s lib b j acc m i).file
  file_now n r row m i is =
      let w = at_now s lib b j acc n r row in
      let read : Ok w.file ≡ Ok (reads s lib b j acc m i).file = sym w.read ∙ ap (file_of P) (judged_now n r row m i is) ∙ (reads s lib b j acc m i).whole in
      cc read

  page_alike : (n : ℕ) (r : Row) (row : row_at J n ≡ Some r) (m : Met) (i : In m (judged_files cs)) → m.ino ≡ n → is_directory r.kind ≡ false → (p : ℕ) → In p (at_now s lib b j acc n r row).file.chain.blocks → page_of J.core p ≡ page_of (bundle_core cs) p
  page_alike n r row m i is plain' p k =
      let w = at_now s lib b j acc n r row in
      let kind : is_directory w.met.kind ≡ false = sym (ap (λ (x : Row). is_directory x.kind) w.row) ∙ plain' in
      let all : In p (w.file.chain.index ++ w.file.chain.blocks) = In-right p w.file.chain.index w.file.chain.blocks k in
      let listed : In p (pages_of P w.met) = subst (λ ps. In p ps) (sym (pages_are P w.met w.file w.read)) all in
      let own = (reads s lib b j acc m i).own p (subst (λ (f : FileRead). In p (f.chain.index ++ f.chain.blocks)) (file_now n r row m i is) all) in
      plain_page s j.kept lib (creds_of s lib) b j.given acc w.met w.file p w.stands w.read (plain_block w.met.kind w.file p kind k)
      ∙ there_same I (creds_of s lib) b j.kept.fit.long p (listed_is_core P w.met w.file p w.read listed) own

  -- each of its blocks is told alike
  written_alike : (f : RawFile) (w : Written) → In w b.writes → w.ino ≡ f.ino → size_of J f.ino ≡ f.size → (at page : ℕ) → is_block_told I J h f.ino at page ≡ is_block_changed cs notes h f at page
  written_alike f w i is size at page =
      let n : ℕ = f.ino in
      let q = written_row s lib b j w i in
      let row : row_at I n ≡ Some q.0 = ap (row_at I) (sym is) ∙ q.1 in
      let low = (live_bounds s lib b j n q.0 row).1 in
      let v = written_find s lib b j n (ap (is_written b) (sym is) ∙ is_written_from s lib b j w i) in
      let lent : lent_blocks b n ≡ sheet_numbers v.0.blocks = ap (λ o. option_map_or (λ (x : Written). sheet_numbers x.blocks) o []) v.3 in
      let row' : row_at I v.0.ino ≡ Some q.0 = ap (row_at I) v.2 ∙ row in
      let were : sheet_numbers v.0.blocks ≡ block_numbers I n (row_at I n) = blocks_lent s lib h j v.0 v.1 q.0 row' ∙ sym (numbers_were s lib h j v.0.ino q.0 row') ∙ ap (λ m. block_numbers I m (row_at I m)) v.2 in
      told_alike I J cs notes h f at page (sym (lent ∙ were)) (sym (noted_size_is I n q.0 low row)) size

  new_alike : (f : RawFile) → In f.ino b.numbers → (at page : ℕ) → is_block_told I J h f.ino at page ≡ is_block_changed cs notes h f at page
  new_alike f i at page =
      let n : ℕ = f.ino in
      let dead : row_at I n ≡ None = new_dead s lib b j n i in
      let unwritten : Unwritten b n = λ w k is. (let q = written_row s lib b j w k in new_not_live s lib b j n q.0 i (ap (row_at I) (sym is) ∙ q.1)) in
      told_new I J cs notes h f at page (ap (block_numbers I n) dead) (ap (λ o. option_map_or (λ (x : Written). sheet_numbers x.blocks) o []) (unwritten_finds b n unwritten))

  judged_alike : (f : RawFile) (m : Met) → In m (judged_files cs) → m.ino ≡ f.ino → size_of J f.ino ≡ f.size → (at page : ℕ) → is_block_told I J h f.ino at page ≡ is_block_changed cs notes h f at page
  judged_alike f m i is size at page =
      elim (judged_from s lib b j m i) [
        | inl w ↦ written_alike f w.0 w.1 (sym (written_ino cs w.0) ∙ ap (λ (x : Met). x.ino) (sym w.2) ∙ is) size at page
        | inr x ↦ new_alike f (subst (λ n. In n b.numbers) is (new_from s lib b j x.0 m x.2).1) at page
      ]

  judged_blocks : (f : RawFile) (r : Row) (row : row_at J f.ino ≡ Some r) (m : Met) (i : In m (judged_files cs)) → m.ino ≡ f.ino → is_directory r.kind ≡ false → size_of J f.ino ≡ f.size → told_blocks I J h f.ino 0 (block_numbers J f.ino (row_at J f.ino)) ≡ changed_blocks cs notes h f 0 (reads s lib b j acc m i).file.chain.blocks
  judged_blocks f r row m i is plain' size =
      let n : ℕ = f.ino in
      let file = file_now n r row m i is in
      let pages : List ℕ = (reads s lib b j acc m i).file.chain.blocks in
      let chain : (at_now s lib b j acc n r row).file.chain.blocks ≡ pages = ap (λ (x : FileRead). x.chain.blocks) file in
      ap (told_blocks I J h n 0) (numbers_now n r row ∙ chain)
      ∙ same_blocks I J cs notes h f 0 pages
      (λ at page get. (
        judged_alike f m i is size (0 + at) page,
        page_alike n r row m i is plain' page (subst (λ ps. In page ps) (sym chain) (get_in pages at page get)),
      ))

  -- ---- any other file

  -- nothing of it is told
  kept_blocks : (n : ℕ) (r : Row) → row_at J n ≡ Some r → ((m : Met) → In m (judged_files cs) → m.ino ≡ n → ⊥) → told_blocks I J h n 0 (block_numbers J n (row_at J n)) ≡ []
  kept_blocks n r row none =
      let w = at_now s lib b j acc n r row in
      elim (met_side s lib b j acc w.met w.stands) [
        | inl k ↦ absurd (none w.met k w.number)
        | inr o ↦
            let q : Row = o.row in
            let was : row_at I n ≡ Some q = ap (row_at I) (sym w.number) ∙ o.is_row in
            let f = kept_follows s j.kept lib (creds_of s lib) b j.given acc n q r was row (q, o.is_row, o.kind, o.body, o.unwritten) in
            let un : Unwritten b n = λ v i is. o.unwritten v i (is ∙ sym w.number) in
            let size : size_of J n ≡ size_of I n = size_follows I J j.kept.fit (fit_after s lib b j acc) j.kept.verifies (verifies_after s lib b j acc) n q r was row f in
            let chain_was : settled_chain I q.kind n ≡ Ok f.file.chain = ap (settled_chain I q.kind) (sym f.number) ∙ chain_read I j.kept.fit j.kept.verifies f.met f.file f.stood f.read q (ap (row_at I) f.number ∙ was) in
            let chain_is : settled_chain J r.kind n ≡ Ok f.file'.chain = ap (settled_chain J r.kind) (sym f.number') ∙ chain_read J (fit_after s lib b j acc) (verifies_after s lib b j acc) f.met' f.file' f.stands f.read' r (ap (row_at J) f.number' ∙ row) in
            let numbers : block_numbers J n (row_at J n) ≡ block_numbers I n (row_at I n) = ap (block_numbers J n) row ∙ ap chain_blocks (chain_is ∙ ap Ok f.chain ∙ sym chain_was) ∙ sym (ap (block_numbers I n) was) in
            told_none I J h n 0 (block_numbers J n (row_at J n))
            (λ i page get.
            let zero_i : 0 + i ≡ i = omega arith in
            let at : slice_get (block_numbers I n (row_at I n)) i ≡ Some page = ap (λ ps. slice_get ps i) (sym numbers) ∙ get in
            let there : slice_get (block_numbers I n (row_at I n)) (0 + i) ≡ Some page = ap (slice_get (block_numbers I n (row_at I n))) zero_i ∙ at in
            same_told I J h n (0 + i) page there size
            ∙ clean_block s j.kept lib h j.given n q was un page (subst (λ ps. In page ps) (numbers_were s lib h j n q was) (get_in (block_numbers I n (row_at I n)) i page at)))
      ]

  -- ---- each file

  abbrev found : ℕ → Option ListedFile
  found n = find (λ (f : ListedFile). eqb f.ino n) (listing (case_of (settled s) (creds_of s lib) (bundle_handed h))).files

  unfound : (n : ℕ) → found n ≡ None → (m : Met) → In m (judged_files cs) → m.ino ≡ n → ⊥
  unfound n none m i is =
      let r = reads s lib b j acc m i in
      let k = In-find (λ (f : ListedFile). eqb f.ino n) l.files (record { ino = m.ino; row = row_by m r.file.body; index = r.file.chain.index; blocks = r.file.chain.blocks }) (file_to s lib b j acc m r.file i r.within) (eq-eqb m.ino n is) in
      let wrong : None ≡ Some k.0 = sym none ∙ k.1 in absurd (cc wrong)

  found_blocks : (f : RawFile) (r : Row) (row : row_at J f.ino ≡ Some r) → is_directory r.kind ≡ false → size_of J f.ino ≡ f.size → (o : Option ListedFile) → found f.ino ≡ o → told_blocks I J h f.ino 0 (block_numbers J f.ino (row_at J f.ino)) ≡ changed_blocks cs notes h f 0 (option_map_or (λ (x : ListedFile). x.blocks) o [])
  found_blocks f r row plain' size None none = kept_blocks f.ino r row (unfound f.ino none)
  found_blocks f r row plain' size (Some x) there =
      let q = find-In (λ (f' : ListedFile). eqb f'.ino f.ino) l.files x there in
      let m = file_from s lib b j acc x q.0 in
      let is : m.0.ino ≡ f.ino = ap (λ (y : ListedFile). y.ino) (sym m.4) ∙ eqb-true x.ino f.ino q.1 in
      let read : Ok (reads s lib b j acc m.0 m.2).file ≡ Ok m.1 = sym (reads s lib b j acc m.0 m.2).within ∙ m.3 in
      let file : (reads s lib b j acc m.0 m.2).file ≡ m.1 = cc read in
      search (arith, judged_blocks)

  gone_blocks : (f : RawFile) → row_at J f.ino ≡ None → blocks_listed_of l f.ino ≡ []
  gone_blocks f gone = by (found f.ino) refl
    where
      by : (o : Option ListedFile) → found f.ino ≡ o → option_map_or (λ (x : ListedFile). x.blocks) o [] ≡ []
      by None e = refl
      by (Some x) e =
          let q = find-In (λ (f' : ListedFile). eqb f'.ino f.ino) l.files x e in
          let m = file_from s lib b j acc x q.0 in
          let is : m.0.ino ≡ f.ino = ap (λ (y : ListedFile). y.ino) (sym m.4) ∙ eqb-true x.ino f.ino q.1 in
          let t = row_now s lib b j acc m.0 (judged_met s lib b j acc m.0 m.2) in
          let wrong : None ≡ Some (row_by m.0 t.0.body) = sym gone ∙ ap (row_at J) (sym is) ∙ t.2 in
          absurd (cc wrong)

  there_blocks : (f : RawFile) (r : Row) → row_at J f.ino ≡ Some r → told_file J b f.ino false r ≡ f → (d : Bool) → is_directory r.kind ≡ d → told_blocks_of I J h f (not d) ≡ blocks_of_kind cs notes h f (not d) (blocks_listed_of l f.ino)
  there_blocks f r row is true d = refl
  there_blocks f r row is false d =
      ap (λ t. cond t [] (told_blocks I J h f.ino 0 (block_numbers J f.ino (row_at J f.ino)))) (ap (λ (x : RawFile). x.gone) (sym is))
      ∙ found_blocks f r row d (ap (λ (x : RawFile). x.size) is) (found f.ino) refl

  lost_blocks : (f : RawFile) → row_at J f.ino ≡ None → f.gone ≡ true → (told : Bool) → told_blocks_of I J h f told ≡ blocks_of_kind cs notes h f told (blocks_listed_of l f.ino)
  lost_blocks f none gone false = refl
  lost_blocks f none gone true =
      ap (λ t. cond t [] (told_blocks I J h f.ino 0 (block_numbers J f.ino (row_at J f.ino)))) gone
      ∙ sym (ap (changed_blocks cs notes h f 0) (gone_blocks f none))

  file_blocks : (f : RawFile) → In f (raw_files I J b) → told_blocks_of I J h f (not (is_directory f.kind)) ≡ blocks_of_kind cs notes h f (not (is_directory f.kind)) (blocks_listed_of l f.ino)
  file_blocks f i =
      let q = counted_in (λ (x : RawFile). x.ino) (raw_file I J b) (raw_number I J b) 1 I.core.inodes f i in
      let p = when_passed (is_told I J b f.ino) (told_by I J b f.ino (row_at I f.ino) (row_at J f.ino)) f q.2 in
      elim (told_parts f (row_at I f.ino) (row_at J f.ino) p.1) [
        | inl there ↦ there_blocks f there.0 there.1 there.2 (is_directory f.kind) (ap (λ (x : RawFile). is_directory x.kind) there.2)
        | inr lost ↦ lost_blocks f lost.0 lost.1 (not (is_directory f.kind))
      ]

  blocks_same : raw_blocks Accepted I J h (raw_files I J b) ≡ accepted_blocks cs l notes h (accepted_files cs l notes)
  blocks_same =
      flat_map-same (λ f. told_blocks_of I J h f (not (is_directory f.kind))) (λ f. blocks_of_kind cs notes h f (not (is_directory f.kind)) (blocks_listed_of l f.ino)) (raw_files I J b) file_blocks
      ∙ ap (accepted_blocks cs l notes h) (files_same s lib b j acc)

  entry_same : raw_entry I lib h Accepted J ≡ Raw (record { 0 = lib }) Accepted (accepted_files cs l notes) (record { handed = h; blocks = accepted_blocks cs l notes h (accepted_files cs l notes) })
  entry_same = search (arith, blocks_same, files_same)

pub accepted_is_listed : AcceptedIsListed
accepted_is_listed s lib h j acc = entry_same s lib h j acc
