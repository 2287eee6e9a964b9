-- What a refused release tells, by the images before and after, is what the bundle and the notes tell.
use Rattle.trio_laws.proofs.Words.{Bool, Bundle, Case, Ends, Handed, Image, In, In-cases, In-is_among, In-left, In-map, In-right, IsFit, IsJudgeable, List, None, Notes, Option, Pages, Raw, RawFile, Row, Sheet, Some, State, ToldBlock, Written, [], ap, are_new, arith, block_numbers, blocks_of_kind, bundle_handed, bytes_eq, bytes_eq-Decides, case_in, cases_Bool, chain_blocks, changed_blocks, cond, covers_blocks, false, filter_map, flat_map-same, guard_of, inl, inr, is_among, is_among-In, is_some, is_told, is_written, lent_blocks, map, map-In, map-id, name_by, name_of, not, noted_guard, noted_name, noted_size, notes_of, option_map, option_map_or, or_cases, or_left, or_right, raw_entry, raw_file, raw_files, refl, refused_image, row_at, settled, sheet_numbers, size_of, slice_get, subst, sym, told_blocks, told_blocks_of, told_by, told_row, true, uncovered, ℕ, ◌&&◌, ◌++◌, ◌+◌, ◌<◌, ◌||◌, ◌∙◌, ◌≡◌, ◌≤◌, Why, flat_map}
use Rattle.std.proofs.Math.Bool.{or-false}
use Rattle.trio_state.specs.Listed.{is_handed, refused_blocks, refused_files, told_same}
use Rattle.trio_laws.specs.history.ToldLaws.{RefusedIsListed}
use Rattle.trio_laws.proofs.Bundles.{Closed, closed_unparted, finds_unwritten, in_numbers, unwritten_finds, written_from}
use Rattle.trio_laws.proofs.Possible.{refused_ends}
use Rattle.trio_laws.proofs.Refusing.{agree, fit', pages}
use Rattle.trio_laws.proofs.Uncovered.{In-uncovered, uncovered_handed}
use Rattle.trio_laws.proofs.judgement.CaseFacts.{held_apart, live_bounds, written_find, written_row}
use Rattle.trio_laws.proofs.history.Listing.{chain_met, met_at}
use Rattle.trio_laws.proofs.history.RawParts.{get_in, raw_number, same_told, told_none}
use Rattle.trio_laws.proofs.history.RisingKeys.{counted_in, counted_sorted, in_made, joined_new, made_in, made_new}
use Rattle.trio_laws.proofs.history.Still.{chain_still, name_still, size_still, guard_still}
use Rattle.trio_laws.proofs.history.ToldBlocks.{block_alike, blocks_lent, clean_block, numbers_were, same_blocks, told_alike}
use Rattle.trio_laws.proofs.history.ToldNoted.{noted_name_is, noted_size_is, noted_guard_is}
use Rattle.trio_laws.specs.history.Entries.{refused_for}

-- what is there only where a test passes
pub when_passed : {X : Type 0} (t : Bool) (o : Option X) (x : X) → cond t o None ≡ Some x → (t ≡ true) × (o ≡ Some x)
when_passed true o x e = (refl, e)
when_passed false o x e = absurd cc

-- what is made of an option is made of what is there
pub made_of : {X Y : Type 0} (f : X → Y) (o : Option X) (y : Y) → option_map f o ≡ Some y → (x : X) × (o ≡ Some x) × (y ≡ f x)
made_of f None y e = absurd cc
made_of f (Some x) y e = (let s : f x ≡ y = cc e in (x, refl, sym s))

module _ (s : State) (lib : ℕ) (h : Handed) (j : IsJudgeable s lib (bundle_handed h)) where
  abbrev b : Bundle
  b = bundle_handed h

  abbrev I : Image
  I = settled s

  abbrev J : Image
  J = refused_image (settled s) (bundle_handed h)

  abbrev cs : Case
  cs = case_in s lib (bundle_handed h)

  abbrev notes : Notes
  notes = notes_of (settled s)

  -- ---- what stays of a file

  ends : (s' : State) × Ends s lib (bundle_handed h) (refused_image (settled s) (bundle_handed h)) s'
  ends = refused_ends s j.kept lib (bundle_handed h) j.given

  closed : Closed s lib (bundle_handed h)
  closed = closed_unparted s lib (bundle_handed h) j.closed

  abbrev ps : Pages
  ps = pages s ends.0 j.kept lib (bundle_handed h) j.given closed ends.1

  fitJ : IsFit (refused_image (settled s) (bundle_handed h)).core
  fitJ = fit' s ends.0 j.kept lib (bundle_handed h) j.given closed ends.1

  name_stays : (n : ℕ) (r : Row) → row_at (settled s) n ≡ Some r → name_of (refused_image (settled s) (bundle_handed h)) n r ≡ name_of (settled s) n r
  name_stays n r row = name_still I ps j.kept.fit fitJ j.kept.verifies (agree s ends.0 j.kept lib b j.given closed ends.1) n r row

  size_stays : (n : ℕ) (r : Row) → row_at (settled s) n ≡ Some r → size_of (refused_image (settled s) (bundle_handed h)) n ≡ size_of (settled s) n
  size_stays n r row = size_still I ps j.kept.fit fitJ j.kept.verifies (agree s ends.0 j.kept lib b j.given closed ends.1) n r row

  guard_stays : (n : ℕ) (r : Row) → row_at (settled s) n ≡ Some r → guard_of (refused_image (settled s) (bundle_handed h)) n ≡ guard_of (settled s) n
  guard_stays n r row = guard_still I ps j.kept.fit fitJ j.kept.verifies (agree s ends.0 j.kept lib b j.given closed ends.1) n r row

  numbers_stay : (n : ℕ) (r : Row) (row : row_at (settled s) n ≡ Some r) → block_numbers (refused_image (settled s) (bundle_handed h)) n (row_at (refused_image (settled s) (bundle_handed h)) n) ≡ (met_at (settled s) j.kept.fit j.kept.verifies n r row).file.chain.blocks
  numbers_stay n r row =
      ap (block_numbers J n) row
      ∙ ap chain_blocks (chain_still I ps j.kept.fit fitJ j.kept.verifies (agree s ends.0 j.kept lib b j.given closed ends.1) n r row ∙ chain_met I j.kept.fit j.kept.verifies n r row)

  -- ---- files

  unnamed : (n : ℕ) (o : Option Row) → row_at I n ≡ o → (is_some o && not (bytes_eq (name_by I n o) (name_by J n o))) ≡ false
  unnamed n o row = search (arith, name_stays, bytes_eq-Decides)

  told_handed : (n : ℕ) → is_told I J b n ≡ is_handed b n
  told_handed n = ap (λ t. is_handed b n || t) (unnamed n (row_at I n) refl) ∙ or-false (is_handed b n)

  same_by : (n : ℕ) (o : Option Row) → row_at I n ≡ o → told_by I J b n o o ≡ option_map (told_row b n false (noted_name notes n) (noted_size notes n) (noted_guard notes n)) o
  same_by n None row = refl
  same_by n (Some r) row =
      let low = (live_bounds s lib b j n r row).1 in
      ap (λ l. Some (told_row b n false l (size_of J n) (guard_of J n) r)) (name_stays n r row ∙ sym (noted_name_is I n r low row))
      ∙ ap (λ z. Some (told_row b n false (noted_name notes n) z (guard_of J n) r)) (size_stays n r row ∙ sym (noted_size_is I n r low row))
      ∙ ap (λ g. Some (told_row b n false (noted_name notes n) (noted_size notes n) g r)) (guard_stays n r row ∙ sym (noted_guard_is I n r low row))

  raw_is : (n : ℕ) → raw_file I J b n ≡ cond (is_handed b n) (told_same cs notes n) None
  raw_is n = search (arith, told_handed, same_by)

  abbrev handed : List ℕ
  handed = map (λ (w : Written). w.ino) b.writes ++ b.holds

  is_handed_in : (n : ℕ) → In n handed → is_handed b n ≡ true
  is_handed_in n i =
      elim (In-cases n (map (λ (w : Written). w.ino) b.writes) b.holds i) [
        | inl a ↦ or_left (is_written b n) (is_among n b.holds) (written_from b n a)
        | inr a ↦ or_right (is_written b n) (is_among n b.holds) (In-is_among n b.holds a)
      ]

  in_handed : (n : ℕ) → is_handed b n ≡ true → In n handed
  in_handed n t =
      elim (or_cases (is_written b n) (is_among n b.holds) t) [
        | inl a ↦
            let w = written_find s lib b j n a in
            let i = In-map (λ (w : Written). w.ino) w.0 b.writes w.1 in
            In-left n (map (λ (w : Written). w.ino) b.writes) b.holds (subst (λ m. In m (map (λ (w : Written). w.ino) b.writes)) w.2 i)
        | inr a ↦ In-right n (map (λ (w : Written). w.ino) b.writes) b.holds (is_among-In n b.holds a)
      ]

  same_number : (n : ℕ) (f : RawFile) → told_same cs notes n ≡ Some f → f.ino ≡ n
  same_number n f e = (let r = made_of (told_row b n false (noted_name notes n) (noted_size notes n) (noted_guard notes n)) (row_at I n) f e in ap (λ (x : RawFile). x.ino) r.2)

  handed_new : are_new [] (map (λ n. n) handed) ≡ true
  handed_new =
      let ws : List ℕ = map (λ (w : Written). w.ino) b.writes in
      joined_new (λ n. n) ws b.holds (ap (are_new []) (map-id ws) ∙ j.given.writes_once) (ap (are_new []) (map-id b.holds) ∙ j.given.holds_once)
      (λ n i k.
      let w = map-In (λ (w : Written). w.ino) n b.writes (subst (λ l. In n l) (map-id ws) i) in
      held_apart s lib b j n (subst (λ l. In n l) (map-id b.holds) k) w.0 w.1 (sym w.2))

  abbrev of_handed : List RawFile
  of_handed = filter_map (told_same cs notes) handed

  handed_from : (f : RawFile) → In f of_handed → (1 ≤ f.ino) × (f.ino < 1 + I.core.inodes) × (raw_file I J b f.ino ≡ Some f)
  handed_from f i =
      let m = made_in (λ (x : RawFile). x.ino) (λ n. n) (told_same cs notes) same_number handed f i in
      let r = made_of (told_row b m.0 false (noted_name notes m.0) (noted_size notes m.0) (noted_guard notes m.0)) (row_at I m.0) f m.2 in
      let number : f.ino ≡ m.0 = same_number m.0 f m.2 in
      let bounds = live_bounds s lib b j m.0 r.0 r.1 in
      let low = bounds.0 in
      let high = bounds.1 in (
        omega (arith, low, number),
        omega (arith, high, number),
        ap (raw_file I J b) number ∙ raw_is m.0 ∙ ap (λ t. cond t (told_same cs notes m.0) None) (is_handed_in m.0 m.1) ∙ m.2,
      )

  files_same : raw_files I J b ≡ refused_files cs notes
  files_same =
      counted_sorted (λ (x : RawFile). x.ino) (raw_file I J b) (raw_number I J b) 1 I.core.inodes of_handed
      (made_new (λ (x : RawFile). x.ino) (λ n. n) (told_same cs notes) same_number handed handed_new)
      handed_from
      (λ n f e.
      let p = when_passed (is_handed b n) (told_same cs notes n) f (sym (raw_is n) ∙ e) in
      in_made (λ (x : RawFile). x.ino) (λ n. n) (told_same cs notes) same_number handed n f (in_handed n p.0) p.1)

  -- ---- blocks

  written_blocks : (f : RawFile) (r : Row) → row_at I f.ino ≡ Some r → covers_blocks r.kind (guard_of I f.ino) ≡ false → f.size ≡ noted_size notes f.ino → is_written b f.ino ≡ true → told_blocks I J h f.ino 0 (block_numbers J f.ino (row_at J f.ino)) ≡ changed_blocks cs notes h f 0 (lent_blocks b f.ino)
  written_blocks f r row bare size t =
      let n : ℕ = f.ino in
      let low = (live_bounds s lib b j n r row).1 in
      let w = written_find s lib b j n t in
      let m = met_at I j.kept.fit j.kept.verifies n r row in
      let row' : row_at I w.0.ino ≡ Some r = ap (row_at I) w.2 ∙ row in
      let q = written_row s lib b j w.0 w.1 in
      let rows : Some q.0 ≡ Some r = sym q.1 ∙ row' in
      let same : q.0 ≡ r = cc rows in
      let kind : w.0.kind ≡ r.kind = q.2 ∙ ap (λ (x : Row). x.kind) same in
      let bare' : covers_blocks w.0.kind (guard_of I w.0.ino) ≡ false = ap (λ t. covers_blocks t (guard_of I w.0.ino)) kind ∙ ap (λ i. covers_blocks r.kind (guard_of I i)) w.2 ∙ bare in
      let lent : lent_blocks b n ≡ sheet_numbers w.0.blocks = ap (λ o. option_map_or (λ (x : Written). sheet_numbers x.blocks) o []) w.3 in
      let listed : sheet_numbers w.0.blocks ≡ block_numbers I n (row_at I n) = blocks_lent s lib h j w.0 w.1 r row' ∙ sym (numbers_were s lib h j w.0.ino r row') ∙ ap (λ i. block_numbers I i (row_at I i)) w.2 in
      let was : block_numbers I n (row_at I n) ≡ lent_blocks b n = sym (lent ∙ listed) in
      let is : block_numbers J n (row_at J n) ≡ lent_blocks b n = numbers_stay n r row ∙ sym (numbers_were s lib h j n r row) ∙ was in
      ap (told_blocks I J h n 0) is
      ∙ same_blocks I J cs notes h f 0 (lent_blocks b n)
      (λ i page get.
      let mine : In page (sheet_numbers w.0.blocks) = subst (λ l. In page l) lent (get_in (lent_blocks b n) i page get) in
      let x = map-In (λ (y : Sheet). y.page) page w.0.blocks mine in
      let u = In-uncovered s j.kept lib b j.given w.0 x.0 w.1 bare' x.1 in
      let there : In page (sheet_numbers (uncovered I b ++ b.pages)) = in_numbers (uncovered I b ++ b.pages) x.0 page (In-left x.0 (uncovered I b) b.pages u) x.2 in (
        told_alike I J cs notes h f (0 + i) page was (sym (noted_size_is I n r low row)) (size_stays n r row ∙ sym (noted_size_is I n r low row) ∙ sym size),
        block_alike s lib h j w.0 w.1 J.core (uncovered I b ++ b.pages) I.core.pages refl refl j.kept.fit.long (λ y k. uncovered_handed s j.kept lib b j.given y k) page mine there,
      ))

  held_blocks : (n : ℕ) (r : Row) → row_at I n ≡ Some r → is_written b n ≡ false → told_blocks I J h n 0 (block_numbers J n (row_at J n)) ≡ []
  held_blocks n r row un =
      let m = met_at I j.kept.fit j.kept.verifies n r row in
      told_none I J h n 0 (block_numbers J n (row_at J n))
      (λ i page get.
      let zero_i : 0 + i ≡ i = omega arith in
      let at : slice_get m.file.chain.blocks i ≡ Some page = ap (λ l. slice_get l i) (sym (numbers_stay n r row)) ∙ get in
      let was : slice_get (block_numbers I n (row_at I n)) (0 + i) ≡ Some page = ap (λ l. slice_get l (0 + i)) (numbers_were s lib h j n r row) ∙ ap (slice_get m.file.chain.blocks) zero_i ∙ at in
      same_told I J h n (0 + i) page was (size_stays n r row) ∙ clean_block s j.kept lib h j.given n r row (finds_unwritten b n un) page (get_in m.file.chain.blocks i page at))

  bare_blocks : (f : RawFile) (r : Row) → row_at I f.ino ≡ Some r → covers_blocks r.kind (guard_of I f.ino) ≡ false → f.size ≡ noted_size notes f.ino → told_blocks I J h f.ino 0 (block_numbers J f.ino (row_at J f.ino)) ≡ changed_blocks cs notes h f 0 (lent_blocks b f.ino)
  bare_blocks f r row bare size = search (arith, cases_Bool, written_blocks, unwritten_finds, finds_unwritten, held_blocks)

  case_blocks : (f : RawFile) (r : Row) (c : Bool) → row_at I f.ino ≡ Some r → covers_blocks r.kind (guard_of I f.ino) ≡ c → f.size ≡ noted_size notes f.ino → f.gone ≡ false → told_blocks_of I J h f (not c) ≡ blocks_of_kind cs notes h f (not c) (lent_blocks b f.ino)
  case_blocks f r true row e size gone = refl
  case_blocks f r false row e size gone =
      ap (λ t. cond t [] (told_blocks I J h f.ino 0 (block_numbers J f.ino (row_at J f.ino)))) gone ∙ bare_blocks f r row e size

  file_blocks : (f : RawFile) → In f (raw_files I J b) → told_blocks_of I J h f (not (covers_blocks f.kind f.guard)) ≡ blocks_of_kind cs notes h f (not (covers_blocks f.kind f.guard)) (lent_blocks b f.ino)
  file_blocks f i =
      let q = counted_in (λ (x : RawFile). x.ino) (raw_file I J b) (raw_number I J b) 1 I.core.inodes f i in
      let p = when_passed (is_handed b f.ino) (told_same cs notes f.ino) f (sym (raw_is f.ino) ∙ q.2) in
      let r = made_of (told_row b f.ino false (noted_name notes f.ino) (noted_size notes f.ino) (noted_guard notes f.ino)) (row_at I f.ino) f p.1 in
      let low = (live_bounds s lib b j f.ino r.0 r.1).1 in
      let guarded : guard_of I f.ino ≡ f.guard = sym (noted_guard_is I f.ino r.0 low r.1) ∙ ap (λ (x : RawFile). x.guard) (sym r.2) in
      let covers : covers_blocks r.0.kind (guard_of I f.ino) ≡ covers_blocks f.kind f.guard =
      ap (λ t. covers_blocks t (guard_of I f.ino)) (sym (ap (λ (x : RawFile). x.kind) r.2)) ∙ ap (covers_blocks f.kind) guarded in
      case_blocks f r.0 (covers_blocks f.kind f.guard) r.1 covers (ap (λ (x : RawFile). x.size) r.2) (ap (λ (x : RawFile). x.gone) r.2)

  abbrev told_of : List RawFile → List ToldBlock
  told_of files = flat_map (λ f. told_blocks_of I J h f (not (covers_blocks f.kind f.guard))) files

  blocks_same : told_of (raw_files I J b) ≡ refused_blocks cs notes h (refused_files cs notes)
  blocks_same =
      flat_map-same (λ f. told_blocks_of I J h f (not (covers_blocks f.kind f.guard))) (λ f. blocks_of_kind cs notes h f (not (covers_blocks f.kind f.guard)) (lent_blocks b f.ino)) (raw_files I J b) file_blocks
      ∙ ap (refused_blocks cs notes h) files_same

  entry_same : (why : Why) → raw_entry I lib h (refused_for why) J ≡ Raw (record { 0 = lib }) (refused_for why) (refused_files cs notes) (record { handed = h; blocks = refused_blocks cs notes h (refused_files cs notes) })
  entry_same why =
      ap (λ bs. Raw (record { 0 = lib }) (refused_for why) (raw_files I J b) (record { handed = h; blocks = bs })) blocks_same
      ∙ ap (λ fs. Raw (record { 0 = lib }) (refused_for why) fs (record { handed = h; blocks = refused_blocks cs notes h (refused_files cs notes) })) files_same

pub refused_is_listed : RefusedIsListed
refused_is_listed s lib h why j = entry_same s lib h j why
