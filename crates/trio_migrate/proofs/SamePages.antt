-- Images whose pages differ on the first one alone, which is no core page.
use Rattle.std.proofs.Common.{◌&&◌, ◌+◌, ◌-◌, ◌<◌, ◌∙◌, ◌∷◌, ◌≡◌, Bool, Err, List, None, Ok, Option, Result, Some, [], ap, arith, eqb, false, is_ok, length, min, refl, suc, sym, zero, ℕ}
use Rattle.std.specs.Prelude.{if◌then◌else◌, nat_le, nat_lt, slice_index_or, take, unwrap_or, ◌==◌}
use Rattle.std.specs.List.{find, flat_map, list_all}
use Rattle.std.specs.Option.{option_and_then, option_map, option_map_or}
use Rattle.std.proofs.lemmas.Bool.{false_from_ne_true, leb-true}
use mathlib.Core.Path.{fun_ext}
use Rattle.trio_lists.specs.Lists.{are_new, gathered, is_among, result_map, result_then, tabulated, there_or}
use Rattle.trio_rights.specs.declared.kind.Kind.{Kind}
use Rattle.trio_rights.specs.ByKind.{is_directory}
use Rattle.trio_rights.specs.Row.{Row, row_in}
use Rattle.trio_layout.specs.declared.body.Body.{Body}
use Rattle.trio_layout.specs.declared.superblock.Superblock.{Superblock}
use Rattle.trio_layout.specs.Body.{block_count, body_of, guard_in}
use Rattle.trio_layout.specs.Chain.{Chain, chain_from, chain_of, index_count, index_page, with_index}
use Rattle.trio_layout.specs.Core.{Core, Location, at_page, nowhere, page_of}
use Rattle.trio_layout.specs.Entries.{Listed, body_in_slot, entries_of_kind, entries_on, page_entries, slot_bytes, with_names_apart}
use Rattle.trio_layout.specs.Index.{index_of}
use Rattle.trio_layout.specs.Range.{is_core}
use Rattle.trio_layout.specs.Slot.{slot_of}
use Rattle.trio_layout.specs.Sound.{is_sound, owners_table, rows_table}
use Rattle.trio_layout.specs.Survey.{FileRead, Met, children_in, file_of, file_with, levels, numbers, owner_of, pages_in, plain, root_of, row_read, survey}
use Rattle.trio_nodes.specs.declared.node.Node.{Node}
use Rattle.trio_state.specs.ImageNodes.{body_content, body_of_row, chain_bytes, content_of, joined_pages, name_by_row, name_said, node_by_row, nodes_by_rows, nodes_of}
use Rattle.trio_survey.specs.Stored.{core_in, image_in}

then_same : {X Y E : Type 0} (f g : X → Result Y E) (r : Result X E) → ((x : X) → f x ≡ g x) → result_then f r ≡ result_then g r
then_same f g (Ok x) h = h x
then_same f g (Err e) h = refl

none_below : (n : ℕ) → 0 < n → nat_le n 0 ≡ false
none_below n some = false_from_ne_true (nat_le n 0) (λ e. omega (arith, leb-true n 0 e, some))

-- pages behind the first
pub other_page : (x y : Option (List ℕ)) (rest : List (Option (List ℕ))) (n : ℕ) → 0 < n → slice_index_or (y ∷ rest) n None ≡ slice_index_or (x ∷ rest) n None
other_page x y rest zero some = absurd (omega arith)
other_page x y rest (suc n) some = refl

module _ (s : Superblock) (x y : Option (List ℕ)) (rest : List (Option (List ℕ))) (behind : 0 < s.first_core) where
  abbrev a : Core
  a = core_in s (x ∷ rest)

  abbrev b : Core
  b = core_in s (y ∷ rest)

  no_core : is_core a.range 0 ≡ false
  no_core = ap (λ c. c && nat_lt 0 s.pages) (none_below s.first_core behind)

  pub page_same : (p : ℕ) → page_of b p ≡ page_of a p
  page_same zero = ap (λ (c : Bool). if c then slice_index_or (y ∷ rest) 0 None else None) no_core ∙ sym (ap (λ (c : Bool). if c then slice_index_or (x ∷ rest) 0 None else None) no_core)
  page_same (suc n) = refl

  pub pages_same : page_of b ≡ page_of a
  pages_same = fun_ext page_same

  index_same : (at used : ℕ) (last : Bool) → index_page b at used last ≡ index_page a at used last
  index_same at used last = ap (λ o. there_or (at_page at) (option_and_then (index_of used last a.range) o)) (page_same at)

  chain_same : (n blocks at : ℕ) → chain_from b n blocks at ≡ chain_from a n blocks at
  chain_same zero blocks at = refl
  chain_same (suc n) blocks at =
      ap (result_then (λ i. result_map (with_index at i) (chain_from b n (blocks - 511) i.next))) (index_same at (min blocks 511) (eqb n 0))
      ∙ then_same (λ i. result_map (with_index at i) (chain_from b n (blocks - 511) i.next)) (λ i. result_map (with_index at i) (chain_from a n (blocks - 511) i.next))
      (index_page a at (min blocks 511) (eqb n 0))
      (λ i. ap (result_map (with_index at i)) (chain_same n (blocks - 511) i.next))

  pub chain_of_same : (o : Body) → chain_of b o ≡ chain_of a o
  chain_of_same o = chain_same (index_count (block_count o.size)) (block_count o.size) o.head

  entries_here : page_entries b ≡ page_entries a
  entries_here = ap (λ (g : ℕ → Option (List ℕ)). λ page. result_then (entries_on s.inodes page) (there_or (at_page page) (g page))) pages_same

  entries_same : (kind : Kind) (blocks : List ℕ) → entries_of_kind b kind blocks ≡ entries_of_kind a kind blocks
  entries_same kind blocks = ap (λ (g : ℕ → Result (List Listed) Location). if is_directory kind then result_then with_names_apart (gathered g blocks) else Ok []) entries_here

  pub file_same : (m : Met) → file_of b m ≡ file_of a m
  unfolding file_of
  file_same m =
      then_same (λ o. result_then (file_with b m.kind o) (chain_of b o)) (λ o. result_then (file_with a m.kind o) (chain_of a o))
      (there_or nowhere (body_of m.kind a.range m.body))
      (λ o.
      ap (result_then (file_with b m.kind o)) (chain_of_same o)
      ∙ then_same (file_with b m.kind o) (file_with a m.kind o) (chain_of a o)
      (λ c. ap (result_map (λ (es : List Listed). record { body = o; chain = c; entries = es })) (entries_same m.kind c.blocks)))

  pub files_same : file_of b ≡ file_of a
  files_same = fun_ext file_same

  pub survey_same : survey b plain ≡ survey a plain
  unfolding survey
  survey_same = ap (λ (g : Met → Result FileRead Location). (levels (λ m. children_in plain m.ino (g m)) (root_of a) (suc s.inodes)).passed) files_same

  abbrev soundly : (Met → Result FileRead Location) → List Met → Bool
  soundly g files =
      list_all (λ m. is_ok (g m)) files
      && (are_new (1 ∷ []) (flat_map (λ m. numbers (children_in plain m.ino (g m))) files) && are_new [] (flat_map (λ m. pages_in (g m)) files))

  pub sound_same : is_sound b plain ≡ is_sound a plain
  sound_same = ap (soundly (file_of b)) survey_same ∙ ap (λ (g : Met → Result FileRead Location). soundly g (survey a plain)) files_same

  abbrev rows_by : (Met → Result FileRead Location) → List Met → List (Option Row)
  rows_by g files = tabulated (λ n. option_and_then (λ m. row_read m (g m)) (find (λ m. m.ino == n) files)) (s.inodes + 1)

  pub rows_same : rows_table b (survey b plain) ≡ rows_table a (survey a plain)
  rows_same = ap (rows_by (file_of b)) survey_same ∙ ap (λ (g : Met → Result FileRead Location). rows_by g (survey a plain)) files_same

  owner_same : (files : List Met) (page : ℕ) → owner_of b files page ≡ owner_of a files page
  owner_same [] page = refl
  owner_same (m ∷ ms) page =
      ap (λ (g : Met → Result FileRead Location). if is_among page (pages_in (g m)) then m.ino else owner_of b ms page) files_same
      ∙ ap (λ (n : ℕ). if is_among page (pages_in (file_of a m)) then m.ino else n) (owner_same ms page)

  pub owners_same : owners_table b (survey b plain) ≡ owners_table a (survey a plain)
  owners_same =
      ap (owners_table b) survey_same
      ∙ ap (λ (g : ℕ → ℕ). tabulated (λ page. if nat_lt page s.first_core then 0xFFFFFFFF else g page) s.pages) (fun_ext (owner_same (survey a plain)))

  -- ---- nodes

  joined_same : (blocks : List ℕ) → joined_pages b blocks ≡ joined_pages a blocks
  joined_same blocks = ap (λ (g : ℕ → Option (List ℕ)). flat_map (λ page. unwrap_or (g page) []) blocks) pages_same

  bytes_same : (r : Result Chain Location) → chain_bytes b r ≡ chain_bytes a r
  bytes_same (Ok c) = joined_same c.blocks
  bytes_same (Err place) = refl

  body_same : (n : ℕ) (r : Row) → body_of_row b n r ≡ body_of_row a n r
  body_same n r = ap (λ (o : Option (List ℕ)). if n == 1 then s.root else option_map_or (body_in_slot r.slot) o []) (page_same r.page)

  name_same : (r : Row) → name_by_row b r ≡ name_by_row a r
  name_same r = ap (λ (o : Option (List ℕ)). name_said (slot_of s.inodes (option_map_or (slot_bytes r.slot) o []))) (page_same r.page)

  body_content_same : (o : Option Body) → body_content b o ≡ body_content a o
  body_content_same None = refl
  body_content_same (Some o) = ap (take o.size) (ap (chain_bytes b) (chain_of_same o) ∙ bytes_same (chain_of a o))

  content_same : (kind : Kind) (body : List ℕ) → content_of b kind body ≡ content_of a kind body
  content_same kind body = ap (λ (bytes : List ℕ). if is_directory kind then [] else bytes) (body_content_same (body_of kind a.range body))

  node_same : (n : ℕ) (r : Row) → node_by_row b n r ≡ node_by_row a n r
  node_same n r =
      ap (λ (name : List ℕ). record { parent = r.parent; name = name; kind = r.kind; mode = r.mode; uid = r.uid; gid = r.gid; guard = guard_in (body_of_row b n r); bytes = content_of b r.kind (body_of_row b n r) }) (name_same r)
      ∙ ap (λ (body : List ℕ). record { parent = r.parent; name = name_by_row a r; kind = r.kind; mode = r.mode; uid = r.uid; gid = r.gid; guard = guard_in body; bytes = content_of b r.kind body }) (body_same n r)
      ∙ ap (λ (bytes : List ℕ). record { parent = r.parent; name = name_by_row a r; kind = r.kind; mode = r.mode; uid = r.uid; gid = r.gid; guard = guard_in (body_of_row a n r); bytes = bytes }) (content_same r.kind (body_of_row a n r))

  pub nodes_same : nodes_of (image_in s (y ∷ rest)) ≡ nodes_of (image_in s (x ∷ rest))
  nodes_same =
      ap (nodes_by_rows b) rows_same
      ∙ ap (λ (g : ℕ → Row → Node). tabulated (λ n. option_map (g n) (row_in (rows_table a (survey a plain)) n)) (length (rows_table a (survey a plain)))) (fun_ext (λ n. fun_ext (node_same n)))
