-- Where no write grant is open a state stands for the nodes of its settled image.
use Rattle.trio_laws.proofs.Words.{Core, GrantKind, Image, In, Kept, Met, Node, None, OpenGrant, Option, Row, Some, State, Write, [], ap, arith, block_sheets, body_of, body_of_row, bytes_of, bytes_of_sheets, cases_eq, cond, data_of, eqb, false, get_or, guard_in, guard_of, inl, inr, is_directory, is_write, leb, length, ltb, name_of, node_by, node_in, one_met, option_map, option_map_or, page_of, plain, reads_from, refl, root_is_met, root_of, row_at, row_in, row_of, settled, sheets_of, size_of, slot_bytes, slot_of, survey, sym, tabulated, tabulated-length, tabulated-same, take, writer_of, ℕ, ◌&&◌, ◌+◌, ◌<◌, ◌∙◌, ◌∷◌, ◌≡◌, node_of}
use Rattle.std.proofs.lemmas.Bool.{lt-leb}
use Rattle.trio_lists.proofs.Marked.{and-false}
use Rattle.trio_page.specs.Field.{number_at}
use Rattle.trio_layout.specs.Image.{body_by_row}
use Rattle.trio_layout.proofs.SlotLemmas.{empty_value}
use Rattle.trio_state.specs.ImageNodes.{name_said, name_by_row, chain_bytes, body_content, content_of, node_by_row}
use Rattle.trio_laws.specs.history.HistoryLaws.{SettledNodes}
use Rattle.trio_laws.proofs.history.Blocks.{flat_sheets}
use Rattle.trio_laws.proofs.history.Facts.{find_none}
use Rattle.trio_laws.proofs.history.Follows.{size_read}
use Rattle.trio_laws.proofs.history.Listing.{body_met, chain_met, listing, met_at, name_listed}
use Rattle.trio_laws.proofs.history.ModeNodes.{name_root}
use Rattle.trio_laws.proofs.history.Still.{node_with}

unwritten : (t : GrantKind) → (t ≡ Write → ⊥) → is_write t ≡ false
unwritten t n = search arith

-- an empty slot has no name
no_name : (inodes : ℕ) → name_said (slot_of inodes []) ≡ 45 ∷ []
unfolding number_at
no_name inodes = sym (ap name_said (empty_value inodes [] refl))

module _ (s : State) (k : Kept s) (none : (g : OpenGrant) → In g s.open_grants → g.kind ≡ Write → ⊥) (first : 0 < s.home.core.range.first) where
  abbrev image : Image
  image = settled s

  abbrev core : Core
  core = image.core

  unwriting : (n : ℕ) → writer_of s n ≡ None
  unwriting n = search (arith, find_none, unwritten, and-false)

  pub name_is : (n : ℕ) (r : Row) → row_at image n ≡ Some r → name_by_row core r ≡ name_of image n r
  name_is n r row =
      elim (cases_eq n 1) [
        | inl one ↦
            let m = met_at image k.fit k.verifies n r row in
            let root : m.met ≡ root_of core = one_met core plain k.fit k.verifies.sound m.met (root_of core) m.stands (root_is_met core plain k.fit k.verifies.sound) (m.number ∙ one) in
            let page : r.page ≡ 0 = ap (λ (x : Row). x.page) m.row ∙ ap (λ (x : Met). x.page) root in
            let low : leb core.range.first 0 ≡ false = lt-leb core.range.first 0 first in
            let away : page_of core r.page ≡ None = ap (page_of core) page ∙ ap (λ b. cond (b && ltb 0 core.range.end) (get_or core.pages 0 None) None) low in
            ap (λ o. name_said (slot_of core.inodes (option_map_or (slot_bytes r.slot) o []))) away ∙ no_name core.inodes ∙ sym (name_root image n r one)
        | inr other ↦
            let l = listing image k.fit k.verifies n r row other in
            ap (λ o. name_said (slot_of core.inodes (option_map_or (slot_bytes r.slot) o []))) l.there ∙ ap name_said l.says ∙ sym (name_listed image k.fit k.verifies n r l other)
      ]

  pub body_is : (n : ℕ) (r : Row) (row : row_at image n ≡ Some r) → body_of_row core n r ≡ (met_at image k.fit k.verifies n r row).met.body
  body_is n r row = ap (λ o. cond (eqb n 1) core.root (body_by_row core o)) (sym row) ∙ body_met image k.fit k.verifies n r row

  pub guard_is : (n : ℕ) (r : Row) (row : row_at image n ≡ Some r) → guard_in (body_of_row core n r) ≡ guard_of image n
  guard_is n r row = ap (λ o. guard_in (cond (eqb n 1) core.root (body_by_row core o))) (sym row)

  data_is : (n : ℕ) (r : Row) (row : row_at image n ≡ Some r) → body_content core (body_of r.kind core.range (body_of_row core n r)) ≡ data_of image n r None
  data_is n r row =
      let m = met_at image k.fit k.verifies n r row in
      let f = reads_from core m.met m.file m.read in
      let body : body_of r.kind core.range (body_of_row core n r) ≡ Some m.file.body = ap (body_of r.kind core.range) (body_is n r row) ∙ ap (λ t. body_of t core.range m.met.body) (ap (λ (x : Row). x.kind) m.row) ∙ f.body in
      let size : size_of image n ≡ m.file.body.size = ap (size_of image) (sym m.number) ∙ size_read image k.fit k.verifies m.met m.file m.stands m.read r (ap (row_at image) m.number ∙ row) in
      ap (body_content core) body
      ∙ ap (λ c. take m.file.body.size (chain_bytes core c)) f.chain
      ∙ ap (take m.file.body.size) (sym (flat_sheets image m.file.chain.blocks))
      ∙ sym (ap (λ c. bytes_of_sheets (size_of image n) (block_sheets core c)) (chain_met image k.fit k.verifies n r row) ∙ ap (λ z. bytes_of_sheets z (sheets_of core m.file.chain.blocks)) size)

  content_is : (n : ℕ) (r : Row) (row : row_at image n ≡ Some r) → content_of core r.kind (body_of_row core n r) ≡ bytes_of image n r None r.kind
  content_is n r row = ap (λ l. cond (is_directory r.kind) [] l) (data_is n r row)

  one : (n : ℕ) (o : Option Row) → row_at image n ≡ o → option_map (node_by_row core n) o ≡ node_by image n (writer_of s n) o
  one n None row = refl
  one n (Some r) row =
      ap (λ l. Some (node_with r (guard_in (body_of_row core n r)) l (content_of core r.kind (body_of_row core n r)))) (name_is n r row)
      ∙ ap (λ g. Some (node_with r g (name_of image n r) (content_of core r.kind (body_of_row core n r)))) (guard_is n r row)
      ∙ ap (λ l. Some (node_with r (guard_of image n) (name_of image n r) l)) (content_is n r row)
      ∙ ap (λ w. Some (node_of image n w r)) (sym (unwriting n))

pub settled_nodes : SettledNodes
settled_nodes s k none first =
    let core = (settled s).core in
    let F : ℕ → Option Node = λ n. option_map (node_by_row core n) (row_in s.home.rows n) in
    let long : length s.home.rows ≡ core.inodes + 1 = ap length k.verifies.rows ∙ tabulated-length (row_of core (survey core plain)) (core.inodes + 1) in
    ap (tabulated F) long ∙ tabulated-same F (node_in s) (core.inodes + 1) (λ n. one s k none first n (row_at (settled s) n) refl)
