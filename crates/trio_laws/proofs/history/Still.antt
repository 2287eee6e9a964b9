-- An image with other pages, of which all that are read are the same, has the same nodes, where the blocks of what is no directory are the same.
use Rattle.trio_laws.proofs.Words.{AgreeOn, Bool, Core, FileRead, Image, In, IsFit, Kind, List, Node, None, Ok, OpenGrant, Option, Pages, Row, Sheet, Some, Verifies, [], ap, arith, blocks_of, body_at, bytes_of, bytes_of_sheets, cond, cons_option, data_of, eq-eqb, eqb, false, file_agrees, file_of, guard_in, guard_of, inl, inr, is_directory, name_in, name_of, node_of, one_met, option_map, option_map_or, page_of, plain, refl, row_at, settled_chain, sheet_numbers, sheets_of, size_of, sound_parts, survey, sym, true, with_other, ℕ, ◌∙◌, ◌∷◌, ◌≡◌}
use Rattle.trio_laws.proofs.Agreeing.{image_with, verifies_still, met_still, body_still}
use Rattle.trio_laws.proofs.history.Listing.{met_at, chain_met, listing, block_read}

-- a node with this guard, this name and these bytes
abbrev pub node_with : Row → Bool → List ℕ → List ℕ → Node
node_with r guarded name bytes = record {
  parent = r.parent;
  name = name;
  kind = r.kind;
  mode = r.mode;
  uid = r.uid;
  gid = r.gid;
  guard = guarded;
  bytes = bytes;
}

pub bytes_by : (image image' : Image) (n : ℕ) (r : Row) (w w' : Option OpenGrant) (kind : Kind) → size_of image' n ≡ size_of image n → (is_directory kind ≡ false → blocks_of image' n r w' ≡ blocks_of image n r w) → bytes_of image' n r w' kind ≡ bytes_of image n r w kind
bytes_by image image' n r w w' kind size blocks = by (is_directory kind) refl
  where
    by : (t : Bool) → is_directory kind ≡ t → cond t [] (data_of image' n r w') ≡ cond t [] (data_of image n r w)
    by true e = refl
    by false e = ap (λ z. bytes_of_sheets z (blocks_of image' n r w')) size ∙ ap (bytes_of_sheets (size_of image n)) (blocks e)

-- nodes with one name, size, guard and blocks are one
pub node_same : (image image' : Image) (n : ℕ) (r : Row) (w w' : Option OpenGrant) → name_of image' n r ≡ name_of image n r → size_of image' n ≡ size_of image n → guard_of image' n ≡ guard_of image n → (is_directory r.kind ≡ false → blocks_of image' n r w' ≡ blocks_of image n r w) → node_of image' n w' r ≡ node_of image n w r
node_same image image' n r w w' name size guard blocks =
    ap (λ l. node_with r (guard_of image' n) l (bytes_of image' n r w' r.kind)) name
    ∙ ap (λ g. node_with r g (name_of image n r) (bytes_of image' n r w' r.kind)) guard
    ∙ ap (node_with r (guard_of image n) (name_of image n r)) (bytes_by image image' n r w w' r.kind size blocks)

pub sheets_same : (core other : Core) (ps : List ℕ) → ((p : ℕ) → In p ps → page_of other p ≡ page_of core p) → sheets_of other ps ≡ sheets_of core ps
sheets_same core other [] h = refl
sheets_same core other (p ∷ ps) h =
    let K : Option (List ℕ) → List Sheet → List Sheet = λ o l. cons_option (option_map (λ bytes. record { page = p; bytes = bytes }) o) l in
    ap (λ o. K o (sheets_of other ps)) (h p (inl refl)) ∙ ap (K (page_of core p)) (sheets_same core other ps (λ q i. h q (inr i)))

-- sheets whose bytes are in a core are those of their numbers
pub sheets_back : (core : Core) (xs : List Sheet) → ((x : Sheet) → In x xs → page_of core x.page ≡ Some x.bytes) → sheets_of core (sheet_numbers xs) ≡ xs
sheets_back core [] h = refl
sheets_back core (x ∷ xs) h =
    ap (λ o. cons_option (option_map (λ bytes. record { page = x.page; bytes = bytes }) o) (sheets_of core (sheet_numbers xs))) (h x (inl refl))
    ∙ ap (λ l. x ∷ l) (sheets_back core xs (λ y i. h y (inr i)))

name_cond : (b : Bool) (slot : ℕ) (o o' : Option (List ℕ)) → (b ≡ false → o' ≡ o) → cond b (45 ∷ []) (option_map_or (name_in slot) o' []) ≡ cond b (45 ∷ []) (option_map_or (name_in slot) o [])
name_cond true slot o o' h = refl
name_cond false slot o o' h = ap (λ x. option_map_or (name_in slot) x []) (h refl)

not_one : (n : ℕ) → eqb n 1 ≡ false → n ≡ 1 → ⊥
not_one n e same = absurd (let t = eq-eqb n 1 same in cc)

module _ (image : Image) (pages : Pages) (fit : IsFit image.core) (fit' : IsFit (with_other image.core pages)) (v : Verifies image) (agree : AgreeOn image.core (with_other image.core pages) (survey image.core plain)) where
  pub name_still : (n : ℕ) (r : Row) → row_at image n ≡ Some r → name_of (image_with image pages) n r ≡ name_of image n r
  name_still n r e =
      name_cond (eqb n 1) r.slot (page_of image.core r.page) (page_of (with_other image.core pages) r.page)
      (λ b. let l = listing image fit v n r e (not_one n b) in agree l.parent l.file r.page l.met l.read (block_read l.parent.kind l.file r.page l.directory l.block))

  pub size_still : (n : ℕ) (r : Row) → row_at image n ≡ Some r → size_of (image_with image pages) n ≡ size_of image n
  size_still n r e = ap (λ b. (body_at b).size) (body_still image pages fit fit' v agree n r e)

  pub guard_still : (n : ℕ) (r : Row) → row_at image n ≡ Some r → guard_of (image_with image pages) n ≡ guard_of image n
  guard_still n r e = ap guard_in (body_still image pages fit fit' v agree n r e)

  -- the chain is the same
  pub chain_still : (n : ℕ) (r : Row) → row_at image n ≡ Some r → settled_chain (image_with image pages) r.kind n ≡ settled_chain image r.kind n
  chain_still n r e =
      let image' = image_with image pages in
      let v' : Verifies image' = verifies_still image pages fit fit' v agree in
      let m = met_at image fit v n r e in
      let m' = met_at image' fit' v' n r e in
      let same : m'.met ≡ m.met = one_met image'.core plain fit' v'.sound m'.met m.met m'.stands (met_still image pages fit fit' v agree m.met m.stands) (m'.number ∙ sym m.number) in
      let read : Ok m'.file ≡ Ok m.file = sym m'.read ∙ ap (file_of image'.core) same ∙ file_agrees image.core pages (survey image.core plain) (sound_parts image.core plain v.sound).grammar agree m.met m.stands ∙ m.read in
      let file : m'.file ≡ m.file = cc read in
      chain_met image' fit' v' n r e ∙ ap (λ (x : FileRead). Ok x.chain) file ∙ sym (chain_met image fit v n r e)

  -- and so are the blocks, where their pages are
  pub blocks_still : (n : ℕ) (r : Row) (e : row_at image n ≡ Some r) → ((p : ℕ) → In p (met_at image fit v n r e).file.chain.blocks → page_of (with_other image.core pages) p ≡ page_of image.core p) → blocks_of (image_with image pages) n r None ≡ blocks_of image n r None
  blocks_still n r e same = search (arith, chain_met, met_at, chain_still, sheets_same)
