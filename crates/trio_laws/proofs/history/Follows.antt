-- What a node says, by the file that a survey meets: its name by the entry that lists it, its bytes by size and blocks.
use Rattle.trio_laws.proofs.Words.{Body, Bool, CoreRange, FileRead, Image, In, IsFit, Kind, List, Listed, Met, None, Ok, Ok-one, OpenGrant, Option, Row, Some, Verifies, ap, arith, blocks_of, body_at, bytes_of, bytes_of_sheets, cond, data_of, false, file_of, guard_in, guard_of, is_directory, name_of, ne_eqb, one_met, page_of, placed_from, plain, reads_from, refl, row_at, settled_chain, size_of, survey, sym, true, ℕ, ◌∙◌, ◌≡◌, []}
use Rattle.trio_layout.specs.Body.{body_of}
use Rattle.trio_laws.proofs.history.Listing.{slot_entry, met_at, body_met, chain_met}
use Rattle.trio_laws.proofs.history.Still.{sheets_same}

said_body : (t : Bool) (b x : Body) → cond t (Some b) None ≡ Some x → b ≡ x
said_body true b x e = cc e
said_body false b x e = absurd cc

pub body_is_at : (kind : Kind) (range : CoreRange) (bytes : List ℕ) (b : Body) → body_of kind range bytes ≡ Some b → body_at bytes ≡ b
unfolding body_of
body_is_at kind range bytes b e = search (arith, said_body)

-- the name in the slot of an entry that is listed
pub name_at_entry : (image : Image) (m : Met) (f : FileRead) (l : Listed) (n : ℕ) (r : Row) → file_of image.core m ≡ Ok f → In l f.entries → (n ≡ 1 → ⊥) → r.page ≡ l.page → r.slot ≡ l.slot → name_of image n r ≡ l.entry.name
name_at_entry image m f l n r read i other page slot =
    let p = placed_from image.core m.kind f.chain.blocks f.entries l (reads_from image.core m f read).entries i in
    search (arith, ne_eqb, slot_entry)

module _ (image : Image) (fit : IsFit image.core) (v : Verifies image) (m : Met) (f : FileRead) (i : In m (survey image.core plain)) (read : file_of image.core m ≡ Ok f) (r : Row) (row : row_at image m.ino ≡ Some r) where
  met_is : (met_at image fit v m.ino r row).met ≡ m
  met_is = let q = met_at image fit v m.ino r row in one_met image.core plain fit v.sound q.met m q.stands i q.number

  file_is : (met_at image fit v m.ino r row).file ≡ f
  file_is = search (arith, met_at, Ok-one, met_is)

  -- the chain of a file that is met
  pub chain_read : settled_chain image r.kind m.ino ≡ Ok f.chain
  chain_read = chain_met image fit v m.ino r row ∙ ap (λ (x : FileRead). Ok x.chain) file_is

  -- the guard of a file that is met
  pub guard_read : guard_of image m.ino ≡ f.body.guard
  guard_read =
      let q = met_at image fit v m.ino r row in
      ap guard_in (body_met image fit v m.ino r row ∙ ap (λ (x : Met). x.body) met_is)
      ∙ ap (λ (b : Body). b.guard) (body_is_at m.kind image.core.range m.body f.body (reads_from image.core m f read).body)

  -- and its size
  pub size_read : size_of image m.ino ≡ f.body.size
  size_read =
      let q = met_at image fit v m.ino r row in
      ap (λ b. (body_at b).size) (body_met image fit v m.ino r row ∙ ap (λ (x : Met). x.body) met_is)
      ∙ ap (λ (b : Body). b.size) (body_is_at m.kind image.core.range m.body f.body (reads_from image.core m f read).body)

-- a file in two images, of one size, guard and chain
pub record Follows (image image' : Image) (n : ℕ) (r r' : Row) : Type 0 where
  pub met : Met
  pub met' : Met
  pub file : FileRead
  pub file' : FileRead
  pub number : met.ino ≡ n
  pub number' : met'.ino ≡ n
  pub stood : In met (survey image.core plain)
  pub stands : In met' (survey image'.core plain)
  pub read : file_of image.core met ≡ Ok file
  pub read' : file_of image'.core met' ≡ Ok file'
  pub size : file'.body.size ≡ file.body.size
  pub guard : file'.body.guard ≡ file.body.guard
  pub chain : file'.chain ≡ file.chain
  pub pages : is_directory r.kind ≡ false → (p : ℕ) → In p file.chain.blocks → page_of image'.core p ≡ page_of image.core p

module _ (image image' : Image) (fit : IsFit image.core) (fit' : IsFit image'.core) (v : Verifies image) (v' : Verifies image') (n : ℕ) (r r' : Row) (row : row_at image n ≡ Some r) (row' : row_at image' n ≡ Some r') (f : Follows image image' n r r') where
  pub size_follows : size_of image' n ≡ size_of image n
  size_follows = search (arith, size_read)

  pub guard_follows : guard_of image' n ≡ guard_of image n
  guard_follows =
      ap (guard_of image') (sym f.number')
      ∙ guard_read image' fit' v' f.met' f.file' f.stands f.read' r' (ap (row_at image') f.number' ∙ row')
      ∙ f.guard
      ∙ sym (guard_read image fit v f.met f.file f.stood f.read r (ap (row_at image) f.number ∙ row))
      ∙ ap (guard_of image) f.number

  blocks_follow : is_directory r.kind ≡ false → blocks_of image' n r' None ≡ blocks_of image n r None
  blocks_follow plain' =
      let was : settled_chain image r.kind n ≡ Ok f.file.chain = ap (settled_chain image r.kind) (sym f.number) ∙ chain_read image fit v f.met f.file f.stood f.read r (ap (row_at image) f.number ∙ row) in
      let now : settled_chain image' r'.kind n ≡ Ok f.file'.chain = ap (settled_chain image' r'.kind) (sym f.number') ∙ chain_read image' fit' v' f.met' f.file' f.stands f.read' r' (ap (row_at image') f.number' ∙ row') in
      search (arith, sheets_same)

  -- the blocks are the same, whoever writes
  blocks_whoever : (w : Option OpenGrant) → is_directory r.kind ≡ false → blocks_of image' n r' w ≡ blocks_of image n r w
  blocks_whoever None plain' = blocks_follow plain'
  blocks_whoever (Some g) plain' = refl

  pub data_follows : (w : Option OpenGrant) → is_directory r.kind ≡ false → data_of image' n r' w ≡ data_of image n r w
  data_follows w plain' =
      ap (λ z. bytes_of_sheets z (blocks_of image' n r' w)) size_follows ∙ ap (bytes_of_sheets (size_of image n)) (blocks_whoever w plain')

  pub bytes_follow : (w : Option OpenGrant) → bytes_of image' n r' w r.kind ≡ bytes_of image n r w r.kind
  bytes_follow w = by (is_directory r.kind) refl
    where
      by : (t : Bool) → is_directory r.kind ≡ t → cond t [] (data_of image' n r' w) ≡ cond t [] (data_of image n r w)
      by true e = refl
      by false e = data_follows w e
