-- The same files of a session with the same pages, and perhaps new ones without pages: what of its invariant goes with them.
use Rattle.trio_session.proofs.Words.{◌∙◌, ◌≡◌, ◌⊎◌, AreDirs, AreRead, AreSpread, Chain, Directory, Files, In, IndexedDir, IsBlock, IsOne, Laid, List, Made, OneFile, Parcel, Shown, [], ap, are_new, chain_at, dir_numbers, every_number, fresh_places, inl, inr, map, page_in, refl, slots_of, subst, sym, ℕ}
use Rattle.trio_session.proofs.Kept.{files_of}

-- the same file with the same pages
pub record IsAs (b : Parcel) (x y : OneFile) : Type 0 where
  pub ino : y.ino ≡ x.ino
  pub kind : y.kind ≡ x.kind
  pub places : fresh_places y.laid ≡ fresh_places x.laid
  pub chain : chain_at b y.file y.laid ≡ chain_at b x.file x.laid

pub as_same : (b : Parcel) (x : OneFile) → IsAs b x x
as_same b x = record { ino = refl; kind = refl; places = refl; chain = refl }

-- a file without pages
pub record IsBare (b : Parcel) (x : OneFile) : Type 0 where
  pub places : fresh_places x.laid ≡ []
  pub blocks : (chain_at b x.file x.laid).blocks ≡ []

-- each file was there or is bare, and each that was there is there
pub record HasSame (b : Parcel) (fs fs' : Files) : Type 0 where
  pub was : (y : OneFile) → IsOne fs' y → ((x : OneFile) × IsOne fs x × IsAs b x y) ⊎ IsBare b y
  pub now : (x : OneFile) → IsOne fs x → (y : OneFile) × IsOne fs' y × IsAs b x y

pub block_same : (b : Parcel) (ls ls' : List Laid) (ms ms' cs cs' : List Made) (n : ℕ) → HasSame b (files_of b ls ms cs) (files_of b ls' ms' cs') → IsBlock (files_of b ls ms cs) n
    → IsBlock (files_of b ls' ms' cs') n
block_same b ls ls' ms ms' cs cs' n same block =
    let y = same.now block.dir block.one in
    record { dir = y.0; one = y.1; directory = y.2.kind ∙ block.directory; block = subst (λ (c : Chain). In n c.blocks) (sym y.2.chain) block.block }

pub spread_same : (placed : ℕ) (b : Parcel) (ls ls' : List Laid) (ms ms' cs cs' : List Made) → HasSame b (files_of b ls ms cs) (files_of b ls' ms' cs') → AreSpread placed (files_of b ls ms cs)
    → AreSpread placed (files_of b ls' ms' cs')
spread_same placed b ls ls' ms ms' cs cs' same spread = record {
  once = λ y one. elim (same.was y one) [
    | inr bare ↦ ap (are_new []) bare.places
    | inl x ↦ ap (are_new []) x.2.places ∙ spread.once x.0 x.1
  ];
  apart = λ y z at one other i j. elim (same.was y one) [
    | inr bare ↦ absurd (subst (In at) bare.places i)
    | inl x ↦ elim (same.was z other) [
      | inr bare ↦ absurd (subst (In at) bare.places j)
      | inl w ↦ x.2.ino ∙ spread.apart x.0 w.0 at x.1 w.1 (subst (In at) x.2.places i) (subst (In at) w.2.places j) ∙ sym w.2.ino
    ]
  ];
  below = λ y at one i. elim (same.was y one) [
    | inr bare ↦ absurd (subst (In at) bare.places i)
    | inl x ↦ spread.below x.0 at x.1 (subst (In at) x.2.places i)
  ];
}

none_read : AreRead []
none_read = record { each = λ page i. absurd i; differ = tt }

pub dirs_same : (reads : List Shown) (b : Parcel) (ls ls' : List Laid) (ms ms' cs cs' : List Made) (dirs : List IndexedDir) → HasSame b (files_of b ls ms cs) (files_of b ls' ms' cs')
    → AreDirs reads (files_of b ls ms cs) dirs → AreDirs reads (files_of b ls' ms' cs') dirs
dirs_same reads b ls ls' ms ms' cs cs' dirs same are = record {
  once = are.once;
  indexed = λ d i. elim (are.indexed d i) [
    | inr read ↦ inr read
    | inl here ↦
        let y = same.now here.dir here.one in
        inl (record {
          dir = y.0;
          one = y.1;
          number = y.2.ino ∙ here.number;
          directory = y.2.kind ∙ here.directory;
          inodes = here.inodes;
          slots = here.slots ∙ sym (ap (λ (c : Chain). slots_of every_number (map (page_in b) c.blocks)) y.2.chain);
        })
  ];
  readable = λ y one dir. elim (same.was y one) [
    | inr bare ↦ inr (subst (λ ns. AreRead (map (page_in b) ns)) (sym bare.blocks) none_read)
    | inl x ↦ elim (are.readable x.0 x.1 (sym x.2.kind ∙ dir)) [
      | inl i ↦ inl (subst (λ n. In n (dir_numbers dirs)) (sym x.2.ino) i)
      | inr read ↦ inr (subst (λ (c : Chain). AreRead (map (page_in b) c.blocks)) (sym x.2.chain) read)
    ]
  ];
}
