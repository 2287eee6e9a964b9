-- The guard of a file is set: its body alone changes, and what a session keeps of its files stays.
use Rattle.trio_session.proofs.Words.{◌+◌, ◌∙◌, ◌≡◌, ◌≢◌, AmongMade, AmongWritten, AreDirs, AreLaid, AreMade, Bool, Chain, FilePlace, Files, FoundAt, HasChain, In, IndexedDir, IsFile, IsOne, IsRelaid, IsWholeAt, Laid, Leased, List, Made, MadeAnew, OneFile, Parcel, Shown, WrittenAnew, [], ap, are_new, arith, block_count, body_at, body_guarded, chain_at, eqb, false, file_of, fresh_places, home_at, index_count, inl, is_directory, is_directory-false, length, refl, set_same, size_in, subst, sym, with_body_at, ℕ}
use Rattle.std.specs.Int.{from_le_bytes, w64}
use Rattle.std.specs.Prelude.{◌∷◌}
use Rattle.trio_page.specs.Field.{number_at}
use Rattle.trio_page.proofs.Fields.{length-with_part, slice-with_part_below}
use Rattle.trio_layout.specs.Body.{guard_byte}
use Rattle.trio_session.proofs.Kept.{IsFile-one, files_of}
use Rattle.trio_session.proofs.Relaid.{AreDirs-relaid, AreMade-relaid, EditsOne, relays}
use Rattle.trio_session.proofs.Stays.{LeavesFiles, body_leaves, chain_left, file_left}
use Rattle.trio_session.proofs.Untouched.{EditsFile, spares_same}

-- ---- the body

-- its size stays
pub size_guarded : (on : Bool) (body : List ℕ) → length body ≡ 64 → size_in (body_guarded on body) ≡ size_in body
unfolding number_at
size_guarded on body len = ap (from_le_bytes w64) (slice-with_part_below 24 (guard_byte on ∷ []) body 16 24 (omega (arith, len)) (omega arith))

pub length-body_guarded : (on : Bool) (body : List ℕ) → length body ≡ 64 → length (body_guarded on body) ≡ 64
length-body_guarded on body len = length-with_part 24 (guard_byte on ∷ []) body (omega (arith, len)) ∙ len

-- ---- the file

-- what it makes of the file at a place
pub record GuardDone (b b' : Parcel) (on : Bool) (file : FilePlace) (l l' : Laid) : Type 0 where
  pub edit : b' ≡ with_body_at (home_at b file) (body_guarded on (body_at b file)) b
  pub same : l' ≡ l
  pub chain : chain_at b' file l' ≡ chain_at b file l
  pub laid : IsFile b' file l'
  pub has : HasChain b' file l'
  pub full : length (body_at b file) ≡ 64
  pub whole : IsWholeAt b file
  pub others : (i : ℕ) → Leased i ≢ file → body_at b' (Leased i) ≡ body_at b (Leased i)

pub guard_leaves : (b b' : Parcel) (on : Bool) (file : FilePlace) → b' ≡ with_body_at (home_at b file) (body_guarded on (body_at b file)) b → LeavesFiles b b'
guard_leaves b b' on file edit = subst (LeavesFiles b) (sym edit) (body_leaves (home_at b file) (body_guarded on (body_at b file)) b)

-- by the body that it has then
pub guard_done : (b b' : Parcel) (on : Bool) (file : FilePlace) (l : Laid) → IsFile b file l → HasChain b file l → b' ≡ with_body_at (home_at b file) (body_guarded on (body_at b file)) b
    → body_at b' file ≡ body_guarded on (body_at b file) → length (body_at b file) ≡ 64 → IsWholeAt b file → ((i : ℕ) → Leased i ≢ file → body_at b' (Leased i) ≡ body_at b (Leased i))
    → GuardDone b b' on file l l
guard_done b b' on file l is has edit now full whole others =
    let leaves = guard_leaves b b' on file edit in
    let chain = chain_left b b' file l leaves in
    let size : size_in (body_at b' file) ≡ size_in (body_at b file) = ap size_in now ∙ size_guarded on (body_at b file) full in
    record {
      edit = edit;
      same = refl;
      chain = chain;
      laid = file_left b b' file l leaves is;
      has = record {
        blocks = ap (λ (c : Chain). length c.blocks) chain ∙ has.blocks ∙ ap block_count (sym size);
        index = ap (λ (c : Chain). length c.index) chain ∙ has.index ∙ ap (λ n. index_count (block_count n)) (sym size);
      };
      full = full;
      whole = whole;
      others = others;
    }

-- ---- the session's files

-- the file is laid as it was
pub relaid_here : (done : FilePlace → Laid → Laid → Type 0) (b : Parcel) (ls : List Laid) (ms : List Made) (ino : ℕ) (file : FilePlace) (l : Laid) → FoundAt b ls ms ino file l → done file l l
    → IsRelaid done b ls ms ino ls ms
relaid_here done b ls ms ino file l found is = elim found [
  | AmongMade at m e there ef el ↦
      MadeAnew at m m.laid e there (subst (λ f. done f m.laid m.laid) ef (subst (λ k. done file k k) el is)) refl (sym (set_same ms at m there))
  | AmongWritten at none e el ef ↦ WrittenAnew at l l none e el (subst (λ f. done f l l) ef is) (sym (set_same ls at l el)) refl
]

pub kept_guard : (placed : ℕ) (reads : List Shown) (b b' : Parcel) (ls : List Laid) (ms cs : List Made) (dirs : List IndexedDir) (on : Bool) (ino : ℕ)
    → LeavesFiles b b' → AreLaid b ls → AreMade placed reads (files_of b ls ms cs) → AreDirs reads (files_of b ls ms cs) dirs → IsRelaid (GuardDone b b' on) b ls ms ino ls ms
    → ((x : OneFile) → IsOne (files_of b ls ms cs) x → x.ino ≡ ino → is_directory x.kind ≡ false)
    → AreMade placed reads (files_of b' ls ms cs) × AreDirs reads (files_of b' ls ms cs) dirs
kept_guard placed reads b b' ls ms cs dirs on ino leaves laid made are relaid kind =
    let fs = files_of b ls ms cs in
    let r = relays placed reads b b' ls ms cs leaves made (GuardDone b b' on) ino ls ms relaid in
    let x = r.0 in
    let l' = r.1 in
    let done = r.3 in
    let plain : is_directory x.kind ≡ false = kind x r.2.old r.4 in
    let edit : EditsFile [] (home_at b x.file) b b' = record {
      written = b;
      body = body_guarded on (body_at b x.file);
      edit = done.edit;
      spares = spares_same [] b;
      sized = length-body_guarded on (body_at b x.file) done.full;
    } in
    let all : EditsOne placed placed reads b b' ls ls ms ms cs x l' [] = record {
      are_laid = laid;
      made = made;
      leaves = leaves;
      relays = r.2;
      is_file = IsFile-one placed reads fs x laid made r.2.old;
      edit = edit;
      whole_home = done.whole;
      new_file = done.laid;
      has = done.has;
      others = done.others;
      more = omega arith;
      once = ap (λ (k : Laid). are_new [] (fresh_places k)) done.same ∙ made.spread.once x r.2.old;
      places = λ at h. inl (subst (λ (k : Laid). In at (fresh_places k)) done.same h);
      below = λ at h. made.spread.below x at r.2.old (subst (λ (k : Laid). In at (fresh_places k)) done.same h);
      out = λ y n one dir h k. k;
      spare = λ n h k. k;
      grows = λ dir. absurd (is_directory-false x.kind plain dir);
      whole = λ dir. absurd (is_directory-false x.kind plain dir);
    } in (
      AreMade-relaid placed placed reads b b' ls ls ms ms cs x l' [] all,
      AreDirs-relaid placed placed reads b b' ls ls ms ms cs x l' [] all dirs are plain,
    )
