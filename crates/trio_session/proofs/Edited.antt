-- Writes of pages one after another, and the write of a body: what they keep of files.
use Rattle.trio_session.proofs.Words.{◌%◌, ◌*◌, ◌/◌, ◌<◌, ◌∙◌, ◌∷◌, ◌≡◌, FilePlace, IsFile, Laid, Leased, List, Parcel, [], arith, body_at, body_sized, chain_at, get_or, length, length-with_number, linked, numbered, page_in, put_block, put_blocks, refl, size_in, slice_index, suc, unlinked, unnamed, w32, w64, with_block_number, with_number, with_number_in, with_page, written_on, zero, ℕ}
use Rattle.trio_page.proofs.Fields.{number64_again}
use Rattle.trio_session.proofs.Stays.{LeavesFiles, body_stays, chain_left, file_left, leaves_same, leaves_then, page_leaves}

-- what writes of pages keep
pub record Keeps (b b' : Parcel) : Type 0 where
  pub leaves : LeavesFiles b b'
  pub body : (at : ℕ) → body_at b' (Leased at) ≡ body_at b (Leased at)

pub keeps_file : (b b' : Parcel) (file : FilePlace) (l : Laid) → Keeps b b' → IsFile b file l → IsFile b' file l
keeps_file b b' file l keeps is = file_left b b' file l keeps.leaves is

pub keeps_chain : (b b' : Parcel) (file : FilePlace) (l : Laid) → Keeps b b' → chain_at b' file l ≡ chain_at b file l
keeps_chain b b' file l keeps = chain_left b b' file l keeps.leaves

pub page_keeps : (n : ℕ) (w : List ℕ) (b : Parcel) → Keeps b (with_page n w b)
page_keeps n w b = record { leaves = page_leaves n w b; body = body_stays n w b }

pub keeps_then : (a b c : Parcel) → Keeps a b → Keeps b c → Keeps a c
keeps_then a b c p q = record { leaves = leaves_then a b c p.leaves q.leaves; body = λ at. q.body at ∙ p.body at }

pub keeps_same : (b : Parcel) → Keeps b b
keeps_same b = record { leaves = leaves_same b; body = λ at. refl }

pub blocks_keep : (blocks : List ℕ) (k more at : ℕ) (new : List ℕ) (b : Parcel) → Keeps b (put_blocks blocks k more at new b)
blocks_keep blocks k zero at new b = keeps_same b
blocks_keep blocks k (suc more) at new b =
    let b' = put_block blocks k at new b in
    let n = slice_index blocks k in
    keeps_then b b' (put_blocks blocks (suc k) more at new b') (page_keeps n (written_on k at new (page_in b n)) b) (blocks_keep blocks (suc k) more at new b')

-- ---- numbers written one after another

number_keeps : (n at value : ℕ) (b : Parcel) → Keeps b (with_number_in n at value b)
number_keeps n at value b = page_keeps n (with_number w64 at value (page_in b n)) b

pub linked_keep : (xs : List ℕ) (b : Parcel) → Keeps b (linked xs b)
linked_keep [] b = keeps_same b
linked_keep (n ∷ []) b = keeps_same b
linked_keep (n ∷ (m ∷ rest)) b =
    let b' = with_number_in n 4088 m b in
    keeps_then b b' (linked (m ∷ rest) b') (number_keeps n 4088 m b) (linked_keep (m ∷ rest) b')

pub unlinked_keep : (xs : List ℕ) (b : Parcel) → Keeps b (unlinked xs b)
unlinked_keep [] b = keeps_same b
unlinked_keep (n ∷ rest) b =
    let b' = with_number_in n 4088 0 b in
    keeps_then b b' (unlinked rest b') (number_keeps n 4088 0 b) (unlinked_keep rest b')

pub numbered_keep : (index : List ℕ) (k : ℕ) (xs : List ℕ) (b : Parcel) → Keeps b (numbered index k xs b)
numbered_keep index k [] b = keeps_same b
numbered_keep index k (n ∷ rest) b =
    let b' = with_block_number index k n b in
    keeps_then b b' (numbered index (suc k) rest b') (number_keeps (get_or index (k / 511) 0) (8 * (k % 511)) n b) (numbered_keep index (suc k) rest b')

pub unnamed_keep : (index : List ℕ) (k more : ℕ) (b : Parcel) → Keeps b (unnamed index k more b)
unnamed_keep index k zero b = keeps_same b
unnamed_keep index k (suc more) b =
    let b' = with_block_number index k 0 b in
    keeps_then b b' (unnamed index (suc k) more b') (number_keeps (get_or index (k / 511) 0) (8 * (k % 511)) 0 b) (unnamed_keep index (suc k) more b')

-- a body has the size that was written
pub size_sized : (head size : ℕ) (body : List ℕ) → length body ≡ 64 → size < 18446744073709551616 → size_in (body_sized head size body) ≡ size
size_sized head size body len lt =
    let first = length-with_number w32 12 head body (omega (arith, len)) in
    number64_again 16 size (with_number w32 12 head body) (omega (arith, len, first)) lt
