-- The superblock of pages.
use Rattle.trio_image.proofs.Words.{if◌then◌else◌, ◌∙◌, ◌≡◌, HasSuperblock, IsSuperblock, IsVerified, List, Option, Some, Superblock, ap, arith, bytes_eq, current_version, only, refl, subst, superblock_fits, sym, true-bytes_eq, ℕ}
use Rattle.trio_layout.specs.Superblock.{superblock_at, superblock_bytes, superblock_of, superblock_of_version}
use Rattle.trio_survey.specs.Verdict.{superblock_in}
use Rattle.std.specs.Option.{option_and_then}
use Rattle.std.specs.Prelude.{IsSome, ◌&&◌, None}

-- pages have one superblock at most
pub same_superblock : (s t : Superblock) (pages : List (Option (List ℕ))) → HasSuperblock s pages → HasSuperblock t pages → s ≡ t
same_superblock s t pages a b =
    let same : Some a.bytes ≡ Some b.bytes = sym a.here ∙ b.here in
    let bytes : a.bytes ≡ b.bytes = cc in
    sym (only current_version a.bytes s (omega arith) a.read).0 ∙ ap superblock_at bytes ∙ (only current_version b.bytes t (omega arith) b.read).0

pub verified_by : (s t : Superblock) (pages : List (Option (List ℕ))) → IsVerified s pages → HasSuperblock t pages → IsVerified t pages
verified_by s t pages v has = subst (λ (x : Superblock). IsVerified x pages) (same_superblock s t pages v.whole.superblock has) v

-- what the bytes of a superblock are read as
pub superblock_value : (bytes : List ℕ) (s : Superblock) → IsSuperblock bytes s → superblock_of bytes ≡ Some s
unfolding superblock_of_version
superblock_value bytes s is =
    let P : Superblock → Type 0 = λ t. (if bytes_eq bytes (superblock_bytes t) && superblock_fits t then Some t else None) ≡ Some s in
    subst P (sym (only current_version bytes s (omega arith) is).0) (rw (true-bytes_eq bytes (superblock_bytes s) is.spelled, is.fits) refl)

pub superblock_there : (s : Superblock) (pages : List (Option (List ℕ))) → HasSuperblock s pages → IsSome (superblock_in pages)
superblock_there s pages has =
    subst (λ (o : Option Superblock). IsSome o) (sym (ap (option_and_then superblock_of) has.here ∙ superblock_value has.bytes s has.read)) refl
