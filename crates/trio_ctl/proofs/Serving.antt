-- What memory serves.
use Rattle.trio_ctl.proofs.Words.{◌*◌, ◌+◌, ◌≡◌, ◌≤◌, BundleSize, HoldParts, InoParts, Kit, LentFile, Serves, Sizes, arith, bundle_in, bundle_pages, core_count, length, length-map, true, written_in, ℕ}
use Rattle.trio_case.specs.Memory.{value_count}
use Rattle.trio_ctl.specs.Kits.{IsKit}

-- memory for a size that no bundle passes whose release needs at most so many bytes serves each such release
pub serves_so : (z : Sizes) (bytes : ℕ) (size : BundleSize) (core : ℕ) (kit : Kit)
    → ((pages values : ℕ) → 4 * (z.range.end + z.inodes) + 16384 * pages + 1024 * (1 + values) ≤ bytes → (pages ≤ size.pages) × (values ≤ size.values))
    → (size.holds ≡ size.values) × (size.inodes ≡ size.values) × (size.lists ≡ true)
    → core_count z.range ≡ core → IsKit size core kit → Serves z bytes kit
serves_so z bytes size core kit within all cores is = λ b enough.
    let w = length-map b.writes (λ (f : LentFile). written_in f.stands) in
    let h = length-map b.holds (λ (x : HoldParts). x.ino) in
    let n = length-map b.inodes (λ (x : InoParts). x.no) in
    let fits = within (length (bundle_pages (bundle_in b))) (value_count b) (omega (arith, enough, w, h, n)) in
    let values : length b.writes + length b.holds + length b.inodes ≤ size.values = fits.1 in
    let holds : size.holds ≡ size.values = all.0 in
    let inodes : size.inodes ≡ size.values = all.1 in
    is z b (record { pages = fits.0; values = values; holds = omega (arith, values, holds); inodes = omega (arith, values, inodes); lists = λ writes. all.2 }) cores
