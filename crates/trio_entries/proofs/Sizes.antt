-- Memory for more serves less.
use Rattle.trio_entries.proofs.Words.{◌∙◌, ◌≡◌, Bool, BundleSize, Bundled, FileOutline, HasHandedPlaces, HasToldPlaces, HoldParts, InoParts, LentFile, Written, ap, arith, bundle_in, file_outline, is_directory, length, length-map, list_any, list_any-map, outline_of, outline_size, size_of, writes_directory, written_in, ℕ}
use Rattle.trio_case.specs.Memory.{value_count, IsWithin}
use Rattle.trio_entries.specs.Drafts.{HasFinderPlaces, HasOutlinePlaces}
use Rattle.trio_entries.specs.declared.draft.ToldMemory.{ToldMemory}
use Rattle.trio_entries.specs.declared.finder.Finder.{Finder}
use Rattle.trio_entries.specs.declared.handed.HandedRoom.{HandedRoom}
use Rattle.trio_entries.specs.declared.outline.OutlineMemory.{OutlineMemory}
use Rattle.trio_entries.proofs.Few.{pages_outlined}
use Rattle.trio_entries.proofs.FlatPlaces.{room_less}
use Rattle.trio_entries.proofs.Unlisted.{told_within}

-- whether a bundle writes a directory, by its outline
directory_outlined : (b : Bundled) → list_any (λ f. is_directory f.kind) (outline_of (bundle_in b)).writes ≡ writes_directory b
directory_outlined b =
    list_any-map file_outline (λ (f : FileOutline). is_directory f.kind) (bundle_in b).writes
    ∙ list_any-map (λ (f : LentFile). written_in f.stands) (λ (w : Written). is_directory w.kind) b.writes

-- the size of a bundle, by its outline
pub size_outlined : (b : Bundled) → outline_size (outline_of (bundle_in b)) ≡ size_of b
size_outlined b =
    let S : ℕ → ℕ → ℕ → ℕ → Bool → BundleSize = λ pages values holds inodes lists. record { pages = pages; values = values; holds = holds; inodes = inodes; lists = lists } in
    let o = outline_size (outline_of (bundle_in b)) in
    let s = size_of b in
    let writes = length-map b.writes (λ (f : LentFile). written_in f.stands) in
    let outlined = length-map (bundle_in b).writes file_outline in
    let pages = ap length (pages_outlined (bundle_in b)) in
    let holds = length-map b.holds (λ (h : HoldParts). h.ino) in
    let inodes = length-map b.inodes (λ (n : InoParts). n.no) in
    let values : o.values ≡ value_count b = omega (arith, writes, outlined, holds, inodes) in
    ap (λ n. S n o.values o.holds o.inodes o.lists) pages
    ∙ ap (λ n. S s.pages n o.holds o.inodes o.lists) values
    ∙ ap (λ n. S s.pages s.values n o.inodes o.lists) holds
    ∙ ap (λ n. S s.pages s.values s.holds n o.lists) inodes
    ∙ ap (S s.pages s.values s.holds s.inodes) (directory_outlined b)

module _ (b : Bundled) (size : BundleSize) (fits : IsWithin b size) where
  pub outline_less : (m : OutlineMemory) → HasOutlinePlaces size m → HasOutlinePlaces (size_of b) m
  outline_less m h = record {
    files = omega (arith, fits.values, h.files);
    no_files = h.no_files;
    holds = omega (arith, fits.holds, h.holds);
    no_holds = h.no_holds;
    pages = omega (arith, fits.pages, h.pages);
    no_pages = h.no_pages;
    numbers = omega (arith, fits.inodes, h.numbers);
    no_numbers = h.no_numbers;
  }

  handed_less : (r : HandedRoom) → HasHandedPlaces size r → HasHandedPlaces (size_of b) r
  handed_less r h = record {
    heads = omega (arith, fits.values, h.heads);
    no_heads = h.no_heads;
    holds = omega (arith, fits.holds, h.holds);
    no_holds = h.no_holds;
    pages = record { room = room_less size.pages (size_of b).pages r.pages fits.pages h.pages.room; empty = h.pages.empty };
    numbers = omega (arith, fits.inodes, h.numbers);
    no_numbers = h.no_numbers;
  }

  finder_less : (f : Finder) → HasFinderPlaces size f → HasFinderPlaces (size_of b) f
  finder_less f h = record {
    pages = record { order = omega (arith, fits.pages, h.pages.order); pages = omega (arith, fits.pages, h.pages.pages) };
    judged = omega (arith, fits.values, h.judged);
    unjudged = h.unjudged;
    marked = omega (arith, fits.pages, h.marked);
    unmarked = h.unmarked;
  }

  pub told_less : (m : ToldMemory) → HasToldPlaces size m → HasToldPlaces (size_of b) m
  told_less m h = record {
    handed = handed_less m.handed h.handed;
    files = omega (arith, told_within (size_of b) size fits.pages fits.values fits.lists, h.files);
    no_files = h.no_files;
    blocks = omega (arith, fits.pages, h.blocks);
    no_blocks = h.no_blocks;
    finder = finder_less m.finder h.finder;
  }
