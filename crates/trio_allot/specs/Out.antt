-- What is out by allotment, and how it goes out and comes back.
use Rattle.std.specs.Prelude.{ℕ, zero, suc, ◌+◌, List, [], ◌∷◌, map, Option, Some, None, slice_set}
use Rattle.trio_page.specs.Field.{zeros}
use Rattle.trio_page.specs.Home.{raised}
use Rattle.trio_rights.specs.declared.rights.LibNo.{LibNo}
use Rattle.trio_tables.specs.Out.{none_out, with_all}
use Rattle.trio_lease.specs.declared.parts.FreshParts.{FreshParts}
use Rattle.trio_lease.specs.declared.parts.InoParts.{InoParts}

-- by page number and by inode number, the library that has it out, or None where it isn't out
pub record OutByNumber : Type 0 where
  pub pages : List (Option LibNo)
  pub numbers : List (Option LibNo)

-- nothing is out of so many pages and so many inode numbers; the number 0 has its place, and is none
abbrev pub nothing_out : ℕ → ℕ → OutByNumber
nothing_out pages inodes = record { pages = none_out pages; numbers = none_out (inodes + 1) }

-- once these pages and numbers went out to a library
abbrev pub outs_with : OutByNumber → LibNo → List ℕ → List ℕ → OutByNumber
outs_with outs lib pages numbers = record {
  pages = with_all (Some lib) pages outs.pages;
  numbers = with_all (Some lib) numbers outs.numbers;
}

-- once these pages and numbers are back
abbrev pub outs_after : OutByNumber → List ℕ → List ℕ → OutByNumber
outs_after outs pages numbers = record { pages = with_all None pages outs.pages; numbers = with_all None numbers outs.numbers }

-- a page that goes out: its number, and all zero bytes
abbrev pub fresh_page : LibNo → ℕ → FreshParts
fresh_page lib n = record { lib = lib; no = record { 0 = n }; page = zeros 4096 }

-- an inode number that goes out
abbrev pub fresh_number : LibNo → ℕ → InoParts
fresh_number lib n = record { lib = lib; no = n }

-- a count after so many more looks
abbrev pub raised_by : ℕ → ℕ → ℕ
raised_by zero n = n
raised_by (suc k) n = raised (raised_by k n)

-- the numbers of the pages, in their order
abbrev pub page_numbers : List FreshParts → List ℕ
page_numbers back = map (λ f. f.no.0) back

-- the inode numbers, in their order
abbrev pub inode_numbers : List InoParts → List ℕ
inode_numbers back = map (λ f. f.no) back

-- the pages of an image with these in place, each as it is
abbrev pub with_pages : List FreshParts → List (Option (List ℕ)) → List (Option (List ℕ))
with_pages [] pages = pages
with_pages (f ∷ fs) pages = with_pages fs (slice_set pages f.no.0 (Some f.page))
