-- The lines of the program, as bytes.
use Rattle.std.specs.Prelude.{ℕ, ◌==◌, ◌++◌, List, codes, if◌then◌else◌}
use Rattle.std.specs.Fmt.{decimal}
use Rattle.trio_names.specs.Escaped.{escaped_of}
use Rattle.trio_layout.specs.declared.refusal.Rule.TheVariants.{Tables}
use Rattle.trio_layout.specs.Rule.{rule_number}
use Rattle.trio_report.specs.Report.{counts_text}
use Rattle.trio_report.specs.declared.report.Counts.{Counts}

-- the words of each command
abbrev pub usage_line : List ℕ
usage_line = codes "usage: trio new OUT PAGES INODES | check IMAGE | tree IMAGE [json] | turns IMAGE SCRIPT OUT | run IMAGE SCRIPT OUT [WORKERS] | gen NUMBER FILES | migrate IMAGE OUT\n"

-- the program's name and version
abbrev pub version_line : List ℕ
version_line = codes "trio 0.1.0\n"

-- an image was made: its pages, its inode numbers and its free pages
abbrev pub made_line : ℕ → ℕ → ℕ → List ℕ
made_line pages inodes free =
    codes "made pages " ++ decimal pages ++ codes " inodes " ++ decimal inodes ++ codes " free " ++ decimal free ++ codes "\n"

-- an image verifies, and has so much in use
abbrev pub valid_line : Counts → List ℕ
valid_line counts = codes "valid " ++ counts_text counts

-- an image of version 1 became one of today's version, and has so much in use
abbrev pub migrated_line : Counts → List ℕ
migrated_line counts = codes "migrated " ++ counts_text counts

-- a file of so many bytes is no image
abbrev pub length_line : ℕ → List ℕ
length_line count = codes "length " ++ decimal count ++ codes "\n"

-- the first page is a superblock of another version
abbrev pub image_version_line : ℕ → List ℕ
image_version_line version = codes "version " ++ decimal version ++ codes "\n"

-- the first page is a superblock of no version
abbrev pub bad_superblock_line : List ℕ
bad_superblock_line = codes "bad superblock\n"

-- the rule of this number fails: I1 or I2, or that of the stored tables
abbrev pub invalid_line : ℕ → List ℕ
invalid_line rule = if rule == rule_number Tables then codes "invalid tables\n" else codes "invalid I" ++ decimal rule ++ codes "\n"

-- a file couldn't be read
abbrev pub read_fault_line : List ℕ → List ℕ
read_fault_line name = codes "read fault " ++ escaped_of name ++ codes "\n"

-- a file couldn't be written
abbrev pub write_fault_line : List ℕ → List ℕ
write_fault_line name = codes "write fault " ++ escaped_of name ++ codes "\n"

-- a file is over its limit
abbrev pub too_long_line : List ℕ → List ℕ
too_long_line name = codes "too long " ++ escaped_of name ++ codes "\n"

-- a line of the script is outside its grammar
abbrev pub script_line : ℕ → List ℕ
script_line number = codes "script line " ++ decimal number ++ codes "\n"
