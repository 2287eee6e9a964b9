-- What a library's line and the lines of a raw library say, as their words.
use Rattle.std.specs.Prelude.{ℕ, nat_le, ◌&&◌, List, [], ◌∷◌, Option, None, Some, if◌then◌else◌, codes}
use Rattle.std.specs.Str.{bytes_eq}
use Rattle.trio_nodes.specs.declared.grant.GrantKind.{GrantKind}
use Rattle.trio_nodes.specs.declared.grant.GrantKind.TheVariants.{Read, Write, Hold}
use Rattle.trio_nodes.specs.declared.spot.Spot.{Spot}
use Rattle.trio_nodes.specs.declared.spot.Spot.TheVariants.{Body, Index, Block, Fresh}
use Rattle.trio_script.specs.declared.library.LibKind.{LibKind}
use Rattle.trio_script.specs.declared.library.LibKind.TheVariants.{Raw as RawKind, Honest as HonestKind}
use Rattle.trio_script.specs.declared.library.LibLine.{LibLine}
use Rattle.trio_script.specs.declared.line.RawLine.{RawLine}
use Rattle.trio_script.specs.declared.line.RawLine.TheVariants.{Grant, Back, Allot, Poke, Peek, Release, Mode}
use Rattle.trio_script.specs.Words.{words_of, number_of, mode_of, hex_of, list_of}

-- the kind of library that a word names
abbrev pub library_kind : List ℕ → Option LibKind
library_kind word =
    if bytes_eq word (codes "raw") then Some RawKind else
    (if bytes_eq word (codes "honest") then Some HonestKind else None)

-- a library's line, where its number, uid and gid are numbers, and its kind is one
abbrev pub named : Option ℕ → Option LibKind → Option ℕ → Option ℕ → Option LibLine
named (Some number) (Some kind) (Some uid) (Some gid) = Some (record { number = number; kind = kind; creds = record { uid = uid; gid = gid } })
named _ _ _ _ = None

-- `lib N KIND UID GID`, with the kind `raw` or `honest`
abbrev pub library_in : List (List ℕ) → Option LibLine
library_in (command ∷ number ∷ kind ∷ uid ∷ gid ∷ []) =
    if bytes_eq command (codes "lib") then named (number_of number) (library_kind kind) (number_of uid) (number_of gid) else None
library_in _ = None

-- which library a line begins, of which kind, and with which credentials
abbrev pub library_said : List ℕ → Option LibLine
library_said line = library_in (words_of line)

-- the kind of grant that a word names
abbrev pub grant_kind : List ℕ → Option GrantKind
grant_kind word =
    if bytes_eq word (codes "read") then Some Read else
    (if bytes_eq word (codes "write") then Some Write else
    (if bytes_eq word (codes "hold") then Some Hold else None))

-- a request for a grant, where its number is one and its kind too
abbrev pub granted : Option ℕ → Option GrantKind → Option RawLine
granted (Some ino) (Some kind) = Some (Grant ino kind)
granted _ _ = None

-- behind `grant`: `read INO`, `write INO` or `hold INO`
abbrev pub grant_in : List (List ℕ) → Option RawLine
grant_in (kind ∷ ino ∷ []) = granted (number_of ino) (grant_kind kind)
grant_in _ = None

-- a read lease that is given back, where its number is one
abbrev pub given_back : Option ℕ → Option RawLine
given_back (Some ino) = Some (Back ino)
given_back None = None

-- behind `back`: `INO`
abbrev pub back_in : List (List ℕ) → Option RawLine
back_in (ino ∷ []) = given_back (number_of ino)
back_in _ = None

-- a request for an allotment, where both numbers are
abbrev pub allotted : Option ℕ → Option ℕ → Option RawLine
allotted (Some pages) (Some inodes) = Some (Allot pages inodes)
allotted _ _ = None

-- behind `allot`: `PAGES INODES`
abbrev pub allot_in : List (List ℕ) → Option RawLine
allot_in (pages ∷ inodes ∷ []) = allotted (number_of pages) (number_of inodes)
allot_in _ = None

-- `body INO` or `fresh PAGE`
abbrev pub whole_spot : List ℕ → Option ℕ → Option Spot
whole_spot place (Some number) =
    if bytes_eq place (codes "body") then Some (Body number) else
    (if bytes_eq place (codes "fresh") then Some (Fresh number) else None)
whole_spot place None = None

-- `index INO I` or `block INO I`
abbrev pub part_spot : List ℕ → Option ℕ → Option ℕ → Option Spot
part_spot place (Some ino) (Some i) =
    if bytes_eq place (codes "index") then Some (Index ino i) else
    (if bytes_eq place (codes "block") then Some (Block ino i) else None)
part_spot place _ _ = None

-- bytes to be written, where spot, offset and bytes are there
abbrev pub poked : Option Spot → Option ℕ → Option (List ℕ) → Option RawLine
poked (Some at) (Some offset) (Some bytes) = Some (Poke at offset bytes)
poked _ _ _ = None

-- behind `poke`: `body INO OFF HEX`, `index INO I OFF HEX`, `block INO I OFF HEX` or `fresh PAGE OFF HEX`
abbrev pub poke_in : List (List ℕ) → Option RawLine
poke_in (place ∷ number ∷ offset ∷ hex ∷ []) = poked (whole_spot place (number_of number)) (number_of offset) (hex_of hex)
poke_in (place ∷ ino ∷ i ∷ offset ∷ hex ∷ []) = poked (part_spot place (number_of ino) (number_of i)) (number_of offset) (hex_of hex)
poke_in _ = None

-- how many bytes are to be shown: 1 to 4096
abbrev pub seen_length : Option ℕ → Option ℕ
seen_length (Some n) = if nat_le 1 n && nat_le n 4096 then Some n else None
seen_length None = None

-- bytes to be shown, where spot, offset and length are there
abbrev pub peeked : Option Spot → Option ℕ → Option ℕ → Option RawLine
peeked (Some at) (Some offset) (Some len) = Some (Peek at offset len)
peeked _ _ _ = None

-- behind `peek`: `body INO OFF LEN`, `index INO I OFF LEN`, `block INO I OFF LEN` or `fresh PAGE OFF LEN`
abbrev pub peek_in : List (List ℕ) → Option RawLine
peek_in (place ∷ number ∷ offset ∷ len ∷ []) = peeked (whole_spot place (number_of number)) (number_of offset) (seen_length (number_of len))
peek_in (place ∷ ino ∷ i ∷ offset ∷ len ∷ []) = peeked (part_spot place (number_of ino) (number_of i)) (number_of offset) (seen_length (number_of len))
peek_in _ = None

-- what is to be handed in, where all three lists are
abbrev pub released : Option (List ℕ) → Option (List ℕ) → Option (List ℕ) → Option RawLine
released (Some inos) (Some pages) (Some inodes) = Some (Release inos pages inodes)
released _ _ _ = None

-- behind `release`: `INOS PAGES INODES`, three lists
abbrev pub release_in : List (List ℕ) → Option RawLine
release_in (inos ∷ pages ∷ inodes ∷ []) = released (list_of inos) (list_of pages) (list_of inodes)
release_in _ = None

-- a change of a file's mode, where its number and the mode are there
abbrev pub mode_set : Option ℕ → Option ℕ → Option RawLine
mode_set (Some ino) (Some mode) = Some (Mode ino mode)
mode_set _ _ = None

-- behind `mode`: `INO MODE`
abbrev pub mode_in : List (List ℕ) → Option RawLine
mode_in (ino ∷ mode ∷ []) = mode_set (number_of ino) (mode_of mode)
mode_in _ = None

-- the seven forms, by their first word
abbrev pub said_in : List (List ℕ) → Option RawLine
said_in (command ∷ words) =
    if bytes_eq command (codes "grant") then grant_in words else
    (if bytes_eq command (codes "allot") then allot_in words else
    (if bytes_eq command (codes "poke") then poke_in words else
    (if bytes_eq command (codes "peek") then peek_in words else
    (if bytes_eq command (codes "back") then back_in words else
    (if bytes_eq command (codes "release") then release_in words else
    (if bytes_eq command (codes "mode") then mode_in words else None))))))
said_in [] = None

-- what a line of a raw library says, where it has one of the seven forms
abbrev pub line_said : List ℕ → Option RawLine
line_said line = said_in (words_of line)
