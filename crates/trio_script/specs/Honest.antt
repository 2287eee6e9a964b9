-- What the lines of an honest library say, as their words.
use Rattle.std.specs.Prelude.{ℕ, nat_le, Bool, true, false, List, [], ◌∷◌, Option, None, Some, if◌then◌else◌, codes}
use Rattle.std.specs.Option.{option_map}
use Rattle.std.specs.Str.{bytes_eq}
use Rattle.trio_rights.specs.declared.rights.Mode.{Mode}
use Rattle.trio_nodes.specs.declared.call.Call.{Call}
use Rattle.trio_nodes.specs.declared.call.Call.TheVariants.{Mkdir, Create, Write, Read, Truncate, Unlink, Rmdir, Rename, List as ListNames, Stat, Chmod, Symlink, Readlink, Guard}
use Rattle.trio_nodes.specs.Walk.{Path}
use Rattle.trio_script.specs.declared.honest.HonestLine.{HonestLine}
use Rattle.trio_script.specs.declared.honest.HonestLine.TheVariants.{Call as Calls, Settle}
use Rattle.trio_script.specs.Words.{words_of, number_of, mode_of, written_of, path_of}

-- a mode of a file: at most 0o777, which is 511
abbrev pub file_mode : Option ℕ → Option Mode
file_mode (Some bits) = if nat_le bits 511 then Some (record { 0 = bits }) else None
file_mode None = None

-- how many bytes are to be read: at most 4096
abbrev pub read_length : Option ℕ → Option ℕ
read_length (Some n) = if nat_le n 4096 then Some n else None
read_length None = None

-- a path and a mode, where both are there
abbrev pub path_with_mode : Option Path → Option Mode → Option (Path × Mode)
path_with_mode (Some path) (Some mode) = Some (path, mode)
path_with_mode _ _ = None

-- `PATH MODE`
abbrev pub path_and_mode : List (List ℕ) → Option (Path × Mode)
path_and_mode (path ∷ mode ∷ []) = path_with_mode (path_of path) (file_mode (mode_of mode))
path_and_mode _ = None

-- a path and a number, where both are there
abbrev pub path_with_number : Option Path → Option ℕ → Option (Path × ℕ)
path_with_number (Some path) (Some n) = Some (path, n)
path_with_number _ _ = None

-- `PATH NUMBER`
abbrev pub path_and_number : List (List ℕ) → Option (Path × ℕ)
path_and_number (path ∷ n ∷ []) = path_with_number (path_of path) (number_of n)
path_and_number _ = None

-- `PATH`
abbrev pub path_alone : List (List ℕ) → Option Path
path_alone (path ∷ []) = path_of path
path_alone _ = None

-- behind `mkdir`: `PATH MODE`
abbrev pub mkdir_in : List (List ℕ) → Option Call
mkdir_in words = option_map (λ p. Mkdir p.0 p.1) (path_and_mode words)

-- behind `create`: `PATH MODE`
abbrev pub create_in : List (List ℕ) → Option Call
create_in words = option_map (λ p. Create p.0 p.1) (path_and_mode words)

-- bytes to be written, where path, position and bytes are there
abbrev pub wrote : Option Path → Option ℕ → Option (List ℕ) → Option Call
wrote (Some path) (Some at) (Some bytes) = Some (Write path at bytes)
wrote _ _ _ = None

-- behind `write`: `PATH AT TEXT`
abbrev pub write_in : List (List ℕ) → Option Call
write_in (path ∷ at ∷ text ∷ []) = wrote (path_of path) (number_of at) (written_of text)
write_in _ = None

-- bytes to be read, where path, position and length are there
abbrev pub reads : Option Path → Option ℕ → Option ℕ → Option Call
reads (Some path) (Some at) (Some len) = Some (Read path at len)
reads _ _ _ = None

-- behind `read`: `PATH AT LEN`
abbrev pub read_in : List (List ℕ) → Option Call
read_in (path ∷ at ∷ len ∷ []) = reads (path_of path) (number_of at) (read_length (number_of len))
read_in _ = None

-- behind `truncate`: `PATH SIZE`
abbrev pub truncate_in : List (List ℕ) → Option Call
truncate_in words = option_map (λ p. Truncate p.0 p.1) (path_and_number words)

-- behind `unlink`: `PATH`
abbrev pub unlink_in : List (List ℕ) → Option Call
unlink_in words = option_map (λ path. Unlink path) (path_alone words)

-- behind `rmdir`: `PATH`
abbrev pub rmdir_in : List (List ℕ) → Option Call
rmdir_in words = option_map (λ path. Rmdir path) (path_alone words)

-- a file's way from one path to another, where both are there
abbrev pub renamed : Option Path → Option Path → Option Call
renamed (Some from) (Some to) = Some (Rename from to)
renamed _ _ = None

-- behind `rename`: `PATH PATH`
abbrev pub rename_in : List (List ℕ) → Option Call
rename_in (from ∷ to ∷ []) = renamed (path_of from) (path_of to)
rename_in _ = None

-- behind `list`: `PATH FROM`
abbrev pub list_in : List (List ℕ) → Option Call
list_in words = option_map (λ p. ListNames p.0 p.1) (path_and_number words)

-- behind `stat`: `PATH`
abbrev pub stat_in : List (List ℕ) → Option Call
stat_in words = option_map (λ path. Stat path) (path_alone words)

-- behind `chmod`: `PATH MODE`
abbrev pub chmod_in : List (List ℕ) → Option Call
chmod_in words = option_map (λ p. Chmod p.0 p.1) (path_and_mode words)

-- a link with a text, where path and text are there
abbrev pub linked : Option Path → Option (List ℕ) → Option Call
linked (Some path) (Some text) = Some (Symlink path text)
linked _ _ = None

-- behind `symlink`: `PATH TEXT`
abbrev pub symlink_in : List (List ℕ) → Option Call
symlink_in (path ∷ text ∷ []) = linked (path_of path) (written_of text)
symlink_in _ = None

-- behind `readlink`: `PATH`
abbrev pub readlink_in : List (List ℕ) → Option Call
readlink_in words = option_map (λ path. Readlink path) (path_alone words)

-- on and off: `1` and `0`
abbrev pub switch_of : List ℕ → Option Bool
switch_of word = if bytes_eq word (codes "1") then Some true else (if bytes_eq word (codes "0") then Some false else None)

-- a file that is guarded from now on, or no longer, where path and switch are there
abbrev pub guarded : Option Path → Option Bool → Option Call
guarded (Some path) (Some on) = Some (Guard path on)
guarded _ _ = None

-- behind `guard`: `PATH 0` or `PATH 1`
abbrev pub guard_in : List (List ℕ) → Option Call
guard_in (path ∷ switch ∷ []) = guarded (path_of path) (switch_of switch)
guard_in _ = None

-- the fourteen calls, by their first word
abbrev pub call_in : List ℕ → List (List ℕ) → Option Call
call_in command words =
    if bytes_eq command (codes "mkdir") then mkdir_in words else
    (if bytes_eq command (codes "create") then create_in words else
    (if bytes_eq command (codes "write") then write_in words else
    (if bytes_eq command (codes "read") then read_in words else
    (if bytes_eq command (codes "truncate") then truncate_in words else
    (if bytes_eq command (codes "unlink") then unlink_in words else
    (if bytes_eq command (codes "rmdir") then rmdir_in words else
    (if bytes_eq command (codes "rename") then rename_in words else
    (if bytes_eq command (codes "list") then list_in words else
    (if bytes_eq command (codes "stat") then stat_in words else
    (if bytes_eq command (codes "chmod") then chmod_in words else
    (if bytes_eq command (codes "symlink") then symlink_in words else
    (if bytes_eq command (codes "readlink") then readlink_in words else
    (if bytes_eq command (codes "guard") then guard_in words else None)))))))))))))

-- behind `settle` stands nothing
abbrev pub settle_in : List (List ℕ) → Option HonestLine
settle_in [] = Some Settle
settle_in _ = None

-- the fourteen calls and `settle`, by their first word
abbrev pub honest_in : List (List ℕ) → Option HonestLine
honest_in (command ∷ words) = if bytes_eq command (codes "settle") then settle_in words else option_map (λ call. Calls call) (call_in command words)
honest_in [] = None

-- what a line of an honest library says, where it has one of the fifteen forms
abbrev pub honest_said : List ℕ → Option HonestLine
honest_said line = honest_in (words_of line)
