-- What is read of honest lines is within the limits of calls.
use Rattle.trio_script.proofs.Words.{◌&&◌, ◌++◌, ◌+◌, ◌∙◌, ◌∷◌, ◌≡◌, ◌≤◌, AllByRecursion, Begun, BegunLines, Bool, Honest, HonestBegun, LibLine, List, None, Option, Raw, RawBegun, Some, [], ap, append-nil, arith, bytes_eq, codes, false, honest_said, length, lib_with, library_said, libs_and, libs_as, libs_from, libs_with, lines_and, lines_of, lines_seen, names_library, nat_lt, nat_tests, own_lines, refl, said_at, subst, sym, text_of, true, words_of, ℕ}
use Rattle.std.proofs.Common.{nat_le}
use Rattle.std.specs.Prelude.{if◌then◌else◌, IfSome, ⊤}
use Rattle.std.specs.Option.{option_map}
use Rattle.trio_nodes.specs.declared.call.Call.TheVariants.{Mkdir, Create, Truncate, Unlink, Rmdir, List as ListNames, Stat, Chmod, Readlink}
use Rattle.trio_nodes.specs.Walk.{Path}
use Rattle.trio_rights.specs.declared.rights.Mode.{Mode}
use Rattle.trio_script.specs.declared.honest.HonestLine.{HonestLine}
use Rattle.trio_script.specs.declared.honest.HonestLine.TheVariants.{Call as Calls}
use Rattle.trio_script.specs.declared.library.LibKind.TheVariants.{Raw as RawKind, Honest as HonestKind}
use Rattle.trio_script.specs.declared.library.LibKind.{LibKind}
use Rattle.trio_script.specs.declared.ScriptLine.{ScriptLine}
use Rattle.trio_script.specs.declared.ScriptLib.{ScriptLib}
use Rattle.trio_script.specs.Words.{number_of, mode_of, not_long, path_of, written_of}
use Rattle.trio_script.specs.Honest.{call_in, file_mode, guard_in, guarded, honest_in, linked, path_alone, path_and_mode, path_and_number, path_with_mode, read_in, read_length, reads, rename_in, renamed, settle_in, switch_of, symlink_in, write_in, wrote}
use Rattle.trio_script.specs.Script.{lines_in, script_libs}
use Rattle.trio_script.specs.Within.{AreWithin, IsWithin, LinesWithin, SaysWithin}

-- ---- options

either : {X : Type 0} (P : X → Type 0) (b : Bool) (x y : Option X) → IfSome x P → IfSome y P → IfSome (if b then x else y) P
either P true x y one other = one
either P false x y one other = other

mapped : {X Y : Type 0} (P : X → Type 0) (Q : Y → Type 0) (f : X → Y) → ((x : X) → P x → Q (f x)) → (o : Option X) → IfSome o P → IfSome (option_map f o) Q
mapped P Q f each (Some x) h = each x h
mapped P Q f each None h = tt

any : {X : Type 0} (o : Option X) → IfSome o (λ x. ⊤)
any (Some x) = tt
any None = tt

-- ---- words

mode_limit : (m : Option ℕ) → IfSome (file_mode m) (λ mode. mode.0 ≤ 511)
mode_limit None = tt
mode_limit (Some bits) = by (nat_le bits 511) refl
  where
    mode : Mode
    mode = record { 0 = bits }

    by : (b : Bool) → nat_le bits 511 ≡ b → IfSome (if b then Some mode else None) (λ (m : Mode). m.0 ≤ 511)
    by true e = grind (arith, nat_tests)
    by false e = tt

path_and_mode_limit : (words : List (List ℕ)) → IfSome (path_and_mode words) (λ p. p.1.0 ≤ 511)
path_and_mode_limit [] = tt
path_and_mode_limit (path ∷ []) = tt
path_and_mode_limit (path ∷ mode ∷ []) = both (path_of path) (file_mode (mode_of mode)) (mode_limit (mode_of mode))
  where
    both : (p : Option Path) (m : Option Mode) → IfSome m (λ x. x.0 ≤ 511) → IfSome (path_with_mode p m) (λ x. x.1.0 ≤ 511)
    both (Some p) (Some m) h = h
    both (Some p) None h = tt
    both None (Some m) h = tt
    both None None h = tt
path_and_mode_limit (path ∷ mode ∷ word ∷ words) = tt

-- what is to be written has 1 to 4096 bytes
written_limit : (text : Option (List ℕ)) → IfSome (not_long text) (λ bytes. (1 ≤ length bytes) × (length bytes ≤ 4096))
written_limit None = tt
written_limit (Some bytes) = by (nat_lt 0 (length bytes)) (nat_le (length bytes) 4096) refl refl
  where
    by : (some few : Bool) → nat_lt 0 (length bytes) ≡ some → nat_le (length bytes) 4096 ≡ few → IfSome (if some && few then Some bytes else None) (λ (bs : List ℕ). (1 ≤ length bs) × (length bs ≤ 4096))
    by true true e f = (grind (arith, nat_tests), grind (arith, nat_tests))
    by true false e f = tt
    by false few e f = tt

write_limit : (words : List (List ℕ)) → IfSome (write_in words) IsWithin
write_limit [] = tt
write_limit (path ∷ []) = tt
write_limit (path ∷ at ∷ []) = tt
write_limit (path ∷ at ∷ text ∷ []) = all_three (path_of path) (number_of at) (written_of text) (written_limit (text_of text))
  where
    all_three : (p : Option Path) (n : Option ℕ) (b : Option (List ℕ)) → IfSome b (λ bytes. (1 ≤ length bytes) × (length bytes ≤ 4096)) → IfSome (wrote p n b) IsWithin
    all_three (Some p) (Some n) (Some b) h = h.1
    all_three (Some p) (Some n) None h = tt
    all_three (Some p) None b h = tt
    all_three None n b h = tt
write_limit (path ∷ at ∷ text ∷ word ∷ words) = tt

read_limit : (words : List (List ℕ)) → IfSome (read_in words) IsWithin
read_limit [] = tt
read_limit (path ∷ []) = tt
read_limit (path ∷ at ∷ []) = tt
read_limit (path ∷ at ∷ len ∷ []) = all_three (path_of path) (number_of at) (read_length (number_of len)) (short (number_of len))
  where
    short : (len : Option ℕ) → IfSome (read_length len) (λ n. n ≤ 4096)
    short None = tt
    short (Some n) = by (nat_le n 4096) refl
      where
        by : (b : Bool) → nat_le n 4096 ≡ b → IfSome (if b then Some n else None) (λ (m : ℕ). m ≤ 4096)
        by true e = grind (arith, nat_tests)
        by false e = tt

    all_three : (p : Option Path) (n m : Option ℕ) → IfSome m (λ x. x ≤ 4096) → IfSome (reads p n m) IsWithin
    all_three (Some p) (Some n) (Some m) h = h
    all_three (Some p) (Some n) None h = tt
    all_three (Some p) None m h = tt
    all_three None n m h = tt
read_limit (path ∷ at ∷ len ∷ word ∷ words) = tt

rename_limit : (words : List (List ℕ)) → IfSome (rename_in words) IsWithin
rename_limit [] = tt
rename_limit (from ∷ []) = tt
rename_limit (from ∷ to ∷ []) = both (path_of from) (path_of to)
  where
    both : (p q : Option Path) → IfSome (renamed p q) IsWithin
    both (Some p) (Some q) = tt
    both (Some p) None = tt
    both None q = tt
rename_limit (from ∷ to ∷ word ∷ words) = tt

symlink_limit : (words : List (List ℕ)) → IfSome (symlink_in words) IsWithin
symlink_limit [] = tt
symlink_limit (path ∷ []) = tt
symlink_limit (path ∷ text ∷ []) = both (path_of path) (written_of text) (written_limit (text_of text))
  where
    both : (p : Option Path) (t : Option (List ℕ)) → IfSome t (λ bytes. (1 ≤ length bytes) × (length bytes ≤ 4096)) → IfSome (linked p t) IsWithin
    both (Some p) (Some t) h = h
    both (Some p) None h = tt
    both None t h = tt
symlink_limit (path ∷ text ∷ word ∷ words) = tt

guard_limit : (words : List (List ℕ)) → IfSome (guard_in words) IsWithin
guard_limit [] = tt
guard_limit (path ∷ []) = tt
guard_limit (path ∷ switch ∷ []) = both (path_of path) (switch_of switch)
  where
    both : (p : Option Path) (on : Option Bool) → IfSome (guarded p on) IsWithin
    both (Some p) (Some on) = tt
    both (Some p) None = tt
    both None on = tt
guard_limit (path ∷ switch ∷ word ∷ words) = tt

-- ---- lines

call_limit : (command : List ℕ) (words : List (List ℕ)) → IfSome (call_in command words) IsWithin
call_limit command words =
    let P = IsWithin in
    let mode = path_and_mode_limit words in
    either P (bytes_eq command (codes "mkdir")) _ _ (mapped (λ p. p.1.0 ≤ 511) P (λ p. Mkdir p.0 p.1) (λ p h. h) (path_and_mode words) mode)
    (either P (bytes_eq command (codes "create")) _ _ (mapped (λ p. p.1.0 ≤ 511) P (λ p. Create p.0 p.1) (λ p h. h) (path_and_mode words) mode)
    (either P (bytes_eq command (codes "write")) _ _ (write_limit words)
    (either P (bytes_eq command (codes "read")) _ _ (read_limit words)
    (either P (bytes_eq command (codes "truncate")) _ _ (mapped (λ p. ⊤) P (λ p. Truncate p.0 p.1) (λ p h. tt) (path_and_number words) (any (path_and_number words)))
    (either P (bytes_eq command (codes "unlink")) _ _ (mapped (λ p. ⊤) P (λ p. Unlink p) (λ p h. tt) (path_alone words) (any (path_alone words)))
    (either P (bytes_eq command (codes "rmdir")) _ _ (mapped (λ p. ⊤) P (λ p. Rmdir p) (λ p h. tt) (path_alone words) (any (path_alone words)))
    (either P (bytes_eq command (codes "rename")) _ _ (rename_limit words)
    (either P (bytes_eq command (codes "list")) _ _ (mapped (λ p. ⊤) P (λ p. ListNames p.0 p.1) (λ p h. tt) (path_and_number words) (any (path_and_number words)))
    (either P (bytes_eq command (codes "stat")) _ _ (mapped (λ p. ⊤) P (λ p. Stat p) (λ p h. tt) (path_alone words) (any (path_alone words)))
    (either P (bytes_eq command (codes "chmod")) _ _ (mapped (λ p. p.1.0 ≤ 511) P (λ p. Chmod p.0 p.1) (λ p h. h) (path_and_mode words) mode)
    (either P (bytes_eq command (codes "symlink")) _ _ (symlink_limit words)
    (either P (bytes_eq command (codes "readlink")) _ _ (mapped (λ p. ⊤) P (λ p. Readlink p) (λ p h. tt) (path_alone words) (any (path_alone words)))
    (either P (bytes_eq command (codes "guard")) _ _ (guard_limit words) tt)))))))))))))

said_limit : (words : List (List ℕ)) → IfSome (honest_in words) SaysWithin
said_limit [] = tt
said_limit (command ∷ words) =
    either SaysWithin (bytes_eq command (codes "settle")) _ _ (settle_limit words) (mapped IsWithin SaysWithin (λ call. Calls call) (λ call h. h) (call_in command words) (call_limit command words))
  where
    settle_limit : (words : List (List ℕ)) → IfSome (settle_in words) SaysWithin
    settle_limit [] = tt
    settle_limit (word ∷ words) = tt

-- ---- libraries

own_within : (number : ℕ) (lines : List (List ℕ)) → AllByRecursion (λ l. SaysWithin l.line) (own_lines honest_said number lines)
own_within number [] = tt
own_within number (line ∷ lines) = by (names_library line) (honest_said line) (said_limit (words_of line)) (own_lines honest_said (number + 1) lines) (own_within (number + 1) lines)
  where
    by : (b : Bool) (said : Option HonestLine) → IfSome said SaysWithin → (more : List (ScriptLine HonestLine)) → AllByRecursion (λ (l : ScriptLine HonestLine). SaysWithin l.line) more
        → AllByRecursion (λ (l : ScriptLine HonestLine). SaysWithin l.line) (if b then [] else said_at number said ++ more)
    by true said h more rest = tt
    by false (Some said) h more rest = (h, rest)
    by false None h more rest = rest

lines_within : (kind : LibKind) (number : ℕ) (lines : List (List ℕ)) → LinesWithin (lines_in kind number lines)
lines_within RawKind number lines = tt
lines_within HonestKind number lines = own_within number lines

libs_within : (number : ℕ) (lines : List (List ℕ)) → AreWithin (libs_from number lines)
libs_within number [] = tt
libs_within number (line ∷ lines) = by (names_library line) (library_said line) (libs_from (number + 1) lines) (libs_within (number + 1) lines)
  where
    by : (b : Bool) (said : Option LibLine) (more : List ScriptLib) → AreWithin more → AreWithin (if b then lib_with said (number + 1) lines ++ more else more)
    by true (Some said) more rest = (lines_within said.kind (number + 1) lines, rest)
    by true None more rest = rest
    by false said more rest = rest

-- what is read of a script
pub script_within : (script : List ℕ) → AreWithin (script_libs script)
script_within script = libs_within 1 (lines_of script)

-- what is closed behind the last line
pub closed_within : (bytes rest : List ℕ) (begun : Option Begun) (number : ℕ) (libs : List ScriptLib) → rest ≡ [] → libs_from 1 (lines_of bytes) ≡ libs_and begun number (lines_of rest) → libs ≡ libs_as begun → AreWithin libs
closed_within bytes rest begun number libs none said is =
    let done : libs_from 1 (lines_of bytes) ≡ libs_as begun = said ∙ ap (λ r. libs_and begun number (lines_of r)) none ∙ append-nil (libs_with begun number []) ∙ no_more begun in
    subst AreWithin (done ∙ sym is) (script_within bytes)
  where
    no_lines_more : (lines : BegunLines) → lines_and lines number [] ≡ lines_seen lines
    no_lines_more (RawBegun lines) = ap Raw (append-nil lines.items)
    no_lines_more (HonestBegun lines) = ap Honest (append-nil lines.items)

    no_more : (begun : Option Begun) → libs_with begun number [] ≡ libs_as begun
    no_more None = refl
    no_more (Some b) = rw (no_lines_more b.lines) refl
