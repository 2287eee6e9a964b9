-- A call within the limits is one of a directory or of a file.
use Rattle.trio_runner.proofs.Words.{◌≡◌, Chmod, Create, ListNames, Mkdir, Rename, Rmdir, Stat, Truncate, Unlink, false, is_dir_call, true}
use Rattle.trio_nodes.specs.declared.call.Call.{Call}
use Rattle.trio_nodes.specs.declared.call.Call.TheVariants.{Guard, Read, Readlink, Symlink, Write}
use Rattle.trio_calls_file.specs.Asks.{IsFileCall}
use Rattle.trio_calls_dir.specs.Dir.{IsDirCall}
use Rattle.trio_script.specs.Within.{IsWithin}

pub dir_call_is : (call : Call) → is_dir_call call ≡ true → IsWithin call → IsDirCall call
dir_call_is (Mkdir path mode) is h = h
dir_call_is (Create path mode) is h = h
dir_call_is (Unlink path) is h = tt
dir_call_is (Rmdir path) is h = tt
dir_call_is (Rename from to) is h = tt
dir_call_is (ListNames path from) is h = tt
dir_call_is (Chmod path mode) is h = h
dir_call_is (Symlink path text) is h = h
dir_call_is (Write path at bytes) is h = absurd cc
dir_call_is (Read path at len) is h = absurd cc
dir_call_is (Truncate path size) is h = absurd cc
dir_call_is (Stat path) is h = absurd cc
dir_call_is (Readlink path) is h = absurd cc
dir_call_is (Guard path on) is h = absurd cc

pub file_call_is : (call : Call) → is_dir_call call ≡ false → IsWithin call → IsFileCall call
file_call_is (Write path at bytes) is h = h
file_call_is (Read path at len) is h = h
file_call_is (Truncate path size) is h = tt
file_call_is (Stat path) is h = tt
file_call_is (Readlink path) is h = tt
file_call_is (Guard path on) is h = tt
file_call_is (Mkdir path mode) is h = absurd cc
file_call_is (Create path mode) is h = absurd cc
file_call_is (Unlink path) is h = absurd cc
file_call_is (Rmdir path) is h = absurd cc
file_call_is (Rename from to) is h = absurd cc
file_call_is (ListNames path from) is h = absurd cc
file_call_is (Chmod path mode) is h = absurd cc
file_call_is (Symlink path text) is h = absurd cc
