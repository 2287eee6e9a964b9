-- When a directory may get an empty slot, and when a file may be made in one or move to one, without memory; and what that leaves.
use Rattle.std.specs.Prelude.{◌≡◌, ◌≢◌, ◌<◌, ◌≤◌, ◌+◌, ◌%◌, ℕ, IsTrue, List, None, Some, is_some, length}
use Rattle.std.specs.Option.{option_map_or}
use Rattle.trio_lists.specs.Lists.{In}
use Rattle.trio_rights.specs.declared.kind.Kind.{Kind}
use Rattle.trio_rights.specs.declared.kind.Kind.TheVariants.{Directory}
use Rattle.trio_layout.specs.Body.{block_count}
use Rattle.trio_session.specs.Asked.{IsAlike}
use Rattle.trio_session.specs.Deeds.{moved_shown, new_number, slot_growth}
use Rattle.trio_session.specs.Layout.{size_in}
use Rattle.trio_session.specs.Seen.{IsOpenDir, MadeFile, SessionSeen, body_in, chain_in, clear, cleared_file, empty_shown, fill, grant_in, is_allotted, kept_chain, place_shown, room_in, spare_number, spare_pages}

-- A directory of this size without an empty slot may grow by a block: pages are spare, and there are places for it.
pub record MayAddSlot (s : SessionSeen) (dir' size' : ℕ) : Type 0 where
  pub opens : IsOpenDir s dir'
  pub size : size' ≡ size_in (body_in s dir')
  pub few : size' ≤ 33554432
  pub whole : size' % 4096 ≡ 0
  pub count : block_count size' ≡ length (chain_in s dir').blocks
  pub pages : slot_growth s dir' ≤ length (spare_pages s)
  pub room : block_count size' + 1 ≤ room_in s dir'
  pub slots : In dir' s.room.slots

-- A new file takes no memory under this name in a directory: the directory has an empty slot and no such name, a number is spare, which is
-- that of no other file, and there are places.
pub record MayMakeFile (s : SessionSeen) (name' : List ℕ) (dir' : ℕ) : Type 0 where
  pub opens : IsOpenDir s dir'
  pub new : place_shown s dir' name' ≡ None
  pub empty : IsTrue (is_some (empty_shown s dir'))
  pub spare : IsTrue (is_some (spare_number s))
  pub number : 0 < new_number s
  pub nothing : grant_in s (new_number s) ≡ None
  pub uncleared : cleared_file s (new_number s) ≡ None
  pub names : In dir' s.room.names
  pub place : length s.made < s.room.made

-- What a file that was made brings into a slot again, but for a place for it: its kind, and a body that says as many blocks as it has.
pub record BringsMade (s : SessionSeen) (ino' : ℕ) (kind' : Kind) (body' : List ℕ) : Type 0 where
  pub nothing : grant_in s ino' ≡ None
  pub same : option_map_or (λ (m : MadeFile). m.kind) (cleared_file s ino') kind' ≡ kind'
  pub blocks : block_count (size_in body') ≡ length (kept_chain s ino').blocks
  pub whole : kind' ≡ Directory → size_in body' % 4096 ≡ 0

-- A file that moves by its name in a directory to an empty slot of another, with its kind and its body, takes no memory.
pub record MayPut (s : SessionSeen) (old new : List ℕ) (dir' new_dir' ino' : ℕ) : Type 0 where
  pub opens : IsOpenDir s dir'
  pub there : IsTrue (is_some (place_shown s dir' old))
  pub takes : IsTrue (is_some (moved_shown s ino'))
  pub opens_new : IsOpenDir (clear dir' old s) new_dir'
  pub free : place_shown (clear dir' old s) new_dir' new ≡ None
  pub empty : IsTrue (is_some (empty_shown (clear dir' old s) new_dir'))
  pub number : 0 < ino'
  pub made : (kind : Kind) (body : List ℕ) → moved_shown s ino' ≡ Some (kind, body) → IsTrue (is_allotted (clear dir' old s) ino') → BringsMade (clear dir' old s) ino' kind body
  pub apart : new_dir' ≢ dir'
  pub names : In new_dir' s.room.names
  pub place : length s.made < s.room.made

-- what it is then
pub record PutFile (s : SessionSeen) (old new : List ℕ) (dir' new_dir' ino' : ℕ) (s' : SessionSeen) : Type 0 where
  pub kind : Kind
  pub body : List ℕ
  pub takes : moved_shown s ino' ≡ Some (kind, body)
  pub put : IsAlike (fill new_dir' new ino' kind body (clear dir' old s)) s'
  pub calls : s'.room.calls ≡ s.room.calls
