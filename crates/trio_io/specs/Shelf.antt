-- What contracts see of some files and of a sink, and what a call does to them.
use Rattle.std.specs.Prelude.{◌≡◌, ◌≢◌, ℕ, ◌+◌, ◌-◌, ◌^◌, ◌<◌, ◌≤◌, min, Bool, if◌then◌else◌, List, length, take, drop, Some, None, IfSome, IfOk, Option, Result}

-- Some files, by name. A name is the list of its bytes.
pub record Shelf : Type 0 where
  -- the names that may be asked for
  pub served : List (List ℕ)
  -- whether a content that is put in place is told from then on
  pub tells : Bool
  -- the bytes of the file of a name, where they are told
  pub held : List ℕ → Option (List ℕ)
  -- how often a read of a name has failed
  pub read_faults : List ℕ → ℕ
  -- how often a write of a name has failed
  pub write_faults : List ℕ → ℕ

-- A sink.
pub record SinkSeen : Type 0 where
  -- all bytes that were put into it, where they are told
  pub written : Option (List ℕ)
  -- how often a put has failed
  pub faults : ℕ

-- a count has risen, or stands at the end of its type
abbrev pub Rose : ℕ → ℕ → Type 0
Rose before now = min (before + 1) (2 ^ 64 - 1) ≤ now

-- of the counts by name none has fallen, and no other name's has changed
pub record RisesAt (name : List ℕ) (before now : List ℕ → ℕ) : Type 0 where
  pub later : (q : List ℕ) → before q ≤ now q
  pub others : (q : List ℕ) → q ≢ name → now q ≡ before q

-- no read and no write of any name has failed
pub record NoFaults (files : Shelf) : Type 0 where
  pub reads : (q : List ℕ) → files.read_faults q ≡ 0
  pub writes : (q : List ℕ) → files.write_faults q ≡ 0

-- a content that was put in place, where such contents are told
abbrev pub told : Bool → List ℕ → Option (List ℕ)
told tells bytes = if tells then Some bytes else None

-- where the content is told, it is these bytes
abbrev pub IsTold : Option (List ℕ) → List ℕ → Type 0
IsTold content bytes = IfSome content (λ bs. bs ≡ bytes)

-- where the content is told, it is longer than this
abbrev pub IsLonger : ℕ → Option (List ℕ) → Type 0
IsLonger limit content = IfSome content (λ bs. limit < length bs)

-- At `Ok(n)`, where the content is told: n is the lesser of the buffer's length and what is left from the offset on, and
-- the buffer begins with the n bytes of the content from the offset on. So n is 0 for a buffer that isn't empty at the end alone.
abbrev pub GivesBytes : {E : Type 0} → Option (List ℕ) → ℕ → Result ℕ E → List ℕ → Type 0
GivesBytes content at result buf =
    IfOk result (λ n. IfSome content (λ bs. (n ≡ min (length buf) (length bs - at)) × (take n buf ≡ take n (drop at bs))))

-- every name but this one keeps its content, and whether it is told
abbrev pub KeepsOthers : List ℕ → (List ℕ → Option (List ℕ)) → (List ℕ → Option (List ℕ)) → Type 0
KeepsOthers name old new = (q : List ℕ) → q ≢ name → new q ≡ old q

-- nothing but the count of failed reads of this name may have risen
pub record OnlyReads (name : List ℕ) (old new : Shelf) : Type 0 where
  pub reads : RisesAt name old.read_faults new.read_faults
  pub writes : new.write_faults ≡ old.write_faults
  pub held : new.held ≡ old.held
  pub tells : new.tells ≡ old.tells
  pub serves : new.served ≡ old.served

-- nothing but the content of this name and the count of its failed writes may have changed
pub record OnlyReplaces (name : List ℕ) (old new : Shelf) : Type 0 where
  pub others : KeepsOthers name old.held new.held
  pub writes : RisesAt name old.write_faults new.write_faults
  pub reads : new.read_faults ≡ old.read_faults
  pub tells : new.tells ≡ old.tells
  pub serves : new.served ≡ old.served
