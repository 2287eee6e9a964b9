-- What a session keeps of the chains of its files. Cited by its invariant and by private functions alone.
use Rattle.std.specs.Prelude.{◌≡◌, ℕ, List, [], ◌∷◌, length, slice_get, Some}
use Rattle.trio_layout.specs.Chain.{Chain}
use Rattle.trio_lease.specs.Shown.{LentFile}
use Rattle.trio_lease.specs.declared.parts.FreshParts.{FreshParts}
use Rattle.trio_desk.specs.Out.{Parcel, numbers_of_file}
use Rattle.trio_session.specs.inner.Places.{IsFile, HasChain, chain_laid}
use Rattle.trio_session.specs.declared.laid.FilePlace.TheVariants.{Leased}
use Rattle.trio_session.specs.declared.laid.Laid.{Laid}

-- the chains of files, each by where its pages stand
abbrev pub chains_laid : List LentFile → List FreshParts → List Laid → List Chain
chains_laid [] pages laid = []
chains_laid (f ∷ fs) pages [] = []
chains_laid (f ∷ fs) pages (l ∷ ls) = chain_laid f.stands pages l ∷ chains_laid fs pages ls

-- the same file with the same pages as it was lent
pub record HasLent (f : LentFile) : Type 0 where
  pub ino : f.stands.ino ≡ f.lent.ino
  pub numbers : numbers_of_file f.stands ≡ numbers_of_file f.lent

-- each file has the pages that were lent, its places are there, and its chain is as long as its size says
pub record AreLaid (b : Parcel) (laid : List Laid) : Type 0 where
  pub beside : length laid ≡ length b.writes
  pub same : (i : ℕ) (f : LentFile) → slice_get b.writes i ≡ Some f → HasLent f
  pub each : (i : ℕ) (l : Laid) → slice_get laid i ≡ Some l → IsFile b (Leased i) l
  pub chains : (i : ℕ) (l : Laid) → slice_get laid i ≡ Some l → HasChain b (Leased i) l
