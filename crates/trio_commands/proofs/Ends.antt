-- What the making, the check and the tree of an image come to.
use Rattle.std.proofs.Common.{◌≡◌, ℕ, ◌⊎◌, List, [], Option, inl, inr, refl, ◌∙◌, arith}
use Rattle.trio_io.specs.Shelf.{Shelf, OnlyReads, OnlyReplaces, told}
use Rattle.trio_layout.specs.declared.superblock.Superblock.{Superblock}
use Rattle.trio_image.specs.Made.{Fits, IsMade, new_counts}
use Rattle.trio_commands.specs.declared.status.Status.{Status}
use Rattle.trio_commands.specs.declared.status.Status.TheVariants.{Done, NotVerified, Usage, ReadFault, WriteFault, NoMemory as StatusNoMemory, TooLong}
use Rattle.trio_commands.specs.Check.{Check}
use Rattle.trio_commands.specs.Images.{ImageStops}
use Rattle.trio_commands.specs.Lines.{made_line, usage_line}
use Rattle.trio_commands.specs.New.{New}
use Rattle.trio_commands.specs.Saved.{SaveComesTo}
use Rattle.trio_commands.specs.Tree.{Tree}
use Rattle.trio_commands.specs.declared.words.TreeForm.{TreeForm}

-- ---- a new image

nothing_changes : (out : List ℕ) (old : Shelf) → OnlyReplaces out old old
nothing_changes out old = record { others = λ q ne. refl; reads = refl; writes = record { later = λ q. omega arith; others = λ q ne. refl }; serves = refl; tells = refl }

pub new_no_memory : (out : List ℕ) (pages inodes : ℕ) (old : Shelf) (text : List ℕ) (status : Status) → status ≡ StatusNoMemory → text ≡ [] → New out pages inodes old old text status
new_no_memory out pages inodes old text status is none = rw (is, none) (record { comes_to = refl; keeps = refl; files = nothing_changes out old })

pub new_usage : (out : List ℕ) (pages inodes : ℕ) (old : Shelf) (text : List ℕ) (status : Status) → (Fits pages inodes → ⊥) → ((status ≡ Usage) × (text ≡ usage_line)) ⊎ ((status ≡ StatusNoMemory) × (text ≡ [])) → New out pages inodes old old text status
new_usage out pages inodes old text status unfit (inl told) = rw (told.0, told.1) (record { comes_to = (unfit, refl); keeps = refl; files = nothing_changes out old })
new_usage out pages inodes old text status unfit (inr lacking) = new_no_memory out pages inodes old text status lacking.0 lacking.1

module _ (out : List ℕ) (pages inodes : ℕ) (old new : Shelf) (s : Superblock) (image : List (Option (List ℕ))) (line : List ℕ)
    (fits : Fits pages inodes) (made : IsMade pages inodes s image) (line_is : line ≡ made_line pages inodes (new_counts pages inodes).free) (put : OnlyReplaces out old new) where
  pub new_saved : (text : List ℕ) (status : Status) → SaveComesTo out image line old new text status → New out pages inodes old new text status
  new_saved text Done saved = record {
    comes_to = record { fits = fits; superblock = s; image = image; made = made; put = saved.1 ∙ line_is; written = saved.0.written; written_verifies = saved.0.verifies };
    keeps = put.others;
    files = put;
  }
  new_saved text WriteFault saved = record { comes_to = record { fits = fits; rose = saved.0; untold = saved.1; put = saved.2 }; keeps = put.others; files = put }
  new_saved text StatusNoMemory saved = record { comes_to = saved.1; keeps = saved.0; files = put }
  new_saved text _ saved = absurd saved

-- ---- an image that is checked

pub check_stop : (image : List ℕ) (old new : Shelf) (text : List ℕ) (status : Status) → ImageStops image old new text status → OnlyReads image old new → Check image old new text status
check_stop image old new text NotVerified why files = record { comes_to = why; files = files }
check_stop image old new text ReadFault why files = record { comes_to = why; files = files }
check_stop image old new text StatusNoMemory why files = record { comes_to = why; files = files }
check_stop image old new text TooLong why files = record { comes_to = why; files = files }
check_stop image old new text _ why files = absurd why

-- ---- an image whose tree is told

pub tree_stop : (image : List ℕ) (form : TreeForm) (old new : Shelf) (text : List ℕ) (status : Status) → ImageStops image old new text status → OnlyReads image old new → Tree image form old new text status
tree_stop image form old new text NotVerified why files = record { comes_to = why; files = files }
tree_stop image form old new text ReadFault why files = record { comes_to = why; files = files }
tree_stop image form old new text StatusNoMemory why files = record { comes_to = why; files = files }
tree_stop image form old new text TooLong why files = record { comes_to = why; files = files }
tree_stop image form old new text _ why files = absurd why
