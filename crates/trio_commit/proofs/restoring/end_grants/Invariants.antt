use Rattle.trio_commit.proofs.Words.{◌≡◌, None, map, take, with_all}
use Rattle.trio_case.specs.declared.listing.ListedFile.{ListedFile}
use Rattle.trio_commit.proofs.restoring.end_grants.Given as goal

abbrev pub invariant-loop-file : goal.invariant-loop-file
invariant-loop-file l = l.checkpoints.items ≡ with_all None (take l.file-index (map (λ (f : ListedFile). f.ino) l.files)) l.fn.checkpoints.items
