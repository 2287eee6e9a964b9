use Rattle.trio_image.proofs.Words.{inr, rules, sym}
use Rattle.trio_image.proofs.Images.{first_fault, first_superblock}
use Rattle.trio_image.proofs.loading.superblock_of.Goals as goal

pub returns-in_default-read_version-clause-fault : goal.returns-in_default-read_version-clause-fault
returns-in_default-read_version-clause-fault c =
    λ bytes are. first_fault c.args.version c.args.other bytes _ c.args.file.now.whole.items c.args.file.now.count are (sym c.in-Some.ensures) (λ s read. search rules) c.first_fault.result c.first_fault.ensures

pub returns-else-count-from-clause-fault : goal.returns-else-count-from-clause-fault
returns-else-count-from-clause-fault c =
    λ bytes are. (are.count_is, inr (c.in-Some-read_version.superblock, first_superblock c.args.version bytes _ c.args.file.now.whole.items c.args.file.now.count c.in-Some-read_version.superblock are (sym c.in-Some.ensures) (search rules), search rules))

pub returns-then-count-from-clause-superblock : goal.returns-then-count-from-clause-superblock
returns-then-count-from-clause-superblock c =
    λ bytes are. record {
      superblock = first_superblock c.args.version bytes _ c.args.file.now.whole.items c.args.file.now.count c.in-Some-read_version.superblock are (sym c.in-Some.ensures) (search rules);
      length_is = search rules;
    }
