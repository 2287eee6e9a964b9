-- Words of a removal: of a file of another kind.
use Rattle.std.specs.Prelude.{Bool, true, false}
use Rattle.trio_nodes.specs.declared.call.Reply.{Reply}
use Rattle.trio_nodes.specs.declared.call.Reply.TheVariants.{IsDir, NotDir}

-- why a call that removes directories doesn't remove another file, and one that removes all others no directory
abbrev pub other_kind : Bool → Reply
other_kind true = NotDir
other_kind false = IsDir
