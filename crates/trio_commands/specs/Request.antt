-- What the words are read as.
use Rattle.trio_commands.specs.declared.words.Request.{Request}
use Rattle.trio_commands.specs.declared.words.Request.TheVariants.{New, Check, Tree, Turns, Run, Gen, Migrate, Help, Version, Unknown}
use Rattle.trio_commands.specs.Command.{Command, new_image, check, tree, turns, run, gen, migrate, help, version, unknown}

-- the command that a request is
abbrev pub command_in : Request → Command
command_in (New out pages inodes) = new_image out.now pages inodes
command_in (Check image) = check image.now
command_in (Tree image form) = tree image.now form
command_in (Turns image script out) = turns image.now script.now out.now
command_in (Run image script out workers) = run image.now script.now out.now workers
command_in (Gen number files) = gen number files
command_in (Migrate image out) = migrate image.now out.now
command_in Help = help
command_in Version = version
command_in Unknown = unknown
