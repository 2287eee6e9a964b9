-- A request that is no run is the same command where no thread may be started.
use Rattle.trio_app.proofs.Words.{◌≡◌, refl, without_threads}
use Rattle.trio_commands.specs.declared.words.Request.{Request}
use Rattle.trio_commands.specs.declared.words.Request.TheVariants.{New, Check, Tree, Turns, Run, Gen, Migrate, Help, Version, Unknown}
use Rattle.trio_commands.specs.Request.{command_in}

pub no_run : (r : Request) → ((image script out workers : _) → r ≡ Run image script out workers → ⊥) → without_threads (command_in r) ≡ command_in r
no_run (New out pages inodes) other = refl
no_run (Check image) other = refl
no_run (Tree image form) other = refl
no_run (Turns image script out) other = refl
no_run (Run image script out workers) other = absurd (other image script out workers refl)
no_run (Gen number files) other = refl
no_run (Migrate image out) other = refl
no_run Help other = refl
no_run Version other = refl
no_run Unknown other = refl
