use Rattle.trio_ctl.proofs.Words.{◌≤◌, Bundled, HasKit, Kit, Serves, Sizes, arith, bundle_in, ℕ}
use Rattle.std.specs.Prelude.{IfOk, Result, Ok, Err}
use Rattle.trio_ctl.specs.Room.{room_in}
use Rattle.trio_ctl.proofs.spares.Spares.kit_for.Goals as goal

serves_it : {E : Type 0} (z : Sizes) (b : Bundled) (room : ℕ) (r : Result Kit E) → room_in z (bundle_in b) ≤ room → IfOk r (Serves z room) → IfOk r (HasKit z b)
serves_it z b room (Ok kit) enough serves = serves b enough
serves_it z b room (Err fault) enough serves = tt

pub returns-in-Err-clause-kit : goal.returns-in-Err-clause-kit
returns-in-Err-clause-kit c =
    let z : Sizes = record { range = c.args.range; inodes = c.args.inodes } in
    let same = c.requires.room in
    serves_it z c.args.bundle.now c.args.room c.take.result (omega (arith, same)) (c.take.ensures.serves z c.requires.spare)

pub returns-in-Err-clause-takes : goal.returns-in-Err-clause-takes
returns-in-Err-clause-takes c = c.take.ensures.takes (record { range = c.args.range; inodes = c.args.inodes }) c.requires.spare
