-- The laws of the end of a release, each from the lemmas that carry it.
use Rattle.trio_laws.specs.EndLaws.{AcceptedSettles, BodyStands, LendableIsHome, RefusedSettles}
use Rattle.trio_laws.proofs.Spread.{accepted_settles as spread_settles}
use Rattle.trio_laws.proofs.PutBack.{refused_settles as back_settles}
use Rattle.trio_laws.proofs.Standing.{stands_at}
use Rattle.trio_laws.proofs.Lendable.{at_home}

pub accepted_settles : AcceptedSettles
accepted_settles s lib b pages grants k given accepted like spread =
    spread_settles s k lib b given accepted pages grants like spread

pub refused_settles : RefusedSettles
refused_settles s lib b sheets k given from all = back_settles s k lib b given sheets from all

pub body_stands : BodyStands
body_stands s ino r k row other = stands_at s k ino r row other

pub lendable_is_home : LendableIsHome
lendable_is_home s ino r k row free = at_home s k ino r row free
