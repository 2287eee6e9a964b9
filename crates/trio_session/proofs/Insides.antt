-- What a session has inside, and what it shows.
use Rattle.trio_session.proofs.Words.{◌≡◌, Files, Inside, refl}
use Rattle.trio_session.specs.contracts.session.Session.{the_view}
use Rattle.trio_session.proofs.Seeing.{Shows}

-- its files
abbrev pub files_in : Inside → Files
files_in s = record { parcel = s.stock; laid = s.laid.items; made = s.made.items; cleared = s.cleared.items }

-- are those that it shows
pub view_shows : (s : Inside) → Shows (the_view s) (files_in s)
view_shows s = record { parcel = refl; chains = refl; made = refl; cleared = refl }
