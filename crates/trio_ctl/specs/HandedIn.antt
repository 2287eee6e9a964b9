-- What is handed in beside what the steps see of a bundle.
use Rattle.std.specs.Prelude.{◌≡◌, ◌⊎◌, ℕ, true, List}
use Rattle.trio_nodes.specs.declared.grant.GrantKind.TheVariants.{Hold, Write}
use Rattle.trio_nodes.specs.Handed.{Handed}
use Rattle.trio_nodes.specs.Handed.{HandedFile}
use Rattle.trio_nodes.specs.declared.entry.HandedPage.{HandedPage}
use Rattle.trio_laws.specs.history.Entries.{sheet_handed}
use Rattle.trio_lease.specs.Shown.{LentFile}
use Rattle.trio_lease.specs.declared.parts.HoldParts.{HoldParts}
use Rattle.trio_lists.specs.Lists.{In}
use Rattle.trio_state.specs.State.{OpenGrant, State}
use Rattle.trio_open.specs.Open.{shown_of}

-- a hold is that of an open hold of the library, and shows the kind and the body that it lent
pub record WasHeld (s : State) (lib' : ℕ) (h : HoldParts) : Type 0 where
  pub grant : OpenGrant
  pub is_open : In grant s.open_grants
  pub lib : grant.lib ≡ lib'
  pub kind : grant.kind ≡ Hold
  pub ino : grant.ino ≡ h.ino
  pub of : grant.of ≡ h.kind
  pub body : grant.body ≡ h.body

-- each of these holds is so
abbrev pub WereHeld : State → ℕ → List HoldParts → Type 0
WereHeld s lib holds = (h : HoldParts) → In h holds → WasHeld s lib h

-- a write lease shows as lent what an open write grant of the library lent
pub record WasLentAs (s : State) (lib' : ℕ) (f : LentFile) : Type 0 where
  pub grant : OpenGrant
  pub is_open : In grant s.open_grants
  pub lib : grant.lib ≡ lib'
  pub kind : grant.kind ≡ Write
  pub ino : grant.ino ≡ f.stands.ino
  pub lent : f.lent ≡ shown_of grant

-- each of these leases does so
abbrev pub WereLent : State → ℕ → List LentFile → Type 0
WereLent s lib files = (f : LentFile) → In f files → WasLentAs s lib f

-- each block that is handed in without a mark has the bytes that the library's open write grant on its file lent
abbrev pub AreMarked : State → ℕ → Handed → Type 0
AreMarked s lib h =
    (w : HandedFile) (g : OpenGrant) (p : HandedPage)
    → In w h.writes → In g s.open_grants → g.lib ≡ lib → g.kind ≡ Write → g.ino ≡ w.ino
    → In p w.blocks → (p.touched ≡ true) ⊎ In (sheet_handed p) g.blocks
