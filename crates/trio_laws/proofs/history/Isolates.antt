-- Each step changes the nodes within the grants of its library, or it changes a mode.
use Rattle.trio_laws.proofs.Words.{◌∙◌, ◌∷◌, ◌≡◌, ◌⊎◌, Allot, Back, Beside, BesideFits, Bundle, Creds, CtlAnswer, Entry, Err, Event, GivenEvent, Grant, Handed, HandedFile, HandedPage, In, IsMarked, IsWithinGrants, Kept, LegalChmod, LentWhole, List, ModeFault, Nodes, None, Ok, Option, Release, Result, SetMode, Settle, Sheet, Some, Standing, State, Step, Written, [], ap, arith, bundle_handed, creds_of, entry_of, inl, inr, library_of, map-In, nodes_of, past_of, refl, sheet_handed, standing_of, subst, sym, true, written_handed, ℕ}
use Rattle.std.proofs.Common.{map}
use Rattle.trio_laws.proofs.Runs.{step_kept}
use Rattle.trio_laws.specs.history.HistoryLaws.{IsModeChange, StepsAreIsolated}
use Rattle.trio_laws.proofs.history.Extends.{Makes, Comes'}
use Rattle.trio_laws.proofs.history.Grows.{SettlesOwn, step_extends}
use Rattle.trio_laws.proofs.history.SettleStep.{settle_within}

-- ---- a bundle of which each page is marked

abbrev page_touched : Sheet → HandedPage
page_touched x = record { no = x.page; bytes = x.bytes; touched = true }

abbrev file_touched : Written → HandedFile
file_touched w = record { ino = w.ino; kind = w.kind; body = w.body; index = map page_touched w.index; blocks = map page_touched w.blocks }

abbrev pub all_touched : Bundle → Handed
all_touched b = record { writes = map file_touched b.writes; holds = b.holds; pages = map page_touched b.pages; numbers = b.numbers }

pages_back : (xs : List Sheet) → map sheet_handed (map page_touched xs) ≡ xs
pages_back [] = refl
pages_back (x ∷ xs) = ap (λ l. x ∷ l) (pages_back xs)

file_back : (w : Written) → written_handed (file_touched w) ≡ w
file_back w = search (arith, pages_back)

files_back : (ws : List Written) → map written_handed (map file_touched ws) ≡ ws
files_back [] = refl
files_back (w ∷ ws) = ap (λ (x : Written). x ∷ map written_handed (map file_touched ws)) (file_back w) ∙ ap (λ l. w ∷ l) (files_back ws)

pub bundle_back : (b : Bundle) → bundle_handed (all_touched b) ≡ b
bundle_back b = search (arith, files_back, pages_back)

-- so nothing is asked of what was lent
pub all_marked : (s : State) (lib : ℕ) (b : Bundle) (f : HandedFile) → In f (all_touched b).writes → IsMarked s lib f
all_marked s lib b f i g p open_grant mine own j = search (arith, map-In)

-- ---- by the entry

-- nodes that stay are within any grants
within_same : (grants : List Standing) (creds : Creds) (lib : ℕ) (nodes : Nodes) → IsWithinGrants grants creds lib nodes nodes
within_same grants creds lib nodes = search arith

abbrev Within : State → Event → Nodes → Type 0
Within s event nodes = IsWithinGrants (map standing_of s.open_grants) (creds_of s (library_of event)) (library_of event) (nodes_of s) nodes

abbrev Isolated : State → Event → State → Type 0
Isolated s event s' = Within s event (nodes_of s') ⊎ IsModeChange s event s'

stays : (s : State) (event : Event) (s' : State) → nodes_of s' ≡ nodes_of s → Isolated s event s'
stays s event s' same = inl (subst (Within s event) (sym same) (within_same (map standing_of s.open_grants) (creds_of s (library_of event)) (library_of event) (nodes_of s)))

module _ (s : State) (answer : CtlAnswer) (s' : State) where
  abbrev IsSettle : Event → Type 0
  IsSettle event = (lib : ℕ) (b : Bundle) → Settle lib b ≡ event → Within s event (nodes_of s')

  by_entry : (e : Entry) (event : Event) → Makes s event answer s' e → IsSettle event → Isolated s event s'
  by_entry e event m settles = search (arith, stays)

  by_option : (o : Option Entry) (event : Event) → Comes' s event answer s' o → IsSettle event → Isolated s event s'
  by_option None event same settles = stays s event s' (ap nodes_of same)
  by_option (Some e) event m settles = by_entry e event m settles

-- ---- by the event

abbrev pub bare : Bundle → Beside
bare b = record { handed = all_touched b; calls = []; call = None }

abbrev pub empty : Bundle
empty = record { writes = []; holds = []; pages = []; numbers = [] }

pub no_call : (s : State) (creds : Creds) (ino mode : ℕ) (said : Result (Unit {0}) ModeFault) → LegalChmod (past_of s) creds ino mode said None
no_call s creds ino mode (Ok done) = tt
no_call s creds ino mode (Err fault) = tt

module _ (s : State) (k : Kept s) (w : LentWhole s) (answer : CtlAnswer) (s' : State) where
  by_step : (x : Beside) (event : Event) → SettlesOwn s event → GivenEvent s event → Step s event answer s' → BesideFits s x event answer s' → IsSettle s answer s' event → Isolated s event s'
  by_step x event own given step fits settles =
      by_option s answer s' (entry_of s x event answer) event (step_extends s x event answer s' k w own given step fits) settles

  pub isolated : (event : Event) → GivenEvent s event → Step s event answer s' → Isolated s event s'
  isolated (Grant lib ino kind) given step = by_step (bare empty) (Grant lib ino kind) tt given step tt (λ l b e. absurd cc)
  isolated (Allot lib count many) given step = by_step (bare empty) (Allot lib count many) tt given step tt (λ l b e. absurd cc)
  isolated (Back lib ino) given step = by_step (bare empty) (Back lib ino) tt given step tt (λ l b e. absurd cc)
  isolated (Release lib b) given step = by_step (bare b) (Release lib b) tt given step (bundle_back b, all_marked s lib b) (λ l c e. absurd cc)
  isolated (Settle lib b) given (inl does) =
      inl (settle_within s s' k (step_kept s s' (Settle lib b) answer k given (inl does)) w lib b (all_touched b) (bundle_back b) (all_marked s lib b) given.0 does.2 does.3)
  isolated (Settle lib b) given (inr none) = stays s (Settle lib b) s' (ap nodes_of none.2)
  isolated (SetMode lib ino mode) given step =
      by_step (bare empty) (SetMode lib ino mode) tt given step (λ said is. no_call s (creds_of s lib) ino mode said) (λ l b e. absurd cc)

pub steps_are_isolated : StepsAreIsolated
steps_are_isolated r event answer s' i given step = isolated r.state i.kept i.whole answer s' event given step
