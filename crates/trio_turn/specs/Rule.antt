-- The rule of the cell: what holds of its three words, its slot and all views between any two steps.
-- The words are the next ticket, the ticket that is served, and the number of entries.
use Rattle.std.specs.Prelude.{◌≡◌, ◌⊎◌, ℕ, ◌+◌, ◌<◌, ◌≤◌, ◌==◌, cond, List, [], ◌∷◌, length, Option, Some}
use mathlib.Core.Option.{some, none}
use mathlib.Core.Option as maybe
use mathlib.Core.List.{IsPrefix}
use lib.ListN.{get_elem?}
use Rattle.atomic_table.specs.Table.{State}
use Rattle.trio_nodes.specs.declared.entry.Entry.{Entry}
use Rattle.trio_turn.specs.Origins.{Origin}
use Rattle.trio_turn.specs.declared.view.Library.{Library}
use Rattle.trio_turn.specs.declared.view.View.{View}
use Rattle.trio_turn.specs.declared.view.Stage.{Stage}
use Rattle.trio_turn.specs.declared.view.Stage.TheVariants.{Idle, Waiting, InTurn, Spent}
use Rattle.trio_turn.specs.Logs.{made_by}
use Rattle.trio_turn.specs.Marks.{Mark}

-- the numbers that f gives of a list, added up
abbrev pub total : {A : Type 0} → (A → ℕ) → List A → ℕ
total f [] = 0
total f (x ∷ xs) = f x + total f xs

-- how often a library is among these
abbrev pub times : ℕ → List Library → ℕ
times l libraries = total (λ p. cond (p.number == l) 1 0) libraries

module _ {T : Type 0} where
  -- how many tickets a view has
  abbrev pub tickets : Stage T → ℕ
  tickets Idle = 0
  tickets (Waiting t) = 1
  tickets (InTurn t x) = 1
  tickets Spent = 0

  -- 1 where a view has the ticket n, else 0
  abbrev pub has_ticket : ℕ → Stage T → ℕ
  has_ticket n Idle = 0
  has_ticket n (Waiting t) = cond (t == n) 1 0
  has_ticket n (InTurn t x) = cond (t == n) 1 0
  has_ticket n Spent = 0

  -- it holds of a view that isn't spent
  abbrev pub IfLive : Stage T → Type 0 → Type 0
  IfLive Idle P = P
  IfLive (Waiting t) P = P
  IfLive (InTurn t x) P = P
  IfLive Spent P = Unit {0}

  -- Where a view with a ticket is in the queue. The one in its turn has the ticket that is served and keeps the value, and the slot is out.
  abbrev pub IsQueued : ℕ → ℕ → T → List (maybe.Option (Option T)) → Stage T → Type 0
  IsQueued ticket serving value homes Idle = Unit {0}
  IsQueued ticket serving value homes (Waiting t) = (serving ≤ t) × (t < ticket)
  IsQueued ticket serving value homes (InTurn t x) = (t ≡ serving) × (t < ticket) × (x ≡ value) × (homes ≡ none ∷ [])
  IsQueued ticket serving value homes Spent = Unit {0}

  -- the slot is home with the value, or it is out and a view is in its turn
  abbrev pub IsPlaced : T → List (maybe.Option (Option T)) → List (View T) → Type 0
  IsPlaced value homes views =
      (homes ≡ some (Some value) ∷ [])
      ⊎ ((homes ≡ none ∷ []) × ((j : ℕ) × (v : View T) × (get_elem? views j ≡ some v) × ((t : ℕ) × (v.stage ≡ InTurn t value))))

module _ {T : Type 0} (first : T → Origin) (log : T → List Entry) (begun : T → ℕ → Mark) where
  -- A library of a view that has seen so much: the value has no entry of it beyond what its seat had seen, and the library's mark.
  pub record LibraryAgrees (value : T) (count : ℕ) (seen : List Entry) (p : Library) : Type 0 where
    pub one_of_them : (1 ≤ p.number) × (p.number ≤ count)
    pub began : p.first ≡ first value
    pub saw : IsPrefix p.seen seen
    pub all_seen : made_by p.number (log value) ≡ made_by p.number p.seen
    pub mark : p.begun ≡ begun value p.number

  -- a view: what it has seen begins the value's entries, and each of its libraries agrees with the value
  pub record ViewAgrees (value : T) (count : ℕ) (v : View T) : Type 0 where
    pub first_is : IfLive v.stage (v.first ≡ first value)
    pub saw : IsPrefix v.seen (log value)
    pub met : IsPrefix v.shorter (log value)
    pub each_library : (k : ℕ) (p : Library) → get_elem? v.libraries k ≡ some p → LibraryAgrees value count v.seen p
    pub own : 0 < tickets v.stage → 0 < length v.libraries

  -- The rule, of so many libraries. The value is the one at home or, while the slot is out, the one that the view in its turn keeps.
  pub record TicketRule (count : ℕ) (s : State (Option T) (View T)) : Type 0 where
    pub ticket : ℕ
    pub serving : ℕ
    pub value : T
    pub words : s.words ≡ ticket ∷ serving ∷ length (log value) ∷ []
    -- each ticket from the one that is served on is some view's
    pub queue : serving + total (λ (v : View T). tickets v.stage) s.views ≡ ticket
    -- no two views have the same ticket
    pub apart : (t : ℕ) → total (λ (v : View T). has_ticket t v.stage) s.views ≤ 1
    pub queued : (j : ℕ) (v : View T) → get_elem? s.views j ≡ some v → IsQueued ticket serving value s.homes v.stage
    pub placed : IsPlaced value s.homes s.views
    pub each_view : (j : ℕ) (v : View T) → get_elem? s.views j ≡ some v → ViewAgrees value count v
    -- each library is of at most one view, and once there
    pub once : (l : ℕ) → total (λ (v : View T). times l v.libraries) s.views ≤ 1
