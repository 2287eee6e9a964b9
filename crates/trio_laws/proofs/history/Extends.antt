-- What is to be shown of a step: it makes no entry and changes nothing, or it makes one that is legal and comes to the state after it.
use Rattle.trio_laws.proofs.Words.{◌∙◌, ◌∷◌, ◌≡◌, Beside, CtlAnswer, Entry, Event, IsLegal, List, Nodes, None, OpenGrant, Option, Some, Standing, State, [], answer_of, ap, arith, entry_of, event_of, lent_part, nodes_of, past_after, past_of, refl, standing_of, ℕ}
use Rattle.std.proofs.Common.{map}

-- the entry is legal in this state, tells of this event and answer, and comes to the state after it
pub record Makes (s : State) (event : Event) (answer : CtlAnswer) (s' : State) (e : Entry) : Type 0 where
  pub legal : IsLegal s.creds (past_of s) e
  pub comes : past_of s' ≡ past_after s.creds (past_of s) e
  pub tells : event_of e ≡ event
  pub says : answer_of e ≡ answer

-- what comes of an event and its answer, by the entry that they make
abbrev pub Comes' : State → Event → CtlAnswer → State → Option Entry → Type 0
Comes' s event answer s' None = s' ≡ s
Comes' s event answer s' (Some e) = Makes s event answer s' e

abbrev pub Extends : State → Beside → Event → CtlAnswer → State → Type 0
Extends s x event answer s' = Comes' s event answer s' (entry_of s x event answer)

-- a past by its parts
pub past_is : (s' : State) (nodes : Nodes) (grants : List Standing) (entries : ℕ) → nodes_of s' ≡ nodes → (past_of s').grants ≡ grants → s'.entries ≡ entries → past_of s' ≡ record { nodes = nodes; grants = grants; entries = entries }
past_is s' nodes grants entries a b c = search arith

-- what stands of grants goes by what they are but for their checkpoints
pub standing_lent : (gs hs : List OpenGrant) → map lent_part gs ≡ map lent_part hs → map standing_of gs ≡ map standing_of hs
standing_lent [] [] e = refl
standing_lent [] (h ∷ hs) e = absurd cc
standing_lent (g ∷ gs) [] e = absurd cc
standing_lent (g ∷ gs) (h ∷ hs) e =
    let one : lent_part g ≡ lent_part h = cc e in
    let rest : map lent_part gs ≡ map lent_part hs = cc e in
    ap (λ (x : OpenGrant). standing_of x ∷ map standing_of gs) one ∙ ap (λ l. standing_of h ∷ l) (standing_lent gs hs rest)
