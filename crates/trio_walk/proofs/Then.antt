-- What is known of all nodes that are shown passes to later moments of a try, and what was asked and told before is put first.
use Rattle.trio_walk.proofs.Words.{◌++◌, ◌∙◌, ◌∷◌, ◌≡◌, ◌⊎◌, ArePossible, Ask, Call, Calls, Creds, DeskSeen, Done, In, Lease, List, Nodes, Option, Outcome, Replied, Row, SessionSeen, Told, [], ap, append_assoc, batch_nodes, in_hand, inl, inr, lent_call, map, map-In, need_of, refl, subst, sym, with_lease, with_leases, ℕ}
use Rattle.trio_nodes.specs.declared.answers.AllotFault.TheVariants.{NoMemory as NoAllotMemory}
use Rattle.trio_desk.specs.Call.{Allot, NotGiven}
use Rattle.trio_desk.specs.Edits.{TakesMore}
use Rattle.trio_session.specs.Asked.{IsGiven, SameDesk, took}
use Rattle.trio_walk.specs.Asks.{AskedBy, TryEnds, grant_ask}
use Rattle.trio_walk.specs.Walks.{InBoth}
use Rattle.trio_walk.specs.declared.outcome.Outcome.TheVariants.{Busy, NoMemory}
use Rattle.trio_walk.proofs.Possible.{possible_desk}

-- ---- another moment of the desk

pub possible_then : (desk desk' : DeskSeen) (s : SessionSeen) → SameDesk desk desk' → (nodes : Nodes) (rows : List (Option Row)) → ArePossible desk' s.parcel s.reads nodes rows → ArePossible desk s.parcel s.reads nodes rows
possible_then desk desk' s same nodes rows p = possible_desk desk desk' s.parcel s.reads nodes rows same.sizes same.root p

pub both_then : (desk desk' : DeskSeen) (s s' : SessionSeen) (P : Nodes → Nodes → Type 0) → SameDesk desk desk' → TakesMore desk' (in_hand s) (in_hand s') → s'.calls ≡ s.calls
    → InBoth desk s P → InBoth desk' s' P
both_then desk desk' s s' P same more calls h nodes rows p =
    let was = h nodes rows (possible_then desk desk' s same nodes rows (more nodes rows p)) in
    let now : P nodes (batch_nodes desk.creds s'.calls nodes) = subst (λ (cs : List Done). P nodes (batch_nodes desk.creds cs nodes)) (sym calls) was in
    subst (λ (k : Creds). P nodes (batch_nodes k s'.calls nodes)) (sym same.creds) now

-- ---- calls of the desk

pub calls_then : {D : Type 0} (called : D → Ask → Told → D → Type 0) (d d1 d2 : D) (a b : List Call) → Calls called d a d1 → Calls called d1 b d2 → Calls called d (a ++ b) d2
calls_then called d d1 d2 [] b x y = subst (λ z. Calls called z b d2) x y
calls_then called d d1 d2 (c ∷ cs) b x y = (x.0, x.1, calls_then called x.0 d1 d2 cs b x.2 y)

pub asked_behind : (end : Outcome) (first these wanted : List Ask) → AskedBy end these wanted → AskedBy end (first ++ these) (first ++ wanted)
asked_behind (Replied reply) first these wanted a = ap (λ l. first ++ l) a
asked_behind (Busy holder) first these wanted a = (a.0, ap (λ l. first ++ l) a.1 ∙ sym (append_assoc first these a.0))
asked_behind NoMemory first these wanted a = (a.0, ap (λ l. first ++ l) a.1 ∙ sym (append_assoc first these a.0))

-- leases that were lent are given, and were asked for
pub given_all : (more : List Lease) (c : Call) → In c (map lent_call more) → IsGiven c
given_all more c i = (let f = map-In lent_call c more i in inl (f.0, ap (λ (x : Call). x.told) f.2))

pub asks_lent : (more : List Lease) → map grant_ask (map need_of more) ≡ map (λ (c : Call). c.ask) (map lent_call more)
asks_lent [] = refl
asks_lent (lease ∷ more) = ap (λ l. grant_ask (need_of lease) ∷ l) (asks_lent more)

pub took_leases : (s : SessionSeen) (more : List Lease) → took s (map (λ (c : Call). c.told) (map lent_call more)) ≡ with_leases s more
took_leases s [] = refl
took_leases s (lease ∷ more) = took_leases (with_lease s lease) more

-- a try ends by an allotment for which there was no memory
pub short_ends : (pages numbers : ℕ) (last : List Call) → (last ≡ record { ask = Allot pages numbers; told = NotGiven NoAllotMemory } ∷ []) ⊎ (last ≡ []) → TryEnds NoMemory last
short_ends pages numbers last (inl one) = inr (record { ask = Allot pages numbers; told = NotGiven NoAllotMemory }, one, inl (inr refl))
short_ends pages numbers last (inr none) = inl none
