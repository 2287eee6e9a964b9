-- What a try tells that is replied is what its call comes to.
use Rattle.trio_runner.proofs.Words.{◌++◌, ◌∷◌, ◌≡◌, Apply, ArePossible, Creds, LegalCalls, LibNo, List, MayCall, Nodes, Noted, Outcome, Replied, Reply, SessionSeen, [], ap, applied, batch_nodes, call_nodes, creds_of, false, false≢true, inl, inr, lacks_room, nodes_of, refl, sees, subst, sym, ℕ}
use Rattle.trio_nodes.specs.Apply.{LacksRoom}
use Rattle.trio_nodes.specs.declared.call.Call as call
use Rattle.trio_nodes.specs.declared.call.Done.{Done}
use Rattle.trio_nodes.specs.declared.call.Reply.TheVariants as reply
use Rattle.trio_runner.proofs.OneTry.{SameEnd, EndsSame, BothReplied}

-- the last of legal calls
pub last_legal : (creds : Creds) (nodes : Nodes) (calls : List Done) (d : Done) → LegalCalls creds nodes (calls ++ d ∷ [])
    → Apply (batch_nodes creds calls nodes) creds d.call d.made d.reply (call_nodes creds (batch_nodes creds calls nodes) d)
last_legal creds nodes [] d legal = legal.0
last_legal creds nodes (c ∷ calls) d legal = last_legal creds (call_nodes creds nodes c) calls d legal.2

lacks_none : (k : call.Call) (a : Reply) → lacks_room a ≡ false → LacksRoom k a → ⊥
lacks_none k (reply.NoSpace wanted free) q l = false≢true (sym q)
lacks_none k (reply.NoInodes wanted free) q l = false≢true (sym q)
lacks_none k a q l = l

-- a reply that tells no want of room is what the call comes to
pub reply_is : (nodes nodes' : Nodes) (creds : Creds) (k : call.Call) (made : ℕ) (a : Reply) → lacks_room a ≡ false → Apply nodes creds k made a nodes' → a ≡ (applied nodes creds k made).reply
reply_is nodes nodes' creds k made a q (inl r) = r.0
reply_is nodes nodes' creds k made a q (inr l) = absurd (lacks_none k a q l.0)

-- of a session that has the call behind those before, and may make calls then
pub reply_shown : (lib : LibNo) (d d' : Noted) (x x' : SessionSeen) (k : call.Call) (a : Reply) (made : ℕ) → MayCall (sees lib d') x' → ArePossible (sees lib d') x'.parcel x'.reads (nodes_of d.state) d'.state.home.rows
    → creds_of d'.state lib.0 ≡ creds_of d.state lib.0 → x'.calls ≡ x.calls ++ record { call = k; reply = a; made = made } ∷ [] → lacks_room a ≡ false
    → a ≡ (applied (batch_nodes (creds_of d.state lib.0) x.calls (nodes_of d.state)) (creds_of d.state lib.0) k made).reply
reply_shown lib d d' x x' k a made may possible creds left q =
    let last : Done = record { call = k; reply = a; made = made } in
    let legal : LegalCalls (creds_of d'.state lib.0) (nodes_of d.state) (x.calls ++ last ∷ []) =
    subst (LegalCalls (creds_of d'.state lib.0) (nodes_of d.state)) left (may.comes (nodes_of d.state) d'.state.home.rows possible).0 in
    let is = reply_is (batch_nodes (creds_of d'.state lib.0) x.calls (nodes_of d.state)) _ (creds_of d'.state lib.0) k made a q (last_legal (creds_of d'.state lib.0) (nodes_of d.state) x.calls last legal) in
    subst (λ (cs : Creds). a ≡ (applied (batch_nodes cs x.calls (nodes_of d.state)) cs k made).reply) creds is

-- two tries that end the same, but for their replies, end the same where these are
pub same_end : (a b : Outcome) → SameEnd a b → ((p q : Reply) → a ≡ Replied p → b ≡ Replied q → lacks_room p ≡ false → lacks_room q ≡ false → p ≡ q) → a ≡ b
same_end a b (EndsSame o) h = refl
same_end a b (BothReplied p q i j) h = ap Replied (h p q refl refl i j)
