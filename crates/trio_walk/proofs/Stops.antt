-- How a try ends by a walk or a taking that comes to no file, and what it asked.
use Rattle.trio_walk.proofs.Words.{◌++◌, ◌∙◌, ◌≡◌, At, Busy, Call, Denied, DeniedGrant, EndsBy, Exists, Grant, IntoItself, IsDir, Lease, List, Needed, NoGrantMemory, NoInodes, NoMemory, NoSpace, NotDir, NotEmpty, NotFound, NotLent, Replied, Reply, TooLarge, WalkEnd, ap, inl, inr, lent_call, map, map-append, need_of, refl, sym, IsLink, NotLink}
use Rattle.trio_nodes.specs.declared.call.Reply as reply
use Rattle.trio_nodes.specs.declared.call.Reply.TheVariants.{Ok as Succeeds}
use Rattle.trio_walk.specs.Asks.{TryEnds, grant_ask}
use Rattle.trio_walk.specs.Walks.{IsStopped}
use Rattle.trio_walk.specs.declared.outcome.Outcome.TheVariants.{NoMemory as EndsShort}
use Rattle.trio_walk.proofs.Then.{asks_lent}

-- ---- what is asked

-- what is asked last is what was needed last
last_asks : (end : WalkEnd) (last : List Call) (need : List Needed) → EndsBy end last need → map grant_ask need ≡ map (λ (c : Call). c.ask) last
last_asks (At n) last need e = ap (map grant_ask) e.1 ∙ sym (ap (map (λ (c : Call). c.ask)) e.0)
last_asks (Reply r) last need (inl e) = ap (map grant_ask) e.1 ∙ sym (ap (map (λ (c : Call). c.ask)) e.0)
last_asks (Reply r) last need (inr e) = ap (map grant_ask) e.3 ∙ sym (ap (map (λ (c : Call). c.ask)) e.2)
last_asks (Busy holder) last need e = ap (map grant_ask) e.3 ∙ sym (ap (map (λ (c : Call). c.ask)) e.2)
last_asks NoMemory last need (inl e) = ap (map grant_ask) e.1 ∙ sym (ap (map (λ (c : Call). c.ask)) e.0)
last_asks NoMemory last need (inr e) = ap (map grant_ask) e.3 ∙ sym (ap (map (λ (c : Call). c.ask)) e.2)

-- and so it is of all
pub way_asks : (end : WalkEnd) (more : List Lease) (last : List Call) (need : List Needed) → EndsBy end last need
    → map grant_ask (map need_of more ++ need) ≡ map (λ (c : Call). c.ask) (map lent_call more ++ last)
way_asks end more last need e =
    map-append grant_ask (map need_of more) need
    ∙ ap (λ l. l ++ map grant_ask need) (asks_lent more)
    ∙ ap (λ l. map (λ (c : Call). c.ask) (map lent_call more) ++ l) (last_asks end last need e)
    ∙ sym (map-append (λ (c : Call). c.ask) (map lent_call more) last)

-- ---- how it ends

-- there was no memory for it
pub short_walk : (last : List Call) (need : List Needed) → EndsBy NoMemory last need → TryEnds EndsShort last
short_walk last need (inl e) = inl e.0
short_walk last need (inr e) = inr (record { ask = Grant e.0 e.1; told = NotLent NoGrantMemory }, e.2, inl (inl refl))

-- or for the note of its refusal
pub short_refusal : (r : reply.Reply) (last : List Call) (need : List Needed) → EndsBy (Reply r) last need → TryEnds EndsShort last
short_refusal r last need (inl e) = inl e.0
short_refusal r last need (inr e) = inr (record { ask = Grant 1 e.0; told = NotLent (DeniedGrant 1) }, e.2, inr (e.0, refl))

-- what is true of the three refusals of a walk
pub by_refusal : (P : reply.Reply → Type 0) → P NotFound → P NotDir → P Denied → (r : reply.Reply) → IsStopped (Reply r) → P r
by_refusal P lost through denied NotFound st = lost
by_refusal P lost through denied NotDir st = through
by_refusal P lost through denied Denied st = denied
by_refusal P lost through denied (Succeeds a) st = absurd st
by_refusal P lost through denied Exists st = absurd st
by_refusal P lost through denied IsDir st = absurd st
by_refusal P lost through denied NotEmpty st = absurd st
by_refusal P lost through denied IntoItself st = absurd st
by_refusal P lost through denied (NoSpace w f) st = absurd st
by_refusal P lost through denied (NoInodes w f) st = absurd st
by_refusal P lost through denied TooLarge st = absurd st
by_refusal P lost through denied IsLink st = absurd st
by_refusal P lost through denied NotLink st = absurd st

pub refusal_ends : (r : reply.Reply) (last : List Call) (need : List Needed) → IsStopped (Reply r) → EndsBy (Reply r) last need → TryEnds (Replied r) last
refusal_ends r last need st =
    by_refusal (λ q. EndsBy (Reply q) last need → TryEnds (Replied q) last)
    (λ e. elim e [ inl a ↦ a.0 | inr b ↦ absurd (let wrong : NotFound ≡ Denied = b.1 in cc wrong) ])
    (λ e. elim e [ inl a ↦ a.0 | inr b ↦ absurd (let wrong : NotDir ≡ Denied = b.1 in cc wrong) ])
    (λ e. elim e [ inl a ↦ inl a.0 | inr b ↦ inr (record { ask = Grant 1 b.0; told = NotLent (DeniedGrant 1) }, b.2, (b.0, refl)) ])
    r st
