-- What contracts see of the controller.
use Rattle.trio_ctl.proofs.Words.{◌∙◌, ◌≡◌, Controller, IsIdle, Registered, ap, subst, sym, underway_at, ℕ}

-- the state of what is seen
pub state_is : {a b : Registered} → a ≡ b → a.state ≡ b.state
state_is e = ap (λ (x : Registered). x.state) e

-- the number of the next entry, by what is seen
pub next_is : {a b : Registered} {n : ℕ} → n ≡ b.state.entries → a ≡ b → n ≡ a.state.entries
next_is next e = next ∙ ap (λ (x : Registered). x.state.entries) (sym e)

-- the state of what is seen of the controller
pub seen_state : {a b : Controller} → a ≡ b → a.state ≡ b.state
seen_state e = ap (λ (x : Controller). x.state) e

-- a library is idle by what is seen of the controller
pub seen_idle : {a b : Controller} (lib : ℕ) → a ≡ b → IsIdle b lib → IsIdle a lib
seen_idle lib e idle = subst (λ (x : Controller). IsIdle x lib) (sym e) idle

-- what is underway, by what is seen of the registry
pub underway_is : {a b : Registered} → a ≡ b → underway_at a ≡ underway_at b
underway_is e = ap underway_at e
