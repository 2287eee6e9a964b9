-- A session that is alike has the same files open; and what a write edits, of some bytes and of none.
use Rattle.trio_calls_file.proofs.Words.{◌+◌, ◌≡◌, DeskSeen, InBoth, IsAlike, IsOpenFile, List, Nodes, Path, SessionSeen, alike_by, ap, body_in, cond, edited, eqb, false, length, max, put, size_in, sized, subst, sym, true, ℕ}
use Rattle.trio_nodes.specs.declared.call.Call.TheVariants.{Write as WriteCall}

-- ---- what a session may

pub open_alike : (x s : SessionSeen) (ino : ℕ) → IsAlike x s → IsOpenFile x ino → IsOpenFile s ino
open_alike x s ino e o = alike_by (λ q. IsOpenFile q ino) x s e (λ is n r. o)

-- what is shown is shown by a session that is alike
pub both_alike : (desk : DeskSeen) (s s' : SessionSeen) (P : Nodes → Nodes → Type 0) → IsAlike s s' → InBoth desk s P → InBoth desk s' P
both_alike desk s s' P e h = subst (λ (x : SessionSeen). InBoth desk x P) (sym e) h

-- ---- writes

-- a write of some bytes, and of none
pub edited_some : (path : Path) (ino at : ℕ) (bytes : List ℕ) (s : SessionSeen) → eqb (length bytes) 0 ≡ false
    → edited (WriteCall path at bytes) ino s ≡ put ino at bytes (sized ino (max (size_in (body_in s ino)) (at + length bytes)) s)
edited_some path ino at bytes s e =
    ap (λ t. cond t s (put ino at bytes (sized ino (cond t (size_in (body_in s ino)) (max (size_in (body_in s ino)) (at + length bytes))) s))) e

pub edited_none : (path : Path) (ino at : ℕ) (bytes : List ℕ) (s : SessionSeen) → eqb (length bytes) 0 ≡ true → edited (WriteCall path at bytes) ino s ≡ s
edited_none path ino at bytes s e =
    ap (λ t. cond t s (put ino at bytes (sized ino (cond t (size_in (body_in s ino)) (max (size_in (body_in s ino)) (at + length bytes))) s))) e
