-- A history begins, and is legal.
use Rattle.trio_laws.proofs.Words.{◌+◌, ◌∷◌, ◌≡◌, AllByRecursion, Creds, Entry, IsLibrary, LegalFrom, List, Nodes, Past, ReplaysFrom, State, [], answer_of, ap, arith, beginning, event_of, length, library_of, nodes_of, past_after, past_of, refl, start, subst, suc, sym, ℕ}
use Rattle.trio_laws.proofs.Runs.{start_kept}
use Rattle.trio_nodes.specs.Legal.{Legal, library_in}
use Rattle.trio_laws.specs.history.HistoryLaws.{HistoryBegins, HistoryIsLegal}
use Rattle.trio_laws.proofs.history.Grows.{step_creds}

pub history_begins : HistoryBegins
history_begins image creds fit v whole =
    record { kept = start_kept image creds fit v whole; whole = λ g x i j. absurd i; stands = refl; legal = refl; replays = refl }

-- a log counts its entries
count_from : (libs : List Creds) (p : Past) (es : List Entry) (q : Past) → LegalFrom libs p es q → p.entries + length es ≡ q.entries
count_from libs p [] q h = (let e : q.entries ≡ p.entries = ap (λ (x : Past). x.entries) h in let none : List Entry = [] in let z : length none ≡ 0 = refl in omega (arith, e, z))
count_from libs p (e ∷ es) q h =
    let r = count_from libs (past_after libs p e) es q h.1 in
    let l : length (e ∷ es) ≡ suc (length es) = refl in
    omega (arith, r, l)

library_same : (e : Entry) → library_of (event_of e) ≡ library_in e
library_same e = search arith

-- each entry of a log that replays is of one of the libraries
all_listed : (es : List Entry) (s t : State) → ReplaysFrom s es t → AllByRecursion (λ e. IsLibrary s.creds (library_in e)) es
all_listed [] s t r = tt
all_listed (e ∷ es) s t r =
    let rest = all_listed es r.0 t r.4 in
    (subst (IsLibrary s.creds) (library_same e) r.1, subst (λ (cs : List Creds). AllByRecursion (λ x. IsLibrary cs (library_in x)) es) (step_creds s (event_of e) (answer_of e) r.0 r.3) rest)

pub history_is_legal : HistoryIsLegal
history_is_legal r i =
    let libs : List Creds = r.state.creds in
    let first : Nodes = nodes_of (start r.first libs) in
    let n : length r.log ≡ r.state.entries = (let c = count_from libs (beginning first) r.log (past_of r.state) i.legal in omega (arith, c)) in
    let L : ℕ → Type 0 = λ m. LegalFrom libs (beginning first) r.log (record { nodes = nodes_of r.state; grants = (past_of r.state).grants; entries = m }) in
    let legal : Legal first libs r.log (nodes_of r.state) = record { libraries = all_listed r.log (start r.first libs) r.state i.replays; grants = (past_of r.state).grants; each = subst L (sym n) i.legal } in
    let H : Nodes → Type 0 = λ x. Legal first libs r.log x in
    (subst H (sym i.stands) legal, n)
