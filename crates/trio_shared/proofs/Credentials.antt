-- The credentials of all libraries, one after another.
use Rattle.trio_shared.proofs.Words.{◌++◌, ◌+◌, ◌<◌, ◌∙◌, ◌∷◌, ◌≡◌, ◌≤◌, Creds, List, [], ap, arith, length, suc, sym, take, ℕ}
use Rattle.std.proofs.Common.{◌-◌, get_or, take-suc}
use Rattle.trio_nodes.specs.Libraries.{creds_in}
use Rattle.trio_laws.proofs.Credentials.{creds_placed}

-- those of one library more
pub creds_grow : (creds : List Creds) (n : ℕ) (own : Creds) (some more : List Creds) → n < length creds → own ≡ creds_in creds (n + 1) → some ≡ take n creds → more ≡ some ++ own ∷ [] → more ≡ take (n + 1) creds
creds_grow creds n own some more lt is same grows =
    let up : n + 1 ≡ suc n = omega arith in
    let low : 1 ≤ n + 1 = omega arith in
    let high : n + 1 ≤ length creds = omega (arith, lt) in
    let back : n + 1 - 1 ≡ n = omega arith in
    let mine : own ≡ get_or creds n own = is ∙ creds_placed creds (n + 1) own (low, high) ∙ ap (λ k. get_or creds k own) back in
    grows
    ∙ ap (λ l. l ++ own ∷ []) same
    ∙ ap (λ x. take n creds ++ x ∷ []) mine
    ∙ sym (take-suc creds n own lt)
    ∙ ap (λ k. take k creds) (sym up)
