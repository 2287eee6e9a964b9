-- Where the credentials of a library stand.
use Rattle.trio_laws.proofs.Words.{◌-◌, ◌<◌, ◌≡◌, Creds, List, ap, arith, creds_in, get_or, length, suc, ℕ}
use Rattle.std.specs.Option.{unwrap_or}
use Rattle.std.proofs.lemmas.Option.{slice_get-get_or}
use Rattle.trio_nodes.specs.Libraries.{IsLibrary, nobody}

placed : (creds : List Creds) (n : ℕ) (d : Creds) → n < length creds → creds_in creds (suc n) ≡ get_or creds n d
placed creds n d lt = ap (λ o. unwrap_or o nobody) (slice_get-get_or creds n d lt)

-- one place before its number
pub creds_placed : (creds : List Creds) (lib : ℕ) (d : Creds) → IsLibrary creds lib → creds_in creds lib ≡ get_or creds (lib - 1) d
creds_placed creds lib d is = search (arith, placed)
