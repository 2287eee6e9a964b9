-- What a refusal tells.
use Rattle.trio_laws.proofs.Words.{◌≡◌, Bundle, Case, GivenTo, Kept, State, Tells, Why, arith, both_ways, case_in, creds_of, false, false_from_ne_true, is_accepted, meets_rules, parted_hold, settled, ℕ}
use Rattle.std.specs.Prelude.{None, IsFalse}
use Rattle.trio_laws.proofs.judgement.Breaking.{breaks_where_not_met}
use Rattle.trio_laws.proofs.judgement.Equivalence.{rules_are_accept}

-- a closed bundle that isn't accepted has a cause that a refusal can tell
pub refused_tells : (s : State) (lib : ℕ) (b : Bundle) → Kept s → GivenTo s lib b → parted_hold s lib b ≡ None
    → IsFalse (is_accepted (settled s) (creds_of s lib) b) → (why : Why) × Tells s lib b why
refused_tells s lib b kept given closed refused =
    let c : Case = case_in s lib b in
    let unmet : meets_rules c ≡ false = search (arith, false_from_ne_true, both_ways, rules_are_accept) in
    let r = (breaks_where_not_met c).0 unmet in
    (record { rule = r.0; ino = r.1; page = r.2.page; slot = r.2.slot }, r.3)
