-- The test of a name, and what it says.
use Rattle.std.proofs.Common.{◌≡◌, ◌≢◌, ℕ, ◌<◌, ◌≤◌, ◌==◌, ◌&&◌, not, nat_lt, nat_le, true, Bool, List, [], ◌∷◌, length, All, Any, inl, inr}
use Rattle.std.specs.Bool.{Decides}
use Rattle.std.specs.List.{list_all}
use Rattle.std.specs.Str.{bytes_eq}
use Rattle.std.proofs.lemmas.Bool.{and_parts, and_from, ltb-true, leb-true, lt-ltb, le-leb}
use Rattle.std.proofs.lemmas.Bool.Decides.{Decides-eqb, Decides-not}
use Rattle.std.proofs.lemmas.List.{get_or_default}
use Rattle.std.proofs.lemmas.List.Sums.{AllPass-from_list_all, list_all-from_AllPass}
use Rattle.std.proofs.lemmas.Slice.Eq.{bytes_eq-Decides}
use Rattle.trio_names.specs.Name.{IsName}
use Rattle.trio_names.specs.Reads.{IsBad, IsDots}

pub record NameFacts (bytes : List ℕ) : Type 0 where
  pub some : 0 < length bytes
  pub short : length bytes ≤ 184
  pub plain : All (λ b. (b ≢ 0) × (b ≢ 47)) bytes
  pub one_dot : bytes ≢ 46 ∷ []
  pub two_dots : bytes ≢ 46 ∷ 46 ∷ []

-- whether a byte differs from another
differs : (b c : ℕ) → Decides (not (b == c)) (b ≢ c)
differs b c = Decides-not (b == c) (Decides-eqb b c)

-- whether bytes differ from others
others : (bytes dots : List ℕ) → Decides (not (bytes_eq bytes dots)) (bytes ≢ dots)
others bytes dots = Decides-not (bytes_eq bytes dots) (bytes_eq-Decides bytes dots)

is_plain : ℕ → Bool
is_plain b = not (b == 0) && not (b == 47)

plain_facts : (b : ℕ) → is_plain b ≡ true → (b ≢ 0) × (b ≢ 47)
unfolding is_plain
plain_facts b is =
    let p = and_parts (not (b == 0)) (not (b == 47)) is in
    ((differs b 0).0 p.0, (differs b 47).0 p.1)

plain_from : (b : ℕ) → (b ≢ 0) × (b ≢ 47) → is_plain b ≡ true
unfolding is_plain
plain_from b f = and_from (not (b == 0)) (not (b == 47)) ((differs b 0).1 f.0) ((differs b 47).1 f.1)

five_parts : (a b c d e : Bool) → (a && b && c && d && e) ≡ true → (a ≡ true) × (b ≡ true) × (c ≡ true) × (d ≡ true) × (e ≡ true)
five_parts a b c d e all =
    let p = and_parts (a && b && c && d) e all in
    let q = and_parts (a && b && c) d p.0 in
    let r = and_parts (a && b) c q.0 in
    let s = and_parts a b r.0 in
    (s.0, s.1, r.1, q.1, p.1)

five_from : (a b c d e : Bool) → a ≡ true → b ≡ true → c ≡ true → d ≡ true → e ≡ true → (a && b && c && d && e) ≡ true
five_from a b c d e p q r s t = and_from (a && b && c && d) e (and_from (a && b && c) d (and_from (a && b) c (and_from a b p q) r) s) t

pub name_facts : (bytes : List ℕ) → IsName bytes → NameFacts bytes
unfolding is_plain
name_facts bytes is =
    let p = five_parts (nat_lt 0 (length bytes)) (nat_le (length bytes) 184) (list_all is_plain bytes) (not (bytes_eq bytes (46 ∷ []))) (not (bytes_eq bytes (46 ∷ 46 ∷ []))) is in
    record {
      some = ltb-true 0 (length bytes) p.0;
      short = leb-true (length bytes) 184 p.1;
      plain = λ k d lt. plain_facts _ (AllPass-from_list_all is_plain bytes p.2 k d lt);
      one_dot = (others bytes (46 ∷ [])).0 p.3;
      two_dots = (others bytes (46 ∷ 46 ∷ [])).0 p.4;
    }

pub name_from : (bytes : List ℕ) → NameFacts bytes → IsName bytes
unfolding is_plain
name_from bytes f =
    five_from (nat_lt 0 (length bytes)) (nat_le (length bytes) 184) (list_all is_plain bytes) (not (bytes_eq bytes (46 ∷ []))) (not (bytes_eq bytes (46 ∷ 46 ∷ [])))
    (lt-ltb 0 (length bytes) f.some)
    (le-leb (length bytes) 184 f.short)
    (list_all-from_AllPass is_plain bytes (λ k d lt. plain_from _ (f.plain k d lt)))
    ((others bytes (46 ∷ [])).1 f.one_dot)
    ((others bytes (46 ∷ 46 ∷ [])).1 f.two_dots)

-- bytes without a fault are a name
pub unfaulted : (bytes : List ℕ) → 0 < length bytes → length bytes ≤ 184 → (Any IsBad bytes → ⊥) → (IsDots bytes → ⊥) → IsName bytes
unfaulted bytes some short plain dots = name_from bytes (record {
  some = some;
  short = short;
  plain = λ k d lt. ((λ e. plain (k, _, lt, get_or_default bytes k _ _ lt, inl e)), (λ e. plain (k, _, lt, get_or_default bytes k _ _ lt, inr e)));
  one_dot = λ e. dots (inl e);
  two_dots = λ e. dots (inr e);
})
