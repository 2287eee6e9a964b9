-- The names that bytes are cut into are those whose path they are.
use Rattle.trio_script.proofs.Words.{◌++◌, ◌==◌, ◌∙◌, ◌∷◌, ◌≡◌, ◌≢◌, AllByRecursion, Bool, List, None, Option, Some, [], and_parts, ap, append-nil, arith, bytes_eq, false, nat_tests, refl, subst, sym, true, ℕ}
use Rattle.std.proofs.Common.{All}
use Rattle.std.specs.List.{join_with_byte, list_all, slice_split}
use Rattle.std.proofs.lemmas.Bool.{and_from}
use Rattle.std.proofs.lemmas.List.Splits.{slice_split_at, slice_split_none, join_with_byte-slice_split}
use Rattle.std.proofs.lemmas.Slice.Eq.{bytes_eq-Decides}
use Rattle.trio_names.specs.Name.{IsName, is_name}
use Rattle.trio_names.specs.Path.{IsAbsolute, IsPath, parts_bytes, path_bytes}
use Rattle.trio_names.proofs.NameFacts.{name_facts}
use Rattle.trio_script.specs.Words.{names_in, names_of}

abbrev is_slash : ℕ → Bool
is_slash b = b == 47

not_slash : (b : ℕ) → b ≢ 47 → is_slash b ≡ false
not_slash b h = grind (arith, nat_tests)

no_slash : (n : List ℕ) → IsName n → All (λ b. is_slash b ≡ false) n
no_slash n is = λ k d lt. not_slash _ ((name_facts n is).plain k d lt).1

-- a path's parts are its names
parts_split : (n : List ℕ) (ns : List (List ℕ)) → IsName n → AllByRecursion IsName ns → slice_split is_slash (n ++ parts_bytes ns) ≡ n ∷ ns
parts_split n [] is all = rw (append-nil n) (slice_split_none is_slash n (no_slash n is))
parts_split n (m ∷ ms) is all =
    slice_split_at is_slash n 47 (m ++ parts_bytes ms) (no_slash n is) refl ∙ ap (λ (l : List (List ℕ)). n ∷ l) (parts_split m ms all.0 all.1)

all_names : (ns : List (List ℕ)) → AllByRecursion IsName ns → list_all is_name ns ≡ true
all_names [] all = refl
all_names (n ∷ ns) all = and_from (is_name n) (list_all is_name ns) all.0 (all_names ns all.1)

each_name : (ns : List (List ℕ)) → list_all is_name ns ≡ true → AllByRecursion IsName ns
each_name [] e = tt
each_name (n ∷ ns) e =
    let p = and_parts (is_name n) (list_all is_name ns) e in
    (p.0, each_name ns p.1)

names_of-parts : (n : List ℕ) (ns : List (List ℕ)) → IsName n → AllByRecursion IsName ns → names_of (47 ∷ (n ++ parts_bytes ns)) ≡ Some (n ∷ ns)
names_of-parts [] ns is all = absurd cc
names_of-parts (b ∷ n) ns is all = rw (parts_split (b ∷ n) ns is all, all_names ((b ∷ n) ∷ ns) (is, all)) refl

names_of-path_bytes : (ns : List (List ℕ)) → AllByRecursion IsName ns → names_of (path_bytes ns) ≡ Some ns
names_of-path_bytes [] all = refl
names_of-path_bytes (n ∷ ns) all = names_of-parts n ns all.0 all.1

pub names_of-IsPath : (bytes : List ℕ) (names : List (List ℕ)) → IsPath bytes names → names_of bytes ≡ Some names
names_of-IsPath bytes names p = rw p.spelled (names_of-path_bytes names p.each)

join_with_byte-parts : (n : List ℕ) (ns : List (List ℕ)) → 47 ∷ join_with_byte 47 (n ∷ ns) ≡ parts_bytes (n ∷ ns)
join_with_byte-parts n [] = ap (λ (l : List ℕ). 47 ∷ l) (sym (append-nil n))
join_with_byte-parts n (m ∷ ms) = ap (λ (l : List ℕ). 47 ∷ (n ++ l)) (join_with_byte-parts m ms)

names_in-path : (bytes : List ℕ) (parts names : List (List ℕ)) → join_with_byte 47 parts ≡ bytes → names_in parts ≡ Some names → IsPath bytes names
names_in-path bytes [] names joined e = absurd (let wrong : None ≡ Some names = e in cc wrong)
names_in-path bytes ([] ∷ []) names joined e = absurd (let wrong : None ≡ Some names = e in cc wrong)
names_in-path bytes ((b ∷ p) ∷ ns) names joined e = absurd (let wrong : None ≡ Some names = e in cc wrong)
names_in-path bytes ([] ∷ n ∷ ns) names joined e = by (list_all is_name (n ∷ ns)) refl
  where
    by : (t : Bool) → list_all is_name (n ∷ ns) ≡ t → IsPath bytes names
    by true all =
        let found : Some (n ∷ ns) ≡ Some names = rw all at e in
        let same : n ∷ ns ≡ names = cc found in
        subst (IsPath bytes) same (record { spelled = sym joined ∙ join_with_byte-parts n ns; each = each_name (n ∷ ns) all })
    by false all =
        let wrong : None ≡ Some names = rw all at e in
        absurd (cc wrong)

pub IsPath-names_of : (bytes : List ℕ) (names : List (List ℕ)) → names_of bytes ≡ Some names → IsPath bytes names
IsPath-names_of bytes names e = by (bytes_eq bytes (47 ∷ [])) refl
  where
    by : (t : Bool) → bytes_eq bytes (47 ∷ []) ≡ t → IsPath bytes names
    by true root =
        let found : Some [] ≡ Some names = rw root at e in
        let same : [] ≡ names = cc found in
        subst (IsPath bytes) same (record { spelled = (bytes_eq-Decides bytes (47 ∷ [])).0 root; each = tt })
    by false root = names_in-path bytes (slice_split is_slash bytes) names (join_with_byte-slice_split 47 bytes) (rw root at e)

IsAbsolute-path_bytes : (names : List (List ℕ)) → IsAbsolute (path_bytes names)
IsAbsolute-path_bytes [] = refl
IsAbsolute-path_bytes (n ∷ ns) = refl

none_of : (bytes : List ℕ) (found : Option (List (List ℕ))) → names_of bytes ≡ found → ((names : List (List ℕ)) → IsPath bytes names → ⊥) → names_of bytes ≡ None
none_of bytes None e none = e
none_of bytes (Some names) e none = absurd (none names (IsPath-names_of bytes names e))

-- bytes that don't begin with a slash are no path
pub names_of-relative : (bytes : List ℕ) → (IsAbsolute bytes → ⊥) → names_of bytes ≡ None
names_of-relative bytes relative = none_of bytes (names_of bytes) refl (λ names p. relative (rw p.spelled (IsAbsolute-path_bytes names)))

pub names_of-no_path : (bytes : List ℕ) → ((names : List (List ℕ)) → IsPath bytes names → ⊥) → names_of bytes ≡ None
names_of-no_path bytes none = none_of bytes (names_of bytes) refl none
