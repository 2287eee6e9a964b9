-- The names and the paths of the workload.
use Rattle.trio_gen.proofs.Words.{◌++◌, ◌+◌, ◌<◌, ◌^◌, ◌∙◌, ◌∷◌, ◌≡◌, ◌≤◌, List, [], ap, append-nil, arith, codes, decimal, file_in, get_or, home, length, part_in, refl, suc, sym, ℕ}
use Rattle.std.proofs.Common.{◌≢◌, All}
use Rattle.std.proofs.lemmas.Fmt.{decimal_by_steps, length-decimal-le}
use Rattle.std.proofs.lemmas.List.Elements.{All-nil, All-cons, All-append}
use Rattle.trio_names.specs.Name.{IsName}
use Rattle.trio_names.specs.Path.{IsPath}
use Rattle.trio_names.proofs.NameFacts.{name_from}

-- the bytes of a number are digits, none of which is below 48
decimal_high : (n : ℕ) → n < 2 ^ 64 → All (λ b. 48 ≤ b) (decimal n)
decimal_high n small =
    decimal_by_steps (λ m ds. All (λ b. 48 ≤ b) ds)
    (λ m lt. All-cons (λ b. 48 ≤ b) (48 + m) [] (omega arith) (All-nil (λ b. 48 ≤ b)))
    (λ m ds ge h. All-append (λ b. 48 ≤ b) ds _ h (All-cons (λ b. 48 ≤ b) _ [] (omega arith) (All-nil (λ b. 48 ≤ b)))) n small

-- a letter and a number are a name
pub IsName-numbered : (c n : ℕ) → 48 ≤ c → n < 2 ^ 32 → IsName (c ∷ decimal n)
IsName-numbered c n high small =
    let short : length (decimal n) ≤ 10 = length-decimal-le 10 n (omega arith) (omega arith) (omega arith) in
    let all : All (λ b. 48 ≤ b) (c ∷ decimal n) = All-cons (λ b. 48 ≤ b) c (decimal n) high (decimal_high n (omega arith)) in
    name_from (c ∷ decimal n) (record {
      some = omega arith;
      short = omega (arith, short);
      plain = λ k d lt. let h = all k d lt in ((λ e. omega (arith, h, e)), (λ e. omega (arith, h, e)));
      one_dot = λ e. let same : c ≡ 46 = cc e in omega (arith, same, high);
      two_dots = λ e. let same : c ≡ 46 = cc e in omega (arith, same, high);
    })

-- `/dK`
pub IsPath-home : (k : ℕ) (bytes : List ℕ) → k < 2 ^ 32 → bytes ≡ codes "/d" ++ decimal k → IsPath bytes (home k)
IsPath-home k bytes small e = record {
  spelled = e ∙ ap (λ l. 47 ∷ 100 ∷ l) (sym (append-nil (decimal k)));
  each = (IsName-numbered 100 k (omega arith) small, tt);
}

-- `/dK/PART`
pub IsPath-part_in : (k : ℕ) (part bytes : List ℕ) → k < 2 ^ 32 → IsName part → bytes ≡ codes "/d" ++ (decimal k ++ (codes "/" ++ part)) → IsPath bytes (part_in k part)
IsPath-part_in k part bytes small named e = record {
  spelled = e ∙ ap (λ l. 47 ∷ 100 ∷ (decimal k ++ 47 ∷ l)) (sym (append-nil part));
  each = (IsName-numbered 100 k (omega arith) small, (named, tt));
}

-- `/dK/PART/fJ`
pub IsPath-file_in : (k : ℕ) (part : List ℕ) (j : ℕ) (bytes : List ℕ) → k < 2 ^ 32 → j < 2 ^ 32 → IsName part → bytes ≡ codes "/d" ++ (decimal k ++ (codes "/" ++ (part ++ (codes "/f" ++ decimal j)))) → IsPath bytes (file_in k part j)
IsPath-file_in k part j bytes small small' named e = record {
  spelled = e ∙ ap (λ l. 47 ∷ 100 ∷ (decimal k ++ 47 ∷ (part ++ 47 ∷ 102 ∷ l))) (sym (append-nil (decimal j)));
  each = (IsName-numbered 100 k (omega arith) small, (named, (IsName-numbered 102 j (omega arith) small', tt)));
}
