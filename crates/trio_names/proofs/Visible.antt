-- What is printed is visible.
use Rattle.std.proofs.Common.{◌≡◌, ℕ, suc, ◌+◌, ◌<◌, ◌/◌, ◌%◌, ◌==◌, ◌&&◌, not, nat_lt, nat_le, List, [], ◌∷◌, All, get_or, take, length, subst, sym, ap, ◌∙◌, ◌≤◌, arith}
use Rattle.std.specs.List.{AllByRecursion}
use Rattle.std.proofs.lemmas.Bool.{and_parts, cond_both, ltb-true, leb-true}
use Rattle.std.proofs.lemmas.List.Elements.{All-from_recursion, All-append}
use Rattle.std.proofs.lemmas.List.{take_all}
use Rattle.trio_names.specs.Escaped.{hex_digit, escaped_byte, escaped_of, IsVisible}

digit : (d : ℕ) → d < 16 → IsVisible (hex_digit d)
digit d lt = cond_both (nat_lt d 10) (48 + d) (55 + d) IsVisible (λ e. (omega arith, omega (arith, ltb-true d 10 e))) (λ e. (omega arith, omega arith))

byte : (b : ℕ) → b < 256 → AllByRecursion IsVisible (escaped_byte b)
byte b lt =
    cond_both (nat_le 33 b && nat_le b 126 && not (b == 92)) (b ∷ []) (92 ∷ 120 ∷ hex_digit (b / 16) ∷ hex_digit (b % 16) ∷ []) (AllByRecursion IsVisible)
    (λ e. let p = and_parts (nat_le 33 b) (nat_le b 126) (and_parts (nat_le 33 b && nat_le b 126) (not (b == 92)) e).0 in ((leb-true 33 b p.0, leb-true b 126 p.1), tt))
    (λ e. ((omega arith, omega arith), ((omega arith, omega arith), (digit (b / 16) (omega arith), (digit (b % 16) (omega arith), tt)))))

all_visible : (bytes : List ℕ) → ((i : ℕ) → get_or bytes i 0 < 256) → All IsVisible (escaped_of bytes)
all_visible [] fits = λ k d lt. absurd (omega arith)
all_visible (b ∷ bytes) fits = All-append IsVisible (escaped_byte b) (escaped_of bytes) (All-from_recursion IsVisible (escaped_byte b) (byte b (fits 0))) (all_visible bytes (λ i. fits (suc i)))

-- of the first n bytes, where there are no more
pub visible : (bytes text : List ℕ) (n : ℕ) → ((i : ℕ) → get_or bytes i 0 < 256) → text ≡ escaped_of (take n bytes) → length bytes ≤ n → All IsVisible text
visible bytes text n fits same all = subst (All IsVisible) (sym (same ∙ ap escaped_of (take_all n bytes all))) (all_visible bytes fits)
