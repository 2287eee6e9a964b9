-- The answers to the lines of a library, one after another.
use Rattle.std.proofs.Common.{◌≡◌, ℕ, zero, suc, ◌+◌, ◌<◌, ◌≤◌, min, List, [], ◌∷◌, ◌++◌, length, map, take, get_or, refl, sym, ap, ◌∙◌, arith}
use Rattle.std.proofs.lemmas.List.{append-nil, append_assoc, get_or-map, length-map}
use Rattle.trio_report.specs.declared.answer.LineAnswer.{LineAnswer}
use Rattle.trio_report.specs.Answers.{answer_line}
use Rattle.trio_commands.specs.Report.{answers_text}

-- ---- the answers

answers_more : (numbers : List ℕ) (tolds : List LineAnswer) (i : ℕ) (number : ℕ) (answer : LineAnswer) → i < length numbers → i < length tolds → get_or numbers i number ≡ number → get_or tolds i answer ≡ answer
    → answers_text (take (suc i) numbers) (take (suc i) tolds) ≡ answers_text (take i numbers) (take i tolds) ++ answer_line number answer
answers_more [] tolds i number answer a b is same = absurd (omega arith)
answers_more (l ∷ ls) [] i number answer a b is same = absurd (omega arith)
answers_more (l ∷ ls) (t ∷ ts) zero number answer a b is same =
    ap (λ x. answer_line x t ++ answers_text (take 0 ls) (take 0 ts)) is ∙ ap (λ x. answer_line number x ++ answers_text (take 0 ls) (take 0 ts)) same ∙ append-nil (answer_line number answer)
answers_more (l ∷ ls) (t ∷ ts) (suc i) number answer a b is same =
    ap (λ bytes. answer_line l t ++ bytes) (answers_more ls ts i number answer (omega arith) (omega arith) is same)
    ∙ sym (append_assoc (answer_line l t) (answers_text (take i ls) (take i ts)) (answer_line number answer))

answers_all : (numbers : List ℕ) (tolds : List LineAnswer) (i : ℕ) → min (length numbers) (length tolds) ≤ i → answers_text (take i numbers) (take i tolds) ≡ answers_text numbers tolds
answers_all [] tolds zero h = refl
answers_all [] tolds (suc i) h = refl
answers_all (l ∷ ls) [] zero h = refl
answers_all (l ∷ ls) [] (suc i) h = refl
answers_all (l ∷ ls) (t ∷ ts) zero h = absurd (omega arith)
answers_all (l ∷ ls) (t ∷ ts) (suc i) h = ap (λ bytes. answer_line l t ++ bytes) (answers_all ls ts i (omega arith))

-- the answers to lines, by their numbers
module _ {L : Type 0} (number : L → ℕ) where
  pub answers_put : (lines : List L) (answers : List LineAnswer) (i : ℕ) (line : L) (answer : LineAnswer) (old before after : List ℕ) → i < length lines → i < length answers → line ≡ get_or lines i line → answer ≡ get_or answers i answer
      → before ≡ old ++ answers_text (take i (map number lines)) (take i answers) → after ≡ before ++ answer_line (number line) answer
      → after ≡ old ++ answers_text (take (i + 1) (map number lines)) (take (i + 1) answers)
  answers_put lines answers i line answer old before after a b is same first more =
      let numbers : List ℕ = map number lines in
      let L : List ℕ = answer_line (number line) answer in
      let up : i + 1 ≡ suc i = omega arith in
      let many : length numbers ≡ length lines = length-map lines number in
      let at : get_or numbers i (number line) ≡ number line = get_or-map number lines i line (number line) a ∙ ap number (sym is) in
      more ∙ ap (λ bytes. bytes ++ L) first
      ∙ append_assoc old (answers_text (take i numbers) (take i answers)) L
      ∙ ap (λ bytes. old ++ bytes) (sym (answers_more numbers answers i (number line) answer (omega (arith, a, many)) b at (sym same)))
      ∙ ap (λ n. old ++ answers_text (take n numbers) (take n answers)) (sym up)

  pub answers_done : (lines : List L) (answers : List LineAnswer) (i : ℕ) → min (length lines) (length answers) ≤ i → answers_text (take i (map number lines)) (take i answers) ≡ answers_text (map number lines) answers
  answers_done lines answers i h =
      let many : length (map number lines) ≡ length lines = length-map lines number in
      answers_all (map number lines) answers i (omega (arith, h, many))
