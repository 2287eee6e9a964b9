-- Answers that are picked one after another, and counted.
use Rattle.trio_gen.proofs.Words.{◌++◌, ◌+◌, ◌<◌, ◌∙◌, ◌∷◌, ◌≡◌, ◌≤◌, Bool, HonestLine, List, ScriptLine, TreeLine, [], answers_where, ap, append-nil, arith, codes, decimal, false, get_or, is_call, length, map, refl, suc, sum_by, sym, take, true, zero, ℕ}
use Rattle.std.proofs.Common.{min}
use Rattle.std.specs.List.{count_by}
use Rattle.std.proofs.lemmas.List.Sums.{sum_by-cons}
use Rattle.std.proofs.lemmas.List.{append_assoc, get_or-map, length-map}
use Rattle.trio_report.specs.declared.answer.LineAnswer.{LineAnswer}
use Rattle.trio_gen.specs.declared.summary.Tally.{Tally}
use Rattle.trio_gen.specs.Summary.{answer_where, bytes_in, calls_text, is_busy, is_ok, tally_of}

answers_where-more : (calls : List Bool) (answers : List LineAnswer) (i : ℕ) (call : Bool) (answer : LineAnswer) → i < length calls → i < length answers → get_or calls i call ≡ call → get_or answers i answer ≡ answer
    → answers_where (take (suc i) calls) (take (suc i) answers) ≡ answers_where (take i calls) (take i answers) ++ answer_where call answer
answers_where-more [] answers i call answer a b is same = absurd (omega arith)
answers_where-more (c ∷ cs) [] i call answer a b is same = absurd (omega arith)
answers_where-more (c ∷ cs) (t ∷ ts) zero call answer a b is same =
    ap (λ x. answer_where x t ++ []) is ∙ ap (λ x. answer_where call x ++ []) same ∙ append-nil (answer_where call answer)
answers_where-more (c ∷ cs) (t ∷ ts) (suc i) call answer a b is same =
    ap (λ l. answer_where c t ++ l) (answers_where-more cs ts i call answer (omega arith) (omega arith) is same)
    ∙ sym (append_assoc (answer_where c t) (answers_where (take i cs) (take i ts)) (answer_where call answer))

answers_where-all : (calls : List Bool) (answers : List LineAnswer) (i : ℕ) → min (length calls) (length answers) ≤ i → answers_where (take i calls) (take i answers) ≡ answers_where calls answers
answers_where-all [] answers zero h = refl
answers_where-all [] answers (suc i) h = refl
answers_where-all (c ∷ cs) [] zero h = refl
answers_where-all (c ∷ cs) [] (suc i) h = refl
answers_where-all (c ∷ cs) (t ∷ ts) zero h = absurd (omega arith)
answers_where-all (c ∷ cs) (t ∷ ts) (suc i) h = ap (λ l. answer_where c t ++ l) (answers_where-all cs ts i (omega arith))

-- one answer more
pub answers_put : (lines : List (ScriptLine HonestLine)) (answers : List LineAnswer) (i : ℕ) (line : ScriptLine HonestLine) (answer : LineAnswer) (call : Bool) (old before after : List LineAnswer) → i < length lines → i < length answers
    → line ≡ get_or lines i line → answer ≡ get_or answers i answer → call ≡ is_call line.line
    → before ≡ old ++ answers_where (take i (map (λ l. is_call l.line) lines)) (take i answers) → after ≡ before ++ answer_where call answer
    → after ≡ old ++ answers_where (take (i + 1) (map (λ l. is_call l.line) lines)) (take (i + 1) answers)
answers_put lines answers i line answer call old before after a b is same says first more =
    let calls : List Bool = map (λ (l : ScriptLine HonestLine). is_call l.line) lines in
    let up : i + 1 ≡ suc i = omega arith in
    let many : length calls ≡ length lines = length-map lines (λ (l : ScriptLine HonestLine). is_call l.line) in
    let at : get_or calls i call ≡ call = get_or-map (λ (l : ScriptLine HonestLine). is_call l.line) lines i line call a ∙ ap (λ (l : ScriptLine HonestLine). is_call l.line) (sym is) ∙ sym says in
    more ∙ ap (λ l. l ++ answer_where call answer) first
    ∙ append_assoc old (answers_where (take i calls) (take i answers)) (answer_where call answer)
    ∙ ap (λ l. old ++ l) (sym (answers_where-more calls answers i call answer (omega (arith, a, many)) b at (sym same)))
    ∙ ap (λ n. old ++ answers_where (take n calls) (take n answers)) (sym up)

-- once the shorter list has ended, all were picked
answers_done : (lines : List (ScriptLine HonestLine)) (answers : List LineAnswer) (i : ℕ) → min (length lines) (length answers) ≤ i
    → answers_where (take i (map (λ l. is_call l.line) lines)) (take i answers) ≡ answers_where (map (λ l. is_call l.line) lines) answers
answers_done lines answers i h =
    let many : length (map (λ (l : ScriptLine HonestLine). is_call l.line) lines) ≡ length lines = length-map lines (λ (l : ScriptLine HonestLine). is_call l.line) in
    answers_where-all (map (λ (l : ScriptLine HonestLine). is_call l.line) lines) answers i (omega (arith, h, many))

pub answers_end : (lines : List (ScriptLine HonestLine)) (answers : List LineAnswer) (i : ℕ) (old all : List LineAnswer) → min (length lines) (length answers) ≤ i
    → all ≡ old ++ answers_where (take i (map (λ l. is_call l.line) lines)) (take i answers) → all ≡ old ++ answers_where (map (λ l. is_call l.line) lines) answers
answers_end lines answers i old all h e = e ∙ ap (λ l. old ++ l) (answers_done lines answers i h)

-- a sum and a count over what a function gives
sum_by-map : {X Y : Type 0} (f : Y → ℕ) (g : X → Y) (xs : List X) → sum_by f (map g xs) ≡ sum_by (λ x. f (g x)) xs
sum_by-map f g [] = refl
sum_by-map f g (x ∷ xs) = sum_by-cons f (g x) (map g xs) ∙ ap (λ n. f (g x) + n) (sum_by-map f g xs) ∙ sym (sum_by-cons (λ y. f (g y)) x xs)

count_by-map : {X Y : Type 0} (p : Y → Bool) (f : X → Y) (xs : List X) → count_by p (map f xs) ≡ count_by (λ x. p (f x)) xs
count_by-map p f xs = sum_by-map _ f xs

tally : (calls ok busy bytes : ℕ) → Tally
tally calls ok busy bytes = record { calls = calls; ok = ok; busy = busy; bytes = bytes }

-- a tally by the answers that references point to
pub tally_is : {X : Type 0} (now : X → LineAnswer) (xs : List X) (calls ok busy bytes : ℕ) (tree : List TreeLine) → calls ≡ length xs → ok ≡ count_by (λ x. is_ok (now x)) xs → busy ≡ count_by (λ x. is_busy (now x)) xs → bytes ≡ bytes_in tree
    → record { calls = calls; ok = ok; busy = busy; bytes = bytes } ≡ tally_of (map now xs) tree
unfolding tally
tally_is now xs calls ok busy bytes tree a b c d =
    ap (λ n. tally n ok busy bytes) (a ∙ sym (length-map xs now))
    ∙ ap (λ n. tally (length (map now xs)) n busy bytes) (b ∙ sym (count_by-map is_ok now xs))
    ∙ ap (λ n. tally (length (map now xs)) (count_by is_ok (map now xs)) n bytes) (c ∙ sym (count_by-map is_busy now xs))
    ∙ ap (λ n. tally (length (map now xs)) (count_by is_ok (map now xs)) (count_by is_busy (map now xs)) n) d

-- six parts of a text, from the left and from the right
parts_assoc : (a b c d e f : List ℕ) → a ++ b ++ c ++ d ++ e ++ f ≡ a ++ (b ++ (c ++ (d ++ (e ++ f))))
parts_assoc a b c d e f =
    append_assoc (a ++ b ++ c ++ d) e f ∙ append_assoc (a ++ b ++ c) d (e ++ f) ∙ append_assoc (a ++ b) c (d ++ (e ++ f)) ∙ append_assoc a b (c ++ (d ++ (e ++ f)))

-- the words for a workload were put
pub calls_put : (number files calls : ℕ) (out out' text : List ℕ) → text ≡ codes "gen number " ++ (decimal number ++ (codes " files " ++ (decimal files ++ (codes " calls " ++ decimal calls)))) → out' ≡ out ++ text
    → out' ≡ out ++ calls_text number files calls
calls_put number files calls out out' text is put =
    put ∙ ap (λ l. out ++ l) (is ∙ sym (parts_assoc (codes "gen number ") (decimal number) (codes " files ") (decimal files) (codes " calls ") (decimal calls)))
