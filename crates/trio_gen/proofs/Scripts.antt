-- Libraries one after another.
use Rattle.trio_gen.proofs.Words.{◌++◌, ◌+◌, ◌∙◌, ◌∷◌, ◌≡◌, AllByRecursion, AreWithin, HonestLine, List, SaysWithin, [], ap, arith, directories_of, length, libraries_at, libraries_lines, library_lines, line_behind, refl, suc, sym, ℕ}
use Rattle.trio_script.specs.declared.ScriptLib.{ScriptLib}
use Rattle.trio_gen.specs.Workload.{directories_script, files_script, library_at}
use Rattle.trio_gen.proofs.LineFacts.{library_within, numbered_within}

-- one library more
pub libraries_at-more : (n : ℕ) (all : List (List HonestLine)) (lines : List HonestLine) → libraries_at n (all ++ lines ∷ []) ≡ libraries_at n all ++ library_at (line_behind n all) lines ∷ []
libraries_at-more n [] lines = refl
libraries_at-more n (l ∷ all) lines = ap (λ rest. library_at n l ∷ rest) (libraries_at-more (n + 1 + length l) all lines)

pub line_behind-more : (n : ℕ) (all : List (List HonestLine)) (lines : List HonestLine) → line_behind n (all ++ lines ∷ []) ≡ line_behind n all + 1 + length lines
line_behind-more n [] lines = refl
line_behind-more n (l ∷ all) lines = line_behind-more (n + 1 + length l) all lines

-- the libraries and the next line after one library more
pub library_put : (number files k next : ℕ) (lines : List HonestLine) (before after : List ScriptLib) → before ≡ libraries_at 1 (libraries_lines number files k) → next ≡ line_behind 1 (libraries_lines number files k)
    → lines ≡ library_lines number files (k + 1) → after ≡ before ++ library_at next lines ∷ [] → after ≡ libraries_at 1 (libraries_lines number files (k + 1))
library_put number files k next lines before after b n l e =
    let all : List (List HonestLine) = libraries_lines number files k in
    let up : suc k ≡ k + 1 = omega arith in
    e ∙ ap (λ ls. ls ++ library_at next lines ∷ []) b ∙ ap (λ m. libraries_at 1 all ++ library_at m lines ∷ []) n
    ∙ ap (λ ls. libraries_at 1 all ++ library_at (line_behind 1 all) ls ∷ []) l ∙ sym (libraries_at-more 1 all (library_lines number files (k + 1)))
    ∙ ap (λ m. libraries_at 1 (libraries_lines number files m)) up

pub next_put : (number files k next next' : ℕ) (lines : List HonestLine) → next ≡ line_behind 1 (libraries_lines number files k) → lines ≡ library_lines number files (k + 1) → next' ≡ next + 1 + length lines
    → next' ≡ line_behind 1 (libraries_lines number files (k + 1))
next_put number files k next next' lines n l e =
    let all : List (List HonestLine) = libraries_lines number files k in
    let up : suc k ≡ k + 1 = omega arith in
    e ∙ ap (λ m. m + 1 + length lines) n ∙ ap (λ ls. line_behind 1 all + 1 + length ls) l ∙ sym (line_behind-more 1 all (library_lines number files (k + 1)))
    ∙ ap (λ m. line_behind 1 (libraries_lines number files m)) up

libraries_within : (n : ℕ) (all : List (List HonestLine)) → AllByRecursion (AllByRecursion SaysWithin) all → AreWithin (libraries_at n all)
libraries_within n [] h = tt
libraries_within n (l ∷ all) h = (numbered_within (n + 1) l h.0, libraries_within (n + 1 + length l) all h.1)

pub directories_made : (old new : List ScriptLib) (lines : List HonestLine) → old ≡ [] → lines ≡ directories_of 4 → new ≡ old ++ library_at 1 lines ∷ [] → new ≡ directories_script
unfolding directories_script
directories_made old new lines none is e = e ∙ ap (λ l. l ++ library_at 1 lines ∷ []) none ∙ ap (λ ls. library_at 1 ls ∷ []) is

-- the second script
pub files_made : (number files k : ℕ) (libs : List ScriptLib) → k ≡ 4 → libs ≡ libraries_at 1 (libraries_lines number files k) → libs ≡ files_script number files
unfolding files_script
files_made number files k libs is e = e ∙ ap (λ n. libraries_at 1 (libraries_lines number files n)) is

pub files_are_within : (number files : ℕ) → AreWithin (files_script number files)
unfolding files_script
files_are_within number files =
    libraries_within 1 (libraries_lines number files 4)
    (library_within number files 1, (library_within number files 2, (library_within number files 3, (library_within number files 4, tt))))
