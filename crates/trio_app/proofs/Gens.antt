-- The generated workload: the answers to its calls, and what its plays come to.
use Rattle.trio_app.proofs.Words.{if◌then◌else◌, ◌&&◌, ◌++◌, ◌+◌, ◌<◌, ◌∙◌, ◌∷◌, ◌≡◌, ◌≤◌, Bool, Command, Heard, IsPlayEnd, Json, Lines, List, None, Option, ScriptLib, Some, Superblock, [], and_parts, ap, append-nil, append_assoc, arith, bytes_eq, calls_told, check, codes, command_of, core_in, counts_of, counts_text, false, gen, gen_of, get_or, help, image_in, leb-true, length, min, nat_le, new_of, number_of, refl, run, run_of, subst, suc, sym, take, told_counts, tree, tree_of, true, turns, unknown, version, zero, ℕ}
use Rattle.trio_image.specs.Made.{IsMade}
use Rattle.trio_report.specs.declared.answer.LineAnswer.{LineAnswer}
use Rattle.trio_gen.specs.Summary.{call_answers, summary_line}
use Rattle.trio_gen.specs.Workload.{directories_script, files_script}
use Rattle.trio_app.specs.Gen.{GenDone}
use Rattle.trio_app.proofs.Ends.{told_of_settled}

-- ---- the answers

calls_more : (libs : List ScriptLib) (heards : List Heard) (i : ℕ) (lib : ScriptLib) (heard : Heard) → i < length libs → i < length heards → get_or libs i lib ≡ lib → get_or heards i heard ≡ heard
    → calls_told (take (suc i) libs) (take (suc i) heards) ≡ calls_told (take i libs) (take i heards) ++ call_answers lib.lines heard.answers
calls_more [] heards i lib heard a b is same = absurd (omega arith)
calls_more (l ∷ ls) [] i lib heard a b is same = absurd (omega arith)
calls_more (l ∷ ls) (h ∷ hs) zero lib heard a b is same =
    ap (λ (x : ScriptLib). call_answers x.lines h.answers ++ calls_told (take 0 ls) (take 0 hs)) is
    ∙ ap (λ (x : Heard). call_answers lib.lines x.answers ++ calls_told (take 0 ls) (take 0 hs)) same
    ∙ append-nil (call_answers lib.lines heard.answers)
calls_more (l ∷ ls) (h ∷ hs) (suc i) lib heard a b is same =
    ap (λ answers. call_answers l.lines h.answers ++ answers) (calls_more ls hs i lib heard (omega arith) (omega arith) is same)
    ∙ sym (append_assoc (call_answers l.lines h.answers) (calls_told (take i ls) (take i hs)) (call_answers lib.lines heard.answers))

pub calls_all : (libs : List ScriptLib) (heards : List Heard) (i : ℕ) → min (length libs) (length heards) ≤ i → calls_told (take i libs) (take i heards) ≡ calls_told libs heards
calls_all [] heards zero h = refl
calls_all [] heards (suc i) h = refl
calls_all (l ∷ ls) [] zero h = refl
calls_all (l ∷ ls) [] (suc i) h = refl
calls_all (l ∷ ls) (t ∷ ts) zero h = absurd (omega arith)
calls_all (l ∷ ls) (t ∷ ts) (suc i) h = ap (λ answers. call_answers l.lines t.answers ++ answers) (calls_all ls ts i (omega arith))

pub calls_put : (libs : List ScriptLib) (heards : List Heard) (i : ℕ) (lib : ScriptLib) (heard : Heard) (before after : List LineAnswer) → i < length libs → i < length heards → lib ≡ get_or libs i lib → heard ≡ get_or heards i heard
    → before ≡ calls_told (take i libs) (take i heards) → after ≡ before ++ call_answers (get_or libs i lib).lines heard.answers
    → after ≡ calls_told (take (i + 1) libs) (take (i + 1) heards)
calls_put libs heards i lib heard before after a b is same first more =
    let up : i + 1 ≡ suc i = omega arith in
    more ∙ ap (λ (x : ScriptLib). before ++ call_answers x.lines heard.answers) (sym is)
    ∙ ap (λ answers. answers ++ call_answers lib.lines heard.answers) first
    ∙ sym (calls_more libs heards i lib heard a b (sym is) (sym same))
    ∙ ap (λ n. calls_told (take n libs) (take n heards)) (sym up)

-- ---- the plays

pub gen_done : (number files : ℕ) (s t u : Superblock) (pages middle last : List (Option (List ℕ))) (first second : List ScriptLib) (told tolds : List Heard) (text : List ℕ)
    → IsMade 8192 2048 s pages → first ≡ directories_script → second ≡ files_script number files
    → IsPlayEnd (image_in s pages) first told t middle → IsPlayEnd (image_in t middle) second tolds u last
    → text ≡ summary_line number files (calls_told second tolds) (tree_of (core_in u last)) ++ counts_text (told_counts (counts_of (image_in u last)))
    → GenDone number files text
gen_done number files s t u pages middle last first second told tolds text made first_is second_is end end' put =
    let a : IsPlayEnd (image_in s pages) directories_script told t middle = subst (λ libs. IsPlayEnd (image_in s pages) libs told t middle) first_is end in
    let b : IsPlayEnd (image_in t middle) (files_script number files) tolds u last = subst (λ libs. IsPlayEnd (image_in t middle) libs tolds u last) second_is end' in
    let put' : text ≡ summary_line number files (calls_told (files_script number files) tolds) (tree_of (core_in u last)) ++ counts_text (told_counts (counts_of (image_in u last))) =
    put ∙ ap (λ libs. summary_line number files (calls_told libs tolds) (tree_of (core_in u last)) ++ counts_text (told_counts (counts_of (image_in u last)))) second_is in
    record {
      superblock = s;
      pages = pages;
      made = made;
      first = a.played;
      first_headline = a.headline;
      first_log = a.log;
      between = t;
      between_is = a.last.superblock;
      middle = middle;
      stores = a.last.stores;
      second = b.played;
      second_headline = b.headline;
      second_log = b.log;
      put = put' ∙ told_of_settled (λ hs ls k. summary_line number files (calls_told (files_script number files) hs) ls ++ counts_text (told_counts k)) b.played.last.told tolds b.played.last.state u last b.told b.last;
    }
