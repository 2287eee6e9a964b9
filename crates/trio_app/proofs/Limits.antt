-- The limits of the numbers of a command.
use Rattle.trio_app.proofs.Words.{if◌then◌else◌, ◌&&◌, ◌∷◌, ◌≡◌, ◌≤◌, Bool, Command, IfSome, Json, Lines, List, None, Option, Some, [], and_parts, bytes_eq, check, codes, command_of, false, gen, gen_of, help, leb-true, migrate, nat_le, new_of, number_of, refl, run, run_of, subst, sym, tree, true, turns, unknown, version, ℕ}

-- the numbers of a command are within their limits: the files of a workload, and the workers of a run
abbrev IsWithin : Command → Type 0
IsWithin (gen number files) = files ≤ 1000
IsWithin (run image script out workers) = IfSome workers (λ n. (1 ≤ n) × (n ≤ 8))
IsWithin _ = Unit {0}

chosen : (test : Bool) (x y : Command) → (test ≡ true → IsWithin x) → IsWithin y → IsWithin (if test then x else y)
chosen true x y a b = a refl
chosen false x y a b = b

new_within : (out : List ℕ) (pages inodes : Option ℕ) → IsWithin (new_of out pages inodes)
new_within out (Some pages) (Some inodes) = tt
new_within out (Some pages) None = tt
new_within out None (Some inodes) = tt
new_within out None None = tt

run_within : (image script out : List ℕ) (workers : Option ℕ) → IsWithin (run_of image script out workers)
run_within image script out (Some workers) = chosen (nat_le 1 workers && nat_le workers 8) (run image script out (Some workers)) unknown (λ e. (let both = and_parts (nat_le 1 workers) (nat_le workers 8) e in (leb-true 1 workers both.0, leb-true workers 8 both.1))) tt
run_within image script out None = tt

gen_within : (number files : Option ℕ) → IsWithin (gen_of number files)
gen_within (Some number) (Some files) =
    chosen (nat_le 1 files && nat_le files 1000) (gen number files) unknown (λ e. leb-true files 1000 (and_parts (nat_le 1 files) (nat_le files 1000) e).1) tt
gen_within (Some number) None = tt
gen_within None (Some files) = tt
gen_within None None = tt

each_within : (words : List (List ℕ)) → IsWithin (command_of words)
each_within [] = tt
each_within (w ∷ []) =
    chosen (bytes_eq w (codes "--help")) help (if bytes_eq w (codes "--version") then version else unknown) (λ e. tt)
    (chosen (bytes_eq w (codes "--version")) version unknown (λ e. tt) tt)
each_within (w ∷ a ∷ []) =
    chosen (bytes_eq w (codes "check")) (check a) (if bytes_eq w (codes "tree") then tree a Lines else unknown) (λ e. tt)
    (chosen (bytes_eq w (codes "tree")) (tree a Lines) unknown (λ e. tt) tt)
each_within (w ∷ a ∷ b ∷ []) =
    let moved : Command = if bytes_eq w (codes "migrate") then migrate a b else unknown in
    chosen (bytes_eq w (codes "tree")) (if bytes_eq b (codes "json") then tree a Json else unknown) (if bytes_eq w (codes "gen") then gen_of (number_of a) (number_of b) else moved)
    (λ e. chosen (bytes_eq b (codes "json")) (tree a Json) unknown (λ f. tt) tt)
    (chosen (bytes_eq w (codes "gen")) (gen_of (number_of a) (number_of b)) moved (λ e. gen_within (number_of a) (number_of b))
    (chosen (bytes_eq w (codes "migrate")) (migrate a b) unknown (λ e. tt) tt))
each_within (w ∷ a ∷ b ∷ d ∷ []) =
    chosen (bytes_eq w (codes "new")) (new_of a (number_of b) (number_of d)) (if bytes_eq w (codes "turns") then turns a b d else (if bytes_eq w (codes "run") then run a b d None else unknown))
    (λ e. new_within a (number_of b) (number_of d))
    (chosen (bytes_eq w (codes "turns")) (turns a b d) (if bytes_eq w (codes "run") then run a b d None else unknown) (λ e. tt)
    (chosen (bytes_eq w (codes "run")) (run a b d None) unknown (λ e. tt) tt))
each_within (w ∷ a ∷ b ∷ d ∷ e ∷ []) = chosen (bytes_eq w (codes "run")) (run_of a b d (number_of e)) unknown (λ g. run_within a b d (number_of e)) tt
each_within (w ∷ a ∷ b ∷ d ∷ e ∷ f ∷ rest) = tt

pub gen_files : (number files : ℕ) (words : List (List ℕ)) → gen number files ≡ command_of words → files ≤ 1000
gen_files number files words e = subst IsWithin (sym e) (each_within words)

pub run_workers : (image script out : List ℕ) (workers : Option ℕ) (words : List (List ℕ)) → run image script out workers ≡ command_of words → IfSome workers (λ n. (1 ≤ n) × (n ≤ 8))
run_workers image script out workers words e = subst IsWithin (sym e) (each_within words)
