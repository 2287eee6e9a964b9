-- The names of a command are among its words.
use Rattle.trio_app.proofs.Words.{if◌then◌else◌, ◌&&◌, ◌∷◌, Bool, Command, Json, Lines, List, None, Option, Some, [], bytes_eq, check, codes, command_of, false, gen, gen_of, help, migrate, nat_le, new_image, new_of, number_of, run, run_of, tree, true, turns, unknown, version, ℕ}
use Rattle.std.proofs.Common.{All}
use Rattle.std.proofs.lemmas.List.Elements.{All-head, All-tail}

-- this holds of each name of a file
abbrev pub EachName : (List ℕ → Type 0) → Command → Type 0
EachName P (new_image out pages inodes) = P out
EachName P (check image) = P image
EachName P (tree image form) = P image
EachName P (turns image script out) = P image × P script × P out
EachName P (run image script out workers) = P image × P script × P out
EachName P (migrate image out) = P image × P out
EachName P _ = Unit {0}

chosen : (P : List ℕ → Type 0) (test : Bool) (x y : Command) → EachName P x → EachName P y → EachName P (if test then x else y)
chosen P true x y a b = a
chosen P false x y a b = b

new_names : (P : List ℕ → Type 0) (out : List ℕ) (pages inodes : Option ℕ) → P out → EachName P (new_of out pages inodes)
new_names P out (Some pages) (Some inodes) h = h
new_names P out (Some pages) None h = tt
new_names P out None (Some inodes) h = tt
new_names P out None None h = tt

run_names : (P : List ℕ → Type 0) (image script out : List ℕ) (workers : Option ℕ) → P image × P script × P out → EachName P (run_of image script out workers)
run_names P image script out (Some workers) h = chosen P (nat_le 1 workers && nat_le workers 8) (run image script out (Some workers)) unknown h tt
run_names P image script out None h = tt

gen_names : (P : List ℕ → Type 0) (number files : Option ℕ) → EachName P (gen_of number files)
gen_names P (Some number) (Some files) = chosen P (nat_le 1 files && nat_le files 1000) (gen number files) unknown tt tt
gen_names P (Some number) None = tt
gen_names P None (Some files) = tt
gen_names P None None = tt

pub each_name : (P : List ℕ → Type 0) (words : List (List ℕ)) → All P words → EachName P (command_of words)
each_name P [] h = tt
each_name P (w ∷ []) h =
    chosen P (bytes_eq w (codes "--help")) help (if bytes_eq w (codes "--version") then version else unknown) tt
    (chosen P (bytes_eq w (codes "--version")) version unknown tt tt)
each_name P (w ∷ a ∷ []) h =
    let first : P a = All-head P a [] (All-tail P w (a ∷ []) h) in
    chosen P (bytes_eq w (codes "check")) (check a) (if bytes_eq w (codes "tree") then tree a Lines else unknown) first
    (chosen P (bytes_eq w (codes "tree")) (tree a Lines) unknown first tt)
each_name P (w ∷ a ∷ b ∷ []) h =
    let rest : All P (a ∷ b ∷ []) = All-tail P w (a ∷ b ∷ []) h in
    let first : P a = All-head P a (b ∷ []) rest in
    let second : P b = All-head P b [] (All-tail P a (b ∷ []) rest) in
    let moved : Command = if bytes_eq w (codes "migrate") then migrate a b else unknown in
    chosen P (bytes_eq w (codes "tree")) (if bytes_eq b (codes "json") then tree a Json else unknown) (if bytes_eq w (codes "gen") then gen_of (number_of a) (number_of b) else moved)
    (chosen P (bytes_eq b (codes "json")) (tree a Json) unknown first tt)
    (chosen P (bytes_eq w (codes "gen")) (gen_of (number_of a) (number_of b)) moved (gen_names P (number_of a) (number_of b))
    (chosen P (bytes_eq w (codes "migrate")) (migrate a b) unknown (first, second) tt))
each_name P (w ∷ a ∷ b ∷ d ∷ []) h =
    let rest : All P (a ∷ b ∷ d ∷ []) = All-tail P w (a ∷ b ∷ d ∷ []) h in
    let more : All P (b ∷ d ∷ []) = All-tail P a (b ∷ d ∷ []) rest in
    let first : P a = All-head P a (b ∷ d ∷ []) rest in
    let all : P a × P b × P d = (first, All-head P b (d ∷ []) more, All-head P d [] (All-tail P b (d ∷ []) more)) in
    chosen P (bytes_eq w (codes "new")) (new_of a (number_of b) (number_of d)) (if bytes_eq w (codes "turns") then turns a b d else (if bytes_eq w (codes "run") then run a b d None else unknown))
    (new_names P a (number_of b) (number_of d) first)
    (chosen P (bytes_eq w (codes "turns")) (turns a b d) (if bytes_eq w (codes "run") then run a b d None else unknown) all
    (chosen P (bytes_eq w (codes "run")) (run a b d None) unknown all tt))
each_name P (w ∷ a ∷ b ∷ d ∷ e ∷ []) h =
    let rest : All P (a ∷ b ∷ d ∷ e ∷ []) = All-tail P w (a ∷ b ∷ d ∷ e ∷ []) h in
    let more : All P (b ∷ d ∷ e ∷ []) = All-tail P a (b ∷ d ∷ e ∷ []) rest in
    let all : P a × P b × P d = (All-head P a (b ∷ d ∷ e ∷ []) rest, All-head P b (d ∷ e ∷ []) more, All-head P d (e ∷ []) (All-tail P b (d ∷ e ∷ []) more)) in
    chosen P (bytes_eq w (codes "run")) (run_of a b d (number_of e)) unknown (run_names P a b d (number_of e) all) tt
each_name P (w ∷ a ∷ b ∷ d ∷ e ∷ f ∷ rest) h = tt
