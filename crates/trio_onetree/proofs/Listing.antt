-- What a list of names comes to.
use Rattle.trio_onetree.proofs.Words.{if◌then◌else◌, ◌∙◌, ◌≡◌, Applied, Creds, Denied, Kind, List, Node, Nodes, NotDir, Ok, Path, Reached, ToRead, [], ap, count_in, done, drop, false, is_directory, lacks, list, names_in, not, on_file, refl, refused, take, true, walk, ℕ}
use Rattle.trio_nodes.specs.declared.call.Answer.TheVariants.{Names}
use Rattle.trio_onetree.specs.inner.Gives.{file_of}
use Rattle.trio_onetree.proofs.Outcomes.{Does, does, of_reached}

abbrev list_file : Nodes → Creds → ℕ → ℕ → Node → Applied
list_file nodes creds from n x =
    if not (is_directory x.kind) then refused nodes NotDir else
    (if lacks creds ToRead x then refused nodes Denied else
    done nodes (Names (count_in nodes n) (take 64 (drop from (names_in nodes n)))))

list_is : (nodes : Nodes) (creds : Creds) (path : Path) (from : ℕ) (r : Reached) → file_of nodes creds path ≡ r → list nodes creds path from ≡ on_file nodes r (list_file nodes creds from)
list_is nodes creds path from r e =
    of_reached nodes (list_file nodes creds from) (walk nodes creds [] path) ∙ ap (λ (z : Reached). on_file nodes z (list_file nodes creds from)) e

pub list_does : (nodes : Nodes) (creds : Creds) (path : Path) (from n : ℕ) (x : Node) (count : ℕ) (all told : List (List ℕ × Kind))
    → file_of nodes creds path ≡ Ok (n, x) → is_directory x.kind ≡ true → lacks creds ToRead x ≡ false
    → count ≡ count_in nodes n → all ≡ names_in nodes n → told ≡ take 64 (drop from all) → Does (list nodes creds path from) nodes (Names count told)
list_does nodes creds path from n x count all told e is may counted named is_told =
    let same : list nodes creds path from ≡ done nodes (Names (count_in nodes n) (take 64 (drop from (names_in nodes n)))) = list_is nodes creds path from (Ok (n, x)) e ∙ rw (is, may) refl in
    rw (counted, is_told, named) (does _ nodes nodes _ same refl)
