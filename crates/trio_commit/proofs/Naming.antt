-- Whether an entry names a number, by the directory of the first that does.
use Rattle.trio_commit.proofs.Words.{◌==◌, ◌∙◌, ◌≡◌, ListedEntry, Listing, None, Option, Some, find, is_listed, is_some, option_map, refl, sym, ℕ}
use Rattle.trio_commit.proofs.Cells.{is_listed-find}

still_some : (o : Option ListedEntry) → is_some (option_map (λ (e : ListedEntry). e.dir) o) ≡ is_some o
still_some None = refl
still_some (Some e) = refl

pub listed_by_dir : (l : Listing) (n : ℕ) → is_some (option_map (λ (e : ListedEntry). e.dir) (find (λ (e : ListedEntry). e.ino == n) l.entries)) ≡ is_listed l n
listed_by_dir l n = still_some (find (λ (e : ListedEntry). e.ino == n) l.entries) ∙ sym (is_listed-find n l.entries)
