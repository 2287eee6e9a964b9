-- Read leases that go back, the last one first.
use Rattle.trio_raw.proofs.Words.{◌++◌, ◌∙◌, ◌∷◌, ◌≡◌, Calls, Has, In, In-left, In-map, In-right, LibOut, List, OnList, Shown, [], and_parts, ap, are_new, are_new-append, inl, map-append, read_numbers, refl, subst, sym, true, with_reads, without_read, ℕ}
use Rattle.trio_lists.proofs.New.{are_new-before}
use Rattle.trio_desk.specs.Call.{Ask, Told}
use Rattle.trio_desk.specs.Calls.{Call}
use Rattle.trio_raw.proofs.Standing.{stands-left}

-- one call more
pub calls_more : {D : Type 0} (called : D → Ask → Told → D → Type 0) (calls : List Call) (c : Call) (d middle d' : D) → Calls called d calls middle → called middle c.ask c.told d' → Calls called d (calls ++ c ∷ []) d'
calls_more called [] c d middle d' e h = (d', subst (λ x. called x c.ask c.told d') e h, refl)
calls_more called (x ∷ calls) c d middle d' e h = (e.0, e.1, calls_more called calls c e.0 middle d' e.2 h)

-- the last one is out
pub last_out : (out : LibOut) (has : Has) (left : List Shown) (last : Shown) → has.reads ≡ left ++ last ∷ [] → OnList out has → In last out.reads
last_out out has left last is h = h.reads last (subst (In last) (sym is) (In-right last left (last ∷ []) (inl refl)))

-- and without it what is left stands on the list
pub stands-last : (out : LibOut) (has : Has) (left : List Shown) (last : Shown) → has.reads ≡ left ++ last ∷ [] → OnList out has → OnList (without_read out last.ino) (with_reads has left)
stands-last out has left last is h =
    let number : Shown → ℕ = λ r. r.ino in
    let all : are_new [] (read_numbers left ++ last.ino ∷ []) ≡ true = ap (are_new []) (sym (map-append number left (last ∷ [])) ∙ ap read_numbers (sym is)) ∙ h.reads_once in
    let once = and_parts (are_new [] (read_numbers left)) (are_new (read_numbers left) (last.ino ∷ [])) (sym (are_new-append [] (read_numbers left) (last.ino ∷ [])) ∙ all) in
    stands-left out has last.ino left h
    (λ r i. subst (In r) (sym is) (In-left r left (last ∷ []) i))
    (λ r i e. are_new-before last.ino (read_numbers left) (last.ino ∷ []) once.1 (inl refl) (subst (λ n. In n (read_numbers left)) e (In-map number r left i)))
    once.0
