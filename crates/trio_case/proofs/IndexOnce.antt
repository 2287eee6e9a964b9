-- Of given bytes at most one count of numbers in use is in the grammar, and that for one place in the chain.
use Rattle.trio_case.proofs.Words.{◌&&◌, ◌<◌, ◌^◌, ◌∙◌, ◌∷◌, ◌≡◌, ◌≤◌, Bool, CoreRange, Index, List, None, Option, Some, [], and_from, and_parts, ap, arith, bytes_eq, cases_lt, cond, false, inl, inr, is_core, length, list_all, ltb-true, nat_le, nat_lt, refl, sym, true, ℕ}
use Rattle.std.proofs.Common.{◌==◌}
use Rattle.std.specs.Bool.{beq}
use Rattle.std.proofs.lemmas.Bool.{leb-true, lt-ltb, eqb-true}
use Rattle.trio_layout.specs.Index.{index_at, index_bytes, index_fits, index_of, link_fits, IsIndexPage}
use Rattle.trio_layout.proofs.IndexPages.{Meets, only}
use Rattle.trio_layout.proofs.Reading.{bytes_eq-true}

core_first : (range : CoreRange) (n : ℕ) → 0 < range.first → is_core range n ≡ true → n ≡ 0 → ⊥
core_first range n first core z =
    let low = leb-true range.first n (and_parts (nat_le range.first n) (nat_lt n range.end) core).0 in absurd (omega arith)

-- where fewer numbers are in use by one reading, there is a zero that is a core page by the other
not_fewer : (used more : ℕ) (last end : Bool) (range : CoreRange) (bytes : List ℕ) (i j : Index) → 0 < range.first → more ≤ 511 → Meets used last range bytes i → Meets more end range bytes j → used < more → ⊥
not_fewer used more last end range bytes i j first few m n less =
    let k : used < 511 = omega arith in
    core_first range _ first ((n.numbers used k).0 less) ((m.numbers used k).1 (omega arith))

same_used : (used more : ℕ) (last end : Bool) (range : CoreRange) (bytes : List ℕ) (i j : Index) → 0 < range.first → used ≤ 511 → more ≤ 511 → Meets used last range bytes i → Meets more end range bytes j → used ≡ more
same_used used more last end range bytes i j first a b m n =
    elim (cases_lt used more) [
      | inl below ↦ absurd (not_fewer used more last end range bytes i j first b m n below)
      | inr above ↦ elim (cases_lt more used) [
        | inl under ↦ absurd (not_fewer more used end last range bytes j i first a n m under)
        | inr over ↦ omega arith
      ]
    ]

same_last : (last end : Bool) (range : CoreRange) (next : ℕ) → 0 < range.first → link_fits last range next ≡ true → link_fits end range next ≡ true → last ≡ end
same_last true true range next first p q = refl
same_last false false range next first p q = refl
same_last true false range next first p q = absurd (core_first range next first q (eqb-true next 0 p))
same_last false true range next first p q = absurd (core_first range next first p (eqb-true next 0 q))

some_if : {X : Type 0} (b : Bool) (x y : X) → cond b (Some x) None ≡ Some y → (b ≡ true) × (x ≡ y)
some_if true x y h = (refl, cc)
some_if false x y h = absurd cc

core_narrow : (range : CoreRange) (n : ℕ) → range.end < 2 ^ 32 → is_core range n ≡ true → n < 2 ^ 64
core_narrow range n end core =
    let p = ltb-true n range.end (and_parts (nat_le range.first n) (nat_lt n range.end) core).1 in omega (arith, p)

all_narrow : (range : CoreRange) (ns : List ℕ) → range.end < 2 ^ 32 → list_all (is_core range) ns ≡ true → list_all (λ n. nat_lt n (2 ^ 64)) ns ≡ true
all_narrow range [] end h = refl
all_narrow range (n ∷ ns) end h =
    let p = and_parts (is_core range n) (list_all (is_core range) ns) h in
    and_from (nat_lt n (2 ^ 64)) (list_all (λ n. nat_lt n (2 ^ 64)) ns) (lt-ltb n (2 ^ 64) (core_narrow range n end p.0)) (all_narrow range ns end p.1)

link_narrow : (last : Bool) (range : CoreRange) (next : ℕ) → range.end < 2 ^ 32 → link_fits last range next ≡ true → next < 2 ^ 64
link_narrow true range next end h = let z = eqb-true next 0 h in omega (arith, z)
link_narrow false range next end h = core_narrow range next end h

pub index_page : (used : ℕ) (last : Bool) (range : CoreRange) (bytes : List ℕ) (j : Index) → range.end < 2 ^ 32 → index_of used last range bytes ≡ Some j → IsIndexPage used last range bytes j
unfolding index_of
index_page used last range bytes j end h =
    let x : Index = index_at used bytes in
    let s = some_if (bytes_eq bytes (index_bytes x) && index_fits used last range x) x j h in
    let p = and_parts (bytes_eq bytes (index_bytes x)) (index_fits used last range x) s.0 in
    let fits : index_fits used last range j ≡ true = ap (index_fits used last range) (sym s.1) ∙ p.1 in
    let q = and_parts (length j.numbers == used && list_all (is_core range) j.numbers) (link_fits last range j.next) fits in
    let r = and_parts (length j.numbers == used) (list_all (is_core range) j.numbers) q.0 in
    record {
      spelled = bytes_eq-true bytes (index_bytes x) p.0 ∙ ap index_bytes s.1;
      narrow = all_narrow range j.numbers end r.1;
      narrow_next = link_narrow last range j.next end q.1;
      fits = fits;
    }

some_or_none : {X : Type 0} (o : Option X) → ((x : X) → o ≡ Some x → ⊥) → o ≡ None
some_or_none None h = refl
some_or_none (Some x) h = absurd (h x refl)

-- for another count or place the bytes are no index page
pub index_once : (used more : ℕ) (last end : Bool) (range : CoreRange) (bytes : List ℕ) (i : Index) → 0 < range.first → range.end < 2 ^ 32 → used ≤ 511 → more ≤ 511 → IsIndexPage used last range bytes i → ((used ≡ more) × (last ≡ end) → ⊥) → index_of more end range bytes ≡ None
index_once used more last end range bytes i first small a b is differ =
    some_or_none (index_of more end range bytes) (λ j h.
    let m = only used last range bytes i a is in
    let n = only more end range bytes j b (index_page more end range bytes j small h) in
    differ (same_used used more last end range bytes i j first a b m n, same_last last end range _ first m.link n.link))

pub beq_differ : (a b : Bool) → beq a b ≡ false → a ≡ b → ⊥
beq_differ true true f e = absurd cc
beq_differ true false f e = absurd cc
beq_differ false true f e = absurd cc
beq_differ false false f e = absurd cc
