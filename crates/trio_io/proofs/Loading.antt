-- A loop that reads a whole file.
use Rattle.std.proofs.Common.{◌≡◌, ℕ, ◌+◌, ◌-◌, ◌<◌, ◌≤◌, min, List, ◌++◌, length, take, drop, Option, Some, None, IfSome, refl, sym, ◌∙◌, arith}
use Rattle.std.proofs.lemmas.Grind.{common_steps}
use Rattle.std.proofs.Math.Seq.{take-add}
use Rattle.std.proofs.lemmas.List.{take_all, take-append-le}
use Rattle.trio_io.specs.Shelf.{Shelf, RisesAt, IsTold, OnlyReads}

-- a told content begins with these bytes
abbrev pub IsFront : List ℕ → Option (List ℕ) → Type 0
IsFront bytes content = IfSome content (λ bs. bytes ≡ take (length bytes) bs)

-- what a turn of the loop begins with
pub record Loading (limit : ℕ) (name : List ℕ) (start now : Shelf) (bytes : List ℕ) (turn : ℕ) : Type 0 where
  pub files : OnlyReads name start now
  pub turns : turn ≤ length bytes
  pub no_longer : length bytes ≤ limit
  pub so_far : IsFront bytes (start.held name)

pub RisesAt-trans : (name : List ℕ) (a b c : List ℕ → ℕ) → RisesAt name a b → RisesAt name b c → RisesAt name a c
RisesAt-trans name a b c ab bc = record {
  later = λ q. omega (arith, ab.later q, bc.later q);
  others = λ q ne. bc.others q ne ∙ ab.others q ne;
}

pub OnlyReads-trans : (name : List ℕ) (a b c : Shelf) → OnlyReads name a b → OnlyReads name b c → OnlyReads name a c
OnlyReads-trans name a b c ab bc = record {
  reads = RisesAt-trans name a.read_faults b.read_faults c.read_faults ab.reads bc.reads;
  writes = bc.writes ∙ ab.writes;
  held = bc.held ∙ ab.held;
  tells = bc.tells ∙ ab.tells;
  serves = bc.serves ∙ ab.serves;
}

pub front_more : (content : Option (List ℕ)) (bytes buf : List ℕ) (n : ℕ) → n ≤ length buf → IsFront bytes content → IfSome content (λ bs. (n ≡ min (length buf) (length bs - length bytes)) × (take n buf ≡ take n (drop (length bytes) bs))) → IsFront (bytes ++ take n buf) content
front_more None bytes buf n le front gives = tt
front_more (Some bs) bytes buf n le front gives =
    let len : length (bytes ++ take n buf) ≡ length bytes + n = grind (arith, common_steps) in
    let both : take (length bytes + n) bs ≡ take (length bytes) bs ++ take n (drop (length bytes) bs) = take-add (length bytes) n bs in
    rw (len, both, ← gives.1, ← front) refl

pub front_turn : (start now : Option (List ℕ)) (bytes buf rest next : List ℕ) (n at : ℕ) → now ≡ start → at ≡ length bytes → n ≤ length buf → next ≡ bytes ++ take n (buf ++ rest) → IsFront bytes start → IfSome now (λ bs. (n ≡ min (length buf) (length bs - at)) × (take n buf ≡ take n (drop at bs))) → IsFront next start
front_turn start now bytes buf rest next n at same here le e front gives =
    let cut : take n (buf ++ rest) ≡ take n buf = take-append-le n buf rest le in
    let gives' = rw (same, here) at gives in
    rw (e, cut) (front_more start bytes buf n le front gives')

pub front_end : (content : Option (List ℕ)) (bytes buf : List ℕ) → 0 < length buf → IsFront bytes content → IfSome content (λ bs. (0 ≡ min (length buf) (length bs - length bytes)) × (take 0 buf ≡ take 0 (drop (length bytes) bs))) → IsTold content bytes
front_end None bytes buf room front gives = tt
front_end (Some bs) bytes buf room front gives =
    let all : take (length bytes) bs ≡ bs = take_all (length bytes) bs (omega (arith, gives.0)) in
    sym (front ∙ all)

pub front_ended : (start now : Option (List ℕ)) (bytes buf : List ℕ) (n at : ℕ) → now ≡ start → at ≡ length bytes → n ≡ 0 → 0 < length buf → IsFront bytes start → IfSome now (λ bs. (n ≡ min (length buf) (length bs - at)) × (take n buf ≡ take n (drop at bs))) → IsTold start bytes
front_ended start now bytes buf n at same here zero room front gives =
    let gives' = rw (same, here, zero) at gives in
    front_end start bytes buf room front gives'
