-- Seats in their order.
use Rattle.trio_shared_tests.proofs.Words.{◌++◌, ◌+◌, ◌<◌, ◌∙◌, ◌∷◌, ◌≡◌, AreAll, Entry, Held, In, IsBack, IsNew, IsSeatOf, LibNo, LibSeat, List, None, OfEach, Origin, OutAlike, Shared, SitsOn, Some, [], arith, first, length, library, library_of, refl, slice_get, subst, suc, sym, zero, ℕ}
use Rattle.std.proofs.Common.{◌≤◌, slice_index_or, slice_set}
use Rattle.trio_tables.specs.Out.{lib_at, none_out}
use Rattle.trio_tables.proofs.OutLemmas.{lib_at-none_out}
use Rattle.trio_laws.specs.OutLaws.{numbers_to}
use Rattle.trio_desk.specs.Out.{nothing_out}
use Rattle.trio_ctl.proofs.DeskOuts.{numbers_to-In}
use Rattle.trio_turn.specs.Seats.{EverySeat}
use Rattle.trio_shared.specs.Left.{out_left}
use Rattle.trio_shared.specs.Seats.{AllStart, library_count}

-- ---- lists

there_is : {X : Type 0} (xs : List X) (k : ℕ) → k < length xs → (x : X) × (slice_get xs k ≡ Some x)
there_is [] k low = absurd (omega (arith, low))
there_is (x ∷ xs) zero low = (x, refl)
there_is (x ∷ xs) (suc k) low = there_is xs k (omega (arith, low))

-- ---- at the start

no_numbers : (count lib n : ℕ) → In n (numbers_to (none_out count) lib) → ⊥
no_numbers count lib n i =
    let was : lib_at (none_out count) n ≡ Some (record { 0 = lib }) = numbers_to-In (none_out count) lib n i in
    let wrong : None ≡ Some (record { 0 = lib }) = sym (lib_at-none_out count n) ∙ was in
    cc wrong

-- nothing is out to a library before the first entry
nothing_left : (origin : Origin) (lib : LibNo) → OutAlike (out_left origin [] lib) nothing_out
nothing_left origin lib = record {
  writes = refl;
  reads = refl;
  holds = refl;
  pages = λ n. (λ i. no_numbers origin.image.core.range.end lib.0 n i, λ i. absurd i);
  numbers = λ n. (λ i. no_numbers (origin.image.core.inodes + 1) lib.0 n i, λ i. absurd i);
}

pub all_new : (shared : Shared) (origin : Origin) (seats : List (LibSeat Held)) → AllStart shared origin seats → length seats ≡ library_count shared → AreAll IsNew shared seats
all_new shared origin seats all count = record {
  count = count;
  each = λ k s at.
      let i = all k s at in
      record {
        arrives = record {
          sits = record { is_seat = i.is; is_idle = i.idle };
          nothing = subst (λ (log : List Entry). OutAlike (out_left (first s) log (library_of s)) nothing_out) (sym i.seen) (nothing_left (first s) (library_of s));
        };
        numbered = i.library;
      };
}

-- ---- at the end

module _ (shared : Shared) (seats : List (LibSeat Held)) (are : AreAll IsBack shared seats) where
  pub each_is : OfEach (IsSeatOf shared) seats
  each_is = λ k s at. (are.each k s at).is_seat

  every : (l : ℕ) → 1 ≤ l → l ≤ library_count shared → (k : ℕ) × (s : LibSeat Held) × (slice_get seats k ≡ Some s) × (library s ≡ l)
  every zero low high = absurd (omega (arith, low))
  every (suc l) low high =
      let t = there_is seats l (omega (arith, are.count, high)) in
      (l, t.0, t.1, omega (arith, (are.each l t.0 t.1).numbered))

  pub every_is : EverySeat (library_count shared) seats
  every_is = every

-- ---- meanwhile

pub back_on : (shared : Shared) (n : ℕ) (old new : LibSeat Held) → IsNew shared n old → SitsOn shared old new → IsBack shared n new
back_on shared n old new is on = record { is_seat = on.sits.is_seat; numbered = on.library ∙ is.numbered }

pub back : (shared : Shared) (n : ℕ) (seat : LibSeat Held) → IsNew shared n seat → IsBack shared n seat
back shared n seat is = record { is_seat = is.arrives.sits.is_seat; numbered = is.numbered }

-- so is each of them that it has gone on to
read : (xs : List (LibSeat Held)) (k : ℕ) (s d : LibSeat Held) → slice_get xs k ≡ Some s → (k < length xs) × (slice_index_or xs k d ≡ s)
read [] k s d e = absurd (cc e)
read (x ∷ xs) zero s d e = (omega arith, cc e)
read (x ∷ xs) (suc k) s d e = let r = read xs k s d e in (omega (arith, r.0), r.1)

pub all_gone_on : (shared : Shared) (old new : List (LibSeat Held)) → AreAll IsNew shared old → length new ≡ length old
    → ((i : ℕ) (d : LibSeat Held) → i < length old → IsBack shared (i + 1) (slice_index_or new i d)) → AreAll IsBack shared new
all_gone_on shared old new all len each = record {
  count = len ∙ all.count;
  each = λ k s at. let r = read new k s s at in subst (IsBack shared (k + 1)) r.1 (each k s (omega (arith, r.0, len)));
}

pub all_back : (shared : Shared) (seats : List (LibSeat Held)) → AreAll IsNew shared seats → AreAll IsBack shared seats
all_back shared seats all = record { count = all.count; each = λ k s at. back _ _ _ (all.each k s at) }

-- two of them have gone on
pub two_back : (shared : Shared) (ones twos : List (LibSeat Held)) (a b : LibSeat Held) → length ones ≡ 1 → AreAll IsNew shared (ones ++ twos) → IsBack shared 1 a → IsBack shared 2 b
    → AreAll IsBack shared (slice_set ones 0 a ++ slice_set twos 0 b)
two_back shared [] twos a b one all is_a is_b = absurd (cc one)
two_back shared (x ∷ y ∷ ones) twos a b one all is_a is_b = absurd (omega (arith, one))
two_back shared (x ∷ []) [] a b one all is_a is_b = record { count = all.count; each = in_one }
  where
    in_one : (k : ℕ) (s : LibSeat Held) → slice_get (a ∷ []) k ≡ Some s → IsBack shared (k + 1) s
    in_one zero s e = subst (IsBack shared 1) (cc e) is_a
    in_one (suc k) s e = absurd (cc e)
two_back shared (x ∷ []) (y ∷ twos) a b one all is_a is_b = record { count = all.count; each = in_two }
  where
    in_two : (k : ℕ) (s : LibSeat Held) → slice_get (a ∷ b ∷ twos) k ≡ Some s → IsBack shared (k + 1) s
    in_two zero s e = subst (IsBack shared 1) (cc e) is_a
    in_two (suc zero) s e = subst (IsBack shared 2) (cc e) is_b
    in_two (suc (suc k)) s e = back _ _ _ (all.each (suc (suc k)) s e)

-- three of them
pub three_back : (shared : Shared) (ones twos threes : List (LibSeat Held)) (a b c : LibSeat Held) → length ones ≡ 1 → length twos ≡ 1 → 1 ≤ length threes → AreAll IsNew shared (ones ++ (twos ++ threes))
    → IsBack shared 1 a → IsBack shared 2 b → IsBack shared 3 c → AreAll IsBack shared (slice_set ones 0 a ++ (slice_set twos 0 b ++ slice_set threes 0 c))
three_back shared [] twos threes a b c one two some all is_a is_b is_c = absurd (cc one)
three_back shared (x ∷ y ∷ ones) twos threes a b c one two some all is_a is_b is_c = absurd (omega (arith, one))
three_back shared (x ∷ []) [] threes a b c one two some all is_a is_b is_c = absurd (cc two)
three_back shared (x ∷ []) (y ∷ z ∷ twos) threes a b c one two some all is_a is_b is_c = absurd (omega (arith, two))
three_back shared (x ∷ []) (y ∷ []) [] a b c one two some all is_a is_b is_c = absurd (omega (arith, some))
three_back shared (x ∷ []) (y ∷ []) (z ∷ threes) a b c one two some all is_a is_b is_c = record { count = all.count; each = in_three }
  where
    in_three : (k : ℕ) (s : LibSeat Held) → slice_get (a ∷ b ∷ c ∷ threes) k ≡ Some s → IsBack shared (k + 1) s
    in_three zero s e = subst (IsBack shared 1) (cc e) is_a
    in_three (suc zero) s e = subst (IsBack shared 2) (cc e) is_b
    in_three (suc (suc zero)) s e = subst (IsBack shared 3) (cc e) is_c
    in_three (suc (suc (suc k))) s e = back _ _ _ (all.each (suc (suc (suc k))) s e)
