-- What seats have seen of the log at the close.
use Rattle.trio_shared_tests.proofs.Words.{◌++◌, ◌<◌, ◌∙◌, ◌∷◌, ◌≡◌, AreAll, Controller, Entry, Err, HaveSeen, Held, IfOk, IfSome, IsBack, LibSeat, List, OfEach, Ok, Result, Shared, Some, [], ap, arith, inl, inr, length, library, seen, slice_get, subst, suc, sym, zero, ℕ}
use Rattle.std.proofs.Common.{◌==◌, Bool, false, append-nil}
use Rattle.std.specs.Prelude.{if◌then◌else◌}
use Rattle.std.specs.Result.{result_ok}
use Rattle.std.proofs.lemmas.Bool.{cases_Bool, eq-eqb, false≢true}
use Rattle.std.proofs.lemmas.List.Elements.{filter-append}
use mathlib.Core.List.{IsPrefix, append_cancel_left}
use Rattle.trio_turn.specs.Logs.{made_by, maker}
use Rattle.trio_turn.specs.Seats.{mine}
use Rattle.trio_shared_tests.specs.Seen.{HasSeen}

not_there : (lib : ℕ) (x e : Entry) (xs : List Entry) (k : ℕ) → (maker x == lib) ≡ false → maker e ≡ lib → slice_get (x ∷ xs) k ≡ Some e → ((j : ℕ) → slice_get xs j ≡ Some e → ⊥) → ⊥
not_there lib x e xs zero other is at rest = let same : x ≡ e = cc at in false≢true (sym other ∙ eq-eqb (maker x) lib (ap maker same ∙ is))
not_there lib x e xs (suc k) other is at rest = rest k at

-- a list that has no entry of a library has none of it at any place
none_there : (lib : ℕ) (es : List Entry) → made_by lib es ≡ [] → (k : ℕ) (e : Entry) → slice_get es k ≡ Some e → maker e ≡ lib → ⊥
none_there lib [] none k e at is = cc at
none_there lib (x ∷ xs) none k e at is =
    elim (cases_Bool (maker x == lib)) [
      | inl same ↦ (let wrong : x ∷ made_by lib xs ≡ [] = subst (λ (b : Bool). (if b then x ∷ made_by lib xs else made_by lib xs) ≡ []) same none in cc wrong)
      | inr other ↦ not_there lib x e xs k other is at (λ j there. none_there lib xs (subst (λ (b : Bool). (if b then x ∷ made_by lib xs else made_by lib xs) ≡ []) other none) j e there is)
    ]

before_them : (lib : ℕ) (xs rest : List Entry) → made_by lib rest ≡ [] → (k : ℕ) (e : Entry) → slice_get (xs ++ rest) k ≡ Some e → maker e ≡ lib → k < length xs
before_them lib [] rest none k e at is = absurd (none_there lib rest none k e at is)
before_them lib (x ∷ xs) rest none zero e at is = omega arith
before_them lib (x ∷ xs) rest none (suc k) e at is = let less = before_them lib xs rest none k e at is in omega (arith, less)

has_seen : (lib : ℕ) (history log : List Entry) → IsPrefix history log → made_by lib log ≡ made_by lib history → HasSeen history lib log
has_seen lib history log begins mine_are = record {
  begins = begins;
  own = λ k e at is. before_them lib history begins.0 none k e (subst (λ l. slice_get l k ≡ Some e) (sym begins.1) at) is;
}
  where
    none : made_by lib begins.0 ≡ []
    none = append_cancel_left (made_by lib history) (made_by lib begins.0) [] (sym (filter-append (λ (e : Entry). maker e == lib) history begins.0) ∙ ap (made_by lib) begins.1 ∙ mine_are ∙ sym (append-nil (made_by lib history)))

-- so has each seat, where they come to a close
pub seen_at_close : {E : Type 0} (r : Result Controller E) (shared : Shared) (seats : List (LibSeat Held)) → AreAll IsBack shared seats
    → IfOk r (λ ctl. OfEach (λ s. IsPrefix (seen s) ctl.log) seats) → IfOk r (λ ctl. OfEach (λ s. made_by (library s) ctl.log ≡ mine s) seats)
    → IfSome (result_ok r) (λ ctl. HaveSeen seats ctl.log)
seen_at_close (Ok ctl) shared seats are begins mine_are = record {
  each = λ k s at. subst (λ l. HasSeen (seen s) l ctl.log) (are.each k s at).numbered (has_seen (library s) (seen s) ctl.log (begins k s at) (mine_are k s at));
}
seen_at_close (Err back) shared seats are begins mine_are = tt
