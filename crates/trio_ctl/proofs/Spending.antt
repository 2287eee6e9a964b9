-- What is spare after a call.
use Rattle.trio_ctl.proofs.Words.{◌++◌, ◌+◌, ◌-◌, ◌∙◌, ◌∷◌, ◌≡◌, ◌≤◌, Entry, List, Logged, Spare, [], ap, arith, cases_lt, inl, inr, length, length-append, min-le_left, min-le_right, refl, subst, ℕ}
use Rattle.std.proofs.Math.Nat.{min-eq_left, min-eq_right}
use Rattle.std.specs.Prelude.{min}
use Rattle.trio_ctl.specs.Room.{Spends}

-- the lesser of two numbers, each of which fell by at most so many, fell by no more
min_falls : (n a b a' b' : ℕ) → a ≤ a' + n → b ≤ b' + n → min a b ≤ min a' b' + n
min_falls n a b a' b' first second =
    elim (cases_lt a' b') [
      | inl less ↦
          let is = min-eq_left {n = a'} {m = b'} (omega (arith, less)) in
          let under = min-le_left a b in
          omega (arith, is, under, first)
      | inr less ↦
          let is = min-eq_right {n = b'} {m = a'} less in
          let under = min-le_right a b in
          omega (arith, is, under, second)
    ]

-- what is spare beside a log, with so many kits
abbrev pub spare_at : Logged → ℕ → ℕ → ℕ → Spare
spare_at log promised kits bytes = record { places = log.room - (length log.entries + promised); kits = kits; bytes = bytes }

module _ {seen : Spare} (log : Logged) (promised kits bytes : ℕ) (was : spare_at log promised kits bytes ≡ seen) where
  -- what is entered and promised, and what is taken, is at most so many more than before
  pub spends_so : (n : ℕ) (log' : Logged) (promised' kits' bytes' : ℕ) → length log'.entries + promised' ≤ length log.entries + promised + n → log.room ≤ log'.room → kits ≤ kits' + n → bytes' ≡ bytes → Spends n 0 seen (spare_at log' promised' kits' bytes')
  spends_so n log' promised' kits' bytes' more grows taken same =
      let s = spare_at log promised kits bytes in
      let s' = spare_at log' promised' kits' bytes' in
      subst (λ (x : Spare). Spends n 0 x s') was
      (record { entries = min_falls n s.places s.kits s'.places s'.kits (omega (arith, more, grows)) taken; bytes = omega (arith, same) })

  -- no entry was made
  pub spends_places : (n : ℕ) (log' : Logged) (promised' : ℕ) → log'.entries ≡ log.entries → log.room ≤ log'.room → promised' ≤ promised + n → Spends n 0 seen (spare_at log' promised' kits bytes)
  spends_places n log' promised' same grows few =
      let long = ap (λ (es : List Entry). length es) same in
      spends_so n log' promised' kits bytes (omega (arith, long, few)) grows (omega arith) refl

  -- an entry was made, once there were places for it
  pub spends_entry : (n : ℕ) (mid log' : Logged) (promised' : ℕ) (e : Entry) → mid.entries ≡ log.entries → log.room ≤ mid.room → log' ≡ record mid { entries = mid.entries ++ e ∷ [] } → promised' + 1 ≤ promised + n → Spends n 0 seen (spare_at log' promised' kits bytes)
  spends_entry n mid log' promised' e same grows pushed few =
      let long = ap (λ (es : List Entry). length es) same in
      let one = ap (λ (l : Logged). length l.entries) pushed ∙ length-append mid.entries (e ∷ []) in
      let room = ap (λ (l : Logged). l.room) pushed in
      spends_so n log' promised' kits bytes (omega (arith, long, one, few)) (omega (arith, grows, room)) (omega arith) refl

-- with an entry more it isn't the log of before
pub longer : {P : Type 0} (old mid new : List Entry) (e : Entry) → new ≡ mid ++ e ∷ [] → length old ≤ length mid → new ≡ old → P
longer old mid new e pushed grows same =
    let one = ap (λ (es : List Entry). length es) pushed ∙ length-append mid (e ∷ []) in
    let is = ap (λ (es : List Entry). length es) same in
    absurd (omega (arith, one, grows, is))

-- one call after another
pub spends_both : (n : ℕ) (a b c : Spare) → Spends n 0 a b → Spends 0 0 b c → Spends n 0 a c
spends_both n a b c x y = (let e = x.entries in let f = y.entries in let g = x.bytes in let h = y.bytes in record { entries = omega (arith, e, f); bytes = omega (arith, g, h) })
