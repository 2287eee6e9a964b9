-- The lowest hold that is parted, by one walk over the open grants.
use Rattle.trio_open.proofs.Words.{if◌then◌else◌, ◌+◌, ◌<◌, ◌==◌, ◌||◌, ◌∙◌, ◌∷◌, ◌≡◌, ◌≤◌, Bool, Bundle, Bundled, LentFile, List, None, Opened, Option, Some, Written, [], ap, arith, bundle_in, drop, drop-cons, false, filter, find, get_or, is_among, is_some, length, list_any, lower, lowest_parted, map, refl, suc, sym, true, written_in, ℕ}
use Rattle.std.specs.Prelude.{nat_le}
use Rattle.std.proofs.lemmas.Bool.{leb-false, leb-true}
use Rattle.trio_rights.specs.Bundle.{is_written}
use Rattle.trio_lease.specs.declared.parts.HoldParts.{HoldParts}
use Rattle.trio_rights.specs.Row.{Row}
use Rattle.trio_state.specs.Bundles.{lowest}
use Rattle.trio_open.specs.inner.Parting.{is_parted_by}

-- ---- what a bundle has

pub written_any : (b : Bundled) (n : ℕ) → list_any (λ (f : LentFile). f.stands.ino == n) b.writes ≡ is_written (bundle_in b) n
written_any b n = each b.writes
  where
    by : (t : Bool) (f : LentFile) (fs : List LentFile) → list_any (λ (f : LentFile). f.stands.ino == n) fs ≡ is_some (find (λ (w : Written). w.ino == n) (map (λ (f : LentFile). written_in f.stands) fs))
        → (t || list_any (λ (f : LentFile). f.stands.ino == n) fs) ≡ is_some (if t then Some (written_in f.stands) else find (λ (w : Written). w.ino == n) (map (λ (f : LentFile). written_in f.stands) fs))
    by true f fs again = refl
    by false f fs again = again

    each : (fs : List LentFile) → list_any (λ (f : LentFile). f.stands.ino == n) fs ≡ is_some (find (λ (w : Written). w.ino == n) (map (λ (f : LentFile). written_in f.stands) fs))
    each [] = refl
    each (f ∷ fs) = by (f.stands.ino == n) f fs (each fs)

pub held_any : (b : Bundled) (n : ℕ) → list_any (λ (h : HoldParts). h.ino == n) b.holds ≡ is_among n (bundle_in b).holds
held_any b n = each b.holds
  where
    each : (hs : List HoldParts) → list_any (λ (h : HoldParts). h.ino == n) hs ≡ is_among n (map (λ (h : HoldParts). h.ino) hs)
    each [] = refl
    each (h ∷ hs) = ap (λ (t : Bool). (h.ino == n) || t) (each hs)

-- ---- the lower of two numbers

abbrev lesser : ℕ → ℕ → ℕ
lesser n m = if nat_le n m then n else m

record Lesser (n m : ℕ) : Type 0 where
  left : lesser n m ≤ n
  right : lesser n m ≤ m
  least : (k : ℕ) → k ≤ n → k ≤ m → k ≤ lesser n m

is_lesser : (n m : ℕ) → Lesser n m
is_lesser n m = by (nat_le n m) refl
  where
    by : (b : Bool) → nat_le n m ≡ b → Lesser n m
    by true e =
        let le = leb-true n m e in
        let is : lesser n m ≡ n = ap (λ (t : Bool). if t then n else m) e in
        record { left = omega (arith, is); right = omega (arith, is, le); least = λ k a c. omega (arith, is, a) }
    by false e =
        let gt = leb-false n m e in
        let is : lesser n m ≡ m = ap (λ (t : Bool). if t then n else m) e in
        record { left = omega (arith, is, gt); right = omega (arith, is); least = λ k a c. omega (arith, is, c) }

-- the lower of one that may be there and of another
abbrev pub lower_of : Option ℕ → Option ℕ → Option ℕ
lower_of None o = o
lower_of (Some n) o = lower n o

lesser_turns : (n m : ℕ) → lesser n m ≡ lesser m n
lesser_turns n m =
    let a = is_lesser n m in
    let b = is_lesser m n in
    let x = b.least (lesser n m) a.right a.left in
    let y = a.least (lesser m n) b.right b.left in
    omega (arith, x, y)

lesser_joins : (n m q : ℕ) → lesser (lesser n m) q ≡ lesser m (lesser n q)
lesser_joins n m q =
    let a = is_lesser n m in
    let b = is_lesser (lesser n m) q in
    let c = is_lesser n q in
    let d = is_lesser m (lesser n q) in
    let bl = b.left in
    let al = a.left in
    let ar = a.right in
    let dr = d.right in
    let cl = c.left in
    let cr = c.right in
    let x = d.least (lesser (lesser n m) q) (omega (arith, bl, ar)) (c.least (lesser (lesser n m) q) (omega (arith, bl, al)) b.right) in
    let y = b.least (lesser m (lesser n q)) (a.least (lesser m (lesser n q)) (omega (arith, dr, cl)) d.left) (omega (arith, dr, cr)) in
    omega (arith, x, y)

pub lower_joins : (n : ℕ) (o p : Option ℕ) → lower_of (lower n o) p ≡ lower_of o (lower n p)
lower_joins n None p = refl
lower_joins n (Some m) None = ap Some (lesser_turns n m)
lower_joins n (Some m) (Some q) = ap Some (lesser_joins n m q)

-- ---- one grant after another

module _ (rows : List (Option Row)) (lib : ℕ) (b : Bundle) (files : List Opened) (i : ℕ) (x : Opened) (lt : i < length files) (is : x ≡ get_or files i x) where
  front : drop i files ≡ x ∷ drop (i + 1) files
  front =
      let up : i + 1 ≡ suc i = omega arith in
      drop-cons files i x lt ∙ ap (λ y. y ∷ drop (suc i) files) (sym is) ∙ ap (λ k. x ∷ drop k files) (sym up)

  rest_is : (t : Bool) → is_parted_by rows lib b x.grant ≡ t → lowest_parted rows lib b (drop i files) ≡ (if t then lower x.grant.ino (lowest_parted rows lib b (drop (i + 1) files)) else lowest_parted rows lib b (drop (i + 1) files))
  rest_is t e = ap (lowest_parted rows lib b) front ∙ by t e
    where
      by : (t : Bool) → is_parted_by rows lib b x.grant ≡ t → lowest_parted rows lib b (x ∷ drop (i + 1) files) ≡ (if t then lower x.grant.ino (lowest_parted rows lib b (drop (i + 1) files)) else lowest_parted rows lib b (drop (i + 1) files))
      by true e = ap (λ (t : Bool). lowest (map (λ (o : Opened). o.grant.ino) (if t then x ∷ filter (λ (o : Opened). is_parted_by rows lib b o.grant) (drop (i + 1) files) else filter (λ (o : Opened). is_parted_by rows lib b o.grant) (drop (i + 1) files)))) e
      by false e = ap (λ (t : Bool). lowest (map (λ (o : Opened). o.grant.ino) (if t then x ∷ filter (λ (o : Opened). is_parted_by rows lib b o.grant) (drop (i + 1) files) else filter (λ (o : Opened). is_parted_by rows lib b o.grant) (drop (i + 1) files)))) e

  pub next_parted : (before after all : Option ℕ) → is_parted_by rows lib b x.grant ≡ true → after ≡ lower x.grant.ino before → lower_of before (lowest_parted rows lib b (drop i files)) ≡ all → lower_of after (lowest_parted rows lib b (drop (i + 1) files)) ≡ all
  next_parted before after all parted now so_far =
      ap (λ o. lower_of o (lowest_parted rows lib b (drop (i + 1) files))) now
      ∙ lower_joins x.grant.ino before (lowest_parted rows lib b (drop (i + 1) files))
      ∙ sym (ap (lower_of before) (rest_is true parted))
      ∙ so_far

  pub next_whole : (before all : Option ℕ) → is_parted_by rows lib b x.grant ≡ false → lower_of before (lowest_parted rows lib b (drop i files)) ≡ all → lower_of before (lowest_parted rows lib b (drop (i + 1) files)) ≡ all
  next_whole before all whole so_far = sym (ap (lower_of before) (rest_is false whole)) ∙ so_far
