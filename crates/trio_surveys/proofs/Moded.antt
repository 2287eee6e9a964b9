-- The survey of a core in which one file has another mode.
use Rattle.trio_surveys.proofs.Words.{◌&&◌, ◌++◌, ◌∙◌, ◌∷◌, ◌≡◌, ◌≤◌, Body, Bool, CoreRange, Front, In, In-left, In-right, Kind, List, Met, Some, [], and_from, and_parts, ap, arith, body_with_mode, bytes_eq, bytes_eq-Decides, cond, cond_some, descend, eqb, false, first_listed, flat_map, inl, inr, is_among, levels, map, map-append, numbers, refl, slice_index, suc, sym, true, w32, zero, ℕ}
use Rattle.std.proofs.lemmas.Bool.{le-leb}
use Rattle.std.specs.Int.{w16, w64}
use Rattle.std.proofs.lemmas.Nat.{from_le_bytes-to_le_bytes_2}
use Rattle.trio_page.specs.Field.{number_at, with_number, with_part}
use Rattle.trio_layout.specs.Body.{body_of, body_at, body_fits, body_bytes}

-- a body with another mode
abbrev pub body_moded : ℕ → Body → Body
body_moded mode b = record b { mode = record { 0 = mode } }

spelled_moded : (mode : ℕ) (b : Body) → body_with_mode mode (body_bytes b) ≡ body_bytes (body_moded mode b)
unfolding with_number with_part body_bytes
spelled_moded mode b = refl

uid_same : (mode : ℕ) (b : Body) → number_at w32 4 (body_bytes (body_moded mode b)) ≡ number_at w32 4 (body_bytes b)
unfolding number_at body_bytes
uid_same mode b = refl

gid_same : (mode : ℕ) (b : Body) → number_at w32 8 (body_bytes (body_moded mode b)) ≡ number_at w32 8 (body_bytes b)
unfolding number_at body_bytes
gid_same mode b = refl

head_same : (mode : ℕ) (b : Body) → number_at w32 12 (body_bytes (body_moded mode b)) ≡ number_at w32 12 (body_bytes b)
unfolding number_at body_bytes
head_same mode b = refl

size_same : (mode : ℕ) (b : Body) → number_at w64 16 (body_bytes (body_moded mode b)) ≡ number_at w64 16 (body_bytes b)
unfolding number_at body_bytes
size_same mode b = refl

guard_same : (mode : ℕ) (b : Body) → slice_index (body_bytes (body_moded mode b)) 24 ≡ slice_index (body_bytes b) 24
unfolding body_bytes
guard_same mode b = refl

mode_read : (mode : ℕ) (b : Body) → mode ≤ 511 → number_at w16 0 (body_bytes (body_moded mode b)) ≡ mode
unfolding number_at body_bytes
mode_read mode b small = from_le_bytes-to_le_bytes_2 mode (omega arith)

body_read : (mode : ℕ) (b : Body) → mode ≤ 511 → body_at (body_bytes b) ≡ b → body_at (body_bytes (body_moded mode b)) ≡ body_moded mode b
body_read mode b small back = search (arith, uid_same, gid_same, head_same, size_same, guard_same, mode_read)

fits_moded : (kind : Kind) (range : CoreRange) (mode : ℕ) (b : Body) → mode ≤ 511 → body_fits kind range b ≡ true → body_fits kind range (body_moded mode b) ≡ true
fits_moded kind range mode b small fits = search (arith, and_parts, and_from, le-leb)

read_if : (kind : Kind) (range : CoreRange) (bytes : List ℕ) (b : Body) → bytes ≡ body_bytes b → body_at bytes ≡ b → body_fits kind range b ≡ true → body_of kind range bytes ≡ Some b
unfolding body_of
read_if kind range bytes b spelled at fits = search (arith, and_from, bytes_eq-Decides)

-- a body in the grammar is in the grammar with another mode
pub mode_body : (kind : Kind) (range : CoreRange) (bytes : List ℕ) (b : Body) (mode : ℕ) → mode ≤ 511 → body_of kind range bytes ≡ Some b → body_of kind range (body_with_mode mode bytes) ≡ Some (body_moded mode b)
unfolding body_of
mode_body kind range bytes b mode small e =
    let b0 : Body = body_at bytes in
    let c = cond_some (bytes_eq bytes (body_bytes b0) && body_fits kind range b0) b0 b e in
    let is_b : b0 ≡ b = c.1 in
    let p = and_parts (bytes_eq bytes (body_bytes b0)) (body_fits kind range b0) c.0 in
    let same : bytes ≡ body_bytes b = (bytes_eq-Decides bytes (body_bytes b0)).0 p.0 ∙ ap body_bytes is_b in
    let back : body_at (body_bytes b) ≡ b = ap body_at (sym same) ∙ is_b in
    let fits : body_fits kind range b ≡ true = ap (body_fits kind range) (sym is_b) ∙ p.1 in
    let now : body_with_mode mode bytes ≡ body_bytes (body_moded mode b) = ap (body_with_mode mode) same ∙ spelled_moded mode b in
    read_if kind range (body_with_mode mode bytes) (body_moded mode b) now (ap body_at now ∙ body_read mode b small back) (fits_moded kind range mode b small fits)

-- levels of files that are changed one by one, but for their numbers
module _ (n mode : ℕ) where
  -- the file n has another mode
  abbrev pub changed : Met → Met
  changed m = record { ino = m.ino; kind = m.kind; parent = m.parent; page = m.page; slot = m.slot; body = cond (eqb m.ino n) (body_with_mode mode m.body) m.body }

  pub numbers_changed : (ms : List Met) → numbers (map changed ms) ≡ numbers ms
  numbers_changed [] = refl
  numbers_changed (m ∷ ms) = ap (λ l. m.ino ∷ l) (numbers_changed ms)

  first_step : (b : Bool) (m : Met) (xs ys : List Met) (xs' ys' : List Met) → xs' ≡ map changed xs → ys' ≡ map changed ys → cond b xs' (changed m ∷ ys') ≡ map changed (cond b xs (m ∷ ys))
  first_step true m xs ys xs' ys' e f = e
  first_step false m xs ys xs' ys' e f = ap (λ l. changed m ∷ l) f

  first_changed : (seen : List ℕ) (ms : List Met) → first_listed seen (map changed ms) ≡ map changed (first_listed seen ms)
  first_changed seen [] = refl
  first_changed seen (m ∷ ms) =
      first_step (is_among m.ino seen) m (first_listed seen ms) (first_listed (seen ++ m.ino ∷ []) ms) (first_listed seen (map changed ms)) (first_listed (seen ++ m.ino ∷ []) (map changed ms)) (first_changed seen ms) (first_changed (seen ++ m.ino ∷ []) ms)

  pub flat_changed : (f g : Met → List Met) (ms : List Met) → ((m : Met) → In m ms → g (changed m) ≡ map changed (f m)) → flat_map g (map changed ms) ≡ map changed (flat_map f ms)
  flat_changed f g [] h = refl
  flat_changed f g (m ∷ ms) h =
      ap (λ l. l ++ flat_map g (map changed ms)) (h m (inl refl))
      ∙ ap (λ l. map changed (f m) ++ l) (flat_changed f g ms (λ x i. h x (inr i)))
      ∙ sym (map-append changed (f m) (flat_map f ms))

  pub levels_changed : (f g : Met → List Met) (root : Met) (k : ℕ) → ((m : Met) → In m (levels f root k).passed → g (changed m) ≡ map changed (f m)) → levels g (changed root) k ≡ record { passed = map changed (levels f root k).passed; level = map changed (levels f root k).level }
  levels_changed f g root zero h = refl
  levels_changed f g root (suc k) h =
      let w : Front = levels f root k in
      let ih = levels_changed f g root k (λ m i. h m (In-left m w.passed w.level i)) in
      let both : map changed w.passed ++ map changed w.level ≡ map changed (w.passed ++ w.level) = sym (map-append changed w.passed w.level) in
      let kids : flat_map g (map changed w.level) ≡ map changed (flat_map f w.level) = flat_changed f g w.level (λ m i. h m (In-right m w.passed w.level i)) in
      ap (descend g) ih
      ∙ ap (λ l. record { passed = l; level = first_listed (numbers l) (flat_map g (map changed w.level)) }) both
      ∙ ap (λ l. record { passed = map changed (w.passed ++ w.level); level = first_listed (numbers (map changed (w.passed ++ w.level))) l }) kids
      ∙ ap (λ ns. record { passed = map changed (w.passed ++ w.level); level = first_listed ns (map changed (flat_map f w.level)) }) (numbers_changed (w.passed ++ w.level))
      ∙ ap (λ l. record { passed = map changed (w.passed ++ w.level); level = l }) (first_changed (numbers (w.passed ++ w.level)) (flat_map f w.level))
