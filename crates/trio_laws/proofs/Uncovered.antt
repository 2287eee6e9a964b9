-- Which blocks of written files no checkpoint covers.
use Rattle.trio_laws.proofs.Words.{Bool, Bundle, GivenTo, In, In-cases, In-flat, In-left, In-right, Kept, Kind, List, Row, Sheet, Some, State, Written, ap, bundle_sheets, cond, covers_blocks, false, flat_map, flat_map-In, flat_map-same, guard_of, inl, inr, plain, refl, row_at, row_at_is, row_by, row_met, settled, subst, sym, true, uncovered, ◌++◌, ◌∙◌, ◌≡◌, ◌⊎◌, []}
use Rattle.std.specs.Prelude.{ℕ}
use Rattle.trio_state.specs.Bundles.{uncovered_by, uncovered_of}
use Rattle.trio_laws.proofs.StateFacts.{tables}

uncovered_is : (kind : Kind) (guarded : Bool) (blocks : List Sheet) (x : Sheet) → In x (uncovered_of kind guarded blocks) → (covers_blocks kind guarded ≡ false) × In x blocks
uncovered_is kind guarded blocks x i = by (covers_blocks kind guarded) refl i
  where
    by : (t : Bool) → covers_blocks kind guarded ≡ t → In x (cond t [] blocks) → (covers_blocks kind guarded ≡ false) × In x blocks
    by true e i = absurd i
    by false e i = (e, i)

is_uncovered : (kind : Kind) (guarded : Bool) (blocks : List Sheet) (x : Sheet) → covers_blocks kind guarded ≡ false → In x blocks → In x (uncovered_of kind guarded blocks)
is_uncovered kind guarded blocks x e i = subst (λ t. In x (cond t [] blocks)) (sym e) i

module _ (s : State) (k : Kept s) (lib : ℕ) (b : Bundle) (given : GivenTo s lib b) where
  -- the row of a written file is of the kind of its lease
  written_row : (w : Written) → In w b.writes → (r : Row) × (row_at (settled s) w.ino ≡ Some r) × (r.kind ≡ w.kind)
  written_row w i =
      let core = (settled s).core in
      let sound = k.verifies.sound in
      let g = given.writes w i in
      let l = k.lent g.grant g.is_open g.kind in
      let number : l.met.ino ≡ w.ino = l.number ∙ g.ino in
      let row : row_at (settled s) l.met.ino ≡ Some (row_by l.met l.file.body) =
      row_at_is core plain k.fit sound (settled s) (tables s k) l.met.ino ∙ row_met core plain k.fit sound l.met l.file l.stands l.read in
      (row_by l.met l.file.body, ap (row_at (settled s)) (sym number) ∙ row, l.of ∙ g.of)

  -- so what is uncovered goes by the kinds of the leases, and by the settled guards
  pub uncovered-lent : uncovered (settled s) b ≡ flat_map (λ (w : Written). uncovered_of w.kind (guard_of (settled s) w.ino) w.blocks) b.writes
  uncovered-lent =
      flat_map-same (λ (w : Written). uncovered_by (settled s) w.ino (row_at (settled s) w.ino) w.blocks) (λ (w : Written). uncovered_of w.kind (guard_of (settled s) w.ino) w.blocks) b.writes
      (λ w i.
      let r = written_row w i in
      ap (λ o. uncovered_by (settled s) w.ino o w.blocks) r.1 ∙ ap (λ kind. uncovered_of kind (guard_of (settled s) w.ino) w.blocks) r.2)

  -- where an uncovered sheet comes from
  pub uncovered_from : (x : Sheet) → In x (uncovered (settled s) b ++ b.pages) → In x b.pages ⊎ ((w : Written) × In w b.writes × (covers_blocks w.kind (guard_of (settled s) w.ino) ≡ false) × In x w.blocks)
  uncovered_from x i =
      elim (In-cases x (uncovered (settled s) b) b.pages i) [
        | inl a ↦
            let r = flat_map-In (λ (w : Written). uncovered_of w.kind (guard_of (settled s) w.ino) w.blocks) x b.writes (subst (λ l. In x l) uncovered-lent a) in
            let u = uncovered_is r.0.kind (guard_of (settled s) r.0.ino) r.0.blocks x r.2 in inr (r.0, r.1, u.0, u.1)
        | inr a ↦ inl a
      ]

  -- it is a sheet of the bundle
  pub uncovered_handed : (x : Sheet) → In x (uncovered (settled s) b ++ b.pages) → In x (bundle_sheets b)
  uncovered_handed x i =
      let own : List Sheet = flat_map (λ (w : Written). w.index ++ w.blocks) b.writes in
      elim (uncovered_from x i) [
        | inl a ↦ In-right x own b.pages a
        | inr w ↦ In-left x own b.pages (In-flat (λ (w : Written). w.index ++ w.blocks) w.0 x b.writes w.1 (In-right x w.0.index w.0.blocks w.3))
      ]

  pub In-uncovered : (w : Written) (x : Sheet) → In w b.writes → covers_blocks w.kind (guard_of (settled s) w.ino) ≡ false → In x w.blocks → In x (uncovered (settled s) b)
  In-uncovered w x i bare a =
      subst (λ l. In x l) (sym uncovered-lent)
      (In-flat (λ (w : Written). uncovered_of w.kind (guard_of (settled s) w.ino) w.blocks) w x b.writes i
      (is_uncovered w.kind (guard_of (settled s) w.ino) w.blocks x bare a))
