-- When a case is the one that a release waits for.
use Rattle.trio_ctl.proofs.Words.{◌∙◌, ◌∷◌, ◌≡◌, Bundled, Case, CaseShown, CoreRange, Creds, HaveBodies, HoldParts, Kept, LibNo, List, Option, Row, State, WereHeld, [], ap, bundle_in, case_in, case_made, case_shown, inl, inr, map, refl, settled, settled_body, sym, with_copied, ℕ}
use Rattle.trio_layout.specs.Case.{Held}
use Rattle.trio_case.specs.Cases.{held_in}
use Rattle.trio_ctl.specs.inner.Beginning.{IsCopy}

-- the body of the first, and the others
abbrev first_body : List Held → List ℕ
first_body [] = []
first_body (h ∷ hs) = h.body

abbrev others : List Held → List Held
others [] = []
others (h ∷ hs) = hs

module _ (s : State) where
  abbrev settled_held : ℕ → Held
  settled_held n = record { ino = n; body = settled_body (settled s) n }

  pub lent_from : (hs : List HoldParts) → HaveBodies s hs → map held_in hs ≡ map settled_held (map (λ h. h.ino) hs)
  lent_from [] all = refl
  lent_from (h ∷ hs) all =
      ap (λ (body : List ℕ). record { ino = h.ino; body = body } ∷ map held_in hs) (all h (inl refl))
      ∙ ap (λ (l : List Held). record { ino = h.ino; body = settled_body (settled s) h.ino } ∷ l) (lent_from hs (λ x i. all x (inr i)))

  pub bodies_from : (hs : List HoldParts) → map held_in hs ≡ map settled_held (map (λ h. h.ino) hs) → HaveBodies s hs
  bodies_from [] e x i = absurd i
  bodies_from (h ∷ hs) e x (inl same) =
      ap (λ (y : HoldParts). y.body) same ∙ ap first_body e ∙ ap (λ (y : HoldParts). settled_body (settled s) y.ino) (sym same)
  bodies_from (h ∷ hs) e x (inr there) = bodies_from hs (ap others e) x there

  -- a case with all that its library's bundle is judged by now
  pub copy_is : (k : CaseShown) → IsCopy s k → HaveBodies s k.bundle.holds → case_shown k ≡ with_copied (case_in s k.lib.0 (bundle_in k.bundle))
  copy_is k copy bodies =
      let b = bundle_in k.bundle in
      let S : List Held → List (Option Row) → Creds → CoreRange → ℕ → Case = λ hs rows cs rg n. record { bundle = b; lent = hs; rows = rows; creds = cs; range = rg; inodes = n } in
      let c = with_copied (case_in s k.lib.0 b) in
      ap (λ hs. S hs k.rows k.creds k.range k.inodes) (lent_from k.bundle.holds bodies)
      ∙ ap (λ rows. S c.lent rows k.creds k.range k.inodes) copy.rows
      ∙ ap (λ cs. S c.lent c.rows cs k.range k.inodes) copy.creds
      ∙ ap (λ rg. S c.lent c.rows c.creds rg k.inodes) copy.range
      ∙ ap (S c.lent c.rows c.creds c.range) copy.inodes

  pub copy_from : (k : CaseShown) → case_shown k ≡ with_copied (case_in s k.lib.0 (bundle_in k.bundle)) → IsCopy s k × HaveBodies s k.bundle.holds
  copy_from k e = (
    record {
      rows = ap (λ (c : Case). c.rows) e;
      creds = ap (λ (c : Case). c.creds) e;
      range = ap (λ (c : Case). c.range) e;
      inodes = ap (λ (c : Case). c.inodes) e;
    },
    bodies_from k.bundle.holds (ap (λ (c : Case). c.lent) e),
  )

  -- what was held has its settled body
  pub held_bodies : (lib : ℕ) (hs : List HoldParts) → Kept s → WereHeld s lib hs → HaveBodies s hs
  held_bodies lib hs kept held h i =
      let q = held h i in
      sym q.body ∙ kept.bodies q.grant q.is_open ∙ ap (settled_body (settled s)) q.ino

  -- the case of a bundle that was given
  pub made_is : (lib : LibNo) (b : Bundled) → Kept s → WereHeld s lib.0 b.holds → case_shown (case_made s lib b) ≡ with_copied (case_in s lib.0 (bundle_in b))
  made_is lib b kept held = copy_is (case_made s lib b) (record { rows = refl; creds = refl; range = refl; inodes = refl }) (held_bodies lib.0 b.holds kept held)
