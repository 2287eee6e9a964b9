-- Who writes a file once a bundle has come to its end.
use Rattle.trio_laws.proofs.Words.{◌&&◌, ◌∙◌, ◌∷◌, ◌≡◌, ◌⊎◌, Bool, Bundle, Ends, GivenTo, GrantKind, Image, In, Kept, List, None, OpenGrant, Option, Row, Some, State, Write, Written, [], and_from, and_parts, ap, arith, blocks_of, cond, eq-eqb, eqb, eqb-true, false, false_from_ne_true, false≢true, filter-In, find-In, grants_after, is_hold, is_in_bundle, is_write, is_written, lent_part, not, not-false, or_left, refl, row_at, some_of, sym, true, writer_of, ℕ}
use Rattle.std.proofs.Common.{map, is_some, find, option_map}
use Rattle.trio_laws.proofs.StateFacts.{write_alone, write_is}
use Rattle.trio_laws.proofs.history.Facts.{find_filter, find_none}

-- the test of a writer
abbrev pub writes : ℕ → OpenGrant → Bool
writes n g = eqb g.ino n && is_write g.kind

find_mapped_step : {X : Type 0} (f : X → X) (p : X → Bool) (x : X) (xs : List X) (b : Bool) → p (f x) ≡ b → p x ≡ b → find p (map f xs) ≡ option_map f (find p xs) → cond (p (f x)) (Some (f x)) (find p (map f xs)) ≡ option_map f (cond (p x) (Some x) (find p xs))
find_mapped_step f p x xs true e e' h = ap (λ b. cond b (Some (f x)) (find p (map f xs))) e ∙ sym (ap (λ b. option_map f (cond b (Some x) (find p xs))) e')
find_mapped_step f p x xs false e e' h = ap (λ b. cond b (Some (f x)) (find p (map f xs))) e ∙ h ∙ sym (ap (λ b. option_map f (cond b (Some x) (find p xs))) e')

find_mapped : {X : Type 0} (f : X → X) (p : X → Bool) (xs : List X) → ((x : X) → p (f x) ≡ p x) → find p (map f xs) ≡ option_map f (find p xs)
find_mapped f p [] h = refl
find_mapped f p (x ∷ xs) h = find_mapped_step f p x xs (p x) (h x) refl (find_mapped f p xs h)

none_mapped : (o : Option OpenGrant) → option_map lent_part o ≡ None → o ≡ None
none_mapped None e = refl
none_mapped (Some g) e = absurd cc

pub blocks_lent : (image : Image) (n : ℕ) (r : Row) (o p : Option OpenGrant) → option_map lent_part o ≡ option_map lent_part p → blocks_of image n r o ≡ blocks_of image n r p
blocks_lent image n r o p e = search arith

pub none_found : {X : Type 0} (p : X → Bool) (xs : List X) (x : X) → find p xs ≡ None → In x xs → p x ≡ false
none_found p (z ∷ zs) x e i = step (p z) refl e i (λ f j. none_found p zs x f j)
  where
    step : (b : Bool) → p z ≡ b → cond b (Some z) (find p zs) ≡ None → (x ≡ z) ⊎ In x zs → (find p zs ≡ None → In x zs → p x ≡ false) → p x ≡ false
    step b t f i h = search arith
none_found p [] x e i = absurd i

write_unheld : (t : GrantKind) → t ≡ Write → is_hold t ≡ false
write_unheld t e = search arith

-- no one writes a number that isn't live
pub dead_writer : (s : State) → Kept s → (n : ℕ) → row_at s.home n ≡ None → writer_of s n ≡ None
dead_writer s k n dead = by (writer_of s n) refl
  where
    by : (o : Option OpenGrant) → writer_of s n ≡ o → o ≡ None
    by None f = refl
    by (Some g) f =
        let q = find-In (writes n) s.open_grants g f in
        let ino : g.ino ≡ n = eqb-true g.ino n (and_parts (eqb g.ino n) (is_write g.kind) q.1).0 in
        let live : is_some (row_at s.home n) ≡ true = ap (λ j. is_some (row_at s.home j)) (sym ino) ∙ k.live g q.0 in
        absurd (false≢true (sym (ap is_some dead) ∙ live))

module _ (s s' : State) (k : Kept s) (lib : ℕ) (b : Bundle) (given : GivenTo s lib b) (image : Image) (e : Ends s lib b image s') (n : ℕ) where
  writer_then : option_map lent_part (writer_of s' n) ≡ option_map lent_part (find (writes n) (grants_after s lib b))
  writer_then =
      sym (find_mapped lent_part (writes n) s'.open_grants (λ g. refl))
      ∙ ap (find (writes n)) e.grants
      ∙ find_mapped lent_part (writes n) (grants_after s lib b) (λ g. refl)

  -- a writer of a file that isn't written stays
  pub other_writer : is_written b n ≡ false → (image' : Image) (r : Row) → blocks_of image' n r (writer_of s' n) ≡ blocks_of image' n r (writer_of s n)
  other_writer un image' r = search (arith, find_filter, false_from_ne_true, and_parts, not-false, eqb-true, write_unheld, write_is, false≢true, blocks_lent, writer_then)

  -- one who wrote a written file has ended
  pub no_writer : is_written b n ≡ true → writer_of s' n ≡ None
  no_writer written =
      let w = some_of (find (λ (w : Written). eqb w.ino n) b.writes) written in
      let f = find-In (λ (w : Written). eqb w.ino n) b.writes w.0 w.1 in
      let l = given.writes w.0 f.0 in
      let number : l.grant.ino ≡ n = l.ino ∙ eqb-true w.0.ino n f.1 in
      let gone : find (writes n) (grants_after s lib b) ≡ None =
      find_none (writes n) (grants_after s lib b)
      (λ g i.
      false_from_ne_true (writes n g)
      (λ t.
      let p = and_parts (eqb g.ino n) (is_write g.kind) t in
      let old = filter-In (λ (g : OpenGrant). not (is_in_bundle lib b g)) g s.open_grants i in
      let mine : l.grant ≡ g = write_alone s.open_grants l.grant g k.apart l.is_open old.0 l.kind (number ∙ sym (eqb-true g.ino n p.0)) in
      let lib_is : eqb g.lib lib ≡ true = eq-eqb g.lib lib (sym (ap (λ (x : OpenGrant). x.lib) mine) ∙ l.lib) in
      let written' : is_written b g.ino ≡ true = ap (is_written b) (eqb-true g.ino n p.0) ∙ written in
      let inside : is_in_bundle lib b g ≡ true = search (arith, and_from, or_left) in
      false≢true (sym (ap not inside) ∙ old.1))) in
      none_mapped (writer_of s' n) (writer_then ∙ ap (option_map lent_part) gone)
