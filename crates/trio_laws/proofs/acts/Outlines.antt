-- What was given goes by a bundle's outline, and so does whether it is closed.
use Rattle.trio_laws.proofs.Words.{◌&&◌, ◌∙◌, ◌∷◌, ◌≡◌, Bool, Bundle, GivenTo, In, In-map, IsFull, List, None, Option, Outline, Row, Some, State, Written, [], ap, are_new, cond, eqb, false, find, is_among, is_hold, is_parent_written, is_some, is_written, map, map-In, not, outline_of, parted_hold, refl, row_at, subst, sym, true, ℕ}
use Rattle.trio_state.specs.Moves.{FileOutline, file_outline}
use Rattle.trio_laws.proofs.Bundles.{unparted_at, unparted_from}

-- a file of the bundle is found as its outline is
found_outline : (ws : List Written) (n : ℕ) → is_some (find (λ (w : Written). eqb w.ino n) ws) ≡ is_some (find (λ (w : FileOutline). eqb w.ino n) (map file_outline ws))
found_outline [] n = refl
found_outline (w ∷ ws) n = by (eqb w.ino n) (found_outline ws n)
  where
    by : (t : Bool) → is_some (find (λ (w : Written). eqb w.ino n) ws) ≡ is_some (find (λ (w : FileOutline). eqb w.ino n) (map file_outline ws))
        → is_some (cond t (Some w) (find (λ (w : Written). eqb w.ino n) ws)) ≡ is_some (cond t (Some (file_outline w)) (find (λ (w : FileOutline). eqb w.ino n) (map file_outline ws)))
    by true e = refl
    by false e = e

numbers_outline : (ws : List Written) → map (λ (w : Written). w.ino) ws ≡ map (λ (w : FileOutline). w.ino) (map file_outline ws)
numbers_outline [] = refl
numbers_outline (w ∷ ws) = ap (λ l. w.ino ∷ l) (numbers_outline ws)

module _ (b c : Bundle) (same : outline_of b ≡ outline_of c) where
  files_same : map file_outline b.writes ≡ map file_outline c.writes
  files_same = ap (λ (o : Outline). o.writes) same

  pub holds_same : b.holds ≡ c.holds
  holds_same = ap (λ (o : Outline). o.holds) same

  pub written_same : (n : ℕ) → is_written b n ≡ is_written c n
  written_same n =
      found_outline b.writes n ∙ ap (λ (l : List FileOutline). is_some (find (λ (w : FileOutline). eqb w.ino n) l)) files_same ∙ sym (found_outline c.writes n)

  numbers_same : map (λ (w : Written). w.ino) b.writes ≡ map (λ (w : Written). w.ino) c.writes
  numbers_same = numbers_outline b.writes ∙ ap (λ (l : List FileOutline). map (λ (w : FileOutline). w.ino) l) files_same ∙ sym (numbers_outline c.writes)

  -- the other bundle was given too
  pub given_alike : (s : State) (lib : ℕ) → IsFull c → GivenTo s lib b → GivenTo s lib c
  given_alike s lib full given = record {
    writes = λ w i.
        let j = map-In file_outline (file_outline w) b.writes (subst (λ l. In (file_outline w) l) (sym files_same) (In-map file_outline w c.writes i)) in
        let g = given.writes j.0 j.1 in
        let is : file_outline w ≡ file_outline j.0 = j.2 in
        record {
          grant = g.grant;
          is_open = g.is_open;
          lib = g.lib;
          kind = g.kind;
          ino = g.ino ∙ ap (λ (f : FileOutline). f.ino) (sym is);
          of = g.of ∙ ap (λ (f : FileOutline). f.kind) (sym is);
          index = ap (λ (f : FileOutline). f.index) is ∙ g.index;
          blocks = ap (λ (f : FileOutline). f.blocks) is ∙ g.blocks;
        };
    holds = λ n i. given.holds n (subst (λ l. In n l) (sym holds_same) i);
    pages = λ n i. given.pages n (subst (λ l. In n l) (sym (ap (λ (o : Outline). o.pages) same)) i);
    numbers = λ n i. given.numbers n (subst (λ l. In n l) (sym (ap (λ (o : Outline). o.numbers) same)) i);
    full = full;
    writes_once = ap (are_new []) (sym numbers_same) ∙ given.writes_once;
    holds_once = ap (are_new []) (sym holds_same) ∙ given.holds_once;
    pages_once = ap (are_new []) (sym (ap (λ (o : Outline). o.pages) same)) ∙ given.pages_once;
    numbers_once = ap (are_new []) (sym (ap (λ (o : Outline). o.numbers) same)) ∙ given.numbers_once;
  }

  parent_same : (o : Option Row) → is_parent_written b o ≡ is_parent_written c o
  parent_same None = refl
  parent_same (Some r) = written_same r.parent

  -- and is closed too
  pub closed_alike : (s : State) (lib : ℕ) → parted_hold s lib b ≡ None → parted_hold s lib c ≡ None
  closed_alike s lib none =
      unparted_from s lib c
      (λ g i.
      let own : Bool = eqb g.lib lib && is_hold g.kind in
      let w : Bool = is_parent_written b (row_at s.home g.ino) in
      let t : Bool = is_among g.ino c.holds in
      sym (ap (λ h. own && cond (is_among g.ino h) (not w) w) holds_same ∙ ap (λ x. own && cond t (not x) x) (parent_same (row_at s.home g.ino)))
      ∙ unparted_at s lib b g none i)
