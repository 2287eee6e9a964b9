-- A step of giving back extends the history.
use Rattle.trio_laws.proofs.Words.{◌&&◌, ◌∙◌, ◌≡◌, AllPairs-In, Back, Beside, Bool, CtlAnswer, GrantKind, HasGrant, In, Kept, MayBothStand, OpenGrant, Read, Standing, State, and_parts, and_right, ap, arith, eqb, eqb-true, false, false≢true, filter-map, filter-same, given_back, inl, inr, is_read, is_write, node_in, nodes_of, not, not-false, refl, standing_of, sym, true, ℕ}
use Rattle.std.proofs.Common.{map, filter}
use Rattle.trio_state.specs.Step.{Done}
use Rattle.trio_laws.proofs.Backs.{settled_back}
use Rattle.trio_laws.proofs.history.Extends.{Extends, past_is}
use Rattle.trio_laws.proofs.history.Facts.{find_filter, nodes_by_one}

read_kept : (t : GrantKind) → t ≡ Read → is_read t ≡ true
read_kept t e = search arith

read_unwritten : (t : GrantKind) → is_read t ≡ true → is_write t ≡ false
read_unwritten t e = search (arith, false≢true)

and_true : (a b : Bool) → (a ≡ true → b ≡ true) → (a && b) ≡ a
and_true true b h = h refl
and_true false b h = refl

module _ (s : State) (k : Kept s) (lib ino : ℕ) (given : HasGrant s lib ino Read) where
  -- the library has no other grant on the file
  mine_reads : (g : OpenGrant) → In g s.open_grants → (eqb g.lib lib && eqb g.ino ino) ≡ true → is_read g.kind ≡ true
  mine_reads g i t =
      let p = and_parts (eqb g.lib lib) (eqb g.ino ino) t in
      let l : g.lib ≡ given.grant.lib = eqb-true g.lib lib p.0 ∙ sym given.lib in
      let n : g.ino ≡ given.grant.ino = eqb-true g.ino ino p.1 ∙ sym given.ino in
      elim (AllPairs-In MayBothStand s.open_grants g given.grant k.apart i given.is_open) [
        | inl same ↦ read_kept g.kind (ap (λ (x : OpenGrant). x.kind) same ∙ given.kind)
        | inr one ↦ absurd (elim one [ inl r ↦ (r n).1 l | inr r ↦ (r (sym n)).1 (sym l) ])
      ]

  grants_back : map standing_of (given_back s lib ino).open_grants ≡ filter (λ (g : Standing). not (eqb g.lib lib && eqb g.ino ino)) (map standing_of s.open_grants)
  grants_back = search (arith, filter-same, and_true, mine_reads, filter-map)

  one : (n : ℕ) → node_in (given_back s lib ino) n ≡ node_in s n
  one n = search (arith, settled_back, find_filter, and_parts, not-false, and_right, read_unwritten)

  pub back_nodes : nodes_of (given_back s lib ino) ≡ nodes_of s
  back_nodes = nodes_by_one s (given_back s lib ino) refl one

  pub back_extends : (x : Beside) (answer : CtlAnswer) (s' : State) → (answer ≡ Done) × (s' ≡ given_back s lib ino) → Extends s x (Back lib ino) answer s'
  back_extends x answer s' c = search (arith, past_is, back_nodes, grants_back)
