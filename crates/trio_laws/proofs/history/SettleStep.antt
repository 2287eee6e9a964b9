-- A step of a settle extends the history, where the calls that are told beside it are what the tree does.
use Rattle.trio_laws.proofs.Words.{◌&&◌, ◌+◌, ◌||◌, ◌∙◌, ◌≡◌, Beside, BesideFits, Bool, Bundle, CtlAnswer, Does, Ends, GivenTo, GrantKind, Handed, HandedFile, HasNoRead, In, IsLibrary, IsMarked, IsWithinGrants, Kept, LentWhole, Nodes, OpenGrant, Read, Settle, Standing, State, and_parts, ap, arith, batch_nodes, bundle_handed, creds_of, eqb, eqb-true, false, false≢true, filter-map, filter-same, grants_after, has_all, is_accepted, is_among, is_hold, is_in_bundle, is_read, is_write, is_written, lent_part, list_all, list_all-In, map-In, next, nodes_of, not, option_map_or, out_after, refl, settled, sheet_numbers, standing_of, subst, sym, true, ℕ}
use Rattle.std.proofs.Common.{map, filter}
use Rattle.trio_state.specs.Allotments.{has_none_out}
use Rattle.trio_nodes.specs.Libraries.{listed_creds}
use Rattle.trio_laws.proofs.history.AcceptedStep.{within}
use Rattle.trio_nodes.proofs.LibraryFacts.{batch_after}
use Rattle.trio_laws.proofs.history.Extends.{Extends, past_is, standing_lent}

-- of the library's own grants, all but read grants are in the bundle
in_all : (same read inside : Bool) → (not same || read || inside) ≡ true → read ≡ false → (same && inside) ≡ same
in_all same read inside h e = search (arith, false≢true)

unread : (t : GrantKind) → (t ≡ Read → ⊥) → is_read t ≡ false
unread t n = search arith

module _ (s : State) (lib : ℕ) (b : Bundle) (all : has_all s lib b ≡ true) (none : HasNoRead s lib) where
  mine_end : (g : OpenGrant) → In g s.open_grants → is_in_bundle lib b g ≡ eqb g.lib lib
  mine_end g i =
      let rest : Bool = (is_write g.kind && is_written b g.ino) || (is_hold g.kind && is_among g.ino b.holds) in
      let grants : Bool = list_all (λ g. not (eqb g.lib lib) || is_read g.kind || is_in_bundle lib b g) s.open_grants in
      let pages : Bool = has_none_out lib (out_after s.pages_out (sheet_numbers b.pages)) in
      let p = and_parts (grants && pages) (has_none_out lib (out_after s.numbers_out b.numbers)) all in
      let q = and_parts grants pages p.0 in
      let h : (not (eqb g.lib lib) || is_read g.kind || is_in_bundle lib b g) ≡ true = list_all-In (λ g. not (eqb g.lib lib) || is_read g.kind || is_in_bundle lib b g) g s.open_grants q.0 i in
      by (eqb g.lib lib) refl rest h
    where
      by : (same : Bool) → eqb g.lib lib ≡ same → (rest : Bool) → (not same || is_read g.kind || (same && rest)) ≡ true → (same && rest) ≡ same
      by false e rest h = refl
      by true e rest h = in_all true (is_read g.kind) rest h (unread g.kind (none g i (eqb-true g.lib lib e)))

  grants_end : (s' : State) → map lent_part s'.open_grants ≡ map lent_part (grants_after s lib b) → map standing_of s'.open_grants ≡ filter (λ (g : Standing). not (eqb g.lib lib)) (map standing_of s.open_grants)
  grants_end s' e = search (arith, standing_lent, filter-same, mine_end, filter-map)

  -- no grant of the library that stands is a read grant
  none_reads : (g : Standing) → In g (map standing_of s.open_grants) → g.lib ≡ lib → is_read g.kind ≡ false
  none_reads g i mine =
      let m = map-In standing_of g s.open_grants i in
      ap (λ (x : Standing). is_read x.kind) m.2 ∙ unread m.0.kind (none m.0 m.1 (ap (λ (x : Standing). x.lib) (sym m.2) ∙ mine))

-- whatever calls are told, a settle changes the nodes within the library's grants
pub settle_within : (s s' : State) (k : Kept s) (k' : Kept s') (w : LentWhole s) (lib : ℕ) (b : Bundle) (h : Handed) → bundle_handed h ≡ b → ((f : HandedFile) → In f h.writes → IsMarked s lib f) → GivenTo s lib b
    → is_accepted (settled s) (creds_of s lib) b ≡ true → Ends s lib b (next (settled s) b) s' → IsWithinGrants (map standing_of s.open_grants) (creds_of s lib) lib (nodes_of s) (nodes_of s')
settle_within s s' k k' w lib b h is marked given accepted ends = search (arith, within)

pub settle_extends : (s s' : State) (k : Kept s) (k' : Kept s') (w : LentWhole s) (lib : ℕ) (b : Bundle) (mine : IsLibrary s.creds lib) (given : GivenTo s lib b × HasNoRead s lib) (x : Beside) (answer : CtlAnswer) → Does s (Settle lib b) answer s' → BesideFits s x (Settle lib b) answer s' → Extends s x (Settle lib b) answer s'
settle_extends s s' k k' w lib b mine given x answer d t =
    let W : Nodes → Type 0 = λ ns. IsWithinGrants (map standing_of s.open_grants) (creds_of s lib) lib (nodes_of s) ns in
    let whole : W (nodes_of s') = settle_within s s' k k' w lib b x.handed t.0 t.1 given.0 d.2 d.3 in
    let may : W (batch_nodes (creds_of s lib) x.calls (nodes_of s)) = subst W t.3 whole in
    let E : CtlAnswer → Type 0 = λ y. Extends s x (Settle lib b) y s' in
    subst E (sym d.0) (record {
      legal = record { done = t.2; reads = none_reads s lib b d.1 given.1; rights = may.rights; others = may.others };
      comes = past_is s' (option_map_or (λ creds. batch_nodes creds x.calls (nodes_of s)) (listed_creds s.creds lib) (nodes_of s)) (filter (λ (g : Standing). not (eqb g.lib lib)) (map standing_of s.open_grants)) (s.entries + 1) (t.3 ∙ sym (batch_after s.creds lib x.calls (nodes_of s) mine)) (grants_end s lib b d.1 given.1 s' d.3.grants) d.3.entries;
      tells = ap (Settle lib) t.0;
      says = refl;
    })
