-- What a session reads in its own directories is true of the nodes that it shows.
use Rattle.trio_laws.proofs.Words.{◌&&◌, ◌||◌, ◌∙◌, ◌≡◌, ◌⊎◌, Bool, Case, In, In-is_among, IsAmong, IsTree, Kind, List, Naming, Node, Nodes, None, Option, Row, Shows, Some, and_parts, ap, arith, both_ways, bytes_eq, bytes_now, cond, entry_in, entry_keeps_rights, eqb, false≢true, has_kind, is_among, is_kept, is_some, judged_entries, judged_files, lent_body, list_all, list_all-In, naming_of, ne_eqb, node_at, node_left, node_listed, not, not_from_true, numbers, option_map, or_cases, refl, row_in, subst, sym, true, ℕ, guard_now, with_judged}
use Rattle.trio_laws.proofs.judgement.RuleParts.{has_kind_is}
use Rattle.trio_desk.specs.Edits.{listed_now}
use Rattle.trio_laws.specs.session.Bundles.{NowIsListed}
use Rattle.trio_laws.proofs.session.Edges.{own, node_row, new_dead}
use Rattle.trio_laws.proofs.session.Namings.{met_of, naming_is}

-- a node that is listed with this kind
pub record IsListedAs (o : Option Node) (e : Naming) : Type 0 where
  pub node : Node
  pub there : o ≡ Some node
  pub parent : node.parent ≡ e.directory
  pub name : node.name ≡ e.listed.entry.name
  pub kind : node.kind ≡ e.listed.entry.kind

with_as : (o : Option (List ℕ)) (g : Option Bool) (e : Naming) (x : Node) → x.parent ≡ e.directory → x.name ≡ e.listed.entry.name → x.kind ≡ e.listed.entry.kind → IsListedAs (Some (with_judged o g x)) e
with_as None None e x a b c = record { node = x; there = refl; parent = a; name = b; kind = c }
with_as None (Some guarded) e x a b c = record { node = record x { guard = guarded }; there = refl; parent = a; name = b; kind = c }
with_as (Some bytes) None e x a b c = record { node = record x { bytes = bytes }; there = refl; parent = a; name = b; kind = c }
with_as (Some bytes) (Some guarded) e x a b c = record { node = record x { bytes = bytes; guard = guarded }; there = refl; parent = a; name = b; kind = c }

module _ (c : Case) (nodes nodes' : Nodes) (tree : IsTree nodes) (tree' : IsTree nodes') (a : IsAmong c nodes) (s : Shows c nodes nodes') where
  keeps : (e : Naming) (n : ℕ) → naming_of c n ≡ Some e → entry_keeps_rights c (met_of e) ≡ true
  keeps e n h =
      let i = naming_is c n e h in
      list_all-In (entry_keeps_rights c) (met_of e) (judged_entries c) (and_parts (list_all (entry_keeps_rights c) (judged_entries c)) _ s.rights).0 i.met

  -- the entry of a live file has its row's kind
  kind_kept : (e : Naming) (n : ℕ) (r : Row) → naming_of c n ≡ Some e → row_in c.rows n ≡ Some r → e.listed.entry.kind ≡ r.kind
  unfolding met_of
  kind_kept e n r h row =
      let i = naming_is c n e h in
      let there : row_in c.rows e.listed.entry.ino ≡ Some r = ap (row_in c.rows) i.number ∙ row in
      by (is_kept c (met_of e)) there (own c nodes nodes' tree tree' a s n e h) refl (keeps e n h) i.number
    where
      by : (t : Bool) → row_in c.rows e.listed.entry.ino ≡ Some r → (is_kept c (met_of e) ≡ true) ⊎ (In n c.bundle.holds ⊎ In n c.bundle.numbers) → is_kept c (met_of e) ≡ t
          → cond t (has_kind e.listed.entry.kind (row_in c.rows e.listed.entry.ino)) (not (is_among e.listed.entry.ino c.bundle.holds) || (has_kind e.listed.entry.kind (row_in c.rows e.listed.entry.ino) && bytes_eq e.listed.body (lent_body c e.listed.entry.ino))) ≡ true
          → e.listed.entry.ino ≡ n → e.listed.entry.kind ≡ r.kind
      by h there i t k number = search (arith, has_kind_is, both_ways, met_of, new_dead, or_cases, In-is_among, false≢true, not_from_true, and_parts)

  pub listed_as : (e : Naming) (n : ℕ) → naming_of c n ≡ Some e → IsListedAs (node_at nodes' n) e
  listed_as e n h =
      subst (λ o. IsListedAs o e) (sym (s.each n ∙ ap (λ o. option_map (with_judged (bytes_now c n) (guard_now c n)) (node_left c n o (node_at nodes n))) h)) (by (node_at nodes n) refl)
    where
      by : (o : Option Node) → node_at nodes n ≡ o → IsListedAs (option_map (with_judged (bytes_now c n) (guard_now c n)) (node_listed e o)) e
      by o t = search (arith, with_as, node_row, kind_kept)

  listed_in : (directory n : ℕ) → is_among directory (numbers (judged_files c)) ≡ true → (o : Option Naming) → naming_of c n ≡ o → entry_in directory (node_at nodes' n) ≡ listed_now directory o
  listed_in directory n i (Some e) h =
      let l = listed_as e n h in
      let F : ℕ → List ℕ → Kind → Option (List ℕ × Kind) = λ p m q. cond (eqb p directory) (Some (m, q)) None in
      ap (entry_in directory) l.there ∙ ap (λ p. F p l.node.name l.node.kind) l.parent ∙ ap (λ m. F e.directory m l.node.kind) l.name ∙ ap (F e.directory e.listed.entry.name) l.kind
  listed_in directory n i None h = by (node_at nodes' n) refl
    where
      by : (o : Option Node) → node_at nodes' n ≡ o → entry_in directory o ≡ None
      by None t = refl
      by (Some y) t =
          let F : Option (List ℕ × Kind) = Some (y.name, y.kind) in
          ap (λ b. cond b F None)
          (ne_eqb y.parent directory
          (λ p. (let there : is_some (naming_of c n) ≡ true = s.whole n y t (ap (λ k. is_among k (numbers (judged_files c))) p ∙ i) in
          false≢true (ap is_some (sym h) ∙ there))))

pub now_is_listed : NowIsListed
now_is_listed c nodes nodes' tree tree' a s directory n i = listed_in c nodes nodes' tree tree' a s directory n i (naming_of c n) refl
