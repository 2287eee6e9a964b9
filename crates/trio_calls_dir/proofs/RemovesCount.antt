-- How many entries a held directory has: as many as its hold tells.
use Rattle.trio_calls_dir.proofs.Words.{◌∙◌, ◌≡◌, Bool, DeskSeen, HoldParts, In, In-map, IsTree, IsView, Kind, List, Node, Nodes, None, Option, Row, Some, ap, bytes_now, case_in_hand, cond, count_in, eqb, false, inl, inr, is_among, is_among-In, is_in, is_some, naming_of, ne_eqb, node_at, option_map, refl, rights_in, rights_of, some_one, subst, sym, true, with_judged, ℕ, guard_now}
use Rattle.std.proofs.lemmas.Bool.{cases_Bool}
use Rattle.trio_rights.specs.Row.{row_in}
use Rattle.trio_layout.specs.Survey.{Met}
use Rattle.trio_layout.specs.Case.{Case}
use Rattle.trio_layout.specs.JudgedFiles.{judged_files}
use Rattle.trio_nodes.specs.Nodes.{entry_in}
use Rattle.trio_desk.specs.Among.{IsAmong, written_numbers}
use Rattle.trio_desk.specs.Edits.{InHand}
use Rattle.trio_desk.specs.Shows.{Naming, Shows}
use Rattle.trio_laws.proofs.session.Counts.{count_pair}
use Rattle.trio_laws.proofs.session.Edges.{held_gone, kept_parent, listed_now, new_dead, node_row, own, unlisted_now}
use Rattle.trio_laws.proofs.session.LentNodes.{mapped}
use Rattle.trio_laws.proofs.session.Namings.{naming_is}
use Rattle.trio_laws.proofs.session.Spares.{judged_own}

-- a node in another directory is no entry here
elsewhere : (n : ℕ) (o : Option Node) → ((x : Node) → o ≡ Some x → x.parent ≡ n → ⊥) → entry_in n o ≡ None
elsewhere n None d = refl
elsewhere n (Some x) d = ap (λ b. cond b (Some (x.name, x.kind)) None) (ne_eqb x.parent n (d x refl))

-- other bytes and another guard leave the entry
entry_with : (n : ℕ) (bytes : Option (List ℕ)) (guard : Option Bool) (o : Option Node) → entry_in n (option_map (with_judged bytes guard) o) ≡ entry_in n o
entry_with n bytes guard None = refl
entry_with n None None (Some x) = refl
entry_with n None (Some on) (Some x) = refl
entry_with n (Some b) None (Some x) = refl
entry_with n (Some b) (Some on) (Some x) = refl

in_entry : (n : ℕ) (o : Option Node) → is_in n o ≡ is_some (entry_in n o)
in_entry n None = refl
in_entry n (Some x) = by (eqb x.parent n)
  where
    by : (b : Bool) → b ≡ is_some {T = List ℕ × Kind} (cond b (Some (x.name, x.kind)) None)
    by true = refl
    by false = refl

module _ (c : Case) (nodes nodes' : Nodes) (tree : IsTree nodes) (tree' : IsTree nodes') (a : IsAmong c nodes) (s : Shows c nodes nodes')
    (n : ℕ) (x : Node) (e : node_at nodes n ≡ Some x) (unwritten : In n (written_numbers c) → ⊥) where
  row : (r : Row) × (row_in c.rows n ≡ Some r) × (r.parent ≡ x.parent)
  row = node_row c nodes nodes' tree tree' a s n x e

  not_judged : (m : Met) → In m (judged_files c) → m.ino ≡ n → ⊥
  not_judged m i is =
      elim (judged_own c m i) [
        | inl w ↦ unwritten (subst (λ k. In k (written_numbers c)) is w)
        | inr k ↦ new_dead c nodes nodes' tree tree' a s n row.0 row.1 (subst (λ q. In q c.bundle.numbers) is k)
      ]

  -- no entry of the bundle is listed by it
  not_here : (m : ℕ) (g : Naming) → naming_of c m ≡ Some g → g.directory ≡ n → ⊥
  not_here m g h is = (let i = naming_is c m g h in not_judged i.judged_by i.among (sym i.directory ∙ is))

  -- nor was a held file
  held_elsewhere : (m : ℕ) (y : Node) → In m c.bundle.holds → node_at nodes m ≡ Some y → y.parent ≡ n → ⊥
  held_elsewhere m y i f p =
      let q = node_row c nodes nodes' tree tree' a s m y f in
      unwritten (subst (λ k. In k (written_numbers c)) (q.2 ∙ p) (a.closed m q.0 i q.1))

  -- it has the entries that it had
  entry_kept : (m : ℕ) → entry_in n (node_at nodes' m) ≡ entry_in n (node_at nodes m)
  entry_kept m = by (naming_of c m) refl
    where
      by : (o : Option Naming) → naming_of c m ≡ o → entry_in n (node_at nodes' m) ≡ entry_in n (node_at nodes m)
      by (Some g) h =
          let l = listed_now c nodes nodes' tree tree' a s m g h in
          let after : entry_in n (node_at nodes' m) ≡ None =
          elsewhere n (node_at nodes' m) (λ y f p. not_here m g h (sym l.2 ∙ ap (λ (z : Node). z.parent) (some_one (node_at nodes' m) l.0 y l.1 f) ∙ p)) in
          let before : entry_in n (node_at nodes m) ≡ None =
          elsewhere n (node_at nodes m)
          (λ y f p.
          let q = node_row c nodes nodes' tree tree' a s m y f in
          elim (own c nodes nodes' tree tree' a s m g h) [
            | inl k ↦ not_here m g h (sym (kept_parent c nodes nodes' tree tree' a s m g q.0 h q.1 k) ∙ q.2 ∙ p)
            | inr (inl i) ↦ held_elsewhere m y i f p
            | inr (inr i) ↦ new_dead c nodes nodes' tree tree' a s m q.0 q.1 i
          ]) in
          after ∙ sym before
      by None h =
          elim (cases_Bool (is_among m c.bundle.holds)) [
            | inl y ↦
                ap (entry_in n) (held_gone c nodes nodes' tree tree' a s m h (is_among-In m c.bundle.holds y))
                ∙ sym (elsewhere n (node_at nodes m) (λ z f p. held_elsewhere m z (is_among-In m c.bundle.holds y) f p))
            | inr no' ↦
                ap (entry_in n)
                (unlisted_now c nodes nodes' tree tree' a s m h ∙ ap (λ b. option_map (with_judged (bytes_now c m) (guard_now c m)) (cond b None (node_at nodes m))) no')
                ∙ entry_with n (bytes_now c m) (guard_now c m) (node_at nodes m)
          ]

  count_kept : count_in nodes' n ≡ count_in nodes n
  count_kept =
      count_pair (is_in n) (is_in n) refl refl nodes' nodes
      (λ m. in_entry n (node_at nodes' m) ∙ ap is_some (entry_kept m) ∙ sym (in_entry n (node_at nodes m)))

-- in the nodes that are shown too
pub held_count : (desk : DeskSeen) (h h' : InHand) (nodes nodes' : Nodes) (rows : List (Option Row)) (k : HoldParts)
    → IsView desk h h' nodes nodes' rows → In k h.parcel.holds → count_in nodes' k.ino ≡ k.children
held_count desk h h' nodes nodes' rows k v i =
    let less = v.more nodes rows v.shows.possible in
    let a = v.order.among nodes rows less in
    let has = less.agrees.holds k i in
    let x = mapped rights_of (node_at nodes k.ino) (rights_in k.kind k.body) has.rights in
    count_kept (case_in_hand desk rows h) nodes nodes' less.tree v.shows.tree a v.shows.shows k.ino x.0 x.1 (a.apart k.ino (In-map (λ (z : HoldParts). z.ino) k h.parcel.holds i))
    ∙ has.children
