-- What a settle leaves of others.
use Rattle.trio_laws.proofs.Words.{◌∙◌, ◌≡◌, ◌⊎◌, Case, HasPlaceOf, HasRightsOf, In, In-map, IsAmong, IsForeign, IsTree, List, Met, Naming, Node, Nodes, None, Option, Row, SameContent, Shows, Some, ap, arith, bundle_core, bytes_in, bytes_now, bytes_read, cases_Bool, cond, entry_in, eqb, eqb-true, false, false_from_ne_true, false≢true, file_within, filter-In, find, find-In, flat_map-In, fronts_listed, inl, inr, is_among, is_among-In, map-In, naming_of, ne_eqb, node_at, node_left, node_listed, option_and_then, option_map, placed, refl, row_in, sorted_in, subst, sym, written_numbers, ℕ, Bool, guard_in, guard_now, is_guarded, with_judged}
use Rattle.trio_layout.specs.JudgedFiles.{judged_files}
use Rattle.trio_laws.proofs.judgement.JudgedFacts.{written_ino}
use Rattle.trio_laws.specs.session.Bundles.{ShownSpares}
use Rattle.trio_laws.proofs.session.Namings.{naming_is}
use Rattle.trio_laws.proofs.session.Edges.{row_node, node_row, listed_now, unlisted_now, held_gone, own, new_dead, kept_parent}

-- ---- whose the judged files are

-- a judged file is written, or has one of the bundle's numbers
pub judged_own : (c : Case) (m : Met) → In m (judged_files c) → In m.ino (written_numbers c) ⊎ In m.ino c.bundle.numbers
unfolding judged_files
judged_own c m i = search (arith, fronts_listed, map-In, In-map, sorted_in, written_ino, flat_map-In, is_among-In, filter-In)

-- ---- nodes with other bytes

rights_with : (o : Option (List ℕ)) (g : Option Bool) (x : Node) → HasRightsOf x (Some (with_judged o g x))
rights_with None None x = (refl, refl, refl, refl)
rights_with None (Some guarded) x = (refl, refl, refl, refl)
rights_with (Some bytes) None x = (refl, refl, refl, refl)
rights_with (Some bytes) (Some guarded) x = (refl, refl, refl, refl)

rights_placed : (o : Option (List ℕ)) (g : Option Bool) (e : Naming) (x : Node) → HasRightsOf x (Some (with_judged o g (placed e x)))
rights_placed None None e x = (refl, refl, refl, refl)
rights_placed None (Some guarded) e x = (refl, refl, refl, refl)
rights_placed (Some bytes) None e x = (refl, refl, refl, refl)
rights_placed (Some bytes) (Some guarded) e x = (refl, refl, refl, refl)

entry_with : (n : ℕ) (o : Option (List ℕ)) (g : Option Bool) (x : Option Node) → entry_in n (option_map (with_judged o g) x) ≡ entry_in n x
entry_with n o g None = refl
entry_with n None None (Some x) = refl
entry_with n None (Some guarded) (Some x) = refl
entry_with n (Some bytes) None (Some x) = refl
entry_with n (Some bytes) (Some guarded) (Some x) = refl

-- a node in another directory is no entry here
elsewhere : (n : ℕ) (o : Option Node) → ((x : Node) → o ≡ Some x → x.parent ≡ n → ⊥) → entry_in n o ≡ None
elsewhere n None d = refl
elsewhere n (Some x) d = ap (λ b. cond b (Some (x.name, x.kind)) None) (ne_eqb x.parent n (d x refl))

module _ (c : Case) (nodes nodes' : Nodes) (tree : IsTree nodes) (tree' : IsTree nodes') (a : IsAmong c nodes) (s : Shows c nodes nodes') where
  some_one : (o : Option Node) (x y : Node) → o ≡ Some x → o ≡ Some y → x ≡ y
  some_one o x y e f = (let h : Some x ≡ Some y = sym e ∙ f in cc h)

  -- what becomes of a live file, whole
  now_of : (n : ℕ) (x y : Node) → node_at nodes n ≡ Some x → node_at nodes' n ≡ Some y → HasRightsOf x (Some y)
  now_of n x y e f = search (arith, rights_placed, rights_with)

  -- a directory of the bundle is no foreign one that lives
  not_judged : (n : ℕ) (x : Node) → node_at nodes n ≡ Some x → (r : Row) → row_in c.rows n ≡ Some r → IsForeign c n → (m : Met) → In m (judged_files c) → m.ino ≡ n → ⊥
  not_judged n x e r t foreign m i is = search (arith, judged_own, new_dead)

  module _ (n : ℕ) (x : Node) (e : node_at nodes n ≡ Some x) (r : Row) (t : row_in c.rows n ≡ Some r) (same : r.parent ≡ x.parent) (foreign : IsForeign c n) where
    unfound : find (λ (m : Met). eqb m.ino n) (judged_files c) ≡ None
    unfound = by (find (λ (m : Met). eqb m.ino n) (judged_files c)) refl
      where
        by : (o : Option Met) → find (λ (m : Met). eqb m.ino n) (judged_files c) ≡ o → o ≡ None
        by None h = refl
        by (Some m) h =
            let f = find-In (λ (m : Met). eqb m.ino n) (judged_files c) m h in
            absurd (not_judged n x e r t foreign m f.0 (eqb-true m.ino n f.1))

    pub no_bytes : bytes_now c n ≡ None
    no_bytes = ap (option_and_then (λ (m : Met). bytes_read (bundle_core c) m.kind (file_within (bundle_core c) m))) unfound

    pub no_guard : guard_now c n ≡ None
    no_guard = ap (option_map (λ (m : Met). guard_in m.body)) unfound

    -- so a node stays as it is placed
    none_judged : (y : Node) → Some (with_judged (bytes_now c n) (guard_now c n) y) ≡ Some y
    none_judged y = ap (λ q. Some (with_judged q (guard_now c n) y)) no_bytes ∙ ap (λ g. Some (with_judged None g y)) no_guard

    free : is_among n c.bundle.holds ≡ false
    free = false_from_ne_true (is_among n c.bundle.holds) (λ y. foreign.1 (is_among-In n c.bundle.holds y))

    -- it stays, in its directory, with its bytes and its guard
    stays_there : (y : Node) × (node_at nodes' n ≡ Some y) × (y.parent ≡ x.parent) × (y.bytes ≡ x.bytes) × (y.guard ≡ x.guard)
    stays_there = by (naming_of c n) refl
      where
        by : (o : Option Naming) → naming_of c n ≡ o → (y : Node) × (node_at nodes' n ≡ Some y) × (y.parent ≡ x.parent) × (y.bytes ≡ x.bytes) × (y.guard ≡ x.guard)
        by (Some g) h =
            let now : node_at nodes' n ≡ Some (placed g x) =
            s.each n ∙ ap (λ q. option_map (with_judged (bytes_now c n) (guard_now c n)) (node_left c n q (node_at nodes n))) h ∙ ap (λ q. option_map (with_judged (bytes_now c n) (guard_now c n)) (node_listed g q)) e
            ∙ none_judged (placed g x) in
            let parent : g.directory ≡ x.parent =
            elim (own c nodes nodes' tree tree' a s n g h) [
              | inl k ↦ sym (kept_parent c nodes nodes' tree tree' a s n g r h t k) ∙ same
              | inr (inl i) ↦ absurd (foreign.1 i)
              | inr (inr i) ↦ absurd (new_dead c nodes nodes' tree tree' a s n r t i)
            ] in
            (placed g x, now, parent, refl, refl)
        by None h =
            let now : node_at nodes' n ≡ Some x =
            unlisted_now c nodes nodes' tree tree' a s n h ∙ ap (λ b. option_map (with_judged (bytes_now c n) (guard_now c n)) (cond b None (node_at nodes n))) free
            ∙ ap (option_map (with_judged (bytes_now c n) (guard_now c n))) e ∙ none_judged x in
            (x, now, refl, refl, refl)

    -- a directory that lists an entry of the bundle isn't this one
    not_here : (m : ℕ) (g : Naming) → naming_of c m ≡ Some g → g.directory ≡ n → ⊥
    not_here m g h is =
        let i = naming_is c m g h in
        not_judged n x e r t foreign i.judged_by i.among (sym i.directory ∙ is)

    held_elsewhere : (m : ℕ) (y : Node) → In m c.bundle.holds → node_at nodes m ≡ Some y → y.parent ≡ n → ⊥
    held_elsewhere m y i f p = search (arith, false≢true, row_node, some_one)

    entry_kept : (m : ℕ) → entry_in n (node_at nodes' m) ≡ entry_in n (node_at nodes m)
    entry_kept m = by (naming_of c m) refl
      where
        by : (o : Option Naming) → naming_of c m ≡ o → entry_in n (node_at nodes' m) ≡ entry_in n (node_at nodes m)
        by (Some g) h =
            let l = listed_now c nodes nodes' tree tree' a s m g h in
            let after : entry_in n (node_at nodes' m) ≡ None =
            elsewhere n (node_at nodes' m) (λ y f p. not_here m g h (sym l.2 ∙ ap (λ (z : Node). z.parent) (some_one (node_at nodes' m) l.0 y l.1 f) ∙ p)) in
            let before : entry_in n (node_at nodes m) ≡ None =
            elsewhere n (node_at nodes m)
            (λ y f p.
            let q = node_row c nodes nodes' tree tree' a s m y f in
            elim (own c nodes nodes' tree tree' a s m g h) [
              | inl k ↦ not_here m g h (sym (kept_parent c nodes nodes' tree tree' a s m g q.0 h q.1 k) ∙ q.2 ∙ p)
              | inr (inl i) ↦ held_elsewhere m y i f p
              | inr (inr i) ↦ new_dead c nodes nodes' tree tree' a s m q.0 q.1 i
            ]) in
            after ∙ sym before
        by None h =
            elim (cases_Bool (is_among m c.bundle.holds)) [
              | inl y ↦
                  ap (entry_in n) (held_gone c nodes nodes' tree tree' a s m h (is_among-In m c.bundle.holds y))
                  ∙ sym (elsewhere n (node_at nodes m) (λ z f p. held_elsewhere m z (is_among-In m c.bundle.holds y) f p))
              | inr no' ↦
                  ap (entry_in n)
                  (unlisted_now c nodes nodes' tree tree' a s m h ∙ ap (λ b. option_map (with_judged (bytes_now c m) (guard_now c m)) (cond b None (node_at nodes m))) no')
                  ∙ entry_with n (bytes_now c m) (guard_now c m) (node_at nodes m)
            ]

  spared : (n : ℕ) (x : Node) → node_at nodes n ≡ Some x → IsForeign c n → HasRightsOf x (node_at nodes' n) × HasPlaceOf x (node_at nodes' n) × SameContent nodes nodes' n
  spared n x e foreign =
      let r = node_row c nodes nodes' tree tree' a s n x e in
      let y = stays_there n x e r.0 r.1 r.2 foreign in
      let P : Option Node → Type 0 = λ o. HasPlaceOf x o in
      let R : Option Node → Type 0 = λ o. HasRightsOf x o in (
        subst R (sym y.1) (now_of n x y.0 e y.1),
        subst P (sym y.1) y.2,
        record {
          guard = ap is_guarded y.1 ∙ y.4 ∙ sym (ap is_guarded e);
          bytes = ap bytes_in y.1 ∙ y.3 ∙ sym (ap bytes_in e);
          entries = entry_kept n x e r.0 r.1 r.2 foreign;
        },
      )

pub shown_spares : ShownSpares
shown_spares c nodes nodes' tree tree' a s = (now_of c nodes nodes' tree tree' a s, spared c nodes nodes' tree tree' a s)
