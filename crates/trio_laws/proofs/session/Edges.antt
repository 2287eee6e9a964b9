-- Where a bundle shows a tree in the place of a tree, it meets rule I3.
use Rattle.trio_laws.proofs.Words.{◌&&◌, ◌+◌, ◌<◌, ◌∙◌, ◌∷◌, ◌≡◌, ◌≤◌, ◌⊎◌, AreInodes, Bool, Case, Core, FileRead, In, In-is_among, In-map, IsAmong, IsTree, List, Listed, ListedEntry, Met, Naming, Node, Nodes, None, Ok, Option, Row, Shows, Some, [], and_from, and_parts, ap, arith, bundle_core, bytes_now, cases_Bool, cases_eq, climbs, climbs_clear, climbs_more, climbs_past, comes_to_root, cond, entries_within, entry_is_own, eqb-true, false, false_from_ne_true, false≢true, file_within, has_file, if_ok_at, inl, inr, is_among, is_among-In, is_child, is_inode, is_kept, is_listed, is_listed_kept, is_moved, is_some, judged_entries, judged_files, keeps_children, leaves_none, length, list_all, list_all-In, list_all-each, list_any-In, listing, ltb, made_by, meets_edges, naming_of, node_at, node_left, node_listed, node_says, not, not_from_false, numbers, option_map, or_cases, or_left, or_right, place_parts, placed, proposed_parent, refl, row_in, row_says, row_there, some_of, some_one, stays_listed, subst, suc, sym, true, within_fit, within_from, written_numbers, ℕ, guard_now, with_judged}
use Rattle.std.proofs.Common.{ltb-true}
use Rattle.trio_laws.specs.session.Bundles.{EdgesFollow}
use Rattle.trio_laws.proofs.session.Namings.{met_of, naming_is, listed_naming, parent_listed, parent_unlisted}
use Rattle.trio_laws.proofs.judgement.Allowing.{up_to_from}
use Rattle.trio_laws.proofs.judgement.ListingFacts.{held_from, held_to, has_file_at, is_listed_by, kept_by}
use Rattle.trio_laws.proofs.session.Climbing.{way_of, way_short, way_climbs}

-- an option in a list stands at a number
in_rows : (rows : List (Option Row)) (r : Row) → In (Some r) rows → (n : ℕ) × (row_in rows n ≡ Some r)
in_rows [] r i = absurd i
in_rows (x ∷ xs) r (inl e) = (0, sym e)
in_rows (x ∷ xs) r (inr i) = let k = in_rows xs r i in (suc k.0, k.1)

-- the numbers that a directory names are numbers of the table
listed_within : (core : Core) (m : Met) (f : FileRead) (l : Listed) → file_within core m ≡ Ok f → In l f.entries → l.entry.ino < core.inodes + 1
listed_within core m f l e i =
    let w = within_from core m f e in
    let all : AreInodes core.inodes f.entries = if_ok_at (entries_within core m.kind f.chain.blocks) f.entries (AreInodes core.inodes) w.entries (within_fit core m.kind f.chain.blocks) in
    let one = list_all-In (λ (x : Listed). is_inode core.inodes x.entry.ino) l f.entries all i in
    ltb-true l.entry.ino (core.inodes + 1) (and_parts (ltb 0 l.entry.ino) (ltb l.entry.ino (core.inodes + 1)) one).1

module _ (c : Case) (nodes nodes' : Nodes) (tree : IsTree nodes) (tree' : IsTree nodes') (a : IsAmong c nodes) (s : Shows c nodes nodes') where
  -- ---- rows and nodes

  said_node : (o : Option Row) (p : Option Node) (r : Row) → option_map row_says o ≡ option_map node_says p → o ≡ Some r → (x : Node) × (p ≡ Some x) × (r.parent ≡ x.parent)
  said_node o p r e t = search arith

  -- a live number has a node, with the row's parent
  pub row_node : (n : ℕ) (r : Row) → row_in c.rows n ≡ Some r → (x : Node) × (node_at nodes n ≡ Some x) × (r.parent ≡ x.parent)
  row_node n r e = said_node (row_in c.rows n) (node_at nodes n) r (a.same n) e

  said_row : (o : Option Row) (p : Option Node) (x : Node) → option_map row_says o ≡ option_map node_says p → p ≡ Some x → (r : Row) × (o ≡ Some r) × (r.parent ≡ x.parent)
  said_row o p x e t = search arith

  pub node_row : (n : ℕ) (x : Node) → node_at nodes n ≡ Some x → (r : Row) × (row_in c.rows n ≡ Some r) × (r.parent ≡ x.parent)
  node_row n x e = said_row (row_in c.rows n) (node_at nodes n) x (a.same n) e

  no_zero : (o : Option Node) → node_at nodes 0 ≡ o → (x : Node) → o ≡ Some x → ⊥
  no_zero o e x t = let wrong : None ≡ Some x = sym tree.none ∙ e ∙ t in cc

  pub live_above : (n : ℕ) → is_some (row_in c.rows n) ≡ true → n ≡ 0 → ⊥
  live_above n y e = search (arith, some_of, row_node, no_zero)

  -- ---- what becomes of a number

  parent_with : (o : Option (List ℕ)) (g : Option Bool) (x : Node) → (with_judged o g x).parent ≡ x.parent
  parent_with None None x = refl
  parent_with None (Some guarded) x = refl
  parent_with (Some bytes) None x = refl
  parent_with (Some bytes) (Some guarded) x = refl

  -- what is listed is there, in the directory that lists it
  listed_left : (e : Naming) (o : Option Node) → (x : Node) × (node_listed e o ≡ Some x) × (x.parent ≡ e.directory)
  listed_left e None = (made_by e, refl, refl)
  listed_left e (Some x) = (placed e x, refl, refl)

  pub listed_now : (n : ℕ) (e : Naming) → naming_of c n ≡ Some e → (x : Node) × (node_at nodes' n ≡ Some x) × (x.parent ≡ e.directory)
  listed_now n e h = search (arith, listed_left, parent_with)

  pub unlisted_now : (n : ℕ) → naming_of c n ≡ None → node_at nodes' n ≡ option_map (with_judged (bytes_now c n) (guard_now c n)) (cond (is_among n c.bundle.holds) None (node_at nodes n))
  unlisted_now n h = s.each n ∙ ap (λ o. option_map (with_judged (bytes_now c n) (guard_now c n)) (node_left c n o (node_at nodes n))) h

  pub held_gone : (n : ℕ) → naming_of c n ≡ None → In n c.bundle.holds → node_at nodes' n ≡ None
  held_gone n h i =
      unlisted_now n h ∙ ap (λ b. option_map (with_judged (bytes_now c n) (guard_now c n)) (cond b None (node_at nodes n))) (In-is_among n c.bundle.holds i)

  pub left_now : (n : ℕ) (x : Node) → naming_of c n ≡ None → is_among n c.bundle.holds ≡ false → node_at nodes n ≡ Some x → (y : Node) × (node_at nodes' n ≡ Some y) × (y.parent ≡ x.parent)
  left_now n x h free t = search (arith, unlisted_now, parent_with)

  -- where nothing lists it and it is there, it was
  pub was_there : (n : ℕ) (y : Node) → naming_of c n ≡ None → node_at nodes' n ≡ Some y → (x : Node) × (node_at nodes n ≡ Some x) × (y.parent ≡ x.parent)
  was_there n y h t = search (arith, unlisted_now, parent_with)

  -- ---- whose an entry is

  owning_parts : (list_all (entry_is_own c) (judged_entries c)) ≡ true
  owning_parts = search (arith, and_parts)

  pub own : (n : ℕ) (e : Naming) → naming_of c n ≡ Some e → (is_kept c (met_of e) ≡ true) ⊎ (In n c.bundle.holds ⊎ In n c.bundle.numbers)
  unfolding met_of
  own n e h =
      let i = naming_is c n e h in
      let o : entry_is_own c (met_of e) ≡ true = list_all-In (entry_is_own c) (met_of e) (judged_entries c) owning_parts i.met in
      search (arith, or_cases, met_of, is_among-In)

  pub new_dead : (n : ℕ) (r : Row) → row_in c.rows n ≡ Some r → In n c.bundle.numbers → ⊥
  new_dead n r e i = let wrong : None ≡ Some r = sym (a.new n i) ∙ e in cc

  -- ---- no recorded child is lost

  -- a kept child is listed so
  kept_listed : (n : ℕ) (e : Naming) → naming_of c n ≡ Some e → is_kept c (met_of e) ≡ true → is_listed_kept (listing c) n ≡ true
  unfolding met_of
  kept_listed n e h k =
      let i = naming_is c n e h in
      kept_by c (met_of e) n i.met i.number k

  file_judged : (p : ℕ) → has_file (listing c) p ≡ true → is_among p (numbers (judged_files c)) ≡ true
  file_judged p y = search (arith, has_file_at, In-is_among, In-map)

  child_stays : (n : ℕ) (r : Row) → row_in c.rows n ≡ Some r → has_file (listing c) r.parent ≡ true → (is_among n (listing c).held ≡ false) → is_listed_kept (listing c) n ≡ true
  child_stays n r e f free = by (naming_of c n) refl
    where
      not_held : In n c.bundle.holds → ⊥
      not_held i = false≢true (sym free ∙ In-is_among n (listing c).held (held_to c n i))

      by : (o : Option Naming) → naming_of c n ≡ o → is_listed_kept (listing c) n ≡ true
      by (Some x) h =
          elim (own n x h) [
            | inl k ↦ kept_listed n x h k
            | inr (inl i) ↦ absurd (not_held i)
            | inr (inr i) ↦ absurd (new_dead n r e i)
          ]
      by None h =
          let x = row_node n r e in
          let y = left_now n x.0 h (false_from_ne_true (is_among n c.bundle.holds) (λ t. not_held (is_among-In n c.bundle.holds t))) x.1 in
          let j : is_among y.0.parent (numbers (judged_files c)) ≡ true = ap (λ p. is_among p (numbers (judged_files c))) (y.2 ∙ sym x.2) ∙ file_judged r.parent f in
          let there : is_some (naming_of c n) ≡ true = s.whole n y.0 y.1 j in
          absurd (false≢true (ap is_some (sym h) ∙ there))

  stays : (n : ℕ) (o : Option Row) → row_in c.rows n ≡ o → stays_listed (listing c) n o ≡ true
  stays n o e = search (arith, cases_Bool, or_left, not_from_false, or_right, child_stays)

  children_kept : keeps_children (listing c) c.rows ≡ true
  children_kept = up_to_from (λ n. stays_listed (listing c) n (row_in c.rows n)) (length c.rows) (λ n low high. stays n (row_in c.rows n) refl)

  -- ---- no held file is dropped over its children

  is_there : (n : ℕ) (e : Naming) → naming_of c n ≡ Some e → is_listed (listing c) n ≡ true
  unfolding met_of
  is_there n e h =
      let i = naming_is c n e h in
      is_listed_by c (met_of e) n i.met i.number

  pub kept_parent : (m : ℕ) (e : Naming) (r : Row) → naming_of c m ≡ Some e → row_in c.rows m ≡ Some r → is_kept c (met_of e) ≡ true → r.parent ≡ e.directory
  unfolding met_of
  kept_parent m e r h t k =
      let i = naming_is c m e h in
      let q = place_parts e.directory e.listed.page e.listed.slot (row_in c.rows e.listed.entry.ino) k in
      let same : q.0 ≡ r = some_one (row_in c.rows m) q.0 r (ap (row_in c.rows) (sym i.number) ∙ q.1) t in
      ap (λ (z : Row). z.parent) (sym same) ∙ q.2

  -- whatever lies in a directory that is gone
  lies_nowhere : (n m : ℕ) (y : Node) → (n ≡ 0 → ⊥) → node_at nodes' n ≡ None → node_at nodes' m ≡ Some y → y.parent ≡ n → ⊥
  lies_nowhere n m y high gone there p = search (arith, cases_eq)

  no_child : (n m : ℕ) (r : Row) → In n c.bundle.holds → naming_of c n ≡ None → row_in c.rows m ≡ Some r → r.parent ≡ n → ⊥
  no_child n m r i h t p = by (naming_of c m) refl
    where
      high : n ≡ 0 → ⊥
      high = live_above n (a.held n i)

      gone : node_at nodes' n ≡ None
      gone = held_gone n h i

      held_too : In m c.bundle.holds → ⊥
      held_too j = a.apart n i (subst (λ k. In k (written_numbers c)) p (a.closed m r j t))

      by : (o : Option Naming) → naming_of c m ≡ o → ⊥
      by (Some e) g =
          let y = listed_now m e g in
          elim (own m e g) [
            | inl k ↦ lies_nowhere n m y.0 high gone y.1 (y.2 ∙ sym (kept_parent m e r g t k) ∙ p)
            | inr (inl j) ↦ held_too j
            | inr (inr j) ↦ new_dead m r t j
          ]
      by None g =
          let x = row_node m r t in
          let y = left_now m x.0 g (false_from_ne_true (is_among m c.bundle.holds) (λ w. held_too (is_among-In m c.bundle.holds w))) x.1 in
          lies_nowhere n m y.0 high gone y.1 (y.2 ∙ sym x.2 ∙ p)

  child_row : (n : ℕ) (o : Option Row) → is_child n o ≡ true → (r : Row) × (o ≡ Some r) × (r.parent ≡ n)
  child_row n None e = absurd (false≢true e)
  child_row n (Some r) e = (r, refl, eqb-true r.parent n e)

  held_left : (n : ℕ) → In n c.bundle.holds → leaves_none (listing c) c.rows n ≡ true
  held_left n i = by (naming_of c n) refl
    where
      by : (o : Option Naming) → naming_of c n ≡ o → leaves_none (listing c) c.rows n ≡ true
      by o h = search (arith, or_left, is_there, or_right, not_from_false, false_from_ne_true, list_any-In, child_row, in_rows, no_child)

  none_dropped : list_all (leaves_none (listing c) c.rows) (listing c).held ≡ true
  none_dropped = list_all-each (leaves_none (listing c) c.rows) (listing c).held (λ n i. held_left n (held_from c n i))

  -- ---- no directory is moved below itself

  parent_now : (n : ℕ) (y : Node) → node_at nodes' n ≡ Some y → (n ≡ 1 → ⊥) → proposed_parent (listing c) c.rows n ≡ y.parent
  parent_now n y t d = search (arith, listed_now, parent_listed, was_there, node_row, parent_unlisted)

  inside_now : length c.rows ≡ c.inodes + 1 → (n : ℕ) (y : Node) → node_at nodes' n ≡ Some y → n < length c.rows
  inside_now many n y t = by (naming_of c n) refl
    where
      by : (o : Option Naming) → naming_of c n ≡ o → n < length c.rows
      by (Some e) h =
          let i = naming_is c n e h in
          let l : e.listed.entry.ino < c.inodes + 1 = listed_within (bundle_core c) i.judged_by i.file e.listed i.read i.entry in
          let number = i.number in
          omega (arith, l, number, many)
      by None h =
          let x = was_there n y h t in
          let r = node_row n x.0 x.1 in row_there c.rows n (ap is_some r.1)

  held_below_root : (n : ℕ) → In n c.bundle.holds → n ≡ 1 → ⊥
  held_below_root n i e = search (arith, some_of, row_node, live_above)

  moved_climbs : length c.rows ≡ c.inodes + 1 → (e : ListedEntry) → In e (listing c).entries → In e.ino c.bundle.holds
      → climbs_clear (proposed_parent (listing c) c.rows) e.ino (length c.rows) (proposed_parent (listing c) c.rows e.ino) ≡ true
  moved_climbs many e i held =
      let parent : ℕ → ℕ = proposed_parent (listing c) c.rows in
      let w = listed_naming c e i in
      let y = listed_now e.ino w.0 w.1 in
      let way = way_of nodes' tree' e.ino y.0 y.1 in
      let short : length way.0 < length c.rows = way_short nodes' tree' (length c.rows) (inside_now many) e.ino way.0 way.1 in
      let climb : climbs parent (length way.0) e.ino ≡ true = way_climbs nodes' tree' parent parent_now e.ino way.0 way.1 in
      let more : length way.0 ≤ length c.rows = omega (arith, short) in
      climbs_past parent e.ino (length c.rows) (held_below_root e.ino held) (climbs_more parent (length way.0) (length c.rows) e.ino more climb)

  all_come : length c.rows ≡ c.inodes + 1 → list_all (comes_to_root (listing c) c.rows) (listing c).entries ≡ true
  all_come many = list_all-each (comes_to_root (listing c) c.rows) (listing c).entries (λ e i. by e i (is_moved (listing c) c.rows e) refl)
    where
      by : (e : ListedEntry) → In e (listing c).entries → (b : Bool) → is_moved (listing c) c.rows e ≡ b → comes_to_root (listing c) c.rows e ≡ true
      by e i false m = or_left (not (is_moved (listing c) c.rows e)) _ (not_from_false (is_moved (listing c) c.rows e) m)
      by e i true m =
          let p = and_parts (is_among e.ino (listing c).held && not e.kept) _ m in
          let q = and_parts (is_among e.ino (listing c).held) (not e.kept) p.0 in
          or_right (not (is_moved (listing c) c.rows e)) _
          (moved_climbs many e i (held_from c e.ino (is_among-In e.ino (listing c).held q.0)))

  pub edges_met : length c.rows ≡ c.inodes + 1 → meets_edges (listing c) c.rows ≡ true
  edges_met many = search (arith, and_from, children_kept, none_dropped, all_come)

pub edges_follow : EdgesFollow
edges_follow c nodes nodes' tree tree' a s many = edges_met c nodes nodes' tree tree' a s many
