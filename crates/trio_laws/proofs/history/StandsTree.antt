-- A state stands for a tree.
use Rattle.trio_laws.proofs.Words.{◌++◌, ◌∙◌, ◌∷◌, ◌≡◌, Bool, Core, Directory, FileRead, Image, In, In-left, In-list_any, In-right, IsDirectory, IsTree, Kept, Kind, List, Listed, Location, Met, Node, None, Ok, Ok-one, Option, Reaches, Row, Some, State, [], ap, arith, both_ways, bytes_eq-Decides, cases_eq, child_from, cond, entries_of_kind, false, file_of, has_name, inl, inr, met_numbered, name_of, node_at, node_by, node_of, nodes_of, one_met, one_node, place_of, plain, reached_met, read_met, reads_from, refl, repeated_name, result_then-Ok, root_is_met, root_of, row_at, row_at_is, row_by, row_met, settled, subst, suc, survey, survey_reached, sym, true, unless_repeated, writer_of, zero, ℕ}
use Rattle.trio_onetree.proofs.Children.{Names}
use Rattle.trio_onetree.proofs.TreePut.{Found, found_at, found_child}
use Rattle.trio_laws.specs.history.HistoryLaws.{StatesAreTrees}
use Rattle.trio_laws.proofs.history.Facts.{Live, live, node_is}
use Rattle.trio_laws.proofs.history.Listing.{Listing, listing, met_at, name_listed, tables_of}

-- ---- names in a directory

free_step : (b : Bool) (place : Location) (rest : Option Location) → cond b (Some place) rest ≡ None → (b ≡ false) × (rest ≡ None)
free_step true place rest e = absurd cc
free_step false place rest e = (refl, e)

-- where no name comes again, no entry has the name of one that was seen
not_seen : (seen ls : List Listed) (l x : Listed) → repeated_name seen ls ≡ None → In l ls → In x seen → x.entry.name ≡ l.entry.name → ⊥
not_seen seen [] l x h i j e = absurd i
not_seen seen (y ∷ ls) l x h (inl same) j e = search (arith, free_step, both_ways, In-list_any, bytes_eq-Decides, In-left)
not_seen seen (y ∷ ls) l x h (inr i) j e =
    let f = free_step (has_name y.entry.name seen) (place_of y) (repeated_name (seen ++ y ∷ []) ls) h in
    not_seen (seen ++ y ∷ []) ls l x f.1 i (In-left x seen (y ∷ []) j) e

apart : (seen ls : List Listed) (l m : Listed) → repeated_name seen ls ≡ None → In l ls → In m ls → l.entry.name ≡ m.entry.name → l ≡ m
apart seen [] l m h i j e = absurd i
apart seen (y ∷ ls) l m h (inl a) (inl b) e = a ∙ sym b
apart seen (y ∷ ls) l m h (inl a) (inr j) e =
    let f = free_step (has_name y.entry.name seen) (place_of y) (repeated_name (seen ++ y ∷ []) ls) h in
    absurd (not_seen (seen ++ y ∷ []) ls m y f.1 j (In-right y seen (y ∷ []) (inl refl)) (ap (λ (z : Listed). z.entry.name) (sym a) ∙ e))
apart seen (y ∷ ls) l m h (inr i) (inl b) e =
    let f = free_step (has_name y.entry.name seen) (place_of y) (repeated_name (seen ++ y ∷ []) ls) h in
    absurd (not_seen (seen ++ y ∷ []) ls l y f.1 i (In-right y seen (y ∷ []) (inl refl)) (ap (λ (z : Listed). z.entry.name) (sym b) ∙ sym e))
apart seen (y ∷ ls) l m h (inr i) (inr j) e =
    let f = free_step (has_name y.entry.name seen) (place_of y) (repeated_name (seen ++ y ∷ []) ls) h in
    apart (seen ++ y ∷ []) ls l m f.1 i j e

unless_none : (ls es : List Listed) (o : Option Location) → repeated_name [] ls ≡ o → unless_repeated ls o ≡ Ok es → repeated_name [] es ≡ None
unless_none ls es None h e = (let same : ls ≡ es = cc e in ap (repeated_name []) (sym same) ∙ h)
unless_none ls es (Some place) h e = absurd cc

entries_apart : (core : Core) (kind : Kind) (blocks : List ℕ) (es : List Listed) → entries_of_kind core kind blocks ≡ Ok es → repeated_name [] es ≡ None
entries_apart core kind blocks es e = search (arith, result_then-Ok, unless_none)

-- ---- the nodes

module _ (s : State) (k : Kept s) where
  abbrev image : Image
  image = settled s

  abbrev core : Core
  core = image.core

  -- the node of a file that is met
  met_node : (m : Met) → In m (survey core plain) → (r : Row) × (node_at (nodes_of s) m.ino ≡ Some (node_of image m.ino (writer_of s m.ino) r)) × (r.kind ≡ m.kind) × (r.parent ≡ m.parent)
  met_node m i =
      let f = read_met core plain k.fit k.verifies.sound m i in
      let row : row_at s.home m.ino ≡ Some (row_by m f.0.body) = row_at_is core plain k.fit k.verifies.sound image (tables_of image k.fit k.verifies) m.ino ∙ row_met core plain k.fit k.verifies.sound m f.0 i f.1 in
      (row_by m f.0.body, node_is s k m.ino ∙ ap (node_by image m.ino (writer_of s m.ino)) row, refl, refl)

  root : (x : Node) × (node_at (nodes_of s) 1 ≡ Some x) × (x.kind ≡ Directory) × (x.parent ≡ 0)
  root =
      let r = met_node (root_of core) (root_is_met core plain k.fit k.verifies.sound) in
      (node_of image 1 (writer_of s 1) r.0, r.1, r.2, r.3)

  none : node_at (nodes_of s) 0 ≡ None
  none = by (row_at s.home 0) refl
    where
      by : (o : Option Row) → row_at s.home 0 ≡ o → node_at (nodes_of s) 0 ≡ None
      by None row = node_is s k 0 ∙ ap (node_by image 0 (writer_of s 0)) row
      by (Some r) row =
          let m = met_at image k.fit k.verifies 0 r row in
          let low = (met_numbered core plain k.fit k.verifies.sound m.met m.stands).0 in
          let number = m.number in absurd (omega (arith, low, number))

  -- the directory of a file that isn't the root
  directory_of : (n : ℕ) (x : Node) (l : Live s n x) (q : Listing core n l.row) → IsDirectory (node_at (nodes_of s) x.parent)
  directory_of n x l q = search (arith, met_node)

  parents : (n : ℕ) (x : Node) → node_at (nodes_of s) n ≡ Some x → (n ≡ 1 → ⊥) → IsDirectory (node_at (nodes_of s) x.parent)
  parents n x at other = (let l = live s k n x at in directory_of n x l (listing image k.fit k.verifies n l.row l.at other))

  -- nothing else has the root's directory
  no_sibling : (n : ℕ) (x : Node) → node_at (nodes_of s) n ≡ Some x → (n ≡ 1 → ⊥) → x.parent ≡ 0 → ⊥
  no_sibling n x at other high = search (arith, none, parents)

  root_parent : (n : ℕ) (x : Node) → node_at (nodes_of s) n ≡ Some x → n ≡ 1 → x.parent ≡ 0
  root_parent n x at one = ap (λ (z : Node). z.parent) (one_node (node_at (nodes_of s) 1) x root.0 (ap (node_at (nodes_of s)) (sym one) ∙ at) root.1) ∙ root.3

  names : Names (nodes_of s)
  names n m x y at bt parent name =
      elim (cases_eq n 1) [
        | inl first ↦ search (arith, cases_eq, no_sibling, root_parent)
        | inr other ↦
            elim (cases_eq m 1) [
              | inl second ↦ absurd (no_sibling n x at other (parent ∙ root_parent m y bt second))
              | inr another ↦
                  let l = live s k n x at in
                  let j = live s k m y bt in
                  let p = listing image k.fit k.verifies n l.row l.at other in
                  let q = listing image k.fit k.verifies m j.row j.at another in
                  let dir : p.parent.ino ≡ q.parent.ino = sym p.above ∙ ap (λ (z : Node). z.parent) (sym l.before) ∙ parent ∙ ap (λ (z : Node). z.parent) j.before ∙ q.above in
                  let met : p.parent ≡ q.parent = one_met core plain k.fit k.verifies.sound p.parent q.parent p.met q.met dir in
                  let file : p.file ≡ q.file = Ok-one (file_of core p.parent) p.file q.file p.read (ap (file_of core) met ∙ q.read) in
                  let listed : In q.entry p.file.entries = subst (λ (f : FileRead). In q.entry f.entries) (sym file) q.listed in
                  let one : p.entry.entry.name ≡ q.entry.entry.name =
                  sym (name_listed image k.fit k.verifies n l.row p other) ∙ ap (λ (z : Node). z.name) (sym l.before) ∙ name ∙ ap (λ (z : Node). z.name) j.before ∙ name_listed image k.fit k.verifies m j.row q another in
                  let same : p.entry ≡ q.entry = apart [] p.file.entries p.entry q.entry (entries_apart core p.parent.kind p.file.chain.blocks p.file.entries (reads_from core p.parent p.file p.read).entries) p.listed listed one in
                  sym p.number ∙ ap (λ (z : Listed). z.entry.ino) same ∙ q.number
            ]
      ]

  -- each file that is reached from the root is found by names
  reach : (steps : ℕ) (m : Met) → Reaches core plain steps m → Found (nodes_of s) m.ino
  reach zero m e = ([], ap (λ (z : Met). Some z.ino) (sym e))
  reach (suc steps) m d =
      let c = child_from core plain d.0 m d.2 in
      let there = met_node m (reached_met core plain k.fit.numbers k.verifies.sound (suc steps) m d) in
      let parent : there.0.parent ≡ d.0.ino = there.3 ∙ ap (λ (z : Met). z.parent) c.is in
      found_child (nodes_of s) names d.0.ino m.ino (name_of image m.ino there.0) (reach steps d.0 d.1)
      (record { node = node_of image m.ino (writer_of s m.ino) there.0; at = there.1; parent = parent; name = refl })

  found : (n : ℕ) (x : Node) → node_at (nodes_of s) n ≡ Some x → Found (nodes_of s) n
  found n x at =
      let l = live s k n x at in
      let m = met_at image k.fit k.verifies n l.row l.at in
      let way = survey_reached core plain m.met m.stands in
      subst (Found (nodes_of s)) m.number (reach way.0 m.met way.2)

  stands_tree : IsTree (nodes_of s)
  stands_tree = search (arith, root, none, parents, names, found, found_at)

pub states_are_trees : StatesAreTrees
states_are_trees s k = stands_tree s k
