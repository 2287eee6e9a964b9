-- Calls make nodes at no number behind the last one, where what they make gets none.
use Rattle.trio_onetree.proofs.Words.{◌<◌, ◌∙◌, ◌∷◌, ◌≡◌, ◌⊎◌, Bool, Call, Chmod, Create, Creds, Guard, IsTree, List, ListNames, MadeFits, MatchBool, Mkdir, Nodes, None, Path, Read, Readlink, Rename, Rmdir, Some, Stat, Symlink, Truncate, Unlink, Write, [], ap, call_nodes, changed_node, changed_number, inl, inr, is_done, length, node_at, only_looks, path_found, refl, subst, sym, true, ℕ}
use Rattle.std.proofs.Common.{◌&&◌}
use Rattle.std.proofs.lemmas.List.{length-set}
use Rattle.std.proofs.lemmas.Bool.{cases_Bool}
use Rattle.trio_lists.specs.Lists.{In}
use Rattle.trio_nodes.specs.declared.call.Done.{Done}
use Rattle.trio_nodes.specs.Apply.{Apply, makes_file}
use Rattle.trio_nodes.specs.After.{batch_nodes}
use Rattle.trio_nodes.specs.Legal.{LegalCalls}
use Rattle.trio_nodes.proofs.NodeFacts.{node_at-within, with_node-set}
use Rattle.trio_onetree.proofs.Changes.{call_changes_one}
use Rattle.trio_onetree.proofs.Children.{found_live, path_found-is}
use Rattle.trio_onetree.proofs.TreeStays.{tree_stays}

-- the number of a file that a call makes is one of those that there are
abbrev pub IsNumbered : Nodes → Done → Type 0
IsNumbered nodes d = (d.made ≡ 0) ⊎ (d.made < length nodes)

module _ (nodes : Nodes) (tree : IsTree nodes) where
  found_within : (path : Path) (n : ℕ) → path_found nodes path ≡ Some n → n < length nodes
  found_within path n e =
      let x = found_live nodes tree path n (sym (path_found-is nodes tree path) ∙ e) in node_at-within nodes n x.0 x.1

  made_within : (d : Done) → makes_file d.call ≡ true → is_done d.reply ≡ true → MadeFits nodes d → IsNumbered nodes d → d.made < length nodes
  made_within d makes done fits (inr below) = below
  made_within d makes done fits (inl zero') =
      let F : Bool → Bool → Type 0 = λ a b. MatchBool (a && b) ((node_at nodes d.made ≡ None) × (d.made ≡ 0 → ⊥)) (d.made ≡ 0) in
      absurd ((subst (λ b. F true b) done (subst (λ a. F a (is_done d.reply)) makes fits)).1 zero')

  changed_within : (call : Call) (d : Done) (n : ℕ) → d.call ≡ call → is_done d.reply ≡ true → MadeFits nodes d → IsNumbered nodes d → changed_number nodes call d.made ≡ Some n → n < length nodes
  changed_within (Mkdir path mode) d n is done fits numbered e = (let same : d.made ≡ n = cc e in subst (λ k. k < length nodes) same (made_within d (ap makes_file is) done fits numbered))
  changed_within (Create path mode) d n is done fits numbered e = (let same : d.made ≡ n = cc e in subst (λ k. k < length nodes) same (made_within d (ap makes_file is) done fits numbered))
  changed_within (Write path at bytes) d n is done fits numbered e = found_within path n e
  changed_within (Read path at len) d n is done fits numbered e = absurd cc
  changed_within (Truncate path size) d n is done fits numbered e = found_within path n e
  changed_within (Unlink path) d n is done fits numbered e = found_within path n e
  changed_within (Rmdir path) d n is done fits numbered e = found_within path n e
  changed_within (Rename from to) d n is done fits numbered e = found_within from n e
  changed_within (ListNames path from) d n is done fits numbered e = absurd cc
  changed_within (Stat path) d n is done fits numbered e = absurd cc
  changed_within (Chmod path mode) d n is done fits numbered e = found_within path n e
  changed_within (Symlink path text) d n is done fits numbered e = (let same : d.made ≡ n = cc e in subst (λ k. k < length nodes) same (made_within d (ap makes_file is) done fits numbered))
  changed_within (Readlink path) d n is done fits numbered e = absurd cc
  changed_within (Guard path on) d n is done fits numbered e = found_within path n e

  -- a call leaves as many places as there were
  call_length : (creds : Creds) (d : Done) (nodes' : Nodes) → Apply nodes creds d.call d.made d.reply nodes' → MadeFits nodes d → IsNumbered nodes d → length nodes' ≡ length nodes
  call_length creds d nodes' apply fits numbered =
      let c = call_changes_one nodes creds d.call d.made d.reply nodes' apply in
      elim (cases_Bool (is_done d.reply)) [
        | inr undone ↦ ap length (c.refused undone)
        | inl done ↦
            elim (cases_Bool (only_looks d.call)) [
              | inl looks ↦ ap length (c.looks looks)
              | inr changes ↦
                  let w = c.done done changes in
                  let v = changed_node nodes creds d.call (node_at nodes w.0) in
                  ap length (w.2 ∙ with_node-set nodes w.0 v (changed_within d.call d w.0 refl done fits numbered w.1)) ∙ length-set nodes w.0 v
            ]
      ]

-- so do calls that the tree does one after another
pub batch_length : (nodes : Nodes) (creds : Creds) (calls : List Done) → IsTree nodes → LegalCalls creds nodes calls → ((d : Done) → In d calls → IsNumbered nodes d) → length (batch_nodes creds calls nodes) ≡ length nodes
batch_length nodes creds [] tree legal numbered = refl
batch_length nodes creds (d ∷ ds) tree legal numbered =
    let next : Nodes = call_nodes creds nodes d in
    let long : length next ≡ length nodes = call_length nodes tree creds d next legal.0 legal.1 (numbered d (inl refl)) in
    batch_length next creds ds (tree_stays nodes creds d next tree legal.0 legal.1) legal.2
    (λ e i. elim (numbered e (inr i)) [ inl zero' ↦ inl zero' | inr below ↦ inr (subst (λ k. e.made < k) (sym long) below) ])
    ∙ long
