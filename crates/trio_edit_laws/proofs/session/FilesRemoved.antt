-- A slot is emptied: the nodes that are shown lack the file.
use Rattle.trio_edit_laws.proofs.Words.{◌∙◌, ◌∷◌, ◌≡◌, Bool, Case, DeskSeen, EntryPart, In, In-is_among, InHand, IsInOrder, IsTree, List, Listed, Naming, Node, Nodes, None, Ok, Option, Row, SlotWrite, Some, [], ap, arith, body_after, body_before, bundle_of, case_with, cond, false, held_by, inl, inr, is_among, listed_at, map, node_at, node_left, refl, slot_after, slot_before, true, with_node-else, with_node-same}
use Rattle.trio_edit_laws.specs.session.SlotEdits.{AfterClear, ClearShows, IsClear, cleared}
use Rattle.trio_edit_laws.proofs.session.Judged.{IsShown, no_node}
use Rattle.trio_edit_laws.proofs.session.SlotWrites.{IsFreeElse, IsRelisting, IsSuited, after_is, anew, becomes, had_in, has_in, view}
use Rattle.trio_edit_laws.proofs.session.SlotCases.{in_none, in_one, listed_empty, listed_entry, naming_before, none_not, one_in, only, reads_empty, reads_entry}

module _ (desk : DeskSeen) (h h' : InHand) (w : SlotWrite) (e : EntryPart) (o : IsInOrder desk h) (p : IsClear desk h h' w e) where
  abbrev O : Naming
  O = naming_before w e

  had : had_in desk w ≡ (naming_before w e).listed ∷ []
  had = listed_entry w.page w.slot (body_before w) (slot_before desk w) e p.before

  has : has_in desk w ≡ []
  has = listed_empty w.page w.slot (body_after w) (slot_after desk w) p.after

  clear_relists : IsRelisting desk h (w ∷ []) e.ino None
  clear_relists = record {
    before = only w (λ x. listed_at x.page x.slot (body_before x) (slot_before desk x) ≡ Ok (had_in desk x)) (reads_entry w.page w.slot (body_before w) (slot_before desk w) e p.before);
    after = only w (λ x. listed_at x.page x.slot (body_after x) (slot_after desk x) ≡ Ok (has_in desk x)) (reads_empty w.page w.slot (body_after w) (slot_after desk w) p.after);
    number = λ x t. absurd (none_not x t);
    had = λ x l i j. only w (λ x. In l (had_in desk x) → l.entry.ino ≡ e.ino) (λ k. ap (λ (z : Listed). z.entry.ino) (in_one O.listed l (had_in desk w) had k)) x i j;
    has = λ x l i j. only w (λ x. In l (has_in desk x) → ◌≡◌ {A = Option Naming} None (Some (record { directory = x.directory.ino; listed = l }))) (λ k. absurd (in_none l (has_in desk w) has k)) x i j;
    come = λ x t. absurd (none_not x t);
    free = λ x l i j. only w (λ x. In l (has_in desk x) → IsFreeElse x e.ino l.entry.name) (λ k. absurd (in_none l (has_in desk w) has k)) x i j;
    was = inr (w, inl refl, O.listed, one_in O.listed (had_in desk w) had);
  }

  module _ (nodes nodes' : Nodes) (rows : List (Option Row)) (v : IsShown (case_with desk.sizes desk.creds rows (bundle_of h.parcel) (map held_by h.parcel.holds)) nodes nodes') where
    abbrev c : Case
    c = case_with desk.sizes desk.creds rows (bundle_of h.parcel) (map held_by h.parcel.holds)

    gone : node_left c e.ino None (node_at nodes e.ino) ≡ None
    gone =
        elim p.own [
          | inl held ↦ ap (λ t. cond t None (node_at nodes e.ino)) (In-is_among e.ino c.bundle.holds held)
          | inr made ↦ ap (λ z. cond (is_among e.ino c.bundle.holds) None z) (no_node v e.ino made) ∙ by (is_among e.ino c.bundle.holds)
        ]
      where
        by : (t : Bool) → cond {A = Option Node} t None None ≡ None
        by true = refl
        by false = refl

    clear_suits : IsTree (cleared e nodes') → IsSuited desk h h' (w ∷ []) o p.writes rows nodes nodes' v e.ino None clear_relists (cleared e nodes')
    clear_suits tree = search (arith, none_not, with_node-same, gone, with_node-else)

pub clear_shows : ClearShows
clear_shows desk h h' w e o p keeps =
    becomes desk h h' (w ∷ []) o p.writes e.ino None (clear_relists desk h h' w e o p) (cleared e)
    (λ nodes nodes' rows may tree. clear_suits desk h h' w e o p nodes nodes' rows (view desk h h' (w ∷ []) o p.writes nodes nodes' rows may) tree) keeps

pub after_clear : AfterClear
after_clear desk h h' w e nodes nodes' rows p q tree =
    let k = clear_relists desk h h' w e q.order p in
    let v = view desk h h' (w ∷ []) q.order p.writes nodes nodes' rows q.shows in
    after_is desk h h' (w ∷ []) q.order p.writes e.ino None k nodes nodes' (cleared e nodes') rows v
    (anew desk h h' (w ∷ []) q.order p.writes rows nodes nodes' v e.ino None k (cleared e nodes') (clear_suits desk h h' w e q.order p nodes nodes' rows v tree))
