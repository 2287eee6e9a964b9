-- A file is made in an empty slot: the nodes that are shown have it.
use Rattle.trio_edit_laws.proofs.Words.{◌∙◌, ◌∷◌, ◌≡◌, Body, Case, Core, DeskSeen, Directory, EntryPart, FileRead, In, InHand, IsInOrder, IsTree, Kind, List, Listed, Naming, Nodes, None, Ok, Option, Regular, Row, SlotWrite, Some, [], ap, block_count, body_after, body_before, body_of, bundle_core, bundle_of, bytes_now, case_with, chain_within, entries_within, entry_in_grammar, entry_is_own, entry_keeps_rights, file_within, held_by, index_count, inl, inr, is_kept, is_some, listed_at, made_by, map, named_alike, naming_after, naming_of, node_listed, option_map, or_right, refl, slot_after, slot_before, subst, sym, true, with_bytes, with_node-else, with_node-same, within_to, Link}
use Rattle.trio_edit_laws.specs.session.SlotEdits.{AfterFill, FillShows, IsFill, filled}
use Rattle.trio_edit_laws.proofs.session.Judged.{IsShown, judged_data, data_unnamed, no_node}
use Rattle.trio_edit_laws.proofs.session.NamedAnew.{IsBare, met_at}
use Rattle.trio_edit_laws.proofs.session.SlotWrites.{IsFreeElse, IsRelisting, IsSuited, after_is, anew, becomes, had_in, has_in, view}
use Rattle.trio_edit_laws.proofs.session.SlotCases.{in_none, in_one, listed_empty, listed_entry, named_so, new_keeps, new_own, not_none, one_in, only, reads_empty, reads_entry}

module _ (desk : DeskSeen) (h h' : InHand) (w : SlotWrite) (e : EntryPart) (body : Body) (o : IsInOrder desk h) (p : IsFill desk h h' w e body) where
  abbrev N : Naming
  N = naming_after w e

  had : had_in desk w ≡ []
  had = listed_empty w.page w.slot (body_before w) (slot_before desk w) p.before

  has : has_in desk w ≡ (naming_after w e).listed ∷ []
  has = listed_entry w.page w.slot (body_after w) (slot_after desk w) e p.after

  fill_relists : IsRelisting desk h (w ∷ []) e.ino (Some (naming_after w e))
  fill_relists = record {
    before = only w (λ x. listed_at x.page x.slot (body_before x) (slot_before desk x) ≡ Ok (had_in desk x)) (reads_empty w.page w.slot (body_before w) (slot_before desk w) p.before);
    after = only w (λ x. listed_at x.page x.slot (body_after x) (slot_after desk x) ≡ Ok (has_in desk x)) (reads_entry w.page w.slot (body_after w) (slot_after desk w) e p.after);
    number = named_so N (λ x. x.listed.entry.ino ≡ e.ino) refl;
    had = λ x l i j. only w (λ x. In l (had_in desk x) → l.entry.ino ≡ e.ino) (λ k. absurd (in_none l (had_in desk w) had k)) x i j;
    has = λ x l i j. only w (λ x. In l (has_in desk x) → Some N ≡ Some (record { directory = x.directory.ino; listed = l })) (λ k. ap (λ z. Some (record { directory = w.directory.ino; listed = z })) (sym (in_one N.listed l (has_in desk w) has k))) x i j;
    come = named_so N (λ x. (z : SlotWrite) × In z (w ∷ []) × (z.directory.ino ≡ x.directory) × In x.listed (has_in desk z)) (w, inl refl, refl, one_in N.listed (has_in desk w) has);
    free = λ x l i j. only w (λ x. In l (has_in desk x) → IsFreeElse x e.ino l.entry.name) (λ k. subst (λ (z : Listed). IsFreeElse w e.ino z.entry.name) (sym (in_one N.listed l (has_in desk w) has k)) (λ y i d. p.name y i)) x i j;
    was = inl p.unnamed;
  }

  module _ (nodes nodes' : Nodes) (rows : List (Option Row)) (v : IsShown (case_with desk.sizes desk.creds rows (bundle_of h.parcel) (map held_by h.parcel.holds)) nodes nodes') where
    abbrev c : Case
    c = case_with desk.sizes desk.creds rows (bundle_of h.parcel) (map held_by h.parcel.holds)

    abbrev core2 : Core
    core2 = bundle_core (case_with desk.sizes desk.creds rows (bundle_of h'.parcel) (map held_by h.parcel.holds))

    unnamed : naming_of c e.ino ≡ None
    unnamed = sym (named_alike desk.sizes desk.creds rows [] (bundle_of h.parcel) (map held_by h.parcel.holds) e.ino) ∙ p.unnamed

    empty_file : FileRead
    empty_file = record { body = body; chain = record { index = []; blocks = [] }; entries = [] }

    reads : file_within core2 (met_at N) ≡ Ok empty_file
    unfolding empty_file
    reads =
        within_to core2 (met_at N) (record { body = body; chain = record { index = []; blocks = [] }; entries = [] }) (record {
          body = p.body_is;
          chain = ap (λ s. chain_within core2 (index_count (block_count s)) (block_count s) body.head) p.empty;
          entries = by e.kind;
        })
      where
        by : (k : Kind) → entries_within core2 k [] ≡ Ok []
        by Regular = refl
        by Directory = refl
        by Link = refl

    fill_suits : IsTree (filled w e nodes') → IsSuited desk h h' (w ∷ []) o p.writes rows nodes nodes' v e.ino (Some (naming_after w e)) fill_relists (filled w e nodes')
    unfolding empty_file
    fill_suits tree = record {
      file = λ x t new. inr (named_so N (λ x. IsBare desk.sizes desk.creds rows (bundle_of h.parcel) (bundle_of h'.parcel).writes (bundle_of h'.parcel).pages (map held_by h.parcel.holds) e.ino (Some (naming_after w e)) x)
          (record { unnamed = unnamed; file = empty_file; read = reads; empty = (refl, refl, refl); uid = p.uid; gid = p.gid }) x t);
      grammar = named_so N (λ x. entry_in_grammar c (met_at x) ≡ true) (or_right (is_kept c (met_at N)) (is_some (body_of e.kind desk.sizes.range (body_after w))) (ap is_some p.body_is));
      own = named_so N (λ x. entry_is_own c (met_at x) ≡ true) (new_own v (met_at N) p.made);
      rights = named_so N (λ x. entry_keeps_rights c (met_at x) ≡ true) (new_keeps v (met_at N) p.made);
      here =
          with_node-same nodes' e.ino (Some (made_by N))
          ∙ ap (λ q. option_map q (node_listed N None)) (sym (data_unnamed v e.ino p.made unnamed))
          ∙ ap (λ q. option_map (judged_data c e.ino) (node_listed N q)) (sym (no_node v e.ino p.made));
      there = λ m d. with_node-else nodes' e.ino m (Some (made_by N)) d;
      none = λ t. absurd (not_none N t);
      tree = tree;
    }

pub fill_shows : FillShows
fill_shows desk h h' w e body o p keeps =
    becomes desk h h' (w ∷ []) o p.writes e.ino (Some (naming_after w e)) (fill_relists desk h h' w e body o p) (filled w e)
    (λ nodes nodes' rows may tree. fill_suits desk h h' w e body o p nodes nodes' rows (view desk h h' (w ∷ []) o p.writes nodes nodes' rows may) tree) keeps

pub after_fill : AfterFill
after_fill desk h h' w e body nodes nodes' rows p q tree =
    let k = fill_relists desk h h' w e body q.order p in
    let v = view desk h h' (w ∷ []) q.order p.writes nodes nodes' rows q.shows in
    after_is desk h h' (w ∷ []) q.order p.writes e.ino (Some (naming_after w e)) k nodes nodes' (filled w e nodes') rows v
    (anew desk h h' (w ∷ []) q.order p.writes rows nodes nodes' v e.ino (Some (naming_after w e)) k (filled w e nodes') (fill_suits desk h h' w e body q.order p nodes nodes' rows v tree))
