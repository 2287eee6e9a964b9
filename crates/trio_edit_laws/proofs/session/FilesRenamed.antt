-- The entry in a slot gets another name: of the nodes that are shown the file has it.
use Rattle.trio_edit_laws.proofs.Words.{◌∙◌, ◌∷◌, ◌≡◌, Case, Core, DeskSeen, EntryPart, In, InHand, IsInOrder, IsTree, List, Listed, Naming, Node, Nodes, Ok, Option, Row, SlotWrite, Some, [], ap, arith, body_after, body_before, bundle_core, bundle_of, bytes_now, case_with, entry_in_grammar, entry_is_own, entry_keeps_rights, file_within, held_by, inl, inr, judged_entries, listed_at, map, naming_after, naming_of, node_at, node_left, node_listed, option_map, refl, slot_after, slot_before, subst, sym, true, with_bytes, with_node-else, with_node-same, ℕ, Bool, guard_in, guard_now, with_judged, is_directory, placed, made_by, None}
use Rattle.trio_edit_laws.specs.session.SlotEdits.{AfterRetitle, IsRetitle, RetitleShows, renamed, retitled}
use Rattle.trio_edit_laws.proofs.session.Judged.{IsShown, judged_data}
use Rattle.trio_edit_laws.proofs.session.NamedAnew.{IsTaken, met_at}
use Rattle.trio_edit_laws.proofs.session.SlotWrites.{IsFreeElse, IsRelisting, IsSuited, after_is, anew, becomes, had_in, had_judged, had_met, has_in, view}
use Rattle.trio_edit_laws.proofs.session.SlotCases.{grammar_of, in_one, keeps_of, listed_entry, made_same, named_so, naming_before, not_none, one_in, only, own_of, reads_entry, retitled-judged}

module _ (desk : DeskSeen) (h h' : InHand) (w : SlotWrite) (e now : EntryPart) (o : IsInOrder desk h) (p : IsRetitle desk h h' w e now) where
  abbrev O : Naming
  O = naming_before w e

  abbrev N : Naming
  N = naming_after w now

  had : had_in desk w ≡ (naming_before w e).listed ∷ []
  had = listed_entry w.page w.slot (body_before w) (slot_before desk w) e p.before

  has : has_in desk w ≡ (naming_after w now).listed ∷ []
  has = listed_entry w.page w.slot (body_after w) (slot_after desk w) now p.after

  retitle_relists : IsRelisting desk h (w ∷ []) now.ino (Some (naming_after w now))
  retitle_relists = record {
    before = only w (λ x. listed_at x.page x.slot (body_before x) (slot_before desk x) ≡ Ok (had_in desk x)) (reads_entry w.page w.slot (body_before w) (slot_before desk w) e p.before);
    after = only w (λ x. listed_at x.page x.slot (body_after x) (slot_after desk x) ≡ Ok (has_in desk x)) (reads_entry w.page w.slot (body_after w) (slot_after desk w) now p.after);
    number = named_so N (λ x. x.listed.entry.ino ≡ now.ino) refl;
    had = λ x l i j. only w (λ x. In l (had_in desk x) → l.entry.ino ≡ now.ino) (λ k. ap (λ (z : Listed). z.entry.ino) (in_one O.listed l (had_in desk w) had k) ∙ sym p.number) x i j;
    has = λ x l i j. only w (λ x. In l (has_in desk x) → Some N ≡ Some (record { directory = x.directory.ino; listed = l })) (λ k. ap (λ z. Some (record { directory = w.directory.ino; listed = z })) (sym (in_one N.listed l (has_in desk w) has k))) x i j;
    come = named_so N (λ x. (z : SlotWrite) × In z (w ∷ []) × (z.directory.ino ≡ x.directory) × In x.listed (has_in desk z)) (w, inl refl, refl, one_in N.listed (has_in desk w) has);
    free = λ x l i j. only w (λ x. In l (has_in desk x) → IsFreeElse x now.ino l.entry.name) (λ k. subst (λ (z : Listed). IsFreeElse w now.ino z.entry.name) (sym (in_one N.listed l (has_in desk w) has k)) (λ y i d. p.name y i)) x i j;
    was = inr (w, inl refl, O.listed, one_in O.listed (had_in desk w) had);
  }

  -- the entry is the same but for its name
  met_same : met_at N ≡ met_at O
  met_same = search arith

  renames : (q : Option (List ℕ)) (g : Option Bool) (z : Option Node) → option_map (retitled now.name) (option_map (with_judged q g) (node_listed O z)) ≡ option_map (with_judged q g) (node_listed N z)
  renames q g (Some x) = ap Some (retitled-judged now.name q g (placed O x))
  renames q g None =
      ap Some (retitled-judged now.name q g (made_by O))
      ∙ ap (λ (y : Node). Some (with_judged q g y)) (made_same w.directory.ino now.name e.kind now.kind (body_before w) (body_after w) (sym p.kind) (sym p.body))

  module _ (nodes nodes' : Nodes) (rows : List (Option Row)) (v : IsShown (case_with desk.sizes desk.creds rows (bundle_of h.parcel) (map held_by h.parcel.holds)) nodes nodes') where
    abbrev c : Case
    c = case_with desk.sizes desk.creds rows (bundle_of h.parcel) (map held_by h.parcel.holds)

    abbrev core2 : Core
    core2 = bundle_core (case_with desk.sizes desk.creds rows (bundle_of h'.parcel) (map held_by h.parcel.holds))

    listed : In (met_at O) (judged_entries c) × (naming_of c now.ino ≡ Some O)
    listed = had_met desk h h' (w ∷ []) o p.writes rows nodes nodes' v now.ino (Some N) retitle_relists w O.listed (inl refl) (one_in O.listed (had_in desk w) had)

    retitle_suits : IsTree (renamed now nodes') → IsSuited desk h h' (w ∷ []) o p.writes rows nodes nodes' v now.ino (Some (naming_after w now)) retitle_relists (renamed now nodes')
    retitle_suits tree = record {
      file = λ x t new. inl (named_so N (λ x. IsTaken desk.sizes desk.creds rows (bundle_of h.parcel) (bundle_of h'.parcel).writes (bundle_of h'.parcel).pages (map held_by h.parcel.holds) now.ino (Some (naming_after w now)) x)
          (record {
            was = met_at O;
            judged = had_judged desk h h' (w ∷ []) o p.writes rows nodes nodes' v now.ino (Some N) retitle_relists w O.listed (inl refl) (one_in O.listed (had_in desk w) had) new;
            number = sym p.number;
            kind = ap is_directory (sym p.kind);
            guard = ap guard_in (sym p.body);
            reads = ap (file_within core2) met_same;
          }) x t);
      grammar = named_so N (λ x. entry_in_grammar c (met_at x) ≡ true) (ap (entry_in_grammar c) met_same ∙ grammar_of v (met_at O) listed.0);
      own = named_so N (λ x. entry_is_own c (met_at x) ≡ true) (ap (entry_is_own c) met_same ∙ own_of v (met_at O) listed.0);
      rights = named_so N (λ x. entry_keeps_rights c (met_at x) ≡ true) (ap (entry_keeps_rights c) met_same ∙ keeps_of v (met_at O) listed.0);
      here =
          with_node-same nodes' now.ino (option_map (retitled now.name) (node_at nodes' now.ino))
          ∙ ap (option_map (retitled now.name)) (v.shows.each now.ino ∙ ap (λ q. option_map (judged_data c now.ino) (node_left c now.ino q (node_at nodes now.ino))) listed.1)
          ∙ renames (bytes_now c now.ino) (guard_now c now.ino) (node_at nodes now.ino);
      there = λ m d. with_node-else nodes' now.ino m (option_map (retitled now.name) (node_at nodes' now.ino)) d;
      none = λ t. absurd (not_none N t);
      tree = tree;
    }

pub retitle_shows : RetitleShows
retitle_shows desk h h' w e now o p keeps =
    becomes desk h h' (w ∷ []) o p.writes now.ino (Some (naming_after w now)) (retitle_relists desk h h' w e now o p) (renamed now)
    (λ nodes nodes' rows may tree. retitle_suits desk h h' w e now o p nodes nodes' rows (view desk h h' (w ∷ []) o p.writes nodes nodes' rows may) tree) keeps

pub after_retitle : AfterRetitle
after_retitle desk h h' w e now nodes nodes' rows p q tree =
    let k = retitle_relists desk h h' w e now q.order p in
    let v = view desk h h' (w ∷ []) q.order p.writes nodes nodes' rows q.shows in
    after_is desk h h' (w ∷ []) q.order p.writes now.ino (Some (naming_after w now)) k nodes nodes' (renamed now nodes') rows v
    (anew desk h h' (w ∷ []) q.order p.writes rows nodes nodes' v now.ino (Some (naming_after w now)) k (renamed now nodes') (retitle_suits desk h h' w e now q.order p nodes nodes' rows v tree))
