-- The entry in a slot of a file that was made gets another kind: of the nodes that are shown the file has it.
use Rattle.trio_edit_laws.proofs.Words.{◌∙◌, ◌∷◌, ◌≡◌, Body, Case, Core, DeskSeen, EntryPart, FileRead, In, InHand, IsInOrder, IsTree, Kind, List, Listed, Met, Naming, Node, Nodes, None, Ok, Option, Result, Row, SlotWrite, Some, [], ap, body_after, body_at, body_before, body_of, body_stands, bundle_core, bundle_of, bytes_now, case_with, cond, entry_in_grammar, entry_is_own, entry_keeps_rights, false, guard_in, guard_now, held_by, inl, inr, is_directory, is_kept, is_some, judged_entries, listed_at, made_by, map, naming_after, naming_of, node_at, node_left, node_listed, option_map, or_right, page_of, placed, refl, slot_after, slot_before, some_of, subst, sym, true, with_judged, with_node-else, with_node-same, ℕ, Bool}
use Rattle.trio_lists.specs.Lists.{gathered, result_map, result_then, there_or}
use Rattle.trio_layout.specs.Core.{Location, nowhere}
use Rattle.trio_layout.specs.Entries.{with_names_apart}
use Rattle.trio_layout.specs.Within.{chain_of_within, entries_where, file_with_within, file_within}
use Rattle.trio_edit_laws.specs.session.SlotEdits.{AfterRekind, IsRekind, RekindShows, rekinded, turned}
use Rattle.trio_edit_laws.proofs.session.Judged.{IsShown, judged_data, no_node}
use Rattle.trio_edit_laws.proofs.session.NamedAnew.{IsTaken, met_at}
use Rattle.trio_edit_laws.proofs.session.SlotWrites.{IsFreeElse, IsRelisting, IsSuited, after_is, anew, becomes, had_in, had_judged, had_met, has_in, view}
use Rattle.trio_edit_laws.proofs.session.SlotCases.{in_one, listed_entry, made_same, named_so, naming_before, new_body, new_keeps, new_own, not_none, one_in, only, reads_entry, rekinded-judged}

-- what is no directory reads by its body alone, whatever its kind
file_within-plain : (core : Core) (m x : Met) (b : Body) → is_directory m.kind ≡ false → is_directory x.kind ≡ false → body_of m.kind core.range m.body ≡ Some b → body_of x.kind core.range x.body ≡ Some b
    → file_within core m ≡ file_within core x
unfolding file_within
file_within-plain core m x b plain plain' is is' = here m plain is ∙ sym (here x plain' is')
  where
    here : (y : Met) → is_directory y.kind ≡ false → body_of y.kind core.range y.body ≡ Some b
        → result_then (λ z. result_then (file_with_within core y.kind z) (chain_of_within core z)) (there_or nowhere (body_of y.kind core.range y.body))
        ≡ result_then (λ c. result_map (λ es. record { body = b; chain = c; entries = es }) (Ok [])) (chain_of_within core b)
    here y p i =
        ap (λ o. result_then (λ z. result_then (file_with_within core y.kind z) (chain_of_within core z)) (there_or nowhere o)) i
        ∙ ap (λ t. result_then (λ c. result_map (λ es. record { body = b; chain = c; entries = es }) (cond t (result_then with_names_apart (gathered (λ page. entries_where core.inodes page (page_of core page)) c.blocks)) (Ok []))) (chain_of_within core b)) p

module _ (desk : DeskSeen) (h h' : InHand) (w : SlotWrite) (e now : EntryPart) (o : IsInOrder desk h) (p : IsRekind desk h h' w e now) where
  abbrev O : Naming
  O = naming_before w e

  abbrev N : Naming
  N = naming_after w now

  had : had_in desk w ≡ (naming_before w e).listed ∷ []
  had = listed_entry w.page w.slot (body_before w) (slot_before desk w) e p.before

  has : has_in desk w ≡ (naming_after w now).listed ∷ []
  has = listed_entry w.page w.slot (body_after w) (slot_after desk w) now p.after

  rekind_relists : IsRelisting desk h (w ∷ []) now.ino (Some (naming_after w now))
  rekind_relists = record {
    before = only w (λ x. listed_at x.page x.slot (body_before x) (slot_before desk x) ≡ Ok (had_in desk x)) (reads_entry w.page w.slot (body_before w) (slot_before desk w) e p.before);
    after = only w (λ x. listed_at x.page x.slot (body_after x) (slot_after desk x) ≡ Ok (has_in desk x)) (reads_entry w.page w.slot (body_after w) (slot_after desk w) now p.after);
    number = named_so N (λ x. x.listed.entry.ino ≡ now.ino) refl;
    had = λ x l i j. only w (λ x. In l (had_in desk x) → l.entry.ino ≡ now.ino) (λ k. ap (λ (z : Listed). z.entry.ino) (in_one O.listed l (had_in desk w) had k) ∙ sym p.number) x i j;
    has = λ x l i j. only w (λ x. In l (has_in desk x) → Some N ≡ Some (record { directory = x.directory.ino; listed = l })) (λ k. ap (λ z. Some (record { directory = w.directory.ino; listed = z })) (sym (in_one N.listed l (has_in desk w) has k))) x i j;
    come = named_so N (λ x. (z : SlotWrite) × In z (w ∷ []) × (z.directory.ino ≡ x.directory) × In x.listed (has_in desk z)) (w, inl refl, refl, one_in N.listed (has_in desk w) has);
    free = λ x l i j. only w (λ x. In l (has_in desk x) → IsFreeElse x now.ino l.entry.name)
        (λ k. subst (λ (z : Listed). IsFreeElse w now.ino z.entry.name) (sym (in_one N.listed l (has_in desk w) has k)) (λ y iy d. p.alone y iy (λ same. d (same ∙ sym p.number)))) x i j;
    was = inr (w, inl refl, O.listed, one_in O.listed (had_in desk w) had);
  }

  module _ (nodes nodes' : Nodes) (rows : List (Option Row)) (v : IsShown (case_with desk.sizes desk.creds rows (bundle_of h.parcel) (map held_by h.parcel.holds)) nodes nodes') where
    abbrev c : Case
    c = case_with desk.sizes desk.creds rows (bundle_of h.parcel) (map held_by h.parcel.holds)

    abbrev core2 : Core
    core2 = bundle_core (case_with desk.sizes desk.creds rows (bundle_of h'.parcel) (map held_by h.parcel.holds))

    listed : In (met_at O) (judged_entries c) × (naming_of c now.ino ≡ Some O)
    listed = had_met desk h h' (w ∷ []) o p.writes rows nodes nodes' v now.ino (Some N) rekind_relists w O.listed (inl refl) (one_in O.listed (had_in desk w) had)

    made : In now.ino c.bundle.numbers
    made = subst (λ n. In n c.bundle.numbers) (sym p.number) p.made

    -- the body is in the grammar for either kind
    body_was : body_of e.kind desk.sizes.range (body_before w) ≡ Some (body_at (body_before w))
    body_was =
        let b = some_of (body_of e.kind desk.sizes.range (body_before w)) (new_body v (met_at O) listed.0 p.made) in
        b.1 ∙ ap Some (sym (body_stands e.kind desk.sizes.range (body_before w) b.0 b.1))

    body_now : body_of now.kind desk.sizes.range (body_after w) ≡ Some (body_at (body_before w))
    body_now = p.body_is ∙ ap (λ l. Some (body_at l)) p.body

    turns : (q : Option (List ℕ)) (g : Option Bool) → option_map (rekinded now.kind) (option_map (with_judged q g) (node_listed O None)) ≡ option_map (with_judged q g) (node_listed N None)
    turns q g =
        ap Some (rekinded-judged now.kind q g (made_by O))
        ∙ ap (λ n. Some (with_judged q g (made_node n (body_before w)))) (sym p.name)
        ∙ ap (λ l. Some (with_judged q g (made_node now.name l))) (sym p.body)
      where
        made_node : List ℕ → List ℕ → Node
        made_node name body =
            record {
              parent = w.directory.ino;
              name = name;
              kind = now.kind;
              mode = (body_at body).mode;
              uid = (body_at body).uid;
              gid = (body_at body).gid;
              guard = guard_in body;
              bytes = [];
            }

    rekind_suits : IsTree (turned now nodes') → IsSuited desk h h' (w ∷ []) o p.writes rows nodes nodes' v now.ino (Some (naming_after w now)) rekind_relists (turned now nodes')
    rekind_suits tree = record {
      file = λ x t new. inl (named_so N (λ x. IsTaken desk.sizes desk.creds rows (bundle_of h.parcel) (bundle_of h'.parcel).writes (bundle_of h'.parcel).pages (map held_by h.parcel.holds) now.ino (Some (naming_after w now)) x)
          (record {
            was = met_at O;
            judged = had_judged desk h h' (w ∷ []) o p.writes rows nodes nodes' v now.ino (Some N) rekind_relists w O.listed (inl refl) (one_in O.listed (had_in desk w) had) new;
            number = sym p.number;
            kind = p.plain ∙ sym p.plain_now;
            guard = ap guard_in (sym p.body);
            reads = file_within-plain core2 (met_at N) (met_at O) (body_at (body_before w)) p.plain_now p.plain body_now body_was;
          }) x t);
      grammar = named_so N (λ x. entry_in_grammar c (met_at x) ≡ true) (or_right (is_kept c (met_at N)) (is_some (body_of now.kind desk.sizes.range (body_after w))) (ap is_some p.body_is));
      own = named_so N (λ x. entry_is_own c (met_at x) ≡ true) (new_own v (met_at N) made);
      rights = named_so N (λ x. entry_keeps_rights c (met_at x) ≡ true) (new_keeps v (met_at N) made);
      here =
          with_node-same nodes' now.ino (option_map (rekinded now.kind) (node_at nodes' now.ino))
          ∙ ap (option_map (rekinded now.kind)) (v.shows.each now.ino ∙ ap (λ q. option_map (judged_data c now.ino) (node_left c now.ino q (node_at nodes now.ino))) listed.1 ∙ ap (λ z. option_map (judged_data c now.ino) (node_listed O z)) (no_node v now.ino made))
          ∙ turns (bytes_now c now.ino) (guard_now c now.ino)
          ∙ ap (λ z. option_map (judged_data c now.ino) (node_listed N z)) (sym (no_node v now.ino made));
      there = λ m d. with_node-else nodes' now.ino m (option_map (rekinded now.kind) (node_at nodes' now.ino)) d;
      none = λ t. absurd (not_none N t);
      tree = tree;
    }

pub rekind_shows : RekindShows
rekind_shows desk h h' w e now o p keeps =
    becomes desk h h' (w ∷ []) o p.writes now.ino (Some (naming_after w now)) (rekind_relists desk h h' w e now o p) (turned now)
    (λ nodes nodes' rows may tree. rekind_suits desk h h' w e now o p nodes nodes' rows (view desk h h' (w ∷ []) o p.writes nodes nodes' rows may) tree) keeps

pub after_rekind : AfterRekind
after_rekind desk h h' w e now nodes nodes' rows p q tree =
    let k = rekind_relists desk h h' w e now q.order p in
    let v = view desk h h' (w ∷ []) q.order p.writes nodes nodes' rows q.shows in
    after_is desk h h' (w ∷ []) q.order p.writes now.ino (Some (naming_after w now)) k nodes nodes' (turned now nodes') rows v
    (anew desk h h' (w ∷ []) q.order p.writes rows nodes nodes' v now.ino (Some (naming_after w now)) k (turned now nodes') (rekind_suits desk h h' w e now q.order p nodes nodes' rows v tree))
