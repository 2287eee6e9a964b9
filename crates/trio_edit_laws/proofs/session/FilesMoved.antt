-- An entry goes to a slot of another directory: of the nodes that are shown the file lies there.
use Rattle.trio_edit_laws.proofs.Words.{◌∙◌, ◌∷◌, ◌≡◌, Case, Core, DeskSeen, EntryPart, HoldParts, In, In-is_among, In-map, InHand, IsInOrder, IsTree, List, Listed, MayShow, Naming, Node, Nodes, None, Ok, Option, Rights, Row, Said, SlotWrite, Some, [], ap, arith, body_after, body_before, body_of, both_ways, bundle_core, bundle_of, case_with, entry_in_grammar, entry_is_own, entry_keeps_rights, eqb, eqb-true, find, find-In, find_map, has_kind, held_by, inl, inr, is_among, is_kept, is_some, judged_entries, lent_body, listed_at, made_by, map, mapped, moved, naming_after, naming_of, node_at, node_listed, option_map, or_right, refl, rights_in, rights_of, row_in, slot_after, slot_before, some_of, subst, sym, true, with_bytes, with_node-else, with_node-same, ℕ, Bool, guard_in, guard_now, with_judged, is_directory, placed, bytes_now, node_left}
use Rattle.trio_laws.proofs.judgement.RuleParts.{has_kind_is}
use Rattle.trio_laws.proofs.session.Again.{said_alike}
use Rattle.trio_edit_laws.proofs.session.JudgedReads.{file_within-alike}
use Rattle.trio_edit_laws.specs.session.SlotEdits.{AfterMove, IsMove, MoveShows, rehung}
use Rattle.trio_edit_laws.proofs.session.Judged.{IsShown, judged_data}
use Rattle.trio_edit_laws.proofs.session.NamedAnew.{IsTaken, met_at}
use Rattle.trio_edit_laws.proofs.session.SlotWrites.{IsFreeElse, IsRelisting, IsSuited, after_is, anew, becomes, had_in, had_judged, had_met, has_in, view}
use Rattle.trio_edit_laws.proofs.session.SlotCases.{either, held_keeps, held_kind, held_own, held_there, in_none, in_one, listed_empty, listed_entry, made_same, moved-judged, named_so, naming_before, new_body, new_keeps, new_own, new_unheld, not_none, one_in, reads_empty, reads_entry}

module _ (desk : DeskSeen) (h h' : InHand) (from to : SlotWrite) (e now : EntryPart) (o : IsInOrder desk h) (p : IsMove desk h h' from to e now) where
  abbrev O : Naming
  O = naming_before from e

  abbrev N : Naming
  N = naming_after to now

  had : had_in desk from ≡ (naming_before from e).listed ∷ []
  had = listed_entry from.page from.slot (body_before from) (slot_before desk from) e p.before

  has : has_in desk from ≡ []
  has = listed_empty from.page from.slot (body_after from) (slot_after desk from) p.after

  had_to : had_in desk to ≡ []
  had_to = listed_empty to.page to.slot (body_before to) (slot_before desk to) p.before_to

  has_to : has_in desk to ≡ (naming_after to now).listed ∷ []
  has_to = listed_entry to.page to.slot (body_after to) (slot_after desk to) now p.after_to

  move_relists : IsRelisting desk h (from ∷ to ∷ []) now.ino (Some (naming_after to now))
  move_relists = record {
    before = either from to (λ x. listed_at x.page x.slot (body_before x) (slot_before desk x) ≡ Ok (had_in desk x))
        (reads_entry from.page from.slot (body_before from) (slot_before desk from) e p.before) (reads_empty to.page to.slot (body_before to) (slot_before desk to) p.before_to);
    after = either from to (λ x. listed_at x.page x.slot (body_after x) (slot_after desk x) ≡ Ok (has_in desk x))
        (reads_empty from.page from.slot (body_after from) (slot_after desk from) p.after) (reads_entry to.page to.slot (body_after to) (slot_after desk to) now p.after_to);
    number = named_so N (λ x. x.listed.entry.ino ≡ now.ino) refl;
    had = λ x l i j. either from to (λ x. In l (had_in desk x) → l.entry.ino ≡ now.ino)
        (λ k. ap (λ (z : Listed). z.entry.ino) (in_one O.listed l (had_in desk from) had k) ∙ sym p.number) (λ k. absurd (in_none l (had_in desk to) had_to k)) x i j;
    has = λ x l i j. either from to (λ x. In l (has_in desk x) → Some N ≡ Some (record { directory = x.directory.ino; listed = l }))
        (λ k. absurd (in_none l (has_in desk from) has k)) (λ k. ap (λ z. Some (record { directory = to.directory.ino; listed = z })) (sym (in_one N.listed l (has_in desk to) has_to k))) x i j;
    come = named_so N (λ x. (z : SlotWrite) × In z (from ∷ to ∷ []) × (z.directory.ino ≡ x.directory) × In x.listed (has_in desk z)) (to, inr (inl refl), refl, one_in N.listed (has_in desk to) has_to);
    free = λ x l i j. either from to (λ x. In l (has_in desk x) → IsFreeElse x now.ino l.entry.name)
        (λ k. absurd (in_none l (has_in desk from) has k)) (λ k. subst (λ (z : Listed). IsFreeElse to now.ino z.entry.name) (sym (in_one N.listed l (has_in desk to) has_to k)) (λ y i d. p.name y i)) x i j;
    was = inr (from, inl refl, O.listed, one_in O.listed (had_in desk from) had);
  }

  module _ (nodes nodes' : Nodes) (rows : List (Option Row)) (may : MayShow desk h h' nodes nodes' rows) where
    abbrev c : Case
    c = case_with desk.sizes desk.creds rows (bundle_of h.parcel) (map held_by h.parcel.holds)

    abbrev v : IsShown (case_with desk.sizes desk.creds rows (bundle_of h.parcel) (map held_by h.parcel.holds)) nodes nodes'
    v = view desk h h' (from ∷ to ∷ []) o p.writes nodes nodes' rows may

    abbrev core2 : Core
    core2 = bundle_core (case_with desk.sizes desk.creds rows (bundle_of h'.parcel) (map held_by h.parcel.holds))

    listed : In (met_at O) (judged_entries c) × (naming_of c now.ino ≡ Some O)
    listed = had_met desk h h' (from ∷ to ∷ []) o p.writes rows nodes nodes' v now.ino (Some N) move_relists from O.listed (inl refl) (one_in O.listed (had_in desk from) had)

    -- the hold that is found
    held_in : (k : HoldParts) → find (λ (x : HoldParts). eqb x.ino e.ino) h.parcel.holds ≡ Some k → In e.ino c.bundle.holds
    held_in k t =
        let q = find-In (λ (x : HoldParts). eqb x.ino e.ino) h.parcel.holds k t in
        subst (λ n. In n c.bundle.holds) (eqb-true k.ino e.ino q.1) (In-map (λ (x : HoldParts). x.ino) k h.parcel.holds q.0)

    held_body : (k : HoldParts) → find (λ (x : HoldParts). eqb x.ino e.ino) h.parcel.holds ≡ Some k → lent_body c e.ino ≡ k.body
    held_body k t = search (arith, find_map)

    -- it lent the kind that the entry has
    held_is : (k : HoldParts) → find (λ (x : HoldParts). eqb x.ino e.ino) h.parcel.holds ≡ Some k → e.kind ≡ k.kind
    held_is k t =
        let q = find-In (λ (x : HoldParts). eqb x.ino e.ino) h.parcel.holds k t in
        let number : k.ino ≡ e.ino = eqb-true k.ino e.ino q.1 in
        let has = may.possible.agrees.holds k (subst (λ l. In k l) (sym p.writes.holds) q.0) in
        let x = mapped rights_of (node_at nodes k.ino) (rights_in k.kind k.body) has.rights in
        let r = some_of (row_in rows e.ino) (v.among.held e.ino (held_in k t)) in
        let says = said_alike rows nodes e.ino r.0 x.0 v.among.same r.1 (ap (node_at nodes) (sym number) ∙ x.1) in
        has_kind_is e.kind (row_in rows e.ino) r.0 r.1 (held_kind v (met_at O) listed.0 (held_in k t))
        ∙ ap (λ (z : Said). z.rights.kind) says ∙ ap (λ (z : Rights). z.kind) x.2

    moves : (q : Option (List ℕ)) (g : Option Bool) (z : Option Node) → node_at nodes now.ino ≡ z
        → option_map (moved to.directory.ino now.name) (option_map (with_judged q g) (node_listed O z)) ≡ option_map (with_judged q g) (node_listed N z)
    moves q g (Some x) t = ap Some (moved-judged to.directory.ino now.name q g (placed O x))
    moves q g None t =
        elim p.body [
          | inl made ↦
              ap Some (moved-judged to.directory.ino now.name q g (made_by O))
              ∙ ap (λ (y : Node). Some (with_judged q g y)) (made_same to.directory.ino now.name e.kind now.kind (body_before from) (body_after to) (sym p.kind) (sym made.1))
          | inr q ↦ absurd (held_there v e.ino (held_in q.0 q.1) (ap (node_at nodes) (sym p.number) ∙ t))
        ]

    in_grammar : is_some (body_of now.kind desk.sizes.range (body_after to)) ≡ true
    in_grammar =
        ap (λ k. is_some (body_of k desk.sizes.range (body_after to))) p.kind
        ∙ elim p.body [
          | inl made ↦ ap (λ l. is_some (body_of e.kind desk.sizes.range l)) made.1 ∙ new_body v (met_at O) listed.0 made.0
          | inr q ↦ ap (λ k. is_some (body_of k desk.sizes.range (body_after to))) (held_is q.0 q.1) ∙ ap (λ l. is_some (body_of q.0.kind desk.sizes.range l)) q.2 ∙ ap is_some q.3
        ]

    own_now : entry_is_own c (met_at N) ≡ true
    own_now =
        elim p.body [
          | inl made ↦ new_own v (met_at N) (subst (λ n. In n c.bundle.numbers) (sym p.number) made.0)
          | inr q ↦ held_own v (met_at N) (subst (λ n. In n c.bundle.holds) (sym p.number) (held_in q.0 q.1))
        ]

    rights_now : entry_keeps_rights c (met_at N) ≡ true
    rights_now =
        elim p.body [
          | inl made ↦ new_keeps v (met_at N) (subst (λ n. In n c.bundle.numbers) (sym p.number) made.0)
          | inr q ↦
              held_keeps v (met_at N)
              (ap (λ k. has_kind k (row_in rows now.ino)) p.kind ∙ ap (λ n. has_kind e.kind (row_in rows n)) p.number ∙ held_kind v (met_at O) listed.0 (held_in q.0 q.1))
              (q.2 ∙ sym (held_body q.0 q.1) ∙ ap (lent_body c) (sym p.number))
        ]

    taken : In now.ino c.bundle.numbers → IsTaken desk.sizes desk.creds rows (bundle_of h.parcel) (bundle_of h'.parcel).writes (bundle_of h'.parcel).pages (map held_by h.parcel.holds) now.ino (Some (naming_after to now)) N
    taken new =
        elim p.body [
          | inl made ↦ record {
            was = met_at O;
            judged = had_judged desk h h' (from ∷ to ∷ []) o p.writes rows nodes nodes' v now.ino (Some N) move_relists from O.listed (inl refl) (one_in O.listed (had_in desk from) had) new;
            number = sym p.number;
            kind = ap is_directory (sym p.kind);
            guard = ap guard_in (sym made.1);
            reads = file_within-alike core2 (met_at N) (met_at O) p.kind made.1;
          }
          | inr q ↦ absurd (both_ways (is_among e.ino c.bundle.holds) (new_unheld v e.ino (subst (λ n. In n c.bundle.numbers) p.number new)) (In-is_among e.ino c.bundle.holds (held_in q.0 q.1)))
        ]

    move_suits : IsTree (rehung to now nodes') → IsSuited desk h h' (from ∷ to ∷ []) o p.writes rows nodes nodes' (view desk h h' (from ∷ to ∷ []) o p.writes nodes nodes' rows may) now.ino (Some (naming_after to now)) move_relists (rehung to now nodes')
    move_suits tree = record {
      file = λ x t new. inl (named_so N (λ x. IsTaken desk.sizes desk.creds rows (bundle_of h.parcel) (bundle_of h'.parcel).writes (bundle_of h'.parcel).pages (map held_by h.parcel.holds) now.ino (Some (naming_after to now)) x) (taken new) x t);
      grammar = named_so N (λ x. entry_in_grammar c (met_at x) ≡ true) (or_right (is_kept c (met_at N)) (is_some (body_of now.kind desk.sizes.range (body_after to))) in_grammar);
      own = named_so N (λ x. entry_is_own c (met_at x) ≡ true) own_now;
      rights = named_so N (λ x. entry_keeps_rights c (met_at x) ≡ true) rights_now;
      here =
          with_node-same nodes' now.ino (option_map (moved to.directory.ino now.name) (node_at nodes' now.ino))
          ∙ ap (option_map (moved to.directory.ino now.name)) (v.shows.each now.ino ∙ ap (λ q. option_map (judged_data c now.ino) (node_left c now.ino q (node_at nodes now.ino))) listed.1)
          ∙ moves (bytes_now c now.ino) (guard_now c now.ino) (node_at nodes now.ino) refl;
      there = λ m d. with_node-else nodes' now.ino m (option_map (moved to.directory.ino now.name) (node_at nodes' now.ino)) d;
      none = λ t. absurd (not_none N t);
      tree = tree;
    }

pub move_shows : MoveShows
move_shows desk h h' from to e now o p keeps =
    becomes desk h h' (from ∷ to ∷ []) o p.writes now.ino (Some (naming_after to now)) (move_relists desk h h' from to e now o p) (rehung to now)
    (λ nodes nodes' rows may tree. move_suits desk h h' from to e now o p nodes nodes' rows may tree) keeps

pub after_move : AfterMove
after_move desk h h' from to e now nodes nodes' rows p q tree =
    let k = move_relists desk h h' from to e now q.order p in
    let v = view desk h h' (from ∷ to ∷ []) q.order p.writes nodes nodes' rows q.shows in
    after_is desk h h' (from ∷ to ∷ []) q.order p.writes now.ino (Some (naming_after to now)) k nodes nodes' (rehung to now nodes') rows v
    (anew desk h h' (from ∷ to ∷ []) q.order p.writes rows nodes nodes' v now.ino (Some (naming_after to now)) k (rehung to now nodes') (move_suits desk h h' from to e now q.order p nodes nodes' rows q.shows tree))
