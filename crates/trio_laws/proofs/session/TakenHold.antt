-- A hold is taken on a file that a directory in hand lists: the same nodes are shown.
use Rattle.trio_laws.proofs.Words.{◌&&◌, ◌++◌, ◌||◌, ◌∙◌, ◌∷◌, ◌≡◌, ◌⊎◌, ArePossible, Bool, Bundle, Case, DeskSeen, Done, Held, HoldParts, In, In-cases, In-flat, In-is_among, In-left, In-map, In-right, InHand, IsAmong, IsDirectory, IsInOrder, IsTree, LentFile, List, Met, Naming, Node, Nodes, None, Option, Row, Said, Shows, Some, Takes, Written, [], ap, are_new, arith, batch_nodes, both_ways, bundle_of, bytes_eq, bytes_now, case_as_stands, case_in_hand, cases_eq, cond, entries_in, entry_is_own, entry_keeps_rights, entry_listed, eqb, false, file_numbers, flat_map-In, fronts_listed, has_kind, hold_numbers, inl, inr, is_among, is_among-In, is_among-push, is_kept, is_some, judged_entries, lent_body, map, map-append, map-map, naming_of, ne_eqb, new_entries, node_at, node_left, node_now, node_says, not, numbers, option_map, option_map_or, or_cases, or_left, or_right, refl, rights_in, row_in, row_says, some_of, some_one, subst, sym, tree_stays_through, true, written_files, written_in, written_numbers, ℕ, guard_now, with_judged}
use Rattle.trio_layout.specs.JudgedFiles.{judged_files}
use Rattle.trio_laws.proofs.judgement.JudgedFacts.{written_ino}
use Rattle.trio_desk.specs.Ready.{ComesToShown}
use Rattle.trio_laws.specs.session.Takes.{TakesHold, with_hold}
use Rattle.trio_laws.proofs.session.Again.{hand_files_once, possible_with_less}
use Rattle.trio_laws.proofs.session.Edges.{kept_parent, listed_now, new_dead, own}
use Rattle.trio_laws.proofs.session.Namings.{listed_naming, met_of, naming_is}
use Rattle.trio_laws.proofs.session.Ruled.{IsFurther, bytes_same, case_with, naming_same, shows_by, guard_same}
use Rattle.trio_laws.proofs.session.Spares.{judged_own}
use Rattle.trio_laws.proofs.session.Stands.{named_alike}
use Rattle.trio_laws.proofs.session.Starts.{judged_once, new_entry, start_from}
use Rattle.trio_laws.proofs.session.LentNodes.{mapped}
use Rattle.trio_laws.proofs.session.TakenWrite.{find-skip, row_there}

abbrev pub held_by : HoldParts → Held
held_by k = record { ino = k.ino; body = k.body }

-- a judged file that isn't written is an entry of a judged directory
pub judged_listed : (c : Case) (m : Met) → In m (judged_files c) → In m.ino (written_numbers c) ⊎ In m (judged_entries c)
unfolding judged_files
judged_listed c m i =
    elim (fronts_listed (new_entries c) (written_files c) c.inodes m i) [
      | inl first ↦
          let w = start_from c m first in
          inl (subst (λ n. In n (written_numbers c)) (sym (ap (λ (x : Met). x.ino) w.2 ∙ written_ino c w.0)) (In-map (λ (x : Written). x.ino) w.0 c.bundle.writes w.1))
      | inr child ↦
          let x = flat_map-In (new_entries c) m _ child in
          inr (In-flat (entries_in c) x.0 m (judged_files c) (In-left x.0 _ _ x.1) (new_entry c x.0 m x.2).0)
    ]

module _ (desk : DeskSeen) (h : InHand) (calls : List Done) (k : HoldParts) (o : IsInOrder desk h) (comes : ComesToShown desk h.parcel h.back calls)
    (unheld : In k.ino (hold_numbers h.parcel.holds) → ⊥) (unwritten : In k.ino (file_numbers h.parcel.writes) → ⊥) (listed : is_some (naming_of (case_as_stands desk h) k.ino) ≡ true) where
  abbrev hand : Bundle
  hand = bundle_of h.parcel

  abbrev more : Bundle
  more = record hand { holds = hand.holds ++ k.ino ∷ [] }

  abbrev lent : List Held
  lent = map held_by h.parcel.holds

  abbrev lent2 : List Held
  lent2 = map held_by h.parcel.holds ++ held_by k ∷ []

  case_is : (rows : List (Option Row)) → case_in_hand desk rows (with_hold h k) ≡ case_with desk.sizes desk.creds rows more lent2
  case_is rows = search (arith, map-append)

  less : (nodes : Nodes) (rows : List (Option Row)) → ArePossible desk (with_hold h k).parcel h.back nodes rows → ArePossible desk h.parcel h.back nodes rows
  less = possible_with_less desk h.parcel (with_hold h k).parcel h.back h.back (λ f i. i) (λ x i. In-left x h.parcel.holds (k ∷ []) i) (λ n i. i)

  hold_row : (nodes : Nodes) (rows : List (Option Row)) → ArePossible desk (with_hold h k).parcel h.back nodes rows → (r : Row) × (row_in rows k.ino ≡ Some r)
  hold_row nodes rows possible =
      row_there desk (with_hold h k) nodes rows k.ino (rights_in k.kind k.body) possible (possible.agrees.holds k (In-right k h.parcel.holds (k ∷ []) (inl refl))).rights

  naming : (rows : List (Option Row)) → (e : Naming) × (naming_of (case_in_hand desk rows h) k.ino ≡ Some e)
  naming rows =
      let e = some_of (naming_of (case_as_stands desk h) k.ino) listed in (e.0, named_alike desk.sizes desk.creds [] rows hand lent k.ino ∙ e.1)

  module _ (nodes nodes' : Nodes) (rows : List (Option Row)) (possible : ArePossible desk (with_hold h k).parcel h.back nodes rows) (tree' : IsTree nodes') (s : Shows (case_in_hand desk rows h) nodes nodes') where
    abbrev c : Case
    c = case_with desk.sizes desk.creds rows hand lent

    abbrev c2 : Case
    c2 = case_with desk.sizes desk.creds rows more lent2

    p : ArePossible desk h.parcel h.back nodes rows
    p = less nodes rows possible

    a : IsAmong c nodes
    a = o.among nodes rows p

    row : (r : Row) × (row_in rows k.ino ≡ Some r)
    row = hold_row nodes rows possible

    -- the entry that names the file is a kept child
    entry_kept : (e : Naming) → naming_of c k.ino ≡ Some e → is_kept c (met_of e) ≡ true
    entry_kept e t =
        elim (own c nodes nodes' p.tree tree' a s k.ino e t) [
          | inl kept ↦ kept
          | inr (inl held) ↦ absurd (unheld held)
          | inr (inr new) ↦ absurd (new_dead c nodes nodes' p.tree tree' a s k.ino row.0 row.1 new)
        ]

    -- no judged file has the number 0
    no_zero : (m : Met) → In m (judged_files c) → m.ino ≡ 0 → ⊥
    no_zero m i z =
        elim (judged_listed c m i) [
          | inl w ↦
              let r = some_of (row_in rows m.ino) (a.written m.ino w) in
              let x = mapped node_says (node_at nodes m.ino) (row_says r.0) (sym (p.same m.ino) ∙ ap (option_map row_says) r.1) in
              let wrong : None ≡ Some x.0 = sym p.tree.none ∙ ap (node_at nodes) (sym z) ∙ x.1 in absurd (cc wrong)
          | inr e ↦
              let l = listed_naming c (entry_listed c m) (In-map (entry_listed c) m (judged_entries c) e) in
              let x = listed_now c nodes nodes' p.tree tree' a s m.ino l.0 l.1 in
              let wrong : None ≡ Some x.0 = sym tree'.none ∙ ap (node_at nodes') (sym z) ∙ x.1 in absurd (cc wrong)
        ]

    -- its directory is written
    parent_written : (r : Row) → row_in rows k.ino ≡ Some r → In r.parent (written_numbers c)
    parent_written r t =
        let e = naming rows in
        let i = naming_is c k.ino e.0 e.1 in
        let parent : r.parent ≡ i.judged_by.ino = kept_parent c nodes nodes' p.tree tree' a s k.ino e.0 r e.1 t (entry_kept e.0 e.1) ∙ i.directory in
        elim (judged_own c i.judged_by i.among) [
          | inl w ↦ subst (λ n. In n (written_numbers c)) (sym parent) w
          | inr new ↦ absurd (nowhere i.judged_by parent i.among new)
        ]
      where
        nowhere : (m : Met) → r.parent ≡ m.ino → In m (judged_files c) → In m.ino hand.numbers → ⊥
        nowhere m parent i new =
            let x = mapped node_says (node_at nodes k.ino) (row_says r) (sym (p.same k.ino) ∙ ap (option_map row_says) t) in
            let at : x.0.parent ≡ m.ino = ap (λ (z : Said). z.parent) x.2 ∙ parent in
            elim (cases_eq k.ino 1) [
              | inl one ↦
                  let top : x.0 ≡ p.tree.root.0 = some_one (node_at nodes 1) x.0 p.tree.root.0 (ap (node_at nodes) (sym one) ∙ x.1) p.tree.root.1 in
                  no_zero m i (sym at ∙ ap (λ (z : Node). z.parent) top ∙ p.tree.root.3)
              | inr d ↦
                  subst IsDirectory (ap (node_at nodes) at ∙ p.none m.ino new) (p.tree.parents k.ino x.0 x.1 d)
            ]

    abbrev New : Met → Type 0
    New m = ⊥

    abbrev Old : Met → Type 0
    Old m = In m (judged_files c)

    judged_same : judged_files c2 ≡ judged_files c
    unfolding judged_files
    judged_same = refl

    held_more : (n : ℕ) → is_among n hand.holds ≡ true → is_among n more.holds ≡ true
    held_more n t = In-is_among n more.holds (In-left n hand.holds (k.ino ∷ []) (is_among-In n hand.holds t))

    held_same : (n : ℕ) → (n ≡ k.ino → ⊥) → is_among n more.holds ≡ is_among n hand.holds
    held_same n d = search (arith, is_among-push, ne_eqb)

    own_more : (e : Met) → entry_is_own c e ≡ true → entry_is_own c2 e ≡ true
    own_more e t = search (arith, or_cases, or_right, or_left, held_more)

    rights_more : (e : Met) → entry_is_own c e ≡ true → entry_keeps_rights c e ≡ true → entry_keeps_rights c2 e ≡ true
    rights_more e q t = by (is_kept c e) refl t
      where
        rest : Case → Bool
        rest x = not (is_among e.ino x.bundle.holds) || (has_kind e.kind (row_in rows e.ino) && bytes_eq e.body (lent_body x e.ino))

        differs : is_kept c e ≡ false → e.ino ≡ k.ino → ⊥
        differs unkept same =
            elim (or_cases (is_kept c e || is_among e.ino hand.holds) (is_among e.ino hand.numbers) q) [
              | inr new ↦ new_dead c nodes nodes' p.tree tree' a s k.ino row.0 row.1 (subst (λ n. In n hand.numbers) same (is_among-In e.ino hand.numbers new))
              | inl first ↦
                  elim (or_cases (is_kept c e) (is_among e.ino hand.holds) first) [
                    | inl kept ↦ both_ways (is_kept c e) unkept kept
                    | inr held ↦ unheld (subst (λ n. In n hand.holds) same (is_among-In e.ino hand.holds held))
                  ]
            ]

        by : (v : Bool) → is_kept c e ≡ v → cond (is_kept c e) (has_kind e.kind (row_in rows e.ino)) (rest c) ≡ true → cond (is_kept c e) (has_kind e.kind (row_in rows e.ino)) (rest c2) ≡ true
        by true is j =
            ap (λ v. cond v (has_kind e.kind (row_in rows e.ino)) (rest c2)) is ∙ sym (ap (λ v. cond v (has_kind e.kind (row_in rows e.ino)) (rest c)) is) ∙ j
        by false is j =
            let d : e.ino ≡ k.ino → ⊥ = differs is in
            let body : lent_body c2 e.ino ≡ lent_body c e.ino = ap (λ o. option_map_or (λ (x : Held). x.body) o []) (find-skip (λ (x : Held). eqb x.ino e.ino) lent (held_by k) (ne_eqb k.ino e.ino (λ z. d (sym z)))) in
            let same : rest c2 ≡ rest c =
            ap (λ v. not v || (has_kind e.kind (row_in rows e.ino) && bytes_eq e.body (lent_body c2 e.ino))) (held_same e.ino d)
            ∙ ap (λ v. not (is_among e.ino hand.holds) || (has_kind e.kind (row_in rows e.ino) && bytes_eq e.body v)) body in
            ap (λ v. cond (is_kept c e) (has_kind e.kind (row_in rows e.ino)) v) same ∙ j

    further : IsFurther desk.sizes desk.creds rows hand more lent lent2 New Old
    further = record {
      once = ap (λ l. are_new [] (numbers l)) judged_same ∙ judged_once c (hand_files_once desk h o);
      from = λ m i. inr (subst (λ l. In m l) judged_same i);
      new_to = λ m e. absurd e;
      old_to = λ m i. subst (λ l. In m l) (sym judged_same) i;
      old_in = λ m i. i;
      left = λ m i. inl i;
      page = λ m q i j. refl;
      more = λ q i. i;
      written = λ m i. refl;
      own = λ e i q. own_more e q;
      keeps = λ e i q r. rights_more e q r;
      one = λ m x e y. absurd e;
      new = λ m e. absurd e;
    }

    named_same : (n : ℕ) → naming_of c2 n ≡ naming_of c n
    named_same n = naming_same desk.sizes desk.creds rows hand more lent lent2 New Old further nodes nodes' s n (λ m w l i e. w)

    left_same : (n : ℕ) (q : Option Naming) (x : Option Node) → naming_of c n ≡ q → node_left c n q x ≡ node_left c2 n q x
    left_same n (Some g) x t = refl
    left_same n None x t =
        elim (cases_eq n k.ino) [
          | inl same ↦
              let e = naming rows in
              let wrong : None ≡ Some e.0 = sym t ∙ ap (naming_of c) same ∙ e.1 in absurd (cc wrong)
          | inr d ↦ ap (λ v. cond v None x) (sym (held_same n d))
        ]

    each : (n : ℕ) → node_at nodes' n ≡ node_now c2 n (node_at nodes n)
    each n =
        s.each n
        ∙ ap (option_map (with_judged (bytes_now c n) (guard_now c n))) (left_same n (naming_of c n) (node_at nodes n) refl)
        ∙ ap (λ q. option_map (with_judged (bytes_now c n) (guard_now c n)) (node_left c2 n q (node_at nodes n))) (sym (named_same n))
        ∙ ap (λ q. option_map (with_judged q (guard_now c n)) (node_left c2 n (naming_of c2 n) (node_at nodes n))) (sym (bytes_same desk.sizes desk.creds rows hand more lent lent2 New Old further nodes nodes' s n (λ m e q. e)))
        ∙ ap (λ g. option_map (with_judged (bytes_now c2 n) g) (node_left c2 n (naming_of c2 n) (node_at nodes n))) (sym (guard_same desk.sizes desk.creds rows hand more lent lent2 New Old further nodes nodes' s n (λ m e q. e)))

    shown : Shows c2 nodes nodes'
    shown =
        shows_by desk.sizes desk.creds rows hand more lent lent2 New Old further nodes nodes' s nodes' each
        (λ n x e i. ap is_some (named_same n) ∙ s.whole n x e (subst (λ l. is_among x.parent (numbers l) ≡ true) judged_same i))

  among_then : (nodes : Nodes) (rows : List (Option Row)) → ArePossible desk (with_hold h k).parcel h.back nodes rows → IsAmong (case_in_hand desk rows (with_hold h k)) nodes
  among_then nodes rows possible =
      let p : ArePossible desk h.parcel h.back nodes rows = less nodes rows possible in
      let was = comes nodes rows p in
      let after : Nodes = batch_nodes desk.creds calls nodes in
      let tree' : IsTree after = tree_stays_through nodes desk.creds calls p.tree was.0 in
      let a : IsAmong (case_with desk.sizes desk.creds rows hand lent) nodes = o.among nodes rows p in
      let r = hold_row nodes rows possible in
      let cut : (n : ℕ) → In n (hand.holds ++ k.ino ∷ []) → In n hand.holds ⊎ (n ≡ k.ino) =
      λ n i. elim (In-cases n hand.holds (k.ino ∷ []) i) [ inl before ↦ inl before | inr here ↦ elim here [ inl e ↦ inr e | inr no' ↦ absurd no' ] ] in
      let then : IsAmong (case_with desk.sizes desk.creds rows more lent2) nodes =
      record {
        same = a.same;
        written = a.written;
        held = λ n i. elim (cut n i) [ inl j ↦ a.held n j | inr e ↦ ap (λ m. is_some (row_in rows m)) e ∙ ap is_some r.1 ];
        apart = λ n i j. elim (cut n i) [
          | inl before ↦ a.apart n before j
          | inr e ↦ unwritten (subst (λ l. In k.ino l) (map-map (λ (x : Written). x.ino) (λ (x : LentFile). written_in x.stands) h.parcel.writes) (subst (λ m. In m (map (λ (x : Written). x.ino) hand.writes)) e j))
        ];
        closed = λ n q i e. elim (cut n i) [
          | inl before ↦ a.closed n q before e
          | inr same ↦ parent_written nodes after rows possible tree' was.1 q (ap (row_in rows) (sym same) ∙ e)
        ];
        new = a.new;
      } in
      subst (λ (x : Case). IsAmong x nodes) (sym (case_is rows)) then

  takes_hold_here : Takes desk h (with_hold h k)
  takes_hold_here = record {
    more = less;
    shows = λ nodes nodes' rows may. subst (λ (x : Case). Shows x nodes nodes') (sym (case_is rows)) (shown nodes nodes' rows may.possible may.tree may.shows);
    tree = λ nodes nodes' rows may. may.tree;
    order = record { among = among_then; pages = o.pages; files = o.files };
  }

pub takes_hold : TakesHold
takes_hold desk h calls k o comes unheld unwritten listed = takes_hold_here desk h calls k o comes unheld unwritten listed
