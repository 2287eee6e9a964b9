-- An entry of a file that was made goes to another directory.
use Rattle.trio_edit_laws.proofs.Words.{◌++◌, ◌∙◌, ◌∷◌, ◌≡◌, ◌⊎◌, Chain, Changes, DeskSeen, Directory, EntryPart, In, In-cases, In-is_among, In-left, In-map, In-right, IsInSlot, IsUnlent, IsView, Kind, LeavesMoved, List, MadeFile, MayEdit, Met, Nodes, None, Option, Place, Row, SessionSeen, Some, StaysTree, [], ap, append-nil, append_assoc, are_new, arith, body_in, cases_eq, chain_in, chained, clear, cond, eq-eqb, eqb, eqb-true, every_number, fill, filter, filter-In, filter-append, find, find-append, flat_map, flat_map-append, in_hand, inl, ino_numbers, inr, is_some, made_body, made_file, made_met, map, map-In, map-append, met_in, moved, no_chain, not, open_kind, option_map_or, plain, refl, slot_of, subst, sym, true, with_changed, ℕ}
use Rattle.trio_edit_laws.proofs.Anew.{body-made}
use Rattle.trio_edit_laws.proofs.Chained.{apart_from}
use Rattle.trio_edit_laws.proofs.Keeps.{made_at, made_once}
use Rattle.trio_edit_laws.proofs.Opens.{chain-made, pages_of_chain}
use Rattle.trio_edit_laws.proofs.directories.After.{OthersStay}
use Rattle.trio_edit_laws.proofs.directories.Changes.{changes_by}
use Rattle.trio_edit_laws.proofs.directories.Cleared.{chained_parts, made_pages}
use Rattle.trio_edit_laws.proofs.directories.Fronts.{made_slot}
use Rattle.trio_edit_laws.proofs.directories.Leaves.{has_slot, leaves_files, spare_same}
use Rattle.trio_edit_laws.proofs.directories.Mades.{In-parted, In-without, IsSplit, filter-absent, find-absent, find-added_other, find-added_same, find-without_other, find-without_same, is_not_of, is_of, number_of, one_more, shorter, split, swapped}
use Rattle.trio_edit_laws.proofs.directories.Moved.{MoveNeeds, body_kept, body_now, body_to, from_has, moved_session, moved_within, moved_writes, p, p2, says_now, slot_kept, to_has}
use Rattle.trio_edit_laws.proofs.directories.MovedNodes.{MovesFile, moved_turns, slot_to}
use Rattle.trio_edit_laws.proofs.directories.MovedBetween.{move_at}
use Rattle.trio_edit_laws.proofs.directories.Places.{IsEmptyPlace, IsNamedPlace}
use Rattle.trio_edit_laws.proofs.directories.Sees.{listed_on, r}
use Rattle.trio_edit_laws.proofs.directories.Stays.{EditsDirs, WritesDirs, body_else, chain_else, open_else, unlent_still}
use Rattle.trio_edit_laws.proofs.session.SlotCases.{named_so}

module _ (desk : DeskSeen) (s : SessionSeen) (dir dir2 : ℕ) (place place2 : Place) (e : EntryPart) (old name : List ℕ) (kind : Kind) (body : List ℕ)
    (q : MoveNeeds desk s dir dir2 place place2 e old name body) (x : MadeFile) (found : made_file s e.ino ≡ Some x) (kind_is : kind ≡ x.kind)
    (body_is : body ≡ made_body s x) where
  abbrev m : MayEdit desk s
  m = q.entry.may

  abbrev from_place : IsNamedPlace s dir q.entry.opens place e old
  from_place = p desk s dir dir2 place place2 e old name kind body q

  abbrev to_place : IsEmptyPlace s dir2 q.opens2 place2
  to_place = p2 desk s dir dir2 place place2 e old name kind body q

  abbrev num : ℕ
  num = from_place.there.number

  abbrev num2 : ℕ
  num2 = to_place.there.number

  abbrev n : ℕ
  n = e.ino

  at : In x s.made × (x.ino ≡ n)
  at = made_at s e.ino x found

  allotted : In e.ino (ino_numbers s.parcel.inodes)
  allotted = subst (λ k. In k (ino_numbers s.parcel.inodes)) at.1 (m.made.numbers x at.0)

  -- the file in its new slot
  abbrev placed : MadeFile
  placed = record { ino = e.ino; kind = kind; page = num2; slot = place2.slot; chain = x.chain }

  abbrev rest : List MadeFile
  rest = filter (λ (y : MadeFile). not (eqb y.ino e.ino)) s.made

  abbrev then' : SessionSeen
  then' = moved_session desk s dir dir2 place place2 e old name kind body q (rest ++ placed ∷ []) s.cleared

  abbrev writes : WritesDirs s then'
  writes = moved_writes desk s dir dir2 place place2 e old name kind body q (rest ++ placed ∷ []) s.cleared

  q2 : IsSplit e.ino s.made x
  q2 = split e.ino s.made x found (made_once desk s m)

  -- ---- lists

  uncleared : In e.ino (map number_of s.cleared) → ⊥
  uncleared i =
      let new : are_new [] (map number_of s.made ++ map number_of s.cleared) ≡ true = ap (are_new []) (sym (map-append number_of s.made s.cleared)) ∙ m.made.once in
      (apart_from (map number_of s.made) (map number_of s.cleared) new).apart e.ino (subst (λ k. In k (map number_of s.made)) at.1 (In-map number_of x s.made at.0)) i

  cleared_then : filter (λ (y : MadeFile). not (eqb y.ino e.ino)) (s.cleared ++ filter (λ (y : MadeFile). eqb y.ino e.ino) s.made) ≡ s.cleared
  cleared_then =
      ap (λ l. filter (is_not_of e.ino) (s.cleared ++ l)) q2.only
      ∙ filter-append (is_not_of e.ino) s.cleared (x ∷ [])
      ∙ ap (λ l. l ++ filter (is_not_of e.ino) (x ∷ [])) (filter-absent e.ino s.cleared uncleared)
      ∙ ap (λ t. s.cleared ++ cond (not t) (x ∷ []) []) (eq-eqb x.ino e.ino at.1)
      ∙ append-nil s.cleared

  chain_found : option_map_or (λ (y : MadeFile). y.chain) (find (is_of e.ino) (s.cleared ++ filter (λ (y : MadeFile). eqb y.ino e.ino) s.made)) no_chain ≡ x.chain
  chain_found = search (arith, q2, find-append, find-absent, uncleared, eq-eqb, at)

  move_is : fill dir2 name e.ino kind body (clear dir old s) ≡ then'
  move_is = search (arith, move_at, In-is_among, allotted, chain_found, cleared_then)

  -- ---- files

  found_else : (k : ℕ) → (k ≡ e.ino → ⊥) → made_file then' k ≡ made_file s k
  found_else k d = find-added_other k rest placed d ∙ find-without_other k e.ino s.made d

  found_now : made_file then' e.ino ≡ Some placed
  found_now = find-added_same rest placed (find-without_same e.ino s.made)

  -- those that stay
  kept_or : (y : MadeFile) → In y then'.made → (In y s.made × (y.ino ≡ e.ino → ⊥)) ⊎ (y ≡ placed)
  kept_or y i = elim (In-cases y rest (placed ∷ []) i) [
    | inl j ↦ inl (In-without e.ino y s.made j)
    | inr j ↦ elim j [ inl same ↦ inr same | inr none ↦ absurd none ]
  ]

  open_placed : (k' : Kind) → open_kind s e.ino ≡ Some k' → open_kind then' e.ino ≡ Some k'
  open_placed k' o = search (arith, found_now)

  chain_placed : chain_in then' e.ino ≡ chain_in s e.ino
  chain_placed = chain-made then' e.ino placed found_now ∙ sym (chain-made s e.ino x found)

  body_placed : body_in then' e.ino ≡ body_in s e.ino
  body_placed = body-made then' e.ino placed found_now ∙ body_now desk s dir dir2 place place2 e old name kind body q ∙ body_is ∙ sym (body-made s e.ino x found)

  open_still : (k : ℕ) (kind' : Kind) → open_kind s k ≡ Some kind' → open_kind then' k ≡ Some kind'
  open_still k kind' o = elim (cases_eq k e.ino) [
    | inr d ↦ open_else s then' writes k (found_else k d) ∙ o
    | inl same ↦ ap (open_kind then') same ∙ open_placed kind' (ap (open_kind s) (sym same) ∙ o)
  ]

  chain_still : (k : ℕ) → chain_in then' k ≡ chain_in s k
  chain_still k = elim (cases_eq k e.ino) [
    | inr d ↦ chain_else s then' writes k (found_else k d)
    | inl same ↦ ap (chain_in then') same ∙ chain_placed ∙ ap (chain_in s) (sym same)
  ]

  body_still : (k : ℕ) → body_in then' k ≡ body_in s k
  body_still k = elim (cases_eq k e.ino) [
    | inr d ↦
        body_else s then' writes k (found_else k d) (λ y f. (let a = made_at s k y f in body_kept desk s dir dir2 place place2 e old name kind body q y a.0 (λ same. d (sym a.1 ∙ same))))
    | inl same ↦ ap (body_in then') same ∙ body_placed ∙ ap (body_in s) (sym same)
  ]

  open_was : (k : ℕ) (kind' : Kind) → open_kind then' k ≡ Some kind' → open_kind s k ≡ Some kind'
  open_was k kind' o = elim (cases_eq k e.ino) [
    | inr d ↦ sym (open_else s then' writes k (found_else k d)) ∙ o
    | inl same ↦ search (arith, open_placed)
  ]

  slots_then : (y : MadeFile) → In y then'.made → IsInSlot then' y
  slots_then y i = elim (kept_or y i) [
    | inl j ↦
        let a = m.made.slots y j.0 in
        record {
          directory = a.directory;
          opens = open_still a.directory Directory a.opens;
          block = subst (λ (c : Chain). In y.page c.blocks) (sym (chain_still a.directory)) a.block;
          slot = a.slot;
          entry = a.entry;
          says = ap (slot_of every_number) (slot_kept desk s dir dir2 place place2 e old name kind body q y j.0 j.1) ∙ a.says;
          number = a.number;
          kind = a.kind;
        }
    | inr same ↦ subst (IsInSlot then') (sym same) (record {
      directory = dir2;
      opens = open_still dir2 Directory q.opens2;
      block = subst (λ (c : Chain). In num2 c.blocks) (sym (chain_still dir2)) to_place.there.block;
      slot = to_place.there.slot;
      entry = record { ino = e.ino; kind = kind; name = name };
      says = says_now desk s dir dir2 place place2 e old name kind body q;
      number = refl;
      kind = refl;
    })
  ]

  -- ---- the chains, and the numbers

  abbrev a : List ℕ
  a = flat_map pages_of_chain s.chains ++ made_pages q2.before

  abbrev b : List ℕ
  b = pages_of_chain x.chain

  abbrev c : List ℕ
  c = made_pages q2.after

  chained_was : chained s ≡ (flat_map pages_of_chain s.chains ++ made_pages q2.before) ++ (pages_of_chain x.chain ++ made_pages q2.after)
  chained_was = ap (λ l. flat_map pages_of_chain (s.chains ++ map (λ (y : MadeFile). y.chain) l)) q2.are ∙ chained_parts s.chains q2.before (x ∷ q2.after)

  chained_now : chained then' ≡ (flat_map pages_of_chain s.chains ++ made_pages q2.before) ++ (made_pages q2.after ++ pages_of_chain x.chain)
  chained_now =
      ap (λ l. flat_map pages_of_chain (s.chains ++ map (λ (y : MadeFile). y.chain) (l ++ placed ∷ []))) q2.rest
      ∙ chained_parts s.chains (q2.before ++ q2.after) (placed ∷ [])
      ∙ ap (λ l. l ++ (b ++ [])) (sym (flat_map-append pages_of_chain s.chains (map (λ (y : MadeFile). y.chain) (q2.before ++ q2.after))) ∙ chained_parts s.chains q2.before q2.after)
      ∙ ap (λ l. (a ++ c) ++ l) (append-nil b)
      ∙ append_assoc a c b

  once_then : are_new [] (chained then') ≡ true
  once_then = ap (are_new []) chained_now ∙ swapped a b c (ap (are_new []) (sym chained_was) ∙ m.once)

  own_then : (k : ℕ) → In k (chained then') → In k (chained s)
  own_then k i =
      subst (λ l. In k l) (sym chained_was)
      (elim (In-cases k a (c ++ b) (subst (λ l. In k l) chained_now i)) [
        | inl j ↦ In-left k a (b ++ c) j
        | inr j ↦ In-right k a (b ++ c) (elim (In-cases k c b j) [ inl l ↦ In-right k b c l | inr l ↦ In-left k b c l ])
      ])

  numbers_then : are_new [] (map (λ (y : MadeFile). y.ino) (then'.made ++ then'.cleared)) ≡ true
  numbers_then =
      let front : List ℕ = map number_of q2.before in
      let back : List ℕ = map number_of q2.after ++ map number_of s.cleared in
      let was : map number_of (s.made ++ s.cleared) ≡ front ++ ((x.ino ∷ []) ++ back) = search (arith, q2, map-append, append_assoc) in
      let fewer : are_new [] (map number_of rest ++ map number_of s.cleared) ≡ true =
      ap (λ l. are_new [] (map number_of l ++ map number_of s.cleared)) q2.rest
      ∙ ap (λ l. are_new [] (l ++ map number_of s.cleared)) (map-append number_of q2.before q2.after)
      ∙ ap (are_new []) (append_assoc front (map number_of q2.after) (map number_of s.cleared))
      ∙ shorter front (x.ino ∷ []) back (ap (are_new []) (sym was) ∙ m.made.once) in
      ap (are_new []) (map-append number_of then'.made then'.cleared ∙ ap (λ l. l ++ map number_of s.cleared) (map-append number_of rest (placed ∷ [])))
      ∙ one_more (map number_of rest) (map number_of s.cleared) e.ino fewer
      (λ i. elim (In-cases e.ino (map number_of rest) (map number_of s.cleared) i) [
        | inl j ↦ (let y = map-In number_of e.ino rest j in (In-without e.ino y.0 s.made y.1).1 (sym y.2))
        | inr j ↦ uncleared j
      ])

  edits_dirs : EditsDirs desk s then'
  edits_dirs = record {
    writes = writes;
    opens = λ k kind' o. inl (record { opens = open_was k kind' o; chain = chain_still k; body = body_still k });
    own = own_then;
    once = once_then;
    numbers = λ y i. elim (kept_or y i) [
      | inl j ↦ m.made.numbers y j.0
      | inr same ↦ subst (λ (z : MadeFile). In z.ino (ino_numbers s.parcel.inodes)) (sym same) allotted
    ];
    gone = m.made.gone;
    made_once = numbers_then;
    apart = λ y i. elim (kept_or y i) [
      | inl j ↦ unlent_still s then' writes y.ino (m.made.apart y j.0)
      | inr same ↦ unlent_still s then' writes y.ino (subst (IsUnlent s) (at.1 ∙ sym (ap number_of same)) (m.made.apart x at.0))
    ];
    slots = slots_then;
  }

  others : OthersStay s then' e.ino
  others = search (arith, kept_or, body_kept, found_else)

  -- ---- what is shown

  module _ (nodes nodes' : Nodes) (rows : List (Option Row)) (v : IsView desk (in_hand s) (in_hand then') nodes nodes' rows) where
    here : (d : ℕ) × (made_met s d x ≡ met_in plain (r desk s dir (in_hand then') nodes nodes' rows m v q.entry.opens).is.met.ino (listed_on s num place.slot e))
    here =
        made_slot desk s dir (in_hand then') nodes nodes' rows m v q.entry.opens num place.slot e from_place.there.block from_place.there.slot from_place.says x at.0 at.1

    moves_file : MovesFile desk s dir dir2 place place2 e old name kind body q (rest ++ placed ∷ []) s.cleared nodes nodes' rows v
    moves_file = record {
      kind_is = kind_is ∙ ap (λ (z : Met). z.kind) here.1;
      takes = inl (allotted, body_to desk s dir dir2 place place2 e old name kind body q ∙ body_is ∙ ap (λ (z : Met). z.body) here.1);
      listed = record {
        mine = λ y i same. elim (kept_or y i) [
          | inl j ↦ absurd (j.1 same)
          | inr is ↦
              let d : ℕ = (slot_to desk s dir dir2 place place2 e old name kind body q (rest ++ placed ∷ []) s.cleared nodes nodes' rows v).directory.ino in
              let as_met : List ℕ → Met = λ l. record { ino = e.ino; kind = kind; parent = d; page = num2; slot = place2.slot; body = l } in
              (d, (allotted, ap (made_met then' d) is ∙ ap as_met (body_now desk s dir dir2 place place2 e old name kind body q ∙ sym (body_to desk s dir dir2 place place2 e old name kind body q))))
        ];
        made = λ y is. ap (λ (z : Met). is_some (made_file then' z.ino)) is.1 ∙ ap is_some found_now;
        rights = search (arith, named_so, allotted);
      };
    }

  pub made_moves : StaysTree desk s (fill dir2 name e.ino kind body (clear dir old s)) (with_changed e.ino (moved dir2 name))
      → Changes desk s (fill dir2 name e.ino kind body (clear dir old s)) (with_changed e.ino (moved dir2 name))
  made_moves tree =
      let change : Nodes → Nodes = with_changed e.ino (moved dir2 name) in
      let tree' : StaysTree desk s then' (with_changed e.ino (moved dir2 name)) = subst (λ y. StaysTree desk s y change) move_is tree in
      subst (λ y. Changes desk s y change) (sym move_is)
      (changes_by desk s then' e.ino change m edits_dirs others
      (λ nodes nodes' rows v. moved_turns desk s dir dir2 place place2 e old name kind body q (rest ++ placed ∷ []) s.cleared nodes nodes' rows v (moves_file nodes nodes' rows v) tree') tree')

  -- ---- what is left

  open_now : open_kind then' e.ino ≡ open_kind s e.ino
  open_now = search (arith, open_placed)

  -- the same numbers are used
  used_then : (k : ℕ) → In k (map number_of (then'.made ++ s.cleared)) → In k (map number_of (s.made ++ s.cleared))
  used_then k i =
      let back : In k (map number_of s.made) ⊎ In k (map number_of s.cleared) → In k (map number_of (s.made ++ s.cleared)) = search (arith, map-append, In-left, In-right) in
      elim (In-cases k (map number_of then'.made) (map number_of s.cleared) (subst (λ l. In k l) (map-append number_of then'.made s.cleared) i)) [
        | inr j ↦ back (inr j)
        | inl j ↦
            let y = map-In number_of k then'.made j in
            elim (kept_or y.0 y.1) [
              | inl l ↦ back (inl (subst (λ z. In z (map number_of s.made)) (sym y.2) (In-map number_of y.0 s.made l.0)))
              | inr same ↦ back (inl (subst (λ z. In z (map number_of s.made)) (at.1 ∙ sym (y.2 ∙ ap number_of same)) (In-map number_of x s.made at.0)))
            ]
      ]

  used_now : (k : ℕ) → In k (map number_of (s.made ++ s.cleared)) → In k (map number_of (then'.made ++ s.cleared))
  used_now k i =
      let there : In k (map number_of then'.made) ⊎ In k (map number_of s.cleared) → In k (map number_of (then'.made ++ s.cleared)) = search (arith, map-append, In-left, In-right) in
      let put : In k (map number_of rest) ⊎ (k ≡ e.ino) → In k (map number_of then'.made) = λ j. subst (λ l. In k l) (sym (map-append number_of rest (placed ∷ [])))
      (elim j [ inl l ↦ In-left k (map number_of rest) (e.ino ∷ []) l | inr l ↦ In-right k (map number_of rest) (e.ino ∷ []) (inl l) ]) in
      elim (In-cases k (map number_of s.made) (map number_of s.cleared) (subst (λ l. In k l) (map-append number_of s.made s.cleared) i)) [
        | inr j ↦ there (inr j)
        | inl j ↦ elim (In-parted e.ino k s.made j) [
          | inl l ↦ there (inl (put (inl l)))
          | inr l ↦
              let y = map-In number_of k (filter (is_of e.ino) s.made) l in
              there (inl (put (inr (y.2 ∙ eqb-true y.0.ino e.ino (filter-In (is_of e.ino) y.0 s.made y.1).1))))
        ]
      ]

  pub made_left : LeavesMoved s (fill dir2 name e.ino kind body (clear dir old s)) dir dir2 place place2 (record { ino = e.ino; kind = kind; name = name })
  made_left =
      subst (λ y. LeavesMoved s y dir dir2 place place2 (record { ino = e.ino; kind = kind; name = name })) (sym move_is) (record {
        files = leaves_files desk s then' (dir ∷ dir2 ∷ []) e.ino m (record {
          writes = writes;
          found = found_else;
          bodies = λ y i d. body_kept desk s dir dir2 place place2 e old name kind body q y i d;
          within = moved_within desk s dir dir2 place place2 e old name kind body q (rest ++ placed ∷ []) s.cleared;
        });
        opens = open_now;
        chain = chain_placed;
        body = body_placed;
        from =
            has_slot s then' dir place None q.entry.opens (open_still dir Directory q.entry.opens) (chain_still dir) (from_has desk s dir dir2 place place2 e old name kind body q);
        to =
            has_slot s then' dir2 place2 (Some (record { ino = e.ino; kind = kind; name = name })) q.opens2 (open_still dir2 Directory q.opens2) (chain_still dir2) (to_has desk s dir dir2 place place2 e old name kind body q);
        numbers = spare_same s then' writes.touches.inodes used_then used_now;
      })
