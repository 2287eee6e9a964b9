-- What a file takes with it is there still once there is room for it.
use Rattle.trio_calls_dir.proofs.Words.{◌++◌, ◌+◌, ◌∙◌, ◌∷◌, ◌≡◌, Bool, Chain, DeskSeen, HoldLease, HoldParts, In, In-cases, In-is_among, Kind, List, MadeFile, MayEdit, ModeSet, None, NotGiven, NotLent, NotModeSet, NotSettled, Option, ReadLease, SessionSeen, Settled, Some, Told, WriteLease, [], ap, block_count, body_in, chain_in, cond, empty_shown, eqb, false, false≢true, find, held_file, inl, ino_numbers, inr, is_allotted, is_among, is_among-In, is_some, length, made_body, made_file, map, moved_shown, not, option_map, option_map_or, option_or, place_in, refl, size_in, spare_numbers, spare_pages, subst, sym, took, true, used_numbers, with_lease, with_slot, ℕ}
use Rattle.std.proofs.Common.{◌||◌}
use Rattle.std.specs.Prelude.{slice_set, take}
use Rattle.trio_lists.proofs.Filters.{In-filter}
use Rattle.trio_lists.proofs.Members.{map-In}
use Rattle.trio_desk.specs.Call.{Lent, Given, Done, Judged, NotJudged}
use Rattle.trio_session.specs.Asked.{with_allotted}
use Rattle.trio_session.specs.Layout.{chain_grown, growth}
use Rattle.trio_session.specs.Seen.{grown, made_chained, with_chain}

-- ---- files that were made are made still

-- the numbers of files that were made
abbrev pub made_numbers : SessionSeen → List ℕ
made_numbers s = map (λ (m : MadeFile). m.ino) s.made

pub took_used : (s : SessionSeen) (a : List Told) → ((took s a).made ≡ s.made) × ((took s a).cleared ≡ s.cleared)
took_used s [] = (refl, refl)
took_used s (Lent (WriteLease f) ∷ a) = took_used (with_lease s (WriteLease f)) a
took_used s (Lent (ReadLease f) ∷ a) = took_used (with_lease s (ReadLease f)) a
took_used s (Lent (HoldLease h) ∷ a) = took_used (with_lease s (HoldLease h)) a
took_used s (Given pages numbers ∷ a) = took_used (with_allotted s pages numbers) a
took_used s (NotLent f ∷ a) = took_used s a
took_used s (NotGiven f ∷ a) = took_used s a
took_used s (Done ∷ a) = took_used s a
took_used s (Judged x ∷ a) = took_used s a
took_used s (NotJudged f ∷ a) = took_used s a
took_used s (Settled ∷ a) = took_used s a
took_used s (NotSettled ∷ a) = took_used s a
took_used s (ModeSet ∷ a) = took_used s a
took_used s (NotModeSet f ∷ a) = took_used s a

chained_ino : (ino : ℕ) (chain : Chain) (m : MadeFile) → (made_chained ino chain m).ino ≡ m.ino
chained_ino ino chain m = by (eqb m.ino ino)
  where
    by : (b : Bool) → (cond {A = MadeFile} b (record m { chain = chain }) m).ino ≡ m.ino
    by true = refl
    by false = refl

chained_numbers : (ino : ℕ) (chain : Chain) (ms : List MadeFile) → map (λ (m : MadeFile). m.ino) (map (made_chained ino chain) ms) ≡ map (λ (m : MadeFile). m.ino) ms
chained_numbers ino chain [] = refl
chained_numbers ino chain (m ∷ ms) =
    ap (λ n. n ∷ map (λ (x : MadeFile). x.ino) (map (made_chained ino chain) ms)) (chained_ino ino chain m) ∙ ap (λ l. m.ino ∷ l) (chained_numbers ino chain ms)

with_chain_used : (ino : ℕ) (chain : Chain) (s : SessionSeen) → (made_numbers (with_chain ino chain s) ≡ made_numbers s) × ((with_chain ino chain s).cleared ≡ s.cleared)
with_chain_used ino chain s = by (is_some (made_file s ino))
  where
    other : SessionSeen
    other = record s { chains = option_map_or (λ i. slice_set s.chains i chain) (place_in s ino) s.chains }

    by : (b : Bool) → (made_numbers (cond {A = SessionSeen} b (record s { made = map (made_chained ino chain) s.made }) other) ≡ made_numbers s)
        × ((cond {A = SessionSeen} b (record s { made = map (made_chained ino chain) s.made }) other).cleared ≡ s.cleared)
    by true = (chained_numbers ino chain s.made, refl)
    by false = (refl, refl)

grown_used : (ino size : ℕ) (s : SessionSeen) → (made_numbers (grown ino size s) ≡ made_numbers s) × ((grown ino size s).cleared ≡ s.cleared)
unfolding grown
grown_used ino size s =
    let chain : Chain = chain_in s ino in
    with_chain_used ino (chain_grown chain (block_count size) (take (growth (length chain.blocks) (block_count size)) (spare_pages s))) s

pub slot_used : (dir : ℕ) (s : SessionSeen) → (made_numbers (with_slot dir s) ≡ made_numbers s) × ((with_slot dir s).cleared ≡ s.cleared)
slot_used dir s = by (is_some (empty_shown s dir))
  where
    size : ℕ
    size = size_in (body_in s dir) + 4096

    by : (b : Bool) → (made_numbers (cond {A = SessionSeen} b s (grown dir size s)) ≡ made_numbers s) × ((cond {A = SessionSeen} b s (grown dir size s)).cleared ≡ s.cleared)
    by true = (refl, refl)
    by false = grown_used dir size s

-- a file is among those that were made by its number alone
found_among : (ms : List MadeFile) (n : ℕ) → is_some (find (λ (m : MadeFile). eqb m.ino n) ms) ≡ is_among n (map (λ (m : MadeFile). m.ino) ms)
found_among [] n = refl
found_among (m ∷ ms) n = by (found_among ms n) (eqb m.ino n)
  where
    by : is_some (find (λ (x : MadeFile). eqb x.ino n) ms) ≡ is_among n (map (λ (x : MadeFile). x.ino) ms) → (b : Bool) → is_some (cond b (Some m) (find (λ (x : MadeFile). eqb x.ino n) ms)) ≡ (b || is_among n (map (λ (x : MadeFile). x.ino) ms))
    by rest true = refl
    by rest false = rest

map-append-made : (a b : List MadeFile) → map (λ (m : MadeFile). m.ino) (a ++ b) ≡ map (λ (m : MadeFile). m.ino) a ++ map (λ (m : MadeFile). m.ino) b
map-append-made [] b = refl
map-append-made (m ∷ a) b = ap (λ l. m.ino ∷ l) (map-append-made a b)

-- ---- what it takes

module _ (s s1 : SessionSeen) (numbers : made_numbers s1 ≡ made_numbers s) (cleared : s1.cleared ≡ s.cleared) (holds : s1.parcel.holds ≡ s.parcel.holds) (spent : spare_numbers s1 ≡ []) (desk : DeskSeen) (m : MayEdit desk s) where
  made_same : (n : ℕ) → is_some (made_file s1 n) ≡ is_some (made_file s n)
  made_same n = found_among s1.made n ∙ ap (is_among n) numbers ∙ sym (found_among s.made n)

  used_same : used_numbers s1 ≡ used_numbers s
  used_same =
      map-append-made s1.made s1.cleared ∙ ap (λ l. l ++ map (λ (x : MadeFile). x.ino) s1.cleared) numbers
      ∙ ap (λ (l : List MadeFile). made_numbers s ++ map (λ (x : MadeFile). x.ino) l) cleared ∙ sym (map-append-made s.made s.cleared)

  -- no other number is allotted
  allotted_before : (n : ℕ) → is_allotted s1 n ≡ true → is_allotted s n ≡ true
  allotted_before n among = by (is_among n (used_numbers s1)) refl
    where
      all : List ℕ
      all = ino_numbers s.parcel.inodes

      by : (b : Bool) → is_among n (used_numbers s1) ≡ b → is_among n (ino_numbers s.parcel.inodes) ≡ true
      by false e =
          let i : In n (spare_numbers s1) = In-filter (λ k. not (is_among k (used_numbers s1))) n (ino_numbers s1.parcel.inodes) (is_among-In n (ino_numbers s1.parcel.inodes) among) (ap not e) in
          absurd (subst (λ l. In n l) spent i)
      by true e =
          let i : In n (used_numbers s) = is_among-In n (used_numbers s) (sym (ap (is_among n) used_same) ∙ e) in
          let x = map-In (λ (y : MadeFile). y.ino) n (s.made ++ s.cleared) i in
          let here : In x.0.ino (ino_numbers s.parcel.inodes) = elim (In-cases x.0 s.made s.cleared x.1) [ inl a ↦ m.made.numbers x.0 a | inr b ↦ m.made.gone x.0 b ] in
          In-is_among n (ino_numbers s.parcel.inodes) (subst (λ k. In k (ino_numbers s.parcel.inodes)) (sym x.2) here)

  pub takes_still : (n : ℕ) → is_some (moved_shown s n) ≡ true → is_some (moved_shown s1 n) ≡ true
  takes_still n takes = by (made_file s n) refl (made_file s1 n) refl
    where
      held_one : SessionSeen → Option (Kind × List ℕ)
      held_one q = option_map {T = HoldParts} {U = Kind × List ℕ} (λ h. (h.kind, h.body)) (held_file q n)

      rest : SessionSeen → Option (Kind × List ℕ)
      rest q = cond (is_allotted q n) None (held_one q)

      all : SessionSeen → Option MadeFile → Option (Kind × List ℕ)
      all q o = option_or (option_map {T = MadeFile} {U = Kind × List ℕ} (λ x. (x.kind, made_body q x)) o) (rest q)

      held_same : held_one s1 ≡ held_one s
      held_same = ap (λ (hs : List HoldParts). option_map {T = HoldParts} {U = Kind × List ℕ} (λ h. (h.kind, h.body)) (find (λ (h : HoldParts). eqb h.ino n) hs)) holds

      unallotted : (b c : Bool) (o : Option (Kind × List ℕ)) → (c ≡ true → b ≡ true) → is_some (cond b None o) ≡ true → is_some (cond c None o) ≡ true
      unallotted true c o f t = absurd (false≢true t)
      unallotted false false o f t = t
      unallotted false true o f t = absurd (false≢true (f refl))

      by : (o : Option MadeFile) → made_file s n ≡ o → (o1 : Option MadeFile) → made_file s1 n ≡ o1 → is_some (moved_shown s1 n) ≡ true
      by o e (Some x) e1 = ap (λ q. is_some (all s1 q)) e1
      by (Some x) e None e1 = (let wrong : false ≡ true = sym (ap is_some e1) ∙ made_same n ∙ ap is_some e in absurd (false≢true wrong))
      by None e None e1 =
          let was : is_some (rest s) ≡ true = sym (ap (λ q. is_some (all s q)) e) ∙ takes in
          let now : is_some (cond (is_allotted s1 n) None (held_one s)) ≡ true = unallotted (is_allotted s n) (is_allotted s1 n) (held_one s) (allotted_before n) was in
          ap (λ q. is_some (all s1 q)) e1 ∙ ap (λ q. is_some (cond (is_allotted s1 n) None q)) held_same ∙ now
