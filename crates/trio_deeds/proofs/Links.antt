-- A link is made: its number is allotted, and what a session shows of it on the way.
use Rattle.std.proofs.Common.{◌≡◌, ◌⊎◌, ◌++◌, ◌∷◌, ◌∙◌, ◌*◌, ℕ, Bool, List, [], Option, Some, None, true, false, inl, inr, cond, eqb, not, refl, ap, sym, subst, arith}
use Rattle.std.proofs.lemmas.Bool.{cases_eq}
use Rattle.std.proofs.lemmas.List.Folds.{find-append}
use Rattle.std.specs.List.{filter, find}
use Rattle.std.specs.Option.{is_some, option_map, option_map_or, option_or}
use Rattle.std.specs.Prelude.{drop, length, map, min, slice_index_or, slice_set, take}
use Rattle.trio_lists.specs.Lists.{In, is_among}
use Rattle.trio_lists.proofs.Filters.{filter-In}
use Rattle.trio_lists.proofs.Members.{In-is_among}
use Rattle.trio_page.specs.Field.{with_part}
use Rattle.trio_rights.specs.declared.kind.Kind.{Kind}
use Rattle.trio_layout.specs.Body.{block_count}
use Rattle.trio_layout.specs.Chain.{Chain}
use Rattle.trio_layout.specs.Slot.{entry_bytes}
use Rattle.trio_layout.specs.declared.slot.EntryPart.{EntryPart}
use Rattle.trio_auxdir.specs.declared.place.Place.{Place}
use Rattle.trio_desk.specs.Out.{Parcel, ino_numbers, page_numbers}
use Rattle.trio_session.specs.Layout.{chain_grown, filled, growth, page_in}
use Rattle.trio_session.specs.Seen.{MadeFile, Room, SessionSeen, block_number, chain_in, cleared_file, empty_shown, fill, filled_at, grant_in, grown, is_allotted, kept_chain, lower, lowest_from, made_chained, made_file, no_chain, open_kind, place_in, placed_made, spare_number, spare_numbers, spare_pages, used_numbers}
use Rattle.trio_session.proofs.Filling.{filled_found, grant_unmade}
use Rattle.trio_session.proofs.Stays.{page_leaves}

-- ---- the number

-- what is there
pub some_of : {X : Type 0} (o : Option X) → is_some o ≡ true → (x : X) × (o ≡ Some x)
some_of None t = absurd (let u : false ≡ true = t in cc u)
some_of (Some x) t = (x, refl)

-- the lowest of some numbers is one of them
lowest-In : (best : Option ℕ) (ns : List ℕ) (n : ℕ) → lowest_from best ns ≡ Some n → (best ≡ Some n) ⊎ In n ns
lowest-In best [] n e = inl e
lowest-In best (m ∷ ns) n e = elim (lowest-In (lower best m) ns n e) [ inr i ↦ inr (inr i) | inl h ↦ by best h ]
  where
    by : (o : Option ℕ) → lower o m ≡ Some n → (o ≡ Some n) ⊎ In n (m ∷ ns)
    by None h = (let t : Some m ≡ Some n = h in let same : m ≡ n = cc t in inr (inl (sym same)))
    by (Some k) h =
        let t : Some (min k m) ≡ Some n = h in
        let same : min k m ≡ n = cc t in
        elim (cases_eq (min k m) k) [
          | inl first ↦ inl (ap Some (sym first ∙ same))
          | inr other ↦ (let second : min k m ≡ m = omega (arith, other) in inr (inl (sym same ∙ second)))
        ]

-- the lowest spare number is allotted
pub spare_is_allotted : (s : SessionSeen) (n : ℕ) → spare_number s ≡ Some n → is_allotted s n ≡ true
spare_is_allotted s n e = elim (lowest-In None (spare_numbers s) n e) [
  | inl none ↦ absurd (let t : None ≡ Some n = none in cc t)
  | inr i ↦ In-is_among n (ino_numbers s.parcel.inodes) (filter-In (λ k. not (is_among k (used_numbers s))) n (ino_numbers s.parcel.inodes) i).0
]

-- ---- after the fill

-- a file that was made is of its own kind
kind_first : (o : Option MadeFile) (w : Option Kind) (x : MadeFile) → o ≡ Some x → option_or (option_map (λ m. m.kind) o) w ≡ Some x.kind
kind_first o w x e = ap (λ q. option_or (option_map (λ (m : MadeFile). m.kind) q) w) e

module _ (s : SessionSeen) (dir ino : ℕ) (name : List ℕ) (kind : Kind) (body : List ℕ) (place : Place) (empty : empty_shown s dir ≡ Some place) (allotted : is_allotted s ino ≡ true)
    (unlent : grant_in s ino ≡ None) (uncleared : cleared_file s ino ≡ None) where
  abbrev entry : EntryPart
  entry = record { ino = ino; kind = kind; name = name }

  abbrev page : ℕ
  page = block_number s dir place.block

  found : made_file (fill dir name ino kind body s) ino ≡ Some (placed_made s ino kind (block_number s dir place.block) place.slot)
  unfolding fill
  found =
      ap (λ o. made_file (option_map_or (λ p. filled_at dir p (record { ino = ino; kind = kind; name = name }) body s) o s) ino) empty
      ∙ filled_found s (filled page place.slot entry body s.parcel) s.room ino kind page place.slot allotted (grant_unmade s ino unlent)

  pub filled_kind : open_kind (fill dir name ino kind body s) ino ≡ Some kind
  filled_kind = kind_first (made_file (fill dir name ino kind body s) ino) _ (placed_made s ino kind (block_number s dir place.block) place.slot) found

  pub filled_made : (x : MadeFile) × (made_file (fill dir name ino kind body s) ino ≡ Some x) × (x.kind ≡ kind)
  filled_made = (placed_made s ino kind (block_number s dir place.block) place.slot, found, refl)

  pub filled_chain : chain_in (fill dir name ino kind body s) ino ≡ no_chain
  filled_chain =
      ap (λ o. option_map_or (λ (m : MadeFile). m.chain) o (option_map_or (λ i. slice_index_or (fill dir name ino kind body s).chains i no_chain) (place_in (fill dir name ino kind body s) ino) no_chain)) found
      ∙ ap (λ o. option_map_or (λ (m : MadeFile). m.chain) o no_chain) uncleared

  pub filled_spare : spare_pages (fill dir name ino kind body s) ≡ spare_pages s
  unfolding fill
  filled_spare =
      let b' = filled page place.slot entry body s.parcel in
      let more : SessionSeen = record s { made = s.made ++ placed_made s ino kind page place.slot ∷ []; cleared = filter (λ (m : MadeFile). not (eqb m.ino ino)) s.cleared } in
      ap (λ o. spare_pages (option_map_or (λ p. filled_at dir p (record { ino = ino; kind = kind; name = name }) body s) o s)) empty
      ∙ ap (λ t. spare_pages (record (cond t more s) { parcel = b' })) allotted
      ∙ ap (λ ns. drop s.placed ns) (page_leaves page (with_part (256 * place.slot) (entry_bytes entry ++ body) (page_in s.parcel page)) s.parcel).pages

-- ---- after the growth

-- the file is of its kind, with another chain
chained_kind : (ino : ℕ) (c : Chain) (ms : List MadeFile) (x : MadeFile) → find (λ m. eqb m.ino ino) ms ≡ Some x
    → option_map (λ m. m.kind) (find (λ m. eqb m.ino ino) (map (made_chained ino c) ms)) ≡ Some x.kind
chained_kind ino c [] x e = absurd (let t : None ≡ Some x = e in cc t)
chained_kind ino c (m ∷ ms) x e = by (eqb m.ino ino) refl e (λ h. chained_kind ino c ms x h)
  where
    by : (t : Bool) → eqb m.ino ino ≡ t → cond t (Some m) (find (λ k. eqb k.ino ino) ms) ≡ Some x
        → (find (λ k. eqb k.ino ino) ms ≡ Some x → option_map (λ k. k.kind) (find (λ k. eqb k.ino ino) (map (made_chained ino c) ms)) ≡ Some x.kind)
        → option_map (λ k. k.kind) (cond (eqb (cond t (record m { chain = c }) m).ino ino) (Some (cond t (record m { chain = c }) m)) (find (λ k. eqb k.ino ino) (map (made_chained ino c) ms))) ≡ Some x.kind
    by true is h rest =
        ap (λ b. option_map (λ (k : MadeFile). k.kind) (cond b (Some (record m { chain = c })) (find (λ (k : MadeFile). eqb k.ino ino) (map (made_chained ino c) ms)))) is ∙ ap (option_map (λ (k : MadeFile). k.kind)) h
    by false is h rest =
        ap (λ b. option_map (λ (k : MadeFile). k.kind) (cond b (Some m) (find (λ (k : MadeFile). eqb k.ino ino) (map (made_chained ino c) ms)))) is ∙ rest h

pub grown_kind : (s : SessionSeen) (ino size : ℕ) (x : MadeFile) → made_file s ino ≡ Some x → open_kind (grown ino size s) ino ≡ Some x.kind
unfolding grown
grown_kind s ino size x found =
    let chain = chain_grown (chain_in s ino) (block_count size) (take (growth (length (chain_in s ino).blocks) (block_count size)) (spare_pages s)) in
    let more : SessionSeen = record s { made = map (made_chained ino chain) s.made } in
    let other : SessionSeen = record s { chains = option_map_or (λ i. slice_set s.chains i chain) (place_in s ino) s.chains } in
    let by : (w : Option Kind) → option_or (option_map (λ (m : MadeFile). m.kind) (made_file (cond (is_some (made_file s ino)) more other) ino)) w ≡ Some x.kind =
    λ w.
    ap (λ t. option_or (option_map (λ (m : MadeFile). m.kind) (made_file (cond t more other) ino)) w) (ap is_some found)
    ∙ ap (λ o. option_or o w) (chained_kind ino chain s.made x found) in
    by _

-- a growth doesn't go by room
pub grown_roomed : (x : SessionSeen) (ino size : ℕ) (r1 r2 : Room) → record (grown ino size (record x { room = r1 })) { room = r2 } ≡ record (grown ino size x) { room = r2 }
unfolding grown
grown_roomed x ino size r1 r2 = by (is_some (made_file x ino))
  where
    by : (t : Bool)
        → record (cond {A = SessionSeen} t (record (record x { room = r1 }) { made = map (made_chained ino (chain_grown (chain_in x ino) (block_count size) (take (growth (length (chain_in x ino).blocks) (block_count size)) (spare_pages x)))) x.made }) (record (record x { room = r1 }) { chains = option_map_or (λ i. slice_set x.chains i (chain_grown (chain_in x ino) (block_count size) (take (growth (length (chain_in x ino).blocks) (block_count size)) (spare_pages x)))) (place_in x ino) x.chains })) { parcel = (grown ino size x).parcel; placed = (grown ino size x).placed; room = r2 }
        ≡ record (cond {A = SessionSeen} t (record x { made = map (made_chained ino (chain_grown (chain_in x ino) (block_count size) (take (growth (length (chain_in x ino).blocks) (block_count size)) (spare_pages x)))) x.made }) (record x { chains = option_map_or (λ i. slice_set x.chains i (chain_grown (chain_in x ino) (block_count size) (take (growth (length (chain_in x ino).blocks) (block_count size)) (spare_pages x)))) (place_in x ino) x.chains })) { parcel = (grown ino size x).parcel; placed = (grown ino size x).placed; room = r2 }
    by true = refl
    by false = refl
