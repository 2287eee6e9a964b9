-- What an edit of one open file leaves of the others: which files are open, by which chains, with which bodies.
use Rattle.trio_edit_laws.proofs.Words.{◌<◌, ◌∙◌, ◌≡◌, Bool, Chain, Kind, LentFile, MadeFile, None, Option, Parcel, SessionSeen, Shown, Some, Written, [], ap, arith, bare_file, body_in, cases_eq, chain_in, eqb, eqb-true, file_numbers, find, find-In, find-position, find_map, inl, inr, length, length-map, made_body, made_file, map, map-map, map_alike, no_chain, open_kind, option_map, option_map_or, option_or, place_in, position, refl, slice_get, slice_get-get_or, slice_get-map, slice_get_within, slice_index_or, slice_set, some_one, sym, with_chain, written_file, ℕ}
use Rattle.std.proofs.lemmas.List.{get_or-set_other, get_or-set_same}
use Rattle.trio_session.proofs.Found.{position-map}
use Rattle.trio_edit_laws.proofs.Opens.{OpenWritten, chain-made, chain-written, chains-made, chains-written, made-written, made_file-here, made_file-other, opened, with_chain-written}
use Rattle.trio_edit_laws.proofs.Touches.{bare_files}
use Rattle.trio_edit_laws.proofs.session.EditedWalk.{find-same}

-- the written files are as they were, but for the bodies of those of one number
pub record FilesAnew (b b' : Parcel) (ino' : ℕ) : Type 0 where
  pub change : Written → Written
  pub files : bare_files b' ≡ map change (bare_files b)
  pub number : (w : Written) → (change w).ino ≡ w.ino
  pub kind : (w : Written) → (change w).kind ≡ w.kind
  pub other : (w : Written) → (w.ino ≡ ino' → ⊥) → change w ≡ w

-- the session is as it was, but for its pages, the file's chain, and how many pages are in place
pub record IsAnew (s s' : SessionSeen) (ino' : ℕ) (chain' : Chain) : Type 0 where
  pub lib : s'.lib ≡ s.lib
  pub creds : s'.creds ≡ s.creds
  pub reads : s'.reads ≡ s.reads
  pub chains : s'.chains ≡ (with_chain ino' chain' s).chains
  pub made : s'.made ≡ (with_chain ino' chain' s).made
  pub cleared : s'.cleared ≡ s.cleared
  pub indexed : s'.indexed ≡ s.indexed

map-option : {X Y Z : Type 0} (f : X → Y) (g : Y → Z) (o : Option X) → option_map g (option_map f o) ≡ option_map (λ x. g (f x)) o
map-option f g None = refl
map-option f g (Some x) = refl

abbrev pub number_is : ℕ → LentFile → Bool
number_is n f = eqb f.stands.ino n

abbrev bare_is : ℕ → Written → Bool
bare_is n w = eqb w.ino n

abbrev pub bare_of : LentFile → Written
bare_of f = bare_file f.stands

-- ---- written files

module _ (b b' : Parcel) (ino : ℕ) (a : FilesAnew b b' ino) where
  pub numbers_anew : file_numbers b'.writes ≡ file_numbers b.writes
  numbers_anew =
      sym (map-map (λ (w : Written). w.ino) bare_of b'.writes)
      ∙ ap (map (λ (w : Written). w.ino)) a.files
      ∙ map-map (λ (w : Written). w.ino) a.change (bare_files b)
      ∙ map_alike (λ w. (a.change w).ino) (λ w. w.ino) (bare_files b) a.number
      ∙ map-map (λ (w : Written). w.ino) bare_of b.writes

  -- the first file of a number
  pub bare_anew : (n : ℕ) → option_map bare_of (find (number_is n) b'.writes) ≡ option_map a.change (option_map bare_of (find (number_is n) b.writes))
  bare_anew n =
      sym (find_map (bare_is n) bare_of b'.writes)
      ∙ ap (find (bare_is n)) a.files
      ∙ find_map (bare_is n) a.change (bare_files b)
      ∙ ap (option_map a.change) (find-same (λ w. eqb (a.change w).ino n) (bare_is n) (bare_files b) (λ w. ap (λ k. eqb k n) (a.number w)))
      ∙ ap (option_map a.change) (find_map (bare_is n) bare_of b.writes)

  pub kind_anew : (n : ℕ) → option_map (λ (f : LentFile). f.stands.kind) (find (number_is n) b'.writes) ≡ option_map (λ (f : LentFile). f.stands.kind) (find (number_is n) b.writes)
  kind_anew n =
      sym (map-option bare_of (λ (w : Written). w.kind) (find (number_is n) b'.writes))
      ∙ ap (option_map (λ (w : Written). w.kind)) (bare_anew n)
      ∙ map-option a.change (λ (w : Written). w.kind) (option_map bare_of (find (number_is n) b.writes))
      ∙ same (option_map bare_of (find (number_is n) b.writes))
      ∙ map-option bare_of (λ (w : Written). w.kind) (find (number_is n) b.writes)
    where
      same : (o : Option Written) → option_map (λ (w : Written). (a.change w).kind) o ≡ option_map (λ (w : Written). w.kind) o
      same None = refl
      same (Some w) = ap Some (a.kind w)

  -- one of another number is as it was
  pub other_anew : (n : ℕ) → (n ≡ ino → ⊥) → option_map bare_of (find (number_is n) b'.writes) ≡ option_map bare_of (find (number_is n) b.writes)
  other_anew n d = bare_anew n ∙ same (find (number_is n) b.writes) refl
    where
      same : (o : Option LentFile) → find (number_is n) b.writes ≡ o → option_map a.change (option_map bare_of o) ≡ option_map bare_of o
      same None e = refl
      same (Some f) e = ap Some (a.other (bare_of f) (λ k. d (sym (eqb-true f.stands.ino n (find-In (number_is n) b.writes f e).1) ∙ k)))

  -- no file of a number is written where none was
  pub none_anew : (n : ℕ) → option_map (λ (f : LentFile). f.stands) (find (number_is n) b.writes) ≡ None → option_map (λ (f : LentFile). f.stands) (find (number_is n) b'.writes) ≡ None
  none_anew n none = by (find (number_is n) b.writes) refl none (find (number_is n) b'.writes) (bare_anew n)
    where
      by : (q : Option LentFile) → find (number_is n) b.writes ≡ q → option_map (λ (f : LentFile). f.stands) q ≡ None → (r : Option LentFile)
          → option_map bare_of r ≡ option_map a.change (option_map bare_of (find (number_is n) b.writes)) → option_map (λ (f : LentFile). f.stands) r ≡ None
      by q e out r is = search arith

  pub place_anew : (n : ℕ) → position (number_is n) b'.writes ≡ position (number_is n) b.writes
  place_anew n =
      sym (position-map (λ k. eqb k n) (λ (f : LentFile). f.stands.ino) b'.writes) ∙ ap (position (λ k. eqb k n)) numbers_anew ∙ position-map (λ k. eqb k n) (λ (f : LentFile). f.stands.ino) b.writes

-- ---- files that are open

-- a file's number stands at its place
pub number_placed : (s : SessionSeen) (n i : ℕ) → place_in s n ≡ Some i → slice_get (file_numbers s.parcel.writes) i ≡ Some n
number_placed s n i at = by (find (number_is n) s.parcel.writes) refl
  where
    by : (o : Option LentFile) → find (number_is n) s.parcel.writes ≡ o → slice_get (file_numbers s.parcel.writes) i ≡ Some n
    by None e =
        let lt : i < length (file_numbers s.parcel.writes) = (let l = (find-position (number_is n) s.parcel.writes i at).1 in omega (arith, l, length-map s.parcel.writes (λ (f : LentFile). f.stands.ino))) in
        let none : slice_get (file_numbers s.parcel.writes) i ≡ None =
        slice_get-map (λ (f : LentFile). f.stands.ino) s.parcel.writes i ∙ ap (option_map (λ (f : LentFile). f.stands.ino)) (sym (find-position (number_is n) s.parcel.writes i at).0 ∙ e) in
        absurd (let wrong : None ≡ Some (slice_index_or (file_numbers s.parcel.writes) i 0) = sym none ∙ slice_get-get_or (file_numbers s.parcel.writes) i 0 lt in cc wrong)
    by (Some f) e =
        slice_get-map (λ (f : LentFile). f.stands.ino) s.parcel.writes i
        ∙ ap (option_map (λ (f : LentFile). f.stands.ino)) (sym (find-position (number_is n) s.parcel.writes i at).0 ∙ e)
        ∙ ap Some (eqb-true f.stands.ino n (find-In (number_is n) s.parcel.writes f e).1)

module _ (s s' : SessionSeen) (ino : ℕ) (chain : Chain) (a : IsAnew s s' ino chain) (w : FilesAnew s.parcel s'.parcel ino) where
  pub made_other : (n : ℕ) → (n ≡ ino → ⊥) → made_file s' n ≡ made_file s n
  made_other n d = ap (find (λ (m : MadeFile). eqb m.ino n)) a.made ∙ made_file-other s ino n chain d

  pub made_here : (m : MadeFile) → made_file s ino ≡ Some m → made_file s' ino ≡ Some (record m { chain = chain })
  made_here m found = ap (find (λ (m : MadeFile). eqb m.ino ino)) a.made ∙ made_file-here s ino chain m found

  pub made_none : made_file s ino ≡ None → made_file s' ino ≡ None
  made_none none = ap (find (λ (m : MadeFile). eqb m.ino ino)) (a.made ∙ made-written s ino chain none) ∙ none

  made_kind : (n : ℕ) → option_map (λ (m : MadeFile). m.kind) (made_file s' n) ≡ option_map (λ (m : MadeFile). m.kind) (made_file s n)
  made_kind n = search (arith, cases_eq, made_other, made_none, made_here)

  written_kind : (x : SessionSeen) (n : ℕ) → option_map (λ (f : Shown). f.kind) (written_file x n) ≡ option_map (λ (f : LentFile). f.stands.kind) (find (number_is n) x.parcel.writes)
  written_kind x n = map-option (λ (f : LentFile). f.stands) (λ (f : Shown). f.kind) (find (number_is n) x.parcel.writes)

  -- just those are open that were, with their kinds
  pub open_anew : (n : ℕ) → open_kind s' n ≡ open_kind s n
  open_anew n =
      ap (λ o. option_or o (option_map (λ (f : Shown). f.kind) (written_file s' n))) (made_kind n)
      ∙ ap (option_or (option_map (λ (m : MadeFile). m.kind) (made_file s n))) (written_kind s' n ∙ kind_anew s.parcel s'.parcel ino w n ∙ sym (written_kind s n))

  -- the file has the chain
  pub chain_here : (kind : Kind) → length s.chains ≡ length s.parcel.writes → open_kind s ino ≡ Some kind → chain_in s' ino ≡ chain
  chain_here kind beside e = elim (opened s ino kind e) [
    | inr m ↦ chain-made s' ino (record m.file { chain = chain }) (made_here m.file m.found)
    | inl o ↦ written o
  ]
    where
      written : OpenWritten s ino kind → chain_in s' ino ≡ chain
      written o =
          let lt : o.place < length s.chains = (let l = slice_get_within s.parcel.writes o.place o.file o.there in omega (arith, l, beside)) in
          chain-written s' ino o.place (made_none o.none) (place_anew s.parcel s'.parcel ino w ino ∙ o.at)
          ∙ ap (λ l. slice_index_or l o.place no_chain) (a.chains ∙ ap (λ (x : SessionSeen). x.chains) (with_chain-written s ino chain o.place o.none o.at))
          ∙ get_or-set_same s.chains o.place chain no_chain lt

  -- and every other the one that it had
  pub chain_other : (n : ℕ) → (n ≡ ino → ⊥) → chain_in s' n ≡ chain_in s n
  chain_other n d =
      ap (λ o. option_map_or (λ (m : MadeFile). m.chain) o (option_map_or (λ i. slice_index_or s'.chains i no_chain) (place_in s' n) no_chain)) (made_other n d)
      ∙ ap (λ o. option_map_or (λ (m : MadeFile). m.chain) (made_file s n) (option_map_or (λ i. slice_index_or s'.chains i no_chain) o no_chain)) (place_anew s.parcel s'.parcel ino w n)
      ∙ ap (option_map_or (λ (m : MadeFile). m.chain) (made_file s n)) (there (place_in s n) refl)
    where
      at : (i : ℕ) → place_in s n ≡ Some i → (o : Option MadeFile) → made_file s ino ≡ o → (q : Option ℕ) → place_in s ino ≡ q → slice_index_or s'.chains i no_chain ≡ slice_index_or s.chains i no_chain
      at i e (Some m) f q g = ap (λ l. slice_index_or l i no_chain) (a.chains ∙ chains-made s ino chain m f)
      at i e None f None g =
          ap (λ l. slice_index_or l i no_chain) (a.chains ∙ chains-written s ino chain f ∙ ap (λ o. option_map_or (λ k. slice_set s.chains k chain) o s.chains) g)
      at i e None f (Some j) g =
          ap (λ l. slice_index_or l i no_chain) (a.chains ∙ chains-written s ino chain f ∙ ap (λ o. option_map_or (λ k. slice_set s.chains k chain) o s.chains) g)
          ∙ get_or-set_other s.chains j i chain no_chain
          (λ k. d (some_one (slice_get (file_numbers s.parcel.writes) i) n ino (number_placed s n i e) (ap (slice_get (file_numbers s.parcel.writes)) k ∙ number_placed s ino j g)))

      there : (o : Option ℕ) → place_in s n ≡ o → option_map_or (λ i. slice_index_or s'.chains i no_chain) o no_chain ≡ option_map_or (λ i. slice_index_or s.chains i no_chain) o no_chain
      there None e = refl
      there (Some i) e = at i e (made_file s ino) refl (place_in s ino) refl

  -- a body is as it was where the slot of a file that was made has it still
  pub written_body : (x : SessionSeen) (n : ℕ) → option_map_or (λ (f : Shown). f.body) (written_file x n) [] ≡ option_map_or (λ (v : Written). v.body) (option_map bare_of (find (number_is n) x.parcel.writes)) []
  written_body x n = search arith

  pub body_other : (n : ℕ) → (n ≡ ino → ⊥) → ((m : MadeFile) → made_file s n ≡ Some m → made_body s' m ≡ made_body s m) → body_in s' n ≡ body_in s n
  body_other n d same =
      ap (λ o. option_map_or (made_body s') o (option_map_or (λ (f : Shown). f.body) (written_file s' n) [])) (made_other n d)
      ∙ ap (option_map_or (made_body s') (made_file s n))
      (written_body s' n ∙ ap (λ o. option_map_or (λ (v : Written). v.body) o []) (other_anew s.parcel s'.parcel ino w n d) ∙ sym (written_body s n))
      ∙ by (made_file s n) refl
    where
      by : (o : Option MadeFile) → made_file s n ≡ o → option_map_or (made_body s') o (option_map_or (λ (f : Shown). f.body) (written_file s n) []) ≡ option_map_or (made_body s) o (option_map_or (λ (f : Shown). f.body) (written_file s n) [])
      by None e = refl
      by (Some m) e = same m e

-- the body of a file that was made is its slot's, and of any other its lease's
pub body-made : (s : SessionSeen) (n : ℕ) (m : MadeFile) → made_file s n ≡ Some m → body_in s n ≡ made_body s m
body-made s n m found = ap (λ o. option_map_or (made_body s) o (option_map_or (λ (f : Shown). f.body) (written_file s n) [])) found

pub body-written : (s : SessionSeen) (n : ℕ) (f : Shown) → made_file s n ≡ None → written_file s n ≡ Some f → body_in s n ≡ f.body
body-written s n f none shown =
    ap (λ o. option_map_or (made_body s) o (option_map_or (λ (f : Shown). f.body) (written_file s n) [])) none ∙ ap (λ o. option_map_or (λ (f : Shown). f.body) o []) shown
