-- Each file is told once.
use Rattle.trio_entries.proofs.Words.{◌++◌, ◌∙◌, ◌∷◌, ◌≡◌, AreListedOnce, Bool, Bundle, Case, CaseShown, HoldParts, In, In-cases, In-list_any, In-map, LentFile, List, ListedEntry, Listing, None, Notes, Option, RawFile, Row, Some, Written, [], and_parts, ap, are_new, are_new-first, arith, bundle_in, cond, cons_option, entry_guard, entry_name, entry_size, eqb, false, false≢true, filter_map, inl, inr, is_listed, is_untold, lent_once, map, map-In, map-append, nat_tests, noted_guard, noted_name, noted_size, option_map, refl, row_after, row_in, size_in, subst, sym, told_entry, told_gone, told_row, told_same, told_written, true, whole_case, writes_of, ℕ}
use Rattle.std.proofs.lemmas.Bool.{and_from}
use Rattle.trio_lists.proofs.Gathered.{new_beside}
use Rattle.trio_layout.specs.Body.{guard_in}
use Rattle.trio_lists.proofs.Marked.{are_new-append}
use Rattle.trio_lists.proofs.New.{are_new-before, are_new-fewer}

-- ---- lists of distinct numbers

pub new_joined : (xs ys : List ℕ) → are_new [] xs ≡ true → are_new [] ys ≡ true → ((n : ℕ) → In n xs → In n ys → ⊥) → are_new [] (xs ++ ys) ≡ true
new_joined xs ys h k apart =
    are_new-append [] xs ys ∙ and_from (are_new [] xs) (are_new xs ys) h (new_beside xs ys k (λ n i j. apart n j i))

pub new_parts : (xs ys : List ℕ) → are_new [] (xs ++ ys) ≡ true → (are_new [] xs ≡ true) × (are_new [] ys ≡ true) × ((n : ℕ) → In n xs → In n ys → ⊥)
new_parts xs ys h =
    let p = and_parts (are_new [] xs) (are_new xs ys) (sym (are_new-append [] xs ys) ∙ h) in
    (p.0, are_new-fewer [] xs ys (λ n i. absurd i) p.1, λ n i j. are_new-before n xs ys p.1 j i)

module _ {X Y : Type 0} (key : X → ℕ) (number : Y → ℕ) (f : X → Option Y) (keeps : (x : X) (y : Y) → f x ≡ Some y → number y ≡ key x) where
  -- a number that is told is that of an element that tells something
  pub told_from : (xs : List X) (n : ℕ) → In n (map number (filter_map f xs)) → (x : X) × In x xs × (n ≡ key x) × (y : Y) × (f x ≡ Some y)
  told_from [] n i = absurd i
  told_from (x ∷ xs) n i = by (f x) refl i (told_from xs n)
    where
      by : (o : Option Y) → f x ≡ o → In n (map number (cons_option o (filter_map f xs))) → (In n (map number (filter_map f xs)) → (z : X) × In z xs × (n ≡ key z) × (y : Y) × (f z ≡ Some y)) → (z : X) × In z (x ∷ xs) × (n ≡ key z) × (y : Y) × (f z ≡ Some y)
      by None e i rest = let r = rest i in (r.0, inr r.1, r.2, r.3, r.4)
      by (Some y) e (inl same) rest = (x, inl refl, same ∙ keeps x y e, y, e)
      by (Some y) e (inr i) rest = let r = rest i in (r.0, inr r.1, r.2, r.3, r.4)

  pub told_once : (xs : List X) → are_new [] (map key xs) ≡ true → are_new [] (map number (filter_map f xs)) ≡ true
  told_once [] new = refl
  told_once (x ∷ xs) new =
      let first = are_new-first (key x) (map key xs) new in
      by (f x) refl (told_once xs first.1) first.0
    where
      by : (o : Option Y) → f x ≡ o → are_new [] (map number (filter_map f xs)) ≡ true → (In (key x) (map key xs) → ⊥) → are_new [] (map number (cons_option o (filter_map f xs))) ≡ true
      by None e rest out = rest
      by (Some y) e rest out =
          new_beside (number y ∷ []) (map number (filter_map f xs)) rest
          (λ n i j. elim j [
            | inl same ↦
                let r = told_from xs n i in
                out (subst (λ m. In m (map key xs)) (sym r.2 ∙ same ∙ keeps x y e) (In-map key r.0 xs r.1))
            | inr none ↦ none
          ])

-- ---- what tells something

row_told : (b : Bundle) (n : ℕ) (gone : Bool) (name : List ℕ) (size : ℕ) (guarded : Bool) (o : Option Row) (y : RawFile) → option_map (told_row b n gone name size guarded) o ≡ Some y → y.ino ≡ n
row_told b n gone name size guarded None y e = absurd cc
row_told b n gone name size guarded (Some r) y e = let same : told_row b n gone name size guarded r ≡ y = cc in sym (ap (λ (f : RawFile). f.ino) same)

unless : (t : Bool) (o : Option RawFile) (y : RawFile) → cond t None o ≡ Some y → (t ≡ false) × (o ≡ Some y)
unless true o y e = absurd cc
unless false o y e = (refl, e)

entry_told : (c : Case) (l : Listing) (notes : Notes) (e : ListedEntry) (y : RawFile) → told_entry c l notes e ≡ Some y → y.ino ≡ e.ino
entry_told c l notes e y h =
    row_told c.bundle e.ino false (entry_name c e) (entry_size c notes e) (entry_guard c notes e) (row_after l c.rows e.ino) y
    (unless (is_untold c notes e) (option_map (told_row c.bundle e.ino false (entry_name c e) (entry_size c notes e) (entry_guard c notes e)) (row_after l c.rows e.ino)) y h).1

written_told : (c : Case) (l : Listing) (notes : Notes) (w : Written) (y : RawFile) → told_written c l notes w ≡ Some y → (is_listed l w.ino ≡ false) × (y.ino ≡ w.ino)
written_told c l notes w y h =
    let u = unless (is_listed l w.ino) (option_map (told_row c.bundle w.ino false (noted_name notes w.ino) (size_in w.body) (guard_in w.body)) (row_after l c.rows w.ino)) y h in
    (u.0, row_told c.bundle w.ino false (noted_name notes w.ino) (size_in w.body) (guard_in w.body) (row_after l c.rows w.ino) y u.1)

gone_told : (c : Case) (l : Listing) (notes : Notes) (n : ℕ) (y : RawFile) → told_gone c l notes n ≡ Some y → (is_listed l n ≡ false) × (y.ino ≡ n)
gone_told c l notes n y h =
    let u = unless (is_listed l n) (option_map (told_row c.bundle n true (noted_name notes n) (noted_size notes n) (noted_guard notes n)) (row_in c.rows n)) y h in
    (u.0, row_told c.bundle n true (noted_name notes n) (noted_size notes n) (noted_guard notes n) (row_in c.rows n) y u.1)

same_told : (c : Case) (notes : Notes) (n : ℕ) (y : RawFile) → told_same c notes n ≡ Some y → y.ino ≡ n
same_told c notes n y h = row_told c.bundle n false (noted_name notes n) (noted_size notes n) (noted_guard notes n) (row_in c.rows n) y h

listed_in : (l : Listing) (n : ℕ) → In n (map (λ (e : ListedEntry). e.ino) l.entries) → is_listed l n ≡ true
listed_in l n i =
    let r = map-In (λ (e : ListedEntry). e.ino) n l.entries i in
    In-list_any (λ (e : ListedEntry). eqb e.ino n) r.0 l.entries r.1 (same r.0.ino (sym r.2))
  where
    same : (m : ℕ) → m ≡ n → eqb m n ≡ true
    same m e = grind (arith, nat_tests, e)

pub itself : (ns : List ℕ) → map (λ n. n) ns ≡ ns
itself [] = refl
itself (n ∷ ns) = ap (λ l. n ∷ l) (itself ns)

module _ (k : CaseShown) (rows : List (Option Row)) (l : Listing) (notes : Notes) where
  abbrev entries : List RawFile
  entries = filter_map (told_entry (whole_case k rows) l notes) l.entries

  abbrev written : List RawFile
  written = filter_map (told_written (whole_case k rows) l notes) (bundle_in k.bundle).writes

  abbrev gone : List RawFile
  gone = filter_map (told_gone (whole_case k rows) l notes) l.held

  abbrev numbers : List RawFile → List ℕ
  numbers fs = map (λ (f : RawFile). f.ino) fs

  from_entries : (n : ℕ) → In n (numbers entries) → is_listed l n ≡ true
  from_entries n i =
      let r = told_from (λ (e : ListedEntry). e.ino) (λ (f : RawFile). f.ino) (told_entry (whole_case k rows) l notes) (entry_told (whole_case k rows) l notes) l.entries n i in
      listed_in l n (subst (λ m. In m (map (λ (e : ListedEntry). e.ino) l.entries)) (sym r.2) (In-map (λ (e : ListedEntry). e.ino) r.0 l.entries r.1))

  from_written : (n : ℕ) → In n (numbers written) → (is_listed l n ≡ false) × In n (map (λ (w : Written). w.ino) (bundle_in k.bundle).writes)
  from_written n i =
      let r = told_from (λ (w : Written). w.ino) (λ (f : RawFile). f.ino) (told_written (whole_case k rows) l notes) (λ w y h. (written_told (whole_case k rows) l notes w y h).1) (bundle_in k.bundle).writes n i in (
        ap (is_listed l) r.2 ∙ (written_told (whole_case k rows) l notes r.0 r.3 r.4).0,
        subst (λ m. In m (map (λ (w : Written). w.ino) (bundle_in k.bundle).writes)) (sym r.2) (In-map (λ (w : Written). w.ino) r.0 (bundle_in k.bundle).writes r.1),
      )

  from_gone : (n : ℕ) → In n (numbers gone) → (is_listed l n ≡ false) × In n l.held
  from_gone n i =
      let r = told_from (λ m. m) (λ (f : RawFile). f.ino) (told_gone (whole_case k rows) l notes) (λ m y h. (gone_told (whole_case k rows) l notes m y h).1) l.held n i in
      (ap (is_listed l) r.2 ∙ (gone_told (whole_case k rows) l notes r.0 r.3 r.4).0, subst (λ m. In m l.held) (sym r.2) r.1)

  -- of a release that is accepted
  pub accepted_once : AreListedOnce k l → are_new [] (map (λ (f : RawFile). f.ino) ((entries ++ written) ++ gone)) ≡ true
  accepted_once once =
      let lent = new_parts (map (λ (f : LentFile). f.stands.ino) k.bundle.writes) (map (λ (h : HoldParts). h.ino) k.bundle.holds) once.lent in
      let e1 = told_once (λ (e : ListedEntry). e.ino) (λ (f : RawFile). f.ino) (told_entry (whole_case k rows) l notes) (entry_told (whole_case k rows) l notes) l.entries once.entries in
      let w1 = told_once (λ (w : Written). w.ino) (λ (f : RawFile). f.ino) (told_written (whole_case k rows) l notes) (λ w y h. (written_told (whole_case k rows) l notes w y h).1) (bundle_in k.bundle).writes (ap (are_new []) (writes_of k) ∙ lent.0) in
      let g1 = told_once (λ m. m) (λ (f : RawFile). f.ino) (told_gone (whole_case k rows) l notes) (λ m y h. (gone_told (whole_case k rows) l notes m y h).1) l.held (ap (are_new []) (itself l.held) ∙ once.held) in
      let ew = new_joined (numbers entries) (numbers written) e1 w1 (λ n i j. false≢true (sym (from_written n j).0 ∙ from_entries n i)) in
      let all = new_joined (numbers entries ++ numbers written) (numbers gone) ew g1
      (λ n i j. elim (In-cases n (numbers entries) (numbers written) i) [
        | inl a ↦ false≢true (sym (from_gone n j).0 ∙ from_entries n a)
        | inr b ↦ lent.2 n (subst (λ ns. In n ns) (writes_of k) (from_written n b).1) (once.holds n (from_gone n j).1)
      ]) in
      ap (are_new []) (map-append (λ (f : RawFile). f.ino) (entries ++ written) gone ∙ ap (λ ns. ns ++ numbers gone) (map-append (λ (f : RawFile). f.ino) entries written)) ∙ all

-- and of one that is refused
pub refused_once : (k : CaseShown) (rows : List (Option Row)) (notes : Notes) → lent_once k ≡ true → are_new [] (map (λ (f : RawFile). f.ino) (filter_map (told_same (whole_case k rows) notes) (map (λ (w : Written). w.ino) (bundle_in k.bundle).writes ++ (bundle_in k.bundle).holds))) ≡ true
refused_once k rows notes once =
    let lent = map (λ (w : Written). w.ino) (bundle_in k.bundle).writes ++ (bundle_in k.bundle).holds in
    told_once (λ m. m) (λ (f : RawFile). f.ino) (told_same (whole_case k rows) notes) (same_told (whole_case k rows) notes) lent
    (ap (are_new []) (itself lent ∙ ap (λ ns. ns ++ (bundle_in k.bundle).holds) (writes_of k)) ∙ once)
