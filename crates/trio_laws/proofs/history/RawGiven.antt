-- Which files of a release were given, and which grants end with it.
use Rattle.trio_laws.proofs.Words.{◌&&◌, ◌||◌, ◌∙◌, ◌∷◌, ◌≡◌, ◌⊎◌, Bool, Bundle, GivenTo, Handed, Image, In, In-list_any, Kept, List, None, OpenGrant, Option, RawFile, Row, Some, Standing, State, Written, [], and_from, and_parts, ap, arith, bundle_handed, bytes_eq, cond, cons_option, count_up, eq-eqb, eqb, eqb-true, false, filter-map, filter-same, filter_map, find-In, grants_after, inl, inr, is_among, is_among-In, is_given, is_handed, is_hold, is_in_bundle, is_read, is_told, is_write, is_written, lent_part, list_any, list_any-In, list_any-map, met_numbered, name_by, not, or_cases, or_left, or_right, plain, raw_file, raw_files, refl, row_at, settled, some_of, standing_of, sym, told_by, told_file, true, ℕ}
use Rattle.std.proofs.Common.{map, is_some, filter, find}
use Rattle.trio_lists.proofs.Counting.{count_in}
use Rattle.trio_laws.proofs.StateFacts.{alone, write_alone}
use Rattle.trio_laws.proofs.history.Extends.{standing_lent}
use Rattle.trio_laws.proofs.history.Listing.{met_at}
use Rattle.trio_laws.proofs.history.RawParts.{raw_number}

pub bool_same : (a b : Bool) → (a ≡ true → b ≡ true) → (b ≡ true → a ≡ true) → a ≡ b
bool_same a b f g = search arith

files_step : (rf : ℕ → Option RawFile) (x : ℕ) (o : Option RawFile) (rest : List RawFile) (f : RawFile) → rf x ≡ o → In f (cons_option o rest) → (rf x ≡ Some f) ⊎ In f rest
files_step rf x o rest f e h = search arith

pub files_from : (rf : ℕ → Option RawFile) (xs : List ℕ) (f : RawFile) → In f (filter_map rf xs) → (m : ℕ) × (rf m ≡ Some f)
files_from rf [] f i = absurd i
files_from rf (x ∷ xs) f i =
    elim (files_step rf x (rf x) (filter_map rf xs) f refl i) [
      | inl e ↦ (x, e)
      | inr j ↦ files_from rf xs f j
    ]

cons_first : (o : Option RawFile) (rest : List RawFile) (f : RawFile) → o ≡ Some f → In f (cons_option o rest)
cons_first None rest f e = absurd cc
cons_first (Some g) rest f e = (let s : g ≡ f = cc e in inl (sym s))

cons_rest : (o : Option RawFile) (rest : List RawFile) (f : RawFile) → In f rest → In f (cons_option o rest)
cons_rest None rest f i = i
cons_rest (Some g) rest f i = inr i

pub files_has : (rf : ℕ → Option RawFile) (xs : List ℕ) (m : ℕ) (f : RawFile) → In m xs → rf m ≡ Some f → In f (filter_map rf xs)
files_has rf [] m f i e = absurd i
files_has rf (x ∷ xs) m f (inl s) e = cons_first (rf x) (filter_map rf xs) f (ap rf (sym s) ∙ e)
files_has rf (x ∷ xs) m f (inr i) e = cons_rest (rf x) (filter_map rf xs) f (files_has rf xs m f i e)

-- ---- what is given

abbrev pub is_in : Bundle → ℕ → Bool
is_in b n = is_written b n || is_among n b.holds

given_by : (before after : Image) (b : Bundle) (n : ℕ) (was is : Option Row) (f : RawFile) → told_by before after b n was is ≡ Some f → f.given ≡ is_in b n
given_by before after b n was is f e = search arith

given_step : (before after : Image) (b : Bundle) (n : ℕ) (t : Bool) (f : RawFile) → cond t (told_by before after b n (row_at before n) (row_at after n)) None ≡ Some f → f.given ≡ is_in b n
given_step before after b n true f e = given_by before after b n (row_at before n) (row_at after n) f e
given_step before after b n false f e = absurd cc

told_live : (before after : Image) (b : Bundle) (n : ℕ) (r : Row) (is : Option Row) → (f : RawFile) × (told_by before after b n (Some r) is ≡ Some f)
told_live before after b n r None = (told_file before b n true r, refl)
told_live before after b n r (Some q) = (told_file after b n false q, refl)

-- a file that is given is told, where it is live
file_told : (before after : Image) (b : Bundle) (n : ℕ) (r : Row) → row_at before n ≡ Some r → is_in b n ≡ true → (f : RawFile) × (raw_file before after b n ≡ Some f)
file_told before after b n r row given =
    let q = told_live before after b n r (row_at after n) in
    let told : is_told before after b n ≡ true = or_left (is_in b n) (is_some (row_at after n) && not (bytes_eq (name_by before n (row_at before n)) (name_by after n (row_at after n)))) given in
    (q.0, ap (λ x. cond x (told_by before after b n (row_at before n) (row_at after n)) None) told ∙ ap (λ o. told_by before after b n o (row_at after n)) row ∙ q.1)

-- what the bundle has of a file is what is handed in of it
find_any : {X : Type 0} (p : X → Bool) (xs : List X) → is_some (find p xs) ≡ list_any p xs
find_any p [] = refl
find_any p (x ∷ xs) = step (p x) (find_any p xs)
  where
    step : (t : Bool) → is_some (find p xs) ≡ list_any p xs → is_some (cond t (Some x) (find p xs)) ≡ (t || list_any p xs)
    step true h = refl
    step false h = h

pub handed_is : (h : Handed) (n : ℕ) → is_handed h n ≡ is_in (bundle_handed h) n
handed_is h n = search (arith, list_any-map, find_any)

module _ (s : State) (k : Kept s) (lib : ℕ) (b : Bundle) (given : GivenTo s lib b) where
  -- the grant of a file that is given
  pub given_grant : (n : ℕ) → is_in b n ≡ true → (g : OpenGrant) × In g s.open_grants × (g.lib ≡ lib) × (g.ino ≡ n) × (is_read g.kind ≡ false)
  given_grant n t =
      elim (or_cases (is_written b n) (is_among n b.holds) t) [
        | inl wr ↦
            let w = some_of (find (λ (w : Written). eqb w.ino n) b.writes) wr in
            let f = find-In (λ (w : Written). eqb w.ino n) b.writes w.0 w.1 in
            let l = given.writes w.0 f.0 in
            (l.grant, l.is_open, l.lib, l.ino ∙ eqb-true w.0.ino n f.1, ap is_read l.kind)
        | inr held ↦
            let l = given.holds n (is_among-In n b.holds held) in
            (l.grant, l.is_open, l.lib, l.ino, ap is_read l.kind)
      ]

  pub given_row : (n : ℕ) → is_in b n ≡ true → (r : Row) × (row_at s.home n ≡ Some r)
  given_row n t =
      let g = given_grant n t in
      some_of (row_at s.home n) (ap (λ m. is_some (row_at s.home m)) (sym g.3) ∙ k.live g.0 g.1)

  module _ (after : Image) where
    pub given_is : (n : ℕ) → is_given (raw_files (settled s) after b) n ≡ is_in b n
    given_is n = bool_same (is_given (raw_files (settled s) after b) n) (is_in b n) there back
      where
        there : is_given (raw_files (settled s) after b) n ≡ true → is_in b n ≡ true
        there t = search (arith, list_any-In, and_parts, files_from, raw_number, eqb-true, given_step)

        back : is_in b n ≡ true → is_given (raw_files (settled s) after b) n ≡ true
        back t =
            let r = given_row n t in
            let f = file_told (settled s) after b n r.0 r.1 t in
            let m = met_at (settled s) k.fit k.verifies n r.0 r.1 in
            let q = met_numbered (settled s).core plain k.fit k.verifies.sound m.met m.stands in
            let low = q.0 in
            let high = q.1 in
            let e = m.number in
            let i = files_has (raw_file (settled s) after b) (count_up 1 s.home.core.inodes) n f.0 (count_in 1 s.home.core.inodes n (omega (arith, low, e)) (omega (arith, high, e))) f.1 in
            In-list_any (λ (f : RawFile). eqb f.ino n && f.given) f.0 (raw_files (settled s) after b) i
            (and_from (eqb f.0.ino n) f.0.given (eq-eqb f.0.ino n (raw_number (settled s) after b n f.0 f.1)) (given_step (settled s) after b n (is_told (settled s) after b n) f.0 f.1 ∙ t))

    -- the library's grants that end are those on the files that are given
    ends_on : (g : OpenGrant) → In g s.open_grants → is_in_bundle lib b g ≡ (eqb g.lib lib && is_given (raw_files (settled s) after b) g.ino)
    ends_on g i =
        bool_same (is_in_bundle lib b g) (eqb g.lib lib && is_given (raw_files (settled s) after b) g.ino)
        (λ t.
        let p = and_parts (eqb g.lib lib) ((is_write g.kind && is_written b g.ino) || (is_hold g.kind && is_among g.ino b.holds)) t in
        and_from (eqb g.lib lib) (is_given (raw_files (settled s) after b) g.ino) p.0
        (given_is g.ino
        ∙ elim (or_cases (is_write g.kind && is_written b g.ino) (is_hold g.kind && is_among g.ino b.holds) p.1) [
          | inl w ↦ or_left (is_written b g.ino) (is_among g.ino b.holds) (and_parts (is_write g.kind) (is_written b g.ino) w).1
          | inr h ↦ or_right (is_written b g.ino) (is_among g.ino b.holds) (and_parts (is_hold g.kind) (is_among g.ino b.holds) h).1
        ]))
        (λ t.
        let p = and_parts (eqb g.lib lib) (is_given (raw_files (settled s) after b) g.ino) t in
        and_from (eqb g.lib lib) ((is_write g.kind && is_written b g.ino) || (is_hold g.kind && is_among g.ino b.holds)) p.0
        (elim (or_cases (is_written b g.ino) (is_among g.ino b.holds) (sym (given_is g.ino) ∙ p.1)) [
          | inl wr ↦
              let w = some_of (find (λ (w : Written). eqb w.ino g.ino) b.writes) wr in
              let f = find-In (λ (w : Written). eqb w.ino g.ino) b.writes w.0 w.1 in
              let l = given.writes w.0 f.0 in
              let one : l.grant ≡ g = write_alone s.open_grants l.grant g k.apart l.is_open i l.kind (l.ino ∙ eqb-true w.0.ino g.ino f.1) in
              or_left (is_write g.kind && is_written b g.ino) (is_hold g.kind && is_among g.ino b.holds)
              (and_from (is_write g.kind) (is_written b g.ino) (ap (λ (x : OpenGrant). is_write x.kind) (sym one) ∙ ap is_write l.kind) wr)
          | inr held ↦
              let l = given.holds g.ino (is_among-In g.ino b.holds held) in
              let one : l.grant ≡ g = alone s.open_grants l.grant g k.apart l.is_open i (ap is_read l.kind) l.ino in
              or_right (is_write g.kind && is_written b g.ino) (is_hold g.kind && is_among g.ino b.holds)
              (and_from (is_hold g.kind) (is_among g.ino b.holds) (ap (λ (x : OpenGrant). is_hold x.kind) (sym one) ∙ ap is_hold l.kind) held)
        ]))

    pub grants_end : (s' : State) → map lent_part s'.open_grants ≡ map lent_part (grants_after s lib b) → map standing_of s'.open_grants ≡ filter (λ (g : Standing). not (eqb g.lib lib && is_given (raw_files (settled s) after b) g.ino)) (map standing_of s.open_grants)
    grants_end s' e = search (arith, standing_lent, filter-same, ends_on, filter-map)
