-- What the checkpoints of directories have once the bodies of children are in them.
use Rattle.trio_ctl.proofs.Words.{if◌then◌else◌, ◌++◌, ◌==◌, ◌∙◌, ◌∷◌, ◌≡◌, Bool, Checkpointed, In, List, Met, None, Option, Sheet, Some, [], ap, arith, cases_eq, checkpoint_at, cond, eq-eqb, false, false≢true, filter, filter_map, get_or-set_other, inl, inr, length, map, ne_eqb, option_map, put_on, refl, sheet_numbers, slice_get, slice_set, subst, suc, sym, true, with_body_in, with_children, with_pages, zero, ℕ}
use Rattle.std.specs.List.{cons_option}
use Rattle.trio_surveys.proofs.SheetLaws.{get-set_same}
use Rattle.trio_surveys.proofs.Sheets.{with_pages_cong}
use Rattle.trio_checkpoint.specs.Covered.{renewed}
use Rattle.trio_commit.specs.Bodies.{with_child}
use Rattle.trio_ctl.proofs.StoredFacts.{Checkpoints}

-- ---- the bodies of the files that one directory lists

-- those of these files that this directory lists
abbrev pub listed_by : ℕ → List Met → List Met
listed_by n ms = filter (λ m. m.parent == n) ms

-- a page with their bodies
abbrev pub with_own : ℕ → List Met → Sheet → Sheet
with_own n ms x = record { page = x.page; bytes = put_on x.page (listed_by n ms) x.bytes }

-- the checkpoint of the directory with them
abbrev pub with_own_blocks : ℕ → List Met → Checkpointed → Checkpointed
with_own_blocks n ms c = record { ino = c.ino; body = c.body; chain = c.chain; index = c.index; blocks = map (with_own n ms) c.blocks }

none_own : (n : ℕ) (xs : List Sheet) → xs ≡ map (with_own n []) xs
none_own n [] = refl
none_own n (x ∷ xs) = ap (λ l. x ∷ l) (none_own n xs)

other_own : (n : ℕ) (m : Met) (ms : List Met) → (m.parent == n) ≡ false → listed_by n (m ∷ ms) ≡ listed_by n ms
other_own n m ms e = ap (λ b. if b then m ∷ listed_by n ms else listed_by n ms) e

first_own : (n : ℕ) (m : Met) (ms : List Met) → (m.parent == n) ≡ true → listed_by n (m ∷ ms) ≡ m ∷ listed_by n ms
first_own n m ms e = ap (λ b. if b then m ∷ listed_by n ms else listed_by n ms) e

renewed_one : (n : ℕ) (m : Met) (ms : List Met) (x : Sheet) → (m.parent == n) ≡ true → with_own n ms (renewed m.page m.slot m.body x) ≡ with_own n (m ∷ ms) x
renewed_one n m ms x e =
    elim (cases_eq x.page m.page) [
      | inl same ↦
          let on : (x.page == m.page) ≡ true = eq-eqb x.page m.page same in
          let back : (m.page == x.page) ≡ true = eq-eqb m.page x.page (sym same) in
          ap (λ (b : Bool). with_own n ms (if b then record { page = x.page; bytes = with_body_in m.slot m.body x.bytes } else x)) on
          ∙ ap (λ (b : Bool). record { page = x.page; bytes = put_on x.page (listed_by n ms) (cond b (with_body_in m.slot m.body x.bytes) x.bytes) }) (sym back)
          ∙ ap (λ l. record { page = x.page; bytes = put_on x.page l x.bytes }) (sym (first_own n m ms e))
      | inr apart ↦
          let on : (x.page == m.page) ≡ false = ne_eqb x.page m.page apart in
          let back : (m.page == x.page) ≡ false = ne_eqb m.page x.page (λ s. apart (sym s)) in
          ap (λ (b : Bool). with_own n ms (if b then record { page = x.page; bytes = with_body_in m.slot m.body x.bytes } else x)) on
          ∙ ap (λ (b : Bool). record { page = x.page; bytes = put_on x.page (listed_by n ms) (cond b (with_body_in m.slot m.body x.bytes) x.bytes) }) (sym back)
          ∙ ap (λ l. record { page = x.page; bytes = put_on x.page l x.bytes }) (sym (first_own n m ms e))
    ]

renewed_all : (n : ℕ) (m : Met) (ms : List Met) (xs : List Sheet) → (m.parent == n) ≡ true → map (with_own n ms) (map (renewed m.page m.slot m.body) xs) ≡ map (with_own n (m ∷ ms)) xs
renewed_all n m ms [] e = refl
renewed_all n m ms (x ∷ xs) e =
    ap (λ y. y ∷ map (with_own n ms) (map (renewed m.page m.slot m.body) xs)) (renewed_one n m ms x e)
    ∙ ap (λ l. with_own n (m ∷ ms) x ∷ l) (renewed_all n m ms xs e)

no_child : (n : ℕ) (o : Option Checkpointed) → o ≡ option_map (with_own_blocks n []) o
no_child n None = refl
no_child n (Some c) = ap (λ xs. Some (record { ino = c.ino; body = c.body; chain = c.chain; index = c.index; blocks = xs })) (none_own n c.blocks)

own_child : (n : ℕ) (m : Met) (ms : List Met) (o : Option Checkpointed) → (m.parent == n) ≡ true → option_map (with_own_blocks n ms) (option_map (with_child m) o) ≡ option_map (with_own_blocks n (m ∷ ms)) o
own_child n m ms None e = refl
own_child n m ms (Some c) e = ap (λ xs. Some (record { ino = c.ino; body = c.body; chain = c.chain; index = c.index; blocks = xs })) (renewed_all n m ms c.blocks e)

other_child : (n : ℕ) (m : Met) (ms : List Met) (o : Option Checkpointed) → (m.parent == n) ≡ false → option_map (with_own_blocks n ms) o ≡ option_map (with_own_blocks n (m ∷ ms)) o
other_child n m ms None e = refl
other_child n m ms (Some c) e =
    ap (λ l. Some (record { ino = c.ino; body = c.body; chain = c.chain; index = c.index; blocks = map (λ (x : Sheet). record { page = x.page; bytes = put_on x.page l x.bytes }) c.blocks })) (sym (other_own n m ms e))

set_child : (f : Checkpointed → Checkpointed) (cs : Checkpoints) (n : ℕ) → checkpoint_at (slice_set cs n (option_map f (checkpoint_at cs n))) n ≡ option_map f (checkpoint_at cs n)
set_child f [] n = refl
set_child f (c ∷ cs) zero = refl
set_child f (c ∷ cs) (suc n) = set_child f cs n

-- each checkpoint has the bodies of those that its directory lists
pub children_at : (ms : List Met) (cs : Checkpoints) (n : ℕ) → checkpoint_at (with_children ms cs) n ≡ option_map (with_own_blocks n ms) (checkpoint_at cs n)
children_at [] cs n = no_child n (checkpoint_at cs n)
children_at (m ∷ ms) cs n =
    let then' : Checkpoints = slice_set cs m.parent (option_map (with_child m) (checkpoint_at cs m.parent)) in
    children_at ms then' n
    ∙ elim (cases_eq m.parent n) [
      | inl same ↦
          ap (λ (k : ℕ). option_map (with_own_blocks n ms) (checkpoint_at (slice_set cs k (option_map (with_child m) (checkpoint_at cs k))) n)) same
          ∙ ap (option_map (with_own_blocks n ms)) (set_child (with_child m) cs n)
          ∙ own_child n m ms (checkpoint_at cs n) (eq-eqb m.parent n same)
      | inr apart ↦
          ap (option_map (with_own_blocks n ms)) (get_or-set_other cs m.parent n (option_map (with_child m) (checkpoint_at cs m.parent)) None (λ s. apart (sym s)))
          ∙ other_child n m ms (checkpoint_at cs n) (ne_eqb m.parent n apart)
    ]

pub length-children : (ms : List Met) (cs : Checkpoints) → length (with_children ms cs) ≡ length cs
length-children [] cs = refl
length-children (m ∷ ms) cs =
    length-children ms (slice_set cs m.parent (option_map (with_child m) (checkpoint_at cs m.parent)))
    ∙ set_length cs m.parent (option_map (with_child m) (checkpoint_at cs m.parent))
  where
    set_length : (xs : Checkpoints) (k : ℕ) (x : Option Checkpointed) → length (slice_set xs k x) ≡ length xs
    set_length [] k x = refl
    set_length (y ∷ xs) zero x = refl
    set_length (y ∷ xs) (suc k) x = ap suc (set_length xs k x)

pub own_numbers : (n : ℕ) (ms : List Met) (xs : List Sheet) → sheet_numbers (map (with_own n ms) xs) ≡ sheet_numbers xs
own_numbers n ms [] = refl
own_numbers n ms (x ∷ xs) = ap (λ l. x.page ∷ l) (own_numbers n ms xs)

-- ---- lists

pub In-filter_map : {X Y : Type 0} (f : X → Option Y) (x : X) (y : Y) (xs : List X) → In x xs → f x ≡ Some y → In y (filter_map f xs)
In-filter_map {Y = Y} f x y (z ∷ zs) (inl here) e =
    let first : f z ≡ Some y = ap f (sym here) ∙ e in
    subst (λ o. In y (cons_option o (filter_map f zs))) (sym first) (inl refl)
In-filter_map {Y = Y} f x y (z ∷ zs) (inr later) e = by (f z) (In-filter_map f x y zs later e)
  where
    by : (o : Option Y) → In y (filter_map f zs) → In y (cons_option o (filter_map f zs))
    by None i = i
    by (Some w) i = inr i
In-filter_map f x y [] i e = absurd i

pub filter_map-In : {X Y : Type 0} (f : X → Option Y) (y : Y) (xs : List X) → In y (filter_map f xs) → (x : X) × In x xs × (f x ≡ Some y)
filter_map-In f y [] i = absurd i
filter_map-In {X = X} {Y = Y} f y (x ∷ xs) i = by (f x) refl (filter_map-In f y xs) i
  where
    by : (o : Option Y) → f x ≡ o → (In y (filter_map f xs) → (z : X) × In z xs × (f z ≡ Some y)) → In y (cons_option o (filter_map f xs)) → (z : X) × In z (x ∷ xs) × (f z ≡ Some y)
    by None e again j = (let r = again j in (r.0, inr r.1, r.2))
    by (Some z) e again (inl here) = (x, inl refl, e ∙ ap Some (sym here))
    by (Some z) e again (inr later) = (let r = again later in (r.0, inr r.1, r.2))

pub put_on-append : (p : ℕ) (ms ks : List Met) (bytes : List ℕ) → put_on p (ms ++ ks) bytes ≡ put_on p ks (put_on p ms bytes)
put_on-append p [] ks bytes = refl
put_on-append p (m ∷ ms) ks bytes = put_on-append p ms ks (cond (m.page == p) (with_body_in m.slot m.body bytes) bytes)

-- the files of a page alone count there
pub put_on-filter : (p : ℕ) (q : Met → Bool) (ms : List Met) (bytes : List ℕ) → ((m : Met) → In m ms → m.page ≡ p → q m ≡ true) → put_on p (filter q ms) bytes ≡ put_on p ms bytes
put_on-filter p q [] bytes h = refl
put_on-filter p q (m ∷ ms) bytes h =
    by (q m) refl (λ bs. put_on-filter p q ms bs (λ x i. h x (inr i)))
  where
    by : (t : Bool) → q m ≡ t → ((bs : List ℕ) → put_on p (filter q ms) bs ≡ put_on p ms bs) → put_on p (cond t (m ∷ filter q ms) (filter q ms)) bytes ≡ put_on p (m ∷ ms) bytes
    by true e again = again (cond (m.page == p) (with_body_in m.slot m.body bytes) bytes)
    by false e again =
        let off : (m.page == p) ≡ false = ne_eqb m.page p (λ on. false≢true (sym e ∙ h m (inl refl) on)) in
        again bytes ∙ ap (λ b. put_on p ms (cond b (with_body_in m.slot m.body bytes) bytes)) (sym off)

-- what stands where a page is put doesn't matter
pub put_over_any : (xs : List Sheet) (a b : List (Option (List ℕ))) (p : ℕ) → length a ≡ length b → In p (sheet_numbers xs) → slice_get (with_pages xs a) p ≡ slice_get (with_pages xs b) p
put_over_any [] a b p same i = absurd i
put_over_any (x ∷ xs) a b p same (inl here) =
    with_pages_cong xs (slice_set a x.page (Some x.bytes)) (slice_set b x.page (Some x.bytes)) p
    (ap (slice_get (slice_set a x.page (Some x.bytes))) here
    ∙ get-set_same a x.page (Some x.bytes)
    ∙ there a b x.page same
    ∙ sym (get-set_same b x.page (Some x.bytes))
    ∙ ap (slice_get (slice_set b x.page (Some x.bytes))) (sym here))
  where
    there : (us vs : List (Option (List ℕ))) (n : ℕ) → length us ≡ length vs → option_map (λ _. Some x.bytes) (slice_get us n) ≡ option_map (λ _. Some x.bytes) (slice_get vs n)
    there [] [] n e = refl
    there [] (v ∷ vs) n e = absurd (omega (arith, e))
    there (u ∷ us) [] n e = absurd (omega (arith, e))
    there (u ∷ us) (v ∷ vs) zero e = refl
    there (u ∷ us) (v ∷ vs) (suc n) e = there us vs n (omega (arith, e))
put_over_any (x ∷ xs) a b p same (inr later) =
    put_over_any xs (slice_set a x.page (Some x.bytes)) (slice_set b x.page (Some x.bytes)) p (set_length a x.page (Some x.bytes) ∙ same ∙ sym (set_length b x.page (Some x.bytes))) later
  where
    set_length : (us : List (Option (List ℕ))) (n : ℕ) (o : Option (List ℕ)) → length (slice_set us n o) ≡ length us
    set_length [] n o = refl
    set_length (u ∷ us) zero o = refl
    set_length (u ∷ us) (suc n) o = ap suc (set_length us n o)
